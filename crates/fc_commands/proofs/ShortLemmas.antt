-- `delete` is refused for want of space as what it wants is.
use Rattle.std.proofs.Common.{◌≡◌, ℕ, Bool, false, List, [], ◌∷◌, length, Option, Some, None, sym, ap, ap₂, ◌∙◌, arith}
use Rattle.std.proofs.lemmas.Bool.Decides.{nat_tests}
use Rattle.std.specs.Prelude.{nat_lt, ◌&&◌, is_none}
use Rattle.fc_names.specs.declared.refusal.Refusal.{Refusal}
use Rattle.fc_names.specs.declared.refusal.Refusal.TheVariants as refusals
use Rattle.fc_names.specs.Names.{Path}
use Rattle.fc_alloc.specs.declared.owner.Owner.{Owner}
use Rattle.fc_oldmap.specs.Holes.{first_fit_place, hole_limit, hole_sum}
use Rattle.fc_oldmap.specs.OldMap.{OldMapContent, IsOldMap}
use Rattle.fc_newmap.specs.Map.{Map, bits_in, hole_runs}
use Rattle.fc_model.specs.Answer.{first_of, when}
use Rattle.fc_model.specs.Command.{Command}
use Rattle.fc_image.specs.Layout.{Layout}
use Rattle.fc_image.specs.Objects.{object_at}
use Rattle.fc_image.specs.Opening.{Opened}
use Rattle.fc_image.specs.Walk.{Object}
use Rattle.fc_image.specs.effects.Sharing.{new_ids}
use Rattle.fc_image.specs.effects.Short.{holes_without, short, space_reasons, with_space_of}
use Rattle.fc_changes.specs.old.Owed.{holding}
use Rattle.fc_changes.proofs.lemmas.old.GrowthLemmas.{none_needed}
use Rattle.fc_tree.specs.Parts.{Parts}
use Rattle.fc_laws.specs.nodes.Edits.{Nodes}
use Rattle.fc_refusals.specs.declared.target.Target.{Target}
use Rattle.fc_change.specs.declared.job.Job.TheVariants as jobs
use Rattle.fc_change.specs.declared.job.Wants.{Wants}
use Rattle.fc_change.specs.Needs.{AreWants}
use Rattle.fc_change.specs.OldSpace.{map_given}
use Rattle.fc_change.specs.Shortage.{shortage}
use Rattle.fc_commands.proofs.EmptySpaceLemmas.{no_growth}

pub below_zero : (n : ℕ) → nat_lt n 0 ≡ false
below_zero n = grind (arith, nat_tests)

-- nothing but what goes is wanted
abbrev pub wants_none : ℕ → Wants
wants_none n = record { bytes = 0; shares = None; copied = None; goes = Some n; grows = None }

wants_are : (h : Parts) (t : Target) (name : List ℕ) (w : Wants) → AreWants h (jobs.Removal t) name w → w ≡ wants_none t.node
wants_are h t name w are = λ i. record { bytes = are.bytes i; shares = are.slack i; copied = are.copy i; goes = are.left i; grows = no_growth w.grows are.room i }

-- ---- on a new map

pub enough : (ids bits : ℕ) → first_of (when (nat_lt ids 0) refusals.IdsFull ∷ when (nat_lt bits 0) refusals.DiscFull ∷ []) ≡ None
enough ids bits = ap₂ (λ (a b : Bool). first_of (when a refusals.IdsFull ∷ when b refusals.DiscFull ∷ [])) (below_zero ids) (below_zero bits)

delete_takes_none : (v : Opened) (m : Map) (path : Path) → v.layout ≡ Layout.New m → short v (Command.Delete path) ≡ None
unfolding short
delete_takes_none v m path is = ap (λ (layout : Layout). first_of (space_reasons layout v (Command.Delete path))) is ∙ enough (length (new_ids m)) (bits_in (hole_runs m))

pub new_short : (m : Map) (nodes : Nodes) (owners : List Owner) (t : Target) (name : List ℕ) (w : Wants) (v : Opened) (path : Path)
    → AreWants (record { layout = Layout.New m; nodes = nodes; owners = owners }) (jobs.Removal t) name w → v.layout ≡ Layout.New m
    → short v (Command.Delete path) ≡ shortage (record { layout = Layout.New m; nodes = nodes; owners = owners }) w
new_short m nodes owners t name w v path are at =
    let h : Parts = record { layout = Layout.New m; nodes = nodes; owners = owners } in
    let none : shortage h (wants_none t.node) ≡ None = enough (length (new_ids m)) (bits_in (hole_runs m)) in
    delete_takes_none v m path at ∙ sym none ∙ sym (ap (shortage h) (wants_are h t name w are))

-- ---- on an old one

-- the refusal if so much is needed, and the map is this then
abbrev refused_with : OldMapContent → ℕ → ℕ → Option Refusal
refused_with space need count =
    first_of (when (nat_lt (hole_sum space.holes) need) refusals.DiscFull
    ∷ when (nat_lt 0 need && is_none (first_fit_place need space.holes)) refusals.CompactionRequired
    ∷ when (nat_lt hole_limit count) refusals.MapFull ∷ [])

delete_wants : (v : Opened) (space : OldMapContent) (path : Path) (o : Object) → v.layout ≡ Layout.Old space → IsOldMap space → object_at v.listings path ≡ Some o
    → short v (Command.Delete path) ≡ refused_with space 0 (length (with_space_of space (Some o) space.holes))
unfolding short
delete_wants v space path o at is there =
    ap (λ (layout : Layout). first_of (space_reasons layout v (Command.Delete path))) at
    ∙ ap (λ (n : ℕ). refused_with space n (length (with_space_of space (object_at v.listings path) (holes_without n space.holes)))) (none_needed space is.units)
    ∙ ap (λ (x : Option Object). refused_with space 0 (length (with_space_of space x space.holes))) there

pub old_short : (space : OldMapContent) (nodes : Nodes) (owners : List Owner) (t : Target) (name : List ℕ) (w : Wants) (v : Opened) (path : Path) (o : Object)
    → AreWants (record { layout = Layout.Old space; nodes = nodes; owners = owners }) (jobs.Removal t) name w → v.layout ≡ Layout.Old space → IsOldMap space → object_at v.listings path ≡ Some o
    → map_given space nodes (Some t.node) space ≡ holding space (with_space_of space (Some o) space.holes)
    → short v (Command.Delete path) ≡ shortage (record { layout = Layout.Old space; nodes = nodes; owners = owners }) w
old_short space nodes owners t name w v path o are at is there given =
    let h : Parts = record { layout = Layout.Old space; nodes = nodes; owners = owners } in
    delete_wants v space path o at is there
    ∙ ap (λ (m : OldMapContent). refused_with space 0 (length m.holes)) (sym given)
    ∙ sym (ap (λ (n : ℕ). refused_with space n (length (map_given space nodes (Some t.node) (holding space (holes_without n space.holes))).holes)) (none_needed space is.units))
    ∙ sym (ap (shortage h) (wants_are h t name w are))
