-- Commands that change nothing are never short of space.
use Rattle.std.proofs.Common.{◌≡◌, ◌≤◌, ℕ, ◌+◌, ◌*◌, ◌/◌, ◌%◌, ◌==◌, ◌&&◌, Bool, true, false, cond, min, List, [], ◌∷◌, length, nat_lt, is_none, refl, sym, ap, ap₂, subst, ◌∙◌, arith, Some, None, Option, Ok, Result}
use Rattle.std.specs.Int.{div_ceil}
use Rattle.std.specs.Option.{option_map}
use Rattle.std.proofs.Math.Nat.{zero-div, zero-mod}
use Rattle.std.proofs.lemmas.Bool.{leb-true, and_parts as both}
use Rattle.std.proofs.lemmas.Bool.Decides.{nat_tests}
use Rattle.std.proofs.lemmas.List.FromFn.{length-map-range_with_len}
use Rattle.fc_names.specs.declared.refusal.Refusal.{Refusal}
use Rattle.fc_names.specs.declared.refusal.Refusal.TheVariants as refusals
use Rattle.fc_record.specs.declared.Kind.{Kind}
use Rattle.fc_record.specs.declared.Kind.TheVariants.{Boot, OneZone, DiscD, DiscL}
use Rattle.fc_record.specs.Kinds.{old_units}
use Rattle.fc_oldmap.specs.Holes.{first_fit_place, hole_limit, hole_sum}
use Rattle.fc_oldmap.specs.OldMap.{OldMapContent, free_end, free_space, hole_fault, holes_of, is_free_end, map_units, stored_hole, stored_holes, wrong_hole}
use Rattle.fc_newmap.specs.Map.{bits_in, hole_runs}
use Rattle.fc_model.specs.Command.{Command}
use Rattle.fc_model.specs.Answer.{first_of, when}
use Rattle.fc_image.specs.declared.ImageFault.{ImageFault}
use Rattle.fc_image.specs.Layout.{Layout}
use Rattle.fc_image.specs.Opening.{MapAndRoot, Opened, holes_or, map_and_root}
use Rattle.fc_image.specs.Stays.{OpensAs}
use Rattle.fc_image.proofs.FreeLemmas.{parts_of}
use Rattle.fc_image.proofs.HolesLemmas.{found_map}
use Rattle.fc_image.specs.effects.Sharing.{new_ids}
use Rattle.fc_image.specs.effects.Short.{holes_without, needed_bits, needed_ids, old_need, short, space_reasons, with_space_of}
use Rattle.fc_script.specs.Texts.{refusal_line}
use Rattle.fc_runs.specs.ReadLaw.{is_reading}
use Rattle.fc_runs.specs.Run.{keeps_tree, layout_reason, shortage}
use Rattle.fc_runs.proofs.SafeShortageLemmas.{keeping_enough}
use Rattle.fc_image.proofs.OldMapLemmas.{old_same, not_old}
use Rattle.fc_commands.proofs.ShortLemmas.{below_zero as none_below}

-- ---- an old map has few holes

few_stored : (image : List ℕ) (units : ℕ) → hole_fault image units ≡ None → length (stored_holes image) ≤ hole_limit
unfolding holes_of
few_stored image units e = by (is_free_end (free_end image)) refl e
  where
    by : (b : Bool) → is_free_end (free_end image) ≡ b → cond b (wrong_hole (old_units image) units 0 (map_units units) (stored_holes image)) (Some (free_end image / 3)) ≡ None
        → length (stored_holes image) ≤ hole_limit
    by true right f =
        let most = leb-true (free_end image) 246 (both (free_end image % 3 == 0) _ right).1 in
        let long : length (stored_holes image) ≡ free_end image / 3 = length-map-range_with_len (stored_hole image) 0 (free_end image / 3) in
        omega (arith, most, long)
    by false right f = absurd (cc)

few_found : (image : List ℕ) (units root : ℕ) (found : MapAndRoot) (space : OldMapContent) (fault : Option ℕ) → hole_fault image units ≡ fault
    → holes_or (Layout.Old (free_space image units), root, 0) fault ≡ Ok found → found.0 ≡ Layout.Old space → length space.holes ≤ hole_limit
few_found image units root found space None right e is =
    subst (λ (s : OldMapContent). length s.holes ≤ hole_limit) (old_same (free_space image units) space (ap (λ (f : MapAndRoot). f.0) (ok_same (Layout.Old (free_space image units), root, 0) found e) ∙ is))
    (few_stored image units right)
  where
    ok_same : (x y : MapAndRoot) → (let r : Result MapAndRoot ImageFault = Ok x in r) ≡ Ok y → x ≡ y
    ok_same x y f = cc
few_found image units root found space (Some index) wrong e is = absurd (cc)

few_disc : (image : List ℕ) (kind : Kind) (found : MapAndRoot) (space : OldMapContent) → map_and_root image kind ≡ Ok found → found.0 ≡ Layout.Old space → length space.holes ≤ hole_limit
few_disc image (Boot r) found space e is =
    let f = found_map image (Boot r) r found refl e in absurd (not_old _ space (ap (λ (x : MapAndRoot). x.0) f.is ∙ is))
few_disc image (OneZone r) found space e is =
    let f = found_map image (OneZone r) r found refl e in absurd (not_old _ space (ap (λ (x : MapAndRoot). x.0) f.is ∙ is))
few_disc image DiscD found space e is = few_found image 4 4 found space (hole_fault image 4) refl e is
few_disc image (DiscL n) found space e is = few_found image 1 2 found space (hole_fault image 1) refl e is

pub few_holes : (image : List ℕ) (kind : Kind) (v : Opened) (space : OldMapContent) → OpensAs image kind v → v.layout ≡ Layout.Old space → length space.holes ≤ hole_limit
few_holes image kind v space opens is =
    let parts = parts_of image kind v opens.opened in
    few_disc image kind parts.0 space parts.1.1 (ap (λ (w : Opened). w.layout) parts.1.4 ∙ is)

-- ---- nothing is short

-- no bytes need no units
pub no_need : (space : OldMapContent) → old_need space 0 ≡ 0
no_need space =
    let none : div_ceil 0 (256 * space.sector_units) ≡ 0 = ap₂ (λ (a b : ℕ). a + min 1 b) (zero-div (256 * space.sector_units)) (zero-mod (256 * space.sector_units)) in
    ap (λ (n : ℕ). n * space.sector_units) none ∙ (let zero : 0 * space.sector_units ≡ 0 = omega arith in zero)

not_less : (n : ℕ) → n ≤ hole_limit → nat_lt hole_limit n ≡ false
not_less n few = grind (arith, nat_tests)

pub new_enough : (ids bits some need : ℕ) → some ≡ 0 → need ≡ 0 → first_of (when (nat_lt ids some) refusals.IdsFull ∷ when (nat_lt bits need) refusals.DiscFull ∷ []) ≡ None
new_enough ids bits some need none nought =
    let first : nat_lt ids some ≡ false = ap (nat_lt ids) none ∙ none_below ids in
    let second : nat_lt bits need ≡ false = ap (nat_lt bits) nought ∙ none_below bits in
    ap₂ (λ (a b : Bool). first_of (when a refusals.IdsFull ∷ when b refusals.DiscFull ∷ [])) first second

pub old_enough : (space : OldMapContent) (need : ℕ) → need ≡ 0 → length space.holes ≤ hole_limit
    → first_of (when (nat_lt (hole_sum space.holes) need) refusals.DiscFull
    ∷ when (nat_lt 0 need && is_none (first_fit_place need space.holes)) refusals.CompactionRequired
    ∷ when (nat_lt hole_limit (length (with_space_of space None (holes_without need space.holes)))) refusals.MapFull ∷ []) ≡ None
old_enough space need none few =
    subst (λ (n : ℕ). first_of (when (nat_lt (hole_sum space.holes) n) refusals.DiscFull
    ∷ when (nat_lt 0 n && is_none (first_fit_place n space.holes)) refusals.CompactionRequired
    ∷ when (nat_lt hole_limit (length (with_space_of space None (holes_without n space.holes)))) refusals.MapFull ∷ []) ≡ None) (sym none)
    (ap₂ (λ (a b : Bool). first_of (when a refusals.DiscFull ∷ when (false && is_none (first_fit_place 0 space.holes)) refusals.CompactionRequired ∷ when b refusals.MapFull ∷ [])) (none_below (hole_sum space.holes)) (not_less (length space.holes) few))

reason_none : (layout : Layout) (c : Command) → is_reading c ≡ true → layout_reason layout c ≡ None
reason_none (Layout.Old space) (Command.Cat path) reads = refl
reason_none (Layout.New m) (Command.Cat path) reads = refl
reason_none (Layout.Old space) (Command.Load path) reads = refl
reason_none (Layout.New m) (Command.Load path) reads = refl
reason_none (Layout.Old space) (Command.Digest path) reads = refl
reason_none (Layout.New m) (Command.Digest path) reads = refl
reason_none (Layout.Old space) Command.Free reads = refl
reason_none (Layout.New m) Command.Free reads = refl
reason_none (Layout.Old space) Command.Check reads = refl
reason_none (Layout.New m) Command.Check reads = refl
reason_none layout (Command.Save path load exec bytes) reads = absurd (cc)
reason_none layout (Command.Create path load exec len) reads = absurd (cc)
reason_none layout (Command.Cdir path) reads = absurd (cc)
reason_none layout (Command.Delete path) reads = absurd (cc)
reason_none layout (Command.Rename from to) reads = absurd (cc)
reason_none layout (Command.Set path load exec access) reads = absurd (cc)
reason_none layout (Command.Mark path attrs) reads = absurd (cc)
reason_none layout Command.Compact reads = absurd (cc)
reason_none layout Command.Reclaim reads = absurd (cc)

module _ (v : Opened) (few : (space : OldMapContent) → v.layout ≡ Layout.Old space → length space.holes ≤ hole_limit) where
  space_enough : (c : Command) (layout : Layout) → is_reading c ≡ true → v.layout ≡ layout → first_of (space_reasons layout v c) ≡ None
  space_enough (Command.Cat path) (Layout.New m) reads is = new_enough (length (new_ids m)) (bits_in (hole_runs m)) (needed_ids m v (Command.Cat path)) (needed_bits m v (Command.Cat path)) refl refl
  space_enough (Command.Cat path) (Layout.Old space) reads is = old_enough space (old_need space 0) (no_need space) (few space is)
  space_enough (Command.Load path) (Layout.New m) reads is = new_enough (length (new_ids m)) (bits_in (hole_runs m)) (needed_ids m v (Command.Load path)) (needed_bits m v (Command.Load path)) refl refl
  space_enough (Command.Load path) (Layout.Old space) reads is = old_enough space (old_need space 0) (no_need space) (few space is)
  space_enough (Command.Digest path) (Layout.New m) reads is = new_enough (length (new_ids m)) (bits_in (hole_runs m)) (needed_ids m v (Command.Digest path)) (needed_bits m v (Command.Digest path)) refl refl
  space_enough (Command.Digest path) (Layout.Old space) reads is = old_enough space (old_need space 0) (no_need space) (few space is)
  space_enough Command.Free (Layout.New m) reads is = new_enough (length (new_ids m)) (bits_in (hole_runs m)) (needed_ids m v Command.Free) (needed_bits m v Command.Free) refl refl
  space_enough Command.Free (Layout.Old space) reads is = old_enough space (old_need space 0) (no_need space) (few space is)
  space_enough Command.Check (Layout.New m) reads is = new_enough (length (new_ids m)) (bits_in (hole_runs m)) (needed_ids m v Command.Check) (needed_bits m v Command.Check) refl refl
  space_enough Command.Check (Layout.Old space) reads is = old_enough space (old_need space 0) (no_need space) (few space is)
  space_enough (Command.Save path load exec bytes) layout reads is = absurd (cc)
  space_enough (Command.Create path load exec len) layout reads is = absurd (cc)
  space_enough (Command.Cdir path) layout reads is = absurd (cc)
  space_enough (Command.Delete path) layout reads is = absurd (cc)
  space_enough (Command.Rename from to) layout reads is = absurd (cc)
  space_enough (Command.Set path load exec access) layout reads is = absurd (cc)
  space_enough (Command.Mark path attrs) layout reads is = absurd (cc)
  space_enough Command.Compact layout reads is = absurd (cc)
  space_enough Command.Reclaim layout reads is = absurd (cc)

  short_none : (c : Command) → is_reading c ≡ true → short v c ≡ None
  unfolding short
  short_none (Command.Cat path) reads = space_enough (Command.Cat path) v.layout reads refl
  short_none (Command.Load path) reads = space_enough (Command.Load path) v.layout reads refl
  short_none (Command.Digest path) reads = space_enough (Command.Digest path) v.layout reads refl
  short_none Command.Free reads = space_enough Command.Free v.layout reads refl
  short_none Command.Check reads = space_enough Command.Check v.layout reads refl
  short_none (Command.Save path load exec bytes) reads = absurd (cc)
  short_none (Command.Create path load exec len) reads = absurd (cc)
  short_none (Command.Cdir path) reads = absurd (cc)
  short_none (Command.Delete path) reads = absurd (cc)
  short_none (Command.Rename from to) reads = absurd (cc)
  short_none (Command.Set path load exec access) reads = absurd (cc)
  short_none (Command.Mark path attrs) reads = absurd (cc)
  short_none Command.Compact reads = absurd (cc)
  short_none Command.Reclaim reads = absurd (cc)

-- no command that reads is refused for want of space
pub shortage_none : (image : List ℕ) (kind : Kind) (v : Opened) (c : Command) → OpensAs image kind v → is_reading c ≡ true → shortage false v c ≡ None
shortage_none image kind v c opens reads =
    ap₂ (λ (a b : Option Refusal). option_map refusal_line (first_of (a ∷ b ∷ []))) (reason_none v.layout c reads)
    (short_none v (λ space is. few_holes image kind v space opens is) c reads)

keeping : (c : Command) → is_reading c ≡ true → keeps_tree c ≡ true
keeping (Command.Cat path) reads = refl
keeping (Command.Load path) reads = refl
keeping (Command.Digest path) reads = refl
keeping Command.Free reads = refl
keeping Command.Check reads = refl
keeping (Command.Save path load exec bytes) reads = absurd (cc)
keeping (Command.Create path load exec len) reads = absurd (cc)
keeping (Command.Cdir path) reads = absurd (cc)
keeping (Command.Delete path) reads = absurd (cc)
keeping (Command.Rename from to) reads = absurd (cc)
keeping (Command.Set path load exec access) reads = absurd (cc)
keeping (Command.Mark path attrs) reads = absurd (cc)
keeping Command.Compact reads = absurd (cc)
keeping Command.Reclaim reads = absurd (cc)

-- nor in the safe mode
pub never_shortage : (image : List ℕ) (kind : Kind) (v : Opened) (c : Command) → OpensAs image kind v → is_reading c ≡ true → (safe : Bool) → shortage safe v c ≡ None
never_shortage image kind v c opens reads false = shortage_none image kind v c opens reads
never_shortage image kind v c opens reads true = keeping_enough v c (short_none v (λ space is. few_holes image kind v space opens is) c reads) (keeping c reads)
