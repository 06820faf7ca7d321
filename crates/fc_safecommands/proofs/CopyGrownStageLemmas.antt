-- `rename` that copies its file into a directory that grows, in the safe mode: each stage can follow on the one before.
use Rattle.std.proofs.Common.{◌≡◌, ◌==◌, ◌||◌, ⊎_elim, ℕ, Bool, true, false, not, cond, filter, List, [], ◌∷◌, ◌++◌, refl, sym, ap, subst, ◌∙◌, eq-eqb, Option, Some}
use Rattle.std.specs.Prelude.{Contains, is_some}
use Rattle.std.proofs.lemmas.List.Elements.{Contains-append_cases}
use Rattle.fc_image.proofs.EntriesLemmas.{cases as contains_cases}
use Rattle.fc_plan.specs.declared.plan.Plan.{Plan}
use Rattle.fc_plan.specs.Giving.{is_one_of}
use Rattle.fc_tree.specs.Nodes.{is_directory_node}
use Rattle.fc_tree.proofs.MemberLemmas.{from_map, no_element}
use Rattle.fc_change.specs.declared.change.Change.{Change}
use Rattle.fc_change.specs.declared.change.Regrowth.{Regrowth}
use Rattle.fc_change.specs.declared.change.Says.{Says}
use Rattle.fc_change.specs.declared.job.Job.TheVariants as jobs
use Rattle.fc_change.specs.declared.spaces.GrownPlace.{GrownPlace}
use Rattle.fc_change.specs.declared.spaces.Spaces.{Spaces}
use Rattle.fc_change.specs.Directories.{Rewriting, around, children_of, holders_of, is_told}
use Rattle.fc_change.specs.Drafts.{CanDraft, IsChangeOf}
use Rattle.fc_commands.proofs.GrownAroundLemmas.{in_filtered}
use Rattle.fc_commands.proofs.GrownMoveStageLemmas as stage
use Rattle.fc_commands.proofs.GrownMoveToldLemmas.{IsToldGrown, all_numbers, entry_now, home_told, told_grown}
use Rattle.fc_commands.proofs.GrownMoveWantLemmas.{GrownRename}
use Rattle.fc_commands.proofs.GrownPreparedLemmas.{told_node}
use Rattle.fc_commands.proofs.MoveTellLemmas.{own_told}
use Rattle.fc_refusals.specs.declared.target.Renaming.{Renaming}
use Rattle.fc_safe.specs.FirstSpace.{ArePlacedFirst, IsFirstGrown, LiesInZones}
use Rattle.fc_safe.proofs.ListLemmas.{or_right}
use Rattle.fc_safecommands.specs.Anew.{CanWriteAnew, plans_in}
use Rattle.fc_safecommands.proofs.GrownImageLemmas as image_of
use Rattle.fc_safecommands.proofs.CopyGrownLemmas.{GrownCopy, growing, h, is_changed, job, named, node_is}
use Rattle.fc_safecommands.proofs.GrownStepLemmas.{grown_at}
use Rattle.fc_safecommands.proofs.GrownStirLemmas.{changed, changed_object}
use Rattle.fc_safecommands.proofs.GrownToldLemmas.{around_changed, named_changed, renamed_changed}

module _ (a : GrownCopy) (s : Spaces) (placed : ArePlacedFirst a.m (h a) (job a) a.wants s) where
  abbrev pub p : GrownPlace
  p = (grown_at (growing a) s placed).0

  pub p_is : s.grown ≡ Some p
  p_is = (grown_at (growing a) s placed).1

  pub first : IsFirstGrown a.m (h a) a.growth placed.plans p
  first = (grown_at (growing a) s placed).2

  -- as a rename by which a directory grows
  abbrev pub q : GrownRename
  q = record {
    kind = a.kind;
    m = a.m;
    nodes = a.nodes;
    owners = a.owners;
    root = a.root;
    listings = a.listings;
    from = a.from;
    to = a.to;
    r = a.r;
    name = a.name;
    wants = a.wants;
    spaces = s;
    growth = a.growth;
    agreed = a.agreed;
    seen = a.seen;
    are = a.are;
    some = a.grows;
    placing = placed.placing;
    object = placed.object;
    read = placed.copied;
    place = (grown_at (growing a) s placed).0;
    place_is = p_is;
    node = ap (λ (d : Regrowth). d.node) first.directory;
    len = ap (λ (d : Regrowth). d.len) first.directory;
  }

  pub can_draft : CanDraft (h a) (jobs.Move a.r) a.name s
  can_draft = stage.can_draft q

  pub zones : (k : Plan) → Contains (plans_in s.take) k → LiesInZones a.m k
  zones = image_of.zones (growing a) s placed

  module _ (c : Change) (change : IsChangeOf (h a) (jobs.Move a.r) a.name s c) where
    abbrev b : Bool
    b = a.r.holder == a.r.target.holder

    pub tl : IsToldGrown q (entry_now q) (a.r.holder == a.r.target.holder) c
    tl = told_grown q b refl c change

    one : (n : ℕ) → is_one_of (n ∷ []) n ≡ true
    one n = ap (λ (d : Bool). d || false) (eq-eqb n n refl)

    home_named : is_one_of (a.r.holder ∷ (a.r.target.holder ∷ [])) a.r.target.holder ≡ true
    home_named = or_right (a.r.holder == a.r.target.holder) (is_one_of (a.r.target.holder ∷ []) a.r.target.holder) (one a.r.target.holder)

    own_changed : (d : Bool) → is_directory_node a.nodes a.r.target.node ≡ d → (y : ℕ × Rewriting) → Contains (own_told d a.r a.name) y → is_one_of (changed (growing a)) y.0 ≡ true
    own_changed true e y at =
        renamed_changed (growing a) s placed y.0
        (subst (λ (f : Bool). is_one_of (cond f (a.r.target.node ∷ []) []) y.0 ≡ true) (sym e)
        (⊎_elim (λ is. subst (λ (n : ℕ). is_one_of (a.r.target.node ∷ []) n ≡ true) (ap (λ (z : ℕ × Rewriting). z.0) is) (one a.r.target.node)) (λ none. absurd (no_element y none)) (contains_cases (a.r.target.node, Rewriting.Turns a.r.holder a.name) y [] at)))
    own_changed false e y at = absurd (no_element y at)

    home_changed : (d : Bool) (y : ℕ × Rewriting) → Contains (home_told d a.r) y → is_one_of (changed (growing a)) y.0 ≡ true
    home_changed true y at = absurd (no_element y at)
    home_changed false y at =
        named_changed (growing a) s placed y.0
        (⊎_elim (λ is. subst (λ (n : ℕ). is_one_of (a.r.holder ∷ (a.r.target.holder ∷ [])) n ≡ true) (ap (λ (z : ℕ × Rewriting). z.0) is) home_named) (λ none. absurd (no_element y none))
        (contains_cases (a.r.target.holder, Rewriting.Leaves a.r.target.at) y [] at))

    -- Whoever says something is changed.
    pub said_changed : (said : Says) → Contains c.says.items said → is_one_of (changed (growing a)) said.node ≡ true
    said_changed said at =
        ⊎_elim (λ is. ap (is_one_of (changed (growing a))) (ap (λ (k : Says). k.node) (sym is) ∙ tl.tells.number ∙ sym (node_is a)) ∙ is_changed a)
        (λ later. ⊎_elim
        (λ about.
        (let r = told_node (Some p.directory) a.nodes (around (Some p.directory) a.nodes (all_numbers a.nodes a.r a.name b)) tl.about said tl.tell_about about in
        let back = from_map (λ (n : ℕ). let k : ℕ × Rewriting = (n, Rewriting.Stays) in k) (filter (λ (n : ℕ). not (is_told (all_numbers a.nodes a.r a.name b) n)) (holders_of a.nodes p.directory ++ children_of a.nodes p.directory)) r.0 r.1 in
        ap (is_one_of (changed (growing a))) (r.2 ∙ sym (ap (λ (k : ℕ × Rewriting). k.0) back.2))
        ∙ around_changed (growing a) s placed back.0 (in_filtered (λ (n : ℕ). not (is_told (all_numbers a.nodes a.r a.name b) n)) (holders_of a.nodes p.directory ++ children_of a.nodes p.directory) back.0 back.1)))
        (λ more. ⊎_elim
        (λ own. (let r = told_node (Some p.directory) a.nodes (own_told (is_directory_node a.nodes a.r.target.node) a.r a.name) tl.own said tl.tell_own own in
        ap (is_one_of (changed (growing a))) r.2 ∙ own_changed (is_directory_node a.nodes a.r.target.node) refl r.0 r.1))
        (λ home. (let r = told_node (Some p.directory) a.nodes (home_told b a.r) tl.home said tl.tell_home home in ap (is_one_of (changed (growing a))) r.2 ∙ home_changed b r.0 r.1))
        (Contains-append_cases tl.own tl.home said more)) (Contains-append_cases tl.about (tl.own ++ tl.home) said later))
        (contains_cases tl.said said (tl.about ++ (tl.own ++ tl.home)) (subst (λ (ss : List Says). Contains ss said) tl.says at))

    pub can_write : CanWriteAnew (h a) c
    can_write = record {
      told = λ said at. ap is_some (changed_object (growing a) said.node (said_changed said at)).2.own_found;
      placed = image_of.placed_at (growing a);
    }
