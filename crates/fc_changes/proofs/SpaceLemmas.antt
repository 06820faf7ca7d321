-- The runs of the map after a change.
use Rattle.std.proofs.Common.{◌≡◌, ◌<◌, ◌≤◌, ℕ, Bool, true, false, cond, List, [], ◌∷◌, length, refl, ap, ap₂, subst, ◌∙◌, None}
use Rattle.std.specs.Prelude.{Contains, IsPermutation, not, ◌==◌, ◌&&◌, ◌||◌}
use Rattle.std.proofs.lemmas.List.Sorted.{list_any-IsPermutation}
use Rattle.fc_newmap.specs.Map.{Map, ZoneRun, all_runs, has_id, hole_runs, id_runs, is_used}
use Rattle.fc_newmap.proofs.PlaceLemmas.{id_run_in, in_id_runs}
use Rattle.fc_model.specs.Command.{Command}
use Rattle.fc_image.specs.Walk.{Object}
use Rattle.fc_image.specs.Objects.{is_owned, is_owner_of}
use Rattle.fc_image.specs.Opening.{Opened}
use Rattle.fc_image.specs.effects.Short.{growth_in, moved_growth}
use Rattle.fc_image.specs.effects.Placed.{holes_left, made_object, object_parts}
use Rattle.fc_plan.proofs.Left.{left_of_none}
use Rattle.fc_image.specs.effects.Steady.{holes_untaken, is_given_back}
use Rattle.fc_plan.specs.Giving.{is_one_of}
use Rattle.fc_changes.specs.Owed.{IsSpaceEdit}
use Rattle.fc_changes.proofs.BasicLemmas.{and_false, any_in, clash, first_in, in_any, map_or_none, nothing_in}
use Rattle.fc_changes.proofs.DirectoriesLemmas.{moved_none}
use Rattle.std.proofs.lemmas.Bool.{false_from_ne_true as unless}

-- ---- which identifiers are used

pub no_runs : (m : Map) (id : ℕ) → 1 ≤ m.geometry.zones → is_used m id ≡ false → id_runs m id ≡ []
no_runs m id some none = by (id_runs m id) (λ p at.
    let in_map = id_run_in m id p some at in
    clash (is_used m id) (any_in (λ (q : ZoneRun). has_id id q.1.kind) (all_runs m) p in_map.0 in_map.1) none)
  where
    by : (runs : List ZoneRun) → ((p : ZoneRun) → Contains runs p → ⊥) → runs ≡ []
    by [] never = refl
    by (p ∷ runs) never = absurd (never p (first_in p runs))

pub not_used : (m : Map) (id : ℕ) → 1 ≤ m.geometry.zones → id_runs m id ≡ [] → is_used m id ≡ false
not_used m id some none = unless (is_used m id) (λ used.
    let p = in_any (λ (q : ZoneRun). has_id id q.1.kind) (all_runs m) used in
    nothing_in p.0 (subst (λ (runs : List ZoneRun). Contains runs p.0) none (in_id_runs m id p.0 some p.1 p.2)))

pub owned_same : (xs ys : List Object) (id : ℕ) → IsPermutation xs ys → is_owned xs id ≡ is_owned ys id
owned_same xs ys id order = ap (λ (b : Bool). (id == 2) || b) (list_any-IsPermutation (is_owner_of id) xs ys order)

-- what isn't owned before isn't given back, nor what is owned afterwards
pub not_given : (before after : List Object) (id : ℕ) → is_owned before id ≡ false → is_given_back before after id ≡ false
not_given before after id none = ap (λ (b : Bool). b && not (is_owned after id)) none

pub still_owned : (before after : List Object) (id : ℕ) → is_owned after id ≡ true → is_given_back before after id ≡ false
still_owned before after id own = ap (λ (b : Bool). is_owned before id && not b) own ∙ and_false (is_owned before id)

-- ---- what an edit of space keeps

module _ (m m' : Map) (id : ℕ) (parts : List ZoneRun) (gone : List ℕ) (space : IsSpaceEdit m m' id parts gone) (some : 1 ≤ m.geometry.zones)
    (fresh : 0 < length parts → is_used m id ≡ false) where
  -- a used identifier that doesn't go back keeps its runs
  pub runs_stay : (k : ℕ) → is_used m k ≡ true → is_one_of gone k ≡ false → id_runs m' k ≡ id_runs m k
  runs_stay k used stays =
      space.others k (λ taken is. clash (is_used m id) (subst (λ (n : ℕ). is_used m n ≡ true) is used) (fresh taken)) ∙ ap (λ (b : Bool). cond b [] (id_runs m k)) stays

-- ---- the map is steady

-- the holes that are left when nothing grows
pub untaken_is : (v w : Opened) (c : Command) (m m' : Map) (parts : List ZoneRun) → growth_in v c ≡ None → object_parts m m' v c (made_object w c) ≡ parts
    → holes_untaken v w c m m' ≡ holes_left (hole_runs m) parts
untaken_is v w c m m' parts none made =
    ap₂ (λ (ps gs : List ZoneRun). holes_left (holes_left (hole_runs m) ps) gs) made (map_or_none _ (moved_growth v c) [] (moved_none v w c none)) ∙ left_of_none (holes_left (hole_runs m) parts)
