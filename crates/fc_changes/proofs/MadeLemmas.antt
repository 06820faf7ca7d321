-- A new object: what it is called, and where it lies.
use Rattle.std.proofs.Common.{◌≡◌, ◌<◌, ◌≤◌, ℕ, Bool, true, false, cond, List, [], ◌∷◌, length, refl, sym, subst, ◌∙◌, arith, None, Option}
use Rattle.std.specs.Prelude.{Contains, ◌==◌}
use Rattle.std.proofs.lemmas.Bool.{eq-eqb}
use Rattle.std.proofs.lemmas.List.Sorted.{Contains-permutation}
use Rattle.fc_names.specs.Names.{Path}
use Rattle.fc_record.specs.declared.Geometry.{Geometry}
use Rattle.fc_newmap.specs.Map.{Map, ZoneRun, all_runs, has_id, hole_runs, id_runs, is_used}
use Rattle.fc_newmap.specs.NewMap.{IsNewMap}
use Rattle.fc_newmap.proofs.HeldLemmas.{geometry_facts}
use Rattle.fc_newmap.proofs.PlaceLemmas.{id_run_in}
use Rattle.fc_image.specs.Layout.{id_of, is_apart}
use Rattle.fc_image.specs.Walk.{Object}
use Rattle.fc_image.proofs.HolesLemmas.{apart_at, apart_from}
use Rattle.fc_plan.specs.Taking.{as_runs, with_id}
use Rattle.fc_image.proofs.EntriesLemmas.{in_mapped}
use Rattle.fc_image.specs.effects.Sharing.{slack, slack_among, units}
use Rattle.fc_image.specs.effects.Placed.{IsNewId, IsTaken, has_spare_share, StandsInNewSpace, file_low, first_low}
use Rattle.fc_changes.specs.Owed.{IsSpaceEdit}
use Rattle.fc_changes.specs.Changed.{IsInNewSpace}
use Rattle.fc_changes.proofs.BasicLemmas.{any_in, first_in}
use Rattle.fc_changes.proofs.BeforeLemmas.{parts}
use Rattle.fc_changes.proofs.PlacedLemmas.{id_is, low_is, runs_are, some_parts, taken}
use Rattle.fc_image.proofs.EditLemmas.{apart_turned as turned}

-- ---- places

pub file_low_small : (g : Geometry) (space n : ℕ) → file_low g space n < 256
file_low_small g space n = one_or_none (has_spare_share g space n)
  where
    one_or_none : (b : Bool) → cond b 1 0 < 256
    one_or_none true = omega arith
    one_or_none false = omega arith

pub no_slack : (m : Map) (objects : List Object) (dir : Path) (n : ℕ) → n ≡ 0 → slack m objects dir n ≡ None
unfolding slack_among
no_slack m objects dir n none = if_true' (n == 0) _ _ (eq-eqb n 0 none)
  where
    if_true' : (b : Bool) (x y : Option (ℕ × ℕ)) → b ≡ true → cond b x y ≡ x
    if_true' true x y h = refl
    if_true' false x y h = absurd (cc)

-- an object in new space, by its low byte
pub stands_new : (m m' : Map) (n low id : ℕ) (parts : List ZoneRun) (gone : List ℕ) (o : Object) → (is : IsNewMap m) → (same : m'.geometry ≡ m.geometry) → (small : low < 256)
    → (new : IsInNewSpace m n low id parts o) → (space : IsSpaceEdit m m' id parts gone) → first_low m' o (id_runs m' (id_of o.entry.address)) ≡ low → StandsInNewSpace m m' n o
stands_new m m' n low id parts gone o is same small new space right =
    let its = id_is m m' n low id parts gone o is same small new space in
    record {
      id = subst (λ (k : ℕ). IsNewId m m' k) (sym its) (record { free = new.is_new; used = used_now });
      space = subst (λ (k : ℕ). IsTaken m.geometry (hole_runs m) (units m.geometry n) (id_runs m' k)) (sym its) (taken m m' n low id parts gone o is same small new space);
      low = low_is m m' n low id parts gone o is same small new space ∙ sym right;
    }
  where
    head : (ps : List ZoneRun) → 0 < length ps → (p : ZoneRun) × Contains ps p
    head [] h = absurd (omega (arith, h))
    head (p ∷ ps) h = (p, first_in p ps)

    used_now : is_used m' id ≡ true
    used_now =
        let one = head parts (some_parts m m' n low id parts gone o is same small new space) in
        let there = Contains-permutation (as_runs id parts) (id_runs m' id) (with_id id one.0) (runs_are m m' n low id parts gone o is same small new space) (in_mapped (with_id id) parts one.0 one.1) in
        let some : 1 ≤ m'.geometry.zones = subst (λ (g : Geometry). 1 ≤ g.zones) (sym same) (geometry_facts m.geometry is.of_record).zones in
        let in_map = id_run_in m' id (with_id id one.0) some there in
        any_in (λ (q : ZoneRun). has_id id q.1.kind) (all_runs m') (with_id id one.0) in_map.0 in_map.1
