-- What is taken for a new object beside others, and which objects have slack for a file.
use Rattle.std.proofs.Common.{◌≡◌, ◌<◌, ◌≤◌, ⊎_elim, ℕ, ◌+◌, ◌-◌, ◌*◌, ◌/◌, ◌%◌, Bool, true, false, cond, List, [], ◌∷◌, length, map, refl, sym, ap, subst, ◌∙◌, arith, Some, None}
use Rattle.std.specs.Prelude.{Contains, IsPermutation, filter, find, not, ◌==◌, ◌&&◌, nat_lt}
use Rattle.std.specs.List.{fold, list_all, range_with_len}
use Rattle.std.proofs.lemmas.List.Sorted.{Contains-permutation, sum_by-IsPermutation}
use Rattle.fc_names.specs.Names.{Path, is_same_path}
use Rattle.fc_record.specs.declared.Geometry.{Geometry}
use Rattle.fc_record.specs.Record.{id_limit}
use Rattle.fc_newmap.specs.Map.{Map, ZoneRun, all_runs, bits_in, has_id, hole_runs, id_runs, is_used}
use Rattle.fc_newmap.specs.NewMap.{IsNewMap}
use Rattle.fc_newmap.proofs.HeldLemmas.{geometry_facts}
use Rattle.fc_newmap.proofs.PlaceLemmas.{id_run_in}
use Rattle.fc_image.specs.Layout.{id_of, low_of}
use Rattle.fc_image.specs.Walk.{Object, is_directory_object}
use Rattle.fc_image.specs.Objects.{has_sectors, is_owner_of}
use Rattle.fc_image.proofs.EntriesLemmas.{in_filter, in_mapped, cases as contains_cases}
use Rattle.fc_image.specs.effects.Sharing.{Holding, holding_of, holdings_in, is_shareable, is_spare, may_share_with, new_ids, shares, slack, slack_among, units}
use Rattle.fc_image.specs.effects.Placed.{IsNewId, IsTaken, StandsInNewSpace, first_low, holes_left}
use Rattle.fc_plan.specs.Taking.{as_runs, with_id}
use Rattle.fc_plan.proofs.Composed.{left_in_order}
use Rattle.fc_plan.proofs.Order.{rising_of}
use Rattle.fc_plan.proofs.Ordered.{taken_in_order}
use Rattle.fc_plan.proofs.Plans.{rising_apart}
use Rattle.fc_plan.proofs.Shorts.{are_new_ids}
use Rattle.fc_plan.proofs.Units.{units_some}
use Rattle.fc_tree.proofs.MemberLemmas.{contains_here, no_element}
use Rattle.fc_changes.specs.Changed.{IsInNewSpace}
use Rattle.fc_changes.proofs.BasicLemmas.{any_in}
use Rattle.fc_changes.proofs.PlacedLemmas.{filter_test, found_in}
use Rattle.std.proofs.lemmas.Bool.{not-true as not_true}
use Rattle.fc_record.proofs.KindLemmas.{and_first, and_second}

-- ---- in new space

-- no identifier of new objects has a run, and each is 3 or more
pub new_id_unused : (m : Map) (id : ℕ) → Contains (new_ids m) id → is_used m id ≡ false
new_id_unused m id at = not_true (is_used m id) (filter_test (λ k. not (is_used m k)) (range_with_len 3 (id_limit m.geometry - 3)) id at)

pub new_id_high : (m : Map) (id : ℕ) → Contains (new_ids m) id → 3 ≤ id
new_id_high m id at = (are_new_ids m).some id at

pub id_in : (m : Map) (n low id : ℕ) (parts : List ZoneRun) (o : Object) → low < 256 → IsInNewSpace m n low id parts o → id_of o.entry.address ≡ id
id_in m n low id parts o small new = ap id_of new.address ∙ (let e : (256 * id + low) / 256 ≡ id = omega (arith, small) in e)

pub parts_some : (m : Map) (n low id : ℕ) (parts : List ZoneRun) (o : Object) → IsNewMap m → IsInNewSpace m n low id parts o → 0 < length parts
parts_some m n low id parts o is new = by parts (let enough = new.plan.taken.enough in let some = units_some m n is new.some in let e : 0 < bits_in parts = omega (arith, enough, some) in e)
  where
    by : (ps : List ZoneRun) → 0 < bits_in ps → 0 < length ps
    by [] h = absurd (omega (arith, h))
    by (p ∷ ps) h = omega arith

-- an identifier that gets runs has some
pub used_after : (m m' : Map) (id : ℕ) (parts : List ZoneRun) → IsNewMap m → m'.geometry ≡ m.geometry → 0 < length parts → IsPermutation (as_runs id parts) (id_runs m' id) → is_used m' id ≡ true
used_after m m' id parts is same some runs_are =
    let one = head parts some in
    let there = Contains-permutation (as_runs id parts) (id_runs m' id) (with_id id one.0) runs_are (in_mapped (with_id id) parts one.0 one.1) in
    let zones : 1 ≤ m'.geometry.zones = subst (λ (g : Geometry). 1 ≤ g.zones) (sym same) (geometry_facts m.geometry is.of_record).zones in
    let in_map = id_run_in m' id (with_id id one.0) zones there in
    any_in (λ (q : ZoneRun). has_id id q.1.kind) (all_runs m') (with_id id one.0) in_map.0 in_map.1
  where
    head : (ps : List ZoneRun) → 0 < length ps → (p : ZoneRun) × Contains ps p
    head [] h = absurd (omega (arith, h))
    head (p ∷ ps) h = (p, contains_here p ps)

module _ (m m' : Map) (n low id : ℕ) (parts : List ZoneRun) (o : Object) (is : IsNewMap m) (same : m'.geometry ≡ m.geometry) (small : low < 256) (new : IsInNewSpace m n low id parts o)
    (runs_are : IsPermutation (as_runs id parts) (id_runs m' id)) where
  its_id : id_of o.entry.address ≡ id
  its_id = id_in m n low id parts o small new

  its_low : low_of o.entry.address ≡ low
  its_low = ap low_of new.address ∙ (let e : (256 * id + low) % 256 ≡ low = omega (arith, small) in e)

  pub parts_left : holes_left (hole_runs m) (id_runs m' id) ≡ holes_left (hole_runs m) parts
  parts_left = sym (left_in_order id parts (id_runs m' id) runs_are (rising_apart parts (rising_of parts new.plan.rising)) (hole_runs m))

  pub bits_same : bits_in (id_runs m' id) ≡ bits_in parts
  bits_same = sum_by-IsPermutation (λ (p : ZoneRun). p.1.len) (as_runs id parts) (id_runs m' id) runs_are ∙ as_many 0 parts
    where
      as_many : (k : ℕ) (ps : List ZoneRun) → fold (λ j (p : ZoneRun). j + p.1.len) k (as_runs id ps) ≡ fold (λ j (p : ZoneRun). j + p.1.len) k ps
      as_many k [] = refl
      as_many k (p ∷ ps) = as_many (k + p.1.len) ps

  pub stands_now : first_low m' o (id_runs m' (id_of o.entry.address)) ≡ low → StandsInNewSpace m m' n o
  stands_now right = record {
    id = subst (λ (k : ℕ). IsNewId m m' k) (sym its_id) (record { free = new.is_new; used = used_after m m' id parts is same (parts_some m n low id parts o is new) runs_are });
    space = subst (λ (k : ℕ). IsTaken m.geometry (hole_runs m) (units m.geometry n) (id_runs m' k)) (sym its_id)
        (taken_in_order m.geometry (hole_runs m) (units m.geometry n) id parts (id_runs m' id) runs_are new.plan.taken);
    low = its_low ∙ sym right;
  }

-- ---- in slack

all_in : {X : Type 0} (t : X → Bool) (xs : List X) (x : X) → list_all t xs ≡ true → Contains xs x → t x ≡ true
all_in t [] x h at = absurd (no_element x at)
all_in t (y ∷ xs) x h at =
    ⊎_elim (λ same. ap t (sym same) ∙ and_first (t y) (list_all t xs) h) (λ later. all_in t xs x (and_second (t y) (list_all t xs) h) later) (contains_cases y x xs at)

-- all owners of an identifier with slack for files are files
pub slack_files : (m : Map) (objects : List Object) (dir : Path) (n : ℕ) (share : ℕ × ℕ) → slack m objects dir n ≡ Some share → (p : Object) → Contains objects p → is_owner_of share.0 p ≡ true
    → is_directory_object p ≡ false
unfolding slack_among
slack_files m objects dir n share h p at own = by (n == 0) refl h
  where
    by : (b : Bool) → (n == 0) ≡ b → cond b None (find (λ s. is_shareable is_same_path dir (holdings_in (map holding_of (filter has_sectors objects)) s.0) && is_spare m (holdings_in (map holding_of (filter has_sectors objects)) s.0) s.0 s.1 n) (shares m)) ≡ Some share
        → is_directory_object p ≡ false
    by true e g = absurd (cc)
    by false e g =
        let f = found_in (λ (s : ℕ × ℕ). is_shareable is_same_path dir (holdings_in (map holding_of (filter has_sectors objects)) s.0) && is_spare m (holdings_in (map holding_of (filter has_sectors objects)) s.0) s.0 s.1 n) (shares m) share g in
        let all : List (Holding Path) = map holding_of (filter has_sectors objects) in
        let hs : List (Holding Path) = holdings_in all share.0 in
        let shareable = and_first (is_shareable is_same_path dir hs) (is_spare m hs share.0 share.1 n) f.1 in
        let each = and_second (nat_lt 0 (length hs)) (list_all (may_share_with is_same_path dir) hs) shareable in
        let there = in_filter (λ (x : Holding Path). x.id == share.0) all (holding_of p)
        (in_mapped holding_of (filter has_sectors objects) p (in_filter has_sectors objects p at (and_first (has_sectors p) (id_of p.entry.address == share.0) own)))
        (and_second (has_sectors p) (id_of p.entry.address == share.0) own) in
        let may = all_in (may_share_with is_same_path dir) hs (holding_of p) each there in
        not_true (is_directory_object p) (first_of_three (not (is_directory_object p)) _ _ may)
      where
        first_of_three : (a b c : Bool) → (a && b && c) ≡ true → a ≡ true
        first_of_three true b c x = refl
        first_of_three false b c x = absurd (cc)
