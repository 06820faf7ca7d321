-- Where a new object lies: in new space, in slack or nowhere.
use Rattle.std.proofs.Common.{◌≡◌, ◌<◌, ◌≤◌, inl, inr, ℕ, zero, suc, ◌+◌, ◌-◌, ◌*◌, ◌/◌, ◌%◌, Bool, true, false, cond, List, [], ◌∷◌, ◌++◌, length, map, refl, sym, ap, ap₂, subst, ◌∙◌, arith, Some, None, Option}
use Rattle.std.specs.Prelude.{Contains, IsPermutation, filter, find, not, ◌==◌, ◌&&◌, nat_lt}
use Rattle.std.specs.List.{flat_map, fold, list_all, range_with_len}
use Rattle.std.specs.Option.{option_map_or}
use Rattle.std.proofs.Math.Nat.{div-mul-le_self, mul-le-mul_right}
use Rattle.std.proofs.lemmas.Nat.{le-div}
use Rattle.std.proofs.lemmas.Bool.{ltb-true, not-true as not_true}
use Rattle.std.proofs.lemmas.List.Elements.{All-contains}
use Rattle.std.proofs.lemmas.List.Sorted.{Contains-permutation, IsPermutation-sym, sum_by-IsPermutation}
use Rattle.fc_names.specs.Names.{Path, is_same_path}
use Rattle.fc_record.specs.declared.Geometry.{Geometry}
use Rattle.fc_record.specs.Record.{base, first_bit, id_limit}
use Rattle.fc_newmap.specs.Map.{Map, ZoneRun, bits_in, first_sector, hole_runs, id_runs, is_used, sector_count}
use Rattle.fc_newmap.specs.NewMap.{IsNewMap}
use Rattle.fc_newmap.specs.RunsLaw.{HoldsSector}
use Rattle.fc_newmap.proofs.HeldLemmas.{geometry_facts}
use Rattle.fc_newmap.proofs.PlaceLemmas.{held_in, holder_of, in_back, in_front}
use Rattle.fc_image.specs.Layout.{Layout, hole_sectors, id_of, id_sectors, is_among, is_apart, low_of, new_sectors}
use Rattle.fc_image.specs.Walk.{Object}
use Rattle.fc_image.specs.Objects.{has_sectors, is_owner_of}
use Rattle.fc_image.proofs.EntriesLemmas.{from_filter, from_map, in_filter, in_mapped, same_some}
use Rattle.fc_image.proofs.HolesLemmas.{apart_at, apart_from}
use Rattle.fc_image.specs.effects.Sharing.{Holding, holding_of, holdings_in, is_shareable, is_spare, may_share_with, shares, slack, slack_among, units}
use Rattle.fc_image.specs.effects.Placed.{IsFront, IsTaken, holes_left}
use Rattle.fc_plan.specs.Plan.{AreApart}
use Rattle.fc_plan.specs.Taking.{as_runs, with_id}
use Rattle.fc_plan.proofs.Composed.{left_in_order}
use Rattle.fc_plan.proofs.MapLemmas.{holes_apart}
use Rattle.fc_plan.proofs.Order.{same_place}
use Rattle.fc_plan.proofs.Ordered.{taken_in_order}
use Rattle.fc_plan.proofs.Plans.{cut_of_plan}
use Rattle.fc_plan.proofs.Units.{units_some}
use Rattle.fc_changes.specs.Owed.{IsSpaceEdit}
use Rattle.fc_changes.specs.Changed.{IsInNewSpace}
use Rattle.fc_changes.proofs.BasicLemmas.{cases_cons, clash, first_in, in_flat, next_in, not_zero, nothing_in}
use Rattle.fc_changes.proofs.SpaceLemmas.{no_runs}
use Rattle.fc_record.proofs.KindLemmas.{and_first, and_second}

-- ---- lists

pub filter_test : {X : Type 0} (t : X → Bool) (xs : List X) (x : X) → Contains (filter t xs) x → t x ≡ true
filter_test t [] x at = absurd (nothing_in x at)
filter_test t (y ∷ xs) x at = by (t y) refl at (filter_test t xs x)
  where
    by : (b : Bool) → t y ≡ b → Contains (cond b (y ∷ filter t xs) (filter t xs)) x → (Contains (filter t xs) x → t x ≡ true) → t x ≡ true
    by true e at' more = elim (cases_cons y (filter t xs) x at') [ inl is ↦ ap t (sym is) ∙ e | inr later ↦ more later ]
    by false e at' more = more at'

range_bounds : (from n x : ℕ) → Contains (range_with_len from n) x → (from ≤ x) × (x < from + n)
range_bounds from zero x at = absurd (nothing_in x at)
range_bounds from (suc n) x at = elim (cases_cons from (range_with_len (from + 1) n) x at) [
  | inl is ↦ (omega (arith, is), omega (arith, is))
  | inr later ↦ (let r = range_bounds (from + 1) n x later in (omega (arith, r.0), omega (arith, r.1)))
]

pub found_in : {X : Type 0} (t : X → Bool) (xs : List X) (x : X) → find t xs ≡ Some x → Contains xs x × (t x ≡ true)
found_in t [] x h = absurd (cc)
found_in t (y ∷ xs) x h = by (t y) refl h (found_in t xs x)
  where
    by : (b : Bool) → t y ≡ b → cond b (Some y) (find t xs) ≡ Some x → (find t xs ≡ Some x → Contains xs x × (t x ≡ true)) → Contains (y ∷ xs) x × (t x ≡ true)
    by true e g more = (let is = same_some y x g in (subst (λ (z : _). Contains (y ∷ xs) z) is (first_in y xs), ap t (sym is) ∙ e))
    by false e g more = (let r = more g in (next_in y x xs r.0, r.1))

pub is_in_flat : {X : Type 0} (f : X → List ℕ) (xs : List X) (x : X) (s : ℕ) → Contains xs x → is_among (f x) s ≡ true → is_among (flat_map f xs) s ≡ true
is_in_flat f [] x s at h = absurd (nothing_in x at)
is_in_flat f (y ∷ xs) x s at h = elim (cases_cons y xs x at) [
  | inl is ↦ in_front (f y) (flat_map f xs) s (subst (λ (z : _). is_among (f z) s ≡ true) (sym is) h)
  | inr later ↦ in_back (f y) (flat_map f xs) s (is_in_flat f xs x s later h)
]

-- ---- in new space

module _ (m m' : Map) (n low id : ℕ) (parts : List ZoneRun) (gone : List ℕ) (o : Object) (is : IsNewMap m) (same : m'.geometry ≡ m.geometry) (small : low < 256)
    (new : IsInNewSpace m n low id parts o) (space : IsSpaceEdit m m' id parts gone) where
  some_zones : 1 ≤ m.geometry.zones
  some_zones = (geometry_facts m.geometry is.of_record).zones

  pub id_is : id_of o.entry.address ≡ id
  id_is = ap id_of new.address ∙ (let e : (256 * id + low) / 256 ≡ id = omega (arith, small) in e)

  pub low_is : low_of o.entry.address ≡ low
  low_is = ap low_of new.address ∙ (let e : (256 * id + low) % 256 ≡ low = omega (arith, small) in e)

  pub unused : is_used m id ≡ false
  unused = not_true (is_used m id) (filter_test (λ k. not (is_used m k)) (range_with_len 3 (id_limit m.geometry - 3)) id new.is_new)

  pub high : 3 ≤ id
  high = (range_bounds 3 (id_limit m.geometry - 3) id (from_filter (λ k. not (is_used m k)) (range_with_len 3 (id_limit m.geometry - 3)) id new.is_new)).0

  pub some_parts : 0 < length parts
  some_parts = by parts (let enough = new.plan.taken.enough in let some = units_some m n is new.some in let e : 0 < bits_in parts = omega (arith, enough, some) in e)
    where
      by : (ps : List ZoneRun) → 0 < bits_in ps → 0 < length ps
      by [] h = absurd (omega (arith, h))
      by (p ∷ ps) h = omega arith

  pub runs_are : IsPermutation (as_runs id parts) (id_runs m' id)
  runs_are =
      IsPermutation-sym (id_runs m' id) (as_runs id parts)
      (subst (λ (xs : List ZoneRun). IsPermutation (id_runs m' id) (xs ++ as_runs id parts)) (no_runs m id some_zones unused) (space.own some_parts))

  pub taken : IsTaken m.geometry (hole_runs m) (units m.geometry n) (id_runs m' id)
  taken = taken_in_order m.geometry (hole_runs m) (units m.geometry n) id parts (id_runs m' id) runs_are new.plan.taken

  pub same_left : holes_left (hole_runs m) (id_runs m' id) ≡ holes_left (hole_runs m) parts
  same_left = sym (left_in_order id parts (id_runs m' id) runs_are apart (hole_runs m))
    where
      apart : AreApart parts
      apart place = let h = holes_apart m is place in let cut = cut_of_plan m.geometry (hole_runs m) (units m.geometry n) parts new.plan in omega (arith, cut.once place)

  pub same_bits : bits_in (id_runs m' id) ≡ bits_in parts
  same_bits = sum_by-IsPermutation (λ (p : ZoneRun). p.1.len) (as_runs id parts) (id_runs m' id) runs_are ∙ as_many 0 parts
    where
      as_many : (n : ℕ) (ps : List ZoneRun) → fold (λ k (p : ZoneRun). k + p.1.len) n (as_runs id ps) ≡ fold (λ k (p : ZoneRun). k + p.1.len) n ps
      as_many n [] = refl
      as_many n (p ∷ ps) = as_many (n + p.1.len) ps

  -- a sector of a part lies in its hole
  front_holds : (g : Geometry) (hole part : ZoneRun) (s : ℕ) → 0 < g.sector → IsFront g hole part → HoldsSector g part s → HoldsSector g hole s
  front_holds g hole part s size front holds =
      let place = same_place hole part front.at_front in
      let first : first_sector g hole ≡ first_sector g part =
      ap₂ (λ (z start : ℕ). (base g z + (start - first_bit z)) * g.bit_bytes / g.sector) place.0 place.1 in
      let within = front.within in
      let bytes : part.1.len * g.bit_bytes ≤ hole.1.len * g.bit_bytes = mul-le-mul_right {m = part.1.len} {n = hole.1.len} g.bit_bytes within in
      let whole = div-mul-le_self (part.1.len * g.bit_bytes) g.sector in
      let count : sector_count g part ≤ sector_count g hole = le-div (sector_count g part) (hole.1.len * g.bit_bytes) g.sector size (omega (arith, bytes, whole)) in
      let from = holds.from in
      let to = holds.to in
      record { from = omega (arith, first, from); to = omega (arith, first, to, count) }

  pub in_holes : 0 < m.geometry.sector → (s : ℕ) → is_among (id_sectors m' id) s ≡ true → is_among (hole_sectors (Layout.New m)) s ≡ true
  in_holes size s h =
      let p = holder_of m'.geometry (id_runs m' id) s h in
      let part = from_map (with_id id) parts p.0 (Contains-permutation (id_runs m' id) (as_runs id parts) p.0 (IsPermutation-sym (as_runs id parts) (id_runs m' id) runs_are) p.1.0) in
      let holds : HoldsSector m.geometry part.0 s =
      subst (λ (g : Geometry). HoldsSector g part.0 s) same (turn m'.geometry part.0 (subst (λ (q : ZoneRun). HoldsSector m'.geometry q s) (sym part.2) p.1.1)) in
      let front = All-contains (λ q. (hole : ZoneRun) × Contains (hole_runs m) hole × IsFront m.geometry hole q) parts part.0 new.plan.taken.fronts part.1 in
      held_in m.geometry (hole_runs m) front.0 s front.1 (front_holds m.geometry front.0 part.0 s size front.2 holds)
    where
      turn : (g : Geometry) (q : ZoneRun) → HoldsSector g (with_id id q) s → HoldsSector g q s
      turn g q k = record { from = k.from; to = k.to }

-- ---- in slack

-- what is known of a share in slack
pub record IsShared (m : Map) (objects : List Object) (n : ℕ) (share : ℕ × ℕ) : Type 0 where
  pub high : 3 ≤ share.0
  pub low : share.1 < 256
  pub some : 0 < n
  pub owner : Object
  pub owner_in : Contains objects owner
  pub owns : is_owner_of share.0 owner ≡ true
  pub sectors : List ℕ
  pub at : new_sectors m (256 * share.0 + share.1) n ≡ Some sectors
  pub apart : (p : Object) → Contains objects p → is_owner_of share.0 p ≡ true → is_apart sectors p.sectors ≡ true

pub is_shared : (m : Map) (objects : List Object) (dir : Path) (n : ℕ) (share : ℕ × ℕ) → slack m objects dir n ≡ Some share → IsShared m objects n share
unfolding slack_among
is_shared m objects dir n share h = by (n == 0) refl h
  where
    abbrev_holdings : List (Holding Path)
    abbrev_holdings = map holding_of (filter has_sectors objects)

    test : ℕ × ℕ → Bool
    test s = is_shareable is_same_path dir (holdings_in (map holding_of (filter has_sectors objects)) s.0) && is_spare m (holdings_in (map holding_of (filter has_sectors objects)) s.0) s.0 s.1 n

    pair : (ids : List ℕ) → Contains (flat_map (λ id. map (λ low. (id, low)) (range_with_len 1 255)) ids) share → Contains ids share.0 × Contains (range_with_len 1 255) share.1
    pair ids at =
        let i = in_flat (λ (id : ℕ). map (λ (low : ℕ). let s : ℕ × ℕ = (id, low) in s) (range_with_len 1 255)) ids share at in
        let l = from_map (λ (low : ℕ). let s : ℕ × ℕ = (i.0, low) in s) (range_with_len 1 255) share i.2 in
        (subst (λ (k : ℕ). Contains ids k) (ap (λ (s : ℕ × ℕ). s.0) l.2) i.1, subst (λ (k : ℕ). Contains (range_with_len 1 255) k) (ap (λ (s : ℕ × ℕ). s.1) l.2) l.1)

    first : (hs : List (Holding Path)) → nat_lt 0 (length hs) ≡ true → (x : Holding Path) × Contains hs x
    first [] g = absurd (let low = ltb-true 0 0 g in omega arith)
    first (x ∷ hs) g = (x, first_in x hs)

    spare : (o : Option (List ℕ)) (hs : List (Holding Path)) → option_map_or (λ sectors. is_apart sectors (flat_map (λ (x : Holding Path). x.sectors) hs)) o false ≡ true
        → (sectors : List ℕ) × (o ≡ Some sectors) × (is_apart sectors (flat_map (λ (x : Holding Path). x.sectors) hs) ≡ true)
    spare None hs g = absurd (cc)
    spare (Some sectors) hs g = (sectors, refl, g)

    by : (b : Bool) → (n == 0) ≡ b → cond b None (find (λ s. is_shareable is_same_path dir (holdings_in (map holding_of (filter has_sectors objects)) s.0) && is_spare m (holdings_in (map holding_of (filter has_sectors objects)) s.0) s.0 s.1 n) (shares m)) ≡ Some share
        → IsShared m objects n share
    by true e g = absurd (cc)
    by false e g =
        let f = found_in test (shares m) share g in
        let place = pair (range_with_len 3 (id_limit m.geometry - 3)) f.0 in
        let all = map holding_of (filter has_sectors objects) in
        let hs = holdings_in all share.0 in
        let shareable = and_first (is_shareable is_same_path dir hs) (is_spare m hs share.0 share.1 n) f.1 in
        let one = first hs (and_first (nat_lt 0 (length hs)) (list_all (may_share_with is_same_path dir) hs) shareable) in
        let of = from_map holding_of (filter has_sectors objects) one.0 (from_filter (λ (x : Holding Path). x.id == share.0) all one.0 one.1) in
        let same_id : (id_of of.0.entry.address == share.0) ≡ true = ap (λ (x : Holding Path). x.id == share.0) of.2 ∙ filter_test (λ (x : Holding Path). x.id == share.0) all one.0 one.1 in
        let s = spare (new_sectors m (256 * share.0 + share.1) n) hs (and_second (is_shareable is_same_path dir hs) (is_spare m hs share.0 share.1 n) f.1) in
        record {
          high = (range_bounds 3 (id_limit m.geometry - 3) share.0 place.0).0;
          low = (range_bounds 1 255 share.1 place.1).1;
          some = not_zero n e;
          owner = of.0;
          owner_in = from_filter has_sectors objects of.0 of.1;
          owns = ap₂ (λ (a b : Bool). a && b) (filter_test has_sectors objects of.0 of.1) same_id;
          sectors = s.0;
          at = s.1;
          apart = λ p at owns.
              apart_from s.0 p.sectors
              (λ t i j. clash (is_among (flat_map (λ (x : Holding Path). x.sectors) hs) t)
              (is_in_flat (λ (x : Holding Path). x.sectors) hs (holding_of p) t
              (in_filter (λ (x : Holding Path). x.id == share.0) all (holding_of p)
              (in_mapped holding_of (filter has_sectors objects) p (in_filter has_sectors objects p at (and_first (has_sectors p) (id_of p.entry.address == share.0) owns)))
              (and_second (has_sectors p) (id_of p.entry.address == share.0) owns)) j)
              (apart_at s.0 (flat_map (λ (x : Holding Path). x.sectors) hs) t s.2 i));
        }
