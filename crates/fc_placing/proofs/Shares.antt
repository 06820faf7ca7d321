-- The tests of a share, by owners and by holdings.
use Rattle.std.proofs.Common.{◌≡◌, ◌<◌, ◌≤◌, ◌&&◌, ◌==◌, ℕ, zero, suc, ◌+◌, ◌-◌, ◌*◌, ◌/◌, ◌^◌, Bool, true, false, cond, List, [], ◌∷◌, length, map, take, drop, nat_le, nat_lt, nat_eq, Option, Some, None, refl, sym, ap, ap₂, subst, ◌∙◌, inl, inr, arith}
use Rattle.std.specs.Prelude.{◌||◌, not}
use Rattle.std.specs.List.{find, flat_map, list_all, list_any, range_with_len}
use Rattle.std.specs.Option.{option_map_or}
use Rattle.std.specs.Int.{div_ceil}
use Rattle.std.proofs.lemmas.Bool.{cases_lt, eqb-true, le-leb, leb-true, lt-ltb}
use Rattle.std.proofs.lemmas.List.{length-drop}
use Rattle.std.proofs.lemmas.Grind.{div_ceil_times}
use Rattle.std.proofs.lemmas.Nat.{div-mul-add, div-add-mod'}
use Rattle.fc_alloc.specs.declared.owner.Owner.{Owner}
use Rattle.fc_record.specs.Record.{id_limit}
use Rattle.fc_image.specs.Layout.{first_part, id_of, id_sectors, is_apart, is_object_id, low_of, low_start, new_sectors}
use Rattle.fc_newmap.specs.Map.{Map}
use Rattle.fc_newmap.specs.NewMap.{IsNewMap}
use Rattle.fc_newmap.proofs.CoverLemmas.{Distinct, id_Distinct}
use Rattle.fc_newmap.proofs.GeometryLemmas.{geometry_of_valid}
use Rattle.fc_newmap.proofs.HeldLemmas.{geometry_facts}
use Rattle.fc_newmap.specs.RunsLaw.{IsGeometry}
use Rattle.fc_image.specs.effects.Sharing.{holdings_in, is_shareable, is_spare, may_share_with, shares, slack_among}
use Rattle.fc_placing.specs.Slack.{allows, has_id, holding_in, holdings, is_good, is_room, leaves_free, may_share, shares_from}
use Rattle.fc_placing.proofs.Searches.{find_both, or_else, with_low}
use Rattle.fc_placing.proofs.Intervals.{apart-append, apart_by_places, apart_none}
pub use Rattle.fc_newmap.proofs.TallyLemmas.{ids_few}

-- ---- may it be shared

some_have : (m : Map) (id : ℕ) (owners : List Owner) → nat_lt 0 (length (holdings_in (holdings m owners) id)) ≡ list_any (has_id id) owners
some_have m id [] = refl
some_have m id (o ∷ owners) = by (o.id == id) (some_have m id owners)
  where
    by : (b : Bool) → nat_lt 0 (length (holdings_in (holdings m owners) id)) ≡ list_any (has_id id) owners
        → nat_lt 0 (length (cond b (holding_in m o ∷ holdings_in (holdings m owners) id) (holdings_in (holdings m owners) id))) ≡ (b || list_any (has_id id) owners)
    by true h = lt-ltb 0 (suc (length (holdings_in (holdings m owners) id))) (omega arith)
    by false h = h

all_may : (m : Map) (dir id : ℕ) (owners : List Owner) → list_all (may_share_with nat_eq dir) (holdings_in (holdings m owners) id) ≡ list_all (allows dir id) owners
all_may m dir id [] = refl
all_may m dir id (o ∷ owners) = by (o.id == id) (all_may m dir id owners)
  where
    by : (b : Bool) → list_all (may_share_with nat_eq dir) (holdings_in (holdings m owners) id) ≡ list_all (allows dir id) owners
        → list_all (may_share_with nat_eq dir) (cond b (holding_in m o ∷ holdings_in (holdings m owners) id) (holdings_in (holdings m owners) id)) ≡ ((not b || (o.file && nat_eq o.dir dir && nat_le 1 o.low)) && list_all (allows dir id) owners)
    by true h = ap (λ (c : Bool). (o.file && nat_eq o.dir dir && nat_le 1 o.low) && c) h
    by false h = h

pub same_share : (m : Map) (dir id : ℕ) (owners : List Owner) → is_shareable nat_eq dir (holdings_in (holdings m owners) id) ≡ may_share owners dir id
same_share m dir id owners = ap₂ (λ (a b : Bool). a && b) (some_have m id owners) (all_may m dir id owners)

-- ---- is there room

module _ (m : Map) (id first need : ℕ) (d : Distinct (id_sectors m id)) (some : 0 < need) (fits : first + need ≤ length (id_sectors m id)) where
  abbrev row : List ℕ
  row = take need (drop first (id_sectors m id))

  all_free : (owners : List Owner) → is_apart row (flat_map (λ h. h.sectors) (holdings_in (holdings m owners) id)) ≡ list_all (leaves_free id first need) owners
  all_free [] = apart_none row
  all_free (o ∷ owners) = by (o.id == id) refl (all_free owners)
    where
      by : (b : Bool) → (o.id == id) ≡ b → is_apart row (flat_map (λ h. h.sectors) (holdings_in (holdings m owners) id)) ≡ list_all (leaves_free id first need) owners
          → is_apart row (flat_map (λ h. h.sectors) (cond b (holding_in m o ∷ holdings_in (holdings m owners) id) (holdings_in (holdings m owners) id)))
          ≡ ((not b || (nat_le (first + need) o.first || (nat_le (o.first + o.sectors) first || (o.sectors == 0)))) && list_all (leaves_free id first need) owners)
      by true e h =
          let same : o.id ≡ id = eqb-true o.id id e in
          apart-append row (take o.sectors (drop o.first (id_sectors m o.id))) (flat_map (λ h. h.sectors) (holdings_in (holdings m owners) id))
          ∙ ap₂ (λ (a b : Bool). a && b) (ap (λ (k : ℕ). is_apart row (take o.sectors (drop o.first (id_sectors m k)))) same ∙ apart_by_places (id_sectors m id) d first need o.first o.sectors some fits) h
      by false e h = h

nat_le-same : (a b c e : ℕ) → (a ≤ b → c ≤ e) → (c ≤ e → a ≤ b) → nat_le a b ≡ nat_le c e
nat_le-same a b c e to from = by (nat_le a b) (nat_le c e) refl refl
  where
    by : (s t : Bool) → nat_le a b ≡ s → nat_le c e ≡ t → s ≡ t
    by true true x y = refl
    by false false x y = refl
    by true false x y = absurd (let h = le-leb c e (to (leb-true a b x)) in let k : true ≡ false = sym h ∙ y in cc)
    by false true x y = absurd (let h = le-leb a b (from (leb-true c e y)) in let k : true ≡ false = sym h ∙ x in cc)

address_id : (id low : ℕ) → low < 256 → id_of (256 * id + low) ≡ id
address_id id low byte = ap (λ (n : ℕ). n / 256) (let e : 256 * id + low ≡ id * 256 + low = omega arith in e) ∙ div-mul-add id 256 low byte

address_low : (id low : ℕ) → low < 256 → low_of (256 * id + low) ≡ low
address_low id low byte = (let whole = div-add-mod' (256 * id + low) 256 in let q = address_id id low byte in omega (arith, whole, q))

module _ (m : Map) (owners : List Owner) (id low bytes : ℕ) (d : Distinct (id_sectors m id)) (some : 0 < div_ceil bytes m.geometry.sector) (byte : low < 256) (object : is_object_id m id ≡ true) where
  abbrev need : ℕ
  need = div_ceil bytes m.geometry.sector

  abbrev first : ℕ
  first = low_start m low

  abbrev all : List ℕ
  all = flat_map (λ h. h.sectors) (holdings_in (holdings m owners) id)

  sectors_are : new_sectors m (256 * id + low) bytes ≡ first_part need (drop first (id_sectors m id))
  sectors_are =
      ap₂ (λ (i l : ℕ). cond (is_object_id m i) (first_part need (drop (low_start m l) (id_sectors m i))) None) (address_id id low byte) (address_low id low byte)
      ∙ ap (λ (b : Bool). cond b (first_part need (drop first (id_sectors m id))) None) object

  long_enough : nat_le need (length (drop first (id_sectors m id))) ≡ nat_le (first + need) (length (id_sectors m id))
  long_enough =
      ap (nat_le need) (length-drop first (id_sectors m id))
      ∙ nat_le-same need (length (id_sectors m id) - first) (first + need) (length (id_sectors m id)) (λ h. omega arith) (λ h. omega arith)

  pub same_room : is_spare m (holdings_in (holdings m owners) id) id low bytes ≡ is_room m owners id need low
  same_room =
      ap (λ (o : Option (List ℕ)). option_map_or (λ sectors. is_apart sectors all) o false) sectors_are
      ∙ ap (λ (b : Bool). option_map_or (λ sectors. is_apart sectors all) (cond b (Some (take need (drop first (id_sectors m id)))) None) false) long_enough
      ∙ by (nat_le (first + need) (length (id_sectors m id))) refl
    where
      by : (b : Bool) → nat_le (first + need) (length (id_sectors m id)) ≡ b
          → option_map_or (λ sectors. is_apart sectors all) (cond b (Some (take need (drop first (id_sectors m id)))) None) false ≡ (b && list_all (leaves_free id first need) owners)
      by true e = all_free m id first need d some (leb-true (first + need) (length (id_sectors m id)) e) owners
      by false e = refl

-- ---- all shares

module _ (m : Map) (is : IsNewMap m) (owners : List Owner) (dir bytes : ℕ) (some : 0 < div_ceil bytes m.geometry.sector) where
  abbrev by_holdings : ℕ × ℕ → Bool
  by_holdings s = is_shareable nat_eq dir (holdings_in (holdings m owners) s.0) && is_spare m (holdings_in (holdings m owners) s.0) s.0 s.1 bytes

  abbrev by_owners : ℕ × ℕ → Bool
  by_owners = is_good m owners dir (div_ceil bytes m.geometry.sector)

  distinct : (id : ℕ) → Distinct (id_sectors m id)
  distinct id =
      let r = is.of_record in
      let facts = geometry_facts m.geometry is.of_record in
      let good : IsGeometry m.geometry = subst IsGeometry r.1.1 (geometry_of_valid r.0 r.1.0) in
      id_Distinct m good is.right facts.zones id

  same : (id low : ℕ) → 3 ≤ id → id < id_limit m.geometry → low < 256 → by_holdings (id, low) ≡ by_owners (id, low)
  same id low from to byte =
      let object : is_object_id m id ≡ true = ap₂ (λ (a b : Bool). a && b) (le-leb 2 id (omega arith)) (lt-ltb id (id_limit m.geometry) to) in
      ap₂ (λ (a b : Bool). a && b) (same_share m dir id owners) (same_room m owners id low bytes (distinct id) some byte object)

  lows_same : (id : ℕ) → 3 ≤ id → id < id_limit m.geometry → (n l : ℕ) → l + n ≤ 256 → find by_holdings (map (with_low id) (range_with_len l n)) ≡ find by_owners (map (with_low id) (range_with_len l n))
  lows_same id from to zero l fits = refl
  lows_same id from to (suc zero) l fits = ap (λ (b : Bool). cond b (Some (with_low id l)) None) (same id l from to (omega arith))
  lows_same id from to (suc (suc n)) l fits =
      ap₂ (λ (b : Bool) (o : Option (ℕ × ℕ)). cond b (Some (with_low id l)) o) (same id l from to (omega arith)) (lows_same id from to (suc n) (l + 1) (omega arith))

  shares_same : (n id : ℕ) → 3 ≤ id → id + n ≤ id_limit m.geometry → find by_holdings (shares_from id n) ≡ find by_owners (shares_from id n)
  shares_same zero id from fits = refl
  shares_same (suc zero) id from fits =
      find_both by_holdings (map (with_low id) (range_with_len 1 255)) []
      ∙ ap (λ (o : Option (ℕ × ℕ)). or_else o None) (lows_same id from (omega arith) 255 1 (omega arith))
      ∙ sym (find_both by_owners (map (with_low id) (range_with_len 1 255)) [])
  shares_same (suc (suc n)) id from fits =
      find_both by_holdings (map (with_low id) (range_with_len 1 255)) (shares_from (id + 1) (suc n))
      ∙ ap₂ or_else (lows_same id from (omega arith) 255 1 (omega arith)) (shares_same (suc n) (id + 1) (omega arith) (omega arith))
      ∙ sym (find_both by_owners (map (with_low id) (range_with_len 1 255)) (shares_from (id + 1) (suc n)))

  few_ids : (k : ℕ) → k ≡ id_limit m.geometry - 3 → find by_holdings (shares_from 3 k) ≡ find by_owners (shares_from 3 k)
  few_ids zero e = refl
  few_ids (suc k) e = shares_same (suc k) 3 (omega arith) (omega arith)

  pub slack_is : (bytes == 0) ≡ false → slack_among nat_eq m (holdings m owners) dir bytes ≡ find by_owners (shares_from 3 (id_limit m.geometry - 3))
  unfolding slack_among
  slack_is e = ap (λ (b : Bool). cond b None (find by_holdings (shares m))) e ∙ few_ids (id_limit m.geometry - 3) refl

pub slack_none : (m : Map) (owners : List Owner) (dir bytes : ℕ) → (bytes == 0) ≡ true → slack_among nat_eq m (holdings m owners) dir bytes ≡ None
unfolding slack_among
slack_none m owners dir bytes e =
    ap (λ (b : Bool). cond b None (find (λ s. is_shareable nat_eq dir (holdings_in (holdings m owners) s.0) && is_spare m (holdings_in (holdings m owners) s.0) s.0 s.1 bytes) (shares m))) e

-- ---- how many identifiers

pub some_sectors : (m : Map) (bytes : ℕ) → IsNewMap m → (bytes ≡ 0 → ⊥) → 0 < div_ceil bytes m.geometry.sector
some_sectors m bytes is ne =
    let r = is.of_record in
    let good : IsGeometry m.geometry = subst IsGeometry r.1.1 (geometry_of_valid r.0 r.1.0) in
    let times = (div_ceil_times bytes m.geometry.sector good.some).0 in
    elim (cases_lt 0 (div_ceil bytes m.geometry.sector)) [
      | inl some ↦ some
      | inr none ↦ absurd (
          let zero_is : div_ceil bytes m.geometry.sector ≡ 0 = omega arith in
          let product : div_ceil bytes m.geometry.sector * m.geometry.sector ≡ 0 = ap (λ (k : ℕ). k * m.geometry.sector) zero_is ∙ omega arith in
          let less : bytes ≤ div_ceil bytes m.geometry.sector * m.geometry.sector = times in
          ne (omega arith))
    ]
