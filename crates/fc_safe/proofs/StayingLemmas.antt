-- Owners that stay in their identifiers, and where identifiers end then.
use Rattle.std.proofs.Common.{◌≡◌, ◌<◌, ◌≤◌, ◌&&◌, ◌||◌, ◌==◌, inl, inr, ℕ, zero, suc, ◌+◌, ◌*◌, ◌^◌, Bool, true, false, cond, List, [], ◌∷◌, ◌++◌, length, get_or, count_by, map, take, refl, sym, ap, ap₂, subst, ◌∙◌, arith, eq-eqb, Some, None, Option}
use Rattle.std.specs.Prelude.{Contains, filter, max, not, nat_eq, nat_lt}
use Rattle.std.specs.List.{IsDistinct, find, flat_map, fold, list_any}
use Rattle.std.specs.List.Sorted.{IsStrictlyIncreasing}
use Rattle.std.proofs.lemmas.Bool.{and_parts, cases_eq, eqb-true, ltb-false, ne_eqb}
use Rattle.std.proofs.lemmas.List.{get_or-map, length-map, take_more}
use Rattle.std.proofs.lemmas.List.Elements.{All-contains, All-from_recursion, filter-append}
use Rattle.std.proofs.lemmas.List.Sums.{fold-append}
use Rattle.fc_alloc.specs.declared.owner.Owner.{Owner}
use Rattle.fc_alloc.specs.Owners.{HaveOwnNodes, is_node, owns}
use Rattle.fc_record.specs.declared.Geometry.{Geometry}
use Rattle.fc_newmap.specs.NewMap.{IsOfRecord}
use Rattle.fc_newmap.proofs.HeldLemmas.{geometry_facts, sector_high}
use Rattle.std.proofs.lemmas.Nat.{mul-le}
use Rattle.fc_image.proofs.EntriesLemmas.{from_filter, from_map, in_filter, in_mapped}
use Rattle.fc_plan.specs.Giving.{is_one_of}
use Rattle.fc_plan.proofs.Taken.{find_is}
use Rattle.fc_safe.specs.declared.staying.Longer.{Longer}
use Rattle.fc_safe.specs.declared.staying.Moving.{Moving}
use Rattle.fc_safe.specs.Staying.{AreRaised, end_then, holds_changed, last_end, raised, remains, staying, staying_of}
use Rattle.fc_safe.proofs.ListLemmas.{any_of, found_of, from_flat, in_flat, lists_same, most_same, only_one, passes, same_test}
use Rattle.fc_safe.proofs.SetLemmas.{of_one, one_of, one_place}

-- ---- bytes

pub end_fits : (g : Geometry) (n : ℕ) → IsOfRecord g → n < 2 ^ 48 → n * g.sector < 2 ^ 64
end_fits g n is few =
    let high = sector_high g (geometry_facts g is) in
    let most : n * g.sector ≤ 2 ^ 48 * 1024 = mul-le n g.sector (2 ^ 48) 1024 (omega (arith, few)) high in
    omega (arith, most)

-- ---- the owner of a node

pub own_found : (owners : List Owner) (o : Owner) → HaveOwnNodes owners → Contains owners o → find (is_node o.node) owners ≡ Some o
unfolding IsDistinct
own_found [] o own (k, low, e) = absurd (omega (arith, low))
own_found (p ∷ owners) o own (zero, low, e) =
    ap (λ (b : Bool). cond b (Some p) (find (is_node o.node) owners)) (eq-eqb p.node o.node (ap (λ (q : Owner). q.node) e)) ∙ ap (λ (q : Owner). let r : Option Owner = Some q in r) e
own_found (p ∷ owners) o own (suc k, low, e) =
    let there : Contains owners o = (k, omega (arith, low), e) in
    let apart : nat_eq p.node o.node ≡ false =
    All-contains (λ (m : ℕ). nat_eq p.node m ≡ false) (map (λ (q : Owner). q.node) owners) o.node (All-from_recursion (λ (m : ℕ). nat_eq p.node m ≡ false) (map (λ (q : Owner). q.node) owners) own.0)
    (in_mapped (λ (q : Owner). q.node) owners o there) in
    ap (λ (b : Bool). cond b (Some p) (find (is_node o.node) owners)) (ne_eqb p.node o.node (λ same. (let h : nat_eq p.node o.node ≡ true = eq-eqb p.node o.node same in let bad : true ≡ false = sym h ∙ apart in cc)))
    ∙ own_found owners o own.1 there

-- ---- the owners that are found

module _ (owners : List Owner) (changed leaving : List ℕ) (own : HaveOwnNodes owners) where
  abbrev pub all_found : List Owner
  all_found = flat_map (staying_of owners leaving) changed

  from_staying : (o : Option Owner) (x : Owner) → Contains (staying leaving o) x → (o ≡ Some x) × (is_one_of leaving x.node ≡ false)
  from_staying None x (k, low, e) = absurd (omega (arith, low))
  from_staying (Some p) x at = by (is_one_of leaving p.node) refl at
    where
      one : (y : Owner) → Contains (y ∷ []) x → y ≡ x
      one y (zero, low, e) = e
      one y (suc k, low, e) = absurd (omega (arith, low))

      by : (b : Bool) → is_one_of leaving p.node ≡ b → Contains (cond b [] (p ∷ [])) x → (Some p ≡ Some x) × (is_one_of leaving x.node ≡ false)
      by true e (k, low, f) = absurd (omega (arith, low))
      by false e c = (let same = one p c in (ap (λ (q : Owner). let r : Option Owner = Some q in r) same, subst (λ (q : Owner). is_one_of leaving q.node ≡ false) same e))

  pub found_stays : (o : Owner) → Contains all_found o → Contains owners o × (is_one_of changed o.node ≡ true) × (is_one_of leaving o.node ≡ false)
  found_stays o at =
      let r = from_flat (staying_of owners leaving) changed o at in
      let s = from_staying (find (is_node r.0) owners) o r.2 in
      let is = find_is (is_node r.0) o owners s.0 in
      (is.0, one_of changed o.node (subst (λ (n : ℕ). Contains changed n) (sym (eqb-true o.node r.0 is.1)) r.1), s.1)

  pub stays_found : (o : Owner) → Contains owners o → is_one_of changed o.node ≡ true → is_one_of leaving o.node ≡ false → Contains all_found o
  stays_found o at told stays =
      in_flat (staying_of owners leaving) changed o.node o (of_one changed o.node told)
      (subst (λ (q : Option Owner). Contains (staying leaving q) o) (sym (own_found owners o own at)) (subst (λ (b : Bool). Contains (cond b [] (o ∷ [])) o) (sym stays) (0, omega arith, refl)))

  not_left : (b : Bool) → not b ≡ true → b ≡ false
  not_left true e = absurd (cc)
  not_left false e = refl

  pub changed_ids_same : (id : ℕ) → is_one_of (map (λ (o : Owner). o.id) all_found) id ≡ holds_changed changed leaving owners id
  changed_ids_same id = same_test (is_one_of (map (λ (o : Owner). o.id) all_found) id) (holds_changed changed leaving owners id) there back
    where
      there : is_one_of (map (λ (o : Owner). o.id) all_found) id ≡ true → holds_changed changed leaving owners id ≡ true
      there h =
          let r = from_map (λ (o : Owner). o.id) all_found id (of_one (map (λ (o : Owner). o.id) all_found) id h) in
          let s = found_stays r.0 r.1 in
          any_of (λ (o : Owner). is_one_of changed o.node && remains leaving id o) owners r.0 s.0
          (ap₂ (λ (a b : Bool). a && b) s.1 (ap₂ (λ (a b : Bool). a && not b) (eq-eqb r.0.id id r.2) s.2))

      back : holds_changed changed leaving owners id ≡ true → is_one_of (map (λ (o : Owner). o.id) all_found) id ≡ true
      back h =
          let r = found_of (λ (o : Owner). is_one_of changed o.node && remains leaving id o) owners h in
          let both = and_parts (is_one_of changed r.0.node) (remains leaving id r.0) r.2 in
          let here = and_parts (r.0.id == id) (not (is_one_of leaving r.0.node)) both.1 in
          one_of (map (λ (o : Owner). o.id) all_found) id
          (subst (λ (n : ℕ). Contains (map (λ (o : Owner). o.id) all_found) n) (eqb-true r.0.id id here.0)
          (in_mapped (λ (o : Owner). o.id) all_found r.0 (stays_found r.0 r.1 both.0 (not_left (is_one_of leaving r.0.node) here.1))))

  -- ---- identifiers that nobody shares

  -- Of an identifier with one owner that is the one that is found.
  pub unshared_end : (g : Geometry) (longer : Option Longer) (id : ℕ) → holds_changed changed leaving owners id ≡ true → nat_lt 1 (count_by (owns id) owners) ≡ false
      → last_end g leaving longer all_found id ≡ last_end g leaving longer owners id
  unshared_end g longer id holds alone =
      most_same (end_then g longer) (filter (remains leaving id) all_found) (filter (remains leaving id) owners) there back
    where
      few : count_by (owns id) owners ≤ 1
      few = ltb-false 1 (count_by (owns id) owners) alone

      there : (o : Owner) → Contains (filter (remains leaving id) all_found) o → Contains (filter (remains leaving id) owners) o
      there o at = in_filter (remains leaving id) owners o (found_stays o (from_filter (remains leaving id) all_found o at)).0 (passes (remains leaving id) all_found o at)

      back : (o : Owner) → Contains (filter (remains leaving id) owners) o → Contains (filter (remains leaving id) all_found) o
      back o at =
          let r = found_of (λ (p : Owner). is_one_of changed p.node && remains leaving id p) owners holds in
          let both = and_parts (is_one_of changed r.0.node) (remains leaving id r.0) r.2 in
          let here = and_parts (r.0.id == id) (not (is_one_of leaving r.0.node)) both.1 in
          let test = passes (remains leaving id) owners o at in
          let mine = and_parts (o.id == id) (not (is_one_of leaving o.node)) test in
          let same : r.0 ≡ o = only_one (owns id) owners r.0 o few r.1 (from_filter (remains leaving id) owners o at) here.0 mine.0 in
          in_filter (remains leaving id) all_found o
          (subst (λ (p : Owner). Contains all_found p) same (stays_found r.0 r.1 both.0 (not_left (is_one_of leaving r.0.node) here.1))) test

  pub unshared_ends : (g : Geometry) (longer : Option Longer) (ids : List ℕ) → ((id : ℕ) → is_one_of ids id ≡ true → holds_changed changed leaving owners id ≡ true)
      → list_any (λ (id : ℕ). nat_lt 1 (count_by (owns id) owners)) ids ≡ false → map (last_end g leaving longer all_found) ids ≡ map (last_end g leaving longer owners) ids
  unshared_ends g longer [] holds alone = refl
  unshared_ends g longer (id ∷ ids) holds alone =
      let both = neither (nat_lt 1 (count_by (owns id) owners)) (list_any (λ (k : ℕ). nat_lt 1 (count_by (owns k) owners)) ids) alone in
      ap₂ (λ (n : ℕ) (ns : List ℕ). n ∷ ns) (unshared_end g longer id (holds id (one_of (id ∷ ids) id (0, omega arith, refl))) both.0)
      (unshared_ends g longer ids (λ k h. holds k (one_of (id ∷ ids) k (let at = of_one ids k h in (suc at.0, (let low = at.1 in omega (arith, low)), at.2)))) both.1)
    where
      neither : (a b : Bool) → (a || b) ≡ false → (a ≡ false) × (b ≡ false)
      neither true b e = absurd (cc)
      neither false true e = absurd (cc)
      neither false false e = (refl, refl)

-- ---- one owner after the other

pub end_on : (g : Geometry) (leaving : List ℕ) (longer : Option Longer) (list : List Owner) (o : Owner) (id : ℕ)
    → last_end g leaving longer (list ++ o ∷ []) id ≡ raised g leaving longer o id (last_end g leaving longer list id)
end_on g leaving longer list o id =
    ap (λ (os : List Owner). fold (λ n (p : Owner). max n (end_then g longer p)) 0 os) (filter-append (remains leaving id) list (o ∷ []))
    ∙ fold-append (λ n (p : Owner). max n (end_then g longer p)) 0 (filter (remains leaving id) list) (filter (remains leaving id) (o ∷ []))
    ∙ by (remains leaving id o)
  where
    by : (b : Bool) → fold (λ n (p : Owner). max n (end_then g longer p)) (last_end g leaving longer list id) (cond b (o ∷ []) []) ≡ cond b (max (last_end g leaving longer list id) (end_then g longer o)) (last_end g leaving longer list id)
    by true = refl
    by false = refl

-- Ends of identifiers by the owners up to one.
pub record AreEnds (g : Geometry) (moving : Moving) (list : List Owner) (ids ends : List ℕ) : Type 0 where
  pub as_many : length ends ≡ length ids
  pub are : ends ≡ map (last_end g moving.leaving.items moving.longer list) ids

pub ends_begin : (g : Geometry) (moving : Moving) (ids ends : List ℕ) → ends ≡ map (λ (id : ℕ). 0) ids → AreEnds g moving [] ids ends
ends_begin g moving ids ends e = record { as_many = ap (λ (ns : List ℕ). length ns) e ∙ length-map ids (λ (id : ℕ). 0); are = e }

pub ends_on : (g : Geometry) (moving : Moving) (list : List Owner) (i : ℕ) (d : Owner) (ids old new : List ℕ) → i < length list → AreEnds g moving (take i list) ids old
    → length new ≡ length ids → AreRaised g moving ids (get_or list i d) old new → AreEnds g moving (take (i + 1) list) ids new
ends_on g moving list i d ids old new low before long each =
    let f = last_end g moving.leaving.items moving.longer in
    record {
      as_many = long;
      are = lists_same new (map (f (take (i + 1) list)) ids) (long ∙ sym (length-map ids (f (take (i + 1) list)))) (λ k below.
          (let short : k < length ids = omega (arith, below, long) in
          each k short
          ∙ ap (λ (ns : List ℕ). raised g moving.leaving.items moving.longer (get_or list i d) (get_or ids k 0) (get_or ns k 0)) before.are
          ∙ ap (raised g moving.leaving.items moving.longer (get_or list i d) (get_or ids k 0)) (get_or-map (f (take i list)) ids k 0 0 short)
          ∙ sym (end_on g moving.leaving.items moving.longer (take i list) (get_or list i d) (get_or ids k 0))
          ∙ ap (λ (os : List Owner). f os (get_or ids k 0)) (sym (take_more list i d low))
          ∙ sym (get_or-map (f (take (i + 1) list)) ids k 0 0 short)));
    }

-- ---- one owner

-- what it raises if its identifier is at a place of them
pub raised_there : (g : Geometry) (moving : Moving) (ids : List ℕ) (o : Owner) (old new : List ℕ) (place : ℕ) → IsStrictlyIncreasing ids → place < length ids → get_or ids place 0 ≡ o.id
    → is_one_of moving.leaving.items o.node ≡ false → get_or new place 0 ≡ max (get_or old place 0) (end_then g moving.longer o)
    → ((k : ℕ) → (k ≡ place → ⊥) → get_or new k 0 ≡ get_or old k 0) → AreRaised g moving ids o old new
raised_there g moving ids o old new place rising low here stays now others k below = elim (cases_eq k place) [
  | inl e ↦
      (let mine : remains moving.leaving.items (get_or ids k 0) o ≡ true =
      ap₂ (λ (a b : Bool). a && not b) (eq-eqb o.id (get_or ids k 0) (sym here ∙ ap (λ (n : ℕ). get_or ids n 0) (sym e))) stays in
      ap (λ (n : ℕ). get_or new n 0) e ∙ now ∙ ap (λ (n : ℕ). max (get_or old n 0) (end_then g moving.longer o)) (sym e)
      ∙ ap (λ (b : Bool). cond b (max (get_or old k 0) (end_then g moving.longer o)) (get_or old k 0)) (sym mine))
  | inr apart ↦
      (let other : remains moving.leaving.items (get_or ids k 0) o ≡ false =
      ap (λ (b : Bool). b && not (is_one_of moving.leaving.items o.node)) (ne_eqb o.id (get_or ids k 0) (λ e. apart (one_place ids k place rising below low (sym e ∙ sym here)))) in
      others k apart ∙ ap (λ (b : Bool). cond b (max (get_or old k 0) (end_then g moving.longer o)) (get_or old k 0)) (sym other))
]
