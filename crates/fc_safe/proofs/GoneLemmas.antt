-- Identifiers that lose their last owner.
use Rattle.std.proofs.Common.{◌≡◌, ◌&&◌, ◌||◌, ◌==◌, inl, inr, ℕ, zero, suc, Bool, true, false, cond, List, [], ◌∷◌, ◌++◌, length, refl, sym, ap, ap₂, subst, ◌∙◌, arith, eq-eqb, Some, None, Option}
use Rattle.std.specs.Prelude.{Contains, not}
use Rattle.std.specs.List.{find, flat_map, list_any}
use Rattle.std.proofs.lemmas.Bool.{and_parts, cases_Bool, eqb-true}
use Rattle.fc_alloc.specs.declared.owner.Owner.{Owner}
use Rattle.fc_alloc.specs.Owners.{HaveOwnNodes, is_node, owns}
use Rattle.fc_plan.specs.Giving.{is_one_of}
use Rattle.fc_plan.proofs.Taken.{find_is}
use Rattle.fc_placing.specs.Leaving.{has_other}
use Rattle.fc_safe.specs.Gone.{is_left, is_lost_by, left_if, left_of}
use Rattle.fc_safe.specs.Staying.{remains}
use Rattle.fc_safe.proofs.ListLemmas.{any_of, found_of, from_flat, in_flat, same_test}
use Rattle.fc_safe.proofs.SetLemmas.{of_one, one_of}
use Rattle.fc_safe.proofs.StayingLemmas.{own_found}

-- Nobody stays if no other node's owner has the identifier, and this node's leaves it.
pub none_stays : (owners : List Owner) (leaving : List ℕ) (node id : ℕ) → is_one_of leaving node ≡ true → has_other owners node id ≡ false → list_any (remains leaving id) owners ≡ false
none_stays owners leaving node id leaves none = elim (cases_Bool (list_any (remains leaving id) owners)) [
  | inl some ↦
      (let r = found_of (remains leaving id) owners some in
      let both = and_parts (r.0.id == id) (not (is_one_of leaving r.0.node)) r.2 in
      absurd (by (r.0.node == node) r.0 r.1 both.0 both.1 refl))
  | inr nobody ↦ nobody
]
  where
    by : (b : Bool) → (o : Owner) → Contains owners o → (o.id == id) ≡ true → not (is_one_of leaving o.node) ≡ true → (o.node == node) ≡ b → ⊥
    by true o at same stays e =
        let gone : is_one_of leaving o.node ≡ true = ap (is_one_of leaving) (eqb-true o.node node e) ∙ leaves in
        let bad : false ≡ true = sym (ap not gone) ∙ stays in cc
    by false o at same stays e =
        let there : has_other owners node id ≡ true = any_of (λ (p : Owner). (p.id == id) && not (p.node == node)) owners o at (ap₂ (λ (a b : Bool). a && not b) same e) in
        let bad : true ≡ false = sym there ∙ none in cc

-- If it alone leaves, another node's owner stays.
pub one_stays : (owners : List Owner) (leaving : List ℕ) (node id : ℕ) → is_one_of leaving node ≡ true → length leaving ≡ 1 → has_other owners node id ≡ true → list_any (remains leaving id) owners ≡ true
one_stays owners [] node id leaves long other = absurd (omega (arith, long))
one_stays owners (x ∷ y ∷ more) node id leaves long other = absurd (omega (arith, long))
one_stays owners (x ∷ []) node id leaves long other =
    let r = found_of (λ (o : Owner). (o.id == id) && not (o.node == node)) owners other in
    let both = and_parts (r.0.id == id) (not (r.0.node == node)) r.2 in
    any_of (remains (x ∷ []) id) owners r.0 r.1 (by (is_one_of (x ∷ []) r.0.node) r.0 both.0 both.1 refl)
  where
    only : (k : ℕ) → is_one_of (x ∷ []) k ≡ true → x ≡ k
    only k e = go (x == k) refl e
      where
        go : (b : Bool) → (x == k) ≡ b → (b || false) ≡ true → x ≡ k
        go true same h = eqb-true x k same
        go false same h = absurd (cc)

    by : (b : Bool) → (o : Owner) → (o.id == id) ≡ true → not (o.node == node) ≡ true → is_one_of (x ∷ []) o.node ≡ b → ((o.id == id) && not (is_one_of (x ∷ []) o.node)) ≡ true
    by true o same differs e =
        let equal : (o.node == node) ≡ true = eq-eqb o.node node (sym (only o.node e) ∙ only node leaves) in
        let bad : false ≡ true = sym (ap not equal) ∙ differs in absurd (cc)
    by false o same differs e = ap₂ (λ (a b : Bool). a && not b) same e

module _ (owners : List Owner) (leaving : List ℕ) (shared : Option ℕ) (own : HaveOwnNodes owners) where
  -- the identifiers that are found
  from_left : (o : Option Owner) (id : ℕ) → Contains (left_if leaving shared owners o) id → (p : Owner) × (o ≡ Some p) × (p.id ≡ id) × (is_left leaving shared owners id ≡ true)
  from_left None id (k, low, e) = absurd (omega (arith, low))
  from_left (Some p) id at = by (is_left leaving shared owners p.id) refl at
    where
      one : (x : ℕ) → Contains (x ∷ []) id → x ≡ id
      one x (zero, low, e) = e
      one x (suc k, low, e) = absurd (omega (arith, low))

      by : (b : Bool) → is_left leaving shared owners p.id ≡ b → Contains (cond b (p.id ∷ []) []) id → (q : Owner) × (Some p ≡ Some q) × (q.id ≡ id) × (is_left leaving shared owners id ≡ true)
      by true e c = (p, refl, one p.id c, ap (is_left leaving shared owners) (sym (one p.id c)) ∙ e)
      by false e (k, low, f) = absurd (omega (arith, low))

  pub lost_ids : (id : ℕ) → is_one_of (flat_map (left_of leaving shared owners) leaving) id ≡ is_lost_by leaving shared owners id
  lost_ids id = same_test (is_one_of (flat_map (left_of leaving shared owners) leaving) id) (is_lost_by leaving shared owners id) there back
    where
      there : is_one_of (flat_map (left_of leaving shared owners) leaving) id ≡ true → is_lost_by leaving shared owners id ≡ true
      there h =
          let r = from_flat (left_of leaving shared owners) leaving id (of_one (flat_map (left_of leaving shared owners) leaving) id h) in
          let s = from_left (find (is_node r.0) owners) id r.2 in
          let is = find_is (is_node r.0) s.0 owners s.1 in
          ap₂ (λ (a b : Bool). a && b) (any_of (owns id) owners s.0 is.0 (eq-eqb s.0.id id s.2)) s.3

      leaves : (o : Owner) → Contains owners o → (o.id == id) ≡ true → is_left leaving shared owners id ≡ true → is_one_of leaving o.node ≡ true
      leaves o at same left = elim (cases_Bool (is_one_of leaving o.node)) [
        | inl yes' ↦ yes'
        | inr nobody ↦ absurd (
            let stays : list_any (remains leaving id) owners ≡ true = any_of (remains leaving id) owners o at (ap₂ (λ (a b : Bool). a && not b) same nobody) in
            let rest = and_parts (Rattle.std.specs.Prelude.nat_lt 2 id) (not (Rattle.fc_placing.specs.Leaving.is_kept shared id) && not (list_any (remains leaving id) owners)) left in
            let last = and_parts (not (Rattle.fc_placing.specs.Leaving.is_kept shared id)) (not (list_any (remains leaving id) owners)) rest.1 in
            let bad : false ≡ true = sym (ap not stays) ∙ last.1 in cc)
      ]

      back : is_lost_by leaving shared owners id ≡ true → is_one_of (flat_map (left_of leaving shared owners) leaving) id ≡ true
      back h =
          let both = and_parts (list_any (owns id) owners) (is_left leaving shared owners id) h in
          let r = found_of (owns id) owners both.0 in
          let gone = leaves r.0 r.1 r.2 both.1 in
          let here : is_left leaving shared owners r.0.id ≡ true = ap (is_left leaving shared owners) (eqb-true r.0.id id r.2) ∙ both.1 in
          let mine : Contains (left_if leaving shared owners (Some r.0)) id = subst (λ (b : Bool). Contains (cond b (r.0.id ∷ []) []) id) (sym here) (0, omega arith, eqb-true r.0.id id r.2) in
          one_of (flat_map (left_of leaving shared owners) leaving) id
          (in_flat (left_of leaving shared owners) leaving r.0.node id (of_one leaving r.0.node gone)
          (subst (λ (o : Option Owner). Contains (left_if leaving shared owners o) id) (sym (own_found owners r.0 own r.1)) mine))

  pub gone_same : (ids gone : List ℕ) (id : ℕ) → gone ≡ ids ++ flat_map (left_of leaving shared owners) leaving → is_one_of gone id ≡ (is_one_of ids id || is_lost_by leaving shared owners id)
  gone_same ids gone id is = ap (λ (xs : List ℕ). is_one_of xs id) is ∙ either ids ∙ ap (λ (b : Bool). is_one_of ids id || b) (lost_ids id)
    where
      rest : List ℕ
      rest = flat_map (left_of leaving shared owners) leaving

      either : (xs : List ℕ) → is_one_of (xs ++ rest) id ≡ (is_one_of xs id || is_one_of rest id)
      either [] = refl
      either (x ∷ xs) = ap (λ (b : Bool). (x == id) || b) (either xs) ∙ by (x == id) (is_one_of xs id) (is_one_of rest id)
        where
          by : (a b c : Bool) → (a || (b || c)) ≡ ((a || b) || c)
          by true b c = refl
          by false b c = refl
