-- The owners that a directory holds, in order, one identifier after the other.
use Rattle.std.proofs.Common.{◌≡◌, ◌<◌, ◌≤◌, ◌&&◌, ◌⊎◌, ℕ, zero, suc, ◌+◌, ◌-◌, Bool, true, false, cond, List, [], ◌∷◌, length, get_or, take, drop, Some, None, inl, inr, refl, sym, ap, subst, ◌∙◌, arith, eq-eqb}
use Rattle.std.specs.Prelude.{filter, nat_le, slice_get}
use Rattle.std.specs.List.{find}
use Rattle.std.specs.List.Sorted.{IsNonDecreasingBy, IsPartitionPoint, IsPermutation}
use Rattle.std.proofs.lemmas.Bool.{cases_eq, leb-false, leb-true, ne_eqb}
use Rattle.std.proofs.lemmas.List.{get_or-drop, get_or-take, length-drop, length-take-le}
use Rattle.std.proofs.lemmas.List.Sorted.{IsNonDecreasingBy-drop, length_permutation}
use Rattle.fc_alloc.specs.declared.owner.Owner.{Owner}
use Rattle.fc_record.specs.Record.{id_limit}
use Rattle.fc_newmap.specs.Map.{Map}
use Rattle.fc_image.proofs.ShuffleLemmas.{IsPermutation-filter}
use Rattle.fc_alloc.specs.Owners.{AreHeldBy, AreInOrder, is_held}
use Rattle.fc_placing.specs.Slack.{has_id, has_shares, is_good, least_low, shares_from}
use Rattle.fc_placing.proofs.OpenLemmas.{none_held}
use Rattle.fc_changes.proofs.BasicLemmas.{and_false}
use Rattle.fc_placing.proofs.Searches.{least_closed, least_share, no_share}

-- ---- the owners of one identifier

-- the first group of these owners is all owners of the identifier, and the rest has those of the others
pub record IsCut (id : ℕ) (owners group rest : List Owner) : Type 0 where
  pub whole : group ≡ filter (has_id id) owners
  pub gone : filter (has_id id) rest ≡ []
  pub others : (other : ℕ) → (other ≡ id → ⊥) → filter (has_id other) rest ≡ filter (has_id other) owners

-- it has an owner, and all are in order
pub record IsFirstGroup (id : ℕ) (owners group rest : List Owner) : Type 0 where
  pub is : IsCut id owners group rest
  pub some : 0 < length group
  pub rises : IsNonDecreasingBy (λ (o : Owner). o.first) group
  pub order : AreInOrder rest
  pub shorter : length rest < length owners
  pub from : (k : ℕ) (d : Owner) → k < length owners → id ≤ (get_or owners k d).id

none_there : (id : ℕ) (owners : List Owner) → ((k : ℕ) (d : Owner) → k < length owners → id < (get_or owners k d).id) → filter (has_id id) owners ≡ []
none_there id [] above = refl
none_there id (o ∷ owners) above =
    ap (λ (b : Bool). cond b (o ∷ filter (has_id id) owners) (filter (has_id id) owners)) (ne_eqb o.id id (λ e. absurd (let more = above 0 o (omega arith) in omega (arith, more, e))))
    ∙ none_there id owners (λ k d in'. above (suc k) d (omega arith))

cut : (id n : ℕ) (owners : List Owner) → n ≤ length owners → ((k : ℕ) (d : Owner) → k < n → (get_or owners k d).id ≡ id) → ((k : ℕ) (d : Owner) → n ≤ k → k < length owners → id < (get_or owners k d).id)
    → IsCut id owners (take n owners) (drop n owners)
cut id zero owners within front back =
    let none = none_there id owners (λ k d in'. back k d (omega arith) in') in
    record { whole = sym none; gone = none; others = λ other ne. refl }
cut id (suc n) [] within front back = absurd (omega arith)
cut id (suc n) (o ∷ owners) within front back =
    let here : o.id ≡ id = front 0 o (omega arith) in
    let rest = cut id n owners (omega arith) (λ k d less. front (suc k) d (omega arith)) (λ k d le less. back (suc k) d (omega arith) (omega arith)) in
    record {
      whole = ap (λ (os : List Owner). o ∷ os) rest.whole ∙ sym (ap (λ (b : Bool). cond b (o ∷ filter (has_id id) owners) (filter (has_id id) owners)) (eq-eqb o.id id here));
      gone = rest.gone;
      others = λ other ne. (
          rest.others other ne
          ∙ sym (ap (λ (b : Bool). cond b (o ∷ filter (has_id other) owners) (filter (has_id other) owners)) (ne_eqb o.id other (λ e. ne (sym e ∙ here)))));
    }

pub none_at : (owners : List Owner) → None ≡ slice_get owners 0 → owners ≡ []
none_at [] e = refl
none_at (o ∷ owners) e = absurd (cc)

first_at : (owners : List Owner) (o : Owner) → slice_get owners 0 ≡ Some o → (0 < length owners) × ((d : Owner) → get_or owners 0 d ≡ o)
first_at [] o e = absurd (cc)
first_at (p ∷ owners) o e = (omega arith, λ d. cc)

module _ (owners : List Owner) (o : Owner) (n : ℕ) (order : AreInOrder owners) (first : slice_get owners 0 ≡ Some o) (within : n ≤ length owners)
    (point : IsPartitionPoint (λ (p : Owner). nat_le p.id o.id ≡ true) (λ (p : Owner). nat_le p.id o.id ≡ false) owners n) where
  pub least : (k : ℕ) (d : Owner) → k < length owners → o.id ≤ (get_or owners k d).id
  least k d in' = (let e = order.ids 0 k d (omega arith) in' in let f = ap (λ (p : Owner). p.id) ((first_at owners o first).1 d) in omega (arith, e, f))

  front : (k : ℕ) (d : Owner) → k < n → (get_or owners k d).id ≡ o.id
  front k d less = (let low = least k d (omega arith) in let high = leb-true (get_or owners k d).id o.id (point.0 k d (omega arith) less) in omega arith)

  first_group : IsCut o.id owners (take n owners) (drop n owners)
  first_group = cut o.id n owners within front (λ k d le less. leb-false (get_or owners k d).id o.id (point.1 k d le less))

  -- it has an owner
  group_some : 0 < n
  group_some = by n refl
    where
      by : (k : ℕ) → n ≡ k → 0 < n
      by zero e = absurd (let at = first_at owners o first in let no = leb-false (get_or owners 0 o).id o.id (point.1 0 o (omega arith) at.0) in let f = ap (λ (p : Owner). p.id) (at.1 o) in omega (arith, no, f))
      by (suc k) e = omega arith

  -- its first sectors do not fall
  group_rises : IsNonDecreasingBy (λ (p : Owner). p.first) (take n owners)
  group_rises i j d le in' =
      let long = length-take-le n owners within in
      let at = get_or-take n owners i d (omega arith) in
      let at' = get_or-take n owners j d (omega arith) in
      rw at (rw at' (order.firsts i j d le (omega arith) (front i d (omega arith) ∙ sym (front j d (omega arith)))))

  rest_in_order : AreInOrder (drop n owners)
  rest_in_order =
      let long = length-drop n owners in
      record {
        ids = IsNonDecreasingBy-drop (λ (p : Owner). p.id) n owners order.ids;
        firsts = λ i j d le in'. (
            let at = get_or-drop n owners i d in
            let at' = get_or-drop n owners j d in
            rw at (rw at' (order.firsts (n + i) (n + j) d (omega arith) (omega arith))));
      }

  pub cut_here : (group rest : List Owner) → group ≡ take n owners → rest ≡ drop n owners → IsFirstGroup o.id owners group rest
  cut_here group rest e f =
      let long = length-take-le n owners within in
      let left = length-drop n owners in
      let size = ap (λ (os : List Owner). length os) e in
      let size' = ap (λ (os : List Owner). length os) f in
      let some = group_some in
      record {
        is = subst (λ (g : List Owner). IsCut o.id owners g rest) (sym e) (subst (λ (r : List Owner). IsCut o.id owners (take n owners) r) (sym f) first_group);
        some = omega (arith, long, size, some);
        rises = subst (IsNonDecreasingBy (λ (p : Owner). p.first)) (sym e) group_rises;
        order = subst AreInOrder (sym f) rest_in_order;
        shorter = omega (arith, left, size', some, within);
        from = least;
      }

-- ---- what is passed

-- all owners of the identifier are ahead, or they are passed and it has no share
abbrev pub IsAheadOrPassed : Map → List Owner → List Owner → ℕ → ℕ → List Owner → ℕ → Type 0
IsAheadOrPassed m owners held dir need rest id =
    (filter (has_id id) rest ≡ filter (has_id id) held) ⊎ ((filter (has_id id) rest ≡ []) × (least_low m owners dir need id ≡ None))

module _ (m : Map) (owners held : List Owner) (dir need : ℕ) (is : AreHeldBy dir owners held) (rest : List Owner) (each : (id : ℕ) → IsAheadOrPassed m owners held dir need rest id) where
  -- those of an identifier are those of it that are held
  of_id : (id : ℕ) → IsPermutation (filter (has_id id) (filter (is_held dir) owners)) (filter (has_id id) held)
  of_id id = IsPermutation-filter (has_id id) (filter (is_held dir) owners) held is.same

  -- an identifier without owners ahead has no share
  none_ahead : (id : ℕ) → filter (has_id id) rest ≡ [] → least_low m owners dir need id ≡ None
  none_ahead id none = elim (each id) [
    | inl ahead ↦
        least_closed m owners dir need id
        (ap (λ (b : Bool). has_shares m id && b) (none_held dir id owners (void (filter (has_id id) (filter (is_held dir) owners)) (subst (λ (os : List Owner). IsPermutation (filter (has_id id) (filter (is_held dir) owners)) os) (sym ahead ∙ none) (of_id id))))
        ∙ and_false (has_shares m id))
    | inr passed ↦ passed.1
  ]
    where
      void : (os : List Owner) → IsPermutation os [] → os ≡ []
      void [] s = refl
      void (o ∷ os) s = absurd (let long = length_permutation (o ∷ os) [] s in omega (arith, long))

  pub all_passed : rest ≡ [] → find (is_good m owners dir need) (shares_from 3 (id_limit m.geometry - 3)) ≡ None
  all_passed none = no_share m owners dir need (λ k. none_ahead k (ap (filter (has_id k)) none))

  module _ (id : ℕ) (group others : List Owner) (first : IsFirstGroup id rest group others) where
    -- the group is all that is held of the identifier
    pub group_found : IsPermutation (filter (has_id id) (filter (is_held dir) owners)) group
    group_found =
        subst (λ (os : List Owner). IsPermutation (filter (has_id id) (filter (is_held dir) owners)) os)
        (sym (first.is.whole ∙ elim (each id) [
          | inl ahead ↦ ahead
          | inr passed ↦ absurd (let none = ap (λ (os : List Owner). length os) (first.is.whole ∙ passed.0) in let some = first.some in omega (arith, none, some))
        ])) (of_id id)

    -- a group without a share is passed
    pub goes_past : least_low m owners dir need id ≡ None → (k : ℕ) → IsAheadOrPassed m owners held dir need others k
    goes_past none k = elim (cases_eq k id) [
      | inl same ↦ subst (λ (j : ℕ). IsAheadOrPassed m owners held dir need others j) (sym same) (inr (first.is.gone, none))
      | inr other ↦ elim (each k) [
        | inl ahead ↦ inl (first.is.others k other ∙ ahead)
        | inr passed ↦ inr (first.is.others k other ∙ passed.0, passed.1)
      ]
    ]

    -- and one that has a share has the first
    pub stops_here : (low : ℕ) → least_low m owners dir need id ≡ Some low → find (is_good m owners dir need) (shares_from 3 (id_limit m.geometry - 3)) ≡ Some (id, low)
    stops_here low found =
        least_share m owners dir need id low (λ j less. none_ahead j (none_there j rest (λ k d in'. (let h = first.from k d in' in omega (arith, h, less))))) found
