-- The unused identifiers of a map from one on.
use Rattle.std.proofs.Common.{◌≡◌, ◌≤◌, ◌^◌, ℕ, zero, suc, ◌+◌, ◌-◌, Bool, true, false, cond, List, [], ◌∷◌, drop, get_or, refl, sym, ap, ◌∙◌, arith}
use Rattle.fc_record.specs.declared.Geometry.{Geometry}
use Rattle.fc_record.specs.Record.{id_limit}
use Rattle.fc_newmap.specs.Map.{Map}
use Rattle.fc_newmap.specs.NewMap.{IsOfRecord}
use Rattle.fc_newmap.specs.Ids.{unused_from}
use Rattle.fc_newmap.proofs.IdLemmas.{is_unused, unused_none, unused_step}
use Rattle.fc_newmap.proofs.TallyLemmas.{ids_few}

-- ---- what is left after the first unused identifier

unused_on : (m : Map) (n from id : ℕ) (rest : List ℕ) → id_limit m.geometry - from ≡ n → unused_from m from ≡ id ∷ rest → unused_from m (id + 1) ≡ rest
unused_on m zero from id rest e is = absurd (none_first id rest (sym (unused_none m from (omega arith)) ∙ is))
  where
    none_first : (x : ℕ) (xs : List ℕ) → [] ≡ x ∷ xs → ⊥
    none_first x xs e = cc
unused_on m (suc n) from id rest e is = by (is_unused m from) (sym (unused_step m from (omega arith)) ∙ is) (unused_on m n (from + 1) id rest (omega arith))
  where
    by : (b : Bool) → cond b (from ∷ unused_from m (from + 1)) (unused_from m (from + 1)) ≡ id ∷ rest → (unused_from m (from + 1) ≡ id ∷ rest → unused_from m (id + 1) ≡ rest) → unused_from m (id + 1) ≡ rest
    by true same later = ap (λ (k : ℕ). unused_from m (k + 1)) (sym (ap (λ (xs : List ℕ). get_or xs 0 0) same)) ∙ ap (drop 1) same
    by false same later = later same

-- Where the map may be another one and the same is left, the least one comes first, and the others are after it.
pub unused_behind : (m now : Map) (from next id : ℕ) (ids : List ℕ) → unused_from m from ≡ ids → unused_from m from ≡ id ∷ unused_from m (id + 1) → unused_from now next ≡ ids
    → ids ≡ id ∷ unused_from now (id + 1)
unused_behind m now from next id ids is least same =
    let first = sym is ∙ least in
    first ∙ ap (λ (rest : List ℕ). id ∷ rest) (sym (unused_on now (id_limit now.geometry - next) next id (unused_from m (id + 1)) refl (same ∙ first)))

-- ---- how many identifiers

pub limit_few : (g : Geometry) → IsOfRecord g → id_limit g ≤ 524288
limit_few g of = let few = ids_few g of in let low : id_limit g ≤ 2 ^ g.idlen = omega arith in omega arith
