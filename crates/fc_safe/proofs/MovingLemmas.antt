-- Identifiers that move, and the needs that they are.
use Rattle.std.proofs.Common.{◌≡◌, ◌<◌, ◌&&◌, ◌==◌, ℕ, zero, suc, ◌+◌, Bool, true, false, List, [], ◌∷◌, ◌++◌, length, get_or, map, take, refl, sym, ap, subst, ◌∙◌, arith, Some}
use Rattle.std.specs.Prelude.{Contains, filter, nat_lt}
use Rattle.std.specs.List.{range_with_len}
use Rattle.std.specs.List.Sorted.{IsStrictlyIncreasing}
use Rattle.std.proofs.lemmas.Bool.{and_parts, eqb-true, lt-ltb}
use Rattle.std.proofs.lemmas.List.Kept.{IsStrictlyIncreasing-filter}
use Rattle.fc_alloc.specs.declared.owner.Owner.{Owner}
use Rattle.fc_record.specs.declared.Geometry.{Geometry}
use Rattle.fc_record.specs.Record.{id_limit}
use Rattle.fc_plan.specs.Giving.{is_one_of}
use Rattle.fc_safe.specs.Moving.{paired_needs}
use Rattle.fc_safe.specs.Staying.{changed_ids, holds_changed, remains}
use Rattle.fc_safe.specs.declared.needs.Need.{Need}
use Rattle.fc_safe.proofs.ListLemmas.{found_of}
use Rattle.fc_safe.proofs.SetLemmas.{same_sets}
use Rattle.fc_safe.proofs.ZoneLemmas.{in_range}
pub use Rattle.fc_changes.proofs.StepsLemmas.{range_rises}

-- A set of numbers below a limit is what a test leaves of all that are.
pub set_is : (t : ℕ → Bool) (n : ℕ) (xs : List ℕ) → IsStrictlyIncreasing xs → ((x : ℕ) → is_one_of xs x ≡ t x) → ((x : ℕ) → t x ≡ true → x < n) → xs ≡ filter t (range_with_len 0 n)
set_is t n xs rising same low =
    same_sets xs (filter t (range_with_len 0 n)) rising (IsStrictlyIncreasing-filter t (range_with_len 0 n) (range_rises 0 n))
    (λ x. same x ∙ by x (t x) refl ∙ sym (in_range t n x))
  where
    by : (x : ℕ) (b : Bool) → t x ≡ b → t x ≡ (nat_lt x n && t x)
    by x true e = sym (ap (λ (b : Bool). b && t x) (lt-ltb x n (low x e)))
    by x false e = e ∙ sym (ap (λ (b : Bool). nat_lt x n && b) e ∙ none (nat_lt x n))
      where
        none : (b : Bool) → (b && false) ≡ false
        none true = refl
        none false = refl

pub ids_are : (g : Geometry) (owners : List Owner) (changed leaving ids : List ℕ) → IsStrictlyIncreasing ids → ((id : ℕ) → is_one_of ids id ≡ holds_changed changed leaving owners id)
    → ((o : Owner) → Contains owners o → o.id < id_limit g) → ids ≡ changed_ids g changed leaving owners
ids_are g owners changed leaving ids rising same low = set_is (holds_changed changed leaving owners) (id_limit g) ids rising same (λ id h.
    (let r = found_of (λ (o : Owner). is_one_of changed o.node && remains leaving id o) owners h in
    let both = and_parts (is_one_of changed r.0.node) (remains leaving id r.0) r.2 in
    let here = and_parts (r.0.id == id) (Rattle.std.specs.Prelude.not (is_one_of leaving r.0.node)) both.1 in
    subst (λ (n : ℕ). n < id_limit g) (eqb-true r.0.id id here.0) (low r.0 r.1)))

-- ---- pairs

pub paired_more : (ids ends : List ℕ) (i : ℕ) → i < length ids → length ends ≡ length ids
    → paired_needs (take (i + 1) ids) (take (i + 1) ends) ≡ paired_needs (take i ids) (take i ends) ++ (let n : Need = record { id = Some (get_or ids i 0); bytes = get_or ends i 0 } in n) ∷ []
paired_more [] ends i low long = absurd (omega (arith, low))
paired_more (id ∷ ids) [] i low long = absurd (omega (arith, long))
paired_more (id ∷ ids) (e ∷ ends) zero low long = refl
paired_more (id ∷ ids) (e ∷ ends) (suc i) low long =
    ap (λ (n : ℕ). paired_needs (take n (id ∷ ids)) (take n (e ∷ ends))) (let e : suc i + 1 ≡ suc (i + 1) = omega arith in e)
    ∙ ap (λ (ns : List Need). (let n : Need = record { id = Some id; bytes = e } in n) ∷ ns) (paired_more ids ends i (omega (arith, low)) (omega (arith, long)))

pub paired_map : (f : ℕ → ℕ) (ids : List ℕ) → paired_needs ids (map f ids) ≡ map (λ (id : ℕ). let n : Need = record { id = Some id; bytes = f id } in n) ids
paired_map f [] = refl
paired_map f (id ∷ ids) = ap (λ (ns : List Need). (let n : Need = record { id = Some id; bytes = f id } in n) ∷ ns) (paired_map f ids)
