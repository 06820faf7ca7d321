-- What a map has where a command is not short of space.
use Rattle.std.proofs.Common.{◌≡◌, ◌<◌, ◌≤◌, ◌&&◌, ℕ, zero, suc, ◌+◌, ◌-◌, ◌*◌, Bool, true, false, cond, [], ◌∷◌, length, ◌⊎◌, Contains, None, refl, sym, ap, ap₂, subst, ◌∙◌, inl, inr, arith, lt-ltb}
use Rattle.std.specs.Prelude.{AllPairs, nat_lt, not}
use Rattle.std.specs.List.{AllByRecursion, range_with_len}
use Rattle.std.specs.Option.{option_map_or}
use Rattle.std.proofs.lemmas.Bool.{cases_lt, ltb-false}
use Rattle.std.proofs.lemmas.List.Kept.{AllPairs-cons, AllPairs-filter}
use Rattle.std.proofs.lemmas.List.Elements.{All-contains, All-from_recursion}
use Rattle.fc_names.specs.declared.refusal.Refusal.{Refusal}
use Rattle.fc_names.specs.declared.refusal.Refusal.TheVariants as refusals
use Rattle.fc_record.specs.Record.{id_limit}
use Rattle.fc_model.specs.Answer.{first_of, when}
use Rattle.fc_model.specs.Command.{Command}
use Rattle.fc_newmap.specs.Map.{Map, bits_in, hole_runs, is_used}
use Rattle.fc_newmap.specs.NewMap.{IsNewMap}
use Rattle.fc_image.specs.Layout.{Layout}
use Rattle.fc_image.specs.Opening.{Opened}
use Rattle.fc_image.specs.effects.Sharing.{new_ids}
use Rattle.fc_image.specs.effects.Short.{gain_in, growth_units, is_full_with, needed_bits, needed_ids, object_units, short, space_reasons}
use Rattle.fc_plan.specs.Laws.{AreNewIds, Suffices}
use Rattle.fc_plan.proofs.LeftBits.{second_in_map}
use Rattle.fc_plan.proofs.Order.{filter_all, weaken_all}

-- none of some refusals
second_none : (a b c : Bool) (x y z : Refusal) → first_of (when a x ∷ when b y ∷ when c z ∷ []) ≡ None → b ≡ false
second_none true b c x y z e = absurd (cc)
second_none false true c x y z e = absurd (cc)
second_none false false c x y z e = refl

third_none : (a b c : Bool) (x y z : Refusal) → first_of (when a x ∷ when b y ∷ when c z ∷ []) ≡ None → c ≡ false
third_none true b c x y z e = absurd (cc)
third_none false true c x y z e = absurd (cc)
third_none false false true x y z e = absurd (cc)
third_none false false false x y z e = refl

-- the two tests of space fail
module _ (m : Map) (v : Opened) (c : Command) (new : v.layout ≡ Layout.New m) (none : short v c ≡ None) where
  reasons_are : first_of (when (option_map_or (λ gain. is_full_with gain.listing.content gain) (gain_in v c) false) refusals.DirFull ∷ space_reasons (Layout.New m) v c) ≡ None
  unfolding short
  reasons_are = ap (λ l. first_of (when (option_map_or (λ gain. is_full_with gain.listing.content gain) (gain_in v c) false) refusals.DirFull ∷ space_reasons l v c)) (sym new) ∙ none

  enough_ids : needed_ids m v c ≤ length (new_ids m)
  enough_ids = ltb-false (length (new_ids m)) (needed_ids m v c) (second_none _ _ _ refusals.DirFull refusals.IdsFull refusals.DiscFull reasons_are)

  enough_bits : needed_bits m v c ≤ bits_in (hole_runs m)
  enough_bits = ltb-false (bits_in (hole_runs m)) (needed_bits m v c) (third_none _ _ _ refusals.DirFull refusals.IdsFull refusals.DiscFull reasons_are)

-- the bits of both needs
bits_of_both : (t : Bool) (a b least all : ℕ) → cond t (a + b + 2 * least) (a + b) ≤ all → a + b ≤ all
bits_of_both true a b least all e = omega arith
bits_of_both false a b least all e = omega arith

bits_of_two : (a b least all : ℕ) → 0 < a → cond (nat_lt 0 a && nat_lt 0 b) (a + b + 2 * least) (a + b) ≤ all → (b ≡ 0) ⊎ (a + b + 2 * least ≤ all)
bits_of_two a b least all some e = elim (cases_lt 0 b) [
  | inl more ↦
      inr (let test : (nat_lt 0 a && nat_lt 0 b) ≡ true = ap₂ (λ (x y : Bool). x && y) (lt-ltb 0 a some) (lt-ltb 0 b more) in
      subst (λ (t : Bool). cond t (a + b + 2 * least) (a + b) ≤ all) test e)
  | inr none ↦ inl (omega arith)
]

pub suffices : (m : Map) (v : Opened) (c : Command) → IsNewMap m → v.layout ≡ Layout.New m → short v c ≡ None → Suffices m v c
suffices m v c is new none =
    let a = object_units m v c in
    let b = growth_units m v c in
    let all = bits_in (hole_runs m) in
    let bits : needed_bits m v c ≤ all = enough_bits m v c new none in
    let sum : a + b ≤ all = bits_of_both (nat_lt 0 a && nat_lt 0 b) a b m.geometry.min all bits in
    record {
      ids = enough_ids m v c new none;
      object = omega arith;
      growth = omega arith;
      both = λ parts taken some. elim (bits_of_two a b m.geometry.min all some bits) [
        | inl nothing ↦ omega arith
        | inr enough ↦ second_in_map m parts a b is taken enough
      ];
    }

-- ---- identifiers

abbrev IsWithin : ℕ → ℕ → ℕ → Type 0
IsWithin from n id = (from ≤ id) × (id < from + n)

range_all : (from n : ℕ) → AllByRecursion (IsWithin from n) (range_with_len from n)
range_all from zero = tt
range_all from (suc zero) = ((omega arith, omega arith), tt)
range_all from (suc (suc n)) =
    ((omega arith, omega arith), weaken_all (IsWithin (from + 1) (suc n)) (IsWithin from (suc (suc n))) (λ k w. (omega (arith, w.0), omega (arith, w.1))) (range_with_len (from + 1) (suc n)) (range_all (from + 1) (suc n)))

range_rises : (from n : ℕ) → AllPairs (λ (a b : ℕ). a < b) (range_with_len from n)
range_rises from zero = λ i j d lt in'. absurd (omega arith)
range_rises from (suc zero) = λ i j d lt in'. absurd (omega arith)
range_rises from (suc (suc n)) =
    AllPairs-cons (λ (a b : ℕ). a < b) from (range_with_len (from + 1) (suc n))
    (All-from_recursion (λ (b : ℕ). from < b) (range_with_len (from + 1) (suc n))
    (weaken_all (IsWithin (from + 1) (suc n)) (λ (b : ℕ). from < b) (λ k w. omega (arith, w.0)) (range_with_len (from + 1) (suc n)) (range_all (from + 1) (suc n))))
    (range_rises (from + 1) (suc n))

module _ (m : Map) where
  abbrev limit : ℕ
  limit = id_limit m.geometry

  within : (id : ℕ) → Contains (new_ids m) id → IsWithin 3 (limit - 3) id
  within id among =
      All-contains (IsWithin 3 (limit - 3)) (new_ids m) id
      (All-from_recursion (IsWithin 3 (limit - 3)) (new_ids m) (filter_all (IsWithin 3 (limit - 3)) (λ k. not (is_used m k)) (range_with_len 3 (limit - 3)) (range_all 3 (limit - 3)))) among

  pub are_new_ids : AreNewIds m
  are_new_ids = record {
    some = λ id among. (within id among).0;
    fit = λ id among. (let at = within id among in omega (arith, at.0, at.1));
    rise = AllPairs-filter (λ (a b : ℕ). a < b) (λ k. not (is_used m k)) (range_with_len 3 (limit - 3)) (range_rises 3 (limit - 3));
  }
