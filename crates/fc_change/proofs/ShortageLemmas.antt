-- The space that an object and a directory need, and how a command is refused for want of it.
use Rattle.std.proofs.Common.{◌≡◌, ◌<◌, ◌≤◌, ◌+◌, ◌*◌, ℕ, Bool, true, false, cond, List, [], ◌∷◌, length, Option, Some, None, refl, sym, ap, ap₂, subst, ◌∙◌, ◌^◌, arith, inl, inr}
use Rattle.std.specs.Prelude.{◌&&◌, nat_le, nat_lt, not, Ok}
use Rattle.std.proofs.lemmas.Bool.{le-ltb, leb-false, leb-true, lt-ltb, ltb-false}
use Rattle.fc_names.specs.declared.refusal.Refusal.{Refusal}
use Rattle.fc_names.specs.declared.refusal.Refusal.TheVariants as refusals
use Rattle.fc_model.specs.Answer.{first_of, when}
use Rattle.fc_newmap.specs.Map.{Map, bits_in, hole_runs}
use Rattle.fc_newmap.specs.NewMap.{IsNewMap}
use Rattle.fc_image.specs.effects.Sharing.{new_ids, units}
use Rattle.fc_image.specs.effects.Short.{one_if}
use Rattle.fc_plan.specs.declared.plan.Plan.{Plan}
use Rattle.fc_plan.specs.Parts.{fronts}
use Rattle.fc_plan.specs.Supply.{Stock, stock_of}
use Rattle.fc_plan.proofs.LeftBits.{second_in_map}
use Rattle.fc_plan.proofs.Units.{units_some}
use Rattle.fc_change.specs.declared.placing.growth.Growing.{Growing}
use Rattle.fc_change.specs.declared.placing.growth.Growing.TheVariants as growings
use Rattle.fc_change.specs.Planning.{HasSpace, HasSpaceFor, HasSpaceIf, IsLonger, IsObjectTaken, alone_in, len_moved}
use Rattle.fc_change.specs.Shortage.{AnswersBits, bits_for, ids_for, short_of}
use Rattle.fc_record.specs.declared.Geometry.{Geometry}
use Rattle.fc_record.specs.Record.{id_limit}
use Rattle.fc_newmap.specs.NewMap.{IsOfRecord}
use Rattle.fc_newmap.proofs.GeometryLemmas.{facts_of_valid}
use Rattle.fc_newmap.proofs.HeldLemmas.{geometry_facts}
use Rattle.fc_newmap.proofs.TallyLemmas.{ids_few}

-- ---- the shortest run

pub min_few : (g : Geometry) → IsOfRecord g → g.min < 2 ^ 32
min_few g of =
    let facts = geometry_facts g of in
    let room : 480 + g.min ≤ g.zone_size = subst (λ (h : Geometry). 480 + h.min ≤ h.zone_size) of.1.1 (facts_of_valid of.0 of.1.0).room in
    let header = facts.header in
    elim facts.size [
      | inl small ↦ omega (arith, room, header, small)
      | inr more ↦ elim more [ inl middle ↦ omega (arith, room, header, middle) | inr large ↦ omega (arith, room, header, large) ]
    ]

-- ---- identifiers

pub id_few : (g : Geometry) (id : ℕ) → IsOfRecord g → id < id_limit g → id < 2 ^ 19
id_few g id of low = let few = ids_few g of in let least : id_limit g ≤ 2 ^ g.idlen = omega arith in omega (arith, few, least, low)

-- ---- nothing is needed

none_lacks : (n : ℕ) → nat_lt n 0 ≡ false
none_lacks n = le-ltb n 0 (omega arith)

pub short_of_none : (m : Map) (bytes : ℕ) (alone : Bool) (len : ℕ) → bytes ≡ 0 → len ≡ 0 → short_of m bytes alone len ≡ None
short_of_none m bytes alone len b l =
    ap₂ (λ (x y : ℕ). short_of m x alone y) b l
    ∙ ap₂ (λ (x y : Bool). first_of (when x refusals.IdsFull ∷ when y refusals.DiscFull ∷ [])) (none_lacks (length (new_ids m))) (none_lacks (bits_in (hole_runs m)))

-- ---- enough

both_false : (a b : Bool) → first_of (when a refusals.IdsFull ∷ when b refusals.DiscFull ∷ []) ≡ None → (a ≡ false) × (b ≡ false)
both_false true b e = absurd (cc)
both_false false true e = absurd (cc)
both_false false false e = (refl, refl)

not_empty : (xs : List ℕ) → 1 ≤ length xs → xs ≡ [] → ⊥
not_empty [] long e = absurd (omega (arith, long))
not_empty (x ∷ xs) long e = absurd (cc)

-- If none is short, so many identifiers are left, and so many bits.
module _ (m : Map) (is : IsNewMap m) (bytes : ℕ) (alone : Bool) (len : ℕ) (none : short_of m bytes alone len ≡ None) where
  abbrev object : ℕ
  object = units m.geometry bytes

  abbrev dir : ℕ
  dir = units m.geometry len

  enough : (nat_lt (length (new_ids m)) (ids_for object alone dir) ≡ false) × (nat_lt (bits_in (hole_runs m)) (bits_for m.geometry object dir) ≡ false)
  enough = both_false (nat_lt (length (new_ids m)) (ids_for object alone dir)) (nat_lt (bits_in (hole_runs m)) (bits_for m.geometry object dir)) none

  ids : ids_for object alone dir ≤ length (new_ids m)
  ids = ltb-false (length (new_ids m)) (ids_for object alone dir) enough.0

  bits : bits_for m.geometry object dir ≤ bits_in (hole_runs m)
  bits = ltb-false (bits_in (hole_runs m)) (bits_for m.geometry object dir) enough.1

  -- for both together, and for each
  sum : object + dir ≤ bits_for m.geometry object dir
  sum = by (nat_lt 0 object && nat_lt 0 dir)
    where
      by : (b : Bool) → object + dir ≤ cond b (object + dir + 2 * m.geometry.min) (object + dir)
      by true = omega arith
      by false = omega arith

  one_more : (0 < bytes) → ids_for object alone dir ≡ 1 + cond (nat_lt 0 dir) (one_if (not alone)) 0
  one_more some = ap (λ (b : Bool). one_if b + cond (nat_lt 0 dir) (one_if (not alone)) 0) (lt-ltb 0 object (units_some m bytes is some))

  -- the second identifier
  second : 0 < len → alone ≡ false → cond (nat_lt 0 dir) (one_if (not alone)) 0 ≡ 1
  second some e = ap₂ (λ (b a : Bool). cond b (one_if (not a)) 0) (lt-ltb 0 dir (units_some m len is some)) e

  pub object_space : 0 < bytes → HasSpace (stock_of m) bytes
  object_space some = record {
    ids = not_empty (new_ids m) (let all = ids in let one = one_more some in omega (arith, all, one));
    bits = (let all = bits in let both = sum in omega (arith, all, both));
  }

  -- what an object's plan leaves
  module _ (old left : Stock) (all : old ≡ stock_of m) (longer : 0 < len) where
    left_ids : (plan : Option Plan) → IsObjectTaken old left bytes plan → alone ≡ false → 1 ≤ length left.ids
    left_ids None p e =
        let same : length left.ids ≡ length (new_ids m) = ap (λ (s : Stock). length s.ids) (p.1 ∙ all) in
        let more = ids in
        let two = second longer e in
        omega (arith, same, more, two)
    left_ids (Some plan) p e =
        let same : length (new_ids m) ≡ 1 + length left.ids = sym (ap (λ (s : Stock). length s.ids) all) ∙ ap (λ (xs : List ℕ). length xs) p.id ∙ omega arith in
        let more = ids in
        let one = one_more p.some in
        let two = second longer e in
        omega (arith, same, more, one, two)

    both_bits : 0 < bytes → object + dir + 2 * m.geometry.min ≤ bits_in (hole_runs m)
    both_bits some =
        subst (λ (b : Bool). cond b (object + dir + 2 * m.geometry.min) (object + dir) ≤ bits_in (hole_runs m))
        (ap₂ (λ (a b : Bool). a && b) (lt-ltb 0 object (units_some m bytes is some)) (lt-ltb 0 dir (units_some m len is longer))) bits

    left_bits : (plan : Option Plan) → IsObjectTaken old left bytes plan → units left.geometry len ≤ bits_in left.holes
    left_bits None p = subst (λ (s : Stock). units s.geometry len ≤ bits_in s.holes) (sym (p.1 ∙ all)) (let more = bits in let both = sum in omega (arith, more, both))
    left_bits (Some plan) p =
        subst (λ (s : Stock). units s.geometry len ≤ bits_in s.holes) (sym p.rest)
        (subst (λ (s : Stock). units s.geometry len ≤ bits_in (Rattle.fc_image.specs.effects.Placed.holes_left s.holes (fronts plan.parts.items))) (sym all)
        (second_in_map m (fronts plan.parts.items) object dir is (subst (λ (s : Stock). Rattle.fc_image.specs.effects.Placed.IsTaken s.geometry s.holes (units s.geometry bytes) (fronts plan.parts.items)) all p.plan.taken) (both_bits p.some)))

    pub growth_space : (plan : Option Plan) → IsObjectTaken old left bytes plan → HasSpaceFor left alone len
    growth_space plan p = record { some = longer; ids = λ e. not_empty left.ids (left_ids plan p e); bits = left_bits plan p }

-- So there is enough for a directory after an object.
pub space_after : (m : Map) (is : IsNewMap m) (bytes : ℕ) (x : Growing) → short_of m bytes (alone_in x) (len_moved x) ≡ None → IsLonger x → (old left : Stock) → old ≡ stock_of m → (plan : Option Plan)
    → IsObjectTaken old left bytes plan → HasSpaceIf left x
space_after m is bytes growings.Nothing none longer old left all plan p = tt
space_after m is bytes (growings.There q) none longer old left all plan p = tt
space_after m is bytes (growings.Moves growth address alone) none longer old left all plan p = growth_space m is bytes alone growth.len none old left all longer plan p

-- ---- what the holes have

pub bits_suffice : (m : Map) (refusal : Option Refusal) (bits : ℕ) → AnswersBits m refusal (Ok bits) → nat_le bits (bits_in (hole_runs m)) ≡ true → refusal ≡ None
bits_suffice m refusal bits is has =
    is ∙ ap (λ (b : Bool). first_of (when b refusals.DiscFull ∷ [])) (le-ltb (bits_in (hole_runs m)) bits (leb-true bits (bits_in (hole_runs m)) has))

-- A supply of all holes that has the bits suffices.
pub stock_suffices : (m : Map) (s : Stock) (refusal : Option Refusal) (bits : ℕ) → s ≡ stock_of m → AnswersBits m refusal (Ok bits) → nat_le bits (bits_in s.holes) ≡ true → refusal ≡ None
stock_suffices m s refusal bits all answers has = bits_suffice m refusal bits answers (subst (λ (t : Stock). nat_le bits (bits_in t.holes) ≡ true) all has)

pub bits_lack : (m : Map) (refusal : Option Refusal) (bits : ℕ) → AnswersBits m refusal (Ok bits) → nat_le bits (bits_in (hole_runs m)) ≡ false → refusal ≡ Some refusals.DiscFull
bits_lack m refusal bits is lacks =
    is ∙ ap (λ (b : Bool). first_of (when b refusals.DiscFull ∷ [])) (lt-ltb (bits_in (hole_runs m)) bits (leb-false bits (bits_in (hole_runs m)) lacks))
