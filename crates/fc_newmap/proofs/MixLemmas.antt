-- A copy whose zones are old or new, each by itself.
use Rattle.std.proofs.Common.{◌≡◌, ◌<◌, ◌≤◌, ◌⊎◌, inl, inr, ⊎_elim, ℕ, zero, suc, ◌+◌, Bool, true, false, List, [], ◌∷◌, length, map, get_or, set, refl, sym, ap, ap₂, subst, ◌∙◌, arith}
use Rattle.std.specs.Prelude.{not, ◌&&◌, ◌==◌, slice_index, bit_xor, Contains}
use Rattle.std.specs.List.{list_all, list_any, zip, items_where_true, AllByRecursion}
use Rattle.std.specs.List.Sorted.{IsStrictlyIncreasing}
use Rattle.std.specs.Int.Bits.{xor_assoc, xor_zero_r}
use Rattle.std.proofs.lemmas.Nat.{xor_comm}
use Rattle.std.proofs.lemmas.Bool.{cases_eq, cases_lt, eqb-true, eq-eqb, and_cases as either_none}
use Rattle.std.proofs.lemmas.List.{length-set, length-map, get_or-set_same, get_or-set_other, set-get_or, get_or_past}
use Rattle.std.proofs.lemmas.List.FromFn.{length-map-range_with_len}
use Rattle.std.proofs.lemmas.Slice.Zip.{firsts-zip, seconds-zip}
use Rattle.fc_bytes.specs.Checks.{xor_all, zone_check}
use Rattle.std.proofs.Math.Seq.{map-set_same}
use Rattle.fc_zone.specs.Edits.{sealed}
use Rattle.fc_newmap.specs.Copies.{cross_of, is_check_right, is_sound, sealed_zones}
use Rattle.fc_newmap.specs.Gate.{chosen_deltas, gate_delta, gate_deltas, gated, gated_by, gated_sector, is_mixed}
use Rattle.fc_newmap.proofs.GateLemmas.{cancel, choice_passes, cross-gated, cross-gated_by, gate_of, xor_all-cons, length-gated, IsLong}
use Rattle.fc_newmap.proofs.ReadingLemmas.{same_lists}
use Rattle.fc_newmap.proofs.RepairLemmas.{check-masked, sound_right}
use Rattle.fc_zone.proofs.ReadingLemmas.{first_part}
use Rattle.fc_record.proofs.KindLemmas.{and_second as second_part}

-- ---- zones of a list

-- the zone isn't one of these
abbrev pub NotIn : ℕ → List ℕ → Type 0
NotIn z [] = Unit {0}
NotIn z (y ∷ ys) = (y ≡ z → ⊥) × NotIn z ys

-- no zone stands twice
abbrev pub Distinct : List ℕ → Type 0
Distinct [] = Unit {0}
Distinct (y ∷ ys) = NotIn y ys × Distinct ys

pub not_contained : (zones : List ℕ) (z : ℕ) → NotIn z zones → Contains zones z → ⊥
not_contained [] z out there = omega (arith, there.1)
not_contained (y ∷ ys) z out (zero, lt, is) = out.0 is
not_contained (y ∷ ys) z out (suc k, lt, is) = not_contained ys z out.1 (k, omega (arith, lt), is)

-- what all of them have, the zone has, if it isn't none of them
pub at_or_out : (zones : List ℕ) (z : ℕ) (P : ℕ → Type 0) → AllByRecursion P zones → NotIn z zones ⊎ P z
at_or_out [] z P all = inl tt
at_or_out (y ∷ ys) z P all = elim (cases_eq y z) [
  | inl same ↦ inr (subst P same all.0)
  | inr other ↦ ⊎_elim (λ out. inl (other, out)) (λ p. inr p) (at_or_out ys z P all.1)
]

above : (b : ℕ) (xs : List ℕ) → (0 < length xs → b < slice_index xs 0) → IsStrictlyIncreasing xs → NotIn b xs
above b [] low rising = tt
above b (x ∷ xs) low rising =
    let more : b < x = low (omega arith) in
    ((λ e. omega (arith, e, more)), above b xs (λ some. let next : x < slice_index xs 0 = rising 0 (omega (arith, some)) in omega (arith, more, next)) (tail x xs rising))
  where
    tail : (x : ℕ) (xs : List ℕ) → IsStrictlyIncreasing (x ∷ xs) → IsStrictlyIncreasing xs
    tail x xs rising k lt = let e : suc k + 1 ≡ suc (k + 1) = omega arith in subst (λ (n : ℕ). slice_index xs k < slice_index (x ∷ xs) n) e (rising (suc k) (omega (arith, lt)))

pub rising_distinct : (xs : List ℕ) → IsStrictlyIncreasing xs → Distinct xs
rising_distinct [] rising = tt
rising_distinct (x ∷ xs) rising = (above x xs (λ some. rising 0 (omega (arith, some))) (tail x xs rising), rising_distinct xs (tail x xs rising))
  where
    tail : (x : ℕ) (xs : List ℕ) → IsStrictlyIncreasing (x ∷ xs) → IsStrictlyIncreasing xs
    tail x xs rising k lt = let e : suc k + 1 ≡ suc (k + 1) = omega arith in subst (λ (n : ℕ). slice_index xs k < slice_index (x ∷ xs) n) e (rising (suc k) (omega (arith, lt)))

-- ---- zones that are gated

abbrev pub firsts : List (ℕ × ℕ) → List ℕ
firsts turns = map (λ (t : ℕ × ℕ). t.0) turns

pub length-gated_by : (turns : List (ℕ × ℕ)) (zones : List (List ℕ)) → length (gated_by turns zones) ≡ length zones
length-gated_by [] zones = refl
length-gated_by (t ∷ turns) zones = length-gated_by turns (set zones t.0 (gated_sector (get_or zones t.0 []) t.1)) ∙ length-set zones t.0 (gated_sector (get_or zones t.0 []) t.1)

pub gated_other : (turns : List (ℕ × ℕ)) (zones : List (List ℕ)) (z : ℕ) → NotIn z (firsts turns) → get_or (gated_by turns zones) z [] ≡ get_or zones z []
gated_other [] zones z out = refl
gated_other (t ∷ turns) zones z out =
    gated_other turns (set zones t.0 (gated_sector (get_or zones t.0 []) t.1)) z out.1 ∙ get_or-set_other zones t.0 z (gated_sector (get_or zones t.0 []) t.1) [] (λ e. out.0 (sym e))

-- each of the turns has gated its zone
abbrev pub AreGated : List (ℕ × ℕ) → List (List ℕ) → List (List ℕ) → Type 0
AreGated turns zones new = AllByRecursion (λ t. get_or new t.0 [] ≡ gated_sector (get_or zones t.0 []) t.1) turns

elsewhere : (turns : List (ℕ × ℕ)) (zones new : List (List ℕ)) (z : ℕ) (s : List ℕ) → NotIn z (firsts turns) → AreGated turns (set zones z s) new → AreGated turns zones new
elsewhere [] zones new z s out all = tt
elsewhere (t ∷ turns) zones new z s out all =
    (all.0 ∙ ap (λ (l : List ℕ). gated_sector l t.1) (get_or-set_other zones z t.0 s [] out.0), elsewhere turns zones new z s out.1 all.1)

pub gated_here : (turns : List (ℕ × ℕ)) (zones : List (List ℕ)) → Distinct (firsts turns) → AllByRecursion (λ t. t.0 < length zones) turns → AreGated turns zones (gated_by turns zones)
gated_here [] zones distinct low = tt
gated_here (t ∷ turns) zones distinct low =
    let s = gated_sector (get_or zones t.0 []) t.1 in
    let next = set zones t.0 s in (
      gated_other turns next t.0 distinct.0 ∙ get_or-set_same zones t.0 s [] low.0,
      elsewhere turns zones (gated_by turns next) t.0 s distinct.0 (gated_here turns next distinct.1 (lower turns (length zones) (length next) (sym (length-set zones t.0 s)) low.1)),
    )
  where
    lower : (turns : List (ℕ × ℕ)) (n m : ℕ) → n ≡ m → AllByRecursion (λ t. t.0 < n) turns → AllByRecursion (λ t. t.0 < m) turns
    lower [] n m e all = tt
    lower (t ∷ turns) n m e all = (omega (arith, all.0, e), lower turns n m e all.1)

-- ---- the totals of a mix

-- the total turns by what one CrossCheck turns by
cross-put : (zones : List (List ℕ)) (z delta : ℕ) (s : List ℕ) → z < length zones → slice_index s 3 ≡ bit_xor (slice_index (get_or zones z []) 3) delta → cross_of (set zones z s) ≡ bit_xor (cross_of zones) delta
cross-put [] z delta s lt is = absurd (omega (arith, lt))
cross-put (x ∷ zones) zero delta s lt is =
    xor_all-cons (slice_index s 3) (map cross' zones) ∙ ap (λ n. bit_xor n (cross_of zones)) is ∙ swapped (slice_index x 3) delta (cross_of zones) ∙ ap (λ n. bit_xor n delta) (sym (xor_all-cons (slice_index x 3) (map cross' zones)))
  where
    cross' : List ℕ → ℕ
    cross' t = slice_index t 3

    swapped : (a d t : ℕ) → bit_xor (bit_xor a d) t ≡ bit_xor (bit_xor a t) d
    swapped a d t = xor_assoc a d t ∙ ap (bit_xor a) (xor_comm d t) ∙ sym (xor_assoc a t d)
cross-put (x ∷ zones) (suc z) delta s lt is =
    xor_all-cons (slice_index x 3) (map cross' (set zones z s)) ∙ ap (bit_xor (slice_index x 3)) (cross-put zones z delta s (omega (arith, lt)) is) ∙ sym (xor_assoc (slice_index x 3) (cross_of zones) delta)
    ∙ ap (λ n. bit_xor n delta) (sym (xor_all-cons (slice_index x 3) (map cross' zones)))
  where
    cross' : List ℕ → ℕ
    cross' t = slice_index t 3

abbrev yes : Bool → Bool
yes b = b

-- which of the turned zones are new, and what the CrossChecks then come to
pub record Mixed (turns : List (ℕ × ℕ)) (old new mix : List (List ℕ)) : Type 0 where
  pub flags : List Bool
  pub as_many : length flags ≡ length turns
  pub total : cross_of mix ≡ bit_xor (cross_of old) (xor_all (items_where_true flags (map (λ (t : ℕ × ℕ). t.1) turns)))
  pub none : list_any yes flags ≡ false → mix ≡ old
  pub all : list_any not flags ≡ false → AllByRecursion (λ t. get_or mix t.0 [] ≡ get_or new t.0 []) turns

-- the turned zones have turned CrossChecks
abbrev pub AreTurned : List (ℕ × ℕ) → List (List ℕ) → List (List ℕ) → Type 0
AreTurned turns old new = AllByRecursion (λ t. slice_index (get_or new t.0 []) 3 ≡ bit_xor (slice_index (get_or old t.0 []) 3) t.1) turns

all_but : (turns : List (ℕ × ℕ)) (z : ℕ) (P Q : ℕ × ℕ → Type 0) → NotIn z (firsts turns) → ((t : ℕ × ℕ) → (t.0 ≡ z → ⊥) → P t → Q t) → AllByRecursion P turns → AllByRecursion Q turns
all_but [] z P Q out more all = tt
all_but (t ∷ turns) z P Q out more all = (more t out.0 all.0, all_but turns z P Q out.1 more all.1)

set_again : (xs : List (List ℕ)) (i : ℕ) (a b : List ℕ) → set (set xs i a) i b ≡ set xs i b
set_again [] i a b = refl
set_again (x ∷ xs) zero a b = refl
set_again (x ∷ xs) (suc i) a b = ap (λ l. x ∷ l) (set_again xs i a b)

-- one turn more: its zone is as before, or new
module _ (t : ℕ × ℕ) (turns : List (ℕ × ℕ)) (old new mix : List (List ℕ)) (later : Mixed turns old new (set mix t.0 (get_or old t.0 []))) where
  abbrev held : List ℕ
  held = get_or old t.0 []

  kept_one : get_or mix t.0 [] ≡ held → Mixed (t ∷ turns) old new mix
  kept_one is =
      let same : set mix t.0 held ≡ mix = ap (set mix t.0) (sym is) ∙ set-get_or mix t.0 [] in
      record {
        flags = false ∷ later.flags;
        as_many = omega (arith, later.as_many);
        total = ap cross_of (sym same) ∙ later.total;
        none = λ e. sym same ∙ later.none e;
        all = λ e. absurd (cc);
      }

  turned_one : NotIn t.0 (firsts turns) → t.0 < length mix → slice_index (get_or new t.0 []) 3 ≡ bit_xor (slice_index held 3) t.1 → get_or mix t.0 [] ≡ get_or new t.0 [] → Mixed (t ∷ turns) old new mix
  turned_one out inside turned is =
      let next = set mix t.0 held in
      let fresh = get_or new t.0 [] in
      let whole : set next t.0 fresh ≡ mix = set_again mix t.0 held fresh ∙ ap (set mix t.0) (sym is) ∙ set-get_or mix t.0 [] in
      let here = get_or-set_same mix t.0 held [] inside in
      let lt : t.0 < length next = omega (arith, length-set mix t.0 held, inside) in
      let rest = items_where_true later.flags (map (λ (u : ℕ × ℕ). u.1) turns) in
      let put = cross-put next t.0 t.1 fresh lt (turned ∙ ap (λ (l : List ℕ). bit_xor (slice_index l 3) t.1) (sym here)) in
      record {
        flags = true ∷ later.flags;
        as_many = omega (arith, later.as_many);
        total = ap cross_of (sym whole) ∙ put ∙ ap (λ n. bit_xor n t.1) later.total ∙ xor_assoc (cross_of old) (xor_all rest) t.1
            ∙ ap (bit_xor (cross_of old)) (xor_comm (xor_all rest) t.1 ∙ sym (xor_all-cons t.1 rest));
        none = λ e. absurd (cc);
        all = λ e. (
          is,
          all_but turns t.0 (λ u. get_or next u.0 [] ≡ get_or new u.0 []) (λ u. get_or mix u.0 [] ≡ get_or new u.0 []) out
              (λ u other same. sym (get_or-set_other mix t.0 u.0 held [] other) ∙ same) (later.all e),
        );
      }

pub mixed : (turns : List (ℕ × ℕ)) (old new mix : List (List ℕ)) → Distinct (firsts turns) → AllByRecursion (λ t. t.0 < length old) turns → length mix ≡ length old
    → AreTurned turns old new → AllByRecursion (λ t. (get_or mix t.0 [] ≡ get_or old t.0 []) ⊎ (get_or mix t.0 [] ≡ get_or new t.0 [])) turns
    → ((z : ℕ) → NotIn z (firsts turns) → get_or mix z [] ≡ get_or old z []) → Mixed turns old new mix
mixed [] old new mix distinct low long turned each rest =
    let same = same_lists mix old long (λ k lt. rest k tt) in
    record { flags = []; as_many = refl; total = ap cross_of same ∙ sym (xor_zero_r (cross_of old)); none = λ e. same; all = λ e. tt }
mixed (t ∷ turns) old new mix distinct low long turned each rest =
    let held = get_or old t.0 [] in
    let next = set mix t.0 held in
    let inside : t.0 < length mix = omega (arith, long, low.0) in
    let here = get_or-set_same mix t.0 held [] inside in
    let later = mixed turns old new next distinct.1 low.1 (length-set mix t.0 held ∙ long) turned.1
    (all_but turns t.0 (λ u. (get_or mix u.0 [] ≡ get_or old u.0 []) ⊎ (get_or mix u.0 [] ≡ get_or new u.0 [])) (λ u. (get_or next u.0 [] ≡ get_or old u.0 []) ⊎ (get_or next u.0 [] ≡ get_or new u.0 [])) distinct.0
    (λ u other e. let same = get_or-set_other mix t.0 u.0 held [] other in ⊎_elim (λ a. inl (same ∙ a)) (λ b. inr (same ∙ b)) e) each.1)
    (λ z out. elim (cases_eq z t.0) [
      | inl same ↦ ap (λ n. get_or next n []) same ∙ here ∙ ap (λ n. get_or old n []) (sym same)
      | inr other ↦ get_or-set_other mix t.0 z held [] other ∙ rest z ((λ e. other (sym e)), out)
    ]) in
    ⊎_elim (kept_one t turns old new mix later) (turned_one t turns old new mix later distinct.0 inside turned.0) each.0

-- ---- the gate

small_mix : (flags : List Bool) → length flags < 2 → is_mixed flags ≡ false
small_mix [] few = refl
small_mix (true ∷ []) few = refl
small_mix (false ∷ []) few = refl
small_mix (a ∷ b ∷ flags) few = absurd (omega (arith, few))

mixed_not : (b : Bool) (x : ℕ) → not (b && (x == 0)) ≡ true → x ≡ 0 → b ≡ false
mixed_not false x passes none = refl
mixed_not true x passes none = absurd (let t = eq-eqb x 0 none in let f : not true ≡ true = rw t at passes in cc)

no_mix : (k : ℕ) → k ≤ 9 → (flags : List Bool) → length flags ≡ k → xor_all (items_where_true flags (gate_deltas k)) ≡ 0 → is_mixed flags ≡ false
no_mix zero few flags long none = small_mix flags (omega (arith, long))
no_mix (suc zero) few flags long none = small_mix flags (omega (arith, long))
no_mix (suc (suc k)) few flags long none =
    let passes = choice_passes (suc (suc k)) (λ flags. not (is_mixed flags && (xor_all (chosen_deltas (suc (suc k)) flags) == 0))) (first_part _ (xor_all (gate_deltas (suc (suc k))) == 0) (gate_of (suc (suc k)) (omega arith) few)) flags long in
    mixed_not (is_mixed flags) (xor_all (chosen_deltas (suc (suc k)) flags)) passes none

deltas_cancel : (k : ℕ) → k ≤ 9 → xor_all (gate_deltas k) ≡ 0
deltas_cancel zero few = refl
deltas_cancel (suc zero) few = refl
deltas_cancel (suc (suc k)) few = eqb-true _ _ (second_part _ _ (gate_of (suc (suc k)) (omega arith) few))

all_low : (changed ds : List ℕ) (n : ℕ) → AllByRecursion (λ z. z < n) changed → AllByRecursion (λ (t : ℕ × ℕ). t.0 < n) (zip changed ds)
all_low [] ds n all = tt
all_low (z ∷ changed) [] n all = tt
all_low (z ∷ changed) (d ∷ ds) n all = (all.0, all_low changed ds n all.1)

gated_right : (sector : List ℕ) (delta : ℕ) → IsLong sector → is_check_right (gated_sector sector delta) ≡ true
gated_right sector delta long =
    let turned = set sector 3 (bit_xor (slice_index sector 3) delta) in
    let some : 0 < length turned = omega (arith, long, length-set sector 3 (bit_xor (slice_index sector 3) delta)) in
    eq-eqb _ _ (get_or-set_same turned 0 (zone_check turned) 0 some ∙ sym (check-masked turned (zone_check turned)))

pub all_right_from : (zones : List (List ℕ)) → ((z : ℕ) → z < length zones → is_check_right (get_or zones z []) ≡ true) → list_all is_check_right zones ≡ true
all_right_from [] each = refl
all_right_from (s ∷ zones) each =
    ap₂ (λ a b. a && b) (each 0 (omega arith)) (all_right_from zones (λ z lt. each (suc z) (omega (arith, lt))))

pub same_crosses : (xs ys : List (List ℕ)) → length xs ≡ length ys → ((z : ℕ) → z < length xs → slice_index (get_or xs z []) 3 ≡ slice_index (get_or ys z []) 3) → cross_of xs ≡ cross_of ys
same_crosses xs ys long each = ap xor_all (same_maps xs ys long each)
  where
    same_maps : (xs ys : List (List ℕ)) → length xs ≡ length ys → ((z : ℕ) → z < length xs → slice_index (get_or xs z []) 3 ≡ slice_index (get_or ys z []) 3)
        → map (λ (s : List ℕ). slice_index s 3) xs ≡ map (λ (s : List ℕ). slice_index s 3) ys
    same_maps [] [] long each = refl
    same_maps [] (y ∷ ys) long each = absurd (omega (arith, long))
    same_maps (x ∷ xs) [] long each = absurd (omega (arith, long))
    same_maps (x ∷ xs) (y ∷ ys) long each =
        ap (λ n. n ∷ map (λ (s : List ℕ). slice_index s 3) xs) (each 0 (omega arith)) ∙ ap (λ (l : List ℕ). slice_index y 3 ∷ l) (same_maps xs ys (omega (arith, long)) (λ z lt. each (suc z) (omega (arith, lt))))

all_long : (zones : List (List ℕ)) → ((z : ℕ) → z < length zones → 4 ≤ length (get_or zones z [])) → AllByRecursion IsLong zones
all_long [] long = tt
all_long (s ∷ zones) long = (long 0 (omega arith), all_long zones (λ z lt. long (suc z) (omega (arith, lt))))

over_firsts : (turns : List (ℕ × ℕ)) (P : ℕ → Type 0) → AllByRecursion (λ t. P t.0) turns → AllByRecursion P (firsts turns)
over_firsts [] P all = tt
over_firsts (t ∷ turns) P all = (all.0, over_firsts turns P all.1)

all_both : (turns : List (ℕ × ℕ)) (P Q R : ℕ × ℕ → Type 0) → ((t : ℕ × ℕ) → P t → Q t → R t) → AllByRecursion P turns → AllByRecursion Q turns → AllByRecursion R turns
all_both [] P Q R both ps qs = tt
all_both (t ∷ turns) P Q R both ps qs = (both t ps.0 qs.0, all_both turns P Q R both ps.1 qs.1)

-- Old zones, a map with their CrossChecks, and the map's changed zones gated.
module _ (old base : List (List ℕ)) (changed : List ℕ) (few : length changed ≤ 9) (rising : IsStrictlyIncreasing changed) (places : AllByRecursion (λ z. z < length base) changed)
    (same_length : length base ≡ length old) (long : (z : ℕ) → z < length base → 4 ≤ length (get_or base z [])) (sound : is_sound old ≡ true)
    (crosses : (z : ℕ) → z < length base → slice_index (get_or base z []) 3 ≡ slice_index (get_or old z []) 3)
    (others : (z : ℕ) → NotIn z changed → get_or base z [] ≡ get_or old z []) where
  abbrev turns : List (ℕ × ℕ)
  turns = zip changed (gate_deltas (length changed))

  abbrev new : List (List ℕ)
  new = gated changed base

  as_many : length (gate_deltas (length changed)) ≡ length changed
  as_many = length-map-range_with_len (gate_delta (length changed)) 0 (length changed)

  firsts_are : firsts turns ≡ changed
  firsts_are = firsts-zip changed (gate_deltas (length changed)) as_many

  seconds_are : map (λ (t : ℕ × ℕ). t.1) turns ≡ gate_deltas (length changed)
  seconds_are = seconds-zip changed (gate_deltas (length changed)) as_many

  apart : Distinct (firsts turns)
  apart = subst Distinct (sym firsts_are) (rising_distinct changed rising)

  out_of : (z : ℕ) → NotIn z changed → NotIn z (firsts turns)
  out_of z out = subst (NotIn z) (sym firsts_are) out

  are_gated : AreGated turns base new
  are_gated = gated_here turns base apart (all_low changed (gate_deltas (length changed)) (length base) places)

  old_cross : cross_of old ≡ 255
  unfolding is_sound
  old_cross = eqb-true _ _ (second_part _ _ sound)

  base_cross : cross_of base ≡ 255
  base_cross = same_crosses base old same_length crosses ∙ old_cross

  pub gated_length : length new ≡ length base
  gated_length = length-gated_by turns base

  -- outside the changed zones nothing is new
  pub gated_out : (z : ℕ) → NotIn z changed → get_or new z [] ≡ get_or old z []
  gated_out z out = gated_other turns base z (out_of z out) ∙ others z out

  are_low : AllByRecursion (λ (t : ℕ × ℕ). t.0 < length base) turns
  are_low = all_low changed (gate_deltas (length changed)) (length base) places

  outside : (z : ℕ) → NotIn z (firsts turns) → get_or new z [] ≡ get_or old z []
  outside z out = gated_out z (subst (NotIn z) firsts_are out)

  gated_total : cross_of new ≡ 255
  gated_total = cross-gated_by turns base are_low (all_long base long) ∙ ap₂ bit_xor base_cross (ap xor_all seconds_are ∙ deltas_cancel (length changed) few)

  are_right : AllByRecursion (λ y. is_check_right (get_or new y []) ≡ true) (firsts turns)
  are_right =
      over_firsts turns (λ y. is_check_right (get_or new y []) ≡ true)
      (all_both turns (λ t. get_or new t.0 [] ≡ gated_sector (get_or base t.0 []) t.1) (λ t. t.0 < length base) (λ t. is_check_right (get_or new t.0 []) ≡ true)
      (λ t is lt. ap is_check_right is ∙ gated_right (get_or base t.0 []) t.1 (long t.0 lt)) are_gated are_low)

  pub gated_sound : is_sound new ≡ true
  unfolding is_sound
  gated_sound = ap₂ (λ a b. a && b) (all_right_from new right) (eq-eqb (cross_of new) 255 gated_total)
    where
      right : (z : ℕ) → z < length new → is_check_right (get_or new z []) ≡ true
      right z lt =
          let inside : z < length old = omega (arith, lt, gated_length, same_length) in
          ⊎_elim (λ out. ap is_check_right (outside z out) ∙ sound_right old z inside sound) (λ here. here) (at_or_out (firsts turns) z (λ y. is_check_right (get_or new y []) ≡ true) are_right)

  are_turned : AreTurned turns old new
  are_turned =
      all_both turns (λ t. get_or new t.0 [] ≡ gated_sector (get_or base t.0 []) t.1) (λ t. t.0 < length base) (λ t. slice_index (get_or new t.0 []) 3 ≡ bit_xor (slice_index (get_or old t.0 []) 3) t.1)
      (λ t is lt. ap (λ (l : List ℕ). slice_index l 3) is ∙ cross-gated (get_or base t.0 []) t.1 (long t.0 lt) ∙ ap (λ n. bit_xor n t.1) (crosses t.0 lt)) are_gated are_low

  -- a mix of old and new zones
  module _ (mix : List (List ℕ)) (mix_long : length mix ≡ length old) (each : (z : ℕ) → z < length old → (get_or mix z [] ≡ get_or old z []) ⊎ (get_or mix z [] ≡ get_or new z [])) where
    rest : (z : ℕ) → NotIn z (firsts turns) → get_or mix z [] ≡ get_or old z []
    rest z out = elim (cases_lt z (length old)) [
      | inl lt ↦ ⊎_elim (λ e. e) (λ e. e ∙ outside z out) (each z lt)
      | inr past ↦ get_or_past mix z [] (omega (arith, past, mix_long)) ∙ sym (get_or_past old z [] past)
    ]

    made : Mixed turns old new mix
    made =
        mixed turns old new mix apart
        (all_both turns (λ t. t.0 < length base) (λ t. t.0 < length base) (λ t. t.0 < length old) (λ t lt _. omega (arith, lt, same_length)) are_low are_low) mix_long are_turned
        (all_both turns (λ t. t.0 < length base) (λ t. t.0 < length base) (λ t. (get_or mix t.0 [] ≡ get_or old t.0 []) ⊎ (get_or mix t.0 [] ≡ get_or new t.0 []))
        (λ t lt _. each t.0 (omega (arith, lt, same_length))) are_low are_low)
        rest

    cancels : cross_of mix ≡ 255 → xor_all (items_where_true made.flags (gate_deltas (length changed))) ≡ 0
    cancels total =
        let turn = xor_all (items_where_true made.flags (map (λ (t : ℕ × ℕ). t.1) turns)) in
        let back : bit_xor 255 turn ≡ 255 = ap (λ n. bit_xor n turn) (sym old_cross) ∙ sym made.total ∙ total in
        ap (λ (ds : List ℕ). xor_all (items_where_true made.flags ds)) (sym seconds_are) ∙ cancel 255 turn back

    flags_many : length made.flags ≡ length changed
    flags_many = made.as_many ∙ sym (length-map turns (λ (t : ℕ × ℕ). t.0)) ∙ ap (λ (l : List ℕ). length l) firsts_are

    all_new : list_any not made.flags ≡ false → mix ≡ new
    all_new none =
        same_lists mix new (mix_long ∙ sym same_length ∙ sym gated_length)
        (λ z lt. ⊎_elim (λ out. rest z out ∙ sym (outside z out)) (λ here. here)
        (at_or_out (firsts turns) z (λ y. get_or mix y [] ≡ get_or new y []) (over_firsts turns (λ y. get_or mix y [] ≡ get_or new y []) (made.all none))))

    -- where it is sound, it is old or new, whole
    pub whole : is_sound mix ≡ true → (mix ≡ old) ⊎ (mix ≡ new)
    unfolding is_sound
    whole mix_sound =
        let total : cross_of mix ≡ 255 = eqb-true _ _ (second_part (list_all is_check_right mix) (cross_of mix == 255) mix_sound) in
        ⊎_elim (λ none. inl (made.none none)) (λ none. inr (all_new none))
        (either_none (list_any yes made.flags) (list_any not made.flags) (no_mix (length changed) few made.flags flags_many (cancels total)))

-- ---- zones that are only sealed

cross-sealed : (s : List ℕ) → slice_index (sealed s) 3 ≡ slice_index s 3
cross-sealed s = get_or-set_other s 0 3 (zone_check s) 0 (λ e. omega (arith, e))

sealed_right : (s : List ℕ) → 0 < length s → is_check_right (sealed s) ≡ true
sealed_right s some = eq-eqb _ _ (get_or-set_same s 0 (zone_check s) 0 some ∙ sym (check-masked s (zone_check s)))

pub length-sealed : (changed : List ℕ) (zones : List (List ℕ)) → length (sealed_zones changed zones) ≡ length zones
length-sealed [] zones = refl
length-sealed (y ∷ changed) zones = length-sealed changed (set zones y (sealed (get_or zones y []))) ∙ length-set zones y (sealed (get_or zones y []))

pub sealed_out : (changed : List ℕ) (zones : List (List ℕ)) (z : ℕ) → NotIn z changed → get_or (sealed_zones changed zones) z [] ≡ get_or zones z []
sealed_out [] zones z out = refl
sealed_out (y ∷ changed) zones z out =
    sealed_out changed (set zones y (sealed (get_or zones y []))) z out.1 ∙ get_or-set_other zones y z (sealed (get_or zones y [])) [] (λ e. out.0 (sym e))

-- the total stays
sealed_total : (changed : List ℕ) (zones : List (List ℕ)) → cross_of (sealed_zones changed zones) ≡ cross_of zones
sealed_total [] zones = refl
sealed_total (y ∷ changed) zones =
    sealed_total changed (set zones y (sealed (get_or zones y []))) ∙ ap xor_all (map-set_same (λ (s : List ℕ). slice_index s 3) zones y (sealed (get_or zones y [])) [] (cross-sealed (get_or zones y [])))

-- each zone has a right check, where those outside the list had one
sealed_at : (changed : List ℕ) (zones : List (List ℕ)) (z : ℕ) → z < length zones → 0 < length (get_or zones z []) → (NotIn z changed → is_check_right (get_or zones z []) ≡ true)
    → is_check_right (get_or (sealed_zones changed zones) z []) ≡ true
sealed_at [] zones z inside some right = right tt
sealed_at (y ∷ changed) zones z inside some right =
    let s = sealed (get_or zones y []) in
    let next = set zones y s in
    let lt : z < length next = omega (arith, inside, length-set zones y s) in
    elim (cases_eq y z) [
      | inl same ↦
          let here : get_or next z [] ≡ sealed (get_or zones z []) =
          ap (λ n. get_or (set zones n (sealed (get_or zones n []))) z []) same ∙ get_or-set_same zones z (sealed (get_or zones z [])) [] inside in
          let long : 0 < length (get_or next z []) = omega (arith, some, ap (λ (l : List ℕ). length l) here, length-set (get_or zones z []) 0 (zone_check (get_or zones z []))) in
          sealed_at changed next z lt long (λ out. ap is_check_right here ∙ sealed_right (get_or zones z []) some)
      | inr other ↦
          let here : get_or next z [] ≡ get_or zones z [] = get_or-set_other zones y z s [] (λ e. other (sym e)) in
          let long : 0 < length (get_or next z []) = omega (arith, some, ap (λ (l : List ℕ). length l) here) in
          sealed_at changed next z lt long (λ out. ap is_check_right here ∙ right (other, out))
    ]

pub sealed_sound : (old base : List (List ℕ)) (changed : List ℕ) → length base ≡ length old → ((z : ℕ) → z < length base → 4 ≤ length (get_or base z [])) → is_sound old ≡ true
    → ((z : ℕ) → z < length base → slice_index (get_or base z []) 3 ≡ slice_index (get_or old z []) 3) → ((z : ℕ) → NotIn z changed → get_or base z [] ≡ get_or old z []) → is_sound (sealed_zones changed base) ≡ true
unfolding is_sound
sealed_sound old base changed same_length long sound crosses others = ap₂ (λ a b. a && b) (all_right_from (sealed_zones changed base) right) (eq-eqb (cross_of (sealed_zones changed base)) 255 total)
  where
    right : (z : ℕ) → z < length (sealed_zones changed base) → is_check_right (get_or (sealed_zones changed base) z []) ≡ true
    right z lt =
        let inside : z < length base = omega (arith, lt, length-sealed changed base) in
        let some : 0 < length (get_or base z []) = omega (arith, long z inside) in
        sealed_at changed base z inside some (λ out. ap is_check_right (others z out) ∙ sound_right old z (omega (arith, inside, same_length)) sound)

    total : cross_of (sealed_zones changed base) ≡ 255
    total = sealed_total changed base ∙ same_crosses base old same_length crosses ∙ eqb-true _ _ (second_part (list_all is_check_right old) (cross_of old == 255) sound)

-- ---- lengths of sectors stay

set_lengths : (zones : List (List ℕ)) (y : ℕ) (s : List ℕ) (z : ℕ) → length s ≡ length (get_or zones y []) → length (get_or (set zones y s) z []) ≡ length (get_or zones z [])
set_lengths [] y s z e = refl
set_lengths (x ∷ zones) zero s zero e = e
set_lengths (x ∷ zones) zero s (suc z) e = refl
set_lengths (x ∷ zones) (suc y) s zero e = refl
set_lengths (x ∷ zones) (suc y) s (suc z) e = set_lengths zones y s z e

pub gated_lengths : (turns : List (ℕ × ℕ)) (zones : List (List ℕ)) (z : ℕ) → length (get_or (gated_by turns zones) z []) ≡ length (get_or zones z [])
gated_lengths [] zones z = refl
gated_lengths (t ∷ turns) zones z =
    gated_lengths turns (set zones t.0 (gated_sector (get_or zones t.0 []) t.1)) z ∙ set_lengths zones t.0 (gated_sector (get_or zones t.0 []) t.1) z (length-gated (get_or zones t.0 []) t.1)

pub sealed_lengths : (changed : List ℕ) (zones : List (List ℕ)) (z : ℕ) → length (get_or (sealed_zones changed zones) z []) ≡ length (get_or zones z [])
sealed_lengths [] zones z = refl
sealed_lengths (y ∷ changed) zones z =
    let s = sealed (get_or zones y []) in
    sealed_lengths changed (set zones y s) z ∙ set_lengths zones y s z (length-set (get_or zones y []) 0 (zone_check (get_or zones y [])))
