-- What is taken of holes that were met is taken of all, where one that was met has all the bits, or all were met.
use Rattle.std.proofs.Common.{◌≡◌, ◌<◌, ◌≤◌, ◌+◌, ℕ, zero, suc, nat_le, Bool, true, false, cond, List, [], ◌∷◌, ◌++◌, length, All, Contains, drop, Option, Some, None, inl, inr, refl, sym, ap, ap₂, subst, ◌∙◌, arith}
use Rattle.std.specs.List.{AllByRecursion, count_by, find, items_where_true}
use Rattle.std.specs.Option.{option_or}
use Rattle.std.proofs.lemmas.Bool.{le-leb, leb-true}
use Rattle.std.proofs.lemmas.List.{append-nil, drop-drop}
use Rattle.std.proofs.lemmas.List.Concat.{flat_map-append}
use Rattle.std.proofs.lemmas.List.Elements.{Contains-append_left}
use Rattle.std.proofs.lemmas.List.Folds.{find-append}
use Rattle.std.proofs.lemmas.List.Sums.{sum_by-cons}
use Rattle.fc_record.specs.declared.Geometry.{Geometry}
use Rattle.fc_newmap.specs.Map.{ZoneRun, bits_in}
use Rattle.fc_image.specs.effects.Placed.{HasRunLength, IsFewest, IsPlan, chosen_bits, holes_left, left_behind, stands_at}
use Rattle.fc_image.specs.safe.FirstFit.{first_fit}
use Rattle.fc_plan.specs.Plan.{AreFreeRuns, AreInOrder, AreParts, EndsBefore, IsFreeRun, IsFrontOfOne}
use Rattle.fc_plan.specs.Supply.{IsMetFor}
use Rattle.fc_plan.proofs.Fewest.{no_fewer_than_one}
use Rattle.fc_plan.proofs.FirstFit.{fit_one}
use Rattle.fc_plan.proofs.Left.{count_at-positive}
use Rattle.fc_plan.proofs.MapLemmas.{count_at, count_at-append}
use Rattle.fc_plan.proofs.Order.{Rising, free_apart}
use Rattle.fc_plan.proofs.Plans.{left_by_parts, once_of, parts_leave_free, rising_apart}
use Rattle.fc_plan.proofs.Taken.{stands_at-self}
use Rattle.fc_plan.proofs.Takes.{find_none}

abbrev fits : ℕ → ZoneRun → Bool
fits bits hole = nat_le bits hole.1.len

found_in : (bits : ℕ) (holes : List ZoneRun) → (find (fits bits) holes ≡ None → ⊥) → (hole : ZoneRun) × (find (fits bits) holes ≡ Some hole)
found_in bits holes some = go (find (fits bits) holes) refl
  where
    go : (o : Option ZoneRun) → find (fits bits) holes ≡ o → (hole : ZoneRun) × (find (fits bits) holes ≡ Some hole)
    go None e = absurd (some e)
    go (Some hole) e = (hole, e)

found_still : (bits : ℕ) (met ahead : List ZoneRun) (hole : ZoneRun) → find (fits bits) met ≡ Some hole → find (fits bits) (met ++ ahead) ≡ Some hole
found_still bits met ahead hole e = find-append (fits bits) met ahead ∙ ap (λ (o : Option ZoneRun). option_or o (find (fits bits) ahead)) e

-- a hole that was met last and has all the bits
pub fits_last : (bits : ℕ) (met : List ZoneRun) (hole : ZoneRun) → bits ≤ hole.1.len → find (fits bits) (met ++ hole ∷ []) ≡ None → ⊥
fits_last bits met hole enough none = go (find (fits bits) met) (sym (find-append (fits bits) met (hole ∷ [])) ∙ none)
  where
    last : find (fits bits) (hole ∷ []) ≡ Some hole
    last = ap (λ (b : Bool). cond b (let o : Option ZoneRun = Some hole in o) None) (le-leb bits hole.1.len enough)

    go : (o : Option ZoneRun) → option_or o (find (fits bits) (hole ∷ [])) ≡ None → ⊥
    go None e = (let e' = sym last ∙ e in cc)
    go (Some h) e = cc

-- ---- first fit

pub fit_of_met : (g : Geometry) (bits : ℕ) (met ahead : List ZoneRun) → IsMetFor bits met ahead → first_fit g bits (met ++ ahead) ≡ first_fit g bits met
fit_of_met g bits met ahead (inl some) =
    let hole = found_in bits met some in
    fit_one g (met ++ ahead) bits hole.0 (found_still bits met ahead hole.0 hole.1) ∙ sym (fit_one g met bits hole.0 hole.1)
fit_of_met g bits met ahead (inr none) = ap (first_fit g bits) (ap (λ (hs : List ZoneRun). met ++ hs) none ∙ append-nil met)

-- ---- too few bits

enough_met : (bits : ℕ) (met : List ZoneRun) → (find (fits bits) met ≡ None → ⊥) → bits ≤ bits_in met
enough_met bits [] some = absurd (some refl)
enough_met bits (h ∷ met) some = by (fits bits h) refl some (enough_met bits met)
  where
    by : (b : Bool) → fits bits h ≡ b → (cond b (let o : Option ZoneRun = Some h in o) (find (fits bits) met) ≡ None → ⊥) → ((find (fits bits) met ≡ None → ⊥) → bits ≤ bits_in met) → bits ≤ bits_in (h ∷ met)
    by true e s later = (let le = leb-true bits h.1.len e in let sum = sum_by-cons (λ (p : ZoneRun). p.1.len) h met in omega arith)
    by false e s later = (let rest = later s in let sum = sum_by-cons (λ (p : ZoneRun). p.1.len) h met in omega arith)

pub few_of_met : (bits : ℕ) (met ahead : List ZoneRun) → IsMetFor bits met ahead → bits_in met < bits → bits_in (met ++ ahead) < bits
few_of_met bits met ahead (inl some) few = absurd (let enough = enough_met bits met some in omega arith)
few_of_met bits met ahead (inr none) few = subst (λ (hs : List ZoneRun). bits_in hs < bits) (sym (ap (λ (hs : List ZoneRun). met ++ hs) none ∙ append-nil met)) few

-- ---- the fewest holes

-- no hole is chosen but the first that has all the bits
abbrev OneChosen : List ZoneRun → ℕ → Type 0
OneChosen holes bits = (flags : List Bool) × (length flags ≡ length holes) × (count_by (λ b. b) flags ≡ 1) × (bits ≤ chosen_bits flags holes)

no_flags : (holes : List ZoneRun) → (flags : List Bool) × (length flags ≡ length holes) × (count_by (λ b. b) flags ≡ 0)
no_flags [] = ([], refl, refl)
no_flags (h ∷ holes) =
    let rest = no_flags holes in
    (false ∷ rest.0, ap suc rest.1, sum_by-cons (λ b. cond b 1 0) false rest.0 ∙ (let e = rest.2 in let f : 0 + count_by (λ b. b) rest.0 ≡ 0 = omega arith in f))

one_chosen : (bits : ℕ) (holes : List ZoneRun) → (find (fits bits) holes ≡ None → ⊥) → OneChosen holes bits
one_chosen bits [] some = absurd (some refl)
one_chosen bits (h ∷ holes) some = by (fits bits h) refl some (one_chosen bits holes)
  where
    by : (b : Bool) → fits bits h ≡ b → (cond b (let o : Option ZoneRun = Some h in o) (find (fits bits) holes) ≡ None → ⊥) → ((find (fits bits) holes ≡ None → ⊥) → OneChosen holes bits) → OneChosen (h ∷ holes) bits
    by true e s later =
        (let none = no_flags holes in
        let count = sum_by-cons (λ b. cond b 1 0) true none.0 in
        let zero' = none.2 in
        let le = leb-true bits h.1.len e in
        let bits_of = sum_by-cons (λ (p : ZoneRun). p.1.len) h (items_where_true none.0 holes) in
        (true ∷ none.0, ap suc none.1, omega arith, omega arith))
    by false e s later =
        (let rest = later s in
        let count = sum_by-cons (λ b. cond b 1 0) false rest.0 in
        let one = rest.2 in
        (false ∷ rest.0, ap suc rest.1, omega arith, rest.3))

fewest_one : (bits : ℕ) (holes : List ZoneRun) → 0 < bits → (find (fits bits) holes ≡ None → ⊥) → IsFewest holes bits 1
fewest_one bits holes some there = record { some = one_chosen bits holes there; no_fewer = no_fewer_than_one holes bits some }

one_part : (bits : ℕ) (holes : List ZoneRun) (count : ℕ) → 0 < bits → (find (fits bits) holes ≡ None → ⊥) → IsFewest holes bits count → 1 ≡ count
one_part bits holes count some there fewest =
    let one = one_chosen bits holes there in
    let most = fewest.no_fewer one.0 one.1 one.3 in
    let few = fewest.some in
    let least = no_fewer_than_one holes bits some few.0 few.1 few.3 in
    let is = few.2 in
    let is' = one.2 in
    omega arith

all_more : (g : Geometry) (met ahead parts : List ZoneRun) → All (IsFrontOfOne g met) parts → All (IsFrontOfOne g (met ++ ahead)) parts
all_more g met ahead parts fronts k d in' = (let f = fronts k d in' in (f.0, Contains-append_left met ahead f.0 f.1, f.2))

pub plan_of_met : (g : Geometry) (bits : ℕ) (met ahead parts : List ZoneRun) → 0 < bits → IsMetFor bits met ahead → IsPlan g met bits parts → IsPlan g (met ++ ahead) bits parts
plan_of_met g bits met ahead parts some (inl there) plan =
    let hole = found_in bits met there in
    record {
      taken = record {
        fronts = all_more g met ahead parts plan.taken.fronts;
        enough = plan.taken.enough;
        few_more = plan.taken.few_more;
        fewest = subst (λ (n : ℕ). IsFewest (met ++ ahead) bits n) (one_part bits met (length parts) some there plan.taken.fewest)
            (fewest_one bits (met ++ ahead) some (λ e. (let f = sym (found_still bits met ahead hole.0 hole.1) ∙ e in cc)));
      };
      long = plan.long;
      rising = plan.rising;
    }
plan_of_met g bits met ahead parts some (inr none) plan = subst (λ (hs : List ZoneRun). IsPlan g hs bits parts) (sym (ap (λ (hs : List ZoneRun). met ++ hs) none ∙ append-nil met)) plan

-- ---- what is cut, and what it leaves

pub parts_of_met : (g : Geometry) (met ahead parts : List ZoneRun) → AreParts g met parts → AreParts g (met ++ ahead) parts
parts_of_met g met ahead parts cut = record {
  fronts = all_more g met ahead parts cut.fronts;
  once = λ place. (let some = cut.once place in let more = count_at-append place met ahead in omega arith);
  long = cut.long;
}

pub free_of_met : (g : Geometry) (met ahead : List ZoneRun) → AreFreeRuns g (met ++ ahead) → AreFreeRuns g met
free_of_met g met ahead free = record { each = front_each met free.each; order = front_order met free.order }
  where
    front_all : (P : ZoneRun → Type 0) (xs : List ZoneRun) → AllByRecursion P (xs ++ ahead) → AllByRecursion P xs
    front_all P [] all = tt
    front_all P (x ∷ xs) all = (all.0, front_all P xs all.1)

    front_each : (xs : List ZoneRun) → AllByRecursion (IsFreeRun g) (xs ++ ahead) → AllByRecursion (IsFreeRun g) xs
    front_each xs all = front_all (IsFreeRun g) xs all

    front_order : (xs : List ZoneRun) → AreInOrder (xs ++ ahead) → AreInOrder xs
    front_order [] order = tt
    front_order (x ∷ xs) order = (front_all (EndsBefore x) xs order.0, front_order xs order.1)

all_left : (parts holes : List ZoneRun) → ((h : ZoneRun) → Contains holes h → find (stands_at h) parts ≡ None) → holes_left holes parts ≡ holes
all_left parts [] none = refl
all_left parts (h ∷ holes) none =
    ap₂ (λ (xs ys : List ZoneRun). xs ++ ys) (ap (left_behind h) (none h (zero, omega arith, refl))) (all_left parts holes (λ p at. none p (suc at.0, (let low = at.1 in omega arith), at.2)))

pub left_of_met : (g : Geometry) (met ahead parts : List ZoneRun) → 0 < g.min → AreFreeRuns g (met ++ ahead) → ((place : ZoneRun) → count_at place parts ≤ count_at place met)
    → holes_left (met ++ ahead) parts ≡ holes_left met parts ++ ahead
left_of_met g met ahead parts some free once =
    flat_map-append (λ (hole : ZoneRun). left_behind hole (find (stands_at hole) parts)) met ahead
    ∙ ap (λ (hs : List ZoneRun). holes_left met parts ++ hs) (all_left parts ahead (λ h at. find_none h parts (none_there h at)))
  where
    none_there : (h : ZoneRun) → Contains ahead h → count_at h parts ≡ 0
    none_there h at =
        let apart = free_apart g (met ++ ahead) some free h in
        let both = count_at-append h met ahead in
        let here = count_at-positive h h ahead at (stands_at-self h) in
        let few = once h in
        omega arith

pub free_behind : (g : Geometry) (met ahead parts : List ZoneRun) → 0 < g.min → AreFreeRuns g (met ++ ahead) → All (IsFrontOfOne g met) parts → All (HasRunLength g) parts → Rising parts
    → AreFreeRuns g (holes_left met parts ++ ahead)
free_behind g met ahead parts some free fronts long rising =
    let all = all_more g met ahead parts fronts in
    subst (λ (hs : List ZoneRun). AreFreeRuns g hs)
    (left_by_parts g (met ++ ahead) parts some free all rising ∙ left_of_met g met ahead parts some free (once_of g met parts fronts (rising_apart parts rising)))
    (parts_leave_free g (met ++ ahead) parts some free all long)

-- one hole further
pub ahead_of : (all : List ZoneRun) (n : ℕ) (hole : ZoneRun) (rest : List ZoneRun) → drop n all ≡ hole ∷ rest → drop (n + 1) all ≡ rest
ahead_of all n hole rest e = sym (drop-drop 1 n all) ∙ ap (drop 1) e
