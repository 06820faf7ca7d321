-- The parts of a first fit: fronts of holes in their order, and what they leave.
use Rattle.std.proofs.Common.{◌≡◌, ◌<◌, ◌≤◌, ℕ, zero, suc, ◌+◌, ◌-◌, ◌%◌, max, nat_le, nat_lt, Bool, true, false, cond, List, [], ◌∷◌, ◌++◌, take, get_or, map, subst, All, Contains, Option, Some, None, refl, sym, ap, ◌∙◌, arith, inl, inr}
use Rattle.std.specs.List.{AllByRecursion, find}
use Rattle.std.specs.Option.{option_map}
use Rattle.std.specs.Int.{div_ceil, next_multiple_of}
use Rattle.std.proofs.lemmas.Bool.{cases_lt, le-leb, leb-false, leb-true, ltb-false, ne_eqb}
use Rattle.std.proofs.lemmas.List.Elements.{All-contains, All-from_recursion, Contains-append_right}
use Rattle.std.proofs.lemmas.List.Sums.{sum_by-cons}
use Rattle.fc_record.specs.declared.Geometry.{Geometry}
use Rattle.fc_newmap.specs.Map.{ZoneRun, bits_in}
use Rattle.fc_image.specs.effects.Placed.{BeginsBefore, HasRunLength, IsFront, front_of, holes_left}
use Rattle.fc_image.specs.effects.Sharing.{units}
use Rattle.fc_image.specs.safe.FirstFit.{first_fit, gathered, in_one_or}
use Rattle.fc_plan.specs.Parts.{fronts, part_of}
use Rattle.fc_plan.specs.declared.plan.Part.{Part}
use Rattle.fc_plan.specs.Plan.{AreFreeRuns, AreInOrder, AreParts, EndsBefore, IsFreeRun, IsFrontOfOne, IsLast, left_of_both}
use Rattle.fc_plan.proofs.Fronts.{as_hole, fronts_of}
use Rattle.fc_plan.proofs.Order.{Rising, later_than, stands_in, weaken_all}
use Rattle.fc_plan.proofs.Plans.{left_by_parts, lens_low, once_of, parts_leave_free, rising_apart}
use Rattle.fc_plan.proofs.Taken.{fit, mod-rest, stands_at-self}

-- the parts are fronts of the holes, in their order
abbrev pub Fits : Geometry → List ZoneRun → List ZoneRun → Type 0
Fits g holes parts = AllByRecursion (IsFrontOfOne g holes) parts × AllByRecursion (HasRunLength g) parts × Rising parts

-- ---- the front of one hole

front_right : (g : Geometry) (bits : ℕ) (hole : ZoneRun) → g.min ≤ bits → bits ≤ hole.1.len → bits % g.q ≡ 0 → HasRunLength g hole → IsFront g hole (front_of g bits hole) × HasRunLength g (front_of g bits hole)
front_right g bits hole least fits whole long = by (nat_lt hole.1.len (bits + g.min)) refl
  where
    by : (b : Bool) → nat_lt hole.1.len (bits + g.min) ≡ b
        → IsFront g hole (cond b hole (hole.0, record hole.1 { len = bits })) × HasRunLength g (cond b hole (hole.0, record hole.1 { len = bits }))
    by true e = (record { at_front = stands_at-self hole; within = omega arith; rest = inl refl }, long)
    by false e = (record { at_front = stands_at-self hole; within = fits; rest = inr (ltb-false hole.1.len (bits + g.min) e) }, (least, whole))

one_fits : (g : Geometry) (bits : ℕ) (holes : List ZoneRun) (hole : ZoneRun) → Contains holes hole → g.min ≤ bits → bits ≤ hole.1.len → bits % g.q ≡ 0 → HasRunLength g hole → Fits g holes (front_of g bits hole ∷ [])
one_fits g bits holes hole at least fits whole long =
    let front = front_right g bits hole least fits whole long in
    (((hole, at, front.0), tt), (front.1, tt), (tt, tt))

-- ---- holes taken from the first one on

some_map : (f : List ZoneRun → List ZoneRun) (o : Option (List ZoneRun)) (y : List ZoneRun) → option_map f o ≡ Some y → (x : List ZoneRun) × (o ≡ Some x) × (f x ≡ y)
some_map f None y e = absurd (cc)
some_map f (Some x) y e = (x, refl, cc)

pub the_same : (x y : List ZoneRun) → (let o : Option (List ZoneRun) = Some x in o) ≡ Some y → x ≡ y
the_same x y e = cc

front_of_more : (g : Geometry) (h p : ZoneRun) (holes : List ZoneRun) → IsFrontOfOne g holes p → IsFrontOfOne g (h ∷ holes) p
front_of_more g h p holes f = (f.0, Contains-append_right (h ∷ []) holes f.0 f.1, f.2)

behind_first : (g : Geometry) (h p : ZoneRun) (holes : List ZoneRun) → 0 < h.1.len → AllByRecursion (EndsBefore h) holes → IsFrontOfOne g holes p → BeginsBefore h p
behind_first g h p holes some after f = later_than h p holes some after (stands_in holes f.0 p f.1 f.2.at_front)

module _ (g : Geometry) (some_min : 0 < g.min) (whole_min : g.min % g.q ≡ 0) where
  with_first : (h : ZoneRun) (holes parts : List ZoneRun) → HasRunLength g h → AllByRecursion (EndsBefore h) holes → Fits g holes parts → Fits g (h ∷ holes) (h ∷ parts)
  with_first h holes parts long after fits =
      let least = long.0 in
      let mine : IsFrontOfOne g (h ∷ holes) h = (h, (0, omega arith, refl), record { at_front = stands_at-self h; within = omega arith; rest = inl refl }) in (
        (mine, weaken_all (IsFrontOfOne g holes) (IsFrontOfOne g (h ∷ holes)) (λ p f. front_of_more g h p holes f) parts fits.0),
        (long, fits.1),
        (weaken_all (IsFrontOfOne g holes) (BeginsBefore h) (λ p f. behind_first g h p holes (omega arith) after f) parts fits.0, fits.2),
      )

  pub gathered_fits : (holes : List ZoneRun) (bits : ℕ) (parts : List ZoneRun) → 0 < bits → bits % g.q ≡ 0 → AllByRecursion (IsFreeRun g) holes → AreInOrder holes → gathered g bits holes ≡ Some parts → Fits g holes parts
  unfolding gathered
  gathered_fits [] bits parts some whole free order e = absurd (cc)
  gathered_fits (h ∷ holes) bits parts some whole free order e = by (nat_le bits h.1.len) refl e (λ less rest f. gathered_fits holes (bits - h.1.len) rest less (rest_whole less) free.1 order.1 f)
    where
      rest_whole : 0 < bits - h.1.len → (bits - h.1.len) % g.q ≡ 0
      rest_whole less = mod-rest h.1.len (bits - h.1.len) g.q free.0.long.1 (ap (λ n. n % g.q) (let s : h.1.len + (bits - h.1.len) ≡ bits = omega arith in s) ∙ whole)

      max_whole : max bits g.min % g.q ≡ 0
      max_whole = elim (cases_lt bits g.min) [
        | inl less ↦ ap (λ n. n % g.q) (let s : max bits g.min ≡ g.min = omega arith in s) ∙ whole_min
        | inr more ↦ ap (λ n. n % g.q) (let s : max bits g.min ≡ bits = omega arith in s) ∙ whole
      ]

      by : (b : Bool) → nat_le bits h.1.len ≡ b → cond b (Some (front_of g (max bits g.min) h ∷ [])) (option_map (λ parts. h ∷ parts) (gathered g (bits - h.1.len) holes)) ≡ Some parts
          → (0 < bits - h.1.len → (rest : List ZoneRun) → gathered g (bits - h.1.len) holes ≡ Some rest → Fits g holes rest) → Fits g (h ∷ holes) parts
      by true t f more =
          let fits = leb-true bits h.1.len t in
          let long = free.0.long.0 in
          subst (λ (ps : List ZoneRun). Fits g (h ∷ holes) ps) (the_same (front_of g (max bits g.min) h ∷ []) parts f)
          (one_fits g (max bits g.min) (h ∷ holes) h (0, omega arith, refl) (omega arith) (omega arith) max_whole free.0.long)
      by false t f more =
          let less = leb-false bits h.1.len t in
          let rest = some_map (λ parts. h ∷ parts) (gathered g (bits - h.1.len) holes) parts f in
          subst (λ (ps : List ZoneRun). Fits g (h ∷ holes) ps) rest.2
          (with_first h holes rest.0 free.0.long order.0 (more (omega arith) rest.0 rest.1))

  pub first_fits : (holes : List ZoneRun) (bits : ℕ) (parts : List ZoneRun) → g.min ≤ bits → bits % g.q ≡ 0 → AreFreeRuns g holes → first_fit g bits holes ≡ Some parts → Fits g holes parts
  unfolding first_fit
  first_fits holes bits parts least whole free e = by (find (λ (hole : ZoneRun). nat_le bits hole.1.len) holes) refl e
    where
      by : (o : Option ZoneRun) → find (λ (hole : ZoneRun). nat_le bits hole.1.len) holes ≡ o → in_one_or g bits holes o ≡ Some parts → Fits g holes parts
      by None n f = gathered_fits holes bits parts (omega arith) whole free.each free.order f
      by (Some hole) n f =
          let there = fit bits hole holes (sym n) in
          let run : IsFreeRun g hole = All-contains (IsFreeRun g) holes hole (All-from_recursion (IsFreeRun g) holes free.each) there.0 in
          subst (λ (ps : List ZoneRun). Fits g holes ps) (the_same (front_of g bits hole ∷ []) parts f) (one_fits g bits holes hole there.0 least there.1 whole run.long)

-- ---- what a pass over the holes finds

pub gathered_last : (g : Geometry) (holes : List ZoneRun) (bits place missing : ℕ) (d : ZoneRun) → IsLast holes bits place missing
    → gathered g bits holes ≡ Some (take place holes ++ front_of g (max missing g.min) (get_or holes place d) ∷ [])
unfolding gathered
gathered_last g [] bits place missing d last = absurd (let w = last.within in omega arith)
gathered_last g (h ∷ holes) bits zero missing d last =
    let same : bits ≡ missing = (let b = last.before in omega arith) in
    let has : missing ≤ h.1.len = last.has d in
    subst (λ (n : ℕ). cond (nat_le n h.1.len) (Some (front_of g (max n g.min) h ∷ [])) (option_map (λ parts. h ∷ parts) (gathered g (n - h.1.len) holes)) ≡ Some (front_of g (max missing g.min) h ∷ [])) (sym same)
    (ap (λ (b : Bool). cond b (Some (front_of g (max missing g.min) h ∷ [])) (option_map (λ parts. h ∷ parts) (gathered g (missing - h.1.len) holes))) (le-leb missing h.1.len has))
gathered_last g (h ∷ holes) bits (suc place) missing d last =
    let cut : bits_in (h ∷ take place holes) ≡ h.1.len + bits_in (take place holes) = sum_by-cons (λ (p : ZoneRun). p.1.len) h (take place holes) in
    let total : bits_in (h ∷ take place holes) + missing ≡ bits = last.before in
    let some = last.some in
    let rest : IsLast holes (bits - h.1.len) place missing = record { within = (let w = last.within in omega arith); some = some; before = omega arith; has = last.has } in
    ap (λ (b : Bool). cond b (Some (front_of g (max bits g.min) h ∷ [])) (option_map (λ parts. h ∷ parts) (gathered g (bits - h.1.len) holes))) (not_le bits h.1.len (omega arith))
    ∙ ap (option_map (λ parts. h ∷ parts)) (gathered_last g holes (bits - h.1.len) place missing d rest)
  where
    not_le : (a b : ℕ) → b < a → nat_le a b ≡ false
    not_le a b less = by (nat_le a b) refl
      where
        by : (t : Bool) → nat_le a b ≡ t → t ≡ false
        by true e = absurd (let h = leb-true a b e in omega arith)
        by false e = refl

pub gathered_none : (g : Geometry) (holes : List ZoneRun) (bits : ℕ) → bits_in holes < bits → gathered g bits holes ≡ None
unfolding gathered
gathered_none g [] bits short = refl
gathered_none g (h ∷ holes) bits short =
    let cut : bits_in (h ∷ holes) ≡ h.1.len + bits_in holes = sum_by-cons (λ (p : ZoneRun). p.1.len) h holes in
    ap (λ (b : Bool). cond b (Some (front_of g (max bits g.min) h ∷ [])) (option_map (λ parts. h ∷ parts) (gathered g (bits - h.1.len) holes))) (not_le bits h.1.len (omega arith))
    ∙ ap (option_map (λ parts. h ∷ parts)) (gathered_none g holes (bits - h.1.len) (omega arith))
  where
    not_le : (a b : ℕ) → b < a → nat_le a b ≡ false
    not_le a b less = by (nat_le a b) refl
      where
        by : (t : Bool) → nat_le a b ≡ t → t ≡ false
        by true e = absurd (let h = leb-true a b e in omega arith)
        by false e = refl

pub fit_one : (g : Geometry) (holes : List ZoneRun) (bits : ℕ) (hole : ZoneRun) → find (λ (hole : ZoneRun). nat_le bits hole.1.len) holes ≡ Some hole → first_fit g bits holes ≡ Some (front_of g bits hole ∷ [])
unfolding first_fit
fit_one g holes bits hole e = ap (in_one_or g bits holes) e

pub fit_some : (g : Geometry) (holes : List ZoneRun) (bits : ℕ) → find (λ (hole : ZoneRun). nat_le bits hole.1.len) holes ≡ None → first_fit g bits holes ≡ gathered g bits holes
unfolding first_fit
fit_some g holes bits e = ap (in_one_or g bits holes) e

-- ---- the parts can be cut, and what they leave

-- the same with the kinds of holes
as_holes : (g : Geometry) (holes parts : List ZoneRun) → Fits g holes parts → Fits g holes (map as_hole parts)
as_holes g holes [] fits = (tt, tt, tt)
as_holes g holes (p ∷ parts) fits =
    let rest = as_holes g holes parts (fits.0.1, fits.1.1, fits.2.1) in
    let f = fits.0.0 in (
      ((f.0, f.1, record { at_front = f.2.at_front; within = f.2.within; rest = f.2.rest }), rest.0),
      (fits.1.0, rest.1),
      (behind p parts fits.2.0, rest.2),
    )
  where
    behind : (p : ZoneRun) (ps : List ZoneRun) → AllByRecursion (BeginsBefore p) ps → AllByRecursion (BeginsBefore (as_hole p)) (map as_hole ps)
    behind p [] a = tt
    behind p (q ∷ ps) a = (a.0, behind p ps a.1)

pub parts_cut : (g : Geometry) (holes xs : List ZoneRun) (parts : List Part) → parts ≡ map part_of xs → Fits g holes xs → AreParts g holes (fronts parts)
parts_cut g holes xs parts is fits =
    let held = as_holes g holes xs fits in
    subst (λ (ys : List ZoneRun). AreParts g holes ys) (sym (ap fronts is ∙ fronts_of xs))
    (let front = All-from_recursion (IsFrontOfOne g holes) (map as_hole xs) held.0 in
    record {
      fronts = front;
      once = once_of g holes (map as_hole xs) front (rising_apart (map as_hole xs) held.2);
      long = All-from_recursion (HasRunLength g) (map as_hole xs) held.1;
    })

pub fit_leaves : (g : Geometry) (holes parts : List ZoneRun) → 0 < g.min → AreFreeRuns g holes → Fits g holes parts → left_of_both holes parts ≡ holes_left holes parts
fit_leaves g holes parts some free fits = left_by_parts g holes parts some free (All-from_recursion (IsFrontOfOne g holes) parts fits.0) fits.2

pub fit_leaves_free : (g : Geometry) (holes parts : List ZoneRun) → 0 < g.min → AreFreeRuns g holes → Fits g holes parts → AreFreeRuns g (left_of_both holes parts)
fit_leaves_free g holes parts some free fits =
    parts_leave_free g holes parts some free (All-from_recursion (IsFrontOfOne g holes) parts fits.0) (All-from_recursion (HasRunLength g) parts fits.1)

pub fit_low : (g : Geometry) (holes parts : List ZoneRun) → AreFreeRuns g holes → Fits g holes parts → All (λ (p : ZoneRun). p.1.len ≤ 8192) parts
fit_low g holes parts free fits = lens_low g holes parts free.each (All-from_recursion (IsFrontOfOne g holes) parts fits.0)

pub units_least : (g : Geometry) (bytes : ℕ) → 0 < bytes → g.min ≤ units g bytes
units_least g bytes some =
    subst (λ (b : Bool). g.min ≤ cond b 0 (max g.min (next_multiple_of (div_ceil bytes g.bit_bytes) g.q))) (sym (ne_eqb bytes 0 (λ e. omega arith)))
    (let least : g.min ≤ max g.min (next_multiple_of (div_ceil bytes g.bit_bytes) g.q) = omega arith in least)
