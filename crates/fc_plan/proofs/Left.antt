-- What parts leave of the holes that they are cut from.
use Rattle.std.proofs.Common.{◌≡◌, ◌≤◌, ◌⊎◌, ◌==◌, ◌+◌, ◌-◌, ◌%◌, true, false, List, [], ◌∷◌, All, Contains, Option, Some, None, refl, sym, ap, ◌∙◌, arith, inl, inr, zero, suc}
use Rattle.std.specs.Prelude.{IfSome}
use Rattle.std.specs.List.{find}
use Rattle.std.proofs.lemmas.Bool.{cond_both, eqb-false}
use Rattle.std.proofs.lemmas.List.Elements.{All-nil, All-cons, All-contains}
use Rattle.fc_record.specs.declared.Geometry.{Geometry}
use Rattle.fc_newmap.specs.Map.{ZoneRun}
use Rattle.fc_newmap.specs.NewMap.{IsOfRecord}
use Rattle.fc_newmap.specs.Walk.{IsInZone}
use Rattle.fc_newmap.proofs.HeldLemmas as held
use Rattle.fc_newmap.proofs.HeldLemmas.{end_within, geometry_facts}
use Rattle.fc_image.specs.effects.Placed.{HasRunLength, holes_left, left_behind, stands_at}
use Rattle.fc_plan.specs.Plan.{AreApart, IsFrontOfOne}
use Rattle.fc_plan.proofs.Taken.{find_is, mod-rest, stands_at-same, stands_at-self}
use Rattle.fc_plan.proofs.MapLemmas.{count_at, count_at-cons, count_here}

-- ---- one hole at a place

pub count_at-positive : (place p : ZoneRun) (runs : List ZoneRun) → Contains runs p → stands_at place p ≡ true → 1 ≤ count_at place runs
count_at-positive place p [] (i, in', e) test = absurd (omega arith)
count_at-positive place p (x ∷ xs) (zero, in', e) test =
    let same : x ≡ p = e in
    omega (arith, count_here place x xs (ap (stands_at place) same ∙ test))
count_at-positive place p (x ∷ xs) (suc i, in', e) test =
    let more = count_at-positive place p xs (i, omega arith, e) test in
    omega (arith, count_at-cons place x xs)

not_two : (place p q : ZoneRun) (runs : List ZoneRun) → count_at place (p ∷ runs) ≤ 1 → stands_at place p ≡ true → Contains runs q → stands_at place q ≡ true → ⊥
not_two place p q runs once here there test = omega (arith, count_here place p runs here, count_at-positive place q runs there test)

pub same_hole : (holes : List ZoneRun) (a b : ZoneRun) → count_at a holes ≤ 1 → Contains holes a → Contains holes b → stands_at a b ≡ true → a ≡ b
same_hole [] a b once (i, in', e) (j, in'', f) same = absurd (omega arith)
same_hole (x ∷ xs) a b once (zero, in', e) (zero, in'', f) same = sym e ∙ f
same_hole (x ∷ xs) a b once (zero, in', e) (suc j, in'', f) same =
    let first : x ≡ a = e in
    absurd (not_two a x b xs once (ap (stands_at a) first ∙ stands_at-self a) (j, omega arith, f) same)
same_hole (x ∷ xs) a b once (suc i, in', e) (zero, in'', f) same =
    let first : x ≡ b = f in
    absurd (not_two a x a xs once (ap (stands_at a) first ∙ same) (i, omega arith, e) (stands_at-self a))
same_hole (x ∷ xs) a b once (suc i, in', e) (suc j, in'', f) same =
    let more = count_at-cons a x xs in
    same_hole xs a b (omega arith) (i, omega arith, e) (j, omega arith, f) same

-- the part that is found at a hole is its front
module _ (g : Geometry) (holes parts : List ZoneRun) (apart : AreApart holes) (fronts : All (IsFrontOfOne g holes) parts) where
  pub record IsFound (hole part : ZoneRun) : Type 0 where
    pub among : Contains parts part
    pub here : stands_at hole part ≡ true
    pub within : part.1.len ≤ hole.1.len
    pub rest : (part.1.len ≡ hole.1.len) ⊎ (part.1.len + g.min ≤ hole.1.len)

  pub found : (hole part : ZoneRun) → Contains holes hole → find (stands_at hole) parts ≡ Some part → IsFound hole part
  found hole part at e =
      let is = find_is (stands_at hole) part parts e in
      let front = All-contains (IsFrontOfOne g holes) parts part fronts is.0 in
      let there : stands_at hole front.0 ≡ true = sym (stands_at-same hole front.0 part front.2.at_front) ∙ is.1 in
      let same : hole ≡ front.0 = same_hole holes hole front.0 (apart hole) at front.1 there in
      record { among = is.0; here = is.1; within = rw same front.2.within; rest = rw same front.2.rest }

  pub found_within : (hole : ZoneRun) → Contains holes hole → (o : Option ZoneRun) → find (stands_at hole) parts ≡ o → IfSome o (λ part. part.1.len ≤ hole.1.len)
  found_within hole at None e = tt
  found_within hole at (Some part) e = (found hole part at e).within

-- ---- how long they are

-- what a part leaves of a hole
abbrev pub rest_of : ZoneRun → ZoneRun → ZoneRun
rest_of hole part = (hole.0, record hole.1 { start = hole.1.start + part.1.len; len = hole.1.len - part.1.len })

pub left_behind-long : (g : Geometry) (hole part : ZoneRun) → HasRunLength g hole → HasRunLength g part → (part.1.len ≡ hole.1.len) ⊎ (part.1.len + g.min ≤ hole.1.len)
    → All (HasRunLength g) (left_behind hole (Some part))
left_behind-long g hole part hole_long part_long rest =
    cond_both (part.1.len == hole.1.len) [] (rest_of hole part ∷ []) (All (HasRunLength g))
    (λ e. All-nil (HasRunLength g))
    (λ e. All-cons (HasRunLength g) (rest_of hole part) [] (is_long e rest) (All-nil (HasRunLength g)))
  where
    is_long : (part.1.len == hole.1.len) ≡ false → (part.1.len ≡ hole.1.len) ⊎ (part.1.len + g.min ≤ hole.1.len) → HasRunLength g (rest_of hole part)
    is_long e (inl same) = absurd (eqb-false part.1.len hole.1.len e same)
    is_long e (inr fits) =
        let both : part.1.len + (hole.1.len - part.1.len) ≡ hole.1.len = omega arith in
        (omega arith, mod-rest part.1.len (hole.1.len - part.1.len) g.q part_long.1 (ap (λ n. n % g.q) both ∙ hole_long.1))

pub end_low : (g : Geometry) (p : ZoneRun) → IsOfRecord g → IsInZone g p → p.1.start + p.1.len ≤ 8192
end_low g p of at =
    let facts = geometry_facts g of in
    omega (arith, at.to, end_within g p.0 of at.zone, held.sector_high g facts)

-- ---- the walk over the holes

pub left_of_none : (holes : List ZoneRun) → holes_left holes [] ≡ holes
left_of_none [] = refl
left_of_none (hole ∷ holes) = ap (λ (hs : List ZoneRun). hole ∷ hs) (left_of_none holes)
