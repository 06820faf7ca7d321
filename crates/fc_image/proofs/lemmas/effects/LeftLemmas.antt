-- What parts leave of the holes from which they are taken.
use Rattle.std.proofs.Common.{◌≡◌, ◌≤◌, inl, inr, ℕ, ◌+◌, ◌-◌, ◌%◌, Bool, true, false, cond, List, [], ◌∷◌, Option, Some, None, Contains, All, refl, sym, ap, ap₂, subst, ◌∙◌, arith, suc}
use Rattle.std.specs.Prelude.{◌==◌, ◌&&◌}
use Rattle.std.specs.List.{find}
use Rattle.std.proofs.Math.Nat.{add-mod, mod-mod, add-zero}
use Rattle.std.proofs.lemmas.Bool.{eqb-true, eqb-false, eq-eqb, and_parts as both_true}
use Rattle.std.proofs.lemmas.List.Elements.{All-nil, All-cons, All-append, All-contains}
use Rattle.fc_record.specs.declared.Geometry.{Geometry}
use Rattle.fc_newmap.specs.Map.{ZoneRun}
use Rattle.fc_image.specs.effects.Placed.{HasRunLength, IsFront, IsTaken, holes_left, left_behind, stands_at}
use Rattle.fc_image.specs.effects.Laws.{HaveOwnPlaces, LeftLaw}

-- two holes at which one part stands stand at each other
same_place : (p q part : ZoneRun) → stands_at p part ≡ true → stands_at q part ≡ true → stands_at p q ≡ true
same_place p q part e f =
    let a = both_true (p.0 == part.0) (p.1.start == part.1.start) e in
    let b = both_true (q.0 == part.0) (q.1.start == part.1.start) f in
    let zone : p.0 ≡ q.0 = eqb-true p.0 part.0 a.0 ∙ sym (eqb-true q.0 part.0 b.0) in
    let start : p.1.start ≡ q.1.start = eqb-true p.1.start part.1.start a.1 ∙ sym (eqb-true q.1.start part.1.start b.1) in
    ap₂ (λ x y. x && y) (eq-eqb p.0 q.0 zone) (eq-eqb p.1.start q.1.start start)

found_there : (p : ZoneRun → Bool) (x : ZoneRun) (xs : List ZoneRun) → find p xs ≡ Some x → Contains xs x × (p x ≡ true)
found_there p x [] e = absurd (cc)
found_there p x (y ∷ ys) e = by (p y) refl e (found_there p x ys)
  where
    by : (b : Bool) → p y ≡ b → cond b (Some y) (find p ys) ≡ Some x → (find p ys ≡ Some x → Contains ys x × (p x ≡ true)) → Contains (y ∷ ys) x × (p x ≡ true)
    by true test e rest = let same : y ≡ x = cc in ((0, omega arith, same), ap p (sym same) ∙ test)
    by false test e rest = let later = rest e in ((suc later.0.0, omega (arith, later.0.1), later.0.2), later.1)

-- whole sectors less whole sectors
whole_rest : (a b q : ℕ) → b ≤ a → a % q ≡ 0 → b % q ≡ 0 → (a - b) % q ≡ 0
whole_rest a b q less wa wb =
    let all : (a - b) + b ≡ a = omega arith in
    let parts : a % q ≡ ((a - b) % q + b % q) % q = ap (λ (n : ℕ). n % q) (sym all) ∙ add-mod (a - b) b q in
    let rest : ((a - b) % q + b % q) % q ≡ (a - b) % q = ap (λ (n : ℕ). ((a - b) % q + n) % q) wb ∙ ap (λ (n : ℕ). n % q) (add-zero ((a - b) % q)) ∙ mod-mod (a - b) q in
    sym rest ∙ sym parts ∙ wa

module _ (g : Geometry) (holes parts : List ZoneRun) (own : HaveOwnPlaces holes)
    (fronts : All (λ part. (hole : ZoneRun) × Contains holes hole × IsFront g hole part) parts) (whole : All (λ part. part.1.len % g.q ≡ 0) parts) where
  rest_long : (hole part : ZoneRun) → HasRunLength g hole → IsFront g hole part → part.1.len % g.q ≡ 0 → All (HasRunLength g) (left_behind hole (Some part))
  rest_long hole part long front is_whole = by (part.1.len == hole.1.len) refl
    where
      rest : ZoneRun
      rest = (hole.0, record hole.1 { start = hole.1.start + part.1.len; len = hole.1.len - part.1.len })

      by : (b : Bool) → (part.1.len == hole.1.len) ≡ b → All (HasRunLength g) (cond b [] (rest ∷ []))
      by true e = All-nil (HasRunLength g)
      by false e =
          let least : g.min ≤ hole.1.len - part.1.len = elim front.rest [
            | inl all ↦ absurd (eqb-false part.1.len hole.1.len e all)
            | inr more ↦ omega (arith, more)
          ] in
          All-cons (HasRunLength g) rest [] (least, whole_rest hole.1.len part.1.len g.q front.within long.1 is_whole) (All-nil (HasRunLength g))

  left_long : (hole : ZoneRun) → Contains holes hole → HasRunLength g hole → All (HasRunLength g) (left_behind hole (find (stands_at hole) parts))
  left_long hole there long = by (find (stands_at hole) parts) refl
    where
      by : (o : Option ZoneRun) → find (stands_at hole) parts ≡ o → All (HasRunLength g) (left_behind hole o)
      by None e = All-cons (HasRunLength g) hole [] long (All-nil (HasRunLength g))
      by (Some part) e =
          let found = found_there (stands_at hole) part parts e in
          let from = All-contains (λ (part : ZoneRun). (hole : ZoneRun) × Contains holes hole × IsFront g hole part) parts part fronts found.0 in
          let same : hole ≡ from.0 = own hole from.0 there from.1 (same_place hole from.0 part found.1 from.2.at_front) in
          rest_long hole part long (subst (λ (h : ZoneRun). IsFront g h part) (sym same) from.2) (All-contains (λ (part : ZoneRun). part.1.len % g.q ≡ 0) parts part whole found.0)

  all_left : (some : List ZoneRun) → ((hole : ZoneRun) → Contains some hole → Contains holes hole × HasRunLength g hole) → All (HasRunLength g) (holes_left some parts)
  all_left [] each = All-nil (HasRunLength g)
  all_left (hole ∷ some) each =
      let here = each hole (0, omega arith, refl) in
      All-append (HasRunLength g) (left_behind hole (find (stands_at hole) parts)) (holes_left some parts) (left_long hole here.0 here.1)
      (all_left some (λ other there. each other (suc there.0, omega (arith, there.1), there.2)))

taken_left : (g : Geometry) (holes parts : List ZoneRun) (bits : ℕ) → HaveOwnPlaces holes → All (HasRunLength g) holes
    → IsTaken g holes bits parts → All (λ part. part.1.len % g.q ≡ 0) parts → All (HasRunLength g) (holes_left holes parts)
taken_left g holes parts bits own long taken whole =
    all_left g holes parts own taken.fronts whole holes (λ hole there. (there, All-contains (HasRunLength g) holes hole long there))

pub left_law : LeftLaw
left_law = record {
  taken = taken_left;
  planned = λ g holes parts bits own long plan. taken_left g holes parts bits own long plan.taken (λ i d within. (plan.long i d within).1);
}
