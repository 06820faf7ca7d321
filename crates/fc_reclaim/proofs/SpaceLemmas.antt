-- The holes of a zone when one of its runs becomes a hole, joined with all holes around it.
use Rattle.std.proofs.Common.{◌≡◌, ◌<◌, ◌≤◌, ℕ, ◌+◌, ◌-◌, Bool, true, false, cond, List, [], ◌∷◌, ◌++◌, refl, sym, ap, ap₂, subst, ◌∙◌, inl, inr, arith, eq-eqb}
use Rattle.std.specs.Prelude.{nat_le, nat_lt, ◌==◌, ◌&&◌}
use Rattle.std.proofs.lemmas.Bool.{lt-ltb, le-ltb, le-leb, ne_eqb, cases_Bool as either_test}
use Rattle.fc_oldmap.specs.declared.Hole.{Hole as Space}
use Rattle.fc_oldmap.specs.Holes.{hole, hole_end}
use Rattle.fc_zone.specs.declared.Run.{Run}
use Rattle.fc_zone.specs.declared.RunKind.TheVariants.{Hole}
use Rattle.fc_newmap.specs.Map.{is_hole}
use Rattle.fc_image.specs.safe.Reclaim.{absorbed, joined_over}
use Rattle.fc_plan.specs.Giving.{freed, joined, spaces_in}
use Rattle.fc_plan.proofs.Spaces.{Lie, spaces-append, spaces-hole, spaces-other}
use Rattle.fc_reclaim.specs.Zone.{AreHoles, behind_holes, given, joined_all}

-- the place after some runs that begin at a place
abbrev pub after : ℕ → List Run → ℕ
after at [] = at
after at (run ∷ runs) = after (at + run.len) runs

-- the end of the holes that come first
abbrev pub end_ahead : ℕ → List Run → ℕ
end_ahead at [] = at
end_ahead at (next ∷ rest) = cond (is_hole next.kind) (end_ahead (at + next.len) rest) at

ahead_le : (at : ℕ) (rest : List Run) → at ≤ end_ahead at rest
ahead_le at [] = omega arith
ahead_le at (next ∷ rest) = by (is_hole next.kind) (ahead_le (at + next.len) rest)
  where
    by : (b : Bool) → at + next.len ≤ end_ahead (at + next.len) rest → at ≤ cond b (end_ahead (at + next.len) rest) at
    by true h = omega (arith, h)
    by false h = omega arith

lie_after : (xs ys : List Run) (at : ℕ) → Lie at (xs ++ ys) → Lie (after at xs) ys
lie_after [] ys at h = h
lie_after (x ∷ xs) ys at h = lie_after xs ys (at + x.len) h.2

after_le : (xs : List Run) (at : ℕ) → at ≤ after at xs
after_le [] at = omega arith
after_le (x ∷ xs) at = (let h = after_le xs (at + x.len) in omega (arith, h))

-- ---- one space before others

absorb_none : (space : Space) → absorbed space [] ≡ space ∷ []
unfolding absorbed
absorb_none space = refl

-- a hole that begins where the space ends
absorb_touching : (space h : Space) (hs : List Space) → hole_end space ≡ h.start → absorbed space (h ∷ hs) ≡ absorbed (hole space.start (space.len + h.len)) hs
unfolding absorbed
absorb_touching space h hs e =
    ap₂ (λ (a b : Bool). cond a (joined_over space.start h (absorbed space hs)) (cond b (absorbed (hole space.start (space.len + h.len)) hs) (space ∷ h ∷ hs)))
    (le-ltb h.start space.start (omega (arith, e))) (eq-eqb (hole_end space) h.start e)

-- one that begins after it
absorb_far : (space h : Space) (hs : List Space) → hole_end space < h.start → absorbed space (h ∷ hs) ≡ space ∷ h ∷ hs
unfolding absorbed
absorb_far space h hs less =
    ap₂ (λ (a b : Bool). cond a (joined_over space.start h (absorbed space hs)) (cond b (absorbed (hole space.start (space.len + h.len)) hs) (space ∷ h ∷ hs)))
    (le-ltb h.start space.start (omega arith)) (ne_eqb (hole_end space) h.start (λ k. omega arith))

-- one that begins before it
absorb_past : (space h : Space) (hs : List Space) → h.start < space.start → absorbed space (h ∷ hs) ≡ joined_over space.start h (absorbed space hs)
unfolding absorbed
absorb_past space h hs less =
    ap (λ (a : Bool). cond a (joined_over space.start h (absorbed space hs)) (cond (hole_end space == h.start) (absorbed (hole space.start (space.len + h.len)) hs) (space ∷ h ∷ hs)))
    (lt-ltb h.start space.start less)

-- runs that begin after the space
far : (space : Space) (runs : List Run) (at : ℕ) → Lie at runs → hole_end space < at → absorbed space (spaces_in runs) ≡ space ∷ spaces_in runs
far space [] at h less = absorb_none space
far space (run ∷ runs) at h less =
    elim (either_test (is_hole run.kind)) [
      | inl is ↦
          (let start = h.0 in
          ap (absorbed space) (spaces-hole run runs is) ∙ absorb_far space (hole run.start run.len) (spaces_in runs) (omega (arith, start)) ∙ ap (λ (hs : List Space). space ∷ hs) (sym (spaces-hole run runs is)))
      | inr other ↦
          (let more : hole_end space < at + run.len = omega arith in
          ap (absorbed space) (spaces-other run runs other) ∙ far space runs (at + run.len) h.2 more ∙ ap (λ (hs : List Space). space ∷ hs) (sym (spaces-other run runs other)))
    ]

-- all holes that follow the space, one after another
pub ahead : (start at : ℕ) (rest : List Run) → start ≤ at → Lie at rest
    → absorbed (hole start (at - start)) (spaces_in rest) ≡ hole start (end_ahead at rest - start) ∷ spaces_in (behind_holes rest)
ahead start at [] le h = absorb_none (hole start (at - start))
ahead start at (next ∷ rest) le h =
    elim (either_test (is_hole next.kind)) [
      | inl is ↦
          (let begun = h.0 in
          let long : at - start + next.len ≡ at + next.len - start = omega arith in
          ap (absorbed (hole start (at - start))) (spaces-hole next rest is)
          ∙ absorb_touching (hole start (at - start)) (hole next.start next.len) (spaces_in rest) (omega (arith, begun))
          ∙ ap (λ (k : ℕ). absorbed (hole start k) (spaces_in rest)) long
          ∙ ahead start (at + next.len) rest (omega arith) h.2
          ∙ ap (λ (b : Bool). hole start (cond b (end_ahead (at + next.len) rest) at - start) ∷ spaces_in (cond b (behind_holes rest) (next ∷ rest))) (sym is))
      | inr other ↦
          (let long = h.1 in
          ap (absorbed (hole start (at - start))) (spaces-other next rest other)
          ∙ far (hole start (at - start)) rest (at + next.len) h.2 (omega (arith, long))
          ∙ ap (λ (hs : List Space). hole start (at - start) ∷ hs) (sym (spaces-other next rest other))
          ∙ ap (λ (b : Bool). hole start (cond b (end_ahead (at + next.len) rest) at - start) ∷ spaces_in (cond b (behind_holes rest) (next ∷ rest))) (sym other))
    ]

-- ---- holes that touch the space from before

over_touching : (place : ℕ) (h g : Space) (hs : List Space) → hole_end h ≡ g.start → g.start ≤ place → place < hole_end g → joined_over place h (g ∷ hs) ≡ hole h.start (h.len + g.len) ∷ hs
over_touching place h g hs e low high =
    ap (λ (b : Bool). cond (b && nat_le g.start place && nat_lt place (hole_end g)) (hole h.start (h.len + g.len) ∷ hs) (h ∷ g ∷ hs)) (eq-eqb (hole_end h) g.start e)
    ∙ ap₂ (λ (a b : Bool). cond (a && b) (hole h.start (h.len + g.len) ∷ hs) (h ∷ g ∷ hs)) (le-leb g.start place low) (lt-ltb place (hole_end g) high)

over_apart : (place : ℕ) (h g : Space) (hs : List Space) → hole_end h < g.start → joined_over place h (g ∷ hs) ≡ h ∷ g ∷ hs
over_apart place h g hs less =
    ap (λ (b : Bool). cond (b && nat_le g.start place && nat_lt place (hole_end g)) (hole h.start (h.len + g.len) ∷ hs) (h ∷ g ∷ hs)) (ne_eqb (hole_end h) g.start (λ k. omega arith))

over_passed : (place : ℕ) (h g : Space) (hs : List Space) → hole_end g ≤ place → joined_over place h (g ∷ hs) ≡ h ∷ g ∷ hs
over_passed place h g hs past =
    ap (λ (b : Bool). cond ((hole_end h == g.start) && nat_le g.start place && b) (hole h.start (h.len + g.len) ∷ hs) (h ∷ g ∷ hs)) (le-ltb place (hole_end g) past)
    ∙ ap (λ (b : Bool). cond b (hole h.start (h.len + g.len) ∷ hs) (h ∷ g ∷ hs)) (never ((hole_end h == g.start) && nat_le g.start place))
  where
    never : (b : Bool) → (b && false) ≡ false
    never true = refl
    never false = refl

-- a chain of holes, the run, and the holes ahead
module _ (run : Run) (rest : List Run) (kind : is_hole run.kind ≡ false) where
  abbrev space : Space
  space = hole run.start run.len

  abbrev end : ℕ
  end = end_ahead (run.start + run.len) rest

  here : Lie run.start (run ∷ rest) → absorbed space (spaces_in (run ∷ rest)) ≡ hole run.start (end - run.start) ∷ spaces_in (behind_holes rest)
  here h =
      let long : run.len ≡ run.start + run.len - run.start = omega arith in
      ap (absorbed space) (spaces-other run rest kind) ∙ ap (λ (k : ℕ). absorbed (hole run.start k) (spaces_in rest)) long
      ∙ ahead run.start (run.start + run.len) rest (omega arith) h.2

  chained : (links : List Run) (at : ℕ) → AreHoles links → Lie at (links ++ run ∷ rest)
      → absorbed space (spaces_in (links ++ run ∷ rest)) ≡ hole at (end - at) ∷ spaces_in (behind_holes rest)
  chained [] at are h = subst (λ (k : ℕ). absorbed space (spaces_in (run ∷ rest)) ≡ hole k (end - k) ∷ spaces_in (behind_holes rest)) h.0 (here (subst (λ (k : ℕ). Lie k (run ∷ rest)) (sym h.0) h))
  chained (x ∷ links) at are h =
      let tail = chained links (at + x.len) are.1 h.2 in
      let some = h.1 in
      let begun = h.0 in
      let order : at + x.len ≤ after (at + x.len) links = after_le links (at + x.len) in
      let there = lie_after links (run ∷ rest) (at + x.len) h.2 in
      let start = there.0 in
      let more = there.1 in
      let le = ahead_le (run.start + run.len) rest in
      let long : x.len + (end - (at + x.len)) ≡ end - at = omega (arith, order, start, more, le) in
      ap (absorbed space) (spaces-hole x (links ++ run ∷ rest) (ap is_hole are.0))
      ∙ absorb_past space (hole x.start x.len) (spaces_in (links ++ run ∷ rest)) (omega (arith, begun, some, order, start))
      ∙ ap (joined_over run.start (hole x.start x.len)) tail
      ∙ over_touching run.start (hole x.start x.len) (hole (at + x.len) (end - (at + x.len))) (spaces_in (behind_holes rest)) (omega (arith, begun)) (omega (arith, order, start)) (omega (arith, order, start, more, le))
      ∙ ap₂ (λ (a b : ℕ). hole a b ∷ spaces_in (behind_holes rest)) begun long

-- ---- the runs before

-- The last of the runs is no hole, if there are any.
abbrev pub EndsUsed : List Run → Type 0
EndsUsed [] = Unit {0}
EndsUsed (x ∷ []) = is_hole x.kind ≡ false
EndsUsed (x ∷ y ∷ runs) = EndsUsed (y ∷ runs)

-- a hole that ends before these runs isn't joined with the hole that begins where they end
over_used : (place : ℕ) (h : Space) (ys : List Run) (at mid len : ℕ) (hs : List Space) → Lie at ys → hole_end h < at → after at ys ≡ mid → mid ≤ place
    → joined_over place h (spaces_in ys ++ hole mid len ∷ hs) ≡ h ∷ (spaces_in ys ++ hole mid len ∷ hs)
over_used place h [] at mid len hs lie less e le = over_apart place h (hole mid len) hs (omega (arith, e))
over_used place h (y ∷ ys) at mid len hs lie less e le =
    elim (either_test (is_hole y.kind)) [
      | inl is ↦
          (let begun = lie.0 in
          ap (λ (ks : List Space). joined_over place h (ks ++ hole mid len ∷ hs)) (spaces-hole y ys is)
          ∙ over_apart place h (hole y.start y.len) (spaces_in ys ++ hole mid len ∷ hs) (omega (arith, begun))
          ∙ ap (λ (ks : List Space). h ∷ (ks ++ hole mid len ∷ hs)) (sym (spaces-hole y ys is)))
      | inr other ↦
          (let more : hole_end h < at + y.len = omega arith in
          ap (λ (ks : List Space). joined_over place h (ks ++ hole mid len ∷ hs)) (spaces-other y ys other) ∙ over_used place h ys (at + y.len) mid len hs lie.2 more e le
          ∙ ap (λ (ks : List Space). h ∷ (ks ++ hole mid len ∷ hs)) (sym (spaces-other y ys other)))
    ]

-- nor is one before a run that isn't the last hole
over_next : (place : ℕ) (h : Space) (y : Run) (ys : List Run) (at mid len : ℕ) (hs : List Space) → EndsUsed (y ∷ ys) → Lie at (y ∷ ys) → hole_end h ≡ at → after at (y ∷ ys) ≡ mid → mid ≤ place
    → joined_over place h (spaces_in (y ∷ ys) ++ hole mid len ∷ hs) ≡ h ∷ (spaces_in (y ∷ ys) ++ hole mid len ∷ hs)
over_next place h y ys at mid len hs ends lie touch e le =
    elim (either_test (is_hole y.kind)) [
      | inl is ↦
          (let begun = lie.0 in
          let order = after_le ys (at + y.len) in
          ap (λ (ks : List Space). joined_over place h (ks ++ hole mid len ∷ hs)) (spaces-hole y ys is)
          ∙ over_passed place h (hole y.start y.len) (spaces_in ys ++ hole mid len ∷ hs) (omega (arith, begun, order, e))
          ∙ ap (λ (ks : List Space). h ∷ (ks ++ hole mid len ∷ hs)) (sym (spaces-hole y ys is)))
      | inr other ↦
          (let some = lie.1 in
          let more : hole_end h < at + y.len = omega (arith, touch, some) in
          ap (λ (ks : List Space). joined_over place h (ks ++ hole mid len ∷ hs)) (spaces-other y ys other) ∙ over_used place h ys (at + y.len) mid len hs lie.2 more e le
          ∙ ap (λ (ks : List Space). h ∷ (ks ++ hole mid len ∷ hs)) (sym (spaces-other y ys other)))
    ]

lie_front : (xs ys : List Run) (at : ℕ) → Lie at (xs ++ ys) → Lie at xs
lie_front [] ys at h = tt
lie_front (x ∷ xs) ys at h = (h.0, h.1, lie_front xs ys (at + x.len) h.2)

-- the runs before stay as they are
fronted : (space : Space) (front : List Run) (at mid len : ℕ) (hs ks : List Space) → EndsUsed front → Lie at front → after at front ≡ mid → mid ≤ space.start
    → absorbed space hs ≡ hole mid len ∷ ks → absorbed space (spaces_in front ++ hs) ≡ spaces_in front ++ hole mid len ∷ ks
fronted space [] at mid len hs ks ends lie e le is = is
fronted space (x ∷ []) at mid len hs ks ends lie e le is =
    ap (λ (s : List Space). absorbed space (s ++ hs)) (spaces-other x [] ends) ∙ is ∙ ap (λ (s : List Space). s ++ hole mid len ∷ ks) (sym (spaces-other x [] ends))
fronted space (x ∷ y ∷ front) at mid len hs ks ends lie e le is =
    let tail = fronted space (y ∷ front) (at + x.len) mid len hs ks ends lie.2 e le is in
    elim (either_test (is_hole x.kind)) [
      | inl hole_x ↦
          (let begun = lie.0 in
          let some = lie.1 in
          let order = after_le (y ∷ front) (at + x.len) in
          ap (λ (s : List Space). absorbed space (s ++ hs)) (spaces-hole x (y ∷ front) hole_x)
          ∙ absorb_past space (hole x.start x.len) (spaces_in (y ∷ front) ++ hs) (omega (arith, begun, some, order, e, le))
          ∙ ap (joined_over space.start (hole x.start x.len)) tail
          ∙ over_next space.start (hole x.start x.len) y front (at + x.len) mid len ks ends lie.2 (omega (arith, begun)) e le
          ∙ ap (λ (s : List Space). s ++ hole mid len ∷ ks) (sym (spaces-hole x (y ∷ front) hole_x)))
      | inr other ↦
          ap (λ (s : List Space). absorbed space (s ++ hs)) (spaces-other x (y ∷ front) other) ∙ tail ∙ ap (λ (s : List Space). s ++ hole mid len ∷ ks) (sym (spaces-other x (y ∷ front) other))
    ]

-- ---- the hole that the run becomes

joined_start : (h : Run) (rest : List Run) → (joined_all h rest).start ≡ h.start
joined_start h [] = refl
joined_start h (next ∷ rest) = by (is_hole next.kind) (joined_start (joined h next) rest)
  where
    by : (b : Bool) → (joined_all (joined h next) rest).start ≡ h.start → (cond b (joined_all (joined h next) rest) h).start ≡ h.start
    by true e = e
    by false e = refl

joined_kind : (h : Run) (rest : List Run) → (joined_all h rest).kind ≡ h.kind
joined_kind h [] = refl
joined_kind h (next ∷ rest) = by (is_hole next.kind) (joined_kind (joined h next) rest)
  where
    by : (b : Bool) → (joined_all (joined h next) rest).kind ≡ h.kind → (cond b (joined_all (joined h next) rest) h).kind ≡ h.kind
    by true e = e
    by false e = refl

joined_len : (h : Run) (rest : List Run) → (joined_all h rest).len ≡ end_ahead (h.start + h.len) rest - h.start
joined_len h [] = omega arith
joined_len h (next ∷ rest) = by (is_hole next.kind) (joined_len (joined h next) rest)
  where
    by : (b : Bool) → (joined_all (joined h next) rest).len ≡ end_ahead (h.start + (h.len + next.len)) rest - h.start
        → (cond b (joined_all (joined h next) rest) h).len ≡ cond b (end_ahead (h.start + h.len + next.len) rest) (h.start + h.len) - h.start
    by true e = let same : h.start + (h.len + next.len) ≡ h.start + h.len + next.len = omega arith in e ∙ ap (λ (k : ℕ). end_ahead k rest - h.start) same
    by false e = omega arith

pub given_kind : (links : List Run) (run : Run) (rest : List Run) → AreHoles links → (given links run rest).kind ≡ Hole
given_kind [] run rest are = joined_kind (freed run) rest
given_kind (first ∷ links) run rest are = joined_kind first (links ++ freed run ∷ rest) ∙ are.0

end_links : (links : List Run) (run : Run) (rest : List Run) (at : ℕ) → AreHoles links → end_ahead at (links ++ freed run ∷ rest) ≡ end_ahead (after at links + run.len) rest
end_links [] run rest at are = refl
end_links (x ∷ links) run rest at are = ap (λ (b : Bool). cond b (end_ahead (at + x.len) (links ++ freed run ∷ rest)) at) (ap is_hole are.0) ∙ end_links links run rest (at + x.len) are.1

given_space : (links : List Run) (run : Run) (rest : List Run) (at : ℕ) → AreHoles links → Lie at (links ++ run ∷ rest)
    → hole (given links run rest).start (given links run rest).len ≡ hole at (end_ahead (run.start + run.len) rest - at)
given_space [] run rest at are h =
    ap₂ hole (joined_start (freed run) rest) (joined_len (freed run) rest) ∙ ap (λ (k : ℕ). hole k (end_ahead (run.start + run.len) rest - k)) h.0
given_space (first ∷ links) run rest at are h =
    let begun = h.0 in
    let there = (lie_after links (run ∷ rest) (at + first.len) h.2).0 in
    let far_end : end_ahead (first.start + first.len) (links ++ freed run ∷ rest) ≡ end_ahead (run.start + run.len) rest =
    ap (λ (k : ℕ). end_ahead (k + first.len) (links ++ freed run ∷ rest)) begun ∙ end_links links run rest (at + first.len) are.1 ∙ ap (λ (k : ℕ). end_ahead (k + run.len) rest) (sym there) in
    ap₂ hole (joined_start first (links ++ freed run ∷ rest)) (joined_len first (links ++ freed run ∷ rest) ∙ ap₂ (λ (a b : ℕ). a - b) far_end begun)
    ∙ ap (λ (k : ℕ). hole k (end_ahead (run.start + run.len) rest - at)) begun

-- the holes of a zone when one of its runs goes back
pub given_spaces : (front links : List Run) (run : Run) (rest : List Run) (at : ℕ) → EndsUsed front → AreHoles links → is_hole run.kind ≡ false → Lie at (front ++ (links ++ run ∷ rest))
    → spaces_in (front ++ given links run rest ∷ behind_holes rest) ≡ absorbed (hole run.start run.len) (spaces_in (front ++ (links ++ run ∷ rest)))
given_spaces front links run rest at ends are kind h =
    let mid = after at front in
    let there = lie_after front (links ++ run ∷ rest) at h in
    let start = (lie_after links (run ∷ rest) mid there).0 in
    let order = after_le links mid in
    let is : is_hole (given links run rest).kind ≡ true = ap is_hole (given_kind links run rest are) in
    spaces-append front (given links run rest ∷ behind_holes rest)
    ∙ ap (λ (s : List Space). spaces_in front ++ s) (spaces-hole (given links run rest) (behind_holes rest) is)
    ∙ ap (λ (k : Space). spaces_in front ++ k ∷ spaces_in (behind_holes rest)) (given_space links run rest mid are there)
    ∙ sym (fronted (hole run.start run.len) front at mid (end_ahead (run.start + run.len) rest - mid) (spaces_in (links ++ run ∷ rest)) (spaces_in (behind_holes rest)) ends
    (lie_front front (links ++ run ∷ rest) at h) refl (omega (arith, start, order)) (chained run rest kind links mid are there))
    ∙ ap (absorbed (hole run.start run.len)) (sym (spaces-append front (links ++ run ∷ rest)))
