-- Edits of lists of holes by the index of a hole.
use Rattle.std.proofs.Common.{◌≡◌, ℕ, zero, suc, ◌+◌, List, [], ◌∷◌, slice_set, slice_index_or, refl, sym, ap, subst, ◌∙◌, arith, add-one}
use Rattle.std.specs.Prelude.{remove}
use Rattle.std.proofs.Common.{eq-eqb, ne_eqb}
use Rattle.fc_oldmap.specs.declared.Hole.{Hole}
use Rattle.fc_oldmap.specs.Holes.{hole, hole_end, joined_at, TouchesNext}

-- the first of two holes that touch takes the second in
pub joined_at-touching : (holes : List Hole) (i : ℕ) (d e : Hole) → TouchesNext holes i
    → joined_at i holes ≡ slice_set (remove holes (suc i)) i (hole (slice_index_or holes i d).start ((slice_index_or holes i d).len + (slice_index_or holes (i + 1) e).len))
unfolding joined_at
joined_at-touching (h ∷ g ∷ holes) zero d e t = rw (eq-eqb (hole_end h) g.start (t.touch d)) refl
joined_at-touching (h ∷ holes) (suc i) d e t =
    let rest : TouchesNext holes i = record { next = omega (arith, t.next); touch = λ f. simp add-one (simp add-one at (t.touch f)) } in
    simp add-one (ap (λ l. h ∷ l) (simp add-one at (joined_at-touching holes i d e rest)))
joined_at-touching [] i d e t = absurd (omega (arith, t.next))
joined_at-touching (h ∷ []) zero d e t = absurd (omega (arith, t.next))

-- holes that don't touch stay
pub joined_at-apart : (holes : List Hole) (i : ℕ) → (TouchesNext holes i → ⊥) → joined_at i holes ≡ holes
unfolding joined_at
joined_at-apart [] i apart = refl
joined_at-apart (h ∷ []) zero apart = refl
joined_at-apart (h ∷ g ∷ holes) zero apart = rw (ne_eqb (hole_end h) g.start (λ e. apart (record { next = omega arith; touch = λ d. e }))) refl
joined_at-apart (h ∷ holes) (suc i) apart = ap (λ l. h ∷ l) (joined_at-apart holes i (λ t. apart (record { next = omega (arith, t.next); touch = λ d. simp add-one (simp add-one at (t.touch d)) })))

-- what the code writes
pub joined_at-written : (old seen removed new : List Hole) (i : ℕ) (g d : Hole) → TouchesNext seen i → seen ≡ old
    → removed ≡ remove old (i + 1) → g ≡ slice_index_or old (i + 1) g
    → new ≡ slice_set removed i (hole (slice_index_or seen i d).start ((slice_index_or seen i d).len + g.len)) → new ≡ joined_at i old
joined_at-written old seen removed new i g d touches same cut next written =
    let T : List Hole → Type 0 = λ l. TouchesNext l i in
    let joined = joined_at-touching old i d g (subst T same touches) in
    let e : i + 1 ≡ suc i = omega arith in
    written ∙ ap (λ l. slice_set removed i (hole (slice_index_or l i d).start ((slice_index_or l i d).len + g.len))) same
    ∙ ap (λ l. slice_set l i (hole (slice_index_or old i d).start ((slice_index_or old i d).len + g.len))) (cut ∙ ap (remove old) e)
    ∙ ap (λ (x : Hole). slice_set (remove old (suc i)) i (hole (slice_index_or old i d).start ((slice_index_or old i d).len + x.len))) next
    ∙ sym joined
