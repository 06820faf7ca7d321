use Rattle.std.proofs.Common.{◌≡◌, arith, get_or, inl, inr, subst, ℕ}
use Rattle.std.proofs.lemmas.Bool.{cases_lt}
use Rattle.fc_tree.proofs.taken.first_set.Goals as goal

pub loop-place-preserved : goal.loop-place-preserved
loop-place-preserved c = λ k from to. elim (cases_lt k c.loop-place.place) [
  | inl early ↦ c.loop-place.invariant k from early
  | inr late ↦ subst (λ (n : ℕ). get_or c.args.words.now n 0 ≡ 0) (let e : c.loop-place.place ≡ k = omega arith in e) c.if-words-place-ne0.false
]
