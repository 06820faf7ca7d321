use Rattle.std.proofs.Common.{◌≡◌, ◌+◌, ℕ, inl, inr, nat_eq, subst, ◌∙◌, ap, arith}
use Rattle.std.specs.Map.{remove_entry}
use Rattle.std.proofs.lemmas.Bool.{cases_lt}
use Rattle.fc_cache.specs.Sectors.{Holds}
use Rattle.fc_cache.proofs.KeptLemmas.{entries_without-more}
use Rattle.fc_cache.proofs.kept.Kept.remove_row.Goals as goal

pub loop-i-preserved : goal.loop-i-preserved
loop-i-preserved c =
    let was = c.loop-i.invariant in
    let first = c.args.row.first in
    let now = c.remove.new.self in
    record {
      none = λ n bytes from low there. elim (cases_lt n (first + c.loop-i.i)) [
        | inl done ↦ was.none n bytes from done (c.remove.ensures.no_more n bytes there)
        | inr last ↦
            let same : n ≡ first + c.loop-i.i = omega (arith, low, last) in
            c.remove.ensures.none bytes (subst (λ (k : ℕ). Holds now k bytes) same there)
      ];
      order = c.remove.ensures.order ∙ ap (remove_entry (nat_eq (first + c.loop-i.i))) was.order ∙ entries_without-more first c.loop-i.i _;
      no_more = λ n bytes there. was.no_more n bytes (c.remove.ensures.no_more n bytes there);
    }

pub returns-clause-none : goal.returns-clause-none
returns-clause-none c = λ n bytes from low there. c.loop-i.invariant.none n bytes from (omega (arith, low, c.loop-i-test.false)) there
