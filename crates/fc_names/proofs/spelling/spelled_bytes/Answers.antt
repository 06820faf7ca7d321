use Rattle.std.proofs.Common.{◌∙◌, sym, eqb-true}
use Rattle.fc_names.proofs.SpellingLemmas.{IsRead-next, name_of-too_long}
use Rattle.fc_names.proofs.spelling.spelled_bytes.Goals as goal

pub loop-rest-preserved : goal.loop-rest-preserved
loop-rest-preserved c =
    rw c.push.ensures.items
    (IsRead-next _ _ _ _ _ c.loop-rest.invariant c.in_ok-c.ensures.printed c.in_ok-c.ensures.read)

pub returns-then-is_full-clause-name : goal.returns-then-is_full-clause-name
returns-then-is_full-clause-name c =
    let full = eqb-true _ 255 (sym c.is_full.ensures.value ∙ c.if-is_full.true) in
    sym (name_of-too_long _ _ _ c.in_ok-c.after.now c.in_ok-c.c c.loop-rest.invariant c.in_ok-c.ensures.read full)
