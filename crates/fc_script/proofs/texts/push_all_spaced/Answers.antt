use Rattle.std.proofs.Common.{◌∙◌, sym, subst, take}
use Rattle.fc_script.specs.Written.{Extends, spaced}
use Rattle.fc_script.proofs.TextLemmas.{Extends-append, Extends-then, spaced_more}
use Rattle.fc_script.proofs.texts.push_all_spaced.Goals as goal

pub returns-in_err-push_spaced-clause-extends : goal.returns-in_err-push_spaced-clause-extends
returns-in_err-push_spaced-clause-extends c =
    let start = c.args.into.now.items in
    let so_far = subst (λ now. Extends start now) (sym c.loop-word.invariant) (Extends-append start (spaced (take c.loop-word.word-index c.args.words.now))) in
    Extends-then start c.loop-word.into.items c.push_spaced.new.into.items so_far c.push_spaced.ensures.extends

pub loop-word-preserved : goal.loop-word-preserved
loop-word-preserved c =
    c.in_ok-push_spaced.ensures.ok
    ∙ spaced_more c.args.into.now.items c.loop-word.into.items c.args.words.now c.loop-word.word-index c.word-item.result c.loop-word-test.true c.word-item.is c.loop-word.invariant
