use Rattle.std.proofs.lemmas.Result.{on_ok_weaker}
use Rattle.fc_script.proofs.TextLemmas.{line_written}
use Rattle.fc_script.proofs.texts.push_words.Goals as goal

pub returns-clause-ok : goal.returns-clause-ok
returns-clause-ok c =
    on_ok_weaker c.append.result
    (line_written c.args.into.now.items c.push_word.new.into.items c.push_all_spaced.new.into.items c.append.new.into.items c.args.first.now c.args.rest.now
    c.in_ok-push_word.ensures.ok c.in_ok-push_all_spaced.ensures.ok)
    c.append.ensures.ok
