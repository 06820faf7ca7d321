use Rattle.std.proofs.Common.{lit<}
use Rattle.std.proofs.lemmas.Str.Pattern.{split_once_first}
use Rattle.fc_script.proofs.WordLemmas.{cut_once}
use Rattle.fc_script.proofs.words.cut.Goals as goal

pub returns-in-Some : goal.returns-in-Some
returns-in-Some c =
    let text = c.args.text.now in
    let parts = cut_once text c.split_once.result (split_once_first 32 text c.split_once.result c.split_once.ensures.cases (lit< tt)) in
    rw c.in-Some.is at parts

pub returns-in-None : goal.returns-in-None
returns-in-None c =
    let text = c.args.text.now in
    let parts = cut_once text c.split_once.result (split_once_first 32 text c.split_once.result c.split_once.ensures.cases (lit< tt)) in
    rw c.in-None.is at parts
