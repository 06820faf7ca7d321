use Rattle.std.proofs.Common.{◌∙◌, sym}
use Rattle.fc_bigdir.proofs.EntryLemmas.{named, printed_slice}
use Rattle.fc_bigdir.proofs.entries.read_entry.Goals as goal

pub new-requires-clause-printed : goal.new-requires-clause-printed
new-requires-clause-printed c =
    let heap = c.args.heap.now in
    let at = c.word_at-at.result in
    let len = c.word_at-len.result in
    printed_slice heap at len (named heap at len (sym c.is_name_at.ensures ∙ c.if-not-is_name_at.false))
