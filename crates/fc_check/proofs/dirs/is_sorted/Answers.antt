use Rattle.std.proofs.Common.{rules}
use Rattle.std.proofs.lemmas.List.Sorted.{answers_always}
use Rattle.fc_names.specs.Names.{is_name_before}
use Rattle.fc_check.proofs.SortedLemmas.{sorted_is}
use Rattle.fc_check.proofs.dirs.is_sorted.Goals as goal

pub returns : goal.returns
returns c = sorted_is c.args.entries.now c.is_sorted_by.result (c.is_sorted_by.ensures.cases (λ e f. is_name_before e.name f.name) (answers_always _ _ _ (λ f a r f' called. search rules)))
