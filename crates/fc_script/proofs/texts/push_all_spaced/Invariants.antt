use Rattle.std.proofs.Common.{◌≡◌, ◌++◌, take}
use Rattle.fc_script.specs.Written.{spaced}
use Rattle.fc_script.proofs.texts.push_all_spaced.Given as goal

abbrev pub invariant-loop-word : goal.invariant-loop-word
invariant-loop-word l = l.into.items ≡ l.initial.into.items ++ spaced (take l.word-index l.words)
