use Rattle.std.proofs.Common.{◌≡◌, take}
use Rattle.fc_bigdir.proofs.LetterLemmas.{letters_in}
use Rattle.fc_bigdir.proofs.twins.first_letters.Given as goal

abbrev pub invariant-loop-c : goal.invariant-loop-c
invariant-loop-c l = l.letters ≡ letters_in (take l.c-index l.c-items)
