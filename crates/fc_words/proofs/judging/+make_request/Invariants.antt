use Rattle.std.proofs.Common.{length}
use Rattle.fc_words.proofs.judging.+make_request.Given as goal

abbrev pub decreases-make_request : goal.decreases-make_request
decreases-make_request l = length l.words.now
