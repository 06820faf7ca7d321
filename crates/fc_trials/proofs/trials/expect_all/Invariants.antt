use Rattle.fc_trials.specs.Ready.{IsReady}
use Rattle.fc_trials.proofs.trials.expect_all.Given as goal

abbrev pub invariant-loop-line : goal.invariant-loop-line
invariant-loop-line g l = IsReady g.D.Disk l.holdings l.disk
