use Rattle.std.proofs.Common.{◌≡◌, ◌-◌, length}
use Rattle.std.proofs.lemmas.Result.{IfOk-weaker}
use Rattle.fc_plan.specs.Parts.{front_at}
use Rattle.fc_placing.specs.Extents.{sectors_if}
use Rattle.fc_placing.proofs.ExtentLemmas.{left_is}
use Rattle.fc_placing.proofs.extents.push_part.Goals as goal

pub returns-clause-left : goal.returns-clause-left
returns-clause-left c =
    IfOk-weaker c.push.result (λ left. left ≡ c.args.need - c.extent_of.result.sectors) (λ left. left ≡ c.args.need - length (sectors_if c.args.g.now c.args.met (front_at c.args.part)))
    (λ left is. left_is c.args.g.now (front_at c.args.part) c.extent_of.result c.args.met c.args.need left c.extent_of.ensures c.if-not-met.false is) c.push.ensures.left
