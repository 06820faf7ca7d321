use Rattle.std.proofs.Common.{◌≡◌, length}
use Rattle.std.proofs.lemmas.Result.{IfOk-weaker}
use Rattle.fc_plan.specs.Parts.{front_at}
use Rattle.fc_placing.specs.Extents.{sectors_if}
use Rattle.fc_space.proofs.GeometryLemmas.{extent_fits}
use Rattle.fc_safe.specs.Extents.{stretch_left}
use Rattle.fc_safe.proofs.ExtentLemmas.{part_left}
use Rattle.fc_safe.proofs.extents.push_part.Goals as goal

pub push_row-requires : goal.push_row-requires
push_row-requires c = record { fits = extent_fits c.args.g.now (front_at c.args.part) c.extent_of.result c.requires.record c.requires.part c.extent_of.ensures }

pub returns-clause-left : goal.returns-clause-left
returns-clause-left c =
    IfOk-weaker c.push_row.result (λ left. left ≡ stretch_left c.args.wanted c.extent_of.result.sectors) (λ left. left ≡ stretch_left c.args.wanted (length (sectors_if c.args.g.now c.args.met (front_at c.args.part))))
    (λ left is. part_left c.args.g.now (front_at c.args.part) c.extent_of.result c.args.met c.args.wanted left c.extent_of.ensures c.if-not-met.false is) c.push_row.ensures.left
