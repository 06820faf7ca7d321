use Rattle.std.proofs.Common.{rules}
use Rattle.fc_format.proofs.ZoneLemmas.{front_taken}
use Rattle.fc_format.proofs.zones.take_front.Goals as goal

pub returns : goal.returns
returns c start front was =
    front_taken c.args.shape.now start c.args.b.now c.split.new.b c.label.new.b front c.args.at c.args.len c.args.id was c.split.ensures.runs c.split.ensures.links c.split.ensures.outside (search rules) c.label.ensures.runs c.label.ensures.links
    c.label.ensures.outside (search rules)
