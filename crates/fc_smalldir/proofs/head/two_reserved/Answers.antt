use Rattle.std.proofs.Common.{◌∙◌}
use Rattle.std.proofs.lemmas.List.{take_at}
use Rattle.fc_smalldir.proofs.head.two_reserved.Goals as goal

pub returns : goal.returns
returns c =
    take_at c.copy_from_slice.new.self _ 2 c.copy_from_slice.ensures.len ∙ c.copy_from_slice.ensures.after
