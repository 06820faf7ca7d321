use Rattle.std.proofs.Common.{◌++◌, List, ap, ◌∙◌}
use Rattle.std.specs.FinMap.{get}
use Rattle.fc_image.specs.declared.effects.Owned.{Owned}
use Rattle.fc_oldlaws.specs.moves.Nodes.{sliding_at}
use Rattle.fc_tree.specs.Nodes.{nodes_of}
use Rattle.fc_volume.proofs.CompactingLemmas.{one_more}
use Rattle.fc_volume.proofs.old.compacting.moves.sliding.Goals as goal

pub loop-n-preserved : goal.loop-n-preserved
loop-n-preserved c = λ disc is.
    c.in_ok-add_number.ensures disc is
    ∙ ap (λ (os : List Owned). os ++ sliding_at disc c.loop-n.n (get (nodes_of c.args.tree.now) c.loop-n.n)) (c.loop-n.invariant disc is)
    ∙ one_more disc (nodes_of c.args.tree.now) c.loop-n.n
