-- What parts with an old map that agree have: their walk is sound.
use Rattle.std.proofs.Common.{List}
use Rattle.fc_record.specs.declared.Kind.{Kind}
use Rattle.fc_oldmap.specs.OldMap.{OldMapContent}
use Rattle.fc_alloc.specs.declared.owner.Owner.{Owner}
use Rattle.fc_image.specs.Layout.{Layout}
use Rattle.fc_image.specs.Walk.{Listing}
use Rattle.fc_image.specs.Sound.{AreSound}
use Rattle.fc_tree.specs.declared.node.Node.{Node}
use Rattle.fc_laws.specs.nodes.Edits.{Nodes}
use Rattle.fc_laws.proofs.lemmas.agree.WalkedLemmas as on_any
use Rattle.fc_laws.specs.old.agree.Laws.{AgreeOn}

pub sound : (kind : Kind) (space : OldMapContent) (nodes : Nodes) (owners : List Owner) (root : Node) (listings : List Listing) → AgreeOn kind space nodes owners root listings → AreSound (Layout.Old space) listings
sound kind space nodes owners root listings a = on_any.sound kind (Layout.Old space) nodes root listings a.walked
