-- Edits of one directory on an old map: objects leave it and come into it, and the map gets other holes.
use Rattle.std.proofs.Common.{List}
use Rattle.fc_record.specs.declared.Kind.{Kind}
use Rattle.fc_oldmap.specs.OldMap.{OldMapContent}
use Rattle.fc_alloc.specs.declared.owner.Owner.{Owner}
use Rattle.fc_image.specs.Layout.{Layout}
use Rattle.fc_image.specs.Walk.{Listing}
use Rattle.fc_image.specs.Objects.{objects_of}
use Rattle.fc_tree.specs.declared.node.Node.{Node}
use Rattle.fc_laws.specs.nodes.Edits.{Nodes}
use Rattle.fc_changes.proofs.lemmas.old.SpaceLemmas.{AreSpaced}
use Rattle.fc_laws.specs.old.agree.Laws.{AgreeOn}
use Rattle.fc_laws.proofs.lemmas.agree.WalkedLemmas.{object_lies}

pub spaced_parts : (kind : Kind) (space : OldMapContent) (nodes : Nodes) (owners : List Owner) (root : Node) (listings : List Listing) → AgreeOn kind space nodes owners root listings → AreSpaced kind space (objects_of listings)
spaced_parts kind space nodes owners root listings a = record { units = a.is_map.units; holes = a.holes; lies = object_lies kind (Layout.Old space) nodes root listings a.walked }
