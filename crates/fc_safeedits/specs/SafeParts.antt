-- An edit of the parts of a volume with a new map by which identifiers move, with no image at hand.
use Rattle.std.specs.Prelude.{ℕ, List}
use Rattle.fc_record.specs.declared.Kind.{Kind}
use Rattle.fc_alloc.specs.declared.owner.Owner.{Owner}
use Rattle.fc_image.specs.Layout.{Layout}
use Rattle.fc_tree.specs.declared.node.Node.{Node}
use Rattle.fc_laws.specs.nodes.Edits.{OwnersEdited}
use Rattle.fc_laws.specs.agree.Agreed.{AgreeOn}
use Rattle.fc_edits.specs.Edit.{listings_after, owners_joined, owners_left}
use Rattle.fc_edits.specs.NewPlaces.{Taking}
use Rattle.fc_edits.specs.Places.{AgreeNow, CanSayAll}
use Rattle.fc_safeedits.specs.Relocation.{Relocation, relocated}
use Rattle.fc_safeedits.specs.SafePlaces.{SafePlaces}

-- The parts before it agree. `root` is the root's node; parts of holes are taken, and the identifiers `gone` go back.
pub record SafeParts : Type 0 where
  pub kind : Kind
  pub move : Relocation
  pub owners : List Owner
  pub owners' : List Owner
  pub root : Node
  pub takings : List Taking
  pub gone : List ℕ
  pub agreed : AgreeOn kind move.m move.nodes owners root move.listings
  pub can : CanSayAll (Layout.New move.m) move.listings move.edit
  pub owners_edited : OwnersEdited owners owners' (owners_left (Layout.New move.m) move.edit) (owners_joined (Layout.New move.m') move.edit)
  pub places : SafePlaces move takings gone

-- The parts after it agree.
abbrev pub SafePartsLaw : Type 0
SafePartsLaw = (y : SafeParts) → AgreeNow y.kind y.move.m' y.move.nodes' y.owners' (listings_after (relocated y.move))
