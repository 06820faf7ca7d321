-- Parts that agree, and the views of images that have these parts.
use Rattle.std.specs.Prelude.{ℕ, List}
use Rattle.fc_record.specs.declared.Kind.{Kind}
use Rattle.fc_oldmap.specs.OldMap.{OldMapContent}
use Rattle.fc_newmap.specs.Map.{Map}
use Rattle.fc_alloc.specs.declared.owner.Owner.{Owner}
use Rattle.fc_image.specs.Walk.{Listing}
use Rattle.fc_image.specs.Opening.{Opened}
use Rattle.fc_image.specs.Stays.{OpensAs}
use Rattle.fc_tree.specs.declared.node.Node.{Node}
use Rattle.fc_tree.specs.Parts.{ArePartsOf}
use Rattle.fc_laws.specs.nodes.Edits.{Nodes}
use Rattle.fc_laws.specs.agree.Agreed.{AgreeOn, parts_with}
use Rattle.fc_laws.specs.old.agree.Laws.{AgreeOn as OldAgreeOn, parts_with as old_parts_with}

-- Parts that agree by the listings of one kind agree by those of each view that has these parts, whatever the view's kind.
pub record ViewLaw : Type 0 where
  pub new : (kind other : Kind) (image : List ℕ) (view : Opened) (m : Map) (nodes : Nodes) (owners : List Owner) (top : Node) (listings : List Listing)
      → AgreeOn other m nodes owners top listings → OpensAs image kind view → ArePartsOf (parts_with m nodes owners) view → (root : Node) × AgreeOn kind m nodes owners root view.listings
  pub old : (kind other : Kind) (image : List ℕ) (view : Opened) (space : OldMapContent) (nodes : Nodes) (owners : List Owner) (top : Node) (listings : List Listing)
      → OldAgreeOn other space nodes owners top listings → OpensAs image kind view → ArePartsOf (old_parts_with space nodes owners) view
      → (root : Node) × OldAgreeOn kind space nodes owners root view.listings
