-- Laws of compaction on discs with old maps.
use Rattle.std.specs.Prelude.{◌≡◌, ◌≤◌, ◌⊎◌, ◌+◌, ℕ, Bool, List, length, None, Ok, IsPermutation}
use Rattle.std.specs.FinMap.{get}
use Rattle.std.specs.List.Sorted.{IsNonDecreasingBy}
use Rattle.fc_alloc.specs.declared.owner.Owner.{Owner}
use Rattle.fc_record.specs.declared.Kind.{Kind}
use Rattle.fc_image.specs.Layout.{Layout, disc_sectors}
use Rattle.fc_image.specs.Walk.{Listing, Reader, walk}
use Rattle.fc_image.specs.Laws.{Tells}
use Rattle.fc_image.specs.Objects.{objects_of}
use Rattle.fc_image.specs.Opening.{Opened, reserved_in}
use Rattle.fc_image.specs.effects.Effect.{Compacts}
use Rattle.fc_tree.specs.declared.node.Node.{Node}
use Rattle.fc_tree.specs.Agree.{Agree}
use Rattle.fc_tree.specs.Nodes.{HoldObjects}
use Rattle.fc_tree.specs.Parts.{ArePartsOf}
use Rattle.fc_image.specs.Sound.{AreSound}
use Rattle.fc_laws.specs.nodes.Edits.{Nodes}
use Rattle.fc_laws.specs.old.agree.Laws.{AgreeOn, parts_with}
use Rattle.fc_oldmap.specs.Holes.{AreHoles}
use Rattle.fc_oldmap.specs.OldMap.{OldMapContent, map_units}
use Rattle.fc_image.specs.declared.effects.Owned.{Owned}
use Rattle.fc_oldlaws.specs.moves.Nodes.{AreMoved, AreReady, AreRemade, AreSliding, sliding_below}
use Rattle.fc_oldlaws.specs.moves.After.{AreOwned, IsSlide, Slide, listings_after, space_after}
use Rattle.fc_oldlaws.specs.moves.Steps.{AreRewritten, IsCompactedInSteps, opened_after}
use Rattle.fc_oldlaws.specs.moves.Writes.{AreDirectoriesPlaced, AreDirectoriesWritten, MarkChanges}

-- After the objects have slid, a walk over directories that say so finds each in its new place, in the same order. No two share a
-- sector, and none lies in the map or in a hole.
abbrev pub MovedWalkLaw : Type 0
MovedWalkLaw = (kind : Kind) (read read' : Reader) (address size : ℕ) (listings : List Listing) (s : Slide)
    → walk read (Layout.Old s.space) (reserved_in kind (Layout.Old s.space)) address size ≡ Ok listings
    → length listings ≤ disc_sectors (Layout.Old s.space) + 1 → IsSlide s (objects_of listings) → Tells read' (listings_after s listings)
    → walk read' (Layout.Old (space_after s)) (reserved_in kind (Layout.Old (space_after s))) address size ≡ Ok (listings_after s listings)

-- After its steps compaction has done all that it promises.
abbrev pub CompactedLaw : Type 0
CompactedLaw = (kind : Kind) (image slid rewritten image' : List ℕ) (v : Opened) (s : Slide) → IsCompactedInSteps kind image slid rewritten image' v s
    → Compacts kind (record { image = image; view = v }) (record { image = image'; view = opened_after s v })

-- ---- volumes in memory

-- The nodes that slide are the objects that do.
abbrev pub SlidingLaw : Type 0
SlidingLaw = (space : OldMapContent) (nodes : Nodes) (listings : List Listing) (owned : List Owned) → (space.sector_units ≡ 1) ⊎ (space.sector_units ≡ 4)
    → AreSound (Layout.Old space) listings → HoldObjects nodes listings → AreSliding space nodes owned → AreOwned space (objects_of listings) owned

-- The list of all nodes that slide, sorted by their starts, is ready to be squashed.
abbrev pub ReadyLaw : Type 0
ReadyLaw = (kind : Kind) (space : OldMapContent) (nodes : Nodes) (owners : List Owner) (root : Node) (listings : List Listing) (bound : ℕ) (owned : List Owned)
    → AgreeOn kind space nodes owners root listings → ((n : ℕ) → bound ≤ n → get nodes n ≡ None) → IsPermutation (sliding_below space nodes bound) owned
    → IsNonDecreasingBy (λ o. o.start) owned → AreReady space nodes owned

-- The parts still agree, whatever is known of the disk's bytes.
abbrev pub AgreedLaw : Type 0
AgreedLaw = (kind : Kind) (s : Slide) (nodes nodes' : Nodes) (owners owners' : List Owner) (root : Node) (listings : List Listing) → AgreeOn kind s.space nodes owners root listings
    → IsSlide s (objects_of listings) → AreMoved s nodes nodes' → AreRemade s.space nodes' owners owners' → Agree kind (parts_with (space_after s) nodes' owners')

-- Compaction has done all that it promises, and the new image has the new parts.
abbrev pub TakenOverLaw : Type 0
TakenOverLaw = (kind : Kind) (image slid rewritten image' : List ℕ) (v : Opened) (s : Slide) (nodes nodes' : Nodes) (owners owners' : List Owner)
    → IsCompactedInSteps kind image slid rewritten image' v s → ArePartsOf (parts_with s.space nodes owners) v → AreMoved s nodes nodes' → AreRemade s.space nodes' owners owners'
    → Compacts kind (record { image = image; view = v }) (record { image = image'; view = opened_after s v }) × ArePartsOf (parts_with (space_after s) nodes' owners') (opened_after s v)

-- The holes still lie after the map.
abbrev pub BehindLaw : Type 0
BehindLaw = (kind : Kind) (s : Slide) (nodes : Nodes) (owners : List Owner) (root : Node) (listings : List Listing) → AgreeOn kind s.space nodes owners root listings
    → IsSlide s (objects_of listings) → AreHoles s.space.disc_units s.space.sector_units (map_units s.space.sector_units) s.holes

-- The directories of parts that agree lie on the disc, apart from each other.
abbrev pub DirectoriesLaw : Type 0
DirectoriesLaw = (kind : Kind) (space : OldMapContent) (nodes : Nodes) (owners : List Owner) → Agree kind (parts_with space nodes owners) → AreDirectoriesPlaced space nodes

-- If the directories that change are written by their nodes, they are written.
abbrev pub RewrittenLaw : Type 0
RewrittenLaw = (s : Slide) (nodes nodes' : Nodes) (listings : List Listing) (changed : ℕ → Bool) (bound : ℕ) (was image : List ℕ) → AreSound (Layout.Old s.space) listings
    → HoldObjects nodes listings → AreMoved s nodes nodes' → ((n : ℕ) → bound ≤ n → get nodes n ≡ None) → MarkChanges s nodes changed
    → AreDirectoriesWritten (space_after s) nodes' changed bound was image → AreRewritten s listings was image
