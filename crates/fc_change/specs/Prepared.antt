-- A change, ready to be written.
use Rattle.std.specs.Prelude.{◌≡◌, ℕ, Bool, true, false, ◌==◌, ◌&&◌, List, [], ◌∷◌, ◌++◌, filter, not, length, Option, Some, None, IsSome, Contains, Vec}
use Rattle.std.specs.declared.alloc.Global.{Global}
use Rattle.std.specs.FinMap.{get}
use Rattle.fc_device.specs.declared.disk.Extent.{Extent}
use Rattle.fc_drafts.specs.declared.draft.Draft.{Draft}
use Rattle.fc_drafts.specs.Draft.{IsSayable, directory_in, size_of}
use Rattle.fc_image.specs.Layout.{Layout, dir_form, sectors_at}
use Rattle.fc_image.specs.Walk.{object_size}
use Rattle.fc_image.specs.effects.Steady.{AreWritten}
use Rattle.fc_laws.specs.nodes.Edits.{Nodes}
use Rattle.fc_objects.specs.Extents.{sectors_in}
use Rattle.fc_tree.specs.Parts.{Parts}
use Rattle.fc_tree.specs.declared.node.Node.{Node}
use Rattle.fc_change.specs.declared.change.Change.{Change}
use Rattle.fc_change.specs.declared.change.Says.{Says}
use Rattle.fc_change.specs.declared.change.Turned.{Turned}
use Rattle.fc_change.specs.declared.change.Turned.TheVariants as turns
use Rattle.fc_writing.specs.declared.ready.Piece.{Piece}
use Rattle.fc_writing.specs.declared.ready.Ready.{Ready}
use Rattle.fc_writing.specs.declared.ready.Source.{Source}
use Rattle.fc_writing.specs.declared.ready.Source.TheVariants as sources
use Rattle.fc_writing.specs.declared.ready.Transfer.{Transfer}
use Rattle.fc_change.specs.declared.spaces.GrownPlace.{GrownPlace}
use Rattle.fc_change.specs.declared.spaces.Place.{Place}
use Rattle.fc_change.specs.declared.spaces.Spaces.{Spaces}

-- ---- pieces

-- The piece has the bytes of what is drafted.
pub record IsDrafted (d : Draft) (p : Piece) : Type 0 where
  pub sayable : IsSayable (directory_in d)
  pub bytes : AreWritten p.bytes.items (directory_in d)
  pub length_is : length p.bytes.items ≡ size_of (directory_in d)

-- It goes to the place of the node's object.
pub record IsPieceOf (layout : Layout) (nodes : Nodes) (s : Says) (p : Piece) : Type 0 where
  pub node : Node
  pub there : get nodes s.node ≡ Some node
  pub place : sectors_at layout node.entry.address (object_size (dir_form layout) node.entry) ≡ Some (sectors_in p.place.items)
  pub drafted : IsDrafted s.draft p

-- ---- before the map, and after it

-- The directory grows into new space, so that it is written before the map names that.
abbrev pub is_moved : Option GrownPlace → ℕ → Bool
is_moved None n = false
is_moved (Some g) n = g.moves && (g.directory.node == n)

-- Of a directory that grows where it lies the piece goes to all its sectors then, of another to those of the node's object.
abbrev pub IsPieceIn : (grown : Bool) → Layout → Nodes → List Extent → Says → Piece → Type 0
IsPieceIn true layout nodes extents s p = (p.place.items ≡ extents) × IsDrafted s.draft p
IsPieceIn false layout nodes extents s p = IsPieceOf layout nodes s p

abbrev pub IsLatePiece : Layout → Nodes → Option GrownPlace → Says → Piece → Type 0
IsLatePiece layout nodes None s p = IsPieceOf layout nodes s p
IsLatePiece layout nodes (Some g) s p = IsPieceIn (g.directory.node == s.node) layout nodes g.extents.items s p

-- a piece for each, in this order
abbrev pub PiecesMatch : Layout → Nodes → Option GrownPlace → List Says → List Piece → Type 0
PiecesMatch layout nodes grown [] [] = Unit {0}
PiecesMatch layout nodes grown (s ∷ ss) (p ∷ ps) = IsLatePiece layout nodes grown s p × PiecesMatch layout nodes grown ss ps
PiecesMatch layout nodes grown _ _ = ⊥

-- those of the directories that are written over, each in its place of the order: a directory that gets new space isn't among them
abbrev pub ArePiecesOf : Layout → Nodes → Option GrownPlace → List Says → List Piece → Type 0
ArePiecesOf layout nodes grown says ps = PiecesMatch layout nodes grown (filter (λ (s : Says). not (is_moved grown s.node)) says) ps

-- After the pieces that were there come those of these directories.
pub record HasMorePieces (h : Parts) (grown : Option GrownPlace) (says : List Says) (was now : List Piece) : Type 0 where
  pub more : List Piece
  pub after : now ≡ was ++ more
  pub are : ArePiecesOf h.layout h.nodes grown says more

-- a new directory
abbrev pub IsNewPiece : Turned → Option Place → List Piece → Type 0
IsNewPiece (turns.Comes dir e (Some d)) (Some place) ps = (p : Piece) × (ps ≡ p ∷ []) × (p.place.items ≡ place.extents.items) × IsDrafted d p
IsNewPiece _ _ ps = ps ≡ []

-- the one that grows, if it gets new space
abbrev pub IsMovedPiece : (moves : Bool) → GrownPlace → List Says → List Piece → Type 0
IsMovedPiece true g says ps = (s : Says) × Contains says s × (s.node ≡ g.directory.node) × (p : Piece) × (ps ≡ p ∷ []) × (p.place.items ≡ g.extents.items) × IsDrafted s.draft p
IsMovedPiece false g says ps = ps ≡ []

abbrev pub IsGrownPiece : Option GrownPlace → List Says → List Piece → Type 0
IsGrownPiece None says ps = ps ≡ []
IsGrownPiece (Some g) says ps = IsMovedPiece g.moves g says ps

-- ---- the object

-- A file gets the bytes that are given, or those of the sectors that are copied. The bytes of a directory are a piece.
abbrev pub IsSourceOf : Turned → Option Place → Option (Vec Extent Global) → Source → Type 0
IsSourceOf object (Some place) (Some from) source = (t : Transfer) × (source ≡ sources.Sectors t) × (t.from.items ≡ from.items) × (t.to.items ≡ place.extents.items)
IsSourceOf (turns.Comes dir e (Some d)) (Some place) None source = source ≡ sources.Nothing
IsSourceOf object (Some place) None source = source ≡ sources.Bytes place.extents
IsSourceOf object None from source = source ≡ sources.Nothing

-- ---- all of it

-- What is new comes early, and so does a directory that grows into new space; the others are written over late. A directory that grows
-- where it lies is among these, since the map and its entry name its old bytes until then.
pub record IsReadyFor (h : Parts) (c : Change) (s : Spaces) (r : Ready) : Type 0 where
  pub made : List Piece
  pub grown : List Piece
  pub source : IsSourceOf c.object s.object s.copied r.source
  pub carried : r.carried.items ≡ []
  pub makes : IsNewPiece c.object s.object made
  pub grows : IsGrownPiece s.grown c.says.items grown
  pub early : r.early.items ≡ made ++ grown
  pub late : ArePiecesOf h.layout h.nodes s.grown c.says.items r.late.items
  pub take : r.take ≡ s.take
  pub give : r.give ≡ s.give

-- ---- what it needs

-- The object of a node has a place on the disc.
pub record HasPlace (h : Parts) (n : ℕ) : Type 0 where
  pub node : Node
  pub there : get h.nodes n ≡ Some node
  pub placed : IsSome (sectors_at h.layout node.entry.address (object_size (dir_form h.layout) node.entry))

-- Each directory has one, and the one that grows is told what it says.
pub record CanPrepare (h : Parts) (c : Change) (s : Spaces) : Type 0 where
  pub placed : (said : Says) → Contains c.says.items said → HasPlace h said.node
  pub grows : (g : GrownPlace) → s.grown ≡ Some g → (said : Says) × Contains c.says.items said × (said.node ≡ g.directory.node)
