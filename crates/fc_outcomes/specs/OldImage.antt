-- An edit on an image with an old map, and what a command has done there.
use Rattle.std.specs.Prelude.{◌≡◌, ◌++◌, ℕ, List, [], drop, map, Contains, IsPermutation}
use Rattle.fc_record.specs.Kinds.{disc_size}
use Rattle.fc_model.specs.Answer.{changed}
use Rattle.fc_model.specs.Command.{Command}
use Rattle.fc_names.specs.Names.{Path}
use Rattle.fc_image.specs.Layout.{Layout}
use Rattle.fc_image.specs.Walk.{Listing, Object}
use Rattle.fc_image.specs.Objects.{objects_of, tree_of}
use Rattle.fc_image.specs.Opening.{Opened}
use Rattle.fc_image.specs.Sound.{AreSound}
use Rattle.fc_image.specs.Stays.{OpensAs}
use Rattle.fc_image.specs.TreeEdits.{IsMove, IsObjectEdit}
use Rattle.fc_image.specs.effects.Effect.{copies_file}
use Rattle.fc_image.specs.effects.Placed.{Placed}
use Rattle.fc_image.specs.effects.Short.{old_holes_after}
use Rattle.fc_image.specs.effects.Steady.{NamedEntrySteady, NamedStays, NewDirectory, OutsideSteady}
use Rattle.fc_changes.specs.old.Owed.{IsMapAfter, holding}
use Rattle.fc_laws.specs.old.agree.Laws.{parts_with}
use Rattle.fc_edits.specs.Edit.{listings_after, objects}
use Rattle.fc_edits.specs.OldPlaces.{OldPlaces, with_holes}
use Rattle.fc_edits.specs.PartsEdit.{OldPartsEdit}
use Rattle.fc_outcomes.specs.NewImage.{Outcome}
use Rattle.fc_outcomes.specs.Puts.{ArePutOut, ArePutsOf, Put}
use Rattle.fc_outcomes.specs.Steady.{AreAsked}
use Rattle.fc_outcomes.specs.Written.{KeepsPaths, MovesPaths}

-- ---- what is known

-- An edit of the parts of an image with an old map, which gets other holes. The sectors of `puts` get their bytes. The root stays.
pub record OldImageEdit : Type 0 where
  pub parts : OldPartsEdit
  pub image : List ℕ
  pub image' : List ℕ
  pub puts : List Put
  pub opens : OpensAs image parts.kind (record { kind = parts.kind; layout = Layout.Old parts.space; listings = parts.listings })
  pub places : OldPlaces parts.space parts.holes parts.edit
  pub after : IsMapAfter parts.space parts.holes image image'
  pub out : ArePutOut (Layout.Old parts.space) puts image image'
  pub puts_of : ArePutsOf (Layout.Old parts.space) (with_holes parts.space parts.holes) parts.nodes parts.edit puts image image'
  pub root_stays : (o : Object) → Contains (objects_of parts.listings) o → o.path ≡ [] → parts.edit.turn o ≡ o

-- the image as it opened before
abbrev pub was : OldImageEdit → Opened
was x = record { kind = x.parts.kind; layout = Layout.Old x.parts.space; listings = x.parts.listings }

-- and as it opens now
abbrev pub is_now : OldImageEdit → List Listing → Opened
is_now x found = record { kind = x.parts.kind; layout = with_holes x.parts.space x.parts.holes; listings = found }

-- ---- what the command asks of it

-- The holes are the command's, and so are objects and directories.
pub record IsAsked (x : OldImageEdit) (c : Command) (found : List Listing) : Type 0 where
  pub holes : x.parts.holes ≡ old_holes_after x.parts.space (was x) c
  pub placed : Placed (was x) (is_now x found) c
  pub directories : AreAsked x.image x.image' (was x) (is_now x found) c x.parts.edit
  pub named : NamedStays (was x) (is_now x found) c (copies_file (was x) c)
  pub entry : NamedEntrySteady (was x) (is_now x found) c
  pub made : NewDirectory x.image' (is_now x found) c

-- It is so of each order in which the listings after the edit may be found.
abbrev pub IsAskedOf : OldImageEdit → Command → Type 0
IsAskedOf x c = (found : List Listing) → AreSound (with_holes x.parts.space x.parts.holes) found → IsPermutation (listings_after x.parts.edit) found → IsAsked x c found

-- ---- the law

pub record OldImageLaw : Type 0 where
  -- What lies outside is as before, and so is what comes after the disc.
  pub outside : (x : OldImageEdit) (c : Command) (found : List Listing)
      → OutsideSteady x.image x.image' (was x) (is_now x found) c (Layout.Old x.parts.space) (with_holes x.parts.space x.parts.holes)
  pub behind : (x : OldImageEdit) → drop (disc_size x.parts.kind) x.image' ≡ drop (disc_size x.parts.kind) x.image
  -- The command does what it promises, if no path changes, and if all at or below one moves.
  pub changes : (x : OldImageEdit) (c : Command) (changing : List Object)
      → KeepsPaths x.image x.image' (Layout.Old x.parts.space) (with_holes x.parts.space x.parts.holes) x.parts.nodes x.parts.listings x.parts.edit changing → IsAskedOf x c
      → ((found : List Listing)
      → IsObjectEdit x.image x.image' (Layout.Old x.parts.space) (with_holes x.parts.space x.parts.holes) x.parts.listings found (changing ++ objects x.parts.edit.gone)
      (map x.parts.edit.turn changing ++ objects x.parts.edit.come)
      → tree_of x.image' (with_holes x.parts.space x.parts.holes) found ≡ changed (tree_of x.image (Layout.Old x.parts.space) x.parts.listings) c)
      → Outcome x.parts.kind x.image x.image' (was x) c (parts_with (holding x.parts.space x.parts.holes) x.parts.nodes' x.parts.owners')
  pub moves : (x : OldImageEdit) (c : Command) (from to : Path)
      → MovesPaths x.image x.image' (Layout.Old x.parts.space) (with_holes x.parts.space x.parts.holes) x.parts.nodes x.parts.listings x.parts.edit from to → IsAskedOf x c
      → ((found : List Listing) → IsMove x.image x.image' (Layout.Old x.parts.space) (with_holes x.parts.space x.parts.holes) x.parts.listings found from to
      → tree_of x.image' (with_holes x.parts.space x.parts.holes) found ≡ changed (tree_of x.image (Layout.Old x.parts.space) x.parts.listings) c)
      → Outcome x.parts.kind x.image x.image' (was x) c (parts_with (holding x.parts.space x.parts.holes) x.parts.nodes' x.parts.owners')
