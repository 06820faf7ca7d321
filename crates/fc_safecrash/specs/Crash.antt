-- What a crash inside a command of the safe mode leaves: the tree before it or the tree after it.
use Rattle.std.specs.Prelude.{◌≡◌, ◌++◌, ℕ, true, false, List, []}
use Rattle.fc_newmap.specs.Map.{Map, map_sectors}
use Rattle.fc_newmap.specs.Copies.{Chooses}
use Rattle.fc_model.specs.Tree.{Tree}
use Rattle.fc_image.specs.Layout.{is_among}
use Rattle.fc_image.specs.Objects.{objects_of}
use Rattle.fc_image.specs.Opening.{boot_place}
use Rattle.fc_image.specs.Stays.{HasSectorsOf}
use Rattle.fc_image.specs.effects.Steady.{SameSectors, idle_sectors}
use Rattle.fc_image.specs.safe.SafeEffect.{HasTree, HasTreeBeforeOrAfter}
use Rattle.fc_writing.specs.declared.ready.MapStep.TheVariants as steps
use Rattle.fc_writing.specs.declared.ready.Ready.{Ready}
use Rattle.fc_writing.specs.Laws.{ChangesOnly}
use Rattle.fc_writing.specs.New.{ChangeLeaves, IsChanged, IsTaken}
use Rattle.fc_writing.specs.Ready.{early_content, written_place}
use Rattle.fc_writing.specs.Stages.{Stage}
use Rattle.fc_writing.specs.Steps.{is_wide}
use Rattle.fc_safelaws.specs.Free.{IsFreeSector, MappedImage, view}

-- Everything is written before the map's one step, and that commits at most nine zones.
pub record IsOneStep (r : Ready) : Type 0 where
  pub none_late : r.late.items ≡ []
  pub none_back : r.give ≡ steps.Nothing
  pub narrow : is_wide r.take ≡ false

-- Nothing lies in the sectors that the change writes beside the map.
abbrev pub WritesFree : MappedImage → Ready → Type 0
WritesFree x r = (s : ℕ) → is_among (written_place r) s ≡ true → IsFreeSector x.m (objects_of x.listings) s

-- All that the change writes is there, the copy of the map that counts is n, and nothing else has changed but the other copy.
abbrev pub IsThere : MappedImage → Ready → List ℕ → Map → List ℕ → Type 0
IsThere x r bytes n image = Stage x.m.geometry.sector (map_sectors x.m.geometry) (early_content x.m.geometry.sector x.image bytes r) [] (Chooses x.m.geometry n.zones) x.image image

-- What a command owes before it writes: with all of it there, the image has the tree t by each map that the step may leave.
pub record LeadsTo (x : MappedImage) (r : Ready) (bytes : List ℕ) (t : Tree) : Type 0 where
  pub one_step : IsOneStep r
  pub free : WritesFree x r
  pub after : (n : Map) (image : List ℕ) → IsTaken x.m r n → IsThere x r bytes n image → HasTree x.kind t image

-- Beside the map only these sectors have changed; the boot block, lost space and identifier 1 have their bytes.
pub record KeepsRest (x : MappedImage) (r : Ready) (image : List ℕ) : Type 0 where
  pub only : ChangesOnly x.m.geometry.sector (written_place r ++ map_sectors x.m.geometry) x.image image
  pub boot : HasSectorsOf x.m.geometry.sector (boot_place x.kind x.m.geometry.sector) x.image image
  pub idle : SameSectors x.m.geometry.sector (idle_sectors (view x) x.m) x.image image

pub record CrashLaw : Type 0 where
  -- Every crash, and every exit, an I/O error included, leaves the tree before the command or after it,
  pub crash : (x : MappedImage) (r : Ready) (bytes : List ℕ) (t : Tree) (image : List ℕ) → LeadsTo x r bytes t → ChangeLeaves x.m r bytes x.image image
      → HasTreeBeforeOrAfter x.kind (record { image = x.image; view = view x }) t image
  -- and the rest as it was.
  pub rest : (x : MappedImage) (r : Ready) (bytes image : List ℕ) → WritesFree x r → ChangeLeaves x.m r bytes x.image image → KeepsRest x r image
  -- At the end the tree is the one after it.
  pub done : (x : MappedImage) (r : Ready) (bytes : List ℕ) (t : Tree) (m' : Map) (image : List ℕ) → LeadsTo x r bytes t → IsTaken x.m r m' → IsChanged x.m m' r bytes x.image image
      → HasTree x.kind t image
