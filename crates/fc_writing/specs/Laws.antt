-- What follows from what a change leaves, for those who write with fewer stages; and second steps that only give back.
use Rattle.std.specs.Prelude.{◌≡◌, ◌⊎◌, ◌++◌, ℕ, false, List, [], length, Contains, None}
use Rattle.fc_device.specs.Sectors.{sector_at}
use Rattle.fc_newmap.specs.Map.{Map, map_sectors}
use Rattle.fc_newmap.specs.NewMap.{IsNewMap}
use Rattle.fc_newmap.specs.Copies.{Chooses}
use Rattle.fc_oldmap.specs.OldMap.{OldMapContent}
use Rattle.fc_image.specs.Layout.{Layout, is_among, map_place}
use Rattle.fc_plan.specs.declared.plan.Plan.{Plan}
use Rattle.fc_plan.specs.Giving.{is_one_of}
use Rattle.fc_changes.specs.Space.{zones_changed}
use Rattle.fc_writing.specs.declared.ready.MapStep.TheVariants as steps
use Rattle.fc_writing.specs.declared.ready.Ready.{Ready}
use Rattle.fc_writing.specs.declared.ready.SpaceStep.{SpaceStep}
use Rattle.fc_writing.specs.New.{AfterTake, ChangeLeaves, IsGiven, IsTaken}
use Rattle.fc_writing.specs.Old.{front_in}
use Rattle.fc_writing.specs.Old as old
use Rattle.fc_writing.specs.Ready.{early_content, written_place}
use Rattle.fc_writing.specs.Stages.{Stage}
use Rattle.fc_writing.specs.Steps.{CanEdit, HasEdited, is_wide}

-- The images differ at most in these sectors.
pub record ChangesOnly (size : ℕ) (sectors was image : List ℕ) : Type 0 where
  pub length_stays : length image ≡ length was
  pub outside : (s : ℕ) → is_among sectors s ≡ false → sector_at size image s ≡ sector_at size was s

-- The image is unturned: the copy that counts has the zones of before, and what is written early is there in part.
abbrev pub IsUnturned : Map → Ready → List ℕ → List ℕ → List ℕ → Type 0
IsUnturned m r bytes was image = Stage m.geometry.sector (map_sectors m.geometry) [] (early_content m.geometry.sector was bytes r) (Chooses m.geometry m.zones) was image

-- It is turned: it has the zones after the one step, and all that is written is there.
abbrev pub IsTurned : Map → Ready → List ℕ → List ℕ → List ℕ → Type 0
IsTurned m r bytes was image = Stage m.geometry.sector (map_sectors m.geometry) (early_content m.geometry.sector was bytes r) [] (AfterTake m r) was image

pub record LeavesLaw : Type 0 where
  -- nothing differs but the sectors that the change names, and the map's
  pub frame : (m : Map) (r : Ready) (bytes was image : List ℕ) → ChangeLeaves m r bytes was image → ChangesOnly m.geometry.sector (written_place r ++ map_sectors m.geometry) was image
  pub old_frame : (space : OldMapContent) (r : Ready) (bytes was image : List ℕ) → old.ChangeLeaves space r bytes was image
      → ChangesOnly (old.sector_of space) (written_place r ++ map_place (Layout.Old space)) was image
  -- If no commit is wide, the copy that counts has the zones of before, those after the first step, or those after the last.
  pub whole : (m : Map) (r : Ready) (bytes was image : List ℕ) → is_wide r.take ≡ false → is_wide r.give ≡ false → ChangeLeaves m r bytes was image
      → (n : Map) × ((n ≡ m) ⊎ (IsTaken m r n ⊎ IsGiven m r n)) × Chooses m.geometry n.zones image
  -- If the map has no step, those of before.
  pub still : (m : Map) (r : Ready) (bytes was image : List ℕ) → r.take ≡ steps.Nothing → r.give ≡ steps.Nothing → ChangeLeaves m r bytes was image → Chooses m.geometry m.zones image
  pub old_still : (space : OldMapContent) (r : Ready) (bytes was image : List ℕ) → (space.sector_units ≡ 1) ⊎ (space.sector_units ≡ 4) → r.take ≡ steps.Nothing → r.give ≡ steps.Nothing → old.ChangeLeaves space r bytes was image
      → front_in space image ≡ front_in space was
  -- If everything is early, and the first step is the only one, and not wide, the image is unturned or turned.
  pub turns : (m : Map) (r : Ready) (bytes was image : List ℕ) → r.late.items ≡ [] → r.give ≡ steps.Nothing → is_wide r.take ≡ false → ChangeLeaves m r bytes was image
      → IsUnturned m r bytes was image ⊎ IsTurned m r bytes was image

-- The step only gives space back, of no identifier for which these plans take some. Its zones are those of the map m that have runs of it.
pub record GivesLater (m : Map) (plans : List Plan) (s : SpaceStep) : Type 0 where
  pub nothing : s.plans.items ≡ []
  pub none_kept : s.kept.items ≡ []
  pub no_root : s.root ≡ None
  pub zones : s.zones.items ≡ zones_changed m None s.gone.items
  pub others : (p : Plan) → Contains plans p → is_one_of s.gone.items p.id ≡ false

-- So it can be made ready before the first step is made.
abbrev pub LaterLaw : Type 0
LaterLaw = (m mid : Map) (first later : SpaceStep) → IsNewMap m → HasEdited m mid first → GivesLater m first.plans.items later → CanEdit mid later
