-- What a command that is done in the safe mode has changed, what a crash and every exit leave, and what every answer keeps.
use Rattle.std.specs.Prelude.{◌≡◌, ◌≤◌, ◌++◌, ℕ, true, List, Some, Result, Err, IfErr, IsFalse}
use Rattle.std.specs.Option.{ForSome}
use Rattle.fc_device.specs.declared.disk.Disk.{Ghosts}
use Rattle.fc_device.specs.Calls.{SameForm}
use Rattle.fc_device.specs.Faults.{Rose}
use Rattle.fc_record.specs.declared.Kind.{Kind}
use Rattle.fc_newmap.specs.Map.{Map, map_sectors}
use Rattle.fc_model.specs.Answer.{changed}
use Rattle.fc_model.specs.Command.{Command}
use Rattle.fc_image.specs.Layout.{Layout, is_among}
use Rattle.fc_image.specs.Objects.{objects_of, tree_of}
use Rattle.fc_image.specs.Opening.{Opened, boot_place}
use Rattle.fc_image.specs.Stays.{HasSectorsOf, OpensAs}
use Rattle.fc_image.specs.effects.Steady.{SameSectors, idle_sectors}
use Rattle.fc_image.specs.safe.SafeEffect.{HasTreeBeforeOrAfter}
use Rattle.fc_tree.specs.Parts.{ArePartsOf, Parts}
use Rattle.fc_writing.specs.Laws.{ChangesOnly}
use Rattle.fc_holdings.specs.declared.holdings.Holdings.{Holdings}
use Rattle.fc_holdings.specs.Holdings.{Stands, parts_of}
use Rattle.fc_safe.specs.declared.error.SafeError.{SafeError}
use Rattle.fc_safe.specs.declared.error.SafeError.TheVariants as errors
use Rattle.fc_safe.specs.Suits.{Suits}
use Rattle.fc_safelaws.specs.Free.{IsFreeSector}
use Rattle.fc_safeedits.specs.SafeOutcome.{SafeOutcome}
use Rattle.fc_safecommands.specs.JobAnswers.{UnlessDiskFault}

-- ---- what an accepted command does

-- As each kind as which the image opens, and by each view whose parts these are, the other image has what the command promises in the safe
-- mode, and has the other parts.
abbrev pub ChangesPartsSafely : Command → Parts → Parts → List ℕ → List ℕ → Type 0
ChangesPartsSafely c was now image other = (kind : Kind) (view : Opened) → OpensAs image kind view → ArePartsOf was view → SafeOutcome kind image other view c now

-- If the disk tells its bytes, it has another image afterwards, and is changed so.
abbrev pub HasChangedSafely : {D : Type 0} → Ghosts D → Command → Parts → Parts → D → D → Type 0
HasChangedSafely d c was now old new = ForSome (d.bytes old) (λ image. (other : List ℕ) × (d.bytes new ≡ Some other) × ChangesPartsSafely c was now image other)

-- ---- what a crash at any moment and every exit leave, an I/O error included

-- the tree before the command, or the tree after it
abbrev pub LeavesTree : Command → Parts → List ℕ → List ℕ → Type 0
LeavesTree c h was image = (kind : Kind) (view : Opened) → OpensAs was kind view → ArePartsOf h view
    → HasTreeBeforeOrAfter kind (record { image = was; view = view }) (changed (tree_of was view.layout view.listings) c) image

-- Beside the map only sectors were written in which nothing lay; the boot block, identifier 1 and lost space have their bytes.
pub record WritesFree (kind : Kind) (view : Opened) (m : Map) (was image : List ℕ) : Type 0 where
  pub sectors : List ℕ
  pub only : ChangesOnly m.geometry.sector (sectors ++ map_sectors m.geometry) was image
  pub free : (s : ℕ) → is_among sectors s ≡ true → IsFreeSector m (objects_of view.listings) s
  pub boot : HasSectorsOf m.geometry.sector (boot_place kind m.geometry.sector) was image
  pub idle : SameSectors m.geometry.sector (idle_sectors view m) was image

abbrev pub WritesFreeOn : Layout → Kind → Opened → List ℕ → List ℕ → Type 0
WritesFreeOn (Layout.New m) kind view was image = WritesFree kind view m was image
WritesFreeOn (Layout.Old space) kind view was image = ⊥

abbrev pub WritesFreeOf : Parts → List ℕ → List ℕ → Type 0
WritesFreeOf h was image = (kind : Kind) (view : Opened) → OpensAs was kind view → ArePartsOf h view → WritesFreeOn h.layout kind view was image

-- ---- what stays, whatever is known of the disk's bytes

-- A refusal and a lack of memory leave disk and holdings as they were. After any answer but an I/O error the holdings stand for the disk,
-- nothing is pending, and the volume suits.
pub record SafeKeeps {D : Type 0} (d : Ghosts D) (old new : D) (was h : Holdings) (result : Result (Unit {0}) SafeError) : Type 0 where
  pub unchanged : IfErr result (λ error. (error ≡ errors.DiskFault → ⊥) → (h ≡ was) × (new ≡ old))
  pub stands : UnlessDiskFault result (Stands d h new)
  pub settled : UnlessDiskFault result (IsFalse (d.pending new))
  pub suits : UnlessDiskFault result (Suits (parts_of h).layout (parts_of h).nodes)
  pub form : SameForm d old new
  pub faults : d.faults old ≤ d.faults new
  pub cause : result ≡ Err errors.DiskFault → Rose (d.faults old) (d.faults new)
