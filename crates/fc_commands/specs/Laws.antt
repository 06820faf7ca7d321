-- What has to be proved of a job for its course: that each stage can follow, and that the command has then done what it promises. Whatever
-- follows from these is proved once.
use Rattle.std.specs.Prelude.{◌≡◌, ◌≤◌, ◌*◌, ℕ, List, length, Some}
use Rattle.fc_drafts.specs.declared.room.Room.TheVariants as rooms
use Rattle.fc_names.specs.declared.refusal.Refusal.TheVariants as refusals
use Rattle.fc_oldmap.specs.OldMap.{map_units}
use Rattle.fc_record.specs.declared.Kind.{Kind}
use Rattle.fc_model.specs.Command.{Command}
use Rattle.fc_image.specs.Layout.{Layout, disc_sectors}
use Rattle.fc_image.specs.Opening.{Opened}
use Rattle.fc_image.specs.Sound.{AreSound}
use Rattle.fc_image.specs.effects.Short.{short}
use Rattle.fc_space.specs.Space.{PlacesSuffice}
use Rattle.fc_tree.specs.Agree.{Agree}
use Rattle.fc_tree.specs.Parts.{ArePartsOf, Parts}
use Rattle.fc_change.specs.declared.job.Job.{Job}
use Rattle.fc_change.specs.declared.job.Wants.{Wants}
use Rattle.fc_change.specs.After.{CanTakeOver, nodes_more, owners_admitted}
use Rattle.fc_change.specs.Needs.{AreWants, HasRoomOf}
use Rattle.fc_change.specs.Shortage.{shortage}
use Rattle.fc_commands.specs.declared.stages.Prepared.{Prepared}
use Rattle.fc_holdings.specs.Holdings.{TellsVersion}
use Rattle.fc_commands.specs.Jobs.{HasLaws, IsJobFor, IsJudged}
use Rattle.fc_commands.specs.Promises.{ChangesParts, WritesPlacesOf}
use Rattle.fc_commands.specs.Run.{IsMapOf, IsRun, KeepsBehind}
use Rattle.fc_commands.specs.Stages.{CanPrepareJob, IsPreparedFor}
use Rattle.fc_commands.specs.Written.{CanWriteOn, ChangeLeavesOn, IsChangedOn, IsGivenOn}

-- The image has all sectors of an old map.
abbrev pub HasFront : Layout → List ℕ → Type 0
HasFront (Layout.New m) was = Unit {0}
HasFront (Layout.Old space) was = 256 * map_units space.sector_units ≤ length was

-- of parts that agree as this kind
pub record JobLaws (kind : Kind) (h : Parts) (job : Job) (name bytes : List ℕ) : Type 0 where
  -- each stage can follow
  pub can_prepare : CanPrepareJob h job name
  pub can_write : (p : Prepared) (n : ℕ) → IsPreparedFor h job name p → disc_sectors h.layout ≤ n → CanWriteOn h.layout n p.ready
  pub can_take : (p : Prepared) (layout : Layout) (number room : ℕ) → IsPreparedFor h job name p → IsGivenOn h.layout p.ready layout → nodes_more p.change.object ≤ room
      → CanTakeOver layout h.nodes (owners_admitted h.layout p.change.object number h.owners) room p.change
  -- The parts agree afterwards; if there was memory for no owner more, these are the owners before.
  pub agrees : (p : Prepared) (now : Parts) (number : ℕ) → IsPreparedFor h job name p → IsRun h now p number → Agree kind now × KeepsBehind now.layout
  -- the command is done, and at any moment nothing else was written
  pub changes : (c : Command) (p : Prepared) (now : Parts) (number : ℕ) (was image : List ℕ) → IsJobFor c h job name bytes → IsPreparedFor h job name p → IsRun h now p number
      → IsChangedOn h.layout now.layout p.ready bytes was image → HasFront h.layout was → ChangesParts c h now was image
  pub places : (c : Command) (p : Prepared) (was image : List ℕ) → IsJobFor c h job name bytes → IsPreparedFor h job name p → ChangeLeavesOn h.layout p.ready bytes was image → WritesPlacesOf c h was image
  -- it is refused for want of space as the command is
  pub short_is : (c : Command) (w : Wants) (v : Opened) → IsJobFor c h job name bytes → AreWants h job name w → AreSound v.layout v.listings → ArePartsOf h v → short v c ≡ shortage h w
  pub full : (c : Command) (v : Opened) → IsJobFor c h job name bytes → HasRoomOf h.nodes job name rooms.Full → AreSound v.layout v.listings → ArePartsOf h v → short v c ≡ Some refusals.DirFull

-- ---- the jobs that have them

abbrev pub CourseLaw : Type 0
CourseLaw = (h : Parts) (job : Job) (name bytes : List ℕ) (kind : Kind) → HasLaws h job name → IsMapOf h.layout → TellsVersion h.layout → PlacesSuffice h.layout → Agree kind h → IsJudged h job name bytes → JobLaws kind h job name bytes
