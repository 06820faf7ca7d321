-- What has to be proved of a job for its course in the safe mode. Whatever follows from these is proved once.
use Rattle.std.specs.Prelude.{◌≡◌, ◌≤◌, ℕ, List, Some, None}
use Rattle.fc_names.specs.declared.refusal.Refusal.TheVariants as refusals
use Rattle.fc_drafts.specs.declared.room.Room.TheVariants as rooms
use Rattle.fc_record.specs.declared.DiscRecord.{DiscRecord}
use Rattle.fc_record.specs.declared.Kind.{Kind}
use Rattle.fc_newmap.specs.Map.{Map}
use Rattle.fc_newmap.specs.NewMap.{IsNewMap}
use Rattle.fc_model.specs.Answer.{changed}
use Rattle.fc_model.specs.Command.{Command}
use Rattle.fc_image.specs.Layout.{Layout, disc_sectors}
use Rattle.fc_image.specs.Walk.{Listing}
use Rattle.fc_image.specs.Objects.{tree_of}
use Rattle.fc_image.specs.Opening.{Opened}
use Rattle.fc_image.specs.Sound.{AreSound}
use Rattle.fc_image.specs.Stays.{IsNewKind, OpensAs}
use Rattle.fc_image.specs.safe.SafeShort.{SafeRefusal, safe_refusal}
use Rattle.fc_tree.specs.Agree.{Agree}
use Rattle.fc_tree.specs.Parts.{ArePartsOf, Parts}
use Rattle.fc_writing.specs.New.{CanWrite, IsChanged, IsTaken}
use Rattle.fc_change.specs.After.{CanTakeOver, nodes_more, owners_admitted}
use Rattle.fc_change.specs.declared.job.Job.{Job}
use Rattle.fc_change.specs.declared.job.Wants.{Wants}
use Rattle.fc_change.specs.Needs.{AreWants, HasRoomOf}
use Rattle.fc_holdings.specs.Holdings.{TellsVersion}
use Rattle.fc_commands.specs.declared.stages.Prepared.{Prepared}
use Rattle.fc_commands.specs.Jobs.{HasLaws, IsJobFor, IsJudged}
use Rattle.fc_commands.specs.Run.{IsRun}
use Rattle.fc_safe.specs.FirstNeeds.{first_shortage}
use Rattle.fc_safe.specs.Suits.{Suits}
use Rattle.fc_safelaws.specs.Free.{MappedImage, view}
use Rattle.fc_safecrash.specs.Crash.{LeadsTo}
use Rattle.fc_safecommands.specs.Anew.{IsPreparedAnew}
use Rattle.fc_safecommands.specs.Promises.{ChangesPartsSafely}
use Rattle.fc_safecommands.specs.Stages.{CanPrepareAnew}

-- an image that opens with this map
pub record MappedBy (m : Map) : Type 0 where
  pub kind : Kind
  pub r : DiscRecord
  pub listings : List Listing
  pub image : List ℕ
  pub new_kind : IsNewKind kind r
  pub opens : OpensAs image kind (record { kind = kind; layout = Layout.New m; listings = listings })

abbrev pub mapped : (m : Map) → MappedBy m → MappedImage
mapped m x = record { kind = x.kind; r = x.r; m = m; listings = x.listings; image = x.image; new_kind = x.new_kind; opens = x.opens }

-- of parts with this map that agree as this kind
pub record SafeJobLaws (kind : Kind) (m : Map) (h : Parts) (job : Job) (name bytes : List ℕ) : Type 0 where
  -- each stage can follow
  pub can_prepare : CanPrepareAnew m h job name
  pub can_write : (p : Prepared) (n : ℕ) → IsPreparedAnew m h job name p → disc_sectors h.layout ≤ n → CanWrite n m p.ready
  pub can_take : (p : Prepared) (m' : Map) (number room : ℕ) → IsPreparedAnew m h job name p → IsTaken m p.ready m' → nodes_more p.change.object ≤ room
      → CanTakeOver (Layout.New m') h.nodes (owners_admitted h.layout p.change.object number h.owners) room p.change
  -- the parts agree afterwards, and the volume still suits
  pub agrees : (p : Prepared) (now : Parts) (number : ℕ) → IsPreparedAnew m h job name p → IsRun h now p number → Agree kind now × Suits now.layout now.nodes
  -- with all of it there, by each map that the step may leave, the image has the tree after the command, so that a crash leaves that or the
  -- one before
  pub leads : (c : Command) (p : Prepared) (x : MappedBy m) → IsJobFor c h job name bytes → IsPreparedAnew m h job name p → ArePartsOf h (view (mapped m x))
      → LeadsTo (mapped m x) p.ready bytes (changed (tree_of x.image (Layout.New m) x.listings) c)
  -- at the end the command has done what it promises
  pub changes : (c : Command) (p : Prepared) (m' : Map) (now : Parts) (number : ℕ) (was image : List ℕ) → IsJobFor c h job name bytes → IsPreparedAnew m h job name p → IsRun h now p number
      → now.layout ≡ Layout.New m' → IsChanged m m' p.ready bytes was image → ChangesPartsSafely c h now was image
  -- it is refused for want of space as the command is
  pub short_is : (c : Command) (w : Wants) (v : Opened) → IsJobFor c h job name bytes → AreWants h job name w → AreSound v.layout v.listings → ArePartsOf h v → safe_refusal v c ≡ first_shortage m h job w
  pub full : (c : Command) (v : Opened) → IsJobFor c h job name bytes → HasRoomOf h.nodes job name rooms.Full → AreSound v.layout v.listings → ArePartsOf h v
      → safe_refusal v c ≡ Some (SafeRefusal.Refused refusals.DirFull)

-- They hold of every job whose entry can hold what it gives.
abbrev pub SafeCourseLaw : Type 0
SafeCourseLaw = (kind : Kind) (m : Map) (h : Parts) (job : Job) (name bytes : List ℕ) → HasLaws h job name → IsNewMap m → TellsVersion (Layout.New m) → h.layout ≡ Layout.New m → Suits h.layout h.nodes → Agree kind h
    → IsJudged h job name bytes → SafeJobLaws kind m h job name bytes
