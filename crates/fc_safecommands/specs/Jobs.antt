-- What each job needs of a new map in the safe mode, by the nodes and by any view whose objects they hold.
use Rattle.std.specs.Prelude.{◌≡◌, ◌<◌, ◌≤◌, ℕ, nat_lt, true, List, ◌++◌, drop, is_some, map, take, Some}
use Rattle.fc_names.specs.declared.refusal.Refusal.TheVariants as refusals
use Rattle.fc_record.specs.declared.Kind.{Kind}
use Rattle.fc_newmap.specs.Map.{Map}
use Rattle.fc_newmap.specs.NewMap.{IsNewMap}
use Rattle.fc_model.specs.Command.{Command}
use Rattle.fc_drafts.specs.declared.room.Room.TheVariants as rooms
use Rattle.fc_image.specs.Layout.{Layout}
use Rattle.fc_image.specs.Opening.{Opened}
use Rattle.fc_image.specs.Sound.{AreSound}
use Rattle.fc_image.specs.effects.Sharing.{new_ids, units}
use Rattle.fc_image.specs.effects.Short.{object_units, one_if}
use Rattle.fc_image.specs.safe.SafeShort.{SafeRefusal, changed_ids, fitted_needs, is_given_up, is_suitable, new_id_growth, safe_short, takes_slack}
use Rattle.fc_placing.specs.Leaving.{is_kept}
use Rattle.fc_plan.specs.Giving.{is_one_of}
use Rattle.fc_plan.specs.declared.plan.Plan.{Plan}
use Rattle.fc_tree.specs.Agree.{Agree}
use Rattle.fc_tree.specs.Parts.{ArePartsOf, Parts}
use Rattle.fc_change.specs.declared.job.Growth.{Growth}
use Rattle.fc_change.specs.declared.job.Job.{Job}
use Rattle.fc_change.specs.declared.job.Wants.{Wants}
use Rattle.fc_change.specs.Jobs.{IsJob}
use Rattle.fc_change.specs.Needs.{AreWants, HasRoomOf, len_at}
use Rattle.fc_change.specs.Shortage.{bytes_left}
use Rattle.fc_commands.specs.Jobs.{IsJobFor}
use Rattle.fc_safe.specs.FirstNeeds.{first_gone, first_needs, first_shortage, moving_out, shared_by, stir_of}
use Rattle.fc_safe.specs.Needs.{AreMet, parts_of}
use Rattle.fc_safe.specs.Suits.{Suits}
use Rattle.fc_safe.specs.Views.{IsViewOf, StirsAs}

-- The nodes hold this view, which the safe mode serves, the job is the command's, and this is what it wants. A directory that grows has
-- some bytes already.
pub record IsJobIn (m : Map) (h : Parts) (v : Opened) (c : Command) (job : Job) (w : Wants) : Type 0 where
  pub view : IsViewOf m h v
  pub suits : is_suitable v ≡ true
  pub name : List ℕ
  pub job_is : IsJob h.nodes v.listings c job name
  pub wants : AreWants h job name w
  pub some : (g : Growth) → w.grows ≡ Some g → 0 < len_at h.nodes g.node

-- Such a job, but for what it wants: the directory that it gives a name is full.
pub record IsFullIn (m : Map) (h : Parts) (v : Opened) (c : Command) (job : Job) : Type 0 where
  pub view : IsViewOf m h v
  pub name : List ℕ
  pub job_is : IsJob h.nodes v.listings c job name
  pub full : HasRoomOf h.nodes job name rooms.Full

-- how many new identifiers are for the object, and for a directory that leaves its own
abbrev pub own_count : Map → Opened → Command → ℕ
own_count m v c = one_if (nat_lt 0 (object_units m v c))

abbrev pub out_count : Opened → Command → ℕ
out_count v c = one_if (is_some (new_id_growth v c))

-- The identifiers of the needs, in their order: the least new one for the object, those that hold a changed directory, and the next new one
-- for a directory that leaves its own.
abbrev pub ids_taken : Map → Opened → Command → List ℕ
ids_taken m v c = take (own_count m v c) (new_ids m) ++ (changed_ids m v c ++ take (out_count v c) (drop (own_count m v c) (new_ids m)))

pub record JobLaw : Type 0 where
  -- What the job stirs is what the command does; its object needs as much, and shares the same identifier;
  pub stirs : (m : Map) (h : Parts) (v : Opened) (c : Command) (job : Job) (w : Wants) → IsJobIn m h v c job w → StirsAs m h v c (stir_of m h job w)
  pub object : (m : Map) (h : Parts) (v : Opened) (c : Command) (job : Job) (w : Wants) → IsJobIn m h v c job w → units m.geometry (bytes_left m h.owners w) ≡ object_units m v c
  pub shared : (m : Map) (h : Parts) (v : Opened) (c : Command) (job : Job) (w : Wants) (id : ℕ) → IsJobIn m h v c job w → is_kept (shared_by m h.owners w) id ≡ takes_slack v c id
  -- and a directory gets a new identifier if one does by the command.
  pub out : (m : Map) (h : Parts) (v : Opened) (c : Command) (job : Job) (w : Wants) → IsJobIn m h v c job w → is_some (moving_out m h w.grows) ≡ is_some (new_id_growth v c)
  -- It is refused for want of space as the command is.
  pub short : (m : Map) (h : Parts) (v : Opened) (c : Command) (job : Job) (w : Wants) → IsJobIn m h v c job w → safe_short m v c ≡ first_shortage m h job w
  pub full : (m : Map) (h : Parts) (v : Opened) (c : Command) (job : Job) → IsFullIn m h v c job → safe_short m v c ≡ Some (SafeRefusal.Refused refusals.DirFull)
  -- Plans that meet its needs are the parts of the command's, for these identifiers.
  pub fitted : (m : Map) (h : Parts) (v : Opened) (c : Command) (job : Job) (w : Wants) (plans : List Plan) → IsJobIn m h v c job w → AreMet m (first_needs m h job w) plans
      → fitted_needs m v c ≡ Some (parts_of plans)
  pub ids : (m : Map) (h : Parts) (v : Opened) (c : Command) (job : Job) (w : Wants) (plans : List Plan) → IsJobIn m h v c job w → AreMet m (first_needs m h job w) plans
      → map (λ (p : Plan). p.id) plans ≡ ids_taken m v c
  -- What goes back is what the command gives up.
  pub given : (m : Map) (h : Parts) (v : Opened) (c : Command) (job : Job) (w : Wants) (id : ℕ) → IsJobIn m h v c job w → 3 ≤ id → is_one_of (first_gone m h job w) id ≡ is_given_up m v c id

-- By parts that agree and suit the safe mode, it is a judged command's job.
pub record IsJudgedIn (kind : Kind) (m : Map) (h : Parts) (c : Command) (job : Job) (name bytes : List ℕ) : Type 0 where
  pub is_map : IsNewMap m
  pub layout : h.layout ≡ Layout.New m
  pub suits : Suits h.layout h.nodes
  pub agree : Agree kind h
  pub judged : IsJobFor c h job name bytes

-- So it is one in each view that these parts hold, whatever it wants.
pub record JudgedLaw : Type 0 where
  pub wanted : (kind : Kind) (m : Map) (h : Parts) (c : Command) (job : Job) (name bytes : List ℕ) (w : Wants) (v : Opened) → IsJudgedIn kind m h c job name bytes → AreSound v.layout v.listings → ArePartsOf h v → AreWants h job name w
      → IsJobIn m h v c job w
  pub full : (kind : Kind) (m : Map) (h : Parts) (c : Command) (job : Job) (name bytes : List ℕ) (v : Opened) → IsJudgedIn kind m h c job name bytes → AreSound v.layout v.listings → ArePartsOf h v → HasRoomOf h.nodes job name rooms.Full
      → IsFullIn m h v c job
