-- What the safe mode needs of a view, told by the nodes that hold its objects and by their owners.
use Rattle.std.specs.Prelude.{◌≡◌, ◌≤◌, ◌||◌, ℕ, Bool, true, List, [], ◌∷◌, map, Option, Some, Contains}
use Rattle.std.specs.Option.{option_map_or}
use Rattle.fc_newmap.specs.Map.{Map}
use Rattle.fc_newmap.specs.NewMap.{IsNewMap}
use Rattle.fc_names.specs.Names.{Path}
use Rattle.fc_model.specs.Command.{Command}
use Rattle.fc_image.specs.Layout.{Layout}
use Rattle.fc_image.specs.Walk.{Object}
use Rattle.fc_image.specs.Objects.{objects_of}
use Rattle.fc_image.specs.Opening.{Opened}
use Rattle.fc_image.specs.Sound.{AreSound}
use Rattle.fc_image.specs.effects.Sharing.{units}
use Rattle.fc_image.specs.effects.Short.{Growth, object_units}
use Rattle.fc_image.specs.safe.SafeShort.{changed_ids, copies_away, fitted_needs, is_changed_directory, is_given_up, is_replaced, is_suitable, leaves_id, needs, new_id_growth, safe_short, sectors_after, takes_slack}
use Rattle.fc_placing.specs.Leaving.{is_kept}
use Rattle.fc_plan.specs.declared.plan.Plan.{Plan}
use Rattle.fc_plan.specs.Giving.{is_one_of}
use Rattle.fc_tree.specs.Nodes.{number_of}
use Rattle.fc_tree.specs.Parts.{ArePartsOf, Parts, owner_of}
use Rattle.fc_change.specs.declared.job.Job.{Job}
use Rattle.fc_change.specs.declared.job.Job.TheVariants as jobs
use Rattle.fc_change.specs.declared.job.Wants.{Wants}
use Rattle.fc_change.specs.Jobs.{IsJob}
use Rattle.fc_change.specs.Needs.{AreWants}
use Rattle.fc_safe.specs.FirstNeeds.{Stir, first_gone, first_needs, first_shortage, goes, ids_of, needs_by, out_need}
use Rattle.fc_safe.specs.Needs.{AreMet, bits_of, parts_of}
use Rattle.fc_safe.specs.Staying.{sectors_then}

-- The view has this map, it is sound, and these are its parts.
pub record IsViewOf (m : Map) (h : Parts) (v : Opened) : Type 0 where
  pub is_map : IsNewMap m
  pub layout : v.layout ≡ Layout.New m
  pub sound : AreSound v.layout v.listings
  pub parts : ArePartsOf h v

-- ---- what is stirred

-- The object leaves its identifier: it goes, is copied, or gets a new one.
abbrev pub does_leave : Opened → Command → Path → Bool
does_leave v c path = is_replaced v c path || (copies_away v c path || leaves_id v c path)

-- The node is that of an object.
abbrev pub IsNodeOf : Parts → Opened → Object → ℕ → Type 0
IsNodeOf h v o n = Contains (objects_of v.listings) o × (number_of h.nodes o.path ≡ Some n)

-- By nodes it is what the command does by paths.
pub record StirsAs (m : Map) (h : Parts) (v : Opened) (c : Command) (s : Stir) : Type 0 where
  pub changed : (o : Object) (n : ℕ) → IsNodeOf h v o n → is_one_of s.changed n ≡ is_changed_directory v c o
  pub leaving : (o : Object) (n : ℕ) → IsNodeOf h v o n → is_one_of s.leaving n ≡ does_leave v c o.path
  pub longer : (o : Object) (n : ℕ) → IsNodeOf h v o n → sectors_then s.longer (owner_of h.nodes (Layout.New m) o) ≡ sectors_after m v c o
  pub out : bits_of m.geometry (out_need s.out) ≡ option_map_or (λ (growth : Growth). units m.geometry growth.1 ∷ []) (new_id_growth v c) []

pub record StirLaw : Type 0 where
  -- So the needs are those of the command, if those of its object are,
  pub needs : (m : Map) (h : Parts) (v : Opened) (c : Command) (s : Stir) (bytes : ℕ) → IsViewOf m h v → StirsAs m h v c s → units m.geometry bytes ≡ object_units m v c
      → bits_of m.geometry (needs_by m h s bytes) ≡ needs m v c
  -- for these identifiers,
  pub ids : (m : Map) (h : Parts) (v : Opened) (c : Command) (s : Stir) → IsViewOf m h v → StirsAs m h v c s → ids_of m h s ≡ changed_ids m v c
  -- and the same identifiers go back.
  pub given : (m : Map) (h : Parts) (v : Opened) (c : Command) (s : Stir) (shared : Option ℕ) (id : ℕ) → IsViewOf m h v → StirsAs m h v c s → is_kept shared id ≡ takes_slack v c id → 3 ≤ id
      → goes h s shared id ≡ is_given_up m v c id

-- ---- jobs that need no new object

-- `delete`, `set` and `mark`
abbrev pub IsPlain : Job → Type 0
IsPlain (jobs.Removal target) = Unit {0}
IsPlain (jobs.Words target words) = Unit {0}
IsPlain (jobs.Marks target attrs) = Unit {0}
IsPlain _ = ⊥

-- Such a job is the command's, this is what it wants, and the safe mode serves the volume.
pub record IsPlainFor (m : Map) (h : Parts) (v : Opened) (c : Command) (job : Job) (w : Wants) : Type 0 where
  pub view : IsViewOf m h v
  pub suits : is_suitable v ≡ true
  pub name : List ℕ
  pub job_is : IsJob h.nodes v.listings c job name
  pub plain : IsPlain job
  pub wants : AreWants h job name w

pub record PlainLaw : Type 0 where
  -- It is refused for want of space as the command is.
  pub short : (m : Map) (h : Parts) (v : Opened) (c : Command) (job : Job) (w : Wants) → IsPlainFor m h v c job w → safe_short m v c ≡ first_shortage m h job w
  -- Plans that meet its needs are the parts of the command's, for the identifiers that hold a changed directory.
  pub fitted : (m : Map) (h : Parts) (v : Opened) (c : Command) (job : Job) (w : Wants) (plans : List Plan) → IsPlainFor m h v c job w → AreMet m (first_needs m h job w) plans
      → fitted_needs m v c ≡ Some (parts_of plans)
  pub ids : (m : Map) (h : Parts) (v : Opened) (c : Command) (job : Job) (w : Wants) (plans : List Plan) → IsPlainFor m h v c job w → AreMet m (first_needs m h job w) plans
      → map (λ (p : Plan). p.id) plans ≡ changed_ids m v c
  -- What goes back is what the command gives up.
  pub given : (m : Map) (h : Parts) (v : Opened) (c : Command) (job : Job) (w : Wants) (id : ℕ) → IsPlainFor m h v c job w → 3 ≤ id → is_one_of (first_gone m h job w) id ≡ is_given_up m v c id
