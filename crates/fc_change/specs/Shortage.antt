-- Why there is no space for what a job wants.
use Rattle.std.specs.Prelude.{◌≡◌, ℕ, ◌+◌, ◌*◌, Bool, not, ◌&&◌, nat_le, nat_lt, ◌==◌, ◌||◌, [], ◌∷◌, List, length, if◌then◌else◌, true, Option, Some, None, is_none, is_some, Result, Ok, Err}
use Rattle.std.specs.Int.{div_ceil}
use Rattle.std.specs.List.{list_all}
use Rattle.std.specs.Option.{option_and_then}
use Rattle.fc_names.specs.declared.refusal.Refusal.{Refusal}
use Rattle.fc_names.specs.declared.refusal.Refusal.TheVariants as refusals
use Rattle.fc_alloc.specs.declared.owner.Owner.{Owner}
use Rattle.fc_record.specs.declared.Geometry.{Geometry}
use Rattle.fc_newmap.specs.Map.{Map, bits_in, hole_runs}
use Rattle.fc_oldmap.specs.Holes.{first_fit_place, hole_limit, hole_sum}
use Rattle.fc_oldmap.specs.OldMap.{OldMapContent}
use Rattle.fc_model.specs.Answer.{first_of, when}
use Rattle.fc_model.specs.Command.{Command}
use Rattle.fc_image.specs.Layout.{Layout, id_of, low_of, low_start, new_sectors}
use Rattle.fc_image.specs.Opening.{Opened}
use Rattle.fc_image.specs.Sound.{AreSound}
use Rattle.fc_image.specs.effects.Sharing.{new_ids, units}
use Rattle.fc_image.specs.effects.Short.{old_need, one_if, short}
use Rattle.fc_placing.specs.Leaving.{has_other}
use Rattle.fc_placing.specs.Places.{slack_left}
use Rattle.fc_placing.specs.Slack.{leaves_free}
use Rattle.fc_tree.specs.Counts.{address_in}
use Rattle.fc_tree.specs.Parts.{ArePartsOf, Parts}
use Rattle.fc_change.specs.declared.job.Growth.{Growth}
use Rattle.fc_change.specs.declared.job.Job.{Job}
use Rattle.fc_change.specs.declared.job.Wants.{Wants}
use Rattle.fc_change.specs.declared.spaces.SpaceError.{SpaceError}
use Rattle.fc_change.specs.declared.spaces.SpaceError.TheVariants as errors
use Rattle.fc_change.specs.Jobs.{IsJob}
use Rattle.fc_change.specs.Needs.{AreWants}
use Rattle.fc_change.specs.OldSpace.{map_given, map_taken}

-- ---- room and company of a directory, by the owners

-- The owner is that of the node, or has none of these sectors of the identifier.
abbrev pub leaves_free_for : ℕ → ℕ → ℕ → ℕ → Owner → Bool
leaves_free_for node id first need o = (o.node == node) || leaves_free id first need o

-- no owner of another node has any of them
abbrev pub others_leave_free : List Owner → ℕ → ℕ → ℕ → ℕ → Bool
others_leave_free owners node id first need = list_all (leaves_free_for node id first need) owners

-- The identifier has the sectors of so many bytes from the address on, and no owner of another node has any of them.
abbrev pub has_room_by : Map → List Owner → ℕ → ℕ → ℕ → Bool
has_room_by m owners node address bytes =
    not (id_of address == 2)
    && (is_some (new_sectors m address bytes) && others_leave_free owners node (id_of address) (low_start m (low_of address)) (div_ceil bytes m.geometry.sector))

-- No owner of another node has the identifier, which isn't the map's, and the address is the identifier's first.
abbrev pub is_alone_by : List Owner → ℕ → ℕ → Bool
is_alone_by owners node address = (not (id_of address == 2) && not (has_other owners node (id_of address))) && nat_le (low_of address) 1

-- ---- a new map

-- the slack that the object may have
abbrev pub slack_for : Map → List Owner → Wants → Option (ℕ × ℕ)
slack_for m owners w = option_and_then (λ (dir : ℕ). slack_left m owners dir w.bytes) w.shares

-- the bytes that need new space: none in slack
abbrev pub bytes_left : Map → List Owner → Wants → ℕ
bytes_left m owners w = if is_some (slack_for m owners w) then 0 else w.bytes

-- those of a directory that grows, unless it has room where it lies
abbrev pub grown_bytes : Map → Parts → Option Growth → ℕ
grown_bytes m h None = 0
grown_bytes m h (Some g) = if has_room_by m h.owners g.node (address_in h.nodes g.node) g.len then 0 else g.len

abbrev pub is_grown_alone : Parts → Option Growth → Bool
is_grown_alone h None = true
is_grown_alone h (Some g) = is_alone_by h.owners g.node (address_in h.nodes g.node)

-- the bits that the holes must have together
abbrev pub bits_for : Geometry → (object dir : ℕ) → ℕ
bits_for g object dir = if nat_lt 0 object && nat_lt 0 dir then object + dir + 2 * g.min else object + dir

-- the new identifiers: a directory that was alone in its own keeps that
abbrev pub ids_for : ℕ → Bool → ℕ → ℕ
ids_for object alone dir = one_if (nat_lt 0 object) + (if nat_lt 0 dir then one_if (not alone) else 0)

-- why there is no space for an object of so many bytes, or of none, and for a directory that gets so many new ones, or none
abbrev pub short_of : Map → ℕ → Bool → ℕ → Option Refusal
short_of m bytes alone len =
    let object = units m.geometry bytes in
    let dir = units m.geometry len in
    first_of (when (nat_lt (length (new_ids m)) (ids_for object alone dir)) refusals.IdsFull
    ∷ when (nat_lt (bits_in (hole_runs m)) (bits_for m.geometry object dir)) refusals.DiscFull ∷ [])

-- The identifiers are enough, and the holes must have these bits together; or it is refused.
abbrev pub AnswersBits : Map → Option Refusal → Result ℕ Refusal → Type 0
AnswersBits m refusal (Ok bits) = refusal ≡ first_of (when (nat_lt (bits_in (hole_runs m)) bits) refusals.DiscFull ∷ [])
AnswersBits m refusal (Err r) = refusal ≡ Some r

abbrev pub short_new : Map → Parts → Wants → Option Refusal
short_new m h w = short_of m (bytes_left m h.owners w) (is_grown_alone h w.grows) (grown_bytes m h w.grows)

-- ---- an old map

-- why some bytes have no space
abbrev pub short_take : OldMapContent → ℕ → Option Refusal
short_take space bytes =
    first_of (when (nat_lt (hole_sum space.holes) (old_need space bytes)) refusals.DiscFull
    ∷ when (nat_lt 0 (old_need space bytes) && is_none (first_fit_place (old_need space bytes) space.holes)) refusals.CompactionRequired ∷ [])

abbrev pub short_old : OldMapContent → Parts → Wants → Option Refusal
short_old space h w =
    first_of (when (nat_lt (hole_sum space.holes) (old_need space w.bytes)) refusals.DiscFull
    ∷ when (nat_lt 0 (old_need space w.bytes) && is_none (first_fit_place (old_need space w.bytes) space.holes)) refusals.CompactionRequired
    ∷ when (nat_lt hole_limit (length (map_given space h.nodes w.goes (map_taken space w.bytes)).holes)) refusals.MapFull ∷ [])

-- ---- on either

abbrev pub shortage_on : Layout → Parts → Wants → Option Refusal
shortage_on (Layout.New m) h w = short_new m h w
shortage_on (Layout.Old space) h w = short_old space h w

-- why there is no space, if there is none
abbrev pub shortage : Parts → Wants → Option Refusal
shortage h w = shortage_on h.layout h w

-- The answer is this refusal, or none if there is none.
abbrev pub AnswersRefusal : {T : Type 0} → Result T Refusal → Option Refusal → Type 0
AnswersRefusal (Ok value) refusal = refusal ≡ None
AnswersRefusal (Err r) refusal = refusal ≡ Some r

-- The same, unless memory is short.
abbrev pub AnswersSpace : {T : Type 0} → Result T SpaceError → Option Refusal → Type 0
AnswersSpace (Ok value) refusal = refusal ≡ None
AnswersSpace (Err (errors.Refused r)) refusal = refusal ≡ Some r
AnswersSpace (Err errors.NoMemory) refusal = Unit {0}

-- ---- a command's refusal

-- These are the wants of a command.
pub record AreWantsOf (h : Parts) (w : Wants) (v : Opened) (c : Command) : Type 0 where
  pub sound : AreSound v.layout v.listings
  pub parts : ArePartsOf h v
  pub job : Job
  pub name : List ℕ
  pub is_job : IsJob h.nodes v.listings c job name
  pub wants : AreWants h job name w

-- So the command is refused for want of space.
abbrev pub ShortLaw : Type 0
ShortLaw = (h : Parts) (w : Wants) (v : Opened) (c : Command) → AreWantsOf h w v c → short v c ≡ shortage h w
