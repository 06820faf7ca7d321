-- What a job needs of a new map in the safe mode, as the nodes and the owners tell it, and why it isn't met.
use Rattle.std.specs.Prelude.{ℕ, ◌/◌, ◌==◌, ◌||◌, ◌&&◌, nat_le, Bool, false, List, [], ◌∷◌, ◌++◌, count_by, filter, length, map, if◌then◌else◌, Option, Some, None}
use Rattle.std.specs.List.{list_any, range_with_len}
use Rattle.std.specs.Option.{option_map, option_to_list}
use Rattle.fc_alloc.specs.declared.owner.Owner.{Owner}
use Rattle.fc_names.specs.declared.refusal.Refusal.TheVariants as refusals
use Rattle.fc_record.specs.declared.Geometry.{Geometry}
use Rattle.fc_record.specs.Record.{id_limit}
use Rattle.fc_newmap.specs.Map.{Map, ZoneRun, hole_runs, runs_of, zone_numbers}
use Rattle.fc_image.specs.effects.Sharing.{new_ids}
use Rattle.fc_image.specs.safe.SafeShort.{SafeRefusal, fitted, spread_or}
use Rattle.fc_plan.specs.Giving.{has_run_of}
use Rattle.fc_plan.specs.Parts.{has_part}
use Rattle.fc_tree.specs.Parts.{Parts}
use Rattle.fc_change.specs.declared.job.Growth.{Growth}
use Rattle.fc_change.specs.declared.job.Job.{Job}
use Rattle.fc_change.specs.declared.job.Wants.{Wants}
use Rattle.fc_change.specs.GrownSpace.{has_room, is_alone}
use Rattle.fc_change.specs.Shortage.{bytes_left, slack_for}
use Rattle.fc_safe.specs.Changed.{changed_in}
use Rattle.fc_safe.specs.Gone.{is_lost_by}
use Rattle.fc_safe.specs.Needs.{bits_of, full_for, is_new}
use Rattle.fc_safe.specs.Staying.{changed_ids, holds_changed, last_end}
use Rattle.fc_safe.specs.declared.needs.Need.{Need}
use Rattle.fc_safe.specs.declared.staying.Longer.{Longer}

-- ---- a directory that grows

-- It gets a new identifier: it has no room where it lies, and isn't alone in its own.
abbrev pub moving_out : Map → Parts → Option Growth → Option Growth
moving_out m h None = None
moving_out m h (Some g) = if has_room m h g || is_alone h g then None else Some g

abbrev pub node_of : Option Growth → List ℕ
node_of None = []
node_of (Some g) = g.node ∷ []

-- the sectors that it has then
abbrev pub longer_of : Geometry → Option Growth → Option Longer
longer_of geometry None = None
longer_of geometry (Some g) = Some (record { node = g.node; sectors = g.len / geometry.sector })

-- the nodes of the objects that leave their identifiers: one that goes, a file that is copied, and a directory that gets a new one
abbrev pub leaving_of : Wants → Option Growth → List ℕ
leaving_of w out = option_to_list w.goes ++ (option_to_list w.copied ++ node_of out)

-- ---- needs

-- new space, if some bytes need it
abbrev pub own_need : ℕ → List Need
own_need bytes = if bytes == 0 then [] else record { id = None; bytes = bytes } ∷ []

-- an identifier up to its end
abbrev pub need_of : (ℕ → ℕ) → ℕ → Need
need_of end id = record { id = Some id; bytes = end id }

abbrev pub out_need : Option Growth → List Need
out_need None = []
out_need (Some g) = record { id = None; bytes = g.len } ∷ []

-- What the directories are that a job rewrites, which objects leave their identifiers, and what grows.
pub record Stir : Type 0 where
  pub changed : List ℕ
  pub leaving : List ℕ
  pub longer : Option Longer
  pub out : Option Growth

abbrev pub stir_of : Map → Parts → Job → Wants → Stir
stir_of m h job w = record {
  changed = changed_in h.nodes job w.grows (moving_out m h w.grows);
  leaving = leaving_of w (moving_out m h w.grows);
  longer = longer_of m.geometry w.grows;
  out = moving_out m h w.grows;
}

abbrev pub ids_of : Map → Parts → Stir → List ℕ
ids_of m h s = changed_ids m.geometry s.changed s.leaving h.owners

-- the new object's own space, each identifier that holds a directory which is written anew, and the space of a directory that gets a new one
abbrev pub needs_by : Map → Parts → Stir → ℕ → List Need
needs_by m h s bytes = own_need bytes ++ (map (need_of (last_end m.geometry s.leaving s.longer h.owners)) (ids_of m h s) ++ out_need s.out)

abbrev pub first_needs : Map → Parts → Job → Wants → List Need
first_needs m h job w = needs_by m h (stir_of m h job w) (bytes_left m h.owners w)

-- ---- what goes back

-- the identifier of others that a new object shares
abbrev pub shared_by : Map → List Owner → Wants → Option ℕ
shared_by m owners w = option_map (λ (share : ℕ × ℕ). share.0) (slack_for m owners w)

-- the old runs of identifiers with a directory that is written anew, and those of identifiers that lose their last owner
abbrev pub goes : Parts → Stir → Option ℕ → ℕ → Bool
goes h s shared id = holds_changed s.changed s.leaving h.owners id || is_lost_by s.leaving shared h.owners id

abbrev pub gone_by : Map → Parts → Stir → Option ℕ → List ℕ
gone_by m h s shared = filter (goes h s shared) (range_with_len 0 (id_limit m.geometry))

abbrev pub first_gone : Map → Parts → Job → Wants → List ℕ
first_gone m h job w = gone_by m h (stir_of m h job w) (shared_by m h.owners w)

-- ---- refusals

-- The root grows, so that the record of the disc has another.
abbrev pub turns_root : Option Growth → Bool
turns_root None = false
turns_root (Some g) = g.node == 0

-- how many zones change
abbrev pub zones_turned : Map → List (List ZoneRun) → List ℕ → Bool → ℕ
zones_turned m parts gone root = length (filter (λ (z : ℕ). (list_any (λ (ps : List ZoneRun). has_part ps z) parts || has_run_of gone (runs_of m z)) || (root && (z == 0))) (zone_numbers m.geometry))

abbrev pub spread_if : Map → List ℕ → Bool → Option (List (List ZoneRun)) → Option SafeRefusal
spread_if m gone root None = Some (SafeRefusal.Refused refusals.DiscFull)
spread_if m gone root (Some parts) = spread_or (zones_turned m parts gone root)

abbrev pub unfit : Map → List Need → List ℕ → Bool → Option SafeRefusal
unfit m needs gone root = spread_if m gone root (fitted m (bits_of m.geometry needs) (hole_runs m))

-- whether so many identifiers are left
abbrev pub has_ids_for : Map → List Need → Bool
has_ids_for m needs = nat_le (count_by is_new needs) (length (new_ids m))

-- Too few identifiers are left, or a need finds too little.
abbrev pub short_of_needs : Map → List Need → Option SafeRefusal
short_of_needs m needs = if has_ids_for m needs then full_for m (bits_of m.geometry needs) else Some (SafeRefusal.Refused refusals.IdsFull)

-- Too few identifiers are left, or a need finds too little, or too many zones would change. DirFull is the answer of `wants`.
abbrev pub first_shortage : Map → Parts → Job → Wants → Option SafeRefusal
first_shortage m h job w =
    if has_ids_for m (first_needs m h job w) then unfit m (first_needs m h job w) (first_gone m h job w) (turns_root w.grows)
    else Some (SafeRefusal.Refused refusals.IdsFull)
