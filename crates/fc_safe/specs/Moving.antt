-- What a job moves.
use Rattle.std.specs.Prelude.{◌≡◌, ◌<◌, ◌≤◌, ℕ, List, [], ◌∷◌, map, Option, Some}
use Rattle.std.specs.List.Sorted.{IsStrictlyIncreasing}
use Rattle.fc_alloc.specs.declared.owner.Owner.{Owner}
use Rattle.fc_record.specs.declared.Geometry.{Geometry}
use Rattle.fc_record.specs.Record.{id_limit}
use Rattle.fc_plan.specs.Giving.{is_one_of}
use Rattle.fc_laws.specs.nodes.Edits.{Nodes}
use Rattle.fc_change.specs.declared.job.Growth.{Growth}
use Rattle.fc_change.specs.declared.job.Job.{Job}
use Rattle.fc_change.specs.declared.job.Wants.{Wants}
use Rattle.fc_safe.specs.Changed.{changed_in}
use Rattle.fc_safe.specs.FirstNeeds.{leaving_of, longer_of}
use Rattle.fc_safe.specs.Staying.{IsSized, changed_ids, last_end}
use Rattle.fc_safe.specs.declared.staying.Longer.{Longer}
use Rattle.fc_safe.specs.declared.moving.Moved.{Moved}
use Rattle.fc_safe.specs.declared.needs.Need.{Need}
use Rattle.fc_safe.specs.declared.staying.Moving.{Moving}

pub record IsMovingFor (g : Geometry) (nodes : Nodes) (job : Job) (w : Wants) (out : Option Growth) (x : Moving) : Type 0 where
  pub rising : IsStrictlyIncreasing x.changed.items
  pub changed : (n : ℕ) → is_one_of x.changed.items n ≡ is_one_of (changed_in nodes job w.grows out) n
  pub leaving : x.leaving.items ≡ leaving_of w out
  pub longer : x.longer ≡ longer_of g w.grows

-- An owner has some sectors of an identifier that an object may have, also once it has grown.
pub record IsPlacedOwner (g : Geometry) (longer : Option Longer) (o : Owner) : Type 0 where
  pub sized : IsSized longer o
  pub id_low : 2 ≤ o.id
  pub id_high : o.id < id_limit g

-- The identifiers that hold a directory which is written anew and stays in them, each with its end.
pub record AreMoved (g : Geometry) (owners : List Owner) (x : Moving) (p : Moved) : Type 0 where
  pub ids : p.ids.items ≡ changed_ids g x.changed.items x.leaving.items owners
  pub ends : p.ends.items ≡ map (last_end g x.leaving.items x.longer owners) p.ids.items

-- identifiers with their ends, as needs
abbrev pub paired_needs : List ℕ → List ℕ → List Need
paired_needs (id ∷ ids) (end ∷ ends) = record { id = Some id; bytes = end } ∷ paired_needs ids ends
paired_needs _ _ = []
