-- What comes to a directory that grows by it, in the safe mode: what it takes of the map is what the command needs.
use Rattle.std.proofs.Common.{◌≡◌, ◌<◌, ◌≤◌, ◌+◌, ◌-◌, ◌==◌, ◌||◌, ℕ, true, List, [], ◌∷◌, ◌++◌, map, ◌∙◌, Some}
use Rattle.fc_newmap.specs.Map.{Map}
use Rattle.fc_model.specs.Tree.{last_name}
use Rattle.fc_image.specs.Layout.{Layout, id_of}
use Rattle.fc_image.specs.Opening.{Opened}
use Rattle.fc_image.specs.Walk.{Object}
use Rattle.fc_image.specs.effects.Placed.{is_written_empty}
use Rattle.fc_image.specs.effects.Sharing.{new_ids, units}
use Rattle.fc_image.specs.effects.Short.{object_units, slack_for as slack_of}
use Rattle.fc_image.specs.safe.SafeSteady.{SafeObjectPlaced}
use Rattle.fc_laws.specs.nodes.Edits.{Nodes}
use Rattle.fc_writing.specs.declared.ready.Ready.{Ready}
use Rattle.fc_writing.specs.New.{IsTaken}
use Rattle.fc_edits.specs.Growing.{Growing}
use Rattle.fc_alloc.specs.declared.owner.Owner.{Owner}
use Rattle.fc_change.specs.declared.change.Change.{Change}
use Rattle.fc_change.specs.declared.spaces.Spaces.{Spaces}
use Rattle.fc_safe.specs.FirstSpace.{ArePlacedFirst}
use Rattle.fc_safecommands.specs.Jobs.{IsJobIn}
use Rattle.fc_safeedits.specs.SafeSpace.{SafeSpaceLaw}
use Rattle.fc_safeedits.specs.SafeGrownAddition.{TakesForGrown}
use Rattle.fc_safecommands.specs.Anew.{IsReadyAnew}
use Rattle.fc_safecommands.proofs.GrownArrivalLemmas.{GrownArrival, growing, h, job, view}
use Rattle.fc_safecommands.proofs.GrownArrivalStageLemmas.{p}
use Rattle.fc_safecommands.proofs.GrownImageLemmas.{geometry, moved}
use Rattle.fc_safecommands.proofs.GrownStirLemmas.{own_bytes}
use Rattle.fc_safecommands.proofs.GrownWrittenLemmas.{TellsThese}
use Rattle.fc_safecommands.proofs.GrownNeedsLemmas as needs
use Rattle.fc_safecommands.proofs.GrownObjectTakesLemmas.{takes as object_takes}
use Rattle.fc_safecommands.proofs.GrownNeedsLemmas.{some_if, suitable}

-- ---- whatever has its space

module _ (a : GrownArrival) (s : Spaces) (placed : ArePlacedFirst a.m (h a) (job a) a.wants s) where
  abbrev pub v : Opened
  v = record { kind = a.kind; layout = Layout.New a.m; listings = a.listings }

  job_in : IsJobIn a.m (h a) v a.command (job a) a.wants
  job_in = record {
    view = view a;
    suits = suitable (growing a);
    name = last_name a.path;
    job_is = a.job_is;
    wants = a.are;
    some = some_if (growing a);
  }

  -- ---- identifiers

  pub units_are : units a.m.geometry (own_bytes (growing a)) ≡ object_units a.m v a.command
  units_are = needs.units_are (growing a) a.command job_in

  -- What it takes is what the command needs.
  pub takes : (o : Object) (to : Growing) (address : to.address ≡ (p a s placed).directory.address) (begins : 0 < own_bytes (growing a) → (rest : List ℕ) × (new_ids a.m ≡ id_of o.entry.address ∷ rest)) (c : Change)
      (tells : TellsThese (growing a) c) (r : Ready) (is : IsReadyAnew a.m (h a) a.wants c s r) (m' : Map) (taken : IsTaken a.m r m') (law : SafeSpaceLaw) (nodes' : Nodes) (owners' : List Owner)
      → SafeObjectPlaced a.m m' (object_units a.m v a.command) (slack_of v a.command) (Some o) → (is_written_empty a.command ≡ true → o.entry.address ≡ 0)
      → TakesForGrown (moved (growing a) s placed c tells r is m' taken law nodes' owners') a.command o to
  takes o to address begins c tells r is m' taken law nodes' owners' object empty = object_takes (growing a) a.command job_in s placed o to address begins c tells r is m' taken law nodes' owners' object empty
