-- `rename` that copies its file into a directory that grows by it, in the safe mode: what it takes of the map is what the command needs.
use Rattle.std.proofs.Common.{◌≡◌, ◌<◌, ℕ, true, false, List, [], ◌∷◌, sym, ap, subst, ◌∙◌, Option, Some}
use Rattle.fc_alloc.specs.declared.owner.Owner.{Owner}
use Rattle.fc_newmap.specs.Map.{Map}
use Rattle.fc_model.specs.Command.{Command}
use Rattle.fc_image.specs.Layout.{Layout, id_of, low_of}
use Rattle.fc_image.specs.Opening.{Opened}
use Rattle.fc_image.specs.Walk.{Object}
use Rattle.fc_image.specs.effects.Placed.{is_written_empty, first_low}
use Rattle.fc_image.specs.effects.Sharing.{new_ids}
use Rattle.fc_image.specs.effects.Short.{object_units, slack_for as slack_of}
use Rattle.fc_image.specs.safe.SafeSteady.{SafeObjectPlaced}
use Rattle.fc_newmap.specs.Map.{id_runs}
use Rattle.fc_laws.specs.nodes.Edits.{Nodes}
use Rattle.fc_writing.specs.declared.ready.Ready.{Ready}
use Rattle.fc_writing.specs.New.{IsTaken}
use Rattle.fc_edits.specs.Growing.{Growing}
use Rattle.fc_change.specs.declared.change.Change.{Change}
use Rattle.fc_change.specs.declared.spaces.Spaces.{Spaces}
use Rattle.fc_safe.specs.FirstSpace.{ArePlacedFirst}
use Rattle.fc_safecommands.specs.Jobs.{IsJobIn}
use Rattle.fc_safeedits.specs.SafeSpace.{SafeSpaceLaw}
use Rattle.fc_safeedits.specs.SafeGrownAddition.{TakesForGrown}
use Rattle.fc_safecommands.specs.Anew.{IsReadyAnew}
use Rattle.fc_safecommands.proofs.CopyGrownLemmas.{GrownCopy, growing, h, job, view}
use Rattle.fc_safecommands.proofs.CopyGrownStageLemmas.{p}
use Rattle.fc_safecommands.proofs.GrownImageLemmas.{moved}
use Rattle.fc_safecommands.proofs.GrownNeedsLemmas.{some_if, suitable}
use Rattle.fc_safecommands.proofs.GrownObjectTakesLemmas.{takes as object_takes}
use Rattle.fc_safecommands.proofs.GrownStirLemmas.{own_bytes}
use Rattle.fc_safecommands.proofs.GrownWrittenLemmas.{TellsThese}

module _ (a : GrownCopy) where
  abbrev pub v : Opened
  v = record { kind = a.kind; layout = Layout.New a.m; listings = a.listings }

  pub job_in : IsJobIn a.m (h a) v a.command (job a) a.wants
  job_in = record { view = view a; suits = suitable (growing a); name = a.name; job_is = a.job_is; wants = a.are; some = some_if (growing a) }

  module _ (s : Spaces) (placed : ArePlacedFirst a.m (h a) (job a) a.wants s) (is_rename : a.command ≡ Command.Rename a.from a.to) where
    none_empty : (o : Object) → is_written_empty a.command ≡ true → o.entry.address ≡ 0
    none_empty o e = absurd (let no : false ≡ true = sym (ap is_written_empty is_rename) ∙ e in cc)

    -- The copy has space of its own, in the least new identifier, from its begin on.
    pub takes : (o : Object) (to : Growing) (address : to.address ≡ (p a s placed).directory.address) (begins : 0 < own_bytes (growing a) → (rest : List ℕ) × (new_ids a.m ≡ id_of o.entry.address ∷ rest)) (c : Change)
        (tells : TellsThese (growing a) c) (r : Ready) (is : IsReadyAnew a.m (h a) a.wants c s r) (m' : Map) (taken : IsTaken a.m r m') (law : SafeSpaceLaw) (nodes' : Nodes) (owners' : List Owner)
        → (0 < object_units a.m v a.command → low_of o.entry.address ≡ first_low m' o (id_runs m' (id_of o.entry.address)))
        → TakesForGrown (moved (growing a) s placed c tells r is m' taken law nodes' owners') a.command o to
    takes o to address begins c tells r is m' taken law nodes' owners' low =
        object_takes (growing a) a.command job_in s placed o to address begins c tells r is m' taken law nodes' owners'
        (subst (λ (share : Option (ℕ × ℕ)). SafeObjectPlaced a.m m' (object_units a.m v a.command) share (Some o)) (sym (ap (slack_of v) is_rename)) low) (none_empty o)
