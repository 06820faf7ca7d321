-- `rename` by which a directory grows, in the safe mode: what it takes of the map is what the command needs.
use Rattle.std.proofs.Common.{◌≡◌, ◌+◌, ◌==◌, ℕ, Bool, true, false, not, cond, List, [], ◌∷◌, ◌++◌, map, take, drop, refl, sym, ap, ap₂, subst, ◌∙◌}
use Rattle.std.specs.Prelude.{is_some}
use Rattle.fc_alloc.specs.declared.owner.Owner.{Owner}
use Rattle.fc_newmap.specs.Map.{Map}
use Rattle.fc_image.specs.Layout.{Layout}
use Rattle.fc_image.specs.Opening.{Opened}
use Rattle.fc_image.specs.effects.Sharing.{new_ids}
use Rattle.fc_image.specs.effects.Short.{one_if}
use Rattle.fc_image.specs.safe.SafeShort.{changed_ids}
use Rattle.fc_image.specs.safe.SafeSteady.{AreLeast, HaveRuns}
use Rattle.fc_laws.specs.nodes.Edits.{Nodes}
use Rattle.fc_plan.specs.declared.plan.Plan.{Plan}
use Rattle.fc_writing.specs.declared.ready.Ready.{Ready}
use Rattle.fc_writing.specs.New.{IsTaken}
use Rattle.fc_edits.specs.Growing.{Growing}
use Rattle.fc_edits.specs.NewPlaces.{Taking}
use Rattle.fc_edits.proofs.lemmas.ListLemmas.{map_map}
use Rattle.fc_change.specs.declared.change.Change.{Change}
use Rattle.fc_change.specs.declared.spaces.Spaces.{Spaces}
use Rattle.fc_change.specs.Shortage.{slack_for}
use Rattle.fc_safe.specs.FirstSpace.{ArePlacedFirst}
use Rattle.fc_safe.specs.Needs.{parts_of}
use Rattle.fc_safecommands.specs.Jobs.{IsJobIn, out_count, own_count}
use Rattle.fc_safecommands.proofs.lemmas.JobLemmas.{job_law}
use Rattle.fc_safeedits.specs.SafeSpace.{SafeSpaceLaw, taking_of}
use Rattle.fc_safeedits.specs.SafeGrowth.{its_new_id}
use Rattle.fc_safeedits.specs.SafeGrownMoving.{TakesForGrowth}
use Rattle.fc_safecommands.specs.Anew.{IsReadyAnew}
use Rattle.fc_safecommands.proofs.GrownChangeLemmas.{have_runs}
use Rattle.fc_safecommands.proofs.GrownImageLemmas.{edited, done, geometry, moved}
use Rattle.fc_safecommands.proofs.GrownMoveJobLemmas.{GrownMove, growing, h, job, no_bytes, view}
use Rattle.fc_safecommands.proofs.GrownNeedsLemmas as needs
use Rattle.fc_safecommands.proofs.GrownNeedsLemmas.{some_if, suitable, take_none, take_self}
use Rattle.fc_safecommands.proofs.GrownStepLemmas as step_of
use Rattle.fc_safecommands.proofs.GrownStepLemmas.{grown_at}
use Rattle.fc_safecommands.proofs.GrownStirLemmas.{own_bytes}
use Rattle.fc_safecommands.proofs.GrownWrittenLemmas.{TellsThese}

module _ (a : GrownMove) where
  abbrev v : Opened
  v = record { kind = a.kind; layout = Layout.New a.m; listings = a.listings }

  job_in : IsJobIn a.m (h a) v a.command (job a) a.wants
  job_in = record { view = view a; suits = suitable (growing a); name = a.name; job_is = a.job_is; wants = a.are; some = some_if (growing a) }

  -- Nothing needs space of its own.
  none_own : own_bytes (growing a) ≡ 0
  none_own = by (is_some (slack_for a.m a.owners a.wants))
    where
      by : (b : Bool) → (let n : ℕ = cond b 0 a.wants.bytes in n) ≡ 0
      by true = refl
      by false = no_bytes a

  none_counted : own_count a.m v a.command ≡ 0
  none_counted = ap one_if (sym (needs.own_same (growing a) a.command job_in) ∙ ap (λ (n : ℕ). not (n == 0)) none_own)

  module _ (s : Spaces) (placed : ArePlacedFirst a.m (h a) (job a) a.wants s) (to : Growing) (address : to.address ≡ (grown_at (growing a) s placed).0.directory.address) where
    new_is : take (out_count v a.command) (drop (own_count a.m v a.command) (new_ids a.m)) ≡ its_new_id v a.command to
    new_is = needs.new_is (growing a) a.command job_in s placed to address

    -- the plans' identifiers
    ids_are : map (λ (q : Plan). q.id) placed.plans ≡ changed_ids a.m v a.command ++ its_new_id v a.command to
    ids_are =
        job_law.ids a.m (h a) v a.command (job a) a.wants placed.plans job_in placed.met
        ∙ ap₂ (λ (own new : List ℕ). own ++ (changed_ids a.m v a.command ++ new)) (ap (λ (n : ℕ). take n (new_ids a.m)) none_counted ∙ take_none (new_ids a.m)) new_is

    least : AreLeast a.m (its_new_id v a.command to)
    least =
        let all : its_new_id v a.command to ≡ take (out_count v a.command) (new_ids a.m) =
        sym new_is ∙ ap (λ (n : ℕ). take (out_count v a.command) (drop n (new_ids a.m))) none_counted ∙ ap (λ (ks : List ℕ). take (out_count v a.command) ks) (needs.drop_none (new_ids a.m)) in
        subst (AreLeast a.m) (sym all) (take_self (out_count v a.command) (new_ids a.m))

    pub takes : (c : Change) (tells : TellsThese (growing a) c) (r : Ready) (is : IsReadyAnew a.m (h a) a.wants c s r) (m' : Map) (taken : IsTaken a.m r m') (law : SafeSpaceLaw) (nodes' : Nodes) (owners' : List Owner)
        → TakesForGrowth (moved (growing a) s placed c tells r is m' taken law nodes' owners') a.command to
    takes c tells r is m' taken law nodes' owners' = record {
      parts = parts_of placed.plans;
      fitted = job_law.fitted a.m (h a) v a.command (job a) a.wants placed.plans job_in placed.met;
      takes = map_map (λ (t : Taking). t.parts) taking_of placed.plans;
      ids = map_map (λ (t : Taking). t.id) taking_of placed.plans ∙ ids_are;
      fresh = needs.fresh (growing a) a.command job_in s placed;
      needs_met = subst (λ (ks : List ℕ). HaveRuns m' ks (parts_of placed.plans)) ids_are
          (have_runs (growing a) s placed m' (edited (growing a) s placed c tells r is m' taken).is_map (geometry (growing a) s placed c tells r is m' taken)
          (step_of.taken (growing a) s placed m' (done (growing a) s placed c tells r is m' taken) law));
      least = least;
      back = needs.back (growing a) a.command job_in s placed;
    }
