-- A job by which a directory grows, and by which an object gets a place: what it takes of the map is what the command needs.
use Rattle.std.proofs.Common.{append_assoc, ◌≡◌, ◌<◌, ◌≤◌, ◌+◌, ◌-◌, ◌==◌, ◌||◌, ℕ, zero, suc, Bool, true, false, cond, List, [], ◌∷◌, ◌++◌, map, take, drop, refl, sym, ap, ap₂, subst, ◌∙◌, arith, Some}
use Rattle.std.specs.Prelude.{nat_lt}
use Rattle.std.proofs.Math.Seq.{take-add}
use Rattle.std.proofs.lemmas.Bool.{lt-ltb, ne_eqb}
use Rattle.fc_newmap.specs.Map.{Map}
use Rattle.fc_image.specs.Layout.{id_of}
use Rattle.fc_image.specs.Walk.{Object}
use Rattle.fc_image.specs.effects.Placed.{is_written_empty}
use Rattle.fc_image.specs.effects.Sharing.{new_ids, units}
use Rattle.fc_image.specs.effects.Short.{object_units, one_if, slack_for as slack_of}
use Rattle.fc_image.specs.safe.SafeShort.{changed_ids}
use Rattle.fc_image.specs.safe.SafeSteady.{AreLeast, HaveRuns, SafeObjectPlaced, own_id}
use Rattle.fc_laws.specs.nodes.Edits.{Nodes}
use Rattle.fc_plan.specs.declared.plan.Plan.{Plan}
use Rattle.fc_writing.specs.declared.ready.Ready.{Ready}
use Rattle.fc_writing.specs.New.{IsTaken}
use Rattle.fc_edits.specs.Growing.{Growing}
use Rattle.fc_edits.specs.NewPlaces.{Taking}
use Rattle.fc_edits.proofs.lemmas.ListLemmas.{map_map}
use Rattle.fc_alloc.specs.declared.owner.Owner.{Owner}
use Rattle.fc_change.specs.declared.change.Change.{Change}
use Rattle.fc_change.specs.declared.spaces.Spaces.{Spaces}
use Rattle.fc_safe.specs.FirstSpace.{ArePlacedFirst}
use Rattle.fc_safe.specs.Needs.{parts_of}
use Rattle.fc_safecommands.specs.Jobs.{IsJobIn, out_count, own_count}
use Rattle.fc_safecommands.proofs.lemmas.JobLemmas.{job_law}
use Rattle.fc_safeedits.specs.SafeSpace.{SafeSpaceLaw, taking_of}
use Rattle.fc_safeedits.specs.SafeGrownAddition.{TakesForGrown}
use Rattle.fc_safeedits.specs.SafeGrowth.{its_new_id}
use Rattle.fc_safecommands.specs.Anew.{IsReadyAnew}
use Rattle.fc_safecommands.proofs.GrownChangeLemmas.{have_runs}
use Rattle.fc_safecommands.proofs.GrownImageLemmas.{edited, done, geometry, moved}
use Rattle.fc_safecommands.proofs.GrownStepLemmas as step_of
use Rattle.fc_safecommands.proofs.GrownStirLemmas.{ids, own_bytes}
use Rattle.fc_safecommands.proofs.GrownWrittenLemmas.{TellsThese}
use Rattle.fc_safecommands.proofs.GrownNeedsLemmas as needs
use Rattle.fc_safecommands.proofs.GrownNeedsLemmas.{take_none, take_self}
use Rattle.fc_model.specs.Command.{Command}
use Rattle.fc_safecommands.proofs.GrownStepLemmas.{grown_at}
use Rattle.fc_safecommands.proofs.GrownStirLemmas.{GrowingJob, h, v}

module _ (x : GrowingJob) (c : Command) (job_in : IsJobIn x.m (h x) (v x) c x.job x.wants) (s : Spaces) (placed : ArePlacedFirst x.m (h x) x.job x.wants s) where
  module _ (o : Object) (to : Growing) (address : to.address ≡ (grown_at x s placed).0.directory.address)
      (begins : 0 < own_bytes x → (rest : List ℕ) × (new_ids x.m ≡ id_of o.entry.address ∷ rest)) where
    -- the object's, if it has space of its own
    own_is : take (own_count x.m (v x) c) (new_ids x.m) ≡ own_id x.m (v x) c (Some o)
    own_is = by (object_units x.m (v x) c) refl
      where
        own_some : (n : ℕ) → object_units x.m (v x) c ≡ suc n → 0 < own_bytes x
        own_some n e = from (own_bytes x) (needs.units_are x c job_in)
          where
            from : (k : ℕ) → units x.m.geometry k ≡ object_units x.m (v x) c → 0 < k
            from zero same = absurd (let none : units x.m.geometry 0 ≡ suc n = same ∙ e in let zero' : 0 ≡ suc n = none in omega (arith, zero'))
            from (suc k) same = omega arith

        by : (n : ℕ) → object_units x.m (v x) c ≡ n → take (one_if (nat_lt 0 (object_units x.m (v x) c))) (new_ids x.m) ≡ cond (object_units x.m (v x) c == 0) [] (id_of o.entry.address ∷ [])
        by zero e = subst (λ (k : ℕ). take (one_if (nat_lt 0 k)) (new_ids x.m) ≡ cond (k == 0) [] (id_of o.entry.address ∷ [])) (sym e) (take_none (new_ids x.m))
        by (suc n) e =
            let f = begins (own_some n e) in
            let more : nat_lt 0 (object_units x.m (v x) c) ≡ true = lt-ltb 0 (object_units x.m (v x) c) (omega (arith, e)) in
            let some : (object_units x.m (v x) c == 0) ≡ false = ne_eqb (object_units x.m (v x) c) 0 (λ z. omega (arith, e, z)) in
            ap (λ (b : Bool). take (one_if b) (new_ids x.m)) more ∙ ap (λ (ks : List ℕ). take 1 ks) f.1 ∙ ap (λ (ks : List ℕ). id_of o.entry.address ∷ ks) (take_none f.0)
            ∙ sym (ap (λ (b : Bool). let ks : List ℕ = cond b [] (id_of o.entry.address ∷ []) in ks) some)

    new_is : take (out_count (v x) c) (drop (own_count x.m (v x) c) (new_ids x.m)) ≡ its_new_id (v x) c to
    new_is = needs.new_is x c job_in s placed to address

    -- the plans' identifiers
    ids_are : map (λ (q : Plan). q.id) placed.plans ≡ own_id x.m (v x) c (Some o) ++ changed_ids x.m (v x) c ++ its_new_id (v x) c to
    ids_are =
        job_law.ids x.m (h x) (v x) c x.job x.wants placed.plans job_in placed.met
        ∙ ap₂ (λ (own new : List ℕ). own ++ (changed_ids x.m (v x) c ++ new)) own_is new_is
        ∙ sym (append_assoc (own_id x.m (v x) c (Some o)) (changed_ids x.m (v x) c) (its_new_id (v x) c to))

    least : AreLeast x.m (own_id x.m (v x) c (Some o) ++ its_new_id (v x) c to)
    least =
        let own = own_count x.m (v x) c in
        let out = out_count (v x) c in
        let all : own_id x.m (v x) c (Some o) ++ its_new_id (v x) c to ≡ take (own + out) (new_ids x.m) =
        ap₂ (λ (xs ys : List ℕ). xs ++ ys) (sym own_is) (sym new_is) ∙ sym (take-add own out (new_ids x.m)) in
        subst (AreLeast x.m) (sym all) (take_self (own + out) (new_ids x.m))

    -- ---- all of it

    module _ (ch : Change) (tells : TellsThese x ch) (r : Ready) (is : IsReadyAnew x.m (h x) x.wants ch s r) (m' : Map) (taken : IsTaken x.m r m') (law : SafeSpaceLaw) (nodes' : Nodes) (owners' : List Owner)
        (object : SafeObjectPlaced x.m m' (object_units x.m (v x) c) (slack_of (v x) c) (Some o)) (empty : is_written_empty c ≡ true → o.entry.address ≡ 0) where
      pub takes : TakesForGrown (moved x s placed ch tells r is m' taken law nodes' owners') c o to
      takes = record {
        parts = parts_of placed.plans;
        fitted = job_law.fitted x.m (h x) (v x) c x.job x.wants placed.plans job_in placed.met;
        takes = map_map (λ (t : Taking). t.parts) taking_of placed.plans;
        ids = map_map (λ (t : Taking). t.id) taking_of placed.plans ∙ ids_are;
        fresh = needs.fresh x c job_in s placed;
        needs_met = subst (λ (ks : List ℕ). HaveRuns m' ks (parts_of placed.plans)) ids_are
            (have_runs x s placed m' (edited x s placed ch tells r is m' taken).is_map (geometry x s placed ch tells r is m' taken)
            (step_of.taken x s placed m' (done x s placed ch tells r is m' taken) law));
        least = least;
        object = object;
        empty = empty;
        back = needs.back x c job_in s placed;
      }
