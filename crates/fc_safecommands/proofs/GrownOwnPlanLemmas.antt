-- The plan of a new object's own space, if a directory grows: it is the first, and apart from where what moves comes to lie.
use Rattle.std.proofs.Common.{◌≡◌, ◌<◌, ◌≤◌, ◌+◌, ◌-◌, ◌*◌, ◌==◌, ◌&&◌, ◌||◌, ◌⊎◌, inl, inr, ⊎_elim, ℕ, Bool, true, false, not, cond, List, [], ◌∷◌, ◌++◌, map, refl, sym, ap, subst, ◌∙◌, arith, Option, Some, None}
use Rattle.std.specs.Prelude.{Contains}
use Rattle.std.specs.Int.{div_ceil}
use Rattle.std.proofs.lemmas.Bool.{ne_eqb}
use Rattle.fc_record.specs.Record.{id_limit}
use Rattle.fc_newmap.specs.Map.{bits_in, hole_runs, is_used}
use Rattle.fc_image.specs.Layout.{id_of, is_among}
use Rattle.fc_image.specs.Objects.{has_sectors, objects_of}
use Rattle.fc_image.specs.Walk.{Object, is_directory_object}
use Rattle.fc_image.specs.effects.Sharing.{new_ids, units}
use Rattle.fc_plan.specs.declared.plan.Plan.{Plan}
use Rattle.fc_plan.specs.Parts.{fronts}
use Rattle.fc_placing.specs.declared.placing.Placing.TheVariants as placings
use Rattle.fc_alloc.specs.declared.owner.Owner.{Owner}
use Rattle.fc_tree.specs.Parts.{owner_of}
use Rattle.fc_tree.proofs.MemberLemmas.{contains_here}
use Rattle.fc_tree.proofs.WalkedLemmas.{listed_directory, same_some}
use Rattle.fc_edits.specs.NewNodes.{AreDistinct}
use Rattle.fc_change.specs.declared.job.Growth.{Growth}
use Rattle.fc_change.specs.declared.spaces.Spaces.{Spaces}
use Rattle.fc_change.specs.GrownSpace.{place_of_plan}
use Rattle.fc_change.proofs.LeadsLemmas.{IsPlaceable}
use Rattle.fc_safe.specs.FirstNeeds.{moving_out, need_of, out_need, own_need}
use Rattle.fc_safe.specs.Needs.{AreMet, HaveIds, IsIdOf, bits_of, parts_of}
use Rattle.fc_safe.specs.declared.needs.Need.{Need}
use Rattle.fc_safe.specs.FirstSpace.{ArePlacedFirst, IsFirstOf, IsLastIf}
use Rattle.fc_safecommands.proofs.GrownLaidLemmas.{Stretch, at_address, grown, grown_leaves, grown_stays, laid, laid_at, leaves_plan}
use Rattle.fc_safecommands.proofs.GrownSpotLemmas as spots
use Rattle.fc_safecommands.proofs.GrownSpotLemmas.{IsThere, spot}
use Rattle.fc_safecommands.proofs.StretchLemmas.{stretch_beside}
use Rattle.fc_safecommands.proofs.GrownStirLemmas.{GrowingJob, changed_moves, changed_object, end, h, ids, moves, moves_of, own_bytes, sound, y}
use Rattle.fc_safecommands.proofs.FitLemmas.{first_enough}
use Rattle.fc_safecommands.proofs.GrownSpaceLemmas.{can, once, out_is, plan_at, unused, used, last_new}
use Rattle.fc_safecommands.proofs.StirredSpaceLemmas.{first_of as first_fits, range_once}
use Rattle.fc_safecommands.proofs.GrownStepLemmas.{grown_at}

-- ---- the first plan and the last

-- It isn't the first one's, if that asks for one too.
last_apart : (k n : Need) (needs : List Need) (before : List Plan) (p q : Plan) (ps : List Plan) (new left : List ℕ) → k.id ≡ None → n.id ≡ None → AreDistinct new
    → HaveIds new (k ∷ (needs ++ n ∷ [])) (before ++ p ∷ []) left → before ++ p ∷ [] ≡ q ∷ ps → q.id ≡ p.id → ⊥
last_apart k n [] [] p q ps new left first none once have all same = absurd have.2
last_apart k n (j ∷ needs) [] p q ps new left first none once have all same = absurd have.2
last_apart k n needs (r ∷ before) p q ps new left first none once have all same =
    let new_is : new ≡ r.id ∷ have.0 = subst (λ (o : Option ℕ). IsIdOf o new have.0 r.id) first have.1 in
    let head : r ≡ q = cc in
    let apart = subst AreDistinct new_is once in
    apart.0 (subst (Contains have.0) (sym (ap (λ (t : Plan). t.id) head ∙ same)) (last_new needs n before p have.0 left none have.2))

module _ (x : GrowingJob) (s : Spaces) (placed : ArePlacedFirst x.m (h x) x.job x.wants s) where
  -- ---- the directories that move

  -- an identifier that moves is that of a directory
  pub directory_of : (k : ℕ) → moves x k ≡ true → (d : Object) × Contains (objects_of x.listings) d × (has_sectors d ≡ true) × (is_directory_object d ≡ true) × (id_of d.entry.address ≡ k)
  directory_of k e =
      let r = moves_of x k e in
      let c = changed_object x r.0 r.2.changes in
      let dir = listed_directory (y x) x.listings (sound x) c.0 c.1 in
      let own : owner_of x.nodes (y x) c.0.object ≡ owner_of x.nodes (y x) r.1 = same_some (owner_of x.nodes (y x) c.0.object) (owner_of x.nodes (y x) r.1) (sym c.2.own_found ∙ r.2.is.own_found) in
      (c.0.object, dir.0, c.2.some, dir.1, ap (λ (o : Owner). o.id) own ∙ r.2.id)

  -- The identifier of the grown directory is its own, or a new one, that of the last plan.
  abbrev pub IsGrownId : ℕ → Type 0
  IsGrownId k =
      ((moving_out x.m (h x) (Some x.growth) ≡ None) × (k ≡ id_of (spots.d x).entry.address))
      ⊎ ((g : Growth) × (moving_out x.m (h x) (Some x.growth) ≡ Some g) × (k ≡ (grown_at x s placed).2.plan.id))

  pub grown_id : IsGrownId (id_of (grown_at x s placed).0.directory.address)
  grown_id = by (moving_out x.m (h x) (Some x.growth)) refl
    where
      by : (o : Option Growth) → moving_out x.m (h x) (Some x.growth) ≡ o → IsGrownId (id_of (grown_at x s placed).0.directory.address)
      by None e = inl (e, ap id_of (at_address x s placed (spots.d x) (spots.grower x).2 (spots.address x) None e))
      by (Some g) e = inr (g, e, sym (grown_at x s placed).2.id)

  pub grown_moves : moving_out x.m (h x) (Some x.growth) ≡ None → moves x (id_of (spots.d x).entry.address) ≡ true
  grown_moves e = changed_moves x x.growth.node x.grower (x.keeps e) (spots.d x) (spots.grower x).2

  -- ---- the first plan

  module _ (plan : Plan) (own_some : 0 < own_bytes x) (from : IsFirstOf placed.plans plan) where
    abbrev own : Need
    own = record { id = None; bytes = own_bytes x }

    abbrev later : List Need
    later = map (need_of (end x)) (ids x) ++ out_need (moving_out x.m (h x) x.wants.grows)

    needs_as : own_need (own_bytes x) ++ later ≡ own ∷ later
    needs_as = ap (λ (b : Bool). cond b [] (own ∷ []) ++ later) (ne_eqb (own_bytes x) 0 (λ e. (let more = own_some in omega (arith, more, e))))

    met : AreMet x.m (own ∷ later) placed.plans
    met = subst (λ (ns : List Need). AreMet x.m ns placed.plans) needs_as placed.met

    -- the first plan is the object's
    pub record IsFirstPlan (q : Plan) : Type 0 where
      pub rest : List Plan
      pub plans : placed.plans ≡ q ∷ rest
      pub among : Contains placed.plans q
      pub id : plan.id ≡ q.id
      pub parts : plan.parts.items ≡ q.parts.items
      pub others : List ℕ
      pub new : new_ids x.m ≡ q.id ∷ others
      pub enough : units x.m.geometry (own_bytes x) ≤ bits_in (fronts q.parts.items)

    pub first_plan : (q : Plan) × IsFirstPlan q
    first_plan = by placed.plans refl from met
      where
        by : (ps : List Plan) → placed.plans ≡ ps → IsFirstOf ps plan → AreMet x.m (own ∷ later) ps → (q : Plan) × IsFirstPlan q
        by [] all is are = absurd is
        by (q ∷ ps) all is are = (
          q,
          record {
            rest = ps;
            plans = all;
            among = subst (λ (rs : List Plan). Contains rs q) (sym all) (contains_here q ps);
            id = is.0;
            parts = is.1;
            others = are.ids.0;
            new = are.ids.1;
            enough =
                first_enough x.m.geometry (units x.m.geometry (own_bytes x)) (hole_runs x.m) (fronts q.parts.items)
                (first_fits x.m (units x.m.geometry (own_bytes x)) (bits_of x.m.geometry later) (hole_runs x.m) (fronts q.parts.items) (parts_of ps) are.fit).0;
          },
        )

    abbrev q : Plan
    q = first_plan.0

    at_q : Contains placed.plans q
    at_q = first_plan.1.among

    pub fresh : is_used x.m q.id ≡ false
    fresh = unused x q.id (subst (λ (ks : List ℕ). Contains ks q.id) (sym first_plan.1.new) (0, omega arith, refl))

    -- The grown directory's isn't, if it gets another identifier.
    pub never_last : (g : Growth) → moving_out x.m (h x) (Some x.growth) ≡ Some g → q.id ≡ (grown_at x s placed).2.plan.id → ⊥
    never_last g e same =
        let last = subst (λ (o : Option Growth). IsLastIf o placed.plans (grown_at x s placed).2.plan) e (grown_at x s placed).2.last in
        let goes = ap (moving_out x.m (h x)) x.grows ∙ e in
        let out : moving_out x.m (h x) x.wants.grows ≡ Some x.growth = goes ∙ ap (λ (k : Growth). let o : Option Growth = Some k in o) (sym (out_is x g goes)) in
        let have = subst (λ (ps : List Plan). HaveIds (new_ids x.m) (own ∷ (map (need_of (end x)) (ids x) ++ out_need (Some x.growth))) ps met.left) last.1
        (subst (λ (o : Option Growth). HaveIds (new_ids x.m) (own ∷ (map (need_of (end x)) (ids x) ++ out_need o)) placed.plans met.left) out met.ids) in
        last_apart own (record { id = None; bytes = x.growth.len }) (map (need_of (end x)) (ids x)) last.0 (grown_at x s placed).2.plan q first_plan.1.rest (new_ids x.m) met.left refl refl
        (range_once (λ (k : ℕ). not (is_used x.m k)) (id_limit x.m.geometry - 3) 3) have (sym last.1 ∙ first_plan.1.plans) same

    -- ---- beside what moves, and what grows

    not_fresh : (k : ℕ) → moves x k ≡ true → q.id ≡ k → ⊥
    not_fresh k e same = let has = used x k e in let no = fresh in let there : is_used x.m q.id ≡ true = ap (is_used x.m) same ∙ has in cc

    module _ (bytes : ℕ) (fit : IsPlaceable x.m bytes first_plan.0) where
      abbrev own_stretch : Stretch x s placed (place_of_plan x.m.geometry q bytes)
      own_stretch = record {
        plan = q;
        among = at_q;
        bytes = bytes;
        fit = fit;
        from = 0;
        long = div_ceil bytes x.m.geometry.sector;
        fits = omega arith;
        is = refl;
      }

      pub beside_own : (p : Object) → IsThere x p → (u : ℕ) → is_among (spot x s placed p) u ≡ true → is_among (place_of_plan x.m.geometry q bytes) u ≡ true → ⊥
      beside_own p at u e f = elim at.stays [
        | inl grows ↦ of_grown (moving_out x.m (h x) (Some x.growth)) refl (subst (λ (ss : List ℕ). is_among ss u ≡ true) (spots.spot_grown x s placed p grows) e)
        | inr plain ↦ stretch_beside x.m x.agreed.is_map placed.plans (can x s placed) (once x s placed) (laid x s placed p) (place_of_plan x.m.geometry q bytes) (laid_at x s placed p plain.1 plain.0) own_stretch
            (λ ids. not_fresh (id_of p.entry.address) plain.1.moved (sym ids ∙ (plan_at x s placed (id_of p.entry.address) plain.1.moved).1.id)) u
            (subst (λ (ss : List ℕ). is_among ss u ≡ true) (spots.spot_other x s placed p plain.0) e) f
      ]
        where
          of_grown : (o : Option Growth) → moving_out x.m (h x) (Some x.growth) ≡ o → is_among (grown x s placed) u ≡ true → ⊥
          of_grown None e in_grown =
              stretch_beside x.m x.agreed.is_map placed.plans (can x s placed) (once x s placed) (grown x s placed) (place_of_plan x.m.geometry q bytes)
              (grown_stays x s placed (spots.d x) (spots.grower x).2 (spots.address x) e (spots.d_stays x e)) own_stretch
              (λ ids. not_fresh (id_of (spots.d x).entry.address) (spots.d_stays x e).moved (sym ids ∙ (plan_at x s placed (id_of (spots.d x).entry.address) (spots.d_stays x e).moved).1.id)) u in_grown f
          of_grown (Some g) e in_grown =
              stretch_beside x.m x.agreed.is_map placed.plans (can x s placed) (once x s placed) (grown x s placed) (place_of_plan x.m.geometry q bytes)
              (grown_leaves x s placed (spots.d x) (spots.grower x).2 (spots.address x) g e) own_stretch
              (λ ids. never_last g e (sym ids ∙ leaves_plan x s placed (spots.d x) (spots.grower x).2 (spots.address x) g e)) u in_grown f
