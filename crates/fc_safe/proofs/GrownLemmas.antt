-- A directory that grows has a plan among those that meet a job's needs, and lies in it.
use Rattle.std.proofs.Common.{◌≡◌, ◌<◌, ◌&&◌, ◌==◌, ℕ, zero, suc, ◌*◌, ◌/◌, ◌^◌, Bool, true, false, cond, List, [], ◌∷◌, ◌++◌, get_or, map, refl, sym, ap, ap₂, subst, ◌∙◌, arith, append_assoc, eq-eqb, Some, None, Option}
use Rattle.std.specs.Prelude.{Contains, drop, is_some, nat_lt, not, take}
use Rattle.std.specs.Int.{div_ceil}
use Rattle.std.proofs.lemmas.Bool.{lt-ltb}
use Rattle.std.proofs.lemmas.List.Elements.{Contains-append_right, Contains-get_or}
use Rattle.fc_alloc.specs.declared.owner.Owner.{Owner}
use Rattle.fc_record.specs.declared.Geometry.{Geometry}
use Rattle.fc_record.specs.Record.{id_limit}
use Rattle.fc_newmap.specs.Map.{Map, ZoneRun, hole_runs}
use Rattle.fc_newmap.specs.NewMap.{IsNewMap}
use Rattle.fc_newmap.proofs.TallyLemmas.{ids_few}
use Rattle.fc_image.specs.Layout.{id_of, low_of, low_start}
use Rattle.fc_image.specs.effects.Placed.{holes_left}
use Rattle.fc_image.specs.effects.Sharing.{new_ids}
use Rattle.fc_image.proofs.EntriesLemmas.{in_mapped}
use Rattle.fc_plan.specs.declared.plan.Plan.{Plan}
use Rattle.fc_plan.specs.Giving.{is_one_of}
use Rattle.fc_plan.specs.Parts.{front_at, fronts}
use Rattle.fc_plan.proofs.Plans.{min_some}
use Rattle.fc_tree.specs.Counts.{address_in}
use Rattle.fc_tree.specs.Parts.{Parts}
use Rattle.fc_writing.specs.declared.ready.RootPlace.{RootPlace}
use Rattle.fc_writing.specs.Steps.{CanTakeAll}
use Rattle.fc_change.specs.declared.change.Regrowth.{Regrowth}
use Rattle.fc_change.specs.declared.job.Growth.{Growth}
use Rattle.fc_change.specs.declared.job.Job.{Job}
use Rattle.fc_change.specs.declared.job.Wants.{Wants}
use Rattle.fc_change.specs.declared.spaces.GrownPlace.{GrownPlace}
use Rattle.fc_change.specs.GrownSpace.{plan_sectors, root_of}
use Rattle.fc_change.specs.Shortage.{bytes_left}
use Rattle.fc_safe.specs.Changed.{above_grown, named_in, renamed_in, within_moved}
use Rattle.fc_safe.specs.FirstNeeds.{Stir, first_needs, ids_of, leaving_of, moving_out, need_of, out_need, own_need, stir_of, turns_root}
use Rattle.fc_safe.specs.FirstSpace.{CanGrowFirst, IsFirstGrown, IsGrownFirst, IsLastIf, LiesInZones, address_then}
use Rattle.fc_safe.specs.Grown.{HasGrownPlan, IsGrownPlan, IsPlacedIn}
use Rattle.fc_safe.specs.Needs.{AreMet, HaveIds, IsIdOf}
use Rattle.fc_safe.specs.Staying.{holds_changed, last_end, remains}
use Rattle.fc_safe.specs.declared.needs.Need.{Need}
use Rattle.fc_safe.proofs.CoverLemmas.{fronts_in_zones}
use Rattle.fc_safe.proofs.ListLemmas.{any_of, in_flat, in_left, or_left}
use Rattle.fc_safe.proofs.SetLemmas.{of_one}
use Rattle.fc_safe.proofs.ZoneLemmas.{in_range, ones_append}

-- ---- plans of needs

-- the plan of a need of an identifier
plan_for : (ids : List ℕ) (needs : List Need) (plans : List Plan) (left : List ℕ) (n : Need) (id : ℕ) → HaveIds ids needs plans left → Contains needs n → n.id ≡ Some id → (plan : Plan) × Contains plans plan × (plan.id ≡ id)
plan_for ids [] plans left n id have (k, low, e) some = absurd (omega (arith, low))
plan_for ids (x ∷ needs) [] left n id have at some = absurd have
plan_for ids (x ∷ needs) (p ∷ plans) left n id have (zero, low, e) some = (p, (0, omega arith, refl), own x.id (ap (λ (y : Need). y.id) e ∙ some) have.1)
  where
    own : (o : Option ℕ) → o ≡ Some id → IsIdOf o ids have.0 p.id → p.id ≡ id
    own None f is = absurd (cc)
    own (Some j) f is = is.0 ∙ (let same : j ≡ id = cc in same)
plan_for ids (x ∷ needs) (p ∷ plans) left n id have (suc k, low, e) some =
    let r = plan_for have.0 needs plans left n id have.2 (k, omega (arith, low), e) some in
    (r.0, (suc r.1.0, (let l = r.1.1 in omega (arith, l)), r.1.2), r.2)

-- that of the last need
last_for : (ids : List ℕ) (needs : List Need) (n : Need) (plans : List Plan) (left : List ℕ) → HaveIds ids (needs ++ n ∷ []) plans left → (plan : Plan) × (before : List Plan) × (plans ≡ before ++ plan ∷ [])
last_for ids [] n [] left have = absurd have
last_for ids [] n (p ∷ []) left have = (p, [], refl)
last_for ids [] n (p ∷ q ∷ plans) left have = absurd have.2
last_for ids (x ∷ needs) n [] left have = absurd have
last_for ids (x ∷ needs) n (p ∷ plans) left have =
    let r = last_for have.0 needs n plans left have.2 in
    (r.0, p ∷ r.1, ap (λ (ps : List Plan). p ∷ ps) r.2)

-- ---- the plan of the directory

module _ (m : Map) (h : Parts) (job : Job) (w : Wants) (g : Growth) (can : CanGrowFirst h job w g) (low : (o : Owner) → Contains h.owners o → o.id < id_limit m.geometry) where
  abbrev s : Stir
  s = stir_of m h job w

  abbrev id : ℕ
  id = id_of (address_in h.nodes g.node)

  abbrev own : List Need
  own = own_need (bytes_left m h.owners w)

  abbrev moved : List Need
  moved = map (need_of (last_end m.geometry s.leaving s.longer h.owners)) (ids_of m h s)

  both : (a b : Bool) → a ≡ true → b ≡ true → (a && b) ≡ true
  both true b e f = f
  both false b e f = absurd (cc)

  changes : is_one_of s.changed can.own.node ≡ true
  changes =
      let rest : List ℕ = renamed_in h.nodes job ++ (above_grown h.nodes w.grows ++ within_moved h.nodes (moving_out m h w.grows)) in
      ap (λ (n : ℕ). is_one_of (named_in job ++ rest) n) can.node ∙ ones_append (named_in job) rest g.node ∙ or_left (is_one_of (named_in job) g.node) (is_one_of rest g.node) can.named

  -- One that stays in its identifier holds that.
  holds : moving_out m h w.grows ≡ None → holds_changed s.changed s.leaving h.owners id ≡ true
  holds e =
      any_of (λ (o : Owner). is_one_of s.changed o.node && remains s.leaving id o) h.owners can.own can.among
      (both (is_one_of s.changed can.own.node) (remains s.leaving id can.own) changes
      (both (can.own.id == id) (not (is_one_of s.leaving can.own.node)) (eq-eqb can.own.id id can.id)
      (ap₂ (λ (o : Option Growth) (n : ℕ). not (is_one_of (leaving_of w o) n)) e can.node ∙ ap not can.stays)))

  among : moving_out m h w.grows ≡ None → Contains (ids_of m h s) id
  among e =
      of_one (ids_of m h s) id
      (in_range (holds_changed s.changed s.leaving h.owners) (id_limit m.geometry) id
      ∙ both (nat_lt id (id_limit m.geometry)) (holds_changed s.changed s.leaving h.owners id)
      (lt-ltb id (id_limit m.geometry) (subst (λ (k : ℕ). k < id_limit m.geometry) can.id (low can.own can.among))) (holds e))

  needed : moving_out m h w.grows ≡ None → Contains (first_needs m h job w) (need_of (last_end m.geometry s.leaving s.longer h.owners) id)
  needed e =
      Contains-append_right own (moved ++ out_need s.out) (need_of (last_end m.geometry s.leaving s.longer h.owners) id)
      (in_left moved (out_need s.out) (need_of (last_end m.geometry s.leaving s.longer h.owners) id)
      (in_mapped (need_of (last_end m.geometry s.leaving s.longer h.owners)) (ids_of m h s) id (among e)))

  pub grown_plan : (plans : List Plan) → AreMet m (first_needs m h job w) plans → HasGrownPlan (moving_out m h w.grows) plans id
  grown_plan plans met = by (moving_out m h w.grows) refl
    where
      by : (o : Option Growth) → moving_out m h w.grows ≡ o → HasGrownPlan o plans id
      by None e = let r = plan_for (new_ids m) (first_needs m h job w) plans met.left (need_of (last_end m.geometry s.leaving s.longer h.owners) id) id met.ids (needed e) refl in (r.0, (r.1, r.2))
      by (Some out) e =
          let n : Need = record { id = None; bytes = out.len } in
          let split : first_needs m h job w ≡ (own ++ moved) ++ n ∷ [] = ap (λ (o : Option Growth). own ++ (moved ++ out_need o)) e ∙ sym (append_assoc own moved (n ∷ [])) in
          let r = last_for (new_ids m) (own ++ moved) n plans met.left (subst (λ (ns : List Need). HaveIds (new_ids m) ns plans met.left) split met.ids) in
          (r.0, (r.1, r.2))

-- ---- plans that can be taken

id_fits : (g : Geometry) (holes : List ZoneRun) (plans : List Plan) (plan : Plan) → CanTakeAll g holes plans → Contains plans plan → plan.id < 2 ^ g.idlen
id_fits g holes [] plan can (k, low, e) = absurd (omega (arith, low))
id_fits g holes (p ∷ plans) plan can (zero, low, e) = subst (λ (q : Plan). q.id < 2 ^ g.idlen) e can.0.fits
id_fits g holes (p ∷ plans) plan can (suc k, low, e) = id_fits g (holes_left holes (fronts p.parts.items)) plans plan can.1 (k, omega (arith, low), e)

pub each_lies : (m : Map) → IsNewMap m → (plans : List Plan) (plan : Plan) → CanTakeAll m.geometry (hole_runs m) plans → Contains plans plan → LiesInZones m plan × (plan.id < 2 ^ 24)
each_lies m is plans plan can at = (
  λ k d low.
      fronts_in_zones m is (min_some m.geometry is.of_record) plans (front_at (get_or plan.parts.items k d)) can
      (in_flat (λ (q : Plan). fronts q.parts.items) plans plan (front_at (get_or plan.parts.items k d)) at
      (in_mapped front_at plan.parts.items (get_or plan.parts.items k d) (Contains-get_or plan.parts.items k d low))),
  (let fits = id_fits m.geometry (hole_runs m) plans plan can at in let few = ids_few m.geometry is.of_record in omega (arith, fits, few)),
)

-- ---- where it lies

module _ (m : Map) (h : Parts) (g : Growth) (plans : List Plan) (plan : Plan) (p : GrownPlace) (among : Contains plans plan) (is : IsGrownPlan (moving_out m h (Some g)) plans (id_of (address_in h.nodes g.node)) plan)
    (placed : IsPlacedIn m g (address_then (moving_out m h (Some g)) (address_in h.nodes g.node) plan) plan p) where
  last_if : (o : Option Growth) → IsGrownPlan o plans (id_of (address_in h.nodes g.node)) plan → IsLastIf o plans plan
  last_if None is = tt
  last_if (Some out) is = is

  id_is : (o : Option Growth) → IsGrownPlan o plans (id_of (address_in h.nodes g.node)) plan → plan.id ≡ id_of (address_then o (address_in h.nodes g.node) plan)
  id_is None is = is.1
  id_is (Some out) is = let same : plan.id ≡ 256 * plan.id / 256 = omega arith in same

  address : p.directory.address ≡ address_then (moving_out m h (Some g)) (address_in h.nodes g.node) plan
  address = ap (λ (d : Regrowth). d.address) placed.directory

  pub first_grown : IsFirstGrown m h g plans p
  first_grown = record {
    plan = plan;
    among = among;
    last = last_if (moving_out m h (Some g)) is;
    id = id_is (moving_out m h (Some g)) is ∙ ap id_of (sym address);
    directory = placed.directory;
    moves = placed.moves;
    sectors = placed.sectors ∙ ap (λ (a : ℕ). take (div_ceil g.len m.geometry.sector) (drop (low_start m (low_of a)) (plan_sectors m.geometry plan))) (sym address);
  }

-- ---- the root

pub root_turns : (m : Map) (h : Parts) (grows : Option Growth) (plans : List Plan) (place : Option GrownPlace) → IsGrownFirst m h grows plans place → is_some (root_of place) ≡ turns_root grows
root_turns m h None plans place is = ap (λ (o : Option GrownPlace). is_some (root_of o)) is
root_turns m h (Some g) plans None is = absurd is
root_turns m h (Some g) plans (Some p) is =
    test (p.directory.node == 0) (record { address = p.directory.address; len = p.directory.len }) ∙ ap (λ (d : Regrowth). d.node == 0) is.directory
  where
    test : (b : Bool) (r : RootPlace) → is_some (cond b (Some r) None) ≡ b
    test true r = refl
    test false r = refl
