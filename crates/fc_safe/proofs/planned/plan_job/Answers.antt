use Rattle.std.proofs.Common.{rules, ◌≡◌, ◌+◌, ◌∙◌, List, true, sym, ap, subst, count_by, length, nat_le, nat_lt, arith}
use Rattle.std.specs.Prelude.{All, Vec, is_some}
use Rattle.std.specs.declared.alloc.Global.{Global}
use Rattle.std.proofs.lemmas.Bool.{leb-true}
use Rattle.fc_record.specs.declared.Geometry.{Geometry}
use Rattle.fc_image.specs.effects.Sharing.{new_ids}
use Rattle.fc_image.specs.effects.Short.{one_if}
use Rattle.fc_plan.specs.declared.plan.Plan.{Plan}
use Rattle.fc_change.specs.Held.{parts_of}
use Rattle.fc_safe.specs.FirstNeeds.{longer_of, needs_by, stir_of}
use Rattle.fc_safe.specs.Moving.{AreMoved, IsMovingFor, IsPlacedOwner}
use Rattle.fc_safe.specs.Needs.{AreMet, CanNeed, bits_of, full_for, is_new}
use Rattle.fc_safe.specs.declared.needs.Need.{Need}
use Rattle.fc_safe.specs.declared.planned.Planned.{Planned}
use Rattle.fc_safe.proofs.PlannedLemmas.{err_same, ids_are, ids_enough, leaving_are, needs_are, needs_can, news_are}
use Rattle.fc_safe.proofs.planned.plan_job.Goals as goal
use Rattle.fc_safe.proofs.planned.plan_job.Goals.{After-deref}

pub moved_of-requires-clause-placed : goal.moved_of-requires-clause-placed
moved_of-requires-clause-placed c = λ o at. (
    let h = parts_of c.args.held.now in
    let g : c.geometry-2.result.now ≡ c.args.map.now.geometry = c.geometry-2.ensures.value in
    let longer : c.in_ok-moving.moving.longer ≡ longer_of c.args.map.now.geometry c.args.wants.now.grows = c.in_ok-moving.ensures.longer ∙ ap (λ (k : Geometry). longer_of k c.args.wants.now.grows) c.geometry.ensures.value in
    subst (λ (k : Geometry). IsPlacedOwner k c.in_ok-moving.moving.longer o) (sym g) (subst (λ l. IsPlacedOwner c.args.map.now.geometry l o) (sym longer) (c.requires.placed o at)))

-- what is moved, by the map's own geometry
moving_is : (c : After-deref) → IsMovingFor c.args.map.now.geometry (parts_of c.args.held.now).nodes c.args.job.now c.args.wants.now c.args.out c.in_ok-moving.moving
moving_is c = subst (λ (k : Geometry). IsMovingFor k (parts_of c.args.held.now).nodes c.args.job.now c.args.wants.now c.args.out c.in_ok-moving.moving) c.geometry.ensures.value c.in_ok-moving.ensures

moved_is : (c : After-deref) → AreMoved c.args.map.now.geometry (parts_of c.args.held.now).owners c.in_ok-moving.moving c.in_ok-moved.moved
moved_is c = subst (λ (k : Geometry). AreMoved k (parts_of c.args.held.now).owners c.in_ok-moving.moving c.in_ok-moved.moved) c.geometry-2.ensures.value c.in_ok-moved.ensures

found : (c : After-deref) → c.deref.result.now ≡ needs_by c.args.map.now (parts_of c.args.held.now) (stir_of c.args.map.now (parts_of c.args.held.now) c.args.job.now c.args.wants.now) c.args.bytes
found c =
    c.deref.ensures.value
    ∙ needs_are c.args.map.now c.is_map.ensures.of_record (parts_of c.args.held.now) c.args.job.now c.args.wants.now c.args.bytes c.args.out c.in_ok-moving.moving c.in_ok-moved.moved (moving_is c) (moved_is c) c.requires.out
    c.in_ok-needs.needs.items c.in_ok-needs.ensures

enough : (c : After-deref) → nat_le (one_if (nat_lt 0 c.args.bytes) + one_if (is_some c.args.out)) (length (new_ids c.args.map.now)) ≡ true
enough c = search rules

count : (c : After-deref) → count_by is_new (needs_by c.args.map.now (parts_of c.args.held.now) (stir_of c.args.map.now (parts_of c.args.held.now) c.args.job.now c.args.wants.now) c.args.bytes)
    ≡ one_if (nat_lt 0 c.args.bytes) + one_if (is_some c.args.out)
count c =
    news_are c.args.map.now c.is_map.ensures.of_record (parts_of c.args.held.now) c.args.job.now c.args.wants.now c.args.bytes c.args.out c.in_ok-moving.moving c.in_ok-moved.moved (moving_is c) (moved_is c) c.requires.out

pub plan_needs-requires-clause-needs : goal.plan_needs-requires-clause-needs
plan_needs-requires-clause-needs c =
    let s = (goal.at.plan_needs-requires-clause-needs c).After-deref in
    subst (λ (ns : List Need). All CanNeed ns) (sym (found s))
    (needs_can c.args.map.now c.is_map.ensures.of_record (parts_of c.args.held.now) c.args.job.now c.args.wants.now c.args.bytes c.ranges.bytes.fits c.requires.placed c.requires.longer)

pub plan_needs-requires-clause-ids : goal.plan_needs-requires-clause-ids
plan_needs-requires-clause-ids c =
    let s = (goal.at.plan_needs-requires-clause-ids c).After-deref in
    let many = ap (λ (ns : List Need). count_by is_new ns) (found s) ∙ count s in
    let low = leb-true (one_if (nat_lt 0 c.args.bytes) + one_if (is_some c.args.out)) (length (new_ids c.args.map.now)) (enough s) in
    omega (arith, many, low)

pub returns-in-Err-clause-refused : goal.returns-in-Err-clause-refused
returns-in-Err-clause-refused c =
    let s = (goal.at.returns-in-Err-clause-refused c).After-deref in
    let needs = needs_by c.args.map.now (parts_of c.args.held.now) (stir_of c.args.map.now (parts_of c.args.held.now) c.args.job.now c.args.wants.now) c.args.bytes in
    err_same (Vec Plan Global) Planned c.in-Err.error (full_for c.args.map.now (bits_of c.args.map.now.geometry c.deref.result.now)) _
    (ap (λ (ns : List Need). full_for c.args.map.now (bits_of c.args.map.now.geometry ns)) (found s)
    ∙ sym (ids_enough c.args.map.now needs (one_if (nat_lt 0 c.args.bytes) + one_if (is_some c.args.out)) (count s) (enough s)))
    c.in-Err.ensures.refused

pub returns-clause-planned : goal.returns-clause-planned
returns-clause-planned c =
    let s = (goal.at.returns-clause-planned c).After-deref in
    let h = parts_of c.args.held.now in
    record {
      met = subst (λ (ns : List Need). AreMet c.args.map.now ns c.in-Ok.plans.items) (found s) c.in-Ok.ensures.plans;
      ids = ids_are c.args.map.now c.is_map.ensures.of_record h c.args.job.now c.args.wants.now c.args.bytes c.args.out c.in_ok-moving.moving c.in_ok-moved.moved (moving_is s) (moved_is s) c.requires.out;
      leaving = leaving_are c.args.map.now c.is_map.ensures.of_record h c.args.job.now c.args.wants.now c.args.bytes c.args.out c.in_ok-moving.moving c.in_ok-moved.moved (moving_is s) (moved_is s) c.requires.out;
    }

pub returns-clause-refused : goal.returns-clause-refused
returns-clause-refused c =
    let s = (goal.at.returns-clause-refused c).After-deref in
    let needs = needs_by c.args.map.now (parts_of c.args.held.now) (stir_of c.args.map.now (parts_of c.args.held.now) c.args.job.now c.args.wants.now) c.args.bytes in
    ids_enough c.args.map.now needs (one_if (nat_lt 0 c.args.bytes) + one_if (is_some c.args.out)) (count s) (enough s)
    ∙ ap (λ (ns : List Need). full_for c.args.map.now (bits_of c.args.map.now.geometry ns)) (sym (found s)) ∙ c.in-Ok.ensures.refused
