use Rattle.std.proofs.Common.{◌≡◌, ◌||◌, ◌<◌, ◌^◌, ◌∙◌, ℕ, Bool, List, Option, None, Contains, is_some, refl, sym, ap, ap₂, subst}
use Rattle.fc_image.specs.Layout.{Layout, id_of}
use Rattle.fc_image.specs.safe.SafeShort.{spread_or}
use Rattle.fc_placing.specs.Places.{id_in, shared_id}
use Rattle.fc_placing.specs.declared.placing.Placing.{Placing}
use Rattle.fc_plan.specs.declared.plan.Plan.{Plan}
use Rattle.fc_plan.specs.Giving.{is_one_of}
use Rattle.fc_tree.specs.Counts.{address_in}
use Rattle.fc_writing.specs.declared.ready.MapStep.{MapStep}
use Rattle.fc_writing.specs.declared.ready.RootPlace.{RootPlace}
use Rattle.fc_change.specs.declared.spaces.Spaces.{Spaces}
use Rattle.fc_change.specs.GrownSpace.{root_of}
use Rattle.fc_change.specs.Held.{parts_of}
use Rattle.fc_change.specs.declared.job.Growth.{Growth}
use Rattle.fc_change.specs.Places.{IsCopiedFrom, extents_in}
use Rattle.fc_change.specs.Shortage.{bytes_left}
use Rattle.fc_change.proofs.PlaceLemmas.{bytes_are}
use Rattle.fc_safe.specs.FirstNeeds.{first_gone, first_needs, first_shortage, needs_by, short_of_needs, stir_of, turns_root, zones_turned}
use Rattle.fc_safe.specs.FirstSpace.{CanLie, IsFirstPlacing, IsGrownFirst, IsStepFirst, LiesInZones}
use Rattle.fc_safe.specs.Gone.{is_lost_by}
use Rattle.fc_safe.specs.Grown.{HasGrownPlan}
use Rattle.fc_safe.specs.Needs.{AreMet, parts_of as plan_parts}
use Rattle.fc_safe.specs.Planned.{IsOwnFirst}
use Rattle.fc_safe.proofs.FirstLemmas.{all_taken, back_first, grown_first, id_first, lies_first, needs_met, placing_first, plans_lie, spread_last}
use Rattle.fc_safe.proofs.GrownLemmas.{root_turns}
use Rattle.fc_safe.proofs.PlannedLemmas.{err_same}
use Rattle.fc_safe.proofs.first.place_first.Goals as goal
use Rattle.fc_safe.proofs.first.place_first.Goals.{After-root_of, In_ok-gone}

left : (c : In_ok-gone) → c.bytes_left-bytes.result ≡ bytes_left c.args.map.now (parts_of c.args.held.now).owners c.args.wants.now
left c = c.bytes_left-bytes.ensures ∙ bytes_are c.args.map.now (parts_of c.args.held.now).owners c.args.wants.now c.in_ok-share.share c.in_ok-share.ensures

own : (c : In_ok-gone) → IsOwnFirst c.bytes_left-bytes.result c.in-Ok.planned.plans.items c.in_ok-own_plan.field-0
own c = subst (λ (ps : List Plan). IsOwnFirst c.bytes_left-bytes.result ps c.in_ok-own_plan.field-0) c.deref.ensures.value c.in_ok-own_plan.ensures

pub moving_out-requires-clause-longer : goal.moving_out-requires-clause-longer
moving_out-requires-clause-longer c = λ g e. (c.requires.can.grows g e).some

pub plan_job-requires-clause-longer : goal.plan_job-requires-clause-longer
plan_job-requires-clause-longer c = λ g e. (let k = c.requires.can.grows g e in (k.some, k.few))

pub place_object-requires-clause-id : goal.place_object-requires-clause-id
place_object-requires-clause-id c =
    let s = (goal.at.place_object-requires-clause-id c).In_ok-gone in
    subst (λ (pl : Placing). id_in pl < 2 ^ 24) (sym c.placing_of-placing.ensures)
    (id_first c.args.map.now c.is_map.ensures (parts_of c.args.held.now) c.args.job.now c.args.wants.now c.requires.can c.bytes_left-bytes.result c.in_ok-share.share c.in_ok-own_plan.field-0 c.in-Ok.planned
    (left s) c.in-Ok.ensures.planned c.in_ok-share.ensures (own s))

pub place_object-requires-clause-can : goal.place_object-requires-clause-can
place_object-requires-clause-can c =
    let s = (goal.at.place_object-requires-clause-can c).In_ok-gone in
    subst (λ (pl : Placing). CanLie c.args.map.now (parts_of c.args.held.now).owners c.args.wants.now pl) (sym c.placing_of-placing.ensures)
    (lies_first c.args.map.now c.is_map.ensures (parts_of c.args.held.now) c.args.job.now c.args.wants.now c.requires.can c.bytes_left-bytes.result c.in_ok-share.share c.in_ok-own_plan.field-0 c.in-Ok.planned
    (left s) c.in-Ok.ensures.planned c.in_ok-share.ensures (own s))

pub place_grown-requires-clause-plan : goal.place_grown-requires-clause-plan
place_grown-requires-clause-plan c = λ g e. (
    let s = (goal.at.place_grown-requires-clause-plan c).In_ok-gone in
    let nodes = (parts_of c.args.held.now).nodes in
    subst (λ (ps : List Plan). HasGrownPlan c.in_ok-out.out ps (id_of (address_in nodes g.node))) (sym c.deref-4.ensures.value)
    (subst (λ (o : Option Growth). HasGrownPlan o c.in-Ok.planned.plans.items (id_of (address_in nodes g.node))) (sym c.in_ok-out.ensures)
    (grown_first c.args.map.now c.is_map.ensures (parts_of c.args.held.now) c.args.job.now c.args.wants.now c.requires.can c.bytes_left-bytes.result c.in_ok-share.share c.in_ok-own_plan.field-0 c.in-Ok.planned
    (left s) c.in-Ok.ensures.planned c.in_ok-share.ensures (own s) g e)))

pub place_grown-requires-clause-each : goal.place_grown-requires-clause-each
place_grown-requires-clause-each c =
    let s = (goal.at.place_grown-requires-clause-each c).In_ok-gone in
    subst (λ (ps : List Plan). (plan : Plan) → Contains ps plan → LiesInZones c.args.map.now plan × (plan.id < 2 ^ 24)) (sym c.deref-4.ensures.value)
    (plans_lie c.args.map.now c.is_map.ensures (parts_of c.args.held.now) c.args.job.now c.args.wants.now c.requires.can c.bytes_left-bytes.result c.in_ok-share.share c.in_ok-own_plan.field-0 c.in-Ok.planned
    (left s) c.in-Ok.ensures.planned c.in_ok-share.ensures (own s))

pub step_of-requires-clause-can : goal.step_of-requires-clause-can
step_of-requires-clause-can c =
    let s = (goal.at.step_of-requires-clause-can c).In_ok-gone in
    all_taken c.args.map.now c.is_map.ensures (parts_of c.args.held.now) c.args.job.now c.args.wants.now c.requires.can c.bytes_left-bytes.result c.in_ok-share.share c.in_ok-own_plan.field-0 c.in-Ok.planned
    (left s) c.in-Ok.ensures.planned c.in_ok-share.ensures (own s)

-- what goes back
back : (c : In_ok-gone) → c.in_ok-gone.gone.items ≡ first_gone c.args.map.now (parts_of c.args.held.now) c.args.job.now c.args.wants.now
back c =
    let owners = (parts_of c.args.held.now).owners in
    back_first c.args.map.now c.is_map.ensures (parts_of c.args.held.now) c.args.job.now c.args.wants.now c.requires.can c.bytes_left-bytes.result c.in_ok-share.share c.in_ok-own_plan.field-0 c.in-Ok.planned
    (left c) c.in-Ok.ensures.planned c.in_ok-share.ensures (own c)
    c.in_ok-gone.gone.items c.in_ok-gone.ensures.rising
    (λ id. c.in_ok-gone.ensures.same id
    ∙ ap₂ (λ (xs ns : List ℕ). is_one_of xs id || is_lost_by ns c.shared_id.result owners id) c.deref-2.ensures.value c.deref-3.ensures.value
    ∙ ap (λ (k : Option ℕ). is_one_of c.in-Ok.planned.ids.items id || is_lost_by c.in-Ok.planned.leaving.items k owners id) (c.shared_id.ensures ∙ ap shared_id c.placing_of-placing.ensures))

met : (c : In_ok-gone) → AreMet c.args.map.now (first_needs c.args.map.now (parts_of c.args.held.now) c.args.job.now c.args.wants.now) c.in-Ok.planned.plans.items
met c =
    needs_met c.args.map.now c.is_map.ensures (parts_of c.args.held.now) c.args.job.now c.args.wants.now c.requires.can c.bytes_left-bytes.result c.in_ok-share.share c.in_ok-own_plan.field-0 c.in-Ok.planned
    (left c) c.in-Ok.ensures.planned c.in_ok-share.ensures (own c)

none : (c : In_ok-gone) → short_of_needs c.args.map.now (first_needs c.args.map.now (parts_of c.args.held.now) c.args.job.now c.args.wants.now) ≡ None
none c =
    let h = parts_of c.args.held.now in
    ap (λ (n : ℕ). short_of_needs c.args.map.now (needs_by c.args.map.now h (stir_of c.args.map.now h c.args.job.now c.args.wants.now) n)) (sym (left c)) ∙ c.in-Ok.ensures.refused

-- where the directory lies that grows
grown : (c : After-root_of) → IsGrownFirst c.args.map.now (parts_of c.args.held.now) c.args.wants.now.grows c.in-Ok.planned.plans.items c.in_ok-grown.grown
grown c = subst (λ (ps : List Plan). IsGrownFirst c.args.map.now (parts_of c.args.held.now) c.args.wants.now.grows ps c.in_ok-grown.grown) c.deref-4.ensures.value c.in_ok-grown.ensures

turns : (c : After-root_of) → is_some c.root_of.result ≡ turns_root c.args.wants.now.grows
turns c =
    ap (λ (r : Option RootPlace). is_some r) c.root_of.ensures
    ∙ root_turns c.args.map.now (parts_of c.args.held.now) c.args.wants.now.grows c.in-Ok.planned.plans.items c.in_ok-grown.grown (grown c)

shortage_is : (g : In_ok-gone) (root : Bool) → root ≡ turns_root g.args.wants.now.grows
    → first_shortage g.args.map.now (parts_of g.args.held.now) g.args.job.now g.args.wants.now ≡ spread_or (zones_turned g.args.map.now (plan_parts g.in-Ok.planned.plans.items) g.in_ok-gone.gone.items root)
shortage_is g root turns =
    spread_last g.args.map.now (parts_of g.args.held.now) g.args.job.now g.args.wants.now g.in-Ok.planned.plans.items root turns (none g) (met g)
    ∙ ap (λ (xs : List ℕ). spread_or (zones_turned g.args.map.now (plan_parts g.in-Ok.planned.plans.items) xs root)) (sym (back g))

pub returns-in-Err-step_of-clause-refused : goal.returns-in-Err-step_of-clause-refused
returns-in-Err-step_of-clause-refused c =
    let s = goal.at.returns-in-Err-step_of-clause-refused c in
    err_same MapStep Spaces c.in-Err-step_of.error (spread_or (zones_turned c.args.map.now (plan_parts c.in-Ok.planned.plans.items) c.in_ok-gone.gone.items (is_some c.root_of.result))) _
    (sym (shortage_is s.In_ok-gone (is_some c.root_of.result) (turns s.After-root_of))) c.in-Err-step_of.ensures.refused

pub returns-clause-refused : goal.returns-clause-refused
returns-clause-refused c =
    let s = goal.at.returns-clause-refused c in
    shortage_is s.In_ok-gone (is_some c.root_of.result) (turns s.After-root_of) ∙ c.in-Ok-step_of.ensures.refused

pub returns-clause-places : goal.returns-clause-places
returns-clause-places c =
    let m = c.args.map.now in
    let h = parts_of c.args.held.now in
    let w = c.args.wants.now in
    let plans = c.in-Ok.planned.plans.items in
    let s = goal.at.returns-clause-places c in
    let g = s.In_ok-gone in
    record {
      plans = plans;
      placing = c.placing_of-placing.result;
      met = met g;
      placed = subst (λ (pl : Placing). IsFirstPlacing m h.owners w plans pl) (sym c.placing_of-placing.ensures)
          (placing_first m c.is_map.ensures h c.args.job.now w c.requires.can c.bytes_left-bytes.result c.in_ok-share.share c.in_ok-own_plan.field-0 c.in-Ok.planned (left g) c.in-Ok.ensures.planned c.in_ok-share.ensures (own g));
      object = c.in_ok-object.ensures;
      copied = subst (λ (l : Layout). IsCopiedFrom l h.nodes w.copied (extents_in c.in_ok-copied.copied)) c.requires.map c.in_ok-copied.ensures;
      grown = grown s.After-root_of;
      take = subst (λ (xs : List ℕ). IsStepFirst m plans xs (root_of c.in_ok-grown.grown) c.in-Ok-step_of.take) (back g)
          (subst (λ (r : Option RootPlace). IsStepFirst m plans c.in_ok-gone.gone.items r c.in-Ok-step_of.take) c.root_of.ensures c.in-Ok-step_of.ensures.step);
      give = refl;
    }
