use Rattle.std.proofs.Common.{◌++◌, ◌∙◌, Bool, ℕ, Option, ap, sym, subst}
use Rattle.std.specs.Prelude.{AllPairs, IfSome}
use Rattle.std.specs.Option.{option_to_list}
use Rattle.fc_image.specs.Layout.{Layout}
use Rattle.fc_image.specs.effects.Placed.{BeginsBefore}
use Rattle.fc_plan.specs.declared.plan.Plan.{Plan}
use Rattle.fc_plan.specs.Parts.{fronts}
use Rattle.fc_writing.specs.declared.ready.RootPlace.{RootPlace}
use Rattle.fc_change.specs.GrownSpace.{gone_at_once, kept_parts, left_if, plans_of}
use Rattle.fc_change.specs.Held.{parts_of}
use Rattle.fc_change.specs.Places.{AreLeft, IsCopiedFrom, extents_in, plan_in}
use Rattle.fc_change.specs.Planning.{alone_in}
use Rattle.fc_change.specs.Shortage.{bytes_left}
use Rattle.fc_change.specs.Steps.{IsStep}
use Rattle.fc_change.proofs.GrownLemmas.{longer}
use Rattle.fc_change.proofs.PlaceLemmas.{placed_id, placed_rises}
use Rattle.fc_change.proofs.SpacesLemmas.{are_placed, placed}
use Rattle.fc_change.proofs.placing.new.spaces_for.Goals as goal

pub object_place-requires-clause-id : goal.object_place-requires-clause-id
object_place-requires-clause-id c =
    let m = c.args.map.now in
    let h = parts_of c.args.held.now in
    placed_id m c.is_map.ensures h.owners c.args.wants.now c.placing_of-placing.result
    (placed m h c.args.wants.now c.args.share c.args.growing c.args.plans c.requires.judged c.requires.shared c.requires.planned c.placing_of-placing.result c.placing_of-placing.ensures)

pub object_place-requires-clause-placing : goal.object_place-requires-clause-placing
object_place-requires-clause-placing c =
    placed c.args.map.now (parts_of c.args.held.now) c.args.wants.now c.args.share c.args.growing c.args.plans c.requires.judged c.requires.shared c.requires.planned c.placing_of-placing.result c.placing_of-placing.ensures

pub place_grown-requires : goal.place_grown-requires
place_grown-requires c = record {
  bytes = bytes_left c.args.map.now (parts_of c.args.held.now).owners c.args.wants.now;
  object = c.args.plans.object;
  own = c.requires.planned.object;
  longer = longer c.args.map.now (parts_of c.args.held.now) c.args.wants.now.grows c.args.growing c.requires.can.grows c.requires.judged;
  plan = c.requires.planned.dir;
}

pub take_step-requires-clause-object : goal.take_step-requires-clause-object
take_step-requires-clause-object c =
    let h = parts_of c.args.held.now in
    subst (λ (o : Option Plan). IfSome o (λ (plan : Plan). AllPairs BeginsBefore (fronts plan.parts.items))) (sym c.plan_in.ensures)
    (placed_rises c.args.map.now h.owners c.args.wants.now c.placing_of-placing.result
    (placed c.args.map.now h c.args.wants.now c.args.share c.args.growing c.args.plans c.requires.judged c.requires.shared c.requires.planned c.placing_of-placing.result c.placing_of-placing.ensures))

pub returns : goal.returns
returns c =
    let m = c.args.map.now in
    let h = parts_of c.args.held.now in
    let w = c.args.wants.now in
    let x = c.args.growing in
    let dir = c.args.plans.dir in
    let placing = c.placing_of-placing.result in
    let gone = c.in_ok-gone.ensures in
    let take = c.in_ok-take.take in
    are_placed m h w c.args.share x c.args.plans c.requires.judged c.requires.shared c.requires.planned placing c.placing_of-placing.ensures _ c.in_ok-gone.gone.items gone.0 c.in_ok-object.ensures
    (subst (λ (l : Layout). IsCopiedFrom l h.nodes w.copied (extents_in c.in_ok-copied.copied)) c.requires.map c.in_ok-copied.ensures) c.in_ok-grown.ensures
    (subst (λ (r : Option RootPlace). IsStep m (plans_of (plan_in placing) dir) (gone_at_once dir (alone_in x)) (kept_parts dir (alone_in x)) r take) c.root_of.ensures
    (subst (λ (b : Bool). IsStep m (plans_of (plan_in placing) dir) (gone_at_once dir b) (kept_parts dir b) c.root_of.result take) c.alone_in-alone.ensures
    (subst (λ (o : Option Plan). IsStep m (plans_of o dir) (gone_at_once dir c.alone_in-alone.result) (kept_parts dir c.alone_in-alone.result) c.root_of.result take) c.plan_in.ensures c.in_ok-take.ensures)))
    (subst (λ (s : Option ℕ). AreLeft h.owners w.goes s gone.0) c.shared_id.ensures gone.1)
    (gone.2 ∙ ap (λ (b : Bool). option_to_list (left_if dir b h.owners w) ++ gone.0) c.alone_in-alone.ensures) c.in_ok-give.ensures
