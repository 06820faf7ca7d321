use Rattle.std.proofs.Common.{rules, ◌≡◌, Some, true, false, List, sym, ◌∙◌}
use Rattle.std.specs.Prelude.{filter, nat_le, slice_get}
use Rattle.std.specs.List.Sorted.{IsPartitionPoint, IsPermutation}
use Rattle.std.proofs.lemmas.List.Sorted.{IsPartitionPoint-from_clause, IsPartitionedBy-leb}
use Rattle.fc_alloc.specs.declared.owner.Owner.{Owner}
use Rattle.fc_alloc.specs.Owners.{is_held}
use Rattle.fc_placing.specs.Slack.{has_id}
use Rattle.fc_placing.proofs.Groups.{IsFirstGroup, all_passed, cut_here, goes_past, group_found, none_at, stops_here}
use Rattle.fc_placing.proofs.share.first_share.Goals as goal
use Rattle.fc_placing.proofs.share.first_share.Goals.{After-split_at}

cut : (c : After-split_at) → IsFirstGroup c.in-Some.first.now.id c.loop-first.rest.now c.split_at.result.0.now c.split_at.result.1.now
cut c =
    let rest : List Owner = c.loop-first.rest.now in
    let first : Owner = c.in-Some.first.now in
    let n = c.partition_point-count.result in
    let order = c.loop-first.invariant.order in
    let at : slice_get rest 0 ≡ Some first = sym c.in-Some.ensures.value in
    let point : IsPartitionPoint (λ (o : Owner). nat_le o.id first.id ≡ true) (λ (o : Owner). nat_le o.id first.id ≡ false) rest n =
    IsPartitionPoint-from_clause (λ (o : Owner). nat_le o.id first.id) rest n c.partition_point-count.ensures.partitioned (IsPartitionedBy-leb (λ (o : Owner). o.id) rest first.id order.ids) (λ a r q h. search rules) in
    cut_here rest first n order at c.partition_point-count.ensures.bound point c.split_at.result.0.now c.split_at.result.1.now c.split_at.ensures.front c.split_at.ensures.back

pub least_low-requires-clause-found : goal.least_low-requires-clause-found
least_low-requires-clause-found c = (cut (goal.at.least_low-requires-clause-found c).After-split_at).some

pub least_low-requires-clause-sorted : goal.least_low-requires-clause-sorted
least_low-requires-clause-sorted c = (cut (goal.at.least_low-requires-clause-sorted c).After-split_at).rises

found : (c : After-split_at) → IsPermutation (filter (has_id c.in-Some.first.now.id) (filter (is_held c.args.dir) c.args.owners.now)) c.split_at.result.0.now
found c = group_found c.args.map.now c.args.owners.now c.args.held.now c.args.dir c.args.need c.requires.held c.loop-first.rest.now c.loop-first.invariant.each c.in-Some.first.now.id c.split_at.result.0.now c.split_at.result.1.now (cut c)

pub least_low-requires-clause-group : goal.least_low-requires-clause-group
least_low-requires-clause-group c = found (goal.at.least_low-requires-clause-group c).After-split_at

pub loop-first-smaller : goal.loop-first-smaller
loop-first-smaller c = (cut (goal.at.loop-first-smaller c).After-split_at).shorter

pub loop-first-preserved : goal.loop-first-preserved
loop-first-preserved c =
    let first = cut (goal.at.loop-first-preserved c).After-split_at in
    record {
      order = first.order;
      each = goes_past c.args.map.now c.args.owners.now c.args.held.now c.args.dir c.args.need c.requires.held c.loop-first.rest.now c.loop-first.invariant.each c.in-Some.first.now.id c.split_at.result.0.now c.split_at.result.1.now first
          (sym c.least_low.ensures ∙ c.in_default-least_low.is);
    }

pub returns-in-Some-least_low : goal.returns-in-Some-least_low
returns-in-Some-least_low c =
    sym (stops_here c.args.map.now c.args.owners.now c.args.held.now c.args.dir c.args.need c.requires.held c.loop-first.rest.now c.loop-first.invariant.each c.in-Some.first.now.id c.split_at.result.0.now c.split_at.result.1.now
    (cut (goal.at.returns-in-Some-least_low c).After-split_at) c.in-Some-least_low.low (sym c.least_low.ensures ∙ c.in-Some-least_low.is))

pub returns : goal.returns
returns c =
    sym (all_passed c.args.map.now c.args.owners.now c.args.held.now c.args.dir c.args.need c.requires.held c.loop-first.rest.now c.loop-first.invariant.each (none_at c.loop-first.rest.now c.in_default.ensures.value))
