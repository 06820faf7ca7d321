use Rattle.std.proofs.Common.{sym, ap, ◌∙◌, arith}
use Rattle.fc_newmap.specs.Map.{extent_of}
use Rattle.fc_space.proofs.GeometryLemmas.{extent_fits}
use Rattle.fc_space.proofs.NthLemmas.{not_there, sought_behind, sought_here}
use Rattle.fc_space.proofs.new.sector_of_id.Goals as goal

pub overflow_add-result : goal.overflow_add-result
overflow_add-result c =
    let fits = extent_fits c.args.map.now.geometry (c.in-Some.z, c.in-Some.run') c.extent_of-extent.result c.geometry.ensures.map.of_record c.in-Some.ensures.within
    (c.extent_of-extent.ensures ∙ ap (λ h. extent_of h (c.in-Some.z, c.in-Some.run')) c.geometry.ensures.value) in
    omega (arith, fits, c.if-left-extent.true)

pub returns-then-left-extent : goal.returns-then-left-extent
returns-then-left-extent c =
    sym (sought_here c.args.map.now c.args.id c.args.number c.loop-z.cursor c.next.new.self c.loop-z.left c.next.result c.loop-z.invariant c.next.ensures.value
    (c.in-Some.z, c.in-Some.run') c.extent_of-extent.result c.in-Some.is (c.extent_of-extent.ensures ∙ ap (λ h. extent_of h (c.in-Some.z, c.in-Some.run')) c.geometry.ensures.value)
    (omega (arith, c.if-left-extent.true)))

pub loop-z-preserved : goal.loop-z-preserved
loop-z-preserved c =
    sought_behind c.args.map.now c.args.id c.args.number c.loop-z.cursor c.next.new.self c.loop-z.left c.next.result c.loop-z.invariant c.next.ensures.value
    (c.in-Some.z, c.in-Some.run') c.extent_of-extent.result c.in-Some.is (c.extent_of-extent.ensures ∙ ap (λ h. extent_of h (c.in-Some.z, c.in-Some.run')) c.geometry.ensures.value)
    (omega (arith, c.if-left-extent.false))

pub returns : goal.returns
returns c = sym (not_there c.args.map.now c.args.id c.args.number c.loop-z.cursor c.next.new.self c.loop-z.left c.next.result c.loop-z.invariant c.next.ensures.value c.in_default.is)
