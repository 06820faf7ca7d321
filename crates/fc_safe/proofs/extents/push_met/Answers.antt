use Rattle.std.proofs.Common.{◌≡◌, ◌<◌, ◌+◌, ◌++◌, ◌∷◌, ◌∙◌, [], List, ap, sym, subst, take, get_or, length}
use Rattle.std.specs.Prelude.{All}
use Rattle.std.proofs.lemmas.List.{take_more}
use Rattle.std.proofs.lemmas.List.Elements.{All-get_or}
use Rattle.fc_objects.specs.Extents.{sectors_in}
use Rattle.fc_newmap.specs.Walk.{IsInZone}
use Rattle.fc_plan.specs.declared.plan.Part.{Part}
use Rattle.fc_plan.specs.Parts.{front_at}
use Rattle.fc_safe.proofs.ExtentLemmas.{none_taken, part_taken}
use Rattle.fc_safe.proofs.extents.push_met.Goals as goal

pub loop-part-init : goal.loop-part-init
loop-part-init c = none_taken (sectors_in c.args.place.now.items) c.args.wanted

pub push_part-requires-clause-part : goal.push_part-requires-clause-part
push_part-requires-clause-part c =
    let none : Part = record { zone = 0; start = 0; len = 0 } in
    All-get_or (λ (part : Part). IsInZone c.args.g.now (front_at part)) c.deref-part-items.result.now c.loop-part.part-index none c.loop-part-test.true
    (subst (λ (parts : List Part). All (λ (part : Part). IsInZone c.args.g.now (front_at part)) parts) (sym c.deref-part-items.ensures.value) c.requires.parts)

pub loop-part-preserved : goal.loop-part-preserved
loop-part-preserved c =
    let none : Part = record { zone = 0; start = 0; len = 0 } in
    let items : List Part = c.args.plan.now.parts.items in
    let i = c.loop-part.part-index in
    let more : take (i + 1) items ≡ take i items ++ get_or c.deref-part-items.result.now i none ∷ [] =
    take_more items i none (subst (λ (parts : List Part). i < length parts) c.deref-part-items.ensures.value c.loop-part-test.true)
    ∙ ap (λ (parts : List Part). take i items ++ get_or parts i none ∷ []) (sym c.deref-part-items.ensures.value) in
    part_taken c.args.g.now c.args.plan.now.id c.args.ahead c.is_met-met.result c.args.place.now.items c.loop-part.place.items c.push_part.new.place.items c.args.wanted c.loop-part.left c.in_ok-left.left
    (take i items) (take (i + 1) items) (get_or c.deref-part-items.result.now i none) c.loop-part.invariant c.is_met-met.ensures c.in_ok-left.ensures.sectors c.in_ok-left.ensures.left more
