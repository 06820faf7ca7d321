use Rattle.std.proofs.Common.{◌≡◌, ◌∙◌, List, ap, map, subst, sym}
use Rattle.std.specs.Prelude.{Contains}
use Rattle.std.proofs.lemmas.Result.{IfOk-weaker}
use Rattle.fc_alloc.specs.declared.owner.Owner.{Owner}
use Rattle.fc_safe.specs.Staying.{last_end}
use Rattle.fc_safe.proofs.StayingLemmas.{found_stays, unshared_ends}
use Rattle.fc_safe.proofs.staying.moved_ends.Goals as goal

pub ends_among-requires-else-are_shared-clause-sized : goal.ends_among-requires-else-are_shared-clause-sized
ends_among-requires-else-are_shared-clause-sized c = λ o at.
    c.requires.sized o (found_stays c.args.owners.now c.args.moving.now.changed.items c.args.moving.now.leaving.items c.list.ensures.nodes o (subst (λ (os : List Owner). Contains os o) c.requires.found at)).0

pub returns-else-are_shared : goal.returns-else-are_shared
returns-else-are_shared c =
    let g = c.args.g.now in
    let leaving = c.args.moving.now.leaving.items in
    let longer = c.args.moving.now.longer in
    let ids = c.args.ids.now in
    IfOk-weaker c.ends_among-else-are_shared.result (λ ends. ends.items ≡ map (last_end g leaving longer c.args.found.now) ids) (λ ends. ends.items ≡ map (last_end g leaving longer c.args.owners.now) ids)
    (λ ends is.
    is ∙ ap (λ (os : List Owner). map (last_end g leaving longer os) ids) c.requires.found
    ∙ unshared_ends c.args.owners.now c.args.moving.now.changed.items leaving c.list.ensures.nodes g longer ids (λ id h. sym (c.requires.ids id) ∙ h) (sym c.are_shared.ensures ∙ c.if-are_shared.false))
    c.ends_among-else-are_shared.ensures
