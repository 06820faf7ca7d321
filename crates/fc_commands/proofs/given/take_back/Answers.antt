use Rattle.std.proofs.Common.{◌≡◌, ◌∙◌, ◌∷◌, List, false, get_or, sym, subst}
use Rattle.std.specs.Prelude.{Contains, IsPermutation}
use Rattle.fc_alloc.specs.declared.owner.Owner.{Owner}
use Rattle.fc_commands.proofs.TakenBackLemmas.{taken_out}
use Rattle.fc_commands.proofs.given.take_back.Goals as goal

pub returns-then-count-list : goal.returns-then-count-list
returns-then-count-list c = λ was more long is few.
    taken_out was more c.list-list.result.now c.remove.new.self c.args.count _ long (c.list-list.ensures.same ∙ is) few c.if-count-list.true
    (subst (λ (xs : List Owner). (o : Owner) → Contains xs o → o.node ≡ (get_or c.list-list.result.now c.args.count (record { id = 0; dir = 0; node = 0; file = false; low = 0; first = 0; sectors = 0 })).node → IsPermutation xs (o ∷ c.remove.new.self))
    (sym c.list-list.ensures.same) c.remove.ensures.found)
