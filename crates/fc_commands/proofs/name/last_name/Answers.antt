use Rattle.std.proofs.Common.{◌≡◌, ◌<◌, ℕ, List, [], ◌∷◌, length, ap, sym, subst, ◌∙◌}
use Rattle.std.specs.Prelude.{IfOk, Ok}
use Rattle.fc_names.specs.Names.{IsName, Path}
use Rattle.fc_model.specs.Tree.{last_name}
use Rattle.fc_commands.proofs.NameLemmas.{dollar, last_from, name_from, named_last}
use Rattle.fc_commands.proofs.name.last_name.Goals as goal

pub loop-name-init : goal.loop-name-init
loop-name-init c =
    let same = c.into_iter-name-iterator.ensures.into_iter_gives ∙ c.names-name-items.ensures.same in
    (ap (last_from (36 ∷ [])) same, subst (λ (p : Path). IsName (last_from (36 ∷ []) p)) (sym same) (name_from (36 ∷ []) c.args.path.now dollar c.names-name-items.ensures.names))

pub new-requires-clause-some : goal.new-requires-clause-some
new-requires-clause-some c = (subst (λ (p : Path). IsName (last_from c.loop-name.last.now p)) c.in-None.ensures.steps.0 c.loop-name.invariant.1).some

pub new-requires-clause-most : goal.new-requires-clause-most
new-requires-clause-most c = (subst (λ (p : Path). IsName (last_from c.loop-name.last.now p)) c.in-None.ensures.steps.0 c.loop-name.invariant.1).most

pub new-requires-clause-printed : goal.new-requires-clause-printed
new-requires-clause-printed c = λ k d low. ((subst (λ (p : Path). IsName (last_from c.loop-name.last.now p)) c.in-None.ensures.steps.0 c.loop-name.invariant.1).bytes k d low).0

pub returns : goal.returns
returns c = named_last c.new.result c.loop-name.last.now c.args.path.now (ap (last_from c.loop-name.last.now) (sym c.in-None.ensures.steps.0) ∙ c.loop-name.invariant.0) c.new.ensures
