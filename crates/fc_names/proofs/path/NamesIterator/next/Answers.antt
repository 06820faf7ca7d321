use Rattle.std.proofs.Common.{rules, ◌≡◌, ◌∙◌, ap, sym, ◌∷◌, take, drop, length, ◌+◌, ◌-◌, arith}
use borrow.Author.Tests.{tests}
use Rattle.std.proofs.lemmas.Iterator.{YieldsList-from_slice}
use Rattle.std.proofs.lemmas.Iterator.Search.{position_from_yields_List}
use Rattle.fc_names.specs.Packed.{is_end, names_in}
use Rattle.fc_names.proofs.PackedLemmas.{first_end, names_in-none, next_name, next_is_packed}
use Rattle.fc_names.proofs.path.NamesIterator.next.Goals as goal

pub returns-in_err-end-clause-steps : goal.returns-in_err-end-clause-steps
returns-in_err-end-clause-steps c =
    let found : c.position.result ≡ first_end c.self.inside.bytes.now =
    position_from_yields_List is_end _ _ c.position.result c.position.ensures.ran (YieldsList-from_slice c.self.inside.bytes.now (cc))
    (λ x b q k. search (rules, tests)) in
    let none = sym c.self.view_is ∙ names_in-none c.self.inside.bytes.now (sym found ∙ c.in_err-end.was) in
    rw c.from_residual.ensures (none, none)

pub invariant_of-self : goal.invariant_of-self
invariant_of-self c =
    let found : c.position.result ≡ first_end c.self.inside.bytes.now =
    position_from_yields_List is_end _ _ c.position.result c.position.ensures.ran (YieldsList-from_slice c.self.inside.bytes.now (cc))
    (λ x b q k. search (rules, tests)) in
    next_is_packed c.self.inside.bytes.now c.in_ok-end.end (sym found ∙ c.in_ok-end.was) c.self.invariant

-- the first name, and those that are left
first_name : (c : goal.After-self-2-1) → c.args.self.now ≡ take c.in_ok-end.end c.self.inside.bytes.now ∷ names_in (take (length c.self.inside.bytes.now - (c.in_ok-end.end + 1)) (drop (c.in_ok-end.end + 1) c.self.inside.bytes.now))
first_name c =
    let found : c.position.result ≡ first_end c.self.inside.bytes.now =
    position_from_yields_List is_end _ _ c.position.result c.position.ensures.ran (YieldsList-from_slice c.self.inside.bytes.now (cc))
    (λ x b q k. search (rules, tests)) in
    sym c.self.view_is ∙ next_name c.self.inside.bytes.now c.in_ok-end.end (sym found ∙ c.in_ok-end.was)

pub returns-clause-steps : goal.returns-clause-steps
returns-clause-steps c = first_name c

pub returns-clause-goes : goal.returns-clause-goes
returns-clause-goes c = record { on = λ _. (tt, tt, omega (arith, ap length (first_name c))); keeps = tt; rests = λ _. tt }
