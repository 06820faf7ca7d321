use Rattle.std.proofs.Common.{◌≡◌, ◌<◌, ◌++◌, ◌∷◌, [], List, ℕ, max, nat_le, None, Some, Option, ap, arith, get_or, refl, sym, take, ◌∙◌}
use Rattle.std.proofs.lemmas.List.{take_more_set}
use Rattle.std.proofs.lemmas.List.Elements.{All-contains}
use Rattle.std.proofs.lemmas.List.Sorted.{IsPermutation-refl}
use Rattle.std.specs.List.{find}
use Rattle.std.specs.Option.{option_map}
use Rattle.fc_newmap.specs.Map.{ZoneRun, bits_in}
use Rattle.fc_image.specs.effects.Placed.{HasRunLength, front_of}
use Rattle.fc_plan.specs.Plan.{IsLast}
use Rattle.fc_plan.proofs.FirstFit.{fit_one, fit_some, gathered_last, gathered_none}
use Rattle.fc_plan.proofs.Taken.{fit, long_after, one_set, read_at}
use Rattle.fc_plan.proofs.fitting.first_parts.Goals as goal

pub front_of-requires-clause-has : goal.front_of-requires-clause-has
front_of-requires-clause-has c = (fit c.args.bits c.in-Some.hole c.args.holes.items (rw c.deref.ensures.value at c.in-Some.ensures)).1

pub front_of-requires-clause-long : goal.front_of-requires-clause-long
front_of-requires-clause-long c =
    (All-contains (HasRunLength c.args.g.now) c.args.holes.items c.in-Some.hole c.requires.long (fit c.args.bits c.in-Some.hole c.args.holes.items (rw c.deref.ensures.value at c.in-Some.ensures)).0).0

pub returns-in-Some : goal.returns-in-Some
returns-in-Some c =
    let g = c.args.g.now in
    let holes : List ZoneRun = c.args.holes.items in
    let hole : ZoneRun = c.in-Some.hole in
    let found = rw c.deref.ensures.value at c.in-Some.ensures in
    let there = fit c.args.bits hole holes found in
    let least : max c.args.bits g.min ≡ c.args.bits = (let l = c.requires.least in omega arith) in
    ap (λ (ps : List ZoneRun). let o : Option (List ZoneRun) = Some ps in o) (c.truncate.ensures.items ∙ one_set holes hole c.front_of.result there.0 ∙ ap (λ (p : ZoneRun). p ∷ []) (c.front_of.ensures.exact g refl ∙ ap (λ (n : ℕ). front_of g n hole) least))
    ∙ sym (fit_one g holes c.args.bits hole (sym found))

pub returns-in_err-last : goal.returns-in_err-last
returns-in_err-last c =
    let g = c.args.g.now in
    let holes : List ZoneRun = c.args.holes.items in
    let none : find (λ (hole : ZoneRun). nat_le c.args.bits hole.1.len) holes ≡ None = sym (rw c.deref.ensures.value at c.first_fit.ensures) ∙ c.in_default.is in
    let few : bits_in holes < c.args.bits = rw c.deref-2.ensures.value at c.in_err-last.ensures.none in
    ap (option_map (λ parts. parts.items)) c.from_residual.ensures ∙ sym (fit_some g holes c.args.bits none ∙ gathered_none g holes c.args.bits few)

pub returns : goal.returns
returns c =
    let g = c.args.g.now in
    let holes : List ZoneRun = c.args.holes.items in
    let place : ℕ = c.in_ok-last.last in
    let hole : ZoneRun = c.index.result.now in
    let none : find (λ (hole : ZoneRun). nat_le c.args.bits hole.1.len) holes ≡ None = sym (rw c.deref.ensures.value at c.first_fit.ensures) ∙ c.in_default.is in
    let last : IsLast holes c.args.bits place c.in_ok-last.missing = rw c.deref-2.ensures.value at c.in_ok-last.ensures.last in
    let part : c.front_of-2.result ≡ front_of g (max c.in_ok-last.missing g.min) (get_or holes place hole) =
    c.front_of-2.ensures.exact g refl ∙ ap (front_of g (max c.in_ok-last.missing g.min)) (read_at holes place hole hole last.within c.index.ensures) in
    ap (λ (ps : List ZoneRun). let o : Option (List ZoneRun) = Some ps in o)
    (c.truncate-2.ensures.items ∙ take_more_set holes place c.front_of-2.result last.within ∙ ap (λ (p : ZoneRun). take place holes ++ p ∷ []) part)
    ∙ sym (fit_some g holes c.args.bits none ∙ gathered_last g holes c.args.bits place c.in_ok-last.missing hole last)

pub front_of-requires-2-clause-long : goal.front_of-requires-2-clause-long
front_of-requires-2-clause-long c =
    let holes : List ZoneRun = c.args.holes.items in
    let last : IsLast holes c.args.bits c.in_ok-last.last c.in_ok-last.missing = rw c.deref-2.ensures.value at c.in_ok-last.ensures.last in
    (long_after c.args.g.now holes holes c.in_ok-last.last c.index.result.now (IsPermutation-refl holes) c.requires.long last.within c.index.ensures).0
