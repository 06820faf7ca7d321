use Rattle.std.proofs.Common.{rules, refl, subst, ◌<◌, ◌≡◌, ◌%◌, ℕ, List, get_or, ◌∙◌, arith}
use Rattle.std.proofs.lemmas.List.{take_more_set}
use Rattle.std.proofs.lemmas.List.Elements.{All-contains}
use Rattle.std.proofs.lemmas.List.Sorted.{answers_always, All-permutation, sum_by-IsPermutation}
use Rattle.std.specs.List.Sorted.{IsPermutation}
use Rattle.fc_newmap.specs.Map.{ZoneRun, bits_in}
use Rattle.fc_image.specs.effects.Placed.{HasRunLength, IsFront}
use Rattle.fc_plan.specs.Plan.{IsLast}
use Rattle.fc_plan.proofs.Fewest.{IsLongestFirst, longest_first}
use Rattle.fc_plan.proofs.Taken.{fit, one_set, IsChoice-one, IsChoice-longest, missing_multiple, long_after, read_at}
use Rattle.fc_plan.proofs.planning.parts_of.Goals as goal

pub front_of-requires-clause-has : goal.front_of-requires-clause-has
front_of-requires-clause-has c = (fit c.args.bits c.in-Some.hole c.args.holes.items (rw c.deref.ensures.value at c.in-Some.ensures)).1

pub front_of-requires-clause-long : goal.front_of-requires-clause-long
front_of-requires-clause-long c =
    (All-contains (HasRunLength c.args.g.now) c.args.holes.items c.in-Some.hole c.requires.long (fit c.args.bits c.in-Some.hole c.args.holes.items (rw c.deref.ensures.value at c.in-Some.ensures)).0).0

pub returns-in-Some : goal.returns-in-Some
returns-in-Some c =
    let hole : ZoneRun = c.in-Some.hole in
    let h = fit c.args.bits hole c.args.holes.items (rw c.deref.ensures.value at c.in-Some.ensures) in
    let of = c.front_of.ensures in
    let long = All-contains (HasRunLength c.args.g.now) c.args.holes.items hole c.requires.long h.0 in
    rw (c.truncate.ensures.items ∙ one_set c.args.holes.items hole c.front_of.result h.0)
    (IsChoice-one c.args.g.now c.args.bits c.args.holes.items hole c.front_of.result h.0 h.1 c.requires.some c.requires.long
    (of.front c.args.g.now refl) of.enough of.few_more (of.long, of.whole c.args.g.now.q long.1 c.requires.whole c.requires.min))

pub returns-in_err-last : goal.returns-in_err-last
returns-in_err-last c =
    let s : List ZoneRun = c.sort_unstable_by_key.new.self.items in
    let few : bits_in s < c.args.bits = rw c.deref-2.ensures.value at c.in_err-last.ensures.none in
    let same : bits_in s ≡ bits_in c.args.holes.items = sum_by-IsPermutation (λ p. p.1.len) c.args.holes.items s c.sort_unstable_by_key.ensures.permutation in
    let less : bits_in c.args.holes.items < c.args.bits = omega arith in
    rw c.from_residual.ensures less

pub front_of-requires-2-clause-long : goal.front_of-requires-2-clause-long
front_of-requires-2-clause-long c =
    let s : List ZoneRun = c.sort_unstable_by_key.new.self.items in
    let last : IsLast s c.args.bits c.in_ok-last.last c.in_ok-last.missing = rw c.deref-2.ensures.value at c.in_ok-last.ensures.last in
    (long_after c.args.g.now c.args.holes.items s c.in_ok-last.last c.index.result.now c.sort_unstable_by_key.ensures.permutation c.requires.long last.within c.index.ensures).0

pub returns : goal.returns
returns c =
    let g = c.args.g.now in
    let holes : List ZoneRun = c.args.holes.items in
    let s : List ZoneRun = c.sort_unstable_by_key.new.self.items in
    let place : ℕ = c.in_ok-last.last in
    let part : ZoneRun = c.front_of-2.result in
    let moved : IsPermutation holes s = c.sort_unstable_by_key.ensures.permutation in
    let last : IsLast s c.args.bits place c.in_ok-last.missing = rw c.deref-2.ensures.value at c.in_ok-last.ensures.last in
    let sorted : IsLongestFirst s =
    longest_first s
    (c.sort_unstable_by_key.ensures.sorted (λ p. record { 0 = p.1.len }) (answers_always _ (λ a r. r ≡ record { 0 = a.0.now.1.len }) _ (λ f a r f' q. search rules))) in
    let hole : ZoneRun = c.index.result.now in
    let long : HasRunLength g hole = long_after g holes s place hole moved c.requires.long last.within c.index.ensures in
    let front : IsFront g (get_or s place part) part =
    subst (λ (h : ZoneRun). IsFront g h part) (read_at s place hole part last.within c.index.ensures) (c.front_of-2.ensures.front g refl) in
    let missing : c.in_ok-last.missing % g.q ≡ 0 = missing_multiple g c.args.bits place c.in_ok-last.missing s last (All-permutation (HasRunLength g) holes s moved c.requires.long) c.requires.whole in
    rw (c.truncate-2.ensures.items ∙ take_more_set s place part last.within)
    (IsChoice-longest g c.args.bits place c.in_ok-last.missing holes s part moved last front c.front_of-2.ensures.enough c.front_of-2.ensures.few_more sorted c.requires.long
    (c.front_of-2.ensures.long, c.front_of-2.ensures.whole g.q long.1 missing c.requires.min))
