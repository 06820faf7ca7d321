use Rattle.std.proofs.Common.{◌<◌, List, sym, subst, ◌∙◌, arith}
use Rattle.std.specs.Prelude.{All}
use Rattle.std.proofs.lemmas.Option.{slice_get_within}
use Rattle.fc_oldmap.specs.declared.Hole.{Hole}
use Rattle.fc_oldmap.specs.Holes.{IsFirstFit}
use Rattle.fc_oldmap.proofs.FitLemmas.{first_fit-at, after_take-whole, after_take-front, no_fit, after_take-none}
use Rattle.fc_oldmap.proofs.SpaceLemmas.{seen_end}
use Rattle.fc_oldmap.proofs.holes.take_from.Goals as goal
use Rattle.fc_oldmap.proofs.holes.take_from.Goals.{In_ok-at, In_err-at}

-- the hole that was found is one of the map's
found : (c : In_ok-at) → IsFirstFit c.args.holes.now.items c.args.n c.in_ok-at.at c.in_ok-at.hole
found c =
    let Fit : List Hole → Type 0 = λ l. IsFirstFit l c.args.n c.in_ok-at.at c.in_ok-at.hole in
    subst Fit c.deref.ensures.0 c.in_ok-at.ensures.found

short : (c : In_err-at) → All (λ h. h.len < c.args.n) c.args.holes.now.items
short c =
    let Short : List Hole → Type 0 = λ l. All (λ h. h.len < c.args.n) l in
    subst Short c.deref.ensures.0 c.in_err-at.ensures.none

pub returns-in_err-at-clause-start : goal.returns-in_err-at-clause-start
returns-in_err-at-clause-start c = c.from_residual.ensures ∙ sym (no_fit c.args.holes.now.items c.args.n (short (goal.at.returns-in_err-at-clause-start c).In_err-at))

pub returns-in_err-at-clause-holes : goal.returns-in_err-at-clause-holes
returns-in_err-at-clause-holes c = sym (after_take-none c.args.holes.now.items c.args.n (short (goal.at.returns-in_err-at-clause-holes c).In_err-at))

pub remove-requires : goal.remove-requires
remove-requires c =
    let f = found (goal.at.remove-requires c).In_ok-at in
    (omega arith, slice_get_within c.args.holes.now.items c.in_ok-at.at c.in_ok-at.hole f.at)

pub set-requires : goal.set-requires
set-requires c =
    let f = found (goal.at.set-requires c).In_ok-at in
    slice_get_within c.args.holes.now.items c.in_ok-at.at c.in_ok-at.hole f.at

pub overflow_add-rest : goal.overflow_add-rest
overflow_add-rest c =
    let f = found (goal.at.overflow_add-rest c).In_ok-at in
    omega (arith, f.fits, seen_end c.args.holes.now.items c.in_ok-at.at c.in_ok-at.hole c.requires f.at)

pub returns-then-hole-n-clause-start : goal.returns-then-hole-n-clause-start
returns-then-hole-n-clause-start c =
    let f = found (goal.at.returns-then-hole-n-clause-start c).In_ok-at in
    sym (first_fit-at c.args.holes.now.items c.args.n c.in_ok-at.at c.in_ok-at.hole f)

pub returns-then-hole-n-clause-holes : goal.returns-then-hole-n-clause-holes
returns-then-hole-n-clause-holes c =
    let f = found (goal.at.returns-then-hole-n-clause-holes c).In_ok-at in
    c.remove.ensures.items ∙ sym (after_take-whole c.args.holes.now.items c.args.n c.in_ok-at.at c.in_ok-at.hole f c.if-hole-n.true)

pub returns-else-hole-n-clause-start : goal.returns-else-hole-n-clause-start
returns-else-hole-n-clause-start c =
    let f = found (goal.at.returns-else-hole-n-clause-start c).In_ok-at in
    sym (first_fit-at c.args.holes.now.items c.args.n c.in_ok-at.at c.in_ok-at.hole f)

pub returns-else-hole-n-clause-holes : goal.returns-else-hole-n-clause-holes
returns-else-hole-n-clause-holes c =
    let f = found (goal.at.returns-else-hole-n-clause-holes c).In_ok-at in
    c.set.ensures ∙ sym (after_take-front c.args.holes.now.items c.args.n c.in_ok-at.at c.in_ok-at.hole f c.if-hole-n.false)
