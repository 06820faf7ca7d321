use Rattle.std.proofs.Common.{arith, not, true, ◌≡◌, ◌++◌, ◌∷◌, [], ◌∙◌, ap, length, refl, map, ℕ, List}
use Rattle.std.specs.Result.{is_ok}
use Rattle.std.specs.Borrow.{Bor}
use Rattle.std.proofs.lemmas.List.{map-append}
use Rattle.std.proofs.lemmas.Option.{slice_get_past, slice_get_read}
use Rattle.fc_tree.proofs.PathLemmas.{way_starts, way_never, way_falls, way_on, way_ends}
use Rattle.fc_tree.proofs.paths.names_up.Goals as goal

-- the name behind a reference
abbrev now : Bor (List ℕ) → List ℕ
now name = name.now

pub loop-at-init : goal.loop-at-init
loop-at-init c = way_starts c.args.nodes.now c.args.at c.requires.0 (map now c.new-names.result.items) (ap (map now) c.new-names.ensures.items) c.requires.1

pub unreachable-requires : goal.unreachable-requires
unreachable-requires c =
    way_never c.args.nodes.now c.args.at c.loop-at.at (map now c.loop-at.names.items) c.loop-at.invariant (omega (arith, c.loop-at-test.true))
    (slice_get_past c.args.nodes.now c.loop-at.at c.in_default.ensures.lookup.3)

pub loop-at-smaller : goal.loop-at-smaller
loop-at-smaller c =
    let h = c.in-Some.ensures.lookup in
    way_falls c.args.nodes.now c.args.at c.loop-at.at (map now c.loop-at.names.items) c.in-Some.node.now c.loop-at.invariant (omega (arith, c.loop-at-test.true))
    (slice_get_read c.args.nodes.now (length c.args.nodes.now) c.loop-at.at c.in-Some.node.now refl h.3.0 h.1)

pub loop-at-preserved : goal.loop-at-preserved
loop-at-preserved c =
    let h = c.in-Some.ensures.lookup in
    let done : is_ok c.push.result ≡ true = c.is_err.ensures.negation ∙ ap not c.if-is_err.false in
    let pushed : map now c.push.new.self.items ≡ map now c.loop-at.names.items ++ c.in-Some.node.now.entry.name ∷ [] =
    ap (map now) (rw done at c.push.ensures.items) ∙ map-append now c.loop-at.names.items _ in
    way_on c.args.nodes.now c.args.at c.loop-at.at (map now c.loop-at.names.items) (map now c.push.new.self.items) c.in-Some.node.now c.loop-at.invariant (omega (arith, c.loop-at-test.true))
    (slice_get_read c.args.nodes.now (length c.args.nodes.now) c.loop-at.at c.in-Some.node.now refl h.3.0 h.1) pushed

pub returns : goal.returns
returns c = way_ends c.args.nodes.now c.args.at c.loop-at.at (map now c.loop-at.names.items) c.loop-at.invariant (omega (arith, c.loop-at-test.false))
