use Rattle.std.proofs.Common.{◌≡◌, ◌<◌, ◌∙◌, sym, ap, subst, refl, ℕ, arith, length}
use Rattle.fc_oldlaws.specs.moves.Nodes.{remade}
use Rattle.fc_tree.specs.Nodes.{nodes_of}
use Rattle.fc_volume.proofs.NumbersLemmas.{first_all, first_none, remade_next}
use Rattle.fc_volume.proofs.old.compacting.nodes.remake_owners.Goals as goal

pub loop-k-init : goal.loop-k-init
loop-k-init c = (refl, λ disc is. first_none (remade disc (nodes_of c.args.tree.now)) c.args.owners.now)

pub remake-requires-clause-there : goal.remake-requires-clause-there
remake-requires-clause-there c =
    subst (λ (n : ℕ). c.loop-k.k < n) (ap (λ (os : _). length os) c.list-k-end.ensures.same ∙ sym c.loop-k.invariant.0) c.loop-k-test.true

pub loop-k-preserved : goal.loop-k-preserved
loop-k-preserved c = (
  c.remake.ensures.long ∙ c.loop-k.invariant.0,
  λ disc is.
      remade_next (remade disc (nodes_of c.args.tree.now)) c.loop-k.k c.args.owners.now c.loop-k.owners c.remake.new.owners
      (subst (λ (n : ℕ). c.loop-k.k < n) (ap (λ (os : _). length os) c.list-k-end.ensures.same) c.loop-k-test.true) (c.loop-k.invariant.1 disc is) (c.remake.ensures.made disc is),
)

pub returns : goal.returns
returns c = λ disc is.
    let low = c.loop-k-test.false in
    let high = c.loop-k.auto.k-end in
    let end : c.loop-k.k ≡ length c.list-k-end.result.now = omega (arith, low, high) in
    let all : c.loop-k.k ≡ length c.args.owners.now = end ∙ ap (λ (os : _). length os) c.list-k-end.ensures.same in
    c.loop-k.invariant.1 disc is ∙ ap (λ (k : ℕ). Rattle.fc_volume.specs.OldCompacting.first_changed (remade disc (nodes_of c.args.tree.now)) k c.args.owners.now) all
    ∙ first_all (remade disc (nodes_of c.args.tree.now)) c.args.owners.now
