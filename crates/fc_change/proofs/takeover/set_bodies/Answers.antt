use Rattle.std.proofs.Common.{◌++◌, ◌∷◌, [], List, length, sym, ap, subst, ◌∙◌, append_assoc, arith}
use Rattle.std.specs.Prelude.{Contains, IsSome}
use Rattle.std.specs.FinMap.{get}
use Rattle.std.specs.Vec.Iter.{into_iter_items}
use Rattle.std.proofs.lemmas.List.Elements.{Contains-append_right}
use Rattle.fc_drafts.specs.Draft.{directory_in}
use Rattle.fc_laws.specs.nodes.Edits.{Nodes, with_body}
use Rattle.fc_tree.specs.Nodes.{body_in, nodes_of}
use Rattle.fc_tree.proofs.MemberLemmas.{contains_here}
use Rattle.fc_change.specs.declared.change.Says.{Says}
use Rattle.fc_change.proofs.TakingLemmas.{said_push, said_stays}
use Rattle.fc_change.proofs.takeover.set_bodies.Goals as goal

pub set_body-requires : goal.set_body-requires
set_body-requires c =
    let s = c.in-Some.said in
    let done = c.loop-said.yielded in
    let rest = into_iter_items c.next.new.self in
    let at : Contains c.args.says.items s =
    subst (λ (ss : List Says). Contains ss s) (ap (λ (ss : List Says). done ++ ss) (sym c.in-Some.ensures.steps.0) ∙ c.loop-said.invariant.0) (Contains-append_right done (s ∷ rest) s (contains_here s rest)) in
    subst (λ (nodes : Nodes). IsSome (get nodes s.node)) (sym c.loop-said.invariant.1) (said_stays done (nodes_of c.args.tree.now) s.node (c.requires s at))

pub loop-said-preserved : goal.loop-said-preserved
loop-said-preserved c =
    let s = c.in-Some.said in
    let done = c.loop-said.yielded in
    let steps = c.in-Some.ensures.steps in (
      append_assoc done (s ∷ []) (into_iter_items c.next.new.self) ∙ ap (λ (ss : List Says). done ++ ss) (sym steps.0) ∙ c.loop-said.invariant.0,
      c.set_body.ensures ∙ ap (with_body s.node (body_in (directory_in s.draft))) c.loop-said.invariant.1 ∙ sym (said_push done s (nodes_of c.args.tree.now)),
      let was = c.loop-said.invariant.2 in
          let gone = steps.1 in
          let short = ap length steps.0 in
          omega arith,
    )
