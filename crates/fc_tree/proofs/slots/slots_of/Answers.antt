use Rattle.std.proofs.Common.{rules, arith, length, vec_len, ◌≡◌, ◌++◌, ◌∷◌, [], List, Some, Option, map, refl, sym, ap, ◌∙◌}
use Rattle.std.specs.Prelude.{reverse}
use Rattle.std.proofs.lemmas.List.{append-nil, map-append, reverse-append}
use Rattle.fc_tree.specs.declared.node.Node.{Node}
use Rattle.fc_tree.proofs.slots.slots_of.Goals as goal

abbrev slots : List Node → List (Option Node)
slots nodes = map (λ (n : Node). Some n) nodes

join : (xs : List (Option Node)) (x : Option Node) (ys : List (Option Node)) → (xs ++ x ∷ []) ++ ys ≡ xs ++ x ∷ ys
join [] x ys = refl
join (z ∷ xs) x ys = ap (λ (l : List (Option Node)). z ∷ l) (join xs x ys)

-- the last node becomes the first slot of those that are done
moved : (nodes rest : List Node) (node : Node) (done : List (Option Node)) → nodes ≡ rest ++ node ∷ [] → slots nodes ++ reverse done ≡ slots rest ++ reverse (done ++ Some node ∷ [])
moved nodes rest node done is =
    ap (λ (ns : List Node). slots ns ++ reverse done) is
    ∙ ap (λ (l : List (Option Node)). l ++ reverse done) (map-append (λ (n : Node). Some n) rest (node ∷ []))
    ∙ join (slots rest) (Some node) (reverse done)
    ∙ sym (ap (λ (l : List (Option Node)). slots rest ++ l) (reverse-append done (Some node ∷ [])))

pub loop-node-init : goal.loop-node-init
loop-node-init c = sym (ap (λ (l : List (Option Node)). slots c.args.nodes.items ++ reverse l) c.in_ok-slots.ensures.items ∙ append-nil (slots c.args.nodes.items))

pub loop-node-preserved : goal.loop-node-preserved
loop-node-preserved c =
    let popped : c.loop-node.nodes.items ≡ c.pop.new.self.items ++ c.in-Some.node ∷ [] = rw c.in-Some.is at c.pop.ensures.items in
    c.loop-node.invariant
    ∙ moved c.loop-node.nodes.items c.pop.new.self.items c.in-Some.node c.loop-node.slots.items popped
    ∙ ap (λ (ns : List Node). slots ns ++ reverse (c.loop-node.slots.items ++ Some c.in-Some.node ∷ [])) (sym c.shrink.ensures.items)
    ∙ ap (λ (l : List (Option Node)). slots c.shrink.new.nodes.items ++ reverse l) (sym c.in_ok-push.ensures.items)

none_left : (nodes : List Node) → length nodes ≡ 0 → nodes ≡ []
none_left [] e = refl
none_left (n ∷ nodes) e = absurd (omega arith)

pub returns : goal.returns
returns c =
    let empty : vec_len c.loop-node.nodes ≡ 0 = c.in_default.ensures.cases.0 in
    let none : length c.loop-node.nodes.items ≡ 0 = search rules in
    c.reverse.ensures.items ∙ sym (c.loop-node.invariant ∙ ap (λ (ns : List Node). slots ns ++ reverse c.loop-node.slots.items) (none_left c.loop-node.nodes.items none))
