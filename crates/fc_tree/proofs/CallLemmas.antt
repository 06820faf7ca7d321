-- Sums over the directories that a walk has read.
use Rattle.std.proofs.Common.{◌≡◌, ◌≤◌, ℕ, zero, suc, ◌+◌, List, [], ◌∷◌, ◌++◌, map, take, refl, sym, ap, subst, ◌∙◌, arith, Some, Option}
use Rattle.std.specs.Prelude.{slice_get, slice_set}
use Rattle.std.specs.List.{sum_by}
use Rattle.std.proofs.lemmas.List.Sums.{sum_by-cons}
use Rattle.fc_image.specs.Layout.{Layout}
use Rattle.fc_tree.specs.declared.node.Node.{Node}
use Rattle.fc_tree.specs.Calls.{all_directory_sectors, directory_sectors, entry_sectors}
use Rattle.fc_tree.specs.Nodes.{Numbers, nodes_of, numbered_from}
use Rattle.fc_tree.specs.Taken.{Marks}
use Rattle.fc_tree.specs.Walking.{IsDirectoryAt, IsVisited, new_node, with_body}
use Rattle.fc_image.specs.Walk.{Object}
use Rattle.fc_tree.proofs.PlaceInLists.{some_same}
use Rattle.fc_tree.proofs.SlotLemmas.{entries-nodes_of}

-- more nodes, no less
pub upto_grows : {X : Type 0} (w : X → ℕ) (xs : List X) (i j : ℕ) → i ≤ j → sum_by w (take i xs) ≤ sum_by w (take j xs)
upto_grows w [] zero j le = omega arith
upto_grows w [] (suc i) zero le = absurd (omega (arith, le))
upto_grows w [] (suc i) (suc j) le = omega arith
upto_grows w (x ∷ xs) zero j le = omega arith
upto_grows w (x ∷ xs) (suc i) zero le = absurd (omega (arith, le))
upto_grows w (x ∷ xs) (suc i) (suc j) le = let more = upto_grows w xs i j (omega (arith, le)) in omega (arith, more, sum_by-cons w x (take i xs), sum_by-cons w x (take j xs))

-- one node more
pub upto_more : {X : Type 0} (w : X → ℕ) (xs : List X) (at : ℕ) (x : X) → slice_get xs at ≡ Some x → sum_by w (take (suc at) xs) ≡ sum_by w (take at xs) + w x
upto_more w [] at x is = absurd (cc)
upto_more w (y ∷ xs) zero x is = let same : w y ≡ w x = ap w (some_same y x is) in omega (arith, same)
upto_more w (y ∷ xs) (suc at) x is = let more = upto_more w xs at x is in omega (arith, more, sum_by-cons w y (take at xs), sum_by-cons w y (take (suc at) xs))

-- one node is set, and others come after
pub upto_set : {X : Type 0} (w : X → ℕ) (was news : List X) (at : ℕ) (n m : X) → slice_get was at ≡ Some n → sum_by w (take (suc at) (slice_set (was ++ news) at m)) ≡ sum_by w (take at was) + w m
upto_set w [] news at n m is = absurd (cc)
upto_set w (x ∷ xs) news zero n m is = omega arith
upto_set w (x ∷ xs) news (suc at) n m is =
    let more = upto_set w xs news at n m is in
    omega (arith, more, sum_by-cons w x (take at xs), sum_by-cons w x (take (suc at) (slice_set (xs ++ news) at m)))

-- a directory was visited, and its sectors are counted
pub visited_upto : (layout : Layout) (told : Option (List ℕ)) (was nodes : List Node) (from at to : ℕ) (o : Object) (before : List ℕ) (marks : Marks) (old now start : ℕ)
    → IsVisited layout told was nodes at o before marks → IsDirectoryAt was at → from ≤ at → to ≡ at + 1
    → old ≤ start + sum_by (directory_sectors layout) (take from was)
    → ((n : Node) → slice_get was at ≡ Some n → now ≤ old + entry_sectors layout n.entry)
    → now ≤ start + sum_by (directory_sectors layout) (take to nodes)
visited_upto layout told was nodes from at to o before marks old now start v dir le to_is few read =
    let w = directory_sectors layout in
    let grows = upto_grows w was from at le in
    let here = read v.node v.node_is in
    let counts : entry_sectors layout v.node.entry ≡ w v.node = rw (dir v.node v.node_is) refl in
    let news = map (new_node at) v.children in
    let m = with_body v.node v.dir in
    let same : w v.node ≡ w m = refl in
    let set = upto_set w was news at v.node m v.node_is in
    let count : sum_by w (take (suc at) nodes) ≡ sum_by w (take (suc at) (slice_set (was ++ news) at m)) = ap (λ (ns : List Node). sum_by w (take (suc at) ns)) v.nodes_are in
    let up : now ≤ start + sum_by w (take (suc at) nodes) = omega (arith, few, grows, here, counts, same, set, count) in
    subst (λ (k : ℕ). now ≤ start + sum_by w (take k nodes)) (let e : suc at ≡ to = omega (arith, to_is) in e) up

-- the nodes of a tree without gaps
of_slots : (layout : Layout) (nodes : List Node) (n : ℕ) → sum_by (λ e. directory_sectors layout e.1) (numbered_from n (map Some nodes)) ≡ sum_by (directory_sectors layout) nodes
of_slots layout [] n = refl
of_slots layout (x ∷ xs) n =
    let w = directory_sectors layout in
    sum_by-cons (λ (e : ℕ × Node). w e.1) (n, x) (numbered_from (n + 1) (map Some xs)) ∙ ap (λ (k : ℕ). w x + k) (of_slots layout xs (n + 1)) ∙ sym (sum_by-cons w x xs)

pub of_tree : (layout : Layout) (nodes : List Node) (tree : Numbers) → tree.slots ≡ map Some nodes → all_directory_sectors layout (nodes_of tree) ≡ sum_by (directory_sectors layout) nodes
of_tree layout nodes tree slots =
    ap (sum_by (λ e. directory_sectors layout e.1)) (entries-nodes_of tree ∙ ap (numbered_from 0) slots) ∙ of_slots layout nodes 0
