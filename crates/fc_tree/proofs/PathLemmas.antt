-- Names that lead from nodes to the root.
use Rattle.std.proofs.Common.{◌≡◌, ◌<◌, ℕ, List, [], ◌∷◌, ◌++◌, refl, sym, ap, ap₂, subst, ◌∙◌, arith, Some, None, Option, append_assoc, append-nil, map, reverse}
use Rattle.std.specs.Prelude.{slice_get}
use Rattle.std.specs.Borrow.{Bor}
use Rattle.std.proofs.lemmas.List.{map-append, reverse-append}
use Rattle.fc_names.specs.Names.{Path}
use Rattle.fc_tree.specs.declared.node.Node.{Node}
use Rattle.fc_tree.specs.Walking.{Leads}

pub some_same : (n m : Node) → (let o : Option Node = Some n in o) ≡ Some m → n ≡ m
some_same n m e = cc

-- the node of a number is one
pub same_node : (nodes : List Node) (at : ℕ) (n m : Node) → slice_get nodes at ≡ Some n → slice_get nodes at ≡ Some m → n ≡ m
same_node nodes at n m a b = some_same n m (sym a ∙ b)

pub leads_one : (nodes : List Node) (at : ℕ) (names other : Path) → Leads nodes at names → Leads nodes at other → names ≡ other
leads_one nodes at [] [] l k = refl
leads_one nodes at [] (x ∷ other) l k = absurd (let below = k.3 in omega (arith, l, below))
leads_one nodes at (x ∷ names) [] l k = absurd (let below = l.3 in omega (arith, k, below))
leads_one nodes at (x ∷ names) (y ∷ other) l k =
    let same : l.0 ≡ k.0 = same_node nodes at l.0 k.0 l.1 k.1 in
    ap₂ (λ (n : List ℕ) (rest : Path). n ∷ rest) (sym l.2 ∙ ap (λ (n : Node). n.entry.name) same ∙ k.2)
    (leads_one nodes l.0.holder names other l.4 (subst (λ (n : Node). Leads nodes n.holder other) (sym same) k.4))

-- ---- the walk from a node to the root

-- so far the names of all nodes but the rest
abbrev pub IsOnTheWay : List Node → ℕ → ℕ → Path → Type 0
IsOnTheWay nodes from at found = (rest : Path) × Leads nodes at rest × ((names : Path) → Leads nodes from names → names ≡ found ++ rest)

pub way_starts : (nodes : List Node) (at : ℕ) (names found : Path) → found ≡ [] → Leads nodes at names → IsOnTheWay nodes at at found
way_starts nodes at names found none l = (names, l, λ other k. leads_one nodes at other names k l ∙ ap (λ (f : Path). f ++ names) (sym none))

pub way_falls : (nodes : List Node) (from at : ℕ) (found : Path) (n : Node) → IsOnTheWay nodes from at found → 0 < at → slice_get nodes at ≡ Some n → n.holder < at
way_falls nodes from at found n ([], l, all) high e = absurd (omega (arith, l))
way_falls nodes from at found n (x ∷ rest, l, all) high e =
    let same : n ≡ l.0 = same_node nodes at n l.0 e l.1 in
    subst (λ (m : Node). m.holder < at) (sym same) l.3

pub way_on : (nodes : List Node) (from at : ℕ) (found found' : Path) (n : Node) → IsOnTheWay nodes from at found → 0 < at → slice_get nodes at ≡ Some n → found' ≡ found ++ n.entry.name ∷ []
    → IsOnTheWay nodes from n.holder found'
way_on nodes from at found found' n ([], l, all) high e grown = absurd (omega (arith, l))
way_on nodes from at found found' n (x ∷ rest, l, all) high e grown =
    let same : n ≡ l.0 = same_node nodes at n l.0 e l.1 in
    let name : n.entry.name ≡ x = ap (λ (m : Node). m.entry.name) same ∙ l.2 in (
      rest,
      subst (λ (m : Node). Leads nodes m.holder rest) (sym same) l.4,
      λ names k. all names k ∙ sym (append_assoc found (x ∷ []) rest) ∙ ap (λ (f : Path). f ++ rest) (ap (λ (y : List ℕ). found ++ y ∷ []) (sym name) ∙ sym grown),
    )

pub way_ends : (nodes : List Node) (from at : ℕ) (found : Path) → IsOnTheWay nodes from at found → at ≡ 0 → (names : Path) → Leads nodes from names → found ≡ names
way_ends nodes from at found ([], l, all) none names k = sym (all names k ∙ append-nil found)
way_ends nodes from at found (x ∷ rest, l, all) none names k = absurd (let below = l.3 in omega (arith, none, below))

-- no node is missing on the way
pub way_never : (nodes : List Node) (from at : ℕ) (found : Path) → IsOnTheWay nodes from at found → 0 < at → slice_get nodes at ≡ None → ⊥
way_never nodes from at found ([], l, all) high none = omega (arith, l)
way_never nodes from at found (x ∷ rest, l, all) high none = some_none l.0 (sym l.1 ∙ none)
  where
    some_none : (n : Node) → (let o : Option Node = Some n in o) ≡ None → ⊥
    some_none n e = cc

-- ---- the names from the root on

-- the last name goes from the names that are left to the path
pub popped : (path path' whole : Path) (xs ys : List (Bor (List ℕ))) (x : Bor (List ℕ)) → ys ≡ xs ++ x ∷ [] → path' ≡ path ++ x.now ∷ []
    → path ++ reverse (map (λ n. n.now) ys) ≡ whole → path' ++ reverse (map (λ n. n.now) xs) ≡ whole
popped path path' whole xs ys x e grown is =
    let now : Bor (List ℕ) → List ℕ = λ n. n.now in
    ap (λ (p : Path). p ++ reverse (map now xs)) grown ∙ append_assoc path (x.now ∷ []) (reverse (map now xs))
    ∙ ap (λ (r : Path). path ++ r) (sym (ap (λ l. reverse (map now l)) e ∙ ap reverse (map-append now xs (x ∷ [])) ∙ reverse-append (map now xs) (x.now ∷ [])))
    ∙ is
