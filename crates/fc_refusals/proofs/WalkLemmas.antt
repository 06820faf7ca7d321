-- Walks over the names of a path.
use Rattle.std.proofs.Common.{◌≡◌, ℕ, ◌-◌, suc, Bool, true, List, [], ◌∷◌, length, take, refl, sym, ap, ap₂, ◌∙◌, arith, Option, Some, None, nat_cmp, if◌then◌else◌}
use Rattle.std.specs.Option.{option_map_or}
use Rattle.std.specs.FinMap.{FinMap}
use Rattle.fc_names.specs.Names.{Path}
use Rattle.fc_model.specs.Tree.{holder, last_name}
use Rattle.fc_tree.specs.declared.node.Node.{Node}
use Rattle.fc_tree.specs.declared.node.Found.TheVariants as founds
use Rattle.fc_tree.specs.Nodes.{child, found_from, is_directory_node}
use Rattle.fc_refusals.specs.Places.{own_name}

-- the last of the names that are left, or else the last so far
abbrev pub last_from : Option (List ℕ) → Path → Option (List ℕ)
last_from last [] = last
last_from last (name ∷ names) = last_from (Some name) names

pub last_is : (path : Path) → last_from None path ≡ own_name path
last_is [] = refl
last_is (x ∷ path) = go x path
  where
    go : (x : List ℕ) (path : Path) → last_from (Some x) path ≡ Some (last_name (x ∷ path))
    go x [] = refl
    go x (y ∷ path) = go y path

pub holder_more : (x y : List ℕ) (path : Path) → holder (x ∷ y ∷ path) ≡ x ∷ holder (y ∷ path)
holder_more x y path =
    ap (λ (n : ℕ). take n (x ∷ y ∷ path)) (let e : length (x ∷ y ∷ path) - 1 ≡ suc (length (y ∷ path) - 1) = omega arith in e)

-- one name on, if another follows
pub stepped : (nodes : FinMap nat_cmp Node) (at next : ℕ) (name second : List ℕ) (names rest : Path) → names ≡ second ∷ rest → true ≡ is_directory_node nodes at → Some next ≡ child nodes at name
    → found_from nodes at (holder (name ∷ names)) ≡ found_from nodes next (holder (second ∷ rest))
stepped nodes at next name second names rest more dir there =
    ap (λ (ns : Path). found_from nodes at (holder (name ∷ ns))) more
    ∙ ap (found_from nodes at) (holder_more name second rest)
    ∙ ap₂ (λ (b : Bool) (m : Option ℕ). if b then option_map_or (λ (n : ℕ). found_from nodes n (holder (second ∷ rest))) m founds.Absent else founds.NotDirectory) (sym dir) (sym there)
