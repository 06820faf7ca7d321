-- What an edit of nodes leaves: names that are apart, and paths that lead to the same numbers.
use Rattle.std.proofs.Common.{◌≡◌, ℕ, List, [], ◌∷◌, ◌++◌, refl, ◌∙◌, Some}
use Rattle.fc_names.specs.Names.{Path, folded}
use Rattle.fc_dirs.specs.declared.Entry.{Entry}
use Rattle.fc_tree.specs.Nodes.{number_of}
use Rattle.fc_laws.specs.nodes.Edits.{Nodes}
use Rattle.fc_laws.proofs.lemmas.nodes.ShapeLemmas.{held_as}
use Rattle.fc_laws.proofs.lemmas.nodes.WaysLemmas.{AreApart, Step, stands_held, pushed, way}

-- the node is still held by that directory, by a name that folds to the same
abbrev pub StillHeld : Nodes → ℕ → ℕ → Entry → Type 0
StillHeld nodes' n h d = (e : Entry) × (held_as nodes' n ≡ Some (h, e)) × (folded d.name ≡ folded e.name)

-- Where each node on a path is still held, the path leads to the same number.
pub way_kept : (nodes nodes' : Nodes) (Fine : Path → Type 0) → AreApart nodes'
    → ((front : Path) (last : List ℕ) (dir n : ℕ) → Step nodes front last dir n → Fine (front ++ last ∷ []) → Fine front)
    → ((path : Path) (n h : ℕ) (d : Entry) → number_of nodes path ≡ Some n → Fine path → held_as nodes n ≡ Some (h, d) → StillHeld nodes' n h d)
    → (path : Path) (n : ℕ) → number_of nodes path ≡ Some n → Fine path → number_of nodes' path ≡ Some n
way_kept nodes nodes' Fine apart' shorter still path n is fine =
    way nodes nodes' (λ p. p) Fine refl shorter (λ front last dir m s f before.
    let is_m = stands_held nodes dir last m s.stands in
    let now = still (front ++ last ∷ []) m dir s.stands.node.entry s.there f is_m in
    pushed nodes' front last dir m now.0 apart' before now.1 s.stands.lower (s.stands.named ∙ now.2)) path n is fine
