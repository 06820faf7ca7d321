-- Where paths lead among nodes whose names are apart in each directory, before and after an edit.
use Rattle.std.proofs.Common.{◌≡◌, ⊎_elim, ℕ, zero, suc, Bool, true, false, cond, not, List, [], ◌∷◌, ◌++◌, length, refl, sym, ap, subst, ◌∙◌, arith, Option, Some, None, nat_cmp, is_eq, eq-eqb, ne_eqb}
use Rattle.std.specs.Prelude.{Contains, ◌&&◌, ◌==◌, find}
use Rattle.std.specs.Option.{option_map, option_map_or, option_and_then}
use Rattle.std.specs.Cmp.Lexicographic.{slice_cmp}
use Rattle.std.specs.FinMap.{get, entries, get-entries, nat_cmp-IsAntisymmetric}
use Rattle.fc_names.specs.Names.{Path, folded, is_same_name}
use Rattle.fc_dirs.specs.declared.Entry.{Entry}
use Rattle.fc_image.proofs.PathsLemmas.{cut}
use Rattle.fc_tree.specs.declared.node.Node.{Node}
use Rattle.fc_tree.specs.Nodes.{child, number_of}
use Rattle.fc_tree.proofs.NumberLemmas.{number_from-push, own_name, three_hold}
use Rattle.fc_tree.proofs.MemberLemmas.{no_element}
use Rattle.fc_tree.proofs.TreeLemmas.{value_is}
use Rattle.fc_tree.proofs.PlaceLemmas.{Stands, child_stands, last_step}
use Rattle.fc_laws.specs.nodes.Edits.{Nodes}
use Rattle.fc_laws.proofs.lemmas.nodes.ShapeLemmas.{held_by, held_as}
use Rattle.fc_image.proofs.EntriesLemmas.{cases as contains_cases}

-- In no directory two nodes have names that fold to one.
abbrev pub AreApart : Nodes → Type 0
AreApart nodes = (m n h : ℕ) (d e : Entry) → held_as nodes m ≡ Some (h, d) → held_as nodes n ≡ Some (h, e) → (m ≡ 0 → ⊥) → (n ≡ 0 → ⊥)
    → folded d.name ≡ folded e.name → m ≡ n

pub stands_held : (nodes : Nodes) (dir : ℕ) (name : List ℕ) (n : ℕ) → (s : Stands nodes dir name n) → held_as nodes n ≡ Some (dir, s.node.entry)
stands_held nodes dir name n s = ap (option_map held_by) s.is ∙ ap (λ h. Some (h, s.node.entry)) s.holder

-- the name folds to a node's name
pub folds_same : (a b : List ℕ) → folded a ≡ folded b → is_same_name a b ≡ true
folds_same a b e = subst (λ (k : List ℕ). is_eq (slice_cmp nat_cmp (folded a) k) ≡ true) e (own_name a)

module _ {X : Type 0} (t : X → Bool) where
  pub not_missed : (xs : List X) (x : X) → Contains xs x → t x ≡ true → find t xs ≡ None → ⊥
  not_missed [] x at h none = no_element x at
  not_missed (y ∷ xs) x at h none = by (t y) refl none (not_missed xs x)
    where
      by : (b : Bool) → t y ≡ b → cond b (Some y) (find t xs) ≡ None → (Contains xs x → t x ≡ true → find t xs ≡ None → ⊥) → ⊥
      by true e f more = cc
      by false e f more =
          ⊎_elim (λ same. let two : true ≡ false = sym h ∙ sym (ap t same) ∙ e in cc) (λ later. more later h f) (contains_cases y x xs at)

-- a node is found in its directory
pub child_known : (nodes : Nodes) (dir : ℕ) (name : List ℕ) (n : ℕ) (e : Entry) → AreApart nodes → held_as nodes n ≡ Some (dir, e) → (n ≡ 0 → ⊥)
    → folded name ≡ folded e.name → child nodes dir name ≡ Some n
child_known nodes dir name n e apart is lower same = by (child nodes dir name) refl
  where
    t : ℕ × Node → Bool
    t x = (x.1.holder == dir) && not (x.0 == 0) && is_same_name name x.1.entry.name

    missed : (o : Option Node) → get nodes n ≡ o → option_map held_by o ≡ Some (dir, e) → child nodes dir name ≡ None → ⊥
    missed None g h none = cc
    missed (Some a) g h none =
        let pair = ap (λ (o : Option (ℕ × Entry)). option_map_or (λ y. y) o (dir, e)) h in
        let found = value_is nat_cmp n (entries nodes) a (sym (get-entries nodes n) ∙ g) in
        let key : n ≡ found.0.0 = nat_cmp-IsAntisymmetric n found.0.0 found.2 in
        let node : found.0.1 ≡ a = found.3 in
        let passes : t found.0 ≡ true =
        three_hold (found.0.1.holder == dir) (not (found.0.0 == 0)) (is_same_name name found.0.1.entry.name)
        (eq-eqb found.0.1.holder dir (ap (λ (x : Node). x.holder) node ∙ ap (λ (p : ℕ × Entry). p.0) pair))
        (ap not (ne_eqb found.0.0 0 (λ z. lower (key ∙ z))))
        (folds_same name found.0.1.entry.name (same ∙ sym (ap (λ (p : ℕ × Entry). folded p.1.name) pair) ∙ sym (ap (λ (x : Node). folded x.entry.name) node))) in
        not_missed t (entries nodes) found.0 found.1 passes (none_mapped (find t (entries nodes)) none)
      where
        none_mapped : (o : Option (ℕ × Node)) → option_map (λ x. x.0) o ≡ None → o ≡ None
        none_mapped None p = refl
        none_mapped (Some x) p = absurd (cc)

    by : (o : Option ℕ) → child nodes dir name ≡ o → o ≡ Some n
    by None none = absurd (missed (get nodes n) refl is none)
    by (Some m) found =
        let s = child_stands nodes dir name m found in
        ap (λ k. Some k) (apart m n dir s.node.entry e (stands_held nodes dir name m s) is s.lower lower (sym s.named ∙ same))

-- one name more leads to it
pub pushed : (nodes : Nodes) (path : Path) (name : List ℕ) (dir n : ℕ) (e : Entry) → AreApart nodes → number_of nodes path ≡ Some dir → held_as nodes n ≡ Some (dir, e)
    → (n ≡ 0 → ⊥) → folded name ≡ folded e.name → number_of nodes (path ++ name ∷ []) ≡ Some n
pushed nodes path name dir n e apart at is lower same =
    number_from-push nodes 0 path name ∙ ap (λ (o : Option ℕ). option_and_then (λ d. child nodes d name) o) at ∙ child_known nodes dir name n e apart is lower same

-- ---- from nodes to other nodes

-- the last step of a path in the first nodes, after which the path is as fine as before
pub record Step (nodes : Nodes) (front : Path) (last : List ℕ) (dir n : ℕ) : Type 0 where
  pub above : number_of nodes front ≡ Some dir
  pub stands : Stands nodes dir last n
  pub there : number_of nodes (front ++ last ∷ []) ≡ Some n

module _ (nodes nodes' : Nodes) (turn : Path → Path) (Fine : Path → Type 0) (start : number_of nodes' (turn []) ≡ Some 0)
    (shorter : (front : Path) (last : List ℕ) (dir n : ℕ) → Step nodes front last dir n → Fine (front ++ last ∷ []) → Fine front)
    (step : (front : Path) (last : List ℕ) (dir n : ℕ) → Step nodes front last dir n → Fine (front ++ last ∷ []) → number_of nodes' (turn front) ≡ Some dir
    → number_of nodes' (turn (front ++ last ∷ [])) ≡ Some n) where
  way_long : (long : ℕ) (path : Path) (n : ℕ) → length path ≡ long → number_of nodes path ≡ Some n → Fine path → number_of nodes' (turn path) ≡ Some n
  way_long long [] n e is fine = start ∙ is
  way_long zero (x ∷ path) n e is fine = absurd (omega arith)
  way_long (suc long) (x ∷ path) n e is fine =
      let c = cut x path in
      let short = c.shorter in
      let there = ap (number_of nodes) (sym c.is) ∙ is in
      let s = last_step nodes c.front c.last n there in
      let last : Step nodes c.front c.last s.dir n = record { above = s.above; stands = child_stands nodes s.dir c.last n s.step; there = there } in
      let fine' = subst Fine c.is fine in
      let before = way_long long c.front s.dir (omega (arith, e, short)) s.above (shorter c.front c.last s.dir n last fine') in
      ap (λ (p : Path). number_of nodes' (turn p)) c.is ∙ step c.front c.last s.dir n last fine' before

  -- A path that is fine leads, turned, to the same number.
  pub way : (path : Path) (n : ℕ) → number_of nodes path ≡ Some n → Fine path → number_of nodes' (turn path) ≡ Some n
  way path n = way_long (length path) path n refl
