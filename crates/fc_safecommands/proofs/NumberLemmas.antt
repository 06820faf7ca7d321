-- A number that no node has.
use Rattle.std.proofs.Common.{◌≡◌, ◌≤◌, ◌+◌, ℕ, Bool, true, false, List, refl, sym, ap, ◌∙◌, arith, nat_cmp, Option, Some, None}
use Rattle.std.specs.Prelude.{is_some, max}
use Rattle.std.specs.FinMap.{contains_key, contains_key-keys, get, keys, nat_cmp-IsAntisymmetric}
use Rattle.std.specs.List.{fold}
use Rattle.fc_laws.specs.nodes.Edits.{Nodes}
use Rattle.fc_tree.specs.declared.node.Node.{Node}
use Rattle.fc_safe.proofs.ListLemmas.{found_of, most_above}
use Rattle.std.specs.Ordering.{eq_by_cmp, is_eq}
use Rattle.std.specs.declared.cmp.Ordering.{Ordering}
use Rattle.std.specs.declared.cmp.Ordering.TheVariants.{Less, Equal, Greater}

tied : (a b : ℕ) → eq_by_cmp nat_cmp a b ≡ true → a ≡ b
tied a b e = nat_cmp-IsAntisymmetric a b (by (nat_cmp a b) refl)
  where
    by : (r : Ordering) → nat_cmp a b ≡ r → nat_cmp a b ≡ Equal
    by Equal is = is
    by Less is = absurd (let no : true ≡ false = sym e ∙ ap is_eq is in cc)
    by Greater is = absurd (let no : true ≡ false = sym e ∙ ap is_eq is in cc)

pub free_number : (nodes : Nodes) → (n : ℕ) × (get nodes n ≡ None)
free_number nodes = (fold (λ a k. max a k) 0 (keys nodes) + 1, by (get nodes (fold (λ a k. max a k) 0 (keys nodes) + 1)) refl)
  where
    by : (o : Option Node) → get nodes (fold (λ a k. max a k) 0 (keys nodes) + 1) ≡ o → o ≡ None
    by None e = refl
    by (Some node) e = absurd (
        let n = fold (λ (a : ℕ) (k : ℕ). max a k) 0 (keys nodes) + 1 in
        let r = found_of (eq_by_cmp nat_cmp n) (keys nodes) (sym (contains_key-keys nodes n) ∙ ap is_some e) in
        let most = most_above (λ (k : ℕ). k) 0 (keys nodes) r.0 r.1 in
        let same = tied n r.0 r.2 in
        omega (arith, most, same))
