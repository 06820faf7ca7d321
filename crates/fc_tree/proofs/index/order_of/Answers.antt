use Rattle.std.proofs.Common.{rules, ℕ, List, length, map, refl, subst, sym, ◌≡◌}
use Rattle.std.specs.List.{range_with_len}
use Rattle.std.specs.List.Sorted.{IsPermutation}
use Rattle.std.specs.Ordering.{is_lt}
use Rattle.std.proofs.lemmas.Fn.{answers_by}
use Rattle.std.proofs.lemmas.List.Sorted.{IsPermutation-map}
use Rattle.fc_tree.specs.Index.{key_cmp}
use Rattle.fc_tree.specs.Places.{AreSorted, key_in}
use Rattle.fc_tree.proofs.SortLemmas.{order_sorted, keys_numbers, numbers_rank, sorted_map}
use Rattle.fc_tree.proofs.index.order_of.Goals as goal

pub returns : goal.returns
returns c =
    let nodes = c.args.nodes.now in
    let order : List ℕ = c.sort_unstable_by.new.self.items in
    let first : c.in_ok-order.order.items ≡ range_with_len 0 (length nodes) = c.in_ok-order.ensures in
    let sorted : AreSorted nodes (map (key_in nodes) order) = record {
      places = subst (λ (l : List ℕ). IsPermutation (map (key_in nodes) l) (map (key_in nodes) order)) first (IsPermutation-map (key_in nodes) c.in_ok-order.order.items order c.sort_unstable_by.ensures.permutation);
      sorted = sorted_map nodes order (c.sort_unstable_by.ensures.sorted (λ a b. is_lt (key_cmp (key_in nodes a) (key_in nodes b))) (numbers_rank nodes) (answers_by _ _ (λ f. f.0.now ≡ nodes) (λ f a r f' h i. (search rules, search rules)) _ refl));
    } in
    order_sorted nodes (map (key_in nodes) order) order sorted (sym (keys_numbers nodes order))
