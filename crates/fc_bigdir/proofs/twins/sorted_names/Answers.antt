use Rattle.std.proofs.Common.{rules, map, subst}
use Rattle.std.specs.Ordering.{is_lt}
use Rattle.std.specs.List.Sorted.{IsPermutation}
use Rattle.std.proofs.lemmas.List.Sorted.{answers_always, ranks_by, All-permutation, IsPermutation-map}
use Rattle.fc_bigdir.specs.declared.twins.Numbered.{Numbered}
use Rattle.fc_bigdir.specs.Twins.{IsLettered, cmp_held, shown}
use Rattle.fc_bigdir.proofs.OrderLemmas.{held_total, sorted_map}
use Rattle.fc_bigdir.proofs.twins.sorted_names.Goals as goal

pub returns : goal.returns
returns c =
    let names = c.sort_unstable_by.new.self.items in
    let permuted = c.sort_unstable_by.ensures.permutation in
    let lettered = All-permutation IsLettered c.in_ok-names.names.items names permuted c.in_ok-names.ensures.letters in
    record {
      lettered = lettered;
      places = subst (λ l. IsPermutation l (map shown names)) c.in_ok-names.ensures.names (IsPermutation-map shown c.in_ok-names.names.items names permuted);
      sorted = sorted_map names lettered
          (c.sort_unstable_by.ensures.sorted (λ a b. is_lt (cmp_held a b)) (ranks_by held_total (λ (n : Numbered). n)) (answers_always _ _ _ (λ f a r g h. search rules)));
    }
