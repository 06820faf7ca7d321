use Rattle.std.proofs.Common.{rules, List, subst}
use Rattle.std.specs.Ordering.{is_lt}
use Rattle.std.specs.List.Sorted.{IsPermutation}
use Rattle.std.proofs.lemmas.List.Sorted.{answers_always, ranks_by}
use Rattle.fc_names.specs.Names.{Path, folded_path, key_cmp}
use Rattle.fc_image.proofs.TreeLemmas.{key_total}
use Rattle.fc_fit.proofs.paths.paths_of.Goals as goal

pub returns : goal.returns
returns c =
    λ layout listings sound held. record {
      all = subst (λ (ps : List Path). IsPermutation ps c.sort_unstable_by.new.self.items) (c.in_ok-paths.ensures layout listings sound held) c.sort_unstable_by.ensures.permutation;
      sorted = c.sort_unstable_by.ensures.sorted (λ a b. is_lt (key_cmp (folded_path a) (folded_path b))) (ranks_by key_total folded_path) (answers_always _ _ _ (λ f a r g h. search rules));
    }
