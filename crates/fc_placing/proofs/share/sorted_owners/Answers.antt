use Rattle.std.proofs.Common.{rules, ◌≡◌, ◌∙◌, List, ap, subst}
use Rattle.std.specs.Prelude.{filter}
use Rattle.std.specs.List.Sorted.{IsPermutation}
use Rattle.std.proofs.lemmas.List.Sorted.{answers_always}
use Rattle.fc_alloc.specs.declared.owner.Owner.{Owner}
use Rattle.fc_alloc.specs.Owners.{is_held}
use Rattle.fc_alloc.proofs.OrderLemmas.{in_order, key}
use Rattle.fc_placing.proofs.share.sorted_owners.Goals as goal

pub returns : goal.returns
returns c =
    let sorted : List Owner = c.sort_unstable_by_key.new.self.items in
    let held = c.in_ok-held.ensures ∙ ap (filter (is_held c.args.dir)) c.list.ensures.same in
    record {
      same = subst (λ (os : List Owner). IsPermutation os sorted) held c.sort_unstable_by_key.ensures.permutation;
      sorted = in_order sorted (c.sort_unstable_by_key.ensures.sorted key (answers_always _ (λ a r. r ≡ key a.0.now) _ (λ f a r f' q. search rules)));
    }
