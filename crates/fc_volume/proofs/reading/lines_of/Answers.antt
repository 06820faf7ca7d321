use Rattle.std.proofs.Common.{rules, List, subst}
use Rattle.std.specs.Ordering.{is_lt}
use Rattle.std.specs.Cmp.{nat_cmp_total}
use Rattle.std.specs.Cmp.Lexicographic.{lists_total}
use Rattle.std.specs.List.Sorted.{IsPermutation}
use Rattle.std.proofs.lemmas.Cmp.{on_total}
use Rattle.std.proofs.lemmas.List.Sorted.{answers_always, ranks_by}
use Rattle.fc_names.specs.Names.{folded, name_cmp}
use Rattle.fc_volume.specs.declared.lines.Line.{Line}
use Rattle.fc_volume.proofs.reading.lines_of.Goals as goal

pub returns : goal.returns
returns c = record {
  all = subst (λ (ls : List Line). IsPermutation ls c.sort_unstable_by.new.self.items) c.in_ok-lines.ensures c.sort_unstable_by.ensures.permutation;
  sorted = c.sort_unstable_by.ensures.sorted (λ a b. is_lt (name_cmp a.name b.name))
      (ranks_by (on_total folded (lists_total nat_cmp_total)) (λ (l : Line). l.name)) (answers_always _ _ _ (λ f a r g h. search rules));
}
