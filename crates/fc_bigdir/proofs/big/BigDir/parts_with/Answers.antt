use Rattle.std.proofs.Common.{rules, ◌+◌, sym, ap, ap₂, ◌∙◌, arith}
use Rattle.fc_dirs.specs.Big.{head_space_of}
use Rattle.fc_bigdir.specs.Fields.{dir_of}
use Rattle.fc_bigdir.proofs.KeptLemmas.{packed_small}
use Rattle.fc_bigdir.proofs.big.BigDir.parts_with.Goals as goal

pub overflow_add-result-3 : goal.overflow_add-result-3
overflow_add-result-3 c =
    let s = c.self.inside in
    let d = dir_of s.size s.sequence s.parent s.name.items s.second_form s.reserved s.heap.items s.places.items s.entries.items in
    omega (arith, c.self.invariant.packed_is, packed_small d c.self.invariant.big, c.name_space-space.ensures.small)

pub returns-clause-small : goal.returns-clause-small
returns-clause-small c =
    let s = c.self.inside in
    let d = dir_of s.size s.sequence s.parent s.name.items s.second_form s.reserved s.heap.items s.places.items s.entries.items in
    record {
      head = search rules;
      entries = search rules;
      loose = search rules;
      tight = omega (arith, c.self.invariant.packed_is, packed_small d c.self.invariant.big, c.name_space-space.ensures.small);
    }

pub returns-clause-parts : goal.returns-clause-parts
returns-clause-parts c =
    let space = c.name_space-space.ensures.space in
    rw (← c.self.view_is) record {
      head = c.head_space.ensures ∙ ap head_space_of (sym c.self.view_is);
      entries = omega (arith, c.len.ensures, c.self.inside.entries.ok);
      loose = ap₂ (λ a b. a + b) (omega (arith, c.len-2.ensures, c.self.inside.heap.ok)) space;
      tight = ap₂ (λ a b. a + b) c.self.invariant.packed_is space;
    }
