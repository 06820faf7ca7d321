use Rattle.std.proofs.Common.{rules, ◌≡◌, ◌<◌, ◌+◌, ◌-◌, get_or, length, sym, ap, ap₂, ◌∙◌, arith}
use Rattle.std.proofs.lemmas.List.Edits.{length-remove}
use Rattle.fc_dirs.specs.declared.Entry.{Entry}
use Rattle.fc_dirs.specs.Big.{head_space_of, name_space}
use Rattle.fc_bigdir.specs.Fields.{dir_of}
use Rattle.fc_bigdir.proofs.KeptLemmas.{packed-without_entry, packed_small}
use Rattle.fc_bigdir.proofs.big.BigDir.parts_renamed.Goals as goal

pub overflow_add-result-2 : goal.overflow_add-result-2
overflow_add-result-2 c =
    let s = c.self.inside in
    let d = dir_of s.size s.sequence s.parent s.name.items s.second_form s.reserved s.heap.items s.places.items s.entries.items in
    omega (arith, c.self.invariant.packed_is, packed_small d c.self.invariant.big, c.name_space-space.ensures.small)

pub returns-clause-small : goal.returns-clause-small
returns-clause-small c =
    let s = c.self.inside in
    let d = dir_of s.size s.sequence s.parent s.name.items s.second_form s.reserved s.heap.items s.places.items s.entries.items in
    record {
      head = search rules;
      entries = search rules;
      loose = search rules;
      tight = omega (arith, c.self.invariant.packed_is, packed_small d c.self.invariant.big, c.name_space-space.ensures.small);
    }

pub returns-clause-parts : goal.returns-clause-parts
returns-clause-parts c =
    let at = c.args.at in
    let es = c.self.inside.entries.items in
    let d = c.index.result.now in
    let space = c.name_space-space.ensures.space in
    let within : at < length es = rw (← c.self.view_is) at c.requires in
    let gone : c.name_space-gone.result ≡ name_space (get_or es at d).name = c.name_space-gone.ensures.space ∙ ap (λ (x : Entry). name_space x.name) c.index.ensures in
    rw (← c.self.view_is) record {
      head = c.head_space.ensures ∙ ap head_space_of (sym c.self.view_is);
      entries = omega (arith, c.len.ensures, c.self.inside.entries.ok, length-remove es at within, within);
      loose = ap₂ (λ a b. a + b) (omega (arith, c.len-2.ensures, c.self.inside.heap.ok)) space;
      tight = ap₂ (λ a b. a + b) (ap₂ (λ a b. a - b) c.self.invariant.packed_is gone ∙ packed-without_entry es at d within) space;
    }
