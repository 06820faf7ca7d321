use Rattle.std.proofs.Common.{◌≡◌, ◌-◌, ◌∙◌, ap, ap₂, get_or, sym, subst, arith}
use Rattle.fc_dirs.specs.declared.Entry.{Entry}
use Rattle.fc_dirs.specs.Big.{IsBig, name_space}
use Rattle.fc_bigdir.specs.Fields.{dir_of, packed_size}
use Rattle.fc_bigdir.proofs.GrowLemmas.{big_left}
use Rattle.fc_bigdir.proofs.ChangeLemmas.{places_of}
use Rattle.fc_bigdir.proofs.KeptLemmas.{packed-without_entry}
use Rattle.fc_bigdir.proofs.big.BigDir.remove.Goals as goal

pub remove-requires : goal.remove-requires
remove-requires c =
    let s = c.self.inside in
    let same = places_of s.heap.items s.places.items s.entries.items c.self.invariant.big.names in
    let within = rw (← c.self.view_is) at c.requires in
    omega (arith, same, within, s.places.ok)

pub invariant_of-self : goal.invariant_of-self
invariant_of-self c =
    let s = c.self.inside in
    let d = dir_of s.size s.sequence s.parent s.name.items s.second_form s.reserved s.heap.items s.places.items s.entries.items in
    let left = big_left d c.args.at c.self.invariant.big (rw (← c.self.view_is) at c.requires) in
    let places = sym c.remove.ensures.items in
    let entries = sym c.remove-gone.ensures.items in
    let within = rw (← c.self.view_is) at c.requires in
    let gone : c.name_space.result ≡ name_space (get_or s.entries.items c.args.at c.remove-gone.result).name = c.name_space.ensures.space ∙ ap (λ (x : Entry). name_space x.name) c.remove-gone.ensures.value in
    record {
      big = subst IsBig (λ i. dir_of s.size s.sequence s.parent s.name.items s.second_form s.reserved s.heap.items (places i) (entries i)) left;
      packed_is = ap₂ (λ a b. a - b) c.self.invariant.packed_is gone ∙ packed-without_entry s.entries.items c.args.at c.remove-gone.result within ∙ ap packed_size (sym c.remove-gone.ensures.items);
    }
