use Rattle.std.proofs.Common.{◌≡◌, get_or, ◌∙◌, sym, arith}
use Rattle.std.proofs.lemmas.List.{get_or_default}
use Rattle.fc_dirs.proofs.SearchLemmas.{blank}
use Rattle.fc_bigdir.specs.Fields.{dir_of}
use Rattle.fc_bigdir.proofs.WrittenEntries.{places_as_many}
use Rattle.fc_bigdir.proofs.RenameLemmas.{big_replaced, spelled_name}
use Rattle.fc_bigdir.proofs.KeptLemmas.{packed-replaced}
use Rattle.fc_bigdir.proofs.big.BigDir.replace.Goals as goal

pub remove-place-requires : goal.remove-place-requires
remove-place-requires c =
    let many = places_as_many _ _ _ c.self.invariant.big.names in
    omega (arith, many, c.self.inside.places.ok, rw (← c.self.view_is) at c.requires.present)

pub place_entry-requires-clause-many : goal.place_entry-requires-clause-many
place_entry-requires-clause-many c =
    let many = places_as_many _ _ _ c.self.invariant.big.names in
    omega (arith, many, c.self.inside.places.ok, c.self.inside.entries.ok, c.remove.ensures.len, c.remove-place.ensures.len)

pub invariant_of-self : goal.invariant_of-self
invariant_of-self c =
    let e = c.args.e in
    let at = c.args.at in
    let present = rw (← c.self.view_is) at c.requires.present in
    let many = places_as_many _ _ _ c.self.invariant.big.names in
    let place : c.remove-place.result ≡ get_or c.self.inside.places.items at 0 = c.remove-place.ensures.value ∙ get_or_default c.self.inside.places.items at c.remove-place.result 0 (omega (arith, many, present)) in
    let s = c.self.inside in
    let d = dir_of s.size s.sequence s.parent s.name.items s.second_form s.reserved s.heap.items s.places.items s.entries.items in
    let spelled = rw (← c.self.view_is) at c.requires.spelled in
    rw (c.place_entry.ensures.places, c.place_entry.ensures.entries, c.remove-place.ensures.items, c.remove.ensures.items, place)
    record {
      big = big_replaced _ at e c.self.invariant.big present spelled (rw (← c.self.view_is) at c.requires.absent) c.requires.last;
      packed_is = c.self.invariant.packed_is ∙ sym (packed-replaced s.entries.items at e blank present (spelled_name d at e present spelled));
    }
