use Rattle.std.proofs.Common.{sym, ap, ap₂, ◌∙◌, arith, subst}
use Rattle.fc_dirs.specs.Entries.{with_entry}
use Rattle.fc_bigdir.specs.Entered.{HasRoomFor, entered_heap, entered_places}
use Rattle.fc_bigdir.specs.Fields.{dir_of}
use Rattle.fc_bigdir.proofs.WrittenEntries.{places_as_many}
use Rattle.fc_bigdir.proofs.GrowLemmas.{big_entered}
use Rattle.fc_bigdir.proofs.KeptLemmas.{packed-with_entry}
use Rattle.fc_bigdir.proofs.big.BigDir.insert.Goals as goal

pub enter-requires-clause-many : goal.enter-requires-clause-many
enter-requires-clause-many c =
    let many = places_as_many _ _ _ c.self.invariant.big.names in
    omega (arith, many, c.reserve.ensures.len, c.reserve-2.ensures.len, c.self.inside.entries.ok, c.self.inside.places.ok)

pub invariant_of-self-2 : goal.invariant_of-self-2
invariant_of-self-2 c =
    let room = c.in-Some.room in
    let e = c.args.e in
    let heap0 = c.self.inside.heap.items in
    let done = c.if-not-enter.ensures in
    let same = c.reserve.ensures.items in
    let heap = done.heap ∙ ap (entered_heap room.is_loose heap0 e) same in
    let places = done.places ∙ ap₂ (λ p es. entered_places room.is_loose heap0 p e es) c.reserve-2.ensures.items same in
    let entries = done.entries ∙ ap (with_entry e) same in
    let found : HasRoomFor e (dir_of c.self.inside.size c.self.inside.sequence c.self.inside.parent c.self.inside.name.items c.self.inside.second_form c.self.inside.reserved heap0 c.self.inside.places.items c.self.inside.entries.items) room =
    subst (λ d. HasRoomFor e d room) (sym c.self.view_is) c.in-Some.ensures.room in
    let absent = rw (← c.self.view_is) at c.requires.absent in
    rw (heap, places, entries) record {
      big = big_entered _ e room.is_loose room.size c.self.invariant.big (record { name = c.in-Some.ensures.name; last = c.requires.last }) absent found.least found.size_is found.is_loose;
      packed_is = found.tight_is ∙ sym (packed-with_entry e c.self.inside.entries.items);
    }
