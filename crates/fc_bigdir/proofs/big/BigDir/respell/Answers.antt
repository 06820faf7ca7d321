use Rattle.std.proofs.Common.{◌≡◌, ◌<◌, length, insert, remove, is_ok, true, sym, ap, ap₂, ◌∙◌, arith, subst}
use Rattle.fc_dirs.specs.Entries.{with_entry, without_entry}
use Rattle.fc_dirs.specs.Big.{BigDir, without_big_entry}
use Rattle.fc_bigdir.specs.Entered.{HasRoomFor, entered_heap, entered_places}
use Rattle.fc_bigdir.proofs.WrittenEntries.{places_as_many}
use Rattle.fc_bigdir.proofs.GrowLemmas.{big_entered, big_left, entered_is}
use Rattle.fc_bigdir.proofs.KeptLemmas.{packed-with_entry}
use Rattle.fc_bigdir.proofs.RenameLemmas.{put_back}
use Rattle.fc_bigdir.proofs.big.BigDir.respell.Goals as goal

pub remove-place-requires : goal.remove-place-requires
remove-place-requires c =
    let many = places_as_many _ _ _ c.self.invariant.big.names in
    omega (arith, many, c.self.inside.places.ok, rw (← c.self.view_is) at c.requires.present)

pub enter-requires-clause-many : goal.enter-requires-clause-many
enter-requires-clause-many c =
    let many = places_as_many _ _ _ c.self.invariant.big.names in
    omega (arith, many, c.self.inside.places.ok, c.self.inside.entries.ok, c.remove-old.ensures.len, c.remove-place.ensures.len)

pub invariant_of-self : goal.invariant_of-self
invariant_of-self c =
    let at = c.args.at in
    let es = c.self.inside.entries.items in
    let ps = c.self.inside.places.items in
    let present = rw (← c.self.view_is) at c.requires.present in
    let many = places_as_many _ _ _ c.self.invariant.big.names in
    let inside : at < length ps = omega (arith, many, present) in
    let kept = c.if-not-enter.ensures in
    let done : is_ok c.insert.result ≡ true = sym c.is_ok-done.ensures.value ∙ c.if-prove.false in
    let done2 : is_ok c.insert-then-not-enter.result ≡ true = sym c.is_ok-done-then-not-enter.ensures.value ∙ c.if-prove-2.false in
    let places : c.insert.new.self.items ≡ ps =
    rw done at c.insert.ensures.items ∙ ap (λ l. insert l at c.remove-place.result) (ap (λ v. v.items) kept.same_places ∙ c.remove-place.ensures.items)
    ∙ ap (insert (remove ps at) at) c.remove-place.ensures.value ∙ put_back ps at c.remove-place.result inside in
    let entries : c.insert-then-not-enter.new.self.items ≡ es =
    rw done2 at c.insert-then-not-enter.ensures.items ∙ ap (λ l. insert l at c.remove-old.result) (ap (λ v. v.items) kept.same_entries ∙ c.remove-old.ensures.items)
    ∙ ap (insert (remove es at) at) c.remove-old.ensures.value ∙ put_back es at c.remove-old.result present in
    rw (kept.same_heap, places, entries) c.self.invariant

pub invariant_of-self-2 : goal.invariant_of-self-2
invariant_of-self-2 c =
    let room = c.in-Some.room in
    let e = c.args.e in
    let at = c.args.at in
    let heap0 = c.self.inside.heap.items in
    let done = c.if-not-enter.ensures in
    let same = c.remove-old.ensures.items in
    let heap = done.heap ∙ ap (entered_heap room.is_loose heap0 e) same in
    let places = done.places ∙ ap₂ (λ p es. entered_places room.is_loose heap0 p e es) c.remove-place.ensures.items same in
    let entries = done.entries ∙ ap (with_entry e) same in
    let present = rw (← c.self.view_is) at c.requires.present in
    let found = subst (λ (d : BigDir). HasRoomFor e (without_big_entry at d) room) (sym c.self.view_is) c.in-Some.ensures.room in
    let absent = rw (← c.self.view_is) at c.requires.absent in
    rw (heap, places, entries)
    record {
      big = big_entered _ e room.is_loose room.size (big_left _ at c.self.invariant.big present) (record { name = c.in-Some.ensures.name; last = c.requires.last }) absent found.least found.size_is found.is_loose;
      packed_is = found.tight_is ∙ sym (packed-with_entry e (without_entry at c.self.inside.entries.items));
    }

pub returns-clause-ok : goal.returns-clause-ok
returns-clause-ok c =
    let room = c.in-Some.room in
    let e = c.args.e in
    let heap0 = c.self.inside.heap.items in
    let done = c.if-not-enter.ensures in
    let same = c.remove-old.ensures.items in
    let heap = done.heap ∙ ap (entered_heap room.is_loose heap0 e) same in
    let places = done.places ∙ ap₂ (λ p es. entered_places room.is_loose heap0 p e es) c.remove-place.ensures.items same in
    let entries = done.entries ∙ ap (with_entry e) same in
    let found = subst (λ (d : BigDir). HasRoomFor e (without_big_entry c.args.at d) room) (sym c.self.view_is) c.in-Some.ensures.room in
    rw (heap, places, entries, ← c.self.view_is) (entered_is _ e room.is_loose room.size found.size_is found.is_loose)
