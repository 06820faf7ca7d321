-- Bytes that are written into the sectors of an object of a disc with an old map, and bytes that stay.
use Rattle.std.proofs.Common.{◌≡◌, ◌<◌, ◌≤◌, inl, inr, ⊎_elim, ℕ, ◌+◌, ◌*◌, true, List, [], get_or, length, take, refl, sym, ap, subst, ◌∙◌, arith}
use Rattle.std.specs.Int.{div_ceil}
use Rattle.std.specs.List.{flat_map, range_with_len}
use Rattle.std.proofs.lemmas.List.FromFn.{get_or-range_with_len, length-range_with_len}
use Rattle.fc_device.specs.Sectors.{sector_at}
use Rattle.fc_oldmap.specs.OldMap.{OldMapContent, IsOldMap}
use Rattle.fc_image.specs.Layout.{Layout, bytes_in, dir_form, is_among, is_apart, map_place, sector_bytes}
use Rattle.fc_image.specs.Walk.{Object, object_bytes, object_size}
use Rattle.fc_image.specs.Edits.{IsAt}
use Rattle.fc_image.specs.Stays.{HasSectorsOf}
use Rattle.fc_image.proofs.FreeLemmas.{flat_same, object_same}
use Rattle.fc_image.proofs.HolesLemmas.{apart_at}
use Rattle.fc_image.specs.effects.Steady.{AreWritten}
use Rattle.fc_objects.specs.Bytes.{first_bytes}
use Rattle.fc_objects.specs.Written.{AreApart, IsPartWritten}
use Rattle.fc_changes.proofs.BasicLemmas.{clash}
use Rattle.fc_laws.proofs.lemmas.takeover.WriteLemmas.{among_at, room_for}
use Rattle.fc_changes.specs.old.Owed.{IsWritten}
use Rattle.fc_changes.proofs.lemmas.old.PlaceLemmas.{row_or_none}
use Rattle.fc_laws.specs.old.takeover.Writes.{IsObjectStep, IsObjectWritten, IsUnwritten, WrittenBytesLaw}
use Rattle.std.proofs.lemmas.Bool.{false_from_ne_true as unless}

-- ---- writes

-- one of the sectors that a writer has written
written_in : (sectors : List ℕ) (i s : ℕ) → i < length sectors → get_or sectors i 0 ≡ s → is_among sectors s ≡ true
written_in sectors i s low is = subst (λ (t : ℕ). is_among sectors t ≡ true) is (among_at sectors i low)

module _ (space : OldMapContent) where
  abbrev size : ℕ
  size = sector_bytes (Layout.Old space)

  abbrev place : List ℕ
  place = map_place (Layout.Old space)

  part_written : (sectors bytes image image' : List ℕ) → IsPartWritten size sectors bytes image image' → IsWritten space sectors image image'
  part_written sectors bytes image image' p = record {
    length_stays = p.length_stays;
    writes = λ s other map. elim (p.each s) [
      | inl same ↦ same
      | inr at ↦ absurd (clash (is_among sectors s) (written_in sectors at.0 s at.1 at.2) other)
    ];
  }

  map_written : (bytes image image' : List ℕ) → IsPartWritten size place bytes image image' → IsWritten space [] image image'
  map_written bytes image image' p = record {
    length_stays = p.length_stays;
    writes = λ s other map. elim (p.each s) [
      | inl same ↦ same
      | inr at ↦ absurd (clash (is_among place s) (written_in place at.0 s at.1 at.2) map)
    ];
  }

  object_step : (sectors bytes image image' : List ℕ) → is_apart sectors place ≡ true → IsPartWritten size sectors bytes image image' → IsObjectStep space sectors image image'
  object_step sectors bytes image image' apart p = record {
    written = part_written sectors bytes image image' p;
    map_stays = λ s h. elim (p.each s) [
      | inl same ↦ same
      | inr at ↦ absurd (clash (is_among place s) h (apart_at sectors place s apart (written_in sectors at.0 s at.1 at.2)))
    ];
  }

  pub written_within : (xs ys image image' : List ℕ) → ((s : ℕ) → is_among xs s ≡ true → is_among ys s ≡ true) → IsWritten space xs image image' → IsWritten space ys image image'
  written_within xs ys image image' within w = record {
    length_stays = w.length_stays;
    writes = λ s other map. w.writes s (unless (is_among xs s) (λ h. clash (is_among ys s) (within s h) other)) map;
  }

  -- ---- what stays

  pub sectors_stay' : (sectors written image image' : List ℕ) → IsUnwritten space sectors written → IsWritten space written image image' → HasSectorsOf size sectors image image'
  sectors_stay' sectors written image image' u w s h =
      w.writes s (unless (is_among written s) (λ i. clash (is_among written s) i (apart_at sectors written s u.apart h)))
      (unless (is_among place s) (λ i. clash (is_among place s) i (apart_at sectors place s u.no_map h)))

  bytes_stay' : (sectors written image image' : List ℕ) (n : ℕ) → IsUnwritten space sectors written → IsWritten space written image image' → bytes_in size image' sectors n ≡ bytes_in size image sectors n
  unfolding bytes_in
  bytes_stay' sectors written image image' n u w =
      ap (λ (bs : List ℕ). take n bs) (flat_same (sector_at size image') (sector_at size image) sectors (sectors_stay' sectors written image image' u w))

  pub object_stays' : (o : Object) (written image image' : List ℕ) → IsUnwritten space o.sectors written → IsWritten space written image image'
      → object_bytes image' (Layout.Old space) o ≡ object_bytes image (Layout.Old space) o
  object_stays' o written image image' u w = object_same size image image' (Layout.Old space) o refl (sectors_stay' o.sectors written image image' u w)

  -- ---- the sectors of an object

  range_apart : (a n : ℕ) → AreApart (range_with_len a n)
  range_apart a n i j order low same =
      let high : j < n = subst (λ (k : ℕ). j < k) (length-range_with_len a n) low in
      let lower : i < n = omega (arith, order, high) in
      let first = get_or-range_with_len a n i 0 lower in
      let second = get_or-range_with_len a n j 0 high in
      let equal : a + i ≡ a + j = sym first ∙ same ∙ second in
      omega (arith, equal, order)

  none_apart : AreApart []
  none_apart i j order low same = absurd (omega (arith, low))

  object_apart : (o : Object) → IsAt (Layout.Old space) o → AreApart o.sectors
  object_apart o at = ⊎_elim
      (λ none. subst AreApart (sym none.1) none_apart)
      (λ row. subst AreApart (sym row.row) (range_apart _ _))
      (row_or_none space o.entry.address (object_size (dir_form (Layout.Old space)) o.entry) o.sectors at)

  some_bytes : IsOldMap space → 0 < size
  some_bytes is = elim is.units [
    | inl one ↦ omega (arith, one)
    | inr four ↦ omega (arith, four)
  ]

  object_room : (o : Object) → IsOldMap space → IsAt (Layout.Old space) o → object_size (dir_form (Layout.Old space)) o.entry ≤ length o.sectors * size
  object_room o is at =
      let n = object_size (dir_form (Layout.Old space)) o.entry in
      ⊎_elim (λ none. let zero = none.0 in omega (arith, zero)) (λ row. room_for n size (div_ceil n size) (length o.sectors) (some_bytes is) refl row.long)
      (row_or_none space o.entry.address n o.sectors at)

  -- ---- what is there

  pub stored' : (o : Object) (bytes image : List ℕ) → IsObjectWritten space o bytes image → object_bytes image (Layout.Old space) o ≡ bytes
  unfolding bytes_in first_bytes
  stored' o bytes image w = ap (λ (n : ℕ). take n (flat_map (sector_at size image) o.sectors)) (sym w.long) ∙ w.reads_back

pub written_bytes_law : WrittenBytesLaw
written_bytes_law = record {
  part = part_written;
  step = object_step;
  map = map_written;
  within = written_within;
  sectors_stay = sectors_stay';
  bytes_stay = bytes_stay';
  object_stays = object_stays';
  apart = λ space o is at. object_apart space o at;
  room = object_room;
  stored = stored';
  directory = λ space o content bytes image w are. subst (λ (bs : List ℕ). AreWritten bs content) (sym (stored' space o bytes image w)) are;
}
