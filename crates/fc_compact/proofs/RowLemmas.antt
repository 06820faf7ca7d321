-- Sectors of a row that are written without a sync, and what a crash leaves of them.
use Rattle.std.proofs.Common.{◌≡◌, ◌<◌, ◌≤◌, ◌⊎◌, inl, inr, ⊎_elim, ℕ, zero, suc, ◌+◌, ◌-◌, ◌*◌, List, length, take, drop, refl, sym, ap, subst, ◌∙◌, arith, true, Some, option_map}
use Rattle.std.specs.Option.{ForSome}
use Rattle.std.proofs.lemmas.Bool.{cases_lt}
use Rattle.std.proofs.lemmas.Nat.{mul-le}
use Rattle.fc_device.specs.Calls.{SameForm, StopsAndExitsLeave}
use Rattle.fc_device.specs.Sectors.{row_at, sector_at, with_row, IsMixOf}
use Rattle.fc_device.specs.Stops.{HasRowPart, LeavesOnly, RowOldOrNew}
use Rattle.fc_device.specs.declared.disk.Disk.{Ghosts}
use Rattle.fc_device.proofs.DiskLaws.{Laws as DiskLaws, row_fits_in, sector_fits}
use Rattle.fc_device.proofs.SectorLemmas.{length-row_at, sector_at-row_at, sector_at-with_row_before, sector_at-with_row_behind, sector_at-with_row_in}
use Rattle.fc_device.proofs.StopLemmas.{goes_on, left_now, led, started, weaker, told_before}
use Rattle.fc_newmap.specs.Map.{Map}
use Rattle.fc_image.specs.Layout.{Layout, hole_sectors, is_among}
use Rattle.fc_alloc.specs.declared.owner.Owner.{Owner}
use Rattle.fc_newmap.proofs.PassLemmas.{keeps_told, some_is}
use Rattle.fc_compact.specs.Laws.{Laws}
use Rattle.fc_compact.specs.Ready.{IsReady}
use Rattle.fc_compact.specs.Steps.{Preserves}
use Rattle.fc_compact.specs.Copy.{ChangesHoles, ChangesRow, HasCopied, HasRow, IsCopied, TearsRow}
use Rattle.fc_compact.proofs.ReadyLemmas.{hole_preserves, hole_ready, row_same}

-- ---- images

-- the whole row lies in the image
row_room : (size n k long : ℕ) → 0 < k → ((i : ℕ) → i < k → (n + i) * size + size ≤ long) → n * size + k * size ≤ long
row_room size n zero long some has = absurd (omega (arith, some))
row_room size n (suc j) long some has =
    let e : (n + j) * size + size ≡ n * size + suc j * size = grind arith in
    omega (arith, e, has j (omega arith))

-- a sector of a row that was read
row_sector : (size : ℕ) (image : List ℕ) (n k t : ℕ) → t < k → take size (drop (t * size) (row_at size image n k)) ≡ sector_at size image (n + t)
unfolding sector_at
row_sector size image n k t low = sector_at-row_at size image n k t low

module _ (size to count : ℕ) where
  pub row_none : (image : List ℕ) → ChangesRow size to count image image
  row_none image = record { same_length = refl; outside = λ s there. refl }

  pub has_row : (was image : List ℕ) → length image ≡ length was → HasRow size to count was → HasRow size to count image
  has_row was image long has i low = omega (arith, long, has i low)

  -- a part of the row, which lies in it from sector i on
  module _ (i k : ℕ) (le : i + k ≤ count) where
    pub has_part : (was image : List ℕ) → length image ≡ length was → HasRow size to count was → HasRow size (to + i) k image
    has_part was image long has j low =
        let e : (to + (i + j)) * size ≡ (to + i + j) * size = grind arith in
        omega (arith, long, e, has (i + j) (omega (arith, low, le)))

    pub row_then : (a b c : List ℕ) → ChangesRow size to count a b → ChangesRow size (to + i) k b c → ChangesRow size to count a c
    row_then a b c first second = record {
      same_length = second.same_length ∙ first.same_length;
      outside = λ s there.
          second.outside s (⊎_elim (λ l. inl (omega (arith, l))) (λ r. inr (omega (arith, r, le))) there) ∙ first.outside s there;
    }

-- one row with the bytes of another
module _ (size n k : ℕ) (some : 0 < k) (was piece : List ℕ) (whole : length piece ≡ k * size) (has : HasRow size n k was) where
  room : n * size + length piece ≤ length was
  room = omega (arith, whole, row_room size n k (length was) some has)

  outside_row : (s : ℕ) → (s < n) ⊎ (n + k ≤ s) → sector_at size (with_row size was n piece) s ≡ sector_at size was s
  outside_row s (inl before) = sector_at-with_row_before size was n piece room s before
  outside_row s (inr behind) =
      let e : (n + k) * size ≡ n * size + k * size = grind arith in
      sector_at-with_row_behind size was n piece room s (omega (arith, whole, e, mul-le (n + k) size s size behind (omega arith)))

  -- any of its sectors are written
  pub row_torn : (image : List ℕ) → IsMixOf size was (with_row size was n piece) image → ChangesRow size n k was image
  row_torn image mix = record {
    same_length = mix.length_stays;
    outside = λ s there. ⊎_elim (λ old. old) (λ new. new ∙ outside_row s there) (mix.each s);
  }

  -- all are, with the bytes of another row
  pub copied_more : (from to i count : ℕ) → n ≡ to + i → i + k ≤ count → (from + count ≤ to) ⊎ (to + count ≤ from) → piece ≡ row_at size was (from + i) k → IsCopied size from to i was
      → IsCopied size from to (i + k) (with_row size was n piece)
  copied_more from to i count at le apart is copied j low =
      let new = with_row size was n piece in
      let source : sector_at size new (from + j) ≡ sector_at size was (from + j) =
      outside_row (from + j) (⊎_elim (λ l. inl (omega (arith, at, l, le, low))) (λ r. inr (omega (arith, at, r, le, low))) apart) in
      elim (cases_lt j i) [
        | inl early ↦ outside_row (to + j) (inl (omega (arith, at, early))) ∙ copied j early ∙ sym source
        | inr late ↦ (
            let t : ℕ = j - i in
            let j_is : j ≡ i + t = omega (arith, late) in
            let t_low : t < k = omega (arith, late, low) in
            let fits : t * size + size ≤ length piece = omega (arith, whole, mul-le (t + 1) size k size (omega (arith, t_low)) (omega arith), (let e : (t + 1) * size ≡ t * size + size = grind arith in e)) in
            ap (sector_at size new) (let e : to + j ≡ n + t = omega (arith, at, j_is) in e)
            ∙ sector_at-with_row_in size was n piece room t fits ∙ ap (λ (l : List ℕ). take size (drop (t * size) l)) is ∙ row_sector size was (from + i) k t t_low
            ∙ ap (sector_at size was) (let e : from + i + t ≡ from + j = omega (arith, j_is) in e) ∙ sym source)
      ]

-- ---- a disk

module _ {D : Type 0} {d : Ghosts D} (law : DiskLaws d) (old : D) (to count : ℕ) where
  abbrev size : ℕ
  size = d.sector_size old

  pub tears_start : TearsRow d old old to count
  tears_start = record {
    stops = started law old _ (λ image left. (image, left, λ has. row_none size to count image));
    exit = λ was told. (was, told, row_none size to count was);
    told = λ image told. (image, told);
  }

  told_row : to + count ≤ d.sectors old → (was : List ℕ) → d.bytes old ≡ Some was → HasRow size to count was
  told_row on_disk was told i low = sector_fits law old (to + i) (omega (arith, on_disk, low)) was told

  -- after a read
  pub tears_read : {mid : D} → LeavesOnly d.moment d.left_since old mid (d.left_since old (d.moment old)) → d.bytes mid ≡ d.bytes old → TearsRow d old mid to count
  tears_read reads same = record {
    stops = weaker law _ reads (λ image left. (image, left, λ has. row_none size to count image));
    exit = λ was told. (was, same ∙ told, row_none size to count was);
    told = λ image told. (image, sym same ∙ told);
  }

  module _ {mid new : D} where
    -- a part of the row is written after others
    pub tears_then : (i k : ℕ) → i + k ≤ count → d.sector_size mid ≡ size → TearsRow d old mid to count → TearsRow d mid new (to + i) k → TearsRow d old new to count
    tears_then i k le size_is first second = record {
      stops = goes_on law first.stops second.stops
          (λ image torn.
          let had = left_now law first.stops torn.0 torn.1 in (
            had.0,
            had.1,
            λ has.
                let so_far = had.2 has in
                let there = subst (λ (n : ℕ). HasRow n (to + i) k (torn.0)) (sym size_is) (has_part size to count i k le had.0 torn.0 so_far.same_length has) in
                row_then size to count i k le had.0 torn.0 image so_far (subst (λ (n : ℕ). ChangesRow n (to + i) k (torn.0) image) size_is (torn.2 there)),
          ));
      exit = λ was told.
          let there = first.exit was told in
          let then = second.exit there.0 there.1 in
          (then.0, then.1, row_then size to count i k le was there.0 then.0 there.2 (subst (λ (n : ℕ). ChangesRow n (to + i) k (there.0) (then.0)) size_is then.2));
      told = λ image told. let there = second.told image told in first.told there.0 there.1;
    }

    -- the row is written with what was read
    module _ (some : 0 < count) (on_disk : to + count ≤ d.sectors old) (piece : List ℕ) (whole : length piece ≡ count * size)
        (reads : LeavesOnly d.moment d.left_since old mid (d.left_since old (d.moment old))) (same : d.bytes mid ≡ d.bytes old) (size_is : d.sector_size mid ≡ size) where
      pub tears_piece : LeavesOnly d.moment d.left_since mid new (RowOldOrNew (d.sector_size mid) to piece (d.left_since mid (d.moment mid)))
          → HasRowPart (d.sector_size mid) to piece (d.bytes mid) (d.bytes new) → TearsRow d old new to count
      tears_piece stops part = record {
        stops = goes_on law (tears_read reads same).stops (subst (λ (n : ℕ). LeavesOnly d.moment d.left_since mid new (RowOldOrNew n to piece (d.left_since mid (d.moment mid)))) size_is stops)
            (λ image torn. (
              torn.0,
              left_now law reads torn.0 torn.1,
              λ has.
                  row_torn size to count some torn.0 piece whole has image (torn.2 (omega (arith, whole, row_room size to count (length torn.0) some has))),
            ));
        exit = λ was told.
            let there = part.part was (same ∙ told) in (
              there.0,
              there.1,
              row_torn size to count some was piece whole (told_row on_disk was told) there.0
                  (subst (λ (n : ℕ). IsMixOf n was (with_row n was to piece) (there.0)) size_is there.2),
            );
        told = λ image told. let there = part.told image told in (there.0, sym same ∙ there.1);
      }

      pub has_copied : (from : ℕ) → ForSome (d.bytes old) (λ image. piece ≡ row_at size image from count)
          → d.bytes new ≡ option_map (λ image. with_row (d.sector_size mid) image to piece) (d.bytes mid) → HasCopied d old new from to count
      has_copied from filled written image told =
          let there = told_before (λ was. with_row (d.sector_size mid) was to piece) (d.bytes mid) image (sym written ∙ told) in
          let before : d.bytes old ≡ Some there.0 = sym same ∙ there.1 in
          let now : image ≡ with_row (d.sector_size mid) there.0 to piece =
          some_is (sym told ∙ written ∙ ap (option_map (λ was. with_row (d.sector_size mid) was to piece)) there.1) in
          (there.0, before, now ∙ ap (λ (n : ℕ). with_row n there.0 to piece) size_is ∙ ap (with_row size there.0 to) (filled there.0 before))

    -- a part more is copied
    pub copied_then : (from i k : ℕ) → 0 < k → i + k ≤ count → from + count ≤ d.sectors old → to + count ≤ d.sectors old → (from + count ≤ to) ⊎ (to + count ≤ from) → d.sector_size mid ≡ size → TearsRow d old mid to count
        → ForSome (d.bytes mid) (IsCopied size from to i) → HasCopied d mid new (from + i) (to + i) k → ForSome (d.bytes new) (IsCopied size from to (i + k))
    copied_then from i k some le from_on_disk on_disk apart size_is tears copied piece image told =
        let there = piece image told in
        let first = tears.told there.0 there.1 in
        let mid_is = tears.exit first.0 first.1 in
        let same : mid_is.0 ≡ there.0 = some_is (sym mid_is.1 ∙ there.1) in
        let long : length there.0 ≡ length first.0 = ap length (sym same) ∙ mid_is.2.same_length in
        let has : HasRow size (to + i) k (there.0) = has_part size to count i k le first.0 there.0 long (told_row on_disk first.0 first.1) in
        let row = row_at size there.0 (from + i) k in
        let whole : length row ≡ k * size =
        length-row_at size there.0 (from + i) k (omega (arith, long, row_fits_in law old (from + i) k (omega (arith, le, from_on_disk)) first.0 first.1)) in
        let now : image ≡ with_row size there.0 (to + i) row = there.2 ∙ ap (λ (n : ℕ). with_row n there.0 (to + i) (row_at n there.0 (from + i) k)) size_is in
        subst (IsCopied size from to (i + k)) (sym now)
        (copied_more size (to + i) k some there.0 row whole has from to i count refl le apart refl (copied there.0 there.1))

-- a row is part of a longer one
pub tears_wider : {D : Type 0} {d : Ghosts D} {old new : D} {to count : ℕ} (more : ℕ) → count ≤ more → TearsRow d old new to count → TearsRow d old new to more
tears_wider {d = d} {old = old} {to = to} {count = count} more le tears = record {
  stops = record {
    later = tears.stops.later;
    since = λ image left. (let torn = tears.stops.since image left in (torn.0, torn.1, λ has. wider torn.0 image (torn.2 (λ i low. has i (omega (arith, low, le))))));
    before = tears.stops.before;
    keeps = tears.stops.keeps;
  };
  exit = λ was told. (let there = tears.exit was told in (there.0, there.1, wider was there.0 there.2));
  told = tears.told;
}
  where
    wider : (was image : List ℕ) → ChangesRow (d.sector_size old) to count was image → ChangesRow (d.sector_size old) to more was image
    wider was image row = record {
      same_length = row.same_length;
      outside = λ s there. row.outside s (⊎_elim (λ l. inl l) (λ r. inr (omega (arith, r, le))) there);
    }

-- the bytes of a disk that is the same
pub told_still : {D : Type 0} (d : Ghosts D) {old new : D} {was image : List ℕ} → d.bytes old ≡ Some was → d.bytes new ≡ Some image → new ≡ old → image ≡ was
told_still d was_told told same = some_is (sym told ∙ ap d.bytes same ∙ was_told)

-- what is told after a row, with what was told before
pub torn_led : {D : Type 0} {d : Ghosts D} {old new : D} {to count : ℕ} → TearsRow d old new to count → (image : List ℕ) → d.bytes new ≡ Some image
    → (was : List ℕ) × (d.bytes old ≡ Some was) × ChangesRow (d.sector_size old) to count was image
torn_led {d = d} {old = old} {to = to} {count = count} tears image told =
    let was = tears.told image told in
    let there = tears.exit was.0 was.1 in
    (was.0, was.1, subst (ChangesRow (d.sector_size old) to count was.0) (some_is (sym there.1 ∙ told)) there.2)

-- ---- a map

module _ (m : Map) where
  pub holes_none : (image : List ℕ) → ChangesHoles m image image
  holes_none image = record { same_length = refl; outside = λ s none. refl }

  pub holes_then : (a b c : List ℕ) → ChangesHoles m a b → ChangesHoles m b c → ChangesHoles m a c
  holes_then a b c p q = record { same_length = q.same_length ∙ p.same_length; outside = λ s none. q.outside s none ∙ p.outside s none }

  module _ (to count : ℕ) (hole : (i : ℕ) → i < count → is_among (hole_sectors (Layout.New m)) (to + i) ≡ true) where
    pub row_holes : (was image : List ℕ) → ChangesRow m.geometry.sector to count was image → ChangesHoles m was image
    row_holes was image row = record { same_length = row.same_length; outside = row_same m to count hole was image row }

    -- a row more is written into holes
    pub kept_torn : {D : Type 0} {d : Ghosts D} (law : DiskLaws d) {start mid new : D} → SameForm d start mid → d.sector_size mid ≡ m.geometry.sector → to + count ≤ d.sectors start
        → StopsAndExitsLeave d start mid (ChangesHoles m) → TearsRow d mid new to count → StopsAndExitsLeave d start new (ChangesHoles m)
    kept_torn {d = d} law {start = start} {mid = mid} form size_is on_disk kept tears = record {
      stops = goes_on law kept.stops tears.stops
          (λ image torn was told.
          let led = left_now law kept.stops torn.0 torn.1 was told in
          let has : HasRow (d.sector_size mid) to count torn.0 = subst (λ (n : ℕ). HasRow n to count torn.0) (sym form.size_stays)
          (has_row (d.sector_size start) to count was torn.0 led.same_length (λ i low. sector_fits law start (to + i) (omega (arith, on_disk, low)) was told)) in
          holes_then was torn.0 image led (row_holes torn.0 image (subst (λ (n : ℕ). ChangesRow n to count torn.0 image) size_is (torn.2 has))));
      exit = λ was told.
          let there = kept.exit was told in
          let then = tears.exit there.0 there.1 in
          (then.0, then.1, holes_then was there.0 then.0 there.2 (row_holes there.0 then.0 (subst (λ (n : ℕ). ChangesRow n to count there.0 then.0) size_is then.2)));
      told = λ image told. let there = tears.told image told in kept.told there.0 there.1;
    }

-- what is written into holes keeps all objects
module _ {D : Type 0} {d : Ghosts D} (disk : DiskLaws d) (law : Laws) (m : Map) (owners : List Owner) {start now : D} (ready : ForSome (d.bytes start) (IsReady m owners)) (kept : StopsAndExitsLeave d start now (ChangesHoles m)) where
  pub kept_preserves : StopsAndExitsLeave d start now (Preserves m owners)
  kept_preserves = keeps_told disk kept (λ was image told holes. hole_preserves law m owners was image (ready was told) holes.same_length holes.outside)

  pub kept_ready : ForSome (d.bytes now) (IsReady m owners)
  kept_ready image told =
      let before = led disk kept image told in
      hole_ready law m owners before.0 image (ready before.0 before.1) before.2.same_length before.2.outside
