-- Passes over a copy: one zone more, and one pass after another.
use Rattle.std.proofs.Common.{◌≡◌, ◌<◌, ◌≤◌, ◌⊎◌, inl, inr, ⊎_elim, ℕ, ◌+◌, ◌*◌, List, length, get_or, refl, sym, ap, subst, ◌∙◌, arith, Some, option_map, IsFalse}
use Rattle.std.specs.Option.{ForSome}
use Rattle.std.proofs.lemmas.Bool.{cases_eq}
use Rattle.fc_device.specs.Sectors.{sector_at, with_sector}
use Rattle.fc_device.specs.Stops.{Keeps, LeavesOnly, SectorOldOrNew}
use Rattle.fc_device.specs.declared.disk.Disk.{Ghosts}
use Rattle.fc_device.proofs.DiskLaws.{Laws, sector_fits}
use Rattle.fc_device.proofs.StopLemmas.{goes_on, weaker, keeps_start, keeps_same, keeps_write}
use Rattle.fc_device.proofs.SectorLemmas.{length-with_sector, sector_at-with_sector_same, sector_at-with_sector_other}
use Rattle.fc_newmap.specs.Passes.{HasEach, HasWritten, IsPartWritten}

pub some_is : {A : Type 0} {a b : A} → Some a ≡ Some b → a ≡ b
some_is e = cc

module _ (size first low high : ℕ) (new : ℕ → List ℕ) where
  pub part_start : (image : List ℕ) → IsPartWritten size first low high new image image
  part_start image = record { same_length = refl; inside = λ z from to. inl refl; outside = λ s there. refl }

  -- one zone more is new
  pub part_more : (was image piece : List ℕ) (z : ℕ) → low ≤ z → z < high → length piece ≡ size → (first + z) * size + size ≤ length was → piece ≡ new z
      → IsPartWritten size first low high new was image → IsPartWritten size first low high new was (with_sector size image (first + z) piece)
  part_more was image piece z from to whole fits is part =
      let inside : (first + z) * size + size ≤ length image = omega (arith, fits, part.same_length) in
      let other : (s : ℕ) → (s ≡ first + z → ⊥) → sector_at size (with_sector size image (first + z) piece) s ≡ sector_at size image s =
      λ s apart. sector_at-with_sector_other size image (first + z) s piece whole inside apart in
      record {
        same_length = length-with_sector size image (first + z) piece whole inside ∙ part.same_length;
        inside = λ y y_from y_to. elim (cases_eq y z) [
          | inl same ↦ inr
              (ap (λ n. sector_at size (with_sector size image (first + z) piece) (first + n)) same ∙ sector_at-with_sector_same size image (first + z) piece whole inside ∙ is ∙ ap new (sym same))
          | inr apart ↦
              let e = other (first + y) (λ at. apart (omega (arith, at))) in
              ⊎_elim (λ old. inl (e ∙ old)) (λ there. inr (e ∙ there)) (part.inside y y_from y_to)
        ];
        outside = λ s there. other s (λ at. ⊎_elim (λ l. omega (arith, at, l, from)) (λ r. omega (arith, at, r, to)) there) ∙ part.outside s there;
      }

  -- so are these zones
  pub written_more : (image piece : List ℕ) (z : ℕ) → length piece ≡ size → (first + z) * size + size ≤ length image → piece ≡ new z
      → HasWritten size first low z new image → HasWritten size first low (z + 1) new (with_sector size image (first + z) piece)
  written_more image piece z whole fits is so_far y from to = elim (cases_eq y z) [
    | inl same ↦ ap (λ n. sector_at size (with_sector size image (first + z) piece) (first + n)) same ∙ sector_at-with_sector_same size image (first + z) piece whole fits ∙ is ∙ ap new (sym same)
    | inr apart ↦ sector_at-with_sector_other size image (first + z) (first + y) piece whole fits (λ at. apart (omega (arith, at))) ∙ so_far y from (omega (arith, to, apart))
  ]

module _ {D : Type 0} {d : Ghosts D} (law : Laws d) where
  abbrev Kept : (List ℕ → List ℕ → Type 0) → D → D → Type 0
  Kept R old new = Keeps d.moment d.left_since d.bytes old new R

  -- One pass after another: where the second starts is what the first has led to.
  pub keeps_on : {P Q R : List ℕ → List ℕ → Type 0} {old mid new : D} → Kept P old mid → Kept Q mid new
      → ((was image : List ℕ) → d.bytes old ≡ Some was → P was image → R was image)
      → ((was there image : List ℕ) → d.bytes old ≡ Some was → d.bytes mid ≡ Some there → P was there → Q there image → R was image) → Kept R old new
  keeps_on first second before after = record {
    stops = goes_on law (weaker law _ first.stops (λ image led was told. before was image told (led was told))) second.stops
        (λ image led was told. let there = first.exit was told in after was there.0 image told there.1 there.2 (led there.0 there.1));
    exit = λ was told.
        let there = first.exit was told in
        let then = second.exit there.0 there.1 in
        (then.0, then.1, after was there.0 then.0 told there.1 there.2 then.2);
    told = λ image told. let there = second.told image told in first.told there.0 there.1;
  }

  -- where the bytes at the start are told, P says less than R
  pub keeps_told : {P R : List ℕ → List ℕ → Type 0} {old new : D} → Kept P old new → ((was image : List ℕ) → d.bytes old ≡ Some was → P was image → R was image) → Kept R old new
  keeps_told keeps less = record {
    stops = weaker law _ keeps.stops (λ image led was told. less was image told (led was told));
    exit = λ was told. let there = keeps.exit was told in (there.0, there.1, less was there.0 told there.2);
    told = keeps.told;
  }

-- a pass at other numbers, that are the same
module _ (size size' first first' low high : ℕ) (new new' : ℕ → List ℕ) (size_is : size ≡ size') (first_is : first ≡ first') (new_is : (z : ℕ) → new z ≡ new' z) where
  pub part_as : (was image : List ℕ) → IsPartWritten size first low high new was image → IsPartWritten size' first' low high new' was image
  part_as was image part =
      subst (λ (s : ℕ). IsPartWritten s first' low high new' was image) size_is
      (subst (λ (f : ℕ). IsPartWritten size f low high new' was image) first_is
      record { same_length = part.same_length; inside = λ z from to. ⊎_elim (λ old. inl old) (λ there. inr (there ∙ new_is z)) (part.inside z from to); outside = part.outside })

  pub written_as : (image : List ℕ) → HasWritten size first low high new image → HasWritten size' first' low high new' image
  written_as image written z from to =
      ap (λ s. sector_at s image (first' + z)) (sym size_is) ∙ ap (λ f. sector_at size image (f + z)) (sym first_is) ∙ written z from to ∙ new_is z

-- so are the zones of a list
pub each_as : (size size' first first' : ℕ) (zones : List ℕ) (new : ℕ → List ℕ) (image : List ℕ) → size ≡ size' → first ≡ first' → HasEach size first zones new image → HasEach size' first' zones new image
each_as size size' first first' zones new image size_is first_is each k lt =
    ap (λ s. sector_at s image (first' + get_or zones k 0)) (sym size_is) ∙ ap (λ f. sector_at size image (f + get_or zones k 0)) (sym first_is) ∙ each k lt

-- ---- a pass over a disk, from `old` on, when nothing is pending

-- what the pass has left so far
abbrev pub Passed : {D : Type 0} → Ghosts D → D → ℕ → ℕ → ℕ → (List ℕ → ℕ → List ℕ) → D → Type 0
Passed d old first low high new_of mid = Keeps d.moment d.left_since d.bytes old mid (λ was image. IsPartWritten (d.sector_size old) first low high (new_of was) was image)

-- the zones below this one are new
abbrev pub Written : {D : Type 0} → Ghosts D → D → ℕ → ℕ → (List ℕ → ℕ → List ℕ) → D → ℕ → Type 0
Written d old first low new_of mid z = ForSome (d.bytes old) (λ was. ForSome (d.bytes mid) (HasWritten (d.sector_size old) first low z (new_of was)))

-- the first i of these zones are new
abbrev pub Each : {D : Type 0} → Ghosts D → D → ℕ → (List ℕ → ℕ → List ℕ) → List ℕ → D → ℕ → Type 0
Each d old first new_of zones mid i =
    ForSome (d.bytes old) (λ was. ForSome (d.bytes mid) (λ image. (k : ℕ) → k < i → sector_at (d.sector_size old) image (first + get_or zones k 0) ≡ new_of was (get_or zones k 0)))

module _ {D : Type 0} {d : Ghosts D} (law : Laws d) (old : D) (first low high : ℕ) (new_of : List ℕ → ℕ → List ℕ) where
  abbrev size : ℕ
  size = d.sector_size old

  abbrev Pass : D → Type 0
  Pass = Passed d old first low high new_of

  abbrev Done : D → ℕ → Type 0
  Done = Written d old first low new_of

  pub pass_start : IsFalse (d.pending old) → Pass old
  pass_start quiet = keeps_start law (λ image. part_start size first low high (new_of image) image) old quiet

  pub written_none : (mid : D) → Done mid low
  written_none mid = λ was told image is z from to. absurd (omega (arith, from, to))

  pub each_none : (zones : List ℕ) (mid : D) → Each d old first new_of zones mid 0
  each_none zones mid = λ was told image is k lt. absurd (omega (arith, lt))

  -- a call that adds no image and keeps the bytes
  pub pass_same : {mid new : D} → Pass mid → LeavesOnly d.moment d.left_since mid new (d.left_since mid (d.moment mid)) → d.bytes new ≡ d.bytes mid → Pass new
  pass_same passed stops same = keeps_same law passed stops same

  pub written_same : {mid new : D} (z : ℕ) → Done mid z → d.bytes new ≡ d.bytes mid → Done new z
  written_same z written same = λ was told image is. written was told image (sym same ∙ is)

  -- what was read in the middle of the pass, outside the zones that it writes, was there at the start
  pub pass_source : {mid : D} → Pass mid → d.sector_size mid ≡ size → (s : ℕ) → (s < first + low) ⊎ (first + high ≤ s) → (piece : List ℕ)
      → ForSome (d.bytes mid) (λ image. piece ≡ sector_at (d.sector_size mid) image s) → (was : List ℕ) → d.bytes old ≡ Some was → piece ≡ sector_at size was s
  pass_source passed same s there piece read was told =
      let now = passed.exit was told in
      read now.0 now.1 ∙ ap (λ n. sector_at n now.0 s) same ∙ now.2.outside s there

  -- zone z is written, at the sector `at`
  module _ (mid new : D) (passed : Pass mid) (same : d.sector_size mid ≡ size) (z at : ℕ) (place : at ≡ first + z) (from : low ≤ z) (to : z < high) (inside : at < d.sectors old)
      (piece : List ℕ) (whole : length piece ≡ size) (piece_is : (was : List ℕ) → d.bytes old ≡ Some was → piece ≡ new_of was z) where
    zone_is_inside : (was : List ℕ) → d.bytes old ≡ Some was → (first + z) * size + size ≤ length was
    zone_is_inside was told = subst (λ (n : ℕ). n * size + size ≤ length was) place (sector_fits law old at inside was told)

    pub pass_write : LeavesOnly d.moment d.left_since mid new (SectorOldOrNew (d.sector_size mid) at piece (d.left_since mid (d.moment mid)))
        → (d.bytes new ≡ d.bytes mid) ⊎ (d.bytes new ≡ option_map (λ image. with_sector (d.sector_size mid) image at piece) (d.bytes mid)) → Pass new
    pass_write stops old_or_new =
        keeps_write law (d.sector_size mid) at piece passed stops old_or_new
        (λ was image told part.
        subst (λ (n : ℕ). IsPartWritten size first low high (new_of was) was (with_sector n image at piece)) (sym same)
        (subst (λ (n : ℕ). IsPartWritten size first low high (new_of was) was (with_sector size image n piece)) (sym place)
        (part_more size first low high (new_of was) was image piece z from to whole (zone_is_inside was told) (piece_is was told) part)))

    pub written_one : Done mid z → d.bytes new ≡ option_map (λ image. with_sector (d.sector_size mid) image at piece) (d.bytes mid) → Done new (z + 1)
    written_one written is = λ was told image told_now.
        let now = passed.exit was told in
        let then : Some (with_sector (d.sector_size mid) now.0 at piece) ≡ Some image = sym (ap (option_map (λ (i : List ℕ). with_sector (d.sector_size mid) i at piece)) now.1) ∙ sym is ∙ told_now in
        let e : image ≡ with_sector size now.0 (first + z) piece = sym (some_is then) ∙ ap (λ n. with_sector n now.0 at piece) same ∙ ap (λ n. with_sector size now.0 n piece) place in
        let fits : (first + z) * size + size ≤ length now.0 = omega (arith, zone_is_inside was told, now.2.same_length) in
        subst (HasWritten size first low (z + 1) (new_of was)) (sym e)
        (written_more size first low high (new_of was) now.0 piece z whole fits (piece_is was told) (written was told now.0 now.1))

    -- zone z is found as it would be written
    pub found_one : Done mid z → d.bytes new ≡ d.bytes mid → ForSome (d.bytes mid) (λ image. piece ≡ sector_at (d.sector_size mid) image at) → Done new (z + 1)
    found_one written is there = λ was told image told_now.
        let before : d.bytes mid ≡ Some image = sym is ∙ told_now in
        let here : sector_at size image (first + z) ≡ new_of was z = ap (sector_at size image) (sym place) ∙ ap (λ n. sector_at n image at) (sym same) ∙ sym (there image before) ∙ piece_is was told in
        λ y y_from y_to. elim (cases_eq y z) [
          | inl e ↦ ap (λ n. sector_at size image (first + n)) e ∙ here ∙ ap (new_of was) (sym e)
          | inr apart ↦ written was told image before y y_from (omega (arith, y_to, apart))
        ]

    -- of a list of zones, one more is written
    pub each_one : (zones : List ℕ) (i : ℕ) → z ≡ get_or zones i 0 → Each d old first new_of zones mid i
        → d.bytes new ≡ option_map (λ image. with_sector (d.sector_size mid) image at piece) (d.bytes mid) → Each d old first new_of zones new (i + 1)
    each_one zones i z_is written is = λ was told image told_now k lt.
        let now = passed.exit was told in
        let then : Some (with_sector (d.sector_size mid) now.0 at piece) ≡ Some image = sym (ap (option_map (λ (i : List ℕ). with_sector (d.sector_size mid) i at piece)) now.1) ∙ sym is ∙ told_now in
        let e : image ≡ with_sector size now.0 (first + z) piece = sym (some_is then) ∙ ap (λ n. with_sector n now.0 at piece) same ∙ ap (λ n. with_sector size now.0 n piece) place in
        let fits : (first + z) * size + size ≤ length now.0 = omega (arith, zone_is_inside was told, now.2.same_length) in
        let y = get_or zones k 0 in
        ap (λ l. sector_at size l (first + y)) e
        ∙ elim (cases_eq y z) [
          | inl one ↦ ap (λ n. sector_at size (with_sector size now.0 (first + z) piece) (first + n)) one ∙ sector_at-with_sector_same size now.0 (first + z) piece whole fits ∙ piece_is was told ∙ ap (new_of was) (sym one)
          | inr apart ↦
              let earlier : k < i = before k i lt (λ last. apart (ap (λ n. get_or zones n 0) last ∙ sym z_is)) in
              sector_at-with_sector_other size now.0 (first + z) (first + y) piece whole fits (λ at. apart (omega (arith, at))) ∙ written was told now.0 now.1 k earlier
        ]
      where
        before : (k i : ℕ) → k < i + 1 → (k ≡ i → ⊥) → k < i
        before k i lt apart = omega (arith, lt, apart)
