-- Stretches of rows of sectors, row by row.
use Rattle.std.proofs.Common.{◌≡◌, ℕ, zero, suc, ◌+◌, ◌-◌, Bool, true, min, List, [], ◌∷◌, ◌++◌, length, take, drop, refl, sym, ap, ap₂, subst, ◌∙◌, arith, append-nil, append_assoc}
use Rattle.std.specs.List.{range_with_len}
use Rattle.std.proofs.lemmas.List.{length-append}
use Rattle.std.proofs.lemmas.List.Concat.{flat_map-append}
use Rattle.std.proofs.lemmas.List.FromFn.{length-range_with_len}
use Rattle.fc_device.specs.declared.disk.Extent.{Extent}
use Rattle.fc_objects.specs.Extents.{extent_sectors, sectors_in}
use Rattle.fc_record.specs.declared.Geometry.{Geometry}
use Rattle.fc_newmap.specs.Map.{ZoneRun, extent_of, first_sector, sector_count, sectors_of}
use Rattle.fc_space.specs.Index.{is_met}
use Rattle.fc_space.proofs.PartLemmas.{part_sectors}
use Rattle.fc_plan.specs.declared.plan.Part.{Part}
use Rattle.fc_plan.specs.Parts.{front_at, fronts}
use Rattle.fc_placing.specs.Extents.{parts_met, sectors_if}
use Rattle.fc_placing.proofs.ExtentLemmas.{take_append}
use Rattle.fc_safe.specs.declared.extents.Stretch.{Stretch}
use Rattle.fc_safe.specs.Extents.{stretch_left}
pub use Rattle.fc_placing.proofs.ExtentLemmas.{met_more as met_on}

pub one_row : (old new : List Extent) (row : Extent) → new ≡ old ++ row ∷ [] → sectors_in new ≡ sectors_in old ++ extent_sectors row
one_row old new row e = ap sectors_in e ∙ flat_map-append extent_sectors old (row ∷ []) ∙ ap (λ (xs : List ℕ). sectors_in old ++ xs) (append-nil (extent_sectors row))

pub row_taken : (old new : List ℕ) (row : Extent) (wanted : Stretch) (passed kept : ℕ) → passed ≡ min wanted.skip row.sectors → kept ≡ min wanted.need (row.sectors - passed)
    → new ≡ old ++ range_with_len (row.first + passed) kept → new ≡ old ++ take wanted.need (drop wanted.skip (extent_sectors row))
row_taken old new row wanted passed kept p k e = e ∙ ap (λ (xs : List ℕ). old ++ xs) (part_sectors row.first row.sectors wanted.skip wanted.need passed kept p k)

pub row_left : (row : Extent) (wanted : Stretch) (passed kept : ℕ) → passed ≡ min wanted.skip row.sectors → kept ≡ min wanted.need (row.sectors - passed)
    → (let left : Stretch = record { skip = wanted.skip - passed; need = wanted.need - kept } in left) ≡ stretch_left wanted row.sectors
row_left row wanted passed kept p k =
    ap₂ (λ (a b : ℕ). let left : Stretch = record { skip = a; need = b } in left)
    (let e : wanted.skip - passed ≡ wanted.skip - row.sectors = omega (arith, p) in e) (let e : wanted.need - kept ≡ wanted.need - (row.sectors - wanted.skip) = omega (arith, p, k) in e)

-- ---- one row after the other

drop_append : (n : ℕ) (xs ys : List ℕ) → drop n (xs ++ ys) ≡ drop n xs ++ drop (n - length xs) ys
drop_append zero xs ys = ap (λ (k : ℕ). xs ++ drop k ys) (let e : 0 ≡ 0 - length xs = omega arith in e)
drop_append (suc n) [] ys = ap (λ (k : ℕ). drop k ys) (let e : suc n ≡ suc n - length (let none : List ℕ = [] in none) = omega arith in e)
drop_append (suc n) (x ∷ xs) ys = drop_append n xs ys ∙ ap (λ (k : ℕ). drop n xs ++ drop k ys) (let e : n - length xs ≡ suc n - suc (length xs) = omega arith in e)

drop_length : (n : ℕ) (xs : List ℕ) → length (drop n xs) ≡ length xs - n
drop_length zero xs = omega arith
drop_length (suc n) [] = omega arith
drop_length (suc n) (x ∷ xs) = drop_length n xs ∙ (let e : length xs - n ≡ suc (length xs) - suc n = omega arith in e)

-- what is looked for of two rows
both_rows : (need skip : ℕ) (xs ys : List ℕ) → take need (drop skip (xs ++ ys)) ≡ take need (drop skip xs) ++ take (need - (length xs - skip)) (drop (skip - length xs) ys)
both_rows need skip xs ys =
    ap (take need) (drop_append skip xs ys) ∙ take_append need (drop skip xs) (drop (skip - length xs) ys)
    ∙ ap (λ (n : ℕ). take need (drop skip xs) ++ take (need - n) (drop (skip - length xs) ys)) (drop_length skip xs)

-- Of these rows what is looked for has been added.
pub record AreTaken (old now : List ℕ) (wanted left : Stretch) (rows : List ℕ) : Type 0 where
  pub sectors : now ≡ old ++ take wanted.need (drop wanted.skip rows)
  pub left_is : left ≡ stretch_left wanted (length rows)

pub none_taken : (old : List ℕ) (wanted : Stretch) → AreTaken old old wanted wanted []
none_taken old wanted = record {
  sectors = sym (ap (λ (xs : List ℕ). old ++ xs) (ap (take wanted.need) (nothing wanted.skip) ∙ none wanted.need) ∙ append-nil old);
  left_is = ap₂ (λ (a b : ℕ). let left : Stretch = record { skip = a; need = b } in left) (let e : wanted.skip ≡ wanted.skip - 0 = omega arith in e)
      (let e : wanted.need ≡ wanted.need - (0 - wanted.skip) = omega arith in e);
}
  where
    nothing : (n : ℕ) → drop n (let none : List ℕ = [] in none) ≡ []
    nothing zero = refl
    nothing (suc n) = refl

    none : (n : ℕ) → take n (let none : List ℕ = [] in none) ≡ []
    none zero = refl
    none (suc n) = refl

pub more_taken : (old mid now : List ℕ) (wanted middle left : Stretch) (rows more : List ℕ) → AreTaken old mid wanted middle rows → now ≡ mid ++ take middle.need (drop middle.skip more)
    → left ≡ stretch_left middle (length more) → AreTaken old now wanted left (rows ++ more)
more_taken old mid now wanted middle left rows more before sectors left_is = record {
  sectors =
      sectors ∙ ap₂ (λ (xs : List ℕ) (s : Stretch). xs ++ take s.need (drop s.skip more)) before.sectors before.left_is
      ∙ append_assoc old (take wanted.need (drop wanted.skip rows)) (take (wanted.need - (length rows - wanted.skip)) (drop (wanted.skip - length rows) more))
      ∙ ap (λ (xs : List ℕ). old ++ xs) (sym (both_rows wanted.need wanted.skip rows more));
  left_is =
      left_is ∙ ap (λ (s : Stretch). stretch_left s (length more)) before.left_is
      ∙ (let long = length-append rows more in
      ap₂ (λ (a b : ℕ). let left : Stretch = record { skip = a; need = b } in left)
      (let e : wanted.skip - length rows - length more ≡ wanted.skip - length (rows ++ more) = omega (arith, long) in e)
      (let e : wanted.need - (length rows - wanted.skip) - (length more - (wanted.skip - length rows)) ≡ wanted.need - (length (rows ++ more) - wanted.skip) = omega (arith, long) in e));
}

-- ---- parts that are met

pub part_left : (g : Geometry) (p : ZoneRun) (extent : Extent) (met : Bool) (wanted left : Stretch) → extent ≡ extent_of g p → met ≡ true → left ≡ stretch_left wanted extent.sectors → left ≡ stretch_left wanted (length (sectors_if g met p))
part_left g p extent met wanted left e is l =
    l ∙ ap (λ (x : Extent). stretch_left wanted x.sectors) e
    ∙ sym (ap (λ (b : Bool). stretch_left wanted (length (sectors_if g b p))) is ∙ ap (stretch_left wanted) (length-range_with_len (first_sector g p) (sector_count g p)))

-- The sectors of the parts up to one have been added.
abbrev pub AreTakenOf : Geometry → ℕ → Bool → List Extent → List Extent → Stretch → Stretch → List Part → Type 0
AreTakenOf g id ahead old now wanted left done = AreTaken (sectors_in old) (sectors_in now) wanted left (sectors_of g (parts_met g id ahead (fronts done)))

pub part_taken : (g : Geometry) (id : ℕ) (ahead met : Bool) (old mid now : List Extent) (wanted middle left : Stretch) (done more : List Part) (part : Part) → AreTakenOf g id ahead old mid wanted middle done
    → met ≡ is_met g ahead id part.zone → sectors_in now ≡ sectors_in mid ++ take middle.need (drop middle.skip (sectors_if g met (front_at part))) → left ≡ stretch_left middle (length (sectors_if g met (front_at part)))
    → more ≡ done ++ part ∷ [] → AreTakenOf g id ahead old now wanted left more
part_taken g id ahead met old mid now wanted middle left done more part before met_is sectors left_is grown =
    subst (λ (rows : List ℕ). AreTaken (sectors_in old) (sectors_in now) wanted left rows)
    (sym (ap (λ (ps : List Part). sectors_of g (parts_met g id ahead (fronts ps))) grown ∙ met_on g id ahead done part))
    (more_taken (sectors_in old) (sectors_in mid) (sectors_in now) wanted middle left (sectors_of g (parts_met g id ahead (fronts done))) (sectors_if g (is_met g ahead id part.zone) (front_at part)) before
    (subst (λ (b : Bool). sectors_in now ≡ sectors_in mid ++ take middle.need (drop middle.skip (sectors_if g b (front_at part)))) met_is sectors)
    (subst (λ (b : Bool). left ≡ stretch_left middle (length (sectors_if g b (front_at part)))) met_is left_is))

-- ---- both passes

pub both_passes : (ahead behind : List ℕ) (sectors mid first : List ℕ) (wanted middle : Stretch) → first ≡ [] → mid ≡ first ++ take wanted.need (drop wanted.skip ahead) → middle ≡ stretch_left wanted (length ahead)
    → sectors ≡ mid ++ take middle.need (drop middle.skip behind) → sectors ≡ take wanted.need (drop wanted.skip (ahead ++ behind))
both_passes ahead behind sectors mid first wanted middle none one left two =
    two ∙ ap₂ (λ (xs : List ℕ) (s : Stretch). xs ++ take s.need (drop s.skip behind)) (one ∙ ap (λ (xs : List ℕ). xs ++ take wanted.need (drop wanted.skip ahead)) none) left
    ∙ sym (both_rows wanted.need wanted.skip ahead behind)
