-- Objects that are copied sector by sector.
use Rattle.std.proofs.Common.{◌≡◌, suc, ℕ, Bool, true, false, cond, List, [], ◌∷◌, ◌++◌, length, take, drop, refl, sym, ap, ap₂, ◌∙◌, arith, Some, None}
use Rattle.std.specs.Prelude.{◌==◌, nat_le}
use Rattle.std.specs.List.{flat_map}
use Rattle.std.specs.Int.{div_ceil}
use Rattle.std.proofs.lemmas.Bool.{leb-true}
use Rattle.std.proofs.lemmas.List.{length-take}
use Rattle.fc_device.specs.Sectors.{sector_at}
use Rattle.fc_record.specs.declared.Geometry.{Geometry}
use Rattle.fc_newmap.specs.Map.{Map}
use Rattle.fc_image.specs.Layout.{Layout, bytes_in, dir_form, first_part, id_of, id_sectors, is_object_id, low_of, low_start, sectors_at}
use Rattle.fc_image.specs.Walk.{object_size}
use Rattle.fc_image.proofs.EntriesLemmas.{same_some}
use Rattle.fc_laws.specs.takeover.Copied.{AreCopied, CopiedBytesLaw}

-- as many sectors as the bytes need
sectors_long : (m : Map) (address n : ℕ) (sectors : List ℕ) → sectors_at (Layout.New m) address n ≡ Some sectors → length sectors ≡ cond (n == 0) 0 (div_ceil n m.geometry.sector)
unfolding sectors_at
sectors_long m address n sectors h = by (n == 0) (is_object_id m (id_of address)) h
  where
    part : (k : ℕ) (xs : List ℕ) → first_part k xs ≡ Some sectors → length sectors ≡ k
    part k xs e = cut (nat_le k (length xs)) refl e
      where
        cut : (b : Bool) → nat_le k (length xs) ≡ b → cond b (Some (take k xs)) None ≡ Some sectors → length sectors ≡ k
        cut true low f =
            let fits = leb-true k (length xs) low in
            let long = length-take k xs in
            sym (ap (λ (ys : List ℕ). length ys) (same_some (take k xs) sectors f)) ∙ (let e' : length (take k xs) ≡ k = omega (arith, fits, long) in e')
        cut false low f = absurd (cc)

    by : (b c : Bool) → cond b (Some []) (cond c (first_part (div_ceil n m.geometry.sector) (drop (low_start m (low_of address)) (id_sectors m (id_of address)))) None) ≡ Some sectors
        → length sectors ≡ cond b 0 (div_ceil n m.geometry.sector)
    by true c f = sym (ap (λ (ys : List ℕ). length ys) (same_some [] sectors f))
    by false true f = part (div_ceil n m.geometry.sector) (drop (low_start m (low_of address)) (id_sectors m (id_of address))) f
    by false false f = absurd (cc)

same_flat : (size : ℕ) (was image xs ys : List ℕ) → length ys ≡ length xs → AreCopied size was image xs ys → flat_map (sector_at size image) ys ≡ flat_map (sector_at size was) xs
same_flat size was image [] [] long copied = refl
same_flat size was image (x ∷ xs) [] long copied = absurd (omega (arith, long))
same_flat size was image [] (y ∷ ys) long copied = absurd (omega (arith, long))
same_flat size was image (x ∷ xs) (y ∷ ys) long copied =
    ap₂ (λ (first others : List ℕ). first ++ others) (copied 0 (omega arith)) (same_flat size was image xs ys (omega (arith, long)) (λ i low. copied (suc i) (omega (arith, low))))

same_bytes : (size : ℕ) (was image xs ys : List ℕ) (n k : ℕ) → n ≡ k → length ys ≡ length xs → AreCopied size was image xs ys → bytes_in size image ys n ≡ bytes_in size was xs k
unfolding bytes_in
same_bytes size was image xs ys n k same long copied = ap₂ (λ (c : ℕ) (bs : List ℕ). take c bs) same (same_flat size was image xs ys long copied)

pub copied_bytes_law : CopiedBytesLaw
copied_bytes_law m m' o copy was image same at at' size copied =
    ap (λ (g : Geometry). bytes_in g.sector image copy.sectors (object_size (dir_form (Layout.New m')) copy.entry)) same
    ∙ same_bytes m.geometry.sector was image o.sectors copy.sectors (object_size (dir_form (Layout.New m')) copy.entry) (object_size (dir_form (Layout.New m)) o.entry) size
    (sectors_long m' copy.entry.address (object_size (dir_form (Layout.New m')) copy.entry) copy.sectors at'
    ∙ ap₂ (λ (k : ℕ) (g : Geometry). let c : ℕ = cond (k == 0) 0 (div_ceil k g.sector) in c) size same
    ∙ sym (sectors_long m o.entry.address (object_size (dir_form (Layout.New m)) o.entry) o.sectors at)) copied
