-- Bytes of one sector, and how long images are.
use Rattle.std.proofs.Common.{◌≡◌, ◌≤◌, ℕ, zero, suc, ◌+◌, ◌-◌, ◌*◌, ◌/◌, true, List, [], ◌∷◌, ◌++◌, length, take, drop, Option, Some, None, refl, sym, ap, subst, ◌∙◌, arith, eqb-true, length-drop}
use Rattle.std.specs.Prelude.{◌&&◌, ◌==◌, slice_get, Result, Ok}
use Rattle.std.specs.List.{flat_map}
use Rattle.std.proofs.Math.Nat.{div-mul-le_self}
use Rattle.std.proofs.Math.Seq.{drop-append-add}
use Rattle.std.proofs.lemmas.List.{take-append-le, drop-append-le, drop-take, take-take}
use Rattle.fc_record.specs.declared.Kind.{Kind}
use Rattle.fc_record.specs.declared.Kind.TheVariants.{Boot, OneZone, DiscD, DiscL}
use Rattle.fc_record.specs.declared.DiscRecord.{DiscRecord}
use Rattle.fc_record.specs.Record.{geometry}
use Rattle.fc_record.specs.Kinds.{disc_size, fits_kind, is_old_map, old_units}
use Rattle.std.specs.Int.{is_in_range}
use Rattle.fc_oldmap.specs.OldMap.{free_space, hole_fault}
use Rattle.fc_newmap.proofs.PlaceLemmas.{in_back}
use Rattle.fc_image.specs.Layout.{Layout, disc_sectors, is_among, sector_bytes}
use Rattle.fc_image.specs.Opening.{MapAndRoot, Opened, holes_or, map_and_root, old_layout}
use Rattle.fc_image.specs.Stays.{OpensAs}
use Rattle.fc_image.specs.declared.ImageFault.{ImageFault}
use Rattle.fc_image.proofs.FreeLemmas.{parts_of as opened_parts}
use Rattle.fc_image.proofs.HolesLemmas.{found_map}
use Rattle.fc_tree.proofs.LengthLemmas.{first_among}
use Rattle.fc_record.proofs.KindLemmas.{and_second as second_part}

-- ---- rows of blocks of one length

module _ (f : ℕ → List ℕ) (size : ℕ) where
  -- what stands from a place in one block on
  block_at : (q r : ℕ) (xs : List ℕ) (s : ℕ) → ((t : ℕ) → is_among xs t ≡ true → length (f t) ≡ size) → slice_get xs q ≡ Some s → r ≤ size
      → (rest : List ℕ) × (drop (q * size + r) (flat_map f xs) ≡ drop r (f s) ++ rest)
  block_at q r [] s each at low = absurd (cc)
  block_at zero r (x ∷ xs) s each at low = (
    flat_map f xs,
    ap (λ (n : ℕ). drop n (f x ++ flat_map f xs)) (let e : zero * size + r ≡ r = omega arith in e)
        ∙ drop-append-le r (f x) (flat_map f xs) (omega (arith, low, each x (first_among x xs)))
        ∙ ap (λ (y : ℕ). drop r (f y) ++ flat_map f xs) (let e : x ≡ s = cc in e),
  )
  block_at (suc q) r (x ∷ xs) s each at low =
      let rest = block_at q r xs s (λ t e. each t (in_back (x ∷ []) xs t e)) at low in
      let more : (q + 1) * size ≡ q * size + size = omega arith in (
        rest.0,
        ap (λ (n : ℕ). drop n (f x ++ flat_map f xs)) (let e : suc q * size + r ≡ length (f x) + (q * size + r) = omega (arith, each x (first_among x xs), more) in e)
            ∙ drop-append-add (f x) (flat_map f xs) (q * size + r) ∙ rest.1,
      )

  -- bytes of one block
  pub piece_of : (q r n at len : ℕ) (xs : List ℕ) (s : ℕ) → ((t : ℕ) → is_among xs t ≡ true → length (f t) ≡ size) → slice_get xs q ≡ Some s → length (f s) ≡ size
      → at ≡ q * size + r → r + n ≤ size → at + n ≤ len → take n (drop at (take len (flat_map f xs))) ≡ take n (drop r (f s))
  piece_of q r n at len xs s each is long place within short =
      let whole : len ≡ at + (len - at) = omega (arith, short) in
      let cut = block_at q r xs s each is (omega (arith, within)) in
      ap (λ (k : ℕ). take n (drop at (take k (flat_map f xs)))) whole
      ∙ ap (take n) (drop-take at (len - at) (flat_map f xs))
      ∙ take-take n (len - at) (drop at (flat_map f xs)) (omega (arith, short))
      ∙ ap (λ (k : ℕ). take n (drop k (flat_map f xs))) place
      ∙ ap (take n) cut.1
      ∙ take-append-le n (drop r (f s)) cut.0 (omega (arith, length-drop r (f s), long, within))

-- ---- an image has the sectors of its disc

new_size : (r : DiscRecord) → (geometry r).disc_bits * (geometry r).bit_bytes / (geometry r).sector * (geometry r).sector ≤ r.size
new_size r =
    let a = div-mul-le_self ((geometry r).disc_bits * (geometry r).bit_bytes) (geometry r).sector in
    let b : (geometry r).disc_bits * (geometry r).bit_bytes ≤ r.size = div-mul-le_self r.size (geometry r).bit_bytes in
    omega (arith, a, b)

old_found : (image : List ℕ) (units root : ℕ) (found : MapAndRoot) → old_layout image units root ≡ Ok found → found.0 ≡ Layout.Old (free_space image units)
old_found image units root found e = by (hole_fault image units) e
  where
    by : (fault : Option ℕ) → holes_or (Layout.Old (free_space image units), root, 0) fault ≡ Ok found → found.0 ≡ Layout.Old (free_space image units)
    by None h = is (Layout.Old (free_space image units), root, 0) found h
      where
        is : (x y : MapAndRoot) → (let q : Result MapAndRoot ImageFault = Ok x in q) ≡ Ok y → y.0 ≡ x.0
        is x y g = ap (λ (z : MapAndRoot). z.0) (let same : y ≡ x = cc in same)
    by (Some index) h = absurd (cc)

layout_size : (image : List ℕ) (kind : Kind) (found : MapAndRoot) → map_and_root image kind ≡ Ok found → fits_kind image kind ≡ true → disc_sectors found.0 * sector_bytes found.0 ≤ disc_size kind
layout_size image (Boot r) found e fits =
    subst (λ (x : MapAndRoot). disc_sectors x.0 * sector_bytes x.0 ≤ r.size) (found_map image (Boot r) r found refl e).is (new_size r)
layout_size image (OneZone r) found e fits =
    subst (λ (x : MapAndRoot). disc_sectors x.0 * sector_bytes x.0 ≤ r.size) (found_map image (OneZone r) r found refl e).is (new_size r)
layout_size image DiscD found e fits =
    let units = eqb-true (old_units image) 3200 (second_part (is_old_map image) (old_units image == 3200) fits) in
    let whole = div-mul-le_self (old_units image) 4 in
    subst (λ (l : Layout). disc_sectors l * sector_bytes l ≤ 256 * 3200) (sym (old_found image 4 4 found e)) (omega (arith, whole, units))
layout_size image (DiscL n) found e fits =
    let units = eqb-true (old_units image) n (second_part (is_old_map image && is_in_range 7 2560 n) (old_units image == n) fits) in
    let whole = div-mul-le_self (old_units image) 1 in
    subst (λ (l : Layout). disc_sectors l * sector_bytes l ≤ 256 * n) (sym (old_found image 1 2 found e)) (omega (arith, whole, units))

pub image_long : (image : List ℕ) (kind : Kind) (v : Opened) → OpensAs image kind v → disc_sectors v.layout * sector_bytes v.layout ≤ length image
image_long image kind v opens =
    let p = opened_parts image kind v opens.opened in
    let size = layout_size image kind p.0 p.1.1 p.1.5 in
    subst (λ (l : Layout). disc_sectors l * sector_bytes l ≤ length image) (ap (λ (w : Opened). w.layout) p.1.4) (let long = p.1.0 in omega (arith, size, long))
