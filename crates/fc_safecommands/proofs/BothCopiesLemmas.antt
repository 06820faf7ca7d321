-- Some image holds a sound map in both copies.
use Rattle.std.proofs.Common.{◌≡◌, ◌<◌, ◌+◌, ◌*◌, ℕ, zero, suc, true, List, [], ◌∷◌, ◌++◌, append-nil, append_assoc, get_or, length, length-append, map, take, drop, refl, sym, ap, ap₂, subst, ◌∙◌, arith}
use Rattle.std.specs.Prelude.{Ok}
use Rattle.std.specs.List.{range_with_len}
use Rattle.std.proofs.lemmas.List.{drop_at, take_at}
use Rattle.fc_device.specs.Sectors.{sector_at}
use Rattle.fc_record.specs.declared.Geometry.{Geometry}
use Rattle.fc_newmap.specs.Map.{Map}
use Rattle.fc_newmap.specs.NewMap.{IsNewMap}
use Rattle.fc_newmap.specs.declared.copies.Which.{Which}
use Rattle.fc_newmap.specs.declared.copies.Which.TheVariants.{One, Two}
use Rattle.fc_newmap.specs.Copies.{Chooses, HoldsCopies, chosen, copy_of, is_sound}
use Rattle.fc_newmap.proofs.ReadingLemmas.{one_was, two_was}

-- zones one after another
joined : List (List ℕ) → List ℕ
joined [] = []
joined (z ∷ zs) = z ++ joined zs

blank : ℕ → List ℕ
blank zero = []
blank (suc n) = 0 ∷ blank n

blank_long : (n : ℕ) → length (blank n) ≡ n
unfolding blank
blank_long zero = refl
blank_long (suc n) = ap suc (blank_long n)

-- a sector after so many is read where it stands
sector_there : (size k : ℕ) (pre z rest : List ℕ) → length pre ≡ k * size → length z ≡ size → sector_at size (pre ++ (z ++ rest)) k ≡ z
unfolding sector_at
sector_there size k pre z rest at long = ap (take size) (drop_at pre (z ++ rest) (k * size) at) ∙ take_at z rest size long

-- and so are zones
zones_there : (size k : ℕ) (pre rest : List ℕ) (zones : List (List ℕ)) → length pre ≡ k * size → ((i : ℕ) → i < length zones → length (get_or zones i []) ≡ size)
    → map (sector_at size (pre ++ (joined zones ++ rest))) (range_with_len k (length zones)) ≡ zones
unfolding joined
zones_there size k pre rest [] at whole = refl
zones_there size k pre rest (z ∷ zs) at whole =
    let long : length z ≡ size = whole 0 (omega arith) in
    let first : pre ++ ((z ++ joined zs) ++ rest) ≡ pre ++ (z ++ (joined zs ++ rest)) = ap (λ (ys : List ℕ). pre ++ ys) (append_assoc z (joined zs) rest) in
    let later : pre ++ (z ++ (joined zs ++ rest)) ≡ (pre ++ z) ++ (joined zs ++ rest) = sym (append_assoc pre z (joined zs ++ rest)) in
    let room : length (pre ++ z) ≡ (k + 1) * size = (let both = length-append pre z in omega (arith, both, at, long)) in
    ap₂ (λ (x : List ℕ) (xs : List (List ℕ)). x ∷ xs) (ap (λ (image : List ℕ). sector_at size image k) first ∙ sector_there size k pre z (joined zs ++ rest) at long)
    (ap (λ (image : List ℕ). map (sector_at size image) (range_with_len (k + 1) (length zs))) (first ∙ later)
    ∙ zones_there size (k + 1) (pre ++ z) rest zs room (λ i low. whole (suc i) (omega (arith, low))))

joined_long : (size : ℕ) (zones : List (List ℕ)) → ((i : ℕ) → i < length zones → length (get_or zones i []) ≡ size) → length (joined zones) ≡ length zones * size
unfolding joined
joined_long size [] whole = (let none : 0 ≡ 0 * size = omega arith in none)
joined_long size (z ∷ zs) whole =
    let long : length z ≡ size = whole 0 (omega arith) in
    let rest = joined_long size zs (λ i low. whole (suc i) (omega (arith, low))) in
    let both = length-append z (joined zs) in
    let more : suc (length zs) * size ≡ length zs * size + size = omega arith in
    omega (arith, both, long, rest, more)

module _ (m : Map) (is : IsNewMap m) where
  abbrev g : Geometry
  g = m.geometry

  abbrev front : List ℕ
  front = blank (m.geometry.map_sector * m.geometry.sector)

  abbrev image : List ℕ
  image = blank (m.geometry.map_sector * m.geometry.sector) ++ (joined m.zones ++ joined m.zones)

  whole : (i : ℕ) → i < length m.zones → length (get_or m.zones i []) ≡ m.geometry.sector
  whole i low = is.whole i (let all = is.all in omega (arith, low, all))

  behind : length (front ++ joined m.zones) ≡ (m.geometry.map_sector + m.geometry.zones) * m.geometry.sector
  behind =
      let both = length-append front (joined m.zones) in
      let long = blank_long (m.geometry.map_sector * m.geometry.sector) in
      let rest : length (joined m.zones) ≡ m.geometry.zones * m.geometry.sector = joined_long m.geometry.sector m.zones whole ∙ ap (λ (n : ℕ). n * m.geometry.sector) is.all in
      let sum : (m.geometry.map_sector + m.geometry.zones) * m.geometry.sector ≡ m.geometry.map_sector * m.geometry.sector + m.geometry.zones * m.geometry.sector = omega arith in
      omega (arith, both, long, rest, sum)

  again : image ≡ (front ++ joined m.zones) ++ (joined m.zones ++ [])
  again = sym (append_assoc front (joined m.zones) (joined m.zones)) ∙ ap (λ (ys : List ℕ). (front ++ joined m.zones) ++ ys) (sym (append-nil (joined m.zones)))

  pub both_copies : is_sound m.zones ≡ true → (image : List ℕ) × HoldsCopies m.geometry m.zones image
  both_copies sound = (
    image,
    record {
      first = ap (λ (n : ℕ). map (sector_at g.sector image) (range_with_len g.map_sector n)) (sym is.all) ∙ zones_there g.sector g.map_sector front (joined m.zones) m.zones (blank_long (g.map_sector * g.sector)) whole;
      second =
          ap (λ (n : ℕ). map (sector_at g.sector image) (range_with_len (g.map_sector + g.zones) n)) (sym is.all)
          ∙ ap (λ (bytes : List ℕ). map (sector_at g.sector bytes) (range_with_len (g.map_sector + g.zones) (length m.zones))) again
          ∙ zones_there g.sector (g.map_sector + g.zones) (front ++ joined m.zones) [] m.zones behind whole;
      sound = sound;
    },
  )

-- A map of which a copy counts is sound.
pub chosen_sound : (g : Geometry) (zones : List (List ℕ)) (image : List ℕ) → Chooses g zones image → is_sound zones ≡ true
chosen_sound g zones image c = by c.which c.chosen_one c.content
  where
    by : (w : Which) → chosen g image ≡ Ok w → copy_of g w image ≡ zones → is_sound zones ≡ true
    by One e is = ap is_sound (sym is) ∙ one_was g image e
    by Two e is = ap is_sound (sym is) ∙ (two_was g image e).1
