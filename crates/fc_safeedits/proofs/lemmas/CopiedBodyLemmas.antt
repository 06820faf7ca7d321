-- The bytes of an object that is copied to a place of its own.
use Rattle.std.proofs.Common.{◌≡◌, ◌<◌, ◌≤◌, ◌==◌, ⊎_elim, ℕ, Bool, true, false, cond, List, [], ◌∷◌, ◌++◌, length, drop, min, take, refl, sym, ap, subst, ◌∙◌, arith, Some}
use Rattle.std.specs.Int.{div_ceil}
use Rattle.std.proofs.lemmas.List.{length-take}
use Rattle.fc_device.specs.Sectors.{sector_at}
use Rattle.fc_names.specs.declared.name.NameForm.{NameForm}
use Rattle.fc_names.specs.declared.name.NameForm.TheVariants.{Long, Ten}
use Rattle.fc_record.specs.declared.Geometry.{Geometry}
use Rattle.fc_newmap.specs.Map.{Map}
use Rattle.fc_image.specs.Layout.{Layout, bytes_in, dir_form, id_of, id_sectors, low_of, low_start, sectors_at}
use Rattle.fc_image.specs.Walk.{Object, object_bytes, object_size}
use Rattle.fc_image.specs.Edits.{IsAt}
use Rattle.fc_safelaws.specs.Relaid.{AreCopied}
use Rattle.fc_safelaws.proofs.RelaidLemmas.{Within, within, flat_same}

-- ---- so many bytes have as many sectors at each address

many : (m : Map) (a n : ℕ) (xs : List ℕ) → sectors_at (Layout.New m) a n ≡ Some xs → (n == 0) ≡ false → length xs ≡ div_ceil n m.geometry.sector
many m a n xs at some = ⊎_elim (λ none. absurd (let two : true ≡ false = sym none.0 ∙ some in cc)) (λ w. by w) (within m a n xs at)
  where
    fits : (k j : ℕ) → k ≤ j → min k j ≡ k
    fits k j low = omega (arith, low)

    by : Within m a n xs → length xs ≡ div_ceil n m.geometry.sector
    by w =
        let part : List ℕ = drop (low_start m (low_of a)) (id_sectors m (id_of a)) in
        ap (λ (ys : List ℕ). length ys) (sym w.is) ∙ length-take (div_ceil n m.geometry.sector) part ∙ fits (div_ceil n m.geometry.sector) (length part) w.room

none : (m : Map) (a n : ℕ) (xs : List ℕ) → sectors_at (Layout.New m) a n ≡ Some xs → (n == 0) ≡ true → length xs ≡ 0
none m a n xs at empty = ⊎_elim (λ no. ap (λ (ys : List ℕ). length ys) no.1) (λ w. absurd (let two : false ≡ true = sym w.some ∙ empty in cc)) (within m a n xs at)

pub as_many : (m m' : Map) (a a' n : ℕ) (xs ys : List ℕ) → m'.geometry ≡ m.geometry → sectors_at (Layout.New m) a n ≡ Some xs → sectors_at (Layout.New m') a' n ≡ Some ys → length xs ≡ length ys
as_many m m' a a' n xs ys geometry at at' = by (n == 0) refl
  where
    by : (b : Bool) → (n == 0) ≡ b → length xs ≡ length ys
    by true empty = none m a n xs at empty ∙ sym (none m' a' n ys at' empty)
    by false some = many m a n xs at some ∙ ap (λ (g : Geometry). div_ceil n g.sector) (sym geometry) ∙ sym (many m' a' n ys at' some)

-- ---- bytes

same_bytes : (size n : ℕ) (was image xs ys : List ℕ) → length xs ≡ length ys → AreCopied size was image xs ys → bytes_in size image ys n ≡ bytes_in size was xs n
unfolding bytes_in
same_bytes size n was image xs ys long copied = ap (take n) (flat_same (sector_at size was) (sector_at size image) xs ys long copied)

-- An object of the same size to whose sectors those of another have been copied has its bytes.
pub copied_bytes : (m m' : Map) (o o' : Object) (was image : List ℕ) → m'.geometry ≡ m.geometry → IsAt (Layout.New m) o → IsAt (Layout.New m') o'
    → object_size (dir_form (Layout.New m)) o'.entry ≡ object_size (dir_form (Layout.New m)) o.entry → AreCopied m.geometry.sector was image o.sectors o'.sectors
    → object_bytes image (Layout.New m') o' ≡ object_bytes was (Layout.New m) o
copied_bytes m m' o o' was image geometry at at' size copied =
    let form : dir_form (Layout.New m') ≡ dir_form (Layout.New m) = ap (λ (g : Geometry). let f : NameForm = cond (g.version == 0) Ten Long in f) geometry in
    let size' : object_size (dir_form (Layout.New m')) o'.entry ≡ object_size (dir_form (Layout.New m)) o.entry = ap (λ (f : NameForm). object_size f o'.entry) form ∙ size in
    let long = as_many m m' o.entry.address o'.entry.address (object_size (dir_form (Layout.New m)) o.entry) o.sectors o'.sectors geometry at
    (subst (λ (n : ℕ). sectors_at (Layout.New m') o'.entry.address n ≡ Some o'.sectors) size' at') in
    (λ i. bytes_in (geometry i).sector image o'.sectors (size' i))
    ∙ same_bytes m.geometry.sector (object_size (dir_form (Layout.New m)) o.entry) was image o.sectors o'.sectors long copied
