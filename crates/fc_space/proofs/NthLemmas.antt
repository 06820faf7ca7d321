-- The sectors of places, one by one.
use Rattle.std.proofs.Common.{◌≡◌, ◌<◌, ◌≤◌, ℕ, zero, suc, ◌+◌, ◌-◌, ◌*◌, ◌/◌, ◌%◌, ◌^◌, ◌⊎◌, inl, inr, Bool, true, false, List, [], ◌∷◌, ◌++◌, length, take, drop, Option, Some, None, refl, sym, ap, ◌∙◌, subst, arith}
use Rattle.std.specs.Prelude.{nat_le, ◌==◌, ◌&&◌, ◌||◌, if◌then◌else◌, get_or, slice_get, is_some}
use Rattle.std.specs.List.{range_with_len}
use Rattle.std.specs.Option.{IsSome, option_and_then}
use Rattle.std.specs.Int.{div_ceil}
use Rattle.std.proofs.Math.Nat.{div-mul-le_self}
use Rattle.std.proofs.lemmas.Bool.{cases_lt, eq-eqb, eqb-true, leb-true}
use Rattle.std.proofs.lemmas.Grind.{div_ceil_times}
use Rattle.std.proofs.lemmas.Nat.{mul-le}
use Rattle.std.proofs.lemmas.List.{length-take-le}
use Rattle.std.proofs.lemmas.List.FromFn.{get_or-range_with_len, length-range_with_len}
use Rattle.std.proofs.lemmas.Option.{slice_get_within, slice_get-get_or}
use Rattle.fc_device.specs.declared.disk.Extent.{Extent}
use Rattle.fc_oldmap.specs.OldMap.{OldMapContent}
use Rattle.fc_newmap.specs.declared.runs.RunCursor.{RunCursor}
use Rattle.fc_newmap.specs.Map.{Map, ZoneRun, extent_of, run_sectors, sectors_of}
use Rattle.fc_newmap.specs.NewMap.{IsNewMap}
use Rattle.fc_newmap.specs.Walk.{StandsAt}
use Rattle.fc_newmap.proofs.HeldLemmas.{geometry_facts}
use Rattle.fc_image.specs.Layout.{Layout, disc_sectors, first_part, id_of, id_sectors, is_among, is_object_id, low_of, low_start, new_sectors, old_sectors, sector_bytes, sectors_at, some_sectors}
use Rattle.fc_space.specs.Space.{PlacesSuffice, Suffice, nth_sector}
use Rattle.fc_space.proofs.DiscLemmas.{first_is, id_on_disc, old_suffice, part_suffices}
use Rattle.fc_space.proofs.SearchLemmas.{IsNextOf}

-- ---- lists

pub nth_take : (k n s : ℕ) (xs : List ℕ) → slice_get (take k xs) n ≡ Some s → slice_get xs n ≡ Some s
nth_take zero n s xs e = absurd (cc)
nth_take (suc k) n s [] e = e
nth_take (suc k) zero s (x ∷ xs) e = e
nth_take (suc k) (suc n) s (x ∷ xs) e = nth_take k n s xs e

nth_drop : (i n j : ℕ) (xs : List ℕ) → j ≡ i + n → slice_get (drop i xs) n ≡ slice_get xs j
nth_drop zero n j xs e = ap (slice_get xs) (let f : n ≡ j = omega (arith, e) in f)
nth_drop (suc i) n j [] e = refl
nth_drop (suc i) n zero (x ∷ xs) e = absurd (omega (arith, e))
nth_drop (suc i) n (suc j) (x ∷ xs) e = nth_drop i n j xs (omega (arith, e))

nth_back : (xs ys : List ℕ) (n : ℕ) → length xs ≤ n → slice_get (xs ++ ys) n ≡ slice_get ys (n - length xs)
nth_back [] ys n past = ap (slice_get ys) (let f : n ≡ n - 0 = omega arith in f)
nth_back (x ∷ xs) ys zero past = absurd (omega (arith, past))
nth_back (x ∷ xs) ys (suc n) past = nth_back xs ys n (omega (arith, past)) ∙ ap (slice_get ys) (let f : n - length xs ≡ suc n - suc (length xs) = omega arith in f)

nth_front : (xs ys : List ℕ) (n : ℕ) → n < length xs → slice_get (xs ++ ys) n ≡ slice_get xs n
nth_front [] ys n within = absurd (omega (arith, within))
nth_front (x ∷ xs) ys zero within = refl
nth_front (x ∷ xs) ys (suc n) within = nth_front xs ys n (omega (arith, within))

nth_range : (a count n : ℕ) → n < count → slice_get (range_with_len a count) n ≡ Some (a + n)
nth_range a count n within =
    slice_get-get_or (range_with_len a count) n 0 (omega (arith, within, length-range_with_len a count))
    ∙ ap (λ (x : ℕ). let o : Option ℕ = Some x in o) (get_or-range_with_len a count n 0 within)

pub nth_among : (n s : ℕ) (xs : List ℕ) → slice_get xs n ≡ Some s → is_among xs s ≡ true
nth_among n s [] e = absurd (cc)
nth_among zero s (x ∷ xs) e = ap (λ (b : Bool). b || is_among xs s) (eq-eqb x s (let f : x ≡ s = cc in f))
nth_among (suc n) s (x ∷ xs) e = by (x == s) (is_among xs s) (nth_among n s xs e)
  where
    by : (b c : Bool) → c ≡ true → (b || c) ≡ true
    by true c f = refl
    by false c f = f

pub nth_cases : (o : Option (List ℕ)) (n s : ℕ) → option_and_then (λ sectors. slice_get sectors n) o ≡ Some s → (xs : List ℕ) × (o ≡ Some xs) × (slice_get xs n ≡ Some s)
nth_cases None n s e = absurd (cc)
nth_cases (Some xs) n s e = (xs, refl, e)

pub some_number : (o : Option ℕ) → is_some o ≡ true → (s : ℕ) × (o ≡ Some s)
some_number None e = absurd (cc)
some_number (Some s) e = (s, refl)

-- ---- what bytes at an address take

some_of : (layout : Layout) (address bytes : ℕ) (xs : List ℕ) → sectors_at layout address bytes ≡ Some xs → (xs ≡ []) ⊎ (some_sectors layout address bytes ≡ Some xs)
unfolding sectors_at
some_of layout address bytes xs e = by (bytes == 0) e
  where
    by : (b : Bool) → (if b then Some [] else some_sectors layout address bytes) ≡ Some xs → (xs ≡ []) ⊎ (some_sectors layout address bytes ≡ Some xs)
    by true f = inl (let g : xs ≡ [] = cc in g)
    by false f = inr f

-- a sector of bytes that have a place is one of some bytes
nth_some : (layout : Layout) (address bytes n s : ℕ) → nth_sector layout address bytes n ≡ Some s → (xs : List ℕ) × (some_sectors layout address bytes ≡ Some xs) × (slice_get xs n ≡ Some s)
nth_some layout address bytes n s e =
    let c = nth_cases (sectors_at layout address bytes) n s e in
    elim (some_of layout address bytes c.0 c.1) [
      | inl none ↦ absurd (let f : slice_get {X = ℕ} [] n ≡ Some s = subst (λ (xs : List ℕ). slice_get xs n ≡ Some s) none c.2 in cc)
      | inr some ↦ (c.0, some, c.2)
    ]

old_part : (space : OldMapContent) (address bytes : ℕ) (xs : List ℕ) → old_sectors space address bytes ≡ Some xs
    → (address / space.sector_units + div_ceil bytes (256 * space.sector_units) ≤ space.disc_units / space.sector_units)
    × (xs ≡ range_with_len (address / space.sector_units) (div_ceil bytes (256 * space.sector_units)))
old_part space address bytes xs e =
    by (address % space.sector_units == 0) (nat_le (address / space.sector_units + div_ceil bytes (256 * space.sector_units)) (space.disc_units / space.sector_units)) refl e
  where
    row : List ℕ
    row = range_with_len (address / space.sector_units) (div_ceil bytes (256 * space.sector_units))

    by : (a b : Bool) → nat_le (address / space.sector_units + div_ceil bytes (256 * space.sector_units)) (space.disc_units / space.sector_units) ≡ b → (if a && b then Some row else None) ≡ Some xs
        → (address / space.sector_units + div_ceil bytes (256 * space.sector_units) ≤ space.disc_units / space.sector_units) × (xs ≡ row)
    by true true h f = (leb-true (address / space.sector_units + div_ceil bytes (256 * space.sector_units)) (space.disc_units / space.sector_units) h, (let g : xs ≡ row = cc in g))
    by true false h f = absurd (cc)
    by false b h f = absurd (cc)

-- on an old map sectors stand in a row
pub old_nth : (space : OldMapContent) (address bytes n s : ℕ) → nth_sector (Layout.Old space) address bytes n ≡ Some s
    → (s ≡ address / space.sector_units + n) × (s < space.disc_units / space.sector_units)
old_nth space address bytes n s e =
    let c = nth_some (Layout.Old space) address bytes n s e in
    let part = old_part space address bytes c.0 c.1 in
    let count = div_ceil bytes (256 * space.sector_units) in
    let first = address / space.sector_units in
    let at : slice_get (range_with_len first count) n ≡ Some s = subst (λ (xs : List ℕ). slice_get xs n ≡ Some s) part.1 c.2 in
    let within : n < count = (let w = slice_get_within (range_with_len first count) n s at in omega (arith, w, length-range_with_len first count)) in
    let is : s ≡ first + n = (let f = nth_range first count n within in cc) in
    (is, omega (arith, is, within, part.0))

new_part : (m : Map) (address bytes : ℕ) (xs : List ℕ) → new_sectors m address bytes ≡ Some xs
    → first_part (div_ceil bytes m.geometry.sector) (drop (low_start m (low_of address)) (id_sectors m (id_of address))) ≡ Some xs
new_part m address bytes xs e = by (is_object_id m (id_of address)) e
  where
    part : Option (List ℕ)
    part = first_part (div_ceil bytes m.geometry.sector) (drop (low_start m (low_of address)) (id_sectors m (id_of address)))

    by : (b : Bool) → (if b then part else None) ≡ Some xs → part ≡ Some xs
    by true f = f
    by false f = absurd (cc)

-- On a new map they are those of the identifier, from the low byte's place on. Few numbers are in use.
pub new_nth : (m : Map) (address bytes n s : ℕ) → IsNewMap m → bytes < 2 ^ 64 → nth_sector (Layout.New m) address bytes n ≡ Some s
    → (slice_get (id_sectors m (id_of address)) (low_start m (low_of address) + n) ≡ Some s) × (s < disc_sectors (Layout.New m)) × (n < 2 ^ 63)
new_nth m address bytes n s is low e =
    let c = nth_some (Layout.New m) address bytes n s e in
    let part = new_part m address bytes c.0 c.1 in
    let from = low_start m (low_of address) in
    let ids = id_sectors m (id_of address) in
    let count = div_ceil bytes m.geometry.sector in
    let first = first_is count (drop from ids) c.0 part in
    let taken : slice_get (take count (drop from ids)) n ≡ Some s = subst (λ (xs : List ℕ). slice_get xs n ≡ Some s) (sym first.1) c.2 in
    let at : slice_get ids (from + n) ≡ Some s = sym (nth_drop from n (from + n) ids refl) ∙ nth_take count n s (drop from ids) taken in
    let within : n < count = (let w = slice_get_within (take count (drop from ids)) n s taken in omega (arith, w, length-take-le count (drop from ids) first.0)) in
    let size = (geometry_facts m.geometry is.of_record).size in
    let big : 256 ≤ m.geometry.sector = omega (arith, size) in
    let most : m.geometry.sector ≤ 1024 = omega (arith, size) in
    let times = (div_ceil_times bytes m.geometry.sector (omega (arith, big))).1 in
    let less : count * 256 ≤ count * m.geometry.sector = mul-le count 256 count m.geometry.sector (omega arith) big in
    (at, id_on_disc m is (id_of address) s (nth_among (from + n) s ids at), omega (arith, within, times, less, most, low))

-- ---- a walk to one sector

-- The sector that is sought is that of number `left'` among those of the runs that are left.
pub record Seeks (m : Map) (id number : ℕ) (cursor : RunCursor) (left' : ℕ) : Type 0 where
  pub left : List ZoneRun
  pub stands : StandsAt m left cursor
  pub sought : slice_get (id_sectors m id) number ≡ slice_get (sectors_of m.geometry left) left'

-- the run in front of the cursor
module _ (m : Map) (id number : ℕ) (old new : RunCursor) (left' : ℕ) (result : Option ZoneRun) (s : Seeks m id number old left')
    (next : (left : List ZoneRun) → StandsAt m left old → IsNextOf m left new result) where
  pub not_there : result ≡ None → slice_get (id_sectors m id) number ≡ None
  not_there is =
      let step : IsNextOf m s.left new None = subst (IsNextOf m s.left new) is (next s.left s.stands) in
      s.sought ∙ ap (λ (l : List ZoneRun). slice_get (sectors_of m.geometry l) left') step.0

  module _ (p : ZoneRun) (extent : Extent) (is : result ≡ Some p) (e : extent ≡ extent_of m.geometry p) where
    long : length (run_sectors m.geometry p) ≡ extent.sectors
    long = length-range_with_len (extent_of m.geometry p).first (extent_of m.geometry p).sectors ∙ ap (λ (x : Extent). x.sectors) (sym e)

    step : IsNextOf m s.left new (Some p)
    step = subst (IsNextOf m s.left new) is (next s.left s.stands)

    pub sought_here : left' < extent.sectors → slice_get (id_sectors m id) number ≡ Some (extent.first + left')
    sought_here within =
        s.sought ∙ ap (λ (l : List ZoneRun). slice_get (sectors_of m.geometry l) left') step.1.0
        ∙ nth_front (run_sectors m.geometry p) (sectors_of m.geometry step.0) left' (omega (arith, long, within))
        ∙ nth_range (extent_of m.geometry p).first (extent_of m.geometry p).sectors left' (omega (arith, ap (λ (x : Extent). x.sectors) e, within))
        ∙ ap (λ (x : ℕ). let o : Option ℕ = Some (x + left') in o) (ap (λ (x : Extent). x.first) (sym e))

    pub sought_behind : extent.sectors ≤ left' → Seeks m id number new (left' - extent.sectors)
    sought_behind past = record {
      left = step.0;
      stands = step.1.1;
      sought = s.sought ∙ ap (λ (l : List ZoneRun). slice_get (sectors_of m.geometry l) left') step.1.0
          ∙ nth_back (run_sectors m.geometry p) (sectors_of m.geometry step.0) left' (omega (arith, long, past))
          ∙ ap (λ (k : ℕ). slice_get (sectors_of m.geometry step.0) (left' - k)) long;
    }

-- ---- by the map of a disc

-- on an old map
pub old_is : (layout : Layout) (space : OldMapContent) (address bytes n first : ℕ) → layout ≡ Layout.Old space → first ≡ address / space.sector_units → IsSome (nth_sector layout address bytes n)
    → (nth_sector layout address bytes n ≡ Some (first + n)) × (first + n < disc_sectors layout)
old_is layout space address bytes n first is at some =
    let s = some_number (nth_sector layout address bytes n) some in
    let o = old_nth space address bytes n s.0 (subst (λ (l : Layout). nth_sector l address bytes n ≡ Some s.0) is s.1) in
    let same : s.0 ≡ first + n = omega (arith, at, o.0) in
    (s.1 ∙ ap (λ (x : ℕ). let r : Option ℕ = Some x in r) same, subst (λ (l : Layout). first + n < disc_sectors l) (sym is) (omega (arith, same, o.1)))

-- on a new map
pub record IsNth (layout : Layout) (m : Map) (address bytes n : ℕ) : Type 0 where
  pub sector : ℕ
  pub is : nth_sector layout address bytes n ≡ Some sector
  pub at : slice_get (id_sectors m (id_of address)) (low_start m (low_of address) + n) ≡ Some sector
  pub on_disc : sector < disc_sectors layout
  pub few : n < 2 ^ 63

pub new_is : (layout : Layout) (m : Map) (address bytes n : ℕ) → layout ≡ Layout.New m → IsNewMap m → bytes < 2 ^ 64 → IsSome (nth_sector layout address bytes n) → IsNth layout m address bytes n
new_is layout m address bytes n is map low some =
    let s = some_number (nth_sector layout address bytes n) some in
    let o = new_nth m address bytes n s.0 map low (subst (λ (l : Layout). nth_sector l address bytes n ≡ Some s.0) is s.1) in
    record { sector = s.0; is = s.1; at = o.0; on_disc = subst (λ (l : Layout). s.0 < disc_sectors l) (sym is) o.1; few = o.2 }

-- Few numbers are in use on an old map too.
pub old_few : (layout : Layout) (space : OldMapContent) (address bytes n units : ℕ) → layout ≡ Layout.Old space → units ≡ space.sector_units → (units ≡ 1) ⊎ (units ≡ 4) → bytes < 2 ^ 64
    → IsSome (nth_sector layout address bytes n) → n < 2 ^ 63
old_few layout space address bytes n units is u either low some =
    let s = some_number (nth_sector layout address bytes n) some in
    let c = nth_some (Layout.Old space) address bytes n s.0 (subst (λ (l : Layout). nth_sector l address bytes n ≡ Some s.0) is s.1) in
    let part = old_part space address bytes c.0 c.1 in
    let size = 256 * space.sector_units in
    let count = div_ceil bytes size in
    let at : slice_get (range_with_len (address / space.sector_units) count) n ≡ Some s.0 = subst (λ (xs : List ℕ). slice_get xs n ≡ Some s.0) part.1 c.2 in
    let within : n < count = (let w = slice_get_within (range_with_len (address / space.sector_units) count) n s.0 at in omega (arith, w, length-range_with_len (address / space.sector_units) count)) in
    let big : 256 ≤ size = omega (arith, u, either) in
    let most : size ≤ 1024 = omega (arith, u, either) in
    let times = (div_ceil_times bytes size (omega (arith, big))).1 in
    let less : count * 256 ≤ count * size = mul-le count 256 count size (omega arith) big in
    omega (arith, within, times, less, most, low)

pub same_sector : (o : Option ℕ) (s t : ℕ) → o ≡ Some s → o ≡ Some t → s ≡ t
same_sector o s t e f = cc

-- ---- places lie on the disc

empty_suffices : (layout : Layout) (bytes : ℕ) (xs : List ℕ) → bytes ≡ 0 → xs ≡ [] → Suffice layout bytes xs
empty_suffices layout bytes xs none empty =
    subst (λ (ys : List ℕ). Suffice layout bytes ys) (sym empty) (record { on_disc = λ s e. absurd (cc); room = omega (arith, none) })

-- no bytes, or some
either_way : (layout : Layout) (address bytes : ℕ) (xs : List ℕ) → sectors_at layout address bytes ≡ Some xs → ((bytes ≡ 0) × (xs ≡ [])) ⊎ (some_sectors layout address bytes ≡ Some xs)
unfolding sectors_at
either_way layout address bytes xs e = by (bytes == 0) refl e
  where
    by : (b : Bool) → (bytes == 0) ≡ b → (if b then Some [] else some_sectors layout address bytes) ≡ Some xs → ((bytes ≡ 0) × (xs ≡ [])) ⊎ (some_sectors layout address bytes ≡ Some xs)
    by true h f = inl (eqb-true bytes 0 h, (let g : xs ≡ [] = cc in g))
    by false h f = inr f

pub new_places : (m : Map) → IsNewMap m → PlacesSuffice (Layout.New m)
new_places m is address bytes sectors e = elim (either_way (Layout.New m) address bytes sectors e) [
  | inl none ↦ empty_suffices (Layout.New m) bytes sectors none.0 none.1
  | inr some ↦ part_suffices m is (id_of address) (low_start m (low_of address)) (div_ceil bytes m.geometry.sector) m.geometry.sector bytes sectors refl refl (new_part m address bytes sectors some)
]

pub old_places : (space : OldMapContent) → 0 < space.sector_units → PlacesSuffice (Layout.Old space)
old_places space units address bytes sectors e = elim (either_way (Layout.Old space) address bytes sectors e) [
  | inl none ↦ empty_suffices (Layout.Old space) bytes sectors none.0 none.1
  | inr some ↦ (
      let part = old_part space address bytes sectors some in
      old_suffice space bytes (address / space.sector_units) (div_ceil bytes (256 * space.sector_units)) sectors units part.1 refl part.0)
]

-- a place in bytes that have one lies in one of their sectors
pub sector_there : (layout : Layout) (address len size at : ℕ) (sectors : List ℕ) → sectors_at layout address len ≡ Some sectors → PlacesSuffice layout → size ≡ sector_bytes layout → at < len
    → IsSome (nth_sector layout address len (at / size))
sector_there layout address len size at sectors e suffice is within =
    let s = suffice address len sectors e in
    let room : len ≤ length sectors * size = subst (λ (n : ℕ). len ≤ length sectors * n) (sym is) s.room in
    let below = div-mul-le_self at size in
    let less : at / size < length sectors = elim (cases_lt (at / size) (length sectors)) [
      | inl low ↦ low
      | inr high ↦ absurd (let more = mul-le (length sectors) size (at / size) size (omega (arith, high)) (omega arith) in omega (arith, more, below, room, within))
    ] in
    let there : nth_sector layout address len (at / size) ≡ Some (get_or sectors (at / size) 0) =
    ap (option_and_then (λ (xs : List ℕ). slice_get xs (at / size))) e ∙ slice_get-get_or sectors (at / size) 0 less in
    ap is_some there
