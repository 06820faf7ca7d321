-- Objects that get other sectors by a new map.
use Rattle.std.proofs.Common.{◌≡◌, ◌<◌, ◌≤◌, ◌⊎◌, inl, inr, ℕ, zero, suc, ◌+◌, Bool, true, false, cond, List, [], ◌∷◌, ◌++◌, length, take, drop, get_or, refl, sym, ap, ap₂, subst, ◌∙◌, arith, Option, Some, None}
use Rattle.std.specs.Prelude.{nat_le, ◌==◌}
use Rattle.std.specs.List.{flat_map}
use Rattle.std.specs.Int.{div_ceil}
use Rattle.std.proofs.lemmas.Bool.{le-leb, leb-true}
use Rattle.std.proofs.lemmas.List.{length-drop}
use Rattle.fc_device.specs.Sectors.{sector_at}
use Rattle.fc_newmap.specs.Map.{Map}
use Rattle.fc_newmap.specs.NewMap.{IsNewMap}
use Rattle.fc_newmap.specs.RunsLaw.{HasZones, IsGeometry}
use Rattle.fc_newmap.proofs.CoverLemmas.{id_Distinct}
use Rattle.fc_newmap.proofs.GeometryLemmas.{geometry_of_valid}
use Rattle.fc_newmap.proofs.HeldLemmas.{geometry_facts}
use Rattle.fc_image.specs.Layout.{Layout, bytes_in, dir_form, first_part, id_of, id_sectors, is_among, is_apart, is_object_id, low_of, low_start, sectors_at}
use Rattle.fc_image.specs.Walk.{Object, object_bytes, object_size}
use Rattle.fc_image.specs.Edits.{IsAt}
use Rattle.fc_image.specs.Moves.{object_in, sectors_or_none}
use Rattle.fc_image.proofs.HolesLemmas.{apart_at, apart_from, in_id}
use Rattle.fc_image.proofs.MoveLemmas.{one_id}
use Rattle.fc_safelaws.specs.Relaid.{AreCopied, IsRelaid, Reaches, RelaidLaw}
use Rattle.fc_safelaws.proofs.PlaceLemmas.{HasPlace, among_place, has_place, in_drop, in_take, one_place, place_among, place_once, to_take}
use Rattle.fc_image.proofs.MapEditLemmas.{at_zones}
pub use Rattle.fc_image.proofs.MapEditLemmas.{zones_back}

-- ---- where sectors stand inside their identifier

first_is : (k : ℕ) (ys xs : List ℕ) → first_part k ys ≡ Some xs → (k ≤ length ys) × (take k ys ≡ xs)
first_is k ys xs e = by (nat_le k (length ys)) refl e
  where
    some_same : (a b : List ℕ) → Some a ≡ Some b → a ≡ b
    some_same a b g = cc

    by : (b : Bool) → nat_le k (length ys) ≡ b → cond b (Some (take k ys)) None ≡ Some xs → (k ≤ length ys) × (take k ys ≡ xs)
    by true h g = (leb-true k (length ys) h, some_same (take k ys) xs g)
    by false h g = absurd (cc)

-- the sectors of some bytes are so many of the identifier's
pub record Within (m : Map) (a n : ℕ) (xs : List ℕ) : Type 0 where
  pub some : (n == 0) ≡ false
  pub room : div_ceil n m.geometry.sector ≤ length (drop (low_start m (low_of a)) (id_sectors m (id_of a)))
  pub is : take (div_ceil n m.geometry.sector) (drop (low_start m (low_of a)) (id_sectors m (id_of a))) ≡ xs

-- of no bytes there are none
pub within : (m : Map) (a n : ℕ) (xs : List ℕ) → sectors_at (Layout.New m) a n ≡ Some xs → (((n == 0) ≡ true) × (xs ≡ [])) ⊎ Within m a n xs
unfolding sectors_at
within m a n xs e = by (n == 0) refl (is_object_id m (id_of a)) e
  where
    some_same : (a b : List ℕ) → Some a ≡ Some b → a ≡ b
    some_same a b g = cc

    by : (b : Bool) → (n == 0) ≡ b → (i : Bool)
        → cond b (Some []) (cond i (first_part (div_ceil n m.geometry.sector) (drop (low_start m (low_of a)) (id_sectors m (id_of a)))) None) ≡ Some xs
        → (((n == 0) ≡ true) × (xs ≡ [])) ⊎ Within m a n xs
    by true h i g = inl (h, sym (some_same [] xs g))
    by false h true g = let f = first_is (div_ceil n m.geometry.sector) (drop (low_start m (low_of a)) (id_sectors m (id_of a))) xs g in inr (record { some = h; room = f.0; is = f.1 })
    by false h false g = absurd (cc)

none_among : (xs : List ℕ) (s : ℕ) → xs ≡ [] → is_among xs s ≡ true → ⊥
none_among xs s none h = let no : is_among [] s ≡ true = subst (λ (ys : List ℕ). is_among ys s ≡ true) none h in cc

-- the place of a sector
stands : (m : Map) (a n : ℕ) (xs : List ℕ) (s : ℕ) → sectors_at (Layout.New m) a n ≡ Some xs → is_among xs s ≡ true
    → (i : ℕ) × ((n == 0) ≡ false) × (i < div_ceil n m.geometry.sector) × HasPlace (id_sectors m (id_of a)) (low_start m (low_of a) + i) s
stands m a n xs s e h = elim (within m a n xs e) [
  | inl none ↦ absurd (none_among xs s none.1 h)
  | inr w ↦
      (let p = among_place xs s h in
      let there = in_take (div_ceil n m.geometry.sector) (drop (low_start m (low_of a)) (id_sectors m (id_of a))) p.0 s (subst (λ (ys : List ℕ). HasPlace ys p.0 s) (sym w.is) p.1) in
      (p.0, w.some, there.0, in_drop (low_start m (low_of a)) (id_sectors m (id_of a)) p.0 s there.1))
]

-- the sector of a place
standing : (m : Map) (a n : ℕ) (xs : List ℕ) (i : ℕ) → sectors_at (Layout.New m) a n ≡ Some xs → (n == 0) ≡ false → i < div_ceil n m.geometry.sector
    → (s : ℕ) × HasPlace (id_sectors m (id_of a)) (low_start m (low_of a) + i) s × (is_among xs s ≡ true)
standing m a n xs i e some low = elim (within m a n xs e) [
  | inl none ↦ absurd (let y = none.0 in cc)
  | inr w ↦
      (let part = drop (low_start m (low_of a)) (id_sectors m (id_of a)) in
      let p = has_place part i (omega (arith, low, w.room)) in
      let taken = to_take (div_ceil n m.geometry.sector) part i p.0 low p.1 in
      (p.0, in_drop (low_start m (low_of a)) (id_sectors m (id_of a)) i p.0 p.1, place_among xs i p.0 (subst (λ (ys : List ℕ). HasPlace ys i p.0) w.is taken)))
]

-- what lies apart by one map lies apart by the other
again : (m : Map) (zs : List (List ℕ)) → IsGeometry m.geometry → HasZones (at_zones m zs) → 1 ≤ m.geometry.zones → (a b n k : ℕ) (xs ys xs' ys' : List ℕ)
    → sectors_at (Layout.New m) a n ≡ Some xs → sectors_at (Layout.New m) b k ≡ Some ys
    → sectors_at (Layout.New (at_zones m zs)) a n ≡ Some xs' → sectors_at (Layout.New (at_zones m zs)) b k ≡ Some ys' → is_apart xs ys ≡ true → is_apart xs' ys' ≡ true
again m zs is has' some a b n k xs ys xs' ys' x y x' y' apart = apart_from xs' ys' (λ s in_x in_y.
    let m' : Map = at_zones m zs in
    let p = stands m' a n xs' s x' in_x in
    let q = stands m' b k ys' s y' in_y in
    let id : id_of a ≡ id_of b = one_id m' is has' some (id_of a) (id_of b) s (in_id m' a n xs' s x' in_x) (in_id m' b k ys' s y' in_y) in
    let there : HasPlace (id_sectors m' (id_of a)) (low_start m (low_of b) + q.0) s = subst (λ (j : ℕ). HasPlace (id_sectors m' j) (low_start m (low_of b) + q.0) s) (sym id) q.3 in
    let same : low_start m (low_of a) + p.0 ≡ low_start m (low_of b) + q.0 =
    one_place (id_sectors m' (id_of a)) (low_start m (low_of a) + p.0) (low_start m (low_of b) + q.0) s (id_Distinct m' is has' some (id_of a)) p.3 there in
    let t = standing m a n xs p.0 x p.1 p.2 in
    let u = standing m b k ys q.0 y q.1 q.2 in
    let moved : HasPlace (id_sectors m (id_of b)) (low_start m (low_of b) + q.0) t.0 =
    subst (λ (i : ℕ). HasPlace (id_sectors m (id_of b)) i t.0) same (subst (λ (j : ℕ). HasPlace (id_sectors m j) (low_start m (low_of a) + p.0) t.0) id t.1) in
    let one : t.0 ≡ u.0 = place_once (id_sectors m (id_of b)) (low_start m (low_of b) + q.0) t.0 u.0 moved u.1 in
    let no = apart_at xs ys t.0 apart t.2 in
    let there' = subst (λ (z : ℕ). is_among ys z ≡ true) (sym one) u.2 in
    cc)

-- the object's sectors by the new map, at its old address
place_now : (m : Map) (zs : List (List ℕ)) (o o' : Object) → IsRelaid m (at_zones m zs) o o'
    → sectors_at (Layout.New (at_zones m zs)) o.entry.address (object_size (dir_form (Layout.New m)) o.entry) ≡ Some o'.sectors
place_now m zs o o' h = ap₂ (λ (a n : ℕ). sectors_at (Layout.New (at_zones m zs)) a n) (sym h.address) (sym h.size) ∙ h.now

apart_core : (m : Map) (zs : List (List ℕ)) (o p o' p' : Object) → IsNewMap (at_zones m zs) → IsRelaid m (at_zones m zs) o o' → IsRelaid m (at_zones m zs) p p' → is_apart o.sectors p.sectors ≡ true
    → is_apart o'.sectors p'.sectors ≡ true
apart_core m zs o p o' p' is h j apart =
    let shaped : IsGeometry m.geometry = subst IsGeometry is.of_record.1.1 (geometry_of_valid is.of_record.0 is.of_record.1.0) in
    again m zs shaped is.right (geometry_facts m.geometry is.of_record).zones o.entry.address p.entry.address (object_size (dir_form (Layout.New m)) o.entry) (object_size (dir_form (Layout.New m)) p.entry)
    o.sectors p.sectors o'.sectors p'.sectors h.before j.before (place_now m zs o o' h) (place_now m zs p p' j) apart

apart' : (m m' : Map) (o p o' p' : Object) → IsNewMap m' → m'.geometry ≡ m.geometry → IsRelaid m m' o o' → IsRelaid m m' p p' → is_apart o.sectors p.sectors ≡ true
    → is_apart o'.sectors p'.sectors ≡ true
apart' m m' o p o' p' is geometry h j apart =
    let back = sym (zones_back m m' geometry) in
    apart_core m m'.zones o p o' p' (subst IsNewMap back is) (subst (λ (n : Map). IsRelaid m n o o') back h) (subst (λ (n : Map). IsRelaid m n p p') back j) apart

-- ---- how many

many : (k : ℕ) (us vs : List ℕ) → k ≤ length us → k ≤ length vs → length (take k us) ≡ length (take k vs)
many zero us vs a b = refl
many (suc k) [] vs a b = absurd (omega (arith, a))
many (suc k) (u ∷ us) [] a b = absurd (omega (arith, b))
many (suc k) (u ∷ us) (w ∷ vs) a b = ap (λ (n : ℕ). suc n) (many k us vs (omega (arith, a)) (omega (arith, b)))

as_many_at : (m : Map) (zs : List (List ℕ)) (a n : ℕ) (xs ys : List ℕ) → sectors_at (Layout.New m) a n ≡ Some xs → sectors_at (Layout.New (at_zones m zs)) a n ≡ Some ys → length xs ≡ length ys
as_many_at m zs a n xs ys x y = elim (within m a n xs x) [
  | inl none ↦ (elim (within (at_zones m zs) a n ys y) [
    | inl none' ↦ ap (λ (l : List ℕ). length l) (none.1 ∙ sym none'.1)
    | inr w ↦ absurd (let y = none.0 in let no = w.some in cc)
  ])
  | inr w ↦ (elim (within (at_zones m zs) a n ys y) [
    | inl none ↦ absurd (let y = none.0 in let no = w.some in cc)
    | inr w' ↦ sym (ap (λ (l : List ℕ). length l) w.is) ∙ many (div_ceil n m.geometry.sector) _ _ w.room w'.room ∙ ap (λ (l : List ℕ). length l) w'.is
  ])
]

as_many' : (m m' : Map) (o o' : Object) → m'.geometry ≡ m.geometry → IsRelaid m m' o o' → length o'.sectors ≡ length o.sectors
as_many' m m' o o' geometry h =
    let h' : IsRelaid m (at_zones m m'.zones) o o' = subst (λ (n : Map). IsRelaid m n o o') (sym (zones_back m m' geometry)) h in
    sym (as_many_at m m'.zones o.entry.address (object_size (dir_form (Layout.New m)) o.entry) o.sectors o'.sectors h'.before (place_now m m'.zones o o' h'))

-- ---- bytes

pub flat_same : (f g : ℕ → List ℕ) (xs ys : List ℕ) → length xs ≡ length ys → ((i : ℕ) → i < length ys → g (get_or ys i 0) ≡ f (get_or xs i 0)) → flat_map g ys ≡ flat_map f xs
flat_same f g [] [] long same = refl
flat_same f g [] (y ∷ ys) long same = absurd (omega (arith, long))
flat_same f g (x ∷ xs) [] long same = absurd (omega (arith, long))
flat_same f g (x ∷ xs) (y ∷ ys) long same =
    ap₂ (λ (a b : List ℕ). a ++ b) (same 0 (omega arith)) (flat_same f g xs ys (omega (arith, long)) (λ i low. same (suc i) (omega (arith, low))))

bytes_core : (m : Map) (zs : List (List ℕ)) (o o' : Object) (was image : List ℕ) → IsRelaid m (at_zones m zs) o o' → AreCopied m.geometry.sector was image o.sectors o'.sectors
    → object_bytes image (Layout.New (at_zones m zs)) o' ≡ object_bytes was (Layout.New m) o
unfolding bytes_in
bytes_core m zs o o' was image h copied =
    ap₂ (λ (n : ℕ) (bytes : List ℕ). take n bytes) h.size
    (flat_same (sector_at m.geometry.sector was) (sector_at m.geometry.sector image) o.sectors o'.sectors
    (as_many_at m zs o.entry.address (object_size (dir_form (Layout.New m)) o.entry) o.sectors o'.sectors h.before (place_now m zs o o' h)) copied)

bytes' : (m m' : Map) (o o' : Object) (was image : List ℕ) → m'.geometry ≡ m.geometry → IsRelaid m m' o o' → AreCopied m.geometry.sector was image o.sectors o'.sectors
    → object_bytes image (Layout.New m') o' ≡ object_bytes was (Layout.New m) o
bytes' m m' o o' was image geometry h copied =
    let back = zones_back m m' geometry in
    subst (λ (n : Map). object_bytes image (Layout.New n) o' ≡ object_bytes was (Layout.New m) o) back
    (bytes_core m m'.zones o o' was image (subst (λ (n : Map). IsRelaid m n o o') (sym back) h) copied)

-- ---- places

placed_at : (m : Map) (a n : ℕ) → (0 < n → is_object_id m (id_of a) ≡ true) → (0 < n → low_start m (low_of a) + div_ceil n m.geometry.sector ≤ length (id_sectors m (id_of a)))
    → (xs : List ℕ) × (sectors_at (Layout.New m) a n ≡ Some xs)
unfolding sectors_at
placed_at m a n id long = by (n == 0) refl
  where
    some : (k : ℕ) (ys : List ℕ) → k ≤ length ys → (xs : List ℕ) × (first_part k ys ≡ Some xs)
    some k ys low = (take k ys, ap (λ (b : Bool). cond b (Some (take k ys)) None) (le-leb k (length ys) low))

    behind : (k j : ℕ) (ys : List ℕ) → k + j ≤ length ys → j ≤ length (drop k ys)
    behind k j ys low = let e = length-drop k ys in omega (arith, low, e)

    positive : (k : ℕ) → (k == 0) ≡ false → 0 < k
    positive zero e = absurd (cc)
    positive (suc k) e = omega arith

    there : 0 < n → (i : Bool) → i ≡ true
        → (xs : List ℕ) × (cond i (first_part (div_ceil n m.geometry.sector) (drop (low_start m (low_of a)) (id_sectors m (id_of a)))) None ≡ Some xs)
    there more true h = some (div_ceil n m.geometry.sector) (drop (low_start m (low_of a)) (id_sectors m (id_of a))) (behind (low_start m (low_of a)) (div_ceil n m.geometry.sector) (id_sectors m (id_of a)) (long more))
    there more false h = absurd (cc)

    by : (b : Bool) → (n == 0) ≡ b
        → (xs : List ℕ) × (cond b (Some []) (cond (is_object_id m (id_of a)) (first_part (div_ceil n m.geometry.sector) (drop (low_start m (low_of a)) (id_sectors m (id_of a)))) None) ≡ Some xs)
    by true e = ([], refl)
    by false e = there (positive n e) (is_object_id m (id_of a)) (id (positive n e))

placed' : (m : Map) (o : Object) → Reaches m o → IsAt (Layout.New m) (object_in (Layout.New m) o)
placed' m o h =
    let p = placed_at m o.entry.address (object_size (dir_form (Layout.New m)) o.entry) h.id h.long in
    p.1 ∙ ap (λ (q : Option (List ℕ)). Some (sectors_or_none q)) (sym p.1)

pub relaid_law : RelaidLaw
relaid_law = record { placed = placed'; as_many = as_many'; apart = apart'; bytes = bytes' }
