-- Why an old map on which nothing is left to do has at most one hole, if no sector is lost.
use Rattle.std.proofs.Common.{◌≡◌, ◌≢◌, ◌<◌, ◌≤◌, ◌⊎◌, inl, inr, ⊎_elim, ℕ, zero, suc, ◌+◌, ◌-◌, ◌*◌, ◌/◌, ◌%◌, Bool, true, false, not, cond, List, [], ◌∷◌, length, refl, sym, ap, ap₂, subst, ◌∙◌, arith}
use Rattle.std.specs.Prelude.{◌==◌, ◌||◌, ◌&&◌, nat_le, nat_lt, Contains}
use Rattle.std.specs.List.{list_any, list_all, flat_map, filter, range_with_len}
use Rattle.std.proofs.lemmas.Bool.{cases_eq, eqb-true, eqb-false, eq-eqb, leb-true, lt-ltb, false_from_ne_true as not_true, not-true as was_false, not-false as was_true}
use Rattle.std.proofs.lemmas.Bool.Decides.{nat_tests}
use Rattle.std.proofs.lemmas.List.Folds.{list_any-append}
use Rattle.fc_oldmap.specs.declared.Hole.{Hole}
use Rattle.fc_oldmap.specs.Holes.{hole_end, IsHole, AreHoles}
use Rattle.fc_oldmap.specs.OldMap.{OldMapContent, map_units}
use Rattle.fc_image.specs.Layout.{Layout, hole_sectors, hole_sectors_in, is_among, map_place}
use Rattle.fc_image.specs.Walk.{Object}
use Rattle.fc_image.specs.Objects.{has_sectors}
use Rattle.fc_image.specs.Report.{is_lost_sector}
use Rattle.fc_image.specs.OldMaps.{LiesOnOldMap}
use Rattle.fc_image.specs.effects.Settled.{are_apart, is_object_start}
use Rattle.fc_image.specs.effects.Steady.{lost_sectors}
use Rattle.fc_image.specs.effects.Laws.{OneHoleLaw}
use Rattle.fc_zone.proofs.ReadingLemmas.{first_part as and_left}
use Rattle.fc_record.proofs.KindLemmas.{and_second as and_right, or_second as or_right}

-- ---- facts of every element

abbrev pub Every : {A : Type 0} → (A → Type 0) → List A → Type 0
Every P [] = Unit {0}
Every P (x ∷ xs) = P x × Every P xs

module _ {A : Type 0} (P : A → Type 0) where
  every-map : (Q : A → Type 0) → ((x : A) → P x → Q x) → (xs : List A) → Every P xs → Every Q xs
  every-map Q f [] all = tt
  every-map Q f (x ∷ xs) (p, all) = (f x p, every-map Q f xs all)

  every-both : (Q R : A → Type 0) → ((x : A) → P x → Q x → R x) → (xs : List A) → Every P xs → Every Q xs → Every R xs
  every-both Q R f [] all too = tt
  every-both Q R f (x ∷ xs) (p, all) (q, too) = (f x p q, every-both Q R f xs all too)

  every_contained : (xs : List A) → ((x : A) → Contains xs x → P x) → Every P xs
  every_contained [] each = tt
  every_contained (x ∷ xs) each = (each x (0, omega arith, refl), every_contained xs (λ y there. each y (suc there.0, omega (arith, there.1), there.2)))

-- ---- tests

or_left : (a b : Bool) → (a || b) ≡ false → a ≡ false
or_left true b e = e
or_left false b e = refl

pub differ : true ≡ false → ⊥
differ e = cc

middle_off : (x y z : Bool) → (x && y && z) ≡ false → x ≡ true → z ≡ true → y ≡ false
middle_off x y z e f g = grind (arith, e, f, g)

lost_there : (a b c : Bool) → a ≡ false → b ≡ false → c ≡ false → (not a && not b && not c) ≡ true
lost_there a b c e f g = rw (e, f, g) refl

last_in : (a t e : ℕ) → a < t → t ≡ e → (nat_le a (t - 1) && nat_lt (t - 1) e) ≡ true
last_in a t e lt same = grind (arith, nat_tests, lt, same)

inner : (a t e : ℕ) → a < t → t < e → (nat_le a (t - 1) && nat_lt (t - 1) e) ≡ true
inner a t e lt high = grind (arith, nat_tests, lt, high)

not_below : (n t : ℕ) → n ≤ t → (nat_le 0 t && nat_lt t (0 + n)) ≡ false
not_below n t le = grind (arith, nat_tests, le)

-- ---- units and sectors: a sector has one unit or four

module _ (u : ℕ) (units : (u ≡ 1) ⊎ (u ≡ 4)) where
  whole_len : (start len : ℕ) → start % u ≡ 0 → (start + len) % u ≡ 0 → len % u ≡ 0
  whole_len start len = ⊎_elim
      (λ e. subst (λ (v : ℕ). start % v ≡ 0 → (start + len) % v ≡ 0 → len % v ≡ 0) (sym e) (λ a b. omega arith))
      (λ e. subst (λ (v : ℕ). start % v ≡ 0 → (start + len) % v ≡ 0 → len % v ≡ 0) (sym e) (λ a b. omega (arith, a, b))) units

  quotient-sum : (a n : ℕ) → a % u ≡ 0 → n % u ≡ 0 → (a + n) / u ≡ a / u + n / u
  quotient-sum a n wa wn = ⊎_elim
      (λ e. subst (λ (v : ℕ). a % v ≡ 0 → n % v ≡ 0 → (a + n) / v ≡ a / v + n / v) (sym e) (λ w l. omega (arith, w, l)) wa wn)
      (λ e. subst (λ (v : ℕ). a % v ≡ 0 → n % v ≡ 0 → (a + n) / v ≡ a / v + n / v) (sym e) (λ w l. omega (arith, w, l)) wa wn) units

  quotient-le : (a b : ℕ) → a ≤ b → a / u ≤ b / u
  quotient-le a b le = ⊎_elim
      (λ e. subst (λ (v : ℕ). a / v ≤ b / v) (sym e) (omega (arith, le)))
      (λ e. subst (λ (v : ℕ). a / v ≤ b / v) (sym e) (omega (arith, le))) units

  quotient-lt : (a b : ℕ) → a % u ≡ 0 → b % u ≡ 0 → a < b → a / u < b / u
  quotient-lt a b wa wb lt = ⊎_elim
      (λ e. subst (λ (v : ℕ). a % v ≡ 0 → b % v ≡ 0 → a < b → a / v < b / v) (sym e) (λ x y l. omega (arith, l)) wa wb lt)
      (λ e. subst (λ (v : ℕ). a % v ≡ 0 → b % v ≡ 0 → a < b → a / v < b / v) (sym e) (λ x y l. omega (arith, x, y, l)) wa wb lt) units

  times_back : (n : ℕ) → n % u ≡ 0 → u * (n / u) ≡ n
  times_back n whole = ⊎_elim
      (λ e. subst (λ (v : ℕ). n % v ≡ 0 → v * (n / v) ≡ n) (sym e) (λ w. omega arith) whole)
      (λ e. subst (λ (v : ℕ). n % v ≡ 0 → v * (n / v) ≡ n) (sym e) (λ w. omega (arith, w)) whole) units

  scaled : (a n s : ℕ) → a % u ≡ 0 → n % u ≡ 0 → (nat_le (a / u) s && nat_lt s (a / u + n / u)) ≡ (nat_le a (u * s) && nat_lt (u * s) (a + n))
  scaled a n s wa wn = ⊎_elim
      (λ e. subst (λ (v : ℕ). a % v ≡ 0 → n % v ≡ 0 → (nat_le (a / v) s && nat_lt s (a / v + n / v)) ≡ (nat_le a (v * s) && nat_lt (v * s) (a + n))) (sym e) (λ x y. grind (arith, nat_tests)) wa wn)
      (λ e. subst (λ (v : ℕ). a % v ≡ 0 → n % v ≡ 0 → (nat_le (a / v) s && nat_lt s (a / v + n / v)) ≡ (nat_le a (v * s) && nat_lt (v * s) (a + n))) (sym e) (λ x y. grind (arith, nat_tests, x, y)) wa wn) units

-- ---- sectors of holes

covers_unit : ℕ → Hole → Bool
covers_unit n h = nat_le h.start n && nat_lt n (hole_end h)

covers : List Hole → ℕ → Bool
covers holes n = list_any (covers_unit n) holes

pub in_range : (a n s : ℕ) → is_among (range_with_len a n) s ≡ (nat_le a s && nat_lt s (a + n))
in_range a zero s = grind (arith, nat_tests)
in_range a (suc n) s = by (in_range (a + 1) n s)
  where
    by : is_among (range_with_len (a + 1) n) s ≡ (nat_le (a + 1) s && nat_lt s (a + 1 + n)) → is_among (range_with_len a (suc n)) s ≡ (nat_le a s && nat_lt s (a + suc n))
    by e = grind (arith, nat_tests, e)

none_kept : (p : ℕ → Bool) (from n s : ℕ) → filter p (range_with_len from n) ≡ [] → from ≤ s → s < from + n → p s ≡ false
none_kept p from zero s none low high = absurd (omega (arith, low, high))
none_kept p from (suc n) s none low high = by (p from) refl none (λ e lt. none_kept p (from + 1) n s e (omega (arith, lt)) (omega (arith, high)))
  where
    by : (t : Bool) → p from ≡ t → cond t (from ∷ filter p (range_with_len (from + 1) n)) (filter p (range_with_len (from + 1) n)) ≡ []
        → (filter p (range_with_len (from + 1) n) ≡ [] → from < s → p s ≡ false) → p s ≡ false
    by true e none rest = absurd (cc)
    by false e none rest = elim (cases_eq from s) [ inl same ↦ subst (λ m. p m ≡ false) same e | inr other ↦ rest none (omega (arith, low, other)) ]

in_hole : (d u : ℕ) (units : (u ≡ 1) ⊎ (u ≡ 4)) (h : Hole) (s : ℕ) → IsHole d u 0 h → is_among (hole_sectors_in u h) s ≡ covers_unit (u * s) h
unfolding covers_unit
in_hole d u units h s is = in_range (h.start / u) (h.len / u) s ∙ scaled u units h.start h.len s is.begins (whole_len u units h.start h.len is.begins is.ends)

among_flat : (u s : ℕ) (holes : List Hole) → is_among (flat_map (hole_sectors_in u) holes) s ≡ list_any (λ h. is_among (hole_sectors_in u h) s) holes
among_flat u s [] = refl
among_flat u s (h ∷ holes) =
    list_any-append (λ t. t == s) (hole_sectors_in u h) (flat_map (hole_sectors_in u) holes) ∙ ap (λ b. is_among (hole_sectors_in u h) s || b) (among_flat u s holes)

among_holes : (d u : ℕ) (units : (u ≡ 1) ⊎ (u ≡ 4)) (s : ℕ) (holes : List Hole) → Every (IsHole d u 0) holes
    → is_among (flat_map (hole_sectors_in u) holes) s ≡ covers holes (u * s)
unfolding covers
among_holes d u units s holes all = among_flat u s holes ∙ go holes all
  where
    go : (l : List Hole) → Every (IsHole d u 0) l → list_any (λ h. is_among (hole_sectors_in u h) s) l ≡ list_any (covers_unit (u * s)) l
    go [] all = refl
    go (h ∷ l) (is, all) = ap₂ (λ a b. a || b) (in_hole d u units h s is) (go l all)

none_cover : (n : ℕ) (holes : List Hole) → Every (λ h. n < h.start) holes → covers holes n ≡ false
unfolding covers covers_unit
none_cover n [] all = refl
none_cover n (h ∷ holes) (lt, all) = ap₂ (λ a b. a || b) off (none_cover n holes all)
  where
    off : (nat_le h.start n && nat_lt n (hole_end h)) ≡ false
    off = grind (arith, nat_tests, lt)

-- ---- rising holes

abbrev pub IsBehind : ℕ → Hole → Type 0
IsBehind at x = (at ≤ x.start) × (0 < x.len)

pub behind-lower : (from to : ℕ) → to ≤ from → (xs : List Hole) → Every (IsBehind from) xs → Every (IsBehind to) xs
behind-lower from to le xs all = every-map (IsBehind from) (IsBehind to) (λ x b. (omega (arith, b.0, le), b.1)) xs all

pub all_behind : (d u floor : ℕ) (xs : List Hole) → AreHoles d u floor xs → Every (IsBehind floor) xs
all_behind d u floor [] rise = tt
all_behind d u floor (x ∷ xs) (h, rest) =
    ((h.onward, h.positive), behind-lower (hole_end x) floor (omega (arith, h.onward)) xs (all_behind d u (hole_end x) xs rest))

pub every_hole : (d u floor : ℕ) (xs : List Hole) → AreHoles d u floor xs → Every (IsHole d u 0) xs
every_hole d u floor [] rise = tt
every_hole d u floor (x ∷ xs) (h, rest) =
    (record { positive = h.positive; onward = omega arith; inside = h.inside; begins = h.begins; ends = h.ends }, every_hole d u (hole_end x) xs rest)

-- ---- objects

no_object_there : (s : ℕ) (objects : List Object) → Every (λ o. is_among o.sectors s ≡ false) objects → is_among (flat_map (λ (o : Object). o.sectors) objects) s ≡ false
no_object_there s [] all = refl
no_object_there s (o ∷ objects) (e, all) =
    list_any-append (λ t. t == s) o.sectors (flat_map (λ (q : Object). q.sectors) objects) ∙ ap₂ (λ a b. a || b) e (no_object_there s objects all)

no_start : (at : ℕ) (objects : List Object) → is_object_start objects at ≡ false
    → Every (λ o. (has_sectors o && not (length o.path == 0) && (o.entry.address == at)) ≡ false) objects
no_start at [] e = tt
no_start at (o ∷ objects) e =
    let rest = list_any (λ (q : Object). has_sectors q && not (length q.path == 0) && (q.entry.address == at)) objects in
    let here = has_sectors o && not (length o.path == 0) && (o.entry.address == at) in
    (or_left here rest e, no_start at objects (or_right here rest e))

has_some : (l : List ℕ) (s : ℕ) → is_among l s ≡ true → nat_lt 0 (length l) ≡ true
has_some [] s e = absurd (differ (sym e))
has_some (x ∷ l) s e = lt-ltb 0 (length (x ∷ l)) (omega arith)

-- ---- the sector behind a hole, if another hole comes later and none touches it

module _ (space : OldMapContent) (h : Hole) (rest : List Hole) (units : (space.sector_units ≡ 1) ⊎ (space.sector_units ≡ 4))
    (is : IsHole space.disc_units space.sector_units 0 h) (all : Every (IsHole space.disc_units space.sector_units 0) rest)
    (same : space.holes ≡ h ∷ rest) (low : map_units space.sector_units ≤ h.start) (far : Every (λ g. hole_end h < g.start) rest) where
  abbrev u : ℕ
  u = space.sector_units

  abbrev s : ℕ
  s = hole_end h / u

  first_sector : h.start / u < s
  first_sector = quotient-lt u units h.start (hole_end h) is.begins is.ends (omega (arith, is.positive))

  -- the last sector of the hole is free
  last_free : is_among (hole_sectors (Layout.Old space)) (s - 1) ≡ true
  last_free =
      let inside : is_among (hole_sectors_in u h) (s - 1) ≡ true =
      in_range (h.start / u) (h.len / u) (s - 1)
      ∙ last_in (h.start / u) s (h.start / u + h.len / u) first_sector (quotient-sum u units h.start h.len is.begins (whole_len u units h.start h.len is.begins is.ends)) in
      ap (λ l. is_among (flat_map (hole_sectors_in u) l) (s - 1)) same
      ∙ list_any-append (λ t. t == s - 1) (hole_sectors_in u h) (flat_map (hole_sectors_in u) rest)
      ∙ ap (λ b. b || is_among (flat_map (hole_sectors_in u) rest) (s - 1)) inside

  -- the sector after it isn't
  not_free : is_among (hole_sectors (Layout.Old space)) s ≡ false
  unfolding covers covers_unit
  not_free =
      ap (λ l. is_among (flat_map (hole_sectors_in u) l) s) same
      ∙ among_holes space.disc_units u units s (h ∷ rest) (is, all)
      ∙ ap (λ n. covers (h ∷ rest) n) (times_back u units (hole_end h) is.ends)
      ∙ ap₂ (λ a b. a || b) off (none_cover (hole_end h) rest far)
    where
      off : (nat_le h.start (hole_end h) && nat_lt (hole_end h) (hole_end h)) ≡ false
      off = grind (arith, nat_tests)

  -- no object has it, for one that begins before it would lie in the hole, and none begins there
  untaken : (o : Object) → (has_sectors o ≡ true → LiesOnOldMap space o)
      → (has_sectors o && not (length o.path == 0) && (o.entry.address == hole_end h)) ≡ false → is_among o.sectors s ≡ false
  untaken o lies off = not_true (is_among o.sectors s) (λ there. by there (lies (has_some o.sectors s there)) (has_some o.sectors s there))
    where
      by : is_among o.sectors s ≡ true → LiesOnOldMap space o → has_sectors o ≡ true → ⊥
      by there o_lies has =
          let a = o.entry.address / u in
          let n = length o.sectors in
          let tests : (nat_le a s && nat_lt s (a + n)) ≡ true = sym (in_range a n s) ∙ ap (λ l. is_among l s) (sym o_lies.row) ∙ there in
          let above : a ≤ s = leb-true a s (and_left (nat_le a s) (nat_lt s (a + n)) tests) in
          let below : s < a + n = leb-true (suc s) (a + n) (and_right (nat_le a s) (nat_lt s (a + n)) tests) in
          elim (cases_eq a s) [
            | inl begins ↦
                let at : o.entry.address ≡ hole_end h = sym (times_back u units o.entry.address o_lies.begins) ∙ ap (λ m. u * m) begins ∙ times_back u units (hole_end h) is.ends in
                let root : not (length o.path == 0) ≡ false =
                middle_off (has_sectors o) (not (length o.path == 0)) (o.entry.address == hole_end h) off has (eq-eqb o.entry.address (hole_end h) at) in
                let address : o.entry.address ≡ map_units u = o_lies.root (eqb-true (length o.path) 0 (was_true (length o.path == 0) root)) in
                omega (arith, address, at, low, is.positive)
            | inr other ↦
                let before : is_among o.sectors (s - 1) ≡ true =
                ap (λ l. is_among l (s - 1)) o_lies.row ∙ in_range a n (s - 1) ∙ inner a s (a + n) (omega (arith, above, other)) below in
                differ (sym last_free ∙ o_lies.apart (s - 1) before)
          ]

-- ---- the law

one_hole_of : (space : OldMapContent) (objects : List Object) (holes : List Hole) → space.holes ≡ holes → (space.sector_units ≡ 1) ⊎ (space.sector_units ≡ 4)
    → AreHoles space.disc_units space.sector_units (map_units space.sector_units) holes
    → Every (λ o. has_sectors o ≡ true → LiesOnOldMap space o) objects
    → lost_sectors space objects ≡ [] → are_apart holes ≡ true → list_all (λ h. not (is_object_start objects (hole_end h))) holes ≡ true → length holes ≤ 1
one_hole_of space objects [] same units rise lie lost gaps settled = omega arith
one_hole_of space objects (h ∷ []) same units rise lie lost gaps settled = omega arith
one_hole_of space objects (h ∷ g ∷ rest) same units (hi, (gi, rise)) lie lost gaps settled =
    let d = space.disc_units in
    let u = space.sector_units in
    let e = hole_end h in
    let s = e / u in
    let is : IsHole d u 0 h = record { positive = hi.positive; onward = omega arith; inside = hi.inside; begins = hi.begins; ends = hi.ends } in
    let gap : e ≢ g.start = eqb-false e g.start (was_false (e == g.start) (and_left (not (e == g.start)) (are_apart (g ∷ rest)) gaps)) in
    let near : e < g.start = omega (arith, gi.onward, gap) in
    let far : Every (λ q. e < q.start) (g ∷ rest) =
    (near, every-map (IsBehind (hole_end g)) (λ q. e < q.start) (λ q b. omega (arith, b.0, near)) rest (all_behind d u (hole_end g) rest rise)) in
    let all : Every (IsHole d u 0) (g ∷ rest) = every_hole d u e (g ∷ rest) (gi, rise) in
    let start : is_object_start objects e ≡ false =
    was_false (is_object_start objects e) (and_left (not (is_object_start objects e)) (list_all (λ q. not (is_object_start objects (hole_end q))) (g ∷ rest)) settled) in
    let off = no_start e objects start in
    let clear : is_among (flat_map (λ (o : Object). o.sectors) objects) s ≡ false =
    no_object_there s objects
    (every-both (λ o. has_sectors o ≡ true → LiesOnOldMap space o) (λ o. (has_sectors o && not (length o.path == 0) && (o.entry.address == e)) ≡ false) (λ o. is_among o.sectors s ≡ false)
    (λ o l f. untaken space h (g ∷ rest) units is all same hi.onward far o l f) objects lie off) in
    let free : is_among (hole_sectors (Layout.Old space)) s ≡ false = not_free space h (g ∷ rest) units is all same hi.onward far in
    let map_clear : is_among (map_place (Layout.Old space)) s ≡ false =
    in_range 0 (map_units u / u) s ∙ not_below (map_units u / u) s (quotient-le u units (map_units u) e (omega (arith, hi.onward))) in
    let end_of : s < hole_end g / u = quotient-lt u units e (hole_end g) hi.ends gi.ends (omega (arith, near)) in
    let inside : s < d / u = omega (arith, end_of, quotient-le u units (hole_end g) d gi.inside) in
    let found : is_lost_sector (Layout.Old space) objects s ≡ false = none_kept (is_lost_sector (Layout.Old space) objects) 0 (d / u) s lost (omega arith) (omega (arith, inside)) in
    absurd (differ (sym (lost_there (is_among (hole_sectors (Layout.Old space)) s) (is_among (map_place (Layout.Old space)) s) (is_among (flat_map (λ (o : Object). o.sectors) objects) s) free map_clear clear) ∙ found))

pub one_hole_law : OneHoleLaw
one_hole_law space objects disc lost settled =
    let gaps = and_left (are_apart space.holes) (list_all (λ h. not (is_object_start objects (hole_end h))) space.holes) settled in
    let ends = and_right (are_apart space.holes) (list_all (λ h. not (is_object_start objects (hole_end h))) space.holes) settled in
    one_hole_of space objects space.holes refl disc.units disc.holes (every_contained (λ o. has_sectors o ≡ true → LiesOnOldMap space o) objects disc.objects_lie) lost gaps ends
