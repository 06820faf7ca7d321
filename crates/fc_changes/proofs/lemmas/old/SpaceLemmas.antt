-- The holes after space is taken and given.
use Rattle.std.proofs.Common.{◌≡◌, ◌<◌, ◌≤◌, ◌⊎◌, inl, inr, ⊎_elim, ℕ, ◌+◌, ◌*◌, ◌/◌, ◌%◌, Bool, true, false, cond, List, [], ◌∷◌, length, refl, sym, ap, subst, ◌∙◌, arith, Some, None, Option}
use Rattle.std.specs.Prelude.{All, Contains, nat_le, nat_lt, ◌==◌}
use Rattle.std.specs.List.{flat_map, range_with_len}
use Rattle.std.specs.Option.{option_to_list}
use Rattle.std.specs.Int.{div_ceil}
use Rattle.std.proofs.lemmas.Bool.{leb-true, leb-false, ltb-true, false_from_ne_true as unless}
use Rattle.std.proofs.lemmas.List.Elements.{All-cons, All-nil}
use Rattle.fc_record.specs.declared.Kind.{Kind}
use Rattle.fc_oldmap.specs.declared.Hole.{Hole}
use Rattle.fc_oldmap.specs.Holes.{AreApart, AreHoles, IsHole, after_give, after_take, first_fit_place, hole_end}
use Rattle.fc_oldmap.specs.OldMap.{OldMapContent, map_units}
use Rattle.fc_oldmap.proofs.MapLemmas.{AreHoles-after_give}
use Rattle.fc_oldmap.proofs.SpaceLemmas.{AreHoles-after_take}
use Rattle.fc_image.specs.Layout.{Layout, dir_form, hole_sectors, hole_sectors_in, is_among, map_place, sectors_at}
use Rattle.fc_image.specs.Walk.{Listing, Object, object_size}
use Rattle.fc_image.specs.Objects.{has_sectors, objects_of}
use Rattle.fc_image.specs.Opening.{reserved_in}
use Rattle.fc_image.specs.Stays.{OpensAs}
use Rattle.fc_image.specs.Edits.{IsAt}
use Rattle.fc_image.proofs.FreeLemmas.{among_here, range_bounds, among_range}
use Rattle.fc_image.proofs.HolesLemmas.{Lies, apart_at}
use Rattle.fc_image.proofs.OldMapLemmas.{old_map_law}
use Rattle.fc_newmap.proofs.PlaceLemmas.{in_back, in_front}
use Rattle.fc_image.specs.effects.Short.{holes_without, old_need, space_of, with_space_of}
use Rattle.fc_changes.proofs.BasicLemmas.{cases_cons, clash, first_in, nothing_in}
use Rattle.fc_changes.specs.old.Owed.{holding}
use Rattle.fc_changes.proofs.lemmas.old.BeforeLemmas.{object_lies}
use Rattle.fc_changes.proofs.lemmas.old.ChangeLemmas.{opened}
use Rattle.fc_changes.proofs.lemmas.old.HoleLemmas.{IsIn, above_floor, hole_of_units, in_given, in_left, in_units, taken_in, units_in}
use Rattle.fc_changes.proofs.lemmas.old.PlaceLemmas.{in_disc}

-- ---- numbers

module _ (u : ℕ) (units : (u ≡ 1) ⊎ (u ≡ 4)) where
  pub whole : (a : ℕ) → a % u ≡ 0 → u * (a / u) ≡ a
  whole a w = ⊎_elim
      (λ e. subst (λ (v : ℕ). a % v ≡ 0 → v * (a / v) ≡ a) (sym e) (λ x. omega (arith, x)) w)
      (λ e. subst (λ (v : ℕ). a % v ≡ 0 → v * (a / v) ≡ a) (sym e) (λ x. omega (arith, x)) w) units

  pub some_units : (n : ℕ) → 0 < n → 0 < n * u
  some_units n some = ⊎_elim
      (λ e. subst (λ (v : ℕ). 0 < n * v) (sym e) (omega (arith, some)))
      (λ e. subst (λ (v : ℕ). 0 < n * v) (sym e) (omega (arith, some))) units

  many_whole : (a n : ℕ) → a % u ≡ 0 → (a + n * u) % u ≡ 0
  many_whole a n w = ⊎_elim
      (λ e. subst (λ (v : ℕ). a % v ≡ 0 → (a + n * v) % v ≡ 0) (sym e) (λ x. omega (arith, x)) w)
      (λ e. subst (λ (v : ℕ). a % v ≡ 0 → (a + n * v) % v ≡ 0) (sym e) (λ x. omega (arith, x)) w) units

  pub none_over : (n : ℕ) → n * u % u ≡ 0
  none_over n = ⊎_elim
      (λ e. subst (λ (v : ℕ). n * v % v ≡ 0) (sym e) (omega arith))
      (λ e. subst (λ (v : ℕ). n * v % v ≡ 0) (sym e) (omega arith)) units

  as_many : (n : ℕ) → n * u / u ≡ n
  as_many n = ⊎_elim
      (λ e. subst (λ (v : ℕ). n * v / v ≡ n) (sym e) (omega arith))
      (λ e. subst (λ (v : ℕ). n * v / v ≡ n) (sym e) (omega arith)) units

  onward : (a : ℕ) → a % u ≡ 0 → map_units u / u ≤ a / u → map_units u ≤ a
  onward a w low = ⊎_elim
      (λ e. subst (λ (v : ℕ). a % v ≡ 0 → map_units v / v ≤ a / v → map_units v ≤ a) (sym e) (λ x y. omega (arith, x, y)) w low)
      (λ e. subst (λ (v : ℕ). a % v ≡ 0 → map_units v / v ≤ a / v → map_units v ≤ a) (sym e) (λ x y. omega (arith, x, y)) w low) units

  pub inside : (a n d : ℕ) → a % u ≡ 0 → a / u + n ≤ d / u → a + n * u ≤ d
  inside a n d w low = ⊎_elim
      (λ e. subst (λ (v : ℕ). a % v ≡ 0 → a / v + n ≤ d / v → a + n * v ≤ d) (sym e) (λ x y. omega (arith, x, y)) w low)
      (λ e. subst (λ (v : ℕ). a % v ≡ 0 → a / v + n ≤ d / v → a + n * v ≤ d) (sym e) (λ x y. omega (arith, x, y)) w low) units

  off_map : (s : ℕ) → map_units u ≤ u * s → s < map_units u / u → ⊥
  off_map s low high = ⊎_elim
      (λ e. subst (λ (v : ℕ). map_units v ≤ v * s → s < map_units v / v → ⊥) (sym e) (λ x y. omega (arith, x, y)) low high)
      (λ e. subst (λ (v : ℕ). map_units v ≤ v * s → s < map_units v / v → ⊥) (sym e) (λ x y. omega (arith, x, y)) low high) units

  unit_row : (a n s : ℕ) → a % u ≡ 0 → a / u ≤ s → s < a / u + n → (a ≤ u * s) × (u * s < a + n * u)
  unit_row a n s w low high = ⊎_elim
      (λ e. subst (λ (v : ℕ). a % v ≡ 0 → a / v ≤ s → s < a / v + n → (a ≤ v * s) × (v * s < a + n * v)) (sym e) (λ x y z. (omega (arith, x, y), omega (arith, x, z))) w low high)
      (λ e. subst (λ (v : ℕ). a % v ≡ 0 → a / v ≤ s → s < a / v + n → (a ≤ v * s) × (v * s < a + n * v)) (sym e) (λ x y z. (omega (arith, x, y), omega (arith, x, z))) w low high) units

  -- ---- holes without a sector in common

  apart_one : (d f f' : ℕ) (x h : Hole) → IsHole d u f x → IsHole d u f' h → ((s : ℕ) → is_among (hole_sectors_in u x) s ≡ true → is_among (hole_sectors_in u h) s ≡ true → ⊥) → AreApart x h
  apart_one d f f' x h is_x is_h never = by (nat_le (hole_end h) x.start) (nat_le (hole_end x) h.start) (nat_le x.start h.start) refl refl refl
    where
      both : (a : ℕ) → a % u ≡ 0 → IsIn x a → IsIn h a → ⊥
      both a w in_x in_h =
          let same = whole a w in
          never (a / u) (hole_of_units u units d f x (a / u) is_x (subst (IsIn x) (sym same) in_x)) (hole_of_units u units d f' h (a / u) is_h (subst (IsIn h) (sym same) in_h))

      by : (a b c : Bool) → nat_le (hole_end h) x.start ≡ a → nat_le (hole_end x) h.start ≡ b → nat_le x.start h.start ≡ c → AreApart x h
      by true b c e g k = inl (leb-true (hole_end h) x.start e)
      by false true c e g k = inr (leb-true (hole_end x) h.start g)
      by false false true e g k =
          let low = leb-false (hole_end h) x.start e in let high = leb-false (hole_end x) h.start g in let from = leb-true x.start h.start k in let some = is_h.positive in
          absurd (both h.start is_h.begins (from, omega (arith, high)) (omega arith, omega (arith, some)))
      by false false false e g k =
          let low = leb-false (hole_end h) x.start e in let high = leb-false (hole_end x) h.start g in let from = leb-false x.start h.start k in let some = is_x.positive in
          absurd (both x.start is_x.begins (omega arith, omega (arith, some)) (omega (arith, from), omega (arith, low)))

  pub all_apart : (d f floor : ℕ) (x : Hole) (holes : List Hole) → IsHole d u f x → AreHoles d u floor holes
      → ((s : ℕ) → is_among (hole_sectors_in u x) s ≡ true → is_among (flat_map (hole_sectors_in u) holes) s ≡ true → ⊥) → All (AreApart x) holes
  all_apart d f floor x [] is_x are never = All-nil (AreApart x)
  all_apart d f floor x (h ∷ holes) is_x are never =
      All-cons (AreApart x) h holes (apart_one d f floor x h is_x are.0 (λ s i j. never s i (in_front (hole_sectors_in u h) (flat_map (hole_sectors_in u) holes) s j)))
      (all_apart d f (hole_end h) x holes is_x are.1 (λ s i j. never s i (in_back (hole_sectors_in u h) (flat_map (hole_sectors_in u) holes) s j)))

-- ---- objects of a disc

-- Sectors have 256 or 1024 bytes, the holes lie after the map, and the objects lie at their addresses, in no hole and not in the map.
pub record AreSpaced (kind : Kind) (space : OldMapContent) (objects : List Object) : Type 0 where
  pub units : (space.sector_units ≡ 1) ⊎ (space.sector_units ≡ 4)
  pub holes : AreHoles space.disc_units space.sector_units (map_units space.sector_units) space.holes
  pub lies : (p : Object) → Contains objects p → Lies (Layout.Old space) (reserved_in kind (Layout.Old space)) p

-- so do those of an opened disc
pub spaced : (kind : Kind) (image : List ℕ) (space : OldMapContent) (ls : List Listing) → OpensAs image kind (opened kind space ls) → AreSpaced kind space (objects_of ls)
spaced kind image space ls opens =
    let facts = old_map_law image kind (opened kind space ls) space opens refl in
    record { units = facts.units; holes = facts.holes; lies = object_lies kind image (Layout.Old space) ls opens }

module _ (kind : Kind) (space : OldMapContent) (objects : List Object) (facts : AreSpaced kind space objects) where
  abbrev y : Layout
  y = Layout.Old space

  abbrev u : ℕ
  u = space.sector_units

  abbrev d : ℕ
  d = space.disc_units

  not_hole : (p : Object) → Contains objects p → (s : ℕ) → is_among p.sectors s ≡ true → is_among (hole_sectors y) s ≡ true → ⊥
  not_hole p at s h i = clash (is_among (reserved_in kind y) s) (in_back (map_place y) (hole_sectors y) s i) (apart_at p.sectors (reserved_in kind y) s (facts.lies p at).apart h)

  not_map : (p : Object) → Contains objects p → (s : ℕ) → is_among p.sectors s ≡ true → is_among (map_place y) s ≡ true → ⊥
  not_map p at s h i = clash (is_among (reserved_in kind y) s) (in_front (map_place y) (hole_sectors y) s i) (apart_at p.sectors (reserved_in kind y) s (facts.lies p at).apart h)

  -- the space of an object
  pub record IsSpace (p : Object) : Type 0 where
    pub is_hole : IsHole d u (map_units u) (space_of space p)
    pub sectors : hole_sectors_in u (space_of space p) ≡ p.sectors

  first_of : (xs : List ℕ) → nat_lt 0 (length xs) ≡ true → (s : ℕ) × (is_among xs s ≡ true)
  first_of [] e = absurd (cc)
  first_of (x ∷ xs) e = (x, among_here x (is_among xs x))

  pub space_is : (p : Object) → Contains objects p → has_sectors p ≡ true → IsSpace p
  space_is p at has =
      let s = first_of p.sectors has in
      let r = in_disc space p.entry.address (object_size (dir_form y) p.entry) p.sectors s.0 (facts.lies p at).placed s.1 in
      let row = r.0 in
      let first : is_among p.sectors (p.entry.address / u) ≡ true =
      ap (λ (xs : List ℕ). is_among xs (p.entry.address / u)) row.row ∙ (let low = r.1 in let high = r.2 in among_range (p.entry.address / u) _ (p.entry.address / u) (omega arith) (omega (arith, low, high))) in
      let some = ltb-true 0 (length p.sectors) has in
      record {
        is_hole = record {
          positive = some_units u facts.units (length p.sectors) some;
          onward = onward u facts.units p.entry.address row.begins (by (nat_le (map_units u / u) (p.entry.address / u)) refl first);
          inside = inside u facts.units p.entry.address (length p.sectors) d row.begins (let within = row.inside in let long = row.long in omega (arith, within, long));
          begins = row.begins;
          ends = many_whole u facts.units p.entry.address (length p.sectors) row.begins;
        };
        sectors = ap (λ (n : ℕ). range_with_len (p.entry.address / u) n) (as_many u facts.units (length p.sectors) ∙ row.long) ∙ sym row.row;
      }
    where
      by : (b : Bool) → nat_le (map_units u / u) (p.entry.address / u) ≡ b → is_among p.sectors (p.entry.address / u) ≡ true → map_units u / u ≤ p.entry.address / u
      by true e h = leb-true (map_units u / u) (p.entry.address / u) e
      by false e h = absurd (not_map p at (p.entry.address / u) h (let low = leb-false (map_units u / u) (p.entry.address / u) e in among_range 0 (map_units u / u) (p.entry.address / u) (omega arith) (omega (arith, low))))

  -- what is known of holes
  pub record AreRight (holes : List Hole) : Type 0 where
    pub are : AreHoles d u (map_units u) holes
    pub within : (s : ℕ) → is_among (hole_sectors (Layout.Old (holding space holes))) s ≡ true → is_among (hole_sectors y) s ≡ true

  pub right_before : AreRight space.holes
  right_before = record { are = facts.holes; within = λ s h. h }

  -- the holes after an object's space is given
  pub record AreGiven (old : Option Object) (base holes : List Hole) : Type 0 where
    pub are : AreHoles d u (map_units u) holes
    pub left : (s : ℕ) → is_among (hole_sectors (Layout.Old (holding space holes))) s ≡ true
        → (is_among (hole_sectors (Layout.Old (holding space base))) s ≡ true) ⊎ ((p : Object) × Contains (option_to_list old) p × (is_among p.sectors s ≡ true))

  give_one : (p : Object) (b : Bool) → has_sectors p ≡ b → Contains objects p → (base : List Hole) → AreRight base → AreGiven (Some p) base (cond b (after_give (space_of space p) base) base)
  give_one p false e at base right = record { are = right.are; left = λ s h. inl h }
  give_one p true e at base right =
      let x = space_is p at e in
      let apart = all_apart u facts.units d (map_units u) (map_units u) (space_of space p) base x.is_hole right.are
      (λ s i j. not_hole p at s (ap (λ (xs : List ℕ). is_among xs s) (sym x.sectors) ∙ i) (right.within s j)) in
      let are = AreHoles-after_give d u (map_units u) (space_of space p) base x.is_hole right.are apart in
      record {
        are = are;
        left = λ s h. ⊎_elim
            (λ here. inr (p, first_in p [], ap (λ (xs : List ℕ). is_among xs s) (sym x.sectors) ∙ hole_of_units u facts.units d (map_units u) (space_of space p) s x.is_hole here))
            (λ there. inl (in_units u facts.units d (map_units u) base s right.are there))
            (in_given (space_of space p) base (u * s) (units_in u facts.units d (map_units u) (after_give (space_of space p) base) s are h));
      }

  pub given : (old : Option Object) → ((p : Object) → old ≡ Some p → Contains objects p) → (base : List Hole) → AreRight base → AreGiven old base (with_space_of space old base)
  given None there base right = record { are = right.are; left = λ s h. inl h }
  given (Some p) there base right = give_one p (has_sectors p) refl (there p refl) base right

  -- the holes after space is taken
  pub taken : (n : ℕ) → AreRight (holes_without (old_need space n) space.holes)
  taken n = by (old_need space n == 0)
    where
      by : (b : Bool) → AreRight (cond b space.holes (after_take (old_need space n) space.holes))
      by true = right_before
      by false =
          let are = AreHoles-after_take d u (map_units u) (old_need space n) space.holes (none_over u facts.units (div_ceil n (256 * u))) facts.holes in
          record {
            are = are;
            within = λ s h. in_units u facts.units d (map_units u) space.holes s facts.holes
                (in_left (old_need space n) space.holes (u * s) (units_in u facts.units d (map_units u) (after_take (old_need space n) space.holes) s are h));
          }

  -- where a new object lies
  pub record IsNewPlace (o : Object) (base : List Hole) : Type 0 where
    pub was_free : (s : ℕ) → is_among o.sectors s ≡ true → is_among (hole_sectors y) s ≡ true
    pub off_map : (s : ℕ) → is_among o.sectors s ≡ true → is_among (map_place y) s ≡ false
    pub not_left : (s : ℕ) → is_among o.sectors s ≡ true → is_among (hole_sectors (Layout.Old (holding space base))) s ≡ true → ⊥

  pub nowhere : (o : Object) (base : List Hole) → o.sectors ≡ [] → IsNewPlace o base
  nowhere o base none = record {
    was_free = λ s h. absurd (clash (is_among o.sectors s) h (ap (λ (xs : List ℕ). is_among xs s) none));
    off_map = λ s h. absurd (clash (is_among o.sectors s) h (ap (λ (xs : List ℕ). is_among xs s) none));
    not_left = λ s h i. clash (is_among o.sectors s) h (ap (λ (xs : List ℕ). is_among xs s) none);
  }

  hole_off_map : (s : ℕ) → is_among (hole_sectors y) s ≡ true → is_among (map_place y) s ≡ false
  hole_off_map s h = unless (is_among (map_place y) s) (λ i.
      let high = (range_bounds 0 (map_units u / u) s i).1 in
      let low = above_floor d u (map_units u) space.holes (u * s) facts.holes (units_in u facts.units d (map_units u) space.holes s facts.holes h) in
      off_map u facts.units s low (omega (arith, high)))

  pub new_place : (n : ℕ) (o : Object) → object_size (dir_form y) o.entry ≡ n → IsAt y o → first_fit_place (old_need space n) space.holes ≡ Some o.entry.address
      → IsNewPlace o (after_take (old_need space n) space.holes)
  new_place n o size at fits =
      record { was_free = λ s h. (both s h).0; off_map = λ s h. hole_off_map s (both s h).0; not_left = λ s h. (both s h).1 }
    where
      both : (s : ℕ) → is_among o.sectors s ≡ true → (is_among (hole_sectors y) s ≡ true) × (is_among (hole_sectors (Layout.Old (holding space (after_take (old_need space n) space.holes)))) s ≡ true → ⊥)
      both s h =
          let r = in_disc space o.entry.address n o.sectors s (ap (λ (k : ℕ). sectors_at y o.entry.address k) (sym size) ∙ at) h in
          let row = r.0 in
          let b = unit_row u facts.units o.entry.address (div_ceil n (256 * u)) s row.begins r.1 r.2 in
          let t = taken_in d u (map_units u) (old_need space n) o.entry.address space.holes (u * s) facts.holes fits b.0 b.1 in
          let are = AreHoles-after_take d u (map_units u) (old_need space n) space.holes (none_over u facts.units (div_ceil n (256 * u))) facts.holes in
          (in_units u facts.units d (map_units u) space.holes s facts.holes t.0, λ i. t.1 (units_in u facts.units d (map_units u) (after_take (old_need space n) space.holes) s are i))

  -- after old space is given, too
  pub not_given : (o : Object) (old : Option Object) (base holes : List Hole) → ((p : Object) → old ≡ Some p → Contains objects p) → AreGiven old base holes → IsNewPlace o base
      → (s : ℕ) → is_among o.sectors s ≡ true → is_among (hole_sectors (Layout.Old (holding space holes))) s ≡ false
  not_given o old base holes there g place s h = unless (is_among (hole_sectors (Layout.Old (holding space holes))) s) (λ i. ⊎_elim
      (λ a. place.not_left s h a)
      (λ left. not_hole left.0 (one_of old there left.0 left.1) s left.2 (place.was_free s h)) (g.left s i))
    where
      one_of : (q : Option Object) → ((p : Object) → q ≡ Some p → Contains objects p) → (p : Object) → Contains (option_to_list q) p → Contains objects p
      one_of None each p at = absurd (nothing_in p at)
      one_of (Some q) each p at = elim (cases_cons q [] p at) [
        | inl is ↦ subst (λ (x : Object). Contains objects x) is (each q refl)
        | inr later ↦ absurd (nothing_in p later)
      ]
