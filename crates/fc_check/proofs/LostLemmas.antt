-- How many sectors of a disc with an old map are in no hole and no object and not the map's, all of which are apart.
use Rattle.std.proofs.Common.{◌≡◌, ◌<◌, ◌≤◌, ℕ, zero, suc, ◌+◌, ◌*◌, ◌/◌, ◌%◌, ◌==◌, ◌||◌, ◌&&◌, not, ◌⊎◌, inl, inr, Bool, true, false, cond, List, [], ◌∷◌, ◌++◌, length, refl, sym, ap, subst, ◌∙◌, arith, Some, None, Ok, Err, count_by, sum_by, nat_le, leb-true}
use Rattle.std.specs.List.{flat_map, range_with_len}
use Rattle.std.specs.Int.{div_ceil}
use Rattle.std.proofs.lemmas.Bool.{eqb-true, eqb-false, ne_eqb, cases_lt, false_from_ne_true as unless, or_from as neither}
use Rattle.std.proofs.lemmas.List.Folds.{list_any-append}
use Rattle.std.proofs.lemmas.List.FromFn.{length-range_with_len}
use Rattle.std.proofs.lemmas.List.Sums.{sum_by-cons}
use Rattle.fc_newmap.proofs.PlaceLemmas.{in_either}
use Rattle.fc_oldmap.specs.declared.Hole.{Hole}
use Rattle.fc_oldmap.specs.Holes.{AreHoles, hole_end, hole_sum}
use Rattle.fc_oldmap.specs.OldMap.{OldMapContent, map_units}
use Rattle.fc_image.specs.Layout.{Layout, disc_sectors, hole_sectors, hole_sectors_in, is_among, map_place, sectors_at}
use Rattle.fc_image.specs.Walk.{Object}
use Rattle.fc_image.specs.Edits.{Apart, IsAt as IsPlaced}
use Rattle.fc_image.specs.Report.{is_lost_sector}
use Rattle.fc_image.proofs.FreeLemmas.{among_range, range_bounds}
use Rattle.fc_image.proofs.HolesLemmas.{Each, apart_at}
use Rattle.fc_image.proofs.EditLemmas.{taken_by}
use Rattle.fc_tree.proofs.TallyLemmas.{count_cons as count_first}

-- ---- counts

pub count_same : {X : Type 0} (p q : X → Bool) (xs : List X) → ((x : X) → p x ≡ q x) → count_by p xs ≡ count_by q xs
count_same p q xs same = ap (λ t. count_by t xs) (λ k x. same x k)

-- what passes, and what doesn't
count_rest : {X : Type 0} (p : X → Bool) (xs : List X) → count_by (λ x. not (p x)) xs + count_by p xs ≡ length xs
count_rest p [] = refl
count_rest p (x ∷ xs) =
    let rest = count_rest p xs in
    let yes = count_first p x xs in
    let no = count_first (λ y. not (p y)) x xs in
    let here = one (p x) in
    omega (arith, rest, yes, no, here)
  where
    one : (b : Bool) → cond (not b) 1 0 + cond b 1 0 ≡ 1
    one true = refl
    one false = refl

-- one of two tests that don't both pass
count_either : {X : Type 0} (p q : X → Bool) (xs : List X) → ((x : X) → p x ≡ true → q x ≡ false) → count_by (λ x. p x || q x) xs ≡ count_by p xs + count_by q xs
count_either p q [] apart = refl
count_either p q (x ∷ xs) apart =
    let rest = count_either p q xs apart in
    let both = count_first (λ y. p y || q y) x xs in
    let first = count_first p x xs in
    let second = count_first q x xs in
    let here = one (p x) (q x) (apart x) in
    omega (arith, rest, both, first, second, here)
  where
    one : (b c : Bool) → (b ≡ true → c ≡ false) → cond (b || c) 1 0 ≡ cond b 1 0 + cond c 1 0
    one true true never = absurd (let f = never refl in cc)
    one true false never = refl
    one false true never = refl
    one false false never = refl

-- a number is none of those above it, and one of those from it on
count_above : (x from n : ℕ) → x < from → count_by (λ s. x == s) (range_with_len from n) ≡ 0
count_above x from zero low = refl
count_above x from (suc n) low =
    let rest = count_above x (from + 1) n (omega arith) in
    let here = count_first (λ s. x == s) from (range_with_len (from + 1) n) in
    let other : ◌≡◌ {A = ℕ} (cond (x == from) 1 0) 0 = ap (λ (b : Bool). let m : ℕ = cond b 1 0 in m) (ne_eqb x from (λ e. omega arith)) in
    omega (arith, rest, here, other)

count_one : (x from n : ℕ) → from ≤ x → x < from + n → count_by (λ s. x == s) (range_with_len from n) ≡ 1
count_one x from zero low high = absurd (omega arith)
count_one x from (suc n) low high = by (x == from) refl (λ above. count_one x (from + 1) n above (omega arith))
  where
    by : (b : Bool) → (x == from) ≡ b → (from + 1 ≤ x → count_by (λ s. x == s) (range_with_len (from + 1) n) ≡ 1)
        → count_by (λ s. x == s) (from ∷ range_with_len (from + 1) n) ≡ 1
    by true e more =
        let here = count_first (λ s. x == s) from (range_with_len (from + 1) n) in
        let rest = count_above x (from + 1) n (let same = eqb-true x from e in omega arith) in
        let this : ◌≡◌ {A = ℕ} (cond (x == from) 1 0) 1 = ap (λ (b : Bool). let m : ℕ = cond b 1 0 in m) e in
        omega (arith, here, rest, this)
    by false e more =
        let here = count_first (λ s. x == s) from (range_with_len (from + 1) n) in
        let rest = more (let other = eqb-false x from e in elim (cases_lt from x) [ inl less ↦ omega arith | inr back ↦ absurd (other (omega arith)) ]) in
        let this : ◌≡◌ {A = ℕ} (cond (x == from) 1 0) 0 = ap (λ (b : Bool). let m : ℕ = cond b 1 0 in m) e in
        omega (arith, here, rest, this)

-- ---- how many of the sectors below n are among some

abbrev pub among : ℕ → List ℕ → ℕ
among n sectors = count_by (is_among sectors) (range_with_len 0 n)

-- a row of sectors comes to some that are none of it
row_more : (n from k : ℕ) (taken : List ℕ) → from + k ≤ n → ((s : ℕ) → from ≤ s → s < from + k → is_among taken s ≡ false)
    → among n (range_with_len from k ++ taken) ≡ k + among n taken
row_more n from zero taken within apart = omega arith
row_more n from (suc k) taken within apart =
    let rest = row_more n (from + 1) k taken (omega arith) (λ s low high. apart s (omega arith) (omega arith)) in
    let one = count_one from 0 n (omega arith) (omega arith) in
    let both = count_either (λ s. from == s) (is_among (range_with_len (from + 1) k ++ taken)) (range_with_len 0 n) (λ s e.
    list_any-append (λ t. t == s) (range_with_len (from + 1) k) taken
    ∙ neither (is_among (range_with_len (from + 1) k) s) (is_among taken s)
    (unless (is_among (range_with_len (from + 1) k) s) (λ i. let b = range_bounds (from + 1) k s i in let same = eqb-true from s e in omega (arith, b.0)))
    (let same = eqb-true from s e in apart s (omega arith) (omega arith))) in
    omega (arith, rest, one, both)

-- ---- holes and the map

abbrev IsUnits : ℕ → Type 0
IsUnits units = (units ≡ 1) ⊎ (units ≡ 4)

row_end : (units start len : ℕ) → IsUnits units → start % units ≡ 0 → (start + len) % units ≡ 0 → start / units + len / units ≡ (start + len) / units
row_end units start len (inl e) begins ends = rw e (let b = subst (λ u. start % u ≡ 0) e begins in omega arith)
row_end units start len (inr e) begins ends =
    rw e (let b = subst (λ u. start % u ≡ 0) e begins in let c = subst (λ u. (start + len) % u ≡ 0) e ends in omega arith)

div_up : (units a b : ℕ) → IsUnits units → a ≤ b → a / units ≤ b / units
div_up units a b (inl e) low = rw e (omega arith)
div_up units a b (inr e) low = rw e (omega arith)

div_sum : (units start len b : ℕ) → IsUnits units → start % units ≡ 0 → (start + len) % units ≡ 0 → len / units + b / units ≡ (len + b) / units
div_sum units start len b (inl e) begins ends = rw e (omega arith)
div_sum units start len b (inr e) begins ends =
    rw e (let f = subst (λ u. start % u ≡ 0) e begins in let g = subst (λ u. (start + len) % u ≡ 0) e ends in omega arith)

module _ (disc units : ℕ) (are : IsUnits units) where
  holes_above : (floor : ℕ) (holes : List Hole) (s : ℕ) → AreHoles disc units floor holes → is_among (flat_map (hole_sectors_in units) holes) s ≡ true → floor / units ≤ s
  holes_above floor [] s a e = absurd (cc)
  holes_above floor (h ∷ holes) s a e =
      elim (in_either (hole_sectors_in units h) (flat_map (hole_sectors_in units) holes) s e) [
        | Ok here ↦ (let b = range_bounds (h.start / units) (h.len / units) s here in let up = div_up units floor h.start are a.0.onward in omega (arith, b.0))
        | Err later ↦ (let b = holes_above (hole_end h) holes s a.1 later in let on = a.0.onward in let up = div_up units floor (hole_end h) are (omega arith) in omega arith)
      ]

  holes_among : (floor : ℕ) (holes : List Hole) → AreHoles disc units floor holes
      → among (disc / units) (flat_map (hole_sectors_in units) holes) ≡ sum_by (λ h. h.len) holes / units
  holes_among floor [] a = none (disc / units) 0 ∙ zero_over units are
    where
      none : (n from : ℕ) → count_by (is_among []) (range_with_len from n) ≡ 0
      none zero from = refl
      none (suc n) from = let rest = none n (from + 1) in let here = count_first (is_among []) from (range_with_len (from + 1) n) in omega arith

      zero_over : (u : ℕ) → IsUnits u → 0 ≡ 0 / u
      zero_over u (inl e) = rw e refl
      zero_over u (inr e) = rw e refl
  holes_among floor (h ∷ holes) a =
      let rest = holes_among (hole_end h) holes a.1 in
      let end = row_end units h.start h.len are a.0.begins a.0.ends in
      let inside = div_up units (hole_end h) disc are a.0.inside in
      let more = row_more (disc / units) (h.start / units) (h.len / units) (flat_map (hole_sectors_in units) holes) (omega arith) (λ s low high.
      unless (is_among (flat_map (hole_sectors_in units) holes) s) (λ e. let b = holes_above (hole_end h) holes s a.1 e in omega arith)) in
      let all : sum_by (λ (g : Hole). g.len) (h ∷ holes) ≡ h.len + sum_by (λ (g : Hole). g.len) holes = sum_by-cons (λ (g : Hole). g.len) h holes in
      let sums = div_sum units h.start h.len (sum_by (λ (g : Hole). g.len) holes) are a.0.begins a.0.ends in
      more ∙ ap (λ n. h.len / units + n) rest ∙ sums ∙ ap (λ n. n / units) (sym all)

-- ---- objects

in_taken : (taken : List ℕ) (objects : List Object) (s : ℕ) → is_among (taken_by taken objects) s ≡ (is_among taken s || is_among (flat_map (λ o. o.sectors) objects) s)
in_taken taken [] s = sym (or_false (is_among taken s))
  where
    or_false : (b : Bool) → (b || false) ≡ b
    or_false true = refl
    or_false false = refl
in_taken taken (o ∷ objects) s =
    in_taken (o.sectors ++ taken) objects s
    ∙ ap (λ b. b || is_among (flat_map (λ (p : Object). p.sectors) objects) s) (list_any-append (λ t. t == s) o.sectors taken)
    ∙ turned (is_among o.sectors s) (is_among taken s) (is_among (flat_map (λ (p : Object). p.sectors) objects) s)
    ∙ ap (λ b. is_among taken s || b) (sym (list_any-append (λ t. t == s) o.sectors (flat_map (λ (p : Object). p.sectors) objects)))
  where
    turned : (a b c : Bool) → ((a || b) || c) ≡ (b || (a || c))
    turned true true c = refl
    turned true false c = refl
    turned false b c = refl

record IsRow (n : ℕ) (sectors : List ℕ) : Type 0 where
  pub first : ℕ
  pub count : ℕ
  pub is : sectors ≡ range_with_len first count
  pub within : first + count ≤ n

placed_row : (space : OldMapContent) (address bytes : ℕ) (sectors : List ℕ) → sectors_at (Layout.Old space) address bytes ≡ Some sectors
    → IsRow (space.disc_units / space.sector_units) sectors
unfolding sectors_at
placed_row space address bytes sectors e = by (bytes == 0) (address % space.sector_units == 0) (nat_le (first + count) n) refl e
  where
    n : ℕ
    n = space.disc_units / space.sector_units

    first : ℕ
    first = address / space.sector_units

    count : ℕ
    count = div_ceil bytes (256 * space.sector_units)

    some : (xs ys : List ℕ) → Some xs ≡ Some ys → ys ≡ xs
    some xs ys f = cc

    by : (b c d : Bool) → nat_le (first + count) n ≡ d → cond b (Some []) (cond (c && d) (Some (range_with_len first count)) None) ≡ Some sectors → IsRow n sectors
    by true c d f g = record { first = 0; count = 0; is = some [] sectors g; within = omega arith }
    by false true true f g = record { first = first; count = count; is = some (range_with_len first count) sectors g; within = leb-true (first + count) n f }
    by false true false f g = absurd (cc)
    by false false d f g = absurd (cc)

objects_among : (space : OldMapContent) (taken : List ℕ) (objects : List Object) → Each (IsPlaced (Layout.Old space)) objects → Apart taken objects
    → among (space.disc_units / space.sector_units) (taken_by taken objects) ≡ among (space.disc_units / space.sector_units) taken + sum_by (λ o. length o.sectors) objects
objects_among space taken [] placed apart = omega arith
objects_among space taken (o ∷ objects) placed apart =
    let n = space.disc_units / space.sector_units in
    let row = placed_row space _ _ o.sectors placed.0 in
    let rest = objects_among space (o.sectors ++ taken) objects placed.1 apart.1 in
    let more : among n (range_with_len row.first row.count ++ taken) ≡ row.count + among n taken =
    row_more n row.first row.count taken row.within (λ s low high.
    apart_at o.sectors taken s apart.0 (subst (λ (xs : List ℕ). is_among xs s ≡ true) (sym row.is) (among_range row.first row.count s low high))) in
    let here : among n (o.sectors ++ taken) ≡ row.count + among n taken = ap (λ (xs : List ℕ). among n (xs ++ taken)) row.is ∙ more in
    let long : length o.sectors ≡ row.count = ap length row.is ∙ length-range_with_len row.first row.count in
    let all = sum_by-cons (λ (p : Object). length p.sectors) o objects in
    omega (arith, rest, here, long, all)

-- ---- what is left

none_of : (h m o : Bool) → (not h && not m && not o) ≡ not ((m || h) || o)
none_of true true o = refl
none_of true false o = refl
none_of false true o = refl
none_of false false o = refl

pub lost_left : (space : OldMapContent) (objects : List Object) → (space.sector_units ≡ 1) ⊎ (space.sector_units ≡ 4)
    → AreHoles space.disc_units space.sector_units (map_units space.sector_units) space.holes → map_units space.sector_units ≤ space.disc_units
    → Each (IsPlaced (Layout.Old space)) objects → Apart (map_place (Layout.Old space) ++ hole_sectors (Layout.Old space)) objects
    → count_by (is_lost_sector (Layout.Old space) objects) (range_with_len 0 (disc_sectors (Layout.Old space)))
    + (map_units space.sector_units / space.sector_units + hole_sum space.holes / space.sector_units + sum_by (λ o. length o.sectors) objects)
    ≡ disc_sectors (Layout.Old space)
lost_left space objects are holes room placed apart =
    let units = space.sector_units in
    let n = space.disc_units / units in
    let map_row = map_units units / units in
    let reserved = map_place (Layout.Old space) ++ hole_sectors (Layout.Old space) in
    let held = holes_among space.disc_units units are (map_units units) space.holes holes in
    let with_map : among n reserved ≡ map_row + among n (hole_sectors (Layout.Old space)) =
    row_more n 0 map_row (hole_sectors (Layout.Old space)) (let up = div_up units (map_units units) space.disc_units are room in omega arith) (λ s low high.
    unless (is_among (hole_sectors (Layout.Old space)) s) (λ e. let above = holes_above space.disc_units units are (map_units units) space.holes s holes e in omega arith)) in
    let all = objects_among space reserved objects placed apart in
    let other = count_rest (is_among (taken_by reserved objects)) (range_with_len 0 n) in
    let long = length-range_with_len 0 n in
    let same = count_same (is_lost_sector (Layout.Old space) objects) (λ s. not (is_among (taken_by reserved objects) s)) (range_with_len 0 n) (λ s.
    none_of (is_among (hole_sectors (Layout.Old space)) s) (is_among (map_place (Layout.Old space)) s) (is_among (flat_map (λ (o : Object). o.sectors) objects) s)
    ∙ ap (λ b. not (b || is_among (flat_map (λ (o : Object). o.sectors) objects) s)) (sym (list_any-append (λ t. t == s) (map_place (Layout.Old space)) (hole_sectors (Layout.Old space))))
    ∙ ap not (sym (in_taken reserved objects s))) in
    omega (arith, held, with_map, all, other, long, same)
