-- Words and attributes take no space.
use Rattle.std.proofs.Common.{◌≡◌, ◌≤◌, ◌/◌, ℕ, Bool, true, false, cond, length, refl, sym, ap, ap₂, subst, ◌∙◌, arith, Some, None, Option, List, [], ◌∷◌}
use Rattle.std.specs.Prelude.{◌==◌, ◌&&◌, ◌%◌, ◌+◌, ◌*◌, Ok, Result, is_none, min, nat_le, nat_lt}
use Rattle.std.specs.Int.{div_ceil}
use Rattle.std.specs.List.{range_with_len}
use Rattle.std.specs.Cmp.{second_so}
use Rattle.std.proofs.Math.Nat.{zero-div, zero-mod}
use Rattle.std.proofs.lemmas.Bool.{leb-true}
use Rattle.std.proofs.lemmas.Bool.Decides.{nat_tests}
use Rattle.std.proofs.lemmas.List.{length-map}
use Rattle.std.proofs.lemmas.List.FromFn.{length-range_with_len}
use Rattle.fc_record.specs.declared.Kind.{Kind}
use Rattle.fc_record.specs.declared.Kind.TheVariants.{Boot, OneZone, DiscD, DiscL}
use Rattle.fc_names.specs.declared.refusal.Refusal.TheVariants as refusals
use Rattle.fc_names.specs.Names.{Path}
use Rattle.fc_newmap.specs.Map.{Map, bits_in, hole_runs}
use Rattle.fc_names.specs.declared.refusal.Refusal.{Refusal}
use Rattle.fc_oldmap.specs.Holes.{first_fit_place, hole_limit, hole_sum}
use Rattle.fc_oldmap.specs.OldMap.{OldMapContent, free_end, free_space, hole_fault, holes_of, is_free_end, map_units, stored_holes, stored_hole, wrong_hole}
use Rattle.fc_bytes.specs.Words.{u24_at}
use Rattle.fc_model.specs.Answer.{first_of, when}
use Rattle.fc_model.specs.Command.{Command}
use Rattle.fc_image.specs.declared.ImageFault.{ImageFault}
use Rattle.fc_image.specs.Layout.{Layout}
use Rattle.fc_image.specs.Opening.{MapAndRoot, Opened, holes_or, map_and_root}
use Rattle.fc_image.specs.Stays.{OpensAs}
use Rattle.fc_image.specs.effects.Sharing.{new_ids}
use Rattle.fc_image.specs.effects.Short.{holes_without, old_need, short, space_reasons}
use Rattle.fc_image.proofs.FreeLemmas.{parts_of}
use Rattle.fc_image.proofs.HolesLemmas.{found_map}
use Rattle.fc_image.proofs.OldMapLemmas.{not_old, old_same}

-- ---- an old map that opens has at most 82 holes

few_stored : (image : List ℕ) (units : ℕ) → hole_fault image units ≡ None → length (stored_holes image) ≤ hole_limit
unfolding holes_of
few_stored image units right = by (is_free_end (free_end image)) refl right
  where
    by : (b : Bool) → is_free_end (free_end image) ≡ b
        → cond b (wrong_hole (u24_at image 252) units 0 (map_units units) (stored_holes image)) (Some (free_end image / 3)) ≡ None → length (stored_holes image) ≤ hole_limit
    by true e f =
        let low = leb-true (free_end image) 246 (second_so (free_end image % 3 == 0) (nat_le (free_end image) 246) e) in
        let long : length (stored_holes image) ≡ free_end image / 3 = length-map (range_with_len 0 (free_end image / 3)) (stored_hole image) ∙ length-range_with_len 0 (free_end image / 3) in
        omega (arith, low, long)
    by false e f = absurd (cc)

few_old : (image : List ℕ) (units root : ℕ) (found : MapAndRoot) (space : OldMapContent) (fault : Option ℕ) → hole_fault image units ≡ fault
    → holes_or (Layout.Old (free_space image units), root, 0) fault ≡ Ok found → found.0 ≡ Layout.Old space → length space.holes ≤ hole_limit
few_old image units root found space None right e is =
    let same = ok_same (Layout.Old (free_space image units), root, 0) found e in
    subst (λ (s : OldMapContent). length s.holes ≤ hole_limit) (old_same (free_space image units) space (ap (λ (f : MapAndRoot). f.0) same ∙ is)) (few_stored image units right)
  where
    ok_same : (x y : MapAndRoot) → (let r : Result MapAndRoot ImageFault = Ok x in r) ≡ Ok y → x ≡ y
    ok_same x y f = cc
few_old image units root found space (Some index) wrong e is = absurd (cc)

few_found : (image : List ℕ) (kind : Kind) (found : MapAndRoot) (space : OldMapContent) → map_and_root image kind ≡ Ok found → found.0 ≡ Layout.Old space → length space.holes ≤ hole_limit
few_found image (Boot r) found space e is = let f = found_map image (Boot r) r found refl e in absurd (not_old _ space (ap (λ (x : MapAndRoot). x.0) f.is ∙ is))
few_found image (OneZone r) found space e is = let f = found_map image (OneZone r) r found refl e in absurd (not_old _ space (ap (λ (x : MapAndRoot). x.0) f.is ∙ is))
few_found image DiscD found space e is = few_old image 4 4 found space (hole_fault image 4) refl e is
few_found image (DiscL n) found space e is = few_old image 1 2 found space (hole_fault image 1) refl e is

few_holes : (image : List ℕ) (kind : Kind) (v : Opened) (space : OldMapContent) → OpensAs image kind v → v.layout ≡ Layout.Old space → length space.holes ≤ hole_limit
few_holes image kind v space opens is =
    let parts = parts_of image kind v opens.opened in
    let layout : parts.0.0 ≡ Layout.Old space = ap (λ (w : Opened). w.layout) parts.1.4 ∙ is in
    few_found image kind parts.0 space parts.1.1 layout

-- ---- nothing is wanted

below_zero : (n : ℕ) → nat_lt n 0 ≡ false
below_zero n = grind (arith, nat_tests)

not_above : (n : ℕ) → n ≤ hole_limit → nat_lt hole_limit n ≡ false
not_above n low = grind (arith, nat_tests, low)

enough_for : (ids bits : ℕ) → first_of (when (nat_lt ids 0) refusals.IdsFull ∷ when (nat_lt bits 0) refusals.DiscFull ∷ []) ≡ None
enough_for ids bits = ap₂ (λ (a b : Bool). first_of (when a refusals.IdsFull ∷ when b refusals.DiscFull ∷ [])) (below_zero ids) (below_zero bits)

enough_old : (units holes : ℕ) (b : Bool) → holes ≤ hole_limit → b ≡ false
    → first_of (when (nat_lt units 0) refusals.DiscFull ∷ when b refusals.CompactionRequired ∷ when (nat_lt hole_limit holes) refusals.MapFull ∷ []) ≡ None
enough_old units holes b few none =
    ap (λ (a : Bool). first_of (when a refusals.DiscFull ∷ when b refusals.CompactionRequired ∷ when (nat_lt hole_limit holes) refusals.MapFull ∷ [])) (below_zero units)
    ∙ ap₂ (λ (a c : Bool). first_of (when a refusals.CompactionRequired ∷ when c refusals.MapFull ∷ [])) none (not_above holes few)

-- a command that brings no bytes needs no space of an old map
no_need : (space : OldMapContent) → old_need space 0 ≡ 0
no_need space =
    let none : div_ceil 0 (256 * space.sector_units) ≡ 0 = ap₂ (λ (a b : ℕ). a + min 1 b) (zero-div (256 * space.sector_units)) (zero-mod (256 * space.sector_units)) in
    ap (λ (n : ℕ). n * space.sector_units) none ∙ omega arith

-- the reasons on an old map, by what is needed
old_by_need : OldMapContent → ℕ → Option Refusal
old_by_need space need =
    first_of (when (nat_lt (hole_sum space.holes) need) refusals.DiscFull
    ∷ when (nat_lt 0 need && is_none (first_fit_place need space.holes)) refusals.CompactionRequired
    ∷ when (nat_lt hole_limit (length (holes_without need space.holes))) refusals.MapFull ∷ [])

old_enough : (space : OldMapContent) → length space.holes ≤ hole_limit → old_by_need space (old_need space 0) ≡ None
unfolding old_by_need
old_enough space few = ap (old_by_need space) (no_need space) ∙ enough_old (hole_sum space.holes) (length space.holes) false few refl

pub set_fits : (image : List ℕ) (kind : Kind) (v : Opened) (path : Path) (load exec access : ℕ) → OpensAs image kind v → short v (Command.Set path load exec access) ≡ None
unfolding short old_by_need
set_fits image kind v path load exec access opens = by v.layout refl
  where
    by : (l : Layout) → v.layout ≡ l → first_of (space_reasons v.layout v (Command.Set path load exec access)) ≡ None
    by (Layout.New m) is = ap (λ (l : Layout). first_of (space_reasons l v (Command.Set path load exec access))) is ∙ enough_for (length (new_ids m)) (bits_in (hole_runs m))
    by (Layout.Old space) is =
        ap (λ (l : Layout). first_of (space_reasons l v (Command.Set path load exec access))) is
        ∙ old_enough space (few_holes image kind v space opens is)

pub mark_fits : (image : List ℕ) (kind : Kind) (v : Opened) (path : Path) (attrs : ℕ) → OpensAs image kind v → short v (Command.Mark path attrs) ≡ None
unfolding short old_by_need
mark_fits image kind v path attrs opens = by v.layout refl
  where
    by : (l : Layout) → v.layout ≡ l → first_of (space_reasons v.layout v (Command.Mark path attrs)) ≡ None
    by (Layout.New m) is = ap (λ (l : Layout). first_of (space_reasons l v (Command.Mark path attrs))) is ∙ enough_for (length (new_ids m)) (bits_in (hole_runs m))
    by (Layout.Old space) is =
        ap (λ (l : Layout). first_of (space_reasons l v (Command.Mark path attrs))) is
        ∙ old_enough space (few_holes image kind v space opens is)
