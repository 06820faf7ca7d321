-- What stands after all objects have slid, as the effects of commands say it.
use Rattle.std.proofs.Common.{◌≡◌, ◌≢◌, ◌≤◌, ◌⊎◌, inl, inr, ⊎_elim, ℕ, zero, suc, ◌+◌, ◌*◌, ◌/◌, ◌%◌, Bool, true, false, not, List, [], ◌∷◌, length, take, refl, sym, ap, ap₂, subst, ◌∙◌, arith}
use Rattle.std.specs.Prelude.{◌==◌, ◌||◌, ◌&&◌, nat_le, nat_lt}
use Rattle.std.specs.List.{list_any, list_all}
use Rattle.std.proofs.lemmas.Bool.{eqb-true}
use Rattle.std.proofs.lemmas.Bool.Decides.{nat_tests}
use Rattle.fc_oldmap.specs.declared.Hole.{Hole}
use Rattle.fc_oldmap.specs.Holes.{hole_end, IsHole, AreHoles, AreApart}
use Rattle.fc_oldmap.specs.OldMap.{OldMapContent, IsOldMap}
use Rattle.fc_device.specs.declared.disk.Disk.{Ghosts}
use Rattle.fc_image.specs.Layout.{hole_sectors_in, is_among}
use Rattle.fc_image.specs.effects.Settled.{are_apart}
use Rattle.fc_image.specs.effects.Moves.{AreInOrder, SameBodies, SameButStarts, Squashed, SquashedBytes, is_in_body, is_in_hole}
use Rattle.fc_image.specs.declared.effects.Owned.{Owned}
use Rattle.fc_squash.specs.Squashing.{place, places, covers, AreBodies, IsSettled, SquashedBy}
use Rattle.fc_squash.proofs.PlaceLemmas.{every-map, Gapped, covers_unit}
use Rattle.fc_squash.proofs.StepLemmas.{every_all, whole_len}
use Rattle.fc_squash.proofs.StandLemmas.{Standing}
use Rattle.fc_squash.proofs.CarryLemmas.{SameBytes, Carried, CarriedBy, every_hole}
use Rattle.fc_image.proofs.lemmas.effects.OneHoleLemmas.{in_range, Every}

-- ---- tests

pub are_apart-gapped : (holes : List Hole) → Gapped holes → are_apart holes ≡ true
are_apart-gapped [] gaps = refl
are_apart-gapped (h ∷ []) gaps = refl
are_apart-gapped (h ∷ g ∷ holes) (gap, gaps) = by (hole_end h == g.start) refl (are_apart-gapped (g ∷ holes) gaps)
  where
    by : (t : Bool) → (hole_end h == g.start) ≡ t → are_apart (g ∷ holes) ≡ true → (not t && are_apart (g ∷ holes)) ≡ true
    by true e rest = absurd (gap (eqb-true (hole_end h) g.start e))
    by false e rest = rest

none_follows : (at : ℕ) (now : List Owned) → Every (λ b. at ≢ b.start) (places now) → list_any (λ o. o.start == at) now ≡ false
none_follows at [] off = refl
none_follows at (o ∷ now) (here, off) = by (o.start == at) refl (none_follows at now off)
  where
    by : (t : Bool) → (o.start == at) ≡ t → list_any (λ o. o.start == at) now ≡ false → (t || list_any (λ o. o.start == at) now) ≡ false
    by true e rest = absurd (here (sym (eqb-true o.start at e)))
    by false e rest = rest

none_follows_any : (now : List Owned) (holes : List Hole) → Every (λ b. Every (λ h. hole_end h ≢ b.start) holes) (places now)
    → list_all (λ h. not (list_any (λ o. o.start == hole_end h) now)) holes ≡ true
none_follows_any now [] off = refl
none_follows_any now (h ∷ holes) off =
    let here = none_follows (hole_end h) now (every-map (λ b. Every (λ g. hole_end g ≢ b.start) (h ∷ holes)) (λ b. hole_end h ≢ b.start) (λ b p. p.0) (places now) off) in
    let rest = none_follows_any now holes (every-map (λ b. Every (λ g. hole_end g ≢ b.start) (h ∷ holes)) (λ b. Every (λ g. hole_end g ≢ b.start) holes) (λ b p. p.1) (places now) off) in
    ap₂ (λ a b. not a && b) here rest

all_settled : (old space : OldMapContent) (was now : List Owned) (k : ℕ) → Standing old space was now k → length now ≤ k
    → Every (λ b. Every (λ h. hole_end h ≢ b.start) space.holes) (places now)
all_settled old space was now k stand end =
    subst (λ l. Every (λ b. Every (λ h. hole_end h ≢ b.start) space.holes) (places l)) (whole now k end) stand.settled
  where
    whole : (l : List Owned) (k : ℕ) → length l ≤ k → take k l ≡ l
    whole [] zero le = refl
    whole [] (suc k) le = refl
    whole (x ∷ l) zero le = absurd (omega (arith, le))
    whole (x ∷ l) (suc k) le = ap (λ m. x ∷ m) (whole l k (omega (arith, le)))

pub is_settled : (old space : OldMapContent) (was now : List Owned) (k : ℕ) → Standing old space was now k → length now ≤ k → IsSettled space now
is_settled old space was now k stand end = record {
  apart = are_apart-gapped space.holes stand.gaps;
  settled = none_follows_any now space.holes (all_settled old space was now k stand end);
}

-- ---- sectors

scaled : (u a n s : ℕ) → (u ≡ 1) ⊎ (u ≡ 4) → a % u ≡ 0 → n % u ≡ 0
    → (nat_le (a / u) s && nat_lt s (a / u + n / u)) ≡ (nat_le a (u * s) && nat_lt (u * s) (a + n))
scaled u a n s units wa wn = ⊎_elim
    (λ e. subst (λ (v : ℕ). a % v ≡ 0 → n % v ≡ 0 → (nat_le (a / v) s && nat_lt s (a / v + n / v)) ≡ (nat_le a (v * s) && nat_lt (v * s) (a + n))) (sym e) (λ x y. grind (arith, nat_tests)) wa wn)
    (λ e. subst (λ (v : ℕ). a % v ≡ 0 → n % v ≡ 0 → (nat_le (a / v) s && nat_lt s (a / v + n / v)) ≡ (nat_le a (v * s) && nat_lt (v * s) (a + n))) (sym e) (λ x y. grind (arith, nat_tests, x, y)) wa wn) units

pub in_hole : (d u : ℕ) (units : (u ≡ 1) ⊎ (u ≡ 4)) (h : Hole) (s : ℕ) → IsHole d u 0 h → is_among (hole_sectors_in u h) s ≡ covers_unit (u * s) h
in_hole d u units h s is = in_range (h.start / u) (h.len / u) s ∙ scaled u h.start h.len s units is.begins (whole_len u h.start h.len units is.begins is.ends)

module _ (d u : ℕ) (units : (u ≡ 1) ⊎ (u ≡ 4)) (s : ℕ) where
  pub in_holes : (holes : List Hole) → Every (IsHole d u 0) holes → is_in_hole u holes s ≡ covers holes (u * s)
  in_holes [] all = refl
  in_holes (h ∷ holes) (is, all) = ap₂ (λ a b. a || b) (in_hole d u units h s is) (in_holes holes all)

  pub in_bodies : (owned : List Owned) → Every (IsHole d u 0) (places owned) → is_in_body u owned s ≡ covers (places owned) (u * s)
  in_bodies [] all = refl
  in_bodies (o ∷ owned) (is, all) = ap₂ (λ a b. a || b) (in_hole d u units (place o) s is) (in_bodies owned all)

-- ---- apart

off_hole : (n : ℕ) (b : Hole) (holes : List Hole) → Every (AreApart b) holes → covers_unit n b ≡ true → covers holes n ≡ false
off_hole n b [] all here = refl
off_hole n b (h ∷ holes) (apart, all) here = ap₂ (λ x y. x || y) (off apart) (off_hole n b holes all here)
  where
    off : AreApart b h → covers_unit n h ≡ false
    off (inl le) = grind (arith, nat_tests, here, le)
    off (inr le) = grind (arith, nat_tests, here, le)

pub off_holes : (n : ℕ) (bodies holes : List Hole) → Every (λ b. Every (AreApart b) holes) bodies → covers bodies n ≡ true → covers holes n ≡ false
off_holes n [] holes all here = absurd (no here)
  where
    no : false ≡ true → ⊥
    no e = cc
off_holes n (b ∷ bodies) holes (apart, all) here = by (covers_unit n b) refl here (off_holes n bodies holes all)
  where
    by : (t : Bool) → covers_unit n b ≡ t → (t || covers bodies n) ≡ true → (covers bodies n ≡ true → covers holes n ≡ false) → covers holes n ≡ false
    by true e here rest = off_hole n b holes apart e
    by false e here rest = rest here

-- ---- all of it

same_bodies : (old new : List ℕ) (was now : List Owned) → SameButStarts was now → SameBytes old new was now → SameBodies old new was now
same_bodies old new [] [] stays same = tt
same_bodies old new [] (p ∷ now) stays same = stays
same_bodies old new (o ∷ was) [] stays same = stays
same_bodies old new (o ∷ was) (p ∷ now) (e, stays) (f, same) = (f, same_bodies old new was now stays same)

in_order : (d u floor : ℕ) (now : List Owned) → AreHoles d u floor (places now) → AreInOrder floor now
in_order d u floor [] rise = tt
in_order d u floor (o ∷ now) (is, rise) = (is.onward, in_order d u (hole_end (place o)) now rise)

wholes : (d u : ℕ) (now : List Owned) → Every (IsHole d u 0) (places now) → Every (λ o. o.start % u ≡ 0) now
wholes d u [] all = tt
wholes d u (o ∷ now) (is, all) = (is.begins, wholes d u now all)

module _ (old space : OldMapContent) (was now : List Owned) (k : ℕ) (bodies : AreBodies old was) (map : IsOldMap old) (stand : Standing old space was now k) (end : length now ≤ k) where
  was_holes : Every (IsHole old.disc_units old.sector_units 0) (places was)
  was_holes = every_hole old.disc_units old.sector_units 0 (places was) bodies.rise

  old_holes : Every (IsHole old.disc_units old.sector_units 0) old.holes
  old_holes = every_hole old.disc_units old.sector_units 0 old.holes map.holes

  body_was : (s : ℕ) → is_in_body old.sector_units was s ≡ covers (places was) (old.sector_units * s)
  body_was s = in_bodies old.disc_units old.sector_units map.units s was was_holes

  free_was : (s : ℕ) → is_in_hole old.sector_units old.holes s ≡ covers old.holes (old.sector_units * s)
  free_was s = in_holes old.disc_units old.sector_units map.units s old.holes old_holes

  pub squashed : Squashed old space was now
  squashed =
      let d = old.disc_units in
      let u = old.sector_units in
      let rise = subst (λ n. AreHoles d n 0 (places now)) stand.units (subst (λ n. AreHoles n space.sector_units 0 (places now)) stand.disc stand.rise) in
      let holes_rise = subst (λ n. AreHoles d n 0 space.holes) stand.units (subst (λ n. AreHoles n space.sector_units 0 space.holes) stand.disc stand.map.holes) in
      let now_holes : Every (IsHole d u 0) (places now) = every_hole d u 0 (places now) rise in
      let new_holes : Every (IsHole d u 0) space.holes = every_hole d u 0 space.holes holes_rise in
      let settled = is_settled old space was now k stand end in
      let body_now : (s : ℕ) → is_in_body u now s ≡ covers (places now) (u * s) = λ s. in_bodies d u map.units s now now_holes in
      let free_now : (s : ℕ) → is_in_hole u space.holes s ≡ covers space.holes (u * s) = λ s. in_holes d u map.units s space.holes new_holes in
      record {
        disc = (stand.disc, stand.units);
        map = stand.map;
        objects = stand.objects;
        whole = every_all (λ o. o.start % u ≡ 0) now (wholes d u now now_holes);
        order = in_order d u 0 now rise;
        clear = λ s here. free_now s ∙ off_holes (u * s) (places now) space.holes stand.apart (sym (body_now s) ∙ here);
        same = λ s. ap₂ (λ a b. a || b) (body_now s) (free_now s) ∙ stand.same (u * s) ∙ sym (ap₂ (λ a b. a || b) (body_was s) (free_was s));
        sum = stand.sum;
        apart = settled.apart;
        settled = settled.settled;
      }

  pub squashed_bytes : (bytes image : List ℕ) → Carried old.sector_units old was now bytes image → SquashedBytes bytes image old was now
  squashed_bytes bytes image carried = record {
    len = carried.long;
    bodies = same_bodies bytes image was now stand.objects carried.bodies;
    others = λ s no_body no_hole. carried.others s (sym (body_was s) ∙ no_body) (sym (free_was s) ∙ no_hole);
  }

  pub squashed_by : {D : Type 0} (d : Ghosts D) (start new : D) → CarriedBy d start new old.sector_units old was now → SquashedBy d start new old was now
  squashed_by d start new carried = λ bytes told.
      let there = carried bytes told in
      (there.0, there.1, squashed_bytes bytes there.0 there.2)
