-- Which sectors have changed at any exit.
use Rattle.std.proofs.Common.{◌≡◌, ◌<◌, ◌≤◌, inl, inr, ⊎_elim, ℕ, ◌+◌, ◌*◌, ◌/◌, Bool, true, false, cond, List, [], ◌∷◌, length, get_or, Some, slice_get, refl, sym, ap, subst, ◌∙◌, arith}
use Rattle.std.specs.Prelude.{◌==◌, ◌||◌, All}
use Rattle.std.proofs.lemmas.List.Folds.{list_any-append}
use Rattle.fc_device.specs.Sectors.{sector_at}
use Rattle.fc_device.specs.declared.disk.Disk.{Ghosts}
use Rattle.fc_oldmap.specs.declared.Hole.{Hole}
use Rattle.fc_oldmap.specs.Holes.{hole, hole_end, joined_with, tidied, IsHole}
use Rattle.fc_oldmap.specs.OldMap.{OldMapContent, IsOldMap}
use Rattle.fc_image.specs.declared.effects.Owned.{Owned}
use Rattle.fc_image.specs.effects.Moves.{is_in_body, is_in_hole}
use Rattle.fc_squash.specs.Places.{ChangesRoom, ChangesRow, Leaves}
use Rattle.fc_squash.specs.Squashing.{place, places, no_object, covers, AreBodies, IsPulled}
use Rattle.fc_squash.proofs.PlaceLemmas.{every-append, every-left, every-right, around_hole, covers_unit}
use Rattle.fc_squash.proofs.StepLemmas.{every_all, every_from, whole_len}
use Rattle.fc_squash.proofs.ByteLemmas.{sector_before, sector_behind, quotient-sum}
use Rattle.fc_squash.proofs.StandLemmas.{Standing, at_place, places-append, same_disc}
use Rattle.fc_squash.proofs.CarryLemmas.{every_hole, left_false, outside}
use Rattle.fc_squash.proofs.EndLemmas.{in_bodies, in_holes}
use Rattle.fc_image.proofs.lemmas.effects.OneHoleLemmas.{Every}
use Rattle.fc_oldmap.proofs.SpaceLemmas.{mod-sum}

-- ---- what lies before all holes

abbrev pub Above : ℕ → List Hole → Type 0
Above n holes = Every (λ (h : Hole). n < h.start) holes

above-joined : (n : ℕ) (x : Hole) (holes : List Hole) → n < x.start → Above n holes → Above n (joined_with x holes)
above-joined n x [] here all = (here, tt)
above-joined n x (g ∷ holes) here (next, all) = by (hole_end x == g.start)
  where
    by : (t : Bool) → Above n (cond t (hole x.start (x.len + g.len) ∷ holes) (x ∷ g ∷ holes))
    by true = (here, all)
    by false = (here, (next, all))

pub above-tidied : (n : ℕ) (holes : List Hole) → Above n holes → Above n (tidied holes)
unfolding tidied
above-tidied n [] all = tt
above-tidied n (h ∷ holes) (here, all) = above-joined n h (tidied holes) here (above-tidied n holes all)

-- no hole moves down
pub above-pulled : (n : ℕ) (holes holes' : List Hole) (body : Hole) (start : ℕ) → IsPulled holes holes' body start → Above n holes → Above n holes'
above-pulled n holes holes' body start (inr rests) all = subst (Above n) (sym rests.stays) all
above-pulled n holes holes' body start (inl pulled) all =
    let a = around_hole holes pulled.index body.len pulled.hole pulled.at in
    let split = subst (Above n) a.is all in
    let here = every-right (λ (h : Hole). n < h.start) a.front (pulled.hole ∷ a.rest) split in
    let up : n < pulled.hole.start + body.len = omega (arith, here.0) in
    subst (Above n) (sym (pulled.moved ∙ a.moved))
    (every-append (λ (h : Hole). n < h.start) a.front (joined_with (hole (pulled.hole.start + body.len) pulled.hole.len) a.rest)
    (every-left (λ (h : Hole). n < h.start) a.front (pulled.hole ∷ a.rest) split) (above-joined n (hole (pulled.hole.start + body.len) pulled.hole.len) a.rest up here.1))

-- ---- one object

uncovered : (n index : ℕ) (holes : List Hole) (h : Hole) → slice_get holes index ≡ Some h → covers holes n ≡ false → covers_unit n h ≡ false
uncovered n index holes h at clear =
    let a = around_hole holes index 0 h at in
    second (covers a.front n) (covers_unit n h) (covers a.rest n) (sym (list_any-append (covers_unit n) a.front (h ∷ a.rest)) ∙ ap (λ l. covers l n) (sym a.is) ∙ clear)
  where
    second : (a b c : Bool) → (a || (b || c)) ≡ false → b ≡ false
    second a b c e = grind arith

there_above : (n index : ℕ) (holes : List Hole) (h : Hole) → slice_get holes index ≡ Some h → Above n holes → n < h.start
there_above n index holes h at all =
    let a = around_hole holes index 0 h at in
    (every-right (λ (x : Hole). n < x.start) a.front (h ∷ a.rest) (subst (Above n) a.is all)).0

pub room_of_row : (space : OldMapContent) (o : Owned) (index : ℕ) (h : Hole) (was image : List ℕ) → IsOldMap space → IsHole space.disc_units space.sector_units 0 (place o)
    → slice_get space.holes index ≡ Some h → hole_end h ≡ o.start → ChangesRow (256 * space.sector_units) (h.start / space.sector_units) (o.len / space.sector_units) was image
    → ChangesRoom space (o ∷ []) was image
room_of_row space o index h was image map is at ends row =
    let d = space.disc_units in
    let u = space.sector_units in
    let all = every_hole d u 0 space.holes map.holes in
    let a = around_hole space.holes index 0 h at in
    let free : IsHole d u 0 h = (every-right (IsHole d u 0) a.front (h ∷ a.rest) (subst (Every (IsHole d u 0)) a.is all)).0 in
    let whole = whole_len u o.start o.len map.units is.begins is.ends in
    record {
      long = row.long;
      others = λ s no_body no_hole.
          (let in_free : covers_unit (u * s) h ≡ false = uncovered (u * s) index space.holes h at (sym (in_holes d u map.units s space.holes all) ∙ no_hole) in
          let in_body : covers_unit (u * s) (place o) ≡ false = first (covers_unit (u * s) (place o)) (sym (in_bodies d u map.units s (o ∷ []) (is, tt)) ∙ no_body) in
          row.others s
          (⊎_elim (λ low. inl (sector_before u map.units h.start s free.begins low))
          (λ past. ⊎_elim (λ low. absurd (omega (arith, past, low, ends)))
          (λ high.
          inr (subst (λ n. n ≤ s) (quotient-sum u map.units h.start o.len free.begins whole)
          (sector_behind u map.units (h.start + o.len) s (mod-sum u h.start o.len free.begins whole) (omega (arith, high, ends, past)))))
          (outside (u * s) (place o) in_body))
          (outside (u * s) h in_free)));
      low = λ s above.
          row.others s (inl (sector_before u map.units h.start s free.begins (there_above (u * s) index space.holes h at (every_from (λ (x : Hole). u * s < x.start) space.holes above))));
    }
  where
    first : (a : Bool) → (a || false) ≡ false → a ≡ false
    first a e = grind arith

pub room_same : (space : OldMapContent) (owned : List Owned) (image : List ℕ) → ChangesRoom space owned image image
room_same space owned image = record { long = refl; others = λ s body free. refl; low = λ s above. refl }

pub room_then : (space : OldMapContent) (owned : List Owned) (a b c : List ℕ) → ChangesRoom space owned a b → ChangesRoom space owned b c → ChangesRoom space owned a c
room_then space owned a b c first second = record {
  long = second.long ∙ first.long;
  others = λ s body free. second.others s body free ∙ first.others s body free;
  low = λ s above. second.low s above ∙ first.low s above;
}

-- ---- all of them

module _ (old space : OldMapContent) (was now : List Owned) (k : ℕ) (image next : List ℕ) (map : IsOldMap old) (bodies : AreBodies old was) (stand : Standing old space was now k) (lt : k < length now)
    (up : (n : ℕ) → Above n old.holes → Above n space.holes) (one : ChangesRoom space (get_or now k no_object ∷ []) image next) where
  abbrev d : ℕ
  d = space.disc_units

  abbrev u : ℕ
  u = space.sector_units

  abbrev o : Owned
  o = get_or now k no_object

  was_holes : Every (IsHole d u 0) (places was)
  was_holes = every_hole d u 0 (places was) (same_disc old.disc_units old.sector_units d u (places was) stand.disc stand.units bodies.rise)

  old_holes : Every (IsHole d u 0) old.holes
  old_holes = every_hole d u 0 old.holes (same_disc old.disc_units old.sector_units d u old.holes stand.disc stand.units map.holes)

  now_holes : Every (IsHole d u 0) (places now)
  now_holes = every_hole d u 0 (places now) stand.rise

  here : Every (IsHole d u 0) (places (o ∷ []))
  here =
      let at = at_place now k lt in
      ((every-right (IsHole d u 0) (places at.front) (place o ∷ places at.rest) (subst (Every (IsHole d u 0)) (ap places at.is ∙ places-append at.front (o ∷ at.rest)) now_holes)).0, tt)

  in_one : (n : ℕ) → covers (places now) n ≡ false → covers (places (o ∷ [])) n ≡ false
  in_one n clear =
      let at = at_place now k lt in
      let split = sym (list_any-append (covers_unit n) (places at.front) (place o ∷ places at.rest)) ∙ ap (λ l. covers l n) (sym (ap places at.is ∙ places-append at.front (o ∷ at.rest))) ∙ clear in
      second (covers (places at.front) n) (covers_unit n (place o)) (covers (places at.rest) n) split
    where
      second : (a b c : Bool) → (a || (b || c)) ≡ false → (b || false) ≡ false
      second a b c e = grind arith

  right_false : (a b c e : Bool) → (a || b) ≡ (c || e) → c ≡ false → e ≡ false → b ≡ false
  right_false a b c e f g h = grind arith

  others : (s : ℕ) → is_in_body u was s ≡ false → is_in_hole u old.holes s ≡ false → sector_at (256 * u) next s ≡ sector_at (256 * u) image s
  others s no_body no_hole =
      let n = u * s in
      let body = sym (in_bodies d u stand.map.units s was was_holes) ∙ no_body in
      let free = sym (in_holes d u stand.map.units s old.holes old_holes) ∙ no_hole in
      let off = left_false (covers (places now) n) (covers space.holes n) (covers (places was) n) (covers old.holes n) (stand.same n) body free in
      let clear = right_false (covers (places now) n) (covers space.holes n) (covers (places was) n) (covers old.holes n) (stand.same n) body free in
      one.others s (in_bodies d u stand.map.units s (o ∷ []) here ∙ in_one n off) (in_holes d u stand.map.units s space.holes (every_hole d u 0 space.holes stand.map.holes) ∙ clear)

  low : (s : ℕ) → All (λ (h : Hole). u * s < h.start) old.holes → sector_at (256 * u) next s ≡ sector_at (256 * u) image s
  low s above = one.low s (every_all (λ (h : Hole). u * s < h.start) space.holes (up (u * s) (every_from (λ (h : Hole). u * s < h.start) old.holes above)))

  -- what one object may change, as what all may
  pub room_of_one : ChangesRoom old was image next
  room_of_one = record {
    long = one.long;
    others = subst (λ (v : ℕ). (s : ℕ) → is_in_body v was s ≡ false → is_in_hole v old.holes s ≡ false → sector_at (256 * v) next s ≡ sector_at (256 * v) image s) stand.units others;
    low = subst (λ (v : ℕ). (s : ℕ) → All (λ (h : Hole). v * s < h.start) old.holes → sector_at (256 * v) next s ≡ sector_at (256 * v) image s) stand.units low;
  }

-- ---- by the disk

module _ {D : Type 0} (d : Ghosts D) where
  pub leaves_same : (R : List ℕ → List ℕ → Type 0) → ((image : List ℕ) → R image image) → (disk : D) → Leaves d disk disk R
  leaves_same R same disk = λ was told. (was, told, same was)

  -- one call more
  pub leaves_then : (R Q : List ℕ → List ℕ → Type 0) → ((a b c : List ℕ) → R a b → Q b c → R a c) → {old mid new : D} → Leaves d old mid R → Leaves d mid new Q → Leaves d old new R
  leaves_then R Q more first second = λ was told.
      let there = first was told in
      let then = second there.0 there.1 in
      (then.0, then.1, more was there.0 then.0 there.2 then.2)

  -- an object that slides
  pub pulled_room : (old new : D) (space : OldMapContent) (o : Owned) (index : ℕ) (h : Hole) (first count : ℕ) → IsOldMap space → IsHole space.disc_units space.sector_units 0 (place o)
      → slice_get space.holes index ≡ Some h → hole_end h ≡ o.start → d.sector_size old ≡ 256 * space.sector_units → first ≡ h.start / space.sector_units → count ≡ o.len / space.sector_units
      → Leaves d old new (ChangesRow (d.sector_size old) first count) → Leaves d old new (ChangesRoom space (o ∷ []))
  pulled_room old new space o index h first count map is at ends size first_is count_is row = λ was told.
      let there = row was told in (
        there.0,
        there.1,
        room_of_row space o index h was there.0 map is at ends
            (subst (λ (n : ℕ). ChangesRow n (h.start / space.sector_units) (o.len / space.sector_units) was there.0) size
            (subst (λ (n : ℕ). ChangesRow (d.sector_size old) n (o.len / space.sector_units) was there.0) first_is
            (subst (λ (n : ℕ). ChangesRow (d.sector_size old) first n was there.0) count_is there.2))),
      )

  -- one object more
  pub room_by_more : (start mid new : D) (old space : OldMapContent) (was now : List Owned) (k : ℕ) → IsOldMap old → AreBodies old was → Standing old space was now k → k < length now
      → ((n : ℕ) → Above n old.holes → Above n space.holes) → Leaves d start mid (ChangesRoom old was) → Leaves d mid new (ChangesRoom space (get_or now k no_object ∷ [])) → Leaves d start new (ChangesRoom old was)
  room_by_more start mid new old space was now k map bodies stand lt up =
      leaves_then (ChangesRoom old was) (ChangesRoom space (get_or now k no_object ∷ []))
      (λ a b c first second. room_then old was a b c first (room_of_one old space was now k b c map bodies stand lt up second))
