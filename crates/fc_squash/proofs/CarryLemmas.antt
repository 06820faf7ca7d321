-- The bytes of all objects after one more has slid down.
use Rattle.std.proofs.Common.{◌≡◌, ◌<◌, ◌≤◌, ◌⊎◌, inl, inr, ⊎_elim, ℕ, ◌+◌, ◌*◌, ◌/◌, ◌%◌, Bool, false, List, [], ◌∷◌, ◌++◌, length, get_or, Some, refl, sym, ap, subst, ◌∙◌, arith}
use Rattle.std.specs.Prelude.{◌||◌}
use Rattle.std.specs.Option.{ForSome}
use Rattle.std.proofs.lemmas.Bool.{cases_lt}
use Rattle.std.proofs.lemmas.Bool.Decides.{nat_tests}
use Rattle.std.proofs.lemmas.List.Folds.{list_any-append}
use Rattle.fc_oldmap.specs.declared.Hole.{Hole}
use Rattle.fc_oldmap.specs.Holes.{hole, hole_end, IsHole, AreHoles}
use Rattle.fc_oldmap.specs.OldMap.{OldMapContent}
use Rattle.fc_bytes.specs.Words.{bytes_at}
use Rattle.fc_device.specs.Sectors.{sector_at}
use Rattle.fc_device.specs.declared.disk.Disk.{Ghosts}
use Rattle.fc_image.specs.declared.effects.Owned.{Owned}
use Rattle.fc_squash.specs.Sliding.{IsSlid, IsSlidBy}
use Rattle.fc_squash.specs.Squashing.{place, places, moved_to, no_object, with_start, covers}
use Rattle.fc_squash.proofs.PlaceLemmas.{every-both, IsBefore, CutAt, cut_at, covers_unit}
use Rattle.fc_squash.proofs.StepLemmas.{whole_len}
use Rattle.fc_squash.proofs.ByteLemmas.{sector_before, sector_behind, quotient-sum, quotient-le, bytes_same}
use Rattle.fc_squash.proofs.StandLemmas.{Standing, at_place, places-append}
use Rattle.fc_image.proofs.lemmas.effects.OneHoleLemmas.{Every, IsBehind, every_hole as all_holes}

-- each object has at its new start the bytes that it had
abbrev pub SameBytes : List ℕ → List ℕ → List Owned → List Owned → Type 0
SameBytes old new [] [] = Unit {0}
SameBytes old new (o ∷ was) (p ∷ now) = (bytes_at new (256 * p.start) (256 * p.len) ≡ bytes_at old (256 * o.start) (256 * o.len)) × SameBytes old new was now
SameBytes old new _ _ = ⊥

pub bytes_stay : (old : List ℕ) (was : List Owned) → SameBytes old old was was
bytes_stay old [] = tt
bytes_stay old (o ∷ was) = (refl, bytes_stay old was)

-- the bytes of an image after some objects have slid, where the sectors have u units
pub record Carried (u : ℕ) (space : OldMapContent) (was now : List Owned) (old image : List ℕ) : Type 0 where
  pub long : length image ≡ length old
  pub bodies : SameBytes old image was now
  pub others : (s : ℕ) → covers (places was) (u * s) ≡ false → covers space.holes (u * s) ≡ false → sector_at (256 * u) image s ≡ sector_at (256 * u) old s

-- what a step leaves of the bytes of a place
abbrev pub KeepsBytes : List ℕ → List ℕ → Hole → Type 0
KeepsBytes image next h = bytes_at next (256 * h.start) (256 * h.len) ≡ bytes_at image (256 * h.start) (256 * h.len)

bytes_step : (old image next : List ℕ) (was front rest : List Owned) (o : Owned) (start : ℕ) → SameBytes old image was (front ++ o ∷ rest)
    → Every (KeepsBytes image next) (places front) → bytes_at next (256 * start) (256 * o.len) ≡ bytes_at image (256 * o.start) (256 * o.len)
    → Every (KeepsBytes image next) (places rest) → SameBytes old next was (front ++ moved_to start o ∷ rest)
bytes_step old image next [] [] rest o start same first here others = same
bytes_step old image next [] (f ∷ front) rest o start same first here others = same
bytes_step old image next (w ∷ was) [] rest o start (e, same) first here others = (here ∙ e, go was rest same others)
  where
    go : (was now : List Owned) → SameBytes old image was now → Every (KeepsBytes image next) (places now) → SameBytes old next was now
    go [] [] same all = tt
    go [] (n ∷ now) same all = same
    go (w ∷ was) [] same all = same
    go (w ∷ was) (n ∷ now) (e, same) (k, all) = (k ∙ e, go was now same all)
bytes_step old image next (w ∷ was) (f ∷ front) rest o start (e, same) (k, first) here others =
    (k ∙ e, bytes_step old image next was front rest o start same first here others)

pub every_hole : (d u floor : ℕ) (xs : List Hole) → AreHoles d u floor xs → Every (IsHole d u 0) xs
every_hole d u floor xs rise = all_holes d u floor xs rise

split_holes : (d u : ℕ) (xs ys : List Hole) → Every (IsHole d u 0) (xs ++ ys) → Every (IsHole d u 0) xs × Every (IsHole d u 0) ys
split_holes d u [] ys all = (tt, all)
split_holes d u (x ∷ xs) ys (h, all) = let more = split_holes d u xs ys all in ((h, more.0), more.1)

-- a unit outside a place
pub outside : (n : ℕ) (h : Hole) → covers_unit n h ≡ false → (n < h.start) ⊎ (hole_end h ≤ n)
outside n h off = elim (cases_lt n h.start) [
  | inl lt ↦ inl lt
  | inr ge ↦ elim (cases_lt n (hole_end h)) [
    | inl lt ↦ absurd (both ge lt)
    | inr past ↦ inr past
  ]
]
  where
    both : h.start ≤ n → n < hole_end h → ⊥
    both ge lt = grind (arith, nat_tests)

middle_false : (a b c : Bool) → (a || (b || c)) ≡ false → b ≡ false
middle_false a b c e = grind arith

pub left_false : (a b c d : Bool) → (a || b) ≡ (c || d) → c ≡ false → d ≡ false → a ≡ false
left_false a b c d e f g = grind arith

module _ (d u : ℕ) (units : (u ≡ 1) ⊎ (u ≡ 4)) (front rest : List Owned) (o : Owned) (start : ℕ)
    (rise : AreHoles d u 0 (places front ++ place o ∷ places rest)) (rise' : AreHoles d u 0 (places front ++ hole start o.len ∷ places rest))
    (image next : List ℕ) (slid : IsSlid (256 * u) (o.start / u) (start / u) (o.len / u) image next) where
  of_old : IsHole d u 0 (place o)
  of_old = (cut_at d u 0 (places front) (place o) (places rest) rise).1.here

  of_new : CutAt d u (places front) (hole start o.len) (places rest)
  of_new = (cut_at d u 0 (places front) (hole start o.len) (places rest) rise').1

  whole : o.len % u ≡ 0
  whole = whole_len u o.start o.len units of_old.begins of_old.ends

  len_of : (h : Hole) → IsHole d u 0 h → h.len % u ≡ 0
  len_of h is = whole_len u h.start h.len units is.begins is.ends

  keeps_before : (h : Hole) → IsBefore start h → IsHole d u 0 h → KeepsBytes image next h
  keeps_before h b is =
      let end : h.start / u + h.len / u ≤ start / u = subst (λ n. n ≤ start / u) (quotient-sum u units h.start h.len is.begins (len_of h is)) (quotient-le u units (hole_end h) start b.0) in
      bytes_same u units next image h.start h.start h.len is.begins is.begins (len_of h is) (λ k lt. slid.others (h.start / u + k) (inl (omega (arith, end, lt))))

  keeps_behind : (h : Hole) → IsBehind (start + o.len) h → IsHole d u 0 h → KeepsBytes image next h
  keeps_behind h b is =
      let end : start / u + o.len / u ≤ h.start / u = subst (λ n. n ≤ h.start / u) (quotient-sum u units start o.len of_new.here.begins whole) (quotient-le u units (start + o.len) h.start b.0) in
      bytes_same u units next image h.start h.start h.len is.begins is.begins (len_of h is) (λ k lt. slid.others (h.start / u + k) (inr (omega (arith, end))))

  here : bytes_at next (256 * start) (256 * o.len) ≡ bytes_at image (256 * o.start) (256 * o.len)
  here = bytes_same u units next image start o.start o.len of_new.here.begins of_old.begins whole slid.slid

  parts : Every (IsHole d u 0) (places front) × Every (IsHole d u 0) (hole start o.len ∷ places rest)
  parts = split_holes d u (places front) (hole start o.len ∷ places rest) (all_holes d u 0 (places front ++ hole start o.len ∷ places rest) rise')

  pub bodies_carried : (old : List ℕ) (was : List Owned) → SameBytes old image was (front ++ o ∷ rest) → SameBytes old next was (front ++ moved_to start o ∷ rest)
  bodies_carried old was same =
      bytes_step old image next was front rest o start same
      (every-both (IsBefore start) (IsHole d u 0) (KeepsBytes image next) keeps_before (places front) of_new.before parts.0) here
      (every-both (IsBehind (start + o.len)) (IsHole d u 0) (KeepsBytes image next) keeps_behind (places rest) of_new.behind parts.1.1)

  -- a sector outside the new place keeps its bytes
  pub sector_stays : (s : ℕ) → covers (places front ++ hole start o.len ∷ places rest) (u * s) ≡ false → sector_at (256 * u) next s ≡ sector_at (256 * u) image s
  sector_stays s clear =
      let cut = list_any-append (covers_unit (u * s)) (places front) (hole start o.len ∷ places rest) in
      let off = outside (u * s) (hole start o.len) (middle_false (covers (places front) (u * s)) (covers_unit (u * s) (hole start o.len)) (covers (places rest) (u * s)) (sym cut ∙ clear)) in
      slid.others s (⊎_elim (λ lt. inl (sector_before u units start s of_new.here.begins lt))
      (λ past. inr (subst (λ n. n ≤ s) (quotient-sum u units start o.len of_new.here.begins whole) (sector_behind u units (start + o.len) s of_new.here.ends past))) off)

pub carried_more : (old space space' : OldMapContent) (was now : List Owned) (k start : ℕ) (bytes image next : List ℕ) → k < length now
    → Standing old space was now k → Standing old space' was (with_start now k start) (k + 1) → Carried space.sector_units old was now bytes image
    → IsSlid (256 * space.sector_units) ((get_or now k no_object).start / space.sector_units) (start / space.sector_units) ((get_or now k no_object).len / space.sector_units) image next
    → Carried space.sector_units old was (with_start now k start) bytes next
carried_more old space space' was now k start bytes image next lt stand stand' carried slid =
    let at = at_place now k lt in
    let o = get_or now k no_object in
    let d = space.disc_units in
    let u = space.sector_units in
    let f = at.front in
    let r = at.rest in
    let split : places now ≡ places f ++ place o ∷ places r = ap places at.is ∙ places-append f (o ∷ r) in
    let new : with_start now k start ≡ f ++ moved_to start o ∷ r = at.set (moved_to start o) in
    let split' : places (with_start now k start) ≡ places f ++ hole start o.len ∷ places r = ap places new ∙ places-append f (moved_to start o ∷ r) in
    let same_d : space'.disc_units ≡ d = stand'.disc ∙ sym stand.disc in
    let same_u : space'.sector_units ≡ u = stand'.units ∙ sym stand.units in
    let rise = subst (AreHoles d u 0) split stand.rise in
    let rise1 = subst (λ n. AreHoles n space'.sector_units 0 (places (with_start now k start))) same_d stand'.rise in
    let rise2 = subst (λ n. AreHoles d n 0 (places (with_start now k start))) same_u rise1 in
    let rise' = subst (AreHoles d u 0) split' rise2 in
    record {
      long = slid.long ∙ carried.long;
      bodies = subst (SameBytes bytes next was) (sym new)
          (bodies_carried d u stand.map.units f r o start rise rise' image next slid bytes was (subst (SameBytes bytes image was) at.is carried.bodies));
      others = λ s no_body no_hole.
          let free : covers (places (with_start now k start)) (u * s) ≡ false =
          left_false (covers (places (with_start now k start)) (u * s)) (covers space'.holes (u * s)) (covers (places was) (u * s)) (covers old.holes (u * s)) (stand'.same (u * s)) no_body no_hole in
          sector_stays d u stand.map.units f r o start rise rise' image next slid s (ap (λ l. covers l (u * s)) (sym split') ∙ free)
          ∙ carried.others s no_body no_hole;
    }

-- ---- by the disk

module _ {D : Type 0} (d : Ghosts D) where
  -- so it is of the bytes that the disk tells
  abbrev pub CarriedBy : D → D → ℕ → OldMapContent → List Owned → List Owned → Type 0
  CarriedBy old new u space was now = ForSome (d.bytes old) (λ bytes. (image : List ℕ) × (d.bytes new ≡ Some image) × Carried u space was now bytes image)

  pub carried_start : (old : D) (u : ℕ) (space : OldMapContent) (was : List Owned) → CarriedBy old old u space was was
  carried_start old u space was = λ bytes told. (bytes, told, record { long = refl; bodies = bytes_stay bytes was; others = λ s body free. refl })

  pub carried_by_more : (start_disk mid new : D) (old space space' : OldMapContent) (was now : List Owned) (k start : ℕ) → k < length now
      → Standing old space was now k → Standing old space' was (with_start now k start) (k + 1)
      → d.sector_size mid ≡ 256 * space.sector_units → CarriedBy start_disk mid old.sector_units old was now
      → IsSlidBy d mid new ((get_or now k no_object).start / space.sector_units) (start / space.sector_units) ((get_or now k no_object).len / space.sector_units)
      → CarriedBy start_disk new old.sector_units old was (with_start now k start)
  carried_by_more start_disk mid new old space space' was now k start lt stand stand' size carried slid = λ bytes told.
      let there = carried bytes told in
      let then = slid there.0 there.1 in
      let o = get_or now k no_object in
      let slid' = subst (λ n. IsSlid n (o.start / space.sector_units) (start / space.sector_units) (o.len / space.sector_units) there.0 then.0) size then.2 in
      let was_carried = subst (λ u. Carried u old was now bytes there.0) (sym stand.units) there.2 in
      let now_carried = carried_more old space space' was now k start bytes there.0 then.0 lt stand stand' was_carried slid' in
      (then.0, then.1, subst (λ u. Carried u old was (with_start now k start) bytes then.0) stand.units now_carried)
