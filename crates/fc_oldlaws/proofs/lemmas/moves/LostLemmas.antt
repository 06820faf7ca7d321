-- The same sectors are lost afterwards, and they keep their bytes.
use Rattle.std.proofs.Common.{◌≡◌, ◌<◌, ◌≤◌, ◌⊎◌, inl, inr, ⊎_elim, ℕ, zero, suc, ◌+◌, ◌*◌, ◌/◌, ◌%◌, Bool, true, false, not, List, [], ◌∷◌, length, map, drop, refl, sym, ap, ap₂, subst, ◌∙◌, arith, Some, slice_get}
use Rattle.std.specs.Prelude.{Ok, Err, Contains, ◌&&◌, ◌||◌}
use Rattle.std.specs.List.{flat_map, range_with_len}
use Rattle.std.proofs.lemmas.Bool.{cases_eq, cases_lt, false_from_ne_true as unless, not-true as not_true, or_cases, or_left as or_first, or_right as or_last}
use Rattle.fc_device.specs.Sectors.{sector_at}
use Rattle.fc_record.specs.Kinds.{disc_size}
use Rattle.fc_newmap.proofs.PlaceLemmas.{in_either}
use Rattle.fc_oldmap.specs.declared.Hole.{Hole}
use Rattle.fc_image.specs.Layout.{disc_sectors, hole_sectors, hole_sectors_in, is_among, map_place}
use Rattle.fc_image.specs.Report.{is_lost_sector}
use Rattle.fc_image.specs.Walk.{Object}
use Rattle.fc_image.specs.Objects.{objects_of}
use Rattle.fc_image.proofs.EntriesLemmas.{from_map, in_mapped}
use Rattle.fc_image.proofs.FreeLemmas.{range_bounds}
use Rattle.fc_image.proofs.MoveLemmas.{all_filter}
use Rattle.fc_image.specs.declared.effects.Owned.{Owned}
use Rattle.fc_image.specs.effects.Moves.{SameButStarts, is_in_body, is_in_hole}
use Rattle.fc_image.specs.effects.Steady.{SameSectors, lost_sectors}
use Rattle.fc_changes.proofs.BasicLemmas.{cases_cons, clash, filter_same, first_in, in_any, next_in, nothing_in}
use Rattle.fc_changes.proofs.OutsideLemmas.{same_behind}
use Rattle.fc_oldlaws.specs.moves.After.{listings_after, space_after}
use Rattle.fc_oldlaws.proofs.lemmas.moves.StartLemmas.{body, by_number, in_body, in_order, of_body, one_element, rises}
use Rattle.fc_oldlaws.proofs.lemmas.moves.PlaceLemmas.{Case, Start, case_of, came_from, g, had, has_slid, hole_right, holes_as, in_now, no_sectors, objects, old_body, root_in, root_or_held, root_stays, row, space, u, units, held_below, y, y'}
use Rattle.fc_oldlaws.proofs.lemmas.moves.WalkLemmas.{objects_after}
use Rattle.fc_oldlaws.proofs.lemmas.moves.BytesLemmas.{Steps, all, listed, no_body, start, to, wide, z}
use Rattle.fc_oldlaws.proofs.lemmas.moves.ImageLemmas.{disc, long}
use Rattle.fc_record.proofs.KindLemmas.{and_first, and_second}
use Rattle.fc_changes.proofs.NewPlaceLemmas.{some_there as some_sectors}
use Rattle.fc_changes.proofs.PlacedLemmas.{is_in_flat as among_flat}
use Rattle.fc_image.proofs.CommandLemmas.{both_ways as same_truth}

-- ---- lists

-- of which list a sector is
flat_among : {X : Type 0} (f : X → List ℕ) (xs : List X) (t : ℕ) → is_among (flat_map f xs) t ≡ true → (x : X) × Contains xs x × (is_among (f x) t ≡ true)
flat_among f [] t h = absurd (cc)
flat_among {X} f (x ∷ xs) t h = elim (in_either (f x) (flat_map f xs) t h) [
  | Ok here ↦ (x, first_in x xs, here)
  | Err later ↦ (let r = flat_among f xs t later in (r.0, next_in x r.0 xs r.1, r.2))
]

number_of : {X : Type 0} (xs : List X) (x : X) → Contains xs x → (i : ℕ) × (slice_get xs i ≡ Some x)
number_of [] x at = absurd (nothing_in x at)
number_of {X} (k ∷ xs) x at = elim (cases_cons k xs x at) [
  | inl is ↦ (0, ap (λ (z : X). Some z) is)
  | inr later ↦ (let r = number_of xs x later in (suc r.0, r.1))
]

was_there : (was now : List Owned) → SameButStarts was now → (i : ℕ) (q : Owned) → slice_get now i ≡ Some q → (w : Owned) × (slice_get was i ≡ Some w)
was_there [] [] same i q e = absurd (cc)
was_there [] (p ∷ now) same i q e = absurd same
was_there (o ∷ was) [] same i q e = absurd same
was_there (o ∷ was) (p ∷ now) same zero q e = (o, refl)
was_there (o ∷ was) (p ∷ now) same (suc i) q e = was_there was now same.1 i q e

-- ---- which sectors objects have

module _ (e : Start) where
  -- a sector of an object afterwards
  pub of_now : (t : ℕ) → is_in_body (u e) e.s.now t ≡ true → (o : Object) × Contains (objects e) o × (is_among (g e o).sectors t ≡ true)
  of_now t h =
      let q = of_body (u e) e.s.now t h in
      let n = number_of e.s.now q.0 q.1 in
      let w = was_there e.s.was e.s.now e.is.squashed.objects n.0 q.0 n.1 in
      let x = e.is.owned.only w.0 (by_number e.s.was n.0 w.0 w.1) in
      let k = has_slid e x.0 x.1 x.2 x.3 in
      let same : k.i ≡ n.0 = one_place k.i n.0 k.o_was w.0 k.was_at w.1 (k.began ∙ sym x.4.begins) in
      let now : k.o_now ≡ q.0 = one_element e.s.now n.0 k.o_now q.0 (ap (slice_get e.s.now) (sym same) ∙ k.now_at) n.1 in
      (x.0, x.1, ap (λ (xs : List ℕ). is_among xs t) (k.row_now ∙ ap (body (u e)) now) ∙ q.2)
    where
      below : (i j : ℕ) (a b : Owned) → i < j → slice_get e.s.was i ≡ Some a → slice_get e.s.was j ≡ Some b → a.start ≡ b.start → ⊥
      below i j a b low p q is =
          let far = in_order (space e).disc_units (u e) 0 e.s.was e.is.bodies.rise i j a b low p q in
          let some = (rises (space e).disc_units (u e) 0 e.s.was e.is.bodies.rise i a p).positive in
          omega (arith, far, some, is)

      one_place : (i j : ℕ) (a b : Owned) → slice_get e.s.was i ≡ Some a → slice_get e.s.was j ≡ Some b → a.start ≡ b.start → i ≡ j
      one_place i j a b p q is = elim (cases_eq i j) [
        | inl same ↦ same
        | inr differ ↦ elim (cases_lt i j) [
          | inl low ↦ absurd (below i j a b low p q is)
          | inr high ↦ absurd (below j i b a (omega (arith, high, differ)) q p (sym is))
        ]
      ]

  abbrev all_sectors : List Object → List ℕ
  all_sectors os = flat_map (λ (o : Object). o.sectors) os

  -- before
  pub was_taken : (t : ℕ) → is_among (all_sectors (objects e)) t ≡ (is_in_body (u e) e.s.was t || is_among (had e).root.sectors t)
  was_taken t = same_truth (is_among (all_sectors (objects e)) t) (is_in_body (u e) e.s.was t || is_among (had e).root.sectors t)
      (λ h. let x = flat_among (λ (o : Object). o.sectors) (objects e) t h in elim (root_or_held e x.0 x.1) [
        | inl top ↦ or_last (is_in_body (u e) e.s.was t) (is_among (had e).root.sectors t) (ap (λ (o : Object). is_among o.sectors t) top ∙ x.2)
        | inr kept ↦ (let some = some_sectors x.0.sectors t x.2 in
            let p = e.is.owned.each x.0 x.1 some (held_below e x.0 kept) in
            or_first (is_in_body (u e) e.s.was t) (is_among (had e).root.sectors t) (in_body (u e) e.s.was p.0 t p.1 (ap (λ (xs : List ℕ). is_among xs t) (old_body e x.0 p.0 x.1 some p.2) ∙ x.2)))
      ])
      (λ h. elim (or_cases (is_in_body (u e) e.s.was t) (is_among (had e).root.sectors t) h) [
        | inl b ↦ (let p = of_body (u e) e.s.was t b in let x = e.is.owned.only p.0 p.1 in
            among_flat (λ (o : Object). o.sectors) (objects e) x.0 t x.1 (ap (λ (xs : List ℕ). is_among xs t) (sym (old_body e x.0 p.0 x.1 x.2 x.4)) ∙ p.2))
        | inr r ↦ among_flat (λ (o : Object). o.sectors) (objects e) (had e).root t (root_in e) r
      ])

  -- and after
  pub now_taken : (t : ℕ) → is_among (all_sectors (map (g e) (objects e))) t ≡ (is_in_body (u e) e.s.now t || is_among (had e).root.sectors t)
  now_taken t = same_truth (is_among (all_sectors (map (g e) (objects e))) t) (is_in_body (u e) e.s.now t || is_among (had e).root.sectors t)
      (λ h. let x = flat_among (λ (o : Object). o.sectors) (map (g e) (objects e)) t h in
      let o = from_map (g e) (objects e) x.0 x.1 in
      by o.0 (case_of e o.0 o.1) (ap (λ (q : Object). is_among q.sectors t) o.2 ∙ x.2))
      (λ h. elim (or_cases (is_in_body (u e) e.s.now t) (is_among (had e).root.sectors t) h) [
        | inl b ↦ (let x = of_now t b in among_flat (λ (o : Object). o.sectors) (map (g e) (objects e)) (g e x.0) t (in_mapped (g e) (objects e) x.0 x.1) x.2)
        | inr r ↦ among_flat (λ (o : Object). o.sectors) (map (g e) (objects e)) (g e (had e).root) t (in_mapped (g e) (objects e) (had e).root (root_in e))
            (ap (λ (q : Object). is_among q.sectors t) (root_stays e) ∙ r)
      ])
    where
      by : (o : Object) → Case e o → is_among (g e o).sectors t ≡ true → (is_in_body (u e) e.s.now t || is_among (had e).root.sectors t) ≡ true
      by o (Case.Top top) h = or_last (is_in_body (u e) e.s.now t) (is_among (had e).root.sectors t) (ap (λ (q : Object). is_among q.sectors t) (sym (root_stays e)) ∙ ap (λ (q : Object). is_among (g e q).sectors t) top ∙ h)
      by o (Case.Empty none) h = absurd (no_sectors e o none t h)
      by o (Case.Slid k below some) h = or_first (is_in_body (u e) e.s.now t) (is_among (had e).root.sectors t) (in_now e o k t h)

  still_lost : (b' h' b h m r : Bool) → (b' || h') ≡ (b || h) → (not h' && not m && not (b' || r)) ≡ (not h && not m && not (b || r))
  still_lost true true true true m r same = refl
  still_lost true true true false m r same = ends_false m
    where
      ends_false : (k : Bool) → false ≡ (not k && false)
      ends_false true = refl
      ends_false false = refl
  still_lost true true false true m r same = refl
  still_lost true true false false m r same = absurd (cc)
  still_lost true false true true m r same = ends_false m
    where
      ends_false : (k : Bool) → (not k && false) ≡ false
      ends_false true = refl
      ends_false false = refl
  still_lost true false true false m r same = refl
  still_lost true false false true m r same = ends_false m
    where
      ends_false : (k : Bool) → (not k && false) ≡ false
      ends_false true = refl
      ends_false false = refl
  still_lost true false false false m r same = absurd (cc)
  still_lost false true true true m r same = refl
  still_lost false true true false m r same = ends_false m
    where
      ends_false : (k : Bool) → false ≡ (not k && false)
      ends_false true = refl
      ends_false false = refl
  still_lost false true false true m r same = refl
  still_lost false true false false m r same = absurd (cc)
  still_lost false false true h m r same = absurd (cc)
  still_lost false false false true m r same = absurd (cc)
  still_lost false false false false m r same = refl

  lost_alike : (t : ℕ) → is_lost_sector (y' e) (map (g e) (objects e)) t ≡ is_lost_sector (y e) (objects e) t
  lost_alike t =
      let m = is_among (map_place (y e)) t in
      let r = is_among (had e).root.sectors t in
      ap₂ (λ (h b : Bool). not h && not m && not b) (holes_as (u e) t e.s.holes) (now_taken t)
      ∙ still_lost (is_in_body (u e) e.s.now t) (is_in_hole (u e) e.s.holes t) (is_in_body (u e) e.s.was t) (is_in_hole (u e) (space e).holes t) m r (e.is.squashed.same t)
      ∙ sym (ap₂ (λ (h b : Bool). not h && not m && not b) (holes_as (u e) t (space e).holes) (was_taken t))

  pub same_lost : lost_sectors (space_after e.s) (objects_of (listings_after e.s e.listings)) ≡ lost_sectors (space e) (objects e)
  same_lost =
      ap (λ (os : List Object). lost_sectors (space_after e.s) os) (objects_after e e.listings e.listings)
      ∙ filter_same (is_lost_sector (y' e) (map (g e) (objects e))) (is_lost_sector (y e) (objects e)) (range_with_len 0 (disc_sectors (y e))) (λ t at. lost_alike t)

-- ---- what keeps its bytes

module _ (f : Steps) where
  -- what is no object's, no hole's and not the map's
  pub idle_same : (t : ℕ) → ((o : Object) → Contains (all f) o → is_among o.sectors t ≡ true → ⊥) → is_in_hole f.s.space.sector_units f.s.space.holes t ≡ false → is_among (map_place (z f)) t ≡ false
      → sector_at (wide f) f.image' t ≡ sector_at (wide f) f.image t
  idle_same t none no_hole no_map =
      f.is.map_only.writes t refl no_map
      ∙ f.is.directories.others t (λ l at changed. unless (is_among (to f l.object).sectors t) (λ i. by l.object (listed f l at) (case_of (start f) l.object (listed f l at)) i))
      ∙ f.is.bytes.others t (no_body f t (λ o at below i. none o at i)) no_hole
    where
      by : (o : Object) → Contains (all f) o → Case (start f) o → is_among (to f o).sectors t ≡ true → ⊥
      by o at (Case.Top top) i = none (had (start f)).root (root_in (start f))
          (ap (λ (q : Object). is_among q.sectors t) (sym (root_stays (start f))) ∙ ap (λ (q : Object). is_among (to f q).sectors t) top ∙ i)
      by o at (Case.Empty bare) i = no_sectors (start f) o bare t i
      by o at (Case.Slid k below some) i = elim (came_from (start f) t (inl (in_now (start f) o k t i))) [
        | inl x ↦ none x.0 x.1 x.3
        | inr h ↦ clash (is_in_hole f.s.space.sector_units f.s.space.holes t) (sym (holes_as f.s.space.sector_units t f.s.space.holes) ∙ h) no_hole
      ]

  pub lost_stay : SameSectors (wide f) (lost_sectors f.s.space (all f)) f.image f.image'
  lost_stay =
      all_filter (is_lost_sector (z f) (all f)) (λ t. sector_at (wide f) f.image' t ≡ sector_at (wide f) f.image t) (range_with_len 0 (disc_sectors (z f)))
      (λ t i h.
      let holes = is_among (hole_sectors (z f)) t in
      let map' = is_among (map_place (z f)) t in
      let taken = is_among (flat_map (λ (o : Object). o.sectors) (all f)) t in
      let both = and_first (not holes && not map') (not taken) h in
      let object = not_true taken (and_second (not holes && not map') (not taken) h) in
      idle_same t (λ o at k. clash taken (among_flat (λ (q : Object). q.sectors) (all f) o t at k) object)
      (sym (holes_as f.s.space.sector_units t f.s.space.holes) ∙ not_true holes (and_first (not holes) (not map') both)) (not_true map' (and_second (not holes) (not map') both)))

  -- ---- behind the disc

  ends_by : (v : ℕ) → (v ≡ 1) ⊎ (v ≡ 4) → (a n b : ℕ) → a % v ≡ 0 → (a + n) % v ≡ 0 → a + n ≤ b → a / v + n / v ≤ b / v
  ends_by v k a n b = ⊎_elim
      (λ one. subst (λ (w : ℕ). a % w ≡ 0 → (a + n) % w ≡ 0 → a + n ≤ b → a / w + n / w ≤ b / w) (sym one) (λ p q l. omega (arith, l)))
      (λ four. subst (λ (w : ℕ). a % w ≡ 0 → (a + n) % w ≡ 0 → a + n ≤ b → a / w + n / w ≤ b / w) (sym four) (λ p q l. omega (arith, p, q, l))) k

  hole_inside : (t : ℕ) → is_in_hole f.s.space.sector_units f.s.space.holes t ≡ true → t < disc_sectors (z f)
  hole_inside t h =
      let n = f.s.space.sector_units in
      let p = in_any (λ (d : Hole). is_among (hole_sectors_in n d) t) f.s.space.holes h in
      let is = hole_right (start f) f.s.space.disc_units n 0 f.s.space.holes f.is.slide.is_map.holes p.0 p.1 in
      let high = range_bounds (p.0.start / n) (p.0.len / n) t p.2 in
      let far = ends_by n (units (start f)) p.0.start p.0.len f.s.space.disc_units is.begins is.ends is.inside in
      omega (arith, high.1, far)

  object_inside : (o : Object) → Contains (all f) o → (t : ℕ) → is_among o.sectors t ≡ true → t < disc_sectors (z f)
  object_inside o at t h =
      let r = row (start f) o at (some_sectors o.sectors t h) in
      let b = range_bounds _ _ t (ap (λ (xs : List ℕ). is_among xs t) (sym r.row) ∙ h) in
      let inside = r.inside in
      omega (arith, inside, b.1)

  pub behind_stays : drop (disc_size f.kind) f.image' ≡ drop (disc_size f.kind) f.image
  behind_stays =
      let n = f.s.space.sector_units in
      let d = disc_sectors (z f) in
      let same = same_behind (wide f) f.image f.image' (some_bytes n (disc f).units) (long f) (length f.image) d (omega arith)
      (λ t high. idle_same t (λ o at i. let low = object_inside o at t i in omega (arith, low, high))
      (unless (is_in_hole n f.s.space.holes t) (λ i. let low = hole_inside t i in omega (arith, low, high)))
      (unless (is_among (map_place (z f)) t) (λ i. let b = range_bounds _ _ t i in let small = (disc f).small in omega (arith, b.1, small, high)))) in
      let turn : 256 * (d * n) ≡ d * (256 * n) = grind arith in
      let all_of : disc_size f.kind ≡ d * wide f = (disc f).size ∙ ap (λ (k : ℕ). 256 * k) (disc f).whole ∙ turn in
      ap (λ (k : ℕ). drop k f.image') all_of ∙ same ∙ ap (λ (k : ℕ). drop k f.image) (sym all_of)
    where
      some_bytes : (k : ℕ) → (k ≡ 1) ⊎ (k ≡ 4) → 0 < 256 * k
      some_bytes k (inl one) = omega (arith, one)
      some_bytes k (inr four) = omega (arith, four)
