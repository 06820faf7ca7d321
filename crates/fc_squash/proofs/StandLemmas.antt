-- How objects and holes stand after some objects have slid down.
use Rattle.std.proofs.Common.{◌≡◌, ◌≢◌, ◌<◌, ◌≤◌, ◌⊎◌, ℕ, zero, suc, ◌+◌, List, [], ◌∷◌, ◌++◌, length, take, map, get_or, refl, sym, ap, subst, ◌∙◌, arith}
use Rattle.std.specs.Prelude.{◌||◌, All, slice_set}
use Rattle.fc_oldmap.specs.declared.Hole.{Hole}
use Rattle.fc_oldmap.specs.Holes.{hole, hole_end, hole_sum, tidied, IsHole, AreHoles, AreApart}
use Rattle.fc_oldmap.specs.OldMap.{OldMapContent, IsOldMap}
use Rattle.fc_image.specs.declared.effects.Owned.{Owned}
use Rattle.fc_image.specs.effects.Moves.{SameButStarts}
use Rattle.fc_squash.specs.Squashing.{place, places, moved_to, no_object, with_start, covers, AreBodies, IsPulled}
use Rattle.fc_squash.proofs.PlaceLemmas.{every-right, every-map, every-both, cut_at, Gapped, gapped-tidied, apart-tidied, covers-tidied, sum-tidied}
use Rattle.fc_squash.proofs.StepLemmas.{every_from, every_all, rise-joined, Stepped, pull_step}
use Rattle.fc_image.proofs.lemmas.effects.OneHoleLemmas.{Every}
use Rattle.fc_oldmap.proofs.SpaceLemmas.{length-joined_with as length-joined}

-- ---- after tidying

rise-tidied : (d u floor : ℕ) (holes : List Hole) → AreHoles d u floor holes → AreHoles d u floor (tidied holes)
unfolding tidied
rise-tidied d u floor [] rise = tt
rise-tidied d u floor (h ∷ holes) (is, rise) = rise-joined d u floor h (tidied holes) is (rise-tidied d u (hole_end h) holes rise)

length-tidied : (holes : List Hole) → length (tidied holes) ≤ length holes
unfolding tidied
length-tidied [] = omega arith
length-tidied (h ∷ holes) = omega (arith, length-joined h (tidied holes), length-tidied holes)

positive : (d u floor : ℕ) (xs : List Hole) → AreHoles d u floor xs → Every (λ x. 0 < x.len) xs
positive d u floor [] rise = tt
positive d u floor (x ∷ xs) (h, rest) = (h.positive, positive d u (hole_end x) xs rest)

-- ---- the state of the loop

-- after the first k objects
pub record Standing (old space : OldMapContent) (was now : List Owned) (k : ℕ) : Type 0 where
  pub map : IsOldMap space
  pub disc : space.disc_units ≡ old.disc_units
  pub units : space.sector_units ≡ old.sector_units
  pub objects : SameButStarts was now
  pub rise : AreHoles space.disc_units space.sector_units 0 (places now)
  pub apart : Every (λ b. Every (AreApart b) space.holes) (places now)
  pub gaps : Gapped space.holes
  pub same : (n : ℕ) → (covers (places now) n || covers space.holes n) ≡ (covers (places was) n || covers old.holes n)
  pub sum : hole_sum space.holes ≡ hole_sum old.holes
  pub settled : Every (λ b. Every (λ h. hole_end h ≢ b.start) space.holes) (places (take k now))

stays_same : (was : List Owned) → SameButStarts was was
stays_same [] = tt
stays_same (o ∷ was) = (refl, stays_same was)

-- each object is apart from each hole
apart_each : (holes : List Hole) (bodies : List Hole) → All (λ b. All (AreApart b) holes) bodies → Every (λ b. Every (AreApart b) holes) bodies
apart_each holes bodies all =
    every-map (λ b. All (AreApart b) holes) (λ b. Every (AreApart b) holes) (λ b a. every_from (AreApart b) holes a) bodies (every_from (λ b. All (AreApart b) holes) bodies all)

pub apart_all : (holes : List Hole) (bodies : List Hole) → Every (λ b. Every (AreApart b) holes) bodies → All (λ b. All (AreApart b) holes) bodies
apart_all holes bodies all =
    every_all (λ b. All (AreApart b) holes) bodies (every-map (λ b. Every (AreApart b) holes) (λ b. All (AreApart b) holes) (λ b a. every_all (AreApart b) holes a) bodies all)

pub stand_start : (old space : OldMapContent) (was : List Owned) → IsOldMap old → AreBodies old was → space ≡ record old { holes = tidied old.holes } → Standing old space was was 0
stand_start old space was map bodies tidy =
    subst (λ s. Standing old s was was 0) (sym tidy)
    record {
      map = record { few = omega (arith, length-tidied old.holes, map.few); disc = map.disc; units = map.units; holes = rise-tidied old.disc_units old.sector_units 0 old.holes map.holes };
      disc = refl;
      units = refl;
      objects = stays_same was;
      rise = bodies.rise;
      apart = every-both (λ b. 0 < b.len) (λ b. Every (AreApart b) old.holes) (λ b. Every (AreApart b) (tidied old.holes))
          (λ b long all. apart-tidied b old.holes long all) (places was) (positive old.disc_units old.sector_units 0 (places was) bodies.rise) (apart_each old.holes (places was) bodies.apart);
      gaps = gapped-tidied old.holes;
      same = λ n. ap (λ b. covers (places was) n || b) (covers-tidied n old.holes);
      sum = sum-tidied old.holes;
      settled = tt;
    }

-- ---- one object of the list

pub record AtPlace (now : List Owned) (k : ℕ) : Type 0 where
  pub front : List Owned
  pub rest : List Owned
  pub is : now ≡ front ++ get_or now k no_object ∷ rest
  pub set : (p : Owned) → slice_set now k p ≡ front ++ p ∷ rest
  pub first : take k now ≡ front
  pub next : (p : Owned) → take (k + 1) (front ++ p ∷ rest) ≡ front ++ p ∷ []

pub at_place : (now : List Owned) (k : ℕ) → k < length now → AtPlace now k
at_place [] k lt = absurd (omega (arith, lt))
at_place (o ∷ now) zero lt = record { front = []; rest = now; is = refl; set = λ p. refl; first = refl; next = λ p. refl }
at_place (o ∷ now) (suc k) lt =
    let more = at_place now k (omega (arith, lt)) in
    record {
      front = o ∷ more.front;
      rest = more.rest;
      is = ap (λ l. o ∷ l) more.is;
      set = λ p. ap (λ l. o ∷ l) (more.set p);
      first = ap (λ l. o ∷ l) more.first;
      next = λ p. next p more.front more.rest (more.next p);
    }
  where
    next : (p : Owned) (f r : List Owned) → take (k + 1) (f ++ p ∷ r) ≡ f ++ p ∷ [] → take (suc k + 1) (o ∷ f ++ p ∷ r) ≡ o ∷ f ++ p ∷ []
    next p f r e = let n : suc k + 1 ≡ suc (k + 1) = omega arith in ap (λ (m : ℕ). take m (o ∷ f ++ p ∷ r)) n ∙ ap (λ l. o ∷ l) e

pub places-append : (xs ys : List Owned) → places (xs ++ ys) ≡ places xs ++ places ys
places-append [] ys = refl
places-append (x ∷ xs) ys = ap (λ l. place x ∷ l) (places-append xs ys)

stays_moved : (was front rest : List Owned) (o : Owned) (start : ℕ) → SameButStarts was (front ++ o ∷ rest) → SameButStarts was (front ++ moved_to start o ∷ rest)
stays_moved [] [] rest o start stays = stays
stays_moved [] (f ∷ front) rest o start stays = stays
stays_moved (w ∷ was) [] rest o start (e, stays) = (ap (moved_to start) e, stays)
stays_moved (w ∷ was) (f ∷ front) rest o start (e, stays) = (e, stays_moved was front rest o start stays)

-- what is known of the object that comes next
pub record Comes (space : OldMapContent) (o : Owned) : Type 0 where
  pub here : IsHole space.disc_units space.sector_units 0 (place o)
  pub apart : All (AreApart (place o)) space.holes

pub comes : (old space : OldMapContent) (was now : List Owned) (k : ℕ) → Standing old space was now k → k < length now → Comes space (get_or now k no_object)
comes old space was now k stand lt =
    let at = at_place now k lt in
    let o = get_or now k no_object in
    let split : places now ≡ places at.front ++ place o ∷ places at.rest = ap places at.is ∙ places-append at.front (o ∷ at.rest) in
    let rise = subst (AreHoles space.disc_units space.sector_units 0) split stand.rise in
    let apart = subst (Every (λ b. Every (AreApart b) space.holes)) split stand.apart in
    record {
      here = (cut_at space.disc_units space.sector_units 0 (places at.front) (place o) (places at.rest) rise).1.here;
      apart = every_all (AreApart (place o)) space.holes (every-right (λ b. Every (AreApart b) space.holes) (places at.front) (place o ∷ places at.rest) apart).0;
    }

pub same_disc : (d u d' u' : ℕ) (xs : List Hole) → d' ≡ d → u' ≡ u → AreHoles d u 0 xs → AreHoles d' u' 0 xs
same_disc d u d' u' xs disc units rise = subst (λ n. AreHoles n u' 0 xs) (sym disc) (subst (λ n. AreHoles d n 0 xs) (sym units) rise)

-- one object more
pub stand_more : (old space space' : OldMapContent) (was now : List Owned) (k start : ℕ) → Standing old space was now k → k < length now
    → space'.disc_units ≡ space.disc_units → space'.sector_units ≡ space.sector_units → IsPulled space.holes space'.holes (place (get_or now k no_object)) start
    → Standing old space' was (with_start now k start) (k + 1)
stand_more old space space' was now k start stand lt disc units pulled =
    let at = at_place now k lt in
    let o = get_or now k no_object in
    let p = moved_to start o in
    let d = space.disc_units in
    let u = space.sector_units in
    let f = at.front in
    let r = at.rest in
    let split : places now ≡ places f ++ place o ∷ places r = ap places at.is ∙ places-append f (o ∷ r) in
    let rise = subst (AreHoles d u 0) split stand.rise in
    let apart = subst (Every (λ b. Every (AreApart b) space.holes)) split stand.apart in
    let settled = subst (λ l. Every (λ b. Every (λ h. hole_end h ≢ b.start) space.holes) (places l)) at.first stand.settled in
    let step : Stepped d u (places f) (place o) (hole start o.len) (places r) space.holes space'.holes =
    pull_step d u (places f) (place o) (places r) space.holes space'.holes start stand.map.units rise stand.map.holes apart stand.gaps settled pulled in
    let new : with_start now k start ≡ f ++ p ∷ r = at.set p in
    let new_places : places (with_start now k start) ≡ places f ++ place p ∷ places r = ap places new ∙ places-append f (p ∷ r) in
    let first : places (take (k + 1) (with_start now k start)) ≡ places f ++ place p ∷ [] =
    ap (λ (l : List Owned). places (take (k + 1) l)) new ∙ ap places (at.next p) ∙ places-append f (p ∷ []) in
    let A : List Hole → Type 0 = AreHoles d u 0 in
    record {
      map = record {
        few = omega (arith, step.few, stand.map.few);
        disc = omega (arith, disc, stand.map.disc);
        units = subst (λ n. (n ≡ 1) ⊎ (n ≡ 4)) (sym units) stand.map.units;
        holes = same_disc d u space'.disc_units space'.sector_units space'.holes disc units step.holes_rise;
      };
      disc = disc ∙ stand.disc;
      units = units ∙ stand.units;
      objects = subst (SameButStarts was) (sym new) (stays_moved was f r o start (subst (SameButStarts was) at.is stand.objects));
      rise = same_disc d u space'.disc_units space'.sector_units (places (with_start now k start)) disc units (subst A (sym new_places) step.rise);
      apart = subst (Every (λ b. Every (AreApart b) space'.holes)) (sym new_places) step.apart;
      gaps = step.gaps;
      same = λ n.
          ap (λ l. covers l n || covers space'.holes n) new_places
          ∙ step.same n
          ∙ ap (λ l. covers l n || covers space.holes n) (sym split)
          ∙ stand.same n;
      sum = step.sum ∙ stand.sum;
      settled = subst (Every (λ b. Every (λ h. hole_end h ≢ b.start) space'.holes)) (sym first) step.settled;
    }
