-- Lists of sectors of which none is there twice, and objects that lie apart.
use Rattle.std.proofs.Common.{◌≡◌, ◌<◌, ◌≤◌, ◌==◌, ◌||◌, ℕ, zero, suc, Bool, true, false, eqb, List, [], ◌∷◌, ◌++◌, eq-eqb, length, get_or, take, refl, sym, ap, ◌∙◌, arith}
use Rattle.std.specs.Prelude.{Contains, IsPermutation}
use Rattle.std.proofs.lemmas.List.{length-take}
use Rattle.std.specs.List.{AllByRecursion, IsDistinct}
use Rattle.std.proofs.lemmas.Bool.{eqb-true}
use Rattle.std.proofs.lemmas.Map.Keys.{IsDistinct-IsPermutation}
use Rattle.fc_newmap.proofs.CoverLemmas.{Distinct}
use Rattle.fc_newmap.proofs.PlaceLemmas.{in_back, in_front}
use Rattle.fc_image.specs.Edits.{Apart}
use Rattle.fc_image.specs.Layout.{is_among}
use Rattle.fc_image.specs.Walk.{Object}
use Rattle.fc_image.proofs.HolesLemmas.{apart_at}
use Rattle.fc_image.proofs.RoomLemmas.{std_Distinct}
use Rattle.fc_objects.specs.Written.{AreApart}
use Rattle.fc_safe.proofs.ListLemmas.{same_test}

found_at : (xs : List ℕ) (s : ℕ) → is_among xs s ≡ true → (j : ℕ) × (j < length xs) × (get_or xs j 0 ≡ s)
found_at [] s e = absurd (cc)
found_at (x ∷ xs) s e = by (x == s) refl (found_at xs s) e
  where
    by : (b : Bool) → (x == s) ≡ b → (is_among xs s ≡ true → (j : ℕ) × (j < length xs) × (get_or xs j 0 ≡ s)) → (b || is_among xs s) ≡ true → (j : ℕ) × (j < length (x ∷ xs)) × (get_or (x ∷ xs) j 0 ≡ s)
    by true f rest g = (0, omega arith, eqb-true x s f)
    by false f rest g = let r = rest g in (suc r.0, (let low = r.1 in omega (arith, low)), r.2)

pub distinct_of : (xs : List ℕ) → AreApart xs → Distinct xs
distinct_of [] a = tt
distinct_of (x ∷ xs) a = (none (is_among xs x) refl, distinct_of xs (λ i j less low same. a (suc i) (suc j) (omega (arith, less)) (omega (arith, low)) same))
  where
    none : (b : Bool) → is_among xs x ≡ b → b ≡ false
    none false e = refl
    none true e = absurd (let r = found_at xs x e in let low = r.1 in a 0 (suc r.0) (omega arith) (omega (arith, low)) (sym r.2))

of_std : (xs : List ℕ) → IsDistinct eqb xs → Distinct xs
unfolding IsDistinct
of_std [] d = tt
of_std (x ∷ xs) d = (none xs d.0, of_std xs d.1)
  where
    none : (ys : List ℕ) → AllByRecursion (λ (y : ℕ). eqb x y ≡ false) ys → is_among ys x ≡ false
    none [] all = refl
    none (y ∷ ys) all = by (y == x) refl (none ys all.1)
      where
        by : (b : Bool) → (y == x) ≡ b → is_among ys x ≡ false → (b || is_among ys x) ≡ false
        by true f rest = absurd (let same = eqb-true y x f in let own : eqb x y ≡ true = eq-eqb x y (sym same) in let no = all.0 in cc)
        by false f rest = rest

-- So it is in any order.
pub distinct_moved : (xs ys : List ℕ) → IsPermutation xs ys → Distinct xs → Distinct ys
distinct_moved xs ys moved d = of_std ys (IsDistinct-IsPermutation eqb flips xs ys moved (std_Distinct xs d))
  where
    flips : (x y : ℕ) → eqb x y ≡ eqb y x
    flips x y = same_test (eqb x y) (eqb y x) (λ e. eq-eqb y x (sym (eqb-true x y e))) (λ e. eq-eqb x y (sym (eqb-true y x e)))

-- the first n are at most n
pub few_taken : (n : ℕ) (xs : List ℕ) → length (take n xs) ≤ n
few_taken n xs = let l = length-take n xs in omega (arith, l)

-- ---- objects that lie apart

-- what lies apart from taken sectors
pub later_apart : (taken : List ℕ) (os : List Object) → Apart taken os → (p : Object) → Contains os p → (s : ℕ) → is_among p.sectors s ≡ true → is_among taken s ≡ true → ⊥
later_apart taken [] a p (j, low, e) s in_p in_taken = omega (arith, low)
later_apart taken (q ∷ os) a p (zero, low, e) s in_p in_taken =
    let yes : is_among q.sectors s ≡ true = ap (λ (o : Object). is_among o.sectors s) e ∙ in_p in let no = apart_at q.sectors taken s a.0 yes in cc
later_apart taken (q ∷ os) a p (suc j, low, e) s in_p in_taken = later_apart (q.sectors ++ taken) os a.1 p (j, omega (arith, low), e) s in_p (in_back q.sectors taken s in_taken)

-- Of two of them with a sector in common one is the other.
pub one_object : (taken : List ℕ) (os : List Object) → Apart taken os → (p o : Object) → Contains os p → Contains os o → (s : ℕ) → is_among p.sectors s ≡ true → is_among o.sectors s ≡ true → (p ≡ o → ⊥) → ⊥
one_object taken [] a p o (j, low, e) at s in_p in_o other = omega (arith, low)
one_object taken (q ∷ os) a p o (zero, low, e) (zero, low', f) s in_p in_o other = other (sym e ∙ f)
one_object taken (q ∷ os) a p o (zero, low, e) (suc j, low', f) s in_p in_o other =
    later_apart (q.sectors ++ taken) os a.1 o (j, omega (arith, low'), f) s in_o (in_front q.sectors taken s (ap (λ (r : Object). is_among r.sectors s) e ∙ in_p))
one_object taken (q ∷ os) a p o (suc k, low, e) (zero, low', f) s in_p in_o other =
    later_apart (q.sectors ++ taken) os a.1 p (k, omega (arith, low), e) s in_p (in_front q.sectors taken s (ap (λ (r : Object). is_among r.sectors s) f ∙ in_o))
one_object taken (q ∷ os) a p o (suc k, low, e) (suc j, low', f) s in_p in_o other = one_object (q.sectors ++ taken) os a.1 p o (k, omega (arith, low), e) (j, omega (arith, low'), f) s in_p in_o other
