-- A change of one directory in place: objects leave it and come into it, and runs of the map are taken and go back.
use Rattle.std.proofs.Common.{◌≡◌, ◌<◌, ◌≤◌, ℕ, zero, suc, ◌*◌, Bool, true, false, cond, List, [], ◌∷◌, length, take, drop, refl, ap, subst, arith, Some, None, eq-eqb}
use Rattle.std.specs.Prelude.{◌==◌, ◌||◌, nat_le}
use Rattle.std.specs.Int.{div_ceil}
use Rattle.std.proofs.lemmas.Bool.{eqb-true, leb-true}
use Rattle.std.proofs.lemmas.Grind.{div_ceil_times}
use Rattle.fc_record.specs.declared.Kind.{Kind}
use Rattle.fc_newmap.specs.Map.{Map}
use Rattle.fc_image.specs.Layout.{Layout, first_part, id_of, id_sectors, is_among, is_object_id, low_of, low_start, sectors_at}
use Rattle.fc_image.specs.Walk.{Listing}
use Rattle.fc_image.specs.Opening.{Opened}

abbrev pub opened : Kind → Map → List Listing → Opened
opened kind m ls = record { kind = kind; layout = Layout.New m; listings = ls }

-- ---- objects with sectors

pub ceil_some : (bytes size : ℕ) → 0 < bytes → 0 < size → 0 < div_ceil bytes size
ceil_some bytes size some pos = by (div_ceil bytes size) (div_ceil_times bytes size pos).0
  where
    by : (n : ℕ) → bytes ≤ n * size → 0 < n
    by zero h = absurd (omega (arith, h, some))
    by (suc n) h = omega arith

-- some bytes have a sector
pub a_sector : (m : Map) (address bytes : ℕ) (sectors : List ℕ) → 0 < bytes → 0 < m.geometry.sector → sectors_at (Layout.New m) address bytes ≡ Some sectors → (s : ℕ) × (is_among sectors s ≡ true)
unfolding sectors_at
a_sector m address bytes sectors some size e = by (bytes == 0) (is_object_id m (id_of address)) refl e
  where
    first : (n : ℕ) (xs : List ℕ) → 0 < n → first_part n xs ≡ Some sectors → (s : ℕ) × (is_among sectors s ≡ true)
    first n xs pos h = cut (nat_le n (length xs)) refl h
      where
        cut : (b : Bool) → nat_le n (length xs) ≡ b → cond b (Some (take n xs)) None ≡ Some sectors → (s : ℕ) × (is_among sectors s ≡ true)
        cut true low f = head n xs pos (leb-true n (length xs) low) (let g : take n xs ≡ sectors = cc in g)
          where
            head : (k : ℕ) (ys : List ℕ) → 0 < k → k ≤ length ys → take k ys ≡ sectors → (s : ℕ) × (is_among sectors s ≡ true)
            head zero ys p q g = absurd (omega (arith, p))
            head (suc k) [] p q g = absurd (omega (arith, q))
            head (suc k) (y ∷ ys) p q g = (y, subst (λ (zs : List ℕ). is_among zs y ≡ true) g (ap (λ b. b || is_among (take k ys) y) (eq-eqb y y refl)))
        cut false low f = absurd (cc)

    by : (b i : Bool) → (bytes == 0) ≡ b
        → cond b (Some []) (cond i (first_part (div_ceil bytes m.geometry.sector) (drop (low_start m (low_of address)) (id_sectors m (id_of address)))) None) ≡ Some sectors
        → (s : ℕ) × (is_among sectors s ≡ true)
    by true i t f = absurd (let none = eqb-true bytes 0 t in omega (arith, none, some))
    by false true t f = first (div_ceil bytes m.geometry.sector) (drop (low_start m (low_of address)) (id_sectors m (id_of address))) (ceil_some bytes m.geometry.sector some size) f
    by false false t f = absurd (cc)
