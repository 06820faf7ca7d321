-- Where objects lie on an old map, and lists of sectors that lie apart.
use Rattle.std.proofs.Common.{◌≡◌, ◌<◌, ◌≤◌, ◌⊎◌, inl, inr, ⊎_elim, ℕ, suc, ◌+◌, ◌*◌, ◌/◌, ◌%◌, Bool, true, false, cond, List, [], ◌∷◌, ◌++◌, length, refl, sym, ap, subst, ◌∙◌, arith, Some, None}
use Rattle.std.specs.Prelude.{Ok, Err, Contains, nat_le, ◌==◌, ◌&&◌}
use Rattle.std.specs.List.{flat_map, range_with_len}
use Rattle.std.specs.Int.{div_ceil}
use Rattle.std.proofs.lemmas.Bool.{eqb-true, leb-true}
use Rattle.std.proofs.lemmas.List.FromFn.{length-range_with_len}
use Rattle.fc_newmap.proofs.PlaceLemmas.{in_back, in_either, in_front}
use Rattle.fc_oldmap.specs.OldMap.{OldMapContent}
use Rattle.fc_image.specs.Layout.{Layout, is_among, is_apart, old_sectors, sectors_at}
use Rattle.fc_image.specs.Walk.{Object}
use Rattle.fc_image.specs.Edits.{Apart}
use Rattle.fc_image.proofs.FreeLemmas.{range_bounds}
use Rattle.fc_image.proofs.HolesLemmas.{apart_at, apart_from}
use Rattle.fc_changes.proofs.BasicLemmas.{cases_cons, clash, nothing_in}
use Rattle.fc_image.proofs.MoveLemmas.{some_one as some_list}
use Rattle.fc_changes.proofs.PlacedLemmas.{is_in_flat as among_flat}

-- ---- an object

-- The sectors are a row of whole sectors on the disc.
pub record IsRow (space : OldMapContent) (address bytes : ℕ) (sectors : List ℕ) : Type 0 where
  pub begins : address % space.sector_units ≡ 0
  pub row : sectors ≡ range_with_len (address / space.sector_units) (div_ceil bytes (256 * space.sector_units))
  pub long : length sectors ≡ div_ceil bytes (256 * space.sector_units)
  pub inside : address / space.sector_units + div_ceil bytes (256 * space.sector_units) ≤ space.disc_units / space.sector_units

-- no bytes have no sectors, and others lie in a row
pub row_or_none : (space : OldMapContent) (address bytes : ℕ) (sectors : List ℕ) → sectors_at (Layout.Old space) address bytes ≡ Some sectors
    → ((bytes ≡ 0) × (sectors ≡ [])) ⊎ IsRow space address bytes sectors
unfolding sectors_at
row_or_none space address bytes sectors e = by (bytes == 0) refl e
  where
    u : ℕ
    u = space.sector_units

    first : ℕ
    first = address / u

    count : ℕ
    count = div_ceil bytes (256 * u)

    in_row : (b c : Bool) → (address % u == 0) ≡ b → nat_le (first + count) (space.disc_units / u) ≡ c → cond (b && c) (Some (range_with_len first count)) None ≡ Some sectors
        → IsRow space address bytes sectors
    in_row true true t f g =
        let same = some_list (range_with_len first count) sectors g in
        record {
          begins = eqb-true (address % u) 0 t;
          row = sym same;
          long = ap (λ (xs : List ℕ). length xs) (sym same) ∙ length-range_with_len first count;
          inside = leb-true (first + count) (space.disc_units / u) f;
        }
    in_row true false t f g = absurd (cc)
    in_row false c t f g = absurd (cc)

    by : (b : Bool) → (bytes == 0) ≡ b → cond b (Some []) (old_sectors space address bytes) ≡ Some sectors → ((bytes ≡ 0) × (sectors ≡ [])) ⊎ IsRow space address bytes sectors
    by true t f = inl (eqb-true bytes 0 t, sym (some_list [] sectors f))
    by false t f = inr (in_row (address % u == 0) (nat_le (first + count) (space.disc_units / u)) refl refl f)

-- one of the sectors
pub in_disc : (space : OldMapContent) (address bytes : ℕ) (sectors : List ℕ) (s : ℕ) → sectors_at (Layout.Old space) address bytes ≡ Some sectors → is_among sectors s ≡ true
    → IsRow space address bytes sectors × (address / space.sector_units ≤ s) × (s < address / space.sector_units + div_ceil bytes (256 * space.sector_units))
in_disc space address bytes sectors s e h = ⊎_elim
    (λ none. absurd (clash (is_among sectors s) h (ap (λ (xs : List ℕ). is_among xs s) none.1)))
    (λ row. let b = range_bounds (address / space.sector_units) (div_ceil bytes (256 * space.sector_units)) s (ap (λ (xs : List ℕ). is_among xs s) (sym row.row) ∙ h) in (row, b.0, b.1))
    (row_or_none space address bytes sectors e)

-- ---- apart

-- an object is apart from what was taken before it
pub each_apart : (taken : List ℕ) (os : List Object) (p : Object) → Apart taken os → Contains os p → is_apart p.sectors taken ≡ true
each_apart taken [] p a at = absurd (nothing_in p at)
each_apart taken (o ∷ os) p a at = elim (cases_cons o os p at) [
  | inl is ↦ subst (λ (q : Object). is_apart q.sectors taken ≡ true) is a.0
  | inr later ↦ (let wide = each_apart (o.sectors ++ taken) os p a.1 later in
      apart_from p.sectors taken (λ s i j. clash (is_among (o.sectors ++ taken) s) (in_back o.sectors taken s j) (apart_at p.sectors (o.sectors ++ taken) s wide i)))
]

-- and from an object before it
pub pair_apart : (taken : List ℕ) (o : Object) (os : List Object) (p : Object) → Apart taken (o ∷ os) → Contains os p → is_apart p.sectors o.sectors ≡ true
pair_apart taken o os p a at =
    let wide = each_apart (o.sectors ++ taken) os p a.1 at in
    apart_from p.sectors o.sectors (λ s i j. clash (is_among (o.sectors ++ taken) s) (in_front o.sectors taken s j) (apart_at p.sectors (o.sectors ++ taken) s wide i))

-- the same objects, apart from something else
pub apart_again : (taken taken' : List ℕ) (os : List Object) → ((p : Object) → Contains os p → is_apart p.sectors taken ≡ true → is_apart p.sectors taken' ≡ true) → Apart taken os → Apart taken' os
apart_again taken taken' [] turn a = tt
apart_again taken taken' (o ∷ os) turn a = (
  turn o (0, omega arith, refl) a.0,
  apart_again (o.sectors ++ taken) (o.sectors ++ taken') os
      (λ p at wide.
      let narrow = apart_from p.sectors taken (λ s i j. clash (is_among (o.sectors ++ taken) s) (in_back o.sectors taken s j) (apart_at p.sectors (o.sectors ++ taken) s wide i)) in
      let now = turn p (suc at.0, omega (arith, at.1), at.2) narrow in
      apart_from p.sectors (o.sectors ++ taken')
      (λ s i j. elim (in_either o.sectors taken' s j) [
        | Ok first ↦ clash (is_among (o.sectors ++ taken) s) (in_front o.sectors taken s first) (apart_at p.sectors (o.sectors ++ taken) s wide i)
        | Err second ↦ clash (is_among taken' s) second (apart_at p.sectors taken' s now i)
      ])) a.1,
)
