-- A copy of an old map.
use Rattle.std.proofs.Common.{◌≡◌, ◌<◌, ◌≤◌, ◌+◌, ◌%◌, ◌^◌, ◌==◌, ℕ, Bool, true, cond, List, [], ◌∷◌, ◌++◌, length, take, drop, refl, sym, ap, ap₂, ◌∙◌, arith, Some, None, eq-eqb}
use Rattle.std.specs.Prelude.{nat_le, nat_lt, ◌&&◌, Result, Ok, Err}
use Rattle.std.proofs.lemmas.Bool.{le-leb, lt-ltb}
use Rattle.std.proofs.lemmas.List.{length-take-le}
use Rattle.std.proofs.Math.Seq.{drop-append_seam}
use Rattle.byteorder.specs.Endian.{little_bytes, little_number}
use Rattle.byteorder.specs.Numbers.{little_from-bytes}
use Rattle.std.proofs.Math.Nat.{div-one, mod-eq_of_lt}
use Rattle.fc_bytes.specs.Bits.{overwritten}
use Rattle.fc_bytes.specs.Words.{u24_at}
use Rattle.fc_oldmap.specs.declared.Hole.{Hole}
use Rattle.fc_oldmap.specs.declared.OldMapFault.{OldMapFault}
use Rattle.fc_oldmap.specs.Holes.{AreHoles, IsHole, hole_end}
use Rattle.fc_oldmap.specs.Laws.{ReadsBack}
use Rattle.fc_oldmap.specs.OldMap.{OldMapContent, IsOldMap, is_hole_right, map_units, old_map, with_holes, wrong_hole}
use Rattle.fc_change.specs.OldSpace.{LieBehind}

-- ---- a map that is written and read

pub all_true : (a b c d e : Bool) → a ≡ true → b ≡ true → c ≡ true → d ≡ true → e ≡ true → (a && b && c && d && e) ≡ true
all_true a b c d e p q r s t = rw (p, q, r, s, t) refl

pub is_right : (d u floor : ℕ) (h : Hole) → IsHole d u floor h → is_hole_right d u floor h ≡ true
unfolding is_hole_right
is_right d u floor h is =
    all_true (nat_lt 0 h.len) (nat_le floor h.start) (nat_le (hole_end h) d) (h.start % u == 0) (hole_end h % u == 0) (lt-ltb 0 h.len is.positive) (le-leb floor h.start is.onward)
    (le-leb (hole_end h) d is.inside) (eq-eqb (h.start % u) 0 is.begins) (eq-eqb (hole_end h % u) 0 is.ends)

pub none_wrong : (d u i floor : ℕ) (holes : List Hole) → AreHoles d u floor holes → wrong_hole d u i floor holes ≡ None
unfolding wrong_hole
none_wrong d u i floor [] are = refl
none_wrong d u i floor (h ∷ holes) are =
    ap (λ (b : Bool). cond b (wrong_hole d u (i + 1) (hole_end h) holes) (Some i)) (is_right d u floor h are.0) ∙ none_wrong d u (i + 1) (hole_end h) holes are.1

-- a number that is put somewhere
pub u24_put : (b : List ℕ) (at v : ℕ) → at ≤ length b → v < 2 ^ 24 → u24_at (overwritten b at (little_bytes 3 v)) at ≡ v
u24_put b at v within fits =
    let tail = little_bytes 3 v ++ drop (at + length (little_bytes 3 v)) b in
    let front : drop at (take at b ++ tail) ≡ tail = ap (λ (n : ℕ). drop n (take at b ++ tail)) (sym (length-take-le at b within)) ∙ drop-append_seam (take at b) tail in
    ap (little_number 3) front ∙ little_from-bytes 3 0 v (drop (at + length (little_bytes 3 v)) b) ∙ ap (λ (n : ℕ). n % 2 ^ 24) (div-one v) ∙ mod-eq_of_lt fits

-- A map whose holes lie after it is read as it was written.
pub copied : ReadsBack → (space : OldMapContent) (blank mid bytes : List ℕ) (disc units : ℕ) → 252 ≤ length blank → IsOldMap space → LieBehind space → disc ≡ space.disc_units
    → mid ≡ overwritten blank 252 (little_bytes 3 disc) → length mid ≡ 512 → bytes ≡ with_holes mid space.holes → units ≡ space.sector_units → old_map bytes units ≡ Ok space
copied back space blank mid bytes disc units long is behind disc_is mid_is whole written units_is =
    let at : u24_at mid 252 ≡ space.disc_units =
    ap (λ (bs : List ℕ). u24_at bs 252) mid_is ∙ u24_put blank 252 disc long (let d = is.disc in omega (arith, disc_is, d)) ∙ disc_is in
    ap₂ (λ (bs : List ℕ) (n : ℕ). old_map bs n) written units_is
    ∙ back space mid whole at is (none_wrong space.disc_units space.sector_units 0 (map_units space.sector_units) space.holes behind)

pub same_ok : (a b : OldMapContent) → (let r : Result OldMapContent OldMapFault = Ok a in r) ≡ Ok b → a ≡ b
same_ok a b e = cc

pub never_err : (a : OldMapContent) (f : OldMapFault) → (let r : Result OldMapContent OldMapFault = Ok a in r) ≡ Err f → ⊥
never_err a f e = cc
