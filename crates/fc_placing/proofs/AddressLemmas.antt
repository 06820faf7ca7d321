-- Addresses of new files.
use Rattle.std.proofs.Common.{◌≡◌, ◌<◌, ◌≤◌, ◌&&◌, ◌==◌, ◌+◌, ◌-◌, ◌*◌, ◌/◌, ◌^◌, inl, inr, min, ℕ, Bool, true, false, cond, List, map, refl, sym, ap, subst, ◌∙◌, arith, Some, None, nat_le}
use Rattle.std.specs.Prelude.{nat_eq}
use Rattle.std.specs.List.{find, range_with_len}
use Rattle.std.specs.Int.{next_multiple_of}
use Rattle.std.proofs.lemmas.Bool.{cases_lt, le-leb, leb-true}
use Rattle.std.proofs.lemmas.Nat.{mul-le, pow_pos}
use Rattle.fc_record.specs.declared.Geometry.{Geometry}
use Rattle.fc_record.specs.Record.{geometry, id_limit}
use Rattle.fc_alloc.specs.declared.owner.Owner.{Owner}
use Rattle.fc_newmap.specs.Map.{Map}
use Rattle.fc_newmap.specs.NewMap.{IsNewMap, IsOfRecord}
use Rattle.fc_image.proofs.EntriesLemmas.{from_map}
use Rattle.fc_image.specs.effects.Placed.{has_spare_share}
use Rattle.fc_image.specs.effects.Sharing.{holdings_in, is_shareable, is_spare, shares, slack_among}
use Rattle.fc_plan.specs.declared.plan.Plan.{Plan}
use Rattle.fc_placing.specs.Slack.{holdings}
use Rattle.fc_placing.proofs.Shares.{ids_few}
use Rattle.fc_changes.proofs.BasicLemmas.{in_flat}
use Rattle.fc_changes.proofs.PlacedLemmas.{found_in}
use Rattle.fc_placing.specs.Places.{IsOwnPlan, slack_left}
use Rattle.fc_changes.proofs.StepsLemmas.{low_in_range}
pub use Rattle.fc_space.proofs.GeometryLemmas.{share_low}

-- ---- the geometry's numbers

pub bit_positive : (g : Geometry) → IsOfRecord g → 1 ≤ g.bit_bytes
bit_positive g is = subst (λ (h : Geometry). 1 ≤ h.bit_bytes) is.1.1 (pow_pos is.0.log2_bit)

-- ---- sums that stay at the greatest number

same_le : (a b c : ℕ) → (a ≤ b → a ≤ c) → (a ≤ c → a ≤ b) → nat_le a b ≡ nat_le a c
same_le a b c to from = by (nat_le a b) (nat_le a c) refl refl
  where
    by : (s t : Bool) → nat_le a b ≡ s → nat_le a c ≡ t → s ≡ t
    by true true x y = refl
    by false false x y = refl
    by true false x y = absurd (let h = le-leb a c (to (leb-true a b x)) in let k : true ≡ false = sym h ∙ y in cc)
    by false true x y = absurd (let h = le-leb a b (from (leb-true a c y)) in let k : true ≡ false = sym h ∙ x in cc)

pub saturated : (top e bits each : ℕ) → 1 ≤ each → e ≤ top → nat_le e (min (min bits top * each) top) ≡ nat_le e (bits * each)
saturated top e bits each some low = elim (cases_lt top bits) [
  | inr few ↦
      (let exact : min bits top ≡ bits = omega arith in
      same_le e (min (min bits top * each) top) (bits * each)
      (λ h. let same : min bits top * each ≡ bits * each = ap (λ (n : ℕ). n * each) exact in omega (arith, h, same))
      (λ h. let same : min bits top * each ≡ bits * each = ap (λ (n : ℕ). n * each) exact in omega (arith, h, same)))
  | inl many ↦
      (let exact : min bits top ≡ top = omega arith in
      let same : min bits top * each ≡ top * each = ap (λ (n : ℕ). n * each) exact in
      let most : top * 1 ≤ top * each = mul-le top 1 top each (omega arith) some in
      let more : bits * 1 ≤ bits * each = mul-le bits 1 bits each (omega arith) some in
      same_le e (min (min bits top * each) top) (bits * each) (λ h. omega (arith, many, more, low)) (λ h. omega (arith, same, most, low)))
]

pub spare_is : (g : Geometry) (bits space end bytes : ℕ) → IsOfRecord g → space ≡ min (min bits (2 ^ 64 - 1) * g.bit_bytes) (2 ^ 64 - 1) → end ≡ next_multiple_of bytes g.share → end + g.share < 2 ^ 64
    → (nat_le (end + g.share) space && nat_le (end / g.share) 254) ≡ has_spare_share g (bits * g.bit_bytes) bytes
spare_is g bits space end bytes is space_is end_is low =
    ap (λ (s : ℕ). nat_le (end + g.share) s && nat_le (end / g.share) 254) space_is
    ∙ ap (λ (b : Bool). b && nat_le (end / g.share) 254) (saturated (2 ^ 64 - 1) (end + g.share) bits g.bit_bytes (bit_positive g is) (omega (arith, low)))
    ∙ ap (λ (e : ℕ). nat_le (e + g.share) (bits * g.bit_bytes) && nat_le (e / g.share) 254) end_is

module _ (g : Geometry) (bits space end bytes : ℕ) (is : IsOfRecord g) (space_is : space ≡ min (min bits (2 ^ 64 - 1) * g.bit_bytes) (2 ^ 64 - 1)) (end_is : end ≡ next_multiple_of bytes g.share)
    (low : end + g.share < 2 ^ 64) where
  pub spare_then : end + g.share ≤ space → nat_le (end / g.share) 254 ≡ has_spare_share g (bits * g.bit_bytes) bytes
  spare_then fits = ap (λ (b : Bool). b && nat_le (end / g.share) 254) (sym (le-leb (end + g.share) space fits)) ∙ spare_is g bits space end bytes is space_is end_is low

  pub spare_else : space < end + g.share → nat_le (end + g.share) space ≡ has_spare_share g (bits * g.bit_bytes) bytes
  spare_else over = by (nat_le (end + g.share) space) refl (spare_is g bits space end bytes is space_is end_is low)
    where
      by : (b : Bool) → nat_le (end + g.share) space ≡ b → (b && nat_le (end / g.share) 254) ≡ has_spare_share g (bits * g.bit_bytes) bytes → b ≡ has_spare_share g (bits * g.bit_bytes) bytes
      by true e h = absurd (let fits = leb-true (end + g.share) space e in omega (arith, fits, over))
      by false e h = h

-- ---- identifiers

pub share_id : (m : Map) (is : IsNewMap m) (owners : List Owner) (dir bytes : ℕ) (share : ℕ × ℕ) → slack_left m owners dir bytes ≡ Some share → share.0 < 2 ^ 24
unfolding slack_among
share_id m is owners dir bytes share h = by (bytes == 0) h
  where
    test : ℕ × ℕ → Bool
    test s = is_shareable nat_eq dir (holdings_in (holdings m owners) s.0) && is_spare m (holdings_in (holdings m owners) s.0) s.0 s.1 bytes

    by : (b : Bool) → cond b None (find (λ s. is_shareable nat_eq dir (holdings_in (holdings m owners) s.0) && is_spare m (holdings_in (holdings m owners) s.0) s.0 s.1 bytes) (shares m)) ≡ Some share → share.0 < 2 ^ 24
    by true g = absurd (cc)
    by false g =
        let f = found_in test (shares m) share g in
        let i = in_flat (λ (id : ℕ). map (λ (low : ℕ). let s : ℕ × ℕ = (id, low) in s) (range_with_len 1 255)) (range_with_len 3 (id_limit m.geometry - 3)) share f.0 in
        let l = from_map (λ (low : ℕ). let s : ℕ × ℕ = (i.0, low) in s) (range_with_len 1 255) share i.2 in
        let same : i.0 ≡ share.0 = ap (λ (s : ℕ × ℕ). s.0) l.2 in
        let low = low_in_range 3 (id_limit m.geometry - 3) i.0 i.1 in
        let few = ids_few m.geometry is.of_record in
        omega (arith, same, low, few)

pub plan_id : (m : Map) (is : IsNewMap m) (bytes : ℕ) (plan : Plan) → IsOwnPlan m bytes plan → plan.id < 2 ^ 24
plan_id m is bytes plan own =
    let fits = own.can.fits in
    let few = ids_few m.geometry is.of_record in
    omega (arith, fits, few)
