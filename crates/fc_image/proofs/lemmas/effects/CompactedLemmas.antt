-- An opened image with an old map after compaction.
use Rattle.std.proofs.Common.{◌≡◌, ◌≤◌, ℕ, ◌+◌, Bool, true, false, cond, List, [], ◌∷◌, length, Some, None, refl, subst, arith}
use Rattle.std.specs.Prelude.{◌&&◌, nat_le, nat_lt, is_none}
use Rattle.std.specs.Option.{option_map_or}
use Rattle.std.proofs.lemmas.Bool.{leb-false, lt-ltb}
use Rattle.std.proofs.lemmas.List.Sums.{sum_by-cons}
use Rattle.fc_names.specs.declared.refusal.Refusal.TheVariants as refusals
use Rattle.fc_oldmap.specs.declared.Hole.{Hole}
use Rattle.fc_oldmap.specs.Holes.{hole_limit, hole_sum, first_fit_place}
use Rattle.fc_oldmap.specs.OldMap.{OldMapContent}
use Rattle.fc_model.specs.Command.{Command}
use Rattle.fc_model.specs.Answer.{when, first_of}
use Rattle.fc_image.specs.Layout.{Layout}
use Rattle.fc_image.specs.Objects.{objects_of}
use Rattle.fc_image.specs.Opening.{Opened}
use Rattle.fc_image.proofs.OldMapLemmas.{old_map_law}
use Rattle.fc_image.specs.effects.Short.{gain_in, is_full_with, new_length, old_holes_after, old_need, short, space_reasons}
use Rattle.fc_image.specs.effects.Settled.{is_settled, is_settled_space}
use Rattle.fc_image.specs.effects.Laws.{OldMapCompactedLaw}
use Rattle.fc_image.proofs.lemmas.effects.OneHoleLemmas.{one_hole_law}

settled_old : (v : Opened) (space : OldMapContent) → v.layout ≡ Layout.Old space → is_settled v ≡ true → is_settled_space space (objects_of v.listings) ≡ true
settled_old v space is e = subst (λ (l : Layout). is_settled (record v { layout = l }) ≡ true) is e

-- one hole that isn't long enough is too short in all
too_short : (need : ℕ) (holes : List Hole) → length holes ≤ 1 → (nat_lt 0 need && is_none (first_fit_place need holes)) ≡ true → nat_lt (hole_sum holes) need ≡ true
unfolding first_fit_place
too_short need [] few e = some need e
  where
    some : (n : ℕ) → (nat_lt 0 n && true) ≡ true → nat_lt 0 n ≡ true
    some n e = by (nat_lt 0 n) e
      where
        by : (b : Bool) → (b && true) ≡ true → b ≡ true
        by true e = refl
        by false e = e
too_short need (h ∷ []) few e = by (nat_le need h.len) refl e
  where
    sum : hole_sum (h ∷ []) ≡ h.len + 0
    sum = sum_by-cons (λ (g : Hole). g.len) h []

    none : (b : Bool) → (b && false) ≡ true → ⊥
    none true e = cc
    none false e = cc

    by : (b : Bool) → nat_le need h.len ≡ b → (nat_lt 0 need && is_none (cond b (Some h.start) None)) ≡ true → nat_lt (hole_sum (h ∷ [])) need ≡ true
    by true t e = absurd (none (nat_lt 0 need) e)
    by false t e = lt-ltb (hole_sum (h ∷ [])) need (omega (arith, sum, leb-false need h.len t))
too_short need (h ∷ g ∷ holes) few e = absurd (omega (arith, few))

-- the refusals in their order
not_required : (full : Bool) (space : OldMapContent) (need : ℕ) (after : List Hole) → length space.holes ≤ 1
    → first_of (when full refusals.DirFull ∷ when (nat_lt (hole_sum space.holes) need) refusals.DiscFull
    ∷ when (nat_lt 0 need && is_none (first_fit_place need space.holes)) refusals.CompactionRequired
    ∷ when (nat_lt hole_limit (length after)) refusals.MapFull ∷ []) ≡ Some refusals.CompactionRequired → ⊥
not_required full space need after few e =
    by full (nat_lt (hole_sum space.holes) need) (nat_lt 0 need && is_none (first_fit_place need space.holes)) (nat_lt hole_limit (length after)) refl refl e
  where
    by : (a b c d : Bool) → nat_lt (hole_sum space.holes) need ≡ b → (nat_lt 0 need && is_none (first_fit_place need space.holes)) ≡ c
        → first_of (when a refusals.DirFull ∷ when b refusals.DiscFull ∷ when c refusals.CompactionRequired ∷ when d refusals.MapFull ∷ []) ≡ Some refusals.CompactionRequired → ⊥
    by true b c d f g e = cc
    by false true c d f g e = cc
    by false false true d f g e = let short = too_short need space.holes few g in cc
    by false false false true f g e = cc
    by false false false false f g e = cc

none_required : (v : Opened) (space : OldMapContent) (c : Command) → v.layout ≡ Layout.Old space → length space.holes ≤ 1 → short v c ≡ Some refusals.CompactionRequired → ⊥
unfolding short
none_required v space c is few e =
    not_required (option_map_or (λ gain. is_full_with gain.listing.content gain) (gain_in v c) false) space (old_need space (new_length v c)) (old_holes_after space v c) few
    (subst (λ (l : Layout). first_of (when (option_map_or (λ gain. is_full_with gain.listing.content gain) (gain_in v c) false) refusals.DirFull ∷ space_reasons l v c) ≡ Some refusals.CompactionRequired) is e)

pub old_map_compacted_law : OldMapCompactedLaw
old_map_compacted_law = record {
  one_hole = λ image kind v space opens is lost settled.
      one_hole_law space (objects_of v.listings) (old_map_law image kind v space opens is) lost (settled_old v space is settled);
  none_required = none_required;
}
