-- Why an old map has no space, from what it answers.
use Rattle.std.proofs.Common.{◌≡◌, ◌&&◌, Bool, false, [], ◌∷◌, length, Option, Some, None, refl, ap, ◌∙◌}
use Rattle.std.specs.Prelude.{is_none, nat_lt}
use Rattle.fc_image.specs.effects.Short.{old_need}
use Rattle.fc_model.specs.Answer.{first_of, when}
use Rattle.fc_names.specs.declared.refusal.Refusal.{Refusal}
use Rattle.fc_names.specs.declared.refusal.Refusal.TheVariants as refusals
use Rattle.fc_oldmap.specs.Holes.{first_fit_place, hole_limit, hole_sum}
use Rattle.fc_oldmap.specs.OldMap.{OldMapContent}
use Rattle.fc_tree.specs.Parts.{Parts}
use Rattle.fc_change.specs.declared.job.Wants.{Wants}
use Rattle.fc_change.specs.OldSpace.{map_given, map_taken}
use Rattle.fc_change.specs.Shortage.{short_old, short_take}

only_last : (x y z : Option Refusal) → first_of (x ∷ y ∷ []) ≡ None → first_of (x ∷ y ∷ z ∷ []) ≡ first_of (z ∷ [])
only_last (Some a) y z e = absurd (cc)
only_last None (Some b) z e = absurd (cc)
only_last None None z e = refl

-- What is taken has space, and the holes are few enough once the rest goes back.
pub none_refused : (space : OldMapContent) (h : Parts) (w : Wants) → short_take space w.bytes ≡ None → nat_lt hole_limit (length (map_given space h.nodes w.goes (map_taken space w.bytes)).holes) ≡ false → short_old space h w ≡ None
none_refused space h w took few =
    only_last (when (nat_lt (hole_sum space.holes) (old_need space w.bytes)) refusals.DiscFull) (when (nat_lt 0 (old_need space w.bytes) && is_none (first_fit_place (old_need space w.bytes) space.holes)) refusals.CompactionRequired)
    (when (nat_lt hole_limit (length (map_given space h.nodes w.goes (map_taken space w.bytes)).holes)) refusals.MapFull) took
    ∙ ap (λ (b : Bool). first_of (when b refusals.MapFull ∷ [])) few
