use Rattle.std.proofs.Common.{◌∙◌, ◌++◌, [], List, ℕ, sym, refl, ap, subst, append-nil}
use Rattle.fc_objects.specs.Extents.{sectors_in}
use Rattle.fc_image.specs.Layout.{Layout, hole_sectors}
use Rattle.fc_space.specs.Space.{layout_of}
use Rattle.fc_tree.specs.Loaded.{not_free}
use Rattle.fc_tree.specs.Taken.{AreTaken, Marks}
use Rattle.fc_tree.proofs.TakenLemmas.{taken_more}
use Rattle.fc_tree.proofs.walk.reserve.Goals.{in-OldMapped, in_default}
use Rattle.fc_tree.proofs.walk.reserve.Goals as goal

pub returns-clause-taken : goal.returns-clause-taken
returns-clause-taken c =
    let first = c.take.ensures.taken [] c.in_ok-taken.ensures.none in
    let reserved = sectors_in c.args.reserved.now in
    elim c.match-space.branch [
      | in-OldMapped w ↦ (
          let holes = hole_sectors (Layout.Old w.in-OldMapped.map) in
          subst (λ (m : Marks). AreTaken m (not_free (layout_of c.args.space.now) reserved)) (sym w.taken-is)
          (subst (λ (xs : List ℕ). AreTaken w.take_holes.new.taken xs) (append-nil (reserved ++ holes) ∙ sym (ap (λ s. not_free (layout_of s) reserved) w.in-OldMapped.is))
          (taken_more w.take_holes.new.taken holes reserved (reserved ++ holes) [] refl (w.take_holes.ensures.taken (reserved ++ []) first))))
      | in_default w ↦ (
          subst (λ (m : Marks). AreTaken m (not_free (layout_of c.args.space.now) reserved)) (sym w.taken-is)
          (subst (λ (xs : List ℕ). AreTaken c.take.new.self xs) (append-nil reserved ∙ sym (ap (λ s. not_free (layout_of s) reserved) w.in_default.is)) first))
    ]
