use Rattle.std.proofs.Common.{◌∙◌, ◌*◌, ◌/◌, ◌%◌, ◌-◌, ◌≡◌, ◌≤◌, ap, arith, subst, sym, ℕ, List}
use Rattle.std.specs.Prelude.{◌||◌}
use Rattle.std.specs.List.{range_with_len}
use Rattle.fc_image.specs.Layout.{is_among}
use Rattle.fc_tree.specs.Taken.{has_mark}
use Rattle.fc_tree.proofs.TakenLemmas.{words_marked}
use Rattle.fc_tree.proofs.taken.Taken.mark_words.Goals as goal

pub returns-clause-marks : goal.returns-clause-marks
returns-clause-marks c = λ s.
    let at = c.args.sector in
    let end = c.args.end in
    let old : List ℕ = c.self.inside.words.items in
    let new : List ℕ = c.set_words.new.words.items in
    let low = subst (λ m. end ≤ m.sectors) (sym c.self.view_is) c.requires.on_disc in
    let set = c.set_words.ensures in
    let first : 64 * (at / 64) ≡ at = (let r = c.requires.first in omega arith) in
    let fits : 64 * (end / 64) ≤ c.self.inside.sectors = omega (arith, low) in
    let same : 64 * (end / 64) ≡ end - end % 64 = omega arith in
    words_marked old new c.self.inside.sectors at (at / 64) (end / 64) first fits c.self.invariant set.inside set.before set.behind s
    ∙ ap (λ (n : ℕ). is_among (range_with_len at (n - at)) s || has_mark (record { words = old; sectors = c.self.inside.sectors }) s) same
    ∙ ap (λ m. is_among (range_with_len at (end - end % 64 - at)) s || has_mark m s) c.self.view_is
