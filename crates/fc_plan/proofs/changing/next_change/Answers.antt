use Rattle.std.proofs.Common.{◌∙◌, Bool, List, ap, ap₂, arith, sym}
use Rattle.std.specs.Prelude.{◌||◌}
use Rattle.fc_newmap.specs.Map.{ZoneRun}
use Rattle.fc_plan.specs.Parts.{has_part}
use Rattle.fc_plan.proofs.changing.next_change.Goals as goal

pub returns-clause-none : goal.returns-clause-none
returns-clause-none c = λ y from less.
    (let to = c.min.ensures in
    let taken = c.min-taken.ensures in
    ap₂ (λ (a b : Bool). a || b)
    (ap (λ (ps : List ZoneRun). has_part ps y) (sym c.parts_in.ensures) ∙ c.next_part.ensures.none y from (omega arith))
    (ap₂ (λ (a b : Bool). a || b)
    (ap (λ (ps : List ZoneRun). has_part ps y) (sym c.parts_in-2.ensures) ∙ c.next_part-2.ensures.none y from (omega arith))
    (c.next_zone.ensures.none y from (omega arith))))
