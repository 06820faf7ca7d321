use Rattle.std.proofs.Common.{◌++◌, ◌∷◌, ◌+◌, List, refl, ap, ◌∙◌, arith}
use Rattle.fc_bytes.specs.Bits.{bits}
use Rattle.fc_zone.specs.declared.Run.{Run}
use Rattle.fc_zone.specs.Cursor.{HasLeft}
use Rattle.fc_zone.specs.Zone.{Zone, hole_from}
use Rattle.fc_zone.proofs.HolderLemmas.{next_has, run_is}
use Rattle.fc_zone.proofs.EditLemmas.{run_place}
use Rattle.fc_zone.proofs.CursorLemmas.{left_after}
use Rattle.fc_zone.proofs.reading.next.Goals as goal
use Rattle.fc_zone.proofs.reading.next.Goals.{Joined-after, in-Hole, in-Id}

-- what is left behind the run
left : (c : Joined-after) (front rest : List Run) → Zone c.args.shape.now c.args.b.now (front ++ c.args.after ∷ rest)
    → HasLeft c.args.shape.now (bits c.args.b.now) (c.args.after.start + c.args.after.len) c.match-after.hole rest
left c front rest zone =
    let shape = c.args.shape.now in
    let s = c.args.b.now in
    let after = c.args.after in
    elim c.match-after.branch [
      | in-Hole w ↦ left_after shape s front rest after c.match-after.hole zone (λ hole. w.hole-is ∙ w.next_hole-hole.ensures) (λ other. absurd (other w.in-Hole.is))
      | in-Id w ↦ left_after shape s front rest after c.match-after.hole zone (λ hole. absurd (let is = w.in-Id.is in cc))
          (λ other. w.hole-is ∙ w.hole_from-hole.ensures ∙ ap (hole_from shape (bits s)) (w.holder_before.ensures.holder front rest after zone refl))
    ]

pub next_hole-hole-requires-clause-within : goal.next_hole-hole-requires-clause-within
next_hole-hole-requires-clause-within c =
    let has = c.requires.run in
    let place = run_place c.args.shape.now c.args.b.now has.0 has.1.0 c.args.after has.1.1 in
    omega (arith, place.1)

pub holder_before-requires-clause-from_first : goal.holder_before-requires-clause-from_first
holder_before-requires-clause-from_first c =
    let has = c.requires.run in
    let place = run_place c.args.shape.now c.args.b.now has.0 has.1.0 c.args.after has.1.1 in
    place.0

pub overflow_add-after : goal.overflow_add-after
overflow_add-after c =
    let has = c.requires.run in
    let is = run_is c.args.shape.now c.args.b.now has.0 has.1.0 c.args.after has.1.1 in
    omega (arith, is.within)

pub run_from-requires-clause-left : goal.run_from-requires-clause-left
run_from-requires-clause-left c =
    let has = c.requires.run in
    (has.1.0, left (goal.at.run_from-requires-clause-left c).Joined-after has.0 has.1.0 has.1.1)

pub returns-clause-value : goal.returns-clause-value
returns-clause-value c = λ front rest zone. c.run_from.ensures rest (left (goal.at.returns-clause-value c).Joined-after front rest zone)

pub returns-clause-run : goal.returns-clause-run
returns-clause-run c =
    let has = c.requires.run in
    let value = c.run_from.ensures has.1.0 (left (goal.at.returns-clause-run c).Joined-after has.0 has.1.0 has.1.1) in
    next_has c.args.shape.now c.args.b.now has.0 has.1.0 c.args.after c.run_from.result has.1.1 value
