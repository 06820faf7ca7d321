use Rattle.std.proofs.Common.{◌+◌, refl, ap, ◌∙◌, arith}
use Rattle.fc_bytes.specs.Bits.{bits}
use Rattle.fc_zone.specs.declared.cursor.Cursor.{Cursor}
use Rattle.fc_zone.proofs.CursorLemmas.{none_left, first_left, left_of, left_fits, stepped}
use Rattle.fc_zone.proofs.cursor.Cursor.next.Goals as goal
use Rattle.fc_zone.proofs.cursor.Cursor.next.Goals.{in-Hole, in_default}

pub run_from-requires-clause-left : goal.run_from-requires-clause-left
run_from-requires-clause-left c =
    let stands = c.requires.stands in
    (stands.1, left_of c.args.shape.now c.args.b.now stands.0 stands.1 c.args.self.now stands.2)

pub returns-in_err-run-clause-value : goal.returns-in_err-run-clause-value
returns-in_err-run-clause-value c =
    rw c.from_residual.ensures (λ done left stands.
    (none_left left (c.in_err-run.ensures left (left_of c.args.shape.now c.args.b.now done left c.args.self.now stands)), refl))

pub next_hole-self-requires-clause-within : goal.next_hole-self-requires-clause-within
next_hole-self-requires-clause-within c =
    let stands = c.requires.stands in
    let left = left_of c.args.shape.now c.args.b.now stands.0 stands.1 c.args.self.now stands.2 in
    let fits = left_fits c.args.shape.now (bits c.args.b.now) stands.1 c.args.self.now.at c.args.self.now.hole c.in_ok-run.run' left (c.in_ok-run.ensures stands.1 left) in
    omega (arith, fits.0, fits.1, fits.2)

pub overflow_add-self : goal.overflow_add-self
overflow_add-self c =
    let stands = c.requires.stands in
    let left = left_of c.args.shape.now c.args.b.now stands.0 stands.1 c.args.self.now stands.2 in
    let fits = left_fits c.args.shape.now (bits c.args.b.now) stands.1 c.args.self.now.at c.args.self.now.hole c.in_ok-run.run' left (c.in_ok-run.ensures stands.1 left) in
    omega (arith, fits.0, fits.1, fits.2)

pub returns-clause-value : goal.returns-clause-value
returns-clause-value c = λ done left stands.
    let shape = c.args.shape.now in
    let s = c.args.b.now in
    let old = c.args.self.now in
    let run = c.in_ok-run.run' in
    let new : Cursor = record { at = run.start + run.len; hole = c.match-run.self.hole } in
    let first = first_left left run (c.in_ok-run.ensures left (left_of shape s done left old stands)) in
    let stands' = rw first.1 at stands in (
      first.0,
      (
        first.1,
        elim c.match-run.branch [
          | in-Hole w ↦ stepped shape s done first.0 run old new stands' refl (λ hole. ap (λ (cursor : Cursor). cursor.hole) w.self-is ∙ w.next_hole-self.ensures) (λ other. absurd (other w.in-Hole.is))
          | in_default w ↦ stepped shape s done first.0 run old new stands' refl (λ hole. absurd (w.in_default.not-Hole hole)) (λ other. ap (λ (cursor : Cursor). cursor.hole) w.self-is)
        ],
      ),
    )

pub returns-clause-place : goal.returns-clause-place
returns-clause-place c =
    let stands = c.requires.stands in
    let left = left_of c.args.shape.now c.args.b.now stands.0 stands.1 c.args.self.now stands.2 in
    let fits = left_fits c.args.shape.now (bits c.args.b.now) stands.1 c.args.self.now.at c.args.self.now.hole c.in_ok-run.run' left (c.in_ok-run.ensures stands.1 left) in
    (fits.0, refl)

pub returns-clause-onward : goal.returns-clause-onward
returns-clause-onward c =
    let stands = c.requires.stands in
    let left = left_of c.args.shape.now c.args.b.now stands.0 stands.1 c.args.self.now stands.2 in
    let fits = left_fits c.args.shape.now (bits c.args.b.now) stands.1 c.args.self.now.at c.args.self.now.hole c.in_ok-run.run' left (c.in_ok-run.ensures stands.1 left) in
    omega (arith, fits.0, fits.1, fits.2)
