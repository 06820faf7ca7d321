use Rattle.std.proofs.Common.{◌≡◌, ◌+◌, ap, refl, sym, ◌∙◌, arith}
use Rattle.fc_zone.specs.declared.Run.{Run}
use Rattle.fc_zone.specs.Zone.{hole_starts}
use Rattle.fc_zone.proofs.CursorLemmas.{hole_is_ahead, no_first, stands_at_end, stands_past_hole}
use Rattle.fc_zone.proofs.cursor.Cursor.next_hole.Goals as goal

pub returns-in_default-clause-value : goal.returns-in_default-clause-value
returns-in_default-clause-value c = λ done left stands.
    (no_first (hole_starts left) (sym c.in_default.is ∙ stands.hole), stands_at_end c.args.shape.now c.args.b.now done left c.args.self.now (record { at = c.args.shape.now.end; hole = c.args.self.now.hole }) stands refl c.in_default.is)

pub run_at-run-requires-clause-begins : goal.run_at-run-requires-clause-begins
run_at-run-requires-clause-begins c =
    let stands = c.requires.stands in
    (hole_is_ahead c.args.shape.now c.args.b.now stands.0 stands.1 c.args.self.now c.in-Some.at stands.2 c.in-Some.is).0

pub returns-clause-value : goal.returns-clause-value
returns-clause-value c = λ done left stands.
    stands_past_hole c.args.shape.now c.args.b.now done left c.args.self.now (record { at = c.in-Some.at + c.run_at-run.result.len; hole = c.next_hole-self.result }) c.in-Some.at c.run_at-run.result stands c.in-Some.is
    c.run_at-run.ensures.run c.run_at-run.ensures.value refl c.next_hole-self.ensures

pub returns-clause-onward : goal.returns-clause-onward
returns-clause-onward c =
    let stands = c.requires.stands in
    let ahead = hole_is_ahead c.args.shape.now c.args.b.now stands.0 stands.1 c.args.self.now c.in-Some.at stands.2 c.in-Some.is in
    let start : c.run_at-run.result.start ≡ c.in-Some.at = ap (λ (u : Run). u.start) c.run_at-run.ensures.value in
    (omega (arith, ahead.1, start), omega (arith, start))
