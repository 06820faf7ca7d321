use Rattle.std.proofs.Common.{◌≡◌, ◌+◌, ◌-◌, ◌++◌, ◌∷◌, ℕ, List, ap, sym, ◌∙◌, arith}
use Rattle.fc_zone.specs.declared.Run.{Run}
use Rattle.fc_newmap.proofs.ComposeLemmas.{edit_then}
use Rattle.fc_compact.specs.Slides.{hole_at, part, run_at}
use Rattle.fc_compact.proofs.ShiftLemmas.{part_some}
use Rattle.fc_compact.proofs.shift.shift.Goals as goal

pub open-requires-clause-row : goal.open-requires-clause-row
open-requires-clause-row c =
    let s = c.args.slide in
    let can = c.requires.shift in
    let some = can.some in
    let within = can.within in
    let row = can.runs in
    let all : c.args.done + s.hole + (s.len - c.args.done) ≡ c.args.done + c.args.n + s.hole + (s.len - (c.args.done + c.args.n)) = omega (arith, some, within) in
    (row.0, row.1, c.close.ensures.runs row.0 row.1 row.2 ∙ ap (λ (k : ℕ). row.0 ++ run_at s.start k s.id ∷ row.1) all)

pub returns-clause-shifted : goal.returns-clause-shifted
returns-clause-shifted c = λ front rest zone.
    let s = c.args.slide in
    let can = c.requires.shift in
    let some = can.some in
    let within = can.within in
    let all : c.args.done + s.hole + (s.len - c.args.done) ≡ c.args.done + c.args.n + s.hole + (s.len - (c.args.done + c.args.n)) = omega (arith, some, within) in
    let now = c.args.done + c.args.n in
    c.open.ensures.runs front rest (c.close.ensures.runs front rest zone ∙ ap (λ (k : ℕ). front ++ run_at s.start k s.id ∷ rest) all)
    ∙ ap (λ (rs : List Run). front ++ rs) (sym (part_some s.start now s.id (hole_at (s.start + now) s.hole ∷ part (s.start + now + s.hole) (s.len - now) s.id rest) (omega (arith, some))))

pub returns-clause-edit : goal.returns-clause-edit
returns-clause-edit c = edit_then c.args.map.now c.close.new.map c.open.new.map c.args.slide.zone c.close.ensures.edit c.open.ensures.edit
