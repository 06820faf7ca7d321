use Rattle.std.proofs.Common.{◌≡◌, ap, false, sym, ◌∙◌, ℕ}
use Rattle.fc_placing.specs.Lows.{is_clear, start_of}
use Rattle.fc_placing.proofs.LowLemmas.{moves}
use Rattle.fc_placing.proofs.lows.low_past.Goals as goal

pub returns-else-is_clear : goal.returns-else-is_clear
returns-else-is_clear c =
    let step = c.args.step in
    let o = c.args.o.now in
    let behind = c.low_behind.ensures in
    let in_way : is_clear (start_of step c.args.low) c.args.need o ≡ false =
    ap (λ (n : ℕ). is_clear n c.args.need o) (sym c.start_of.ensures) ∙ sym c.is_clear.ensures ∙ c.if-is_clear.false in
    moves step c.args.need o c.args.low c.low_behind.result in_way behind.from behind.byte behind.behind behind.least
