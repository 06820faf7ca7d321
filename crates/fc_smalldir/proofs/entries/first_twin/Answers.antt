use Rattle.std.proofs.Common.{◌≡◌, true, false, sym, ◌∙◌, arith, below_more}
use Rattle.fc_dirs.specs.Entries.{is_twin}
use Rattle.fc_dirs.proofs.TwinLemmas.{is_twin-at, twin_found, none_twin}
use Rattle.fc_smalldir.proofs.entries.first_twin.Goals as goal

pub returns-then-has_name : goal.returns-then-has_name
returns-then-has_name c =
    let es = c.args.entries.now in
    let i = c.loop-i.i in
    let here : is_twin es i ≡ true = is_twin-at es i c.index-entries-i.result (omega arith) ∙ sym c.has_name.ensures ∙ c.if-has_name.true in
    twin_found es i (omega arith) c.loop-i.invariant here

pub loop-i-preserved : goal.loop-i-preserved
loop-i-preserved c =
    let es = c.args.entries.now in
    let i = c.loop-i.i in
    let here : is_twin es i ≡ false = is_twin-at es i c.index-entries-i.result (omega arith) ∙ sym c.has_name.ensures ∙ c.if-has_name.false in
    below_more (λ k. is_twin es k ≡ false) i c.loop-i.invariant here

pub returns : goal.returns
returns c = none_twin c.args.entries.now (λ k h. c.loop-i.invariant k (omega (arith, h)))
