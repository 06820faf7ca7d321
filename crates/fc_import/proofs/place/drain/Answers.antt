use Rattle.std.proofs.Common.{◌≡◌, ◌≤◌, ◌∙◌, ◌+◌, ◌++◌, [], List, ℕ, append_assoc, length, length-append, refl, sym, ap, subst, arith, rules}
use Rattle.std.proofs.lemmas.List.{append-nil}
use Rattle.std.proofs.lemmas.Result.{err_from_is_err_and}
use Rattle.fc_import.specs.Imports.{Drains}
use Rattle.fc_import.proofs.ImportLemmas.{supply_called, supply_then}
use Rattle.fc_import.proofs.place.drain.Goals as goal

pub loop-more-init : goal.loop-more-init
loop-more-init g c = record {
  piece = ([], sym (append-nil (g.B.Supply.given c.args.from.now)), omega arith);
  has = c.requires.left;
  room = c.requires.room;
  supply = record { total = refl; all = refl; goes = ([], refl) };
  faults = omega arith;
}

pub loop-more-preserved : goal.loop-more-preserved
loop-more-preserved g c =
    let inv = c.loop-more.invariant in
    let piece = c.fill.new.into in
    let long : length piece ≡ c.min-count.result = search rules in
    let few : c.min-count.result ≤ c.loop-more.more = search rules in
    record {
      piece = (
        inv.piece.0 ++ piece,
        c.in_ok-fill.ensures.given ∙ ap (λ (l : List ℕ). l ++ piece) inv.piece.1 ∙ append_assoc (g.B.Supply.given c.args.from.now) inv.piece.0 piece,
        omega (arith, inv.piece.2, long, few, length-append inv.piece.0 piece),
      );
      has = omega (arith, inv.has, long, few, ap length c.in_ok-fill.ensures.given, length-append (g.B.Supply.given c.loop-more.from) piece, c.fill.ensures.total);
      room = search rules;
      supply = supply_then g.B.Supply c.args.from.now c.loop-more.from c.fill.new.self inv.supply (supply_called g.B.Supply c.loop-more.from c.fill.new.self c.fill.ensures.total c.fill.ensures.all c.fill.ensures.goes);
      faults = omega (arith, inv.faults, c.fill.ensures.cause.later);
    }

pub returns-in_err-fill-clause-drained : goal.returns-in_err-fill-clause-drained
returns-in_err-fill-clause-drained g c =
    let inv = c.loop-more.invariant in
    let p = err_from_is_err_and c.from_residual.result c.from_residual.ensures.1 in
    subst (Drains g.B.Supply c.args.left c.args.from.now c.fill.new.self) (sym p.1)
    (record {
      piece = inv.piece.0;
      given = c.in_err-fill.ensures.failed ∙ inv.piece.1;
      few = omega (arith, inv.piece.2);
      whole = tt;
      supply = supply_then g.B.Supply c.args.from.now c.loop-more.from c.fill.new.self inv.supply (supply_called g.B.Supply c.loop-more.from c.fill.new.self c.fill.ensures.total c.fill.ensures.all c.fill.ensures.goes);
    })

pub returns-clause-drained : goal.returns-clause-drained
returns-clause-drained g c =
    let inv = c.loop-more.invariant in
    record { piece = inv.piece.0; given = inv.piece.1; few = omega (arith, inv.piece.2); whole = omega (arith, inv.piece.2, c.loop-more-test.false); supply = inv.supply }
