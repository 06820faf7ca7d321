use Rattle.std.proofs.Common.{◌≤◌, ◌%◌, ℕ, List, false, get_or, refl, sym, subst, ◌∙◌, arith}
use Rattle.std.specs.Prelude.{◌||◌, Contains}
use Rattle.std.proofs.lemmas.List.Elements.{Contains-get_or}
use Rattle.fc_device.proofs.DiskLaws.{laws}
use Rattle.fc_compact.specs.Candidates.{places, run_count}
use Rattle.fc_compact.proofs.GoneLemmas.{gone_err, gone_start, gone_then}
use Rattle.fc_compact.proofs.PassLemmas.{all_taken, falls_more, none_more, same_more}
use Rattle.fc_compact.proofs.compaction.join_some.Goals as goal

pub join_one-requires-clause-stands : goal.join_one-requires-clause-stands
join_one-requires-clause-stands g c = c.loop-owner.invariant.gone.keeps.stands

pub loop-owner-init : goal.loop-owner-init
loop-owner-init g c = record {
  gone = gone_start (laws g.met.D.Disk) c.laws.ensures c.args.owners.now c.args.disk.now c.args.map.now c.is_map.ensures c.requires.stands;
  survey = c.requires.survey;
  seen = refl;
  ids = refl;
  same = λ e. refl;
  falls = omega arith;
  none = λ e o there may. absurd (let l = there.1 in omega arith);
}

pub returns-in_err-joined-clause-keeps : goal.returns-in_err-joined-clause-keeps
returns-in_err-joined-clause-keeps g c =
    gone_err (laws g.met.D.Disk) c.laws.ensures c.args.owners.now c.args.disk.now c.args.map.now c.loop-owner.disk c.loop-owner.map c.loop-owner.invariant.gone c.join_one.new.disk c.join_one.new.map _ c.from_residual.result c.from_residual.ensures.0 c.in_err-joined.ensures.keeps

pub loop-owner-preserved : goal.loop-owner-preserved
loop-owner-preserved g c =
    let was = c.loop-owner.invariant in
    let ok = c.in_ok-joined.ensures in
    let m = c.loop-owner.map in
    let n = c.join_one.new.map in
    let list = c.args.list.now in
    let i = c.loop-owner.owner-index in
    record {
      gone = gone_then (laws g.met.D.Disk) c.laws.ensures c.args.owners.now c.args.disk.now c.args.map.now c.loop-owner.disk m was.gone c.join_one.new.disk n _ ok.keeps ok.tries.packs;
      survey = ok.survey;
      seen = c.join_one.ensures.seen ∙ was.seen;
      ids = c.join_one.ensures.ids ∙ was.ids;
      same = same_more c.args.owners.now list m n i c.loop-owner-test.true record { id = 0; dir = 0; node = 0; file = false; low = 0; first = 0; sectors = 0 }
          c.loop-owner.any c.in_ok-joined.joined (c.loop-owner.any || c.in_ok-joined.joined) refl ok.tries c.args.map.now was.same;
      falls = falls_more c.args.owners.now list m n i c.loop-owner-test.true record { id = 0; dir = 0; node = 0; file = false; low = 0; first = 0; sectors = 0 }
          c.loop-owner.any c.in_ok-joined.joined (c.loop-owner.any || c.in_ok-joined.joined) refl ok.tries (run_count list c.args.map.now) was.falls;
      none = none_more c.args.owners.now list m n i c.loop-owner-test.true record { id = 0; dir = 0; node = 0; file = false; low = 0; first = 0; sectors = 0 }
          c.loop-owner.any c.in_ok-joined.joined (c.loop-owner.any || c.in_ok-joined.joined) refl ok.tries was.none;
    }

pub returns-clause-tries : goal.returns-clause-tries
returns-clause-tries g c =
    let was = c.loop-owner.invariant in
    record {
      packs = was.gone.packs;
      falls = was.falls;
      same = was.same;
      none = λ e o there may. was.none e o (all_taken c.args.list.now c.loop-owner.owner-index (omega (arith, c.loop-owner-test.false)) o there) may;
    }

pub join_one-requires-clause-survey : goal.join_one-requires-clause-survey
join_one-requires-clause-survey g c = c.loop-owner.invariant.survey

pub join_one-requires-clause-taken : goal.join_one-requires-clause-taken
join_one-requires-clause-taken g c = λ several.
    let was = c.loop-owner.invariant in
    let o = get_or c.args.list.now c.loop-owner.owner-index record { id = 0; dir = 0; node = 0; file = false; low = 0; first = 0; sectors = 0 } in
    subst (λ x. Contains x.items o.id) (sym was.ids)
    (c.requires.taken o (Contains-get_or c.args.list.now c.loop-owner.owner-index record { id = 0; dir = 0; node = 0; file = false; low = 0; first = 0; sectors = 0 } c.loop-owner-test.true)
    (subst (λ (seen : List ℕ). 2 ≤ get_or seen (o.id % places) 0) was.seen several))

pub returns-clause-survey : goal.returns-clause-survey
returns-clause-survey g c = c.loop-owner.invariant.survey
