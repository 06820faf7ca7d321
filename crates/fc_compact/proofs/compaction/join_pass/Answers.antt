use Rattle.std.proofs.Common.{◌≡◌, ◌≤◌, ◌+◌, ◌++◌, [], List, length, refl, sym, ap, ap₂, subst, ◌∙◌, append_assoc, append-nil, arith}
use Rattle.std.specs.Prelude.{◌||◌, Contains}
use Rattle.std.proofs.lemmas.Bool.{eqb-true, or_parts as neither}
use Rattle.std.proofs.lemmas.List.{nil_from_length, take-append-drop}
use Rattle.fc_device.proofs.DiskLaws.{laws}
use Rattle.fc_alloc.specs.declared.owner.Owner.{Owner}
use Rattle.fc_compact.specs.Candidates.{AreTakenIn, run_count}
use Rattle.fc_compact.specs.Settlement.{one_if}
use Rattle.fc_compact.proofs.GoneLemmas.{gone_err, gone_ok, gone_start, gone_then}
use Rattle.fc_compact.proofs.PassLemmas.{falls_part, none_part}
use Rattle.fc_compact.proofs.compaction.join_pass.Goals as goal

pub loop-left-init : goal.loop-left-init
loop-left-init g c = record {
  gone = gone_start (laws g.met.D.Disk) c.laws.ensures c.args.owners.now c.args.disk.now c.args.map.now c.is_map.ensures c.requires.stands;
  survey = c.of-survey.ensures;
  done = [];
  cut = refl;
  same = λ e. refl;
  falls = omega arith;
  none = λ e o there may. absurd (let l = there.1 in omega arith);
}

pub take_in-count-requires-clause-survey : goal.take_in-count-requires-clause-survey
take_in-count-requires-clause-survey g c = c.loop-left.invariant.survey

pub join_some-requires-clause-stands : goal.join_some-requires-clause-stands
join_some-requires-clause-stands g c = c.loop-left.invariant.gone.keeps.stands

pub join_some-requires-clause-survey : goal.join_some-requires-clause-survey
join_some-requires-clause-survey g c = c.take_in-count.ensures.survey

pub join_some-requires-clause-taken : goal.join_some-requires-clause-taken
join_some-requires-clause-taken g c =
    subst (AreTakenIn c.take_in-count.new.self.seen c.take_in-count.new.self.candidates.ids.items) (sym c.split_at.ensures.front) c.take_in-count.ensures.taken

pub returns-in_err-joined-clause-keeps : goal.returns-in_err-joined-clause-keeps
returns-in_err-joined-clause-keeps g c =
    gone_err (laws g.met.D.Disk) c.laws.ensures c.args.owners.now c.args.disk.now c.args.map.now c.loop-left.disk c.loop-left.map c.loop-left.invariant.gone c.join_some.new.disk c.join_some.new.map _ c.from_residual.result c.from_residual.ensures.0 c.in_err-joined.ensures.keeps

pub loop-left-preserved : goal.loop-left-preserved
loop-left-preserved g c =
    let was = c.loop-left.invariant in
    let ok = c.in_ok-joined.ensures in
    let owners = c.args.owners.now in
    let m = c.loop-left.map in
    let n = c.join_some.new.map in
    let now = c.split_at.result.0.now in
    let later = c.split_at.result.1.now in
    let cut : c.args.list.now ≡ was.done ++ (now ++ later) =
    was.cut ∙ ap (λ (os : List Owner). was.done ++ os) (sym (ap₂ (λ (os ps : List Owner). os ++ ps) c.split_at.ensures.front c.split_at.ensures.back ∙ take-append-drop c.take_in-count.result c.loop-left.left.now)) in
    record {
      gone = gone_then (laws g.met.D.Disk) c.laws.ensures owners c.args.disk.now c.args.map.now c.loop-left.disk m was.gone c.join_some.new.disk n _ ok.keeps ok.tries.packs;
      survey = ok.survey;
      done = was.done ++ now;
      cut = cut ∙ sym (append_assoc was.done now later);
      same = λ e. let both = neither c.loop-left.any c.in_ok-joined.joined e in ok.tries.same both.1 ∙ was.same both.0;
      falls = subst (λ (os : List Owner). run_count os n + one_if (c.loop-left.any || c.in_ok-joined.joined) ≤ run_count c.args.list.now c.args.map.now) (sym cut)
          (falls_part owners m n ok.tries.packs was.done now later c.loop-left.any c.in_ok-joined.joined (c.loop-left.any || c.in_ok-joined.joined) (run_count c.args.list.now c.args.map.now) refl ok.tries.falls
          (subst (λ (os : List Owner). run_count os m + one_if c.loop-left.any ≤ run_count c.args.list.now c.args.map.now) cut was.falls));
      none = λ e. let both = neither c.loop-left.any c.in_ok-joined.joined e in none_part owners m n (ok.tries.same both.1) was.done now (was.none both.0) (ok.tries.none both.1);
    }

pub returns-clause-keeps : goal.returns-clause-keeps
returns-clause-keeps g c = gone_ok (laws g.met.D.Disk) c.laws.ensures c.args.owners.now c.args.disk.now c.args.map.now c.loop-left.disk c.loop-left.map c.loop-left.invariant.gone _

pub returns-clause-tries : goal.returns-clause-tries
returns-clause-tries g c =
    let was = c.loop-left.invariant in
    let all : c.args.list.now ≡ was.done = was.cut ∙ ap (λ (os : List Owner). was.done ++ os) (nil_from_length c.loop-left.left.now (eqb-true (length c.loop-left.left.now) 0 (sym c.is_empty.ensures ∙ c.loop-left-test.false))) ∙ append-nil was.done in
    record {
      packs = was.gone.packs;
      falls = was.falls;
      same = was.same;
      none = λ e o there may. was.none e o (subst (λ (os : List Owner). Contains os o) all there) may;
    }
