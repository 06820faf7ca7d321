use Rattle.std.proofs.Common.{◌++◌, [], sym, ap, ◌∙◌, append-nil, refl}
use Rattle.fc_newmap.specs.Map.{ZoneRun, all_runs}
use Rattle.fc_space.specs.Index.{row_of}
use Rattle.fc_space.proofs.IndexLemmas.{no_more, one_more}
use Rattle.fc_space.proofs.index.push_runs.Goals as goal

pub loop-z-init : goal.loop-z-init
loop-z-init c = record {
  met = ([], all_runs c.args.map.now, refl, c.over_all-walk.ensures.stands, sym (append-nil c.args.rows.now.items));
  low = λ low. low;
}

pub loop-z-preserved : goal.loop-z-preserved
loop-z-preserved c =
    let p : ZoneRun = (c.in-Some.z, c.in-Some.run') in
    record {
      met = one_more c.args.map.now c.args.ahead c.args.rows.now.items c.loop-z.rows.items c.push_run.new.rows.items c.loop-z.walk c.next.new.self c.next.result p c.loop-z.invariant.met c.next.ensures.value
          c.in-Some.is (c.in_ok-push_run.ensures.rows ∙ ap (λ g. c.loop-z.rows.items ++ row_of g c.args.ahead p c.in-Some.run'.kind) c.geometry-g.ensures.value);
      low = λ low. c.in_ok-push_run.ensures.low (c.loop-z.invariant.low low);
    }

pub returns-clause-rows : goal.returns-clause-rows
returns-clause-rows c =
    no_more c.args.map.now c.args.ahead c.args.rows.now.items c.loop-z.rows.items c.loop-z.walk c.next.new.self c.next.result c.loop-z.invariant.met c.next.ensures.value c.in_default.is
