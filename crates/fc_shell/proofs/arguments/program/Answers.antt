use Rattle.fc_shell.proofs.arguments.program.Goals as goal

pub returns : goal.returns
returns g c =
    let run = c.run_with.ensures in (
      c.run_with.result,
      c.status.ensures,
      record {
        promise = run.promise;
        told = run.told;
        headline = run.headline;
        host = run.host;
        keeps = run.keeps;
        bad_words = run.bad_words;
        words = λ none. let x = run.words none in (x.0, x.1, record { disk = x.2; sink = x.3; host = x.4 });
        unattached = λ text told long. let x = run.unattached text told long in (x.0, record { disk = x.1; sink = x.2; host = x.3 });
        too_long = run.too_long;
        script_fault = run.script_fault;
        script_end = run.script_end;
        unread = run.unread;
      },
    )
