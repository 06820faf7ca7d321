use Rattle.std.proofs.Common.{◌++◌, codes, ap, ◌∙◌}
use Rattle.std.specs.List.{flat_map, range_with_len}
use Rattle.fc_runs.specs.Demo.{dir_path, with_newline}
use Rattle.fc_demo.proofs.LineLemmas.{whole_script}
use Rattle.fc_demo.proofs.demo_script.Goals as goal

pub returns : goal.returns
returns c = whole_script c.args.n c.push_directories.new.into.items c.push_draws.new.into.items c.append.new.into.items
    (c.in_ok-push_directories.ensures ∙ ap (λ xs. xs ++ flat_map (λ d. with_newline (codes "cdir " ++ dir_path d)) (range_with_len 0 8)) c.new-script.ensures.items) c.in_ok-push_draws.ensures c.in_ok-append.ensures
