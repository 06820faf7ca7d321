use Rattle.std.proofs.Common.{◌++◌, codes, ap, sym, ◌∙◌, append_assoc}
use Rattle.std.specs.List.{flat_map, range_with_len}
use Rattle.fc_runs.specs.Demo.{dir_path, with_newline}
use Rattle.fc_demo.proofs.LineLemmas.{flat_map_next}
use Rattle.fc_demo.proofs.lines.push_directories.Goals as goal

pub loop-d-preserved : goal.loop-d-preserved
loop-d-preserved c =
    c.in_ok-push_directory.ensures ∙ ap (λ xs. xs ++ with_newline (codes "cdir " ++ dir_path c.loop-d.d)) c.loop-d.invariant
    ∙ append_assoc c.args.into.now.items (flat_map (λ d. with_newline (codes "cdir " ++ dir_path d)) (range_with_len 0 c.loop-d.d)) (with_newline (codes "cdir " ++ dir_path c.loop-d.d))
    ∙ ap (λ xs. c.args.into.now.items ++ xs) (sym (flat_map_next (λ d. with_newline (codes "cdir " ++ dir_path d)) c.loop-d.d))
