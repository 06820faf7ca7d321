use Rattle.std.proofs.Common.{◌≡◌, true, false, ℕ, List, length, refl, ap}
use Rattle.std.specs.Fmt.{digits}
use Rattle.hex.specs.Hex.{encode_with}
use Rattle.fc_names.specs.Paths.{path_of}
use Rattle.fc_script.specs.Lines.{command_of}
use Rattle.fc_script.specs.HostLines.{host_line_of}
use Rattle.fc_runs.specs.Demo.{demo_lines, demo_script}
use Rattle.fc_runs.proofs.rows.Goals as goal

pub returns : goal.returns
unfolding digits encode_with demo_lines demo_script path_of command_of host_line_of
returns c = record {
  first = refl;
  second = refl;
  third = refl;
  script = refl;
  bad_dir = refl;
  bad_short = refl;
  listed = refl;
  refused = refl;
  taken = refl;
  broke_off = refl;
  done = refl;
  was_refused = refl;
  reading_broke_off = refl;
  second_broke_off = refl;
  compacted = refl;
  not_compacted = refl;
  put_broke_off = refl;
  get_broke_off = refl;
  begun = refl;
  demo_begun = refl;
  delete_then_compact = refl;
  not_the_first = refl;
  compact_then_delete = refl;
  then_get = refl;
  then_load = refl;
  in_compact = refl;
  got = refl;
  then_put = refl;
  cut_off = refl;
  of_a_demo = refl;
  unmade = λ old new. (refl, refl);
  untouched = λ disk. (refl, refl, refl);
  no_fresh = λ old new text u. (let clash : false ≡ true = u.0 in absurd (cc));
  some_text = λ old new u. (let clash : 2 ≡ 0 = ap (λ (t : List ℕ). length t) u.1 in absurd (cc));
  by_the_sink = λ old new text u. u;
  only_the_disk = refl;
}
