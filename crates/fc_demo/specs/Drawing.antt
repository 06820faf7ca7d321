-- One line of a demo and what follows it.
use Rattle.std.specs.Prelude.{◌≡◌, ℕ, ◌++◌, List}
use Rattle.fc_runs.specs.Demo.{compact_line, demo_command, draw, next_seed, with_newline}

-- Line i, drawn after a state x of the generator, was appended, and `next` is the state then.
pub record IsDrawn (i x : ℕ) (before after : List ℕ) (next : ℕ) : Type 0 where
  pub state : next ≡ next_seed (next_seed (next_seed x))
  pub line : after ≡ before ++ with_newline (demo_command i (draw (next_seed x)) (draw (next_seed (next_seed x))) (draw (next_seed (next_seed (next_seed x))))) ++ compact_line i
