-- The tree after a line is determined, whatever the step chose.
use Rattle.std.specs.Prelude.{◌≡◌, List, ℕ}
use Rattle.fc_host.specs.Files.{Files}
use Rattle.fc_image.specs.effects.Effect.{State, tree_in}
use Rattle.fc_script.specs.Lines.{command_of}
use Rattle.fc_runs.specs.Run.{Mode, Step, tree_after}
use Rattle.fc_runs.specs.HostRun.{HostStep, Reading, host_tree_after}

-- Every step of a line ends with this tree.
pub record TreeLaw : Type 0 where
  pub plain : (mode : Mode) (s s' : State) (line reply : List ℕ) → Step mode s line reply s' → tree_in s' ≡ tree_after mode s (command_of line)
  pub host : (read : Reading) (mode : Mode) (s s' : State) (files files' : Files) (line reply : List ℕ) → HostStep read mode s files line reply s' files'
      → tree_in s' ≡ host_tree_after mode s files (read line)
