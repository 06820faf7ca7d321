-- Replies settle the tree: `HasTreeAfter` speaks of the trees of the run itself.
use Rattle.std.specs.Prelude.{◌≡◌, List, ℕ}
use Rattle.fc_host.specs.Files.{Files}
use Rattle.fc_image.specs.Stays.{IsNewLayout}
use Rattle.fc_image.specs.effects.Effect.{State, tree_in}
use Rattle.fc_runs.specs.Run.{Mode, Steps}
use Rattle.fc_runs.specs.HostRun.{HostSteps, Reading}

-- On a new map, two runs of the same lines with the same replies end with the same tree, wherever space was taken, and with
-- the same files of the host.
pub record RepliesLaw : Type 0 where
  pub plain : (mode : Mode) (s a b : State) (lines replies : List (List ℕ)) → IsNewLayout s.view.layout
      → Steps (λ between. Unit {0}) mode s lines replies a → Steps (λ between. Unit {0}) mode s lines replies b → tree_in a ≡ tree_in b
  pub host : (read : Reading) (mode : Mode) (s a b : State) (files f g : Files) (lines replies : List (List ℕ)) → IsNewLayout s.view.layout
      → HostSteps read (λ between. Unit {0}) mode s files lines replies a f → HostSteps read (λ between. Unit {0}) mode s files lines replies b g
      → (tree_in a ≡ tree_in b) × (f ≡ g)
