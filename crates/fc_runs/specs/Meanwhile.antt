-- What passes over a disk while lines are served.
use Rattle.std.specs.Prelude.{◌≡◌, ◌≤◌, ℕ, List}
use Rattle.fc_device.specs.declared.disk.Disk.{Ghosts}
use Rattle.fc_device.specs.Calls.{SameForm}
use Rattle.fc_device.specs.Stops.{LeavesOnly}
use Rattle.fc_record.specs.declared.Kind.{Kind}
use Rattle.fc_image.specs.Stays.{IsNewLayout}
use Rattle.fc_image.specs.effects.Effect.{State, tree_in}
use Rattle.fc_image.specs.safe.SafeEffect.{HasTree}

-- The disk's form stays, time goes on, and its count of faults doesn't fall.
pub record GoesOn {D : Type 0} (d : Ghosts D) (old new : D) : Type 0 where
  pub form : SameForm d old new
  pub stops : LeavesOnly d.moment d.left_since old new (λ image. Unit {0})
  pub faults : d.faults old ≤ d.faults new

-- A crash since then leaves the tree of the state, on a new map.
abbrev pub LeavesTree : {D : Type 0} → Ghosts D → D → D → Kind → State → Type 0
LeavesTree d old new kind s = IsNewLayout s.view.layout → (image : List ℕ) → d.left_since new (d.moment old) image → HasTree kind (tree_in s) image

-- A crash since then leaves the image of the state, on any map.
abbrev pub LeavesImage : {D : Type 0} → Ghosts D → D → D → State → Type 0
LeavesImage d old new s = (image : List ℕ) → d.left_since new (d.moment old) image → image ≡ s.image
