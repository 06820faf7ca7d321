-- What is written of a change, by the map that a volume has.
use Rattle.std.specs.Prelude.{◌≡◌, ℕ, List}
use Rattle.fc_oldmap.specs.OldMap.{OldMapContent}
use Rattle.fc_image.specs.Layout.{Layout}
use Rattle.fc_writing.specs.declared.ready.MapStep.{MapStep}
use Rattle.fc_writing.specs.declared.ready.MapStep.TheVariants as steps
use Rattle.fc_writing.specs.declared.ready.Ready.{Ready}
use Rattle.fc_writing.specs.New.{CanWrite, ChangeLeaves, IsChanged, IsGiven}
use Rattle.fc_writing.specs.Old as old

-- the old map after a step, and after both steps of a change
abbrev pub space_after : MapStep → OldMapContent → OldMapContent
space_after (steps.Old now) space = now
space_after (steps.New s) space = space
space_after steps.Nothing space = space

abbrev pub map_after : OldMapContent → Ready → OldMapContent
map_after space r = space_after r.give (space_after r.take space)

-- It can be written on a disk of n sectors.
abbrev pub CanWriteOn : Layout → ℕ → Ready → Type 0
CanWriteOn (Layout.New m) n r = CanWrite n m r
CanWriteOn (Layout.Old space) n r = old.CanWrite n space r

-- what a crash at any moment and every exit leaves
abbrev pub ChangeLeavesOn : Layout → Ready → List ℕ → List ℕ → List ℕ → Type 0
ChangeLeavesOn (Layout.New m) r bytes was image = ChangeLeaves m r bytes was image
ChangeLeavesOn (Layout.Old space) r bytes was image = old.ChangeLeaves space r bytes was image

-- the map afterwards
abbrev pub IsGivenOn : Layout → Ready → Layout → Type 0
IsGivenOn (Layout.New m) r (Layout.New n) = IsGiven m r n
IsGivenOn (Layout.Old space) r (Layout.Old now) = now ≡ map_after space r
IsGivenOn _ r _ = ⊥

-- what is left at the end
abbrev pub IsChangedOn : Layout → Layout → Ready → List ℕ → List ℕ → List ℕ → Type 0
IsChangedOn (Layout.New m) (Layout.New n) r bytes was image = IsChanged m n r bytes was image
IsChangedOn (Layout.Old space) now r bytes was image = old.IsChanged space r bytes was image
IsChangedOn _ _ r bytes was image = ⊥
