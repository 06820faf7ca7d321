-- The job of a command that nothing refuses, as its judge answers.
use Rattle.std.specs.Prelude.{◌≡◌, ℕ, List, length}
use Rattle.fc_model.specs.Command.{Command}
use Rattle.fc_model.specs.Tree.{last_name}
use Rattle.fc_image.specs.Walk.{Listing}
use Rattle.fc_laws.specs.nodes.Edits.{Nodes}
use Rattle.fc_refusals.specs.Slots.{IsRenaming, IsSlot}
use Rattle.fc_refusals.specs.Targets.{IsRemovable, IsTarget, IsVacant}
use Rattle.fc_change.specs.declared.job.Job.{Job}
use Rattle.fc_change.specs.declared.job.Job.TheVariants as jobs

-- The nodes hold these listings, and the job is that of the command. `name` is the last name of the path of a new entry.
abbrev pub IsJob : Nodes → List Listing → Command → Job → (name : List ℕ) → Type 0
IsJob nodes listings (Command.Save path load exec bytes) (jobs.File slot words) name =
    IsSlot nodes listings path slot × (words ≡ record { load = load; exec = exec; len = length bytes }) × (name ≡ last_name path)
IsJob nodes listings (Command.Create path load exec len) (jobs.File slot words) name =
    IsSlot nodes listings path slot × (words ≡ record { load = load; exec = exec; len = len }) × (name ≡ last_name path)
IsJob nodes listings (Command.Cdir path) (jobs.Directory dir) name = IsVacant nodes listings path dir × (name ≡ last_name path)
IsJob nodes listings (Command.Delete path) (jobs.Removal target) name = IsRemovable nodes listings path target
IsJob nodes listings (Command.Rename from to) (jobs.Move renaming) name = IsRenaming nodes listings from to renaming × (name ≡ last_name to)
IsJob nodes listings (Command.Set path load exec access) (jobs.Words target words) name =
    IsTarget nodes listings path target × (words ≡ record { load = load; exec = exec; access = access })
IsJob nodes listings (Command.Mark path attrs) (jobs.Marks target marks) name = IsTarget nodes listings path target × (marks ≡ attrs)
IsJob nodes listings _ _ name = ⊥
