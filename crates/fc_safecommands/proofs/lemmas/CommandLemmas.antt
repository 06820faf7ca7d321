-- Whose job a job is: the command, its paths, and the bytes that it gives.
use Rattle.std.proofs.Common.{◌≡◌, inl, inr, ℕ, List, [], refl, sym, ap}
use Rattle.fc_names.specs.Names.{Path}
use Rattle.fc_model.specs.Command.{Command}
use Rattle.fc_model.specs.Tree.{last_name}
use Rattle.fc_image.specs.Walk.{Listing}
use Rattle.fc_laws.specs.nodes.Edits.{Nodes}
use Rattle.fc_refusals.specs.Slots.{IsFile, IsRenaming}
use Rattle.fc_refusals.specs.declared.target.Renaming.{Renaming}
use Rattle.fc_refusals.specs.declared.target.Slot.TheVariants as slots
use Rattle.fc_refusals.specs.declared.target.Target.{Target}
use Rattle.fc_change.specs.declared.job.FileWords.{FileWords}
use Rattle.fc_change.specs.declared.job.Job.TheVariants as jobs
use Rattle.fc_change.specs.Jobs.{IsJob}
use Rattle.fc_commands.specs.Jobs.{HasBytes}
use Rattle.fc_commands.proofs.ArrivalLemmas.{Arrival, Brings}

abbrev pub bytes_given : Command → List ℕ
bytes_given (Command.Save path load exec bytes) = bytes
bytes_given _ = []

pub given : (c : Command) → HasBytes c (bytes_given c)
given (Command.Save path load exec bytes) = refl
given (Command.Cat path) = refl
given (Command.Load path) = refl
given (Command.Digest path) = refl
given (Command.Create path load exec len) = refl
given (Command.Cdir path) = refl
given (Command.Delete path) = refl
given (Command.Rename from to) = refl
given (Command.Set path load exec access) = refl
given (Command.Mark path attrs) = refl
given Command.Free = refl
given Command.Check = refl
given Command.Compact = refl
given Command.Reclaim = refl

-- The command is `save` or `create` over this file.
pub record IsOver (nodes : Nodes) (listings : List Listing) (c : Command) (t : Target) (words : FileWords) : Type 0 where
  pub path : Path
  pub brings : Brings (Arrival.Saves words) path (bytes_given c) c
  pub file : IsFile nodes listings path t

pub over_of : (nodes : Nodes) (listings : List Listing) (c : Command) (t : Target) (words : FileWords) (name : List ℕ) → IsJob nodes listings c (jobs.File (slots.Over t) words) name → IsOver nodes listings c t words
over_of nodes listings (Command.Save path load exec bytes) t words name is = record {
  path = path;
  brings = inl ((λ i. Command.Save path (ap (λ (w : FileWords). w.load) (sym is.1) i) (ap (λ (w : FileWords). w.exec) (sym is.1) i) bytes), ap (λ (w : FileWords). w.len) is.1);
  file = is.0;
}
over_of nodes listings (Command.Create path load exec len) t words name is = record {
  path = path;
  brings = inr ((λ i. Command.Create path (ap (λ (w : FileWords). w.load) (sym is.1) i) (ap (λ (w : FileWords). w.exec) (sym is.1) i) (ap (λ (w : FileWords). w.len) (sym is.1) i)), refl);
  file = is.0;
}
over_of nodes listings (Command.Cat path) t words name is = absurd is
over_of nodes listings (Command.Load path) t words name is = absurd is
over_of nodes listings (Command.Digest path) t words name is = absurd is
over_of nodes listings (Command.Cdir path) t words name is = absurd is
over_of nodes listings (Command.Delete path) t words name is = absurd is
over_of nodes listings (Command.Rename from to) t words name is = absurd is
over_of nodes listings (Command.Set path load exec access) t words name is = absurd is
over_of nodes listings (Command.Mark path attrs) t words name is = absurd is
over_of nodes listings Command.Free t words name is = absurd is
over_of nodes listings Command.Check t words name is = absurd is
over_of nodes listings Command.Compact t words name is = absurd is
over_of nodes listings Command.Reclaim t words name is = absurd is

-- It is `rename` between these paths.
pub record IsMove (nodes : Nodes) (listings : List Listing) (c : Command) (r : Renaming) (name : List ℕ) : Type 0 where
  pub from : Path
  pub to : Path
  pub command : Command.Rename from to ≡ c
  pub known : IsRenaming nodes listings from to r
  pub name_is : name ≡ last_name to

pub move_of : (nodes : Nodes) (listings : List Listing) (c : Command) (r : Renaming) (name : List ℕ) → IsJob nodes listings c (jobs.Move r) name → IsMove nodes listings c r name
move_of nodes listings (Command.Rename from to) r name is = record { from = from; to = to; command = refl; known = is.0; name_is = is.1 }
move_of nodes listings (Command.Save path load exec bytes) r name is = absurd is
move_of nodes listings (Command.Create path load exec len) r name is = absurd is
move_of nodes listings (Command.Cat path) r name is = absurd is
move_of nodes listings (Command.Load path) r name is = absurd is
move_of nodes listings (Command.Digest path) r name is = absurd is
move_of nodes listings (Command.Cdir path) r name is = absurd is
move_of nodes listings (Command.Delete path) r name is = absurd is
move_of nodes listings (Command.Set path load exec access) r name is = absurd is
move_of nodes listings (Command.Mark path attrs) r name is = absurd is
move_of nodes listings Command.Free r name is = absurd is
move_of nodes listings Command.Check r name is = absurd is
move_of nodes listings Command.Compact r name is = absurd is
move_of nodes listings Command.Reclaim r name is = absurd is
