-- What a command in progress leaves of an image, in words of its job and in words of a run.
use Rattle.std.specs.Prelude.{ℕ, List}
use Rattle.fc_record.specs.declared.Kind.{Kind}
use Rattle.fc_model.specs.Command.{Command}
use Rattle.fc_image.specs.Opening.{Opened}
use Rattle.fc_image.specs.Stays.{OpensAs}
use Rattle.fc_tree.specs.Agree.{Agree}
use Rattle.fc_tree.specs.Parts.{ArePartsOf, Parts}
use Rattle.fc_commands.specs.Run.{IsMapIn}
use Rattle.fc_commands.specs.Judgments.{CommandLeaves}
use Rattle.fc_runs.specs.Space.{SparesSpace}

-- Of an image that opens so, and of parts that are its own: what the command's job leaves at any moment, a run may leave.
abbrev pub SparesLaw : Type 0
SparesLaw = (was image : List ℕ) (opened kind : Kind) (v : Opened) (h : Parts) (c : Command) → OpensAs was opened v → ArePartsOf h v → Agree kind h → IsMapIn h.layout → CommandLeaves c h was image
    → SparesSpace v.layout v c was image
