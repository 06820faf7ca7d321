-- What the law of additions says of what comes on an old map.
use Rattle.std.proofs.Common.{◌≡◌, ℕ, List, length, sym, subst}
use Rattle.fc_names.specs.Names.{Path}
use Rattle.fc_model.specs.Command.{Command}
use Rattle.fc_image.specs.Layout.{Layout, dir_form}
use Rattle.fc_changes.specs.old.Changed.{IsFileAt}
use Rattle.fc_edits.specs.Addition.{OldAddition}
use Rattle.fc_outcomes.specs.Addition.{OldAdditionWritten}
use Rattle.fc_outcomes.specs.Addition as outcomes
use Rattle.fc_commands.proofs.ArrivalLemmas.{Arrival, Brings, bytes_of}
use Rattle.fc_commands.proofs.ArrivalEditLemmas.{IsItsArrival}
use Rattle.fc_commands.proofs.OldPlaceLemmas.{IsOldPlacedAs}

-- By the law of additions the command has done what it promises.
pub old_done : outcomes.AdditionLaw → (a : OldAddition) (x : Arrival) (path : Path) (bytes stored : List ℕ) (c : Command) (own was image : List ℕ) → Brings x path bytes c → OldAdditionWritten a c path own stored was image
    → IsItsArrival x c path (Layout.Old a.space) a.c stored → length stored ≡ bytes_of (dir_form (Layout.Old a.space)) x → IsOldPlacedAs x a.space (bytes_of (dir_form (Layout.Old a.space)) x) a.c.o → outcomes.OldAdded a c was image
old_done law a Arrival.Makes path bytes stored c own was image brings written is long place =
    subst (λ (k : Command). outcomes.OldAdded a k was image) (sym brings)
    (law.old_directory a path is.0 own stored was image (subst (λ (k : Command). OldAdditionWritten a k path own stored was image) brings written) is.1 place)
old_done law a (Arrival.Saves words) path bytes stored c own was image brings written is long place =
    law.old_file a c path words.load words.exec own stored was image written is (subst (λ (n : ℕ). IsFileAt a.space n a.c.o) (sym long) place)
