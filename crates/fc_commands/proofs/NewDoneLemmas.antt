-- What the law of additions says of what comes on a new map.
use Rattle.std.proofs.Common.{◌≡◌, ◌⊎◌, inl, inr, ℕ, List, length, sym, subst}
use Rattle.fc_names.specs.Names.{Path}
use Rattle.fc_newmap.specs.Map.{Map, ZoneRun}
use Rattle.fc_model.specs.Command.{Command}
use Rattle.fc_model.specs.Tree.{holder}
use Rattle.fc_image.specs.Layout.{Layout, dir_form}
use Rattle.fc_image.specs.Objects.{objects_of}
use Rattle.fc_image.specs.Walk.{Object}
use Rattle.fc_changes.specs.Changed.{IsFileAt, IsInNewSpace}
use Rattle.fc_edits.specs.Addition.{NewAddition}
use Rattle.fc_edits.specs.Placing.{IsPlaced}
use Rattle.fc_outcomes.specs.Addition.{NewAdditionWritten}
use Rattle.fc_outcomes.specs.Addition as outcomes
use Rattle.fc_commands.proofs.ArrivalLemmas.{Arrival, Brings, bytes_of}
use Rattle.fc_commands.proofs.ArrivalEditLemmas.{IsItsArrival}

-- a directory is in new space, a file where files are
abbrev pub IsPlacedAs : Arrival → Map → List Object → Path → (bytes id : ℕ) → List ZoneRun → Object → Type 0
IsPlacedAs Arrival.Makes m objects near bytes id parts o = IsInNewSpace m bytes 0 id parts o
IsPlacedAs (Arrival.Saves words) m objects near bytes id parts o = IsFileAt m objects near bytes id parts o

pub placed_as : (x : Arrival) (m : Map) (objects : List Object) (near : Path) (bytes id : ℕ) (parts : List ZoneRun) (o : Object) → IsPlacedAs x m objects near bytes id parts o → IsPlaced m objects near bytes id parts o
placed_as Arrival.Makes m objects near bytes id parts o at = inr at
placed_as (Arrival.Saves words) m objects near bytes id parts o at = inl at

-- By the law of additions the command has done what it promises.
pub new_done : outcomes.AdditionLaw → (a : NewAddition) (x : Arrival) (path : Path) (bytes stored : List ℕ) (c : Command) (own was image : List ℕ) → Brings x path bytes c → NewAdditionWritten a c path own stored was image
    → IsItsArrival x c path (Layout.New a.m) a.c stored → length stored ≡ bytes_of (dir_form (Layout.New a.m)) x
    → IsPlacedAs x a.m (objects_of a.listings) (holder path) (bytes_of (dir_form (Layout.New a.m)) x) a.id a.parts a.c.o → outcomes.NewAdded a c was image
new_done law a Arrival.Makes path bytes stored c own was image brings written is long place =
    subst (λ (k : Command). outcomes.NewAdded a k was image) (sym brings)
    (law.new_directory a path is.0 own stored was image (subst (λ (k : Command). NewAdditionWritten a k path own stored was image) brings written) is.1 place)
new_done law a (Arrival.Saves words) path bytes stored c own was image brings written is long place =
    law.new_file a c path words.load words.exec own stored was image written is (subst (λ (n : ℕ). IsFileAt a.m (objects_of a.listings) (holder path) n a.id a.parts a.c.o) (sym long) place)
