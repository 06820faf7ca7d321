-- A change of one directory in place on a disc with an old map: objects leave it, come into it or change their entries, and the map
-- gets other holes.
use Rattle.std.proofs.Common.{List}
use Rattle.fc_record.specs.declared.Kind.{Kind}
use Rattle.fc_oldmap.specs.OldMap.{OldMapContent}
use Rattle.fc_image.specs.Layout.{Layout}
use Rattle.fc_image.specs.Walk.{Listing}
use Rattle.fc_image.specs.Opening.{Opened}

abbrev pub opened : Kind → OldMapContent → List Listing → Opened
opened kind space ls = record { kind = kind; layout = Layout.Old space; listings = ls }
