-- Edits of one directory that is written to its old place, on discs with new maps. No directory changes its address.
use Rattle.std.specs.Prelude.{List}
use Rattle.fc_dirs.specs.Directory.{Directory}
use Rattle.fc_image.specs.Walk.{Object, Listing}

-- the listing of the directory after the edit
abbrev pub says_now : Listing → Directory → List Object → Listing
says_now l content children = record { object = l.object; content = content; children = children }
