-- What was read of the front of an image on the way to its kind.
use Rattle.std.specs.Prelude.{◌≡◌, ◌⊎◌, true, List, ℕ}
use Rattle.fc_bytes.specs.Words.{bytes_at}
use Rattle.fc_record.specs.declared.Front.{Front}
use Rattle.fc_record.specs.declared.Kind.{Kind}
use Rattle.fc_record.specs.declared.Kind.TheVariants.{Boot, OneZone, DiscD, DiscL}
use Rattle.fc_record.specs.Kinds.{is_whole_map}

-- Of a disc of one zone copy 1 of the map was read, and copy 2 unless copy 1 is the whole of a sound map; that one of them is,
-- makes the kind. Of a disc with an old map its 512 bytes were read.
abbrev pub HasMapOf : List ℕ → Kind → Front → Type 0
HasMapOf image (OneZone r) front =
    (front.first ≡ bytes_at image 0 1024)
    × ((is_whole_map front.first ≡ true) ⊎ ((front.second ≡ bytes_at image 1024 1024) × (is_whole_map front.second ≡ true)))
HasMapOf image DiscD front = bytes_at front.first 0 512 ≡ bytes_at image 0 512
HasMapOf image (DiscL units) front = bytes_at front.first 0 512 ≡ bytes_at image 0 512
HasMapOf image (Boot r) front = Unit {0}
