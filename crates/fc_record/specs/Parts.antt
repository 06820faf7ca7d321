-- What the parts of an image say of its kind, each read by itself.
use Rattle.std.specs.Prelude.{ℕ, ◌&&◌, ◌==◌, List, slice_index, if◌then◌else◌, Option, Some, None}
use Rattle.std.specs.Int.{is_in_range}
use Rattle.fc_bytes.specs.Words.{bytes_at}
use Rattle.fc_bytes.specs.Checks.{boot_check}
use Rattle.fc_record.specs.declared.DiscRecord.{DiscRecord}
use Rattle.fc_record.specs.declared.Kind.{Kind}
use Rattle.fc_record.specs.declared.Kind.TheVariants.{DiscD, DiscL}
use Rattle.fc_record.specs.Record.{record_of, is_valid}
use Rattle.fc_record.specs.Kinds.{map_record, is_whole_map, is_old_map, old_units}

-- the record in a boot block whose check is right, if it is valid
abbrev pub record_in_boot : List ℕ → Option DiscRecord
record_in_boot block =
    let r = record_of (bytes_at block 0x1C0 60) in
    if (slice_index block 511 == boot_check block) && is_valid r then Some r else None

-- the record in a sector of 1024 bytes that is the whole of a sound map
abbrev pub record_in_map : List ℕ → Option DiscRecord
record_in_map sector = if is_whole_map sector then Some (map_record sector) else None

-- the kind of a disc with this old map
abbrev pub kind_in_old_map : List ℕ → Option Kind
kind_in_old_map map =
    if is_old_map map && (old_units map == 3200) then Some DiscD
    else if is_old_map map && is_in_range 7 2560 (old_units map) then Some (DiscL (old_units map))
    else None
