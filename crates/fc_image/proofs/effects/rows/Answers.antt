use Rattle.std.proofs.Common.{refl}
use Rattle.fc_bytes.specs.Bits.{bits, num, low_bits}
use Rattle.fc_device.specs.Sectors.{sector_at}
use Rattle.fc_bytes.specs.Checks.{carry_sum, accumulated}
use Rattle.fc_record.specs.Record.{record_fault}
use Rattle.fc_record.specs.Kinds.{kind_of}
use Rattle.fc_oldmap.specs.OldMap.{with_holes, old_map, wrong_hole, holes_of, is_hole_right}
use Rattle.fc_zone.specs.Reading.{runs_from}
use Rattle.fc_zone.specs.Reading.{runs_of}
use Rattle.fc_newmap.specs.Copies.{is_sound, chosen}
use Rattle.fc_dirs.specs.Small.{small_fault, small_dir}
use Rattle.fc_dirs.specs.Big.{big_fault, big_dir}
use Rattle.fc_image.specs.Layout.{sectors_at, bytes_in}
use Rattle.fc_image.specs.Walk.{children_of, listings_from, walk}
use Rattle.fc_image.specs.Opening.{open_as, open_image}
use Rattle.fc_oldmap.specs.Holes.{after_take, first_fit_place, after_give}
use Rattle.fc_image.specs.effects.Sharing.{slack_among}
use Rattle.fc_image.specs.effects.Short.{short}
use Rattle.fc_image.proofs.effects.rows.Goals as goal

pub returns : goal.returns
unfolding bits num low_bits sector_at carry_sum accumulated record_fault kind_of with_holes old_map holes_of is_hole_right wrong_hole runs_from runs_of is_sound chosen small_fault small_dir big_fault big_dir sectors_at bytes_in children_of listings_from walk open_as open_image after_take first_fit_place after_give slack_among short
returns c = record {
  units_f = refl;
  full = refl;
  fits = refl;
  none = refl;
  shared = refl;
  too_long = refl;
  by_slack = refl;
  directory = refl;
  big = refl;
  one_hole = refl;
  settled = refl;
  unsettled = refl;
}
