use Rattle.std.proofs.Common.{subst, sym, ◌∙◌}
use Rattle.fc_space.specs.declared.space.Space.{Space}
use Rattle.fc_space.specs.Space.{layout_of}
use Rattle.fc_holdings.specs.Holdings.{HoldsMap}
use Rattle.fc_volume.proofs.compacting.compact_places.Goals as goal

pub compact_map-requires-clause-on_disk : goal.compact_map-requires-clause-on_disk
compact_map-requires-clause-on_disk g c =
    subst (λ (s : Space). HoldsMap (layout_of s) (g.D.Disk.sectors c.args.disk.now)) (sym c.edit.ensures.value ∙ c.in-NewMapped.is) c.requires.map_room
