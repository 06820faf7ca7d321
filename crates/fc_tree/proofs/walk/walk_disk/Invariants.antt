use Rattle.std.proofs.Common.{◌≡◌, ◌≤◌, ◌+◌, take}
use Rattle.std.specs.List.{sum_by}
use Rattle.fc_image.specs.Layout.{disc_sectors}
use Rattle.fc_objects.specs.Extents.{sectors_in}
use Rattle.fc_device.specs.Calls.{OnlyReads}
use Rattle.fc_space.specs.Space.{layout_of}
use Rattle.fc_tree.specs.Calls.{directory_sectors}
use Rattle.fc_tree.specs.Loaded.{not_free}
use Rattle.fc_tree.proofs.WalkingLemmas.{IsWalking}
use Rattle.fc_tree.proofs.walk.walk_disk.Given as goal

abbrev pub invariant-loop-at : goal.invariant-loop-at
invariant-loop-at g l = record {
  reads : OnlyReads g.D.Disk l.fn.disk l.disk;
  few : g.D.Disk.read_calls l.disk ≤ g.D.Disk.read_calls l.fn.disk + sum_by (directory_sectors (layout_of l.places)) (take l.from l.nodes.items);
  sectors : l.taken.sectors ≡ disc_sectors (layout_of l.places);
  walking : IsWalking (layout_of l.places) (not_free (layout_of l.places) (sectors_in l.reserved)) l.root l.root_size (g.D.Disk.bytes l.fn.disk) l.nodes.items l.from l.left l.taken;
}

abbrev pub decreases-loop-at : goal.decreases-loop-at
decreases-loop-at g l = l.left
