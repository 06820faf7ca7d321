use Rattle.fc_alloc.proofs.owners.Owners.settle.Goals as goal

pub invariant_of-self : goal.invariant_of-self
invariant_of-self c = record {
  placed = c.self.invariant.placed;
  counted = c.self.invariant.counted;
  highest = c.self.invariant.highest;
  held_by_dir = c.settle.ensures.same c.self.inside.list.items c.self.invariant.held_by_dir;
}
