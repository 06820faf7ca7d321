use Rattle.fc_names.proofs.PackedLemmas.{packed_after, names_after-push}
use Rattle.fc_names.proofs.path.Path.push_bytes.Goals as goal

pub invariant_of-self : goal.invariant_of-self
invariant_of-self c =
    packed_after c.push_packed.result c.self.inside.bytes.items c.push_packed.new.bytes.items c.args.name.now c.self.invariant c.requires
    c.push_packed.ensures.ok c.push_packed.ensures.err

pub returns-clause-ok : goal.returns-clause-ok
returns-clause-ok c =
    rw (← c.self.view_is)
    (names_after-push c.push_packed.result c.self.inside.bytes.items c.push_packed.new.bytes.items c.args.name.now c.self.invariant c.requires c.push_packed.ensures.ok)
