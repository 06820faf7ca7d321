use Rattle.std.proofs.Common.{List, ℕ, subst}
use Rattle.fc_newmap.specs.NewMap.{map_in}
use Rattle.fc_newmap.specs.RunsLaw.{HasZones}
use Rattle.fc_newmap.proofs.HeldLemmas.{held_of}
use Rattle.fc_newmap.proofs.map.NewMap.load.Goals as goal

pub invariant_of-result : goal.invariant_of-result
invariant_of-result c =
    let has = subst (λ (bytes : List ℕ). HasZones (map_in c.args.g bytes)) c.deref.ensures.value c.in-None.ensures.right in
    record { held = held_of c.args.g c.args.zones.items c.requires.geometry c.requires.whole has; tally = tt }

pub returns-in-None-clause-map : goal.returns-in-None-clause-map
returns-in-None-clause-map c =
    let has = subst (λ (bytes : List ℕ). HasZones (map_in c.args.g bytes)) c.deref.ensures.value c.in-None.ensures.right in
    let held = held_of c.args.g c.args.zones.items c.requires.geometry c.requires.whole has in
    held.map
