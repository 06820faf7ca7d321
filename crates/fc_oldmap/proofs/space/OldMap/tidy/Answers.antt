use Rattle.std.proofs.Common.{List, sym, subst, arith}
use Rattle.fc_oldmap.specs.declared.Hole.{Hole}
use Rattle.fc_oldmap.specs.OldMap.{OldMapContent, IsOldMap}
use Rattle.fc_oldmap.specs.Holes.{tidied}
use Rattle.fc_oldmap.proofs.SpaceLemmas.{AreHoles-tidied}
use Rattle.fc_oldmap.proofs.MapLemmas.{with_list, length-tidied}
use Rattle.fc_oldmap.proofs.space.OldMap.tidy.Goals as goal

pub invariant_of-self : goal.invariant_of-self
invariant_of-self c =
    let space : OldMapContent = record { holes = c.self.inside.holes.items; disc_units = c.self.inside.disc_units; sector_units = c.self.inside.sector_units } in
    let map = c.self.invariant in
    let M : List Hole → Type 0 = λ l. IsOldMap (record space { holes = l }) in
    subst M (sym c.tidy_all.ensures)
    (with_list space (tidied space.holes) map (omega (arith, length-tidied space.holes, map.few)) (AreHoles-tidied space.disc_units space.sector_units 0 space.holes map.holes))

pub returns-clause-map : goal.returns-clause-map
returns-clause-map c = invariant_of-self c
