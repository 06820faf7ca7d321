use Rattle.std.proofs.Common.{◌<◌, ◌^◌, List, sym, subst, arith}
use Rattle.std.specs.Prelude.{All}
use Rattle.fc_oldmap.specs.declared.Hole.{Hole}
use Rattle.fc_oldmap.specs.Holes.{hole_end}
use Rattle.fc_oldmap.proofs.SpaceLemmas.{end-inside}
use Rattle.fc_oldmap.proofs.space.OldMap.write.Goals as goal

pub write_map-requires-clause-fits : goal.write_map-requires-clause-fits
write_map-requires-clause-fits c =
    let Fit : List Hole → Type 0 = λ l. All (λ h. hole_end h < 2 ^ 24) l in
    let map = c.self.invariant in
    subst Fit (sym c.deref.ensures.0) (λ k d l. omega (arith, end-inside c.self.inside.disc_units c.self.inside.sector_units 0 c.self.inside.holes.items map.holes k d l, map.disc))
