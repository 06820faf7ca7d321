use Rattle.std.proofs.Common.{sym, subst, arith}
use Rattle.fc_oldmap.specs.OldMap.{OldMapContent}
use Rattle.std.specs.Prelude.{All}
use Rattle.fc_oldmap.specs.Holes.{after_give, hole, IsHole, AreApart}
use Rattle.fc_oldmap.proofs.MapLemmas.{given_keeps, AreHoles-after_give}
use Rattle.fc_oldmap.proofs.space.OldMap.give.Goals as goal

pub invariant_of-self : goal.invariant_of-self
invariant_of-self c =
    let space : OldMapContent = record { holes = c.self.inside.holes.items; disc_units = c.self.inside.disc_units; sector_units = c.self.inside.sector_units } in
    let map = c.self.invariant in
    let given = hole c.args.start c.args.n in
    let H : OldMapContent → Type 0 = λ v. IsHole v.disc_units v.sector_units 0 given in
    let A : OldMapContent → Type 0 = λ v. All (AreApart given) v.holes in
    let new = subst H (sym c.self.view_is) (record { positive = c.requires.positive; onward = omega arith; inside = c.requires.inside; begins = c.requires.begins; ends = c.requires.ends }) in
    let apart = subst A (sym c.self.view_is) c.requires.apart in
    given_keeps c.give_to.result space c.give_to.new.holes.items (after_give given space.holes) c.give_to.ensures.full c.give_to.ensures.ok c.give_to.ensures.err map
    (AreHoles-after_give space.disc_units space.sector_units 0 given space.holes new map.holes apart)

pub returns-clause-map : goal.returns-clause-map
returns-clause-map c = invariant_of-self c
