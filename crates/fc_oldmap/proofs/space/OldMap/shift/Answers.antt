use Rattle.std.proofs.Common.{◌≡◌, ◌+◌, ◌%◌, ◌≤◌, suc, List, slice_get, sym, ap, subst, ◌∙◌, arith}
use Rattle.fc_oldmap.specs.declared.Hole.{Hole}
use Rattle.fc_oldmap.specs.OldMap.{OldMapContent, IsOldMap}
use Rattle.std.specs.Option.{ForSome}
use Rattle.fc_oldmap.specs.Holes.{shifted, hole_end}
use Rattle.fc_oldmap.proofs.MapLemmas.{with_list, length-shifted, AreHoles-shifted}
use Rattle.fc_oldmap.proofs.space.OldMap.shift.Goals as goal

pub invariant_of-self : goal.invariant_of-self
invariant_of-self c =
    let space : OldMapContent = record { holes = c.self.inside.holes.items; disc_units = c.self.inside.disc_units; sector_units = c.self.inside.sector_units } in
    let map = c.self.invariant in
    let i = c.args.index in
    let n = c.args.n in
    let M : List Hole → Type 0 = λ l. IsOldMap (record space { holes = l }) in
    let W : OldMapContent → Type 0 = λ v. n % v.sector_units ≡ 0 in
    let D : OldMapContent → Type 0 = λ v. ForSome (slice_get v.holes i) (λ h. hole_end h + n ≤ v.disc_units) in
    let N : OldMapContent → Type 0 = λ v. ForSome (slice_get v.holes i) (λ h. ForSome (slice_get v.holes (i + 1)) (λ g. hole_end h + n ≤ g.start)) in
    let whole = subst W (sym c.self.view_is) c.requires.whole in
    let disc = subst D (sym c.self.view_is) c.requires.disc in
    let next = subst N (sym c.self.view_is) c.requires.next in
    let e : i + 1 ≡ suc i = omega arith in
    let right = AreHoles-shifted space.disc_units space.sector_units 0 i n space.holes whole map.holes (λ h at. (disc h at, λ g at'. next h at g (ap (slice_get space.holes) e ∙ at'))) in
    subst M (sym c.shift_at.ensures)
    (with_list space (shifted i n space.holes) map (omega (arith, length-shifted i n space.holes, map.few)) right)

pub returns-clause-map : goal.returns-clause-map
returns-clause-map c = invariant_of-self c
