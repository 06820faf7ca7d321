use Rattle.std.proofs.Common.{◌≡◌, ◌%◌, List, sym, ap, subst, ◌∙◌, arith}
use Rattle.fc_oldmap.specs.declared.Hole.{Hole}
use Rattle.std.specs.Prelude.{nat_lt, if◌then◌else◌}
use Rattle.fc_oldmap.specs.declared.TakeError.TheVariants.{DiscFull, CompactionRequired}
use Rattle.fc_oldmap.specs.OldMap.{OldMapContent, IsOldMap}
use Rattle.fc_oldmap.specs.Holes.{after_take, hole_sum, take_answer, AreHoles}
use Rattle.fc_oldmap.proofs.SpaceLemmas.{AreHoles-after_take, sum-inside}
use Rattle.fc_oldmap.proofs.MapLemmas.{with_list, length-after_take, after_take-same, take_answer-some, take_answer-none, refused-if}
use Rattle.fc_oldmap.proofs.space.OldMap.take.Goals as goal
use Rattle.fc_oldmap.proofs.space.OldMap.take.Goals.{After-take_from, in-Some, in-None}

-- what is left are holes of the disc
left : (c : After-take_from) → AreHoles c.self.inside.disc_units c.self.inside.sector_units 0 (after_take c.args.n c.self.inside.holes.items)
left c =
    let W : OldMapContent → Type 0 = λ v. c.args.n % v.sector_units ≡ 0 in
    AreHoles-after_take c.self.inside.disc_units c.self.inside.sector_units 0 c.args.n c.self.inside.holes.items (subst W (sym c.self.view_is) c.requires) c.self.invariant.holes

pub shortage-requires : goal.shortage-requires
shortage-requires c =
    let same = ap hole_sum (c.deref.ensures.0 ∙ c.take_from.ensures.holes) in
    omega (arith, same, c.self.invariant.disc, sum-inside c.self.inside.disc_units c.self.inside.sector_units 0 (after_take c.args.n c.self.inside.holes.items) (omega arith) (left (goal.at.shortage-requires c).After-take_from))

pub invariant_of-self : goal.invariant_of-self
invariant_of-self c =
    let space : OldMapContent = record { holes = c.self.inside.holes.items; disc_units = c.self.inside.disc_units; sector_units = c.self.inside.sector_units } in
    let map = c.self.invariant in
    let M : List Hole → Type 0 = λ l. IsOldMap (record space { holes = l }) in
    subst M (sym c.take_from.ensures.holes)
    (with_list space (after_take c.args.n space.holes) map (omega (arith, length-after_take c.args.n space.holes, map.few)) (left (goal.at.invariant_of-self c).After-take_from))

pub returns-clause-answer : goal.returns-clause-answer
returns-clause-answer c =
    let holes = c.self.inside.holes.items in
    let view = ap (λ (v : OldMapContent). take_answer c.args.n v.holes) c.self.view_is in
    elim c.match-take_from.branch [
      | in-Some w ↦ w.result-is ∙ sym (take_answer-some c.args.n w.in-Some.start holes (sym c.take_from.ensures.start ∙ w.in-Some.is)) ∙ view
      | in-None w ↦
          let none = sym c.take_from.ensures.start ∙ w.in-None.is in
          let same = w.deref.ensures.0 ∙ c.take_from.ensures.holes ∙ after_take-same c.args.n holes none in
          let why = w.shortage.ensures ∙ ap (λ l. if nat_lt (hole_sum l) c.args.n then DiscFull else CompactionRequired) same in
          w.result-is ∙ refused-if (nat_lt (hole_sum holes) c.args.n) w.shortage.result why ∙ sym (take_answer-none c.args.n holes none) ∙ view
    ]

pub returns-clause-map : goal.returns-clause-map
returns-clause-map c = invariant_of-self c
