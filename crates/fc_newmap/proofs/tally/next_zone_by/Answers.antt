use Rattle.std.proofs.Common.{◌≤◌, ◌∙◌, ℕ, ap, arith}
use Rattle.fc_newmap.specs.Tally.{zones_before}
use Rattle.fc_newmap.specs.Walk.{zone_up}
use Rattle.fc_newmap.proofs.AheadLemmas.{none_till}
use Rattle.fc_newmap.proofs.tally.next_zone_by.Goals as goal
use Rattle.fc_newmap.proofs.tally.next_zone_by.Goals.{After-zone_up-first, else-row-before-via-then-row-before+else-before-row, else-row-before-via-else-row-before}

-- the zone itself has none
past : (c : After-zone_up-first) → c.args.row.ahead ≤ zones_before c.args.g.now c.args.id c.args.z → c.args.row.reach ≤ zones_before c.args.g.now c.args.id c.args.z
past c = λ h. elim c.else-row-before.branch [
  | else-row-before-via-then-row-before+else-before-row w ↦ (let b = c.zones_before-before.ensures.value in let t = w.if-before-row.false in omega arith)
  | else-row-before-via-else-row-before w ↦ (let b = c.zones_before-before.ensures.value in let t = w.if-row-before.false in omega arith)
]

pub returns-then-first-z-clause-none : goal.returns-then-first-z-clause-none
returns-then-first-z-clause-none c = λ y from less.
    none_till c.args.g.now c.args.id c.args.row.ahead c.args.row.reach c.args.z y c.zone_up-first.result c.requires.zone (let h = c.zone_up-first.ensures.low in omega arith) (let h = c.if-row-g.false in omega arith)
    (c.zone_up-first.ensures.value ∙ ap (λ (n : ℕ). zone_up c.args.g.now n c.args.row.ahead) c.home_zone.ensures.value) (past (goal.at.returns-then-first-z-clause-none c).After-zone_up-first) from (λ h. less)

pub returns-else-first-z-clause-none : goal.returns-else-first-z-clause-none
returns-else-first-z-clause-none c = λ y from less.
    none_till c.args.g.now c.args.id c.args.row.ahead c.args.row.reach c.args.z y c.zone_up-first.result c.requires.zone less (let h = c.if-row-g.false in omega arith)
    (c.zone_up-first.ensures.value ∙ ap (λ (n : ℕ). zone_up c.args.g.now n c.args.row.ahead) c.home_zone.ensures.value) (past (goal.at.returns-else-first-z-clause-none c).After-zone_up-first) from (λ h. absurd (let t = c.if-first-z.false in omega arith))
