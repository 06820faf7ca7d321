use Rattle.std.proofs.Common.{◌≡◌, ◌<◌, ◌≤◌, ◌∙◌, ℕ, ap, arith, inl, inr, subst, sym}
use Rattle.std.proofs.lemmas.Bool.{cases_eq, lt-ltb}
use Rattle.fc_record.specs.declared.Geometry.{Geometry}
use Rattle.fc_newmap.specs.Tally.{bits_at, zones_before}
use Rattle.fc_newmap.proofs.CountedLemmas.{none_at}
use Rattle.fc_newmap.proofs.RowLemmas.{not_both}
use Rattle.fc_newmap.proofs.map.NewMap.may_have.Goals as goal
use Rattle.fc_newmap.proofs.map.NewMap.may_have.Goals.{After-zones_before-before}

-- how many zones the search comes to before it
at : (c : After-zones_before-before) → c.zones_before-before.result ≡ zones_before c.args.self.now.geometry c.args.id c.args.z
at c = c.zones_before-before.ensures.value ∙ ap (λ (g : Geometry). zones_before g c.args.id c.args.z) c.geometry.ensures.value

pub returns-then-before-row : goal.returns-then-before-row
returns-then-before-row c = λ e.
    let row = c.in-Some.row in
    let before = at (goal.at.returns-then-before-row c).After-zones_before-before in
    let bits : c.bits_at.result ≡ bits_at row (zones_before c.args.self.now.geometry c.args.id c.args.z) = c.bits_at.ensures ∙ ap (bits_at row) before in
    elim (cases_eq c.bits_at.result 0) [
      | inl none ↦ none_at c.args.self.now c.args.id row c.geometry.ensures.map c.in-Some.ensures c.args.z c.requires (sym bits ∙ none)
      | inr some ↦ absurd (not_both _ (lt-ltb 0 c.bits_at.result (omega (arith, some))) e)
    ]

pub returns-else-before-row : goal.returns-else-before-row
returns-else-before-row c = λ e.
    let row = c.in-Some.row in
    let before = at (goal.at.returns-else-before-row c).After-zones_before-before in
    elim c.if-before-row.either [
      | inl past ↦ c.in-Some.ensures.reach c.args.z c.requires (subst (λ (n : ℕ). row.reach ≤ n) before past.1)
      | inr early ↦ c.in-Some.ensures.ahead c.args.z c.requires (subst (λ (n : ℕ). n < row.ahead) before early)
    ]
