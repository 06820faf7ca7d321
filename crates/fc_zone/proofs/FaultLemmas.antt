-- The fault of a zone is the one that is read.
use Rattle.std.proofs.Common.{◌≡◌, ◌≤◌, ◌≢◌, ℕ, zero, suc, ◌+◌, ◌-◌, ◌%◌, ◌^◌, Option, Some, List, [], ◌∷◌, cond, eqb, refl, sym, ◌∙◌, inl, inr, arith}
use Rattle.std.specs.Prelude.{Err}
use Rattle.std.specs.List.{Contains}
use Rattle.std.specs.Option.{option_eq}
use Rattle.std.proofs.lemmas.Bool.{cases_eq, eq-eqb, ne_eqb}
use Rattle.std.proofs.lemmas.List.Elements.{All-contains}
use Rattle.fc_bytes.specs.Bits.{bits}
use Rattle.fc_bytes.specs.BitLaws.{AreBits-bits, length-bits}
use Rattle.fc_zone.specs.declared.ZoneShape.{ZoneShape}
use Rattle.fc_zone.specs.declared.Run.{Run}
use Rattle.fc_zone.specs.Zone.{IsShapeOf, IsFault, field_at, Spells, next_hole, first_hole, Chain, starts}
use Rattle.fc_zone.specs.Reading.{end_of_run, runs_from, zone_of}
use Rattle.fc_zone.proofs.ZoneLemmas.{Contains-cases, Contains-head, Contains-tail, target_later, starts_within}
use Rattle.fc_zone.proofs.HolderLemmas.{AllFrom, chain_from}
use Rattle.fc_zone.proofs.ReadingLemmas.{IsRun-end_of_run, IsRun-is_run, faulty_run}

AllFrom-contains : (low : ℕ) (places : List ℕ) (place : ℕ) → AllFrom low places → Contains places place → low ≤ place
AllFrom-contains low [] place all (k, h, e) = absurd (omega arith)
AllFrom-contains low (p ∷ places) place all c = elim (Contains-cases p places place c) [
  | inl e ↦ rw (← e) all.0
  | inr later ↦ AllFrom-contains low places place all.1 later
]

module _ (shape : ZoneShape) (bs : List ℕ) where
  -- a place past the first run is a start among the others
  later_start : (run : Run) (runs : List Run) (from place : ℕ) → run.start ≡ from → from ≢ place → Contains (starts (run ∷ runs)) place → Contains (starts runs) place
  later_start run runs from place start other c = elim (Contains-cases run.start (starts runs) place c) [
    | inl e ↦ absurd (other (sym start ∙ e))
    | inr later ↦ later
  ]

  -- all runs are right, and the chain goes over their starts to a place that is none
  faulty_link : (runs : List Run) (fuel from at : ℕ) (hole : Option ℕ) (passed : List ℕ) → Spells shape bs from runs shape.end → Chain shape bs hole passed (Some at)
      → ((place : ℕ) → Contains passed place → Contains (starts runs) place) → (Contains (starts runs) at → ⊥) → shape.end ≤ from + fuel
      → runs_from fuel shape bs from hole ≡ Err at
  unfolding runs_from
  faulty_link [] zero from at hole [] h chain right wrong room = rw (eq-eqb from shape.end h, chain) refl
  faulty_link [] (suc fuel) from at hole [] h chain right wrong room = rw (eq-eqb from shape.end h, chain) refl
  faulty_link [] zero from at hole (p ∷ passed) h chain right wrong room = absurd (let none = right p (Contains-head p passed) in let low = none.1 in omega arith)
  faulty_link [] (suc fuel) from at hole (p ∷ passed) h chain right wrong room = absurd (let none = right p (Contains-head p passed) in let low = none.1 in omega arith)
  faulty_link (run ∷ runs) zero from at hole passed h chain right wrong room = absurd (let long = h.1.long in let fits = h.1.within in omega arith)
  faulty_link (run ∷ runs) (suc fuel) from at hole passed h chain right wrong room =
      let is = h.1 in
      let long = is.long in
      let fits = is.within in
      let ends = IsRun-end_of_run shape bs from (from + run.len) is in
      let len : end_of_run shape bs from - from ≡ run.len = omega arith in
      let rest = by passed chain right (λ hole' passed' chain' right'. faulty_link runs fuel (from + run.len) at hole' passed' h.3 chain' right' not_later room_left) in
      rw (ne_eqb from shape.end (omega arith), IsRun-is_run shape bs from (from + run.len) is, len, rest) refl
    where
      not_later : Contains (starts runs) at → ⊥
      not_later c = wrong (Contains-tail run.start (starts runs) at c)

      room_left : shape.end ≤ from + run.len + fuel
      room_left = let long = h.1.long in omega arith

      by : (passed : List ℕ) → Chain shape bs hole passed (Some at) → ((place : ℕ) → Contains passed place → Contains (starts (run ∷ runs)) place)
          → ((hole' : Option ℕ) (passed' : List ℕ) → Chain shape bs hole' passed' (Some at) → ((place : ℕ) → Contains passed' place → Contains (starts runs) place)
          → runs_from fuel shape bs (from + run.len) hole' ≡ Err at)
          → runs_from fuel shape bs (from + run.len) (cond (option_eq eqb hole (Some from)) (next_hole shape bs from) hole) ≡ Err at
      by [] chain' right' rest =
          let other : at ≢ from = λ e. wrong (rw (e, ← h.0) (Contains-head run.start (starts runs))) in
          rw (chain', ne_eqb at from other) (rest (Some at) [] refl (λ place c. absurd (let low = c.1 in omega arith)))
      by (p ∷ ps) chain' right' rest =
          let others = chain_from shape bs (next_hole shape bs p) ps (Some at) (suc p) chain'.1 (λ q e. let l = target_later p (field_at shape bs p % 2 ^ 15) q e in omega arith) in
          elim (cases_eq p from) [
            | inl same ↦ (
                let right_later : (place : ℕ) → Contains ps place → Contains (starts runs) place = λ place c.
                let low = AllFrom-contains (suc p) ps place others c in
                later_start run runs from place h.0 (λ e. omega arith) (right' place (Contains-tail p ps place c)) in
                let next : Chain shape bs (next_hole shape bs from) ps (Some at) = rw same at chain'.1 in
                rw (chain'.0, eq-eqb p from same) (rest (next_hole shape bs from) ps next right_later))
            | inr other ↦ (
                let head = later_start run runs from p h.0 (λ e. other (sym e)) (right' p (Contains-head p ps)) in
                let low = (starts_within shape bs runs (from + run.len) shape.end p h.3 head).0 in
                let long = h.1.long in
                let right_later : (place : ℕ) → Contains (p ∷ ps) place → Contains (starts runs) place = λ place c. elim (Contains-cases p ps place c) [
                  | inl e ↦ rw (← e) head
                  | inr later ↦ (let above = AllFrom-contains (suc p) ps place others later in
                      later_start run runs from place h.0 (λ e. omega arith) (right' place (Contains-tail p ps place later)))
                ] in
                rw (chain'.0, ne_eqb p from other) (rest (Some p) (p ∷ ps) (refl, chain'.1) right_later))
          ]

pub fault_read : (shape : ZoneShape) (sector : List ℕ) (at : ℕ) → IsShapeOf sector shape → IsFault shape (bits sector) at → zone_of shape sector ≡ Err (record { zone = shape.zone; bit = at })
fault_read shape sector at is (inl (runs, f)) =
    let within = is.within in
    rw (faulty_run shape (bits sector) (AreBits-bits sector) (omega (arith, length-bits sector)) runs (shape.end - shape.first) shape.first at (first_hole (bits sector)) f.before f.early f.none (omega arith)) refl
fault_read shape sector at is (inr (runs, (passed, f))) =
    rw (faulty_link shape (bits sector) runs (shape.end - shape.first) shape.first at (first_hole (bits sector)) passed f.spelled f.chain
    (λ place c. All-contains (Contains (starts runs)) passed place f.right c) f.wrong (omega arith))
    refl
