use Rattle.std.proofs.Common.{◌≡◌, ◌<◌, ℕ, zero, suc, Bool, true, false, cond, List, [], ◌∷◌, ◌++◌, ◌-◌, ◌/◌, ◌%◌, length, refl, sym, ap, ◌∙◌, arith}
use Rattle.std.specs.Prelude.{◌==◌, ◌&&◌, ◌||◌, filter, not}
use Rattle.std.specs.List.{range_with_len}
use Rattle.std.proofs.lemmas.Bool.{eqb-true}
use Rattle.fc_bytes.specs.Bits.{bits, num, low_bits}
use Rattle.fc_bytes.specs.Checks.{carry_sum, accumulated}
use Rattle.fc_record.specs.Record.{record_fault}
use Rattle.fc_zone.specs.Reading.{runs_from, runs_of}
use Rattle.fc_oldmap.specs.Holes.{after_give}
use Rattle.fc_zone.specs.declared.RunKind.TheVariants.{Id}
use Rattle.fc_newmap.specs.Rows.{run}
use Rattle.fc_newmap.specs.Map.{Map, ZoneRun, has_id, hole_runs, home_zone, id_runs, runs_in}
use Rattle.fc_image.specs.effects.Placed.{holes_left}
use Rattle.fc_image.specs.effects.Steady.{holes_with, runs_that, zone_holes}
use Rattle.fc_plan.specs.Applied.{unless_gone}
use Rattle.fc_plan.specs.Giving.{is_one_of}
use Rattle.fc_changes.specs.Rows.{given_back}
use Rattle.fc_image.specs.effects.WrittenRows.{used}
use Rattle.fc_changes.proofs.RewordedLemmas.{no_space_edit}
use Rattle.fc_changes.proofs.rows.Goals as goal

one_zone : (z : ℕ) → z < 1 → zone_holes (hole_runs given_back) z ≡ holes_with (zone_holes (holes_left (hole_runs used) []) z) (zone_holes (runs_that (is_one_of (3 ∷ [])) used) z)
unfolding bits num low_bits carry_sum accumulated record_fault runs_from runs_of after_give
one_zone zero low = refl
one_zone (suc z) low = absurd (omega (arith, low))

abbrev if_two : Bool → List ZoneRun → List ZoneRun
if_two a rest = cond a ((0, run 512 32 (Id 2)) ∷ rest) rest

abbrev if_three : Bool → List ZoneRun → List ZoneRun
if_three b rest = cond b ((0, run 544 16 (Id 3)) ∷ rest) rest

-- one zone, so that each search begins there
abbrev id_from : Map → ℕ → ℕ → List ZoneRun
id_from m id home = filter (λ (p : ZoneRun). has_id id p.1.kind) (runs_in m (range_with_len home (1 - home) ++ range_with_len 0 home))

home : (k : ℕ) → home_zone used.geometry k ≡ 0
unfolding bits num low_bits carry_sum accumulated record_fault
home k = go (k == 2)
  where
    go : (b : Bool) → cond b (1 / 2) (k / used.geometry.ids_per_zone % 1) ≡ 0
    go true = refl
    go false = omega arith

each : (k : ℕ) → id_runs given_back k ≡ unless_gone (3 ∷ []) k (id_runs used k)
unfolding bits num low_bits carry_sum accumulated record_fault runs_from runs_of after_give
each k = ap (id_from given_back k) (home k) ∙ by (2 == k) (3 == k) refl refl ∙ sym (ap (λ (runs : List ZoneRun). unless_gone (3 ∷ []) k runs) (ap (id_from used k) (home k)))
  where
    by : (a b : Bool) → (2 == k) ≡ a → (3 == k) ≡ b → if_two a [] ≡ cond (b || false) [] (if_two a (if_three b []))
    by true true e f = absurd (let x = eqb-true 2 k e in let y = eqb-true 3 k f in omega (arith, x, y))
    by true false e f = refl
    by false true e f = refl
    by false false e f = refl

two : (id : ℕ) (a b : Bool) → (id == 2) ≡ a → (3 == id) ≡ b → (b || false) ≡ ((a || ((true && b) || false)) && not (a || false))
two id true true e f = absurd (let x = eqb-true id 2 e in let y = eqb-true 3 id f in omega (arith, x, y))
two id true false e f = refl
two id false true e f = refl
two id false false e f = refl

pub returns : goal.returns
unfolding bits num low_bits carry_sum accumulated record_fault runs_from runs_of after_give
returns c = record {
  back = record { holes = one_zone; own = λ some. absurd (omega (arith, some)); others = λ k other. each k };
  stays = no_space_edit used;
  not_back = λ w. (let clash = ap (λ (ps : List ZoneRun). length ps) (w.others 3 (λ some. absurd (omega (arith, some)))) in let e : 1 ≡ 0 = clash in absurd (cc));
  another = λ w. (let clash = ap (λ (ps : List ZoneRun). length ps) (w.others 3 (λ some. absurd (omega (arith, some)))) in let e : 0 ≡ 1 = clash in absurd (cc));
  alone = record { exactly = λ id here. two id (id == 2) (3 == id) refl refl };
  kept = λ w. (let e : false ≡ true = w.exactly 3 refl in absurd (cc));
  shared = λ w. (let e : true ≡ false = w.exactly 3 refl in absurd (cc));
}
