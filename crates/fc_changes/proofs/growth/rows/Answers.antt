use Rattle.std.proofs.Common.{◌≡◌, ◌<◌, ℕ, zero, suc, Bool, true, false, cond, List, [], ◌∷◌, ◌++◌, ◌-◌, ◌/◌, ◌%◌, refl, sym, ap, ◌∙◌, arith}
use Rattle.std.specs.Prelude.{◌==◌, ◌||◌, filter}
use Rattle.std.specs.List.{range_with_len}
use Rattle.std.proofs.lemmas.Bool.{eqb-true}
use Rattle.fc_image.proofs.ShuffleLemmas.{same_lists}
use Rattle.fc_bytes.specs.Bits.{bits, num, low_bits}
use Rattle.fc_bytes.specs.Checks.{carry_sum, accumulated}
use Rattle.fc_record.specs.Record.{record_fault}
use Rattle.fc_zone.specs.Reading.{runs_from, runs_of}
use Rattle.fc_oldmap.specs.Holes.{after_give}
use Rattle.fc_oldmap.specs.declared.Hole.{Hole}
use Rattle.fc_zone.specs.declared.RunKind.TheVariants.{Id}
use Rattle.fc_newmap.specs.Rows.{run}
use Rattle.fc_newmap.specs.Map.{Map, ZoneRun, has_id, hole_runs, home_zone, id_runs, runs_in}
use Rattle.fc_image.specs.effects.Placed.{holes_left}
use Rattle.fc_image.specs.effects.Steady.{holes_with, runs_that, zone_holes}
use Rattle.fc_plan.specs.Applied.{unless_gone}
use Rattle.fc_plan.specs.Giving.{is_one_of}
use Rattle.fc_plan.specs.Taking.{as_runs}
use Rattle.fc_image.specs.effects.WrittenRows.{used}
use Rattle.fc_changes.specs.growth.Rows.{alone_place, moved}
use Rattle.fc_changes.proofs.growth.rows.Goals as goal

holes_moved : (z : ℕ) → z < 1 → zone_holes (hole_runs moved) z ≡ holes_with (zone_holes (holes_left (holes_left (hole_runs used) []) alone_place.parts) z) (zone_holes (runs_that (is_one_of (3 ∷ [])) used) z)
unfolding bits num low_bits carry_sum accumulated record_fault runs_from runs_of after_give
holes_moved zero low = refl
holes_moved (suc z) low = absurd (omega (arith, low))

holes_there : (z : ℕ) → z < 1 → zone_holes (hole_runs used) z ≡ holes_with (zone_holes (holes_left (holes_left (hole_runs used) []) []) z) (zone_holes (runs_that (is_one_of []) used) z)
unfolding bits num low_bits carry_sum accumulated record_fault runs_from runs_of after_give
holes_there zero low = refl
holes_there (suc z) low = absurd (omega (arith, low))

abbrev if_two : Bool → List ZoneRun → List ZoneRun
if_two a rest = cond a ((0, run 512 32 (Id 2)) ∷ rest) rest

abbrev if_three : ℕ → Bool → List ZoneRun → List ZoneRun
if_three start b rest = cond b ((0, run start 16 (Id 3)) ∷ rest) rest

-- one zone, so that each search begins there
abbrev id_from : Map → ℕ → ℕ → List ZoneRun
id_from m id home = filter (λ (p : ZoneRun). has_id id p.1.kind) (runs_in m (range_with_len home (1 - home) ++ range_with_len 0 home))

home : (k : ℕ) → home_zone used.geometry k ≡ 0
unfolding bits num low_bits carry_sum accumulated record_fault
home k = go (k == 2)
  where
    go : (b : Bool) → cond b (1 / 2) (k / used.geometry.ids_per_zone % 1) ≡ 0
    go true = refl
    go false = omega arith

others_moved : (k : ℕ) → (k ≡ 3 → ⊥) → id_runs moved k ≡ unless_gone (3 ∷ []) k (id_runs used k)
unfolding bits num low_bits carry_sum accumulated record_fault runs_from runs_of after_give
others_moved k other = ap (id_from moved k) (home k) ∙ by (2 == k) (3 == k) refl ∙ sym (ap (λ (runs : List ZoneRun). unless_gone (3 ∷ []) k runs) (ap (id_from used k) (home k)))
  where
    by : (a b : Bool) → (3 == k) ≡ b → if_two a (if_three 560 b []) ≡ cond (b || false) [] (if_two a (if_three 544 b []))
    by a true e = absurd (other (sym (eqb-true 3 k e)))
    by true false e = refl
    by false false e = refl

its_runs : as_runs 3 alone_place.parts ≡ id_runs moved 3
unfolding bits num low_bits carry_sum accumulated record_fault runs_from runs_of after_give
its_runs = refl

abbrev first_start : List Hole → ℕ
first_start [] = 0
first_start (h ∷ hs) = h.start

not_there : zone_holes (hole_runs moved) 0 ≡ holes_with (zone_holes (holes_left (holes_left (hole_runs used) []) alone_place.parts) 0) (zone_holes (runs_that (is_one_of []) used) 0) → ⊥
unfolding bits num low_bits carry_sum accumulated record_fault runs_from runs_of after_give
not_there e = cc

not_so : zone_holes (hole_runs used) 0 ≡ holes_with (zone_holes (holes_left (holes_left (hole_runs used) []) alone_place.parts) 0) (zone_holes (runs_that (is_one_of (3 ∷ [])) used) 0) → ⊥
unfolding bits num low_bits carry_sum accumulated record_fault runs_from runs_of after_give
not_so e = let f : ◌≡◌ {A = ℕ} 560 544 = ap first_start e in omega (arith, f)

pub returns : goal.returns
returns c = record {
  alone = record {
    holes = holes_moved;
    own = λ some. absurd (omega (arith, some));
    dir = λ some. same_lists (as_runs 3 alone_place.parts) (id_runs moved 3) its_runs;
    others = λ k one two. others_moved k (two (omega arith));
  };
  there = record {
    holes = holes_there;
    own = λ some. absurd (omega (arith, some));
    dir = λ some. absurd (omega (arith, some));
    others = λ k one two. refl;
  };
  not_back = λ s. not_there (s.holes 0 (omega arith));
  not_taken = λ s. not_so (s.holes 0 (omega arith));
  entry = refl;
}
