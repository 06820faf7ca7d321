-- A walk over the holes of a map, by the links between those of a zone.
use Rattle.std.proofs.Common.{◌≡◌, ◌<◌, ◌≤◌, ℕ, ◌+◌, Bool, true, false, cond, Option, Some, None, List, [], ◌∷◌, ◌++◌, refl, sym, ap, ap₂, subst, ◌∙◌, arith, append_assoc}
use Rattle.std.specs.Option.{IfSome, MatchOption}
use Rattle.std.proofs.lemmas.List.{map-append}
use Rattle.std.proofs.lemmas.List.Elements.{filter-append}
use Rattle.fc_record.specs.Record.{first_bit, end_bit}
use Rattle.fc_zone.specs.declared.Run.{Run}
use Rattle.fc_zone.specs.declared.RunKind.{RunKind}
use Rattle.fc_zone.specs.declared.RunKind.TheVariants.{Hole, Id}
use Rattle.fc_zone.specs.declared.ZoneShape.{ZoneShape}
use Rattle.fc_zone.specs.declared.cursor.Cursor.{Cursor}
use Rattle.fc_zone.specs.Cursor.{StandsBetween}
use Rattle.fc_zone.specs.Zone.{Zone, hole_starts, start_if_hole}
use Rattle.fc_zone.proofs.EditLemmas.{run_place}
use Rattle.fc_zone.proofs.HolderLemmas.{run_is}
use Rattle.fc_newmap.specs.declared.walk.Walk.{Walk}
use Rattle.fc_newmap.specs.Map.{Map, ZoneRun, is_hole, runs_in, sector_of}
use Rattle.fc_newmap.specs.RunsLaw.{placed}
use Rattle.fc_newmap.specs.Walk.{HasPassedHole, IsInZone, StandsBefore, bits_left, holes_in, runs_after, zone_after, zones_from}

-- ---- the holes among runs

hole_first : (p : ZoneRun) (rest : List ZoneRun) → is_hole p.1.kind ≡ true → holes_in (p ∷ rest) ≡ p ∷ holes_in rest
hole_first p rest e = ap (λ (b : Bool). cond b (p ∷ holes_in rest) (holes_in rest)) e

hole_later : (p : ZoneRun) (rest : List ZoneRun) → is_hole p.1.kind ≡ false → holes_in (p ∷ rest) ≡ holes_in rest
hole_later p rest e = ap (λ (b : Bool). cond b (p ∷ holes_in rest) (holes_in rest)) e

none_placed : (z : ℕ) (runs : List Run) → hole_starts runs ≡ [] → holes_in (placed z runs) ≡ []
none_placed z [] e = refl
none_placed z (run ∷ runs) e = by run.kind refl e (none_placed z runs)
  where
    by : (kind : RunKind) → run.kind ≡ kind → start_if_hole kind run.start (hole_starts runs) ≡ [] → (hole_starts runs ≡ [] → holes_in (placed z runs) ≡ []) → holes_in (placed z (run ∷ runs)) ≡ []
    by Hole is e later = absurd (cc)
    by (Id id) is e later = hole_later (z, run) (placed z runs) (ap is_hole is) ∙ later e

-- no hole in the zone
none_here : (z : ℕ) (here : List Run) (tail : List ZoneRun) → hole_starts here ≡ [] → holes_in (placed z here ++ tail) ≡ holes_in tail
none_here z here tail e = filter-append (λ p. is_hole p.1.kind) (placed z here) tail ∙ ap (λ (l : List ZoneRun). l ++ holes_in tail) (none_placed z here e)

-- the first hole in the zone
first_here : (z : ℕ) (passed rest : List Run) (run : Run) (tail : List ZoneRun) → hole_starts passed ≡ [] → run.kind ≡ Hole
    → holes_in (placed z (passed ++ run ∷ rest) ++ tail) ≡ (z, run) ∷ holes_in (placed z rest ++ tail)
first_here z passed rest run tail e kind =
    let cut : placed z (passed ++ run ∷ rest) ++ tail ≡ placed z passed ++ ((z, run) ∷ (placed z rest ++ tail)) =
    ap (λ (l : List ZoneRun). l ++ tail) (map-append (λ (r : Run). let p : ZoneRun = (z, r) in p) passed (run ∷ rest)) ∙ append_assoc (placed z passed) ((z, run) ∷ placed z rest) tail in
    ap holes_in cut ∙ none_here z passed ((z, run) ∷ (placed z rest ++ tail)) e ∙ hole_first (z, run) (placed z rest ++ tail) (ap is_hole kind)

-- ---- a step inside a zone

-- what a cursor does
abbrev pub IsHoleStep : ZoneShape → List ℕ → Cursor → Cursor → Option Run → Type 0
IsHoleStep shape sector old new result =
    (done left : List Run) → StandsBetween shape sector done left old
    → MatchOption result ((hole_starts left ≡ []) × StandsBetween shape sector (done ++ left) [] new)
    (λ run. (passed rest : List Run) × ((left ≡ passed ++ run ∷ rest) × (hole_starts passed ≡ []) × (run.kind ≡ Hole) × StandsBetween shape sector ((done ++ passed) ++ run ∷ []) rest new))

pub hole_passed : (m : Map) (left : List ZoneRun) (old : Walk) (place : Cursor) (result : Option Run) → StandsBefore m left old → IsHoleStep old.shape (sector_of m old.shape.zone) old.place place result
    → HasPassedHole m left old (record old { place = place }) result
hole_passed m left old place None stands step =
    let r = step stands.done stands.here stands.place in
    let z = old.shape.zone in (
      ap holes_in stands.rest ∙ none_here z stands.here (runs_after m old) r.0,
      record { done = stands.done ++ stands.here; here = []; low = stands.low; shape = stands.shape; place = r.1; rest = refl },
    )
hole_passed m left old place (Some run) stands step =
    let r = step stands.done stands.here stands.place in
    let z = old.shape.zone in
    let tail = runs_after m old in (
      placed z r.1 ++ tail,
      (
        ap holes_in (stands.rest ∙ ap (λ (rs : List Run). placed z rs ++ tail) r.2.0) ∙ first_here z r.0 r.1 run tail r.2.1 r.2.2,
        record { done = (stands.done ++ r.0) ++ run ∷ []; here = r.1; low = stands.low; shape = stands.shape; place = r.2.3; rest = refl },
      ),
    )

-- the hole lies in the zone
hole_fits : (m : Map) (left : List ZoneRun) (old : Walk) (place : Cursor) (run : Run) → StandsBefore m left old → IsHoleStep old.shape (sector_of m old.shape.zone) old.place place (Some run)
    → (old.shape.first ≤ run.start) × (0 < run.len) × (run.start + run.len ≤ old.shape.end)
hole_fits m left old place run stands step =
    let r = step stands.done stands.here stands.place in
    let front = stands.done ++ r.0 in
    let sector = sector_of m old.shape.zone in
    let behind = r.2.3 in
    let zone : Zone old.shape sector (front ++ run ∷ r.1) = subst (Zone old.shape sector) (append_assoc front (run ∷ []) r.1) behind.zone in
    let begins = (run_place old.shape sector front r.1 run zone).0 in
    let is = run_is old.shape sector front r.1 run zone in
    let long = is.long in
    (begins, omega arith, is.within)

pub hole_onward : (m : Map) (left : List ZoneRun) (old : Walk) (place : Cursor) (result : Option Run) → StandsBefore m left old → IsHoleStep old.shape (sector_of m old.shape.zone) old.place place result
    → IfSome result (λ run. (old.place.at ≤ run.start) × (place.at ≡ run.start + run.len)) → IfSome result (λ run. (0 < run.len) × (bits_left (record old { place = place }) + run.len ≤ bits_left old))
hole_onward m left old place None stands step moved = tt
hole_onward m left old place (Some run) stands step moved =
    let fits = hole_fits m left old place run stands step in
    (fits.1, omega (arith, fits.1, fits.2, moved.0, moved.1))

pub hole_within : (m : Map) (left : List ZoneRun) (old : Walk) (place : Cursor) (result : Option Run) → StandsBefore m left old → IsHoleStep old.shape (sector_of m old.shape.zone) old.place place result
    → IfSome result (λ run. IsInZone m.geometry (old.shape.zone, run))
hole_within m left old place None stands step = tt
hole_within m left old place (Some run) stands step =
    let fits = hole_fits m left old place run stands step in
    let first : old.shape.first ≡ first_bit old.shape.zone = ap (λ (s : ZoneShape). s.first) stands.shape in
    let end : old.shape.end ≡ end_bit m.geometry old.shape.zone = ap (λ (s : ZoneShape). s.end) stands.shape in
    record { zone = stands.low; from = omega (arith, fits.0, first); to = omega (arith, fits.2, end) }

-- ---- from zone to zone

-- a hole is found
pub hole_found : (m : Map) (left now : List ZoneRun) (old new : Walk) (run : Run) → holes_in left ≡ holes_in now → HasPassedHole m now old new (Some run) → new.shape ≡ old.shape
    → (rest : List ZoneRun) × ((holes_in left ≡ (new.shape.zone, run) ∷ holes_in rest) × StandsBefore m rest new)
hole_found m left now old new run same passed shape =
    (passed.0, (same ∙ passed.1.0 ∙ ap (λ (s : ZoneShape). let p : ZoneRun = (s.zone, run) in p ∷ holes_in passed.0) (sym shape), passed.1.1))

-- no zone is left
pub holes_end : (m : Map) (left now : List ZoneRun) (old new : Walk) → holes_in left ≡ holes_in now → HasPassedHole m now old new None → new.more ≡ old.more → new.more ≡ 0 → (holes_in left ≡ []) × StandsBefore m [] new
holes_end m left now old new same passed more last =
    let none : runs_after m old ≡ [] = ap (λ (n : ℕ). runs_in m (zones_from m.geometry (zone_after m.geometry old.shape.zone) n)) (sym more ∙ last) in
    (same ∙ passed.0 ∙ ap holes_in none, subst (λ (l : List ZoneRun). StandsBefore m l new) none passed.1)

-- on to the next zone
pub holes_on : (m : Map) (left now : List ZoneRun) (old new walk : Walk) → holes_in left ≡ holes_in now → HasPassedHole m now old new None → new.shape ≡ old.shape → new.more ≡ old.more
    → StandsBefore m (runs_after m new) walk → (now' : List ZoneRun) × ((holes_in left ≡ holes_in now') × StandsBefore m now' walk)
holes_on m left now old new walk same passed shape more stands =
    let after : runs_after m old ≡ runs_after m new =
    ap₂ (λ (s : ZoneShape) (n : ℕ). runs_in m (zones_from m.geometry (zone_after m.geometry s.zone) n)) (sym shape) (sym more) in
    (runs_after m new, (same ∙ passed.0 ∙ ap holes_in after, stands))
