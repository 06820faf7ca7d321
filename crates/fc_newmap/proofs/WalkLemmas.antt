-- What a walk over the runs of a map knows.
use Rattle.std.proofs.Common.{◌≡◌, ◌≢◌, ◌<◌, ◌≤◌, ℕ, zero, suc, ◌+◌, ◌-◌, Bool, true, false, cond, Option, Some, None, List, [], ◌∷◌, ◌++◌, refl, sym, ap, ap₂, subst, ◌∙◌, arith}
use Rattle.std.specs.Prelude.{filter, slice_get}
use Rattle.std.specs.List.{range_with_len}
use Rattle.std.specs.Option.{MatchOption, IfSome}
use Rattle.std.proofs.lemmas.Bool.{eq-eqb, ne_eqb}
use Rattle.fc_bytes.specs.Bits.{bits}
use Rattle.fc_record.specs.declared.Geometry.{Geometry}
use Rattle.fc_record.specs.Record.{first_bit, end_bit}
use Rattle.fc_zone.specs.declared.Run.{Run}
use Rattle.fc_zone.specs.declared.ZoneShape.{ZoneShape}
use Rattle.fc_zone.specs.declared.cursor.Cursor.{Cursor}
use Rattle.fc_zone.specs.Cursor.{StandsBetween}
use Rattle.fc_zone.proofs.CursorLemmas.{left_of, left_fits}
use Rattle.fc_newmap.specs.declared.walk.Walk.{Walk}
use Rattle.fc_newmap.specs.declared.runs.RunCursor.{RunCursor}
use Rattle.fc_newmap.specs.Map.{Map, ZoneRun, all_runs, has_id, home_zone, id_runs, runs_in, runs_of, search_order, sector_of, shape}
use Rattle.fc_newmap.specs.RunsLaw.{placed}
use Rattle.fc_newmap.specs.Walk.{IsInZone, StandsAt, StandsBefore, bits_left, runs_after, zone_after, zones_from}
use Rattle.fc_newmap.proofs.PlaceLemmas.{home_low}

-- ---- the order of zones

pub after_last : (g : Geometry) (z : ℕ) → z + 1 ≡ g.zones → zone_after g z ≡ 0
after_last g z last = ap (λ b. cond b 0 (z + 1)) (eq-eqb (z + 1) g.zones last)

pub after_other : (g : Geometry) (z : ℕ) → z + 1 ≢ g.zones → zone_after g z ≡ z + 1
after_other g z other = ap (λ b. cond b 0 (z + 1)) (ne_eqb (z + 1) g.zones other)

pub zones_up : (g : Geometry) (z n : ℕ) → z + n ≤ g.zones → zones_from g z n ≡ range_with_len z n
zones_up g z zero h = refl
zones_up g z (suc zero) h = refl
zones_up g z (suc (suc n)) h =
    ap (λ (zs : List ℕ). z ∷ zs) (ap (λ (y : ℕ). zones_from g y (suc n)) (after_other g z (λ e. omega arith)) ∙ zones_up g (z + 1) (suc n) (omega arith))

pub zones_round : (g : Geometry) (z n a b : ℕ) → n ≡ a + b → z + a ≡ g.zones → 0 < a → zones_from g z n ≡ range_with_len z a ++ zones_from g 0 b
zones_round g z n zero b e h some = absurd (omega arith)
zones_round g z zero (suc a) b e h some = absurd (omega arith)
zones_round g z (suc n) (suc zero) b e h some =
    let same : n ≡ b = omega arith in
    ap (λ (zs : List ℕ). z ∷ zs) (ap₂ (zones_from g) (after_last g z (omega arith)) same)
zones_round g z (suc n) (suc (suc a)) b e h some =
    ap (λ (zs : List ℕ). z ∷ zs) (ap (λ (y : ℕ). zones_from g y n) (after_other g z (λ f. omega arith)) ∙ zones_round g (z + 1) n (suc a) b (omega arith) (omega arith) (omega arith))

pub order_is : (g : Geometry) (id n : ℕ) → g.zones ≡ suc n → zones_from g (home_zone g id) (suc n) ≡ search_order g id
order_is g id n e =
    let home = home_zone g id in
    let low = home_low g id (omega arith) in
    zones_round g home (suc n) (g.zones - home) home (omega arith) (omega arith) (omega arith)
    ∙ ap (λ (zs : List ℕ). range_with_len home (g.zones - home) ++ zs) (zones_up g 0 home (omega arith))

-- ---- a walk

-- between runs of a zone
pub stands_in : (m : Map) (z more : ℕ) (done here : List Run) (walk : Walk) → z < m.geometry.zones → walk.shape ≡ shape m.geometry z → walk.more ≡ more → StandsBetween (shape m.geometry z) (sector_of m z) done here walk.place
    → StandsBefore m (placed z here ++ runs_in m (zones_from m.geometry (zone_after m.geometry z) more)) walk
stands_in m z more done here walk low is last stands =
    let k : z ≡ walk.shape.zone = sym (ap (λ (s : ZoneShape). s.zone) is) in
    let at : StandsBetween walk.shape (sector_of m z) done here walk.place = subst (λ (s : ZoneShape). StandsBetween s (sector_of m z) done here walk.place) (sym is) stands in
    record {
      done = done;
      here = here;
      low = subst (λ (y : ℕ). y < m.geometry.zones) k low;
      shape = is ∙ ap (shape m.geometry) k;
      place = subst (λ (y : ℕ). StandsBetween walk.shape (sector_of m y) done here walk.place) k at;
      rest = ap₂ (λ (y n : ℕ). placed y here ++ runs_in m (zones_from m.geometry (zone_after m.geometry y) n)) k (sym last);
    }

abbrev pub IsStep : ZoneShape → List ℕ → Cursor → Cursor → Option Run → Type 0
IsStep shape sector old new result =
    (done here : List Run) → StandsBetween shape sector done here old
    → MatchOption result ((here ≡ []) × (new ≡ old)) (λ run. (rest : List Run) × ((here ≡ run ∷ rest) × StandsBetween shape sector (done ++ run ∷ []) rest new))

-- past a run of the zone
pub here_is : (m : Map) (left : List ZoneRun) (old : Walk) (place : Cursor) (result : Option Run) → StandsBefore m left old → IsStep old.shape (sector_of m old.shape.zone) old.place place result
    → MatchOption result ((record old { place = place } ≡ old) × (left ≡ runs_in m (zones_from m.geometry (zone_after m.geometry old.shape.zone) old.more)))
    (λ run. (rest : List ZoneRun) × ((left ≡ (old.shape.zone, run) ∷ rest) × StandsBefore m rest (record old { place = place })))
here_is m left old place None stands step =
    let r = step stands.done stands.here stands.place in
    (ap (λ (c : Cursor). record old { place = c }) r.1, stands.rest ∙ ap (λ (rs : List Run). placed old.shape.zone rs ++ runs_in m (zones_from m.geometry (zone_after m.geometry old.shape.zone) old.more)) r.0)
here_is m left old place (Some run) stands step =
    let r = step stands.done stands.here stands.place in
    let rest = placed old.shape.zone r.0 ++ runs_in m (zones_from m.geometry (zone_after m.geometry old.shape.zone) old.more) in (
      rest,
      (
        stands.rest ∙ ap (λ (rs : List Run). placed old.shape.zone rs ++ runs_in m (zones_from m.geometry (zone_after m.geometry old.shape.zone) old.more)) r.1.0,
        record { done = stands.done ++ run ∷ []; here = r.0; low = stands.low; shape = stands.shape; place = r.1.1; rest = refl },
      ),
    )

pub here_onward : (m : Map) (left : List ZoneRun) (old : Walk) (place : Cursor) (result : Option Run) → StandsBefore m left old → IsStep old.shape (sector_of m old.shape.zone) old.place place result
    → IfSome result (λ run. (run.start ≡ old.place.at) × (place.at ≡ run.start + run.len))
    → IfSome result (λ run. (0 < run.len) × (bits_left (record old { place = place }) + run.len ≤ bits_left old))
here_onward m left old place None stands step moved = tt
here_onward m left old place (Some run) stands step moved =
    let r = step stands.done stands.here stands.place in
    let before = left_of old.shape (sector_of m old.shape.zone) stands.done stands.here old.place stands.place in
    let fits = left_fits old.shape (bits (sector_of m old.shape.zone)) stands.here old.place.at old.place.hole run before (ap (λ (rs : List Run). slice_get rs 0) (sym r.1.0)) in
    (omega (arith, fits.1), omega (arith, fits.0, fits.1, fits.2, moved.0, moved.1))

pub here_within : (m : Map) (left : List ZoneRun) (old : Walk) (place : Cursor) (result : Option Run) → StandsBefore m left old → IsStep old.shape (sector_of m old.shape.zone) old.place place result
    → IfSome result (λ run. IsInZone m.geometry (old.shape.zone, run))
here_within m left old place None stands step = tt
here_within m left old place (Some run) stands step =
    let r = step stands.done stands.here stands.place in
    let before = left_of old.shape (sector_of m old.shape.zone) stands.done stands.here old.place stands.place in
    let fits = left_fits old.shape (bits (sector_of m old.shape.zone)) stands.here old.place.at old.place.hole run before (ap (λ (rs : List Run). slice_get rs 0) (sym r.1.0)) in
    let at = stands.place.place in
    let first : old.shape.first ≡ first_bit old.shape.zone = ap (λ (s : ZoneShape). s.first) stands.shape in
    let end : old.shape.end ≡ end_bit m.geometry old.shape.zone = ap (λ (s : ZoneShape). s.end) stands.shape in
    record { zone = stands.low; from = omega (arith, fits.0); to = omega (arith, fits.0, fits.2) }

-- on to the next zone
pub moved : (m : Map) (old walk : Walk) (z' more' : ℕ) → z' ≡ zone_after m.geometry old.shape.zone → old.more ≡ more' + 1
    → StandsBefore m (placed z' (runs_of m z') ++ runs_in m (zones_from m.geometry (zone_after m.geometry z') more')) walk → StandsBefore m (runs_after m old) walk
moved m old walk z' more' after less stands =
    let n : suc more' ≡ old.more = omega arith in
    let same : placed z' (runs_of m z') ++ runs_in m (zones_from m.geometry (zone_after m.geometry z') more') ≡ runs_after m old =
    ap (λ (y : ℕ). runs_in m (zones_from m.geometry y (suc more'))) after ∙ ap (λ (k : ℕ). runs_in m (zones_from m.geometry (zone_after m.geometry old.shape.zone) k)) n in
    subst (λ (l : List ZoneRun). StandsBefore m l walk) same stands

-- ---- the runs of an identifier

abbrev pub of_id : ℕ → ZoneRun → Bool
of_id id p = has_id id p.1.kind

abbrev pub IsStepOf : Map → Walk → Walk → Option ZoneRun → Type 0
IsStepOf m old new result =
    (left : List ZoneRun) → StandsBefore m left old
    → MatchOption result ((left ≡ []) × StandsBefore m [] new) (λ p. (rest : List ZoneRun) × ((left ≡ p ∷ rest) × StandsBefore m rest new))

pub filter_first : (id : ℕ) (p : ZoneRun) (rest : List ZoneRun) → has_id id p.1.kind ≡ true → filter (of_id id) (p ∷ rest) ≡ p ∷ filter (of_id id) rest
filter_first id p rest e = ap (λ (b : Bool). cond b (p ∷ filter (of_id id) rest) (filter (of_id id) rest)) e

pub filter_later : (id : ℕ) (p : ZoneRun) (rest : List ZoneRun) → has_id id p.1.kind ≡ false → filter (of_id id) (p ∷ rest) ≡ filter (of_id id) rest
filter_later id p rest e = ap (λ (b : Bool). cond b (p ∷ filter (of_id id) rest) (filter (of_id id) rest)) e

-- past a run of the identifier
pub taken : (m : Map) (left : List ZoneRun) (id : ℕ) (old new : Walk) (p : ZoneRun) → StandsAt m left (record { id = id; walk = old }) → IsStepOf m old new (Some p) → has_id id p.1.kind ≡ true
    → (rest : List ZoneRun) × ((left ≡ p ∷ rest) × StandsAt m rest (record { id = id; walk = new }))
taken m left id old new p stands step is =
    let r = step stands.all stands.walk in
    (filter (of_id id) r.0, (stands.of_id ∙ ap (filter (of_id id)) r.1.0 ∙ filter_first id p r.0 is, record { all = r.0; walk = r.1.1; of_id = refl }))

-- past another run
pub passed : (m : Map) (left : List ZoneRun) (id : ℕ) (old new : Walk) (p : ZoneRun) → StandsAt m left (record { id = id; walk = old }) → IsStepOf m old new (Some p) → has_id id p.1.kind ≡ false
    → StandsAt m left (record { id = id; walk = new })
passed m left id old new p stands step is =
    let r = step stands.all stands.walk in
    record { all = r.0; walk = r.1.1; of_id = stands.of_id ∙ ap (filter (of_id id)) r.1.0 ∙ filter_later id p r.0 is }

-- at the end
pub at_end : (m : Map) (left : List ZoneRun) (id : ℕ) (old new : Walk) → StandsAt m left (record { id = id; walk = old }) → IsStepOf m old new None
    → (left ≡ []) × StandsAt m [] (record { id = id; walk = new })
at_end m left id old new stands step =
    let r = step stands.all stands.walk in
    (stands.of_id ∙ ap (filter (of_id id)) r.0, record { all = []; walk = r.1; of_id = refl })

-- ---- the loop of a walk

abbrev pub IsPastZone : Map → List ZoneRun → Walk → Walk → Type 0
IsPastZone m left old new = (new ≡ old) × (left ≡ runs_in m (zones_from m.geometry (zone_after m.geometry old.shape.zone) old.more))

-- no zone is left
pub none_more : (m : Map) (left : List ZoneRun) (old new : Walk) → StandsBefore m left old → IsPastZone m left old new → new.more ≡ 0 → (left ≡ []) × StandsBefore m [] new
none_more m left old new stands past last =
    let more : old.more ≡ 0 = sym (ap (λ (w : Walk). w.more) past.0) ∙ last in
    let none : left ≡ [] = past.1 ∙ ap (λ (n : ℕ). runs_in m (zones_from m.geometry (zone_after m.geometry old.shape.zone) n)) more in
    (none, subst (λ (l : List ZoneRun). StandsBefore m l new) none (subst (λ (w : Walk). StandsBefore m left w) (sym past.0) stands))

pub same_low : (m : Map) (left : List ZoneRun) (old new : Walk) → StandsBefore m left old → new ≡ old → new.shape.zone < m.geometry.zones
same_low m left old new stands same = subst (λ (w : Walk). w.shape.zone < m.geometry.zones) (sym same) stands.low

-- what comes next is the first of what was left
pub first_is : (m : Map) (left : List ZoneRun) (new : RunCursor) (result : Option ZoneRun)
    → MatchOption result ((left ≡ []) × StandsAt m [] new) (λ p. (rest : List ZoneRun) × ((left ≡ p ∷ rest) × StandsAt m rest new)) → result ≡ slice_get left 0
first_is m left new None h = ap (λ (l : List ZoneRun). slice_get l 0) (sym h.0)
first_is m left new (Some p) h = ap (λ (l : List ZoneRun). slice_get l 0) (sym h.1.0)

-- ---- all runs

pub all_is : (m : Map) (more : ℕ) → m.geometry.zones ≡ suc more → placed 0 (runs_of m 0) ++ runs_in m (zones_from m.geometry (zone_after m.geometry 0) more) ≡ all_runs m
all_is m more some =
    ap (runs_in m) (zones_up m.geometry 0 (suc more) (omega arith)) ∙ ap (λ (n : ℕ). runs_in m (range_with_len 0 n)) (sym some)
