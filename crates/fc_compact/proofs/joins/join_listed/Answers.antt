use Rattle.std.proofs.Common.{◌≡◌, inl, inr, ℕ, ◌+◌, ◌-◌, ◌%◌, ◌<◌, Bool, true, false, ◌==◌, List, [], ◌∷◌, length, ap, sym, subst, ◌∙◌, arith, cond}
use Rattle.std.specs.Prelude.{All, ◌||◌, Contains, nat_lt, Result, Ok, Err, OnOk}
use Rattle.std.specs.List.{range_with_len}
use Rattle.std.specs.List.Sorted.{IsStrictlyIncreasing}
use Rattle.std.proofs.lemmas.List.Elements.{All-filter}
use Rattle.std.proofs.lemmas.List.Kept.{IsStrictlyIncreasing-filter}
use Rattle.std.proofs.lemmas.Result.{on_ok_weaker}
use Rattle.fc_record.specs.declared.Geometry.{Geometry}
use Rattle.fc_zone.specs.declared.Run.{Run}
use Rattle.fc_zone.specs.declared.RunKind.TheVariants.{Id}
use Rattle.fc_newmap.specs.Map.{ZoneRun, bits_in, hole_runs, id_runs, runs_of, sector_of, shape}
use Rattle.fc_zone.specs.Zone.{HasRun}
use Rattle.fc_image.specs.effects.Moves.{runs_joined}
use Rattle.fc_image.specs.effects.Placed.{front_of}
use Rattle.fc_compact.specs.Joins.{HasBetween, has_run_in, is_listed, join_zones}
use Rattle.fc_compact.specs.Slides.{IsPart, hole_at, run_at}
use Rattle.fc_compact.proofs.FoundLemmas.{listed_passes, or_true, range_below, range_rises}
use Rattle.fc_compact.proofs.HoldLemmas.{IsHole, hole_between, hole_is, hole_named, id_bits_long, id_bits_whole, id_fits_field, movable_high, same_run, some_first}
use Rattle.fc_compact.proofs.RejoinedLemmas.{zones_joined}
use Rattle.fc_compact.proofs.ReleaseLemmas.{run_is_at}
use Rattle.fc_compact.proofs.SurveyLemmas.{holds_all, zones_joined_are}
use Rattle.fc_compact.proofs.joins.join_listed.Given.{Over}
use Rattle.fc_compact.proofs.joins.join_listed.Goals as goal
use Rattle.fc_compact.proofs.joins.join_listed.Goals.{After-front_len-len, After-geometry, After-run_from-gap, After-with_zone-changed}

hole : (g : Over) (c : After-geometry g) → IsHole c.args.map.now c.args.zone c.requires.runs.hole
hole g c = hole_is c.args.map.now c.geometry.ensures.map c.args.zone c.requires.runs.hole c.requires.runs.there

min_is : (g : Over) (c : After-geometry g) → c.geometry.result.now.min ≡ c.args.map.now.geometry.min
min_is g c = ap (λ (h : Geometry). h.min) c.geometry.ensures.value

gap : (g : Over) (c : After-run_from-gap g) → IsHole c.args.map.now c.args.zone c.requires.runs.hole → c.run_from-gap.result ≡ c.requires.runs.hole
gap g c h = c.run_from-gap.ensures.value h.between.0 h.between.1 c.requires.runs.hole h.between.2 c.requires.runs.named

-- the hole that begins there is the one that was found, and of it that many bits are taken
taken : (g : Over) (c : After-front_len-len g) → IsHole c.args.map.now c.args.zone c.requires.runs.hole → c.run_from-gap.result ≡ c.requires.runs.hole
    → (run : Run) → Contains (hole_runs c.args.map.now) (c.args.zone, run) → run.start ≡ c.args.hole
    → (run ≡ c.requires.runs.hole) × (c.front_len-len.result ≡ cond (nat_lt run.len (bits_in (id_runs c.args.map.now c.args.id) + c.args.map.now.geometry.min)) run.len (bits_in (id_runs c.args.map.now c.args.id)))
taken g c h gap_is run there named =
    let m = c.args.map.now in
    let bits = bits_in (id_runs m c.args.id) in
    let is = c.geometry.ensures.map in
    let same : run ≡ c.requires.runs.hole = same_run m is c.args.zone h.low run c.requires.runs.hole (hole_between m is c.args.zone run there) h.between (named ∙ sym c.requires.runs.named) in (
      same,
      c.front_len-len.ensures.value ∙ ap (λ k. cond (nat_lt k (c.bits_of-bits.result + c.geometry.result.now.min)) k c.bits_of-bits.result) (ap (λ (r : Run). r.len) (gap_is ∙ sym same))
          ∙ ap (λ k. cond (nat_lt run.len (k + c.geometry.result.now.min)) run.len k) c.bits_of-bits.ensures ∙ ap (λ k. cond (nat_lt run.len (bits + k)) run.len bits) (ap (λ (h : Geometry). h.min) c.geometry.ensures.value),
    )

listed : (g : Over) (c : After-with_zone-changed g) → IsHole c.args.map.now c.args.zone c.requires.runs.hole → c.with_zone-changed.result.items ≡ join_zones c.args.map.now c.args.id c.args.zone
listed g c h = c.with_zone-changed.ensures ∙ zones_joined_are c.args.map.now c.geometry.ensures.map c.args.id c.args.zone h.low c.args.zones.now.items c.requires.zones

pub bits_of-bits-requires-clause-zones : goal.bits_of-bits-requires-clause-zones
bits_of-bits-requires-clause-zones g c = holds_all c.args.map.now c.geometry.ensures.map c.args.id c.args.zones.now.items c.requires.zones

pub bits_of-bits-requires-clause-few : goal.bits_of-bits-requires-clause-few
bits_of-bits-requires-clause-few g c = (let h = hole g (goal.at.bits_of-bits-requires-clause-few g c).After-geometry in omega (arith, h.short, c.requires.runs.room))

pub run_from-gap-requires-clause-zone : goal.run_from-gap-requires-clause-zone
run_from-gap-requires-clause-zone g c = (hole g (goal.at.run_from-gap-requires-clause-zone g c).After-geometry).low

pub run_from-gap-requires-clause-run : goal.run_from-gap-requires-clause-run
run_from-gap-requires-clause-run g c =
    let m = c.args.map.now in
    let z = c.args.zone in
    let h = hole g (goal.at.run_from-gap-requires-clause-run g c).After-geometry in
    subst (λ (k : ℕ). (run : Run) × ((run.start ≡ k) × HasRun (shape m.geometry z) (sector_of m z) run)) c.requires.runs.named (run_is_at m z c.requires.runs.hole c.geometry.ensures.map h.low h.between)

pub front_len-len-requires-clause-fits : goal.front_len-len-requires-clause-fits
front_len-len-requires-clause-fits g c =
    let m = c.args.map.now in
    let step = (goal.at.front_len-len-requires-clause-fits g c).After-geometry in
    let first = some_first (id_runs m c.args.id) c.requires.runs.some in
    omega (arith, c.bits_of-bits.ensures, min_is g step, (hole g step).short, c.requires.runs.room, id_bits_long m c.geometry.ensures.map c.args.id first.0 first.1 first.2)

pub front_len-len-requires-clause-room : goal.front_len-len-requires-clause-room
front_len-len-requires-clause-room g c = omega (arith, c.bits_of-bits.ensures, ap (λ (r : Run). r.len) (gap g (goal.at.front_len-len-requires-clause-room g c).After-run_from-gap (hole g (goal.at.front_len-len-requires-clause-room g c).After-geometry)), c.requires.runs.room)

pub with_zone-changed-requires : goal.with_zone-changed-requires
with_zone-changed-requires g c = (let few = c.requires.runs.few in omega (arith, few, ap length c.requires.zones))

pub join_into-requires-clause-join : goal.join_into-requires-clause-join
join_into-requires-clause-join g c =
    let m = c.args.map.now in
    let z = c.args.zone in
    let is = c.geometry.ensures.map in
    let cs = c.requires.runs in
    let at = goal.at.join_into-requires-clause-join g c in
    let h = hole g at.After-geometry in
    let high = movable_high c.args.owners.now c.args.id cs.movable in
    let gap_len = ap (λ (r : Run). r.len) (gap g at.After-run_from-gap h) in
    let bits_is = c.bits_of-bits.ensures in
    let first = some_first (id_runs m c.args.id) cs.some in
    let len = c.front_len-len.result in
    let all : cs.hole.len ≡ len + (c.run_from-gap.result.len - len) = omega (arith, gap_len, c.front_len-len.ensures.within) in
    record {
      zone = h.low;
      movable = cs.movable;
      some_id = omega (arith, high);
      id_fits = id_fits_field m is c.args.id first.0 first.1 first.2;
      whole = elim c.front_len-len.ensures.which [
        | inl all ↦ ap (λ k. k % m.geometry.q) (all ∙ gap_len) ∙ h.whole
        | inr just ↦ ap (λ k. k % m.geometry.q) (just ∙ bits_is) ∙ id_bits_whole m is c.args.id first.0 first.1 first.2
      ];
      room = omega (arith, c.front_len-len.ensures.enough, bits_is, id_bits_long m is c.args.id first.0 first.1 first.2);
      left = subst (λ (k : ℕ). IsPart k (c.run_from-gap.result.len - len)) (min_is g at.After-geometry) c.front_len-len.ensures.left;
      enough = omega (arith, c.front_len-len.ensures.enough, bits_is);
      hole = subst (λ (k : ℕ). HasBetween m z (hole_at c.args.hole k)) all (subst (HasBetween m z) (hole_named m is z cs.hole cs.there c.args.hole cs.named) h.between);
    }

pub join_into-requires-clause-zones : goal.join_into-requires-clause-zones
join_into-requires-clause-zones g c =
    let m = c.args.map.now in
    let z = c.args.zone in
    let t : ℕ → Bool = λ y. (y == z) || has_run_in m c.args.id y in
    let are = listed g (goal.at.join_into-requires-clause-zones g c).After-with_zone-changed (hole g (goal.at.join_into-requires-clause-zones g c).After-geometry) in
    record {
      rising = subst IsStrictlyIncreasing (sym are) (IsStrictlyIncreasing-filter t (range_with_len 0 m.geometry.zones) (range_rises 0 m.geometry.zones));
      low = subst (All (λ y. y < m.geometry.zones)) (sym are) (All-filter t (λ (y : ℕ). y < m.geometry.zones) (range_with_len 0 m.geometry.zones) (range_below m.geometry.zones));
      listed = λ y below. ap (λ (xs : List ℕ). is_listed xs y) are ∙ listed_passes t m.geometry.zones y below;
      holds = record { test = t; are = are; all = λ y there. ap (λ b. (y == z) || b) there ∙ or_true (y == z) };
    }

-- the front of the hole as a run
front_run : (g : Geometry) (bits z id len : ℕ) (run : Run) → len ≡ cond (nat_lt run.len (bits + g.min)) run.len bits
    → run_at run.start len id ≡ record (front_of g bits (z, run)).1 { kind = Id id }
front_run g bits z id len run e = by (nat_lt run.len (bits + g.min)) e
  where
    by : (b : Bool) → len ≡ cond b run.len bits → run_at run.start len id ≡ record (let p : ZoneRun = cond b (z, run) (z, record run { len = bits }) in p).1 { kind = Id id }
    by true f = ap (λ (k : ℕ). run_at run.start k id) f
    by false f = ap (λ (k : ℕ). run_at run.start k id) f

pub returns-clause-one : goal.returns-clause-one
returns-clause-one g c = λ run there named.
    let m = c.args.map.now in
    let z = c.args.zone in
    let id = c.args.id in
    let len = c.front_len-len.result in
    let at = goal.at.returns-clause-one g c in
    let h = hole g at.After-geometry in
    let len_is = (taken g at.After-front_len-len h (gap g at.After-run_from-gap h) run there named).1 in
    on_ok_weaker c.join_into.result
    (λ one. one ∙ ap (λ (k : ℕ). let p : ZoneRun = (z, run_at k len id) in p ∷ []) (sym named) ∙ ap (λ (r : Run). let p : ZoneRun = (z, r) in p ∷ []) (front_run m.geometry (bits_in (id_runs m id)) z id len run len_is))
    c.join_into.ensures.one

on_ok_four : {T E : Type 0} (r : Result T E) {A B C F G : Type 0} → (A → B → C → F → G) → OnOk r A → OnOk r B → OnOk r C → OnOk r F → OnOk r G
on_ok_four (Ok x) all a b c f = all a b c f
on_ok_four (Err e) all a b c f = tt

-- how long it is
front_len_is : (g : Geometry) (bits z len : ℕ) (run : Run) → len ≡ cond (nat_lt run.len (bits + g.min)) run.len bits → (front_of g bits (z, run)).1.len ≡ len
front_len_is g bits z len run e = by (nat_lt run.len (bits + g.min)) e
  where
    by : (b : Bool) → len ≡ cond b run.len bits → (let p : ZoneRun = cond b (z, run) (z, record run { len = bits }) in p).1.len ≡ len
    by true f = sym f
    by false f = sym f

pub returns-clause-joined : goal.returns-clause-joined
returns-clause-joined g c = λ run there named.
    let m = c.args.map.now in
    let m' = c.join_into.new.map in
    let z = c.args.zone in
    let id = c.args.id in
    let bits = bits_in (id_runs m id) in
    let is = c.geometry.ensures.map in
    let len = c.front_len-len.result in
    let left = c.run_from-gap.result.len - len in
    let start = c.args.hole in
    let zones = c.with_zone-changed.result.items in
    let at = goal.at.returns-clause-joined g c in
    let h = hole g at.After-geometry in
    let gap_is = gap g at.After-run_from-gap h in
    let found = taken g at.After-front_len-len h gap_is run there named in
    let long : run.len ≡ len + left = omega (arith, ap (λ (r : Run). r.len) (gap_is ∙ sym found.0), c.front_len-len.ensures.within) in
    let whole : run ≡ hole_at start (len + left) = hole_named m is z run there start named ∙ ap (λ (k : ℕ). hole_at start k) long in
    let front = subst (λ (r : Run). (front_of m.geometry bits (z, r)).1.len ≡ len) whole (front_len_is m.geometry bits z len run found.1) in
    let here : HasBetween m z (hole_at start (len + left)) = subst (HasBetween m z) whole (hole_between m is z run there) in
    let are : (y : ℕ) → y < m.geometry.zones → is_listed zones y ≡ ((y == z) || has_run_in m id y) =
    λ y below. ap (λ (xs : List ℕ). is_listed xs y) (listed g at.After-with_zone-changed h) ∙ listed_passes (λ (y : ℕ). (y == z) || has_run_in m id y) m.geometry.zones y below in
    on_ok_four c.join_into.result
    (λ one others taken free. record {
      was = there;
      one = one;
      others = others;
      zones = subst (λ (r : Run). (y : ℕ) → y < m.geometry.zones → runs_of m' y ≡ runs_joined m (z, r) id y) (sym whole) (zones_joined m m' is id z start len left zones h.low here are front taken free);
    })
    (returns-clause-one g c run there named) c.join_into.ensures.others c.join_into.ensures.taken c.join_into.ensures.freed
