use Rattle.std.proofs.Common.{◌≡◌, ◌<◌, ◌++◌, ◌+◌, ℕ, ◌∷◌, [], cond, List, sym, ap, subst, ◌∙◌, append_assoc, arith}
use Rattle.std.specs.Prelude.{sum_by}
use Rattle.fc_record.specs.declared.Geometry.{Geometry}
use Rattle.fc_record.specs.Record.{end_bit, first_bit}
use Rattle.fc_zone.specs.Cursor.{StandsBetween}
use Rattle.fc_zone.specs.declared.Run.{Run}
use Rattle.fc_zone.specs.declared.ZoneShape.{ZoneShape}
use Rattle.fc_newmap.proofs.ComposeLemmas.{edit_none}
use Rattle.fc_newmap.specs.Map.{runs_of, sector_of, shape}
use Rattle.fc_newmap.proofs.ZoneWalkLemmas.{shape_of_zone, shaped, stands_in_map, started_in}
use Rattle.fc_reclaim.specs.Lost.{goes_back}
use Rattle.fc_reclaim.specs.Zone.{left_after}
use Rattle.fc_reclaim.proofs.PassLemmas.{IsPassing, follows, passing_end, passing_start}
use Rattle.fc_plan.proofs.IdBits.{if_of_low as at_most}
use Rattle.fc_reclaim.proofs.ReclaimedLemmas.{goes_used, in_zone, passed_on}
use Rattle.fc_reclaim.proofs.zone.reclaim_in.Goals as goal
use Rattle.fc_reclaim.proofs.zone.reclaim_in.Goals.{In-Some}

pub loop-run-init : goal.loop-run-init
loop-run-init c =
    let start = started_in c.args.map.now c.args.z c.from_zone-walk.result c.from_zone-walk.ensures.stands c.from_zone-walk.ensures.zone c.from_zone-walk.ensures.more in
    let place : c.from_zone-walk.result.place.at ≡ first_bit c.args.z + sum_by (λ (r : Run). r.len) start.done = start.place.place in
    let order = (shape_of_zone c.args.map.now c.args.z c.requires.map c.requires.zone).order in
    record {
      left = runs_of c.args.map.now c.args.z;
      done = start.done;
      passing = passing_start (goes_back c.args.boot c.args.owners.now c.args.map.now.geometry) c.args.z c.args.map.now (edit_none c.args.map.now c.args.z c.requires.map);
      shape = start.shape_is;
      stands = subst (λ (s : ZoneShape). StandsBetween s (sector_of c.args.map.now c.args.z) start.done (runs_of c.args.map.now c.args.z) c.from_zone-walk.result.place) (sym start.shape_is) start.place;
      few = omega (arith, place);
      short = omega (arith, order);
    }

-- the rest of the runs, of which one comes next
pub record IsOnward (c : In-Some) : Type 0 where
  pub rest : List Run
  pub stands : StandsBetween c.from_zone-walk.result.shape (sector_of c.loop-run.map c.args.z) (c.loop-run.invariant.done ++ c.in-Some.run' ∷ []) rest c.next.new.self
  pub passing : IsPassing (goes_back c.args.boot c.args.owners.now c.args.map.now.geometry) c.args.z c.args.map.now c.loop-run.map c.loop-run.chain (c.in-Some.run' ∷ rest) c.loop-run.bits

onward : (c : In-Some) → IsOnward c
onward c =
    let is = c.loop-run.invariant in
    let at : StandsBetween c.from_zone-walk.result.shape c.bytes.result.now is.done is.left c.loop-run.place =
    subst (λ (s : List ℕ). StandsBetween c.from_zone-walk.result.shape s is.done is.left c.loop-run.place) (sym c.bytes.ensures.value) is.stands in
    let step = c.in-Some.ensures.value is.done is.left at in
    record {
      rest = step.0;
      stands = subst (λ (s : List ℕ). StandsBetween c.from_zone-walk.result.shape s (is.done ++ c.in-Some.run' ∷ []) step.0 c.next.new.self) c.bytes.ensures.value step.1.1;
      passing = subst (λ (rs : List Run). IsPassing (goes_back c.args.boot c.args.owners.now c.args.map.now.geometry) c.args.z c.args.map.now c.loop-run.map c.loop-run.chain rs c.loop-run.bits) step.1.0 is.passing;
    }

pub next-requires-clause-shape : goal.next-requires-clause-shape
next-requires-clause-shape c =
    let is = c.loop-run.invariant in
    shaped c.args.map.now c.loop-run.map c.args.z c.from_zone-walk.result.shape c.bytes.result.now is.passing.edit c.requires.zone is.shape c.bytes.ensures.value

pub goes_back-goes-requires : goal.goes_back-goes-requires
goes_back-goes-requires c =
    let o = onward c in
    let low : c.args.z < c.loop-run.map.geometry.zones = subst (λ (g : Geometry). c.args.z < g.zones) (sym o.passing.edit.geometry) c.requires.zone in
    record { run = in_zone c.loop-run.map c.args.z o.passing.front o.passing.links o.rest c.in-Some.run' o.passing.edit.map low o.passing.new }

pub past_holes-place-requires-clause-shape : goal.past_holes-place-requires-clause-shape
past_holes-place-requires-clause-shape c =
    let is = c.loop-run.invariant in
    shaped c.args.map.now c.loop-run.map c.args.z c.from_zone-walk.result.shape c.bytes-in-Some.result.now is.passing.edit c.requires.zone is.shape c.bytes-in-Some.ensures.value

pub past_holes-place-requires-clause-stands : goal.past_holes-place-requires-clause-stands
past_holes-place-requires-clause-stands c =
    let o = onward (goal.at.past_holes-place-requires-clause-stands c).In-Some in
    let done : List Run = c.loop-run.invariant.done ++ c.in-Some.run' ∷ [] in
    (done, o.rest, subst (λ (s : List ℕ). StandsBetween c.from_zone-walk.result.shape s done o.rest c.next.new.self) (sym c.bytes-in-Some.ensures.value) o.stands)

pub pass-chain-requires-clause-run : goal.pass-chain-requires-clause-run
pass-chain-requires-clause-run c =
    let o = onward (goal.at.pass-chain-requires-clause-run c).In-Some in
    follows (goes_back c.args.boot c.args.owners.now c.args.map.now.geometry) (goes_used c.args.boot c.args.owners.now c.args.map.now.geometry) c.args.z c.args.map.now c.loop-run.map c.loop-run.chain c.in-Some.run' o.rest c.loop-run.bits c.requires.zone o.passing

pub loop-run-preserved : goal.loop-run-preserved
loop-run-preserved c =
    let o = onward (goal.at.loop-run-preserved c).In-Some in
    let is = c.loop-run.invariant in
    let goes = goes_back c.args.boot c.args.owners.now c.args.map.now.geometry in
    let used = goes_used c.args.boot c.args.owners.now c.args.map.now.geometry in
    let shape_is = c.from_zone-walk.result.shape in
    let then = c.pass-chain.new.map in
    let edit = c.pass-chain.ensures.edit in
    let flag = c.goes_back-goes.result in
    let done : List Run = is.done ++ c.in-Some.run' ∷ [] in
    let left = left_after flag o.rest in
    let test : flag ≡ goes (c.args.z, c.in-Some.run') = c.goes_back-goes.ensures ∙ ap (λ (g : Geometry). goes_back c.args.boot c.args.owners.now g (c.args.z, c.in-Some.run')) is.passing.edit.geometry in
    let count : c.loop-run.bits + c.bits_of-bits.result ≡ c.loop-run.bits + cond flag c.in-Some.run'.len 0 = ap (λ (k : ℕ). c.loop-run.bits + k) c.bits_of-bits.ensures in
    let passing : IsPassing goes c.args.z c.args.map.now then c.pass-chain.result left (c.loop-run.bits + c.bits_of-bits.result) =
    subst (IsPassing goes c.args.z c.args.map.now then c.pass-chain.result left) (sym count)
    (passed_on goes used c.args.z c.args.map.now c.loop-run.map c.loop-run.chain c.in-Some.run' o.rest c.loop-run.bits c.requires.zone o.passing then edit flag c.pass-chain.result test
    c.pass-chain.ensures.runs c.pass-chain.ensures.stays c.pass-chain.ensures.same) in
    let stood : StandsBetween shape_is c.bytes-in-Some.result.now done o.rest c.next.new.self =
    subst (λ (s : List ℕ). StandsBetween shape_is s done o.rest c.next.new.self) (sym c.bytes-in-Some.ensures.value) o.stands in
    let past = c.past_holes-place.ensures.stands done o.rest stood in
    let front : List Run = passing.front ++ passing.links in
    let runs : runs_of then c.args.z ≡ front ++ left = passing.new ∙ sym (append_assoc passing.front passing.links left) in
    let low : c.args.z < then.geometry.zones = subst (λ (g : Geometry). c.args.z < g.zones) (sym (edit.geometry ∙ is.passing.edit.geometry)) c.requires.zone in
    let same : shape_is ≡ shape then.geometry c.args.z = is.shape ∙ ap (λ (g : Geometry). shape g c.args.z) (sym (edit.geometry ∙ is.passing.edit.geometry)) in
    let f = follows goes used c.args.z c.args.map.now c.loop-run.map c.loop-run.chain c.in-Some.run' o.rest c.loop-run.bits c.requires.zone o.passing in
    let lies = (in_zone c.loop-run.map c.args.z f.front f.links f.rest c.in-Some.run' is.passing.edit.map f.low f.runs).to in
    let ends : end_bit c.loop-run.map.geometry c.args.z ≡ end_bit c.args.map.now.geometry c.args.z = ap (λ (g : Geometry). end_bit g c.args.z) is.passing.edit.geometry in
    let most = at_most flag c.in-Some.run'.len in
    let place = c.in-Some.ensures.place in
    record {
      left = left;
      done = front;
      passing = passing;
      shape = is.shape;
      stands = stands_in_map then c.args.z shape_is c.bytes-in-Some.result.now past.0 front left c.past_holes-place.result edit.map low same past.1 runs;
      few = omega (arith, is.few, place.0, place.1, count, most, c.past_holes-place.ensures.past);
      short = omega (arith, is.few, place.0, place.1, count, most, lies, ends);
    }

-- none is left at the end
at_end : (c : goal.In_default) → IsPassing (goes_back c.args.boot c.args.owners.now c.args.map.now.geometry) c.args.z c.args.map.now c.loop-run.map c.loop-run.chain [] c.loop-run.bits
at_end c =
    let is = c.loop-run.invariant in
    let at : StandsBetween c.from_zone-walk.result.shape c.bytes.result.now is.done is.left c.loop-run.place =
    subst (λ (s : List ℕ). StandsBetween c.from_zone-walk.result.shape s is.done is.left c.loop-run.place) (sym c.bytes.ensures.value) is.stands in
    let none = (c.in_default.ensures.value is.done is.left at).0 in
    subst (λ (rs : List Run). IsPassing (goes_back c.args.boot c.args.owners.now c.args.map.now.geometry) c.args.z c.args.map.now c.loop-run.map c.loop-run.chain rs c.loop-run.bits) none is.passing

pub returns-clause-reclaimed : goal.returns-clause-reclaimed
returns-clause-reclaimed c = (passing_end (goes_back c.args.boot c.args.owners.now c.args.map.now.geometry) c.args.z c.args.map.now c.loop-run.map c.loop-run.chain c.loop-run.bits (at_end c)).0

pub returns-clause-bits : goal.returns-clause-bits
returns-clause-bits c = (passing_end (goes_back c.args.boot c.args.owners.now c.args.map.now.geometry) c.args.z c.args.map.now c.loop-run.map c.loop-run.chain c.loop-run.bits (at_end c)).1
