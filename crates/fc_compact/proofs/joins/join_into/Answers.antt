use Rattle.std.proofs.Common.{◌≡◌, ◌<◌, ℕ, ◌+◌, true, false, List, ap, sym, subst, ◌∙◌, arith, Some}
use Rattle.std.specs.Prelude.{◌==◌, ◌||◌, All}
use Rattle.std.specs.List.Sorted.{IsStrictlyIncreasing}
use Rattle.std.proofs.lemmas.Result.{on_ok_weaker}
use Rattle.fc_record.specs.declared.Geometry.{Geometry}
use Rattle.fc_newmap.specs.Map.{first_sector, runs_of}
use Rattle.fc_newmap.specs.Walk.{IsInZone}
use Rattle.fc_newmap.proofs.ComposeLemmas.{edits_join, edits_then}
use Rattle.fc_device.proofs.DiskLaws.{form_then, laws}
use Rattle.fc_device.proofs.StopLemmas.{keeps_then, led}
use Rattle.fc_newmap.proofs.PassLemmas.{keeps_told}
use Rattle.fc_image.specs.effects.Moves.{with_holes_joined}
use Rattle.fc_image.specs.Layout.{Layout, hole_sectors, id_sectors, is_among}
use Rattle.fc_compact.specs.Joins.{ArePut, all_freed, changed_runs, has_run_in, is_listed}
use Rattle.fc_compact.specs.Slides.{hole_at}
use Rattle.fc_compact.proofs.JoinedLemmas.{Joins, front_in_hole, front_in_zone, front_on_disc, hole_after, hole_listed, joined_freed, joined_leads, joined_one, joined_others, joined_preserves, joined_ready, joined_taken}
use Rattle.fc_compact.proofs.GoneLemmas.{cause_then, kept}
use Rattle.fc_compact.proofs.KeptLemmas.{can_write, committed_geometry}
use Rattle.fc_compact.proofs.ListedLemmas.{unlisted}
use Rattle.fc_compact.proofs.PreservesLemmas.{preserves_then}
use Rattle.fc_compact.proofs.joins.join_into.Given.{Over}
use Rattle.fc_compact.proofs.joins.join_into.Goals as goal
use Rattle.fc_compact.proofs.joins.join_into.Goals.{After-commit}

listed : (g : Over) (c : After-commit g) → (y : ℕ) → y < c.args.map.now.geometry.zones → is_listed c.as_slice-zones.result.now y ≡ ((y == c.args.join.zone) || has_run_in c.args.map.now c.args.join.id y)
listed g c y low = ap (λ (xs : List ℕ). is_listed xs y) c.as_slice-zones.ensures.value ∙ c.requires.zones.listed y low

joins : (g : Over) (c : After-commit g)
    → Joins c.args.map.now c.release_all.new.map c.take_front.new.map c.join_holes.new.map c.commit.new.map c.args.join.id c.args.join.zone c.args.join.start c.args.join.len c.args.join.left c.as_slice-zones.result.now
joins g c = record {
  released = c.release_all.ensures.edits;
  runs_n = c.release_all.ensures.runs;
  edit = c.take_front.ensures.edit;
  taken = c.take_front.ensures.runs;
  touching = c.join_holes.ensures.edits;
  runs_p = c.join_holes.ensures.runs;
  runs = c.commit.ensures.runs;
  contents = c.commit.ensures.contents;
}

pub extent_of-to-requires-clause-run : goal.extent_of-to-requires-clause-run
extent_of-to-requires-clause-run g c =
    let a = c.args in
    let m = a.map.now in
    let is = c.geometry.ensures.map in
    let geo = c.geometry.ensures.value in
    let req = c.requires in
    subst (λ (h : Geometry). IsInZone h (a.join.zone, hole_at a.join.start a.join.len)) (sym geo) (front_in_zone m is a.join.zone req.join.zone a.join.start a.join.len a.join.left req.join.hole)

pub copy_runs-requires-clause-to_on_disc : goal.copy_runs-requires-clause-to_on_disc
copy_runs-requires-clause-to_on_disc g c =
    let a = c.args in
    let m = a.map.now in
    let is = c.geometry.ensures.map in
    let geo = c.geometry.ensures.value in
    let req = c.requires in
    let to_is : c.extent_of-to.result.first ≡ first_sector m.geometry (a.join.zone, hole_at a.join.start (a.join.len + a.join.left)) = ap (λ e. e.first) c.extent_of-to.ensures ∙ ap (λ (h : Geometry). first_sector h (a.join.zone, hole_at a.join.start a.join.len)) geo in
    omega (arith, to_is, front_on_disc m is a.join.zone req.join.zone a.join.start a.join.len a.join.left req.join.hole a.join.id req.join.enough)

pub copy_runs-requires-clause-hole : goal.copy_runs-requires-clause-hole
copy_runs-requires-clause-hole g c =
    let a = c.args in
    let m = a.map.now in
    let is = c.geometry.ensures.map in
    let geo = c.geometry.ensures.value in
    let req = c.requires in
    let to_is : c.extent_of-to.result.first ≡ first_sector m.geometry (a.join.zone, hole_at a.join.start (a.join.len + a.join.left)) = ap (λ e. e.first) c.extent_of-to.ensures ∙ ap (λ (h : Geometry). first_sector h (a.join.zone, hole_at a.join.start a.join.len)) geo in
    λ i lt. subst (λ (x : ℕ). is_among (hole_sectors (Layout.New m)) (x + i) ≡ true) (sym to_is) (front_in_hole m is a.join.zone req.join.zone a.join.start a.join.len a.join.left req.join.hole a.join.id req.join.enough i lt)

pub release_all-requires-clause-rising : goal.release_all-requires-clause-rising
release_all-requires-clause-rising g c = subst (λ (xs : List ℕ). IsStrictlyIncreasing xs) (sym c.as_slice-zones.ensures.value) c.requires.zones.rising

pub release_all-requires-clause-zones : goal.release_all-requires-clause-zones
release_all-requires-clause-zones g c = subst (λ (xs : List ℕ). All (λ y. y < c.args.map.now.geometry.zones) xs) (sym c.as_slice-zones.ensures.value) c.requires.zones.low

pub take_front-requires-clause-zone : goal.take_front-requires-clause-zone
take_front-requires-clause-zone g c = subst (λ (h : Geometry). c.args.join.zone < h.zones) (sym c.release_all.ensures.edits.edits.geometry) c.requires.join.zone

pub take_front-requires-clause-hole : goal.take_front-requires-clause-hole
take_front-requires-clause-hole g c =
    let a = c.args in
    let m = a.map.now in
    let req = c.requires in
    let n = c.release_all.new.map in
    let changed = a.changed.now.items in
    let listed_is = c.as_slice-zones.ensures.value in
    let listed = ap (λ (xs : List ℕ). is_listed xs a.join.zone) listed_is ∙ hole_listed changed a.join.zone (has_run_in m a.join.id a.join.zone) (req.zones.listed a.join.zone req.join.zone) in
    (_, _, hole_after m n a.join.id a.join.zone a.join.start (a.join.len + a.join.left) c.as_slice-zones.result.now c.release_all.ensures.runs listed req.join.hole)

pub join_holes-requires-clause-rising : goal.join_holes-requires-clause-rising
join_holes-requires-clause-rising g c = subst (λ (xs : List ℕ). IsStrictlyIncreasing xs) (sym c.as_slice-zones.ensures.value) c.requires.zones.rising

pub join_holes-requires-clause-zones : goal.join_holes-requires-clause-zones
join_holes-requires-clause-zones g c =
    subst (λ (h : Geometry). All (λ y. y < h.zones) c.as_slice-zones.result.now) (sym (c.take_front.ensures.edit.geometry ∙ c.release_all.ensures.edits.edits.geometry))
    (subst (λ (xs : List ℕ). All (λ y. y < c.args.map.now.geometry.zones) xs) (sym c.as_slice-zones.ensures.value) c.requires.zones.low)

pub commit-requires-clause-zones : goal.commit-requires-clause-zones
commit-requires-clause-zones g c =
    subst (λ (h : Geometry). All (λ y. y < h.zones) c.args.changed.now.items)
    (sym (c.join_holes.ensures.edits.edits.geometry ∙ c.take_front.ensures.edit.geometry ∙ c.release_all.ensures.edits.edits.geometry)) c.requires.zones.low

pub commit-requires-clause-ready : goal.commit-requires-clause-ready
commit-requires-clause-ready g c = λ image told.
    let a = c.args in
    let m = a.map.now in
    let req = c.requires in
    let n = c.release_all.new.map in
    let changed = a.changed.now.items in
    let listed_is = c.as_slice-zones.ensures.value in
    let o = c.take_front.new.map in
    let p = c.join_holes.new.map in
    let edits = edits_join m o p (edits_then m n o a.join.zone c.release_all.ensures.edits.edits c.take_front.ensures.edit) c.join_holes.ensures.edits.edits in
    can_write m p edits changed image (c.copy_runs.ensures.still_ready image told).copies
    (λ y low out.
    let absent : is_listed changed y ≡ false = unlisted changed y out in
    let away : is_listed c.as_slice-zones.result.now y ≡ false = ap (λ (xs : List ℕ). is_listed xs y) listed_is ∙ absent in
    c.join_holes.ensures.edits.others y away
    ∙ c.take_front.ensures.edit.others y (λ here. (let t = hole_listed changed a.join.zone (has_run_in m a.join.id a.join.zone) (req.zones.listed a.join.zone req.join.zone) in let u = ap (is_listed changed) here ∙ t in cc))
    ∙ c.release_all.ensures.edits.others y away)

pub returns-clause-keeps : goal.returns-clause-keeps
returns-clause-keeps g c =
    let a = c.args in
    let m = a.map.now in
    let req = c.requires in
    let n = c.release_all.new.map in
    let o = c.take_front.new.map in
    let p = c.join_holes.new.map in
    let last = c.commit.new.map in
    let zones = c.as_slice-zones.result.now in
    let is = c.geometry.ensures.map in
    let at = (goal.at.returns-clause-keeps g c).After-commit in
    let geo = c.geometry.ensures.value in
    let to_is : c.extent_of-to.result.first ≡ first_sector m.geometry (a.join.zone, hole_at a.join.start (a.join.len + a.join.left)) = ap (λ e. e.first) c.extent_of-to.ensures ∙ ap (λ (h : Geometry). first_sector h (a.join.zone, hole_at a.join.start a.join.len)) geo in
    let put : (was : List ℕ) → g.D.Disk.bytes c.copy_runs.new.disk ≡ Some was → ArePut m.geometry.sector (first_sector m.geometry (a.join.zone, hole_at a.join.start (a.join.len + a.join.left))) (id_sectors m a.join.id) was =
    λ was told. subst (λ (x : ℕ). ArePut m.geometry.sector x (id_sectors m a.join.id) was) to_is (c.in_ok-copy_runs.ensures.put was told) in
    let law = laws g.met.D.Disk in
    let ok = c.in_ok-copy_runs.ensures in
    let edits = edits_join m o p (edits_then m n o a.join.zone c.release_all.ensures.edits.edits c.take_front.ensures.edit) c.join_holes.ensures.edits.edits in
    kept a.owners.now a.disk.now c.commit.new.disk m last req.stands c.commit.result
    (keeps_then law (preserves_then c.laws.ensures m a.owners.now) ok.keeps.leaves
    (keeps_told law c.commit.ensures.keeps
    (λ was image told left. joined_preserves c.laws.ensures m n o p last a.owners.now is a.join.id a.join.zone a.join.start a.join.len a.join.left zones req.join.zone (joins g at) req.join.hole (listed g at) was (ok.still_ready was told) req.join.movable req.join.enough (put was told) image left)))
    (on_ok_weaker c.commit.result
    (λ ends image is_now.
    let before = led law c.commit.ensures.keeps image is_now in
    joined_ready c.laws.ensures m n o p last a.owners.now is a.join.id a.join.zone a.join.start a.join.len a.join.left zones req.join.zone (joins g at) req.join.hole (listed g at) before.0 (ok.still_ready before.0 before.1) req.join.movable req.join.enough (put before.0 before.1) image (ends before.0 before.1 image is_now))
    c.commit.ensures.ends)
    c.commit.ensures.durable (committed_geometry m p last edits c.commit.ensures.runs c.commit.ensures.contents) (form_then g.D.Disk ok.keeps.form c.commit.ensures.form)
    (cause_then g.D.Disk a.disk.now c.copy_runs.new.disk c.commit.new.disk c.commit.result ok.keeps.cause.later c.commit.ensures.cause)

pub returns-clause-one : goal.returns-clause-one
returns-clause-one g c =
    let j = c.args.join in
    let at = (goal.at.returns-clause-one g c).After-commit in
    on_ok_weaker c.commit.result (λ done. joined_one c.laws.ensures c.args.map.now c.release_all.new.map c.take_front.new.map c.join_holes.new.map c.commit.new.map c.args.owners.now c.geometry.ensures.map j.id j.zone j.start j.len j.left c.as_slice-zones.result.now c.requires.join.zone (joins g at) c.requires.join.hole (listed g at)) c.commit.ensures.durable

pub returns-clause-others : goal.returns-clause-others
returns-clause-others g c =
    let j = c.args.join in
    let at = (goal.at.returns-clause-others g c).After-commit in
    on_ok_weaker c.commit.result (λ done k other. joined_others c.laws.ensures c.args.map.now c.release_all.new.map c.take_front.new.map c.join_holes.new.map c.commit.new.map c.args.owners.now c.geometry.ensures.map j.id j.zone j.start j.len j.left c.as_slice-zones.result.now c.requires.join.zone (joins g at) c.requires.join.hole (listed g at) k other) c.commit.ensures.durable

pub returns-clause-leads : goal.returns-clause-leads
returns-clause-leads g c =
    let j = c.args.join in
    let at = (goal.at.returns-clause-leads g c).After-commit in
    on_ok_weaker c.commit.result (λ done. joined_leads c.laws.ensures c.args.map.now c.release_all.new.map c.take_front.new.map c.join_holes.new.map c.commit.new.map c.args.owners.now c.geometry.ensures.map j.id j.zone j.start j.len j.left c.as_slice-zones.result.now c.requires.join.zone (joins g at) c.requires.join.hole (listed g at) c.requires.join.movable) c.commit.ensures.durable

pub returns-clause-taken : goal.returns-clause-taken
returns-clause-taken g c =
    let j = c.args.join in
    let at = (goal.at.returns-clause-taken g c).After-commit in
    on_ok_weaker c.commit.result (λ done front rest was. joined_taken c.laws.ensures c.args.map.now c.release_all.new.map c.take_front.new.map c.join_holes.new.map c.commit.new.map c.args.owners.now c.geometry.ensures.map j.id j.zone j.start j.len j.left c.as_slice-zones.result.now c.requires.join.zone (joins g at) c.requires.join.hole (listed g at) front rest was) c.commit.ensures.durable

pub returns-clause-freed : goal.returns-clause-freed
returns-clause-freed g c =
    let j = c.args.join in
    let at = (goal.at.returns-clause-freed g c).After-commit in
    on_ok_weaker c.commit.result (λ done y other. subst (λ (xs : List ℕ). runs_of c.commit.new.map y ≡ changed_runs (λ runs. with_holes_joined (all_freed j.id runs)) xs y (runs_of c.args.map.now y)) c.as_slice-zones.ensures.value
    (joined_freed c.laws.ensures c.args.map.now c.release_all.new.map c.take_front.new.map c.join_holes.new.map c.commit.new.map c.args.owners.now c.geometry.ensures.map j.id j.zone j.start j.len j.left c.as_slice-zones.result.now c.requires.join.zone (joins g at) c.requires.join.hole (listed g at) y other)) c.commit.ensures.durable
