use Rattle.std.proofs.Common.{◌≡◌, ◌<◌, true, false, refl, sym, subst, ◌∙◌, arith}
use Rattle.std.specs.Prelude.{nat_le, nat_lt, length}
use Rattle.fc_record.specs.declared.Geometry.{Geometry}
use Rattle.std.proofs.lemmas.Bool.{eqb-true, leb-true, lt-leb, ltb-true, and_parts as both_true}
use Rattle.fc_device.proofs.DiskLaws.{laws}
use Rattle.fc_newmap.specs.Map.{bits_in, id_runs}
use Rattle.fc_compact.specs.Ready.{is_movable_by}
use Rattle.fc_compact.specs.Longest.{IsLongest}
use Rattle.fc_image.specs.effects.Settled.{zones_with}
use Rattle.fc_compact.proofs.GoneLemmas.{kept_err, kept_ok, kept_start}
use Rattle.fc_compact.proofs.PassLemmas.{longest_of, no_hole, no_room, one_run, too_many, tries_joined, tries_none}
use Rattle.fc_compact.proofs.HoldLemmas.{hole_low}
use Rattle.fc_compact.proofs.CandidatesLemmas.{not_full}
use Rattle.fc_compact.proofs.SurveyLemmas.{few_are_all, holds_all, many_are_more}
use Rattle.fc_compact.proofs.compaction.join_one.Goals as goal

pub returns-then-not-may_have_several-clause-keeps : goal.returns-then-not-may_have_several-clause-keeps
returns-then-not-may_have_several-clause-keeps g c = kept_start (laws g.met.D.Disk) c.laws.ensures c.args.owners.now c.args.disk.now c.args.map.now _ c.requires.stands

pub returns-then-not-may_have_several-clause-tries : goal.returns-then-not-may_have_several-clause-tries
returns-then-not-may_have_several-clause-tries g c = tries_none c.args.owners.now c.args.map.now c.is_map.ensures c.args.id (λ may. one_run c.args.map.now c.is_map.ensures c.args.id (c.requires.survey.few c.args.id (c.may_have_several.ensures.few c.if-not-may_have_several.true)))

pub returns-then-not-is_movable-clause-keeps : goal.returns-then-not-is_movable-clause-keeps
returns-then-not-is_movable-clause-keeps g c = kept_start (laws g.met.D.Disk) c.laws.ensures c.args.owners.now c.args.disk.now c.args.map.now _ c.requires.stands

pub returns-in_default-clause-keeps : goal.returns-in_default-clause-keeps
returns-in_default-clause-keeps g c = kept_start (laws g.met.D.Disk) c.laws.ensures c.args.owners.now c.args.disk.now c.args.map.now _ c.requires.stands

pub returns-then-not-has_several-clause-keeps : goal.returns-then-not-has_several-clause-keeps
returns-then-not-has_several-clause-keeps g c = kept_start (laws g.met.D.Disk) c.laws.ensures c.args.owners.now c.args.disk.now c.args.map.now _ c.requires.stands

pub returns-then-is_full-clause-keeps : goal.returns-then-is_full-clause-keeps
returns-then-is_full-clause-keeps g c = kept_start (laws g.met.D.Disk) c.laws.ensures c.args.owners.now c.args.disk.now c.args.map.now _ c.requires.stands

pub returns-then-not-is_movable-clause-tries : goal.returns-then-not-is_movable-clause-tries
returns-then-not-is_movable-clause-tries g c =
    let stuck : is_movable_by c.args.owners.now c.args.id ≡ false = sym c.is_movable.ensures ∙ c.if-not-is_movable.true in
    tries_none c.args.owners.now c.args.map.now c.is_map.ensures c.args.id (λ may. absurd (let e : true ≡ false = sym may ∙ stuck in cc))

pub returns-in_default-clause-tries : goal.returns-in_default-clause-tries
returns-in_default-clause-tries g c = tries_none c.args.owners.now c.args.map.now c.is_map.ensures c.args.id (λ may. no_hole c.args.map.now c.is_map.ensures c.args.id (subst (IsLongest c.args.map.now) c.in_default.is c.requires.survey.best))

pub returns-then-not-has_several-clause-tries : goal.returns-then-not-has_several-clause-tries
returns-then-not-has_several-clause-tries g c =
    tries_none c.args.owners.now c.args.map.now c.is_map.ensures c.args.id (λ may. no_room c.args.map.now c.is_map.ensures c.args.id c.in-Some.hole.len (longest_of c.args.map.now c.args.survey.now.best (c.in-Some.zone, c.in-Some.hole) c.in-Some.is c.requires.survey.best).1 (sym c.has_several.ensures ∙ c.if-not-has_several.true))

pub returns-then-is_full-clause-tries : goal.returns-then-is_full-clause-tries
returns-then-is_full-clause-tries g c =
    let m = c.args.map.now in
    let id = c.args.id in
    let zones = c.zones_of-zones.result.now.items in
    let first = c.zones_of-zones.ensures m c.requires.survey.candidates in
    let full : length zones ≡ 9 = eqb-true (length zones) 9 (sym c.is_full.ensures.value ∙ c.if-is_full.true) in
    let many = many_are_more zones (zones_with m id) first full in
    tries_none c.args.owners.now m c.is_map.ensures id (λ may. too_many m c.is_map.ensures id (lt-leb (length (zones_with m id)) 8 (omega (arith, many))))

pub returns-in_err-join_listed-clause-keeps : goal.returns-in_err-join_listed-clause-keeps
returns-in_err-join_listed-clause-keeps g c = kept_err c.args.owners.now c.args.disk.now c.join_listed.new.disk c.args.map.now c.join_listed.new.map _ c.from_residual.result c.from_residual.ensures.0 c.in_err-join_listed.ensures.keeps

pub returns-clause-keeps : goal.returns-clause-keeps
returns-clause-keeps g c = kept_ok c.args.owners.now c.args.disk.now c.join_listed.new.disk c.args.map.now c.join_listed.new.map _ _ c.in_ok-join_listed.ensures.keeps

pub returns-clause-tries : goal.returns-clause-tries
returns-clause-tries g c =
    let m = c.args.map.now in
    let id = c.args.id in
    let both = both_true (nat_lt 1 (length (id_runs m id))) (nat_le (bits_in (id_runs m id)) c.in-Some.hole.len) (sym c.has_several.ensures ∙ c.if-not-has_several.false) in
    tries_joined c.args.owners.now m c.join_listed.new.map id c.in-Some.zone c.in-Some.hole c.in_ok-join_listed.ensures.leads (ltb-true 1 (length (id_runs m id)) both.0) (leb-true (bits_in (id_runs m id)) c.in-Some.hole.len both.1)
    (c.in_ok-join_listed.ensures.one c.in-Some.hole (longest_of m c.args.survey.now.best (c.in-Some.zone, c.in-Some.hole) c.in-Some.is c.requires.survey.best).0 refl) c.in_ok-join_listed.ensures.others (sym c.is_movable.ensures ∙ c.if-not-is_movable.false)

pub join_listed-requires-clause-runs : goal.join_listed-requires-clause-runs
join_listed-requires-clause-runs g c =
    let m = c.args.map.now in
    let id = c.args.id in
    let both = both_true (nat_lt 1 (length (id_runs m id))) (nat_le (bits_in (id_runs m id)) c.in-Some.hole.len) (sym c.has_several.ensures ∙ c.if-not-has_several.false) in
    let several = ltb-true 1 (length (id_runs m id)) both.0 in
    record {
      movable = sym c.is_movable.ensures ∙ c.if-not-is_movable.false;
      some = omega (arith, several);
      few = (few_are_all c.zones_of-zones.result.now.items (zones_with m id) (c.zones_of-zones.ensures m c.requires.survey.candidates) (not_full c.zones_of-zones.result.now.items _ c.is_full.ensures.value c.if-is_full.false c.is_full.ensures.fits)).1;
      hole = c.in-Some.hole;
      there = (longest_of m c.args.survey.now.best (c.in-Some.zone, c.in-Some.hole) c.in-Some.is c.requires.survey.best).0;
      named = refl;
      room = leb-true (bits_in (id_runs m id)) c.in-Some.hole.len both.1;
    }

pub zones_of-zones-requires : goal.zones_of-zones-requires
zones_of-zones-requires g c = record {
  rises = c.requires.survey.candidates.rises;
  size = c.requires.survey.candidates.size;
  there = c.requires.taken (c.may_have_several.ensures.several c.if-not-may_have_several.false);
}

pub has_several-requires : goal.has_several-requires
has_several-requires g c =
    let m = c.args.map.now in
    holds_all m c.is_map.ensures c.args.id c.zones_of-zones.result.now.items
    (few_are_all c.zones_of-zones.result.now.items (zones_with m c.args.id) (c.zones_of-zones.ensures m c.requires.survey.candidates) (not_full c.zones_of-zones.result.now.items _ c.is_full.ensures.value c.if-is_full.false c.is_full.ensures.fits)).0

pub join_listed-requires-clause-zones : goal.join_listed-requires-clause-zones
join_listed-requires-clause-zones g c =
    let m = c.args.map.now in
    (few_are_all c.zones_of-zones.result.now.items (zones_with m c.args.id) (c.zones_of-zones.ensures m c.requires.survey.candidates) (not_full c.zones_of-zones.result.now.items _ c.is_full.ensures.value c.if-is_full.false c.is_full.ensures.fits)).0

pub follow-requires-clause-zone : goal.follow-requires-clause-zone
follow-requires-clause-zone g c =
    let m = c.args.map.now in
    let p = longest_of m c.args.survey.now.best (c.in-Some.zone, c.in-Some.hole) c.in-Some.is c.requires.survey.best in
    subst (λ (h : Geometry). c.in-Some.zone < h.zones) (sym c.in_ok-join_listed.ensures.leads.geometry) (hole_low m c.is_map.ensures c.in-Some.zone c.in-Some.hole p.0)

pub follow-requires-clause-joined : goal.follow-requires-clause-joined
follow-requires-clause-joined g c =
    let m = c.args.map.now in
    let p = longest_of m c.args.survey.now.best (c.in-Some.zone, c.in-Some.hole) c.in-Some.is c.requires.survey.best in (
      m,
      record {
        map = c.is_map.ensures;
        survey = c.requires.survey;
        geometry = c.in_ok-join_listed.ensures.leads.geometry;
        few = (few_are_all c.zones_of-zones.result.now.items (zones_with m c.args.id) (c.zones_of-zones.ensures m c.requires.survey.candidates) (not_full c.zones_of-zones.result.now.items _ c.is_full.ensures.value c.if-is_full.false c.is_full.ensures.fits)).1;
        hole = c.in-Some.hole;
        joined = c.in_ok-join_listed.ensures.joined c.in-Some.hole p.0 refl;
      },
    )

pub follow-requires-clause-there : goal.follow-requires-clause-there
follow-requires-clause-there g c = c.requires.taken (c.may_have_several.ensures.several c.if-not-may_have_several.false)
