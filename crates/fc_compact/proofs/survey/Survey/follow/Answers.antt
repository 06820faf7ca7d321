use Rattle.std.proofs.Common.{◌<◌, sym, subst, ◌∙◌}
use Rattle.std.specs.Prelude.{All}
use Rattle.fc_record.specs.declared.Geometry.{Geometry}
use Rattle.fc_compact.specs.Longest.{AreLongest}
use Rattle.fc_compact.proofs.SurveyLemmas.{candidates_now, few_now, lens_now, zones_low}
use Rattle.fc_compact.proofs.survey.Survey.follow.Goals as goal
use Rattle.fc_compact.proofs.survey.Survey.follow.Goals.{After-measure-2}

low : (c : After-measure-2) → c.args.zone < c.requires.joined.0.geometry.zones
low c = subst (λ (h : Geometry). c.args.zone < h.zones) c.requires.joined.1.geometry c.requires.zone

lens : (c : After-measure-2) → AreLongest c.args.map.now c.measure-2.new.lens
lens c =
    let m = c.requires.joined.0 in
    let has = c.requires.joined.1 in
    lens_now m c.args.map.now c.args.self.now c.args.id c.args.zone has (low c) c.deref.result.now c.measure.new.lens c.measure-2.new.lens (c.deref.ensures.0 ∙ c.zones_of.ensures m has.survey.candidates)
    (record { here = c.measure.ensures.here; others = c.measure.ensures.others }) (record { here = c.measure-2.ensures.here; others = c.measure-2.ensures.others })

pub measure-requires-clause-low : goal.measure-requires-clause-low
measure-requires-clause-low c =
    let m = c.requires.joined.0 in
    let has = c.requires.joined.1 in
    subst (λ (h : Geometry). All (λ z. z < h.zones) c.deref.result.now) (sym has.geometry) (zones_low m c.args.id c.deref.result.now (c.deref.ensures.0 ∙ c.zones_of.ensures m has.survey.candidates))

pub longest_hole-self-requires-clause-longest : goal.longest_hole-self-requires-clause-longest
longest_hole-self-requires-clause-longest c = lens (goal.at.longest_hole-self-requires-clause-longest c).After-measure-2

pub returns-clause-survey : goal.returns-clause-survey
returns-clause-survey c =
    let m = c.requires.joined.0 in
    let has = c.requires.joined.1 in
    let step = (goal.at.returns-clause-survey c).After-measure-2 in
    record {
      size = has.survey.size;
      few = few_now m c.args.map.now c.args.self.now c.args.id c.args.zone has (low step);
      candidates = candidates_now m c.args.map.now c.args.self.now c.args.id c.args.zone has (low step) c.set_zone.new.self c.set_zone.ensures.ids c.set_zone.ensures.size c.set_zone.ensures.here c.set_zone.ensures.others;
      lens_size = c.measure-2.ensures.size;
      lens = lens step;
      best = c.longest_hole-self.ensures;
    }
