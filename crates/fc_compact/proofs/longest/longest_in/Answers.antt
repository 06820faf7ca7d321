use Rattle.std.proofs.Common.{List, max, refl, sym, ap, ◌∙◌, arith}
use Rattle.std.specs.List.{fold}
use Rattle.fc_newmap.specs.Map.{ZoneRun, runs_of}
use Rattle.fc_newmap.specs.RunsLaw.{placed}
use Rattle.fc_newmap.specs.Walk.{holes_in}
use Rattle.fc_newmap.proofs.ExtentLemmas.{longest_more}
use Rattle.fc_newmap.proofs.HeldLemmas.{end_within, geometry_facts, sector_high}
use Rattle.fc_compact.specs.Longest.{longest_in}
use Rattle.fc_compact.proofs.longest.longest_in.Goals as goal

pub loop-hole-init : goal.loop-hole-init
loop-hole-init c = record { stands = (placed c.args.z (runs_of c.args.map.now c.args.z), (c.walk_in-walk.ensures, refl)); short = omega arith }

pub loop-hole-preserved : goal.loop-hole-preserved
loop-hole-preserved c =
    let m = c.args.map.now in
    let before = c.loop-hole.invariant.stands in
    let r = c.in-Some.ensures.value before.0 before.1.0 in
    let most = longest_more (c.in-Some.field-0-0, c.in-Some.hole) (holes_in r.0) c.loop-hole.most c.max-most.result (longest_in m c.args.z) (holes_in before.0) r.1.0 (omega (arith, c.max-most.ensures)) before.1.1 in
    let within = c.in-Some.ensures.within in
    let end = end_within m.geometry c.in-Some.field-0-0 c.is_map.ensures.of_record within.zone in
    let size = sector_high m.geometry (geometry_facts m.geometry c.is_map.ensures.of_record) in
    record {
      stands = (r.0, (r.1.1, most));
      short = omega (arith, within.to, end, size, c.max-most.ensures, c.loop-hole.invariant.short);
    }

pub returns : goal.returns
returns c =
    let before = c.loop-hole.invariant.stands in
    let r = c.in_default.ensures.value before.0 before.1.0 in
    ap (λ (ps : List ZoneRun). fold (λ n (p : ZoneRun). max n p.1.len) c.loop-hole.most ps) (sym r.0) ∙ before.1.1
