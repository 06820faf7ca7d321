use Rattle.std.proofs.Common.{◌<◌, Bool, false, subst, sym}
use Rattle.fc_record.specs.declared.Geometry.{Geometry}
use Rattle.fc_newmap.specs.Map.{Map}
use Rattle.fc_compact.specs.Rounds.{Gathers, HasDrawn}
use Rattle.fc_compact.proofs.CarryLemmas.{carrying_same}
use Rattle.fc_compact.proofs.DrawnLemmas.{drawn_none, drawn_sectors, drawn_zone}
use Rattle.fc_compact.proofs.rounds.gather_zone.Goals as goal

pub returns-then-quiet-z-clause-drawn : goal.returns-then-quiet-z-clause-drawn
returns-then-quiet-z-clause-drawn g c = drawn_none c.args.owners.now c.args.map.now c.args.z c.is_map.ensures

pub returns-then-not-any-clause-drawn : goal.returns-then-not-any-clause-drawn
returns-then-not-any-clause-drawn g c =
    let m = c.args.map.now in
    let owners = c.args.owners.now in
    subst (λ (n : Map). HasDrawn owners m n c.args.z false) (sym (c.in_ok-any.ensures.gathers.same c.if-not-any.true)) (drawn_none owners m c.args.z c.is_map.ensures)

pub join_holes_in-requires : goal.join_holes_in-requires
join_holes_in-requires g c = record { zone = subst (λ (h : Geometry). c.args.z < h.zones) (sym c.in_ok-any.ensures.gathers.edit.geometry) c.requires.zone }

pub returns-clause-carrying : goal.returns-clause-carrying
returns-clause-carrying g c = λ n spares first image told.
    let m = c.args.map.now in
    let owners = c.args.owners.now in
    let gathers = subst (λ (b : Bool). Gathers owners m c.gather_runs.new.map c.args.z b) c.if-not-any.false c.in_ok-any.ensures.gathers in
    let ok = c.join_holes_in.ensures in
    carrying_same n c.gather_runs.new.map c.join_holes_in.new.map owners image
    (drawn_sectors c.laws.ensures m c.gather_runs.new.map c.join_holes_in.new.map owners c.args.z c.requires.zone gathers ok.edit ok.runs) (c.in_ok-any.ensures.carrying n spares first image told)

pub returns-clause-drawn : goal.returns-clause-drawn
returns-clause-drawn g c =
    let m = c.args.map.now in
    let owners = c.args.owners.now in
    let gathers = subst (λ (b : Bool). Gathers owners m c.gather_runs.new.map c.args.z b) c.if-not-any.false c.in_ok-any.ensures.gathers in
    let ok = c.join_holes_in.ensures in
    drawn_zone c.laws.ensures m c.gather_runs.new.map c.join_holes_in.new.map owners c.args.z c.requires.zone gathers ok.edit ok.runs
