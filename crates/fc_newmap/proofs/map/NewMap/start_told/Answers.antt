use Rattle.std.proofs.Common.{◌≡◌, ◌∙◌, ℕ, Option, ap, subst, sym}
use Rattle.std.specs.Option.{IfSome}
use Rattle.fc_record.specs.declared.Geometry.{Geometry}
use Rattle.fc_newmap.specs.Tally.{IsFirstIn, start_at, zones_before}
use Rattle.fc_newmap.proofs.CountedLemmas.{told_start}
use Rattle.fc_newmap.proofs.map.NewMap.start_told.Goals as goal

pub returns : goal.returns
returns c =
    let m = c.args.self.now in
    let row = c.in_ok-row.row in
    let start : c.start_at.result ≡ start_at row (zones_before m.geometry c.args.id c.args.z) =
    c.start_at.ensures ∙ ap (start_at row) (c.zones_before-before.ensures.value ∙ ap (λ (g : Geometry). zones_before g c.args.id c.args.z) c.geometry.ensures.value) in
    subst (λ (o : Option ℕ). IfSome o (IsFirstIn m c.args.id c.args.z)) (sym start) (told_start m c.args.id c.args.z c.geometry.ensures.map c.requires row c.in_ok-row.ensures)
