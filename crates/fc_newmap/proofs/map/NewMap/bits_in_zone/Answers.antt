use Rattle.std.proofs.Common.{◌≡◌, ◌≤◌, ◌∙◌, ℕ, ap, subst, sym}
use Rattle.fc_record.specs.declared.Geometry.{Geometry}
use Rattle.fc_newmap.specs.Map.{bits_in}
use Rattle.fc_newmap.specs.Tally.{bits_at, id_runs_in, zones_before}
use Rattle.fc_newmap.proofs.CountedLemmas.{bits_high_in}
use Rattle.fc_newmap.proofs.map.NewMap.bits_in_zone.Goals as goal

pub returns : goal.returns
returns c =
    let m = c.args.self.now in
    let row = c.in_ok-row.row in
    let bits : c.bits_at.result ≡ bits_at row (zones_before m.geometry c.args.id c.args.z) =
    c.bits_at.ensures ∙ ap (bits_at row) (c.zones_before-before.ensures.value ∙ ap (λ (g : Geometry). zones_before g c.args.id c.args.z) c.geometry.ensures.value) in
    subst (λ (n : ℕ). bits_in (id_runs_in m c.args.id c.args.z) ≤ n) (sym bits) (bits_high_in m c.args.id row c.geometry.ensures.map c.in_ok-row.ensures c.args.z c.requires)
