use Rattle.std.proofs.Common.{Option, Some, refl, sym, subst}
use Rattle.std.specs.Prelude.{Vec}
use Rattle.std.specs.declared.alloc.Global.{Global}
use Rattle.fc_device.specs.declared.disk.Extent.{Extent}
use Rattle.fc_writing.specs.declared.ready.Source.TheVariants as sources
use Rattle.fc_writing.specs.declared.ready.Transfer.{Transfer}
use Rattle.fc_change.specs.declared.spaces.Place.{Place}
use Rattle.fc_change.specs.Prepared.{IsSourceOf}
use Rattle.fc_change.proofs.pieces.source_of.Goals as goal

pub returns-in_default-Some : goal.returns-in_default-Some
returns-in_default-Some c =
    let t : Transfer = record { from = c.in_default-Some.from; to = c.in-Some.place.extents } in
    subst (λ (o : Option Place). IsSourceOf c.args.object.now o c.args.copied (sources.Sectors t)) (sym c.in-Some.is)
    (subst (λ (o : Option (Vec Extent Global)). IsSourceOf c.args.object.now (Some c.in-Some.place) o (sources.Sectors t)) (sym c.in_default-Some.is-1) (t, refl, refl, refl))
