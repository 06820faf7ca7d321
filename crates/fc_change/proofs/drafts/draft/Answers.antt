use Rattle.std.proofs.Common.{Option, ◌++◌, sym, subst}
use Rattle.fc_change.specs.declared.change.Regrowth.{Regrowth}
use Rattle.fc_change.specs.Directories.{CanTellAround, numbers}
use Rattle.fc_change.specs.Drafts.{told_first, told_last}
use Rattle.fc_change.specs.Held.{parts_of}
use Rattle.fc_change.proofs.DraftLemmas.{can_around, is_change}
use Rattle.fc_change.proofs.drafts.draft.Goals as goal

pub gather-requires-clause-can : goal.gather-requires-clause-can
gather-requires-clause-can c =
    let h = parts_of c.args.held.now in
    let job = c.args.job in
    let name = c.args.name.now in
    let own = c.requires.can.own.entry in
    can_around h job name c.address_in.result c.grown_in-grown.result c.in_ok-told.told own c.in_ok-told.ensures
    (subst (λ (g : Option Regrowth). CanTellAround h.nodes g (numbers (told_first job own ++ told_last h.nodes job name))) (sym c.grown_in-grown.ensures) c.requires.can.others)

pub returns : goal.returns
returns c =
    is_change (parts_of c.args.held.now) c.args.job c.args.name.now c.args.spaces.now c.in_ok-told.told c.in_ok-says.says c.address_in.result c.grown_in-grown.result c.address_in.ensures c.grown_in-grown.ensures
    c.in_ok-told.ensures c.in_ok-says.ensures
