use Rattle.std.proofs.Common.{◌≡◌, ℕ, ◌+◌, ◌/◌, refl, ap, sym, subst, ◌∙◌, arith}
use Rattle.std.proofs.Math.Nat.{div-le_self}
use Rattle.std.specs.Prelude.{slice_get, is_some, Some, Option, true}
use Rattle.fc_image.specs.Layout.{id_of, id_sectors}
use Rattle.fc_space.specs.Space.{layout_of}
use Rattle.fc_space.proofs.NthLemmas.{new_is, old_few, old_is, same_sector}
use Rattle.fc_space.proofs.space.Space.sector_of.Goals as goal

pub overflow_add-result : goal.overflow_add-result
overflow_add-result c =
    let few = old_few (layout_of c.args.self.now) c.in-OldMapped.map c.args.address c.args.bytes c.args.n c.sector_units.result (ap layout_of c.in-OldMapped.is) c.sector_units.ensures.value c.sector_units.ensures.units (omega arith) c.requires in
    let low = div-le_self c.args.address c.sector_units.result in
    omega (arith, few, low, c.from.ensures)

pub returns-in-OldMapped-clause-sector : goal.returns-in-OldMapped-clause-sector
returns-in-OldMapped-clause-sector c =
    (old_is (layout_of c.args.self.now) c.in-OldMapped.map c.args.address c.args.bytes c.args.n c.from.result (ap layout_of c.in-OldMapped.is)
    (c.from.ensures ∙ ap (λ n. c.args.address / n) c.sector_units.ensures.value) c.requires).0

pub returns-in-OldMapped-clause-on_disc : goal.returns-in-OldMapped-clause-on_disc
returns-in-OldMapped-clause-on_disc c =
    (old_is (layout_of c.args.self.now) c.in-OldMapped.map c.args.address c.args.bytes c.args.n c.from.result (ap layout_of c.in-OldMapped.is)
    (c.from.ensures ∙ ap (λ n. c.args.address / n) c.sector_units.ensures.value) c.requires).1

pub overflow_add-skip : goal.overflow_add-skip
overflow_add-skip c =
    let is = new_is (layout_of c.args.self.now) c.in-NewMapped.map c.args.address c.args.bytes c.args.n (ap layout_of c.in-NewMapped.is) c.low_start-skip.ensures.map (omega arith) c.requires in
    omega (arith, is.few, c.low_start-skip.ensures.few)

pub unwrap-requires : goal.unwrap-requires
unwrap-requires c =
    let is = new_is (layout_of c.args.self.now) c.in-NewMapped.map c.args.address c.args.bytes c.args.n (ap layout_of c.in-NewMapped.is) c.low_start-skip.ensures.map (omega arith) c.requires in
    subst (λ (o : Option ℕ). is_some o ≡ true) (sym (c.sector_of_id.ensures ∙ ap (λ k. slice_get (id_sectors c.in-NewMapped.map (id_of c.args.address)) (k + c.args.n)) c.low_start-skip.ensures.value ∙ is.at)) refl

pub returns-in-NewMapped-clause-sector : goal.returns-in-NewMapped-clause-sector
returns-in-NewMapped-clause-sector c =
    let is = new_is (layout_of c.args.self.now) c.in-NewMapped.map c.args.address c.args.bytes c.args.n (ap layout_of c.in-NewMapped.is) c.low_start-skip.ensures.map (omega arith) c.requires in
    let same = same_sector c.sector_of_id.result is.sector c.unwrap.result
    (c.sector_of_id.ensures ∙ ap (λ k. slice_get (id_sectors c.in-NewMapped.map (id_of c.args.address)) (k + c.args.n)) c.low_start-skip.ensures.value ∙ is.at) c.unwrap.ensures in
    is.is ∙ ap (λ (x : ℕ). let r : Option ℕ = Some x in r) same

pub returns-in-NewMapped-clause-on_disc : goal.returns-in-NewMapped-clause-on_disc
returns-in-NewMapped-clause-on_disc c =
    let is = new_is (layout_of c.args.self.now) c.in-NewMapped.map c.args.address c.args.bytes c.args.n (ap layout_of c.in-NewMapped.is) c.low_start-skip.ensures.map (omega arith) c.requires in
    let same = same_sector c.sector_of_id.result is.sector c.unwrap.result
    (c.sector_of_id.ensures ∙ ap (λ k. slice_get (id_sectors c.in-NewMapped.map (id_of c.args.address)) (k + c.args.n)) c.low_start-skip.ensures.value ∙ is.at) c.unwrap.ensures in
    omega (arith, same, is.on_disc)
