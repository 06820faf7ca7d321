use Rattle.std.proofs.Common.{◌≡◌, ◌<◌, ℕ, ◌*◌, ◌/◌, ◌⊎◌, inl, inr, ap, ap₂, ◌∙◌, append-nil, arith}
use Rattle.std.specs.List.{range_with_len}
use Rattle.std.specs.Int.{div_ceil}
use Rattle.fc_objects.specs.Extents.{sectors_in}
use Rattle.fc_space.proofs.DiscLemmas.{old_suffice}
use Rattle.fc_space.proofs.old.old_place.Goals as goal

some_units : (n : ℕ) → (n ≡ 1) ⊎ (n ≡ 4) → 0 < n
some_units n (inl one) = omega arith
some_units n (inr four) = omega arith

pub nonzero_div-address : goal.nonzero_div-address
nonzero_div-address c = some_units c.sector_units-units.result c.sector_units-units.ensures.units

pub div_ceil-sectors-requires : goal.div_ceil-sectors-requires
div_ceil-sectors-requires c =
    let some = some_units c.sector_units-units.result c.sector_units-units.ensures.units in
    omega (arith, some, c.from.ensures)

pub nonzero_rem-address : goal.nonzero_rem-address
nonzero_rem-address c = some_units c.sector_units-units.result c.sector_units-units.ensures.units

pub nonzero_div-disc_units : goal.nonzero_div-disc_units
nonzero_div-disc_units c = some_units c.sector_units-units.result c.sector_units-units.ensures.units

pub returns-clause-suffice : goal.returns-clause-suffice
returns-clause-suffice c =
    let units = c.sector_units-units.ensures.value in
    let some = some_units c.sector_units-units.result c.sector_units-units.ensures.units in
    let place : sectors_in c.in_ok-vec.field-0.items ≡ range_with_len c.from-first.result c.div_ceil-sectors.result =
    ap sectors_in (c.in_ok-vec.ensures.items_if_clones_equal (λ y e. e)) ∙ append-nil (range_with_len c.from-first.result c.div_ceil-sectors.result) in
    let count : c.div_ceil-sectors.result ≡ div_ceil c.args.bytes (256 * c.args.map.now.sector_units) = c.div_ceil-sectors.ensures ∙ ap (λ n. div_ceil c.args.bytes (256 * n)) (c.from.ensures ∙ units) in
    let last : c.from-else-address-units-ne0.result ≡ c.args.map.now.disc_units / c.args.map.now.sector_units =
    c.from-else-address-units-ne0.ensures ∙ ap₂ (λ a b. a / b) c.disc_units.ensures units in
    old_suffice c.args.map.now c.args.bytes c.from-first.result c.div_ceil-sectors.result (sectors_in c.in_ok-vec.field-0.items) (omega (arith, some, units)) place count (omega (arith, last, c.if-first-sectors.false))
