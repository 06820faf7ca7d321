use Rattle.std.proofs.Common.{◌∙◌, ℕ, ap, ap₂, sym}
use Rattle.std.specs.Prelude.{Err}
use Rattle.std.specs.Int.{div_ceil}
use Rattle.fc_record.specs.declared.Geometry.{Geometry}
use Rattle.fc_image.specs.Layout.{Layout, id_of, sectors_at}
use Rattle.fc_objects.specs.Extents.{sectors_in}
use Rattle.fc_change.specs.Shortage.{others_leave_free}
use Rattle.fc_change.proofs.RoomLemmas.{no_place, room_there}
use Rattle.fc_change.proofs.placing.room.room_for.Goals as goal

pub returns-in-Err-Outside : goal.returns-in-Err-Outside
returns-in-Err-Outside c =
    no_place c.args.map.now c.args.owners.now c.args.dir c.args.address c.args.len c.requires.some
    (ap₂ (λ (l : Layout) (n : ℕ). sectors_at l c.args.address n) (sym c.requires.map) (sym c.from-bytes.ensures) ∙ c.place_of.ensures.outside (c.in-Err-Outside.is ∙ ap Err c.in-Err-Outside.field-0-is))

pub returns-then-others_leave_free : goal.returns-then-others_leave_free
returns-then-others_leave_free c =
    let m = c.args.map.now in
    room_there m c.args.owners.now c.args.dir c.args.address c.args.len (sectors_in c.in-Ok.place.items) c.requires.some
    (ap₂ (λ (l : Layout) (n : ℕ). sectors_at l c.args.address n) (sym c.requires.map) (sym c.from-bytes.ensures) ∙ c.in-Ok.ensures.place)
    c.if-id-eq-MAP_ID.false
    (ap (λ (first : ℕ). others_leave_free c.args.owners.now c.args.dir (id_of c.args.address) first (div_ceil c.args.len m.geometry.sector)) (sym c.low_start-first.ensures.value)
    ∙ ap (λ (need : ℕ). others_leave_free c.args.owners.now c.args.dir (id_of c.args.address) c.low_start-first.result need)
    (sym (c.div_ceil-need.ensures ∙ ap₂ div_ceil c.from-bytes.ensures (c.from.ensures ∙ ap (λ (g : Geometry). g.sector) c.geometry.ensures.value)))
    ∙ sym c.others_leave_free.ensures ∙ c.if-others_leave_free.true)
