use Rattle.std.proofs.Common.{◌≡◌, true, false, sym, ◌∙◌}
use Rattle.std.proofs.lemmas.Slice.Eq.{bytes_eq-Decides}
use Rattle.fc_drafts.proofs.EditLemmas.{read_name}
use Rattle.fc_drafts.proofs.SizeLemmas.{big_room}
use Rattle.fc_drafts.proofs.room.Room.in_big_renamed.Goals as goal

pub returns-then-eq-clause-respelled : goal.returns-then-eq-clause-respelled
returns-then-eq-clause-respelled c = λ was gain is other gets.
    let name = read_name c.args.dir.now.entries c.entries.result.now c.args.at c.index-entries-at.result was c.entries.ensures.same is in
    let same : c.bytes.result.now ≡ c.bytes-2.result.now = (bytes_eq-Decides c.bytes.result.now c.bytes-2.result.now).0 (sym c.eq.ensures ∙ c.if-eq.true) in
    absurd (other (sym name ∙ sym c.bytes.ensures.same ∙ same ∙ c.bytes-2.ensures.same))

pub returns-clause-kept : goal.returns-clause-kept
returns-clause-kept c = λ was is same.
    let name = read_name c.args.dir.now.entries c.entries.result.now c.args.at c.index-entries-at.result was c.entries.ensures.same is in
    let spelled : c.bytes.result.now ≡ c.bytes-2.result.now = c.bytes.ensures.same ∙ name ∙ same ∙ sym c.bytes-2.ensures.same in
    absurd (let bad : true ≡ false = sym (c.eq.ensures ∙ (bytes_eq-Decides c.bytes.result.now c.bytes-2.result.now).1 spelled) ∙ c.if-eq.false in cc)

pub returns-clause-respelled : goal.returns-clause-respelled
returns-clause-respelled c = λ was gain is other gets.
    big_room c.args.dir.now c.args.at was c.args.name.now gain c.size.result c.needed_renamed.result c.room_of_size.result c.entries.ensures.big is gets c.size.ensures c.needed_renamed.ensures
    c.room_of_size.ensures
