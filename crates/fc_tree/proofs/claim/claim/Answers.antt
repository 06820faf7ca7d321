use Rattle.std.proofs.Common.{◌∙◌, ◌≡◌, ap}
use Rattle.fc_image.specs.Layout.{dir_form}
use Rattle.fc_image.specs.Walk.{object_size}
use Rattle.fc_objects.specs.Extents.{sectors_in}
use Rattle.fc_space.specs.Space.{layout_of}
use Rattle.fc_tree.specs.Taken.{is_free}
use Rattle.fc_tree.proofs.ClaimLemmas.{claimed, refused}
use Rattle.fc_tree.proofs.claim.claim.Goals as goal

pub returns-clause-ok : goal.returns-clause-ok
returns-clause-ok c = λ path before taken.
    let layout = layout_of c.args.places.now in
    let size : c.from-bytes.result ≡ object_size (dir_form layout) c.args.entry.now = c.from-bytes.ensures ∙ c.object_size.ensures ∙ ap (λ f. object_size f c.args.entry.now) c.dir_form.ensures in
    claimed layout c.args.taken.now before path c.args.entry.now (sectors_in c.in_ok-place.place.items) c.from-bytes.result c.requires.disc taken size c.in_ok-place.ensures.place c.in_ok-place.ensures.suffice
    c.take.new.self c.are_free.result (c.are_free.ensures ∙ ap (λ es. is_free c.args.taken.now (sectors_in es)) c.deref.ensures.value) c.if-not-are_free.false
    (λ t h. rw (← c.deref-2.ensures.value) (c.take.ensures.taken t h))

pub returns-then-not-are_free-clause-overlap : goal.returns-then-not-are_free-clause-overlap
returns-then-not-are_free-clause-overlap c = λ told path before taken.
    let layout = layout_of c.args.places.now in
    let size : c.from-bytes.result ≡ object_size (dir_form layout) c.args.entry.now = c.from-bytes.ensures ∙ c.object_size.ensures ∙ ap (λ f. object_size f c.args.entry.now) c.dir_form.ensures in
    refused layout c.args.taken.now before path c.args.entry.now (sectors_in c.in_ok-place.place.items) c.from-bytes.result c.requires.disc taken size c.in_ok-place.ensures.place c.in_ok-place.ensures.suffice
    c.are_free.result (c.are_free.ensures ∙ ap (λ es. is_free c.args.taken.now (sectors_in es)) c.deref.ensures.value) c.if-not-are_free.true
