use Rattle.std.proofs.Common.{◌≡◌, sym, ap, ◌∙◌, arith}
use Rattle.fc_image.specs.Layout.{Layout, sectors_at}
use Rattle.fc_space.specs.Space.{layout_of}
use Rattle.fc_space.proofs.PlaceLemmas.{some_bytes}
use Rattle.fc_space.proofs.places.Places.place_of.Goals as goal

pub returns-in-Some-NewMapped-clause-place : goal.returns-in-Some-NewMapped-clause-place
returns-in-Some-NewMapped-clause-place c =
    let some = c.if-bytes-gt0.true in
    let told : sectors_at (layout_of c.args.self.now) c.args.address c.args.bytes ≡ sectors_at (Layout.New c.in-Some-NewMapped.map) c.args.address c.args.bytes =
    ap (λ s. sectors_at (layout_of s) c.args.address c.args.bytes) (sym c.self.view_is ∙ c.in-Some-NewMapped.is-1) in
    let same = told ∙ some_bytes (Layout.New c.in-Some-NewMapped.map) c.args.address c.args.bytes (λ e. omega (arith, some, e)) in
    rw same c.indexed_place.ensures.place

pub returns-in-Some-NewMapped-clause-outside : goal.returns-in-Some-NewMapped-clause-outside
returns-in-Some-NewMapped-clause-outside c = λ e.
    let some = c.if-bytes-gt0.true in
    ap (λ s. sectors_at (layout_of s) c.args.address c.args.bytes) (sym c.self.view_is ∙ c.in-Some-NewMapped.is-1)
    ∙ some_bytes (Layout.New c.in-Some-NewMapped.map) c.args.address c.args.bytes (λ n. omega (arith, some, n)) ∙ c.indexed_place.ensures.outside e
