use Rattle.std.proofs.Common.{rules, ◌≡◌, ◌==◌, false}
use Rattle.fc_image.specs.Layout.{Layout}
use Rattle.fc_change.specs.Held.{parts_of}
use Rattle.fc_safe.proofs.SuitsLemmas.{suits_are, suits_new}
use Rattle.fc_safe.proofs.suitability.suits.Goals as goal

pub returns-then-geometry-ne0-clause-exactly : goal.returns-then-geometry-ne0-clause-exactly
returns-then-geometry-ne0-clause-exactly c = λ v sound parts.
    let h = parts_of c.args.held.now in
    let at : h.layout ≡ Layout.New c.in-NewMapped.map = search rules in
    let big : (c.in-NewMapped.map.geometry.version == 0) ≡ false = search rules in
    suits_are h _ v (suits_new h c.in-NewMapped.map c.has_low_directory.result at big c.has_low_directory.ensures.found c.has_low_directory.ensures.none) sound parts
