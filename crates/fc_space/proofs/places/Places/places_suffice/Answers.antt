use Rattle.std.proofs.Common.{subst}
use Rattle.fc_space.specs.declared.space.Space.{Space}
use Rattle.fc_space.specs.Space.{PlacesSuffice, layout_of}
use Rattle.fc_space.proofs.places.Places.places_suffice.Goals as goal

pub returns : goal.returns
returns c = subst (λ (s : Space). PlacesSuffice (layout_of s)) c.self.view_is c.places_suffice.ensures
