-- Premises on a small map, right and spoilt.
use Rattle.std.specs.Prelude.{[], ◌∷◌}
use Rattle.fc_image.specs.Rows.{fresh_sector}
use Rattle.fc_image.specs.Walk.{Object}
use Rattle.fc_newmap.specs.Map.{Map}
use Rattle.fc_image.specs.effects.WrittenRows.{map_with, used}
use Rattle.fc_changes.specs.Owed.{GivesBack, IsSpaceEdit}

-- a file in both sectors of identifier 3
abbrev pub a_file : Object
a_file = record { path = (65 ∷ []) ∷ []; entry = record { name = 65 ∷ []; load = 0; exec = 0; len = 2048; address = 769; attrs = 3; last = 0 }; sectors = 4 ∷ 5 ∷ [] }

-- the map with one hole in the place of identifier 3 and of the hole after it
abbrev pub given_back : Map
given_back = map_with 15 fresh_sector

-- identifier 3 goes back with its only owner
pub record OwedRows : Type 0 where
  pub back : IsSpaceEdit used given_back 0 [] (3 ∷ [])
  pub stays : IsSpaceEdit used used 0 [] []
  pub not_back : IsSpaceEdit used used 0 [] (3 ∷ []) → ⊥
  pub another : IsSpaceEdit used given_back 0 [] (4 ∷ []) → ⊥
  pub alone : GivesBack used (3 ∷ []) (a_file ∷ []) []
  pub kept : GivesBack used [] (a_file ∷ []) [] → ⊥
  pub shared : GivesBack used (3 ∷ []) (a_file ∷ a_file ∷ []) (a_file ∷ []) → ⊥
