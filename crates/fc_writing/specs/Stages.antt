-- The stages of a change on the disk, for maps of any kind.
use Rattle.std.specs.Prelude.{◌⊎◌, ℕ, List, [], ◌++◌}
use Rattle.fc_writing.specs.Content.{Content, HasContent, IsPart}

-- All of `there` is written, and some of `part`; no other sector has changed but the map's, and the map is in the state P.
pub record Stage (size : ℕ) (mapped : List ℕ) (there part : Content) (P : List ℕ → Type 0) (was image : List ℕ) : Type 0 where
  pub written : HasContent size there image
  pub sectors : IsPart size mapped (there ++ part) was image
  pub map : P image

-- Some of `part` is written with the map in the state P, or all of it with the map in the state Q.
abbrev pub Half : ℕ → List ℕ → Content → (List ℕ → Type 0) → (List ℕ → Type 0) → List ℕ → List ℕ → Type 0
Half size mapped part P Q was image = Stage size mapped [] part P was image ⊎ Stage size mapped part [] Q was image

-- What a crash at any moment leaves: before the first step of the map, in it, after it, and in the second step or after it.
abbrev pub Leaves : ℕ → List ℕ → Content → Content → (List ℕ → Type 0) → (List ℕ → Type 0) → (List ℕ → Type 0) → (List ℕ → Type 0) → List ℕ → List ℕ → Type 0
Leaves size mapped early late Before InFirst Between InSecond was image =
    Stage size mapped [] early Before was image
    ⊎ (Stage size mapped early [] InFirst was image
    ⊎ (Stage size mapped early late Between was image
    ⊎ Stage size mapped (early ++ late) [] InSecond was image))
