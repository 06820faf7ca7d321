-- Rows by the number of a directory.
use Rattle.std.specs.Prelude.{ℕ, List, [], Vec, map, slice_index_or}
use Rattle.std.specs.declared.alloc.Global.{Global}

-- the row of a directory, empty past the end
abbrev pub row_at : {X : Type 0} → List (Vec X Global) → ℕ → List X
row_at rows dir = slice_index_or (map (λ row. row.items) rows) dir []

-- the nodes of a directory, none past the end
abbrev pub nodes_at : List (Vec ℕ Global) → ℕ → List ℕ
nodes_at lists dir = row_at lists dir
