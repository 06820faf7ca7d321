-- Rows by directory, as they are read, written and grown.
use Rattle.std.proofs.Common.{◌≡◌, ◌≢◌, ◌<◌, ◌≤◌, ℕ, zero, suc, List, [], ◌∷◌, length, refl, sym, ap, ◌∙◌, get_or, set, arith, map, Vec, Global}
use Rattle.std.proofs.lemmas.List.{get_or-set_same, get_or-set_other, length-map, get_or-map, map-set}
use Rattle.fc_alloc.specs.Lists.{row_at}

-- what is read at a directory
pub nodes_read : {X : Type 0} (rows : List (Vec X Global)) (dir : ℕ) (row : Vec X Global) → dir < length rows → row ≡ get_or rows dir row → row_at rows dir ≡ row.items
nodes_read {X} rows dir row within is = get_or-map (λ (v : Vec X Global). v.items) rows dir row [] within ∙ ap (λ (v : Vec X Global). v.items) (sym is)

-- a directory past the end has none
pub nodes_past : {X : Type 0} (rows : List (Vec X Global)) (dir : ℕ) → length rows ≤ dir → row_at rows dir ≡ []
nodes_past [] dir past = refl
nodes_past (v ∷ rows) zero past = absurd (omega (arith, past))
nodes_past (v ∷ rows) (suc dir) past = nodes_past rows dir (omega (arith, past))

pub nodes_written : {X : Type 0} (rows : List (Vec X Global)) (dir : ℕ) (row : Vec X Global) → dir < length rows → row_at (set rows dir row) dir ≡ row.items
nodes_written {X} rows dir row within =
    ap (λ l. get_or l dir []) (map-set (λ (v : Vec X Global). v.items) rows dir row)
    ∙ get_or-set_same (map (λ (v : Vec X Global). v.items) rows) dir row.items [] (rw length-map within)

pub nodes_kept : {X : Type 0} (rows : List (Vec X Global)) (dir d : ℕ) (row : Vec X Global) → d ≢ dir → row_at (set rows dir row) d ≡ row_at rows d
nodes_kept {X} rows dir d row other =
    ap (λ l. get_or l d []) (map-set (λ (v : Vec X Global). v.items) rows dir row)
    ∙ get_or-set_other (map (λ (v : Vec X Global). v.items) rows) dir d row.items [] other
