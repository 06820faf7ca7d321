-- The size of a heap of exactly the names of entries, as it is kept beside them.
use Rattle.std.proofs.Common.{◌≡◌, ◌<◌, ◌≤◌, ℕ, ◌+◌, ◌-◌, ◌*◌, ◌^◌, List, [], ◌∷◌, get_or, length, set, ap, arith}
use Rattle.std.specs.List.{AllByRecursion}
use Rattle.std.proofs.lemmas.List.Sums.{sum_by-cons, sum_by-insert, sum_by-remove, sum_by-set}
use Rattle.fc_dirs.specs.declared.Entry.{Entry}
use Rattle.fc_dirs.specs.Entries.{with_entry, without_entry, entry_place}
use Rattle.fc_dirs.specs.Big.{BigDir, FitsBig, IsBig, name_space}
use Rattle.fc_bigdir.specs.Fields.{packed_size}
use Rattle.fc_bigdir.proofs.LaidLemmas.{size_bounds}

-- the space of an entry's name
abbrev space : Entry → ℕ
space e = name_space e.name

spaces_small : (es : List Entry) → AllByRecursion FitsBig es → packed_size es ≤ 256 * length es
spaces_small [] all = omega arith
spaces_small (e ∷ es) all = omega (arith, sum_by-cons space e es, spaces_small es all.1, (all.0).name.most)

-- It is far below 2 ^ 32.
pub packed_small : (dir : BigDir) → IsBig dir → packed_size dir.entries < 2 ^ 31
packed_small dir big = omega (arith, spaces_small dir.entries big.entries, big.fits, (size_bounds dir.size big.size).most)

-- with a new entry
pub packed-with_entry : (e : Entry) (es : List Entry) → packed_size (with_entry e es) ≡ packed_size es + name_space e.name
packed-with_entry e es = sum_by-insert space es (entry_place e.name es) e

-- without one of its entries
pub packed-without_entry : (es : List Entry) (at : ℕ) (d : Entry) → at < length es → packed_size es - name_space (get_or es at d).name ≡ packed_size (without_entry at es)
packed-without_entry es at d within = omega (arith, sum_by-remove space es at d within)

-- with another of the same name
pub packed-set : (es : List Entry) (at : ℕ) (e d : Entry) → at < length es → (get_or es at d).name ≡ e.name → packed_size (set es at e) ≡ packed_size es
packed-set es at e d within same = omega (arith, sum_by-set space es at e d within, ap name_space same)

-- with another of the same name in the place of a new one
pub packed-replaced : (es : List Entry) (at : ℕ) (e d : Entry) → at < length es → (get_or es at d).name ≡ e.name → packed_size (with_entry e (without_entry at es)) ≡ packed_size es
packed-replaced es at e d within same = omega (arith, packed-with_entry e (without_entry at es), sum_by-remove space es at d within, ap name_space same)
