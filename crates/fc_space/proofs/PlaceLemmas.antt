-- Places by an old map and by a new one.
use Rattle.std.proofs.Common.{◌≡◌, ◌<◌, ℕ, Bool, List, [], ◌∷◌, ◌++◌, Option, Some, sym, ap, subst, ◌∙◌, arith}
use Rattle.std.specs.Prelude.{◌==◌, if◌then◌else◌}
use Rattle.std.proofs.lemmas.Bool.{ne_eqb}
use Rattle.std.proofs.lemmas.List.Elements.{All-push}
use Rattle.fc_device.specs.declared.disk.Extent.{Extent}
use Rattle.fc_image.specs.Layout.{Layout, sectors_at, some_sectors}
use Rattle.fc_objects.specs.Extents.{sectors_in}
use Rattle.fc_space.specs.Space.{HaveSectors}

-- no bytes take no sectors
pub no_bytes : (layout : Layout) (address bytes : ℕ) (place : List Extent) → bytes ≡ 0 → place ≡ [] → sectors_at layout address bytes ≡ Some (sectors_in place)
unfolding sectors_at
no_bytes layout address bytes place none empty =
    ap (λ (n : ℕ). if n == 0 then Some [] else some_sectors layout address n) none ∙ ap (λ (es : List Extent). let o : Option (List ℕ) = Some (sectors_in es) in o) (sym empty)

-- some bytes take those that the map tells
pub some_bytes : (layout : Layout) (address bytes : ℕ) → (bytes ≡ 0 → ⊥) → sectors_at layout address bytes ≡ some_sectors layout address bytes
unfolding sectors_at
some_bytes layout address bytes some = ap (λ (b : Bool). if b then Some [] else some_sectors layout address bytes) (ne_eqb bytes 0 some)

-- ---- no extent is empty

none_empty : HaveSectors []
none_empty k d low = absurd (let no : ⊥ = omega arith in no)

pub no_extents : (place : List Extent) → place ≡ [] → HaveSectors place
no_extents place is = subst HaveSectors (sym is) none_empty

pub one_extent : (place more : List Extent) (e : Extent) → more ≡ place ++ e ∷ [] → 0 < e.sectors → HaveSectors place → HaveSectors more
one_extent place more e is some each = subst HaveSectors (sym is) (All-push (λ (x : Extent). 0 < x.sectors) place e each some)
