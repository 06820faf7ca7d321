-- Edits of a map one after another, and what they leave of other zones.
use Rattle.std.proofs.Common.{◌≡◌, ◌<◌, ℕ, List, refl, sym, ap₂, subst, ◌∙◌, inl, inr}
use Rattle.std.proofs.lemmas.Bool.{cases_eq}
use Rattle.fc_bytes.specs.Bits.{bits}
use Rattle.fc_record.specs.declared.Geometry.{Geometry}
use Rattle.fc_zone.specs.declared.Run.{Run}
use Rattle.fc_zone.specs.Edits.{KeepsBytes, KeepsLinks, KeepsOutside}
use Rattle.fc_zone.specs.Reading.{runs_of as runs_read}
use Rattle.fc_zone.specs.Zone.{Zone}
use Rattle.fc_zone.proofs.WrittenLemmas.{keeps_none, keeps_then}
use Rattle.fc_newmap.specs.Edits.{AreEdits, IsEdit, KeepsRuns}
use Rattle.fc_newmap.specs.Map.{Map, runs_of, sector_of, shape}
use Rattle.fc_newmap.specs.NewMap.{IsNewMap}

-- the links of one zone
abbrev LinksIn : Map → Map → ℕ → Type 0
LinksIn m n z = KeepsLinks (shape m.geometry z) (bits (sector_of m z)) (bits (sector_of n z)) (runs_of m z) (runs_of n z)

no_links : (m : Map) (z : ℕ) → LinksIn m m z
no_links m z = keeps_none (shape m.geometry z) (bits (sector_of m z)) (runs_of m z)

more_links : (a b c : Map) (z : ℕ) → b.geometry ≡ a.geometry → LinksIn a b z → LinksIn b c z → LinksIn a c z
more_links a b c z same one two =
    keeps_then (shape a.geometry z) (bits (sector_of a z)) (bits (sector_of b z)) (bits (sector_of c z)) (runs_of a z) (runs_of b z) (runs_of c z) one
    (subst (λ (g : Geometry). KeepsLinks (shape g z) (bits (sector_of b z)) (bits (sector_of c z)) (runs_of b z) (runs_of c z)) same two)

-- ---- zones that an edit doesn't touch, and the one that it does

-- they have their runs
pub runs_other : (m n : Map) (z y : ℕ) → IsEdit m n z → (y ≡ z → ⊥) → runs_of n y ≡ runs_of m y
runs_other m n z y edit ne = ap₂ (λ (g : Geometry) (s : List ℕ). runs_read (shape g y) s) edit.geometry (edit.others y ne)

-- the zone as it is read
pub zone_cut : (m : Map) (z : ℕ) (runs : List Run) → IsNewMap m → z < m.geometry.zones → runs_of m z ≡ runs → Zone (shape m.geometry z) (sector_of m z) runs
zone_cut m z runs is low e = subst (λ (rs : List Run). Zone (shape m.geometry z) (sector_of m z) rs) e (is.right z low)

-- ---- edits of one zone

pub edit_none : (m : Map) (z : ℕ) → IsNewMap m → IsEdit m m z
edit_none m z is = record {
  was = is;
  map = is;
  geometry = refl;
  others = λ y ne. refl;
  outside = λ k a b. refl;
  bytes = λ k a b. refl;
  links = no_links m z;
}

pub edit_then : (a b c : Map) (z : ℕ) → IsEdit a b z → IsEdit b c z → IsEdit a c z
edit_then a b c z one two = record {
  was = one.was;
  map = two.map;
  geometry = two.geometry ∙ one.geometry;
  others = λ y ne. two.others y ne ∙ one.others y ne;
  outside = λ k u v. subst (λ (g : Geometry). KeepsOutside (shape g z) (sector_of b z) (sector_of c z)) one.geometry two.outside k u v ∙ one.outside k u v;
  bytes = λ k u v. subst (λ (g : Geometry). KeepsBytes (shape g z) (sector_of b z) (sector_of c z)) one.geometry two.bytes k u v ∙ one.bytes k u v;
  links = more_links a b c z one.geometry one.links two.links;
}

-- ---- edits of any zones

pub edits_none : (m : Map) → IsNewMap m → AreEdits m m
edits_none m is = record { was = is; map = is; geometry = refl; outside = λ z k a b. refl; bytes = λ z k a b. refl; links = no_links m }

-- what one edit leaves of any zone
pub edit_all : (m n : Map) (z : ℕ) → IsEdit m n z → AreEdits m n
edit_all m n z edit = record {
  was = edit.was;
  map = edit.map;
  geometry = edit.geometry;
  outside = λ y. elim (cases_eq y z) [
    | inl same ↦ subst (λ (x : ℕ). KeepsOutside (shape m.geometry x) (sector_of m x) (sector_of n x)) (sym same) edit.outside
    | inr other ↦ subst (λ (s : List ℕ). KeepsOutside (shape m.geometry y) (sector_of m y) s) (sym (edit.others y other)) (λ k a b. refl)
  ];
  bytes = λ y. elim (cases_eq y z) [
    | inl same ↦ subst (λ (x : ℕ). KeepsBytes (shape m.geometry x) (sector_of m x) (sector_of n x)) (sym same) edit.bytes
    | inr other ↦ subst (λ (s : List ℕ). KeepsBytes (shape m.geometry y) (sector_of m y) s) (sym (edit.others y other)) (λ k a b. refl)
  ];
  links = λ y. elim (cases_eq y z) [
    | inl same ↦ subst (λ (x : ℕ). LinksIn m n x) (sym same) edit.links
    | inr other ↦
        subst (λ (rs : List Run). KeepsLinks (shape m.geometry y) (bits (sector_of m y)) (bits (sector_of n y)) (runs_of m y) rs) (sym (runs_other m n z y edit other))
        (subst (λ (s : List ℕ). KeepsLinks (shape m.geometry y) (bits (sector_of m y)) (bits s) (runs_of m y) (runs_of m y)) (sym (edit.others y other)) (no_links m y))
  ];
}

pub edits_join : (a b c : Map) → AreEdits a b → AreEdits b c → AreEdits a c
edits_join a b c one two = record {
  was = one.was;
  map = two.map;
  geometry = two.geometry ∙ one.geometry;
  outside = λ z k u v. subst (λ (g : Geometry). KeepsOutside (shape g z) (sector_of b z) (sector_of c z)) one.geometry (two.outside z) k u v ∙ one.outside z k u v;
  bytes = λ z k u v. subst (λ (g : Geometry). KeepsBytes (shape g z) (sector_of b z) (sector_of c z)) one.geometry (two.bytes z) k u v ∙ one.bytes z k u v;
  links = λ z. more_links a b c z one.geometry (one.links z) (two.links z);
}

pub edits_then : (a b c : Map) (z : ℕ) → AreEdits a b → IsEdit b c z → AreEdits a c
edits_then a b c z one two = edits_join a b c one (edit_all b c z two)

-- ---- changes that leave all runs

pub same_none : (m : Map) → IsNewMap m → KeepsRuns m m
same_none m is = record { was = is; map = is; geometry = refl; runs = λ z. refl }

pub same_then : (a b c : Map) → KeepsRuns a b → KeepsRuns b c → KeepsRuns a c
same_then a b c one two = record { was = one.was; map = two.map; geometry = two.geometry ∙ one.geometry; runs = λ z. two.runs z ∙ one.runs z }
