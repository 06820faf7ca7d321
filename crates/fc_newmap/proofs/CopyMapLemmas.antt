-- Zones of a map that are gated or sealed one after another.
use Rattle.std.proofs.Common.{◌≡◌, ◌<◌, ◌≤◌, ℕ, zero, suc, ◌+◌, List, [], ◌∷◌, ◌++◌, length, get_or, set, take, refl, sym, ap, ◌∙◌, inl, inr, arith}
use Rattle.std.specs.Prelude.{slice_index, bit_xor}
use Rattle.std.specs.List.{zip}
use Rattle.std.proofs.lemmas.Bool.{cases_eq}
use Rattle.std.proofs.lemmas.List.{get_or-set_other, get_or-set_same, take_more}
use Rattle.std.proofs.lemmas.List.FromFn.{length-map-range_with_len, get_or-map-range_with_len}
use Rattle.std.proofs.lemmas.List.Sums.{fold_more}
use Rattle.std.proofs.lemmas.Slice.Zip.{length-zip, get_or-zip}
use Rattle.fc_zone.specs.Edits.{sealed}
use Rattle.fc_newmap.specs.Map.{Map, sector_of, with_cross, with_zone}
use Rattle.fc_newmap.specs.Committing.{KeepsContents}
use Rattle.fc_newmap.specs.Copies.{sealed_zones}
use Rattle.fc_newmap.specs.Gate.{gate_delta, gate_deltas, gated_by, gated_sector}

-- a CrossCheck that is set, and then the ZoneCheck
turned_list : (zones : List (List ℕ)) (z v : ℕ)
    → set (set zones z (set (get_or zones z []) 3 v)) z (sealed (get_or (set zones z (set (get_or zones z []) 3 v)) z [])) ≡ set zones z (sealed (set (get_or zones z []) 3 v))
turned_list [] z v = refl
turned_list (s ∷ zones) zero v = refl
turned_list (s ∷ zones) (suc z) v = ap (λ zs. s ∷ zs) (turned_list zones z v)

pub turned : (m crossed new : Map) (z v delta : ℕ) → crossed ≡ with_cross m z v → new ≡ with_zone crossed z (sealed (sector_of crossed z)) → v ≡ bit_xor (slice_index (sector_of m z) 3) delta
    → new ≡ with_zone m z (gated_sector (sector_of m z) delta)
turned m crossed new z v delta cross seal is =
    seal ∙ ap (λ (n : Map). with_zone n z (sealed (sector_of n z))) cross
    ∙ ap (λ (zs : List (List ℕ)). record m { zones = zs }) (turned_list m.zones z v)
    ∙ ap (λ (x : ℕ). with_zone m z (sealed (set (sector_of m z) 3 x))) is

-- ---- one zone more

gated_by-push : (turns : List (ℕ × ℕ)) (turn : ℕ × ℕ) (zones : List (List ℕ))
    → gated_by (turns ++ turn ∷ []) zones ≡ set (gated_by turns zones) turn.0 (gated_sector (get_or (gated_by turns zones) turn.0 []) turn.1)
gated_by-push [] turn zones = refl
gated_by-push (t ∷ turns) turn zones = gated_by-push turns turn (set zones t.0 (gated_sector (get_or zones t.0 []) t.1))

-- as many turns as zones
pub turns_short : (changed : List ℕ) → length (zip changed (gate_deltas (length changed))) ≤ length changed
turns_short changed = omega (arith, length-zip changed (gate_deltas (length changed)))

pub gated_more : (m now new : Map) (changed : List ℕ) (i z delta : ℕ) → i < length changed → z ≡ get_or changed i 0 → delta ≡ gate_delta (length changed) i
    → now ≡ record m { zones = gated_by (take i (zip changed (gate_deltas (length changed)))) m.zones } → new ≡ with_zone now z (gated_sector (sector_of now z) delta)
    → new ≡ record m { zones = gated_by (take (i + 1) (zip changed (gate_deltas (length changed)))) m.zones }
gated_more m now new changed i z delta lt z_is delta_is before turn =
    let deltas = gate_deltas (length changed) in
    let turns = zip changed deltas in
    let none : ℕ × ℕ = (0, 0) in
    let many : length deltas ≡ length changed = length-map-range_with_len (gate_delta (length changed)) 0 (length changed) in
    let inside : i < length turns = omega (arith, length-zip changed deltas, many) in
    let pair : get_or turns i none ≡ (z, delta) =
    get_or-zip changed deltas i none lt (omega (arith, many))
    ∙ ap (λ (x : ℕ). let p : ℕ × ℕ = (get_or changed i 0, x) in p) (get_or-map-range_with_len (gate_delta (length changed)) 0 (length changed) i i 0 lt (omega arith) ∙ sym delta_is)
    ∙ ap (λ (x : ℕ). let p : ℕ × ℕ = (x, delta) in p) (sym z_is) in
    turn ∙ ap (λ (n : Map). with_zone n z (gated_sector (sector_of n z) delta)) before
    ∙ ap (λ (zs : List (List ℕ)). record m { zones = zs })
    (sym
    (ap (λ (ts : List (ℕ × ℕ)). gated_by ts m.zones) (take_more turns i none inside)
    ∙ gated_by-push (take i turns) (get_or turns i none) m.zones
    ∙ ap (λ (t : ℕ × ℕ). set (gated_by (take i turns) m.zones) t.0 (gated_sector (get_or (gated_by (take i turns) m.zones) t.0 []) t.1)) pair))

pub sealed_more : (m now new : Map) (changed : List ℕ) (i z : ℕ) → i < length changed → z ≡ get_or changed i 0
    → now ≡ record m { zones = sealed_zones (take i changed) m.zones } → new ≡ with_zone now z (sealed (sector_of now z))
    → new ≡ record m { zones = sealed_zones (take (i + 1) changed) m.zones }
sealed_more m now new changed i z lt z_is before seal =
    seal ∙ ap (λ (n : Map). with_zone n z (sealed (sector_of n z))) before
    ∙ ap (λ (zs : List (List ℕ)). record m { zones = zs })
    (ap (λ (y : ℕ). set (sealed_zones (take i changed) m.zones) y (sealed (get_or (sealed_zones (take i changed) m.zones) y []))) z_is
    ∙ sym (fold_more (λ (zs : List (List ℕ)) (y : ℕ). set zs y (sealed (get_or zs y []))) m.zones changed i 0 lt))

-- ---- what stays of the zones' bytes

pub contents_none : (m : Map) → KeepsContents m m
contents_none m z k first third = refl

pub contents_then : (a b c : Map) → KeepsContents a b → KeepsContents b c → KeepsContents a c
contents_then a b c one two z k first third = two z k first third ∙ one z k first third

-- a zone with other checks
checked_contents : (m n : Map) (z : ℕ) (sector : List ℕ) → z < length m.zones → n ≡ with_zone m z sector → ((k : ℕ) → (k ≡ 0 → ⊥) → (k ≡ 3 → ⊥) → get_or sector k 0 ≡ get_or (sector_of m z) k 0)
    → KeepsContents m n
checked_contents m n z sector low e same y k first third = elim (cases_eq y z) [
  | inl here ↦
      ap (λ (t : Map). get_or (sector_of t y) k 0) e ∙ ap (λ (x : ℕ). get_or (sector_of (with_zone m z sector) x) k 0) here
      ∙ ap (λ (s : List ℕ). get_or s k 0) (get_or-set_same m.zones z sector [] low) ∙ same k first third ∙ ap (λ (x : ℕ). get_or (sector_of m x) k 0) (sym here)
  | inr other ↦ ap (λ (t : Map). get_or (sector_of t y) k 0) e ∙ ap (λ (s : List ℕ). get_or s k 0) (get_or-set_other m.zones z y sector [] other)
]

pub turned_contents : (m n : Map) (z delta : ℕ) → z < length m.zones → n ≡ with_zone m z (gated_sector (sector_of m z) delta) → KeepsContents m n
turned_contents m n z delta low e =
    checked_contents m n z (gated_sector (sector_of m z) delta) low e (λ k first third. get_or-set_other (set (sector_of m z) 3 _) 0 k _ 0 first ∙ get_or-set_other (sector_of m z) 3 k _ 0 third)

pub sealed_contents : (m n : Map) (z : ℕ) → z < length m.zones → n ≡ with_zone m z (sealed (sector_of m z)) → KeepsContents m n
sealed_contents m n z low e = checked_contents m n z (sealed (sector_of m z)) low e (λ k first third. get_or-set_other (sector_of m z) 0 k _ 0 first)
