-- Runs as rows of sectors.
use Rattle.std.proofs.Common.{◌≡◌, ◌≤◌, Bool, false, not, cond, ℕ, ◌+◌, ◌*◌, ◌^◌, List, [], ◌∷◌, ◌++◌, max, map, ap, sym, ◌∙◌, arith, append_assoc, append-nil}
use Rattle.std.specs.List.{fold}
use Rattle.std.proofs.Math.Nat.{mul-le-mul_right}
use Rattle.std.proofs.lemmas.List.Sums.{sum_by-cons}
use Rattle.fc_device.specs.declared.disk.Extent.{Extent}
use Rattle.fc_record.specs.declared.Geometry.{Geometry}
use Rattle.fc_newmap.specs.Map.{ZoneRun, bits_in, disc_bit, extent_of}
use Rattle.fc_newmap.specs.NewMap.{IsOfRecord}
use Rattle.fc_newmap.specs.Walk.{IsInZone}
use Rattle.fc_newmap.proofs.HeldLemmas.{geometry_facts, on_disc}

-- a run's bits lie on the disc
pub bits_on_disc : (g : Geometry) (p : ZoneRun) → IsOfRecord g → IsInZone g p → disc_bit g p + p.1.len ≤ g.disc_bits
bits_on_disc g p is lies = let d = on_disc g p.0 is lies.zone in let from = lies.from in let to = lies.to in omega arith

pub bytes_fit : (g : Geometry) (n : ℕ) → IsOfRecord g → n ≤ g.disc_bits → n * g.bit_bytes ≤ 2 ^ 40
bytes_fit g n is low = let f = geometry_facts g is in let more : n * g.bit_bytes ≤ g.disc_bits * g.bit_bytes = mul-le-mul_right {m = n} {n = g.disc_bits} g.bit_bytes low in omega (arith, f.bytes)

-- one run more
pub sum_more : (p : ZoneRun) (rest : List ZoneRun) (total all : ℕ) (holes : List ZoneRun) → holes ≡ p ∷ rest → total + bits_in holes ≡ all → total + p.1.len + bits_in rest ≡ all
sum_more p rest total all holes e sum =
    omega (arith, ap bits_in e, sum_by-cons (λ (q : ZoneRun). q.1.len) p rest)

pub longest_more : (p : ZoneRun) (rest : List ZoneRun) (most new all : ℕ) (holes : List ZoneRun) → holes ≡ p ∷ rest → new ≡ max most p.1.len → fold (λ n (q : ZoneRun). max n q.1.len) most holes ≡ all
    → fold (λ n (q : ZoneRun). max n q.1.len) new rest ≡ all
longest_more p rest most new all holes e is sum =
    ap (λ (k : ℕ). fold (λ n (q : ZoneRun). max n q.1.len) k rest) is ∙ ap (fold (λ n (q : ZoneRun). max n q.1.len) most) (sym e) ∙ sum

pub extents_more : (g : Geometry) (p : ZoneRun) (rest left all : List ZoneRun) (before now : List Extent) (x : Extent) → left ≡ p ∷ rest → now ≡ before ++ x ∷ [] → x ≡ extent_of g p
    → before ++ map (extent_of g) left ≡ map (extent_of g) all → now ++ map (extent_of g) rest ≡ map (extent_of g) all
extents_more g p rest left all before now x e pushed is so_far =
    ap (λ (l : List Extent). l ++ map (extent_of g) rest) pushed ∙ append_assoc before (x ∷ []) (map (extent_of g) rest)
    ∙ ap (λ (y : Extent). before ++ y ∷ map (extent_of g) rest) is ∙ ap (λ (l : List ZoneRun). before ++ map (extent_of g) l) (sym e) ∙ so_far

pub none_more : (g : Geometry) (left all : List ZoneRun) (now : List Extent) → left ≡ [] → now ++ map (extent_of g) left ≡ map (extent_of g) all → now ≡ map (extent_of g) all
none_more g left all now e so_far = sym (append-nil now) ∙ ap (λ (l : List ZoneRun). now ++ map (extent_of g) l) (sym e) ∙ so_far

-- a push that succeeded
pub push_ok : (before now : List Extent) (x : Extent) (ok failed : Bool) → now ≡ cond ok (before ++ x ∷ []) before → ok ≡ not failed → failed ≡ false → now ≡ before ++ x ∷ []
push_ok before now x ok failed is other none = is ∙ ap (λ (b : Bool). cond b (before ++ x ∷ []) before) (other ∙ ap not none)
