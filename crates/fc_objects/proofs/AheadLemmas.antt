-- The sectors that are ahead in a walk over an object, row by row.
use Rattle.std.proofs.Common.{◌≡◌, ◌<◌, ℕ, zero, suc, ◌+◌, ◌-◌, List, [], ◌∷◌, ◌++◌, All, length, length-append, append_assoc, refl, sym, ap, ap₂, subst, ◌∙◌, arith}
use Rattle.std.specs.List.{range_with_len}
use Rattle.std.proofs.Math.ListN.{get_or-append}
use Rattle.std.proofs.lemmas.List.Elements.{All-tail}
use Rattle.std.proofs.lemmas.List.FromFn.{length-range_with_len, get_or-range_with_len}
use Rattle.fc_device.specs.declared.disk.Extent.{Extent}
use Rattle.fc_objects.specs.declared.sectors.Sectors.{Sectors}
use Rattle.fc_objects.specs.Extents.{extent_sectors, sectors_in}
use Rattle.fc_objects.specs.Ahead.{ahead}

-- ---- facts of all elements

pub all_back : (P : ℕ → Type 0) (xs ys : List ℕ) → All P (xs ++ ys) → All P ys
all_back P [] ys all = all
all_back P (x ∷ xs) ys all = all_back P xs ys (All-tail P x (xs ++ ys) all)

pub row_last : (P : ℕ → Type 0) (first sectors : ℕ) (more : List ℕ) → 0 < sectors → All P (range_with_len first sectors ++ more) → P (first + (sectors - 1))
row_last P first sectors more some all =
    let row = range_with_len first sectors in
    let long : length row ≡ sectors = length-range_with_len first sectors in
    let at = get_or-append row more 0 (sectors - 1) (omega (arith, long)) ∙ get_or-range_with_len first sectors (sectors - 1) 0 (omega arith) in
    subst P at (all (sectors - 1) 0 (omega (arith, long, length-append row more)))

-- ---- rows

-- a row in two parts
pub row_both : (from a b : ℕ) → range_with_len from (a + b) ≡ range_with_len from a ++ range_with_len (from + a) b
row_both from zero b = ap (range_with_len from) (let e : zero + b ≡ b = omega arith in e) ∙ ap (λ (k : ℕ). range_with_len k b) (let e : from ≡ from + zero = omega arith in e)
row_both from (suc a) b =
    ap (range_with_len from) (let e : suc a + b ≡ suc (a + b) = omega arith in e)
    ∙ ap (λ (xs : List ℕ). from ∷ xs) (row_both (from + 1) a b)
    ∙ ap (λ (k : ℕ). from ∷ (range_with_len (from + 1) a ++ range_with_len k b)) (let e : from + 1 + a ≡ from + suc a = omega arith in e)

-- before the first extent
pub ahead_all : (s : Sectors) → s.row.sectors ≡ 0 → ahead s ≡ sectors_in s.rest.now
unfolding ahead
ahead_all s none = ap (λ (n : ℕ). range_with_len s.row.first n ++ sectors_in s.rest.now) none

-- nothing is ahead
pub ahead_none : (s : Sectors) → s.row.sectors ≡ 0 → length s.rest.now ≡ 0 → ahead s ≡ []
ahead_none s none last = ahead_all s none ∙ no_extents s.rest.now last
  where
    no_extents : (es : List Extent) → length es ≡ 0 → sectors_in es ≡ []
    no_extents [] e = refl
    no_extents (x ∷ es) e = absurd (omega (arith, e))

-- the next extent is begun
pub ahead_entered : (s t : Sectors) (e : Extent) (rest : List Extent) → s.row.sectors ≡ 0 → s.rest.now ≡ e ∷ rest → t.row ≡ e → t.rest.now ≡ rest → ahead s ≡ ahead t
unfolding ahead
ahead_entered s t e rest none cut row same =
    ahead_all s none ∙ ap sectors_in cut ∙ ap₂ (λ (x : Extent) (es : List Extent). extent_sectors x ++ sectors_in es) (sym row) (sym same)

-- so many sectors of the extent are passed
pub ahead_passed : (s t : Sectors) (row : Extent) (left : ℕ) → s.row.sectors ≡ row.sectors + left → s.row.first ≡ row.first → t.row.first ≡ row.first + row.sectors → t.row.sectors ≡ left
    → t.rest.now ≡ s.rest.now → ahead s ≡ extent_sectors row ++ ahead t
unfolding ahead
ahead_passed s t row left all first next few same =
    let cut : range_with_len s.row.first s.row.sectors ≡ range_with_len row.first row.sectors ++ range_with_len t.row.first t.row.sectors =
    ap₂ range_with_len first all ∙ row_both row.first row.sectors left ∙ ap₂ (λ (a n : ℕ). range_with_len row.first row.sectors ++ range_with_len a n) (sym next) (sym few) in
    ap (λ (xs : List ℕ). xs ++ sectors_in s.rest.now) cut
    ∙ append_assoc (range_with_len row.first row.sectors) (range_with_len t.row.first t.row.sectors) (sectors_in s.rest.now)
    ∙ ap (λ (es : List Extent). range_with_len row.first row.sectors ++ (range_with_len t.row.first t.row.sectors ++ sectors_in es)) (sym same)

-- the last sector of the extent that was begun
pub ahead_row : (P : ℕ → Type 0) (s : Sectors) → 0 < s.row.sectors → All P (ahead s) → P (s.row.first + (s.row.sectors - 1))
unfolding ahead
ahead_row P s some all = row_last P s.row.first s.row.sectors (sectors_in s.rest.now) some all
