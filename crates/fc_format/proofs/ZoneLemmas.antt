-- Zones that are laid out afresh.
use Rattle.std.proofs.Common.{◌≡◌, ◌⊎◌, ⊎_elim, ◌<◌, ◌≤◌, ◌*◌, ◌%◌, ◌^◌, ℕ, zero, suc, Bool, true, false, if◌then◌else◌, nat_lt, take, slice_index, ◌+◌, ◌-◌, List, [], ◌∷◌, ◌++◌, length, drop, slice_index_or, refl, sym, ap, ◌∙◌, subst, arith, append_assoc}
use Rattle.std.proofs.Math.Seq.{drop-cons}
use Rattle.std.proofs.lemmas.List.{drop_at, take_at, get_or-drop, get_or-take}
use Rattle.std.proofs.lemmas.Bool.{ltb-true}
use Rattle.fc_bytes.specs.Bits.{bits, low_bits, num}
use Rattle.fc_bytes.specs.BitLaws.{length-low_bits, num-low_bits}
use Rattle.fc_zone.specs.declared.ZoneShape.{ZoneShape}
use Rattle.fc_zone.specs.declared.Run.{Run}
use Rattle.fc_zone.specs.declared.RunKind.TheVariants.{Hole, Id}
use Rattle.fc_zone.specs.Zone.{IsShapeOf, Zone}
use Rattle.fc_zone.specs.Edits.{KeepsOutside, Relabels, Splits, WritesLinks}
use Rattle.fc_zone.specs.Reading.{runs_of}
use Rattle.fc_zone.proofs.ReadingLemmas.{runs_of_zone}
use Rattle.fc_zone.proofs.SpellingLemmas.{one_sector_of}
use Rattle.fc_zone.proofs.WrittenLemmas.{edit_keeps, stays_written}
use Rattle.fc_format.specs.Zones.{CanOwn, IsLaid, last_hole, owned_runs}

-- one edit more
edited : (shape : ZoneShape) (start old new : List ℕ) (before after : List Run) → IsLaid shape start old before → Zone shape new after
    → WritesLinks shape (bits old) (bits new) (runs_of shape old) (runs_of shape new) → KeepsOutside shape old new → length new ≡ length old → IsLaid shape start new after
edited shape start old new before after was zone links outside size =
    let told = runs_of_zone shape old before was.zone in
    let now = runs_of_zone shape new after zone in
    record {
      zone = zone;
      written = stays_written shape old new before after (edit_keeps shape (bits old) (bits new) before after (rw (told, now) at links)) was.written;
      outside = λ k free beyond. outside k free beyond ∙ was.outside k free beyond;
      size = size ∙ was.size;
    }

-- the front of the last hole is split off and labelled
pub front_taken : (shape : ZoneShape) (start old mid new : List ℕ) (front : List Run) (at len id : ℕ) → IsLaid shape start old (front ++ last_hole shape at ∷ [])
    → Splits shape old mid at len → WritesLinks shape (bits old) (bits mid) (runs_of shape old) (runs_of shape mid) → KeepsOutside shape old mid → length mid ≡ length old
    → Relabels shape mid new at (Id id) → WritesLinks shape (bits mid) (bits new) (runs_of shape mid) (runs_of shape new) → KeepsOutside shape mid new → length new ≡ length mid
    → IsLaid shape start new (front ++ record { start = at; len = len; kind = Id id } ∷ (last_hole shape (at + len) ∷ []))
front_taken shape start old mid new front at len id was splits split_links split_outside split_size labels label_links label_outside label_size =
    let left : shape.end - at - len ≡ shape.end - (at + len) = omega arith in
    let cut : Zone shape mid (front ++ record { start = at; len = len; kind = Hole } ∷ (last_hole shape (at + len) ∷ [])) =
    subst (λ (n : ℕ). Zone shape mid (front ++ record { start = at; len = len; kind = Hole } ∷ (record { start = at + len; len = n; kind = Hole } ∷ []))) left (splits front [] (last_hole shape at) was.zone refl) in
    let half = edited shape start old mid (front ++ last_hole shape at ∷ []) (front ++ record { start = at; len = len; kind = Hole } ∷ (last_hole shape (at + len) ∷ [])) was cut split_links split_outside split_size in
    edited shape start mid new (front ++ record { start = at; len = len; kind = Hole } ∷ (last_hole shape (at + len) ∷ [])) (front ++ record { start = at; len = len; kind = Id id } ∷ (last_hole shape (at + len) ∷ []))
    half (labels front (last_hole shape (at + len) ∷ []) (record { start = at; len = len; kind = Hole }) cut refl) label_links label_outside label_size

-- The runs up to place `at` are laid out, and these are left of all.
pub record LaidUpTo (shape : ZoneShape) (start sector : List ℕ) (at : ℕ) (left all : List (ℕ × ℕ)) : Type 0 where
  pub done : List Run
  pub laid : IsLaid shape start sector (done ++ last_hole shape at ∷ [])
  pub split : done ++ owned_runs shape at left ≡ owned_runs shape shape.first all
  pub fits : CanOwn shape at left

pub run_more : (shape : ZoneShape) (start old new : List ℕ) (at : ℕ) (owned : ℕ × ℕ) (left all : List (ℕ × ℕ)) → LaidUpTo shape start old at (owned ∷ left) all
    → ((front : List Run) → IsLaid shape start old (front ++ last_hole shape at ∷ []) → IsLaid shape start new (front ++ record { start = at; len = owned.0; kind = Id owned.1 } ∷ (last_hole shape (at + owned.0) ∷ [])))
    → LaidUpTo shape start new (at + owned.0) left all
run_more shape start old new at owned left all was taken =
    let run : Run = record { start = at; len = owned.0; kind = Id owned.1 } in
    record {
      done = was.done ++ run ∷ [];
      laid = subst (λ (l : List Run). IsLaid shape start new l) (sym (append_assoc was.done (run ∷ []) (last_hole shape (at + owned.0) ∷ []))) (taken was.done was.laid);
      split = append_assoc was.done (run ∷ []) (owned_runs shape (at + owned.0) left) ∙ was.split;
      fits = was.fits.3;
    }

-- the runs from number i on
pub next_owned : (all : List (ℕ × ℕ)) (i : ℕ) → i < length all → drop i all ≡ slice_index_or all i (0, 0) ∷ drop (i + 1) all
next_owned all i lt = let next : suc i ≡ i + 1 = omega arith in drop-cons all i (0, 0) lt ∙ ap (λ (n : ℕ). slice_index_or all i (0, 0) ∷ drop n all) next

-- a sector that is as long has the shape too
pub same_shape : (shape : ZoneShape) (s t : List ℕ) → length t ≡ length s → IsShapeOf s shape → IsShapeOf t shape
same_shape shape s t same is = record {
  size = subst (λ (n : ℕ). (n ≡ 256) ⊎ ((n ≡ 512) ⊎ (n ≡ 1024))) (sym same) is.size;
  header = is.header;
  order = is.order;
  within = subst (λ (n : ℕ). shape.end ≤ 8 * n) (sym same) is.within;
  links_reach = subst (λ (n : ℕ). 8 * n ≤ 2 ^ shape.idlen) (sym same) is.links_reach;
  field = is.field;
  disc_bits_fit = is.disc_bits_fit;
  step = is.step;
  least_whole = is.least_whole;
  least_room = is.least_room;
  least = is.least;
}

-- ---- one spelling, byte for byte

-- a byte is what its bits come to
byte_of : (a b : ℕ) (xs ys : List ℕ) → a < 256 → b < 256 → low_bits 8 a ++ bits xs ≡ low_bits 8 b ++ bits ys → a ≡ b
byte_of a b xs ys a_fits b_fits same =
    let front : low_bits 8 a ≡ low_bits 8 b = sym (take_at (low_bits 8 a) (bits xs) 8 (length-low_bits 8 a)) ∙ ap (λ (l : List ℕ). take 8 l) same ∙ take_at (low_bits 8 b) (bits ys) 8 (length-low_bits 8 b) in
    let number : a % 256 ≡ b % 256 = sym (num-low_bits 8 a) ∙ ap num front ∙ num-low_bits 8 b in
    omega (arith, a_fits, b_fits, number)

-- bytes with the same bits are the same
pub bytes_same : (xs ys : List ℕ) → length xs ≡ length ys → ((i : ℕ) → slice_index xs i < 256) → ((i : ℕ) → slice_index ys i < 256) → bits xs ≡ bits ys → xs ≡ ys
unfolding bits
bytes_same [] [] long xs_fit ys_fit same = refl
bytes_same [] (y ∷ ys) long xs_fit ys_fit same = absurd (omega arith)
bytes_same (x ∷ xs) [] long xs_fit ys_fit same = absurd (omega arith)
bytes_same (x ∷ xs) (y ∷ ys) long xs_fit ys_fit same =
    let first : x ≡ y = byte_of x y xs ys (xs_fit 0) (ys_fit 0) same in
    let rest : bits xs ≡ bits ys =
    sym (drop_at (low_bits 8 x) (bits xs) 8 (length-low_bits 8 x)) ∙ ap (λ (l : List ℕ). drop 8 l) same ∙ drop_at (low_bits 8 y) (bits ys) 8 (length-low_bits 8 y) in
    ap (λ (a : ℕ). a ∷ xs) first ∙ ap (λ (l : List ℕ). y ∷ l) (bytes_same xs ys (omega arith) (λ i. xs_fit (suc i)) (λ i. ys_fit (suc i)) rest)

-- outside FreeLink and the zone's bits two sectors are the same where these parts of their bits are
pub outside_same : (shape : ZoneShape) (s t : List ℕ) → take 8 (bits t) ≡ take 8 (bits s) → take (shape.first - 24) (drop 24 (bits t)) ≡ take (shape.first - 24) (drop 24 (bits s)) → drop shape.end (bits t) ≡ drop shape.end (bits s)
    → KeepsOutside shape s t
outside_same shape s t front middle back k free beyond =
    ⊎_elim
    (λ low. sym (get_or-take 8 (bits t) k 0 low) ∙ ap (λ (l : List ℕ). slice_index l k) front ∙ get_or-take 8 (bits s) k 0 low)
    (λ high.
    ⊎_elim
    (λ before. sym (inside (bits t) k high before) ∙ ap (λ (l : List ℕ). slice_index l (k - 24)) middle ∙ inside (bits s) k high before)
    (λ behind. sym (past (bits t) k behind) ∙ ap (λ (l : List ℕ). slice_index l (k - shape.end)) back ∙ past (bits s) k behind) beyond) free
  where
    inside : (l : List ℕ) (k : ℕ) → 24 ≤ k → k < shape.first → slice_index (take (shape.first - 24) (drop 24 l)) (k - 24) ≡ slice_index l k
    inside l k high before =
        let place : 24 + (k - 24) ≡ k = omega arith in
        get_or-take (shape.first - 24) (drop 24 l) (k - 24) 0 (omega arith) ∙ get_or-drop 24 l (k - 24) 0 ∙ ap (λ (n : ℕ). slice_index l n) place

    past : (l : List ℕ) (k : ℕ) → shape.end ≤ k → slice_index (drop shape.end l) (k - shape.end) ≡ slice_index l k
    past l k behind =
        let place : shape.end + (k - shape.end) ≡ k = omega arith in
        get_or-drop shape.end l (k - shape.end) 0 ∙ ap (λ (n : ℕ). slice_index l n) place

-- what is laid out twice from one start is one sector
pub laid_same : (shape : ZoneShape) (start s t : List ℕ) (runs : List Run) → 32 ≤ shape.first → ((i : ℕ) → slice_index s i < 256) → ((i : ℕ) → slice_index t i < 256) → IsLaid shape start s runs → IsLaid shape start t runs → s ≡ t
laid_same shape start s t runs header s_fits t_fits one two =
    let outside : KeepsOutside shape t s = λ k free beyond. one.outside k free beyond ∙ sym (two.outside k free beyond) in
    let same : bits s ≡ bits t = one_sector_of shape t s runs header two.zone one.zone two.written one.written (one.size ∙ sym two.size) outside in
    bytes_same s t (one.size ∙ sym two.size) s_fits t_fits same

-- bytes by a test
abbrev pub all_bytes : List ℕ → Bool
all_bytes [] = true
all_bytes (b ∷ bs) = if nat_lt b 256 then all_bytes bs else false

pub are_bytes : (l : List ℕ) → all_bytes l ≡ true → (i : ℕ) → slice_index l i < 256
are_bytes [] all i = omega arith
are_bytes (b ∷ bs) all i = go (nat_lt b 256) refl all (are_bytes bs) i
  where
    go : (test : Bool) → nat_lt b 256 ≡ test → (if test then all_bytes bs else false) ≡ true → (all_bytes bs ≡ true → (i : ℕ) → slice_index bs i < 256) → (i : ℕ) → slice_index (b ∷ bs) i < 256
    go true is rest more zero = ltb-true b 256 is
    go true is rest more (suc i) = more rest i
    go false is rest more i = absurd (cc)
