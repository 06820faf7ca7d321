-- What edits and a commit leave of a map's bytes: the record in zone 0, the CrossChecks, and the bits outside the runs.
use Rattle.std.proofs.Common.{◌≡◌, ◌<◌, ◌≤◌, ◌⊎◌, inl, inr, ℕ, suc, ◌+◌, ◌-◌, ◌*◌, ◌/◌, ◌%◌, List, [], ◌∷◌, length, take, drop, get_or, refl, sym, ap, subst, ◌∙◌, arith}
use Rattle.std.specs.Prelude.{slice_index, slice_range, Contains}
use Rattle.std.specs.List.{AllByRecursion}
use Rattle.std.proofs.lemmas.List.{ext_get_or, get_or-drop, get_or-take, length-take, length-drop}
use Rattle.std.proofs.lemmas.Nat.{div-add-mod'}
use Rattle.fc_bytes.specs.Bits.{bits, low_bits}
use Rattle.fc_bytes.specs.BitLaws.{bits-drop, length-bits, slice_range-same}
use Rattle.fc_bytes.specs.Words.{bytes_at}
use Rattle.fc_record.specs.declared.Geometry.{Geometry}
use Rattle.fc_record.specs.Kinds.{map_record}
use Rattle.fc_record.specs.Record.{end_bit, first_bit, record_of}
use Rattle.fc_zone.specs.declared.Run.{Run}
use Rattle.fc_zone.specs.Edits.{KeepsLinks}
use Rattle.fc_zone.specs.Zone.{hole_starts}
use Rattle.fc_zone.proofs.EditLemmas.{field_at-same}
use Rattle.fc_zone.proofs.WrittenLemmas.{keeps_then}
use Rattle.fc_zone.proofs.ZoneLemmas.{holes_are_runs, starts_within}
use Rattle.fc_newmap.specs.Edits.{AreEdits, KeepsRuns}
use Rattle.fc_newmap.specs.Map.{Map, runs_of, sector_of, shape}
use Rattle.fc_newmap.proofs.GeometryLemmas.{header_high}
use Rattle.fc_newmap.proofs.HeldLemmas.{shape_fits}
use Rattle.fc_newmap.specs.Committing.{CanWrite, KeepsContents}
use Rattle.fc_newmap.specs.Copies.{HoldsCopies}
use Rattle.fc_compact.specs.Compaction.{ZoneStays}
use Rattle.fc_bytes.proofs.ByteLemmas.{first_bits}

-- a bit of a byte that is the same
bit_in : (s t : List ℕ) (i j : ℕ) → length t ≡ length s → slice_index t i ≡ slice_index s i → j < 8 → get_or (bits t) (8 * i + j) 0 ≡ get_or (bits s) (8 * i + j) 0
bit_in s t i j size same low = sym (bit t) ∙ by (drop i s) (drop i t) refl refl ∙ bit s
  where
    at : (l : List ℕ) → get_or (drop i l) 0 0 ≡ get_or l i 0
    at l = get_or-drop i l 0 0 ∙ ap (λ (k : ℕ). get_or l k 0) (let e : i + 0 ≡ i = omega arith in e)

    bit : (l : List ℕ) → get_or (bits (drop i l)) j 0 ≡ get_or (bits l) (8 * i + j) 0
    bit l = ap (λ (bs : List ℕ). get_or bs j 0) (bits-drop i l) ∙ get_or-drop (8 * i) (bits l) j 0

    by : (u v : List ℕ) → drop i s ≡ u → drop i t ≡ v → get_or (bits (drop i t)) j 0 ≡ get_or (bits (drop i s)) j 0
    by [] [] es et = ap (λ (l : List ℕ). get_or (bits l) j 0) (et ∙ sym es)
    by [] (y ∷ v) es et = absurd (let a = ap length es in let b = ap length et in omega (arith, a, b, length-drop i s, length-drop i t, size))
    by (x ∷ u) [] es et = absurd (let a = ap length es in let b = ap length et in omega (arith, a, b, length-drop i s, length-drop i t, size))
    by (x ∷ u) (y ∷ v) es et =
        let is_x : get_or s i 0 ≡ x = sym (at s) ∙ ap (λ (l : List ℕ). get_or l 0 0) es in
        let is_y : get_or t i 0 ≡ y = sym (at t) ∙ ap (λ (l : List ℕ). get_or l 0 0) et in
        ap (λ (l : List ℕ). get_or (bits l) j 0) et ∙ first_bits y v j low ∙ ap (λ (b : ℕ). get_or (low_bits 8 b) j 0) (sym is_y ∙ same ∙ is_x) ∙ sym (first_bits x u j low)
        ∙ sym (ap (λ (l : List ℕ). get_or (bits l) j 0) es)

pub bit_same : (s t : List ℕ) (k : ℕ) → length t ≡ length s → slice_index t (k / 8) ≡ slice_index s (k / 8) → slice_index (bits t) k ≡ slice_index (bits s) k
bit_same s t k size same =
    let parts = div-add-mod' k 8 in
    let e : 8 * (k / 8) + k % 8 ≡ k = omega (arith, parts) in
    subst (λ (n : ℕ). get_or (bits t) n 0 ≡ get_or (bits s) n 0) e (bit_in s t (k / 8) (k % 8) size same (mod_low k))
  where
    mod_low : (n : ℕ) → n % 8 < 8
    mod_low n = omega arith

-- the same bytes of a row
bytes_same : (s t : List ℕ) (at n : ℕ) → length t ≡ length s → ((i : ℕ) → at ≤ i → i < at + n → slice_index t i ≡ slice_index s i) → bytes_at t at n ≡ bytes_at s at n
bytes_same s t at n size same =
    ext_get_or 0 (take n (drop at t)) (take n (drop at s)) (omega (arith, length-take n (drop at t), length-take n (drop at s), length-drop at t, length-drop at s, size))
    (λ k h.
    let low : k < n = omega (arith, h, length-take n (drop at t)) in
    get_or-take n (drop at t) k 0 low ∙ get_or-drop at t k 0 ∙ same (at + k) (omega arith) (omega (arith, low)) ∙ sym (get_or-take n (drop at s) k 0 low ∙ get_or-drop at s k 0))

-- the bits after a place
behind_same : (xs ys : List ℕ) (at : ℕ) → length ys ≡ length xs → ((k : ℕ) → at ≤ k → slice_index ys k ≡ slice_index xs k) → drop at ys ≡ drop at xs
behind_same xs ys at size same =
    ext_get_or 0 (drop at ys) (drop at xs) (omega (arith, length-drop at ys, length-drop at xs, size))
    (λ k h. get_or-drop at ys k 0 ∙ same (at + k) (omega arith) ∙ sym (get_or-drop at xs k 0))

pub all_in : (P : ℕ → Type 0) (places : List ℕ) → ((p : ℕ) → Contains places p → P p) → AllByRecursion P places
all_in P [] each = tt
all_in P (x ∷ places) each = (each x (0, omega arith, refl), all_in P places (λ p c. each p (later p c)))
  where
    later : (p : ℕ) → Contains places p → Contains (x ∷ places) p
    later p (k, low, e) = (suc k, omega (arith, low), e)

-- ---- a map m, edited to n, and committed as m'

module _ (m n m' : Map) (edits : AreEdits m n) (runs : KeepsRuns n m') (contents : KeepsContents n m') where
  pub committed_geometry : m'.geometry ≡ m.geometry
  committed_geometry = runs.geometry ∙ edits.geometry

  -- so are its zones as long
  size : (z : ℕ) → z < m.geometry.zones → length (sector_of m' z) ≡ length (sector_of m z)
  size z low =
      runs.map.whole z (subst (λ (g : Geometry). z < g.zones) (sym committed_geometry) low) ∙ ap (λ (g : Geometry). g.sector) committed_geometry ∙ sym (edits.was.whole z low)

  size_n : (z : ℕ) → z < m.geometry.zones → length (sector_of m' z) ≡ length (sector_of n z)
  size_n z low =
      runs.map.whole z (subst (λ (g : Geometry). z < g.zones) (sym committed_geometry) low) ∙ ap (λ (g : Geometry). g.sector) runs.geometry
      ∙ sym (edits.map.whole z (subst (λ (g : Geometry). z < g.zones) (sym edits.geometry) low))

  pub committed_record : 0 < m.geometry.zones → map_record (sector_of m' 0) ≡ map_record (sector_of m 0)
  committed_record low =
      ap record_of
      (bytes_same (sector_of m 0) (sector_of m' 0) 4 60 (size 0 low)
      (λ i past before. contents 0 i (λ e. omega arith) (λ e. omega arith) ∙ edits.bytes 0 i (inr (omega arith)) (inl (omega (arith, before)))))

  -- the bits from the header on are the edited ones,
  bit_kept : (z k : ℕ) → z < m.geometry.zones → 32 ≤ k → slice_index (bits (sector_of m' z)) k ≡ slice_index (bits (sector_of n z)) k
  bit_kept z k low past =
      let parts = div-add-mod' k 8 in
      bit_same (sector_of n z) (sector_of m' z) k (size_n z low) (contents z (k / 8) (λ e. omega (arith, parts, e)) (λ e. omega (arith, parts, e)))

  -- and those outside the runs the old ones
  bit_outside : (z k : ℕ) → z < m.geometry.zones → 32 ≤ k → (k < first_bit z) ⊎ (end_bit m.geometry z ≤ k) → slice_index (bits (sector_of m' z)) k ≡ slice_index (bits (sector_of m z)) k
  bit_outside z k low past beyond = bit_kept z k low past ∙ edits.outside z k (inr (omega arith)) beyond

  bits_long : (s t : List ℕ) → length t ≡ length s → length (bits s) ≡ length (bits t)
  bits_long s t e = length-bits s ∙ ap (λ k. 8 * k) (sym e) ∙ sym (length-bits t)

  committed_links : (z : ℕ) → z < m.geometry.zones → KeepsLinks (shape n.geometry z) (bits (sector_of n z)) (bits (sector_of m' z)) (runs_of n z) (runs_of m' z)
  committed_links z low =
      let below : z < n.geometry.zones = subst (λ (g : Geometry). z < g.zones) (sym edits.geometry) low in
      let zone = edits.map.right z below in
      let long = bits_long (sector_of n z) (sector_of m' z) (size_n z low) in
      subst (λ (rs : List Run). KeepsLinks (shape n.geometry z) (bits (sector_of n z)) (bits (sector_of m' z)) (runs_of n z) rs) (sym (runs.runs z))
      record {
        free_link = inl (slice_range-same (bits (sector_of n z)) (bits (sector_of m' z)) 8 16 long
            (λ k from to.
            let parts = div-add-mod' k 8 in
            bit_same (sector_of n z) (sector_of m' z) k (size_n z low) (contents z (k / 8) (λ e. omega (arith, parts, e)) (λ e. omega (arith, parts, e, to)))));
        fields = all_in _ (hole_starts (runs_of n z))
            (λ p c. inl (
              c,
              field_at-same (shape n.geometry z) (bits (sector_of n z)) (bits (sector_of m' z)) long p
                  (λ k from to.
                  let within = (starts_within (shape n.geometry z) (bits (sector_of n z)) (runs_of n z) (shape n.geometry z).first (shape n.geometry z).end p zone.spelled (holes_are_runs (runs_of n z) p c)).0 in
                  bit_kept z k low (omega (arith, from, within, header_high z))),
            ));
      }

  pub committed_zone : (z : ℕ) → z < m.geometry.zones → ZoneStays m m' z
  committed_zone z low =
      let high = header_high z in
      let e : 32 + (first_bit z - 32) ≡ first_bit z = omega (arith, high) in
      record {
        outside = record {
          header = subst (λ (k : ℕ). slice_range (bits (sector_of m' z)) 32 k ≡ slice_range (bits (sector_of m z)) 32 k) e
              (slice_range-same (bits (sector_of m z)) (bits (sector_of m' z)) 32 (first_bit z - 32) (bits_long (sector_of m z) (sector_of m' z) (size z low))
              (λ k from to. bit_outside z k low from (inl (omega (arith, to, high)))));
          behind = behind_same (bits (sector_of m z)) (bits (sector_of m' z)) (end_bit m.geometry z) (sym (bits_long (sector_of m z) (sector_of m' z) (size z low)))
              (λ k from. bit_outside z k low (omega (arith, from, behind_header z low)) (inr from));
        };
        links = keeps_then (shape m.geometry z) (bits (sector_of m z)) (bits (sector_of n z)) (bits (sector_of m' z)) (runs_of m z) (runs_of n z) (runs_of m' z) (edits.links z)
            (subst (λ (g : Geometry). KeepsLinks (shape g z) (bits (sector_of n z)) (bits (sector_of m' z)) (runs_of n z) (runs_of m' z)) edits.geometry (committed_links z low));
      }
    where
      behind_header : (z : ℕ) → z < m.geometry.zones → 32 ≤ end_bit m.geometry z
      behind_header z low = (let fits = shape_fits m.geometry z (sector_of m z) edits.was.of_record low (edits.was.whole z low) in let o = fits.order in omega (arith, o, header_high z))

module _ (m n : Map) (edits : AreEdits m n) where
  pub can_write : (changed image : List ℕ) → HoldsCopies m.geometry m.zones image → ((y : ℕ) → y < m.geometry.zones → (Contains changed y → ⊥) → sector_of n y ≡ sector_of m y) → CanWrite n changed image
  can_write changed image copies others = record {
    base = m.zones;
    copies = subst (λ (g : Geometry). HoldsCopies g m.zones image) (sym edits.geometry) copies;
    crosses = λ y lt. edits.bytes y 3 (inr (omega arith)) (inl (header_high y));
    others = λ y lt out. others y (subst (λ (g : Geometry). y < g.zones) edits.geometry lt) out;
  }
