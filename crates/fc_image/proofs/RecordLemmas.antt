-- Records that agree in the compared bytes: one is valid where the other is and its own root is right, with one geometry.
use Rattle.std.proofs.Common.{◌≡◌, ℕ, ◌+◌, ◌*◌, ◌^◌, Bool, true, false, cond, List, [], ◌∷◌, refl, sym, ap, ap₂, ◌∙◌, Option, Some, None}
use Rattle.std.specs.Prelude.{Result, Ok, Err, not, ◌==◌, slice_index}
use Rattle.std.specs.List.{find}
use Rattle.std.proofs.lemmas.Bool.{eqb-true, eq-eqb, not-false as not_false}
use Rattle.std.proofs.lemmas.List.{get_or-drop}
use Rattle.fc_bytes.specs.Words.{u16_at, u32_at}
use Rattle.fc_record.specs.declared.DiscRecord.{DiscRecord}
use Rattle.fc_record.specs.Record.{record_of, record_fault, is_root_right, is_root_size_right}
use Rattle.fc_record.proofs.FaultLemmas.{valid_meets, none_fails}
use Rattle.fc_image.specs.declared.ImageFault.{ImageFault}
use Rattle.fc_image.specs.declared.ImageFault.TheVariants as faults
use Rattle.fc_image.specs.Opening.{compared_offsets, byte_compared, difference, agreement}

-- ---- what was compared

-- none of the elements passes
abbrev NonePass : (ℕ → Bool) → List ℕ → Type 0
NonePass t [] = Unit {0}
NonePass t (x ∷ xs) = (t x ≡ false) × NonePass t xs

none_pass : (t : ℕ → Bool) (xs : List ℕ) → find t xs ≡ None → NonePass t xs
none_pass t [] e = tt
none_pass t (x ∷ xs) e = by (t x) e (none_pass t xs)
  where
    by : (b : Bool) → cond b (Some x) (find t xs) ≡ None → (find t xs ≡ None → NonePass t xs) → (b ≡ false) × NonePass t xs
    by true h rest = absurd (cc)
    by false h rest = (refl, rest h)

same_byte : (a b : ℕ) → not (a == b) ≡ false → b ≡ a
same_byte a b e = sym (eqb-true a b (not_false (a == b) e))

-- ---- the fields

-- the number of two bytes
two_bytes : (xs ys : List ℕ) (at : ℕ) → slice_index ys (at + 0) ≡ slice_index xs (at + 0) → slice_index ys (at + 1) ≡ slice_index xs (at + 1) → u16_at ys at ≡ u16_at xs at
two_bytes xs ys at a b =
    ap₂ (λ (m n : ℕ). m + 256 * (n + 256 * 0)) (get_or-drop at ys 0 0 ∙ a ∙ sym (get_or-drop at xs 0 0)) (get_or-drop at ys 1 0 ∙ b ∙ sym (get_or-drop at xs 1 0))

-- the number of four
four_bytes : (xs ys : List ℕ) (at : ℕ) → slice_index ys (at + 0) ≡ slice_index xs (at + 0) → slice_index ys (at + 1) ≡ slice_index xs (at + 1)
    → slice_index ys (at + 2) ≡ slice_index xs (at + 2) → slice_index ys (at + 3) ≡ slice_index xs (at + 3) → u32_at ys at ≡ u32_at xs at
four_bytes xs ys at a b c d =
    let one = get_or-drop at ys 0 0 ∙ a ∙ sym (get_or-drop at xs 0 0) in
    let two = get_or-drop at ys 1 0 ∙ b ∙ sym (get_or-drop at xs 1 0) in
    let three = get_or-drop at ys 2 0 ∙ c ∙ sym (get_or-drop at xs 2 0) in
    let four = get_or-drop at ys 3 0 ∙ d ∙ sym (get_or-drop at xs 3 0) in
    ap₂ (λ (m n : ℕ). m + 256 * n) one (ap₂ (λ (m n : ℕ). m + 256 * n) two (ap₂ (λ (m n : ℕ). m + 256 * (n + 256 * 0)) three four))

-- the record with another root, root size and bytes
abbrev pub rooted : DiscRecord → ℕ → ℕ → List ℕ → DiscRecord
rooted r root root_size raw = record r { root = root; root_size = root_size; raw = raw }

-- records that agree differ in root and root size alone
agree_raw : (xs ys : List ℕ) → difference (record_of xs) (record_of ys) ≡ None
    → record_of ys ≡ rooted (record_of xs) (record_of ys).root (record_of ys).root_size ys
agree_raw xs ys e =
    let c = none_pass (λ at. not (byte_compared (record_of xs) at == byte_compared (record_of ys) at)) compared_offsets e in
    let log2_sector = same_byte _ _ c.0 in
    let idlen = same_byte _ _ c.1.0 in
    let log2_bit = same_byte _ _ c.1.1.0 in
    let zones_low = same_byte _ _ c.1.1.1.0 in
    let spare_low = same_byte _ _ c.1.1.1.1.0 in
    let spare_high = same_byte _ _ c.1.1.1.1.1.0 in
    let s = c.1.1.1.1.1.1 in
    let size_low = four_bytes xs ys 16 (same_byte _ _ s.0) (same_byte _ _ s.1.0) (same_byte _ _ s.1.1.0) (same_byte _ _ s.1.1.1.0) in
    let t = s.1.1.1.1 in
    let size_high = four_bytes xs ys 36 (same_byte _ _ t.0) (same_byte _ _ t.1.0) (same_byte _ _ t.1.1.0) (same_byte _ _ t.1.1.1.0) in
    let u = t.1.1.1.1 in
    let share = same_byte _ _ u.0 in
    let zones_high = same_byte _ _ u.1.0 in
    let v = u.1.1 in
    let version = four_bytes xs ys 44 (same_byte _ _ v.0) (same_byte _ _ v.1.0) (same_byte _ _ v.1.1.0) (same_byte _ _ v.1.1.1.0) in
    let zones = ap₂ (λ (m n : ℕ). m + 256 * n) zones_low zones_high in
    let spare = two_bytes xs ys 10 spare_low spare_high in
    let size = ap₂ (λ (m n : ℕ). m + 2 ^ 32 * n) size_low size_high in
    λ i. record {
      log2_sector = log2_sector i;
      idlen = idlen i;
      log2_bit = log2_bit i;
      zones = zones i;
      spare = spare i;
      root = (record_of ys).root;
      size = size i;
      log2_share = share i;
      version = version i;
      root_size = (record_of ys).root_size;
      raw = ys;
    }

pub agree : (r s : DiscRecord) → r ≡ record_of r.raw → s ≡ record_of s.raw → difference r s ≡ None → s ≡ rooted r s.root s.root_size s.raw
agree r s own own' e =
    let both : difference (record_of r.raw) (record_of s.raw) ≡ None = ap₂ difference (sym own) (sym own') ∙ e in
    own'
    ∙ agree_raw r.raw s.raw both
    ∙ ap₂ (λ (q t : DiscRecord). rooted q t.root t.root_size s.raw) (sym own) (sym own')

-- ---- valid records

-- a valid record with another root that is right is valid
pub valid_rooted : (r : DiscRecord) (root root_size : ℕ) (raw : List ℕ) → record_fault r ≡ None → is_root_right (rooted r root root_size raw) ≡ true
    → is_root_size_right (rooted r root root_size raw) ≡ true → record_fault (rooted r root root_size raw) ≡ None
valid_rooted r root root_size raw e right size_right =
    let m = valid_meets r e in
    sym (none_fails (rooted r root root_size raw) (sym m.sector) (sym m.idlen) (sym m.bit) (sym m.zones) (sym m.spare) (sym m.size) (sym right) (sym size_right))

-- what an agreement says
agreed_by : (r s own : DiscRecord) (d : Option ℕ) → agreement r s d ≡ Ok own → (d ≡ None) × (is_root_right s ≡ true) × (is_root_size_right s ≡ true) × (s ≡ own)
agreed_by r s own (Some at) e = absurd (cc)
agreed_by r s own None e = let p = by (is_root_right s) (is_root_size_right s) e in (refl, p.0, p.1, p.2)
  where
    record_ok : (x y : DiscRecord) → (let q : Result DiscRecord ImageFault = Ok x in q) ≡ Ok y → x ≡ y
    record_ok x y h = cc

    by : (a b : Bool) → cond (not a) (Err (faults.Bad 12)) (cond (not b) (Err (faults.Bad 48)) (Ok s)) ≡ Ok own
        → (a ≡ true) × (b ≡ true) × (s ≡ own)
    by false b h = absurd (cc)
    by true false h = absurd (cc)
    by true true h = (refl, refl, record_ok s own h)

pub agreed_own : (r s own : DiscRecord) (d : Option ℕ) → agreement r s d ≡ Ok own → s ≡ own
agreed_own r s own d e = (agreed_by r s own d e).3

-- The map's record that agrees with a valid one is valid, and differs from it in root and root size alone.
pub record Agreed (r s : DiscRecord) : Type 0 where
  pub valid : record_fault s ≡ None
  pub same : s ≡ rooted r s.root s.root_size s.raw
  pub root : is_root_right s ≡ true
  pub root_size : is_root_size_right s ≡ true

pub agreed_valid : (r s own : DiscRecord) → r ≡ record_of r.raw → s ≡ record_of s.raw → record_fault r ≡ None → agreement r s (difference r s) ≡ Ok own → Agreed r s
agreed_valid r s own r_own s_own valid e =
    let a = agreed_by r s own (difference r s) e in
    let same = agree r s r_own s_own a.0 in
    record {
      valid = ap record_fault same
          ∙ valid_rooted r s.root s.root_size s.raw valid (ap is_root_right (sym same) ∙ a.1) (ap is_root_size_right (sym same) ∙ a.2);
      same = same;
      root = a.1;
      root_size = a.2;
    }

-- ---- a record and itself

same_itself : (a : ℕ) → not (a == a) ≡ false
same_itself a = ap not (eq-eqb a a refl)

none_differs : (r : DiscRecord) (xs : List ℕ) → find (λ at. not (byte_compared r at == byte_compared r at)) xs ≡ None
none_differs r [] = refl
none_differs r (x ∷ xs) = ap (λ (b : Bool). cond b (Some x) (find (λ at. not (byte_compared r at == byte_compared r at)) xs)) (same_itself (byte_compared r x)) ∙ none_differs r xs

-- a record with a right root agrees with itself
pub agrees_itself : (s : DiscRecord) → is_root_right s ≡ true → is_root_size_right s ≡ true → agreement s s (difference s s) ≡ Ok s
agrees_itself s right size_right = ap (agreement s s) (none_differs s compared_offsets) ∙ by (is_root_right s) (is_root_size_right s) right size_right
  where
    by : (a b : Bool) → a ≡ true → b ≡ true → cond (not a) (Err (faults.Bad 12)) (cond (not b) (Err (faults.Bad 48)) (Ok s)) ≡ Ok s
    by true true e f = refl
    by true false e f = absurd (cc)
    by false b e f = absurd (cc)
