-- The rows of a tally, with a run more or a run less.
use Rattle.std.proofs.Common.{◌≡◌, ◌<◌, ℕ, ◌+◌, ◌-◌, Bool, true, false, cond, List, length, refl, sym, ap, ap₂, subst, inl, inr, arith, eq-eqb}
use Rattle.std.specs.Prelude.{◌⊎◌, ◌==◌}
use Rattle.std.proofs.lemmas.Bool.{cases_eq, ne_eqb}
use Rattle.std.proofs.lemmas.List.{get_or-set_other, get_or-set_same, length-set}
use Rattle.fc_bytes.specs.Bits.{bits}
use Rattle.fc_record.specs.declared.Geometry.{Geometry}
use Rattle.fc_zone.specs.declared.RunKind.{RunKind}
use Rattle.fc_zone.specs.declared.RunKind.TheVariants.{Hole, Id}
use Rattle.fc_newmap.specs.declared.tally.IdTally.{IdTally}
use Rattle.fc_newmap.specs.Map.{has_id}
use Rattle.fc_newmap.specs.Tally.{counted, no_row, no_runs, row_left, row_less, row_of, row_only, row_with, uncounted, zones_before}
use Rattle.fc_newmap.proofs.BitSumLemmas.{share}

-- ---- the tally

pub counted_long : (g : Geometry) (rows : List IdTally) (z : ℕ) (kind : RunKind) (start len : ℕ) → length (counted g rows z kind start len) ≡ length rows
counted_long g rows z Hole start len = refl
counted_long g rows z (Id id) start len = length-set rows id (row_with (row_of rows id) (zones_before g id z) start len)

-- the row of an identifier, with a run more
pub counted_row : (g : Geometry) (rows : List IdTally) (z : ℕ) (kind : RunKind) (start len id : ℕ) → id < length rows
    → ((has_id id kind ≡ false) × (row_of (counted g rows z kind start len) id ≡ row_of rows id))
    ⊎ ((has_id id kind ≡ true) × (row_of (counted g rows z kind start len) id ≡ row_with (row_of rows id) (zones_before g id z) start len))
counted_row g rows z Hole start len id low = inl (refl, refl)
counted_row g rows z (Id k) start len id low = elim (cases_eq k id) [
  | inl same ↦ inr (
    eq-eqb k id same,
    subst (λ (j : ℕ). row_of (counted g rows z (Id j) start len) id ≡ row_with (row_of rows id) (zones_before g id z) start len) (sym same)
        (get_or-set_same rows id (row_with (row_of rows id) (zones_before g id z) start len) no_row low),
  )
  | inr other ↦ inl (ne_eqb k id other, get_or-set_other rows k id (row_with (row_of rows k) (zones_before g k z) start len) no_row (λ h. other (sym h)))
]

pub share_is : (id : ℕ) (kind : RunKind) (len : ℕ) (b : Bool) → has_id id kind ≡ b → share id kind len ≡ cond b len 0
share_is id kind len b e = ap (λ (c : Bool). cond c len 0) e

pub counted_bits : (g : Geometry) (rows : List IdTally) (z : ℕ) (kind : RunKind) (start len id : ℕ) → id < length rows → (row_of (counted g rows z kind start len) id).bits ≡ (row_of rows id).bits + share id kind len
counted_bits g rows z kind start len id low = elim (counted_row g rows z kind start len id low) [
  | inl other ↦ (let is = ap (λ (r : IdTally). r.bits) other.1 in omega (arith, is, share_is id kind len false other.0))
  | inr mine ↦ (let is = ap (λ (r : IdTally). r.bits) mine.1 in omega (arith, is, share_is id kind len true mine.0))
]

pub uncounted_long : (g : Geometry) (rows : List IdTally) (z : ℕ) (kind : RunKind) (start len : ℕ) → length (uncounted g rows z kind start len) ≡ length rows
uncounted_long g rows z Hole start len = refl
uncounted_long g rows z (Id id) start len = length-set rows id (row_less g (row_of rows id) (zones_before g id z) start len)

-- the row of an identifier, with a run less
pub uncounted_row : (g : Geometry) (rows : List IdTally) (z : ℕ) (kind : RunKind) (start len id : ℕ) → id < length rows
    → ((has_id id kind ≡ false) × (row_of (uncounted g rows z kind start len) id ≡ row_of rows id))
    ⊎ ((has_id id kind ≡ true) × (row_of (uncounted g rows z kind start len) id ≡ row_less g (row_of rows id) (zones_before g id z) start len))
uncounted_row g rows z Hole start len id low = inl (refl, refl)
uncounted_row g rows z (Id k) start len id low = elim (cases_eq k id) [
  | inl same ↦ inr (
    eq-eqb k id same,
    subst (λ (j : ℕ). row_of (uncounted g rows z (Id j) start len) id ≡ row_less g (row_of rows id) (zones_before g id z) start len) (sym same)
        (get_or-set_same rows id (row_less g (row_of rows id) (zones_before g id z) start len) no_row low),
  )
  | inr other ↦ inl (ne_eqb k id other, get_or-set_other rows k id (row_less g (row_of rows k) (zones_before g k z) start len) no_row (λ h. other (sym h)))
]

-- it has no bits left, those of the newest run alone, or others
module _ (g : Geometry) (row : IdTally) (before start len : ℕ) where
  abbrev less_by : Bool → Bool → IdTally
  less_by none only =
      let left = row_left row before start len in
      cond none (no_runs g) (cond only (row_only left) left)

  pub less_none : row.bits ≡ len → row_less g row before start len ≡ no_runs g
  less_none e = ap (λ (b : Bool). less_by b ((row_left row before start len).bits == (row_left row before start len).newest.len)) (eq-eqb row.bits len e)

  pub less_only : (row.bits ≡ len → ⊥) → (row_left row before start len).bits ≡ (row_left row before start len).newest.len → row_less g row before start len ≡ row_only (row_left row before start len)
  less_only other e = ap₂ less_by (ne_eqb row.bits len other) (eq-eqb _ _ e)

  pub less_some : (row.bits ≡ len → ⊥) → ((row_left row before start len).bits ≡ (row_left row before start len).newest.len → ⊥) → row_less g row before start len ≡ row_left row before start len
  less_some other e = ap₂ less_by (ne_eqb row.bits len other) (ne_eqb _ _ e)

  pub less_bits_are : (row_less g row before start len).bits ≡ row.bits - len
  less_bits_are = elim (cases_eq row.bits len) [
    | inl last ↦ (let now = ap (λ (r : IdTally). r.bits) (less_none last) in omega (arith, now, last))
    | inr more ↦ elim (cases_eq (row_left row before start len).bits (row_left row before start len).newest.len) [
      | inl only ↦ ap (λ (r : IdTally). r.bits) (less_only more only)
      | inr other ↦ ap (λ (r : IdTally). r.bits) (less_some more other)
    ]
  ]
