-- The gate: how the CrossChecks of the zones that a commit changes are turned, so that no mix of old and new is sound.
use Rattle.std.specs.Prelude.{◌≡◌, ◌<◌, ◌≤◌, ℕ, zero, suc, ◌+◌, ◌-◌, ◌^◌, Bool, true, false, not, ◌==◌, ◌&&◌, List, [], ◌∷◌, length, map, slice_index, slice_index_or, slice_set, if◌then◌else◌, bit_xor}
use Rattle.std.specs.List.{range_with_len, list_any, zip, items_where_true, AllByRecursion}
use Rattle.fc_bytes.specs.Checks.{xor_all, zone_check}
use Rattle.fc_newmap.specs.Copies.{is_sound}

-- what the CrossChecks of k changed zones are exclusively ored with, in rising order of the zones
abbrev pub gate_delta : ℕ → ℕ → ℕ
gate_delta k i = if i + 1 == k then 2 ^ (k - 1) - 1 else 2 ^ i

-- the deltas of k zones, in rising order
abbrev pub gate_deltas : ℕ → List ℕ
gate_deltas k = map (gate_delta k) (range_with_len 0 k)

-- a sector with another CrossCheck, and its right ZoneCheck
abbrev pub with_cross_check : List ℕ → ℕ → List ℕ
with_cross_check sector cross = let turned = slice_set sector 3 cross in slice_set turned 0 (zone_check turned)

-- a sector whose CrossCheck is turned by a delta
abbrev pub gated_sector : List ℕ → ℕ → List ℕ
gated_sector sector delta = with_cross_check sector (bit_xor (slice_index sector 3) delta)

-- the zones of a map, of which some are gated, each by its own delta
abbrev pub gated_by : List (ℕ × ℕ) → List (List ℕ) → List (List ℕ)
gated_by [] zones = zones
gated_by (turn ∷ turns) zones = gated_by turns (slice_set zones turn.0 (gated_sector (slice_index_or zones turn.0 []) turn.1))

-- the zones of a map, of which these changed ones, rising and at most nine, are gated
abbrev pub gated : List ℕ → List (List ℕ) → List (List ℕ)
gated changed zones = gated_by (zip changed (gate_deltas (length changed))) zones

-- ---- no mix is sound

-- The test passes at every choice of some of k zones.
abbrev pub passes_choices : ℕ → (List Bool → Bool) → Bool
passes_choices zero test = test []
passes_choices (suc k) test = passes_choices k (λ flags. test (false ∷ flags)) && passes_choices k (λ flags. test (true ∷ flags))

-- Some are chosen, and some aren't.
abbrev pub is_mixed : List Bool → Bool
is_mixed flags = list_any (λ b. b) flags && list_any not flags

-- the deltas of some zones
abbrev pub chosen_deltas : ℕ → List Bool → List ℕ
chosen_deltas k flags = items_where_true flags (gate_deltas k)

-- The deltas of no mix cancel, and all deltas together do.
abbrev pub is_gate : ℕ → Bool
is_gate k = passes_choices k (λ flags. not (is_mixed flags && (xor_all (chosen_deltas k flags) == 0))) && (xor_all (gate_deltas k) == 0)

-- for 2 to 9 zones
pub record GateHolds : Type 0 where
  pub two : is_gate 2 ≡ true
  pub three : is_gate 3 ≡ true
  pub four : is_gate 4 ≡ true
  pub five : is_gate 5 ≡ true
  pub six : is_gate 6 ≡ true
  pub seven : is_gate 7 ≡ true
  pub eight : is_gate 8 ≡ true
  pub nine : is_gate 9 ≡ true
  pub row : gate_deltas 9 ≡ 1 ∷ 2 ∷ 4 ∷ 8 ∷ 16 ∷ 32 ∷ 64 ∷ 128 ∷ 255 ∷ []

-- A copy in which only some of the changed zones have been written is never sound. Here the old zones are the new ones,
-- sealed, with their old CrossChecks: a sum of CrossChecks depends on nothing else.
abbrev pub MixLaw : Type 0
MixLaw = (zones : List (List ℕ)) (changed : List ℕ) (flags : List Bool) → 2 ≤ length changed → length changed ≤ 9
    → AllByRecursion (λ z. z < length zones) changed → AllByRecursion (λ sector. 4 ≤ length sector) zones
    → length flags ≡ length changed → is_mixed flags ≡ true → is_sound zones ≡ true
    → is_sound (gated_by (items_where_true flags (zip changed (gate_deltas (length changed)))) zones) ≡ false
