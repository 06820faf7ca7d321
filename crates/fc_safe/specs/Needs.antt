-- What is needed of space, and the plans that meet it.
use Rattle.std.specs.Prelude.{◌≡◌, ◌<◌, ℕ, ◌^◌, Bool, List, [], ◌∷◌, map, Option, Some, None, is_none}
use Rattle.std.specs.Option.{option_map}
use Rattle.fc_names.specs.declared.refusal.Refusal.TheVariants as refusals
use Rattle.fc_record.specs.declared.Geometry.{Geometry}
use Rattle.fc_newmap.specs.Map.{Map, ZoneRun, hole_runs}
use Rattle.fc_image.specs.effects.Placed.{holes_left}
use Rattle.fc_image.specs.effects.Sharing.{new_ids, units}
use Rattle.fc_image.specs.safe.FirstFit.{first_fit}
use Rattle.fc_image.specs.safe.SafeShort.{SafeRefusal, fitted}
use Rattle.fc_plan.specs.declared.plan.Plan.{Plan}
use Rattle.fc_plan.specs.Parts.{fronts, part_of}
use Rattle.fc_plan.specs.Supply.{Stock}
use Rattle.fc_safe.specs.declared.error.SafeError.{SafeError}
use Rattle.fc_safe.specs.declared.error.SafeError.TheVariants as errors
use Rattle.fc_safe.specs.declared.needs.Need.{Need}

-- some bytes, and not too many to count their bits
pub record CanNeed (n : Need) : Type 0 where
  pub some : 0 < n.bytes
  pub few : n.bytes < 2 ^ 63

abbrev pub is_new : Need → Bool
is_new n = is_none n.id

-- the bits of needs
abbrev pub bits_of : Geometry → List Need → List ℕ
bits_of g needs = map (λ (n : Need). units g n.bytes) needs

-- ---- one need

-- The identifier is the one that is asked for, or the first of those that are left.
abbrev pub IsIdOf : Option ℕ → (left rest : List ℕ) → ℕ → Type 0
IsIdOf (Some id) left rest own = (own ≡ id) × (rest ≡ left)
IsIdOf None left rest own = left ≡ own ∷ rest

pub record IsMet (old new : Stock) (n : Need) (plan : Plan) : Type 0 where
  pub fit : option_map (map part_of) (first_fit old.geometry (units old.geometry n.bytes) old.holes) ≡ Some plan.parts.items
  pub id : IsIdOf n.id old.ids new.ids plan.id
  pub geometry : new.geometry ≡ old.geometry
  pub holes : new.holes ≡ holes_left old.holes (fronts plan.parts.items)

-- The holes haven't enough, or memory is short.
abbrev pub IsUnmet : Stock → Need → SafeError → Type 0
IsUnmet left n (errors.Refused r) = (r ≡ refusals.DiscFull) × (first_fit left.geometry (units left.geometry n.bytes) left.holes ≡ None)
IsUnmet left n (errors.Spread zones) = ⊥
IsUnmet left n errors.NoMemory = Unit {0}
IsUnmet left n errors.DiskFault = ⊥

-- ---- all of them

-- what plans take
abbrev pub parts_of : List Plan → List (List ZoneRun)
parts_of plans = map (λ (p : Plan). fronts p.parts.items) plans

-- Each plan has the identifier of its need, new ones in the order of these; so many are left.
abbrev pub HaveIds : List ℕ → List Need → List Plan → List ℕ → Type 0
HaveIds ids [] [] left = left ≡ ids
HaveIds ids (n ∷ needs) (p ∷ plans) left = (rest : List ℕ) × IsIdOf n.id ids rest p.id × HaveIds rest needs plans left
HaveIds ids _ _ left = ⊥

-- Each need is met in what those before it left.
pub record AreMet (m : Map) (needs : List Need) (plans : List Plan) : Type 0 where
  pub left : List ℕ
  pub fit : fitted m (bits_of m.geometry needs) (hole_runs m) ≡ Some (parts_of plans)
  pub ids : HaveIds (new_ids m) needs plans left

-- the refusal if a need finds too little
abbrev pub full_if : Option (List (List ZoneRun)) → Option SafeRefusal
full_if None = Some (SafeRefusal.Refused refusals.DiscFull)
full_if (Some parts) = None

abbrev pub full_for : Map → List ℕ → Option SafeRefusal
full_for m bits = full_if (fitted m bits (hole_runs m))
