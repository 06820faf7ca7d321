-- What the file leaves that another replaces, on a new map: its identifier goes back, unless it stays another's.
use Rattle.std.proofs.Common.{◌≡◌, ◌<◌, ◌≤◌, ◌==◌, ◌||◌, ◌*◌, ℕ, zero, suc, Bool, true, false, List, [], ◌∷◌, length, refl, sym, ap, subst, ◌∙◌, arith, Option, Some, None}
use Rattle.std.specs.Prelude.{IsPermutation, nat_lt}
use Rattle.std.specs.Int.{div_ceil}
use Rattle.std.specs.List.{list_any}
use Rattle.std.proofs.lemmas.Bool.{eq-eqb, lt-ltb, or_right as or_second}
use Rattle.std.proofs.lemmas.Grind.{div_ceil_times}
use Rattle.fc_alloc.specs.declared.owner.Owner.{Owner}
use Rattle.fc_newmap.specs.Map.{Map, is_used}
use Rattle.fc_newmap.specs.NewMap.{IsNewMap}
use Rattle.fc_image.specs.Layout.{Layout}
use Rattle.fc_image.specs.Objects.{is_owner_of, objects_of}
use Rattle.fc_image.specs.Sound.{AreSound}
use Rattle.fc_image.specs.Walk.{Listing, Object}
use Rattle.fc_changes.specs.Owed.{GivesBack}
use Rattle.fc_changes.proofs.SpaceLemmas.{still_owned}
use Rattle.fc_laws.specs.nodes.Edits.{Nodes}
use Rattle.fc_laws.proofs.lemmas.agree.BeforeLemmas.{new_shape}
use Rattle.fc_placing.specs.Leaving.{LeavesUsed, OwnOnly, is_kept}
use Rattle.fc_placing.specs.declared.placing.Placing.{Placing}
use Rattle.fc_placing.specs.declared.placing.Placing.TheVariants as placings
use Rattle.fc_plan.specs.Giving.{is_one_of}
use Rattle.fc_tree.specs.Parts.{AreOwners}
use Rattle.fc_change.specs.declared.job.Wants.{Wants}
use Rattle.fc_change.specs.Places.{IsPlacingFor, plan_in}
use Rattle.fc_commands.proofs.StayingLemmas.{no_ceil}
use Rattle.fc_commands.proofs.StepLemmas.{StaysTaken}

-- Some bytes take some sectors.
pub some_sectors : (m : Map) (bytes : ℕ) → IsNewMap m → nat_lt 0 (div_ceil bytes m.geometry.sector) ≡ nat_lt 0 bytes
some_sectors m bytes is = by bytes
  where
    size : ℕ
    size = m.geometry.sector

    many : (n q : ℕ) → n ≤ q * size → 0 < n → nat_lt 0 q ≡ true
    many n zero most some = absurd (omega (arith, most, some))
    many n (suc q) most some = lt-ltb 0 (suc q) (omega arith)

    by : (n : ℕ) → nat_lt 0 (div_ceil n size) ≡ nat_lt 0 n
    by zero = ap (nat_lt 0) (no_ceil size)
    by (suc n) = many (suc n) (div_ceil (suc n) size) (div_ceil_times (suc n) size (new_shape m is).some).0 (omega arith) ∙ sym (lt-ltb 0 (suc n) (omega arith))

module _ (m : Map) (nodes : Nodes) (owners : List Owner) (is : IsNewMap m) (listings : List Listing) (sound : AreSound (Layout.New m) listings) (owned : AreOwners owners nodes (Layout.New m) (objects_of listings))
    (gone : List ℕ) (used : LeavesUsed owners gone) where
  -- what is taken stays: its identifier had no runs
  pub stays_left : (w : Wants) (q : Placing) → IsPlacingFor m owners w q → StaysTaken (plan_in q) gone
  stays_left w placings.Nowhere is_for = tt
  stays_left w (placings.Shared share) is_for = tt
  stays_left w (placings.New plan) is_for = used m nodes listings plan.id is sound owned is_for.1.unused

  -- So does an identifier that the new file shares.
  pub shared_left : (stay : List Object) (o : Object) (shared : Option ℕ) → GivesBack m gone (objects_of listings) (o ∷ stay) → OwnOnly m shared (o ∷ []) → (id : ℕ) → shared ≡ Some id → is_one_of gone id ≡ false
  shared_left stay o shared gives only id is_shared = by (is_used m id) refl
    where
      among : (b : Bool) → (b || false) ≡ true → (b || list_any (is_owner_of id) stay) ≡ true
      among true e = refl
      among false e = absurd (cc)

      by : (b : Bool) → is_used m id ≡ b → is_one_of gone id ≡ false
      by true in_use =
          let owns : (is_owner_of id o || false) ≡ true = only id in_use ∙ ap (λ (s : Option ℕ). is_kept s id) is_shared ∙ eq-eqb id id refl in
          gives.exactly id in_use ∙ still_owned (objects_of listings) (o ∷ stay) id (or_second (id == 2) (list_any (is_owner_of id) (o ∷ stay)) (among (is_owner_of id o) owns))
      by false unused = used m nodes listings id is sound owned unused
