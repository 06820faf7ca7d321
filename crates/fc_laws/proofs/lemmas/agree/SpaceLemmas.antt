-- What stays in its place if runs of the map are taken and go back.
use Rattle.std.proofs.Common.{◌≡◌, ◌<◌, ◌≤◌, inl, inr, ℕ, Bool, true, false, List, ◌++◌, length, refl, ap, ◌∙◌}
use Rattle.std.specs.Prelude.{Contains, nat_le, ◌==◌, ◌||◌, ◌&&◌}
use Rattle.std.specs.List.{list_any}
use Rattle.std.proofs.lemmas.Bool.{eqb-true, or_right as or_second, false_from_ne_true as unless}
use Rattle.std.proofs.lemmas.List.Elements.{Contains-append_cases, Contains-append_right}
use Rattle.fc_newmap.specs.Map.{Map, ZoneRun, all_runs, has_id, id_runs, is_used}
use Rattle.fc_newmap.specs.NewMap.{IsNewMap}
use Rattle.fc_newmap.proofs.PlaceLemmas.{holder_of, id_run_in}
use Rattle.fc_image.specs.Layout.{Layout, dir_form, id_of}
use Rattle.fc_image.specs.Walk.{Object, object_size}
use Rattle.fc_image.specs.Objects.{is_movable, is_owned, is_owner_of}
use Rattle.fc_image.specs.Edits.{IsAt}
use Rattle.fc_image.specs.MapEdits.{KeepsPlace}
use Rattle.fc_image.proofs.HolesLemmas.{in_id}
use Rattle.fc_image.specs.effects.Steady.{is_given_back}
use Rattle.fc_changes.specs.Owed.{GivesBack, IsSpaceEdit}
use Rattle.fc_changes.proofs.BasicLemmas.{and_false, any_in, clash, in_any, not_zero, or_cases}
use Rattle.fc_changes.proofs.ChangeLemmas.{a_sector}
use Rattle.fc_changes.proofs.OutsideLemmas.{low_owned, object_owns}
use Rattle.fc_changes.proofs.SpaceLemmas.{not_given, runs_stay, still_owned}
use Rattle.fc_laws.proofs.lemmas.agree.BeforeLemmas.{new_facts, new_shape}
use Rattle.fc_image.proofs.OpenedLemmas.{IsFixed as AreFixed}

-- what is known of the space that an edit takes and gives back
pub record TakesSpace (m m' : Map) (objects come stay : List Object) (id : ℕ) (parts : List ZoneRun) (gone : List ℕ) : Type 0 where
  pub is_map : IsNewMap m
  pub placed : (o : Object) → Contains objects o → IsAt (Layout.New m) o
  pub stay_in : (o : Object) → Contains stay o → Contains objects o
  pub space : IsSpaceEdit m m' id parts gone
  pub gives : GivesBack m gone objects (come ++ stay)
  -- what is taken was free
  pub fresh : 0 < length parts → is_used m id ≡ false
  pub come_new : (o : Object) → Contains come o → (k : ℕ) → is_owner_of k o ≡ true → is_used m k ≡ true → is_owned objects k ≡ true

module _ (m m' : Map) (objects come stay : List Object) (id : ℕ) (parts : List ZoneRun) (gone : List ℕ) (e : TakesSpace m m' objects come stay id parts gone) where
  some_zones : 1 ≤ m.geometry.zones
  some_zones = (new_facts m e.is_map).zones

  -- an object that stays keeps its place
  pub places : (o : Object) → Contains stay o → KeepsPlace m m' o
  places o stays = by (object_size (dir_form (Layout.New m)) o.entry == 0) refl
    where
      by : (b : Bool) → (object_size (dir_form (Layout.New m)) o.entry == 0) ≡ b → KeepsPlace m m' o
      by true h = inl (eqb-true (object_size (dir_form (Layout.New m)) o.entry) 0 h)
      by false h =
          let at = e.placed o (e.stay_in o stays) in
          let some = not_zero (object_size (dir_form (Layout.New m)) o.entry) h in
          let s = a_sector m o.entry.address (object_size (dir_form (Layout.New m)) o.entry) o.sectors some (new_shape m e.is_map).some at in
          let own = id_of o.entry.address in
          let p = holder_of m.geometry (id_runs m own) s.0 (in_id m o.entry.address _ o.sectors s.0 at s.1) in
          let there = id_run_in m own p.0 some_zones p.1.0 in
          let used : is_used m own ≡ true = any_in (λ (q : ZoneRun). has_id own q.1.kind) (all_runs m) p.0 there.0 there.1 in
          let owns = object_owns (come ++ stay) o s.0 (Contains-append_right come stay o stays) s.1 in
          inr (runs_stay m m' id parts gone e.space some_zones e.fresh own used (e.gives.exactly own used ∙ still_owned objects (come ++ stay) own owns))

  -- an identifier that no object may move keeps its runs
  pub fixed : AreFixed m m' objects (come ++ stay)
  fixed k still used = by (is_owned objects k) (nat_le 3 k) refl refl still
    where
      stays : is_given_back objects (come ++ stay) k ≡ false → id_runs m' k ≡ id_runs m k
      stays h = runs_stay m m' id parts gone e.space some_zones e.fresh k used (e.gives.exactly k used ∙ h)

      never : is_owned objects k ≡ false → is_owned (come ++ stay) k ≡ false
      never none = unless (is_owned (come ++ stay) k) (λ own. or_cases (k == 2) (list_any (is_owner_of k) (come ++ stay)) own
          (λ two. clash (is_owned objects k) (ap (λ (b : Bool). b || list_any (is_owner_of k) objects) two) none)
          (λ any. let p = in_any (is_owner_of k) (come ++ stay) any in
          elim (Contains-append_cases come stay p.0 p.1) [
            | inl new ↦ clash (is_owned objects k) (e.come_new p.0 new k p.2 used) none
            | inr old ↦ clash (is_owned objects k) (or_second (k == 2) (list_any (is_owner_of k) objects) (any_in (is_owner_of k) objects p.0 (e.stay_in p.0 old) p.2)) none
          ]))

      by : (own high : Bool) → is_owned objects k ≡ own → nat_le 3 k ≡ high → (own && high) ≡ false → (id_runs m' k ≡ id_runs m k) × (is_movable (come ++ stay) k ≡ false)
      by false high h t g = (stays (not_given objects (come ++ stay) k h), ap (λ (b : Bool). b && nat_le 3 k) (never h))
      by true false h t g =
          let two = low_owned m objects e.placed k h t in
          (stays (still_owned objects (come ++ stay) k (ap (λ (n : ℕ). is_owned (come ++ stay) n) two)), ap (λ (b : Bool). is_owned (come ++ stay) k && b) t ∙ and_false (is_owned (come ++ stay) k))
      by true true h t g = absurd (cc)
