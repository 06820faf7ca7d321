-- Which identifiers go back over a view, and in which zones they have runs.
use Rattle.std.proofs.Common.{◌≡◌, ◌<◌, ◌≤◌, ◌&&◌, ◌||◌, ◌==◌, inl, inr, ℕ, ◌-◌, Bool, true, false, cond, List, [], ◌∷◌, length, map, refl, sym, ap, ap₂, subst, ◌∙◌, arith, eq-eqb, Some, None}
use Rattle.std.specs.Prelude.{Contains, count_by, filter, is_some, nat_le, nat_lt, not}
use Rattle.std.specs.List.{flat_map, list_any, range_with_len}
use Rattle.std.specs.Option.{option_map_or, option_to_list}
use Rattle.std.proofs.lemmas.Bool.{and_parts, cases_Bool, eqb-true, le-leb, lt-ltb, or_cases}
use Rattle.fc_device.specs.Numbers.{is_listed as is_in}
use Rattle.fc_names.specs.Names.{is_directory}
use Rattle.fc_record.specs.Record.{id_limit}
use Rattle.fc_zone.specs.declared.Run.{Run}
use Rattle.fc_zone.specs.declared.RunKind.{RunKind}
use Rattle.fc_zone.specs.declared.RunKind.TheVariants as kinds
use Rattle.fc_newmap.specs.Map.{Map, ZoneRun, all_runs, has_id, id_runs, runs_of, zone_numbers}
use Rattle.fc_newmap.proofs.PlaceLemmas.{id_run_in, in_id_runs, in_zone, zone_in}
use Rattle.fc_model.specs.Command.{Command}
use Rattle.fc_dirs.specs.declared.Entry.{Entry}
use Rattle.fc_image.specs.Edits.{IsAt}
use Rattle.fc_image.specs.Layout.{Layout, dir_form, first_part, id_of, id_sectors, is_object_id, low_of, low_start, new_sectors, sectors_at}
use Rattle.fc_image.specs.Walk.{Object, is_directory_object, object_size}
use Rattle.fc_image.specs.Objects.{has_sectors, is_owner_of, objects_of}
use Rattle.fc_image.specs.Opening.{Opened}
use Rattle.fc_image.specs.effects.Steady.{has_id_that}
use Rattle.fc_image.specs.safe.SafeShort.{holds_changed, is_changed_directory, is_given_up, is_suitable, loses_owner, remains_in, suits}
use Rattle.fc_image.proofs.EntriesLemmas.{from_map, in_mapped}
use Rattle.fc_image.proofs.HolesLemmas.{Each-contains, Each-objects, Lies, walk_lies}
use Rattle.fc_changes.proofs.StepsLemmas.{any_append}
use Rattle.fc_plan.specs.Giving.{has_run_of, is_one_of}
use Rattle.fc_plan.specs.Parts.{has_part}
use Rattle.fc_tree.specs.Parts.{Parts}
use Rattle.fc_safe.specs.Views.{IsViewOf}
use Rattle.fc_safe.proofs.ListLemmas.{any_of, found_of, from_flat, in_flat, same_test}

-- ---- identifiers of objects

each_at : (v : Opened) (m : Map) → Rattle.fc_image.specs.Sound.AreSound v.layout v.listings → (o : Object) → Contains (objects_of v.listings) o → IsAt v.layout o
each_at v m sound o at =
    (Each-contains (Lies v.layout sound.reserved) (objects_of v.listings) o
    (Each-objects (Lies v.layout sound.reserved) v.listings (walk_lies sound.read v.layout sound.reserved sound.address sound.size v.listings sound.walked)) at).placed

-- What has sectors has an identifier that an object may have.
own_object_id : (m : Map) (address bytes : ℕ) (xs : List ℕ) → sectors_at (Layout.New m) address bytes ≡ Some xs → nat_lt 0 (length xs) ≡ true → is_object_id m (id_of address) ≡ true
unfolding sectors_at
own_object_id m address bytes xs e some = by (bytes == 0) e
  where
    from : (b : Bool) → is_object_id m (id_of address) ≡ b
        → cond b (first_part (Rattle.std.specs.Int.div_ceil bytes m.geometry.sector) (Rattle.std.specs.Prelude.drop (low_start m (low_of address)) (id_sectors m (id_of address)))) None ≡ Some xs → b ≡ true
    from true f g = refl
    from false f g = absurd (cc)

    by : (b : Bool) → cond b (Some []) (new_sectors m address bytes) ≡ Some xs → is_object_id m (id_of address) ≡ true
    by true f = absurd (let none : [] ≡ xs = cc in let bad : false ≡ true = ap (λ (ys : List ℕ). nat_lt 0 (length ys)) none ∙ some in cc)
    by false f = from (is_object_id m (id_of address)) refl f

module _ (m : Map) (h : Parts) (v : Opened) (view : IsViewOf m h v) where
  id_may : (o : Object) → Contains (objects_of v.listings) o → has_sectors o ≡ true → is_object_id m (id_of o.entry.address) ≡ true
  id_may o at some =
      own_object_id m o.entry.address (object_size (dir_form v.layout) o.entry) o.sectors (subst (λ (l : Layout). sectors_at l o.entry.address (object_size (dir_form v.layout) o.entry) ≡ Some o.sectors) view.layout (each_at v m view.sound o at)) some

  pub owner_low : (id : ℕ) (o : Object) → Contains (objects_of v.listings) o → is_owner_of id o ≡ true → (2 ≤ id) × (id < id_limit m.geometry)
  owner_low id o at owner =
      let both = and_parts (has_sectors o) (id_of o.entry.address == id) owner in
      let may = and_parts (nat_le 2 (id_of o.entry.address)) (nat_lt (id_of o.entry.address) (id_limit m.geometry)) (id_may o at both.0) in
      let same = eqb-true (id_of o.entry.address) id both.1 in
      let low = Rattle.std.proofs.lemmas.Bool.leb-true 2 (id_of o.entry.address) may.0 in
      let high = Rattle.std.proofs.lemmas.Bool.ltb-true (id_of o.entry.address) (id_limit m.geometry) may.1 in
      (omega (arith, low, same), omega (arith, high, same))

  owns_of : (c : Command) (id : ℕ) (o : Object) → remains_in v c id o ≡ true → is_owner_of id o ≡ true
  owns_of c id o e = first (is_owner_of id o) _ _ _ e
    where
      first : (a b d f : Bool) → (a && b && d && f) ≡ true → a ≡ true
      first true b d f g = refl
      first false b d f g = absurd (cc)

  -- In a volume that suits no directory lies in the map's identifier.
  pub changed_high : (c : Command) → is_suitable v ≡ true → (id : ℕ) → holds_changed v c id ≡ true → (3 ≤ id) × (id < id_limit m.geometry)
  changed_high c suit id holds =
      let r = found_of (λ (o : Object). is_changed_directory v c o && remains_in v c id o) (objects_of v.listings) holds in
      let both = and_parts (is_changed_directory v c r.0) (remains_in v c id r.0) r.2 in
      let owner = owns_of c id r.0 both.1 in
      let at = owner_low id r.0 r.1 owner in
      let dir = directory r.0 both.0 in
      let own = and_parts (has_sectors r.0) (id_of r.0.entry.address == id) owner in
      let low = at.0 in (
        more id low (λ two. (let here : (id_of r.0.entry.address == 2) ≡ true = eq-eqb (id_of r.0.entry.address) 2 (eqb-true (id_of r.0.entry.address) id own.1 ∙ two) in
            let bad : true ≡ false = sym (ap₂ (λ (a b : Bool). a && b) dir here) ∙ none_low r.0 r.1 in cc)),
        at.1,
      )
    where
      directory : (o : Object) → is_changed_directory v c o ≡ true → is_directory_object o ≡ true
      directory o e = by (is_directory_object o) _ _ e
        where
          by : (a b d : Bool) → (a && b && d) ≡ true → a ≡ true
          by true b d g = refl
          by false b d g = absurd (cc)

      more : (n : ℕ) → 2 ≤ n → (n ≡ 2 → ⊥) → 3 ≤ n
      more n low apart = elim (Rattle.std.proofs.lemmas.Bool.cases_eq n 2) [ inl two ↦ absurd (apart two) | inr other ↦ omega (arith, low, other) ]

      none_low : (o : Object) → Contains (objects_of v.listings) o → (is_directory o.entry.attrs && (id_of o.entry.address == 2)) ≡ false
      none_low o at = elim (cases_Bool (is_directory o.entry.attrs && (id_of o.entry.address == 2))) [
        | inr none ↦ none
        | inl low ↦ absurd (
            let there = any_of (λ (e : Entry). is_directory e.attrs && (id_of e.address == 2)) (map (λ (p : Object). p.entry) (objects_of v.listings)) o.entry (in_mapped (λ (p : Object). p.entry) (objects_of v.listings) o at) low in
            let suited : suits (Layout.New m) (map (λ (p : Object). p.entry) (objects_of v.listings)) ≡ true = ap (λ (l : Layout). suits l (map (λ (p : Object). p.entry) (objects_of v.listings))) (sym view.layout) ∙ suit in
            let none = and_parts (not (m.geometry.version == 0)) (not (list_any (λ (e : Entry). is_directory e.attrs && (id_of e.address == 2)) (map (λ (p : Object). p.entry) (objects_of v.listings)))) suited in
            let bad : false ≡ true = sym (ap not there) ∙ none.1 in cc)
      ]

  pub given_high : (c : Command) → is_suitable v ≡ true → (id : ℕ) → is_given_up m v c id ≡ true → id < id_limit m.geometry
  given_high c suit id given = elim (or_cases (holds_changed v c id) (loses_owner v c id) given) [
    | inl holds ↦ (changed_high c suit id holds).1
    | inr loses ↦
        (let some : list_any (is_owner_of id) (objects_of v.listings) ≡ true = first (list_any (is_owner_of id) (objects_of v.listings)) _ _ loses in
        let r = found_of (is_owner_of id) (objects_of v.listings) some in
        (owner_low id r.0 r.1 r.2).1)
  ]
    where
      first : (a b d : Bool) → (a && b && d) ≡ true → a ≡ true
      first true b d g = refl
      first false b d g = absurd (cc)

-- ---- zones

kind_is : (k : RunKind) (t : ℕ → Bool) → has_id_that t k ≡ true → (id : ℕ) × (k ≡ kinds.Id id) × (t id ≡ true)
kind_is kinds.Hole t e = absurd (cc)
kind_is (kinds.Id id) t e = (id, refl, e)

id_kind : (k : RunKind) (id : ℕ) → has_id id k ≡ true → k ≡ kinds.Id id
id_kind kinds.Hole id e = absurd (cc)
id_kind (kinds.Id j) id e = ap kinds.Id (eqb-true j id e)

module _ (m : Map) (some : 1 ≤ m.geometry.zones) (given : ℕ → Bool) (gone : List ℕ) (same : (id : ℕ) → 3 ≤ id → is_one_of gone id ≡ given id) (low : (id : ℕ) → is_one_of gone id ≡ true → 3 ≤ id)
    (high : (id : ℕ) → given id ≡ true → id < id_limit m.geometry) where
  abbrev back : ℕ → List ZoneRun
  back id = cond (given id) (id_runs m id) []

  abbrev ids : List ℕ
  ids = range_with_len 3 (id_limit m.geometry - 3)

  in_ids : (id : ℕ) → 3 ≤ id → id < id_limit m.geometry → Contains ids id
  in_ids id least most = (
    id - 3,
    (let size = Rattle.std.proofs.lemmas.List.FromFn.length-range_with_len 3 (id_limit m.geometry - 3) in omega (arith, size, least, most)),
    Rattle.std.proofs.lemmas.List.FromFn.get_or-range_with_len 3 (id_limit m.geometry - 3) (id - 3) id (omega (arith, least, most)) ∙ omega (arith, least),
  )

  ids_low : (id : ℕ) → Contains ids id → 3 ≤ id
  ids_low id at =
      let size = Rattle.std.proofs.lemmas.List.FromFn.length-range_with_len 3 (id_limit m.geometry - 3) in
      let l = at.1 in
      let here = Rattle.std.proofs.lemmas.List.FromFn.get_or-range_with_len 3 (id_limit m.geometry - 3) at.0 id (omega (arith, l, size)) in
      let e = at.2 in
      omega (arith, here, e)

  -- A zone has a run that goes back, by either list.
  pub back_zones : (z : ℕ) → z < m.geometry.zones → list_any (λ (p : ZoneRun). p.0 == z) (flat_map back ids) ≡ has_run_of gone (runs_of m z)
  back_zones z below = same_test (list_any (λ (p : ZoneRun). p.0 == z) (flat_map back ids)) (has_run_of gone (runs_of m z)) there return
    where
      there : list_any (λ (p : ZoneRun). p.0 == z) (flat_map back ids) ≡ true → has_run_of gone (runs_of m z) ≡ true
      there h =
          let r = found_of (λ (p : ZoneRun). p.0 == z) (flat_map back ids) h in
          let s = from_flat back ids r.0 r.1 in
          by s.0 r.0 (ids_low s.0 s.1) (given s.0) refl s.2 (eqb-true r.0.0 z r.2)
        where
          by : (id : ℕ) (p : ZoneRun) → 3 ≤ id → (b : Bool) → given id ≡ b → Contains (cond b (id_runs m id) []) p → p.0 ≡ z → has_run_of gone (runs_of m z) ≡ true
          by id p least false e (k, l, f) zone = absurd (omega (arith, l))
          by id p least true e at zone =
              let run = id_run_in m id p some at in
              let spot = from_map (λ (q : Run). (p.0, q)) (runs_of m p.0) p (zone_in m (zone_numbers m.geometry) p run.0).1 in
              let kind : spot.0.kind ≡ kinds.Id id = ap (λ (q : ZoneRun). q.1.kind) spot.2 ∙ id_kind p.1.kind id run.1 in
              any_of (λ (q : Run). has_id_that (is_one_of gone) q.kind) (runs_of m z) spot.0 (subst (λ (k : ℕ). Contains (runs_of m k) spot.0) zone spot.1)
              (ap (has_id_that (is_one_of gone)) kind ∙ same id least ∙ e)

      return : has_run_of gone (runs_of m z) ≡ true → list_any (λ (p : ZoneRun). p.0 == z) (flat_map back ids) ≡ true
      return h =
          let r = found_of (λ (q : Run). has_id_that (is_one_of gone) q.kind) (runs_of m z) h in
          let k = kind_is r.0.kind (is_one_of gone) r.2 in
          let least = low k.0 k.2 in
          let gives : given k.0 ≡ true = sym (same k.0 least) ∙ k.2 in
          let p : ZoneRun = (z, r.0) in
          let among : Contains (all_runs m) p = in_zone m (zone_numbers m.geometry) p (zone_there z below) (in_mapped (λ (q : Run). (z, q)) (runs_of m z) r.0 r.1) in
          let own = in_id_runs m k.0 p some among (ap (has_id k.0) k.1 ∙ eq-eqb k.0 k.0 refl) in
          any_of (λ (q : ZoneRun). q.0 == z) (flat_map back ids) p
          (in_flat back ids k.0 p (in_ids k.0 least (high k.0 gives)) (subst (λ (b : Bool). Contains (cond b (id_runs m k.0) []) p) (sym gives) own)) (eq-eqb z z refl)
        where
          zone_there : (y : ℕ) → y < m.geometry.zones → is_in (zone_numbers m.geometry) y ≡ true
          zone_there y lower = any_of (λ (x : ℕ). x == y) (zone_numbers m.geometry) y
              (y, (let size = Rattle.std.proofs.lemmas.List.FromFn.length-range_with_len 0 m.geometry.zones in omega (arith, size, lower)), Rattle.std.proofs.lemmas.List.FromFn.get_or-range_with_len 0 m.geometry.zones y y lower ∙ omega arith) (eq-eqb y y refl)

pub parts_zone : (parts : List (List ZoneRun)) (z : ℕ) → list_any (λ (p : ZoneRun). p.0 == z) (flat_map (λ (ps : List ZoneRun). ps) parts) ≡ list_any (λ (ps : List ZoneRun). has_part ps z) parts
parts_zone [] z = refl
parts_zone (ps ∷ parts) z =
    any_append (λ (p : ZoneRun). p.0 == z) ps (flat_map (λ (qs : List ZoneRun). qs) parts) ∙ ap (λ (b : Bool). has_part ps z || b) (parts_zone parts z)
