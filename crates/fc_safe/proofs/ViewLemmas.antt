-- What is stirred by nodes and owners is what the command does to the objects of a view.
use Rattle.std.proofs.Common.{◌≡◌, ◌<◌, ◌≤◌, ◌&&◌, ◌||◌, ◌==◌, ℕ, zero, suc, ◌+◌, ◌*◌, max, Bool, true, false, cond, List, [], ◌∷◌, ◌++◌, map, refl, sym, ap, ap₂, subst, ◌∙◌, arith, append_assoc, Some, None, Option}
use Rattle.std.specs.Prelude.{Contains, IsPermutation, filter, not}
use Rattle.std.specs.List.{fold, list_any, range_with_len}
use Rattle.std.specs.Option.{option_map_or, unwrap_or}
use Rattle.std.proofs.lemmas.Bool.{and_parts, eqb-true, lt-ltb, ne_eqb}
use Rattle.std.proofs.lemmas.List.{map-append}
use Rattle.std.proofs.lemmas.List.Elements.{filter_agree}
use Rattle.std.proofs.lemmas.List.Sorted.{Contains-permutation, IsPermutation-sym, list_any-IsPermutation}
use Rattle.fc_alloc.specs.declared.owner.Owner.{Owner}
use Rattle.fc_alloc.specs.Owners.{owns}
use Rattle.fc_record.specs.Record.{id_limit}
use Rattle.fc_newmap.specs.Map.{Map}
use Rattle.fc_model.specs.Command.{Command}
use Rattle.fc_image.specs.Layout.{Layout}
use Rattle.fc_image.specs.Walk.{Object}
use Rattle.fc_image.specs.Objects.{has_sectors, is_owner_of, objects_of}
use Rattle.fc_image.specs.Opening.{Opened}
use Rattle.fc_image.specs.effects.Sharing.{units}
use Rattle.fc_image.specs.effects.Short.{Growth, object_units}
use Rattle.fc_image.specs.safe.SafeShort.{changed_ids, copies_away, end_of, holds_changed, if_some_bits, is_changed_directory, is_given_up, is_replaced, last_end, leaves_id, needs, new_id_growth, remains_in, takes_slack}
use Rattle.fc_image.proofs.EntriesLemmas.{from_filter, from_map, in_filter, in_mapped}
use Rattle.fc_placing.specs.Leaving.{is_kept}
use Rattle.fc_placing.proofs.LeavingLemmas.{any_owner}
use Rattle.fc_plan.specs.Giving.{is_one_of}
use Rattle.fc_plan.proofs.Units.{units_some}
use Rattle.fc_tree.specs.Parts.{AreOwners, Parts, owner_of}
use Rattle.fc_safe.specs.FirstNeeds.{Stir, goes, ids_of, need_of, needs_by, out_need, own_need}
use Rattle.fc_safe.specs.Needs.{bits_of}
use Rattle.fc_safe.specs.Staying.{end_then, holds_changed as owners_hold, last_end as owners_end, remains}
use Rattle.fc_safe.specs.Views.{IsNodeOf, IsViewOf, StirLaw, StirsAs}
use Rattle.fc_safe.specs.declared.needs.Need.{Need}
use Rattle.fc_safe.proofs.ListLemmas.{any_same, most_above, most_below, passes}

-- ---- tests

stays_test : (a b r k l : Bool) → (a && (b && not (r || (k || l)))) ≡ ((a && b) && not r && not k && not l)
stays_test false b r k l = refl
stays_test true false r k l = refl
stays_test true true true k l = refl
stays_test true true false true l = refl
stays_test true true false false true = refl
stays_test true true false false false = refl

turn_test : (a x r y : Bool) → (a && r) ≡ y → (a && (x && r)) ≡ (x && y)
turn_test true true r y e = e
turn_test true false r y e = refl
turn_test false true r y e = e
turn_test false false r y e = refl

-- of the owners of which something is said
abbrev pub most : {X : Type 0} → (X → ℕ) → List X → ℕ
most f xs = fold (λ n x. max n (f x)) 0 xs

-- Lists whose elements have the same values have the same greatest one.
most_alike : {X Y : Type 0} (f : X → ℕ) (g : Y → ℕ) (xs : List X) (ys : List Y) → ((x : X) → Contains xs x → (y : Y) × Contains ys y × (f x ≡ g y)) → ((y : Y) → Contains ys y → (x : X) × Contains xs x × (f x ≡ g y))
    → most f xs ≡ most g ys
most_alike f g xs ys there back =
    let a = most_below f 0 (most g ys) xs (omega arith) (λ x at. (let r = there x at in let above = most_above g 0 ys r.0 r.1 in let same = r.2 in omega (arith, above, same))) in
    let b = most_below g 0 (most f xs) ys (omega arith) (λ y at. (let r = back y at in let above = most_above f 0 xs r.0 r.1 in let same = r.2 in omega (arith, above, same))) in
    omega (arith, a, b)

-- ---- owners and objects

module _ (m : Map) (h : Parts) (v : Opened) (c : Command) (s : Stir) (view : IsViewOf m h v) (stirs : StirsAs m h v c s) where
  abbrev objects : List Object
  objects = objects_of v.listings

  abbrev own : Object → Owner
  own = owner_of h.nodes (Layout.New m)

  owners_are : IsPermutation h.owners (map own (filter has_sectors objects))
  owners_are = subst (λ (l : Layout). AreOwners h.owners h.nodes l objects) view.layout view.parts.owners

  node_is : (o : Object) → Contains objects o → IsNodeOf h v o (own o).node
  node_is o at = (at, (let n = (view.parts.nodes.each o at).at_path in n ∙ ap (λ (r : Option ℕ). let x : Option ℕ = Some (unwrap_or r 0) in x) (sym n)))

  stays_same : (id : ℕ) (o : Object) → Contains objects o → (has_sectors o && remains s.leaving id (own o)) ≡ remains_in v c id o
  stays_same id o at =
      ap (λ (b : Bool). has_sectors o && (((own o).id == id) && not b)) (stirs.leaving o (own o).node (node_is o at))
      ∙ stays_test (has_sectors o) ((own o).id == id) (is_replaced v c o.path) (copies_away v c o.path) (leaves_id v c o.path)

  -- a test of the owners is one of the objects
  any_of_owners : (t : Owner → Bool) (u : Object → Bool) → ((o : Object) → Contains objects o → (has_sectors o && t (own o)) ≡ u o) → list_any t h.owners ≡ list_any u objects
  any_of_owners t u same =
      list_any-IsPermutation t h.owners (map own (filter has_sectors objects)) owners_are ∙ any_owner t own objects ∙ any_same (λ (o : Object). has_sectors o && t (own o)) u objects same

  pub holds_same : (id : ℕ) → owners_hold s.changed s.leaving h.owners id ≡ holds_changed v c id
  holds_same id = any_of_owners (λ (o : Owner). is_one_of s.changed o.node && remains s.leaving id o) (λ (o : Object). is_changed_directory v c o && remains_in v c id o) (λ o at.
      turn_test (has_sectors o) (is_one_of s.changed (own o).node) (remains s.leaving id (own o)) (remains_in v c id o) (stays_same id o at)
      ∙ ap (λ (b : Bool). b && remains_in v c id o) (stirs.changed o (own o).node (node_is o at)))

  pub remains_same : (id : ℕ) → list_any (remains s.leaving id) h.owners ≡ list_any (remains_in v c id) objects
  remains_same id = any_of_owners (remains s.leaving id) (remains_in v c id) (stays_same id)

  pub owns_same : (id : ℕ) → list_any (owns id) h.owners ≡ list_any (is_owner_of id) objects
  owns_same id = any_of_owners (owns id) (is_owner_of id) (λ o at. refl)

  -- ---- the identifiers, and where they end

  pub ids_same : ids_of m h s ≡ changed_ids m v c
  ids_same = filter_agree (owners_hold s.changed s.leaving h.owners) (holds_changed v c) holds_same (range_with_len 0 (id_limit m.geometry))

  end_same : (o : Object) → Contains objects o → end_then m.geometry s.longer (own o) ≡ end_of m v c o
  end_same o at = ap (λ (n : ℕ). ((own o).first + n) * m.geometry.sector) (stirs.longer o (own o).node (node_is o at))

  both_true : (a b : Bool) → a ≡ true → b ≡ true → (a && b) ≡ true
  both_true true b e f = f
  both_true false b e f = absurd (cc)

  pub ends_same : (id : ℕ) → owners_end m.geometry s.leaving s.longer h.owners id ≡ last_end m v c id
  ends_same id = most_alike (end_then m.geometry s.longer) (end_of m v c) (filter (remains s.leaving id) h.owners) (filter (remains_in v c id) objects)
      (λ x at.
      (let among = Contains-permutation h.owners (map own (filter has_sectors objects)) x owners_are (from_filter (remains s.leaving id) h.owners x at) in
      let r = from_map own (filter has_sectors objects) x among in
      let there = from_filter has_sectors objects r.0 r.1 in
      let tested : remains s.leaving id (own r.0) ≡ true = ap (remains s.leaving id) r.2 ∙ passes (remains s.leaving id) h.owners x at in
      let stays = sym (stays_same id r.0 there) ∙ both_true (has_sectors r.0) (remains s.leaving id (own r.0)) (passes has_sectors objects r.0 r.1) tested in
      (r.0, in_filter (remains_in v c id) objects r.0 there stays, ap (end_then m.geometry s.longer) (sym r.2) ∙ end_same r.0 there)))
      (λ o at.
      (let there = from_filter (remains_in v c id) objects o at in
      let both = and_parts (has_sectors o) (remains s.leaving id (own o)) (stays_same id o there ∙ passes (remains_in v c id) objects o at) in
      let among = Contains-permutation (map own (filter has_sectors objects)) h.owners (own o) (IsPermutation-sym h.owners (map own (filter has_sectors objects)) owners_are)
      (in_mapped own (filter has_sectors objects) o (in_filter has_sectors objects o there both.0)) in
      (own o, in_filter (remains s.leaving id) h.owners (own o) among both.1, end_same o there)))

  -- ---- needs

  moved_same : (f g : ℕ → ℕ) (ids : List ℕ) → ((id : ℕ) → f id ≡ g id) → bits_of m.geometry (map (need_of f) ids) ≡ map (λ (id : ℕ). units m.geometry (g id)) ids
  moved_same f g [] same = refl
  moved_same f g (id ∷ ids) same = ap₂ (λ (n : ℕ) (ns : List ℕ). units m.geometry n ∷ ns) (same id) (moved_same f g ids same)

  own_same : (bytes : ℕ) → units m.geometry bytes ≡ object_units m v c → bits_of m.geometry (own_need bytes) ≡ if_some_bits (object_units m v c)
  own_same bytes e = by (bytes == 0) refl ∙ ap if_some_bits e
    where
      by : (b : Bool) → (bytes == 0) ≡ b → bits_of m.geometry (cond b [] ((let n : Need = record { id = None; bytes = bytes } in n) ∷ [])) ≡ if_some_bits (units m.geometry bytes)
      by true f = sym (ap if_some_bits (ap (units m.geometry) (eqb-true bytes 0 f)))
      by false f = sym (ap (λ (b : Bool). let xs : List ℕ = cond b [] (units m.geometry bytes ∷ []) in xs) (positive (units m.geometry bytes) (units_some m bytes view.is_map (some_of bytes f))))
        where
          some_of : (n : ℕ) → (n == 0) ≡ false → 0 < n
          some_of zero g = absurd (cc)
          some_of (suc n) g = omega arith

          positive : (n : ℕ) → 0 < n → (n == 0) ≡ false
          positive n low = ne_eqb n 0 (λ e. omega (arith, e, low))

  pub needs_same : (bytes : ℕ) → units m.geometry bytes ≡ object_units m v c → bits_of m.geometry (needs_by m h s bytes) ≡ needs m v c
  needs_same bytes e =
      map-append (λ (n : Need). units m.geometry n.bytes) (own_need bytes) (map (need_of (owners_end m.geometry s.leaving s.longer h.owners)) (ids_of m h s) ++ out_need s.out)
      ∙ ap₂ (λ (xs ys : List ℕ). xs ++ ys) (own_same bytes e)
      (map-append (λ (n : Need). units m.geometry n.bytes) (map (need_of (owners_end m.geometry s.leaving s.longer h.owners)) (ids_of m h s)) (out_need s.out)
      ∙ ap₂ (λ (xs ys : List ℕ). xs ++ ys)
      (moved_same (owners_end m.geometry s.leaving s.longer h.owners) (last_end m v c) (ids_of m h s) ends_same ∙ ap (map (λ (id : ℕ). units m.geometry (last_end m v c id))) ids_same) stirs.out)
      ∙ sym (append_assoc (if_some_bits (object_units m v c)) (map (λ (id : ℕ). units m.geometry (last_end m v c id)) (changed_ids m v c))
      (option_map_or (λ (growth : Growth). units m.geometry growth.1 ∷ []) (new_id_growth v c) []))

  -- ---- what goes back

  pub given_same : (shared : Option ℕ) (id : ℕ) → is_kept shared id ≡ takes_slack v c id → 3 ≤ id → goes h s shared id ≡ is_given_up m v c id
  given_same shared id kept low =
      ap₂ (λ (a b : Bool). a || b) (holds_same id)
      (ap₂ (λ (a b : Bool). a && (b && (not (is_kept shared id) && not (list_any (remains s.leaving id) h.owners)))) (owns_same id) (lt-ltb 2 id low)
      ∙ ap₂ (λ (k r : Bool). list_any (is_owner_of id) objects && (not k && not r)) kept (remains_same id)
      ∙ turn (list_any (is_owner_of id) objects) (takes_slack v c id) (list_any (remains_in v c id) objects))
    where
      turn : (a k r : Bool) → (a && (not k && not r)) ≡ (a && not r && not k)
      turn false k r = refl
      turn true false false = refl
      turn true false true = refl
      turn true true false = refl
      turn true true true = refl

pub stir_law : StirLaw
stir_law = record {
  needs = λ m h v c s bytes view stirs. needs_same m h v c s view stirs bytes;
  ids = λ m h v c s view stirs. ids_same m h v c s view stirs;
  given = λ m h v c s shared id view stirs. given_same m h v c s view stirs shared id;
}
