-- A directory that is placed to grow beside an object: its plans fit the map, where it lies afterwards, and what goes back.
use Rattle.std.proofs.Common.{◌≡◌, ◌<◌, ◌⊎◌, inl, inr, ◌&&◌, ◌||◌, ◌==◌, ℕ, ◌*◌, Bool, true, false, cond, List, [], ◌∷◌, ◌++◌, length, refl, sym, ap, ap₂, subst, ◌∙◌, arith, Some, None, Option, eq-eqb}
use Rattle.std.specs.Prelude.{Contains, IfSome, nat_le, nat_lt, not}
use Rattle.std.specs.List.{list_any}
use Rattle.std.specs.Option.{option_to_list}
use Rattle.std.proofs.lemmas.Bool.{leb-true, ltb-true, ne_eqb}
use Rattle.fc_names.specs.declared.name.NameForm.{NameForm}
use Rattle.fc_names.specs.declared.name.NameForm.TheVariants as forms
use Rattle.fc_alloc.specs.declared.owner.Owner.{Owner}
use Rattle.fc_record.specs.declared.Geometry.{Geometry}
use Rattle.fc_record.specs.Record.{id_limit}
use Rattle.fc_newmap.specs.Map.{Map, hole_runs, id_runs, is_used}
use Rattle.fc_newmap.specs.NewMap.{IsNewMap}
use Rattle.fc_image.specs.Layout.{Layout, dir_form, id_of, is_object_id, sectors_at}
use Rattle.fc_image.specs.Walk.{Listing, Object, object_size}
use Rattle.fc_image.specs.Objects.{has_sectors, is_owned, is_owner_of, objects_of}
use Rattle.fc_image.specs.Edits.{IsAt}
use Rattle.fc_image.specs.effects.Placed.{holes_left}
use Rattle.fc_image.specs.effects.Sharing.{new_ids, units}
use Rattle.fc_image.specs.effects.Steady.{is_given_back}
use Rattle.fc_changes.proofs.BasicLemmas.{and_false, clash, or_false}
use Rattle.fc_changes.proofs.ChangeLemmas.{a_sector}
use Rattle.fc_changes.proofs.SpaceLemmas.{owned_same}
use Rattle.fc_laws.specs.nodes.Edits.{Nodes}
use Rattle.fc_laws.specs.agree.Agreed.{parts_with}
use Rattle.fc_objects.specs.Extents.{sectors_in}
use Rattle.fc_plan.specs.declared.plan.Plan.{Plan}
use Rattle.fc_plan.specs.Applied.{CanTakePlan, IsOther, IsTakenIn, id_in, parts_in}
use Rattle.fc_plan.specs.Giving.{is_one_of}
use Rattle.fc_plan.specs.Parts.{fronts}
use Rattle.fc_plan.proofs.Plans.{cut_of_plan}
use Rattle.fc_plan.proofs.Units.{units_some}
use Rattle.fc_placing.specs.Leaving.{OwnOnly, left_among}
use Rattle.fc_placing.specs.Places.{IsOwnPlan}
use Rattle.fc_changes.proofs.StepsLemmas.{any_append}
use Rattle.fc_placing.proofs.LeavingLemmas.{leaves_ids}
use Rattle.fc_placing.proofs.PlacedLemmas.{place_law}
use Rattle.fc_edits.specs.NewPlaces.{is_taken}
use Rattle.fc_edits.specs.Placing.{takings_of}
use Rattle.fc_edits.proofs.lemmas.IdentifierLemmas.{taken_either}
use Rattle.fc_edits.proofs.lemmas.NewSpaceLemmas.{new_id_unused}
use Rattle.fc_change.specs.declared.job.Growth.{Growth}
use Rattle.fc_change.specs.declared.spaces.GrownPlace.{GrownPlace}
use Rattle.fc_change.specs.GrownSpace.{GrowsInto, GrowsThere, IsGrownAt as IsGrownPlace, gone_at_once}
use Rattle.fc_change.specs.Shortage.{is_alone_by}
use Rattle.fc_commands.proofs.GrownStepLemmas.{PlansFit}
use Rattle.fc_commands.proofs.GrownChangeLemmas.{IsGrownStepped, takings, taking_of}
use Rattle.fc_writing.specs.declared.ready.RootPlace.{RootPlace}
use Rattle.fc_commands.proofs.GrownSpaceLemmas.{IsToGrow, long, placed_at}
use Rattle.fc_commands.proofs.GrownSpaceLemmas as place_of
use Rattle.fc_changes.proofs.NewPlaceLemmas.{some_there as some_listed}
use Rattle.fc_record.proofs.KindLemmas.{and_first, and_second}

-- These objects own no identifier that was used, but those that others own.
abbrev pub OwnOnlyOf : Map → List Object → List Object → Type 0
OwnOnlyOf m new others = (k : ℕ) → is_used m k ≡ true → list_any (is_owner_of k) new ≡ true → list_any (is_owner_of k) others ≡ true

module _ (m : Map) (nodes : Nodes) (owners : List Owner) (listings : List Listing) (o : Object) (stay : List Object) (g : Growth) (object dir : Option Plan) (p : GrownPlace)
    (to : IsToGrow m nodes owners listings o stay g object dir p) where
  abbrev objects : List Object
  objects = objects_of listings

  abbrev own_id : ℕ
  own_id = id_of o.entry.address

  abbrev grown : Object
  grown = placed_at p o

  abbrev alone : Bool
  alone = is_alone_by owners g.node o.entry.address

  is : IsNewMap m
  is = to.node.is_map

  abbrev Grows : Option Plan → Type 0
  Grows q = IsGrownPlace m (parts_with m nodes owners) object g q p

  size_is : (len : ℕ) → object_size (dir_form (Layout.New m)) (record o.entry { len = len }) ≡ len
  size_is = place_of.size_is m nodes owners listings o stay g object dir p to

  some_size : 0 < m.geometry.sector
  some_size = place_of.some_size m nodes owners listings o stay g object dir p to

  o_some : has_sectors o ≡ true
  o_some = place_of.o_some m nodes owners listings o stay g object dir p to

  own_used : is_used m own_id ≡ true
  own_used = place_of.own_used m nodes owners listings o stay g object dir p to

  len_is : p.directory.len ≡ g.len
  len_is = place_of.len_is m nodes owners listings o stay g object dir p to

  not_before : (q : Option Plan) (id : ℕ) → IsOther id q → is_taken (takings_of (id_in q) (parts_in q)) id ≡ false
  not_before = place_of.not_before m nodes owners listings o stay g object dir p to

  -- by where it lies

  module _ (there : GrowsThere m (parts_with m nodes owners) g p) where
    there_address : p.directory.address ≡ o.entry.address
    there_address = place_of.there_address m nodes owners listings o stay g object dir p to there

    there_at : sectors_at (Layout.New m) o.entry.address g.len ≡ Some (sectors_in p.extents.items)
    there_at = place_of.there_at m nodes owners listings o stay g object dir p to there

  module _ (plan : Plan) (into : GrowsInto m (parts_with m nodes owners) object g plan p) where
    by_alone : {T : Type 0} → (alone ≡ true → plan.id ≡ own_id → p.directory.address ≡ o.entry.address → T)
        → (alone ≡ false → Contains (new_ids m) plan.id → IsOther plan.id object → p.directory.address ≡ 256 * plan.id → T) → T
    by_alone first second = place_of.by_alone m nodes owners listings o stay g object dir p to plan into first second

    plan_object_id : is_object_id m plan.id ≡ true
    plan_object_id = place_of.plan_object_id m nodes owners listings o stay g object dir p to plan into

    at_new : (m' : Map) → m'.geometry ≡ m.geometry → IsTakenIn m' plan → sectors_at (Layout.New m') p.directory.address g.len ≡ Some (sectors_in p.extents.items)
    at_new = place_of.at_new m nodes owners listings o stay g object dir p to plan into

  -- ---- the plans fit

  -- its own identifier isn't the object's
  not_object : (q : Option Plan) → IfSome q (IsOwnPlan m to.bytes) → IsOther own_id q
  not_object None own = tt
  not_object (Some q) own = λ same. clash (is_used m own_id) own_used (ap (is_used m) same ∙ own.unused)

  -- `back` are identifiers that go back at last; none does if its identifier goes back at once.
  module _ (back : List ℕ) (unused : (k : ℕ) → is_used m k ≡ false → is_one_of back k ≡ false) (none : alone ≡ true → (q : Plan) → dir ≡ Some q → back ≡ []) where
    abbrev once : List ℕ
    once = gone_at_once dir alone

    once_unused : (q : Option Plan) → Grows q → (k : ℕ) → is_used m k ≡ false → is_one_of (gone_at_once q alone) k ≡ false
    once_unused None there k free = refl
    once_unused (Some plan) into k free = by_alone plan into
        (λ e id address. ap (λ (b : Bool). is_one_of (gone_at_once (Some plan) b) k) e ∙ ap (λ (b : Bool). b || false) (ne_eqb plan.id k (λ same. clash (is_used m own_id) own_used (ap (is_used m) (sym id ∙ same) ∙ free))))
        (λ e new other address. ap (λ (b : Bool). is_one_of (gone_at_once (Some plan) b) k) e)

    object_some : (q : Option Plan) → IfSome q (IsOwnPlan m to.bytes) → 0 < length (parts_in q) ⊎ (q ≡ None)
    object_some None own = inr refl
    object_some (Some q) own = inl (long (fronts q.parts.items) (units m.geometry to.bytes) (units_some m to.bytes is own.some) own.plan.taken.enough)

    object_can : (q : Option Plan) → IfSome q (IsOwnPlan m to.bytes) → IfSome q (CanTakePlan m.geometry (hole_runs m))
    object_can None own = tt
    object_can (Some q) own = own.can

    object_new : (q : Option Plan) → IfSome q (IsOwnPlan m to.bytes) → IfSome q (λ (x : Plan). is_used m x.id ≡ false)
    object_new None own = tt
    object_new (Some q) own = own.unused

    object_stays : (q : Option Plan) → IfSome q (IsOwnPlan m to.bytes) → IfSome q (λ (x : Plan). (is_one_of once x.id ≡ false) × (is_one_of back x.id ≡ false))
    object_stays None own = tt
    object_stays (Some q) own = (once_unused dir to.grown q.id own.unused, unused q.id own.unused)

    dir_can : (q : Option Plan) → Grows q → IfSome q (CanTakePlan m.geometry (holes_left (hole_runs m) (parts_in object)))
    dir_can None there = tt
    dir_can (Some plan) into =
        let id = plan_object_id plan into in
        let low = leb-true 2 plan.id (and_first (nat_le 2 plan.id) (nat_lt plan.id (id_limit m.geometry)) id) in
        let high = ltb-true plan.id (id_limit m.geometry) (and_second (nat_le 2 plan.id) (nat_lt plan.id (id_limit m.geometry)) id) in
        record {
          cut = cut_of_plan m.geometry (holes_left (hole_runs m) (parts_in object)) (units m.geometry g.len) (fronts plan.parts.items) into.space.plan_is;
          rising = into.space.plan_is.rising;
          some = omega (arith, low);
          fits = omega (arith, high);
        }

    dir_new : (q : Option Plan) → Grows q → IfSome q (λ (x : Plan). (is_used m x.id ≡ false) ⊎ (is_one_of (gone_at_once q alone) x.id ≡ true))
    dir_new None there = tt
    dir_new (Some plan) into = by_alone plan into
        (λ e id address. inr (ap (λ (b : Bool). is_one_of (gone_at_once (Some plan) b) plan.id) e ∙ ap (λ (b : Bool). b || false) (eq-eqb plan.id plan.id refl)))
        (λ e new other address. inl (new_id_unused m plan.id new))

    dir_stays : (q : Option Plan) → dir ≡ q → Grows q → IfSome q (λ (x : Plan). is_one_of back x.id ≡ false)
    dir_stays None f there = tt
    dir_stays (Some plan) f into = by_alone plan into (λ e id address. ap (λ (ids : List ℕ). is_one_of ids plan.id) (none e plan f)) (λ e new other address. unused plan.id (new_id_unused m plan.id new))

    apart : (q : Option Plan) → IfSome q (IsOwnPlan m to.bytes) → object ≡ q → (r : Option Plan) → Grows r → IfSome q (λ (x : Plan). IsOther x.id r)
    apart None own f r lies' = tt
    apart (Some q) own f None there = tt
    apart (Some q) own f (Some plan) into = by_alone plan into
        (λ e id address same. clash (is_used m own_id) own_used (ap (is_used m) (sym id ∙ sym same) ∙ own.unused))
        (λ e new other address same. never (subst (λ (x : Option Plan). IsOther plan.id x) f other) (sym same))
      where
        never : IsOther plan.id (Some q) → plan.id ≡ q.id → ⊥
        never other = other

    once_or : (q : Option Plan) → dir ≡ q → (b : Bool) → alone ≡ b → (gone_at_once q b ≡ []) ⊎ (back ≡ [])
    once_or None f b e = inl refl
    once_or (Some plan) f true e = inr (none e plan f)
    once_or (Some plan) f false e = inl refl

    pub plans_fit : PlansFit m object dir alone back
    plans_fit = record {
      object_can = object_can object to.own;
      object_new = object_new object to.own;
      object_some = object_some object to.own;
      dir_can = dir_can dir to.grown;
      dir_new = dir_new dir to.grown;
      two = apart object to.own refl dir to.grown;
      object_stays = object_stays object to.own;
      dir_stays = dir_stays dir refl to.grown;
      once = once_or dir refl alone refl;
    }

  -- ---- on the map afterwards

  module _ (m' : Map) (root : Option RootPlace) (back : List ℕ) (stepped : IsGrownStepped m m' object dir alone root back) (kept : dir ≡ None → is_one_of back own_id ≡ false) where
    form_now : dir_form (Layout.New m') ≡ dir_form (Layout.New m)
    form_now = ap (λ (x : Geometry). let f : NameForm = cond (x.version == 0) forms.Ten forms.Long in f) stepped.geometry

    pub grown_size : object_size (dir_form (Layout.New m')) grown.entry ≡ g.len
    grown_size = ap (λ (f : NameForm). object_size f grown.entry) form_now ∙ size_is p.directory.len ∙ len_is

    -- where nothing is taken, its identifier keeps its runs
    own_runs_stay : dir ≡ None → id_runs m' own_id ≡ id_runs m own_id
    own_runs_stay e =
        let free : is_taken (takings object dir) own_id ≡ false = ap (λ (q : Option Plan). is_taken (takings object q) own_id) e ∙ taken_either (takings_of (id_in object) (parts_in object)) [] own_id
        ∙ ap (λ (b : Bool). b || false) (not_before object own_id (not_object object to.own)) in
        stepped.space.others own_id free
        ∙ ap (λ (ids : List ℕ). cond (is_one_of ids own_id) [] (id_runs m own_id)) (ap (λ (q : Option Plan). gone_at_once q alone ++ back) e)
        ∙ ap (λ (b : Bool). cond b [] (id_runs m own_id)) (kept e)

    pub grown_at : IsAt (Layout.New m') grown
    grown_at = ap (λ (k : ℕ). sectors_at (Layout.New m') p.directory.address k) grown_size ∙ by dir refl to.grown stepped.dir_taken
      where
        by : (q : Option Plan) → dir ≡ q → Grows q → IfSome q (IsTakenIn m') → sectors_at (Layout.New m') p.directory.address g.len ≡ Some (sectors_in p.extents.items)
        by None e there taken =
            ap (λ (a : ℕ). sectors_at (Layout.New m') a g.len) (there_address there) ∙ place_law.stays m m' o.entry.address g.len stepped.geometry (own_runs_stay e) ∙ there_at there
        by (Some plan) e into taken = at_new plan into m' stepped.geometry taken

    pub grown_some : has_sectors grown ≡ true
    grown_some =
        let size : 0 < m'.geometry.sector = subst (λ (x : Geometry). 0 < x.sector) (sym stepped.geometry) some_size in
        let s = a_sector m' p.directory.address (object_size (dir_form (Layout.New m')) grown.entry) (sectors_in p.extents.items) (subst (λ (k : ℕ). 0 < k) (sym grown_size) to.longer) size grown_at in
        some_listed (sectors_in p.extents.items) s.0 s.1

    -- ---- what goes back

    -- `new` come, which own no identifier that was used but those of others
    module _ (new : List Object) (fresh : OwnOnlyOf m new stay) (lost : dir ≡ None → back ≡ []) (was_alone : alone ≡ true → back ≡ [])
        (left : (q : Plan) → dir ≡ Some q → alone ≡ false → back ≡ option_to_list (left_among owners g.node None)) where
      more_none : (k : ℕ) → is_used m k ≡ true → list_any (is_owner_of k) (new ++ stay) ≡ list_any (is_owner_of k) stay
      more_none k used = any_append (is_owner_of k) new stay ∙ absorbed (list_any (is_owner_of k) new) (list_any (is_owner_of k) stay) (fresh k used)
        where
          absorbed : (a b : Bool) → (a ≡ true → b ≡ true) → (a || b) ≡ b
          absorbed true b from = sym (from refl)
          absorbed false b from = refl

      -- with its old address it owns what it owned
      owned_there : p.directory.address ≡ o.entry.address → (k : ℕ) → is_used m k ≡ true → is_given_back objects (grown ∷ (new ++ stay)) k ≡ false
      owned_there address k used =
          ap₂ (λ (a b : Bool). a && not b) (owned_same objects (o ∷ stay) k to.others)
          (ap₂ (λ (b c : Bool). (k == 2) || (b || c)) (ap₂ (λ (b : Bool) (a : ℕ). b && (id_of a == k)) (grown_some ∙ sym o_some) address)
          (more_none k used))
          ∙ never (is_owned (o ∷ stay) k)
        where
          never : (b : Bool) → (b && not b) ≡ false
          never true = refl
          never false = refl

      -- with a new identifier it owns none that was used
      owns_none : (q : Plan) → Contains (new_ids m) q.id → p.directory.address ≡ 256 * q.id → OwnOnly m None (grown ∷ [])
      owns_none q is_new address k used =
          ap (λ (a : Bool). a || false)
          (ap (λ (i : ℕ). has_sectors grown && (i == k)) (ap id_of address ∙ (let z : id_of (256 * q.id) ≡ q.id = omega arith in z))
          ∙ ap (λ (b : Bool). has_sectors grown && b) (ne_eqb q.id k (λ same. clash (is_used m k) used (ap (is_used m) (sym same) ∙ new_id_unused m q.id is_new)))
          ∙ and_false (has_sectors grown))

      -- so nothing else goes back, whether they come or not
      same_back : (k : ℕ) → is_used m k ≡ true → is_given_back objects (grown ∷ stay) k ≡ is_given_back objects (grown ∷ (new ++ stay)) k
      same_back k used = ap (λ (b : Bool). is_owned objects k && not ((k == 2) || (is_owner_of k grown || b))) (sym (more_none k used))

      object_free : (q : Option Plan) → IfSome q (IsOwnPlan m to.bytes) → (k : ℕ) → is_used m k ≡ true → IsOther k q
      object_free None own k used = tt
      object_free (Some q) own k used = λ same. clash (is_used m k) used (ap (is_used m) same ∙ own.unused)

      taken_is : (k : ℕ) → is_used m k ≡ true → is_taken (takings object dir) k ≡ is_taken (taking_of dir) k
      taken_is k used =
          taken_either (takings_of (id_in object) (parts_in object)) (taking_of dir) k ∙ ap (λ (b : Bool). b || is_taken (taking_of dir) k) (not_before object k (object_free object to.own k used))

      pub gives : (k : ℕ) → is_used m k ≡ true → is_one_of (gone_at_once dir alone ++ back) k ≡ (is_given_back objects (grown ∷ (new ++ stay)) k || is_taken (takings object dir) k)
      gives k used = by dir refl to.grown ∙ ap (λ (b : Bool). is_given_back objects (grown ∷ (new ++ stay)) k || b) (sym (taken_is k used))
        where
          gives_in : (q : Option Plan) → Type 0
          gives_in q = is_one_of (gone_at_once q alone ++ back) k ≡ (is_given_back objects (grown ∷ (new ++ stay)) k || is_taken (taking_of q) k)

          by : (q : Option Plan) → dir ≡ q → Grows q → is_one_of (gone_at_once dir alone ++ back) k ≡ (is_given_back objects (grown ∷ (new ++ stay)) k || is_taken (taking_of dir) k)
          by None e there =
              subst gives_in (sym e)
              (ap (λ (ids : List ℕ). is_one_of ids k) (lost e) ∙ sym (ap (λ (b : Bool). b || false) (owned_there (there_address there) k used)))
          by (Some plan) e into = subst gives_in (sym e) (by_alone plan into
              (λ was id address.
              ap₂ (λ (b : Bool) (ids : List ℕ). is_one_of (gone_at_once (Some plan) b ++ ids) k) was (was_alone was)
              ∙ sym (ap (λ (b : Bool). b || ((plan.id == k) || false)) (owned_there address k used)))
              (λ was is_new other address.
              ap (λ (b : Bool). is_one_of (gone_at_once (Some plan) b ++ back) k) was
              ∙ ap (λ (ids : List ℕ). is_one_of ids k) (left plan e was)
              ∙ (leaves_ids owners g.node None m nodes listings o stay (grown ∷ []) to.node.sound to.node.held to.node.owned to.node.number to.others (owns_none plan is_new address)).exactly k used ∙ same_back k used
              ∙ sym (ap (λ (b : Bool). is_given_back objects (grown ∷ (new ++ stay)) k || (b || false)) (ne_eqb plan.id k (λ same. clash (is_used m k) used (ap (is_used m) (sym same) ∙ new_id_unused m plan.id is_new)))
              ∙ or_false (is_given_back objects (grown ∷ (new ++ stay)) k))))

      -- Where others own an identifier, which isn't the directory's, nothing is taken for it, and it stays.
      pub other_stays : (k : ℕ) → is_used m k ≡ true → (k ≡ own_id → ⊥) → list_any (is_owner_of k) stay ≡ true → (is_taken (takings object dir) k ≡ false) × (is_one_of (gone_at_once dir alone ++ back) k ≡ false)
      other_stays k used other owned = (
        none,
        gives k used
            ∙ ap₂ (λ (a b : Bool). a || b)
            (ap (λ (b : Bool). is_owned objects k && not ((k == 2) || (is_owner_of k grown || b))) (more_none k used ∙ owned) ∙ never (is_owned objects k) (k == 2) (is_owner_of k grown)) none,
      )
        where
          never : (a b c : Bool) → (a && not (b || (c || true))) ≡ false
          never true true c = refl
          never true false true = refl
          never true false false = refl
          never false b c = refl

          by : (q : Option Plan) → Grows q → is_taken (taking_of q) k ≡ false
          by None there = refl
          by (Some plan) into = by_alone plan into
              (λ was id address. ap (λ (b : Bool). b || false) (ne_eqb plan.id k (λ same. other (sym same ∙ id))))
              (λ was is_new others address. ap (λ (b : Bool). b || false) (ne_eqb plan.id k (λ same. clash (is_used m k) used (ap (is_used m) (sym same) ∙ new_id_unused m plan.id is_new))))

          none : is_taken (takings object dir) k ≡ false
          none = taken_is k used ∙ by dir to.grown
