-- Several moves that one commit makes current: one move more, and the commit.
use Rattle.std.proofs.Common.{◌≡◌, ◌<◌, ◌≤◌, ◌⊎◌, inl, inr, ℕ, ◌+◌, ◌-◌, Bool, true, false, List, [], ◌∷◌, ◌++◌, map, length, refl, sym, ap, ap₂, subst, ◌∙◌, arith, append_assoc}
use Rattle.std.specs.Prelude.{filter}
use Rattle.std.specs.List.{range_with_len}
use Rattle.std.proofs.lemmas.Bool.{cases_eq, cases_lt, eqb-true, false_from_ne_true as unless}
use Rattle.std.proofs.lemmas.List.{append-nil}
use Rattle.fc_device.specs.Sectors.{sector_at}
use Rattle.fc_record.specs.declared.Geometry.{Geometry}
use Rattle.fc_record.specs.declared.DiscRecord.{DiscRecord}
use Rattle.fc_record.specs.declared.Kind.{Kind}
use Rattle.fc_record.specs.Kinds.{map_record}
use Rattle.fc_zone.specs.declared.RunKind.{RunKind}
use Rattle.fc_zone.specs.declared.RunKind.TheVariants as kinds
use Rattle.fc_newmap.specs.Map.{Map, ZoneRun, all_runs, has_id, id_runs, map_sectors, sector_of, sectors_of}
use Rattle.fc_newmap.specs.NewMap.{IsNewMap}
use Rattle.fc_newmap.proofs.CoverLemmas.{id_Distinct}
use Rattle.fc_newmap.proofs.HeldLemmas.{geometry_facts}
use Rattle.fc_newmap.proofs.PlaceLemmas.{held_in, holder_of, id_run_in, in_filter, in_range, range_in}
use Rattle.fc_alloc.specs.declared.owner.Owner.{Owner}
use Rattle.fc_newmap.specs.declared.copies.Which.TheVariants.{One}
use Rattle.fc_newmap.specs.Copies.{Chooses, CommitEnds, CommitLeaves, HoldsCopies, copy_of, is_sound}
use Rattle.fc_newmap.proofs.ReadingLemmas.{chooses_one}
use Rattle.fc_image.specs.Layout.{Layout, hole_sectors, id_sectors, is_among}
use Rattle.fc_image.specs.Objects.{objects_of}
use Rattle.fc_image.specs.Opening.{Opened, is_hole_or_movable}
use Rattle.fc_image.specs.Stays.{IsNewKind, OpensAs}
use Rattle.fc_image.specs.Walk.{Listing, Object}
use Rattle.fc_image.specs.Moves.{Carried, StaysBy, with_map}
use Rattle.fc_image.proofs.HolesLemmas.{id_no_hole}
use Rattle.fc_image.proofs.MoveLemmas.{one_id}
use Rattle.fc_image.proofs.RemapLemmas.{map_fixed, map_moved, moved_apart, moved_in, moved_out, moved_to}
use Rattle.fc_compact.specs.Compaction.{is_loose, loose_sectors}
use Rattle.fc_compact.specs.Copy.{ChangesRow}
use Rattle.fc_compact.specs.Rounds.{Carrying}
use Rattle.fc_compact.specs.Laws.{Laws}
use Rattle.fc_compact.specs.Ready.{AreOwnersOf, IsReady, is_movable_by}
use Rattle.fc_compact.specs.Steps.{Preserves}
use Rattle.fc_compact.proofs.OwnersLemmas.{same_movable}
use Rattle.fc_compact.proofs.PreservesLemmas.{geometry_is, loose_before}
use Rattle.fc_compact.proofs.ReadyLemmas.{map_no_hole}
use Rattle.fc_compact.proofs.StepLemmas.{beyond_map, map_is}

map_twice : (g f : ℕ → ℕ) (xs extra : List ℕ) → map g (map f xs ++ extra) ≡ map (λ s. g (f s)) xs ++ map g extra
map_twice g f [] extra = refl
map_twice g f (x ∷ xs) extra = ap (λ (ys : List ℕ). g (f x) ∷ ys) (map_twice g f xs extra)

-- a movable identifier's sectors are loose
pub id_loose : (m : Map) (owners : List Owner) (id s : ℕ) → 1 ≤ m.geometry.zones → is_movable_by owners id ≡ true → is_among (id_sectors m id) s ≡ true → is_among (loose_sectors m owners) s ≡ true
id_loose m owners id s some may e =
    let p = holder_of m.geometry (id_runs m id) s e in
    let f = id_run_in m id p.0 some p.1.0 in
    held_in m.geometry (filter (λ q. is_loose owners q.1.kind) (all_runs m)) p.0 s (in_filter (λ q. is_loose owners q.1.kind) (all_runs m) p.0 f.0 (loose p.0.1.kind f.1)) p.1.1
  where
    loose : (k : RunKind) → has_id id k ≡ true → is_loose owners k ≡ true
    loose kinds.Hole h = refl
    loose (kinds.Id other) h = subst (λ (n : ℕ). is_movable_by owners n ≡ true) (sym (eqb-true other id h)) may

-- nothing has moved
pub carrying_none : (m : Map) (owners : List Owner) (image : List ℕ) → Carrying m m owners image
carrying_none m owners image = record {
  f = λ s. s;
  ids = λ k. ([], sym (map_fixed (λ s. s) (id_sectors m k) (λ s i. refl)) ∙ sym (append-nil (map (λ s. s) (id_sectors m k))));
  bytes = λ s free. refl;
  stays = λ s. inl refl;
  one = λ s t free_s free_t e. e;
  rest = λ s stuck. refl;
}

-- the runs of holes alone are others
pub carrying_same : (m w w' : Map) (owners : List Owner) (image : List ℕ) → ((k : ℕ) → id_sectors w' k ≡ id_sectors w k) → Carrying m w owners image → Carrying m w' owners image
carrying_same m w w' owners image same was = record {
  f = was.f;
  ids = λ k. (let e = was.ids k in (e.0, same k ∙ e.1));
  bytes = was.bytes;
  stays = λ s. elim (was.stays s) [
    | inl here ↦ inl here
    | inr moved ↦ inr (moved.0, moved.1, ap (λ (xs : List ℕ). is_among xs (was.f s)) (same moved.0) ∙ moved.2)
  ];
  one = was.one;
  rest = was.rest;
}

-- ---- one move more

module _ (m w w' : Map) (owners : List Owner) (is : IsNewMap m) (is_w : IsNewMap w) (is_w' : IsNewMap w') (same : w.geometry ≡ m.geometry) (same' : w'.geometry ≡ w.geometry)
    (fixed : (k : ℕ) → is_movable_by owners k ≡ false → id_runs w k ≡ id_runs m k) (id : ℕ) (may : is_movable_by owners id ≡ true)
    (others : (k : ℕ) → (k ≡ id → ⊥) → id_runs w' k ≡ id_runs w k) (to count : ℕ)
    (in_holes : (i : ℕ) → i < count → is_among (hole_sectors (Layout.New m)) (to + i) ≡ true)
    (in_free : (i : ℕ) → i < count → is_among (hole_sectors (Layout.New w)) (to + i) ≡ true)
    (image image' : List ℕ) (row : ChangesRow m.geometry.sector to count image image')
    (carried : Carried m.geometry.sector image' image' (range_with_len to count) (id_sectors w id) (id_sectors w' id)) (was : Carrying m w owners image) where
  abbrev size : ℕ
  size = m.geometry.sector

  abbrev taken : List ℕ
  taken = range_with_len to count

  abbrev old : List ℕ
  old = id_sectors w id

  abbrev new : List ℕ
  new = id_sectors w' id

  abbrev g : ℕ → ℕ
  g = moved_to old new

  some : 1 ≤ w.geometry.zones
  some = (geometry_facts w.geometry is_w.of_record).zones

  taken_at : (s : ℕ) → is_among taken s ≡ true → (i : ℕ) × ((i < count) × (to + i ≡ s))
  taken_at s e = let r = range_in to count s e in (s - to, (omega (arith, r.0, r.1), omega (arith, r.0)))

  taken_hole : (s : ℕ) → is_among taken s ≡ true → is_among (hole_sectors (Layout.New m)) s ≡ true
  taken_hole s e = let at = taken_at s e in subst (λ (k : ℕ). is_among (hole_sectors (Layout.New m)) k ≡ true) at.1.1 (in_holes at.0 at.1.0)

  taken_free : (s : ℕ) → is_among taken s ≡ true → is_among (hole_sectors (Layout.New w)) s ≡ true
  taken_free s e = let at = taken_at s e in subst (λ (k : ℕ). is_among (hole_sectors (Layout.New w)) k ≡ true) at.1.1 (in_free at.0 at.1.0)

  -- other sectors are as they were
  beyond : (s : ℕ) → is_among taken s ≡ false → sector_at size image' s ≡ sector_at size image s
  beyond s none = elim (cases_lt s to) [
    | inl less ↦ row.outside s (inl less)
    | inr from ↦ elim (cases_lt s (to + count)) [
      | inl inside ↦ absurd (let t = in_range to count s from inside in cc)
      | inr past ↦ row.outside s (inr past)
    ]
  ]

  kept : (s : ℕ) → is_among (hole_sectors (Layout.New m)) s ≡ false → is_among taken s ≡ false
  kept s free = unless (is_among taken s) (λ e. let t = taken_hole s e in cc)

  -- no sector has moved there before
  clear : (s : ℕ) → is_among (hole_sectors (Layout.New m)) s ≡ false → is_among taken (was.f s) ≡ false
  clear s free = unless (is_among taken (was.f s)) (λ e. elim (was.stays s) [
    | inl here ↦ (let t = subst (λ (k : ℕ). is_among (hole_sectors (Layout.New m)) k ≡ true) here (taken_hole (was.f s) e) in cc)
    | inr moved ↦ id_no_hole w (geometry_is w is_w) is_w.right some moved.0 (was.f s) moved.2 (taken_free (was.f s) e)
  ])

  sectors_other : (k : ℕ) → (k ≡ id → ⊥) → id_sectors w' k ≡ id_sectors w k
  sectors_other k other = ap (λ (h : Geometry). sectors_of h (id_runs w' k)) same' ∙ ap (sectors_of w.geometry) (others k other)

  -- the sectors of other identifiers stay
  away : (k s : ℕ) → (k ≡ id → ⊥) → is_among (id_sectors w k) s ≡ true → is_among old s ≡ false
  away k s other e = unless (is_among old s) (λ h. other (one_id w (geometry_is w is_w) is_w.right some k id s e h))

  moved_stays : (s : ℕ) → (g (was.f s) ≡ s) ⊎ ((k : ℕ) × (is_among (hole_sectors (Layout.New m)) (g (was.f s)) ≡ true) × (is_among (id_sectors w' k) (g (was.f s)) ≡ true))
  moved_stays s = by (is_among old (was.f s)) refl
    where
      by : (b : Bool) → is_among old (was.f s) ≡ b
          → (g (was.f s) ≡ s) ⊎ ((k : ℕ) × (is_among (hole_sectors (Layout.New m)) (g (was.f s)) ≡ true) × (is_among (id_sectors w' k) (g (was.f s)) ≡ true))
      by true e =
          let in_new = moved_in size image' image' taken old new (was.f s) carried e in
          elim in_new.2 [
            | inl here ↦ elim (was.stays s) [
              | inl stay ↦ inl (here ∙ stay)
              | inr moved ↦ inr (id, ap (is_among (hole_sectors (Layout.New m))) here ∙ moved.1, in_new.0)
            ]
            | inr there ↦ inr (id, taken_hole (g (was.f s)) there, in_new.0)
          ]
      by false e =
          let here = moved_out size image' image' taken old new (was.f s) e in
          elim (was.stays s) [
            | inl stay ↦ inl (here ∙ stay)
            | inr moved ↦ inr (
              moved.0,
              ap (is_among (hole_sectors (Layout.New m))) here ∙ moved.1,
              ap₂ (λ (xs : List ℕ) (k : ℕ). is_among xs k)
                  (sectors_other moved.0 (λ is_id. (let t = subst (λ (k : ℕ). is_among (id_sectors w k) (was.f s) ≡ true) is_id moved.2 in cc))) here ∙ moved.2,
            )
          ]

  moved_bytes : (s : ℕ) → is_among (hole_sectors (Layout.New m)) s ≡ false → sector_at size image' (g (was.f s)) ≡ sector_at size image' s
  moved_bytes s free = by (is_among old (was.f s)) refl ∙ beyond (was.f s) (clear s free) ∙ was.bytes s free ∙ sym (beyond s (kept s free))
    where
      by : (b : Bool) → is_among old (was.f s) ≡ b → sector_at size image' (g (was.f s)) ≡ sector_at size image' (was.f s)
      by true e = (moved_in size image' image' taken old new (was.f s) carried e).1
      by false e = ap (sector_at size image') (moved_out size image' image' taken old new (was.f s) e)

  moved_ids : (k : ℕ) → (extra : List ℕ) × (id_sectors w' k ≡ map (λ s. g (was.f s)) (id_sectors m k) ++ extra)
  moved_ids k = elim (cases_eq k id) [
    | inl is_id ↦ subst (λ (j : ℕ). (extra : List ℕ) × (id_sectors w' j ≡ map (λ s. g (was.f s)) (id_sectors m j) ++ extra)) (sym is_id)
        (let first = was.ids id in
        let then = map_moved size image' image' taken old new (id_Distinct w (geometry_is w is_w) is_w.right some id) carried in (
          map g first.0 ++ then.0,
          then.1 ∙ ap (λ (xs : List ℕ). map g xs ++ then.0) first.1 ∙ ap (λ (xs : List ℕ). xs ++ then.0) (map_twice g was.f (id_sectors m id) first.0)
              ∙ append_assoc (map (λ s. g (was.f s)) (id_sectors m id)) (map g first.0) then.0,
        ))
    | inr other ↦ (let first = was.ids k in (
      map g first.0,
      sectors_other k other ∙ sym (map_fixed g (id_sectors w k) (λ s i. moved_out size image' image' taken old new s (away k s other i))) ∙ ap (map g) first.1
          ∙ map_twice g was.f (id_sectors m k) first.0,
    ))
  ]

  moved_rest : (s : ℕ) → is_among (loose_sectors m owners) s ≡ false → g (was.f s) ≡ s
  moved_rest s stuck =
      let here = was.rest s stuck in
      moved_out size image' image' taken old new (was.f s)
      (unless (is_among old (was.f s)) (λ e.
      let now = id_loose w owners id s some may (subst (λ (k : ℕ). is_among old k ≡ true) here e) in
      let before = loose_before m w owners is is_w same fixed s now in
      cc))
      ∙ here

  pub carrying_more : Carrying m w' owners image'
  carrying_more = record {
    f = λ s. g (was.f s);
    ids = moved_ids;
    bytes = moved_bytes;
    stays = moved_stays;
    one = λ s t free_s free_t e. was.one s t free_s free_t
        (moved_apart size image' image' taken old new (was.f s) (was.f t)
        (id_Distinct w' (geometry_is w' is_w') is_w'.right (geometry_facts w'.geometry is_w'.of_record).zones id) carried (clear s free_s) (clear t free_t) e);
    rest = moved_rest;
  }

-- ---- the commit

module _ (law : Laws) (m m' : Map) (owners : List Owner) (start : List ℕ) (ready : IsReady m owners start) (is : IsNewMap m) (is' : IsNewMap m') (after : m'.geometry ≡ m.geometry)
    (record_stays : map_record (sector_of m' 0) ≡ map_record (sector_of m 0)) (fixed : (k : ℕ) → is_movable_by owners k ≡ false → id_runs m' k ≡ id_runs m k)
    (carrying : Carrying m m' owners start) where
  free_id : (k s : ℕ) → is_among (id_sectors m k) s ≡ true → is_among (hole_sectors (Layout.New m)) s ≡ false
  free_id k s i =
      unless (is_among (hole_sectors (Layout.New m)) s) (id_no_hole m (geometry_is m is) is.right (geometry_facts m.geometry is.of_record).zones k s i)

  off_map : (s : ℕ) → is_among (map_sectors m.geometry) s ≡ false → is_among (map_sectors m.geometry) (carrying.f s) ≡ false
  off_map s out = elim (carrying.stays s) [
    | inl here ↦ ap (is_among (map_sectors m.geometry)) here ∙ out
    | inr moved ↦ unless (is_among (map_sectors m.geometry) (carrying.f s)) (λ e. let none = map_no_hole law m owners start start ready (carrying.f s) e in let hole = moved.1 in cc)
  ]

  -- by the map m' the image says the same, as each kind as which it opens
  carry_stays : (image : List ℕ) → length image ≡ length start
      → ((s : ℕ) → is_among (map_sectors m.geometry) s ≡ false → sector_at m.geometry.sector image s ≡ sector_at m.geometry.sector start s) → Chooses m.geometry m'.zones image
      → (kind : Kind) (r : DiscRecord) (v : Opened) → IsNewKind kind r → OpensAs start kind v → v.layout ≡ Layout.New m → AreOwnersOf owners (objects_of v.listings) → StaysBy kind start v m' image
  carry_stays image long out chosen kind r v new opens layout own =
      let objects = objects_of v.listings in
      law.carries start image kind r v m m' carrying.f new opens layout
      (record {
        turns = record { geometry_stays = after; record_stays = record_stays; is_map = map_is m' is'; chosen_map = chosen; length_stays = long; outside = λ s h free. out s h };
        fixed = λ k h. fixed k (sym (same_movable owners objects own k) ∙ h);
        ids = carrying.ids;
        bytes = λ k s i h. out (carrying.f s) (off_map s h) ∙ carrying.bytes s (free_id k s i);
        one = carrying.one;
        rest = λ s h. carrying.rest s (ap (λ (t : ZoneRun → Bool). is_among (sectors_of m.geometry (filter t (all_runs m))) s) (λ i p. loose_same objects own p.1.kind i) ∙ h);
      })
    where
      loose_same : (objects : List Object) → AreOwnersOf owners objects → (k : RunKind) → is_loose owners k ≡ is_hole_or_movable objects k
      loose_same objects own kinds.Hole = refl
      loose_same objects own (kinds.Id id) = sym (same_movable owners objects own id)

  -- each image that a crash inside the commit may leave
  pub carry_preserves : (image : List ℕ) → CommitLeaves m.geometry start (copy_of m.geometry One start) m'.zones image → Preserves m owners start image
  carry_preserves image left = record {
    objects = λ kind r v n new opens layout at.
        (let one = law.one_map start ready.kind kind ready.of_record r ready.view v m n ready.new_kind new ready.opens opens ready.layout layout at in
        elim left.content [
          | inl old ↦ law.keeps_objects.commit start image ready.kind ready.of_record ready.view m m ready.new_kind ready.opens ready.layout
              (inr (record { geometry_stays = refl; record_stays = refl; is_map = map_is m is; fixed = λ k h. refl; sectors = λ k. refl }))
              (record { frame = left.frame; content = inl (subst (λ (zs : List (List ℕ)). Chooses m.geometry zs image) ready.copies.first old) }) kind r v n new opens layout at
          | inr chosen ↦ (
            m',
            carry_stays image left.frame.same_length out chosen kind r v new opens (layout ∙ ap Layout.New one.0)
                (subst (λ (ls : List Listing). AreOwnersOf owners (objects_of ls)) (sym one.1) ready.owned),
          )
        ]);
    frame = record { same_length = left.frame.same_length; outside = λ s h apart. out s h };
  }
    where
      out : (s : ℕ) → is_among (map_sectors m.geometry) s ≡ false → sector_at m.geometry.sector image s ≡ sector_at m.geometry.sector start s
      out s h = left.frame.outside s (beyond_map m.geometry s h)

  pub carry_ready : (image : List ℕ) → CommitEnds m.geometry start m'.zones image → IsReady m' owners image
  carry_ready image ends =
      let chosen : Chooses m.geometry m'.zones image = record { which = One; chosen_one = chooses_one m.geometry image (ap is_sound ends.copies.first ∙ ends.copies.sound); content = ends.copies.first } in
      let stays = carry_stays image ends.frame.same_length (λ s h. ends.frame.outside s (beyond_map m.geometry s h)) chosen ready.kind ready.of_record ready.view ready.new_kind ready.opens ready.layout ready.owned in
      record {
        kind = ready.kind;
        of_record = ready.of_record;
        view = with_map m' ready.view;
        new_kind = ready.new_kind;
        opens = stays.opens;
        layout = refl;
        copies = subst (λ (h : Geometry). HoldsCopies h m'.zones image) (sym after) ends.copies;
        owned = λ k. ready.owned k ∙ sym (stays.owned k);
      }
