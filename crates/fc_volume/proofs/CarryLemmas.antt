-- Where sectors come to lie when a map is compacted.
use Rattle.std.proofs.Common.{◌≡◌, ◌<◌, ◌≤◌, ◌⊎◌, inl, inr, ℕ, ◌+◌, ◌*◌, ◌/◌, ◌%◌, Bool, true, false, cond, List, [], ◌∷◌, ◌++◌, length, Option, Some, None, refl, sym, ap, ap₂, subst, ◌∙◌, arith}
use Rattle.std.specs.Prelude.{Ok, Err, Contains, filter, ◌==◌, ◌||◌}
use Rattle.std.specs.List.{find}
use Rattle.std.proofs.lemmas.Bool.{eqb-true, eq-eqb}
use Rattle.std.proofs.lemmas.List.{length-append}
use Rattle.std.proofs.lemmas.List.FromFn.{length-range_with_len}
use Rattle.std.proofs.lemmas.List.Sums.{sum_by-cons}
use Rattle.std.proofs.Math.Nat.{div-mul-le_self, le-div_iff_mul-le, zero-div}
use Rattle.std.proofs.lemmas.Nat.{mul-le}
use Rattle.fc_device.specs.Sectors.{sector_at}
use Rattle.fc_record.specs.declared.Geometry.{Geometry}
use Rattle.fc_zone.specs.declared.RunKind.{RunKind}
use Rattle.fc_zone.specs.declared.RunKind.TheVariants as kinds
use Rattle.fc_newmap.specs.Map.{Map, ZoneRun, all_runs, bits_in, has_id, hole_runs, id_runs, is_hole, run_sectors, sector_count, sectors_of}
use Rattle.fc_newmap.specs.NewMap.{IsNewMap}
use Rattle.fc_newmap.specs.RunsLaw.{IsGeometry, HasZones, HoldsSector}
use Rattle.fc_newmap.proofs.CoverLemmas.{id_Distinct, run_there}
use Rattle.fc_newmap.proofs.HeldLemmas.{geometry_facts}
use Rattle.fc_newmap.proofs.PlaceLemmas.{contains_cases, contains_none, held_in, holder_of, id_run_in, in_back, in_filter, in_id_runs, in_range, range_in}
use Rattle.fc_newmap.proofs.RunsLemmas.{runs_apart, sectors_add}
use Rattle.fc_alloc.specs.declared.owner.Owner.{Owner}
use Rattle.fc_image.specs.effects.Settled.{KeepsBits}
use Rattle.fc_compact.specs.Ready.{is_movable_by}
use Rattle.fc_volume.specs.Compacting.{IsCompacted}
use Rattle.fc_plan.proofs.MapLemmas.{all_placed}
use Rattle.fc_image.specs.Layout.{Layout, hole_sectors, id_sectors, is_among}
use Rattle.fc_image.specs.Moves.{Carried}
use Rattle.fc_image.specs.Walk.{Object}
use Rattle.fc_image.specs.Objects.{is_movable}
use Rattle.fc_image.specs.Opening.{is_hole_or_movable as loose}
use Rattle.fc_image.proofs.HolesLemmas.{loose_sectors}
use Rattle.fc_image.proofs.MoveLemmas.{CarriesIds, one_id}
use Rattle.fc_image.proofs.RemapLemmas.{map_moved, moved_in, moved_one, moved_to, map_agree as agree}
use Rattle.fc_device.specs.Numbers.{is_listed as is_in}
use Rattle.fc_zone.proofs.ZoneLemmas.{Contains-head as contains_here, Contains-tail as contains_later}
use Rattle.fc_laws.proofs.lemmas.agree.BeforeLemmas.{new_shape}

-- ---- the run that holds a sector

abbrev holds : Geometry → ℕ → ZoneRun → Bool
holds g s p = is_in (run_sectors g p) s

holds_it : (g : Geometry) (s : ℕ) (p : ZoneRun) → holds g s p ≡ true → HoldsSector g p s
holds_it g s p e = let r = range_in _ _ s e in record { from = r.0; to = r.1 }

held_by : (g : Geometry) (s : ℕ) (p : ZoneRun) → HoldsSector g p s → holds g s p ≡ true
held_by g s p h = in_range _ _ s h.from h.to

-- where one run alone holds the sector, it is found
find_held : (g : Geometry) (ps : List ZoneRun) (p : ZoneRun) (s : ℕ) → Contains ps p → HoldsSector g p s → ((q : ZoneRun) → Contains ps q → HoldsSector g q s → q ≡ p) → find (holds g s) ps ≡ Some p
find_held g [] p s there h one = absurd (contains_none p there)
find_held g (q ∷ ps) p s there h one = by (holds g s q) refl (λ rest. find_held g ps p s rest h (λ x c. one x (contains_later q ps x c)))
  where
    by : (b : Bool) → holds g s q ≡ b → (Contains ps p → find (holds g s) ps ≡ Some p) → cond b (Some q) (find (holds g s) ps) ≡ Some p
    by true e more = ap (λ (x : ZoneRun). let o : Option ZoneRun = Some x in o) (one q (contains_here q ps) (holds_it g s q e))
    by false e more = elim (contains_cases q ps p there) [
      | Ok same ↦ absurd (let yes = held_by g s q (subst (λ (x : ZoneRun). HoldsSector g x s) (sym same) h) in cc)
      | Err rest ↦ more rest
    ]

-- what is found is there, and holds the sector
found_held : (g : Geometry) (ps : List ZoneRun) (p : ZoneRun) (s : ℕ) → find (holds g s) ps ≡ Some p → Contains ps p × HoldsSector g p s
found_held g [] p s e = absurd (cc)
found_held g (q ∷ ps) p s e = by (holds g s q) refl e (found_held g ps p s)
  where
    same : (x y : ZoneRun) → (let o : Option ZoneRun = Some x in o) ≡ Some y → x ≡ y
    same x y h = cc

    by : (b : Bool) → holds g s q ≡ b → cond b (Some q) (find (holds g s) ps) ≡ Some p → (find (holds g s) ps ≡ Some p → Contains ps p × HoldsSector g p s)
        → Contains (q ∷ ps) p × HoldsSector g p s
    by true h f more = subst (λ (x : ZoneRun). Contains (q ∷ ps) x × HoldsSector g x s) (same q p f) (contains_here q ps, holds_it g s q h)
    by false h f more = let r = more f in (contains_later q ps p r.0, r.1)

-- ---- one list for another

module _ (holes : List ℕ) where
  put_all : (old new : List ℕ) → length old ≤ length new → ((t : ℕ) → is_among new t ≡ true → is_among holes t ≡ true) → Carried 0 [] [] holes old new
  unfolding sector_at
  put_all [] new few within = tt
  put_all (s ∷ old) [] few within = absurd (omega arith)
  put_all (s ∷ old) (t ∷ new) few within =
      (refl, inr (within t (ap (λ b. b || is_among new t) (eq-eqb t t refl))), put_all old new (omega arith) (λ u i. within u (in_back (t ∷ []) new u i)))

moves : (old new : List ℕ) → length old ≤ length new → Carried 0 [] [] new old new
moves old new few = put_all new old new few (λ t i. i)

stays : (old : List ℕ) (s : ℕ) → moved_to old old s ≡ s
unfolding moved_to
stays [] s = refl
stays (o ∷ old) s = by (o == s) refl (stays old s)
  where
    by : (b : Bool) → (o == s) ≡ b → moved_to old old s ≡ s → cond b o (moved_to old old s) ≡ s
    by true e more = eqb-true o s e
    by false e more = more

-- ---- sectors and bits

less_sectors : (a b unit sector : ℕ) → 0 < sector → a ≤ b → a * unit / sector ≤ b * unit / sector
less_sectors a b unit sector some low =
    (le-div_iff_mul-le some).1 (omega (arith, div-mul-le_self (a * unit) sector, mul-le a unit b unit low (omega arith)))

-- runs of whole sectors have as many sectors as their bits together
sectors_count : (g : Geometry) → IsGeometry g → (runs : List ZoneRun) → ((p : ZoneRun) → Contains runs p → p.1.len % g.q ≡ 0) → length (sectors_of g runs) ≡ bits_in runs * g.bit_bytes / g.sector
sectors_count g is [] whole = let none : bits_in [] * g.bit_bytes ≡ 0 = omega arith in sym (ap (λ (n : ℕ). n / g.sector) none ∙ zero-div g.sector)
sectors_count g is (p ∷ runs) whole =
    length-append (run_sectors g p) (sectors_of g runs)
    ∙ ap₂ (λ (a b : ℕ). a + b) (length-range_with_len _ (sector_count g p)) (sectors_count g is runs (λ q c. whole q (contains_later p runs q c)))
    ∙ sym (sectors_add g.q g.bit_bytes g.sector p.1.len (bits_in runs) is.some is.whole (whole p (contains_here p runs)))
    ∙ ap (λ (n : ℕ). n * g.bit_bytes / g.sector) (sym (sum_by-cons (λ (q : ZoneRun). q.1.len) p runs))

id_count : (m : Map) → IsNewMap m → (id : ℕ) → length (id_sectors m id) ≡ bits_in (id_runs m id) * m.geometry.bit_bytes / m.geometry.sector
id_count m is id =
    sectors_count m.geometry (new_shape m is) (id_runs m id)
    (λ p c. (all_placed m is p (id_run_in m id p (geometry_facts m.geometry is.of_record).zones c).0).long.1)

module _ (m m' : Map) (owners : List Owner) (c : IsCompacted m m' owners) where
  -- No identifier has fewer sectors.
  pub no_fewer : (id : ℕ) → length (id_sectors m id) ≤ length (id_sectors m' id)
  no_fewer id =
      let was = id_count m c.was_map id in
      let now : length (id_sectors m' id) ≡ bits_in (id_runs m' id) * m.geometry.bit_bytes / m.geometry.sector =
      id_count m' c.is_map id ∙ ap (λ (g : Geometry). bits_in (id_runs m' id) * g.bit_bytes / g.sector) c.geometry in
      let more = less_sectors (bits_in (id_runs m id)) (bits_in (id_runs m' id)) m.geometry.bit_bytes m.geometry.sector (new_shape m c.was_map).some (bits (is_movable_by owners id) refl) in
      omega (arith, was, now, more)
    where
      of_keeps : KeepsBits m m' id → bits_in (id_runs m id) ≤ bits_in (id_runs m' id)
      of_keeps (inl same) = omega arith
      of_keeps (inr joined) = joined.2

      bits : (b : Bool) → is_movable_by owners id ≡ b → bits_in (id_runs m id) ≤ bits_in (id_runs m' id)
      bits true e = of_keeps (c.compacted.bits id e)
      bits false e = let same = ap bits_in (c.fixed id e) in omega (arith, same)

-- ---- where a sector comes to lie

abbrev carried_as : Map → Map → RunKind → ℕ → ℕ
carried_as m m' kinds.Hole s = s
carried_as m m' (kinds.Id id) s = moved_to (id_sectors m id) (id_sectors m' id) s

abbrev carried_by : Map → Map → Option ZoneRun → ℕ → ℕ
carried_by m m' None s = s
carried_by m m' (Some p) s = carried_as m m' p.1.kind s

-- the sector of the same number of its identifier
unfoldable pub carried : Map → Map → ℕ → ℕ
carried m m' s = carried_by m m' (find (holds m.geometry s) (all_runs m)) s

has_its_id : (id : ℕ) (k : RunKind) → has_id id k ≡ true → k ≡ kinds.Id id
has_its_id id kinds.Hole e = absurd (cc)
has_its_id id (kinds.Id other) e = ap (λ (n : ℕ). let k : RunKind = kinds.Id n in k) (eqb-true other id e)

module _ (m m' : Map) (same : m'.geometry ≡ m.geometry) (is : IsGeometry m.geometry) (has : HasZones m) (has' : HasZones m') (some : 1 ≤ m.geometry.zones)
    (more : (id : ℕ) → length (id_sectors m id) ≤ length (id_sectors m' id)) where
  one_run : (p : ZoneRun) (s : ℕ) → Contains (all_runs m) p → HoldsSector m.geometry p s → find (holds m.geometry s) (all_runs m) ≡ Some p
  one_run p s there h = find_held m.geometry (all_runs m) p s there h (λ q c k. runs_apart m is has q p c there s k h)

  carried_in : (id s : ℕ) → is_among (id_sectors m id) s ≡ true → carried m m' s ≡ moved_to (id_sectors m id) (id_sectors m' id) s
  unfolding carried
  carried_in id s e =
      let p = holder_of m.geometry (id_runs m id) s e in
      let there = id_run_in m id p.0 some p.1.0 in
      ap (λ (o : Option ZoneRun). carried_by m m' o s) (one_run p.0 s there.0 p.1.1)
      ∙ ap (λ (k : RunKind). carried_as m m' k s) (has_its_id id p.0.1.kind there.1)

  -- Each identifier's sectors are carried, and there may be more.
  pub carries : CarriesIds m m' (carried m m')
  carries id =
      let old = id_sectors m id in
      let new = id_sectors m' id in
      let r = map_moved 0 [] [] new old new (id_Distinct m is has some id) (moves old new (more id)) in
      (r.0, r.1 ∙ ap (λ (xs : List ℕ). xs ++ r.0) (sym (agree (carried m m') (moved_to old new) old (carried_in id))))

  some' : 1 ≤ m'.geometry.zones
  some' = subst (λ (g : Geometry). 1 ≤ g.zones) (sym same) some

  is' : IsGeometry m'.geometry
  is' = subst IsGeometry (sym same) is

  -- a sector that no run holds stays
  none_stays : (s : ℕ) → find (holds m.geometry s) (all_runs m) ≡ None → carried m m' s ≡ s
  unfolding carried
  none_stays s e = ap (λ (o : Option ZoneRun). carried_by m m' o s) e

  -- a sector that lies in no hole is an identifier's, or no run holds it
  where_it_is : (s : ℕ) → is_among (hole_sectors (Layout.New m)) s ≡ false → ((id : ℕ) × (is_among (id_sectors m id) s ≡ true)) ⊎ (find (holds m.geometry s) (all_runs m) ≡ None)
  where_it_is s free = by (find (holds m.geometry s) (all_runs m)) refl
    where
      of_kind : (p : ZoneRun) (k : RunKind) → p.1.kind ≡ k → Contains (all_runs m) p × HoldsSector m.geometry p s → (id : ℕ) × (is_among (id_sectors m id) s ≡ true)
      of_kind p kinds.Hole e there =
          absurd (let yes = held_in m.geometry (hole_runs m) p s (in_filter (λ x. is_hole x.1.kind) (all_runs m) p there.0 (ap is_hole e)) there.1 in cc)
      of_kind p (kinds.Id id) e there =
          (id, held_in m.geometry (id_runs m id) p s (in_id_runs m id p some there.0 (ap (has_id id) e ∙ eq-eqb id id refl)) there.1)

      by : (o : Option ZoneRun) → find (holds m.geometry s) (all_runs m) ≡ o → ((id : ℕ) × (is_among (id_sectors m id) s ≡ true)) ⊎ (o ≡ None)
      by None e = inr refl
      by (Some p) e = inl (of_kind p p.1.kind refl (found_held m.geometry (all_runs m) p s e))

  comes_in : (id s : ℕ) → is_among (id_sectors m id) s ≡ true → is_among (id_sectors m' id) (carried m m' s) ≡ true
  comes_in id s e =
      subst (λ (t : ℕ). is_among (id_sectors m' id) t ≡ true) (sym (carried_in id s e))
      (moved_in 0 [] [] (id_sectors m' id) (id_sectors m id) (id_sectors m' id) s (moves (id_sectors m id) (id_sectors m' id) (more id)) e).0

  -- no identifier comes to lie where no run was
  not_outside : (id s t : ℕ) → is_among (id_sectors m id) s ≡ true → find (holds m.geometry t) (all_runs m) ≡ None → carried m m' s ≡ t → ⊥
  not_outside id s t e none at =
      let there = subst (λ (u : ℕ). is_among (id_sectors m' id) u ≡ true) at (comes_in id s e) in
      let p' = holder_of m'.geometry (id_runs m' id) t there in
      let run' = id_run_in m' id p'.0 some' p'.1.0 in
      let p = run_there m m' same is has has' some p'.0 t run'.0 (subst (λ (g : Geometry). HoldsSector g p'.0 t) same p'.1.1) in
      let found = one_run p.0 t p.1.0 p.1.1 in
      cc

  -- Sectors that lie in no hole stay different.
  pub stays_two : (s t : ℕ) → is_among (hole_sectors (Layout.New m)) s ≡ false → is_among (hole_sectors (Layout.New m)) t ≡ false → carried m m' s ≡ carried m m' t → s ≡ t
  stays_two s t free_s free_t e = by (where_it_is s free_s) (where_it_is t free_t)
    where
      both : (a b : ℕ) → is_among (id_sectors m a) s ≡ true → is_among (id_sectors m b) t ≡ true → a ≡ b → s ≡ t
      both a b in_a in_b at =
          let in_t = subst (λ (k : ℕ). is_among (id_sectors m k) t ≡ true) (sym at) in_b in
          moved_one 0 [] [] (id_sectors m' a) (id_sectors m a) (id_sectors m' a) s t (id_Distinct m' is' has' some' a) (moves (id_sectors m a) (id_sectors m' a) (more a)) in_a in_t
          (sym (carried_in a s in_a) ∙ e ∙ carried_in a t in_t)

      by : ((id : ℕ) × (is_among (id_sectors m id) s ≡ true)) ⊎ (find (holds m.geometry s) (all_runs m) ≡ None)
          → ((id : ℕ) × (is_among (id_sectors m id) t ≡ true)) ⊎ (find (holds m.geometry t) (all_runs m) ≡ None) → s ≡ t
      by (inl a) (inl b) =
          both a.0 b.0 a.1 b.1
          (one_id m' is' has' some' a.0 b.0 (carried m m' s) (comes_in a.0 s a.1) (subst (λ (u : ℕ). is_among (id_sectors m' b.0) u ≡ true) (sym e) (comes_in b.0 t b.1)))
      by (inl a) (inr none) = absurd (not_outside a.0 s t a.1 none (e ∙ none_stays t none))
      by (inr none) (inl b) = absurd (not_outside b.0 t s b.1 none (sym e ∙ none_stays s none))
      by (inr none) (inr none') = sym (none_stays s none) ∙ e ∙ none_stays t none'

  -- Only sectors of identifiers that may move are carried elsewhere.
  pub fixed_stays : (objects : List Object) → ((id : ℕ) → is_movable objects id ≡ false → id_runs m' id ≡ id_runs m id) → (s : ℕ) → is_among (loose_sectors m objects) s ≡ false → carried m m' s ≡ s
  unfolding carried
  fixed_stays objects fixed s firm = by (find (holds m.geometry s) (all_runs m)) refl
    where
      of_id : (p : ZoneRun) (id : ℕ) → p.1.kind ≡ kinds.Id id → Contains (all_runs m) p × HoldsSector m.geometry p s → (b : Bool) → is_movable objects id ≡ b
          → moved_to (id_sectors m id) (id_sectors m' id) s ≡ s
      of_id p id e there true movable =
          absurd (
          let yes = held_in m.geometry (filter (λ x. loose objects x.1.kind) (all_runs m)) p s
          (in_filter (λ x. loose objects x.1.kind) (all_runs m) p there.0 (ap (loose objects) e ∙ movable)) there.1 in
          cc)
      of_id p id e there false firm' =
          ap (λ (xs : List ℕ). moved_to (id_sectors m id) xs s) (ap₂ (λ (g : Geometry) (rs : List ZoneRun). sectors_of g rs) same (fixed id firm')) ∙ stays (id_sectors m id) s

      of_kind : (p : ZoneRun) (k : RunKind) → p.1.kind ≡ k → Contains (all_runs m) p × HoldsSector m.geometry p s → carried_as m m' k s ≡ s
      of_kind p kinds.Hole e there = refl
      of_kind p (kinds.Id id) e there = of_id p id e there (is_movable objects id) refl

      by : (o : Option ZoneRun) → find (holds m.geometry s) (all_runs m) ≡ o → carried_by m m' o s ≡ s
      by None e = refl
      by (Some p) e = of_kind p p.1.kind refl (found_held m.geometry (all_runs m) p s e)
