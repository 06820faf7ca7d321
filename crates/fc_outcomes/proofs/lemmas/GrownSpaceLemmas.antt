-- The new map after an edit in which a directory grows, as a command leaves it, and the place of the directory.
use Rattle.std.proofs.Common.{◌≡◌, ◌<◌, ◌≤◌, ◌⊎◌, inl, inr, ⊎_elim, ℕ, ◌*◌, ◌/◌, ◌%◌, Bool, true, false, cond, List, [], ◌∷◌, ◌++◌, length, refl, sym, ap, subst, ◌∙◌, arith, Some, None, Option}
use Rattle.std.specs.Prelude.{Contains, IfSome, IsPermutation, IsSomeAnd, ◌==◌, ◌&&◌, ◌||◌}
use Rattle.std.specs.Option.{option_and_then, option_map_or}
use Rattle.std.proofs.lemmas.Bool.{eqb-true, false_from_ne_true as unless}
use Rattle.std.proofs.lemmas.List.Elements.{Contains-append_right}
use Rattle.fc_newmap.specs.Map.{ZoneRun, bits_in, hole_runs, id_runs, is_used}
use Rattle.fc_model.specs.Command.{Command}
use Rattle.fc_image.specs.Layout.{Layout, id_of, low_of}
use Rattle.fc_image.specs.Walk.{Listing, Object}
use Rattle.fc_image.specs.Objects.{is_owned, object_at, objects_of}
use Rattle.fc_image.specs.Opening.{Opened}
use Rattle.fc_image.specs.effects.Sharing.{units}
use Rattle.fc_image.specs.effects.Short.{Growth, growth_in, has_room, is_alone, moved_growth, object_units}
use Rattle.fc_image.specs.effects.Placed.{GrowthPlaced, GrowthPlacedIn, IsNewId, IsTaken, KeepsOrGetsId, holes_left, made_object, object_parts}
use Rattle.fc_image.specs.effects.Steady.{grown_parts, is_left_by_growth}
use Rattle.fc_plan.specs.Taking.{as_runs}
use Rattle.fc_plan.proofs.Composed.{left_in_order}
use Rattle.fc_plan.proofs.Left.{left_of_none}
use Rattle.fc_plan.proofs.Order.{rising_of}
use Rattle.fc_plan.proofs.Ordered.{taken_in_order}
use Rattle.fc_plan.proofs.Plans.{rising_apart}
use Rattle.fc_plan.proofs.Units.{units_some}
use Rattle.fc_tree.proofs.MemberLemmas.{contains_here}
use Rattle.fc_changes.proofs.BasicLemmas.{clash}
use Rattle.fc_edits.specs.Growing.{Growing, at_place}
use Rattle.fc_edits.specs.GrownPlaces.{GrowsAlone, GrowsElsewhere, GrowsThere, NewGrowing, TakesSpace}
use Rattle.fc_edits.specs.NewPlaces.{Taking, is_taken, untaken}
use Rattle.fc_edits.proofs.lemmas.GrownPlaceLemmas.{anew_owns, o_used}
use Rattle.fc_edits.proofs.lemmas.IdentifierLemmas.{taken_either}
use Rattle.fc_edits.proofs.lemmas.NewPlaceLemmas.{owned_by}
use Rattle.fc_edits.proofs.lemmas.NewSpaceLemmas.{new_id_high, new_id_unused, used_after}

-- what is left when some take their parts after others
pub untaken_more : (holes : List ZoneRun) (xs ys : List Taking) → untaken holes (xs ++ ys) ≡ untaken (untaken holes xs) ys
untaken_more holes [] ys = refl
untaken_more holes (t ∷ xs) ys = untaken_more (holes_left holes t.parts) xs ys

module _ (x : NewGrowing) (c : Command) (growth : growth_in (record { kind = x.kind; layout = Layout.New x.m; listings = x.listings }) c ≡ Some (x.growing.o, x.growing.len)) where
  abbrev v : Opened
  v = record { kind = x.kind; layout = Layout.New x.m; listings = x.listings }

  abbrev g : Growing
  g = x.growing

  abbrev o : Object
  o = x.growing.o

  abbrev pub anew : Object
  anew = at_place x.growing x.growing.o

  abbrev before : List Object
  before = objects_of x.listings

  abbrev old_id : ℕ
  old_id = id_of o.entry.address

  abbrev its : Growth
  its = (o, g.len)

  -- where it lies
  abbrev Takes : Type 0
  Takes = (t : Taking) × (x.own ≡ t ∷ []) × TakesSpace x.m before x.before g t × (GrowsAlone x.m before g t ⊎ GrowsElsewhere x.m before x.before g t)

  moved_is : (b : Bool) → has_room (Layout.New x.m) before its ≡ b → moved_growth v c ≡ cond b None (Some its)
  moved_is b room =
      ap (option_and_then (λ (growth : Growth). if_room growth (has_room (Layout.New x.m) before growth))) growth ∙ ap (if_room its) room
    where
      if_room : Growth → Bool → Option Growth
      if_room growth b = cond b None (Some growth)

  moved_there : GrowsThere x.m before g x.own → moved_growth v c ≡ None
  moved_there there = moved_is true there.room

  moved_takes : Takes → moved_growth v c ≡ Some its
  moved_takes t = moved_is false t.2.no_room

  id_elsewhere : (t : Taking) → GrowsElsewhere x.m before x.before g t → id_of g.address ≡ t.id
  id_elsewhere t y = ap id_of y.address ∙ (let q : 256 * t.id / 256 ≡ t.id = omega arith in q)

  its_id : (t : Takes) → id_of g.address ≡ t.0.id
  its_id t = ⊎_elim (λ y. ap id_of y.address ∙ sym y.id) (λ y. id_elsewhere t.0 y) t.3

  -- ---- which identifiers get runs

  taken_used : (k : ℕ) → is_used x.m k ≡ true → is_taken (x.before ++ x.own) k ≡ is_taken x.own k
  taken_used k used =
      taken_either x.before x.own k ∙ ap (λ (b : Bool). b || is_taken x.own k) (unless (is_taken x.before k) (λ taken. clash (is_used x.m k) used (x.fresh k taken)))

  one_taken : (t : Taking) (k : ℕ) → is_taken (t ∷ []) k ≡ (t.id == k)
  one_taken t k = or_none (t.id == k)
    where
      or_none : (b : Bool) → (b || false) ≡ b
      or_none true = refl
      or_none false = refl

  -- what had runs and gets others is what growth leaves
  pub left_so : (k : ℕ) → is_used x.m k ≡ true → is_taken (x.before ++ x.own) k ≡ is_left_by_growth v c k
  left_so k used = taken_used k used ∙ by x.lies
    where
      test : Growth → Bool
      test growth = is_alone before growth.0 && (id_of growth.0.entry.address == k)

      by : GrowsThere x.m before g x.own ⊎ Takes → is_taken x.own k ≡ is_left_by_growth v c k
      by (inl there) = ap (λ (ts : List Taking). is_taken ts k) there.nothing ∙ sym (ap (λ (q : Option Growth). option_map_or test q false) (moved_there there))
      by (inr t) =
          ap (λ (ts : List Taking). is_taken ts k) t.1 ∙ one_taken t.0 k
          ∙ ⊎_elim (λ y. ap (λ (j : ℕ). j == k) y.id ∙ sym (ap (λ (b : Bool). b && (old_id == k)) y.alone))
          (λ y.
          unless (t.0.id == k) (λ same. clash (is_used x.m k) used (subst (λ (j : ℕ). is_used x.m j ≡ false) (eqb-true t.0.id k same) (new_id_unused x.m t.0.id y.is_new)))
          ∙ sym (ap (λ (b : Bool). b && (old_id == k)) y.not_alone)) t.3
          ∙ sym (ap (λ (q : Option Growth). option_map_or test q false) (moved_takes t))

  -- what had none is owned
  pub own_fresh : (k : ℕ) → is_taken x.own k ≡ true → is_used x.m k ≡ false → (found : List Listing) → Contains (objects_of found) anew → (3 ≤ k) × (is_owned (objects_of found) k ≡ true)
  own_fresh k taken unused found among = by x.lies
    where
      by : GrowsThere x.m before g x.own ⊎ Takes → (3 ≤ k) × (is_owned (objects_of found) k ≡ true)
      by (inl there) = absurd (let none = subst (λ (ts : List Taking). is_taken ts k ≡ true) there.nothing taken in cc)
      by (inr t) =
          let same : t.0.id ≡ k = eqb-true t.0.id k (sym (one_taken t.0 k) ∙ subst (λ (ts : List Taking). is_taken ts k ≡ true) t.1 taken) in
          ⊎_elim (λ y. absurd (clash (is_used x.m k) (subst (λ (j : ℕ). is_used x.m j ≡ true) (sym y.id ∙ same) (o_used x)) unused))
          (λ y. (
            subst (λ (j : ℕ). 3 ≤ j) same (new_id_high x.m t.0.id y.is_new),
            subst (λ (j : ℕ). is_owned (objects_of found) j ≡ true) (id_elsewhere t.0 y ∙ same) (owned_by (objects_of found) (id_of g.address) anew among (anew_owns x)),
          )) t.3

  -- ---- what is left of the holes

  runs_of : (t : Takes) → IsPermutation (as_runs t.0.id t.0.parts) (id_runs x.m' t.0.id)
  runs_of t =
      x.space.own t.0
      (subst (λ (ts : List Taking). Contains (x.before ++ ts) t.0) (sym t.1) (Contains-append_right x.before (t.0 ∷ []) t.0 (contains_here t.0 [])))

  parts_some : (t : Takes) → 0 < length t.0.parts
  parts_some t =
      by t.0.parts (let enough = t.2.plan.taken.enough in let some = units_some x.m g.len x.agreed.is_map x.some in let e : 0 < bits_in t.0.parts = omega (arith, enough, some) in e)
    where
      by : (ps : List ZoneRun) → 0 < bits_in ps → 0 < length ps
      by [] h = absurd (omega (arith, h))
      by (p ∷ ps) h = omega arith

  module _ (found : List Listing) (there : object_at found o.path ≡ Some anew)
      (first_left : holes_left (hole_runs x.m) (object_parts x.m x.m' v c (made_object (record { kind = x.kind; layout = Layout.New x.m'; listings = found }) c)) ≡ untaken (hole_runs x.m) x.before) where
    abbrev w : Opened
    w = record { kind = x.kind; layout = Layout.New x.m'; listings = found }

    abbrev object_left : List ZoneRun
    object_left = holes_left (hole_runs x.m) (object_parts x.m x.m' v c (made_object w c))

    pub left_now : untaken (hole_runs x.m) (x.before ++ x.own) ≡ holes_left object_left (grown_parts v w c x.m')
    left_now = untaken_more (hole_runs x.m) x.before x.own ∙ ap (λ (hs : List ZoneRun). untaken hs x.own) (sym first_left) ∙ by x.lies
      where
        by : GrowsThere x.m before g x.own ⊎ Takes → untaken object_left x.own ≡ holes_left object_left (grown_parts v w c x.m')
        by (inl here) = ap (untaken object_left) here.nothing ∙ sym (left_of_none object_left) ∙ (let none = moved_there here in rw none refl)
        by (inr t) =
            ap (untaken object_left) t.1
            ∙ left_in_order t.0.id t.0.parts (id_runs x.m' t.0.id) (runs_of t) (rising_apart t.0.parts (rising_of t.0.parts t.2.plan.rising)) object_left
            ∙ ap (λ (k : ℕ). holes_left object_left (id_runs x.m' k)) (sym (its_id t)) ∙ (let some = moved_takes t in let at = there in rw (some, at) refl)

    -- ---- its place

    pub growth_placed : IfSome (made_object w c) (λ (p : Object). 0 < object_units x.m v c → is_taken x.before (id_of p.entry.address) ≡ true) → GrowthPlacedIn v w c (growth_in v c)
    growth_placed other = subst (GrowthPlacedIn v w c) (sym growth) (subst (λ (q : Option Object). IsSomeAnd q (λ (p : Object). GrowthPlaced v.layout w.layout v c (made_object w c) p (Some its) (moved_growth v c))) (sym there) (by x.lies))
      where
        differs : (t : Takes) → (q : Option Object) → IfSome q (λ (p : Object). 0 < object_units x.m v c → is_taken x.before (id_of p.entry.address) ≡ true)
            → IfSome q (λ (p : Object). 0 < object_units x.m v c → id_of p.entry.address ≡ id_of g.address → ⊥)
        differs t None known = tt
        differs t (Some p) known = λ some same.
            (let taken : is_taken x.before t.0.id ≡ true = subst (λ (k : ℕ). is_taken x.before k ≡ true) (same ∙ its_id t) (known some) in
            ⊎_elim (λ y. clash (is_used x.m t.0.id) (subst (λ (k : ℕ). is_used x.m k ≡ true) (sym y.id) (o_used x)) (x.fresh t.0.id taken))
            (λ y. clash (is_taken x.before t.0.id) taken y.other) t.3)

        keeps : (t : Takes) → KeepsOrGetsId (is_alone before o) x.m x.m' o anew
        keeps t =
            ⊎_elim (λ y. subst (λ (b : Bool). KeepsOrGetsId b x.m x.m' o anew) (sym y.alone) y.address)
            (λ y.
            subst (λ (b : Bool). KeepsOrGetsId b x.m x.m' o anew) (sym y.not_alone) (
              subst (IsNewId x.m x.m') (sym (its_id t)) (record { free = y.is_new; used = used_after x.m x.m' t.0.id t.0.parts x.agreed.is_map x.geometry (parts_some t) (runs_of t) }),
              ap low_of y.address ∙ (let q : 256 * t.0.id % 256 ≡ 0 = omega arith in q),
            )) t.3

        by : GrowsThere x.m before g x.own ⊎ Takes → GrowthPlaced v.layout w.layout v c (made_object w c) anew (Some its) (moved_growth v c)
        by (inl here) = subst (GrowthPlaced v.layout w.layout v c (made_object w c) anew (Some its)) (sym (moved_there here)) (refl, here.address)
        by (inr t) =
            subst (GrowthPlaced v.layout w.layout v c (made_object w c) anew (Some its)) (sym (moved_takes t)) (
              refl,
              record {
                id = keeps t;
                space = subst (λ (k : ℕ). IsTaken x.m.geometry object_left (units x.m.geometry g.len) (id_runs x.m' k)) (sym (its_id t))
                    (taken_in_order x.m.geometry object_left (units x.m.geometry g.len) t.0.id t.0.parts (id_runs x.m' t.0.id) (runs_of t)
                    (subst (λ (hs : List ZoneRun). IsTaken x.m.geometry hs (units x.m.geometry g.len) t.0.parts) (sym first_left) t.2.plan.taken));
                other_id = differs t (made_object w c) other;
              },
            )
