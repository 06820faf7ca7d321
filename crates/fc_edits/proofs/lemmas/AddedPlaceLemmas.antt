-- The place of an object that comes, on new maps and old ones.
use Rattle.std.proofs.Common.{◌≡◌, ◌<◌, ◌≤◌, inl, inr, ⊎_elim, ℕ, ◌+◌, ◌*◌, ◌/◌, Bool, true, false, cond, List, [], ◌∷◌, ◌++◌, length, refl, sym, ap, ap₂, subst, ◌∙◌, arith, eq-eqb, map, None, Some, Option}
use Rattle.std.specs.Prelude.{Contains, IsPermutation, nat_le, ◌==◌, ◌&&◌, ◌||◌}
use Rattle.std.specs.Int.{div_ceil}
use Rattle.std.specs.List.{list_any}
use Rattle.std.proofs.lemmas.Bool.{eqb-true, false_from_ne_true as unless}
use Rattle.std.specs.Option.{option_to_list}
use Rattle.std.proofs.lemmas.List.{append-nil}
use Rattle.std.proofs.lemmas.List.Elements.{Contains-append_left}
use Rattle.std.proofs.lemmas.List.Sorted.{IsPermutation-sym}
use Rattle.fc_oldmap.specs.declared.Hole.{Hole}
use Rattle.fc_oldmap.specs.Holes.{after_take}
use Rattle.fc_newmap.specs.Map.{Map, ZoneRun, hole_runs, id_runs, is_used}
use Rattle.fc_image.specs.Layout.{Layout, dir_form, hole_sectors, id_of, is_among}
use Rattle.fc_image.specs.Walk.{Object, object_size}
use Rattle.fc_image.specs.Objects.{has_sectors, is_movable, is_owned, is_owner_of, objects_of}
use Rattle.fc_image.specs.Edits.{IsAt}
use Rattle.fc_image.specs.effects.Short.{holes_without, old_need}
use Rattle.fc_image.specs.effects.Placed.{file_low}
use Rattle.fc_image.specs.effects.Steady.{holes_with, is_given_back, runs_that, zone_holes}
use Rattle.fc_newmap.specs.Map.{bits_in}
use Rattle.fc_plan.specs.Giving.{is_one_of}
use Rattle.fc_plan.specs.Taking.{as_runs}
use Rattle.fc_plan.proofs.Left.{left_of_none}
use Rattle.fc_tree.proofs.MemberLemmas.{contains_here, in_map, no_element}
use Rattle.fc_tree.proofs.WalkedLemmas.{child_is_object}
use Rattle.fc_changes.specs.Changed.{IsInNewSpace}
use Rattle.fc_changes.specs.Owed.{IsSpaceEdit}
use Rattle.fc_changes.proofs.BasicLemmas.{clash}
use Rattle.fc_changes.proofs.MadeLemmas.{file_low_small}
use Rattle.fc_changes.proofs.OutsideLemmas.{low_owned}
use Rattle.fc_changes.proofs.PlacedLemmas.{id_is, is_shared, unused}
use Rattle.fc_changes.proofs.SpaceLemmas.{no_runs, not_given, still_owned}
use Rattle.fc_changes.proofs.lemmas.old.MadeLemmas.{need_some}
use Rattle.fc_changes.proofs.lemmas.old.PlaceLemmas.{row_or_none}
use Rattle.fc_changes.proofs.lemmas.old.SpaceLemmas.{AreGiven, AreSpaced, IsNewPlace, given, new_place as old_new_place, not_given as not_in_given, nowhere, taken}
use Rattle.fc_laws.specs.nodes.Laws.{IsHeld}
use Rattle.fc_laws.specs.agree.Agreed.{IsMapChange}
use Rattle.fc_laws.proofs.lemmas.nodes.ListLemmas.{in_first}
use Rattle.fc_laws.proofs.lemmas.old.agree.BeforeLemmas.{sound}
use Rattle.fc_laws.proofs.lemmas.agree.BeforeLemmas.{new_facts, object_lies}
use Rattle.fc_laws.proofs.lemmas.agree.NewPlaceLemmas.{IsFreePlace, file_place, new_place}
use Rattle.fc_laws.proofs.lemmas.old.agree.DirectoryLemmas.{spaced_parts}
use Rattle.fc_edits.specs.Addition.{Addition, NewAddition, OldAddition, edit, holes_with_it, leaves, over_it}
use Rattle.fc_edits.specs.Edit.{joining, leaving, objects}
use Rattle.fc_edits.specs.Placing.{Placing, takings_of}
use Rattle.fc_edits.specs.NewPlaces.{ApartInOne, GivesBack, IsSpaceChange, LiesAgain, NewPlaces, Taking, is_taken}
use Rattle.fc_edits.specs.OldPlaces.{OldLiesAgain, OldPlaces, with_holes}
use Rattle.fc_edits.proofs.lemmas.ShapeLemmas.{of_one, only}
use Rattle.fc_image.proofs.EditLemmas.{apart_turned as turned}
use Rattle.fc_record.proofs.KindLemmas.{and_second}

-- ---- the map's space

pub space_change : (m m' : Map) (id : ℕ) (parts : List ZoneRun) (gone : List ℕ) → 1 ≤ m.geometry.zones → IsSpaceEdit m m' id parts gone → (0 < length parts → is_used m id ≡ false)
    → IsSpaceChange m m' (takings_of id parts) gone
space_change m m' id [] gone zones space fresh = record {
  holes = λ z low. space.holes z low ∙ ap (λ (runs : List ZoneRun). holes_with (zone_holes runs z) (zone_holes (runs_that (is_one_of gone) m) z)) (left_of_none (hole_runs m));
  own = λ t at. absurd (no_element t at);
  others = λ k none. space.others k (λ some same. absurd (omega (arith, some)));
}
space_change m m' id (p ∷ parts) gone zones space fresh =
    let some : 0 < length (p ∷ parts) = omega arith in
    let t : Taking = record { id = id; parts = p ∷ parts } in
    record {
      holes = space.holes;
      own = of_one (λ (x : Taking). IsPermutation (as_runs x.id x.parts) (id_runs m' x.id)) t
          (IsPermutation-sym (id_runs m' id) (as_runs id (p ∷ parts))
          (subst (λ (runs : List ZoneRun). IsPermutation (id_runs m' id) (runs ++ as_runs id (p ∷ parts))) (no_runs m id zones (fresh some)) (space.own some)));
      others = λ k none. space.others k (λ more same. clash (is_one_of (id ∷ []) k) (ap (λ (b : Bool). b || false) (eq-eqb id k (sym same))) none);
    }

-- what is taken was unused
pub is_fresh : (m : Map) (id : ℕ) (parts : List ZoneRun) → (0 < length parts → is_used m id ≡ false) → (k : ℕ) → is_taken (takings_of id parts) k ≡ true → is_used m k ≡ false
is_fresh m id [] fresh k h = absurd (cc)
is_fresh m id (p ∷ parts) fresh k h = by (id == k) refl h
  where
    by : (b : Bool) → (id == k) ≡ b → (b || false) ≡ true → is_used m k ≡ false
    by true e g = subst (λ (n : ℕ). is_used m n ≡ false) (eqb-true id k e) (fresh (omega arith))
    by false e g = absurd (cc)

-- who leaves the directory
pub objects_leave : (c : Addition) → objects (leaving (edit c)) ≡ c.over
objects_leave c = ap objects (append-nil (leaves c)) ∙ each c.over
  where
    each : (os : List Object) → objects (map (λ (p : Object). (c.number, p)) os) ≡ os
    each [] = refl
    each (p ∷ os) = ap (λ (ps : List Object). p ∷ ps) (each os)

-- Nothing goes back if all stay.
pub none_given : (o : Object) (objects : List Object) (k : ℕ) → is_given_back objects (o ∷ objects) k ≡ false
none_given o objects k = by (is_owned objects k) refl
  where
    more : (a b c : Bool) → (a || c) ≡ true → (a || (b || c)) ≡ true
    more true b c h = refl
    more false true c h = refl
    more false false c h = h

    by : (b : Bool) → is_owned objects k ≡ b → is_given_back objects (o ∷ objects) k ≡ false
    by true own = still_owned objects (o ∷ objects) k (more (k == 2) (is_owner_of k o) (list_any (is_owner_of k) objects) own)
    by false none = not_given objects (o ∷ objects) k none

-- ---- on a new map

module _ (x : Placing) where
  abbrev o : Object
  o = x.o

  abbrev before : List Object
  before = objects_of x.listings

  abbrev size : ℕ
  size = object_size (dir_form (Layout.New x.m')) x.o.entry

  change : IsMapChange x.m x.m' x.id x.parts x.gone before (o ∷ x.stay)
  change = record { is_map = x.is_map; geometry = x.geometry; space = x.space; gives = x.gives }

  pub place_free : IsFreePlace x.kind x.m before x.id x.parts o
  place_free =
      ⊎_elim
      (λ file. file_place x.kind x.m x.m' x.nodes x.owners x.root x.listings x.agreed size x.id x.parts x.gone o x.stay change x.at refl x.near file)
      (λ directory. new_place x.kind x.m x.m' x.nodes x.owners x.root x.listings x.agreed size x.id x.parts x.gone o x.stay change x.at refl 0 (omega arith) directory) x.place

  zones : 1 ≤ x.m.geometry.zones
  zones = (new_facts x.m x.agreed.is_map).zones

  its_id : (k : ℕ) → is_owner_of k o ≡ true → id_of o.entry.address ≡ k
  its_id k own = eqb-true (id_of o.entry.address) k (and_second (has_sectors o) (id_of o.entry.address == k) own)

  not_in_new : (low : ℕ) → low < 256 → IsInNewSpace x.m size low x.id x.parts o → (k : ℕ) → is_owner_of k o ≡ true → is_used x.m k ≡ true → ⊥
  not_in_new low small new k own used =
      clash (is_used x.m k) used
      (subst (λ (j : ℕ). is_used x.m j ≡ false) (sym (id_is x.m x.m' size low x.id x.parts x.gone o x.agreed.is_map x.geometry small new x.space) ∙ its_id k own)
      (unused x.m x.m' size low x.id x.parts x.gone o x.agreed.is_map x.geometry small new x.space))

  -- A used identifier that it comes to isn't the root's.
  not_two : (k : ℕ) → is_owner_of k o ≡ true → is_used x.m k ≡ true → k ≡ 2 → ⊥
  not_two k own used two =
      ⊎_elim
      (⊎_elim
      (λ shared.
      let sh = is_shared x.m before x.near size shared.share shared.found in
      let high = sh.high in
      let low = sh.low in
      let its : (256 * shared.share.0 + shared.share.1) / 256 ≡ shared.share.0 = omega (arith, low) in
      let same : shared.share.0 ≡ 2 = sym its ∙ ap id_of (sym shared.address) ∙ its_id k own ∙ two in
      absurd (omega (arith, high, same)))
      (⊎_elim
      (λ new. not_in_new (file_low x.m.geometry (bits_in x.parts * x.m.geometry.bit_bytes) size) (file_low_small x.m.geometry (bits_in x.parts * x.m.geometry.bit_bytes) size) new.1 k own used)
      (λ none. absurd (let zero : 0 ≡ 2 = ap id_of (sym none.address) ∙ its_id k own ∙ two in cc))))
      (λ directory. not_in_new 0 (omega arith) directory k own used) x.place

  movable : (k : ℕ) → is_owner_of k o ≡ true → is_used x.m k ≡ true → is_movable before k ≡ true
  movable k own used = by (nat_le 3 k) refl
    where
      owned : is_owned before k ≡ true
      owned = place_free.come_new k own used

      by : (b : Bool) → nat_le 3 k ≡ b → is_movable before k ≡ true
      by true high = ap₂ (λ (y z : Bool). y && z) owned high
      by false low =
          absurd (not_two k own used (low_owned x.m before (λ p at. (object_lies x.kind x.m x.nodes x.owners x.root x.listings x.agreed p at).placed) k owned low))

  gives : GivesBack x.m (takings_of x.id x.parts) x.gone x.listings x.edit
  gives = record {
    stay = x.stay;
    others = x.others;
    exactly = λ k used. x.gives.exactly k used
        ∙ sym (ap (λ (ps : List (ℕ × Object)). is_given_back before (objects ps ++ x.stay) k || is_taken (takings_of x.id x.parts) k) x.joins
        ∙ no_more (is_given_back before (o ∷ x.stay) k) (is_taken (takings_of x.id x.parts) k)
        (unless (is_taken (takings_of x.id x.parts) k) (λ taken. clash (is_used x.m k) used (is_fresh x.m x.id x.parts place_free.fresh k taken))));
  }
    where
      no_more : (y z : Bool) → z ≡ false → (y || z) ≡ y
      no_more true z h = refl
      no_more false z h = h

  of_it : (P : ℕ × Object → Type 0) → P (x.number, o) → (p : ℕ × Object) → Contains (joining x.edit) p → P p
  of_it P is p at = of_one P (x.number, o) is p (subst (λ (ps : List (ℕ × Object)). Contains ps p) x.joins at)

  pub placed_so : NewPlaces x.kind x.m x.m' x.nodes x.listings x.edit (takings_of x.id x.parts) x.gone
  placed_so = record {
    is_map = x.is_map;
    geometry = x.geometry;
    space = space_change x.m x.m' x.id x.parts x.gone zones x.space place_free.fresh;
    gives = gives;
    again = λ k taken used. absurd (clash (is_used x.m k) used (is_fresh x.m x.id x.parts place_free.fresh k taken));
    placed = of_it (λ (p : ℕ × Object). IsAt (Layout.New x.m') p.1) x.at;
    lies = of_it (λ (p : ℕ × Object). LiesAgain x.m x.nodes x.listings x.edit p.1)
        (inr (movable, λ p s same. turned p.sectors o.sectors (place_free.apart p s.among)));
    pairs = subst (λ (ps : List (ℕ × Object)). ApartInOne (objects ps)) (sym x.joins) ((λ p none. absurd (no_element p none)), tt);
  }

-- an addition so places its object
abbrev pub placing : NewAddition → Placing
placing x = record {
  kind = x.kind;
  m = x.m;
  m' = x.m';
  nodes = x.nodes;
  owners = x.owners;
  root = x.root;
  listings = x.listings;
  edit = edit x.c;
  number = x.c.number;
  o = x.c.o;
  id = x.id;
  parts = x.parts;
  gone = x.gone;
  stay = x.stay;
  near = x.near;
  agreed = x.agreed;
  joins = refl;
  is_map = x.is_map;
  geometry = x.geometry;
  space = x.space;
  others = subst (λ (os : List Object). IsPermutation (objects_of x.listings) (os ++ x.stay)) (sym (objects_leave x.c)) x.others;
  gives = x.gives;
  at = x.at;
  place = x.place;
}

pub free_place : (x : NewAddition) → IsFreePlace x.kind x.m (objects_of x.listings) x.id x.parts x.c.o
free_place x = place_free (placing x)

pub added_places : (x : NewAddition) → NewPlaces x.kind x.m x.m' x.nodes x.listings (edit x.c) (takings_of x.id x.parts) x.gone
added_places x = placed_so (placing x)

-- ---- on an old map

module _ (x : OldAddition) where
  abbrev pub old_size : ℕ
  old_size = object_size (dir_form (Layout.Old x.space)) x.c.o.entry

  pub spaced : AreSpaced x.kind x.space (objects_of x.listings)
  spaced = spaced_parts x.kind x.space x.nodes x.owners x.root x.listings x.agreed

  nothing_ceil : div_ceil 0 (256 * x.space.sector_units) ≡ 0
  nothing_ceil = ⊎_elim (λ one. subst (λ (u : ℕ). div_ceil 0 (256 * u) ≡ 0) (sym one) refl) (λ four. subst (λ (u : ℕ). div_ceil 0 (256 * u) ≡ 0) (sym four) refl) spaced.units

  no_length : (xs : List ℕ) → length xs ≡ 0 → xs ≡ []
  no_length [] h = refl
  no_length (y ∷ xs) h = absurd (omega (arith, h))

  abbrev base : List Hole
  base = holes_without (old_need x.space old_size) x.space.holes

  pub old_place : IsNewPlace x.kind x.space (objects_of x.listings) spaced x.c.o base
  old_place =
      ⊎_elim
      (λ new.
      subst (λ (b : Bool). IsNewPlace x.kind x.space (objects_of x.listings) spaced x.c.o (cond b x.space.holes (after_take (old_need x.space old_size) x.space.holes)))
      (sym (need_some x.space old_size spaced.units new.0)) (old_new_place x.kind x.space (objects_of x.listings) spaced old_size x.c.o refl x.at new.1))
      (λ empty.
      nowhere x.kind x.space (objects_of x.listings) spaced x.c.o base
      (⊎_elim (λ none. none.1) (λ row. no_length x.c.o.sectors (row.long ∙ ap (λ (k : ℕ). div_ceil k (256 * x.space.sector_units)) empty.0 ∙ nothing_ceil))
      (row_or_none x.space x.c.o.entry.address old_size x.c.o.sectors x.at))) x.place

  -- what goes was there
  over_in : (p : Object) → over_it x.c ≡ Some p → Contains x.c.over p
  over_in p is = by x.c.over is
    where
      by : (os : List Object) → over_it (record x.c { over = os }) ≡ Some p → Contains os p
      by [] h = absurd (cc)
      by (q ∷ os) h = subst (Contains (q ∷ os)) (let e : q ≡ p = cc in e) (contains_here q os)

  old_in : (p : Object) → over_it x.c ≡ Some p → Contains (objects_of x.listings) p
  old_in p is =
      let h : IsHeld x.nodes (Layout.Old x.space) x.listings = record { sound = sound x.kind x.space x.nodes x.owners x.root x.listings x.agreed; held = x.agreed.walked.held } in
      child_is_object (Layout.Old x.space) x.listings h.sound x.c.l p (in_first x.listings (x.c.l ∷ x.c.rest) x.addition.found x.c.l (contains_here x.c.l x.c.rest))
      (in_first x.c.l.children (x.c.over ++ x.c.kids) x.addition.had p (Contains-append_left x.c.over x.c.kids p (over_in p is)))

  pub freed : AreGiven x.kind x.space (objects_of x.listings) spaced (over_it x.c) base (holes_with_it x.space x.c)
  freed = given x.kind x.space (objects_of x.listings) spaced (over_it x.c) old_in base (taken x.kind x.space (objects_of x.listings) spaced old_size)

  pub old_added_places : OldPlaces x.space (holes_with_it x.space x.c) (edit x.c)
  old_added_places = record {
    left = λ s i.
        ⊎_elim (λ was. inl ((taken x.kind x.space (objects_of x.listings) spaced old_size).within s was))
        (λ back. inr ((x.c.number, back.0), leaving_in back.0 back.1, back.2)) (freed.left s i);
    placed = of_one (λ (p : ℕ × Object). IsAt (Layout.Old x.space) p.1) (x.c.number, x.c.o) x.at;
    lies = of_one (λ (p : ℕ × Object). OldLiesAgain x.space (edit x.c) p.1) (x.c.number, x.c.o) (inr (λ s i. (old_place.was_free s i, old_place.off_map s i)));
    free = of_one (λ (p : ℕ × Object). (s : ℕ) → is_among p.1.sectors s ≡ true → is_among (hole_sectors (with_holes x.space (holes_with_it x.space x.c))) s ≡ false) (x.c.number, x.c.o)
        (not_in_given x.kind x.space (objects_of x.listings) spaced x.c.o (over_it x.c) base (holes_with_it x.space x.c) old_in freed old_place);
    pairs = ((λ p none. absurd (no_element p none)), tt);
  }
    where
      leaving_in : (p : Object) → Contains (option_to_list (over_it x.c)) p → Contains (leaving (edit x.c)) (x.c.number, p)
      leaving_in p at =
          subst (λ (ps : List (ℕ × Object)). Contains ps (x.c.number, p)) (sym (append-nil (leaves x.c)))
          (in_map (λ (q : Object). (x.c.number, q)) x.c.over p (over_in p (by (over_it x.c) at)))
        where
          by : (q : Option Object) → Contains (option_to_list q) p → q ≡ Some p
          by None i = absurd (no_element p i)
          by (Some r) i = ap (λ (y : Object). Some y) (only r p i)
