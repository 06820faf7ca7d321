-- Places on a new map after any list of plans and any list of identifiers that go back.
use Rattle.std.proofs.Common.{◌≡◌, ◌<◌, ◌≤◌, inl, inr, ⊎_elim, ℕ, Bool, true, false, cond, List, [], ◌∷◌, ◌++◌, length, refl, sym, ap, ap₂, subst, ◌∙◌, eq-eqb}
use Rattle.std.specs.Prelude.{Contains, filter, not, nat_le, nat_lt, ◌==◌, ◌&&◌, ◌||◌}
use Rattle.std.specs.List.{list_any}
use Rattle.std.proofs.lemmas.Bool.{cases_eq, eqb-true, leb-false, false_from_ne_true as unless, or_right as or_second, or_parts as neither}
use Rattle.std.proofs.lemmas.List.Elements.{Contains-append_cases, Contains-append_right}
use Rattle.fc_record.specs.declared.Geometry.{Geometry}
use Rattle.fc_record.specs.declared.Kind.{Kind}
use Rattle.fc_zone.specs.declared.RunKind.{RunKind}
use Rattle.fc_zone.specs.declared.RunKind.TheVariants as kinds
use Rattle.fc_newmap.specs.Map.{Map, ZoneRun, all_runs, has_id, id_runs, is_used}
use Rattle.fc_newmap.specs.RunsLaw.{HoldsSector, IsGeometry}
use Rattle.fc_newmap.proofs.CoverLemmas.{run_there}
use Rattle.fc_newmap.proofs.PlaceLemmas.{held_in, holder_of, id_run_in, in_filter, in_id_runs}
use Rattle.fc_newmap.proofs.RunsLemmas.{runs_apart}
use Rattle.fc_alloc.specs.declared.owner.Owner.{Owner}
use Rattle.fc_image.specs.Layout.{Layout, dir_form, id_of, is_among, is_apart}
use Rattle.fc_image.specs.Walk.{Listing, Object, object_size}
use Rattle.fc_image.specs.Objects.{is_movable, is_owned, is_owner_of, objects_of}
use Rattle.fc_image.specs.Opening.{is_hole_or_movable, reserved_in}
use Rattle.fc_image.specs.Edits.{Apart, IsAt}
use Rattle.fc_image.specs.MapEdits.{KeepsPlace}
use Rattle.fc_image.specs.effects.Steady.{is_given_back}
use Rattle.fc_image.proofs.HolesLemmas.{apart_from, in_id, loose_sectors, none_loose}
use Rattle.fc_image.proofs.MapEditLemmas.{places_law}
use Rattle.fc_tree.specs.declared.node.Node.{Node}
use Rattle.fc_tree.proofs.MemberLemmas.{contains_here, from_map}
use Rattle.fc_plan.specs.Giving.{is_one_of}
use Rattle.fc_changes.proofs.BasicLemmas.{any_in, clash, not_zero}
use Rattle.fc_changes.proofs.ChangeLemmas.{a_sector}
use Rattle.fc_changes.proofs.OutsideLemmas.{low_owned}
use Rattle.fc_changes.proofs.SpaceLemmas.{still_owned}
use Rattle.fc_laws.specs.nodes.Edits.{Nodes}
use Rattle.fc_laws.specs.nodes.Laws.{IsHeld}
use Rattle.fc_laws.specs.agree.Agreed.{AgreeOn}
use Rattle.fc_laws.proofs.lemmas.nodes.ListLemmas.{in_other}
use Rattle.fc_laws.proofs.lemmas.agree.BeforeLemmas.{had, new_facts, new_shape, object_lies, sound, tight}
use Rattle.fc_edits.specs.Edit.{Edit, IsEdit, joining, leaving, objects}
use Rattle.fc_edits.specs.Places.{ApartPairs, PlacesFit, Stays}
use Rattle.fc_edits.proofs.lemmas.LeavingLemmas.{left_among, left_apart, left_other}
use Rattle.fc_edits.specs.NewPlaces.{ApartInOne, GivesBack, HasPlaceOf, IsSpaceChange, LiesAgain, NewPlaces, NewPlacesLaw, Taking, is_taken}
use Rattle.fc_image.proofs.MoveLemmas.{id_of_run as same_id}
use Rattle.fc_changes.proofs.NewPlaceLemmas.{some_there}
use Rattle.fc_image.proofs.EntriesLemmas.{later as contains_later}

-- ---- tests and lists

-- a run that is neither a hole nor movable
pub stuck : (objects : List Object) (kind : RunKind) → is_hole_or_movable objects kind ≡ false → (k : ℕ) × (has_id k kind ≡ true) × (is_movable objects k ≡ false)
stuck objects kinds.Hole h = absurd (cc)
stuck objects (kinds.Id k) h = (k, eq-eqb k k refl, h)

-- an owner of an identifier
pub owned_by : (objects : List Object) (k : ℕ) (o : Object) → Contains objects o → is_owner_of k o ≡ true → is_owned objects k ≡ true
owned_by objects k o at own = or_second (k == 2) (list_any (is_owner_of k) objects) (any_in (is_owner_of k) objects o at own)

-- an object that lies in the place of another owns what that owns
pub owner_same : (o p : Object) (k : ℕ) → HasPlaceOf o p → is_owner_of k o ≡ is_owner_of k p
owner_same o p k same = ap₂ (λ (ss : List ℕ) (address : ℕ). nat_lt 0 (length ss) && (id_of address == k)) same.sectors same.address

-- ---- runs

pub runs_keep : (m m' : Map) (takings : List Taking) (gone : List ℕ) (listings : List Listing) (e : Edit) (k : ℕ) → IsSpaceChange m m' takings gone → GivesBack m takings gone listings e
    → is_used m k ≡ true → is_one_of gone k ≡ false → id_runs m' k ≡ id_runs m k
runs_keep m m' takings gone listings e k space gives used stays =
    let none = neither (is_given_back (objects_of listings) (objects (joining e) ++ gives.stay) k) (is_taken takings k) (sym (gives.exactly k used) ∙ stays) in
    space.others k none.1 ∙ ap (λ (b : Bool). cond b [] (id_runs m k)) stays

module _ (kind : Kind) (m m' : Map) (nodes : Nodes) (owners : List Owner) (root_node : Node) (listings : List Listing) (e : Edit) (takings : List Taking) (gone : List ℕ)
    (a : AgreeOn kind m nodes owners root_node listings) (is : IsEdit nodes listings e) (np : NewPlaces kind m m' nodes listings e takings gone) where
  abbrev before : List Object
  before = objects_of listings

  abbrev reserved : List ℕ
  reserved = reserved_in kind (Layout.New m)

  shape : IsGeometry m.geometry
  shape = new_shape m a.is_map

  shape' : IsGeometry m'.geometry
  shape' = new_shape m' np.is_map

  zones : 1 ≤ m.geometry.zones
  zones = (new_facts m a.is_map).zones

  zones' : 1 ≤ m'.geometry.zones
  zones' = (new_facts m' np.is_map).zones

  -- ---- who leaves and who stays

  h : IsHeld nodes (Layout.New m) listings
  h = record { sound = sound kind m nodes owners root_node listings a; held = a.walked.held }

  stays_in : (o : Object) → Stays nodes listings e o → Contains np.gives.stay o
  stays_in o s =
      ⊎_elim
      (λ leaves. let q = from_map (λ (p : ℕ × Object). p.1) (leaving e) o leaves in absurd (left_other nodes (Layout.New m) listings e h is q.0 o q.1 s q.2))
      (λ stays. stays) (Contains-append_cases (objects (leaving e)) np.gives.stay o (in_other before (objects (leaving e) ++ np.gives.stay) np.gives.others o s.among))

  -- ---- identifiers

  abbrev after : List Object
  after = objects (joining e) ++ np.gives.stay

  -- what goes back was movable
  pub gone_movable : (k : ℕ) → is_used m k ≡ true → is_one_of gone k ≡ true → is_movable before k ≡ true
  gone_movable k used goes = by (is_taken takings k) refl
    where
      by : (b : Bool) → is_taken takings k ≡ b → is_movable before k ≡ true
      by true taken = (np.again k taken used).0
      by false none =
          let given : is_given_back before after k ≡ true = sym (and_so (is_given_back before after k) (is_taken takings k) none) ∙ sym (np.gives.exactly k used) ∙ goes in
          owned_movable (is_owned before k) (is_owned after k) (nat_le 3 k) refl refl refl given
        where
          and_so : (x y : Bool) → y ≡ false → (x || y) ≡ x
          and_so true y h = refl
          and_so false y h = h

          owned_movable : (own now high : Bool) → is_owned before k ≡ own → is_owned after k ≡ now → nat_le 3 k ≡ high → (own && not now) ≡ true → is_movable before k ≡ true
          owned_movable false now high f g t h = absurd (cc)
          owned_movable true true high f g t h = absurd (cc)
          owned_movable true false true f g t h = ap₂ (λ (x y : Bool). x && y) f t
          owned_movable true false false f g t h =
              let two = low_owned m before (λ o at. (object_lies kind m nodes owners root_node listings a o at).placed) k f t in
              absurd (clash (is_owned after k) (ap (λ (n : ℕ). is_owned after n) two) g)

  -- an object that stays owns nothing that goes back
  pub stays_own : (o : Object) → Stays nodes listings e o → (k : ℕ) → is_owner_of k o ≡ true → is_used m k ≡ true → is_one_of gone k ≡ false
  stays_own o s k own used =
      let not_again : is_taken takings k ≡ false = unless (is_taken takings k) (λ taken. clash (is_owner_of k o) own ((np.again k taken used).1 o s)) in
      let owned = owned_by after k o (Contains-append_right (objects (joining e)) np.gives.stay o (stays_in o s)) own in
      np.gives.exactly k used ∙ ap₂ (λ (x y : Bool). x || y) (still_owned before after k owned) not_again

  pub keeps : (o : Object) → Stays nodes listings e o → KeepsPlace m m' o
  keeps o s = by (object_size (dir_form (Layout.New m)) o.entry == 0) refl
    where
      by : (b : Bool) → (object_size (dir_form (Layout.New m)) o.entry == 0) ≡ b → KeepsPlace m m' o
      by true h = inl (eqb-true (object_size (dir_form (Layout.New m)) o.entry) 0 h)
      by false h =
          let at = (object_lies kind m nodes owners root_node listings a o s.among).placed in
          let t = a_sector m o.entry.address (object_size (dir_form (Layout.New m)) o.entry) o.sectors (not_zero (object_size (dir_form (Layout.New m)) o.entry) h) shape.some at in
          let own = id_of o.entry.address in
          let p = holder_of m.geometry (id_runs m own) t.0 (in_id m o.entry.address _ o.sectors t.0 at t.1) in
          let there = id_run_in m own p.0 zones p.1.0 in
          let used : is_used m own ≡ true = any_in (λ (q : ZoneRun). has_id own q.1.kind) (all_runs m) p.0 there.0 there.1 in
          let owns : is_owner_of own o ≡ true = ap₂ (λ (x y : Bool). x && y) (some_there o.sectors t.0 t.1) (eq-eqb own own refl) in
          inr (runs_keep m m' takings gone listings e own np.space np.gives used (stays_own o s own owns used))

  -- what isn't movable keeps its runs, and gets no object
  pub fixed : (k : ℕ) → is_movable before k ≡ false → is_used m k ≡ true → (id_runs m' k ≡ id_runs m k) × ((p : ℕ × Object) → Contains (joining e) p → is_owner_of k p.1 ≡ true → k < 3)
  fixed k still used = (
    runs_keep m m' takings gone listings e k np.space np.gives used (unless (is_one_of gone k) (λ goes. clash (is_movable before k) (gone_movable k used goes) still)),
    λ p at own. low p own (np.lies p at),
  )
    where
      low : (p : ℕ × Object) → is_owner_of k p.1 ≡ true → LiesAgain m nodes listings e p.1 → k < 3
      low p own (inl q) = leb-false 3 k (unless (nat_le 3 k) (λ high.
          clash (is_movable before k) (ap₂ (λ (x y : Bool). x && y) (owned_by before k q.0.1 (left_among nodes (Layout.New m) listings e h is q.0 q.1) (sym (owner_same p.1 q.0.1 k q.2) ∙ own)) high) still))
      low p own (inr loose) = absurd (clash (is_movable before k) (loose.0 k own used) still)

  -- ---- sectors

  -- the run in which a sector of an object lies
  pub run_of : (o : Object) → IsAt (Layout.New m') o → (s : ℕ) → is_among o.sectors s ≡ true
      → (p : ZoneRun) × Contains (all_runs m') p × (has_id (id_of o.entry.address) p.1.kind ≡ true) × HoldsSector m'.geometry p s
  run_of o at s i =
      let p = holder_of m'.geometry (id_runs m' (id_of o.entry.address)) s (in_id m' o.entry.address _ o.sectors s at i) in
      let there = id_run_in m' (id_of o.entry.address) p.0 zones' p.1.0 in
      (p.0, there.0, there.1, p.1.1)

  -- objects of other identifiers have no sector in common
  other_ids : (o p : Object) → IsAt (Layout.New m') o → IsAt (Layout.New m') p → (id_of o.entry.address ≡ id_of p.entry.address → is_apart o.sectors p.sectors ≡ true)
      → is_apart o.sectors p.sectors ≡ true
  other_ids o p at bt one =
      ⊎_elim one
      (λ other.
      apart_from o.sectors p.sectors
      (λ s i j.
      let x = run_of o at s i in
      let y = run_of p bt s j in
      let same = runs_apart m' shape' np.is_map.right x.0 y.0 x.1 y.1 s x.3 y.3 in
      other (same_id (id_of o.entry.address) (id_of p.entry.address) x.0.1.kind x.2 (subst (λ (q : ZoneRun). has_id (id_of p.entry.address) q.1.kind ≡ true) (sym same) y.2))))
      (cases_eq (id_of o.entry.address) (id_of p.entry.address))

  stays_at : (o : Object) → Stays nodes listings e o → IsAt (Layout.New m') o
  stays_at o s = places_law m m' o np.geometry (keeps o s) (object_lies kind m nodes owners root_node listings a o s.among).placed

  -- A sector of an object at its address on m' lies by m in a hole or in a movable identifier, if the object owns no other.
  pub lies_loose : (o : Object) → IsAt (Layout.New m') o → ((k : ℕ) → is_owner_of k o ≡ true → is_used m k ≡ true → is_movable before k ≡ true) → (s : ℕ) → is_among o.sectors s ≡ true
      → (q : ZoneRun) × Contains (all_runs m) q × HoldsSector m.geometry q s × (is_hole_or_movable before q.1.kind ≡ true)
  lies_loose o at loose s i =
      let x = run_of o at s i in
      let q = run_there m m' np.geometry shape a.is_map.right np.is_map.right zones x.0 s x.1 (subst (λ (g : Geometry). HoldsSector g x.0 s) np.geometry x.3) in
      (q.0, q.1.0, q.1.1, by x q.0 q.1.0 q.1.1 (is_hole_or_movable before q.0.1.kind) refl)
    where
      by : (x : (p' : ZoneRun) × Contains (all_runs m') p' × (has_id (id_of o.entry.address) p'.1.kind ≡ true) × HoldsSector m'.geometry p' s) (q : ZoneRun) → Contains (all_runs m) q
          → HoldsSector m.geometry q s → (b : Bool) → is_hole_or_movable before q.1.kind ≡ b → is_hole_or_movable before q.1.kind ≡ true
      by x q there holds true h = h
      by x q there holds false h =
          let k = stuck before q.1.kind h in
          let used : is_used m k.0 ≡ true = any_in (λ (y : ZoneRun). has_id k.0 y.1.kind) (all_runs m) q there k.1 in
          let runs = (fixed k.0 k.2 used).0 in
          let now = id_run_in m' k.0 q zones' (subst (λ (ps : List ZoneRun). Contains ps q) (sym runs) (in_id_runs m k.0 q zones there k.1)) in
          let same = runs_apart m' shape' np.is_map.right q x.0 now.0 x.1 s (subst (λ (g : Geometry). HoldsSector g q s) (sym np.geometry) holds) x.3 in
          let id : id_of o.entry.address ≡ k.0 =
          same_id (id_of o.entry.address) k.0 x.0.1.kind x.2 (subst (λ (y : ZoneRun). has_id k.0 y.1.kind ≡ true) same now.1) in
          let own : is_owner_of k.0 o ≡ true = ap₂ (λ (y z : Bool). y && z) (some_there o.sectors s i) (eq-eqb (id_of o.entry.address) k.0 id) in
          absurd (clash (is_movable before k.0) (loose k.0 own used) k.2)

  free : (p : ℕ × Object) → Contains (joining e) p → LiesAgain m nodes listings e p.1 → is_apart p.1.sectors reserved ≡ true
  free p at (inl q) =
      ap (λ (ss : List ℕ). is_apart ss reserved) q.2.sectors ∙ (object_lies kind m nodes owners root_node listings a q.0.1 (left_among nodes (Layout.New m) listings e h is q.0 q.1)).apart
  free p at (inr loose) =
      apart_from p.1.sectors reserved
      (λ s i j.
      let x = lies_loose p.1 (np.placed p at) loose.0 s i in
      clash (is_among (loose_sectors m before) s)
      (held_in m.geometry (filter (λ (y : ZoneRun). is_hole_or_movable before y.1.kind) (all_runs m)) x.0 s
      (in_filter (λ (y : ZoneRun). is_hole_or_movable before y.1.kind) (all_runs m) x.0 x.1 x.3) x.2)
      (none_loose (loose_sectors m before) reserved (tight kind m nodes owners root_node listings a) s j))

  all_apart : Apart reserved before
  all_apart = let was = had kind m nodes owners root_node listings a in subst (Apart reserved) (sym was.objects) was.apart

  apart : (p : ℕ × Object) (o : Object) → Contains (joining e) p → Stays nodes listings e o → LiesAgain m nodes listings e p.1 → is_apart p.1.sectors o.sectors ≡ true
  apart p o at s (inl q) = ap (λ (ss : List ℕ). is_apart ss o.sectors) q.2.sectors ∙ left_apart nodes (Layout.New m) listings e h is reserved all_apart q.0 o q.1 s
  apart p o at s (inr loose) = other_ids p.1 o (np.placed p at) (stays_at o s) (loose.1 o s)

  pairs_apart : (os : List Object) → ((o : Object) → Contains os o → IsAt (Layout.New m') o) → ApartInOne os → ApartPairs os
  pairs_apart [] at one = tt
  pairs_apart (o ∷ os) at one = (
    λ p there. other_ids o p (at o (contains_here o os)) (at p (contains_later o p os there)) (one.0 p there),
    pairs_apart os (λ p there. at p (contains_later o p os there)) one.1,
  )

  pub places_fit : PlacesFit kind m m' nodes listings e
  places_fit = record {
    is_map = np.is_map;
    geometry = np.geometry;
    keeps = keeps;
    placed = np.placed;
    free = λ p at. free p at (np.lies p at);
    apart = λ p o at s. apart p o at s (np.lies p at);
    pairs = pairs_apart (objects (joining e))
        (λ o at. let q = from_map (λ (p : ℕ × Object). p.1) (joining e) o at in subst (IsAt (Layout.New m')) q.2 (np.placed q.0 q.1)) np.pairs;
    fixed = fixed;
  }

pub new_places_law : NewPlacesLaw
new_places_law = record {
  runs = runs_keep;
  fit = λ kind m m' nodes owners root listings e takings gone a is np. places_fit kind m m' nodes owners root listings e takings gone a is np;
}
