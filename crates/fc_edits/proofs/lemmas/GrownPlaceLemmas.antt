-- The place of a directory that grows, and that the edit with it has its places.
use Rattle.std.proofs.Common.{◌≡◌, ◌<◌, ◌≤◌, ◌⊎◌, inl, inr, ⊎_elim, ℕ, ◌*◌, ◌/◌, ◌-◌, Bool, true, false, cond, List, [], ◌∷◌, ◌++◌, length, refl, sym, ap, ap₂, subst, ◌∙◌, arith, eq-eqb, Option, Some}
use Rattle.std.specs.Prelude.{Contains, filter, not, nat_le, ◌==◌, ◌&&◌}
use Rattle.std.specs.List.{range_with_len}
use Rattle.std.specs.Option.{option_map_or}
use Rattle.std.proofs.lemmas.Bool.{eqb-true, le-leb, leb-true, false_from_ne_true as unless, or_cases as either, or_from as neither, not-true as not_true}
use Rattle.std.proofs.lemmas.List.Elements.{Contains-append_left}
use Rattle.fc_names.specs.Names.{is_same_path}
use Rattle.fc_names.specs.declared.name.NameForm.{NameForm}
use Rattle.fc_names.specs.declared.name.NameForm.TheVariants.{Long, Ten}
use Rattle.fc_record.specs.Record.{id_limit}
use Rattle.fc_record.specs.declared.Geometry.{Geometry}
use Rattle.fc_newmap.specs.Map.{id_runs, is_used}
use Rattle.fc_dirs.specs.Directory.{directory_size}
use Rattle.fc_image.specs.Layout.{Layout, dir_form, id_of, is_among, is_apart, new_sectors, sectors_at}
use Rattle.fc_image.specs.Walk.{Object, object_size}
use Rattle.fc_image.specs.Objects.{is_movable, is_owned, is_owner_of, objects_of}
use Rattle.fc_image.specs.Edits.{IsAt}
use Rattle.fc_image.specs.effects.Short.{is_alone, sectors_of_others}
use Rattle.fc_image.specs.effects.Steady.{is_given_back}
use Rattle.fc_image.proofs.EntriesLemmas.{in_filter}
use Rattle.fc_image.proofs.HolesLemmas.{apart_at, apart_from}
use Rattle.fc_image.proofs.MapEditLemmas.{places_law}
use Rattle.fc_image.proofs.PathsLemmas.{itself}
use Rattle.fc_tree.specs.Nodes.{number_of}
use Rattle.fc_tree.proofs.MemberLemmas.{in_map}
use Rattle.fc_tree.proofs.WalkedLemmas.{same_some}
use Rattle.fc_changes.proofs.BasicLemmas.{clash}
use Rattle.fc_changes.proofs.ChangeLemmas.{a_sector}
use Rattle.fc_changes.proofs.OutsideLemmas.{low_owned}
use Rattle.fc_changes.proofs.PlacedLemmas.{filter_test}
use Rattle.fc_changes.proofs.SpaceLemmas.{still_owned}
use Rattle.fc_laws.specs.nodes.Laws.{IsHeld}
use Rattle.fc_laws.proofs.lemmas.agree.BeforeLemmas.{new_shape, object_lies, sound}
use Rattle.fc_laws.proofs.lemmas.agree.RoomLemmas.{dir_sector}
use Rattle.fc_laws.proofs.lemmas.nodes.OtherLemmas.{unlike}
use Rattle.fc_edits.specs.Edit.{Edit, joining, leaving, numbers, objects}
use Rattle.fc_edits.specs.Growing.{EditGrowing, Growing, at_place, grown}
use Rattle.fc_edits.specs.GrownPlaces.{GrownPlacesLaw, GrowsAlone, GrowsElsewhere, GrowsThere, KeepsPlaceOf, NewGrowing, TakesSpace}
use Rattle.fc_edits.specs.NewPlaces.{LiesAgain, NewPlaces, Taking, is_taken}
use Rattle.fc_edits.specs.PartsEdit.{NewPartsEdit}
use Rattle.fc_edits.specs.Places.{Stays}
use Rattle.fc_edits.proofs.lemmas.GrowingLawLemmas as law
use Rattle.fc_edits.proofs.lemmas.GrowingLemmas as growing
use Rattle.fc_edits.proofs.lemmas.GrownMemberLemmas as members
use Rattle.fc_edits.proofs.lemmas.IdentifierLemmas.{alone_facts, alone_one, among_flat, by_map, owns, taken_either, used_of}
use Rattle.fc_edits.proofs.lemmas.LeavingLemmas.{left_among, left_number}
use Rattle.fc_edits.proofs.lemmas.NewAgreeLemmas.{agree_now}
use Rattle.fc_edits.proofs.lemmas.NewPlaceLemmas.{owned_by, places_fit, runs_keep}
use Rattle.fc_image.proofs.EditLemmas.{apart_turned as turned}
use Rattle.fc_changes.proofs.NewPlaceLemmas.{owner_id}
use Rattle.fc_record.proofs.KindLemmas.{and_first, and_second}

-- ---- the directory

module _ (x : NewGrowing) where
  pub held : IsHeld x.nodes (Layout.New x.m) x.listings
  held = record { sound = sound x.kind x.m x.nodes x.owners x.root x.listings x.agreed; held = x.agreed.walked.held }

  abbrev pub as_edit : EditGrowing
  as_edit = record {
    nodes = x.nodes;
    layout = Layout.New x.m;
    listings = x.listings;
    edit = x.edit;
    growing = x.growing;
    held = held;
    is_edit = x.is_edit;
    has_numbers = x.has_numbers;
    grows = x.grows;
  }

  abbrev pub e' : Edit
  e' = grown x.edit x.growing

  abbrev g : Growing
  g = x.growing

  abbrev o : Object
  o = x.growing.o

  abbrev pub anew : Object
  anew = at_place x.growing x.growing.o

  abbrev before : List Object
  before = objects_of x.listings

  abbrev old_id : ℕ
  old_id = id_of o.entry.address

  abbrev its : ℕ
  its = id_of g.address

  o_in : Contains before o
  o_in = growing.o_in as_edit

  -- ---- owners

  pub owner_used : (p : Object) → Contains before p → (k : ℕ) → is_owner_of k p ≡ true → is_used x.m k ≡ true
  owner_used p at k own = used_of x.kind x.m x.nodes x.owners x.root x.listings x.agreed p at k own

  o_sector : (s : ℕ) × (is_among o.sectors s ≡ true)
  o_sector =
      let l = x.grows.listed in
      let s = dir_sector x.kind x.m x.nodes x.owners x.root x.listings x.agreed l.0.was (growing.its_listing as_edit) in
      (s.0, subst (λ (p : Object). is_among p.sectors s.0 ≡ true) l.2 s.1)

  pub o_owns : is_owner_of old_id o ≡ true
  o_owns = owns o o_sector.0 o_sector.1

  pub o_used : is_used x.m old_id ≡ true
  o_used = owner_used o o_in old_id o_owns

  o_owned : is_owned before old_id ≡ true
  o_owned = owned_by before old_id o o_in o_owns

  its_alone : is_alone before o ≡ true → (length (filter (is_owner_of old_id) before) ≤ 1) × (old_id ≡ 2 → ⊥)
  its_alone alone = alone_facts before o o_in o_sector alone

  -- another object
  pub differs : (p : Object) → Stays x.nodes x.listings e' p → is_same_path o.path p.path ≡ false
  differs p s = unlike x.nodes o.path p.path g.dir s.number x.grows.dir_is s.number_is (λ same. members.stays_other as_edit p s (sym same))

  alone_only : is_alone before o ≡ true → (p : Object) → Contains before p → is_owner_of old_id p ≡ true → o ≡ p
  alone_only alone p at own = alone_one before o o_in o_sector alone p at own

  not_alone_stays : is_alone before o ≡ true → (p : Object) → Stays x.nodes x.listings e' p → is_owner_of old_id p ≡ true → ⊥
  not_alone_stays alone p s own =
      members.stays_other as_edit p s
      (same_some s.number g.dir (sym s.number_is ∙ ap (λ (q : Object). number_of x.nodes q.path) (sym (alone_only alone p s.among own)) ∙ x.grows.dir_is))

  high : (old_id ≡ 2 → ⊥) → 3 ≤ old_id
  high two = by (nat_le 3 old_id) refl
    where
      by : (b : Bool) → nat_le 3 old_id ≡ b → 3 ≤ old_id
      by true up = leb-true 3 old_id up
      by false low = absurd (two (low_owned x.m before (λ p at. (object_lies x.kind x.m x.nodes x.owners x.root x.listings x.agreed p at).placed) old_id o_owned low))

  movable : (old_id ≡ 2 → ⊥) → is_movable before old_id ≡ true
  movable two = ap₂ (λ (a b : Bool). a && b) o_owned (le-leb 3 old_id (high two))

  there_two : GrowsThere x.m before g x.own → old_id ≡ 2 → ⊥
  there_two there two = clash (old_id == 2) (eq-eqb old_id 2 two) (not_true (old_id == 2) (and_first (not (old_id == 2)) _ there.room))

  -- what it gets is new
  pub new_unused : (t : Taking) → GrowsElsewhere x.m before x.before g t → is_used x.m t.id ≡ false
  new_unused t y = not_true (is_used x.m t.id) (filter_test (λ (k : ℕ). not (is_used x.m k)) (range_with_len 3 (id_limit x.m.geometry - 3)) t.id y.is_new)

  pub its_elsewhere : (t : Taking) → GrowsElsewhere x.m before x.before g t → its ≡ t.id
  its_elsewhere t y = ap id_of y.address ∙ (let q : 256 * t.id / 256 ≡ t.id = omega arith in q)

  -- ---- its sectors

  form_same : dir_form (Layout.New x.m) ≡ dir_form (Layout.New x.m')
  form_same = ap (λ (y : Geometry). let f : NameForm = cond (y.version == 0) Ten Long in f) (sym x.geometry)

  size_was : object_size (dir_form (Layout.New x.m)) anew.entry ≡ g.len
  size_was = ap₂ (λ (b : Bool) (f : NameForm). cond b (directory_size f g.len) g.len) (growing.o_directory as_edit) x.grows.form

  pub size_now : object_size (dir_form (Layout.New x.m')) anew.entry ≡ g.len
  size_now = ap (λ (f : NameForm). object_size f anew.entry) (sym form_same) ∙ size_was

  pub anew_sector : (s : ℕ) × (is_among g.sectors s ≡ true)
  anew_sector =
      a_sector x.m' g.address g.len g.sectors x.some (subst (λ (y : Geometry). 0 < y.sector) (sym x.geometry) (new_shape x.m x.agreed.is_map).some)
      (subst (λ (n : ℕ). sectors_at (Layout.New x.m') g.address n ≡ Some g.sectors) size_now x.at)

  pub anew_owns : is_owner_of its anew ≡ true
  anew_owns = owns anew anew_sector.0 anew_sector.1

  abbrev after : List Object
  after = objects (joining e') ++ x.gives.stay

  anew_after : Contains after anew
  anew_after =
      let j = members.its_joins as_edit in
      Contains-append_left (objects (joining e')) x.gives.stay anew (in_map (λ (p : ℕ × Object). p.1) (joining e') (j.0, anew) j.1)

  -- nothing that had runs is taken, if it grows where it lies
  none_taken : GrowsThere x.m before g x.own → (k : ℕ) → is_used x.m k ≡ true → is_taken (x.before ++ x.own) k ≡ false
  none_taken there k used =
      taken_either x.before x.own k
      ∙ neither (is_taken x.before k) (is_taken x.own k) (unless (is_taken x.before k) (λ taken. clash (is_used x.m k) used (x.fresh k taken))) (ap (λ (ts : List Taking). is_taken ts k) there.nothing)

  -- so its sectors are those of no other object
  pub there_apart : GrowsThere x.m before g x.own → (p : Object) → Contains before p → is_same_path o.path p.path ≡ false → is_apart g.sectors p.sectors ≡ true
  there_apart there p at other = apart_from g.sectors p.sectors never
    where
      its_old : its ≡ old_id
      its_old = ap id_of there.address

      runs : id_runs x.m' old_id ≡ id_runs x.m old_id
      runs =
          let own : is_owned after old_id ≡ true = subst (λ (k : ℕ). is_owned after k ≡ true) its_old (owned_by after its anew anew_after anew_owns) in
          runs_keep x.m x.m' (x.before ++ x.own) x.gone x.listings e' old_id x.space x.gives o_used
          (x.gives.exactly old_id o_used ∙ neither (is_given_back before after old_id) (is_taken (x.before ++ x.own) old_id) (still_owned before after old_id own) (none_taken there old_id o_used))

      was_at : IsAt (Layout.New x.m) anew
      was_at = places_law x.m' x.m anew (sym x.geometry) (inr (subst (λ (k : ℕ). id_runs x.m k ≡ id_runs x.m' k) (sym its_old) (sym runs))) x.at

      sectors_are : new_sectors x.m g.address g.len ≡ Some g.sectors
      sectors_are = by_map x.m g.address g.len g.sectors x.some (subst (λ (n : ℕ). sectors_at (Layout.New x.m) g.address n ≡ Some g.sectors) size_was was_at)

      free : is_apart g.sectors (sectors_of_others before o) ≡ true
      free =
          ap (λ (q : Option (List ℕ)). option_map_or (λ (ss : List ℕ). is_apart ss (sectors_of_others before o)) q false)
          (sym sectors_are ∙ ap (λ (a : ℕ). new_sectors x.m a g.len) there.address) ∙ and_second (not (old_id == 2)) _ there.room

      never : (s : ℕ) → is_among g.sectors s ≡ true → is_among p.sectors s ≡ true → ⊥
      never s i j =
          let unlike' : not (is_same_path p.path o.path) ≡ true = ap not (growing.same_both p.path o.path ∙ other) in
          clash (is_among (sectors_of_others before o) s)
          (among_flat (filter (λ (q : Object). not (is_same_path q.path o.path)) before) p s (in_filter (λ (q : Object). not (is_same_path q.path o.path)) before p at unlike') j)
          (apart_at g.sectors (sectors_of_others before o) s free i)

  -- in whatever identifier
  anew_loose : (k : ℕ) → is_owner_of k anew ≡ true → is_used x.m k ≡ true → is_movable before k ≡ true
  anew_loose k own used = by x.lies
    where
      k_is : its ≡ k
      k_is = owner_id k anew own

      old : (old_id ≡ 2 → ⊥) → g.address ≡ o.entry.address → is_movable before k ≡ true
      old two address = subst (λ (j : ℕ). is_movable before j ≡ true) (sym (ap id_of address) ∙ k_is) (movable two)

      by : GrowsThere x.m before g x.own ⊎ ((t : Taking) × (x.own ≡ t ∷ []) × TakesSpace x.m before x.before g t × (GrowsAlone x.m before g t ⊎ GrowsElsewhere x.m before x.before g t))
          → is_movable before k ≡ true
      by (inl there) = old (there_two there) there.address
      by (inr t) =
          ⊎_elim (λ y. old (its_alone y.alone).1 y.address)
          (λ y. absurd (clash (is_used x.m k) used (subst (λ (j : ℕ). is_used x.m j ≡ false) (sym (its_elsewhere t.0 y) ∙ k_is) (new_unused t.0 y)))) t.3

  anew_apart : (p : Object) → Stays x.nodes x.listings e' p → its ≡ id_of p.entry.address → is_apart g.sectors p.sectors ≡ true
  anew_apart p s id = by x.lies
    where
      by : GrowsThere x.m before g x.own ⊎ ((t : Taking) × (x.own ≡ t ∷ []) × TakesSpace x.m before x.before g t × (GrowsAlone x.m before g t ⊎ GrowsElsewhere x.m before x.before g t))
          → is_apart g.sectors p.sectors ≡ true
      by (inl there) = there_apart there p s.among (differs p s)
      by (inr t) =
          ⊎_elim
          (λ y. apart_from g.sectors p.sectors (λ n i j. not_alone_stays y.alone p s (subst (λ (k : ℕ). is_owner_of k p ≡ true) (sym id ∙ ap id_of y.address) (owns p n j))))
          (λ y.
          apart_from g.sectors p.sectors
          (λ n i j.
          clash (is_used x.m (id_of p.entry.address)) (owner_used p s.among (id_of p.entry.address) (owns p n j))
          (subst (λ (k : ℕ). is_used x.m k ≡ false) (sym (its_elsewhere t.0 y) ∙ id) (new_unused t.0 y)))) t.3

  -- ---- the edit

  again : (k : ℕ) → is_taken (x.before ++ x.own) k ≡ true → is_used x.m k ≡ true
      → (is_movable before k ≡ true) × ((p : Object) → Stays x.nodes x.listings e' p → is_owner_of k p ≡ false)
  again k taken used =
      ⊎_elim (λ first. absurd (clash (is_used x.m k) used (x.fresh k first))) (λ second. by second x.lies)
      (either (is_taken x.before k) (is_taken x.own k) (sym (taken_either x.before x.own k) ∙ taken))
    where
      its_taking : (t : Taking) → x.own ≡ t ∷ [] → is_taken x.own k ≡ true → t.id ≡ k
      its_taking t one second =
          eqb-true t.id k (⊎_elim (λ here. here) (λ none. absurd (cc)) (either (t.id == k) false (subst (λ (ts : List Taking). is_taken ts k ≡ true) one second)))

      by : is_taken x.own k ≡ true
          → GrowsThere x.m before g x.own ⊎ ((t : Taking) × (x.own ≡ t ∷ []) × TakesSpace x.m before x.before g t × (GrowsAlone x.m before g t ⊎ GrowsElsewhere x.m before x.before g t))
          → (is_movable before k ≡ true) × ((p : Object) → Stays x.nodes x.listings e' p → is_owner_of k p ≡ false)
      by second (inl there) = absurd (let none = subst (λ (ts : List Taking). is_taken ts k ≡ true) there.nothing second in cc)
      by second (inr t) =
          ⊎_elim
          (λ y.
          let same : old_id ≡ k = sym y.id ∙ its_taking t.0 t.1 second in (
            subst (λ (j : ℕ). is_movable before j ≡ true) same (movable (its_alone y.alone).1),
            λ p s. unless (is_owner_of k p) (λ own. not_alone_stays y.alone p s (subst (λ (j : ℕ). is_owner_of j p ≡ true) (sym same) own)),
          ))
          (λ y. absurd (clash (is_used x.m k) used (subst (λ (j : ℕ). is_used x.m j ≡ false) (its_taking t.0 t.1 second) (new_unused t.0 y)))) t.3

  -- what keeps the place of an object that leaves lies apart from it
  kept_apart : (p : Object) → KeepsPlaceOf x.edit p → id_of p.entry.address ≡ its → is_apart p.sectors g.sectors ≡ true
  kept_apart p q id = ap (λ (ss : List ℕ). is_apart ss g.sectors) q.2.sectors ∙ turned g.sectors q.0.1.sectors (by x.lies)
    where
      among : Contains before q.0.1
      among = left_among x.nodes (Layout.New x.m) x.listings x.edit held x.is_edit q.0 q.1

      number_is : number_of x.nodes q.0.1.path ≡ Some q.0.0
      number_is = left_number x.nodes (Layout.New x.m) x.listings x.edit held x.is_edit q.0 q.1

      differs' : q.0.0 ≡ g.dir → ⊥
      differs' same = members.dir_stays as_edit (subst (Contains (numbers (leaving x.edit))) same (in_map (λ (r : ℕ × Object). r.0) (leaving x.edit) q.0 q.1))

      other : is_same_path o.path q.0.1.path ≡ false
      other = unlike x.nodes o.path q.0.1.path g.dir q.0.0 x.grows.dir_is number_is (λ same. differs' (sym same))

      by : GrowsThere x.m before g x.own ⊎ ((t : Taking) × (x.own ≡ t ∷ []) × TakesSpace x.m before x.before g t × (GrowsAlone x.m before g t ⊎ GrowsElsewhere x.m before x.before g t))
          → is_apart g.sectors q.0.1.sectors ≡ true
      by (inl there) = there_apart there q.0.1 among other
      by (inr t) =
          ⊎_elim
          (λ y.
          apart_from g.sectors q.0.1.sectors
          (λ n i j.
          let own : is_owner_of old_id q.0.1 ≡ true = subst (λ (k : ℕ). is_owner_of k q.0.1 ≡ true) (sym (ap id_of q.2.address) ∙ id ∙ ap id_of y.address) (owns q.0.1 n j) in
          clash (is_same_path o.path q.0.1.path) (ap (λ (r : Object). is_same_path o.path r.path) (sym (alone_only y.alone q.0.1 among own)) ∙ itself o.path) other))
          (λ y.
          apart_from g.sectors q.0.1.sectors
          (λ n i j.
          clash (is_used x.m (id_of q.0.1.entry.address)) (owner_used q.0.1 among (id_of q.0.1.entry.address) (owns q.0.1 n j))
          (subst (λ (k : ℕ). is_used x.m k ≡ false) (sym (its_elsewhere t.0 y) ∙ sym id ∙ ap id_of q.2.address) (new_unused t.0 y)))) t.3

  joins_apart : (p : ℕ × Object) → Contains (joining x.edit) p → id_of p.1.entry.address ≡ its → is_apart p.1.sectors g.sectors ≡ true
  joins_apart p at = ⊎_elim (λ q. kept_apart p.1 q) (λ apart. apart) (x.apart p at)

  lies_still : (p : Object) → LiesAgain x.m x.nodes x.listings x.edit p → LiesAgain x.m x.nodes x.listings e' p
  lies_still p (inl q) = inl (q.0, members.still_leaves as_edit q.0 q.1, q.2)
  lies_still p (inr loose) = inr (loose.0, λ r s id. loose.1 r (members.stayed as_edit r s) id)

  pub grown_places : NewPlaces x.kind x.m x.m' x.nodes x.listings e' (x.before ++ x.own) x.gone
  grown_places = record {
    is_map = x.is_map;
    geometry = x.geometry;
    space = x.space;
    gives = x.gives;
    again = again;
    placed = members.joins_either as_edit (IsAt (Layout.New x.m')) x.at x.placed;
    lies = members.joins_either as_edit (LiesAgain x.m x.nodes x.listings e') (inr (anew_loose, anew_apart)) (λ p at. lies_still p.1 (x.lie p at));
    pairs = members.apart_joining as_edit x.pairs joins_apart;
  }

  abbrev pub grown_parts : NewPartsEdit
  grown_parts =
      let is = law.is_edit as_edit in
      record {
        kind = x.kind;
        m = x.m;
        m' = x.m';
        nodes = x.nodes;
        nodes' = x.nodes';
        owners = x.owners;
        owners' = x.owners';
        root = x.root;
        listings = x.listings;
        edit = e';
        agreed = x.agreed;
        is_edit = is;
        nodes_edited = x.nodes_edited;
        fit = places_fit x.kind x.m x.m' x.nodes x.owners x.root x.listings e' (x.before ++ x.own) x.gone x.agreed is grown_places;
        can = law.can_say as_edit x.can;
        owners_edited = law.owners_as as_edit (Layout.New x.m') x.owners x.owners' x.owners_edited;
      }

pub grown_places_law : GrownPlacesLaw
grown_places_law = record {
  places = grown_places;
  agree = λ x. agree_now (grown_parts x);
}
