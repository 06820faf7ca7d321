-- `rename` without a copy, into a directory that grows by it, by the laws of growth.
use Rattle.std.proofs.Common.{◌≡◌, ◌⊎◌, inl, inr, ⊎_elim, ℕ, Bool, true, false, List, [], ◌∷◌, ◌++◌, refl, sym, ap, subst, ◌∙◌, arith}
use Rattle.std.specs.Prelude.{Contains, ◌==◌}
use Rattle.std.proofs.lemmas.Bool.{eqb-true, false_from_ne_true as unless, or_cases as either, or_from as neither}
use Rattle.std.proofs.lemmas.List.Elements.{Contains-append_left}
use Rattle.fc_newmap.specs.Map.{id_runs, is_used}
use Rattle.fc_image.specs.Layout.{Layout, dir_form, id_of, is_among, is_apart}
use Rattle.fc_image.specs.Walk.{Listing, Object, object_size}
use Rattle.fc_image.specs.Objects.{is_owner_of, objects_of}
use Rattle.fc_image.specs.Edits.{IsAt}
use Rattle.fc_image.specs.effects.Steady.{is_given_back}
use Rattle.fc_image.proofs.MapEditLemmas.{places_law}
use Rattle.fc_tree.specs.Nodes.{number_of}
use Rattle.fc_tree.proofs.MemberLemmas.{contains_here, in_map, no_element}
use Rattle.fc_tree.proofs.WalkedLemmas.{same_some}
use Rattle.fc_changes.proofs.BasicLemmas.{clash, not_zero}
use Rattle.fc_changes.proofs.ChangeLemmas.{a_sector}
use Rattle.fc_changes.proofs.SpaceLemmas.{still_owned}
use Rattle.fc_laws.specs.nodes.Edits.{Nodes}
use Rattle.fc_laws.specs.nodes.Laws.{IsHeld}
use Rattle.fc_laws.proofs.lemmas.agree.BeforeLemmas.{new_shape, object_lies, sound}
use Rattle.fc_laws.proofs.lemmas.agree.RoomLemmas.{dir_sector}
use Rattle.fc_edits.specs.Edit.{joined_in, joining, leaving, left_in, numbers, objects}
use Rattle.fc_edits.specs.Growing.{CanSayNew, EditGrowing, Growing, IsGrowing}
use Rattle.fc_edits.specs.GrownMoving.{GrownMovingLaw, NewGrownMoving, grown_edit}
use Rattle.fc_edits.specs.GrownPlaces.{GrowsAlone, GrowsElsewhere, GrowsThere, KeepsPlaceOf, NewGrowing, TakesSpace}
use Rattle.fc_edits.specs.Moving.{Moves, Moving, edit, moved}
use Rattle.fc_edits.specs.NewPlaces.{ApartInOne, LiesAgain, Taking, is_taken}
use Rattle.fc_edits.proofs.lemmas.GrowingLawLemmas as law
use Rattle.fc_edits.proofs.lemmas.GrowingLemmas as growing
use Rattle.fc_edits.proofs.lemmas.GrownMemberLemmas as members
use Rattle.fc_edits.proofs.lemmas.GrownPlaceLemmas.{grown_places, grown_places_law}
use Rattle.fc_edits.proofs.lemmas.IdentifierLemmas.{alone_one, owns, used_of}
use Rattle.fc_edits.proofs.lemmas.MovesLemmas as m_
use Rattle.fc_edits.proofs.lemmas.NewPlaceLemmas.{owned_by, runs_keep}
use Rattle.fc_edits.proofs.lemmas.NewSpaceLemmas.{new_id_unused}
use Rattle.fc_edits.proofs.lemmas.ShapeLemmas.{of_one}

abbrev pub with_it : (nodes : Nodes) (layout : Layout) (listings : List Listing) (c : Moving) (g : Growing) → IsHeld nodes layout listings → Moves nodes listings c
    → IsGrowing nodes layout (edit c) g → EditGrowing
with_it nodes layout listings c g h ms grows = record {
  nodes = nodes;
  layout = layout;
  listings = listings;
  edit = edit c;
  growing = g;
  held = h;
  is_edit = m_.is_edit nodes layout listings c h ms;
  has_numbers = m_.has_numbers nodes layout listings c h ms;
  grows = grows;
}

-- nothing comes, and no length changes
pub can_new : (layout : Layout) (c : Moving) → CanSayNew layout (edit c)
can_new layout c = record {
  few = omega arith;
  into = λ d at. absurd (no_element d at);
  into_none = λ d at. absurd (no_element d at);
  same = λ k at. refl;
}

module _ (x : NewGrownMoving) where
  pub h : IsHeld x.nodes (Layout.New x.m) x.listings
  h = record { sound = sound x.kind x.m x.nodes x.owners x.root x.listings x.agreed; held = x.agreed.walked.held }

  abbrev eg : EditGrowing
  eg = with_it x.nodes (Layout.New x.m) x.listings x.c x.growing h x.moves x.grows

  abbrev o : Object
  o = x.c.o

  abbrev now : Object
  now = moved x.c x.c.o

  abbrev before : List Object
  before = objects_of x.listings

  abbrev after : List Object
  after = objects (joining (grown_edit x.c x.growing)) ++ x.gives.stay

  pub among : Contains before o
  among = m_.among x.nodes (Layout.New x.m) x.listings x.c h x.moves

  left_is : left_in (edit x.c) ≡ (x.c.number, o) ∷ []
  left_is = m_.left_is x.nodes (Layout.New x.m) x.listings x.c h x.moves

  joined_is : joined_in (edit x.c) ≡ (x.c.number, now) ∷ []
  joined_is = m_.joined_is x.nodes (Layout.New x.m) x.listings x.c h x.moves

  -- what leaves, and what joins
  pub leaves : Contains (leaving (edit x.c)) (x.c.number, o)
  leaves = subst (λ (ps : List (ℕ × Object)). Contains ps (x.c.number, o)) (sym left_is) (contains_here (x.c.number, o) [])

  of_joining : (P : ℕ × Object → Type 0) → P (x.c.number, now) → (p : ℕ × Object) → Contains (joining (edit x.c)) p → P p
  of_joining P is p at = of_one P (x.c.number, now) is p (subst (λ (ps : List (ℕ × Object)). Contains ps p) joined_is at)

  now_after : Contains after now
  now_after =
      let p : ℕ × Object = (x.c.number, now) in
      Contains-append_left (objects (joining (grown_edit x.c x.growing))) x.gives.stay now
      (in_map (λ (q : ℕ × Object). q.1) (joining (grown_edit x.c x.growing)) p
      (members.still_joins eg p (subst (λ (ps : List (ℕ × Object)). Contains ps p) (sym joined_is) (contains_here p []))))

  -- the directory that grows has a sector
  its_sector : (s : ℕ) × (is_among x.growing.o.sectors s ≡ true)
  its_sector =
      let l = x.grows.listed in
      let s = dir_sector x.kind x.m x.nodes x.owners x.root x.listings x.agreed l.0.was (growing.its_listing eg) in
      (s.0, subst (λ (p : Object). is_among p.sectors s.0 ≡ true) l.2 s.1)

  -- it isn't the directory that grows
  other_than_it : x.growing.o ≡ o → ⊥
  other_than_it same =
      members.dir_stays eg
      (subst (Contains (numbers (leaving (edit x.c))))
      (same_some x.c.number x.growing.dir (sym x.moves.number_is ∙ ap (λ (p : Object). number_of x.nodes p.path) (sym same) ∙ x.grows.dir_is))
      (in_map (λ (q : ℕ × Object). q.0) (leaving (edit x.c)) (x.c.number, o) leaves))

  -- what it owns keeps its runs
  runs_same : (k : ℕ) → is_owner_of k o ≡ true → id_runs x.m' k ≡ id_runs x.m k
  runs_same k own =
      let used = used_of x.kind x.m x.nodes x.owners x.root x.listings x.agreed o among k own in
      let owned = owned_by after k now now_after own in
      runs_keep x.m x.m' x.own x.gone x.listings (grown_edit x.c x.growing) k x.space x.gives used
      (x.gives.exactly k used ∙ neither (is_given_back before after k) (is_taken x.own k) (still_owned before after k owned) (unless (is_taken x.own k) (λ taken. never used taken x.lies)))
    where
      never : is_used x.m k ≡ true → is_taken x.own k ≡ true
          → GrowsThere x.m before x.growing x.own
          ⊎ ((t : Taking) × (x.own ≡ t ∷ []) × TakesSpace x.m before [] x.growing t × (GrowsAlone x.m before x.growing t ⊎ GrowsElsewhere x.m before [] x.growing t)) → ⊥
      never used taken (inl there) = let none = subst (λ (ts : List Taking). is_taken ts k ≡ true) there.nothing taken in cc
      never used taken (inr t) =
          let id : t.0.id ≡ k =
          eqb-true t.0.id k (⊎_elim (λ here. here) (λ none. absurd (cc)) (either (t.0.id == k) false (subst (λ (ts : List Taking). is_taken ts k ≡ true) t.1 taken))) in
          ⊎_elim
          (λ y.
          other_than_it
          (alone_one before x.growing.o (growing.o_in eg) its_sector y.alone o among (subst (λ (j : ℕ). is_owner_of j o ≡ true) (sym id ∙ y.id) own)))
          (λ y. clash (is_used x.m k) used (subst (λ (j : ℕ). is_used x.m j ≡ false) id (new_id_unused x.m t.0.id y.is_new))) t.3

  pub now_at : IsAt (Layout.New x.m') now
  now_at = by (object_size (dir_form (Layout.New x.m)) o.entry == 0) refl
    where
      was_at : IsAt (Layout.New x.m) o
      was_at = (object_lies x.kind x.m x.nodes x.owners x.root x.listings x.agreed o among).placed

      by : (b : Bool) → (object_size (dir_form (Layout.New x.m)) o.entry == 0) ≡ b → IsAt (Layout.New x.m') now
      by true e = places_law x.m x.m' now x.geometry (inl (eqb-true (object_size (dir_form (Layout.New x.m)) o.entry) 0 e)) was_at
      by false e =
          let s = a_sector x.m o.entry.address (object_size (dir_form (Layout.New x.m)) o.entry) o.sectors (not_zero (object_size (dir_form (Layout.New x.m)) o.entry) e) (new_shape x.m x.agreed.is_map).some was_at in
          places_law x.m x.m' now x.geometry (inr (runs_same (id_of o.entry.address) (owns o s.0 s.1))) was_at

  pub its_placed : (p : ℕ × Object) → Contains (joining (edit x.c)) p → IsAt (Layout.New x.m') p.1
  its_placed = of_joining (λ (p : ℕ × Object). IsAt (Layout.New x.m') p.1) now_at

  pub its_lie : (p : ℕ × Object) → Contains (joining (edit x.c)) p → LiesAgain x.m x.nodes x.listings (edit x.c) p.1
  its_lie = of_joining (λ (p : ℕ × Object). LiesAgain x.m x.nodes x.listings (edit x.c) p.1) (inl ((x.c.number, o), leaves, record { sectors = refl; address = refl }))

  pub its_pairs : ApartInOne (objects (joining (edit x.c)))
  its_pairs = subst (λ (ps : List (ℕ × Object)). ApartInOne (objects ps)) (sym joined_is) ((λ p none. absurd (no_element p none)), tt)

  pub its_apart : (p : ℕ × Object) → Contains (joining (edit x.c)) p → KeepsPlaceOf (edit x.c) p.1 ⊎ (id_of p.1.entry.address ≡ id_of x.growing.address → is_apart p.1.sectors x.growing.sectors ≡ true)
  its_apart =
      of_joining (λ (p : ℕ × Object). KeepsPlaceOf (edit x.c) p.1 ⊎ (id_of p.1.entry.address ≡ id_of x.growing.address → is_apart p.1.sectors x.growing.sectors ≡ true))
      (inl ((x.c.number, o), leaves, record { sectors = refl; address = refl }))

  abbrev pub as_growing : NewGrowing
  as_growing = record {
    kind = x.kind;
    m = x.m;
    m' = x.m';
    nodes = x.nodes;
    nodes' = x.nodes';
    owners = x.owners;
    owners' = x.owners';
    root = x.root;
    listings = x.listings;
    edit = edit x.c;
    growing = x.growing;
    before = [];
    own = x.own;
    gone = x.gone;
    agreed = x.agreed;
    is_edit = eg.is_edit;
    has_numbers = eg.has_numbers;
    grows = x.grows;
    can = can_new (Layout.New x.m) x.c;
    nodes_edited = x.nodes_edited;
    owners_edited = x.owners_edited;
    is_map = x.is_map;
    geometry = x.geometry;
    space = x.space;
    gives = x.gives;
    fresh = λ k none. absurd (cc);
    some = x.some;
    lies = x.lies;
    at = x.at;
    placed = its_placed;
    lie = its_lie;
    pairs = its_pairs;
    apart = its_apart;
  }

pub grown_moving_law : GrownMovingLaw
grown_moving_law = record {
  is_edit = λ nodes layout listings c g h ms grows. law.is_edit (with_it nodes layout listings c g h ms grows);
  nodes = λ nodes layout listings c g h ms grows. law.are_edited (with_it nodes layout listings c g h ms grows);
  new_places = λ x. grown_places (as_growing x);
  new = λ x. grown_places_law.agree (as_growing x);
}
