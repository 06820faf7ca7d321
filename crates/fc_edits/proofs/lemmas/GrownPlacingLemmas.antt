-- An edit by which one object joins a directory, in which a directory grows, by the laws of growth.
use Rattle.std.proofs.Common.{◌≡◌, ◌⊎◌, inl, inr, ⊎_elim, ℕ, ◌*◌, ◌/◌, true, false, List, [], ◌∷◌, ◌++◌, sym, ap, subst, ◌∙◌, arith}
use Rattle.std.specs.Prelude.{Contains, ◌==◌}
use Rattle.std.proofs.lemmas.Bool.{eqb-true, or_cases as either}
use Rattle.fc_newmap.specs.Map.{is_used}
use Rattle.fc_image.specs.Layout.{Layout, id_of, is_among, is_apart}
use Rattle.fc_image.specs.Walk.{Object, is_directory_object}
use Rattle.fc_image.specs.Objects.{is_owner_of, objects_of}
use Rattle.fc_image.specs.Edits.{IsAt}
use Rattle.fc_image.proofs.HolesLemmas.{apart_from}
use Rattle.fc_tree.proofs.MemberLemmas.{contains_here, in_map, no_element}
use Rattle.fc_changes.proofs.BasicLemmas.{clash}
use Rattle.fc_laws.specs.nodes.Laws.{IsHeld}
use Rattle.fc_laws.proofs.lemmas.agree.BeforeLemmas.{sound}
use Rattle.fc_laws.proofs.lemmas.agree.RoomLemmas.{dir_sector}
use Rattle.fc_edits.specs.Edit.{joining, objects}
use Rattle.fc_edits.specs.Growing.{EditGrowing, grown}
use Rattle.fc_edits.specs.GrownPlaces.{GrownPlacing, GrowsAlone, GrowsElsewhere, GrowsThere, NewGrowing, TakesSpace}
use Rattle.fc_edits.specs.NewPlaces.{ApartInOne, LiesAgain, Taking, is_taken}
use Rattle.fc_edits.specs.Placing.{takings_of}
use Rattle.fc_edits.proofs.lemmas.AddedPlaceLemmas.{is_fresh}
use Rattle.fc_edits.proofs.lemmas.BesideLemmas.{Beside, IsBeside, fresh_of, is_beside}
use Rattle.fc_edits.proofs.lemmas.GrowingLemmas as growing
use Rattle.fc_edits.proofs.lemmas.GrownMemberLemmas as members
use Rattle.fc_edits.proofs.lemmas.IdentifierLemmas.{owns, taken_either}
use Rattle.fc_edits.proofs.lemmas.NewSpaceLemmas.{new_id_unused}
use Rattle.fc_edits.proofs.lemmas.ShapeLemmas.{of_one}

module _ (x : GrownPlacing) where
  pub h : IsHeld x.nodes (Layout.New x.m) x.listings
  h = record { sound = sound x.kind x.m x.nodes x.owners x.root x.listings x.agreed; held = x.agreed.walked.held }

  abbrev eg : EditGrowing
  eg = record {
    nodes = x.nodes;
    layout = Layout.New x.m;
    listings = x.listings;
    edit = x.edit;
    growing = x.growing;
    held = h;
    is_edit = x.is_edit;
    has_numbers = x.has_numbers;
    grows = x.grows;
  }

  abbrev o : Object
  o = x.o

  abbrev dir : Object
  dir = x.growing.o

  -- the object joins alone
  of_joining : (P : ℕ × Object → Type 0) → P (x.number, o) → (p : ℕ × Object) → Contains (joining x.edit) p → P p
  of_joining P is p at = of_one P (x.number, o) is p (subst (λ (ps : List (ℕ × Object)). Contains ps p) x.joins at)

  abbrev first : List Taking
  first = takings_of x.id x.parts

  abbrev before : List Object
  before = objects_of x.listings

  pub fresh : (k : ℕ) → is_taken first k ≡ true → is_used x.m k ≡ false
  fresh k taken = is_fresh x.m x.id x.parts (fresh_of x.m before x.near _ x.id x.parts o x.place) k taken

  one_taking : (t : Taking) (k : ℕ) → x.own ≡ t ∷ [] → is_taken x.own k ≡ true → t.id ≡ k
  one_taking t k one taken =
      eqb-true t.id k (⊎_elim (λ here. here) (λ none. absurd (cc)) (either (t.id == k) false (subst (λ (ts : List Taking). is_taken ts k ≡ true) one taken)))

  its_owns : is_owner_of (id_of dir.entry.address) dir ≡ true
  its_owns =
      let l = x.grows.listed in
      let s = dir_sector x.kind x.m x.nodes x.owners x.root x.listings x.agreed l.0.was (growing.its_listing eg) in
      owns dir s.0 (subst (λ (p : Object). is_among p.sectors s.0 ≡ true) l.2 s.1)

  -- what had runs and gets others is the directory's
  pub again : (k : ℕ) → is_taken (first ++ x.own) k ≡ true → is_used x.m k ≡ true → (p : Object) × Contains before p × (is_owner_of k p ≡ true) × (is_directory_object p ≡ true)
  again k taken used = ⊎_elim (λ a. absurd (clash (is_used x.m k) used (fresh k a))) (λ a. by a x.lies) (either (is_taken first k) (is_taken x.own k) (sym (taken_either first x.own k) ∙ taken))
    where
      by : is_taken x.own k ≡ true
          → GrowsThere x.m before x.growing x.own
          ⊎ ((t : Taking) × (x.own ≡ t ∷ []) × TakesSpace x.m before first x.growing t × (GrowsAlone x.m before x.growing t ⊎ GrowsElsewhere x.m before first x.growing t))
          → (p : Object) × Contains before p × (is_owner_of k p ≡ true) × (is_directory_object p ≡ true)
      by a (inl there) = absurd (let none = subst (λ (ts : List Taking). is_taken ts k ≡ true) there.nothing a in cc)
      by a (inr t) =
          ⊎_elim
          (λ y.
          let same : id_of dir.entry.address ≡ k = sym y.id ∙ one_taking t.0 k t.1 a in
          (dir, growing.o_in eg, subst (λ (j : ℕ). is_owner_of j dir ≡ true) same its_owns, growing.o_directory eg))
          (λ y. absurd (clash (is_used x.m k) used (subst (λ (j : ℕ). is_used x.m j ≡ false) (one_taking t.0 k t.1 a) (new_id_unused x.m t.0.id y.is_new)))) t.3

  -- the object joins
  pub o_joins : Contains (objects (joining (grown x.edit x.growing))) o
  o_joins =
      let p : ℕ × Object = (x.number, o) in
      in_map (λ (q : ℕ × Object). q.1) (joining (grown x.edit x.growing)) p (members.still_joins eg p (subst (λ (ps : List (ℕ × Object)). Contains ps p) (sym x.joins) (contains_here p [])))

  abbrev its_beside : Beside
  its_beside = record {
    kind = x.kind;
    m = x.m;
    m' = x.m';
    nodes = x.nodes;
    owners = x.owners;
    root = x.root;
    listings = x.listings;
    edit = grown x.edit x.growing;
    takings = first ++ x.own;
    gone = x.gone;
    o = o;
    id = x.id;
    parts = x.parts;
    near = x.near;
    agreed = x.agreed;
    geometry = x.geometry;
    space = x.space;
    gives = x.gives;
    again = again;
    joins = o_joins;
    at = x.at;
    place = x.place;
  }

  pub beside : IsBeside its_beside
  beside = is_beside its_beside

  pub apart_from_it : (p : ℕ × Object) → Contains (joining (x.edit)) p → id_of p.1.entry.address ≡ id_of x.growing.address → is_apart p.1.sectors x.growing.sectors ≡ true
  apart_from_it =
      of_joining (λ (p : ℕ × Object). id_of p.1.entry.address ≡ id_of x.growing.address → is_apart p.1.sectors x.growing.sectors ≡ true)
      (λ same. apart_from o.sectors x.growing.sectors (λ s i j. by same (owns o s i) x.lies))
    where
      by : id_of o.entry.address ≡ id_of x.growing.address → is_owner_of (id_of o.entry.address) o ≡ true
          → GrowsThere x.m before x.growing x.own
          ⊎ ((t : Taking) × (x.own ≡ t ∷ []) × TakesSpace x.m before first x.growing t × (GrowsAlone x.m before x.growing t ⊎ GrowsElsewhere x.m before first x.growing t)) → ⊥
      by same own (inl there) = old (same ∙ ap id_of there.address) own
        where
          old : id_of o.entry.address ≡ id_of dir.entry.address → is_owner_of (id_of o.entry.address) o ≡ true → ⊥
          old is own' =
              clash (is_directory_object dir) (growing.o_directory eg)
              (beside.files (id_of o.entry.address) own' dir (growing.o_in eg) (subst (λ (k : ℕ). is_owner_of k dir ≡ true) (sym is) its_owns))
      by same own (inr t) =
          ⊎_elim
          (λ y.
          clash (is_directory_object dir) (growing.o_directory eg)
          (beside.files (id_of o.entry.address) own dir (growing.o_in eg) (subst (λ (k : ℕ). is_owner_of k dir ≡ true) (sym (same ∙ ap id_of y.address)) its_owns)))
          (λ y.
          let new : id_of o.entry.address ≡ t.0.id = same ∙ ap id_of y.address ∙ (let q : 256 * t.0.id / 256 ≡ t.0.id = omega arith in q) in
          ⊎_elim (λ used. clash (is_used x.m t.0.id) (subst (λ (k : ℕ). is_used x.m k ≡ true) new used) (new_id_unused x.m t.0.id y.is_new))
          (λ taken. clash (is_taken first t.0.id) (subst (λ (k : ℕ). is_taken first k ≡ true) new taken) y.other) (beside.known (id_of o.entry.address) own)) t.3

  pub its_placed : (p : ℕ × Object) → Contains (joining x.edit) p → IsAt (Layout.New x.m') p.1
  its_placed = of_joining (λ (p : ℕ × Object). IsAt (Layout.New x.m') p.1) x.at

  pub its_lie : (p : ℕ × Object) → Contains (joining x.edit) p → LiesAgain x.m x.nodes x.listings x.edit p.1
  its_lie = of_joining (λ (p : ℕ × Object). LiesAgain x.m x.nodes x.listings x.edit p.1) (inr (beside.movable, λ p s same. beside.apart p s.among same))

  pub its_pairs : ApartInOne (objects (joining x.edit))
  its_pairs = subst (λ (ps : List (ℕ × Object)). ApartInOne (objects ps)) (sym x.joins) ((λ p none. absurd (no_element p none)), tt)

  abbrev pub as_growing : NewGrowing
  as_growing = record {
    kind = x.kind;
    m = x.m;
    m' = x.m';
    nodes = x.nodes;
    nodes' = x.nodes';
    owners = x.owners;
    owners' = x.owners';
    root = x.root;
    listings = x.listings;
    edit = x.edit;
    growing = x.growing;
    before = first;
    own = x.own;
    gone = x.gone;
    agreed = x.agreed;
    is_edit = eg.is_edit;
    has_numbers = eg.has_numbers;
    grows = x.grows;
    can = x.can;
    nodes_edited = x.nodes_edited;
    owners_edited = x.owners_edited;
    is_map = x.is_map;
    geometry = x.geometry;
    space = x.space;
    gives = x.gives;
    fresh = fresh;
    some = x.some;
    lies = x.lies;
    at = x.grown_at;
    placed = its_placed;
    lie = its_lie;
    pairs = its_pairs;
    apart = λ p at. inr (apart_from_it p at);
  }
