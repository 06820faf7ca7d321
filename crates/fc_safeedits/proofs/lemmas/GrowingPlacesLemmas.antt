-- An edit in which a directory grows, in the safe mode: its places.
use Rattle.std.proofs.Common.{◌≡◌, ◌<◌, ◌⊎◌, inl, inr, ⊎_elim, ℕ, Bool, true, false, not, cond, ◌&&◌, List, ◌++◌, length, refl, sym, ap, ap₂, subst, ◌∙◌, Option}
use Rattle.std.specs.Prelude.{Contains, filter, nat_lt, ◌==◌}
use Rattle.std.specs.Option.{option_map_or}
use Rattle.std.proofs.lemmas.Bool.{false_from_ne_true as unless}
use Rattle.fc_names.specs.Names.{is_same_path}
use Rattle.fc_dirs.specs.Directory.{directory_size}
use Rattle.fc_newmap.specs.Map.{is_used}
use Rattle.fc_image.specs.Layout.{Layout, dir_form, id_of, is_among, is_apart, new_sectors, sectors_at}
use Rattle.fc_image.specs.Walk.{Object, object_size}
use Rattle.fc_image.specs.Objects.{is_movable, is_owner_of, objects_of}
use Rattle.fc_image.specs.Edits.{IsAt}
use Rattle.fc_image.specs.effects.Short.{is_alone, sectors_of_others}
use Rattle.fc_image.proofs.EditLemmas.{apart_turned as turned}
use Rattle.fc_image.proofs.EntriesLemmas.{in_filter}
use Rattle.fc_image.proofs.HolesLemmas.{apart_at, apart_from}
use Rattle.fc_image.proofs.PathsLemmas.{itself}
use Rattle.fc_record.proofs.KindLemmas.{and_second}
use Rattle.fc_tree.specs.Agree.{Agree}
use Rattle.fc_tree.specs.Nodes.{number_of}
use Rattle.fc_tree.proofs.MemberLemmas.{in_map}
use Rattle.fc_tree.proofs.WalkedLemmas.{same_some}
use Rattle.fc_changes.proofs.BasicLemmas.{clash}
use Rattle.fc_changes.proofs.NewPlaceLemmas.{owner_id}
use Rattle.fc_laws.specs.nodes.Edits.{OwnersEdited, owners_with}
use Rattle.fc_laws.specs.nodes.Laws.{IsHeld}
use Rattle.fc_laws.specs.agree.Agreed.{parts_with}
use Rattle.fc_laws.proofs.lemmas.agree.BeforeLemmas.{agreed_law}
use Rattle.fc_laws.proofs.lemmas.agree.RoomLemmas.{dir_sector}
use Rattle.fc_laws.proofs.lemmas.nodes.OtherLemmas.{unlike}
use Rattle.fc_edits.specs.Edit.{AreEdited, Edit, IsEdit, joining, leaving, numbers, objects, owners_joined, owners_left}
use Rattle.fc_edits.specs.Growing.{CanSayNew, EditGrowing, Growing, IsGrowing, at_place, grown, up_of}
use Rattle.fc_edits.specs.GrownPlaces.{KeepsPlaceOf}
use Rattle.fc_edits.specs.NewNodes.{HasNumbers}
use Rattle.fc_edits.specs.NewPlaces.{ApartInOne, GivesBack, LiesAgain, is_taken}
use Rattle.fc_edits.specs.Places.{Stays}
use Rattle.fc_edits.proofs.lemmas.GrowingLawLemmas as law
use Rattle.fc_edits.proofs.lemmas.GrowingLemmas as growing
use Rattle.fc_edits.proofs.lemmas.GrownMemberLemmas as members
use Rattle.fc_edits.proofs.lemmas.IdentifierLemmas.{alone_one, among_flat, by_map, owns, used_of}
use Rattle.fc_edits.proofs.lemmas.LeavingLemmas.{left_among, left_number}
use Rattle.fc_safelaws.specs.Relaid.{Reaches}
use Rattle.fc_safeedits.specs.Relocation.{Relocation, is_moved}
use Rattle.fc_safeedits.specs.SafeChange.{MovedParts, moves_in}
use Rattle.fc_safeedits.specs.SafeParts.{SafeParts}
use Rattle.fc_safeedits.specs.SafePlaces.{LiesAlone, LiesInside, SafePlaces}
use Rattle.fc_safeedits.proofs.lemmas.SafeChangeLemmas.{held}
use Rattle.fc_safeedits.proofs.lemmas.SafePartsLemmas.{safe_parts_law}
use Rattle.fc_safeedits.specs.SafeGrowth.{GrowsAnew, GrowsAway, GrowsInside, IsGrownSafely}

-- An edit of the parts, told as if none moved, in which a directory grows. What joins a directory beside it has its place, and is apart from
-- it.
pub record SafeGrowing (x : MovedParts) : Type 0 where
  pub edit : Edit
  pub growing : Growing
  pub is_edit : IsEdit x.nodes x.listings edit
  pub has_numbers : HasNumbers x.nodes edit
  pub grows : IsGrowing x.nodes (Layout.New x.m) edit growing
  pub can : CanSayNew (Layout.New x.m) edit
  pub nodes_edited : AreEdited x.nodes x.nodes' (grown edit growing)
  pub owners_edited : OwnersEdited x.owners x.owners' (owners_with (Layout.New x.m) (up_of growing.holder) growing.dir growing.o ++ owners_left (Layout.New x.m) edit)
      (owners_with (Layout.New x.m') (up_of growing.holder) growing.dir (at_place growing growing.o) ++ owners_joined (Layout.New x.m') edit)
  pub gives : GivesBack x.m x.takings x.gone x.listings (grown edit growing)
  pub some : 0 < growing.len
  pub lies_grown : IsGrownSafely x growing
  pub elsewhere : (p : ℕ × Object) → Contains edit.come p → is_moved (moves_in x) p.1 ≡ false
  pub inside : (p : ℕ × Object) → Contains (joining edit) p → is_moved (moves_in x) p.1 ≡ true → IsAt (Layout.New x.m) p.1 × Reaches x.m' p.1
  pub placed : (p : ℕ × Object) → Contains (joining edit) p → is_moved (moves_in x) p.1 ≡ false → IsAt (Layout.New x.m') p.1
  pub lie : (p : ℕ × Object) → Contains (joining edit) p → LiesAgain x.m x.nodes x.listings edit p.1
  pub pairs : ApartInOne (objects (joining edit))
  pub apart : (p : ℕ × Object) → Contains (joining edit) p → KeepsPlaceOf edit p.1 ⊎ (id_of p.1.entry.address ≡ id_of growing.address → ⊥)
  pub reaches : (o : Object) → Stays x.nodes x.listings (grown edit growing) o → is_moved (moves_in x) o ≡ true → Reaches x.m' o

module _ (x : MovedParts) (d : SafeGrowing x) where
  abbrev g : Growing
  g = d.growing

  abbrev y : Layout
  y = Layout.New x.m

  abbrev y' : Layout
  y' = Layout.New x.m'

  abbrev before : List Object
  before = objects_of x.listings

  abbrev pub anew : Object
  anew = at_place d.growing d.growing.o

  abbrev its : ℕ
  its = id_of g.address

  pub h : IsHeld x.nodes (Layout.New x.m) x.listings
  h = held x

  abbrev pub eg : EditGrowing
  eg = record {
    nodes = x.nodes;
    layout = Layout.New x.m;
    listings = x.listings;
    edit = d.edit;
    growing = d.growing;
    held = h;
    is_edit = d.is_edit;
    has_numbers = d.has_numbers;
    grows = d.grows;
  }

  abbrev pub e' : Edit
  e' = grown d.edit d.growing

  abbrev pub move : Relocation
  move = record {
    nodes = x.nodes;
    nodes' = x.nodes';
    m = x.m;
    m' = x.m';
    listings = x.listings;
    edit = e';
    moves = moves_in x;
    top = x.top;
    held = h;
    is_edit = law.is_edit eg;
    nodes_edited = d.nodes_edited;
    top_in = x.top_in;
    top_path = x.top_path;
    elsewhere = d.elsewhere;
  }

  -- ---- the directory before

  o_in : Contains before g.o
  o_in = growing.o_in eg

  o_sector : (s : ℕ) × (is_among g.o.sectors s ≡ true)
  o_sector =
      let l = d.grows.listed in
      let s = dir_sector x.kind x.m x.nodes x.owners x.root x.listings x.agreed l.0.was (growing.its_listing eg) in
      (s.0, subst (λ (p : Object). is_among p.sectors s.0 ≡ true) l.2 s.1)

  owner_used : (p : Object) → Contains before p → (k : ℕ) → is_owner_of k p ≡ true → is_used x.m k ≡ true
  owner_used p at k own = used_of x.kind x.m x.nodes x.owners x.root x.listings x.agreed p at k own

  -- alone it is the only owner
  none_stays : is_alone before g.o ≡ true → g.address ≡ g.o.entry.address → (p : Object) → Stays x.nodes x.listings e' p → is_owner_of its p ≡ false
  none_stays alone address p s =
      unless (is_owner_of its p)
      (λ own.
      let one : g.o ≡ p = alone_one before g.o o_in o_sector alone p s.among (subst (λ (a : ℕ). is_owner_of (id_of a) p ≡ true) address own) in
      members.stays_other eg p s (same_some s.number g.dir (sym s.number_is ∙ ap (λ (q : Object). number_of x.nodes q.path) (sym one) ∙ d.grows.dir_is)))

  -- ---- and afterwards

  pub its_moves : is_moved (moves_in x) g.o ≡ true → g.address ≡ g.o.entry.address → is_moved (moves_in x) anew ≡ true
  its_moves moves address = ap (λ (a : ℕ). moves_in x (id_of a)) address ∙ moves

  pub its_still : is_used x.m its ≡ false → is_moved (moves_in x) anew ≡ false
  its_still unused = ap (λ (b : Bool). is_taken x.takings its && b) unused ∙ and_none (is_taken x.takings its)
    where
      and_none : (a : Bool) → (a && false) ≡ false
      and_none true = refl
      and_none false = refl

  its_size : object_size (dir_form y) anew.entry ≡ g.len
  its_size = ap₂ (λ (b : Bool) (n : ℕ). cond b n g.len) (growing.o_directory eg) (ap (λ f. directory_size f g.len) d.grows.form)

  -- what leaves without growth is another object
  left_other : (q : ℕ × Object) → Contains (leaving d.edit) q → is_same_path g.o.path q.1.path ≡ false
  left_other q at =
      unlike x.nodes g.o.path q.1.path g.dir q.0 d.grows.dir_is (left_number x.nodes y x.listings d.edit h d.is_edit q at)
      (λ same. members.dir_stays eg (subst (Contains (numbers (leaving d.edit))) (sym same) (in_map (λ (r : ℕ × Object). r.0) (leaving d.edit) q at)))

  -- and owns nothing where it is alone
  left_elsewhere : (q : ℕ × Object) → Contains (leaving d.edit) q → is_alone before g.o ≡ true → g.address ≡ g.o.entry.address → is_owner_of its q.1 ≡ true → ⊥
  left_elsewhere q at alone address own =
      let one : g.o ≡ q.1 =
      alone_one before g.o o_in o_sector alone q.1 (left_among x.nodes y x.listings d.edit h d.is_edit q at) (subst (λ (a : ℕ). is_owner_of (id_of a) q.1 ≡ true) address own) in
      clash (is_same_path g.o.path q.1.path) (ap (λ (r : Object). is_same_path g.o.path r.path) (sym one) ∙ itself g.o.path) (left_other q at)

  -- no other owner of its identifier joins
  others_none : is_alone before g.o ≡ true → g.address ≡ g.o.entry.address → (q : ℕ × Object) → Contains (joining e') q → is_owner_of its q.1 ≡ true → q.1 ≡ anew
  others_none alone address =
      members.joins_either eg (λ (p : Object). is_owner_of its p ≡ true → p ≡ anew) (λ own. refl)
      (λ p at own.
      ⊎_elim
      (λ q.
      absurd (left_elsewhere q.0 q.1 alone address
      (subst (λ (ss : List ℕ). (nat_lt 0 (length ss) && (id_of q.0.1.entry.address == its)) ≡ true) q.2.sectors
      (subst (λ (a : ℕ). (nat_lt 0 (length p.1.sectors) && (id_of a == its)) ≡ true) q.2.address own))))
      (λ other. absurd (other (owner_id its p.1 own))) (d.apart p at))

  its_inside : is_moved (moves_in x) anew ≡ true → LiesInside move anew ⊎ LiesAlone move anew
  its_inside moves = by d.lies_grown
    where
      by : GrowsInside x g ⊎ GrowsAnew x g ⊎ GrowsAway x g → LiesInside move anew ⊎ LiesAlone move anew
      by (inl i) = inl (record { before = i.before; reaches = i.reaches })
      by (inr (inl a)) = inr (record { at = a.at; staying = λ p s. none_stays a.alone a.address p s; others = others_none a.alone a.address })
      by (inr (inr w)) = absurd (clash (is_moved (moves_in x) anew) moves (its_still w.is_new))

  its_placed : is_moved (moves_in x) anew ≡ false → IsAt y' anew
  its_placed still = by d.lies_grown
    where
      by : GrowsInside x g ⊎ GrowsAnew x g ⊎ GrowsAway x g → IsAt y' anew
      by (inl i) = absurd (clash (is_moved (moves_in x) anew) (its_moves i.moves i.address) still)
      by (inr (inl a)) = a.at
      by (inr (inr w)) = w.at

  -- the room for it is in no other object
  room_apart : GrowsInside x g → (p : Object) → Contains before p → is_same_path g.o.path p.path ≡ false → is_apart g.sectors p.sectors ≡ true
  room_apart i p at other = apart_from g.sectors p.sectors never
    where
      sectors_are : new_sectors x.m g.address g.len ≡ (let q : Option (List ℕ) = Option.Some g.sectors in q)
      sectors_are = by_map x.m g.address g.len g.sectors d.some (ap (λ (n : ℕ). sectors_at y g.address n) (sym its_size) ∙ i.before)

      free : is_apart g.sectors (sectors_of_others before g.o) ≡ true
      free =
          ap (λ (q : Option (List ℕ)). option_map_or (λ (ss : List ℕ). is_apart ss (sectors_of_others before g.o)) q false)
          (sym sectors_are ∙ ap (λ (a : ℕ). new_sectors x.m a g.len) i.address) ∙ and_second (not (id_of g.o.entry.address == 2)) _ i.room

      never : (s : ℕ) → is_among g.sectors s ≡ true → is_among p.sectors s ≡ true → ⊥
      never s a b =
          let unlike' : not (is_same_path p.path g.o.path) ≡ true = ap not (growing.same_both p.path g.o.path ∙ other) in
          clash (is_among (sectors_of_others before g.o) s)
          (among_flat (filter (λ (q : Object). not (is_same_path q.path g.o.path)) before) p s (in_filter (λ (q : Object). not (is_same_path q.path g.o.path)) before p at unlike') b)
          (apart_at g.sectors (sectors_of_others before g.o) s free a)

  its_lies : LiesAgain x.m x.nodes x.listings e' anew
  its_lies = by d.lies_grown
    where
      -- in an identifier that moves
      loose : is_moved (moves_in x) g.o ≡ true → g.address ≡ g.o.entry.address → (k : ℕ) → is_owner_of k anew ≡ true → is_movable before k ≡ true
      loose moves address k own = x.movable k (ap (moves_in x) (sym (owner_id k anew own)) ∙ its_moves moves address)

      by : GrowsInside x g ⊎ GrowsAnew x g ⊎ GrowsAway x g → LiesAgain x.m x.nodes x.listings e' anew
      by (inl i) = inr (
        λ k own used. loose i.moves i.address k own,
        λ p s id. room_apart i p s.among (unlike x.nodes g.o.path p.path g.dir s.number d.grows.dir_is s.number_is (λ same. members.stays_other eg p s (sym same))),
      )
      by (inr (inl a)) = inr (
        λ k own used. loose a.moves a.address k own,
        λ p s id. apart_from g.sectors p.sectors
            (λ n i j. clash (is_owner_of its p) (subst (λ (k : ℕ). is_owner_of k p ≡ true) (sym id) (owns p n j)) (none_stays a.alone a.address p s)),
      )
      by (inr (inr w)) = inr (
        λ k own used. absurd (clash (is_used x.m k) used (subst (λ (j : ℕ). is_used x.m j ≡ false) (owner_id k anew own) w.is_new)),
        λ p s id. apart_from g.sectors p.sectors
            (λ n i j. clash (is_used x.m its) (owner_used p s.among its (subst (λ (k : ℕ). is_owner_of k p ≡ true) (sym id) (owns p n j))) w.is_new),
      )

  -- ---- what joins beside it

  -- what keeps the place of an object that leaves lies apart from it
  kept_apart : (p : Object) → KeepsPlaceOf d.edit p → id_of p.entry.address ≡ its → is_apart p.sectors g.sectors ≡ true
  kept_apart p q id = ap (λ (ss : List ℕ). is_apart ss g.sectors) q.2.sectors ∙ turned g.sectors q.0.1.sectors (by d.lies_grown)
    where
      among : Contains before q.0.1
      among = left_among x.nodes y x.listings d.edit h d.is_edit q.0 q.1

      -- its identifier
      same : id_of q.0.1.entry.address ≡ its
      same = sym (ap id_of q.2.address) ∙ id

      by : GrowsInside x g ⊎ GrowsAnew x g ⊎ GrowsAway x g → is_apart g.sectors q.0.1.sectors ≡ true
      by (inl i) = room_apart i q.0.1 among (left_other q.0 q.1)
      by (inr (inl a)) =
          apart_from g.sectors q.0.1.sectors (λ n i j. left_elsewhere q.0 q.1 a.alone a.address (subst (λ (k : ℕ). is_owner_of k q.0.1 ≡ true) same (owns q.0.1 n j)))
      by (inr (inr w)) =
          apart_from g.sectors q.0.1.sectors
          (λ n i j. clash (is_used x.m its) (owner_used q.0.1 among its (subst (λ (k : ℕ). is_owner_of k q.0.1 ≡ true) same (owns q.0.1 n j))) w.is_new)

  joins_apart : (p : ℕ × Object) → Contains (joining d.edit) p → id_of p.1.entry.address ≡ its → is_apart p.1.sectors g.sectors ≡ true
  joins_apart p at id = ⊎_elim (λ q. kept_apart p.1 q id) (λ other. absurd (other id)) (d.apart p at)

  lies_still : (p : Object) → LiesAgain x.m x.nodes x.listings d.edit p → LiesAgain x.m x.nodes x.listings e' p
  lies_still p (inl q) = inl (q.0, members.still_leaves eg q.0 q.1, q.2)
  lies_still p (inr loose) = inr (loose.0, λ r s id. loose.1 r (members.stayed eg r s) id)

  -- ---- all of it

  pub places : SafePlaces move x.takings x.gone
  places = record {
    moves = refl;
    is_map = x.is_map;
    geometry = x.geometry;
    space = x.space;
    gives = d.gives;
    movable = x.movable;
    inside = members.joins_either eg (λ (p : Object). is_moved (moves_in x) p ≡ true → LiesInside move p ⊎ LiesAlone move p) its_inside
        (λ p at m. let i = d.inside p at m in inl (record { before = i.0; reaches = i.1 }));
    placed = members.joins_either eg (λ (p : Object). is_moved (moves_in x) p ≡ false → IsAt y' p) its_placed d.placed;
    reach_staying = d.reaches;
    lies = members.joins_either eg (LiesAgain x.m x.nodes x.listings e') its_lies (λ p at. lies_still p.1 (d.lie p at));
    pairs = members.apart_joining eg d.pairs joins_apart;
  }

  abbrev pub parts : SafeParts
  parts = record {
    kind = x.kind;
    move = move;
    owners = x.owners;
    owners' = x.owners';
    root = x.root;
    takings = x.takings;
    gone = x.gone;
    agreed = x.agreed;
    can = law.can_say eg d.can;
    owners_edited = law.owners_as eg (Layout.New x.m') x.owners x.owners' d.owners_edited;
    places = places;
  }

  pub agrees' : Agree x.kind (parts_with x.m' x.nodes' x.owners')
  agrees' = let now = safe_parts_law parts in agreed_law.agree x.kind x.m' x.nodes' x.owners' now.root now.found now.agree
