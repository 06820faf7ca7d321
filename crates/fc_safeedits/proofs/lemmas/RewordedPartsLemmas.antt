-- `set` and `mark` in the safe mode, in memory.
use Rattle.std.proofs.Common.{◌≡◌, ◌⊎◌, inl, inr, ⊎_elim, ℕ, ◌-◌, ◌*◌, ◌/◌, Bool, true, false, not, cond, ◌&&◌, ◌||◌, List, [], ◌∷◌, ◌++◌, length, refl, sym, ap, ap₂, subst, ◌∙◌, Some, eq-eqb}
use Rattle.std.specs.Prelude.{Contains, nat_lt, ◌==◌}
use Rattle.std.proofs.lemmas.Bool.{eqb-true}
use Rattle.fc_record.specs.declared.Geometry.{Geometry}
use Rattle.fc_newmap.specs.Map.{Map, is_used}
use Rattle.fc_dirs.specs.Directory.{directory_size}
use Rattle.fc_alloc.specs.declared.owner.Owner.{Owner}
use Rattle.fc_image.specs.Layout.{Layout, dir_form, id_of, sectors_at}
use Rattle.fc_image.specs.Walk.{Object, object_size}
use Rattle.fc_image.specs.Objects.{is_owned, is_owner_of, objects_of}
use Rattle.fc_image.specs.Edits.{IsAt}
use Rattle.fc_image.specs.MapEdits.{KeepsPlace}
use Rattle.fc_image.proofs.MapEditLemmas.{places_law}
use Rattle.fc_tree.specs.Nodes.{number_of}
use Rattle.fc_tree.specs.Parts.{first_in}
use Rattle.fc_tree.proofs.MemberLemmas.{contains_here, no_element}
use Rattle.fc_tree.proofs.WalkedLemmas.{same_some}
use Rattle.fc_changes.proofs.BasicLemmas.{not_zero}
use Rattle.fc_changes.proofs.ChangeLemmas.{a_sector}
use Rattle.fc_tree.specs.Agree.{Agree}
use Rattle.fc_laws.specs.nodes.Edits.{OwnersEdited}
use Rattle.fc_laws.specs.agree.Agreed.{parts_with}
use Rattle.fc_laws.specs.nodes.Laws.{IsHeld}
use Rattle.fc_laws.proofs.lemmas.agree.BeforeLemmas.{agreed_law, new_shape, object_lies}
use Rattle.fc_edits.specs.Edit.{TopStays, owners_joined, owners_left}
use Rattle.fc_edits.specs.NewPlaces.{LiesAgain, is_taken}
use Rattle.fc_edits.specs.Rewording.{Rewording, edit}
use Rattle.fc_edits.proofs.lemmas.IdentifierLemmas.{used_of}
use Rattle.fc_edits.proofs.lemmas.NewPlaceLemmas.{owned_by, runs_keep}
use Rattle.fc_edits.proofs.lemmas.RewordingLemmas as memory
use Rattle.fc_edits.proofs.lemmas.ShapeLemmas.{not_own, of_one}
use Rattle.fc_safeedits.specs.Relocation.{Relocation, is_moved}
use Rattle.fc_safeedits.specs.SafeChange.{MovedParts, moves_in}
use Rattle.fc_safeedits.specs.SafeParts.{SafeParts}
use Rattle.fc_safeedits.specs.SafePlaces.{LiesAlone, LiesInside, SafePlaces}
use Rattle.fc_safeedits.specs.SafeRewording.{RewordedParts}
use Rattle.fc_safeedits.proofs.lemmas.RelocatedOwnersLemmas.{owner_same}
use Rattle.fc_safeedits.proofs.lemmas.SafeChangeLemmas.{held}
use Rattle.fc_safeedits.proofs.lemmas.SafePartsLemmas.{safe_parts_law}
use Rattle.fc_safeedits.proofs.lemmas.SafePlacesLemmas.{reaches_by}
use Rattle.fc_changes.proofs.NewPlaceLemmas.{some_there}

module _ (x : MovedParts) (d : RewordedParts x) where
  abbrev c : Rewording
  c = d.c

  abbrev y : Layout
  y = Layout.New x.m

  abbrev y' : Layout
  y' = Layout.New x.m'

  pub h : IsHeld x.nodes y x.listings
  h = held x

  abbrev listed : List Object
  listed = objects_of x.listings

  pub o_in : Contains listed c.o
  o_in = memory.o_in x.nodes y x.listings c h d.reworded

  pub l_in : Contains x.listings c.l
  l_in = memory.l_in x.nodes y x.listings c h d.reworded

  -- of each object the size that it had
  pub size_same : (m : Map) (o : Object) → object_size (dir_form (Layout.New m)) (c.turn o).entry ≡ object_size (dir_form (Layout.New m)) o.entry
  size_same m o = ap₂ (λ (b : Bool) (k : ℕ). cond b (directory_size (dir_form (Layout.New m)) k) k) (d.reworded.rewording.kind o) (d.reworded.rewording.len o)

  pub address_same : (o : Object) → (c.turn o).entry.address ≡ o.entry.address
  address_same = d.reworded.rewording.address

  pub moved_same : (o : Object) → is_moved (moves_in x) (c.turn o) ≡ is_moved (moves_in x) o
  moved_same o = ap (λ (a : ℕ). moves_in x (id_of a)) (address_same o)

  -- the directory itself stays as it is
  pub l_other : c.dir ≡ c.number → ⊥
  l_other = not_own x.nodes y x.listings c.l c.o c.dir c.number h l_in (memory.kid_in x.nodes y x.listings c h d.reworded) d.reworded.dir_is d.reworded.number_is

  pub l_stays : c.turn c.l.object ≡ c.l.object
  l_stays = memory.stays x.nodes y x.listings c h d.reworded c.l.object c.dir d.reworded.dir_is l_other

  pub o_other : c.l.object ≡ c.o → ⊥
  o_other same = l_other (same_some c.dir c.number (sym d.reworded.dir_is ∙ ap (λ (p : Object). number_of x.nodes p.path) same ∙ d.reworded.number_is))

  abbrev pub move : Relocation
  move = record {
    nodes = x.nodes;
    nodes' = x.nodes';
    m = x.m;
    m' = x.m';
    listings = x.listings;
    edit = edit c;
    moves = moves_in x;
    top = x.top;
    held = h;
    is_edit = memory.is_edit x.nodes y x.listings c h d.reworded;
    nodes_edited = d.nodes_edited;
    top_in = x.top_in;
    top_path = x.top_path;
    elsewhere = λ p at. absurd (no_element p at);
  }

  -- ---- places

  pub o_at : IsAt y (c.turn c.o)
  o_at =
      ap₂ (λ (a k : ℕ). sectors_at y a k) (address_same c.o) (size_same x.m c.o) ∙ (object_lies x.kind x.m x.nodes x.owners x.root x.listings x.agreed c.o o_in).placed
      ∙ ap (λ (ss : List ℕ). Some ss) (sym (d.reworded.rewording.sectors c.o))

  -- an identifier that an object of the edit owns, and that doesn't move, keeps its runs
  pub o_keeps : is_moved (moves_in x) (c.turn c.o) ≡ false → KeepsPlace x.m x.m' (c.turn c.o)
  o_keeps still = by (object_size (dir_form y) (c.turn c.o).entry == 0) refl
    where
      id : ℕ
      id = id_of (c.turn c.o).entry.address

      by : (b : Bool) → (object_size (dir_form y) (c.turn c.o).entry == 0) ≡ b → KeepsPlace x.m x.m' (c.turn c.o)
      by true none = inl (eqb-true (object_size (dir_form y) (c.turn c.o).entry) 0 none)
      by false some =
          let t = a_sector x.m (c.turn c.o).entry.address (object_size (dir_form y) (c.turn c.o).entry) (c.turn c.o).sectors (not_zero (object_size (dir_form y) (c.turn c.o).entry) some)
          (new_shape x.m x.agreed.is_map).some o_at in
          let own : is_owner_of id (c.turn c.o) ≡ true = ap₂ (λ (p q : Bool). p && q) (some_there (c.turn c.o).sectors t.0 t.1) (eq-eqb id id refl) in
          let own_was : is_owner_of id c.o ≡ true =
          ap₂ (λ (ss : List ℕ) (a : ℕ). nat_lt 0 (length ss) && (id_of a == id)) (sym (d.reworded.rewording.sectors c.o)) (sym (address_same c.o)) ∙ own in
          let used : is_used x.m id ≡ true = used_of x.kind x.m x.nodes x.owners x.root x.listings x.agreed c.o o_in id own_was in
          let not_taken : is_taken x.takings id ≡ false = not_both (is_taken x.takings id) (is_used x.m id) still used in
          let owned_now : is_owned (c.turn c.o ∷ d.gives.stay) id ≡ true = owned_by (c.turn c.o ∷ d.gives.stay) id (c.turn c.o) (contains_here (c.turn c.o) d.gives.stay) own in
          inr (runs_keep x.m x.m' x.takings x.gone x.listings (edit c) id x.space d.gives used
          (d.gives.exactly id used ∙ ap₂ (λ (p q : Bool). p || q) (ap (λ (p : Bool). is_owned listed id && not p) owned_now ∙ and_not (is_owned listed id)) not_taken))
        where
          not_both : (a b : Bool) → (a && b) ≡ false → b ≡ true → a ≡ false
          not_both true true e f = absurd (cc)
          not_both true false e f = absurd (cc)
          not_both false b e f = refl

          and_not : (a : Bool) → (a && not true) ≡ false
          and_not true = refl
          and_not false = refl

  pub places : SafePlaces move x.takings x.gone
  places = record {
    moves = refl;
    is_map = x.is_map;
    geometry = x.geometry;
    space = x.space;
    gives = d.gives;
    movable = x.movable;
    inside = of_one (λ (p : ℕ × Object). is_moved (moves_in x) p.1 ≡ true → LiesInside move p.1 ⊎ LiesAlone move p.1) (c.number, c.turn c.o)
        (λ m. inl (record { before = o_at; reaches = reaches_by x.m' c.o (c.turn c.o) (address_same c.o) (size_same x.m' c.o) (d.reaches c.o o_in (sym (moved_same c.o) ∙ m)) }));
    placed = of_one (λ (p : ℕ × Object). is_moved (moves_in x) p.1 ≡ false → IsAt y' p.1) (c.number, c.turn c.o) (λ still. places_law x.m x.m' (c.turn c.o) x.geometry (o_keeps still) o_at);
    reach_staying = λ o s m. d.reaches o s.among m;
    lies = of_one (λ (p : ℕ × Object). LiesAgain x.m x.nodes x.listings (edit c) p.1) (c.number, c.turn c.o)
        (inl ((c.number, c.o), contains_here (c.number, c.o) [], record { sectors = d.reworded.rewording.sectors c.o; address = address_same c.o }));
    pairs = ((λ p none. absurd (no_element p none)), tt);
  }

  pub owners_now : OwnersEdited x.owners x.owners' (owners_left y (edit c)) (owners_joined y' (edit c))
  owners_now =
      let same : owners_joined y' (edit c) ≡ owners_joined y (edit c) = ap (λ (os : List Owner). (os ++ []) ++ []) (owner_same y y' c.dir c.number (c.turn c.o) (c.turn c.o) first refl refl) in
      subst (λ (ws : List Owner). OwnersEdited x.owners ws (owners_left y (edit c)) (owners_joined y' (edit c))) (sym d.owners_stay)
      (subst (OwnersEdited x.owners x.owners (owners_left y (edit c))) (sym same) (memory.owners_as x.nodes y x.listings c h d.reworded x.owners x.agreed.owned))
    where
      first : (low : ℕ) → first_in y' low ≡ first_in y low
      first low = ap (λ (g : Geometry). (low - 1) * (g.share / g.sector)) x.geometry

  pub top_stays : TopStays (edit c) x.top
  top_stays = ⊎_elim (λ t. t) (λ t. absurd (let gone = t.leaves in cc)) ((memory.is_edit x.nodes y x.listings c h d.reworded).top x.top x.top_in x.top_path)

  pub l_moves : is_moved (moves_in x) (c.turn c.l.object) ≡ true
  l_moves = moved_same c.l.object ∙ d.moves

  abbrev pub parts : SafeParts
  parts = record {
    kind = x.kind;
    move = move;
    owners = x.owners;
    owners' = x.owners';
    root = x.root;
    takings = x.takings;
    gone = x.gone;
    agreed = x.agreed;
    can = memory.can_say x.nodes y x.listings c d.reworded;
    owners_edited = owners_now;
    places = places;
  }

  pub agrees' : Agree x.kind (parts_with x.m' x.nodes' x.owners')
  agrees' = let now = safe_parts_law parts in agreed_law.agree x.kind x.m' x.nodes' x.owners' now.root now.found now.agree
