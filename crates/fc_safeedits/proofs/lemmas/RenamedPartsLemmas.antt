-- `rename` in the safe mode, in memory.
use Rattle.std.proofs.Common.{◌≡◌, ◌⊎◌, inl, inr, ⊎_elim, ℕ, Bool, true, false, not, cond, ◌&&◌, ◌||◌, List, [], ◌∷◌, ◌++◌, length, refl, sym, ap, ap₂, subst, ◌∙◌, Some, eq-eqb}
use Rattle.std.specs.Prelude.{Contains, nat_lt, ◌==◌}
use Rattle.std.proofs.lemmas.Bool.{eqb-true}
use Rattle.fc_newmap.specs.Map.{Map, is_used}
use Rattle.fc_dirs.specs.Directory.{directory_size}
use Rattle.fc_image.specs.Layout.{Layout, dir_form, id_of, sectors_at}
use Rattle.fc_image.specs.Walk.{Object, object_size}
use Rattle.fc_image.specs.Objects.{is_owned, is_owner_of, objects_of}
use Rattle.fc_image.specs.Edits.{IsAt}
use Rattle.fc_image.specs.MapEdits.{KeepsPlace}
use Rattle.fc_image.proofs.MapEditLemmas.{places_law}
use Rattle.fc_tree.specs.Agree.{Agree}
use Rattle.fc_tree.proofs.MemberLemmas.{contains_here, no_element}
use Rattle.fc_changes.proofs.BasicLemmas.{not_zero}
use Rattle.fc_changes.proofs.ChangeLemmas.{a_sector}
use Rattle.fc_changes.proofs.NewPlaceLemmas.{some_there}
use Rattle.fc_laws.specs.agree.Agreed.{parts_with}
use Rattle.fc_laws.specs.nodes.Laws.{IsHeld}
use Rattle.fc_laws.proofs.lemmas.agree.BeforeLemmas.{agreed_law, new_shape, object_lies}
use Rattle.fc_edits.specs.Edit.{TopStays, joining, objects}
use Rattle.fc_edits.specs.Moving.{Moving, edit, moved}
use Rattle.fc_edits.specs.NewPlaces.{ApartInOne, LiesAgain, is_taken}
use Rattle.fc_edits.proofs.lemmas.IdentifierLemmas.{used_of}
use Rattle.fc_edits.proofs.lemmas.MovingLemmas as memory
use Rattle.fc_edits.proofs.lemmas.NewPlaceLemmas.{owned_by, runs_keep}
use Rattle.fc_edits.proofs.lemmas.ShapeLemmas.{only}
use Rattle.fc_edits.proofs.lemmas.StillLemmas.{IsStill}
use Rattle.fc_safeedits.specs.Relocation.{Relocation, is_moved}
use Rattle.fc_safeedits.specs.SafeChange.{MovedParts, moves_in}
use Rattle.fc_safeedits.specs.SafeParts.{SafeParts}
use Rattle.fc_safeedits.specs.SafePlaces.{LiesAlone, LiesInside, SafePlaces}
use Rattle.fc_safeedits.proofs.lemmas.SafeChangeLemmas.{held}
use Rattle.fc_safeedits.proofs.lemmas.SafePartsLemmas.{safe_parts_law}
use Rattle.fc_safeedits.proofs.lemmas.SafePlacesLemmas.{reaches_by}
use Rattle.fc_safeedits.specs.SafeMoving.{RenamedParts}

module _ (x : MovedParts) (d : RenamedParts x) where
  abbrev c : Moving
  c = d.c

  abbrev y : Layout
  y = Layout.New x.m

  abbrev y' : Layout
  y' = Layout.New x.m'

  -- the object with its new path
  abbrev p : Object
  p = moved c c.o

  pub h : IsHeld x.nodes y x.listings
  h = held x

  still : IsStill x.listings (edit c) c.number c.o p
  still = memory.is_still x.nodes y x.listings c h d.moving

  pub joins : joining (edit c) ≡ (c.number, p) ∷ []
  joins = still.joins

  pub o_in : Contains (objects_of x.listings) c.o
  o_in = still.among

  -- what holds of the one that joins
  of_it : (P : ℕ × Object → Type 0) → P (c.number, p) → (q : ℕ × Object) → Contains (joining (edit c)) q → P q
  of_it P is q at = subst P (only (c.number, p) q (subst (λ (qs : List (ℕ × Object)). Contains qs q) joins at)) is

  size_same : (m : Map) → object_size (dir_form (Layout.New m)) p.entry ≡ object_size (dir_form (Layout.New m)) c.o.entry
  size_same m = ap₂ (λ (b : Bool) (k : ℕ). cond b (directory_size (dir_form (Layout.New m)) k) k) still.attrs still.len

  moved_same : is_moved (moves_in x) p ≡ is_moved (moves_in x) c.o
  moved_same = ap (λ (a : ℕ). moves_in x (id_of a)) still.address

  abbrev pub move : Relocation
  move = record {
    nodes = x.nodes;
    nodes' = x.nodes';
    m = x.m;
    m' = x.m';
    listings = x.listings;
    edit = edit c;
    moves = moves_in x;
    top = x.top;
    held = h;
    is_edit = memory.is_edit x.nodes y x.listings c h d.moving;
    nodes_edited = d.nodes_edited;
    top_in = x.top_in;
    top_path = x.top_path;
    elsewhere = λ q at. absurd (no_element q at);
  }

  -- ---- places

  o_at : IsAt y p
  o_at =
      ap₂ (λ (a k : ℕ). sectors_at y a k) still.address (size_same x.m) ∙ (object_lies x.kind x.m x.nodes x.owners x.root x.listings x.agreed c.o o_in).placed
      ∙ ap (λ (ss : List ℕ). Some ss) (sym still.sectors)

  -- its identifier keeps its runs if it doesn't move
  o_keeps : is_moved (moves_in x) p ≡ false → KeepsPlace x.m x.m' p
  o_keeps stays = by (object_size (dir_form y) p.entry == 0) refl
    where
      id : ℕ
      id = id_of p.entry.address

      by : (b : Bool) → (object_size (dir_form y) p.entry == 0) ≡ b → KeepsPlace x.m x.m' p
      by true none = inl (eqb-true (object_size (dir_form y) p.entry) 0 none)
      by false some =
          let t = a_sector x.m p.entry.address (object_size (dir_form y) p.entry) p.sectors (not_zero (object_size (dir_form y) p.entry) some) (new_shape x.m x.agreed.is_map).some o_at in
          let own : is_owner_of id p ≡ true = ap₂ (λ (a b : Bool). a && b) (some_there p.sectors t.0 t.1) (eq-eqb id id refl) in
          let own_was : is_owner_of id c.o ≡ true = ap₂ (λ (ss : List ℕ) (a : ℕ). nat_lt 0 (length ss) && (id_of a == id)) (sym still.sectors) (sym still.address) ∙ own in
          let used : is_used x.m id ≡ true = used_of x.kind x.m x.nodes x.owners x.root x.listings x.agreed c.o o_in id own_was in
          let not_taken : is_taken x.takings id ≡ false = not_both (is_taken x.takings id) (is_used x.m id) stays used in
          let owned_now : is_owned (p ∷ d.gives.stay) id ≡ true = owned_by (p ∷ d.gives.stay) id p (contains_here p d.gives.stay) own in
          let owned_joined : is_owned (objects (joining (edit c)) ++ d.gives.stay) id ≡ true = ap (λ (qs : List (ℕ × Object)). is_owned (objects qs ++ d.gives.stay) id) joins ∙ owned_now in
          inr (runs_keep x.m x.m' x.takings x.gone x.listings (edit c) id x.space d.gives used
          (d.gives.exactly id used ∙ ap₂ (λ (a b : Bool). a || b) (ap (λ (a : Bool). is_owned (objects_of x.listings) id && not a) owned_joined ∙ and_not (is_owned (objects_of x.listings) id)) not_taken))
        where
          not_both : (a b : Bool) → (a && b) ≡ false → b ≡ true → a ≡ false
          not_both true true e f = absurd (cc)
          not_both true false e f = absurd (cc)
          not_both false b e f = refl

          and_not : (a : Bool) → (a && not true) ≡ false
          and_not true = refl
          and_not false = refl

  pub places : SafePlaces move x.takings x.gone
  places = record {
    moves = refl;
    is_map = x.is_map;
    geometry = x.geometry;
    space = x.space;
    gives = d.gives;
    movable = x.movable;
    inside = of_it (λ (q : ℕ × Object). is_moved (moves_in x) q.1 ≡ true → LiesInside move q.1 ⊎ LiesAlone move q.1)
        (λ m. inl (record { before = o_at; reaches = reaches_by x.m' c.o p still.address (size_same x.m') (d.reaches c.o o_in (sym moved_same ∙ m)) }));
    placed = of_it (λ (q : ℕ × Object). is_moved (moves_in x) q.1 ≡ false → IsAt y' q.1) (λ stays. places_law x.m x.m' p x.geometry (o_keeps stays) o_at);
    reach_staying = λ o s m. d.reaches o s.among m;
    lies = of_it (λ (q : ℕ × Object). LiesAgain x.m x.nodes x.listings (edit c) q.1)
        (inl ((c.number, c.o), subst (λ (qs : List (ℕ × Object)). Contains qs (c.number, c.o)) (sym still.leaves) (contains_here (c.number, c.o) []), record { sectors = still.sectors; address = still.address }));
    pairs = subst (λ (qs : List (ℕ × Object)). ApartInOne (objects qs)) (sym joins) ((λ q none. absurd (no_element q none)), tt);
  }

  pub top_stays : TopStays (edit c) x.top
  top_stays = ⊎_elim (λ t. t) (λ t. absurd (let gone = t.leaves in cc)) ((memory.is_edit x.nodes y x.listings c h d.moving).top x.top x.top_in x.top_path)

  abbrev pub parts : SafeParts
  parts = record {
    kind = x.kind;
    move = move;
    owners = x.owners;
    owners' = x.owners';
    root = x.root;
    takings = x.takings;
    gone = x.gone;
    agreed = x.agreed;
    can = memory.can_say x.nodes y x.listings c d.moving;
    owners_edited = d.owners_edited;
    places = places;
  }

  pub agrees' : Agree x.kind (parts_with x.m' x.nodes' x.owners')
  agrees' = let now = safe_parts_law parts in agreed_law.agree x.kind x.m' x.nodes' x.owners' now.root now.found now.agree
