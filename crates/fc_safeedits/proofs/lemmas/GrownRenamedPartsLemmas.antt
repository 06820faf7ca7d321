-- `rename` into a directory that grows by it, in the safe mode, in memory.
use Rattle.std.proofs.Common.{◌≡◌, ◌⊎◌, inl, inr, ℕ, Bool, true, false, not, cond, ◌&&◌, ◌||◌, List, [], ◌++◌, length, refl, sym, ap, ap₂, subst, ◌∙◌, Some, eq-eqb}
use Rattle.std.specs.Prelude.{Contains, nat_lt, ◌==◌}
use Rattle.std.proofs.lemmas.Bool.{eqb-true}
use Rattle.std.proofs.lemmas.List.Elements.{Contains-append_left}
use Rattle.fc_names.specs.Names.{is_same_path}
use Rattle.fc_newmap.specs.Map.{Map, is_used}
use Rattle.fc_dirs.specs.Directory.{directory_size}
use Rattle.fc_image.specs.Layout.{Layout, dir_form, id_of, sectors_at}
use Rattle.fc_image.specs.Walk.{Object, object_size}
use Rattle.fc_image.specs.Objects.{is_owned, is_owner_of, objects_of}
use Rattle.fc_image.specs.Edits.{IsAt}
use Rattle.fc_image.specs.MapEdits.{KeepsPlace}
use Rattle.fc_image.proofs.MapEditLemmas.{places_law}
use Rattle.fc_tree.proofs.MemberLemmas.{contains_here, in_map, no_element}
use Rattle.fc_changes.proofs.BasicLemmas.{not_zero}
use Rattle.fc_changes.proofs.ChangeLemmas.{a_sector}
use Rattle.fc_changes.proofs.NewPlaceLemmas.{some_there}
use Rattle.fc_laws.specs.nodes.Laws.{IsHeld}
use Rattle.fc_laws.proofs.lemmas.agree.BeforeLemmas.{new_shape, object_lies}
use Rattle.fc_laws.proofs.lemmas.nodes.OtherLemmas.{unlike}
use Rattle.fc_edits.specs.Edit.{joining, objects}
use Rattle.fc_edits.specs.Growing.{EditGrowing, Growing}
use Rattle.fc_edits.specs.GrownMoving.{grown_edit}
use Rattle.fc_edits.specs.GrownPlaces.{KeepsPlaceOf}
use Rattle.fc_edits.specs.Moving.{Moving, edit, moved}
use Rattle.fc_edits.specs.NewPlaces.{ApartInOne, LiesAgain, is_taken}
use Rattle.fc_edits.proofs.lemmas.GrownMemberLemmas as members
use Rattle.fc_edits.proofs.lemmas.GrownMovingLemmas.{can_new, with_it}
use Rattle.fc_edits.proofs.lemmas.IdentifierLemmas.{used_of}
use Rattle.fc_edits.proofs.lemmas.MovesLemmas as memory
use Rattle.fc_edits.proofs.lemmas.NewPlaceLemmas.{owned_by, runs_keep}
use Rattle.fc_edits.proofs.lemmas.ShapeLemmas.{only}
use Rattle.fc_edits.proofs.lemmas.StillLemmas.{IsStill}
use Rattle.fc_safelaws.specs.Relaid.{Reaches}
use Rattle.fc_safeedits.specs.Relocation.{is_moved}
use Rattle.fc_safeedits.specs.SafeChange.{MovedParts, moves_in}
use Rattle.fc_safeedits.proofs.lemmas.SafeChangeLemmas.{held}
use Rattle.fc_safeedits.proofs.lemmas.SafePlacesLemmas.{reaches_by}
use Rattle.fc_safeedits.specs.SafeGrownMoving.{GrownRenamedParts}
use Rattle.fc_safeedits.proofs.lemmas.GrowingPlacesLemmas.{SafeGrowing}

module _ (x : MovedParts) (d : GrownRenamedParts x) where
  abbrev c : Moving
  c = d.c

  abbrev g : Growing
  g = d.growing

  abbrev y : Layout
  y = Layout.New x.m

  abbrev y' : Layout
  y' = Layout.New x.m'

  -- the object with its new path
  abbrev p : Object
  p = moved c c.o

  abbrev h : IsHeld x.nodes y x.listings
  h = held x

  abbrev eg : EditGrowing
  eg = with_it x.nodes y x.listings c g h d.moving d.grows

  pub still : IsStill x.listings (edit d.c) d.c.number d.c.o (moved d.c d.c.o)
  still = memory.is_still x.nodes y x.listings c h d.moving

  pub o_in : Contains (objects_of x.listings) d.c.o
  o_in = still.among

  -- what holds of the one that joins
  pub of_it : (P : ℕ × Object → Type 0) → P (d.c.number, moved d.c d.c.o) → (q : ℕ × Object) → Contains (joining (edit d.c)) q → P q
  of_it P is q at = subst P (only (c.number, p) q (subst (λ (qs : List (ℕ × Object)). Contains qs q) still.joins at)) is

  -- it isn't the directory that grows
  pub o_other : is_same_path d.growing.o.path d.c.o.path ≡ false
  o_other =
      unlike x.nodes g.o.path c.o.path g.dir c.number d.grows.dir_is d.moving.number_is (λ same. memory.others x.nodes y x.listings c h d.moving g.dir (members.dir_stays eg) same)

  size_same : (m : Map) → object_size (dir_form (Layout.New m)) p.entry ≡ object_size (dir_form (Layout.New m)) c.o.entry
  size_same m = ap₂ (λ (b : Bool) (k : ℕ). cond b (directory_size (dir_form (Layout.New m)) k) k) still.attrs still.len

  -- ---- its place

  pub o_at : IsAt (Layout.New x.m) (moved d.c d.c.o)
  o_at =
      ap₂ (λ (a k : ℕ). sectors_at y a k) still.address (size_same x.m) ∙ (object_lies x.kind x.m x.nodes x.owners x.root x.listings x.agreed c.o o_in).placed
      ∙ ap (λ (ss : List ℕ). Some ss) (sym still.sectors)

  joins_now : Contains (objects (joining (grown_edit c g))) p
  joins_now =
      in_map (λ (q : ℕ × Object). q.1) (joining (grown_edit c g)) (c.number, p)
      (members.still_joins eg (c.number, p) (subst (λ (qs : List (ℕ × Object)). Contains qs (c.number, p)) (sym still.joins) (contains_here (c.number, p) [])))

  -- its identifier keeps its runs if it doesn't move
  o_keeps : is_moved (moves_in x) p ≡ false → KeepsPlace x.m x.m' p
  o_keeps stays = by (object_size (dir_form y) p.entry == 0) refl
    where
      id : ℕ
      id = id_of p.entry.address

      by : (b : Bool) → (object_size (dir_form y) p.entry == 0) ≡ b → KeepsPlace x.m x.m' p
      by true none = inl (eqb-true (object_size (dir_form y) p.entry) 0 none)
      by false some =
          let t = a_sector x.m p.entry.address (object_size (dir_form y) p.entry) p.sectors (not_zero (object_size (dir_form y) p.entry) some) (new_shape x.m x.agreed.is_map).some o_at in
          let own : is_owner_of id p ≡ true = ap₂ (λ (a b : Bool). a && b) (some_there p.sectors t.0 t.1) (eq-eqb id id refl) in
          let own_was : is_owner_of id c.o ≡ true = ap₂ (λ (ss : List ℕ) (a : ℕ). nat_lt 0 (length ss) && (id_of a == id)) (sym still.sectors) (sym still.address) ∙ own in
          let used : is_used x.m id ≡ true = used_of x.kind x.m x.nodes x.owners x.root x.listings x.agreed c.o o_in id own_was in
          let not_taken : is_taken x.takings id ≡ false = not_both (is_taken x.takings id) (is_used x.m id) stays used in
          let after : List Object = objects (joining (grown_edit c g)) ++ d.gives.stay in
          let owned : is_owned after id ≡ true = owned_by after id p (Contains-append_left (objects (joining (grown_edit c g))) d.gives.stay p joins_now) own in
          inr (runs_keep x.m x.m' x.takings x.gone x.listings (grown_edit c g) id x.space d.gives used
          (d.gives.exactly id used ∙ ap₂ (λ (a b : Bool). a || b) (ap (λ (a : Bool). is_owned (objects_of x.listings) id && not a) owned ∙ and_not (is_owned (objects_of x.listings) id)) not_taken))
        where
          not_both : (a b : Bool) → (a && b) ≡ false → b ≡ true → a ≡ false
          not_both true true e f = absurd (cc)
          not_both true false e f = absurd (cc)
          not_both false b e f = refl

          and_not : (a : Bool) → (a && not true) ≡ false
          and_not true = refl
          and_not false = refl

  pub o_inside : is_moved (moves_in x) (moved d.c d.c.o) ≡ true → IsAt (Layout.New x.m) (moved d.c d.c.o) × Reaches x.m' (moved d.c d.c.o)
  o_inside m = (o_at, reaches_by x.m' c.o p still.address (size_same x.m') (d.reaches c.o o_in o_other m))

  pub o_placed : is_moved (moves_in x) (moved d.c d.c.o) ≡ false → IsAt (Layout.New x.m') (moved d.c d.c.o)
  o_placed stays = places_law x.m x.m' p x.geometry (o_keeps stays) o_at

  -- it keeps its place
  pub o_kept : KeepsPlaceOf (edit d.c) (moved d.c d.c.o)
  o_kept = ((c.number, c.o), subst (λ (qs : List (ℕ × Object)). Contains qs (c.number, c.o)) (sym still.leaves) (contains_here (c.number, c.o) []), record { sectors = still.sectors; address = still.address })

  pub alone : ApartInOne (objects (joining (edit d.c)))
  alone = subst (λ (qs : List (ℕ × Object)). ApartInOne (objects qs)) (sym still.joins) ((λ q none. absurd (no_element q none)), tt)

  abbrev pub grows : SafeGrowing x
  grows = record {
    edit = edit d.c;
    growing = d.growing;
    is_edit = memory.is_edit x.nodes (Layout.New x.m) x.listings d.c (held x) d.moving;
    has_numbers = memory.has_numbers x.nodes (Layout.New x.m) x.listings d.c (held x) d.moving;
    grows = d.grows;
    can = can_new (Layout.New x.m) d.c;
    nodes_edited = d.nodes_edited;
    owners_edited = d.owners_edited;
    gives = d.gives;
    some = d.some;
    lies_grown = d.lies_grown;
    elsewhere = λ q at. absurd (no_element q at);
    inside = of_it (λ (q : ℕ × Object). is_moved (moves_in x) q.1 ≡ true → IsAt (Layout.New x.m) q.1 × Reaches x.m' q.1) o_inside;
    placed = of_it (λ (q : ℕ × Object). is_moved (moves_in x) q.1 ≡ false → IsAt (Layout.New x.m') q.1) o_placed;
    lie = of_it (λ (q : ℕ × Object). LiesAgain x.m x.nodes x.listings (edit d.c) q.1) (inl o_kept);
    pairs = alone;
    apart = of_it (λ (q : ℕ × Object). KeepsPlaceOf (edit d.c) q.1 ⊎ (id_of q.1.entry.address ≡ id_of d.growing.address → ⊥)) (inl o_kept);
    reaches = λ o s m.
        d.reaches o s.among
        (unlike x.nodes d.growing.o.path o.path d.growing.dir s.number d.grows.dir_is s.number_is
        (λ same. members.stays_other (with_it x.nodes (Layout.New x.m) x.listings d.c d.growing (held x) d.moving d.grows) o s (sym same)))
        m;
  }
