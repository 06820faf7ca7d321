-- `rename` without a copy, into a directory that grows by it, on images: what is written, and what moves.
use Rattle.std.proofs.Common.{◌≡◌, inl, ⊎_elim, ℕ, Bool, true, false, cond, List, [], ◌∷◌, refl, sym, ap, subst, ◌∙◌, None, Option, Some}
use Rattle.std.specs.Prelude.{Contains}
use Rattle.fc_names.specs.Names.{Path, is_same_path}
use Rattle.fc_image.specs.Layout.{Layout, is_among, sector_bytes}
use Rattle.fc_image.specs.Walk.{Listing, Object, is_directory_object}
use Rattle.fc_image.specs.Objects.{objects_of}
use Rattle.fc_image.specs.Commanded.{IsMoved}
use Rattle.fc_image.specs.Stays.{HasSectorsOf}
use Rattle.fc_image.proofs.HolesLemmas.{apart_at}
use Rattle.fc_tree.specs.Nodes.{number_of}
use Rattle.fc_tree.proofs.MemberLemmas.{contains_here, no_element}
use Rattle.fc_tree.proofs.WalkedLemmas.{listed_directory}
use Rattle.fc_changes.proofs.BasicLemmas.{clash}
use Rattle.fc_laws.specs.nodes.Laws.{IsHeld}
use Rattle.fc_laws.proofs.lemmas.nodes.FitsLemmas.{one_number}
use Rattle.fc_laws.proofs.lemmas.nodes.OtherLemmas.{unlike}
use Rattle.fc_edits.specs.Edit.{Amended, Edit, joining, leaving, numbers, objects}
use Rattle.fc_edits.specs.Growing.{EditGrowing, Growing, Holder, at_place, grown_by}
use Rattle.fc_edits.specs.GrownMoving.{NewGrownMoving, grown_edit}
use Rattle.fc_edits.specs.GrownPlaces.{NewGrowing}
use Rattle.fc_edits.specs.Moving.{edit, moved, new_path}
use Rattle.fc_edits.specs.NodesEdit.{NodesEdit}
use Rattle.fc_edits.specs.PartsEdit.{NewPartsEdit}
use Rattle.fc_edits.proofs.lemmas.AgreeLemmas as ag
use Rattle.fc_edits.proofs.lemmas.AroundLemmas as ar
use Rattle.fc_edits.proofs.lemmas.GrowingLawLemmas as law
use Rattle.fc_edits.proofs.lemmas.GrowingLemmas.{its_path, its_turn, o_directory, other_turn}
use Rattle.fc_edits.proofs.lemmas.GrownMemberLemmas as members
use Rattle.fc_edits.proofs.lemmas.GrownMovingLemmas as gm
use Rattle.fc_edits.proofs.lemmas.GrownPlaceLemmas as place
use Rattle.fc_edits.proofs.lemmas.MovesLemmas as m_
use Rattle.fc_edits.proofs.lemmas.NewAgreeLemmas as na
use Rattle.fc_edits.proofs.lemmas.NumberLemmas as n_
use Rattle.fc_edits.proofs.lemmas.ShapeLemmas.{only}
use Rattle.fc_outcomes.specs.GrownMoving.{NewGrownMovingWritten}
use Rattle.fc_outcomes.specs.NewImage.{NewImageEdit}
use Rattle.fc_outcomes.specs.Puts.{ArePutsOf, Put}
use Rattle.fc_outcomes.specs.Written.{MovesPaths}
use Rattle.fc_outcomes.proofs.lemmas.GrownImageLemmas as gi
use Rattle.fc_outcomes.proofs.lemmas.GrownMovingMayLemmas.{moved_apart}
use Rattle.fc_outcomes.proofs.lemmas.UnwrittenLemmas.{never_written, one_of_both, turned_bytes}
use Rattle.fc_image.proofs.EntriesLemmas.{cases as contains_cases}

module _ (x : NewGrownMoving) (from to : Path) (puts : List Put) (image image' : List ℕ) (wr : NewGrownMovingWritten x from to puts image image') where
  abbrev pub ng : NewGrowing
  ng = gm.as_growing x

  abbrev pub eg : EditGrowing
  eg = place.as_edit ng

  abbrev pub parts : NewPartsEdit
  parts = place.grown_parts ng

  abbrev pub e' : Edit
  e' = grown_edit x.c x.growing

  abbrev pub g : Growing
  g = x.growing

  abbrev pub y : Layout
  y = Layout.New x.m

  abbrev pub y' : Layout
  y' = Layout.New x.m'

  abbrev pub o : Object
  o = x.c.o

  abbrev pub h : IsHeld x.nodes (Layout.New x.m) x.listings
  h = gm.h x

  abbrev pub ne : NodesEdit
  ne = ag.ne (na.held_edit parts)

  pub among : Contains (objects_of x.listings) o
  among = gm.among x

  -- ---- the object isn't the directory

  pub o_other : is_same_path g.o.path o.path ≡ false
  o_other = unlike x.nodes g.o.path o.path g.dir x.c.number x.grows.dir_is x.moves.number_is (λ same. m_.others x.nodes y x.listings x.c h x.moves g.dir (members.dir_stays eg) same)

  pub o_turn : e'.turn o ≡ moved x.c o
  o_turn = other_turn eg o o_other

  pub o_joins : Contains (joining e') (x.c.number, moved x.c o)
  o_joins =
      let p : ℕ × Object = (x.c.number, moved x.c o) in
      members.still_joins eg p (subst (λ (ps : List (ℕ × Object)). Contains ps p) (sym (m_.joined_is x.nodes y x.listings x.c h x.moves)) (contains_here p []))

  pub at_rest : (k : Listing) → Contains g.same k → Contains x.c.rest k
  at_rest k at = ar.same_same eg g.holder x.grows.amended_is k at

  -- ---- the puts

  not_carried : (k : Listing) (n : ℕ) → Contains g.same k → number_of x.nodes k.object.path ≡ Some n → Contains (numbers (leaving (edit x.c))) n → ⊥
  not_carried k n at number_is left =
      let number = only x.c.number n (subst (λ (ps : List (ℕ × Object)). Contains (numbers ps) n) (m_.left_is x.nodes y x.listings x.c h x.moves) left) in
      let listed' = n_.stay_in ne k (n_.same_in ne k at) in
      x.moves.others k (at_rest k at)
      (one_number y x.listings x.nodes h.sound h.held k.object o n (listed_directory y x.listings h.sound k listed').0 among number_is (x.moves.number_is ∙ ap (λ (i : ℕ). Some i) number))

  pub puts_of : ArePutsOf (Layout.New x.m) (Layout.New x.m') x.nodes e' puts image image'
  puts_of = record {
    says = wr.written;
    into_say = λ d at. absurd (no_element d at);
    whose = λ p at. inl (wr.whose p at);
    carried = λ k n at number_is goes.
        absurd (⊎_elim (λ same. law.same_other eg k n at number_is (sym same)) (λ left. not_carried k n at number_is left) (members.leaves_either eg n goes));
  }

  abbrev pub on_new : NewImageEdit
  on_new = record {
    parts = parts;
    takings = x.own;
    gone = x.gone;
    r = wr.r;
    image = image;
    image' = image';
    puts = puts;
    new_kind = wr.new_kind;
    opens = wr.opens;
    places = place.grown_places ng;
    out = wr.out;
    puts_of = puts_of;
    root = gi.root_left ng wr.r image' wr.map;
  }

  -- ---- what moves

  -- No directory is written over a file that moves.
  file_same : is_directory_object o ≡ false → HasSectorsOf (sector_bytes y) o.sectors image image'
  file_same file = never_written (na.held_edit parts) puts image image' wr.out o among never
    where
      no_directory : (a : Amended) → Contains e'.amended a → a.was.object ≡ o → ⊥
      no_directory a at same =
          clash (is_directory_object o) (ap is_directory_object (sym same) ∙ (listed_directory y x.listings h.sound a.was (n_.stay_in ne a.was (n_.was_in ne a at))).1) file

      by : (a : Amended) (s : ℕ) → Contains e'.amended a → is_among o.sectors s ≡ true → (b : Bool)
          → is_among (let p : Object = cond b (at_place g (moved x.c a.was.object)) (moved x.c a.was.object) in p.sectors) s ≡ true → ⊥
      by a s at i true j = clash (is_among g.sectors s) j (apart_at o.sectors g.sectors s (moved_apart x from to image wr.opens wr.its) i)
      by a s at i false j =
          no_directory a at
          (one_of_both (na.held_edit parts) a.was.object o s (listed_directory y x.listings h.sound a.was (n_.stay_in ne a.was (n_.was_in ne a at))).0 among j i)

      never : (p : Put) (s : ℕ) → Contains puts p → is_among o.sectors s ≡ true → is_among p.sectors s ≡ true → ⊥
      never p s there i j =
          let a = wr.whose p there in
          by a.0 s a.1 i (is_same_path g.o.path a.0.was.object.path) (subst (λ (ss : List ℕ). is_among ss s ≡ true) a.2 j)

  object_moved : IsMoved o.path (new_path x.c) image image' y y' o (e'.turn o)
  object_moved = subst (IsMoved o.path (new_path x.c) image image' y y' o) (sym o_turn) (record {
    path = refl;
    name = refl;
    attrs = refl;
    load = refl;
    exec = refl;
    bytes = λ file. turned_bytes y y' image image' o (moved x.c o) (λ i. (x.geometry i).sector) (na.walk_fits parts).form (file_same file) refl refl refl;
  })

  -- The directory that grows keeps its path.
  grown_moved : IsMoved o.path (new_path x.c) image image' y y' g.o (e'.turn g.o)
  grown_moved = subst (IsMoved o.path (new_path x.c) image image' y y' g.o) (sym (its_turn eg)) (record {
    path = ap (λ (p : Object). p.path) (sym x.grows.stays);
    name = ap (λ (p : Object). p.entry.name) (sym x.grows.stays);
    attrs = refl;
    load = refl;
    exec = refl;
    bytes = λ file. absurd (clash (is_directory_object g.o) (o_directory eg) file);
  })

  pub moves : MovesPaths image image' (Layout.New x.m) (Layout.New x.m') x.nodes x.listings e' x.c.o.path (new_path x.c)
  moves = record {
    no_root = m_.some x.nodes y x.listings x.c h x.moves;
    none_goes = refl;
    none_comes = refl;
    paths = λ p s. its_path eg p;
    others = λ p s.
        (let t = members.stayed eg p s in
        m_.unspelled x.nodes y x.listings x.c h x.moves p t.number t.number_is (m_.others x.nodes y x.listings x.c h x.moves t.number t.stays));
    moving = λ p at. by g.holder p at;
  }
    where
      by : (q : Option Holder) (p : Object) → Contains (objects (grown_by (edit x.c) g q).moving) p → IsMoved o.path (new_path x.c) image image' y y' p (e'.turn p)
      by None p there = subst (λ (r : Object). IsMoved o.path (new_path x.c) image image' y y' r (e'.turn r)) (only o p there) object_moved
      by (Some hd) p there =
          ⊎_elim (λ same. subst (λ (r : Object). IsMoved o.path (new_path x.c) image image' y y' r (e'.turn r)) same grown_moved)
          (λ later. subst (λ (r : Object). IsMoved o.path (new_path x.c) image image' y y' r (e'.turn r)) (only o p later) object_moved) (contains_cases g.o p (o ∷ []) there)
