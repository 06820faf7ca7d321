-- `rename` that copies its file into a directory that grows by it, on images: what is written, and what moves.
use Rattle.std.proofs.Common.{◌≡◌, inl, inr, ⊎_elim, ℕ, Bool, false, cond, List, [], ◌∷◌, ◌++◌, refl, sym, ap, ap₂, subst, ◌∙◌, None, Option, Some}
use Rattle.std.specs.Prelude.{Contains}
use Rattle.fc_names.specs.Names.{Path, is_same_path}
use Rattle.fc_model.specs.Tree.{last_name}
use Rattle.fc_dirs.specs.Directory.{directory_size}
use Rattle.fc_image.specs.Layout.{Layout, bytes_in, dir_form}
use Rattle.fc_image.specs.Walk.{Listing, Object, is_directory_object, object_bytes}
use Rattle.fc_image.specs.Objects.{objects_of}
use Rattle.fc_image.specs.Commanded.{IsMoved, moved_path}
use Rattle.fc_image.proofs.PathsLemmas.{itself}
use Rattle.fc_image.proofs.RenameLemmas.{last_pushed, moved_itself}
use Rattle.fc_tree.specs.Nodes.{number_of}
use Rattle.fc_tree.proofs.MemberLemmas.{contains_here, no_element}
use Rattle.fc_tree.proofs.WalkedLemmas.{listed_directory}
use Rattle.fc_changes.proofs.BasicLemmas.{clash}
use Rattle.fc_laws.specs.nodes.Laws.{IsHeld}
use Rattle.fc_laws.proofs.lemmas.nodes.OtherLemmas.{unlike}
use Rattle.fc_edits.specs.Copying.{copied, edit, new_path}
use Rattle.fc_edits.specs.Edit.{Edit, joining, leaving, numbers, objects}
use Rattle.fc_edits.specs.Growing.{EditGrowing, Growing, Holder, grown_by}
use Rattle.fc_edits.specs.GrownCopying.{NewGrownCopying, grown_edit}
use Rattle.fc_edits.specs.GrownPlaces.{NewGrowing}
use Rattle.fc_edits.specs.NodesEdit.{NodesEdit}
use Rattle.fc_edits.specs.PartsEdit.{NewPartsEdit}
use Rattle.fc_edits.specs.Placing.{takings_of}
use Rattle.fc_edits.proofs.lemmas.AgreeLemmas as ag
use Rattle.fc_edits.proofs.lemmas.CopiesLemmas as c_
use Rattle.fc_edits.proofs.lemmas.GrowingLawLemmas as law
use Rattle.fc_edits.proofs.lemmas.GrowingLemmas.{its_path, its_turn, o_directory, o_in, other_turn}
use Rattle.fc_edits.proofs.lemmas.GrownCopyingLemmas as gc
use Rattle.fc_edits.proofs.lemmas.GrownMemberLemmas as members
use Rattle.fc_edits.proofs.lemmas.GrownPlaceLemmas as place
use Rattle.fc_edits.proofs.lemmas.NewAgreeLemmas as na
use Rattle.fc_edits.proofs.lemmas.NumberLemmas as n_
use Rattle.fc_edits.proofs.lemmas.ShapeLemmas.{only}
use Rattle.fc_outcomes.specs.GrownCopying.{NewGrownCopyingWritten}
use Rattle.fc_outcomes.specs.NewImage.{NewImageEdit}
use Rattle.fc_outcomes.specs.Puts.{ArePutsOf, Put}
use Rattle.fc_outcomes.specs.Written.{MovesPaths}
use Rattle.fc_outcomes.proofs.lemmas.CopiedPathLemmas as path
use Rattle.fc_outcomes.proofs.lemmas.GrownImageLemmas as gi
use Rattle.fc_image.proofs.EntriesLemmas.{cases as contains_cases}

module _ (x : NewGrownCopying) where
  abbrev pub ng : NewGrowing
  ng = gc.as_growing x

  abbrev pub eg : EditGrowing
  eg = place.as_edit ng

  abbrev pub parts : NewPartsEdit
  parts = place.grown_parts ng

  abbrev pub e' : Edit
  e' = grown_edit x.c x.growing

  abbrev pub g : Growing
  g = x.growing

  abbrev pub y : Layout
  y = Layout.New x.m

  abbrev pub y' : Layout
  y' = Layout.New x.m'

  abbrev pub h : IsHeld x.nodes (Layout.New x.m) x.listings
  h = place.held ng

  abbrev pub ne : NodesEdit
  ne = ag.ne (na.held_edit parts)

  pub among : Contains (objects_of x.listings) x.c.o
  among = c_.among x.nodes y x.listings x.c h x.copies

  pub dir_other : (k : Listing) → Contains x.listings k → is_same_path x.c.o.path k.object.path ≡ false
  dir_other k at = path.dir_other x.nodes y x.listings x.c h x.copies k at

  pub dir_stays : (k : Listing) → Contains x.listings k → copied x.c k.object ≡ k.object
  dir_stays k at = c_.dir_stays x.nodes y x.listings x.c h x.copies k at

  -- ---- the file isn't the directory

  away : (n : ℕ) → (Contains (numbers (leaving (edit x.c))) n → ⊥) → n ≡ x.c.number → ⊥
  away n none e = none (subst (Contains (x.c.number ∷ [])) (sym e) (contains_here x.c.number []))

  pub o_other : is_same_path g.o.path x.c.o.path ≡ false
  o_other = unlike x.nodes g.o.path x.c.o.path g.dir x.c.number x.grows.dir_is x.copies.number_is (λ same. away g.dir (members.dir_stays eg) same)

  pub o_turn : e'.turn x.c.o ≡ copied x.c x.c.o
  o_turn = other_turn eg x.c.o o_other

  pub o_joins : Contains (joining e') (x.c.number, copied x.c x.c.o)
  o_joins = members.still_joins eg (x.c.number, copied x.c x.c.o) (contains_here (x.c.number, copied x.c x.c.o) [])

  -- an object of another number
  other : (p : Object) (n : ℕ) → number_of x.nodes p.path ≡ Some n → (n ≡ x.c.number → ⊥) → is_same_path x.c.o.path p.path ≡ false
  other p n is none = unlike x.nodes x.c.o.path p.path x.c.number n x.copies.number_is is (λ e. none (sym e))

  still_path : (p : Object) (n : ℕ) → Contains (objects_of x.listings) p → number_of x.nodes p.path ≡ Some n → (n ≡ x.c.number → ⊥)
      → (copied x.c p).path ≡ moved_path x.c.o.path (new_path x.c) p.path
  still_path p n at is none =
      ap (λ (q : Object). q.path) (c_.stays x.nodes y x.listings x.c h x.copies p n is none) ∙ sym (path.its_path x.nodes y x.listings x.c h x.copies p at (other p n is none))

  -- no directory's path changes
  pub its_path_stays : (k : Listing) → Contains x.listings k → moved_path x.c.o.path (new_path x.c) k.object.path ≡ k.object.path
  its_path_stays k at = path.its_path x.nodes y x.listings x.c h x.copies k.object (listed_directory y x.listings h.sound k at).0 (dir_other k at)

  module _ (from to : Path) (puts : List Put) (stored image image' : List ℕ) (wr : NewGrownCopyingWritten x from to puts stored image image') where
    -- ---- the puts

    pub puts_of : ArePutsOf (Layout.New x.m) (Layout.New x.m') x.nodes e' puts image image'
    puts_of = record {
      says = wr.written;
      into_say = λ d at. absurd (no_element d at);
      whose = λ p at.
          ⊎_elim (λ a. inl a) (λ its. inr ((x.c.number, copied x.c x.c.o), o_joins, its ∙ ap (λ (q : Object). q.sectors) (sym (c_.is_copy x.c)))) (wr.whose p at);
      carried = λ k n at number_is goes.
          absurd
          (⊎_elim (λ same. law.same_other eg k n at number_is (sym same))
          (λ left.
          clash (is_same_path x.c.o.path k.object.path)
          (n_.same_at ne x.c.o.path k.object.path n (x.copies.number_is ∙ ap (λ (i : ℕ). Some i) (only x.c.number n left)) number_is)
          (dir_other k (n_.stay_in ne k (n_.same_in ne k at)))) (members.leaves_either eg n goes));
    }

    abbrev pub on_new : NewImageEdit
    on_new = record {
      parts = parts;
      takings = takings_of x.id x.parts ++ x.own;
      gone = x.gone;
      r = wr.r;
      image = image;
      image' = image';
      puts = puts;
      new_kind = wr.new_kind;
      opens = wr.opens;
      places = place.grown_places ng;
      out = wr.out;
      puts_of = puts_of;
      root = gi.root_left ng wr.r image' wr.map;
    }

    -- ---- what moves

    bytes_now : object_bytes image' y' (copied x.c x.c.o) ≡ object_bytes image y x.c.o
    bytes_now =
        ap (object_bytes image' y') (c_.is_copy x.c)
        ∙ ap₂ (λ (s n : ℕ). bytes_in s image' x.c.sectors n) (λ i. (x.geometry i).sector)
        (ap (λ (b : Bool). cond b (directory_size (dir_form y') x.c.o.entry.len) x.c.o.entry.len) x.copies.file ∙ sym wr.stored_long)
        ∙ wr.out.there (record { sectors = x.c.sectors; bytes = stored }) wr.stored_put ∙ wr.stored_is

    object_moved : IsMoved x.c.o.path (new_path x.c) image image' y y' x.c.o (e'.turn x.c.o)
    object_moved = subst (IsMoved x.c.o.path (new_path x.c) image image' y y' x.c.o) (sym o_turn) (record {
      path = ap (λ (q : Object). q.path) (c_.is_copy x.c) ∙ sym (moved_itself x.c.o.path (new_path x.c) x.c.o.path refl);
      name = ap (λ (q : Object). q.entry.name) (c_.is_copy x.c)
          ∙ sym (ap (λ (b : Bool). cond b (last_name (new_path x.c)) x.c.o.entry.name) (itself x.c.o.path) ∙ last_pushed x.c.l.object.path x.c.name);
      attrs = ap (λ (q : Object). q.entry.attrs) (c_.is_copy x.c);
      load = ap (λ (q : Object). q.entry.load) (c_.is_copy x.c);
      exec = ap (λ (q : Object). q.entry.exec) (c_.is_copy x.c);
      bytes = λ file. bytes_now;
    })

    -- The directory that grows keeps its path.
    grown_moved : IsMoved x.c.o.path (new_path x.c) image image' y y' g.o (e'.turn g.o)
    grown_moved =
        let not_it : is_same_path x.c.o.path g.o.path ≡ false = other g.o g.dir x.grows.dir_is (λ same. away g.dir (members.dir_stays eg) same) in
        subst (IsMoved x.c.o.path (new_path x.c) image image' y y' g.o) (sym (its_turn eg)) (record {
          path = sym (path.its_path x.nodes y x.listings x.c h x.copies g.o (o_in eg) not_it);
          name = sym (ap (λ (b : Bool). cond b (last_name (new_path x.c)) g.o.entry.name) not_it);
          attrs = refl;
          load = refl;
          exec = refl;
          bytes = λ file. absurd (clash (is_directory_object g.o) (o_directory eg) file);
        })

    pub moves : MovesPaths image image' (Layout.New x.m) (Layout.New x.m') x.nodes x.listings e' x.c.o.path (new_path x.c)
    moves = record {
      no_root = path.some x.nodes y x.listings x.c h x.copies;
      none_goes = refl;
      none_comes = refl;
      paths = λ p s. let t = members.stayed eg p s in its_path eg p ∙ still_path p t.number s.among t.number_is (away t.number t.stays);
      others = λ p s. let t = members.stayed eg p s in other p t.number t.number_is (away t.number t.stays);
      moving = λ p at. by g.holder p at;
    }
      where
        by : (q : Option Holder) (p : Object) → Contains (objects (grown_by (edit x.c) g q).moving) p → IsMoved x.c.o.path (new_path x.c) image image' y y' p (e'.turn p)
        by None p there = subst (λ (r : Object). IsMoved x.c.o.path (new_path x.c) image image' y y' r (e'.turn r)) (only x.c.o p there) object_moved
        by (Some hd) p there =
            ⊎_elim (λ same. subst (λ (r : Object). IsMoved x.c.o.path (new_path x.c) image image' y y' r (e'.turn r)) same grown_moved)
            (λ later. subst (λ (r : Object). IsMoved x.c.o.path (new_path x.c) image image' y y' r (e'.turn r)) (only x.c.o p later) object_moved) (contains_cases g.o p (x.c.o ∷ []) there)
