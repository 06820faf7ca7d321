-- `delete` on images, by the laws of outcomes.
use Rattle.std.proofs.Common.{◌≡◌, inl, ℕ, Bool, true, false, cond, ◌||◌, List, [], ◌∷◌, refl, sym, ap, subst, ◌∙◌, arith, Some}
use Rattle.std.specs.Prelude.{Contains, IsPermutation}
use Rattle.std.proofs.lemmas.List.Sorted.{IsPermutation-refl}
use Rattle.fc_names.specs.Names.{Path, is_same_path}
use Rattle.fc_record.specs.declared.Kind.{Kind}
use Rattle.fc_oldmap.specs.Laws.{ReadsBack}
use Rattle.fc_newmap.specs.Map.{hole_runs}
use Rattle.fc_model.specs.Command.{Command}
use Rattle.fc_model.specs.Tree.{holder, last_name}
use Rattle.fc_dirs.specs.Directory.{entries_of}
use Rattle.fc_image.specs.Layout.{Layout, dir_form}
use Rattle.fc_image.specs.Walk.{Listing, Object, object_bytes, object_size}
use Rattle.fc_image.specs.Objects.{object_at, objects_of}
use Rattle.fc_image.specs.Opening.{Opened}
use Rattle.fc_image.specs.Sound.{AreSound}
use Rattle.fc_names.specs.declared.name.NameForm.{NameForm}
use Rattle.fc_image.specs.Stays.{OpensAs}
use Rattle.fc_image.specs.effects.Steady.{AreWritten, DirectorySteady, IsRewritten, has_grown, has_new_holder, may_be_rewritten, without_name}
use Rattle.fc_image.proofs.CommandLemmas.{command_law}
use Rattle.fc_image.proofs.LookupLemmas.{lookup_law}
use Rattle.fc_image.proofs.PathsLemmas.{itself}
use Rattle.fc_plan.proofs.Left.{left_of_none}
use Rattle.fc_tree.proofs.MemberLemmas.{contains_here, no_element}
use Rattle.fc_tree.proofs.WalkedLemmas.{child_is_object, child_path}
use Rattle.fc_changes.specs.Owed.{GoesAlone}
use Rattle.fc_changes.proofs.DirectoriesLemmas.{plain_delete}
use Rattle.fc_changes.proofs.ReadsLemmas.{LiesIn, lies_in}
use Rattle.fc_changes.proofs.SpaceLemmas.{untaken_is}
use Rattle.fc_changes.proofs.lemmas.old.GrowthLemmas.{given_alone}
use Rattle.fc_laws.specs.nodes.Edits.{Nodes}
use Rattle.fc_laws.specs.nodes.Laws.{IsHeld}
use Rattle.fc_laws.specs.agree.Agreed.{parts_with}
use Rattle.fc_laws.specs.takeover.Places.{MayBeWritten}
use Rattle.fc_laws.proofs.lemmas.takeover.ApartLemmas.{places_law}
use Rattle.fc_changes.specs.old.Owed.{IsBefore, holding}
use Rattle.fc_laws.specs.old.takeover.Places.{AreSpared, MayBeWritten as OldMayBeWritten}
use Rattle.fc_laws.proofs.lemmas.old.takeover.ApartLemmas.{places_law as old_places_law}
use Rattle.fc_laws.specs.old.agree.Laws.{parts_with as old_parts_with}
use Rattle.fc_edits.specs.Edit.{Amended, AreEdited, listings_after, now}
use Rattle.fc_edits.specs.Deletion.{Deletion, IsDeletion, NewDeletion, OldDeletion, amended, edit, holes_with_it}
use Rattle.fc_edits.specs.NodesEdit.{NodesEdit}
use Rattle.fc_edits.specs.OldPlaces.{with_holes}
use Rattle.fc_edits.specs.PartsEdit.{NewPartsEdit}
use Rattle.fc_edits.proofs.lemmas.AgreeLemmas as ag
use Rattle.fc_edits.proofs.lemmas.NewAgreeLemmas as na
use Rattle.fc_edits.proofs.lemmas.NumberLemmas as n_
use Rattle.fc_edits.proofs.lemmas.ShapeLemmas.{of_one, only}
use Rattle.fc_edits.proofs.lemmas.DeletionLemmas as memory
use Rattle.fc_outcomes.specs.Deletion.{DeletionLaw, LeavesOut, NewDeletionWritten, OldDeletionWritten}
use Rattle.fc_outcomes.specs.NewImage as new
use Rattle.fc_outcomes.specs.NewImage.{NewImageEdit, Outcome}
use Rattle.fc_outcomes.specs.OldImage as old
use Rattle.fc_outcomes.specs.OldImage.{OldImageEdit}
use Rattle.fc_outcomes.specs.Puts.{ArePutsOf, IsDirectoryPut, Put}
use Rattle.fc_outcomes.specs.Steady.{AreAsked}
use Rattle.fc_outcomes.specs.Written.{KeepsPaths}
use Rattle.fc_outcomes.proofs.lemmas.NewImageLemmas as new_image
use Rattle.fc_outcomes.proofs.lemmas.OldImageLemmas as old_image
use Rattle.fc_outcomes.proofs.lemmas.PutLemmas.{directory_bytes}
use Rattle.fc_outcomes.proofs.lemmas.SteadyLemmas.{holder_same, plain_asks, unnamed, written_asks}

-- what goes stood at the path
pub goes_at : (path : Path) (out : List Listing) (o : Object) → GoesAlone out o → is_same_path path o.path ≡ true → (k : Listing) → Contains out k → is_same_path path k.object.path ≡ true
goes_at path [] o alone same k at = absurd (no_element k at)
goes_at path (d ∷ []) o alone same k at =
    ap (λ (x : Listing). is_same_path path x.object.path) (sym (only d k at)) ∙ ap (λ (x : Object). is_same_path path x.path) alone.0 ∙ same
goes_at path (d ∷ e ∷ out) o alone same k at = absurd alone

-- ---- its directory

module _ (nodes : Nodes) (layout : Layout) (listings : List Listing) (c : Deletion) (h : IsHeld nodes layout listings) (d : IsDeletion nodes layout listings c) (path : Path)
    (same : is_same_path path c.o.path ≡ true) where
  l_in : Contains listings c.l
  l_in = memory.l_in nodes layout listings c h d

  kid_in : Contains c.l.children c.o
  kid_in = memory.kid_in nodes layout listings c h d

  o_in : Contains (objects_of listings) c.o
  o_in = child_is_object layout listings h.sound c.l c.o l_in kid_in

  lies_there : LiesIn path c.l.object.path c.o.entry.name
  lies_there = lies_in path c.l.object.path c.o.entry.name (ap (is_same_path path) (sym (child_path layout listings h.sound c.l c.o l_in kid_in)) ∙ same)

  may_rewrite : (v : Opened) → may_be_rewritten v (Command.Delete path) c.l.object.path ≡ true
  may_rewrite v = ap (λ (b : Bool). b || false || has_grown v (Command.Delete path) c.l.object.path || has_new_holder v (Command.Delete path) c.l.object.path) lies_there.holds

-- ---- on any map

module _ (nodes nodes' : Nodes) (layout layout' : Layout) (listings : List Listing) (c : Deletion) (h : IsHeld nodes layout listings) (d : IsDeletion nodes layout listings c)
    (ed : AreEdited nodes nodes' (edit c)) (path : Path) (bytes image image' : List ℕ) (leaves : LeavesOut path layout listings c bytes) where
  abbrev ne : NodesEdit
  ne = record {
    nodes = nodes;
    nodes' = nodes';
    layout = layout;
    listings = listings;
    edit = edit c;
    held = h;
    is_edit = memory.is_edit nodes layout listings c h d;
    nodes_edited = ed;
  }

  abbrev its : Put
  its = record { sectors = c.l.object.sectors; bytes = bytes }

  its_put : dir_form layout' ≡ dir_form layout → IsDirectoryPut layout' c.l.object c.content (its ∷ [])
  its_put form = record { bytes = bytes; among = contains_here its []; says = leaves.written; long = leaves.long ∙ ap (λ (f : NameForm). object_size f c.l.object.entry) (sym form) }

  puts_of : dir_form layout' ≡ dir_form layout → ArePutsOf layout layout' nodes (edit c) (its ∷ []) image image'
  puts_of form = record {
    says = of_one (λ (b : Amended). IsDirectoryPut layout' b.was.object b.content (its ∷ [])) (amended c) (its_put form);
    into_say = λ x at. absurd (no_element x at);
    whose = λ p at. inl (amended c, contains_here (amended c) [], ap (λ (q : Put). q.sectors) (sym (only its p at)));
    carried = λ k n at f goes. absurd (no_element (n, k.object) (n_.dir_moves ne k n (n_.same_in ne k at) f goes));
  }

  keeps : KeepsPaths image image' layout layout' nodes listings (edit c) []
  keeps = record { paths = λ o s. refl; steady = []; moving = IsPermutation-refl {X = Object} []; kept = λ o at. absurd (no_element o at) }

  abbrev lies : LiesIn path c.l.object.path c.o.entry.name
  lies = lies_there nodes layout listings c h d path leaves.path_is

  -- the other directories aren't named
  other : (k : Listing) → Contains c.rest k → is_same_path (holder path) k.object.path ≡ false
  other k at = unnamed ne path c.l k c.dir (l_in nodes layout listings c h d path leaves.path_is) d.dir_is (contains_here c.dir []) lies.holds at

  asked : (kind : Kind) (found : List Listing) → AreSound layout' found → IsPermutation (listings_after (edit c)) found → AreWritten (object_bytes image' layout' c.l.object) c.content
      → AreAsked image image' (record { kind = kind; layout = layout; listings = listings }) (record { kind = kind; layout = layout'; listings = found }) (Command.Delete path) (edit c)
  asked kind found sound' order written =
      let v : Opened = record { kind = kind; layout = layout; listings = listings } in
      let w : Opened = record { kind = kind; layout = layout'; listings = found } in
      let stays = holder_same ne layout' found sound' order (λ o at. (refl, refl)) c.l (n_.was_in ne (amended c) (contains_here (amended c) [])) in
      record {
        out = goes_at path c.out c.o d.alone leaves.path_is;
        paths = λ k at. itself k.object.path;
        amended = of_one (λ (b : Amended). DirectorySteady image image' v w (Command.Delete path) b.was (now (edit c) b)) (amended c)
            (written_asks image image' v w (Command.Delete path) c.l (now (edit c) (amended c)) (plain_delete path) refl lies.holds
            (leaves.entries ∙ sym (ap (λ (b : Bool). cond b (without_name (last_name path) (entries_of c.l.content)) (entries_of c.l.content)) lies.holds))
            (subst (λ (n : ℕ). IsRewritten (Command.Delete path) c.l.object.path n c.l.content c.content) (sym stays) leaves.says) written);
        same = λ k at. plain_asks v w (Command.Delete path) (edit c) k (plain_delete path) refl (other k at);
      }

-- ---- on a new map

module _ (x : NewDeletion) (path : Path) (bytes image image' : List ℕ) (w : NewDeletionWritten x path bytes image image') where
  abbrev parts : NewPartsEdit
  parts = memory.new_parts x

  h_new : IsHeld x.nodes (Layout.New x.m) x.listings
  h_new = ag.h (na.held_edit parts)

  form_new : dir_form (Layout.New x.m') ≡ dir_form (Layout.New x.m)
  form_new = (na.walk_fits parts).form

  abbrev on_new : NewImageEdit
  on_new = record {
    parts = parts;
    takings = [];
    gone = x.gone;
    r = w.r;
    image = image;
    image' = image';
    puts = record { sectors = x.c.l.object.sectors; bytes = bytes } ∷ [];
    new_kind = w.new_kind;
    opens = w.opens;
    places = memory.new_places x.kind x.m x.m' x.nodes x.listings x.c x.gone x.is_map x.geometry x.space x.gives;
    out = w.out;
    puts_of = puts_of x.nodes x.nodes' (Layout.New x.m) (Layout.New x.m') x.listings x.c h_new x.deletion x.nodes_edited path bytes image image' w.leaves form_new;
    root = inl (record { after = w.after; stays = λ o at none. record { leaves = refl; joins = refl; keeps = record { entry = refl; sectors = refl } } });
  }

  new_asked : new.IsAskedOf on_new (Command.Delete path)
  new_asked found sound' order = record {
    root_keeps = tt;
    map = record {
      left = λ k used. refl;
      fresh = λ k taken. absurd (cc);
      untaken_is = sym (untaken_is (new.was on_new) (new.is_now on_new found) (Command.Delete path) x.m x.m' [] refl refl ∙ left_of_none (hole_runs x.m));
    };
    placed = record { object = λ some. absurd (omega (arith, some)); empty = λ none. absurd (cc); growth = tt };
    directories = asked x.nodes x.nodes' (Layout.New x.m) (Layout.New x.m') x.listings x.c h_new x.deletion x.nodes_edited path bytes image image' w.leaves x.kind found sound' order
        (directory_bytes (Layout.New x.m) (Layout.New x.m') on_new.puts image image' x.c.l.object x.c.content (λ i. (x.geometry i).sector) w.out
        (its_put x.nodes x.nodes' (Layout.New x.m) (Layout.New x.m') x.listings x.c h_new x.deletion x.nodes_edited path bytes image image' w.leaves form_new));
    named = tt;
    entry = tt;
    made = tt;
  }

  new_deleted : Outcome x.kind image image' (new.was on_new) (Command.Delete path) (parts_with x.m' x.nodes' x.owners')
  new_deleted =
      new_image.changes_by on_new (Command.Delete path) []
      (keeps x.nodes x.nodes' (Layout.New x.m) (Layout.New x.m') x.listings x.c h_new x.deletion x.nodes_edited path bytes image image' w.leaves) new_asked
      (λ found edited. command_law.delete image image' (Layout.New x.m) (Layout.New x.m') x.listings found path x.c.o edited w.leaves.path_is)

-- ---- on an old map

module _ (back : ReadsBack) (x : OldDeletion) (path : Path) (bytes image image' : List ℕ) (w : OldDeletionWritten x path bytes image image') where
  abbrev y : Layout
  y = Layout.Old x.space

  abbrev y' : Layout
  y' = with_holes x.space (holes_with_it x.space x.c)

  h_old : IsHeld x.nodes y x.listings
  h_old = memory.old_held x.kind x.space x.nodes x.owners x.root x.listings x.c x.agreed x.deletion

  abbrev on_old : OldImageEdit
  on_old = record {
    parts = memory.old_parts_of x;
    image = image;
    image' = image';
    puts = record { sectors = x.c.l.object.sectors; bytes = bytes } ∷ [];
    opens = w.opens;
    places = memory.old_places x.kind x.space x.nodes x.owners x.root x.listings x.c x.agreed x.deletion;
    after = w.after;
    out = w.out;
    puts_of = puts_of x.nodes x.nodes' y y' x.listings x.c h_old x.deletion x.nodes_edited path bytes image image' w.leaves refl;
    root_stays = λ o at none. refl;
  }

  there : object_at x.listings path ≡ Some x.c.o
  there =
      lookup_law.object y x.listings path x.c.o h_old.sound
      (o_in x.nodes y x.listings x.c h_old x.deletion path w.leaves.path_is) w.leaves.path_is

  old_asked : old.IsAskedOf on_old (Command.Delete path)
  old_asked found sound' order = record {
    holes = given_alone x.space (old.was on_old) (Command.Delete path) (Some x.c.o) x.agreed.is_map.units there refl;
    placed = record { object = λ some. absurd (omega (arith, some)); empty = λ none. absurd (cc); growth = tt };
    directories = asked x.nodes x.nodes' y y' x.listings x.c h_old x.deletion x.nodes_edited path bytes image image' w.leaves x.kind found sound' order
        (directory_bytes y y' on_old.puts image image' x.c.l.object x.c.content refl w.out
        (its_put x.nodes x.nodes' y y' x.listings x.c h_old x.deletion x.nodes_edited path bytes image image' w.leaves refl));
    named = tt;
    entry = tt;
    made = tt;
  }

  old_deleted : Outcome x.kind image image' (old.was on_old) (Command.Delete path) (old_parts_with (holding x.space (holes_with_it x.space x.c)) x.nodes' x.owners')
  old_deleted =
      old_image.changes_by back on_old (Command.Delete path) []
      (keeps x.nodes x.nodes' y y' x.listings x.c h_old x.deletion x.nodes_edited path bytes image image' w.leaves) old_asked
      (λ found edited. command_law.delete image image' y y' x.listings found path x.c.o edited w.leaves.path_is)

-- ---- what every exit leaves

may_new : (x : NewDeletion) (path : Path) (image : List ℕ) → OpensAs image x.kind (record { kind = x.kind; layout = Layout.New x.m; listings = x.listings }) → is_same_path path x.c.o.path ≡ true
    → MayBeWritten x.kind (record { kind = x.kind; layout = Layout.New x.m; listings = x.listings }) x.m (Command.Delete path) x.c.l.object.sectors
may_new x path image opens same =
    let v : Opened = record { kind = x.kind; layout = Layout.New x.m; listings = x.listings } in
    let h = ag.h (na.held_edit (memory.new_parts x)) in
    places_law.directory x.kind image v x.m (Command.Delete path) x.c.l (record { opens = opens; layout = refl }) (l_in x.nodes (Layout.New x.m) x.listings x.c h x.deletion path same)
    (may_rewrite x.nodes (Layout.New x.m) x.listings x.c h x.deletion path same v)

may_old : (x : OldDeletion) (path : Path) (image : List ℕ) → OpensAs image x.kind (record { kind = x.kind; layout = Layout.Old x.space; listings = x.listings }) → is_same_path path x.c.o.path ≡ true
    → OldMayBeWritten (record { kind = x.kind; layout = Layout.Old x.space; listings = x.listings }) x.space (Command.Delete path) x.c.l.object.sectors
    × AreSpared (record { kind = x.kind; layout = Layout.Old x.space; listings = x.listings }) x.space (Command.Delete path) x.c.l.object.sectors
may_old x path image opens same =
    let v : Opened = record { kind = x.kind; layout = Layout.Old x.space; listings = x.listings } in
    let h = memory.old_held x.kind x.space x.nodes x.owners x.root x.listings x.c x.agreed x.deletion in
    let before : IsBefore x.kind image v x.space = record { opens = opens; layout = refl; is_map = x.agreed.is_map } in
    let may = old_places_law.directory x.kind image v x.space (Command.Delete path) x.c.l before (l_in x.nodes (Layout.Old x.space) x.listings x.c h x.deletion path same)
    (may_rewrite x.nodes (Layout.Old x.space) x.listings x.c h x.deletion path same v) in
    (may, old_places_law.spared x.kind image v x.space (Command.Delete path) x.c.l.object.sectors before may)

pub deletion_law : ReadsBack → DeletionLaw
deletion_law back = record {
  new = λ x path bytes image image' w. new_deleted x path bytes image image' w;
  old = λ x path bytes image image' w. old_deleted back x path bytes image image' w;
  new_may = may_new;
  old_may = may_old;
}
