-- What `save`, `create` and `cdir` may write at every exit.
use Rattle.std.proofs.Common.{◌≡◌, ℕ, Bool, true, cond, ◌||◌, List, ◌++◌, length, refl, sym, ap, ap₂, ◌∙◌, arith}
use Rattle.fc_names.specs.Names.{Path, is_directory, is_same_path}
use Rattle.fc_names.specs.declared.name.NameForm.{NameForm}
use Rattle.fc_model.specs.Command.{Command}
use Rattle.fc_model.specs.Tree.{holder}
use Rattle.fc_dirs.specs.Directory.{directory_size}
use Rattle.fc_image.specs.Layout.{Layout, dir_form}
use Rattle.fc_image.specs.Walk.{Listing, object_size}
use Rattle.fc_image.specs.Objects.{objects_of}
use Rattle.fc_image.specs.Opening.{Opened}
use Rattle.fc_image.specs.Stays.{OpensAs}
use Rattle.fc_image.specs.effects.Short.{new_dir_size}
use Rattle.fc_image.specs.effects.Steady.{has_grown, has_new_holder, holds_named, is_renamed_by, may_be_rewritten}
use Rattle.fc_changes.specs.Changed.{IsFileAt, IsInNewSpace}
use Rattle.fc_changes.proofs.ReadsLemmas.{lies_in}
use Rattle.fc_laws.specs.nodes.Edits.{Nodes}
use Rattle.fc_laws.specs.takeover.Places.{IsNewObject, MayBeWritten}
use Rattle.fc_laws.proofs.lemmas.takeover.ApartLemmas.{places_law}
use Rattle.fc_changes.specs.old.Changed.{IsFileAt as IsOldFileAt, IsFirstFitted}
use Rattle.fc_changes.specs.old.Owed.{IsBefore}
use Rattle.fc_laws.specs.old.takeover.Places.{AreSpared, MayBeWritten as OldMayBeWritten}
use Rattle.fc_laws.proofs.lemmas.old.takeover.ApartLemmas.{places_law as old_places_law}
use Rattle.fc_edits.specs.Addition.{Addition, IsAddition, NewAddition, OldAddition, over_it}
use Rattle.fc_edits.proofs.lemmas.AdditionLemmas as memory
use Rattle.fc_edits.proofs.lemmas.AgreeLemmas as ag
use Rattle.fc_edits.proofs.lemmas.NewAgreeLemmas as na
use Rattle.fc_outcomes.specs.Addition.{IsItsDirectory, IsItsFile, Joins, new_view, old_view}
use Rattle.fc_outcomes.proofs.lemmas.JoinedLemmas.{makes_file}
use Rattle.fc_changes.proofs.CdirLemmas.{size_of_new}

-- a command may rewrite the directory that its path lies in
may_rewrite : (nodes : Nodes) (layout : Layout) (listings : List Listing) (a : Addition) (d : IsAddition nodes layout listings a) (v : Opened) (c : Command) (path : Path)
    → holds_named c a.l.object.path ≡ is_same_path (holder path) a.l.object.path → is_same_path path a.o.path ≡ true → may_be_rewritten v c a.l.object.path ≡ true
may_rewrite nodes layout listings a d v c path holds same =
    ap (λ (b : Bool). b || is_renamed_by c a.l.object.path || has_grown v c a.l.object.path || has_new_holder v c a.l.object.path)
    (holds ∙ (lies_in path a.l.object.path a.o.entry.name (ap (is_same_path path) (sym d.path) ∙ same)).holds)

-- ---- on a new map

module _ (x : NewAddition) (c : Command) (path : Path) (image : List ℕ) (opens : OpensAs image x.kind (new_view x)) (holds : holds_named c x.c.l.object.path ≡ is_same_path (holder path) x.c.l.object.path)
    (same : is_same_path path x.c.o.path ≡ true) where
  form : dir_form (Layout.New x.m') ≡ dir_form (Layout.New x.m)
  form = (na.walk_fits (memory.new_parts x)).form

  new_object : (n : ℕ) → object_size (dir_form (Layout.New x.m')) x.c.o.entry ≡ n → IsNewObject (new_view x) x.m x.m' n x.id x.parts x.gone x.c.o x.stay
  new_object n size = record { is_map = x.agreed.is_map; geometry = x.geometry; space = x.space; gives = x.gives; at = x.at; size = size }

  both_new : MayBeWritten x.kind (new_view x) x.m c x.c.o.sectors → MayBeWritten x.kind (new_view x) x.m c (x.c.l.object.sectors ++ x.c.o.sectors)
  both_new own =
      let h = ag.h (na.held_edit (memory.new_parts x)) in
      places_law.both x.kind (new_view x) x.m c x.c.l.object.sectors x.c.o.sectors
      (places_law.directory x.kind image (new_view x) x.m c x.c.l (record { opens = opens; layout = refl }) (memory.l_in x.nodes (Layout.New x.m) x.listings x.c h x.addition)
      (may_rewrite x.nodes (Layout.New x.m) x.listings x.c x.addition (new_view x) c path holds same)) own

-- ---- on an old map

module _ (x : OldAddition) (c : Command) (path : Path) (image : List ℕ) (opens : OpensAs image x.kind (old_view x)) (holds : holds_named c x.c.l.object.path ≡ is_same_path (holder path) x.c.l.object.path)
    (same : is_same_path path x.c.o.path ≡ true) where
  before : IsBefore x.kind image (old_view x) x.space
  before = record { opens = opens; layout = refl; is_map = x.agreed.is_map }

  both_old : OldMayBeWritten (old_view x) x.space c x.c.o.sectors
      → OldMayBeWritten (old_view x) x.space c (x.c.l.object.sectors ++ x.c.o.sectors) × AreSpared (old_view x) x.space c (x.c.l.object.sectors ++ x.c.o.sectors)
  both_old own =
      let may = old_places_law.both (old_view x) x.space c x.c.l.object.sectors x.c.o.sectors
      (old_places_law.directory x.kind image (old_view x) x.space c x.c.l before (memory.l_in x.nodes (Layout.Old x.space) x.listings x.c (memory.old_held x) x.addition)
      (may_rewrite x.nodes (Layout.Old x.space) x.listings x.c x.addition (old_view x) c path holds same)) own in
      (may, old_places_law.spared x.kind image (old_view x) x.space c (x.c.l.object.sectors ++ x.c.o.sectors) before may)

-- a new directory's size
new_size : (layout layout' : Layout) (path : Path) (a : Addition) (d : Listing) → dir_form layout' ≡ dir_form layout → IsItsDirectory path layout a d → object_size (dir_form layout') a.o.entry ≡ new_dir_size (dir_form layout)
new_size layout layout' path a d form is =
    ap (λ (b : Bool). cond b (directory_size (dir_form layout') a.o.entry.len) a.o.entry.len) (ap is_directory is.attrs)
    ∙ ap₂ (λ (f : NameForm) (k : ℕ). directory_size f k) form is.len ∙ size_of_new (dir_form layout)

pub new_may_file : (x : NewAddition) (c : Command) (path : Path) (load exec : ℕ) (bytes stored image : List ℕ) → OpensAs image x.kind (new_view x) → Joins c path (Layout.New x.m) x.listings x.c bytes stored
    → IsItsFile c path load exec x.c stored → IsFileAt x.m (objects_of x.listings) (holder path) (length stored) x.id x.parts x.c.o
    → MayBeWritten x.kind (new_view x) x.m c (x.c.l.object.sectors ++ x.c.o.sectors)
new_may_file x c path load exec bytes stored image opens joins f place =
    let holds = (makes_file (new_view x) c path load exec stored (over_it x.c) joins.stood f.makes).holds x.c.l.object.path in
    both_new x c path image opens holds joins.path_is
    (places_law.file x.kind image (new_view x) x.m x.m' c (holder path) (length stored) x.id x.parts x.gone x.c.o x.stay (record { opens = opens; layout = refl })
    (new_object x c path image opens holds joins.path_is (length stored) (ap (λ (f' : NameForm). object_size f' x.c.o.entry) (form x c path image opens holds joins.path_is) ∙ sym joins.stored_long)) place)

pub new_may_directory : (x : NewAddition) (path : Path) (d : Listing) (bytes stored image : List ℕ) → OpensAs image x.kind (new_view x)
    → Joins (Command.Cdir path) path (Layout.New x.m) x.listings x.c bytes stored → IsItsDirectory path (Layout.New x.m) x.c d
    → IsInNewSpace x.m (new_dir_size (dir_form (Layout.New x.m))) 0 x.id x.parts x.c.o → MayBeWritten x.kind (new_view x) x.m (Command.Cdir path) (x.c.l.object.sectors ++ x.c.o.sectors)
new_may_directory x path d bytes stored image opens joins is place =
    both_new x (Command.Cdir path) path image opens refl joins.path_is
    (places_law.new_directory x.kind image (new_view x) x.m x.m' (Command.Cdir path) (new_dir_size (dir_form (Layout.New x.m))) 0 x.id x.parts x.gone x.c.o x.stay (omega arith)
    (record { opens = opens; layout = refl })
    (new_object x (Command.Cdir path) path image opens refl joins.path_is (new_dir_size (dir_form (Layout.New x.m)))
    (new_size (Layout.New x.m) (Layout.New x.m') path x.c d (form x (Command.Cdir path) path image opens refl joins.path_is) is)) place)

pub old_may_file : (x : OldAddition) (c : Command) (path : Path) (load exec : ℕ) (bytes stored image : List ℕ) → OpensAs image x.kind (old_view x) → Joins c path (Layout.Old x.space) x.listings x.c bytes stored
    → IsItsFile c path load exec x.c stored → IsOldFileAt x.space (length stored) x.c.o → OldMayBeWritten (old_view x) x.space c (x.c.l.object.sectors ++ x.c.o.sectors)
    × AreSpared (old_view x) x.space c (x.c.l.object.sectors ++ x.c.o.sectors)
old_may_file x c path load exec bytes stored image opens joins f place =
    let holds = (makes_file (old_view x) c path load exec stored (over_it x.c) joins.stood f.makes).holds x.c.l.object.path in
    both_old x c path image opens holds joins.path_is
    (old_places_law.file x.kind image (old_view x) x.space c (length stored) x.c.o (before x c path image opens holds joins.path_is) (sym joins.stored_long) x.at place)

pub old_may_directory : (x : OldAddition) (path : Path) (d : Listing) (bytes stored image : List ℕ) → OpensAs image x.kind (old_view x)
    → Joins (Command.Cdir path) path (Layout.Old x.space) x.listings x.c bytes stored → IsItsDirectory path (Layout.Old x.space) x.c d
    → IsFirstFitted x.space (new_dir_size (dir_form (Layout.Old x.space))) x.c.o → OldMayBeWritten (old_view x) x.space (Command.Cdir path) (x.c.l.object.sectors ++ x.c.o.sectors)
    × AreSpared (old_view x) x.space (Command.Cdir path) (x.c.l.object.sectors ++ x.c.o.sectors)
old_may_directory x path d bytes stored image opens joins is place =
    both_old x (Command.Cdir path) path image opens refl joins.path_is
    (old_places_law.fitted x.kind image (old_view x) x.space (Command.Cdir path) (new_dir_size (dir_form (Layout.Old x.space))) x.c.o (before x (Command.Cdir path) path image opens refl joins.path_is)
    (new_size (Layout.Old x.space) (Layout.Old x.space) path x.c d refl is) x.at place)
