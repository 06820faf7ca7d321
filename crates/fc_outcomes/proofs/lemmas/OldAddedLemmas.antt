-- `save`, `create` and `cdir` without growth on images with old maps, by the laws of outcomes.
use Rattle.std.proofs.Common.{◌≡◌, ◌<◌, ⊎_elim, ℕ, Bool, false, cond, List, [], ◌∷◌, length, map, refl, sym, ap, ap₂, subst, ◌∙◌, arith, Some, None, Option}
use Rattle.std.specs.Prelude.{IsPermutation}
use Rattle.std.specs.Option.{option_map_or}
use Rattle.fc_names.specs.Names.{Path, is_directory}
use Rattle.fc_oldmap.specs.Laws.{ReadsBack}
use Rattle.fc_oldmap.specs.Holes.{first_fit_place}
use Rattle.fc_model.specs.Answer.{changed}
use Rattle.fc_model.specs.Command.{Command}
use Rattle.fc_dirs.specs.Directory.{directory_size}
use Rattle.fc_image.specs.Layout.{Layout, bytes_in, dir_form, sector_bytes}
use Rattle.fc_image.specs.Walk.{Listing, Object, is_directory_object, object_bytes, object_size}
use Rattle.fc_image.specs.Objects.{tree_of}
use Rattle.fc_image.specs.Opening.{Opened}
use Rattle.fc_image.specs.Sound.{AreSound}
use Rattle.fc_image.specs.Commanded.{AreAt, IsFileMade}
use Rattle.fc_image.specs.TreeEdits.{IsObjectEdit}
use Rattle.fc_image.specs.effects.Short.{Growth, growth_in, holes_without, new_dir_size, new_length, old_need, with_space_of}
use Rattle.fc_image.specs.effects.Placed.{GrowthPlacedIn, HasAddress, OldObjectPlaced}
use Rattle.fc_image.specs.effects.Steady.{NewDirectory}
use Rattle.fc_image.proofs.CommandLemmas.{command_law}
use Rattle.fc_tree.proofs.MemberLemmas.{contains_here}
use Rattle.fc_laws.specs.nodes.Laws.{IsHeld}
use Rattle.fc_changes.specs.old.Changed.{IsFileAt, IsFirstFitted}
use Rattle.fc_changes.proofs.lemmas.old.GrowthLemmas.{no_growth}
use Rattle.fc_edits.specs.Addition.{ComesAlone, OldAddition, edit, holes_with_it, leaves, over_it}
use Rattle.fc_edits.specs.Edit.{listings_after, objects}
use Rattle.fc_edits.specs.OldPlaces.{with_holes}
use Rattle.fc_edits.proofs.lemmas.AddedPlaceLemmas.{old_added_places}
use Rattle.fc_edits.proofs.lemmas.AdditionLemmas as memory
use Rattle.fc_outcomes.specs.Addition.{HasEntry, IsItsDirectory, IsItsFile, OldAdded, OldAdditionWritten}
use Rattle.fc_outcomes.specs.OldImage as old
use Rattle.fc_outcomes.specs.OldImage.{OldImageEdit}
use Rattle.fc_outcomes.specs.Puts.{Put}
use Rattle.fc_outcomes.proofs.lemmas.JoinedLemmas as joined
use Rattle.fc_outcomes.proofs.lemmas.JoinedLemmas.{Makes, makes_directory, makes_file}
use Rattle.fc_outcomes.proofs.lemmas.OldImageLemmas as old_image
use Rattle.fc_outcomes.proofs.lemmas.PutLemmas.{directory_bytes}
use Rattle.fc_changes.proofs.CdirLemmas.{size_of_new}
use Rattle.fc_image.proofs.EntriesLemmas.{later as contains_later}

module _ (x : OldAddition) (c : Command) (path : Path) (bytes stored image image' : List ℕ) (w : OldAdditionWritten x c path bytes stored image image') where
  abbrev o : Object
  o = x.c.o

  abbrev y : Layout
  y = Layout.Old x.space

  abbrev y' : Layout
  y' = with_holes x.space (holes_with_it x.space x.c)

  h : IsHeld x.nodes y x.listings
  h = memory.old_held x

  abbrev its : Put
  its = record { sectors = x.c.l.object.sectors; bytes = bytes }

  abbrev own : Put
  own = record { sectors = o.sectors; bytes = stored }

  abbrev on_old : OldImageEdit
  on_old = record {
    parts = memory.old_parts_of x;
    image = image;
    image' = image';
    puts = its ∷ (own ∷ []);
    opens = w.opens;
    places = old_added_places x;
    after = w.after;
    out = w.out;
    puts_of = joined.puts_of x.nodes x.nodes' y y' x.listings x.c h x.addition x.nodes_edited c path bytes stored image image' w.joins refl;
    root_stays = λ p at none. refl;
  }

  abbrev v : Opened
  v = record { kind = x.kind; layout = y; listings = x.listings }

  no_room : growth_in v c ≡ None
  no_room = no_growth x.kind image x.space x.listings w.opens c

  bytes_now : object_bytes image' y' o ≡ stored
  bytes_now = ap (bytes_in (sector_bytes y) image' o.sectors) (sym w.joins.stored_long) ∙ w.out.there own (contains_later its own (own ∷ []) (contains_here own []))

  module _ (n : ℕ) (names : Makes v c path n (over_it x.c)) (size : object_size (dir_form y) o.entry ≡ n) (lies : 0 < n → first_fit_place (old_need x.space n) x.space.holes ≡ Some o.entry.address)
      (empty : n ≡ 0 → o.entry.address ≡ 0)
      (made : (found : List Listing) → AreSound y' found → IsPermutation (listings_after (edit x.c)) found → NewDirectory image' (record { kind = x.kind; layout = y'; listings = found }) c) where
    asked : old.IsAskedOf on_old c
    asked found sound' order =
        let there = joined.made_is x.nodes x.nodes' y y' x.listings x.c h x.addition x.nodes_edited c path bytes stored image image' w.joins refl x.kind found sound' order (n, names) no_room in
        let now = old.is_now on_old found in
        record {
          holes = ap (λ (k : ℕ). with_space_of x.space (over_it x.c) (holes_without (old_need x.space k) x.space.holes)) size
              ∙ sym (ap₂ (λ (q : Option Object) (k : ℕ). with_space_of x.space q (holes_without (old_need x.space k) x.space.holes)) names.replaces names.long);
          placed = record {
            object = subst (λ (q : Option Object). OldObjectPlaced x.space (new_length v c) q) (sym there) (subst (λ (k : ℕ). OldObjectPlaced x.space k (Some o)) (sym names.long) lies);
            empty = λ none. subst (λ (q : Option Object). HasAddress q 0) (sym there) (empty (names.empty none));
            growth = subst (λ (q : Option Growth). GrowthPlacedIn v now c q) (sym no_room) tt;
          };
          directories = joined.asked x.nodes x.nodes' y y' x.listings x.c h x.addition x.nodes_edited c path bytes stored image image' w.joins refl x.kind found sound' order (n, names) no_room
              (directory_bytes y y' (its ∷ (own ∷ [])) image image' x.c.l.object x.c.content refl w.out
              (joined.its_put x.nodes x.nodes' y y' x.listings x.c h x.addition x.nodes_edited c path bytes stored image image' w.joins refl));
          named = names.stays now _;
          entry = joined.entry_asked x.nodes x.nodes' y y' x.listings x.c h x.addition x.nodes_edited c path bytes stored image image' w.joins refl x.kind found sound' order (n, names) no_room;
          made = made found sound' order;
        }

-- ---- a file

module _ (back : ReadsBack) (x : OldAddition) (c : Command) (path : Path) (load exec : ℕ) (bytes stored image image' : List ℕ) (w : OldAdditionWritten x c path bytes stored image image')
    (f : IsItsFile c path load exec x.c stored) where
  abbrev file_view : Opened
  file_view = record { kind = x.kind; layout = Layout.Old x.space; listings = x.listings }

  file : is_directory_object x.c.o ≡ false
  file = subst (λ (ks : List Listing). ComesAlone (Layout.Old x.space) ks x.c.o) f.alone x.addition.alone

  size_is : object_size (dir_form (Layout.Old x.space)) x.c.o.entry ≡ length stored
  size_is = sym w.joins.stored_long

  no_directory : (v' : Opened) → NewDirectory image' v' c
  no_directory v' = ⊎_elim (λ is. subst (λ (d : Command). NewDirectory image' v' d) (sym is) tt) (λ is. subst (λ (d : Command). NewDirectory image' v' d) (sym is.0) tt) f.makes

  made_file : IsFileMade image' (y' x c path bytes stored image image' w) x.listings path load exec stored x.c.o
  made_file = record {
    at_path = w.joins.path_is;
    name = joined.its_name x.nodes x.nodes' (Layout.Old x.space) (y' x c path bytes stored image image' w) x.listings x.c (h x c path bytes stored image image' w) x.addition x.nodes_edited c path bytes
        stored image image' w.joins refl;
    attrs = f.attrs ∙ sym (ap (λ (q : Option Object). option_map_or (λ (p : Object). p.entry.attrs) q 3) w.joins.stood);
    load_word = f.load_word;
    exec_word = f.exec_word;
    file = file;
    content = bytes_now x c path bytes stored image image' w;
  }

  pub old_file : IsFileAt x.space (length stored) x.c.o → OldAdded x c image image'
  old_file place =
      old_image.changes_by back (on_old x c path bytes stored image image' w) c []
      (joined.keeps x.nodes x.nodes' (Layout.Old x.space) (y' x c path bytes stored image image' w) x.listings x.c (h x c path bytes stored image image' w) x.addition x.nodes_edited c path bytes stored
      image image' w.joins refl)
      (asked x c path bytes stored image image' w (length stored) (makes_file file_view c path load exec stored (over_it x.c) w.joins.stood f.makes) size_is
      (λ some. ⊎_elim (λ new. new.1) (λ none. absurd (let zero = none.0 in omega (arith, zero, some))) place)
      (λ zero. ⊎_elim (λ new. absurd (let some = new.0 in omega (arith, zero, some))) (λ none. none.1) place) (λ found sound' order. no_directory _))
      (λ found edited. tree found edited)
    where
      stood : AreAt path (objects (leaves x.c))
      stood =
          joined.stood_at x.nodes x.nodes' (Layout.Old x.space) (y' x c path bytes stored image image' w) x.listings x.c (h x c path bytes stored image image' w) x.addition x.nodes_edited c path bytes
          stored image image' w.joins refl

      tree : (found : List Listing) → IsObjectEdit image image' (Layout.Old x.space) (y' x c path bytes stored image image' w) x.listings found (objects (leaves x.c)) (x.c.o ∷ [])
          → tree_of image' (y' x c path bytes stored image image' w) found ≡ changed (tree_of image (Layout.Old x.space) x.listings) c
      tree found edited =
          ⊎_elim
          (λ is.
          command_law.save image image' (Layout.Old x.space) (y' x c path bytes stored image image' w) x.listings found path load exec stored (objects (leaves x.c)) x.c.o edited stood made_file
          ∙ ap (changed (tree_of image (Layout.Old x.space) x.listings)) (sym is))
          (λ is.
          command_law.create image image' (Layout.Old x.space) (y' x c path bytes stored image image' w) x.listings found path load exec (length stored) (objects (leaves x.c)) x.c.o edited stood
          (subst (λ (bs : List ℕ). IsFileMade image' (y' x c path bytes stored image image' w) x.listings path load exec bs x.c.o) is.1 made_file)
          ∙ ap (changed (tree_of image (Layout.Old x.space) x.listings)) (sym is.0)) f.makes

-- ---- an empty directory

module _ (back : ReadsBack) (x : OldAddition) (path : Path) (d : Listing) (bytes stored image image' : List ℕ) (w : OldAdditionWritten x (Command.Cdir path) path bytes stored image image')
    (is : IsItsDirectory path (Layout.Old x.space) x.c d) where
  abbrev n : ℕ
  n = new_dir_size (dir_form (Layout.Old x.space))

  directory_size_is : object_size (dir_form (Layout.Old x.space)) x.c.o.entry ≡ n
  directory_size_is =
      ap (λ (b : Bool). cond b (directory_size (dir_form (Layout.Old x.space)) x.c.o.entry.len) x.c.o.entry.len) (ap is_directory is.attrs)
      ∙ ap (directory_size (dir_form (Layout.Old x.space))) is.len ∙ size_of_new (dir_form (Layout.Old x.space))

  pub old_directory : IsFirstFitted x.space n x.c.o → OldAdded x (Command.Cdir path) image image'
  old_directory place =
      let held = h x (Command.Cdir path) path bytes stored image image' w in
      let was : Opened = record { kind = x.kind; layout = Layout.Old x.space; listings = x.listings } in
      let nothing : over_it x.c ≡ None = ap (λ (os : List Object). over_it (record x.c { over = os })) is.new in
      let names : Makes was (Command.Cdir path) path n (over_it x.c) = subst (Makes was (Command.Cdir path) path n) (sym nothing) (makes_directory was path n refl) in
      let none = no_room x (Command.Cdir path) path bytes stored image image' w in
      old_image.changes_by back (on_old x (Command.Cdir path) path bytes stored image image' w) (Command.Cdir path) []
      (joined.keeps x.nodes x.nodes' (Layout.Old x.space) (y' x (Command.Cdir path) path bytes stored image image' w) x.listings x.c held x.addition x.nodes_edited (Command.Cdir path) path bytes stored
      image image' w.joins refl)
      (asked x (Command.Cdir path) path bytes stored image image' w n names directory_size_is (λ some. place.1) (λ zero. absurd (let some = place.0 in omega (arith, zero, some)))
      (λ found sound' order.
      joined.made_asked x.nodes x.nodes' (Layout.Old x.space) (y' x (Command.Cdir path) path bytes stored image image' w) x.listings x.c held x.addition x.nodes_edited (Command.Cdir path) path bytes stored
      image image' w.joins refl x.kind found sound' order (n, names) none d is (bytes_now x (Command.Cdir path) path bytes stored image image' w)))
      (λ found edited. command_law.cdir image image' (Layout.Old x.space) (y' x (Command.Cdir path) path bytes stored image image' w) x.listings found path x.c.o
      (subst (λ (os : List Object). IsObjectEdit image image' (Layout.Old x.space) (y' x (Command.Cdir path) path bytes stored image image' w) x.listings found (objects (map (λ (p : Object). (x.c.number, p)) os)) (x.c.o ∷ [])) is.new edited)
      (record { at_path = w.joins.path_is; name = (subst (λ (q : Option Object). HasEntry q path x.c) nothing w.joins.entry).1; attrs = is.attrs; load = is.load; exec = is.exec }))
