-- `save`, `create` and `cdir` without growth on images, by the laws of outcomes.
use Rattle.std.proofs.Common.{◌≡◌, ◌<◌, ◌≤◌, inl, inr, ⊎_elim, ℕ, ◌*◌, Bool, true, false, cond, List, [], ◌∷◌, length, map, refl, sym, ap, ap₂, subst, ◌∙◌, arith, Some, None, Option}
use Rattle.std.specs.Prelude.{Contains, IsPermutation, is_some, nat_lt, ◌==◌, ◌||◌}
use Rattle.std.specs.Option.{option_map_or}
use Rattle.std.proofs.lemmas.Bool.{eqb-true, lt-ltb, false_from_ne_true as unless}
use Rattle.fc_names.specs.Names.{Path, is_directory}
use Rattle.fc_names.specs.declared.name.NameForm.{NameForm}
use Rattle.fc_record.specs.declared.Geometry.{Geometry}
use Rattle.fc_newmap.specs.Map.{ZoneRun, bits_in, hole_runs, id_runs, is_used}
use Rattle.fc_model.specs.Command.{Command}
use Rattle.fc_model.specs.Tree.{holder}
use Rattle.fc_dirs.specs.Directory.{directory_size}
use Rattle.fc_image.specs.Layout.{Layout, bytes_in, dir_form, id_of, sectors_at}
use Rattle.fc_image.specs.Walk.{Listing, Object, is_directory_object, object_bytes, object_size}
use Rattle.fc_image.specs.Objects.{is_owned, objects_of, tree_of}
use Rattle.fc_image.specs.Opening.{Opened}
use Rattle.fc_image.specs.Sound.{AreSound}
use Rattle.fc_image.specs.Commanded.{AreAt, IsFileMade}
use Rattle.fc_image.specs.TreeEdits.{IsObjectEdit}
use Rattle.fc_model.specs.Answer.{changed}
use Rattle.fc_image.specs.effects.Sharing.{slack, units}
use Rattle.fc_image.specs.effects.Short.{Growth, moved_growth, new_dir_size, new_length, slack_for}
use Rattle.fc_image.specs.effects.Placed.{GrowthPlacedIn, HasAddress, NewObjectPlaced, file_low, holes_left, made_object, object_parts}
use Rattle.fc_image.specs.effects.Steady.{NewDirectory}
use Rattle.fc_image.proofs.CommandLemmas.{command_law}
use Rattle.fc_plan.proofs.Left.{left_of_none}
use Rattle.fc_plan.proofs.Units.{units_some}
use Rattle.fc_tree.proofs.MemberLemmas.{contains_here}
use Rattle.fc_changes.specs.Changed.{IsFileAt, IsInNewSpace}
use Rattle.fc_changes.proofs.BasicLemmas.{clash, map_or_none}
use Rattle.fc_changes.proofs.ChangeLemmas.{a_sector}
use Rattle.fc_changes.proofs.DirectoriesLemmas.{moved_none}
use Rattle.fc_changes.proofs.OutsideLemmas.{object_owns}
use Rattle.fc_changes.proofs.MadeLemmas.{file_low_small, no_slack, stands_new}
use Rattle.fc_changes.proofs.PlacedLemmas.{high, id_is, is_shared, same_bits, same_left}
use Rattle.fc_changes.proofs.SpaceLemmas.{untaken_is}
use Rattle.fc_laws.specs.nodes.Laws.{IsHeld}
use Rattle.fc_laws.proofs.lemmas.agree.BeforeLemmas.{new_shape}
use Rattle.fc_edits.specs.Addition.{ComesAlone, NewAddition, edit, leaves, over_it}
use Rattle.fc_edits.specs.Placing.{takings_of}
use Rattle.fc_edits.specs.Edit.{listings_after, objects}
use Rattle.fc_edits.specs.NewPlaces.{is_taken, untaken}
use Rattle.fc_edits.specs.PartsEdit.{NewPartsEdit}
use Rattle.fc_edits.proofs.lemmas.AddedPlaceLemmas.{added_places, free_place, is_fresh}
use Rattle.fc_edits.proofs.lemmas.AdditionLemmas as memory
use Rattle.fc_edits.proofs.lemmas.AgreeLemmas as ag
use Rattle.fc_edits.proofs.lemmas.NewAgreeLemmas as na
use Rattle.fc_outcomes.specs.Addition.{HasEntry, IsItsDirectory, IsItsFile, NewAdded, NewAdditionWritten}
use Rattle.fc_outcomes.specs.NewImage as new
use Rattle.fc_outcomes.specs.NewImage.{IsBelowRoot, NewImageEdit}
use Rattle.fc_outcomes.specs.Puts.{Put}
use Rattle.fc_outcomes.proofs.lemmas.JoinedLemmas as joined
use Rattle.fc_outcomes.proofs.lemmas.JoinedLemmas.{Makes, makes_directory, makes_file}
use Rattle.fc_outcomes.proofs.lemmas.NewImageLemmas as new_image
use Rattle.fc_outcomes.proofs.lemmas.PutLemmas.{directory_bytes}
use Rattle.fc_changes.proofs.CdirLemmas.{size_of_new}
use Rattle.fc_image.proofs.EntriesLemmas.{later as contains_later}

-- what is left when something is taken for one identifier
pub untaken_one : (holes : List ZoneRun) (id : ℕ) (parts : List ZoneRun) → untaken holes (takings_of id parts) ≡ holes_left holes parts
untaken_one holes id [] = sym (left_of_none holes)
untaken_one holes id (p ∷ parts) = refl

pub taken_is : (id : ℕ) (parts : List ZoneRun) (k : ℕ) → is_taken (takings_of id parts) k ≡ true → k ≡ id
taken_is id [] k h = absurd (cc)
taken_is id (p ∷ parts) k h = by (id == k) refl h
  where
    by : (b : Bool) → (id == k) ≡ b → (b || false) ≡ true → k ≡ id
    by true e g = sym (eqb-true id k e)
    by false e g = absurd (cc)

pub none_taken : (id : ℕ) (parts : List ZoneRun) (k : ℕ) → parts ≡ [] → is_taken (takings_of id parts) k ≡ true → ⊥
none_taken id parts k none taken = let h : is_taken (takings_of id []) k ≡ true = subst (λ (ps : List ZoneRun). is_taken (takings_of id ps) k ≡ true) none taken in cc

-- ---- on a new map

module _ (x : NewAddition) (c : Command) (path : Path) (bytes stored image image' : List ℕ) (w : NewAdditionWritten x c path bytes stored image image') where
  abbrev o : Object
  o = x.c.o

  abbrev parts : NewPartsEdit
  parts = memory.new_parts x

  h : IsHeld x.nodes (Layout.New x.m) x.listings
  h = ag.h (na.held_edit parts)

  form : dir_form (Layout.New x.m') ≡ dir_form (Layout.New x.m)
  form = (na.walk_fits parts).form

  abbrev its : Put
  its = record { sectors = x.c.l.object.sectors; bytes = bytes }

  abbrev own : Put
  own = record { sectors = o.sectors; bytes = stored }

  abbrev on_new : NewImageEdit
  on_new = record {
    parts = parts;
    takings = takings_of x.id x.parts;
    gone = x.gone;
    r = w.r;
    image = image;
    image' = image';
    puts = its ∷ (own ∷ []);
    new_kind = w.new_kind;
    opens = w.opens;
    places = added_places x;
    out = w.out;
    puts_of = joined.puts_of x.nodes x.nodes' (Layout.New x.m) (Layout.New x.m') x.listings x.c h x.addition x.nodes_edited c path bytes stored image image' w.joins form;
    root = inl (record { after = w.after; stays = λ p at none. record { leaves = refl; joins = refl; keeps = record { entry = refl; sectors = refl } } });
  }

  abbrev v : Opened
  v = record { kind = x.kind; layout = Layout.New x.m; listings = x.listings }

  -- the object's bytes
  bytes_now : object_bytes image' (Layout.New x.m') o ≡ stored
  bytes_now =
      ap₂ (λ (size n : ℕ). bytes_in size image' o.sectors n) (ap (λ (g : Geometry). g.sector) x.geometry)
      (ap (λ (f : NameForm). object_size f o.entry) form ∙ sym w.joins.stored_long) ∙ w.out.there own (contains_later its own (own ∷ []) (contains_here own []))

  -- An identifier that gets runs is the object's.
  module _ (names : (n : ℕ) × Makes v c path n (over_it x.c)) (high_owned : (k : ℕ) → is_taken (takings_of x.id x.parts) k ≡ true → (found : List Listing) → Contains (objects_of found) o → (3 ≤ k) × (is_owned (objects_of found) k ≡ true))
      (parts_left : holes_left (hole_runs x.m) (cond (nat_lt 0 (cond (is_some (slack_for v c)) 0 (units x.m.geometry names.0))) (id_runs x.m' (id_of o.entry.address)) []) ≡ holes_left (hole_runs x.m) x.parts)
      (lies : NewObjectPlaced x.m x.m' names.0 (slack_for v c) (Some o)) (empty : names.0 ≡ 0 → o.entry.address ≡ 0)
      (made : (found : List Listing) → AreSound (Layout.New x.m') found → IsPermutation (listings_after (edit x.c)) found → NewDirectory image' (record { kind = x.kind; layout = Layout.New x.m'; listings = found }) c) where
    asked : new.IsAskedOf on_new c
    asked found sound' order =
        let there = joined.made_is x.nodes x.nodes' (Layout.New x.m) (Layout.New x.m') x.listings x.c h x.addition x.nodes_edited c path bytes stored image image' w.joins form x.kind found sound' order names w.no_growth in
        let among = joined.now_found x.nodes x.nodes' (Layout.New x.m) (Layout.New x.m') x.listings x.c h x.addition x.nodes_edited c path bytes stored image image' w.joins form x.kind found sound' order names w.no_growth in
        let now = new.is_now on_new found in
        record {
          root_keeps = subst IsBelowRoot (sym w.no_growth) tt;
          map = record {
            left = λ k used.
                (let none : is_taken (takings_of x.id x.parts) k ≡ false = unless (is_taken (takings_of x.id x.parts) k)
                (λ taken. clash (is_used x.m k) used (is_fresh x.m x.id x.parts (free_place x).fresh k taken)) in
                none ∙ sym (map_or_none _ (moved_growth v c) false (moved_none v now c w.no_growth)));
            fresh = λ k taken used. high_owned k taken found among;
            untaken_is = untaken_one (hole_runs x.m) x.id x.parts ∙ sym parts_left
                ∙ ap (λ (n : ℕ). holes_left (hole_runs x.m) (cond (nat_lt 0 (cond (is_some (slack_for v c)) 0 (units x.m.geometry n))) (id_runs x.m' (id_of o.entry.address)) [])) (sym names.1.long)
                ∙ ap (λ (q : Option Object). holes_left (hole_runs x.m) (object_parts x.m x.m' v c q)) (sym there)
                ∙ sym (untaken_is v now c x.m x.m' (object_parts x.m x.m' v c (made_object now c)) w.no_growth refl);
          };
          placed = record {
            object = subst (λ (q : Option Object). NewObjectPlaced x.m x.m' (new_length v c) (slack_for v c) q) (sym there)
                (subst (λ (n : ℕ). NewObjectPlaced x.m x.m' n (slack_for v c) (Some o)) (sym names.1.long) lies);
            empty = λ none. subst (λ (q : Option Object). HasAddress q 0) (sym there) (empty (names.1.empty none));
            growth = subst (λ (q : Option Growth). GrowthPlacedIn v now c q) (sym w.no_growth) tt;
          };
          directories = joined.asked x.nodes x.nodes' (Layout.New x.m) (Layout.New x.m') x.listings x.c h x.addition x.nodes_edited c path bytes stored image image' w.joins form x.kind found sound' order names
              w.no_growth
              (directory_bytes (Layout.New x.m) (Layout.New x.m') (its ∷ (own ∷ [])) image image' x.c.l.object x.c.content (λ i. (x.geometry i).sector) w.out
              (joined.its_put x.nodes x.nodes' (Layout.New x.m) (Layout.New x.m') x.listings x.c h x.addition x.nodes_edited c path bytes stored image image' w.joins form));
          named = names.1.stays now _;
          entry = joined.entry_asked x.nodes x.nodes' (Layout.New x.m) (Layout.New x.m') x.listings x.c h x.addition x.nodes_edited c path bytes stored image image' w.joins form x.kind found sound' order names
              w.no_growth;
          made = made found sound' order;
        }

  -- ---- in new space

  module _ (n low : ℕ) (small : low < 256) (place : IsInNewSpace x.m n low x.id x.parts o) where
    its_id : id_of o.entry.address ≡ x.id
    its_id = id_is x.m x.m' n low x.id x.parts x.gone o x.agreed.is_map x.geometry small place x.space

    left_new : holes_left (hole_runs x.m) (cond (nat_lt 0 (units x.m.geometry n)) (id_runs x.m' (id_of o.entry.address)) []) ≡ holes_left (hole_runs x.m) x.parts
    left_new =
        ap (λ (b : Bool). holes_left (hole_runs x.m) (cond b (id_runs x.m' (id_of o.entry.address)) [])) (lt-ltb 0 (units x.m.geometry n) (units_some x.m n x.agreed.is_map place.some))
        ∙ ap (λ (k : ℕ). holes_left (hole_runs x.m) (id_runs x.m' k)) its_id ∙ same_left x.m x.m' n low x.id x.parts x.gone o x.agreed.is_map x.geometry small place x.space

    high_new : (k : ℕ) → is_taken (takings_of x.id x.parts) k ≡ true → object_size (dir_form (Layout.New x.m')) o.entry ≡ n → (found : List Listing) → Contains (objects_of found) o
        → (3 ≤ k) × (is_owned (objects_of found) k ≡ true)
    high_new k taken size found among =
        let same = taken_is x.id x.parts k taken in
        let sector : 0 < x.m'.geometry.sector = subst (λ (g : Geometry). 0 < g.sector) (sym x.geometry) (new_shape x.m x.agreed.is_map).some in
        let at : sectors_at (Layout.New x.m') o.entry.address n ≡ Some o.sectors = subst (λ (j : ℕ). sectors_at (Layout.New x.m') o.entry.address j ≡ Some o.sectors) size x.at in
        let s = a_sector x.m' o.entry.address n o.sectors place.some sector at in (
          subst (λ (j : ℕ). 3 ≤ j) (sym same) (high x.m x.m' n low x.id x.parts x.gone o x.agreed.is_map x.geometry small place x.space),
          subst (λ (j : ℕ). is_owned (objects_of found) j ≡ true) (its_id ∙ sym same) (object_owns (objects_of found) o s.0 among s.1),
        )

-- ---- a file

module _ (x : NewAddition) (c : Command) (path : Path) (load exec : ℕ) (bytes stored image image' : List ℕ) (w : NewAdditionWritten x c path bytes stored image image')
    (f : IsItsFile c path load exec x.c stored) where
  abbrev file_view : Opened
  file_view = record { kind = x.kind; layout = Layout.New x.m; listings = x.listings }

  file : is_directory_object x.c.o ≡ false
  file = subst (λ (ks : List Listing). ComesAlone (Layout.New x.m) ks x.c.o) f.alone x.addition.alone

  file_size : (layout : Layout) → object_size (dir_form layout) x.c.o.entry ≡ x.c.o.entry.len
  file_size layout = ap (λ (b : Bool). cond b (directory_size (dir_form layout) x.c.o.entry.len) x.c.o.entry.len) file

  len_is : x.c.o.entry.len ≡ length stored
  len_is = sym (file_size (Layout.New x.m)) ∙ sym w.joins.stored_long

  size_is : object_size (dir_form (Layout.New x.m')) x.c.o.entry ≡ length stored
  size_is = file_size (Layout.New x.m') ∙ len_is

  file_names : Makes file_view c path (length stored) (over_it x.c)
  file_names = makes_file file_view c path load exec stored (over_it x.c) w.joins.stood f.makes

  share_is : slack_for file_view c ≡ slack x.m (objects_of x.listings) (holder path) (length stored)
  share_is = ⊎_elim (λ is. ap (slack_for file_view) is) (λ is. ap (slack_for file_view) is.0) f.makes

  no_directory : (image'' : List ℕ) (v : Opened) → NewDirectory image'' v c
  no_directory image'' v = ⊎_elim (λ is. subst (λ (d : Command). NewDirectory image'' v d) (sym is) tt) (λ is. subst (λ (d : Command). NewDirectory image'' v d) (sym is.0) tt) f.makes

  made_file : IsFileMade image' (Layout.New x.m') x.listings path load exec stored x.c.o
  made_file = record {
    at_path = w.joins.path_is;
    name = joined.its_name x.nodes x.nodes' (Layout.New x.m) (Layout.New x.m') x.listings x.c (h x c path bytes stored image image' w) x.addition x.nodes_edited c path bytes stored image image' w.joins
        (form x c path bytes stored image image' w);
    attrs = f.attrs ∙ sym (ap (λ (q : Option Object). option_map_or (λ (p : Object). p.entry.attrs) q 3) w.joins.stood);
    load_word = f.load_word;
    exec_word = f.exec_word;
    file = file;
    content = bytes_now x c path bytes stored image image' w;
  }

  abbrev slots : ℕ → Option (ℕ × ℕ) → List ZoneRun
  slots n share = cond (nat_lt 0 (cond (is_some share) 0 (units x.m.geometry n))) (id_runs x.m' (id_of x.c.o.entry.address)) []

  left_by : IsFileAt x.m (objects_of x.listings) (holder path) (length stored) x.id x.parts x.c.o
      → holes_left (hole_runs x.m) (slots (length stored) (slack x.m (objects_of x.listings) (holder path) (length stored))) ≡ holes_left (hole_runs x.m) x.parts
  left_by (inl shared) = ap (λ (q : Option (ℕ × ℕ)). holes_left (hole_runs x.m) (slots (length stored) q)) shared.found ∙ ap (holes_left (hole_runs x.m)) (sym shared.nothing)
  left_by (inr (inl fresh)) =
      ap (λ (q : Option (ℕ × ℕ)). holes_left (hole_runs x.m) (slots (length stored) q)) fresh.0
      ∙ left_new x c path bytes stored image image' w (length stored) (file_low x.m.geometry (bits_in x.parts * x.m.geometry.bit_bytes) (length stored))
      (file_low_small x.m.geometry (bits_in x.parts * x.m.geometry.bit_bytes) (length stored)) fresh.1
  left_by (inr (inr none)) =
      ap (λ (k : ℕ). holes_left (hole_runs x.m) (cond (nat_lt 0 k) (id_runs x.m' (id_of x.c.o.entry.address)) [])) (no_units (is_some (slack x.m (objects_of x.listings) (holder path) (length stored))))
      ∙ ap (holes_left (hole_runs x.m)) (sym none.nothing)
    where
      no_units : (b : Bool) → cond b 0 (units x.m.geometry (length stored)) ≡ 0
      no_units true = refl
      no_units false = ap (units x.m.geometry) none.none

  lies_by : IsFileAt x.m (objects_of x.listings) (holder path) (length stored) x.id x.parts x.c.o
      → NewObjectPlaced x.m x.m' (length stored) (slack x.m (objects_of x.listings) (holder path) (length stored)) (Some x.c.o)
  lies_by (inl shared) = subst (λ (q : Option (ℕ × ℕ)). NewObjectPlaced x.m x.m' (length stored) q (Some x.c.o)) (sym shared.found) shared.address
  lies_by (inr (inl fresh)) =
      let small = file_low_small x.m.geometry (bits_in x.parts * x.m.geometry.bit_bytes) (length stored) in
      subst (λ (q : Option (ℕ × ℕ)). NewObjectPlaced x.m x.m' (length stored) q (Some x.c.o)) (sym fresh.0)
      (λ some. stands_new x.m x.m' (length stored) _ x.id x.parts x.gone x.c.o x.agreed.is_map x.geometry small fresh.1 x.space
      (ap (λ (b : Bool). cond b 0 (file_low x.m'.geometry (bits_in (id_runs x.m' (id_of x.c.o.entry.address)) * x.m'.geometry.bit_bytes) x.c.o.entry.len)) file
      ∙ ap (λ (g : Geometry). file_low g (bits_in (id_runs x.m' (id_of x.c.o.entry.address)) * g.bit_bytes) x.c.o.entry.len) x.geometry
      ∙ ap₂ (λ (k len : ℕ). file_low x.m.geometry (bits_in (id_runs x.m' k) * x.m.geometry.bit_bytes) len) (id_is x.m x.m' (length stored) _ x.id x.parts x.gone x.c.o x.agreed.is_map x.geometry small fresh.1 x.space) len_is
      ∙ ap (λ (k : ℕ). file_low x.m.geometry (k * x.m.geometry.bit_bytes) (length stored)) (same_bits x.m x.m' (length stored) _ x.id x.parts x.gone x.c.o x.agreed.is_map x.geometry small fresh.1 x.space)))
  lies_by (inr (inr none)) =
      subst (λ (q : Option (ℕ × ℕ)). NewObjectPlaced x.m x.m' (length stored) q (Some x.c.o)) (sym (no_slack x.m (objects_of x.listings) (holder path) (length stored) none.none))
      (λ some. absurd (let zero' = none.none in omega (arith, zero', some)))

  empty_by : IsFileAt x.m (objects_of x.listings) (holder path) (length stored) x.id x.parts x.c.o → length stored ≡ 0 → x.c.o.entry.address ≡ 0
  empty_by (inl shared) none = absurd (let some = (is_shared x.m (objects_of x.listings) (holder path) (length stored) shared.share shared.found).some in omega (arith, none, some))
  empty_by (inr (inl fresh)) none = absurd (let some = fresh.1.some in omega (arith, none, some))
  empty_by (inr (inr nowhere)) none = nowhere.address

  high_by : IsFileAt x.m (objects_of x.listings) (holder path) (length stored) x.id x.parts x.c.o → (k : ℕ) → is_taken (takings_of x.id x.parts) k ≡ true → (found : List Listing)
      → Contains (objects_of found) x.c.o → (3 ≤ k) × (is_owned (objects_of found) k ≡ true)
  high_by (inl shared) k taken found among = absurd (none_taken x.id x.parts k shared.nothing taken)
  high_by (inr (inl fresh)) k taken found among =
      high_new x c path bytes stored image image' w (length stored) (file_low x.m.geometry (bits_in x.parts * x.m.geometry.bit_bytes) (length stored))
      (file_low_small x.m.geometry (bits_in x.parts * x.m.geometry.bit_bytes) (length stored)) fresh.1 k taken size_is found among
  high_by (inr (inr none)) k taken found among = absurd (none_taken x.id x.parts k none.nothing taken)

  pub new_file : IsFileAt x.m (objects_of x.listings) (holder path) (length stored) x.id x.parts x.c.o → NewAdded x c image image'
  new_file place =
      new_image.changes_by (on_new x c path bytes stored image image' w) c []
      (joined.keeps x.nodes x.nodes' (Layout.New x.m) (Layout.New x.m') x.listings x.c (h x c path bytes stored image image' w) x.addition x.nodes_edited c path bytes stored image image' w.joins
      (form x c path bytes stored image image' w))
      (asked x c path bytes stored image image' w (length stored, file_names) (high_by place)
      (ap (λ (q : Option (ℕ × ℕ)). holes_left (hole_runs x.m) (slots (length stored) q)) share_is ∙ left_by place)
      (subst (λ (q : Option (ℕ × ℕ)). NewObjectPlaced x.m x.m' (length stored) q (Some x.c.o)) (sym share_is) (lies_by place)) (empty_by place) (λ found sound' order. no_directory image' _))
      (λ found edited. tree found edited)
    where
      stood : AreAt path (objects (leaves x.c))
      stood =
          joined.stood_at x.nodes x.nodes' (Layout.New x.m) (Layout.New x.m') x.listings x.c (h x c path bytes stored image image' w) x.addition x.nodes_edited c path bytes stored image image' w.joins
          (form x c path bytes stored image image' w)

      tree : (found : List Listing) → IsObjectEdit image image' (Layout.New x.m) (Layout.New x.m') x.listings found (objects (leaves x.c)) (x.c.o ∷ []) → tree_of image' (Layout.New x.m') found ≡ changed (tree_of image (Layout.New x.m) x.listings) c
      tree found edited =
          ⊎_elim
          (λ is.
          command_law.save image image' (Layout.New x.m) (Layout.New x.m') x.listings found path load exec stored (objects (leaves x.c)) x.c.o edited stood made_file
          ∙ ap (changed (tree_of image (Layout.New x.m) x.listings)) (sym is))
          (λ is.
          command_law.create image image' (Layout.New x.m) (Layout.New x.m') x.listings found path load exec (length stored) (objects (leaves x.c)) x.c.o edited stood
          (subst (λ (bs : List ℕ). IsFileMade image' (Layout.New x.m') x.listings path load exec bs x.c.o) is.1 made_file) ∙ ap (changed (tree_of image (Layout.New x.m) x.listings)) (sym is.0)) f.makes

-- ---- an empty directory

module _ (x : NewAddition) (path : Path) (d : Listing) (bytes stored image image' : List ℕ) (w : NewAdditionWritten x (Command.Cdir path) path bytes stored image image')
    (is : IsItsDirectory path (Layout.New x.m) x.c d) where
  abbrev n : ℕ
  n = new_dir_size (dir_form (Layout.New x.m))

  abbrev its_form : dir_form (Layout.New x.m') ≡ dir_form (Layout.New x.m)
  its_form = form x (Command.Cdir path) path bytes stored image image' w

  directory : is_directory_object x.c.o ≡ true
  directory = ap is_directory is.attrs

  directory_size_is : object_size (dir_form (Layout.New x.m')) x.c.o.entry ≡ n
  directory_size_is =
      ap (λ (b : Bool). cond b (directory_size (dir_form (Layout.New x.m')) x.c.o.entry.len) x.c.o.entry.len) directory
      ∙ ap₂ (λ (f : NameForm) (k : ℕ). directory_size f k) its_form is.len ∙ size_of_new (dir_form (Layout.New x.m))

  pub new_directory : IsInNewSpace x.m n 0 x.id x.parts x.c.o → NewAdded x (Command.Cdir path) image image'
  new_directory place =
      let held = h x (Command.Cdir path) path bytes stored image image' w in
      let was : Opened = record { kind = x.kind; layout = Layout.New x.m; listings = x.listings } in
      let nothing : over_it x.c ≡ None = ap (λ (os : List Object). over_it (record x.c { over = os })) is.new in
      let names : Makes was (Command.Cdir path) path n (over_it x.c) = subst (Makes was (Command.Cdir path) path n) (sym nothing) (makes_directory was path n refl) in
      new_image.changes_by (on_new x (Command.Cdir path) path bytes stored image image' w) (Command.Cdir path) []
      (joined.keeps x.nodes x.nodes' (Layout.New x.m) (Layout.New x.m') x.listings x.c held x.addition x.nodes_edited (Command.Cdir path) path bytes stored image image' w.joins its_form)
      (asked x (Command.Cdir path) path bytes stored image image' w (n, names)
      (λ k taken found among. high_new x (Command.Cdir path) path bytes stored image image' w n 0 (omega arith) place k taken directory_size_is found among)
      (left_new x (Command.Cdir path) path bytes stored image image' w n 0 (omega arith) place)
      (λ some. stands_new x.m x.m' n 0 x.id x.parts x.gone x.c.o x.agreed.is_map x.geometry (omega arith) place x.space
      (ap (λ (b : Bool). cond b 0 (file_low x.m'.geometry (bits_in (id_runs x.m' (id_of x.c.o.entry.address)) * x.m'.geometry.bit_bytes) x.c.o.entry.len)) directory))
      (λ none. absurd (let some = place.some in omega (arith, none, some)))
      (λ found sound' order.
      joined.made_asked x.nodes x.nodes' (Layout.New x.m) (Layout.New x.m') x.listings x.c held x.addition x.nodes_edited (Command.Cdir path) path bytes stored image image' w.joins its_form x.kind found sound' order
      (n, names) w.no_growth d is (bytes_now x (Command.Cdir path) path bytes stored image image' w)))
      (λ found edited. command_law.cdir image image' (Layout.New x.m) (Layout.New x.m') x.listings found path x.c.o
      (subst (λ (os : List Object). IsObjectEdit image image' (Layout.New x.m) (Layout.New x.m') x.listings found (objects (map (λ (p : Object). (x.c.number, p)) os)) (x.c.o ∷ [])) is.new edited)
      (record { at_path = w.joins.path_is; name = (subst (λ (q : Option Object). HasEntry q path x.c) nothing w.joins.entry).1; attrs = is.attrs; load = is.load; exec = is.exec }))
