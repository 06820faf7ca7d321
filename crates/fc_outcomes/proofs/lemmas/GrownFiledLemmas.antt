-- The file and the directory that come to a directory that grows, on images.
use Rattle.std.proofs.Common.{◌≡◌, ◌<◌, ◌≤◌, inl, inr, ⊎_elim, ℕ, ◌*◌, Bool, true, false, cond, List, [], ◌∷◌, ◌++◌, length, map, refl, sym, ap, ap₂, subst, ◌∙◌, arith, Some, None, Option}
use Rattle.std.specs.Prelude.{Contains, IsPermutation, IsSomeAnd, is_some, nat_lt}
use Rattle.std.specs.Option.{option_map_or}
use Rattle.std.proofs.lemmas.List.Elements.{Contains-append_left}
use Rattle.fc_names.specs.Names.{Path, is_directory, is_same_path}
use Rattle.fc_names.specs.declared.name.NameForm.{NameForm}
use Rattle.fc_record.specs.declared.Geometry.{Geometry}
use Rattle.fc_newmap.specs.Map.{ZoneRun, bits_in, hole_runs, id_runs}
use Rattle.fc_model.specs.Answer.{changed}
use Rattle.fc_model.specs.Command.{Command}
use Rattle.fc_model.specs.Tree.{holder, last_name}
use Rattle.fc_dirs.specs.Directory.{directory_size}
use Rattle.fc_image.specs.Layout.{Layout, dir_form, id_of}
use Rattle.fc_image.specs.Walk.{Listing, Object, is_directory_object, object_bytes, object_size}
use Rattle.fc_image.specs.Objects.{is_owned, listing_at, objects_of, tree_of}
use Rattle.fc_image.specs.Opening.{Opened}
use Rattle.fc_image.specs.Sound.{AreSound}
use Rattle.fc_image.specs.Commanded.{IsFileMade}
use Rattle.fc_image.specs.TreeEdits.{IsObjectEdit}
use Rattle.fc_image.specs.effects.Sharing.{slack, units}
use Rattle.fc_image.specs.effects.Short.{new_dir_size, slack_for}
use Rattle.fc_image.specs.effects.Placed.{NewObjectPlaced, file_low, holes_left}
use Rattle.fc_image.specs.effects.Steady.{AreWritten, IsMadeDirectory, NewDirectory, new_directory}
use Rattle.fc_image.proofs.CommandLemmas.{command_law}
use Rattle.fc_image.proofs.LookupLemmas.{lookup_law}
use Rattle.fc_tree.proofs.MemberLemmas.{contains_here, in_map}
use Rattle.fc_changes.specs.Changed.{IsFileAt, IsInNewSpace}
use Rattle.fc_changes.proofs.MadeLemmas.{file_low_small, no_slack}
use Rattle.fc_changes.proofs.PlacedLemmas.{is_shared}
use Rattle.fc_laws.proofs.lemmas.nodes.ListLemmas.{in_other}
use Rattle.fc_edits.specs.Addition.{ComesAlone, over_it}
use Rattle.fc_edits.specs.Edit.{Edit, listings_after, now, objects, still}
use Rattle.fc_edits.specs.GrownAddition.{NewGrownAddition, grown_edit}
use Rattle.fc_edits.specs.NewPlaces.{is_taken}
use Rattle.fc_edits.specs.Placing.{takings_of}
use Rattle.fc_edits.proofs.lemmas.AdditionLemmas as memory
use Rattle.fc_edits.proofs.lemmas.NewSpaceLemmas.{bits_same, stands_now}
use Rattle.fc_outcomes.specs.Addition.{IsItsFile}
use Rattle.fc_outcomes.specs.Puts.{Put}
use Rattle.fc_outcomes.specs.GrownAddition.{GrownAdded, GrownAdditionLaw, IsItsGrownDirectory, NewGrownAdditionWritten}
use Rattle.fc_outcomes.proofs.lemmas.GrownAddedLemmas as added
use Rattle.fc_outcomes.proofs.lemmas.GrownAskedLemmas as asked
use Rattle.fc_outcomes.proofs.lemmas.AddedLemmas.{none_taken}
use Rattle.fc_outcomes.proofs.lemmas.JoinedLemmas.{Makes, makes_directory, makes_file}
use Rattle.fc_edits.proofs.lemmas.GrownAdditionLemmas as ga
use Rattle.fc_outcomes.proofs.lemmas.GrownNewSpaceLemmas.{high_new, its_id, left_new, runs_are, taken_new}
use Rattle.fc_outcomes.proofs.lemmas.GrownMayLemmas.{directory_may, object_may}
use Rattle.fc_outcomes.proofs.lemmas.NewImageLemmas as new_image
use Rattle.fc_changes.proofs.CdirLemmas.{size_of_new}

-- ---- a file

module _ (x : NewGrownAddition) (c : Command) (path : Path) (load exec : ℕ) (puts : List Put) (stored image image' : List ℕ) (wr : NewGrownAdditionWritten x c path puts stored image image')
    (f : IsItsFile c path load exec x.c stored) where
  abbrev v : Opened
  v = record { kind = x.kind; layout = Layout.New x.m; listings = x.listings }

  abbrev o : Object
  o = x.c.o

  abbrev n : ℕ
  n = length stored

  file : is_directory_object o ≡ false
  file = subst (λ (ks : List Listing). ComesAlone (Layout.New x.m) ks o) f.alone x.comes.alone

  file_size : (layout : Layout) → object_size (dir_form layout) o.entry ≡ o.entry.len
  file_size layout = ap (λ (b : Bool). cond b (directory_size (dir_form layout) o.entry.len) o.entry.len) file

  len_is : o.entry.len ≡ n
  len_is = sym (file_size (Layout.New x.m)) ∙ sym wr.stored_long

  size_is : object_size (dir_form (Layout.New x.m')) o.entry ≡ n
  size_is = file_size (Layout.New x.m') ∙ len_is

  names : Makes v c path n None
  names = makes_file v c path load exec stored None wr.stood f.makes

  share_is : slack_for v c ≡ slack x.m (objects_of x.listings) (holder path) n
  share_is = ⊎_elim (λ is. ap (slack_for v) is) (λ is. ap (slack_for v) is.0) f.makes

  no_directory : (image'' : List ℕ) (w : Opened) → NewDirectory image'' w c
  no_directory image'' w = ⊎_elim (λ is. subst (λ (d : Command). NewDirectory image'' w d) (sym is) tt) (λ is. subst (λ (d : Command). NewDirectory image'' w d) (sym is.0) tt) f.makes

  none_over : over_it x.c ≡ None
  none_over = ap (λ (os : List Object). over_it (record x.c { over = os })) x.new

  made_file : IsFileMade image' (Layout.New x.m') x.listings path load exec stored o
  made_file = record {
    at_path = wr.path_is;
    name = wr.entry.1 ∙ sym (ap (λ (q : Option Object). option_map_or (λ (p : Object). p.entry.name) q (last_name path)) wr.stood);
    attrs = f.attrs ∙ ap (λ (q : Option Object). option_map_or (λ (p : Object). p.entry.attrs) q 3) none_over
        ∙ sym (ap (λ (q : Option Object). option_map_or (λ (p : Object). p.entry.attrs) q 3) wr.stood);
    load_word = f.load_word;
    exec_word = f.exec_word;
    file = file;
    content = added.bytes_now x c path puts stored image image' wr;
  }

  abbrev its_place : Type 0
  its_place = IsFileAt x.m (objects_of x.listings) (holder path) n x.id x.parts o

  abbrev slots : Option (ℕ × ℕ) → List ZoneRun
  slots share = cond (nat_lt 0 (cond (is_some share) 0 (units x.m.geometry n))) (id_runs x.m' (id_of o.entry.address)) []

  abbrev low : ℕ
  low = file_low x.m.geometry (bits_in x.parts * x.m.geometry.bit_bytes) n

  small : low < 256
  small = file_low_small x.m.geometry (bits_in x.parts * x.m.geometry.bit_bytes) n

  no_units : n ≡ 0 → (b : Bool) → cond b 0 (units x.m.geometry n) ≡ 0
  no_units none true = refl
  no_units none false = ap (units x.m.geometry) none

  left_by : its_place → holes_left (hole_runs x.m) (slots (slack x.m (objects_of x.listings) (holder path) n)) ≡ holes_left (hole_runs x.m) x.parts
  left_by (inl shared) = ap (λ (q : Option (ℕ × ℕ)). holes_left (hole_runs x.m) (slots q)) shared.found ∙ ap (holes_left (hole_runs x.m)) (sym shared.nothing)
  left_by (inr (inl fresh)) = ap (λ (q : Option (ℕ × ℕ)). holes_left (hole_runs x.m) (slots q)) fresh.0 ∙ left_new (ga.placing x) n low small fresh.1
  left_by (inr (inr none)) =
      ap (λ (k : ℕ). holes_left (hole_runs x.m) (cond (nat_lt 0 k) (id_runs x.m' (id_of o.entry.address)) [])) (no_units none.none (is_some (slack x.m (objects_of x.listings) (holder path) n)))
      ∙ ap (holes_left (hole_runs x.m)) (sym none.nothing)

  taken_by : its_place → 0 < cond (is_some (slack x.m (objects_of x.listings) (holder path) n)) 0 (units x.m.geometry n) → is_taken (takings_of x.id x.parts) (id_of o.entry.address) ≡ true
  taken_by (inl shared) some =
      absurd (let none : cond (is_some (slack x.m (objects_of x.listings) (holder path) n)) 0 (units x.m.geometry n) ≡ 0 = ap (λ (q : Option (ℕ × ℕ)). cond (is_some q) 0 (units x.m.geometry n)) shared.found in omega (arith, some, none))
  taken_by (inr (inl fresh)) some = taken_new (ga.placing x) n low small fresh.1
  taken_by (inr (inr none)) some = absurd (let zero' = no_units none.none (is_some (slack x.m (objects_of x.listings) (holder path) n)) in omega (arith, some, zero'))

  lies_by : its_place → NewObjectPlaced x.m x.m' n (slack x.m (objects_of x.listings) (holder path) n) (Some o)
  lies_by (inl shared) = subst (λ (q : Option (ℕ × ℕ)). NewObjectPlaced x.m x.m' n q (Some o)) (sym shared.found) shared.address
  lies_by (inr (inl fresh)) =
      let runs = runs_are (ga.placing x) n low small fresh.1 in
      subst (λ (q : Option (ℕ × ℕ)). NewObjectPlaced x.m x.m' n q (Some o)) (sym fresh.0)
      (λ some. stands_now x.m x.m' n low x.id x.parts o x.agreed.is_map x.geometry small fresh.1 runs
      (ap (λ (b : Bool). cond b 0 (file_low x.m'.geometry (bits_in (id_runs x.m' (id_of o.entry.address)) * x.m'.geometry.bit_bytes) o.entry.len)) file
      ∙ ap (λ (g : Geometry). file_low g (bits_in (id_runs x.m' (id_of o.entry.address)) * g.bit_bytes) o.entry.len) x.geometry
      ∙ ap₂ (λ (k len : ℕ). file_low x.m.geometry (bits_in (id_runs x.m' k) * x.m.geometry.bit_bytes) len) (its_id (ga.placing x) n low small fresh.1) len_is
      ∙ ap (λ (k : ℕ). file_low x.m.geometry (k * x.m.geometry.bit_bytes) n) (bits_same x.m x.m' n low x.id x.parts o x.agreed.is_map x.geometry small fresh.1 runs)))
  lies_by (inr (inr none)) =
      subst (λ (q : Option (ℕ × ℕ)). NewObjectPlaced x.m x.m' n q (Some o)) (sym (no_slack x.m (objects_of x.listings) (holder path) n none.none))
      (λ some. absurd (let zero' = none.none in omega (arith, zero', some)))

  empty_by : its_place → n ≡ 0 → o.entry.address ≡ 0
  empty_by (inl shared) none = absurd (let some = (is_shared x.m (objects_of x.listings) (holder path) n shared.share shared.found).some in omega (arith, none, some))
  empty_by (inr (inl fresh)) none = absurd (let some = fresh.1.some in omega (arith, none, some))
  empty_by (inr (inr nowhere)) none = nowhere.address

  high_by : its_place → (k : ℕ) → is_taken (takings_of x.id x.parts) k ≡ true → (found : List Listing) → Contains (objects_of found) o → (3 ≤ k) × (is_owned (objects_of found) k ≡ true)
  high_by (inl shared) k taken found among = absurd (none_taken x.id x.parts k shared.nothing taken)
  high_by (inr (inl fresh)) k taken found among = high_new (ga.placing x) n low small fresh.1 k taken size_is found among
  high_by (inr (inr none)) k taken found among = absurd (none_taken x.id x.parts k none.nothing taken)

  pub new_file : its_place → GrownAdded x c image image'
  new_file place =
      new_image.changes_by (added.on_new x c path puts stored image image' wr) c [] (added.keeps x c path puts stored image image' wr)
      (λ found sound' order.
      asked.asked x c path puts stored image image' wr n names found sound' order
      (ap (λ (q : Option (ℕ × ℕ)). holes_left (hole_runs x.m) (slots q)) share_is ∙ left_by place)
      (λ k taken. high_by place k taken found (asked.o_found x c path puts stored image image' wr n names found sound' order))
      (subst (λ (q : Option (ℕ × ℕ)). 0 < cond (is_some q) 0 (units x.m.geometry n) → is_taken (takings_of x.id x.parts) (id_of o.entry.address) ≡ true) (sym share_is) (taken_by place))
      (subst (λ (q : Option (ℕ × ℕ)). NewObjectPlaced x.m x.m' n q (Some o)) (sym share_is) (lies_by place)) (empty_by place) (no_directory image' _))
      (λ found edited. tree found (as_new found edited))
    where
      as_new : (found : List Listing) → IsObjectEdit image image' (Layout.New x.m) (Layout.New x.m') x.listings found (objects (grown_edit x.c x.growing).gone) (o ∷ [])
          → IsObjectEdit image image' (Layout.New x.m) (Layout.New x.m') x.listings found [] (o ∷ [])
      as_new found edited =
          subst (λ (os : List Object). IsObjectEdit image image' (Layout.New x.m) (Layout.New x.m') x.listings found (objects (map (λ (p : Object). (x.c.number, p)) os)) (o ∷ [])) x.new edited

      tree : (found : List Listing) → IsObjectEdit image image' (Layout.New x.m) (Layout.New x.m') x.listings found [] (o ∷ []) → tree_of image' (Layout.New x.m') found ≡ changed (tree_of image (Layout.New x.m) x.listings) c
      tree found edited =
          ⊎_elim
          (λ is.
          command_law.save image image' (Layout.New x.m) (Layout.New x.m') x.listings found path load exec stored [] o edited tt made_file
          ∙ ap (changed (tree_of image (Layout.New x.m) x.listings)) (sym is))
          (λ is.
          command_law.create image image' (Layout.New x.m) (Layout.New x.m') x.listings found path load exec n [] o edited tt
          (subst (λ (bs : List ℕ). IsFileMade image' (Layout.New x.m') x.listings path load exec bs o) is.1 made_file) ∙ ap (changed (tree_of image (Layout.New x.m) x.listings)) (sym is.0)) f.makes

-- ---- an empty directory

module _ (x : NewGrownAddition) (path : Path) (d : Listing) (puts : List Put) (stored image image' : List ℕ) (wr : NewGrownAdditionWritten x (Command.Cdir path) path puts stored image image')
    (is : IsItsGrownDirectory path (Layout.New x.m) x.c x.growing d) where
  abbrev was : Opened
  was = record { kind = x.kind; layout = Layout.New x.m; listings = x.listings }

  abbrev p : Object
  p = x.c.o

  abbrev size : ℕ
  size = new_dir_size (dir_form (Layout.New x.m))

  directory : is_directory_object p ≡ true
  directory = ap is_directory is.attrs

  form_now : dir_form (Layout.New x.m') ≡ dir_form (Layout.New x.m)
  form_now = added.form x (Command.Cdir path) path puts stored image image' wr

  its_size : object_size (dir_form (Layout.New x.m')) p.entry ≡ size
  its_size =
      ap (λ (b : Bool). cond b (directory_size (dir_form (Layout.New x.m')) p.entry.len) p.entry.len) directory
      ∙ ap₂ (λ (f : NameForm) (k : ℕ). directory_size f k) form_now is.len ∙ size_of_new (dir_form (Layout.New x.m))

  makes : Makes was (Command.Cdir path) path size None
  makes = makes_directory was path size refl

  -- it is listed, held by the grown directory, all its bytes included
  made : (found : List Listing) (sound' : AreSound (Layout.New x.m') found) (order : IsPermutation (listings_after (grown_edit x.c x.growing)) found)
      → IsSomeAnd (listing_at found path) (IsMadeDirectory image' (record { kind = x.kind; layout = Layout.New x.m'; listings = found }) path)
  made found sound' order =
      let e' : Edit = grown_edit x.c x.growing in
      let there : Contains x.c.into d = subst (λ (ks : List Listing). Contains ks d) (sym is.listed) (contains_here d []) in
      let empty = memory.own_listed (Layout.New x.m) x.c.into p x.comes.alone d there in
      let among : Contains (listings_after e') d =
      Contains-append_left (map (λ (y : ℕ × Listing). y.1) (map (λ (y : Listing). (x.c.number, y)) x.c.into)) (map (now e') e'.amended ++ map (still e') e'.same) d
      (in_map (λ (y : ℕ × Listing). y.1) (map (λ (y : Listing). (x.c.number, y)) x.c.into) (x.c.number, d) (in_map (λ (y : Listing). (x.c.number, y)) x.c.into d there)) in
      let holder_is = asked.its_holder x (Command.Cdir path) path puts stored image image' wr size makes found sound' order in
      subst (λ (q : Option Listing). IsSomeAnd q (IsMadeDirectory image' (record { kind = x.kind; layout = Layout.New x.m'; listings = found }) path))
      (sym (lookup_law.listing (Layout.New x.m') found path d sound' (in_other (listings_after e') found order d among) (ap (λ (r : Object). is_same_path path r.path) empty.object ∙ wr.path_is)))
      (record {
        says = is.says ∙ ap₂ (λ (f : NameForm) (address : ℕ). new_directory f address (last_name path)) (sym form_now) (sym holder_is);
        len = ap (λ (r : Object). r.entry.len) empty.object ∙ is.len ∙ ap new_dir_size (sym form_now);
        bytes = subst (λ (bs : List ℕ). AreWritten bs d.content) (sym (ap (λ (r : Object). object_bytes image' (Layout.New x.m') r) empty.object ∙ added.bytes_now x (Command.Cdir path) path puts stored image image' wr)) (wr.own d there);
      })

  pub new_directory_made : IsInNewSpace x.m size 0 x.id x.parts p → GrownAdded x (Command.Cdir path) image image'
  new_directory_made place =
      new_image.changes_by (added.on_new x (Command.Cdir path) path puts stored image image' wr) (Command.Cdir path) [] (added.keeps x (Command.Cdir path) path puts stored image image' wr)
      (λ found sound' order.
      asked.asked x (Command.Cdir path) path puts stored image image' wr size makes found sound' order (left_new (ga.placing x) size 0 (omega arith) place)
      (λ k taken. high_new (ga.placing x) size 0 (omega arith) place k taken its_size found (asked.o_found x (Command.Cdir path) path puts stored image image' wr size makes found sound' order))
      (λ some. taken_new (ga.placing x) size 0 (omega arith) place)
      (λ some. stands_now x.m x.m' size 0 x.id x.parts p x.agreed.is_map x.geometry (omega arith) place (runs_are (ga.placing x) size 0 (omega arith) place)
      (ap (λ (b : Bool). cond b 0 (file_low x.m'.geometry (bits_in (id_runs x.m' (id_of p.entry.address)) * x.m'.geometry.bit_bytes) p.entry.len)) directory))
      (λ none. absurd (let some = place.some in omega (arith, none, some))) (made found sound' order))
      (λ found edited. command_law.cdir image image' (Layout.New x.m) (Layout.New x.m') x.listings found path p
      (subst (λ (os : List Object). IsObjectEdit image image' (Layout.New x.m) (Layout.New x.m') x.listings found (objects (map (λ (r : Object). (x.c.number, r)) os)) (p ∷ [])) x.new edited)
      (record { at_path = wr.path_is; name = wr.entry.1; attrs = is.attrs; load = is.load; exec = is.exec }))

pub grown_addition_law : GrownAdditionLaw
grown_addition_law = record {
  new_file = λ x c path load exec puts stored image image' wr f place. new_file x c path load exec puts stored image image' wr f place;
  new_directory = λ x path d puts stored image image' wr is place. new_directory_made x path d puts stored image image' wr is place;
  object_may = λ x c image opens named. object_may x c image opens named;
  directory_may = λ x c image a opens named grows at. directory_may x c image opens named a grows at;
}
