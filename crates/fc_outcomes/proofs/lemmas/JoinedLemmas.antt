-- Directories and entries after an object has come, on any map.
use Rattle.std.proofs.Common.{◌≡◌, inl, inr, ⊎_elim, ℕ, Bool, true, false, cond, List, [], ◌∷◌, ◌++◌, length, map, refl, sym, ap, ap₂, subst, ◌∙◌, Some, None, Option}
use Rattle.std.specs.Prelude.{Contains, IfSome, IsPermutation, IsSomeAnd, is_some, slice_get}
use Rattle.std.proofs.lemmas.Bool.{eqb-true, false_from_ne_true as unless}
use Rattle.std.proofs.lemmas.List.Elements.{Contains-append_left}
use Rattle.std.proofs.lemmas.List.Sorted.{IsPermutation-refl, IsPermutation-sym}
use Rattle.std.specs.Option.{option_map, option_map_or}
use Rattle.std.proofs.lemmas.Option.{slice_get-map}
use Rattle.fc_names.specs.Names.{Path, is_same_name, is_same_path}
use Rattle.fc_names.specs.declared.name.NameForm.{NameForm}
use Rattle.fc_record.specs.declared.Kind.{Kind}
use Rattle.fc_model.specs.Command.{Command}
use Rattle.fc_model.specs.Tree.{holder, last_name}
use Rattle.fc_dirs.specs.declared.Entry.{Entry}
use Rattle.fc_dirs.specs.Directory.{entries_of}
use Rattle.fc_dirs.specs.Entries.{entry_named, has_name, with_entry}
use Rattle.fc_image.specs.Layout.{Layout, dir_form}
use Rattle.fc_image.specs.Walk.{Listing, Object, is_directory_object, object_bytes, object_size}
use Rattle.fc_image.specs.Objects.{listing_at, object_at, objects_of}
use Rattle.fc_image.specs.Opening.{Opened}
use Rattle.fc_image.specs.Commanded.{AreAt}
use Rattle.fc_image.specs.Sound.{AreSound}
use Rattle.fc_image.specs.effects.Placed.{is_written_empty, made_object}
use Rattle.fc_image.specs.effects.Short.{growth_in, new_dir_size, new_length, replaced_object}
use Rattle.fc_image.specs.effects.Steady.{AreWritten, DirectorySteady, EntrySteady, IsMadeDirectory, IsRewritten, NamedEntrySteady, NamedStays, edited, holds_named, is_moved_by, named_entry, named_object, new_directory, replaced_entry, source_object, with_made}
use Rattle.fc_image.proofs.LookupLemmas.{lookup_law}
use Rattle.fc_image.proofs.PathsLemmas.{itself}
use Rattle.fc_tree.proofs.MemberLemmas.{contains_here, from_map, in_map, no_element}
use Rattle.fc_tree.proofs.SoundLemmas.{children_stored}
use Rattle.fc_tree.proofs.WalkedLemmas.{child_is_object, child_path}
use Rattle.fc_changes.specs.Changed.{MakesFile}
use Rattle.fc_changes.proofs.BasicLemmas.{clash}
use Rattle.fc_changes.proofs.BeforeLemmas.{address_by}
use Rattle.fc_changes.proofs.DirectoriesLemmas.{IsPlain, plain_cdir, plain_create, plain_save}
use Rattle.fc_changes.proofs.PlacedLemmas.{found_in}
use Rattle.fc_changes.proofs.ReadsLemmas.{LiesIn, changed_entry, lies_in, same_path_of}
use Rattle.fc_laws.specs.nodes.Edits.{Nodes}
use Rattle.fc_laws.specs.nodes.Laws.{IsHeld}
use Rattle.fc_laws.proofs.lemmas.nodes.ListLemmas.{in_other}
use Rattle.fc_edits.specs.Addition.{Addition, GetsNode, IsAddition, amended, edit, leaves, over_it}
use Rattle.fc_edits.specs.Edit.{Amended, AreEdited, listings_after, now, objects, still}
use Rattle.fc_edits.specs.NodesEdit.{NodesEdit}
use Rattle.fc_edits.proofs.lemmas.AdditionLemmas as memory
use Rattle.fc_edits.proofs.lemmas.NumberLemmas as n_
use Rattle.fc_edits.proofs.lemmas.ShapeLemmas.{of_one, only}
use Rattle.fc_outcomes.specs.Addition.{HasEntry, IsItsDirectory, Joins}
use Rattle.fc_outcomes.specs.Puts.{ArePutsOf, IsDirectoryPut, Put}
use Rattle.fc_outcomes.specs.Steady.{AreAsked}
use Rattle.fc_outcomes.specs.Written.{KeepsPaths}
use Rattle.fc_outcomes.proofs.lemmas.SteadyLemmas.{holder_same, now_in, plain_asks, unnamed, written_asks}
use Rattle.fc_image.proofs.EntriesLemmas.{later as contains_later, cases as contains_cases}

-- ---- the commands

-- The command makes an object of n bytes at the path, at which this object was, if any was.
pub record Makes (v : Opened) (c : Command) (path : Path) (n : ℕ) (old : Option Object) : Type 0 where
  pub plain : IsPlain c
  pub holds : (p : Path) → holds_named c p ≡ is_same_path (holder path) p
  pub edits : (p : Path) (made : Option Entry) (es : List Entry) → edited c p made es ≡ cond (is_same_path (holder path) p) (with_made made es) es
  pub entry : (w : Opened) (x : Object) → object_at w.listings path ≡ Some x → named_entry w c ≡ Some x.entry
  pub makes : (w : Opened) → made_object w c ≡ object_at w.listings path
  pub names : (w : Opened) → named_object w c ≡ object_at w.listings path
  pub source : source_object v c ≡ old
  pub replaces : replaced_object v c ≡ old
  pub still : is_moved_by c ≡ false
  pub long : new_length v c ≡ n
  pub empty : is_written_empty c ≡ true → n ≡ 0
  pub stays : (w : Opened) (b : Bool) → NamedStays v w c b

makes_save : (v : Opened) (path : Path) (load exec : ℕ) (bytes : List ℕ) (old : Option Object) → object_at v.listings path ≡ old → Makes v (Command.Save path load exec bytes) path (length bytes) old
makes_save v path load exec bytes old stood = record {
  plain = plain_save path load exec bytes;
  holds = λ p. refl;
  edits = λ p made es. refl;
  entry = λ w x h. rw h refl;
  makes = λ w. refl;
  names = λ w. refl;
  source = stood;
  replaces = stood;
  still = refl;
  long = refl;
  empty = λ h. eqb-true (length bytes) 0 h;
  stays = λ w b. tt;
}

makes_create : (v : Opened) (path : Path) (load exec len : ℕ) (old : Option Object) → object_at v.listings path ≡ old → Makes v (Command.Create path load exec len) path len old
makes_create v path load exec len old stood = record {
  plain = plain_create path load exec len;
  holds = λ p. refl;
  edits = λ p made es. refl;
  entry = λ w x h. rw h refl;
  makes = λ w. refl;
  names = λ w. refl;
  source = stood;
  replaces = stood;
  still = refl;
  long = refl;
  empty = λ h. eqb-true len 0 h;
  stays = λ w b. tt;
}

pub makes_file : (v : Opened) (c : Command) (path : Path) (load exec : ℕ) (stored : List ℕ) (old : Option Object) → object_at v.listings path ≡ old → MakesFile c path load exec stored
    → Makes v c path (length stored) old
makes_file v c path load exec stored old stood =
    ⊎_elim (λ is. subst (λ (d : Command). Makes v d path (length stored) old) (sym is) (makes_save v path load exec stored old stood))
    (λ is. subst (λ (d : Command). Makes v d path (length stored) old) (sym is.0) (makes_create v path load exec (length stored) old stood))

pub makes_directory : (v : Opened) (path : Path) (n : ℕ) → new_length v (Command.Cdir path) ≡ n → Makes v (Command.Cdir path) path n None
makes_directory v path n long = record {
  plain = plain_cdir path;
  holds = λ p. refl;
  edits = λ p made es. refl;
  entry = λ w x h. rw h refl;
  makes = λ w. refl;
  names = λ w. refl;
  source = refl;
  replaces = refl;
  still = refl;
  long = long;
  empty = λ h. absurd (cc);
  stays = λ w b. tt;
}

-- ---- on any map

module _ (nodes nodes' : Nodes) (layout layout' : Layout) (listings : List Listing) (a : Addition) (h : IsHeld nodes layout listings) (d : IsAddition nodes layout listings a)
    (ed : AreEdited nodes nodes' (edit a)) (c : Command) (path : Path) (bytes stored image image' : List ℕ) (joins : Joins c path layout listings a bytes stored) (form : dir_form layout' ≡ dir_form layout) where
  abbrev ne : NodesEdit
  ne = record {
    nodes = nodes;
    nodes' = nodes';
    layout = layout;
    listings = listings;
    edit = edit a;
    held = h;
    is_edit = memory.is_edit nodes layout listings a h d;
    nodes_edited = ed;
  }

  abbrev pub its : Put
  its = record { sectors = a.l.object.sectors; bytes = bytes }

  abbrev pub own : Put
  own = record { sectors = a.o.sectors; bytes = stored }

  pub its_put : IsDirectoryPut layout' a.l.object a.content (its ∷ (own ∷ []))
  its_put = record {
    bytes = bytes;
    among = contains_here its (own ∷ []);
    says = joins.written;
    long = joins.long ∙ ap (λ (f : NameForm). object_size f a.l.object.entry) (sym form);
  }

  own_long : length stored ≡ object_size (dir_form layout') a.o.entry
  own_long = joins.stored_long ∙ ap (λ (f : NameForm). object_size f a.o.entry) (sym form)

  pub puts_of : ArePutsOf layout layout' nodes (edit a) (its ∷ (own ∷ [])) image image'
  puts_of = record {
    says = of_one (λ (b : Amended). IsDirectoryPut layout' b.was.object b.content (its ∷ (own ∷ []))) (amended a) its_put;
    into_say = λ x at.
        (let k = from_map (λ (y : Listing). (a.number, y)) a.into x at in
        let is = memory.own_listed layout a.into a.o d.alone k.0 k.1 in
        subst (λ (y : ℕ × Listing). IsDirectoryPut layout' y.1.object y.1.content (its ∷ (own ∷ []))) k.2
        (subst (λ (p : Object). IsDirectoryPut layout' p k.0.content (its ∷ (own ∷ []))) (sym is.object)
        (record { bytes = stored; among = contains_later its own (own ∷ []) (contains_here own []); says = joins.own k.0 k.1; long = own_long })));
    whose = λ p at.
        ⊎_elim (λ first. inl (amended a, contains_here (amended a) [], ap (λ (q : Put). q.sectors) (sym first)))
        (λ later. inr ((a.number, a.o), contains_here (a.number, a.o) [], ap (λ (q : Put). q.sectors) (sym (only own p later)))) (contains_cases its p (own ∷ []) at);
    carried = λ k n at f goes. absurd (no_element (n, k.object) (n_.dir_moves ne k n (n_.same_in ne k at) f goes));
  }

  pub keeps : KeepsPaths image image' layout layout' nodes listings (edit a) []
  keeps = record { paths = λ o s. refl; steady = []; moving = IsPermutation-refl {X = Object} []; kept = λ o at. absurd (no_element o at) }

  abbrev l_in : Contains listings a.l
  l_in = memory.l_in nodes layout listings a h d

  abbrev lies : LiesIn path a.l.object.path a.o.entry.name
  lies = lies_in path a.l.object.path a.o.entry.name (ap (is_same_path path) (sym d.path) ∙ joins.path_is)

  -- the other directories aren't named
  other : (k : Listing) → Contains a.rest k → is_same_path (holder path) k.object.path ≡ false
  other k at = unnamed ne path a.l k a.dir l_in d.dir_is (contains_here a.dir []) lies.holds at

  -- no entry had the name, if nothing stood there
  new_name : object_at listings path ≡ None → has_name (entries_of a.l.content) a.o.entry.name ≡ false
  new_name free =
      unless (has_name (entries_of a.l.content) a.o.entry.name)
      (λ there.
      let e = some_entry (entry_named (entries_of a.l.content) a.o.entry.name) refl there in
      let f = found_in (λ (x : Entry). is_same_name a.o.entry.name x.name) (entries_of a.l.content) e.0 e.1 in
      let kid = from_map (λ (p : Object). p.entry) a.l.children e.0 (subst (λ (es : List Entry). Contains es e.0) (sym (children_stored layout listings h.sound a.l l_in)) f.0) in
      let at_path = same_path_of path a.l.object.path a.o.entry.name e.0.name kid.0.path (ap (is_same_path path) (sym d.path) ∙ joins.path_is) f.1
      (child_path layout listings h.sound a.l kid.0 l_in kid.1 ∙ ap (λ (x : Entry). a.l.object.path ++ x.name ∷ []) kid.2) in
      none_some kid.0 (sym free ∙ lookup_law.object layout listings path kid.0 h.sound (child_is_object layout listings h.sound a.l kid.0 l_in kid.1) at_path))
    where
      none_some : (x : Object) → (let q : Option Object = None in q) ≡ Some x → ⊥
      none_some x e = cc

      some_entry : (q : Option Entry) → entry_named (entries_of a.l.content) a.o.entry.name ≡ q → is_some q ≡ true → (x : Entry) × (entry_named (entries_of a.l.content) a.o.entry.name ≡ Some x)
      some_entry None e g = absurd (cc)
      some_entry (Some x) e g = (x, e)

  -- the directory's entries with it
  with_it : (q : Option Object) → object_at listings path ≡ q → HasEntry q path a → entries_of a.content ≡ with_made (Some a.o.entry) (entries_of a.l.content)
  with_it None free made = made.0 ∙ sym (ap (λ (b : Bool). cond b (map (replaced_entry a.o.entry) (entries_of a.l.content)) (with_entry a.o.entry (entries_of a.l.content))) (new_name free))
  with_it (Some p) stood made =
      made.2
      ∙ changed_entry (entries_of a.l.content) made.0 p.entry a.o.entry (h.sound.apart a.l l_in)
      (ap (λ (es : List Entry). slice_get es made.0) (sym (children_stored layout listings h.sound a.l l_in)) ∙ slice_get-map (λ (x : Object). x.entry) a.l.children made.0
      ∙ ap (option_map (λ (x : Object). x.entry)) made.1) made.3

  steady_by : (moved : Bool) (os : List Object) → GetsNode nodes a.number os a.o → HasEntry (over_it (record a { over = os })) path a → EntrySteady (dir_form layout) moved (over_it (record a { over = os })) a.o
  steady_by moved [] gets made = record { last = inl made.2; len = λ directory. tt }
  steady_by moved (p ∷ []) gets made = record { last = inl made.5; len = λ directory. absurd (clash (is_directory_object a.o) directory gets.file) }
  steady_by moved (p ∷ q ∷ os) gets made = absurd gets

  -- what goes stood at the path
  stood_by : (os : List Object) → GetsNode nodes a.number os a.o → object_at listings path ≡ over_it (record a { over = os }) → AreAt path (objects (map (λ (p : Object). (a.number, p)) os))
  stood_by [] gets at = tt
  stood_by (p ∷ []) gets at = ((found_in (λ (x : Object). is_same_path path x.path) (objects_of listings) p at).1, tt)
  stood_by (p ∷ q ∷ os) gets at = absurd gets

  pub stood_at : AreAt path (objects (leaves a))
  stood_at = stood_by a.over d.node joins.stood

  pub its_name : a.o.entry.name ≡ option_map_or (λ (p : Object). p.entry.name) (object_at listings path) (last_name path)
  its_name = by (over_it a) joins.entry ∙ sym (ap (λ (q : Option Object). option_map_or (λ (p : Object). p.entry.name) q (last_name path)) joins.stood)
    where
      by : (q : Option Object) → HasEntry q path a → a.o.entry.name ≡ option_map_or (λ (p : Object). p.entry.name) q (last_name path)
      by None made = made.1
      by (Some p) made = made.3

  -- ---- afterwards

  module _ (kind : Kind) (found : List Listing) (sound' : AreSound layout' found) (order : IsPermutation (listings_after (edit a)) found) (names : (n : ℕ) × Makes (record { kind = kind; layout = layout; listings = listings }) c path n (over_it a))
      (none : growth_in (record { kind = kind; layout = layout; listings = listings }) c ≡ None) where
    abbrev v : Opened
    v = record { kind = kind; layout = layout; listings = listings }

    abbrev w : Opened
    w = record { kind = kind; layout = layout'; listings = found }

    l_now : Contains found (now (edit a) (amended a))
    l_now = now_in (edit a) found order (amended a) (contains_here (amended a) [])

    pub now_found : Contains (objects_of found) a.o
    now_found = child_is_object layout' found sound' (now (edit a) (amended a)) a.o l_now (in_other (a.o ∷ a.kids) a.children (IsPermutation-sym a.children (a.o ∷ a.kids) d.holds) a.o (contains_here a.o a.kids))

    pub now_there : object_at found path ≡ Some a.o
    now_there = lookup_law.object layout' found path a.o sound' now_found joins.path_is

    entries_are : entries_of a.content ≡ edited c a.l.object.path (named_entry w c) (entries_of a.l.content)
    entries_are =
        with_it (over_it a) joins.stood joins.entry
        ∙ sym (names.1.edits a.l.object.path (named_entry w c) (entries_of a.l.content)
        ∙ ap₂ (λ (b : Bool) (q : Option Entry). cond b (with_made q (entries_of a.l.content)) (entries_of a.l.content)) lies.holds (names.1.entry w a.o now_there))

    pub asked : AreWritten (object_bytes image' layout' a.l.object) a.content → AreAsked image image' v w c (edit a)
    asked written =
        let stays = holder_same ne layout' found sound' order (λ o at. (refl, refl)) a.l (n_.was_in ne (amended a) (contains_here (amended a) [])) in
        record {
          out = λ k at. absurd (no_element k at);
          paths = λ k at. ap (λ (p : Path). is_same_path p k.object.path) (names.1.plain.path k.object.path) ∙ itself k.object.path;
          amended = of_one (λ (b : Amended). DirectorySteady image image' v w c b.was (now (edit a) b)) (amended a)
              (written_asks image image' v w c a.l (now (edit a) (amended a)) names.1.plain none (names.1.holds a.l.object.path ∙ lies.holds) entries_are
              (subst (λ (n : ℕ). IsRewritten c a.l.object.path n a.l.content a.content) (sym stays) joins.says) written);
          same = λ k at. plain_asks v w c (edit a) k names.1.plain none (names.1.holds k.object.path ∙ other k at);
        }

    pub entry_asked : NamedEntrySteady v w c
    entry_asked =
        subst (λ (q : Option Object). IfSome q (EntrySteady (dir_form layout) (is_moved_by c) (source_object v c))) (sym (names.1.names w ∙ now_there))
        (subst (λ (q : Option Object). EntrySteady (dir_form layout) (is_moved_by c) q a.o) (sym names.1.source) (steady_by (is_moved_by c) a.over d.node joins.entry))

    pub made_is : made_object w c ≡ Some a.o
    made_is = names.1.makes w ∙ now_there

    -- an empty directory that comes, all its bytes included
    pub made_asked : (k : Listing) → IsItsDirectory path layout a k → object_bytes image' layout' a.o ≡ stored → IsSomeAnd (listing_at found path) (IsMadeDirectory image' w path)
    made_asked k is own_bytes =
        let there : Contains a.into k = subst (λ (ks : List Listing). Contains ks k) (sym is.listed) (contains_here k []) in
        let empty = memory.own_listed layout a.into a.o d.alone k there in
        let among : Contains (listings_after (edit a)) k =
        Contains-append_left (map (λ (y : ℕ × Listing). y.1) (map (λ (y : Listing). (a.number, y)) a.into)) (map (now (edit a)) (edit a).amended ++ map (still (edit a)) (edit a).same) k
        (in_map (λ (y : ℕ × Listing). y.1) (map (λ (y : Listing). (a.number, y)) a.into) (a.number, k) (in_map (λ (y : Listing). (a.number, y)) a.into k there)) in
        subst (λ (q : Option Listing). IsSomeAnd q (IsMadeDirectory image' w path))
        (sym (lookup_law.listing layout' found path k sound' (in_other (listings_after (edit a)) found order k among) (ap (λ (p : Object). is_same_path path p.path) empty.object ∙ joins.path_is)))
        (record {
          says = is.says ∙ ap₂ (λ (f : NameForm) (address : ℕ). new_directory f address (last_name path)) (sym form) (sym (address_by layout' found path (now (edit a) (amended a)) sound' l_now lies.holds));
          len = ap (λ (p : Object). p.entry.len) empty.object ∙ is.len ∙ ap new_dir_size (sym form);
          bytes = subst (λ (bs : List ℕ). AreWritten bs k.content) (sym (ap (λ (p : Object). object_bytes image' layout' p) empty.object ∙ own_bytes)) (joins.own k there);
        })
