-- `set` and `mark` on images, by the laws of outcomes.
use Rattle.std.proofs.Common.{◌≡◌, inl, inr, ⊎_elim, ℕ, ◌+◌, ◌*◌, ◌/◌, ◌%◌, Bool, true, false, cond, List, [], ◌∷◌, refl, sym, ap, ap₂, subst, ◌∙◌, arith, Option, Some}
use Rattle.std.specs.Prelude.{Contains, IfSome, IsPermutation, IsSomeAnd, None}
use Rattle.std.proofs.lemmas.List.Sorted.{IsPermutation-refl}
use Rattle.fc_names.specs.Names.{Path, is_same_path}
use Rattle.fc_names.specs.declared.name.NameForm.{NameForm}
use Rattle.fc_record.specs.declared.Kind.{Kind}
use Rattle.fc_oldmap.specs.Laws.{ReadsBack}
use Rattle.fc_newmap.specs.Map.{hole_runs}
use Rattle.fc_model.specs.Command.{Command}
use Rattle.fc_model.specs.Answer.{changed}
use Rattle.fc_dirs.specs.declared.Entry.{Entry}
use Rattle.fc_dirs.specs.Directory.{entries_of}
use Rattle.fc_image.specs.Layout.{Layout, dir_form, sector_bytes}
use Rattle.fc_image.specs.Walk.{Listing, Object, object_bytes, object_size}
use Rattle.fc_image.specs.Objects.{object_at, objects_of, tree_of}
use Rattle.fc_image.specs.Opening.{Opened}
use Rattle.fc_image.specs.Report.{holder_address}
use Rattle.fc_image.specs.Sound.{AreSound}
use Rattle.fc_image.specs.Stays.{HasSectorsOf}
use Rattle.fc_image.specs.TreeEdits.{IsObjectEdit}
use Rattle.fc_image.specs.effects.Steady.{AreWritten, DirectorySteady, EntrySteady, HasSameAddress, IsRewritten, edited, holds_named, named_entry, with_made}
use Rattle.fc_image.proofs.CommandLemmas.{command_law}
use Rattle.fc_image.proofs.LookupLemmas.{lookup_law}
use Rattle.fc_image.proofs.PathsLemmas.{itself}
use Rattle.fc_plan.proofs.Left.{left_of_none}
use Rattle.fc_tree.specs.Nodes.{number_of}
use Rattle.fc_tree.proofs.MemberLemmas.{contains_here, no_element}
use Rattle.fc_tree.proofs.WalkedLemmas.{child_path, listed_directory, same_some}
use Rattle.fc_changes.proofs.ReadsLemmas.{LiesIn, lies_in}
use Rattle.fc_changes.proofs.SpaceLemmas.{untaken_is}
use Rattle.fc_changes.proofs.lemmas.old.GrowthLemmas.{given_alone}
use Rattle.fc_laws.specs.nodes.Edits.{Nodes}
use Rattle.fc_laws.specs.nodes.Laws.{IsHeld}
use Rattle.fc_laws.specs.agree.Agreed.{parts_with}
use Rattle.fc_laws.proofs.lemmas.nodes.FitsLemmas.{one_number}
use Rattle.fc_laws.specs.old.agree.Laws.{parts_with as old_parts_with}
use Rattle.fc_edits.specs.Edit.{Amended, AreEdited, listings_after, now}
use Rattle.fc_edits.specs.NodesEdit.{NodesEdit}
use Rattle.fc_edits.specs.PartsEdit.{NewPartsEdit, PartsEdit, old_parts}
use Rattle.fc_edits.specs.Rewording.{IsReworded, NewRewording, OldRewording, Rewording, amended, edit}
use Rattle.fc_edits.proofs.lemmas.AgreeLemmas as ag
use Rattle.fc_edits.proofs.lemmas.NewAgreeLemmas as na
use Rattle.fc_edits.proofs.lemmas.NumberLemmas as n_
use Rattle.fc_edits.proofs.lemmas.OwnedLemmas.{joins_found}
use Rattle.fc_edits.proofs.lemmas.ShapeLemmas.{not_own, of_one, only}
use Rattle.fc_edits.proofs.lemmas.StillLemmas.{still_new, still_old}
use Rattle.fc_edits.proofs.lemmas.RewordingLemmas as memory
use Rattle.fc_outcomes.specs.Rewording.{HasReworded, NewRewordingWritten, OldRewordingWritten, Words}
use Rattle.fc_outcomes.specs.NewImage as new
use Rattle.fc_outcomes.specs.NewImage.{NewImageEdit, Outcome}
use Rattle.fc_outcomes.specs.OldImage as old
use Rattle.fc_outcomes.specs.OldImage.{OldImageEdit}
use Rattle.fc_outcomes.specs.Puts.{ArePutsOf, IsDirectoryPut, Put}
use Rattle.fc_outcomes.specs.Steady.{AreAsked}
use Rattle.fc_outcomes.specs.Written.{KeepsPaths}
use Rattle.fc_outcomes.proofs.lemmas.NewImageLemmas as new_image
use Rattle.fc_outcomes.proofs.lemmas.OldImageLemmas as old_image
use Rattle.fc_outcomes.proofs.lemmas.PutLemmas.{directory_bytes}
use Rattle.fc_outcomes.proofs.lemmas.SteadyLemmas.{holder_same, plain_asks, unnamed, written_asks}
use Rattle.fc_outcomes.proofs.lemmas.UnwrittenLemmas.{turned_bytes, unwritten}
use Rattle.fc_outcomes.proofs.lemmas.WordLemmas.{IsWordCommand, same_length, word_command}

-- ---- on any map

module _ (nodes nodes' : Nodes) (layout layout' : Layout) (listings : List Listing) (c : Rewording) (h : IsHeld nodes layout listings) (d : IsReworded nodes layout listings c)
    (ed : AreEdited nodes nodes' (edit c)) (command : Command) (path : Path) (bytes image image' : List ℕ) (rw' : HasReworded command path layout listings c bytes)
    (size : sector_bytes layout' ≡ sector_bytes layout) (form : dir_form layout' ≡ dir_form layout)
    (unw : (o : Object) → Contains (objects_of listings) o → (c.l.object ≡ o → ⊥) → HasSectorsOf (sector_bytes layout) o.sectors image image') where
  abbrev ne : NodesEdit
  ne = record {
    nodes = nodes;
    nodes' = nodes';
    layout = layout;
    listings = listings;
    edit = edit c;
    held = h;
    is_edit = memory.is_edit nodes layout listings c h d;
    nodes_edited = ed;
  }

  abbrev its : Put
  its = record { sectors = c.l.object.sectors; bytes = bytes }

  word : IsWordCommand command path
  word = word_command command path c.o.path c.turn rw'.its.words

  l_in : Contains listings c.l
  l_in = memory.l_in nodes layout listings c h d

  other : c.l.object ≡ c.o → ⊥
  other same =
      not_own nodes layout listings c.l c.o c.dir c.number h l_in (memory.kid_in nodes layout listings c h d) d.dir_is d.number_is
      (same_some c.dir c.number (sym d.dir_is ∙ ap (λ (x : Object). number_of nodes x.path) same ∙ d.number_is))

  -- the directory itself stays as it is
  l_stays : c.turn c.l.object ≡ c.l.object
  l_stays =
      memory.stays nodes layout listings c h d c.l.object c.dir d.dir_is
      (not_own nodes layout listings c.l c.o c.dir c.number h l_in (memory.kid_in nodes layout listings c h d) d.dir_is d.number_is)

  pub o_bytes : object_bytes image' layout' (c.turn c.o) ≡ object_bytes image layout c.o
  o_bytes =
      turned_bytes layout layout' image image' c.o (c.turn c.o) size form (unw c.o (memory.o_in nodes layout listings c h d) other) (d.rewording.sectors c.o) (d.rewording.len c.o) (d.rewording.kind c.o)

  pub its_put : IsDirectoryPut layout' (c.turn c.l.object) c.content (its ∷ [])
  its_put =
      subst (λ (o : Object). IsDirectoryPut layout' o c.content (its ∷ [])) (sym l_stays)
      (record { bytes = bytes; among = contains_here its []; says = rw'.written; long = rw'.long ∙ ap (λ (f : NameForm). object_size f c.l.object.entry) (sym form) })

  pub puts_of : ArePutsOf layout layout' nodes (edit c) (its ∷ []) image image'
  puts_of = record {
    says = of_one (λ (b : Amended). IsDirectoryPut layout' (c.turn b.was.object) b.content (its ∷ [])) (amended c) its_put;
    into_say = λ x at. absurd (no_element x at);
    whose = λ p at. inl (amended c, contains_here (amended c) [], ap (λ (q : Put). q.sectors) (sym (only its p at)) ∙ ap (λ (o : Object). o.sectors) (sym l_stays));
    carried = λ k n at f goes.
        (let number = only c.number n goes in
        let k_in = (listed_directory layout listings h.sound k (n_.stay_in ne k (n_.same_in ne k at))).0 in
        let same : c.o ≡ k.object = one_number layout listings nodes h.sound h.held c.o k.object c.number (memory.o_in nodes layout listings c h d) k_in d.number_is (f ∙ ap (λ (i : ℕ). Some i) (sym number)) in
        subst (λ (o : Object). object_bytes image' layout' (c.turn o) ≡ object_bytes image layout o) same o_bytes);
  }

  pub keeps : KeepsPaths image image' layout layout' nodes listings (edit c) (c.o ∷ [])
  keeps = record { paths = λ o s. d.rewording.same_path o; steady = []; moving = IsPermutation-refl (c.o ∷ []); kept = λ o at. absurd (no_element o at) }

  lies_there : LiesIn path c.l.object.path c.o.entry.name
  lies_there =
      lies_in path c.l.object.path c.o.entry.name (ap (is_same_path path) (sym (child_path layout listings h.sound c.l c.o l_in (memory.kid_in nodes layout listings c h d))) ∙ rw'.its.path_is)

  pub was_there : object_at listings path ≡ Some c.o
  was_there = lookup_law.object layout listings path c.o h.sound (memory.o_in nodes layout listings c h d) rw'.its.path_is

  module _ (kind : Kind) (found : List Listing) (sound' : AreSound layout' found) (order : IsPermutation (listings_after (edit c)) found) (out : AreWritten (object_bytes image' layout' (c.turn c.l.object)) c.content)
      (joins : Contains (objects_of found) (c.turn c.o)) where
    abbrev v : Opened
    v = record { kind = kind; layout = layout; listings = listings }

    abbrev w : Opened
    w = record { kind = kind; layout = layout'; listings = found }

    pub is_there : object_at found path ≡ Some (c.turn c.o)
    is_there = lookup_law.object layout' found path (c.turn c.o) sound' joins (ap (is_same_path path) (d.rewording.same_path c.o) ∙ rw'.its.path_is)

    pub asked : AreAsked image image' v w command (edit c)
    asked =
        let stays = holder_same ne layout' found sound' order (λ o at. (d.rewording.same_path o, d.rewording.address o)) c.l (n_.was_in ne (amended c) (contains_here (amended c) [])) in
        let named : holds_named command c.l.object.path ≡ true = word.holds c.l.object.path ∙ lies_there.holds in
        record {
          out = λ k at. absurd (no_element k at);
          paths = λ k at. ap₂ is_same_path (word.plain.path k.object.path) (d.rewording.same_path k.object) ∙ itself k.object.path;
          amended = of_one (λ (b : Amended). DirectorySteady image image' v w command b.was (now (edit c) b)) (amended c)
              (written_asks image image' v w command c.l (now (edit c) (amended c)) word.plain (word.none v) named
              (rw'.entries
              ∙ sym (word.edited_is c.l.object.path (named_entry w command) (entries_of c.l.content)
              ∙ ap₂ (λ (b : Bool) (q : Option Entry). cond b (with_made q (entries_of c.l.content)) (entries_of c.l.content)) lies_there.holds (word.entry w (c.turn c.o) is_there)))
              (subst (λ (n : ℕ). IsRewritten command c.l.object.path n c.l.content c.content) (sym (ap (λ (p : Path). holder_address found p) (d.rewording.same_path c.l.object) ∙ stays)) rw'.says) out);
          same = λ k at. plain_asks v w command (edit c) k word.plain (word.none v) (word.holds k.object.path ∙ unnamed ne path c.l k c.dir l_in d.dir_is (contains_here c.dir []) lies_there.holds at);
        }

    pub same_address : HasSameAddress (object_at listings path) (object_at found path)
    same_address =
        subst (λ (q : Option Object). HasSameAddress q (object_at found path)) (sym was_there)
        (subst (λ (q : Option Object). IsSomeAnd q (λ (o : Object). o.entry.address ≡ c.o.entry.address)) (sym is_there) (d.rewording.address c.o))

    pub steady_entry : (last : (c.turn c.o).entry.last ≡ c.o.entry.last) → IfSome (object_at found path) (EntrySteady (dir_form layout) false (object_at listings path))
    steady_entry last =
        subst (λ (q : Option Object). IfSome q (EntrySteady (dir_form layout) false (object_at listings path))) (sym is_there)
        (subst (λ (q : Option Object). EntrySteady (dir_form layout) false q (c.turn c.o)) (sym was_there)
        (record { last = inl last; len = λ dir. same_length (dir_form layout) c.o.entry.len (c.turn c.o).entry.len (d.rewording.len c.o) }))

  -- the tree of the model
  pub tree_now : (found : List Listing) → IsObjectEdit image image' layout layout' listings found (c.o ∷ []) (c.turn c.o ∷ [])
      → tree_of image' layout' found ≡ changed (tree_of image layout listings) command
  tree_now found edited = by rw'.its.words
    where
      at_path : is_same_path path (c.turn c.o).path ≡ true
      at_path = ap (is_same_path path) (d.rewording.same_path c.o) ∙ rw'.its.path_is

      by : Words command path c.o.path c.turn → tree_of image' layout' found ≡ changed (tree_of image layout listings) command
      by (inl s) =
          let now : c.turn c.o ≡ record c.o { entry = record c.o.entry { load = s.0; exec = s.1; attrs = c.o.entry.attrs / 8 * 8 + s.2 } } =
          ap (λ (f : Object → Object). f c.o) s.4 ∙ ap (λ (b : Bool). cond b (record c.o { entry = record c.o.entry { load = s.0; exec = s.1; attrs = c.o.entry.attrs / 8 * 8 + s.2 } }) c.o) (itself c.o.path) in
          subst (λ (x : Command). tree_of image' layout' found ≡ changed (tree_of image layout listings) x) (sym s.3)
          (command_law.set image image' layout layout' listings found path s.0 s.1 s.2 c.o (c.turn c.o) edited
          (record {
            was_at = rw'.its.path_is;
            at_path = at_path;
            name = d.rewording.name c.o;
            attrs_now = ap (λ (x : Object). x.entry.attrs) now;
            load_now = ap (λ (x : Object). x.entry.load) now;
            exec_now = ap (λ (x : Object). x.entry.exec) now;
            kind = d.rewording.kind c.o;
            bytes = λ file. o_bytes;
          }))
      by (inr s) =
          let attrs : ℕ = s.0 / 16 * 16 + 8 * (c.o.entry.attrs / 8 % 2) + s.0 % 8 in
          let now : c.turn c.o ≡ record c.o { entry = record c.o.entry { attrs = attrs } } =
          ap (λ (f : Object → Object). f c.o) s.2 ∙ ap (λ (b : Bool). cond b (record c.o { entry = record c.o.entry { attrs = attrs } }) c.o) (itself c.o.path) in
          subst (λ (x : Command). tree_of image' layout' found ≡ changed (tree_of image layout listings) x) (sym s.1)
          (command_law.mark image image' layout layout' listings found path s.0 c.o (c.turn c.o) edited
          (record {
            was_at = rw'.its.path_is;
            at_path = at_path;
            name = d.rewording.name c.o;
            attrs_now = ap (λ (x : Object). x.entry.attrs) now;
            load_now = ap (λ (x : Object). x.entry.load) now;
            exec_now = ap (λ (x : Object). x.entry.exec) now;
            kind = d.rewording.kind c.o;
            bytes = λ file. o_bytes;
          }))

-- the last byte of an entry isn't a word
pub last_same : (command : Command) (path there : Path) (turn : Object → Object) (o : Object) → Words command path there turn → (turn o).entry.last ≡ o.entry.last
last_same command path there turn o (inl s) = ap (λ (f : Object → Object). (f o).entry.last) s.4 ∙ by (is_same_path there o.path)
  where
    by : (b : Bool) → (cond b (record o { entry = record o.entry { load = s.0; exec = s.1; attrs = o.entry.attrs / 8 * 8 + s.2 } }) o).entry.last ≡ o.entry.last
    by true = refl
    by false = refl
last_same command path there turn o (inr s) = ap (λ (f : Object → Object). (f o).entry.last) s.2 ∙ by (is_same_path there o.path)
  where
    by : (b : Bool) → (cond b (record o { entry = record o.entry { attrs = s.0 / 16 * 16 + 8 * (o.entry.attrs / 8 % 2) + s.0 % 8 } }) o).entry.last ≡ o.entry.last
    by true = refl
    by false = refl

-- ---- on a new map

module _ (x : NewRewording) (command : Command) (path : Path) (bytes image image' : List ℕ) (w : NewRewordingWritten x command path bytes image image') where
  abbrev parts : NewPartsEdit
  parts = memory.new_parts x

  abbrev mem : PartsEdit
  mem = na.held_edit parts

  abbrev y : Layout
  y = Layout.New x.m

  pub h_new : IsHeld x.nodes y x.listings
  h_new = ag.h mem

  pub new_unwritten : (o : Object) → Contains (objects_of x.listings) o → (x.c.l.object ≡ o → ⊥) → HasSectorsOf (sector_bytes y) o.sectors image image'
  new_unwritten o at other =
      let put : Put = record { sectors = x.c.l.object.sectors; bytes = bytes } in
      unwritten mem (put ∷ []) image image' w.out o at
      (λ p there. (x.c.l.object, (listed_directory y x.listings h_new.sound x.c.l (memory.l_in x.nodes y x.listings x.c h_new x.reworded)).0, ap (λ (q : Put). q.sectors) (sym (only put p there)), other))

  abbrev on_new : NewImageEdit
  on_new = record {
    parts = parts;
    takings = [];
    gone = [];
    r = w.r;
    image = image;
    image' = image';
    puts = record { sectors = x.c.l.object.sectors; bytes = bytes } ∷ [];
    new_kind = w.new_kind;
    opens = w.opens;
    places = still_new x.listings (edit x.c) x.c.number x.c.o (x.c.turn x.c.o) (memory.is_still x.nodes y x.listings x.c h_new x.reworded) x.kind x.m x.nodes x.owners x.root x.agreed;
    out = w.out;
    puts_of = puts_of x.nodes x.nodes' y y x.listings x.c h_new x.reworded x.nodes_edited command path bytes image image' w.reworded refl refl new_unwritten;
    root = inl (record { after = w.after; stays = λ o at none. ⊎_elim (λ t. t) (λ t. absurd (let gone = t.leaves in cc)) (parts.is_edit.top o at none) });
  }

  new_asked : new.IsAskedOf on_new command
  new_asked found sound' order =
      let joins = joins_found mem found sound' order (x.c.number, x.c.turn x.c.o) (contains_here (x.c.number, x.c.turn x.c.o) []) in
      let out = directory_bytes y y on_new.puts image image' (x.c.turn x.c.l.object) x.c.content refl w.out
      (its_put x.nodes x.nodes' y y x.listings x.c h_new x.reworded x.nodes_edited command path bytes image image' w.reworded refl refl new_unwritten) in
      let dirs = asked x.nodes x.nodes' y y x.listings x.c h_new x.reworded x.nodes_edited command path bytes image image' w.reworded refl refl new_unwritten x.kind found sound' order out joins in
      let address = same_address x.nodes x.nodes' y y x.listings x.c h_new x.reworded x.nodes_edited command path bytes image image' w.reworded refl refl new_unwritten x.kind found sound' order out joins in
      let entry' = steady_entry x.nodes x.nodes' y y x.listings x.c h_new x.reworded x.nodes_edited command path bytes image image' w.reworded refl refl new_unwritten x.kind found sound' order out joins
      (last_same command path x.c.o.path x.c.turn x.c.o w.reworded.its.words) in
      by command dirs address entry' w.reworded.its.words
    where
      by : (k : Command) → AreAsked image image' (new.was on_new) (new.is_now on_new found) k (edit x.c) → HasSameAddress (object_at x.listings path) (object_at found path)
          → IfSome (object_at found path) (EntrySteady (dir_form y) false (object_at x.listings path)) → Words k path x.c.o.path x.c.turn → new.IsAsked on_new k found
      by k dirs address entry' (inl s) =
          subst (λ (q : Command). AreAsked image image' (new.was on_new) (new.is_now on_new found) q (edit x.c) → new.IsAsked on_new q found) (sym s.3)
          (λ set. record {
            root_keeps = tt;
            map = record {
              left = λ j used. refl;
              fresh = λ j taken. absurd (cc);
              untaken_is = sym (untaken_is (new.was on_new) (new.is_now on_new found) (Command.Set path s.0 s.1 s.2) x.m x.m [] refl refl ∙ left_of_none (hole_runs x.m));
            };
            placed = record { object = λ some. absurd (omega (arith, some)); empty = λ none. absurd (cc); growth = tt };
            directories = set;
            named = address;
            entry = entry';
            made = tt;
          }) dirs
      by k dirs address entry' (inr s) =
          subst (λ (q : Command). AreAsked image image' (new.was on_new) (new.is_now on_new found) q (edit x.c) → new.IsAsked on_new q found) (sym s.1)
          (λ mark. record {
            root_keeps = tt;
            map = record {
              left = λ j used. refl;
              fresh = λ j taken. absurd (cc);
              untaken_is = sym (untaken_is (new.was on_new) (new.is_now on_new found) (Command.Mark path s.0) x.m x.m [] refl refl ∙ left_of_none (hole_runs x.m));
            };
            placed = record { object = λ some. absurd (omega (arith, some)); empty = λ none. absurd (cc); growth = tt };
            directories = mark;
            named = address;
            entry = entry';
            made = tt;
          }) dirs

  pub new_reworded : Outcome x.kind image image' (new.was on_new) command (parts_with x.m x.nodes' x.owners)
  new_reworded =
      new_image.changes_by on_new command (x.c.o ∷ [])
      (keeps x.nodes x.nodes' y y x.listings x.c h_new x.reworded x.nodes_edited command path bytes image image' w.reworded refl refl new_unwritten) new_asked
      (λ found edited. tree_now x.nodes x.nodes' y y x.listings x.c h_new x.reworded x.nodes_edited command path bytes image image' w.reworded refl refl new_unwritten found edited)

-- ---- on an old map

module _ (back : ReadsBack) (x : OldRewording) (command : Command) (path : Path) (bytes image image' : List ℕ) (w : OldRewordingWritten x command path bytes image image') where
  abbrev old_y : Layout
  old_y = Layout.Old x.space

  pub h_old : IsHeld x.nodes old_y x.listings
  h_old = memory.old_held x

  pub old_unwritten : (o : Object) → Contains (objects_of x.listings) o → (x.c.l.object ≡ o → ⊥) → HasSectorsOf (sector_bytes old_y) o.sectors image image'
  old_unwritten o at other =
      let put : Put = record { sectors = x.c.l.object.sectors; bytes = bytes } in
      unwritten (old_parts (memory.old_parts_of x)) (put ∷ []) image image' w.out o at
      (λ p there. (x.c.l.object, (listed_directory old_y x.listings h_old.sound x.c.l (memory.l_in x.nodes old_y x.listings x.c h_old x.reworded)).0, ap (λ (q : Put). q.sectors) (sym (only put p there)), other))

  abbrev on_old : OldImageEdit
  on_old = record {
    parts = memory.old_parts_of x;
    image = image;
    image' = image';
    puts = record { sectors = x.c.l.object.sectors; bytes = bytes } ∷ [];
    opens = w.opens;
    places = still_old x.listings (edit x.c) x.c.number x.c.o (x.c.turn x.c.o) (memory.is_still x.nodes old_y x.listings x.c h_old x.reworded) x.kind x.space x.nodes x.owners x.root x.agreed;
    after = w.after;
    out = w.out;
    puts_of = puts_of x.nodes x.nodes' old_y old_y x.listings x.c h_old x.reworded x.nodes_edited command path bytes image image' w.reworded refl refl old_unwritten;
    root_stays = λ o at none. memory.stays x.nodes old_y x.listings x.c h_old x.reworded o 0 (ap (number_of x.nodes) none)
        (λ e. memory.lower x.nodes old_y x.listings x.c h_old x.reworded (sym e));
  }

  old_asked : old.IsAskedOf on_old command
  old_asked found sound' order =
      let mem = old_parts (memory.old_parts_of x) in
      let joins = joins_found mem found sound' order (x.c.number, x.c.turn x.c.o) (contains_here (x.c.number, x.c.turn x.c.o) []) in
      let out = directory_bytes old_y old_y on_old.puts image image' (x.c.turn x.c.l.object) x.c.content refl w.out
      (its_put x.nodes x.nodes' old_y old_y x.listings x.c h_old x.reworded x.nodes_edited command path bytes image image' w.reworded refl refl old_unwritten) in
      let dirs = asked x.nodes x.nodes' old_y old_y x.listings x.c h_old x.reworded x.nodes_edited command path bytes image image' w.reworded refl refl old_unwritten x.kind found sound' order out joins in
      let address = same_address x.nodes x.nodes' old_y old_y x.listings x.c h_old x.reworded x.nodes_edited command path bytes image image' w.reworded refl refl old_unwritten x.kind found sound' order out joins in
      let entry' = steady_entry x.nodes x.nodes' old_y old_y x.listings x.c h_old x.reworded x.nodes_edited command path bytes image image' w.reworded refl refl old_unwritten x.kind found sound' order out joins
      (last_same command path x.c.o.path x.c.turn x.c.o w.reworded.its.words) in
      by command dirs address entry' w.reworded.its.words
    where
      by : (k : Command) → AreAsked image image' (old.was on_old) (old.is_now on_old found) k (edit x.c) → HasSameAddress (object_at x.listings path) (object_at found path)
          → IfSome (object_at found path) (EntrySteady (dir_form old_y) false (object_at x.listings path)) → Words k path x.c.o.path x.c.turn → old.IsAsked on_old k found
      by k dirs address entry' (inl s) =
          subst (λ (q : Command). AreAsked image image' (old.was on_old) (old.is_now on_old found) q (edit x.c) → old.IsAsked on_old q found) (sym s.3)
          (λ set. record {
            holes = given_alone x.space (old.was on_old) (Command.Set path s.0 s.1 s.2) None x.agreed.is_map.units refl refl;
            placed = record { object = λ some. absurd (omega (arith, some)); empty = λ none. absurd (cc); growth = tt };
            directories = set;
            named = address;
            entry = entry';
            made = tt;
          }) dirs
      by k dirs address entry' (inr s) =
          subst (λ (q : Command). AreAsked image image' (old.was on_old) (old.is_now on_old found) q (edit x.c) → old.IsAsked on_old q found) (sym s.1)
          (λ mark. record {
            holes = given_alone x.space (old.was on_old) (Command.Mark path s.0) None x.agreed.is_map.units refl refl;
            placed = record { object = λ some. absurd (omega (arith, some)); empty = λ none. absurd (cc); growth = tt };
            directories = mark;
            named = address;
            entry = entry';
            made = tt;
          }) dirs

  pub old_reworded : Outcome x.kind image image' (old.was on_old) command (old_parts_with x.space x.nodes' x.owners)
  old_reworded =
      old_image.changes_by back on_old command (x.c.o ∷ [])
      (keeps x.nodes x.nodes' old_y old_y x.listings x.c h_old x.reworded x.nodes_edited command path bytes image image' w.reworded refl refl old_unwritten) old_asked
      (λ found edited. tree_now x.nodes x.nodes' old_y old_y x.listings x.c h_old x.reworded x.nodes_edited command path bytes image image' w.reworded refl refl old_unwritten found edited)
