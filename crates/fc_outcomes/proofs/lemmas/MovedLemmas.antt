-- `rename` without a copied file on images of any map, by the laws of outcomes.
use Rattle.std.proofs.Common.{◌≡◌, inl, inr, ⊎_elim, ℕ, Bool, true, false, cond, ◌||◌, List, ◌++◌, length, map, refl, sym, ap, subst, ◌∙◌, Option, Some}
use Rattle.std.specs.Prelude.{Contains, IfSome, IsPermutation, drop}
use Rattle.std.specs.Option.{option_map_or}
use Rattle.std.proofs.lemmas.List.Elements.{Contains-append_cases, Contains-append_left}
use Rattle.fc_names.specs.Names.{Path, is_same_path}
use Rattle.fc_model.specs.Command.{Command}
use Rattle.fc_model.specs.Answer.{changed}
use Rattle.fc_model.specs.Tree.{holder}
use Rattle.fc_dirs.specs.declared.Entry.{Entry}
use Rattle.fc_dirs.specs.Directory.{Directory, entries_of}
use Rattle.fc_image.specs.Layout.{Layout, dir_form, sector_bytes}
use Rattle.fc_image.specs.Walk.{Listing, Object, is_directory_object}
use Rattle.fc_image.specs.Objects.{object_at, objects_of, tree_of}
use Rattle.fc_image.specs.Opening.{Opened}
use Rattle.fc_image.specs.Report.{holder_address}
use Rattle.fc_image.specs.Sound.{AreSound}
use Rattle.fc_image.specs.Stays.{HasSectorsOf}
use Rattle.fc_image.specs.Commanded.{IsMoved}
use Rattle.fc_image.specs.TreeEdits.{IsMove}
use Rattle.fc_image.specs.effects.Effect.{copies_file}
use Rattle.fc_image.specs.effects.Short.{is_copied, new_length}
use Rattle.fc_image.specs.effects.Steady.{DirectorySteady, EntrySteady, IsRewritten, NamedEntrySteady, NamedStays, edited, gets_parent, has_grown, has_new_holder, holds_named, is_moved_by, is_renamed_by, may_be_rewritten, named_entry}
use Rattle.fc_image.proofs.CommandLemmas.{command_law, other_path}
use Rattle.fc_image.proofs.LookupLemmas.{lookup_law}
use Rattle.fc_image.proofs.PathsLemmas.{itself}
use Rattle.fc_image.proofs.RenameLemmas.{last_pushed, moved_itself}
use Rattle.fc_tree.proofs.MemberLemmas.{in_map, no_element}
use Rattle.fc_tree.proofs.SoundLemmas.{same_object}
use Rattle.fc_tree.proofs.WalkedLemmas.{child_path, listed_directory}
use Rattle.fc_changes.proofs.BasicLemmas.{clash, holder_pushed}
use Rattle.fc_changes.proofs.BeforeLemmas.{address_by}
use Rattle.fc_changes.proofs.DirectoriesLemmas.{entries_now, no_new_holder}
use Rattle.fc_changes.proofs.ReadsLemmas.{LiesIn, lies_in}
use Rattle.fc_changes.proofs.RewordedLemmas.{same_address}
use Rattle.fc_laws.specs.nodes.Edits.{Nodes}
use Rattle.fc_laws.specs.nodes.Laws.{IsHeld}
use Rattle.fc_laws.proofs.lemmas.nodes.FitsLemmas.{one_number}
use Rattle.fc_edits.specs.Edit.{Amended, AreEdited, leaving, listings_after, now, numbers}
use Rattle.fc_edits.specs.Moving.{IsMoving, Moving, edit, itself as own_now, moved, new_path}
use Rattle.fc_edits.specs.NodesEdit.{NodesEdit}
use Rattle.fc_edits.proofs.lemmas.NumberLemmas as n_
use Rattle.fc_edits.proofs.lemmas.ShapeLemmas.{not_own, of_one, only}
use Rattle.fc_edits.proofs.lemmas.MovingLemmas as memory
use Rattle.fc_outcomes.specs.Moving.{HasMoved, IsToMove}
use Rattle.fc_outcomes.specs.Puts.{ArePutOut, ArePutsOf, Put}
use Rattle.fc_outcomes.specs.Steady.{AreAsked, AsksNothing}
use Rattle.fc_outcomes.specs.Written.{MovesPaths}
use Rattle.fc_outcomes.proofs.lemmas.PutLemmas.{directory_bytes}
use Rattle.fc_outcomes.proofs.lemmas.RenamePathLemmas.{after_same, edited_by, kept_name, named_rename, other_of, turned_other}
use Rattle.fc_outcomes.proofs.lemmas.SteadyLemmas.{holder_still, now_in, unnamed}
use Rattle.fc_outcomes.proofs.lemmas.UnwrittenLemmas.{turned_bytes}
use Rattle.fc_outcomes.proofs.lemmas.WordLemmas.{same_length}
use Rattle.std.proofs.lemmas.Bool.{false_from_ne_true as unless, or_left, or_right as or_second}
use Rattle.fc_changes.proofs.RenamedLemmas.{same_turned as turned_same}

module _ (v : Opened) (nodes nodes' : Nodes) (c : Moving) (h : IsHeld nodes v.layout v.listings) (g : IsMoving nodes v.layout v.listings c) (ed : AreEdited nodes nodes' (edit c)) (from to : Path)
    (its : IsToMove v from to c) where
  abbrev pub layout : Layout
  layout = v.layout

  abbrev pub listings : List Listing
  listings = v.listings

  abbrev pub command : Command
  command = Command.Rename from to

  abbrev pub ne : NodesEdit
  ne = record {
    nodes = nodes;
    nodes' = nodes';
    layout = layout;
    listings = listings;
    edit = edit c;
    held = h;
    is_edit = memory.is_edit nodes layout listings c h g;
    nodes_edited = ed;
  }

  -- ---- who is where

  l_other : is_same_path c.o.path c.l.object.path ≡ false
  l_other = other_path c.o.path c.l.object.path g.not_into

  dir_other : (a : Amended) → Contains c.dirs a → is_same_path c.o.path a.was.object.path ≡ false
  dir_other a at =
      ⊎_elim
      (λ kid. memory.unspelled nodes layout listings c h g a.was.object a.number (g.amends a at).number_is
      (not_own nodes layout listings a.was c.o a.number c.number h (memory.dir_in nodes layout listings c h g a at) kid (g.amends a at).number_is g.number_is))
      (λ is_l. ap (λ (k : Listing). is_same_path c.o.path k.object.path) is_l ∙ l_other) (g.touched a at)

  stays_in : (n : ℕ) → (n ≡ c.number → ⊥) → Contains (numbers (leaving (edit c))) n → ⊥
  stays_in n other at = other (sym (only c.number n (subst (λ (ps : List (ℕ × Object)). Contains (numbers ps) n) (memory.left_is nodes layout listings c h g) at)))

  dir_stays : (a : Amended) → Contains c.dirs a → Contains (numbers (leaving (edit c))) a.number → ⊥
  dir_stays a at = stays_in a.number (λ same.
      clash (is_same_path c.o.path a.was.object.path) (n_.same_at ne c.o.path a.was.object.path c.number g.number_is ((g.amends a at).number_is ∙ ap (λ (n : ℕ). Some n) same)) (dir_other a at))

  dir_amended : (a : Amended) → Contains c.dirs a → Contains (edit c).amended a
  dir_amended a at = Contains-append_left c.dirs (map (own_now c) c.own) a at

  number_amended : (a : Amended) → Contains c.dirs a → Contains (map (λ (b : Amended). b.number) (edit c).amended) a.number
  number_amended a at = in_map (λ (b : Amended). b.number) (edit c).amended a (dir_amended a at)

  -- ---- the two paths

  abbrev home : Amended
  home = (memory.home nodes layout listings c h g).0

  abbrev home_dir : Contains c.dirs home
  home_dir = (memory.home nodes layout listings c h g).1

  lies_from : (a : Amended) → Contains c.dirs a → Contains a.was.children c.o → LiesIn from a.was.object.path c.o.entry.name
  lies_from a at kid =
      lies_in from a.was.object.path c.o.entry.name
      (ap (is_same_path from) (sym (child_path layout listings h.sound a.was c.o (memory.dir_in nodes layout listings c h g a at) kid)) ∙ its.from_is)

  from_holds : is_same_path (holder from) home.was.object.path ≡ true
  from_holds = (lies_from home home_dir (memory.home nodes layout listings c h g).2).holds

  to_holds : is_same_path (holder to) c.l.object.path ≡ true
  to_holds = (lies_in to c.l.object.path c.name its.to_is).holds

  there_holds : is_same_path (holder to) g.there.0.was.object.path ≡ true
  there_holds = ap (λ (k : Listing). is_same_path (holder to) k.object.path) g.there.2 ∙ to_holds

  named : (a : Amended) → Contains c.dirs a → holds_named command a.was.object.path ≡ true
  named a at =
      ⊎_elim (λ kid. or_left (is_same_path (holder from) a.was.object.path) (is_same_path (holder to) a.was.object.path) (lies_from a at kid).holds)
      (λ is_l. or_second (is_same_path (holder from) a.was.object.path) (is_same_path (holder to) a.was.object.path)
      (ap (λ (k : Listing). is_same_path (holder to) k.object.path) is_l ∙ to_holds)) (g.touched a at)

  o_renamed : is_renamed_by command c.o.path ≡ true
  o_renamed = turned_same from c.o.path its.from_is

  pub may_rewrite : (a : Amended) → Contains (edit c).amended a → may_be_rewritten v command a.was.object.path ≡ true
  may_rewrite a at =
      ⊎_elim
      (λ dir. by_first a.was.object.path (or_left (holds_named command a.was.object.path) (is_renamed_by command a.was.object.path) (named a dir)))
      (λ own. let d = memory.own_amended nodes layout listings c h g a own in
      by_first a.was.object.path
      (or_second (holds_named command a.was.object.path) (is_renamed_by command a.was.object.path)
      (ap (λ (b : Amended). is_renamed_by command b.was.object.path) (sym d.2) ∙ ap (λ (p : Object). is_renamed_by command p.path) (g.own_is d.0 d.1).0 ∙ o_renamed)))
      (Contains-append_cases c.dirs (map (own_now c) c.own) a at)
    where
      by_first : (p : Path) → (holds_named command p || is_renamed_by command p) ≡ true → may_be_rewritten v command p ≡ true
      by_first p first =
          or_left (holds_named command p || is_renamed_by command p || has_grown v command p) (has_new_holder v command p) (or_left (holds_named command p || is_renamed_by command p) (has_grown v command p) first)

  -- ---- the other directories

  rest_in : (k : Listing) → Contains c.rest k → Contains listings k
  rest_in k at = n_.stay_in ne k (n_.same_in ne k at)

  rest_other : (k : Listing) → Contains c.rest k → is_same_path c.o.path k.object.path ≡ false
  rest_other k at = unless (is_same_path c.o.path k.object.path) (λ same.
      g.others k at
      (same_object layout listings h.sound c.o.path k.object c.o (listed_directory layout listings h.sound k (rest_in k at)).0 (memory.among nodes layout listings c h g) same (itself c.o.path)))

  rest_from : (k : Listing) → Contains c.rest k → is_same_path (holder from) k.object.path ≡ false
  rest_from k at = unnamed ne from home.was k home.number (memory.home_in nodes layout listings c h g) (g.amends home home_dir).number_is (number_amended home home_dir) from_holds at

  rest_to : (k : Listing) → Contains c.rest k → is_same_path (holder to) k.object.path ≡ false
  rest_to k at =
      let a = g.there.0 in
      unnamed ne to a.was k a.number (memory.dir_in nodes layout listings c h g a g.there.1) (g.amends a g.there.1).number_is (number_amended a g.there.1) there_holds at

  own_from : is_same_path (holder from) c.o.path ≡ false
  own_from = other_of (holder from) home.was.object.path c.o.path from_holds (turned_other c.o.path home.was.object.path (dir_other home home_dir))

  own_to : is_same_path (holder to) c.o.path ≡ false
  own_to = other_of (holder to) c.l.object.path c.o.path to_holds (turned_other c.o.path c.l.object.path l_other)

  -- ---- the object

  l_stays : (moved c c.l.object).path ≡ c.l.object.path
  l_stays = ap (λ (b : Bool). cond b (new_path c ++ drop (length c.o.path) c.l.object.path) c.l.object.path) g.not_into

  was_there : object_at listings from ≡ Some c.o
  was_there = lookup_law.object layout listings from c.o h.sound (memory.among nodes layout listings c h g) its.from_is

  pub no_length : new_length v command ≡ 0
  no_length = ap (λ (q : Option Object). option_map_or (λ (x : Object). cond (is_copied v from to x) x.entry.len 0) q 0) was_there ∙ ap (λ (b : Bool). cond b c.o.entry.len 0) its.not_copied

  no_copy : copies_file v command ≡ false
  no_copy = ap (λ (q : Option Object). option_map_or (is_copied v from to) q false) was_there ∙ its.not_copied

  -- ---- what is found afterwards

  module _ (found : List Listing) (sound' : AreSound layout found) (order : IsPermutation (listings_after (edit c)) found) (joins : Contains (objects_of found) (moved c c.o)) where
    abbrev w : Opened
    w = record { kind = v.kind; layout = layout; listings = found }

    pub is_there : object_at found to ≡ Some (moved c c.o)
    is_there = lookup_law.object layout found to (moved c c.o) sound' joins (ap (is_same_path to) (moved_itself c.o.path (new_path c) c.o.path refl) ∙ its.to_is)

    pub entry_is : named_entry w command ≡ Some (moved c c.o).entry
    entry_is = named_rename from to w (moved c c.o) is_there

    pub stays_named : NamedStays v w command (copies_file v command)
    stays_named = subst (λ (b : Bool). NamedStays v w command b) (sym no_copy) (same_address (object_at listings from) (object_at found to) c.o (moved c c.o) was_there is_there refl)

    pub entry_steady : NamedEntrySteady v w command
    entry_steady =
        subst (λ (q : Option Object). IfSome q (EntrySteady (dir_form layout) (is_moved_by command) (object_at listings from))) (sym is_there)
        (subst (λ (q : Option Object). EntrySteady (dir_form layout) (is_moved_by command) q (moved c c.o)) (sym was_there)
        (record { last = inl refl; len = λ dir. same_length (dir_form layout) c.o.entry.len (moved c c.o).entry.len refl }))

    -- the address of the directory that holds the object now
    own_holder : (p : Object) → p ≡ c.o → holder_address found (moved c p).path ≡ c.l.object.entry.address
    own_holder p is =
        let a = g.there.0 in
        ap (λ (x : Object). holder_address found (moved c x).path) is ∙ ap (holder_address found) (moved_itself c.o.path (new_path c) c.o.path refl)
        ∙ address_by layout found (new_path c) (now (edit c) a) sound' (now_in (edit c) found order a (dir_amended a g.there.1))
        (ap (λ (q : Path). is_same_path q (moved c a.was.object).path) (holder_pushed c.l.object.path c.name) ∙ ap (λ (k : Listing). is_same_path c.l.object.path (moved c k.object).path) g.there.2
        ∙ ap (is_same_path c.l.object.path) l_stays ∙ itself c.l.object.path)
        ∙ ap (λ (k : Listing). k.object.entry.address) g.there.2

    dir_holder : (a : Amended) → Contains c.dirs a → holder_address found (moved c a.was.object).path ≡ holder_address listings a.was.object.path
    dir_holder a at = holder_still ne layout found sound' order (λ d there. refl) a.was a.number (n_.was_in ne a (dir_amended a at)) (g.amends a at).number_is (dir_stays a at)

    module _ (image image' : List ℕ) (puts : List Put) (mv : HasMoved v from to c puts) (out : ArePutOut layout puts image image') where
      dir_steady : (a : Amended) → Contains c.dirs a → DirectorySteady image image' v w command a.was (now (edit c) a)
      dir_steady a at = record {
        entries = mv.entries a at ∙ ap (λ (q : Option Entry). edited command a.was.object.path q (entries_of a.was.content)) (sym entry_is) ∙ sym (entries_now v w command its.no_growth a.was);
        head = inr (record {
          may = may_rewrite a (dir_amended a at);
          says = subst (λ (n : ℕ). IsRewritten command a.was.object.path n a.was.content a.content) (sym (dir_holder a at)) (mv.says a at);
          bytes = directory_bytes layout layout puts image image' (moved c a.was.object) a.content refl out (mv.written a (dir_amended a at));
        });
      }

      own_steady : (d : Listing × Directory) → Contains c.own d → DirectorySteady image image' v w command d.0 (now (edit c) (own_now c d))
      own_steady d at =
          let at_o = (g.own_is d at).0 in
          let there = memory.own_there nodes layout listings c h g d at in
          record {
            entries = (g.own_is d at).1
                ∙ sym (edited_by from to d.0.object.path (named_entry w command) (entries_of d.0.content) false false (ap (λ (p : Object). is_same_path (holder from) p.path) at_o ∙ own_from)
                (ap (λ (p : Object). is_same_path (holder to) p.path) at_o ∙ own_to))
                ∙ sym (entries_now v w command its.no_growth d.0);
            head = inr (record {
              may = may_rewrite (own_now c d) there;
              says = subst (λ (n : ℕ). IsRewritten command d.0.object.path n d.0.content d.1) (sym (own_holder d.0.object at_o)) (mv.own_says d at);
              bytes = directory_bytes layout layout puts image image' (moved c d.0.object) d.1 refl out (mv.written (own_now c d) there);
            });
          }

      rest_asks : (k : Listing) → Contains c.rest k → AsksNothing v w command (edit c) k
      rest_asks k at =
          let not_it = other_of from c.o.path k.object.path its.from_is (rest_other k at) in
          record {
            entries = sym (edited_by from to k.object.path (named_entry w command) (entries_of k.content) false false (rest_from k at) (rest_to k at)) ∙ sym (entries_now v w command its.no_growth k);
            parent = λ gets. absurd (clash (gets_parent v command k.object.path) gets
                (ap (λ (b : Bool). b || has_new_holder v command k.object.path) (turned_other from k.object.path not_it) ∙ no_new_holder v w command its.no_growth k.object.path));
            name = kept_name from to k.object.path not_it k.content;
          }

      pub asked : AreAsked image image' v w command (edit c)
      asked = record {
        out = λ k at. absurd (no_element k at);
        paths = λ k at. after_same from to c.o.path (new_path c) k.object.path its.from_is its.to_is;
        amended = λ a at.
            ⊎_elim (λ dir. dir_steady a dir)
            (λ own. let d = memory.own_amended nodes layout listings c h g a own in
            subst (λ (b : Amended). DirectorySteady image image' v w command b.was (now (edit c) b)) d.2 (own_steady d.0 d.1))
            (Contains-append_cases c.dirs (map (own_now c) c.own) a at);
        same = rest_asks;
      }

  -- ---- what is written

  module _ (image image' : List ℕ) (puts : List Put) (mv : HasMoved v from to c puts)
      (unw : (o : Object) → Contains (objects_of listings) o → ((a : Amended) → Contains (edit c).amended a → a.was.object ≡ o → ⊥) → HasSectorsOf (sector_bytes layout) o.sectors image image') where
    pub puts_of : ArePutsOf layout layout nodes (edit c) puts image image'
    puts_of = record {
      says = mv.written;
      into_say = λ x at. absurd (no_element x at);
      whose = λ p at. inl (mv.whose p at);
      carried = λ k n at f goes.
          (let number = only c.number n (subst (λ (ps : List (ℕ × Object)). Contains (numbers ps) n) (memory.left_is nodes layout listings c h g) goes) in
          absurd (g.others k at
          (one_number layout listings nodes h.sound h.held k.object c.o n (listed_directory layout listings h.sound k (rest_in k at)).0 (memory.among nodes layout listings c h g) f
          (g.number_is ∙ ap (λ (i : ℕ). Some i) number))));
    }

    -- what a file that moves says stays
    file_same : is_directory_object c.o ≡ false → HasSectorsOf (sector_bytes layout) c.o.sectors image image'
    file_same file = unw c.o (memory.among nodes layout listings c h g) (λ a at same.
        let listed' = n_.stay_in ne a.was (n_.was_in ne a at) in
        let two : true ≡ false = sym (listed_directory layout listings h.sound a.was listed').1 ∙ ap is_directory_object same ∙ file in
        cc)

    pub moves : MovesPaths image image' layout layout nodes listings (edit c) c.o.path (new_path c)
    moves = record {
      no_root = memory.some nodes layout listings c h g;
      none_goes = refl;
      none_comes = refl;
      paths = λ o s. refl;
      others = λ o s. memory.unspelled nodes layout listings c h g o s.number s.number_is (memory.others nodes layout listings c h g s.number s.stays);
      moving = of_one (λ (o : Object). IsMoved c.o.path (new_path c) image image' layout layout o (moved c o)) c.o
          (record {
            path = refl;
            name = refl;
            attrs = refl;
            load = refl;
            exec = refl;
            bytes = λ file. turned_bytes layout layout image image' c.o (moved c c.o) refl refl (file_same file) refl refl refl;
          });
    }

  -- the tree of the model
  pub tree_now : (image image' : List ℕ) (found : List Listing) → IsMove image image' layout layout listings found c.o.path (new_path c)
      → tree_of image' layout found ≡ changed (tree_of image layout listings) command
  tree_now image image' found is_move =
      command_law.rename image image' layout layout listings found from to c.o.path (new_path c) is_move its.from_is its.to_is (its.name_is ∙ sym (last_pushed c.l.object.path c.name))
