-- `rename` in the safe mode, without a copied file and without growth.
use Rattle.std.proofs.Common.{◌≡◌, ⊎_elim, ℕ, Bool, true, false, not, cond, ◌&&◌, ◌||◌, List, [], ◌∷◌, ◌++◌, length, drop, map, inl, refl, sym, ap, ap₂, subst, ◌∙◌, arith, Option, Some, None}
use Rattle.std.specs.Prelude.{Contains, IfSome, IsPermutation, IsSomeAnd, is_some, ◌==◌}
use Rattle.std.specs.Option.{option_map_or}
use Rattle.std.proofs.lemmas.Bool.{false_from_ne_true as unless}
use Rattle.std.proofs.lemmas.List.{append-nil}
use Rattle.std.proofs.lemmas.List.Elements.{Contains-append_cases, Contains-append_left}
use Rattle.fc_names.specs.Names.{Path, is_same_path}
use Rattle.fc_model.specs.Command.{Command}
use Rattle.fc_model.specs.Answer.{changed}
use Rattle.fc_model.specs.Tree.{holder}
use Rattle.fc_dirs.specs.declared.Entry.{Entry}
use Rattle.fc_dirs.specs.Directory.{Directory, entries_of}
use Rattle.fc_image.specs.Layout.{Layout, dir_form, id_of}
use Rattle.fc_image.specs.Walk.{Listing, Object, is_directory_object}
use Rattle.fc_image.specs.Objects.{object_at, objects_of, tree_of}
use Rattle.fc_image.specs.Opening.{Opened}
use Rattle.fc_image.specs.Report.{holder_address}
use Rattle.fc_image.specs.Sound.{AreSound}
use Rattle.fc_image.specs.effects.Effect.{copies_file}
use Rattle.fc_image.specs.effects.Placed.{made_object}
use Rattle.fc_image.specs.effects.Sharing.{units}
use Rattle.fc_image.specs.effects.Short.{Growth, growth_in, is_copied, moved_growth, new_length}
use Rattle.fc_image.specs.effects.Steady.{EntrySteady, IsRewritten, NamedEntrySteady, NamedStays, edited, gets_parent, has_grown, has_new_holder, is_gone, is_moved_by, is_renamed_by, named_entry}
use Rattle.fc_image.specs.safe.SafeEffect.{HasTree}
use Rattle.fc_image.specs.safe.SafeShort.{changed_ids, is_changed_directory, new_id_growth}
use Rattle.fc_image.specs.safe.SafeSteady.{AreLeast, GrownAddress, HaveRuns, SafeObjectPlaced, grown_id, need_ids, new_id_list, own_id}
use Rattle.fc_image.proofs.CommandLemmas.{other_path}
use Rattle.fc_image.proofs.LookupLemmas.{lookup_law}
use Rattle.fc_image.proofs.PathsLemmas.{itself}
use Rattle.fc_image.proofs.RenameLemmas.{moved_itself}
use Rattle.fc_tree.specs.Nodes.{number_of}
use Rattle.fc_tree.proofs.MemberLemmas.{contains_here, in_map, no_element}
use Rattle.fc_tree.proofs.SoundLemmas.{root_or_child, same_object}
use Rattle.fc_tree.proofs.WalkedLemmas.{child_path, listed_directory, root, root_path}
use Rattle.fc_changes.proofs.BasicLemmas.{and_then_none, clash, holder_pushed, map_or_none}
use Rattle.fc_changes.proofs.BeforeLemmas.{address_by}
use Rattle.fc_changes.proofs.DirectoriesLemmas.{entries_now, moved_none, no_new_holder}
use Rattle.fc_changes.proofs.ReadsLemmas.{LiesIn, lies_in}
use Rattle.fc_changes.proofs.RewordedLemmas.{same_address}
use Rattle.fc_laws.specs.agree.Agreed.{parts_with}
use Rattle.fc_laws.specs.nodes.Laws.{IsHeld}
use Rattle.fc_laws.proofs.lemmas.nodes.ListLemmas.{in_other}
use Rattle.fc_edits.specs.Edit.{Amended, IsEdit, leaving, listings_after, numbers}
use Rattle.fc_edits.specs.Moving.{IsMoving, Moving, edit, itself as own_now, moved, new_path}
use Rattle.fc_edits.specs.NodesEdit.{NodesEdit}
use Rattle.fc_edits.proofs.lemmas.MovingLemmas as memory
use Rattle.fc_edits.proofs.lemmas.NewAgreeLemmas as na
use Rattle.fc_edits.proofs.lemmas.NumberLemmas as n_
use Rattle.fc_edits.proofs.lemmas.OwnedLemmas.{joins_found}
use Rattle.fc_edits.proofs.lemmas.ShapeLemmas.{not_own, only}
use Rattle.fc_outcomes.specs.Steady.{AsksNothing}
use Rattle.fc_outcomes.proofs.lemmas.MovedLemmas.{may_rewrite, no_length}
use Rattle.fc_outcomes.proofs.lemmas.RenamePathLemmas.{after_same, edited_by, kept_name, named_rename, other_of, turned_other}
use Rattle.fc_outcomes.proofs.lemmas.SteadyLemmas.{stay_found, unnamed}
use Rattle.fc_outcomes.proofs.lemmas.WordLemmas.{same_length}
use Rattle.fc_safeedits.specs.Relocation.{Relocation, relocated, turned_in, unmoved}
use Rattle.fc_safeedits.specs.SafeChange.{IsWholeMap, SafeChange, TakesForChanged, view_before}
use Rattle.fc_safeedits.specs.SafeImage.{SafeImage}
use Rattle.fc_safeedits.specs.SafeOutcome.{AreSafelyAsked, IsAskedAnew, IsSafeSpaceAsked, IsSafelyAsked, SafeOutcome, is_now}
use Rattle.fc_safeedits.proofs.lemmas.AlongLemmas.{ne'}
use Rattle.fc_safeedits.proofs.lemmas.RelocatedLemmas.{turned_entry, turned_path}
use Rattle.fc_safeedits.proofs.lemmas.RelocatedNodesLemmas.{joining_more}
use Rattle.fc_safeedits.proofs.lemmas.SafeChangeLemmas.{zones_same}
use Rattle.fc_safeedits.proofs.lemmas.SafeDeletionLemmas.{none_and}
use Rattle.fc_safeedits.proofs.lemmas.SafeOutcomeLemmas.{safe_outcome_law}
use Rattle.fc_safeedits.proofs.lemmas.SafePartsLemmas.{parts}
use Rattle.fc_safeedits.specs.SafeMoving.{SafeMoving, SafeMovingLaw}
use Rattle.fc_safeedits.proofs.lemmas.RenamedImageLemmas as i_
use Rattle.fc_safeedits.proofs.lemmas.RenamedPartsLemmas as m_

module _ (d : SafeMoving) where
  abbrev x : SafeChange
  x = d.x

  abbrev c : Moving
  c = d.parts.c

  abbrev y : Layout
  y = Layout.New x.parts.m

  abbrev y' : Layout
  y' = Layout.New x.parts.m'

  abbrev command : Command
  command = Command.Rename d.from d.to

  abbrev v : Opened
  v = view_before x.parts

  abbrev move : Relocation
  move = i_.move d

  abbrev image : SafeImage
  image = i_.image d

  abbrev h : IsHeld x.parts.nodes y x.parts.listings
  h = i_.h d

  abbrev g : IsMoving x.parts.nodes y x.parts.listings c
  g = d.parts.moving

  abbrev ne : NodesEdit
  ne = unmoved move

  pub tree' : HasTree x.parts.kind (changed (tree_of x.image y x.parts.listings) command) x.image'
  tree' = safe_outcome_law.moved_tree image c.o.path (new_path c) (changed (tree_of x.image y x.parts.listings) command) (i_.moves d) (λ found is_move. i_.tree_now d found is_move)

  -- ---- who is where

  dir_in : (a : Amended) → Contains c.dirs a → Contains x.parts.listings a.was
  dir_in = memory.dir_in x.parts.nodes y x.parts.listings c h g

  l_other : is_same_path c.o.path c.l.object.path ≡ false
  l_other = other_path c.o.path c.l.object.path g.not_into

  dir_other : (a : Amended) → Contains c.dirs a → is_same_path c.o.path a.was.object.path ≡ false
  dir_other a at =
      ⊎_elim
      (λ kid. memory.unspelled x.parts.nodes y x.parts.listings c h g a.was.object a.number (g.amends a at).number_is
      (not_own x.parts.nodes y x.parts.listings a.was c.o a.number c.number h (dir_in a at) kid (g.amends a at).number_is g.number_is))
      (λ is_l. ap (λ (k : Listing). is_same_path c.o.path k.object.path) is_l ∙ l_other) (g.touched a at)

  -- only the object leaves its directory
  stays_in : (n : ℕ) → (n ≡ c.number → ⊥) → Contains (numbers (leaving (edit c))) n → ⊥
  stays_in n other at = other (sym (only c.number n (subst (λ (ps : List (ℕ × Object)). Contains (numbers ps) n) (memory.left_is x.parts.nodes y x.parts.listings c h g) at)))

  dir_stays : (a : Amended) → Contains c.dirs a → Contains (numbers (leaving (edit c))) a.number → ⊥
  dir_stays a at = stays_in a.number (λ same.
      clash (is_same_path c.o.path a.was.object.path) (n_.same_at ne c.o.path a.was.object.path c.number g.number_is ((g.amends a at).number_is ∙ ap (λ (n : ℕ). Some n) same)) (dir_other a at))

  dir_amended : (a : Amended) → Contains c.dirs a → Contains (edit c).amended a
  dir_amended a at = Contains-append_left c.dirs (map (own_now c) c.own) a at

  number_amended : (a : Amended) → Contains c.dirs a → Contains (map (λ (b : Amended). b.number) (edit c).amended) a.number
  number_amended a at = in_map (λ (b : Amended). b.number) (edit c).amended a (dir_amended a at)

  -- ---- the two paths

  abbrev home : (a : Amended) × Contains c.dirs a × Contains a.was.children c.o
  home = memory.home x.parts.nodes y x.parts.listings c h g

  lies_from : LiesIn d.from home.0.was.object.path c.o.entry.name
  lies_from = lies_in d.from home.0.was.object.path c.o.entry.name (ap (is_same_path d.from) (sym (child_path y x.parts.listings h.sound home.0.was c.o (dir_in home.0 home.1) home.2)) ∙ d.its.from_is)

  to_holds : is_same_path (holder d.to) c.l.object.path ≡ true
  to_holds = (lies_in d.to c.l.object.path c.name d.its.to_is).holds

  there_holds : is_same_path (holder d.to) g.there.0.was.object.path ≡ true
  there_holds = ap (λ (k : Listing). is_same_path (holder d.to) k.object.path) g.there.2 ∙ to_holds

  own_from : is_same_path (holder d.from) c.o.path ≡ false
  own_from = other_of (holder d.from) home.0.was.object.path c.o.path lies_from.holds (turned_other c.o.path home.0.was.object.path (dir_other home.0 home.1))

  own_to : is_same_path (holder d.to) c.o.path ≡ false
  own_to = other_of (holder d.to) c.l.object.path c.o.path to_holds (turned_other c.o.path c.l.object.path l_other)

  -- ---- the other directories

  rest_in : (k : Listing) → Contains c.rest k → Contains x.parts.listings k
  rest_in k at = n_.stay_in ne k (n_.same_in ne k at)

  rest_other : (k : Listing) → Contains c.rest k → is_same_path d.from k.object.path ≡ false
  rest_other k at = other_of d.from c.o.path k.object.path d.its.from_is (unless (is_same_path c.o.path k.object.path) (λ same.
      g.others k at
      (same_object y x.parts.listings h.sound c.o.path k.object c.o (listed_directory y x.parts.listings h.sound k (rest_in k at)).0 (m_.o_in x.parts d.parts) same (itself c.o.path))))

  rest_from : (k : Listing) → Contains c.rest k → is_same_path (holder d.from) k.object.path ≡ false
  rest_from k at = unnamed ne d.from home.0.was k home.0.number (dir_in home.0 home.1) (g.amends home.0 home.1).number_is (number_amended home.0 home.1) lies_from.holds at

  rest_to : (k : Listing) → Contains c.rest k → is_same_path (holder d.to) k.object.path ≡ false
  rest_to k at =
      let a = g.there.0 in unnamed ne d.to a.was k a.number (dir_in a g.there.1) (g.amends a g.there.1).number_is (number_amended a g.there.1) there_holds at

  none_of : (a b e f i : Bool) → a ≡ false → b ≡ false → e ≡ false → f ≡ false → i ≡ false → ((a || b) || e || f || i) ≡ false
  none_of true b e f i p q r s t = absurd (cc)
  none_of false true e f i p q r s t = absurd (cc)
  none_of false false true f i p q r s t = absurd (cc)
  none_of false false false true i p q r s t = absurd (cc)
  none_of false false false false i p q r s t = t

  still_dir : (k : Listing) → Contains c.rest k → is_changed_directory v command k.object ≡ false
  still_dir k at =
      ap (λ (t : Bool). is_directory_object k.object && t && not (is_gone command k.object.path))
      (none_of (is_same_path (holder d.from) k.object.path) (is_same_path (holder d.to) k.object.path) (is_renamed_by command k.object.path) (has_grown v command k.object.path) (has_new_holder v command k.object.path)
      (rest_from k at) (rest_to k at) (turned_other d.from k.object.path (rest_other k at)) (map_or_none _ (growth_in v command) false d.its.no_growth) (no_new_holder v v command d.its.no_growth k.object.path))
      ∙ none_and (is_directory_object k.object) (not (is_gone command k.object.path))

  -- ---- the object

  was_there : object_at x.parts.listings d.from ≡ Some c.o
  was_there = lookup_law.object y x.parts.listings d.from c.o h.sound (m_.o_in x.parts d.parts) d.its.from_is

  no_copy : copies_file v command ≡ false
  no_copy = ap (λ (q : Option Object). option_map_or (is_copied v d.from d.to) q false) was_there ∙ d.its.not_copied

  none_long : new_length v command ≡ 0
  none_long = no_length v x.parts.nodes x.parts.nodes' c h g d.parts.nodes_edited d.from d.to d.its

  none_new : new_id_growth v command ≡ None
  none_new = and_then_none _ (moved_growth v command) (moved_none v v command d.its.no_growth)

  -- ---- in each order in which the listings may be found

  module _ (found : List Listing) (sound : AreSound y' found) (order : IsPermutation (listings_after (relocated move)) found) where
    abbrev w : Opened
    w = is_now image found

    abbrev o' : Object
    o' = turned_in move c.o

    there_now : Contains (objects_of found) o'
    there_now =
        joins_found (na.held_edit (parts image.parts)) found sound order (c.number, o')
        (joining_more move (c.number, moved c c.o) (subst (λ (ps : List (ℕ × Object)). Contains ps (c.number, moved c c.o)) (sym (m_.joins x.parts d.parts)) (contains_here (c.number, moved c c.o) [])))

    now_path : o'.path ≡ new_path c
    now_path = turned_path move c.o ∙ moved_itself c.o.path (new_path c) c.o.path refl

    is_there : object_at found d.to ≡ Some o'
    is_there = lookup_law.object y' found d.to o' sound there_now (ap (is_same_path d.to) now_path ∙ d.its.to_is)

    entry_is : named_entry w command ≡ Some (moved c c.o).entry
    entry_is = named_rename d.from d.to w o' is_there ∙ ap (λ (e : Entry). Some e) (turned_entry move c.o)

    -- ---- who holds a directory then

    stays_then : (k : Listing) → Contains x.parts.listings k → Contains (n_.stay (ne' move)) k
    stays_then k at = in_other x.parts.listings (n_.stay (ne' move)) (ne' move).is_edit.found k at

    found_as : (k : Listing) → Contains x.parts.listings k → (l : Listing) × Contains found l × (l.object ≡ turned_in move k.object)
    found_as k at = stay_found (ne' move) y' found sound order k (stays_then k at)

    holds_now : (path : Path) (k : Listing) → Contains x.parts.listings k → is_same_path (holder path) (turned_in move k.object).path ≡ true → holder_address found path ≡ k.object.entry.address
    holds_now path k at holds =
        let f = found_as k at in
        address_by y' found path f.0 sound f.1 (ap (λ (o : Object). is_same_path (holder path) o.path) f.2 ∙ holds) ∙ ap (λ (o : Object). o.entry.address) f.2 ∙ ap (λ (e : Entry). e.address) (turned_entry move k.object)

    abbrev is : IsEdit x.parts.nodes x.parts.listings (edit c)
    is = ne.is_edit

    -- The address of the directory that holds one stays if that keeps its directory, wherever this is.
    holder_same : (k : Listing) (n : ℕ) → Contains x.parts.listings k → number_of x.parts.nodes k.object.path ≡ Some n → (Contains (numbers (leaving (edit c))) n → ⊥)
        → holder_address found (turned_in move k.object).path ≡ holder_address x.parts.listings k.object.path
    holder_same k n at number_is stays = ⊎_elim top below (root_or_child y x.parts.listings h.sound k.object k_in)
      where
        k_in : Contains (objects_of x.parts.listings) k.object
        k_in = (listed_directory y x.parts.listings h.sound k at).0

        by : (l : Listing) → Contains x.parts.listings l → is_same_path (holder k.object.path) l.object.path ≡ true → is_same_path (holder (turned_in move k.object).path) (turned_in move l.object).path ≡ true
            → holder_address found (turned_in move k.object).path ≡ holder_address x.parts.listings k.object.path
        by l there same same' = holds_now (turned_in move k.object).path l there same' ∙ sym (address_by y x.parts.listings k.object.path l h.sound there same)

        top : root y x.parts.listings h.sound ≡ k.object → holder_address found (turned_in move k.object).path ≡ holder_address x.parts.listings k.object.path
        top is_top =
            let none : k.object.path ≡ [] = ap (λ (o : Object). o.path) (sym is_top) ∙ root_path y x.parts.listings h.sound in
            by k at (ap (λ (p : Path). is_same_path (holder p) p) none) (ap (λ (p : Path). is_same_path (holder p) p) (turned_path move k.object ∙ is.top_path k.object k_in none))

        below : (l : Listing) × Contains x.parts.listings l × Contains l.children k.object → holder_address found (turned_in move k.object).path ≡ holder_address x.parts.listings k.object.path
        below l =
            by l.0 l.1
            (ap (λ (p : Path). is_same_path p l.0.object.path) (ap holder (child_path y x.parts.listings h.sound l.0 k.object l.1 l.2) ∙ holder_pushed l.0.object.path k.object.entry.name) ∙ itself l.0.object.path)
            (ap₂ (λ (p q : Path). is_same_path p q) (ap holder (turned_path move k.object ∙ is.paths l.0 k.object n l.1 l.2 number_is stays) ∙ holder_pushed (moved c l.0.object).path k.object.entry.name)
            (turned_path move l.0.object) ∙ itself (moved c l.0.object).path)

    -- that of the object is the directory to which it goes
    own_holder : (p : Object) → p ≡ c.o → holder_address found (turned_in move p).path ≡ c.l.object.entry.address
    own_holder p at_o =
        let a = g.there.0 in
        let stays : (moved c c.l.object).path ≡ c.l.object.path = ap (λ (b : Bool). cond b (new_path c ++ drop (length c.o.path) c.l.object.path) c.l.object.path) g.not_into in
        ap (λ (q : Object). holder_address found (turned_in move q).path) at_o ∙ ap (holder_address found) now_path
        ∙ holds_now (new_path c) a.was (dir_in a g.there.1)
        (ap₂ (λ (q r : Path). is_same_path q r) (holder_pushed c.l.object.path c.name) (turned_path move a.was.object ∙ ap (λ (k : Listing). (moved c k.object).path) g.there.2 ∙ stays) ∙ itself c.l.object.path)
        ∙ ap (λ (k : Listing). k.object.entry.address) g.there.2

    -- ---- what each directory says then

    dir_asked : (a : Amended) → Contains c.dirs a → IsAskedAnew image command found a
    dir_asked a at = record {
      entries = d.entries a at ∙ ap (λ (q : Option Entry). edited command a.was.object.path q (entries_of a.was.content)) (sym entry_is) ∙ sym (entries_now v w command d.its.no_growth a.was);
      may = may_rewrite v x.parts.nodes x.parts.nodes' c h g d.parts.nodes_edited d.from d.to d.its a (dir_amended a at);
      says = subst (λ (n : ℕ). IsRewritten command a.was.object.path n a.was.content a.content) (sym (holder_same a.was a.number (dir_in a at) (g.amends a at).number_is (dir_stays a at))) (d.says a at);
      bytes = i_.dir_written d a (dir_amended a at);
    }

    own_asked : (k : Listing × Directory) → Contains c.own k → IsAskedAnew image command found (own_now c k)
    own_asked k at =
        let at_o = (g.own_is k at).0 in
        let there = memory.own_there x.parts.nodes y x.parts.listings c h g k at in
        record {
          entries = (g.own_is k at).1
              ∙ sym (edited_by d.from d.to k.0.object.path (named_entry w command) (entries_of k.0.content) false false (ap (λ (p : Object). is_same_path (holder d.from) p.path) at_o ∙ own_from)
              (ap (λ (p : Object). is_same_path (holder d.to) p.path) at_o ∙ own_to))
              ∙ sym (entries_now v w command d.its.no_growth k.0);
          may = may_rewrite v x.parts.nodes x.parts.nodes' c h g d.parts.nodes_edited d.from d.to d.its (own_now c k) there;
          says = subst (λ (n : ℕ). IsRewritten command k.0.object.path n k.0.content k.1) (sym (own_holder k.0.object at_o)) (d.own_says k at);
          bytes = i_.dir_written d (own_now c k) there;
        }

    rest_asked : (k : Listing) → Contains c.rest k → AsksNothing v w command (edit c) k
    rest_asked k at = record {
      entries = sym (edited_by d.from d.to k.object.path (named_entry w command) (entries_of k.content) false false (rest_from k at) (rest_to k at)) ∙ sym (entries_now v w command d.its.no_growth k);
      parent = λ gets. absurd (clash (gets_parent v command k.object.path) gets
          (ap (λ (b : Bool). b || has_new_holder v command k.object.path) (turned_other d.from k.object.path (rest_other k at)) ∙ no_new_holder v w command d.its.no_growth k.object.path));
      name = kept_name d.from d.to k.object.path (rest_other k at) k.content;
    }

    asked : AreSafelyAsked image command found
    asked = record {
      out = λ k at. absurd (no_element k at);
      paths = λ k at. after_same d.from d.to c.o.path (new_path c) k.object.path d.its.from_is d.its.to_is;
      amended = λ a at.
          ⊎_elim (λ dir. dir_asked a dir)
          (λ own. let k = memory.own_amended x.parts.nodes y x.parts.listings c h g a own in subst (IsAskedAnew image command found) k.2 (own_asked k.0 k.1)) (Contains-append_cases c.dirs (map (own_now c) c.own) a at);
      same = rest_asked;
      all = still_dir;
    }

    named : NamedStays v w command (copies_file v command)
    named = subst (λ (b : Bool). NamedStays v w command b) (sym no_copy) (same_address (object_at x.parts.listings d.from) (object_at found d.to) c.o o' was_there is_there (ap (λ (e : Entry). e.address) (turned_entry move c.o)))

    entry : NamedEntrySteady v w command
    entry =
        let last : o'.entry.last ≡ c.o.entry.last = ap (λ (e : Entry). e.last) (turned_entry move c.o) in
        let len : o'.entry.len ≡ c.o.entry.len = ap (λ (e : Entry). e.len) (turned_entry move c.o) in
        subst (λ (q : Option Object). IfSome q (EntrySteady (dir_form y) (is_moved_by command) (object_at x.parts.listings d.from))) (sym is_there)
        (subst (λ (q : Option Object). EntrySteady (dir_form y) (is_moved_by command) q o') (sym was_there) (record { last = inl last; len = λ dir. same_length (dir_form y) c.o.entry.len o'.entry.len len }))

    -- ---- space

    none_own : (q : Option Object) → own_id x.parts.m v command q ≡ []
    none_own None = refl
    none_own (Some o) = ap (λ (n : ℕ). cond (units x.parts.m.geometry n == 0) [] (id_of o.entry.address ∷ [])) none_long

    none_grown : grown_id v w command ≡ []
    none_grown = map_or_none _ (new_id_growth v command) [] none_new

    needs : need_ids x.parts.m v w command ≡ changed_ids x.parts.m v command
    needs =
        ap₂ (λ (ids more : List ℕ). ids ++ changed_ids x.parts.m v command ++ more) (none_own (made_object w command)) none_grown
        ∙ append-nil (changed_ids x.parts.m v command)

    news : new_id_list x.parts.m v w command ≡ []
    news = ap₂ (λ (ids more : List ℕ). ids ++ more) (none_own (made_object w command)) none_grown

    space : TakesForChanged x.parts command → IsSafeSpaceAsked image command found
    space t = record {
      parts = t.parts;
      fitted = t.fitted;
      takes = t.takes;
      ids = t.ids ∙ sym needs;
      fresh = λ k taken unused. absurd (let used = t.used k taken in cc);
      needs_met = subst (λ (ids : List ℕ). HaveRuns x.parts.m' ids t.parts) (sym needs) t.needs_met;
      least = subst (AreLeast x.parts.m) (sym news) refl;
      object = subst (λ (n : ℕ). SafeObjectPlaced x.parts.m x.parts.m' (units x.parts.m.geometry n) None (made_object w command)) (sym none_long) (λ some. absurd (omega (arith, some)));
      grown = subst (λ (q : Option Growth). IfSome q (λ (growth : Growth). IsSomeAnd (object_at found growth.0.path) (λ (o : Object). (o.entry.len ≡ growth.1) × GrownAddress (is_some (new_id_growth v command)) growth.0 o)))
          (sym d.its.no_growth) tt;
      back = t.back;
    }

    safely_asked : TakesForChanged x.parts command → IsWholeMap x → IsSafelyAsked image command found
    safely_asked t whole = record {
      directories = asked;
      space = space t;
      named = named;
      entry = entry;
      made = tt;
      empty = λ none. absurd (cc);
      zones = zones_same v w command x.parts.m x.parts.m' d.its.no_growth whole.zones;
    }

  pub outcome' : TakesForChanged x.parts command → IsWholeMap x → SafeOutcome x.parts.kind x.image x.image' v command (parts_with x.parts.m' x.parts.nodes' x.parts.owners')
  outcome' t whole =
      safe_outcome_law.moved image command c.o.path (new_path c) (i_.moves d) (record { copies = whole.copies; links = whole.links; asked = λ found sound order. safely_asked found sound order t whole })
      (λ found is_move. i_.tree_now d found is_move)

pub safe_moving_law : SafeMovingLaw
safe_moving_law = record { agrees = λ x d. m_.agrees' x d; tree = λ d. tree' d; outcome = λ d t whole. outcome' d t whole }
