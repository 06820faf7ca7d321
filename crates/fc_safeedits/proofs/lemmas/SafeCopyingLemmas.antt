-- `rename` in the safe mode that copies its file, without growth.
use Rattle.std.proofs.Common.{◌≡◌, ◌≤◌, ⊎_elim, ℕ, Bool, true, false, not, ◌||◌, ◌&&◌, List, [], ◌∷◌, ◌++◌, inl, sym, ap, ap₂, subst, ◌∙◌, Option, Some, None}
use Rattle.std.specs.Prelude.{Contains, IfSome, IsPermutation, IsSomeAnd, is_some}
use Rattle.std.specs.Option.{option_map_or}
use Rattle.std.proofs.lemmas.Bool.{false_from_ne_true as unless, or_left, or_right as or_second}
use Rattle.std.proofs.lemmas.List.{append-nil}
use Rattle.fc_names.specs.Names.{Path, is_same_path}
use Rattle.fc_model.specs.Command.{Command}
use Rattle.fc_model.specs.Answer.{changed}
use Rattle.fc_model.specs.Tree.{holder}
use Rattle.fc_dirs.specs.declared.Entry.{Entry}
use Rattle.fc_dirs.specs.Directory.{entries_of}
use Rattle.fc_image.specs.Layout.{Layout, dir_form}
use Rattle.fc_image.specs.Walk.{Listing, Object, is_directory_object}
use Rattle.fc_image.specs.Objects.{object_at, objects_of, tree_of}
use Rattle.fc_image.specs.Opening.{Opened}
use Rattle.fc_image.specs.Report.{holder_address}
use Rattle.fc_image.specs.Sound.{AreSound}
use Rattle.fc_image.specs.effects.Effect.{copies_file}
use Rattle.fc_image.specs.effects.Placed.{made_object}
use Rattle.fc_image.specs.effects.Short.{Growth, growth_in, is_copied, moved_growth, object_units, slack_for}
use Rattle.fc_image.specs.effects.Steady.{EntrySteady, IsRewritten, NamedEntrySteady, NamedStays, gets_parent, has_grown, has_new_holder, holds_named, is_gone, is_moved_by, is_renamed_by, may_be_rewritten, named_entry, with_made}
use Rattle.fc_image.specs.safe.SafeEffect.{HasTree}
use Rattle.fc_image.specs.safe.SafeShort.{changed_ids, is_changed_directory, new_id_growth}
use Rattle.fc_image.specs.safe.SafeSteady.{AreLeast, GrownAddress, HaveRuns, SafeObjectPlaced, grown_id, need_ids, new_id_list, own_id}
use Rattle.fc_image.proofs.LookupLemmas.{lookup_law}
use Rattle.fc_image.proofs.PathsLemmas.{is_at, itself}
use Rattle.fc_tree.proofs.MemberLemmas.{contains_here, many_permuted, no_element}
use Rattle.fc_tree.proofs.SoundLemmas.{root_or_child}
use Rattle.fc_tree.proofs.WalkedLemmas.{child_path, listed_directory, root, root_path}
use Rattle.fc_changes.proofs.BasicLemmas.{and_then_none, clash, holder_pushed, map_or_none}
use Rattle.fc_changes.proofs.BeforeLemmas.{address_by}
use Rattle.fc_changes.proofs.DirectoriesLemmas.{entries_now, moved_none, no_new_holder}
use Rattle.fc_changes.proofs.ReadsLemmas.{lies_in}
use Rattle.fc_laws.specs.agree.Agreed.{parts_with}
use Rattle.fc_laws.specs.nodes.Laws.{IsHeld}
use Rattle.fc_laws.proofs.lemmas.nodes.ListLemmas.{in_other}
use Rattle.fc_edits.specs.Copying.{Copying, IsCopying, copied, edit, from_it, new_path, to_it}
use Rattle.fc_edits.specs.Edit.{Amended, listings_after}
use Rattle.fc_edits.specs.NodesEdit.{NodesEdit}
use Rattle.fc_edits.proofs.lemmas.CopiesLemmas.{of_both}
use Rattle.fc_edits.proofs.lemmas.CopyingLemmas as memory
use Rattle.fc_edits.proofs.lemmas.ListLemmas.{two_apart}
use Rattle.fc_edits.proofs.lemmas.NewAgreeLemmas as na
use Rattle.fc_edits.proofs.lemmas.NumberLemmas as n_
use Rattle.fc_edits.proofs.lemmas.NumberLemmas.{few_listings}
use Rattle.fc_edits.proofs.lemmas.OwnedLemmas.{joins_found}
use Rattle.fc_image.proofs.EntriesLemmas.{later as contains_later}
use Rattle.fc_outcomes.specs.Steady.{AsksNothing}
use Rattle.fc_outcomes.proofs.lemmas.RenamePathLemmas.{after_same, edited_by, kept_name, named_rename, other_of, turned_other}
use Rattle.fc_outcomes.proofs.lemmas.SteadyLemmas.{stay_found, unnamed}
use Rattle.fc_outcomes.proofs.lemmas.WordLemmas.{same_length}
use Rattle.fc_safeedits.specs.Relocation.{Relocation, laid_at, relocated, turned_in, unmoved}
use Rattle.fc_safeedits.specs.SafeChange.{IsWholeMap, SafeChange, moves_in, view_before}
use Rattle.fc_safeedits.specs.SafeImage.{SafeImage}
use Rattle.fc_safeedits.specs.SafeOutcome.{AreSafelyAsked, IsAskedAnew, IsSafeSpaceAsked, IsSafelyAsked, SafeOutcome, is_now}
use Rattle.fc_safeedits.proofs.lemmas.AlongLemmas.{ne'}
use Rattle.fc_safeedits.proofs.lemmas.LaidLemmas.{laid_still}
use Rattle.fc_safeedits.proofs.lemmas.RelocatedLemmas.{turned_entry, turned_path}
use Rattle.fc_safeedits.proofs.lemmas.RelocatedNodesLemmas.{joining_more}
use Rattle.fc_safeedits.proofs.lemmas.SafeChangeLemmas.{zones_same}
use Rattle.fc_safeedits.proofs.lemmas.SafeDeletionLemmas.{none_and}
use Rattle.fc_safeedits.proofs.lemmas.SafeOutcomeLemmas.{safe_outcome_law}
use Rattle.fc_safeedits.proofs.lemmas.SafePartsLemmas.{parts}
use Rattle.fc_safeedits.specs.SafeAddition.{TakesForObject}
use Rattle.fc_safeedits.specs.SafeCopying.{SafeCopying, SafeCopyingLaw}
use Rattle.fc_safeedits.proofs.lemmas.CopiedImageLemmas as i_
use Rattle.fc_safeedits.proofs.lemmas.CopiedPartsLemmas as m_

module _ (d : SafeCopying) where
  abbrev x : SafeChange
  x = d.x

  abbrev c : Copying
  c = d.parts.c

  abbrev y : Layout
  y = Layout.New x.parts.m

  abbrev y' : Layout
  y' = Layout.New x.parts.m'

  abbrev command : Command
  command = Command.Rename d.from d.to

  abbrev v : Opened
  v = view_before x.parts

  abbrev move : Relocation
  move = i_.move d

  abbrev image : SafeImage
  image = i_.image d

  abbrev h : IsHeld x.parts.nodes y x.parts.listings
  h = i_.h d

  abbrev g : IsCopying x.parts.nodes y x.parts.listings c
  g = d.parts.copying

  abbrev ne : NodesEdit
  ne = unmoved move

  -- the copy
  abbrev o : Object
  o = copied c c.o

  pub tree' : HasTree x.parts.kind (changed (tree_of x.image y x.parts.listings) command) x.image'
  tree' = safe_outcome_law.moved_tree image c.o.path (new_path c) (changed (tree_of x.image y x.parts.listings) command) (i_.moves d) (λ found is_move. i_.tree_now d found is_move)

  -- ---- both directories

  k_in : Contains x.parts.listings c.k
  k_in = memory.k_in x.parts.nodes y x.parts.listings c h g

  l_in : Contains x.parts.listings c.l
  l_in = memory.l_in x.parts.nodes y x.parts.listings c h g

  from_holds : is_same_path (holder d.from) c.k.object.path ≡ true
  from_holds =
      (lies_in d.from c.k.object.path c.o.entry.name (ap (is_same_path d.from) (sym (child_path y x.parts.listings h.sound c.k c.o k_in (memory.kid_in x.parts.nodes y x.parts.listings c h g))) ∙ d.its.from_is)).holds

  to_holds : is_same_path (holder d.to) c.l.object.path ≡ true
  to_holds = (lies_in d.to c.l.object.path c.name d.its.to_is).holds

  apart : is_same_path c.k.object.path c.l.object.path ≡ false
  apart = unless (is_same_path c.k.object.path c.l.object.path) (λ same.
      let t : Listing → Bool = λ (k : Listing). is_at c.k.object.path k.object in
      two_apart t (c.k ∷ []) (c.l ∷ c.rest) c.k c.l
      (subst (λ n. n ≤ 1) (sym (many_permuted t x.parts.listings (c.k ∷ (c.l ∷ c.rest)) g.found)) (few_listings y x.parts.listings h.sound c.k.object.path)) (contains_here c.k []) (contains_here c.l c.rest)
      (itself c.k.object.path) same)

  by_name : (p : Path) → holds_named command p ≡ true → may_be_rewritten v command p ≡ true
  by_name p named =
      or_left (holds_named command p || is_renamed_by command p || has_grown v command p) (has_new_holder v command p)
      (or_left (holds_named command p || is_renamed_by command p) (has_grown v command p) (or_left (holds_named command p) (is_renamed_by command p) named))

  -- ---- the other directories

  rest_in : (k : Listing) → Contains c.rest k → Contains x.parts.listings k
  rest_in k at = n_.stay_in ne k (n_.same_in ne k at)

  rest_other : (k : Listing) → Contains c.rest k → is_same_path d.from k.object.path ≡ false
  rest_other k at = other_of d.from c.o.path k.object.path d.its.from_is (i_.dir_other d k (rest_in k at))

  rest_from : (k : Listing) → Contains c.rest k → is_same_path (holder d.from) k.object.path ≡ false
  rest_from k at = unnamed ne d.from c.k k c.home k_in g.home_is (contains_here c.home (c.dir ∷ [])) from_holds at

  rest_to : (k : Listing) → Contains c.rest k → is_same_path (holder d.to) k.object.path ≡ false
  rest_to k at = unnamed ne d.to c.l k c.dir l_in g.dir_is (contains_later c.home c.dir (c.dir ∷ []) (contains_here c.dir [])) to_holds at

  none_of : (a b e f i : Bool) → a ≡ false → b ≡ false → e ≡ false → f ≡ false → i ≡ false → ((a || b) || e || f || i) ≡ false
  none_of true b e f i p q r s t = absurd (cc)
  none_of false true e f i p q r s t = absurd (cc)
  none_of false false true f i p q r s t = absurd (cc)
  none_of false false false true i p q r s t = absurd (cc)
  none_of false false false false i p q r s t = t

  still_dir : (k : Listing) → Contains c.rest k → is_changed_directory v command k.object ≡ false
  still_dir k at =
      ap (λ (t : Bool). is_directory_object k.object && t && not (is_gone command k.object.path))
      (none_of (is_same_path (holder d.from) k.object.path) (is_same_path (holder d.to) k.object.path) (is_renamed_by command k.object.path) (has_grown v command k.object.path) (has_new_holder v command k.object.path)
      (rest_from k at) (rest_to k at) (turned_other d.from k.object.path (rest_other k at)) (map_or_none _ (growth_in v command) false d.no_growth) (no_new_holder v v command d.no_growth k.object.path))
      ∙ none_and (is_directory_object k.object) (not (is_gone command k.object.path))

  -- ---- the file

  was_there : object_at x.parts.listings d.from ≡ Some c.o
  was_there = lookup_law.object y x.parts.listings d.from c.o h.sound (memory.among x.parts.nodes y x.parts.listings c h g) d.its.from_is

  copies : copies_file v command ≡ true
  copies = ap (λ (q : Option Object). option_map_or (is_copied v d.from d.to) q false) was_there ∙ d.its.shares

  none_new : new_id_growth v command ≡ None
  none_new = and_then_none _ (moved_growth v command) (moved_none v v command d.no_growth)

  -- ---- in each order in which the listings may be found

  module _ (found : List Listing) (sound : AreSound y' found) (order : IsPermutation (listings_after (relocated move)) found) where
    abbrev w : Opened
    w = is_now image found

    there_now : Contains (objects_of found) o
    there_now =
        subst (λ (p : Object). Contains (objects_of found) p) (laid_still x.parts.m' (moves_in x.parts) o d.parts.elsewhere)
        (joins_found (na.held_edit (parts image.parts)) found sound order (laid_at move (c.number, o)) (joining_more move (c.number, o) (contains_here (c.number, o) [])))

    is_there : object_at found d.to ≡ Some o
    is_there = lookup_law.object y' found d.to o sound there_now (ap (λ (p : Object). is_same_path d.to p.path) (i_.copy_is d) ∙ d.its.to_is)

    entry_is : named_entry w command ≡ Some o.entry
    entry_is = named_rename d.from d.to w o is_there

    made_is : made_object w command ≡ Some o
    made_is = is_there

    -- ---- who holds a directory then

    found_as : (k : Listing) → Contains x.parts.listings k → (l : Listing) × Contains found l × (l.object ≡ turned_in move k.object)
    found_as k at = stay_found (ne' move) y' found sound order k (in_other x.parts.listings (n_.stay (ne' move)) (ne' move).is_edit.found k at)

    path_same : (k : Listing) → Contains x.parts.listings k → (turned_in move k.object).path ≡ k.object.path
    path_same k at = turned_path move k.object ∙ ap (λ (p : Object). p.path) (i_.dir_stays d k at)

    address_same : (k : Listing) → Contains x.parts.listings k → (turned_in move k.object).entry.address ≡ k.object.entry.address
    address_same k at = ap (λ (e : Entry). e.address) (turned_entry move k.object) ∙ ap (λ (p : Object). p.entry.address) (i_.dir_stays d k at)

    holder_now : (k : Listing) → Contains x.parts.listings k → holder_address found k.object.path ≡ holder_address x.parts.listings k.object.path
    holder_now k at = ⊎_elim top below (root_or_child y x.parts.listings h.sound k.object (listed_directory y x.parts.listings h.sound k at).0)
      where
        by : (l : Listing) → Contains x.parts.listings l → is_same_path (holder k.object.path) l.object.path ≡ true → holder_address found k.object.path ≡ holder_address x.parts.listings k.object.path
        by l there same =
            let f = found_as l there in
            address_by y' found k.object.path f.0 sound f.1 (ap (λ (p : Object). is_same_path (holder k.object.path) p.path) f.2 ∙ ap (is_same_path (holder k.object.path)) (path_same l there) ∙ same)
            ∙ ap (λ (p : Object). p.entry.address) f.2 ∙ address_same l there ∙ sym (address_by y x.parts.listings k.object.path l h.sound there same)

        top : root y x.parts.listings h.sound ≡ k.object → holder_address found k.object.path ≡ holder_address x.parts.listings k.object.path
        top is_top =
            let none : k.object.path ≡ [] = ap (λ (p : Object). p.path) (sym is_top) ∙ root_path y x.parts.listings h.sound in
            by k at (ap (λ (p : Path). is_same_path (holder p) p) none)

        below : (l : Listing) × Contains x.parts.listings l × Contains l.children k.object → holder_address found k.object.path ≡ holder_address x.parts.listings k.object.path
        below l =
            by l.0 l.1
            (ap (λ (p : Path). is_same_path p l.0.object.path) (ap holder (child_path y x.parts.listings h.sound l.0 k.object l.1 l.2) ∙ holder_pushed l.0.object.path k.object.entry.name) ∙ itself l.0.object.path)

    -- ---- what each directory says then

    asked_anew : (a : Amended) (at : Contains (edit c).amended a) → entries_of a.content ≡ Rattle.fc_image.specs.effects.Steady.entries_after v w command a.was → holds_named command a.was.object.path ≡ true
        → IsAskedAnew image command found a
    asked_anew a at entries named = record {
      entries = entries;
      may = by_name a.was.object.path named;
      says = subst (λ (n : ℕ). IsRewritten command a.was.object.path n a.was.content a.content)
          (sym (ap (holder_address found) (path_same a.was (i_.dir_in d a at)) ∙ holder_now a.was (i_.dir_in d a at))) (d.says a at);
      bytes = i_.dir_written d a at;
    }

    from_asked : IsAskedAnew image command found (from_it c)
    from_asked =
        asked_anew (from_it c) (contains_here (from_it c) (to_it c ∷ []))
        (d.left
        ∙ sym (edited_by d.from d.to c.k.object.path (named_entry w command) (entries_of c.k.content) true false from_holds
        (other_of (holder d.to) c.l.object.path c.k.object.path to_holds (turned_other c.k.object.path c.l.object.path apart))) ∙ sym (entries_now v w command d.no_growth c.k))
        (or_left (is_same_path (holder d.from) c.k.object.path) (is_same_path (holder d.to) c.k.object.path) from_holds)

    to_asked : IsAskedAnew image command found (to_it c)
    to_asked =
        asked_anew (to_it c) (contains_later (from_it c) (to_it c) (to_it c ∷ []) (contains_here (to_it c) []))
        (d.joined ∙ ap (λ (q : Option Entry). with_made q (entries_of c.l.content)) (sym entry_is)
        ∙ sym (edited_by d.from d.to c.l.object.path (named_entry w command) (entries_of c.l.content) false true (other_of (holder d.from) c.k.object.path c.l.object.path from_holds apart) to_holds)
        ∙ sym (entries_now v w command d.no_growth c.l)) (or_second (is_same_path (holder d.from) c.l.object.path) (is_same_path (holder d.to) c.l.object.path) to_holds)

    rest_asked : (k : Listing) → Contains c.rest k → AsksNothing v w command (edit c) k
    rest_asked k at = record {
      entries = sym (edited_by d.from d.to k.object.path (named_entry w command) (entries_of k.content) false false (rest_from k at) (rest_to k at)) ∙ sym (entries_now v w command d.no_growth k);
      parent = λ gets. absurd (clash (gets_parent v command k.object.path) gets
          (ap (λ (b : Bool). b || has_new_holder v command k.object.path) (turned_other d.from k.object.path (rest_other k at)) ∙ no_new_holder v w command d.no_growth k.object.path));
      name = kept_name d.from d.to k.object.path (rest_other k at) k.content;
    }

    asked : AreSafelyAsked image command found
    asked = record {
      out = λ k at. absurd (no_element k at);
      paths = λ k at.
          (let listed = n_.stay_in ne k at in
          ap (is_same_path _) (ap (λ (p : Object). p.path) (i_.dir_stays d k listed) ∙ sym (i_.its_path d k.object (listed_directory y x.parts.listings h.sound k listed).0 (i_.dir_other d k listed)))
          ∙ after_same d.from d.to c.o.path (new_path c) k.object.path d.its.from_is d.its.to_is);
      amended = of_both c (IsAskedAnew image command found) from_asked to_asked;
      same = rest_asked;
      all = still_dir;
    }

    entry : NamedEntrySteady v w command
    entry =
        subst (λ (q : Option Object). IfSome q (EntrySteady (dir_form y) (is_moved_by command) (object_at x.parts.listings d.from))) (sym is_there)
        (subst (λ (q : Option Object). EntrySteady (dir_form y) (is_moved_by command) q o) (sym was_there)
        (record { last = inl (ap (λ (p : Object). p.entry.last) (i_.copy_is d)); len = λ dir. same_length (dir_form y) c.o.entry.len o.entry.len (ap (λ (p : Object). p.entry.len) (i_.copy_is d)) }))

    -- ---- space

    none_grown : grown_id v w command ≡ []
    none_grown = map_or_none _ (new_id_growth v command) [] none_new

    needs : need_ids x.parts.m v w command ≡ own_id x.parts.m v command (Some o) ++ changed_ids x.parts.m v command
    needs =
        ap₂ (λ (q : Option Object) (ids : List ℕ). own_id x.parts.m v command q ++ changed_ids x.parts.m v command ++ ids) made_is none_grown
        ∙ append-nil (own_id x.parts.m v command (Some o) ++ changed_ids x.parts.m v command)

    news : new_id_list x.parts.m v w command ≡ own_id x.parts.m v command (Some o)
    news = ap₂ (λ (q : Option Object) (ids : List ℕ). own_id x.parts.m v command q ++ ids) made_is none_grown ∙ append-nil (own_id x.parts.m v command (Some o))

    space : TakesForObject x.parts command o → IsSafeSpaceAsked image command found
    space t = record {
      parts = t.parts;
      fitted = t.fitted;
      takes = t.takes;
      ids = t.ids ∙ sym needs;
      fresh = t.fresh;
      needs_met = subst (λ (ids : List ℕ). HaveRuns x.parts.m' ids t.parts) (sym needs) t.needs_met;
      least = subst (AreLeast x.parts.m) (sym news) t.least;
      object = subst (λ (q : Option Object). SafeObjectPlaced x.parts.m x.parts.m' (object_units x.parts.m v command) (slack_for v command) q) (sym made_is) t.object;
      grown = subst (λ (q : Option Growth). IfSome q (λ (growth : Growth). IsSomeAnd (object_at found growth.0.path) (λ (p : Object). (p.entry.len ≡ growth.1) × GrownAddress (is_some (new_id_growth v command)) growth.0 p)))
          (sym d.no_growth) tt;
      back = t.back;
    }

    safely_asked : TakesForObject x.parts command o → IsWholeMap x → IsSafelyAsked image command found
    safely_asked t whole = record {
      directories = asked;
      space = space t;
      named = subst (λ (b : Bool). NamedStays v w command b) (sym copies) tt;
      entry = entry;
      made = tt;
      empty = λ none. absurd (cc);
      zones = zones_same v w command x.parts.m x.parts.m' d.no_growth whole.zones;
    }

  pub outcome' : TakesForObject x.parts command o → IsWholeMap x → SafeOutcome x.parts.kind x.image x.image' v command (parts_with x.parts.m' x.parts.nodes' x.parts.owners')
  outcome' t whole =
      safe_outcome_law.moved image command c.o.path (new_path c) (i_.moves d) (record { copies = whole.copies; links = whole.links; asked = λ found sound order. safely_asked found sound order t whole })
      (λ found is_move. i_.tree_now d found is_move)

pub safe_copying_law : SafeCopyingLaw
safe_copying_law = record { agrees = λ x d. m_.agrees' x d; tree = λ d. tree' d; outcome = λ d t whole. outcome' d t whole }
