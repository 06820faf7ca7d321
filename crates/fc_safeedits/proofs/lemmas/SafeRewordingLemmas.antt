-- `set` and `mark` in the safe mode.
use Rattle.std.proofs.Common.{◌≡◌, inl, inr, ℕ, ◌+◌, ◌*◌, ◌/◌, ◌%◌, Bool, true, false, not, cond, ◌&&◌, ◌||◌, List, [], ◌∷◌, map, refl, sym, ap, ap₂, subst, ◌∙◌, arith, Option, Some}
use Rattle.std.specs.Prelude.{Contains, IfSome, IsPermutation, IsSomeAnd}
use Rattle.std.proofs.lemmas.List.{append-nil}
use Rattle.fc_names.specs.Names.{is_directory, is_same_path}
use Rattle.fc_model.specs.Command.{Command}
use Rattle.fc_model.specs.Answer.{changed}
use Rattle.fc_model.specs.Tree.{holder}
use Rattle.fc_dirs.specs.declared.Entry.{Entry}
use Rattle.fc_dirs.specs.Directory.{entries_of}
use Rattle.fc_image.specs.Layout.{Layout, dir_form}
use Rattle.fc_image.specs.Walk.{Listing, Object, is_directory_object, object_bytes}
use Rattle.fc_image.specs.Objects.{object_at, objects_of, tree_of}
use Rattle.fc_image.specs.Opening.{Opened}
use Rattle.fc_image.specs.Report.{holder_address}
use Rattle.fc_image.specs.Sound.{AreSound}
use Rattle.fc_image.specs.TreeEdits.{IsObjectEdit}
use Rattle.fc_image.specs.effects.Steady.{EntrySteady, HasSameAddress, IsRewritten, has_grown, has_new_holder, holds_named, is_renamed_by, named_entry, with_made}
use Rattle.fc_image.specs.safe.SafeEffect.{HasTree}
use Rattle.fc_image.specs.safe.SafeShort.{changed_ids, is_changed_directory}
use Rattle.fc_image.specs.safe.SafeSteady.{AreLeast, HaveRuns}
use Rattle.fc_image.proofs.CommandLemmas.{command_law}
use Rattle.fc_image.proofs.LookupLemmas.{lookup_law}
use Rattle.fc_image.proofs.PathsLemmas.{itself}
use Rattle.fc_tree.proofs.MemberLemmas.{contains_here, no_element}
use Rattle.fc_tree.proofs.WalkedLemmas.{child_path}
use Rattle.fc_changes.proofs.ReadsLemmas.{LiesIn, lies_in}
use Rattle.fc_laws.specs.agree.Agreed.{parts_with}
use Rattle.fc_edits.specs.Edit.{Amended, listings_after, now}
use Rattle.fc_edits.specs.Rewording.{Rewording, amended, edit}
use Rattle.fc_edits.proofs.lemmas.NewAgreeLemmas as na
use Rattle.fc_edits.proofs.lemmas.NumberLemmas as n_
use Rattle.fc_edits.proofs.lemmas.OwnedLemmas.{joins_found}
use Rattle.fc_edits.proofs.lemmas.RewordingLemmas as memory
use Rattle.fc_edits.proofs.lemmas.ShapeLemmas.{of_one}
use Rattle.fc_outcomes.specs.Rewording.{Words}
use Rattle.fc_outcomes.proofs.lemmas.SteadyLemmas.{holder_same, plain_asks, unnamed, written_asks}
use Rattle.fc_outcomes.proofs.lemmas.WordLemmas.{IsWordCommand, same_length, word_command}
use Rattle.fc_safeedits.specs.Relocation.{Relocation, amended_in, relocated, told_again, turned_in, unmoved}
use Rattle.fc_safeedits.specs.SafeChange.{IsWholeMap, SafeChange, TakesForChanged, view_before}
use Rattle.fc_safeedits.specs.SafeImage.{SafeImage}
use Rattle.fc_safeedits.specs.SafeOutcome.{AreSafelyAsked, IsAskedAnew, IsSafeSpaceAsked, IsSafelyAsked, SafeOutcome, is_now}
use Rattle.fc_safeedits.specs.SafeRewording.{SafeRewording, SafeRewordingLaw}
use Rattle.fc_safeedits.proofs.lemmas.AlongLemmas.{ne'}
use Rattle.fc_safeedits.proofs.lemmas.RewordedPartsLemmas as m_
use Rattle.fc_safeedits.proofs.lemmas.RewordedImageLemmas as r_
use Rattle.fc_safeedits.proofs.lemmas.RelocatedLemmas.{turned_entry, turned_path}
use Rattle.fc_safeedits.proofs.lemmas.RelocatedNodesLemmas.{joining_more}
use Rattle.fc_safeedits.proofs.lemmas.SafeChangeLemmas.{IsQuiet, zones_same}
use Rattle.fc_safeedits.proofs.lemmas.SafeImageLemmas.{safe_image_law}
use Rattle.fc_safeedits.proofs.lemmas.SafePartsLemmas.{parts}
use Rattle.fc_safeedits.proofs.lemmas.SafeOutcomeLemmas.{safe_outcome_law}
use Rattle.fc_outcomes.proofs.lemmas.RewordedLemmas.{last_same}
use Rattle.fc_safeedits.proofs.lemmas.SafeDeletionLemmas.{none_and}

module _ (d : SafeRewording) where
  abbrev x : SafeChange
  x = d.x

  abbrev c : Rewording
  c = d.parts.c

  abbrev y : Layout
  y = Layout.New x.parts.m

  abbrev y' : Layout
  y' = Layout.New x.parts.m'

  abbrev command : Command
  command = d.command

  abbrev move : Relocation
  move = r_.move d

  abbrev image : SafeImage
  image = r_.image d

  -- ---- the tree of the model

  now_path : (turned_in move c.o).path ≡ c.o.path
  now_path = turned_path move c.o ∙ d.parts.reworded.rewording.same_path c.o

  tree_now : (found : List Listing) → IsObjectEdit x.image x.image' y y' x.parts.listings found (c.o ∷ []) (turned_in move c.o ∷ [])
      → tree_of x.image' y' found ≡ changed (tree_of x.image y x.parts.listings) command
  tree_now found edited = by d.has_words.its.words
    where
      e_now : (turned_in move c.o).entry ≡ (c.turn c.o).entry
      e_now = turned_entry move c.o

      at_path : is_same_path d.path (turned_in move c.o).path ≡ true
      at_path = ap (is_same_path d.path) now_path ∙ d.has_words.its.path_is

      bytes : is_directory_object c.o ≡ false → object_bytes x.image' y' (turned_in move c.o) ≡ object_bytes x.image y c.o
      bytes file = safe_image_law.moving_bytes image c.o (contains_here c.o []) file

      by : Words command d.path c.o.path c.turn → tree_of x.image' y' found ≡ changed (tree_of x.image y x.parts.listings) command
      by (inl s) =
          let words : Object → Object = λ o. record o { entry = record o.entry { load = s.0; exec = s.1; attrs = o.entry.attrs / 8 * 8 + s.2 } } in
          let now : (turned_in move c.o).entry ≡ (words c.o).entry =
          e_now ∙ ap (λ (f : Object → Object). (f c.o).entry) s.4 ∙ ap (λ (b : Bool). (cond b (words c.o) c.o).entry) (itself c.o.path) in
          subst (λ (k : Command). tree_of x.image' y' found ≡ changed (tree_of x.image y x.parts.listings) k) (sym s.3)
          (command_law.set x.image x.image' y y' x.parts.listings found d.path s.0 s.1 s.2 c.o (turned_in move c.o) edited
          (record {
            was_at = d.has_words.its.path_is;
            at_path = at_path;
            name = ap (λ (e : Entry). e.name) e_now ∙ d.parts.reworded.rewording.name c.o;
            attrs_now = ap (λ (e : Entry). e.attrs) now;
            load_now = ap (λ (e : Entry). e.load) now;
            exec_now = ap (λ (e : Entry). e.exec) now;
            kind = ap (λ (e : Entry). is_directory e.attrs) e_now ∙ d.parts.reworded.rewording.kind c.o;
            bytes = bytes;
          }))
      by (inr s) =
          let marks : Object → Object = λ o. record o { entry = record o.entry { attrs = s.0 / 16 * 16 + 8 * (o.entry.attrs / 8 % 2) + s.0 % 8 } } in
          let now : (turned_in move c.o).entry ≡ (marks c.o).entry =
          e_now ∙ ap (λ (f : Object → Object). (f c.o).entry) s.2 ∙ ap (λ (b : Bool). (cond b (marks c.o) c.o).entry) (itself c.o.path) in
          subst (λ (k : Command). tree_of x.image' y' found ≡ changed (tree_of x.image y x.parts.listings) k) (sym s.1)
          (command_law.mark x.image x.image' y y' x.parts.listings found d.path s.0 c.o (turned_in move c.o) edited
          (record {
            was_at = d.has_words.its.path_is;
            at_path = at_path;
            name = ap (λ (e : Entry). e.name) e_now ∙ d.parts.reworded.rewording.name c.o;
            attrs_now = ap (λ (e : Entry). e.attrs) now;
            load_now = ap (λ (e : Entry). e.load) now;
            exec_now = ap (λ (e : Entry). e.exec) now;
            kind = ap (λ (e : Entry). is_directory e.attrs) e_now ∙ d.parts.reworded.rewording.kind c.o;
            bytes = bytes;
          }))

  pub tree' : HasTree x.parts.kind (changed (tree_of x.image y x.parts.listings) command) x.image'
  tree' = safe_outcome_law.kept_tree image (c.o ∷ []) (changed (tree_of x.image y x.parts.listings) command) (r_.keeps d) tree_now

  -- ---- what the command asks

  word : IsWordCommand command d.path
  word = word_command command d.path c.o.path c.turn d.has_words.its.words

  lies : LiesIn d.path c.l.object.path c.o.entry.name
  lies =
      lies_in d.path c.l.object.path c.o.entry.name
      (ap (is_same_path d.path) (sym (child_path y x.parts.listings (m_.h x.parts d.parts).sound c.l c.o (m_.l_in x.parts d.parts) (memory.kid_in x.parts.nodes y x.parts.listings c (m_.h x.parts d.parts) d.parts.reworded))) ∙ d.has_words.its.path_is)

  other : (k : Listing) → Contains c.rest k → is_same_path (holder d.path) k.object.path ≡ false
  other k at = unnamed (unmoved move) d.path c.l k c.dir (m_.l_in x.parts d.parts) d.parts.reworded.dir_is (contains_here c.dir []) lies.holds at

  was_there : object_at x.parts.listings d.path ≡ Some c.o
  was_there = lookup_law.object y x.parts.listings d.path c.o (m_.h x.parts d.parts).sound (m_.o_in x.parts d.parts) d.has_words.its.path_is

  -- no other directory is a changed one
  still_dir : (k : Listing) → Contains c.rest k → is_changed_directory (view_before x.parts) command k.object ≡ false
  still_dir k at = by command d.has_words.its.words
    where
      by : (j : Command) → Words j d.path c.o.path c.turn → is_changed_directory (view_before x.parts) j k.object ≡ false
      by j (inl s) =
          subst (λ (i : Command). is_changed_directory (view_before x.parts) i k.object ≡ false) (sym s.3)
          (ap (λ (t : Bool). is_directory_object k.object && (t || false || false || false) && not false) (other k at) ∙ none_and (is_directory_object k.object) (not false))
      by j (inr s) =
          subst (λ (i : Command). is_changed_directory (view_before x.parts) i k.object ≡ false) (sym s.1)
          (ap (λ (t : Bool). is_directory_object k.object && (t || false || false || false) && not false) (other k at) ∙ none_and (is_directory_object k.object) (not false))

  module _ (found : List Listing) (sound : AreSound y' found) (order : IsPermutation (listings_after (relocated move)) found) where
    abbrev v : Opened
    v = view_before x.parts

    abbrev w : Opened
    w = is_now image found

    abbrev b : Amended
    b = amended_in move (amended c)

    there_now : Contains (objects_of found) (turned_in move c.o)
    there_now =
        joins_found (na.held_edit (parts image.parts)) found sound order (c.number, turned_in move c.o)
        (joining_more move (c.number, c.turn c.o) (contains_here (c.number, c.turn c.o) []))

    is_there : object_at found d.path ≡ Some (turned_in move c.o)
    is_there = lookup_law.object y' found d.path (turned_in move c.o) sound there_now (ap (is_same_path d.path) now_path ∙ d.has_words.its.path_is)

    asked : AreSafelyAsked image command found
    asked =
        let stays : holder_address found (turned_in move c.l.object).path ≡ holder_address x.parts.listings c.l.object.path =
        ap (holder_address found) (turned_path move c.l.object ∙ d.parts.reworded.rewording.same_path c.l.object)
        ∙ holder_same (ne' move) y' found sound order
        (λ o at. (turned_path move o ∙ d.parts.reworded.rewording.same_path o, ap (λ (e : Entry). e.address) (turned_entry move o) ∙ m_.address_same x.parts d.parts o)) c.l (n_.was_in (ne' move) b (contains_here b (map (amended_in move) (map (told_again move) c.rest)))) in
        let says : IsRewritten command c.l.object.path (holder_address found (turned_in move c.l.object).path) c.l.content c.content =
        subst (λ (n : ℕ). IsRewritten command c.l.object.path n c.l.content c.content) (sym stays) d.has_words.says in
        let named : holds_named command c.l.object.path ≡ true = word.holds c.l.object.path ∙ lies.holds in
        let full = written_asks x.image x.image' v w command c.l (now (relocated move) b) word.plain (word.none v) named
        (d.has_words.entries
        ∙ sym (word.edited_is c.l.object.path (named_entry w command) (entries_of c.l.content)
        ∙ ap₂ (λ (t : Bool) (q : Option Entry). cond t (with_made q (entries_of c.l.content)) (entries_of c.l.content)) lies.holds
        (word.entry w (turned_in move c.o) is_there ∙ ap (λ (e : Entry). Some e) (turned_entry move c.o)))) says (r_.dir_written d) in
        record {
          out = λ k at. absurd (no_element k at);
          paths = λ k at. ap₂ is_same_path (word.plain.path k.object.path) (d.parts.reworded.rewording.same_path k.object) ∙ itself k.object.path;
          amended = of_one (IsAskedAnew image command found) (amended c)
              (record {
                entries = full.entries;
                may = ap (λ (t : Bool). t || is_renamed_by command c.l.object.path || has_grown v command c.l.object.path || has_new_holder v command c.l.object.path) named;
                says = says;
                bytes = r_.dir_written d;
              });
          same = λ k at. plain_asks v w command (edit c) k word.plain (word.none v) (word.holds k.object.path ∙ other k at);
          all = still_dir;
        }

    same_address : HasSameAddress (object_at x.parts.listings d.path) (object_at found d.path)
    same_address =
        subst (λ (q : Option Object). HasSameAddress q (object_at found d.path)) (sym was_there)
        (subst (λ (q : Option Object). IsSomeAnd q (λ (o : Object). o.entry.address ≡ c.o.entry.address)) (sym is_there) (ap (λ (e : Entry). e.address) (turned_entry move c.o) ∙ m_.address_same x.parts d.parts c.o))

    steady_entry : IfSome (object_at found d.path) (EntrySteady (dir_form y) false (object_at x.parts.listings d.path))
    steady_entry =
        let last : (turned_in move c.o).entry.last ≡ c.o.entry.last = ap (λ (e : Entry). e.last) (turned_entry move c.o) ∙ last_same command d.path c.o.path c.turn c.o d.has_words.its.words in
        let len : (turned_in move c.o).entry.len ≡ c.o.entry.len = ap (λ (e : Entry). e.len) (turned_entry move c.o) ∙ d.parts.reworded.rewording.len c.o in
        subst (λ (q : Option Object). IfSome q (EntrySteady (dir_form y) false (object_at x.parts.listings d.path))) (sym is_there)
        (subst (λ (q : Option Object). EntrySteady (dir_form y) false q (turned_in move c.o)) (sym was_there)
        (record { last = inl last; len = λ dir. same_length (dir_form y) c.o.entry.len (turned_in move c.o).entry.len len }))

  space_of : (k : Command) (found : List Listing) → IsQuiet x.parts.m (view_before x.parts) k → TakesForChanged x.parts k → IsSafeSpaceAsked image k found
  space_of k found quiet t =
      let w : Opened = is_now image found in
      record {
        parts = t.parts;
        fitted = t.fitted;
        takes = t.takes;
        ids = t.ids ∙ sym (quiet.needs w);
        fresh = λ j taken unused. absurd (let used = t.used j taken in cc);
        needs_met = subst (λ (ns : List ℕ). HaveRuns x.parts.m' ns t.parts) (sym (quiet.needs w)) t.needs_met;
        least = subst (AreLeast x.parts.m) (sym (quiet.news w)) refl;
        object = quiet.object x.parts.m' w;
        grown = quiet.grown w;
        back = t.back;
      }

  asked_of : TakesForChanged x.parts command → IsWholeMap x → (found : List Listing) → AreSound y' found → IsPermutation (listings_after (relocated move)) found → IsSafelyAsked image command found
  asked_of t whole found sound order =
      by command (asked found sound order) (same_address found sound order) (steady_entry found sound order) t d.has_words.its.words
    where
      by : (k : Command) → AreSafelyAsked image k found → HasSameAddress (object_at x.parts.listings d.path) (object_at found d.path)
          → IfSome (object_at found d.path) (EntrySteady (dir_form y) false (object_at x.parts.listings d.path)) → TakesForChanged x.parts k → Words k d.path c.o.path c.turn → IsSafelyAsked image k found
      by k dirs address entry takes (inl s) =
          subst (λ (q : Command). AreSafelyAsked image q found → TakesForChanged x.parts q → IsSafelyAsked image q found) (sym s.3)
          (λ set own. record {
            directories = set;
            space = space_of (Command.Set d.path s.0 s.1 s.2) found
                (record { needs = λ w. append-nil (changed_ids x.parts.m (view_before x.parts) (Command.Set d.path s.0 s.1 s.2)); news = λ w. refl; object = λ m' w some. absurd (omega (arith, some)); grown = λ w. tt }) own;
            named = address;
            entry = entry;
            made = tt;
            empty = λ none. absurd (cc);
            zones = zones_same (view_before x.parts) (is_now image found) (Command.Set d.path s.0 s.1 s.2) x.parts.m x.parts.m' refl whole.zones;
          }) dirs takes
      by k dirs address entry takes (inr s) =
          subst (λ (q : Command). AreSafelyAsked image q found → TakesForChanged x.parts q → IsSafelyAsked image q found) (sym s.1)
          (λ mark own. record {
            directories = mark;
            space = space_of (Command.Mark d.path s.0) found
                (record { needs = λ w. append-nil (changed_ids x.parts.m (view_before x.parts) (Command.Mark d.path s.0)); news = λ w. refl; object = λ m' w some. absurd (omega (arith, some)); grown = λ w. tt }) own;
            named = address;
            entry = entry;
            made = tt;
            empty = λ none. absurd (cc);
            zones = zones_same (view_before x.parts) (is_now image found) (Command.Mark d.path s.0) x.parts.m x.parts.m' refl whole.zones;
          }) dirs takes

  pub outcome' : TakesForChanged x.parts command → IsWholeMap x → SafeOutcome x.parts.kind x.image x.image' (view_before x.parts) command (parts_with x.parts.m' x.parts.nodes' x.parts.owners')
  outcome' t whole = safe_outcome_law.kept image command (c.o ∷ []) (r_.keeps d) (record { copies = whole.copies; links = whole.links; asked = asked_of t whole }) tree_now

pub safe_rewording_law : SafeRewordingLaw
safe_rewording_law = record { agrees = λ x d. m_.agrees' x d; tree = λ d. tree' d; outcome = λ d t whole. outcome' d t whole }
