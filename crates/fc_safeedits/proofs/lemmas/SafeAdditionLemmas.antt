-- `save`, `create` and `cdir` in the safe mode, without growth.
use Rattle.std.proofs.Common.{◌≡◌, ⊎_elim, ℕ, Bool, true, false, not, cond, ◌&&◌, ◌||◌, List, [], ◌++◌, length, map, refl, sym, ap, ap₂, subst, ◌∙◌, Option, Some, None}
use Rattle.std.specs.Prelude.{Contains, IfSome, IsPermutation, IsSomeAnd, is_some}
use Rattle.std.proofs.lemmas.List.{append-nil}
use Rattle.std.proofs.lemmas.List.Elements.{Contains-append_left}
use Rattle.fc_names.specs.Names.{Path, is_same_path}
use Rattle.fc_names.specs.declared.name.NameForm.{NameForm}
use Rattle.fc_model.specs.Command.{Command}
use Rattle.fc_model.specs.Answer.{changed}
use Rattle.fc_model.specs.Tree.{holder, last_name}
use Rattle.fc_dirs.specs.declared.Entry.{Entry}
use Rattle.fc_dirs.specs.Directory.{entries_of}
use Rattle.fc_image.specs.Layout.{Layout, dir_form}
use Rattle.fc_image.specs.Walk.{Listing, Object, is_directory_object, object_bytes}
use Rattle.fc_image.specs.Objects.{listing_at, object_at, objects_of, tree_of}
use Rattle.fc_image.specs.Opening.{Opened}
use Rattle.fc_image.specs.Report.{holder_address}
use Rattle.fc_image.specs.Sound.{AreSound}
use Rattle.fc_image.specs.effects.Placed.{HasAddress, made_object}
use Rattle.fc_image.specs.effects.Short.{Growth, growth_in, moved_growth, new_dir_size, object_units, slack_for}
use Rattle.fc_image.specs.effects.Steady.{AreWritten, EntrySteady, IsMadeDirectory, IsRewritten, NamedEntrySteady, NewDirectory, has_grown, has_new_holder, holds_named, is_gone, is_moved_by, is_renamed_by, named_entry, new_directory, source_object, with_made}
use Rattle.fc_image.specs.safe.SafeEffect.{HasTree}
use Rattle.fc_image.specs.safe.SafeShort.{changed_ids, is_changed_directory, new_id_growth}
use Rattle.fc_image.specs.safe.SafeSteady.{AreLeast, GrownAddress, HaveRuns, SafeObjectPlaced, grown_id, need_ids, new_id_list, own_id}
use Rattle.fc_image.proofs.LookupLemmas.{lookup_law}
use Rattle.fc_image.proofs.PathsLemmas.{itself}
use Rattle.fc_tree.proofs.MemberLemmas.{contains_here, in_map, no_element}
use Rattle.fc_changes.proofs.BasicLemmas.{and_then_none, map_or_none}
use Rattle.fc_changes.proofs.BeforeLemmas.{address_by}
use Rattle.fc_changes.proofs.DirectoriesLemmas.{moved_none, no_new_holder}
use Rattle.fc_changes.proofs.ReadsLemmas.{LiesIn, lies_in}
use Rattle.fc_laws.specs.agree.Agreed.{parts_with}
use Rattle.fc_laws.proofs.lemmas.nodes.ListLemmas.{in_other}
use Rattle.fc_edits.specs.Addition.{Addition, amended, edit, over_it}
use Rattle.fc_edits.specs.Edit.{Amended, listings_after, now, still}
use Rattle.fc_edits.proofs.lemmas.AdditionLemmas as memory
use Rattle.fc_edits.proofs.lemmas.NewAgreeLemmas as na
use Rattle.fc_edits.proofs.lemmas.NumberLemmas as n_
use Rattle.fc_edits.proofs.lemmas.OwnedLemmas.{joins_found}
use Rattle.fc_edits.proofs.lemmas.ShapeLemmas.{of_one}
use Rattle.fc_outcomes.specs.Addition.{IsItsDirectory}
use Rattle.fc_outcomes.proofs.lemmas.JoinedLemmas.{Makes, makes_directory, makes_file}
use Rattle.fc_outcomes.proofs.lemmas.SteadyLemmas.{holder_same, now_in, plain_asks, unnamed, written_asks}
use Rattle.fc_safeedits.specs.Relocation.{Relocation, amended_in, laid_at, relocated, told_again, turned_in, unmoved}
use Rattle.fc_safeedits.specs.SafeChange.{IsWholeMap, SafeChange, moves_in, view_before}
use Rattle.fc_safeedits.specs.SafeImage.{SafeImage}
use Rattle.fc_safeedits.specs.SafeOutcome.{AreSafelyAsked, IsAskedAnew, IsSafeSpaceAsked, IsSafelyAsked, SafeOutcome, is_now}
use Rattle.fc_safeedits.proofs.lemmas.AlongLemmas.{ne'}
use Rattle.fc_safeedits.proofs.lemmas.LaidLemmas.{laid_still}
use Rattle.fc_safeedits.proofs.lemmas.RelocatedLemmas.{turned_entry, turned_path}
use Rattle.fc_safeedits.proofs.lemmas.RelocatedNodesLemmas.{joining_more}
use Rattle.fc_safeedits.proofs.lemmas.SafeChangeLemmas.{zones_same}
use Rattle.fc_safeedits.proofs.lemmas.SafeDeletionLemmas.{none_and}
use Rattle.fc_safeedits.proofs.lemmas.SafeOutcomeLemmas.{safe_outcome_law}
use Rattle.fc_safeedits.proofs.lemmas.SafePartsLemmas.{parts}
use Rattle.fc_safeedits.specs.SafeAddition.{SafeAddition, SafeAdditionLaw, TakesForObject}
use Rattle.fc_safeedits.proofs.lemmas.AddedEntryLemmas.{entries_now, entry_steady}
use Rattle.fc_safeedits.proofs.lemmas.AddedImageLemmas as i_
use Rattle.fc_safeedits.proofs.lemmas.AddedPartsLemmas as m_
use Rattle.fc_safeedits.proofs.lemmas.GrowingAskedLemmas.{none_of}

module _ (d : SafeAddition) where
  abbrev x : SafeChange
  x = d.x

  abbrev c : Addition
  c = d.parts.c

  abbrev y : Layout
  y = Layout.New x.parts.m

  abbrev y' : Layout
  y' = Layout.New x.parts.m'

  abbrev command : Command
  command = d.command

  abbrev v : Opened
  v = view_before x.parts

  abbrev move : Relocation
  move = i_.move d

  abbrev image : SafeImage
  image = i_.image d

  pub tree' : HasTree x.parts.kind (changed (tree_of x.image y x.parts.listings) command) x.image'
  tree' = safe_outcome_law.kept_tree image [] (changed (tree_of x.image y x.parts.listings) command) (i_.keeps d) (λ found edited. i_.tree_now d found edited)

  -- ---- what the command makes

  nothing_went : (k : Listing) → IsItsDirectory d.path y c k → over_it c ≡ None
  nothing_went k is = ap (λ (os : List Object). over_it (record c { over = os })) is.new

  names : (n : ℕ) × Makes v command d.path n (over_it c)
  names =
      ⊎_elim (λ f. (length d.stored, makes_file v command d.path f.0 f.1 d.stored (over_it c) d.joins.stood f.2.makes))
      (λ k. (
        new_dir_size (dir_form y),
        subst (λ (q : Command). Makes v q d.path (new_dir_size (dir_form y)) (over_it c)) (sym k.2)
            (subst (Makes v (Command.Cdir d.path) d.path (new_dir_size (dir_form y))) (sym (nothing_went k.0 k.1)) (makes_directory v d.path (new_dir_size (dir_form y)) refl)),
      )) d.is_its

  -- ---- directories

  l_in : Contains x.parts.listings c.l
  l_in = memory.l_in x.parts.nodes y x.parts.listings c (i_.h d) d.parts.addition

  lies : LiesIn d.path c.l.object.path c.o.entry.name
  lies = lies_in d.path c.l.object.path c.o.entry.name (ap (is_same_path d.path) (sym d.parts.addition.path) ∙ d.joins.path_is)

  other : (k : Listing) → Contains c.rest k → is_same_path (holder d.path) k.object.path ≡ false
  other k at = unnamed (unmoved move) d.path c.l k c.dir l_in d.parts.addition.dir_is (contains_here c.dir []) lies.holds at

  named : holds_named command c.l.object.path ≡ true
  named = names.1.holds c.l.object.path ∙ lies.holds

  -- no other directory is a changed one
  still_dir : (k : Listing) → Contains c.rest k → is_changed_directory v command k.object ≡ false
  still_dir k at =
      ap (λ (t : Bool). is_directory_object k.object && t && not (is_gone command k.object.path))
      (none_of (holds_named command k.object.path) (is_renamed_by command k.object.path) (has_grown v command k.object.path) (has_new_holder v command k.object.path) (names.1.holds k.object.path ∙ other k at)
      (names.1.plain.renamed k.object.path) (map_or_none _ (growth_in v command) false d.no_growth) (no_new_holder v v command d.no_growth k.object.path))
      ∙ none_and (is_directory_object k.object) (not (is_gone command k.object.path))

  none_new : new_id_growth v command ≡ None
  none_new = and_then_none _ (moved_growth v command) (moved_none v v command d.no_growth)

  -- ---- in each order in which the listings may be found

  module _ (found : List Listing) (sound : AreSound y' found) (order : IsPermutation (listings_after (relocated move)) found) where
    abbrev w : Opened
    w = is_now image found

    abbrev b : Amended
    b = amended_in move (amended c)

    b_in : Contains (relocated move).amended b
    b_in = contains_here b (map (amended_in move) (map (told_again move) c.rest))

    there_now : Contains (objects_of found) c.o
    there_now =
        subst (λ (o : Object). Contains (objects_of found) o) (laid_still x.parts.m' (moves_in x.parts) c.o d.parts.elsewhere)
        (joins_found (na.held_edit (parts image.parts)) found sound order (laid_at move (c.number, c.o)) (joining_more move (c.number, c.o) (contains_here (c.number, c.o) [])))

    is_there : object_at found d.path ≡ Some c.o
    is_there = lookup_law.object y' found d.path c.o sound there_now d.joins.path_is

    made_is : made_object w command ≡ Some c.o
    made_is = names.1.makes w ∙ is_there

    asked : AreSafelyAsked image command found
    asked =
        let stays : holder_address found (turned_in move c.l.object).path ≡ holder_address x.parts.listings c.l.object.path =
        ap (holder_address found) (turned_path move c.l.object)
        ∙ holder_same (ne' move) y' found sound order (λ o at. (turned_path move o, ap (λ (e : Entry). e.address) (turned_entry move o))) c.l (n_.was_in (ne' move) b b_in) in
        let says : IsRewritten command c.l.object.path (holder_address found (turned_in move c.l.object).path) c.l.content c.content =
        subst (λ (n : ℕ). IsRewritten command c.l.object.path n c.l.content c.content) (sym stays) d.joins.says in
        let entries = entries_now x.parts.nodes y x.parts.listings c (i_.h d) d.parts.addition d.path d.joins.path_is d.joins.stood d.joins.entry in
        let full = written_asks x.image x.image' v w command c.l (now (relocated move) b) names.1.plain d.no_growth named
        (entries
        ∙ sym (names.1.edits c.l.object.path (named_entry w command) (entries_of c.l.content)
        ∙ ap₂ (λ (t : Bool) (q : Option Entry). cond t (with_made q (entries_of c.l.content)) (entries_of c.l.content)) lies.holds (names.1.entry w c.o is_there))) says (i_.dir_written d) in
        record {
          out = λ k at. absurd (no_element k at);
          paths = λ k at. ap (λ (p : Path). is_same_path p k.object.path) (names.1.plain.path k.object.path) ∙ itself k.object.path;
          amended = of_one (IsAskedAnew image command found) (amended c)
              (record {
                entries = full.entries;
                may = ap (λ (t : Bool). t || is_renamed_by command c.l.object.path || has_grown v command c.l.object.path || has_new_holder v command c.l.object.path) named;
                says = says;
                bytes = i_.dir_written d;
              });
          same = λ k at. plain_asks v w command (edit c) k names.1.plain d.no_growth (names.1.holds k.object.path ∙ other k at);
          all = still_dir;
        }

    entry : NamedEntrySteady v w command
    entry =
        subst (λ (q : Option Object). IfSome q (EntrySteady (dir_form y) (is_moved_by command) (source_object v command))) (sym (names.1.names w ∙ is_there))
        (subst (λ (q : Option Object). EntrySteady (dir_form y) (is_moved_by command) q c.o) (sym names.1.source)
        (entry_steady x.parts.nodes y x.parts.listings c (i_.h d) d.parts.addition d.path d.joins.path_is d.joins.stood d.joins.entry (is_moved_by command)))

    -- a directory that comes
    made_directory : (k : Listing) → IsItsDirectory d.path y c k → IsSomeAnd (listing_at found d.path) (IsMadeDirectory x.image' w d.path)
    made_directory k is =
        let there : Contains c.into k = subst (λ (ks : List Listing). Contains ks k) (sym is.listed) (contains_here k []) in
        let empty = memory.own_listed y c.into c.o d.parts.addition.alone k there in
        let e = relocated move in
        let among : Contains (listings_after e) k =
        Contains-append_left (map (λ (q : ℕ × Listing). q.1) (map (λ (q : Listing). (c.number, q)) c.into)) (map (now e) e.amended ++ map (still e) e.same) k
        (in_map (λ (q : ℕ × Listing). q.1) (map (λ (q : Listing). (c.number, q)) c.into) (c.number, k) (in_map (λ (q : Listing). (c.number, q)) c.into k there)) in
        let holds : is_same_path (holder d.path) (turned_in move c.l.object).path ≡ true = ap (is_same_path (holder d.path)) (turned_path move c.l.object) ∙ lies.holds in
        let address : holder_address found d.path ≡ c.l.object.entry.address =
        address_by y' found d.path (now e b) sound (now_in e found order b b_in) holds ∙ ap (λ (q : Entry). q.address) (turned_entry move c.l.object) in
        subst (λ (q : Option Listing). IsSomeAnd q (IsMadeDirectory x.image' w d.path))
        (sym (lookup_law.listing y' found d.path k sound (in_other (listings_after e) found order k among) (ap (λ (p : Object). is_same_path d.path p.path) empty.object ∙ d.joins.path_is)))
        (record {
          says = is.says ∙ ap₂ (λ (f : NameForm) (a : ℕ). new_directory f a (last_name d.path)) (sym (i_.form d)) (sym address);
          len = ap (λ (p : Object). p.entry.len) empty.object ∙ is.len ∙ ap new_dir_size (sym (i_.form d));
          bytes = subst (λ (bs : List ℕ). AreWritten bs k.content) (sym (ap (λ (p : Object). object_bytes x.image' y' p) empty.object ∙ d.stored_there)) (d.joins.own k there);
        })

    made : NewDirectory x.image' w command
    made =
        ⊎_elim
        (λ f. ⊎_elim (λ is. subst (λ (q : Command). NewDirectory x.image' w q) (sym is) tt) (λ is. subst (λ (q : Command). NewDirectory x.image' w q) (sym is.0) tt) f.2.makes)
        (λ k. subst (λ (q : Command). NewDirectory x.image' w q) (sym k.2) (made_directory k.0 k.1)) d.is_its

    -- ---- space

    none_grown : grown_id v w command ≡ []
    none_grown = map_or_none _ (new_id_growth v command) [] none_new

    needs : need_ids x.parts.m v w command ≡ own_id x.parts.m v command (Some c.o) ++ changed_ids x.parts.m v command
    needs =
        ap₂ (λ (q : Option Object) (ids : List ℕ). own_id x.parts.m v command q ++ changed_ids x.parts.m v command ++ ids) made_is none_grown
        ∙ append-nil (own_id x.parts.m v command (Some c.o) ++ changed_ids x.parts.m v command)

    news : new_id_list x.parts.m v w command ≡ own_id x.parts.m v command (Some c.o)
    news =
        ap₂ (λ (q : Option Object) (ids : List ℕ). own_id x.parts.m v command q ++ ids) made_is none_grown
        ∙ append-nil (own_id x.parts.m v command (Some c.o))

    space : TakesForObject x.parts command c.o → IsSafeSpaceAsked image command found
    space t = record {
      parts = t.parts;
      fitted = t.fitted;
      takes = t.takes;
      ids = t.ids ∙ sym needs;
      fresh = t.fresh;
      needs_met = subst (λ (ids : List ℕ). HaveRuns x.parts.m' ids t.parts) (sym needs) t.needs_met;
      least = subst (AreLeast x.parts.m) (sym news) t.least;
      object = subst (λ (q : Option Object). SafeObjectPlaced x.parts.m x.parts.m' (object_units x.parts.m v command) (slack_for v command) q) (sym made_is) t.object;
      grown = subst (λ (g : Option Growth). IfSome g (λ (growth : Growth). IsSomeAnd (object_at found growth.0.path) (λ (o : Object). (o.entry.len ≡ growth.1) × GrownAddress (is_some (new_id_growth v command)) growth.0 o)))
          (sym d.no_growth) tt;
      back = t.back;
    }

    safely_asked : TakesForObject x.parts command c.o → IsWholeMap x → IsSafelyAsked image command found
    safely_asked t whole = record {
      directories = asked;
      space = space t;
      named = names.1.stays w _;
      entry = entry;
      made = made;
      empty = λ none. subst (λ (q : Option Object). HasAddress q 0) (sym made_is) (t.empty none);
      zones = zones_same v w command x.parts.m x.parts.m' d.no_growth whole.zones;
    }

  pub outcome' : TakesForObject x.parts command c.o → IsWholeMap x → SafeOutcome x.parts.kind x.image x.image' v command (parts_with x.parts.m' x.parts.nodes' x.parts.owners')
  outcome' t whole =
      safe_outcome_law.kept image command [] (i_.keeps d) (record { copies = whole.copies; links = whole.links; asked = λ found sound order. safely_asked found sound order t whole })
      (λ found edited. i_.tree_now d found edited)

pub safe_addition_law : SafeAdditionLaw
safe_addition_law = record { agrees = λ x d. m_.agrees' x d; tree = λ d. tree' d; outcome = λ d t whole. outcome' d t whole }
