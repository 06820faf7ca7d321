-- `rename` that copies its file into a directory that grows by it, in the safe mode.
use Rattle.std.proofs.Common.{◌≡◌, inl, inr, ℕ, Bool, true, false, ◌||◌, List, [], ◌++◌, sym, ap, ap₂, subst, ◌∙◌, Option, Some}
use Rattle.std.specs.Prelude.{Contains, IfSome, IsPermutation}
use Rattle.std.specs.Option.{option_map_or}
use Rattle.fc_names.specs.Names.{Path, is_same_path}
use Rattle.fc_model.specs.Answer.{changed}
use Rattle.fc_model.specs.Command.{Command}
use Rattle.fc_model.specs.Tree.{holder}
use Rattle.fc_dirs.specs.declared.Entry.{Entry}
use Rattle.fc_dirs.specs.Directory.{entries_of}
use Rattle.fc_image.specs.Layout.{Layout, dir_form}
use Rattle.fc_image.specs.Walk.{Listing, Object}
use Rattle.fc_image.specs.Objects.{object_at, objects_of, tree_of}
use Rattle.fc_image.specs.Opening.{Opened}
use Rattle.fc_image.specs.Report.{holder_address}
use Rattle.fc_image.specs.Sound.{AreSound}
use Rattle.fc_image.specs.effects.Effect.{copies_file}
use Rattle.fc_image.specs.effects.Placed.{made_object}
use Rattle.fc_image.specs.effects.Short.{is_copied, object_units, slack_for}
use Rattle.fc_image.specs.effects.Steady.{EntrySteady, IsRewritten, NamedEntrySteady, NamedStays, edited, gets_parent, is_moved_by, named_entry, path_after, with_made}
use Rattle.fc_image.specs.safe.SafeEffect.{HasTree}
use Rattle.fc_image.specs.safe.SafeShort.{changed_ids}
use Rattle.fc_image.specs.safe.SafeSteady.{AreLeast, HaveRuns, SafeObjectPlaced, grown_id, need_ids, new_id_list, own_id}
use Rattle.fc_image.proofs.LookupLemmas.{lookup_law}
use Rattle.fc_image.proofs.PathsLemmas.{itself}
use Rattle.fc_tree.proofs.MemberLemmas.{contains_here, no_element}
use Rattle.fc_tree.proofs.WalkedLemmas.{listed_directory}
use Rattle.fc_changes.proofs.BasicLemmas.{clash}
use Rattle.fc_laws.specs.agree.Agreed.{parts_with}
use Rattle.fc_laws.specs.nodes.Laws.{IsHeld}
use Rattle.fc_laws.proofs.lemmas.nodes.ListLemmas.{in_other}
use Rattle.fc_edits.specs.Copying.{Copies, Copying, copied, new_path}
use Rattle.fc_edits.specs.Edit.{Amended, Edit, listings_after}
use Rattle.fc_edits.specs.Growing.{EditGrowing, Growing, Told, at_place}
use Rattle.fc_edits.specs.NodesEdit.{NodesEdit}
use Rattle.fc_edits.proofs.lemmas.AroundLemmas as ar
use Rattle.fc_edits.proofs.lemmas.CopiesLemmas as memory
use Rattle.fc_edits.proofs.lemmas.GrowingLemmas as growing
use Rattle.fc_edits.proofs.lemmas.GrownHolderLemmas.{not_by_same}
use Rattle.fc_edits.proofs.lemmas.GrownMemberLemmas as members
use Rattle.fc_edits.proofs.lemmas.NewAgreeLemmas as na
use Rattle.fc_edits.proofs.lemmas.NumberLemmas as n_
use Rattle.fc_edits.proofs.lemmas.OwnedLemmas.{joins_found}
use Rattle.fc_edits.proofs.lemmas.ShapeLemmas.{only}
use Rattle.fc_outcomes.specs.Growth.{holder_now}
use Rattle.fc_outcomes.specs.Steady.{AsksNothing}
use Rattle.fc_outcomes.proofs.lemmas.GrownEntriesLemmas.{First}
use Rattle.fc_outcomes.proofs.lemmas.RenamePathLemmas.{after_same, edited_by, kept_name, named_rename, other_of, turned_other}
use Rattle.fc_outcomes.proofs.lemmas.WordLemmas.{same_length}
use Rattle.fc_safeedits.specs.Relocation.{Relocation, laid_at, laid_in, relocated, turned_in, unmoved}
use Rattle.fc_safeedits.specs.SafeChange.{SafeChange, moves_in, view_before}
use Rattle.fc_safeedits.specs.SafeImage.{SafeImage}
use Rattle.fc_safeedits.specs.SafeOutcome.{AreSafelyAsked, IsSafeSpaceAsked, IsSafelyAsked, SafeOutcome, is_now}
use Rattle.fc_safeedits.proofs.lemmas.AlongLemmas.{ne'}
use Rattle.fc_safeedits.proofs.lemmas.LaidLemmas.{laid_entry, laid_path, laid_still}
use Rattle.fc_safeedits.proofs.lemmas.RelocatedNodesLemmas.{joining_more}
use Rattle.fc_safeedits.proofs.lemmas.SafeOutcomeLemmas.{safe_outcome_law}
use Rattle.fc_safeedits.proofs.lemmas.SafePartsLemmas.{parts}
use Rattle.fc_safeedits.specs.SafeGrowth.{IsWholeGrown, its_new_id}
use Rattle.fc_safeedits.specs.SafeGrownAddition.{TakesForGrown}
use Rattle.fc_safeedits.proofs.lemmas.GrowingPlacesLemmas as p_
use Rattle.fc_safeedits.proofs.lemmas.GrownHoldersLemmas as hs_
use Rattle.fc_safeedits.proofs.lemmas.GrownRenamedEntriesLemmas.{grown_entries}
use Rattle.fc_safeedits.proofs.lemmas.GrownSpaceLemmas as s_
use Rattle.fc_safeedits.specs.SafeGrownCopying.{SafeGrownCopying, SafeGrownCopyingLaw}
use Rattle.fc_safeedits.proofs.lemmas.GrownCopiedImageLemmas as i_
use Rattle.fc_safeedits.proofs.lemmas.GrownCopiedPartsLemmas as m_
use Rattle.fc_safeedits.proofs.lemmas.GrownCopiedPathsLemmas as t_

module _ (d : SafeGrownCopying) where
  abbrev x : SafeChange
  x = d.x

  abbrev c : Copying
  c = d.parts.c

  abbrev g : Growing
  g = d.parts.growing

  abbrev y : Layout
  y = Layout.New x.parts.m

  abbrev y' : Layout
  y' = Layout.New x.parts.m'

  abbrev command : Command
  command = Command.Rename d.from d.to

  abbrev v : Opened
  v = view_before x.parts

  abbrev move : Relocation
  move = i_.move d

  abbrev image : SafeImage
  image = i_.image d

  abbrev h : IsHeld x.parts.nodes y x.parts.listings
  h = i_.h d

  abbrev eg : EditGrowing
  eg = i_.eg d

  abbrev e' : Edit
  e' = i_.e' d

  abbrev cs : Copies x.parts.nodes x.parts.listings c
  cs = d.parts.copies

  abbrev ne : NodesEdit
  ne = unmoved move

  abbrev anew : Object
  anew = at_place g g.o

  -- the copy
  abbrev o : Object
  o = copied c c.o

  pub tree' : HasTree x.parts.kind (changed (tree_of x.image y x.parts.listings) command) x.image'
  tree' = safe_outcome_law.moved_tree image c.o.path (new_path c) (changed (tree_of x.image y x.parts.listings) command) (i_.moves d) (λ found is_move. i_.tree_now d found is_move)

  -- ---- the file

  was_there : object_at x.parts.listings d.from ≡ Some c.o
  was_there = lookup_law.object y x.parts.listings d.from c.o h.sound (memory.among x.parts.nodes y x.parts.listings c h cs) d.its.from_is

  copies : copies_file v command ≡ true
  copies = ap (λ (q : Option Object). option_map_or (is_copied v d.from d.to) q false) was_there ∙ d.its.shares

  -- ---- in each order in which the listings may be found

  module _ (found : List Listing) (sound : AreSound y' found) (order : IsPermutation (listings_after (relocated move)) found) where
    abbrev w : Opened
    w = is_now image found

    abbrev grown : Object
    grown = laid_in move anew

    grown_path : grown.path ≡ g.o.path
    grown_path = laid_path x.parts.m' (moves_in x.parts) anew

    grown_entry : grown.entry ≡ anew.entry
    grown_entry = laid_entry x.parts.m' (moves_in x.parts) anew

    grown_there : object_at found g.o.path ≡ Some grown
    grown_there =
        let j = members.its_joins eg in
        lookup_law.object y' found g.o.path grown sound
        (joins_found (na.held_edit (parts image.parts)) found sound order (laid_at move (j.0, anew)) (joining_more move (j.0, anew) j.1)) (ap (is_same_path g.o.path) grown_path ∙ itself g.o.path)

    there_now : Contains (objects_of found) o
    there_now =
        subst (λ (p : Object). Contains (objects_of found) p) (laid_still x.parts.m' (moves_in x.parts) o d.parts.elsewhere)
        (joins_found (na.held_edit (parts image.parts)) found sound order (laid_at move (c.number, o))
        (joining_more move (c.number, o) (members.still_joins eg (c.number, o) (contains_here (c.number, o) []))))

    is_there : object_at found d.to ≡ Some o
    is_there = lookup_law.object y' found d.to o sound there_now (ap (λ (p : Object). is_same_path d.to p.path) (i_.copy_is d) ∙ d.its.to_is)

    entry_is : named_entry w command ≡ Some o.entry
    entry_is = named_rename d.from d.to w o is_there

    made_is : made_object w command ≡ Some o
    made_is = is_there

    -- ---- who holds a directory then

    parent_is : (k : Listing) → Contains x.parts.listings k → holder_address found (turned_in move k.object).path ≡ holder_now x.parts.listings g k.object.path
    parent_is k at =
        let n = h.held.each k.object (listed_directory y x.parts.listings h.sound k at).0 in
        hs_.moved_holder x.parts (i_.q d) found sound order (λ l there. ap (λ (p : Object). p.entry.address) (i_.dir_stays d l there)) k n.number
        (in_other x.parts.listings (n_.stay (ne' move)) (ne' move).is_edit.found k at) n.at_path
        (λ goes.
        clash (is_same_path c.o.path k.object.path)
        (n_.same_at (growing.ne eg) c.o.path k.object.path c.number cs.number_is (n.at_path ∙ ap (λ (i : ℕ). Some i) (sym (only c.number n.number goes)))) (i_.dir_other d k at))

    -- ---- what each directory says then

    told_entries : (t : Told) → Contains g.again t → entries_of t.content ≡ edited command t.was.object.path (named_entry w command) (entries_of t.was.content)
    told_entries t at =
        let rest = ar.told_same eg g.holder d.parts.grows.amended_is t at in
        (d.parts.grows.told_is t at).entries
        ∙ sym (edited_by d.from d.to t.was.object.path (named_entry w command) (entries_of t.was.content) false false (t_.rest_from d t.was rest) (t_.rest_to d t.was rest))

    first_entries : (b : Amended) → First eg b → entries_of b.content ≡ edited command b.was.object.path (named_entry w command) (entries_of b.was.content)
    first_entries b (inl among) =
        memory.of_both c (λ (a : Amended). entries_of a.content ≡ edited command a.was.object.path (named_entry w command) (entries_of a.was.content))
        (d.left
        ∙ sym (edited_by d.from d.to c.k.object.path (named_entry w command) (entries_of c.k.content) true false (t_.from_holds d)
        (other_of (holder d.to) c.l.object.path c.k.object.path (t_.to_holds d) (turned_other c.k.object.path c.l.object.path (t_.apart d)))))
        (d.joined ∙ ap (λ (q : Option Entry). with_made q (entries_of c.l.content)) (sym entry_is)
        ∙ sym (edited_by d.from d.to c.l.object.path (named_entry w command) (entries_of c.l.content) false true
        (other_of (holder d.from) c.k.object.path c.l.object.path (t_.from_holds d) (t_.apart d)) (t_.to_holds d))) b among
    first_entries b (inr t) =
        subst (λ (a : Amended). entries_of a.content ≡ edited command a.was.object.path (named_entry w command) (entries_of a.was.content)) t.2 (told_entries t.0 t.1)

    to_grown : is_same_path (holder d.to) g.o.path ≡ true
    to_grown = ap (λ (p : Object). is_same_path (holder d.to) p.path) (sym d.into_it) ∙ t_.to_holds d

    same_asked : (k : Listing) → Contains g.same k → AsksNothing v w command e' k
    same_asked k at =
        let rest = t_.at_rest d k at in
        let other = t_.rest_other d k rest in
        record {
          entries = sym (hs_.after_elsewhere eg x.parts.kind y' found command d.grows.growth grown grown_there grown_path grown_entry k (n_.stay_in ne k (n_.same_in ne k at))
              (λ p kid. not_by_same eg k at p kid)
              ∙ edited_by d.from d.to k.object.path (named_entry w command) (entries_of k.content) false false (t_.rest_from d k rest) (t_.rest_to d k rest));
          parent = λ gets. absurd (clash (gets_parent v command k.object.path) gets (ap₂ (λ (a b : Bool). a || b) (turned_other d.from k.object.path other) (d.grows.kept k at)));
          name = kept_name d.from d.to k.object.path other k.content;
        }

    asked : AreSafelyAsked image command found
    asked = record {
      out = λ k at. absurd (no_element k at);
      paths = λ k at.
          (let listed = n_.stay_in ne k at in
          let stays = i_.its_path d k.object (listed_directory y x.parts.listings h.sound k listed).0 (i_.dir_other d k listed) in
          subst (λ (p : Path). is_same_path (path_after command k.object.path) p ≡ true) (stays ∙ sym (growing.its_path eg k.object ∙ ap (λ (p : Object). p.path) (i_.dir_stays d k listed)))
          (after_same d.from d.to c.o.path (new_path c) k.object.path d.its.from_is d.its.to_is));
      amended = λ a at.
          record {
            entries = grown_entries eg x.parts.kind y' found d.from d.to d.grows.growth grown grown_there grown_path grown_entry to_grown first_entries a at;
            may = t_.may_rewrite d a at;
            says = subst (λ (n : ℕ). IsRewritten command a.was.object.path n a.was.content a.content) (sym (parent_is a.was (i_.was_in d a at))) (d.says a at);
            bytes = i_.dir_written d a at;
          };
      same = same_asked;
      all = t_.still_dir d;
    }

    entry : NamedEntrySteady v w command
    entry =
        subst (λ (q : Option Object). IfSome q (EntrySteady (dir_form y) (is_moved_by command) (object_at x.parts.listings d.from))) (sym is_there)
        (subst (λ (q : Option Object). EntrySteady (dir_form y) (is_moved_by command) q o) (sym was_there)
        (record { last = inl (ap (λ (p : Object). p.entry.last) (i_.copy_is d)); len = λ dir. same_length (dir_form y) c.o.entry.len o.entry.len (ap (λ (p : Object). p.entry.len) (i_.copy_is d)) }))

    -- ---- space

    grown_ids : grown_id v w command ≡ its_new_id v command g
    grown_ids = s_.ids_same x.parts command g d.grows.growth d.parts.lies_grown w grown grown_there grown_entry

    needs : need_ids x.parts.m v w command ≡ own_id x.parts.m v command (Some o) ++ changed_ids x.parts.m v command ++ its_new_id v command g
    needs = ap₂ (λ (q : Option Object) (more : List ℕ). own_id x.parts.m v command q ++ changed_ids x.parts.m v command ++ more) made_is grown_ids

    news : new_id_list x.parts.m v w command ≡ own_id x.parts.m v command (Some o) ++ its_new_id v command g
    news = ap₂ (λ (q : Option Object) (more : List ℕ). own_id x.parts.m v command q ++ more) made_is grown_ids

    space : TakesForGrown x.parts command o g → IsSafeSpaceAsked image command found
    space t = record {
      parts = t.parts;
      fitted = t.fitted;
      takes = t.takes;
      ids = t.ids ∙ sym needs;
      fresh = t.fresh;
      needs_met = subst (λ (ids : List ℕ). HaveRuns x.parts.m' ids t.parts) (sym needs) t.needs_met;
      least = subst (AreLeast x.parts.m) (sym news) t.least;
      object = subst (λ (q : Option Object). SafeObjectPlaced x.parts.m x.parts.m' (object_units x.parts.m v command) (slack_for v command) q) (sym made_is) t.object;
      grown = s_.grown_safely x.parts command g d.grows.growth d.parts.lies_grown w grown grown_there grown_entry;
      back = t.back;
    }

    safely_asked : TakesForGrown x.parts command o g → IsWholeGrown x g → IsSafelyAsked image command found
    safely_asked t whole = record {
      directories = asked;
      space = space t;
      named = subst (λ (b : Bool). NamedStays v w command b) (sym copies) tt;
      entry = entry;
      made = tt;
      empty = λ none. absurd (cc);
      zones = s_.zones_grown x command g d.grows.growth w grown grown_there grown_entry whole.zones;
    }

  pub outcome' : TakesForGrown x.parts command o g → IsWholeGrown x g → SafeOutcome x.parts.kind x.image x.image' v command (parts_with x.parts.m' x.parts.nodes' x.parts.owners')
  outcome' t whole =
      safe_outcome_law.moved image command c.o.path (new_path c) (i_.moves d) (record { copies = whole.copies; links = whole.links; asked = λ found sound order. safely_asked found sound order t whole })
      (λ found is_move. i_.tree_now d found is_move)

pub safe_grown_copying_law : SafeGrownCopyingLaw
safe_grown_copying_law = record { agrees = λ x d. p_.agrees' x (m_.grows x d); tree = λ d. tree' d; outcome = λ d t whole. outcome' d t whole }
