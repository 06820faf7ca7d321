-- `rename` into a directory that grows by it, in the safe mode.
use Rattle.std.proofs.Common.{◌≡◌, inl, inr, ⊎_elim, ℕ, Bool, true, false, cond, ◌||◌, List, [], ◌∷◌, ◌++◌, map, refl, sym, ap, ap₂, subst, ◌∙◌, arith, Option, None, Some}
use Rattle.std.specs.Prelude.{Contains, IfSome, IsPermutation, ◌==◌}
use Rattle.std.specs.Option.{option_map_or}
use Rattle.std.proofs.lemmas.List.Elements.{Contains-append_cases}
use Rattle.fc_names.specs.Names.{Path, is_same_path}
use Rattle.fc_model.specs.Answer.{changed}
use Rattle.fc_model.specs.Command.{Command}
use Rattle.fc_model.specs.Tree.{holder}
use Rattle.fc_dirs.specs.declared.Entry.{Entry}
use Rattle.fc_dirs.specs.Directory.{Directory, entries_of}
use Rattle.fc_image.specs.Layout.{Layout, dir_form, id_of}
use Rattle.fc_image.specs.Walk.{Listing, Object}
use Rattle.fc_image.specs.Objects.{object_at, objects_of, tree_of}
use Rattle.fc_image.specs.Opening.{Opened}
use Rattle.fc_image.specs.Report.{holder_address}
use Rattle.fc_image.specs.Sound.{AreSound}
use Rattle.fc_image.specs.effects.Effect.{copies_file}
use Rattle.fc_image.specs.effects.Placed.{made_object}
use Rattle.fc_image.specs.effects.Sharing.{units}
use Rattle.fc_image.specs.effects.Short.{is_copied, new_length}
use Rattle.fc_image.specs.effects.Steady.{EntrySteady, IsRewritten, NamedEntrySteady, NamedStays, edited, gets_parent, is_moved_by, named_entry, path_after}
use Rattle.fc_image.specs.safe.SafeEffect.{HasTree}
use Rattle.fc_image.specs.safe.SafeShort.{changed_ids}
use Rattle.fc_image.specs.safe.SafeSteady.{AreLeast, HaveRuns, SafeObjectPlaced, grown_id, need_ids, new_id_list, own_id}
use Rattle.fc_image.proofs.LookupLemmas.{lookup_law}
use Rattle.fc_image.proofs.PathsLemmas.{itself}
use Rattle.fc_image.proofs.RenameLemmas.{moved_itself}
use Rattle.fc_tree.proofs.MemberLemmas.{contains_here, no_element}
use Rattle.fc_tree.proofs.SoundLemmas.{same_object}
use Rattle.fc_tree.proofs.WalkedLemmas.{listed_directory}
use Rattle.fc_changes.proofs.BasicLemmas.{clash, holder_pushed}
use Rattle.fc_changes.proofs.BeforeLemmas.{address_by}
use Rattle.fc_changes.proofs.RewordedLemmas.{same_address}
use Rattle.fc_laws.specs.nodes.Laws.{IsHeld}
use Rattle.fc_laws.specs.agree.Agreed.{parts_with}
use Rattle.fc_laws.proofs.lemmas.nodes.ListLemmas.{in_other}
use Rattle.fc_edits.specs.Edit.{Amended, Edit, listings_after, numbers}
use Rattle.fc_edits.specs.Growing.{EditGrowing, Growing, Told, at_place}
use Rattle.fc_edits.specs.Moving.{Moves, Moving, itself as own_now, moved, new_path}
use Rattle.fc_edits.specs.NodesEdit.{NodesEdit}
use Rattle.fc_edits.proofs.lemmas.AroundLemmas as ar
use Rattle.fc_edits.proofs.lemmas.GrowingLemmas as growing
use Rattle.fc_edits.proofs.lemmas.GrownHolderLemmas.{not_by_same}
use Rattle.fc_edits.proofs.lemmas.GrownMemberLemmas as members
use Rattle.fc_edits.proofs.lemmas.MovesLemmas as memory
use Rattle.fc_edits.proofs.lemmas.NewAgreeLemmas as na
use Rattle.fc_edits.proofs.lemmas.NumberLemmas as n_
use Rattle.fc_edits.proofs.lemmas.OwnedLemmas.{joins_found}
use Rattle.fc_edits.proofs.lemmas.ShapeLemmas.{only}
use Rattle.fc_outcomes.specs.GrownMoving.{parent_now}
use Rattle.fc_outcomes.specs.Growth.{holder_now}
use Rattle.fc_outcomes.specs.Steady.{AsksNothing}
use Rattle.fc_outcomes.proofs.lemmas.GrownEntriesLemmas.{First}
use Rattle.fc_outcomes.proofs.lemmas.RenamePathLemmas.{after_same, edited_by, kept_name, named_rename, turned_other}
use Rattle.fc_outcomes.proofs.lemmas.SteadyLemmas.{stay_found}
use Rattle.fc_outcomes.proofs.lemmas.WordLemmas.{same_length}
use Rattle.fc_safeedits.specs.Relocation.{Relocation, laid_at, laid_in, relocated, turned_in, unmoved}
use Rattle.fc_safeedits.specs.SafeChange.{SafeChange, view_before}
use Rattle.fc_safeedits.specs.SafeImage.{SafeImage}
use Rattle.fc_safeedits.specs.SafeOutcome.{AreSafelyAsked, IsSafeSpaceAsked, IsSafelyAsked, SafeOutcome, is_now}
use Rattle.fc_safeedits.proofs.lemmas.AlongLemmas.{ne'}
use Rattle.fc_safeedits.proofs.lemmas.RelocatedLemmas.{turned_entry, turned_path}
use Rattle.fc_safeedits.proofs.lemmas.RelocatedNodesLemmas.{joining_more}
use Rattle.fc_safeedits.proofs.lemmas.SafeOutcomeLemmas.{safe_outcome_law}
use Rattle.fc_safeedits.proofs.lemmas.SafePartsLemmas.{parts}
use Rattle.fc_safeedits.specs.SafeGrowth.{IsWholeGrown, its_new_id}
use Rattle.fc_safeedits.specs.SafeGrownMoving.{SafeGrownMoving, SafeGrownMovingLaw, TakesForGrowth}
use Rattle.fc_safeedits.proofs.lemmas.GrowingPlacesLemmas as p_
use Rattle.fc_safeedits.proofs.lemmas.GrownHoldersLemmas as hs_
use Rattle.fc_safeedits.proofs.lemmas.GrownPathsLemmas as t_
use Rattle.fc_safeedits.proofs.lemmas.GrownRenamedEntriesLemmas.{grown_entries}
use Rattle.fc_safeedits.proofs.lemmas.GrownRenamedImageLemmas as i_
use Rattle.fc_safeedits.proofs.lemmas.GrownRenamedPartsLemmas as m_
use Rattle.fc_safeedits.proofs.lemmas.GrownSpaceLemmas as s_

module _ (d : SafeGrownMoving) where
  abbrev x : SafeChange
  x = d.x

  abbrev c : Moving
  c = d.parts.c

  abbrev g : Growing
  g = d.parts.growing

  abbrev y : Layout
  y = Layout.New x.parts.m

  abbrev y' : Layout
  y' = Layout.New x.parts.m'

  abbrev command : Command
  command = Command.Rename d.from d.to

  abbrev v : Opened
  v = view_before x.parts

  abbrev move : Relocation
  move = i_.move d

  abbrev image : SafeImage
  image = i_.image d

  abbrev h : IsHeld x.parts.nodes y x.parts.listings
  h = i_.h d

  abbrev eg : EditGrowing
  eg = i_.eg d

  abbrev e' : Edit
  e' = i_.e' d

  abbrev ms : Moves x.parts.nodes x.parts.listings c
  ms = d.parts.moving

  abbrev ne : NodesEdit
  ne = unmoved move

  pub tree' : HasTree x.parts.kind (changed (tree_of x.image y x.parts.listings) command) x.image'
  tree' = safe_outcome_law.moved_tree image c.o.path (new_path c) (changed (tree_of x.image y x.parts.listings) command) (i_.moves d) (λ found is_move. i_.tree_now d found is_move)

  -- ---- the object

  was_there : object_at x.parts.listings d.from ≡ Some c.o
  was_there = t_.was_there d

  no_copy : copies_file v command ≡ false
  no_copy = ap (λ (q : Option Object). option_map_or (is_copied v d.from d.to) q false) was_there ∙ d.its.not_copied

  none_long : new_length v command ≡ 0
  none_long =
      ap (λ (q : Option Object). option_map_or (λ (p : Object). cond (is_copied v d.from d.to p) p.entry.len 0) q 0) was_there ∙ ap (λ (b : Bool). cond b c.o.entry.len 0) d.its.not_copied

  -- ---- in each order in which the listings may be found

  module _ (found : List Listing) (sound : AreSound y' found) (order : IsPermutation (listings_after (relocated move)) found) where
    abbrev w : Opened
    w = is_now image found

    abbrev o' : Object
    o' = turned_in move c.o

    abbrev grown : Object
    grown = hs_.grown x.parts (i_.q d) found sound order

    grown_path : grown.path ≡ g.o.path
    grown_path = hs_.grown_path x.parts (i_.q d) found sound order

    grown_entry : grown.entry ≡ (at_place g g.o).entry
    grown_entry = hs_.grown_entry x.parts (i_.q d) found sound order

    grown_there : object_at found g.o.path ≡ Some grown
    grown_there = hs_.grown_there x.parts (i_.q d) found sound order

    -- the object afterwards
    now_entry : o'.entry ≡ (moved c c.o).entry
    now_entry = turned_entry move c.o ∙ ap (λ (p : Object). p.entry) (i_.o_turn d)

    now_path : o'.path ≡ new_path c
    now_path = turned_path move c.o ∙ ap (λ (p : Object). p.path) (i_.o_turn d) ∙ moved_itself c.o.path (new_path c) c.o.path refl

    there_now : Contains (objects_of found) o'
    there_now =
        let p : ℕ × Object = (c.number, moved c c.o) in
        let joins = members.still_joins eg p (subst (λ (ps : List (ℕ × Object)). Contains ps p) (sym (m_.still x.parts d.parts).joins) (contains_here p [])) in
        subst (λ (r : Object). Contains (objects_of found) (laid_in move r)) (sym (i_.o_turn d)) (joins_found (na.held_edit (parts image.parts)) found sound order (laid_at move p) (joining_more move p joins))

    is_there : object_at found d.to ≡ Some o'
    is_there = lookup_law.object y' found d.to o' sound there_now (ap (is_same_path d.to) now_path ∙ d.its.to_is)

    entry_is : named_entry w command ≡ Some (moved c c.o).entry
    entry_is = named_rename d.from d.to w o' is_there ∙ ap (λ (e : Entry). Some e) now_entry

    -- ---- who holds a directory then

    stays_then : (k : Listing) → Contains x.parts.listings k → Contains (n_.stay (ne' move)) k
    stays_then k at = in_other x.parts.listings (n_.stay (ne' move)) (ne' move).is_edit.found k at

    l_stays : (moved c c.l.object).path ≡ c.l.object.path
    l_stays =
        ap (λ (p : Object). (moved c p).path) d.its.into_it ∙ ap (λ (p : Object). p.path) d.parts.grows.stays ∙ ap (λ (p : Object). p.path) (sym d.its.into_it)

    own_holder : holder_address found o'.path ≡ g.address
    own_holder =
        let l = c.l.object in
        let f = stay_found (ne' move) y' found sound order c.l (stays_then c.l (memory.l_in x.parts.nodes y x.parts.listings c h ms)) in
        let path : (turned_in move l).path ≡ l.path = turned_path move l ∙ growing.its_path eg l ∙ l_stays in
        ap (holder_address found) now_path
        ∙ address_by y' found (new_path c) f.0 sound f.1
        (ap (λ (p : Path). is_same_path p f.0.object.path) (holder_pushed l.path c.name) ∙ ap (λ (p : Object). is_same_path l.path p.path) f.2 ∙ ap (is_same_path l.path) path ∙ itself l.path)
        ∙ ap (λ (p : Object). p.entry.address) f.2 ∙ ap (λ (z : Entry). z.address) (turned_entry move l)
        ∙ ap (λ (p : Object). (e'.turn p).entry.address) d.its.into_it ∙ ap (λ (p : Object). p.entry.address) (growing.its_turn eg)

    parent_is : (k : Listing) → Contains x.parts.listings k → holder_address found (turned_in move k.object).path ≡ parent_now x.parts.listings c g k.object.path
    parent_is k at = by (is_same_path c.o.path k.object.path) refl
      where
        k_in : Contains (objects_of x.parts.listings) k.object
        k_in = (listed_directory y x.parts.listings h.sound k at).0

        by : (b : Bool) → is_same_path c.o.path k.object.path ≡ b → holder_address found (turned_in move k.object).path ≡ cond b g.address (holder_now x.parts.listings g k.object.path)
        by true same =
            ap (λ (p : Object). holder_address found (turned_in move p).path) (same_object y x.parts.listings h.sound c.o.path k.object c.o k_in (t_.o_in d) same (itself c.o.path)) ∙ own_holder
        by false other =
            let n = h.held.each k.object k_in in
            hs_.moved_holder x.parts (i_.q d) found sound order (λ l there. refl) k n.number (stays_then k at) n.at_path
            (λ goes.
            let number = only c.number n.number (subst (λ (ps : List (ℕ × Object)). Contains (numbers ps) n.number) (memory.left_is x.parts.nodes y x.parts.listings c h ms) goes) in
            clash (is_same_path c.o.path k.object.path)
            (n_.same_at (growing.ne eg) c.o.path k.object.path c.number ms.number_is (n.at_path ∙ ap (λ (i : ℕ). Some i) (sym number))) other)

    -- ---- what each directory says then

    unnamed_entries : (k : Listing) → is_same_path (holder d.from) k.object.path ≡ false → is_same_path (holder d.to) k.object.path ≡ false → (es : List Entry)
        → edited command k.object.path (named_entry w command) es ≡ es
    unnamed_entries k no_from no_to es = edited_by d.from d.to k.object.path (named_entry w command) es false false no_from no_to

    own_entries : (k : Listing × Directory) → Contains c.own k → entries_of k.1 ≡ edited command k.0.object.path (named_entry w command) (entries_of k.0.content)
    own_entries k at =
        let is_o = (ms.own_is k at).0 in
        (ms.own_is k at).1
        ∙ sym (unnamed_entries k.0 (ap (λ (p : Object). is_same_path (holder d.from) p.path) is_o ∙ t_.own_from d) (ap (λ (p : Object). is_same_path (holder d.to) p.path) is_o ∙ t_.own_to d)
        (entries_of k.0.content))

    told_entries : (t : Told) → Contains g.again t → entries_of t.content ≡ edited command t.was.object.path (named_entry w command) (entries_of t.was.content)
    told_entries t at =
        let rest = ar.told_same eg g.holder d.parts.grows.amended_is t at in
        (d.parts.grows.told_is t at).entries ∙ sym (unnamed_entries t.was (t_.rest_from d t.was rest) (t_.rest_to d t.was rest) (entries_of t.was.content))

    first_entries : (b : Amended) → First eg b → entries_of b.content ≡ edited command b.was.object.path (named_entry w command) (entries_of b.was.content)
    first_entries b (inl among) =
        ⊎_elim (λ dir. d.entries b dir ∙ ap (λ (q : Option Entry). edited command b.was.object.path q (entries_of b.was.content)) (sym entry_is))
        (λ own.
        let k = memory.own_amended x.parts.nodes y x.parts.listings c h ms b own in
        subst (λ (a : Amended). entries_of a.content ≡ edited command a.was.object.path (named_entry w command) (entries_of a.was.content)) k.2 (own_entries k.0 k.1))
        (Contains-append_cases c.dirs (map (own_now c) c.own) b among)
    first_entries b (inr t) =
        subst (λ (a : Amended). entries_of a.content ≡ edited command a.was.object.path (named_entry w command) (entries_of a.was.content)) t.2 (told_entries t.0 t.1)

    to_grown : is_same_path (holder d.to) g.o.path ≡ true
    to_grown = ap (λ (p : Object). is_same_path (holder d.to) p.path) (sym d.its.into_it) ∙ t_.to_holds d

    was_in : (a : Amended) → Contains e'.amended a → Contains x.parts.listings a.was
    was_in a at = n_.stay_in ne a.was (n_.was_in ne a at)

    same_asked : (k : Listing) → Contains g.same k → AsksNothing v w command e' k
    same_asked k at =
        let rest = t_.at_rest d k at in
        let other = t_.rest_other d k rest in
        record {
          entries = sym (hs_.after_elsewhere eg x.parts.kind y' found command d.its.grows.growth grown grown_there grown_path grown_entry k (n_.stay_in ne k (n_.same_in ne k at))
              (λ p kid. not_by_same eg k at p kid)
              ∙ unnamed_entries k (t_.rest_from d k rest) (t_.rest_to d k rest) (entries_of k.content));
          parent = λ gets. absurd (clash (gets_parent v command k.object.path) gets (ap₂ (λ (a b : Bool). a || b) (turned_other d.from k.object.path other) (d.its.grows.kept k at)));
          name = kept_name d.from d.to k.object.path other k.content;
        }

    asked : AreSafelyAsked image command found
    asked = record {
      out = λ k at. absurd (no_element k at);
      paths = λ k at.
          subst (λ (p : Path). is_same_path (path_after command k.object.path) p ≡ true) (sym (growing.its_path eg k.object)) (after_same d.from d.to c.o.path (new_path c) k.object.path d.its.from_is d.its.to_is);
      amended = λ a at.
          record {
            entries = grown_entries eg x.parts.kind y' found d.from d.to d.its.grows.growth grown grown_there grown_path grown_entry to_grown first_entries a at;
            may = t_.may_rewrite d a at;
            says = subst (λ (n : ℕ). IsRewritten command a.was.object.path n a.was.content a.content) (sym (parent_is a.was (was_in a at))) (d.says a at);
            bytes = i_.dir_written d a at;
          };
      same = same_asked;
      all = t_.still_dir d;
    }

    -- ---- the object afterwards

    named : NamedStays v w command (copies_file v command)
    named =
        subst (λ (b : Bool). NamedStays v w command b) (sym no_copy)
        (same_address (object_at x.parts.listings d.from) (object_at found d.to) c.o o' was_there is_there (ap (λ (e : Entry). e.address) now_entry))

    entry : NamedEntrySteady v w command
    entry =
        subst (λ (q : Option Object). IfSome q (EntrySteady (dir_form y) (is_moved_by command) (object_at x.parts.listings d.from))) (sym is_there)
        (subst (λ (q : Option Object). EntrySteady (dir_form y) (is_moved_by command) q o') (sym was_there)
        (record { last = inl (ap (λ (e : Entry). e.last) now_entry); len = λ dir. same_length (dir_form y) c.o.entry.len o'.entry.len (ap (λ (e : Entry). e.len) now_entry) }))

    -- ---- space

    none_own : (q : Option Object) → own_id x.parts.m v command q ≡ []
    none_own None = refl
    none_own (Some o) = ap (λ (n : ℕ). cond (units x.parts.m.geometry n == 0) [] (id_of o.entry.address ∷ [])) none_long

    grown_ids : grown_id v w command ≡ its_new_id v command g
    grown_ids = s_.ids_same x.parts command g d.its.grows.growth d.parts.lies_grown w grown grown_there grown_entry

    needs : need_ids x.parts.m v w command ≡ changed_ids x.parts.m v command ++ its_new_id v command g
    needs = ap₂ (λ (ids more : List ℕ). ids ++ changed_ids x.parts.m v command ++ more) (none_own (made_object w command)) grown_ids

    news : new_id_list x.parts.m v w command ≡ its_new_id v command g
    news = ap₂ (λ (ids more : List ℕ). ids ++ more) (none_own (made_object w command)) grown_ids

    space : TakesForGrowth x.parts command g → IsSafeSpaceAsked image command found
    space t = record {
      parts = t.parts;
      fitted = t.fitted;
      takes = t.takes;
      ids = t.ids ∙ sym needs;
      fresh = t.fresh;
      needs_met = subst (λ (ids : List ℕ). HaveRuns x.parts.m' ids t.parts) (sym needs) t.needs_met;
      least = subst (AreLeast x.parts.m) (sym news) t.least;
      object = subst (λ (n : ℕ). SafeObjectPlaced x.parts.m x.parts.m' (units x.parts.m.geometry n) None (made_object w command)) (sym none_long) (λ some. absurd (omega (arith, some)));
      grown = s_.grown_safely x.parts command g d.its.grows.growth d.parts.lies_grown w grown grown_there grown_entry;
      back = t.back;
    }

    safely_asked : TakesForGrowth x.parts command g → IsWholeGrown x g → IsSafelyAsked image command found
    safely_asked t whole = record {
      directories = asked;
      space = space t;
      named = named;
      entry = entry;
      made = tt;
      empty = λ none. absurd (cc);
      zones = s_.zones_grown x command g d.its.grows.growth w grown grown_there grown_entry whole.zones;
    }

  pub outcome' : TakesForGrowth x.parts command g → IsWholeGrown x g → SafeOutcome x.parts.kind x.image x.image' v command (parts_with x.parts.m' x.parts.nodes' x.parts.owners')
  outcome' t whole =
      safe_outcome_law.moved image command c.o.path (new_path c) (i_.moves d) (record { copies = whole.copies; links = whole.links; asked = λ found sound order. safely_asked found sound order t whole })
      (λ found is_move. i_.tree_now d found is_move)

pub safe_grown_moving_law : SafeGrownMovingLaw
safe_grown_moving_law = record { agrees = λ x d. p_.agrees' x (m_.grows x d); tree = λ d. tree' d; outcome = λ d t whole. outcome' d t whole }
