-- `save`, `create` and `cdir` in a directory that grows, in the safe mode.
use Rattle.std.proofs.Common.{◌≡◌, inl, ⊎_elim, ℕ, List, [], ◌++◌, length, map, refl, sym, ap, ap₂, subst, ◌∙◌, Option, None, Some}
use Rattle.std.specs.Prelude.{Contains, IfSome, IsPermutation, IsSomeAnd}
use Rattle.std.proofs.lemmas.List.Elements.{Contains-append_left}
use Rattle.fc_names.specs.Names.{is_same_path}
use Rattle.fc_names.specs.declared.name.NameForm.{NameForm}
use Rattle.fc_model.specs.Answer.{changed}
use Rattle.fc_model.specs.Command.{Command}
use Rattle.fc_model.specs.Tree.{holder, last_name}
use Rattle.fc_dirs.specs.declared.Entry.{Entry}
use Rattle.fc_image.specs.Layout.{Layout, dir_form}
use Rattle.fc_image.specs.Walk.{Listing, Object, object_bytes}
use Rattle.fc_image.specs.Objects.{listing_at, object_at, tree_of}
use Rattle.fc_image.specs.Opening.{Opened}
use Rattle.fc_image.specs.Report.{holder_address}
use Rattle.fc_image.specs.Sound.{AreSound}
use Rattle.fc_image.specs.effects.Placed.{HasAddress, made_object}
use Rattle.fc_image.specs.effects.Short.{new_dir_size, object_units, slack_for}
use Rattle.fc_image.specs.effects.Steady.{AreWritten, EntrySteady, IsMadeDirectory, NamedEntrySteady, NewDirectory, is_moved_by, new_directory, source_object}
use Rattle.fc_image.specs.safe.SafeEffect.{HasTree}
use Rattle.fc_image.specs.safe.SafeShort.{changed_ids}
use Rattle.fc_image.specs.safe.SafeSteady.{AreLeast, HaveRuns, SafeObjectPlaced, grown_id, need_ids, new_id_list, own_id}
use Rattle.fc_image.proofs.LookupLemmas.{lookup_law}
use Rattle.fc_tree.proofs.MemberLemmas.{contains_here, in_map}
use Rattle.fc_changes.proofs.BeforeLemmas.{address_by}
use Rattle.fc_laws.specs.agree.Agreed.{parts_with}
use Rattle.fc_laws.proofs.lemmas.nodes.ListLemmas.{in_other}
use Rattle.fc_edits.specs.Addition.{amended}
use Rattle.fc_edits.specs.Edit.{listings_after, now, still}
use Rattle.fc_edits.specs.Growing.{Growing, at_place}
use Rattle.fc_edits.proofs.lemmas.AdditionLemmas as memory
use Rattle.fc_edits.proofs.lemmas.GrowingLemmas as growing
use Rattle.fc_outcomes.specs.GrownAddition.{IsItsGrownDirectory}
use Rattle.fc_outcomes.proofs.lemmas.JoinedLemmas.{Makes, makes_directory, makes_file}
use Rattle.fc_outcomes.proofs.lemmas.SteadyLemmas.{now_in}
use Rattle.fc_safeedits.specs.Relocation.{Relocation, all_amended, amended_in, relocated, told_again, turned_in}
use Rattle.fc_safeedits.specs.SafeChange.{SafeChange, view_before}
use Rattle.fc_safeedits.specs.SafeImage.{SafeImage}
use Rattle.fc_safeedits.specs.SafeOutcome.{IsSafeSpaceAsked, IsSafelyAsked, SafeOutcome, is_now}
use Rattle.fc_safeedits.proofs.lemmas.RelocatedLemmas.{turned_entry, turned_path}
use Rattle.fc_safeedits.proofs.lemmas.SafeChangeLemmas.{form_same}
use Rattle.fc_safeedits.proofs.lemmas.SafeOutcomeLemmas.{safe_outcome_law}
use Rattle.fc_safeedits.specs.SafeGrowth.{IsWholeGrown, its_new_id}
use Rattle.fc_safeedits.specs.SafeGrownAddition.{SafeGrownAddition, SafeGrownAdditionLaw, TakesForGrown}
use Rattle.fc_safeedits.proofs.lemmas.GrownAskedLemmas as a_
use Rattle.fc_safeedits.proofs.lemmas.GrownEntryLemmas as e_
use Rattle.fc_safeedits.proofs.lemmas.GrownHoldersLemmas as hs_
use Rattle.fc_safeedits.proofs.lemmas.GrownImageLemmas as i_
use Rattle.fc_safeedits.proofs.lemmas.GrowingPlacesLemmas as p_
use Rattle.fc_safeedits.proofs.lemmas.GrownPartsLemmas as m_
use Rattle.fc_safeedits.proofs.lemmas.GrownSpaceLemmas as s_

module _ (d : SafeGrownAddition) where
  abbrev x : SafeChange
  x = d.x

  abbrev g : Growing
  g = d.parts.growing

  abbrev y : Layout
  y = Layout.New x.parts.m

  abbrev y' : Layout
  y' = Layout.New x.parts.m'

  abbrev command : Command
  command = d.command

  abbrev v : Opened
  v = view_before x.parts

  abbrev o : Object
  o = d.parts.c.o

  abbrev move : Relocation
  move = i_.move d

  abbrev image : SafeImage
  image = i_.image d

  pub tree' : HasTree x.parts.kind (changed (tree_of x.image y x.parts.listings) command) x.image'
  tree' = safe_outcome_law.kept_tree image [] (changed (tree_of x.image y x.parts.listings) command) (i_.keeps d) (λ found edited. i_.tree_now d found edited)

  -- ---- what the command makes

  names : (n : ℕ) × Makes v command d.path n None
  names =
      ⊎_elim (λ f. (length d.stored, makes_file v command d.path f.0 f.1 d.stored None d.stood f.2.makes))
      (λ k. (
        new_dir_size (dir_form y),
        subst (λ (q : Command). Makes v q d.path (new_dir_size (dir_form y)) None) (sym k.2) (makes_directory v d.path (new_dir_size (dir_form y)) refl),
      )) d.is_its

  -- ---- in each order in which the listings may be found

  module _ (found : List Listing) (sound : AreSound y' found) (order : IsPermutation (listings_after (relocated move)) found) where
    abbrev w : Opened
    w = is_now image found

    abbrev grown : Object
    grown = hs_.grown x.parts (i_.q d) found sound order

    grown_there : object_at found g.o.path ≡ Some grown
    grown_there = hs_.grown_there x.parts (i_.q d) found sound order

    grown_entry : grown.entry ≡ (at_place g g.o).entry
    grown_entry = hs_.grown_entry x.parts (i_.q d) found sound order

    o_there : object_at found d.path ≡ Some o
    o_there = a_.o_there d names.0 names.1 found sound order

    made_is : made_object w command ≡ Some o
    made_is = a_.made_is d names.0 names.1 found sound order

    entry : NamedEntrySteady v w command
    entry =
        subst (λ (q : Option Object). IfSome q (EntrySteady (dir_form y) (is_moved_by command) (source_object v command))) (sym (names.1.names w ∙ o_there))
        (subst (λ (q : Option Object). EntrySteady (dir_form y) (is_moved_by command) q o) (sym names.1.source) (record { last = inl d.entry.2; len = λ directory. tt }))

    -- the directory that the path names has the new address
    its_holder : holder_address found d.path ≡ g.address
    its_holder =
        let b = amended_in move (amended d.parts.c) in
        let l : Object = d.parts.c.l.object in
        let there = in_map (amended_in move) (all_amended move) (amended d.parts.c) (Contains-append_left (i_.e' d).amended (map (told_again move) (i_.e' d).same) (amended d.parts.c) (i_.its_amended d)) in
        let path : (turned_in move l).path ≡ l.path = turned_path move l ∙ growing.its_path (i_.eg d) l in
        address_by y' found d.path (now (relocated move) b) sound (now_in (relocated move) found order b there) (ap (is_same_path (holder d.path)) path ∙ (e_.lies d).holds)
        ∙ ap (λ (z : Entry). z.address) (turned_entry move l) ∙ ap (λ (p : Object). ((i_.e' d).turn p).entry.address) (sym d.parts.its)
        ∙ ap (λ (p : Object). p.entry.address) (growing.its_turn (i_.eg d))

    -- a directory that comes
    made_directory : (k : Listing) → IsItsGrownDirectory d.path y d.parts.c g k → IsSomeAnd (listing_at found d.path) (IsMadeDirectory x.image' w d.path)
    made_directory k is =
        let there : Contains d.parts.c.into k = subst (λ (ks : List Listing). Contains ks k) (sym is.listed) (contains_here k []) in
        let empty = memory.own_listed y d.parts.c.into o d.parts.comes.alone k there in
        let e = relocated move in
        let among : Contains (listings_after e) k =
        Contains-append_left (map (λ (q : ℕ × Listing). q.1) (map (λ (q : Listing). (d.parts.c.number, q)) d.parts.c.into)) (map (now e) e.amended ++ map (still e) e.same) k
        (in_map (λ (q : ℕ × Listing). q.1) (map (λ (q : Listing). (d.parts.c.number, q)) d.parts.c.into) (d.parts.c.number, k) (in_map (λ (q : Listing). (d.parts.c.number, q)) d.parts.c.into k there)) in
        let form : dir_form y' ≡ dir_form y = form_same x.parts in
        subst (λ (q : Option Listing). IsSomeAnd q (IsMadeDirectory x.image' w d.path))
        (sym (lookup_law.listing y' found d.path k sound (in_other (listings_after e) found order k among) (ap (λ (p : Object). is_same_path d.path p.path) empty.object ∙ d.path_is)))
        (record {
          says = is.says ∙ ap₂ (λ (f : NameForm) (a : ℕ). new_directory f a (last_name d.path)) (sym form) (sym its_holder);
          len = ap (λ (p : Object). p.entry.len) empty.object ∙ is.len ∙ ap new_dir_size (sym form);
          bytes = subst (λ (bs : List ℕ). AreWritten bs k.content) (sym (ap (λ (p : Object). object_bytes x.image' y' p) empty.object ∙ d.stored_there)) (d.own k there);
        })

    made : NewDirectory x.image' w command
    made =
        ⊎_elim
        (λ f. ⊎_elim (λ is. subst (λ (q : Command). NewDirectory x.image' w q) (sym is) tt) (λ is. subst (λ (q : Command). NewDirectory x.image' w q) (sym is.0) tt) f.2.makes)
        (λ k. subst (λ (q : Command). NewDirectory x.image' w q) (sym k.2) (made_directory k.0 k.1)) d.is_its

    -- ---- space

    grown_ids : grown_id v w command ≡ its_new_id v command g
    grown_ids = s_.ids_same x.parts command g d.grows.growth d.parts.lies_grown w grown grown_there grown_entry

    needs : need_ids x.parts.m v w command ≡ own_id x.parts.m v command (Some o) ++ changed_ids x.parts.m v command ++ its_new_id v command g
    needs = ap₂ (λ (q : Option Object) (ids : List ℕ). own_id x.parts.m v command q ++ changed_ids x.parts.m v command ++ ids) made_is grown_ids

    news : new_id_list x.parts.m v w command ≡ own_id x.parts.m v command (Some o) ++ its_new_id v command g
    news = ap₂ (λ (q : Option Object) (ids : List ℕ). own_id x.parts.m v command q ++ ids) made_is grown_ids

    space : TakesForGrown x.parts command o g → IsSafeSpaceAsked image command found
    space t = record {
      parts = t.parts;
      fitted = t.fitted;
      takes = t.takes;
      ids = t.ids ∙ sym needs;
      fresh = t.fresh;
      needs_met = subst (λ (ids : List ℕ). HaveRuns x.parts.m' ids t.parts) (sym needs) t.needs_met;
      least = subst (AreLeast x.parts.m) (sym news) t.least;
      object = subst (λ (q : Option Object). SafeObjectPlaced x.parts.m x.parts.m' (object_units x.parts.m v command) (slack_for v command) q) (sym made_is) t.object;
      grown = s_.grown_safely x.parts command g d.grows.growth d.parts.lies_grown w grown grown_there grown_entry;
      back = t.back;
    }

    safely_asked : TakesForGrown x.parts command o g → IsWholeGrown x g → IsSafelyAsked image command found
    safely_asked t whole = record {
      directories = a_.asked d names.0 names.1 found sound order;
      space = space t;
      named = names.1.stays w _;
      entry = entry;
      made = made;
      empty = λ none. subst (λ (q : Option Object). HasAddress q 0) (sym made_is) (t.empty none);
      zones = s_.zones_grown x command g d.grows.growth w grown grown_there grown_entry whole.zones;
    }

  pub outcome' : TakesForGrown x.parts command o g → IsWholeGrown x g → SafeOutcome x.parts.kind x.image x.image' v command (parts_with x.parts.m' x.parts.nodes' x.parts.owners')
  outcome' t whole =
      safe_outcome_law.kept image command [] (i_.keeps d) (record { copies = whole.copies; links = whole.links; asked = λ found sound order. safely_asked found sound order t whole })
      (λ found edited. i_.tree_now d found edited)

pub safe_grown_addition_law : SafeGrownAdditionLaw
safe_grown_addition_law = record { agrees = λ x d. p_.agrees' x (m_.grows x d); tree = λ d. tree' d; outcome = λ d t whole. outcome' d t whole }
