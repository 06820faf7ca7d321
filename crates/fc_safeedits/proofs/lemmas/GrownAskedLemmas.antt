-- What a command asks of the directories if one grows by a new object, in the safe mode.
use Rattle.std.proofs.Common.{◌≡◌, ◌⊎◌, inl, inr, ⊎_elim, ℕ, Bool, true, false, not, cond, ◌&&◌, ◌||◌, List, [], ◌++◌, map, refl, sym, ap, ap₂, subst, ◌∙◌, Option, None, Some}
use Rattle.std.specs.Prelude.{Contains, IsPermutation}
use Rattle.std.proofs.lemmas.Bool.{false_from_ne_true as unless, or_left}
use Rattle.std.proofs.lemmas.List.{append-nil}
use Rattle.std.proofs.lemmas.List.Elements.{Contains-append_left}
use Rattle.fc_names.specs.Names.{Path, is_same_path}
use Rattle.fc_model.specs.Command.{Command}
use Rattle.fc_model.specs.Tree.{holder}
use Rattle.fc_dirs.specs.declared.Entry.{Entry}
use Rattle.fc_dirs.specs.Directory.{Directory, entries_of}
use Rattle.fc_image.specs.Layout.{Layout}
use Rattle.fc_image.specs.Report.{holder_address}
use Rattle.fc_image.specs.Walk.{Listing, Object, is_directory_object}
use Rattle.fc_image.specs.Objects.{object_at, objects_of}
use Rattle.fc_image.specs.Opening.{Opened}
use Rattle.fc_image.specs.Sound.{AreSound}
use Rattle.fc_image.specs.effects.Placed.{made_object}
use Rattle.fc_image.specs.effects.Steady.{HasName, IsRewritten, edited, entries_after, gets_parent, has_grown, has_new_holder, holds_named, is_gone, is_renamed_by, may_be_rewritten, named_entry, regrown_entry, with_made}
use Rattle.fc_image.specs.safe.SafeShort.{is_changed_directory}
use Rattle.fc_image.proofs.EntriesLemmas.{later as contains_later, cases as contains_cases}
use Rattle.fc_image.proofs.LookupLemmas.{lookup_law}
use Rattle.fc_image.proofs.PathsLemmas.{itself}
use Rattle.fc_tree.specs.Nodes.{number_of}
use Rattle.fc_tree.proofs.MemberLemmas.{contains_here, in_map, no_element}
use Rattle.fc_tree.proofs.SoundLemmas.{same_listing}
use Rattle.fc_tree.proofs.WalkedLemmas.{child_is_object, same_some}
use Rattle.fc_changes.proofs.BasicLemmas.{clash}
use Rattle.fc_changes.proofs.ReadsLemmas.{LiesIn}
use Rattle.fc_laws.specs.nodes.Laws.{IsHeld}
use Rattle.fc_laws.proofs.lemmas.nodes.OtherLemmas.{unlike}
use Rattle.fc_edits.specs.Addition.{Addition, amended, edit, leaves}
use Rattle.fc_edits.specs.Edit.{Amended, Edit, leaving, listings_after, numbers}
use Rattle.fc_edits.specs.Growing.{EditGrowing, Growing, Holder, Holds, IsHeldBy, Told, amended_by, amended_first, at_place, holding, told}
use Rattle.fc_edits.specs.NodesEdit.{NodesEdit}
use Rattle.fc_edits.proofs.lemmas.AroundLemmas as ar
use Rattle.fc_edits.proofs.lemmas.GrowingLawLemmas as law
use Rattle.fc_edits.proofs.lemmas.GrowingLemmas as growing
use Rattle.fc_edits.proofs.lemmas.GrownHolderLemmas.{not_by_other, not_by_same}
use Rattle.fc_edits.proofs.lemmas.GrownMemberLemmas as members
use Rattle.fc_edits.proofs.lemmas.NewAgreeLemmas as na
use Rattle.fc_edits.proofs.lemmas.NumberLemmas as n_
use Rattle.fc_edits.proofs.lemmas.OwnedLemmas.{joins_found}
use Rattle.fc_edits.proofs.lemmas.ShapeLemmas.{not_own, only}
use Rattle.fc_outcomes.specs.Growth.{holder_now}
use Rattle.fc_outcomes.proofs.lemmas.JoinedLemmas.{Makes}
use Rattle.fc_safeedits.specs.Relocation.{Relocation, all_amended, amended_in, laid_at, relocated, told_again, turned_in, unmoved}
use Rattle.fc_safeedits.specs.SafeChange.{moves_in, view_before}
use Rattle.fc_safeedits.specs.SafeImage.{SafeImage}
use Rattle.fc_safeedits.specs.SafeOutcome.{AreSafelyAsked, is_now}
use Rattle.fc_safeedits.proofs.lemmas.AlongLemmas.{ne'}
use Rattle.fc_safeedits.proofs.lemmas.LaidLemmas.{laid_still}
use Rattle.fc_safeedits.proofs.lemmas.RelocatedNodesLemmas.{joining_more}
use Rattle.fc_safeedits.proofs.lemmas.SafeDeletionLemmas.{none_and}
use Rattle.fc_safeedits.proofs.lemmas.SafePartsLemmas.{parts}
use Rattle.fc_safeedits.specs.SafeGrownAddition.{SafeGrownAddition}
use Rattle.fc_safeedits.proofs.lemmas.GrowingAskedLemmas as s_
use Rattle.fc_safeedits.proofs.lemmas.GrownEntryLemmas as e_
use Rattle.fc_safeedits.proofs.lemmas.GrownHoldersLemmas as hs_
use Rattle.fc_safeedits.proofs.lemmas.GrownImageLemmas as i_

-- in each order in which the listings may be found
module _ (d : SafeGrownAddition) (n : ℕ) (names : Makes (view_before d.x.parts) d.command d.path n None) (found : List Listing) (sound : AreSound (Layout.New d.x.parts.m') found)
    (order : IsPermutation (listings_after (relocated (i_.move d))) found) where
  abbrev eg : EditGrowing
  eg = i_.eg d

  abbrev e' : Edit
  e' = i_.e' d

  abbrev move : Relocation
  move = i_.move d

  abbrev image : SafeImage
  image = i_.image d

  abbrev y : Layout
  y = Layout.New d.x.parts.m

  abbrev y' : Layout
  y' = Layout.New d.x.parts.m'

  abbrev c : Addition
  c = d.parts.c

  abbrev g : Growing
  g = d.parts.growing

  abbrev listings : List Listing
  listings = d.x.parts.listings

  abbrev h : IsHeld d.x.parts.nodes y listings
  h = i_.h d

  l_in : Contains listings c.l
  l_in = e_.l_in d

  lies : LiesIn d.path c.l.object.path c.o.entry.name
  lies = e_.lies d

  abbrev command : Command
  command = d.command

  abbrev v : Opened
  v = view_before d.x.parts

  abbrev w : Opened
  w = is_now image found

  abbrev o : Object
  o = c.o

  abbrev anew : Object
  anew = at_place g g.o

  -- the grown directory afterwards
  abbrev grown : Object
  grown = hs_.grown d.x.parts (i_.q d) found sound order

  grown_path : grown.path ≡ g.o.path
  grown_path = hs_.grown_path d.x.parts (i_.q d) found sound order

  grown_entry : grown.entry ≡ anew.entry
  grown_entry = hs_.grown_entry d.x.parts (i_.q d) found sound order

  grown_there : object_at found g.o.path ≡ Some grown
  grown_there = hs_.grown_there d.x.parts (i_.q d) found sound order

  pub o_found : Contains (objects_of found) o
  o_found =
      subst (λ (p : Object). Contains (objects_of found) p) (laid_still d.x.parts.m' (moves_in d.x.parts) o d.parts.elsewhere)
      (joins_found (na.held_edit (parts image.parts)) found sound order (laid_at move (c.number, o))
      (joining_more move (c.number, o) (members.still_joins eg (c.number, o) (contains_here (c.number, o) []))))

  pub o_there : object_at found d.path ≡ Some o
  o_there = lookup_law.object y' found d.path o sound o_found d.path_is

  pub made_is : made_object w command ≡ Some o
  made_is = names.makes w ∙ o_there

  -- what the command does to the entries of a directory
  edits_are : (k : Listing) (es : List Entry) → edited command k.object.path (named_entry w command) es ≡ cond (is_same_path (holder d.path) k.object.path) (with_made (Some o.entry) es) es
  edits_are k es =
      names.edits k.object.path (named_entry w command) es
      ∙ ap (λ (q : Option Entry). cond (is_same_path (holder d.path) k.object.path) (with_made q es) es) (names.entry w o o_there)

  -- no other directory is named
  unnamed_by : (k : Listing) → Contains listings k → (k.object.path ≡ c.l.object.path → ⊥) → is_same_path (holder d.path) k.object.path ≡ false
  unnamed_by k at other =
      unless (is_same_path (holder d.path) k.object.path)
      (λ same.
      let one : k ≡ c.l = same_listing y listings h.sound (holder d.path) k c.l at l_in same lies.holds in
      other (ap (λ (l : Listing). l.object.path) one))

  abbrev ne : NodesEdit
  ne = unmoved move

  was_in : (a : Amended) → Contains e'.amended a → Contains listings a.was
  was_in a at = n_.stay_in ne a.was (n_.was_in ne a at)

  in_relocated : (a : Amended) → Contains e'.amended a → Contains (relocated move).amended (amended_in move a)
  in_relocated a at = in_map (amended_in move) (all_amended move) a (Contains-append_left e'.amended (map (told_again move) e'.same) a at)

  -- ---- who holds it

  -- nothing leaves without growth
  none_leaves : (k : ℕ) → Contains (numbers (leaving (edit c))) k → ⊥
  none_leaves k at =
      no_element k
      (subst (λ (os : List Object). Contains (numbers (map (λ (p : Object). (c.number, p)) os)) k) d.parts.new (subst (λ (ps : List (ℕ × Object)). Contains (numbers ps) k) (append-nil (leaves c)) at))

  says_now : (a : Amended) → Contains e'.amended a → IsRewritten command a.was.object.path (holder_address found (turned_in move a.was.object).path) a.was.content a.content
  says_now a at =
      let there : holder_address found (turned_in move a.was.object).path ≡ holder_now listings g a.was.object.path =
      hs_.moved_holder d.x.parts (i_.q d) found sound order (λ k there. refl) a.was a.number (n_.was_in (ne' move) (amended_in move a) (in_relocated a at)) (move.is_edit.amends a at).number_is
      (none_leaves a.number) in
      subst (λ (address : ℕ). IsRewritten command a.was.object.path address a.was.content a.content) (sym there) (d.says a at)

  -- ---- entries

  abbrev Asked : Amended → Type 0
  Asked a = (may_be_rewritten v command a.was.object.path ≡ true) × (entries_of a.content ≡ entries_after v w command a.was)

  after_is : (k : Listing) → entries_after v w command k ≡ edited command k.object.path (named_entry w command) (map (regrown_entry k.object.path (Some anew)) (entries_of k.content))
  after_is k = hs_.after_is eg d.x.parts.kind y' found command d.grows.growth grown grown_there grown_path grown_entry k

  after_elsewhere : (k : Listing) → Contains listings k → ((p : Object) → Contains k.children p → is_same_path g.o.path p.path ≡ false)
      → entries_after v w command k ≡ edited command k.object.path (named_entry w command) (entries_of k.content)
  after_elsewhere k at other = hs_.after_elsewhere eg d.x.parts.kind y' found command d.grows.growth grown grown_there grown_path grown_entry k at other

  told_may : (t : Told) → Contains g.again t → may_be_rewritten v command t.was.object.path ≡ true
  told_may t at = s_.told_may d.x.parts (i_.q d) command d.grows t at

  -- the directories that are told something have other paths than the grown one
  told_other : (t : Told) → Contains g.again t → t.was.object.path ≡ c.l.object.path → ⊥
  told_other t at same =
      let k = ar.told_same eg g.holder d.parts.grows.amended_is t at in
      n_.same_other (ar.ne eg g.holder d.parts.grows.amended_is) t.was c.dir k (ap (number_of d.x.parts.nodes) same ∙ d.parts.comes.dir_is) (contains_here c.dir [])

  -- one that doesn't hold it
  told_asked : (t : Told) → Contains g.again t → Contains e'.amended (told (edit c) t)
      → ((p : Object) → Contains t.was.children p → is_same_path g.o.path p.path ≡ false) → Asked (told (edit c) t)
  told_asked t at there other =
      let listed' = was_in (told (edit c) t) there in (
        told_may t at,
        (d.parts.grows.told_is t at).entries
            ∙ sym (after_elsewhere t.was listed' other
            ∙ edits_are t.was (entries_of t.was.content)
            ∙ ap (λ (b : Bool). cond b (with_made (Some o.entry) (entries_of t.was.content)) (entries_of t.was.content)) (unnamed_by t.was listed' (told_other t at))),
      )

  -- the one that holds it
  holder_asked : (hd : Holder) → Holds g hd → Contains e'.amended (holding (edit c) g hd) → (t : Told) → Contains g.again t
      → told (edit c) t ≡ hd.amended → Asked (holding (edit c) g hd)
  holder_asked hd hs there t at same =
      let k : Listing = hd.amended.was in
      let was : t.was ≡ k = ap (λ (b : Amended). b.was) same in
      let listed' = was_in (holding (edit c) g hd) there in
      let entries : entries_of hd.amended.content ≡ entries_of k.content =
      ap (λ (b : Amended). entries_of b.content) (sym same) ∙ (d.parts.grows.told_is t at).entries ∙ ap (λ (l : Listing). entries_of l.content) was in
      let es : List Entry = map (regrown_entry k.object.path (Some anew)) (entries_of k.content) in (
        subst (λ (l : Listing). may_be_rewritten v command l.object.path ≡ true) was (told_may t at),
        hs.entries ∙ ap (map (regrown_entry k.object.path (Some anew))) entries
            ∙ sym (after_is k ∙ edits_are k es
            ∙ ap (λ (b : Bool). cond b (with_made (Some o.entry) es) es)
            (unnamed_by k listed' (subst (λ (l : Listing). l.object.path ≡ c.l.object.path → ⊥) was (told_other t at)))),
      )

  -- and the grown one itself
  its_asked : Asked (amended c)
  its_asked = (
    or_left (holds_named command c.l.object.path || is_renamed_by command c.l.object.path || has_grown v command c.l.object.path) (has_new_holder v command c.l.object.path)
        (or_left (holds_named command c.l.object.path || is_renamed_by command c.l.object.path) (has_grown v command c.l.object.path)
        (or_left (holds_named command c.l.object.path) (is_renamed_by command c.l.object.path) (names.holds c.l.object.path ∙ lies.holds))),
    e_.with_it d
        ∙ sym (after_elsewhere c.l l_in not_own_kid
        ∙ edits_are c.l (entries_of c.l.content)
        ∙ ap (λ (b : Bool). cond b (with_made (Some o.entry) (entries_of c.l.content)) (entries_of c.l.content)) lies.holds),
  )
    where
      kid_number : (p : Object) → Contains c.l.children p → (k : ℕ) × (number_of d.x.parts.nodes p.path ≡ Some k)
      kid_number p kid = let r = h.held.each p (child_is_object y listings h.sound c.l p l_in kid) in (r.number, r.at_path)

      not_own_kid : (p : Object) → Contains c.l.children p → is_same_path g.o.path p.path ≡ false
      not_own_kid p kid =
          unlike d.x.parts.nodes g.o.path p.path g.dir (kid_number p kid).0 d.parts.grows.dir_is (kid_number p kid).1
          (λ same.
          not_own d.x.parts.nodes y listings c.l p g.dir (kid_number p kid).0 h l_in kid
          (ap (λ (q : Object). number_of d.x.parts.nodes q.path) (sym d.parts.its) ∙ d.parts.grows.dir_is) (kid_number p kid).1 same)

  all_asked : (a : Amended) → Contains e'.amended a → Asked a
  all_asked a at = by g.holder d.parts.grows.amended_is d.parts.grows.held at (λ b there. there)
    where
      of_either : (q : Option Holder) → IsPermutation ((edit c).amended ++ map (told (edit c)) g.again) (amended_first q g.others) → (b : Amended)
          → Contains (amended_first q g.others) b → (amended c ≡ b) ⊎ ((t : Told) × Contains g.again t × (told (edit c) t ≡ b))
      of_either q cut b there = ⊎_elim (λ its. inl (only (amended c) b its)) (λ t. inr t) (ar.amended_cases eg q cut b there)

      other_asked : Contains g.others a → (amended c ≡ a) ⊎ ((t : Told) × Contains g.again t × (told (edit c) t ≡ a)) → Asked a
      other_asked there (inl its) = subst Asked its its_asked
      other_asked there (inr t) =
          subst (λ (b : Amended). Contains e'.amended b → ((p : Object) → Contains b.was.children p → is_same_path g.o.path p.path ≡ false) → Asked b) t.2
          (λ in_it other. told_asked t.0 t.1 in_it other) at (λ p kid. not_by_other eg a there p kid)

      by : (q : Option Holder) → IsPermutation ((edit c).amended ++ map (told (edit c)) g.again) (amended_first q g.others) → IsHeldBy g q
          → Contains (amended_by (edit c) g q) a → ((b : Amended) → Contains (amended_by (edit c) g q) b → Contains e'.amended b) → Asked a
      by None cut at_top there within = other_asked there (of_either None cut a there)
      by (Some hd) cut hs there within =
          ⊎_elim
          (λ same.
          subst Asked same
          (⊎_elim (λ its. absurd (i_.not_it d hd hs its))
          (λ t. holder_asked hd hs (within (holding (edit c) g hd) (contains_here (holding (edit c) g hd) g.others)) t.0 t.1 t.2)
          (of_either (Some hd) cut hd.amended (contains_here hd.amended g.others))))
          (λ later. other_asked later (of_either (Some hd) cut a (contains_later hd.amended a g.others later)))
          (contains_cases (holding (edit c) g hd) a g.others there)

  -- ---- the directories that say what they said

  same_in : (k : Listing) → Contains e'.same k → Contains listings k
  same_in k at = n_.stay_in ne k (n_.same_in ne k at)

  same_unlike : (k : Listing) → Contains e'.same k → k.object.path ≡ c.l.object.path → ⊥
  same_unlike k at same =
      law.same_other eg k c.dir at (ap (number_of d.x.parts.nodes) same ∙ d.parts.comes.dir_is)
      (same_some c.dir g.dir
      (sym d.parts.comes.dir_is ∙ ap (λ (p : Object). number_of d.x.parts.nodes p.path) (sym d.parts.its) ∙ d.parts.grows.dir_is))

  -- none of them is a changed one
  still_dir : (k : Listing) → Contains e'.same k → is_changed_directory v command k.object ≡ false
  still_dir k at =
      ap (λ (t : Bool). is_directory_object k.object && t && not (is_gone command k.object.path))
      (s_.none_of (holds_named command k.object.path) (is_renamed_by command k.object.path) (has_grown v command k.object.path) (has_new_holder v command k.object.path)
      (names.holds k.object.path ∙ unnamed_by k (same_in k at) (same_unlike k at)) (names.plain.renamed k.object.path) (s_.none_grown d.x.parts (i_.q d) command d.grows k at) (d.grows.kept k at))
      ∙ none_and (is_directory_object k.object) (not (is_gone command k.object.path))

  -- ---- all of them

  pub asked : AreSafelyAsked image command found
  asked = record {
    out = λ k at. absurd (no_element k at);
    paths = λ k at. ap (λ (p : Path). is_same_path p (e'.turn k.object).path) (names.plain.path k.object.path) ∙ ap (is_same_path k.object.path) (growing.its_path eg k.object) ∙ itself k.object.path;
    amended = λ a at.
        (let is = all_asked a at in
        record { entries = is.1; may = is.0; says = says_now a at; bytes = i_.dir_written d a at });
    same = λ k at.
        record {
          entries = sym (after_elsewhere k (same_in k at) (λ p kid. not_by_same eg k at p kid)
              ∙ edits_are k (entries_of k.content)
              ∙ ap (λ (b : Bool). cond b (with_made (Some o.entry) (entries_of k.content)) (entries_of k.content)) (unnamed_by k (same_in k at) (same_unlike k at)));
          parent = λ gets. absurd (clash (gets_parent v command k.object.path) gets (ap₂ (λ (a b : Bool). a || b) (names.plain.renamed k.object.path) (d.grows.kept k at)));
          name = plain_name k.object.path k.content;
        };
    all = still_dir;
  }
    where
      plain_name : (p : Path) (content : Directory) → HasName command p content
      plain_name p (Directory.Small dir) = names.plain.small p dir.name
      plain_name p (Directory.Big dir) = names.plain.big p dir
