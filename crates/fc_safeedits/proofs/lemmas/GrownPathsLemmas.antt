-- The two paths of `rename` into a directory that grows by it, and which directories it may rewrite, in the safe mode.
use Rattle.std.proofs.Common.{◌≡◌, ⊎_elim, Bool, true, false, not, ◌&&◌, ◌||◌, map, sym, ap, ◌∙◌, Some}
use Rattle.std.specs.Prelude.{Contains}
use Rattle.std.proofs.lemmas.Bool.{false_from_ne_true as unless, or_left, or_right as or_second}
use Rattle.std.proofs.lemmas.List.Elements.{Contains-append_cases, Contains-append_left}
use Rattle.fc_names.specs.Names.{is_same_path}
use Rattle.fc_names.specs.Names.{Path}
use Rattle.fc_model.specs.Command.{Command}
use Rattle.fc_model.specs.Tree.{holder}
use Rattle.fc_image.specs.Layout.{Layout}
use Rattle.fc_image.specs.Walk.{Listing, Object, is_directory_object}
use Rattle.fc_image.specs.Objects.{object_at, objects_of}
use Rattle.fc_image.specs.Opening.{Opened}
use Rattle.fc_image.specs.effects.Steady.{has_grown, has_new_holder, holds_named, is_gone, is_renamed_by, may_be_rewritten}
use Rattle.fc_image.specs.safe.SafeShort.{is_changed_directory}
use Rattle.fc_image.proofs.CommandLemmas.{other_path}
use Rattle.fc_image.proofs.LookupLemmas.{lookup_law}
use Rattle.fc_image.proofs.PathsLemmas.{itself}
use Rattle.fc_tree.proofs.MemberLemmas.{in_map}
use Rattle.fc_tree.proofs.SoundLemmas.{same_object}
use Rattle.fc_tree.proofs.WalkedLemmas.{child_path, listed_directory}
use Rattle.fc_changes.proofs.ReadsLemmas.{lies_in}
use Rattle.fc_changes.proofs.RenamedLemmas.{same_turned as turned_same}
use Rattle.fc_laws.specs.nodes.Laws.{IsHeld}
use Rattle.fc_edits.specs.Edit.{Amended, Edit}
use Rattle.fc_edits.specs.Growing.{EditGrowing, Growing}
use Rattle.fc_edits.specs.Moving.{Moves, Moving, edit, itself as own_now}
use Rattle.fc_edits.specs.NodesEdit.{NodesEdit}
use Rattle.fc_edits.proofs.lemmas.AroundLemmas as ar
use Rattle.fc_edits.proofs.lemmas.GrowingLemmas as growing
use Rattle.fc_edits.proofs.lemmas.MovesLemmas as memory
use Rattle.fc_edits.proofs.lemmas.NumberLemmas as n_
use Rattle.fc_edits.proofs.lemmas.ShapeLemmas.{not_own}
use Rattle.fc_outcomes.proofs.lemmas.RenamePathLemmas.{other_of, turned_other}
use Rattle.fc_outcomes.proofs.lemmas.SteadyLemmas.{unnamed}
use Rattle.fc_safeedits.specs.SafeChange.{SafeChange, view_before}
use Rattle.fc_safeedits.proofs.lemmas.SafeDeletionLemmas.{none_and}
use Rattle.fc_safeedits.specs.SafeGrownMoving.{SafeGrownMoving}
use Rattle.fc_safeedits.proofs.lemmas.GrownRenamedImageLemmas as i_
use Rattle.fc_safeedits.proofs.lemmas.GrownRenamedPartsLemmas as m_
use Rattle.fc_safeedits.proofs.lemmas.GrowingAskedLemmas as s_

module _ (d : SafeGrownMoving) where
  abbrev x : SafeChange
  x = d.x

  abbrev c : Moving
  c = d.parts.c

  abbrev g : Growing
  g = d.parts.growing

  abbrev y : Layout
  y = Layout.New x.parts.m

  abbrev command : Command
  command = Command.Rename d.from d.to

  abbrev v : Opened
  v = view_before x.parts

  abbrev h : IsHeld x.parts.nodes y x.parts.listings
  h = i_.h d

  abbrev eg : EditGrowing
  eg = i_.eg d

  abbrev e' : Edit
  e' = i_.e' d

  abbrev ms : Moves x.parts.nodes x.parts.listings c
  ms = d.parts.moving

  -- the edit without growth
  abbrev ne0 : NodesEdit
  ne0 = growing.ne eg

  pub o_in : Contains (objects_of d.x.parts.listings) d.parts.c.o
  o_in = m_.o_in x.parts d.parts

  pub was_there : object_at d.x.parts.listings d.from ≡ Some d.parts.c.o
  was_there = lookup_law.object y x.parts.listings d.from c.o h.sound o_in d.its.from_is

  -- ---- the two paths

  l_other : is_same_path c.o.path c.l.object.path ≡ false
  l_other = other_path c.o.path c.l.object.path ms.not_into

  pub to_holds : is_same_path (holder d.to) d.parts.c.l.object.path ≡ true
  to_holds = (lies_in d.to c.l.object.path c.name d.its.to_is).holds

  there_holds : is_same_path (holder d.to) ms.there.0.was.object.path ≡ true
  there_holds = ap (λ (k : Listing). is_same_path (holder d.to) k.object.path) ms.there.2 ∙ to_holds

  abbrev home : (a : Amended) × Contains c.dirs a × Contains a.was.children c.o
  home = memory.home x.parts.nodes y x.parts.listings c h ms

  home_in : Contains x.parts.listings home.0.was
  home_in = memory.home_in x.parts.nodes y x.parts.listings c h ms

  from_holds : is_same_path (holder d.from) home.0.was.object.path ≡ true
  from_holds =
      (lies_in d.from home.0.was.object.path c.o.entry.name (ap (is_same_path d.from) (sym (child_path y x.parts.listings h.sound home.0.was c.o home_in home.2)) ∙ d.its.from_is)).holds

  home_other : is_same_path c.o.path home.0.was.object.path ≡ false
  home_other =
      let home_is = (ms.amends home.0 home.1).number_is in
      memory.unspelled x.parts.nodes y x.parts.listings c h ms home.0.was.object home.0.number home_is
      (not_own x.parts.nodes y x.parts.listings home.0.was c.o home.0.number c.number h home_in home.2 home_is ms.number_is)

  pub own_from : is_same_path (holder d.from) d.parts.c.o.path ≡ false
  own_from = other_of (holder d.from) home.0.was.object.path c.o.path from_holds (turned_other c.o.path home.0.was.object.path home_other)

  pub own_to : is_same_path (holder d.to) d.parts.c.o.path ≡ false
  own_to = other_of (holder d.to) c.l.object.path c.o.path to_holds (turned_other c.o.path c.l.object.path l_other)

  -- ---- the directories that it leaves as they are

  number_amended : (a : Amended) → Contains c.dirs a → Contains (map (λ (b : Amended). b.number) (edit c).amended) a.number
  number_amended a at = in_map (λ (b : Amended). b.number) (edit c).amended a (Contains-append_left c.dirs (map (own_now c) c.own) a at)

  pub rest_from : (k : Listing) → Contains d.parts.c.rest k → is_same_path (holder d.from) k.object.path ≡ false
  rest_from k at = unnamed ne0 d.from home.0.was k home.0.number home_in (ms.amends home.0 home.1).number_is (number_amended home.0 home.1) from_holds at

  pub rest_to : (k : Listing) → Contains d.parts.c.rest k → is_same_path (holder d.to) k.object.path ≡ false
  rest_to k at =
      let a = ms.there.0 in
      unnamed ne0 d.to a.was k a.number (memory.dir_in x.parts.nodes y x.parts.listings c h ms a ms.there.1) (ms.amends a ms.there.1).number_is (number_amended a ms.there.1) there_holds at

  pub rest_other : (k : Listing) → Contains d.parts.c.rest k → is_same_path d.from k.object.path ≡ false
  rest_other k at = other_of d.from c.o.path k.object.path d.its.from_is (unless (is_same_path c.o.path k.object.path) (λ same.
      let listed' = n_.stay_in ne0 k (n_.same_in ne0 k at) in
      ms.others k at (same_object y x.parts.listings h.sound c.o.path k.object c.o (listed_directory y x.parts.listings h.sound k listed').0 o_in same (itself c.o.path))))

  pub at_rest : (k : Listing) → Contains d.parts.growing.same k → Contains d.parts.c.rest k
  at_rest k at = ar.same_same eg g.holder d.parts.grows.amended_is k at

  -- none of them is a changed one
  pub still_dir : (k : Listing) → Contains d.parts.growing.same k → is_changed_directory (view_before d.x.parts) (Command.Rename d.from d.to) k.object ≡ false
  still_dir k at =
      let rest = at_rest k at in
      ap (λ (t : Bool). is_directory_object k.object && t && not (is_gone command k.object.path))
      (s_.none_of (holds_named command k.object.path) (is_renamed_by command k.object.path) (has_grown v command k.object.path) (has_new_holder v command k.object.path)
      (ap (λ (b : Bool). b || is_same_path (holder d.to) k.object.path) (rest_from k rest) ∙ rest_to k rest) (turned_other d.from k.object.path (rest_other k rest))
      (s_.none_grown x.parts (i_.q d) command d.its.grows k at) (d.its.grows.kept k at))
      ∙ none_and (is_directory_object k.object) (not (is_gone command k.object.path))

  -- ---- which directories may be rewritten

  by_first : (p : Path) → (holds_named command p || is_renamed_by command p) ≡ true → may_be_rewritten v command p ≡ true
  by_first p first =
      or_left (holds_named command p || is_renamed_by command p || has_grown v command p) (has_new_holder v command p) (or_left (holds_named command p || is_renamed_by command p) (has_grown v command p) first)

  l_named : holds_named command c.l.object.path ≡ true
  l_named = or_second (is_same_path (holder d.from) c.l.object.path) (is_same_path (holder d.to) c.l.object.path) to_holds

  named : (a : Amended) → Contains c.dirs a → holds_named command a.was.object.path ≡ true
  named a at =
      ⊎_elim
      (λ kid.
      or_left (is_same_path (holder d.from) a.was.object.path) (is_same_path (holder d.to) a.was.object.path)
      (lies_in d.from a.was.object.path c.o.entry.name
      (ap (is_same_path d.from) (sym (child_path y x.parts.listings h.sound a.was c.o (memory.dir_in x.parts.nodes y x.parts.listings c h ms a at) kid)) ∙ d.its.from_is)).holds)
      (λ is_l. ap (λ (k : Listing). holds_named command k.object.path) is_l ∙ l_named) (ms.touched a at)

  edit_may : (a : Amended) → Contains (edit c).amended a → may_be_rewritten v command a.was.object.path ≡ true
  edit_may a at =
      ⊎_elim (λ dir. by_first a.was.object.path (or_left (holds_named command a.was.object.path) (is_renamed_by command a.was.object.path) (named a dir)))
      (λ own.
      let k = memory.own_amended x.parts.nodes y x.parts.listings c h ms a own in
      by_first a.was.object.path
      (or_second (holds_named command a.was.object.path) (is_renamed_by command a.was.object.path)
      (ap (λ (b : Amended). is_renamed_by command b.was.object.path) (sym k.2) ∙ ap (λ (p : Object). is_renamed_by command p.path) (ms.own_is k.0 k.1).0 ∙ turned_same d.from c.o.path d.its.from_is)))
      (Contains-append_cases c.dirs (map (own_now c) c.own) a at)

  pub may_rewrite : (a : Amended) → Contains (i_.e' d).amended a → may_be_rewritten (view_before d.x.parts) (Command.Rename d.from d.to) a.was.object.path ≡ true
  may_rewrite = s_.all_may x.parts (i_.q d) command d.its.grows edit_may
