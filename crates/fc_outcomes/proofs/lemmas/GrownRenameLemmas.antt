-- The directories after `rename` without a copy into a directory that grows by it.
use Rattle.std.proofs.Common.{◌≡◌, inl, inr, ⊎_elim, ℕ, Bool, true, false, cond, ◌||◌, List, map, refl, sym, ap, ap₂, subst, ◌∙◌, Option, Some}
use Rattle.std.specs.Prelude.{Contains, IsPermutation}
use Rattle.fc_names.specs.Names.{Path, is_same_path}
use Rattle.fc_model.specs.Command.{Command}
use Rattle.fc_model.specs.Tree.{holder}
use Rattle.fc_dirs.specs.declared.Entry.{Entry}
use Rattle.fc_dirs.specs.Directory.{Directory, entries_of}
use Rattle.fc_image.specs.Layout.{Layout}
use Rattle.fc_image.specs.Report.{holder_address}
use Rattle.fc_image.specs.Walk.{Listing, Object}
use Rattle.fc_image.specs.Objects.{object_at, objects_of}
use Rattle.fc_image.specs.Opening.{Opened}
use Rattle.fc_image.specs.Sound.{AreSound}
use Rattle.fc_image.specs.effects.Steady.{DirectorySteady, IsRewritten, edited, entries_after, gets_parent, named_entry, path_after}
use Rattle.fc_image.proofs.CommandLemmas.{other_path}
use Rattle.fc_image.proofs.LookupLemmas.{lookup_law}
use Rattle.fc_image.proofs.PathsLemmas.{itself}
use Rattle.fc_image.proofs.RenameLemmas.{moved_itself}
use Rattle.fc_tree.proofs.MemberLemmas.{in_map, no_element}
use Rattle.fc_tree.proofs.SoundLemmas.{same_object}
use Rattle.fc_tree.proofs.WalkedLemmas.{child_path, listed_directory}
use Rattle.fc_changes.proofs.BasicLemmas.{clash, holder_pushed}
use Rattle.fc_changes.proofs.BeforeLemmas.{address_by}
use Rattle.fc_changes.proofs.ReadsLemmas.{lies_in}
use Rattle.fc_laws.specs.nodes.Laws.{IsHeld}
use Rattle.fc_laws.proofs.lemmas.nodes.ListLemmas.{in_other}
use Rattle.std.proofs.lemmas.List.Elements.{Contains-append_cases, Contains-append_left}
use Rattle.fc_edits.specs.Edit.{Amended, Edit, listings_after, now, numbers}
use Rattle.fc_edits.specs.Growing.{EditGrowing, Growing, Told, at_place}
use Rattle.fc_edits.specs.GrownMoving.{NewGrownMoving, grown_edit}
use Rattle.fc_edits.specs.Moving.{edit, itself as own_now, moved, new_path}
use Rattle.fc_edits.specs.NodesEdit.{NodesEdit}
use Rattle.fc_edits.proofs.lemmas.AgreeLemmas as ag
use Rattle.fc_edits.proofs.lemmas.AroundLemmas as ar
use Rattle.fc_edits.proofs.lemmas.GrowingLemmas as growing
use Rattle.fc_edits.proofs.lemmas.GrowingLemmas.{its_path, its_turn}
use Rattle.fc_edits.proofs.lemmas.GrownHolderLemmas.{not_by_same}
use Rattle.fc_edits.proofs.lemmas.GrownMemberLemmas as members
use Rattle.fc_edits.proofs.lemmas.GrownMovingLemmas as gm
use Rattle.fc_edits.proofs.lemmas.GrownPlaceLemmas as place
use Rattle.fc_edits.proofs.lemmas.MovesLemmas as m_
use Rattle.fc_edits.proofs.lemmas.NewAgreeLemmas as na
use Rattle.fc_edits.proofs.lemmas.NumberLemmas as n_
use Rattle.fc_edits.proofs.lemmas.OwnedLemmas.{joins_found}
use Rattle.fc_edits.proofs.lemmas.ShapeLemmas.{not_own, only}
use Rattle.fc_outcomes.specs.GrownMoving.{NewGrownMovingWritten, grown_view, parent_now}
use Rattle.fc_outcomes.specs.Growth.{holder_now}
use Rattle.fc_outcomes.specs.Puts.{Put}
use Rattle.fc_outcomes.specs.Steady.{AreAsked, AsksNothing}
use Rattle.fc_outcomes.proofs.lemmas.GrownEntriesLemmas.{First, grown_entries}
use Rattle.fc_outcomes.proofs.lemmas.GrownHolderLemmas.{moved_holder}
use Rattle.fc_outcomes.proofs.lemmas.GrownMovedLemmas as mv
use Rattle.fc_outcomes.proofs.lemmas.GrownMovingMayLemmas.{may_rewrite}
use Rattle.fc_outcomes.proofs.lemmas.GrownSteadyLemmas.{after_elsewhere}
use Rattle.fc_outcomes.proofs.lemmas.PutLemmas.{directory_bytes}
use Rattle.fc_outcomes.proofs.lemmas.RenamePathLemmas.{after_same, edited_by, kept_name, named_rename, other_of, turned_other}
use Rattle.fc_outcomes.proofs.lemmas.SteadyLemmas.{stay_found, unnamed}
use Rattle.std.proofs.lemmas.Bool.{false_from_ne_true as unless}

module _ (x : NewGrownMoving) (from to : Path) (puts : List Put) (image image' : List ℕ) (wr : NewGrownMovingWritten x from to puts image image') (found : List Listing)
    (sound' : AreSound (Layout.New x.m') found) (order : IsPermutation (listings_after (grown_edit x.c x.growing)) found) where
  abbrev command : Command
  command = Command.Rename from to

  abbrev y : Layout
  y = Layout.New x.m

  abbrev y' : Layout
  y' = Layout.New x.m'

  abbrev v : Opened
  v = grown_view x

  abbrev w : Opened
  w = record { kind = x.kind; layout = Layout.New x.m'; listings = found }

  abbrev eg : EditGrowing
  eg = place.as_edit (gm.as_growing x)

  abbrev e' : Edit
  e' = grown_edit x.c x.growing

  abbrev g : Growing
  g = x.growing

  abbrev o : Object
  o = x.c.o

  abbrev anew : Object
  anew = at_place x.growing x.growing.o

  abbrev h : IsHeld x.nodes (Layout.New x.m) x.listings
  h = gm.h x

  abbrev ne : NodesEdit
  ne = ag.ne (na.held_edit (place.grown_parts (gm.as_growing x)))

  -- the edit without growth
  abbrev ne0 : NodesEdit
  ne0 = growing.ne eg

  -- ---- what is found afterwards

  pub now_found : Contains (objects_of found) (moved x.c o)
  now_found = joins_found (na.held_edit (place.grown_parts (gm.as_growing x))) found sound' order (x.c.number, moved x.c o) (mv.o_joins x from to puts image image' wr)

  pub anew_found : Contains (objects_of found) anew
  anew_found = let j = members.its_joins eg in joins_found (na.held_edit (place.grown_parts (gm.as_growing x))) found sound' order (j.0, anew) j.1

  pub now_there : object_at found to ≡ Some (moved x.c o)
  now_there = lookup_law.object y' found to (moved x.c o) sound' now_found (ap (is_same_path to) (moved_itself o.path (new_path x.c) o.path refl) ∙ wr.its.to_is)

  pub anew_there : object_at found g.o.path ≡ Some anew
  anew_there = lookup_law.object y' found g.o.path anew sound' anew_found (itself g.o.path)

  pub was_there : object_at x.listings from ≡ Some o
  was_there = lookup_law.object y x.listings from o h.sound (gm.among x) wr.its.from_is

  entry_is : named_entry w command ≡ Some (moved x.c o).entry
  entry_is = named_rename from to w (moved x.c o) now_there

  -- ---- the two paths

  l_other : is_same_path o.path x.c.l.object.path ≡ false
  l_other = other_path o.path x.c.l.object.path x.moves.not_into

  to_holds : is_same_path (holder to) x.c.l.object.path ≡ true
  to_holds = (lies_in to x.c.l.object.path x.c.name wr.its.to_is).holds

  there_holds : is_same_path (holder to) x.moves.there.0.was.object.path ≡ true
  there_holds = ap (λ (k : Listing). is_same_path (holder to) k.object.path) x.moves.there.2 ∙ to_holds

  abbrev home : Amended
  home = (m_.home x.nodes y x.listings x.c h x.moves).0

  abbrev home_dir : Contains x.c.dirs home
  home_dir = (m_.home x.nodes y x.listings x.c h x.moves).1

  abbrev home_kid : Contains home.was.children o
  home_kid = (m_.home x.nodes y x.listings x.c h x.moves).2

  from_holds : is_same_path (holder from) home.was.object.path ≡ true
  from_holds =
      (lies_in from home.was.object.path o.entry.name
      (ap (is_same_path from) (sym (child_path y x.listings h.sound home.was o (m_.home_in x.nodes y x.listings x.c h x.moves) home_kid)) ∙ wr.its.from_is)).holds

  home_other : is_same_path o.path home.was.object.path ≡ false
  home_other =
      let home_is = (x.moves.amends home home_dir).number_is in
      m_.unspelled x.nodes y x.listings x.c h x.moves home.was.object home.number home_is
      (not_own x.nodes y x.listings home.was o home.number x.c.number h (m_.home_in x.nodes y x.listings x.c h x.moves) home_kid home_is x.moves.number_is)

  own_from : is_same_path (holder from) o.path ≡ false
  own_from = other_of (holder from) home.was.object.path o.path from_holds (turned_other o.path home.was.object.path home_other)

  own_to : is_same_path (holder to) o.path ≡ false
  own_to = other_of (holder to) x.c.l.object.path o.path to_holds (turned_other o.path x.c.l.object.path l_other)

  number_amended : (a : Amended) → Contains x.c.dirs a → Contains (map (λ (b : Amended). b.number) (edit x.c).amended) a.number
  number_amended a at = in_map (λ (b : Amended). b.number) (edit x.c).amended a (Contains-append_left x.c.dirs (map (own_now x.c) x.c.own) a at)

  rest_from : (k : Listing) → Contains x.c.rest k → is_same_path (holder from) k.object.path ≡ false
  rest_from k at = unnamed ne0 from home.was k home.number (m_.home_in x.nodes y x.listings x.c h x.moves) (x.moves.amends home home_dir).number_is (number_amended home home_dir) from_holds at

  rest_to : (k : Listing) → Contains x.c.rest k → is_same_path (holder to) k.object.path ≡ false
  rest_to k at =
      let a = x.moves.there.0 in
      let there = x.moves.there.1 in
      unnamed ne0 to a.was k a.number (m_.dir_in x.nodes y x.listings x.c h x.moves a there) (x.moves.amends a there).number_is (number_amended a there) there_holds at

  rest_other : (k : Listing) → Contains x.c.rest k → is_same_path o.path k.object.path ≡ false
  rest_other k at = unless (is_same_path o.path k.object.path) (λ same.
      let listed' = n_.stay_in ne0 k (n_.same_in ne0 k at) in
      x.moves.others k at (same_object y x.listings h.sound o.path k.object o (listed_directory y x.listings h.sound k listed').0 (gm.among x) same (itself o.path)))

  -- ---- who holds a directory

  in_stay : (k : Listing) → Contains x.listings k → Contains (n_.stay ne) k
  in_stay k at = in_other x.listings (n_.stay ne) (place.grown_parts (gm.as_growing x)).is_edit.found k at

  l_stays : (moved x.c x.c.l.object).path ≡ x.c.l.object.path
  l_stays = ap (λ (p : Object). (moved x.c p).path) wr.its.into_it ∙ ap (λ (p : Object). p.path) x.grows.stays ∙ ap (λ (p : Object). p.path) (sym wr.its.into_it)

  own_holder : holder_address found (e'.turn o).path ≡ g.address
  own_holder =
      let l : Listing = x.c.l in
      let n = stay_found ne y' found sound' order l (in_stay l (m_.l_in x.nodes y x.listings x.c h x.moves)) in
      ap (holder_address found) (its_path eg o ∙ moved_itself o.path (new_path x.c) o.path refl)
      ∙ address_by y' found (new_path x.c) n.0 sound' n.1
      (ap (λ (p : Path). is_same_path p n.0.object.path) (holder_pushed l.object.path x.c.name) ∙ ap (λ (p : Object). is_same_path l.object.path p.path) n.2
      ∙ ap (is_same_path l.object.path) (its_path eg l.object ∙ l_stays) ∙ itself l.object.path)
      ∙ ap (λ (p : Object). p.entry.address) n.2 ∙ ap (λ (p : Object). (e'.turn p).entry.address) wr.its.into_it ∙ ap (λ (p : Object). p.entry.address) (its_turn eg)

  still : (d : Listing) → Contains x.listings d → (moved x.c d.object).entry.address ≡ d.object.entry.address
  still d at = refl

  parent_is : (k : Listing) → Contains (n_.stay ne) k → holder_address found (e'.turn k.object).path ≡ parent_now x.listings x.c g k.object.path
  parent_is k at = by (is_same_path o.path k.object.path) refl
    where
      listed' : Contains x.listings k
      listed' = n_.stay_in ne k at

      k_in : Contains (objects_of x.listings) k.object
      k_in = (listed_directory y x.listings h.sound k listed').0

      by : (b : Bool) → is_same_path o.path k.object.path ≡ b → holder_address found (e'.turn k.object).path ≡ cond b g.address (holder_now x.listings g k.object.path)
      by true same =
          ap (λ (p : Object). holder_address found (e'.turn p).path) (same_object y x.listings h.sound o.path k.object o k_in (gm.among x) same (itself o.path)) ∙ own_holder
      by false other =
          let n = h.held.each k.object k_in in
          moved_holder eg x.nodes' x.nodes_edited y' found sound' order still k n.number at n.at_path
          (λ goes.
          let number = only x.c.number n.number (subst (λ (ps : List (ℕ × Object)). Contains (numbers ps) n.number) (m_.left_is x.nodes y x.listings x.c h x.moves) goes) in
          clash (is_same_path o.path k.object.path) (n_.same_at ne0 o.path k.object.path x.c.number x.moves.number_is (n.at_path ∙ ap (λ (i : ℕ). Some i) (sym number))) other)

  -- ---- directories that say something else

  steady_so : (a : Amended) → Contains e'.amended a → entries_of a.content ≡ entries_after v w command a.was → DirectorySteady image image' v w command a.was (now e' a)
  steady_so a at entries = record {
    entries = entries;
    head = inr (record {
      may = may_rewrite x from to image wr.opens wr.its a at;
      says = subst (λ (n : ℕ). IsRewritten command a.was.object.path n a.was.content a.content) (sym (parent_is a.was (n_.was_in ne a at))) (wr.says a at);
      bytes = directory_bytes y y' puts image image' (e'.turn a.was.object) a.content (λ i. (x.geometry i).sector) wr.out (wr.written a at);
    });
  }

  -- without growth each has the entries that the command leaves it
  unnamed_entries : (k : Listing) → is_same_path (holder from) k.object.path ≡ false → is_same_path (holder to) k.object.path ≡ false → (es : List Entry)
      → edited command k.object.path (named_entry w command) es ≡ es
  unnamed_entries k no_from no_to es = edited_by from to k.object.path (named_entry w command) es false false no_from no_to

  dir_entries : (a : Amended) → Contains x.c.dirs a → entries_of a.content ≡ edited command a.was.object.path (named_entry w command) (entries_of a.was.content)
  dir_entries a at = wr.entries a at ∙ ap (λ (q : Option Entry). edited command a.was.object.path q (entries_of a.was.content)) (sym entry_is)

  own_entries : (d : Listing × Directory) → Contains x.c.own d → entries_of d.1 ≡ edited command d.0.object.path (named_entry w command) (entries_of d.0.content)
  own_entries d at =
      let is_o = (x.moves.own_is d at).0 in
      (x.moves.own_is d at).1
      ∙ sym (unnamed_entries d.0 (ap (λ (p : Object). is_same_path (holder from) p.path) is_o ∙ own_from) (ap (λ (p : Object). is_same_path (holder to) p.path) is_o ∙ own_to) (entries_of d.0.content))

  told_entries : (t : Told) → Contains g.again t → entries_of t.content ≡ edited command t.was.object.path (named_entry w command) (entries_of t.was.content)
  told_entries t at =
      let rest = ar.told_same eg g.holder x.grows.amended_is t at in
      (x.grows.told_is t at).entries ∙ sym (unnamed_entries t.was (rest_from t.was rest) (rest_to t.was rest) (entries_of t.was.content))

  first_entries : (b : Amended) → First eg b → entries_of b.content ≡ edited command b.was.object.path (named_entry w command) (entries_of b.was.content)
  first_entries b (inl among) =
      ⊎_elim (λ dir. dir_entries b dir)
      (λ own.
      let d = m_.own_amended x.nodes y x.listings x.c h x.moves b own in
      subst (λ (a : Amended). entries_of a.content ≡ edited command a.was.object.path (named_entry w command) (entries_of a.was.content)) d.2 (own_entries d.0 d.1))
      (Contains-append_cases x.c.dirs (map (own_now x.c) x.c.own) b among)
  first_entries b (inr t) =
      subst (λ (a : Amended). entries_of a.content ≡ edited command a.was.object.path (named_entry w command) (entries_of a.was.content)) t.2 (told_entries t.0 t.1)

  to_grown : is_same_path (holder to) g.o.path ≡ true
  to_grown = ap (λ (p : Object). is_same_path (holder to) p.path) (sym wr.its.into_it) ∙ to_holds

  all_steady : (a : Amended) → Contains e'.amended a → DirectorySteady image image' v w command a.was (now e' a)
  all_steady a at = steady_so a at (grown_entries eg x.kind y' found from to wr.its.grows.growth anew_there to_grown first_entries a at)

  -- ---- and the others

  same_asks : (k : Listing) → Contains g.same k → AsksNothing v w command e' k
  same_asks k at =
      let rest = mv.at_rest x from to puts image image' wr k at in
      let not_it = other_of from o.path k.object.path wr.its.from_is (rest_other k rest) in
      record {
        entries = sym (after_elsewhere eg x.kind y' found command wr.its.grows.growth anew_there k (n_.stay_in ne k (n_.same_in ne k at)) (λ p kid. not_by_same eg k at p kid)
            ∙ unnamed_entries k (rest_from k rest) (rest_to k rest) (entries_of k.content));
        parent = λ gets. absurd (clash (gets_parent v command k.object.path) gets (ap₂ (λ (a b : Bool). a || b) (turned_other from k.object.path not_it) (wr.its.grows.kept k at)));
        name = kept_name from to k.object.path not_it k.content;
      }

  pub asked_directories : AreAsked image image' v w command e'
  asked_directories = record {
    out = λ k at. absurd (no_element k at);
    paths = λ k at.
        subst (λ (p : Path). is_same_path (path_after command k.object.path) p ≡ true) (sym (its_path eg k.object)) (after_same from to o.path (new_path x.c) k.object.path wr.its.from_is wr.its.to_is);
    amended = all_steady;
    same = same_asks;
  }
