-- What `rename` asks if it copies its file and a directory grows by it.
use Rattle.std.proofs.Common.{◌≡◌, ◌<◌, inl, inr, ⊎_elim, ℕ, ◌*◌, Bool, true, false, cond, ◌||◌, List, [], ◌∷◌, length, sym, ap, ap₂, subst, ◌∙◌, None, Option, Some}
use Rattle.std.specs.Prelude.{Contains, IfSome, IsPermutation, IsSomeAnd, nat_lt, ◌==◌}
use Rattle.std.specs.Option.{option_map_or}
use Rattle.fc_names.specs.Names.{Path, is_same_path}
use Rattle.fc_record.specs.declared.Geometry.{Geometry}
use Rattle.fc_newmap.specs.Map.{bits_in, hole_runs, id_runs, sector_of, with_root}
use Rattle.fc_model.specs.Command.{Command}
use Rattle.fc_model.specs.Tree.{holder}
use Rattle.fc_dirs.specs.declared.Entry.{Entry}
use Rattle.fc_dirs.specs.Directory.{directory_size, entries_of}
use Rattle.fc_image.specs.Layout.{Layout, dir_form, id_of}
use Rattle.fc_image.specs.Report.{holder_address}
use Rattle.fc_image.specs.Walk.{Listing, Object, is_directory_object, object_size}
use Rattle.fc_image.specs.Objects.{object_at, objects_of}
use Rattle.fc_image.specs.Opening.{Opened}
use Rattle.fc_image.specs.Sound.{AreSound}
use Rattle.fc_image.specs.effects.Effect.{copies_file}
use Rattle.fc_image.specs.effects.Placed.{NewObjectPlaced, StandsInNewSpace, file_low, holes_left, made_object, object_parts}
use Rattle.fc_image.specs.effects.Sharing.{units}
use Rattle.fc_image.specs.effects.Short.{Growth, is_copied, new_length, object_units}
use Rattle.fc_image.specs.effects.Steady.{DirectorySteady, EntrySteady, IsRewritten, NamedEntrySteady, NamedStays, edited, gets_parent, is_moved_by, named_entry, path_after, with_made, zone0_after}
use Rattle.fc_image.proofs.CommandLemmas.{command_law}
use Rattle.fc_image.proofs.LookupLemmas.{lookup_law}
use Rattle.fc_image.proofs.PathsLemmas.{itself}
use Rattle.fc_image.proofs.RenameLemmas.{last_pushed}
use Rattle.fc_tree.proofs.MemberLemmas.{contains_here, no_element}
use Rattle.fc_changes.proofs.BasicLemmas.{clash}
use Rattle.fc_changes.proofs.MadeLemmas.{file_low_small}
use Rattle.fc_laws.specs.agree.Agreed.{parts_with}
use Rattle.fc_edits.specs.Copying.{copied, new_path}
use Rattle.fc_edits.specs.Edit.{Amended, Edit, listings_after, now}
use Rattle.fc_edits.specs.Growing.{Growing, Told, at_place}
use Rattle.fc_edits.specs.GrownCopying.{NewGrownCopying, grown_edit}
use Rattle.fc_edits.specs.GrownPlaces.{GrownPlacing, NewGrowing}
use Rattle.fc_edits.specs.NewPlaces.{is_taken, untaken}
use Rattle.fc_edits.specs.NodesEdit.{NodesEdit}
use Rattle.fc_edits.specs.Placing.{takings_of}
use Rattle.fc_edits.proofs.lemmas.AroundLemmas as ar
use Rattle.fc_edits.proofs.lemmas.CopiesLemmas as c_
use Rattle.fc_edits.proofs.lemmas.GrowingLemmas as growing
use Rattle.fc_edits.proofs.lemmas.GrowingLemmas.{its_path}
use Rattle.fc_edits.proofs.lemmas.GrownCopyingLemmas as gc
use Rattle.fc_edits.proofs.lemmas.GrownHolderLemmas.{not_by_same}
use Rattle.fc_edits.proofs.lemmas.GrownMemberLemmas as members
use Rattle.fc_edits.proofs.lemmas.IdentifierLemmas.{taken_either}
use Rattle.fc_edits.proofs.lemmas.NewAgreeLemmas as na
use Rattle.fc_edits.proofs.lemmas.NewSpaceLemmas.{bits_same, stands_now}
use Rattle.fc_edits.proofs.lemmas.NumberLemmas as n_
use Rattle.fc_edits.proofs.lemmas.OwnedLemmas.{joins_found}
use Rattle.fc_outcomes.specs.Growth.{MapGrows, holder_now}
use Rattle.fc_outcomes.specs.GrownCopying.{NewGrownCopyingWritten, grown_view}
use Rattle.fc_outcomes.specs.NewImage as new
use Rattle.fc_outcomes.specs.NewImage.{IsBelowRoot, NewImageEdit, Outcome}
use Rattle.fc_outcomes.specs.Puts.{Put}
use Rattle.fc_outcomes.specs.Steady.{AreAsked, AsksNothing}
use Rattle.fc_outcomes.proofs.lemmas.AddedLemmas.{untaken_one}
use Rattle.fc_outcomes.proofs.lemmas.GrownCopiedLemmas as copy
use Rattle.fc_outcomes.proofs.lemmas.GrownCopyingMayLemmas as may
use Rattle.fc_outcomes.proofs.lemmas.GrownEntriesLemmas.{First, grown_entries}
use Rattle.fc_outcomes.proofs.lemmas.GrownImageLemmas as gi
use Rattle.fc_outcomes.proofs.lemmas.GrownNewSpaceLemmas as space_of
use Rattle.fc_outcomes.proofs.lemmas.GrownSpaceLemmas as space
use Rattle.fc_outcomes.proofs.lemmas.GrownSteadyLemmas.{after_elsewhere, holder_is}
use Rattle.fc_outcomes.proofs.lemmas.NewImageLemmas as new_image
use Rattle.fc_outcomes.proofs.lemmas.PutLemmas.{directory_bytes}
use Rattle.fc_outcomes.proofs.lemmas.RenamePathLemmas.{after_same, edited_by, kept_name, named_rename, other_of, turned_other}
use Rattle.fc_outcomes.proofs.lemmas.SteadyLemmas.{unnamed}
use Rattle.fc_outcomes.proofs.lemmas.WordLemmas.{same_length}
use Rattle.std.proofs.lemmas.Bool.{or_cases as either}
use Rattle.fc_image.proofs.EntriesLemmas.{later as contains_later}

module _ (x : NewGrownCopying) (from to : Path) (puts : List Put) (stored image image' : List ℕ) (wr : NewGrownCopyingWritten x from to puts stored image image') where
  abbrev command : Command
  command = Command.Rename from to

  abbrev v : Opened
  v = grown_view x

  abbrev y : Layout
  y = Layout.New x.m

  abbrev y' : Layout
  y' = Layout.New x.m'

  abbrev ng : NewGrowing
  ng = gc.as_growing x

  abbrev its : GrownPlacing
  its = gc.placing x

  abbrev g : Growing
  g = x.growing

  abbrev e' : Edit
  e' = grown_edit x.c x.growing

  abbrev o : Object
  o = copied x.c x.c.o

  abbrev ne0 : NodesEdit
  ne0 = growing.ne (copy.eg x)

  abbrev on_new : NewImageEdit
  on_new = copy.on_new x from to puts stored image image' wr

  -- ---- paths

  abbrev k_holds : is_same_path (holder from) x.c.k.object.path ≡ true
  k_holds = may.from_holds x from to wr.its

  abbrev l_holds : is_same_path (holder to) x.c.l.object.path ≡ true
  l_holds = may.to_holds x from to wr.its

  abbrev apart : is_same_path x.c.k.object.path x.c.l.object.path ≡ false
  apart = may.apart x from to wr.its

  rest_from : (k : Listing) → Contains x.c.rest k → is_same_path (holder from) k.object.path ≡ false
  rest_from k at = unnamed ne0 from x.c.k k x.c.home (c_.k_in x.nodes y x.listings x.c (copy.h x) x.copies) x.copies.home_is (contains_here x.c.home (x.c.dir ∷ [])) k_holds at

  rest_to : (k : Listing) → Contains x.c.rest k → is_same_path (holder to) k.object.path ≡ false
  rest_to k at =
      unnamed ne0 to x.c.l k x.c.dir (c_.l_in x.nodes y x.listings x.c (copy.h x) x.copies) x.copies.dir_is (contains_later x.c.home x.c.dir (x.c.dir ∷ []) (contains_here x.c.dir [])) l_holds at

  -- ---- space

  abbrev len : ℕ
  len = x.c.o.entry.len

  abbrev low : ℕ
  low = file_low x.m.geometry (bits_in x.parts * x.m.geometry.bit_bytes) x.c.o.entry.len

  small : low < 256
  small = file_low_small x.m.geometry (bits_in x.parts * x.m.geometry.bit_bytes) len

  low_again : file_low x.m'.geometry (bits_in (id_runs x.m' (id_of o.entry.address)) * x.m'.geometry.bit_bytes) o.entry.len ≡ low
  low_again =
      ap (λ (z : Geometry). file_low z (bits_in (id_runs x.m' (id_of o.entry.address)) * z.bit_bytes) o.entry.len) x.geometry
      ∙ ap₂ (λ (k n : ℕ). file_low x.m.geometry (bits_in (id_runs x.m' k) * x.m.geometry.bit_bytes) n) (space_of.its_id its len low small wr.its.place) (ap (λ (q : Object). q.entry.len) (c_.is_copy x.c))
      ∙ ap (λ (k : ℕ). file_low x.m.geometry (k * x.m.geometry.bit_bytes) len)
      (bits_same x.m x.m' len low x.id x.parts o x.agreed.is_map x.geometry small wr.its.place (space_of.runs_are its len low small wr.its.place))

  copy_file : is_directory_object o ≡ false
  copy_file = ap is_directory_object (c_.is_copy x.c) ∙ x.copies.file

  stands : StandsInNewSpace x.m x.m' len o
  stands =
      stands_now x.m x.m' len low x.id x.parts o x.agreed.is_map x.geometry small wr.its.place (space_of.runs_are its len low small wr.its.place)
      (ap (λ (b : Bool). cond b 0 (file_low x.m'.geometry (bits_in (id_runs x.m' (id_of o.entry.address)) * x.m'.geometry.bit_bytes) o.entry.len)) copy_file ∙ low_again)

  size_is : object_size (dir_form y') o.entry ≡ len
  size_is = ap (λ (q : Object). object_size (dir_form y') q.entry) (c_.is_copy x.c) ∙ ap (λ (b : Bool). cond b (directory_size (dir_form y') len) len) x.copies.file

  -- ---- what is found afterwards

  module _ (found : List Listing) (sound' : AreSound (Layout.New x.m') found) (order : IsPermutation (listings_after (grown_edit x.c x.growing)) found) where
    abbrev w : Opened
    w = record { kind = x.kind; layout = Layout.New x.m'; listings = found }

    o_found : Contains (objects_of found) o
    o_found = joins_found (na.held_edit (copy.parts x)) found sound' order (x.c.number, o) (copy.o_joins x)

    anew_found : Contains (objects_of found) (at_place x.growing x.growing.o)
    anew_found = let j = members.its_joins (copy.eg x) in joins_found (na.held_edit (copy.parts x)) found sound' order (j.0, at_place x.growing x.growing.o) j.1

    there : object_at found to ≡ Some o
    there = lookup_law.object y' found to o sound' o_found (ap (λ (q : Object). is_same_path to q.path) (c_.is_copy x.c) ∙ wr.its.to_is)

    anew_there : object_at found g.o.path ≡ Some (at_place x.growing x.growing.o)
    anew_there = lookup_law.object y' found g.o.path (at_place x.growing x.growing.o) sound' anew_found (itself g.o.path)

    was_there : object_at x.listings from ≡ Some x.c.o
    was_there = lookup_law.object y x.listings from x.c.o (copy.h x).sound (copy.among x) wr.its.from_is

    entry_is : named_entry w command ≡ Some o.entry
    entry_is = named_rename from to w o there

    its_length : new_length v command ≡ len
    its_length =
        ap (λ (q : Option Object). option_map_or (λ (p : Object). cond (is_copied v from to p) p.entry.len 0) q 0) was_there ∙ ap (λ (b : Bool). cond b x.c.o.entry.len 0) wr.its.shares

    copies : copies_file v command ≡ true
    copies = ap (λ (q : Option Object). option_map_or (is_copied v from to) q false) was_there ∙ wr.its.shares

    -- ---- directories that say something else

    still : (d : Listing) → Contains x.listings d → ((copied x.c d.object).path ≡ d.object.path) × ((copied x.c d.object).entry.address ≡ d.object.entry.address)
    still d at = (ap (λ (q : Object). q.path) (copy.dir_stays x d at), ap (λ (q : Object). q.entry.address) (copy.dir_stays x d at))

    path_now : (k : Listing) → Contains x.listings k → (e'.turn k.object).path ≡ k.object.path
    path_now k at = its_path (copy.eg x) k.object ∙ (still k at).0

    holder_of : (k : Listing) → Contains (n_.stay (copy.ne x)) k → holder_address found (e'.turn k.object).path ≡ holder_now x.listings g k.object.path
    holder_of k at =
        ap (holder_address found) (path_now k (n_.stay_in (copy.ne x) k at)) ∙ holder_is (copy.eg x) x.nodes' x.nodes_edited y' found sound' order still k at

    told_entries : (t : Told) → Contains g.again t → entries_of t.content ≡ edited command t.was.object.path (named_entry w command) (entries_of t.was.content)
    told_entries t at =
        let rest = ar.told_same (copy.eg x) g.holder x.grows.amended_is t at in
        (x.grows.told_is t at).entries
        ∙ sym (edited_by from to t.was.object.path (named_entry w command) (entries_of t.was.content) false false (rest_from t.was rest) (rest_to t.was rest))

    first_entries : (b : Amended) → First (copy.eg x) b → entries_of b.content ≡ edited command b.was.object.path (named_entry w command) (entries_of b.was.content)
    first_entries b (inl among) =
        c_.of_both x.c (λ (a : Amended). entries_of a.content ≡ edited command a.was.object.path (named_entry w command) (entries_of a.was.content))
        (wr.left
        ∙ sym (edited_by from to x.c.k.object.path (named_entry w command) (entries_of x.c.k.content) true false k_holds
        (other_of (holder to) x.c.l.object.path x.c.k.object.path l_holds (turned_other x.c.k.object.path x.c.l.object.path apart))))
        (wr.joined ∙ ap (λ (q : Option Entry). with_made q (entries_of x.c.l.content)) (sym entry_is)
        ∙ sym (edited_by from to x.c.l.object.path (named_entry w command) (entries_of x.c.l.content) false true (other_of (holder from) x.c.k.object.path x.c.l.object.path k_holds apart) l_holds))
        b among
    first_entries b (inr t) =
        subst (λ (a : Amended). entries_of a.content ≡ edited command a.was.object.path (named_entry w command) (entries_of a.was.content)) t.2 (told_entries t.0 t.1)

    to_grown : is_same_path (holder to) g.o.path ≡ true
    to_grown = ap (λ (p : Object). is_same_path (holder to) p.path) (sym wr.its.into_it) ∙ l_holds

    all_steady : (a : Amended) → Contains e'.amended a → DirectorySteady image image' v w command a.was (now e' a)
    all_steady a at = record {
      entries = grown_entries (copy.eg x) x.kind y' found from to wr.its.grows.growth anew_there to_grown first_entries a at;
      head = inr (record {
        may = may.may_rewrite x from to wr.its a at;
        says = subst (λ (n : ℕ). IsRewritten command a.was.object.path n a.was.content a.content) (sym (holder_of a.was (n_.was_in (copy.ne x) a at))) (wr.says a at);
        bytes = directory_bytes y y' puts image image' (e'.turn a.was.object) a.content (λ i. (x.geometry i).sector) wr.out (wr.written a at);
      });
    }

    same_asks : (k : Listing) → Contains g.same k → AsksNothing v w command e' k
    same_asks k at =
        let rest = ar.same_same (copy.eg x) g.holder x.grows.amended_is k at in
        let listed' = n_.stay_in (copy.ne x) k (n_.same_in (copy.ne x) k at) in
        let not_it = other_of from x.c.o.path k.object.path wr.its.from_is (copy.dir_other x k listed') in
        record {
          entries = sym (after_elsewhere (copy.eg x) x.kind y' found command wr.its.grows.growth anew_there k listed' (λ p kid. not_by_same (copy.eg x) k at p kid)
              ∙ edited_by from to k.object.path (named_entry w command) (entries_of k.content) false false (rest_from k rest) (rest_to k rest));
          parent = λ gets. absurd (clash (gets_parent v command k.object.path) gets (ap₂ (λ (a b : Bool). a || b) (turned_other from k.object.path not_it) (wr.its.grows.kept k at)));
          name = kept_name from to k.object.path not_it k.content;
        }

    asked_directories : AreAsked image image' v w command e'
    asked_directories = record {
      out = λ k at. absurd (no_element k at);
      paths = λ k at.
          (let listed' = n_.stay_in (copy.ne x) k at in
          subst (λ (p : Path). is_same_path (path_after command k.object.path) p ≡ true)
          (copy.its_path_stays x k listed' ∙ sym (path_now k listed')) (after_same from to x.c.o.path (new_path x.c) k.object.path wr.its.from_is wr.its.to_is));
      amended = all_steady;
      same = same_asks;
    }

    -- ---- the map

    no_share : object_parts x.m x.m' v command (made_object w command) ≡ cond (nat_lt 0 (units x.m.geometry len)) (id_runs x.m' (id_of o.entry.address)) []
    no_share =
        ap (λ (q : Option Object). object_parts x.m x.m' v command q) there ∙ ap (λ (n : ℕ). cond (nat_lt 0 (units x.m.geometry n)) (id_runs x.m' (id_of o.entry.address)) []) its_length

    first_left : holes_left (hole_runs x.m) (object_parts x.m x.m' v command (made_object w command)) ≡ untaken (hole_runs x.m) (takings_of x.id x.parts)
    first_left = ap (holes_left (hole_runs x.m)) no_share ∙ space_of.left_new its len low small wr.its.place ∙ sym (untaken_one (hole_runs x.m) x.id x.parts)

    taken_now : IfSome (made_object w command) (λ (p : Object). 0 < object_units x.m v command → is_taken (takings_of x.id x.parts) (id_of p.entry.address) ≡ true)
    taken_now =
        subst (λ (q : Option Object). IfSome q (λ (p : Object). 0 < object_units x.m v command → is_taken (takings_of x.id x.parts) (id_of p.entry.address) ≡ true)) (sym there)
        (λ some. space_of.taken_new its len low small wr.its.place)

    root_asked : (q : MapGrows x.m x.m' x.growing wr.r image') → new.IsRootAsked on_new command found (gi.root_left ng wr.r image' q)
    root_asked (inl b) = subst IsBelowRoot (sym wr.its.grows.growth) b.below
    root_asked (inr t) =
        let s = sector_of x.m 0 in
        ap (λ (q : Option Growth). zone0_after w q s) wr.its.grows.growth
        ∙ ap (λ (b : Bool). cond b (option_map_or (λ (p : Object). with_root s p.entry.address p.entry.len) (object_at found []) s) s) (ap (λ (r : Path). length r == 0) t.at_top)
        ∙ ap (λ (q : Option Object). option_map_or (λ (p : Object). with_root s p.entry.address p.entry.len) q s) (ap (object_at found) (sym t.at_top) ∙ anew_there)

    named : NamedStays v w command (copies_file v command)
    named = subst (λ (b : Bool). NamedStays v w command b) (sym copies) tt

    entry : NamedEntrySteady v w command
    entry =
        subst (λ (q : Option Object). IfSome q (EntrySteady (dir_form y) (is_moved_by command) (object_at x.listings from))) (sym there)
        (subst (λ (q : Option Object). EntrySteady (dir_form y) (is_moved_by command) q o) (sym was_there)
        (record {
          last = inl (ap (λ (q : Object). q.entry.last) (c_.is_copy x.c));
          len = λ dir. same_length (dir_form y) x.c.o.entry.len o.entry.len (ap (λ (q : Object). q.entry.len) (c_.is_copy x.c));
        }))

    asked : new.IsAsked on_new command found
    asked = record {
      root_keeps = root_asked wr.map;
      map = record {
        left = space.left_so ng command wr.its.grows.growth;
        fresh = λ k taken unused.
            ⊎_elim (λ first. space_of.high_new its len low small wr.its.place k first size_is found o_found)
            (λ own. space.own_fresh ng command wr.its.grows.growth k own unused found anew_found)
            (either (is_taken (takings_of x.id x.parts) k) (is_taken x.own k) (sym (taken_either (takings_of x.id x.parts) x.own k) ∙ taken));
        untaken_is = space.left_now ng command wr.its.grows.growth found anew_there first_left;
      };
      placed = record {
        object = subst (λ (n : ℕ). NewObjectPlaced x.m x.m' n None (made_object w command)) (sym its_length)
            (λ more. subst (λ (q : Option Object). IsSomeAnd q (StandsInNewSpace x.m x.m' len)) (sym there) stands);
        empty = λ none. absurd (cc);
        growth = space.growth_placed ng command wr.its.grows.growth found anew_there first_left taken_now;
      };
      directories = asked_directories;
      named = named;
      entry = entry;
      made = tt;
    }

  pub grown_copied : Outcome x.kind image image' (grown_view x) (Command.Rename from to) (parts_with x.m' x.nodes' x.owners')
  grown_copied =
      new_image.moves_by on_new command x.c.o.path (new_path x.c) (copy.moves x from to puts stored image image' wr) asked
      (λ found is_move.
      command_law.rename image image' y y' x.listings found from to x.c.o.path (new_path x.c) is_move wr.its.from_is wr.its.to_is (wr.its.name_is ∙ sym (last_pushed x.c.l.object.path x.c.name)))
