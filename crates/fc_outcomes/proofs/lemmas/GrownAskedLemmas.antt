-- What a command asks of the directories and of the map if a directory grows by a new object.
use Rattle.std.proofs.Common.{◌≡◌, ◌<◌, ◌≤◌, ◌⊎◌, inl, inr, ⊎_elim, ℕ, Bool, true, false, cond, List, [], ◌++◌, length, map, refl, sym, ap, ap₂, subst, ◌∙◌, Some, None, Option}
use Rattle.std.specs.Prelude.{Contains, IfSome, IsPermutation, is_some, nat_lt, ◌==◌, ◌||◌}
use Rattle.std.specs.Option.{option_map_or}
use Rattle.fc_names.specs.Names.{Path, is_same_path}
use Rattle.fc_newmap.specs.Map.{ZoneRun, hole_runs, id_runs, sector_of, with_root}
use Rattle.fc_model.specs.Command.{Command}
use Rattle.fc_model.specs.Tree.{holder}
use Rattle.fc_dirs.specs.declared.Entry.{Entry}
use Rattle.fc_dirs.specs.Directory.{Directory, entries_of}
use Rattle.fc_image.specs.Layout.{Layout, dir_form, id_of}
use Rattle.fc_image.specs.Report.{holder_address}
use Rattle.fc_image.specs.Walk.{Listing, Object, object_bytes}
use Rattle.fc_image.specs.Objects.{is_owned, object_at, objects_of}
use Rattle.fc_image.specs.Opening.{Opened}
use Rattle.fc_image.specs.Sound.{AreSound}
use Rattle.fc_image.specs.effects.Sharing.{units}
use Rattle.fc_image.specs.effects.Short.{Growth, new_length, object_units, slack_for}
use Rattle.fc_image.specs.effects.Placed.{HasAddress, NewObjectPlaced, holes_left, made_object, object_parts}
use Rattle.fc_image.specs.effects.Steady.{AreWritten, DirectorySteady, EntrySteady, HasName, IsRewritten, NamedEntrySteady, NewDirectory, edited, entries_after, gets_parent, has_grown, has_new_holder, holds_named, is_moved_by, is_renamed_by, may_be_rewritten, named_entry, regrown_entry, source_object, with_made, zone0_after}
use Rattle.fc_image.proofs.LookupLemmas.{lookup_law}
use Rattle.fc_image.proofs.PathsLemmas.{itself}
use Rattle.fc_tree.specs.Nodes.{number_of}
use Rattle.fc_tree.proofs.MemberLemmas.{contains_here, no_element}
use Rattle.fc_tree.proofs.SoundLemmas.{same_listing}
use Rattle.fc_tree.proofs.WalkedLemmas.{child_is_object, same_some}
use Rattle.fc_changes.proofs.BasicLemmas.{clash}
use Rattle.fc_changes.proofs.BeforeLemmas.{address_by}
use Rattle.fc_changes.proofs.DirectoriesLemmas.{IsPlain}
use Rattle.fc_changes.proofs.ReadsLemmas.{LiesIn}
use Rattle.fc_laws.specs.nodes.Laws.{IsHeld}
use Rattle.fc_laws.proofs.lemmas.nodes.OtherLemmas.{unlike}
use Rattle.fc_edits.specs.Addition.{amended, edit}
use Rattle.fc_edits.specs.Edit.{Amended, Edit, joining, listings_after, now}
use Rattle.fc_edits.specs.Growing.{EditGrowing, Growing, Holder, Holds, IsHeldBy, Told, amended_by, amended_first, at_place, holding, told}
use Rattle.fc_edits.specs.GrownAddition.{NewGrownAddition, grown_edit}
use Rattle.fc_edits.specs.GrownPlaces.{NewGrowing}
use Rattle.fc_edits.specs.NewPlaces.{is_taken, untaken}
use Rattle.fc_edits.specs.NodesEdit.{NodesEdit}
use Rattle.fc_edits.specs.PartsEdit.{NewPartsEdit}
use Rattle.fc_edits.specs.Placing.{takings_of}
use Rattle.fc_edits.proofs.lemmas.AdditionLemmas as memory
use Rattle.fc_edits.proofs.lemmas.AgreeLemmas as ag
use Rattle.fc_edits.proofs.lemmas.AroundLemmas as ar
use Rattle.fc_edits.proofs.lemmas.GrowingLawLemmas as law
use Rattle.fc_edits.proofs.lemmas.GrowingLemmas.{its_path, its_turn}
use Rattle.fc_edits.proofs.lemmas.GrownAdditionLemmas as ga
use Rattle.fc_edits.proofs.lemmas.GrownHolderLemmas.{not_by_other, not_by_same}
use Rattle.fc_edits.proofs.lemmas.GrownMemberLemmas as members
use Rattle.fc_edits.proofs.lemmas.GrownPlaceLemmas as place
use Rattle.fc_edits.proofs.lemmas.IdentifierLemmas.{taken_either}
use Rattle.fc_edits.proofs.lemmas.NewAgreeLemmas as na
use Rattle.fc_edits.proofs.lemmas.NumberLemmas as n_
use Rattle.fc_edits.proofs.lemmas.OwnedLemmas.{joins_found}
use Rattle.fc_edits.proofs.lemmas.ShapeLemmas.{not_own, only}
use Rattle.fc_outcomes.specs.GrownAddition.{NewGrownAdditionWritten}
use Rattle.fc_outcomes.specs.Growth.{MapGrows, holder_now}
use Rattle.fc_outcomes.specs.NewImage as new
use Rattle.fc_outcomes.specs.NewImage.{IsBelowRoot, NewImageEdit}
use Rattle.fc_outcomes.specs.Puts.{Put}
use Rattle.fc_outcomes.specs.Steady.{AreAsked}
use Rattle.fc_outcomes.proofs.lemmas.GrownSpaceLemmas as space
use Rattle.fc_outcomes.proofs.lemmas.GrownSteadyLemmas.{after_elsewhere, after_is, holder_is}
use Rattle.fc_outcomes.proofs.lemmas.AddedLemmas.{untaken_one}
use Rattle.fc_outcomes.proofs.lemmas.JoinedLemmas.{Makes}
use Rattle.fc_outcomes.proofs.lemmas.PutLemmas.{directory_bytes}
use Rattle.fc_outcomes.proofs.lemmas.SteadyLemmas.{now_in}
use Rattle.fc_outcomes.proofs.lemmas.GrownAddedLemmas as added
use Rattle.fc_outcomes.proofs.lemmas.GrownImageLemmas as gi
use Rattle.std.proofs.lemmas.Bool.{false_from_ne_true as unless, or_left, or_right as or_second, or_cases as either}
use Rattle.fc_image.proofs.EntriesLemmas.{later as contains_later, cases as contains_cases}

module _ (x : NewGrownAddition) (c : Command) (path : Path) (puts : List Put) (stored image image' : List ℕ) (wr : NewGrownAdditionWritten x c path puts stored image image') (n : ℕ)
    (names : Makes (record { kind = x.kind; layout = Layout.New x.m; listings = x.listings }) c path n None) (found : List Listing) (sound' : AreSound (Layout.New x.m') found)
    (order : IsPermutation (listings_after (grown_edit x.c x.growing)) found) where
  abbrev ng : NewGrowing
  ng = ga.as_growing x

  abbrev eg : EditGrowing
  eg = place.as_edit ng

  abbrev parts : NewPartsEdit
  parts = place.grown_parts ng

  abbrev e' : Edit
  e' = grown_edit x.c x.growing

  abbrev g : Growing
  g = x.growing

  abbrev o : Object
  o = x.c.o

  abbrev anew : Object
  anew = at_place x.growing x.growing.o

  abbrev h : IsHeld x.nodes (Layout.New x.m) x.listings
  h = place.held ng

  abbrev ne : NodesEdit
  ne = ag.ne (na.held_edit parts)

  abbrev v : Opened
  v = record { kind = x.kind; layout = Layout.New x.m; listings = x.listings }

  abbrev on_new : NewImageEdit
  on_new = added.on_new x c path puts stored image image' wr

  l_in : Contains x.listings x.c.l
  l_in = memory.comes_in x.nodes (Layout.New x.m) x.listings x.c h x.comes

  lies : LiesIn path x.c.l.object.path o.entry.name
  lies = added.lies x c path puts stored image image' wr

  with_it : entries_of x.c.content ≡ with_made (Some o.entry) (entries_of x.c.l.content)
  with_it = added.with_it x c path puts stored image image' wr

  o_joins : Contains (joining e') (x.c.number, o)
  o_joins = added.o_joins x c path puts stored image image' wr

  its_amended : Contains e'.amended (amended x.c)
  its_amended = added.its_amended x c path puts stored image image' wr

  abbrev w : Opened
  w = record { kind = x.kind; layout = Layout.New x.m'; listings = found }

  pub o_found : Contains (objects_of found) o
  o_found = joins_found (na.held_edit parts) found sound' order (x.c.number, o) o_joins

  pub anew_found : Contains (objects_of found) anew
  anew_found = let j = members.its_joins eg in joins_found (na.held_edit parts) found sound' order (j.0, anew) j.1

  pub o_there : object_at found path ≡ Some o
  o_there = lookup_law.object (Layout.New x.m') found path o sound' o_found wr.path_is

  pub anew_there : object_at found g.o.path ≡ Some anew
  anew_there = lookup_law.object (Layout.New x.m') found g.o.path anew sound' anew_found (itself g.o.path)

  pub made_is : made_object w c ≡ Some o
  made_is = names.makes w ∙ o_there

  -- what the command does to the entries of a directory
  edits_are : (k : Listing) (es : List Entry) → edited c k.object.path (named_entry w c) es ≡ cond (is_same_path (holder path) k.object.path) (with_made (Some o.entry) es) es
  edits_are k es =
      names.edits k.object.path (named_entry w c) es
      ∙ ap (λ (q : Option Entry). cond (is_same_path (holder path) k.object.path) (with_made q es) es) (names.entry w o o_there)

  -- no other directory is named
  unnamed_by : (k : Listing) → Contains x.listings k → (k.object.path ≡ x.c.l.object.path → ⊥) → is_same_path (holder path) k.object.path ≡ false
  unnamed_by k at other =
      unless (is_same_path (holder path) k.object.path)
      (λ same.
      let one : k ≡ x.c.l = same_listing (Layout.New x.m) x.listings h.sound (holder path) k x.c.l at l_in same lies.holds in
      other (ap (λ (l : Listing). l.object.path) one))

  was_in : (a : Amended) → Contains e'.amended a → Contains x.listings a.was
  was_in a at = n_.stay_in ne a.was (n_.was_in ne a at)

  still_there : (d : Listing) → Contains x.listings d → (d.object.path ≡ d.object.path) × (d.object.entry.address ≡ d.object.entry.address)
  still_there d at = (refl, refl)

  holder_of : (k : Listing) → Contains (n_.stay ne) k → holder_address found k.object.path ≡ holder_now x.listings g k.object.path
  holder_of k at = holder_is eg x.nodes' x.nodes_edited (Layout.New x.m') found sound' order still_there k at

  says_now : (a : Amended) → Contains e'.amended a → IsRewritten c a.was.object.path (holder_address found (now e' a).object.path) a.was.content a.content
  says_now a at =
      subst (λ (r : Path). IsRewritten c a.was.object.path (holder_address found r) a.was.content a.content) (sym (its_path eg a.was.object))
      (subst (λ (address : ℕ). IsRewritten c a.was.object.path address a.was.content a.content) (sym (holder_of a.was (n_.was_in ne a at))) (wr.says a at))

  bytes_of : (a : Amended) → Contains e'.amended a → AreWritten (object_bytes image' (Layout.New x.m') (now e' a).object) a.content
  bytes_of a at = directory_bytes (Layout.New x.m) (Layout.New x.m') puts image image' (e'.turn a.was.object) a.content (λ i. (x.geometry i).sector) wr.out (wr.written a at)

  steady_so : (a : Amended) → Contains e'.amended a → may_be_rewritten v c a.was.object.path ≡ true → entries_of a.content ≡ entries_after v w c a.was
      → DirectorySteady image image' v w c a.was (now e' a)
  steady_so a at may entries = record { entries = entries; head = inr (record { may = may; says = says_now a at; bytes = bytes_of a at }) }

  told_may : (t : Told) → Contains g.again t → may_be_rewritten v c t.was.object.path ≡ true
  told_may t at = by (has_grown v c t.was.object.path) refl (wr.grows.told t at)
    where
      named : Bool
      named = holds_named c t.was.object.path || is_renamed_by c t.was.object.path

      by : (b : Bool) → has_grown v c t.was.object.path ≡ b → (b || has_new_holder v c t.was.object.path) ≡ true → may_be_rewritten v c t.was.object.path ≡ true
      by true h f = or_left (named || has_grown v c t.was.object.path) (has_new_holder v c t.was.object.path) (or_second named (has_grown v c t.was.object.path) h)
      by false h f = or_second (named || has_grown v c t.was.object.path) (has_new_holder v c t.was.object.path) f

  -- the directories that are told something have other paths than the grown one
  told_other : (t : Told) → Contains g.again t → t.was.object.path ≡ x.c.l.object.path → ⊥
  told_other t at same =
      let k = ar.told_same eg g.holder x.grows.amended_is t at in
      n_.same_other (ar.ne eg g.holder x.grows.amended_is) t.was x.c.dir k (ap (number_of x.nodes) same ∙ x.comes.dir_is) (contains_here x.c.dir [])

  -- one that doesn't hold it
  told_steady : (t : Told) → Contains g.again t → Contains e'.amended (told (edit x.c) t) → ((p : Object) → Contains t.was.children p → is_same_path g.o.path p.path ≡ false)
      → DirectorySteady image image' v w c t.was (now e' (told (edit x.c) t))
  told_steady t at there other =
      let listed' = was_in (told (edit x.c) t) there in
      steady_so (told (edit x.c) t) there (told_may t at)
      ((x.grows.told_is t at).entries
      ∙ sym (after_elsewhere eg x.kind (Layout.New x.m') found c wr.grows.growth anew_there t.was listed' other
      ∙ edits_are t.was (entries_of t.was.content)
      ∙ ap (λ (b : Bool). cond b (with_made (Some o.entry) (entries_of t.was.content)) (entries_of t.was.content)) (unnamed_by t.was listed' (told_other t at))))

  -- the one that holds it
  holder_steady : (hd : Holder) → Holds g hd → Contains e'.amended (holding (edit x.c) g hd) → (t : Told) → Contains g.again t → told (edit x.c) t ≡ hd.amended
      → DirectorySteady image image' v w c hd.amended.was (now e' (holding (edit x.c) g hd))
  holder_steady hd hs there t at same =
      let k : Listing = hd.amended.was in
      let was : t.was ≡ k = ap (λ (b : Amended). b.was) same in
      let listed' = was_in (holding (edit x.c) g hd) there in
      let entries : entries_of hd.amended.content ≡ entries_of k.content =
      ap (λ (b : Amended). entries_of b.content) (sym same) ∙ (x.grows.told_is t at).entries ∙ ap (λ (l : Listing). entries_of l.content) was in
      let es : List Entry = map (regrown_entry k.object.path (Some anew)) (entries_of k.content) in
      steady_so (holding (edit x.c) g hd) there (subst (λ (l : Listing). may_be_rewritten v c l.object.path ≡ true) was (told_may t at))
      (hs.entries ∙ ap (map (regrown_entry k.object.path (Some anew))) entries
      ∙ sym (after_is eg x.kind (Layout.New x.m') found c wr.grows.growth anew_there k ∙ edits_are k es
      ∙ ap (λ (b : Bool). cond b (with_made (Some o.entry) es) es) (unnamed_by k listed' (subst (λ (l : Listing). l.object.path ≡ x.c.l.object.path → ⊥) was (told_other t at)))))

  -- and the grown one itself
  its_steady : Contains e'.amended (amended x.c) → DirectorySteady image image' v w c x.c.l (now e' (amended x.c))
  its_steady there =
      steady_so (amended x.c) there
      (or_left (holds_named c x.c.l.object.path || is_renamed_by c x.c.l.object.path || has_grown v c x.c.l.object.path) (has_new_holder v c x.c.l.object.path)
      (or_left (holds_named c x.c.l.object.path || is_renamed_by c x.c.l.object.path) (has_grown v c x.c.l.object.path)
      (or_left (holds_named c x.c.l.object.path) (is_renamed_by c x.c.l.object.path) (names.holds x.c.l.object.path ∙ lies.holds))))
      (with_it
      ∙ sym (after_elsewhere eg x.kind (Layout.New x.m') found c wr.grows.growth anew_there x.c.l l_in not_own_kid
      ∙ edits_are x.c.l (entries_of x.c.l.content)
      ∙ ap (λ (b : Bool). cond b (with_made (Some o.entry) (entries_of x.c.l.content)) (entries_of x.c.l.content)) lies.holds))
    where
      not_own_kid : (p : Object) → Contains x.c.l.children p → is_same_path g.o.path p.path ≡ false
      not_own_kid p kid =
          unlike x.nodes g.o.path p.path g.dir _ x.grows.dir_is (kid_number p kid).1
          (λ same.
          not_own x.nodes (Layout.New x.m) x.listings x.c.l p g.dir (kid_number p kid).0 h l_in kid (ap (λ (q : Object). number_of x.nodes q.path) (sym x.its) ∙ x.grows.dir_is) (kid_number p kid).1 same)
        where
          kid_number : (p : Object) → Contains x.c.l.children p → (n : ℕ) × (number_of x.nodes p.path ≡ Some n)
          kid_number p kid = let r = h.held.each p (child_is_object (Layout.New x.m) x.listings h.sound x.c.l p l_in kid) in (r.number, r.at_path)

  all_steady : (a : Amended) → Contains e'.amended a → DirectorySteady image image' v w c a.was (now e' a)
  all_steady a at = by g.holder x.grows.amended_is x.grows.held at (λ b there. there)
    where
      of_either : (q : Option Holder) → IsPermutation ((edit x.c).amended ++ map (told (edit x.c)) g.again) (amended_first q g.others) → (b : Amended) → Contains (amended_first q g.others) b
          → (amended x.c ≡ b) ⊎ ((t : Told) × Contains g.again t × (told (edit x.c) t ≡ b))
      of_either q cut b there = ⊎_elim (λ its. inl (only (amended x.c) b its)) (λ t. inr t) (ar.amended_cases eg q cut b there)

      other_steady : Contains g.others a → (amended x.c ≡ a) ⊎ ((t : Told) × Contains g.again t × (told (edit x.c) t ≡ a)) → DirectorySteady image image' v w c a.was (now e' a)
      other_steady there (inl its) =
          subst (λ (b : Amended). Contains e'.amended b → DirectorySteady image image' v w c b.was (now e' b)) its its_steady at
      other_steady there (inr t) =
          subst (λ (b : Amended). Contains e'.amended b → ((p : Object) → Contains b.was.children p → is_same_path g.o.path p.path ≡ false) → DirectorySteady image image' v w c b.was (now e' b)) t.2
          (λ in_it other. told_steady t.0 t.1 in_it other) at (λ p kid. not_by_other eg a there p kid)

      by : (q : Option Holder) → IsPermutation ((edit x.c).amended ++ map (told (edit x.c)) g.again) (amended_first q g.others) → IsHeldBy g q → Contains (amended_by (edit x.c) g q) a
          → ((b : Amended) → Contains (amended_by (edit x.c) g q) b → Contains e'.amended b) → DirectorySteady image image' v w c a.was (now e' a)
      by None cut at_top there within = other_steady there (of_either None cut a there)
      by (Some hd) cut hs there within =
          ⊎_elim
          (λ same.
          subst (λ (b : Amended). DirectorySteady image image' v w c b.was (now e' b)) same
          (⊎_elim (λ its. absurd (added.not_it x c path puts stored image image' wr hd hs its)) (λ t. holder_steady hd hs (within (holding (edit x.c) g hd) (contains_here (holding (edit x.c) g hd) g.others)) t.0 t.1 t.2)
          (of_either (Some hd) cut hd.amended (contains_here hd.amended g.others))))
          (λ later. other_steady later (of_either (Some hd) cut a (contains_later hd.amended a g.others later)))
          (contains_cases (holding (edit x.c) g hd) a g.others there)

  pub asked_directories : (IsPlain c) → AreAsked image image' v w c e'
  asked_directories plain = record {
    out = λ k at. absurd (no_element k at);
    paths = λ k at. ap (λ (r : Path). is_same_path r (e'.turn k.object).path) (plain.path k.object.path) ∙ ap (is_same_path k.object.path) (its_path eg k.object) ∙ itself k.object.path;
    amended = all_steady;
    same = λ k at.
        (let listed' = n_.stay_in ne k (n_.same_in ne k at) in
        let other : k.object.path ≡ x.c.l.object.path → ⊥ =
        λ same. law.same_other eg k x.c.dir at (ap (number_of x.nodes) same ∙ x.comes.dir_is)
        (same_some x.c.dir g.dir (sym x.comes.dir_is ∙ ap (λ (p : Object). number_of x.nodes p.path) (sym x.its) ∙ x.grows.dir_is)) in
        record {
          entries = sym (after_elsewhere eg x.kind (Layout.New x.m') found c wr.grows.growth anew_there k listed' (λ p kid. not_by_same eg k at p kid)
              ∙ edits_are k (entries_of k.content)
              ∙ ap (λ (b : Bool). cond b (with_made (Some o.entry) (entries_of k.content)) (entries_of k.content)) (unnamed_by k listed' other));
          parent = λ gets. absurd (clash (gets_parent v c k.object.path) gets (ap₂ (λ (a b : Bool). a || b) (plain.renamed k.object.path) (wr.grows.kept k at)));
          name = plain_name plain k.object.path k.content;
        });
  }
    where
      plain_name : IsPlain c → (p : Path) (content : Directory) → HasName c p content
      plain_name is p (Directory.Small dir) = is.small p dir.name
      plain_name is p (Directory.Big dir) = is.big p dir

  -- the directory that the path names has the new address
  pub its_holder : holder_address found path ≡ g.address
  its_holder =
      let there : Contains e'.amended (amended x.c) = its_amended in
      let l' = now e' (amended x.c) in
      address_by (Layout.New x.m') found path l' sound' (now_in e' found order (amended x.c) there) (ap (is_same_path (holder path)) (its_path eg x.c.l.object) ∙ lies.holds)
      ∙ ap (λ (p : Object). (e'.turn p).entry.address) (sym x.its) ∙ ap (λ (p : Object). p.entry.address) (its_turn eg)

  -- the entry of what comes
  pub entry_asked : NamedEntrySteady v w c
  entry_asked =
      subst (λ (q : Option Object). IfSome q (EntrySteady (dir_form v.layout) (is_moved_by c) (source_object v c))) (sym (names.names w ∙ o_there))
      (subst (λ (q : Option Object). EntrySteady (dir_form v.layout) (is_moved_by c) q o) (sym names.source) (record { last = inl wr.entry.2; len = λ directory. tt }))

  -- ---- the map

  module _ (left : holes_left (hole_runs x.m) (cond (nat_lt 0 (cond (is_some (slack_for v c)) 0 (units x.m.geometry n))) (id_runs x.m' (id_of o.entry.address)) []) ≡ holes_left (hole_runs x.m) x.parts)
      (high : (k : ℕ) → is_taken (takings_of x.id x.parts) k ≡ true → (3 ≤ k) × (is_owned (objects_of found) k ≡ true))
      (taken : 0 < cond (is_some (slack_for v c)) 0 (units x.m.geometry n) → is_taken (takings_of x.id x.parts) (id_of o.entry.address) ≡ true)
      (placed : NewObjectPlaced x.m x.m' n (slack_for v c) (Some o)) (empty : n ≡ 0 → o.entry.address ≡ 0) (made : NewDirectory image' w c) where
    abbrev slots : ℕ → List ZoneRun
    slots k = cond (nat_lt 0 (cond (is_some (slack_for v c)) 0 (units x.m.geometry k))) (id_runs x.m' (id_of o.entry.address)) []

    first_left : holes_left (hole_runs x.m) (object_parts x.m x.m' v c (made_object w c)) ≡ untaken (hole_runs x.m) (takings_of x.id x.parts)
    first_left =
        ap (λ (q : Option Object). holes_left (hole_runs x.m) (object_parts x.m x.m' v c q)) made_is
        ∙ ap (λ (k : ℕ). holes_left (hole_runs x.m) (slots k)) names.long ∙ left ∙ sym (untaken_one (hole_runs x.m) x.id x.parts)

    other : IfSome (made_object w c) (λ (p : Object). 0 < object_units x.m v c → is_taken (takings_of x.id x.parts) (id_of p.entry.address) ≡ true)
    other =
        subst (λ (q : Option Object). IfSome q (λ (p : Object). 0 < object_units x.m v c → is_taken (takings_of x.id x.parts) (id_of p.entry.address) ≡ true)) (sym made_is)
        (λ some. taken (subst (λ (k : ℕ). 0 < cond (is_some (slack_for v c)) 0 (units x.m.geometry k)) names.long some))

    root_asked : (q : MapGrows x.m x.m' x.growing wr.r image') → new.IsRootAsked on_new c found (gi.root_left ng wr.r image' q)
    root_asked (inl b) = subst IsBelowRoot (sym wr.grows.growth) b.below
    root_asked (inr t) =
        let s = sector_of x.m 0 in
        ap (λ (q : Option Growth). zone0_after w q s) wr.grows.growth
        ∙ ap (λ (b : Bool). cond b (option_map_or (λ (p : Object). with_root s p.entry.address p.entry.len) (object_at found []) s) s) (ap (λ (r : Path). length r == 0) t.at_top)
        ∙ ap (λ (q : Option Object). option_map_or (λ (p : Object). with_root s p.entry.address p.entry.len) q s) (ap (object_at found) (sym t.at_top) ∙ anew_there)

    pub asked : new.IsAsked (on_new) c found
    asked = record {
      root_keeps = root_asked wr.map;
      map = record {
        left = space.left_so ng c wr.grows.growth;
        fresh = λ k taken unused.
            ⊎_elim (λ first. high k first) (λ own. space.own_fresh ng c wr.grows.growth k own unused found anew_found)
            (either (is_taken (takings_of x.id x.parts) k) (is_taken x.own k) (sym (taken_either (takings_of x.id x.parts) x.own k) ∙ taken));
        untaken_is = space.left_now ng c wr.grows.growth found anew_there first_left;
      };
      placed = record {
        object = subst (λ (q : Option Object). NewObjectPlaced x.m x.m' (new_length v c) (slack_for v c) q) (sym made_is)
            (subst (λ (k : ℕ). NewObjectPlaced x.m x.m' k (slack_for v c) (Some o)) (sym names.long) placed);
        empty = λ none. subst (λ (q : Option Object). HasAddress q 0) (sym made_is) (empty (names.empty none));
        growth = space.growth_placed ng c wr.grows.growth found anew_there first_left other;
      };
      directories = asked_directories names.plain;
      named = names.stays w _;
      entry = entry_asked;
      made = made;
    }
