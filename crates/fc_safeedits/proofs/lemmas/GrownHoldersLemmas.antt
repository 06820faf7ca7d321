-- Directories after an edit in which one grows and identifiers move: who holds them, and their entries.
use Rattle.std.proofs.Common.{◌≡◌, ⊎_elim, ℕ, Bool, true, false, cond, List, [], ◌∷◌, ◌++◌, map, refl, sym, ap, ap₂, subst, ◌∙◌, Option, Some}
use Rattle.std.specs.Prelude.{Contains, IsPermutation}
use Rattle.std.specs.Option.{option_and_then}
use Rattle.fc_names.specs.Names.{Path, is_same_path}
use Rattle.fc_record.specs.declared.Kind.{Kind}
use Rattle.fc_model.specs.Command.{Command}
use Rattle.fc_model.specs.Tree.{holder}
use Rattle.fc_dirs.specs.declared.Entry.{Entry}
use Rattle.fc_dirs.specs.Directory.{entries_of}
use Rattle.fc_image.specs.Layout.{Layout}
use Rattle.fc_image.specs.Report.{holder_address}
use Rattle.fc_image.specs.Walk.{Listing, Object}
use Rattle.fc_image.specs.Objects.{object_at, objects_of}
use Rattle.fc_image.specs.Opening.{Opened}
use Rattle.fc_image.specs.Sound.{AreSound}
use Rattle.fc_image.specs.effects.Short.{Growth, growth_in}
use Rattle.fc_image.specs.effects.Steady.{edited, entries_after, grown_object, named_entry, regrown_entry}
use Rattle.fc_image.proofs.LookupLemmas.{lookup_law}
use Rattle.fc_image.proofs.PathsLemmas.{itself}
use Rattle.fc_tree.specs.Nodes.{number_of}
use Rattle.fc_tree.proofs.SoundLemmas.{children_stored, root_or_child}
use Rattle.fc_tree.proofs.WalkedLemmas.{child_path, listed_directory, root, root_path}
use Rattle.fc_changes.proofs.BasicLemmas.{holder_pushed}
use Rattle.fc_changes.proofs.BeforeLemmas.{address_by}
use Rattle.fc_laws.specs.nodes.Laws.{IsHeld}
use Rattle.fc_edits.specs.Edit.{leaving, listings_after, numbers}
use Rattle.fc_edits.specs.Growing.{EditGrowing, Growing, at_place}
use Rattle.fc_edits.specs.NodesEdit.{NodesEdit}
use Rattle.fc_edits.proofs.lemmas.AroundLemmas.{mapped_same}
use Rattle.fc_edits.proofs.lemmas.GrowingLemmas.{its_path, same_both}
use Rattle.fc_edits.proofs.lemmas.GrownMemberLemmas as members
use Rattle.fc_edits.proofs.lemmas.ListLemmas.{map_map}
use Rattle.fc_edits.proofs.lemmas.NewAgreeLemmas as na
use Rattle.fc_edits.proofs.lemmas.NumberLemmas as n_
use Rattle.fc_edits.proofs.lemmas.OwnedLemmas.{joins_found}
use Rattle.fc_outcomes.specs.Growth.{holder_now}
use Rattle.fc_outcomes.proofs.lemmas.GrownSteadyLemmas.{same_through}
use Rattle.fc_outcomes.proofs.lemmas.SteadyLemmas.{out_or_stay, stay_found}
use Rattle.fc_safeedits.specs.Relocation.{Relocation, laid_at, laid_in, relocated, turned_in}
use Rattle.fc_safeedits.specs.SafeChange.{MovedParts, moves_in}
use Rattle.fc_safeedits.proofs.lemmas.AlongLemmas.{ne'}
use Rattle.fc_safeedits.proofs.lemmas.LaidLemmas.{laid_entry, laid_path}
use Rattle.fc_safeedits.proofs.lemmas.RelocatedLemmas.{turned_entry, turned_path}
use Rattle.fc_safeedits.proofs.lemmas.RelocatedNodesLemmas.{joining_more}
use Rattle.fc_safeedits.proofs.lemmas.SafePartsLemmas.{parts}
use Rattle.fc_safeedits.proofs.lemmas.GrowingPlacesLemmas as p_
use Rattle.fc_safeedits.proofs.lemmas.GrowingPlacesLemmas.{SafeGrowing}

-- ---- the grown directory afterwards

module _ (x : MovedParts) (q : SafeGrowing x) (found : List Listing) (sound : AreSound (Layout.New x.m') found) (order : IsPermutation (listings_after (relocated (p_.move x q))) found) where
  abbrev pub grown : Object
  grown = laid_in (p_.move x q) (p_.anew x q)

  pub grown_path : grown.path ≡ q.growing.o.path
  grown_path = laid_path x.m' (moves_in x) (p_.anew x q)

  pub grown_entry : grown.entry ≡ (at_place q.growing q.growing.o).entry
  grown_entry = laid_entry x.m' (moves_in x) (p_.anew x q)

  pub grown_there : object_at found q.growing.o.path ≡ Some grown
  grown_there =
      let j = members.its_joins (p_.eg x q) in
      lookup_law.object (Layout.New x.m') found q.growing.o.path grown sound
      (joins_found (na.held_edit (parts (p_.parts x q))) found sound order (laid_at (p_.move x q) (j.0, p_.anew x q)) (joining_more (p_.move x q) (j.0, p_.anew x q) j.1))
      (ap (is_same_path q.growing.o.path) grown_path ∙ itself q.growing.o.path)

-- ---- who holds a directory

-- Directories keep their addresses but for the one that grows.
module _ (x : MovedParts) (q : SafeGrowing x) (found : List Listing) (sound : AreSound (Layout.New x.m') found) (order : IsPermutation (listings_after (relocated (p_.move x q))) found)
    (addresses : (d : Listing) → Contains x.listings d → (q.edit.turn d.object).entry.address ≡ d.object.entry.address) where
  abbrev g : Growing
  g = q.growing

  abbrev y : Layout
  y = Layout.New x.m

  abbrev y' : Layout
  y' = Layout.New x.m'

  abbrev move : Relocation
  move = p_.move x q

  abbrev h : IsHeld x.nodes y x.listings
  h = p_.h x q

  abbrev ne : NodesEdit
  ne = ne' move

  now_path : (o : Object) → (turned_in move o).path ≡ (q.edit.turn o).path
  now_path o = turned_path move o ∙ its_path (p_.eg x q) o

  -- the address of a directory afterwards
  address_now : (d : Listing) → Contains x.listings d → (turned_in move d.object).entry.address ≡ cond (is_same_path g.o.path d.object.path) g.address d.object.entry.address
  address_now d at =
      ap (λ (z : Entry). z.address) (turned_entry move d.object) ∙ by (is_same_path g.o.path d.object.path)
      ∙ ap (cond (is_same_path g.o.path d.object.path) g.address) (addresses d at)
    where
      by : (b : Bool) → (cond b (at_place g (q.edit.turn d.object)) (q.edit.turn d.object)).entry.address ≡ cond b g.address (q.edit.turn d.object).entry.address
      by true = refl
      by false = refl

  -- The address of the directory that holds one is the new one of the grown directory, or stays, if that keeps its directory, wherever this is.
  pub moved_holder : (k : Listing) (n : ℕ) → Contains (n_.stay ne) k → number_of x.nodes k.object.path ≡ Some n → (Contains (numbers (leaving q.edit)) n → ⊥)
      → holder_address found (turned_in move k.object).path ≡ holder_now x.listings g k.object.path
  moved_holder k n at number_is stays = ⊎_elim top below (root_or_child y x.listings h.sound k.object k_in)
    where
      listed' : Contains x.listings k
      listed' = n_.stay_in ne k at

      k_in : Contains (objects_of x.listings) k.object
      k_in = (listed_directory y x.listings h.sound k listed').0

      by : (d : Listing) → Contains x.listings d → Contains (n_.stay ne) d → is_same_path (holder k.object.path) d.object.path ≡ true
          → is_same_path (holder (q.edit.turn k.object).path) (q.edit.turn d.object).path ≡ true
          → holder_address found (turned_in move k.object).path ≡ holder_now x.listings g k.object.path
      by d there in_stay same same' =
          let f = stay_found ne y' found sound order d in_stay in
          address_by y' found (turned_in move k.object).path f.0 sound f.1
          (ap (λ (o : Object). is_same_path (holder (turned_in move k.object).path) o.path) f.2
          ∙ ap₂ (λ (p r : Path). is_same_path (holder p) r) (now_path k.object) (now_path d.object) ∙ same')
          ∙ ap (λ (o : Object). o.entry.address) f.2 ∙ address_now d there
          ∙ ap₂ (λ (b : Bool) (a : ℕ). cond b g.address a) (same_both g.o.path d.object.path ∙ sym (same_through (holder k.object.path) d.object.path g.o.path same))
          (sym (address_by y x.listings k.object.path d h.sound there same))

      top : root y x.listings h.sound ≡ k.object → holder_address found (turned_in move k.object).path ≡ holder_now x.listings g k.object.path
      top is_top =
          let none : k.object.path ≡ [] = ap (λ (o : Object). o.path) (sym is_top) ∙ root_path y x.listings h.sound in
          by k listed' at (ap (λ (p : Path). is_same_path (holder p) p) none) (ap (λ (p : Path). is_same_path (holder p) p) (q.is_edit.top_path k.object k_in none))

      below : (l : Listing) × Contains x.listings l × Contains l.children k.object → holder_address found (turned_in move k.object).path ≡ holder_now x.listings g k.object.path
      below l =
          by l.0 l.1 (out_or_stay ne y' found sound order k l.0 l.1 l.2)
          (ap (λ (p : Path). is_same_path p l.0.object.path) (ap holder (child_path y x.listings h.sound l.0 k.object l.1 l.2) ∙ holder_pushed l.0.object.path k.object.entry.name) ∙ itself l.0.object.path)
          (ap (λ (p : Path). is_same_path p (q.edit.turn l.0.object).path)
          (ap holder (q.is_edit.paths l.0 k.object n l.1 l.2 number_is stays) ∙ holder_pushed (q.edit.turn l.0.object).path k.object.entry.name) ∙ itself (q.edit.turn l.0.object).path)

-- ---- entries

-- the grown directory is `now`, with its new entry
module _ (x : EditGrowing) (kind : Kind) (layout' : Layout) (found : List Listing) (c : Command)
    (growth : growth_in (record { kind = kind; layout = x.layout; listings = x.listings }) c ≡ Some (x.growing.o, x.growing.len)) (now : Object)
    (there : object_at found x.growing.o.path ≡ Some now) (path : now.path ≡ x.growing.o.path) (entry : now.entry ≡ (at_place x.growing x.growing.o).entry) where
  abbrev v : Opened
  v = record { kind = kind; layout = x.layout; listings = x.listings }

  abbrev w : Opened
  w = record { kind = kind; layout = layout'; listings = found }

  abbrev anew : Object
  anew = at_place x.growing x.growing.o

  grown_is : grown_object v w c ≡ Some now
  grown_is = ap (option_and_then (λ (growth : Growth). object_at found growth.0.path)) growth ∙ there

  -- its path and its entry alone count
  regrown_same : (dir : Path) (es : List Entry) → map (regrown_entry dir (Some now)) es ≡ map (regrown_entry dir (Some anew)) es
  regrown_same dir es =
      ap₂ (λ (p : Path) (z : Entry). map (λ (e : Entry). cond (is_same_path (dir ++ e.name ∷ []) p) (let r : Entry = record e { address = z.address; len = z.len } in r) e) es) path entry

  pub after_is : (k : Listing) → entries_after v w c k ≡ edited c k.object.path (named_entry w c) (map (regrown_entry k.object.path (Some anew)) (entries_of k.content))
  after_is k =
      ap (λ (q : Option Object). edited c k.object.path (named_entry w c) (map (regrown_entry k.object.path q) (entries_of k.content))) grown_is
      ∙ ap (edited c k.object.path (named_entry w c)) (regrown_same k.object.path (entries_of k.content))

  -- a directory that doesn't hold the grown one has the entries that it had
  elsewhere : (k : Listing) → Contains x.listings k → ((p : Object) → Contains k.children p → is_same_path x.growing.o.path p.path ≡ false)
      → map (regrown_entry k.object.path (Some anew)) (entries_of k.content) ≡ entries_of k.content
  elsewhere k at other =
      let stored = children_stored x.layout x.listings x.held.sound k at in
      subst (λ (es : List Entry). map (regrown_entry k.object.path (Some anew)) es ≡ es) stored
      (map_map (regrown_entry k.object.path (Some anew)) (λ (p : Object). p.entry) k.children
      ∙ mapped_same (λ (p : Object). regrown_entry k.object.path (Some anew) p.entry) (λ (p : Object). p.entry) k.children
      (λ p kid.
      ap (λ (b : Bool). cond b (record p.entry { address = x.growing.address; len = x.growing.len }) p.entry)
      (ap (λ (r : Path). is_same_path r x.growing.o.path) (sym (child_path x.layout x.listings x.held.sound k p at kid)) ∙ same_both p.path x.growing.o.path ∙ other p kid)))

  pub after_elsewhere : (k : Listing) → Contains x.listings k → ((p : Object) → Contains k.children p → is_same_path x.growing.o.path p.path ≡ false)
      → entries_after v w c k ≡ edited c k.object.path (named_entry w c) (entries_of k.content)
  after_elsewhere k at other = after_is k ∙ ap (edited c k.object.path (named_entry w c)) (elsewhere k at other)
