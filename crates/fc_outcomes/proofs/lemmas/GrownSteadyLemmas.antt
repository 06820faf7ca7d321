-- Directories after an edit in which one grows: who holds them, and their entries.
use Rattle.std.proofs.Common.{◌≡◌, ⊎_elim, ℕ, Bool, true, false, cond, List, [], map, refl, sym, ap, ap₂, subst, ◌∙◌, Option, Some}
use Rattle.std.specs.Prelude.{Contains, IsPermutation}
use Rattle.std.specs.Option.{option_and_then}
use Rattle.fc_names.specs.Names.{Path, is_same_path}
use Rattle.fc_record.specs.declared.Kind.{Kind}
use Rattle.fc_model.specs.Command.{Command}
use Rattle.fc_model.specs.Tree.{holder}
use Rattle.fc_dirs.specs.declared.Entry.{Entry}
use Rattle.fc_dirs.specs.Directory.{entries_of}
use Rattle.fc_image.specs.Layout.{Layout}
use Rattle.fc_image.specs.Report.{holder_address}
use Rattle.fc_image.specs.Walk.{Listing, Object}
use Rattle.fc_image.specs.Objects.{object_at}
use Rattle.fc_image.specs.Opening.{Opened}
use Rattle.fc_image.specs.Sound.{AreSound}
use Rattle.fc_image.specs.effects.Short.{Growth, growth_in}
use Rattle.fc_image.specs.effects.Steady.{edited, entries_after, grown_object, named_entry, regrown_entry}
use Rattle.fc_image.proofs.PathsLemmas.{itself}
use Rattle.fc_tree.proofs.SoundLemmas.{children_stored, folds_alike, root_or_child}
use Rattle.fc_tree.proofs.WalkedLemmas.{child_path, listed_directory, root, root_path}
use Rattle.fc_changes.proofs.BasicLemmas.{holder_pushed}
use Rattle.fc_changes.proofs.BeforeLemmas.{address_by}
use Rattle.fc_changes.proofs.ReadsLemmas.{other_dir}
use Rattle.fc_laws.specs.nodes.Edits.{Nodes}
use Rattle.fc_edits.specs.Edit.{AreEdited, listings_after}
use Rattle.fc_edits.specs.Growing.{EditGrowing, at_place, regrown, with_growth}
use Rattle.fc_edits.specs.NodesEdit.{NodesEdit}
use Rattle.fc_edits.proofs.lemmas.AroundLemmas.{mapped_same}
use Rattle.fc_edits.proofs.lemmas.GrowingLawLemmas as law
use Rattle.fc_edits.proofs.lemmas.GrowingLemmas.{its_path, same_both}
use Rattle.fc_edits.proofs.lemmas.ListLemmas.{map_map}
use Rattle.fc_edits.proofs.lemmas.NumberLemmas as n_
use Rattle.fc_outcomes.specs.Growth.{holder_now}
use Rattle.fc_outcomes.proofs.lemmas.SteadyLemmas.{out_or_stay, stay_found}
use Rattle.fc_image.proofs.CommandLemmas.{same_by_folds}

-- paths that lead to one place are the same to any path
pub same_through : (p d q : Path) → is_same_path p d ≡ true → is_same_path p q ≡ is_same_path d q
same_through p d q same = by (is_same_path d q) refl
  where
    by : (b : Bool) → is_same_path d q ≡ b → is_same_path p q ≡ b
    by true h = same_by_folds p q (folds_alike p d same ∙ folds_alike d q h)
    by false h = other_dir p d q same h

-- the edit, with the nodes after it
abbrev pub nodes_with : (x : EditGrowing) (nodes' : Nodes) → AreEdited x.nodes nodes' (with_growth x) → NodesEdit
nodes_with x nodes' ed = record {
  nodes = x.nodes;
  nodes' = nodes';
  layout = x.layout;
  listings = x.listings;
  edit = with_growth x;
  held = x.held;
  is_edit = law.is_edit x;
  nodes_edited = ed;
}

-- ---- who holds a directory

module _ (x : EditGrowing) (nodes' : Nodes) (ed : AreEdited x.nodes nodes' (with_growth x)) (layout' : Layout) (found : List Listing) (sound : AreSound layout' found)
    (order : IsPermutation (listings_after (with_growth x)) found)
    (still : (d : Listing) → Contains x.listings d → ((x.edit.turn d.object).path ≡ d.object.path) × ((x.edit.turn d.object).entry.address ≡ d.object.entry.address)) where
  abbrev ne : NodesEdit
  ne = nodes_with x nodes' ed

  -- the address of a directory afterwards
  address_now : (d : Listing) → Contains x.listings d
      → (regrown x.edit x.growing d.object).entry.address ≡ cond (is_same_path x.growing.o.path d.object.path) x.growing.address d.object.entry.address
  address_now d at = by (is_same_path x.growing.o.path d.object.path) ∙ ap (cond (is_same_path x.growing.o.path d.object.path) x.growing.address) (still d at).1
    where
      by : (b : Bool) → (cond b (at_place x.growing (x.edit.turn d.object)) (x.edit.turn d.object)).entry.address ≡ cond b x.growing.address (x.edit.turn d.object).entry.address
      by true = refl
      by false = refl

  -- the address of the directory that holds one is the new one of the grown directory, or stays
  pub holder_is : (k : Listing) → Contains (n_.stay ne) k → holder_address found k.object.path ≡ holder_now x.listings x.growing k.object.path
  holder_is k at = ⊎_elim top below (root_or_child x.layout x.listings x.held.sound k.object (listed_directory x.layout x.listings x.held.sound k listed').0)
    where
      listed' : Contains x.listings k
      listed' = n_.stay_in ne k at

      by : (d : Listing) → Contains x.listings d → Contains (n_.stay ne) d → is_same_path (holder k.object.path) d.object.path ≡ true
          → holder_address found k.object.path ≡ holder_now x.listings x.growing k.object.path
      by d there stays same =
          let n = stay_found ne layout' found sound order d stays in
          let path : n.0.object.path ≡ d.object.path = ap (λ (o : Object). o.path) n.2 ∙ its_path x d.object ∙ (still d there).0 in
          address_by layout' found k.object.path n.0 sound n.1 (ap (is_same_path (holder k.object.path)) path ∙ same)
          ∙ ap (λ (o : Object). o.entry.address) n.2 ∙ address_now d there
          ∙ ap₂ (λ (b : Bool) (a : ℕ). cond b x.growing.address a)
          (same_both x.growing.o.path d.object.path ∙ sym (same_through (holder k.object.path) d.object.path x.growing.o.path same))
          (sym (address_by x.layout x.listings k.object.path d x.held.sound there same))

      top : root x.layout x.listings x.held.sound ≡ k.object → holder_address found k.object.path ≡ holder_now x.listings x.growing k.object.path
      top is_top =
          let none : k.object.path ≡ [] = ap (λ (o : Object). o.path) (sym is_top) ∙ root_path x.layout x.listings x.held.sound in
          by k listed' at (ap (λ (p : Path). is_same_path (holder p) p) none)

      below : (l : Listing) × Contains x.listings l × Contains l.children k.object → holder_address found k.object.path ≡ holder_now x.listings x.growing k.object.path
      below l =
          let path = child_path x.layout x.listings x.held.sound l.0 k.object l.1 l.2 in
          by l.0 l.1 (out_or_stay ne layout' found sound order k l.0 l.1 l.2)
          (ap (λ (p : Path). is_same_path p l.0.object.path) (ap holder path ∙ holder_pushed l.0.object.path k.object.entry.name) ∙ itself l.0.object.path)

-- ---- entries

module _ (x : EditGrowing) (kind : Kind) (layout' : Layout) (found : List Listing) (c : Command)
    (growth : growth_in (record { kind = kind; layout = x.layout; listings = x.listings }) c ≡ Some (x.growing.o, x.growing.len))
    (there : object_at found x.growing.o.path ≡ Some (at_place x.growing x.growing.o)) where
  abbrev v : Opened
  v = record { kind = kind; layout = x.layout; listings = x.listings }

  abbrev w : Opened
  w = record { kind = kind; layout = layout'; listings = found }

  abbrev anew : Object
  anew = at_place x.growing x.growing.o

  grown_is : grown_object v w c ≡ Some anew
  grown_is = ap (option_and_then (λ (growth : Growth). object_at found growth.0.path)) growth ∙ there

  pub after_is : (k : Listing) → entries_after v w c k ≡ edited c k.object.path (named_entry w c) (map (regrown_entry k.object.path (Some anew)) (entries_of k.content))
  after_is k = ap (λ (q : Option Object). edited c k.object.path (named_entry w c) (map (regrown_entry k.object.path q) (entries_of k.content))) grown_is

  -- a directory that doesn't hold the grown one has the entries that it had
  pub elsewhere : (k : Listing) → Contains x.listings k → ((p : Object) → Contains k.children p → is_same_path x.growing.o.path p.path ≡ false)
      → map (regrown_entry k.object.path (Some anew)) (entries_of k.content) ≡ entries_of k.content
  elsewhere k at other =
      let stored = children_stored x.layout x.listings x.held.sound k at in
      subst (λ (es : List Entry). map (regrown_entry k.object.path (Some anew)) es ≡ es) stored
      (map_map (regrown_entry k.object.path (Some anew)) (λ (p : Object). p.entry) k.children
      ∙ mapped_same (λ (p : Object). regrown_entry k.object.path (Some anew) p.entry) (λ (p : Object). p.entry) k.children
      (λ p kid.
      ap (λ (b : Bool). cond b (record p.entry { address = x.growing.address; len = x.growing.len }) p.entry)
      (ap (λ (r : Path). is_same_path r x.growing.o.path) (sym (child_path x.layout x.listings x.held.sound k p at kid)) ∙ same_both p.path x.growing.o.path ∙ other p kid)))

  pub after_elsewhere : (k : Listing) → Contains x.listings k → ((p : Object) → Contains k.children p → is_same_path x.growing.o.path p.path ≡ false)
      → entries_after v w c k ≡ edited c k.object.path (named_entry w c) (entries_of k.content)
  after_elsewhere k at other = after_is k ∙ ap (edited c k.object.path (named_entry w c)) (elsewhere k at other)
