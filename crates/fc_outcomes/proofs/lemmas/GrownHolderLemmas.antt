-- Who holds a directory after an edit in which one grows, if paths move.
use Rattle.std.proofs.Common.{◌≡◌, ⊎_elim, ℕ, Bool, true, false, cond, List, [], refl, sym, ap, ap₂, ◌∙◌, Some}
use Rattle.std.specs.Prelude.{Contains, IsPermutation}
use Rattle.fc_names.specs.Names.{Path, is_same_path}
use Rattle.fc_model.specs.Tree.{holder}
use Rattle.fc_image.specs.Layout.{Layout}
use Rattle.fc_image.specs.Report.{holder_address}
use Rattle.fc_image.specs.Walk.{Listing, Object}
use Rattle.fc_image.specs.Objects.{objects_of}
use Rattle.fc_image.specs.Sound.{AreSound}
use Rattle.fc_image.proofs.PathsLemmas.{itself}
use Rattle.fc_tree.specs.Nodes.{number_of}
use Rattle.fc_tree.proofs.SoundLemmas.{root_or_child}
use Rattle.fc_tree.proofs.WalkedLemmas.{child_path, listed_directory, root, root_path}
use Rattle.fc_changes.proofs.BasicLemmas.{holder_pushed}
use Rattle.fc_changes.proofs.BeforeLemmas.{address_by}
use Rattle.fc_laws.specs.nodes.Edits.{Nodes}
use Rattle.fc_edits.specs.Edit.{AreEdited, leaving, listings_after, numbers}
use Rattle.fc_edits.specs.Growing.{EditGrowing, at_place, regrown, with_growth}
use Rattle.fc_edits.specs.NodesEdit.{NodesEdit}
use Rattle.fc_edits.proofs.lemmas.GrowingLemmas.{its_path, same_both}
use Rattle.fc_edits.proofs.lemmas.NumberLemmas as n_
use Rattle.fc_outcomes.specs.Growth.{holder_now}
use Rattle.fc_outcomes.proofs.lemmas.GrownSteadyLemmas.{nodes_with, same_through}
use Rattle.fc_outcomes.proofs.lemmas.SteadyLemmas.{out_or_stay, stay_found}

module _ (x : EditGrowing) (nodes' : Nodes) (ed : AreEdited x.nodes nodes' (with_growth x)) (layout' : Layout) (found : List Listing) (sound : AreSound layout' found)
    (order : IsPermutation (listings_after (with_growth x)) found)
    (addresses : (d : Listing) → Contains x.listings d → (x.edit.turn d.object).entry.address ≡ d.object.entry.address) where
  abbrev ne : NodesEdit
  ne = nodes_with x nodes' ed

  -- the address of a directory afterwards
  address_now : (d : Listing) → Contains x.listings d
      → (regrown x.edit x.growing d.object).entry.address ≡ cond (is_same_path x.growing.o.path d.object.path) x.growing.address d.object.entry.address
  address_now d at = by (is_same_path x.growing.o.path d.object.path) ∙ ap (cond (is_same_path x.growing.o.path d.object.path) x.growing.address) (addresses d at)
    where
      by : (b : Bool) → (cond b (at_place x.growing (x.edit.turn d.object)) (x.edit.turn d.object)).entry.address ≡ cond b x.growing.address (x.edit.turn d.object).entry.address
      by true = refl
      by false = refl

  -- The address of the directory that holds one is the new one of the grown directory, or stays, if that keeps its directory, wherever this is.
  pub moved_holder : (k : Listing) (n : ℕ) → Contains (n_.stay ne) k → number_of x.nodes k.object.path ≡ Some n → (Contains (numbers (leaving x.edit)) n → ⊥)
      → holder_address found (regrown x.edit x.growing k.object).path ≡ holder_now x.listings x.growing k.object.path
  moved_holder k n at number_is stays = ⊎_elim top below (root_or_child x.layout x.listings x.held.sound k.object k_in)
    where
      listed' : Contains x.listings k
      listed' = n_.stay_in ne k at

      k_in : Contains (objects_of x.listings) k.object
      k_in = (listed_directory x.layout x.listings x.held.sound k listed').0

      by : (d : Listing) → Contains x.listings d → Contains (n_.stay ne) d → is_same_path (holder k.object.path) d.object.path ≡ true
          → is_same_path (holder (x.edit.turn k.object).path) (x.edit.turn d.object).path ≡ true
          → holder_address found (regrown x.edit x.growing k.object).path ≡ holder_now x.listings x.growing k.object.path
      by d there in_stay same same' =
          let n = stay_found ne layout' found sound order d in_stay in
          address_by layout' found (regrown x.edit x.growing k.object).path n.0 sound n.1
          (ap (λ (o : Object). is_same_path (holder (regrown x.edit x.growing k.object).path) o.path) n.2
          ∙ ap₂ (λ (p q : Path). is_same_path (holder p) q) (its_path x k.object) (its_path x d.object) ∙ same')
          ∙ ap (λ (o : Object). o.entry.address) n.2 ∙ address_now d there
          ∙ ap₂ (λ (b : Bool) (a : ℕ). cond b x.growing.address a)
          (same_both x.growing.o.path d.object.path ∙ sym (same_through (holder k.object.path) d.object.path x.growing.o.path same))
          (sym (address_by x.layout x.listings k.object.path d x.held.sound there same))

      top : root x.layout x.listings x.held.sound ≡ k.object → holder_address found (regrown x.edit x.growing k.object).path ≡ holder_now x.listings x.growing k.object.path
      top is_top =
          let none : k.object.path ≡ [] = ap (λ (o : Object). o.path) (sym is_top) ∙ root_path x.layout x.listings x.held.sound in
          by k listed' at (ap (λ (p : Path). is_same_path (holder p) p) none) (ap (λ (p : Path). is_same_path (holder p) p) (x.is_edit.top_path k.object k_in none))

      below : (l : Listing) × Contains x.listings l × Contains l.children k.object
          → holder_address found (regrown x.edit x.growing k.object).path ≡ holder_now x.listings x.growing k.object.path
      below l =
          by l.0 l.1 (out_or_stay ne layout' found sound order k l.0 l.1 l.2)
          (ap (λ (p : Path). is_same_path p l.0.object.path)
          (ap holder (child_path x.layout x.listings x.held.sound l.0 k.object l.1 l.2) ∙ holder_pushed l.0.object.path k.object.entry.name) ∙ itself l.0.object.path)
          (ap (λ (p : Path). is_same_path p (x.edit.turn l.0.object).path)
          (ap holder (x.is_edit.paths l.0 k.object n l.1 l.2 number_is stays) ∙ holder_pushed (x.edit.turn l.0.object).path k.object.entry.name)
          ∙ itself (x.edit.turn l.0.object).path)
