-- The entries that `rename` leaves in the directories that an object leaves and joins.
use Rattle.std.proofs.Common.{◌≡◌, ⊎_elim, Bool, true, false, List, [], ◌∷◌, ◌++◌, map, sym, ap, subst, ◌∙◌, Option, Some}
use Rattle.std.specs.Prelude.{IsPermutation, ◌≤◌}
use Rattle.fc_names.specs.Names.{Path, is_same_path}
use Rattle.fc_model.specs.Command.{Command}
use Rattle.fc_model.specs.Tree.{holder, last_name}
use Rattle.fc_dirs.specs.declared.Entry.{Entry}
use Rattle.fc_dirs.specs.Directory.{Directory, entries_of}
use Rattle.fc_image.specs.Walk.{Listing}
use Rattle.fc_image.specs.Opening.{Opened}
use Rattle.fc_image.specs.effects.Steady.{edited, with_made, without_name}
use Rattle.fc_image.proofs.PathsLemmas.{is_at, itself}
use Rattle.fc_tree.proofs.MemberLemmas.{contains_here, many_permuted}
use Rattle.fc_tree.proofs.WalkedLemmas.{child_path}
use Rattle.fc_changes.proofs.ReadsLemmas.{lies_in}
use Rattle.fc_laws.specs.nodes.Edits.{Nodes}
use Rattle.fc_laws.specs.nodes.Laws.{IsHeld}
use Rattle.fc_laws.proofs.lemmas.nodes.ListLemmas.{in_first}
use Rattle.fc_edits.specs.Edit.{Amended}
use Rattle.fc_edits.specs.Moving.{moved, new_path}
use Rattle.fc_edits.specs.Transfer.{Renaming, Transfer, from_it, renaming_of, to_it, transfer_of, within}
use Rattle.fc_edits.proofs.lemmas.ListLemmas.{two_apart}
use Rattle.fc_edits.proofs.lemmas.NumberLemmas.{few_listings}
use Rattle.fc_edits.proofs.lemmas.ShapeLemmas.{of_one}
use Rattle.fc_outcomes.specs.Moving.{HasEntries}
use Rattle.fc_outcomes.proofs.lemmas.RenamePathLemmas.{edited_by, other_of, turned_other}
use Rattle.std.proofs.lemmas.Bool.{false_from_ne_true as unless}
use Rattle.fc_image.proofs.EntriesLemmas.{cases as contains_cases}

-- ---- to another directory

module _ (v : Opened) (nodes : Nodes) (from to : Path) (c : Transfer) (h : IsHeld nodes v.layout v.listings)
    (found : IsPermutation v.listings (c.k ∷ (c.l ∷ (map (λ (d : Listing × Directory). d.0) c.own ++ c.rest)))) (k_holds : IsPermutation c.k.children (c.o ∷ c.kids))
    (from_is : is_same_path from c.o.path ≡ true) (to_is : is_same_path to (new_path (transfer_of c)) ≡ true) where
  abbrev others : List Listing
  others = map (λ (d : Listing × Directory). d.0) c.own ++ c.rest

  apart : is_same_path c.k.object.path c.l.object.path ≡ false
  apart = unless (is_same_path c.k.object.path c.l.object.path) (λ same.
      let t : Listing → Bool = λ (d : Listing). is_at c.k.object.path d.object in
      two_apart t (c.k ∷ []) (c.l ∷ others) c.k c.l
      (subst (λ n. n ≤ 1) (sym (many_permuted t v.listings (c.k ∷ (c.l ∷ others)) found)) (few_listings v.layout v.listings h.sound c.k.object.path)) (contains_here c.k []) (contains_here c.l others)
      (itself c.k.object.path) same)

  from_holds : is_same_path (holder from) c.k.object.path ≡ true
  from_holds =
      let k_in = in_first v.listings (c.k ∷ (c.l ∷ others)) found c.k (contains_here c.k (c.l ∷ others)) in
      let kid = in_first c.k.children (c.o ∷ c.kids) k_holds c.o (contains_here c.o c.kids) in
      (lies_in from c.k.object.path c.o.entry.name (ap (is_same_path from) (sym (child_path v.layout v.listings h.sound c.k c.o k_in kid)) ∙ from_is)).holds

  to_holds : is_same_path (holder to) c.l.object.path ≡ true
  to_holds = (lies_in to c.l.object.path c.name to_is).holds

  -- its new entry
  abbrev made : Option Entry
  made = Some (moved (transfer_of c) c.o).entry

  pub across : entries_of c.k_content ≡ without_name (last_name from) (entries_of c.k.content) → entries_of c.l_content ≡ with_made (Some (moved (transfer_of c) c.o).entry) (entries_of c.l.content)
      → HasEntries from to (transfer_of c)
  across left joined a at =
      ⊎_elim
      (λ same. subst (λ (b : Amended). entries_of b.content ≡ edited (Command.Rename from to) b.was.object.path made (entries_of b.was.content)) same
      (left ∙ sym (edited_by from to c.k.object.path made (entries_of c.k.content) true false from_holds (other_of (holder to) c.l.object.path c.k.object.path to_holds (turned_other c.k.object.path c.l.object.path apart)))))
      (λ later. of_one (λ (b : Amended). entries_of b.content ≡ edited (Command.Rename from to) b.was.object.path made (entries_of b.was.content)) (to_it c)
      (joined ∙ sym (edited_by from to c.l.object.path made (entries_of c.l.content) false true (other_of (holder from) c.k.object.path c.l.object.path from_holds apart) to_holds)) a later)
      (contains_cases (from_it c) a (to_it c ∷ []) at)

-- ---- within one

pub within_one : (v : Opened) (nodes : Nodes) (from to : Path) (c : Renaming) → IsHeld nodes v.layout v.listings
    → IsPermutation v.listings (c.l ∷ (map (λ (d : Listing × Directory). d.0) c.own ++ c.rest)) → IsPermutation c.l.children (c.o ∷ c.kids) → is_same_path from c.o.path ≡ true
    → is_same_path to (new_path (renaming_of c)) ≡ true
    → entries_of c.content ≡ with_made (Some (moved (renaming_of c) c.o).entry) (without_name (last_name from) (entries_of c.l.content)) → HasEntries from to (renaming_of c)
within_one v nodes from to c h found holds from_is to_is entries =
    let others : List Listing = map (λ (d : Listing × Directory). d.0) c.own ++ c.rest in
    let l_in = in_first v.listings (c.l ∷ others) found c.l (contains_here c.l others) in
    let kid = in_first c.l.children (c.o ∷ c.kids) holds c.o (contains_here c.o c.kids) in
    let from_holds = (lies_in from c.l.object.path c.o.entry.name (ap (is_same_path from) (sym (child_path v.layout v.listings h.sound c.l c.o l_in kid)) ∙ from_is)).holds in
    let to_holds = (lies_in to c.l.object.path c.name to_is).holds in
    of_one (λ (b : Amended). entries_of b.content ≡ edited (Command.Rename from to) b.was.object.path (Some (moved (renaming_of c) c.o).entry) (entries_of b.was.content)) (within c)
    (entries ∙ sym (edited_by from to c.l.object.path (Some (moved (renaming_of c) c.o).entry) (entries_of c.l.content) true true from_holds to_holds))
