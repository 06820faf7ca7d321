-- What the directory of an object that comes says of it.
use Rattle.std.proofs.Common.{◌≡◌, inl, Bool, true, false, cond, List, [], ◌∷◌, ◌++◌, map, refl, sym, ap, subst, ◌∙◌, Some, None, Option}
use Rattle.std.specs.Prelude.{Contains, is_some, slice_get}
use Rattle.std.specs.Option.{option_map}
use Rattle.std.proofs.lemmas.Bool.{false_from_ne_true as unless}
use Rattle.std.proofs.lemmas.Option.{slice_get-map}
use Rattle.fc_names.specs.Names.{Path, is_same_name, is_same_path}
use Rattle.fc_dirs.specs.declared.Entry.{Entry}
use Rattle.fc_dirs.specs.Directory.{entries_of}
use Rattle.fc_dirs.specs.Entries.{entry_named, has_name, with_entry}
use Rattle.fc_image.specs.Layout.{Layout, dir_form}
use Rattle.fc_image.specs.Walk.{Listing, Object, is_directory_object}
use Rattle.fc_image.specs.Objects.{object_at}
use Rattle.fc_image.specs.effects.Steady.{EntrySteady, replaced_entry, with_made}
use Rattle.fc_image.proofs.LookupLemmas.{lookup_law}
use Rattle.fc_tree.proofs.MemberLemmas.{from_map}
use Rattle.fc_tree.proofs.SoundLemmas.{children_stored}
use Rattle.fc_tree.proofs.WalkedLemmas.{child_is_object, child_path}
use Rattle.fc_changes.proofs.BasicLemmas.{clash}
use Rattle.fc_changes.proofs.PlacedLemmas.{found_in}
use Rattle.fc_changes.proofs.ReadsLemmas.{changed_entry, same_path_of}
use Rattle.fc_laws.specs.nodes.Edits.{Nodes}
use Rattle.fc_laws.specs.nodes.Laws.{IsHeld}
use Rattle.fc_edits.specs.Addition.{Addition, GetsNode, IsAddition, over_it}
use Rattle.fc_edits.proofs.lemmas.AdditionLemmas as memory
use Rattle.fc_outcomes.specs.Addition.{HasEntry}

module _ (nodes : Nodes) (layout : Layout) (listings : List Listing) (a : Addition) (h : IsHeld nodes layout listings) (d : IsAddition nodes layout listings a) (path : Path)
    (at_path : is_same_path path a.o.path ≡ true) (stood : object_at listings path ≡ over_it a) (entry : HasEntry (over_it a) path a) where
  l_in : Contains listings a.l
  l_in = memory.l_in nodes layout listings a h d

  -- no entry had the name, if nothing stood there
  new_name : object_at listings path ≡ None → has_name (entries_of a.l.content) a.o.entry.name ≡ false
  new_name free =
      unless (has_name (entries_of a.l.content) a.o.entry.name)
      (λ there.
      let e = some_entry (entry_named (entries_of a.l.content) a.o.entry.name) there in
      let f = found_in (λ (x : Entry). is_same_name a.o.entry.name x.name) (entries_of a.l.content) e.0 e.1 in
      let kid = from_map (λ (p : Object). p.entry) a.l.children e.0 (subst (λ (es : List Entry). Contains es e.0) (sym (children_stored layout listings h.sound a.l l_in)) f.0) in
      let same = same_path_of path a.l.object.path a.o.entry.name e.0.name kid.0.path (ap (is_same_path path) (sym d.path) ∙ at_path) f.1
      (child_path layout listings h.sound a.l kid.0 l_in kid.1 ∙ ap (λ (x : Entry). a.l.object.path ++ x.name ∷ []) kid.2) in
      none_some kid.0 (sym free ∙ lookup_law.object layout listings path kid.0 h.sound (child_is_object layout listings h.sound a.l kid.0 l_in kid.1) same))
    where
      none_some : (x : Object) → (let q : Option Object = None in q) ≡ Some x → ⊥
      none_some x e = cc

      some_entry : (q : Option Entry) → is_some q ≡ true → (x : Entry) × (q ≡ Some x)
      some_entry None g = absurd (cc)
      some_entry (Some x) g = (x, refl)

  -- the directory's entries with it
  pub entries_now : entries_of a.content ≡ with_made (Some a.o.entry) (entries_of a.l.content)
  entries_now = by (over_it a) stood entry
    where
      by : (q : Option Object) → object_at listings path ≡ q → HasEntry q path a → entries_of a.content ≡ with_made (Some a.o.entry) (entries_of a.l.content)
      by None free made = made.0 ∙ sym (ap (λ (b : Bool). cond b (map (replaced_entry a.o.entry) (entries_of a.l.content)) (with_entry a.o.entry (entries_of a.l.content))) (new_name free))
      by (Some p) was made =
          made.2
          ∙ changed_entry (entries_of a.l.content) made.0 p.entry a.o.entry (h.sound.apart a.l l_in)
          (ap (λ (es : List Entry). slice_get es made.0) (sym (children_stored layout listings h.sound a.l l_in)) ∙ slice_get-map (λ (x : Object). x.entry) a.l.children made.0
          ∙ ap (option_map (λ (x : Object). x.entry)) made.1) made.3

  pub entry_steady : (moved : Bool) → EntrySteady (dir_form layout) moved (over_it a) a.o
  entry_steady moved = by a.over d.node entry
    where
      by : (os : List Object) → GetsNode nodes a.number os a.o → HasEntry (over_it (record a { over = os })) path a → EntrySteady (dir_form layout) moved (over_it (record a { over = os })) a.o
      by [] gets made = record { last = inl made.2; len = λ directory. tt }
      by (p ∷ []) gets made = record { last = inl made.5; len = λ directory. absurd (clash (is_directory_object a.o) directory gets.file) }
      by (p ∷ q ∷ os) gets made = absurd gets
