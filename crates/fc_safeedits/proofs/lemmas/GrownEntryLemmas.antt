-- The directory that grows, with the entry of the object that comes to it.
use Rattle.std.proofs.Common.{◌≡◌, Bool, true, false, cond, List, [], ◌∷◌, ◌++◌, map, refl, sym, ap, subst, ◌∙◌, Option, None, Some}
use Rattle.std.specs.Prelude.{Contains, is_some}
use Rattle.std.proofs.lemmas.Bool.{false_from_ne_true as unless}
use Rattle.fc_names.specs.Names.{is_same_name, is_same_path}
use Rattle.fc_dirs.specs.declared.Entry.{Entry}
use Rattle.fc_dirs.specs.Directory.{entries_of}
use Rattle.fc_dirs.specs.Entries.{entry_named, has_name, with_entry}
use Rattle.fc_image.specs.Layout.{Layout}
use Rattle.fc_image.specs.Walk.{Listing, Object}
use Rattle.fc_image.specs.effects.Steady.{replaced_entry, with_made}
use Rattle.fc_image.proofs.LookupLemmas.{lookup_law}
use Rattle.fc_tree.proofs.MemberLemmas.{from_map}
use Rattle.fc_tree.proofs.SoundLemmas.{children_stored}
use Rattle.fc_tree.proofs.WalkedLemmas.{child_is_object, child_path}
use Rattle.fc_changes.proofs.PlacedLemmas.{found_in}
use Rattle.fc_changes.proofs.ReadsLemmas.{LiesIn, lies_in, same_path_of}
use Rattle.fc_laws.specs.nodes.Laws.{IsHeld}
use Rattle.fc_edits.specs.Addition.{Addition}
use Rattle.fc_edits.proofs.lemmas.AdditionLemmas as memory
use Rattle.fc_safeedits.specs.SafeChange.{SafeChange}
use Rattle.fc_safeedits.specs.SafeGrownAddition.{SafeGrownAddition}
use Rattle.fc_safeedits.proofs.lemmas.GrownImageLemmas as i_

module _ (d : SafeGrownAddition) where
  abbrev x : SafeChange
  x = d.x

  abbrev c : Addition
  c = d.parts.c

  abbrev y : Layout
  y = Layout.New x.parts.m

  abbrev listings : List Listing
  listings = x.parts.listings

  abbrev h : IsHeld x.parts.nodes y listings
  h = i_.h d

  pub l_in : Contains listings c.l
  l_in = memory.comes_in x.parts.nodes y listings c h d.parts.comes

  pub lies : LiesIn d.path c.l.object.path c.o.entry.name
  lies = lies_in d.path c.l.object.path c.o.entry.name (ap (is_same_path d.path) (sym d.parts.comes.path) ∙ d.path_is)

  -- no entry had the name
  new_name : has_name (entries_of c.l.content) c.o.entry.name ≡ false
  new_name =
      unless (has_name (entries_of c.l.content) c.o.entry.name)
      (λ there.
      let e = some_entry (entry_named (entries_of c.l.content) c.o.entry.name) there in
      let f = found_in (λ (z : Entry). is_same_name c.o.entry.name z.name) (entries_of c.l.content) e.0 e.1 in
      let kid = from_map (λ (p : Object). p.entry) c.l.children e.0 (subst (λ (es : List Entry). Contains es e.0) (sym (children_stored y listings h.sound c.l l_in)) f.0) in
      let at_path = same_path_of d.path c.l.object.path c.o.entry.name e.0.name kid.0.path (ap (is_same_path d.path) (sym d.parts.comes.path) ∙ d.path_is) f.1
      (child_path y listings h.sound c.l kid.0 l_in kid.1 ∙ ap (λ (z : Entry). c.l.object.path ++ z.name ∷ []) kid.2) in
      none_some kid.0 (sym d.stood ∙ lookup_law.object y listings d.path kid.0 h.sound (child_is_object y listings h.sound c.l kid.0 l_in kid.1) at_path))
    where
      none_some : (p : Object) → (let q : Option Object = None in q) ≡ Some p → ⊥
      none_some p same = cc

      some_entry : (q : Option Entry) → is_some q ≡ true → (e : Entry) × (q ≡ Some e)
      some_entry None there = absurd (cc)
      some_entry (Some e) there = (e, refl)

  -- the directory's entries with it
  pub with_it : entries_of c.content ≡ with_made (Some c.o.entry) (entries_of c.l.content)
  with_it = d.entry.0 ∙ sym (ap (λ (b : Bool). cond b (map (replaced_entry c.o.entry) (entries_of c.l.content)) (with_entry c.o.entry (entries_of c.l.content))) new_name)
