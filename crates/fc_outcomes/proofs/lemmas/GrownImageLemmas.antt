-- The root and the map's record after an edit in which a directory grows.
use Rattle.std.proofs.Common.{◌≡◌, ◌<◌, ◌⊎◌, inl, inr, ℕ, List, [], ◌∷◌, length, sym, ap, ap₂, subst, ◌∙◌, arith, Option, None, Some}
use Rattle.std.specs.Prelude.{Contains}
use Rattle.fc_names.specs.Names.{Path}
use Rattle.fc_names.specs.declared.name.NameForm.{NameForm}
use Rattle.fc_record.specs.declared.DiscRecord.{DiscRecord}
use Rattle.fc_dirs.specs.declared.Entry.{Entry}
use Rattle.fc_dirs.specs.Directory.{directory_size}
use Rattle.fc_image.specs.Layout.{Layout, dir_form}
use Rattle.fc_image.specs.Objects.{objects_of}
use Rattle.fc_image.specs.Walk.{Object, root_entry}
use Rattle.fc_tree.proofs.MemberLemmas.{contains_here, no_element}
use Rattle.fc_tree.proofs.WalkedLemmas.{given}
use Rattle.fc_laws.proofs.lemmas.nodes.OtherLemmas.{top_object}
use Rattle.fc_edits.specs.Edit.{Edit, TopStays, TopTurns}
use Rattle.fc_edits.specs.Growing.{EditGrowing, Growing, Holder, IsHeldBy, grown, top_by}
use Rattle.fc_edits.specs.GrownPlaces.{NewGrowing}
use Rattle.fc_edits.specs.PartsEdit.{NewPartsEdit}
use Rattle.fc_edits.proofs.lemmas.GrowingLemmas.{its_turn, o_in}
use Rattle.fc_edits.proofs.lemmas.GrownPlaceLemmas as place
use Rattle.fc_edits.proofs.lemmas.NewAgreeLemmas as na
use Rattle.fc_outcomes.specs.Growth.{GrowsRoot, MapGrows}
use Rattle.fc_outcomes.specs.NewImage.{RootLeft}

module _ (x : NewGrowing) (r : DiscRecord) (image' : List ℕ) where
  abbrev eg : EditGrowing
  eg = place.as_edit x

  abbrev parts : NewPartsEdit
  parts = place.grown_parts x

  abbrev e' : Edit
  e' = grown x.edit x.growing

  abbrev g : Growing
  g = x.growing

  -- a directory below the root leaves that as it is
  pub root_stays : 0 < length g.o.path → (p : Object) → Contains (objects_of x.listings) p → p.path ≡ [] → TopStays e' p
  root_stays below p at none = by (parts.is_edit.top p at none)
    where
      held_below : (q : Option Holder) → IsHeldBy g q → top_by q g.o x.edit.top_leave ≡ (0, p) ∷ [] → ⊥
      held_below None at_top same = let long = ap (λ (s : Path). length s) at_top in omega (arith, below, long)
      held_below (Some hd) hs same = no_element (0, p) (subst (λ (ps : List (ℕ × Object)). Contains ps (0, p)) (sym same ∙ x.grows.none_leave) (contains_here (0, p) []))

      by : TopStays e' p ⊎ TopTurns e' p → TopStays e' p
      by (inl t) = t
      by (inr t) = absurd (held_below g.holder x.grows.held t.leaves)

  -- a root that grows has its new entry
  pub root_turned : (t : GrowsRoot x.m x.m' g r image') → (p : Object) → Contains (objects_of x.listings) p → p.path ≡ []
      → (e'.turn p).entry ≡ root_entry t.own.root (directory_size (dir_form (Layout.New x.m')) t.own.root_size)
  root_turned t p at none =
      let h = place.held x in
      let rt = given (Layout.New x.m) x.listings h.sound in
      let its_top = top_object (Layout.New x.m) x.listings x.nodes h.sound h.held g.o (o_in eg) t.at_top in
      let one : p ≡ g.o = top_object (Layout.New x.m) x.listings x.nodes h.sound h.held p at none ∙ sym its_top in
      ap (λ (q : Object). (e'.turn q).entry) one ∙ ap (λ (q : Object). q.entry) (its_turn eg)
      ∙ ap (λ (y : Entry). let z : Entry = record y { address = g.address; len = g.len } in z) (ap (λ (q : Object). q.entry) its_top ∙ rt.1.entry)
      ∙ ap₂ root_entry (sym t.address) (sym (ap (λ (f : NameForm). directory_size f t.own.root_size) ((na.walk_fits parts).form ∙ x.grows.form) ∙ t.len))

  abbrev pub root_left : MapGrows x.m x.m' g r image' → RootLeft parts r image'
  root_left (inl b) = inl (record { after = b.after; stays = root_stays b.below })
  root_left (inr t) = inr (record { address = g.address; len = g.len; after = t.after; own = t.own; agreed = t.agreed; turned = root_turned t })
