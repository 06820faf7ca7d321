-- What a job under way takes of free space on an old map, and when it leaves the map.
use Rattle.std.proofs.Common.{◌≡◌, ◌*◌, inl, inr, ⊎_elim, ℕ, true, false, List, [], ◌++◌, Option, Some, None, refl, sym, ap, subst, ◌∙◌, flat_map}
use Rattle.std.specs.Prelude.{Contains}
use Rattle.std.specs.FinMap.{get}
use Rattle.std.specs.Option.{option_map_or, unwrap_or}
use Rattle.std.proofs.lemmas.Bool.{false_from_ne_true as unless}
use Rattle.fc_record.specs.declared.Kind.{Kind}
use Rattle.fc_oldmap.specs.OldMap.{OldMapContent}
use Rattle.fc_newmap.proofs.PlaceLemmas.{in_back}
use Rattle.fc_model.specs.Command.{Command}
use Rattle.fc_image.specs.Layout.{Layout, dir_form, hole_sectors, is_among, map_place, sectors_at}
use Rattle.fc_image.specs.Objects.{objects_of}
use Rattle.fc_image.specs.Opening.{Opened, reserved_in}
use Rattle.fc_image.specs.Sound.{AreSound}
use Rattle.fc_image.specs.Stays.{OpensAs}
use Rattle.fc_image.specs.Walk.{Object, object_size, reader_of}
use Rattle.fc_image.proofs.HolesLemmas.{Each-contains, Each-objects, Lies, apart_at, walk_lies}
use Rattle.fc_image.proofs.PathsLemmas.{opened_walk}
use Rattle.fc_objects.specs.Extents.{sectors_in}
use Rattle.fc_tree.specs.Parts.{ArePartsOf, Parts}
use Rattle.fc_tree.specs.declared.node.Node.{Node}
use Rattle.fc_changes.proofs.NewPlaceLemmas.{none_at}
use Rattle.fc_tree.proofs.FindLemmas.{object_of_number}
use Rattle.fc_tree.proofs.WalkedLemmas.{same_some}
use Rattle.fc_writing.specs.Laws.{ChangesOnly}
use Rattle.fc_change.specs.declared.change.Change.{Change}
use Rattle.fc_change.specs.declared.change.Says.{Says}
use Rattle.fc_change.specs.declared.job.Wants.{Wants}
use Rattle.fc_change.specs.declared.spaces.GrownPlace.{GrownPlace}
use Rattle.fc_change.specs.declared.spaces.Place.{Place}
use Rattle.fc_change.specs.declared.spaces.Spaces.{Spaces}
use Rattle.fc_change.specs.OldSpace.{units_given}
use Rattle.fc_change.specs.Places.{ArePlacedOld, IsOldPlaced}
use Rattle.fc_commands.specs.Promises.{LiesInSteps, node_place, object_place, said_place}
use Rattle.fc_runs.specs.Space.{SparesOld, TakesNone, TakesOld}
use Rattle.fc_shell.proofs.FreeLemmas.{out_all, out_both}
use Rattle.fc_shell.proofs.NeedLemmas.{IsNeed}

module _ (was : List ℕ) (kind : Kind) (v : Opened) (opens : OpensAs was kind v) (sound : AreSound v.layout v.listings) (h : Parts) (parts : ArePartsOf h v) (space : OldMapContent) (at : v.layout ≡ Layout.Old space)
    (s : ℕ) (hole : is_among (hole_sectors (Layout.Old space)) s ≡ true) where
  -- An object of a walk has no free sector.
  object_out : (o : Object) → Contains (objects_of v.listings) o → is_among o.sectors s ≡ false
  object_out o there =
      unless (is_among o.sectors s) (λ i.
      let none = apart_at o.sectors (reserved_in kind v.layout) s (lies o there).apart i in
      let reserved : is_among (reserved_in kind v.layout) s ≡ true = subst (λ (l : Layout). is_among (reserved_in kind l) s ≡ true) (sym at) (in_back (map_place (Layout.Old space)) (hole_sectors (Layout.Old space)) s hole) in
      let clash = sym reserved ∙ none in cc)
    where
      lies : (o : Object) → Contains (objects_of v.listings) o → Lies v.layout (reserved_in kind v.layout) o
      lies o there =
          let found = opened_walk was kind v opens in
          Each-contains (Lies v.layout (reserved_in kind v.layout)) (objects_of v.listings) o
          (Each-objects (Lies v.layout (reserved_in kind v.layout)) v.listings (walk_lies (reader_of was v.layout) v.layout (reserved_in kind v.layout) found.address found.size v.listings found.walked)) there

  placed : (o : Object) → Contains (objects_of v.listings) o → sectors_at v.layout o.entry.address (object_size (dir_form v.layout) o.entry) ≡ Some o.sectors
  placed o there =
      let found = opened_walk was kind v opens in
      (Each-contains (Lies v.layout (reserved_in kind v.layout)) (objects_of v.listings) o
      (Each-objects (Lies v.layout (reserved_in kind v.layout)) v.listings (walk_lies (reader_of was v.layout) v.layout (reserved_in kind v.layout) found.address found.size v.listings found.walked)) there).placed

  node_out : (n : ℕ) → is_among (node_place (Layout.Old space) h.nodes n) s ≡ false
  node_out n = by (get h.nodes n) refl
    where
      by : (q : Option Node) → get h.nodes n ≡ q → is_among (option_map_or (λ (node : Node). unwrap_or (sectors_at (Layout.Old space) node.entry.address (object_size (dir_form (Layout.Old space)) node.entry)) []) q []) s ≡ false
      by None e = refl
      by (Some node) e =
          let o = object_of_number v.layout v.listings h.nodes sound parts.nodes n node e in
          let has = parts.nodes.each o.0 o.1 in
          let same : node ≡ (record { holder = has.holder_number; entry = o.0.entry; body = _ }) =
          same_some node _ (sym e ∙ ap (get h.nodes) (same_some n has.number (sym o.2 ∙ has.at_path)) ∙ has.is) in
          subst (λ (x : Node). is_among (unwrap_or (sectors_at (Layout.Old space) x.entry.address (object_size (dir_form (Layout.Old space)) x.entry)) []) s ≡ false) (sym same)
          (ap (λ (q : Option (List ℕ)). is_among (unwrap_or q []) s)
          (subst (λ (l : Layout). sectors_at l o.0.entry.address (object_size (dir_form l) o.0.entry) ≡ Some o.0.sectors) at (placed o.0 o.1))
          ∙ object_out o.0 o.1)

  said_out : (grown : Option GrownPlace) → grown ≡ None → (said : Says) → is_among (said_place (Layout.Old space) h.nodes grown said) s ≡ false
  said_out None none said = node_out said.node
  said_out (Some g) none said = absurd (cc)

  pub change_out : (w : Wants) (sp : Spaces) (ch : Change) → ArePlacedOld space h w sp → is_among (object_place sp.object) s ≡ false → is_among (object_place sp.object ++ flat_map (said_place (Layout.Old space) h.nodes sp.grown) ch.says.items) s ≡ false
  change_out w sp ch are out =
      out_both (object_place sp.object) (flat_map (said_place (Layout.Old space) h.nodes sp.grown) ch.says.items) s out
      (out_all (said_place (Layout.Old space) h.nodes sp.grown) ch.says.items s (said_out sp.grown are.grown))

-- ---- what is taken

takes : (space : OldMapContent) (w : Wants) (place : Option Place) → IsOldPlaced space w place → TakesOld space w.bytes (object_place place)
takes space w None is = inl refl
takes space w (Some p) is =
    ⊎_elim (λ some. inr (p.address, some.1, is.sectors)) (λ none. inl (none_at (Layout.Old space) p.address (sectors_in p.extents.items) (subst (λ (n : ℕ). sectors_at (Layout.Old space) p.address n ≡ Some (sectors_in p.extents.items)) none.0 is.sectors))) is.address

-- ---- all of it

pub old_spared : (was image : List ℕ) (kind : Kind) (v : Opened) → OpensAs was kind v → AreSound v.layout v.listings → (h : Parts) → ArePartsOf h v → (space : OldMapContent) → v.layout ≡ Layout.Old space → (c : Command) (w : Wants) (sp : Spaces) (ch : Change)
    → IsNeed h v c w → ArePlacedOld space h w sp → ChangesOnly (256 * space.sector_units) ((object_place sp.object ++ flat_map (said_place (Layout.Old space) h.nodes sp.grown) ch.says.items) ++ map_place (Layout.Old space)) was image
    → LiesInSteps space sp.take sp.give was image → SparesOld space v c was image
old_spared was image kind v opens sound h parts space at c w sp ch need are only map = record {
  taken = object_place sp.object;
  takes = subst (λ (n : ℕ). TakesOld space n (object_place sp.object)) (sym need.bytes) (takes space w sp.object are.object);
  free = λ s hole off out.
      only.outside s (out_both (object_place sp.object ++ flat_map (said_place (Layout.Old space) h.nodes sp.grown) ch.says.items) (map_place (Layout.Old space)) s
      (change_out was kind v opens sound h parts space at s hole w sp ch are out) off);
  still = λ none. map.still (are.takes_none (sym need.bytes ∙ none.bytes)) (are.gives_none (gone none w.goes refl));
}
  where
    gone : TakesNone v c → (n : Option ℕ) → w.goes ≡ n → units_given space h.nodes n ≡ 0
    gone none None e = refl
    gone none (Some n) e = absurd ((need.goes n e).1 none.left)
