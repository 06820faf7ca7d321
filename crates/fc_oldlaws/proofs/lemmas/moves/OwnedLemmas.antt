-- The nodes that slide are the objects that do.
use Rattle.std.proofs.Common.{◌≡◌, ◌<◌, ◌⊎◌, ⊎_elim, ℕ, zero, suc, ◌*◌, true, List, [], ◌∷◌, length, refl, sym, ap, subst, ◌∙◌, arith, Some}
use Rattle.std.specs.Prelude.{Contains}
use Rattle.std.specs.FinMap.{get}
use Rattle.std.proofs.lemmas.Bool.{lt-ltb, ltb-true}
use Rattle.fc_names.specs.Names.{Path}
use Rattle.fc_oldmap.specs.OldMap.{OldMapContent}
use Rattle.fc_dirs.specs.declared.Entry.{Entry}
use Rattle.fc_image.specs.Layout.{Layout, dir_form, sectors_at}
use Rattle.fc_image.specs.Sound.{AreSound}
use Rattle.fc_image.specs.Walk.{Listing, Object, object_size}
use Rattle.fc_image.specs.Objects.{has_sectors, objects_of}
use Rattle.fc_image.proofs.HolesLemmas.{Each-contains, Each-objects, Lies, walk_lies}
use Rattle.fc_tree.specs.declared.node.Node.{Node}
use Rattle.fc_tree.specs.Nodes.{HoldObjects, number_of}
use Rattle.fc_tree.proofs.FindLemmas.{object_of_number}
use Rattle.fc_tree.proofs.SoundLemmas.{root_object}
use Rattle.fc_tree.proofs.WalkedLemmas.{root, root_path, same_some}
use Rattle.fc_laws.specs.nodes.Edits.{Nodes}
use Rattle.fc_laws.proofs.lemmas.nodes.FitsLemmas.{one_number}
use Rattle.fc_laws.proofs.lemmas.old.agree.GivenLemmas.{space_law}
use Rattle.fc_image.specs.declared.effects.Owned.{Owned}
use Rattle.fc_oldlaws.specs.moves.After.{AreOwned, IsOwnedAs}
use Rattle.fc_oldlaws.specs.moves.Laws.{SlidingLaw}
use Rattle.fc_oldlaws.specs.moves.Nodes.{AreSliding, units_in}

module _ (space : OldMapContent) (nodes : Nodes) (listings : List Listing) (owned : List Owned) (units : (space.sector_units ≡ 1) ⊎ (space.sector_units ≡ 4))
    (sound : AreSound (Layout.Old space) listings) (held : HoldObjects nodes listings) (sliding : AreSliding space nodes owned) where
  abbrev layout : Layout
  layout = Layout.Old space

  lies : (o : Object) → Contains (objects_of listings) o → sectors_at layout o.entry.address (object_size (dir_form layout) o.entry) ≡ Some o.sectors
  lies o at = (Each-contains (Lies layout sound.reserved) (objects_of listings) o
      (Each-objects (Lies layout sound.reserved) listings (walk_lies sound.read layout sound.reserved sound.address sound.size listings sound.walked)) at).placed

  -- the units of an object, by its sectors and by its entry
  long_is : (o : Object) → Contains (objects_of listings) o → length o.sectors * space.sector_units ≡ units_in space o.entry
  long_is o at = space_law.size space o (lies o at)

  some_units : (n : ℕ) → 0 < n → 0 < n * space.sector_units
  some_units n low = ⊎_elim
      (λ e. subst (λ (v : ℕ). 0 < n * v) (sym e) (omega (arith, low)))
      (λ e. subst (λ (v : ℕ). 0 < n * v) (sym e) (omega (arith, low))) units

  -- the root has number 0, and no other object has it
  no_path : (p : Path) → length p ≡ 0 → p ≡ []
  no_path [] e = refl
  no_path (x ∷ p) e = absurd (omega (arith, e))

  zero_root : (o : Object) → Contains (objects_of listings) o → number_of nodes o.path ≡ Some 0 → length o.path ≡ 0
  zero_root o at e =
      let top = root layout listings sound in
      let same : o ≡ top = one_number layout listings nodes sound held o top 0 at (root_object layout listings sound) e (ap (number_of nodes) (root_path layout listings sound)) in
      ap (λ (x : Object). length x.path) same ∙ ap (λ (p : Path). length p) (root_path layout listings sound)

  each : (o : Object) → Contains (objects_of listings) o → has_sectors o ≡ true → (length o.path ≡ 0 → ⊥) → (p : Owned) × Contains owned p × IsOwnedAs space o p
  each o at some below =
      let h = held.each o at in
      let lower : h.number ≡ 0 → ⊥ = λ none. below (zero_root o at (h.at_path ∙ ap (λ (k : ℕ). Some k) none)) in
      let have = some_units (length o.sectors) (ltb-true 0 (length o.sectors) some) in
      let long = long_is o at in
      let p = sliding.each h.number _ h.is lower (subst (λ (n : ℕ). 0 < n) long have) in
      let x = sliding.only p.0 p.1 in
      let entry : x.node.entry ≡ o.entry = ap (λ (n : Node). n.entry) (same_some x.node _ (sym x.there ∙ ap (get nodes) p.2 ∙ h.is)) in (
        p.0,
        p.1,
        record {
          begins = x.start ∙ ap (λ (d : Entry). d.address) entry;
          long = x.long ∙ ap (units_in space) entry ∙ sym long;
        },
      )

  only : (p : Owned) → Contains owned p → (o : Object) × Contains (objects_of listings) o × (has_sectors o ≡ true) × (length o.path ≡ 0 → ⊥) × IsOwnedAs space o p
  only p at =
      let x = sliding.only p at in
      let o = object_of_number layout listings nodes sound held p.node x.node x.there in
      let h = held.each o.0 o.1 in
      let number : h.number ≡ p.node = same_some h.number p.node (sym h.at_path ∙ o.2) in
      let entry : x.node.entry ≡ o.0.entry = ap (λ (n : Node). n.entry) (same_some x.node _ (sym x.there ∙ ap (get nodes) (sym number) ∙ h.is)) in
      let long : p.len ≡ length o.0.sectors * space.sector_units = x.long ∙ ap (units_in space) entry ∙ sym (long_is o.0 o.1) in (
        o.0,
        o.1,
        lt-ltb 0 (length o.0.sectors) (some_left (length o.0.sectors) (subst (λ (n : ℕ). 0 < n) long x.some)),
        (λ none. x.below (root_zero o.0 p.node none o.2)),
        record {
          begins = x.start ∙ ap (λ (d : Entry). d.address) entry;
          long = long;
        },
      )
    where
      some_left : (n : ℕ) → 0 < n * space.sector_units → 0 < n
      some_left zero h = absurd (omega (arith, h))
      some_left (suc n) h = omega arith

      root_zero : (o : Object) (n : ℕ) → length o.path ≡ 0 → number_of nodes o.path ≡ Some n → n ≡ 0
      root_zero o n none e = same_some n 0 (sym e ∙ ap (number_of nodes) (no_path o.path none))

  pub are_owned : AreOwned space (objects_of listings) owned
  are_owned = record { each = each; only = only }

pub sliding_law : SlidingLaw
sliding_law space nodes listings owned units sound held sliding = are_owned space nodes listings owned units sound held sliding
