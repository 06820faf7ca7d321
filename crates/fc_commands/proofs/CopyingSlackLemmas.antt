-- A file holds nothing, so no slack is that of files at its path.
use Rattle.std.proofs.Common.{◌≡◌, ◌==◌, ◌&&◌, ⊎_elim, ℕ, Bool, true, false, cond, List, [], ◌∷◌, filter, length, map, not, refl, sym, ap, ◌∙◌, Option, Some, None}
use Rattle.std.specs.Prelude.{Contains, nat_le, nat_lt}
use Rattle.std.specs.List.{find, list_all}
use Rattle.fc_names.specs.Names.{Path, is_same_path}
use Rattle.fc_newmap.specs.Map.{Map}
use Rattle.fc_model.specs.Tree.{holder}
use Rattle.fc_image.specs.Layout.{Layout, low_of}
use Rattle.fc_image.specs.Objects.{has_sectors, objects_of}
use Rattle.fc_image.specs.Sound.{AreSound}
use Rattle.fc_image.specs.Walk.{Listing, Object, is_directory_object}
use Rattle.fc_image.specs.effects.Sharing.{Holding, holding_of, holdings_in, is_shareable, is_spare, may_share_with, shares, slack, slack_among}
use Rattle.fc_image.proofs.EntriesLemmas.{from_filter}
use Rattle.fc_changes.proofs.BasicLemmas.{and_false, clash, holder_pushed}
use Rattle.fc_tree.proofs.MemberLemmas.{contains_here, found_passes, from_map}
use Rattle.fc_image.proofs.PathsLemmas.{itself}
use Rattle.fc_tree.proofs.SoundLemmas.{root_or_child, same_object}
use Rattle.fc_tree.proofs.WalkedLemmas.{child_path, listed_directory, root_is_directory}
use Rattle.std.proofs.lemmas.Bool.{false_from_ne_true as unless}

-- holdings of which none may be shared with
none_shared : (path : Path) (hs : List (Holding Path)) → ((h : Holding Path) → Contains hs h → may_share_with is_same_path path h ≡ false) → is_shareable is_same_path path hs ≡ false
none_shared path [] each = refl
none_shared path (h ∷ hs) each =
    ap (λ (b : Bool). nat_lt 0 (length (h ∷ hs)) && (b && list_all (may_share_with is_same_path path) hs)) (each h (contains_here h hs)) ∙ and_false (nat_lt 0 (length (h ∷ hs)))

module _ (m : Map) (listings : List Listing) (sound : AreSound (Layout.New m) listings) (o : Object) (among : Contains (objects_of listings) o) (file : is_directory_object o ≡ false) where
  -- no object is held by it
  not_held : (p : Object) → Contains (objects_of listings) p → (not (is_directory_object p) && is_same_path (holder p.path) o.path) ≡ false
  not_held p at =
      ⊎_elim (λ is. ap (λ (b : Bool). not b && is_same_path (holder p.path) o.path) (sym (ap is_directory_object is) ∙ root_is_directory (Layout.New m) listings sound))
      (λ held.
      let l = held.0 in
      let there = listed_directory (Layout.New m) listings sound l held.1 in
      let above : holder p.path ≡ l.object.path = ap holder (child_path (Layout.New m) listings sound l p held.1 held.2) ∙ holder_pushed l.object.path p.entry.name in
      ap (λ (b : Bool). not (is_directory_object p) && b)
      (unless (is_same_path (holder p.path) o.path) (λ same.
      let one = same_object (Layout.New m) listings sound l.object.path l.object o there.0 among (itself l.object.path) (ap (λ (q : Path). is_same_path q o.path) (sym above) ∙ same) in
      clash (is_directory_object o) (ap is_directory_object (sym one) ∙ there.1) file))
      ∙ and_false (not (is_directory_object p))) (root_or_child (Layout.New m) listings sound p at)

  holding_apart : (id : ℕ) (h : Holding Path) → Contains (holdings_in (map holding_of (filter has_sectors (objects_of listings))) id) h → may_share_with is_same_path o.path h ≡ false
  holding_apart id h at =
      let p = from_map holding_of (filter has_sectors (objects_of listings)) h (from_filter (λ (g : Holding Path). g.id == id) (map holding_of (filter has_sectors (objects_of listings))) h at) in
      ap (may_share_with is_same_path o.path) (sym p.2) ∙ ap (λ (b : Bool). b && nat_le 1 (low_of p.0.entry.address)) (not_held p.0 (from_filter has_sectors (objects_of listings) p.0 p.1))

  abbrev test : ℕ → ℕ × ℕ → Bool
  test bytes s =
      is_shareable is_same_path o.path (holdings_in (map holding_of (filter has_sectors (objects_of listings))) s.0)
      && is_spare m (holdings_in (map holding_of (filter has_sectors (objects_of listings))) s.0) s.0 s.1 bytes

  never : (bytes : ℕ) (s : ℕ × ℕ) → test bytes s ≡ false
  never bytes s =
      ap (λ (b : Bool). b && is_spare m (holdings_in (map holding_of (filter has_sectors (objects_of listings))) s.0) s.0 s.1 bytes)
      (none_shared o.path (holdings_in (map holding_of (filter has_sectors (objects_of listings))) s.0) (holding_apart s.0))

  none_found : (bytes : ℕ) (q : Option (ℕ × ℕ)) → find (test bytes) (shares m) ≡ q → find (test bytes) (shares m) ≡ None
  none_found bytes None e = e
  none_found bytes (Some s) e = absurd (clash (test bytes s) (found_passes (test bytes) (shares m) s e).1 (never bytes s))

  pub no_slack : (bytes : ℕ) → slack m (objects_of listings) o.path bytes ≡ None
  unfolding slack_among
  no_slack bytes = by (bytes == 0)
    where
      by : (b : Bool) → cond b None (find (test bytes) (shares m)) ≡ None
      by true = refl
      by false = none_found bytes (find (test bytes) (shares m)) refl
