-- `rename` to another directory, which grows by it: where the old path and the new one lie, and that the directory that loses the object may hold
-- the other.
use Rattle.fc_change.specs.Directories.{Rewriting, is_holder, numbers}
use Rattle.fc_changes.proofs.BasicLemmas.{clash, holder_pushed}
use Rattle.fc_commands.proofs.GrownMoveEditLemmas.{is_free}
use Rattle.fc_commands.proofs.GrownMoveFirstLemmas.{k_unlike, told_in}
use Rattle.fc_commands.proofs.GrownMoveMadeLemmas.{up_in}
use Rattle.fc_commands.proofs.GrownMoveSaidLemmas.{home_numb, it, k, l, layout, listed, now, numb}
use Rattle.fc_commands.proofs.GrownMoveToldLemmas.{all_numbers, home_told, last_told}
use Rattle.fc_commands.proofs.GrownMoveWalkLemmas as walk
use Rattle.fc_commands.proofs.GrownMoveWantLemmas.{GrownRename}
use Rattle.fc_commands.proofs.GrownMoveWantLemmas as want
use Rattle.fc_commands.proofs.GrownToldLemmas as of
use Rattle.fc_commands.proofs.MoveLemmas as seen_of
use Rattle.fc_commands.proofs.MoveTellLemmas.{own_told}
use Rattle.fc_image.proofs.CommandLemmas.{same_by_folds}
use Rattle.fc_image.proofs.EntriesLemmas.{cases as contains_cases, later as contains_later}
use Rattle.fc_image.proofs.PathsLemmas.{itself}
use Rattle.fc_image.proofs.TreeLemmas.{map_both as map_append}
use Rattle.fc_image.specs.Walk.{Listing, Object}
use Rattle.fc_laws.proofs.lemmas.nodes.FitsLemmas.{kid_lower}
use Rattle.fc_laws.proofs.lemmas.nodes.ListLemmas.{cut_at}
use Rattle.fc_model.specs.Tree.{holder}
use Rattle.fc_names.specs.Names.{Path, is_same_path}
use Rattle.fc_tree.proofs.MemberLemmas.{contains_here, no_element}
use Rattle.fc_tree.proofs.PlaceLemmas.{same_number}
use Rattle.fc_tree.proofs.SoundLemmas.{folds_alike, root_or_child, same_listing}
use Rattle.fc_tree.proofs.WalkedLemmas.{child_path, listed_directory, root, root_path, same_some}
use Rattle.fc_tree.specs.Nodes.{is_directory_node, number_of}
use Rattle.std.proofs.Common.{Bool, List, [], ap, cond, false, inl, inr, not, remove, subst, sym, true, ℕ, ⊎_elim, ◌++◌, ◌∙◌, ◌∷◌, ◌≡◌, ◌⊎◌}
use Rattle.std.proofs.lemmas.Bool.{false_from_ne_true as unless}
use Rattle.std.proofs.lemmas.List.Elements.{Contains-append_right}
use Rattle.std.proofs.lemmas.List.Sorted.{Contains-permutation}
use Rattle.std.specs.Prelude.{Contains}

-- ---- of both directories

module _ (q : GrownRename) (away : q.r.holder ≡ q.r.target.holder → ⊥) where
  -- which of them hold the old path, and the new one
  away_path : is_same_path q.seen.known.target.listing.object.path q.seen.known.destination.listing.object.path ≡ false
  away_path = unless (is_same_path (k q).object.path (l q).object.path) (λ same.
      absurd (away (same_some q.r.holder q.r.target.holder
      (sym q.seen.known.destination.holder_is ∙ sym (same_number q.nodes (k q).object.path (l q).object.path (folds_alike (k q).object.path (l q).object.path same)) ∙ q.seen.known.target.holder_is))))

  other_of : (p x y : Path) → is_same_path p x ≡ true → is_same_path x y ≡ false → is_same_path p y ≡ false
  other_of p x y same other = unless (is_same_path p y) (λ too. clash (is_same_path x y) (same_by_folds x y (sym (folds_alike p x same) ∙ folds_alike p y too)) other)

  pub from_home : is_same_path (holder q.from) q.seen.known.target.listing.object.path ≡ true
  from_home = (seen_of.lies_from (layout q) q.nodes q.listings q.from q.to q.r q.name q.seen).holds

  pub from_aim : is_same_path (holder q.from) q.seen.known.destination.listing.object.path ≡ false
  from_aim = other_of (holder q.from) (k q).object.path (l q).object.path from_home away_path

  pub to_home : is_same_path (holder q.to) q.seen.known.target.listing.object.path ≡ false
  to_home = other_of (holder q.to) (l q).object.path (k q).object.path q.seen.known.destination.above
      (unless (is_same_path (l q).object.path (k q).object.path) (λ same.
      clash (is_same_path (k q).object.path (l q).object.path) (same_by_folds (k q).object.path (l q).object.path (sym (folds_alike (l q).object.path (k q).object.path same))) away_path))

  pub k_up : up_in q q.seen.known.target.object q.seen.known.target.listing.object.path ≡ now q q.seen.known.target.listing.object.path
  k_up = ap (λ (d : Bool). cond d (want.grown q).0.directory.address (now q (k q).object.path)) (k_unlike q)

  -- then the grown one is among its children, beside the object
  pub held_in_it : is_holder q.nodes (want.grown q).0.directory (numb q q.seen.known.target.listing) ≡ true
      → Contains q.seen.known.target.listing.children q.seen.known.destination.listing.object
      × (is_same_path (q.seen.known.target.listing.object.path ++ q.seen.known.destination.listing.object.entry.name ∷ []) q.seen.known.destination.listing.object.path ≡ true)
      × Contains (remove q.seen.known.target.listing.children q.r.target.at) q.seen.known.destination.listing.object
  held_in_it h = by (root_or_child (layout q) q.listings q.seen.sound (l q).object (listed_directory (layout q) q.listings q.seen.sound (l q) (listed q)).0)
    where
      by : (root (layout q) q.listings q.seen.sound ≡ (l q).object) ⊎ ((d : Listing) × Contains q.listings d × Contains d.children (l q).object)
          → Contains (k q).children (l q).object × (is_same_path ((k q).object.path ++ (l q).object.entry.name ∷ []) (l q).object.path ≡ true) × Contains (remove (k q).children q.r.target.at) (l q).object
      by (inl top) =
          absurd (clash (is_holder q.nodes (want.grown q).0.directory (numb q (k q))) h
          (of.none_at_top (layout q) q.nodes q.listings q.seen.sound q.seen.held (l q) (listed q) (want.grown q).0.directory (walk.number q)
          (same_some (want.grown q).0.directory.node 0 (sym (walk.number q) ∙ ap (number_of q.nodes) (ap (λ (o : Object). o.path) (sym top) ∙ root_path (layout q) q.listings q.seen.sound))) (numb q (k q))))
      by (inr (d, there, kid)) =
          let path = child_path (layout q) q.listings q.seen.sound d (l q).object there kid in
          let lower = kid_lower (layout q) q.listings q.nodes q.seen.sound q.seen.held d (l q).object (want.grown q).0.directory.node there kid (walk.number q) in
          let alike : is_same_path (holder (l q).object.path) (k q).object.path ≡ true =
          sym (of.holds_it (layout q) q.nodes q.listings q.seen.sound q.seen.held (l q) (listed q) (want.grown q).0.directory (walk.number q) lower (k q) q.seen.known.target.listed) ∙ h in
          let one : d ≡ k q =
          same_listing (layout q) q.listings q.seen.sound d.object.path d (k q) there q.seen.known.target.listed (itself d.object.path)
          (ap (λ (p : Path). is_same_path p (k q).object.path) (sym (holder_pushed d.object.path (l q).object.entry.name) ∙ sym (ap holder path)) ∙ alike) in
          let in_k = subst (λ (y : Listing). Contains y.children (l q).object) one kid in (
            in_k,
            subst (λ (y : Listing). is_same_path (y.object.path ++ (l q).object.entry.name ∷ []) (l q).object.path ≡ true) one (ap (λ (p : Path). is_same_path p (l q).object.path) (sym path) ∙ itself (l q).object.path),
            ⊎_elim (λ is. absurd (seen_of.l_other (layout q) q.nodes q.listings q.from q.to q.r q.name q.seen away (sym is))) (λ later. later)
                (contains_cases (it q) (l q).object (remove (k q).children q.r.target.at)
                (Contains-permutation (k q).children (it q ∷ remove (k q).children q.r.target.at) (l q).object (cut_at (k q).children q.r.target.at (it q) q.seen.known.target.at) in_k)),
          )

  -- If it doesn't, the one that does loses nothing.
  pub holder_other : is_holder q.nodes (want.grown q).0.directory (numb q q.seen.known.target.listing) ≡ false → (h : Listing) → Contains q.listings h → Contains h.children q.seen.known.destination.listing.object
      → Contains (numbers (home_told false q.r)) (numb q h) → ⊥
  holder_other none h there kid told' =
      let same : q.r.target.holder ≡ numb q h = ⊎_elim (λ is. is) (λ other. absurd (no_element (numb q h) other)) (contains_cases q.r.target.holder (numb q h) [] told') in
      clash (is_holder q.nodes (want.grown q).0.directory (numb q (k q)))
      (ap (is_holder q.nodes (want.grown q).0.directory) (sym (home_numb q) ∙ same)
      ∙ of.holds_it (layout q) q.nodes q.listings q.seen.sound q.seen.held (l q) (listed q) (want.grown q).0.directory (walk.number q)
      (kid_lower (layout q) q.listings q.nodes q.seen.sound q.seen.held h (l q).object (want.grown q).0.directory.node there kid (walk.number q)) h there
      ∙ ap (λ (p : Path). is_same_path p h.object.path) (ap holder (child_path (layout q) q.listings q.seen.sound h (l q).object there kid) ∙ holder_pushed h.object.path (l q).object.entry.name) ∙ itself h.object.path) none

  -- The one that loses it is told so.
  pub k_told : is_free q (all_numbers q.nodes q.r q.name false) q.seen.known.target.listing ≡ false
  k_told =
      ap not (told_in (all_numbers q.nodes q.r q.name false) (numb q (k q))
      (contains_later q.r.holder (numb q (k q)) (numbers (last_told q.nodes q.r q.name false))
      (subst (λ (ms : List ℕ). Contains ms (numb q (k q))) (sym (map_append (λ (y : ℕ × Rewriting). y.0) (own_told (is_directory_node q.nodes q.r.target.node) q.r q.name) (home_told false q.r)))
      (Contains-append_right (numbers (own_told (is_directory_node q.nodes q.r.target.node) q.r q.name)) (q.r.target.holder ∷ []) (numb q (k q)) (subst (Contains (q.r.target.holder ∷ [])) (home_numb q) (contains_here q.r.target.holder []))))))
