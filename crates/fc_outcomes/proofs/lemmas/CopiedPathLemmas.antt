-- A file that is copied by `rename`: nothing lies below it.
use Rattle.std.proofs.Common.{◌≡◌, ◌<◌, ⊎_elim, zero, suc, ℕ, true, false, List, [], ◌∷◌, ◌++◌, length, sym, ap, ◌∙◌, arith}
use Rattle.std.specs.Prelude.{Contains}
use Rattle.std.proofs.lemmas.List.{length_push}
use Rattle.fc_names.specs.Names.{Path, is_same_path}
use Rattle.fc_image.specs.Layout.{Layout}
use Rattle.fc_image.specs.Walk.{Listing, Object, is_directory_object}
use Rattle.fc_image.specs.Objects.{objects_of}
use Rattle.fc_image.specs.Commanded.{moved_path}
use Rattle.fc_image.proofs.PathsLemmas.{itself}
use Rattle.fc_image.proofs.RelistLemmas.{root_path_stays}
use Rattle.fc_tree.proofs.SoundLemmas.{root_or_child, same_object}
use Rattle.fc_tree.proofs.WalkedLemmas.{child_path, listed_directory, root, root_path}
use Rattle.fc_laws.specs.nodes.Edits.{Nodes}
use Rattle.fc_laws.specs.nodes.Laws.{IsHeld}
use Rattle.fc_laws.proofs.lemmas.nodes.MovingLemmas.{moved_step}
use Rattle.fc_edits.specs.Copying.{Copies, Copying, new_path}
use Rattle.fc_edits.proofs.lemmas.CopiesLemmas as c_
use Rattle.std.proofs.lemmas.Bool.{false_from_ne_true as unless}

module _ (nodes : Nodes) (layout : Layout) (listings : List Listing) (c : Copying) (h : IsHeld nodes layout listings) (g : Copies nodes listings c) where
  pub dir_other : (k : Listing) → Contains listings k → is_same_path c.o.path k.object.path ≡ false
  dir_other k at = unless (is_same_path c.o.path k.object.path) (λ same.
      let dir = listed_directory layout listings h.sound k at in
      let one = same_object layout listings h.sound c.o.path k.object c.o dir.0 (c_.among nodes layout listings c h g) same (itself c.o.path) in
      let two : true ≡ false = sym dir.1 ∙ ap is_directory_object one ∙ g.file in
      cc)

  pub some : 0 < length c.o.path
  some =
      let path = ap (λ (p : Path). length p) (child_path layout listings h.sound c.k c.o (c_.k_in nodes layout listings c h g) (c_.kid_in nodes layout listings c h g)) in
      let more = length_push c.k.object.path c.o.entry.name in
      omega (arith, path, more)

  still_path : (n : ℕ) (p : Object) → Contains (objects_of listings) p → length p.path < n → is_same_path c.o.path p.path ≡ false → moved_path c.o.path (new_path c) p.path ≡ p.path
  still_path zero p at short other = absurd (omega (arith, short))
  still_path (suc n) p at short other = ⊎_elim top (below (still_path n)) (root_or_child layout listings h.sound p at)
    where
      top : root layout listings h.sound ≡ p → moved_path c.o.path (new_path c) p.path ≡ p.path
      top is =
          let none : p.path ≡ [] = ap (λ (q : Object). q.path) (sym is) ∙ root_path layout listings h.sound in
          ap (moved_path c.o.path (new_path c)) none ∙ root_path_stays c.o.path (new_path c) some ∙ sym none

      below : ((q : Object) → Contains (objects_of listings) q → length q.path < n → is_same_path c.o.path q.path ≡ false → moved_path c.o.path (new_path c) q.path ≡ q.path)
          → (l : Listing) × Contains listings l × Contains l.children p → moved_path c.o.path (new_path c) p.path ≡ p.path
      below above l =
          let path = child_path layout listings h.sound l.0 p l.1 l.2 in
          let long = ap (λ (q : Path). length q) path in
          let pushed = length_push l.0.object.path p.entry.name in
          ap (moved_path c.o.path (new_path c)) path ∙ moved_step c.o.path (new_path c) l.0.object.path p.entry.name (ap (is_same_path c.o.path) (sym path) ∙ other)
          ∙ ap (λ (q : Path). q ++ p.entry.name ∷ []) (above l.0.object (listed_directory layout listings h.sound l.0 l.1).0 (omega (arith, short, long, pushed)) (dir_other l.0 l.1)) ∙ sym path

  -- So no other path changes.
  pub its_path : (p : Object) → Contains (objects_of listings) p → is_same_path c.o.path p.path ≡ false → moved_path c.o.path (new_path c) p.path ≡ p.path
  its_path p at other = still_path (suc (length p.path)) p at (omega arith) other
