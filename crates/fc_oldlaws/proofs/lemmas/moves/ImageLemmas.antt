-- The image opens afterwards, as the same kind and with the same tree.
use Rattle.std.proofs.Common.{◌≡◌, ◌≤◌, inl, inr, ℕ, ◌+◌, Bool, true, false, cond, List, [], ◌∷◌, length, map, refl, sym, ap, ap₂, ◌∙◌, arith, Option, None}
use Rattle.std.specs.Prelude.{Result, Ok, Contains}
use Rattle.std.specs.FinMap.{from_entries}
use Rattle.fc_record.specs.Kinds.{fits_kind}
use Rattle.fc_names.specs.Names.{Path, folded_path}
use Rattle.fc_model.specs.Tree.{Body, Node}
use Rattle.fc_oldmap.specs.Holes.{AreHoles}
use Rattle.fc_oldmap.specs.OldMap.{IsOldMap, free_space, map_units, with_holes}
use Rattle.fc_image.specs.declared.ImageFault.{ImageFault}
use Rattle.fc_image.specs.Layout.{Layout, disc_sectors}
use Rattle.fc_image.specs.Walk.{Object, is_directory_object, object_bytes, reader_of, walk}
use Rattle.fc_image.specs.Objects.{tree_entry, tree_of}
use Rattle.fc_image.specs.Opening.{MapAndRoot, holes_or, map_and_root, old_layout, reserved_in}
use Rattle.fc_image.specs.Stays.{OpensAs}
use Rattle.fc_image.proofs.RoomLemmas.{old_room}
use Rattle.fc_image.proofs.WalkLemmas.{open_as-spelled}
use Rattle.fc_changes.proofs.BasicLemmas.{clash, first_in, next_in}
use Rattle.fc_changes.specs.old.Owed.{IsMapAfter}
use Rattle.fc_changes.proofs.lemmas.old.MapLemmas.{IsOldDisc, fits_now, found_now, front_same, old_disc}
use Rattle.fc_oldlaws.specs.moves.After.{listings_after, space_after}
use Rattle.fc_oldlaws.specs.moves.Steps.{opened_after}
use Rattle.fc_oldlaws.proofs.lemmas.moves.PlaceLemmas.{holes_behind}
use Rattle.fc_oldlaws.proofs.lemmas.moves.WalkLemmas.{objects_after, walked_after}
use Rattle.fc_oldlaws.proofs.lemmas.moves.BytesLemmas.{IsUnwritten, Steps, all, bytes_carried, map_stays, old, start, to, v, z, z'}
use Rattle.fc_oldlaws.proofs.lemmas.moves.ListedLemmas.{is_listed_directory}
use Rattle.fc_oldlaws.proofs.lemmas.moves.SaysLemmas.{tells_after}

module _ (f : Steps) where
  -- ---- the map

  pub disc : IsOldDisc f.kind f.image f.s.space
  disc = old_disc f.kind f.image f.s.space (old f).address (old f).size (old f).found (old f).fits f.is.before.opens.kind_right

  pub long : length f.image' ≡ length f.image
  long = f.is.map_only.length_stays ∙ f.is.directories.length_stays ∙ f.is.bytes.len

  -- The map is written over the one at the start.
  pub map_after : IsMapAfter f.s.space f.s.holes f.image f.image'
  map_after =
      let front = front_same f.image f.rewritten f.s.space.sector_units disc.units (map_stays f) in
      record {
        few = f.is.map.few;
        bytes = elim f.is.map.bytes [
          | inl same ↦ inl (same.0, same.1 ∙ front.0)
          | inr anew ↦ inr (anew ∙ ap (λ (bs : List ℕ). with_holes bs f.s.holes) front.0)
        ];
        rest = f.is.map.rest ∙ front.1;
      }

  pub is_map_now : IsOldMap (space_after f.s)
  is_map_now = f.is.slide.squashed.map

  -- the holes lie behind the map
  pub behind_map : AreHoles f.s.space.disc_units f.s.space.sector_units (map_units f.s.space.sector_units) f.s.holes
  behind_map = holes_behind (start f)

  pub found : map_and_root f.image' f.kind ≡ Ok (z' f, disc.root, 0)
  found = found_now f.back f.kind f.image f.image' f.s.space disc f.s.holes long map_after is_map_now behind_map

  pub fits : fits_kind f.image' f.kind ≡ true
  fits = fits_now f.back f.kind f.image f.image' f.s.space disc f.s.holes long map_after is_map_now behind_map

  -- the root is where it was
  same_root : (disc.root ≡ (old f).address) × (0 ≡ (old f).size)
  same_root =
      let here : old_layout f.image f.s.space.sector_units disc.root ≡ Ok (z f, (old f).address, (old f).size) = sym (disc.layout f.image) ∙ (old f).found in
      let none : holes_or (Layout.Old (free_space f.image f.s.space.sector_units), disc.root, 0) None ≡ Ok (z f, (old f).address, (old f).size) =
      ap (λ (o : Option ℕ). holes_or (Layout.Old (free_space f.image f.s.space.sector_units), disc.root, 0) o) (sym disc.none) ∙ here in
      let same = found_ok (Layout.Old (free_space f.image f.s.space.sector_units), disc.root, 0) (z f, (old f).address, (old f).size) none in
      (ap (λ (x : MapAndRoot). x.1) same, ap (λ (x : MapAndRoot). x.2) same)
    where
      found_ok : (a b : MapAndRoot) → (let q : Result MapAndRoot ImageFault = Ok a in q) ≡ Ok b → a ≡ b
      found_ok a b h = cc

  -- ---- opening

  few : length f.ls ≤ disc_sectors (z f) + 1
  few = let room = old_room f.image f.s.space (reserved_in f.kind (z f)) (old f).address (old f).size f.ls (old f).walked in omega (arith, room)

  walked_now : walk (reader_of f.image' (z' f)) (z' f) (reserved_in f.kind (z' f)) disc.root 0 ≡ Ok (listings_after f.s f.ls)
  walked_now =
      ap₂ (λ (a n : ℕ). walk (reader_of f.image' (z' f)) (z' f) (reserved_in f.kind (z' f)) a n) same_root.0 same_root.1
      ∙ walked_after (start f) (reader_of f.image' (z' f)) (tells_after f) few

  pub opens : OpensAs f.image' f.kind (opened_after f.s (v f))
  opens = record {
    kind_right = f.is.before.opens.kind_right;
    opened = open_as-spelled f.image' f.kind (z' f) disc.root 0 (reader_of f.image' (z' f)) (listings_after f.s f.ls) fits (let same = long in let size = (old f).long in omega (arith, same, size))
        found walked_now refl (tells_after f);
  }

  -- ---- the tree

  -- A file isn't written.
  file_unwritten : (o : Object) → is_directory_object o ≡ false → IsUnwritten f o
  file_unwritten o file l at changed same =
      clash (is_directory_object o) (ap is_directory_object (sym same) ∙ is_listed_directory (start f) l at) file

  pub file_bytes : (o : Object) → Contains (all f) o → is_directory_object o ≡ false → object_bytes f.image' (z' f) (to f o) ≡ object_bytes f.image (z f) o
  file_bytes o at file = bytes_carried f o at (file_unwritten o file)

  entry_same : (o : Object) → Contains (all f) o → tree_entry f.image' (z' f) (to f o) ≡ tree_entry f.image (z f) o
  entry_same o at = ap (λ (body : Body). let p : Path × Node = (folded_path o.path, record { name = o.entry.name; attrs = o.entry.attrs; load = o.entry.load; exec = o.entry.exec; body = body }) in p)
      (by (is_directory_object o) refl)
    where
      by : (b : Bool) → is_directory_object o ≡ b → cond b Body.Directory (Body.File (object_bytes f.image' (z' f) (to f o))) ≡ cond b Body.Directory (Body.File (object_bytes f.image (z f) o))
      by true dir = refl
      by false file = ap Body.File (file_bytes o at file)

  entries_same : (os : List Object) → ((o : Object) → Contains os o → Contains (all f) o) → map (tree_entry f.image' (z' f)) (map (to f) os) ≡ map (tree_entry f.image (z f)) os
  entries_same [] within = refl
  entries_same (o ∷ os) within =
      ap₂ (λ (x : Path × Node) (xs : List (Path × Node)). x ∷ xs) (tie o (within o (first_in o os))) (entries_same os (λ p at. within p (next_in o p os at)))
    where
      tie : (p : Object) → Contains (all f) p → tree_entry f.image' (z' f) (to f p) ≡ tree_entry f.image (z f) p
      tie p at = entry_same p at

  pub tree_stays : tree_of f.image' (z' f) (listings_after f.s f.ls) ≡ tree_of f.image (z f) f.ls
  unfolding tree_of
  tree_stays =
      ap (λ (os : List Object). from_entries (map (tree_entry f.image' (z' f)) os)) (objects_after (start f) f.ls f.ls)
      ∙ ap (λ (es : List (Path × Node)). from_entries es) (entries_same (all f) (λ o at. at))
