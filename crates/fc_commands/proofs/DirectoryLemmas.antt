-- A directory that is written over, by a change of which one directory is written: it can be, and its bytes fit.
use Rattle.std.proofs.Common.{◌≡◌, ◌<◌, ◌≤◌, ◌*◌, ℕ, true, List, length, sym, subst, arith, All}
use Rattle.std.specs.Prelude.{Contains}
use Rattle.fc_record.specs.declared.Kind.{Kind}
use Rattle.fc_oldmap.specs.OldMap.{OldMapContent, IsOldMap}
use Rattle.fc_newmap.specs.Map.{Map, map_sectors}
use Rattle.fc_newmap.specs.NewMap.{IsNewMap}
use Rattle.fc_image.specs.Layout.{Layout, dir_form, disc_sectors, hole_sectors, is_apart, map_place, sector_bytes}
use Rattle.fc_image.specs.Edits.{IsAt}
use Rattle.fc_image.specs.Objects.{objects_of}
use Rattle.fc_image.specs.Opening.{boot_place, reserved_in}
use Rattle.fc_image.specs.Walk.{Listing, Object, object_size}
use Rattle.fc_image.proofs.HolesLemmas.{Lies}
use Rattle.fc_objects.specs.Written.{AreApart}
use Rattle.fc_space.specs.Space.{PlacesSuffice}
use Rattle.fc_tree.specs.declared.node.Node.{Node}
use Rattle.fc_tree.specs.Agree.{AreWalked}
use Rattle.fc_laws.specs.nodes.Edits.{Nodes}
use Rattle.fc_laws.proofs.lemmas.agree.WalkedLemmas.{object_lies}
use Rattle.fc_laws.proofs.lemmas.takeover.SaidLemmas.{apart_front}
use Rattle.fc_laws.proofs.lemmas.takeover.WriteLemmas.{written_bytes_law}
use Rattle.fc_laws.proofs.lemmas.old.takeover.WriteLemmas.{written_bytes_law as old_bytes_law}
use Rattle.fc_writing.specs.declared.ready.Piece.{Piece}
use Rattle.fc_writing.specs.declared.ready.Ready.{Ready}
use Rattle.fc_writing.specs.Ready.{CanPut, place_of}
use Rattle.fc_commands.proofs.EmptySpaceLemmas.{IsOnePiece}
use Rattle.fc_commands.proofs.PieceLemmas.{all_low}
use Rattle.fc_commands.proofs.PieceLemmas as piece

-- an object of a walk, on a disk that has the disc's sectors
pub record IsOnDisk (kind : Kind) (layout : Layout) (nodes : Nodes) (root : Node) (listings : List Listing) (o : Object) (n : ℕ) : Type 0 where
  pub walked : AreWalked nodes layout (reserved_in kind layout) root.entry.address root.entry.len listings
  pub among : Contains (objects_of listings) o
  pub room : disc_sectors layout ≤ n
  pub suffice : PlacesSuffice layout

module _ (kind : Kind) (layout : Layout) (nodes : Nodes) (root : Node) (listings : List Listing) (o : Object) (n : ℕ) (on : IsOnDisk kind layout nodes root listings o n) where
  lies : Lies layout (reserved_in kind layout) o
  lies = object_lies kind layout nodes root listings on.walked o on.among

  low : All (λ s. s < n) o.sectors
  low = all_low n o.sectors (λ s e. (let disc = (on.suffice o.entry.address (object_size (dir_form layout) o.entry) o.sectors lies.placed).on_disc s e in let room = on.room in omega (arith, disc, room)))

  can_put : (r : Ready) (p : Piece) → IsOnePiece r p → place_of p ≡ o.sectors → (mapped : List ℕ) → AreApart o.sectors → is_apart o.sectors mapped ≡ true → CanPut n mapped r
  can_put r p one same mapped once beside =
      piece.can_put r p one n mapped (subst (λ (ss : List ℕ). All (λ s. s < n) ss) (sym same) low) (subst AreApart (sym same) once)
      (subst (λ (ss : List ℕ). is_apart ss mapped ≡ true) (sym same) beside)

pub can_put_new : (kind : Kind) (m : Map) (nodes : Nodes) (root : Node) (listings : List Listing) (o : Object) (n : ℕ) → IsNewMap m → IsOnDisk kind (Layout.New m) nodes root listings o n → (r : Ready) (p : Piece)
    → IsOnePiece r p → place_of p ≡ o.sectors → CanPut n (map_sectors m.geometry) r
can_put_new kind m nodes root listings o n is on r p one same =
    let l = lies kind (Layout.New m) nodes root listings o n on in
    can_put kind (Layout.New m) nodes root listings o n on r p one same (map_sectors m.geometry) (written_bytes_law.apart m o is l.placed)
    (apart_front o.sectors (map_sectors m.geometry) (boot_place kind m.geometry.sector) l.apart)

pub can_put_old : (kind : Kind) (space : OldMapContent) (nodes : Nodes) (root : Node) (listings : List Listing) (o : Object) (n : ℕ) → IsOldMap space → IsOnDisk kind (Layout.Old space) nodes root listings o n → (r : Ready) (p : Piece)
    → IsOnePiece r p → place_of p ≡ o.sectors → CanPut n (map_place (Layout.Old space)) r
can_put_old kind space nodes root listings o n is on r p one same =
    let l = lies kind (Layout.Old space) nodes root listings o n on in
    can_put kind (Layout.Old space) nodes root listings o n on r p one same (map_place (Layout.Old space)) (old_bytes_law.apart space o is l.placed)
    (apart_front o.sectors (map_place (Layout.Old space)) (hole_sectors (Layout.Old space)) l.apart)

-- ---- its bytes fit into its place

pub fits_new : (m : Map) (o : Object) (p : Piece) → IsNewMap m → IsAt (Layout.New m) o → place_of p ≡ o.sectors → length p.bytes.items ≡ object_size (dir_form (Layout.New m)) o.entry
    → length p.bytes.items ≤ length (place_of p) * sector_bytes (Layout.New m)
fits_new m o p is at same long =
    subst (λ (k : ℕ). k ≤ length (place_of p) * m.geometry.sector) (sym long)
    (subst (λ (ss : List ℕ). object_size (dir_form (Layout.New m)) o.entry ≤ length ss * m.geometry.sector) (sym same) (written_bytes_law.room m o is at))

pub fits_old : (space : OldMapContent) (o : Object) (p : Piece) → IsOldMap space → IsAt (Layout.Old space) o → place_of p ≡ o.sectors → length p.bytes.items ≡ object_size (dir_form (Layout.Old space)) o.entry
    → length p.bytes.items ≤ length (place_of p) * sector_bytes (Layout.Old space)
fits_old space o p is at same long =
    subst (λ (k : ℕ). k ≤ length (place_of p) * sector_bytes (Layout.Old space)) (sym long)
    (subst (λ (ss : List ℕ). object_size (dir_form (Layout.Old space)) o.entry ≤ length ss * sector_bytes (Layout.Old space)) (sym same) (old_bytes_law.room space o is at))
