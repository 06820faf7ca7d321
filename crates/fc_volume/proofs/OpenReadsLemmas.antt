-- Read calls by which an image is opened, part by part.
use Rattle.std.proofs.Common.{◌≡◌, ◌≤◌, ℕ, ◌+◌, ◌*◌, List, length, refl, ap, subst, arith}
use Rattle.std.specs.Prelude.{Some, Result, Ok, Err}
use Rattle.fc_record.specs.declared.Kind.{Kind}
use Rattle.fc_record.specs.Kinds.{disc_size, front_reads, kind_of}
use Rattle.fc_newmap.specs.declared.copies.Which.{Which}
use Rattle.fc_newmap.specs.declared.copies.Which.TheVariants.{One, Two}
use Rattle.fc_image.specs.declared.ImageFault.{ImageFault}
use Rattle.fc_image.specs.Layout.{Layout}
use Rattle.fc_image.specs.Opening.{MapAndRoot, map_and_root, reserved_in}
use Rattle.fc_image.specs.Walk.{reader_of}
use Rattle.fc_tree.specs.Reads.{unless_fault, walk_sectors}
use Rattle.fc_volume.specs.Calls.{chosen_reads, copies_reads, open_reads, parts_reads, walk_reads}
use Rattle.fc_image.proofs.WalkLemmas.{not_below as not_short}

-- copy 2 is read only if copy 1 doesn't count
pub chosen_most : (c : Result Which (ℕ × ℕ)) (zones old now : ℕ) → now ≤ old + 2 * zones → (c ≡ Ok One → now ≤ old + zones) → now ≤ old + chosen_reads c zones
chosen_most (Ok One) zones old now all first = first refl
chosen_most (Ok Two) zones old now all first = all
chosen_most (Err wrong) zones old now all first = all

pub walk_most : (image : List ℕ) (kind : Kind) (found : MapAndRoot) (layout : Layout) (reserved : List ℕ) (old now : ℕ) → layout ≡ found.0 → reserved ≡ reserved_in kind layout
    → now ≤ old + walk_sectors (reader_of image layout) layout reserved found.1 found.2 → now ≤ old + walk_reads image kind found
walk_most image kind found layout reserved old now same rows le =
    subst (λ (l : Layout). now ≤ old + walk_sectors (reader_of image l) l (reserved_in kind l) found.1 found.2) same
    (subst (λ (r : List ℕ). now ≤ old + walk_sectors (reader_of image layout) layout r found.1 found.2) rows le)

-- ---- the whole

-- the kind isn't found, or the image is too short for it
pub of_kind : (image : List ℕ) (old now : ℕ) → now ≤ old + front_reads image → now ≤ old + open_reads image
unfolding open_reads
of_kind image old now le = omega (arith, le)

long_reads : (image : List ℕ) (kind : Kind) → kind_of image ≡ Some kind → disc_size kind ≤ length image → open_reads image ≡ front_reads image + parts_reads image kind
unfolding open_reads
long_reads image kind is long = rw (is, not_short _ (length image) (disc_size kind) refl long) refl

-- the map has a fault
pub of_map : (image : List ℕ) (kind : Kind) (old front mid now : ℕ) → kind_of image ≡ Some kind → disc_size kind ≤ length image
    → front ≤ old + front_reads image → mid ≡ front → now ≤ mid + copies_reads image kind → now ≤ old + open_reads image
of_map image kind old front mid now is long first same copies = omega (arith, long_reads image kind is long, first, same, copies)

-- the map is found, and the directories are read
pub of_walk : (image : List ℕ) (kind : Kind) (found : MapAndRoot) (old front mid map now : ℕ) → kind_of image ≡ Some kind → disc_size kind ≤ length image → map_and_root image kind ≡ Ok found
    → front ≤ old + front_reads image → mid ≡ front → map ≤ mid + copies_reads image kind → now ≤ map + walk_reads image kind found → now ≤ old + open_reads image
of_walk image kind found old front mid map now is long there first same copies walked =
    let reads : unless_fault (map_and_root image kind) (walk_reads image kind) ≡ walk_reads image kind found =
    ap (λ (r : Result MapAndRoot ImageFault). unless_fault r (walk_reads image kind)) there in
    omega (arith, long_reads image kind is long, first, same, copies, walked, reads)
