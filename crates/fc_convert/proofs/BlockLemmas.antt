-- The bytes of a file, one block after another.
use Rattle.std.proofs.Common.{◌≡◌, ◌++◌, ◌*◌, ℕ, List, Option, refl, ap, ap₂, sym, ◌∙◌, length, min, []}
use Rattle.std.specs.Option.{option_map_or, unwrap_or}
use Rattle.fc_device.specs.declared.disk.Extent.{Extent}
use Rattle.fc_objects.specs.declared.reader.ObjectReader.{ObjectReader}
use Rattle.fc_objects.specs.Ahead.{ahead}
use Rattle.fc_objects.specs.Bytes.{bytes_ahead, first_bytes, length_ahead}
use Rattle.fc_objects.specs.Extents.{sectors_in}
use Rattle.fc_image.specs.Layout.{bytes_in, sector_bytes, sectors_at}
use Rattle.fc_tree.specs.declared.node.Node.{Node}
use Rattle.fc_tree.proofs.WalkedLemmas.{same_some}
use Rattle.fc_volume.specs.declared.lines.FileRef.{FileRef}
use Rattle.fc_volume.specs.Answers.{IsPlace, IsRef, file_bytes, ref_bytes}
use Rattle.fc_volume.specs.Volume.{Volume, parts_of}

-- at first a reader has all bytes ahead
pub all_ahead : (size : ℕ) (image sectors : List ℕ) (len : ℕ) (r : ObjectReader) → ahead r.sectors ≡ sectors → r.size ≡ size → r.len ≡ len
    → bytes_ahead image r ≡ first_bytes size image sectors len
all_ahead size image sectors len r at sized long =
    ap (λ (k : ℕ). first_bytes k image (ahead r.sectors) r.len) sized ∙ ap₂ (λ (xs : List ℕ) (n : ℕ). first_bytes size image xs n) at long

-- and as many
pub long_ahead : (size len : ℕ) (sectors : List ℕ) (r : ObjectReader) → ahead r.sectors ≡ sectors → r.size ≡ size → r.len ≡ len → length_ahead r ≡ min len (length sectors * size)
long_ahead size len sectors r at sized long =
    ap (λ (n : ℕ). min n (length (ahead r.sectors) * r.size)) long ∙ ap₂ (λ (xs : List ℕ) (k : ℕ). min len (length xs * k)) at sized

same_bytes : (size : ℕ) (image sectors : List ℕ) (n : ℕ) → first_bytes size image sectors n ≡ bytes_in size image sectors n
unfolding first_bytes bytes_in
same_bytes size image sectors n = refl

-- the first bytes of a file's place are the file's
pub bytes_of_place : (image : List ℕ) (v : Volume) (f : FileRef) (place : List Extent) (size : ℕ) → IsRef v f → IsPlace v f place → size ≡ sector_bytes (parts_of v).layout
    → first_bytes size image (sectors_in place) f.len ≡ ref_bytes image v f
bytes_of_place image v f place size named at sized =
    let layout = (parts_of v).layout in
    let long : f.len ≡ at.node.entry.len = named.3 ∙ ap (λ (n : Node). n.entry.len) (same_some named.0 at.node (sym named.1 ∙ at.named)) in
    same_bytes size image (sectors_in place) f.len
    ∙ ap (λ (k : ℕ). bytes_in k image (sectors_in place) f.len) sized
    ∙ ap (λ (o : Option (List ℕ)). bytes_in (sector_bytes layout) image (unwrap_or o []) f.len) (sym at.sectors)
    ∙ ap (λ (n : ℕ). bytes_in (sector_bytes layout) image (unwrap_or (sectors_at layout at.node.entry.address n) []) n) long
    ∙ sym (ap (λ (o : Option Node). option_map_or (λ (n : Node). file_bytes image layout n.entry) o []) at.named)
