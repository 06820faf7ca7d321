-- What a writer puts into sectors, step by step and in the end, and what an edit needs of it.
use Rattle.std.specs.Prelude.{◌≡◌, ◌<◌, ◌≤◌, ◌⊎◌, ◌*◌, ℕ, true, false, List, length, get_or, Contains, Some}
use Rattle.std.specs.List.{flat_map}
use Rattle.fc_device.specs.Sectors.{sector_at}
use Rattle.fc_dirs.specs.Directory.{Directory}
use Rattle.fc_image.specs.Layout.{Layout, bytes_in, dir_form, is_among, map_place, sector_bytes}
use Rattle.fc_image.specs.Walk.{Listing, Object, object_bytes, object_size}
use Rattle.fc_image.specs.effects.Steady.{AreWritten}
use Rattle.fc_objects.specs.Written.{HasParts, part_at}
use Rattle.fc_tree.specs.Nodes.{number_of}
use Rattle.fc_laws.specs.nodes.Edits.{Nodes}
use Rattle.fc_edits.specs.Edit.{Amended, Edit, joining, leaving, numbers}
use Rattle.fc_edits.specs.PartsEdit.{PartsEdit}
use Rattle.fc_outcomes.specs.Written.{IsEditWritten, WritesForEdit}

-- ---- step by step

-- sectors and the bytes that they get
pub record Put : Type 0 where
  pub sectors : List ℕ
  pub bytes : List ℕ

-- ---- in the end

-- Outside the map these sectors begin with these bytes, and all else is as before.
pub record ArePutOut (layout : Layout) (puts : List Put) (image image' : List ℕ) : Type 0 where
  pub length_stays : length image' ≡ length image
  pub there : (p : Put) → Contains puts p → bytes_in (sector_bytes layout) image' p.sectors (length p.bytes) ≡ p.bytes
  pub others : (s : ℕ) → is_among (map_place layout) s ≡ false → ((p : Put) → Contains puts p → is_among p.sectors s ≡ false)
      → sector_at (sector_bytes layout) image' s ≡ sector_at (sector_bytes layout) image s

-- all sectors that are written
abbrev pub put_sectors : List Put → List ℕ
put_sectors puts = flat_map (λ (p : Put). p.sectors) puts

-- The object, a directory that says `content`, gets its bytes.
pub record IsDirectoryPut (layout : Layout) (o : Object) (content : Directory) (puts : List Put) : Type 0 where
  pub bytes : List ℕ
  pub among : Contains puts (record { sectors = o.sectors; bytes = bytes })
  pub says : AreWritten bytes content
  pub long : length bytes ≡ object_size (dir_form layout) o.entry

-- Each directory that says something else gets its bytes at its new place, and each that comes gets its own. Nothing else is written but
-- objects that join a directory. A directory that moves and says what it said is copied.
pub record ArePutsOf (layout layout' : Layout) (nodes : Nodes) (e : Edit) (puts : List Put) (image image' : List ℕ) : Type 0 where
  pub says : (a : Amended) → Contains e.amended a → IsDirectoryPut layout' (e.turn a.was.object) a.content puts
  pub into_say : (d : ℕ × Listing) → Contains e.into d → IsDirectoryPut layout' d.1.object d.1.content puts
  pub whose : (p : Put) → Contains puts p
      → ((a : Amended) × Contains e.amended a × (p.sectors ≡ (e.turn a.was.object).sectors)) ⊎ ((q : ℕ × Object) × Contains (joining e) q × (p.sectors ≡ q.1.sectors))
  pub carried : (k : Listing) (n : ℕ) → Contains e.same k → number_of nodes k.object.path ≡ Some n → Contains (numbers (leaving e)) n
      → object_bytes image' layout' (e.turn k.object) ≡ object_bytes image layout k.object

-- These sectors, each with its bytes, are those of the puts: each sector of a put with its part of the bytes, filled up with zeros, and no other.
pub record AreContents (size : ℕ) (puts : List Put) (contents : List (ℕ × List ℕ)) : Type 0 where
  pub there : (p : Put) → Contains puts p → (i : ℕ) → i < length p.sectors → Contains contents (get_or p.sectors i 0, part_at size p.bytes i)
  pub only : (c : ℕ × List ℕ) → Contains contents c → (p : Put) × Contains puts p × (is_among p.sectors c.0 ≡ true)
  pub long : (p : Put) → Contains puts p → length p.bytes ≤ length p.sectors * size

-- So what the edit needs is written, and its directories have all their bytes.
pub record PutsLaw : Type 0 where
  -- It is so if these sectors have their bytes, and each other sector outside the map is as it was.
  pub contents : (layout : Layout) (puts : List Put) (contents : List (ℕ × List ℕ)) (image image' : List ℕ) → length image' ≡ length image → AreContents (sector_bytes layout) puts contents
      → ((c : ℕ × List ℕ) → Contains contents c → sector_at (sector_bytes layout) image' c.0 ≡ c.1)
      → ((s : ℕ) → is_among (map_place layout) s ≡ false
      → (sector_at (sector_bytes layout) image' s ≡ sector_at (sector_bytes layout) image s) ⊎ Contains contents (s, sector_at (sector_bytes layout) image' s))
      → ArePutOut layout puts image image'
  -- It is so if each sector has its part of the bytes, filled up with zeros, and there are sectors enough.
  pub parts : (layout : Layout) (puts : List Put) (image image' : List ℕ) → length image' ≡ length image
      → ((p : Put) → Contains puts p → HasParts (sector_bytes layout) p.sectors p.bytes image' × (length p.bytes ≤ length p.sectors * sector_bytes layout))
      → ((s : ℕ) → is_among (map_place layout) s ≡ false → ((p : Put) → Contains puts p → is_among p.sectors s ≡ false) → sector_at (sector_bytes layout) image' s ≡ sector_at (sector_bytes layout) image s)
      → ArePutOut layout puts image image'
  pub written : (x : PartsEdit) (puts : List Put) (image image' : List ℕ) → sector_bytes x.layout' ≡ sector_bytes x.layout → ArePutOut x.layout puts image image' → ArePutsOf x.layout x.layout' x.nodes x.edit puts image image'
      → IsEditWritten image image' x.layout x.layout' x.nodes x.listings x.edit
  pub only : (x : PartsEdit) (puts : List Put) (image image' : List ℕ) → ArePutOut x.layout puts image image' → ArePutsOf x.layout x.layout' x.nodes x.edit puts image image'
      → WritesForEdit image image' x.layout x.edit (put_sectors puts)
  pub bytes : (layout layout' : Layout) (puts : List Put) (image image' : List ℕ) (o : Object) (content : Directory) → sector_bytes layout' ≡ sector_bytes layout
      → ArePutOut layout puts image image' → IsDirectoryPut layout' o content puts → AreWritten (object_bytes image' layout' o) content
