-- Where files lie, and their bytes, piece by piece.
use Rattle.std.proofs.Common.{◌≡◌, ◌<◌, ◌≤◌, ℕ, ◌+◌, ◌*◌, ◌/◌, ◌%◌, true, false, List, [], ◌++◌, length, take, drop, Option, Some, None, sym, ap, subst, ◌∙◌, arith, inl, inr}
use Rattle.std.specs.Prelude.{option_map}
use Rattle.std.specs.List.{flat_map}
use Rattle.std.specs.Option.{option_map_or, unwrap_or}
use Rattle.std.specs.FinMap.{get}
use Rattle.std.proofs.Math.Nat.{div-mul-le_self}
use Rattle.std.proofs.lemmas.Nat.{div-add-mod', mul-le}
use Rattle.std.proofs.lemmas.List.{take_at}
use Rattle.fc_device.specs.declared.disk.Extent.{Extent}
use Rattle.fc_device.specs.Sectors.{IsSectorSize, sector_at}
use Rattle.fc_objects.specs.Extents.{sectors_in}
use Rattle.fc_record.specs.declared.Kind.{Kind}
use Rattle.fc_names.specs.Names.{is_directory}
use Rattle.fc_dirs.specs.declared.Entry.{Entry}
use Rattle.fc_image.specs.Layout.{Layout, bytes_in, disc_sectors, is_among, sector_bytes, sectors_at}
use Rattle.fc_image.specs.Walk.{is_directory_object}
use Rattle.fc_image.specs.Opening.{reserved_in}
use Rattle.fc_space.specs.Space.{PlacesSuffice, Suffice, nth_sector}
use Rattle.fc_space.proofs.NthLemmas.{nth_among, nth_cases}
use Rattle.fc_tree.specs.declared.node.Node.{Node}
use Rattle.fc_tree.specs.Nodes.{nodes_of}
use Rattle.fc_tree.specs.Agree.{Agree, reader_of_nodes}
use Rattle.fc_image.specs.Sound.{AreSound}
use Rattle.fc_tree.proofs.FindLemmas.{object_of_number}
use Rattle.fc_tree.proofs.LengthLemmas.{sector_long}
use Rattle.fc_tree.proofs.WalkedLemmas.{same_some}
use Rattle.fc_volume.specs.declared.lines.FileRef.{FileRef}
use Rattle.fc_volume.specs.Answers.{IsPlace, IsRef, file_bytes, ref_bytes}
use Rattle.fc_volume.specs.Volume.{Volume, parts_of}
use Rattle.fc_volume.proofs.BlockLemmas.{piece_of}
use Rattle.fc_volume.proofs.ReadingLemmas.{each_at, file_sectors}
use Rattle.fc_tree.proofs.EndLemmas.{no_twin as apart_names}
use Rattle.fc_tree.proofs.ReadingLemmas.{all_on_disk as all_low}

-- ---- places

-- the node that a reference names
pub named_node : (v : Volume) (f : FileRef) (node : Node) → IsRef v f → get (nodes_of v.tree) f.node ≡ Some node → (is_directory node.entry.attrs ≡ false) × (f.len ≡ node.entry.len)
named_node v f node named g =
    let same = same_some named.0 node (sym named.1 ∙ g) in
    (ap (λ (n : Node). is_directory n.entry.attrs) (sym same) ∙ named.2, named.3 ∙ ap (λ (n : Node). n.entry.len) same)

pub place_is : (v : Volume) (f : FileRef) (node : Node) (layout : Layout) (place : List Extent) → get (nodes_of v.tree) f.node ≡ Some node → layout ≡ (parts_of v).layout
    → sectors_at layout node.entry.address f.len ≡ Some (sectors_in place) → Suffice layout f.len (sectors_in place) → IsPlace v f place
place_is v f node layout place g is at suffice = record {
  node = node;
  named = g;
  sectors = ap (λ (l : Layout). sectors_at l node.entry.address f.len) (sym is) ∙ at;
  on_disc = all_low (disc_sectors (parts_of v).layout) (sectors_in place) (λ s e. subst (λ (l : Layout). s < disc_sectors l) is (suffice.on_disc s e));
}

-- A file of a volume has a place.
pub file_placed : (v : Volume) (f : FileRef) (node : Node) → (kind : Kind) × Agree kind (parts_of v) → IsRef v f → get (nodes_of v.tree) f.node ≡ Some node
    → (sectors : List ℕ) × (sectors_at (parts_of v).layout node.entry.address f.len ≡ Some sectors)
file_placed v f node agree named g =
    let a = agree.1 in
    let w = a.walked in
    let layout = (parts_of v).layout in
    let sound : AreSound layout a.listings = record {
      read = reader_of_nodes (nodes_of v.tree);
      reserved = reserved_in agree.0 layout;
      address = a.root.entry.address;
      size = a.root.entry.len;
      walked = w.walked;
      apart = λ l at. apart_names l.content (w.bodies l at);
    } in
    let o = object_of_number layout a.listings (nodes_of v.tree) sound w.held f.node node g in
    let has = w.held.each o.0 o.1 in
    let number = same_some has.number f.node (sym has.at_path ∙ o.2) in
    let entry : node.entry ≡ o.0.entry = same_some node.entry o.0.entry (ap (option_map (λ (n : Node). n.entry)) (sym g ∙ ap (get (nodes_of v.tree)) (sym number) ∙ has.is)) in
    let is = named_node v f node named g in
    let file : is_directory_object o.0 ≡ false = ap (λ (e : Entry). is_directory e.attrs) (sym entry) ∙ is.0 in (
      o.0.sectors,
      ap (sectors_at layout node.entry.address) is.1 ∙ ap (λ (e : Entry). sectors_at layout e.address e.len) entry ∙ file_sectors layout o.0 (each_at layout a.listings sound o.0 o.1) file,
    )

-- ---- pieces

-- the bytes of a file from a place in it on, up to the end of a sector, are those of that sector
pub piece_bytes : (image : List ℕ) (v : Volume) (f : FileRef) (node : Node) (size at n s : ℕ) → get (nodes_of v.tree) f.node ≡ Some node → f.len ≡ node.entry.len → PlacesSuffice (parts_of v).layout
    → size ≡ sector_bytes (parts_of v).layout → disc_sectors (parts_of v).layout * size ≤ length image → nth_sector (parts_of v).layout node.entry.address f.len (at / size) ≡ Some s
    → 0 < size → at % size + n ≤ size → at + n ≤ f.len → take n (drop at (ref_bytes image v f)) ≡ take n (drop (at % size) (sector_at size image s))
unfolding bytes_in
piece_bytes image v f node size at n s g len suffice is long nth some within short =
    let layout = (parts_of v).layout in
    let c = nth_cases (sectors_at layout node.entry.address f.len) (at / size) s nth in
    let low = suffice node.entry.address f.len c.0 c.1 in
    let each = λ (t : ℕ) (e : is_among c.0 t ≡ true). sector_long size (disc_sectors layout) image t (low.on_disc t e) long in
    let bytes : ref_bytes image v f ≡ take f.len (flat_map (sector_at size image) c.0) =
    ap (λ (m : Option Node). option_map_or (λ (x : Node). file_bytes image layout x.entry) m []) g
    ∙ ap (λ (k : ℕ). take k (flat_map (sector_at (sector_bytes layout) image) (unwrap_or (sectors_at layout node.entry.address k) []))) (sym len)
    ∙ ap (λ (o : Option (List ℕ)). take f.len (flat_map (sector_at (sector_bytes layout) image) (unwrap_or o []))) c.1
    ∙ ap (λ (k : ℕ). take f.len (flat_map (sector_at k image) c.0)) (sym is) in
    ap (λ (xs : List ℕ). take n (drop at xs)) bytes
    ∙ piece_of (sector_at size image) size (at / size) (at % size) n at f.len c.0 s each c.2 (each s (nth_among (at / size) s c.0 c.2)) (sym (div-add-mod' at size)) within short

pub small_size : (size : ℕ) → IsSectorSize size → (0 < size) × (size ≤ 1024)
small_size size (inl e) = (omega (arith, e), omega (arith, e))
small_size size (inr (inl e)) = (omega (arith, e), omega (arith, e))
small_size size (inr (inr e)) = (omega (arith, e), omega (arith, e))

pub not_outside : (v : Volume) (f : FileRef) (node : Node) → (kind : Kind) × Agree kind (parts_of v) → IsRef v f → get (nodes_of v.tree) f.node ≡ Some node
    → (layout : Layout) → layout ≡ (parts_of v).layout → sectors_at layout node.entry.address f.len ≡ None → ⊥
not_outside v f node agree named g layout is none =
    let p = file_placed v f node agree named g in
    let both : Some p.0 ≡ None = sym p.1 ∙ ap (λ (l : Layout). sectors_at l node.entry.address f.len) (sym is) ∙ none in
    cc

-- a disk has the sectors of its disc
pub disk_long : (disc sectors own size long : ℕ) (image : List ℕ) → disc ≤ sectors → sectors ≡ long / own → length image ≡ long → own ≡ size → disc * size ≤ length image
disk_long disc sectors own size long image room whole told same =
    let part : disc * size ≤ long / own * own = mul-le disc size (long / own) own (omega (arith, room, whole)) (omega (arith, same)) in
    let all = div-mul-le_self long own in
    omega (arith, part, all, told)

-- a part that was filled, before what stays
pub filled_is : (n r : ℕ) (new part rest sector want : List ℕ) → new ≡ take (length part) (drop r sector) → length new ≡ length part → length new ≡ n → want ≡ take n (drop r sector) → take n (new ++ rest) ≡ want
filled_is n r new part rest sector want is same long w =
    take_at new rest n long ∙ is ∙ ap (λ (k : ℕ). take k (drop r sector)) (sym same ∙ long) ∙ sym w
