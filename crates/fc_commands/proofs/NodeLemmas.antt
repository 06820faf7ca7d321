-- The node of a listed directory: what it says, where it lies, who holds it, and that a head can name it.
use Rattle.std.proofs.Common.{◌≡◌, ◌<◌, ◌≤◌, ◌⊎◌, inl, inr, ℕ, zero, suc, ◌+◌, ◌/◌, ◌%◌, ◌^◌, ◌==◌, ◌&&◌, Bool, true, false, cond, not, find, List, [], ◌∷◌, drop, map, slice_get, Option, Some, None, refl, sym, ap, subst, ◌∙◌, arith, mod-lt, eq-eqb}
use Rattle.std.specs.Prelude.{Contains, is_none, nat_le, nat_lt}
use Rattle.std.specs.Int.{div_ceil}
use Rattle.std.specs.Option.{option_map, option_map_or}
use Rattle.std.specs.Ordering.{nat_cmp}
use Rattle.std.specs.FinMap.{FinMap, get}
use Rattle.std.proofs.lemmas.Bool.{and_parts, eqb-true, leb-true, ltb-true}
use Rattle.std.proofs.lemmas.Nat.{div-add-mod'}
use Rattle.std.proofs.Math.Nat.{pow-le-pow_right}
use Rattle.fc_names.specs.Names.{is_directory}
use Rattle.fc_names.specs.declared.name.NameForm.{NameForm}
use Rattle.fc_names.specs.declared.name.NameForm.TheVariants as forms
use Rattle.fc_record.specs.declared.DiscRecord.{DiscRecord}
use Rattle.fc_record.specs.declared.Geometry.{Geometry}
use Rattle.fc_record.specs.declared.RecordFault.{RecordFault}
use Rattle.fc_record.specs.Record.{conditions, geometry, id_limit, is_idlen_right, is_sector_right, is_valid, record_fault}
use Rattle.fc_newmap.specs.Map.{Map}
use Rattle.fc_newmap.specs.NewMap.{IsNewMap, IsOfRecord}
use Rattle.fc_oldmap.specs.OldMap.{OldMapContent, IsOldMap}
use Rattle.fc_dirs.specs.declared.Entry.{Entry}
use Rattle.fc_dirs.specs.declared.SmallForm.{SmallForm}
use Rattle.fc_dirs.specs.Small.{tail_of}
use Rattle.fc_dirs.specs.Directory.{Directory, directory_size, entries_of}
use Rattle.fc_drafts.specs.Draft.{CanAddress, IsSayable, size_of}
use Rattle.fc_image.specs.Layout.{Layout, dir_form, first_part, id_of, id_sectors, is_object_id, low_of, low_start, new_sectors, sectors_at}
use Rattle.fc_image.specs.Edits.{IsAt}
use Rattle.fc_image.specs.Objects.{listing_at, objects_of}
use Rattle.fc_image.specs.Report.{holder_address}
use Rattle.fc_image.specs.Sound.{AreSound}
use Rattle.fc_image.specs.Walk.{Listing, Object, is_directory_object, object_size}
use Rattle.fc_image.proofs.HolesLemmas.{Each-contains, Each-objects, Lies, walk_lies}
use Rattle.fc_model.specs.Tree.{holder}
use Rattle.fc_changes.proofs.lemmas.old.PlaceLemmas.{row_or_none}
use Rattle.fc_tree.specs.declared.node.Node.{Node}
use Rattle.fc_tree.specs.Agree.{HasForm, IsDirectory}
use Rattle.fc_tree.specs.Counts.{address_in}
use Rattle.fc_tree.specs.Nodes.{HasNode, HoldObjects, body_in, body_of, number_of}
use Rattle.fc_commands.specs.Run.{IsMapIn}
use Rattle.fc_tree.proofs.SoundLemmas.{children_stored}
use Rattle.fc_tree.proofs.WalkedLemmas.{holder_listed, listed_directory, listing_found, place_of, same_some}
use Rattle.fc_edits.proofs.lemmas.ViewLemmas.{one_content}
use Rattle.fc_laws.proofs.lemmas.agree.SayLemmas.{as_directory as says_it}

-- each object of a sound walk lies at its address
pub each_at : (layout : Layout) (listings : List Listing) → AreSound layout listings → (o : Object) → Contains (objects_of listings) o → IsAt layout o
each_at layout listings sound o at =
    (Each-contains (Lies layout sound.reserved) (objects_of listings) o
    (Each-objects (Lies layout sound.reserved) listings (walk_lies sound.read layout sound.reserved sound.address sound.size listings sound.walked)) at).placed

module _ (nodes : FinMap nat_cmp Node) (layout : Layout) (listings : List Listing) (sound : AreSound layout listings) (held : HoldObjects nodes listings) (l : Listing) (listed : Contains listings l)
    (n : ℕ) (number : number_of nodes l.object.path ≡ Some n) where
  pub among : Contains (objects_of listings) l.object
  among = (listed_directory layout listings sound l listed).0

  pub directory : is_directory_object l.object ≡ true
  directory = (listed_directory layout listings sound l listed).1

  abbrev has : HasNode nodes listings l.object
  has = held.each l.object among

  abbrev pub node : Node
  node = record { holder = has.holder_number; entry = l.object.entry; body = body_of (listing_at listings l.object.path) }

  pub there : get nodes n ≡ Some node
  there = ap (get nodes) (same_some n has.number (sym number ∙ has.at_path)) ∙ has.is

  pub says : node.body ≡ body_in l.content
  says = ap body_of (listing_found layout listings sound l listed)

  pub placed : IsAt layout l.object
  placed = each_at layout listings sound l.object among

  -- the directory that holds it
  abbrev pub above : (k : Listing) × Contains listings k × (holder l.object.path ≡ k.object.path)
  above = let i = place_of (objects_of listings) l.object among in holder_listed layout listings sound i.0 l.object i.1

  pub above_address : address_in nodes node.holder ≡ above.0.object.entry.address
  above_address =
      let h = held.each above.0.object (listed_directory layout listings sound above.0 above.1).0 in
      let same : has.holder_number ≡ h.number = same_some has.holder_number h.number (sym has.at_holder ∙ ap (number_of nodes) above.2 ∙ h.at_path) in
      ap (address_in nodes) same ∙ ap (λ (x : Option Node). option_map_or (λ (m : Node). m.entry.address) x 0) h.is

  pub parent_is : address_in nodes node.holder ≡ holder_address listings l.object.path
  parent_is =
      let found : listing_at listings (holder l.object.path) ≡ Some above.0 = ap (listing_at listings) above.2 ∙ listing_found layout listings sound above.0 above.1 in
      above_address ∙ ap (λ (x : Option Listing). option_map_or (λ (k : Listing). k.object.entry.address) x 0) (sym found)

  -- what any word for the node says
  pub one_node : (other : Node) → get nodes n ≡ Some other → node ≡ other
  one_node other is = same_some node other (sym there ∙ is)

-- ---- entries and children

entry_of_child : (os : List Object) (i : ℕ) (o : Object) → slice_get os i ≡ Some o → slice_get (map (λ (x : Object). x.entry) os) i ≡ Some o.entry
entry_of_child [] i o is = absurd (cc)
entry_of_child (x ∷ os) zero o is = ap (λ (y : Object). let e : Option Entry = Some y.entry in e) (same_some x o is)
entry_of_child (x ∷ os) (suc i) o is = entry_of_child os i o is

pub child_entry : (layout : Layout) (listings : List Listing) (l : Listing) (i : ℕ) (o : Object) → AreSound layout listings → Contains listings l → slice_get l.children i ≡ Some o
    → slice_get (entries_of l.content) i ≡ Some o.entry
child_entry layout listings l i o sound listed at = ap (λ (es : List Entry). slice_get es i) (sym (children_stored layout listings sound l listed)) ∙ entry_of_child l.children i o at

-- ---- addresses

valid_idlen : (r : DiscRecord) → is_valid r ≡ true → is_idlen_right r ≡ true
unfolding record_fault
valid_idlen r e = by (is_sector_right r) (is_idlen_right r) (find (λ c. not c.2) (drop 2 (conditions r))) e
  where
    by : (a b : Bool) (rest : Option (ℕ × ℕ × Bool))
        → is_none (option_map (λ c. let f : RecordFault = record { field = c.0; value = c.1 } in f) (cond (not a) (Some (0, r.log2_sector, a)) (cond (not b) (Some (4, r.idlen, b)) rest))) ≡ true → b ≡ true
    by true true rest h = refl
    by true false rest h = absurd (cc)
    by false b rest h = absurd (cc)

short_idlen : (g : Geometry) → IsOfRecord g → g.version ≡ 0 → g.idlen ≤ 15
short_idlen g is = subst (λ (h : Geometry). h.version ≡ 0 → h.idlen ≤ 15) is.1.1 (of_record is.0 is.1.0)
  where
    of_record : (r : DiscRecord) → is_valid r ≡ true → (geometry r).version ≡ 0 → (geometry r).idlen ≤ 15
    of_record r valid zero_version =
        let right = ap (λ (b : Bool). nat_le (r.log2_sector + 3) r.idlen && nat_le r.idlen (cond b 15 19)) (sym (eq-eqb r.version 0 zero_version)) ∙ valid_idlen r valid in
        leb-true r.idlen 15 (and_parts (nat_le (r.log2_sector + 3) r.idlen) (nat_le r.idlen 15) right).1

-- identifiers are few where directories are small
pub short_id : (m : Map) → IsNewMap m → m.geometry.version ≡ 0 → (id : ℕ) → id < 2 ^ m.geometry.idlen → id < 2 ^ 15
short_id m is old id low = let few : 2 ^ m.geometry.idlen ≤ 2 ^ 15 = pow-le-pow_right {n = 2} (omega arith) (short_idlen m.geometry is.of_record old) in omega (arith, low, few)

-- an address at which bytes lie fits the three bytes of a small directory
pub low_address : (m : Map) (address bytes : ℕ) (xs : List ℕ) → IsNewMap m → m.geometry.version ≡ 0 → (bytes == 0) ≡ false → sectors_at (Layout.New m) address bytes ≡ Some xs → address < 2 ^ 24
unfolding sectors_at
low_address m address bytes xs is old some at =
    let here : new_sectors m address bytes ≡ Some xs = ap (λ (b : Bool). cond b (Some []) (new_sectors m address bytes)) (sym some) ∙ at in
    let id = by (is_object_id m (id_of address)) refl here in
    let low = ltb-true (id_of address) (id_limit m.geometry) (and_parts (nat_le 2 (id_of address)) (nat_lt (id_of address) (id_limit m.geometry)) id).1 in
    let few : 2 ^ m.geometry.idlen ≤ 2 ^ 15 = pow-le-pow_right {n = 2} (omega arith) (short_idlen m.geometry is.of_record old) in
    let parts = div-add-mod' address 256 in
    let rest = mod-lt address {m = 256} (omega arith) in
    omega (arith, low, few, parts, rest)
  where
    by : (b : Bool) → is_object_id m (id_of address) ≡ b
        → cond b (first_part (div_ceil bytes m.geometry.sector) (drop (low_start m (low_of address)) (id_sectors m (id_of address)))) None ≡ Some xs → is_object_id m (id_of address) ≡ true
    by true e f = e
    by false e f = absurd (cc)

-- the head of a directory can name one that lies on the disc
pub addressed : (m : Map) (content : Directory) (len : ℕ) (o : Object) → IsNewMap m → HasForm (dir_form (Layout.New m)) len content → is_directory_object o ≡ true → IsAt (Layout.New m) o
    → CanAddress content o.entry.address
addressed m (Directory.Big dir) len o is form dirs at = tt
addressed m (Directory.Small dir) len o is form dirs at = by (m.geometry.version == 0) refl form at
  where
    by : (b : Bool) → (m.geometry.version == 0) ≡ b → HasForm (cond b forms.Ten forms.Long) len (Directory.Small dir)
        → sectors_at (Layout.New m) o.entry.address (object_size (cond b forms.Ten forms.Long) o.entry) ≡ Some o.sectors → o.entry.address < 2 ^ 24
    by true e f h =
        low_address m o.entry.address 2048 o.sectors is (eqb-true m.geometry.version 0 e) refl
        (ap (λ (b : Bool). sectors_at (Layout.New m) o.entry.address (cond b 2048 o.entry.len)) (sym dirs) ∙ h)
    by false e f h = absurd f

-- an address at which bytes lie fits three bytes
below_disc : (u d a : ℕ) → (u ≡ 1) ⊎ (u ≡ 4) → a % u ≡ 0 → a / u ≤ d / u → a ≤ d
below_disc u d a (inl one) whole low = let w = subst (λ (k : ℕ). a % k ≡ 0) one whole in let l = subst (λ (k : ℕ). a / k ≤ d / k) one low in omega (arith, w, l)
below_disc u d a (inr four) whole low = let w = subst (λ (k : ℕ). a % k ≡ 0) four whole in let l = subst (λ (k : ℕ). a / k ≤ d / k) four low in omega (arith, w, l)

pub old_low_address : (space : OldMapContent) (address bytes : ℕ) (xs : List ℕ) → IsOldMap space → (bytes == 0) ≡ false → sectors_at (Layout.Old space) address bytes ≡ Some xs → address < 2 ^ 24
old_low_address space address bytes xs is some at = elim (row_or_none space address bytes xs at) [
  | inl none ↦ absurd (let zero' = none.0 in let no' = subst (λ (n : ℕ). (n == 0) ≡ false) zero' some in cc)
  | inr row ↦ (let inside = row.inside in
      let on = below_disc space.sector_units space.disc_units address is.units row.begins (omega (arith, inside)) in
      let disc = is.disc in omega (arith, on, disc))
]

-- the head of a directory can name one that lies on the disc
pub old_addressed : (space : OldMapContent) (content : Directory) (o : Object) → IsOldMap space → is_directory_object o ≡ true → IsAt (Layout.Old space) o → CanAddress content o.entry.address
old_addressed space (Directory.Big dir) o is dirs at = tt
old_addressed space (Directory.Small dir) o is dirs at = by (space.sector_units == 4) at
  where
    by : (b : Bool) → sectors_at (Layout.Old space) o.entry.address (object_size (cond b forms.Ten forms.Seven) o.entry) ≡ Some o.sectors → o.entry.address < 2 ^ 24
    by true h = old_low_address space o.entry.address 2048 o.sectors is refl (ap (λ (b : Bool). sectors_at (Layout.Old space) o.entry.address (cond b 2048 o.entry.len)) (sym dirs) ∙ h)
    by false h = old_low_address space o.entry.address 1280 o.sectors is refl (ap (λ (b : Bool). sectors_at (Layout.Old space) o.entry.address (cond b 1280 o.entry.len)) (sym dirs) ∙ h)

-- ---- on any map

-- the head of a directory can name one that lies on the disc
pub can_address : (layout : Layout) (content : Directory) (len : ℕ) (o : Object) → IsMapIn layout → HasForm (dir_form layout) len content → is_directory_object o ≡ true → IsAt layout o
    → CanAddress content o.entry.address
can_address (Layout.New m) content len o is form dirs at = addressed m content len o is form dirs at
can_address (Layout.Old space) content len o is form dirs at = old_addressed space content o is dirs at

-- the bytes of a directory of the disc's form are those that its entry asks for
pub size_of_form : (form : NameForm) (e : Entry) (dir : Directory) → HasForm form e.len dir → is_directory e.attrs ≡ true → size_of dir ≡ object_size form e
size_of_form form e dir has is = by form dir has ∙ ap (λ (b : Bool). cond b (directory_size form e.len) e.len) (sym is)
  where
    by : (f : NameForm) (d : Directory) → HasForm f e.len d → size_of d ≡ directory_size f e.len
    by forms.Seven (Directory.Small d) h = ap (λ (s : SmallForm). (tail_of s).size) h
    by forms.Ten (Directory.Small d) h = ap (λ (s : SmallForm). (tail_of s).size) h
    by forms.Long (Directory.Small d) h = absurd h
    by forms.Seven (Directory.Big d) h = absurd h
    by forms.Ten (Directory.Big d) h = absurd h
    by forms.Long (Directory.Big d) h = h

-- ---- the node of a listed directory, however it was found

module _ (nodes : FinMap nat_cmp Node) (layout : Layout) (listings : List Listing) (sound : AreSound layout listings) (held : HoldObjects nodes listings) (l : Listing) (listed : Contains listings l)
    (n : ℕ) (number : number_of nodes l.object.path ≡ Some n) (found : Node) (is_found : get nodes n ≡ Some found) where
  node_is : node nodes layout listings sound held l listed n number ≡ found
  node_is = one_node nodes layout listings sound held l listed n number found is_found

  pub entry_is : found.entry ≡ l.object.entry
  entry_is = ap (λ (x : Node). x.entry) (sym node_is)

  pub content_is : (old : Directory) → found.body ≡ body_in old → old ≡ l.content
  content_is old it_says = one_content old l.content (sym it_says ∙ ap (λ (x : Node). x.body) (sym node_is) ∙ says nodes layout listings sound held l listed n number)

  pub held_at : address_in nodes found.holder ≡ holder_address listings l.object.path
  held_at = ap (λ (x : Node). address_in nodes x.holder) (sym node_is) ∙ parent_is nodes layout listings sound held l listed n number

  pub sectors_are : (sectors : List ℕ) → sectors_at layout found.entry.address (object_size (dir_form layout) found.entry) ≡ Some sectors → sectors ≡ l.object.sectors
  sectors_are sectors place =
      same_some sectors l.object.sectors
      (sym place ∙ ap (λ (e : Entry). sectors_at layout e.address (object_size (dir_form layout) e)) entry_is ∙ placed nodes layout listings sound held l listed n number)
