-- Discs with old maps of which directories are edited.
use Rattle.std.proofs.Common.{◌≡◌, ◌<◌, ◌≤◌, ℕ, Bool, true, false, List, [], ◌∷◌, ◌++◌, length, map, refl, sym, ap, ap₂, subst, ◌∙◌, arith, Some, None, Option}
use Rattle.std.specs.Prelude.{Result, Ok, Contains, IsPermutation}
use Rattle.fc_names.specs.Names.{Path}
use Rattle.fc_record.specs.declared.DiscRecord.{DiscRecord}
use Rattle.fc_record.specs.declared.Kind.{Kind}
use Rattle.fc_record.specs.declared.Kind.TheVariants.{Boot, OneZone, DiscD, DiscL}
use Rattle.fc_record.specs.Kinds.{disc_size}
use Rattle.fc_oldmap.specs.OldMap.{OldMapContent, free_space, hole_fault}
use Rattle.fc_dirs.specs.Directory.{directory_size}
use Rattle.fc_image.specs.declared.ImageFault.{ImageFault}
use Rattle.fc_image.specs.Layout.{Layout, dir_form, disc_sectors, sectors_at}
use Rattle.fc_image.specs.Walk.{Object, Listing, reader_of, object_size, root_entry, walk}
use Rattle.fc_image.specs.Objects.{first_object, objects_of}
use Rattle.fc_image.specs.Opening.{Opened, MapAndRoot, map_and_root, holes_or, reserved_in}
use Rattle.fc_image.specs.Stays.{IsNewKind, OpensAs}
use Rattle.fc_image.specs.Edits.{Apart, IsRoot}
use Rattle.fc_image.specs.Order.{held}
use Rattle.fc_image.specs.TreeEdits.{IsObjectEdit, IsMove}
use Rattle.fc_image.specs.Commanded.{IsKept, IsMoved}
use Rattle.fc_image.specs.EditedWalk.{IsImageEdit, IsWalkedAgain}
use Rattle.fc_image.specs.MapEdits.{OpensEdited}
use Rattle.fc_image.specs.OldEdits.{OldPlacesLaw, IsOldMapEdit, OldMapEditLaw}
use Rattle.fc_image.proofs.WalkLemmas.{walk-Tells, open_as-spelled}
use Rattle.fc_image.proofs.FreeLemmas.{parts_of}
use Rattle.fc_image.proofs.HolesLemmas.{found_map}
use Rattle.fc_image.proofs.RoomLemmas.{old_room}
use Rattle.fc_image.proofs.ShuffleLemmas.{same_first}
use Rattle.fc_image.proofs.OrderLemmas.{order_law}
use Rattle.fc_image.proofs.RelistLemmas.{root_once, edited_walk_law}

-- ---- places

pub old_places_law : OldPlacesLaw
unfolding sectors_at
old_places_law space space' o units disc at =
    ap₂ (λ (u d : ℕ). sectors_at (Layout.Old (record { holes = []; disc_units = d; sector_units = u })) o.entry.address (object_size (dir_form (Layout.Old (record { holes = []; disc_units = d; sector_units = u }))) o.entry))
    units disc ∙ at

-- ---- the root of an old disc

abbrev is_old : Layout → Bool
is_old (Layout.Old space) = true
is_old (Layout.New m) = false

pub found_ok : (x y : MapAndRoot) → (let q : Result MapAndRoot ImageFault = Ok x in q) ≡ Ok y → x ≡ y
found_ok x y h = cc

old_found : (o : Option ℕ) (space : OldMapContent) (a s : ℕ) (found : MapAndRoot) → holes_or (Layout.Old space, a, s) o ≡ Ok found → (let p : ℕ × ℕ = (a, s) in p) ≡ (found.1, found.2)
old_found None space a s found e = ap (λ (q : MapAndRoot). let p : ℕ × ℕ = (q.1, q.2) in p) (found_ok (Layout.Old space, a, s) found e)
old_found (Some n) space a s found e = absurd (cc)

new_found : (image : List ℕ) (kind : Kind) (r : DiscRecord) (layout : Layout) (a s : ℕ) → IsNewKind kind r → is_old layout ≡ true → map_and_root image kind ≡ Ok (layout, a, s) → ⊥
new_found image kind r layout a s new old e =
    let f = found_map image kind r (layout, a, s) new e in
    never (is_old layout) (ap (λ (q : MapAndRoot). is_old q.0) f.is) old
  where
    never : (b : Bool) → false ≡ b → b ≡ true → ⊥
    never true h g = cc
    never false h g = cc

-- On discs of one kind with old maps the root lies at one place.
same_root : (image image' : List ℕ) (kind : Kind) (space space' : OldMapContent) (a s a' s' : ℕ) → map_and_root image kind ≡ Ok (Layout.Old space, a, s)
    → map_and_root image' kind ≡ Ok (Layout.Old space', a', s') → (a ≡ a') × (s ≡ s')
same_root image image' (Boot r) space space' a s a' s' e f = absurd (new_found image (Boot r) r (Layout.Old space) a s refl refl e)
same_root image image' (OneZone r) space space' a s a' s' e f = absurd (new_found image (OneZone r) r (Layout.Old space) a s refl refl e)
same_root image image' DiscD space space' a s a' s' e f =
    let here = old_found (hole_fault image 4) (free_space image 4) 4 0 (Layout.Old space, a, s) e in
    let there = old_found (hole_fault image' 4) (free_space image' 4) 4 0 (Layout.Old space', a', s') f in
    (ap (λ (p : ℕ × ℕ). p.0) (sym here ∙ there), ap (λ (p : ℕ × ℕ). p.1) (sym here ∙ there))
same_root image image' (DiscL units) space space' a s a' s' e f =
    let here = old_found (hole_fault image 1) (free_space image 1) 2 0 (Layout.Old space, a, s) e in
    let there = old_found (hole_fault image' 1) (free_space image' 1) 2 0 (Layout.Old space', a', s') f in
    (ap (λ (p : ℕ × ℕ). p.0) (sym here ∙ there), ap (λ (p : ℕ × ℕ). p.1) (sym here ∙ there))

-- the old walk, from the root's place
record Before (kind : Kind) (image : List ℕ) (v : Opened) (space : OldMapContent) (root : Object) (address : ℕ) : Type 0 where
  walked : walk (reader_of image (Layout.Old space)) (Layout.Old space) (reserved_in kind (Layout.Old space)) address 0 ≡ Ok v.listings
  is_root : IsRoot (Layout.Old space) address 0 root
  room : length v.listings ≤ disc_sectors (Layout.Old space)
  long : disc_size kind ≤ length image

known : (kind : Kind) (image image' : List ℕ) (v : Opened) (space space' : OldMapContent) (root : Object) (address : ℕ) → OpensAs image kind v → v.layout ≡ Layout.Old space
    → first_object v.listings ≡ root ∷ [] → map_and_root image' kind ≡ Ok (Layout.Old space', address, 0) → Before kind image v space root address
known kind image image' v space space' root address opens layout first found =
    let p = parts_of image kind v opens.opened in
    let is : p.0.0 ≡ Layout.Old space = ap (λ (w : Opened). w.layout) p.1.4 ∙ layout in
    let here : map_and_root image kind ≡ Ok (Layout.Old space, p.0.1, p.0.2) = subst (λ (y : Layout). map_and_root image kind ≡ Ok (y, p.0.1, p.0.2)) is p.1.1 in
    let places = same_root image image' kind space space' p.0.1 p.0.2 address 0 here found in
    let by_place : walk (reader_of image (Layout.Old space)) (Layout.Old space) (reserved_in kind (Layout.Old space)) p.0.1 p.0.2 ≡ Ok v.listings =
    subst (λ (y : Layout). walk (reader_of image y) y (reserved_in kind y) p.0.1 p.0.2 ≡ Ok v.listings) is p.1.2 in
    let walked : walk (reader_of image (Layout.Old space)) (Layout.Old space) (reserved_in kind (Layout.Old space)) address 0 ≡ Ok v.listings =
    ap₂ (λ (a s : ℕ). walk (reader_of image (Layout.Old space)) (Layout.Old space) (reserved_in kind (Layout.Old space)) a s) (sym places.0) (sym places.1) ∙ by_place in
    let had = order_law.gives (reader_of image (Layout.Old space)) (Layout.Old space) (reserved_in kind (Layout.Old space)) address 0 v.listings walked in
    let objects : objects_of v.listings ≡ root ∷ held v.listings = ap (λ (os : List Object). os ++ held v.listings) first in
    let same : had.0 ≡ root = same_first had.0 root (held v.listings) (held v.listings) (sym had.4 ∙ objects) in
    record {
      walked = walked;
      is_root = subst (IsRoot (Layout.Old space) address 0) same had.1;
      room = old_room image space (reserved_in kind (Layout.Old space)) address 0 v.listings walked;
      long = p.1.0;
    }

-- ---- any edit

-- the same disc by its units
of_units : (space space' : OldMapContent) → space'.sector_units ≡ space.sector_units → space'.disc_units ≡ space.disc_units
    → (dir_form (Layout.Old space') ≡ dir_form (Layout.Old space)) × (disc_sectors (Layout.Old space') ≡ disc_sectors (Layout.Old space))
of_units space space' units disc = (
  ap (λ (u : ℕ). dir_form (Layout.Old (record { holes = []; disc_units = 0; sector_units = u }))) units,
  ap₂ (λ (u d : ℕ). disc_sectors (Layout.Old (record { holes = []; disc_units = d; sector_units = u }))) units disc,
)

module _ (kind : Kind) (image image' : List ℕ) (v : Opened) (space space' : OldMapContent) (root : Object) (g : Object → Object) (listings' : List Listing)
    (gone come kept : List Object) (e : IsOldMapEdit kind image image' v space space' root g listings' gone come kept) where
  abbrev TheEdit : Type 0
  TheEdit = IsImageEdit image image' (Layout.Old space) (Layout.Old space') (reserved_in kind (Layout.Old space)) (reserved_in kind (Layout.Old space')) e.address e.address 0 0 g
      v.listings listings' gone come kept

  abbrev TheWalk : Type 0
  TheWalk = IsWalkedAgain (reader_of image' (Layout.Old space')) (Layout.Old space) (Layout.Old space') (reserved_in kind (Layout.Old space')) e.address e.address 0 0 g v.listings listings' gone come kept

  record Walked : Type 0 where
    is : TheEdit
    walk_now : TheWalk
    opens : OpensAs image' kind (record { kind = kind; layout = Layout.Old space'; listings = walk_now.found })

  walked : Walked
  walked =
      let old = known kind image image' v space space' root e.address e.opens e.layout e.first e.found in
      let units = of_units space space' e.sector_stays e.disc_stays in
      let root_now : IsRoot (Layout.Old space') e.address 0 root =
      record {
        path = old.is_root.path;
        entry = old.is_root.entry ∙ ap (λ f. root_entry e.address (directory_size f 0)) (sym units.0);
        placed = old_places_law space space' root e.sector_stays e.disc_stays old.is_root.placed;
      } in
      let few = e.few in
      let room = old.room in
      let disc = units.1 in
      let is : TheEdit =
      record {
        walked = old.walked;
        relisted = e.relisted;
        say = e.say;
        root = λ p is. subst (λ (o : Object). IsRoot (Layout.Old space') e.address 0 (g o)) (root_once (Layout.Old space) e.address 0 root p old.is_root is)
            (subst (IsRoot (Layout.Old space') e.address 0) (sym e.root_stays) root_now);
        apart = λ p is. subst (λ (o : Object). Apart (reserved_in kind (Layout.Old space')) (come ++ map g (o ∷ kept))) (root_once (Layout.Old space) e.address 0 root p old.is_root is) e.apart;
        room = omega (arith, few, room, disc);
      } in
      let w : TheWalk =
      edited_walk_law.again (reader_of image (Layout.Old space)) (reader_of image' (Layout.Old space')) (Layout.Old space) (Layout.Old space') (reserved_in kind (Layout.Old space)) (reserved_in kind (Layout.Old space')) e.address e.address 0 0 g
      v.listings listings' gone come kept is in
      let len = e.length_stays in
      let long = old.long in
      record {
        is = is;
        walk_now = w;
        opens = record {
          kind_right = e.opens.kind_right;
          opened = open_as-spelled image' kind (Layout.Old space') e.address 0 (reader_of image' (Layout.Old space')) w.found e.fits (omega (arith, len, long)) e.found w.walked refl
              (walk-Tells (reader_of image' (Layout.Old space')) (Layout.Old space') (reserved_in kind (Layout.Old space')) e.address 0 w.found w.walked);
        };
      }

  any' : (changing others : List Object) → IsPermutation kept (changing ++ others) → ((o : Object) → Contains others o → IsKept image image' (Layout.Old space) (Layout.Old space') o (g o))
      → (w : OpensEdited kind image' (Layout.Old space') listings') × IsObjectEdit image image' v.layout (Layout.Old space') v.listings w.found (changing ++ gone) (map g changing ++ come)
  any' changing others order nodes =
      let k = walked in (
        record { found = k.walk_now.found; opens = k.opens; order = k.walk_now.order },
        subst (λ (y : Layout). IsObjectEdit image image' y (Layout.Old space') v.listings k.walk_now.found (changing ++ gone) (map g changing ++ come)) (sym e.layout)
            (edited_walk_law.edited image image' (Layout.Old space) (Layout.Old space') (reserved_in kind (Layout.Old space)) (reserved_in kind (Layout.Old space')) e.address e.address 0 0 g
            v.listings listings' gone come kept changing others k.is k.walk_now order nodes),
      )

any_moved' : (kind : Kind) (image image' : List ℕ) (v : Opened) (space space' : OldMapContent) (root : Object) (g : Object → Object) (listings' : List Listing) (kept : List Object) (from to : Path)
    → IsOldMapEdit kind image image' v space space' root g listings' [] [] kept → 0 < length from
    → ((o : Object) → Contains kept o → IsMoved from to image image' (Layout.Old space) (Layout.Old space') o (g o))
    → (w : OpensEdited kind image' (Layout.Old space') listings') × IsMove image image' v.layout (Layout.Old space') v.listings w.found from to
any_moved' kind image image' v space space' root g listings' kept from to e some nodes =
    let k = walked kind image image' v space space' root g listings' [] [] kept e in (
      record { found = k.walk_now.found; opens = k.opens; order = k.walk_now.order },
      subst (λ (y : Layout). IsMove image image' y (Layout.Old space') v.listings k.walk_now.found from to) (sym e.layout)
          (edited_walk_law.moved image image' (Layout.Old space) (Layout.Old space') (reserved_in kind (Layout.Old space)) (reserved_in kind (Layout.Old space')) e.address e.address 0 0 g
          v.listings listings' kept from to k.is k.walk_now some nodes),
    )

pub old_map_edit_law : OldMapEditLaw
old_map_edit_law = record {
  any = λ kind image image' v space space' root g listings' gone come kept changing others e.
      any' kind image image' v space space' root g listings' gone come kept e changing others;
  any_moved = any_moved';
}
