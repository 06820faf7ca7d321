-- Sectors in which nothing lies, and what is written to them.
use Rattle.std.proofs.Common.{◌≡◌, inl, inr, ℕ, zero, suc, cond, Bool, true, false, List, [], ◌∷◌, map, refl, sym, ap, ap₂, subst, ◌∙◌, arith}
use Rattle.std.specs.Prelude.{Contains}
use Rattle.std.proofs.lemmas.List.Sorted.{Contains-permutation, IsPermutation-refl}
use Rattle.fc_record.specs.declared.DiscRecord.{DiscRecord}
use Rattle.fc_record.specs.declared.Kind.{Kind}
use Rattle.fc_newmap.specs.Map.{Map, map_sectors}
use Rattle.fc_newmap.proofs.PlaceLemmas.{in_back, in_front}
use Rattle.fc_newmap.specs.Copies.{Chooses}
use Rattle.fc_names.specs.Names.{Path}
use Rattle.fc_dirs.specs.declared.Entry.{Entry}
use Rattle.fc_dirs.specs.Directory.{directory_of}
use Rattle.fc_image.specs.Layout.{Layout, dir_form, hole_sectors, is_among, is_apart, sector_bytes}
use Rattle.fc_image.specs.Walk.{Listing, Object, is_directory_object, reader_of}
use Rattle.fc_image.specs.Objects.{objects_of}
use Rattle.fc_image.specs.Opening.{Opened, boot_place, reserved_in}
use Rattle.fc_image.specs.Stays.{HasSectorsOf, IsNewKind, OpensAs, stored_object, stored_objects}
use Rattle.fc_image.specs.Order.{directories, held, listed}
use Rattle.fc_image.proofs.EntriesLemmas.{later}
use Rattle.fc_image.proofs.FreeLemmas.{object_same, stored_same as stored_all}
use Rattle.fc_image.proofs.HolesLemmas.{Each-contains, Each-objects, Lies, OpenMap, apart_at, apart_from, holes_law, holes_loose, loose_sectors, none_loose, walk_lies}
use Rattle.fc_image.proofs.MoveLemmas.{id_loose, open_by}
use Rattle.fc_image.proofs.OpenedLemmas.{edited_image_law}
use Rattle.fc_image.proofs.OrderLemmas.{order_law}
use Rattle.fc_image.proofs.WalkLemmas.{walk-Tells, walk-any}
use Rattle.fc_safelaws.specs.Free.{AreFree, ChangesFree, FreeSpaceLaw, IsFreeSector, view}
use Rattle.std.proofs.lemmas.Bool.{false_from_ne_true as unless}

clash : (b : Bool) → b ≡ true → b ≡ false → ⊥
clash b is not = cc

are_free : (image : List ℕ) (kind : Kind) (r : DiscRecord) (v : Opened) (m : Map) (free : List ℕ) → IsNewKind kind r → OpensAs image kind v → v.layout ≡ Layout.New m
    → ((s : ℕ) → is_among free s ≡ true → IsFreeSector m (objects_of v.listings) s) → AreFree kind m (objects_of v.listings) free
are_free image kind r v m free new opens layout where_they_lie =
    let k = open_by image kind r v m new opens layout in
    let apart = holes_law image kind r v new opens in
    record {
      reserved = apart_from free (reserved_in kind (Layout.New m)) (λ s i j.
          clash (is_among (loose_sectors m (objects_of v.listings)) s)
          (elim (where_they_lie s i) [
            | inl hole ↦ holes_loose m (objects_of v.listings) s hole
            | inr id ↦ id_loose m (objects_of v.listings) id.0 s k.some id.1 id.2
          ])
          (none_loose (loose_sectors m (objects_of v.listings)) (reserved_in kind (Layout.New m)) k.tight s j));
      objects_apart = λ o at. apart_from o.sectors free (λ s i j. elim (where_they_lie s j) [
        | inl hole ↦
            clash (is_among (hole_sectors (Layout.New m)) s) hole
            (apart_at o.sectors (hole_sectors (Layout.New m)) s (subst (λ l. is_apart o.sectors (hole_sectors l) ≡ true) layout (apart.1 o at)) i)
        | inr id ↦ clash (is_among o.sectors s) i (id.3 o at)
      ]);
    }

-- objects and the boot block keep their sectors
free_objects : (image other : List ℕ) (kind : Kind) (r : DiscRecord) (v : Opened) (m : Map) (free : List ℕ) → IsNewKind kind r → OpensAs image kind v → v.layout ≡ Layout.New m
    → AreFree kind m (objects_of v.listings) free → ChangesFree m.geometry free image other → (o : Object) → Contains (objects_of v.listings) o → HasSectorsOf m.geometry.sector o.sectors image other
free_objects image other kind r v m free new opens layout is_free changes o at s i =
    let k = open_by image kind r v m new opens layout in
    let reserved = reserved_in kind (Layout.New m) in
    let lies = Each-contains (Lies (Layout.New m) reserved) (objects_of v.listings) o
    (Each-objects (Lies (Layout.New m) reserved) v.listings (walk_lies (reader_of image (Layout.New m)) (Layout.New m) reserved k.root k.size v.listings k.walked)) at in
    changes.outside s (apart_at o.sectors free s (is_free.objects_apart o at) i)
    (unless (is_among (map_sectors m.geometry) s)
    (λ h. clash (is_among reserved s) (in_front (map_sectors m.geometry) (boot_place kind m.geometry.sector) s h) (apart_at o.sectors reserved s lies.apart i)))

free_boot : (image other : List ℕ) (kind : Kind) (r : DiscRecord) (v : Opened) (m : Map) (free : List ℕ) → IsNewKind kind r → OpensAs image kind v → v.layout ≡ Layout.New m
    → AreFree kind m (objects_of v.listings) free → ChangesFree m.geometry free image other → HasSectorsOf m.geometry.sector (boot_place kind m.geometry.sector) image other
free_boot image other kind r v m free new opens layout is_free changes s i =
    let k = open_by image kind r v m new opens layout in
    let reserved = reserved_in kind (Layout.New m) in
    changes.outside s
    (unless (is_among free s) (λ f. clash (is_among reserved s) (in_back (map_sectors m.geometry) (boot_place kind m.geometry.sector) s i) (apart_at free reserved s is_free.reserved f)))
    (none_loose (map_sectors m.geometry) (boot_place kind m.geometry.sector) k.apart s i)

module _ (image other : List ℕ) (kind : Kind) (r : DiscRecord) (v : Opened) (m : Map) (free : List ℕ) (new : IsNewKind kind r) (opens : OpensAs image kind v) (layout : v.layout ≡ Layout.New m)
    (is_free : AreFree kind m (objects_of v.listings) free) (changes : ChangesFree m.geometry free image other) (chooses : Chooses m.geometry m.zones other) where
  abbrev reserved : List ℕ
  reserved = reserved_in kind (Layout.New m)

  the_map : OpenMap image kind r v m
  the_map = open_by image kind r v m new opens layout

  object_stays : (o : Object) → Contains (objects_of v.listings) o → HasSectorsOf m.geometry.sector o.sectors image other
  object_stays o at = free_objects image other kind r v m free new opens layout is_free changes o at

  listed_in : (l : Listing) → Contains v.listings l → Contains (objects_of v.listings) l.object
  listed_in l at =
      let had = order_law.gives (reader_of image (Layout.New m)) (Layout.New m) reserved the_map.root the_map.size v.listings the_map.walked in
      subst (λ (os : List Object). Contains os l.object) (sym had.4)
      (in_root had.0 (Contains-permutation (listed v.listings) (had.0 ∷ directories (held v.listings)) l.object had.2.all (to_map l v.listings at)))
    where
      to_map : (l : Listing) (ls : List Listing) → Contains ls l → Contains (listed ls) l.object
      to_map l [] (i, low, e) = absurd (omega (arith, low))
      to_map l (k ∷ ls) (zero, low, e) = (0, omega arith, ap (λ (x : Listing). x.object) e)
      to_map l (k ∷ ls) (suc i, low, e) = later k.object l.object (listed ls) (to_map l ls (i, omega (arith, low), e))

      from_filter : (os : List Object) (o : Object) → Contains (directories os) o → Contains os o
      from_filter [] o at = at
      from_filter (p ∷ os) o at = by (is_directory_object p) at (from_filter os o)
        where
          by : (b : Bool) → Contains (cond b (p ∷ directories os) (directories os)) o → (Contains (directories os) o → Contains os o) → Contains (p ∷ os) o
          by true (zero, low, e) more = (0, omega arith, e)
          by true (suc i, low, e) more = later p o os (more (i, omega (arith, low), e))
          by false at more = later p o os (more at)

      in_root : (root : Object) → Contains (root ∷ directories (held v.listings)) l.object → Contains (root ∷ held v.listings) l.object
      in_root root (zero, low, e) = (0, omega arith, e)
      in_root root (suc i, low, e) = later root l.object (held v.listings) (from_filter (held v.listings) l.object (i, omega (arith, low), e))

  opens_other : OpensAs other kind v
  opens_other =
      let h = edited_image_law.map image kind r v m new opens layout in
      let read = reader_of image (Layout.New m) in
      let told = walk-Tells read (Layout.New m) reserved h.own.root h.own.root_size v.listings h.walked in
      let walked = walk-any read (reader_of other (Layout.New m)) (Layout.New m) reserved h.own.root h.own.root_size v.listings h.walked
      (λ l at. ap (directory_of (dir_form (Layout.New m))) (object_same m.geometry.sector image other (Layout.New m) l.object refl (object_stays l.object (listed_in l at))) ∙ told l at) in
      let same : OpensAs other kind (record { kind = kind; layout = Layout.New m; listings = v.listings }) =
      edited_image_law.opens image other kind r h.own v m m v.listings (objects_of v.listings) new opens layout (IsPermutation-refl (objects_of v.listings))
      (record {
        geometry_stays = refl;
        is_map = the_map.map_is;
        chosen_map = chooses;
        agreed = h.agreed;
        length_stays = changes.same_length;
        boot_stays = free_boot image other kind r v m free new opens layout is_free changes;
        fixed = λ n e u. (refl, e);
      }) walked in
      subst (OpensAs other kind) back same
    where
      back : (let w : Opened = record { kind = kind; layout = Layout.New m; listings = v.listings } in w) ≡ v
      back = λ i. record { kind = sym the_map.kind_is i; layout = sym layout i; listings = v.listings }

  stored_other : stored_objects other v ≡ stored_objects image v
  stored_other = stored_all m.geometry.sector image other v.layout (objects_of v.listings) (ap sector_bytes layout) object_stays

pub free_space_law : FreeSpaceLaw
free_space_law = record {
  sectors = λ x free lie. are_free x.image x.kind x.r (view x) x.m free x.new_kind x.opens refl lie;
  objects = λ x free other is_free changes. free_objects x.image other x.kind x.r (view x) x.m free x.new_kind x.opens refl is_free changes;
  boot = λ x free other is_free changes. free_boot x.image other x.kind x.r (view x) x.m free x.new_kind x.opens refl is_free changes;
  opens = λ x free other is_free changes chooses. (
    opens_other x.image other x.kind x.r (view x) x.m free x.new_kind x.opens refl is_free changes chooses,
    stored_other x.image other x.kind x.r (view x) x.m free x.new_kind x.opens refl is_free changes chooses,
  );
}
