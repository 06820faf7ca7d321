-- Bytes that are written into the sectors of an object, and bytes that stay.
use Rattle.std.proofs.Common.{◌≡◌, ◌<◌, ◌≤◌, ◌⊎◌, inl, inr, ℕ, zero, suc, ◌*◌, Bool, true, false, cond, List, [], ◌∷◌, length, take, drop, get_or, refl, sym, ap, ap₂, subst, ◌∙◌, arith}
use Rattle.std.specs.Prelude.{Option, Some, None, ◌||◌, ◌==◌, nat_le}
use Rattle.std.specs.Int.{div_ceil}
use Rattle.std.specs.List.{flat_map}
use Rattle.std.proofs.lemmas.Bool.{eqb-true, leb-true, false_from_ne_true as unless}
use Rattle.std.proofs.lemmas.List.{length-take-le}
use Rattle.std.proofs.lemmas.Grind.{div_ceil_times}
use Rattle.fc_device.specs.Sectors.{sector_at}
use Rattle.fc_record.specs.declared.Geometry.{Geometry}
use Rattle.fc_newmap.specs.Map.{Map, map_sectors}
use Rattle.fc_newmap.specs.NewMap.{IsNewMap}
use Rattle.fc_newmap.proofs.CoverLemmas.{Distinct, id_Distinct}
use Rattle.fc_newmap.proofs.HeldLemmas.{geometry_facts}
use Rattle.fc_newmap.proofs.PlaceLemmas.{in_back}
use Rattle.fc_newmap.specs.declared.copies.Which.TheVariants.{One, Two}
use Rattle.fc_newmap.specs.Copies.{HoldsCopies}
use Rattle.fc_image.specs.Layout.{Layout, bytes_in, dir_form, first_part, id_of, id_sectors, is_among, is_apart, is_object_id, low_of, low_start, sectors_at}
use Rattle.fc_image.specs.Walk.{Object, object_bytes, object_size}
use Rattle.fc_image.specs.Edits.{IsAt}
use Rattle.fc_image.specs.Stays.{HasSectorsOf}
use Rattle.fc_image.specs.Written.{WritesOnly}
use Rattle.fc_image.proofs.FreeLemmas.{copy_same, flat_same, object_same}
use Rattle.fc_image.proofs.HolesLemmas.{apart_at}
use Rattle.fc_image.specs.effects.Steady.{AreWritten}
use Rattle.fc_objects.specs.Bytes.{first_bytes}
use Rattle.fc_objects.specs.Written.{AreApart, IsPartWritten}
use Rattle.fc_changes.specs.Owed.{IsWritten}
use Rattle.fc_changes.proofs.BasicLemmas.{clash}
use Rattle.fc_laws.specs.takeover.Writes.{IsObjectWritten, IsUnwritten, WrittenBytesLaw}
use Rattle.fc_laws.proofs.lemmas.takeover.KindLemmas.{among_first, copies_written}
use Rattle.fc_laws.proofs.lemmas.agree.BeforeLemmas.{new_shape as shape_of}

-- ---- lists

pub among_at : (xs : List ℕ) (i : ℕ) → i < length xs → is_among xs (get_or xs i 0) ≡ true
among_at [] i low = absurd (omega (arith, low))
among_at (x ∷ xs) zero low = among_first x xs
among_at (x ∷ xs) (suc i) low = in_back (x ∷ []) xs (get_or xs i 0) (among_at xs i (omega (arith, low)))

pub apart_of : (xs : List ℕ) → Distinct xs → AreApart xs
apart_of [] d i j order low same = absurd (omega (arith, low))
apart_of (x ∷ xs) d zero zero order low same = absurd (omega (arith, order))
apart_of (x ∷ xs) d zero (suc j) order low same =
    clash (is_among xs x) (subst (λ (s : ℕ). is_among xs s ≡ true) (sym same) (among_at xs j (omega (arith, low)))) d.0
apart_of (x ∷ xs) d (suc i) zero order low same = absurd (omega (arith, order))
apart_of (x ∷ xs) d (suc i) (suc j) order low same = apart_of xs d.1 i j (omega (arith, order)) (omega (arith, low)) same

Distinct-drop : (n : ℕ) (xs : List ℕ) → Distinct xs → Distinct (drop n xs)
Distinct-drop zero xs d = d
Distinct-drop (suc n) [] d = tt
Distinct-drop (suc n) (x ∷ xs) d = Distinct-drop n xs d.1

pub in_taken : (n : ℕ) (xs : List ℕ) (s : ℕ) → is_among (take n xs) s ≡ true → is_among xs s ≡ true
in_taken zero xs s h = absurd (cc)
in_taken (suc n) [] s h = h
in_taken (suc n) (x ∷ xs) s h = by (x == s) h (in_taken n xs s)
  where
    by : (b : Bool) → (b || is_among (take n xs) s) ≡ true → (is_among (take n xs) s ≡ true → is_among xs s ≡ true) → (b || is_among xs s) ≡ true
    by true g more = refl
    by false g more = more g

pub Distinct-take : (n : ℕ) (xs : List ℕ) → Distinct xs → Distinct (take n xs)
Distinct-take zero xs d = tt
Distinct-take (suc n) [] d = tt
Distinct-take (suc n) (x ∷ xs) d = (unless (is_among (take n xs) x) (λ h. clash (is_among xs x) (in_taken n xs x h) d.0), Distinct-take n xs d.1)

-- ---- the sectors of an object

first_of : (n : ℕ) (xs sectors : List ℕ) → first_part n xs ≡ Some sectors → (n ≤ length xs) × (take n xs ≡ sectors)
first_of n xs sectors e = by (nat_le n (length xs)) refl e
  where
    same : (a b : List ℕ) → (let q : Option (List ℕ) = Some a in q) ≡ Some b → a ≡ b
    same a b h = cc

    by : (b : Bool) → nat_le n (length xs) ≡ b → cond b (Some (take n xs)) None ≡ Some sectors → (n ≤ length xs) × (take n xs ≡ sectors)
    by true h g = (leb-true n (length xs) h, same (take n xs) sectors g)
    by false h g = absurd (cc)

-- none, or some of the sectors of its identifier, as many as it has bytes for
pub record IsCut (m : Map) (address bytes : ℕ) (sectors : List ℕ) : Type 0 where
  pub rest : List ℕ
  pub rest_is : (sectors ≡ []) ⊎ (rest ≡ drop (low_start m (low_of address)) (id_sectors m (id_of address)))
  pub count : ℕ
  pub is : sectors ≡ take count rest
  pub long : length sectors ≡ count
  pub enough : (bytes ≡ 0) ⊎ (count ≡ div_ceil bytes m.geometry.sector)

cut_of : (m : Map) (address bytes : ℕ) (sectors : List ℕ) → sectors_at (Layout.New m) address bytes ≡ Some sectors → IsCut m address bytes sectors
unfolding sectors_at
cut_of m address bytes sectors e = by (bytes == 0) (is_object_id m (id_of address)) refl e
  where
    same : (a b : List ℕ) → (let q : Option (List ℕ) = Some a in q) ≡ Some b → a ≡ b
    same a b h = cc

    by : (none named : Bool) → (bytes == 0) ≡ none
        → cond none (Some []) (cond named (first_part (div_ceil bytes m.geometry.sector) (drop (low_start m (low_of address)) (id_sectors m (id_of address)))) None) ≡ Some sectors
        → IsCut m address bytes sectors
    by true named h g = record {
      rest = [];
      rest_is = inl (sym (same [] sectors g));
      count = 0;
      is = sym (same [] sectors g);
      long = ap length (sym (same [] sectors g));
      enough = inl (eqb-true bytes 0 h);
    }
    by false true h g =
        let first = first_of (div_ceil bytes m.geometry.sector) (drop (low_start m (low_of address)) (id_sectors m (id_of address))) sectors g in
        record {
          rest = drop (low_start m (low_of address)) (id_sectors m (id_of address));
          rest_is = inr refl;
          count = div_ceil bytes m.geometry.sector;
          is = sym first.1;
          long = ap length (sym first.1) ∙ length-take-le (div_ceil bytes m.geometry.sector) (drop (low_start m (low_of address)) (id_sectors m (id_of address))) first.0;
          enough = inr refl;
        }
    by false false h g = absurd (cc)

object_apart : (m : Map) (o : Object) → IsNewMap m → IsAt (Layout.New m) o → AreApart o.sectors
object_apart m o is at =
    let c = cut_of m o.entry.address _ o.sectors at in
    elim c.rest_is [
      | inl none ↦ subst AreApart (sym none) (apart_of [] tt)
      | inr rest ↦ apart_of o.sectors
          (subst Distinct (sym c.is) (Distinct-take c.count c.rest
          (subst Distinct (sym rest) (Distinct-drop (low_start m (low_of o.entry.address)) (id_sectors m (id_of o.entry.address))
          (id_Distinct m (shape_of m is) is.right (geometry_facts m.geometry is.of_record).zones (id_of o.entry.address))))))
    ]

pub room_for : (bytes size count n : ℕ) → 0 < size → count ≡ div_ceil bytes size → n ≡ count → bytes ≤ n * size
room_for bytes size count n some is long =
    let t = (div_ceil_times bytes size some).0 in
    subst (λ (k : ℕ). bytes ≤ k * size) (sym (long ∙ is)) t

object_room : (m : Map) (o : Object) → IsNewMap m → IsAt (Layout.New m) o → object_size (dir_form (Layout.New m)) o.entry ≤ length o.sectors * m.geometry.sector
object_room m o is at =
    let n = object_size (dir_form (Layout.New m)) o.entry in
    let c = cut_of m o.entry.address n o.sectors at in
    elim c.enough [
      | inl none ↦ omega (arith, none)
      | inr some ↦ room_for n m.geometry.sector c.count (length o.sectors) (shape_of m is).some some c.long
    ]

-- ---- writes

part_written : (m : Map) (sectors bytes image image' : List ℕ) → IsPartWritten m.geometry.sector sectors bytes image image' → IsWritten m sectors image image'
part_written m sectors bytes image image' p = record {
  length_stays = p.length_stays;
  writes = λ s other map. elim (p.each s) [
    | inl same ↦ same
    | inr at ↦ absurd (clash (is_among sectors s) (subst (λ (t : ℕ). is_among sectors t ≡ true) at.2 (among_at sectors at.0 at.1)) other)
  ];
}

written_within : (m : Map) (xs ys image image' : List ℕ) → ((s : ℕ) → is_among xs s ≡ true → is_among ys s ≡ true) → IsWritten m xs image image' → IsWritten m ys image image'
written_within m xs ys image image' within w = record {
  length_stays = w.length_stays;
  writes = λ s other map. w.writes s (unless (is_among xs s) (λ h. clash (is_among ys s) (within s h) other)) map;
}

again_written : (m m' : Map) (xs image image' : List ℕ) → m'.geometry ≡ m.geometry → IsWritten m' xs image image' → IsWritten m xs image image'
again_written m m' xs image image' same w = record {
  length_stays = w.length_stays;
  writes = subst (λ (g : Geometry). WritesOnly (record { geometry = g; zones = m.zones }) xs image image') same w.writes;
}

-- ---- what stays

sectors_stay' : (m : Map) (sectors written image image' : List ℕ) → IsUnwritten m sectors written → IsWritten m written image image' → HasSectorsOf m.geometry.sector sectors image image'
sectors_stay' m sectors written image image' u w s h =
    w.writes s (unless (is_among written s) (λ i. clash (is_among written s) i (apart_at sectors written s u.apart h)))
    (unless (is_among (map_sectors m.geometry) s) (λ i. clash (is_among (map_sectors m.geometry) s) i (apart_at sectors (map_sectors m.geometry) s u.no_map h)))

bytes_stay' : (m : Map) (sectors written image image' : List ℕ) (n : ℕ) → IsUnwritten m sectors written → IsWritten m written image image'
    → bytes_in m.geometry.sector image' sectors n ≡ bytes_in m.geometry.sector image sectors n
unfolding bytes_in
bytes_stay' m sectors written image image' n u w =
    ap (λ (bs : List ℕ). take n bs) (flat_same (sector_at m.geometry.sector image') (sector_at m.geometry.sector image) sectors (sectors_stay' m sectors written image image' u w))

object_stays' : (m m' : Map) (o : Object) (written image image' : List ℕ) → m'.geometry ≡ m.geometry → IsUnwritten m o.sectors written → IsWritten m written image image'
    → object_bytes image' (Layout.New m') o ≡ object_bytes image (Layout.New m') o
object_stays' m m' o written image image' same u w =
    object_same m.geometry.sector image image' (Layout.New m') o (ap (λ (g : Geometry). g.sector) same) (sectors_stay' m o.sectors written image image' u w)

map_stays' : (m : Map) (sectors bytes image image' : List ℕ) → is_apart sectors (map_sectors m.geometry) ≡ true → IsPartWritten m.geometry.sector sectors bytes image image'
    → HasSectorsOf m.geometry.sector (map_sectors m.geometry) image image'
map_stays' m sectors bytes image image' apart p s h = elim (p.each s) [
  | inl same ↦ same
  | inr at ↦ absurd (clash (is_among (map_sectors m.geometry) s) h
      (apart_at sectors (map_sectors m.geometry) s apart (subst (λ (t : ℕ). is_among sectors t ≡ true) at.2 (among_at sectors at.0 at.1))))
]

copies_stay' : (m : Map) (zones : List (List ℕ)) (image image' : List ℕ) → HasSectorsOf m.geometry.sector (map_sectors m.geometry) image image' → HoldsCopies m.geometry zones image
    → HoldsCopies m.geometry zones image'
copies_stay' m zones image image' same copies = record {
  first = copy_same m.geometry One image image' same ∙ copies.first;
  second = copy_same m.geometry Two image image' same ∙ copies.second;
  sound = copies.sound;
}

-- ---- what is there

stored' : (m m' : Map) (o : Object) (bytes image : List ℕ) → IsObjectWritten m m' o bytes image → object_bytes image (Layout.New m') o ≡ bytes
unfolding bytes_in first_bytes
stored' m m' o bytes image w =
    ap₂ (λ (size n : ℕ). take n (flat_map (sector_at size image) o.sectors)) (ap (λ (g : Geometry). g.sector) w.geometry) (sym w.long) ∙ w.reads_back

pub written_bytes_law : WrittenBytesLaw
written_bytes_law = record {
  part = part_written;
  copies = copies_written;
  within = written_within;
  again = again_written;
  map_stays = map_stays';
  copies_stay = copies_stay';
  sectors_stay = sectors_stay';
  bytes_stay = bytes_stay';
  object_stays = object_stays';
  apart = object_apart;
  room = object_room;
  stored = stored';
  directory = λ m m' o content bytes image w are. subst (λ (bs : List ℕ). AreWritten bs content) (sym (stored' m m' o bytes image w)) are;
}
