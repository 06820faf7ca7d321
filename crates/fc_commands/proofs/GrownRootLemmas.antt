-- The root in the record of the disc: that it can have another place, since the record has a version.
use Rattle.std.proofs.Common.{◌≡◌, ◌<◌, ◌≤◌, ◌/◌, ◌^◌, ◌==◌, ◌&&◌, ◌||◌, ℕ, zero, suc, Bool, true, cond, List, refl, sym, ap, ap₂, subst, ◌∙◌, arith}
use Rattle.std.specs.Prelude.{nat_le, nat_lt}
use Rattle.std.proofs.lemmas.Bool.{le-leb, leb-true, lt-ltb, ltb-true}
use Rattle.fc_names.specs.declared.name.NameForm.{NameForm}
use Rattle.fc_names.specs.declared.name.NameForm.TheVariants as forms
use Rattle.fc_record.specs.declared.DiscRecord.{DiscRecord}
use Rattle.fc_record.specs.declared.Geometry.{Geometry}
use Rattle.fc_record.specs.declared.Kind.{Kind}
use Rattle.fc_record.specs.Record.{id_limit}
use Rattle.fc_record.specs.Kinds.{map_record}
use Rattle.fc_bytes.specs.Checks.{is_big_size}
use Rattle.fc_newmap.specs.Map.{Map, sector_of}
use Rattle.fc_newmap.specs.NewMap.{IsNewMap}
use Rattle.fc_newmap.proofs.TallyLemmas.{ids_few}
use Rattle.fc_image.specs.Layout.{Layout, dir_form, id_of, is_object_id}
use Rattle.fc_image.specs.Opening.{Opened, difference}
use Rattle.fc_image.proofs.MoveLemmas.{open_by}
use Rattle.fc_image.proofs.OpenedLemmas.{edited_image_law}
use Rattle.fc_image.proofs.RecordLemmas.{agree}
use Rattle.fc_changes.specs.Owed.{IsBefore}
use Rattle.fc_writing.specs.declared.ready.RootPlace.{RootPlace}
use Rattle.fc_writing.specs.Steps.{CanRoot}
use Rattle.fc_placing.proofs.LowLemmas.{or_true}
use Rattle.fc_changes.proofs.lemmas.growth.RootLemmas.{no_difference, raw_of}
use Rattle.fc_record.proofs.KindLemmas.{and_first, and_second}
use Rattle.fc_holdings.specs.Holdings.{TellsVersion}

-- The map's own record has a version above 0, as it is on a disc with big directories.
abbrev pub HasVersion : Map → Type 0
HasVersion m = 0 < (map_record (sector_of m 0)).version

pub can_root : (m : Map) (p : RootPlace) → HasVersion m → 2 ≤ p.address / 256 → is_big_size p.len ≡ true → CanRoot m p
can_root m p version high big = record {
  right = ap₂ (λ (a b : Bool). a && (b || nat_lt p.address (2 ^ 24))) (le-leb 2 (p.address / 256) high) (lt-ltb 0 (map_record (sector_of m 0)).version version);
  size_right = ap (λ (b : Bool). ((map_record (sector_of m 0)).version == 0) || b) big ∙ or_true ((map_record (sector_of m 0)).version == 0);
}

some_version : (v : ℕ) → (let f : NameForm = cond (v == 0) forms.Ten forms.Long in f) ≡ forms.Long → 0 < v
some_version zero e = absurd (cc)
some_version (suc v) e = omega arith

-- A record that tells its disc's version has one above 0, if the directories are big.
pub version_of : (m : Map) → TellsVersion (Layout.New m) → dir_form (Layout.New m) ≡ forms.Long → HasVersion m
version_of m tells long = subst (λ (n : ℕ). 0 < n) (sym tells) (some_version m.geometry.version long)

-- ---- an opened image

-- The map's record tells the disc's version.
pub tells_by : (kind : Kind) (r : DiscRecord) (image : List ℕ) (v : Opened) (m : Map) → IsBefore kind r image v m → TellsVersion (Layout.New m)
tells_by kind r image v m before =
    let s = map_record (sector_of m 0) in
    let old = edited_image_law.map image kind r v m before.new_kind before.opens before.layout in
    let same = agree r s (raw_of kind r before.new_kind before.opens.kind_right) refl (no_difference r s old.own (difference r s) old.agreed) in
    let opened = open_by image kind r v m before.new_kind before.opens before.layout in
    ap (λ (x : DiscRecord). x.version) same ∙ sym (ap (λ (g : Geometry). g.version) opened.geometry_is)

pub version_by : (kind : Kind) (r : DiscRecord) (image : List ℕ) (v : Opened) (m : Map) → IsBefore kind r image v m → dir_form (Layout.New m) ≡ forms.Long → HasVersion m
version_by kind r image v m before long = version_of m (tells_by kind r image v m before) long

-- ---- addresses

-- An object's address has its identifier from 2 on, and is short.
pub address_fits : (m : Map) (address : ℕ) → IsNewMap m → is_object_id m (id_of address) ≡ true → (2 ≤ address / 256) × (address < 2 ^ 32)
address_fits m address is object =
    let low = leb-true 2 (id_of address) (and_first (nat_le 2 (id_of address)) (nat_lt (id_of address) (id_limit m.geometry)) object) in
    let high = ltb-true (id_of address) (id_limit m.geometry) (and_second (nat_le 2 (id_of address)) (nat_lt (id_of address) (id_limit m.geometry)) object) in
    let few = ids_few m.geometry is.of_record in
    let least : id_limit m.geometry ≤ 2 ^ m.geometry.idlen = omega arith in
    (low, omega (arith, few, least, high))
