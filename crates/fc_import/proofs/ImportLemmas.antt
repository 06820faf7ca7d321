-- What was written and given, call after call.
use Rattle.std.proofs.Common.{◌≡◌, inl, inr, ⊎_elim, ◌≤◌, ◌<◌, ℕ, ◌+◌, ◌-◌, ◌*◌, ◌^◌, min, List, [], ◌∷◌, ◌++◌, All, length, drop, option_map, replicate, Some, Result, Ok, Err, append_assoc, length-append, refl, sym, ap, subst, ◌∙◌, arith}
use Rattle.std.specs.Prelude.{IsFalse, OnOk}
use Rattle.std.specs.List.{range_with_len}
use Rattle.std.specs.Option.{ForSome}
use Rattle.std.proofs.lemmas.List.FromFn.{length-range_with_len}
use Rattle.std.proofs.Math.Nat.{div-le_self}
use Rattle.std.proofs.lemmas.Bool.{cases_lt}
use Rattle.std.proofs.lemmas.List.{append-nil, drop-replicate, take_all}
use Rattle.std.proofs.lemmas.Result.{on_ok_weaker}
use Rattle.fc_device.specs.declared.disk.Disk.{Ghosts}
use Rattle.fc_device.specs.declared.disk.Extent.{Extent}
use Rattle.fc_device.specs.Calls.{SameForm, StopsAndExitsLeave, StopsTearRow}
use Rattle.fc_device.specs.Sectors.{with_row}
use Rattle.fc_device.specs.Stops.{HasRowPart}
use Rattle.fc_device.proofs.DiskLaws.{Laws, form_same, form_then}
use Rattle.fc_device.proofs.StopLemmas.{goes_on, left_now, started, weaker}
use Rattle.fc_device.specs.declared.disk.Failed.{Failed}
use Rattle.fc_host.specs.declared.supply.Supply.{Ghosts as Supplies}
use Rattle.fc_host.specs.Supplies.{goes_then}
use Rattle.fc_objects.specs.Written.{AreApart, AreIn, HasParts, IsPartWritten, StopsTear, padded}
use Rattle.fc_objects.proofs.CallLemmas.{both}
use Rattle.fc_objects.specs.Extents.{extent_sectors}
use Rattle.fc_objects.proofs.PassLemmas.{done_more, exit_more, keeps_of, next_row_on_disk, tear_more, told_more}
use Rattle.fc_objects.proofs.WriteLemmas.{IsNextRow, length-padded, next_row_of, padded_is}
use Rattle.fc_objects.proofs.AheadLemmas.{row_both, row_last}
use Rattle.fc_import.specs.declared.place.ImportFault.{ImportFault}
use Rattle.fc_import.specs.Imports.{Drains, Fills, HasCauses, HasLeft, Imports, IsImported, IsSameSupply, Takes}
use Rattle.fc_import.proofs.PieceLemmas.{Filled, all_back, all_front, apart_back, apart_front, first_part, part_longer, part_on, part_wider, parts_both, parts_longer, second_part}

no_part : (size : ℕ) (sectors piece image : List ℕ) → IsPartWritten size sectors piece image image
no_part size sectors piece image = record { length_stays = refl; each = λ s. inl refl }

-- bytes over zeros
pub row_padded : (room count : ℕ) (piece zeros : List ℕ) → zeros ≡ replicate room 0 → length piece ≡ count → count ≤ room → piece ++ drop count zeros ≡ padded room piece
row_padded room count piece zeros blank long fits =
    ap (λ (zs : List ℕ). piece ++ drop count zs) blank ∙ ap (λ (zs : List ℕ). piece ++ zs) (drop-replicate count room 0)
    ∙ ap (λ (n : ℕ). piece ++ replicate n 0) (let e : room - count ≡ room - length piece = omega (arith, long) in e)
    ∙ ap (λ (xs : List ℕ). xs ++ replicate (room - length piece) 0) (sym (take_all room piece (omega (arith, long, fits)))) ∙ sym (padded_is room piece)

-- a row in two parts
pub row_cut : (first n k : ℕ) → k ≤ n → range_with_len first n ≡ range_with_len first k ++ range_with_len (first + k) (n - k)
row_cut first n k few = ap (range_with_len first) (let e : n ≡ k + (n - k) = omega (arith, few) in e) ∙ row_both first k (n - k)

-- a row lies on the disk
pub row_on_disk : (row : Extent) (n : ℕ) → 0 < row.sectors → All (λ s. s < n) (extent_sectors row) → row.first + row.sectors ≤ n
row_on_disk row n some all =
    let last = row_last (λ s. s < n) row.first row.sectors [] some (subst (All (λ s. s < n)) (sym (append-nil (extent_sectors row))) all) in
    omega (arith, last, some)

on_always : {T E : Type 0} {P : Type 0} (r : Result T E) → P → OnOk r P
on_always (Ok v) p = p
on_always (Err e) p = tt

pub supply_then : {B : Type 0} (b : Supplies B) (x y z : B) → IsSameSupply b x y → IsSameSupply b y z → IsSameSupply b x z
supply_then b x y z first second = record {
  total = second.total ∙ first.total;
  all = second.all ∙ first.all;
  goes = (first.goes.0 ++ second.goes.0, goes_then b.goes first.goes.0 second.goes.0 x y z first.goes.1 second.goes.1);
}

-- after one call
pub supply_called : {B : Type 0} (b : Supplies B) (x y : B) → b.total y ≡ b.total x → b.all y ≡ b.all x → b.goes x y → IsSameSupply b x y
supply_called b x y total all goes = record { total = total; all = all; goes = (y ∷ [], (goes, refl)) }

module _ {D B : Type 0} {d : Ghosts D} (law : Laws d) (b : Supplies B) where
  -- a disk has fewer sectors than numbers of 64 bits
  pub sectors_few : (disk : D) → d.sectors disk < 2 ^ 64
  sectors_few disk = omega (arith, law.whole_sectors disk, div-le_self (d.image_length disk) (d.sector_size disk), law.length_fits disk)

  -- how many are left after a piece
  pub left_then : (left more : ℕ) (before after : B) (piece : List ℕ) → HasLeft b left before → HasLeft b more after → b.given after ≡ b.given before ++ piece → b.total after ≡ b.total before
      → more + length piece ≡ left
  left_then left more before after piece had has given total =
      omega (arith, had, has, ap length given, length-append (b.given before) piece, total)

  -- nothing was written, nothing given
  pub imports_none : (left : ℕ) (disk : D) (from : B) → Imports {T = Unit {0}} d b [] left disk disk from from (Ok tt)
  imports_none left disk from = record {
    piece = [];
    given = sym (append-nil (b.given from));
    few = omega arith;
    stops = started law disk (λ image. (was : List ℕ) × d.left_since disk (d.moment disk) was × (AreIn (d.sector_size disk) [] was → IsPartWritten (d.sector_size disk) [] [] was image))
        (λ image left. (image, left, λ inside. no_part (d.sector_size disk) [] [] image));
    part = λ was told. (was, told, no_part (d.sector_size disk) [] [] was);
    told = λ image told. (image, told);
    done = record { whole = omega arith; written = λ once image told i low. absurd (omega (arith, low)) };
    form = form_same d disk;
    supply = record { total = refl; all = refl; goes = ([], refl) };
  }

  -- the next piece wasn't given
  pub imports_failed : {T : Type 0} (sectors : List ℕ) (left : ℕ) (disk : D) (before after : B) (fault : ImportFault) → b.given after ≡ b.given before → IsSameSupply b before after
      → Imports {T = T} d b sectors left disk disk before after (Err fault)
  imports_failed sectors left disk before after fault given supply = record {
    piece = [];
    given = given ∙ sym (append-nil (b.given before));
    few = omega arith;
    stops = started law disk (λ image. (was : List ℕ) × d.left_since disk (d.moment disk) was × (AreIn (d.sector_size disk) sectors was → IsPartWritten (d.sector_size disk) sectors [] was image))
        (λ image left. (image, left, λ inside. no_part (d.sector_size disk) sectors [] image));
    part = λ was told. (was, told, no_part (d.sector_size disk) sectors [] was);
    told = λ image told. (image, told);
    done = tt;
    form = form_same d disk;
    supply = supply;
  }

  -- whatever is answered
  pub imports_ok : {S T : Type 0} (sectors : List ℕ) (left : ℕ) (old new : D) (before after : B) (v : S) (u : T) → Imports d b sectors left old new before after (Ok v) → Imports d b sectors left old new before after (Ok u)
  imports_ok sectors left old new before after v u i =
      record { piece = i.piece; given = i.given; few = i.few; stops = i.stops; part = i.part; told = i.told; done = i.done; form = i.form; supply = i.supply }

  pub causes_ok : {T : Type 0} (old new : D) (before after : B) (v : T) → d.faults old ≤ d.faults new → b.faults before ≤ b.faults after → HasCauses d b old new before after (Ok v)
  causes_ok old new before after v disk supply = record { disk_later = disk; supply_later = supply; disk = λ e. absurd (cc); supply_fails = λ e. absurd (cc) }

  -- a call after others that didn't fail
  pub causes_then : {S T : Type 0} (old mid new : D) (before between after : B) (r : Result S ImportFault) (s : Result T ImportFault) → d.faults old ≤ d.faults mid → b.faults before ≤ b.faults between
      → HasCauses d b mid new between after r → ((fault : ImportFault) → s ≡ Err fault → r ≡ Err fault) → HasCauses d b old new before after s
  causes_then old mid new before between after r s disk supply causes same = record {
    disk_later = omega (arith, disk, causes.disk_later);
    supply_later = omega (arith, supply, causes.supply_later);
    disk = λ e. (let rose = causes.disk (same ImportFault.Disk e) in omega (arith, disk, rose));
    supply_fails = λ e. (let rose = causes.supply_fails (same ImportFault.Supply e) in omega (arith, supply, rose));
  }

  -- a row was given, and written in part at least
  imports_row_start : (sectors piece : List ℕ) (disk : D) → StopsTear d disk disk sectors piece
  imports_row_start sectors piece disk =
      started law disk (λ image. (was : List ℕ) × d.left_since disk (d.moment disk) was × (AreIn (d.sector_size disk) sectors was → IsPartWritten (d.sector_size disk) sectors piece was image))
      (λ image left. (image, left, λ inside. no_part (d.sector_size disk) sectors piece image))

  pub imports_row : {T : Type 0} (row : Extent) (left : ℕ) (old new : D) (before after : B) (room : ℕ) (bytes : List ℕ) (result : Result T ImportFault) → 0 < row.sectors → All (λ s. s < d.sectors old) (extent_sectors row)
      → length bytes ≡ row.sectors * d.sector_size old → Takes b room left before after bytes → IsSameSupply b before after → HasRowPart (d.sector_size old) row.first bytes (d.bytes old) (d.bytes new) → StopsTearRow d old new row.first bytes
      → SameForm d old new → OnOk result (d.bytes new ≡ option_map (λ image. with_row (d.sector_size old) image row.first bytes) (d.bytes old)) → Imports d b (extent_sectors row) left old new before after result
  imports_row row left old new before after room bytes result some on_disk fits takes supply written stops form whole =
      let size = d.sector_size old in
      let n = row.first in
      let count = row.sectors in
      let sectors = extent_sectors row in
      let p = takes.piece in
      let cut : sectors ≡ [] ++ (range_with_len n count ++ []) = sym (append-nil sectors) in
      let next : IsNextRow sectors [] n count = next_row_of sectors [] [] n count cut in
      let start : length {A = ℕ} [] * size ≡ 0 = omega arith in
      let same : room ≡ count * size = sym (length-padded room p) ∙ ap length (sym takes.is) ∙ fits in
      let is : bytes ≡ padded (count * size) (drop (length {A = ℕ} [] * size) p) = takes.is ∙ ap (λ (k : ℕ). padded k p) same ∙ ap (λ (k : ℕ). padded (count * size) (drop k p)) (sym start) in
      let long : length sectors * size ≡ count * size = ap (λ (k : ℕ). k * size) (length-range_with_len n count) in
      record {
        piece = p;
        given = takes.given;
        few = omega (arith, takes.whole, long, same);
        stops = tear_more law sectors [] p bytes n count some next refl is (imports_row_start sectors p old) stops;
        part = λ was told. exit_more law sectors [] p bytes n count some next refl is was was told on_disk told (no_part size sectors p was) written;
        told = told_more law written (λ image told. (image, told));
        done = on_ok_weaker result (λ all. record {
          whole = omega (arith, takes.whole, long, same);
          written = done_more law sectors [] p bytes n count some next refl is [] cut (next_row_on_disk law old sectors [] n count some on_disk next) all (λ once image told i low. absurd (omega (arith, low)));
        }) whole;
        form = form;
        supply = supply;
      }

  -- one call after another
  module _ {S T : Type 0} (xs ys : List ℕ) (left more : ℕ) (old mid new : D) (before between after : B) (value : S) (result : Result T ImportFault)
      (first : Imports d b xs left old mid before between (Ok value)) (second : Imports d b ys more mid new between after result) (rest : more + length first.piece ≡ left) where
    abbrev size : ℕ
    size = d.sector_size old

    same : d.sector_size mid ≡ size
    same = first.form.size_stays

    abbrev p : List ℕ
    p = first.piece

    abbrev q : List ℕ
    q = second.piece

    later : length q ≤ min more (length ys * size)
    later = subst (λ (k : ℕ). length q ≤ min more (length ys * k)) same second.few

    none_long : (l : List ℕ) → length l ≤ 0 → l ≡ []
    none_long [] low = refl
    none_long (x ∷ l) low = absurd (omega (arith, low))

    fills : Filled size xs p q
    fills = ⊎_elim
        (λ few. inr (omega (arith, first.few), none_long q (omega (arith, later, rest, few, first.done.whole))))
        (λ many. inl (omega (arith, first.done.whole, many))) (cases_lt left (length xs * size))

    long : length (p ++ q) ≡ length p + length q
    long = length-append p q

    wide : length (xs ++ ys) * size ≡ length xs * size + length ys * size
    wide = ap (λ (k : ℕ). k * size) (length-append xs ys) ∙ both (length xs) (length ys) size

    inside_first : (w : List ℕ) → AreIn size (xs ++ ys) w → AreIn size xs w
    inside_first w inside = all_front (λ s. s * size + size ≤ length w) xs ys inside

    inside_second : (w v : List ℕ) → length v ≡ length w → AreIn size (xs ++ ys) w → AreIn size ys v
    inside_second w v stays inside = all_back (λ s. s * size + size ≤ length v) xs ys (subst (λ (n : ℕ). All (λ s. s * size + size ≤ n) (xs ++ ys)) (sym stays) inside)

    torn : StopsTear d old new (xs ++ ys) (p ++ q)
    torn = goes_on law
        (weaker law (λ image. (was : List ℕ) × d.left_since old (d.moment old) was × (AreIn size (xs ++ ys) was → IsPartWritten size (xs ++ ys) (p ++ q) was image)) first.stops
        (λ image tear. (tear.0, tear.1, λ inside. first_part size xs ys p q fills tear.0 image (tear.2 (inside_first tear.0 inside))))) second.stops
        (λ image tear.
        let now : AreIn size ys tear.0 → IsPartWritten size ys q tear.0 image = subst (λ (k : ℕ). AreIn k ys tear.0 → IsPartWritten k ys q tear.0 image) same tear.2 in
        let had = left_now law first.stops tear.0 tear.1 in (
          had.0,
          had.1,
          λ inside.
              let so_far = first_part size xs ys p q fills had.0 tear.0 (had.2 (inside_first had.0 inside)) in
              part_on size (xs ++ ys) (p ++ q) had.0 tear.0 image so_far (second_part size xs ys p q fills tear.0 image (now (inside_second had.0 tear.0 so_far.length_stays inside))),
        ))

    whole_both : IsImported d ys more q mid new → IsImported d (xs ++ ys) left (p ++ q) old new
    whole_both w =
        let all : length q ≡ min more (length ys * size) = subst (λ (k : ℕ). length q ≡ min more (length ys * k)) same w.whole in
        record {
          whole = omega (arith, all, first.done.whole, rest, long, wide);
          written = λ once image told.
              (let at = second.told image told in
              let there = second.part at.0 at.1 in
              let is_there : there.0 ≡ image = told_once there.0 image (sym there.1 ∙ told) in
              let now : IsPartWritten size ys q at.0 image = subst (IsPartWritten size ys q at.0) is_there (subst (λ (k : ℕ). IsPartWritten k ys q at.0 there.0) same there.2) in
              parts_both size xs ys p q fills at.0 image now once (first.done.written (apart_front xs ys once) at.0 at.1)
              (subst (λ (k : ℕ). HasParts k ys q image) same (w.written (apart_back xs ys once) image told)));
        }
      where
        told_once : (x y : List ℕ) → Some x ≡ Some y → x ≡ y
        told_once x y e = cc

    pub imports_then : Imports d b (xs ++ ys) left old new before after result
    imports_then = record {
      piece = p ++ q;
      given = second.given ∙ ap (λ (l : List ℕ). l ++ q) first.given ∙ append_assoc (b.given before) p q;
      few = omega (arith, first.few, later, rest, long, wide);
      stops = torn;
      part = λ was told.
          (let at = first.part was told in
          let there = second.part at.0 at.1 in (
            there.0,
            there.1,
            part_on size (xs ++ ys) (p ++ q) was at.0 there.0 (first_part size xs ys p q fills was at.0 at.2)
                (second_part size xs ys p q fills at.0 there.0 (subst (λ (k : ℕ). IsPartWritten k ys q at.0 there.0) same there.2)),
          ));
      told = λ image told. (let at = second.told image told in first.told at.0 at.1);
      done = on_ok_weaker result whole_both second.done;
      form = form_then d first.form second.form;
      supply = supply_then b before between after first.supply second.supply;
    }

  -- a call that failed, over more sectors
  pub imports_wider : {S T : Type 0} (xs ys : List ℕ) (left : ℕ) (old new : D) (before after : B) (fault : ImportFault) (result : Result T ImportFault) → result ≡ Err fault
      → Imports {T = S} d b xs left old new before after (Err fault) → Imports d b (xs ++ ys) left old new before after result
  imports_wider {T = T} xs ys left old new before after fault result is first =
      let size = d.sector_size old in
      let wide : length (xs ++ ys) * size ≡ length xs * size + length ys * size = ap (λ (k : ℕ). k * size) (length-append xs ys) ∙ both (length xs) (length ys) size in
      record {
        piece = first.piece;
        given = first.given;
        few = omega (arith, first.few, wide);
        stops = weaker law _ first.stops (λ image tear. (tear.0, tear.1, λ inside. part_wider size xs ys first.piece tear.0 image (tear.2 (all_front (λ s. s * size + size ≤ length tear.0) xs ys inside))));
        part = λ was told. (let there = first.part was told in (there.0, there.1, part_wider size xs ys first.piece was there.0 there.2));
        told = first.told;
        done = subst (λ (r : Result T ImportFault). OnOk r (IsImported d (xs ++ ys) left first.piece old new)) (sym is) tt;
        form = first.form;
        supply = first.supply;
      }

  -- ---- all of it

  module _ (sectors : List ℕ) (old mid : D) (before between after : B) (fresh : b.given before ≡ []) where
    abbrev unit : ℕ
    unit = d.sector_size old

    -- the place didn't get all that it has room for
    pub fills_failed : (fault : ImportFault) (result : Result (Unit {0}) ImportFault) → result ≡ Err fault → Imports {T = ℕ} d b sectors (b.total before) old mid before between (Err fault) → Fills d b sectors old mid before between result
    fills_failed fault result is first =
        let here : b.given between ≡ first.piece = first.given ∙ ap (λ (l : List ℕ). l ++ first.piece) fresh in
        record {
          stops = subst (StopsTear d old mid sectors) (sym here) first.stops;
          part = λ was told. (let there = first.part was told in (there.0, there.1, subst (λ (l : List ℕ). IsPartWritten unit sectors l was there.0) (sym here) there.2));
          told = first.told;
          whole = subst (λ (r : Result (Unit {0}) ImportFault). OnOk r (length (b.given between) ≡ b.total before)) (sym is) tt;
          written = subst (λ (r : Result (Unit {0}) ImportFault). OnOk r (AreApart sectors → ForSome (d.bytes mid) (HasParts unit sectors (b.given between)))) (sym is) tt;
          form = first.form;
          supply = first.supply;
        }

    -- it did, and the bytes that are left were dropped
    pub fills_then : (left value : ℕ) (drained : Result (Unit {0}) Failed) (result : Result (Unit {0}) ImportFault) → HasLeft b left between → Imports d b sectors (b.total before) old mid before between (Ok value)
        → Drains b left between after drained → (OnOk drained (length (b.given after) ≡ b.total before) → OnOk result (length (b.given after) ≡ b.total before)) → Fills d b sectors old mid before after result
    fills_then left value drained result has first rest ends =
        let p = first.piece in
        let q = rest.piece in
        let here : b.given after ≡ p ++ q = rest.given ∙ ap (λ (l : List ℕ). l ++ q) (first.given ∙ ap (λ (l : List ℕ). l ++ p) fresh) in
        let long : length p + left ≡ b.total before = ap (λ (l : List ℕ). length l + left) (sym (first.given ∙ ap (λ (l : List ℕ). l ++ p) fresh)) ∙ has ∙ first.supply.total in
        let fits = longer (b.total before) left p q (omega (arith, long)) first.done.whole rest.few in
        record {
          stops = subst (StopsTear d old mid sectors) (sym here)
              (weaker law _ first.stops (λ image tear. (tear.0, tear.1, λ inside. part_longer unit sectors p q tear.0 image fits (tear.2 inside))));
          part = λ was told.
              (let there = first.part was told in
              (there.0, there.1, subst (λ (l : List ℕ). IsPartWritten unit sectors l was there.0) (sym here) (part_longer unit sectors p q was there.0 fits there.2)));
          told = first.told;
          whole = ends (on_ok_weaker drained (λ all. ap length here ∙ length-append p q ∙ ap (λ (k : ℕ). length p + k) all ∙ long) rest.whole);
          written = on_always result (λ once image told.
              subst (λ (l : List ℕ). HasParts unit sectors l image) (sym here) (parts_longer unit sectors p q image fits (first.done.written once image told)));
          form = first.form;
          supply = supply_then b before between after first.supply rest.supply;
        }
      where
        none_long : (l : List ℕ) → length l ≤ 0 → l ≡ []
        none_long [] low = refl
        none_long (x ∷ l) low = absurd (omega (arith, low))

        longer : (total left : ℕ) (p q : List ℕ) → left + length p ≡ total → length p ≡ min total (length sectors * unit) → length q ≤ left → Filled unit sectors p q
        longer total left p q all whole few = ⊎_elim
            (λ short. inr (omega (arith, whole), none_long q (omega (arith, few, all, short, whole))))
            (λ many. inl (omega (arith, whole, many))) (cases_lt total (length sectors * unit))

  -- with nothing pending at first
  pub keeps_fills : {sectors : List ℕ} {size : ℕ} {old new : D} {before after : B} {result : Result (Unit {0}) ImportFault} → IsFalse (d.pending old) → d.sector_size old ≡ size → All (λ s. s < d.sectors old) sectors
      → Fills d b sectors old new before after result → StopsAndExitsLeave d old new (IsPartWritten size sectors (b.given after))
  keeps_fills {sectors = sectors} {old = old} {new = new} {after = after} quiet same on_disk fills =
      subst (λ (k : ℕ). StopsAndExitsLeave d old new (IsPartWritten k sectors (b.given after))) same (keeps_of law sectors (b.given after) quiet on_disk fills.stops fills.part fills.told)
