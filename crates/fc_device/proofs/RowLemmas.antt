-- A disk in memory that writes a row of sectors, one after another.
use Rattle.std.proofs.Common.{◌≡◌, ◌⊎◌, inl, inr, ℕ, suc, ◌+◌, ◌-◌, ◌*◌, ◌<◌, ◌≤◌, min, IsTrue, List, [], ◌∷◌, ◌++◌, Some, length, take, drop, refl, sym, ◌∙◌, ap, ap₂, subst, arith, append_assoc, length-append, length-drop}
use Rattle.std.proofs.Math.Nat.{suc-min-suc, zero-min}
use Rattle.std.proofs.lemmas.Bool.{false_from_ne_true, leb-false, leb-true}
use Rattle.std.proofs.lemmas.Grind.{flat_map-append}
use Rattle.std.proofs.lemmas.List.{append-nil, length-take-le}
use Rattle.std.proofs.lemmas.List.Elements.{All-nil, All-push}
use Rattle.std.proofs.Math.Seq.{take-add}
use Rattle.fc_device.specs.Image.{is_sector_size, told_is, told_long}
use Rattle.fc_device.specs.Memory.{asked_of, bytes_of, faults_of, gives_of, is_attached, is_full, left_of, length_of, moment_of, pending_of, reads_of, record_of, room_left, row_writes, sectors_of, sectors_written, size_of, syncs_of, tells_stops_of, write_fails, writes_of, GoesOn, IsRecorded, IsRecordedRow, IsRecordedWrite, IsUnchanged}
use Rattle.fc_device.specs.Numbers.{calls_before_listed, next_number, number_after}
use Rattle.fc_device.specs.RecordLaws.{left_as_read, left_earlier, left_settled}
use Rattle.fc_device.specs.Sectors.{with_row, with_sector}
use Rattle.fc_device.specs.declared.disk.Disk.{Ghosts}
use Rattle.fc_device.specs.declared.image.Image.{Image}
use Rattle.fc_device.specs.declared.memory.Failing.{Failing}
use Rattle.fc_device.specs.declared.memory.MemoryDisk.{MemoryDisk}
use Rattle.fc_device.specs.declared.record.Call.{Call}
use Rattle.fc_device.specs.declared.record.Call.TheVariants.{Write}
use Rattle.fc_device.proofs.DiskLaws.{Laws}
use Rattle.fc_device.proofs.NumberLemmas.{before_ends, before_goes_on, number_after-more}
use Rattle.fc_device.proofs.SectorLemmas.{with_row-more, with_row-none}

-- what a disk in memory means, and its laws
abbrev pub memory : Ghosts MemoryDisk
memory = record {
  attached = is_attached;
  gives = λ s. Some (gives_of s);
  asked = asked_of;
  bytes = λ s. Some (bytes_of s);
  left_since = left_of;
  tells_stops = tells_stops_of;
  moment = moment_of;
  pending = pending_of;
  sectors = sectors_of;
  sector_size = size_of;
  image_length = length_of;
  read_calls = reads_of;
  faults = faults_of;
}

pub memory_laws : Laws memory
memory_laws = record {
  sector_sizes = λ s. is_sector_size s.image.size s.image.known;
  whole_sectors = λ s. refl;
  length_fits = λ s. s.image.fits;
  faults_fit = λ s. s.few;
  told_length = λ s image told. told_long s.image.bytes.items image told;
  earlier = λ s. left_earlier s.start.items s.calls.items;
  leaves_what_is_read = λ s tells image told. left_as_read s.start.items s.calls.items image (told_is s.image.bytes.items image told ∙ s.current);
  settled = λ s quiet image told other left. left_settled s.start.items s.calls.items other quiet left ∙ sym s.current ∙ sym (told_is s.image.bytes.items image told);
}

-- one write more
row_writes-more : (size n : ℕ) (rows : List (List ℕ)) (row : List ℕ) → row_writes size n (rows ++ row ∷ []) ≡ row_writes size n rows ++ Write size (n + length rows) row ∷ []
row_writes-more size n [] row = ap (λ (k : ℕ). Write size k row ∷ []) (let e : n ≡ n + 0 = omega arith in e)
row_writes-more size n (first ∷ rows) row =
    ap (λ (calls : List Call). Write size n first ∷ calls)
    (row_writes-more size (n + 1) rows row
    ∙ ap (λ (k : ℕ). row_writes size (n + 1) rows ++ Write size k row ∷ []) (let e : n + 1 + length rows ≡ n + length (first ∷ rows) = omega arith in e))

-- before the first sector
pub row_start : (s : MemoryDisk) (n : ℕ) (from : List ℕ) → IsRecordedRow s s n from 0
row_start s n from =
    let size = size_of s in
    let none : take (0 * size) from ≡ [] = (let e : 0 * size ≡ 0 = omega arith in ap (λ (k : ℕ). take k from) e) in
    record {
      rows = [];
      each = refl;
      whole = All-nil (λ (row : List ℕ). length (take size row) ≡ size);
      starts = sym none;
      recorded = sym (append-nil (record_of s));
      has = sym (ap (with_row size (bytes_of s) n) none ∙ with_row-none size (bytes_of s) n [] refl);
    }

-- a sector more
pub row_more : (old mid new : MemoryDisk) (n i : ℕ) (from piece : List ℕ) → size_of mid ≡ size_of old → n * size_of old + length from ≤ length (bytes_of old)
    → i * size_of old + size_of old ≤ length from → piece ≡ take (size_of old) (drop (i * size_of old) from) → IsRecordedRow old mid n from i → IsRecordedWrite mid new (n + i) piece
    → bytes_of new ≡ with_sector (size_of mid) (bytes_of mid) (n + i) piece → IsRecordedRow old new n from (i + 1)
row_more old mid new n i from piece same fits low is so_far one now =
    let size = size_of old in
    let front = take (i * size) from in
    let long : length front ≡ i * size = length-take-le (i * size) from (omega (arith, low)) in
    let whole : length piece ≡ size = ap length is ∙ length-take-le size (drop (i * size) from) (omega (arith, low, length-drop (i * size) from)) in
    let starts : take size one.row ≡ piece = ap (λ (k : ℕ). take k one.row) (sym same) ∙ one.starts in
    let many : i * size + size ≡ (i + 1) * size = grind arith in
    let both : front ++ piece ≡ take ((i + 1) * size) from =
    ap (λ (l : List ℕ). front ++ l) is ∙ sym (take-add (i * size) size from) ∙ ap (λ (k : ℕ). take k from) many in
    let call : Write (size_of mid) (n + i) one.row ≡ Write size (n + length so_far.rows) one.row =
    ap₂ (λ (k m : ℕ). Write k (n + m) one.row) same (sym so_far.each) in
    record {
      rows = so_far.rows ++ one.row ∷ [];
      each = length-append so_far.rows (one.row ∷ []) ∙ ap (λ (k : ℕ). k + 1) so_far.each;
      whole = All-push (λ (row : List ℕ). length (take size row) ≡ size) so_far.rows one.row so_far.whole (ap length starts ∙ whole);
      starts = flat_map-append (take size) so_far.rows (one.row ∷ []) ∙ ap₂ (λ (a b : List ℕ). a ++ b) so_far.starts (append-nil (take size one.row) ∙ starts) ∙ both;
      recorded = one.recorded ∙ ap₂ (λ (l : List Call) (k : Call). l ++ k ∷ []) so_far.recorded call
          ∙ append_assoc (record_of old) (row_writes size n so_far.rows) (Write size (n + length so_far.rows) one.row ∷ [])
          ∙ ap (λ (l : List Call). record_of old ++ l) (sym (row_writes-more size n so_far.rows one.row));
      has = now ∙ ap₂ (λ (k : ℕ) (l : List ℕ). with_sector k l (n + i) piece) same so_far.has
          ∙ with_row-more size (bytes_of old) n front i piece long whole (omega (arith, long, low, fits)) ∙ ap (with_row size (bytes_of old) n) both;
    }

-- two calls after which a disk goes on
pub goes_then : {old mid new : MemoryDisk} (i : ℕ) → GoesOn old mid (reads_of old) (number_after (writes_of old) i) (syncs_of old) → GoesOn mid new (reads_of mid) (next_number (writes_of mid)) (syncs_of mid)
    → GoesOn old new (reads_of old) (number_after (writes_of old) (i + 1)) (syncs_of old)
goes_then {old = old} i first second = record {
  same_start = second.same_start ∙ first.same_start;
  same_failing = second.same_failing ∙ first.same_failing;
  same_room = second.same_room ∙ first.same_room;
  same_name = second.same_name ∙ first.same_name;
  same_space = second.same_space ∙ first.same_space;
  reads_now = second.reads_now ∙ first.reads_now;
  writes_now = second.writes_now ∙ ap (λ (k : ℕ). next_number k) first.writes_now ∙ sym (number_after-more (writes_of old) i);
  syncs_now = second.syncs_now ∙ first.syncs_now;
}

min_zero : (a b : ℕ) → b ≡ 0 → min a b ≡ 0
min_zero a b is = omega (arith, is)

-- before the first sector all are left
pub left_start : (s : MemoryDisk) (sectors : ℕ) → sectors_written s sectors ≡ 0 + sectors_written s (sectors - 0)
left_start s sectors = ap (λ (k : ℕ). sectors_written s k) (let e : sectors ≡ sectors - 0 = omega arith in e) ∙ none_before (sectors_written s (sectors - 0))
  where
    none_before : (k : ℕ) → k ≡ 0 + k
    none_before k = omega arith

module _ (old mid new : MemoryDisk) (sectors i : ℕ) (more : i < sectors) (left : sectors_written old sectors ≡ i + sectors_written mid (sectors - i)) where
  is_more : sectors - i ≡ suc (sectors - (i + 1))
  is_more = omega (arith, more)

  -- one of them is written, and the others are left
  pub left_more : (call : Call) → (IsTrue (write_fails mid) ⊎ IsTrue (is_full mid) → ⊥) → GoesOn mid new (reads_of mid) (next_number (writes_of mid)) (syncs_of mid) → IsRecorded mid new call
      → sectors_written old sectors ≡ i + 1 + sectors_written new (sectors - (i + 1))
  left_more call passes goes recorded =
      let rest = sectors - (i + 1) in
      let not_listed = false_from_ne_true (write_fails mid) (λ listed. passes (inl listed)) in
      let space : length (record_of mid) < mid.room = leb-false mid.room (length (record_of mid)) (false_from_ne_true (is_full mid) (λ full. passes (inr full))) in
      let long : length (record_of new) ≡ length (record_of mid) + 1 = ap length recorded ∙ length-append (record_of mid) (call ∷ []) in
      let room : room_left mid ≡ suc (room_left new) = omega (arith, space, long, goes.same_room) in
      let numbers = mid.failing.writes.items in
      let next : calls_before_listed numbers (next_number mid.writes) rest ≡ calls_before_listed new.failing.writes.items new.writes rest =
      ap₂ (λ (f : Failing) (k : ℕ). calls_before_listed f.writes.items k rest) (sym goes.same_failing) (sym goes.writes_now) in
      let one : sectors_written mid (sectors - i) ≡ suc (sectors_written new rest) =
      ap₂ (λ (a b : ℕ). min a b) (before_goes_on numbers mid.writes (sectors - i) rest is_more not_listed ∙ ap (λ (k : ℕ). suc k) next) room
      ∙ suc-min-suc (calls_before_listed new.failing.writes.items new.writes rest) (room_left new) in
      left ∙ ap (λ (k : ℕ). i + k) one ∙ step i (sectors_written new rest)
    where
      step : (a b : ℕ) → a + suc b ≡ a + 1 + b
      step a b = omega arith

  -- the next isn't written
  pub left_ends : IsTrue (write_fails mid) ⊎ IsTrue (is_full mid) → sectors_written old sectors ≡ i
  left_ends fails = left ∙ ap (λ (k : ℕ). i + k) (none fails) ∙ (let e : i + 0 ≡ i = omega arith in e)
    where
      none : IsTrue (write_fails mid) ⊎ IsTrue (is_full mid) → sectors_written mid (sectors - i) ≡ 0
      none (inl listed) = ap (λ (k : ℕ). min k (room_left mid)) (before_ends mid.failing.writes.items mid.writes (sectors - i) (sectors - (i + 1)) is_more listed) ∙ zero-min (room_left mid)
      none (inr full) =
          let most = leb-true mid.room (length (record_of mid)) full in
          min_zero (calls_before_listed mid.failing.writes.items mid.writes (sectors - i)) (room_left mid) (omega (arith, most))

-- so many calls were made
pub calls_made : (written sectors i : ℕ) → written ≡ i → i < sectors → min sectors (written + 1) ≡ i + 1
calls_made written sectors i is more = omega (arith, is, more)

-- so many writes of a row by another word
pub goes_as : {old new : MemoryDisk} {made calls : ℕ} → made ≡ calls → GoesOn old new (reads_of old) (number_after (writes_of old) made) (syncs_of old)
    → GoesOn old new (reads_of old) (number_after (writes_of old) calls) (syncs_of old)
goes_as {old = old} {new = new} is goes = subst (λ (k : ℕ). GoesOn old new (reads_of old) (number_after (writes_of old) k) (syncs_of old)) is goes

-- a call that fails leaves what is recorded
pub recorded_as : {old mid new : MemoryDisk} {n : ℕ} {from : List ℕ} {i sectors : ℕ} → i ≡ sectors → IsRecordedRow old mid n from i → IsUnchanged mid new → IsRecordedRow old new n from sectors
recorded_as {old = old} {mid = mid} {new = new} {n = n} {from = from} is row same =
    subst (λ (k : ℕ). IsRecordedRow old new n from k) is (record {
      rows = row.rows;
      each = row.each;
      whole = row.whole;
      starts = row.starts;
      recorded = same.same_record ∙ row.recorded;
      has = ap (λ (k : Image). k.bytes.items) same.same_image ∙ row.has;
    })
