-- The record of zone 0 with a new root agrees with that of the kind.
use Rattle.std.proofs.Common.{◌≡◌, ◌<◌, ◌≤◌, ◌⊎◌, inl, inr, ℕ, zero, suc, ◌+◌, ◌-◌, ◌/◌, ◌%◌, ◌^◌, Bool, true, false, cond, List, [], ◌∷◌, ◌++◌, length, take, drop, refl, sym, ap, ap₂, subst, ◌∙◌, arith, Some, None, Option, length-append, length-drop, append_assoc, eq-eqb}
use Rattle.std.specs.Prelude.{Ok, Err, not, slice_index, ◌==◌, ◌&&◌, ◌||◌, nat_le, nat_lt}
use Rattle.std.specs.List.{AllByRecursion, find}
use Rattle.std.proofs.lemmas.List.{length-take-le, drop-drop, take_at, drop_at}
use Rattle.byteorder.specs.Endian.{little_bytes}
use Rattle.byteorder.specs.Numbers.{length-bytes_low_first}
use Rattle.fc_bytes.specs.Words.{bytes_at}
use Rattle.fc_bigdir.proofs.WrittenEntries.{word_first}
use Rattle.fc_record.specs.declared.DiscRecord.{DiscRecord}
use Rattle.fc_record.specs.declared.Kind.{Kind}
use Rattle.fc_record.specs.declared.Kind.TheVariants.{Boot, OneZone, DiscD, DiscL}
use Rattle.fc_record.specs.Record.{is_root_right, is_root_size_right, record_of}
use Rattle.fc_record.specs.Kinds.{IsKind, map_record}
use Rattle.fc_bytes.specs.Checks.{is_big_size}
use Rattle.fc_newmap.specs.Map.{Map, sector_of, with_root}
use Rattle.fc_newmap.specs.NewMap.{rooted}
use Rattle.fc_newmap.proofs.RootLemmas.{root_front}
use Rattle.fc_image.specs.declared.ImageFault.TheVariants as faults
use Rattle.fc_image.specs.Opening.{Opened, agreement, byte_compared, compared_offsets, difference}
use Rattle.fc_image.specs.Stays.{IsNewKind}
use Rattle.fc_image.specs.Walk.{Object}
use Rattle.fc_image.proofs.OpenedLemmas.{edited_image_law}
use Rattle.fc_image.proofs.RecordLemmas.{agree}
use Rattle.fc_changes.specs.Owed.{IsBefore}
use Rattle.fc_changes.proofs.CommittedLemmas.{index_part}
use Rattle.fc_changes.specs.growth.Grown.{HasRoot, IsMapGrown, NewPlace}
use Rattle.fc_changes.specs.growth.Maps.{GrownMapsLaw, rooted_map}
use Rattle.fc_changes.proofs.lemmas.growth.MapLemmas.{fits, map_by, space'}

-- ---- bytes of a record

take_none : (k : ℕ) → (let none : List ℕ = [] in none) ≡ take k []
take_none zero = refl
take_none (suc k) = refl

drop_take : (a n k : ℕ) (xs : List ℕ) → k ≡ a + n → drop a (take k xs) ≡ take n (drop a xs)
drop_take zero n k xs e = ap (λ (j : ℕ). take j xs) (let f : k ≡ n = omega (arith, e) in f)
drop_take (suc a) n zero xs e = absurd (omega (arith, e))
drop_take (suc a) n (suc k) [] e = take_none n
drop_take (suc a) n (suc k) (x ∷ xs) e = drop_take a n k xs (omega (arith, e))

take_more : (xs ys : List ℕ) (k n : ℕ) → k ≡ 4 + n → length xs ≡ 4 → take k (xs ++ ys) ≡ xs ++ take n ys
take_more (a ∷ b ∷ c ∷ d ∷ []) ys k n e long = ap (λ (j : ℕ). take j (a ∷ b ∷ c ∷ d ∷ ys)) (let f : k ≡ suc (suc (suc (suc n))) = omega (arith, e) in f)
take_more [] ys k n e long = absurd (omega (arith, long))
take_more (a ∷ []) ys k n e long = absurd (omega (arith, long))
take_more (a ∷ b ∷ []) ys k n e long = absurd (omega (arith, long))
take_more (a ∷ b ∷ c ∷ []) ys k n e long = absurd (omega (arith, long))
take_more (a ∷ b ∷ c ∷ d ∷ x ∷ xs) ys k n e long = absurd (omega (arith, long))

module _ (s : List ℕ) (root size : ℕ) (long : 64 ≤ length s) where
  abbrev now : List ℕ
  now = with_root s root size

  -- the bytes between the two numbers
  between : List ℕ
  between = take 32 (drop 20 s)

  unfold_now : now ≡ (take 16 s ++ little_bytes 4 root) ++ (between ++ (little_bytes 4 size ++ drop 56 s))
  unfolding between
  unfold_now = unfold_list
    where
      unfold_list : now ≡ (take 16 s ++ little_bytes 4 root) ++ (take 32 (drop 20 s) ++ (little_bytes 4 size ++ drop 56 s))
      unfold_list =
          append_assoc (((take 16 s ++ little_bytes 4 root) ++ take 32 (drop 20 s))) (little_bytes 4 size) (drop 56 s)
          ∙ append_assoc (take 16 s ++ little_bytes 4 root) (take 32 (drop 20 s)) (little_bytes 4 size ++ drop 56 s)

  front_long : length (take 16 s ++ little_bytes 4 root) ≡ 20
  front_long = omega (arith, length-append (take 16 s) (little_bytes 4 root), length-take-le 16 s (omega (arith, long)), length-bytes_low_first 0 4 root)

  between_long : length between ≡ 32
  unfolding between
  between_long = length-take-le 32 (drop 20 s) (omega (arith, long, length-drop 20 s))

  drop_front : drop 20 now ≡ between ++ (little_bytes 4 size ++ drop 56 s)
  drop_front = ap (drop 20) unfold_now ∙ drop_at (take 16 s ++ little_bytes 4 root) (between ++ (little_bytes 4 size ++ drop 56 s)) 20 front_long

  middle : take 32 (drop 20 now) ≡ take 32 (drop 20 s)
  unfolding between
  middle = ap (take 32) drop_front ∙ take_at (take 32 (drop 20 s)) (little_bytes 4 size ++ drop 56 s) 32 between_long

  -- a byte outside the two numbers
  same_byte : (at : ℕ) → (at < 12) ⊎ ((16 ≤ at) × (at < 48)) → slice_index (bytes_at now 4 60) at ≡ slice_index (bytes_at s 4 60) at
  same_byte at where_it = index_part 4 60 at now (low where_it) ∙ by where_it ∙ sym (index_part 4 60 at s (low where_it))
    where
      low : (at < 12) ⊎ ((16 ≤ at) × (at < 48)) → at < 60
      low (inl x) = omega (arith, x)
      low (inr x) = let y = x.1 in omega (arith, y)

      by : (at < 12) ⊎ ((16 ≤ at) × (at < 48)) → slice_index now (4 + at) ≡ slice_index s (4 + at)
      by (inl x) =
          let z : 0 + (4 + at) ≡ 4 + at = omega arith in
          ap (slice_index now) (sym z) ∙ sym (index_part 0 16 (4 + at) now (omega (arith, x))) ∙ ap (λ (xs : List ℕ). slice_index xs (4 + at)) (root_front s root size (omega (arith, long)))
          ∙ index_part 0 16 (4 + at) s (omega (arith, x)) ∙ ap (slice_index s) z
      by (inr x) =
          let from = x.0 in
          let to = x.1 in
          let z : 20 + (at - 16) ≡ 4 + at = omega (arith, from) in
          ap (slice_index now) (sym z) ∙ sym (index_part 20 32 (at - 16) now (omega (arith, from, to))) ∙ ap (λ (xs : List ℕ). slice_index xs (at - 16)) middle
          ∙ index_part 20 32 (at - 16) s (omega (arith, from, to)) ∙ ap (slice_index s) z

  all_bytes : AllByRecursion (λ at. slice_index (bytes_at now 4 60) at ≡ slice_index (bytes_at s 4 60) at) compared_offsets
  all_bytes = (same_byte 0 (inl (omega arith)), (same_byte 4 (inl (omega arith)), (same_byte 5 (inl (omega arith)), (same_byte 9 (inl (omega arith)), (same_byte 10 (inl (omega arith)), (same_byte 11 (inl (omega arith)), (same_byte 16 (inr (omega arith, omega arith)), (same_byte 17 (inr (omega arith, omega arith)), (same_byte 18 (inr (omega arith, omega arith)), (same_byte 19 (inr (omega arith, omega arith)), (same_byte 36 (inr (omega arith, omega arith)), (same_byte 37 (inr (omega arith, omega arith)), (same_byte 38 (inr (omega arith, omega arith)), (same_byte 39 (inr (omega arith, omega arith)), (same_byte 40 (inr (omega arith, omega arith)), (same_byte 42 (inr (omega arith, omega arith)), (same_byte 44 (inr (omega arith, omega arith)), (same_byte 45 (inr (omega arith, omega arith)), (same_byte 46 (inr (omega arith, omega arith)), (same_byte 47 (inr (omega arith, omega arith)), tt))))))))))))))))))))

  same_difference : (r : DiscRecord) → difference r (map_record now) ≡ difference r (map_record s)
  same_difference r = go compared_offsets all_bytes
    where
      go : (ats : List ℕ) → AllByRecursion (λ at. slice_index (bytes_at now 4 60) at ≡ slice_index (bytes_at s 4 60) at) ats
          → find (λ at. not (byte_compared r at == byte_compared (map_record now) at)) ats ≡ find (λ at. not (byte_compared r at == byte_compared (map_record s) at)) ats
      go [] h = refl
      go (at ∷ ats) h =
          ap₂ (λ (n : ℕ) (q : Option ℕ). cond (not (byte_compared r at == cond (at == 40) (n % 16) n)) (Some at) q) h.0 (go ats h.1)

  -- the two numbers
  root_is : root < 2 ^ 32 → (map_record now).root ≡ root
  root_is small = word_first (bytes_at now 4 60) (take 44 (between ++ (little_bytes 4 size ++ drop 56 s))) 12 root at_root small
    where
      at_root : drop 12 (bytes_at now 4 60) ≡ little_bytes 4 root ++ take 44 (between ++ (little_bytes 4 size ++ drop 56 s))
      at_root =
          drop_take 12 48 60 (drop 4 now) refl ∙ ap (take 48) (drop-drop 12 4 now ∙ at16)
          ∙ take_more (little_bytes 4 root) (between ++ (little_bytes 4 size ++ drop 56 s)) 48 44 refl (length-bytes_low_first 0 4 root)
        where
          at16 : drop 16 now ≡ little_bytes 4 root ++ (between ++ (little_bytes 4 size ++ drop 56 s))
          at16 =
              ap (drop 16) (unfold_now ∙ append_assoc (take 16 s) (little_bytes 4 root) (between ++ (little_bytes 4 size ++ drop 56 s)))
              ∙ drop_at (take 16 s) (little_bytes 4 root ++ (between ++ (little_bytes 4 size ++ drop 56 s))) 16 (length-take-le 16 s (omega (arith, long)))

  size_is : size < 2 ^ 32 → (map_record now).root_size ≡ size
  size_is small = word_first (bytes_at now 4 60) (take 8 (drop 56 s)) 48 size at_size small
    where
      at_size : drop 48 (bytes_at now 4 60) ≡ little_bytes 4 size ++ take 8 (drop 56 s)
      at_size =
          drop_take 48 12 60 (drop 4 now) refl ∙ ap (take 12) (drop-drop 48 4 now ∙ at52)
          ∙ take_more (little_bytes 4 size) (drop 56 s) 12 8 refl (length-bytes_low_first 0 4 size)
        where
          at52 : drop 52 now ≡ little_bytes 4 size ++ drop 56 s
          at52 = sym (drop-drop 32 20 now) ∙ ap (drop 32) drop_front ∙ drop_at between (little_bytes 4 size ++ drop 56 s) 32 between_long

-- ---- agreement

pub no_difference : (r s own : DiscRecord) (d : Option ℕ) → agreement r s d ≡ Ok own → d ≡ None
no_difference r s own (Some at) e = absurd (cc)
no_difference r s own None e = refl

agrees : (r s : DiscRecord) (d : Option ℕ) → d ≡ None → is_root_right s ≡ true → is_root_size_right s ≡ true → agreement r s d ≡ Ok s
agrees r s d none right size_right = ap (agreement r s) none ∙ by (is_root_right s) (is_root_size_right s) right size_right
  where
    by : (a b : Bool) → a ≡ true → b ≡ true → cond (not a) (Err (faults.Bad 12)) (cond (not b) (Err (faults.Bad 48)) (Ok s)) ≡ Ok s
    by true true x y = refl
    by false b x y = absurd (cc)
    by true false x y = absurd (cc)

pub raw_of : (kind : Kind) (r : DiscRecord) → IsNewKind kind r → IsKind kind → r ≡ record_of r.raw
raw_of (Boot s) r new is = subst (λ (t : DiscRecord). t ≡ record_of t.raw) new is.from_raw
raw_of (OneZone s) r new is = subst (λ (t : DiscRecord). t ≡ record_of t.raw) new is.0.from_raw
raw_of DiscD r new is = absurd new
raw_of (DiscL units) r new is = absurd new

root' : (kind : Kind) (r : DiscRecord) (image image' : List ℕ) (v : Opened) (m m' : Map) (o : Object) (place : NewPlace) → IsBefore kind r image v m → IsMapGrown m m' image' o place → length o.path ≡ 0
    → place.address < 2 ^ 32 → place.len < 2 ^ 32 → is_root_right (rooted m place.address place.len) ≡ true → is_root_size_right (rooted m place.address place.len) ≡ true → HasRoot r m' place
root' kind r image image' v m m' o place before map empty small_root small_size right size_right =
    let s : List ℕ = sector_of m 0 in
    let t : List ℕ = with_root s place.address place.len in
    let long : 64 ≤ length s = fits m m m' o place image image' before.is_map in
    let old = edited_image_law.map image kind r v m before.new_kind before.opens before.layout in
    let none_old = no_difference r (map_record s) old.own (difference r (map_record s)) old.agreed in
    let none = same_difference s place.address place.len long r ∙ none_old in
    let raw = raw_of kind r before.new_kind before.opens.kind_right in
    let was = agree r (map_record s) raw refl none_old in
    let now = agree r (map_record t) raw refl none in
    let version : (map_record t).version ≡ (map_record s).version = ap (λ (x : DiscRecord). x.version) now ∙ sym (ap (λ (x : DiscRecord). x.version) was) in
    let root_now = root_is s place.address place.len long small_root in
    let size_now = size_is s place.address place.len long small_size in
    let right_now : is_root_right (map_record t) ≡ true =
    ap₂ (λ (x y : ℕ). nat_le 2 (x / 256) && (nat_lt 0 y || nat_lt x (2 ^ 24))) root_now version ∙ right in
    let size_right_now : is_root_size_right (map_record t) ≡ true = ap₂ (λ (x y : ℕ). (y == 0) || is_big_size x) size_now version ∙ size_right in
    let same : map_record (sector_of m' 0) ≡ map_record t = map.record_is ∙ ap (λ (b : Bool). map_record (cond b t s)) (eq-eqb (length o.path) 0 empty) in
    record {
      own = map_record t;
      agreed = ap (λ (x : DiscRecord). agreement r x (difference r x)) same ∙ agrees r (map_record t) (difference r (map_record t)) none right_now size_right_now;
      address = root_now;
      len = size_now;
    }

pub grown_maps_law : GrownMapsLaw
grown_maps_law = record {
  space = λ m mid m' o place object dir gone kept applied runs some_object some_dir id_is parts_are. space' m (rooted_map m o place) mid m' place object dir gone kept applied runs some_object some_dir id_is parts_are;
  map = λ m mid m' o place start image' kept edits runs contents ends. map_by m mid m' o place start image' kept.was (length o.path == 0) refl kept edits runs contents ends;
  root = root';
}
