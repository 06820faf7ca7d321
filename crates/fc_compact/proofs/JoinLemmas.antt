-- The sectors of all runs of an identifier are copied into one hole.
use Rattle.std.proofs.Common.{◌≡◌, ◌<◌, ◌≤◌, ◌⊎◌, inl, inr, ℕ, zero, suc, ◌+◌, ◌-◌, ◌*◌, ◌/◌, ◌%◌, ◌^◌, Bool, true, false, List, [], ◌∷◌, ◌++◌, length, length-append, append-nil, refl, sym, ap, subst, ◌∙◌, arith}
use Rattle.std.specs.Prelude.{◌||◌, Contains, slice_index}
use Rattle.std.specs.List.{range_with_len}
use Rattle.std.proofs.Math.ListN.{get_or-append}
use Rattle.std.proofs.Math.Nat.{div-le_self}
use Rattle.std.proofs.Math.Seq.{get_or-append_right}
use Rattle.std.proofs.lemmas.Bool.{cases_lt, eq-eqb}
use Rattle.std.proofs.lemmas.Grind.{flat_map-append}
use Rattle.std.proofs.lemmas.Nat.{div-mul-add, div-add-mod'}
use Rattle.std.proofs.lemmas.List.FromFn.{length-range_with_len, get_or-range_with_len}
use Rattle.fc_device.specs.Sectors.{sector_at}
use Rattle.fc_record.specs.declared.Geometry.{Geometry}
use Rattle.fc_record.specs.Kinds.{map_record}
use Rattle.fc_newmap.specs.Map.{Map, ZoneRun, bits_in, disc_bit, first_sector, hole_runs, id_runs, run_sectors, sector_count, sector_of, sectors_of}
use Rattle.fc_newmap.specs.NewMap.{IsNewMap}
use Rattle.fc_newmap.specs.Walk.{IsInZone}
use Rattle.fc_newmap.proofs.ExtentLemmas.{bits_on_disc}
use Rattle.fc_newmap.proofs.HeldLemmas.{geometry_facts}
use Rattle.fc_newmap.proofs.PlaceLemmas.{held_in, in_back, in_front, in_range}
use Rattle.fc_image.specs.Layout.{Layout, disc_sectors, hole_sectors, id_sectors, is_among}
use Rattle.fc_image.proofs.HolesLemmas.{id_no_hole}
use Rattle.std.proofs.lemmas.List.Sums.{sum_by-cons}
use Rattle.fc_alloc.specs.declared.owner.Owner.{Owner}
use Rattle.fc_image.specs.Objects.{objects_of}
use Rattle.fc_image.specs.Moves.{CanCommit, Carried}
use Rattle.fc_compact.specs.Laws.{Laws}
use Rattle.fc_compact.specs.Ready.{IsReady, is_movable_by}
use Rattle.fc_compact.specs.Slides.{run_at}
use Rattle.fc_compact.proofs.StepLemmas.{map_is, movable_is}
use Rattle.fc_compact.specs.Copy.{ChangesRow, IsCopied}
use Rattle.fc_compact.specs.Joins.{ArePut}
use Rattle.fc_compact.proofs.ReadyLemmas.{row_same}
use Rattle.fc_compact.proofs.PreservesLemmas.{geometry_is}

-- ---- places on the disc

-- the parts together have no more than the whole
parts_le : (a b w : ℕ) → 0 < w → a / w + b / w ≤ (a + b) / w
parts_le a b w some =
    let t = a % w + b % w in
    let e : a + b ≡ (a / w + b / w + t / w) * w + t % w = omega (arith, div-add-mod' a w, div-add-mod' b w, div-add-mod' t w) in
    let f : (a + b) / w ≡ a / w + b / w + t / w = ap (λ n. n / w) e ∙ div-mul-add (a / w + b / w + t / w) w (t % w) (mod_low t) in
    omega (arith, f)
  where
    mod_low : (t : ℕ) → t % w < w
    mod_low t = omega arith

-- What holds of the next of an identifier's runs, of so many sectors from sector `first` on, before it is copied to those from `here` on.
pub record NextRow (m : Map) (to here first sectors : ℕ) (passed : List ZoneRun) (p : ZoneRun) : Type 0 where
  pub longer : length (sectors_of m.geometry (passed ++ p ∷ [])) ≡ length (sectors_of m.geometry passed) + sectors
  pub on_disc : first + sectors ≤ disc_sectors (Layout.New m)
  pub room : here + sectors ≤ disc_sectors (Layout.New m)
  pub high : disc_sectors (Layout.New m) ≤ 2 ^ 40
  pub apart : (first + sectors ≤ here) ⊎ (here + sectors ≤ first)
  pub in_hole : (i : ℕ) → i < sectors → is_among (hole_sectors (Layout.New m)) (here + i) ≡ true
  pub put : (was image : List ℕ) → ArePut m.geometry.sector to (sectors_of m.geometry passed) was → ChangesRow m.geometry.sector here sectors was image
      → IsCopied m.geometry.sector first here sectors image → ArePut m.geometry.sector to (sectors_of m.geometry (passed ++ p ∷ [])) image

module _ (m : Map) (is : IsNewMap m) where
  abbrev g : Geometry
  g = m.geometry

  pub disc_run : (p : ZoneRun) → IsInZone g p → first_sector g p + sector_count g p ≤ disc_sectors (Layout.New m)
  disc_run p lies =
      let some = (geometry_is m is).some in
      let bits = bits_on_disc g p is.of_record lies in
      let all = disc_bit g p + p.1.len in
      let more = g.disc_bits - all in
      let first = parts_le (disc_bit g p * g.bit_bytes) (p.1.len * g.bit_bytes) g.sector some in
      let then = parts_le (all * g.bit_bytes) (more * g.bit_bytes) g.sector some in
      let both : disc_bit g p * g.bit_bytes + p.1.len * g.bit_bytes ≡ all * g.bit_bytes = omega arith in
      let whole : all * g.bit_bytes + more * g.bit_bytes ≡ g.disc_bits * g.bit_bytes =
      (let e : all + more ≡ g.disc_bits = omega (arith, bits) in let f : all * g.bit_bytes + more * g.bit_bytes ≡ (all + more) * g.bit_bytes = omega arith in f ∙ ap (λ n. n * g.bit_bytes) e) in
      omega (arith, first, then, ap (λ n. n / g.sector) both, ap (λ n. n / g.sector) whole)

  pub disc_high : disc_sectors (Layout.New m) ≤ 2 ^ 40
  disc_high = let bytes = (geometry_facts g is.of_record).bytes in omega (arith, bytes, div-le_self (g.disc_bits * g.bit_bytes) g.sector)

  -- a sector of a run of the identifier lies in no hole
  module _ (id : ℕ) (passed rest : List ZoneRun) (p : ZoneRun) (cut : id_runs m id ≡ passed ++ p ∷ rest) where
    sectors_cut : id_sectors m id ≡ sectors_of g passed ++ (run_sectors g p ++ sectors_of g rest)
    sectors_cut = ap (sectors_of g) cut ∙ flat_map-append (run_sectors g) passed (p ∷ rest)

    pub sectors_more : sectors_of g (passed ++ p ∷ []) ≡ sectors_of g passed ++ run_sectors g p
    sectors_more = flat_map-append (run_sectors g) passed (p ∷ []) ∙ ap (λ (xs : List ℕ). sectors_of g passed ++ xs) (append-nil (run_sectors g p))

    pub length_more : length (sectors_of g (passed ++ p ∷ [])) ≡ length (sectors_of g passed) + sector_count g p
    length_more = ap length sectors_more ∙ length-append (sectors_of g passed) (run_sectors g p) ∙ ap (λ n. length (sectors_of g passed) + n) (length-range_with_len (first_sector g p) (sector_count g p))

    pub within_id : length (sectors_of g passed) + sector_count g p ≤ length (id_sectors m id)
    within_id =
        omega (arith, ap length sectors_cut, length-append (sectors_of g passed) (run_sectors g p ++ sectors_of g rest), length-append (run_sectors g p) (sectors_of g rest), length-range_with_len (first_sector g p) (sector_count g p))

    no_hole : (s : ℕ) → is_among (id_sectors m id) s ≡ true → is_among (hole_sectors (Layout.New m)) s ≡ true → ⊥
    no_hole = id_no_hole m (geometry_is m is) is.right (geometry_facts g is.of_record).zones id

    passed_among : (s : ℕ) → is_among (sectors_of g passed) s ≡ true → is_among (id_sectors m id) s ≡ true
    passed_among s i = subst (λ (xs : List ℕ). is_among xs s ≡ true) (sym sectors_cut) (in_front (sectors_of g passed) (run_sectors g p ++ sectors_of g rest) s i)

    run_among : (i : ℕ) → i < sector_count g p → is_among (id_sectors m id) (first_sector g p + i) ≡ true
    run_among i lt =
        subst (λ (xs : List ℕ). is_among xs (first_sector g p + i) ≡ true) (sym sectors_cut)
        (in_back (sectors_of g passed) (run_sectors g p ++ sectors_of g rest) (first_sector g p + i)
        (in_front (run_sectors g p) (sectors_of g rest) (first_sector g p + i) (in_range (first_sector g p) (sector_count g p) (first_sector g p + i) (omega arith) (omega (arith, lt)))))

    module _ (to : ℕ) (hole : (i : ℕ) → i < length (id_sectors m id) → is_among (hole_sectors (Layout.New m)) (to + i) ≡ true) where
      abbrev at : ℕ
      at = to + length (sectors_of g passed)

      pub row_in_hole : (i : ℕ) → i < sector_count g p → is_among (hole_sectors (Layout.New m)) (at + i) ≡ true
      row_in_hole i lt =
          let e : to + (length (sectors_of g passed) + i) ≡ at + i = omega arith in
          subst (λ (k : ℕ). is_among (hole_sectors (Layout.New m)) k ≡ true) e (hole (length (sectors_of g passed) + i) (omega (arith, lt, within_id)))

      -- so the run lies apart from where it is copied to
      pub rows_apart : (first_sector g p + sector_count g p ≤ at) ⊎ (at + sector_count g p ≤ first_sector g p)
      rows_apart = elim (cases_lt at (first_sector g p + sector_count g p)) [
        | inr before ↦ inl before
        | inl in_reach ↦ elim (cases_lt (first_sector g p) (at + sector_count g p)) [
          | inr behind ↦ inr behind
          | inl meets ↦ elim (cases_lt (first_sector g p) at) [
            | inl less ↦ absurd (
                let k = at - first_sector g p in
                let e : first_sector g p + k ≡ at + 0 = omega arith in
                no_hole (at + 0) (subst (λ (n : ℕ). is_among (id_sectors m id) n ≡ true) e (run_among k (omega (arith, in_reach)))) (row_in_hole 0 (omega (arith, less, in_reach))))
            | inr more ↦ absurd (
                let k = first_sector g p - at in
                let e : at + k ≡ first_sector g p + 0 = omega arith in
                no_hole (first_sector g p + 0) (run_among 0 (omega (arith, more, meets)))
                (subst (λ (n : ℕ). is_among (hole_sectors (Layout.New m)) n ≡ true) e (row_in_hole k (omega (arith, meets)))))
          ]
        ]
      ]

      -- one run more is put
      pub put_more : (was image : List ℕ) → ArePut g.sector to (sectors_of g passed) was → ChangesRow g.sector at (sector_count g p) was image
          → IsCopied g.sector (first_sector g p) at (sector_count g p) image → ArePut g.sector to (sectors_of g (passed ++ p ∷ [])) image
      put_more was image put row copied i lt = elim (cases_lt i (length (sectors_of g passed))) [
        | inl early ↦ (
            let s = slice_index (sectors_of g passed) i in
            let same : slice_index (sectors_of g (passed ++ p ∷ [])) i ≡ s =
            ap (λ (xs : List ℕ). slice_index xs i) sectors_more ∙ get_or-append (sectors_of g passed) (run_sectors g p) 0 i early in
            let among = passed_among s (among_at (sectors_of g passed) i early) in
            row.outside (to + i) (inl (omega (arith, early))) ∙ put i early
            ∙ sym (row_same m at (sector_count g p) row_in_hole was image row s (unless (is_among (hole_sectors (Layout.New m)) s) (no_hole s among)))
            ∙ ap (sector_at g.sector image) (sym same))
        | inr late ↦ (
            let j = i - length (sectors_of g passed) in
            let low : j < sector_count g p = omega (arith, lt, length_more, late) in
            let there : to + i ≡ at + j = omega (arith, late) in
            let same : slice_index (sectors_of g (passed ++ p ∷ [])) i ≡ first_sector g p + j =
            ap (λ (xs : List ℕ). slice_index xs i) sectors_more ∙ get_or-append_right (sectors_of g passed) (run_sectors g p) i 0 late
            ∙ get_or-range_with_len (first_sector g p) (sector_count g p) j 0 low in
            ap (sector_at g.sector image) there ∙ copied j low ∙ ap (sector_at g.sector image) (sym same))
      ]
        where
          unless : (b : Bool) → (b ≡ true → ⊥) → b ≡ false
          unless true never = absurd (never refl)
          unless false never = refl

          among_at : (xs : List ℕ) (k : ℕ) → k < length xs → is_among xs (slice_index xs k) ≡ true
          among_at [] k h = absurd (omega arith)
          among_at (x ∷ xs) zero h = ap (λ b. b || is_among xs x) (eq-eqb x x refl)
          among_at (x ∷ xs) (suc k) h = in_back (x ∷ []) xs (slice_index xs k) (among_at xs k (omega arith))

      pub next_row : (here first sectors : ℕ) → first ≡ first_sector g p → sectors ≡ sector_count g p → here ≡ at → IsInZone g p → to + length (id_sectors m id) ≤ disc_sectors (Layout.New m)
          → NextRow m to here first sectors passed p
      next_row here first sectors first_is count_is place lies room =
          subst (λ (k : ℕ). NextRow m to k first sectors passed p) (sym place)
          (subst (λ (k : ℕ). NextRow m to at k sectors passed p) (sym first_is)
          (subst (λ (k : ℕ). NextRow m to at (first_sector g p) k passed p) (sym count_is)
          (record { longer = length_more; on_disc = disc_run p lies; room = omega (arith, within_id, room); high = disc_high; apart = rows_apart; in_hole = row_in_hole; put = put_more })))

-- ---- a map in which one run stands for all of an identifier's

-- so many bits as sectors, at least as many as their parts'
pub runs_le : (g : Geometry) (runs : List ZoneRun) → 0 < g.sector → length (sectors_of g runs) ≤ bits_in runs * g.bit_bytes / g.sector
runs_le g [] some = omega arith
runs_le g (p ∷ runs) some =
    let rest = runs_le g runs some in
    let first = length-append (run_sectors g p) (sectors_of g runs) in
    let count = length-range_with_len (first_sector g p) (sector_count g p) in
    let sum : bits_in (p ∷ runs) ≡ p.1.len + bits_in runs = sum_by-cons (λ (q : ZoneRun). q.1.len) p runs in
    let both : bits_in (p ∷ runs) * g.bit_bytes ≡ p.1.len * g.bit_bytes + bits_in runs * g.bit_bytes = ap (λ n. n * g.bit_bytes) sum ∙ (let e : (p.1.len + bits_in runs) * g.bit_bytes ≡ p.1.len * g.bit_bytes + bits_in runs * g.bit_bytes = omega arith in e) in
    let parts = parts_le (p.1.len * g.bit_bytes) (bits_in runs * g.bit_bytes) g.sector some in
    omega (arith, rest, first, count, parts, ap (λ n. n / g.sector) both)

pub count_up : (g : Geometry) (a b : ℕ) → 0 < g.sector → a ≤ b → a * g.bit_bytes / g.sector ≤ b * g.bit_bytes / g.sector
count_up g a b some le =
    let whole : b * g.bit_bytes ≡ a * g.bit_bytes + (b - a) * g.bit_bytes =
    (let e : b ≡ a + (b - a) = omega arith in let f : (a + (b - a)) * g.bit_bytes ≡ a * g.bit_bytes + (b - a) * g.bit_bytes = omega arith in ap (λ n. n * g.bit_bytes) e ∙ f) in
    omega (arith, parts_le (a * g.bit_bytes) ((b - a) * g.bit_bytes) g.sector some, ap (λ n. n / g.sector) whole)

-- All runs of an identifier were put into the front of a hole, and of the new map that front is its one run.
module _ (law : Laws) (m m' : Map) (owners : List Owner) (image : List ℕ) (ready : IsReady m owners image) (is : IsNewMap m) (is' : IsNewMap m') (id n : ℕ) (hole : ZoneRun)
    (same : m'.geometry ≡ m.geometry) (record_stays : map_record (sector_of m' 0) ≡ map_record (sector_of m 0)) (may : is_movable_by owners id ≡ true)
    (there : Contains (hole_runs m) hole) (within : n ≤ hole.1.len) (enough : bits_in (id_runs m id) ≤ n)
    (one : id_runs m' id ≡ (hole.0, run_at hole.1.start n id) ∷ []) (others : (k : ℕ) → (k ≡ id → ⊥) → id_runs m' k ≡ id_runs m k)
    (put : ArePut m.geometry.sector (first_sector m.geometry hole) (id_sectors m id) image) where
  abbrev to : ℕ
  to = first_sector m.geometry hole

  abbrev joined_count : ℕ
  joined_count = n * m.geometry.bit_bytes / m.geometry.sector

  some_sector : 0 < m.geometry.sector
  some_sector = (geometry_is m is).some

  pub joined_room : length (id_sectors m id) ≤ joined_count
  joined_room = omega (arith, runs_le m.geometry (id_runs m id) some_sector, count_up m.geometry (bits_in (id_runs m id)) n some_sector enough)

  joined_in_hole : (i : ℕ) → i < length (id_sectors m id) → is_among (hole_sectors (Layout.New m)) (to + i) ≡ true
  joined_in_hole i lt =
      held_in m.geometry (hole_runs m) hole (to + i) there
      (record { from = omega arith; to = omega (arith, lt, joined_room, count_up m.geometry n hole.1.len some_sector within) })

  joined_sectors : id_sectors m' id ≡ range_with_len to joined_count
  joined_sectors =
      ap (λ (h : Geometry). sectors_of h (id_runs m' id)) same ∙ ap (sectors_of m.geometry) one ∙ append-nil (range_with_len to joined_count)

  pub join_can : CanCommit m m' (objects_of ready.view.listings) image
  join_can = inl (
    id,
    record {
      geometry_stays = same;
      record_stays = record_stays;
      is_map = map_is m' is';
      movable = movable_is m owners image ready id may;
      others = others;
      carried = subst (λ (xs : List ℕ). Carried m.geometry.sector image image (hole_sectors (Layout.New m)) (id_sectors m id) xs) (sym joined_sectors)
          (law.pieces.onto m.geometry.sector image image (hole_sectors (Layout.New m)) (id_sectors m id) to joined_count joined_room put joined_in_hole);
    },
  )
