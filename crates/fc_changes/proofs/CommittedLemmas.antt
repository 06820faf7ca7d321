-- The map after a commit.
use Rattle.std.proofs.Common.{◌≡◌, ◌<◌, ◌≤◌, ◌⊎◌, inl, inr, ℕ, zero, suc, ◌+◌, ◌-◌, ◌*◌, ◌^◌, List, [], ◌∷◌, ◌++◌, length, take, drop, refl, sym, ap, ap₂, subst, ◌∙◌, arith}
use Rattle.std.specs.Prelude.{Contains, slice_index, slice_range}
use Rattle.std.specs.List.{AllByRecursion}
use Rattle.std.proofs.lemmas.List.{drop-drop}
use Rattle.fc_bytes.specs.Bits.{bits, num}
use Rattle.fc_bytes.specs.BitLaws.{bits-drop, bits-take, length-bits}
use Rattle.fc_record.specs.declared.Geometry.{Geometry}
use Rattle.fc_record.specs.Record.{end_bit, first_bit, record_of}
use Rattle.fc_record.specs.Kinds.{map_record}
use Rattle.fc_zone.specs.declared.Run.{Run}
use Rattle.fc_zone.specs.declared.RunKind.{RunKind}
use Rattle.fc_zone.specs.declared.RunKind.TheVariants as kinds
use Rattle.fc_zone.specs.declared.ZoneShape.{ZoneShape}
use Rattle.fc_zone.specs.Zone.{Spells, field_at, hole_starts, start_if_hole}
use Rattle.fc_newmap.specs.Map.{Map, ZoneRun, runs_in, runs_of, sector_of, shape}
use Rattle.fc_newmap.specs.Edits.{AreEdits, KeepsRuns}
use Rattle.fc_newmap.proofs.GeometryLemmas.{geometry_of_valid, header_high}
use Rattle.fc_newmap.proofs.HeldLemmas.{geometry_facts}
use Rattle.fc_newmap.specs.RunsLaw.{IsGeometry, placed}
use Rattle.fc_newmap.specs.Copies.{CommitEnds}
use Rattle.fc_newmap.specs.Committing.{KeepsContents}
use Rattle.fc_image.specs.effects.Steady.{KeepsOrWritesLinks, ZoneSteady}
use Rattle.fc_changes.specs.Owed.{IsMapAfter}
use Rattle.fc_changes.specs.Laws.{CommittedLaw}

-- ---- lists that agree in some places

same_list : (xs ys : List ℕ) → length ys ≡ length xs → ((k : ℕ) → slice_index ys k ≡ slice_index xs k) → ys ≡ xs
same_list [] [] long same = refl
same_list [] (y ∷ ys) long same = absurd (omega (arith, long))
same_list (x ∷ xs) [] long same = absurd (omega (arith, long))
same_list (x ∷ xs) (y ∷ ys) long same = ap₂ (λ (z : ℕ) (zs : List ℕ). z ∷ zs) (same 0) (same_list xs ys (omega (arith, long)) (λ k. same (suc k)))

pub same_drop : (a : ℕ) (xs ys : List ℕ) → length ys ≡ length xs → ((k : ℕ) → a ≤ k → slice_index ys k ≡ slice_index xs k) → drop a ys ≡ drop a xs
same_drop zero xs ys long same = same_list xs ys long (λ k. same k (omega arith))
same_drop (suc a) [] [] long same = refl
same_drop (suc a) [] (y ∷ ys) long same = absurd (omega (arith, long))
same_drop (suc a) (x ∷ xs) [] long same = absurd (omega (arith, long))
same_drop (suc a) (x ∷ xs) (y ∷ ys) long same = same_drop a xs ys (omega (arith, long)) (λ k h. same (suc k) (omega (arith, h)))

same_take : (n : ℕ) (xs ys : List ℕ) → length ys ≡ length xs → ((k : ℕ) → k < n → slice_index ys k ≡ slice_index xs k) → take n ys ≡ take n xs
same_take zero xs ys long same = refl
same_take (suc n) [] [] long same = refl
same_take (suc n) [] (y ∷ ys) long same = absurd (omega (arith, long))
same_take (suc n) (x ∷ xs) [] long same = absurd (omega (arith, long))
same_take (suc n) (x ∷ xs) (y ∷ ys) long same =
    ap₂ (λ (z : ℕ) (zs : List ℕ). z ∷ zs) (same 0 (omega arith)) (same_take n xs ys (omega (arith, long)) (λ k h. same (suc k) (omega (arith, h))))

pub same_part : (a n : ℕ) (xs ys : List ℕ) → length ys ≡ length xs → ((k : ℕ) → a ≤ k → k < a + n → slice_index ys k ≡ slice_index xs k) → take n (drop a ys) ≡ take n (drop a xs)
same_part zero n xs ys long same = same_take n xs ys long (λ k h. same k (omega arith) (omega (arith, h)))
same_part (suc a) n [] [] long same = refl
same_part (suc a) n [] (y ∷ ys) long same = absurd (omega (arith, long))
same_part (suc a) n (x ∷ xs) [] long same = absurd (omega (arith, long))
same_part (suc a) n (x ∷ xs) (y ∷ ys) long same = same_part a n xs ys (omega (arith, long)) (λ k h g. same (suc k) (omega (arith, h)) (omega (arith, g)))

-- what agrees from one place on agrees in each part after it
pub part_behind : (a from n : ℕ) (xs ys : List ℕ) → a ≤ from → drop a ys ≡ drop a xs → take n (drop from ys) ≡ take n (drop from xs)
part_behind a from n xs ys low same =
    let at : a + (from - a) ≡ from = omega (arith, low) in
    ap (λ (k : ℕ). take n (drop k ys)) (sym at) ∙ ap (take n) (sym (drop-drop (from - a) a ys)) ∙ ap (λ (zs : List ℕ). take n (drop (from - a) zs)) same ∙ ap (take n) (drop-drop (from - a) a xs)
    ∙ ap (λ (k : ℕ). take n (drop k xs)) at

drop_behind : (a from : ℕ) (xs ys : List ℕ) → a ≤ from → drop a ys ≡ drop a xs → drop from ys ≡ drop from xs
drop_behind a from xs ys low same =
    let at : a + (from - a) ≡ from = omega (arith, low) in
    ap (λ (k : ℕ). drop k ys) (sym at) ∙ sym (drop-drop (from - a) a ys) ∙ ap (drop (from - a)) same ∙ drop-drop (from - a) a xs ∙ ap (λ (k : ℕ). drop k xs) at

index_take : (n k : ℕ) (xs : List ℕ) → k < n → slice_index (take n xs) k ≡ slice_index xs k
index_take zero k xs low = absurd (omega (arith, low))
index_take (suc n) k [] low = refl
index_take (suc n) zero (x ∷ xs) low = refl
index_take (suc n) (suc k) (x ∷ xs) low = index_take n k xs (omega (arith, low))

pub index_part : (a n k : ℕ) (xs : List ℕ) → k < n → slice_index (take n (drop a xs)) k ≡ slice_index xs (a + k)
index_part zero n k xs low = index_take n k xs low ∙ ap (slice_index xs) (let e : k ≡ 0 + k = omega arith in e)
index_part (suc a) n k [] low = index_take n k [] low ∙ ap (slice_index []) (let e : k ≡ k = refl in e) ∙ none k (suc a + k)
  where
    none : (i j : ℕ) → slice_index [] i ≡ slice_index [] j
    none i j = refl
index_part (suc a) n k (x ∷ xs) low = index_part a n k xs low ∙ ap (slice_index (x ∷ xs)) (let e : suc (a + k) ≡ suc a + k = omega arith in e)

-- holes begin in the zone's bits
pub starts_high : (s : ZoneShape) (bs : List ℕ) (at : ℕ) (runs : List Run) (end : ℕ) → Spells s bs at runs end → AllByRecursion (λ p. at ≤ p) (hole_starts runs)
starts_high s bs at [] end spelled = tt
starts_high s bs at (run ∷ runs) end spelled =
    by run.kind (higher (hole_starts runs) (starts_high s bs (at + run.len) runs end spelled.3))
  where
    higher : (ps : List ℕ) → AllByRecursion (λ p. at + run.len ≤ p) ps → AllByRecursion (λ p. at ≤ p) ps
    higher [] a = tt
    higher (p ∷ ps) a = (let from = a.0 in omega (arith, from), higher ps a.1)

    by : (k : RunKind) → AllByRecursion (λ p. at ≤ p) (hole_starts runs) → AllByRecursion (λ p. at ≤ p) (start_if_hole k run.start (hole_starts runs))
    by kinds.Hole a = (let is = spelled.0 in omega (arith, is), a)
    by (kinds.Id id) a = a

module _ (m mid m' : Map) (edits : AreEdits m mid) (kept : KeepsRuns mid m') (contents : KeepsContents mid m') where
  is_geometry : IsGeometry m.geometry
  is_geometry = subst IsGeometry edits.was.of_record.1.1 (geometry_of_valid edits.was.of_record.0 edits.was.of_record.1.0)

  pub geometry_same : m'.geometry ≡ m.geometry
  geometry_same = kept.geometry ∙ edits.geometry

  module _ (z : ℕ) (low : z < m.geometry.zones) where
    long_mid : length (sector_of mid z) ≡ length (sector_of m z)
    long_mid =
        edits.map.whole z (subst (λ (g : Geometry). z < g.zones) (sym edits.geometry) low) ∙ ap (λ (g : Geometry). g.sector) edits.geometry ∙ sym (edits.was.whole z low)

    long_new : length (sector_of m' z) ≡ length (sector_of mid z)
    long_new =
        kept.map.whole z (subst (λ (g : Geometry). z < g.zones) (sym geometry_same) low) ∙ ap (λ (g : Geometry). g.sector) kept.geometry
        ∙ sym (edits.map.whole z (subst (λ (g : Geometry). z < g.zones) (sym edits.geometry) low))

    bits_long : length (bits (sector_of mid z)) ≡ length (bits (sector_of m z))
    bits_long = length-bits (sector_of mid z) ∙ ap (λ (n : ℕ). 8 * n) long_mid ∙ sym (length-bits (sector_of m z))

    -- a commit changes bytes 0 and 3
    commit_behind : drop 32 (bits (sector_of m' z)) ≡ drop 32 (bits (sector_of mid z))
    commit_behind =
        sym (bits-drop 4 (sector_of m' z)) ∙ ap bits (same_drop 4 (sector_of mid z) (sector_of m' z) long_new (λ k h. contents z k (λ e. omega (arith, e, h)) (λ e. omega (arith, e, h)))) ∙ bits-drop 4 (sector_of mid z)

    commit_link : slice_range (bits (sector_of m' z)) 8 24 ≡ slice_range (bits (sector_of mid z)) 8 24
    commit_link =
        ap (take 16) (sym (bits-drop 1 (sector_of m' z))) ∙ sym (bits-take 2 (drop 1 (sector_of m' z)))
        ∙ ap bits (same_part 1 2 (sector_of mid z) (sector_of m' z) long_new (λ k h g. contents z k (λ e. omega (arith, e, h)) (λ e. omega (arith, e, g))))
        ∙ bits-take 2 (drop 1 (sector_of mid z)) ∙ ap (take 16) (bits-drop 1 (sector_of mid z))

    end_high : 32 ≤ end_bit m.geometry z
    end_high = let order = is_geometry.order z low in let first = header_high z in omega (arith, order, first)

    pub steady_zone : ZoneSteady m.geometry z (sector_of m z) (sector_of m' z)
    steady_zone = record {
      header = part_behind 32 32 (first_bit z - 32) (bits (sector_of mid z)) (bits (sector_of m' z)) (omega arith) commit_behind
          ∙ same_part 32 (first_bit z - 32) (bits (sector_of m z)) (bits (sector_of mid z)) bits_long
          (λ k h g. edits.outside z k (inr (omega (arith, h))) (inl (omega (arith, h, g))));
      behind = drop_behind 32 (end_bit m.geometry z) (bits (sector_of mid z)) (bits (sector_of m' z)) end_high commit_behind
          ∙ same_drop (end_bit m.geometry z) (bits (sector_of m z)) (bits (sector_of mid z)) bits_long
          (λ k h. edits.outside z k (inr (let high = end_high in omega (arith, h, high))) (inr h));
    }

    -- links
    field_kept : (at : ℕ) → 32 ≤ at → field_at (shape m.geometry z) (bits (sector_of m' z)) at ≡ field_at (shape m.geometry z) (bits (sector_of mid z)) at
    field_kept at high = ap num (part_behind 32 at (at + m.geometry.idlen - at) (bits (sector_of mid z)) (bits (sector_of m' z)) high commit_behind)

    pub kept_links : KeepsOrWritesLinks m m' z
    kept_links =
        let before = edits.links z in
        let zone = edits.map.right z (subst (λ (g : Geometry). z < g.zones) (sym edits.geometry) low) in
        let starts = starts_high (shape mid.geometry z) (bits (sector_of mid z)) (first_bit z) (runs_of mid z) _ zone.spelled in
        record {
          free_link = elim before.free_link [
            | inl same ↦ inl (commit_link ∙ same)
            | inr top ↦ inr (sym (index_part 8 16 15 (bits (sector_of m' z)) (omega arith)) ∙ ap (λ (xs : List ℕ). slice_index xs 15) commit_link ∙ index_part 8 16 15 (bits (sector_of mid z)) (omega arith) ∙ top)
          ];
          fields = subst (λ (runs : List Run). AllByRecursion (λ at. (Contains (hole_starts (runs_of m z)) at × (field_at (shape m.geometry z) (bits (sector_of m' z)) at ≡ field_at (shape m.geometry z) (bits (sector_of m z)) at)) ⊎ (field_at (shape m.geometry z) (bits (sector_of m' z)) at < 2 ^ 15)) (hole_starts runs)) (sym (kept.runs z))
              (both_each (hole_starts (runs_of mid z)) before.fields starts);
        }
      where
        both_each : (ats : List ℕ) → AllByRecursion (λ at. (Contains (hole_starts (runs_of m z)) at × (field_at (shape m.geometry z) (bits (sector_of mid z)) at ≡ field_at (shape m.geometry z) (bits (sector_of m z)) at)) ⊎ (field_at (shape m.geometry z) (bits (sector_of mid z)) at < 2 ^ 15)) ats
            → AllByRecursion (λ at. first_bit z ≤ at) ats
            → AllByRecursion (λ at. (Contains (hole_starts (runs_of m z)) at × (field_at (shape m.geometry z) (bits (sector_of m' z)) at ≡ field_at (shape m.geometry z) (bits (sector_of m z)) at)) ⊎ (field_at (shape m.geometry z) (bits (sector_of m' z)) at < 2 ^ 15)) ats
        both_each [] a b = tt
        both_each (at ∷ ats) a b =
            let first = header_high z in
            let same = field_kept at (let from = b.0 in omega (arith, first, from)) in
            ((elim a.0 [ inl is ↦ inl (is.0, same ∙ is.1) | inr small ↦ inr (subst (λ (n : ℕ). n < 2 ^ 15) (sym same) small) ]), both_each ats a.1 b.1)

  pub record_same : map_record (sector_of m' 0) ≡ map_record (sector_of m 0)
  record_same =
      let some = (geometry_facts m.geometry edits.was.of_record).zones in
      ap record_of
      (same_part 4 60 (sector_of mid 0) (sector_of m' 0) (long_new 0 some) (λ k h g. contents 0 k (λ e. omega (arith, e, h)) (λ e. omega (arith, e, h)))
      ∙ same_part 4 60 (sector_of m 0) (sector_of mid 0) (long_mid 0 some) (λ k h g. edits.bytes 0 k (inr (omega (arith, h))) (inl (omega (arith, g)))))

  pub committed : (start image' : List ℕ) → CommitEnds m.geometry start m'.zones image' → IsMapAfter m m' image'
  committed start image' ends = record {
    is_map = kept.map;
    geometry = geometry_same;
    copies = ends.copies;
    record_stays = record_same;
    zones = steady_zone;
    links = kept_links;
  }

pub committed_law : CommittedLaw
committed_law m mid m' start image' edits kept contents ends = committed m mid m' edits kept contents start image' ends

-- ---- runs

pub all_same : (m m' : Map) → KeepsRuns m m' → (zones : List ℕ) → runs_in m' zones ≡ runs_in m zones
all_same m m' kept [] = refl
all_same m m' kept (z ∷ zones) = ap₂ (λ (runs : List Run) (others : List ZoneRun). placed z runs ++ others) (kept.runs z) (all_same m m' kept zones)
