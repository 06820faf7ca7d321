-- Changes of space on a map, committed one after another.
use Rattle.std.proofs.Common.{◌≡◌, ◌<◌, ◌⊎◌, inl, inr, ℕ, ◌+◌, ◌-◌, ◌^◌, ◌==◌, Bool, true, false, cond, List, [], ◌∷◌, ◌++◌, length, refl, sym, ap, ap₂, subst, ◌∙◌, arith, Some, None, Option}
use Rattle.std.specs.Prelude.{All, Contains, IsPermutation, filter, ◌||◌, slice_index}
use Rattle.std.specs.List.{AllByRecursion, find, list_any, range_with_len}
use Rattle.std.specs.List.Sorted.{IsStrictlyIncreasing}
use Rattle.std.proofs.lemmas.List.Elements.{Contains-get_or}
use Rattle.std.proofs.lemmas.List.FromFn.{get_or-range_with_len, length-range_with_len}
use Rattle.std.proofs.lemmas.List.Kept.{IsStrictlyIncreasing-filter}
use Rattle.fc_bytes.specs.Bits.{bits}
use Rattle.fc_record.specs.declared.Geometry.{Geometry}
use Rattle.fc_zone.specs.declared.Run.{Run}
use Rattle.fc_zone.specs.declared.RunKind.{RunKind}
use Rattle.fc_zone.specs.declared.RunKind.TheVariants as kinds
use Rattle.fc_zone.specs.declared.ZoneShape.{ZoneShape}
use Rattle.fc_zone.specs.Edits.{KeepsLinks}
use Rattle.fc_zone.specs.Zone.{field_at, hole_starts}
use Rattle.fc_newmap.specs.Map.{Map, ZoneRun, all_runs, has_id, hole_runs, id_runs, is_hole, runs_in, runs_of, sector_of, shape, zone_numbers, map_sectors}
use Rattle.fc_newmap.specs.NewMap.{IsNewMap}
use Rattle.fc_newmap.specs.Edits.{AreEdits, KeepsRuns}
use Rattle.fc_newmap.specs.RunsLaw.{placed}
use Rattle.fc_newmap.proofs.HeldLemmas.{geometry_facts}
use Rattle.fc_newmap.proofs.PlaceLemmas.{id_runs_by_zones}
use Rattle.fc_newmap.specs.Committing.{KeepsContents}
use Rattle.fc_newmap.specs.Copies.{HoldsCopies}
use Rattle.fc_image.proofs.EntriesLemmas.{from_filter}
use Rattle.fc_image.specs.effects.Placed.{holes_left, stands_at}
use Rattle.fc_image.specs.effects.Steady.{ZoneSteady, holes_with, has_id_that, runs_that, zone_holes}
use Rattle.fc_plan.specs.declared.plan.Plan.{Plan}
use Rattle.fc_plan.specs.Applied.{is_changed, unless_gone}
use Rattle.fc_plan.specs.Giving.{has_run_of, is_one_of}
use Rattle.fc_plan.specs.Taking.{as_runs, hole_taken, run_taken, runs_taken}
use Rattle.fc_plan.proofs.Applies.{no_parts}
use Rattle.fc_plan.proofs.Changes.{not_listed}
use Rattle.fc_plan.proofs.Composed.{given_after_take, given_at_holes}
use Rattle.fc_plan.proofs.Left.{left_of_none}
use Rattle.fc_device.specs.Sectors.{sector_at}
use Rattle.fc_image.specs.Layout.{is_among}
use Rattle.fc_changes.specs.Owed.{IsMapAfter, IsSpaceEdit, IsWritten}
use Rattle.fc_changes.proofs.BasicLemmas.{cases_cons, clash, first_in, next_in, or_false}
use Rattle.fc_changes.proofs.CommittedLemmas.{geometry_same, index_part, kept_links, record_same, steady_zone, all_same}
use Rattle.fc_changes.specs.Space.{HasTaken, IsMapEdited, StepsLaw, zones_changed}
pub use Rattle.fc_changes.proofs.lemmas.growth.MapLemmas.{ids_same}

pub any_append : {X : Type 0} (p : X → Bool) (xs ys : List X) → list_any p (xs ++ ys) ≡ (list_any p xs || list_any p ys)
any_append p [] ys = refl
any_append p (x ∷ xs) ys = ap (λ (b : Bool). p x || b) (any_append p xs ys) ∙ or_assoc (p x) (list_any p xs) (list_any p ys)
  where
    or_assoc : (a b c : Bool) → (a || (b || c)) ≡ ((a || b) || c)
    or_assoc true b c = refl
    or_assoc false b c = refl

-- ---- the zones that change

pub range_rises : (from n : ℕ) → IsStrictlyIncreasing (range_with_len from n)
range_rises from n k lt =
    let size = length-range_with_len from n in
    omega (arith, get_or-range_with_len from n k 0 (omega (arith, lt, size)), get_or-range_with_len from n (k + 1) 0 (omega (arith, lt, size)))

below : (n x : ℕ) → Contains (range_with_len 0 n) x → x < n
below n x (k, low, is) = let inside : k < n = omega (arith, low, length-range_with_len 0 n) in omega (arith, inside, is, get_or-range_with_len 0 n k x inside)

pub low_in_range : (from n x : ℕ) → Contains (range_with_len from n) x → x < from + n
low_in_range from n x (k, low, is) = let inside : k < n = omega (arith, low, length-range_with_len from n) in omega (arith, inside, is, get_or-range_with_len from n k x inside)

module _ (m : Map) (plan : Option Plan) (gone zones : List ℕ) (are : zones ≡ zones_changed m plan gone) where
  pub zones_rise : IsStrictlyIncreasing zones
  zones_rise = subst IsStrictlyIncreasing (sym are) (IsStrictlyIncreasing-filter (is_changed m plan None gone) (zone_numbers m.geometry) (range_rises 0 m.geometry.zones))

  pub zones_low : All (λ z. z < m.geometry.zones) zones
  zones_low = subst (λ (zs : List ℕ). All (λ z. z < m.geometry.zones) zs) (sym are)
      (λ k d low. below m.geometry.zones _ (from_filter (is_changed m plan None gone) (zone_numbers m.geometry) _ (Contains-get_or (zones_changed m plan gone) k d low)))

  pub unlisted : (z : ℕ) → z < m.geometry.zones → (Contains zones z → ⊥) → is_changed m plan None gone z ≡ false
  unlisted z low none = not_listed (is_changed m plan None gone) m.geometry.zones z [] zones are low none

-- ---- the map after the commit

pub edited : (m mid m' : Map) → AreEdits m mid → KeepsRuns mid m' → KeepsContents mid m' → IsMapEdited m m'
edited m mid m' edits kept contents = record {
  is_map = kept.map;
  geometry = geometry_same m mid m' edits kept contents;
  record_stays = record_same m mid m' edits kept contents;
  zones = λ z low. steady_zone m mid m' edits kept contents z low;
  links = λ z low. kept_links m mid m' edits kept contents z low;
}

pub after : (m m' : Map) (image : List ℕ) → IsMapEdited m m' → HoldsCopies m.geometry m'.zones image → IsMapAfter m m' image
after m m' image e copies = record { is_map = e.is_map; geometry = e.geometry; copies = copies; record_stays = e.record_stays; zones = e.zones; links = e.links }

-- ---- a map with the same runs

holes_same : (m m' : Map) → KeepsRuns m m' → hole_runs m' ≡ hole_runs m
holes_same m m' kept =
    ap (filter (λ (p : ZoneRun). is_hole p.1.kind)) (ap (λ (g : Geometry). runs_in m' (zone_numbers g)) kept.geometry ∙ all_same m m' kept (zone_numbers m.geometry))

pub took : (m mid m' : Map) (id : ℕ) (parts : List ZoneRun) → HasTaken m mid id parts → KeepsRuns mid m' → HasTaken m m' id parts
took m mid m' id parts taken kept = record {
  geometry = kept.geometry ∙ taken.geometry;
  runs = λ z low. kept.runs z ∙ taken.runs z low;
  holes = holes_same mid m' kept ∙ taken.holes;
  own = ids_same mid m' kept id ∙ taken.own;
  gained = subst (λ (runs : List ZoneRun). IsPermutation runs (id_runs m id ++ as_runs id parts)) (sym (ids_same mid m' kept id)) taken.gained;
  others = λ other ne. ids_same mid m' kept other ∙ taken.others other ne;
}

-- ---- what was taken, as a change of space

nothing_taken : (id z : ℕ) (runs : List Run) → runs_taken id [] z runs ≡ runs
nothing_taken id z [] = refl
nothing_taken id z (run ∷ runs) = by (is_hole run.kind) (nothing_taken id z runs)
  where
    by : (b : Bool) → runs_taken id [] z runs ≡ runs → cond b (run ∷ []) (run ∷ []) ++ runs_taken id [] z runs ≡ run ∷ runs
    by true h = ap (λ (rs : List Run). run ∷ rs) h
    by false h = ap (λ (rs : List Run). run ∷ rs) h

given_none : (m : Map) → runs_that (is_one_of []) m ≡ []
given_none m = none (all_runs m)
  where
    of_kind : (k : RunKind) → has_id_that (is_one_of []) k ≡ false
    of_kind kinds.Hole = refl
    of_kind (kinds.Id id) = refl

    none : (ps : List ZoneRun) → filter (λ p. has_id_that (is_one_of []) p.1.kind) ps ≡ []
    none [] = refl
    none (p ∷ ps) = ap₂ (λ (b : Bool) (qs : List ZoneRun). cond b (p ∷ qs) qs) (of_kind p.1.kind) (none ps)

module _ (m m' : Map) (id : ℕ) (parts : List ZoneRun) (is : IsNewMap m) (taken : HasTaken m m' id parts) where
  other_ids : (k : ℕ) → (0 < length parts → k ≡ id → ⊥) → id_runs m' k ≡ id_runs m k
  other_ids k other = by parts refl
    where
      by : (ps : List ZoneRun) → ps ≡ parts → id_runs m' k ≡ id_runs m k
      by [] none =
          id_runs_by_zones m m' k taken.geometry (geometry_facts m.geometry is.of_record).zones
          (λ z low. ap (λ (runs : List Run). filter (λ (p : ZoneRun). has_id k p.1.kind) (placed z runs))
          (taken.runs z low ∙ ap (λ (ps : List ZoneRun). runs_taken id ps z (runs_of m z)) (sym none) ∙ nothing_taken id z (runs_of m z)))
      by (p ∷ ps) some = taken.others k (other (subst (λ (qs : List ZoneRun). 0 < length qs) some (omega arith)))

  pub taken_space : IsSpaceEdit m m' id parts []
  taken_space = record {
    holes = λ z low. ap (λ (hs : List ZoneRun). zone_holes hs z) taken.holes ∙ sym (ap (λ (bs : List ZoneRun). holes_with (zone_holes (holes_left (hole_runs m) parts) z) (zone_holes bs z)) (given_none m));
    own = λ some. taken.gained;
    others = other_ids;
  }

  -- what goes back after parts were taken went back before
  same_back : (gone : List ℕ) → IsNewMap m' → is_one_of gone id ≡ false → runs_that (is_one_of gone) m' ≡ runs_that (is_one_of gone) m
  same_back gone is' stays =
      sym (given_at_holes m' gone [] is' (no_parts m'))
      ∙ given_after_take gone [] id parts (λ one. absurd (clash (is_one_of gone id) one stays)) m m' taken.geometry taken.runs
      ∙ given_at_holes m gone [] is (no_parts m)

-- ---- one change after another

recursion_at : {X : Type 0} (P : X → Type 0) (xs : List X) (x : X) → AllByRecursion P xs → Contains xs x → P x
recursion_at P [] x all at = absurd (omega (arith, at.1))
recursion_at P (y ∷ xs) x all at = elim (cases_cons y xs x at) [ inl same ↦ subst P same all.0 | inr later ↦ recursion_at P xs x all.1 later ]

abbrev pub Kept : ZoneShape → List ℕ → List ℕ → List Run → ℕ → Type 0
Kept s was now runs at = (Contains (hole_starts runs) at × (field_at s now at ≡ field_at s was at)) ⊎ (field_at s now at < 2 ^ 15)

links_then : (s : ZoneShape) (old mid new : List ℕ) (first second third : List Run) → KeepsLinks s old mid first second → KeepsLinks s mid new second third → KeepsLinks s old new first third
links_then s old mid new first second third a b = record {
  free_link = elim b.free_link [
    | inl same ↦ elim a.free_link [
      | inl same' ↦ inl (same ∙ same')
      | inr top ↦ inr (sym (index_part 8 16 15 new (omega arith)) ∙ ap (λ (xs : List ℕ). slice_index xs 15) same ∙ index_part 8 16 15 mid (omega arith) ∙ top)
    ]
    | inr top ↦ inr top
  ];
  fields = each (hole_starts third) b.fields;
}
  where
    one : (at : ℕ) → Kept s mid new second at → Kept s old new first at
    one at (inl (held, same)) = elim (recursion_at (Kept s old mid first) (hole_starts second) at a.fields held) [
      | inl before ↦ inl (before.0, same ∙ before.1)
      | inr small ↦ inr (subst (λ (n : ℕ). n < 2 ^ 15) (sym same) small)
    ]
    one at (inr small) = inr small

    each : (ats : List ℕ) → AllByRecursion (Kept s mid new second) ats → AllByRecursion (Kept s old new first) ats
    each [] all = tt
    each (at ∷ ats) all = (one at all.0, each ats all.1)

edited_then : (m mid m' : Map) → IsMapEdited m mid → IsMapEdited mid m' → IsMapEdited m m'
edited_then m mid m' a b = record {
  is_map = b.is_map;
  geometry = b.geometry ∙ a.geometry;
  record_stays = b.record_stays ∙ a.record_stays;
  zones = λ z low.
      let second : ZoneSteady m.geometry z (sector_of mid z) (sector_of m' z) = subst (λ (g : Geometry). ZoneSteady g z (sector_of mid z) (sector_of m' z)) a.geometry (b.zones z (inside z low)) in
      record { header = second.header ∙ (a.zones z low).header; behind = second.behind ∙ (a.zones z low).behind };
  links = λ z low.
      links_then (shape m.geometry z) (bits (sector_of m z)) (bits (sector_of mid z)) (bits (sector_of m' z)) (runs_of m z) (runs_of mid z) (runs_of m' z) (a.links z low)
      (subst (λ (g : Geometry). KeepsLinks (shape g z) (bits (sector_of mid z)) (bits (sector_of m' z)) (runs_of mid z) (runs_of m' z)) a.geometry (b.links z (inside z low)));
}
  where
    inside : (z : ℕ) → z < m.geometry.zones → z < mid.geometry.zones
    inside z low = subst (λ (g : Geometry). z < g.zones) (sym a.geometry) low

taken_then : (m mid m' : Map) (id : ℕ) (parts : List ZoneRun) (gone : List ℕ) → IsNewMap m → IsMapEdited m mid → HasTaken m mid id parts → IsMapEdited mid m' → IsSpaceEdit mid m' 0 [] gone
    → is_one_of gone id ≡ false → IsSpaceEdit m m' id parts gone
taken_then m mid m' id parts gone is a taken b given stays = record {
  holes = λ z low.
      given.holes z (subst (λ (g : Geometry). z < g.zones) (sym a.geometry) low)
      ∙ ap₂ (λ (hs bs : List ZoneRun). holes_with (zone_holes hs z) (zone_holes bs z)) (left_of_none (hole_runs mid) ∙ taken.holes) (same_back m mid id parts is taken gone a.is_map stays);
  own = λ some.
      subst (λ (runs : List ZoneRun). IsPermutation runs (id_runs m id ++ as_runs id parts)) (sym (given.others id (λ none. absurd (omega (arith, none))) ∙ ap (λ (b : Bool). cond b [] (id_runs mid id)) stays)) taken.gained;
  others = λ k other. given.others k (λ none. absurd (omega (arith, none))) ∙ ap (unless_gone gone k) ((taken_space m mid id parts is taken).others k other);
}

-- ---- the zones of what goes back later

module _ (gone : List ℕ) (id : ℕ) (parts : List ZoneRun) (stays : is_one_of gone id ≡ false) (z : ℕ) where
  abbrev goes : Run → Bool
  goes run = has_id_that (is_one_of gone) run.kind

  one_same : (run : Run) → list_any goes (run_taken id parts z run) ≡ goes run
  one_same run = by run.kind refl (find (stands_at (z, run)) parts)
    where
      rest_same : (b : Bool) (len : ℕ) → run.kind ≡ kinds.Hole → list_any goes (cond b [] (record run { start = run.start + len; len = run.len - len } ∷ [])) ≡ false
      rest_same true len hole = refl
      rest_same false len hole = ap (λ (k : RunKind). has_id_that (is_one_of gone) k || false) hole

      by : (k : RunKind) → run.kind ≡ k → (o : Option ZoneRun) → list_any goes (cond (is_hole k) (hole_taken id o run) (run ∷ [])) ≡ goes run
      by kinds.Hole hole None = or_false (goes run)
      by kinds.Hole hole (Some part) =
          ap₂ (λ (a b : Bool). a || b) stays (rest_same (part.1.len == run.len) part.1.len hole) ∙ sym (ap (has_id_that (is_one_of gone)) hole)
      by (kinds.Id k) is o = or_false (goes run)

  same_goes : (runs : List Run) → has_run_of gone (runs_taken id parts z runs) ≡ has_run_of gone runs
  same_goes [] = refl
  same_goes (run ∷ runs) = any_append goes (run_taken id parts z run) (runs_taken id parts z runs) ∙ ap₂ (λ (a b : Bool). a || b) (one_same run) (same_goes runs)

filter_same : (p q : ℕ → Bool) (xs : List ℕ) → ((x : ℕ) → Contains xs x → p x ≡ q x) → filter p xs ≡ filter q xs
filter_same p q [] same = refl
filter_same p q (x ∷ xs) same = ap₂ (λ (b : Bool) (ys : List ℕ). cond b (x ∷ ys) ys) (same x (first_in x xs)) (filter_same p q xs (λ y at. same y (next_in x y xs at)))

listed : (m mid : Map) (id : ℕ) (parts : List ZoneRun) (gone : List ℕ) → HasTaken m mid id parts → is_one_of gone id ≡ false → zones_changed mid None gone ≡ zones_changed m None gone
listed m mid id parts gone taken stays =
    ap (λ (g : Geometry). filter (is_changed mid None None gone) (zone_numbers g)) taken.geometry
    ∙ filter_same (is_changed mid None None gone) (is_changed m None None gone) (zone_numbers m.geometry)
    (λ z at. ap (has_run_of gone) (taken.runs z (below m.geometry.zones z at)) ∙ same_goes gone id parts stays z (runs_of m z))

any_id : (m m' : Map) (id : ℕ) (gone : List ℕ) → IsSpaceEdit m m' 0 [] gone → IsSpaceEdit m m' id [] gone
any_id m m' id gone given = record {
  holes = given.holes;
  own = λ none. absurd (omega (arith, none));
  others = λ k other. given.others k (λ none. absurd (omega (arith, none)));
}

written : (m m' : Map) (sectors image image' : List ℕ) → m'.geometry ≡ m.geometry → IsWritten m' sectors image image' → IsWritten m sectors image image'
written m m' sectors image image' geometry w = record {
  length_stays = w.length_stays;
  writes =
      subst
      (λ (g : Geometry). (s : ℕ) → is_among sectors s ≡ false → is_among (map_sectors g) s ≡ false → sector_at g.sector image' s ≡ sector_at g.sector image s)
      geometry w.writes;
}

pub steps_law : StepsLaw
steps_law = record { edited = edited_then; taken = taken_then; listed = listed; given = any_id; after = after; written = written }
