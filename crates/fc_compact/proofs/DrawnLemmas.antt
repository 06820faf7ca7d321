-- Zones whose runs have moved up, one after another, and their commit.
use Rattle.std.proofs.Common.{◌≡◌, ◌<◌, ◌≤◌, ◌⊎◌, inl, inr, ℕ, ◌+◌, ◌-◌, Bool, true, false, cond, List, [], ◌∷◌, ◌++◌, length, length-append, get_or, refl, sym, ap, ap₂, subst, ◌∙◌, arith}
use Rattle.std.specs.Prelude.{◌==◌, ◌||◌, All, filter}
use Rattle.std.specs.List.{sum_by}
use Rattle.std.specs.List.Sorted.{IsStrictlyIncreasing}
use Rattle.std.proofs.lemmas.Bool.{cases_eq, cases_lt, eq-eqb, eqb-true, or_parts as neither}
use Rattle.std.proofs.lemmas.List.{get_or-append_right, get_or_append_left}
use Rattle.std.proofs.lemmas.List.Folds.{list_any-append}
use Rattle.std.proofs.lemmas.List.Sums.{sum_by-cons}
use Rattle.fc_record.specs.declared.Geometry.{Geometry}
use Rattle.fc_record.specs.Kinds.{map_record}
use Rattle.fc_zone.specs.declared.Run.{Run}
use Rattle.fc_zone.specs.Reading.{runs_of as runs_in_sector}
use Rattle.fc_newmap.specs.Edits.{IsEdit, KeepsRuns}
use Rattle.fc_newmap.specs.Map.{Map, ZoneRun, has_id, id_runs, runs_of, sector_of, sectors_of, shape, zone_numbers}
use Rattle.fc_newmap.specs.NewMap.{IsNewMap}
use Rattle.fc_newmap.specs.RunsLaw.{placed}
use Rattle.fc_newmap.proofs.ComposeLemmas.{edit_all, edit_none, edit_then, edits_none, edits_then, runs_other, same_none}
use Rattle.fc_newmap.proofs.HeldLemmas.{geometry_facts}
use Rattle.fc_newmap.proofs.PlaceLemmas.{in_range}
use Rattle.fc_alloc.specs.declared.owner.Owner.{Owner}
use Rattle.fc_newmap.specs.declared.copies.Which.TheVariants.{One}
use Rattle.fc_newmap.specs.Committing.{CanWrite, KeepsContents}
use Rattle.fc_newmap.specs.Copies.{CommitEnds, CommitLeaves, copy_of}
use Rattle.fc_image.specs.Layout.{id_sectors}
use Rattle.fc_image.specs.effects.Moves.{with_holes_joined}
use Rattle.fc_compact.specs.Rounds.{Carrying, FallsIn, Gathers, GathersZones, HasDrawn, Spares, all_weight}
use Rattle.fc_compact.specs.Joins.{ids_in, is_listed}
use Rattle.fc_compact.specs.Laws.{Laws}
use Rattle.fc_compact.specs.Ready.{IsReady}
use Rattle.fc_compact.specs.Settlement.{one_if, zone_weight}
use Rattle.fc_compact.specs.Steps.{Leads, Packs, Preserves, SamePart}
use Rattle.fc_compact.proofs.CarryLemmas.{carry_preserves, carry_ready, carrying_same}
use Rattle.fc_compact.proofs.GatherLemmas.{joined_falls, joined_runs}
use Rattle.fc_compact.proofs.KeptLemmas.{can_write, committed_geometry, committed_record, committed_zone}
use Rattle.fc_compact.proofs.ListedLemmas.{listed_none, unlisted}
use Rattle.fc_compact.proofs.PacksLemmas.{packs_in, packs_none, packs_then}
use Rattle.fc_compact.proofs.TouchLemmas.{ids_joined}
use Rattle.fc_device.specs.Numbers.{is_listed as is_in}

-- ---- one zone

pub drawn_none : (owners : List Owner) (m : Map) (z : ℕ) → IsNewMap m → HasDrawn owners m m z false
drawn_none owners m z is = record { packs = packs_none owners m is; edit = edit_none m z is; falls = omega arith; same = λ e. refl }

-- the map m, whose runs have moved up to w, with the holes that touch joined in n
module _ (law : Laws) (m w n : Map) (owners : List Owner) (z : ℕ) (low : z < m.geometry.zones) (gathers : Gathers owners m w z true) (edit : IsEdit w n z)
    (runs : runs_of n z ≡ with_holes_joined (runs_of w z)) where
  all : IsEdit m n z
  all = edit_then m w n z gathers.edit edit

  same_runs : (k : ℕ) → id_runs n k ≡ id_runs w k
  same_runs = joined_runs law w n z gathers.edit.map edit runs

  pub drawn_sectors : (k : ℕ) → id_sectors n k ≡ id_sectors w k
  drawn_sectors k = ap (λ (g : Geometry). sectors_of g (id_runs n k)) edit.geometry ∙ ap (sectors_of w.geometry) (same_runs k)

  leads : Leads owners m n
  leads = record {
    was = all.was;
    map = all.map;
    geometry = all.geometry;
    fixed = λ k stuck. same_runs k ∙ gathers.fixed k stuck;
    zones = committed_zone m n n (edit_all m n z all) (same_none n all.map) (λ y k a b. refl);
  }

  pub drawn_zone : HasDrawn owners m n z true
  drawn_zone = record {
    packs = packs_in owners m n z leads low (λ y other. runs_other m n z y all other)
        (λ k may. subst (SamePart (ids_in m k z)) (sym (ap (λ (rs : List Run). filter (λ (p : ZoneRun). has_id k p.1.kind) (placed z rs)) runs ∙ ids_joined k z (runs_of w z))) (gathers.parts k));
    edit = all;
    falls = (let now = ap zone_weight runs in let less = joined_falls (runs_of w z) in let falls = gathers.falls in omega (arith, now, less, falls));
    same = λ e. absurd (cc);
  }

-- ---- one zone after another

pub zones_none : (owners : List Owner) (m : Map) (from end : ℕ) → IsNewMap m → GathersZones owners m m from end []
zones_none owners m from end is = record {
  packs = packs_none owners m is;
  edits = listed_none m [] is;
  rising = λ k lt. absurd (omega arith);
  low = λ k d lt. absurd (omega arith);
  high = λ k d lt. absurd (omega arith);
  less = λ y. omega arith;
  falls = λ some. absurd (some refl);
  same = λ e. refl;
}

-- a number more
last_at : (xs : List ℕ) (z i d : ℕ) → i ≡ length xs → get_or (xs ++ z ∷ []) i d ≡ z
last_at xs z i d e =
    get_or-append_right xs (z ∷ []) (length xs) i d refl (omega (arith, e)) ∙ ap (λ (k : ℕ). get_or (z ∷ []) k d) (let f : i - length xs ≡ 0 = omega (arith, e) in f)

each_more : (P : ℕ → Type 0) (xs : List ℕ) (z : ℕ) → All P xs → P z → All P (xs ++ z ∷ [])
each_more P xs z each last k d lt = elim (cases_lt k (length xs)) [
  | inl less ↦ subst P (sym (get_or_append_left xs (z ∷ []) d k less)) (each k d less)
  | inr more ↦ (let size = length-append xs (z ∷ []) in subst P (sym (last_at xs z k d (omega (arith, size, more, lt)))) last)
]

rises_more : (xs : List ℕ) (z : ℕ) → IsStrictlyIncreasing xs → All (λ y. y < z) xs → IsStrictlyIncreasing (xs ++ z ∷ [])
rises_more xs z rising below k lt = elim (cases_lt (k + 1) (length xs)) [
  | inl less ↦ (
      let a = get_or_append_left xs (z ∷ []) 0 k (omega (arith, less)) in
      let b = get_or_append_left xs (z ∷ []) 0 (k + 1) less in
      let r = rising k less in
      omega (arith, a, b, r))
  | inr more ↦ (
      let size = length-append xs (z ∷ []) in
      let low : k < length xs = omega (arith, size, more, lt) in
      let a = get_or_append_left xs (z ∷ []) 0 k low in
      let b = last_at xs z (k + 1) 0 (omega (arith, size, more, lt)) in
      let r = below k 0 low in
      omega (arith, a, b, r))
]

-- a number that all are below, or that all are from on, isn't among them
above : (xs : List ℕ) (y : ℕ) → All (λ x. x < y) xs → is_listed xs y ≡ false
above xs y each = unlisted xs y (λ c. let lt = each c.0 y c.1 in let e = c.2 in omega (arith, lt, e))

beneath : (xs : List ℕ) (y from : ℕ) → y < from → All (λ x. from ≤ x) xs → is_listed xs y ≡ false
beneath xs y from lt each = unlisted xs y (λ c. let le = each c.0 y c.1 in let e = c.2 in omega (arith, lt, le, e))

pub no_numbers : (xs : List ℕ) → length xs ≡ 0 → xs ≡ []
no_numbers [] e = refl
no_numbers (x ∷ xs) e = absurd (omega (arith, e))

pub some_numbers : (xs : List ℕ) → (length xs ≡ 0 → ⊥) → xs ≡ [] → ⊥
some_numbers xs some e = some (ap length e)

-- a zone with the sector that it had has its runs
same_zone : (m n : Map) (z : ℕ) → n.geometry ≡ m.geometry → sector_of n z ≡ sector_of m z → runs_of n z ≡ runs_of m z
same_zone m n z geo same = ap₂ (λ (g : Geometry) (s : List ℕ). runs_in_sector (shape g z) s) geo same

module _ (owners : List Owner) (m w : Map) (from z : ℕ) (zones : List ℕ) (was : GathersZones owners m w from z zones) where
  pub zones_spare : Spares m w owners z
  zones_spare = record {
    was = was.packs.leads.was;
    geometry = was.packs.leads.geometry;
    fixed = was.packs.leads.fixed;
    runs = same_zone m w z was.packs.leads.geometry (was.edits.others z (above zones z was.high));
  }

  pub zones_up_to : (end : ℕ) → z ≤ end → GathersZones owners m w from end zones
  zones_up_to end le = record {
    packs = was.packs;
    edits = was.edits;
    rising = was.rising;
    low = was.low;
    high = λ k d lt. (let below = was.high k d lt in omega (arith, below, le));
    less = was.less;
    falls = λ some. (let f = was.falls some in let below = f.high in record { zone = f.zone; low = f.low; high = omega (arith, below, le); falls = f.falls });
    same = was.same;
  }

  module _ (low : from ≤ z) (n : Map) where
    one : HasDrawn owners w n z true → GathersZones owners m n from (z + 1) (zones ++ z ∷ [])
    one drawn = record {
      packs = packs_then owners m w n was.packs drawn.packs;
      edits = record {
        edits = edits_then m w n z was.edits.edits drawn.edit;
        others = λ y out.
            (let both = neither (is_listed zones y) (is_listed (z ∷ []) y) (sym (list_any-append (λ (x : ℕ). x == y) zones (z ∷ [])) ∙ out) in
            drawn.edit.others y (λ here. let t = ap (λ b. b || false) (eq-eqb z y (sym here)) in let u = both.1 in cc) ∙ was.edits.others y both.0);
      };
      rising = rises_more zones z was.rising was.high;
      low = each_more (λ y. from ≤ y) zones z was.low low;
      high = each_more (λ y. y < z + 1) zones z (λ k d lt. let below = was.high k d lt in omega (arith, below)) (omega arith);
      less = λ y. elim (cases_eq y z) [
        | inl here ↦ subst (λ (x : ℕ). zone_weight (runs_of n x) ≤ zone_weight (runs_of m x)) (sym here) (let a = drawn.falls in let b = was.less z in omega (arith, a, b))
        | inr other ↦ subst (λ (rs : List Run). zone_weight rs ≤ zone_weight (runs_of m y)) (sym (runs_other w n z y drawn.edit other)) (was.less y)
      ];
      falls = λ some. record { zone = z; low = low; high = omega arith; falls = (let a = drawn.falls in let b = was.less z in omega (arith, a, b)) };
      same = λ e. absurd (let size = length-append zones (z ∷ []) in let none = ap length e in omega (arith, size, none));
    }

    pub zones_more : (any : Bool) → HasDrawn owners w n z any → GathersZones owners m n from (z + 1) (cond any (zones ++ z ∷ []) zones)
    zones_more true drawn = one drawn
    zones_more false drawn = subst (λ (x : Map). GathersZones owners m x from (z + 1) zones) (sym (drawn.same refl)) (zones_up_to (z + 1) (omega arith))

-- ---- the commit of these zones, as the map last

module _ (law : Laws) (owners : List Owner) (m n last : Map) (from end : ℕ) (zones : List ℕ) (gathers : GathersZones owners m n from end zones) where
  pub zones_can : (image : List ℕ) → IsReady m owners image → CanWrite n zones image
  zones_can image ready = can_write m n gathers.edits.edits zones image ready.copies (λ y low out. gathers.edits.others y (unlisted zones y out))

  module _ (keeps : KeepsRuns n last) (contents : KeepsContents n last) where
    some : 1 ≤ n.geometry.zones
    some = (geometry_facts n.geometry keeps.was.of_record).zones

    runs_last : (k : ℕ) → id_runs last k ≡ id_runs n k
    runs_last k = law.ids n last k keeps.geometry some (λ y lt. ap (λ (rs : List Run). filter (λ (p : ZoneRun). has_id k p.1.kind) (placed y rs)) (keeps.runs y))

    sectors_last : (k : ℕ) → id_sectors last k ≡ id_sectors n k
    sectors_last k = ap (λ (g : Geometry). sectors_of g (id_runs last k)) keeps.geometry ∙ ap (sectors_of n.geometry) (runs_last k)

    then : Packs owners n last
    then = record {
      leads = record { was = keeps.was; map = keeps.map; geometry = keeps.geometry; fixed = λ k stuck. runs_last k; zones = committed_zone n n last (edits_none n keeps.was) keeps contents };
      bits = λ k may. inl (ap (λ (ps : List ZoneRun). sum_by (λ (p : ZoneRun). p.1.len) ps) (runs_last k));
      runs = λ k may. (let e = ap (λ (ps : List ZoneRun). length ps) (runs_last k) in omega (arith, e));
      some = λ k may had. (let e = ap (λ (ps : List ZoneRun). length ps) (runs_last k) in omega (arith, e, had));
    }

    pub zones_packs : Packs owners m last
    zones_packs = packs_then owners m n last gathers.packs then

    pub zones_others : (y : ℕ) → (y < from) ⊎ (end ≤ y) → runs_of last y ≡ runs_of m y
    zones_others y out = keeps.runs y ∙ same_zone m n y gathers.packs.leads.geometry (gathers.edits.others y (elim out [
      | inl less ↦ beneath zones y from less gathers.low
      | inr more ↦ above zones y (λ k d lt. let below = gathers.high k d lt in omega (arith, below, more))
    ]))

    pub zones_less : (y : ℕ) → zone_weight (runs_of last y) ≤ zone_weight (runs_of m y)
    zones_less y = subst (λ (rs : List Run). zone_weight rs ≤ zone_weight (runs_of m y)) (sym (keeps.runs y)) (gathers.less y)

    pub zones_fall : (zones ≡ [] → ⊥) → FallsIn m last from end
    zones_fall some =
        let f = gathers.falls some in
        record { zone = f.zone; low = f.low; high = f.high; falls = subst (λ (rs : List Run). zone_weight rs + 1 ≤ zone_weight (runs_of m f.zone)) (sym (keeps.runs f.zone)) f.falls }

    module _ (start : List ℕ) (ready : IsReady m owners start) (carrying : Carrying m n owners start) where
      carried : Carrying m last owners start
      carried = carrying_same m n last owners start sectors_last carrying

      record_stays : map_record (sector_of last 0) ≡ map_record (sector_of m 0)
      record_stays =
          committed_record m n last gathers.edits.edits keeps contents
          (let some_zone = (geometry_facts m.geometry gathers.packs.leads.was.of_record).zones in omega (arith, some_zone))

      geometry : last.geometry ≡ m.geometry
      geometry = committed_geometry m n last gathers.edits.edits keeps contents

      pub zones_preserve : (image : List ℕ) → CommitLeaves n.geometry start (copy_of n.geometry One start) last.zones image → Preserves m owners start image
      zones_preserve image left =
          carry_preserves law m last owners start ready gathers.packs.leads.was keeps.map geometry record_stays zones_packs.leads.fixed carried image
          (subst (λ (g : Geometry). CommitLeaves g start (copy_of g One start) last.zones image) gathers.packs.leads.geometry left)

      pub zones_ready : (image : List ℕ) → CommitEnds n.geometry start last.zones image → IsReady last owners image
      zones_ready image ends =
          carry_ready law m last owners start ready gathers.packs.leads.was keeps.map geometry record_stays zones_packs.leads.fixed carried image
          (subst (λ (g : Geometry). CommitEnds g start last.zones image) gathers.packs.leads.geometry ends)

-- ---- the weight of all zones

module _ (m m' : Map) (less : (y : ℕ) → zone_weight (runs_of m' y) ≤ zone_weight (runs_of m y)) where
  abbrev weight : Map → ℕ → ℕ
  weight n y = zone_weight (runs_of n y)

  sums_less : (zs : List ℕ) → sum_by (weight m') zs ≤ sum_by (weight m) zs
  sums_less [] = omega arith
  sums_less (x ∷ zs) = (let a = sum_by-cons (weight m') x zs in let b = sum_by-cons (weight m) x zs in let l = less x in let r = sums_less zs in omega (arith, a, b, l, r))

  sums_fall : (zs : List ℕ) (y : ℕ) → is_in zs y ≡ true → weight m' y + 1 ≤ weight m y → sum_by (weight m') zs + 1 ≤ sum_by (weight m) zs
  sums_fall [] y i falls = absurd (cc)
  sums_fall (x ∷ zs) y i falls = by (x == y) refl i (λ later. sums_fall zs y later falls)
    where
      by : (b : Bool) → (x == y) ≡ b → (b || is_in zs y) ≡ true → (is_in zs y ≡ true → sum_by (weight m') zs + 1 ≤ sum_by (weight m) zs) → sum_by (weight m') (x ∷ zs) + 1 ≤ sum_by (weight m) (x ∷ zs)
      by true e j more =
          let a = sum_by-cons (weight m') x zs in
          let b = sum_by-cons (weight m) x zs in
          let here = subst (λ (k : ℕ). weight m' k + 1 ≤ weight m k) (sym (eqb-true x y e)) falls in
          let r = sums_less zs in
          omega (arith, a, b, here, r)
      by false e j more = (let a = sum_by-cons (weight m') x zs in let b = sum_by-cons (weight m) x zs in let l = less x in let r = more j in omega (arith, a, b, l, r))

  pub weight_falls : (any : Bool) (from : ℕ) → m'.geometry ≡ m.geometry → (any ≡ true → FallsIn m m' from m.geometry.zones) → all_weight m' + one_if any ≤ all_weight m
  weight_falls any from geo falls = subst (λ (g : Geometry). sum_by (weight m') (zone_numbers g) + one_if any ≤ all_weight m) (sym geo) (by any falls)
    where
      by : (a : Bool) → (a ≡ true → FallsIn m m' from m.geometry.zones) → sum_by (weight m') (zone_numbers m.geometry) + one_if a ≤ all_weight m
      by false f = (let r = sums_less (zone_numbers m.geometry) in omega (arith, r))
      by true f = (
          let fall = f refl in
          let high = fall.high in
          sums_fall (zone_numbers m.geometry) fall.zone (in_range 0 m.geometry.zones fall.zone (omega arith) (omega (arith, high))) fall.falls)
