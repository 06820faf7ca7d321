-- Identifiers whose runs change in one zone, and steps one after another.
use Rattle.std.proofs.Common.{◌≡◌, ◌<◌, ◌≤◌, inl, inr, ℕ, ◌+◌, Bool, true, false, List, [], ◌∷◌, ◌++◌, length, length-append, refl, sym, ap, ap₂, ◌∙◌, arith}
use Rattle.std.specs.Prelude.{◌==◌, ◌||◌, filter}
use Rattle.std.proofs.lemmas.Bool.{cases_lt, eqb-false}
use Rattle.std.proofs.lemmas.List.Elements.{filter-append}
use Rattle.std.proofs.lemmas.List.Sums.{sum_by-append}
use Rattle.std.proofs.lemmas.Grind.{flat_map-append}
use Rattle.fc_record.specs.declared.Geometry.{Geometry}
use Rattle.fc_newmap.specs.Map.{Map, ZoneRun, bits_in, has_id, id_runs, runs_in, runs_of, search_order}
use Rattle.fc_newmap.specs.NewMap.{IsNewMap}
use Rattle.fc_newmap.specs.RunsLaw.{placed}
use Rattle.fc_newmap.proofs.CoverLemmas.{order_Distinct, split_once}
use Rattle.fc_newmap.proofs.HeldLemmas.{geometry_facts}
use Rattle.fc_newmap.proofs.PlaceLemmas.{in_order_of}
use Rattle.fc_alloc.specs.declared.owner.Owner.{Owner}
use Rattle.fc_image.specs.effects.Settled.{KeepsBits}
use Rattle.fc_compact.specs.Joins.{ids_in}
use Rattle.fc_compact.specs.Ready.{is_movable_by}
use Rattle.fc_compact.specs.Steps.{Leads, Packs, SamePart}
use Rattle.fc_compact.proofs.LeadsLemmas.{leads_none, leads_then}
use Rattle.fc_device.specs.Numbers.{is_listed as is_in}

same_runs : (m m' : Map) (z : ℕ) (zones : List ℕ) → is_in zones z ≡ false → ((y : ℕ) → (y ≡ z → ⊥) → runs_of m' y ≡ runs_of m y) → runs_in m' zones ≡ runs_in m zones
same_runs m m' z [] out same = refl
same_runs m m' z (x ∷ zones) out same = by (x == z) refl out (λ g. same_runs m m' z zones g same)
  where
    by : (b : Bool) → (x == z) ≡ b → (b || is_in zones z) ≡ false → (is_in zones z ≡ false → runs_in m' zones ≡ runs_in m zones) → runs_in m' (x ∷ zones) ≡ runs_in m (x ∷ zones)
    by true h g more = absurd (cc)
    by false h g more = ap₂ (λ (xs ys : List ZoneRun). xs ++ ys) (ap (placed x) (same x (eqb-false x z h))) (more g)

parts_of_id : (m : Map) (t : ZoneRun → Bool) (z : ℕ) (front rest : List ℕ)
    → filter t (runs_in m (front ++ z ∷ rest)) ≡ filter t (runs_in m front) ++ (filter t (placed z (runs_of m z)) ++ filter t (runs_in m rest))
parts_of_id m t z front rest =
    ap (filter t) (flat_map-append (λ y. placed y (runs_of m y)) front (z ∷ rest))
    ∙ filter-append t (runs_in m front) (placed z (runs_of m z) ++ runs_in m rest)
    ∙ ap (λ (ps : List ZoneRun). filter t (runs_in m front) ++ ps) (filter-append t (placed z (runs_of m z)) (runs_in m rest))

-- an identifier's runs are others in one place alone
pub zone_ids : (m m' : Map) (z id : ℕ) → m'.geometry ≡ m.geometry → 1 ≤ m.geometry.zones → z < m.geometry.zones → ((y : ℕ) → (y ≡ z → ⊥) → runs_of m' y ≡ runs_of m y)
    → (front rest : List ZoneRun) × (id_runs m id ≡ front ++ (ids_in m id z ++ rest)) × (id_runs m' id ≡ front ++ (ids_in m' id z ++ rest))
zone_ids m m' z id e some low same =
    let g = m.geometry in
    let t : ZoneRun → Bool = λ p. has_id id p.1.kind in
    let cut = split_once (search_order g id) z (order_Distinct g id) (in_order_of g id z some low) in
    let new : id_runs m' id ≡ filter t (runs_in m cut.0) ++ (ids_in m' id z ++ filter t (runs_in m cut.1)) =
    ap (λ (h : Geometry). filter t (runs_in m' (search_order h id))) e ∙ ap (λ (zs : List ℕ). filter t (runs_in m' zs)) cut.2 ∙ parts_of_id m' t z cut.0 cut.1
    ∙ ap₂ (λ (ps qs : List ZoneRun). filter t ps ++ (ids_in m' id z ++ filter t qs)) (same_runs m m' z cut.0 cut.3 same) (same_runs m m' z cut.1 cut.4 same) in
    (filter t (runs_in m cut.0), filter t (runs_in m cut.1), ap (λ (zs : List ℕ). filter t (runs_in m zs)) cut.2 ∙ parts_of_id m t z cut.0 cut.1, new)

three_bits : (a b c : List ZoneRun) → bits_in (a ++ (b ++ c)) ≡ bits_in a + (bits_in b + bits_in c)
three_bits a b c = sum_by-append (λ (p : ZoneRun). p.1.len) a (b ++ c) ∙ ap (λ n. bits_in a + n) (sum_by-append (λ (p : ZoneRun). p.1.len) b c)

three_long : (a b c : List ZoneRun) → length (a ++ (b ++ c)) ≡ length a + (length b + length c)
three_long a b c = length-append a (b ++ c) ∙ ap (λ n. length a + n) (length-append b c)

pub packs_in : (owners : List Owner) (m m' : Map) (z : ℕ) → Leads owners m m' → z < m.geometry.zones → ((y : ℕ) → (y ≡ z → ⊥) → runs_of m' y ≡ runs_of m y)
    → ((id : ℕ) → is_movable_by owners id ≡ true → SamePart (ids_in m id z) (ids_in m' id z)) → Packs owners m m'
packs_in owners m m' z leads low others part = record {
  leads = leads;
  bits = λ id may. inl (let c = cut id in let p = part id may in
      ap bits_in c.3 ∙ three_bits c.0 (ids_in m' id z) c.1 ∙ ap (λ n. bits_in c.0 + (n + bits_in c.1)) p.bits ∙ sym (ap bits_in c.2 ∙ three_bits c.0 (ids_in m id z) c.1));
  runs = λ id may. (let c = cut id in let p = part id may in
      let old = ap length c.2 ∙ three_long c.0 (ids_in m id z) c.1 in
      let new = ap length c.3 ∙ three_long c.0 (ids_in m' id z) c.1 in
      let f = p.fewer in omega (arith, old, new, f));
  some = λ id may had. (let c = cut id in let p = part id may in
      let old = ap length c.2 ∙ three_long c.0 (ids_in m id z) c.1 in
      let new = ap length c.3 ∙ three_long c.0 (ids_in m' id z) c.1 in
      by (length c.0) (length c.1) (length (ids_in m id z)) (length (ids_in m' id z)) p.some (omega (arith, old, had)) (length (id_runs m' id)) new);
}
  where
    cut : (id : ℕ) → (front rest : List ZoneRun) × (id_runs m id ≡ front ++ (ids_in m id z ++ rest)) × (id_runs m' id ≡ front ++ (ids_in m' id z ++ rest))
    cut id = zone_ids m m' z id leads.geometry (geometry_facts m.geometry leads.was.of_record).zones low others

    by : (a b x y : ℕ) → (0 < x → 0 < y) → 0 < a + (x + b) → (n : ℕ) → n ≡ a + (y + b) → 0 < n
    by a b x y f had n e = elim (cases_lt 0 x) [
      | inl more ↦ (let h = f more in omega (arith, h, e))
      | inr none ↦ omega (arith, had, e, none)
    ]

-- ---- steps one after another

pub packs_none : (owners : List Owner) (m : Map) → IsNewMap m → Packs owners m m
packs_none owners m is = record { leads = leads_none owners m is; bits = λ id may. inl refl; runs = λ id may. omega arith; some = λ id may had. had }

pub packs_then : (owners : List Owner) (a b c : Map) → Packs owners a b → Packs owners b c → Packs owners a c
packs_then owners a b c one two = record {
  leads = leads_then owners a b c one.leads two.leads;
  bits = λ id may. both id (one.bits id may) (two.bits id may) (one.runs id may) (two.runs id may) (two.some id may);
  runs = λ id may. (let x = one.runs id may in let y = two.runs id may in omega (arith, x, y));
  some = λ id may had. two.some id may (one.some id may had);
}
  where
    same_min : b.geometry.min ≡ a.geometry.min
    same_min = ap (λ (g : Geometry). g.min) one.leads.geometry

    both : (id : ℕ) → KeepsBits a b id → KeepsBits b c id → length (id_runs b id) ≤ length (id_runs a id) → length (id_runs c id) ≤ length (id_runs b id)
        → (0 < length (id_runs b id) → 0 < length (id_runs c id)) → KeepsBits a c id
    both id (inl e) (inl f) x y s = inl (f ∙ e)
    both id (inl e) (inr j) x y s = inr (omega (arith, j.0, x), j.1, omega (arith, e, j.2), omega (arith, e, j.3, same_min))
    both id (inr j) (inl f) x y s = inr (j.0, (let h = s (omega (arith, j.1)) in omega (arith, h, y, j.1)), omega (arith, f, j.2), omega (arith, f, j.3))
    both id (inr j) (inr k) x y s = absurd (omega (arith, j.1, k.0))
