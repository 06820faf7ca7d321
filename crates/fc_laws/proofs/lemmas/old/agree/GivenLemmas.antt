-- The space of objects of a volume with an old map whose parts agree: what may be given back, and what is taken.
use Rattle.std.proofs.Common.{◌≡◌, ◌<◌, ◌≤◌, ◌⊎◌, inl, inr, ⊎_elim, ℕ, zero, suc, ◌+◌, ◌-◌, ◌*◌, ◌/◌, ◌%◌, Bool, true, false, cond, List, [], ◌∷◌, ◌++◌, length, refl, sym, ap, subst, ◌∙◌, arith, Some}
use Rattle.std.specs.Prelude.{All, Contains, nat_le, ◌==◌}
use Rattle.std.specs.Int.{div_ceil}
use Rattle.std.specs.List.{range_with_len}
use Rattle.std.proofs.lemmas.Bool.{eqb-true, leb-true, eq-eqb, le-leb}
use Rattle.std.proofs.lemmas.Grind.{div_ceil_times}
use Rattle.std.proofs.lemmas.List.Elements.{All-cons, All-head, All-tail}
use Rattle.fc_record.specs.declared.Kind.{Kind}
use Rattle.fc_oldmap.specs.declared.Hole.{Hole}
use Rattle.fc_oldmap.specs.Holes.{AreApart, AreHoles, after_take, first_fit_place, hole, hole_end, rest_after_take}
use Rattle.fc_oldmap.specs.OldMap.{OldMapContent, IsOldMap, map_units}
use Rattle.fc_alloc.specs.declared.owner.Owner.{Owner}
use Rattle.fc_image.specs.Layout.{Layout, dir_form, hole_sectors, is_among, map_place, sectors_at}
use Rattle.fc_image.specs.Edits.{IsAt}
use Rattle.fc_image.specs.Objects.{has_sectors, objects_of}
use Rattle.fc_image.specs.Opening.{reserved_in}
use Rattle.fc_image.specs.Walk.{Listing, Object, object_size}
use Rattle.fc_image.proofs.FreeLemmas.{range_bounds}
use Rattle.fc_image.proofs.HolesLemmas.{apart_at}
use Rattle.fc_newmap.proofs.PlaceLemmas.{in_back}
use Rattle.fc_image.specs.effects.Short.{holes_without, old_need, space_of}
use Rattle.fc_laws.specs.nodes.Edits.{Nodes}
use Rattle.fc_tree.specs.declared.node.Node.{Node}
use Rattle.fc_tree.specs.Agree.{Agree, AreWalked}
use Rattle.fc_tree.specs.Parts.{AreOwners, Parts}
use Rattle.fc_changes.proofs.BasicLemmas.{clash}
use Rattle.fc_changes.proofs.lemmas.old.HoleLemmas.{in_units, taken_in}
use Rattle.fc_changes.proofs.lemmas.old.PlaceLemmas.{row_or_none}
use Rattle.fc_changes.proofs.lemmas.old.SpaceLemmas.{all_apart, space_is}
use Rattle.fc_laws.specs.old.agree.Laws.{AgreeOn}
use Rattle.fc_laws.specs.old.agree.Spaces.{CanGive, IsFitted, SpaceLaw}
use Rattle.fc_laws.proofs.lemmas.agree.WalkedLemmas.{object_lies}
use Rattle.fc_laws.proofs.lemmas.old.agree.DirectoryLemmas.{spaced_parts}

-- ---- the parts

named' : (kind : Kind) (parts : Parts) (space : OldMapContent) → parts.layout ≡ Layout.Old space → IsOldMap space
    → AreHoles space.disc_units space.sector_units (map_units space.sector_units) space.holes
    → (a : Agree kind parts) → AgreeOn kind space parts.nodes parts.owners a.root a.listings
named' kind parts space layout is holes a = record {
  is_map = is;
  holes = holes;
  root_is = a.root_is;
  walked = subst (λ (y : Layout). AreWalked parts.nodes y (reserved_in kind y) a.root.entry.address a.root.entry.len a.listings) layout a.walked;
  owned = subst (λ (y : Layout). AreOwners parts.owners parts.nodes y (objects_of a.listings)) layout a.owned;
}

-- ---- numbers

none_needed : (u : ℕ) → div_ceil 0 (256 * u) * u ≡ 0
none_needed zero = omega arith
none_needed (suc u) = by (div_ceil 0 (256 * suc u)) (div_ceil_times 0 (256 * suc u) (omega arith)).1
  where
    by : (k : ℕ) → k * (256 * suc u) < 0 + 256 * suc u → k * suc u ≡ 0
    by zero low = omega arith
    by (suc k) low = let more : suc k * (256 * suc u) ≡ 256 * suc u + k * (256 * suc u) = grind arith in absurd (omega (arith, more, low))

size' : (space : OldMapContent) (o : Object) → IsAt (Layout.Old space) o → length o.sectors * space.sector_units ≡ old_need space (object_size (dir_form (Layout.Old space)) o.entry)
size' space o at =
    let n = object_size (dir_form (Layout.Old space)) o.entry in
    let nothing : 0 * space.sector_units ≡ 0 = omega arith in
    ⊎_elim
    (λ none. ap (λ (xs : List ℕ). length xs * space.sector_units) none.1 ∙ nothing ∙ sym (none_needed space.sector_units) ∙ ap (λ (k : ℕ). old_need space k) (sym none.0))
    (λ row. ap (λ (k : ℕ). k * space.sector_units) row.long) (row_or_none space o.entry.address n o.sectors at)

-- ---- giving back

apart_taken : (x : Hole) (n : ℕ) (holes : List Hole) → All (AreApart x) holes → All (AreApart x) (after_take n holes)
unfolding after_take
apart_taken x n [] all = all
apart_taken x n (h ∷ holes) all = by (nat_le n h.len) refl (apart_taken x n holes (All-tail (AreApart x) h holes all))
  where
    rest : (b : Bool) → n ≤ h.len → All (AreApart x) (cond b [] (hole (h.start + n) (h.len - n) ∷ []) ++ holes)
    rest true low = All-tail (AreApart x) h holes all
    rest false low =
        All-cons (AreApart x) (hole (h.start + n) (h.len - n)) holes
        (⊎_elim (λ before. inl (omega (arith, before, low))) (λ after. inr (omega (arith, after))) (All-head (AreApart x) h holes all)) (All-tail (AreApart x) h holes all)

    by : (b : Bool) → nat_le n h.len ≡ b → All (AreApart x) (after_take n holes) → All (AreApart x) (cond b (rest_after_take h n ++ holes) (h ∷ after_take n holes))
    by true e more = rest (h.len == n) (leb-true n h.len e)
    by false e more = All-cons (AreApart x) h (after_take n holes) (All-head (AreApart x) h holes all) more

apart_without : (x : Hole) (n : ℕ) (holes : List Hole) → All (AreApart x) holes → All (AreApart x) (holes_without n holes)
apart_without x n holes all = by (n == 0)
  where
    by : (b : Bool) → All (AreApart x) (cond b holes (after_take n holes))
    by true = all
    by false = apart_taken x n holes all

given' : (kind : Kind) (space : OldMapContent) (nodes : Nodes) (owners : List Owner) (root : Node) (listings : List Listing) (o : Object) (n : ℕ) → AgreeOn kind space nodes owners root listings
    → Contains (objects_of listings) o → has_sectors o ≡ true → CanGive space (holes_without n space.holes) (space_of space o)
given' kind space nodes owners root listings o n a at has =
    let facts = spaced_parts kind space nodes owners root listings a in
    let x = space_is kind space (objects_of listings) facts o at has in
    let y = Layout.Old space in
    record {
      positive = x.is_hole.positive;
      inside = x.is_hole.inside;
      begins = x.is_hole.begins;
      ends = x.is_hole.ends;
      apart = apart_without (space_of space o) n space.holes
          (all_apart space.sector_units facts.units space.disc_units (map_units space.sector_units) (map_units space.sector_units) (space_of space o) space.holes x.is_hole facts.holes
          (λ s i j.
          clash (is_among (reserved_in kind y) s) (in_back (map_place y) (hole_sectors y) s j)
          (apart_at o.sectors (reserved_in kind y) s (object_lies kind (Layout.Old space) nodes root listings a.walked o at).apart (ap (λ (xs : List ℕ). is_among xs s) (sym x.sectors) ∙ i))));
    }

-- ---- taking

fit_whole : (d u floor k a : ℕ) (holes : List Hole) → AreHoles d u floor holes → first_fit_place k holes ≡ Some a → (a % u ≡ 0) × (a + k ≤ d)
unfolding first_fit_place
fit_whole d u floor k a [] are e = absurd (cc)
fit_whole d u floor k a (h ∷ holes) are e = by (nat_le k h.len) refl e (fit_whole d u (hole_end h) k a holes are.1)
  where
    same : (x y : ℕ) → Some x ≡ Some y → x ≡ y
    same x y f = cc

    by : (b : Bool) → nat_le k h.len ≡ b → cond b (Some h.start) (first_fit_place k holes) ≡ Some a → (first_fit_place k holes ≡ Some a → (a % u ≡ 0) × (a + k ≤ d)) → (a % u ≡ 0) × (a + k ≤ d)
    by true t f more =
        let is = same h.start a f in let fits = leb-true k h.len t in let inside = are.0.inside in
        (ap (λ (n : ℕ). n % u) (sym is) ∙ are.0.begins, omega (arith, is, fits, inside))
    by false t f more = more f

-- in sectors
in_disc_sectors : (u a n d : ℕ) → (u ≡ 1) ⊎ (u ≡ 4) → a % u ≡ 0 → a + n * u ≤ d → a / u + n ≤ d / u
in_disc_sectors u a n d (inl one) = subst (λ (v : ℕ). a % v ≡ 0 → a + n * v ≤ d → a / v + n ≤ d / v) (sym one) (λ w l. omega (arith, l))
in_disc_sectors u a n d (inr four) = subst (λ (v : ℕ). a % v ≡ 0 → a + n * v ≤ d → a / v + n ≤ d / v) (sym four) (λ w l. omega (arith, w, l))

unit_of : (u a n s : ℕ) → (u ≡ 1) ⊎ (u ≡ 4) → a % u ≡ 0 → a / u ≤ s → s < a / u + n → (a ≤ u * s) × (u * s < a + n * u)
unit_of u a n s (inl one) = subst (λ (v : ℕ). a % v ≡ 0 → a / v ≤ s → s < a / v + n → (a ≤ v * s) × (v * s < a + n * v)) (sym one) (λ w x y. (omega (arith, x), omega (arith, y)))
unit_of u a n s (inr four) = subst (λ (v : ℕ). a % v ≡ 0 → a / v ≤ s → s < a / v + n → (a ≤ v * s) × (v * s < a + n * v)) (sym four) (λ w x y. (omega (arith, w, x), omega (arith, w, y)))

some_need : (u n : ℕ) → (u ≡ 1) ⊎ (u ≡ 4) → 0 < n → 0 < div_ceil n (256 * u) * u
some_need u n (inl one) some = subst (λ (v : ℕ). 0 < div_ceil n (256 * v) * v) (sym one) (let up = (div_ceil_times n 256 (omega arith)).0 in by (div_ceil n 256) up)
  where
    by : (k : ℕ) → n ≤ k * 256 → 0 < k * 1
    by k up = omega (arith, up, some)
some_need u n (inr four) some = subst (λ (v : ℕ). 0 < div_ceil n (256 * v) * v) (sym four) (let up = (div_ceil_times n 1024 (omega arith)).0 in by (div_ceil n 1024) up)
  where
    by : (k : ℕ) → n ≤ k * 1024 → 0 < k * 4
    by k up = omega (arith, up, some)

placed : (space : OldMapContent) (n start : ℕ) → 0 < n → (none : Bool) → (n == 0) ≡ none → (start % space.sector_units == 0) ≡ true
    → nat_le (start / space.sector_units + div_ceil n (256 * space.sector_units)) (space.disc_units / space.sector_units) ≡ true
    → sectors_at (Layout.Old space) start n ≡ Some (range_with_len (start / space.sector_units) (div_ceil n (256 * space.sector_units)))
unfolding sectors_at
placed space n start some true e f g = absurd (let zero = eqb-true n 0 e in omega (arith, zero, some))
placed space n start some false e f g = rw (e, f, g) refl

fitted' : (space : OldMapContent) (n start : ℕ) → IsOldMap space → 0 < n → first_fit_place (old_need space n) space.holes ≡ Some start → IsFitted space start n
fitted' space n start is some fits =
    let u = space.sector_units in
    let count = div_ceil n (256 * u) in
    let whole = fit_whole space.disc_units u 0 (old_need space n) start space.holes is.holes fits in
    let inside = in_disc_sectors u start count space.disc_units is.units whole.0 whole.1 in
    record {
      sectors = range_with_len (start / u) count;
      place = placed space n start some (n == 0) refl (eq-eqb (start % u) 0 whole.0) (le-leb (start / u + count) (space.disc_units / u) inside);
      free = λ s h.
          let b = range_bounds (start / u) count s h in
          let t = unit_of u start count s is.units whole.0 b.0 b.1 in
          in_units u is.units space.disc_units 0 space.holes s is.holes (taken_in space.disc_units u 0 (old_need space n) start space.holes (u * s) is.holes fits t.0 t.1).0;
      short = (let need = some_need u n is.units some in let disc = is.disc in let end = whole.1 in omega (arith, need, disc, end));
    }

pub space_law : SpaceLaw
space_law = record { named = named'; size = size'; given = given'; fitted = fitted' }
