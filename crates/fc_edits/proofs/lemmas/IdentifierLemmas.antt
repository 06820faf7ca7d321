-- Objects and the identifiers that they own, and which identifiers get runs.
use Rattle.std.proofs.Common.{◌≡◌, ◌<◌, ◌≤◌, ◌⊎◌, inl, inr, ⊎_elim, ℕ, suc, ◌+◌, Bool, true, false, cond, List, [], ◌∷◌, ◌++◌, flat_map, length, refl, sym, ap, ap₂, subst, arith, eq-eqb, Some}
use Rattle.std.specs.Prelude.{Contains, IsPermutation, filter, nat_lt, ◌==◌, ◌&&◌, ◌||◌}
use Rattle.std.proofs.lemmas.Bool.{eqb-true, or_cases as either, or_from as neither}
use Rattle.std.proofs.lemmas.List.Sorted.{IsPermutation-cons, IsPermutation-refl, IsPermutation-trans, length_permutation}
use Rattle.fc_record.specs.declared.Kind.{Kind}
use Rattle.fc_newmap.specs.Map.{Map, ZoneRun, all_runs, has_id, id_runs, is_used}
use Rattle.fc_newmap.proofs.PlaceLemmas.{holder_of, id_run_in, in_back, in_front}
use Rattle.fc_image.specs.Layout.{Layout, id_of, id_sectors, is_among, new_sectors, sectors_at}
use Rattle.fc_alloc.specs.declared.owner.Owner.{Owner}
use Rattle.fc_image.specs.Walk.{Listing, Object}
use Rattle.fc_image.specs.Objects.{has_sectors, is_owner_of, objects_of, owner_count}
use Rattle.fc_image.specs.effects.Short.{is_alone}
use Rattle.fc_image.proofs.EntriesLemmas.{in_filter, cases as contains_cases}
use Rattle.fc_image.proofs.HolesLemmas.{in_id}
use Rattle.fc_image.proofs.ShuffleLemmas.{IsPermutation-filter, flipped}
use Rattle.fc_tree.specs.declared.node.Node.{Node}
use Rattle.fc_tree.proofs.MemberLemmas.{no_element}
use Rattle.fc_changes.proofs.BasicLemmas.{any_in, clash}
use Rattle.fc_laws.specs.nodes.Edits.{Nodes}
use Rattle.fc_laws.specs.agree.Agreed.{AgreeOn}
use Rattle.fc_laws.proofs.lemmas.agree.BeforeLemmas.{new_facts, object_lies}
use Rattle.fc_laws.proofs.lemmas.nodes.ListLemmas.{in_other}
use Rattle.fc_edits.specs.NewPlaces.{Taking, is_taken}
use Rattle.fc_changes.proofs.NewPlaceLemmas.{owner_id, some_there}
use Rattle.fc_record.proofs.KindLemmas.{and_first, and_second}

-- ---- lists and tests

-- an element and the others
pick : {X : Type 0} (xs : List X) (x : X) → Contains xs x → (rest : List X) × IsPermutation xs (x ∷ rest)
pick [] x at = absurd (no_element x at)
pick {X} (y ∷ xs) x at =
    ⊎_elim (λ same. (xs, subst (λ (z : X). IsPermutation (y ∷ xs) (z ∷ xs)) same (IsPermutation-refl (y ∷ xs))))
    (λ later. let r = pick xs x later in (y ∷ r.0, IsPermutation-trans (y ∷ xs) (y ∷ x ∷ r.0) (x ∷ y ∷ r.0) (IsPermutation-cons y xs (x ∷ r.0) r.1) (flipped y x r.0)))
    (contains_cases y x xs at)

-- one that alone passes a test is each that passes it
alone_passes : (t : Object → Bool) (os : List Object) (o p : Object) → length (filter t os) ≤ 1 → Contains os o → Contains os p → t o ≡ true → t p ≡ true → o ≡ p
alone_passes t os o p few at bt passes too =
    let r = pick os o at in
    ⊎_elim (λ same. same)
    (λ later.
    let long = length_permutation (filter t os) (filter t (o ∷ r.0)) (IsPermutation-filter t os (o ∷ r.0) r.1) in
    let more = some_in (filter t r.0) p (in_filter t r.0 p later too) in
    let first : length (filter t (o ∷ r.0)) ≡ suc (length (filter t r.0)) = ap (λ (b : Bool). length (cond b (o ∷ filter t r.0) (filter t r.0))) passes in
    absurd (omega (arith, long, more, first, few)))
    (contains_cases o p r.0 (in_other os (o ∷ r.0) r.1 p bt))
  where
    some_in : (xs : List Object) (y : Object) → Contains xs y → 1 ≤ length xs
    some_in [] y there = absurd (no_element y there)
    some_in (z ∷ xs) y there = omega arith

pub owns : (o : Object) (s : ℕ) → is_among o.sectors s ≡ true → is_owner_of (id_of o.entry.address) o ≡ true
owns o s i = ap₂ (λ (a b : Bool). a && b) (some_there o.sectors s i) (eq-eqb (id_of o.entry.address) (id_of o.entry.address) refl)

pub some_sector : (sectors : List ℕ) → nat_lt 0 (length sectors) ≡ true → (s : ℕ) × (is_among sectors s ≡ true)
some_sector [] h = absurd (cc)
some_sector (s ∷ sectors) h = (s, ap (λ (b : Bool). b || is_among sectors s) (eq-eqb s s refl))

pub taken_either : (xs ys : List Taking) (k : ℕ) → is_taken (xs ++ ys) k ≡ (is_taken xs k || is_taken ys k)
taken_either [] ys k = refl
taken_either (t ∷ xs) ys k = by (t.id == k) (taken_either xs ys k)
  where
    by : (b : Bool) → is_taken (xs ++ ys) k ≡ (is_taken xs k || is_taken ys k) → (b || is_taken (xs ++ ys) k) ≡ ((b || is_taken xs k) || is_taken ys k)
    by true rest = refl
    by false rest = rest

-- the sectors of one of some objects
pub among_flat : (os : List Object) (p : Object) (s : ℕ) → Contains os p → is_among p.sectors s ≡ true → is_among (flat_map (λ (q : Object). q.sectors) os) s ≡ true
among_flat [] p s at i = absurd (no_element p at)
among_flat (q ∷ os) p s at i =
    ⊎_elim (λ same. in_front q.sectors (flat_map (λ (r : Object). r.sectors) os) s (subst (λ (r : Object). is_among r.sectors s ≡ true) (sym same) i))
    (λ later. in_back q.sectors (flat_map (λ (r : Object). r.sectors) os) s (among_flat os p s later i)) (contains_cases q p os at)

-- the sectors of bytes, some
pub by_map : (m : Map) (address n : ℕ) (sectors : List ℕ) → 0 < n → sectors_at (Layout.New m) address n ≡ Some sectors → new_sectors m address n ≡ Some sectors
unfolding sectors_at
by_map m address n sectors some h = by (n == 0) refl h
  where
    by : (b : Bool) → (n == 0) ≡ b → cond b (Some []) (new_sectors m address n) ≡ Some sectors → new_sectors m address n ≡ Some sectors
    by true t f = absurd (let none = eqb-true n 0 t in omega (arith, none, some))
    by false t f = f

-- ---- owners

-- what an object owns is used
pub used_of : (kind : Kind) (m : Map) (nodes : Nodes) (owners : List Owner) (root : Node) (listings : List Listing) → AgreeOn kind m nodes owners root listings
    → (p : Object) → Contains (objects_of listings) p → (k : ℕ) → is_owner_of k p ≡ true → is_used m k ≡ true
used_of kind m nodes owners root listings a p at k own =
    let s = some_sector p.sectors (and_first (has_sectors p) (id_of p.entry.address == k) own) in
    let lies = object_lies kind m nodes owners root listings a p at in
    let among = subst (λ (j : ℕ). is_among (id_sectors m j) s.0 ≡ true) (owner_id k p own) (in_id m p.entry.address _ p.sectors s.0 lies.placed s.1) in
    let q = holder_of m.geometry (id_runs m k) s.0 among in
    let there = id_run_in m k q.0 (new_facts m a.is_map).zones q.1.0 in
    any_in (λ (r : ZoneRun). has_id k r.1.kind) (all_runs m) q.0 there.0 there.1

-- An object that is alone in its identifier is its one owner, and that isn't the map's.
pub alone_facts : (os : List Object) (o : Object) → Contains os o → (s : ℕ) × (is_among o.sectors s ≡ true) → is_alone os o ≡ true
    → (length (filter (is_owner_of (id_of o.entry.address)) os) ≤ 1) × (id_of o.entry.address ≡ 2 → ⊥)
alone_facts os o at sector alone =
    by (id_of o.entry.address == 2) refl (eqb-true (owner_count os (id_of o.entry.address)) 1 (and_first (owner_count os (id_of o.entry.address) == 1) _ alone))
    (some_of (filter (is_owner_of (id_of o.entry.address)) os) o (in_filter (is_owner_of (id_of o.entry.address)) os o at (owns o sector.0 sector.1)))
  where
    some_of : (xs : List Object) (y : Object) → Contains xs y → 1 ≤ length xs
    some_of [] y there = absurd (no_element y there)
    some_of (z ∷ xs) y there = omega arith

    by : (b : Bool) → (id_of o.entry.address == 2) ≡ b → length (filter (is_owner_of (id_of o.entry.address)) os) + (let n : ℕ = cond b 1 0 in n) ≡ 1
        → 1 ≤ length (filter (is_owner_of (id_of o.entry.address)) os) → (length (filter (is_owner_of (id_of o.entry.address)) os) ≤ 1) × (id_of o.entry.address ≡ 2 → ⊥)
    by true t sum some = absurd (omega (arith, sum, some))
    by false t sum some = (omega (arith, sum), λ two. clash (id_of o.entry.address == 2) (eq-eqb (id_of o.entry.address) 2 two) t)

pub alone_one : (os : List Object) (o : Object) → Contains os o → (s : ℕ) × (is_among o.sectors s ≡ true) → is_alone os o ≡ true
    → (p : Object) → Contains os p → is_owner_of (id_of o.entry.address) p ≡ true → o ≡ p
alone_one os o at sector alone p there own =
    alone_passes (is_owner_of (id_of o.entry.address)) os o p (alone_facts os o at sector alone).0 at there (owns o sector.0 sector.1) own
