-- The nodes that slide, sorted by their starts, lie in their order and apart.
use Rattle.std.proofs.Common.{◌≡◌, ◌<◌, ◌≤◌, ◌⊎◌, inl, inr, ⊎_elim, ℕ, zero, suc, ◌+◌, ◌*◌, ◌/◌, ◌%◌, Bool, true, false, cond, not, List, [], ◌∷◌, length, refl, sym, ap, ap₂, subst, ◌∙◌, arith, Option, Some, None, eq-eqb}
use Rattle.std.specs.Prelude.{Contains, IsPermutation, ◌==◌, ◌&&◌, nat_lt}
use Rattle.std.specs.FinMap.{get}
use Rattle.std.specs.List.{flat_map, range_with_len}
use Rattle.std.specs.List.Sorted.{IsNonDecreasingBy}
use Rattle.std.proofs.lemmas.Bool.{cases_eq, cases_lt, eqb-false, lt-ltb, ltb-true, ne_eqb}
use Rattle.std.proofs.lemmas.List.Elements.{Contains-append_cases, Contains-append_left, Contains-append_right}
use Rattle.std.proofs.lemmas.List.Sorted.{Contains-permutation, IsNonDecreasingBy-drop, IsPermutation-sym}
use Rattle.fc_record.specs.declared.Kind.{Kind}
use Rattle.fc_oldmap.specs.declared.Hole.{Hole}
use Rattle.fc_oldmap.specs.Holes.{AreApart, AreHoles, IsHole, hole_end}
use Rattle.fc_oldmap.specs.OldMap.{OldMapContent}
use Rattle.fc_alloc.specs.declared.owner.Owner.{Owner}
use Rattle.fc_image.specs.Layout.{Layout, dir_form, is_among}
use Rattle.fc_image.specs.Walk.{Listing, Object, object_size}
use Rattle.fc_image.specs.Objects.{has_sectors, objects_of}
use Rattle.fc_image.specs.Edits.{Apart}
use Rattle.fc_image.specs.Opening.{reserved_in}
use Rattle.fc_image.proofs.FreeLemmas.{among_range}
use Rattle.fc_image.proofs.PathsLemmas.{many, many-append}
use Rattle.fc_tree.specs.declared.node.Node.{Node}
use Rattle.fc_tree.specs.Nodes.{number_of}
use Rattle.fc_tree.proofs.FindLemmas.{object_of_number}
use Rattle.fc_tree.proofs.MemberLemmas.{many_permuted, some_many}
use Rattle.fc_tree.proofs.WalkedLemmas.{same_some}
use Rattle.fc_laws.specs.nodes.Edits.{Nodes}
use Rattle.fc_image.specs.declared.effects.Owned.{Owned}
use Rattle.fc_squash.specs.Squashing.{place, places}
use Rattle.fc_squash.proofs.StandLemmas.{apart_all}
use Rattle.fc_squash.proofs.StepLemmas.{every_from}
use Rattle.fc_laws.specs.old.agree.Laws.{AgreeOn}
use Rattle.fc_laws.specs.old.agree.Spaces.{CanGive}
use Rattle.fc_laws.proofs.lemmas.agree.WalkedLemmas.{had, object_lies, sound}
use Rattle.fc_laws.proofs.lemmas.old.agree.GivenLemmas.{space_law}
use Rattle.fc_changes.proofs.BasicLemmas.{cases_cons, clash, first_in, in_flat, next_in, nothing_in}
use Rattle.fc_changes.proofs.lemmas.old.PlaceLemmas.{IsRow, row_or_none}
use Rattle.fc_oldlaws.specs.moves.After.{AreOwned}
use Rattle.fc_oldlaws.specs.moves.Laws.{ReadyLaw}
use Rattle.fc_oldlaws.specs.moves.Nodes.{AreReady, AreSliding, Slides, sliding_at, sliding_below, units_in}
use Rattle.fc_oldlaws.proofs.lemmas.moves.OwnedLemmas.{are_owned}
use Rattle.fc_oldlaws.proofs.lemmas.moves.PlaceLemmas.{same_object}
use Rattle.fc_image.proofs.lemmas.effects.OneHoleLemmas.{Every}

-- ---- the list

some_none : (node : Node) → Some node ≡ None → ⊥
some_none node e = cc

-- what stands in it of a number
at_number : (space : OldMapContent) (n : ℕ) (o : Option Node) (p : Owned) → Contains (sliding_at space n o) p
    → (node : Node) × (o ≡ Some node) × (p.node ≡ n) × (n ≡ 0 → ⊥) × (p.start ≡ node.entry.address) × (p.len ≡ units_in space node.entry) × (0 < p.len)
at_number space n None p at = absurd (nothing_in p at)
at_number space n (Some node) p at = by (n == 0) (nat_lt 0 (units_in space node.entry)) refl refl at
  where
    q : Owned
    q = record { node = n; start = node.entry.address; len = units_in space node.entry }

    by : (z b : Bool) → (n == 0) ≡ z → nat_lt 0 (units_in space node.entry) ≡ b → Contains (cond (not z && b) (q ∷ []) []) p
        → (k : Node) × (Some node ≡ Some k) × (p.node ≡ n) × (n ≡ 0 → ⊥) × (p.start ≡ k.entry.address) × (p.len ≡ units_in space k.entry) × (0 < p.len)
    by true b e f c = absurd (nothing_in p c)
    by false false e f c = absurd (nothing_in p c)
    by false true e f c = elim (cases_cons q [] p c) [
      | inl is ↦ (
        node,
        refl,
        sym (ap (λ (x : Owned). x.node) is),
        eqb-false n 0 e,
        sym (ap (λ (x : Owned). x.start) is),
        sym (ap (λ (x : Owned). x.len) is),
        subst (λ (x : Owned). 0 < x.len) is (ltb-true 0 (units_in space node.entry) f),
      )
      | inr none ↦ absurd (nothing_in p none)
    ]

stands_at : (space : OldMapContent) (n : ℕ) (node : Node) → (n ≡ 0 → ⊥) → 0 < units_in space node.entry → (p : Owned) × Contains (sliding_at space n (Some node)) p × (p.node ≡ n)
stands_at space n node lower some =
    let q : Owned = record { node = n; start = node.entry.address; len = units_in space node.entry } in
    (q, subst (λ (b : Bool). Contains (cond b (q ∷ []) []) q) (sym (ap₂ (λ (a b : Bool). not a && b) (not_zero n lower) (lt-ltb 0 (units_in space node.entry) some))) (first_in q []), refl)
  where
    not_zero : (k : ℕ) → (k ≡ 0 → ⊥) → (k == 0) ≡ false
    not_zero k h = ne_eqb k 0 h

flat_in : {X Y : Type 0} (f : X → List Y) (xs : List X) (x : X) (z : Y) → Contains xs x → Contains (f x) z → Contains (flat_map f xs) z
flat_in f [] x z at there = absurd (nothing_in x at)
flat_in {X} {Y} f (k ∷ xs) x z at there = elim (cases_cons k xs x at) [
  | inl is ↦ Contains-append_left (f k) (flat_map f xs) z (subst (λ (w : X). Contains (f w) z) (sym is) there)
  | inr later ↦ Contains-append_right (f k) (flat_map f xs) z (flat_in f xs x z later there)
]

in_range : (from n k : ℕ) → from ≤ k → k < from + n → Contains (range_with_len from n) k
in_range from zero k low high = absurd (omega (arith, low, high))
in_range from (suc n) k low high = elim (cases_eq from k) [
  | inl same ↦ subst (λ (m : ℕ). Contains (range_with_len from (suc n)) m) same (first_in from (range_with_len (from + 1) n))
  | inr other ↦ next_in from k (range_with_len (from + 1) n) (in_range (from + 1) n k (omega (arith, low, other)) (omega (arith, high)))
]

-- the number of each node of it
numbers_from : (space : OldMapContent) (nodes : Nodes) (from n : ℕ) (p : Owned) → Contains (flat_map (λ k. sliding_at space k (get nodes k)) (range_with_len from n)) p → from ≤ p.node
numbers_from space nodes from zero p at = absurd (nothing_in p at)
numbers_from space nodes from (suc n) p at = elim (Contains-append_cases (sliding_at space from (get nodes from)) (flat_map (λ k. sliding_at space k (get nodes k)) (range_with_len (from + 1) n)) p at) [
  | inl here ↦ (let x = at_number space from (get nodes from) p here in let is = x.2 in omega (arith, is))
  | inr later ↦ (let more = numbers_from space nodes (from + 1) n p later in omega (arith, more))
]

none_pass : {X : Type 0} (t : X → Bool) (xs : List X) → ((x : X) → Contains xs x → t x ≡ false) → many t xs ≡ 0
unfolding many
none_pass t [] none = refl
none_pass t (x ∷ xs) none = let here = none x (first_in x xs) in let rest = none_pass t xs (λ k at. none k (next_in x k xs at)) in rw (here, rest) refl

-- No two are of one node.
once_below : (space : OldMapContent) (nodes : Nodes) (from n k : ℕ) → many (λ (p : Owned). p.node == k) (flat_map (λ m. sliding_at space m (get nodes m)) (range_with_len from n)) ≤ 1
unfolding many
once_below space nodes from zero k = omega arith
once_below space nodes from (suc n) k =
    let rest = flat_map (λ m. sliding_at space m (get nodes m)) (range_with_len (from + 1) n) in
    let both = many-append (λ (p : Owned). p.node == k) (sliding_at space from (get nodes from)) rest in
    let more = once_below space nodes (from + 1) n k in
    elim (cases_eq from k) [
      | inl same ↦ (let few = at_most (get nodes from) in
          let none = none_pass (λ (p : Owned). p.node == k) rest (λ p at. let far = numbers_from space nodes (from + 1) n p at in ne_eqb p.node k (λ is. omega (arith, far, same, is))) in
          omega (arith, both, few, none))
      | inr other ↦ (let none = none_pass (λ (p : Owned). p.node == k) (sliding_at space from (get nodes from))
          (λ p at. let x = at_number space from (get nodes from) p at in ne_eqb p.node k (λ is. other (sym x.2 ∙ is))) in
          omega (arith, both, more, none))
    ]
  where
    one_pass : (b : Bool) (p : Owned) → many (λ (q : Owned). q.node == k) (cond b (p ∷ []) []) ≤ 1
    one_pass true p = by (p.node == k)
      where
        by : (c : Bool) → cond c 1 0 + 0 ≤ 1
        by true = omega arith
        by false = omega arith
    one_pass false p = omega arith

    at_most : (o : Option Node) → many (λ (p : Owned). p.node == k) (sliding_at space from o) ≤ 1
    at_most None = omega arith
    at_most (Some node) = one_pass (not (from == 0) && nat_lt 0 (units_in space node.entry)) (record { node = from; start = node.entry.address; len = units_in space node.entry })

module _ (kind : Kind) (space : OldMapContent) (nodes : Nodes) (owners : List Owner) (root : Node) (listings : List Listing) (bound : ℕ) (owned : List Owned)
    (a : AgreeOn kind space nodes owners root listings) (above : (n : ℕ) → bound ≤ n → get nodes n ≡ None) (same : IsPermutation (sliding_below space nodes bound) owned)
    (sorted : IsNonDecreasingBy (λ (o : Owned). o.start) owned) where
  abbrev layout : Layout
  layout = Layout.Old space

  each : (n : ℕ) (node : Node) → get nodes n ≡ Some node → (n ≡ 0 → ⊥) → 0 < units_in space node.entry → (p : Owned) × Contains owned p × (p.node ≡ n)
  each n node there lower some =
      let p = stands_at space n node lower some in
      let low : n < bound = ⊎_elim (λ h. h) (λ high. absurd (some_none node (sym there ∙ above n high))) (cases_lt n bound) in (
        p.0,
        Contains-permutation (sliding_below space nodes bound) owned p.0 same
            (flat_in (λ k. sliding_at space k (get nodes k)) (range_with_len 0 bound) n p.0 (in_range 0 bound n (omega arith) (omega (arith, low)))
            (subst (λ (o : Option Node). Contains (sliding_at space n o) p.0) (sym there) p.1)),
        p.2,
      )

  only : (p : Owned) → Contains owned p → Slides space nodes p
  only p at =
      let n = in_flat (λ k. sliding_at space k (get nodes k)) (range_with_len 0 bound) p (Contains-permutation owned (sliding_below space nodes bound) p (IsPermutation-sym (sliding_below space nodes bound) owned same) at) in
      let x = at_number space n.0 (get nodes n.0) p n.2 in
      record {
        node = x.0;
        there = ap (get nodes) x.2 ∙ x.1;
        below = λ none. x.3 (sym x.2 ∙ none);
        start = x.4;
        long = x.5;
        some = x.6;
      }

  are_sliding : AreSliding space nodes owned
  are_sliding = record { each = each; only = only }

  objects_owned : AreOwned space (objects_of listings) owned
  objects_owned = are_owned space nodes listings owned a.is_map.units (sound kind (Layout.Old space) nodes root listings a.walked) a.walked.held are_sliding

  once : (k : ℕ) → many (λ (p : Owned). p.node == k) owned ≤ 1
  once k = let few = once_below space nodes 0 bound k in let turned = many_permuted (λ (p : Owned). p.node == k) (sliding_below space nodes bound) owned same in omega (arith, few, turned)

  -- ---- places

  -- the object of one of them
  pub record IsBody (p : Owned) : Type 0 where
    pub object : Object
    pub among : Contains (objects_of listings) object
    pub some : has_sectors object ≡ true
    pub number : number_of nodes object.path ≡ Some p.node
    pub gives : CanGive space space.holes (place p)
    pub row : IsRow space p.start (object_size (dir_form layout) object.entry) object.sectors
    pub long : p.len ≡ length object.sectors * space.sector_units

  body_of : (p : Owned) → Contains owned p → IsBody p
  body_of p at =
      let x = objects_owned.only p at in
      let s = only p at in
      let n = object_of_number layout listings nodes (sound kind (Layout.Old space) nodes root listings a.walked) a.walked.held p.node s.node s.there in
      let m = a.walked.held.each n.0 n.1 in
      let start_n : p.start ≡ n.0.entry.address = s.start ∙ ap (λ (k : Node). k.entry.address) (same_some s.node _ (sym s.there ∙ ap (get nodes) (same_some p.node m.number (sym n.2 ∙ m.at_path)) ∙ m.is)) in
      let some_n : has_sectors n.0 ≡ true = some_by n.0 n.1 (s.some) (s.long ∙ ap (λ (k : Node). units_in space k.entry) (same_some s.node _ (sym s.there ∙ ap (get nodes) (same_some p.node m.number (sym n.2 ∙ m.at_path)) ∙ m.is))) in
      let long_n : p.len ≡ length n.0.sectors * space.sector_units =
      s.long ∙ ap (λ (k : Node). units_in space k.entry) (same_some s.node _ (sym s.there ∙ ap (get nodes) (same_some p.node m.number (sym n.2 ∙ m.at_path)) ∙ m.is))
      ∙ sym (space_law.size space n.0 (object_lies kind (Layout.Old space) nodes root listings a.walked n.0 n.1).placed) in
      record {
        object = n.0;
        among = n.1;
        some = some_n;
        number = n.2;
        gives = subst (λ (h : Hole). CanGive space space.holes h)
            (ap₂ (λ (b k : ℕ). let h : Hole = record { start = b; len = k } in h) (sym start_n) (sym long_n)) (space_law.given kind space nodes owners root listings n.0 0 a n.1 some_n);
        row = subst (λ (b : ℕ). IsRow space b (object_size (dir_form layout) n.0.entry) n.0.sectors) (sym start_n) (row_of n.0 n.1 some_n);
        long = long_n;
      }
    where
      some_left : (n : ℕ) → 0 < n * space.sector_units → 0 < n
      some_left zero h = absurd (omega (arith, h))
      some_left (suc n) h = omega arith

      some_by : (o : Object) → Contains (objects_of listings) o → 0 < p.len → p.len ≡ units_in space o.entry → has_sectors o ≡ true
      some_by o there some long =
          lt-ltb 0 (length o.sectors) (some_left (length o.sectors) (subst (λ (n : ℕ). 0 < n) (long ∙ sym (space_law.size space o (object_lies kind (Layout.Old space) nodes root listings a.walked o there).placed)) some))

      row_of : (o : Object) → Contains (objects_of listings) o → has_sectors o ≡ true → IsRow space o.entry.address (object_size (dir_form layout) o.entry) o.sectors
      row_of o there some = ⊎_elim (λ none. absurd (clash (has_sectors o) some (ap (λ (xs : List ℕ). nat_lt 0 (length xs)) none.1))) (λ r. r)
          (row_or_none space o.entry.address (object_size (dir_form layout) o.entry) o.sectors (object_lies kind (Layout.Old space) nodes root listings a.walked o there).placed)

  -- one that begins no later ends before the other begins
  within_row : (u : ℕ) → (u ≡ 1) ⊎ (u ≡ 4) → (b c n : ℕ) → b % u ≡ 0 → c % u ≡ 0 → b ≤ c → c < b + n * u → (b / u ≤ c / u) × (c / u < b / u + n)
  within_row u units b c n = ⊎_elim
      (λ one. subst (λ (w : ℕ). b % w ≡ 0 → c % w ≡ 0 → b ≤ c → c < b + n * w → (b / w ≤ c / w) × (c / w < b / w + n)) (sym one) (λ x k l m. (omega (arith, l), omega (arith, m))))
      (λ four. subst (λ (w : ℕ). b % w ≡ 0 → c % w ≡ 0 → b ≤ c → c < b + n * w → (b / w ≤ c / w) × (c / w < b / w + n)) (sym four) (λ x k l m. (omega (arith, x, k, l), omega (arith, x, k, m)))) units

  apart_pair : (p q : Owned) → Contains owned p → Contains owned q → (p.node ≡ q.node → ⊥) → p.start ≤ q.start → p.start + p.len ≤ q.start
  apart_pair p q at there other low = ⊎_elim
      (λ high. absurd (crossed high))
      (λ far. far) (cases_lt q.start (p.start + p.len))
    where
      crossed : q.start < p.start + p.len → ⊥
      crossed high =
          let x = body_of p at in
          let k = body_of q there in
          let units = a.is_map.units in
          let u = space.sector_units in
          let inside = within_row u units p.start q.start (length x.object.sectors) x.row.begins k.row.begins low (let long = x.long in omega (arith, high, long)) in
          let in_first : is_among x.object.sectors (q.start / u) ≡ true =
          ap (λ (xs : List ℕ). is_among xs (q.start / u)) (x.row.row ∙ ap (range_with_len (p.start / u)) (sym x.row.long)) ∙ among_range (p.start / u) (length x.object.sectors) (q.start / u) inside.0 inside.1 in
          let some = ltb-true 0 (length k.object.sectors) k.some in
          let in_second : is_among k.object.sectors (q.start / u) ≡ true =
          ap (λ (xs : List ℕ). is_among xs (q.start / u)) (k.row.row ∙ ap (range_with_len (q.start / u)) (sym k.row.long)) ∙ among_range (q.start / u) (length k.object.sectors) (q.start / u) (omega arith) (omega (arith, some)) in
          let h = had kind (Layout.Old space) nodes root listings a.walked in
          let one : x.object ≡ k.object = same_object (reserved_in kind layout) (objects_of listings) x.object k.object (q.start / u)
          (subst (Apart (reserved_in kind layout)) (sym h.objects) h.apart) x.among k.among in_first in_second in
          other (same_some p.node q.node (sym x.number ∙ ap (λ (o : Object). number_of nodes o.path) one ∙ k.number))

  is_hole : (p : Owned) → Contains owned p → IsHole space.disc_units space.sector_units 0 (place p)
  is_hole p at = let x = (body_of p at).gives in record { positive = x.positive; onward = omega arith; inside = x.inside; begins = x.begins; ends = x.ends }

  rise : (floor : ℕ) (os : List Owned) → ((p : Owned) → Contains os p → Contains owned p) → ((p : Owned) → Contains os p → floor ≤ p.start) → ((k : ℕ) → many (λ (p : Owned). p.node == k) os ≤ 1)
      → IsNonDecreasingBy (λ (o : Owned). o.start) os → AreHoles space.disc_units space.sector_units floor (places os)
  unfolding many
  rise floor [] within high few order = tt
  rise floor (p ∷ os) within high few order =
      let is = is_hole p (within p (first_in p os)) in (
        record { positive = is.positive; onward = high p (first_in p os); inside = is.inside; begins = is.begins; ends = is.ends },
        rise (hole_end (place p)) os (λ q at. within q (next_in p q os at))
            (λ q at. apart_pair p q (within p (first_in p os)) (within q (next_in p q os at)) (different q at) (first_low q at))
            (λ k. let all = few k in let rest = less k in omega (arith, all, rest))
            (IsNonDecreasingBy-drop (λ (o : Owned). o.start) 1 (p ∷ os) order),
      )
    where
      less : (k : ℕ) → many (λ (q : Owned). q.node == k) os ≤ many (λ (q : Owned). q.node == k) (p ∷ os)
      less k = omega arith

      different : (q : Owned) → Contains os q → p.node ≡ q.node → ⊥
      different q at same' =
          let all = few p.node in
          let one = some_many (λ (x : Owned). x.node == p.node) os q at (eq-eqb q.node p.node (sym same')) in
          let here : (p.node == p.node) ≡ true = eq-eqb p.node p.node refl in
          two (p.node == p.node) here all one
        where
          two : (b : Bool) → b ≡ true → cond b 1 0 + many (λ (x : Owned). x.node == p.node) os ≤ 1 → 1 ≤ many (λ (x : Owned). x.node == p.node) os → ⊥
          two true e l m = omega (arith, l, m)
          two false e l m = absurd (cc)

      first_low : (q : Owned) → Contains os q → p.start ≤ q.start
      first_low q at = subst (λ (x : Owned). p.start ≤ x.start) at.2 (order 0 (suc at.0) q (omega arith) (let low = at.1 in omega (arith, low)))

  ready : AreReady space nodes owned
  ready = record {
    sliding = are_sliding;
    bodies = record {
      rise = rise 0 owned (λ p at. at) (λ p at. omega arith) once sorted;
      apart = apart_all space.holes (places owned) (each_body owned (λ p at. at));
    };
  }
    where
      each_body : (os : List Owned) → ((p : Owned) → Contains os p → Contains owned p) → Every (λ b. Every (AreApart b) space.holes) (places os)
      each_body [] within = tt
      each_body (p ∷ os) within = (every_from (AreApart (place p)) space.holes (body_of p (within p (first_in p os))).gives.apart, each_body os (λ q at. within q (next_in p q os at)))

pub ready_law : ReadyLaw
ready_law kind space nodes owners root listings bound owned a above same sorted = ready kind space nodes owners root listings bound owned a above same sorted
