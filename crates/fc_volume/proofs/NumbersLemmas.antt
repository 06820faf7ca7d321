-- Nodes and owners that are changed one number after another.
use Rattle.std.proofs.Common.{◌≡◌, ◌<◌, ◌≤◌, inl, inr, ℕ, zero, suc, ◌+◌, ◌^◌, Bool, true, false, cond, List, [], ◌∷◌, length, map, refl, sym, ap, subst, ◌∙◌, arith, Option, Some, None, eq-eqb, ne_eqb, get_or}
use Rattle.std.specs.Prelude.{◌==◌, ◌||◌, Contains, nat_eq, slice_get, slice_set}
use Rattle.std.specs.List.{AllByRecursion, IsDistinct}
use Rattle.std.specs.Option.{option_map, option_map_or}
use Rattle.std.specs.FinMap.{get, len, same_map, nat_cmp-IsAntisymmetric}
use Rattle.std.specs.Cmp.{nat_cmp_total}
use Rattle.std.proofs.lemmas.Bool.{cases_eq, cases_lt}
use Rattle.fc_names.specs.declared.name.NameForm.{NameForm}
use Rattle.fc_alloc.specs.declared.owner.Owner.{Owner}
use Rattle.fc_alloc.specs.Owners.{HaveOwnNodes, has_node, with_changed}
use Rattle.fc_tree.specs.declared.node.Node.{Node}
use Rattle.fc_tree.specs.Counts.{address_in}
use Rattle.fc_laws.specs.nodes.Edits.{Nodes, with_edited}
use Rattle.fc_laws.proofs.lemmas.nodes.ShapeLemmas.{edited_here, edited_length, edited_other}
use Rattle.fc_oldmap.specs.OldMap.{OldMapContent, IsOldMap}
use Rattle.fc_image.specs.Layout.{Layout, dir_form}
use Rattle.fc_change.specs.Owned.{entry_owner}
use Rattle.std.proofs.lemmas.Option.{slice_get_read}
use Rattle.fc_image.specs.declared.effects.Owned.{Owned}
use Rattle.fc_oldlaws.specs.moves.After.{Slide, form_of, move_of, start_after}
use Rattle.fc_oldlaws.proofs.lemmas.moves.SayableLemmas.{moved_low, other_low}
use Rattle.fc_oldlaws.proofs.lemmas.moves.StartLemmas.{rises}
use Rattle.fc_squash.specs.Squashing.{AreBodies}
use Rattle.fc_tree.proofs.WalkedLemmas.{place_of}
use Rattle.fc_volume.specs.declared.old.compacting.moves.Moves.{Moves}
use Rattle.fc_oldlaws.specs.moves.Nodes.{AreMoved, body_after, node_after, node_owner, remade}
use Rattle.fc_oldlaws.specs.moves.Writes.{MarkChanges}
use Rattle.fc_volume.specs.OldCompacting.{AreAddressed, AreLeft, AreReaddressed, HasReaddressed, IsLow, IsRemade, addressed, changes_at, entries_at, first_changed, is_changed, marks, readdressed_node, slide_of}
use Rattle.fc_volume.specs.declared.old.compacting.directories.Spare.{Spare}

-- ---- nodes that stay

-- a node that is what it would become
pub unchanged : (nodes : Nodes) (n : ℕ) (node : Node) (f : Node → Node) → Some node ≡ get nodes n → f node ≡ node → nodes ≡ with_edited n f nodes
unchanged nodes n node f there same = same_map nat_cmp_total nat_cmp-IsAntisymmetric nodes (with_edited n f nodes) (λ m. elim (cases_eq m n) [
  | inl here ↦ subst (λ (k : ℕ). get nodes k ≡ get (with_edited n f nodes) k) (sym here)
      (sym there ∙ ap (λ (x : Node). Some x) (sym same) ∙ ap (option_map f) there ∙ sym (edited_here nodes n f))
  | inr other ↦ sym (edited_other nodes n f m other)
])

-- ---- lists

same_last : {X : Type 0} (x y : X) → Some x ≡ Some y → x ≡ y
same_last x y e = ap (λ (o : Option _). option_map_or (λ z. z) o x) e

set_here : {X : Type 0} (xs : List X) (k : ℕ) (x s : X) → slice_get (slice_set xs k x) k ≡ Some s → s ≡ x
set_here [] k x s e = absurd (cc)
set_here (y ∷ xs) zero x s e = sym (same_last x s e)
set_here (y ∷ xs) (suc k) x s e = set_here xs k x s e

set_other : {X : Type 0} (xs : List X) (k n : ℕ) (x : X) → (n ≡ k → ⊥) → slice_get (slice_set xs k x) n ≡ slice_get xs n
set_other [] k n x other = refl
set_other (y ∷ xs) zero zero x other = absurd (other refl)
set_other (y ∷ xs) zero (suc n) x other = refl
set_other (y ∷ xs) (suc k) zero x other = refl
set_other (y ∷ xs) (suc k) (suc n) x other = set_other xs k n x (λ e. other (ap suc e))

set_length : {X : Type 0} (xs : List X) (k : ℕ) (x : X) → length (slice_set xs k x) ≡ length xs
set_length [] k x = refl
set_length (y ∷ xs) zero x = refl
set_length (y ∷ xs) (suc k) x = ap suc (set_length xs k x)

-- ---- nodes

module _ (form : NameForm) (move : ℕ → ℕ) (nodes now next : Nodes) (spares : List Spare) (k bound : ℕ) (r : AreReaddressed form move nodes now spares k) where
  address_kept : (h : ℕ) → address_in now h ≡ address_in nodes h
  address_kept h = elim (cases_lt h k) [
    | inl less ↦ ap (λ (o : Option Node). option_map_or (λ m. m.entry.address) o 0) (r.done h less) ∙ same (get nodes h)
    | inr more ↦ ap (λ (o : Option Node). option_map_or (λ m. m.entry.address) o 0) (r.left h more)
  ]
    where
      same : (o : Option Node) → option_map_or (λ (m : Node). m.entry.address) (option_map (readdressed_node form move nodes) o) 0 ≡ option_map_or (λ (m : Node). m.entry.address) o 0
      same None = refl
      same (Some a) = refl

  here : (o : Option Node) → option_map (readdressed_node form move now) o ≡ option_map (readdressed_node form move nodes) o
  here None = refl
  here (Some a) = ap (λ (h : ℕ). Some (record a { body = body_after form move h a.body })) (address_kept a.holder)

  same_changes : (o : Option Node) → changes_at form move now o ≡ changes_at form move nodes o
  same_changes None = refl
  same_changes (Some a) = ap (λ (h : ℕ). is_changed form move h a.body) (address_kept a.holder)

  pub next_copies : (spare : Spare) → AreLeft nodes spares bound k → slice_get spares k ≡ Some spare → (spare.entries.items ≡ entries_at (get now k)) × (spare.changed ≡ false)
  next_copies spare left at =
      let low : k ≤ k = omega arith in
      ((left.each k spare low at).0 ∙ ap entries_at (sym (r.left k low)), (left.each k spare low at).1)

  pub readdressed_next : (spare : Spare) → next ≡ with_edited k (readdressed_node form move now) now → spare.changed ≡ changes_at form move now (get now k)
      → AreReaddressed form move nodes next (slice_set spares k spare) (k + 1)
  readdressed_next spare is told = record {
    done = λ n less. elim (cases_eq n k) [
      | inl e ↦ subst (λ (m : ℕ). get next m ≡ option_map (readdressed_node form move nodes) (get nodes m)) (sym e)
          (ap (λ (m : Nodes). get m k) is ∙ edited_here now k (readdressed_node form move now) ∙ here (get now k) ∙ ap (option_map (readdressed_node form move nodes)) (r.left k (omega arith)))
      | inr other ↦ off n other ∙ r.done n (omega (arith, less, other))
    ];
    left = λ n more. off n (λ e. omega (arith, e, more)) ∙ r.left n (omega (arith, more));
    many = ap len is ∙ edited_length now k (readdressed_node form move now) ∙ r.many;
    told = λ n s less at. elim (cases_eq n k) [
      | inl e ↦
          let same : s ≡ spare = set_here spares k spare s (subst (λ (m : ℕ). slice_get (slice_set spares k spare) m ≡ Some s) e at) in
          ap (λ (x : Spare). x.changed) same ∙ told ∙ same_changes (get now k) ∙ ap (changes_at form move nodes) (r.left k (omega arith) ∙ ap (get nodes) (sym e))
      | inr other ↦ r.told n s (omega (arith, less, other)) (sym (set_other spares k n spare other) ∙ at)
    ];
  }
    where
      off : (n : ℕ) → (n ≡ k → ⊥) → get next n ≡ get now n
      off n other = ap (λ (m : Nodes). get m n) is ∙ edited_other now k (readdressed_node form move now) n other

  pub left_next : (spare : Spare) → AreLeft nodes spares bound k → AreLeft nodes (slice_set spares k spare) bound (k + 1)
  left_next spare left = record {
    many = set_length spares k spare ∙ left.many;
    each = λ n s more at. left.each n s (omega (arith, more)) (sym (set_other spares k n spare (λ e. omega (arith, e, more))) ∙ at);
  }

module _ (form : NameForm) (move : ℕ → ℕ) (nodes now next : Nodes) (k : ℕ) (r : AreAddressed form move nodes now k) where
  pub addressed_next : next ≡ with_edited k (addressed form move) now → AreAddressed form move nodes next (k + 1)
  addressed_next is = record {
    done = λ n less. elim (cases_eq n k) [
      | inl e ↦ subst (λ (m : ℕ). get next m ≡ option_map (addressed form move) (get nodes m)) (sym e)
          (ap (λ (m : Nodes). get m k) is ∙ edited_here now k (addressed form move) ∙ ap (option_map (addressed form move)) (r.left k (omega arith)))
      | inr other ↦ off n other ∙ r.done n (omega (arith, less, other))
    ];
    left = λ n more. off n (λ e. omega (arith, e, more)) ∙ r.left n (omega (arith, more));
    many = ap len is ∙ edited_length now k (addressed form move) ∙ r.many;
  }
    where
      off : (n : ℕ) → (n ≡ k → ⊥) → get next n ≡ get now n
      off n other = ap (λ (m : Nodes). get m n) is ∙ edited_other now k (addressed form move) n other

-- ---- owners

none_of : (new : Owner) (n : ℕ) (owners : List Owner) → n ≡ new.node → AllByRecursion (λ y. nat_eq n y ≡ false) (map (λ (o : Owner). o.node) owners) → with_changed new owners ≡ owners
none_of new n [] is all = refl
none_of new n (p ∷ owners) is all =
    let other : (p.node == new.node) ≡ false = ne_eqb p.node new.node (λ e. by (subst (λ (m : ℕ). nat_eq m p.node ≡ false) (is ∙ sym e) all.0)) in
    ap (λ (b : Bool). cond b new p ∷ with_changed new owners) other ∙ ap (λ (os : List Owner). p ∷ os) (none_of new n owners is all.1)
  where
    by : nat_eq p.node p.node ≡ false → ⊥
    by e = let t : true ≡ false = sym (eq-eqb p.node p.node refl) ∙ e in absurd (cc)

apart_at : (n : ℕ) (owners : List Owner) (k : ℕ) (old : Owner) → AllByRecursion (λ y. nat_eq n y ≡ false) (map (λ (o : Owner). o.node) owners) → slice_get owners k ≡ Some old → nat_eq n old.node ≡ false
apart_at n [] k old all at = absurd (cc)
apart_at n (p ∷ owners) zero old all at = subst (λ (o : Owner). nat_eq n o.node ≡ false) (same_last p old at) all.0
apart_at n (p ∷ owners) (suc k) old all at = apart_at n owners k old all.1 at

pub changed_at : (owners : List Owner) (k : ℕ) (old new : Owner) → HaveOwnNodes owners → slice_get owners k ≡ Some old → old.node ≡ new.node → with_changed new owners ≡ slice_set owners k new
unfolding IsDistinct
changed_at [] k old new own at same = absurd (cc)
changed_at (p ∷ owners) zero old new own at same =
    let here : p.node ≡ new.node = ap (λ (o : Owner). o.node) (same_last p old at) ∙ same in
    ap (λ (b : Bool). cond b new p ∷ with_changed new owners) (eq-eqb p.node new.node here) ∙ ap (λ (os : List Owner). new ∷ os) (none_of new p.node owners here own.0)
changed_at (p ∷ owners) (suc k) old new own at same =
    let other : (p.node == new.node) ≡ false = ap (λ (n : ℕ). p.node == n) (sym same) ∙ apart_at p.node owners k old own.0 at in
    ap (λ (b : Bool). cond b new p ∷ with_changed new owners) other ∙ ap (λ (os : List Owner). p ∷ os) (changed_at owners k old new own.1 at same)

module _ {X : Type 0} (f : X → X) where
  pub first_next : (k : ℕ) (xs : List X) (o : X) → slice_get (first_changed f k xs) k ≡ Some o → slice_set (first_changed f k xs) k (f o) ≡ first_changed f (k + 1) xs
  unfolding first_changed
  first_next zero [] o at = absurd (cc)
  first_next zero (x ∷ xs) o at = ap (λ (y : X). f y ∷ xs) (sym (same_last x o at))
  first_next (suc k) [] o at = absurd (cc)
  first_next (suc k) (x ∷ xs) o at =
      let next : suc k + 1 ≡ suc (k + 1) = omega arith in
      ap (λ (ys : List X). f x ∷ ys) (first_next k xs o at) ∙ ap (λ (m : ℕ). first_changed f m (x ∷ xs)) (sym next)

  pub first_length : (k : ℕ) (xs : List X) → length (first_changed f k xs) ≡ length xs
  unfolding first_changed
  first_length zero xs = refl
  first_length (suc k) [] = refl
  first_length (suc k) (x ∷ xs) = ap suc (first_length k xs)

  pub first_all : (xs : List X) → first_changed f (length xs) xs ≡ map f xs
  unfolding first_changed
  first_all [] = refl
  first_all (x ∷ xs) = ap (λ (ys : List X). f x ∷ ys) (first_all xs)

  pub first_none : (xs : List X) → xs ≡ first_changed f 0 xs
  unfolding first_changed
  first_none xs = refl

pub something : {X : Type 0} (xs : List X) (k : ℕ) → k < length xs → (o : X) × (slice_get xs k ≡ Some o)
something [] k less = absurd (omega (arith, less))
something (x ∷ xs) zero less = (x, refl)
something (x ∷ xs) (suc k) less = something xs k (omega (arith, less))

pub set_same : {X : Type 0} (xs : List X) (k : ℕ) (o : X) → slice_get xs k ≡ Some o → slice_set xs k o ≡ xs
set_same [] k o at = absurd (cc)
set_same (x ∷ xs) zero o at = ap (λ (y : _). y ∷ xs) (sym (same_last x o at))
set_same (x ∷ xs) (suc k) o at = ap (λ (ys : List _). x ∷ ys) (set_same xs k o at)

pub remade_next : {X : Type 0} (f : X → X) (k : ℕ) (xs now next : List X) → k < length xs → now ≡ first_changed f k xs → ((o : X) → slice_get now k ≡ Some o → next ≡ slice_set now k (f o))
    → next ≡ first_changed f (k + 1) xs
remade_next {X} f k xs now next less is set =
    let long : k < length now = subst (λ (n : ℕ). k < n) (sym (first_length f k xs) ∙ ap length (sym is)) less in
    let there = something now k long in
    set there.0 there.1 ∙ ap (λ (ys : List X). slice_set ys k (f there.0)) is ∙ first_next f k xs there.0 (ap (λ (ys : List X). slice_get ys k) (sym is) ∙ there.1)

pub none_remade : (space : OldMapContent) (nodes : Nodes) (owners : List Owner) (k : ℕ) (owner : Owner) → slice_get owners k ≡ Some owner → get nodes owner.node ≡ None → IsRemade space nodes owners owners k
none_remade space nodes owners k owner at none = λ o is.
    let same : owner ≡ o = same_last owner o (sym at ∙ is) in
    sym (set_same owners k o is) ∙ ap (slice_set owners k) (sym (ap (λ (x : Option Node). option_map_or (node_owner space o.node) x o) (ap (λ (x : Owner). get nodes x.node) (sym same) ∙ none)))

pub one_remade : (space : OldMapContent) (nodes : Nodes) (owners owners' : List Owner) (k : ℕ) (owner : Owner) (node : Node) → HaveOwnNodes owners → slice_get owners k ≡ Some owner → get nodes owner.node ≡ Some node
    → owners' ≡ with_changed (node_owner space owner.node node) owners → IsRemade space nodes owners owners' k
one_remade space nodes owners owners' k owner node own at there now = λ o is.
    let same : owner ≡ o = same_last owner o (sym at ∙ is) in
    let made : remade space nodes o ≡ node_owner space owner.node node =
    ap (λ (x : Owner). remade space nodes x) (sym same) ∙ ap (λ (x : Option Node). option_map_or (node_owner space owner.node) x owner) there in
    now ∙ changed_at owners k owner (node_owner space owner.node node) own at refl ∙ ap (slice_set owners k) (sym made)

-- what a volume makes of a node is its owner here
pub owner_is : (space : OldMapContent) (layout : Layout) (n : ℕ) (node : Node) (owners : List Owner) → layout ≡ Layout.Old space
    → with_changed (entry_owner layout n node.holder node.entry) owners ≡ with_changed (node_owner space n node) owners
owner_is space layout n node owners is = ap (λ (y : Layout). with_changed (entry_owner y n node.holder node.entry) owners) is

pub owner_known : (owners : List Owner) (k : ℕ) (owner : Owner) (n : ℕ) → slice_get owners k ≡ Some owner → n ≡ owner.node → has_node owners n ≡ true
owner_known [] k owner n at same = absurd (cc)
owner_known (p ∷ owners) zero owner n at same = ap (λ (b : Bool). b || has_node owners n) (eq-eqb p.node n (ap (λ (o : Owner). o.node) (same_last p owner at) ∙ sym same))
owner_known (p ∷ owners) (suc k) owner n at same = ap (λ (b : Bool). (p.node == n) || b) (owner_known owners k owner n at same) ∙ always (p.node == n)
  where
    always : (b : Bool) → (b || true) ≡ true
    always true = refl
    always false = refl

-- ---- both

module _ (s : Slide) (nodes mid now : Nodes) (spares : List Spare) (bound : ℕ) (past : (n : ℕ) → bound ≤ n → get nodes n ≡ None) (r : AreReaddressed (form_of s) (move_of s) nodes mid spares bound) where
  pub both_moved : AreAddressed (form_of s) (move_of s) mid now bound → AreMoved s nodes now
  both_moved a = record {
    each = λ n. elim (cases_lt n bound) [
      | inl less ↦ a.done n less ∙ ap (option_map (addressed (form_of s) (move_of s))) (r.done n less) ∙ twice (get nodes n)
      | inr more ↦ a.left n more ∙ r.left n more ∙ past n more ∙ sym (ap (option_map (node_after (form_of s) (move_of s) nodes)) (past n more))
    ];
    many = a.many ∙ r.many;
  }
    where
      twice : (o : Option Node) → option_map (addressed (form_of s) (move_of s)) (option_map (readdressed_node (form_of s) (move_of s) nodes) o) ≡ option_map (node_after (form_of s) (move_of s) nodes) o
      twice None = refl
      twice (Some node) = refl

  pub both_marked : length spares ≡ bound → MarkChanges s nodes (marks spares)
  both_marked long n node dir is = elim (cases_lt n bound) [
    | inl less ↦
        let x = something spares n (subst (λ (k : ℕ). n < k) (sym long) less) in
        ap (λ (o : Option Spare). option_map_or (λ (spare : Spare). spare.changed) o false) x.1
        ∙ r.told n x.0 less x.1
        ∙ ap (changes_at (form_of s) (move_of s) nodes) is.there
        ∙ ap (is_changed (form_of s) (move_of s) (address_in nodes node.holder)) is.says
    | inr more ↦ let none : Some node ≡ None = sym is.there ∙ past n more in absurd (cc)
  ]

-- as a volume has them
module _ (layout : Layout) (disc map : OldMapContent) (moves : Moves) (nodes mid now : Nodes) (spares : List Spare) (bound : ℕ) (is : layout ≡ Layout.Old disc) (past : (n : ℕ) → bound ≤ n → get nodes n ≡ None)
    (r : AreReaddressed (dir_form layout) (start_after moves.before.items moves.after.items) nodes mid spares bound) where
  all_moved : (bound' : ℕ) → bound' ≡ bound → AreAddressed (dir_form layout) (start_after moves.before.items moves.after.items) mid now bound' → AreMoved (slide_of disc map moves) nodes now
  all_moved bound' same a =
      both_moved (slide_of disc map moves) nodes mid now spares bound past (subst (λ (l : Layout). AreReaddressed (dir_form l) (start_after moves.before.items moves.after.items) nodes mid spares bound) is r)
      (subst (λ (k : ℕ). AreAddressed (form_of (slide_of disc map moves)) (move_of (slide_of disc map moves)) mid now k) same
      (subst (λ (l : Layout). AreAddressed (dir_form l) (start_after moves.before.items moves.after.items) mid now bound') is a))

  all_marked : length spares ≡ bound → MarkChanges (slide_of disc map moves) nodes (marks spares)
  all_marked long =
      both_marked (slide_of disc map moves) nodes mid now spares bound past (subst (λ (l : Layout). AreReaddressed (dir_form l) (start_after moves.before.items moves.after.items) nodes mid spares bound) is r) long

-- So the nodes are readdressed.
pub readdressed_all : (layout : Layout) (map : OldMapContent) (moves : Moves) (nodes mid now : Nodes) (spares : List Spare) (bound : ℕ) → ((n : ℕ) → bound ≤ n → get nodes n ≡ None)
    → AreReaddressed (dir_form layout) (start_after moves.before.items moves.after.items) nodes mid spares bound → length spares ≡ bound
    → (bound' : ℕ) → bound' ≡ bound → AreAddressed (dir_form layout) (start_after moves.before.items moves.after.items) mid now bound' → HasReaddressed layout map moves nodes now spares
readdressed_all layout map moves nodes mid now spares bound past r long bound' same a = record {
  moved = λ disc is. all_moved layout disc map moves nodes mid now spares bound is past r bound' same a;
  marked = λ disc is. all_marked layout disc map moves nodes mid now spares bound is past r long;
}

pub mark_is : (spares : List Spare) (n : ℕ) (x : Spare) (b : Bool) → n < length spares → x ≡ get_or spares n x → x.changed ≡ b → marks spares n ≡ b
mark_is spares n x b less is c = ap (λ (o : Option Spare). option_map_or (λ (spare : Spare). spare.changed) o false) (slice_get_read spares (length spares) n x refl less is) ∙ c

-- what moves fits the field of an address
pub low_moves : (space : OldMapContent) (was now : List Owned) → IsOldMap space → AreBodies space now → IsLow (start_after was now)
low_moves space was now is_map bodies = record { stays = λ a low. moved_low was now (2 ^ 24) a place low; moved = λ a other. other_low was now (2 ^ 24) a place other }
  where
    place : (p : Owned) → Contains now p → p.start < 2 ^ 24
    place p at =
        let n = place_of now p at in
        let inside = (rises space.disc_units space.sector_units 0 now bodies.rise n.0 p n.1).inside in
        let some = (rises space.disc_units space.sector_units 0 now bodies.rise n.0 p n.1).positive in
        let disc = is_map.disc in
        omega (arith, inside, disc, some)
