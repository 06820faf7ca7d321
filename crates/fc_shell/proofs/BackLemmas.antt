-- Which identifiers a command on a new map may give back: those that only objects own which it lets leave their places.
use Rattle.std.proofs.Common.{◌≡◌, ◌==◌, ◌||◌, ◌&&◌, not, inl, inr, ℕ, Bool, true, false, cond, List, [], ◌∷◌, ◌++◌, map, filter, Option, Some, None, refl, sym, ap, ap₂, subst, ◌∙◌, arith, eq-eqb}
use Rattle.std.specs.Prelude.{Contains, IsPermutation, ◌*◌, ◌/◌}
use Rattle.std.specs.List.{list_all, list_any}
use Rattle.std.specs.Option.{option_and_then}
use Rattle.std.proofs.lemmas.Bool.{and_parts, eqb-true, false_from_ne_true as unless, not-true, or_parts}
use Rattle.std.proofs.lemmas.List.Elements.{Contains-append_cases}
use Rattle.std.proofs.lemmas.List.Sorted.{Contains-permutation, IsPermutation-sym}
use Rattle.fc_alloc.specs.declared.owner.Owner.{Owner}
use Rattle.fc_newmap.specs.Map.{Map, is_used}
use Rattle.fc_model.specs.Command.{Command}
use Rattle.fc_image.specs.Layout.{Layout, id_of}
use Rattle.fc_image.specs.Objects.{has_sectors, is_owned, is_owner_of, objects_of}
use Rattle.fc_image.specs.Opening.{Opened}
use Rattle.fc_image.specs.Sound.{AreSound}
use Rattle.fc_image.specs.Walk.{Object}
use Rattle.fc_image.proofs.PathsLemmas.{itself}
use Rattle.fc_changes.specs.Owed.{GivesBack}
use Rattle.fc_changes.proofs.BasicLemmas.{any_in, first_in, in_any, next_in}
use Rattle.fc_commands.proofs.GrownAroundLemmas.{one_first}
use Rattle.fc_edits.proofs.lemmas.ShapeLemmas.{only}
use Rattle.fc_commands.proofs.OwnerLemmas as owner_lemmas
use Rattle.fc_placing.specs.Leaving.{LeavesIds, OwnOnly, has_other}
use Rattle.fc_plan.specs.Giving.{is_one_of}
use Rattle.fc_runs.specs.Space.{may_go_back, may_leave}
use Rattle.fc_tree.proofs.MemberLemmas.{in_filter, in_map}
use Rattle.fc_tree.proofs.SoundLemmas.{same_object}
use Rattle.fc_tree.specs.Parts.{ArePartsOf, AreOwners, Parts, owner_of}
use Rattle.fc_change.specs.GrownSpace.{has_rest, is_file, left_by_growth, left_of}
use Rattle.fc_shell.proofs.NeedLemmas.{IsLeaver}

-- ---- tests

all_in : {X : Type 0} (t : X → Bool) (xs : List X) → ((x : X) → Contains xs x → t x ≡ true) → list_all t xs ≡ true
all_in t [] each = refl
all_in t (x ∷ xs) each = ap₂ (λ (a b : Bool). a && b) (each x (first_in x xs)) (all_in t xs (λ y at. each y (next_in x y xs at)))

three : (a b c : Bool) → a ≡ true → b ≡ true → c ≡ true → (a && b && c) ≡ true
three a b c p q r = ap₂ (λ (x y : Bool). x && y && c) p q ∙ r

pub true_false : (b : Bool) → b ≡ true → b ≡ false → ⊥
true_false b p q = (let clash = sym p ∙ q in cc)

either_or : (a b : Bool) → (a && (not b)) ≡ false → a ≡ true → b ≡ true
either_or true true e p = refl
either_or true false e p = absurd (cc)
either_or false b e p = absurd (cc)

module _ (h : Parts) (v : Opened) (c : Command) (sound : AreSound v.layout v.listings) (parts : ArePartsOf h v) where
  abbrev objects : List Object
  objects = objects_of v.listings

  abbrev as_owner : Object → Owner
  as_owner = owner_of h.nodes v.layout

  -- An object of a leaver's node is the leaver.
  is_leaver : (n : ℕ) (l : IsLeaver h v c n) (p : Object) → Contains (objects_of v.listings) p → (owner_of h.nodes v.layout p).node ≡ n → may_leave v c p ≡ true
  is_leaver n l p at e =
      let same : p ≡ l.object =
      same_object v.layout v.listings sound l.object.path p l.object at l.there
      (owner_lemmas.same_path v.layout h.nodes v.listings h.owners l.object n sound parts.nodes parts.owners l.number l.there p at e) (itself l.object.path) in
      subst (λ (o : Object). may_leave v c o ≡ true) (sym same) l.leaves

  -- Only objects that may leave own the identifier, and one does.
  pub goes_back : (id : ℕ) → (id == 2) ≡ false → (o : Object) → Contains (objects_of v.listings) o → is_owner_of id o ≡ true
      → ((p : Object) → Contains (objects_of v.listings) p → is_owner_of id p ≡ true → may_leave v c p ≡ true) → may_go_back v c id ≡ true
  goes_back id other o there own each =
      three (not (id == 2)) (list_any (is_owner_of id) (objects_of v.listings)) (list_all (λ p. not (is_owner_of id p) || may_leave v c p) (objects_of v.listings)) (ap not other)
      (any_in (is_owner_of id) (objects_of v.listings) o there own)
      (all_in (λ p. not (is_owner_of id p) || may_leave v c p) (objects_of v.listings) (λ p at. by p at (is_owner_of id p) refl))
    where
      by : (p : Object) → Contains (objects_of v.listings) p → (b : Bool) → is_owner_of id p ≡ b → (not b || may_leave v c p) ≡ true
      by p at true e = each p at e
      by p at false e = refl

  -- its owner is among the owners
  owner_in : (p : Object) → Contains (objects_of v.listings) p → has_sectors p ≡ true → Contains h.owners (owner_of h.nodes v.layout p)
  owner_in p at some =
      Contains-permutation (map as_owner (filter has_sectors objects)) h.owners (as_owner p) (IsPermutation-sym h.owners (map as_owner (filter has_sectors objects)) parts.owners)
      (in_map as_owner (filter has_sectors objects) p (in_filter has_sectors objects p at some))

  -- ---- by owners

  -- Each owner of the identifier is that of a leaver.
  by_owners : (n : ℕ) (l : IsLeaver h v c n) → has_sectors l.object ≡ true → (id_of l.object.entry.address == 2) ≡ false
      → ((k : Owner) → Contains h.owners k → k.id ≡ id_of l.object.entry.address → IsLeaver h v c k.node) → may_go_back v c (id_of l.object.entry.address) ≡ true
  by_owners n l some other each =
      let id = id_of l.object.entry.address in
      goes_back id other l.object l.there (ap₂ (λ (a b : Bool). a && b) some (eq-eqb id id refl))
      (λ p at own.
      let both = and_parts (has_sectors p) (id_of p.entry.address == id) own in
      is_leaver (as_owner p).node (each (as_owner p) (owner_in p at both.0) (eqb-true (id_of p.entry.address) id both.1)) p at refl)

  -- a directory alone in its identifier
  pub alone_back : (n : ℕ) (l : IsLeaver h v c n) → has_sectors l.object ≡ true → (id_of l.object.entry.address == 2) ≡ false → has_other h.owners n (id_of l.object.entry.address) ≡ false
      → may_go_back v c (id_of l.object.entry.address) ≡ true
  alone_back n l some other none = by_owners n l some other (λ k at is. subst (IsLeaver h v c) (sym (own k at is)) l)
    where
      own : (k : Owner) → Contains h.owners k → k.id ≡ id_of l.object.entry.address → k.node ≡ n
      own k at is =
          let fails : ((k.id == id_of l.object.entry.address) && not (k.node == n)) ≡ false =
          unless ((k.id == id_of l.object.entry.address) && not (k.node == n)) (λ e. true_false (has_other h.owners n (id_of l.object.entry.address))
          (any_in (λ (o : Owner). (o.id == id_of l.object.entry.address) && not (o.node == n)) h.owners k at e) none) in
          eqb-true k.node n (either_or (k.id == id_of l.object.entry.address) (k.node == n) fails (eq-eqb k.id (id_of l.object.entry.address) is))

  -- a directory that leaves its identifier to none but a file that is copied
  pub freed_back : (n : ℕ) (l : IsLeaver h v c n) (copied : Option ℕ) → ((f : ℕ) → copied ≡ Some f → IsLeaver h v c f) → (id : ℕ) → left_by_growth h.owners n copied ≡ Some id → may_go_back v c id ≡ true
  freed_back n l copied files id is = by (has_sectors l.object) refl (left_here ∙ is)
    where
      own : Owner
      own = owner_of h.nodes v.layout l.object

      left_here : option_and_then (left_of h.owners n copied) (cond (has_sectors l.object) (Some (owner_of h.nodes v.layout l.object)) None) ≡ left_by_growth h.owners n copied
      left_here = sym (ap (option_and_then (left_of h.owners n copied)) (owner_lemmas.owner_is v.layout h.nodes v.listings h.owners l.object n sound parts.nodes parts.owners l.number l.there))

      owned_by : (k : Owner) → Contains h.owners k → k.id ≡ (owner_of h.nodes v.layout l.object).id → has_rest h.owners n copied (owner_of h.nodes v.layout l.object).id ≡ false → IsLeaver h v c k.node
      owned_by k at same none =
          let fails : ((k.id == own.id) && (not (k.node == n) && not (is_file copied k.node))) ≡ false =
          unless ((k.id == own.id) && (not (k.node == n) && not (is_file copied k.node))) (λ e. true_false (has_rest h.owners n copied own.id)
          (any_in (λ (o : Owner). (o.id == own.id) && (not (o.node == n) && not (is_file copied o.node))) h.owners k at e) none) in
          which (k.node == n) refl (is_file copied k.node) refl
          (ap (λ (b : Bool). b && (not (k.node == n) && not (is_file copied k.node))) (sym (eq-eqb k.id own.id same)) ∙ fails)
        where
          file : (o : Option ℕ) → copied ≡ o → is_file o k.node ≡ true → IsLeaver h v c k.node
          file None e f = absurd (cc)
          file (Some q) e f = subst (IsLeaver h v c) (sym (eqb-true k.node q f)) (files q e)

          which : (a : Bool) → (k.node == n) ≡ a → (b : Bool) → is_file copied k.node ≡ b → (not a && not b) ≡ false → IsLeaver h v c k.node
          which true e b f fails = subst (IsLeaver h v c) (sym (eqb-true k.node n e)) l
          which false e true f fails = file copied refl f
          which false e false f fails = absurd (cc)

      then : (two rest : Bool) → (own.id == 2) ≡ two → has_rest h.owners n copied own.id ≡ rest → has_sectors l.object ≡ true → (let q : Option ℕ = cond (two || rest) None (Some own.id) in q) ≡ Some id → may_go_back v c id ≡ true
      then true rest e f some q = absurd (cc)
      then false true e f some q = absurd (cc)
      then false false e f some q =
          let same : own.id ≡ id = one own.id id q in
          subst (λ (k : ℕ). may_go_back v c k ≡ true) same (by_owners n l some e (λ k at is. owned_by k at is f))
        where
          one : (a b : ℕ) → (let o : Option ℕ = Some a in o) ≡ Some b → a ≡ b
          one a b e = cc

      by : (b : Bool) → has_sectors l.object ≡ b → option_and_then (left_of h.owners n copied) (cond b (Some (owner_of h.nodes v.layout l.object)) None) ≡ Some id → may_go_back v c id ≡ true
      by false empty e = absurd (cc)
      by true some e = then (own.id == 2) (has_rest h.owners n copied own.id) refl refl some e

  -- ---- by what the map's law says of an object that goes

  module _ (m : Map) (at : v.layout ≡ Layout.New m) where
    left_back : (n : ℕ) (l : IsLeaver h v c n) (gone : List ℕ) (new stay : List Object) → IsPermutation (objects_of v.listings) (l.object ∷ stay) → GivesBack m gone (objects_of v.listings) (new ++ stay) → (id : ℕ)
        → is_used m id ≡ true → is_one_of gone id ≡ true → may_go_back v c id ≡ true
    left_back n l gone new stay order gives id used goes =
        let given : (is_owned objects id && not (is_owned (new ++ stay) id)) ≡ true = sym (gives.exactly id used) ∙ goes in
        let both = and_parts (is_owned objects id) (not (is_owned (new ++ stay) id)) given in
        let none = or_parts (id == 2) (list_any (is_owner_of id) (new ++ stay)) (not-true (is_owned (new ++ stay) id) both.1) in
        let some = in_any (is_owner_of id) objects (ap (λ (b : Bool). b || list_any (is_owner_of id) objects) (sym none.0) ∙ both.0) in
        goes_back id none.0 some.0 some.1 some.2 (λ p in_p own. leaves p in_p own none.1)
      where
        leaves : (p : Object) → Contains (objects_of v.listings) p → is_owner_of id p ≡ true → list_any (is_owner_of id) (new ++ stay) ≡ false → may_leave v c p ≡ true
        leaves p in_p own none =
            elim (Contains-append_cases (l.object ∷ []) stay p (Contains-permutation objects (l.object ∷ stay) p order in_p)) [
              | inl first ↦ subst (λ (o : Object). may_leave v c o ≡ true) (only l.object p first) l.leaves
              | inr more ↦ absurd (true_false (list_any (is_owner_of id) (new ++ stay)) (any_in (is_owner_of id) (new ++ stay) p (behind new more) own) none)
            ]
          where
            behind : (xs : List Object) → Contains stay p → Contains (xs ++ stay) p
            behind [] q = q
            behind (x ∷ xs) q = next_in x p (xs ++ stay) (behind xs q)

    -- An object that owns the identifier that is kept, and no other. (It stands for the one that comes.)
    keeper : Object → Option ℕ → List Object
    keeper o None = []
    keeper o (Some id) = record { path = o.path; entry = record o.entry { address = 256 * id }; sectors = 0 ∷ [] } ∷ []

    keeps : (o : Object) (kept : Option ℕ) → OwnOnly m kept (keeper o kept)
    unfolding keeper
    keeps o None id used = refl
    keeps o (Some k) id used = ap (λ (b : Bool). b || false) (ap (λ (n : ℕ). n == id) (whole k)) ∙ or_false (k == id)
      where
        whole : (k : ℕ) → 256 * k / 256 ≡ k
        whole k = omega arith

        or_false : (b : Bool) → (b || false) ≡ b
        or_false true = refl
        or_false false = refl

    -- an object that goes
    pub gone_back : (n : ℕ) (l : IsLeaver h v c n) (kept : Option ℕ) (gone : List ℕ) → LeavesIds h.owners n kept gone → (id : ℕ) → is_used m id ≡ true → is_one_of gone id ≡ true → may_go_back v c id ≡ true
    gone_back n l kept gone leaves id used goes =
        let rest = one_first (objects_of v.listings) l.object l.there in
        left_back n l gone (keeper l.object kept) rest.0 rest.1
        (leaves m h.nodes v.listings l.object rest.0 (keeper l.object kept) (subst (λ (x : Layout). AreSound x v.listings) at sound) parts.nodes
        (subst (λ (x : Layout). AreOwners h.owners h.nodes x (objects_of v.listings)) at parts.owners) l.number rest.1 (keeps l.object kept)) id used goes
