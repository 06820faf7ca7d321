-- What stays of nodes and owners while a change is taken over.
use Rattle.std.proofs.Common.{◌≡◌, ◌<◌, ◌+◌, ◌==◌, ◌||◌, ℕ, zero, suc, Bool, true, false, cond, List, [], ◌∷◌, Option, Some, None, refl, sym, ap, ap₂, subst, ◌∙◌}
use Rattle.std.specs.Prelude.{IfSome, IsSome, is_none, slice_set}
use Rattle.std.specs.List.{position_or_len}
use Rattle.std.specs.Option.{option_map_or}
use Rattle.std.specs.Cmp.{nat_cmp_total}
use Rattle.std.specs.FinMap.{get, insert as put, get-insert}
use Rattle.std.proofs.lemmas.Bool.{eqb-true}
use Rattle.fc_alloc.specs.declared.owner.Owner.{Owner}
use Rattle.fc_alloc.specs.Owners.{has_node, is_node, with_changed}
use Rattle.fc_drafts.specs.Entries.{regrown}
use Rattle.fc_image.specs.Layout.{Layout}
use Rattle.fc_laws.specs.nodes.Edits.{Nodes, with_edited}
use Rattle.fc_tree.specs.declared.node.Node.{Node}
use Rattle.fc_tree.specs.Slots.{slot_at}
use Rattle.fc_tree.proofs.SlotLemmas.{level}
use Rattle.fc_change.specs.declared.change.Regrowth.{Regrowth}
use Rattle.fc_change.specs.declared.change.Says.{Says}
use Rattle.fc_change.specs.declared.change.Turned.{Turned}
use Rattle.fc_change.specs.declared.change.Turned.TheVariants as turns
use Rattle.fc_change.specs.After.{CanRegrowNode, CanTurnNode, CanTurnOwner, HasPlaceFor, IsRegrownOwner, body_said, gone_in, with_regrown, with_said, with_turned}
use Rattle.fc_change.specs.Owned.{entry_owner, owner_if}
use Rattle.fc_change.proofs.TakingLemmas.{put_stays, said_stays, some_stays}

-- ---- nodes

-- A node that is put back leaves the least free number.
pub same_vacant : (slots : List (Option Node)) (n : ℕ) (node old : Node) → slot_at slots n ≡ Some old → position_or_len is_none (slice_set (slice_set slots n None) n (Some node)) ≡ position_or_len is_none slots
same_vacant [] n node old there = absurd (cc)
same_vacant (None ∷ slots) zero node old there = absurd (cc)
same_vacant (Some m ∷ slots) zero node old there = refl
same_vacant (None ∷ slots) (suc n) node old there = refl
same_vacant (Some m ∷ slots) (suc n) node old there = ap (λ (k : ℕ). 1 + k) (same_vacant slots n node old there)

pub edited_at : (nodes : Nodes) (n : ℕ) (f : Node → Node) (node : Node) → get nodes n ≡ Some node → get (with_edited n f nodes) n ≡ Some (f node)
edited_at nodes n f node there =
    ap (λ (o : Option Node). get (option_map_or (λ (x : Node). put nodes n (f x)) o nodes) n) there
    ∙ get-insert nat_cmp_total nodes n (f node) n ∙ ap (λ (b : Bool). cond b (Some (f node)) (get nodes n)) (level n n refl)

pub regrown_stays : (grown : Option Regrowth) (nodes now : Nodes) (k : ℕ) → now ≡ with_regrown grown nodes → IsSome (get nodes k) → IsSome (get now k)
regrown_stays None nodes now k is some = subst (λ (m : Nodes). IsSome (get m k)) (sym is) some
regrown_stays (Some g) nodes now k is some = some_stays nodes now g.node k (λ (node : Node). record node { entry = regrown node.entry g.address g.len }) is some

pub turned_stays : (object : Turned) (number : ℕ) (nodes now : Nodes) (k : ℕ) → now ≡ with_turned object number nodes → IsSome (get nodes k) → IsSome (get now k)
turned_stays (turns.Comes dir e own) number nodes now k is some =
    subst (λ (m : Nodes). IsSome (get m k)) (sym is) (put_stays nodes number k (record { holder = dir; entry = e; body = body_said own }) some)
turned_stays (turns.Turns n dir e) number nodes now k is some = some_stays nodes now n k (λ (node : Node). record node { holder = dir; entry = e }) is some
turned_stays (turns.Goes n) number nodes now k is some = subst (λ (m : Nodes). IsSome (get m k)) (sym is) some

pub can_turn : (object : Turned) (grown : Option Regrowth) (nodes now : Nodes) (room more : ℕ) → now ≡ with_regrown grown nodes → more ≡ room → CanTurnNode nodes room object → CanTurnNode now more object
can_turn (turns.Comes dir e own) grown nodes now room more is same can = subst (λ (n : ℕ). 0 < n) (sym same) can
can_turn (turns.Turns n dir e) grown nodes now room more is same can = regrown_stays grown nodes now n is can
can_turn (turns.Goes n) grown nodes now room more is same can = regrown_stays grown nodes now n is can

-- The node of an object that goes is there to the end.
pub gone_there : (object : Turned) (grown : Option Regrowth) (said : List Says) (number room : ℕ) (nodes first second now : Nodes) → first ≡ with_regrown grown nodes → second ≡ with_turned object number first
    → now ≡ with_said said second → CanTurnNode nodes room object → IfSome (gone_in object) (λ n. IsSome (get now n))
gone_there (turns.Comes dir e own) grown said number room nodes first second now one two three can = tt
gone_there (turns.Turns n dir e) grown said number room nodes first second now one two three can = tt
gone_there (turns.Goes n) grown said number room nodes first second now one two three can =
    subst (λ (m : Nodes). IsSome (get m n)) (sym three) (said_stays said second n (turned_stays (turns.Goes n) number first second n two (regrown_stays grown nodes first n one can)))

-- ---- owners

same_node : (o p : Owner) (k : ℕ) → is_node k (cond (is_node o.node p) o p) ≡ is_node k p
same_node o p k = by (is_node o.node p) refl
  where
    by : (b : Bool) → is_node o.node p ≡ b → is_node k (cond b o p) ≡ is_node k p
    by true h = ap (λ (n : ℕ). n == k) (sym (eqb-true p.node o.node h))
    by false h = refl

has_changed : (o : Owner) (owners : List Owner) (k : ℕ) → has_node (with_changed o owners) k ≡ has_node owners k
has_changed o [] k = refl
has_changed o (p ∷ owners) k = ap₂ (λ (a b : Bool). a || b) (same_node o p k) (has_changed o owners k)

place_stays : (o : Option Owner) (was now : List Owner) → ((k : ℕ) → has_node now k ≡ has_node was k) → HasPlaceFor o was → HasPlaceFor o now
place_stays None was now same has = tt
place_stays (Some o) was now same has = same o.node ∙ has

turns_with : (object : Turned) (layout : Layout) (was now : List Owner) → ((k : ℕ) → has_node now k ≡ has_node was k) → CanTurnOwner layout was object → CanTurnOwner layout now object
turns_with (turns.Comes dir e own) layout was now same can = tt
turns_with (turns.Turns n dir e) layout was now same can = place_stays (owner_if layout n dir e) was now same can
turns_with (turns.Goes n) layout was now same can = tt

there_is : (o : Option Node) → IsSome o → (x : Node) × (o ≡ Some x)
there_is None some = absurd (cc)
there_is (Some x) some = (x, refl)

pub can_turn_owner : (object : Turned) (grown : Option Regrowth) (layout : Layout) (nodes : Nodes) (was now : List Owner) → CanRegrowNode nodes was grown → IsRegrownOwner layout nodes grown was now
    → CanTurnOwner layout was object → CanTurnOwner layout now object
can_turn_owner object None layout nodes was now can is turns = subst (λ (owners : List Owner). CanTurnOwner layout owners object) (sym is) turns
can_turn_owner object (Some g) layout nodes was now can is turns =
    let at = there_is (get nodes g.node) can.0 in
    let o = entry_owner layout g.node at.0.holder (regrown at.0.entry g.address g.len) in
    turns_with object layout was now (λ k. ap (λ (owners : List Owner). has_node owners k) (is at.0 at.1) ∙ has_changed o was k) turns
