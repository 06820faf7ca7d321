-- Where the owner of a node stands.
use Rattle.std.proofs.Common.{◌≡◌, ◌≢◌, ◌<◌, ◌≤◌, ℕ, ◌+◌, ◌-◌, inl, inr, true, false, List, [], ◌∷◌, ◌++◌, length, map, refl, sym, ap, subst, ◌∙◌, get_or, set, eqb, arith, length-append, Contains, IsPermutation, if◌then◌else◌}
use Rattle.std.specs.List.{HoldsAt, swap_remove}
use Rattle.std.proofs.lemmas.Bool.{cases_eq, eqb-true, eq-eqb, ne_eqb}
use Rattle.std.proofs.lemmas.List.{get_or-set_same, get_or-set_other, length-set, length-map, get_or_default, get_or-map, ext_get_or, get_or_append_left}
use Rattle.std.proofs.Math.Seq.{get_or-append_seam}
use Rattle.std.proofs.lemmas.List.Folds.{Any-from_list_any, list_any_at}
use Rattle.std.proofs.lemmas.List.Sorted.{IsPermutation-swap_remove}
use Rattle.std.proofs.lemmas.Map.Keys.{IsDistinct-from_apart}
use Rattle.fc_alloc.specs.declared.owner.Owner.{Owner}
use Rattle.fc_alloc.specs.Owners.{is_node, has_node, with_changed, HaveOwnNodes}
use Rattle.fc_alloc.specs.Index.{ArePlaces}

-- an owner with 0 in each field, where a list is read that has none
abbrev pub blank : Owner
blank = record { id = 0; dir = 0; node = 0; file = false; low = 0; first = 0; sectors = 0 }

-- the table leads to the owner of a node that has one
pub found_place : (owners : List Owner) (places : List ℕ) (node : ℕ) → ArePlaces owners places → has_node owners node ≡ true
    → (node < length places) × (get_or places node 0 < length owners) × HoldsAt (λ o. o.node ≡ node) owners (get_or places node 0)
found_place owners places node placed has =
    let any = Any-from_list_any (is_node node) owners has in
    let is : any.1.node ≡ node = eqb-true any.1.node node any.4 in
    let at = placed any.0 any.1 any.2 in
    let own : (get_or owners any.0 any.1).node ≡ node = ap (λ (o : Owner). o.node) any.3 ∙ is in
    let place : get_or places node 0 ≡ any.0 = rw own at at.1 in
    (rw own at at.0, rw place any.2, λ d. rw place (ap (λ (o : Owner). o.node) (get_or_default owners any.0 d any.1 any.2) ∙ own))

-- where the table leads is the owner's place
pub at_place : (owners : List Owner) (places : List ℕ) (node place : ℕ) → ArePlaces owners places → has_node owners node ≡ true → place ≡ get_or places node place
    → (place < length owners) × HoldsAt (λ o. o.node ≡ node) owners place
at_place owners places node place placed has is =
    let found = found_place owners places node placed has in
    let shown : get_or places node 0 ≡ place = sym (is ∙ get_or_default places node place 0 found.0) in
    (rw shown at found.1, λ d. rw shown at (found.2 d))

-- the owner at a place is in the list
pub node_at : (owners : List Owner) (k node : ℕ) (d : Owner) → k < length owners → (get_or owners k d).node ≡ node → has_node owners node ≡ true
node_at owners k node d within is = list_any_at (is_node node) owners k d within (eq-eqb _ _ is)

-- an owner of a new node is put after the others
pub places_push : (owners : List Owner) (places : List ℕ) (o : Owner) → ArePlaces owners places → has_node owners o.node ≡ false → o.node < length places
    → ArePlaces (owners ++ o ∷ []) (set places o.node (length owners))
places_push owners places o placed absent room k d within =
    elim (cases_eq k (length owners)) [
      | inl last ↦
          let shown : get_or (owners ++ o ∷ []) k d ≡ o = rw last (get_or-append_seam owners o [] d) in
          rw (shown, length-set) (room, rw last (get_or-set_same places o.node (length owners) 0 room))
      | inr other ↦
          let before : k < length owners = omega (arith, within, length-append owners (o ∷ [])) in
          let shown : get_or (owners ++ o ∷ []) k d ≡ get_or owners k d = get_or_append_left owners (o ∷ []) d k before in
          let apart : (get_or owners k d).node ≢ o.node = λ e. (let bad : true ≡ false = sym (node_at owners k o.node d before e) ∙ absent in cc) in
          let at = placed k d before in
          rw (shown, length-set) (at.0, get_or-set_other places o.node (get_or owners k d).node (length owners) 0 apart ∙ at.1)
    ]

-- the table grows
pub places_grown : (owners : List Owner) (places more : List ℕ) → ArePlaces owners places → ArePlaces owners (places ++ more)
places_grown owners places more placed k d within =
    let at = placed k d within in
    (omega (arith, at.0, length-append places more), get_or_append_left places more 0 (get_or owners k d).node at.0 ∙ at.1)

-- the last owner has taken the place of one that was taken out
pub places_moved : (owners left : List Owner) (places : List ℕ) (place : ℕ) (moved : Owner) → ArePlaces owners places → length left + 1 ≡ length owners → place < length left
    → ((d : Owner) → get_or left place d ≡ get_or owners (length owners - 1) d)
    → ((k : ℕ) (d : Owner) → k ≢ place → k + 1 < length owners → get_or left k d ≡ get_or owners k d)
    → moved ≡ get_or left place moved
    → ArePlaces left (set places moved.node place)
places_moved owners left places place moved placed size inside last others is k d within =
    let end : length owners - 1 < length owners = omega arith in
    let home = placed (length owners - 1) moved end in
    let node : (get_or owners (length owners - 1) moved).node ≡ moved.node = ap (λ (o : Owner). o.node) (sym (is ∙ last moved)) in
    let room : moved.node < length places = rw node at home.0 in
    let stood : get_or places moved.node 0 ≡ length owners - 1 = rw node at home.1 in
    elim (cases_eq k place) [
      | inl here ↦
          let shown : get_or left k d ≡ moved = rw here (get_or_default left place d moved inside ∙ sym is) in
          rw (shown, length-set) (room, rw here (get_or-set_same places moved.node place 0 room))
      | inr other ↦
          let shown : get_or left k d ≡ get_or owners k d = others k d other (omega arith) in
          let at = placed k d (omega arith) in
          let apart : (get_or owners k d).node ≢ moved.node = λ e. (let same : k ≡ length owners - 1 = sym at.1 ∙ (ap (λ n. get_or places n 0) e ∙ stood) in absurd (omega arith)) in
          rw (shown, length-set) (at.0, get_or-set_other places moved.node (get_or owners k d).node place 0 apart ∙ at.1)
    ]

-- the last owner was taken out
pub places_cut : (owners left : List Owner) (places : List ℕ) (place : ℕ) → ArePlaces owners places → length left + 1 ≡ length owners → length left ≤ place
    → ((k : ℕ) (d : Owner) → k ≢ place → k + 1 < length owners → get_or left k d ≡ get_or owners k d)
    → ArePlaces left places
places_cut owners left places place placed size past others k d within =
    let shown : get_or left k d ≡ get_or owners k d = others k d (omega arith) (omega arith) in
    rw shown (placed k d (omega arith))

-- an owner is replaced by one of the same node
pub places_changed : (owners : List Owner) (places : List ℕ) (place : ℕ) (o : Owner) → ArePlaces owners places → HoldsAt (λ p. p.node ≡ o.node) owners place
    → ArePlaces (set owners place o) places
places_changed owners places place o placed same k d within =
    let inside : k < length owners = rw length-set at within in
    let at = placed k d inside in
    elim (cases_eq k place) [
      | inl here ↦
          let shown : get_or (set owners place o) k d ≡ o = rw here (get_or-set_same owners place o d (rw here at inside)) in
          let node : (get_or owners k d).node ≡ o.node = rw here (same d) in
          rw shown (rw node at at)
      | inr other ↦ rw (get_or-set_other owners place k o d other) at
    ]

-- what stands at one place of a list of numbers stands at no other
pub place_unique : (owners : List Owner) (places : List ℕ) (i j : ℕ) (d e : Owner) → ArePlaces owners places → i < length owners → j < length owners
    → (get_or owners i d).node ≡ (get_or owners j e).node → i ≡ j
place_unique owners places i j d e placed first second same =
    sym (placed i d first).1 ∙ (ap (λ n. get_or places n 0) same ∙ (placed j e second).1)

-- no two owners are of one node
pub own_nodes : (owners : List Owner) (places : List ℕ) → ArePlaces owners places → HaveOwnNodes owners
own_nodes owners places placed =
    IsDistinct-from_apart eqb (map (λ (o : Owner). o.node) owners) (λ i j d order within.
    let inside : j < length owners = rw length-map at within in
    rw (get_or-map (λ (o : Owner). o.node) owners i blank d (omega arith), get_or-map (λ (o : Owner). o.node) owners j blank d inside)
    (ne_eqb (get_or owners i blank).node (get_or owners j blank).node (λ same.
    let one : i ≡ j = place_unique owners places i j blank blank placed (omega arith) inside same in absurd (omega arith))))

-- a write at the place of a node's owner is the list with this owner changed
pub changed : (owners : List Owner) (places : List ℕ) (place : ℕ) (o : Owner) → ArePlaces owners places → place < length owners → HoldsAt (λ p. p.node ≡ o.node) owners place
    → set owners place o ≡ with_changed o owners
changed owners places place o placed inside same =
    ext_get_or o (set owners place o) (with_changed o owners) (rw (length-set, length-map) refl) (λ i within.
    let room : i < length owners = rw length-set at within in
    rw (get_or-map (λ (p : Owner). if is_node o.node p then o else p) owners i o o room) (elim (cases_eq i place) [
      | inl here ↦
          let test : eqb (get_or owners i o).node o.node ≡ true = eq-eqb _ _ (rw here (same o)) in
          rw test (rw here (get_or-set_same owners place o o inside))
      | inr other ↦
          let test : eqb (get_or owners i o).node o.node ≡ false = ne_eqb _ _ (λ e. other (place_unique owners places i place o o placed room inside (e ∙ sym (same o)))) in
          rw test (get_or-set_other owners place i o o other)
    ]))

-- the owner of the node is the one that was taken out
pub taken_out : (owners : List Owner) (places : List ℕ) (place : ℕ) (removed o : Owner) → ArePlaces owners places → place < length owners
    → removed ≡ get_or owners place removed → removed.node ≡ o.node → Contains owners o
    → IsPermutation owners (o ∷ swap_remove owners place removed)
taken_out owners places place removed o placed inside is same has =
    let one : place ≡ has.0 = place_unique owners places place has.0 removed o placed inside has.1 (ap (λ (p : Owner). p.node) (sym is) ∙ (same ∙ ap (λ (p : Owner). p.node) (sym has.2))) in
    let it : removed ≡ o = is ∙ (rw one (get_or_default owners has.0 removed o has.1) ∙ has.2) in
    subst (λ (x : Owner). IsPermutation owners (x ∷ swap_remove owners place removed)) it (IsPermutation-swap_remove owners place removed inside is)
