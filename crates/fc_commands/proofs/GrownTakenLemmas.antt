-- What comes to a directory that grows by it can be taken over: each directory that is told something is there, and the grown one has an owner.
use Rattle.std.proofs.Common.{◌≡◌, ◌≤◌, ◌||◌, ⊎_elim, ℕ, Bool, true, false, cond, List, [], ◌∷◌, ◌++◌, refl, sym, ap, subst, ◌∙◌, eq-eqb, Option, Some, None, filter, map}
use Rattle.std.specs.Prelude.{Contains, IsSome, is_some}
use Rattle.std.specs.FinMap.{get}
use Rattle.std.specs.List.{list_any}
use Rattle.std.proofs.lemmas.List.Sorted.{list_any-IsPermutation}
use Rattle.fc_alloc.specs.declared.owner.Owner.{Owner}
use Rattle.fc_alloc.specs.Owners.{has_node, is_node}
use Rattle.fc_dirs.specs.declared.Entry.{Entry}
use Rattle.fc_drafts.specs.declared.draft.Draft.{Draft}
use Rattle.fc_image.specs.Layout.{Layout}
use Rattle.fc_image.specs.Walk.{Listing, Object}
use Rattle.fc_laws.specs.nodes.Edits.{Nodes}
use Rattle.fc_tree.proofs.MemberLemmas.{no_element}
use Rattle.fc_change.specs.declared.change.Change.{Change}
use Rattle.fc_change.specs.declared.change.Regrowth.{Regrowth}
use Rattle.fc_change.specs.declared.change.Says.{Says}
use Rattle.fc_change.specs.declared.change.Turned.{Turned}
use Rattle.fc_change.specs.declared.change.Turned.TheVariants as turns
use Rattle.fc_change.specs.After.{CanRegrowNode, CanTakeOver, CanTurnNode, CanTurnOwner, nodes_more, owners_admitted}
use Rattle.fc_change.specs.Directories.{Rewriting, TellAll, Tells, around}
use Rattle.fc_change.specs.Owned.{owner_if, owners_with_room}
use Rattle.fc_commands.proofs.GrownOwnerLemmas.{IsOwned, cut}
use Rattle.fc_commands.proofs.GrownPreparedLemmas.{IsGrownChange}
use Rattle.fc_tree.specs.Parts.{owner_of}
use Rattle.fc_image.specs.Objects.{has_sectors}
use Rattle.fc_image.proofs.EntriesLemmas.{cases as contains_cases}

one_there : (g : Option Regrowth) (nodes : Nodes) (n : ℕ) (r : Rewriting) (s : Says) → Tells g nodes n r s → IsSome (get nodes s.node)
one_there g nodes n r s is = ap (λ (k : ℕ). is_some (get nodes k)) is.number ∙ ap is_some is.there

told_there : (g : Option Regrowth) (nodes : Nodes) (qs : List (ℕ × Rewriting)) (ss : List Says) (s : Says) → TellAll g nodes qs ss → Contains ss s → IsSome (get nodes s.node)
told_there g nodes [] [] s is at = absurd (no_element s at)
told_there g nodes [] (t ∷ ss) s is at = absurd is
told_there g nodes (q ∷ qs) [] s is at = absurd is
told_there g nodes (q ∷ qs) (t ∷ ss) s is at =
    ⊎_elim (λ same. subst (λ (x : Says). IsSome (get nodes x.node)) same (one_there g nodes q.0 q.1 t is.0)) (λ later. told_there g nodes qs ss s is.1 later) (contains_cases t s ss at)

-- An owner that is there stays with room for one more.
pub still_there : (o : Option Owner) (owners : List Owner) (n : ℕ) → has_node owners n ≡ true → has_node (owners_with_room o owners) n ≡ true
still_there None owners n there = there
still_there (Some w) owners n there = by (has_node owners w.node)
  where
    more : (ws : List Owner) → list_any (is_node n) ws ≡ true → list_any (is_node n) (ws ++ w ∷ []) ≡ true
    more [] e = absurd (cc)
    more (x ∷ ws) e = either (is_node n x) e (more ws)
      where
        either : (b : Bool) → (b || list_any (is_node n) ws) ≡ true → (list_any (is_node n) ws ≡ true → list_any (is_node n) (ws ++ w ∷ []) ≡ true) → (b || list_any (is_node n) (ws ++ w ∷ [])) ≡ true
        either true f next = refl
        either false f next = next f

    by : (b : Bool) → has_node (cond b owners (owners ++ w ∷ [])) n ≡ true
    by true = there
    by false = more owners there

owns_it : (layout : Layout) (nodes : Nodes) (owners : List Owner) (listings : List Listing) (o : Object) (stay : List Object) (up n : ℕ) → IsOwned layout nodes owners listings o stay up n → has_node owners n ≡ true
owns_it layout nodes owners listings o stay up n is =
    list_any-IsPermutation (is_node n) owners _ (cut layout nodes owners listings o stay up n is) ∙ ap (λ (b : Bool). b || list_any (is_node n) (map (owner_of nodes layout) (filter has_sectors stay))) (eq-eqb n n refl)

pub can_take_over : (before layout : Layout) (nodes : Nodes) (owners : List Owner) (listings : List Listing) (l : Listing) (stay : List Object) (up : ℕ) (e : Entry) (g : Regrowth) (c : Change) (own : Option Draft) (number room : ℕ)
    → IsGrownChange nodes e g c → c.object ≡ turns.Comes g.node e own → IsOwned before nodes owners listings l.object stay up g.node → IsSome (get nodes g.node) → nodes_more c.object ≤ room
    → CanTakeOver layout nodes (owners_admitted before c.object number owners) room c
can_take_over before layout nodes owners listings l stay up e g c own number room ch comes owned there some = record {
  says = λ s at. ⊎_elim
      (λ same. subst (λ (x : Says). IsSome (get nodes x.node)) same (one_there (Some g) nodes g.node (Rewriting.Enters e) ch.said ch.tells))
      (λ later. told_there (Some g) nodes (around (Some g) nodes (g.node ∷ [])) ch.others s ch.tell later) (contains_cases ch.said s ch.others (subst (λ (ss : List Says). Contains ss s) ch.says at));
  object = subst (CanTurnNode nodes room) (sym comes) (subst (λ (t : Turned). nodes_more t ≤ room) comes some);
  owner = subst (λ (t : Turned). CanTurnOwner layout (owners_admitted before c.object number owners) t) (sym comes) tt;
  grown = subst (CanRegrowNode nodes (owners_admitted before c.object number owners)) (sym ch.grown) (
    there,
    ap (λ (t : Turned). has_node (owners_admitted before t number owners) g.node) comes
        ∙ still_there (owner_if before number g.node e) owners g.node (owns_it before nodes owners listings l.object stay up g.node owned),
  );
}
