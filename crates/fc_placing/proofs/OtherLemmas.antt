-- How many owners have an identifier besides that of a node.
use Rattle.std.proofs.Common.{◌≡◌, ◌&&◌, ◌==◌, ℕ, ◌+◌, Bool, true, false, cond, count_by, nat_lt, List, [], ◌∷◌, map, refl, sym, ap, ap₂, ◌∙◌, arith, Some, eq-eqb}
use Rattle.std.specs.Prelude.{not, nat_eq}
use Rattle.std.specs.List.{AllByRecursion, IsDistinct, find}
use Rattle.std.specs.Option.{option_map_or}
use Rattle.std.proofs.lemmas.Bool.{eqb-true, ne_eqb}
use Rattle.std.proofs.lemmas.Bool.Decides.{nat_tests}
use Rattle.std.proofs.lemmas.List.Sums.{sum_by-cons}
use Rattle.fc_alloc.specs.declared.owner.Owner.{Owner}
use Rattle.fc_alloc.specs.Owners.{HaveOwnNodes, is_node, owns}
use Rattle.fc_alloc.proofs.CountLemmas.{any_counted}
use Rattle.fc_placing.specs.Leaving.{has_other}

-- an owner of another node has the identifier
abbrev other : ℕ → ℕ → Owner → Bool
other node id o = (o.id == id) && not (o.node == node)

-- the owner of the node has the identifier
abbrev pub has_id : List Owner → ℕ → ℕ → Bool
has_id owners node id = option_map_or (owns id) (find (is_node node) owners) false

-- of owners of other nodes all that have the identifier count
none_of : (owners : List Owner) (node id n : ℕ) → n ≡ node → AllByRecursion (λ m. nat_eq n m ≡ false) (map (λ o. o.node) owners)
    → count_by (owns id) owners ≡ count_by (other node id) owners
none_of [] node id n is apart = refl
none_of (o ∷ owners) node id n is apart =
    let away : (o.node == node) ≡ false = ne_eqb o.node node (λ e. let same : nat_eq n o.node ≡ true = eq-eqb n o.node (is ∙ sym e) in let bad : true ≡ false = sym same ∙ apart.0 in cc) in
    let here : other node id o ≡ owns id o = ap (λ b. (o.id == id) && not b) away ∙ and_true (o.id == id) in
    sum_by-cons (λ p. cond (owns id p) 1 0) o owners
    ∙ ap₂ (λ (b : Bool) (n : ℕ). cond b 1 0 + n) (sym here) (none_of owners node id n is apart.1)
    ∙ sym (sum_by-cons (λ p. cond (other node id p) 1 0) o owners)
  where
    and_true : (b : Bool) → (b && true) ≡ b
    and_true true = refl
    and_true false = refl

-- Those that have the identifier are the others, and perhaps the owner of the node.
counted : (owners : List Owner) (node id : ℕ) → HaveOwnNodes owners → count_by (owns id) owners ≡ count_by (other node id) owners + cond (has_id owners node id) 1 0
unfolding IsDistinct
counted [] node id own = refl
counted (o ∷ owners) node id own = by (o.node == node) refl (counted owners node id own.1)
  where
    and_true : (b : Bool) → (b && true) ≡ b
    and_true true = refl
    and_true false = refl

    and_false : (b : Bool) → (b && false) ≡ false
    and_false true = refl
    and_false false = refl

    total : count_by (owns id) (o ∷ owners) ≡ cond (owns id o) 1 0 + count_by (owns id) owners
    total = sum_by-cons (λ p. cond (owns id p) 1 0) o owners

    others : count_by (other node id) (o ∷ owners) ≡ cond (other node id o) 1 0 + count_by (other node id) owners
    others = sum_by-cons (λ p. cond (other node id p) 1 0) o owners

    by : (b : Bool) → (o.node == node) ≡ b → count_by (owns id) owners ≡ count_by (other node id) owners + cond (has_id owners node id) 1 0
        → count_by (owns id) (o ∷ owners) ≡ count_by (other node id) (o ∷ owners) + cond (option_map_or (owns id) (cond (o.node == node) (Some o) (find (is_node node) owners)) false) 1 0
    by true e next =
        let none : other node id o ≡ false = ap (λ b. (o.id == id) && not b) e ∙ and_false (o.id == id) in
        let rest : count_by (owns id) owners ≡ count_by (other node id) owners = none_of owners node id o.node (eqb-true o.node node e) own.0 in
        let left : count_by (other node id) (o ∷ owners) ≡ count_by (other node id) owners = others ∙ ap (λ b. cond b 1 0 + count_by (other node id) owners) none ∙ omega arith in
        let value : option_map_or (owns id) (cond (o.node == node) (Some o) (find (is_node node) owners)) false ≡ owns id o = ap (λ b. option_map_or (owns id) (cond b (Some o) (find (is_node node) owners)) false) e in
        total ∙ ap (λ n. cond (owns id o) 1 0 + n) (rest ∙ sym left) ∙ omega arith
        ∙ ap (λ b. count_by (other node id) (o ∷ owners) + cond b 1 0) (sym value)
    by false e next =
        let here : other node id o ≡ owns id o = ap (λ b. (o.id == id) && not b) e ∙ and_true (o.id == id) in
        let value : option_map_or (owns id) (cond (o.node == node) (Some o) (find (is_node node) owners)) false ≡ has_id owners node id = ap (λ b. option_map_or (owns id) (cond b (Some o) (find (is_node node) owners)) false) e in
        let left : count_by (other node id) (o ∷ owners) ≡ cond (owns id o) 1 0 + count_by (other node id) owners = others ∙ ap (λ b. cond b 1 0 + count_by (other node id) owners) here in
        total ∙ ap (λ n. cond (owns id o) 1 0 + n) next ∙ omega (arith, left)
        ∙ ap (λ b. count_by (other node id) (o ∷ owners) + cond b 1 0) (sym value)

-- Another has the identifier exactly if more owners have it than the one of the node.
pub more_than_own : (owners : List Owner) (node id own : ℕ) → HaveOwnNodes owners → own ≡ cond (has_id owners node id) 1 0
    → nat_lt own (count_by (owns id) owners) ≡ has_other owners node id
more_than_own owners node id own nodes is =
    let all = counted owners node id nodes in
    let more : nat_lt own (count_by (owns id) owners) ≡ nat_lt 0 (count_by (other node id) owners) = grind (arith, nat_tests, all, is) in
    more ∙ any_counted (other node id) owners
