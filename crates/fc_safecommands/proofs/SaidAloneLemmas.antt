-- Identifiers of which nothing is taken along, since their only owner says something else.
use Rattle.std.proofs.Common.{◌≡◌, ◌≤◌, ◌&&◌, ◌||◌, ◌==◌, ℕ, zero, suc, Bool, true, false, not, List, [], ◌∷◌, refl, sym, ap, subst, ◌∙◌, arith, Some, None, Option}
use Rattle.std.specs.Prelude.{Contains, filter}
use Rattle.std.specs.List.{count_by, find, list_all, list_any}
use Rattle.std.specs.Option.{option_map_or}
use Rattle.std.proofs.lemmas.Bool.{and_parts, eq-eqb, eqb-true}
use Rattle.fc_alloc.specs.declared.owner.Owner.{Owner}
use Rattle.fc_alloc.specs.Owners.{is_id_owned, is_node, owns}
use Rattle.fc_plan.specs.declared.plan.Plan.{Plan}
use Rattle.fc_tree.proofs.MemberLemmas.{found_passes}
use Rattle.fc_change.specs.declared.change.Change.{Change}
use Rattle.fc_change.specs.declared.change.Says.{Says}
use Rattle.fc_change.specs.declared.job.Wants.{Wants}
use Rattle.fc_safe.proofs.ListLemmas.{any_of, found_of, only_one}
use Rattle.fc_commands.proofs.GrownMoveEditLemmas.{none_pass}
use Rattle.fc_safecommands.specs.Anew.{has_plan, holds_node, is_leaving, is_said, is_said_alone, is_taken_along}

-- what all pass, each of them passes
pub all_there : {X : Type 0} (t : X → Bool) (xs : List X) (x : X) → list_all t xs ≡ true → Contains xs x → t x ≡ true
all_there t [] x e (k, low, f) = absurd (omega (arith, low))
all_there t (y ∷ xs) x e (zero, low, f) = sym (ap t f) ∙ (and_parts (t y) (list_all t xs) e).0
all_there t (y ∷ xs) x e (suc k, low, f) = all_there t xs x (and_parts (t y) (list_all t xs) e).1 (k, omega (arith, low), f)

module _ (owners : List Owner) (says : List Says) where
  -- Whoever an identifier holds alone is told, if the node of one who is told is held by it.
  alone_said : (o : Owner) → Contains owners o → count_by (owns o.id) owners ≡ 1 → list_any (λ (s : Says). holds_node owners o.id s.node) says ≡ true → is_said says o.node ≡ true
  alone_said o there one held =
      let found = found_of (λ (s : Says). holds_node owners o.id s.node) says held in
      by found.0 found.1 (find (is_node found.0.node) owners) refl found.2
    where
      of_own : (s : Says) → Contains says s → (own : Owner) → find (is_node s.node) owners ≡ Some own → (own.id == o.id) ≡ true → is_said says o.node ≡ true
      of_own s at own e same =
          let f = found_passes (is_node s.node) owners own e in
          let few : count_by (owns o.id) owners ≤ 1 = omega (arith, one) in
          let is : own ≡ o = only_one (owns o.id) owners own o few f.0 there same (eq-eqb o.id o.id refl) in
          let node : s.node ≡ o.node = sym (eqb-true own.node s.node f.1) ∙ ap (λ (p : Owner). p.node) is in
          any_of (λ (t : Says). t.node == o.node) says s at (eq-eqb s.node o.node node)

      by : (s : Says) → Contains says s → (r : Option Owner) → find (is_node s.node) owners ≡ r → option_map_or (λ (p : Owner). p.id == o.id) r false ≡ true → is_said says o.node ≡ true
      by s at None e h = absurd (cc)
      by s at (Some own) e h = of_own s at own e h

  said_alone : (o : Owner) → Contains owners o → is_said_alone owners says o.id ≡ true → is_said says o.node ≡ true
  said_alone o there alone = by (is_id_owned owners o.id) (any_of (owns o.id) owners o there (eq-eqb o.id o.id refl)) alone
    where
      by : (b : Bool) → b ≡ true → (not b || ((count_by (owns o.id) owners == 1) && list_any (λ (s : Says). holds_node owners o.id s.node) says)) ≡ true → is_said says o.node ≡ true
      by false e h = absurd (cc)
      by true e h =
          let both = and_parts (count_by (owns o.id) owners == 1) (list_any (λ (s : Says). holds_node owners o.id s.node) says) h in
          alone_said o there (eqb-true (count_by (owns o.id) owners) 1 both.0) both.1

-- So nobody is taken along.
pub none_along : (owners : List Owner) (plans : List Plan) (w : Wants) (c : Change) → list_all (λ (p : Plan). is_said_alone owners c.says.items p.id) plans ≡ true → filter (is_taken_along plans w c) owners ≡ []
none_along owners plans w c alone = none_pass (is_taken_along plans w c) owners none
  where
    with_plan : (o : Owner) → Contains owners o → has_plan plans o.id ≡ true → is_said c.says.items o.node ≡ true
    with_plan o there has =
        let found = found_of (λ (p : Plan). p.id == o.id) plans has in
        let told : is_said_alone owners c.says.items found.0.id ≡ true = all_there (λ (p : Plan). is_said_alone owners c.says.items p.id) plans found.0 alone found.1 in
        said_alone owners c.says.items o there (subst (λ (id : ℕ). is_said_alone owners c.says.items id ≡ true) (eqb-true found.0.id o.id found.2) told)

    by : (o : Owner) → Contains owners o → (b : Bool) → has_plan plans o.id ≡ b → (b && (not (is_said c.says.items o.node) && not (is_leaving w o.node))) ≡ false
    by o there false e = refl
    by o there true e = ap (λ (said : Bool). not said && not (is_leaving w o.node)) (with_plan o there e)

    none : (o : Owner) → Contains owners o → is_taken_along plans w c o ≡ false
    none o there = by o there (has_plan plans o.id) refl
