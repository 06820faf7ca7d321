-- `rename` that copies its file into a directory that grows by it: what goes back. The file has left the identifier that it shared, so the
-- directory may be the last that had it.
use Rattle.fc_alloc.specs.Owners.{is_node}
use Rattle.fc_alloc.specs.declared.owner.Owner.{Owner}
use Rattle.fc_change.specs.GrownSpace.{IsGrownAt as IsGrownPlace, gone_at_once, has_rest, left_by_growth, left_of, root_of}
use Rattle.fc_change.specs.Needs.{is_copied}
use Rattle.fc_change.specs.Places.{plan_in}
use Rattle.fc_changes.proofs.BasicLemmas.{and_false, clash, or_false}
use Rattle.fc_changes.proofs.BesideLemmas.{shared_stays}
use Rattle.fc_changes.proofs.SpaceLemmas.{owned_same}
use Rattle.fc_commands.proofs.GrownBackLemmas as back_of
use Rattle.fc_commands.proofs.GrownChangeLemmas.{IsGrownStepped, taking_of, takings}
use Rattle.fc_commands.proofs.GrownCopyWantLemmas.{copy_is, file}
use Rattle.fc_commands.proofs.GrownMoveRestLemmas.{beside, beside_it, other_l, other_node, rest}
use Rattle.fc_commands.proofs.GrownMoveSaidLemmas.{anew, it, k, l, layout, listed}
use Rattle.fc_commands.proofs.GrownMoveWalkLemmas as walk
use Rattle.fc_commands.proofs.GrownMoveWantLemmas.{GrownRename, IsPlacedRename}
use Rattle.fc_commands.proofs.GrownMoveWantLemmas as want
use Rattle.fc_commands.proofs.GrownSpaceLemmas.{IsToGrow}
use Rattle.fc_commands.proofs.GrownSpaceLemmas as space_of
use Rattle.fc_commands.proofs.OwnerLemmas.{owner_is}
use Rattle.fc_edits.proofs.lemmas.IdentifierLemmas.{taken_either}
use Rattle.fc_edits.proofs.lemmas.NewSpaceLemmas.{new_id_unused}
use Rattle.fc_edits.specs.NewPlaces.{is_taken}
use Rattle.fc_edits.specs.Placing.{takings_of}
use Rattle.fc_image.specs.Layout.{Layout, id_of}
use Rattle.fc_image.specs.Objects.{has_sectors, is_owned, is_owner_of, objects_of}
use Rattle.fc_image.specs.Walk.{Object}
use Rattle.fc_image.specs.effects.Sharing.{new_ids}
use Rattle.fc_image.specs.effects.Steady.{is_given_back}
use Rattle.fc_laws.specs.agree.Agreed.{parts_with}
use Rattle.fc_newmap.specs.Map.{Map, is_used}
use Rattle.fc_placing.proofs.LeavingLemmas.{any_owner, any_same}
use Rattle.fc_placing.specs.Places.{IsOwnPlan}
use Rattle.fc_plan.specs.Applied.{IsOther, id_in, parts_in}
use Rattle.fc_plan.specs.Giving.{is_one_of}
use Rattle.fc_plan.specs.declared.plan.Plan.{Plan}
use Rattle.fc_placing.proofs.LowLemmas.{or_true}
use Rattle.fc_tree.proofs.WalkedLemmas.{listed_directory}
use Rattle.fc_tree.specs.Parts.{owner_of}
use Rattle.std.proofs.Common.{Bool, List, None, Option, Some, [], ap, ap₂, arith, cond, eq-eqb, false, filter, find, map, not, refl, sym, true, ℕ, ◌&&◌, ◌*◌, ◌++◌, ◌==◌, ◌||◌, ◌∙◌, ◌∷◌, ◌≡◌}
use Rattle.std.proofs.lemmas.Bool.{eqb-true, ne_eqb}
use Rattle.std.proofs.lemmas.List.Sorted.{list_any-IsPermutation}
use Rattle.std.specs.List.{list_any}
use Rattle.std.specs.Option.{option_and_then, option_to_list, unwrap_or}
use Rattle.std.specs.Prelude.{Contains, IfSome}
use Rattle.fc_plan.proofs.Applies.{and_true}

-- ---- by truth values

drop_both : (a b c d : Bool) → c ≡ false → d ≡ false → (a && (b && (not c && not d))) ≡ (a && b)
drop_both a true c d none neither = ap₂ (λ (x y : Bool). a && (not x && not y)) none neither
drop_both a false c d none neither = refl

none_first : (a b c d : Bool) → c ≡ true → (a && (b && (not c && not d))) ≡ false
none_first false b c d is = refl
none_first true false c d is = refl
none_first true true c d is = ap (λ (x : Bool). not x && not d) is

none_second : (a b c d : Bool) → d ≡ true → (a && (b && (not c && not d))) ≡ false
none_second false b c d is = refl
none_second true false c d is = refl
none_second true true true d is = refl
none_second true true false d is = ap not is

-- what shares with others goes unnoticed
same_without : (o t l c i r : Bool) → (o && not (t || (l || r))) ≡ false → (o && not (t || (l || (c || (i || r))))) ≡ (o && not (t || (l || (c || r))))
same_without false t l c i r shared = refl
same_without true true l c i r shared = refl
same_without true false true c i r shared = refl
same_without true false false true i r shared = refl
same_without true false false false true true shared = refl
same_without true false false false false true shared = refl
same_without true false false false i false shared = absurd (cc)

module _ (q : GrownRename) (pl : IsPlacedRename q) (copied : is_copied (parts_with q.m q.nodes q.owners) q.r ≡ true) where
  abbrev objects : List Object
  objects = objects_of q.listings

  abbrev o : Object
  o = q.seen.known.destination.listing.object

  abbrev own_id : ℕ
  own_id = id_of q.seen.known.destination.listing.object.entry.address

  abbrev as_owner : Object → Owner
  as_owner = owner_of q.nodes (Layout.New q.m)

  abbrev N : ℕ
  N = (want.grown q).0.directory.node

  abbrev F : ℕ
  F = q.r.target.node

  abbrev to : IsToGrow q.m q.nodes q.owners q.listings q.seen.known.destination.listing.object (walk.cut q).0 q.growth (plan_in pl.placing) pl.dir (want.grown q).0
  to = walk.to_grow q pl

  o_some : has_sectors q.seen.known.destination.listing.object ≡ true
  o_some = space_of.o_some q.m q.nodes q.owners q.listings o (walk.cut q).0 q.growth (plan_in pl.placing) pl.dir (want.grown q).0 to

  own_used : is_used q.m own_id ≡ true
  own_used = space_of.own_used q.m q.nodes q.owners q.listings o (walk.cut q).0 q.growth (plan_in pl.placing) pl.dir (want.grown q).0 to

  -- ---- who keeps an identifier

  -- those beside both
  rest_keep : (id : ℕ) → has_rest q.owners N (Some F) id ≡ list_any (is_owner_of id) (rest q).0
  rest_keep id =
      list_any-IsPermutation test q.owners (map as_owner (filter has_sectors objects)) q.agreed.owned
      ∙ any_owner test as_owner objects
      ∙ list_any-IsPermutation by_object objects (o ∷ it q ∷ (rest q).0) (beside q)
      ∙ ap₂ (λ (a b : Bool). a || (b || list_any by_object (rest q).0)) not_o not_it
      ∙ any_same by_object (is_owner_of id) (rest q).0 each
    where
      test : Owner → Bool
      test p = (p.id == id) && (not (p.node == N) && not (p.node == F))

      by_object : Object → Bool
      by_object p = has_sectors p && test (as_owner p)

      not_o : by_object o ≡ false
      not_o = none_first (has_sectors o) ((as_owner o).id == id) ((as_owner o).node == N) ((as_owner o).node == F) (eq-eqb (as_owner o).node N (ap (λ (x : Option ℕ). unwrap_or x 0) (walk.number q)))

      not_it : by_object (it q) ≡ false
      not_it = none_second (has_sectors (it q)) ((as_owner (it q)).id == id) ((as_owner (it q)).node == N) ((as_owner (it q)).node == F) (eq-eqb (as_owner (it q)).node F (ap (λ (x : Option ℕ). unwrap_or x 0) q.seen.known.target.node_is))

      each : (p : Object) → Contains (rest q).0 p → by_object p ≡ is_owner_of id p
      each p at = drop_both (has_sectors p) ((as_owner p).id == id) ((as_owner p).node == N) ((as_owner p).node == F) (other_l q p at) (other_node q p at)

  found : find (is_node N) q.owners ≡ Some (as_owner o)
  found =
      owner_is (Layout.New q.m) q.nodes q.listings q.owners o N q.seen.sound q.seen.held q.agreed.owned (walk.number q) (listed_directory (layout q) q.listings q.seen.sound (l q) (listed q)).0
      ∙ ap (λ (b : Bool). cond b (Some (as_owner o)) None) o_some

  abbrev keeps : Bool
  keeps = (own_id == 2) || list_any (is_owner_of own_id) (rest q).0

  -- so this goes back at last, if it gets another identifier
  back_is : (plan : Plan) → pl.dir ≡ Some plan → walk.alone q pl ≡ false → want.back q pl ≡ option_to_list (cond keeps None (Some own_id))
  back_is plan same e =
      want.left_then q pl plan same (walk.alone_is q pl ∙ e)
      ∙ ap₂ (λ (n : ℕ) (c : Option ℕ). option_to_list (left_by_growth q.owners n c)) (want.node_is q ∙ sym (want.dir_is q)) (copy_is q copied)
      ∙ ap (λ (r : Option Owner). option_to_list (option_and_then (left_of q.owners N (Some F)) r)) found
      ∙ ap (λ (b : Bool). option_to_list (cond ((own_id == 2) || b) None (Some own_id))) (rest_keep own_id)

  pub back_unused : (n : ℕ) → is_used q.m n ≡ false → is_one_of (want.back q pl) n ≡ false
  back_unused n free = by pl.dir refl (walk.alone q pl) refl
    where
      one : (b : Bool) → is_one_of (option_to_list (cond b None (Some own_id))) n ≡ false
      one true = refl
      one false = ap (λ (b : Bool). b || false) (ne_eqb own_id n (λ same. clash (is_used q.m own_id) own_used (ap (is_used q.m) same ∙ free)))

      by : (d : Option Plan) → pl.dir ≡ d → (a : Bool) → walk.alone q pl ≡ a → is_one_of (want.back q pl) n ≡ false
      by None same a e = ap (λ (ids : List ℕ). is_one_of ids n) (walk.lost q pl same)
      by (Some plan) same true e = ap (λ (ids : List ℕ). is_one_of ids n) (walk.was_alone q pl e)
      by (Some plan) same false e = ap (λ (ids : List ℕ). is_one_of ids n) (back_is plan same e) ∙ one keeps

  -- ---- what goes back

  -- The file's identifier is that of another object, too.
  sharing : (k : ℕ) → is_used q.m k ≡ true → is_given_back objects (o ∷ (rest q).0) k ≡ false
  sharing k used = sym ((shared_stays q.m objects (o ∷ (rest q).0) (it q) (beside_it q) (file q copied).sharing (o ∷ (rest q).0) (λ p there. there)).exactly k used)

  -- `copy` comes, whose identifier is new.
  module _ (m' : Map) (stepped : IsGrownStepped q.m m' (plan_in pl.placing) pl.dir (walk.alone q pl) (root_of (Some (want.grown q).0)) (want.back q pl))
      (kept : pl.dir ≡ None
      → is_one_of (want.back q pl) (space_of.own_id q.m q.nodes q.owners q.listings q.seen.known.destination.listing.object (walk.cut q).0 q.growth (plan_in pl.placing) pl.dir (want.grown q).0 (walk.to_grow q pl)) ≡ false)
      (copy : Object) (fresh : (k : ℕ) → is_used q.m k ≡ true → is_owner_of k copy ≡ false) where
    abbrev grown_some : has_sectors (anew q) ≡ true
    grown_some = back_of.grown_some q.m q.nodes q.owners q.listings o (walk.cut q).0 q.growth (plan_in pl.placing) pl.dir (want.grown q).0 to m' (root_of (Some (want.grown q).0)) (want.back q pl) stepped kept

    abbrev Gives : ℕ → Type 0
    Gives k = is_one_of (gone_at_once pl.dir (walk.alone q pl) ++ want.back q pl) k ≡ (is_given_back objects (anew q ∷ copy ∷ (rest q).0) k || is_taken (takings (plan_in pl.placing) pl.dir) k)

    -- with its old address it owns what it owned
    there : (want.grown q).0.directory.address ≡ q.seen.known.destination.listing.object.entry.address → ((plan : Plan) → pl.dir ≡ Some plan → walk.alone q pl ≡ false → ⊥) → (k : ℕ) → is_used q.m k ≡ true → Gives k
    there address never k used =
        back_of.gives q.m q.nodes q.owners q.listings o (walk.cut q).0 q.growth (plan_in pl.placing) pl.dir (want.grown q).0 to m' (root_of (Some (want.grown q).0)) (want.back q pl) stepped kept
        (copy ∷ []) (λ i u owns. absurd (clash (is_owner_of i copy) (one_of_it i owns) (fresh i u))) (walk.lost q pl) (walk.was_alone q pl) (λ plan same e. absurd (never plan same e)) k used
        ∙ ap (λ (b : Bool). b || is_taken (takings (plan_in pl.placing) pl.dir) k) same
      where
        one_of_it : (i : ℕ) → (is_owner_of i copy || false) ≡ true → is_owner_of i copy ≡ true
        one_of_it i owns = sym (or_false (is_owner_of i copy)) ∙ owns

        owns : is_owner_of k (anew q) ≡ is_owner_of k o
        owns = ap₂ (λ (b : Bool) (a : ℕ). b && (id_of a == k)) (grown_some ∙ sym o_some) address

        same : is_given_back objects (anew q ∷ copy ∷ (walk.cut q).0) k ≡ is_given_back objects (anew q ∷ copy ∷ (rest q).0) k
        same =
            ap₂ (λ (a b : Bool). is_owned objects k && not ((k == 2) || (a || (is_owner_of k copy || b)))) owns
            (list_any-IsPermutation (is_owner_of k) (walk.cut q).0 (it q ∷ (rest q).0) (rest q).1)
            ∙ same_without (is_owned objects k) (k == 2) (is_owner_of k o) (is_owner_of k copy) (is_owner_of k (it q)) (list_any (is_owner_of k) (rest q).0) (sharing k used)
            ∙ ap (λ (a : Bool). is_owned objects k && not ((k == 2) || (a || (is_owner_of k copy || list_any (is_owner_of k) (rest q).0)))) (sym owns)

    -- with a new one it leaves its own, if no other keeps that
    anew_at : (plan : Plan) → pl.dir ≡ Some plan → walk.alone q pl ≡ false → Contains (new_ids q.m) plan.id → (want.grown q).0.directory.address ≡ 256 * plan.id
        → (k : ℕ) → is_used q.m k ≡ true → is_taken (takings (plan_in pl.placing) pl.dir) k ≡ false → Gives k
    anew_at plan same e is_new address k used none_taken =
        (λ i. is_one_of (gone_at_once (same i) (e i) ++ want.back q pl) k)
        ∙ ap (λ (ids : List ℕ). is_one_of ids k) (back_is plan same e)
        ∙ by (own_id == k) refl
        ∙ sym (ap₂ (λ (a b : Bool). (is_owned objects k && not ((k == 2) || (a || (b || list_any (is_owner_of k) (rest q).0)))) || is_taken (takings (plan_in pl.placing) pl.dir) k) not_anew (fresh k used)
        ∙ ap (λ (b : Bool). (is_owned objects k && not ((k == 2) || list_any (is_owner_of k) (rest q).0)) || b) none_taken
        ∙ or_false (is_owned objects k && not ((k == 2) || list_any (is_owner_of k) (rest q).0)))
      where
        not_anew : is_owner_of k (anew q) ≡ false
        not_anew =
            ap (λ (i : ℕ). has_sectors (anew q) && (i == k)) (ap id_of address ∙ (let z : id_of (256 * plan.id) ≡ plan.id = omega arith in z))
            ∙ ap (λ (b : Bool). has_sectors (anew q) && b) (ne_eqb plan.id k (λ both. clash (is_used q.m k) used (ap (is_used q.m) (sym both) ∙ new_id_unused q.m plan.id is_new)))
            ∙ and_false (has_sectors (anew q))

        o_owns : is_owner_of k o ≡ (own_id == k)
        o_owns = ap (λ (b : Bool). b && (own_id == k)) o_some

        shared : (is_owned objects k && not ((k == 2) || ((own_id == k) || list_any (is_owner_of k) (rest q).0))) ≡ false
        shared = ap (λ (b : Bool). is_owned objects k && not ((k == 2) || (b || list_any (is_owner_of k) (rest q).0))) (sym o_owns) ∙ sharing k used

        is_there : (own_id == k) ≡ true → is_owned objects k ≡ true
        is_there here =
            owned_same objects (o ∷ it q ∷ (rest q).0) k (beside q)
            ∙ ap (λ (b : Bool). (k == 2) || (b || (is_owner_of k (it q) || list_any (is_owner_of k) (rest q).0))) (o_owns ∙ here) ∙ or_true (k == 2)

        one : (b : Bool) → is_one_of (option_to_list (cond b None (Some own_id))) k ≡ (not b && (own_id == k))
        one true = refl
        one false = or_false (own_id == k)

        by : (b : Bool) → (own_id == k) ≡ b → is_one_of (option_to_list (cond keeps None (Some own_id))) k ≡ (is_owned objects k && not ((k == 2) || list_any (is_owner_of k) (rest q).0))
        by true here =
            one keeps ∙ ap (λ (b : Bool). not keeps && b) here ∙ and_true (not keeps)
            ∙ ap (λ (n : ℕ). not ((n == 2) || list_any (is_owner_of n) (rest q).0)) (eqb-true own_id k here)
            ∙ sym (ap (λ (b : Bool). b && not ((k == 2) || list_any (is_owner_of k) (rest q).0)) (is_there here))
        by false other =
            one keeps ∙ ap (λ (b : Bool). not keeps && b) other ∙ and_false (not keeps)
            ∙ sym (ap (λ (b : Bool). is_owned objects k && not ((k == 2) || (b || list_any (is_owner_of k) (rest q).0))) (sym other) ∙ shared)

    pub gives : (k : ℕ) → is_used q.m k ≡ true
        → is_one_of (gone_at_once pl.dir (walk.alone q pl) ++ want.back q pl) k ≡ (is_given_back (objects_of q.listings) (anew q ∷ copy ∷ (rest q).0) k || is_taken (takings (plan_in pl.placing) pl.dir) k)
    gives k used = by pl.dir refl to.grown
      where
        object_free : (x : Option Plan) → IfSome x (IsOwnPlan q.m to.bytes) → IsOther k x
        object_free None own = tt
        object_free (Some x) own = λ same. clash (is_used q.m k) used (ap (is_used q.m) same ∙ own.unused)

        by : (d : Option Plan) → pl.dir ≡ d → IsGrownPlace q.m (parts_with q.m q.nodes q.owners) (plan_in pl.placing) q.growth d (want.grown q).0 → Gives k
        by None same is =
            there (space_of.there_address q.m q.nodes q.owners q.listings o (walk.cut q).0 q.growth (plan_in pl.placing) pl.dir (want.grown q).0 to is) (λ plan other e. (let never = sym same ∙ other in cc)) k used
        by (Some plan) same into =
            space_of.by_alone q.m q.nodes q.owners q.listings o (walk.cut q).0 q.growth (plan_in pl.placing) pl.dir (want.grown q).0 to plan into
            (λ e id address. there address (λ other its not_alone. clash (walk.alone q pl) e not_alone) k used)
            (λ e is_new other address. anew_at plan same e is_new address k used
            (taken_either (takings_of (id_in (plan_in pl.placing)) (parts_in (plan_in pl.placing))) (taking_of pl.dir) k
            ∙ ap₂ (λ (a : Bool) (x : Option Plan). a || is_taken (taking_of x) k)
            (space_of.not_before q.m q.nodes q.owners q.listings o (walk.cut q).0 q.growth (plan_in pl.placing) pl.dir (want.grown q).0 to (plan_in pl.placing) k (object_free (plan_in pl.placing) to.own)) same
            ∙ ap (λ (b : Bool). b || false) (ne_eqb plan.id k (λ both. clash (is_used q.m k) used (ap (is_used q.m) (sym both) ∙ new_id_unused q.m plan.id is_new)))))
