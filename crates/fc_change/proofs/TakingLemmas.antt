-- A node that is taken out of a tree and put back changed, and directories that are told what they say.
use Rattle.std.proofs.Common.{◌≡◌, ◌++◌, ◌∷◌, [], List, ℕ, Bool, true, false, cond, Option, Some, None, refl, sym, ap, subst, ◌∙◌}
use Rattle.std.specs.Prelude.{IsSome}
use Rattle.std.specs.Option.{option_map_or}
use Rattle.std.specs.Ordering.{nat_cmp, eq_by_cmp}
use Rattle.std.specs.Cmp.{nat_cmp_total}
use Rattle.std.specs.FinMap.{FinMap, get, insert as put, remove as without, get-insert, get-remove, same_map, nat_cmp-IsAntisymmetric}
use Rattle.fc_drafts.specs.Draft.{directory_in}
use Rattle.fc_tree.specs.declared.node.Node.{Node}
use Rattle.fc_tree.specs.Nodes.{body_in}
use Rattle.fc_tree.proofs.SlotLemmas.{level}
use Rattle.fc_laws.specs.nodes.Edits.{Nodes, with_body, with_edited}
use Rattle.fc_change.specs.declared.change.Says.{Says}
use Rattle.fc_change.specs.After.{with_said}

pub twice : (b : Bool) (x y : Option Node) → cond b x (cond b None y) ≡ cond b x y
twice true x y = refl
twice false x y = refl

-- no node has a number whose node is taken out
pub taken_free : (nodes now : FinMap nat_cmp Node) (n : ℕ) → now ≡ without nodes n → get now n ≡ None
taken_free nodes now n is =
    ap (λ (m : FinMap nat_cmp Node). get m n) is ∙ get-remove nat_cmp_total nodes n n
    ∙ ap (λ (b : Bool). cond b None (get nodes n)) (level n n refl)

pub put_changed : (nodes taken now : FinMap nat_cmp Node) (n : ℕ) (node : Node) (f : Node → Node) → get nodes n ≡ Some node → taken ≡ without nodes n → now ≡ put taken n (f node) → now ≡ with_edited n f nodes
put_changed nodes taken now n node f there out back =
    same_map nat_cmp_total nat_cmp-IsAntisymmetric now (put nodes n (f node))
    (λ q.
    ap (λ (m : FinMap nat_cmp Node). get m q) back
    ∙ get-insert nat_cmp_total taken n (f node) q
    ∙ ap (λ (o : Option Node). cond (eq_by_cmp nat_cmp q n) (Some (f node)) o) (ap (λ (m : FinMap nat_cmp Node). get m q) out ∙ get-remove nat_cmp_total nodes n q)
    ∙ twice (eq_by_cmp nat_cmp q n) (Some (f node)) (get nodes q)
    ∙ sym (get-insert nat_cmp_total nodes n (f node) q))
    ∙ sym (ap (λ (o : Option Node). option_map_or (λ (x : Node). put nodes n (f x)) o nodes) there)

-- each number keeps its node, or has another
pub some_stays : (nodes now : FinMap nat_cmp Node) (n k : ℕ) (f : Node → Node) → now ≡ with_edited n f nodes → IsSome (get nodes k) → IsSome (get now k)
some_stays nodes now n k f is some = subst (λ (m : FinMap nat_cmp Node). IsSome (get m k)) (sym is) (by (get nodes n))
  where
    at : (b : Bool) (x : Node) → IsSome (cond b (Some x) (get nodes k))
    at true x = refl
    at false x = some

    by : (o : Option Node) → IsSome (get (option_map_or (λ (x : Node). put nodes n (f x)) o nodes) k)
    by None = some
    by (Some x) = subst IsSome (sym (get-insert nat_cmp_total nodes n (f x) k)) (at (eq_by_cmp nat_cmp k n) (f x))

-- one that is put stays or is new
pub put_stays : (nodes : FinMap nat_cmp Node) (n k : ℕ) (x : Node) → IsSome (get nodes k) → IsSome (get (put nodes n x) k)
put_stays nodes n k x some = subst IsSome (sym (get-insert nat_cmp_total nodes n x k)) (at (eq_by_cmp nat_cmp k n))
  where
    at : (b : Bool) → IsSome (cond b (Some x) (get nodes k))
    at true = refl
    at false = some

-- what each directory is told
pub said_push : (said : List Says) (s : Says) (nodes : Nodes) → with_said (said ++ s ∷ []) nodes ≡ with_body s.node (body_in (directory_in s.draft)) (with_said said nodes)
said_push [] s nodes = refl
said_push (q ∷ said) s nodes = said_push said s (with_body q.node (body_in (directory_in q.draft)) nodes)

pub said_stays : (said : List Says) (nodes : Nodes) (k : ℕ) → IsSome (get nodes k) → IsSome (get (with_said said nodes) k)
said_stays [] nodes k some = some
said_stays (s ∷ said) nodes k some =
    said_stays said (with_body s.node (body_in (directory_in s.draft)) nodes) k
    (some_stays nodes (with_body s.node (body_in (directory_in s.draft)) nodes) s.node k (λ (node : Node). record node { body = body_in (directory_in s.draft) }) refl some)
