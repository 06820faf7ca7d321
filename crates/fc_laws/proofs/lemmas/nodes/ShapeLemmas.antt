-- What nodes say, and as what they are held, after edits of nodes.
use Rattle.std.proofs.Common.{◌≡◌, ⊎_elim, ℕ, zero, suc, ◌+◌, ◌-◌, true, cond, refl, sym, ap, subst, ◌∙◌, arith, Option, Some, None, nat_cmp, eq-eqb}
use Rattle.std.specs.Prelude.{is_some}
use Rattle.std.specs.Option.{option_map, option_map_or}
use Rattle.std.specs.Ordering.{eq_by_cmp}
use Rattle.std.specs.Cmp.{nat_cmp_total, unsigned_tied}
use Rattle.std.specs.FinMap.{get, insert as put, remove as take, len, get-insert, get-remove, len-insert, len-remove, empty_of_len, get-empty}
use Rattle.std.proofs.lemmas.Bool.{cases_eq}
use Rattle.fc_dirs.specs.declared.Entry.{Entry}
use Rattle.fc_tree.specs.declared.node.Body.{Body}
use Rattle.fc_tree.specs.declared.node.Node.{Node}
use Rattle.fc_laws.specs.nodes.Edits.{Nodes, with_edited, with_body}
use Rattle.fc_tree.proofs.SlotLemmas.{other as untied}
pub use Rattle.fc_laws.specs.nodes.Lookups.{held_as, held_by, said, says_at}

-- ---- numbers that tie

tied : (n : ℕ) → eq_by_cmp nat_cmp n n ≡ true
tied n = unsigned_tied n n ∙ eq-eqb n n refl

-- ---- one node put in or taken out

pub put_here : (nodes : Nodes) (n : ℕ) (a : Node) → get (put nodes n a) n ≡ Some a
put_here nodes n a = get-insert nat_cmp_total nodes n a n ∙ ap (λ b. cond b (Some a) (get nodes n)) (tied n)

pub put_other : (nodes : Nodes) (n m : ℕ) (a : Node) → (m ≡ n → ⊥) → get (put nodes n a) m ≡ get nodes m
put_other nodes n m a other = get-insert nat_cmp_total nodes n a m ∙ ap (λ b. cond b (Some a) (get nodes m)) (untied m n other)

pub put_length : (nodes : Nodes) (n : ℕ) (a : Node) → get nodes n ≡ None → len (put nodes n a) ≡ len nodes + 1
put_length nodes n a free = len-insert nat_cmp_total nodes n a ∙ ap (λ (o : Option Node). cond (is_some o) (len nodes) (len nodes + 1)) free

pub take_here : (nodes : Nodes) (n : ℕ) → get (take nodes n) n ≡ None
take_here nodes n = get-remove nat_cmp_total nodes n n ∙ ap (λ b. cond b None (get nodes n)) (tied n)

pub take_other : (nodes : Nodes) (n m : ℕ) → (m ≡ n → ⊥) → get (take nodes n) m ≡ get nodes m
take_other nodes n m other = get-remove nat_cmp_total nodes n m ∙ ap (λ b. cond b None (get nodes m)) (untied m n other)

pub take_length : (nodes : Nodes) (n : ℕ) (a : Node) → get nodes n ≡ Some a → len (take nodes n) + 1 ≡ len nodes
take_length nodes n a is =
    let less : len (take nodes n) ≡ len nodes - 1 =
    len-remove nat_cmp_total nodes n ∙ ap (λ (o : Option Node). cond (is_some o) (len nodes - 1) (len nodes)) is in
    by (len nodes) refl less
  where
    by : (k : ℕ) → len nodes ≡ k → len (take nodes n) ≡ k - 1 → len (take nodes n) + 1 ≡ k
    by zero e less =
        let none : Some a ≡ None = sym is ∙ ap (λ (x : Nodes). get x n) (empty_of_len nodes e) ∙ get-empty nat_cmp n in
        absurd (cc)
    by (suc k) e less = omega arith

-- ---- one node edited

module _ (nodes : Nodes) (n : ℕ) (f : Node → Node) where
  pub edited_here : get (with_edited n f nodes) n ≡ option_map f (get nodes n)
  edited_here = by (get nodes n) refl
    where
      by : (o : Option Node) → get nodes n ≡ o → get (option_map_or (λ node. put nodes n (f node)) o nodes) n ≡ option_map f o
      by None e = e
      by (Some a) e = put_here nodes n (f a)

  pub edited_other : (m : ℕ) → (m ≡ n → ⊥) → get (with_edited n f nodes) m ≡ get nodes m
  edited_other m other = by (get nodes n)
    where
      by : (o : Option Node) → get (option_map_or (λ node. put nodes n (f node)) o nodes) m ≡ get nodes m
      by None = refl
      by (Some a) = put_other nodes n m (f a) other

  pub edited_length : len (with_edited n f nodes) ≡ len nodes
  edited_length = by (get nodes n) refl
    where
      by : (o : Option Node) → get nodes n ≡ o → len (option_map_or (λ node. put nodes n (f node)) o nodes) ≡ len nodes
      by None e = refl
      by (Some a) e = len-insert nat_cmp_total nodes n (f a) ∙ ap (λ (o : Option Node). cond (is_some o) (len nodes) (len nodes + 1)) e

  -- what an edit leaves of each node stays
  pub edited_keeps : {X : Type 0} (t : Node → X) → ((a : Node) → t (f a) ≡ t a) → (m : ℕ) → option_map t (get (with_edited n f nodes) m) ≡ option_map t (get nodes m)
  edited_keeps t same m =
      ⊎_elim (λ e. subst (λ k. option_map t (get (with_edited n f nodes) k) ≡ option_map t (get nodes k)) (sym e) (ap (option_map t) edited_here ∙ each (get nodes n)))
      (λ other. ap (option_map t) (edited_other m other)) (cases_eq m n)
    where
      each : (o : Option Node) → option_map t (option_map f o) ≡ option_map t o
      each None = refl
      each (Some a) = ap (λ (x : _). Some x) (same a)

-- ---- what a node says, and how it is held

pub some_mapped : {X : Type 0} (t : Node → X) (o : Option Node) (x : X) → option_map t o ≡ Some x → (a : Node) × (o ≡ Some a) × (t a ≡ x)
some_mapped t None x e = absurd (cc)
some_mapped t (Some a) x e = (a, refl, ap (λ (o : Option _). option_map_or (λ y. y) o x) e)

-- a node by its parts
pub node_there : (nodes : Nodes) (n h : ℕ) (e : Entry) (b : Body) → held_as nodes n ≡ Some (h, e) → says_at nodes n ≡ Some b
    → get nodes n ≡ Some (record { holder = h; entry = e; body = b })
node_there nodes n h e b held says = by (get nodes n) held says
  where
    by : (o : Option Node) → option_map held_by o ≡ Some (h, e) → option_map said o ≡ Some b → o ≡ Some (record { holder = h; entry = e; body = b })
    by None p q = absurd (cc)
    by (Some a) p q =
        let pair = ap (λ (o : Option (ℕ × Entry)). option_map_or (λ y. y) o (h, e)) p in
        let own = ap (λ (o : Option Body). option_map_or (λ y. y) o b) q in
        λ i. Some (record { holder = (pair i).0; entry = (pair i).1; body = own i })

pub body_held : (nodes : Nodes) (n : ℕ) (b : Body) (m : ℕ) → held_as (with_body n b nodes) m ≡ held_as nodes m
body_held nodes n b m = edited_keeps nodes n (λ node. record node { body = b }) held_by (λ a. refl) m

pub body_said : (nodes : Nodes) (n : ℕ) (b c : Body) → says_at nodes n ≡ Some c → says_at (with_body n b nodes) n ≡ Some b
body_said nodes n b c is = ap (option_map said) (edited_here nodes n (λ node. record node { body = b })) ∙ by (get nodes n) is
  where
    by : (o : Option Node) → option_map said o ≡ Some c → option_map said (option_map {T = Node} (λ node. record node { body = b }) o) ≡ Some b
    by None e = absurd (cc)
    by (Some a) e = refl

pub body_other : (nodes : Nodes) (n : ℕ) (b : Body) (m : ℕ) → (m ≡ n → ⊥) → says_at (with_body n b nodes) m ≡ says_at nodes m
body_other nodes n b m other = ap (option_map said) (edited_other nodes n (λ node. record node { body = b }) m other)
