-- Nodes that enter directories, and those that are taken out.
use Rattle.std.proofs.Common.{◌≡◌, ⊎_elim, ℕ, ◌+◌, Bool, cond, List, [], ◌∷◌, length, map, refl, sym, ap, ap₂, subst, ◌∙◌, arith, Option, None, Some}
use Rattle.std.specs.Prelude.{Contains, is_none, is_some}
use Rattle.std.specs.Cmp.{nat_cmp_total}
use Rattle.std.specs.Option.{option_map}
use Rattle.std.specs.FinMap.{get, len, len-insert, insert as put, remove as take}
use Rattle.fc_image.specs.Walk.{Listing, Object}
use Rattle.fc_image.proofs.PathsLemmas.{many}
use Rattle.fc_tree.specs.declared.node.Body.{Body}
use Rattle.fc_tree.specs.declared.node.Node.{Node}
use Rattle.fc_tree.proofs.MemberLemmas.{contains_here, from_map, in_map, no_element}
use Rattle.fc_tree.proofs.WalkedLemmas.{same_some}
use Rattle.fc_laws.specs.nodes.Edits.{Nodes}
use Rattle.fc_laws.proofs.lemmas.nodes.ShapeLemmas.{held_by, put_here, put_length, put_other, said, take_here, take_length, take_other}
use Rattle.fc_edits.specs.Edit.{Amended}
use Rattle.fc_edits.specs.NewNodes.{AreDistinct, arriving, enter, entered, without}
use Rattle.fc_edits.proofs.lemmas.TellLemmas.{AreOnce}
use Rattle.fc_image.proofs.EntriesLemmas.{later as contains_later, cases as contains_cases}

-- ---- nodes that are taken out

pub without_other : (ns : List ℕ) (nodes : Nodes) (m : ℕ) → (Contains ns m → ⊥) → get (without ns nodes) m ≡ get nodes m
without_other [] nodes m none = refl
without_other (n ∷ ns) nodes m none =
    without_other ns (take nodes n) m (λ at. none (contains_later n m ns at)) ∙ take_other nodes n m (λ e. none (subst (Contains (n ∷ ns)) (sym e) (contains_here n ns)))

pub without_here : (ns : List ℕ) (nodes : Nodes) (m : ℕ) → Contains ns m → AreDistinct ns → get (without ns nodes) m ≡ None
without_here [] nodes m at once = absurd (no_element m at)
without_here (n ∷ ns) nodes m at once =
    ⊎_elim (λ same. subst (λ (k : ℕ). get (without ns (take nodes n)) k ≡ None) same (without_other ns (take nodes n) n once.0 ∙ take_here nodes n))
    (λ later. without_here ns (take nodes n) m later once.1) (contains_cases n m ns at)

pub without_length : (ns : List ℕ) (nodes : Nodes) → AreDistinct ns → ((n : ℕ) → Contains ns n → (a : Node) × (get nodes n ≡ Some a)) → len (without ns nodes) + length ns ≡ len nodes
without_length [] nodes once there = omega arith
without_length (n ∷ ns) nodes once there =
    let a = there n (contains_here n ns) in
    let less = take_length nodes n a.0 a.1 in
    let more =
    without_length ns (take nodes n) once.1
    (λ k at.
    let b = there k (contains_later n k ns at) in
    (b.0, take_other nodes n k (λ e. once.0 (subst (Contains ns) e at)) ∙ b.1)) in
    omega (arith, less, more)

-- ---- nodes that enter

abbrev pub nums : List (ℕ × (ℕ × Object)) → List ℕ
nums qs = map (λ (q : ℕ × (ℕ × Object)). q.1.0) qs

abbrev pub entry_step : ℕ × (ℕ × Object) → Nodes → Nodes
entry_step q nodes = put nodes q.1.0 (entered q.0 q.1.1 (get nodes q.1.0))

pub enter_other : (qs : List (ℕ × (ℕ × Object))) (nodes : Nodes) (m : ℕ) → (Contains (nums qs) m → ⊥) → get (enter qs nodes) m ≡ get nodes m
enter_other [] nodes m none = refl
enter_other (q ∷ qs) nodes m none =
    enter_other qs (entry_step q nodes) m (λ at. none (contains_later q.1.0 m (nums qs) at))
    ∙ put_other nodes q.1.0 m (entered q.0 q.1.1 (get nodes q.1.0)) (λ e. none (subst (Contains (q.1.0 ∷ nums qs)) (sym e) (contains_here q.1.0 (nums qs))))

pub enter_here : (qs : List (ℕ × (ℕ × Object))) (nodes : Nodes) (q : ℕ × (ℕ × Object)) → AreDistinct (nums qs) → Contains qs q
    → get (enter qs nodes) q.1.0 ≡ Some (entered q.0 q.1.1 (get nodes q.1.0))
enter_here [] nodes q once at = absurd (no_element q at)
enter_here (r ∷ qs) nodes q once at =
    ⊎_elim
    (λ same.
    subst (λ (x : ℕ × (ℕ × Object)). get (enter qs (entry_step r nodes)) x.1.0 ≡ Some (entered x.0 x.1.1 (get nodes x.1.0))) same
    (enter_other qs (entry_step r nodes) r.1.0 once.0 ∙ put_here nodes r.1.0 (entered r.0 r.1.1 (get nodes r.1.0))))
    (λ later.
    enter_here qs (entry_step r nodes) q once.1 later
    ∙ ap (λ (o : Option Node). Some (entered q.0 q.1.1 o))
    (put_other nodes r.1.0 q.1.0 (entered r.0 r.1.1 (get nodes r.1.0)) (λ e. once.0 (subst (Contains (nums qs)) e (in_map (λ (x : ℕ × (ℕ × Object)). x.1.0) qs q later)))))
    (contains_cases r q qs at)

-- what it says stays
pub entered_says : (dir : ℕ) (o : Object) (n : Option Node) (b : Body) → option_map said n ≡ Some b → said (entered dir o n) ≡ b
entered_says dir o None b e = absurd (cc)
entered_says dir o (Some a) b e = same_some a.body b e

pub entered_held : (dir : ℕ) (o : Object) (n : Option Node) → held_by (entered dir o n) ≡ (dir, o.entry)
entered_held dir o None = refl
entered_held dir o (Some a) = refl

-- how many of them are new
abbrev pub fresh : Nodes → ℕ → Bool
fresh nodes n = is_none (get nodes n)

pub same_new : (nodes nodes' : Nodes) (ns : List ℕ) → ((n : ℕ) → Contains ns n → get nodes' n ≡ get nodes n) → many (fresh nodes') ns ≡ many (fresh nodes) ns
unfolding many
same_new nodes nodes' [] each = refl
same_new nodes nodes' (n ∷ ns) each =
    ap₂ (λ (o : Option Node) (k : ℕ). cond (is_none o) 1 0 + k) (each n (contains_here n ns)) (same_new nodes nodes' ns (λ k at. each k (contains_later n k ns at)))

pub put_count : (nodes : Nodes) (n : ℕ) (a : Node) → len (put nodes n a) ≡ len nodes + cond (fresh nodes n) 1 0
put_count nodes n a = by (get nodes n) refl
  where
    by : (o : Option Node) → get nodes n ≡ o → len (put nodes n a) ≡ len nodes + cond (is_none o) 1 0
    by None e = put_length nodes n a e
    by (Some b) e =
        let same = len-insert nat_cmp_total nodes n a ∙ ap (λ (o : Option Node). cond (is_some o) (len nodes) (len nodes + 1)) e in
        omega (arith, same)

pub enter_length : (qs : List (ℕ × (ℕ × Object))) (nodes : Nodes) → AreDistinct (nums qs) → len (enter qs nodes) ≡ len nodes + many (fresh nodes) (nums qs)
unfolding many
enter_length [] nodes once = omega arith
enter_length (q ∷ qs) nodes once =
    let more = enter_length qs (entry_step q nodes) once.1 in
    let same =
    same_new nodes (entry_step q nodes) (nums qs)
    (λ n at. put_other nodes q.1.0 n (entered q.0 q.1.1 (get nodes q.1.0)) (λ e. once.0 (subst (Contains (nums qs)) e at))) in
    let one = put_count nodes q.1.0 (entered q.0 q.1.1 (get nodes q.1.0)) in
    omega (arith, more, same, one)

pub all_new : (nodes : Nodes) (ns : List ℕ) → ((n : ℕ) → Contains ns n → get nodes n ≡ None) → many (fresh nodes) ns ≡ length ns
unfolding many
all_new nodes [] each = refl
all_new nodes (n ∷ ns) each =
    let one : ◌≡◌ {A = ℕ} (cond (is_none (get nodes n)) 1 0) 1 = ap (λ (o : Option Node). let k : ℕ = cond (is_none o) 1 0 in k) (each n (contains_here n ns)) in
    let more = all_new nodes ns (λ k at. each k (contains_later n k ns at)) in
    omega (arith, one, more)

pub none_new : (nodes : Nodes) (ns : List ℕ) → ((n : ℕ) → Contains ns n → (a : Node) × (get nodes n ≡ Some a)) → many (fresh nodes) ns ≡ 0
unfolding many
none_new nodes [] each = refl
none_new nodes (n ∷ ns) each =
    let one : ◌≡◌ {A = ℕ} (cond (is_none (get nodes n)) 1 0) 0 = ap (λ (o : Option Node). let k : ℕ = cond (is_none o) 1 0 in k) (each n (contains_here n ns)).1 in
    let more = none_new nodes ns (λ k at. each k (contains_later n k ns at)) in
    omega (arith, one, more)

pub distinct_amended : (ds : List (ℕ × Listing)) → AreDistinct (map (λ (d : ℕ × Listing). d.0) ds) → AreOnce (map arriving ds)
distinct_amended [] once = tt
distinct_amended (d ∷ ds) once = (
  λ b at same.
      (let x = from_map arriving ds b at in
      once.0 (subst (Contains (map (λ (y : ℕ × Listing). y.0) ds)) (ap (λ (y : Amended). y.number) x.2 ∙ sym same) (in_map (λ (y : ℕ × Listing). y.0) ds x.0 x.1))),
  distinct_amended ds once.1,
)
