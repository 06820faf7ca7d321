-- The commands for a tree's objects make the tree, object by object.
use Rattle.std.proofs.Common.{◌≡◌, ◌<◌, ◌⊎◌, inl, inr, ⊎_elim, ℕ, Bool, true, false, cond, T, List, [], ◌∷◌, ◌++◌, length, map, take, filter, refl, sym, ap, subst, ◌∙◌, Option, Some, None, arith, append_assoc}
use Rattle.std.specs.Prelude.{Contains, Ok, nat_lt, not, if◌then◌else◌}
use Rattle.std.specs.Ordering.{eq_by_cmp, is_eq, is_lt}
use Rattle.std.specs.FinMap.{entries, entries_sorted, find, from_entries, get, get-entries, get-from_entries, get-insert, insert, is_sorted, same_map}
use Rattle.std.specs.FinMap.Entries.{below_all, find-append}
use Rattle.std.specs.Cmp.{tied_itself}
use Rattle.std.proofs.lemmas.Bool.{lt-ltb, ltb-true}
use Rattle.std.proofs.lemmas.List.{append-nil, take-map}
use Rattle.std.proofs.lemmas.List.Elements.{Contains-append_right}
use Rattle.fc_names.specs.declared.name.NameForm.{NameForm}
use Rattle.fc_names.specs.Names.{Path, folded, folded_path, is_writable, key_cmp}
use Rattle.fc_format.specs.declared.Format.{Format}
use Rattle.fc_model.specs.Answer.{answer}
use Rattle.fc_model.specs.Command.{Command}
use Rattle.fc_model.specs.Tree.{IsTree, Node, Tree, is_directory_body, last_name, node_at, root_node}
use Rattle.fc_image.proofs.EntriesLemmas.{cases as contains_cases}
use Rattle.fc_image.proofs.TreeLemmas.{key_exact, key_total}
use Rattle.fc_tree.proofs.MemberLemmas.{contains_here, no_element}
use Rattle.fc_tree.proofs.WalkedLemmas.{same_some}
use Rattle.fc_fit.specs.declared.fit.What.{What}
use Rattle.fc_fit.specs.declared.fit.What.TheVariants as whats
use Rattle.fc_fit.specs.Commands.{commands_for, making_command, object_commands, objects_in}
use Rattle.fc_fit.specs.Fit.{at_entry, first_fault, form_of, is_attrs_right, is_below_root, object_fault, or_later, spelled_key, unfit}
use Rattle.fc_fit.specs.Makes.{Accepts, AreMarked, MakesLaw, MakesTree, tree_with}
use Rattle.fc_fit.proofs.AcceptLemmas.{AreAbove, object_accepted}
use Rattle.fc_fit.proofs.MakeLemmas.{Object, below_none, dir_above, first_of_two, front_less, is_less, long_spelled, not_before, second_of_two, spelled_folds, spelled_last, stands_before}

-- ---- what fits

no_fault_here : (path : Path) (o : Option What) (later : Option (Path × What)) → at_entry path o later ≡ None → (o ≡ None) × (later ≡ None)
no_fault_here path None later e = (refl, e)
no_fault_here path (Some what) later e = absurd (cc)

-- if there is no fault, no object has one
no_fault : (t : Tree) (fault : Object → Option What) (es : List Object) → first_fault t fault es ≡ None → (e : Object) → Contains es e → fault e ≡ None
no_fault t fault [] none e at = absurd (no_element e at)
no_fault t fault (f ∷ es) none e at =
    let both = no_fault_here (spelled_key t f.0) (fault f) (first_fault t fault es) none in
    ⊎_elim (λ same. ap fault (sym same) ∙ both.0) (λ later. no_fault t fault es both.1 e later) (contains_cases f e es at)

first_none : (a b : Option (Path × What)) → or_later a b ≡ None → a ≡ None
first_none None b e = refl
first_none (Some fault) b e = absurd (cc)

names_fit : (format : Format) (t : Tree) → unfit format t ≡ None → first_fault t (λ e. object_fault (form_of format) e.1) (filter is_below_root (entries t)) ≡ None
unfolding unfit
names_fit format t none = first_none _ _ none

right_name : (form : NameForm) (n : Node) → object_fault form n ≡ None → is_writable form n.name ≡ true
right_name form n none = by (is_writable form n.name) (is_attrs_right form n.attrs) none
  where
    by : (w a : Bool) → (if not w then Some whats.Name else if not a then Some whats.Attributes else None) ≡ None → w ≡ true
    by true a e = refl
    by false a e = absurd (cc)

-- what is kept isn't the root
kept_next : (f next : Object) (b : Bool) (es : List Object) → is_below_root f ≡ b → Contains (cond b (f ∷ es) es) next → (is_below_root next ≡ true) ⊎ Contains es next
kept_next f next false es e h = inr h
kept_next f next true es e h = ⊎_elim (λ same. inl (ap is_below_root (sym same) ∙ e)) (λ later. inr later) (contains_cases f next es h)

kept_by : (next : Object) (es : List Object) → Contains (filter is_below_root es) next → is_below_root next ≡ true
kept_by next [] h = absurd (no_element next h)
kept_by next (f ∷ es) h = ⊎_elim (λ here. here) (λ later. kept_by next es later) (kept_next f next (is_below_root f) (filter is_below_root es) refl h)

-- ---- the root comes first

all_below : (es : List Object) → T (below_all key_cmp [] es) → filter is_below_root es ≡ es
all_below [] h = refl
all_below (([], n) ∷ es) h = absurd (first_of_two (is_lt (key_cmp [] [])) (below_all key_cmp [] es) h)
all_below (((x ∷ p), n) ∷ es) h =
    ap (λ (b : Bool). cond b (((x ∷ p), n) ∷ filter is_below_root es) (filter is_below_root es)) (below x p)
    ∙ ap (λ (os : List Object). ((x ∷ p), n) ∷ os) (all_below es (second_of_two (is_lt (key_cmp [] (x ∷ p))) (below_all key_cmp [] es) h))
  where
    below : (x : List ℕ) (p : Path) → nat_lt 0 (length (x ∷ p)) ≡ true
    below x p = lt-ltb 0 (length (x ∷ p)) (omega arith)

pub cut_first : (es : List Object) → T (is_sorted key_cmp es) → find key_cmp [] es ≡ Some root_node → es ≡ ([], root_node) ∷ filter is_below_root es
cut_first [] sorted there = absurd (cc)
cut_first (([], n) ∷ es) sorted there =
    let same : n ≡ root_node = same_some n root_node there in
    let below = first_of_two (below_all key_cmp [] es) (is_sorted key_cmp es) sorted in
    λ i. ([], same i) ∷ sym (all_below es below) i
cut_first (((x ∷ p), n) ∷ es) sorted there =
    let none = below_none [] (x ∷ p) es refl (first_of_two (below_all key_cmp (x ∷ p) es) (is_sorted key_cmp es) sorted) in
    let two : None ≡ Some root_node = sym none ∙ there in
    absurd (cc)

-- ---- one object more

found_with : (objects : List Object) (q : Path) → get (tree_with objects) q ≡ find key_cmp q (([], root_node) ∷ objects)
found_with objects q = get-from_entries key_total (([], root_node) ∷ objects) q

accepts_then : (form : NameForm) (t mid t' : Tree) (a b : List Command) → Accepts form t a mid → Accepts form mid b t' → Accepts form t (a ++ b) t'
accepts_then form t mid t' [] b first second = subst (λ (m : Tree). Accepts form m b t') first second
accepts_then form t mid t' (c ∷ a) b first second = (first.0, first.1, accepts_then form first.0 mid t' a b first.2 second)

module _ (format : Format) (t : Tree) (is_tree : IsTree t) (marked : AreMarked t) (fits : unfit format t ≡ None) where
  whole : entries t ≡ ([], root_node) ∷ objects_in t
  whole = cut_first (entries t) (entries_sorted t) (sym (get-entries t []) ∙ is_tree.root)

  module _ (done : List Object) (next : Object) (rest : List Object) (cut : objects_in t ≡ done ++ next ∷ rest) where
    abbrev before : List Object
    before = ([], root_node) ∷ done

    all : entries t ≡ before ++ next ∷ rest
    all = whole ∙ ap (λ (os : List Object). ([], root_node) ∷ os) cut

    sorted : T (is_sorted key_cmp (before ++ next ∷ rest))
    sorted = subst (λ (es : List Object). T (is_sorted key_cmp es)) all (entries_sorted t)

    among : (xs : List Object) → Contains (xs ++ next ∷ rest) next
    among xs = Contains-append_right xs (next ∷ rest) next (contains_here next rest)

    absent : find key_cmp next.0 before ≡ None
    absent = not_before before next rest sorted

    there : get t next.0 ≡ Some next.1
    there = get-entries t next.0 ∙ ap (find key_cmp next.0) all ∙ found_at before absent
      where
        found_at : (xs : List Object) → find key_cmp next.0 xs ≡ None → find key_cmp next.0 (xs ++ next ∷ rest) ≡ Some next.1
        found_at [] none = ap (λ (b : Bool). cond b (Some next.1) (find key_cmp next.0 rest)) (ap is_eq (tied_itself key_total next.0))
        found_at (e ∷ xs) none = by (eq_by_cmp key_cmp next.0 e.0) none (found_at xs)
          where
            by : (b : Bool) → cond b (Some e.1) (find key_cmp next.0 xs) ≡ None → (find key_cmp next.0 xs ≡ None → find key_cmp next.0 (xs ++ next ∷ rest) ≡ Some next.1)
                → cond b (Some e.1) (find key_cmp next.0 (xs ++ next ∷ rest)) ≡ Some next.1
            by true h more = absurd (cc)
            by false h more = more h

    positive : 0 < length next.0
    positive = ltb-true 0 (length next.0) (kept_by next (entries t) (subst (λ (os : List Object). Contains os next) (sym cut) (among done)))

    abbrev path : Path
    path = spelled_key t next.0

    folds : folded_path path ≡ next.0
    folds = spelled_folds t is_tree next.0 next.1 there

    above : AreAbove (tree_with done) path
    above i below =
        let less : i < length next.0 = subst (λ (n : ℕ). i < n) (long_spelled t is_tree next.0) below in
        let d = dir_above t is_tree (length next.0) next.0 next.1 refl there i less in
        let key : folded_path (take i path) ≡ take i next.0 = sym (take-map folded i path) ∙ ap (take i) folds in
        let found = stands_before before next rest (take i next.0) d.0 sorted (front_less i next.0 less) (ap (find key_cmp (take i next.0)) (sym all) ∙ sym (get-entries t (take i next.0)) ∙ d.1) in
        (d.0, ap (get (tree_with done)) key ∙ found_with done (take i next.0) ∙ found, d.2)

    not_there : node_at (tree_with done) path ≡ None
    not_there = ap (get (tree_with done)) folds ∙ found_with done next.0 ∙ absent

    named : last_name path ≡ next.1.name
    named = spelled_last t is_tree next.0 next.1 there positive

    writable : is_writable (form_of format) (last_name path) ≡ true
    writable =
        ap (is_writable (form_of format)) named
        ∙ right_name (form_of format) next.1
        (no_fault t (λ e. object_fault (form_of format) e.1) (filter is_below_root (entries t)) (names_fit format t fits) next (subst (λ (os : List Object). Contains os next) (sym cut) (among done)))

    grown : insert (tree_with done) (folded_path path) next.1 ≡ tree_with (done ++ next ∷ [])
    grown =
        ap (λ (k : Path). insert (tree_with done) k next.1) folds
        ∙ same_map key_total key_exact (insert (tree_with done) next.0 next.1) (tree_with (done ++ next ∷ [])) (λ q.
        get-insert key_total (tree_with done) next.0 next.1 q
        ∙ ap (λ (o : Option Node). cond (eq_by_cmp key_cmp q next.0) (Some next.1) o) (found_with done q)
        ∙ sym (find-append key_cmp key_total before next.0 next.1 q absent)
        ∙ sym (found_with (done ++ next ∷ []) q))

    one_accepted : Accepts (form_of format) (tree_with done) (object_commands path next.1) (tree_with (done ++ next ∷ []))
        × ((mid : Tree) × (answer (tree_with done) (form_of format) false (making_command path next.1) ≡ Ok mid))
    one_accepted =
        let long : 0 < length path = subst (λ (n : ℕ). 0 < n) (sym (long_spelled t is_tree next.0)) positive in
        let both = object_accepted (form_of format) (tree_with done) path long writable above not_there next.1 named (marked next.0 next.1 there) in
        (subst (Accepts (form_of format) (tree_with done) (object_commands path next.1)) grown both.0, both.1)

  -- ---- all objects

  some_accepted : (front done rest : List Object) → objects_in t ≡ done ++ (front ++ rest) → Accepts (form_of format) (tree_with done) (commands_for t front) (tree_with (done ++ front))
  some_accepted [] done rest cut = ap tree_with (append-nil done)
  some_accepted (e ∷ front) done rest cut =
      let one = one_accepted done e (front ++ rest) cut in
      let cut' : objects_in t ≡ (done ++ e ∷ []) ++ (front ++ rest) = cut ∙ sym (append_assoc done (e ∷ []) (front ++ rest)) in
      accepts_then (form_of format) (tree_with done) (tree_with (done ++ e ∷ [])) (tree_with (done ++ e ∷ front)) (object_commands (spelled_key t e.0) e.1) (commands_for t front) one.0
      (subst (λ (os : List Object). Accepts (form_of format) (tree_with (done ++ e ∷ [])) (commands_for t front) (tree_with os)) (append_assoc done (e ∷ []) front)
      (some_accepted front (done ++ e ∷ []) rest cut'))

  same_tree : tree_with (objects_in t) ≡ t
  same_tree = same_map key_total key_exact (tree_with (objects_in t)) t (λ q. found_with (objects_in t) q ∙ ap (find key_cmp q) (sym whole) ∙ sym (get-entries t q))

  makes : MakesTree format t
  makes = record {
    before = λ front next rest cut. (some_accepted front [] (next ∷ rest) cut, (one_accepted front next rest cut).0);
    all = subst (Accepts (form_of format) (tree_with []) (commands_for t (objects_in t))) same_tree
        (some_accepted (objects_in t) [] [] (sym (append-nil (objects_in t))));
  }

pub makes_law : MakesLaw
makes_law format t is_tree marked fits = makes format t is_tree marked fits
