-- The function of an edit gives the nodes after it.
use Rattle.std.proofs.Common.{◌≡◌, ◌⊎◌, inl, inr, ⊎_elim, ℕ, ◌+◌, false, List, [], ◌++◌, length, map, flat_map, refl, sym, ap, ap₂, subst, ◌∙◌, arith, Option, None, Some, length-append}
use Rattle.std.specs.Prelude.{Contains}
use Rattle.std.specs.Option.{option_map}
use Rattle.std.specs.FinMap.{get, len}
use Rattle.std.proofs.lemmas.List.{length-map}
use Rattle.std.proofs.lemmas.List.Elements.{Contains-append_cases, Contains-append_left, Contains-append_right}
use Rattle.std.proofs.lemmas.List.Sorted.{IsPermutation-map, length_permutation}
use Rattle.fc_dirs.specs.declared.Entry.{Entry}
use Rattle.fc_image.specs.Layout.{Layout}
use Rattle.fc_image.specs.Walk.{Listing, Object, is_directory_object}
use Rattle.fc_image.proofs.PathsLemmas.{many, many-append}
use Rattle.fc_tree.specs.declared.node.Body.{Body}
use Rattle.fc_tree.specs.declared.node.Body.TheVariants as bodies
use Rattle.fc_tree.specs.declared.node.Node.{Node}
use Rattle.fc_tree.specs.Nodes.{body_in, number_of}
use Rattle.fc_tree.proofs.MemberLemmas.{contains_here, from_flat, from_map, in_map, many_permuted, no_element}
use Rattle.fc_tree.proofs.SoundLemmas.{root_object}
use Rattle.fc_tree.proofs.WalkedLemmas.{child_is_object, root, root_path, same_some}
use Rattle.fc_laws.specs.nodes.Edits.{Nodes}
use Rattle.fc_laws.specs.nodes.Laws.{IsHeld}
use Rattle.fc_laws.proofs.lemmas.nodes.FitsLemmas.{fits_at, kid_at}
use Rattle.fc_laws.proofs.lemmas.nodes.OtherLemmas.{no_file}
use Rattle.fc_laws.proofs.lemmas.nodes.ListLemmas.{in_first, in_other}
use Rattle.fc_laws.proofs.lemmas.nodes.ShapeLemmas.{held_by, said, some_mapped}
use Rattle.fc_laws.specs.nodes.Lookups.{held_as, says_at}
use Rattle.fc_edits.specs.Edit.{Amended, AreEdited, Edit, IsEdit, TopStays, TopTurns, joined_in, joining, left_in, leaving, numbers, objects, turned}
use Rattle.fc_edits.specs.NewNodes.{AfterLaw, AreDistinct, HasNumbers, arriving, enter, entered, entering, nodes_after, tell}
use Rattle.fc_edits.proofs.lemmas.ListLemmas.{flat_same, in_flat, is_in, map_flat, map_map}
use Rattle.fc_edits.proofs.lemmas.ShapeLemmas.{only}
use Rattle.fc_edits.proofs.lemmas.TellLemmas.{once_amended, tell_held, tell_length, tell_other, tell_said}
use Rattle.fc_edits.proofs.lemmas.EnterLemmas.{all_new, distinct_amended, enter_here, enter_length, enter_other, entered_held, entered_says, fresh, none_new, nums, without_here, without_length, without_other}
use Rattle.fc_image.proofs.TreeLemmas.{map_both as map_append}

-- ---- the edit

module _ (nodes : Nodes) (layout : Layout) (listings : List Listing) (e : Edit) (h : IsHeld nodes layout listings) (is : IsEdit nodes listings e) (hn : HasNumbers nodes e) where
  abbrev first : Nodes
  first = enter (entering e) nodes

  abbrev second : Nodes
  second = tell e.amended first

  abbrev third : Nodes
  third = tell (map arriving e.into) second

  nums_are : nums (entering e) ≡ numbers (joining e)
  nums_are =
      let f : ℕ × (ℕ × Object) → ℕ = λ q. q.1.0 in
      let k : Amended → List (ℕ × (ℕ × Object)) = λ a. map (λ (p : ℕ × Object). (a.number, p)) a.join in
      map_append f (map (λ (p : ℕ × Object). (0, p)) e.top_join) (flat_map k e.amended)
      ∙ ap₂ (λ (xs ys : List ℕ). xs ++ ys) (map_map f (λ (p : ℕ × Object). (0, p)) e.top_join)
      (map_flat f k e.amended ∙ flat_same (λ (a : Amended). map f (k a)) (λ (a : Amended). numbers a.join) e.amended (λ a at. map_map f (λ (p : ℕ × Object). (a.number, p)) a.join)
      ∙ sym (map_flat (λ (p : ℕ × Object). p.0) (λ (a : Amended). a.join) e.amended))
      ∙ sym (map_append (λ (p : ℕ × Object). p.0) e.top_join (joined_in e))

  distinct : AreDistinct (nums (entering e))
  distinct = subst AreDistinct (sym nums_are) hn.once

  in_entering : (a : Amended) (p : ℕ × Object) → Contains e.amended a → Contains a.join p → Contains (entering e) (a.number, p)
  in_entering a p at joins =
      let k : Amended → List (ℕ × (ℕ × Object)) = λ b. map (λ (p : ℕ × Object). (b.number, p)) b.join in
      Contains-append_right (map (λ (p : ℕ × Object). (0, p)) e.top_join) (flat_map k e.amended) (a.number, p)
      (in_flat k e.amended a (a.number, p) at (in_map (λ (q : ℕ × Object). (a.number, q)) a.join p joins))

  joined_joins : (p : ℕ × Object) → Contains (joined_in e) p → Contains (numbers (joining e)) p.0
  joined_joins p at = in_map (λ (q : ℕ × Object). q.0) (joining e) p (Contains-append_right e.top_join (joined_in e) p at)

  -- what is held, where nothing goes
  held_first : (m : ℕ) → (Contains (numbers e.gone) m → ⊥) → held_as (nodes_after e nodes) m ≡ held_as first m
  held_first m none = ap (option_map held_by) (without_other (numbers e.gone) third m none) ∙ tell_held (map arriving e.into) second m ∙ tell_held e.amended first m

  held_entered : (q : ℕ × (ℕ × Object)) → Contains (entering e) q → Contains (numbers (joining e)) q.1.0 → held_as (nodes_after e nodes) q.1.0 ≡ Some (q.0, q.1.1.entry)
  held_entered q at joins =
      held_first q.1.0 (λ gone. hn.lasting q.1.0 gone joins) ∙ ap (option_map held_by) (enter_here (entering e) nodes q distinct at)
      ∙ ap (λ (y : ℕ × Entry). Some y) (entered_held q.0 q.1.1 (get nodes q.1.0))

  -- what is said stays
  says_first : (m : ℕ) (b : Body) → says_at nodes m ≡ Some b → says_at first m ≡ Some b
  says_first m b was = by (is_in (nums (entering e)) m)
    where
      by : Contains (nums (entering e)) m ⊎ (Contains (nums (entering e)) m → ⊥) → says_at first m ≡ Some b
      by (inl at) =
          let q = from_map (λ (x : ℕ × (ℕ × Object)). x.1.0) (entering e) m at in
          subst (λ (k : ℕ). says_at first k ≡ Some b) q.2
          (ap (option_map said) (enter_here (entering e) nodes q.0 distinct q.1)
          ∙ ap (λ (y : Body). Some y) (entered_says q.0.0 q.0.1.1 (get nodes q.0.1.0) b (ap (says_at nodes) q.2 ∙ was)))
      by (inr none) = ap (option_map said) (enter_other (entering e) nodes m none) ∙ was

  stay_in : (a : Amended) → Contains e.amended a → Contains listings a.was
  stay_in a at =
      let all = map (λ (b : Amended). b.was) e.amended ++ e.same in
      in_first listings (e.out ++ all) is.found a.was
      (Contains-append_right e.out all a.was (Contains-append_left (map (λ (b : Amended). b.was) e.amended) e.same a.was (in_map (λ (b : Amended). b.was) e.amended a at)))

  said_before : (a : Amended) → Contains e.amended a → says_at nodes a.number ≡ Some (body_in a.was.content)
  said_before a at = (fits_at layout listings nodes h.sound h.held a.was a.number (stay_in a at) (is.amends a at).number_is).says

  -- a directory that comes has a new number
  into_free : (d : ℕ × Listing) → Contains e.into d → get nodes d.0 ≡ None
  into_free d at = hn.new (d.0, d.1.object) (is.into_joins d at)

  not_into : (m : ℕ) → (get nodes m ≡ None → ⊥) → Contains (map (λ (a : Amended). a.number) (map arriving e.into)) m → ⊥
  not_into m there at =
      let a = from_map (λ (b : Amended). b.number) (map arriving e.into) m at in
      let d = from_map arriving e.into a.0 a.1 in
      there (ap (get nodes) (sym (ap (λ (b : Amended). b.number) d.2 ∙ a.2)) ∙ into_free d.0 d.1)

  some_there : (m : ℕ) (b : Body) → says_at nodes m ≡ Some b → get nodes m ≡ None → ⊥
  some_there m b was none = let two : ◌≡◌ {A = Option Body} None (Some b) = sym (ap (option_map said) none) ∙ was in cc

  joined_cases : (p : ℕ × Object) → Contains (joined_in e) p → Contains e.come p ⊎ ((q : ℕ × Object) × Contains e.moving q × (turned e q ≡ p))
  joined_cases p at =
      ⊎_elim (λ comes. inl comes) (λ moves. inr (from_map (turned e) e.moving p moves))
      (Contains-append_cases e.come (map (turned e) e.moving) p (in_other (joined_in e) (e.come ++ map (turned e) e.moving) is.joined p at))

  -- the object of a number that leaves
  left_kid : (q : ℕ × Object) → Contains (left_in e) q → (a : Amended) × Contains e.amended a × Contains a.was.children q.1 × (number_of nodes q.1.path ≡ Some q.0)
  left_kid q at =
      let a = from_flat (λ (b : Amended). b.leave) e.amended q at in
      let i = is.amends a.0 a.1 in (
        a.0,
        a.1,
        in_first a.0.was.children (objects a.0.leave ++ a.0.kids) i.held q.1 (Contains-append_left (objects a.0.leave) a.0.kids q.1 (in_map (λ (x : ℕ × Object). x.1) a.0.leave q a.2)),
        i.left q a.2,
      )

  moving_left : (q : ℕ × Object) → Contains e.moving q → Contains (left_in e) q
  moving_left q at = in_first (left_in e) (e.gone ++ e.moving) is.left q (Contains-append_right e.gone e.moving q at)

  gone_left : (q : ℕ × Object) → Contains e.gone q → Contains (left_in e) q
  gone_left q at = in_first (left_in e) (e.gone ++ e.moving) is.left q (Contains-append_left e.gone e.moving q at)

  left_node : (q : ℕ × Object) → Contains (left_in e) q → (a : Node) × (get nodes q.0 ≡ Some a)
  left_node q at =
      let k = left_kid q at in
      let n = h.held.each q.1 (child_is_object layout listings h.sound k.0.was q.1 (stay_in k.0 k.1) k.2) in
      (_, ap (get nodes) (same_some q.0 n.number (sym k.3 ∙ n.at_path)) ∙ n.is)

  gone_leaves : (m : ℕ) → Contains (numbers e.gone) m → Contains (numbers (leaving e)) m
  gone_leaves m at =
      let q = from_map (λ (p : ℕ × Object). p.0) e.gone m at in
      subst (Contains (numbers (leaving e))) q.2 (in_map (λ (p : ℕ × Object). p.0) (leaving e) q.0 (Contains-append_right e.top_leave (left_in e) q.0 (gone_left q.0 q.1)))

  top_node : (p : ℕ × Object) → Contains e.top_join p → (p.0 ≡ 0) × Contains (map (λ (q : ℕ × Object). q.0) e.top_leave) 0
  top_node p at = by (is.top (root layout listings h.sound) (root_object layout listings h.sound) (root_path layout listings h.sound))
    where
      by : TopStays e (root layout listings h.sound) ⊎ TopTurns e (root layout listings h.sound) → (p.0 ≡ 0) × Contains (map (λ (q : ℕ × Object). q.0) e.top_leave) 0
      by (inl t) = absurd (no_element p (subst (λ (ps : List (ℕ × Object)). Contains ps p) t.joins at))
      by (inr t) = (
        sym (ap (λ (q : ℕ × Object). q.0) (only (0, e.turn (root layout listings h.sound)) p (subst (λ (ps : List (ℕ × Object)). Contains ps p) t.joins at))),
        subst (λ (ps : List (ℕ × Object)). Contains (map (λ (q : ℕ × Object). q.0) ps) 0) (sym t.leaves) (contains_here 0 []),
      )

  root_node : (a : Node) × (get nodes 0 ≡ Some a)
  root_node =
      let r = h.held.each (root layout listings h.sound) (root_object layout listings h.sound) in
      (_, ap (get nodes) (same_some 0 r.number (sym (ap (number_of nodes) (root_path layout listings h.sound)) ∙ r.at_path)) ∙ r.is)

  -- a number that leaves for good
  goes : (m : ℕ) → Contains (numbers (leaving e)) m → (Contains (numbers (joining e)) m → ⊥) → Contains (numbers e.gone) m
  goes m at away =
      let q = from_map (λ (p : ℕ × Object). p.0) (leaving e) m at in
      ⊎_elim (λ own. absurd (by q.0 q.2 own (is.top (root layout listings h.sound) (root_object layout listings h.sound) (root_path layout listings h.sound))))
      (λ left.
      ⊎_elim (λ gone. subst (Contains (numbers e.gone)) q.2 (in_map (λ (p : ℕ × Object). p.0) e.gone q.0 gone))
      (λ moves.
      absurd (away (subst (Contains (numbers (joining e))) q.2
      (joined_joins (turned e q.0) (in_first (joined_in e) (e.come ++ map (turned e) e.moving) is.joined (turned e q.0)
      (Contains-append_right e.come (map (turned e) e.moving) (turned e q.0) (in_map (turned e) e.moving q.0 moves)))))))
      (Contains-append_cases e.gone e.moving q.0 (in_other (left_in e) (e.gone ++ e.moving) is.left q.0 left)))
      (Contains-append_cases e.top_leave (left_in e) q.0 q.1)
    where
      by : (q : ℕ × Object) → q.0 ≡ m → Contains e.top_leave q → TopStays e (root layout listings h.sound) ⊎ TopTurns e (root layout listings h.sound) → ⊥
      by q same own (inl t) = no_element q (subst (λ (ps : List (ℕ × Object)). Contains ps q) t.leaves own)
      by q same own (inr t) =
          let zero : 0 ≡ m = ap (λ (p : ℕ × Object). p.0) (only (0, root layout listings h.sound) q (subst (λ (ps : List (ℕ × Object)). Contains ps q) t.leaves own)) ∙ same in
          away (subst (Contains (numbers (joining e))) zero
          (subst (λ (ps : List (ℕ × Object)). Contains (numbers (ps ++ joined_in e)) 0) (sym t.joins) (contains_here 0 (numbers (joined_in e)))))

  -- what a file says that joins a directory
  file_first : (p : ℕ × Object) → Contains (joined_in e) p → is_directory_object p.1 ≡ false → (says_at first p.0 ≡ Some bodies.File) × (Contains (map (λ (a : Amended). a.number) e.amended) p.0 → ⊥)
  file_first p at file = by (joined_cases p at)
    where
      told_off : says_at nodes p.0 ≡ Some bodies.File → Contains (map (λ (a : Amended). a.number) e.amended) p.0 → ⊥
      told_off was at' =
          let a = from_map (λ (b : Amended). b.number) e.amended p.0 at' in
          no_file a.0.was.content (same_some (body_in a.0.was.content) bodies.File (sym (said_before a.0 a.1) ∙ ap (says_at nodes) a.2 ∙ was))

      by : Contains e.come p ⊎ ((q : ℕ × Object) × Contains e.moving q × (turned e q ≡ p)) → (says_at first p.0 ≡ Some bodies.File) × (Contains (map (λ (a : Amended). a.number) e.amended) p.0 → ⊥)
      by (inl comes) =
          let a = from_flat (λ (b : Amended). b.join) e.amended p at in (
            ap (option_map said) (enter_here (entering e) nodes (a.0.number, p) distinct (in_entering a.0 p a.1 a.2))
                ∙ ap (λ (o : Option Node). Some (said (entered a.0.number p.1 o))) (hn.new p comes),
            λ at'.
                (let b = from_map (λ (b : Amended). b.number) e.amended p.0 at' in
                some_there p.0 (body_in b.0.was.content) (ap (says_at nodes) (sym b.2) ∙ said_before b.0 b.1) (hn.new p comes)),
          )
      by (inr q) =
          let k = left_kid q.0 (moving_left q.0 q.1) in
          let is_file : is_directory_object q.0.1 ≡ false = sym (is.kinds q.0.1) ∙ ap (λ (x : ℕ × Object). is_directory_object x.1) q.2 ∙ file in
          let was = (kid_at layout listings nodes h.sound h.held k.0.was q.0.1 k.0.number q.0.0 (stay_in k.0 k.1) k.2 (is.amends k.0 k.1).number_is k.3).file is_file in
          let was' : says_at nodes p.0 ≡ Some bodies.File = ap (λ (x : ℕ × Object). says_at nodes x.0) (sym q.2) ∙ was in
          (says_first p.0 bodies.File was', told_off was')

  gone_there : (n : ℕ) → Contains (numbers e.gone) n → (a : Node) × (get third n ≡ Some a)
  gone_there n at =
      let q = from_map (λ (p : ℕ × Object). p.0) e.gone n at in
      let a = left_node q.0 (gone_left q.0 q.1) in
      let same : get first n ≡ get nodes n = enter_other (entering e) nodes n (λ j. hn.lasting n at (subst (λ (ns : List ℕ). Contains ns n) nums_are j)) in
      let held : held_as third n ≡ Some (held_by a.0) =
      tell_held (map arriving e.into) second n ∙ tell_held e.amended first n ∙ ap (option_map held_by) (same ∙ ap (get nodes) (sym q.2) ∙ a.1) in
      let b = some_mapped held_by (get third n) (held_by a.0) held in
      (b.0, b.1)

  pub after_edited : AreEdited nodes (nodes_after e nodes) e
  after_edited = record {
    others = λ m stays away.
        held_first m (λ gone. stays (gone_leaves m gone)) ∙ ap (option_map held_by) (enter_other (entering e) nodes m (λ at. away (subst (λ (ns : List ℕ). Contains ns m) nums_are at)));
    joined = λ a p at joins. held_entered (a.number, p) (in_entering a p at joins) (joined_joins p (in_flat (λ (b : Amended). b.join) e.amended a p at joins));
    top = λ p at.
        held_entered (0, p)
        (Contains-append_left (map (λ (q : ℕ × Object). (0, q)) e.top_join) (flat_map (λ (a : Amended). map (λ (q : ℕ × Object). (a.number, q)) a.join) e.amended) (0, p) (in_map (λ (q : ℕ × Object). (0, q)) e.top_join p at))
        (in_map (λ (q : ℕ × Object). q.0) (joining e) p (Contains-append_left e.top_join (joined_in e) p at));
    gone = λ m at away. ap (option_map held_by) (without_here (numbers e.gone) third m (goes m at away) hn.gone_once);
    says = λ a at.
        ap (option_map said) (without_other (numbers e.gone) third a.number (hn.gone_others a at))
        ∙ tell_other (map arriving e.into) second a.number (not_into a.number (some_there a.number (body_in a.was.content) (said_before a at)))
        ∙ tell_said e.amended first a (body_in a.was.content) (once_amended nodes layout listings e h is) at (says_first a.number (body_in a.was.content) (said_before a at));
    into_say = λ d at.
        (let come = is.into_joins d at in
        let joins = in_first (joined_in e) (e.come ++ map (turned e) e.moving) is.joined (d.0, d.1.object) (Contains-append_left e.come (map (turned e) e.moving) (d.0, d.1.object) come) in
        let a = from_flat (λ (b : Amended). b.join) e.amended (d.0, d.1.object) joins in
        let new : says_at first d.0 ≡ Some bodies.File =
        ap (option_map said) (enter_here (entering e) nodes (a.0.number, (d.0, d.1.object)) distinct (in_entering a.0 (d.0, d.1.object) a.1 a.2))
        ∙ ap (λ (o : Option Node). Some (said (entered a.0.number d.1.object o))) (into_free d at) in
        ap (option_map said) (without_other (numbers e.gone) third d.0 (λ gone. hn.lasting d.0 gone (joined_joins (d.0, d.1.object) joins)))
        ∙ tell_said (map arriving e.into) second (arriving d) bodies.File (distinct_amended e.into hn.into_once) (in_map arriving e.into d at)
        (tell_other e.amended first d.0
        (λ at'.
        let b = from_map (λ (b : Amended). b.number) e.amended d.0 at' in
        some_there d.0 (body_in b.0.was.content) (ap (says_at nodes) (sym b.2) ∙ said_before b.0 b.1) (into_free d at)) ∙ new));
    files = λ p at file.
        (let f = file_first p at file in
        ap (option_map said) (without_other (numbers e.gone) third p.0 (λ gone. hn.lasting p.0 gone (joined_joins p at)))
        ∙ tell_other (map arriving e.into) second p.0 (λ at'. hn.into_others p at file (subst (λ (ns : List ℕ). Contains ns p.0) (map_map (λ (b : Amended). b.number) arriving e.into) at'))
        ∙ tell_other e.amended first p.0 f.1 ∙ f.0);
    silent = λ m there none leaves.
        ap (option_map said) (without_other (numbers e.gone) third m (λ gone. hn.lasting m gone (leaves (gone_leaves m gone))))
        ∙ tell_other (map arriving e.into) second m (not_into m there) ∙ tell_other e.amended first m none ∙ says_same m there;
    free = λ p at.
        ⊎_elim (λ comes. inr (hn.new p comes, λ zero. (let two : None ≡ Some root_node.0 = sym (hn.new p comes) ∙ ap (get nodes) zero ∙ root_node.1 in cc)))
        (λ q. inl (subst (Contains (numbers (left_in e))) (ap (λ (x : ℕ × Object). x.0) q.2) (in_map (λ (x : ℕ × Object). x.0) (left_in e) q.0 (moving_left q.0 q.1)))) (joined_cases p at);
    new = λ p at dir. hn.new p at;
    count = counted;
  }
    where
      says_same : (m : ℕ) → (get nodes m ≡ None → ⊥) → says_at first m ≡ says_at nodes m
      says_same m there = by (get nodes m) refl
        where
          by : (o : Option Node) → get nodes m ≡ o → says_at first m ≡ option_map said o
          by None none = absurd (there none)
          by (Some a) some = says_first m a.body (ap (option_map said) some)

      counted : len (nodes_after e nodes) + length (left_in e) ≡ len nodes + length (joined_in e)
      counted =
          let gone = without_length (numbers e.gone) third hn.gone_once gone_there in
          let g = length-map e.gone (λ (p : ℕ × Object). p.0) in
          let t1 = tell_length (map arriving e.into) second in
          let t2 = tell_length e.amended first in
          let entered' = enter_length (entering e) nodes distinct in
          let ns = ap (λ (ms : List ℕ). many (fresh nodes) ms) (nums_are ∙ map_append (λ (p : ℕ × Object). p.0) e.top_join (joined_in e)) in
          let parts = many-append (fresh nodes) (numbers e.top_join) (numbers (joined_in e)) in
          let tops =
          none_new nodes (numbers e.top_join)
          (λ n at.
          let p = from_map (λ (q : ℕ × Object). q.0) e.top_join n at in
          (root_node.0, ap (get nodes) (sym p.2 ∙ (top_node p.0 p.1).0) ∙ root_node.1)) in
          let shuffled =
          many_permuted (fresh nodes) (numbers (joined_in e)) (numbers (e.come ++ map (turned e) e.moving))
          (IsPermutation-map (λ (p : ℕ × Object). p.0) (joined_in e) (e.come ++ map (turned e) e.moving) is.joined) in
          let cut = ap (λ (ms : List ℕ). many (fresh nodes) ms)
          (map_append (λ (p : ℕ × Object). p.0) e.come (map (turned e) e.moving) ∙ ap (λ (ms : List ℕ). numbers e.come ++ ms) (map_map (λ (p : ℕ × Object). p.0) (turned e) e.moving)) in
          let both = many-append (fresh nodes) (numbers e.come) (numbers e.moving) in
          let come =
          all_new nodes (numbers e.come) (λ n at. let p = from_map (λ (q : ℕ × Object). q.0) e.come n at in ap (get nodes) (sym p.2) ∙ hn.new p.0 p.1) in
          let c = length-map e.come (λ (p : ℕ × Object). p.0) in
          let moving =
          none_new nodes (numbers e.moving)
          (λ n at.
          let p = from_map (λ (q : ℕ × Object). q.0) e.moving n at in
          let a = left_node p.0 (moving_left p.0 p.1) in
          (a.0, ap (get nodes) (sym p.2) ∙ a.1)) in
          let left = length_permutation (left_in e) (e.gone ++ e.moving) is.left in
          let left2 = length-append e.gone e.moving in
          let joined = length_permutation (joined_in e) (e.come ++ map (turned e) e.moving) is.joined in
          let joined2 = length-append e.come (map (turned e) e.moving) in
          let m = length-map e.moving (turned e) in
          omega (arith, gone, g, t1, t2, entered', ns, parts, tops, shuffled, cut, both, come, c, moving, left, left2, joined, joined2, m)

pub after_law : AfterLaw
after_law nodes layout listings e h is hn = after_edited nodes layout listings e h is hn
