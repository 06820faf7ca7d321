-- An edit with identifiers that move is an edit.
use Rattle.std.proofs.Common.{◌≡◌, ◌⊎◌, inl, inr, ⊎_elim, ℕ, Bool, true, false, not, cond, List, [], ◌∷◌, ◌++◌, map, flat_map, refl, sym, ap, ap₂, subst, ◌∙◌, Some}
use Rattle.std.specs.Prelude.{Contains, IsPermutation, filter}
use Rattle.std.proofs.lemmas.List.{append-nil, append_assoc}
use Rattle.std.proofs.lemmas.List.Elements.{Contains-append_cases, Contains-append_left, Contains-append_right}
use Rattle.std.proofs.lemmas.List.Sorted.{IsPermutation-append_left, IsPermutation-append_right, IsPermutation-map, IsPermutation-refl, IsPermutation-trans}
use Rattle.fc_names.specs.Names.{Path, is_directory}
use Rattle.fc_dirs.specs.declared.Entry.{Entry}
use Rattle.fc_image.specs.Layout.{Layout}
use Rattle.fc_image.specs.Walk.{Listing, Object}
use Rattle.fc_image.specs.Objects.{objects_of}
use Rattle.fc_tree.specs.Nodes.{number_of}
use Rattle.fc_tree.proofs.MemberLemmas.{contains_here, from_flat, from_map, in_map, no_element}
use Rattle.fc_tree.proofs.WalkedLemmas.{same_some, root_path}
use Rattle.fc_laws.specs.nodes.Laws.{IsHeld}
use Rattle.fc_laws.proofs.lemmas.nodes.ListLemmas.{in_first, in_other}
use Rattle.fc_laws.proofs.lemmas.nodes.OtherLemmas.{top_object}
use Rattle.fc_edits.specs.Edit.{Amended, Edit, IsAmended, IsEdit, KeepsEntry, TopStays, TopTurns, joined_in, leaving, left_in, numbers, objects, turned}
use Rattle.fc_edits.proofs.lemmas.ListLemmas.{flat_mapped, in_flat, map_flat, map_map, parted}
use Rattle.fc_edits.proofs.lemmas.NumberLemmas as n_
use Rattle.fc_edits.proofs.lemmas.ShapeLemmas.{only}
use Rattle.fc_safeedits.specs.Relocation.{Relocation, all_amended, amended_in, carried, is_moved, laid_at, laid_in, number_at, relocated, turned_at, turned_in}
use Rattle.fc_safeedits.proofs.lemmas.LaidLemmas.{all_amend, all_child, all_kid, all_listed, all_object, carried_objects, from_carried, in_carried, joined_all, kid_keeps, kids_all, kids_parted, laid_entry, laid_path, laid_still, left_all, moved_entry, ne, number_is, was_all}
use Rattle.std.proofs.lemmas.Bool.{false_from_ne_true as unless}
use Rattle.fc_image.proofs.TreeLemmas.{map_both as map_append}
use Rattle.fc_edits.proofs.lemmas.AroundLemmas.{mapped_same as map_same}
use Rattle.fc_image.proofs.EntriesLemmas.{later as contains_later, cases as contains_cases}

module _ (x : Relocation) where
  abbrev e : Edit
  e = x.edit

  abbrev pub e' : Edit
  e' = relocated x

  abbrev is : IsEdit x.nodes x.listings e
  is = x.is_edit

  abbrev h : IsHeld x.nodes (Layout.New x.m) x.listings
  h = x.held

  abbrev f : Object → Object
  f = laid_in x

  abbrev moved : Object → Bool
  moved = is_moved x.moves

  -- what is carried along in all directories
  abbrev pub extra : List (ℕ × Object)
  extra = flat_map (λ (a : Amended). carried x a.kids) (all_amended x)

  pub turned_path : (o : Object) → (turned_in x o).path ≡ (e.turn o).path
  turned_path o = laid_path x.m' x.moves (e.turn o)

  pub turned_entry : (o : Object) → (turned_in x o).entry ≡ (e.turn o).entry
  turned_entry o = laid_entry x.m' x.moves (e.turn o)

  -- ---- each directory

  module _ (a : Amended) (at : Contains (all_amended x) a) where
    abbrev i : IsAmended x.nodes e a
    i = all_amend x a at

    abbrev move : List Object
    move = filter moved a.kids

    abbrev rest : List Object
    rest = filter (λ (o : Object). not (moved o)) a.kids

    leaves_objects : objects (a.leave ++ carried x a.kids) ≡ objects a.leave ++ move
    leaves_objects = map_append (λ (p : ℕ × Object). p.1) a.leave (carried x a.kids) ∙ ap (λ (os : List Object). objects a.leave ++ os) (carried_objects x a.kids)

    held' : IsPermutation a.was.children (objects (a.leave ++ carried x a.kids) ++ rest)
    held' =
        subst (IsPermutation a.was.children) (sym (append_assoc (objects a.leave) move rest) ∙ ap (λ (os : List Object). os ++ rest) (sym leaves_objects))
        (IsPermutation-trans a.was.children (objects a.leave ++ a.kids) (objects a.leave ++ (move ++ rest)) i.held
        (IsPermutation-append_right (objects a.leave) a.kids (move ++ rest) (kids_parted x a.kids)))

    joins_objects : objects (map (laid_at x) a.join ++ map (turned_at x) (carried x a.kids)) ≡ map f (objects a.join) ++ map (turned_in x) move
    joins_objects =
        map_append (λ (p : ℕ × Object). p.1) (map (laid_at x) a.join) (map (turned_at x) (carried x a.kids))
        ∙ ap₂ (λ (os ps : List Object). os ++ ps)
        (map_map (λ (p : ℕ × Object). p.1) (laid_at x) a.join ∙ sym (map_map f (λ (p : ℕ × Object). p.1) a.join))
        (map_map (λ (p : ℕ × Object). p.1) (turned_at x) (carried x a.kids) ∙ sym (map_map (turned_in x) (λ (p : ℕ × Object). p.1) (carried x a.kids))
        ∙ ap (λ (os : List Object). map (turned_in x) os) (carried_objects x a.kids))

    holds' : IsPermutation (map f a.children) (objects (map (laid_at x) a.join ++ map (turned_at x) (carried x a.kids)) ++ map (turned_in x) rest)
    holds' =
        let all : IsPermutation (map f a.children) (map f (objects a.join) ++ map (turned_in x) a.kids) =
        subst (IsPermutation (map f a.children)) (map_append f (objects a.join) (map e.turn a.kids) ∙ ap (λ (os : List Object). map f (objects a.join) ++ os) (map_map f e.turn a.kids))
        (IsPermutation-map f a.children (objects a.join ++ map e.turn a.kids) i.holds) in
        let cut : IsPermutation (map (turned_in x) a.kids) (map (turned_in x) move ++ map (turned_in x) rest) =
        subst (IsPermutation (map (turned_in x) a.kids)) (map_append (turned_in x) move rest) (IsPermutation-map (turned_in x) a.kids (move ++ rest) (kids_parted x a.kids)) in
        subst (IsPermutation (map f a.children)) (sym (append_assoc (map f (objects a.join)) (map (turned_in x) move) (map (turned_in x) rest)) ∙ ap (λ (os : List Object). os ++ map (turned_in x) rest) (sym joins_objects))
        (IsPermutation-trans (map f a.children) (map f (objects a.join) ++ map (turned_in x) a.kids) (map f (objects a.join) ++ (map (turned_in x) move ++ map (turned_in x) rest)) all
        (IsPermutation-append_right (map f (objects a.join)) (map (turned_in x) a.kids) (map (turned_in x) move ++ map (turned_in x) rest) cut))

    carried_path : (q : ℕ × Object) → Contains (carried x a.kids) q → (turned_in x q.1).path ≡ (turned_in x a.was.object).path ++ (turned_in x q.1).entry.name ∷ []
    carried_path q there =
        let c = from_carried x a.kids q there in
        let o = q.1 in
        let object = all_object x a o at c.among in
        let kid = all_kid x a o at c.among in
        let n = number_at x.nodes o.path in
        let keeps = kid_keeps x o kid object in
        turned_path o
        ∙ is.paths a.was o n (n_.stay_in (ne x) a.was (all_listed x a at)) (all_child x a o at c.among) (number_is x o object) (n_.kid_away (ne x) o n kid (number_is x o object))
        ∙ ap₂ (λ (p : Path) (y : Entry). p ++ y.name ∷ []) (sym (turned_path a.was.object)) (sym keeps.entry ∙ sym (turned_entry o))

    pub amends' : IsAmended x.nodes e' (amended_in x a)
    amends' = record {
      number_is = i.number_is;
      held = held';
      holds = holds';
      stored = map_map (λ (o : Object). o.entry) f a.children ∙ map_same (λ (o : Object). (f o).entry) (λ (o : Object). o.entry) a.children (λ o kid. laid_entry x.m' x.moves o) ∙ i.stored;
      apart = i.apart;
      left = λ p there. ⊎_elim (λ first. i.left p first)
          (λ later.
          let c = from_carried x a.kids p later in
          number_is x p.1 (all_object x a p.1 at c.among) ∙ ap (λ (k : ℕ). Some k) (sym c.number))
          (Contains-append_cases a.leave (carried x a.kids) p there);
      paths = λ p there. ⊎_elim
          (λ first.
          let q = from_map (laid_at x) a.join p first in
          subst (λ (y : ℕ × Object). y.1.path ≡ (turned_in x a.was.object).path ++ y.1.entry.name ∷ []) q.2
          (laid_path x.m' x.moves q.0.1 ∙ i.paths q.0 q.1 ∙ ap₂ (λ (p : Path) (y : Entry). p ++ y.name ∷ []) (sym (turned_path a.was.object)) (sym (laid_entry x.m' x.moves q.0.1))))
          (λ later.
          let q = from_map (turned_at x) (carried x a.kids) p later in
          subst (λ (y : ℕ × Object). y.1.path ≡ (turned_in x a.was.object).path ++ y.1.entry.name ∷ []) q.2 (carried_path q.0 q.1))
          (Contains-append_cases (map (laid_at x) a.join) (map (turned_at x) (carried x a.kids)) p there);
    }

  -- ---- who leaves and joins

  pub left' : IsPermutation (left_in e') (left_in e ++ extra)
  left' =
      subst (λ (ps : List (ℕ × Object)). IsPermutation ps (left_in e ++ extra)) (sym (flat_mapped (λ (a : Amended). a.leave) (amended_in x) (all_amended x)))
      (subst (λ (ps : List (ℕ × Object)). IsPermutation (flat_map (λ (a : Amended). a.leave ++ carried x a.kids) (all_amended x)) (ps ++ extra)) (left_all x)
      (parted (λ (a : Amended). a.leave ++ carried x a.kids) (λ (a : Amended). a.leave) (λ (a : Amended). carried x a.kids) (all_amended x) (λ a at. IsPermutation-refl (a.leave ++ carried x a.kids))))

  pub joined' : IsPermutation (joined_in e') (map (laid_at x) (joined_in e) ++ map (turned_at x) extra)
  joined' =
      let g : Amended → List (ℕ × Object) = λ a. map (laid_at x) a.join in
      let k : Amended → List (ℕ × Object) = λ a. map (turned_at x) (carried x a.kids) in
      subst (λ (ps : List (ℕ × Object)). IsPermutation ps (map (laid_at x) (joined_in e) ++ map (turned_at x) extra)) (sym (flat_mapped (λ (a : Amended). a.join) (amended_in x) (all_amended x)))
      (subst (IsPermutation (flat_map (λ (a : Amended). g a ++ k a) (all_amended x)))
      (ap₂ (λ (ps qs : List (ℕ × Object)). ps ++ qs) (sym (map_flat (laid_at x) (λ (a : Amended). a.join) (all_amended x)) ∙ ap (λ (ps : List (ℕ × Object)). map (laid_at x) ps) (joined_all x))
      (sym (map_flat (turned_at x) (λ (a : Amended). carried x a.kids) (all_amended x))))
      (parted (λ (a : Amended). g a ++ k a) g k (all_amended x) (λ a at. IsPermutation-refl (g a ++ k a))))

  come_same : map (laid_at x) e.come ≡ e.come
  come_same = still e.come (λ p at. at)
    where
      still : (ps : List (ℕ × Object)) → ((p : ℕ × Object) → Contains ps p → Contains e.come p) → map (laid_at x) ps ≡ ps
      still [] among = refl
      still (p ∷ ps) among =
          ap₂ (λ (q : ℕ × Object) (qs : List (ℕ × Object)). q ∷ qs) (ap (λ (o : Object). let q : ℕ × Object = (p.0, o) in q) (laid_still x.m' x.moves p.1 (x.elsewhere p (among p (contains_here p ps)))))
          (still ps (λ q at. among q (contains_later p q ps at)))

  -- ---- the root

  pub the_top : (o : Object) → Contains (objects_of x.listings) o → o.path ≡ [] → x.top ≡ o
  the_top o at path =
      top_object (Layout.New x.m) x.listings x.nodes h.sound h.held x.top x.top_in x.top_path ∙ sym (top_object (Layout.New x.m) x.listings x.nodes h.sound h.held o at path)

  -- what stays as it is by the edit, and isn't laid anew, stays as it is
  still_keeps : (o : Object) → KeepsEntry e o → moved o ≡ false → KeepsEntry e' o
  still_keeps o keeps m =
      let same = laid_still x.m' x.moves (e.turn o) (moved_entry x.moves (e.turn o) o keeps.entry ∙ m) in
      record { entry = ap (λ (p : Object). p.entry) same ∙ keeps.entry; sectors = ap (λ (p : Object). p.sectors) same ∙ keeps.sectors }

  top' : TopStays e x.top ⊎ TopTurns e x.top → TopStays e' x.top ⊎ TopTurns e' x.top
  top' was = by (moved x.top) refl was
    where
      by : (b : Bool) → moved x.top ≡ b → TopStays e x.top ⊎ TopTurns e x.top → TopStays e' x.top ⊎ TopTurns e' x.top
      by true m t = inr (record {
        leaves = ap (λ (b : Bool). cond b ((0, x.top) ∷ []) e.top_leave) m;
        joins = ap (λ (b : Bool). cond b ((0, turned_in x x.top) ∷ []) (map (laid_at x) e.top_join)) m;
      })
      by false m (inl t) = inl (record {
        leaves = ap (λ (b : Bool). cond b ((0, x.top) ∷ []) e.top_leave) m ∙ t.leaves;
        joins = ap (λ (b : Bool). cond b ((0, turned_in x x.top) ∷ []) (map (laid_at x) e.top_join)) m ∙ ap (λ (ps : List (ℕ × Object)). map (laid_at x) ps) t.joins;
        keeps = still_keeps x.top t.keeps m;
      })
      by false m (inr t) = inr (record {
        leaves = ap (λ (b : Bool). cond b ((0, x.top) ∷ []) e.top_leave) m ∙ t.leaves;
        joins = ap (λ (b : Bool). cond b ((0, turned_in x x.top) ∷ []) (map (laid_at x) e.top_join)) m ∙ ap (λ (ps : List (ℕ × Object)). map (laid_at x) ps) t.joins;
      })

  -- ---- numbers that leave

  pub left_more : (n : ℕ) → Contains (numbers (left_in e)) n → Contains (numbers (left_in e')) n
  left_more n at =
      let q = from_map (λ (p : ℕ × Object). p.0) (left_in e) n at in
      subst (Contains (numbers (left_in e'))) q.2
      (in_map (λ (p : ℕ × Object). p.0) (left_in e') q.0 (in_first (left_in e') (left_in e ++ extra) left' q.0 (Contains-append_left (left_in e) extra q.0 q.1)))

  pub leaving_more : (n : ℕ) → Contains (numbers (leaving e)) n → Contains (numbers (leaving e')) n
  leaving_more n at =
      subst (λ (ns : List ℕ). Contains ns n) (sym (map_append (λ (p : ℕ × Object). p.0) e'.top_leave (left_in e')))
      (⊎_elim (λ own. Contains-append_left (numbers e'.top_leave) (numbers (left_in e')) n (top_more (moved x.top) own)) (λ later. Contains-append_right (numbers e'.top_leave) (numbers (left_in e')) n (left_more n later))
      (n_.in_numbers (ne x) e.top_leave (left_in e) n at))
    where
      zero_top : (ps : List (ℕ × Object)) → TopStays e x.top ⊎ TopTurns e x.top → e.top_leave ≡ ps → Contains (numbers ps) n → n ≡ 0
      zero_top ps (inl t) same there = absurd (no_element n (subst (λ (qs : List (ℕ × Object)). Contains (numbers qs) n) (sym same ∙ t.leaves) there))
      zero_top ps (inr t) same there = sym (only 0 n (subst (λ (qs : List (ℕ × Object)). Contains (numbers qs) n) (sym same ∙ t.leaves) there))

      top_more : (b : Bool) → Contains (numbers e.top_leave) n → Contains (numbers (cond b ((0, x.top) ∷ []) e.top_leave)) n
      top_more true there = subst (Contains (0 ∷ [])) (sym (zero_top e.top_leave (is.top x.top x.top_in x.top_path) refl there)) (contains_here 0 [])
      top_more false there = there

  -- an object that is laid anew leaves
  pub moved_leaves : (o : Object) → Contains (objects_of x.listings) o → moved o ≡ true → Contains (numbers (leaving e')) (number_at x.nodes o.path)
  moved_leaves o at m = by (in_other (objects_of x.listings) (n_.top (ne x) ∷ (objects (left_in e) ++ n_.kids (ne x))) (n_.all_parted (ne x)) o at)
    where
      n : ℕ
      n = number_at x.nodes o.path

      top_number : n_.top (ne x) ≡ o → n ≡ 0
      top_number same =
          let path : o.path ≡ [] = ap (λ (p : Object). p.path) (sym same) ∙ root_path (Layout.New x.m) x.listings h.sound in
          ap (number_at x.nodes) path

      in_top : n_.top (ne x) ≡ o → Contains (numbers (leaving e')) n
      in_top same =
          let path : o.path ≡ [] = ap (λ (p : Object). p.path) (sym same) ∙ root_path (Layout.New x.m) x.listings h.sound in
          let m' : moved x.top ≡ true = ap moved (the_top o at path) ∙ m in
          let leaves : e'.top_leave ≡ (0, x.top) ∷ [] = ap (λ (b : Bool). cond b ((0, x.top) ∷ []) e.top_leave) m' in
          subst (λ (ps : List (ℕ × Object)). Contains (numbers (ps ++ left_in e')) n) (sym leaves) (subst (Contains (0 ∷ numbers (left_in e'))) (sym (top_number same)) (contains_here 0 (numbers (left_in e'))))

      below : Contains (numbers (left_in e')) n → Contains (numbers (leaving e')) n
      below there =
          subst (λ (ns : List ℕ). Contains ns n) (sym (map_append (λ (p : ℕ × Object). p.0) e'.top_leave (left_in e'))) (Contains-append_right (numbers e'.top_leave) (numbers (left_in e')) n there)

      in_left : Contains (objects (left_in e)) o → Contains (numbers (leaving e')) n
      in_left there =
          let q = from_map (λ (p : ℕ × Object). p.1) (left_in e) o there in
          let a = from_flat (λ (b : Amended). b.leave) e.amended q.0 q.1 in
          let number : number_of x.nodes o.path ≡ Some q.0.0 = ap (λ (p : Object). number_of x.nodes p.path) (sym q.2) ∙ (is.amends a.0 a.1).left q.0 a.2 in
          leaving_more n (n_.left_leaves (ne x) n (subst (Contains (numbers (left_in e))) (same_some q.0.0 n (sym number ∙ number_is x o at)) (in_map (λ (p : ℕ × Object). p.0) (left_in e) q.0 q.1)))

      in_kids : Contains (n_.kids (ne x)) o → Contains (numbers (leaving e')) n
      in_kids there =
          let a = from_flat (λ (b : Amended). b.kids) (all_amended x) o (subst (λ (os : List Object). Contains os o) (sym (kids_all x)) there) in
          let c = in_carried x a.0.kids o a.2 m in
          let up = in_flat (λ (b : Amended). carried x b.kids) (all_amended x) a.0 (n, o) a.1 c in
          below (in_map (λ (p : ℕ × Object). p.0) (left_in e') (n, o) (in_first (left_in e') (left_in e ++ extra) left' (n, o) (Contains-append_right (left_in e) extra (n, o) up)))

      by : Contains (n_.top (ne x) ∷ (objects (left_in e) ++ n_.kids (ne x))) o → Contains (numbers (leaving e')) n
      by there =
          ⊎_elim in_top (λ later. ⊎_elim in_left in_kids (Contains-append_cases (objects (left_in e)) (n_.kids (ne x)) o later)) (contains_cases (n_.top (ne x)) o (objects (left_in e) ++ n_.kids (ne x)) there)

  pub still_there : (o : Object) (n : ℕ) → Contains (objects_of x.listings) o → number_of x.nodes o.path ≡ Some n → (Contains (numbers (leaving e')) n → ⊥) → moved o ≡ false
  still_there o n at number stays = unless (moved o) (λ m. stays (subst (Contains (numbers (leaving e'))) (same_some (number_at x.nodes o.path) n (sym (number_is x o at) ∙ number)) (moved_leaves o at m)))

  -- ---- the edit

  pub is_edit' : IsEdit x.nodes x.listings e'
  is_edit' = record {
    found = subst (λ (ks : List Listing). IsPermutation x.listings (e.out ++ ks)) (sym (map_map (λ (a : Amended). a.was) (amended_in x) (all_amended x) ∙ was_all x) ∙ sym (append-nil (map (λ (a : Amended). a.was) e'.amended))) is.found;
    amends = λ b at. (let a = from_map (amended_in x) (all_amended x) b at in subst (IsAmended x.nodes e') a.2 (amends' a.0 a.1));
    out_gone = is.out_gone;
    out_empty = is.out_empty;
    into_come = is.into_come;
    into_empty = is.into_empty;
    into_joins = is.into_joins;
    left = subst (IsPermutation (left_in e')) (append_assoc e.gone e.moving extra)
        (IsPermutation-trans (left_in e') (left_in e ++ extra) ((e.gone ++ e.moving) ++ extra) left' (IsPermutation-append_left extra (left_in e) (e.gone ++ e.moving) is.left));
    joined = joined_now;
    kinds = λ o. ap (λ (y : Entry). is_directory y.attrs) (turned_entry o) ∙ is.kinds o;
    top_path = λ o at path. turned_path o ∙ is.top_path o at path;
    top = λ o at path. (let same = the_top o at path in subst (λ (p : Object). TopStays e' p ⊎ TopTurns e' p) same (top' (is.top x.top x.top_in x.top_path)));
    keeps = λ o n at number stays. still_keeps o (is.keeps o n at number (λ there. stays (leaving_more n there))) (still_there o n at number stays);
    paths = λ k o n listed kid number stays. turned_path o ∙ is.paths k o n listed kid number (λ there. stays (leaving_more n there)) ∙ ap (λ (p : Path). p ++ o.entry.name ∷ []) (sym (turned_path k.object));
  }
    where
      joined_now : IsPermutation (joined_in e') (e.come ++ map (turned e') (e.moving ++ extra))
      joined_now =
          let was : IsPermutation (map (laid_at x) (joined_in e)) (e.come ++ map (turned e') e.moving) =
          subst (IsPermutation (map (laid_at x) (joined_in e)))
          (map_append (laid_at x) e.come (map (turned e) e.moving) ∙ ap₂ (λ (ps qs : List (ℕ × Object)). ps ++ qs) come_same (map_map (laid_at x) (turned e) e.moving))
          (IsPermutation-map (laid_at x) (joined_in e) (e.come ++ map (turned e) e.moving) is.joined) in
          subst (IsPermutation (joined_in e'))
          (append_assoc e.come (map (turned e') e.moving) (map (turned_at x) extra) ∙ ap (λ (ps : List (ℕ × Object)). e.come ++ ps) (sym (map_append (turned e') e.moving extra)))
          (IsPermutation-trans (joined_in e') (map (laid_at x) (joined_in e) ++ map (turned_at x) extra) ((e.come ++ map (turned e') e.moving) ++ map (turned_at x) extra) joined'
          (IsPermutation-append_left (map (turned_at x) extra) (map (laid_at x) (joined_in e)) (e.come ++ map (turned e') e.moving) was))
