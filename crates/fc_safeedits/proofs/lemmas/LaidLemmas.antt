-- Objects that are laid anew, and the directories that hold them, before they are.
use Rattle.std.proofs.Common.{◌≡◌, ◌⊎◌, inl, inr, ⊎_elim, ℕ, ◌/◌, Bool, true, false, not, cond, List, [], ◌∷◌, ◌++◌, map, flat_map, refl, sym, ap, subst, ◌∙◌, Option, Some}
use Rattle.std.specs.Prelude.{Contains, IsPermutation, filter}
use Rattle.std.specs.Option.{option_map_or}
use Rattle.std.proofs.lemmas.List.{append-nil, map-id}
use Rattle.std.proofs.lemmas.List.Elements.{Contains-append_cases, Contains-append_right}
use Rattle.std.proofs.lemmas.List.Sorted.{IsPermutation-filter_both, IsPermutation-refl}
use Rattle.fc_dirs.specs.declared.Entry.{Entry}
use Rattle.fc_newmap.specs.Map.{Map}
use Rattle.fc_image.specs.Layout.{Layout}
use Rattle.fc_image.specs.Walk.{Listing, Object}
use Rattle.fc_image.specs.Objects.{objects_of}
use Rattle.fc_image.specs.Moves.{object_in}
use Rattle.fc_image.specs.Order.{held}
use Rattle.fc_tree.specs.Nodes.{number_of}
use Rattle.fc_tree.proofs.MemberLemmas.{contains_here, from_map, in_filter, in_map, no_element}
use Rattle.fc_tree.proofs.SoundLemmas.{children_stored}
use Rattle.fc_tree.proofs.WalkedLemmas.{child_is_object, listed_directory}
use Rattle.fc_laws.specs.nodes.Laws.{IsHeld}
use Rattle.fc_laws.proofs.lemmas.nodes.ListLemmas.{in_first}
use Rattle.fc_edits.specs.Edit.{Amended, Edit, IsAmended, KeepsEntry, joined_in, left_in, objects}
use Rattle.fc_edits.specs.NodesEdit.{NodesEdit}
use Rattle.fc_edits.proofs.lemmas.ListLemmas.{flat_mapped, in_flat, map_map}
use Rattle.fc_edits.proofs.lemmas.NumberLemmas as n_
use Rattle.fc_edits.proofs.lemmas.ShapeLemmas.{none_flat}
use Rattle.fc_safeedits.specs.Relocation.{Relocation, all_amended, carried, is_moved, laid, number_at, told_again, unmoved}
use Rattle.fc_image.proofs.ShuffleLemmas.{flat_map-append as flat_append}
use Rattle.fc_image.proofs.TreeLemmas.{map_both as map_append}
use Rattle.fc_edits.proofs.lemmas.AroundLemmas.{mapped_same as map_same}
use Rattle.fc_image.proofs.EntriesLemmas.{later as contains_later, cases as contains_cases}

-- ---- one object

pub laid_path : (m' : Map) (moves : ℕ → Bool) (o : Object) → (laid m' moves o).path ≡ o.path
laid_path m' moves o = by (is_moved moves o)
  where
    by : (b : Bool) → (cond b (object_in (Layout.New m') o) o).path ≡ o.path
    by true = refl
    by false = refl

pub laid_entry : (m' : Map) (moves : ℕ → Bool) (o : Object) → (laid m' moves o).entry ≡ o.entry
laid_entry m' moves o = by (is_moved moves o)
  where
    by : (b : Bool) → (cond b (object_in (Layout.New m') o) o).entry ≡ o.entry
    by true = refl
    by false = refl

pub laid_there : (m' : Map) (moves : ℕ → Bool) (o : Object) → is_moved moves o ≡ true → laid m' moves o ≡ object_in (Layout.New m') o
laid_there m' moves o moved = ap (λ (b : Bool). cond b (object_in (Layout.New m') o) o) moved

pub laid_still : (m' : Map) (moves : ℕ → Bool) (o : Object) → is_moved moves o ≡ false → laid m' moves o ≡ o
laid_still m' moves o still = ap (λ (b : Bool). cond b (object_in (Layout.New m') o) o) still

pub moved_entry : (moves : ℕ → Bool) (o p : Object) → o.entry ≡ p.entry → is_moved moves o ≡ is_moved moves p
moved_entry moves o p same = ap (λ (e : Entry). moves (e.address / 256)) same

-- ---- lists

-- what passes a test
pub passes : {X : Type 0} (t : X → Bool) (xs : List X) (x : X) → Contains (filter t xs) x → Contains xs x × (t x ≡ true)
passes t [] x at = absurd (no_element x at)
passes {X} t (y ∷ xs) x at = by (t y) refl (passes t xs x) at
  where
    by : (b : Bool) → t y ≡ b → (Contains (filter t xs) x → Contains xs x × (t x ≡ true)) → Contains (cond b (y ∷ filter t xs) (filter t xs)) x → Contains (y ∷ xs) x × (t x ≡ true)
    by true h more there =
        ⊎_elim (λ same. (subst (Contains (y ∷ xs)) same (contains_here y xs), ap t (sym same) ∙ h)) (λ later. let r = more later in (contains_later y x xs r.0, r.1))
        (contains_cases y x (filter t xs) there)
    by false h more there = let r = more there in (contains_later y x xs r.0, r.1)

module _ (x : Relocation) where
  abbrev e : Edit
  e = x.edit

  abbrev listings : List Listing
  listings = x.listings

  abbrev h : IsHeld x.nodes (Layout.New x.m) listings
  h = x.held

  abbrev pub ne : NodesEdit
  ne = unmoved x

  -- ---- numbers

  pub number_is : (o : Object) → Contains (objects_of listings) o → number_of x.nodes o.path ≡ Some (number_at x.nodes o.path)
  number_is o at = let n = h.held.each o at in n.at_path ∙ ap (λ (q : Option ℕ). Some (option_map_or (λ k. k) q 0)) (sym n.at_path)

  pub kid_object : (k : Listing) (o : Object) → Contains listings k → Contains k.children o → Contains (objects_of listings) o
  kid_object k o at kid = child_is_object (Layout.New x.m) listings h.sound k o at kid

  pub carried_objects : (os : List Object) → objects (carried x os) ≡ filter (is_moved x.moves) os
  carried_objects os = map_map (λ (p : ℕ × Object). p.1) (λ (o : Object). (number_at x.nodes o.path, o)) (filter (is_moved x.moves) os) ∙ map-id (filter (is_moved x.moves) os)

  pub record FromCarried (os : List Object) (p : ℕ × Object) : Type 0 where
    pub among : Contains os p.1
    pub moved : is_moved x.moves p.1 ≡ true
    pub number : p.0 ≡ number_at x.nodes p.1.path

  pub from_carried : (os : List Object) (p : ℕ × Object) → Contains (carried x os) p → FromCarried os p
  from_carried os p at =
      let q = from_map (λ (o : Object). (number_at x.nodes o.path, o)) (filter (is_moved x.moves) os) p at in
      let there = passes (is_moved x.moves) os q.0 q.1 in
      subst (FromCarried os) q.2 (record { among = there.0; moved = there.1; number = refl })

  pub in_carried : (os : List Object) (o : Object) → Contains os o → is_moved x.moves o ≡ true → Contains (carried x os) (number_at x.nodes o.path, o)
  in_carried os o at moved = in_map (λ (p : Object). (number_at x.nodes p.path, p)) (filter (is_moved x.moves) os) o (in_filter (is_moved x.moves) os o at moved)

  -- ---- the directories

  pub kid_keeps : (o : Object) → Contains (n_.kids ne) o → Contains (objects_of listings) o → KeepsEntry e o
  kid_keeps o kid at = x.is_edit.keeps o (number_at x.nodes o.path) at (number_is o at) (n_.kid_away ne o (number_at x.nodes o.path) kid (number_is o at))

  same_kid : (k : Listing) (o : Object) → Contains e.same k → Contains k.children o → Contains (n_.kids ne) o
  same_kid k o at kid = Contains-append_right (flat_map (λ (a : Amended). a.kids) e.amended) (held e.same) o (in_flat (λ (l : Listing). l.children) e.same k o at kid)

  pub same_listed : (k : Listing) → Contains e.same k → Contains listings k
  same_listed k at = n_.stay_in ne k (n_.same_in ne k at)

  told_amends : (k : Listing) → Contains e.same k → IsAmended x.nodes e (told_again x k)
  told_amends k at =
      let there = same_listed k at in
      record {
        number_is = number_is k.object (listed_directory (Layout.New x.m) listings h.sound k there).0;
        held = IsPermutation-refl k.children;
        holds = IsPermutation-refl (map e.turn k.children);
        stored = map_map (λ (o : Object). o.entry) e.turn k.children
            ∙ map_same (λ (o : Object). (e.turn o).entry) (λ (o : Object). o.entry) k.children (λ o kid. (kid_keeps o (same_kid k o at kid) (kid_object k o there kid)).entry)
            ∙ children_stored (Layout.New x.m) listings h.sound k there;
        apart = h.sound.apart k there;
        left = λ p there'. absurd (no_element p there');
        paths = λ p there'. absurd (no_element p there');
      }

  -- which of them says something else
  pub amended_or_told : (a : Amended) → Contains (all_amended x) a → Contains e.amended a ⊎ ((k : Listing) × Contains e.same k × (told_again x k ≡ a))
  amended_or_told a at = ⊎_elim (λ first. inl first) (λ later. inr (from_map (told_again x) e.same a later)) (Contains-append_cases e.amended (map (told_again x) e.same) a at)

  pub all_amend : (a : Amended) → Contains (all_amended x) a → IsAmended x.nodes e a
  all_amend a at = ⊎_elim (λ first. x.is_edit.amends a first) (λ k. subst (IsAmended x.nodes e) k.2 (told_amends k.0 k.1)) (amended_or_told a at)

  pub all_listed : (a : Amended) → Contains (all_amended x) a → Contains (n_.stay ne) a.was
  all_listed a at = ⊎_elim (λ first. n_.was_in ne a first) (λ k. subst (λ (b : Amended). Contains (n_.stay ne) b.was) k.2 (n_.same_in ne k.0 k.1)) (amended_or_told a at)

  pub was_all : map (λ (a : Amended). a.was) (all_amended x) ≡ map (λ (a : Amended). a.was) e.amended ++ e.same
  was_all =
      map_append (λ (a : Amended). a.was) e.amended (map (told_again x) e.same)
      ∙ ap (λ (ks : List Listing). map (λ (a : Amended). a.was) e.amended ++ ks) (map_map (λ (a : Amended). a.was) (told_again x) e.same ∙ map-id e.same)

  pub left_all : flat_map (λ (a : Amended). a.leave) (all_amended x) ≡ left_in e
  left_all =
      flat_append (λ (a : Amended). a.leave) e.amended (map (told_again x) e.same)
      ∙ ap (λ (ps : List (ℕ × Object)). left_in e ++ ps) (none_flat (λ (a : Amended). a.leave) (told_again x) e.same (λ k. refl)) ∙ append-nil (left_in e)

  pub joined_all : flat_map (λ (a : Amended). a.join) (all_amended x) ≡ joined_in e
  joined_all =
      flat_append (λ (a : Amended). a.join) e.amended (map (told_again x) e.same)
      ∙ ap (λ (ps : List (ℕ × Object)). joined_in e ++ ps) (none_flat (λ (a : Amended). a.join) (told_again x) e.same (λ k. refl)) ∙ append-nil (joined_in e)

  pub kids_all : flat_map (λ (a : Amended). a.kids) (all_amended x) ≡ n_.kids ne
  kids_all =
      flat_append (λ (a : Amended). a.kids) e.amended (map (told_again x) e.same)
      ∙ ap (λ (os : List Object). flat_map (λ (a : Amended). a.kids) e.amended ++ os) (flat_mapped (λ (a : Amended). a.kids) (told_again x) e.same)

  pub all_kid : (a : Amended) (o : Object) → Contains (all_amended x) a → Contains a.kids o → Contains (n_.kids ne) o
  all_kid a o at kid = subst (λ (os : List Object). Contains os o) kids_all (in_flat (λ (b : Amended). b.kids) (all_amended x) a o at kid)

  pub all_child : (a : Amended) (o : Object) → Contains (all_amended x) a → Contains a.kids o → Contains a.was.children o
  all_child a o at kid = in_first a.was.children (objects a.leave ++ a.kids) (all_amend a at).held o (Contains-append_right (objects a.leave) a.kids o kid)

  pub all_object : (a : Amended) (o : Object) → Contains (all_amended x) a → Contains a.kids o → Contains (objects_of listings) o
  all_object a o at kid = kid_object a.was o (n_.stay_in ne a.was (all_listed a at)) (all_child a o at kid)

  -- what is laid anew, and what isn't
  pub kids_parted : (os : List Object) → IsPermutation os (filter (is_moved x.moves) os ++ filter (λ (o : Object). not (is_moved x.moves o)) os)
  kids_parted os = IsPermutation-filter_both (is_moved x.moves) (λ (o : Object). not (is_moved x.moves o)) (λ o. refl) os
