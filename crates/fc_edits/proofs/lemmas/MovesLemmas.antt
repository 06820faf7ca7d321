-- `rename` as an edit, if no file is copied: an object moves, whatever its directories say of it.
use Rattle.std.proofs.Common.{◌≡◌, ◌<◌, inl, ⊎_elim, ℕ, Bool, false, cond, flat_map, List, [], ◌∷◌, ◌++◌, length, map, refl, sym, ap, ap₂, subst, ◌∙◌, arith, Some}
use Rattle.std.specs.Prelude.{Contains, IsPermutation}
use Rattle.std.proofs.lemmas.List.{append-nil, append_assoc, length_push}
use Rattle.std.proofs.lemmas.List.Elements.{Contains-append_cases, Contains-append_left, Contains-append_right}
use Rattle.std.proofs.lemmas.List.Sorted.{IsPermutation-refl}
use Rattle.fc_names.specs.Names.{Path, is_same_path}
use Rattle.fc_model.specs.Tree.{last_name}
use Rattle.fc_dirs.specs.declared.Entry.{Entry}
use Rattle.fc_dirs.specs.Entries.{first_twin}
use Rattle.fc_dirs.specs.Directory.{Directory, entries_of}
use Rattle.fc_image.specs.Layout.{Layout}
use Rattle.fc_image.specs.Walk.{Listing, Object}
use Rattle.fc_image.specs.Objects.{objects_of}
use Rattle.fc_image.specs.Commanded.{moved_path}
use Rattle.fc_image.proofs.RelistLemmas.{root_path_stays}
use Rattle.fc_tree.specs.Nodes.{number_of}
use Rattle.fc_tree.proofs.MemberLemmas.{contains_here, from_flat, from_map, in_map, no_element}
use Rattle.fc_tree.proofs.SoundLemmas.{children_stored}
use Rattle.fc_tree.proofs.WalkedLemmas.{child_is_object, child_path}
use Rattle.fc_laws.specs.nodes.Edits.{Nodes}
use Rattle.fc_laws.specs.nodes.Laws.{IsHeld}
use Rattle.fc_laws.proofs.lemmas.nodes.FitsLemmas.{kid_lower}
use Rattle.fc_laws.proofs.lemmas.nodes.ListLemmas.{in_first}
use Rattle.fc_laws.proofs.lemmas.nodes.MovingLemmas.{moved_step}
use Rattle.fc_laws.proofs.lemmas.nodes.OtherLemmas.{unlike}
use Rattle.fc_edits.specs.NewNodes.{AreDistinct, HasNumbers, nodes_after}
use Rattle.fc_edits.specs.Edit.{Amended, AreEdited, IsAmended, IsEdit, KeepsEntry, joined_in, left_in, numbers, objects}
use Rattle.fc_edits.specs.Moving.{Moves, Moving, edit, itself, moved, new_path}
use Rattle.fc_edits.proofs.lemmas.ListLemmas.{map_map}
use Rattle.fc_edits.proofs.lemmas.ShapeLemmas.{none_flat, not_own}
use Rattle.fc_edits.proofs.lemmas.AfterLemmas.{after_law}
use Rattle.fc_edits.proofs.lemmas.StillLemmas.{IsStill}
use Rattle.fc_image.proofs.ShuffleLemmas.{flat_map-append as flat_append}
use Rattle.fc_image.proofs.TreeLemmas.{map_both as map_append}
use Rattle.fc_image.proofs.EntriesLemmas.{later as contains_later}

module _ (nodes : Nodes) (layout : Layout) (listings : List Listing) (c : Moving) (h : IsHeld nodes layout listings) (g : Moves nodes listings c) where
  pub left_is : left_in (edit c) ≡ (c.number, c.o) ∷ []
  left_is =
      flat_append (λ (a : Amended). a.leave) c.dirs (map (itself c) c.own)
      ∙ ap (λ (ps : List (ℕ × Object)). flat_map (λ (a : Amended). a.leave) c.dirs ++ ps) (none_flat (λ (a : Amended). a.leave) (itself c) c.own (λ d. refl))
      ∙ append-nil (flat_map (λ (a : Amended). a.leave) c.dirs) ∙ g.leaves

  pub joined_is : joined_in (edit c) ≡ (c.number, moved c c.o) ∷ []
  joined_is =
      flat_append (λ (a : Amended). a.join) c.dirs (map (itself c) c.own)
      ∙ ap (λ (ps : List (ℕ × Object)). flat_map (λ (a : Amended). a.join) c.dirs ++ ps) (none_flat (λ (a : Amended). a.join) (itself c) c.own (λ d. refl))
      ∙ append-nil (flat_map (λ (a : Amended). a.join) c.dirs) ∙ g.joins

  abbrev all : List Listing
  all = map (λ (a : Amended). a.was) c.dirs ++ (map (λ (d : Listing × Directory). d.0) c.own ++ c.rest)

  pub dir_in : (a : Amended) → Contains c.dirs a → Contains listings a.was
  dir_in a at =
      in_first listings all g.found a.was
      (Contains-append_left (map (λ (b : Amended). b.was) c.dirs) (map (λ (d : Listing × Directory). d.0) c.own ++ c.rest) a.was (in_map (λ (b : Amended). b.was) c.dirs a at))

  pub l_in : Contains listings c.l
  l_in = subst (Contains listings) g.there.2 (dir_in g.there.0 g.there.1)

  pub own_in : (d : Listing × Directory) → Contains c.own d → Contains listings d.0
  own_in d at =
      in_first listings all g.found d.0
      (Contains-append_right (map (λ (b : Amended). b.was) c.dirs) (map (λ (x : Listing × Directory). x.0) c.own ++ c.rest) d.0
      (Contains-append_left (map (λ (x : Listing × Directory). x.0) c.own) c.rest d.0 (in_map (λ (x : Listing × Directory). x.0) c.own d at)))

  -- the directory that holds the object before
  pub home : (a : Amended) × Contains c.dirs a × Contains a.was.children c.o
  home =
      let a = from_flat (λ (b : Amended). b.leave) c.dirs (c.number, c.o) (subst (λ (ps : List (ℕ × Object)). Contains ps (c.number, c.o)) (sym g.leaves) (contains_here (c.number, c.o) [])) in (
        a.0,
        a.1,
        in_first a.0.was.children (objects a.0.leave ++ a.0.kids) (g.amends a.0 a.1).held c.o
            (Contains-append_left (objects a.0.leave) a.0.kids c.o (in_map (λ (p : ℕ × Object). p.1) a.0.leave (c.number, c.o) a.2)),
      )

  pub home_in : Contains listings home.0.was
  home_in = dir_in home.0 home.1

  pub among : Contains (objects_of listings) c.o
  among = child_is_object layout listings h.sound home.0.was c.o home_in home.2

  pub lower : c.number ≡ 0 → ⊥
  lower = kid_lower layout listings nodes h.sound h.held home.0.was c.o c.number home_in home.2 g.number_is

  pub some : 0 < length c.o.path
  some =
      let path = ap (λ (p : Path). length p) (child_path layout listings h.sound home.0.was c.o home_in home.2) in
      let more = length_push home.0.was.object.path c.o.entry.name in
      omega (arith, path, more)

  -- an object of another number keeps its entry
  pub unspelled : (p : Object) (n : ℕ) → number_of nodes p.path ≡ Some n → (n ≡ c.number → ⊥) → is_same_path c.o.path p.path ≡ false
  unspelled p n is other = unlike nodes c.o.path p.path c.number n g.number_is is (λ e. other (sym e))

  keeps_entry : (p : Object) (n : ℕ) → number_of nodes p.path ≡ Some n → (n ≡ c.number → ⊥) → KeepsEntry (edit c) p
  keeps_entry p n is other = record { entry = ap (λ (b : Bool). record p.entry { name = cond b (last_name (new_path c)) p.entry.name }) (unspelled p n is other); sectors = refl }

  pub own_amended : (a : Amended) → Contains (map (itself c) c.own) a → (d : Listing × Directory) × Contains c.own d × (itself c d ≡ a)
  own_amended a at = from_map (itself c) c.own a at

  pub own_there : (d : Listing × Directory) → Contains c.own d → Contains (edit c).amended (itself c d)
  own_there d at = Contains-append_right c.dirs (map (itself c) c.own) (itself c d) (in_map (itself c) c.own d at)

  own_stored : (d : Listing × Directory) → Contains c.own d → map (λ (p : Object). p.entry) (map (moved c) d.0.children) ≡ entries_of d.0.content
  own_stored d there =
      map_map (λ (p : Object). p.entry) (moved c) d.0.children
      ∙ same_entries d.0.children (λ p kid.
      let n = h.held.each p (child_is_object layout listings h.sound d.0 p (own_in d there) kid) in
      (keeps_entry p n.number n.at_path (λ e.
      not_own nodes layout listings d.0 p c.number n.number h (own_in d there) kid (ap (λ (x : Object). number_of nodes x.path) (g.own_is d there).0 ∙ g.number_is) n.at_path (sym e))).entry)
      ∙ children_stored layout listings h.sound d.0 (own_in d there)
    where
      same_entries : (ps : List Object) → ((p : Object) → Contains ps p → (moved c p).entry ≡ p.entry) → map (λ (p : Object). (moved c p).entry) ps ≡ map (λ (p : Object). p.entry) ps
      same_entries [] each = refl
      same_entries (p ∷ ps) each = ap₂ (λ (x : Entry) (xs : List Entry). x ∷ xs) (each p (contains_here p ps)) (same_entries ps (λ q at'. each q (contains_later p q ps at')))

  own_is_amended : (d : Listing × Directory) → Contains c.own d → IsAmended nodes (edit c) (itself c d)
  own_is_amended d there = record {
    number_is = ap (λ (p : Object). number_of nodes p.path) (g.own_is d there).0 ∙ g.number_is;
    held = IsPermutation-refl d.0.children;
    holds = IsPermutation-refl (map (moved c) d.0.children);
    stored = own_stored d there ∙ sym (g.own_is d there).1;
    apart = ap first_twin (g.own_is d there).1 ∙ h.sound.apart d.0 (own_in d there);
    left = λ p none. absurd (no_element p none);
    paths = λ p none. absurd (no_element p none);
  }

  amends : (a : Amended) → Contains (edit c).amended a → IsAmended nodes (edit c) a
  amends a at =
      ⊎_elim (λ dir. g.amends a dir) (λ own. let d = own_amended a own in subst (IsAmended nodes (edit c)) d.2 (own_is_amended d.0 d.1))
      (Contains-append_cases c.dirs (map (itself c) c.own) a at)

  pub others : (n : ℕ) → (Contains (numbers (left_in (edit c))) n → ⊥) → n ≡ c.number → ⊥
  others n none e = none (subst (λ (ps : List (ℕ × Object)). Contains (numbers ps) n) (sym left_is) (subst (Contains (c.number ∷ [])) (sym e) (contains_here c.number [])))

  listings_are : map (λ (a : Amended). a.was) (edit c).amended ++ c.rest ≡ all
  listings_are =
      ap (λ (ks : List Listing). ks ++ c.rest)
      (map_append (λ (a : Amended). a.was) c.dirs (map (itself c) c.own)
      ∙ ap (λ (ks : List Listing). map (λ (a : Amended). a.was) c.dirs ++ ks) (map_map (λ (a : Amended). a.was) (itself c) c.own))
      ∙ append_assoc (map (λ (a : Amended). a.was) c.dirs) (map (λ (d : Listing × Directory). d.0) c.own) c.rest

  pub is_edit : IsEdit nodes listings (edit c)
  is_edit = record {
    found = subst (IsPermutation listings) (sym listings_are) g.found;
    amends = amends;
    out_gone = refl;
    out_empty = refl;
    into_come = refl;
    into_empty = λ x at. absurd (no_element x at);
    into_joins = λ x at. absurd (no_element x at);
    left = subst (λ (ps : List (ℕ × Object)). IsPermutation ps ((c.number, c.o) ∷ [])) (sym left_is) (IsPermutation-refl ((c.number, c.o) ∷ []));
    joined = subst (λ (ps : List (ℕ × Object)). IsPermutation ps ((c.number, moved c c.o) ∷ [])) (sym joined_is) (IsPermutation-refl ((c.number, moved c c.o) ∷ []));
    kinds = λ p. refl;
    top_path = λ p at path. ap (moved_path c.o.path (new_path c)) path ∙ root_path_stays c.o.path (new_path c) some;
    top = λ p at path. inl (record { leaves = refl; joins = refl; keeps = keeps_entry p 0 (ap (number_of nodes) path) (λ e. lower (sym e)) });
    keeps = λ p n at is none. keeps_entry p n is (others n none);
    paths = λ k p n at kid is none.
        (let path = child_path layout listings h.sound k p at kid in
        ap (moved_path c.o.path (new_path c)) path
        ∙ moved_step c.o.path (new_path c) k.object.path p.entry.name (ap (is_same_path c.o.path) (sym path) ∙ unspelled p n is (others n none)));
  }

  -- ---- the nodes

  pub has_numbers : HasNumbers nodes (edit c)
  has_numbers = record {
    once = subst (λ (ps : List (ℕ × Object)). AreDistinct (numbers ps)) (sym joined_is) ((λ at. no_element c.number at), tt);
    gone_once = tt;
    into_once = tt;
    lasting = λ n gone at. no_element n gone;
    new = λ p at. absurd (no_element p at);
    gone_others = λ a at gone. no_element a.number gone;
    into_others = λ p at file into. no_element p.0 into;
  }

  pub are_edited : AreEdited nodes (nodes_after (edit c) nodes) (edit c)
  are_edited = after_law nodes layout listings (edit c) h is_edit has_numbers

  pub is_still : IsStill listings (edit c) c.number c.o (moved c c.o)
  is_still = record {
    among = among;
    leaves = left_is;
    joins = joined_is;
    sectors = refl;
    address = refl;
    len = refl;
    attrs = refl;
  }
