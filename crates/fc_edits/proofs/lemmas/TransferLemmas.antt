-- `rename` to another directory, and within one, as an object that moves.
use Rattle.std.proofs.Common.{◌≡◌, ◌⊎◌, inl, inr, ⊎_elim, ℕ, Bool, false, cond, List, [], ◌∷◌, ◌++◌, length, map, refl, sym, ap, subst, ◌∙◌, arith, Some}
use Rattle.std.specs.Prelude.{Contains, drop}
use Rattle.std.proofs.lemmas.List.{append-nil, length_push}
use Rattle.std.proofs.lemmas.List.Sorted.{IsPermutation-refl}
use Rattle.fc_names.specs.Names.{Path, folded_path}
use Rattle.fc_model.specs.Tree.{is_prefix}
use Rattle.fc_dirs.specs.Directory.{Directory}
use Rattle.fc_alloc.specs.declared.owner.Owner.{Owner}
use Rattle.fc_image.specs.Layout.{Layout}
use Rattle.fc_image.specs.Walk.{Listing, Object}
use Rattle.fc_image.specs.Objects.{objects_of}
use Rattle.fc_image.proofs.RelistLemmas.{prefix_long}
use Rattle.fc_tree.specs.Nodes.{number_of}
use Rattle.fc_tree.specs.Parts.{AreOwners}
use Rattle.fc_tree.proofs.MemberLemmas.{contains_here, no_element}
use Rattle.fc_tree.proofs.WalkedLemmas.{child_path}
use Rattle.fc_laws.specs.nodes.Edits.{Nodes, OwnersEdited, owners_with}
use Rattle.fc_laws.specs.nodes.Laws.{IsHeld}
use Rattle.fc_laws.specs.agree.Agreed.{CanSay}
use Rattle.fc_laws.proofs.lemmas.nodes.ListLemmas.{in_first}
use Rattle.fc_laws.proofs.lemmas.agree.RenamedLemmas.{moved_there}
use Rattle.fc_edits.specs.Edit.{Amended, IsAmended, owners_in, owners_joined, owners_left}
use Rattle.fc_edits.specs.Moving.{IsMoving, Moves, Moving, edit, itself, moved, new_path}
use Rattle.fc_edits.specs.Transfer.{IsRenaming, IsTransfer, RenameLaw, Renames, Renaming, Transfer, Transfers, from_it, renaming_of, to_it, transfer_of, within}
use Rattle.fc_edits.proofs.lemmas.OwnerLemmas.{owners_stay}
use Rattle.fc_edits.proofs.lemmas.ShapeLemmas.{none_flat, of_one}
use Rattle.std.proofs.lemmas.Bool.{false_from_ne_true as unless}
use Rattle.fc_image.proofs.EntriesLemmas.{later as contains_later, cases as contains_cases}
use Rattle.fc_tree.proofs.EndLemmas.{no_twin as apart_names}

-- what the directory says that an object joins is at its own path, which stays
joins_path : (c : Moving) → is_prefix (folded_path c.o.path) (folded_path c.l.object.path) ≡ false → (moved c c.o).path ≡ (moved c c.l.object).path ++ (moved c c.o).entry.name ∷ []
joins_path c not_into =
    moved_there c.l.object.path c.name c.o
    ∙ ap (λ (q : Path). q ++ (moved c c.o).entry.name ∷ []) (sym (ap (λ (b : Bool). cond b (new_path c ++ drop (length c.o.path) c.l.object.path) c.l.object.path) not_into))

-- an object that moves, if what its directories say can be said
is_moving : (nodes : Nodes) (layout : Layout) (listings : List Listing) (c : Moving) → Moves nodes listings c
    → ((a : Amended) → Contains (edit c).amended a → CanSay layout (moved c a.was.object) a.content) → IsMoving nodes layout listings c
is_moving nodes layout listings c ms says = record {
  found = ms.found;
  amends = ms.amends;
  touched = ms.touched;
  there = ms.there;
  leaves = ms.leaves;
  joins = ms.joins;
  number_is = ms.number_is;
  not_into = ms.not_into;
  own_is = ms.own_is;
  others = ms.others;
  says = says;
}

-- ---- to another directory

module _ (nodes : Nodes) (layout : Layout) (listings : List Listing) (c : Transfer) (h : IsHeld nodes layout listings) (g : Transfers nodes listings c) where
  abbrev it : Moving
  it = transfer_of c

  from_amended : IsAmended nodes (edit it) (from_it c)
  from_amended = record {
    number_is = g.home_is;
    held = g.k_holds;
    holds = g.k_children;
    stored = g.k_entries;
    apart = g.k_apart;
    left = of_one (λ (p : ℕ × Object). number_of nodes p.1.path ≡ Some p.0) (c.number, c.o) g.number_is;
    paths = λ p none. absurd (no_element p none);
  }

  to_amended : IsAmended nodes (edit it) (to_it c)
  to_amended = record {
    number_is = g.dir_is;
    held = IsPermutation-refl c.l.children;
    holds = g.l_children;
    stored = g.l_entries;
    apart = g.l_apart;
    left = λ p none. absurd (no_element p none);
    paths = of_one (λ (p : ℕ × Object). p.1.path ≡ (moved it c.l.object).path ++ p.1.entry.name ∷ []) (c.number, moved it c.o) (joins_path it g.not_into);
  }

  of_both : (P : Amended → Type 0) → P (from_it c) → P (to_it c) → (a : Amended) → Contains it.dirs a → P a
  of_both P first second a at =
      ⊎_elim (λ same. subst P same first) (λ later. of_one P (to_it c) second a later) (contains_cases (from_it c) a (to_it c ∷ []) at)

  across_any : Moves nodes listings it
  across_any = record {
    found = g.found;
    amends = of_both (IsAmended nodes (edit it)) from_amended to_amended;
    touched = of_both (λ (a : Amended). Contains a.was.children c.o ⊎ (a.was ≡ c.l)) (inl (in_first c.k.children (c.o ∷ c.kids) g.k_holds c.o (contains_here c.o c.kids))) (inr refl);
    there = (to_it c, contains_later (from_it c) (to_it c) (to_it c ∷ []) (contains_here (to_it c) []), refl);
    leaves = refl;
    joins = refl;
    number_is = g.number_is;
    not_into = g.not_into;
    own_is = g.own_is;
    others = g.others;
  }

-- what its directories say can be said
transfers : (nodes : Nodes) (layout : Layout) (listings : List Listing) (c : Transfer) → IsTransfer nodes layout listings c → Transfers nodes listings c
transfers nodes layout listings c g =
    let own : List Amended = map (itself (transfer_of c)) c.own in
    record {
      found = g.found;
      home_is = g.home_is;
      dir_is = g.dir_is;
      number_is = g.number_is;
      not_into = g.not_into;
      k_holds = g.k_holds;
      k_children = g.k_children;
      k_entries = g.k_entries;
      k_apart = apart_names c.k_content (g.says (from_it c) (contains_here (from_it c) (to_it c ∷ own))).body;
      l_children = g.l_children;
      l_entries = g.l_entries;
      l_apart = apart_names c.l_content (g.says (to_it c) (contains_later (from_it c) (to_it c) (to_it c ∷ own) (contains_here (to_it c) own))).body;
      own_is = g.own_is;
      others = g.others;
    }

across : (nodes : Nodes) (layout : Layout) (listings : List Listing) (c : Transfer) → IsHeld nodes layout listings → IsTransfer nodes layout listings c → IsMoving nodes layout listings (transfer_of c)
across nodes layout listings c h g = is_moving nodes layout listings (transfer_of c) (across_any nodes layout listings c h (transfers nodes layout listings c g)) g.says

owners_across : (layout : Layout) (owners owners' : List Owner) (c : Transfer) → OwnersEdited owners owners' (owners_with layout c.home c.number c.o) (owners_with layout c.dir c.number c.o)
    → OwnersEdited owners owners' (owners_left layout (edit (transfer_of c))) (owners_joined layout (edit (transfer_of c)))
owners_across layout owners owners' c edited =
    subst (λ (ws : List Owner). OwnersEdited owners owners' ws (owners_joined layout (edit (transfer_of c)))) (sym left_owners)
    (subst (λ (ws : List Owner). OwnersEdited owners owners' (owners_with layout c.home c.number c.o) ws) (sym joined_owners) edited)
  where
    left_owners : owners_left layout (edit (transfer_of c)) ≡ owners_with layout c.home c.number c.o
    left_owners =
        ap (λ (ws : List Owner). (owners_with layout c.home c.number c.o ++ []) ++ ws) (none_flat (λ (b : Amended). owners_in layout b.number b.leave) (itself (transfer_of c)) c.own (λ d. refl))
        ∙ append-nil (owners_with layout c.home c.number c.o ++ []) ∙ append-nil (owners_with layout c.home c.number c.o)

    joined_owners : owners_joined layout (edit (transfer_of c)) ≡ owners_with layout c.dir c.number c.o
    joined_owners =
        ap (λ (ws : List Owner). (owners_with layout c.dir c.number c.o ++ []) ++ ws) (none_flat (λ (b : Amended). owners_in layout b.number b.join) (itself (transfer_of c)) c.own (λ d. refl))
        ∙ append-nil (owners_with layout c.dir c.number c.o ++ []) ∙ append-nil (owners_with layout c.dir c.number c.o)

-- ---- within one

module _ (nodes : Nodes) (layout : Layout) (listings : List Listing) (c : Renaming) (h : IsHeld nodes layout listings) (g : Renames nodes listings c) where
  abbrev its : Moving
  its = renaming_of c

  l_in : Contains listings c.l
  l_in = in_first listings (c.l ∷ (map (λ (d : Listing × Directory). d.0) c.own ++ c.rest)) g.found c.l (contains_here c.l (map (λ (d : Listing × Directory). d.0) c.own ++ c.rest))

  kid_in : Contains c.l.children c.o
  kid_in = in_first c.l.children (c.o ∷ c.kids) g.holds c.o (contains_here c.o c.kids)

  -- a directory doesn't lie below what it holds
  not_into : is_prefix (folded_path c.o.path) (folded_path c.l.object.path) ≡ false
  not_into = unless (is_prefix (folded_path c.o.path) (folded_path c.l.object.path)) (λ below.
      let low = prefix_long c.o.path c.l.object.path below in
      let path = ap (λ (p : Path). length p) (child_path layout listings h.sound c.l c.o l_in kid_in) in
      let more = length_push c.l.object.path c.o.entry.name in
      absurd (omega (arith, low, path, more)))

  amended : IsAmended nodes (edit its) (within c)
  amended = record {
    number_is = g.dir_is;
    held = g.holds;
    holds = g.holds_now;
    stored = g.stored;
    apart = g.apart;
    left = of_one (λ (p : ℕ × Object). number_of nodes p.1.path ≡ Some p.0) (c.number, c.o) g.number_is;
    paths = of_one (λ (p : ℕ × Object). p.1.path ≡ (moved its c.l.object).path ++ p.1.entry.name ∷ []) (c.number, moved its c.o) (joins_path its not_into);
  }

  within_any : Moves nodes listings its
  within_any = record {
    found = g.found;
    amends = of_one (IsAmended nodes (edit its)) (within c) amended;
    touched = of_one (λ (a : Amended). Contains a.was.children c.o ⊎ (a.was ≡ c.l)) (within c) (inl kid_in);
    there = (within c, contains_here (within c) [], refl);
    leaves = refl;
    joins = refl;
    number_is = g.number_is;
    not_into = not_into;
    own_is = g.own_is;
    others = g.others;
  }

  owners_within : (owners : List Owner) → AreOwners owners nodes layout (objects_of listings) → OwnersEdited owners owners (owners_left layout (edit its)) (owners_joined layout (edit its))
  owners_within owners owned =
      subst (λ (ws : List Owner). OwnersEdited owners owners ws (owners_joined layout (edit its))) (sym left_owners)
      (subst (λ (ws : List Owner). OwnersEdited owners owners (owners_with layout c.dir c.number c.o) ws) (sym joined_owners)
      (owners_stay nodes layout listings h c.l c.o c.dir c.number l_in kid_in g.dir_is g.number_is owners owned))
    where
      left_owners : owners_left layout (edit its) ≡ owners_with layout c.dir c.number c.o
      left_owners =
          ap (λ (ws : List Owner). (owners_with layout c.dir c.number c.o ++ []) ++ ws) (none_flat (λ (b : Amended). owners_in layout b.number b.leave) (itself its) c.own (λ d. refl))
          ∙ append-nil (owners_with layout c.dir c.number c.o ++ []) ∙ append-nil (owners_with layout c.dir c.number c.o)

      joined_owners : owners_joined layout (edit its) ≡ owners_with layout c.dir c.number c.o
      joined_owners =
          ap (λ (ws : List Owner). (owners_with layout c.dir c.number c.o ++ []) ++ ws) (none_flat (λ (b : Amended). owners_in layout b.number b.join) (itself its) c.own (λ d. refl))
          ∙ append-nil (owners_with layout c.dir c.number c.o ++ []) ∙ append-nil (owners_with layout c.dir c.number c.o)

renames : (nodes : Nodes) (layout : Layout) (listings : List Listing) (c : Renaming) → IsRenaming nodes layout listings c → Renames nodes listings c
renames nodes layout listings c g = record {
  found = g.found;
  dir_is = g.dir_is;
  number_is = g.number_is;
  holds = g.holds;
  holds_now = g.holds_now;
  stored = g.stored;
  apart = apart_names c.content (g.says (within c) (contains_here (within c) (map (itself (renaming_of c)) c.own))).body;
  own_is = g.own_is;
  others = g.others;
}

within_one : (nodes : Nodes) (layout : Layout) (listings : List Listing) (c : Renaming) → IsHeld nodes layout listings → IsRenaming nodes layout listings c → IsMoving nodes layout listings (renaming_of c)
within_one nodes layout listings c h g = is_moving nodes layout listings (renaming_of c) (within_any nodes layout listings c h (renames nodes layout listings c g)) g.says

pub rename_law : RenameLaw
rename_law = record {
  across = across;
  within_one = within_one;
  across_any = across_any;
  within_any = within_any;
  owners_across = owners_across;
  owners_within = λ nodes layout listings owners c h g owned. owners_within nodes layout listings c h (renames nodes layout listings c g) owners owned;
}
