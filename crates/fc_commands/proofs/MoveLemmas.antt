-- `rename`, by a walk whose objects the nodes hold: what moves, the directories that it leaves and joins, and its own if it is one.
use Rattle.std.proofs.Common.{◌≡◌, ◌≤◌, inl, inr, ⊎_elim, ◌⊎◌, ℕ, Bool, true, false, List, [], ◌∷◌, ◌++◌, length, map, refl, sym, ap, subst, ◌∙◌, append_assoc, Option, Some}
use Rattle.std.specs.Prelude.{Contains, IsPermutation, slice_get}
use Rattle.std.proofs.lemmas.Bool.{cases_eq, false_from_ne_true as unless}
use Rattle.std.proofs.lemmas.List.Elements.{Contains-append_cases, Contains-append_right}
use Rattle.std.proofs.lemmas.List.Sorted.{IsPermutation-append_right, IsPermutation-trans}
use Rattle.fc_names.specs.Names.{Path, folded_path, is_same_name, is_same_path, is_writable}
use Rattle.fc_model.specs.Tree.{holder, is_prefix, last_name}
use Rattle.fc_dirs.specs.Directory.{Directory, entries_of}
use Rattle.fc_dirs.specs.Entries.{has_name, without_entry}
use Rattle.fc_image.specs.Layout.{Layout, dir_form}
use Rattle.fc_image.specs.Objects.{objects_of}
use Rattle.fc_image.specs.Sound.{AreSound}
use Rattle.fc_image.specs.Walk.{Listing, Object, is_directory_object}
use Rattle.fc_image.proofs.CommandLemmas.{other_path, same_by_folds}
use Rattle.fc_image.proofs.PathsLemmas.{is_at, itself, many}
use Rattle.fc_changes.proofs.BasicLemmas.{clash}
use Rattle.fc_changes.proofs.ReadsLemmas.{LiesIn, lies_in, same_name_turned}
use Rattle.fc_tree.specs.Agree.{HasForm, IsDirectory}
use Rattle.fc_tree.specs.Nodes.{HoldObjects, is_directory_node, number_of}
use Rattle.fc_tree.proofs.FindLemmas.{directory_at}
use Rattle.fc_tree.proofs.MemberLemmas.{contains_here, from_map, in_filter, many_permuted}
use Rattle.fc_tree.proofs.PlaceLemmas.{one_path, same_number}
use Rattle.fc_tree.proofs.SoundLemmas.{folds_alike}
use Rattle.fc_tree.proofs.WalkedLemmas.{child_path, directories_listed, listed_directory, same_some}
use Rattle.fc_laws.specs.nodes.Edits.{Nodes}
use Rattle.fc_laws.specs.nodes.Laws.{IsHeld}
use Rattle.fc_laws.proofs.lemmas.agree.CutLemmas.{cut_law}
use Rattle.fc_laws.proofs.lemmas.nodes.ListLemmas.{in_first, in_other}
use Rattle.fc_edits.proofs.lemmas.ListLemmas.{two_apart}
use Rattle.fc_edits.proofs.lemmas.NumberLemmas.{few_listings}
use Rattle.fc_edits.proofs.lemmas.ShapeLemmas.{not_own}
use Rattle.fc_refusals.specs.Slots.{IsRenaming}
use Rattle.fc_refusals.specs.declared.target.Renaming.{Renaming}
use Rattle.fc_commands.specs.Run.{IsMapIn}
use Rattle.fc_commands.proofs.TargetLemmas as target_of

-- A walk, whose objects the nodes hold, has the renaming, to a name that may be written.
pub record IsSeen (layout : Layout) (nodes : Nodes) (listings : List Listing) (from to : Path) (r : Renaming) (name : List ℕ) : Type 0 where
  pub is_map : IsMapIn layout
  pub sound : AreSound layout listings
  pub held : HoldObjects nodes listings
  pub forms : (l : Listing) → Contains listings l → HasForm (dir_form layout) l.object.entry.len l.content
  pub bodies : (l : Listing) → Contains listings l → IsDirectory l.content
  pub known : IsRenaming nodes listings from to r
  pub name_is : name ≡ last_name to
  pub good : is_writable (dir_form layout) name ≡ true

-- a directory's own listing
pub own_listing : (layout : Layout) (listings : List Listing) → AreSound layout listings → (o : Object) → Contains (objects_of listings) o → is_directory_object o ≡ true
    → (d : Listing) × Contains listings d × (d.object ≡ o)
own_listing layout listings sound o among dir =
    from_map (λ (l : Listing). l.object) listings o (subst (λ (os : List Object). Contains os o) (directories_listed layout listings sound) (in_filter is_directory_object (objects_of listings) o among dir))

-- What a directory says then, beside its listing; a file has none.
abbrev pub IsOwn : List Listing → Object → List (Listing × Directory) → Type 0
IsOwn listings o own = ((is_directory_object o ≡ false) × (own ≡ [])) ⊎ ((d : Listing × Directory) × (own ≡ d ∷ []) × Contains listings d.0 × (d.0.object ≡ o))

-- The other directories, beside some that aren't it.
pub record AreOthers (listings : List Listing) (o : Object) (front : List Listing) (own : List (Listing × Directory)) : Type 0 where
  pub rest : List Listing
  pub found : IsPermutation listings (front ++ (map (λ (d : Listing × Directory). d.0) own ++ rest))
  pub others : (d : Listing) → Contains rest d → d.object ≡ o → ⊥

module _ (layout : Layout) (listings : List Listing) (sound : AreSound layout listings) (o : Object) (front rest : List Listing) (found : IsPermutation listings (front ++ rest))
    (unlike : (d : Listing) → Contains front d → d.object ≡ o → ⊥) where
  rest_in : (d : Listing) → Contains rest d → Contains listings d
  rest_in d at = in_first listings (front ++ rest) found d (Contains-append_right front rest d at)

  beside_file : is_directory_object o ≡ false → AreOthers listings o front []
  beside_file file = record {
    rest = rest;
    found = found;
    others = λ d at same. clash (is_directory_object o) (ap is_directory_object (sym same) ∙ (listed_directory layout listings sound d (rest_in d at)).1) file;
  }

  beside_directory : (d : Listing × Directory) → Contains listings d.0 → d.0.object ≡ o → AreOthers listings o front (d ∷ [])
  beside_directory d listed is =
      let there : Contains rest d.0 = ⊎_elim (λ first. absurd (unlike d.0 first is)) (λ later. later) (Contains-append_cases front rest d.0 (in_other listings (front ++ rest) found d.0 listed)) in
      let cut = cut_law.one rest d.0 there in
      let whole : IsPermutation listings (front ++ d.0 ∷ cut.0) = IsPermutation-trans listings (front ++ rest) (front ++ d.0 ∷ cut.0) found (IsPermutation-append_right front rest (d.0 ∷ cut.0) cut.1) in
      record {
        rest = cut.0;
        found = whole;
        others = λ e at same.
            (let t : Listing → Bool = λ y. is_at o.path y.object in
            let few : many t (front ++ d.0 ∷ cut.0) ≤ 1 = subst (λ (n : ℕ). n ≤ 1) (sym (many_permuted t listings (front ++ d.0 ∷ cut.0) whole)) (few_listings layout listings sound o.path) in
            let parted : front ++ d.0 ∷ cut.0 ≡ (front ++ d.0 ∷ []) ++ cut.0 = sym (append_assoc front (d.0 ∷ []) cut.0) in
            two_apart t (front ++ d.0 ∷ []) cut.0 d.0 e (subst (λ (ds : List Listing). many t ds ≤ 1) parted few) (Contains-append_right front (d.0 ∷ []) d.0 (contains_here d.0 [])) at
            (ap (λ (p : Object). is_same_path o.path p.path) is ∙ itself o.path) (ap (λ (p : Object). is_same_path o.path p.path) same ∙ itself o.path));
      }

  pub are_others : (own : List (Listing × Directory)) → IsOwn listings o own → AreOthers listings o front own
  are_others own (inl file) = subst (AreOthers listings o front) (sym file.1) (beside_file file.0)
  are_others own (inr dir) = subst (AreOthers listings o front) (sym dir.1) (beside_directory dir.0 dir.2 dir.3)

module _ (layout : Layout) (nodes : Nodes) (listings : List Listing) (from to : Path) (r : Renaming) (name : List ℕ) (x : IsSeen layout nodes listings from to r name) where
  -- what moves, the directory that holds it, and the one that will
  abbrev pub o : Object
  o = x.known.target.object

  abbrev pub k : Listing
  k = x.known.target.listing

  abbrev pub l : Listing
  l = x.known.destination.listing

  pub h : IsHeld nodes layout listings
  h = record { sound = x.sound; held = x.held }

  pub among : Contains (objects_of listings) o
  among = target_of.among layout nodes listings x.sound x.held from r.target x.known.target

  pub kid_in : Contains k.children o
  kid_in = target_of.kid_in layout nodes listings x.sound x.held from r.target x.known.target

  pub entry_there : slice_get (entries_of k.content) r.target.at ≡ Some o.entry
  entry_there = target_of.entry_there layout nodes listings x.sound x.held from r.target x.known.target

  pub o_path : o.path ≡ k.object.path ++ o.entry.name ∷ []
  o_path = child_path layout listings x.sound k o x.known.target.listed kid_in

  -- ---- numbers and paths

  pub same_listing_number : r.holder ≡ r.target.holder → number_of nodes k.object.path ≡ Some r.holder
  same_listing_number same = x.known.target.holder_is ∙ ap (λ (n : ℕ). let q : Option ℕ = Some n in q) (sym same)

  -- paths of one number are the same
  pub alike : (p q : Path) (n : ℕ) → number_of nodes p ≡ Some n → number_of nodes q ≡ Some n → is_same_path p q ≡ true
  alike p q n at_p at_q = same_by_folds p q (one_path nodes n (length p) p q refl at_p at_q)

  one_number : (p q : Path) (a b : ℕ) → number_of nodes p ≡ Some a → number_of nodes q ≡ Some b → is_same_path p q ≡ true → a ≡ b
  one_number p q a b at_p at_q same = same_some a b (sym at_p ∙ same_number nodes p q (folds_alike p q same) ∙ at_q)

  -- The directory that holds it is another.
  pub home_other : r.target.holder ≡ r.target.node → ⊥
  home_other = not_own nodes layout listings k o r.target.holder r.target.node h x.known.target.listed kid_in x.known.target.holder_is x.known.target.node_is

  pub k_other : k.object ≡ o → ⊥
  k_other same =
      home_other (same_some r.target.holder r.target.node (sym x.known.target.holder_is ∙ ap (λ (p : Object). number_of nodes p.path) same ∙ x.known.target.node_is))

  from_other : (p : Path) → is_same_path o.path p ≡ false → is_same_path p from ≡ false
  from_other p other = unless (is_same_path p from) (λ same.
      clash (is_same_path o.path p) (same_by_folds o.path p (sym (folds_alike from o.path x.known.target.path_is) ∙ sym (folds_alike p from same))) other)

  k_unlike : is_same_path o.path k.object.path ≡ false
  k_unlike = unless (is_same_path o.path k.object.path) (λ same.
      absurd (home_other (sym (one_number o.path k.object.path r.target.node r.target.holder x.known.target.node_is x.known.target.holder_is same))))

  -- So the command doesn't rename it.
  pub k_stays : is_same_path k.object.path from ≡ false
  k_stays = from_other k.object.path k_unlike

  -- what holds it holds the old path
  pub lies_from : LiesIn from k.object.path o.entry.name
  lies_from = lies_in from k.object.path o.entry.name (ap (is_same_path from) (sym o_path) ∙ x.known.target.path_is)

  pub named_from : is_same_name o.entry.name (last_name from) ≡ true
  named_from = same_name_turned (last_name from) o.entry.name lies_from.named

  -- ---- where it goes

  pub holder_other : r.holder ≡ r.target.node → ⊥
  holder_other same = elim (cases_eq r.holder r.target.holder) [
    | inl here ↦ home_other (sym here ∙ same)
    | inr away ↦ (let path = one_path nodes r.target.node (length o.path) o.path l.object.path refl x.known.target.node_is (x.known.destination.holder_is ∙ ap (λ (n : ℕ). let q : Option ℕ = Some n in q) same) in
        clash (is_same_path o.path l.object.path) (same_by_folds o.path l.object.path path) (other_path o.path l.object.path (x.known.across away).1))
  ]

  module _ (away : r.holder ≡ r.target.holder → ⊥) where
    pub not_into : is_prefix (folded_path o.path) (folded_path l.object.path) ≡ false
    not_into = (x.known.across away).1

    pub absent : has_name (entries_of l.content) name ≡ false
    absent = ap (has_name (entries_of l.content)) x.name_is ∙ (x.known.across away).0

    l_unlike : is_same_path o.path l.object.path ≡ false
    l_unlike = other_path o.path l.object.path not_into

    pub l_stays : is_same_path l.object.path from ≡ false
    l_stays = from_other l.object.path l_unlike

    pub l_other : l.object ≡ o → ⊥
    l_other same = clash (is_same_path o.path l.object.path) (ap (λ (p : Object). is_same_path o.path p.path) same ∙ itself o.path) l_unlike

    -- They are two directories.
    pub both : k ≡ l → ⊥
    both same =
        away (same_some r.holder r.target.holder (sym x.known.destination.holder_is ∙ ap (λ (d : Listing). number_of nodes d.object.path) (sym same) ∙ x.known.target.holder_is))

    -- What the other one holds isn't it.
    pub others_unlike : (p : Object) → Contains l.children p → is_same_path o.path p.path ≡ false
    others_unlike p at = unless (is_same_path o.path p.path) (λ same.
        let here = lies_in o.path k.object.path o.entry.name (ap (is_same_path o.path) (sym o_path) ∙ itself o.path) in
        let there = lies_in o.path l.object.path p.entry.name (ap (is_same_path o.path) (sym (child_path layout listings x.sound l p x.known.destination.listed at)) ∙ same) in
        absurd (away (one_number l.object.path k.object.path r.holder r.target.holder x.known.destination.holder_is x.known.target.holder_is
        (same_by_folds l.object.path k.object.path (sym (folds_alike (holder o.path) l.object.path there.holds) ∙ folds_alike (holder o.path) k.object.path here.holds)))))

  module _ (here : r.holder ≡ r.target.holder) where
    pub absent_beside : has_name (without_entry r.target.at (entries_of k.content)) name ≡ false
    absent_beside = ap (has_name (without_entry r.target.at (entries_of k.content))) x.name_is ∙ (x.known.within here).1

    pub above_to : is_same_path (holder to) k.object.path ≡ true
    above_to = subst (λ (d : Listing). is_same_path (holder to) d.object.path ≡ true) (x.known.within here).0 x.known.destination.above

  -- ---- its own listing, if it is a directory

  pub node_kind : is_directory_node nodes r.target.node ≡ is_directory_object o
  node_kind = directory_at layout listings nodes x.sound x.held o r.target.node among x.known.target.node_is
