-- Which directories stand around one: the one that holds it, and those that lie in it.
use Rattle.std.proofs.Common.{◌≡◌, ◌⊎◌, inl, inr, ⊎_elim, ◌+◌, Bool, true, false, cond, List, [], ◌∷◌, ◌++◌, length, map, refl, sym, ap, ap₂, subst, ◌∙◌, arith, append_assoc}
use Rattle.std.specs.Prelude.{Contains, IsPermutation, filter}
use Rattle.std.specs.List.{flat_map}
use Rattle.std.proofs.lemmas.List.{length_push}
use Rattle.std.proofs.lemmas.List.Elements.{Contains-append_cases, Contains-append_right, filter-append}
use Rattle.std.proofs.lemmas.List.Concat.{flat_map-append}
use Rattle.std.proofs.lemmas.List.Sorted.{Contains-permutation, IsPermutation-append_comm, IsPermutation-append_left, IsPermutation-append_right, IsPermutation-cons, IsPermutation-middle, IsPermutation-sym, IsPermutation-trans}
use Rattle.fc_names.specs.Names.{Path, is_same_path}
use Rattle.fc_model.specs.Tree.{holder}
use Rattle.fc_image.specs.Layout.{Layout}
use Rattle.fc_image.specs.Walk.{Listing, Object, is_directory_object}
use Rattle.fc_image.specs.Objects.{objects_of}
use Rattle.fc_image.specs.Sound.{AreSound}
use Rattle.fc_image.proofs.PathsLemmas.{itself}
use Rattle.fc_tree.specs.Nodes.{HoldObjects}
use Rattle.fc_tree.proofs.MemberLemmas.{contains_here, from_map, in_filter, in_map, no_element}
use Rattle.fc_tree.proofs.PlaceLemmas.{same_number}
use Rattle.fc_tree.proofs.SoundLemmas.{folds_alike, root_or_child, same_listing}
use Rattle.fc_tree.proofs.WalkedLemmas.{child_path, directories_listed, holder-push, listed_directory, root, root_and_held, root_path}
use Rattle.fc_laws.specs.nodes.Edits.{Nodes}
use Rattle.fc_laws.proofs.lemmas.nodes.OtherLemmas.{other_directory}
use Rattle.fc_image.proofs.EntriesLemmas.{later as contains_later, cases as contains_cases}
use Rattle.fc_image.proofs.CommandLemmas.{same_by_folds}

-- ---- lists

-- where an element stands
pub cut_element : {X : Type 0} (xs : List X) (x : X) → Contains xs x → (front back : List X) × (xs ≡ front ++ x ∷ back)
cut_element [] x at = absurd (no_element x at)
cut_element (y ∷ xs) x at =
    ⊎_elim (λ same. ([], xs, ap (λ z. z ∷ xs) same)) (λ later. let c = cut_element xs x later in (y ∷ c.0, c.1, ap (λ zs. y ∷ zs) c.2)) (contains_cases y x xs at)

pub one_first : {X : Type 0} (xs : List X) (x : X) → Contains xs x → (rest : List X) × IsPermutation xs (x ∷ rest)
one_first xs x at =
    let c = cut_element xs x at in (
      c.0 ++ c.1,
      subst (λ ys. IsPermutation ys (x ∷ (c.0 ++ c.1))) (sym c.2) (IsPermutation-middle c.0 x c.1),
    )

first_same : {X : Type 0} (x y : X) (xs ys : List X) → x ∷ xs ≡ y ∷ ys → (x ≡ y) × (xs ≡ ys)
first_same x y xs ys e = (cc, cc)

-- the elements whose images these are
pub cut_image : {X Y : Type 0} (f : X → Y) (xs : List X) (us vs : List Y) → map f xs ≡ us ++ vs → (front back : List X) × (xs ≡ front ++ back) × (map f front ≡ us) × (map f back ≡ vs)
cut_image f xs [] vs e = ([], xs, refl, refl, e)
cut_image f [] (a ∷ us) vs e = absurd (cc)
cut_image f (x ∷ xs) (a ∷ us) vs e =
    let heads = first_same (f x) a (map f xs) (us ++ vs) e in
    let c = cut_image f xs us vs heads.1 in (x ∷ c.0, c.1, ap (λ ys. x ∷ ys) c.2, ap₂ (λ y ys. y ∷ ys) heads.0 c.3, c.4)

pub cut_middle : {X Y : Type 0} (f : X → Y) (xs : List X) (us vs ws : List Y) → map f xs ≡ us ++ (vs ++ ws) → (front middle back : List X) × (xs ≡ front ++ (middle ++ back)) × (map f middle ≡ vs)
cut_middle f xs us vs ws e =
    let first = cut_image f xs us (vs ++ ws) e in
    let second = cut_image f first.1 vs ws first.4 in (first.0, second.0, second.1, first.2 ∙ ap (λ zs. first.0 ++ zs) second.2, second.3)

-- ---- the directories in one directory

module _ (layout : Layout) (listings : List Listing) (sound : AreSound layout listings) (l : Listing) (listed : Contains listings l) where
  -- They are listed in the order of the directory's entries.
  pub kids_cut : (kids others : List Listing) × IsPermutation listings (kids ++ others) × (map (λ k. k.object) kids ≡ filter is_directory_object l.children)
  kids_cut =
      let c = cut_element listings l listed in
      let before = root layout listings sound ∷ flat_map (λ k. k.children) c.0 in
      let after = flat_map (λ (k : Listing). k.children) c.1 in
      let inside : flat_map (λ (k : Listing). k.children) listings ≡ flat_map (λ (k : Listing). k.children) c.0 ++ (l.children ++ after) =
      ap (flat_map (λ (k : Listing). k.children)) c.2 ∙ flat_map-append (λ (k : Listing). k.children) c.0 (l ∷ c.1) in
      let all : objects_of listings ≡ before ++ (l.children ++ after) = root_and_held layout listings sound ∙ ap (λ (os : List Object). root layout listings sound ∷ os) inside in
      let images : map (λ k. k.object) listings ≡ filter is_directory_object before ++ (filter is_directory_object l.children ++ filter is_directory_object after) =
      sym (directories_listed layout listings sound) ∙ ap (filter is_directory_object) all ∙ filter-append is_directory_object before (l.children ++ after)
      ∙ ap (λ (os : List Object). filter is_directory_object before ++ os) (filter-append is_directory_object l.children after) in
      let cut = cut_middle (λ (k : Listing). k.object) listings (filter is_directory_object before) (filter is_directory_object l.children) (filter is_directory_object after) images in (
        cut.1,
        cut.0 ++ cut.2,
        subst (λ (ks : List Listing). IsPermutation ks (cut.1 ++ (cut.0 ++ cut.2))) (sym cut.3) (moved_front cut.0 cut.1 cut.2),
        cut.4,
      )
    where
      moved_front : (us vs ws : List Listing) → IsPermutation (us ++ (vs ++ ws)) (vs ++ (us ++ ws))
      moved_front us vs ws =
          subst (λ (ks : List Listing). IsPermutation ks (vs ++ (us ++ ws))) (append_assoc us vs ws)
          (subst (IsPermutation ((us ++ vs) ++ ws)) (append_assoc vs us ws) (IsPermutation-append_left ws (us ++ vs) (vs ++ us) (IsPermutation-append_comm us vs)))

  -- a directory isn't one that it holds
  pub kid_longer : (k : Listing) → Contains listings k → (p : Object) → Contains l.children p → k.object ≡ p → length k.object.path ≡ length l.object.path + 1
  kid_longer k at p kid is =
      ap (λ (o : Object). length o.path) is ∙ ap (λ (q : Path). length q) (child_path layout listings sound l p listed kid) ∙ length_push l.object.path p.entry.name

-- ---- all around one directory

-- `tops` is the directory that holds l, if one does, `kids` are those in l, and `left` all others.
pub record IsCutAround (listings : List Listing) (l : Listing) (tops kids left : List Listing) : Type 0 where
  pub all : IsPermutation listings (l ∷ (tops ++ (kids ++ left)))
  pub kids_are : map (λ k. k.object) kids ≡ filter is_directory_object l.children
  pub tops_are : ((l.object.path ≡ []) × (tops ≡ [])) ⊎ ((h : Listing) × (tops ≡ h ∷ []) × Contains listings h × Contains h.children l.object)

pub in_filtered : {X : Type 0} (t : X → Bool) (xs : List X) (x : X) → Contains (filter t xs) x → Contains xs x
in_filtered t [] x at = at
in_filtered t (y ∷ xs) x at = by (t y) at (in_filtered t xs x)
  where
    by : (b : Bool) → Contains (cond b (y ∷ filter t xs) (filter t xs)) x → (Contains (filter t xs) x → Contains xs x) → Contains (y ∷ xs) x
    by true here more = ⊎_elim (λ same. subst (Contains (y ∷ xs)) same (contains_here y xs)) (λ later. contains_later y x xs (more later)) (contains_cases y x (filter t xs) here)
    by false here more = contains_later y x xs (more here)

module _ (layout : Layout) (listings : List Listing) (sound : AreSound layout listings) (l : Listing) (listed : Contains listings l) where
  kid_of : (kids : List Listing) → map (λ k. k.object) kids ≡ filter is_directory_object l.children → (k : Listing) → Contains kids k → Contains l.children k.object
  kid_of kids are k at = in_filtered is_directory_object l.children k.object (subst (λ (os : List Object). Contains os k.object) are (in_map (λ (j : Listing). j.object) kids k at))

  -- whatever isn't in l stands beside what is
  beside : (kids others : List Listing) → IsPermutation listings (kids ++ others) → map (λ k. k.object) kids ≡ filter is_directory_object l.children → (k : Listing) → Contains listings k
      → (length k.object.path ≡ length l.object.path + 1 → ⊥) → Contains others k
  beside kids others all are k at short =
      ⊎_elim (λ kid. absurd (short (kid_longer layout listings sound l listed k at k.object (kid_of kids are k kid) refl))) (λ other. other)
      (Contains-append_cases kids others k (Contains-permutation listings (kids ++ others) k all at))

  pub cut_around : (tops kids left : List Listing) × IsCutAround listings l tops kids left
  cut_around =
      let c = kids_cut layout listings sound l listed in
      let own = one_first c.1 l (beside c.0 c.1 c.2 c.3 l listed (λ long. absurd (omega (arith, long)))) in
      by c.0 c.1 c.2 c.3 own.0 own.1 (root_or_child layout listings sound l.object (listed_directory layout listings sound l listed).0)
    where
      by : (kids others : List Listing) → IsPermutation listings (kids ++ others) → map (λ k. k.object) kids ≡ filter is_directory_object l.children → (rest : List Listing)
          → IsPermutation others (l ∷ rest) → (root layout listings sound ≡ l.object) ⊎ ((h : Listing) × Contains listings h × Contains h.children l.object)
          → (tops kids left : List Listing) × IsCutAround listings l tops kids left
      by kids others all are rest own (inl top) = (
        [],
        kids,
        rest,
        record {
          all = IsPermutation-trans listings (kids ++ l ∷ rest) (l ∷ (kids ++ rest))
              (IsPermutation-trans listings (kids ++ others) (kids ++ l ∷ rest) all (IsPermutation-append_right kids others (l ∷ rest) own)) (IsPermutation-middle kids l rest);
          kids_are = are;
          tops_are = inl (ap (λ (o : Object). o.path) (sym top) ∙ root_path layout listings sound, refl);
        },
      )
      by kids others all are rest own (inr held) =
          let h = held.0 in
          let path = child_path layout listings sound h l.object held.1 held.2 in
          let pushed = ap (λ (p : Path). length p) path ∙ length_push h.object.path l.object.entry.name in
          let h_beside = beside kids others all are h held.1 (λ long. absurd (omega (arith, long, pushed))) in
          let h_left : Contains rest h =
          ⊎_elim (λ same. absurd (let e = ap (λ (k : Listing). length k.object.path) same in omega (arith, e, pushed))) (λ later. later)
          (contains_cases l h rest (Contains-permutation others (l ∷ rest) h own h_beside)) in
          let top = one_first rest h h_left in (
            h ∷ [],
            kids,
            top.0,
            record {
              all = IsPermutation-trans listings (kids ++ l ∷ h ∷ top.0) (l ∷ h ∷ (kids ++ top.0))
                  (IsPermutation-trans listings (kids ++ others) (kids ++ l ∷ h ∷ top.0) all
                  (IsPermutation-append_right kids others (l ∷ h ∷ top.0) (IsPermutation-trans others (l ∷ rest) (l ∷ h ∷ top.0) own (IsPermutation-cons l rest (h ∷ top.0) top.1))))
                  (IsPermutation-trans (kids ++ l ∷ h ∷ top.0) (l ∷ (kids ++ h ∷ top.0)) (l ∷ h ∷ (kids ++ top.0)) (IsPermutation-middle kids l (h ∷ top.0))
                  (IsPermutation-cons l (kids ++ h ∷ top.0) (h ∷ (kids ++ top.0)) (IsPermutation-middle kids h top.0)));
              kids_are = are;
              tops_are = inr (h, refl, held.1, held.2);
            },
          )

-- ---- no other directory stands around it

module _ (layout : Layout) (listings : List Listing) (nodes : Nodes) (sound : AreSound layout listings) (held : HoldObjects nodes listings) where
  -- no directory is listed twice
  pub one_of_two : (xs ys : List Listing) → IsPermutation listings (xs ++ ys) → (j k : Listing) → Contains xs j → Contains ys k → is_same_path j.object.path k.object.path ≡ true → ⊥
  one_of_two xs ys all j k j_in k_in same =
      let c = cut_element xs j j_in in
      let first : IsPermutation listings (j ∷ ((c.0 ++ c.1) ++ ys)) =
      IsPermutation-trans listings (xs ++ ys) (j ∷ ((c.0 ++ c.1) ++ ys)) all
      (IsPermutation-append_left ys xs (j ∷ (c.0 ++ c.1)) (subst (λ (zs : List Listing). IsPermutation zs (j ∷ (c.0 ++ c.1))) (sym c.2) (IsPermutation-middle c.0 j c.1))) in
      let there = Contains-permutation (j ∷ ((c.0 ++ c.1) ++ ys)) listings j (IsPermutation-sym listings (j ∷ ((c.0 ++ c.1) ++ ys)) first) (contains_here j ((c.0 ++ c.1) ++ ys)) in
      let number = held.each j.object (listed_directory layout listings sound j there).0 in
      other_directory layout listings nodes sound held j ((c.0 ++ c.1) ++ ys) first k number.number (Contains-append_right (c.0 ++ c.1) ys k k_in) number.at_path
      (sym (same_number nodes j.object.path k.object.path (folds_alike j.object.path k.object.path same)) ∙ number.at_path)

  module _ (l : Listing) (listed : Contains listings l) (tops kids left : List Listing) (c : IsCutAround listings l tops kids left) where
    behind : IsPermutation listings ((l ∷ tops) ++ (kids ++ left))
    behind = c.all

    pub none_holds : (k : Listing) → Contains (kids ++ left) k → is_same_path (holder l.object.path) k.object.path ≡ true → ⊥
    none_holds k at same = by c.tops_are
      where
        by : ((l.object.path ≡ []) × (tops ≡ [])) ⊎ ((h : Listing) × (tops ≡ h ∷ []) × Contains listings h × Contains h.children l.object) → ⊥
        by (inl top) =
            one_of_two (l ∷ tops) (kids ++ left) behind l k (contains_here l tops) at
            (ap (λ (p : Path). is_same_path p k.object.path) (top.0 ∙ sym (ap holder top.0)) ∙ same)
        by (inr above) =
            let path = child_path layout listings sound above.0 l.object above.2 above.3 in
            one_of_two (l ∷ tops) (kids ++ left) behind above.0 k
            (contains_later l above.0 tops (subst (λ (ks : List Listing). Contains ks above.0) (sym above.1) (contains_here above.0 []))) at
            (ap (λ (p : Path). is_same_path p k.object.path) (sym (ap holder path ∙ holder-push above.0.object.path l.object.entry.name)) ∙ same)

    pub none_lies : (k : Listing) → Contains left k → is_same_path (holder k.object.path) l.object.path ≡ true → ⊥
    none_lies k at same =
        by (root_or_child layout listings sound k.object (listed_directory layout listings sound k k_listed).0)
      where
        k_listed : Contains listings k
        k_listed =
            Contains-permutation (l ∷ (tops ++ (kids ++ left))) listings k (IsPermutation-sym listings (l ∷ (tops ++ (kids ++ left))) c.all)
            (contains_later l k (tops ++ (kids ++ left)) (Contains-append_right tops (kids ++ left) k (Contains-append_right kids left k at)))

        turned : is_same_path l.object.path (holder k.object.path) ≡ true
        turned = same_by_folds l.object.path (holder k.object.path) (sym (folds_alike (holder k.object.path) l.object.path same))

        by : (root layout listings sound ≡ k.object) ⊎ ((j : Listing) × Contains listings j × Contains j.children k.object) → ⊥
        by (inl top) =
            let path : k.object.path ≡ [] = ap (λ (o : Object). o.path) (sym top) ∙ root_path layout listings sound in
            one_of_two (l ∷ tops) (kids ++ left) behind l k (contains_here l tops) (Contains-append_right kids left k at)
            (ap (is_same_path l.object.path) (path ∙ sym (ap holder path)) ∙ turned)
        by (inr above) =
            let path = child_path layout listings sound above.0 k.object above.1 above.2 in
            let front : holder k.object.path ≡ above.0.object.path = ap holder path ∙ holder-push above.0.object.path k.object.entry.name in
            let own : l ≡ above.0 =
            same_listing layout listings sound l.object.path l above.0 listed above.1 (itself l.object.path) (ap (is_same_path l.object.path) (sym front) ∙ turned) in
            let kid : Contains l.children k.object = subst (λ (j : Listing). Contains j.children k.object) (sym own) above.2 in
            let dir = (listed_directory layout listings sound k k_listed).1 in
            let twin = from_map (λ (j : Listing). j.object) kids k.object
            (subst (λ (os : List Object). Contains os k.object) (sym c.kids_are) (in_filter is_directory_object l.children k.object kid dir)) in
            one_of_two (l ∷ (tops ++ kids)) left
            (subst (λ (ks : List Listing). IsPermutation listings (l ∷ ks)) (sym (append_assoc tops kids left)) c.all) twin.0 k
            (contains_later l twin.0 (tops ++ kids) (Contains-append_right tops kids twin.0 twin.1)) at
            (ap (λ (o : Object). is_same_path o.path k.object.path) twin.2 ∙ itself k.object.path)
