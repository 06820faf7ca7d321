-- What commands need of the objects before their edits.
use Rattle.std.proofs.Common.{◌≡◌, ◌≤◌, ⊎_elim, ℕ, Bool, true, false, List, [], ◌∷◌, ◌++◌, flat_map, length, map, refl, sym, ap, ap₂, subst, ◌∙◌, arith, Some}
use Rattle.std.specs.Prelude.{Contains, IsPermutation}
use Rattle.std.proofs.lemmas.List.{length_push}
use Rattle.std.proofs.lemmas.List.Sorted.{IsPermutation-refl}
use Rattle.fc_names.specs.Names.{Path, folded_path, is_same_path}
use Rattle.fc_dirs.specs.declared.Entry.{Entry}
use Rattle.fc_dirs.specs.Directory.{entries_of}
use Rattle.fc_image.specs.Layout.{Layout}
use Rattle.fc_image.specs.Walk.{Listing, Object}
use Rattle.fc_image.specs.Sound.{AreSound}
use Rattle.fc_image.proofs.PathsLemmas.{has_that, itself, many, names_once}
use Rattle.fc_image.proofs.RelistLemmas.{folded_long}
use Rattle.fc_tree.specs.Nodes.{number_of}
use Rattle.fc_tree.proofs.MemberLemmas.{contains_here, many_mapped, many_permuted, no_element}
use Rattle.fc_tree.proofs.NumberLemmas.{own_name}
use Rattle.fc_tree.proofs.SoundLemmas.{children_stored, same_object}
use Rattle.fc_tree.proofs.WalkedLemmas.{child_is_object, child_path}
use Rattle.fc_tree.proofs.PlaceLemmas.{one_path}
use Rattle.fc_laws.specs.nodes.Edits.{Nodes}
use Rattle.fc_laws.specs.nodes.Laws.{IsHeld}
use Rattle.fc_laws.proofs.lemmas.nodes.ListLemmas.{in_first, map_fixed}
use Rattle.fc_edits.specs.Edit.{Amended}
use Rattle.fc_edits.proofs.lemmas.ListLemmas.{two_apart}
use Rattle.std.proofs.lemmas.Bool.{false_from_ne_true as unless}
use Rattle.fc_image.proofs.EntriesLemmas.{later as contains_later, cases as contains_cases}

-- the element of a list of one
pub only : {X : Type 0} (x y : X) → Contains (x ∷ []) y → x ≡ y
only x y at = ⊎_elim (λ same. same) (λ later. absurd (no_element y later)) (contains_cases x y [] at)

-- what holds of it
pub of_one : {X : Type 0} (P : X → Type 0) (x : X) → P x → (y : X) → Contains (x ∷ []) y → P y
of_one P x is y at = subst P (only x y at) is

pub as_it_is : {X : Type 0} (g : X → X) (xs : List X) → ((x : X) → Contains xs x → g x ≡ x) → IsPermutation xs (map g xs)
as_it_is {X} g xs same = subst (IsPermutation xs) (sym (map_fixed g xs same)) (IsPermutation-refl xs)

-- directories that are told to say something else let nothing go or come
pub none_flat : {X Y : Type 0} (f : Amended → List Y) (g : X → Amended) (xs : List X) → ((x : X) → f (g x) ≡ []) → flat_map f (map g xs) ≡ []
none_flat f g [] none = refl
none_flat {Y = Y} f g (x ∷ xs) none = ap₂ (λ (a b : List Y). a ++ b) (none x) (none_flat f g xs none)

-- a directory isn't what it holds
pub not_own : (nodes : Nodes) (layout : Layout) (listings : List Listing) (l : Listing) (o : Object) (dir number : ℕ) → IsHeld nodes layout listings → Contains listings l → Contains l.children o
    → number_of nodes l.object.path ≡ Some dir → number_of nodes o.path ≡ Some number → dir ≡ number → ⊥
not_own nodes layout listings l o dir number h at kid dir_is number_is same =
    let folds = one_path nodes number (length l.object.path) l.object.path o.path refl (dir_is ∙ ap (λ k. Some k) same) number_is in
    let path = child_path layout listings h.sound l o at kid in
    let long = ap (λ (p : Path). length p) (folds ∙ ap folded_path path) in
    let short = folded_long l.object.path in
    let longer = folded_long (l.object.path ++ o.entry.name ∷ []) in
    let pushed = length_push l.object.path o.entry.name in
    absurd (omega (arith, long, short, longer, pushed))

-- beside an object its directory holds none of its path
pub kids_unlike : (layout : Layout) (listings : List Listing) (sound : AreSound layout listings) (l : Listing) (o : Object) (kids : List Object) → Contains listings l
    → IsPermutation l.children (o ∷ kids) → (p : Object) → Contains kids p → is_same_path o.path p.path ≡ false
kids_unlike layout listings sound l o kids listed holds p at = unless (is_same_path o.path p.path) never
  where
    never : is_same_path o.path p.path ≡ true → ⊥
    never same =
        let t : Object → Bool = λ x. has_that o.entry.name x.entry in
        let o_in = child_is_object layout listings sound l o listed (in_first l.children (o ∷ kids) holds o (contains_here o kids)) in
        let p_in = child_is_object layout listings sound l p listed (in_first l.children (o ∷ kids) holds p (contains_later o p kids at)) in
        let one : o ≡ p = same_object layout listings sound o.path o p o_in p_in (itself o.path) same in
        let few = subst (λ (es : List Entry). many (has_that o.entry.name) es ≤ 1) (sym (children_stored layout listings sound l listed)) (names_once (entries_of l.content) o.entry.name (sound.apart l listed)) in
        let mapped = many_mapped (has_that o.entry.name) (λ (x : Object). x.entry) l.children in
        let moved = many_permuted t l.children (o ∷ kids) holds in
        two_apart t (o ∷ []) kids o o (subst (λ n. n ≤ 1) (mapped ∙ sym moved) few) (contains_here o []) (subst (Contains kids) (sym one) at) (own_name o.entry.name) (own_name o.entry.name)
