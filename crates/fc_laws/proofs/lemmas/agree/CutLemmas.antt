-- Listings and objects, cut.
use Rattle.std.proofs.Common.{◌≡◌, ◌⊎◌, inl, inr, ℕ, true, false, List, [], ◌∷◌, ◌++◌, length, sym, ap, ◌∙◌, arith, Some}
use Rattle.std.specs.Prelude.{Contains, IsPermutation, remove, slice_get}
use Rattle.std.proofs.lemmas.List.{length_push}
use Rattle.fc_names.specs.Names.{Path}
use Rattle.fc_image.specs.Layout.{Layout}
use Rattle.fc_image.specs.Walk.{Listing, Object, is_directory_object}
use Rattle.fc_image.specs.Objects.{objects_of}
use Rattle.fc_image.specs.Sound.{AreSound}
use Rattle.fc_image.proofs.EntriesLemmas.{listings_law}
use Rattle.fc_tree.proofs.WalkedLemmas.{child_is_object, child_path, contained, listed_directory, place_of}
use Rattle.fc_changes.specs.Owed.{GoesAlone}
use Rattle.fc_changes.proofs.BasicLemmas.{without_it}
use Rattle.fc_laws.specs.agree.Cuts.{CutLaw}

-- a directory is not the one that holds it
not_itself : (layout : Layout) (listings : List Listing) (l d : Listing) (o : Object) → AreSound layout listings → Contains listings l → Contains l.children o → d.object ≡ o → d ≡ l → ⊥
not_itself layout listings l d o sound at child object same =
    let path = child_path layout listings sound l o at child in
    let long = ap (λ (p : Path). length p) path in
    let pushed = length_push l.object.path o.entry.name in
    let its_own : length o.path ≡ length l.object.path = ap (λ (x : Object). length x.path) (sym object ∙ ap (λ (x : Listing). x.object) same) in
    omega (arith, long, pushed, its_own)

alone' : (layout : Layout) (listings : List Listing) (l : Listing) (i : ℕ) (o : Object) → AreSound layout listings → Contains listings l → slice_get l.children i ≡ Some o
    → (is_directory_object o ≡ false) ⊎ ((d : Listing) × Contains listings d × (d.object ≡ o) × (d.children ≡ []))
    → (out rest : List Listing) × GoesAlone out o × IsPermutation listings (out ++ l ∷ rest)
alone' layout listings l i o sound at is (inl file) = let cut = listings_law.one listings l at in ([], cut.0, file, cut.1)
alone' layout listings l i o sound at is (inr d) =
    let cut = listings_law.two listings d.0 l d.1 at (not_itself layout listings l d.0 o sound at (contained l.children i o is) d.2) in
    let dir : is_directory_object o ≡ true = ap is_directory_object (sym d.2) ∙ (listed_directory layout listings sound d.0 d.1).1 in
    (d.0 ∷ [], cut.0, (d.2, dir, d.3), cut.1)

others' : (layout : Layout) (listings : List Listing) (l : Listing) (i : ℕ) (o : Object) → AreSound layout listings → Contains listings l → slice_get l.children i ≡ Some o
    → (stay : List Object) × IsPermutation (objects_of listings) (o ∷ stay)
others' layout listings l i o sound at is =
    let place = place_of (objects_of listings) o (child_is_object layout listings sound l o at (contained l.children i o is)) in
    (remove (objects_of listings) place.0, without_it (objects_of listings) place.0 o place.1)

pub cut_law : CutLaw
cut_law = record { one = listings_law.one; two = listings_law.two; alone = alone'; others = others' }
