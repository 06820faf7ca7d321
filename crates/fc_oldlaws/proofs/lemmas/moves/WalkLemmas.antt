-- The walk over the directories after the objects have slid.
use Rattle.std.proofs.Common.{◌≡◌, ◌≤◌, ℕ, ◌+◌, List, [], ◌∷◌, ◌++◌, length, map, refl, sym, ap, ap₂, subst, ◌∙◌, arith}
use Rattle.std.specs.Prelude.{Ok, Contains}
use Rattle.std.specs.List.{flat_map}
use Rattle.std.proofs.lemmas.List.{length-map}
use Rattle.fc_names.specs.Names.{Path}
use Rattle.fc_dirs.specs.declared.Entry.{Entry}
use Rattle.fc_dirs.specs.Directory.{Directory, entries_of}
use Rattle.fc_image.specs.Layout.{disc_sectors}
use Rattle.fc_image.specs.Walk.{Listing, Object, Reader, is_directory_object, walk}
use Rattle.fc_image.specs.Objects.{first_object, objects_of}
use Rattle.fc_image.specs.Edits.{Apart, AreChildren, AreEdited, Follows, IsRoot}
use Rattle.fc_image.specs.Laws.{Tells}
use Rattle.fc_image.specs.Report.{holder_address}
use Rattle.fc_image.proofs.EditLemmas.{edit_law, walk_form_law}
use Rattle.fc_image.proofs.EntriesLemmas.{in_mapped}
use Rattle.fc_image.proofs.RelistLemmas.{root_once}
use Rattle.fc_image.proofs.ShuffleLemmas.{filter-map}
use Rattle.fc_image.proofs.MapEditLemmas.{held_in}
use Rattle.fc_changes.proofs.BasicLemmas.{first_in, next_in}
use Rattle.fc_oldlaws.specs.moves.After.{content_after, entry_after, form_of, listing_after, listings_after, move_of}
use Rattle.fc_oldlaws.specs.moves.Laws.{MovedWalkLaw}
use Rattle.fc_oldlaws.proofs.lemmas.moves.PlaceLemmas.{Start, apart_after, g, had, objects, placed_after, root_stays, says, taken, taken', y, y'}
use Rattle.fc_oldlaws.proofs.lemmas.moves.PlaceLemmas.{held_in as is_object}

pub map_both : (g : Object → Object) (xs ys : List Object) → map g (xs ++ ys) ≡ map g xs ++ map g ys
map_both g [] ys = refl
map_both g (x ∷ xs) ys = ap (λ (zs : List Object). g x ∷ zs) (map_both g xs ys)

-- the entries of a directory afterwards
pub entries_after : (e : Start) (holder : ℕ) (content : Directory)
    → entries_of (content_after (form_of e.s) (move_of e.s) holder content) ≡ map (entry_after (form_of e.s) (move_of e.s)) (entries_of content)
entries_after e holder (Directory.Small dir) = refl
entries_after e holder (Directory.Big dir) = refl

-- all objects afterwards, in their order
pub objects_after : (e : Start) (all : List Listing) (ls : List Listing) → objects_of (map (listing_after e.s all) ls) ≡ map (g e) (objects_of ls)
objects_after e all ls = ap₂ (λ (xs ys : List Object). xs ++ ys) (first ls) (held_after ls) ∙ sym (map_both (g e) (first_object ls) (flat_map (λ (l : Listing). l.children) ls))
  where
    first : (ks : List Listing) → first_object (map (listing_after e.s all) ks) ≡ map (g e) (first_object ks)
    first [] = refl
    first (l ∷ ks) = refl

    held_after : (ks : List Listing) → flat_map (λ (l : Listing). l.children) (map (listing_after e.s all) ks) ≡ map (g e) (flat_map (λ (l : Listing). l.children) ks)
    held_after [] = refl
    held_after (l ∷ ks) = ap (λ (xs : List Object). map (g e) l.children ++ xs) (held_after ks) ∙ sym (map_both (g e) l.children (flat_map (λ (k : Listing). k.children) ks))

module _ (e : Start) where
  children_after : (path : Path) (entries : List Entry) (kids : List Object) → AreChildren (y e) path entries kids → ((o : Object) → Contains kids o → Contains (objects e) o)
      → AreChildren (y' e) path (map (entry_after (form_of e.s) (move_of e.s)) entries) (map (g e) kids)
  children_after path [] [] are within = tt
  children_after path (d ∷ entries) [] are within = absurd are
  children_after path [] (o ∷ kids) are within = absurd are
  children_after path (d ∷ entries) (o ∷ kids) are within = (
    are.0,
    ap (entry_after (form_of e.s) (move_of e.s)) are.1,
    placed_after e o (within o (first_in o kids)),
    children_after path entries kids are.3 (λ p at. within p (next_in o p kids at)),
  )

  -- what a listed directory holds afterwards
  pub kids_after : (l : Listing) → Contains e.listings l
      → AreChildren (y' e) l.object.path (entries_of (listing_after e.s e.listings l).content) (map (g e) l.children)
  kids_after l at =
      subst (λ (entries : List Entry). AreChildren (y' e) l.object.path entries (map (g e) l.children)) (sym (entries_after e (holder_address e.listings l.object.path) l.content))
      (children_after l.object.path (entries_of l.content) l.children (says e l at).1 (λ o child. is_object e o (held_in e.listings l o at child)))

  pub root_after : IsRoot (y' e) e.address e.size (g e (had e).root)
  root_after = record {
    path = (had e).is_root.path;
    entry = ap (λ (o : Object). o.entry) (root_stays e) ∙ (had e).is_root.entry;
    placed = placed_after e (had e).root (root_is e);
  }
    where
      root_is : (f : Start) → Contains (objects f) (had f).root
      root_is f = subst (λ (os : List Object). Contains os (had f).root) (sym (had f).objects_are) (first_in (had f).root (flat_map (λ (l : Listing). l.children) f.listings))

  module _ (read' : Reader) (tells : Tells read' (listings_after e.s e.listings)) where
    in_map : {X Y : Type 0} (f : X → Y) (xs : List X) (x : X) → Contains xs x → Contains (map f xs) (f x)
    in_map f xs x at = in_mapped f xs x at

    are_edited : (ls : List Listing) → ((l : Listing) → Contains ls l → Contains e.listings l) → AreEdited read' (y' e) (g e) ls (map (listing_after e.s e.listings) ls)
    are_edited [] within = tt
    are_edited (l ∷ ls) within = (
      refl,
      (tells (listing_after e.s e.listings l) (in_map (listing_after e.s e.listings) e.listings l (within l (first_in l ls))), kids_after l (within l (first_in l ls))),
      filter-map is_directory_object is_directory_object (g e) (λ o. refl) l.children,
      are_edited ls (λ k at. within k (next_in l k ls at)),
    )

    pub walked_after : length e.listings ≤ disc_sectors (y e) + 1 → walk read' (y' e) (taken' e) e.address e.size ≡ Ok (listings_after e.s e.listings)
    walked_after few =
        let was = walk_form_law.gives e.read (y e) (taken e) e.address e.size e.listings e.walked in
        let one : was.0 ≡ (had e).root = root_once (y e) e.address e.size was.0 (had e).root was.1 (had e).is_root in
        let follows : Follows e.read (y e) ((had e).root ∷ []) e.listings = subst (λ (o : Object). Follows e.read (y e) (o ∷ []) e.listings) one was.2 in
        let now : Follows read' (y' e) (g e (had e).root ∷ []) (listings_after e.s e.listings) =
        edit_law.files e.read read' (y e) (y' e) (g e) ((had e).root ∷ []) e.listings (listings_after e.s e.listings) follows (are_edited e.listings (λ l at. at)) in
        let long = length-map e.listings (listing_after e.s e.listings) in
        walk_form_law.makes read' (y' e) (taken' e) e.address e.size (g e (had e).root) (listings_after e.s e.listings) root_after now
        (subst (Apart (taken' e)) (sym (objects_after e e.listings e.listings)) (apart_after e)) (omega (arith, few, long))

pub moved_walk_law : MovedWalkLaw
moved_walk_law kind read read' address size listings s walked few is tells =
    walked_after (record { kind = kind; read = read; address = address; size = size; listings = listings; s = s; walked = walked; is = is }) read' tells few
