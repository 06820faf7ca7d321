-- Which identifier a file may share, by owners and by objects.
use Rattle.std.proofs.Common.{◌≡◌, ◌&&◌, ◌||◌, ◌==◌, ◌+◌, ◌-◌, ◌*◌, suc, ℕ, Bool, true, false, cond, List, [], ◌∷◌, ◌++◌, length, map, take, drop, filter, refl, sym, ap, ap₂, ◌∙◌, arith, Some, None, Option, nat_cmp, nat_le, eq-eqb}
use Rattle.std.specs.Prelude.{Contains, IsPermutation, not, nat_eq, nat_lt}
use Rattle.std.specs.List.{find, flat_map, list_all, list_any}
use Rattle.std.specs.FinMap.{FinMap}
use Rattle.std.specs.Int.{div_ceil}
use Rattle.std.specs.Option.{option_map_or, unwrap_or}
use Rattle.std.proofs.lemmas.Bool.{leb-true, ne_eqb}
use Rattle.std.proofs.lemmas.List.{length-take}
use Rattle.std.proofs.lemmas.List.Sorted.{list_any-IsPermutation}
use Rattle.fc_names.specs.Names.{Path, is_same_path}
use Rattle.fc_record.specs.Record.{id_limit}
use Rattle.fc_alloc.specs.declared.owner.Owner.{Owner}
use Rattle.fc_newmap.specs.Map.{Map}
use Rattle.fc_newmap.specs.NewMap.{IsNewMap}
use Rattle.fc_model.specs.Tree.{holder}
use Rattle.fc_image.specs.Layout.{Layout, dir_form, first_part, id_of, id_sectors, is_apart, is_object_id, low_of, low_start, new_sectors, sectors_at}
use Rattle.fc_image.specs.Walk.{Object, Listing, object_size}
use Rattle.fc_image.specs.Objects.{has_sectors, objects_of}
use Rattle.fc_image.specs.Sound.{AreSound}
use Rattle.fc_image.specs.Edits.{IsAt}
use Rattle.fc_image.proofs.EntriesLemmas.{from_filter}
use Rattle.fc_image.proofs.HolesLemmas.{Each-contains, Each-objects, Lies, walk_lies}
use Rattle.fc_image.specs.effects.Sharing.{Holding, holding_of, holdings_in, is_shareable, is_spare, may_share_with, shares, slack, slack_among}
use Rattle.fc_placing.specs.Slack.{allows, holding_in, holdings, is_good, leaves_free, shares_from}
use Rattle.fc_placing.proofs.Shares.{slack_is, slack_none, some_sectors}
use Rattle.fc_tree.specs.declared.node.Node.{Node}
use Rattle.fc_tree.specs.Nodes.{HoldObjects, number_of}
use Rattle.fc_tree.specs.Parts.{AreOwners, owner_of}
use Rattle.fc_tree.proofs.PlaceLemmas.{one_path, same_number}
use Rattle.fc_tree.proofs.SoundLemmas.{folds_alike}
use Rattle.fc_tree.proofs.WalkedLemmas.{same_some}
use Rattle.fc_changes.proofs.BasicLemmas.{first_in, next_in}
use Rattle.fc_placing.specs.Places.{SlackLaw}
use Rattle.fc_image.proofs.CommandLemmas.{same_by_folds}

-- ---- lists

find_same : {X : Type 0} (p q : X → Bool) (xs : List X) → ((x : X) → p x ≡ q x) → find p xs ≡ find q xs
find_same p q [] same = refl
find_same {X} p q (x ∷ xs) same = ap₂ (λ (b : Bool) (r : Option X). cond b (Some x) r) (same x) (find_same p q xs same)

all_any : {X : Type 0} (p : X → Bool) (xs : List X) → list_all p xs ≡ not (list_any (λ x. not (p x)) xs)
all_any p [] = refl
all_any p (x ∷ xs) = ap (λ (b : Bool). p x && b) (all_any p xs) ∙ by (p x) (list_any (λ y. not (p y)) xs)
  where
    by : (a b : Bool) → (a && not b) ≡ not (not a || b)
    by true b = refl
    by false b = refl

pub list_all-IsPermutation : {X : Type 0} (p : X → Bool) (xs ys : List X) → IsPermutation xs ys → list_all p xs ≡ list_all p ys
list_all-IsPermutation p xs ys order = all_any p xs ∙ ap not (list_any-IsPermutation (λ x. not (p x)) xs ys order) ∙ sym (all_any p ys)

-- ---- the order of the owners

module _ (m : Map) (owners others : List Owner) (order : IsPermutation owners others) (dir : ℕ) where
  good_same : (need : ℕ) (s : ℕ × ℕ) → is_good m owners dir need s ≡ is_good m others dir need s
  good_same need s =
      ap₂ (λ (a b : Bool). a && b)
      (ap₂ (λ (a b : Bool). a && b) (list_any-IsPermutation _ owners others order) (list_all-IsPermutation (allows dir s.0) owners others order))
      (ap (λ (b : Bool). nat_le (low_start m s.1 + need) (length (id_sectors m s.0)) && b) (list_all-IsPermutation (leaves_free s.0 (low_start m s.1) need) owners others order))

  order_free : (bytes : ℕ) → IsNewMap m → slack_among nat_eq m (holdings m owners) dir bytes ≡ slack_among nat_eq m (holdings m others) dir bytes
  order_free bytes is = by (bytes == 0) refl
    where
      by : (b : Bool) → (bytes == 0) ≡ b → slack_among nat_eq m (holdings m owners) dir bytes ≡ slack_among nat_eq m (holdings m others) dir bytes
      by true none = slack_none m owners dir bytes none ∙ sym (slack_none m others dir bytes none)
      by false some =
          let need = some_sectors m bytes is (λ zero_is. let two : true ≡ false = sym (eq-eqb bytes 0 zero_is) ∙ some in cc) in
          slack_is m is owners dir bytes need some
          ∙ find_same (is_good m owners dir (div_ceil bytes m.geometry.sector)) (is_good m others dir (div_ceil bytes m.geometry.sector)) (shares_from 3 (id_limit m.geometry - 3)) (good_same (div_ceil bytes m.geometry.sector))
          ∙ sym (slack_is m is others dir bytes need some)

-- ---- what owners have, by whatever names their directories

-- the same of an identifier, in directories of which both are the one or neither
pub record AreAlike {D E : Type 0} (same : D → D → Bool) (other : E → E → Bool) (d : D) (e : E) (h : Holding D) (k : Holding E) : Type 0 where
  pub id : h.id ≡ k.id
  pub dir : same h.dir d ≡ other k.dir e
  pub file : h.file ≡ k.file
  pub low : h.low ≡ k.low
  pub sectors : h.sectors ≡ k.sectors

module _ {X D E : Type 0} (same : D → D → Bool) (other : E → E → Bool) (d : D) (e : E) (f : X → Holding D) (g : X → Holding E) where
  abbrev Alike : List X → Type 0
  Alike xs = (x : X) → Contains xs x → AreAlike same other d e (f x) (g x)

  long_same : (id : ℕ) (xs : List X) → Alike xs → length (holdings_in (map f xs) id) ≡ length (holdings_in (map g xs) id)
  long_same id [] alike = refl
  long_same id (x ∷ xs) alike =
      by ((f x).id == id) ((g x).id == id) (ap (λ (i : ℕ). i == id) (alike x (first_in x xs)).id) (long_same id xs (λ y at. alike y (next_in x y xs at)))
    where
      by : (a b : Bool) → a ≡ b → length (holdings_in (map f xs) id) ≡ length (holdings_in (map g xs) id)
          → length (cond a (f x ∷ holdings_in (map f xs) id) (holdings_in (map f xs) id)) ≡ length (cond b (g x ∷ holdings_in (map g xs) id) (holdings_in (map g xs) id))
      by true true is h = ap suc h
      by true false is h = absurd (cc)
      by false true is h = absurd (cc)
      by false false is h = h

  all_same : (id : ℕ) (xs : List X) → Alike xs → list_all (may_share_with same d) (holdings_in (map f xs) id) ≡ list_all (may_share_with other e) (holdings_in (map g xs) id)
  all_same id [] alike = refl
  all_same id (x ∷ xs) alike =
      by ((f x).id == id) ((g x).id == id) (ap (λ (i : ℕ). i == id) (alike x (first_in x xs)).id) (all_same id xs (λ y at. alike y (next_in x y xs at)))
    where
      one : may_share_with same d (f x) ≡ may_share_with other e (g x)
      one =
          let a = alike x (first_in x xs) in
          ap₂ (λ (b c : Bool). b && c) (ap₂ (λ (b c : Bool). b && c) a.file a.dir) (ap (nat_le 1) a.low)

      by : (a b : Bool) → a ≡ b → list_all (may_share_with same d) (holdings_in (map f xs) id) ≡ list_all (may_share_with other e) (holdings_in (map g xs) id)
          → list_all (may_share_with same d) (cond a (f x ∷ holdings_in (map f xs) id) (holdings_in (map f xs) id)) ≡ list_all (may_share_with other e) (cond b (g x ∷ holdings_in (map g xs) id) (holdings_in (map g xs) id))
      by true true is h = ap₂ (λ (b c : Bool). b && c) one h
      by true false is h = absurd (cc)
      by false true is h = absurd (cc)
      by false false is h = h

  sectors_same : (id : ℕ) (xs : List X) → Alike xs → flat_map (λ h. h.sectors) (holdings_in (map f xs) id) ≡ flat_map (λ h. h.sectors) (holdings_in (map g xs) id)
  sectors_same id [] alike = refl
  sectors_same id (x ∷ xs) alike =
      by ((f x).id == id) ((g x).id == id) (ap (λ (i : ℕ). i == id) (alike x (first_in x xs)).id) (sectors_same id xs (λ y at. alike y (next_in x y xs at)))
    where
      by : (a b : Bool) → a ≡ b → flat_map (λ h. h.sectors) (holdings_in (map f xs) id) ≡ flat_map (λ h. h.sectors) (holdings_in (map g xs) id)
          → flat_map (λ h. h.sectors) (cond a (f x ∷ holdings_in (map f xs) id) (holdings_in (map f xs) id)) ≡ flat_map (λ h. h.sectors) (cond b (g x ∷ holdings_in (map g xs) id) (holdings_in (map g xs) id))
      by true true is h = ap₂ (λ (ss ts : List ℕ). ss ++ ts) (alike x (first_in x xs)).sectors h
      by true false is h = absurd (cc)
      by false true is h = absurd (cc)
      by false false is h = h

  slack_alike : (m : Map) (bytes : ℕ) (xs : List X) → Alike xs → slack_among same m (map f xs) d bytes ≡ slack_among other m (map g xs) e bytes
  unfolding slack_among
  slack_alike m bytes xs alike =
      ap (λ (r : Option (ℕ × ℕ)). cond (bytes == 0) None r)
      (find_same
      (λ (s : ℕ × ℕ). is_shareable same d (holdings_in (map f xs) s.0) && is_spare m (holdings_in (map f xs) s.0) s.0 s.1 bytes)
      (λ (s : ℕ × ℕ). is_shareable other e (holdings_in (map g xs) s.0) && is_spare m (holdings_in (map g xs) s.0) s.0 s.1 bytes) (shares m)
      (λ s. ap₂ (λ (a b : Bool). a && b)
      (ap₂ (λ (a b : Bool). a && b) (ap (nat_lt 0) (long_same s.0 xs alike)) (all_same s.0 xs alike))
      (ap (λ (ss : List ℕ). option_map_or (λ sectors. is_apart sectors ss) (new_sectors m (256 * s.0 + s.1) bytes) false) (sectors_same s.0 xs alike))))

-- ---- the owners that objects are

front_part : (need : ℕ) (rest sectors : List ℕ) → first_part need rest ≡ Some sectors → take (length sectors) rest ≡ sectors
front_part need rest sectors e = by (nat_le need (length rest)) refl e
  where
    by : (b : Bool) → nat_le need (length rest) ≡ b → cond b (Some (take need rest)) None ≡ Some sectors → take (length sectors) rest ≡ sectors
    by true fits is =
        let same : take need rest ≡ sectors = same_some (take need rest) sectors is in
        let enough = leb-true need (length rest) fits in
        let long = length-take need rest in
        let short : length sectors ≡ need = sym (ap (λ (xs : List ℕ). length xs) same) ∙ omega (arith, enough, long) in
        ap (λ (n : ℕ). take n rest) short ∙ same
    by false fits is = absurd (cc)

named_part : (m : Map) (address bytes : ℕ) (sectors : List ℕ) → new_sectors m address bytes ≡ Some sectors → take (length sectors) (drop (low_start m (low_of address)) (id_sectors m (id_of address))) ≡ sectors
named_part m address bytes sectors e = by (is_object_id m (id_of address)) e
  where
    by : (b : Bool) → cond b (first_part (div_ceil bytes m.geometry.sector) (drop (low_start m (low_of address)) (id_sectors m (id_of address)))) None ≡ Some sectors
        → take (length sectors) (drop (low_start m (low_of address)) (id_sectors m (id_of address))) ≡ sectors
    by true is = front_part (div_ceil bytes m.geometry.sector) (drop (low_start m (low_of address)) (id_sectors m (id_of address))) sectors is
    by false is = absurd (cc)

-- what an object has of its identifier, by its place in it
pub own_part : (m : Map) (o : Object) → IsAt (Layout.New m) o → take (length o.sectors) (drop (low_start m (low_of o.entry.address)) (id_sectors m (id_of o.entry.address))) ≡ o.sectors
unfolding sectors_at
own_part m o at = by (object_size (dir_form (Layout.New m)) o.entry == 0) at
  where
    by : (b : Bool) → cond b (Some []) (new_sectors m o.entry.address (object_size (dir_form (Layout.New m)) o.entry)) ≡ Some o.sectors
        → take (length o.sectors) (drop (low_start m (low_of o.entry.address)) (id_sectors m (id_of o.entry.address))) ≡ o.sectors
    by true e =
        let none : [] ≡ o.sectors = same_some [] o.sectors e in
        ap (λ (xs : List ℕ). take (length xs) (drop (low_start m (low_of o.entry.address)) (id_sectors m (id_of o.entry.address)))) (sym none) ∙ none
    by false e = named_part m o.entry.address (object_size (dir_form (Layout.New m)) o.entry) o.sectors e

module _ (m : Map) (nodes : FinMap nat_cmp Node) (listings : List Listing) (owners : List Owner) (dir : Path) (number bytes : ℕ)
    (is : IsNewMap m) (sound : AreSound (Layout.New m) listings) (held : HoldObjects nodes listings) (are : AreOwners owners nodes (Layout.New m) (objects_of listings))
    (numbered : number_of nodes dir ≡ Some number) where
  abbrev objects : List Object
  objects = objects_of listings

  abbrev own : List Object
  own = filter has_sectors objects

  abbrev as_owner : Object → Owner
  as_owner = owner_of nodes (Layout.New m)

  placed : (o : Object) → Contains objects o → IsAt (Layout.New m) o
  placed o at =
      (Each-contains (Lies (Layout.New m) sound.reserved) objects o
      (Each-objects (Lies (Layout.New m) sound.reserved) listings (walk_lies sound.read (Layout.New m) sound.reserved sound.address sound.size listings sound.walked)) at).placed

  same_dir : (o : Object) → Contains objects o → nat_eq (as_owner o).dir number ≡ is_same_path (holder o.path) dir
  same_dir o at = by (is_same_path (holder o.path) dir) refl
    where
      there : number_of nodes (holder o.path) ≡ Some (as_owner o).dir
      there = let g = (held.each o at).at_holder in g ∙ ap (λ (r : Option ℕ). let s : Option ℕ = Some (unwrap_or r 0) in s) (sym g)

      by : (b : Bool) → is_same_path (holder o.path) dir ≡ b → nat_eq (as_owner o).dir number ≡ b
      by true same = eq-eqb (as_owner o).dir number (same_some (as_owner o).dir number (sym there ∙ same_number nodes (holder o.path) dir (folds_alike (holder o.path) dir same) ∙ numbered))
      by false apart = ne_eqb (as_owner o).dir number (λ e.
          let two : true ≡ false = sym (same_by_folds (holder o.path) dir (one_path nodes number _ (holder o.path) dir refl (there ∙ ap (λ (k : ℕ). let r : Option ℕ = Some k in r) e) numbered)) ∙ apart in cc)

  alike : (o : Object) → Contains own o → AreAlike nat_eq is_same_path number dir (holding_in m (as_owner o)) (holding_of o)
  alike o at =
      let there = from_filter has_sectors objects o at in
      record { id = refl; dir = same_dir o there; file = refl; low = refl; sectors = own_part m o (placed o there) }

  twice : (os : List Object) → holdings m (map as_owner os) ≡ map (λ o. holding_in m (as_owner o)) os
  twice [] = refl
  twice (o ∷ os) = ap (λ (hs : List (Holding ℕ)). holding_in m (as_owner o) ∷ hs) (twice os)

  pub same_slack : slack_among nat_eq m (holdings m owners) number bytes ≡ slack m objects dir bytes
  same_slack =
      order_free m owners (map as_owner own) are number bytes is
      ∙ ap (λ (hs : List (Holding ℕ)). slack_among nat_eq m hs number bytes) (twice own)
      ∙ slack_alike nat_eq is_same_path number dir (λ o. holding_in m (as_owner o)) holding_of m bytes own alike

pub slack_law : SlackLaw
slack_law m nodes listings owners dir number bytes is sound held are numbered = same_slack m nodes listings owners dir number bytes is sound held are numbered
