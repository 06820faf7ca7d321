-- Whether a rename copies a file, and what it wants of space.
use Rattle.std.proofs.Common.{◌≡◌, ◌<◌, ◌&&◌, ◌||◌, ◌==◌, ℕ, ◌+◌, ◌-◌, zero, suc, Bool, true, false, cond, List, [], ◌∷◌, length, take, refl, sym, ap, ap₂, subst, ◌∙◌, arith, Some, None, Option, nat_cmp, eq-eqb}
use Rattle.std.specs.Prelude.{Contains, IsPermutation, filter, not, is_some, nat_lt, remove}
use Rattle.std.specs.List.{list_any}
use Rattle.std.specs.FinMap.{FinMap}
use Rattle.std.specs.Option.{option_map_or, unwrap_or}
use Rattle.std.proofs.lemmas.Bool.{eqb-true, lt-ltb, ltb-true, false_from_ne_true as unless, not-true as not_true}
use Rattle.std.proofs.lemmas.List.Sorted.{IsPermutation-remove}
use Rattle.fc_names.specs.Names.{Path, folded_path, is_same_path}
use Rattle.fc_alloc.specs.declared.owner.Owner.{Owner}
use Rattle.fc_newmap.specs.Map.{Map}
use Rattle.fc_model.specs.Tree.{holder}
use Rattle.fc_model.specs.Command.{Command}
use Rattle.fc_dirs.specs.Directory.{directory_size}
use Rattle.fc_image.specs.Layout.{Layout, dir_form, id_of, sectors_at}
use Rattle.fc_image.specs.Walk.{Object, Listing, is_directory_object, object_size}
use Rattle.fc_image.specs.Opening.{Opened}
use Rattle.fc_image.specs.Edits.{IsAt}
use Rattle.fc_image.specs.Objects.{has_sectors, is_owner_of, objects_of, owner_count}
use Rattle.fc_image.specs.Sound.{AreSound}
use Rattle.fc_image.proofs.LookupLemmas.{lookup_law}
use Rattle.fc_image.proofs.PathsLemmas.{many}
use Rattle.fc_image.proofs.RelistLemmas.{folded_long}
use Rattle.fc_image.proofs.RenameLemmas.{many_shuffled}
use Rattle.fc_image.specs.effects.Sharing.{units}
use Rattle.fc_image.specs.effects.Short.{is_copied, is_sharing, new_length, object_units, slack_for}
use Rattle.fc_changes.proofs.BesideLemmas.{counted, three}
use Rattle.fc_changes.proofs.MovedLemmas.{holder_folds}
use Rattle.fc_tree.specs.declared.node.Node.{Node}
use Rattle.fc_tree.specs.Nodes.{HoldObjects, number_of}
use Rattle.fc_tree.specs.Parts.{AreOwners, owner_of}
use Rattle.fc_tree.proofs.PlaceLemmas.{one_path, same_number}
use Rattle.fc_tree.proofs.SoundLemmas.{folds_alike}
use Rattle.fc_tree.proofs.WalkedLemmas.{same_some}
use Rattle.fc_placing.specs.Copying.{CopiesLaw, copied_among, copied_of}
use Rattle.fc_placing.proofs.LeavingLemmas.{others_are, owner_is}
use Rattle.fc_placing.proofs.PlacesLemmas.{none_refused, short_is, space_refusal}
use Rattle.fc_record.proofs.KindLemmas.{and_first}
use Rattle.fc_image.proofs.CommandLemmas.{same_by_folds}

-- one passes, if some do
any_many : (t : Object → Bool) (xs : List Object) → list_any t xs ≡ nat_lt 0 (many t xs)
unfolding many
any_many t [] = refl
any_many t (x ∷ xs) = by (t x) (any_many t xs)
  where
    by : (b : Bool) → list_any t xs ≡ nat_lt 0 (many t xs) → (b || list_any t xs) ≡ nat_lt 0 ((let n : ℕ = cond b 1 0 in n) + many t xs)
    by true h = sym (lt-ltb 0 (1 + many t xs) (omega arith))
    by false h = h ∙ ap (nat_lt 0) (let e : many t xs ≡ 0 + many t xs = omega arith in e)

-- an object with its identifier shares it, if it is the map's or another has it
pub shared_is : (m : Map) (objects stay : List Object) (o : Object) → IsPermutation objects (o ∷ stay) → has_sectors o ≡ true
    → ((id_of o.entry.address == 2) || list_any (is_owner_of (id_of o.entry.address)) stay) ≡ nat_lt 1 (owner_count objects (id_of o.entry.address))
unfolding many
shared_is m objects stay o order some = by (id == 2) (list_any (is_owner_of id) stay) refl (any_many (is_owner_of id) stay)
  where
    id : ℕ
    id = id_of o.entry.address

    long : length (filter (is_owner_of id) objects) ≡ 1 + many (is_owner_of id) stay
    long =
        let whole = counted (is_owner_of id) objects in
        let order' = many_shuffled (is_owner_of id) objects (o ∷ stay) order in
        let own : is_owner_of id o ≡ true = ap₂ (λ (a b : Bool). a && b) some (eq-eqb id id refl) in
        let one : (let n : ℕ = cond (is_owner_of id o) 1 0 in n) ≡ 1 = ap (λ (b : Bool). let n : ℕ = cond b 1 0 in n) own in
        omega (arith, whole, order', one)

    none : nat_lt 0 (many (is_owner_of id) stay) ≡ false → many (is_owner_of id) stay ≡ 0
    none e = by_number (many (is_owner_of id) stay) e
      where
        by_number : (n : ℕ) → nat_lt 0 n ≡ false → n ≡ 0
        by_number zero h = refl
        by_number (suc n) h = absurd (let two : true ≡ false = sym (lt-ltb 0 (suc n) (omega arith)) ∙ h in cc)

    by : (two any : Bool) → list_any (is_owner_of id) stay ≡ any → any ≡ nat_lt 0 (many (is_owner_of id) stay)
        → (two || any) ≡ nat_lt 1 (length (filter (is_owner_of id) objects) + (let n : ℕ = cond two 1 0 in n))
    by true any is e = sym (lt-ltb 1 (length (filter (is_owner_of id) objects) + 1) (omega (arith, long)))
    by false true is e =
        let low = ltb-true 0 (many (is_owner_of id) stay) (sym e) in
        sym (lt-ltb 1 (length (filter (is_owner_of id) objects) + 0) (omega (arith, long, low)))
    by false false is e =
        let empty = none (sym e) in
        sym (ap (nat_lt 1) (let one : length (filter (is_owner_of id) objects) + 0 ≡ 1 = omega (arith, long, empty) in one))

-- the holders of paths that fold alike fold alike
holders_alike : (p q : Path) → folded_path p ≡ folded_path q → folded_path (holder p) ≡ folded_path (holder q)
holders_alike p q same =
    let long : length p ≡ length q = sym (folded_long p) ∙ ap (λ (x : Path). length x) same ∙ folded_long q in
    holder_folds p ∙ ap₂ (λ (n : ℕ) (x : Path). take (n - 1) x) long same ∙ sym (holder_folds q)

-- directories are the same exactly if their numbers are
pub dirs_same : (nodes : FinMap nat_cmp Node) (p q : Path) (a b : ℕ) → number_of nodes p ≡ Some a → number_of nodes q ≡ Some b → (a == b) ≡ is_same_path p q
dirs_same nodes p q a b at_p at_q = by (a == b) refl
  where
    by : (c : Bool) → (a == b) ≡ c → c ≡ is_same_path p q
    by true e = sym (same_by_folds p q (one_path nodes a (length p) p q refl at_p (at_q ∙ ap (λ (n : ℕ). let r : Option ℕ = Some n in r) (sym (eqb-true a b e)))))
    by false e = sym (unless (is_same_path p q) (λ same.
        let is = same_some a b (sym at_p ∙ same_number nodes p q (folds_alike p q same) ∙ at_q) in
        let two : true ≡ false = sym (eq-eqb a b is) ∙ e in
        cc))

-- paths that fold alike are alike to each other path
alike_to : (p q r s : Path) → folded_path p ≡ folded_path q → folded_path r ≡ folded_path s → is_same_path p r ≡ is_same_path q s
alike_to p q r s first second = by (is_same_path q s) refl
  where
    by : (b : Bool) → is_same_path q s ≡ b → is_same_path p r ≡ b
    by true e = same_by_folds p r (first ∙ folds_alike q s e ∙ sym second)
    by false e = unless (is_same_path p r) (λ same.
        let other = same_by_folds q s (sym first ∙ folds_alike p r same ∙ second) in
        let two : true ≡ false = sym other ∙ e in
        cc)

module _ (m : Map) (nodes : FinMap nat_cmp Node) (listings : List Listing) (owners : List Owner) (node dir : ℕ) (from to there : Path) (o : Object)
    (sound : AreSound (Layout.New m) listings) (held : HoldObjects nodes listings) (are : AreOwners owners nodes (Layout.New m) (objects_of listings))
    (at : Contains (objects_of listings) o) (from_is : is_same_path from o.path ≡ true) (numbered : number_of nodes o.path ≡ Some node)
    (above : is_same_path (holder to) there ≡ true) (dir_is : number_of nodes there ≡ Some dir) where
  abbrev objects : List Object
  objects = objects_of listings

  abbrev stay : List Object
  stay = remove objects at.0

  order : IsPermutation objects (o ∷ stay)
  order = IsPermutation-remove objects at.0 o at.1 (sym at.2)

  abbrev own : Owner
  own = owner_of nodes (Layout.New m) o

  dir_same : (own.dir == dir) ≡ is_same_path (holder from) (holder to)
  dir_same =
      let h = held.each o at in
      let up : own.dir ≡ h.holder_number = ap (λ (r : Option ℕ). unwrap_or r 0) h.at_holder in
      ap (λ (n : ℕ). n == dir) up ∙ dirs_same nodes (holder o.path) there h.holder_number dir h.at_holder dir_is
      ∙ alike_to (holder o.path) (holder from) there (holder to) (holders_alike o.path from (sym (folds_alike from o.path from_is))) (sym (folds_alike (holder to) there above))

  pub copied_is : copied_among owners node dir ≡ (not (is_directory_object o) && not (is_same_path (holder from) (holder to)) && is_sharing (Layout.New m) objects o)
  copied_is =
      ap (λ (r : Option Owner). option_map_or (copied_of owners node dir) r false) (owner_is m nodes listings owners o stay node sound held are numbered order) ∙ by (has_sectors o) refl
    where
      never : (a b : Bool) → false ≡ (a && b && false)
      never true true = refl
      never true false = refl
      never false b = refl

      by : (b : Bool) → has_sectors o ≡ b
          → option_map_or (copied_of owners node dir) (cond b (Some own) None) false
          ≡ (not (is_directory_object o) && not (is_same_path (holder from) (holder to)) && (b && nat_lt 1 (owner_count objects (id_of o.entry.address))))
      by false empty = never (not (is_directory_object o)) (not (is_same_path (holder from) (holder to)))
      by true some =
          ap₂ (λ (a b : Bool). not (is_directory_object o) && not a && b) dir_same
          (ap (λ (b : Bool). (own.id == 2) || b) (others_are m nodes listings owners o stay node sound held are numbered order own.id) ∙ shared_is m objects stay o order some)

-- ---- what it wants of space

none_at : (layout : Layout) (address : ℕ) (sectors : List ℕ) → sectors_at layout address 0 ≡ Some sectors → sectors ≡ []
unfolding sectors_at
none_at layout address sectors h = sym (same_some [] sectors h)

shares_of : (v : Opened) (from to : Path) (o : Object) → is_copied v from to o ≡ true
    → (not (is_directory_object o) ≡ true) × (not (is_same_path (holder from) (holder to)) ≡ true) × (is_sharing v.layout (objects_of v.listings) o ≡ true)
shares_of v from to o copied = three (not (is_directory_object o)) (not (is_same_path (holder from) (holder to))) (is_sharing v.layout (objects_of v.listings) o) copied

sharing_some : (layout : Layout) (objects : List Object) (o : Object) → is_sharing layout objects o ≡ true → has_sectors o ≡ true
sharing_some (Layout.Old space) objects o e = absurd (cc)
sharing_some (Layout.New m) objects o e = and_first (has_sectors o) (nat_lt 1 (owner_count objects (id_of o.entry.address))) e

some_bytes : (v : Opened) (m : Map) (from to : Path) (o : Object) → IsAt (Layout.New m) o → is_copied v from to o ≡ true → 0 < o.entry.len
some_bytes v m from to o at copied = by o.entry.len refl
  where
    shares : (not (is_directory_object o) ≡ true) × (not (is_same_path (holder from) (holder to)) ≡ true) × (is_sharing v.layout (objects_of v.listings) o ≡ true)
    shares = shares_of v from to o copied

    size : object_size (dir_form (Layout.New m)) o.entry ≡ o.entry.len
    size = ap (λ (b : Bool). cond b (directory_size (dir_form (Layout.New m)) o.entry.len) o.entry.len) (not_true (is_directory_object o) shares.0)

    by : (n : ℕ) → o.entry.len ≡ n → 0 < n
    by zero e =
        let none = none_at (Layout.New m) o.entry.address o.sectors (subst (λ (n : ℕ). sectors_at (Layout.New m) o.entry.address n ≡ Some o.sectors) (size ∙ e) at) in
        let long = ltb-true 0 (length o.sectors) (sharing_some v.layout (objects_of v.listings) o shares.2) in
        absurd (let empty = ap (λ (xs : List ℕ). length xs) none in omega (arith, empty, long))
    by (suc n) e = omega arith

length_wanted : (v : Opened) (m : Map) (from to : Path) (o : Object) → AreSound (Layout.New m) v.listings → Contains (objects_of v.listings) o → is_same_path from o.path ≡ true
    → (b : Bool) → is_copied v from to o ≡ b → new_length v (Command.Rename from to) ≡ cond b o.entry.len 0
length_wanted v m from to o sound at same b copied =
    ap (λ (q : Option Object). option_map_or (λ (x : Object). cond (is_copied v from to x) x.entry.len 0) q 0) (lookup_law.object (Layout.New m) v.listings from o sound at same)
    ∙ ap (λ (c : Bool). cond c o.entry.len 0) copied

no_units : (m : Map) (v : Opened) (c : Command) → new_length v c ≡ 0 → object_units m v c ≡ 0
no_units m v c none = by (is_some (slack_for v c))
  where
    by : (b : Bool) → cond b 0 (units m.geometry (new_length v c)) ≡ 0
    by true = refl
    by false = ap (units m.geometry) none

pub copies_law : CopiesLaw
copies_law = record {
  some = some_bytes;
  wants = λ v m from to o sound at same copied. record { len = length_wanted v m from to o sound at same true copied; no_slack = refl };
  wants_none = λ v m from to o sound at same copied. length_wanted v m from to o sound at same false copied;
  unrefused = λ v m c new none fits. short_is m v c new fits ∙ ap (space_refusal m) (no_units m v c none) ∙ none_refused m 0 (omega arith) (omega arith);
}
