-- The directories around one that grows, by their nodes and by their paths: the one that holds it, and those in it.
use Rattle.std.proofs.Common.{◌≡◌, inl, inr, ◌&&◌, ◌||◌, ◌==◌, ℕ, Bool, true, false, cond, List, [], ◌∷◌, map, refl, sym, ap, ap₂, subst, ◌∙◌, Option, Some}
use Rattle.std.specs.Prelude.{Contains}
use Rattle.std.specs.FinMap.{get}
use Rattle.std.specs.List.{flat_map, list_any}
use Rattle.std.specs.Option.{option_and_then, option_map_or, option_to_list}
use Rattle.std.proofs.lemmas.Bool.{and_parts, eq-eqb, eqb-true, false_from_ne_true as unless, ne_eqb}
use Rattle.fc_names.specs.Names.{Path, is_same_path}
use Rattle.fc_model.specs.Tree.{holder}
use Rattle.fc_dirs.specs.declared.Entry.{Entry}
use Rattle.fc_newmap.specs.Map.{Map}
use Rattle.fc_image.specs.Opening.{Opened}
use Rattle.fc_image.specs.Walk.{Listing, Object, is_directory_object}
use Rattle.fc_image.proofs.PathsLemmas.{itself}
use Rattle.fc_laws.proofs.lemmas.nodes.FitsLemmas.{kid_lower}
use Rattle.fc_changes.proofs.StepsLemmas.{any_append}
use Rattle.fc_plan.specs.Giving.{is_one_of}
use Rattle.fc_refusals.specs.Places.{entries_at, entries_in}
use Rattle.fc_refusals.proofs.TargetLemmas.{entries_body}
use Rattle.fc_tree.specs.declared.node.Node.{Node}
use Rattle.fc_tree.specs.Nodes.{HasNode, child, number_of}
use Rattle.fc_tree.specs.Parts.{Parts}
use Rattle.fc_tree.proofs.NumberLemmas.{number_from-push}
use Rattle.fc_tree.proofs.PlaceLemmas.{same_number}
use Rattle.fc_tree.proofs.SoundLemmas.{children_stored, folds_alike, root_or_child, same_listing, same_object}
use Rattle.fc_tree.proofs.WalkedLemmas.{child_is_object, child_path, holder-push, listed_directory, root_path, same_some}
use Rattle.fc_change.specs.Directories.{child_of, directories_in}
use Rattle.fc_commands.proofs.NodeLemmas as its
use Rattle.fc_safe.specs.Changed.{holder_of}
use Rattle.fc_safe.specs.Views.{IsNodeOf, IsViewOf}
use Rattle.fc_safe.proofs.ListLemmas.{any_of, found_of, same_test}
use Rattle.fc_safecommands.proofs.lemmas.NumberLemmas.{directory_at, one_is}
use Rattle.fc_safecommands.proofs.lemmas.TestLemmas.{and_none, or_none}

-- ---- tests of lists

any_joined : {X Y : Type 0} (t : Y → Bool) (f : X → List Y) (xs : List X) → list_any t (flat_map f xs) ≡ list_any (λ (x : X). list_any t (f x)) xs
any_joined t f [] = refl
any_joined t f (x ∷ xs) = any_append t (f x) (flat_map f xs) ∙ ap (λ (b : Bool). list_any t (f x) || b) (any_joined t f xs)

any_mapped : {X Y : Type 0} (t : Y → Bool) (f : X → Y) (xs : List X) → list_any t (map f xs) ≡ list_any (λ (x : X). t (f x)) xs
any_mapped t f [] = refl
any_mapped t f (x ∷ xs) = ap (λ (b : Bool). t (f x) || b) (any_mapped t f xs)

-- the directory that one entry names
abbrev pub named_by : Bool → Option ℕ → List ℕ
named_by dir number = cond dir (option_to_list number) []

-- A directory of this number is among what one entry names.
named_one : (dir : Bool) (k n : ℕ) → is_one_of (named_by dir (Some k)) n ≡ (dir && (k == n))
named_one true k n = or_none (k == n)
named_one false k n = refl

-- ---- the directory l of node g

module _ (m : Map) (h : Parts) (v : Opened) (view : IsViewOf m h v) (l : Listing) (listed : Contains v.listings l) (g : ℕ) (number : number_of h.nodes l.object.path ≡ Some g) where
  there : get h.nodes g ≡ Some (its.node h.nodes v.layout v.listings view.sound view.parts.nodes l listed g number)
  there = its.there h.nodes v.layout v.listings view.sound view.parts.nodes l listed g number

  abbrev has : HasNode h.nodes v.listings l.object
  has = view.parts.nodes.each l.object (its.among h.nodes v.layout v.listings view.sound view.parts.nodes l listed g number)

  -- ---- the one that holds it

  above : (k : Listing) × Contains v.listings k × (holder l.object.path ≡ k.object.path)
  above = its.above h.nodes v.layout v.listings view.sound view.parts.nodes l listed g number

  pub above_listed : (n : ℕ) → is_one_of (holder_of h.nodes g) n ≡ true → (k : Listing) × Contains v.listings k × (number_of h.nodes k.object.path ≡ Some n)
  above_listed n e = (above.0, above.1, sym (ap (number_of h.nodes) above.2) ∙ has.at_holder ∙ ap (λ (k : ℕ). let x : Option ℕ = Some k in x) (by (g == 0) e))
    where
      only : (k : ℕ) → is_one_of (k ∷ []) n ≡ true → k ≡ n
      only k f = eqb-true k n (sym (or_none (k == n)) ∙ f)

      by : (b : Bool) → is_one_of (cond b [] (option_map_or (λ (node : Node). node.holder ∷ []) (get h.nodes g) [])) n ≡ true → has.holder_number ≡ n
      by true f = absurd (cc)
      by false f = only has.holder_number (sym (ap (λ (x : Option Node). is_one_of (option_map_or (λ (node : Node). node.holder ∷ []) x []) n) there) ∙ f)

  pub holder_is : (g ≡ 0 → ⊥) → (o : Object) (n : ℕ) → IsNodeOf h v o n → is_one_of (holder_of h.nodes g) n ≡ (is_directory_object o && is_same_path (holder l.object.path) o.path)
  holder_is lower o n node =
      ap₂ (λ (b : Bool) (x : Option Node). is_one_of (cond b [] (option_map_or (λ (k : Node). k.holder ∷ []) x [])) n) (ne_eqb g 0 lower) there
      ∙ or_none (has.holder_number == n) ∙ one_is m h v view (holder l.object.path) has.holder_number has.at_holder o n node
      ∙ by (is_same_path (holder l.object.path) o.path) (is_directory_object o)
      (directory_at m h v view (holder l.object.path) above.0 above.1 (ap (is_same_path (holder l.object.path)) (sym above.2) ∙ itself (holder l.object.path)) o node.0)
    where
      by : (b d : Bool) → (b ≡ true → d ≡ true) → b ≡ (d && b)
      by true true dir = refl
      by true false dir = absurd (let bad = dir refl in cc)
      by false true dir = refl
      by false false dir = refl

  -- nothing but itself holds the root
  pub holder_at_top : g ≡ 0 → (o : Object) (n : ℕ) → (n ≡ 0 → ⊥) → IsNodeOf h v o n → is_one_of (holder_of h.nodes g) n ≡ (is_directory_object o && is_same_path (holder l.object.path) o.path)
  holder_at_top top o n lower node =
      ap (λ (b : Bool). is_one_of (cond b [] (option_map_or (λ (k : Node). k.holder ∷ []) (get h.nodes g) [])) n) (eq-eqb g 0 top)
      ∙ sym (and_none (is_directory_object o))
      ∙ ap (λ (b : Bool). is_directory_object o && b)
      (sym (unless (is_same_path (holder l.object.path) o.path) (λ same. lower (sym (same_some 0 n
      (sym top_number ∙ same_number h.nodes (holder l.object.path) o.path (folds_alike (holder l.object.path) o.path same) ∙ node.1))))))
    where
      -- the root's holder is itself
      top_number : number_of h.nodes (holder l.object.path) ≡ Some 0
      top_number = elim (root_or_child v.layout v.listings view.sound l.object (listed_directory v.layout v.listings view.sound l listed).0) [
        | inl is ↦ ap (λ (p : Path). number_of h.nodes (holder p)) (ap (λ (o : Object). o.path) (sym is) ∙ root_path v.layout v.listings view.sound)
        | inr kid ↦ absurd (kid_lower v.layout v.listings h.nodes view.sound view.parts.nodes kid.0 l.object g kid.1 kid.2 number top)
      ]

  -- ---- those in it

  kid_number : (kid : Object) → Contains l.children kid → child h.nodes g kid.entry.name ≡ number_of h.nodes kid.path
  kid_number kid at =
      sym (ap (number_of h.nodes) (child_path v.layout v.listings view.sound l kid listed at) ∙ number_from-push h.nodes 0 l.object.path kid.entry.name
      ∙ ap (option_and_then (λ (dir : ℕ). child h.nodes dir kid.entry.name)) number)

  entries_are : entries_at h.nodes g ≡ map (λ (kid : Object). kid.entry) l.children
  entries_are =
      ap (λ (x : Option Node). option_map_or (λ (k : Node). entries_in k.body) x []) there ∙ ap entries_in (its.says h.nodes v.layout v.listings view.sound view.parts.nodes l listed g number)
      ∙ entries_body l.content ∙ sym (children_stored v.layout v.listings view.sound l listed)

  -- A directory in it has the number.
  abbrev pub is_kid : ℕ → Object → Bool
  is_kid n kid = is_one_of (child_of h.nodes g kid.entry) n

  pub kids_are : (n : ℕ) → is_one_of (directories_in h.nodes g) n ≡ list_any (is_kid n) l.children
  kids_are n =
      ap (λ (es : List Entry). is_one_of (flat_map (child_of h.nodes g) es) n) entries_are
      ∙ any_joined (λ (k : ℕ). k == n) (child_of h.nodes g) (map (λ (kid : Object). kid.entry) l.children)
      ∙ any_mapped (λ (e : Entry). is_one_of (child_of h.nodes g e) n) (λ (kid : Object). kid.entry) l.children

  kid_is : (kid : Object) → Contains l.children kid → (o : Object) (n : ℕ) → IsNodeOf h v o n → is_kid n kid ≡ (is_directory_object kid && is_same_path kid.path o.path)
  kid_is kid at o n node =
      let its = view.parts.nodes.each kid (child_is_object v.layout v.listings view.sound l kid listed at) in
      ap (λ (x : Option ℕ). is_one_of (named_by (is_directory_object kid) x) n) (kid_number kid at ∙ its.at_path)
      ∙ named_one (is_directory_object kid) its.number n ∙ ap (λ (b : Bool). is_directory_object kid && b) (one_is m h v view kid.path its.number its.at_path o n node)

  -- So it is a directory of this number.
  pub kid_named : (kid : Object) → Contains l.children kid → (n : ℕ) → is_kid n kid ≡ true → (is_directory_object kid ≡ true) × (number_of h.nodes kid.path ≡ Some n)
  kid_named kid at n e =
      let its = view.parts.nodes.each kid (child_is_object v.layout v.listings view.sound l kid listed at) in
      let tests = and_parts (is_directory_object kid) (its.number == n)
      (sym (ap (λ (x : Option ℕ). is_one_of (named_by (is_directory_object kid) x) n) (kid_number kid at ∙ its.at_path) ∙ named_one (is_directory_object kid) its.number n) ∙ e) in
      (tests.0, its.at_path ∙ ap (λ (k : ℕ). let x : Option ℕ = Some k in x) (eqb-true its.number n tests.1))

  -- These lie in it, but that the root's holder is the root.
  pub within_is : (o : Object) (n : ℕ) → (n ≡ g → ⊥) → IsNodeOf h v o n → is_one_of (directories_in h.nodes g) n ≡ (is_directory_object o && is_same_path (holder o.path) l.object.path)
  within_is o n other node = kids_are n ∙ same_test (list_any (is_kid n) l.children) (is_directory_object o && is_same_path (holder o.path) l.object.path) there' back
    where
      both : (a b : Bool) → a ≡ true → b ≡ true → (a && b) ≡ true
      both true b e f = f
      both false b e f = absurd (cc)

      there' : list_any (is_kid n) l.children ≡ true → (is_directory_object o && is_same_path (holder o.path) l.object.path) ≡ true
      there' some =
          let r = found_of (is_kid n) l.children some in
          let tests = and_parts (is_directory_object r.0) (is_same_path r.0.path o.path) (sym (kid_is r.0 r.1 o n node) ∙ r.2) in
          let one : r.0 ≡ o = same_object v.layout v.listings view.sound r.0.path r.0 o (child_is_object v.layout v.listings view.sound l r.0 listed r.1) node.0 (itself r.0.path) tests.1 in
          let path = child_path v.layout v.listings view.sound l r.0 listed r.1 in
          subst (λ (p : Object). (is_directory_object p && is_same_path (holder p.path) l.object.path) ≡ true) one
          (both (is_directory_object r.0) (is_same_path (holder r.0.path) l.object.path) tests.0
          (ap (λ (p : Path). is_same_path p l.object.path) (ap holder path ∙ holder-push l.object.path r.0.entry.name) ∙ itself l.object.path))

      back : (is_directory_object o && is_same_path (holder o.path) l.object.path) ≡ true → list_any (is_kid n) l.children ≡ true
      back both_are =
          let tests = and_parts (is_directory_object o) (is_same_path (holder o.path) l.object.path) both_are in
          elim (root_or_child v.layout v.listings view.sound o node.0) [
            | inl top ↦ absurd (
                let path : o.path ≡ [] = ap (λ (p : Object). p.path) (sym top) ∙ root_path v.layout v.listings view.sound in
                let own : is_same_path [] l.object.path ≡ true = ap (λ (p : Path). is_same_path (holder p) l.object.path) (sym path) ∙ tests.1 in
                let first = same_some n 0 (sym node.1 ∙ ap (number_of h.nodes) path) in
                let second = same_some g 0 (sym number ∙ sym (same_number h.nodes [] l.object.path (folds_alike [] l.object.path own))) in
                other (first ∙ sym second))
            | inr kid ↦ (
                let path = child_path v.layout v.listings view.sound kid.0 o kid.1 kid.2 in
                let front : holder o.path ≡ kid.0.object.path = ap holder path ∙ holder-push kid.0.object.path o.entry.name in
                let own : kid.0 ≡ l = same_listing v.layout v.listings view.sound (holder o.path) kid.0 l kid.1 listed (ap (is_same_path (holder o.path)) (sym front) ∙ itself (holder o.path)) tests.1 in
                let at : Contains l.children o = subst (λ (k : Listing). Contains k.children o) own kid.2 in
                any_of (is_kid n) l.children o at (kid_is o at o n node ∙ both (is_directory_object o) (is_same_path o.path o.path) tests.0 (itself o.path)))
          ]
