-- A name to which something may be renamed is free beside it.
use Rattle.std.proofs.Common.{◌≡◌, ◌≤◌, ◌<◌, ℕ, Bool, true, false, cond, List, [], ◌∷◌, ◌++◌, length, remove, refl, sym, ap, ap₂, subst, ◌∙◌, arith, Option, Some, None, is_some, nat_cmp, find}
use Rattle.std.specs.Prelude.{Contains, slice_get, option_map}
use Rattle.std.specs.FinMap.{FinMap}
use Rattle.std.proofs.lemmas.List.Sorted.{Contains-permutation, IsPermutation-remove, IsPermutation-sym}
use Rattle.std.proofs.lemmas.Option.{get_or_from_slice_get, slice_get-map, slice_get_within}
use Rattle.fc_names.specs.Names.{Path, folded_path, is_same_name}
use Rattle.fc_model.specs.Tree.{holder, is_prefix, last_name}
use Rattle.fc_model.specs.Answer.{is_above}
use Rattle.fc_dirs.specs.declared.Entry.{Entry}
use Rattle.fc_dirs.specs.Entries.{has_name, without_entry}
use Rattle.fc_dirs.specs.Directory.{entries_of}
use Rattle.fc_image.specs.Layout.{Layout}
use Rattle.fc_image.specs.Walk.{Object, Listing}
use Rattle.fc_image.specs.Sound.{AreSound}
use Rattle.fc_image.proofs.PathsLemmas.{cut, has_that, itself, many, names_once}
use Rattle.fc_tree.specs.declared.node.Node.{Node}
use Rattle.fc_tree.specs.Nodes.{number_of}
use Rattle.fc_tree.proofs.MemberLemmas.{from_map, many_permuted, some_many}
use Rattle.fc_tree.proofs.PlaceLemmas.{one_path}
use Rattle.fc_tree.proofs.SoundLemmas.{children_stored, folds_alike, same_listing, same_object}
use Rattle.fc_tree.proofs.WalkedLemmas.{child_is_object, child_path, contained, find_nothing, holder-push, same_some, twins}
use Rattle.fc_refusals.proofs.AboveLemmas.{above_child, above_is}
use Rattle.fc_refusals.specs.declared.target.Renaming.{Renaming}
use Rattle.fc_refusals.specs.Slots.{IsDestination}
use Rattle.fc_refusals.specs.Targets.{IsTarget}
use Rattle.std.proofs.lemmas.Bool.{false_from_ne_true as unless}
use Rattle.fc_image.proofs.EntriesLemmas.{later as contains_later}
use Rattle.fc_image.proofs.CommandLemmas.{same_by_folds}

-- If one passes at most, and the one of a number passes if any does, none passes without it.
without_passing : {X : Type 0} (t : X → Bool) (xs : List X) (i : ℕ) (y : X) → slice_get xs i ≡ Some y → many t xs ≤ 1 → ((x : X) → Contains xs x → t x ≡ true → t y ≡ true)
    → find t (remove xs i) ≡ None
unfolding many
without_passing t xs i y at few own =
    find_nothing t (remove xs i) (λ j x is. unless (t x) (λ passes.
    let rest = contained (remove xs i) j x is in
    let order = IsPermutation-remove xs i y (slice_get_within xs i y at) (sym (get_or_from_slice_get xs i y y at)) in
    let among = Contains-permutation (y ∷ remove xs i) xs x (IsPermutation-sym xs (y ∷ remove xs i) order) (contains_later y x (remove xs i) rest) in
    let one : ◌≡◌ {A = ℕ} (cond (t y) 1 0) 1 = ap (λ (b : Bool). let n : ℕ = cond b 1 0 in n) (own x among passes) in
    let all = many_permuted t xs (y ∷ remove xs i) order in
    let more = some_many t (remove xs i) x rest passes in
    omega (arith, one, all, more, few)))

module _ (layout : Layout) (listings : List Listing) (nodes : FinMap nat_cmp Node) (sound : AreSound layout listings) (from to : Path) (r : Renaming)
    (a : IsTarget nodes listings from r.target) (d : IsDestination nodes listings from to r.holder) where
  held : Contains a.listing.children a.object
  held = contained a.listing.children r.target.at a.object a.at

  -- what has the name there is what is renamed
  named_target : (p : Object) → Contains d.listing.children p → is_same_name (last_name to) p.entry.name ≡ true → p ≡ a.object
  named_target p at same =
      same_object layout listings sound from p a.object (child_is_object layout listings sound d.listing p d.listed at)
      (child_is_object layout listings sound a.listing a.object a.listed held) (d.named p at same) a.path_is

  one_listing : r.holder ≡ r.target.holder → d.listing ≡ a.listing
  one_listing e =
      let p = d.listing.object.path in
      let q = a.listing.object.path in
      same_listing layout listings sound p d.listing a.listing d.listed a.listed (itself p)
      (same_by_folds p q (one_path nodes r.holder (length p) p q refl d.holder_is (a.holder_is ∙ ap (λ (n : ℕ). let o : Option ℕ = Some n in o) (sym e))))

  pub within : r.holder ≡ r.target.holder → (d.listing ≡ a.listing) × (has_name (without_entry r.target.at (entries_of a.listing.content)) (last_name to) ≡ false)
  within e =
      let l = a.listing in
      let stored = children_stored layout listings sound l a.listed in
      let at : slice_get (entries_of l.content) r.target.at ≡ Some a.object.entry =
      ap (λ (es : List Entry). slice_get es r.target.at) (sym stored) ∙ slice_get-map (λ (p : Object). p.entry) l.children r.target.at ∙ ap (option_map (λ (p : Object). p.entry)) a.at in (
        one_listing e,
        ap is_some (without_passing (has_that (last_name to)) (entries_of l.content) r.target.at a.object.entry at (names_once (entries_of l.content) (last_name to) (twins layout listings sound l a.listed))
            (λ x among passes.
            let p = from_map (λ (o : Object). o.entry) l.children x (subst (λ (es : List Entry). Contains es x) (sym stored) among) in
            let name : is_same_name (last_name to) p.0.entry.name ≡ true = ap (has_that (last_name to)) p.2 ∙ passes in
            let one = named_target p.0 (subst (λ (k : Listing). Contains k.children p.0) (sym (one_listing e)) p.1) name in
            ap (λ (o : Object). has_that (last_name to) o.entry) (sym one) ∙ name)),
      )

  apart : (p : Object) → Contains d.listing.children p → p ≡ a.object → r.holder ≡ r.target.holder
  apart p at one =
      let path_p = child_path layout listings sound d.listing p d.listed at in
      let path_a = child_path layout listings sound a.listing a.object a.listed held in
      let same : d.listing.object.path ≡ a.listing.object.path =
      sym (ap holder path_p ∙ holder-push d.listing.object.path p.entry.name) ∙ ap (λ (o : Object). holder o.path) one ∙ ap holder path_a ∙ holder-push a.listing.object.path a.object.entry.name in
      same_some r.holder r.target.holder (sym d.holder_is ∙ ap (number_of nodes) same ∙ a.holder_is)

  across_name : (r.holder ≡ r.target.holder → ⊥) → has_name (entries_of d.listing.content) (last_name to) ≡ false
  across_name other =
      ap is_some (find_nothing (has_that (last_name to)) (entries_of d.listing.content) (λ j x is. unless (has_that (last_name to) x) (λ passes.
      let among = contained (entries_of d.listing.content) j x is in
      let p = from_map (λ (o : Object). o.entry) d.listing.children x (subst (λ (es : List Entry). Contains es x) (sym (children_stored layout listings sound d.listing d.listed)) among) in
      other (apart p.0 p.1 (named_target p.0 p.1 (ap (has_that (last_name to)) p.2 ∙ passes))))))

  across_into : is_prefix (folded_path a.object.path) (folded_path d.listing.object.path) ≡ false
  across_into = unless (is_prefix (folded_path a.object.path) (folded_path d.listing.object.path)) (λ h. by to d.no_root (sym d.not_into)
      (ap₂ is_prefix (folds_alike from a.object.path a.path_is) (folds_alike (holder to) d.listing.object.path d.above) ∙ h))
    where
      by : (path : Path) → 0 < length path → false ≡ is_above from path → is_prefix (folded_path from) (folded_path (holder path)) ≡ true → ⊥
      by [] some no' h = omega (arith, some)
      by (x ∷ path) some no' h =
          let c = cut x path in
          let front : holder (x ∷ path) ≡ c.front = ap holder c.is ∙ holder-push c.front c.last in
          let up = above_child from c.front c.last (ap (λ (q : Path). is_prefix (folded_path from) (folded_path q)) (sym front) ∙ h) in
          let is : is_above from (x ∷ path) ≡ true = ap (is_above from) c.is ∙ sym (above_is from (c.front ++ c.last ∷ [])) ∙ up in
          let two : false ≡ true = no' ∙ is in cc

  pub across : (r.holder ≡ r.target.holder → ⊥) → (has_name (entries_of d.listing.content) (last_name to) ≡ false)
      × (is_prefix (folded_path a.object.path) (folded_path d.listing.object.path) ≡ false)
  across other = (across_name other, across_into)
