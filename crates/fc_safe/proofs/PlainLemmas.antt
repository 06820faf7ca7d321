-- `delete`, `set` and `mark` by nodes and by paths.
use Rattle.std.proofs.Common.{◌≡◌, ◌&&◌, ◌||◌, ◌==◌, inl, inr, ℕ, Bool, true, false, List, [], ◌∷◌, ◌++◌, length, refl, sym, ap, ap₂, subst, ◌∙◌, arith, eq-eqb, Some, None, Option}
use Rattle.std.specs.Prelude.{Contains, not}
use Rattle.std.specs.Option.{option_map_or, option_to_list}
use Rattle.std.proofs.lemmas.Bool.{cases_Bool, eqb-true}
use Rattle.std.proofs.lemmas.List.{length-append}
use Rattle.fc_names.specs.Names.{Path, folded, folded_path, is_same_path}
use Rattle.fc_newmap.specs.Map.{Map}
use Rattle.fc_model.specs.Command.{Command}
use Rattle.fc_model.specs.Tree.{holder}
use Rattle.fc_image.specs.Walk.{Object, is_directory_object}
use Rattle.fc_image.specs.Objects.{object_at, objects_of}
use Rattle.fc_image.specs.Opening.{Opened}
use Rattle.fc_image.proofs.CommandLemmas.{same_by_folds}
use Rattle.fc_image.proofs.LookupLemmas.{lookup_law}
use Rattle.fc_refusals.specs.Targets.{IsTarget}
use Rattle.fc_refusals.specs.declared.target.Target.{Target}
use Rattle.fc_tree.specs.Nodes.{number_of}
use Rattle.fc_tree.specs.Parts.{Parts}
use Rattle.fc_tree.proofs.PlaceLemmas.{one_path, same_number}
use Rattle.fc_tree.proofs.SoundLemmas.{fold_pushed, folds_alike, same_object}
use Rattle.fc_tree.proofs.WalkedLemmas.{child_is_object, child_path, contained, listed_directory}
use Rattle.fc_change.specs.declared.job.Growth.{Growth}
use Rattle.fc_change.specs.declared.job.Job.TheVariants as jobs
use Rattle.fc_change.specs.declared.job.ObjectWords.{ObjectWords}
use Rattle.fc_change.specs.declared.job.Wants.{Wants}
use Rattle.fc_safe.specs.Changed.{changed_in}
use Rattle.fc_safe.specs.FirstNeeds.{Stir, longer_of, moving_out, node_of, stir_of}
use Rattle.fc_safe.specs.Views.{IsNodeOf, IsViewOf, StirsAs}
use Rattle.fc_safe.proofs.ListLemmas.{same_test}
use Rattle.fc_laws.proofs.lemmas.agree.WalkedLemmas.{same_number as one_number}
use Rattle.fc_plan.proofs.IdBits.{or_false as or_none}

-- ---- the target, by numbers and by paths

module _ (m : Map) (h : Parts) (v : Opened) (view : IsViewOf m h v) (path : Path) (t : Target) (is : IsTarget h.nodes v.listings path t) where
  abbrev objects : List Object
  objects = objects_of v.listings

  -- the numbers of two objects are the same if their paths are
  number_same : (p o : Object) (k n : ℕ) → IsNodeOf h v p k → IsNodeOf h v o n → (k == n) ≡ is_same_path p.path o.path
  number_same p o k n a b = same_test (k == n) (is_same_path p.path o.path)
      (λ e. (let same = eqb-true k n e in same_by_folds p.path o.path (one_path h.nodes n (length p.path) p.path o.path refl (subst (λ (j : ℕ). number_of h.nodes p.path ≡ Some j) same a.1) b.1)))
      (λ e. eq-eqb k n (one_number k n (sym a.1 ∙ same_number h.nodes p.path o.path (folds_alike p.path o.path e) ∙ b.1)))

  in_there : Contains objects is.listing.object × (is_directory_object is.listing.object ≡ true)
  in_there = listed_directory v.layout v.listings view.sound is.listing is.listed

  kid : Contains is.listing.children is.object
  kid = contained is.listing.children t.at is.object is.at

  pub object_in : Contains objects is.object
  object_in = child_is_object v.layout v.listings view.sound is.listing is.object is.listed kid

  -- the same by the path of its directory
  same_holder : (o : Object) → is_same_path is.listing.object.path o.path ≡ is_same_path (holder path) o.path
  same_holder o = same_test (is_same_path is.listing.object.path o.path) (is_same_path (holder path) o.path)
      (λ e. same_by_folds (holder path) o.path (folds_alike (holder path) is.listing.object.path is.above ∙ folds_alike is.listing.object.path o.path e))
      (λ e. same_by_folds is.listing.object.path o.path (sym (folds_alike (holder path) is.listing.object.path is.above) ∙ folds_alike (holder path) o.path e))

  held_directory : (o : Object) → Contains objects o → is_same_path (holder path) o.path ≡ true → is_directory_object o ≡ true
  held_directory o at e = ap is_directory_object (same_object v.layout v.listings view.sound (holder path) o is.listing.object at in_there.0 e is.above) ∙ in_there.1

  -- it isn't the target
  held_apart : (o : Object) → is_same_path (holder path) o.path ≡ true → is_same_path path o.path ≡ false
  held_apart o e = elim (cases_Bool (is_same_path path o.path)) [
    | inl same ↦ absurd (
        let child = ap folded_path (child_path v.layout v.listings view.sound is.listing is.object is.listed kid) ∙ fold_pushed is.listing.object.path is.object.entry.name in
        let mine : folded_path is.listing.object.path ≡ folded_path is.listing.object.path ++ folded is.object.entry.name ∷ [] =
        sym (folds_alike (holder path) is.listing.object.path is.above) ∙ folds_alike (holder path) o.path e ∙ sym (folds_alike path o.path same) ∙ folds_alike path is.object.path is.path_is ∙ child in
        let long = ap (λ (xs : List (List ℕ)). length xs) mine in
        let sum = length-append (folded_path is.listing.object.path) (folded is.object.entry.name ∷ []) in
        omega (arith, long, sum))
    | inr apart ↦ apart
  ]

  held_is : (o : Object) (n : ℕ) → IsNodeOf h v o n → (t.holder == n) ≡ is_same_path (holder path) o.path
  held_is o n at = number_same is.listing.object o t.holder n (in_there.0, is.holder_is) at ∙ same_holder o

  -- A directory is changed if it holds the target, and doesn't go. `goes` says whether what is at the path does.
  pub changed_is : (o : Object) (n : ℕ) (goes : Bool) → IsNodeOf h v o n → (goes ≡ true → goes ≡ is_same_path path o.path)
      → ((t.holder == n) || false) ≡ (is_directory_object o && (is_same_path (holder path) o.path || false || false || false) && not goes)
  changed_is o n goes at same =
      or_none (t.holder == n) ∙ held_is o n at ∙ by (is_directory_object o) (is_same_path (holder path) o.path) goes (held_directory o at.0) (λ e g. (let bad : true ≡ false = sym g ∙ same g ∙ held_apart o e in cc))
    where
      by : (d b g : Bool) → (b ≡ true → d ≡ true) → (b ≡ true → g ≡ true → ⊥) → b ≡ (d && (b || false || false || false) && not g)
      by true true true dir apart = absurd (apart refl refl)
      by true true false dir apart = refl
      by true false true dir apart = refl
      by true false false dir apart = refl
      by false true g dir apart = absurd (let bad = dir refl in cc)
      by false false g dir apart = refl

  pub target_is : (o : Object) (n : ℕ) → IsNodeOf h v o n → (t.node == n) ≡ is_same_path is.object.path o.path
  target_is o n at = number_same is.object o t.node n (object_in, is.node_is) at

  pub target_at : object_at v.listings path ≡ Some is.object
  target_at = lookup_law.object v.layout v.listings path is.object view.sound object_in is.path_is

-- ---- what is stirred

-- if nothing grows and nothing is copied
abbrev pub plain_stir : ℕ → Option ℕ → Stir
plain_stir dir goes = record { changed = dir ∷ []; leaving = option_to_list goes ++ []; longer = None; out = None }

pub removal_stir : (m : Map) (h : Parts) (t : Target) (w : Wants) → w.grows ≡ None → w.copied ≡ None → w.goes ≡ Some t.node → stir_of m h (jobs.Removal t) w ≡ plain_stir t.holder (Some t.node)
removal_stir m h t w still uncopied goes =
    let of : Option Growth → Option ℕ → Option ℕ → Stir = λ grows gone copied. record {
      changed = changed_in h.nodes (jobs.Removal t) grows (moving_out m h grows);
      leaving = option_to_list gone ++ (option_to_list copied ++ node_of (moving_out m h grows));
      longer = longer_of m.geometry grows;
      out = moving_out m h grows;
    } in
    ap (λ (g : Option Growth). of g w.goes w.copied) still ∙ ap₂ (λ (a b : Option ℕ). of None a b) goes uncopied

pub words_stir : (m : Map) (h : Parts) (t : Target) (words : ObjectWords) (w : Wants) → w.grows ≡ None → w.copied ≡ None → w.goes ≡ None → stir_of m h (jobs.Words t words) w ≡ plain_stir t.holder None
words_stir m h t words w still uncopied goes =
    let of : Option Growth → Option ℕ → Option ℕ → Stir = λ grows gone copied. record {
      changed = changed_in h.nodes (jobs.Words t words) grows (moving_out m h grows);
      leaving = option_to_list gone ++ (option_to_list copied ++ node_of (moving_out m h grows));
      longer = longer_of m.geometry grows;
      out = moving_out m h grows;
    } in
    ap (λ (g : Option Growth). of g w.goes w.copied) still ∙ ap₂ (λ (a b : Option ℕ). of None a b) goes uncopied

pub marks_stir : (m : Map) (h : Parts) (t : Target) (attrs : ℕ) (w : Wants) → w.grows ≡ None → w.copied ≡ None → w.goes ≡ None → stir_of m h (jobs.Marks t attrs) w ≡ plain_stir t.holder None
marks_stir m h t attrs w still uncopied goes =
    let of : Option Growth → Option ℕ → Option ℕ → Stir = λ grows gone copied. record {
      changed = changed_in h.nodes (jobs.Marks t attrs) grows (moving_out m h grows);
      leaving = option_to_list gone ++ (option_to_list copied ++ node_of (moving_out m h grows));
      longer = longer_of m.geometry grows;
      out = moving_out m h grows;
    } in
    ap (λ (g : Option Growth). of g w.goes w.copied) still ∙ ap₂ (λ (a b : Option ℕ). of None a b) goes uncopied

pub removal_stirs : (m : Map) (h : Parts) (v : Opened) (path : Path) (t : Target) → IsViewOf m h v → IsTarget h.nodes v.listings path t → StirsAs m h v (Command.Delete path) (plain_stir t.holder (Some t.node))
removal_stirs m h v path t view is = record {
  changed = λ o n at. changed_is m h v view path t is o n (is_same_path path o.path) at (λ e. refl);
  leaving = λ o n at.
      or_none (t.node == n) ∙ target_is m h v view path t is o n at
      ∙ sym (ap (λ (x : Option Object). option_map_or (λ (p : Object). is_same_path p.path o.path) x false || (false || false)) (target_at m h v view path t is) ∙ or_none (is_same_path is.object.path o.path));
  longer = λ o n at. refl;
  out = refl;
}

pub words_stirs : (m : Map) (h : Parts) (v : Opened) (path : Path) (load exec access : ℕ) (t : Target) → IsViewOf m h v → IsTarget h.nodes v.listings path t
    → StirsAs m h v (Command.Set path load exec access) (plain_stir t.holder None)
words_stirs m h v path load exec access t view is =
    record { changed = λ o n at. changed_is m h v view path t is o n false at (λ e. absurd (cc)); leaving = λ o n at. refl; longer = λ o n at. refl; out = refl }

pub marks_stirs : (m : Map) (h : Parts) (v : Opened) (path : Path) (attrs : ℕ) (t : Target) → IsViewOf m h v → IsTarget h.nodes v.listings path t
    → StirsAs m h v (Command.Mark path attrs) (plain_stir t.holder None)
marks_stirs m h v path attrs t view is =
    record { changed = λ o n at. changed_is m h v view path t is o n false at (λ e. absurd (cc)); leaving = λ o n at. refl; longer = λ o n at. refl; out = refl }
