-- A job that makes something or moves it: what it stirs by nodes is what its command does by paths.
use Rattle.std.proofs.Common.{◌≡◌, ◌&&◌, ◌||◌, ◌==◌, ℕ, Bool, true, false, cond, List, ◌++◌, refl, sym, ap, ap₂, ◌∙◌, Option, Some, None}
use Rattle.std.specs.Prelude.{is_some, not}
use Rattle.std.specs.Option.{option_and_then, option_map, option_map_or, option_to_list}
use Rattle.std.proofs.lemmas.Bool.{eq-eqb, eqb-true}
use Rattle.fc_names.specs.Names.{Path, is_same_path}
use Rattle.fc_newmap.specs.Map.{Map}
use Rattle.fc_model.specs.Command.{Command}
use Rattle.fc_model.specs.Tree.{holder}
use Rattle.fc_image.specs.Opening.{Opened}
use Rattle.fc_image.specs.Walk.{Object, is_directory_object}
use Rattle.fc_image.specs.effects.Sharing.{units}
use Rattle.fc_image.specs.effects.Short.{Gain, Growth as Grown, gain_in, growth_in, has_room as has_room_in, is_alone as is_alone_in, is_full_with, object_units}
use Rattle.fc_image.specs.effects.Steady.{has_grown, has_new_holder, holds_named, is_gone, is_renamed_by}
use Rattle.fc_image.specs.Objects.{objects_of}
use Rattle.fc_image.specs.safe.SafeShort.{copies_away, is_changed_directory, is_replaced, takes_slack}
use Rattle.fc_changes.proofs.BasicLemmas.{clash}
use Rattle.fc_placing.specs.Leaving.{is_kept}
use Rattle.fc_changes.proofs.StepsLemmas.{any_append}
use Rattle.fc_plan.specs.Giving.{is_one_of}
use Rattle.fc_tree.specs.Parts.{Parts}
use Rattle.fc_change.specs.declared.job.Growth.{Growth}
use Rattle.fc_change.specs.declared.job.Job.{Job}
use Rattle.fc_change.specs.declared.job.Wants.{Wants}
use Rattle.fc_change.specs.Shortage.{bytes_left}
use Rattle.fc_safe.specs.Changed.{above_grown, named_in, renamed_in, within_moved}
use Rattle.fc_safe.specs.FirstNeeds.{moving_out, node_of, shared_by, stir_of}
use Rattle.fc_safe.specs.Views.{IsNodeOf, IsViewOf, StirsAs, does_leave}
use Rattle.fc_safecommands.proofs.lemmas.AroundLemmas.{holder_at_top, holder_is, within_is}
use Rattle.fc_safecommands.proofs.lemmas.GrowthLemmas.{AreGrown, GrowsIn, grown_holder, grown_within, leaves_same, longer_same, out_if, out_same, stays}
use Rattle.fc_safecommands.proofs.lemmas.TestLemmas.{and_none}

-- What the job names, turns, takes and makes is what the command does, and the directory that it gives a name isn't full.
pub record IsTold (m : Map) (h : Parts) (v : Opened) (c : Command) (job : Job) (w : Wants) : Type 0 where
  pub named : (o : Object) (n : ℕ) → IsNodeOf h v o n → is_one_of (named_in job) n ≡ (is_directory_object o && holds_named c o.path)
  pub renamed : (o : Object) (n : ℕ) → IsNodeOf h v o n → is_one_of (renamed_in h.nodes job) n ≡ (is_directory_object o && is_renamed_by c o.path)
  pub goes : (o : Object) (n : ℕ) → IsNodeOf h v o n → is_one_of (option_to_list w.goes) n ≡ is_replaced v c o.path
  pub copied : (o : Object) (n : ℕ) → IsNodeOf h v o n → is_one_of (option_to_list w.copied) n ≡ copies_away v c o.path
  pub none_gone : (path : Path) → is_gone c path ≡ false
  pub grown : AreGrown h v c w.grows
  pub grower : (g : Growth) → w.grows ≡ Some g → is_one_of (named_in job) g.node ≡ true
  pub object : units m.geometry (bytes_left m h.owners w) ≡ object_units m v c
  pub shared : (id : ℕ) → is_kept (shared_by m h.owners w) id ≡ takes_slack v c id
  pub not_full : option_map_or (λ (g : Gain). is_full_with g.listing.content g) (gain_in v c) false ≡ false

-- ---- tests

-- Each reason for which a directory is changed is one by nodes as by paths, at least where it isn't named.
all_reasons : (d x y t u a b p q : Bool) → a ≡ (d && x) → b ≡ (d && y) → (a ≡ false → (p ≡ (d && t)) × (q ≡ (d && u))) → (a || (b || (p || q))) ≡ (d && (x || y || t || u) && not false)
all_reasons d x y t u true b p q e f more = by d x y t u e
  where
    by : (d x y t u : Bool) → true ≡ (d && x) → true ≡ (d && (x || y || t || u) && not false)
    by true true true t u e = refl
    by true true false true u e = refl
    by true true false false u e = refl
    by true false y t u e = absurd (cc)
    by false x y t u e = absurd (cc)
all_reasons d x y t u false b p q e f more =
    let r = more refl in
    ap₂ (λ (i : Bool) (k : Bool). i || k) f (ap₂ (λ (i k : Bool). i || k) r.0 r.1) ∙ by d x y t u e
  where
    by : (d x y t u : Bool) → false ≡ (d && x) → ((d && y) || ((d && t) || (d && u))) ≡ (d && (x || y || t || u) && not false)
    by true true y t u e = absurd (cc)
    by true false true t u e = refl
    by true false false true u e = refl
    by true false false false true e = refl
    by true false false false false e = refl
    by false x y t u e = refl

-- ---- shared identifiers

pub kept_same : (o : Option (ℕ × ℕ)) (id : ℕ) → is_kept (option_map (λ (share : ℕ × ℕ). share.0) o) id ≡ option_map_or (λ (share : ℕ × ℕ). share.0 == id) o false
kept_same None id = refl
kept_same (Some share) id = refl

-- ---- all of it

module _ (m : Map) (h : Parts) (v : Opened) (c : Command) (job : Job) (w : Wants) (view : IsViewOf m h v) (told : IsTold m h v c job w) where
  -- ---- the directories around a grown one

  abbrev Around : Option Growth → Object → ℕ → Type 0
  Around grows o n =
      (is_one_of (above_grown h.nodes grows) n ≡ (is_directory_object o && has_grown v c o.path)) × (is_one_of (within_moved h.nodes (moving_out m h grows)) n ≡ (is_directory_object o && has_new_holder v c o.path))

  around_none : growth_in v c ≡ None → (o : Object) (n : ℕ) → Around None o n
  around_none none o n = (
    sym (ap (λ (q : Option Grown). is_directory_object o && option_map_or (λ (k : Grown). is_same_path (holder k.0.path) o.path) q false) none ∙ and_none (is_directory_object o)),
    sym
        (ap (λ (q : Option Grown). is_directory_object o && option_map_or (λ (k : Grown). is_same_path (holder o.path) k.0.path && not (is_alone_in (objects_of v.listings) k.0)) q false)
        (ap (option_and_then (λ (q : Grown). let x : Option Grown = cond (has_room_in v.layout (objects_of v.listings) q) None (Some q) in x)) none) ∙ and_none (is_directory_object o)),
  )

  around_one : (g : Growth) → GrowsIn h v c g → (o : Object) (n : ℕ) → IsNodeOf h v o n → (n ≡ g.node → ⊥) → Around (Some g) o n
  around_one g x o n node other = (
    held (g.node == 0) refl ∙ ap (λ (b : Bool). is_directory_object o && b) (sym (grown_holder m h v view c g x o.path)),
    within (stays m h v view c g x) ∙ ap (λ (b : Bool). is_directory_object o && b) (sym (grown_within m h v view c g x o.path)),
  )
    where
      held : (b : Bool) → (g.node == 0) ≡ b → is_one_of (above_grown h.nodes (Some g)) n ≡ (is_directory_object o && is_same_path (holder x.listing.object.path) o.path)
      held true e = holder_at_top m h v view x.listing x.listed g.node x.number (eqb-true g.node 0 e) o n (λ top. other (top ∙ sym (eqb-true g.node 0 e))) node
      held false e = holder_is m h v view x.listing x.listed g.node x.number (λ top. clash (g.node == 0) (eq-eqb g.node 0 top) e) o n node

      within : (b : Bool) → is_one_of (within_moved h.nodes (out_if m h v view c g x b)) n ≡ (is_directory_object o && (is_some (out_if m h v view c g x b) && is_same_path (holder o.path) x.listing.object.path))
      within true = sym (and_none (is_directory_object o))
      within false = within_is m h v view x.listing x.listed g.node x.number o n other node

  around : (grows : Option Growth) → w.grows ≡ grows → AreGrown h v c grows → (o : Object) (n : ℕ) → IsNodeOf h v o n → is_one_of (named_in job) n ≡ false → Around grows o n
  around None e none o n node apart = around_none none o n
  around (Some g) e x o n node apart = around_one g x o n node (λ same. clash (is_one_of (named_in job) n) (ap (is_one_of (named_in job)) same ∙ told.grower g e) apart)

  changed_same : (o : Object) (n : ℕ) → IsNodeOf h v o n → is_one_of (stir_of m h job w).changed n ≡ is_changed_directory v c o
  changed_same o n node =
      any_append (λ (k : ℕ). k == n) (named_in job) (renamed_in h.nodes job ++ (above ++ inside))
      ∙ ap (λ (b : Bool). is_one_of (named_in job) n || b) (any_append (λ (k : ℕ). k == n) (renamed_in h.nodes job) (above ++ inside)
      ∙ ap (λ (b : Bool). is_one_of (renamed_in h.nodes job) n || b) (any_append (λ (k : ℕ). k == n) above inside))
      ∙ all_reasons (is_directory_object o) (holds_named c o.path) (is_renamed_by c o.path) (has_grown v c o.path) (has_new_holder v c o.path) (is_one_of (named_in job) n) (is_one_of (renamed_in h.nodes job) n)
      (is_one_of above n) (is_one_of inside n) (told.named o n node) (told.renamed o n node) (around w.grows refl told.grown o n node)
      ∙ ap (λ (b : Bool). is_directory_object o && (holds_named c o.path || is_renamed_by c o.path || has_grown v c o.path || has_new_holder v c o.path) && not b) (sym (told.none_gone o.path))
    where
      above : List ℕ
      above = above_grown h.nodes w.grows

      inside : List ℕ
      inside = within_moved h.nodes (moving_out m h w.grows)

  leaving_same : (o : Object) (n : ℕ) → IsNodeOf h v o n → is_one_of (stir_of m h job w).leaving n ≡ does_leave v c o.path
  leaving_same o n node =
      any_append (λ (k : ℕ). k == n) (option_to_list w.goes) (option_to_list w.copied ++ node_of (moving_out m h w.grows))
      ∙ ap₂ (λ (a b : Bool). a || b) (told.goes o n node) (any_append (λ (k : ℕ). k == n) (option_to_list w.copied) (node_of (moving_out m h w.grows))
      ∙ ap₂ (λ (a b : Bool). a || b) (told.copied o n node) (leaves_same m h v view c w.grows told.grown o n node))

  pub stirs_as : StirsAs m h v c (stir_of m h job w)
  stirs_as = record { changed = changed_same; leaving = leaving_same; longer = longer_same m h v view c w.grows told.grown; out = out_same m h v view c w.grows told.grown }
