-- Which directories `rename` may rewrite if it copies its file and one grows by it.
use Rattle.std.proofs.Common.{◌≡◌, ⊎_elim, Bool, true, false, ◌∷◌, [], ◌++◌, map, refl, sym, ap, subst, ◌∙◌, None, Option, Some}
use Rattle.std.specs.Prelude.{Contains, IsPermutation, ◌||◌, ◌≤◌}
use Rattle.fc_names.specs.Names.{Path, is_same_path}
use Rattle.fc_model.specs.Command.{Command}
use Rattle.fc_model.specs.Tree.{holder}
use Rattle.fc_image.specs.Layout.{Layout}
use Rattle.fc_image.specs.Walk.{Listing}
use Rattle.fc_image.specs.Opening.{Opened}
use Rattle.fc_image.specs.effects.Steady.{has_grown, has_new_holder, holds_named, is_renamed_by, may_be_rewritten}
use Rattle.fc_image.proofs.PathsLemmas.{is_at, itself}
use Rattle.fc_tree.proofs.MemberLemmas.{contains_here, many_permuted}
use Rattle.fc_tree.proofs.WalkedLemmas.{child_path}
use Rattle.fc_changes.proofs.ReadsLemmas.{lies_in}
use Rattle.fc_edits.specs.Copying.{edit}
use Rattle.fc_edits.specs.Edit.{Amended}
use Rattle.fc_edits.specs.Growing.{Growing, Holder, Told, amended_by, amended_first, holding, told}
use Rattle.fc_edits.specs.GrownCopying.{NewGrownCopying, grown_edit}
use Rattle.fc_edits.proofs.lemmas.AroundLemmas as ar
use Rattle.fc_edits.proofs.lemmas.CopiesLemmas as c_
use Rattle.fc_edits.proofs.lemmas.ListLemmas.{two_apart}
use Rattle.fc_edits.proofs.lemmas.NumberLemmas.{few_listings}
use Rattle.fc_outcomes.specs.GrownCopying.{IsToCopyGrown, grown_view}
use Rattle.fc_outcomes.proofs.lemmas.GrownCopiedLemmas as copy
use Rattle.std.proofs.lemmas.Bool.{false_from_ne_true as unless, or_left, or_right as or_second}
use Rattle.fc_image.proofs.EntriesLemmas.{later as contains_later, cases as contains_cases}

module _ (x : NewGrownCopying) (from to : Path) (its : IsToCopyGrown x from to) where
  abbrev c : Command
  c = Command.Rename from to

  abbrev v : Opened
  v = grown_view x

  abbrev y : Layout
  y = Layout.New x.m

  abbrev g : Growing
  g = x.growing

  pub from_holds : is_same_path (holder from) x.c.k.object.path ≡ true
  from_holds =
      let k_in = c_.k_in x.nodes y x.listings x.c (copy.h x) x.copies in
      let kid = c_.kid_in x.nodes y x.listings x.c (copy.h x) x.copies in
      (lies_in from x.c.k.object.path x.c.o.entry.name (ap (is_same_path from) (sym (child_path y x.listings (copy.h x).sound x.c.k x.c.o k_in kid)) ∙ its.from_is)).holds

  pub to_holds : is_same_path (holder to) x.c.l.object.path ≡ true
  to_holds = (lies_in to x.c.l.object.path x.c.name its.to_is).holds

  pub apart : is_same_path x.c.k.object.path x.c.l.object.path ≡ false
  apart = unless (is_same_path x.c.k.object.path x.c.l.object.path) (λ same.
      let t : Listing → Bool = λ (d : Listing). is_at x.c.k.object.path d.object in
      two_apart t (x.c.k ∷ []) (x.c.l ∷ x.c.rest) x.c.k x.c.l
      (subst (λ n. n ≤ 1) (sym (many_permuted t x.listings (x.c.k ∷ (x.c.l ∷ x.c.rest)) x.copies.found)) (few_listings y x.listings (copy.h x).sound x.c.k.object.path)) (contains_here x.c.k [])
      (contains_here x.c.l x.c.rest) (itself x.c.k.object.path) same)

  by_name : (p : Path) → holds_named c p ≡ true → may_be_rewritten v c p ≡ true
  by_name p named =
      or_left (holds_named c p || is_renamed_by c p || has_grown v c p) (has_new_holder v c p)
      (or_left (holds_named c p || is_renamed_by c p) (has_grown v c p) (or_left (holds_named c p) (is_renamed_by c p) named))

  pub l_may : may_be_rewritten v c x.c.l.object.path ≡ true
  l_may = by_name x.c.l.object.path (or_second (is_same_path (holder from) x.c.l.object.path) (is_same_path (holder to) x.c.l.object.path) to_holds)

  edit_may : (a : Amended) → Contains (edit x.c).amended a → may_be_rewritten v c a.was.object.path ≡ true
  edit_may =
      c_.of_both x.c (λ (a : Amended). may_be_rewritten v c a.was.object.path ≡ true)
      (by_name x.c.k.object.path (or_left (is_same_path (holder from) x.c.k.object.path) (is_same_path (holder to) x.c.k.object.path) from_holds)) l_may

  told_may : (t : Told) → Contains g.again t → may_be_rewritten v c t.was.object.path ≡ true
  told_may t there = of_told (has_grown v c t.was.object.path) refl (its.grows.told t there)
    where
      of_told : (b : Bool) → has_grown v c t.was.object.path ≡ b → (b || has_new_holder v c t.was.object.path) ≡ true → may_be_rewritten v c t.was.object.path ≡ true
      of_told true s f = or_left (holds_named c t.was.object.path || is_renamed_by c t.was.object.path || has_grown v c t.was.object.path) (has_new_holder v c t.was.object.path)
          (or_second (holds_named c t.was.object.path || is_renamed_by c t.was.object.path) (has_grown v c t.was.object.path) s)
      of_told false s f = or_second (holds_named c t.was.object.path || is_renamed_by c t.was.object.path || has_grown v c t.was.object.path) (has_new_holder v c t.was.object.path) f

  first_may : (q : Option Holder) → IsPermutation ((edit x.c).amended ++ map (told (edit x.c)) g.again) (amended_first q g.others) → (b : Amended) → Contains (amended_first q g.others) b
      → may_be_rewritten v c b.was.object.path ≡ true
  first_may q cut b there =
      ⊎_elim (λ among. edit_may b among) (λ t. subst (λ (a : Amended). may_be_rewritten v c a.was.object.path ≡ true) t.2 (told_may t.0 t.1)) (ar.amended_cases (copy.eg x) q cut b there)

  pub may_rewrite : (a : Amended) → Contains (grown_edit x.c x.growing).amended a → may_be_rewritten v c a.was.object.path ≡ true
  may_rewrite a at = by g.holder x.grows.amended_is at
    where
      by : (q : Option Holder) → IsPermutation ((edit x.c).amended ++ map (told (edit x.c)) g.again) (amended_first q g.others) → Contains (amended_by (edit x.c) g q) a
          → may_be_rewritten v c a.was.object.path ≡ true
      by None cut there = first_may None cut a there
      by (Some hd) cut there =
          ⊎_elim (λ same. subst (λ (b : Amended). may_be_rewritten v c b.was.object.path ≡ true) same (first_may (Some hd) cut hd.amended (contains_here hd.amended g.others)))
          (λ later. first_may (Some hd) cut a (contains_later hd.amended a g.others later)) (contains_cases (holding (edit x.c) g hd) a g.others there)
