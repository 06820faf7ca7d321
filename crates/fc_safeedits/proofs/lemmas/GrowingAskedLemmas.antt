-- What a command asks of the directories that it tells of a directory that grows, and of the others, in the safe mode.
use Rattle.std.proofs.Common.{◌≡◌, ⊎_elim, Bool, true, false, ◌||◌, [], ◌++◌, map, sym, ap, refl, subst, ◌∙◌, Option, None, Some}
use Rattle.std.specs.Prelude.{Contains, IsPermutation}
use Rattle.std.specs.Option.{option_map_or}
use Rattle.std.proofs.lemmas.Bool.{false_from_ne_true as unless, or_left, or_right as or_second}
use Rattle.fc_names.specs.Names.{Path, is_same_path}
use Rattle.fc_model.specs.Command.{Command}
use Rattle.fc_model.specs.Tree.{holder}
use Rattle.fc_image.specs.Layout.{Layout}
use Rattle.fc_image.specs.Walk.{Listing, Object}
use Rattle.fc_image.specs.Opening.{Opened}
use Rattle.fc_image.specs.effects.Short.{Growth}
use Rattle.fc_image.specs.effects.Steady.{has_grown, has_new_holder, holds_named, is_renamed_by, may_be_rewritten}
use Rattle.fc_image.proofs.EntriesLemmas.{later as contains_later, cases as contains_cases}
use Rattle.fc_image.proofs.PathsLemmas.{itself}
use Rattle.fc_tree.specs.Nodes.{number_of}
use Rattle.fc_tree.proofs.MemberLemmas.{contains_here}
use Rattle.fc_tree.proofs.SoundLemmas.{root_or_child, same_listing}
use Rattle.fc_tree.proofs.WalkedLemmas.{child_path, root, root_path}
use Rattle.fc_changes.proofs.BasicLemmas.{clash, holder_pushed}
use Rattle.fc_laws.specs.nodes.Laws.{IsHeld}
use Rattle.fc_edits.specs.Edit.{Amended}
use Rattle.fc_edits.specs.Growing.{EditGrowing, Growing, Holder, Told, amended_by, amended_first, holding, told}
use Rattle.fc_edits.specs.NodesEdit.{NodesEdit}
use Rattle.fc_edits.proofs.lemmas.AroundLemmas as ar
use Rattle.fc_edits.proofs.lemmas.GrowingLawLemmas as law
use Rattle.fc_edits.proofs.lemmas.GrowingLemmas as growing
use Rattle.fc_edits.proofs.lemmas.GrownHolderLemmas.{not_by_same}
use Rattle.fc_edits.proofs.lemmas.NumberLemmas as n_
use Rattle.fc_outcomes.specs.Growth.{Grows}
use Rattle.fc_safeedits.specs.Relocation.{unmoved}
use Rattle.fc_safeedits.specs.SafeChange.{MovedParts, view_before}
use Rattle.fc_safeedits.proofs.lemmas.GrowingPlacesLemmas as p_
use Rattle.fc_safeedits.proofs.lemmas.GrowingPlacesLemmas.{SafeGrowing}

pub none_of : (a b c e : Bool) → a ≡ false → b ≡ false → c ≡ false → e ≡ false → (a || b || c || e) ≡ false
none_of true b c e p q r s = absurd (cc)
none_of false true c e p q r s = absurd (cc)
none_of false false true e p q r s = absurd (cc)
none_of false false false e p q r s = s

module _ (x : MovedParts) (q : SafeGrowing x) (command : Command) (grows : Grows (view_before x) command q.growing) where
  abbrev g : Growing
  g = q.growing

  abbrev y : Layout
  y = Layout.New x.m

  abbrev v : Opened
  v = view_before x

  abbrev h : IsHeld x.nodes y x.listings
  h = p_.h x q

  abbrev eg : EditGrowing
  eg = p_.eg x q

  abbrev ne : NodesEdit
  ne = unmoved (p_.move x q)

  -- a directory that is told something
  pub told_may : (t : Told) → Contains q.growing.again t → may_be_rewritten (view_before x) command t.was.object.path ≡ true
  told_may t at = by (has_grown v command t.was.object.path) refl (grows.told t at)
    where
      named : Bool
      named = holds_named command t.was.object.path || is_renamed_by command t.was.object.path

      by : (b : Bool) → has_grown v command t.was.object.path ≡ b → (b || has_new_holder v command t.was.object.path) ≡ true → may_be_rewritten v command t.was.object.path ≡ true
      by true a f = or_left (named || has_grown v command t.was.object.path) (has_new_holder v command t.was.object.path) (or_second named (has_grown v command t.was.object.path) a)
      by false a f = or_second (named || has_grown v command t.was.object.path) (has_new_holder v command t.was.object.path) f

  -- each that says something else may be rewritten, if those may that do so without growth
  pub all_may : ((a : Amended) → Contains q.edit.amended a → may_be_rewritten (view_before x) command a.was.object.path ≡ true) → (a : Amended) → Contains (p_.e' x q).amended a
      → may_be_rewritten (view_before x) command a.was.object.path ≡ true
  all_may edit_may a at = by g.holder q.grows.amended_is at
    where
      first_may : (t : Option Holder) → IsPermutation (q.edit.amended ++ map (told q.edit) g.again) (amended_first t g.others) → (b : Amended) → Contains (amended_first t g.others) b
          → may_be_rewritten v command b.was.object.path ≡ true
      first_may t cut b there =
          ⊎_elim (λ among. edit_may b among) (λ r. subst (λ (c : Amended). may_be_rewritten v command c.was.object.path ≡ true) r.2 (told_may r.0 r.1)) (ar.amended_cases eg t cut b there)

      by : (t : Option Holder) → IsPermutation (q.edit.amended ++ map (told q.edit) g.again) (amended_first t g.others) → Contains (amended_by q.edit g t) a
          → may_be_rewritten v command a.was.object.path ≡ true
      by None cut there = first_may None cut a there
      by (Some hd) cut there =
          ⊎_elim
          (λ same. subst (λ (b : Amended). may_be_rewritten v command b.was.object.path ≡ true) same (first_may (Some hd) cut hd.amended (contains_here hd.amended g.others)))
          (λ later. first_may (Some hd) cut a (contains_later hd.amended a g.others later)) (contains_cases (holding q.edit g hd) a g.others there)

  -- none that says what it said holds the grown one
  not_holder : (k : Listing) → Contains q.growing.same k → is_same_path (holder g.o.path) k.object.path ≡ false
  not_holder k at =
      unless (is_same_path (holder g.o.path) k.object.path)
      (λ same. ⊎_elim (λ is_top. top is_top same) (λ l. below l same) (root_or_child y x.listings h.sound g.o (growing.o_in eg)))
    where
      k_in : Contains x.listings k
      k_in = n_.stay_in ne k (n_.same_in ne k at)

      top : root y x.listings h.sound ≡ g.o → is_same_path (holder g.o.path) k.object.path ≡ true → ⊥
      top is_top same =
          let l = q.grows.listed in
          let none : g.o.path ≡ [] = ap (λ (p : Object). p.path) (sym is_top) ∙ root_path y x.listings h.sound in
          let its : is_same_path (holder g.o.path) l.0.was.object.path ≡ true =
          ap (λ (p : Object). is_same_path (holder g.o.path) p.path) l.2 ∙ ap (λ (p : Path). is_same_path (holder p) p) none in
          let one : k ≡ l.0.was = same_listing y x.listings h.sound (holder g.o.path) k l.0.was k_in (growing.its_listing eg) same its in
          law.same_other eg k g.dir at (ap (λ (j : Listing). number_of x.nodes j.object.path) one ∙ ap (λ (p : Object). number_of x.nodes p.path) l.2 ∙ q.grows.dir_is) refl

      below : (l : Listing) × Contains x.listings l × Contains l.children g.o → is_same_path (holder g.o.path) k.object.path ≡ true → ⊥
      below l same =
          let path = child_path y x.listings h.sound l.0 g.o l.1 l.2 in
          let its : is_same_path (holder g.o.path) l.0.object.path ≡ true =
          ap (λ (p : Path). is_same_path p l.0.object.path) (ap holder path ∙ holder_pushed l.0.object.path g.o.entry.name) ∙ itself l.0.object.path in
          let one : l.0 ≡ k = same_listing y x.listings h.sound (holder g.o.path) l.0 k l.1 k_in its same in
          clash (is_same_path g.o.path g.o.path) (itself g.o.path) (not_by_same eg k at g.o (subst (λ (j : Listing). Contains j.children g.o) one l.2))

  pub none_grown : (k : Listing) → Contains q.growing.same k → has_grown (view_before x) command k.object.path ≡ false
  none_grown k at = ap (λ (r : Option Growth). option_map_or (λ (growth : Growth). is_same_path (holder growth.0.path) k.object.path) r false) grows.growth ∙ not_holder k at
