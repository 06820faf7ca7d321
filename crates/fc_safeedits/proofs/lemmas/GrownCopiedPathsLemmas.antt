-- Which directories `rename` names, may rewrite, and leaves as they are, if it copies its file and a directory grows by it.
use Rattle.std.proofs.Common.{◌≡◌, ◌≤◌, ⊎_elim, Bool, true, false, not, ◌||◌, ◌&&◌, [], ◌∷◌, ◌++◌, map, sym, ap, subst, ◌∙◌, Option, None, Some}
use Rattle.std.specs.Prelude.{Contains, IsPermutation}
use Rattle.std.proofs.lemmas.Bool.{false_from_ne_true as unless, or_left, or_right as or_second}
use Rattle.fc_names.specs.Names.{Path, is_same_path}
use Rattle.fc_model.specs.Command.{Command}
use Rattle.fc_model.specs.Tree.{holder}
use Rattle.fc_image.specs.Layout.{Layout}
use Rattle.fc_image.specs.Walk.{Listing, is_directory_object}
use Rattle.fc_image.specs.Opening.{Opened}
use Rattle.fc_image.specs.effects.Steady.{has_grown, has_new_holder, holds_named, is_gone, is_renamed_by, may_be_rewritten}
use Rattle.fc_image.specs.safe.SafeShort.{is_changed_directory}
use Rattle.fc_image.proofs.EntriesLemmas.{cases as contains_cases, later as contains_later}
use Rattle.fc_image.proofs.PathsLemmas.{is_at, itself}
use Rattle.fc_tree.proofs.MemberLemmas.{contains_here, many_permuted}
use Rattle.fc_tree.proofs.WalkedLemmas.{child_path}
use Rattle.fc_changes.proofs.ReadsLemmas.{lies_in}
use Rattle.fc_laws.specs.nodes.Laws.{IsHeld}
use Rattle.fc_edits.specs.Copying.{Copies, Copying, edit}
use Rattle.fc_edits.specs.Edit.{Amended}
use Rattle.fc_edits.specs.Growing.{EditGrowing, Growing, Holder, amended_by, amended_first, holding, told}
use Rattle.fc_edits.specs.NodesEdit.{NodesEdit}
use Rattle.fc_edits.proofs.lemmas.AroundLemmas as ar
use Rattle.fc_edits.proofs.lemmas.CopiesLemmas as memory
use Rattle.fc_edits.proofs.lemmas.GrowingLemmas as growing
use Rattle.fc_edits.proofs.lemmas.ListLemmas.{two_apart}
use Rattle.fc_edits.proofs.lemmas.NumberLemmas as n_
use Rattle.fc_edits.proofs.lemmas.NumberLemmas.{few_listings}
use Rattle.fc_outcomes.proofs.lemmas.RenamePathLemmas.{other_of, turned_other}
use Rattle.fc_outcomes.proofs.lemmas.SteadyLemmas.{unnamed}
use Rattle.fc_safeedits.specs.SafeChange.{SafeChange, view_before}
use Rattle.fc_safeedits.proofs.lemmas.SafeDeletionLemmas.{none_and}
use Rattle.fc_safeedits.proofs.lemmas.GrowingAskedLemmas as asks
use Rattle.fc_safeedits.specs.SafeGrownCopying.{SafeGrownCopying}
use Rattle.fc_safeedits.proofs.lemmas.GrownCopiedImageLemmas as i_

module _ (d : SafeGrownCopying) where
  abbrev x : SafeChange
  x = d.x

  abbrev c : Copying
  c = d.parts.c

  abbrev g : Growing
  g = d.parts.growing

  abbrev y : Layout
  y = Layout.New x.parts.m

  abbrev command : Command
  command = Command.Rename d.from d.to

  abbrev v : Opened
  v = view_before x.parts

  abbrev h : IsHeld x.parts.nodes y x.parts.listings
  h = i_.h d

  abbrev cs : Copies x.parts.nodes x.parts.listings c
  cs = d.parts.copies

  abbrev eg : EditGrowing
  eg = i_.eg d

  -- the edit without growth
  abbrev ne0 : NodesEdit
  ne0 = growing.ne eg

  -- ---- both directories

  k_in : Contains x.parts.listings c.k
  k_in = memory.k_in x.parts.nodes y x.parts.listings c h cs

  l_in : Contains x.parts.listings c.l
  l_in = memory.l_in x.parts.nodes y x.parts.listings c h cs

  pub from_holds : is_same_path (holder d.from) d.parts.c.k.object.path ≡ true
  from_holds =
      (lies_in d.from c.k.object.path c.o.entry.name (ap (is_same_path d.from) (sym (child_path y x.parts.listings h.sound c.k c.o k_in (memory.kid_in x.parts.nodes y x.parts.listings c h cs))) ∙ d.its.from_is)).holds

  pub to_holds : is_same_path (holder d.to) d.parts.c.l.object.path ≡ true
  to_holds = (lies_in d.to c.l.object.path c.name d.its.to_is).holds

  pub apart : is_same_path d.parts.c.k.object.path d.parts.c.l.object.path ≡ false
  apart = unless (is_same_path c.k.object.path c.l.object.path) (λ same.
      let t : Listing → Bool = λ (k : Listing). is_at c.k.object.path k.object in
      two_apart t (c.k ∷ []) (c.l ∷ c.rest) c.k c.l
      (subst (λ n. n ≤ 1) (sym (many_permuted t x.parts.listings (c.k ∷ (c.l ∷ c.rest)) cs.found)) (few_listings y x.parts.listings h.sound c.k.object.path)) (contains_here c.k []) (contains_here c.l c.rest)
      (itself c.k.object.path) same)

  -- ---- the directories that it leaves as they are

  pub rest_from : (k : Listing) → Contains d.parts.c.rest k → is_same_path (holder d.from) k.object.path ≡ false
  rest_from k at = unnamed ne0 d.from c.k k c.home k_in cs.home_is (contains_here c.home (c.dir ∷ [])) from_holds at

  pub rest_to : (k : Listing) → Contains d.parts.c.rest k → is_same_path (holder d.to) k.object.path ≡ false
  rest_to k at = unnamed ne0 d.to c.l k c.dir l_in cs.dir_is (contains_later c.home c.dir (c.dir ∷ []) (contains_here c.dir [])) to_holds at

  pub rest_other : (k : Listing) → Contains d.parts.c.rest k → is_same_path d.from k.object.path ≡ false
  rest_other k at = other_of d.from c.o.path k.object.path d.its.from_is (i_.dir_other d k (n_.stay_in ne0 k (n_.same_in ne0 k at)))

  pub at_rest : (k : Listing) → Contains d.parts.growing.same k → Contains d.parts.c.rest k
  at_rest k at = ar.same_same eg g.holder d.parts.grows.amended_is k at

  -- none of them is a changed one
  pub still_dir : (k : Listing) → Contains d.parts.growing.same k → is_changed_directory (view_before d.x.parts) (Command.Rename d.from d.to) k.object ≡ false
  still_dir k at =
      let rest = at_rest k at in
      ap (λ (t : Bool). is_directory_object k.object && t && not (is_gone command k.object.path))
      (asks.none_of (holds_named command k.object.path) (is_renamed_by command k.object.path) (has_grown v command k.object.path) (has_new_holder v command k.object.path)
      (ap (λ (b : Bool). b || is_same_path (holder d.to) k.object.path) (rest_from k rest) ∙ rest_to k rest) (turned_other d.from k.object.path (rest_other k rest))
      (asks.none_grown x.parts (i_.q d) command d.grows k at) (d.grows.kept k at))
      ∙ none_and (is_directory_object k.object) (not (is_gone command k.object.path))

  -- ---- which directories may be rewritten

  by_name : (p : Path) → holds_named command p ≡ true → may_be_rewritten v command p ≡ true
  by_name p named =
      or_left (holds_named command p || is_renamed_by command p || has_grown v command p) (has_new_holder v command p)
      (or_left (holds_named command p || is_renamed_by command p) (has_grown v command p) (or_left (holds_named command p) (is_renamed_by command p) named))

  edit_may : (a : Amended) → Contains (edit c).amended a → may_be_rewritten v command a.was.object.path ≡ true
  edit_may =
      memory.of_both c (λ (a : Amended). may_be_rewritten v command a.was.object.path ≡ true)
      (by_name c.k.object.path (or_left (is_same_path (holder d.from) c.k.object.path) (is_same_path (holder d.to) c.k.object.path) from_holds))
      (by_name c.l.object.path (or_second (is_same_path (holder d.from) c.l.object.path) (is_same_path (holder d.to) c.l.object.path) to_holds))

  first_may : (t : Option Holder) → IsPermutation ((edit c).amended ++ map (told (edit c)) g.again) (amended_first t g.others) → (b : Amended) → Contains (amended_first t g.others) b
      → may_be_rewritten v command b.was.object.path ≡ true
  first_may t cut b there =
      ⊎_elim (λ among. edit_may b among)
      (λ r. subst (λ (a : Amended). may_be_rewritten v command a.was.object.path ≡ true) r.2 (asks.told_may x.parts (i_.q d) command d.grows r.0 r.1)) (ar.amended_cases eg t cut b there)

  pub may_rewrite : (a : Amended) → Contains (i_.e' d).amended a → may_be_rewritten (view_before d.x.parts) (Command.Rename d.from d.to) a.was.object.path ≡ true
  may_rewrite a at = by g.holder d.parts.grows.amended_is at
    where
      by : (t : Option Holder) → IsPermutation ((edit c).amended ++ map (told (edit c)) g.again) (amended_first t g.others) → Contains (amended_by (edit c) g t) a
          → may_be_rewritten v command a.was.object.path ≡ true
      by None cut there = first_may None cut a there
      by (Some hd) cut there =
          ⊎_elim
          (λ same. subst (λ (b : Amended). may_be_rewritten v command b.was.object.path ≡ true) same (first_may (Some hd) cut hd.amended (contains_here hd.amended g.others)))
          (λ later. first_may (Some hd) cut a (contains_later hd.amended a g.others later)) (contains_cases (holding (edit c) g hd) a g.others there)
