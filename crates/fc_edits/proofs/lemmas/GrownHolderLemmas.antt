-- One directory holds a directory that grows.
use Rattle.std.proofs.Common.{◌≡◌, true, false, [], ◌∷◌, ◌++◌, map, refl, sym, ap, ◌∙◌, Option, None, Some}
use Rattle.std.specs.Prelude.{Contains, IsPermutation}
use Rattle.fc_names.specs.Names.{is_same_path}
use Rattle.fc_model.specs.Tree.{holder}
use Rattle.fc_image.specs.Walk.{Listing, Object}
use Rattle.fc_image.proofs.PathsLemmas.{itself}
use Rattle.fc_tree.specs.Nodes.{number_of}
use Rattle.fc_tree.proofs.MemberLemmas.{contains_here}
use Rattle.fc_tree.proofs.SoundLemmas.{same_listing, same_object}
use Rattle.fc_tree.proofs.WalkedLemmas.{child_is_object, child_path, same_some}
use Rattle.fc_changes.proofs.BasicLemmas.{holder_pushed}
use Rattle.fc_laws.specs.agree.Agreed.{CanSay}
use Rattle.fc_laws.proofs.lemmas.nodes.FitsLemmas.{kid_lower}
use Rattle.fc_edits.specs.Edit.{Amended}
use Rattle.fc_edits.specs.Growing.{EditGrowing, Holder, Holds, IsHeldBy, amended_first, grown_by, regrown, told}
use Rattle.fc_edits.proofs.lemmas.AroundLemmas as ar
use Rattle.fc_edits.proofs.lemmas.GrowingLemmas as below
use Rattle.fc_edits.proofs.lemmas.GrowingLemmas.{e, g, gr, h, layout, listings, nodes, o_in}
use Rattle.fc_edits.proofs.lemmas.NumberLemmas as n_
use Rattle.fc_edits.proofs.lemmas.TellLemmas.{once_amended}
use Rattle.std.proofs.lemmas.Bool.{false_from_ne_true as unless}
use Rattle.fc_image.proofs.EntriesLemmas.{later as contains_later}

-- ---- below the root

module _ (x : EditGrowing) (hd : Holder) (cut : IsPermutation (x.edit.amended ++ map (told x.edit) x.growing.again) (hd.amended ∷ x.growing.others)) (hs : Holds x.growing hd)
    (says : (a : Amended) → Contains (grown_by x.edit x.growing (Some hd)).amended a → CanSay x.layout (regrown x.edit x.growing a.was.object) a.content) where
  abbrev k : Listing
  k = hd.amended.was

  abbrev o : Object
  o = (g x).o

  k_in : Contains (listings x) k
  k_in = below.k_in x hd cut hs says

  pub one_holder : (l : Listing) → Contains (listings x) l → (p : Object) → Contains l.children p → is_same_path o.path p.path ≡ true → l ≡ k
  one_holder l at p kid same =
      let among = child_is_object (layout x) (listings x) (h x).sound l p at kid in
      let one : o ≡ p = same_object (layout x) (listings x) (h x).sound o.path o p (o_in x) among (itself o.path) same in
      let path : l.object.path ≡ k.object.path =
      sym (holder_pushed l.object.path p.entry.name)
      ∙ ap holder (sym (child_path (layout x) (listings x) (h x).sound l p at kid) ∙ ap (λ (q : Object). q.path) (sym one) ∙ child_path (layout x) (listings x) (h x).sound k o k_in (below.o_held x hd cut hs says))
      ∙ holder_pushed k.object.path o.entry.name in
      same_listing (layout x) (listings x) (h x).sound k.object.path l k at k_in (ap (is_same_path k.object.path) path ∙ itself k.object.path) (itself k.object.path)

  other_holds : (a : Amended) → Contains (g x).others a → (p : Object) → Contains a.was.children p → is_same_path o.path p.path ≡ true → ⊥
  other_holds a at p kid same =
      let ne2 = below.ne2 x hd cut hs says in
      let is2 = below.is2 x hd cut hs says in
      let there = contains_later hd.amended a (g x).others at in
      let one = one_holder a.was (n_.stay_in ne2 a.was (n_.was_in ne2 a there)) p kid same in
      (once_amended (nodes x) (layout x) (listings x) (ar.around (e x) (g x) (Some hd)) (h x) is2).0 a at
      (same_some hd.amended.number a.number
      (sym (is2.amends hd.amended (contains_here hd.amended (g x).others)).number_is ∙ ap (λ (l : Listing). number_of (nodes x) l.object.path) (sym one) ∙ (is2.amends a there).number_is))

  same_holds : (l : Listing) → Contains (g x).same l → (p : Object) → Contains l.children p → is_same_path o.path p.path ≡ true → ⊥
  same_holds l at p kid same =
      let ne2 = below.ne2 x hd cut hs says in
      let is2 = below.is2 x hd cut hs says in
      let one = one_holder l (n_.stay_in ne2 l (n_.same_in ne2 l at)) p kid same in
      n_.same_other ne2 l hd.amended.number at
      (ap (λ (m : Listing). number_of (nodes x) m.object.path) one ∙ (is2.amends hd.amended (contains_here hd.amended (g x).others)).number_is)
      (contains_here hd.amended.number (map (λ (b : Amended). b.number) (g x).others))

-- ---- the root

-- no directory holds the root
root_held : (x : EditGrowing) → x.growing.o.path ≡ [] → (l : Listing) → Contains x.listings l → (p : Object) → Contains l.children p → is_same_path x.growing.o.path p.path ≡ true → ⊥
root_held x at_top l at p kid same =
    let among = child_is_object (layout x) (listings x) (h x).sound l p at kid in
    let one : (g x).o ≡ p = same_object (layout x) (listings x) (h x).sound (g x).o.path (g x).o p (o_in x) among (itself (g x).o.path) same in
    kid_lower (layout x) (listings x) (nodes x) (h x).sound (h x).held l p 0 at kid (ap (λ (q : Object). number_of (nodes x) q.path) (sym one) ∙ ap (number_of (nodes x)) at_top) refl

-- ---- both

module _ (x : EditGrowing) where
  -- the other directories don't hold it
  pub not_by_other : (a : Amended) → Contains (g x).others a → (p : Object) → Contains a.was.children p → is_same_path (g x).o.path p.path ≡ false
  not_by_other a at p kid = unless (is_same_path (g x).o.path p.path) (by (g x).holder (gr x).amended_is (gr x).held (gr x).says)
    where
      by : (q : Option Holder) → IsPermutation ((e x).amended ++ map (told (e x)) (g x).again) (amended_first q (g x).others) → IsHeldBy (g x) q
          → ((b : Amended) → Contains (grown_by (e x) (g x) q).amended b → CanSay (layout x) (regrown (e x) (g x) b.was.object) b.content) → is_same_path (g x).o.path p.path ≡ true → ⊥
      by None cut at_top says = root_held x at_top a.was (n_.stay_in (ar.around_nodes x None cut) a.was (n_.was_in (ar.around_nodes x None cut) a at)) p kid
      by (Some hd) cut hs says = other_holds x hd cut hs says a at p kid

  pub not_by_same : (l : Listing) → Contains (g x).same l → (p : Object) → Contains l.children p → is_same_path (g x).o.path p.path ≡ false
  not_by_same l at p kid = unless (is_same_path (g x).o.path p.path) (by (g x).holder (gr x).amended_is (gr x).held (gr x).says)
    where
      by : (q : Option Holder) → IsPermutation ((e x).amended ++ map (told (e x)) (g x).again) (amended_first q (g x).others) → IsHeldBy (g x) q
          → ((b : Amended) → Contains (grown_by (e x) (g x) q).amended b → CanSay (layout x) (regrown (e x) (g x) b.was.object) b.content) → is_same_path (g x).o.path p.path ≡ true → ⊥
      by None cut at_top says = root_held x at_top l (n_.stay_in (ar.around_nodes x None cut) l (n_.same_in (ar.around_nodes x None cut) l at)) p kid
      by (Some hd) cut hs says = same_holds x hd cut hs says l at p kid
