-- Edits for which the map stays as it is: one object leaves a directory and joins one, and keeps its place.
use Rattle.std.proofs.Common.{◌≡◌, inl, ℕ, Bool, true, false, cond, List, [], ◌∷◌, ◌++◌, refl, sym, ap, ap₂, subst, ◌∙◌, Some, remove}
use Rattle.std.specs.Prelude.{Contains, IsPermutation, filter, not, ◌==◌, ◌&&◌, ◌||◌}
use Rattle.std.specs.List.{list_any}
use Rattle.std.proofs.lemmas.List.Sorted.{IsPermutation-sym, list_any-IsPermutation}
use Rattle.fc_names.specs.Names.{is_directory}
use Rattle.fc_record.specs.declared.Kind.{Kind}
use Rattle.fc_zone.specs.declared.RunKind.{RunKind}
use Rattle.fc_zone.specs.declared.RunKind.TheVariants as kinds
use Rattle.fc_oldmap.specs.OldMap.{OldMapContent}
use Rattle.fc_newmap.specs.Map.{Map, ZoneRun, all_runs, hole_runs}
use Rattle.fc_dirs.specs.Directory.{directory_size}
use Rattle.fc_alloc.specs.declared.owner.Owner.{Owner}
use Rattle.fc_image.specs.Layout.{Layout, dir_form, hole_sectors, is_among, sectors_at}
use Rattle.fc_image.specs.Walk.{Listing, Object, object_size}
use Rattle.fc_image.specs.Objects.{is_owned, is_owner_of, objects_of}
use Rattle.fc_image.specs.Opening.{reserved_in}
use Rattle.fc_image.specs.Edits.{IsAt}
use Rattle.fc_image.specs.effects.Steady.{has_id_that, holes_with, is_given_back, zone_holes}
use Rattle.fc_image.proofs.HolesLemmas.{apart_at}
use Rattle.fc_newmap.proofs.PlaceLemmas.{in_back}
use Rattle.fc_image.specs.Layout.{map_place}
use Rattle.fc_tree.specs.declared.node.Node.{Node}
use Rattle.fc_tree.proofs.MemberLemmas.{contains_here, no_element}
use Rattle.fc_tree.proofs.WalkedLemmas.{place_of}
use Rattle.fc_plan.specs.Giving.{is_one_of}
use Rattle.fc_changes.proofs.BasicLemmas.{clash}
use Rattle.fc_laws.specs.nodes.Edits.{Nodes}
use Rattle.fc_laws.specs.agree.Agreed.{AgreeOn}
use Rattle.fc_laws.proofs.lemmas.nodes.ListLemmas.{cut_at}
use Rattle.fc_laws.proofs.lemmas.agree.BeforeLemmas.{object_lies}
use Rattle.fc_laws.proofs.lemmas.agree.WalkedLemmas as on_any
use Rattle.fc_laws.specs.old.agree.Laws.{AgreeOn as OldAgreeOn}
use Rattle.fc_edits.specs.Edit.{Edit, joining, leaving, objects}
use Rattle.fc_edits.specs.NewPlaces.{ApartInOne, GivesBack, HasPlaceOf, IsSpaceChange, LiesAgain, NewPlaces}
use Rattle.fc_edits.specs.OldPlaces.{OldLiesAgain, OldPlaces, with_holes}
use Rattle.fc_edits.specs.Places.{ApartPairs}
use Rattle.fc_edits.proofs.lemmas.NewPlaceLemmas.{owner_same}
use Rattle.fc_edits.proofs.lemmas.ShapeLemmas.{only}
use Rattle.std.proofs.lemmas.Bool.{false_from_ne_true as unless}
use Rattle.fc_laws.proofs.lemmas.agree.MapLemmas.{no_id as no_run}

-- Object o, of number n, becomes x, in its place.
pub record IsStill (listings : List Listing) (e : Edit) (n : ℕ) (o x : Object) : Type 0 where
  pub among : Contains (objects_of listings) o
  pub leaves : leaving e ≡ (n, o) ∷ []
  pub joins : joining e ≡ (n, x) ∷ []
  pub sectors : x.sectors ≡ o.sectors
  pub address : x.entry.address ≡ o.entry.address
  pub len : x.entry.len ≡ o.entry.len
  pub attrs : is_directory x.entry.attrs ≡ is_directory o.entry.attrs

-- ---- a map that stays

none_back : (runs : List ZoneRun) → filter (λ (p : ZoneRun). has_id_that (is_one_of []) p.1.kind) runs ≡ []
none_back [] = refl
none_back (p ∷ runs) = ap (λ (b : Bool). cond b (p ∷ filter (λ (q : ZoneRun). has_id_that (is_one_of []) q.1.kind) runs) (filter (λ (q : ZoneRun). has_id_that (is_one_of []) q.1.kind) runs)) (no_run p.1.kind) ∙ none_back runs

pub still_change : (m : Map) → IsSpaceChange m m [] []
still_change m = record {
  holes = λ z low. ap (λ (runs : List ZoneRun). holes_with (zone_holes (hole_runs m) z) (zone_holes runs z)) (sym (none_back (all_runs m)));
  own = λ t at. absurd (no_element t at);
  others = λ k none. refl;
}

module _ (listings : List Listing) (e : Edit) (n : ℕ) (o x : Object) (s : IsStill listings e n o x) where
  of_it : (P : ℕ × Object → Type 0) → P (n, x) → (p : ℕ × Object) → Contains (joining e) p → P p
  of_it P is p at = subst P (only (n, x) p (subst (λ (ps : List (ℕ × Object)). Contains ps p) s.joins at)) is

  has_place : HasPlaceOf x o
  has_place = record { sectors = s.sectors; address = s.address }

  it_leaves : Contains (leaving e) (n, o)
  it_leaves = subst (λ (ps : List (ℕ × Object)). Contains ps (n, o)) (sym s.leaves) (contains_here (n, o) [])

  place : ℕ
  place = (place_of (objects_of listings) o s.among).0

  others : List Object
  others = remove (objects_of listings) place

  parted : IsPermutation (objects_of listings) (o ∷ others)
  unfolding place others
  parted = cut_at (objects_of listings) place o (place_of (objects_of listings) o s.among).1

  at_place : (layout : Layout) → IsAt layout o → IsAt layout x
  at_place layout was =
      let size : object_size (dir_form layout) x.entry ≡ object_size (dir_form layout) o.entry = ap₂ (λ (b : Bool) (k : ℕ). cond b (directory_size (dir_form layout) k) k) s.attrs s.len in
      ap₂ (λ (address k : ℕ). sectors_at layout address k) s.address size ∙ was ∙ ap (λ (ss : List ℕ). Some ss) (sym s.sectors)

  -- who owned an identifier still does
  not_given : (k : ℕ) → is_given_back (objects_of listings) (x ∷ others) k ≡ false
  not_given k =
      unless (is_given_back (objects_of listings) (x ∷ others) k)
      (λ given.
      let both = halves (is_owned (objects_of listings) k) (is_owned (x ∷ others) k) given in
      clash (is_owned (x ∷ others) k) (owned both.0) both.1)
    where
      halves : (a b : Bool) → (a && not b) ≡ true → (a ≡ true) × (b ≡ false)
      halves true false h = (refl, refl)
      halves true true h = absurd (cc)
      halves false b h = absurd (cc)

      same_any : list_any (is_owner_of k) (x ∷ others) ≡ list_any (is_owner_of k) (o ∷ others)
      same_any = ap (λ (b : Bool). b || list_any (is_owner_of k) others) (owner_same x o k has_place)

      owned : is_owned (objects_of listings) k ≡ true → is_owned (x ∷ others) k ≡ true
      owned own =
          ap (λ (b : Bool). (k == 2) || b) (same_any ∙ list_any-IsPermutation (is_owner_of k) (o ∷ others) (objects_of listings)
          (IsPermutation-sym (objects_of listings) (o ∷ others) parted)) ∙ own

  gives : (m : Map) → GivesBack m [] [] listings e
  gives m = record {
    stay = others;
    others = subst (λ (ps : List (ℕ × Object)). IsPermutation (objects_of listings) (objects ps ++ others)) (sym s.leaves) parted;
    exactly = λ k used. sym (ap (λ (b : Bool). b || false) (ap (λ (ps : List (ℕ × Object)). is_given_back (objects_of listings) (objects ps ++ others) k) s.joins ∙ not_given k));
  }

  -- ---- places

  pub still_new : (kind : Kind) (m : Map) (nodes : Nodes) (owners : List Owner) (root : Node) → AgreeOn kind m nodes owners root listings → NewPlaces kind m m nodes listings e [] []
  still_new kind m nodes owners root a = record {
    is_map = a.is_map;
    geometry = refl;
    space = still_change m;
    gives = gives m;
    again = λ k taken used. absurd (cc);
    placed = of_it (λ p. IsAt (Layout.New m) p.1) (at_place (Layout.New m) (object_lies kind m nodes owners root listings a o s.among).placed);
    lies = of_it (λ p. LiesAgain m nodes listings e p.1) (inl ((n, o), it_leaves, has_place));
    pairs = subst (λ (ps : List (ℕ × Object)). ApartInOne (objects ps)) (sym s.joins) ((λ p none. absurd (no_element p none)), tt);
  }

  pub still_old : (kind : Kind) (space : OldMapContent) (nodes : Nodes) (owners : List Owner) (root : Node) → OldAgreeOn kind space nodes owners root listings → OldPlaces space space.holes e
  still_old kind space nodes owners root a = record {
    left = λ t i. inl i;
    placed = of_it (λ p. IsAt (Layout.Old space) p.1) (at_place (Layout.Old space) (on_any.object_lies kind (Layout.Old space) nodes root listings a.walked o s.among).placed);
    lies = of_it (λ p. OldLiesAgain space e p.1) (inl ((n, o), it_leaves, has_place));
    free = of_it (λ p. (t : ℕ) → is_among p.1.sectors t ≡ true → is_among (hole_sectors (with_holes space space.holes)) t ≡ false)
        (λ t i. unless (is_among (hole_sectors (Layout.Old space)) t) (λ j.
        clash (is_among (reserved_in kind (Layout.Old space)) t) (in_back (map_place (Layout.Old space)) (hole_sectors (Layout.Old space)) t j)
        (apart_at o.sectors (reserved_in kind (Layout.Old space)) t (on_any.object_lies kind (Layout.Old space) nodes root listings a.walked o s.among).apart (subst (λ (ss : List ℕ). is_among ss t ≡ true) s.sectors i))));
    pairs = subst (λ (ps : List (ℕ × Object)). ApartPairs (objects ps)) (sym s.joins) ((λ p none. absurd (no_element p none)), tt);
  }
