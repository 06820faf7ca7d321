-- What is written for an edit, and what isn't.
use Rattle.std.proofs.Common.{◌≡◌, ◌⊎◌, inl, inr, ⊎_elim, ℕ, true, List, [], ◌∷◌, ◌++◌, map, sym, ap, subst, ◌∙◌, Some}
use Rattle.std.specs.Prelude.{Contains}
use Rattle.std.proofs.lemmas.List.Elements.{Contains-append_right}
use Rattle.fc_record.specs.declared.Kind.{Kind}
use Rattle.fc_newmap.proofs.PlaceLemmas.{in_front}
use Rattle.fc_image.specs.Layout.{Layout, is_among, is_apart, map_place, sector_bytes}
use Rattle.fc_image.specs.Walk.{Listing, Object}
use Rattle.fc_image.specs.Objects.{objects_of}
use Rattle.fc_image.specs.Opening.{boot_place, reserved_in}
use Rattle.fc_image.specs.Layout.{hole_sectors}
use Rattle.fc_image.specs.Stays.{HasSectorsOf}
use Rattle.fc_image.specs.Edits.{Apart}
use Rattle.fc_image.proofs.HolesLemmas.{apart_at, apart_from}
use Rattle.fc_tree.specs.declared.node.Node.{Node}
use Rattle.fc_tree.specs.Nodes.{number_of}
use Rattle.fc_tree.proofs.MemberLemmas.{contains_here, in_map, no_element}
use Rattle.fc_tree.proofs.WalkedLemmas.{listed_directory, root_path, same_some}
use Rattle.fc_changes.proofs.BasicLemmas.{clash}
use Rattle.fc_laws.specs.nodes.Edits.{Nodes}
use Rattle.fc_laws.specs.nodes.Laws.{IsHeld}
use Rattle.fc_laws.proofs.lemmas.nodes.FitsLemmas.{one_number}
use Rattle.fc_laws.proofs.lemmas.agree.WalkedLemmas as on_any
use Rattle.fc_edits.specs.Edit.{Amended, Edit, TopStays, TopTurns, joined_in, joining, leaving, left_in, numbers}
use Rattle.fc_edits.specs.Places.{Stays}
use Rattle.fc_edits.proofs.lemmas.ListLemmas.{is_in}
use Rattle.fc_edits.proofs.lemmas.NumberLemmas as n_
use Rattle.fc_edits.proofs.lemmas.AgreeLemmas as ag
use Rattle.fc_edits.specs.PartsEdit.{PartsEdit}
use Rattle.fc_edits.proofs.lemmas.LeavingLemmas.{one_of_sector}
use Rattle.fc_outcomes.specs.Written.{WritesForEdit}
use Rattle.fc_outcomes.specs.Done.{KeptLaw}
use Rattle.std.proofs.lemmas.Bool.{false_from_ne_true as unless}
use Rattle.fc_image.proofs.EntriesLemmas.{cases as contains_cases}

-- the map is reserved
pub map_reserved : (kind : Kind) (layout : Layout) (s : ℕ) → is_among (map_place layout) s ≡ true → is_among (reserved_in kind layout) s ≡ true
map_reserved kind (Layout.Old space) s i = in_front (map_place (Layout.Old space)) (hole_sectors (Layout.Old space)) s i
map_reserved kind (Layout.New m) s i = in_front (map_place (Layout.New m)) (boot_place kind m.geometry.sector) s i

module _ (mem : PartsEdit) (image image' written : List ℕ) (ww : WritesForEdit image image' mem.layout mem.edit written) where
  abbrev pub kind : Kind
  kind = mem.kind

  abbrev pub layout : Layout
  layout = mem.layout

  abbrev pub layout' : Layout
  layout' = mem.layout'

  abbrev pub nodes : Nodes
  nodes = mem.nodes

  abbrev pub root : Node
  root = mem.root

  abbrev pub listings : List Listing
  listings = mem.listings

  abbrev pub e : Edit
  e = mem.edit

  abbrev h : IsHeld nodes layout listings
  h = ag.h mem

  abbrev top : Object
  top = ag.top mem

  pub apart_all : Apart (reserved_in kind layout) (objects_of listings)
  apart_all =
      let before = on_any.had kind layout nodes root listings mem.walked in
      subst (Apart (reserved_in kind layout)) (sym before.objects) before.apart

  pub lies : (o : Object) → Contains (objects_of listings) o → is_apart o.sectors (reserved_in kind layout) ≡ true
  lies o at = (on_any.object_lies kind layout nodes root listings mem.walked o at).apart

  -- a directory that stays joins one, or keeps its place
  place_now : (k : Listing) (n : ℕ) → Contains (n_.stay (ag.ne mem)) k → number_of nodes k.object.path ≡ Some n
      → Contains (joining e) (n, e.turn k.object) ⊎ (Contains (numbers (leaving e)) n → ⊥)
  place_now k n at f = by (is_in (numbers (left_in e)) n) (mem.is_edit.top top (n_.top_in (ag.ne mem)) (root_path layout listings h.sound))
    where
      at_root : TopTurns e top → 0 ≡ n → Contains (joining e) (n, e.turn k.object)
      at_root t zero' =
          let same : top ≡ k.object =
          one_number layout listings nodes h.sound h.held top k.object n (n_.top_in (ag.ne mem)) (listed_directory layout listings h.sound k (n_.stay_in (ag.ne mem) k at)).0
          (ap (number_of nodes) (root_path layout listings h.sound) ∙ ap (λ (i : ℕ). Some i) zero') f in
          let pair : (0, e.turn top) ≡ (n, e.turn k.object) = λ i. (zero' i, e.turn (same i)) in
          subst (λ (ps : List (ℕ × Object)). Contains (ps ++ joined_in e) (n, e.turn k.object)) (sym t.joins) (subst (Contains ((0, e.turn top) ∷ joined_in e)) pair (contains_here (0, e.turn top) (joined_in e)))

      by : Contains (numbers (left_in e)) n ⊎ (Contains (numbers (left_in e)) n → ⊥) → TopStays e top ⊎ TopTurns e top → Contains (joining e) (n, e.turn k.object) ⊎ (Contains (numbers (leaving e)) n → ⊥)
      by (inl leaves) t = inl (Contains-append_right e.top_join (joined_in e) (n, e.turn k.object) (n_.dir_joins (ag.ne mem) k n at f leaves))
      by (inr none) (inl t) = inr (λ leaves. none (subst (λ (ps : List (ℕ × Object)). Contains (numbers (ps ++ left_in e)) n) t.leaves leaves))
      by (inr none) (inr t) =
          ⊎_elim (λ first. inl (⊎_elim (λ zero'. at_root t zero') (λ later. absurd (no_element n later)) (contains_cases 0 n [] first)))
          (λ other.
          inr (λ leaves.
          ⊎_elim (λ zero'. other (subst (Contains (0 ∷ [])) zero' (contains_here 0 []))) none
          (contains_cases 0 n (numbers (left_in e)) (subst (λ (ps : List (ℕ × Object)). Contains (numbers (ps ++ left_in e)) n) t.leaves leaves)))) (is_in (0 ∷ []) n)

  -- whose a written sector is: an object's that joins, or a directory's that stays where it was
  pub whose_now : (s : ℕ) → is_among written s ≡ true
      → ((p : ℕ × Object) × Contains (joining e) p × (is_among p.1.sectors s ≡ true))
      ⊎ ((o : Object) × (t : Stays nodes listings e o) × Contains (map (λ (a : Amended). a.number) e.amended) t.number × (is_among o.sectors s ≡ true))
  whose_now s u = ⊎_elim by (λ p. inl p) (ww.whose s u)
    where
      by : (a : Amended) × Contains e.amended a × (is_among (e.turn a.was.object).sectors s ≡ true)
          → ((p : ℕ × Object) × Contains (joining e) p × (is_among p.1.sectors s ≡ true))
          ⊎ ((o : Object) × (t : Stays nodes listings e o) × Contains (map (λ (b : Amended). b.number) e.amended) t.number × (is_among o.sectors s ≡ true))
      by a =
          let i = mem.is_edit.amends a.0 a.1 in
          let there = n_.was_in (ag.ne mem) a.0 a.1 in
          ⊎_elim (λ joins. inl ((a.0.number, e.turn a.0.was.object), joins, a.2))
          (λ stays.
          let t : Stays nodes listings e a.0.was.object = record {
            among = (listed_directory layout listings h.sound a.0.was (n_.stay_in (ag.ne mem) a.0.was there)).0;
            number = a.0.number;
            number_is = i.number_is;
            stays = stays;
          } in
          inr (a.0.was.object, t, in_map (λ (b : Amended). b.number) e.amended a.0 a.1, subst (λ (ss : List ℕ). is_among ss s ≡ true) (ag.keeps mem a.0.was.object t).sectors a.2))
          (place_now a.0.was a.0.number there i.number_is)

  pub stays_same : (o : Object) (t : Stays nodes listings e o) → (Contains (map (λ (a : Amended). a.number) e.amended) t.number → ⊥) → HasSectorsOf (sector_bytes layout) o.sectors image image'
  stays_same o t other s u =
      ww.writes s
      (unless (is_among written s)
      (λ i.
      ⊎_elim (λ p. clash (is_among o.sectors s) u (apart_at p.0.1.sectors o.sectors s (mem.fit.apart p.0 o p.1 t) p.2))
      (λ q.
      let same : q.0 ≡ o = one_of_sector (reserved_in kind layout) (objects_of listings) q.0 o s apart_all q.1.among t.among q.3 u in
      other
      (subst (Contains (map (λ (a : Amended). a.number) e.amended)) (same_some q.1.number t.number (sym q.1.number_is ∙ ap (λ (x : Object). number_of nodes x.path) same ∙ t.number_is)) q.2))
      (whose_now s i)))
      (unless (is_among (map_place layout) s)
      (λ i. clash (is_among (reserved_in kind layout) s) (map_reserved kind layout s i) (apart_at o.sectors (reserved_in kind layout) s (lies o t.among) u)))

  pub written_free : reserved_in kind layout' ≡ reserved_in kind layout → is_apart written (reserved_in kind layout) ≡ true
  written_free same =
      apart_from written (reserved_in kind layout)
      (λ s u v.
      ⊎_elim
      (λ p.
      clash (is_among (reserved_in kind layout) s) v (apart_at p.0.1.sectors (reserved_in kind layout) s (subst (λ (ss : List ℕ). is_apart p.0.1.sectors ss ≡ true) same (mem.fit.free p.0 p.1)) p.2))
      (λ q. clash (is_among (reserved_in kind layout) s) v (apart_at q.0.sectors (reserved_in kind layout) s (lies q.0 q.1.among) q.3)) (whose_now s u))

pub kept_law : KeptLaw
kept_law = record {
  stays = λ x image image' written ww o t other. stays_same x image image' written ww o t other;
  free = λ x image image' written ww same. written_free x image image' written ww same;
}
