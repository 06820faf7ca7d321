-- An edit as a relisting: what goes, what comes and what stays.
use Rattle.std.proofs.Common.{ℕ, List, ◌++◌, map, sym, ap, ap₂, subst, ◌∙◌}
use Rattle.std.specs.Prelude.{IsPermutation}
use Rattle.std.proofs.lemmas.List.{append_assoc}
use Rattle.std.proofs.lemmas.List.Sorted.{IsPermutation-append_left, IsPermutation-map, IsPermutation-refl, IsPermutation-trans}
use Rattle.fc_image.specs.Walk.{Object, Listing}
use Rattle.fc_image.specs.Order.{held, listed}
use Rattle.fc_image.specs.EditedWalk.{IsRelisting}
use Rattle.fc_laws.specs.nodes.Edits.{Nodes}
use Rattle.fc_edits.specs.NodesEdit.{NodesEdit}
use Rattle.fc_edits.specs.Edit.{Amended, Edit, IsEdit, joined_in, left_in, listings_after, now, objects, still, turned}
use Rattle.fc_edits.proofs.lemmas.ListLemmas.{map_map}
use Rattle.fc_edits.proofs.lemmas.NumberLemmas as n_
use Rattle.fc_edits.proofs.lemmas.FollowLemmas.{held_stay_now, no_children}
use Rattle.fc_image.proofs.TreeLemmas.{map_both as map_append}

-- ---- the edit of the listings

module _ (ne : NodesEdit) where
  abbrev pub nodes : Nodes
  nodes = ne.nodes

  abbrev pub listings : List Listing
  listings = ne.listings

  abbrev pub e : Edit
  e = ne.edit

  abbrev pub is : IsEdit nodes listings e
  is = ne.is_edit

  abbrev pub kept : List Object
  kept = objects e.moving ++ n_.kids ne

  abbrev pub stay : List Listing
  stay = n_.stay ne

  abbrev pub stay' : List Listing
  stay' = map (now e) e.amended ++ map (still e) e.same

  -- what joins is what comes and what moves
  pub joined_parted : IsPermutation (objects (joined_in e)) (objects e.come ++ map e.turn (objects e.moving))
  joined_parted =
      subst (IsPermutation (objects (joined_in e)))
      (map_append (λ (p : ℕ × Object). p.1) e.come (map (turned e) e.moving)
      ∙ ap (λ (os : List Object). objects e.come ++ os) (map_map (λ (p : ℕ × Object). p.1) (turned e) e.moving ∙ sym (map_map e.turn (λ (p : ℕ × Object). p.1) e.moving)))
      (IsPermutation-map (λ (p : ℕ × Object). p.1) (joined_in e) (e.come ++ map (turned e) e.moving) is.joined)

  left_parted : IsPermutation (objects (left_in e)) (objects e.gone ++ objects e.moving)
  left_parted =
      subst (IsPermutation (objects (left_in e))) (map_append (λ (p : ℕ × Object). p.1) e.gone e.moving)
      (IsPermutation-map (λ (p : ℕ × Object). p.1) (left_in e) (e.gone ++ e.moving) is.left)

  pub after_parted : IsPermutation (objects (joined_in e) ++ map e.turn (n_.kids ne)) (objects e.come ++ map e.turn kept)
  after_parted =
      let k = n_.kids ne in
      subst (IsPermutation (objects (joined_in e) ++ map e.turn k))
      (append_assoc (objects e.come) (map e.turn (objects e.moving)) (map e.turn k) ∙ ap (λ (os : List Object). objects e.come ++ os) (sym (map_append e.turn (objects e.moving) k)))
      (IsPermutation-append_left (map e.turn k) (objects (joined_in e)) (objects e.come ++ map e.turn (objects e.moving)) joined_parted)

  pub relisting : IsRelisting e.turn listings (listings_after e) (objects e.gone) (objects e.come) kept
  relisting =
      let k = n_.kids ne in
      record {
        out = e.out;
        stay = stay;
        into = map (λ (d : ℕ × Listing). d.1) e.into;
        stay' = stay';
        had = is.found;
        has = IsPermutation-refl (listings_after e);
        same = map_append (λ (l : Listing). l.object) (map (now e) e.amended) (map (still e) e.same)
            ∙ ap₂ (λ (xs ys : List Object). xs ++ ys)
            (map_map (λ (l : Listing). l.object) (now e) e.amended ∙ sym (map_map e.turn (λ (a : Amended). a.was.object) e.amended) ∙ ap (map e.turn) (sym (map_map (λ (l : Listing). l.object) (λ (a : Amended). a.was) e.amended)))
            (map_map (λ (l : Listing). l.object) (still e) e.same ∙ sym (map_map e.turn (λ (l : Listing). l.object) e.same))
            ∙ sym (map_append e.turn (listed (map (λ (a : Amended). a.was) e.amended)) (listed e.same))
            ∙ ap (map e.turn) (sym (map_append (λ (l : Listing). l.object) (map (λ (a : Amended). a.was) e.amended) e.same));
        held_before = IsPermutation-trans (held stay) (objects (left_in e) ++ k) (objects e.gone ++ kept) (n_.stay_parted ne)
            (subst (IsPermutation (objects (left_in e) ++ k)) (append_assoc (objects e.gone) (objects e.moving) k)
            (IsPermutation-append_left k (objects (left_in e)) (objects e.gone ++ objects e.moving) left_parted));
        held_after = IsPermutation-trans (held stay') (objects (joined_in e) ++ map e.turn k) (objects e.come ++ map e.turn kept) (held_stay_now ne) after_parted;
        out_gone = is.out_gone;
        into_come = map_map (λ (l : Listing). l.object) (λ (d : ℕ × Listing). d.1) e.into ∙ is.into_come;
        out_empty = is.out_empty;
        into_empty = no_children ne e.into is.into_empty;
        kinds = is.kinds;
      }
