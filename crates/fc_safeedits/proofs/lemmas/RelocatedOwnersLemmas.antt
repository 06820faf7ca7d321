-- The owners after an edit with identifiers that move.
use Rattle.std.proofs.Common.{◌≡◌, ◌⊎◌, inl, inr, ⊎_elim, ℕ, Bool, true, false, cond, not, List, [], ◌∷◌, ◌++◌, length, map, flat_map, refl, sym, ap, ap₂, subst, ◌∙◌}
use Rattle.std.specs.Prelude.{Contains, IsPermutation, nat_lt}
use Rattle.std.proofs.lemmas.List.{append-nil, append_assoc}
use Rattle.std.proofs.lemmas.List.Elements.{Contains-append_left, Contains-append_right}
use Rattle.std.proofs.lemmas.List.Sorted.{IsPermutation-append_comm, IsPermutation-append_left, IsPermutation-append_right, IsPermutation-refl, IsPermutation-sym, IsPermutation-trans}
use Rattle.fc_names.specs.Names.{Path, is_directory}
use Rattle.fc_dirs.specs.declared.Entry.{Entry}
use Rattle.fc_model.specs.Tree.{holder}
use Rattle.fc_alloc.specs.declared.owner.Owner.{Owner}
use Rattle.fc_image.specs.Layout.{Layout, id_of, low_of}
use Rattle.fc_image.specs.Walk.{Listing, Object}
use Rattle.fc_image.specs.Objects.{objects_of}
use Rattle.fc_image.proofs.ShuffleLemmas.{IsPermutation-unappend, flat_map-append as flat_append}
use Rattle.fc_tree.specs.Nodes.{number_of}
use Rattle.fc_tree.specs.Parts.{AreOwners, first_in, owner_of}
use Rattle.fc_tree.proofs.MemberLemmas.{contains_here, in_map, no_element}
use Rattle.fc_tree.proofs.WalkedLemmas.{child_path, holder-push, root_path}
use Rattle.fc_laws.specs.nodes.Edits.{OwnersEdited, owner_with, owners_with}
use Rattle.fc_laws.proofs.lemmas.nodes.ListLemmas.{in_first}
use Rattle.fc_laws.proofs.lemmas.nodes.OwnerLemmas.{among-append, among_permuted, owner_known, owners_among}
use Rattle.fc_edits.specs.Edit.{Amended, Edit, IsEdit, TopStays, TopTurns, joined_in, joining, leaving, left_in, objects, owners_in, owners_joined, owners_left}
use Rattle.fc_edits.specs.NodesEdit.{NodesEdit}
use Rattle.fc_edits.specs.Places.{Stays}
use Rattle.fc_edits.proofs.lemmas.ListLemmas.{flat_mapped, in_flat, parted}
use Rattle.fc_edits.proofs.lemmas.NumberLemmas as n_
use Rattle.fc_edits.proofs.lemmas.ShapeLemmas.{none_flat, only}
use Rattle.fc_safeedits.specs.Relocation.{Relocation, all_amended, amended_in, carried, is_moved, laid_at, laid_in, relocated, told_again, turned_at, turned_in}
use Rattle.fc_safeedits.proofs.lemmas.AlongLemmas.{beside, ne'}
use Rattle.fc_safeedits.proofs.lemmas.LaidLemmas.{all_kid, all_object, amended_or_told, from_carried, kid_keeps, laid_entry}
use Rattle.fc_safeedits.proofs.lemmas.RelocatedLemmas.{e', turned_entry}
use Rattle.fc_safeedits.proofs.lemmas.RelocatedNodesLemmas.{carried_stays, top_still}
use Rattle.fc_image.proofs.TreeLemmas.{map_both as map_append}
use Rattle.fc_edits.proofs.lemmas.OwnerLemmas.{among_list, among_all}
use Rattle.fc_image.proofs.EntriesLemmas.{later as contains_later}

-- ---- owners among objects that are numbered

-- what leaves owns what these owners say
module _ (ne : NodesEdit) where
  abbrev top : Object
  top = n_.top ne

  abbrev is : IsEdit ne.nodes ne.listings ne.edit
  is = ne.is_edit

  left_owner : (a : Amended) (p : ℕ × Object) → Contains ne.edit.amended a → Contains a.leave p → owner_of ne.nodes ne.layout p.1 ≡ owner_with ne.layout a.number p.0 p.1
  left_owner a p at leaves =
      let i = is.amends a at in
      let kid = in_first a.was.children (objects a.leave ++ a.kids) i.held p.1 (Contains-append_left (objects a.leave) a.kids p.1 (in_map (λ (x : ℕ × Object). x.1) a.leave p leaves)) in
      let path = child_path ne.layout ne.listings ne.held.sound a.was p.1 (n_.stay_in ne a.was (n_.was_in ne a at)) kid in
      owner_known ne.nodes ne.layout ne.layout p.1 a.number p.0 (ap (number_of ne.nodes) (ap holder path ∙ holder-push a.was.object.path p.1.entry.name) ∙ i.number_is) (i.left p leaves) (λ low. refl)

  pub left_owners : owners_among ne.nodes ne.layout (objects (leaving ne.edit)) ≡ owners_left ne.layout ne.edit
  left_owners =
      ap (owners_among ne.nodes ne.layout) (map_append (λ (p : ℕ × Object). p.1) ne.edit.top_leave (left_in ne.edit))
      ∙ among-append ne.nodes ne.layout (objects ne.edit.top_leave) (objects (left_in ne.edit))
      ∙ ap₂ (λ (x y : List Owner). x ++ y) (among_list ne.nodes ne.layout 0 ne.edit.top_leave own) (among_all ne.nodes ne.layout (λ (a : Amended). a.leave) ne.edit.amended left_owner)
    where
      path : top.path ≡ []
      path = root_path ne.layout ne.listings ne.held.sound

      own : (p : ℕ × Object) → Contains ne.edit.top_leave p → owner_of ne.nodes ne.layout p.1 ≡ owner_with ne.layout 0 p.0 p.1
      own p at = by (is.top top (n_.top_in ne) path)
        where
          by : TopStays ne.edit top ⊎ TopTurns ne.edit top → owner_of ne.nodes ne.layout p.1 ≡ owner_with ne.layout 0 p.0 p.1
          by (inl t) = absurd (no_element p (subst (λ (ps : List (ℕ × Object)). Contains ps p) t.leaves at))
          by (inr t) =
              subst (λ (q : ℕ × Object). owner_of ne.nodes ne.layout q.1 ≡ owner_with ne.layout 0 q.0 q.1) (only (0, top) p (subst (λ (ps : List (ℕ × Object)). Contains ps p) t.leaves at))
              (owner_known ne.nodes ne.layout ne.layout top 0 0 (ap (λ (q : Path). number_of ne.nodes (holder q)) path) (ap (number_of ne.nodes) path) (λ low. refl))

-- ---- with identifiers that move

-- What is laid anew has as many sectors.
pub record KeepsLengths (x : Relocation) : Type 0 where
  pub staying : (o : Object) → Stays x.nodes x.listings x.edit o → is_moved x.moves o ≡ true → length (turned_in x o).sectors ≡ length o.sectors
  pub joining : (p : ℕ × Object) → Contains (joining x.edit) p → length (laid_in x p.1).sectors ≡ length p.1.sectors

-- who owns as much at the same address
pub owner_same : (layout layout' : Layout) (dir n : ℕ) (o o' : Object) → ((low : ℕ) → first_in layout' low ≡ first_in layout low) → o'.entry ≡ o.entry → length o'.sectors ≡ length o.sectors
    → owners_with layout' dir n o' ≡ owners_with layout dir n o
owner_same layout layout' dir n o o' first entry many =
    ap (λ (k : ℕ). cond (nat_lt 0 k) (owner_with layout' dir n o' ∷ []) []) many ∙ ap (λ (w : Owner). cond (nat_lt 0 (length o.sectors)) (w ∷ []) []) same
  where
    same : owner_with layout' dir n o' ≡ owner_with layout dir n o
    same = λ i. record {
      id = id_of (entry i).address;
      dir = dir;
      node = n;
      file = not (is_directory (entry i).attrs);
      low = low_of (entry i).address;
      first = (ap (first_in layout') (ap (λ (y : Entry). low_of y.address) entry) ∙ first (low_of o.entry.address)) i;
      sectors = many i;
    }

module _ (x : Relocation) (first : (low : ℕ) → first_in (Layout.New x.m') low ≡ first_in (Layout.New x.m) low) (lengths : KeepsLengths x) where
  abbrev e : Edit
  e = x.edit

  abbrev y : Layout
  y = Layout.New x.m

  abbrev y' : Layout
  y' = Layout.New x.m'

  owners_map : (dir : ℕ) (ps : List (ℕ × Object)) → ((p : ℕ × Object) → Contains ps p → Contains (joining e) p) → owners_in y' dir (map (laid_at x) ps) ≡ owners_in y' dir ps
  owners_map dir [] within = refl
  owners_map dir (p ∷ ps) within =
      ap₂ (λ (a b : List Owner). a ++ b) (owner_same y' y' dir p.0 p.1 (laid_in x p.1) (λ low. refl) (laid_entry x.m' x.moves p.1) (lengths.joining p (within p (contains_here p ps))))
      (owners_map dir ps (λ q at. within q (contains_later p q ps at)))

  owners_turned : (dir : ℕ) (ps : List (ℕ × Object)) → ((p : ℕ × Object) → Contains ps p → owners_with y' dir p.0 (turned_in x p.1) ≡ owners_with y dir p.0 p.1)
      → owners_in y' dir (map (turned_at x) ps) ≡ owners_in y dir ps
  owners_turned dir [] each = refl
  owners_turned dir (p ∷ ps) each = ap₂ (λ (a b : List Owner). a ++ b) (each p (contains_here p ps)) (owners_turned dir ps (λ q at. each q (contains_later p q ps at)))

  -- what is carried along in a directory
  carried_same : (a : Amended) → Contains (all_amended x) a → owners_in y' a.number (map (turned_at x) (carried x a.kids)) ≡ owners_in y a.number (carried x a.kids)
  carried_same a at =
      owners_turned a.number (carried x a.kids)
      (λ q there.
      let c = from_carried x a.kids q there in
      let object = all_object x a q.1 at c.among in
      let keeps = kid_keeps x q.1 (all_kid x a q.1 at c.among) object in
      let s = carried_stays x q (in_flat (λ (b : Amended). carried x b.kids) (all_amended x) a q at there) in
      owner_same y y' a.number q.0 q.1 (turned_in x q.1) first (turned_entry x q.1 ∙ keeps.entry) (lengths.staying q.1 s.0 s.1))

  abbrev extra_owners : List Owner
  extra_owners = flat_map (λ (a : Amended). owners_in y a.number (carried x a.kids)) (all_amended x)

  abbrev left_below : List Owner
  left_below = flat_map (λ (a : Amended). owners_in y a.number a.leave) e.amended

  abbrev joined_below : List Owner
  joined_below = flat_map (λ (a : Amended). owners_in y' a.number a.join) e.amended

  abbrev left_now : List Owner
  left_now = flat_map (λ (b : Amended). owners_in y b.number b.leave) (e' x).amended

  abbrev joined_now : List Owner
  joined_now = flat_map (λ (b : Amended). owners_in y' b.number b.join) (e' x).amended

  in_both : (layout : Layout) (dir : ℕ) (ps qs : List (ℕ × Object)) → owners_in layout dir (ps ++ qs) ≡ owners_in layout dir ps ++ owners_in layout dir qs
  in_both layout dir ps qs = flat_append (λ (p : ℕ × Object). owners_with layout dir p.0 p.1) ps qs

  told_none : (layout : Layout) (f : Amended → List (ℕ × Object)) → ((k : Listing) → f (told_again x k) ≡ []) → flat_map (λ (a : Amended). owners_in layout a.number (f a)) (all_amended x)
      ≡ flat_map (λ (a : Amended). owners_in layout a.number (f a)) e.amended
  told_none layout f none =
      flat_append (λ (a : Amended). owners_in layout a.number (f a)) e.amended (map (told_again x) e.same)
      ∙ ap (λ (ws : List Owner). flat_map (λ (a : Amended). owners_in layout a.number (f a)) e.amended ++ ws)
      (none_flat (λ (a : Amended). owners_in layout a.number (f a)) (told_again x) e.same (λ k. ap (λ (ps : List (ℕ × Object)). owners_in layout (told_again x k).number ps) (none k)))
      ∙ append-nil (flat_map (λ (a : Amended). owners_in layout a.number (f a)) e.amended)

  below_left : IsPermutation left_now (left_below ++ extra_owners)
  below_left =
      subst (λ (ws : List Owner). IsPermutation ws (left_below ++ extra_owners)) (sym (flat_mapped (λ (b : Amended). owners_in y b.number b.leave) (amended_in x) (all_amended x)))
      (subst (λ (ws : List Owner). IsPermutation (flat_map (λ (a : Amended). owners_in y a.number (a.leave ++ carried x a.kids)) (all_amended x)) (ws ++ extra_owners)) (told_none y (λ (a : Amended). a.leave) (λ k. refl))
      (parted (λ (a : Amended). owners_in y a.number (a.leave ++ carried x a.kids)) (λ (a : Amended). owners_in y a.number a.leave) (λ (a : Amended). owners_in y a.number (carried x a.kids)) (all_amended x)
      (λ a at. subst (IsPermutation (owners_in y a.number (a.leave ++ carried x a.kids))) (in_both y a.number a.leave (carried x a.kids)) (IsPermutation-refl (owners_in y a.number (a.leave ++ carried x a.kids))))))

  joins_same : (a : Amended) → Contains (all_amended x) a → owners_in y' a.number (map (laid_at x) a.join) ≡ owners_in y' a.number a.join
  joins_same a at =
      owners_map a.number a.join
      (λ p there. ⊎_elim (λ amended. Contains-append_right e.top_join (joined_in e) p (in_flat (λ (b : Amended). b.join) e.amended a p amended there))
      (λ k. absurd (no_element p (subst (λ (b : Amended). Contains b.join p) (sym k.2) there))) (amended_or_told x a at))

  below_joined : IsPermutation joined_now (joined_below ++ extra_owners)
  below_joined =
      let f : Amended → List Owner = λ a. owners_in y' a.number (map (laid_at x) a.join ++ map (turned_at x) (carried x a.kids)) in
      subst (λ (ws : List Owner). IsPermutation ws (joined_below ++ extra_owners)) (sym (flat_mapped (λ (b : Amended). owners_in y' b.number b.join) (amended_in x) (all_amended x)))
      (subst (λ (ws : List Owner). IsPermutation (flat_map f (all_amended x)) (ws ++ extra_owners)) (told_none y' (λ (a : Amended). a.join) (λ k. refl))
      (parted f (λ (a : Amended). owners_in y' a.number a.join) (λ (a : Amended). owners_in y a.number (carried x a.kids)) (all_amended x)
      (λ a at. subst (IsPermutation (f a)) (in_both y' a.number (map (laid_at x) a.join) (map (turned_at x) (carried x a.kids)) ∙ ap₂ (λ (v w : List Owner). v ++ w) (joins_same a at) (carried_same a at)) (IsPermutation-refl (f a)))))

  -- Besides those without the moves these owners go and come.
  record OwnersAlong : Type 0 where
    ws : List Owner
    left : IsPermutation (owners_left y (e' x)) (owners_left y e ++ ws)
    joined : IsPermutation (owners_joined y' (e' x)) (owners_joined y' e ++ ws)

  -- more behind
  widened : (front now was more : List Owner) → IsPermutation now (was ++ more) → IsPermutation (front ++ now) ((front ++ was) ++ more)
  widened front now was more same = subst (IsPermutation (front ++ now)) (sym (append_assoc front was more)) (IsPermutation-append_right front now (was ++ more) same)

  -- more in front, which comes behind
  shifted : (front now was more : List Owner) → IsPermutation now (was ++ more) → IsPermutation (front ++ now) (was ++ (front ++ more))
  shifted front now was more same =
      IsPermutation-trans (front ++ now) ((front ++ was) ++ more) (was ++ (front ++ more)) (widened front now was more same)
      (subst (IsPermutation ((front ++ was) ++ more)) (append_assoc was front more) (IsPermutation-append_left more (front ++ was) (was ++ front) (IsPermutation-append_comm front was)))

  plain : (ps : List (ℕ × Object)) → e.top_leave ≡ ps → (e' x).top_leave ≡ ps → (e' x).top_join ≡ map (laid_at x) e.top_join → OwnersAlong
  plain ps was now joins = record {
    ws = extra_owners;
    left = subst (λ (qs : List (ℕ × Object)). IsPermutation (owners_in y 0 qs ++ left_now) (owners_left y e ++ extra_owners)) (was ∙ sym now)
        (widened (owners_in y 0 e.top_leave) left_now left_below extra_owners below_left);
    joined = subst (λ (ws : List Owner). IsPermutation (ws ++ joined_now) (owners_joined y' e ++ extra_owners))
        (sym (ap (owners_in y' 0) joins ∙ owners_map 0 e.top_join (λ p at. Contains-append_left e.top_join (joined_in e) p at)))
        (widened (owners_in y' 0 e.top_join) joined_now joined_below extra_owners below_joined);
  }

  with_top : (t : TopStays e x.top) → is_moved x.moves x.top ≡ true → OwnersAlong
  with_top t m =
      let own : List Owner = owners_in y 0 ((0, x.top) ∷ []) in
      let same : owners_in y' 0 ((0, turned_in x x.top) ∷ []) ≡ own =
      owners_turned 0 ((0, x.top) ∷ [])
      (λ p at. subst (λ (q : ℕ × Object). owners_with y' 0 q.0 (turned_in x q.1) ≡ owners_with y 0 q.0 q.1) (only (0, x.top) p at)
      (owner_same y y' 0 0 x.top (turned_in x x.top) first (turned_entry x x.top ∙ t.keeps.entry) (lengths.staying x.top (top_still x t) m))) in
      record {
        ws = own ++ extra_owners;
        left = subst (λ (qs : List (ℕ × Object)). IsPermutation (owners_in y 0 qs ++ left_now) (owners_left y e ++ (own ++ extra_owners))) (sym (ap (λ (b : Bool). cond b ((0, x.top) ∷ []) e.top_leave) m))
            (subst (λ (qs : List (ℕ × Object)). IsPermutation (own ++ left_now) ((owners_in y 0 qs ++ left_below) ++ (own ++ extra_owners))) (sym t.leaves) (shifted own left_now left_below extra_owners below_left));
        joined = subst (λ (qs : List (ℕ × Object)). IsPermutation (owners_in y' 0 qs ++ joined_now) (owners_joined y' e ++ (own ++ extra_owners)))
            (sym (ap (λ (b : Bool). cond b ((0, turned_in x x.top) ∷ []) (map (laid_at x) e.top_join)) m))
            (subst (λ (ws : List Owner). IsPermutation (ws ++ joined_now) (owners_joined y' e ++ (own ++ extra_owners))) (sym same)
            (subst (λ (qs : List (ℕ × Object)). IsPermutation (own ++ joined_now) ((owners_in y' 0 qs ++ joined_below) ++ (own ++ extra_owners))) (sym t.joins) (shifted own joined_now joined_below extra_owners below_joined)));
      }

  owners_along : OwnersAlong
  owners_along = by (is_moved x.moves x.top) refl (x.is_edit.top x.top x.top_in x.top_path)
    where
      by : (b : Bool) → is_moved x.moves x.top ≡ b → TopStays e x.top ⊎ TopTurns e x.top → OwnersAlong
      by true m (inl t) = with_top t m
      by true m (inr t) =
          plain ((0, x.top) ∷ []) t.leaves (ap (λ (b : Bool). cond b ((0, x.top) ∷ []) e.top_leave) m)
          (ap (λ (b : Bool). cond b ((0, turned_in x x.top) ∷ []) (map (laid_at x) e.top_join)) m ∙ ap (λ (qs : List (ℕ × Object)). map (laid_at x) qs) (sym t.joins))
      by false m t = plain e.top_leave refl (ap (λ (b : Bool). cond b ((0, x.top) ∷ []) e.top_leave) m) (ap (λ (b : Bool). cond b ((0, turned_in x x.top) ∷ []) (map (laid_at x) e.top_join)) m)

  edited_with : (owners owners' : List Owner) → AreOwners owners x.nodes y (objects_of x.listings) → OwnersEdited owners owners' (owners_left y e) (owners_joined y' e)
      → OwnersEdited owners owners' (owners_left y (e' x)) (owners_joined y' (e' x))
  edited_with owners owners' owned edited =
      let w = owners_along in
      let stay : List Owner = owners_among x.nodes y (beside (ne' x)).os in
      let all : IsPermutation owners (owners_left y (e' x) ++ stay) =
      subst (IsPermutation owners) (among-append x.nodes y (objects (leaving (e' x))) (beside (ne' x)).os ∙ ap (λ (ws : List Owner). ws ++ stay) (left_owners (ne' x)))
      (IsPermutation-trans owners (owners_among x.nodes y (objects_of x.listings)) (owners_among x.nodes y (objects (leaving (e' x)) ++ (beside (ne' x)).os)) owned
      (among_permuted x.nodes y (objects_of x.listings) (objects (leaving (e' x)) ++ (beside (ne' x)).os) (beside (ne' x)).parted)) in
      let before : IsPermutation owners (owners_left y e ++ (w.ws ++ stay)) =
      subst (IsPermutation owners) (append_assoc (owners_left y e) w.ws stay)
      (IsPermutation-trans owners (owners_left y (e' x) ++ stay) ((owners_left y e ++ w.ws) ++ stay) all (IsPermutation-append_left stay (owners_left y (e' x)) (owners_left y e ++ w.ws) w.left)) in
      let rest : IsPermutation edited.rest (w.ws ++ stay) =
      IsPermutation-unappend (owners_left y e) edited.rest (w.ws ++ stay)
      (IsPermutation-trans (owners_left y e ++ edited.rest) owners (owners_left y e ++ (w.ws ++ stay)) (IsPermutation-sym owners (owners_left y e ++ edited.rest) edited.before) before) in
      let after : IsPermutation owners' ((owners_joined y' e ++ w.ws) ++ stay) =
      subst (IsPermutation owners') (sym (append_assoc (owners_joined y' e) w.ws stay))
      (IsPermutation-trans owners' (owners_joined y' e ++ edited.rest) (owners_joined y' e ++ (w.ws ++ stay)) edited.after
      (IsPermutation-append_right (owners_joined y' e) edited.rest (w.ws ++ stay) rest)) in
      record {
        rest = stay;
        before = all;
        after = IsPermutation-trans owners' ((owners_joined y' e ++ w.ws) ++ stay) (owners_joined y' (e' x) ++ stay) after
            (IsPermutation-append_left stay (owners_joined y' e ++ w.ws) (owners_joined y' (e' x)) (IsPermutation-sym (owners_joined y' (e' x)) (owners_joined y' e ++ w.ws) w.joined));
      }

pub owners_edited : (x : Relocation) → ((low : ℕ) → first_in (Layout.New x.m') low ≡ first_in (Layout.New x.m) low) → (owners owners' : List Owner)
    → AreOwners owners x.nodes (Layout.New x.m) (objects_of x.listings) → KeepsLengths x → OwnersEdited owners owners' (owners_left (Layout.New x.m) x.edit) (owners_joined (Layout.New x.m') x.edit)
    → OwnersEdited owners owners' (owners_left (Layout.New x.m) (relocated x)) (owners_joined (Layout.New x.m') (relocated x))
owners_edited x first owners owners' owned lengths edited = edited_with x first lengths owners owners' owned edited
