-- An edit with identifiers that move has its places on the new map.
use Rattle.std.proofs.Common.{◌≡◌, ◌<◌, ◌≤◌, ◌⊎◌, inl, inr, ⊎_elim, ℕ, ◌+◌, ◌-◌, ◌*◌, ◌/◌, Bool, true, false, not, cond, ◌&&◌, ◌||◌, List, [], ◌∷◌, ◌++◌, length, map, refl, sym, ap, ap₂, subst, ◌∙◌, Option}
use Rattle.std.specs.Prelude.{Contains, nat_lt, ◌==◌}
use Rattle.std.specs.List.{list_any}
use Rattle.std.specs.Int.{div_ceil}
use Rattle.std.proofs.lemmas.List.Elements.{Contains-append_cases, Contains-append_left, Contains-append_right}
use Rattle.std.proofs.lemmas.List.Sorted.{IsPermutation-append_comm, IsPermutation-sym, IsPermutation-trans}
use Rattle.fc_dirs.specs.declared.Entry.{Entry}
use Rattle.fc_record.specs.declared.Geometry.{Geometry}
use Rattle.fc_record.specs.declared.Kind.{Kind}
use Rattle.fc_newmap.specs.Map.{Map, is_used}
use Rattle.fc_alloc.specs.declared.owner.Owner.{Owner}
use Rattle.fc_image.specs.Layout.{Layout, dir_form, id_of, id_sectors, is_among, is_apart, is_object_id, low_of, low_start}
use Rattle.fc_image.specs.Walk.{Object, object_size}
use Rattle.fc_image.specs.Objects.{is_movable, is_owned, is_owner_of, objects_of}
use Rattle.fc_image.specs.Opening.{reserved_in}
use Rattle.fc_image.specs.Edits.{Apart, IsAt}
use Rattle.fc_image.specs.Moves.{object_in, sectors_or_none}
use Rattle.fc_image.proofs.HolesLemmas.{apart_at, apart_from}
use Rattle.fc_image.proofs.OrderLemmas.{apart_shuffled}
use Rattle.fc_image.proofs.RelistLemmas.{apart_behind}
use Rattle.fc_image.proofs.ShuffleLemmas.{IsPermutation-unappend}
use Rattle.fc_changes.proofs.BasicLemmas.{any_in, in_any}
use Rattle.fc_tree.specs.declared.node.Node.{Node}
use Rattle.fc_tree.proofs.MemberLemmas.{contains_here, from_map, in_map, no_element}
use Rattle.fc_laws.specs.agree.Agreed.{AgreeOn}
use Rattle.fc_laws.proofs.lemmas.agree.BeforeLemmas.{had, object_lies}
use Rattle.fc_laws.proofs.lemmas.nodes.ListLemmas.{in_first, in_other}
use Rattle.fc_edits.specs.Edit.{Edit, KeepsEntry, TopStays, TopTurns, joining, leaving, left_in, objects}
use Rattle.fc_edits.specs.NewPlaces.{ApartInOne, GivesBack, LiesAgain, NewPlaces, Taking, is_taken}
use Rattle.fc_edits.specs.Places.{Stays}
use Rattle.fc_edits.proofs.lemmas.GrownMemberLemmas.{apart_permuted}
use Rattle.fc_edits.proofs.lemmas.IdentifierLemmas.{owns}
use Rattle.fc_edits.proofs.lemmas.LeavingLemmas.{left_apart, left_other}
use Rattle.fc_safelaws.specs.Relaid.{IsRelaid, Reaches}
use Rattle.fc_safelaws.proofs.RelaidLemmas.{relaid_law}
use Rattle.fc_safeedits.specs.Relocation.{IsCarried, JoinsBefore, Relocation, is_moved, laid_at, laid_in, relocated, turned_in}
use Rattle.fc_safeedits.specs.SafePlaces.{LiesAlone, LiesInside, SafePlaces, SafePlacesLaw}
use Rattle.fc_safeedits.proofs.lemmas.ApartObjectsLemmas.{both_apart, one_by_one, turned_apart}
use Rattle.fc_safeedits.proofs.lemmas.AlongLemmas.{along, beside, moved_along, ne', still_beside}
use Rattle.fc_safeedits.proofs.lemmas.RelocatedOwnersLemmas.{KeepsLengths, owners_edited}
use Rattle.fc_safeedits.proofs.lemmas.LaidLemmas.{laid_entry, laid_still, laid_there, moved_entry, ne}
use Rattle.fc_safeedits.proofs.lemmas.RelocatedLemmas.{e', extra, left', turned_entry}
use Rattle.fc_safeedits.proofs.lemmas.RelocatedNodesLemmas.{joining_more, joins', relocation_law}
use Rattle.fc_changes.proofs.NewPlaceLemmas.{owner_id}
use Rattle.std.proofs.lemmas.Bool.{false_from_ne_true as unless}
use Rattle.fc_image.proofs.CommandLemmas.{both_ways as same_bool}
use Rattle.fc_image.proofs.EntriesLemmas.{later as contains_later}

-- ---- objects of one entry

-- an object of the same address and size
pub reaches_by : (m : Map) (o p : Object) → p.entry.address ≡ o.entry.address → object_size (dir_form (Layout.New m)) p.entry ≡ object_size (dir_form (Layout.New m)) o.entry → Reaches m o → Reaches m p
reaches_by m o p address size h = record {
  id = λ some. ap (λ (a : ℕ). is_object_id m (id_of a)) address ∙ h.id (subst (λ (n : ℕ). 0 < n) size some);
  long = λ some. subst (λ (n : ℕ). n ≤ length (id_sectors m (id_of p.entry.address))) (ap₂ (λ (a k : ℕ). low_start m (low_of a) + div_ceil k m.geometry.sector) (sym address) (sym size))
      (subst (λ (a : ℕ). low_start m (low_of o.entry.address) + div_ceil (object_size (dir_form (Layout.New m)) o.entry) m.geometry.sector ≤ length (id_sectors m (id_of a))) (sym address)
      (h.long (subst (λ (n : ℕ). 0 < n) size some)));
}

reaches_as : (m : Map) (o p : Object) → o.entry ≡ p.entry → Reaches m o → Reaches m p
reaches_as m o p same = reaches_by m o p (ap (λ (y : Entry). y.address) (sym same)) (ap (λ (y : Entry). object_size (dir_form (Layout.New m)) y) (sym same))

-- an object laid anew by a map that reaches it
laid_now : (m m' : Map) (o p : Object) → p.entry ≡ o.entry → IsAt (Layout.New m) o → Reaches m' o → IsRelaid m m' o (object_in (Layout.New m') p)
laid_now m m' o p same before reaches = record {
  address = ap (λ (y : Entry). y.address) same;
  size = ap (λ (y : Entry). object_size (dir_form (Layout.New m)) y) same;
  before = before;
  now = relaid_law.placed m' p (reaches_as m' o p (sym same) reaches);
}

-- what is alone lies there already
pub alone_still : (x : Relocation) (o : Object) → is_moved x.moves o ≡ true → LiesAlone x o → laid_in x o ≡ o
alone_still x o m a = laid_there x.m' x.moves o m ∙ ap (λ (q : Option (List ℕ)). let p : Object = record o { sectors = sectors_or_none q } in p) a.at

-- what joins and had its place by the old map
pub joining' : (x : Relocation) (o : Object) → is_moved x.moves o ≡ true → LiesInside x o → IsRelaid x.m x.m' o (laid_in x o)
joining' x o m i = subst (IsRelaid x.m x.m' o) (sym (laid_there x.m' x.moves o m)) (laid_now x.m x.m' o o refl i.before i.reaches)

module _ (x : Relocation) (kind : Kind) (owners : List Owner) (root : Node) (takings : List Taking) (gone : List ℕ) (a : AgreeOn kind x.m x.nodes owners root x.listings)
    (sp : SafePlaces x takings gone) where
  abbrev e : Edit
  e = x.edit

  abbrev before : List Object
  before = objects_of x.listings

  abbrev moved : Object → Bool
  moved = is_moved x.moves

  before_apart : Apart (reserved_in kind (Layout.New x.m)) before
  before_apart = let w = had kind x.m x.nodes owners root x.listings a in subst (Apart (reserved_in kind (Layout.New x.m))) (sym w.objects) w.apart

  -- ---- objects that are laid anew

  staying_keeps : (o : Object) → Stays x.nodes x.listings e o → KeepsEntry e o
  staying_keeps o s = x.is_edit.keeps o s.number s.among s.number_is s.stays

  pub staying' : (o : Object) → Stays x.nodes x.listings e o → moved o ≡ true → IsRelaid x.m x.m' o (turned_in x o)
  staying' o s m =
      let keeps = staying_keeps o s in
      subst (IsRelaid x.m x.m' o) (sym (laid_there x.m' x.moves (e.turn o) (moved_entry x.moves (e.turn o) o keeps.entry ∙ m)))
      (laid_now x.m x.m' o (e.turn o) keeps.entry (object_lies kind x.m x.nodes owners root x.listings a o s.among).placed (sp.reach_staying o s m))

  -- ---- identifiers that move

  moves_of : (k : ℕ) → is_taken takings k ≡ true → is_used x.m k ≡ true → x.moves k ≡ true
  moves_of k taken used = ap (λ (f : ℕ → Bool). f k) sp.moves ∙ ap₂ (λ (p q : Bool). p && q) taken used

  moved_id : (o : Object) (k : ℕ) → is_owner_of k o ≡ true → x.moves k ≡ true → moved o ≡ true
  moved_id o k own m = ap x.moves (owner_id k o own) ∙ m

  again' : (k : ℕ) → is_taken takings k ≡ true → is_used x.m k ≡ true → (is_movable before k ≡ true) × ((o : Object) → Stays x.nodes x.listings (relocated x) o → is_owner_of k o ≡ false)
  again' k taken used = (
    sp.movable k (moves_of k taken used),
    λ o s. unless (is_owner_of k o) (λ own. let m = moved_id o k own (moves_of k taken used) in let still = (relocation_law.stays x o s).1 in cc),
  )

  -- ---- each lies at its address

  pub placed' : (p : ℕ × Object) → Contains (joining (relocated x)) p → IsAt (Layout.New x.m') p.1
  placed' p at = ⊎_elim joins (λ (c : IsCarried x p). subst (IsAt (Layout.New x.m')) (sym c.is) (staying' c.was c.stays c.moved).now) (joins' x p at)
    where
      joins : JoinsBefore x p → IsAt (Layout.New x.m') p.1
      joins b = by (moved b.was.1) refl
        where
          by : (t : Bool) → moved b.was.1 ≡ t → IsAt (Layout.New x.m') p.1
          by true m =
              subst (λ (q : ℕ × Object). IsAt (Layout.New x.m') q.1) (sym b.is)
              (⊎_elim (λ i. (joining' x b.was.1 m i).now) (λ alone. subst (IsAt (Layout.New x.m')) (sym (alone_still x b.was.1 m alone)) alone.at) (sp.inside b.was b.joins m))
          by false m =
              subst (λ (q : ℕ × Object). IsAt (Layout.New x.m') q.1) (sym b.is) (subst (IsAt (Layout.New x.m')) (sym (laid_still x.m' x.moves b.was.1 m)) (sp.placed b.was b.joins m))

  -- who left leaves
  leaves_too : (q : ℕ × Object) → Contains (leaving e) q → Contains (leaving (relocated x)) q
  leaves_too q at =
      ⊎_elim (λ own. Contains-append_left (e' x).top_leave (left_in (e' x)) q (in_top (moved x.top) refl (x.is_edit.top x.top x.top_in x.top_path) own))
      (λ later. Contains-append_right (e' x).top_leave (left_in (e' x)) q (in_first (left_in (e' x)) (left_in e ++ extra x) (left' x) q (Contains-append_left (left_in e) (extra x) q later)))
      (Contains-append_cases e.top_leave (left_in e) q at)
    where
      in_top : (b : Bool) → moved x.top ≡ b → TopStays e x.top ⊎ TopTurns e x.top → Contains e.top_leave q → Contains (e' x).top_leave q
      in_top true m (inl t) own = absurd (no_element q (subst (λ (ps : List (ℕ × Object)). Contains ps q) t.leaves own))
      in_top true m (inr t) own =
          subst (λ (ps : List (ℕ × Object)). Contains ps q) (sym (ap (λ (b : Bool). cond b ((0, x.top) ∷ []) e.top_leave) m)) (subst (λ (ps : List (ℕ × Object)). Contains ps q) t.leaves own)
      in_top false m t own = subst (λ (ps : List (ℕ × Object)). Contains ps q) (sym (ap (λ (b : Bool). cond b ((0, x.top) ∷ []) e.top_leave) m)) own

  -- what is laid anew lies in an identifier that moves, in which nothing stays
  in_moving : (o o' : Object) → o'.entry ≡ o.entry → moved o ≡ true → LiesAgain x.m x.nodes x.listings (relocated x) o'
  in_moving o o' same m = inr (
    λ k own used. sp.movable k (ap x.moves (sym (owner_id k o' own)) ∙ moved_entry x.moves o' o same ∙ m),
    λ p s id. absurd (let still = (relocation_law.stays x p s).1 in let there : moved p ≡ true = ap x.moves (sym id) ∙ moved_entry x.moves o' o same ∙ m in cc),
  )

  pub lies' : (p : ℕ × Object) → Contains (joining (relocated x)) p → LiesAgain x.m x.nodes x.listings (relocated x) p.1
  lies' p at =
      ⊎_elim joins
      (λ (c : IsCarried x p). subst (LiesAgain x.m x.nodes x.listings (relocated x)) (sym c.is) (in_moving c.was (turned_in x c.was) (turned_entry x c.was ∙ (staying_keeps c.was c.stays).entry) c.moved))
      (joins' x p at)
    where
      joins : JoinsBefore x p → LiesAgain x.m x.nodes x.listings (relocated x) p.1
      joins b = subst (λ (q : ℕ × Object). LiesAgain x.m x.nodes x.listings (relocated x) q.1) (sym b.is) (by (moved b.was.1) refl)
        where
          by : (t : Bool) → moved b.was.1 ≡ t → LiesAgain x.m x.nodes x.listings (relocated x) (laid_in x b.was.1)
          by true m = in_moving b.was.1 (laid_in x b.was.1) (laid_entry x.m' x.moves b.was.1) m
          by false m =
              subst (LiesAgain x.m x.nodes x.listings (relocated x)) (sym (laid_still x.m' x.moves b.was.1 m))
              (⊎_elim (λ place. inl (place.0, leaves_too place.0 place.1, place.2)) (λ loose. inr (loose.0, (λ o s id. loose.1 o (relocation_law.stays x o s).0 id))) (sp.lies b.was b.joins))

  -- ---- what goes back

  owns_as : (k : ℕ) (o o' : Object) → IsRelaid x.m x.m' o o' → is_owner_of k o' ≡ is_owner_of k o
  owns_as k o o' h =
      ap₂ (λ (n address : ℕ). nat_lt 0 n && (id_of address == k)) (relaid_law.as_many x.m x.m' o o' sp.geometry h) h.address

  owns_laid : (k : ℕ) (p : ℕ × Object) → Contains (joining e) p → is_owner_of k (laid_in x p.1) ≡ is_owner_of k p.1
  owns_laid k p at = by (moved p.1) refl
    where
      by : (t : Bool) → moved p.1 ≡ t → is_owner_of k (laid_in x p.1) ≡ is_owner_of k p.1
      by true m = ⊎_elim (λ i. owns_as k p.1 (laid_in x p.1) (joining' x p.1 m i)) (λ alone. ap (is_owner_of k) (alone_still x p.1 m alone)) (sp.inside p at m)
      by false m = ap (is_owner_of k) (laid_still x.m' x.moves p.1 m)

  abbrev stay : List Object
  stay = (beside (ne' x)).os

  -- who stays without the moves
  stayed : (o : Object) → Contains sp.gives.stay o → Stays x.nodes x.listings e o
  stayed o at =
      (beside (ne x)).each o
      (in_other sp.gives.stay (beside (ne x)).os
      (IsPermutation-unappend (objects (leaving e)) sp.gives.stay (beside (ne x)).os
      (IsPermutation-trans (objects (leaving e) ++ sp.gives.stay) before (objects (leaving e) ++ (beside (ne x)).os)
      (IsPermutation-sym before (objects (leaving e) ++ sp.gives.stay) sp.gives.others) (beside (ne x)).parted)) o at)

  in_stay : (o : Object) → Stays x.nodes x.listings e o → Contains sp.gives.stay o
  in_stay o s =
      ⊎_elim (λ left. let q = from_map (λ (p : ℕ × Object). p.1) (leaving e) o left in absurd (left_other x.nodes (Layout.New x.m) x.listings e x.held x.is_edit q.0 o q.1 s q.2))
      (λ there. there) (Contains-append_cases (objects (leaving e)) sp.gives.stay o (in_other before (objects (leaving e) ++ sp.gives.stay) sp.gives.others o s.among))

  owned_then : (k : ℕ) → list_any (is_owner_of k) (objects (joining (relocated x)) ++ stay) ≡ true → list_any (is_owner_of k) (objects (joining e) ++ sp.gives.stay) ≡ true
  owned_then k h =
      let r = in_any (is_owner_of k) (objects (joining (relocated x)) ++ stay) h in
      ⊎_elim
      (λ joins.
      let p = from_map (λ (q : ℕ × Object). q.1) (joining (relocated x)) r.0 joins in
      let own : is_owner_of k p.0.1 ≡ true = ap (is_owner_of k) p.2 ∙ r.2 in
      ⊎_elim
      (λ (b : JoinsBefore x p.0). any_in (is_owner_of k) (objects (joining e) ++ sp.gives.stay) b.was.1
      (Contains-append_left (objects (joining e)) sp.gives.stay b.was.1 (in_map (λ (q : ℕ × Object). q.1) (joining e) b.was b.joins))
      (sym (owns_laid k b.was b.joins) ∙ ap (λ (q : ℕ × Object). is_owner_of k q.1) (sym b.is) ∙ own))
      (λ (c : IsCarried x p.0). any_in (is_owner_of k) (objects (joining e) ++ sp.gives.stay) c.was (Contains-append_right (objects (joining e)) sp.gives.stay c.was (in_stay c.was c.stays))
      (sym (owns_as k c.was (turned_in x c.was) (staying' c.was c.stays c.moved)) ∙ ap (is_owner_of k) (sym c.is) ∙ own)) (joins' x p.0 p.1))
      (λ stays. any_in (is_owner_of k) (objects (joining e) ++ sp.gives.stay) r.0
      (Contains-append_right (objects (joining e)) sp.gives.stay r.0 (in_stay r.0 (relocation_law.stays x r.0 ((beside (ne' x)).each r.0 stays)).0)) r.2)
      (Contains-append_cases (objects (joining (relocated x))) stay r.0 r.1)

  owned_now : (k : ℕ) → list_any (is_owner_of k) (objects (joining e) ++ sp.gives.stay) ≡ true → list_any (is_owner_of k) (objects (joining (relocated x)) ++ stay) ≡ true
  owned_now k h =
      let r = in_any (is_owner_of k) (objects (joining e) ++ sp.gives.stay) h in
      ⊎_elim
      (λ joins.
      let p = from_map (λ (q : ℕ × Object). q.1) (joining e) r.0 joins in
      any_in (is_owner_of k) (objects (joining (relocated x)) ++ stay) (laid_in x p.0.1)
      (Contains-append_left (objects (joining (relocated x))) stay (laid_in x p.0.1) (in_map (λ (q : ℕ × Object). q.1) (joining (relocated x)) (laid_at x p.0) (joining_more x p.0 p.1)))
      (owns_laid k p.0 p.1 ∙ ap (is_owner_of k) p.2 ∙ r.2))
      (λ stays. by r.0 (stayed r.0 stays) r.2 (moved r.0) refl) (Contains-append_cases (objects (joining e)) sp.gives.stay r.0 r.1)
    where
      by : (o : Object) → Stays x.nodes x.listings e o → is_owner_of k o ≡ true → (t : Bool) → moved o ≡ t → list_any (is_owner_of k) (objects (joining (relocated x)) ++ stay) ≡ true
      by o s own true m =
          any_in (is_owner_of k) (objects (joining (relocated x)) ++ stay) (turned_in x o)
          (Contains-append_left (objects (joining (relocated x))) stay (turned_in x o)
          (in_first (objects (joining (relocated x))) (map (laid_in x) (objects (joining e)) ++ map (turned_in x) (along x).os) (along x).joins (turned_in x o)
          (Contains-append_right (map (laid_in x) (objects (joining e))) (map (turned_in x) (along x).os) (turned_in x o) (in_map (turned_in x) (along x).os o (moved_along x o s m)))))
          (owns_as k o (turned_in x o) (staying' o s m) ∙ own)
      by o s own false m = any_in (is_owner_of k) (objects (joining (relocated x)) ++ stay) o (Contains-append_right (objects (joining (relocated x))) stay o (still_beside x o s m)) own

  gives' : GivesBack x.m takings gone x.listings (relocated x)
  gives' = record {
    stay = stay;
    others = (beside (ne' x)).parted;
    exactly = λ k used. sp.gives.exactly k used
        ∙ ap (λ (b : Bool). (is_owned before k && not ((k == 2) || b)) || is_taken takings k)
        (same_bool (list_any (is_owner_of k) (objects (joining e) ++ sp.gives.stay)) (list_any (is_owner_of k) (objects (joining (relocated x)) ++ stay)) (owned_now k) (owned_then k));
  }

  -- ---- in one identifier each apart from the others

  along_apart : ApartInOne (map (turned_in x) (along x).os)
  along_apart =
      let reserved = reserved_in kind (Layout.New x.m) in
      let all : Apart reserved before = before_apart in
      let cut : Apart reserved (objects (leaving (relocated x)) ++ stay) = apart_shuffled reserved before (objects (leaving (relocated x)) ++ stay) all (beside (ne' x)).parted in
      let front : Apart reserved (objects (leaving (relocated x))) =
      apart_behind reserved stay (objects (leaving (relocated x)))
      (apart_shuffled reserved (objects (leaving (relocated x)) ++ stay) (stay ++ objects (leaving (relocated x))) cut (IsPermutation-append_comm (objects (leaving (relocated x))) stay)) in
      let own : Apart reserved (along x).os =
      apart_behind reserved (objects (leaving e)) (along x).os (apart_shuffled reserved (objects (leaving (relocated x))) (objects (leaving e) ++ (along x).os) front (along x).leaves) in
      one_by_one reserved (along x).os own (λ o. Stays x.nodes x.listings e o × (moved o ≡ true)) (along x).each (turned_in x)
      (λ o p s t apart. relaid_law.apart x.m x.m' o p (turned_in x o) (turned_in x p) sp.is_map sp.geometry (staying' o s.0 s.1) (staying' p t.0 t.1) apart)

  -- what joined before, apart from what joined before
  laid_apart : (ps : List (ℕ × Object)) → ((p : ℕ × Object) → Contains ps p → Contains (joining e) p) → ApartInOne (objects ps) → ApartInOne (map (laid_in x) (objects ps))
  laid_apart [] within a' = tt
  laid_apart (p ∷ ps) within a' = (
    λ r at id.
        (let o = from_map (laid_in x) (objects ps) r at in
        let q = from_map (λ (u : ℕ × Object). u.1) ps o.0 o.1 in
        let same : laid_in x q.0.1 ≡ r = ap (laid_in x) q.2 ∙ o.2 in
        subst (λ (u : Object). is_apart (laid_in x p.1).sectors u.sectors ≡ true) same
        (two p q.0 (within p (contains_here p ps)) (within q.0 (contains_later p q.0 ps q.1))
        (same_id p.1 q.0.1 (id ∙ ap (λ (u : Object). id_of u.entry.address) (sym same)))
        (a'.0 q.0.1 (in_map (λ (u : ℕ × Object). u.1) ps q.0 q.1) (same_id p.1 q.0.1 (id ∙ ap (λ (u : Object). id_of u.entry.address) (sym same)))))),
    laid_apart ps (λ q at. within q (contains_later p q ps at)) a'.1,
  )
    where
      -- one that is alone
      by_alone : (p q : ℕ × Object) → Contains (joining e) q → moved p.1 ≡ true → LiesAlone x p.1 → id_of p.1.entry.address ≡ id_of q.1.entry.address → is_apart p.1.sectors q.1.sectors ≡ true
          → is_apart (laid_in x p.1).sectors (laid_in x q.1).sectors ≡ true
      by_alone p q bt m alone id apart =
          apart_from (laid_in x p.1).sectors (laid_in x q.1).sectors
          (λ s i j.
          let own = subst (λ (y : Entry). is_owner_of (id_of y.address) (laid_in x q.1) ≡ true) (laid_entry x.m' x.moves q.1) (owns (laid_in x q.1) s j) in
          let same : q.1 ≡ p.1 = alone.others q bt (subst (λ (n : ℕ). is_owner_of n q.1 ≡ true) (sym id) (sym (owns_laid (id_of q.1.entry.address) q bt) ∙ own)) in
          let still = alone_still x p.1 m alone in
          let out = apart_at p.1.sectors q.1.sectors s apart (subst (λ (o : Object). is_among o.sectors s ≡ true) still i) in
          let there = subst (λ (o : Object). is_among o.sectors s ≡ true) (ap (laid_in x) same ∙ still ∙ sym same) j in
          cc)

      same_id : (o p : Object) → id_of (laid_in x o).entry.address ≡ id_of (laid_in x p).entry.address → id_of o.entry.address ≡ id_of p.entry.address
      same_id o p id =
          ap (λ (y : Entry). id_of y.address) (sym (laid_entry x.m' x.moves o)) ∙ id ∙ ap (λ (y : Entry). id_of y.address) (laid_entry x.m' x.moves p)

      two : (p q : ℕ × Object) → Contains (joining e) p → Contains (joining e) q → id_of p.1.entry.address ≡ id_of q.1.entry.address → is_apart p.1.sectors q.1.sectors ≡ true
          → is_apart (laid_in x p.1).sectors (laid_in x q.1).sectors ≡ true
      two p q at bt id apart = by (moved p.1) refl
        where
          by : (t : Bool) → moved p.1 ≡ t → is_apart (laid_in x p.1).sectors (laid_in x q.1).sectors ≡ true
          by true m =
              let n : moved q.1 ≡ true = ap x.moves (sym id) ∙ m in
              ⊎_elim
              (λ i. ⊎_elim (λ j. relaid_law.apart x.m x.m' p.1 q.1 (laid_in x p.1) (laid_in x q.1) sp.is_map sp.geometry (joining' x p.1 m i) (joining' x q.1 n j) apart)
              (λ alone. turned_apart (laid_in x p.1).sectors (laid_in x q.1).sectors (by_alone q p at n alone (sym id) (turned_apart q.1.sectors p.1.sectors apart))) (sp.inside q bt n))
              (λ alone. by_alone p q bt m alone id apart) (sp.inside p at m)
          by false m =
              subst (λ (u : Object). is_apart u.sectors (laid_in x q.1).sectors ≡ true) (sym (laid_still x.m' x.moves p.1 m))
              (subst (λ (u : Object). is_apart p.1.sectors u.sectors ≡ true) (sym (laid_still x.m' x.moves q.1 (ap x.moves (sym id) ∙ m))) apart)

  -- and from what is carried along
  between : (o p : Object) → Contains (map (laid_in x) (objects (joining e))) o → Contains (map (turned_in x) (along x).os) p → id_of o.entry.address ≡ id_of p.entry.address → is_apart o.sectors p.sectors ≡ true
  between o p at bt id =
      let u = from_map (laid_in x) (objects (joining e)) o at in
      let q = from_map (λ (w : ℕ × Object). w.1) (joining e) u.0 u.1 in
      let r = from_map (turned_in x) (along x).os p bt in
      let s = (along x).each r.0 r.1 in
      let same : laid_in x q.0.1 ≡ o = ap (laid_in x) q.2 ∙ u.2 in
      let ids : id_of q.0.1.entry.address ≡ id_of r.0.entry.address =
      ap (λ (y : Entry). id_of y.address) (sym (laid_entry x.m' x.moves q.0.1)) ∙ ap (λ (w : Object). id_of w.entry.address) same ∙ id ∙ ap (λ (w : Object). id_of w.entry.address) (sym r.2)
      ∙ ap (λ (y : Entry). id_of y.address) (turned_entry x r.0 ∙ (staying_keeps r.0 s.0).entry) in
      let there = staying' r.0 s.0 s.1 in
      subst (λ (w : Object). is_apart w.sectors p.sectors ≡ true) same
      (subst (λ (w : Object). is_apart (laid_in x q.0.1).sectors w.sectors ≡ true) r.2
      (⊎_elim
      (λ i. relaid_law.apart x.m x.m' q.0.1 r.0 (laid_in x q.0.1) (turned_in x r.0) sp.is_map sp.geometry (joining' x q.0.1 (ap x.moves ids ∙ s.1) i) there (was q.0 r.0 q.1 s.0 ids))
      (λ alone. unowned (laid_in x q.0.1).sectors r.0 s.0 there (ap (λ (k : ℕ). is_owner_of k r.0) (sym ids) ∙ alone.staying r.0 s.0)) (sp.inside q.0 q.1 (ap x.moves ids ∙ s.1))))
    where
      -- what owns nothing of its identifier has no sectors
      unowned : (xs : List ℕ) (o : Object) → Stays x.nodes x.listings e o → IsRelaid x.m x.m' o (turned_in x o) → is_owner_of (id_of o.entry.address) o ≡ false
          → is_apart xs (turned_in x o).sectors ≡ true
      unowned xs o s there none =
          apart_from xs (turned_in x o).sectors
          (λ n i j.
          let own : is_owner_of (id_of o.entry.address) (turned_in x o) ≡ true = subst (λ (k : ℕ). is_owner_of (id_of k) (turned_in x o) ≡ true) there.address (owns (turned_in x o) n j) in
          let not_own : is_owner_of (id_of o.entry.address) (turned_in x o) ≡ false = owns_as (id_of o.entry.address) o (turned_in x o) there ∙ none in
          cc)

      was : (q : ℕ × Object) (o : Object) → Contains (joining e) q → Stays x.nodes x.listings e o → id_of q.1.entry.address ≡ id_of o.entry.address → is_apart q.1.sectors o.sectors ≡ true
      was q o joins s ids =
          ⊎_elim
          (λ place. subst (λ (ss : List ℕ). is_apart ss o.sectors ≡ true) (sym place.2.sectors)
          (left_apart x.nodes (Layout.New x.m) x.listings e x.held x.is_edit (reserved_in kind (Layout.New x.m)) before_apart place.0 o place.1 s))
          (λ loose. loose.1 o s ids) (sp.lies q joins)

  pairs' : ApartInOne (objects (joining (relocated x)))
  pairs' =
      (apart_permuted (map (laid_in x) (objects (joining e)) ++ map (turned_in x) (along x).os) (objects (joining (relocated x)))
      (IsPermutation-sym (objects (joining (relocated x))) (map (laid_in x) (objects (joining e)) ++ map (turned_in x) (along x).os) (along x).joins)).1
      (both_apart (map (laid_in x) (objects (joining e))) (map (turned_in x) (along x).os) (laid_apart (joining e) (λ p at. at) sp.pairs) along_apart between)

  pub places' : NewPlaces kind x.m x.m' x.nodes x.listings (relocated x) takings gone
  places' = record { is_map = sp.is_map; geometry = sp.geometry; space = sp.space; gives = gives'; again = again'; placed = placed'; lies = lies'; pairs = pairs' }

-- what is laid anew has as many sectors
lengths' : (x : Relocation) (kind : Kind) (owners : List Owner) (root : Node) (takings : List Taking) (gone : List ℕ) → AgreeOn kind x.m x.nodes owners root x.listings → SafePlaces x takings gone → KeepsLengths x
lengths' x kind owners root takings gone a sp = record {
  staying = λ o s m. relaid_law.as_many x.m x.m' o (turned_in x o) sp.geometry (staying' x kind owners root takings gone a sp o s m);
  joining = λ p at. by p at (is_moved x.moves p.1) refl;
}
  where
    by : (p : ℕ × Object) → Contains (joining x.edit) p → (t : Bool) → is_moved x.moves p.1 ≡ t → length (laid_in x p.1).sectors ≡ length p.1.sectors
    by p at true m =
        ⊎_elim (λ i. relaid_law.as_many x.m x.m' p.1 (laid_in x p.1) sp.geometry (joining' x p.1 m i))
        (λ alone. ap (λ (o : Object). length o.sectors) (alone_still x p.1 m alone)) (sp.inside p at m)
    by p at false m = ap (λ (o : Object). length o.sectors) (laid_still x.m' x.moves p.1 m)

pub safe_places_law : SafePlacesLaw
safe_places_law = record {
  places = λ x kind owners root takings gone a sp. places' x kind owners root takings gone a sp;
  joining = joining';
  staying = λ x kind owners root takings gone o a sp s m. staying' x kind owners root takings gone a sp o s m;
  owners = λ x kind owners owners' root takings gone a sp edited. owners_edited x (λ low. ap (λ (g : Geometry). (low - 1) * (g.share / g.sector)) sp.geometry) owners owners' a.owned (lengths' x kind owners root takings gone a sp) edited;
}
