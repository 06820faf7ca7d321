-- Who leaves, joins and stays in an edit in which a directory grows.
use Rattle.std.proofs.Common.{◌≡◌, ◌⊎◌, inl, inr, ⊎_elim, ℕ, true, List, ◌∷◌, ◌++◌, map, sym, ap, subst, ◌∙◌, Option, None, Some}
use Rattle.std.specs.Prelude.{Contains, IsPermutation}
use Rattle.std.proofs.lemmas.List.Elements.{Contains-append_right}
use Rattle.std.proofs.lemmas.List.Sorted.{IsPermutation-map, IsPermutation-sym}
use Rattle.fc_image.specs.Layout.{id_of, is_apart}
use Rattle.fc_image.specs.Walk.{Object}
use Rattle.fc_image.proofs.ShuffleLemmas.{shuffled}
use Rattle.fc_tree.proofs.MemberLemmas.{contains_here, from_map, in_map}
use Rattle.fc_laws.specs.agree.Agreed.{CanSay}
use Rattle.fc_laws.proofs.lemmas.nodes.ListLemmas.{in_first, in_other}
use Rattle.fc_edits.specs.Edit.{Amended, Edit, joined_in, joining, leaving, left_in, numbers, objects}
use Rattle.fc_edits.specs.Growing.{EditGrowing, Holder, IsHeldBy, amended_first, at_place, grown_by, regrown, told, with_growth}
use Rattle.fc_edits.specs.NewPlaces.{ApartInOne}
use Rattle.fc_edits.specs.Places.{Stays}
use Rattle.fc_edits.proofs.lemmas.AroundLemmas as ar
use Rattle.fc_edits.proofs.lemmas.GrowingLemmas as below
use Rattle.fc_edits.proofs.lemmas.GrowingLemmas.{e, g, gr, its_turn, layout, listings, ne, nodes}
use Rattle.fc_edits.proofs.lemmas.NumberLemmas as n_
use Rattle.fc_edits.proofs.lemmas.GrownRootLemmas as root
use Rattle.fc_image.proofs.EditLemmas.{apart_turned as turned}
use Rattle.fc_image.proofs.EntriesLemmas.{later as contains_later, cases as contains_cases}

-- ---- objects that lie apart in one identifier do so in another order

pub apart_permuted : (xs ys : List Object) → IsPermutation xs ys → ((p : Object) → Contains ys p → Contains xs p) × (ApartInOne xs → ApartInOne ys)
apart_permuted = shuffled (λ (xs ys : List Object). ((p : Object) → Contains ys p → Contains xs p) × (ApartInOne xs → ApartInOne ys)) (λ xs. ((λ p at. at), (λ a. a)))
    (λ xs ys zs a b. ((λ p at. a.0 p (b.0 p at)), (λ c. b.1 (a.1 c)))) under flip
  where
    under : (x : Object) (xs ys : List Object) → ((p : Object) → Contains ys p → Contains xs p) × (ApartInOne xs → ApartInOne ys)
        → ((p : Object) → Contains (x ∷ ys) p → Contains (x ∷ xs) p) × (ApartInOne (x ∷ xs) → ApartInOne (x ∷ ys))
    under x xs ys s = (
      λ p at. ⊎_elim (λ same. subst (Contains (x ∷ xs)) same (contains_here x xs)) (λ later. contains_later x p xs (s.0 p later)) (contains_cases x p ys at),
      λ a. ((λ p at. a.0 p (s.0 p at)), s.1 a.1),
    )

    flip : (x y : Object) (zs : List Object)
        → ((p : Object) → Contains (y ∷ (x ∷ zs)) p → Contains (x ∷ (y ∷ zs)) p) × (ApartInOne (x ∷ (y ∷ zs)) → ApartInOne (y ∷ (x ∷ zs)))
    flip x y zs = (
      λ p at.
          ⊎_elim (λ same. subst (Contains (x ∷ (y ∷ zs))) same (contains_later x y (y ∷ zs) (contains_here y zs)))
          (λ later.
          ⊎_elim (λ same. subst (Contains (x ∷ (y ∷ zs))) same (contains_here x (y ∷ zs))) (λ last. contains_later x p (y ∷ zs) (contains_later y p zs last)) (contains_cases x p zs later))
          (contains_cases y p (x ∷ zs) at),
      λ a. (
        λ p at id.
            ⊎_elim
            (λ same.
            turned p.sectors y.sectors
            (subst (λ (q : Object). is_apart q.sectors y.sectors ≡ true) same (a.0 y (contains_here y zs) (ap (λ (q : Object). id_of q.entry.address) same ∙ sym id))))
            (λ later. a.1.0 p later id) (contains_cases x p zs at),
        ((λ p at id. a.0 p (contains_later y p zs at) id), a.1.1),
      ),
    )

-- ---- an edit in which a directory grows

module _ (x : EditGrowing) where
  abbrev e' : Edit
  e' = with_growth x

  -- the grown directory joins, and the objects that do so without growth
  pub joins_either : (P : Object → Type 0) → P (at_place (g x) (g x).o) → ((p : ℕ × Object) → Contains (joining (e x)) p → P p.1) → (p : ℕ × Object) → Contains (joining e') p → P p.1
  joins_either P its others = by (g x).holder (gr x).amended_is
    where
      old : (q : Option Holder) → IsPermutation ((e x).amended ++ map (told (e x)) (g x).again) (amended_first q (g x).others) → (p : ℕ × Object) → Contains (joined_in (ar.around (e x) (g x) q)) p → P p.1
      old q cut p at = others p (Contains-append_right (e x).top_join (joined_in (e x)) p (in_other (joined_in (ar.around (e x) (g x) q)) (joined_in (e x)) (ar.joined_same x q cut) p at))

      now : (n : ℕ) (q : Option Holder) → IsPermutation ((e x).amended ++ map (told (e x)) (g x).again) (amended_first q (g x).others) → (p : ℕ × Object)
          → Contains ((n, regrown (e x) (g x) (g x).o) ∷ joined_in (ar.around (e x) (g x) q)) p → P p.1
      now n q cut p at =
          ⊎_elim (λ same. subst (λ (r : ℕ × Object). P r.1) same (subst P (sym (its_turn x)) its)) (λ later. old q cut p later)
          (contains_cases (n, regrown (e x) (g x) (g x).o) p (joined_in (ar.around (e x) (g x) q)) at)

      by : (q : Option Holder) → IsPermutation ((e x).amended ++ map (told (e x)) (g x).again) (amended_first q (g x).others) → (p : ℕ × Object) → Contains (joining (grown_by (e x) (g x) q)) p → P p.1
      by None cut p at = now 0 None cut p at
      by (Some hd) cut p at =
          now (g x).dir (Some hd) cut p
          (subst (λ (ts : List (ℕ × Object)). Contains (ts ++ ((g x).dir, regrown (e x) (g x) (g x).o) ∷ joined_in (ar.around (e x) (g x) (Some hd))) p) (gr x).none_join at)

  pub its_joins : (n : ℕ) × Contains (joining e') (n, at_place (g x) (g x).o)
  its_joins = by (g x).holder
    where
      by : (q : Option Holder) → (n : ℕ) × Contains (joining (grown_by (e x) (g x) q)) (n, at_place (g x) (g x).o)
      by None =
          let rest = joined_in (ar.around (e x) (g x) None) in
          (0, subst (λ (o : Object). Contains (joining (grown_by (e x) (g x) None)) (0, o)) (its_turn x) (contains_here (0, regrown (e x) (g x) (g x).o) rest))
      by (Some hd) =
          let rest = joined_in (ar.around (e x) (g x) (Some hd)) in
          let now : ℕ × Object = ((g x).dir, regrown (e x) (g x) (g x).o) in (
            (g x).dir,
            subst (λ (o : Object). Contains (joining (grown_by (e x) (g x) (Some hd))) ((g x).dir, o)) (its_turn x)
                (Contains-append_right (e x).top_join (now ∷ rest) now (contains_here now rest)),
          )

  -- they lie apart in one identifier if they do without it, and it lies apart from them
  pub apart_joining : ApartInOne (objects (joining (e x)))
      → ((p : ℕ × Object) → Contains (joining (e x)) p → id_of p.1.entry.address ≡ id_of (g x).address → is_apart p.1.sectors (g x).sectors ≡ true) → ApartInOne (objects (joining e'))
  apart_joining pairs apart = by (g x).holder (gr x).amended_is
    where
      with_it : (q : Option Holder) → IsPermutation ((e x).amended ++ map (told (e x)) (g x).again) (amended_first q (g x).others)
          → ApartInOne (regrown (e x) (g x) (g x).o ∷ objects (joined_in (ar.around (e x) (g x) q)))
      with_it q cut =
          let second : ℕ × Object → Object = λ p. p.1 in
          let now = joined_in (ar.around (e x) (g x) q) in
          let was : ApartInOne (objects (joined_in (e x))) = subst (λ (ts : List (ℕ × Object)). ApartInOne (objects (ts ++ joined_in (e x)))) (gr x).none_join pairs in
          let same = apart_permuted (objects (joined_in (e x))) (objects now) (IsPermutation-sym (objects now) (objects (joined_in (e x))) (IsPermutation-map second now (joined_in (e x)) (ar.joined_same x q cut))) in
          subst (λ (o : Object). ApartInOne (o ∷ objects now)) (sym (its_turn x)) (
            λ p at id.
                (let r = from_map second (joined_in (e x)) p (same.0 p at) in
                turned p.sectors (g x).sectors
                (subst (λ (o : Object). is_apart o.sectors (g x).sectors ≡ true) r.2
                (apart r.0 (Contains-append_right (e x).top_join (joined_in (e x)) r.0 r.1) (ap (λ (o : Object). id_of o.entry.address) r.2 ∙ sym id)))),
            same.1 was,
          )

      by : (q : Option Holder) → IsPermutation ((e x).amended ++ map (told (e x)) (g x).again) (amended_first q (g x).others) → ApartInOne (objects (joining (grown_by (e x) (g x) q)))
      by None cut = with_it None cut
      by (Some hd) cut =
          subst (λ (ts : List (ℕ × Object)). ApartInOne (objects (ts ++ ((g x).dir, regrown (e x) (g x) (g x).o) ∷ joined_in (ar.around (e x) (g x) (Some hd))))) (sym (gr x).none_join)
          (with_it (Some hd) cut)

  -- who joins or leaves a directory without growth does so with it
  pub still_joins : (q : ℕ × Object) → Contains (joining (e x)) q → Contains (joining e') q
  still_joins p at = by (g x).holder (gr x).amended_is
    where
      in_joined : Contains (joined_in (e x)) p
      in_joined = subst (λ (ts : List (ℕ × Object)). Contains (ts ++ joined_in (e x)) p) (gr x).none_join at

      old : (q : Option Holder) → IsPermutation ((e x).amended ++ map (told (e x)) (g x).again) (amended_first q (g x).others) → Contains (joined_in (ar.around (e x) (g x) q)) p
      old q cut = in_first (joined_in (ar.around (e x) (g x) q)) (joined_in (e x)) (ar.joined_same x q cut) p in_joined

      by : (q : Option Holder) → IsPermutation ((e x).amended ++ map (told (e x)) (g x).again) (amended_first q (g x).others) → Contains (joining (grown_by (e x) (g x) q)) p
      by None cut = contains_later (0, regrown (e x) (g x) (g x).o) p (joined_in (ar.around (e x) (g x) None)) (old None cut)
      by (Some hd) cut =
          Contains-append_right (e x).top_join (((g x).dir, regrown (e x) (g x) (g x).o) ∷ joined_in (ar.around (e x) (g x) (Some hd))) p
          (contains_later ((g x).dir, regrown (e x) (g x) (g x).o) p (joined_in (ar.around (e x) (g x) (Some hd))) (old (Some hd) cut))

  pub still_leaves : (q : ℕ × Object) → Contains (leaving (e x)) q → Contains (leaving e') q
  still_leaves p at = by (g x).holder (gr x).amended_is
    where
      in_left : Contains (left_in (e x)) p
      in_left = subst (λ (ts : List (ℕ × Object)). Contains (ts ++ left_in (e x)) p) (gr x).none_leave at

      old : (q : Option Holder) → IsPermutation ((e x).amended ++ map (told (e x)) (g x).again) (amended_first q (g x).others) → Contains (left_in (ar.around (e x) (g x) q)) p
      old q cut = in_first (left_in (ar.around (e x) (g x) q)) (left_in (e x)) (ar.left_same x q cut) p in_left

      by : (q : Option Holder) → IsPermutation ((e x).amended ++ map (told (e x)) (g x).again) (amended_first q (g x).others) → Contains (leaving (grown_by (e x) (g x) q)) p
      by None cut = contains_later (0, (g x).o) p (left_in (ar.around (e x) (g x) None)) (old None cut)
      by (Some hd) cut =
          Contains-append_right (e x).top_leave (((g x).dir, (g x).o) ∷ left_in (ar.around (e x) (g x) (Some hd))) p
          (contains_later ((g x).dir, (g x).o) p (left_in (ar.around (e x) (g x) (Some hd))) (old (Some hd) cut))

  -- and who leaves with it does so without it, or is the directory
  pub leaves_either : (n : ℕ) → Contains (numbers (leaving e')) n → ((g x).dir ≡ n) ⊎ Contains (numbers (leaving (e x))) n
  leaves_either n at = by (g x).holder (gr x).amended_is (gr x).held at
    where
      number : ℕ × Object → ℕ
      number p = p.0

      old : (q : Option Holder) → IsPermutation ((e x).amended ++ map (told (e x)) (g x).again) (amended_first q (g x).others) → Contains (numbers (left_in (ar.around (e x) (g x) q))) n
          → Contains (numbers (leaving (e x))) n
      old q cut left =
          let now = left_in (ar.around (e x) (g x) q) in
          subst (λ (ts : List (ℕ × Object)). Contains (numbers (ts ++ left_in (e x))) n) (sym (gr x).none_leave)
          (in_other (numbers now) (numbers (left_in (e x))) (IsPermutation-map number now (left_in (e x)) (ar.left_same x q cut)) n left)

      by : (q : Option Holder) → IsPermutation ((e x).amended ++ map (told (e x)) (g x).again) (amended_first q (g x).others) → IsHeldBy (g x) q
          → Contains (numbers (leaving (grown_by (e x) (g x) q))) n → ((g x).dir ≡ n) ⊎ Contains (numbers (leaving (e x))) n
      by None cut at_top there =
          ⊎_elim (λ same. inl (root.zero_is x cut at_top ∙ same)) (λ later. inr (old None cut later)) (contains_cases 0 n (numbers (left_in (ar.around (e x) (g x) None))) there)
      by (Some hd) cut hs there =
          let rest = left_in (ar.around (e x) (g x) (Some hd)) in
          ⊎_elim (λ same. inl same) (λ later. inr (old (Some hd) cut later))
          (contains_cases (g x).dir n (numbers rest) (subst (λ (ts : List (ℕ × Object)). Contains (numbers (ts ++ ((g x).dir, (g x).o) ∷ rest)) n) (gr x).none_leave there))

  pub dir_leaves : Contains (numbers (leaving e')) (g x).dir
  dir_leaves = by (g x).holder (gr x).amended_is (gr x).held
    where
      by : (q : Option Holder) → IsPermutation ((e x).amended ++ map (told (e x)) (g x).again) (amended_first q (g x).others) → IsHeldBy (g x) q
          → Contains (numbers (leaving (grown_by (e x) (g x) q))) (g x).dir
      by None cut at_top = subst (Contains (numbers (leaving (grown_by (e x) (g x) None)))) (sym (root.zero_is x cut at_top)) (contains_here 0 (numbers (left_in (ar.around (e x) (g x) None))))
      by (Some hd) cut hs =
          let its : ℕ × Object = ((g x).dir, (g x).o) in
          let rest = left_in (ar.around (e x) (g x) (Some hd)) in
          in_map (λ (p : ℕ × Object). p.0) ((e x).top_leave ++ its ∷ rest) its (Contains-append_right (e x).top_leave (its ∷ rest) its (contains_here its rest))

  -- without growth the directory doesn't leave
  pub dir_stays : Contains (numbers (leaving (e x))) (g x).dir → ⊥
  dir_stays at = by (g x).holder (gr x).amended_is (gr x).held (gr x).says
    where
      by : (q : Option Holder) → IsPermutation ((e x).amended ++ map (told (e x)) (g x).again) (amended_first q (g x).others) → IsHeldBy (g x) q
          → ((b : Amended) → Contains (grown_by (e x) (g x) q).amended b → CanSay (layout x) (regrown (e x) (g x) b.was.object) b.content) → ⊥
      by None cut at_top says =
          let left = subst (λ (ts : List (ℕ × Object)). Contains (numbers (ts ++ left_in (e x))) (g x).dir) (gr x).none_leave at in
          n_.left_lower (ne x) (g x).dir left (root.zero_is x cut at_top)
      by (Some hd) cut hs says = below.away x hd cut hs says (ar.still_leaves x (Some hd) cut (g x).dir at)

  -- who stays with growth stays without it, and isn't the directory
  pub stayed : (p : Object) → Stays (nodes x) (listings x) e' p → Stays (nodes x) (listings x) (e x) p
  stayed p s = record {
    among = s.among;
    number = s.number;
    number_is = s.number_is;
    stays = λ at.
        (let q = from_map (λ (r : ℕ × Object). r.0) (leaving (e x)) s.number at in
        s.stays (subst (Contains (numbers (leaving e'))) q.2 (in_map (λ (r : ℕ × Object). r.0) (leaving e') q.0 (still_leaves q.0 q.1))));
  }

  pub stays_other : (p : Object) → (s : Stays (nodes x) (listings x) e' p) → s.number ≡ (g x).dir → ⊥
  stays_other p s same = s.stays (subst (Contains (numbers (leaving e'))) (sym same) dir_leaves)
