-- What is written into sectors, one thing after another.
use Rattle.std.proofs.Common.{◌≡◌, ◌<◌, ◌≤◌, inl, inr, ⊎_elim, ℕ, zero, suc, ◌+◌, Bool, true, false, List, [], ◌∷◌, ◌++◌, length, get_or, min, Ok, Err, Some, refl, sym, ap, ap₂, subst, ◌∙◌, arith, eq-eqb, All}
use Rattle.std.specs.Prelude.{◌==◌, ◌||◌, Contains}
use Rattle.std.proofs.lemmas.Bool.{eqb-true, false_from_ne_true}
use Rattle.std.proofs.lemmas.List.{get_or-append-add, get_or_append_left, length-append, map-append}
use Rattle.std.proofs.lemmas.List.Elements.{Contains-append_cases, Contains-append_left, Contains-append_right}
use Rattle.fc_device.specs.declared.disk.Extent.{Extent}
use Rattle.fc_device.specs.Sectors.{sector_at}
use Rattle.fc_newmap.proofs.PlaceLemmas.{contains_cases, contains_none, in_back, in_front}
use Rattle.fc_objects.specs.Copied.{AreFirstCopied, IsPartCopied}
use Rattle.fc_objects.specs.Extents.{sectors_in}
use Rattle.fc_objects.specs.Written.{AreApart, HasParts, IsPartWritten, part_at}
use Rattle.fc_image.specs.Layout.{is_among}
use Rattle.fc_writing.specs.Content.{Content, HasContent, IsPart, content_sectors, copied, numbered, stored}
use Rattle.fc_zone.proofs.ZoneLemmas.{Contains-head as contains_here, Contains-tail as contains_later}
use Rattle.fc_device.proofs.StopLemmas.{one_told}

pub clash : (b : Bool) → b ≡ true → b ≡ false → ⊥
clash b is not = cc

-- ---- lists of sectors

pub among_get : (xs : List ℕ) (i : ℕ) → i < length xs → is_among xs (get_or xs i 0) ≡ true
among_get [] i low = absurd (omega (arith, low))
among_get (x ∷ xs) zero low = ap (λ b. b || is_among xs x) (eq-eqb x x refl)
among_get (x ∷ xs) (suc i) low = by (x == get_or xs i 0) (among_get xs i (omega (arith, low)))
  where
    by : (b : Bool) → is_among xs (get_or xs i 0) ≡ true → (b || is_among xs (get_or xs i 0)) ≡ true
    by true h = refl
    by false h = h

-- where it stands
pub among_at : (xs : List ℕ) (s : ℕ) → is_among xs s ≡ true → (i : ℕ) × (i < length xs) × (get_or xs i 0 ≡ s)
among_at [] s e = cc
among_at (x ∷ xs) s e = by (x == s) refl (among_at xs s)
  where
    by : (b : Bool) → (x == s) ≡ b → (is_among xs s ≡ true → (i : ℕ) × (i < length xs) × (get_or xs i 0 ≡ s)) → (i : ℕ) × (i < length (x ∷ xs)) × (get_or (x ∷ xs) i 0 ≡ s)
    by true is later = (0, omega arith, eqb-true x s is)
    by false is later = let there = later (ap (λ b. b || is_among xs s) (sym is) ∙ e) in (suc there.0, omega (arith, there.1), there.2)

module _ (xs ys : List ℕ) (once : AreApart (xs ++ ys)) where
  left_at : (i : ℕ) → i < length xs → get_or (xs ++ ys) i 0 ≡ get_or xs i 0
  left_at i low = get_or_append_left xs ys 0 i low

  right_at : (j : ℕ) → get_or (xs ++ ys) (length xs + j) 0 ≡ get_or ys j 0
  right_at j = get_or-append-add xs ys j 0

  long : length (xs ++ ys) ≡ length xs + length ys
  long = length-append xs ys

  pub apart_front : AreApart xs
  apart_front i j before high same =
      once i j before (omega (arith, high, long)) (left_at i (omega (arith, before, high)) ∙ same ∙ sym (left_at j high))

  pub apart_back : AreApart ys
  apart_back i j before high same =
      once (length xs + i) (length xs + j) (omega (arith, before)) (omega (arith, high, long)) (right_at i ∙ same ∙ sym (right_at j))

  -- what is in the one isn't in the other
  pub apart_between : (s : ℕ) → is_among xs s ≡ true → is_among ys s ≡ false
  apart_between s here = false_from_ne_true (is_among ys s) (λ there.
      let a = among_at xs s here in
      let b = among_at ys s there in
      once a.0 (length xs + b.0) (omega (arith, a.1)) (omega (arith, b.1, long)) (left_at a.0 a.1 ∙ a.2 ∙ sym b.2 ∙ sym (right_at b.0)))

pub out_left : (xs ys : List ℕ) (s : ℕ) → is_among (xs ++ ys) s ≡ false → is_among xs s ≡ false
out_left xs ys s out = false_from_ne_true (is_among xs s) (λ e. clash (is_among (xs ++ ys) s) (in_front xs ys s e) out)

pub out_right : (xs ys : List ℕ) (s : ℕ) → is_among (xs ++ ys) s ≡ false → is_among ys s ≡ false
out_right xs ys s out = false_from_ne_true (is_among ys s) (λ e. clash (is_among (xs ++ ys) s) (in_back xs ys s e) out)

-- facts about all of two lists
module _ (P : ℕ → Type 0) (xs ys : List ℕ) (all : All P (xs ++ ys)) where
  pub all_front : All P xs
  all_front k d low = subst P (get_or_append_left xs ys d k low) (all k d (let n = length-append xs ys in omega (arith, low, n)))

  pub all_back : All P ys
  all_back k d low = subst P (get_or-append-add xs ys k d) (all (length xs + k) d (let n = length-append xs ys in omega (arith, low, n)))

-- ---- sectors with their bytes

pub numbered_at : (f : ℕ → List ℕ) (k : ℕ) (sectors : List ℕ) (i : ℕ) → i < length sectors → Contains (numbered f k sectors) (get_or sectors i 0, f (k + i))
numbered_at f k [] i low = absurd (omega (arith, low))
numbered_at f k (s ∷ sectors) zero low =
    subst (λ (n : ℕ). Contains ((s, f k) ∷ numbered f (k + 1) sectors) (s, f n)) (let e : k ≡ k + 0 = omega arith in e) (contains_here (s, f k) (numbered f (k + 1) sectors))
numbered_at f k (s ∷ sectors) (suc i) low =
    contains_later (s, f k) (numbered f (k + 1) sectors) (get_or sectors i 0, f (k + suc i))
    (subst (λ (n : ℕ). Contains (numbered f (k + 1) sectors) (get_or sectors i 0, f n)) (let e : k + 1 + i ≡ k + suc i = omega arith in e) (numbered_at f (k + 1) sectors i (omega (arith, low))))

pub numbered_each : (f : ℕ → List ℕ) (k : ℕ) (sectors : List ℕ) (w : ℕ × List ℕ) → Contains (numbered f k sectors) w → (i : ℕ) × (i < length sectors) × (get_or sectors i 0 ≡ w.0) × (f (k + i) ≡ w.1)
numbered_each f k [] w there = absurd (contains_none w there)
numbered_each f k (s ∷ sectors) w there = elim (contains_cases (s, f k) (numbered f (k + 1) sectors) w there) [
  | Ok same ↦ (0, omega arith, ap (λ (p : ℕ × List ℕ). p.0) same, (let e : k + 0 ≡ k = omega arith in ap f e) ∙ ap (λ (p : ℕ × List ℕ). p.1) same)
  | Err later ↦
      let at = numbered_each f (k + 1) sectors w later in
      (suc at.0, omega (arith, at.1), at.2, (let e : k + suc at.0 ≡ k + 1 + at.0 = omega arith in ap f e) ∙ at.3)
]

-- numbered from 0
pub numbered_here : (f : ℕ → List ℕ) (sectors : List ℕ) (i : ℕ) → i < length sectors → Contains (numbered f 0 sectors) (get_or sectors i 0, f i)
numbered_here f sectors i low = subst (λ (n : ℕ). Contains (numbered f 0 sectors) (get_or sectors i 0, f n)) (let e : 0 + i ≡ i = omega arith in e) (numbered_at f 0 sectors i low)

pub numbered_is : (f : ℕ → List ℕ) (sectors : List ℕ) (w : ℕ × List ℕ) → Contains (numbered f 0 sectors) w → (i : ℕ) × (i < length sectors) × (get_or sectors i 0 ≡ w.0) × (f i ≡ w.1)
numbered_is f sectors w there =
    let at = numbered_each f 0 sectors w there in
    (at.0, at.1, at.2, (let e : at.0 ≡ 0 + at.0 = omega arith in ap f e) ∙ at.3)

pub numbered_sectors : (f : ℕ → List ℕ) (k : ℕ) (sectors : List ℕ) → content_sectors (numbered f k sectors) ≡ sectors
numbered_sectors f k [] = refl
numbered_sectors f k (s ∷ sectors) = ap (λ (ss : List ℕ). s ∷ ss) (numbered_sectors f (k + 1) sectors)

pub numbered_same : (f h : ℕ → List ℕ) (k : ℕ) (sectors : List ℕ) → ((i : ℕ) → i < length sectors → f (k + i) ≡ h (k + i)) → numbered f k sectors ≡ numbered h k sectors
numbered_same f h k [] same = refl
numbered_same f h k (s ∷ sectors) same =
    let first : f k ≡ h k = let e : k ≡ k + 0 = omega arith in ap f e ∙ same 0 (omega arith) ∙ ap h (sym e) in
    ap₂ (λ (x : List ℕ) (c : Content). (s, x) ∷ c) first
    (numbered_same f h (k + 1) sectors (λ i low. let e : k + 1 + i ≡ k + suc i = omega arith in ap f e ∙ same (suc i) (omega (arith, low)) ∙ ap h (sym e)))

-- what is copied is the same if those sectors are
pub copied_same : (size : ℕ) (was mid from to : List ℕ) → length to ≤ length from → ((s : ℕ) → is_among from s ≡ true → sector_at size mid s ≡ sector_at size was s) → copied size mid from to ≡ copied size was from to
copied_same size was mid from to enough same =
    numbered_same (λ i. sector_at size mid (get_or from i 0)) (λ i. sector_at size was (get_or from i 0)) 0 to
    (λ i low. same (get_or from (0 + i) 0) (among_get from (0 + i) (omega (arith, low, enough))))

-- ---- contents

-- a sector of it
pub content_among : (c : Content) (w : ℕ × List ℕ) → Contains c w → is_among (content_sectors c) w.0 ≡ true
content_among [] w there = absurd (contains_none w there)
content_among (p ∷ c) w there = elim (contains_cases p c w there) [
  | Ok same ↦ ap (λ b. b || is_among (content_sectors c) w.0) (eq-eqb p.0 w.0 (ap (λ (q : ℕ × List ℕ). q.0) same))
  | Err later ↦ in_back (p.0 ∷ []) (content_sectors c) w.0 (content_among c w later)
]

pub content_append : (c d : Content) → content_sectors (c ++ d) ≡ content_sectors c ++ content_sectors d
content_append c d = map-append (λ (w : ℕ × List ℕ). w.0) c d

pub has_none : (size : ℕ) (image : List ℕ) → HasContent size [] image
has_none size image w there = absurd (contains_none w there)

pub has_both : (size : ℕ) (c d : Content) (image : List ℕ) → HasContent size c image → HasContent size d image → HasContent size (c ++ d) image
has_both size c d image one two w there = ⊎_elim (one w) (two w) (Contains-append_cases c d w there)

-- one after the other
pub part_then : (size : ℕ) (mapped : List ℕ) (c d : Content) (a b e : List ℕ) → IsPart size mapped c a b → IsPart size mapped d b e → IsPart size mapped (c ++ d) a e
part_then size mapped c d a b e first second = record {
  length_stays = second.length_stays ∙ first.length_stays;
  each = λ s out. elim (second.each s out) [
    | inl same ↦ ⊎_elim (λ before. inl (same ∙ before))
        (λ there. inr (Contains-append_left c d (s, sector_at size e s) (subst (λ (x : List ℕ). Contains c (s, x)) (sym same) there))) (first.each s out)
    | inr there ↦ inr (Contains-append_right c d (s, sector_at size e s) there)
  ];
}

-- more may be written, and more belong to the map
pub part_wider : (size : ℕ) (mapped wide : List ℕ) (c d : Content) (was image : List ℕ) → ((s : ℕ) → is_among wide s ≡ false → is_among mapped s ≡ false) → ((w : ℕ × List ℕ) → Contains c w → Contains d w)
    → IsPart size mapped c was image → IsPart size wide d was image
part_wider size mapped wide c d was image outside within part = record {
  length_stays = part.length_stays;
  each = λ s out. ⊎_elim (λ same. inl same) (λ there. inr (within (s, sector_at size image s) there)) (part.each s (outside s out));
}

-- within one content
pub part_on : (size : ℕ) (mapped : List ℕ) (c : Content) (a b e : List ℕ) → IsPart size mapped c a b → IsPart size mapped c b e → IsPart size mapped c a e
part_on size mapped c a b e first second = record {
  length_stays = second.length_stays ∙ first.length_stays;
  each = λ s out. elim (second.each s out) [
    | inl same ↦ ⊎_elim (λ before. inl (same ∙ before)) (λ there. inr (subst (λ (x : List ℕ). Contains c (s, x)) (sym same) there)) (first.each s out)
    | inr there ↦ inr there
  ];
}

-- what is neither the map's nor the content's stays
pub part_outside : (size : ℕ) (mapped : List ℕ) (c : Content) (was image : List ℕ) → IsPart size mapped c was image → (s : ℕ) → is_among mapped s ≡ false → is_among (content_sectors c) s ≡ false
    → sector_at size image s ≡ sector_at size was s
part_outside size mapped c was image part s out none = elim (part.each s out) [
  | inl same ↦ same
  | inr there ↦ absurd (clash (is_among (content_sectors c) s) (content_among c (s, sector_at size image s) there) none)
]

-- what was written stays if other sectors are written
pub has_stays : (size : ℕ) (mapped : List ℕ) (c d : Content) (mid image : List ℕ) → HasContent size c mid → IsPart size mapped d mid image
    → ((s : ℕ) → is_among (content_sectors c) s ≡ true → (is_among mapped s ≡ false) × (is_among (content_sectors d) s ≡ false)) → HasContent size c image
has_stays size mapped c d mid image has part apart w there =
    let out = apart w.0 (content_among c w there) in
    part_outside size mapped d mid image part w.0 out.0 out.1 ∙ has w there

-- ---- what the writers of objects leave

pub part_written : (size : ℕ) (sectors bytes was image : List ℕ) → IsPartWritten size sectors bytes was image → IsPart size [] (stored size sectors bytes) was image
part_written size sectors bytes was image part = record {
  length_stays = part.length_stays;
  each = λ s out. elim (part.each s) [
    | inl same ↦ inl same
    | inr new ↦ inr (subst (λ (t : ℕ). Contains (stored size sectors bytes) (t, sector_at size image s)) new.2
        (subst (λ (x : List ℕ). Contains (stored size sectors bytes) (get_or sectors new.0 0, x)) (sym new.3) (numbered_here (part_at size bytes) sectors new.0 new.1)))
  ];
}

pub has_written : (size : ℕ) (sectors bytes image : List ℕ) → HasParts size sectors bytes image → HasContent size (stored size sectors bytes) image
has_written size sectors bytes image parts w there =
    let at = numbered_is (part_at size bytes) sectors w there in
    ap (sector_at size image) (sym at.2) ∙ parts at.0 at.1 ∙ at.3

pub part_copied : (size : ℕ) (from to was image : List ℕ) → IsPartCopied size from to was image → IsPart size [] (copied size was from to) was image
part_copied size from to was image part = record {
  length_stays = part.length_stays;
  each = λ s out. elim (part.each s) [
    | inl same ↦ inl same
    | inr new ↦ inr (subst (λ (t : ℕ). Contains (copied size was from to) (t, sector_at size image s)) new.3
        (subst (λ (x : List ℕ). Contains (copied size was from to) (get_or to new.0 0, x)) (sym new.4) (numbered_here (λ i. sector_at size was (get_or from i 0)) to new.0 new.2)))
  ];
}

pub has_copied : (size : ℕ) (from to was image : List ℕ) → ((i : ℕ) → i < length to → sector_at size image (get_or to i 0) ≡ sector_at size was (get_or from i 0)) → HasContent size (copied size was from to) image
has_copied size from to was image each w there =
    let at = numbered_is (λ i. sector_at size was (get_or from i 0)) to w there in
    ap (sector_at size image) (sym at.2) ∙ each at.0 at.1 ∙ at.3

-- the sectors of two objects, each given twice, once as it was lent
abbrev pub LeavesCopied : ℕ → List Extent → List Extent → List ℕ → List ℕ → Type 0
LeavesCopied size from to was image = AreApart (sectors_in to) → AreFirstCopied size (min (length (sectors_in from)) (length (sectors_in to))) (sectors_in from) (sectors_in to) was image

module _ (size size' : ℕ) (from from' to to' : List Extent) (was image : List ℕ) (size_is : size' ≡ size) (from_is : from' ≡ from) (to_is : to' ≡ to) where
  pub part_lent : IsPartCopied size' (sectors_in from') (sectors_in to') was image → IsPart size [] (copied size was (sectors_in from) (sectors_in to)) was image
  part_lent part =
      part_copied size (sectors_in from) (sectors_in to) was image
      (subst (λ (k : ℕ). IsPartCopied k (sectors_in from) (sectors_in to) was image) size_is
      (subst (λ (es : List Extent). IsPartCopied size' (sectors_in from) (sectors_in es) was image) to_is
      (subst (λ (es : List Extent). IsPartCopied size' (sectors_in es) (sectors_in to') was image) from_is part)))

  pub has_lent : length (sectors_in to) ≤ length (sectors_in from) → AreApart (sectors_in to) → LeavesCopied size' from' to' was image → HasContent size (copied size was (sectors_in from) (sectors_in to)) image
  has_lent enough once leaves =
      let now : LeavesCopied size from to was image =
      subst (λ (k : ℕ). LeavesCopied k from to was image) size_is (subst (λ (es : List Extent). LeavesCopied size' from es was image) to_is (subst (λ (es : List Extent). LeavesCopied size' es to' was image) from_is leaves)) in
      has_copied size (sectors_in from) (sectors_in to) was image (λ i low. now once i (omega (arith, low, enough)))

-- the place and the bytes of a piece, each given twice, once as it was lent
module _ (size : ℕ) (place place' : List Extent) (bytes bytes' : List ℕ) where
  pub part_stored : (was image : List ℕ) → place' ≡ place → bytes' ≡ bytes → IsPart size [] (stored size (sectors_in place') bytes') was image → IsPart size [] (stored size (sectors_in place) bytes) was image
  part_stored was image place_is bytes_is part =
      subst (λ (bs : List ℕ). IsPart size [] (stored size (sectors_in place) bs) was image) bytes_is (subst (λ (es : List Extent). IsPart size [] (stored size (sectors_in es) bytes') was image) place_is part)

  pub has_stored : (image : List ℕ) → place' ≡ place → bytes' ≡ bytes → AreApart (sectors_in place) → (AreApart (sectors_in place') → HasContent size (stored size (sectors_in place') bytes') image)
      → HasContent size (stored size (sectors_in place) bytes) image
  has_stored image place_is bytes_is once has =
      subst (λ (bs : List ℕ). HasContent size (stored size (sectors_in place) bs) image) bytes_is
      (subst (λ (es : List Extent). AreApart (sectors_in es) → HasContent size (stored size (sectors_in es) bytes') image) place_is has once)
