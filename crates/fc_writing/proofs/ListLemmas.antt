-- Lists of things that are written one after another, each into its own sectors.
use Rattle.std.proofs.Common.{◌≡◌, ◌<◌, ℕ, zero, suc, ◌+◌, true, false, List, [], ◌∷◌, ◌++◌, length, get_or, take, drop, refl, sym, ap, ap₂, subst, ◌∙◌, arith, All}
use Rattle.std.specs.Prelude.{Contains}
use Rattle.std.specs.List.{flat_map}
use Rattle.std.proofs.lemmas.List.{append-nil, take_more}
use Rattle.std.proofs.lemmas.List.Elements.{All-get_or, All-head, All-tail, Contains-append_left, Contains-append_right}
use Rattle.fc_device.specs.Sectors.{sector_at}
use Rattle.fc_newmap.proofs.PlaceLemmas.{in_back, in_front}
use Rattle.fc_objects.specs.Written.{AreApart, part_at}
use Rattle.fc_image.specs.Layout.{is_among, is_apart}
use Rattle.fc_image.proofs.HolesLemmas.{apart_at, apart_from}
use Rattle.fc_image.proofs.ShuffleLemmas.{flat_map-append}
use Rattle.fc_writing.specs.declared.ready.Piece.{Piece}
use Rattle.fc_writing.specs.declared.ready.Transfer.{Transfer}
use Rattle.fc_writing.specs.Content.{Content, HasContent, IsPart, content_sectors}
use Rattle.fc_writing.specs.Ready.{IsEnough, carried_by, content_of, from_of, place_of, to_of}
use Rattle.fc_writing.proofs.ContentLemmas.{all_back, all_front, apart_back, apart_between, apart_front, clash, content_append, copied_same, has_both, has_stays, numbered_sectors, out_left, part_on, part_outside, part_wider}

cut : {X : Type 0} (xs : List X) (i : ℕ) (x : X) → i < length xs → x ≡ get_or xs i x → xs ≡ take i xs ++ (x ∷ drop (i + 1) xs)
cut [] i x low is = absurd (omega (arith, low))
cut (y ∷ xs) zero x low is = ap (λ (z : _). z ∷ xs) (sym is)
cut (y ∷ xs) (suc i) x low is =
    ap (λ (zs : List _). y ∷ zs) (cut xs i x (omega (arith, low)) is ∙ (let e : suc (i + 1) ≡ suc i + 1 = omega arith in ap (λ (n : ℕ). take i xs ++ (x ∷ drop n (y ∷ xs))) e))

module _ {X A : Type 0} (f : X → List A) (xs : List X) (i : ℕ) (x : X) (low : i < length xs) (is : x ≡ get_or xs i x) where
  pub flat_cut : flat_map f xs ≡ flat_map f (take i xs) ++ (f x ++ flat_map f (drop (i + 1) xs))
  flat_cut = ap (flat_map f) (cut xs i x low is) ∙ flat_map-append f (take i xs) (x ∷ drop (i + 1) xs)

  pub flat_more : flat_map f (take (i + 1) xs) ≡ flat_map f (take i xs) ++ f x
  flat_more =
      ap (flat_map f) (take_more xs i x low ∙ ap (λ (y : X). take i xs ++ y ∷ []) (sym is)) ∙ flat_map-append f (take i xs) (x ∷ [])
      ∙ ap (λ (ys : List A). flat_map f (take i xs) ++ ys) (append-nil (f x))

  pub flat_has : (a : A) → Contains (f x) a → Contains (flat_map f xs) a
  flat_has a there =
      subst (λ (ys : List A). Contains ys a) (sym flat_cut)
      (Contains-append_right (flat_map f (take i xs)) (f x ++ flat_map f (drop (i + 1) xs)) a (Contains-append_left (f x) (flat_map f (drop (i + 1) xs)) a there))

module _ {X : Type 0} (place : X → List ℕ) (xs : List X) (i : ℕ) (x : X) (low : i < length xs) (is : x ≡ get_or xs i x) where
  abbrev front : List ℕ
  front = flat_map place (take i xs)

  abbrev rest : List ℕ
  rest = flat_map place (drop (i + 1) xs)

  pub all_one : (P : ℕ → Type 0) → All P (flat_map place xs) → All P (place x)
  all_one P all = all_front P (place x) rest (all_back P front (place x ++ rest) (subst (λ (ss : List ℕ). All P ss) (flat_cut place xs i x low is) all))

  pub once_one : AreApart (flat_map place xs) → AreApart (place x)
  once_one once = apart_front (place x) rest (apart_back front (place x ++ rest) (subst AreApart (flat_cut place xs i x low is) once))

  pub among_one : (s : ℕ) → is_among (place x) s ≡ true → is_among (flat_map place xs) s ≡ true
  among_one s e = subst (λ (ss : List ℕ). is_among ss s ≡ true) (sym (flat_cut place xs i x low is)) (in_back front (place x ++ rest) s (in_front (place x) rest s e))

  -- those before it are others
  before_one : AreApart (flat_map place xs) → (s : ℕ) → is_among front s ≡ true → is_among (place x) s ≡ false
  before_one once s e = out_left (place x) rest s (apart_between front (place x ++ rest) (subst AreApart (flat_cut place xs i x low is) once) s e)

  module _ (content : X → Content) (sectors_are : (y : X) → content_sectors (content y) ≡ place y) where
    flat_sectors : (ys : List X) → content_sectors (flat_map content ys) ≡ flat_map place ys
    flat_sectors [] = refl
    flat_sectors (y ∷ ys) = content_append (content y) (flat_map content ys) ∙ ap₂ (λ (a b : List ℕ). a ++ b) (sectors_are y) (flat_sectors ys)

    -- one more is written
    pub has_more : (size : ℕ) (mid image : List ℕ) → AreApart (flat_map place xs) → HasContent size (flat_map content (take i xs)) mid → IsPart size [] (content x) mid image → HasContent size (content x) image
        → HasContent size (flat_map content (take (i + 1) xs)) image
    has_more size mid image once had part has =
        subst (λ (c : Content). HasContent size c image) (sym (flat_more content xs i x low is))
        (has_both size (flat_map content (take i xs)) (content x) image
        (has_stays size [] (flat_map content (take i xs)) (content x) mid image had part
        (λ s e. (refl, subst (λ (ss : List ℕ). is_among ss s ≡ false) (sym (sectors_are x)) (before_one once s (subst (λ (ss : List ℕ). is_among ss s ≡ true) (flat_sectors (take i xs)) e)))))
        has)

pub piece_sectors : (size : ℕ) (p : Piece) → content_sectors (content_of size p) ≡ place_of p
piece_sectors size p = numbered_sectors (part_at size p.bytes.items) 0 (place_of p)

pub carried_sectors : (size : ℕ) (was : List ℕ) (t : Transfer) → content_sectors (carried_by size was t) ≡ to_of t
carried_sectors size was t = numbered_sectors (λ i. sector_at size was (get_or (from_of t) i 0)) 0 (to_of t)

pub flat_pieces : (size : ℕ) (ps : List Piece) → content_sectors (flat_map (content_of size) ps) ≡ flat_map place_of ps
flat_pieces size [] = refl
flat_pieces size (p ∷ ps) = content_append (content_of size p) (flat_map (content_of size) ps) ∙ ap₂ (λ (a b : List ℕ). a ++ b) (piece_sectors size p) (flat_pieces size ps)

pub flat_carried : (size : ℕ) (was : List ℕ) (ts : List Transfer) → content_sectors (flat_map (carried_by size was) ts) ≡ flat_map to_of ts
flat_carried size was [] = refl
flat_carried size was (t ∷ ts) = content_append (carried_by size was t) (flat_map (carried_by size was) ts) ∙ ap₂ (λ (a b : List ℕ). a ++ b) (carried_sectors size was t) (flat_carried size was ts)

-- what is carried is the same if the sectors that are copied are
pub carried_same : (size : ℕ) (was mid : List ℕ) (t : Transfer) → IsEnough t → ((s : ℕ) → is_among (from_of t) s ≡ true → sector_at size mid s ≡ sector_at size was s) → carried_by size mid t ≡ carried_by size was t
carried_same size was mid t enough same = copied_same size was mid (from_of t) (to_of t) enough same

pub all_carried : (size : ℕ) (was mid : List ℕ) (ts : List Transfer) → All IsEnough ts → ((s : ℕ) → is_among (flat_map from_of ts) s ≡ true → sector_at size mid s ≡ sector_at size was s)
    → flat_map (carried_by size mid) ts ≡ flat_map (carried_by size was) ts
all_carried size was mid [] enough same = refl
all_carried size was mid (t ∷ ts) enough same =
    ap₂ (λ (a b : Content). a ++ b) (carried_same size was mid t (All-head IsEnough t ts enough) (λ s e. same s (in_front (from_of t) (flat_map from_of ts) s e)))
    (all_carried size was mid ts (All-tail IsEnough t ts enough) (λ s e. same s (in_back (from_of t) (flat_map from_of ts) s e)))

-- nothing is copied from what is written
pub others_one : (ts : List Transfer) (i : ℕ) (t : Transfer) → i < length ts → t ≡ get_or ts i t → is_apart (flat_map from_of ts) (flat_map to_of ts) ≡ true → is_apart (from_of t) (to_of t) ≡ true
others_one ts i t low is apart =
    apart_from (from_of t) (to_of t)
    (λ s from to. clash (is_among (flat_map to_of ts) s) (among_one to_of ts i t low is s to) (apart_at (flat_map from_of ts) (flat_map to_of ts) s apart (among_one from_of ts i t low is s from)))

module _ (size : ℕ) (ts : List Transfer) (i : ℕ) (t : Transfer) (low : i < length ts) (is : t ≡ get_or ts i t) where
  pub enough_one : All IsEnough ts → IsEnough t
  enough_one all = subst IsEnough (sym is) (All-get_or IsEnough ts i t low all)

  module _ (others : is_apart (flat_map from_of ts) (flat_map to_of ts) ≡ true) (enough : All IsEnough ts) (was there : List ℕ) (first : IsPart size [] (flat_map (carried_by size was) ts) was there) where
    -- what it carries is what was there at first
    pub carried_now : carried_by size there t ≡ carried_by size was t
    carried_now =
        carried_same size was there t (enough_one enough)
        (λ s e. part_outside size [] (flat_map (carried_by size was) ts) was there first s refl
        (subst (λ (ss : List ℕ). is_among ss s ≡ false) (sym (flat_carried size was ts)) (apart_at (flat_map from_of ts) (flat_map to_of ts) s others (among_one from_of ts i t low is s e))))

    -- one more is partly carried
    pub one_carried : (image : List ℕ) → IsPart size [] (carried_by size there t) there image → IsPart size [] (flat_map (carried_by size was) ts) was image
    one_carried image then =
        part_on size [] (flat_map (carried_by size was) ts) was there image first
        (part_wider size [] [] (carried_by size was t) (flat_map (carried_by size was) ts) there image (λ s out. out) (flat_has (carried_by size was) ts i t low is)
        (subst (λ (x : Content). IsPart size [] x there image) carried_now then))
