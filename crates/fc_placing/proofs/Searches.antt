-- The first number of a row that passes a test.
use Rattle.std.proofs.Common.{◌≡◌, ◌<◌, ◌&&◌, ◌≤◌, ℕ, zero, suc, ◌+◌, ◌-◌, Bool, true, false, cond, List, [], ◌∷◌, ◌++◌, length, map, Option, Some, None, inl, inr, refl, sym, subst, ap, ap₂, ◌∙◌, arith}
use Rattle.std.specs.Prelude.{nat_le, nat_lt}
use Rattle.std.specs.List.{find, list_all, range_with_len}
use Rattle.std.specs.Option.{option_map}
use Rattle.std.proofs.lemmas.Bool.{cases_eq, cases_lt, le-leb, leb-false, leb-true, lt-ltb, ltb-true}
use Rattle.fc_alloc.specs.declared.owner.Owner.{Owner}
use Rattle.fc_record.specs.Record.{id_limit}
use Rattle.fc_newmap.specs.Map.{Map}
use Rattle.fc_image.specs.Layout.{id_sectors, low_start}
use Rattle.fc_placing.specs.Lows.{IsLow, has_room, is_clear}
use Rattle.fc_placing.specs.Slack.{has_shares, is_good, is_room, least_low, leaves_free, low_with_room, may_share, shares_from}
use Rattle.fc_placing.proofs.LowLemmas.{later_start, not_le}
use Rattle.fc_changes.proofs.BasicLemmas.{and_false}
use Rattle.fc_newmap.proofs.IdLemmas.{range_cons}
use Rattle.fc_record.proofs.KindLemmas.{and_second as second}

-- ---- shares

abbrev pub Share : Type 0
Share = ℕ × ℕ

abbrev pub with_low : ℕ → ℕ → Share
with_low id low = (id, low)

-- what is found first in one list, or else in another
abbrev pub or_else : Option Share → Option Share → Option Share
or_else None later = later
or_else (Some s) later = Some s

pub find_both : (p : Share → Bool) (xs ys : List Share) → find p (xs ++ ys) ≡ or_else (find p xs) (find p ys)
find_both p [] ys = refl
find_both p (x ∷ xs) ys = by (p x) (find_both p xs ys)
  where
    by : (b : Bool) → find p (xs ++ ys) ≡ or_else (find p xs) (find p ys) → cond b (Some x) (find p (xs ++ ys)) ≡ or_else (cond b (Some x) (find p xs)) (find p ys)
    by true h = refl
    by false h = h

pub find_lows : (t : Bool) (q : ℕ → Bool) (id : ℕ) (lows : List ℕ) → find (λ (s : Share). t && q s.1) (map (with_low id) lows) ≡ option_map (with_low id) (cond t (find q lows) None)
find_lows true q id [] = refl
find_lows false q id [] = refl
find_lows true q id (low ∷ lows) = by (q low) (find_lows true q id lows)
  where
    by : (b : Bool) → find (λ (s : Share). true && q s.1) (map (with_low id) lows) ≡ option_map (with_low id) (find q lows)
        → cond b (Some (with_low id low)) (find (λ (s : Share). true && q s.1) (map (with_low id) lows)) ≡ option_map (with_low id) (cond b (Some low) (find q lows))
    by true h = refl
    by false h = h
find_lows false q id (low ∷ lows) = find_lows false q id lows

-- the shares of one identifier
pub find_share : (m : Map) (owners : List Owner) (dir need id : ℕ) → find (is_good m owners dir need) (map (with_low id) (range_with_len 1 255)) ≡ option_map (with_low id) (cond (may_share owners dir id) (low_with_room m owners id need) None)
find_share m owners dir need id = lows (range_with_len 1 255) ∙ find_lows (may_share owners dir id) (is_room m owners id need) id (range_with_len 1 255)
  where
    lows : (ls : List ℕ) → find (is_good m owners dir need) (map (with_low id) ls) ≡ find (λ (s : Share). may_share owners dir id && is_room m owners id need s.1) (map (with_low id) ls)
    lows [] = refl
    lows (l ∷ ls) = ap (λ (o : Option Share). cond (may_share owners dir id && is_room m owners id need l) (Some (with_low id l)) o) (lows ls)

pub share_hit : (m : Map) (owners : List Owner) (dir need id n low : ℕ) → 0 < n → cond (may_share owners dir id) (low_with_room m owners id need) None ≡ Some low
    → find (is_good m owners dir need) (shares_from id n) ≡ Some (id, low)
share_hit m owners dir need id zero low some e = absurd (omega arith)
share_hit m owners dir need id (suc n) low some e =
    ap (find (is_good m owners dir need)) (shares_cons id n)
    ∙ find_both (is_good m owners dir need) (map (with_low id) (range_with_len 1 255)) (shares_from (id + 1) n)
    ∙ ap (λ (o : Option Share). or_else o (find (is_good m owners dir need) (shares_from (id + 1) n))) (find_share m owners dir need id ∙ ap (option_map (with_low id)) e)
  where
    shares_cons : (id n : ℕ) → shares_from id (suc n) ≡ map (with_low id) (range_with_len 1 255) ++ shares_from (id + 1) n
    shares_cons id zero = refl
    shares_cons id (suc n) = refl

pub share_miss : (m : Map) (owners : List Owner) (dir need id n k : ℕ) → n ≡ k + 1 → cond (may_share owners dir id) (low_with_room m owners id need) None ≡ None
    → find (is_good m owners dir need) (shares_from id n) ≡ find (is_good m owners dir need) (shares_from (id + 1) k)
share_miss m owners dir need id n k e none =
    ap (λ (j : ℕ). find (is_good m owners dir need) (shares_from id j)) (let h : n ≡ suc k = omega arith in h)
    ∙ ap (find (is_good m owners dir need)) (shares_cons id k)
    ∙ find_both (is_good m owners dir need) (map (with_low id) (range_with_len 1 255)) (shares_from (id + 1) k)
    ∙ ap (λ (o : Option Share). or_else o (find (is_good m owners dir need) (shares_from (id + 1) k))) (find_share m owners dir need id ∙ ap (option_map (with_low id)) none)
  where
    shares_cons : (id n : ℕ) → shares_from id (suc n) ≡ map (with_low id) (range_with_len 1 255) ++ shares_from (id + 1) n
    shares_cons id zero = refl
    shares_cons id (suc n) = refl

-- ---- room

pub range_void : (p : ℕ → Bool) (n a : ℕ) → ((k : ℕ) → a ≤ k → k < a + n → p k ≡ false) → find p (range_with_len a n) ≡ None
range_void p zero a none = refl
range_void p (suc n) a none =
    ap (find p) (range_cons a n)
    ∙ ap (λ (b : Bool). cond b (Some a) (find p (range_with_len (a + 1) n))) (none a (omega arith) (omega arith))
    ∙ range_void p n (a + 1) (λ k le less. none k (omega arith) (omega arith))

pub range_first : (p : ℕ → Bool) (n a low : ℕ) → a ≤ low → low < a + n → ((k : ℕ) → a ≤ k → k < low → p k ≡ false) → p low ≡ true → find p (range_with_len a n) ≡ Some low
range_first p zero a low from to none e = absurd (omega arith)
range_first p (suc n) a low from to none e = ap (find p) (range_cons a n) ∙ elim (cases_eq a low) [
  | inl here ↦
      subst (λ (k : ℕ). cond (p k) (Some k) (find p (range_with_len (a + 1) n)) ≡ Some low) (sym here)
      (ap (λ (b : Bool). cond b (Some low) (find p (range_with_len (a + 1) n))) e)
  | inr later ↦
      (let more : a < low = omega (arith, later) in
      ap (λ (b : Bool). cond b (Some a) (find p (range_with_len (a + 1) n))) (none a (omega arith) more)
      ∙ range_first p n (a + 1) low (omega arith) (omega arith) (λ k le less. none k (omega arith) less) e)
]

module _ (m : Map) (owners found : List Owner) (id need low : ℕ) (is_low : IsLow m need found low) (same : (first : ℕ) → list_all (leaves_free id first need) owners ≡ list_all (is_clear first need) found) where
  abbrev fits : ℕ → Bool
  fits k = nat_le (low_start m k + need) (length (id_sectors m id))

  before : (k : ℕ) → 1 ≤ k → k < low → is_room m owners id need k ≡ false
  before k from to = ap (λ (b : Bool). fits k && b) (same (low_start m k) ∙ is_low.least k from to) ∙ and_false (fits k)

  pub room_found : low < 256 → fits low ≡ true → low_with_room m owners id need ≡ Some low
  room_found byte in' =
      range_first (is_room m owners id need) 255 1 low is_low.from (omega arith) before
      (ap₂ (λ (a b : Bool). a && b) in' (same (low_start m low) ∙ is_low.clear byte))

  pub room_missing : has_room m id low need ≡ false → low_with_room m owners id need ≡ None
  room_missing full = range_void (is_room m owners id need) 255 1 (λ k from to. elim (cases_lt k low) [
    | inl early ↦ before k from early
    | inr late ↦
        (let far = later_start m low k late in
        let less = short (fits low) refl (sym (ap (λ (b : Bool). b && fits low) (lt-ltb low 256 (omega arith))) ∙ full) in
        ap (λ (b : Bool). b && list_all (leaves_free id (low_start m k) need) owners) (not_le (low_start m k + need) (length (id_sectors m id)) (omega arith)))
  ])
    where
      short : (t : Bool) → fits low ≡ t → (true && t) ≡ false → length (id_sectors m id) < low_start m low + need
      short true e h = absurd (cc)
      short false e h = leb-false (low_start m low + need) (length (id_sectors m id)) e

-- ---- the least low byte of an identifier

module _ (m : Map) (owners : List Owner) (dir need id : ℕ) where
  pub least_closed : (has_shares m id && may_share owners dir id) ≡ false → least_low m owners dir need id ≡ None
  least_closed e = ap (λ (b : Bool). cond b (low_with_room m owners id need) None) e

  module _ (found : List Owner) (low : ℕ) (may : (has_shares m id && may_share owners dir id) ≡ true) (is_low : IsLow m need found low)
      (same : (first : ℕ) → list_all (leaves_free id first need) owners ≡ list_all (is_clear first need) found) where
    pub least_found : has_room m id low need ≡ true → (low < 256) × (least_low m owners dir need id ≡ Some low)
    least_found room =
        let both = parts (nat_lt low 256) (nat_le (low_start m low + need) (length (id_sectors m id))) room in
        let byte = ltb-true low 256 both.0 in
        (byte, ap (λ (b : Bool). cond b (low_with_room m owners id need) None) may ∙ room_found m owners found id need low is_low same byte both.1)
      where
        parts : (a b : Bool) → (a && b) ≡ true → (a ≡ true) × (b ≡ true)
        parts true true h = (refl, refl)
        parts true false h = absurd (cc)
        parts false b h = absurd (cc)

    pub least_missing : has_room m id low need ≡ false → least_low m owners dir need id ≡ None
    least_missing full = ap (λ (b : Bool). cond b (low_with_room m owners id need) None) may ∙ room_missing m owners found id need low is_low same full

-- ---- identifier by identifier

module _ (m : Map) (owners : List Owner) (dir need : ℕ) where
  abbrev good : ℕ × ℕ → Bool
  good = is_good m owners dir need

  abbrev limit : ℕ
  limit = id_limit m.geometry

  in_shares : (id : ℕ) → 3 ≤ id → id < limit → (o : Option ℕ) → least_low m owners dir need id ≡ o → cond (may_share owners dir id) (low_with_room m owners id need) None ≡ o
  in_shares id from to o e =
      sym (ap₂ (λ (a b : Bool). cond (a && b && may_share owners dir id) (low_with_room m owners id need) None) (le-leb 3 id from) (lt-ltb id limit to)) ∙ e

  -- no identifier has a share
  pub none_shared : (n id : ℕ) → 3 ≤ id → id + n ≤ limit → ((k : ℕ) → least_low m owners dir need k ≡ None) → find good (shares_from id n) ≡ None
  none_shared zero id from fits none = refl
  none_shared (suc n) id from fits none =
      share_miss m owners dir need id (suc n) n (omega arith) (in_shares id from (omega arith) None (none id))
      ∙ none_shared n (id + 1) (omega arith) (omega arith) none

  -- the first one that has
  pub first_shared : (n id k low : ℕ) → 3 ≤ id → id + n ≤ limit → id ≤ k → k < id + n → ((j : ℕ) → j < k → least_low m owners dir need j ≡ None) → least_low m owners dir need k ≡ Some low
      → find good (shares_from id n) ≡ Some (k, low)
  first_shared zero id k low from fits above below none e = absurd (omega arith)
  first_shared (suc n) id k low from fits above below none e = elim (cases_eq id k) [
    | inl here ↦ subst (λ (j : ℕ). find good (shares_from id (suc n)) ≡ Some (j, low)) here (share_hit m owners dir need id (suc n) low (omega arith) (in_shares id from (omega arith) (Some low) (ap (least_low m owners dir need) here ∙ e)))
    | inr later ↦
        (let more : id < k = omega (arith, later) in
        share_miss m owners dir need id (suc n) n (omega arith) (in_shares id from (omega arith) None (none id more))
        ∙ first_shared n (id + 1) k low (omega arith) (omega arith) (omega arith) (omega arith) none e)
  ]

  -- among all identifiers
  pub no_share : ((k : ℕ) → least_low m owners dir need k ≡ None) → find good (shares_from 3 (limit - 3)) ≡ None
  no_share none = by (limit - 3) refl
    where
      by : (n : ℕ) → n ≡ limit - 3 → find good (shares_from 3 n) ≡ None
      by zero e = refl
      by (suc n) e = none_shared (suc n) 3 (omega arith) (omega arith) none

  pub least_share : (k low : ℕ) → ((j : ℕ) → j < k → least_low m owners dir need j ≡ None) → least_low m owners dir need k ≡ Some low → find good (shares_from 3 (limit - 3)) ≡ Some (k, low)
  least_share k low none e =
      let in' = there (nat_le 3 k) refl (nat_lt k limit) refl e in
      first_shared (limit - 3) 3 k low (omega arith) (omega arith) in'.0 (omega arith) none e
    where
      there : (a : Bool) → nat_le 3 k ≡ a → (b : Bool) → nat_lt k limit ≡ b → cond (a && b && may_share owners dir k) (low_with_room m owners k need) None ≡ Some low → (3 ≤ k) × (k < limit)
      there true ea true eb h = (leb-true 3 k ea, ltb-true k limit eb)
      there true ea false eb h = absurd (cc)
      there false ea b eb h = absurd (cc)
