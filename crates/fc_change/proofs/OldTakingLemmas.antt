-- Space that is taken from an old map, and why there is none.
use Rattle.std.proofs.Common.{◌≡◌, ◌<◌, ◌≤◌, inl, inr, ◌+◌, ◌*◌, ◌%◌, ◌^◌, ◌==◌, ℕ, zero, suc, Bool, true, false, cond, List, [], ◌∷◌, length, refl, sym, ap, subst, ◌∙◌, arith, Some, None, Option}
use Rattle.std.specs.Prelude.{◌&&◌, is_none, nat_le, nat_lt, Result, Ok, Err}
use Rattle.std.specs.Int.{div_ceil}
use Rattle.std.proofs.lemmas.Bool.{leb-true, lt-ltb, le-ltb, ne_eqb}
use Rattle.std.proofs.lemmas.Bool.Decides.{nat_tests}
use Rattle.std.proofs.lemmas.List.Sums.{sum_by-cons}
use Rattle.fc_names.specs.declared.refusal.Refusal.{Refusal}
use Rattle.fc_names.specs.declared.refusal.Refusal.TheVariants as refusals
use Rattle.fc_oldmap.specs.declared.Hole.{Hole}
use Rattle.fc_oldmap.specs.declared.TakeError.{TakeError}
use Rattle.fc_oldmap.specs.declared.TakeError.TheVariants.{DiscFull, CompactionRequired}
use Rattle.fc_oldmap.specs.Holes.{after_take, first_fit_place, hole_limit, hole_sum, take_answer}
use Rattle.fc_oldmap.specs.OldMap.{OldMapContent, IsOldMap, map_units}
use Rattle.fc_oldmap.proofs.MapLemmas.{length-after_take, take_answer-none, take_answer-some}
use Rattle.fc_oldmap.proofs.SpaceLemmas.{AreHoles-after_take, sum-inside}
use Rattle.fc_model.specs.Answer.{first_of, when}
use Rattle.fc_image.specs.Layout.{Layout, sectors_at}
use Rattle.fc_image.specs.effects.Short.{old_need}
use Rattle.fc_objects.specs.Extents.{sectors_in}
use Rattle.fc_tree.proofs.WalkedLemmas.{same_some}
use Rattle.fc_laws.specs.old.agree.Spaces.{SpaceLaw}
use Rattle.fc_changes.specs.old.Owed.{holding}
use Rattle.fc_changes.proofs.BasicLemmas.{and_false}
use Rattle.fc_changes.proofs.lemmas.old.GrowthLemmas.{none_needed}
use Rattle.fc_changes.proofs.lemmas.old.MadeLemmas.{need_some}
use Rattle.fc_changes.proofs.lemmas.old.SpaceLemmas.{none_over}
use Rattle.fc_change.specs.declared.job.Wants.{Wants}
use Rattle.fc_change.specs.declared.placing.old.Taken.{Taken}
use Rattle.fc_change.specs.declared.spaces.Place.{Place}
use Rattle.fc_change.specs.OldSpace.{IsMapNow, LieBehind, map_after, map_taken}
use Rattle.fc_change.specs.Places.{IsOldPlaced, IsPlaceWithout, IsTakenFor}
use Rattle.fc_change.specs.Refused.{refused_take}
use Rattle.fc_change.specs.Shortage.{short_take}

-- ---- whether there is space

-- What fits is no more than all holes have.
within_sum : (n start : ℕ) (holes : List Hole) → first_fit_place n holes ≡ Some start → n ≤ hole_sum holes
unfolding first_fit_place
within_sum n start [] e = absurd (cc)
within_sum n start (h ∷ holes) e = by (nat_le n h.len) refl e (within_sum n start holes)
  where
    sum : hole_sum (h ∷ holes) ≡ h.len + hole_sum holes
    sum = sum_by-cons (λ (g : Hole). g.len) h holes

    by : (b : Bool) → nat_le n h.len ≡ b → cond b (Some h.start) (first_fit_place n holes) ≡ Some start → (first_fit_place n holes ≡ Some start → n ≤ hole_sum holes) → n ≤ hole_sum (h ∷ holes)
    by true t f more = let fits = leb-true n h.len t in omega (arith, fits, sum)
    by false t f more = let fits = more f in omega (arith, fits, sum)

none_fits : (n : ℕ) (holes : List Hole) → hole_sum holes < n → first_fit_place n holes ≡ None
none_fits n holes many = by (first_fit_place n holes) refl
  where
    by : (o : Option ℕ) → first_fit_place n holes ≡ o → first_fit_place n holes ≡ None
    by None e = e
    by (Some start) e = absurd (let within = within_sum n start holes e in omega (arith, within, many))

-- the two answers of a map on which nothing fits
abbrev shortage : Bool → Result ℕ TakeError
shortage b = cond b (Err DiscFull) (Err CompactionRequired)

-- More units than any disc has are never there.
pub never_so_many : (space : OldMapContent) (n : ℕ) → IsOldMap space → 2 ^ 24 ≤ n → take_answer n space.holes ≡ Err DiscFull
never_so_many space n is many =
    let sum = sum-inside space.disc_units space.sector_units 0 space.holes (omega arith) is.holes in
    let disc = is.disc in
    let less : hole_sum space.holes < n = omega (arith, sum, disc, many) in
    take_answer-none n space.holes (none_fits n space.holes less) ∙ ap shortage (lt-ltb (hole_sum space.holes) n less)

-- What is taken is whole sectors.
pub whole_need : (space : OldMapContent) (n : ℕ) → IsOldMap space → old_need space n % space.sector_units ≡ 0
whole_need space n is = none_over space.sector_units is.units (div_ceil n (256 * space.sector_units))

-- ---- what is answered

-- the refusal, by what it is judged on
abbrev lack : Bool → Bool → Option ℕ → Option Refusal
lack less some place = first_of (when less refusals.DiscFull ∷ when (some && is_none place) refusals.CompactionRequired ∷ [])

never_both : (start : ℕ) (e : TakeError) → (let r : Result ℕ TakeError = Ok start in r) ≡ Err e → ⊥
never_both start e is = cc

one_start : (a b : ℕ) → (let r : Result ℕ TakeError = Ok a in r) ≡ Ok b → a ≡ b
one_start a b is = cc

-- Where it answers a place, that is the first fit,
pub fits_at : (n start : ℕ) (holes : List Hole) → take_answer n holes ≡ Ok start → first_fit_place n holes ≡ Some start
fits_at n start holes answer = by (first_fit_place n holes) (nat_lt (hole_sum holes) n) refl refl
  where
    by : (o : Option ℕ) (b : Bool) → first_fit_place n holes ≡ o → nat_lt (hole_sum holes) n ≡ b → first_fit_place n holes ≡ Some start
    by (Some other) b at t = at ∙ ap (λ (k : ℕ). let o : Option ℕ = Some k in o) (one_start other start (sym (take_answer-some n other holes at) ∙ answer))
    by None true at t = absurd (never_both start DiscFull (sym answer ∙ take_answer-none n holes at ∙ ap shortage t))
    by None false at t = absurd (never_both start CompactionRequired (sym answer ∙ take_answer-none n holes at ∙ ap shortage t))

-- and the command isn't refused.
pub no_lack : (space : OldMapContent) (n start : ℕ) → first_fit_place (old_need space n) space.holes ≡ Some start → short_take space n ≡ None
no_lack space n start at =
    ap (λ (x : Bool). lack x (nat_lt 0 (old_need space n)) (first_fit_place (old_need space n) space.holes)) (enough (old_need space n) (hole_sum space.holes) (within_sum (old_need space n) start space.holes at))
    ∙ ap (lack false (nat_lt 0 (old_need space n))) at ∙ by (nat_lt 0 (old_need space n))
  where
    enough : (need sum : ℕ) → need ≤ sum → nat_lt sum need ≡ false
    enough need sum low = grind (arith, nat_tests, low)

    by : (b : Bool) → lack false b (Some start) ≡ None
    by true = refl
    by false = refl

pub some_bytes : (n : ℕ) → (n ≡ 0 → ⊥) → 0 < n
some_bytes zero none = absurd (none refl)
some_bytes (suc n) none = omega arith

-- ---- the place, and the map without it

nowhere : (space : OldMapContent) (address : ℕ) → sectors_at (Layout.Old space) address 0 ≡ Some []
unfolding sectors_at
nowhere space address = refl

-- a file without bytes
pub placed_without : (space : OldMapContent) (w : Wants) (o : Option Place) → w.bytes ≡ 0 → IsPlaceWithout w o → IsOldPlaced space w o
placed_without space w None empty is = (empty, is)
placed_without space w (Some p) empty is = record {
  address = inr (empty, is.0);
  short = let zero = is.0 in omega (arith, zero);
  sectors = ap (λ (n : ℕ). sectors_at (Layout.Old space) p.address n) empty ∙ nowhere space p.address ∙ ap (λ (xs : List ℕ). let o : Option (List ℕ) = Some xs in o) (sym is.1);
  wanted = ap (λ (b : Bool). w.bytes == 0 && b) is.2 ∙ and_false (w.bytes == 0);
}

-- no bytes take nothing
pub none_taken : (space : OldMapContent) (n : ℕ) → IsOldMap space → n ≡ 0 → map_taken space n ≡ space
none_taken space n is empty =
    ap (λ (k : ℕ). map_taken space k) empty ∙ ap (λ (k : ℕ). holding space (cond (k == 0) space.holes (after_take k space.holes))) (none_needed space is.units)

pub nothing_taken : (space : OldMapContent) (w : Wants) (o : Option Place) → IsOldMap space → w.bytes ≡ 0 → IsPlaceWithout w o → IsTakenFor space w (record { place = o; map = None })
nothing_taken space w o is empty without = record {
  place = placed_without space w o empty without;
  map = none_taken space w.bytes is empty;
  none = λ e. refl;
  behind = λ now e. absurd (cc);
}

some_taken : (space : OldMapContent) (n : ℕ) → IsOldMap space → 0 < n → holding space (after_take (old_need space n) space.holes) ≡ map_taken space n
some_taken space n is some = ap (λ (b : Bool). holding space (cond b space.holes (after_take (old_need space n) space.holes))) (sym (need_some space n is.units some))

left_behind : (space : OldMapContent) (n : ℕ) → IsOldMap space → LieBehind space → LieBehind (holding space (after_take (old_need space n) space.holes))
left_behind space n is behind = AreHoles-after_take space.disc_units space.sector_units (map_units space.sector_units) (old_need space n) space.holes (whole_need space n is) behind

-- what is taken for some bytes
pub is_taken : (space : OldMapContent) (w : Wants) (p : Place) (now : OldMapContent) → IsOldMap space → LieBehind space → SpaceLaw → 0 < w.bytes → take_answer (old_need space w.bytes) space.holes ≡ Ok p.address
    → sectors_at (Layout.Old space) p.address w.bytes ≡ Some (sectors_in p.extents.items) → now ≡ holding space (after_take (old_need space w.bytes) space.holes)
    → IsTakenFor space w (record { place = Some p; map = Some now })
is_taken space w p now is behind spaces some answer place now_is =
    let at = fits_at (old_need space w.bytes) p.address space.holes answer in
    let fitted = spaces.fitted space w.bytes p.address is some at in
    let long = length-after_take (old_need space w.bytes) space.holes in
    let few = is.few in
    let same = some_taken space w.bytes is some in
    record {
      place = record {
        address = inl (some, at);
        short = fitted.short;
        sectors = place;
        wanted = ap (λ (b : Bool). b && is_none w.shares) (ne_eqb w.bytes 0 (λ none. omega (arith, none, some)));
      };
      map = (now_is ∙ same, subst (λ (m : OldMapContent). length m.holes ≤ hole_limit) same (omega (arith, long, few)));
      none = λ e. absurd (omega (arith, some, e));
      behind = λ other e. subst LieBehind (sym now_is ∙ same_some now other e) (left_behind space w.bytes is behind);
    }

-- ---- the map afterwards

-- It is the map without the space.
pub after_is : (space : OldMapContent) (w : Wants) (t : Taken) → IsTakenFor space w t → map_after space t.map ≡ map_taken space w.bytes
after_is space w t is = by t.map is.map
  where
    by : (o : Option OldMapContent) → IsMapNow space (map_taken space w.bytes) o → map_after space o ≡ map_taken space w.bytes
    by None e = sym e
    by (Some now) e = e.0
