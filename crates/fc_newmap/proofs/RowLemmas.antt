-- What a row of a tally says of the places of an identifier's runs, and of which runs it says it still.
use Rattle.std.proofs.Common.{◌≡◌, ◌<◌, ◌≤◌, ℕ, ◌-◌, Bool, true, false, List, [], ◌∷◌, refl, sym, ap, ◌∙◌, inl, inr, arith}
use Rattle.std.specs.Prelude.{Contains, Ok, Err}
use Rattle.std.specs.List.{list_any}
use Rattle.std.proofs.lemmas.Bool.{cases_lt, false_from_ne_true, or_parts as neither, or_from as none_of_both}
use Rattle.fc_record.specs.declared.Geometry.{Geometry}
use Rattle.fc_zone.specs.declared.Run.{Run}
use Rattle.fc_newmap.specs.declared.tally.IdTally.{IdTally}
use Rattle.fc_newmap.specs.declared.tally.NewestRun.{NewestRun}
use Rattle.fc_newmap.specs.Map.{Map, bits_in, has_id, id_runs, runs_of}
use Rattle.fc_newmap.specs.Tally.{AreApart, IsBitOf, IsFirst, IsNewest, IsRow, no_runs, zones_before}
use Rattle.fc_newmap.proofs.PlaceLemmas.{contains_cases, contains_none}
use Rattle.fc_zone.proofs.ZoneLemmas.{Contains-head as contains_here, Contains-tail as contains_later}

-- ---- runs of an identifier among others

abbrev pub any_of : ℕ → List Run → Bool
any_of id runs = list_any (λ run. has_id id run.kind) runs

pub not_both : (b : Bool) → b ≡ true → b ≡ false → ⊥
not_both true e f = absurd (cc)
not_both false e f = absurd (cc)

pub any_none : (id : ℕ) (runs : List Run) → ((run : Run) → Contains runs run → has_id id run.kind ≡ true → ⊥) → any_of id runs ≡ false
any_none id [] none = refl
any_none id (run ∷ runs) none =
    none_of_both (has_id id run.kind) (any_of id runs) (false_from_ne_true (has_id id run.kind) (none run (contains_here run runs)))
    (any_none id runs (λ other c. none other (contains_later run runs other c)))

pub none_any : (id : ℕ) (runs : List Run) (run : Run) → any_of id runs ≡ false → Contains runs run → has_id id run.kind ≡ true → ⊥
none_any id [] run none c is = contains_none run c
none_any id (x ∷ runs) run none c is =
    let r = neither (has_id id x.kind) (any_of id runs) none in
    elim (contains_cases x runs run c) [
      | Ok here ↦ not_both (has_id id run.kind) is (ap (λ (u : Run). has_id id u.kind) (sym here) ∙ r.0)
      | Err later ↦ none_any id runs run r.1 later is
    ]

-- each run of the identifier has another among those, which begins no later
abbrev pub Covers : ℕ → (Run → Type 0) → (Run → Type 0) → Type 0
Covers id In Those = (run : Run) → In run → has_id id run.kind ≡ true → (other : Run) × (Those other × (has_id id other.kind ≡ true) × (other.start ≤ run.start))

pub first_kept : (id start : ℕ) (In Those : Run → Type 0) → Covers id In Those → Covers id Those In → IsFirst id In start → IsFirst id Those start
first_kept id start In Those there back first =
    let one = there first.run first.among first.of_id in
    let again = back one.0 one.1.0 one.1.1 in
    let low = first.least again.0 again.1.0 again.1.1 in
    let begins = first.begins in
    record {
      run = one.0;
      among = one.1.0;
      of_id = one.1.1;
      begins = omega (arith, one.1.2, again.1.2, low, begins);
      least = λ other in' is. (let x = back other in' is in omega (arith, x.1.2, first.least x.0 x.1.0 x.1.1));
    }

-- each bit of the identifier's runs in one set is one of those in another
abbrev pub Spans : ℕ → (Run → Type 0) → (Run → Type 0) → Type 0
Spans id In Those = (bit : ℕ) → IsBitOf id In bit → IsBitOf id Those bit

pub bit_in : (id : ℕ) (In Those : Run → Type 0) (bit : ℕ) → (b : IsBitOf id In bit) → Those b.run → IsBitOf id Those bit
bit_in id In Those bit b in' = record {
  run = b.run;
  among = in';
  of_id = b.of_id;
  from = b.from;
  before = b.before;
}

pub spans_of : (id : ℕ) (In Those : Run → Type 0) → ((run : Run) → In run → Those run) → Spans id In Those
spans_of id In Those all = λ bit b. bit_in id In Those bit b (all b.run b.among)

-- ---- what a row says

-- The row says where the identifier has its runs, of which each zone has these.
pub record Fits (g : Geometry) (id : ℕ) (In : ℕ → Run → Type 0) (row : IdTally) : Type 0 where
  pub ahead : (z : ℕ) (run : Run) → z < g.zones → In z run → has_id id run.kind ≡ true → row.ahead ≤ zones_before g id z
  pub reach : (z : ℕ) (run : Run) → z < g.zones → In z run → has_id id run.kind ≡ true → zones_before g id z < row.reach
  pub start : (z : ℕ) → z < g.zones → zones_before g id z ≡ row.ahead → (row.start ≡ 0 → ⊥) → IsFirst id (In z) row.start
  pub newest : (row.newest.len ≡ 0 → ⊥) → IsNewest g id In row.newest
  pub former : (row.former.len ≡ 0 → ⊥) → IsNewest g id In row.former
  pub apart : AreApart row.newest row.former

abbrev pub RunsOf : Map → ℕ → Run → Type 0
RunsOf m z = Contains (runs_of m z)

pub row_fits : (m : Map) (id : ℕ) (row : IdTally) → IsRow m id row → Fits m.geometry id (RunsOf m) row
row_fits m id row is = record {
  ahead = λ z run low in' of_id.
      elim (cases_lt (zones_before m.geometry id z) row.ahead) [
        | inl less ↦ absurd (none_any id (runs_of m z) run (is.ahead z low less) in' of_id)
        | inr more ↦ more
      ];
  reach = λ z run low in' of_id.
      elim (cases_lt (zones_before m.geometry id z) row.reach) [
        | inl less ↦ less
        | inr more ↦ absurd (none_any id (runs_of m z) run (is.reach z low more) in' of_id)
      ];
  start = is.start;
  newest = is.newest;
  former = is.former;
  apart = is.apart;
}

pub not_below : (a b : ℕ) → a ≤ b → b < a → ⊥
not_below a b h k = omega arith

pub fits_row : (m : Map) (id : ℕ) (row : IdTally) → row.bits ≡ bits_in (id_runs m id) → Fits m.geometry id (RunsOf m) row → IsRow m id row
fits_row m id row bits fits = record {
  bits = bits;
  ahead = λ z low less.
      any_none id (runs_of m z) (λ run c is. not_below row.ahead (zones_before m.geometry id z) (fits.ahead z run low c is) less);
  reach = λ z low more.
      any_none id (runs_of m z) (λ run c is. not_below row.reach (zones_before m.geometry id z) more (fits.reach z run low c is));
  start = fits.start;
  newest = fits.newest;
  former = fits.former;
  apart = fits.apart;
}

pub fits_none : (g : Geometry) (id : ℕ) (In : ℕ → Run → Type 0) → ((z : ℕ) (run : Run) → z < g.zones → In z run → has_id id run.kind ≡ true → ⊥) → Fits g id In (no_runs g)
fits_none g id In none = record {
  ahead = λ z run low in' is. absurd (none z run low in' is);
  reach = λ z run low in' is. absurd (none z run low in' is);
  start = λ z low e some. absurd (some refl);
  newest = λ some. absurd (some refl);
  former = λ some. absurd (some refl);
  apart = λ bit same from to from' to'. absurd (omega (arith, from, to));
}

pub newest_kept : (g : Geometry) (id : ℕ) (In Those : ℕ → Run → Type 0) (newest : NewestRun) → ((z : ℕ) → z < g.zones → Spans id (In z) (Those z)) → IsNewest g id In newest → IsNewest g id Those newest
newest_kept g id In Those newest spans is = record {
  zone = is.zone;
  low = is.low;
  before = is.before;
  bits = λ bit from to. spans is.zone is.low bit (is.bits bit from to);
}

-- other runs in the same zones
pub fits_kept : (g : Geometry) (id : ℕ) (In Those : ℕ → Run → Type 0) (row : IdTally) → ((z : ℕ) → z < g.zones → Covers id (In z) (Those z)) → ((z : ℕ) → z < g.zones → Covers id (Those z) (In z))
    → ((z : ℕ) → z < g.zones → Spans id (In z) (Those z)) → Fits g id In row → Fits g id Those row
fits_kept g id In Those row there back spans fits = record {
  ahead = λ z run low in' is. (let x = back z low run in' is in fits.ahead z x.0 low x.1.0 x.1.1);
  reach = λ z run low in' is. (let x = back z low run in' is in fits.reach z x.0 low x.1.0 x.1.1);
  start = λ z low e some. first_kept id row.start (In z) (Those z) (there z low) (back z low) (fits.start z low e some);
  newest = λ some. newest_kept g id In Those row.newest spans (fits.newest some);
  former = λ some. newest_kept g id In Those row.former spans (fits.former some);
  apart = fits.apart;
}
