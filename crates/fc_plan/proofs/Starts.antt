-- Where the runs of some identifiers begin in a zone.
use Rattle.std.proofs.Common.{◌≡◌, ◌<◌, ◌≤◌, ℕ, ◌+◌, true, false, List, [], ◌∷◌, ◌++◌, Option, Some, None, length, get_or, min, sym, subst, ◌∙◌, inl, inr, arith}
use Rattle.std.specs.Prelude.{Contains, IfSome, MatchOption}
use Rattle.std.specs.List.{list_any}
use Rattle.std.specs.Option.{option_map_or}
use Rattle.std.proofs.lemmas.Bool.{cases_eq, cases_lt}
use Rattle.std.proofs.lemmas.List.Elements.{Contains-append_left}
use Rattle.fc_bytes.specs.Bits.{bits}
use Rattle.fc_record.specs.Record.{first_bit, end_bit}
use Rattle.fc_zone.specs.declared.Run.{Run}
use Rattle.fc_zone.specs.Zone.{EndsInHole}
use Rattle.fc_newmap.specs.Map.{Map, has_id, runs_of, sector_of, shape}
use Rattle.fc_newmap.specs.NewMap.{IsNewMap}
use Rattle.fc_newmap.specs.Tally.{IsFirstIn}
use Rattle.fc_newmap.proofs.ComposeLemmas.{zone_cut}
use Rattle.fc_newmap.proofs.RowLemmas.{any_none, none_any, not_below}
use Rattle.fc_newmap.proofs.ZoneRunLemmas.{contains_cut, front_before}
use Rattle.fc_plan.specs.Beginnings.{BeginAt}
use Rattle.fc_plan.proofs.NoIds.{no_run_of}

-- In zone z no run of the first identifiers begins before `first`, where a run begins. None of them has one if there is no
-- such place.
pub record IsLeast (m : Map) (ids : List ℕ) (z count : ℕ) (first : Option ℕ) : Type 0 where
  pub among : IfSome first (λ start. (run : Run) × (Contains (runs_of m z) run × (run.start ≡ start)))
  pub least : (j : ℕ) → j < count → (run : Run) → Contains (runs_of m z) run → has_id (get_or ids j 0) run.kind ≡ true → MatchOption first ⊥ (λ start. start ≤ run.start)

-- an identifier has no run there
pub least_other : (m : Map) (ids : List ℕ) (z i : ℕ) (first : Option ℕ) → IsLeast m ids z i first → list_any (λ run. has_id (get_or ids i 0) run.kind) (runs_of m z) ≡ false → IsLeast m ids z (i + 1) first
least_other m ids z i first is none = record {
  among = is.among;
  least = λ j low run c of_id. elim (cases_eq j i) [
    | inl same ↦ absurd (none_any (get_or ids i 0) (runs_of m z) run none c (subst (λ (k : ℕ). has_id (get_or ids k 0) run.kind ≡ true) same of_id))
    | inr other ↦ is.least j (omega arith) run c of_id
  ];
}

-- the first run of an identifier there is known
pub least_more : (m : Map) (ids : List ℕ) (z i start : ℕ) (first : Option ℕ) → IsLeast m ids z i first → IsFirstIn m (get_or ids i 0) z start → IsLeast m ids z (i + 1) (Some (option_map_or (min start) first start))
least_more m ids z i start None is one = record {
  among = (one.run, (one.among, one.begins));
  least = λ j low run c of_id. elim (cases_eq j i) [
    | inl same ↦ one.least run c (subst (λ (k : ℕ). has_id (get_or ids k 0) run.kind ≡ true) same of_id)
    | inr other ↦ absurd (is.least j (omega arith) run c of_id)
  ];
}
least_more m ids z i start (Some first) is one = record {
  among = elim (cases_lt start first) [
    | inl less ↦ (one.run, (one.among, one.begins ∙ (let e : start ≡ min start first = omega arith in e)))
    | inr more ↦ (is.among.0, (is.among.1.0, is.among.1.1 ∙ (let e : first ≡ min start first = omega arith in e)))
  ];
  least = λ j low run c of_id. elim (cases_eq j i) [
    | inl same ↦ (let from = one.least run c (subst (λ (k : ℕ). has_id (get_or ids k 0) run.kind ≡ true) same of_id) in omega arith)
    | inr other ↦ (let from : first ≤ run.start = is.least j (omega arith) run c of_id in omega arith)
  ];
}

-- the runs before it are of others
pub begin_at : (m : Map) (ids : List ℕ) (z count : ℕ) (first : Option ℕ) → IsNewMap m → z < m.geometry.zones → length ids ≤ count → IsLeast m ids z count first → IfSome first (BeginAt ids (runs_of m z))
begin_at m ids z count None is low all least = tt
begin_at m ids z count (Some start) is low all least =
    let run = least.among.0 in
    let begins = least.among.1.1 in
    let cut = contains_cut (runs_of m z) run least.among.1.0 in
    let zone = zone_cut m z (cut.0 ++ run ∷ cut.1) is low cut.2 in
    record {
      front = cut.0;
      run = run;
      rest = cut.1;
      cut = cut.2;
      begins = begins;
      none = no_run_of ids cut.0 (λ j in'. any_none (get_or ids j 0) cut.0 (λ other c of_id.
          let before = front_before (shape m.geometry z) (bits (sector_of m z)) cut.0 cut.1 (first_bit z) (end_bit m.geometry z) run other zone.spelled c in
          let there : Contains (runs_of m z) other = subst (λ (runs : List Run). Contains runs other) (sym cut.2) (Contains-append_left cut.0 (run ∷ cut.1) other c) in
          let from : start ≤ other.start = least.least j (omega arith) other there of_id in
          not_below start other.start from (omega arith)));
    }

-- no runs end with no hole
pub none_ends : EndsInHole [] None
none_ends = λ front last e kind. never front last e
  where
    never : (front : List Run) (last : Run) → [] ≡ front ++ last ∷ [] → ⊥
    never [] last e = cc
    never (x ∷ front) last e = cc
