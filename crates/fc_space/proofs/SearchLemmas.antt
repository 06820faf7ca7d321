-- A search for the sectors of an object along the runs of its identifier.
use Rattle.std.proofs.Common.{◌≡◌, ◌<◌, ◌≤◌, ℕ, arith, ◌-◌, List, [], ◌∷◌, ◌++◌, length, take, drop, Option, Some, None, refl, sym, ap, ap₂, subst, ◌∙◌, append_assoc, append-nil, drop_of_length-le}
use Rattle.std.specs.Prelude.{MatchOption}
use Rattle.std.specs.Option.{option_map}
use Rattle.std.proofs.lemmas.Grind.{flat_map-append}
use Rattle.std.proofs.lemmas.List.FromFn.{length-range_with_len}
use Rattle.fc_device.specs.declared.disk.Extent.{Extent}
use Rattle.fc_newmap.specs.declared.runs.RunCursor.{RunCursor}
use Rattle.fc_newmap.specs.Map.{Map, ZoneRun, id_runs, sectors_of, extent_of, run_sectors}
use Rattle.fc_newmap.specs.Walk.{StandsAt}
use Rattle.fc_image.specs.Layout.{first_part, id_sectors}
use Rattle.fc_objects.specs.Extents.{extent_sectors, sectors_in}
use Rattle.fc_space.proofs.PartLemmas.{wanted_behind, map_more, none_wanted, none_behind}
use Rattle.fc_image.proofs.KindLemmas.{none_left as take-nil}
use Rattle.fc_space.proofs.IndexedLemmas.{push_sectors}

-- what the cursor has in front of it
abbrev pub IsNextOf : Map → List ZoneRun → RunCursor → Option ZoneRun → Type 0
IsNextOf m left new result =
    MatchOption result ((left ≡ []) × StandsAt m [] new) (λ (p : ZoneRun). (rest : List ZoneRun) × ((left ≡ p ∷ rest) × StandsAt m rest new))

-- The sectors that are wanted are those that were found, and `need` sectors after `skip` sectors of the runs that are left.
pub record Searches (m : Map) (id skip need : ℕ) (found : List Extent) (cursor : RunCursor) (skip' need' : ℕ) : Type 0 where
  pub done : List ZoneRun
  pub left : List ZoneRun
  pub stands : StandsAt m left cursor
  pub runs : id_runs m id ≡ done ++ left
  pub wanted : first_part need (drop skip (id_sectors m id)) ≡ option_map (λ (more : List ℕ). sectors_in found ++ more) (first_part need' (drop skip' (sectors_of m.geometry left)))

map_nothing : (o : Option (List ℕ)) → o ≡ option_map (λ (more : List ℕ). sectors_in [] ++ more) o
map_nothing None = refl
map_nothing (Some xs) = refl

pub started : (m : Map) (id skip need : ℕ) (found : List Extent) (cursor : RunCursor) → found ≡ [] → StandsAt m (id_runs m id) cursor → Searches m id skip need found cursor skip need
started m id skip need found cursor none s = record {
  done = [];
  left = id_runs m id;
  stands = s;
  runs = refl;
  wanted = map_nothing (first_part need (drop skip (id_sectors m id)))
      ∙ ap (λ (es : List Extent). option_map (λ (more : List ℕ). sectors_in es ++ more) (first_part need (drop skip (id_sectors m id)))) (sym none);
}

pub nothing_left : (m : Map) (id skip need : ℕ) (found : List Extent) (old new : RunCursor) (skip' need' : ℕ) (result : Option ZoneRun)
    → Searches m id skip need found old skip' need' → 0 < need' → ((left : List ZoneRun) → StandsAt m left old → IsNextOf m left new result) → result ≡ None
    → first_part need (drop skip (id_sectors m id)) ≡ None
nothing_left m id skip need found old new skip' need' result s more next is =
    let step : IsNextOf m s.left new None = subst (IsNextOf m s.left new) is (next s.left s.stands) in
    s.wanted
    ∙ ap (λ (l : List ZoneRun). option_map (λ (more : List ℕ). sectors_in found ++ more) (first_part need' (drop skip' (sectors_of m.geometry l)))) step.0
    ∙ ap (option_map (λ (more : List ℕ). sectors_in found ++ more)) (none_behind need' skip' more)

pub all_found : (m : Map) (id skip need : ℕ) (found : List Extent) (cursor : RunCursor) (skip' need' : ℕ) → Searches m id skip need found cursor skip' need' → need' ≡ 0
    → first_part need (drop skip (id_sectors m id)) ≡ Some (sectors_in found)
all_found m id skip need found cursor skip' need' s none =
    s.wanted
    ∙ ap (λ (n : ℕ). option_map (λ (more : List ℕ). sectors_in found ++ more) (first_part n (drop skip' (sectors_of m.geometry s.left)))) none
    ∙ ap (option_map (λ (more : List ℕ). sectors_in found ++ more)) (none_wanted (drop skip' (sectors_of m.geometry s.left)))
    ∙ ap (λ (xs : List ℕ). let o : Option (List ℕ) = Some xs in o) (append-nil (sectors_in found))

-- a run's part is taken
pub part_taken : (m : Map) (id skip need : ℕ) (found found' : List Extent) (old new : RunCursor) (skip' need' skip'' need'' : ℕ) (result : Option ZoneRun) (p : ZoneRun) (extent part : Extent)
    → Searches m id skip need found old skip' need' → ((left : List ZoneRun) → StandsAt m left old → IsNextOf m left new result) → result ≡ Some p
    → extent ≡ extent_of m.geometry p → extent_sectors part ≡ take need' (drop skip' (extent_sectors extent)) → found' ≡ found ++ part ∷ []
    → skip'' ≡ skip' - extent.sectors → need'' ≡ need' - part.sectors
    → Searches m id skip need found' new skip'' need''
part_taken m id skip need found found' old new skip' need' skip'' need'' result p extent part s next is e takes grown skipped needed =
    let step : IsNextOf m s.left new (Some p) = subst (IsNextOf m s.left new) is (next s.left s.stands) in
    let rest = step.0 in
    let sectors = run_sectors m.geometry p in
    let same : extent_sectors extent ≡ sectors = ap extent_sectors e in
    let of_part : extent_sectors part ≡ take need' (drop skip' sectors) = takes ∙ ap (λ (xs : List ℕ). take need' (drop skip' xs)) same in
    let long_part : length (take need' (drop skip' sectors)) ≡ part.sectors = ap length (sym of_part) ∙ length-range_with_len part.first part.sectors in
    let long : length sectors ≡ extent.sectors = ap length (sym same) ∙ length-range_with_len extent.first extent.sectors in
    let front : List ℕ → List ℕ = (λ (more : List ℕ). sectors_in found ++ more) in
    let behind = wanted_behind need' skip' sectors (sectors_of m.geometry rest) in
    record {
      done = s.done ++ p ∷ [];
      left = rest;
      stands = step.1.1;
      runs = s.runs ∙ ap (λ (l : List ZoneRun). s.done ++ l) step.1.0 ∙ sym (append_assoc s.done (p ∷ []) rest);
      wanted = s.wanted
          ∙ ap (λ (l : List ZoneRun). option_map front (first_part need' (drop skip' (sectors_of m.geometry l)))) step.1.0
          ∙ ap (option_map front) behind
          ∙ map_more (sectors_in found) (take need' (drop skip' sectors)) (first_part (need' - length (take need' (drop skip' sectors))) (drop (skip' - length sectors) (sectors_of m.geometry rest)))
          ∙ ap₂ (λ (n k : ℕ). option_map (λ (more : List ℕ). (sectors_in found ++ take need' (drop skip' sectors)) ++ more) (first_part n (drop k (sectors_of m.geometry rest))))
          (ap (λ (n : ℕ). need' - n) long_part ∙ sym needed) (ap (λ (n : ℕ). skip' - n) long ∙ sym skipped)
          ∙ ap (λ (xs : List ℕ). option_map (λ (more : List ℕ). xs ++ more) (first_part need'' (drop skip'' (sectors_of m.geometry rest))))
          (ap (λ (xs : List ℕ). sectors_in found ++ xs) (sym of_part) ∙ sym (push_sectors found part) ∙ ap sectors_in (sym grown));
    }

-- a part without sectors may be left out
without_empty : (m : Map) (id skip need : ℕ) (found : List Extent) (part : Extent) (cursor : RunCursor) (skip' need' : ℕ) → extent_sectors part ≡ [] → Searches m id skip need (found ++ part ∷ []) cursor skip' need'
    → Searches m id skip need found cursor skip' need'
without_empty m id skip need found part cursor skip' need' empty s = record {
  done = s.done;
  left = s.left;
  stands = s.stands;
  runs = s.runs;
  wanted = s.wanted
      ∙ ap (λ (xs : List ℕ). option_map (λ (more : List ℕ). xs ++ more) (first_part need' (drop skip' (sectors_of m.geometry s.left))))
      (push_sectors found part ∙ ap (λ (xs : List ℕ). sectors_in found ++ xs) empty ∙ append-nil (sectors_in found));
}

-- a run all of whose sectors are to be passed over
pub run_passed : (m : Map) (id skip need : ℕ) (found : List Extent) (old new : RunCursor) (skip' need' : ℕ) (result : Option ZoneRun) (p : ZoneRun) (extent : Extent)
    → Searches m id skip need found old skip' need' → ((left : List ZoneRun) → StandsAt m left old → IsNextOf m left new result) → result ≡ Some p
    → extent ≡ extent_of m.geometry p → extent.sectors ≤ skip' → Searches m id skip need found new (skip' - extent.sectors) need'
run_passed m id skip need found old new skip' need' result p extent s next is e all =
    let none : Extent = record { first = 0; sectors = 0 } in
    let nothing : take need' (drop skip' (extent_sectors extent)) ≡ [] =
    ap (take need') (drop_of_length-le (extent_sectors extent) {i = skip'} (omega (arith, length-range_with_len extent.first extent.sectors))) ∙ take-nil need' in
    let rest = part_taken m id skip need found (found ++ none ∷ []) old new skip' need' (skip' - extent.sectors) need' result p extent none s next is e (sym nothing) refl refl
    (let z : need' ≡ need' - 0 = omega arith in z) in
    without_empty m id skip need found none new (skip' - extent.sectors) need' refl rest
