-- A hole that is joined with those that follow it.
use Rattle.std.proofs.Common.{◌≡◌, ◌<◌, ℕ, Bool, true, false, cond, List, [], ◌∷◌, ◌++◌, length, Some, None, refl, sym, ap, ap₂, subst, ◌∙◌, arith, length-append}
use Rattle.std.specs.Prelude.{slice_get}
use Rattle.fc_record.specs.declared.Geometry.{Geometry}
use Rattle.fc_zone.specs.declared.Run.{Run}
use Rattle.fc_zone.specs.declared.RunKind.{RunKind}
use Rattle.fc_zone.specs.declared.RunKind.TheVariants.{Hole, Id}
use Rattle.fc_newmap.specs.Edits.{IsEdit}
use Rattle.fc_newmap.specs.Map.{Map, is_hole, runs_of}
use Rattle.fc_newmap.specs.NewMap.{IsNewMap}
use Rattle.fc_newmap.proofs.ComposeLemmas.{edit_none, edit_then}
use Rattle.fc_plan.specs.Giving.{AreTwoHoles, IsNext, joined}
use Rattle.fc_reclaim.specs.Zone.{behind_holes, joined_all}
use Rattle.fc_plan.proofs.Takes.{kind_is_hole as kind_of_hole}

-- what is left ahead of a hole that has been joined with some that followed the first
pub record IsLeft (first hole : Run) (rest left : List Run) : Type 0 where
  pub joined_same : joined_all first rest ≡ joined_all hole left
  pub behind_same : behind_holes rest ≡ behind_holes left

pub record IsJoining (m now : Map) (z : ℕ) (first hole : Run) : Type 0 where
  pub edit : IsEdit m now z
  pub kind : hole.kind ≡ Hole
  pub next : IsNext now z None hole
  pub runs : (front rest : List Run) → runs_of m z ≡ front ++ first ∷ rest → (left : List Run) × (runs_of now z ≡ front ++ hole ∷ left) × IsLeft first hole rest left

pub joining_start : (m : Map) (z : ℕ) (first : Run) → IsNewMap m → first.kind ≡ Hole → IsNext m z None first → IsJoining m m z first first
joining_start m z first is kind next = record {
  edit = edit_none m z is;
  kind = kind;
  next = next;
  runs = λ front rest e. (rest, e, record { joined_same = refl; behind_same = refl });
}

-- the next run, as it stands in any cut
first_of : (rest : List Run) (next : Run) → slice_get rest 0 ≡ Some next → (more : List Run) × (rest ≡ next ∷ more)
first_of [] next e = absurd (cc)
first_of (x ∷ rest) next e = (rest, ap (λ (r : Run). r ∷ rest) (let same : x ≡ next = cc in same))

module _ (m now : Map) (z : ℕ) (first hole next : Run) (is : IsJoining m now z first hole)
    (value : (front rest : List Run) → runs_of now z ≡ front ++ hole ∷ rest → Some next ≡ slice_get rest 0) where
  pub two_holes : is_hole next.kind ≡ true → AreTwoHoles now z hole next
  two_holes two =
      let more = first_of is.next.rest next (sym (value is.next.front is.next.rest is.next.runs)) in
      record {
        front = is.next.front;
        rest = more.0;
        low = is.next.low;
        runs = is.next.runs ∙ ap (λ (rs : List Run). is.next.front ++ hole ∷ rs) more.1;
        first = is.kind;
        second = kind_of_hole next.kind two;
      }

  -- a hole that is joined
  pub joining_on : (then : Map) → is_hole next.kind ≡ true → IsEdit now then z
      → ((front rest : List Run) → runs_of now z ≡ front ++ hole ∷ next ∷ rest → runs_of then z ≡ front ++ joined hole next ∷ rest) → IsJoining m then z first (joined hole next)
  joining_on then two edit runs =
      let here = two_holes two in
      record {
        edit = edit_then m now then z is.edit edit;
        kind = is.kind;
        next = record {
          front = here.front;
          rest = here.rest;
          low = subst (λ (g : Geometry). z < g.zones) (sym edit.geometry) is.next.low;
          runs = runs here.front here.rest here.runs;
        };
        runs = λ front rest e.
            (let at = is.runs front rest e in
            let more = first_of at.0 next (sym (value front at.0 at.1)) in (
              more.0,
              runs front more.0 (at.1 ∙ ap (λ (rs : List Run). front ++ hole ∷ rs) more.1),
              record {
                joined_same = at.2.joined_same ∙ ap (joined_all hole) more.1 ∙ ap (λ (b : Bool). cond b (joined_all (joined hole next) more.0) hole) two;
                behind_same = at.2.behind_same ∙ ap behind_holes more.1 ∙ ap (λ (b : Bool). cond b (behind_holes more.0) (next ∷ more.0)) two;
              },
            ));
      }

  -- a run that is no hole ends it
  pub joining_stops : is_hole next.kind ≡ false → (front rest : List Run) → runs_of m z ≡ front ++ first ∷ rest
      → (hole ≡ joined_all first rest) × (runs_of now z ≡ front ++ joined_all first rest ∷ behind_holes rest)
  joining_stops other front rest e =
      let at = is.runs front rest e in
      let more = first_of at.0 next (sym (value front at.0 at.1)) in
      let one : joined_all hole at.0 ≡ hole = ap (joined_all hole) more.1 ∙ ap (λ (b : Bool). cond b (joined_all (joined hole next) more.0) hole) other in
      let two : behind_holes at.0 ≡ at.0 = ap behind_holes more.1 ∙ ap (λ (b : Bool). cond b (behind_holes more.0) (next ∷ more.0)) other ∙ sym more.1 in
      let same = at.2.joined_same ∙ one in
      (sym same, at.1 ∙ ap₂ (λ (h : Run) (rs : List Run). front ++ h ∷ rs) (sym same) (sym (at.2.behind_same ∙ two)))

  -- a join leaves fewer runs
  pub fewer_runs : (then : Map) → is_hole next.kind ≡ true
      → ((front rest : List Run) → runs_of now z ≡ front ++ hole ∷ next ∷ rest → runs_of then z ≡ front ++ joined hole next ∷ rest) → length (runs_of then z) < length (runs_of now z)
  fewer_runs then two runs =
      let here = two_holes two in
      let before = ap length here.runs ∙ length-append here.front (hole ∷ next ∷ here.rest) in
      let after = ap length (runs here.front here.rest here.runs) ∙ length-append here.front (joined hole next ∷ here.rest) in
      omega (arith, before, after)

-- no run that follows ends it
pub joining_ends : (m now : Map) (z : ℕ) (first hole : Run) → IsJoining m now z first hole
    → ((front rest : List Run) → runs_of now z ≡ front ++ hole ∷ rest → None ≡ slice_get rest 0) → (front rest : List Run) → runs_of m z ≡ front ++ first ∷ rest
    → (hole ≡ joined_all first rest) × (runs_of now z ≡ front ++ joined_all first rest ∷ behind_holes rest)
joining_ends m now z first hole is value front rest e =
    let at = is.runs front rest e in
    let none = no_first at.0 (sym (value front at.0 at.1)) in
    let same = at.2.joined_same ∙ ap (joined_all hole) none in
    (sym same, at.1 ∙ ap₂ (λ (h : Run) (rs : List Run). front ++ h ∷ rs) (sym same) (sym (at.2.behind_same ∙ ap behind_holes none ∙ sym none)))
  where
    no_first : (rs : List Run) → slice_get rs 0 ≡ None → rs ≡ []
    no_first [] h = refl
    no_first (x ∷ rs) h = absurd (cc)
