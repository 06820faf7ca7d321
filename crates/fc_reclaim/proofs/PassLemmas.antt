-- The walk over the runs of a zone in which lost ones become holes.
use Rattle.std.proofs.Common.{◌≡◌, ◌<◌, ℕ, ◌+◌, Bool, true, false, cond, List, [], ◌∷◌, ◌++◌, Option, Some, None, refl, sym, ap, ap₂, subst, ◌∙◌, inl, inr, arith}
use Rattle.std.specs.Prelude.{filter, not, slice_get, ◌&&◌}
use Rattle.std.specs.Option.{unwrap_or}
use Rattle.std.proofs.lemmas.List.{append-nil, append_assoc, map-append}
use Rattle.std.proofs.lemmas.List.Elements.{filter-append}
use Rattle.std.proofs.lemmas.List.Sums.{fold-append, sum_by-append}
use Rattle.fc_bytes.specs.Bits.{bits}
use Rattle.fc_oldmap.specs.declared.Hole.{Hole as Space}
use Rattle.fc_oldmap.specs.Holes.{hole}
use Rattle.fc_record.specs.declared.Geometry.{Geometry}
use Rattle.fc_record.specs.Record.{end_bit, first_bit}
use Rattle.fc_zone.specs.declared.Run.{Run}
use Rattle.fc_newmap.specs.Edits.{IsEdit}
use Rattle.fc_newmap.specs.Map.{Map, ZoneRun, bits_in, is_hole, runs_of, sector_of, shape}
use Rattle.fc_newmap.specs.RunsLaw.{placed}
use Rattle.fc_newmap.proofs.ComposeLemmas.{edit_then}
use Rattle.fc_image.specs.safe.Reclaim.{absorbed, all_absorbed}
use Rattle.fc_plan.specs.Giving.{as_spaces, spaces_in}
use Rattle.fc_plan.proofs.Spaces.{Lie, spelled_lie}
use Rattle.fc_reclaim.specs.Lost.{is_used_run}
use Rattle.fc_reclaim.specs.Zone.{AreHoles, FollowsChain, IsReclaimedIn, behind_holes, chain_after, given, going, staying}
use Rattle.fc_reclaim.proofs.SpaceLemmas.{EndsUsed, given_kind, given_spaces}
use Rattle.std.proofs.lemmas.Bool.{cases_Bool as either_test}
use Rattle.fc_plan.proofs.Takes.{kind_is_hole as kind_of_hole}
use Rattle.fc_plan.proofs.Passes.{filter_placed, one_true, one_false}

-- ---- lists of runs

-- the holes that come first
abbrev holes_first : List Run → List Run
holes_first [] = []
holes_first (next ∷ rest) = cond (is_hole next.kind) (next ∷ holes_first rest) []

first_and_behind : (rest : List Run) → holes_first rest ++ behind_holes rest ≡ rest
first_and_behind [] = refl
first_and_behind (next ∷ rest) = by (is_hole next.kind) (first_and_behind rest)
  where
    by : (b : Bool) → holes_first rest ++ behind_holes rest ≡ rest → cond b (next ∷ holes_first rest) [] ++ cond b (behind_holes rest) (next ∷ rest) ≡ next ∷ rest
    by true e = ap (λ (rs : List Run). next ∷ rs) e
    by false e = refl

first_are : (rest : List Run) → AreHoles (holes_first rest)
first_are [] = tt
first_are (next ∷ rest) = by (is_hole next.kind) refl (first_are rest)
  where
    by : (b : Bool) → is_hole next.kind ≡ b → AreHoles (holes_first rest) → AreHoles (cond b (next ∷ holes_first rest) [])
    by true e are = (kind_of_hole next.kind e, are)
    by false e are = tt

none_of_holes : (t : ZoneRun → Bool) (z : ℕ) → ((run : Run) → is_hole run.kind ≡ true → t (z, run) ≡ false) → (links : List Run) → AreHoles links → filter t (placed z links) ≡ []
none_of_holes t z never [] are = refl
none_of_holes t z never (x ∷ links) are = ap (λ (b : Bool). cond b ((z, x) ∷ filter t (placed z links)) (filter t (placed z links))) (never x (ap is_hole are.0)) ∙ none_of_holes t z never links are.1

are_more : (links : List Run) (run : Run) → AreHoles links → is_hole run.kind ≡ true → AreHoles (links ++ run ∷ [])
are_more [] run are e = (kind_of_hole run.kind e, tt)
are_more (x ∷ links) run are e = (are.0, are_more links run are.1 e)

first_more : (links : List Run) (run : Run) (chain : Option Run) → chain ≡ slice_get links 0 → Some (unwrap_or chain run) ≡ slice_get (links ++ run ∷ []) 0
first_more [] run chain e = ap (λ (o : Option Run). let s : Option Run = Some (unwrap_or o run) in s) e
first_more (x ∷ links) run chain e = ap (λ (o : Option Run). let s : Option Run = Some (unwrap_or o run) in s) e

ends_more : (front : List Run) (run : Run) → is_hole run.kind ≡ false → EndsUsed (front ++ run ∷ [])
ends_more [] run e = e
ends_more (x ∷ []) run e = e
ends_more (x ∷ y ∷ front) run e = ends_more (y ∷ front) run e

used_none : (z : ℕ) (run : Run) → is_hole run.kind ≡ true → is_used_run (z, run) ≡ false
used_none z run e = ap not e

-- ---- the walk

pub record IsPassing (goes : ZoneRun → Bool) (z : ℕ) (m now : Map) (chain : Option Run) (left : List Run) (count : ℕ) : Type 0 where
  pub passed : List Run
  pub front : List Run
  pub links : List Run
  pub edit : IsEdit m now z
  pub old : runs_of m z ≡ passed ++ left
  pub new : runs_of now z ≡ front ++ (links ++ left)
  pub first : chain ≡ slice_get links 0
  pub are : AreHoles links
  pub ends : EndsUsed front
  pub holes : spaces_in (front ++ (links ++ left)) ≡ all_absorbed (spaces_in (passed ++ left)) (as_spaces (going goes z passed))
  pub rest : filter is_used_run (placed z front) ≡ staying goes z passed
  pub bits_are : count ≡ bits_in (going goes z passed)
  pub same : count ≡ 0 → now ≡ m

pub passing_start : (goes : ZoneRun → Bool) (z : ℕ) (m : Map) → IsEdit m m z → IsPassing goes z m m None (runs_of m z) 0
passing_start goes z m edit = record {
  passed = [];
  front = [];
  links = [];
  edit = edit;
  old = refl;
  new = refl;
  first = refl;
  are = tt;
  ends = tt;
  holes = refl;
  rest = refl;
  bits_are = refl;
  same = λ e. refl;
}

module _ (goes : ZoneRun → Bool) (used : (p : ZoneRun) → goes p ≡ true → is_hole p.1.kind ≡ false) (z : ℕ) (m now : Map) (chain : Option Run) (run : Run) (rest : List Run) (count : ℕ)
    (low : z < m.geometry.zones) (is : IsPassing goes z m now chain (run ∷ rest) count) where
  pub follows : FollowsChain now z chain run
  follows = record {
    front = is.front;
    links = is.links;
    rest = rest;
    low = subst (λ (g : Geometry). z < g.zones) (sym is.edit.geometry) low;
    runs = is.new;
    first = is.first;
    holes = is.are;
  }

  lies : Lie (first_bit z) (is.front ++ (is.links ++ run ∷ rest))
  lies =
      subst (λ (rs : List Run). Lie (first_bit z) rs) is.new
      (spelled_lie (shape now.geometry z) (bits (sector_of now z)) (runs_of now z) (first_bit z) (end_bit now.geometry z) (is.edit.map.right z follows.low).spelled)

  stays_hole : (r : Run) → is_hole r.kind ≡ true → goes (z, r) ≡ false
  stays_hole r e = by (goes (z, r)) refl
    where
      by : (b : Bool) → goes (z, r) ≡ b → b ≡ false
      by true h = absurd (let other = used (z, r) h in cc)
      by false h = refl

  going_more : (more : List Run) → going goes z (is.passed ++ more) ≡ going goes z is.passed ++ going goes z more
  going_more more = filter_placed goes z is.passed more

  module _ (then : Map) (edit : IsEdit now then z) where
    -- a run that stays
    module _ (e : goes (z, run) ≡ false) (still : then ≡ now) where
      none : going goes z (is.passed ++ run ∷ []) ≡ going goes z is.passed
      none = going_more (run ∷ []) ∙ ap (λ (xs : List ZoneRun). going goes z is.passed ++ xs) (one_false goes z run e) ∙ append-nil (going goes z is.passed)

      more : (is.passed ++ run ∷ []) ++ rest ≡ is.passed ++ run ∷ rest
      more = append_assoc is.passed (run ∷ []) rest

      stay_hole : is_hole run.kind ≡ true → IsPassing goes z m then (Some (unwrap_or chain run)) rest count
      stay_hole hole_run =
          let same : is.front ++ ((is.links ++ run ∷ []) ++ rest) ≡ is.front ++ (is.links ++ run ∷ rest) = ap (λ (rs : List Run). is.front ++ rs) (append_assoc is.links (run ∷ []) rest) in
          record {
            passed = is.passed ++ run ∷ [];
            front = is.front;
            links = is.links ++ run ∷ [];
            edit = edit_then m now then z is.edit edit;
            old = is.old ∙ sym more;
            new = ap (λ (n : Map). runs_of n z) still ∙ is.new ∙ sym same;
            first = first_more is.links run chain is.first;
            are = are_more is.links run is.are hole_run;
            ends = is.ends;
            holes = ap spaces_in same ∙ is.holes ∙ ap₂ (λ (rs : List Run) (xs : List ZoneRun). all_absorbed (spaces_in rs) (as_spaces xs)) (sym more) (sym none);
            rest = is.rest ∙ sym (append-nil (staying goes z is.passed))
                ∙ ap (λ (xs : List ZoneRun). staying goes z is.passed ++ xs) (sym (one_false (λ p. is_used_run p && not (goes p)) z run (ap (λ (b : Bool). not b && not (goes (z, run))) hole_run)))
                ∙ sym (filter_placed (λ p. is_used_run p && not (goes p)) z is.passed (run ∷ []));
            bits_are = is.bits_are ∙ ap bits_in (sym none);
            same = λ zero_bits. still ∙ is.same zero_bits;
          }

      stay_used : is_hole run.kind ≡ false → IsPassing goes z m then None rest count
      stay_used other =
          let all : List Run = is.front ++ (is.links ++ run ∷ []) in
          let same : all ++ ([] ++ rest) ≡ is.front ++ (is.links ++ run ∷ rest) =
          append_assoc is.front (is.links ++ run ∷ []) rest ∙ ap (λ (rs : List Run). is.front ++ rs) (append_assoc is.links (run ∷ []) rest) in
          record {
            passed = is.passed ++ run ∷ [];
            front = all;
            links = [];
            edit = edit_then m now then z is.edit edit;
            old = is.old ∙ sym more;
            new = ap (λ (n : Map). runs_of n z) still ∙ is.new ∙ sym same;
            first = refl;
            are = tt;
            ends = subst EndsUsed (append_assoc is.front is.links (run ∷ [])) (ends_more (is.front ++ is.links) run other);
            holes = ap spaces_in same ∙ is.holes ∙ ap₂ (λ (rs : List Run) (xs : List ZoneRun). all_absorbed (spaces_in rs) (as_spaces xs)) (sym more) (sym none);
            rest = filter_placed is_used_run z is.front (is.links ++ run ∷ [])
                ∙ ap₂ (λ (xs ys : List ZoneRun). xs ++ ys) is.rest
                (filter_placed is_used_run z is.links (run ∷ [])
                ∙ ap₂ (λ (xs ys : List ZoneRun). xs ++ ys) (none_of_holes is_used_run z (used_none z) is.links is.are)
                (ap (λ (b : Bool). cond b ((z, run) ∷ []) []) (sym (ap (λ (b : Bool). is_used_run (z, run) && not b) e ∙ and_true (is_used_run (z, run))))))
                ∙ sym (filter_placed (λ p. is_used_run p && not (goes p)) z is.passed (run ∷ []));
            bits_are = is.bits_are ∙ ap bits_in (sym none);
            same = λ zero_bits. still ∙ is.same zero_bits;
          }
        where
          and_true : (b : Bool) → (b && true) ≡ b
          and_true true = refl
          and_true false = refl

      pub stay : IsPassing goes z m then (chain_after chain run) rest count
      stay = elim (either_test (is_hole run.kind)) [
        | inl hole_run ↦ subst (λ (o : Option Run). IsPassing goes z m then o rest count) (sym (ap (λ (b : Bool). let o : Option Run = cond b (Some (unwrap_or chain run)) None in o) hole_run)) (stay_hole hole_run)
        | inr other ↦ subst (λ (o : Option Run). IsPassing goes z m then o rest count) (sym (ap (λ (b : Bool). let o : Option Run = cond b (Some (unwrap_or chain run)) None in o) other)) (stay_used other)
      ]

    -- a run that goes back
    abbrev new_hole : Run
    new_hole = given is.links run rest

    pub go_back : goes (z, run) ≡ true → runs_of then z ≡ is.front ++ new_hole ∷ behind_holes rest → IsPassing goes z m then (Some new_hole) (behind_holes rest) (count + run.len)
    go_back e runs =
        let gone : List Run = run ∷ holes_first rest in
        let more : (is.passed ++ gone) ++ behind_holes rest ≡ is.passed ++ run ∷ rest =
        append_assoc is.passed gone (behind_holes rest) ∙ ap (λ (rs : List Run). is.passed ++ run ∷ rs) (first_and_behind rest) in
        let one : going goes z gone ≡ (z, run) ∷ [] =
        filter_placed goes z (run ∷ []) (holes_first rest)
        ∙ ap₂ (λ (xs ys : List ZoneRun). xs ++ ys) (one_true goes z run e) (none_of_holes goes z stays_hole (holes_first rest) (first_are rest)) in
        let whole : going goes z (is.passed ++ gone) ≡ going goes z is.passed ++ (z, run) ∷ [] = going_more gone ∙ ap (λ (xs : List ZoneRun). going goes z is.passed ++ xs) one in
        let all : as_spaces (going goes z (is.passed ++ gone)) ≡ as_spaces (going goes z is.passed) ++ hole run.start run.len ∷ [] =
        ap as_spaces whole ∙ map-append (λ (p : ZoneRun). hole p.1.start p.1.len) (going goes z is.passed) ((z, run) ∷ []) in
        let none : staying goes z gone ≡ [] =
        filter_placed (λ p. is_used_run p && not (goes p)) z (run ∷ []) (holes_first rest)
        ∙ ap₂ (λ (xs ys : List ZoneRun). xs ++ ys)
        (one_false (λ p. is_used_run p && not (goes p)) z run (ap (λ (b : Bool). is_used_run (z, run) && not b) e ∙ and_false (is_used_run (z, run))))
        (none_of_holes (λ p. is_used_run p && not (goes p)) z (λ r h. ap (λ (b : Bool). not b && not (goes (z, r))) h) (holes_first rest) (first_are rest)) in
        let some = (lie_run is.front is.links (first_bit z) lies) in
        record {
          passed = is.passed ++ gone;
          front = is.front;
          links = new_hole ∷ [];
          edit = edit_then m now then z is.edit edit;
          old = is.old ∙ sym more;
          new = runs;
          first = refl;
          are = (given_kind is.links run rest is.are, tt);
          ends = is.ends;
          holes = given_spaces is.front is.links run rest (first_bit z) is.ends is.are (used (z, run) e) lies
              ∙ ap (absorbed (hole run.start run.len)) is.holes
              ∙ sym (fold-append (λ (hs : List Space) (r : Space). absorbed r hs) (spaces_in (is.passed ++ run ∷ rest)) (as_spaces (going goes z is.passed)) (hole run.start run.len ∷ []))
              ∙ ap₂ (λ (rs : List Run) (xs : List Space). all_absorbed (spaces_in rs) xs) (sym more) (sym all);
          rest = is.rest ∙ sym (append-nil (staying goes z is.passed)) ∙ ap (λ (xs : List ZoneRun). staying goes z is.passed ++ xs) (sym none)
              ∙ sym (filter_placed (λ p. is_used_run p && not (goes p)) z is.passed gone);
          bits_are = ap (λ (k : ℕ). k + run.len) is.bits_are ∙ sym (ap bits_in whole ∙ sum_by-append (λ (p : ZoneRun). p.1.len) (going goes z is.passed) ((z, run) ∷ []) ∙ one_more (bits_in (going goes z is.passed)));
          same = λ zero_bits. absurd (omega (arith, zero_bits, some));
        }
      where
        and_false : (b : Bool) → (b && false) ≡ false
        and_false true = refl
        and_false false = refl

        one_more : (k : ℕ) → k + bits_in ((z, run) ∷ []) ≡ k + run.len
        one_more k = omega arith

        lie_links : (links : List Run) (at : ℕ) → Lie at (links ++ run ∷ rest) → 0 < run.len
        lie_links [] at h = h.1
        lie_links (x ∷ links) at h = lie_links links (at + x.len) h.2

        lie_run : (front links : List Run) (at : ℕ) → Lie at (front ++ (links ++ run ∷ rest)) → 0 < run.len
        lie_run [] links at h = lie_links links at h
        lie_run (x ∷ front) links at h = lie_run front links (at + x.len) h.2

-- ---- its end

pub passing_end : (goes : ZoneRun → Bool) (z : ℕ) (m now : Map) (chain : Option Run) (count : ℕ) → (is : IsPassing goes z m now chain [] count)
    → IsReclaimedIn goes m now z × (count ≡ bits_in (going goes z (runs_of m z)))
passing_end goes z m now chain count is =
    let all : runs_of m z ≡ is.passed = is.old ∙ append-nil is.passed in
    let now_is : runs_of now z ≡ is.front ++ is.links = is.new ∙ ap (λ (rs : List Run). is.front ++ rs) (append-nil is.links) in (
      record {
        holes = ap spaces_in is.new ∙ is.holes ∙ ap₂ (λ (rs ps : List Run). all_absorbed (spaces_in rs) (as_spaces (going goes z ps))) (sym is.old) (sym all);
        rest = ap (λ (rs : List Run). filter is_used_run (placed z rs)) now_is ∙ filter_placed is_used_run z is.front is.links
            ∙ ap (λ (xs : List ZoneRun). filter is_used_run (placed z is.front) ++ xs) (none_of_holes is_used_run z (used_none z) is.links is.are) ∙ append-nil (filter is_used_run (placed z is.front))
            ∙ is.rest ∙ ap (staying goes z) (sym all);
      },
      is.bits_are ∙ ap (λ (rs : List Run). bits_in (going goes z rs)) (sym all),
    )
