-- A run that becomes a hole, joined with the holes around it.
use Rattle.std.proofs.Common.{◌≡◌, ◌<◌, ℕ, Bool, cond, List, [], ◌∷◌, ◌++◌, Option, None, refl, sym, ap, subst, ◌∙◌, append_assoc}
use Rattle.std.specs.Prelude.{slice_get}
use Rattle.std.specs.Option.{unwrap_or}
use Rattle.fc_record.specs.declared.Geometry.{Geometry}
use Rattle.fc_zone.specs.declared.Run.{Run}
use Rattle.fc_zone.specs.declared.RunKind.TheVariants.{Hole}
use Rattle.fc_newmap.specs.Edits.{RelabelsIn}
use Rattle.fc_newmap.specs.Map.{Map, is_hole, runs_of}
use Rattle.fc_plan.specs.Giving.{IsNext, freed}
use Rattle.fc_reclaim.specs.Zone.{AreHoles, FollowsChain, behind_holes, given, joined_all}

holes_behind : (links rest : List Run) → AreHoles links → behind_holes (links ++ rest) ≡ behind_holes rest
holes_behind [] rest are = refl
holes_behind (x ∷ links) rest are = ap (λ (b : Bool). cond b (behind_holes (links ++ rest)) (x ∷ (links ++ rest))) (ap is_hole are.0) ∙ holes_behind links rest are.1

-- the first hole of a chain with a run after it
pub record IsFirst (chain : Option Run) (links : List Run) (run : Run) (rest : List Run) : Type 0 where
  pub tail : List Run
  pub is : links ++ freed run ∷ rest ≡ unwrap_or chain (freed run) ∷ tail
  pub joined_is : joined_all (unwrap_or chain (freed run)) tail ≡ given links run rest
  pub behind_is : behind_holes tail ≡ behind_holes rest
  pub kind : (unwrap_or chain (freed run)).kind ≡ Hole

pub first_is : (chain : Option Run) (links : List Run) (run : Run) (rest : List Run) → chain ≡ slice_get links 0 → AreHoles links → IsFirst chain links run rest
first_is chain [] run rest e are =
    let same : freed run ≡ unwrap_or chain (freed run) = ap (λ (o : Option Run). unwrap_or o (freed run)) (sym e) in
    record {
      tail = rest;
      is = ap (λ (r : Run). r ∷ rest) same;
      joined_is = ap (λ (r : Run). joined_all r rest) (sym same);
      behind_is = refl;
      kind = ap (λ (r : Run). r.kind) (sym same);
    }
first_is chain (x ∷ links) run rest e are =
    let same : x ≡ unwrap_or chain (freed run) = ap (λ (o : Option Run). unwrap_or o (freed run)) (sym e) in
    record {
      tail = links ++ freed run ∷ rest;
      is = ap (λ (r : Run). r ∷ (links ++ freed run ∷ rest)) same;
      joined_is = ap (λ (r : Run). joined_all r (links ++ freed run ∷ rest)) (sym same);
      behind_is = holes_behind links (freed run ∷ rest) are.1;
      kind = ap (λ (r : Run). r.kind) (sym same) ∙ are.0;
    }

pub alone : (m : Map) (z : ℕ) (chain : Option Run) (run : Run) → FollowsChain m z chain run → IsNext m z None run
alone m z chain run f = record { front = f.front ++ f.links; rest = f.rest; low = f.low; runs = f.runs ∙ sym (append_assoc f.front f.links (run ∷ f.rest)) }

module _ (m m1 : Map) (z : ℕ) (chain : Option Run) (run : Run) (label : RelabelsIn m m1 z run.start Hole) where
  pub relabelled : (front links rest : List Run) → runs_of m z ≡ front ++ (links ++ run ∷ rest) → (first : IsFirst chain links run rest) → runs_of m1 z ≡ front ++ unwrap_or chain (freed run) ∷ first.tail
  relabelled front links rest runs first =
      label (front ++ links) rest run (runs ∙ sym (append_assoc front links (run ∷ rest))) refl
      ∙ append_assoc front links (freed run ∷ rest) ∙ ap (λ (rs : List Run). front ++ rs) first.is

  pub first_next : m1.geometry ≡ m.geometry → FollowsChain m z chain run → IsNext m1 z None (unwrap_or chain (freed run))
  first_next geometry f =
      let first = first_is chain f.links run f.rest f.first f.holes in
      record {
        front = f.front;
        rest = first.tail;
        low = subst (λ (g : Geometry). z < g.zones) (sym geometry) f.low;
        runs = relabelled f.front f.links f.rest f.runs first;
      }
