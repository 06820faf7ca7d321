-- First fit finds as many bits as are needed.
use Rattle.std.proofs.Common.{◌≡◌, ◌≤◌, ◌+◌, ◌-◌, ℕ, Bool, true, false, cond, List, [], ◌∷◌, max, sym, subst, ◌∙◌, refl, arith, Option, Some, None}
use Rattle.std.specs.Prelude.{nat_le, nat_lt}
use Rattle.std.specs.List.{find}
use Rattle.std.specs.Option.{option_map}
use Rattle.std.proofs.lemmas.Bool.{leb-true}
use Rattle.std.proofs.lemmas.List.Sums.{sum_by-cons}
use Rattle.fc_record.specs.declared.Geometry.{Geometry}
use Rattle.fc_newmap.specs.Map.{Map, ZoneRun, bits_in, hole_runs}
use Rattle.fc_image.specs.effects.Placed.{front_of}
use Rattle.fc_image.specs.safe.FirstFit.{first_fit, gathered, in_one_or}
use Rattle.fc_image.specs.safe.SafeShort.{fitted}
use Rattle.fc_tree.proofs.MemberLemmas.{found_passes}
use Rattle.fc_tree.proofs.WalkedLemmas.{same_some}
use Rattle.fc_safe.proofs.NeedsLemmas.{fitted_next, fitted_none, mapped_some}

front_enough : (g : Geometry) (bits n : ℕ) (hole : ZoneRun) → bits ≤ n → bits ≤ hole.1.len → bits ≤ (front_of g n hole).1.len
front_enough g bits n hole least fits = by (nat_lt hole.1.len (n + g.min))
  where
    by : (b : Bool) → bits ≤ (cond b hole (hole.0, record hole.1 { len = n })).1.len
    by true = fits
    by false = least

one_in : (p : ZoneRun) (ps : List ZoneRun) → bits_in (p ∷ ps) ≡ p.1.len + bits_in ps
one_in p ps = sum_by-cons (λ (q : ZoneRun). q.1.len) p ps

gathered_enough : (g : Geometry) (bits : ℕ) (holes parts : List ZoneRun) → gathered g bits holes ≡ Some parts → bits ≤ bits_in parts
unfolding gathered
gathered_enough g bits [] parts e = absurd (cc)
gathered_enough g bits (h ∷ holes) parts e = by (nat_le bits h.1.len) refl (gathered_enough g (bits - h.1.len) holes) e
  where
    by : (b : Bool) → nat_le bits h.1.len ≡ b → ((ps : List ZoneRun) → gathered g (bits - h.1.len) holes ≡ Some ps → bits - h.1.len ≤ bits_in ps) → cond b (Some (front_of g (max bits g.min) h ∷ [])) (option_map (λ (ps : List ZoneRun). h ∷ ps) (gathered g (bits - h.1.len) holes)) ≡ Some parts → bits ≤ bits_in parts
    by true f later is =
        let enough = front_enough g bits (max bits g.min) h (omega arith) (leb-true bits h.1.len f) in
        let sum = one_in (front_of g (max bits g.min) h) [] in
        subst (λ (ps : List ZoneRun). bits ≤ bits_in ps) (same_some (front_of g (max bits g.min) h ∷ []) parts is) (omega (arith, enough, sum))
    by false f later is =
        let r = mapped_some (λ (ps : List ZoneRun). h ∷ ps) (gathered g (bits - h.1.len) holes) parts is in
        let rest = later r.0 r.1 in
        let sum = one_in h r.0 in
        subst (λ (ps : List ZoneRun). bits ≤ bits_in ps) r.2 (omega (arith, rest, sum))

pub first_enough : (g : Geometry) (bits : ℕ) (holes parts : List ZoneRun) → first_fit g bits holes ≡ Some parts → bits ≤ bits_in parts
unfolding first_fit
first_enough g bits holes parts e = by (find (λ (hole : ZoneRun). nat_le bits hole.1.len) holes) refl e
  where
    by : (o : Option ZoneRun) → find (λ (hole : ZoneRun). nat_le bits hole.1.len) holes ≡ o → in_one_or g bits holes o ≡ Some parts → bits ≤ bits_in parts
    by None none is = gathered_enough g bits holes parts is
    by (Some hole) some is =
        let fits = leb-true bits hole.1.len (found_passes (λ (p : ZoneRun). nat_le bits p.1.len) holes hole some).1 in
        let enough = front_enough g bits bits hole (omega arith) fits in
        let sum = one_in (front_of g bits hole) [] in
        subst (λ (ps : List ZoneRun). bits ≤ bits_in ps) (same_some (front_of g bits hole ∷ []) parts is) (omega (arith, enough, sum))

-- the parts of a single need
pub one_fitted : (m : Map) (bits : ℕ) (parts : List ZoneRun) → fitted m (bits ∷ []) (hole_runs m) ≡ Some (parts ∷ []) → first_fit m.geometry bits (hole_runs m) ≡ Some parts
unfolding fitted
one_fitted m bits parts e = by (first_fit m.geometry bits (hole_runs m)) refl
  where
    by : (o : Option (List ZoneRun)) → first_fit m.geometry bits (hole_runs m) ≡ o → o ≡ Some parts
    by None none = absurd (let no = sym e ∙ fitted_none m bits [] (hole_runs m) none in cc)
    by (Some found) some = let is = sym (fitted_next m bits [] (hole_runs m) found some) ∙ e in cc
