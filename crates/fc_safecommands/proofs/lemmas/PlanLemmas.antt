-- Which identifiers plans have that meet the needs of a job.
use Rattle.std.proofs.Common.{◌≡◌, ◌==◌, ℕ, Bool, true, false, cond, List, [], ◌∷◌, ◌++◌, map, take, drop, refl, sym, ap, ap₂, subst, ◌∙◌, Option, Some, None}
use Rattle.std.specs.Prelude.{is_some, not}
use Rattle.fc_plan.specs.declared.plan.Plan.{Plan}
use Rattle.fc_image.specs.effects.Short.{one_if}
use Rattle.fc_change.specs.declared.job.Growth.{Growth}
use Rattle.fc_safe.specs.FirstNeeds.{need_of, out_need, own_need}
use Rattle.fc_safe.specs.Needs.{HaveIds}
use Rattle.fc_safe.specs.declared.needs.Need.{Need}

pub take_none : (xs : List ℕ) → take 0 xs ≡ []
take_none [] = refl
take_none (x ∷ xs) = refl

pub drop_none : (xs : List ℕ) → drop 0 xs ≡ xs
drop_none [] = refl
drop_none (x ∷ xs) = refl

abbrev pub ids_in : List Plan → List ℕ
ids_in plans = map (λ (p : Plan). p.id) plans

-- What is left for these needs, by what the plans before took.
pub record AreLeft (ids : List ℕ) (needs : List Need) (front : List ℕ) (plans : List Plan) (left : List ℕ) : Type 0 where
  pub after : List Plan
  pub are : ids_in plans ≡ front ++ ids_in after
  pub have : HaveIds ids needs after left

own_taken : (ids : List ℕ) (bytes : ℕ) (b : Bool) (rest : List Need) (plans : List Plan) (left : List ℕ) → HaveIds ids (cond b [] ((let n : Need = record { id = None; bytes = bytes } in n) ∷ []) ++ rest) plans left
    → AreLeft (drop (one_if (not b)) ids) rest (take (one_if (not b)) ids) plans left
own_taken ids bytes true rest plans left have = record { after = plans; are = sym (ap (λ (xs : List ℕ). xs ++ ids_in plans) (take_none ids)); have = subst (λ (xs : List ℕ). HaveIds xs rest plans left) (sym (drop_none ids)) have }
own_taken ids bytes false rest [] left have = absurd have
own_taken ids bytes false rest (p ∷ plans) left have = record {
  after = plans;
  are = sym (ap (λ (xs : List ℕ). take 1 xs ++ ids_in plans) have.1 ∙ ap (λ (xs : List ℕ). (p.id ∷ xs) ++ ids_in plans) (take_none have.0));
  have = subst (λ (xs : List ℕ). HaveIds xs rest plans left) (sym (ap (drop 1) have.1 ∙ drop_none have.0)) have.2;
}

held_taken : (end : ℕ → ℕ) (held ids : List ℕ) (rest : List Need) (plans : List Plan) (left : List ℕ) → HaveIds ids (map (need_of end) held ++ rest) plans left → AreLeft ids rest held plans left
held_taken end [] ids rest plans left have = record { after = plans; are = refl; have = have }
held_taken end (id ∷ held) ids rest [] left have = absurd have
held_taken end (id ∷ held) ids rest (p ∷ plans) left have =
    let more = held_taken end held ids rest plans left (subst (λ (xs : List ℕ). HaveIds xs (map (need_of end) held ++ rest) plans left) have.1.1 have.2) in
    record { after = more.after; are = ap₂ (λ (n : ℕ) (ns : List ℕ). n ∷ ns) have.1.0 more.are; have = more.have }

out_taken : (out : Option Growth) (ids : List ℕ) (plans : List Plan) (left : List ℕ) → HaveIds ids (out_need out) plans left → ids_in plans ≡ take (one_if (is_some out)) ids
out_taken None ids [] left have = sym (take_none ids)
out_taken None ids (p ∷ plans) left have = absurd have
out_taken (Some g) ids [] left have = absurd have
out_taken (Some g) ids (p ∷ []) left have = sym (ap (take 1) have.1 ∙ ap (λ (xs : List ℕ). p.id ∷ xs) (take_none have.0))
out_taken (Some g) ids (p ∷ q ∷ plans) left have = absurd have.2

-- The first new one is the object's, if it has some bytes, and the next that of a directory that gets another; between them stand those that are held.
pub all_taken : (ids : List ℕ) (bytes : ℕ) (end : ℕ → ℕ) (held : List ℕ) (out : Option Growth) (plans : List Plan) (left : List ℕ) → HaveIds ids (own_need bytes ++ (map (need_of end) held ++ out_need out)) plans left
    → ids_in plans ≡ take (one_if (not (bytes == 0))) ids ++ (held ++ take (one_if (is_some out)) (drop (one_if (not (bytes == 0))) ids))
all_taken ids bytes end held out plans left have =
    let own = own_taken ids bytes (bytes == 0) (map (need_of end) held ++ out_need out) plans left have in
    let between = held_taken end held (drop (one_if (not (bytes == 0))) ids) (out_need out) own.after left own.have in
    own.are
    ∙ ap (λ (xs : List ℕ). take (one_if (not (bytes == 0))) ids ++ xs)
    (between.are ∙ ap (λ (xs : List ℕ). held ++ xs) (out_taken out (drop (one_if (not (bytes == 0))) ids) between.after left between.have))
