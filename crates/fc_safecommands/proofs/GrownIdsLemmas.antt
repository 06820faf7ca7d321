-- The identifiers of the plans of a job by which a directory grows: no two are the same.
use Rattle.std.proofs.Common.{◌≡◌, ⊎_elim, ℕ, zero, suc, List, [], ◌∷◌, ◌++◌, drop, take, refl, sym, ap, subst, ◌∙◌}
use Rattle.std.specs.Prelude.{Contains}
use Rattle.std.proofs.lemmas.List.Elements.{Contains-append_cases}
use Rattle.fc_image.proofs.EntriesLemmas.{cases as contains_cases, later as contains_later}
use Rattle.fc_edits.specs.NewNodes.{AreDistinct}
use Rattle.fc_tree.proofs.MemberLemmas.{contains_here, no_element}

from_take : (n : ℕ) (xs : List ℕ) (x : ℕ) → Contains (take n xs) x → Contains xs x
from_take zero [] x at = at
from_take zero (y ∷ xs) x at = absurd (no_element x at)
from_take (suc n) [] x at = at
from_take (suc n) (y ∷ xs) x at = ⊎_elim (λ same. subst (Contains (y ∷ xs)) same (contains_here y xs)) (λ later. contains_later y x xs (from_take n xs x later)) (contains_cases y x (take n xs) at)

from_drop : (n : ℕ) (xs : List ℕ) (x : ℕ) → Contains (drop n xs) x → Contains xs x
from_drop zero [] x at = at
from_drop zero (y ∷ xs) x at = at
from_drop (suc n) [] x at = at
from_drop (suc n) (y ∷ xs) x at = contains_later y x xs (from_drop n xs x at)

taken_once : (n : ℕ) (xs : List ℕ) → AreDistinct xs → AreDistinct (take n xs)
taken_once zero [] once = tt
taken_once zero (x ∷ xs) once = tt
taken_once (suc n) [] once = tt
taken_once (suc n) (x ∷ xs) once = (λ at. once.0 (from_take n xs x at), taken_once n xs once.1)

joined_once : (xs ys : List ℕ) → AreDistinct xs → AreDistinct ys → ((k : ℕ) → Contains xs k → Contains ys k → ⊥) → AreDistinct (xs ++ ys)
joined_once [] ys once more apart = more
joined_once (x ∷ xs) ys once more apart = (
  λ at. ⊎_elim (λ here. once.0 here) (λ there. apart x (contains_here x xs) there) (Contains-append_cases xs ys x at),
  joined_once xs ys once.1 more (λ k first second. apart k (contains_later x k xs first) second),
)

-- Some of a list, others, and then some of what is left of the first list.
pub spliced_once : (a b : ℕ) (new ks : List ℕ) → AreDistinct new → AreDistinct ks → ((k : ℕ) → Contains ks k → Contains new k → ⊥) → AreDistinct (take a new ++ (ks ++ take b (drop a new)))
spliced_once zero b [] ks once more apart = joined_once ks (take b []) more (taken_once b [] tt) (λ k first second. no_element k (from_take b [] k second))
spliced_once zero b (n ∷ new) ks once more apart = joined_once ks (take b (n ∷ new)) more (taken_once b (n ∷ new) once) (λ k first second. apart k first (from_take b (n ∷ new) k second))
spliced_once (suc a) b [] ks once more apart = joined_once ks (take b []) more (taken_once b [] tt) (λ k first second. no_element k (from_take b [] k second))
spliced_once (suc a) b (n ∷ new) ks once more apart = (
  λ at. ⊎_elim (λ own. once.0 (from_take a new n own)) (λ rest. ⊎_elim (λ old. apart n old (contains_here n new)) (λ last. once.0 (from_drop a new n (from_take b (drop a new) n last)))
      (Contains-append_cases ks (take b (drop a new)) n rest)) (Contains-append_cases (take a new) (ks ++ take b (drop a new)) n at),
  spliced_once a b new ks once.1 more (λ k first second. apart k first (contains_later n k new second)),
)
