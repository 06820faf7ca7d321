-- The texts of runs, line by line.
use Rattle.std.proofs.Common.{◌≡◌, ℕ, ◌+◌, ◌-◌, suc, min, Bool, true, nat_le, List, [], ◌∷◌, ◌++◌, length, take, Option, Some, None, refl, sym, ap, ◌∙◌, arith, append_assoc}
use Rattle.std.specs.Prelude.{if◌then◌else◌, slice_get}
use Rattle.std.proofs.lemmas.Bool.Decides.{nat_tests}
use Rattle.std.proofs.lemmas.List.{append-nil, length-append, take-append-le}
use Rattle.std.proofs.lemmas.Grind.{common_steps, flat_map-append}
use Rattle.fc_runs.specs.Early.{text_begun}
use Rattle.fc_runs.specs.Run.{text_of, whole_replies}

-- ---- texts

pub one_more : (replies : List (List ℕ)) (reply : List ℕ) → text_of (replies ++ reply ∷ []) ≡ text_of replies ++ reply
one_more replies reply = flat_map-append (λ (r : List ℕ). r) replies (reply ∷ []) ∙ ap (λ (text : List ℕ). text_of replies ++ text) (append-nil reply)

-- Replies that were written whole are counted.
pub whole_all : (replies : List (List ℕ)) (more : List ℕ) → whole_replies (length (text_of replies ++ more)) replies ≡ length replies
whole_all [] more = refl
whole_all (reply ∷ replies) more =
    let rest = length (text_of replies ++ more) in
    let n = length ((reply ++ text_of replies) ++ more) in
    let long : n ≡ length reply + rest = ap length (append_assoc reply (text_of replies) more) ∙ length-append reply (text_of replies ++ more) in
    let fits : nat_le (length reply) n ≡ true = grind (arith, nat_tests, long) in
    let left : n - length reply ≡ rest = omega (arith, long) in
    ap (λ (b : Bool). if b then suc (whole_replies (n - length reply) replies) else 0) fits ∙ ap (λ (k : ℕ). suc (whole_replies k replies)) left ∙ ap suc (whole_all replies more)

pub get_next : (xs : List (List ℕ)) (y : List ℕ) (ys : List (List ℕ)) (n : ℕ) → n ≡ length xs → slice_get (xs ++ y ∷ ys) n ≡ Some y
get_next [] y ys n is = rw is refl
get_next (x ∷ xs) y ys n is = rw is (get_next xs y ys (length xs) refl)

-- a part of a text is one from the front of both
pub front_part : (n : ℕ) (a b : List ℕ) → (k : ℕ) × (take n a ≡ take k (a ++ b))
front_part n a b = (min n (length a), sym (take-append-le (min n (length a)) a b (omega arith) ∙ take-min n a))
  where
    take-min : (n : ℕ) (xs : List ℕ) → take (min n (length xs)) xs ≡ take n xs
    take-min n xs = grind (arith, common_steps)

-- the text of a run begins with its replies
pub begun_front : (replies : List (List ℕ)) (next : Option (List ℕ)) (begun : List ℕ → List ℕ) → (rest : List ℕ) × (text_begun None replies next begun ≡ text_of replies ++ rest)
begun_front replies None begun = ([], sym (append-nil (text_of replies)))
begun_front replies (Some line) begun = (begun line, refl)
