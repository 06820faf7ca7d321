-- Bytes given to a hasher, one piece after another.
use Rattle.std.proofs.Common.{◌≡◌, ℕ, List, ◌++◌, sym, subst, ◌∙◌, append_assoc}
use Rattle.sha2.specs.declared.Sha256.{Sha256}
use Rattle.sha2.specs.Hashers.{Holds256}

-- one piece more
pub fed_more : (hasher : Sha256) (m all done piece rest : List ℕ) → Holds256 hasher ((m ++ done) ++ piece) → all ≡ done ++ (piece ++ rest)
    → (more : List ℕ) × Holds256 hasher (m ++ more) × (all ≡ more ++ rest)
fed_more hasher m all done piece rest held so_far = (done ++ piece, subst (Holds256 hasher) (append_assoc m done piece) held, so_far ∙ sym (append_assoc done piece rest))
