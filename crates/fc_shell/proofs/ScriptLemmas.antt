-- A script that is too long: what its source has left, and how a run ends by it.
use Rattle.std.proofs.Common.{◌≡◌, ◌<◌, ℕ, ◌+◌, List, ◌++◌, length, drop, Option, Some, None, option_map, sym, ap, ◌∙◌, arith}
use Rattle.std.specs.Option.{ForSome}
use Rattle.std.proofs.lemmas.List.{drop_at, length-append}
use Rattle.fc_shell.specs.Replies.{script_limit}
use Rattle.fc_shell.specs.Script.{Gave, IsScript}

-- all after the bytes that it gave
pub left_behind : (before after : Option (List ℕ)) (bytes : List ℕ) (n : ℕ) → length bytes ≡ n → Gave before after bytes → after ≡ option_map (drop n) before
left_behind before None bytes n long gave = ap (option_map (drop n)) (sym gave)
left_behind before (Some rest) bytes n long gave = ap Some (sym (drop_at bytes rest n long)) ∙ ap (option_map (drop n)) (sym gave)

-- it had at least those
pub had_more : (before after : Option (List ℕ)) (bytes : List ℕ) (n : ℕ) → n < length bytes → Gave before after bytes → ForSome before (λ text. n < length text)
had_more before None bytes n long gave text told = absurd (cc)
had_more before (Some rest) bytes n long gave text told =
    let is : text ≡ bytes ++ rest = cc in
    rw is (rw length-append (omega arith))

-- one byte more than any script that is run
pub too_long : (before after : Option (List ℕ)) (bytes : List ℕ) → length bytes ≡ script_limit + 1 → Gave before after bytes → IsScript before after None
too_long before after bytes long gave = (had_more before after bytes script_limit (omega (arith, long)) gave, left_behind before after bytes (script_limit + 1) long gave)
