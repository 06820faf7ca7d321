-- Reading a script.
use Rattle.std.specs.Prelude.{◌≡◌, ◌<◌, ◌≤◌, ℕ, ◌+◌, [], List, ◌++◌, drop, length, Option, Some, None, option_map}
use Rattle.std.specs.Option.{ForSome}
use Rattle.fc_shell.specs.Replies.{script_limit}

-- These bytes were given, and the others are left.
abbrev pub Gave : Option (List ℕ) → Option (List ℕ) → List ℕ → Type 0
Gave before after bytes = before ≡ option_map (λ rest. bytes ++ rest) after

-- what is left after the first byte past the limit
abbrev pub behind_limit : Option (List ℕ) → Option (List ℕ)
behind_limit before = option_map (drop (script_limit + 1)) before

-- The whole script, which isn't too long, was read; or it is too long, and just the bytes up to the first past the limit
-- were given.
abbrev pub IsScript : Option (List ℕ) → Option (List ℕ) → Option (List ℕ) → Type 0
IsScript before after (Some bytes) = ForSome before (λ text. bytes ≡ text) × ForSome after (λ rest. rest ≡ []) × (length bytes ≤ script_limit)
IsScript before after None = ForSome before (λ text. script_limit < length text) × (after ≡ behind_limit before)
