-- What a run writes.
use Rattle.std.specs.Prelude.{◌≡◌, ℕ, List, ◌++◌, take, Option, option_map}

-- The whole text stands after what was taken before, if that is known.
abbrev pub Wrote : Option (List ℕ) → Option (List ℕ) → List ℕ → Type 0
Wrote before after text = after ≡ option_map (λ taken. taken ++ text) before

-- a part from the front of the text does
abbrev pub WrotePart : Option (List ℕ) → Option (List ℕ) → List ℕ → Type 0
WrotePart before after text = (n : ℕ) × Wrote before after (take n text)
