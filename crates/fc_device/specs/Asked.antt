-- What is asked of `attach`.
use Rattle.std.specs.Prelude.{ℕ, List, Option}

-- a name, and the bytes of a fresh image, if one is to be made
abbrev pub Asked : Type 0
Asked = List ℕ × Option ℕ
