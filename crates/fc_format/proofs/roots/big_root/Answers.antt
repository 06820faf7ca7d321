use Rattle.std.proofs.Common.{◌≡◌, ◌∷◌, ◌++◌, [], List, ℕ, slice_set, refl, ap, ◌∙◌}
use Rattle.fc_bytes.specs.Checks.{big_dir_check}
use Rattle.fc_format.specs.Fresh.{zeros}
use Rattle.fc_format.proofs.roots.big_root.Goals as goal

-- all but the check, which is 0
abbrev laid : List ℕ
laid =
    zeros 4 ++ (0x53 ∷ 0x42 ∷ 0x50 ∷ 0x72 ∷ 1 ∷ 0 ∷ 0 ∷ 0 ∷ 0 ∷ 8 ∷ []) ++ zeros 10 ++ (1 ∷ 3 ∷ 0 ∷ 0 ∷ 36 ∷ 13 ∷ 0 ∷ 0 ∷ [])
    ++ zeros 2008 ++ (0x6F ∷ 0x76 ∷ 0x65 ∷ 0x6E ∷ 0 ∷ 0 ∷ 0 ∷ 0 ∷ [])

pub returns : goal.returns
returns c =
    let whole : c.put-3.new.b ≡ laid = rw (c.put-3.ensures.bytes, c.put-2.ensures.bytes, c.put_le24-2.ensures.bytes, c.put_le24.ensures.bytes, c.put.ensures.bytes) refl in
    ap (λ l. slice_set l 2047 c.big_dir_check.result) whole
    ∙ ap (slice_set laid 2047) (c.big_dir_check.ensures ∙ ap (λ l. big_dir_check l 32) whole)
