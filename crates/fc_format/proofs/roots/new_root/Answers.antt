use Rattle.std.proofs.Common.{◌≡◌, ◌∷◌, ◌++◌, [], List, ℕ, slice_set, refl, ap, ◌∙◌}
use Rattle.byteorder.specs.Endian.{little_bytes}
use Rattle.fc_bytes.specs.Bits.{overwritten}
use Rattle.fc_bytes.specs.Checks.{small_dir_check}
use Rattle.fc_dirs.specs.Entries.{padded_name}
use Rattle.fc_dirs.specs.Small.{nick_word}
use Rattle.fc_format.specs.Fresh.{zeros}
use Rattle.fc_format.proofs.roots.new_root.Goals as goal

-- all but the check, which is 0
abbrev laid : ℕ → List ℕ
laid parent = 0 ∷ nick_word ++ zeros 2005 ++ little_bytes 3 parent ++ padded_name 19 (36 ∷ []) ++ padded_name 10 (36 ∷ []) ++ 0 ∷ nick_word ++ 0 ∷ []

abbrev name : List ℕ
name = 36 ∷ 13 ∷ []

laid_is : (parent : ℕ) → overwritten (overwritten (overwritten (overwritten (overwritten (zeros 2048) 1 nick_word) 2010 (little_bytes 3 parent)) 2013 name) 2032 name) 2043 nick_word ≡ laid parent
laid_is parent = refl

pub returns : goal.returns
returns c =
    let parent = c.args.parent in
    let whole : c.put-4.new.b ≡ laid parent =
    c.put-4.ensures.bytes
    ∙ ap (λ (l : List ℕ). overwritten l 2043 nick_word) (c.put-3.ensures.bytes
    ∙ ap (λ (l : List ℕ). overwritten l 2032 name) (c.put-2.ensures.bytes
    ∙ ap (λ (l : List ℕ). overwritten l 2013 name) (c.put_le24.ensures.bytes
    ∙ ap (λ (l : List ℕ). overwritten l 2010 (little_bytes 3 parent)) c.put.ensures.bytes)))
    ∙ laid_is parent in
    ap (λ (l : List ℕ). slice_set l 2047 c.small_dir_check.result) whole
    ∙ ap (slice_set (laid parent) 2047) (c.small_dir_check.ensures ∙ ap (λ (l : List ℕ). small_dir_check l 5) whole)
