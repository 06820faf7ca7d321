-- A directory that was written part after part.
use Rattle.std.proofs.Common.{◌≡◌, ℕ, ◌-◌, ◌&&◌, true, false, List, [], ◌∷◌, ◌++◌, length, set, sym, ap, ap₂, ◌∙◌, arith, length-append}
use Rattle.std.proofs.lemmas.List.{set_at}
use Rattle.fc_bytes.specs.Checks.{big_dir_check}
use Rattle.fc_dirs.specs.Big.{BigDir, is_check_right}
use Rattle.fc_dirs.specs.BigBytes.{parts_bytes, parts_end, tail_bytes, laid, free_bytes, checked_bytes, big_bytes}

-- the check is set
pub check_set : (d : BigDir) (b : List ℕ) (last check end : ℕ) → b ≡ laid d (free_bytes d) 0 → last ≡ length b - 1 → end ≡ parts_end d → check ≡ big_dir_check b end → set b last check ≡ checked_bytes d
check_set d b last check end whole at place is =
    let u = parts_bytes d ++ free_bytes d ++ tail_bytes d in
    let len : length u ≡ last = omega (arith, ap length whole, length-append u (0 ∷ []), at) in
    ap (λ l. set l last check) whole ∙ set_at u 0 [] check last len
    ∙ ap (λ n. u ++ n ∷ []) (is ∙ ap₂ big_dir_check whole place)

-- then the word after the heap
pub word_set : (d : BigDir) (b : List ℕ) (end : ℕ) → b ≡ checked_bytes d → end ≡ parts_end d → d.second_form ≡ true → is_check_right false b ≡ true → set b end 1 ≡ big_bytes d
unfolding big_bytes
word_set d b end whole place form right =
    let first : is_check_right false (checked_bytes d) ≡ true = ap (is_check_right false) (sym whole) ∙ right in
    let both : (d.second_form && is_check_right false (checked_bytes d)) ≡ true = ap₂ (λ x y. x && y) form first in
    rw both (ap₂ (λ l n. set l n 1) whole place)

pub word_kept : (d : BigDir) (b : List ℕ) → b ≡ checked_bytes d → (d.second_form && is_check_right false b) ≡ false → b ≡ big_bytes d
unfolding big_bytes
word_kept d b whole other =
    let none : (d.second_form && is_check_right false (checked_bytes d)) ≡ false = ap (λ l. d.second_form && is_check_right false l) (sym whole) ∙ other in
    rw none whole
