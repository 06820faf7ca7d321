-- Lines of a demo, one after another.
use Rattle.std.proofs.Common.{◌≡◌, ℕ, zero, suc, ◌+◌, List, ◌++◌, sym, ap, ap₂, ◌∙◌, arith, append_assoc}
use Rattle.std.proofs.lemmas.List.{append-nil}
use Rattle.std.specs.List.{flat_map, range_with_len}
use Rattle.std.specs.Prelude.{codes}
use Rattle.fc_runs.specs.Demo.{compact_line, demo_command, demo_lines, demo_script, dir_path, draw, next_seed, with_newline}
use Rattle.fc_demo.specs.Drawing.{IsDrawn}

-- one more number
pub flat_map_more : (f : ℕ → List ℕ) (a n : ℕ) → flat_map f (range_with_len a (suc n)) ≡ flat_map f (range_with_len a n) ++ f (a + n)
flat_map_more f a zero = append-nil (f a) ∙ ap f (let e : a ≡ a + 0 = omega arith in e)
flat_map_more f a (suc n) =
    ap (λ xs. f a ++ xs) (flat_map_more f (a + 1) n ∙ ap (λ k. flat_map f (range_with_len (a + 1) n) ++ f k) (let e : a + 1 + n ≡ a + suc n = omega arith in e))
    ∙ sym (append_assoc (f a) (flat_map f (range_with_len (a + 1) n)) (f (a + suc n)))

pub flat_map_next : (f : ℕ → List ℕ) (d : ℕ) → flat_map f (range_with_len 0 (d + 1)) ≡ flat_map f (range_with_len 0 d) ++ f d
flat_map_next f d =
    let one : d + 1 ≡ suc d = omega arith in
    let here : 0 + d ≡ d = omega arith in
    ap (λ (k : ℕ). flat_map f (range_with_len 0 k)) one ∙ flat_map_more f 0 d ∙ ap (λ (k : ℕ). flat_map f (range_with_len 0 d) ++ f k) here

-- the first of the lines that are left is drawn
pub lines_left : (n i k x next : ℕ) (before after : List ℕ) → k ≡ suc n → IsDrawn i x before after next → before ++ demo_lines k i x ≡ after ++ demo_lines n (i + 1) next
unfolding demo_lines
lines_left n i k x next before after k_is drawn =
    let line = with_newline (demo_command i (draw (next_seed x)) (draw (next_seed (next_seed x))) (draw (next_seed (next_seed (next_seed x))))) in
    let rest = demo_lines n (i + 1) (next_seed (next_seed (next_seed x))) in
    ap (λ (m : ℕ). before ++ demo_lines m i x) k_is
    ∙ sym (append_assoc before (line ++ compact_line i) rest)
    ∙ ap (λ xs. xs ++ rest) (sym (append_assoc before line (compact_line i)))
    ∙ ap₂ (λ xs y. xs ++ demo_lines n (i + 1) y) (sym drawn.line) (sym drawn.state)

-- none is left
pub no_lines : (i x : ℕ) (text : List ℕ) → text ++ demo_lines 0 i x ≡ text
unfolding demo_lines
no_lines i x text = append-nil text

-- directories, lines and the end are the whole script
pub whole_script : (n : ℕ) (first second third : List ℕ) → first ≡ flat_map (λ d. with_newline (codes "cdir " ++ dir_path d)) (range_with_len 0 8)
    → second ≡ first ++ demo_lines n 0 n → third ≡ second ++ codes "check\nfree\n" → third ≡ demo_script n
unfolding demo_script
whole_script n first second third one two three =
    three ∙ ap (λ xs. xs ++ codes "check\nfree\n") (two ∙ ap (λ xs. xs ++ demo_lines n 0 n) one)
    ∙ sym (append_assoc (flat_map (λ d. with_newline (codes "cdir " ++ dir_path d)) (range_with_len 0 8) ++ demo_lines n 0 n) (with_newline (codes "check")) (with_newline (codes "free")))
