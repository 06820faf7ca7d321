-- How long the script of a demo is.
use Rattle.std.proofs.Common.{◌≡◌, ◌<◌, ◌≤◌, ℕ, zero, suc, ◌+◌, ◌*◌, ◌/◌, ◌%◌, ◌^◌, ◌==◌, nat_lt, Bool, true, false, cond, List, [], ◌∷◌, ◌++◌, length, map, decimal, refl, sym, ap, subst, arith}
use Rattle.std.specs.Prelude.{if◌then◌else◌, codes}
use Rattle.std.specs.List.{flat_map, range_with_len}
use Rattle.std.proofs.lemmas.Fmt.{length-decimal-le}
use Rattle.std.proofs.lemmas.List.{length-append, length-map}
use Rattle.std.proofs.lemmas.List.FromFn.{length-range_with_len}
use Rattle.hex.specs.Hex.{encode_lower, lower_digits}
use Rattle.hex.proofs.HexLemmas.{length-encode_with}
use Rattle.fc_runs.specs.Demo.{compact_line, demo_command, demo_lines, demo_script, dir_path, draw, file_path, next_seed, saved_bytes, saved_word, with_newline}

-- ---- texts

both_short : (a b : List ℕ) (n m : ℕ) → length a ≤ n → length b ≤ m → length (a ++ b) ≤ n + m
both_short a b n m first second = let whole = length-append a b in omega (arith, first, second, whole)

either_short : (n : ℕ) (b : Bool) (x y : List ℕ) → length x ≤ n → length y ≤ n → length (if b then x else y) ≤ n
either_short n true x y one other = one
either_short n false x y one other = other

-- ---- words

number_short : (n : ℕ) → n < 10000 → length (decimal n) ≤ 4
number_short n few = length-decimal-le 4 n (omega arith) (omega (arith, few)) (omega (arith, few))

dir_short : (d : ℕ) → d < 10000 → length (dir_path d) ≤ 7
dir_short d few = both_short (codes "$.D") (decimal d) 3 4 (omega arith) (number_short d few)

file_short : (d f : ℕ) → d < 10000 → f < 10000 → length (file_path d f) ≤ 13
file_short d f few other = both_short (dir_path d ++ codes ".F") (decimal f) 9 4 (both_short (dir_path d) (codes ".F") 7 2 (dir_short d few) (omega arith)) (number_short f other)

word_short : (bytes : List ℕ) → length bytes ≤ 64 → length (saved_word bytes) ≤ 128
word_short [] few = omega arith
word_short (b ∷ bytes) few = let long = length-encode_with lower_digits (b ∷ bytes) in omega (arith, few, long)

bytes_few : (i count : ℕ) → count ≤ 64 → length (saved_bytes i count) ≤ 64
bytes_few i count few =
    let mapped = length-map (range_with_len 0 count) (λ (j : ℕ). (i + j) % 256) in
    let long = length-range_with_len 0 count in
    omega (arith, few, mapped, long)

-- ---- lines

save_short : (file word : List ℕ) → length file ≤ 13 → length word ≤ 128 → length (codes "save " ++ file ++ codes " fffff000 00000000 " ++ word) ≤ 170
save_short file word few short =
    let all = both_short (codes "save " ++ file ++ codes " fffff000 00000000 ") word 37 128
    (both_short (codes "save " ++ file) (codes " fffff000 00000000 ") 18 19 (both_short (codes "save ") file 5 13 (omega arith) few) (omega arith)) short in
    omega (arith, all)

create_short : (file number : List ℕ) → length file ≤ 13 → length number ≤ 4 → length (codes "create " ++ file ++ codes " 00000000 00000000 " ++ number) ≤ 170
create_short file number few short =
    let all = both_short (codes "create " ++ file ++ codes " 00000000 00000000 ") number 39 4
    (both_short (codes "create " ++ file) (codes " 00000000 00000000 ") 20 19 (both_short (codes "create ") file 7 13 (omega arith) few) (omega arith)) short in
    omega (arith, all)

rename_short : (file other : List ℕ) → length file ≤ 13 → length other ≤ 13 → length (codes "rename " ++ file ++ codes " " ++ other) ≤ 170
rename_short file other few short =
    let all = both_short (codes "rename " ++ file ++ codes " ") other 21 13
    (both_short (codes "rename " ++ file) (codes " ") 20 1 (both_short (codes "rename ") file 7 13 (omega arith) few) (omega arith)) short in
    omega (arith, all)

word_and_short : (word file : List ℕ) → length word ≤ 7 → length file ≤ 13 → length (word ++ file) ≤ 170
word_and_short word file few short = let all = both_short word file 7 13 few short in omega (arith, all)

command_short : (i a b c : ℕ) → length (demo_command i a b c) ≤ 170
command_short i a b c =
    let d : ℕ = a % 8 in
    let f : ℕ = b % 16 in
    let m : ℕ = c / 8 in
    let low : d < 10000 = omega arith in
    let few : f < 10000 = omega arith in
    let next : (d + 1) % 8 < 10000 = omega arith in
    let file : List ℕ = file_path d f in
    let short : length (file_path d f) ≤ 13 = file_short d f low few in
    let dir = dir_short d low in
    let word : List ℕ = saved_word (saved_bytes i (m % 64)) in
    let save : List ℕ = codes "save " ++ file ++ codes " fffff000 00000000 " ++ word in
    let create : List ℕ = codes "create " ++ file ++ codes " 00000000 00000000 " ++ decimal (m % 4096) in
    let delete : List ℕ = codes "delete " ++ file in
    let rename : List ℕ = codes "rename " ++ file ++ codes " " ++ file_path ((d + 1) % 8) f in
    let load : List ℕ = codes "load " ++ file in
    let cat : List ℕ = codes "cat " ++ dir_path d in
    let fifth : List ℕ = if c % 8 == 6 then load else cat in
    let fourth : List ℕ = if c % 8 == 5 then rename else fifth in
    let third : List ℕ = if c % 8 == 4 then delete else fourth in
    let second : List ℕ = if c % 8 == 3 then create else third in
    either_short 170 (nat_lt (c % 8) 3) save second (save_short file word short (word_short (saved_bytes i (m % 64)) (bytes_few i (m % 64) (omega arith))))
    (either_short 170 (c % 8 == 3) create third (create_short file (decimal (m % 4096)) short (number_short (m % 4096) (omega arith)))
    (either_short 170 (c % 8 == 4) delete fourth (word_and_short (codes "delete ") file (omega arith) short)
    (either_short 170 (c % 8 == 5) rename fifth (rename_short file (file_path ((d + 1) % 8) f) short (file_short ((d + 1) % 8) f next few))
    (either_short 170 (c % 8 == 6) load cat (word_and_short (codes "load ") file (omega arith) short) (word_and_short (codes "cat ") (dir_path d) (omega arith) (omega (arith, dir)))))))

compact_short : (i : ℕ) → length (compact_line i) ≤ 8
compact_short i = either_short 8 (i % 64 == 63) (with_newline (codes "compact")) [] (omega arith) (omega arith)

lines_short : (n i x : ℕ) → length (demo_lines n i x) ≤ 200 * n
unfolding demo_lines
lines_short zero i x = omega arith
lines_short (suc n) i x =
    let a = next_seed x in
    let b = next_seed a in
    let c = next_seed b in
    let line = demo_command i (draw a) (draw b) (draw c) in
    let rest = lines_short n (i + 1) c in
    let all = both_short (with_newline line ++ compact_line i) (demo_lines n (i + 1) c) 179 (200 * n)
    (both_short (with_newline line) (compact_line i) 171 8 (both_short line (10 ∷ []) 170 1 (command_short i (draw a) (draw b) (draw c)) (omega arith)) (compact_short i)) rest in
    omega (arith, all)

dirs_short : (n a : ℕ) → a + n < 10000 → length (flat_map (λ d. with_newline (codes "cdir " ++ dir_path d)) (range_with_len a n)) ≤ 13 * n
dirs_short zero a few = omega arith
dirs_short (suc n) a few =
    let one = both_short (codes "cdir " ++ dir_path a) (10 ∷ []) 12 1 (both_short (codes "cdir ") (dir_path a) 5 7 (omega arith) (dir_short a (omega (arith, few)))) (omega arith) in
    let rest = dirs_short n (a + 1) (omega (arith, few)) in
    let all = both_short (with_newline (codes "cdir " ++ dir_path a)) (flat_map (λ d. with_newline (codes "cdir " ++ dir_path d)) (range_with_len (a + 1) n)) 13 (13 * n) one rest in
    omega (arith, all)

-- The script has at most so many bytes.
pub script_short : (n : ℕ) → length (demo_script n) ≤ 115 + 200 * n
unfolding demo_script
script_short n =
    let dirs = flat_map (λ d. with_newline (codes "cdir " ++ dir_path d)) (range_with_len 0 8) in
    let all = both_short (dirs ++ demo_lines n 0 n ++ with_newline (codes "check")) (with_newline (codes "free")) (104 + 200 * n + 6) 5
    (both_short (dirs ++ demo_lines n 0 n) (with_newline (codes "check")) (104 + 200 * n) 6 (both_short dirs (demo_lines n 0 n) 104 (200 * n) (dirs_short 8 0 (omega arith)) (lines_short n 0 n)) (omega arith))
    (omega arith) in
    omega (arith, all)
