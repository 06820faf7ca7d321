-- A file of which only the first bytes are given: what is written of these is what is written of all, since zeros fill a sector.
use Rattle.std.proofs.Common.{◌≡◌, ◌≤◌, ◌⊎◌, inl, inr, ℕ, ◌+◌, ◌-◌, ◌*◌, List, [], ◌∷◌, ◌++◌, length, take, drop, replicate, append_assoc, length-append, refl, sym, ap, ap₂, subst, ◌∙◌, arith}
use Rattle.std.proofs.lemmas.Bool.{cases_lt}
use Rattle.std.proofs.lemmas.List.{append-nil, length-replicate, drop-append-le, drop-replicate, drop_all, replicate-append-replicate, take-replicate}
use Rattle.std.proofs.Math.Seq.{drop-append-add}
use Rattle.fc_names.specs.Names.{Path}
use Rattle.fc_changes.specs.Changed.{MakesFile}
use Rattle.fc_model.specs.Command.{Command}
use Rattle.fc_objects.specs.Written.{padded, part_at}
use Rattle.fc_objects.proofs.BlockLemmas.{take_both}
use Rattle.fc_writing.specs.Content.{Content, numbered, stored}
use Rattle.fc_change.specs.declared.job.FileWords.{FileWords}
use Rattle.fc_commands.proofs.ArrivalLemmas.{Arrival, Brings}
use Rattle.fc_objects.proofs.WriteLemmas.{zeros_front}
use Rattle.fc_commands.specs.Given.{filled}

pub filled_long : (len : ℕ) (bytes : List ℕ) → length bytes ≤ len → length (filled len bytes) ≡ len
filled_long len bytes fits = omega (arith, fits, length-append bytes (replicate (len - length bytes) 0), length-replicate {A = ℕ} (len - length bytes) 0)

filled_whole : (bytes : List ℕ) → filled (length bytes) bytes ≡ bytes
filled_whole bytes = ap (λ (n : ℕ). bytes ++ replicate n 0) (let e : length bytes - length bytes ≡ 0 = omega arith in e) ∙ append-nil bytes

filled_zeros : (len : ℕ) → filled len [] ≡ replicate len 0
filled_zeros len = ap (λ (n : ℕ). replicate n 0) (let e : len - 0 ≡ len = omega arith in e)

-- ---- the commands

-- No more bytes are given than the file has.
pub given_long : (words : FileWords) (path : Path) (bytes : List ℕ) (c : Command) → Brings (Arrival.Saves words) path bytes c → length bytes ≤ words.len
given_long words path bytes c (inl is) = let long = is.1 in omega (arith, long)
given_long words path bytes c (inr is) = subst (λ (bs : List ℕ). length bs ≤ words.len) (sym is.1) (omega arith)

-- The command makes the file of all of them.
pub makes_file : (words : FileWords) (path : Path) (bytes : List ℕ) (c : Command) → Brings (Arrival.Saves words) path bytes c → MakesFile c path words.load words.exec (filled words.len bytes)
makes_file words path bytes c (inl is) = inl (is.0 ∙ ap (Command.Save path words.load words.exec) (sym (ap (λ (n : ℕ). filled n bytes) is.1 ∙ filled_whole bytes)))
makes_file words path bytes c (inr is) =
    let long : length (filled words.len []) ≡ words.len = filled_long words.len [] (omega arith) in
    let zeros : filled words.len [] ≡ replicate (length (filled words.len [])) 0 = filled_zeros words.len ∙ ap (λ (n : ℕ). replicate n 0) (sym long) in
    subst (λ (bs : List ℕ). MakesFile c path words.load words.exec (filled words.len bs)) (sym is.1) (inr (is.0 ∙ ap (Command.Create path words.load words.exec) (sym long), zeros))

-- ---- a part of the bytes

drop_both : (n : ℕ) (xs ys : List ℕ) → drop n (xs ++ ys) ≡ drop n xs ++ drop (n - length xs) ys
drop_both n xs ys = elim (cases_lt n (length xs)) [
  | inl below ↦ drop-append-le n xs ys (omega (arith, below)) ∙ ap (λ (k : ℕ). drop n xs ++ drop k ys) (let e : 0 ≡ n - length xs = omega (arith, below) in e)
  | inr above ↦
      ap (λ (k : ℕ). drop k (xs ++ ys)) (let e : n ≡ length xs + (n - length xs) = omega (arith, above) in e)
      ∙ drop-append-add xs ys (n - length xs)
      ∙ ap (λ (zs : List ℕ). zs ++ drop (n - length xs) ys) (sym (drop_all n xs (omega (arith, above))))
]

-- a sector has zeros after the bytes in any case
padded_more : (size k : ℕ) (xs : List ℕ) → padded size (xs ++ replicate k 0) ≡ padded size xs
unfolding padded
padded_more size k xs =
    ap (take size) (append_assoc xs (replicate k 0) (replicate size 0) ∙ ap (λ (zs : List ℕ). xs ++ zs) (replicate-append-replicate k size 0))
    ∙ take_both size xs (replicate (k + size) 0)
    ∙ ap (λ (zs : List ℕ). take size xs ++ zs) (zeros_front (size - length xs) (k + size) (omega arith) ∙ sym (zeros_front (size - length xs) size (omega arith)))
    ∙ sym (take_both size xs (replicate size 0))

part_filled : (size len i : ℕ) (bytes : List ℕ) → part_at size (filled len bytes) i ≡ part_at size bytes i
part_filled size len i bytes =
    ap (padded size) (drop_both (i * size) bytes (replicate (len - length bytes) 0) ∙ ap (λ (zs : List ℕ). drop (i * size) bytes ++ zs) (drop-replicate (i * size - length bytes) (len - length bytes) 0))
    ∙ padded_more size (len - length bytes - (i * size - length bytes)) (drop (i * size) bytes)

same_numbered : (f g : ℕ → List ℕ) → ((i : ℕ) → f i ≡ g i) → (i : ℕ) (sectors : List ℕ) → numbered f i sectors ≡ numbered g i sectors
same_numbered f g same i [] = refl
same_numbered f g same i (s ∷ sectors) = ap₂ (λ (bs : List ℕ) (c : Content). (s, bs) ∷ c) (same i) (same_numbered f g same (i + 1) sectors)

pub stored_filled : (size len : ℕ) (sectors bytes : List ℕ) → stored size sectors bytes ≡ stored size sectors (filled len bytes)
stored_filled size len sectors bytes = same_numbered (part_at size bytes) (part_at size (filled len bytes)) (λ i. sym (part_filled size len i bytes)) 0 sectors
