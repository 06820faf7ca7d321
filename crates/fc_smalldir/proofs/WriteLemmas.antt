-- A directory that was written part after part.
use Rattle.std.proofs.Common.{◌≡◌, ℕ, ◌+◌, ◌-◌, ◌*◌, List, [], ◌∷◌, ◌++◌, length, take, set, replicate, refl, sym, ap, ap₂, ◌∙◌, arith, length-append}
use Rattle.std.specs.List.{flat_map}
use Rattle.std.proofs.lemmas.List.{take_all, set_at}
use Rattle.byteorder.specs.Endian.{little_bytes}
use Rattle.fc_dirs.specs.declared.Entry.{Entry}
use Rattle.fc_dirs.specs.declared.SmallForm.{SmallForm}
use Rattle.fc_dirs.specs.declared.SmallForm.TheVariants.{Bytes1280, Bytes2048}
use Rattle.fc_dirs.specs.Small.{SmallDir, tail_of, entries_end}
use Rattle.fc_smalldir.specs.declared.head.Head.{Head}
use Rattle.fc_smalldir.specs.Fields.{dir_of}
use Rattle.fc_dirs.specs.SmallBytes.{small_bytes, bytes_before_check, head_bytes, free_bytes, tail_bytes, first_field, last_field, entry_bytes, check_of}

same_first : (form : SmallForm) (d e : SmallDir) → d.reserved ≡ e.reserved → d.name ≡ e.name → first_field form d ≡ first_field form e
same_first Bytes2048 d e r n = r
same_first Bytes1280 d e r n = n

same_last : (form : SmallForm) (d e : SmallDir) → d.reserved ≡ e.reserved → d.name ≡ e.name → last_field form d ≡ last_field form e
same_last Bytes2048 d e r n = n
same_last Bytes1280 d e r n = r

-- the tail doesn't depend on the entries
pub same_tail : (head : Head) (es : List Entry) → tail_bytes (dir_of head []) ≡ tail_bytes (dir_of head es)
same_tail head es =
    let d = dir_of head [] in
    let e = dir_of head es in
    ap₂ (λ a b. a ++ little_bytes 3 head.parent ++ head.title ++ b ++ head_bytes e) (same_first head.form d e refl refl) (same_last head.form d e refl refl)

-- one part after another makes the whole, with a check of 0
pub parts_written : (d : SmallDir) (b0 b1 b2 b3 b4 b5 : List ℕ) (at1 at2 tail at4 at5 : ℕ)
    → take at1 b1 ≡ take 0 b0 ++ head_bytes d
    → take at2 b2 ≡ take at1 b1 ++ flat_map (entry_bytes d.form) d.entries → at2 ≡ 5 + 26 * length d.entries
    → take tail b3 ≡ take at2 b2 ++ replicate (tail - at2) 0 → tail ≡ 6 + 26 * (tail_of d.form).places
    → take at4 b4 ≡ take tail b3 ++ tail_bytes d
    → take at5 b5 ≡ take at4 b4 ++ 0 ∷ [] → length b5 ≡ at5 → b5 ≡ bytes_before_check d ++ 0 ∷ []
parts_written d b0 b1 b2 b3 b4 b5 at1 at2 tail at4 at5 head entries end zeros tail_is rest check size =
    let free : tail - at2 ≡ 26 * (tail_of d.form).places + 1 - 26 * length d.entries = omega (arith, end, tail_is) in
    let h : take at1 b1 ≡ head_bytes d = head in
    let e : take at2 b2 ≡ head_bytes d ++ flat_map (entry_bytes d.form) d.entries = entries ∙ ap (λ l. l ++ flat_map (entry_bytes d.form) d.entries) h in
    let z : take tail b3 ≡ head_bytes d ++ flat_map (entry_bytes d.form) d.entries ++ free_bytes d = zeros ∙ ap₂ (λ l n. l ++ replicate n 0) e free in
    let t : take at4 b4 ≡ bytes_before_check d = rest ∙ ap (λ l. l ++ tail_bytes d) z in
    sym (take_all at5 b5 (omega (arith, size))) ∙ check ∙ ap (λ l. l ++ 0 ∷ []) t

-- then the check is set
pub check_set : (d : SmallDir) (b5 : List ℕ) (at4 check : ℕ) → b5 ≡ bytes_before_check d ++ 0 ∷ [] → length b5 ≡ at4 + 1
    → check ≡ check_of d.form b5 (entries_end d.entries) → set b5 at4 check ≡ small_bytes d
unfolding small_bytes
check_set d b5 at4 check whole size is =
    let u = bytes_before_check d in
    let len : length u ≡ at4 = omega (arith, ap length whole, length-append u (0 ∷ []), size) in
    ap (λ l. set l at4 check) whole ∙ set_at u 0 [] check at4 len
    ∙ ap (λ n. u ++ n ∷ []) (is ∙ ap (λ l. check_of d.form l (entries_end d.entries)) whole)
