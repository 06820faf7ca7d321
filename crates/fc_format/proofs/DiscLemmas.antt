-- The discs of fresh volumes, as they are written.
use Rattle.std.proofs.Common.{Result, Ok, Err, OnOk, Option, Some, None, option_map, drop, ◌≡◌, ◌≤◌, ◌%◌, ℕ, ◌+◌, ◌-◌, ◌*◌, ◌/◌, List, [], ◌∷◌, ◌++◌, length, refl, ap, ◌∙◌, append_assoc, sym, arith, length-append}
use Rattle.std.proofs.lemmas.List.{length-replicate}
use denote.Bor.{Bor}
use Rattle.fc_oldmap.specs.OldMap.{with_holes}
use Rattle.fc_device.specs.declared.disk.Disk.{Ghosts}
use Rattle.fc_format.specs.declared.Format.{Format}
use Rattle.fc_format.specs.declared.Format.TheVariants.{E, F, D, L, EPlus, FPlus}
use Rattle.fc_format.specs.Fresh.{big_root, boot_block, e_map, e_plus_map, f_map, f_plus_map, f_record, format_size, fresh_image, front_of, new_root, old_map_with, old_root, plus_record, zeros}
use Rattle.fc_format.specs.Passes.{LengthensFront, disc_of, laid}

-- bytes that are lent
abbrev pub lent : List ℕ → Bor (List ℕ)
lent bytes = record { ref_ptr = (0, 0); now = bytes }

-- a disc of one zone
pub one_zone : (m r : List ℕ) → length m ≡ 1024 → length r ≡ 2048
    → laid 0 ((0, lent m) ∷ (4, lent m) ∷ (8, lent r) ∷ []) 3200 ≡ m ++ m ++ r ++ zeros (819200 - 4096)
one_zone m r m_long r_long =
    ap (λ (n : ℕ). m ++ (zeros (256 * (4 - (0 + n / 256))) ++ m ++ (zeros (256 * (8 - (4 + n / 256))) ++ r ++ zeros (256 * (3200 - (8 + length r / 256)))))) m_long
    ∙ ap (λ (n : ℕ). m ++ (m ++ (r ++ zeros (256 * (3200 - (8 + n / 256)))))) r_long
    ∙ sym (append_assoc m m (r ++ zeros (819200 - 4096)))
    ∙ sym (append_assoc (m ++ m) r (zeros (819200 - 4096)))

-- a disc of four zones: the boot block, both copies, and the root
module _ (b z0 z1 z2 z3 r : List ℕ) where
  abbrev spread : ℕ → ℕ → ℕ → ℕ → ℕ → ℕ → List ℕ
  spread nb n0 n1 n2 n3 nr =
      zeros (256 * (12 - 0)) ++ b ++ (zeros (256 * (3176 - (12 + nb / 256))) ++ z0 ++ (zeros (256 * (3180 - (3176 + n0 / 256))) ++ z1
      ++ (zeros (256 * (3184 - (3180 + n1 / 256))) ++ z2 ++ (zeros (256 * (3188 - (3184 + n2 / 256))) ++ z3
      ++ (zeros (256 * (3192 - (3188 + n3 / 256))) ++ z0 ++ (zeros (256 * (3196 - (3192 + n0 / 256))) ++ z1
      ++ (zeros (256 * (3200 - (3196 + n1 / 256))) ++ z2 ++ (zeros (256 * (3204 - (3200 + n2 / 256))) ++ z3
      ++ (zeros (256 * (3208 - (3204 + n3 / 256))) ++ r ++ zeros (256 * (6400 - (3208 + nr / 256))))))))))))

  regrouped : (a c t : List ℕ) → a ++ b ++ (c ++ z0 ++ (z1 ++ (z2 ++ (z3 ++ (z0 ++ (z1 ++ (z2 ++ (z3 ++ (r ++ t)))))))))
      ≡ a ++ b ++ c ++ (z0 ++ z1 ++ z2 ++ z3) ++ (z0 ++ z1 ++ z2 ++ z3) ++ r ++ t
  regrouped a c t = simp append_assoc refl

  pub four_zones : length b ≡ 512 → length z0 ≡ 1024 → length z1 ≡ 1024 → length z2 ≡ 1024 → length z3 ≡ 1024 → length r ≡ 2048
      → laid 0 ((12, lent b) ∷ (3176, lent z0) ∷ (3180, lent z1) ∷ (3184, lent z2) ∷ (3188, lent z3) ∷ (3192, lent z0) ∷ (3196, lent z1) ∷ (3200, lent z2) ∷ (3204, lent z3) ∷ (3208, lent r) ∷ []) 6400
      ≡ zeros 0xC00 ++ b ++ zeros (0xC6800 - 0xE00) ++ (z0 ++ z1 ++ z2 ++ z3) ++ (z0 ++ z1 ++ z2 ++ z3) ++ r ++ zeros (1638400 - 823296)
  four_zones b_long z0_long z1_long z2_long z3_long r_long =
      ap (λ (n : ℕ). spread n (length z0) (length z1) (length z2) (length z3) (length r)) b_long
      ∙ ap (λ (n : ℕ). spread 512 n (length z1) (length z2) (length z3) (length r)) z0_long
      ∙ ap (λ (n : ℕ). spread 512 1024 n (length z2) (length z3) (length r)) z1_long
      ∙ ap (λ (n : ℕ). spread 512 1024 1024 n (length z3) (length r)) z2_long
      ∙ ap (λ (n : ℕ). spread 512 1024 1024 1024 n (length r)) z3_long
      ∙ ap (λ (n : ℕ). spread 512 1024 1024 1024 1024 n) r_long
      ∙ regrouped (zeros 0xC00) (zeros (0xC6800 - 0xE00)) (zeros (1638400 - 823296))

-- an old map and the root
pub old_d : (m r : List ℕ) → length m ≡ 512 → length r ≡ 2048
    → laid 0 ((0, lent m) ∷ (4, lent r) ∷ []) 3200 ≡ m ++ zeros 512 ++ r ++ zeros (819200 - 3072)
old_d m r m_long r_long =
    ap (λ (n : ℕ). m ++ (zeros (256 * (4 - (0 + n / 256))) ++ r ++ zeros (256 * (3200 - (4 + length r / 256))))) m_long
    ∙ ap (λ (n : ℕ). m ++ (zeros 512 ++ r ++ zeros (256 * (3200 - (4 + n / 256))))) r_long
    ∙ sym (append_assoc m (zeros 512 ++ r) (zeros (819200 - 3072)))
    ∙ ap (λ (l : List ℕ). l ++ zeros (819200 - 3072)) (sym (append_assoc m (zeros 512) r))

pub old_l : (m r : List ℕ) → length m ≡ 512 → length r ≡ 1280
    → laid 0 ((0, lent m) ∷ (2, lent r) ∷ []) 2560 ≡ m ++ r ++ zeros (655360 - 1792)
old_l m r m_long r_long =
    ap (λ (n : ℕ). m ++ (zeros (256 * (2 - (0 + n / 256))) ++ r ++ zeros (256 * (2560 - (2 + length r / 256))))) m_long
    ∙ ap (λ (n : ℕ). m ++ (r ++ zeros (256 * (2560 - (2 + n / 256))))) r_long
    ∙ sym (append_assoc m r (zeros (655360 - 1792)))

-- ---- the discs of the formats

length-six : (a b c m r : List ℕ) → length a ≡ 3072 → length b ≡ 512 → length c ≡ 809472 → length m ≡ 4096 → length r ≡ 2048 → length (a ++ b ++ c ++ m ++ m ++ r) ≡ 823296
length-six a b c m r a_long b_long c_long m_long r_long =
    omega
    (arith, a_long, b_long, c_long, m_long, r_long, length-append a b, length-append (a ++ b) c, length-append (a ++ b ++ c) m, length-append (a ++ b ++ c ++ m) m, length-append (a ++ b ++ c ++ m ++ m) r)

-- the bytes before the last zeros
abbrev pub front_long : Format → ℕ
front_long E = 4096
front_long EPlus = 4096
front_long F = 823296
front_long FPlus = 823296
front_long D = 3072
front_long L = 1792

pub length-front : (format : Format) → length (front_of format) ≡ front_long format
unfolding with_holes
length-front E = refl
length-front EPlus = refl
length-front F =
    length-six (zeros 0xC00) (boot_block f_record) (zeros (0xC6800 - 0xE00)) f_map (new_root 0x209) (length-replicate {A = ℕ} 0xC00 0) refl (length-replicate {A = ℕ} (0xC6800 - 0xE00) 0) refl refl
length-front FPlus =
    length-six (zeros 0xC00) (boot_block (plus_record f_record)) (zeros (0xC6800 - 0xE00)) f_plus_map (big_root 0x301) (length-replicate {A = ℕ} 0xC00 0) refl (length-replicate {A = ℕ} (0xC6800 - 0xE00) 0) refl refl
length-front D = refl
length-front L = refl

disc_with : (format : Format) → front_of format ++ zeros (format_size format - front_long format) ≡ disc_of format
unfolding disc_of
disc_with format = ap (λ (n : ℕ). front_of format ++ zeros (format_size format - n)) (sym (length-front format))

front_fits : (format : Format) → front_long format ≤ format_size format
front_fits E = omega arith
front_fits EPlus = omega arith
front_fits F = omega arith
front_fits FPlus = omega arith
front_fits D = omega arith
front_fits L = omega arith

length-disc : (format : Format) → length (disc_of format) ≡ format_size format
unfolding disc_of
length-disc format =
    let rest = format_size format - length (front_of format) in
    omega (arith, length-append (front_of format) (zeros rest), length-replicate {A = ℕ} rest 0, length-front format, front_fits format)

-- a disc is whole sectors of 256 bytes
whole_size : (format : Format) → format_size format % 256 ≡ 0
whole_size E = refl
whole_size EPlus = refl
whole_size F = refl
whole_size FPlus = refl
whole_size D = refl
whole_size L = refl

pub sectors_reach : (format : Format) (sectors long size : ℕ) → size ≡ 256 → sectors ≡ long / size → format_size format ≤ long → format_size format ≤ 256 * sectors
sectors_reach format sectors long size is whole fits =
    let e : sectors ≡ long / 256 = whole ∙ ap (λ (n : ℕ). long / n) is in
    omega (arith, e, fits, whole_size format)

pub disc_E : e_map ++ e_map ++ new_root 0x203 ++ zeros (819200 - 4096) ≡ disc_of E
disc_E = disc_with E

pub disc_E+ : e_plus_map ++ e_plus_map ++ big_root 0x301 ++ zeros (819200 - 4096) ≡ disc_of EPlus
disc_E+ = disc_with EPlus

pub disc_D : old_map_with 3200 12 ++ zeros 512 ++ new_root 4 ++ zeros (819200 - 3072) ≡ disc_of D
disc_D = disc_with D

pub disc_L : old_map_with 2560 7 ++ old_root 2 ++ zeros (655360 - 1792) ≡ disc_of L
disc_L = disc_with L

pub disc_F : zeros 0xC00 ++ boot_block f_record ++ zeros (0xC6800 - 0xE00) ++ f_map ++ f_map ++ new_root 0x209 ++ zeros (1638400 - 823296) ≡ disc_of F
disc_F = disc_with F

pub disc_F+ : zeros 0xC00 ++ boot_block (plus_record f_record) ++ zeros (0xC6800 - 0xE00) ++ f_plus_map ++ f_plus_map ++ big_root 0x301 ++ zeros (1638400 - 823296) ≡ disc_of FPlus
disc_F+ = disc_with FPlus

-- ---- the image

no_front : (told : Option (List ℕ)) → told ≡ option_map (λ image. [] ++ drop (length {A = ℕ} []) image) told
no_front None = refl
no_front (Some image) = refl

-- an image whose front is the disc is the fresh one
pub fresh_is : {D : Type 0} (d : Ghosts D) (old new : D) (format : Format) → LengthensFront d old new 0 (disc_of format) → d.bytes new ≡ option_map (λ image. fresh_image format image) (d.bytes old)
unfolding fresh_image disc_of
fresh_is d old new format written =
    written old [] refl (no_front (d.bytes old))
    ∙ ap (λ (n : ℕ). option_map (λ image. disc_of format ++ drop n image) (d.bytes old)) (length-disc format)

pub fresh_long : (format : Format) (old : List ℕ) → format_size format ≤ length (fresh_image format old)
unfolding fresh_image disc_of
fresh_long format old = omega (arith, length-append (disc_of format) (drop (format_size format) old), length-disc format)

-- What holds if there is a value, leads on.
pub on_ok : {T E : Type 0} {P Q : Type 0} (r : Result T E) → OnOk r P → (P → Q) → OnOk r Q
on_ok (Ok x) has leads = leads has
on_ok (Err e) has leads = tt
