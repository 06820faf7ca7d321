-- What fresh volumes open as.
use Rattle.std.proofs.Common.{◌≡◌, ◌≤◌, ◌+◌, ◌-◌, ℕ, List, ◌++◌, length, drop, ap, sym, ◌∙◌, subst, arith, append_assoc}
use Rattle.std.proofs.lemmas.List.{replicate-append-replicate}
use Rattle.fc_image.specs.Laws.{OpensLaw}
use Rattle.fc_format.specs.declared.Format.{Format}
use Rattle.fc_format.specs.declared.Format.TheVariants.{E, F, D, L, EPlus, FPlus}
use Rattle.fc_format.specs.Fresh.{format_size, fresh_image, front_of, zeros}
use Rattle.fc_format.specs.Opens.{FreshLaw, form_of}
use Rattle.fc_format.proofs.FourZoneLemmas.{opens_F, opens_F+}
use Rattle.fc_format.proofs.OldDiscLemmas.{opens_D, opens_L}
use Rattle.fc_format.proofs.OneZoneLemmas.{opens_E, opens_E+}
use Rattle.fc_format.proofs.OpenLemmas.{OpensAlone}
use Rattle.fc_format.proofs.DiscLemmas.{fresh_long, front_long, length-front}

-- what comes after the front
abbrev rest_of : Format → List ℕ → List ℕ
rest_of format old = zeros (format_size format - front_long format) ++ drop (format_size format) old

fresh_rest : (format : Format) (old : List ℕ) → fresh_image format old ≡ front_of format ++ rest_of format old
unfolding fresh_image
fresh_rest format old =
    let tail = drop (format_size format) old in
    ap (λ (n : ℕ). front_of format ++ zeros (format_size format - n) ++ tail) (length-front format) ∙ append_assoc (front_of format) (zeros (format_size format - front_long format)) tail

-- the first of the zeros by themselves
some_zeros : (front tail : List ℕ) (n k m : ℕ) → n ≡ k + m → front ++ (zeros n ++ tail) ≡ front ++ zeros k ++ (zeros m ++ tail)
some_zeros front tail n k m is =
    ap (λ (i : ℕ). front ++ (zeros i ++ tail)) is
    ∙ ap (λ (l : List ℕ). front ++ (l ++ tail)) (sym (replicate-append-replicate k m 0))
    ∙ ap (λ (l : List ℕ). front ++ l) (append_assoc (zeros k) (zeros m) tail)
    ∙ sym (append_assoc front (zeros k) (zeros m ++ tail))

-- an image that opens so, whatever its parts
opens_as : (format : Format) (old image : List ℕ) → fresh_image format old ≡ image → (format_size format ≤ length image → OpensAlone (form_of format) image) → OpensAlone (form_of format) (fresh_image format old)
opens_as format old image is opens = subst (OpensAlone (form_of format)) (sym is) (opens (subst (λ (l : List ℕ). format_size format ≤ length l) is (fresh_long format old)))

pub opens_fresh : OpensLaw → FreshLaw
opens_fresh law E old = opens_as E old _ (fresh_rest E old) (opens_E (rest_of E old) law)
opens_fresh law EPlus old = opens_as EPlus old _ (fresh_rest EPlus old) (opens_E+ (rest_of EPlus old) law)
opens_fresh law F old = opens_as F old _ (fresh_rest F old) (opens_F (rest_of F old) law)
opens_fresh law FPlus old = opens_as FPlus old _ (fresh_rest FPlus old) (opens_F+ (rest_of FPlus old) law)
opens_fresh law D old =
    let tail = drop 819200 old in
    opens_as D old _ (fresh_rest D old ∙ some_zeros (front_of D) tail (819200 - 3072) 1024 815104 (omega arith)) (opens_D (zeros 815104 ++ tail) law)
opens_fresh law L old =
    let tail = drop 655360 old in
    opens_as L old _ (fresh_rest L old ∙ some_zeros (front_of L) tail (655360 - 1792) 2304 651264 (omega arith)) (opens_L (zeros 651264 ++ tail) law)
