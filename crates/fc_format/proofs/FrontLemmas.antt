-- Sectors written one after another over the front of an image.
use Rattle.std.proofs.Common.{◌≡◌, inl, inr, ℕ, ◌+◌, ◌*◌, ◌<◌, ◌≤◌, List, [], ◌++◌, length, take, drop, Option, Some, None, option_map, refl, sym, ap, ◌∙◌, arith, length-append}
use Rattle.std.proofs.lemmas.List.{take_at, take_all, drop_all, length-take-le}
use Rattle.std.proofs.lemmas.Slice.{drop-append-drop}
use Rattle.std.proofs.lemmas.Bool.{cases_lt}
use Rattle.fc_device.specs.Sectors.{with_sector}

-- one sector more after a front
pub front_more : (front piece image : List ℕ) (n : ℕ) → length front ≡ n * 256 → length piece ≡ 256
    → with_sector 256 (front ++ drop (length front) image) n piece ≡ front ++ piece ++ drop (length (front ++ piece)) image
unfolding with_sector
front_more front piece image n long whole =
    let rest = drop (length front) image in
    let far : n * 256 + 256 ≡ length (front ++ piece) = omega (arith, long, whole, length-append front piece) in
    ap (λ (l : List ℕ). l ++ piece ++ drop (n * 256 + 256) (front ++ rest)) (take_at front rest (n * 256) long)
    ∙ ap (λ (l : List ℕ). front ++ piece ++ l) (drop-append-drop (length front) image front (n * 256 + 256) (omega (arith, long)) refl)
    ∙ ap (λ (k : ℕ). front ++ piece ++ drop k image) far

-- the same on a disk that tells its bytes or not
pub front_written : (front piece : List ℕ) (n : ℕ) (was old new : Option (List ℕ)) → length front ≡ n * 256 → length piece ≡ 256
    → old ≡ option_map (λ image. front ++ drop (length front) image) was
    → new ≡ option_map (λ image. with_sector 256 image n piece) old
    → new ≡ option_map (λ image. front ++ piece ++ drop (length (front ++ piece)) image) was
front_written front piece n None old new long whole had written = written ∙ ap (option_map (λ image. with_sector 256 image n piece)) had
front_written front piece n (Some image) old new long whole had written =
    written ∙ ap (option_map (λ image. with_sector 256 image n piece)) had ∙ ap Some (front_more front piece image n long whole)

-- what stands after a written sector stays
pub behind_stays : (n at : ℕ) (piece image : List ℕ) → at * 256 + 256 ≤ n → length piece ≡ 256 → drop n (with_sector 256 image at piece) ≡ drop n image
unfolding with_sector
behind_stays n at piece image far whole = elim (cases_lt (length image) (at * 256)) [ inl short ↦ past short | inr long ↦ whole_sector long ]
  where
    front : List ℕ
    front = take (at * 256) image ++ piece

    whole_sector : at * 256 ≤ length image → drop n (front ++ drop (at * 256 + 256) image) ≡ drop n image
    whole_sector long =
        drop-append-drop (at * 256 + 256) image front n far (omega (arith, whole, length-append (take (at * 256) image) piece, length-take-le (at * 256) image long))

    past : length image < at * 256 → drop n (front ++ drop (at * 256 + 256) image) ≡ drop n image
    past short =
        let none : drop (at * 256 + 256) image ≡ [] = drop_all (at * 256 + 256) image (omega (arith, short)) in
        let all : take (at * 256) image ≡ image = take_all (at * 256) image (omega (arith, short)) in
        let size : length (front ++ drop (at * 256 + 256) image) ≤ n =
        omega
        (arith, short, far, whole, length-append front (drop (at * 256 + 256) image), length-append (take (at * 256) image) piece, ap (length {A = ℕ}) none, ap (length {A = ℕ}) all)
        in
        drop_all n (front ++ drop (at * 256 + 256) image) size ∙ sym (drop_all n image (omega (arith, short, far)))
