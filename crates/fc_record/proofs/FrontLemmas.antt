-- What was read of the front of an image.
use Rattle.std.proofs.Common.{◌≡◌, ◌≤◌, ◌+◌, inl, inr, ℕ, Bool, true, false, cond, List, length, take, subst, sym, ap, ◌∙◌, Some, None, Option, arith}
use Rattle.std.specs.Prelude.{◌&&◌, ◌==◌, ◌++◌, Result, Ok, Err, IfOk}
use Rattle.std.specs.Int.{is_in_range}
use Rattle.std.proofs.lemmas.Bool.{cases_lt, le-leb}
use Rattle.std.proofs.lemmas.List.{length-take-le, take-take}
use Rattle.std.proofs.Math.Seq.{take-append_seam}
use Rattle.fc_bytes.specs.Words.{bytes_at}
use Rattle.fc_record.specs.declared.DiscRecord.{DiscRecord}
use Rattle.fc_record.specs.declared.Front.{Front}
use Rattle.fc_record.specs.declared.Kind.{Kind}
use Rattle.fc_record.specs.declared.Kind.TheVariants.{OneZone, DiscD, DiscL}
use Rattle.fc_record.specs.Front.{HasMapOf}
use Rattle.fc_record.specs.Kinds.{is_old_map, is_whole_map, map_record, old_units}
use Rattle.fc_record.specs.Parts.{record_in_map, kind_in_old_map}
use Rattle.fc_record.proofs.PartLemmas.{old_found, taken, too_short}

-- a map that is found lies in the image
there : (image : List ℕ) (at : ℕ) (r : DiscRecord) → Some r ≡ record_in_map (bytes_at image at 1024) → at + 1024 ≤ length image
there image at r found = elim (cases_lt (length image) (at + 1024)) [
  | inl short ↦ absurd (let none : Some r ≡ None = found ∙ sym (too_short image at short) in cc)
  | inr long ↦ long
]

whole : (image : List ℕ) (at : ℕ) (r : DiscRecord) → Some r ≡ record_in_map (bytes_at image at 1024) → is_whole_map (bytes_at image at 1024) ≡ true
whole image at r found = (taken r (map_record (bytes_at image at 1024)) (is_whole_map (bytes_at image at 1024)) found).0

pub first_read : (image : List ℕ) (r : DiscRecord) (front : Front) → (1024 ≤ length image → front.first ≡ bytes_at image 0 1024) → Some r ≡ record_in_map (bytes_at image 0 1024)
    → (kind : Kind) → Some (OneZone r) ≡ Some kind → HasMapOf image kind front
first_read image r front first found kind is =
    let read = first (there image 0 r found) in
    let same : OneZone r ≡ kind = cc in
    subst (λ (k : Kind). HasMapOf image k front) same (read, inl (ap is_whole_map read ∙ whole image 0 r found))

pub second_read : (image : List ℕ) (r : DiscRecord) (front : Front) → (1024 ≤ length image → front.first ≡ bytes_at image 0 1024)
    → (1024 + 1024 ≤ length image → front.second ≡ bytes_at image 1024 1024) → Some r ≡ record_in_map (bytes_at image 1024 1024)
    → (kind : Kind) → Some (OneZone r) ≡ Some kind → HasMapOf image kind front
second_read image r front first second found kind is =
    let long = there image 1024 r found in
    let read = second long in
    let same : OneZone r ≡ kind = cc in
    subst (λ (k : Kind). HasMapOf image k front) same (first (omega (arith, long)), inr (read, ap is_whole_map read ∙ whole image 1024 r found))

module _ (image : List ℕ) (front : Front) (map : bytes_at front.first 0 512 ≡ bytes_at image 0 512) where
  old_choice : (kind : Kind) (d l : Bool) (units : ℕ) → cond d (Some DiscD) (cond l (Some (DiscL units)) None) ≡ Some kind → HasMapOf image kind front
  old_choice kind true l units is = let same : DiscD ≡ kind = cc in subst (λ (k : Kind). HasMapOf image k front) same map
  old_choice kind false true units is = let same : DiscL units ≡ kind = cc in subst (λ (k : Kind). HasMapOf image k front) same map
  old_choice kind false false units is = absurd (cc)

  -- the old map that gave the kind was read
  pub old_read : (found : Option Kind) → found ≡ kind_in_old_map image → (kind : Kind) → found ≡ Some kind → HasMapOf image kind front
  old_read found old kind is =
      old_choice kind (is_old_map image && (old_units image == 3200)) (is_old_map image && is_in_range 7 2560 (old_units image)) (old_units image) (sym old ∙ is)

-- the map at the front of 1024 bytes that were read
pub map_read : (image first : List ℕ) → first ≡ bytes_at image 0 1024 → bytes_at first 0 512 ≡ bytes_at image 0 512
map_read image first read = ap (take 512) read ∙ take-take 512 1024 image (omega arith)

-- the map that was read into the front of a row of bytes
pub map_written : (image map rest : List ℕ) → length map ≡ 512 → map ≡ bytes_at image 0 512 → bytes_at (map ++ rest) 0 512 ≡ bytes_at image 0 512
map_written image map rest long read = ap (λ n. take n (map ++ rest)) (sym long) ∙ take-append_seam map rest ∙ read

-- the map in 1024 bytes that were read says what the image says
pub old_in_front : (image first : List ℕ) → 1024 ≤ length image → bytes_at first 0 512 ≡ bytes_at image 0 512 → kind_in_old_map (take 512 first) ≡ kind_in_old_map image
old_in_front image first enough map =
    old_found image (take 512 first) (sym (le-leb 512 (length image) (omega (arith, enough)))) (ap length map ∙ length-take-le 512 image (omega (arith, enough))) map

pub IfOk-both : {A E : Type 0} (r : Result A E) (P Q R : A → Type 0) → ((a : A) → P a → Q a → R a) → IfOk r P → IfOk r Q → IfOk r R
IfOk-both (Ok a) P Q R f p q = f a p q
IfOk-both (Err e) P Q R f p q = tt
