-- The root in the record of zone 0.
use Rattle.std.proofs.Common.{◌≡◌, ◌≤◌, ℕ, List, ◌++◌, length, take, drop, ap, ◌∙◌, arith, length-append, length-drop, append_assoc}
use Rattle.std.proofs.lemmas.List.{length-take-le, take_at, drop_at}
use Rattle.byteorder.specs.Endian.{little_bytes}
use Rattle.byteorder.specs.Numbers.{length-bytes_low_first}
use Rattle.fc_zone.specs.declared.ZoneShape.{ZoneShape}
use Rattle.fc_zone.specs.declared.Run.{Run}
use Rattle.fc_zone.specs.Zone.{Zone}
use Rattle.fc_newmap.specs.Map.{with_root}
use Rattle.fc_newmap.proofs.SameLemmas.{bytes_outside, zone_kept}

module _ (s : List ℕ) (root size : ℕ) (long : 56 ≤ length s) where
  abbrev a : List ℕ
  a = take 16 s

  abbrev r : List ℕ
  r = little_bytes 4 root

  abbrev d : List ℕ
  d = drop 20 s

  abbrev n : List ℕ
  n = little_bytes 4 size

  length-front : length (a ++ r) ≡ 20
  length-front = omega (arith, length-append a r, length-take-le 16 s (omega arith), length-bytes_low_first 0 4 root)

  pub root_front : take 16 (with_root s root size) ≡ take 16 s
  root_front =
      ap (take 16) (append_assoc (((a ++ r) ++ take 32 d)) n (drop 56 s) ∙ append_assoc (a ++ r) (take 32 d) (n ++ drop 56 s) ∙ append_assoc a r (take 32 d ++ (n ++ drop 56 s)))
      ∙ take_at a (r ++ (take 32 d ++ (n ++ drop 56 s))) 16 (length-take-le 16 s (omega arith))

  length-lead : length (((a ++ r) ++ take 32 d) ++ n) ≡ 56
  length-lead =
      omega (arith, length-append ((a ++ r) ++ take 32 d) n, length-append (a ++ r) (take 32 d), length-front, length-take-le 32 d (omega (arith, length-drop 20 s)), length-bytes_low_first 0 4 size)

  pub root_back : drop 56 (with_root s root size) ≡ drop 56 s
  root_back = drop_at (((a ++ r) ++ take 32 d) ++ n) (drop 56 s) 56 length-lead

  pub root_long : length (with_root s root size) ≡ length s
  root_long = omega (arith, length-append (((a ++ r) ++ take 32 d) ++ n) (drop 56 s), length-lead, length-drop 56 s)

-- zone 0's runs stay
pub root_kept : (shape : ZoneShape) (s t : List ℕ) (root size : ℕ) (runs : List Run) → 56 ≤ length s → t ≡ with_root s root size → 512 ≤ shape.first → Zone shape s runs → Zone shape t runs
root_kept shape s t root size runs long e header zone =
    zone_kept shape s t runs 128 448 (bytes_outside s t 16 56 (ap (take 16) e ∙ root_front s root size long) (ap (drop 56) e ∙ root_back s root size long)) (ap length e ∙ root_long s root size long)
    (omega arith) (omega arith) (omega arith) zone
