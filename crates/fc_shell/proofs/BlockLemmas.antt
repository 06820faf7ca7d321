-- The bytes of a file, one block after another.
use Rattle.std.proofs.Common.{◌≡◌, ℕ, List, ◌++◌, ap, ap₂, sym, ◌∙◌}
use Rattle.hex.specs.Hex.{encode_lower}
use Rattle.fc_image.specs.Layout.{bytes_in}
use Rattle.fc_objects.specs.declared.reader.ObjectReader.{ObjectReader}
use Rattle.fc_objects.specs.Ahead.{ahead}
use Rattle.fc_objects.specs.Bytes.{bytes_ahead, first_bytes}
use Rattle.fc_shell.proofs.DigitLemmas.{encode-append}

-- at first a reader has all bytes ahead
pub all_ahead : (size : ℕ) (image sectors : List ℕ) (len : ℕ) (r : ObjectReader) → ahead r.sectors ≡ sectors → r.size ≡ size → r.len ≡ len
    → bytes_in size image sectors len ≡ bytes_ahead image r
unfolding bytes_in first_bytes
all_ahead size image sectors len r at sized long =
    ap (λ (k : ℕ). first_bytes k image sectors len) (sym sized) ∙ ap₂ (λ (xs : List ℕ) (n : ℕ). first_bytes r.size image xs n) (sym at) (sym long)

-- a block stands before what is ahead then, and so do its digits
pub block_digits : (all done before block after : List ℕ) → all ≡ done ++ encode_lower before → before ≡ block ++ after → all ≡ done ++ (encode_lower block ++ encode_lower after)
block_digits all done before block after so_far step =
    so_far ∙ ap (λ (xs : List ℕ). done ++ xs) (ap encode_lower step ∙ encode-append block after)
