-- The bytes of a fresh image.
use Rattle.std.proofs.Common.{◌≡◌, ℕ, List, Option, Some, None, option_map, ap, ◌∙◌}
use Rattle.fc_format.specs.declared.Format.{Format}
use Rattle.fc_format.specs.Fresh.{format_size, fresh_image, zeros}

-- a fresh image, made a fresh volume
pub fresh_bytes : (format : Format) (old mid new : Option (List ℕ)) → mid ≡ option_map (λ image. zeros (format_size format)) old → new ≡ option_map (λ image. fresh_image format image) mid
    → new ≡ option_map (λ image. fresh_image format (zeros (format_size format))) old
fresh_bytes format None mid new blank made = made ∙ ap (option_map (λ image. fresh_image format image)) blank
fresh_bytes format (Some image) mid new blank made = made ∙ ap (option_map (λ image. fresh_image format image)) blank
