-- What a change in the safe mode has put on the disk.
use Rattle.std.proofs.Common.{◌≡◌, ◌<◌, ◌≤◌, ◌*◌, ℕ, false, List, [], ◌++◌, length, flat_map, get_or, sym, ap, subst, ◌∙◌}
use Rattle.std.specs.Prelude.{Contains}
use Rattle.std.proofs.lemmas.List.{append-nil}
use Rattle.std.proofs.lemmas.List.Elements.{Contains-append_left, Contains-append_right}
use Rattle.fc_device.specs.Sectors.{sector_at}
use Rattle.fc_newmap.specs.Map.{Map, map_sectors}
use Rattle.fc_image.specs.Layout.{bytes_in, is_among}
use Rattle.fc_objects.specs.Bytes.{first_bytes}
use Rattle.fc_objects.specs.Written.{part_at}
use Rattle.fc_objects.proofs.WriteLemmas.{reads_back}
use Rattle.fc_writing.specs.declared.ready.Piece.{Piece}
use Rattle.fc_writing.specs.declared.ready.Ready.{Ready}
use Rattle.fc_writing.specs.declared.ready.Transfer.{Transfer}
use Rattle.fc_writing.specs.Content.{Content, content_sectors}
use Rattle.fc_writing.specs.Ready.{carried_by, content_of, early_content, early_place, from_of, late_place, place_of, source_content, to_of, written_place}
use Rattle.fc_writing.proofs.ContentLemmas.{numbered_here, out_left, part_outside}
use Rattle.fc_writing.proofs.EarlyLemmas.{early_sectors}
use Rattle.fc_edits.proofs.lemmas.ListLemmas.{in_flat}
use Rattle.fc_safelaws.specs.Free.{ChangesFree, MappedImage}
use Rattle.fc_safelaws.specs.Relaid.{AreCopied}
use Rattle.fc_safecrash.specs.Crash.{IsThere}
use Rattle.fc_safeedits.specs.SafeWriting.{SafeWritingLaw}

module _ (x : MappedImage) (r : Ready) (bytes : List ℕ) (n : Map) (image : List ℕ) (there : IsThere x r bytes n image) where
  abbrev size : ℕ
  size = x.m.geometry.sector

  abbrev first : Content
  first = source_content size x.image bytes r.source

  abbrev second : Content
  second = flat_map (carried_by size x.image) r.carried.items

  abbrev third : Content
  third = flat_map (content_of size) r.early.items

  part_there : (p : Piece) → Contains r.early.items p → (i : ℕ) → i < length (place_of p) → sector_at size image (get_or (place_of p) i 0) ≡ part_at size p.bytes.items i
  part_there p at i low =
      let w : ℕ × List ℕ = (get_or (place_of p) i 0, part_at size p.bytes.items i) in
      there.written w
      (Contains-append_right first (second ++ third) w
      (Contains-append_right second third w (in_flat (content_of size) r.early.items p w at (numbered_here (part_at size p.bytes.items) (place_of p) i low))))

  carried' : (t : Transfer) → Contains r.carried.items t → AreCopied size x.image image (from_of t) (to_of t)
  carried' t at i low =
      let w : ℕ × List ℕ = (get_or (to_of t) i 0, sector_at size x.image (get_or (from_of t) i 0)) in
      there.written w
      (Contains-append_right first (second ++ third) w
      (Contains-append_left second third w
      (in_flat (carried_by size x.image) r.carried.items t w at (numbered_here (λ (k : ℕ). sector_at size x.image (get_or (from_of t) k 0)) (to_of t) i low))))

  changes' : ChangesFree x.m.geometry (written_place r) x.image image
  changes' =
      let early : Content = early_content size x.image bytes r in
      let places : content_sectors (early ++ []) ≡ early_place r = ap content_sectors (append-nil early) ∙ early_sectors size x.image bytes r in
      record {
        same_length = there.sectors.length_stays;
        outside = λ s out unmapped. part_outside size (map_sectors x.m.geometry) (early ++ []) x.image image there.sectors s unmapped
            (subst (λ (ss : List ℕ). is_among ss s ≡ false) (sym places) (out_left (early_place r) (late_place r) s out));
      }

-- the bytes of a piece are there
piece_bytes : (size : ℕ) (image sectors bytes : List ℕ) → ((i : ℕ) → i < length sectors → sector_at size image (get_or sectors i 0) ≡ part_at size bytes i) → length bytes ≤ length sectors * size
    → bytes_in size image sectors (length bytes) ≡ bytes
unfolding bytes_in first_bytes
piece_bytes size image sectors bytes parts long = reads_back size image sectors bytes parts long

pub safe_writing_law : SafeWritingLaw
safe_writing_law = record {
  pieces = λ x r bytes n image p there at long. piece_bytes x.m.geometry.sector image (place_of p) p.bytes.items (part_there x r bytes n image there p at) long;
  carried = λ x r bytes n image t there at. carried' x r bytes n image there t at;
  changes = λ x r bytes n image there. changes' x r bytes n image there;
}
