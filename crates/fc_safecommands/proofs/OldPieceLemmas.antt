-- What a directory says, told for the place that it had, whichever job tells it; and a new file's bytes, once they are there.
use Rattle.std.proofs.Common.{◌≡◌, ◌<◌, ◌≤◌, ◌*◌, ◌^◌, ◌++◌, ℕ, List, length, get_or, map, refl, sym, ap, subst, ◌∙◌, arith, true, Option, Some}
use Rattle.std.specs.Prelude.{Contains}
use Rattle.std.specs.FinMap.{get}
use Rattle.std.specs.List.{flat_map}
use Rattle.std.proofs.lemmas.List.{length-map}
use Rattle.std.proofs.lemmas.List.Elements.{Contains-append_left}
use Rattle.fc_device.specs.declared.disk.Extent.{Extent}
use Rattle.fc_device.specs.Sectors.{sector_at}
use Rattle.fc_newmap.specs.Map.{Map}
use Rattle.fc_image.specs.Layout.{Layout, bytes_in, id_of}
use Rattle.fc_image.specs.Objects.{has_sectors, objects_of}
use Rattle.fc_image.specs.Walk.{Object}
use Rattle.fc_objects.specs.Bytes.{first_bytes}
use Rattle.fc_objects.specs.Extents.{sectors_in}
use Rattle.fc_objects.specs.Written.{part_at}
use Rattle.fc_objects.proofs.WriteLemmas.{reads_back}
use Rattle.fc_tree.specs.Nodes.{number_of}
use Rattle.fc_writing.specs.declared.ready.Piece.{Piece}
use Rattle.fc_writing.specs.declared.ready.Ready.{Ready}
use Rattle.fc_writing.specs.declared.ready.Source.{Source}
use Rattle.fc_writing.specs.Content.{Content, stored}
use Rattle.fc_writing.specs.Ready.{carried_by, content_of, source_content}
use Rattle.fc_writing.proofs.ContentLemmas.{numbered_here}
use Rattle.fc_change.specs.declared.change.Says.{Says}
use Rattle.fc_change.specs.Prepared.{IsDrafted, IsPieceOf}
use Rattle.fc_commands.proofs.NodeLemmas.{each_at}
use Rattle.fc_safelaws.specs.Free.{MappedImage}
use Rattle.fc_safecrash.specs.Crash.{IsThere}
use Rattle.fc_safecommands.proofs.OldPlaceLemmas.{one_by_one, one_by_one_is}
use Rattle.fc_safecommands.proofs.StirredLemmas.{StirredJob, few_sectors, lies_in, sound, y}

-- ---- a directory's

module _ (x : StirredJob) (d : Object) (at : Contains (objects_of x.listings) d) (some : has_sectors d ≡ true) where
  pub few_there : length (one_by_one d.sectors) < 2 ^ 63
  few_there =
      let room = (lies_in x d at some).room in
      let few = few_sectors x (id_of d.entry.address) in
      let same = length-map d.sectors (λ (s : ℕ). let e : Extent = record { first = s; sectors = 1 } in e) in
      omega (arith, room, few, same)

  -- the piece for the sectors that it had
  abbrev pub piece_there : Piece → Piece
  piece_there p = record {
    place = record p.place { items = one_by_one d.sectors; len = length (one_by_one d.sectors); cap = length (one_by_one d.sectors); ok = (refl, omega arith); small = few_there };
    bytes = p.bytes;
  }

  pub piece_before : (said : Says) (p : Piece) → number_of x.nodes d.path ≡ Some said.node → IsDrafted said.draft p → IsPieceOf (Layout.New x.m) x.nodes said (piece_there p)
  piece_before said p number drafted =
      let has = x.agreed.walked.held.each d at in
      record {
        node = _;
        there = ap (get x.nodes) (same_number said.node has.number (sym number ∙ has.at_path)) ∙ has.is;
        place = each_at (y x) x.listings (sound x) d at ∙ ap (λ (ss : List ℕ). let o : Option (List ℕ) = Some ss in o) (sym (one_by_one_is d.sectors));
        drafted = record { bytes = drafted.bytes; length_is = drafted.length_is; sayable = drafted.sayable };
      }
    where
      same_number : (a b : ℕ) → (let o : Option ℕ = Some a in o) ≡ Some b → a ≡ b
      same_number a b e = cc

-- ---- a file's

-- If these bytes come from what is given, they are there.
pub source_there : (x : MappedImage) (r : Ready) (bytes : List ℕ) (n : Map) (image sectors own : List ℕ) → IsThere x r bytes n image → source_content x.m.geometry.sector x.image bytes r.source ≡ stored x.m.geometry.sector sectors own
    → length own ≤ length sectors * x.m.geometry.sector → bytes_in x.m.geometry.sector image sectors (length own) ≡ own
unfolding bytes_in first_bytes
source_there x r bytes n image sectors own there given long = reads_back size image sectors own parts long
  where
    size : ℕ
    size = x.m.geometry.sector

    rest : Content
    rest = flat_map (carried_by size x.image) r.carried.items ++ flat_map (content_of size) r.early.items

    parts : (i : ℕ) → i < length sectors → sector_at size image (get_or sectors i 0) ≡ part_at size own i
    parts i low =
        let w : ℕ × List ℕ = (get_or sectors i 0, part_at size own i) in
        there.written w
        (Contains-append_left (source_content size x.image bytes r.source) rest w
        (subst (λ (c : Content). Contains c w) (sym given) (numbered_here (part_at size own) sectors i low)))
