-- A copy that is ready: the file's sectors are copied first, and two directories are written over.
use Rattle.std.proofs.Common.{◌≡◌, ◌<◌, ◌≤◌, ◌*◌, ◌⊎◌, inl, inr, ⊎_elim, ℕ, true, List, [], ◌∷◌, ◌++◌, flat_map, length, sym, ap, ap₂, subst, ◌∙◌, arith, Option, Some, None}
use Rattle.std.specs.Prelude.{All, Contains, Vec, get_or}
use Rattle.std.specs.declared.alloc.Global.{Global}
use Rattle.std.proofs.lemmas.List.{append-nil}
use Rattle.std.proofs.lemmas.List.Elements.{Contains-append_cases, Contains-append_left, Contains-append_right}
use Rattle.fc_device.specs.Sectors.{sector_at}
use Rattle.fc_device.specs.declared.disk.Extent.{Extent}
use Rattle.fc_dirs.specs.declared.Entry.{Entry}
use Rattle.fc_image.specs.Layout.{Layout, bytes_in, is_among, is_apart}
use Rattle.fc_objects.specs.Bytes.{first_bytes}
use Rattle.fc_objects.specs.Extents.{sectors_in}
use Rattle.fc_objects.specs.Written.{AreApart, part_at}
use Rattle.fc_objects.proofs.WriteLemmas.{reads_back}
use Rattle.fc_laws.specs.nodes.Edits.{Nodes}
use Rattle.fc_laws.specs.takeover.Copied.{AreCopied}
use Rattle.fc_tree.specs.Parts.{Parts}
use Rattle.fc_tree.proofs.MemberLemmas.{contains_here, no_element}
use Rattle.fc_writing.specs.declared.ready.Piece.{Piece}
use Rattle.fc_writing.specs.declared.ready.Ready.{Ready}
use Rattle.fc_writing.specs.declared.ready.Source.TheVariants as sources
use Rattle.fc_writing.specs.declared.ready.Transfer.{Transfer}
use Rattle.fc_writing.specs.Content.{Content, HasContent, copied}
use Rattle.fc_writing.specs.Ready.{CanPut, IsEnough, IsSourceEnough, all_content, carried_by, content_of, copied_place, from_of, place_of, source_content, source_from, source_place, to_of, written_place}
use Rattle.fc_writing.proofs.ContentLemmas.{among_get, numbered_here, numbered_is}
use Rattle.fc_change.specs.declared.change.Change.{Change}
use Rattle.fc_change.specs.declared.change.Says.{Says}
use Rattle.fc_change.specs.declared.change.Turned.{Turned}
use Rattle.fc_change.specs.declared.change.Turned.TheVariants as turns
use Rattle.fc_change.specs.declared.spaces.GrownPlace.{GrownPlace}
use Rattle.fc_change.specs.declared.spaces.Place.{Place}
use Rattle.fc_change.specs.declared.spaces.Spaces.{Spaces}
use Rattle.fc_change.specs.Prepared.{ArePiecesOf, IsGrownPiece, IsNewPiece, IsReadyFor, IsSourceOf, PiecesMatch}
use Rattle.fc_commands.proofs.MoveReadyLemmas.{all_kept}
use Rattle.fc_image.proofs.EntriesLemmas.{later as contains_later, cases as contains_cases}

-- Sectors are copied to others, and what is said is written over.
pub record IsCopyReady (layout : Layout) (nodes : Nodes) (says : List Says) (s : Spaces) (from to : List ℕ) (r : Ready) : Type 0 where
  pub transfer : Transfer
  pub source : r.source ≡ sources.Sectors transfer
  pub from_is : from_of transfer ≡ from
  pub to_is : to_of transfer ≡ to
  pub carried : r.carried.items ≡ []
  pub early : r.early.items ≡ []
  pub match : PiecesMatch layout nodes None says r.late.items
  pub take : r.take ≡ s.take
  pub give : r.give ≡ s.give

pub copy_ready : (h : Parts) (c : Change) (s : Spaces) (r : Ready) (n dir : ℕ) (e : Entry) (place : Place) (from : Vec Extent Global) → s.object ≡ Some place → s.copied ≡ Some from → s.grown ≡ None
    → c.object ≡ turns.Turns n dir e → IsReadyFor h c s r → IsCopyReady h.layout h.nodes c.says.items s (sectors_in from.items) (sectors_in place.extents.items) r
copy_ready h c s r n dir e place from there copies no_growth turned is =
    let made : is.made ≡ [] = subst (λ (o : Option Place). IsNewPiece (turns.Turns n dir e) o is.made) there (subst (λ (y : Turned). IsNewPiece y s.object is.made) turned is.makes) in
    let grown : is.grown ≡ [] = subst (λ (g : Option GrownPlace). IsGrownPiece g c.says.items is.grown) no_growth is.grows in
    let source : IsSourceOf (turns.Turns n dir e) (Some place) (Some from) r.source =
    subst (λ (o : Option (Vec Extent Global)). IsSourceOf (turns.Turns n dir e) (Some place) o r.source) copies
    (subst (λ (o : Option Place). IsSourceOf (turns.Turns n dir e) o s.copied r.source) there (subst (λ (y : Turned). IsSourceOf y s.object s.copied r.source) turned is.source)) in
    record {
      transfer = source.0;
      source = source.1;
      from_is = ap sectors_in source.2;
      to_is = ap sectors_in source.3;
      carried = is.carried;
      early = is.early ∙ ap₂ (λ (xs ys : List Piece). xs ++ ys) made grown;
      match = subst (λ (ss : List Says). PiecesMatch h.layout h.nodes None ss r.late.items) (all_kept c.says.items)
          (subst (λ (g : Option GrownPlace). ArePiecesOf h.layout h.nodes g c.says.items r.late.items) no_growth is.late);
      take = is.take;
      give = is.give;
    }

-- ---- what is written

module _ (layout : Layout) (nodes : Nodes) (says : List Says) (s : Spaces) (from to : List ℕ) (r : Ready) (is : IsCopyReady layout nodes says s from to r) where
  pub written_is : written_place r ≡ to ++ flat_map place_of r.late.items
  written_is =
      (λ i. (source_place (is.source i) ++ (flat_map to_of (is.carried i) ++ flat_map place_of (is.early i))) ++ flat_map place_of r.late.items)
      ∙ ap (λ (ss : List ℕ). ss ++ flat_map place_of r.late.items) (append-nil (to_of is.transfer) ∙ is.to_is)

  copied_is : copied_place r ≡ from
  copied_is = (λ i. source_from (is.source i) ++ flat_map from_of (is.carried i)) ∙ append-nil (from_of is.transfer) ∙ is.from_is

  -- It can be, if all these sectors are apart.
  pub can_put : (n : ℕ) (mapped : List ℕ) → All (λ k. k < n) (to ++ flat_map place_of r.late.items) → All (λ k. k < n) from → AreApart (to ++ flat_map place_of r.late.items)
      → is_apart (to ++ flat_map place_of r.late.items) mapped ≡ true → is_apart from (to ++ flat_map place_of r.late.items) ≡ true → is_apart from mapped ≡ true → length to ≤ length from → CanPut n mapped r
  can_put n mapped on_disk from_disk once beside others unmapped enough = record {
    on_disk = subst (λ (ss : List ℕ). All (λ k. k < n) ss) (sym written_is) on_disk;
    from_disk = subst (λ (ss : List ℕ). All (λ k. k < n) ss) (sym copied_is) from_disk;
    once = subst AreApart (sym written_is) once;
    beside = subst (λ (ss : List ℕ). is_apart ss mapped ≡ true) (sym written_is) beside;
    others = subst (λ (ss : List ℕ). is_apart ss (written_place r) ≡ true) (sym copied_is) (subst (λ (ss : List ℕ). is_apart from ss ≡ true) (sym written_is) others);
    unmapped = subst (λ (ss : List ℕ). is_apart ss mapped ≡ true) (sym copied_is) unmapped;
    source_enough = subst IsSourceEnough (sym is.source) (subst (λ (ts : List ℕ). length ts ≤ length (from_of is.transfer)) (sym is.to_is) (subst (λ (fs : List ℕ). length to ≤ length fs) (sym is.from_is) enough));
    enough = subst (λ (ts : List Transfer). All IsEnough ts) (sym is.carried) (λ i d less. absurd (omega (arith, less)));
  }

  -- ---- what is there then

  module _ (size : ℕ) (was bytes image : List ℕ) where
    content_is : all_content size was bytes r ≡ copied size was from to ++ flat_map (content_of size) r.late.items
    content_is =
        (λ i. (source_content size was bytes (is.source i) ++ (flat_map (carried_by size was) (is.carried i) ++ flat_map (content_of size) (is.early i))) ++ flat_map (content_of size) r.late.items)
        ∙ ap (λ (c : Content). c ++ flat_map (content_of size) r.late.items) (append-nil (carried_by size was is.transfer) ∙ ap₂ (copied size was) is.from_is is.to_is)

    -- The sectors are copied,
    pub are_copied : HasContent size (all_content size was bytes r) image → AreCopied size was image from to
    are_copied has i low =
        has (get_or to i 0, sector_at size was (get_or from i 0))
        (subst (λ (c : Content). Contains c (get_or to i 0, sector_at size was (get_or from i 0))) (sym content_is)
        (Contains-append_left (copied size was from to) (flat_map (content_of size) r.late.items) (get_or to i 0, sector_at size was (get_or from i 0))
        (numbered_here (λ (j : ℕ). sector_at size was (get_or from j 0)) to i low)))

    in_pieces : (ps : List Piece) (p : Piece) (c : ℕ × List ℕ) → Contains ps p → Contains (content_of size p) c → Contains (flat_map (content_of size) ps) c
    in_pieces [] p c at here = absurd (no_element p at)
    in_pieces (q ∷ ps) p c at here = elim (contains_cases q p ps at) [
      | inl same ↦ Contains-append_left (content_of size q) (flat_map (content_of size) ps) c (subst (λ (x : Piece). Contains (content_of size x) c) (sym same) here)
      | inr later ↦ Contains-append_right (content_of size q) (flat_map (content_of size) ps) c (in_pieces ps p c later here)
    ]

    -- and each piece is written.
    pub piece_written : HasContent size (all_content size was bytes r) image → (p : Piece) → Contains r.late.items p → length p.bytes.items ≤ length (place_of p) * size
        → bytes_in size image (place_of p) (length p.bytes.items) ≡ p.bytes.items
    unfolding bytes_in first_bytes
    piece_written has p at room =
        reads_back size image (place_of p) p.bytes.items
        (λ i low.
        has (get_or (place_of p) i 0, part_at size p.bytes.items i)
        (subst (λ (c : Content). Contains c (get_or (place_of p) i 0, part_at size p.bytes.items i)) (sym content_is)
        (Contains-append_right (copied size was from to) (flat_map (content_of size) r.late.items) (get_or (place_of p) i 0, part_at size p.bytes.items i)
        (in_pieces r.late.items p (get_or (place_of p) i 0, part_at size p.bytes.items i) at (numbered_here (part_at size p.bytes.items) (place_of p) i low))))) room

    -- the sectors of what is written
    from_pieces : (ps : List Piece) (c : ℕ × List ℕ) → Contains (flat_map (content_of size) ps) c → (p : Piece) × Contains ps p × (is_among (place_of p) c.0 ≡ true)
    from_pieces [] c at = absurd (no_element c at)
    from_pieces (q ∷ ps) c at = elim (Contains-append_cases (content_of size q) (flat_map (content_of size) ps) c at) [
      | inl here ↦ (let n = numbered_is (part_at size q.bytes.items) (place_of q) c here in (q, contains_here q ps, subst (λ (s : ℕ). is_among (place_of q) s ≡ true) n.2 (among_get (place_of q) n.0 n.1)))
      | inr later ↦ (let more = from_pieces ps c later in (more.0, contains_later q more.0 ps more.1, more.2))
    ]

    pub whose_content : (c : ℕ × List ℕ) → Contains (all_content size was bytes r) c → (is_among to c.0 ≡ true) ⊎ ((p : Piece) × Contains r.late.items p × (is_among (place_of p) c.0 ≡ true))
    whose_content c at =
        ⊎_elim (λ here. inl (let n = numbered_is (λ (j : ℕ). sector_at size was (get_or from j 0)) to c here in subst (λ (s : ℕ). is_among to s ≡ true) n.2 (among_get to n.0 n.1)))
        (λ later. inr (from_pieces r.late.items c later))
        (Contains-append_cases (copied size was from to) (flat_map (content_of size) r.late.items) c (subst (λ (d : Content). Contains d c) content_is at))
