-- What is ready of a change in which something comes, and what is written of it: its own bytes first, and its directory's last.
use Rattle.std.proofs.Common.{◌≡◌, ◌<◌, ◌≤◌, ◌*◌, ◌⊎◌, ⊎_elim, inl, inr, ℕ, true, false, List, [], ◌∷◌, ◌++◌, flat_map, length, refl, sym, ap, ap₂, subst, ◌∙◌, arith, Option, Some, None, All}
use Rattle.std.specs.Prelude.{Contains, Vec, get_or}
use Rattle.std.specs.declared.alloc.Global.{Global}
use Rattle.std.proofs.lemmas.List.{append-nil, append_assoc}
use Rattle.fc_device.specs.declared.disk.Extent.{Extent}
use Rattle.fc_dirs.specs.Directory.{Directory}
use Rattle.fc_drafts.specs.declared.draft.Draft.{Draft}
use Rattle.fc_drafts.specs.Draft.{IsSayable, directory_in, size_of}
use Rattle.fc_image.specs.Layout.{Layout, dir_form, is_among, is_apart, map_place, sector_bytes}
use Rattle.fc_image.specs.Walk.{Listing}
use Rattle.fc_image.specs.effects.Short.{new_dir_size}
use Rattle.fc_image.specs.effects.Steady.{AreWritten, new_directory}
use Rattle.fc_laws.specs.nodes.Edits.{Nodes}
use Rattle.fc_objects.specs.Extents.{sectors_in}
use Rattle.fc_objects.specs.Written.{AreApart}
use Rattle.fc_outcomes.specs.Puts.{AreContents, ArePutOut, Put}
use Rattle.fc_outcomes.proofs.lemmas.PutLemmas.{puts_law}
use Rattle.fc_tree.specs.Counts.{address_in}
use Rattle.fc_tree.specs.Parts.{Parts}
use Rattle.fc_tree.proofs.MemberLemmas.{contains_here}
use Rattle.fc_change.specs.declared.change.Change.{Change}
use Rattle.fc_change.specs.declared.change.Says.{Says}
use Rattle.fc_change.specs.declared.change.Turned.{Turned}
use Rattle.fc_change.specs.declared.change.Turned.TheVariants as turns
use Rattle.fc_change.specs.declared.job.FileWords.{FileWords}
use Rattle.fc_change.specs.declared.spaces.GrownPlace.{GrownPlace}
use Rattle.fc_change.specs.declared.spaces.Place.{Place}
use Rattle.fc_change.specs.declared.spaces.Spaces.{Spaces}
use Rattle.fc_change.specs.Prepared.{ArePiecesOf, IsGrownPiece, IsNewPiece, IsPieceOf, IsReadyFor, IsSourceOf}
use Rattle.fc_writing.specs.declared.ready.Piece.{Piece}
use Rattle.fc_writing.specs.declared.ready.Ready.{Ready}
use Rattle.fc_writing.specs.declared.ready.Source.{Source}
use Rattle.fc_writing.specs.declared.ready.Source.TheVariants as from
use Rattle.fc_writing.specs.declared.ready.Transfer.{Transfer}
use Rattle.fc_writing.specs.Content.{Content, HasContent, IsPart, stored}
use Rattle.fc_writing.specs.Laws.{ChangesOnly}
use Rattle.fc_writing.specs.Ready.{CanPut, IsEnough, IsSourceEnough, all_content, carried_by, content_of, copied_place, early_content, early_place, from_of, late_place, place_of, source_content, source_from, source_place, to_of, written_place}
use Rattle.fc_commands.proofs.ArrivalLemmas.{Arrival, entry_of}
use Rattle.fc_commands.proofs.ArrivalEditLemmas.{AreItsBytes, CanSayOwn, empty_in}
use Rattle.fc_commands.proofs.ArrivalPlaceLemmas.{IsItsPlace}
use Rattle.fc_commands.proofs.ArrivalStageLemmas.{IsArrivalChange, OwnsDraft}
use Rattle.fc_commands.proofs.EmptySpaceLemmas.{one_piece}
use Rattle.fc_commands.specs.Given.{filled}
use Rattle.fc_commands.proofs.FilledLemmas.{stored_filled}
use Rattle.fc_commands.proofs.PutLemmas.{CopiesNone, are_contents, contents_of, put_of}
use Rattle.fc_image.proofs.EntriesLemmas.{later as contains_later, cases as contains_cases}

-- ---- the object's side

-- the bytes that it has then, of those that are given or of its own piece
abbrev pub stored_of : Arrival → List Piece → List ℕ → List ℕ
stored_of Arrival.Makes (p ∷ ps) bytes = p.bytes.items
stored_of Arrival.Makes [] bytes = []
stored_of (Arrival.Saves words) ps bytes = filled words.len bytes

-- Before the map's first step these sectors are written, and nothing is copied: with the bytes that are given they get all bytes of the object.
pub record WritesOwn (x : Arrival) (sectors : List ℕ) (r : Ready) : Type 0 where
  pub plain : CopiesNone r.source
  pub carried : r.carried.items ≡ []
  pub place : early_place r ≡ sectors
  pub content : (size : ℕ) (was bytes : List ℕ) → early_content size was bytes r ≡ contents_of size (record { sectors = sectors; bytes = stored_of x r.early.items bytes } ∷ [])

-- A new directory's piece says what it says.
abbrev pub SaysOwn : Layout → Nodes → ℕ → Arrival → List ℕ → List Piece → Type 0
SaysOwn layout nodes dir Arrival.Makes name (p ∷ ps) =
    IsSayable (new_directory (dir_form layout) (address_in nodes dir) name) × AreWritten p.bytes.items (new_directory (dir_form layout) (address_in nodes dir) name)
    × (length p.bytes.items ≡ size_of (new_directory (dir_form layout) (address_in nodes dir) name))
SaysOwn layout nodes dir Arrival.Makes name [] = ⊥
SaysOwn layout nodes dir (Arrival.Saves words) name ps = Unit {0}

pub file_written : (words : FileWords) (place : Place) (r : Ready) → r.source ≡ from.Bytes place.extents → r.carried.items ≡ [] → r.early.items ≡ [] → WritesOwn (Arrival.Saves words) (sectors_in place.extents.items) r
file_written words place r source carried early =
    let sectors = sectors_in place.extents.items in
    record {
      plain = subst CopiesNone (sym source) tt;
      carried = carried;
      place = (λ i. source_place (source i) ++ (flat_map to_of (carried i) ++ flat_map place_of (early i))) ∙ append-nil sectors;
      content = λ size was bytes.
          (λ i. source_content size was bytes (source i) ++ (flat_map (carried_by size was) (carried i) ++ flat_map (content_of size) (early i)))
          ∙ ap (λ (c : Content). c ++ []) (stored_filled size words.len sectors bytes);
    }

directory_written : (place : Place) (p : Piece) (r : Ready) → r.source ≡ from.Nothing → r.carried.items ≡ [] → r.early.items ≡ p ∷ [] → p.place.items ≡ place.extents.items
    → WritesOwn Arrival.Makes (sectors_in place.extents.items) r
directory_written place p r source carried early at =
    let sectors = sectors_in place.extents.items in
    let same : place_of p ≡ sectors = ap sectors_in at in
    record {
      plain = subst CopiesNone (sym source) tt;
      carried = carried;
      place = (λ i. source_place (source i) ++ (flat_map to_of (carried i) ++ flat_map place_of (early i))) ∙ append-nil (place_of p) ∙ same;
      content = λ size was bytes.
          (λ i. source_content size was bytes (source i) ++ (flat_map (carried_by size was) (carried i) ++ flat_map (content_of size) (early i)))
          ∙ ap (λ (ss : List ℕ). stored size ss p.bytes.items ++ []) same
          ∙ ap (λ (ps : List Piece). stored size sectors (stored_of Arrival.Makes ps bytes) ++ []) (sym early);
    }

-- ---- what is ready

pub record IsArrivalReady (layout : Layout) (nodes : Nodes) (dir : ℕ) (x : Arrival) (name sectors : List ℕ) (said : Says) (s : Spaces) (r : Ready) : Type 0 where
  pub piece : Piece
  pub is_piece : IsPieceOf layout nodes said piece
  pub late : r.late.items ≡ piece ∷ []
  pub own : WritesOwn x sectors r
  pub says : SaysOwn layout nodes dir x name r.early.items
  pub take : r.take ≡ s.take
  pub give : r.give ≡ s.give

module _ (h : Parts) (c : Change) (s : Spaces) (r : Ready) (its : IsItsPlace s) (is : IsReadyFor h c s r) where
  none_grown_piece : is.grown ≡ []
  none_grown_piece = subst (λ (g : Option GrownPlace). IsGrownPiece g c.says.items is.grown) its.grown is.grows

  pub early_made : r.early.items ≡ is.made
  early_made = is.early ∙ ap (λ (ps : List Piece). is.made ++ ps) none_grown_piece ∙ append-nil is.made

  pub its_piece : (said : Says) → c.says.items ≡ said ∷ [] → (p : Piece) × (r.late.items ≡ p ∷ []) × IsPieceOf h.layout h.nodes said p
  its_piece said told =
      one_piece h.layout h.nodes said r.late.items
      (subst (λ (g : Option GrownPlace). ArePiecesOf h.layout h.nodes g (said ∷ []) r.late.items) its.grown (subst (λ (ss : List Says). ArePiecesOf h.layout h.nodes s.grown ss r.late.items) told is.late))

  pub source_of : (t : Turned) → c.object ≡ t → IsSourceOf t (Some its.place) None r.source
  source_of t turned =
      subst (λ (o : Option Place). IsSourceOf t o None r.source) its.is
      (subst (λ (o : Option (Vec Extent Global)). IsSourceOf t s.object o r.source) its.copied (subst (λ (u : Turned). IsSourceOf u s.object s.copied r.source) turned is.source))

  pub made_of : (t : Turned) → c.object ≡ t → IsNewPiece t (Some its.place) is.made
  made_of t turned = subst (λ (o : Option Place). IsNewPiece t o is.made) its.is (subst (λ (u : Turned). IsNewPiece u s.object is.made) turned is.makes)

  pub arrival_ready : (dir : ℕ) (name : List ℕ) (address : ℕ) (x : Arrival) (ch : IsArrivalChange h dir x name address c) → IsArrivalReady h.layout h.nodes dir x name (sectors_in its.place.extents.items) ch.said s r
  arrival_ready dir name address Arrival.Makes ch =
      let p = its_piece ch.said ch.says in
      let own = ch.owns in
      let comes = ch.comes ∙ ap (λ (d : Option Draft). turns.Comes dir (entry_of (dir_form h.layout) Arrival.Makes name address) d) own.1 in
      let made = made_of _ comes in
      let early = early_made ∙ made.1 in
      record {
        piece = p.0;
        is_piece = p.2;
        late = p.1;
        own = directory_written its.place made.0 r (source_of _ comes) is.carried early made.2;
        says = subst (SaysOwn h.layout h.nodes dir Arrival.Makes name) (sym early)
            (subst (λ (d : Directory). IsSayable d × AreWritten made.0.bytes.items d × (length made.0.bytes.items ≡ size_of d)) own.2 (made.3.sayable, made.3.bytes, made.3.length_is));
        take = is.take;
        give = is.give;
      }
  arrival_ready dir name address (Arrival.Saves words) ch =
      let p = its_piece ch.said ch.says in
      let comes = ch.comes ∙ ap (λ (d : Option Draft). turns.Comes dir (entry_of (dir_form h.layout) (Arrival.Saves words) name address) d) ch.owns in
      record {
        piece = p.0;
        is_piece = p.2;
        late = p.1;
        own = file_written words its.place r (source_of _ comes) is.carried (early_made ∙ made_of _ comes);
        says = tt;
        take = is.take;
        give = is.give;
      }
