-- A `get`, from what became of its file.
use Rattle.std.proofs.Common.{◌≡◌, ◌⊎◌, inl, inr, ⊎_elim, ℕ, Bool, true, false, List, [], ◌∷◌, ◌++◌, Option, Some, Result, Ok, Err, refl, sym, ap, subst, ◌∙◌, append_assoc}
use Rattle.std.specs.Prelude.{IsOk}
use Rattle.std.specs.Option.{option_map, option_map_or, unwrap_or}
use Rattle.std.specs.FinMap.{insert}
use Rattle.std.proofs.lemmas.List.{append-nil, same_from_push}
use Rattle.fc_device.specs.declared.disk.Disk.{Ghosts}
use Rattle.fc_device.specs.declared.disk.Extent.{Extent}
use Rattle.fc_device.specs.Calls.{OnlyReads}
use Rattle.fc_device.proofs.DiskLaws.{Laws}
use Rattle.fc_export.specs.declared.file.ExportFault.{ExportFault}
use Rattle.fc_export.specs.Exports.{Exported, IsBroken}
use Rattle.fc_export.specs.Readable.{told_bytes}
use Rattle.fc_host.specs.Answers.{made_of}
use Rattle.fc_host.specs.Asked.{Asked}
use Rattle.fc_host.specs.Files.{Files}
use Rattle.fc_host.specs.declared.asks.HostCall.{HostCall}
use Rattle.fc_host.specs.declared.asks.HostCall.TheVariants as calls
use Rattle.fc_names.specs.Names.{Path}
use Rattle.fc_names.specs.declared.refusal.Refusal.{Refusal}
use Rattle.fc_names.specs.declared.refusal.Refusal.TheVariants as refusals
use Rattle.fc_record.specs.declared.Kind.{Kind}
use Rattle.fc_image.specs.Layout.{bytes_in, sector_bytes, sectors_at}
use Rattle.fc_image.specs.Stays.{OpensAs}
use Rattle.fc_image.specs.effects.Effect.{State}
use Rattle.fc_model.specs.Command.{Command}
use Rattle.fc_model.specs.Tree.{Tree}
use Rattle.fc_objects.specs.Bytes.{first_bytes}
use Rattle.fc_objects.specs.Extents.{sectors_in}
use Rattle.fc_script.specs.HostLines.{HostLine}
use Rattle.fc_script.specs.Texts.{ok_line, refusal_line}
use Rattle.fc_runs.specs.AskedRun.{AskedTakes, GetsAsked, UnlessRefused}
use Rattle.fc_runs.specs.HostAsks.{GetAsks}
use Rattle.fc_runs.specs.HostPromises.{AskedBegun, GetsPart, IsBack}
use Rattle.fc_runs.specs.HostRun.{answer_in, file_in}
use Rattle.fc_runs.specs.Run.{Mode}
use Rattle.fc_space.specs.Space.{layout_of}
use Rattle.fc_space.specs.declared.space.Space.{Space}
use Rattle.fc_tree.specs.Parts.{ArePartsOf}
use Rattle.fc_tree.specs.declared.node.Node.{Node}
use Rattle.fc_volume.specs.declared.lines.FileRef.{FileRef}
use Rattle.fc_volume.specs.Answers.{IsPlace, IsRef, file_bytes, ref_bytes}
use Rattle.fc_volume.specs.Volume.{Volume, parts_of}
use Rattle.fc_shell.specs.declared.answer.LineFault.{LineFault}
use Rattle.fc_shell.specs.declared.moving.MoveFault.{MoveFault}
use Rattle.fc_shell.specs.Answered.{Answered}
use Rattle.fc_shell.specs.Getting.{FileMoves, IsGot, IsNotGot}
use Rattle.fc_shell.specs.Modes.{mode_of}
use Rattle.fc_shell.specs.MoveFaults.{moved_result}
use Rattle.fc_shell.specs.Moving.{LineMoves, move_cause}
use Rattle.fc_shell.specs.Writing.{Wrote}
use Rattle.fc_shell.proofs.MovingLemmas.{broke_left, moved_same, cuts_move}
use Rattle.fc_tree.proofs.PathLemmas.{some_same as same_node}
use Rattle.fc_shell.proofs.StepLemmas.{same_image, same_tree}
use Rattle.fc_shell.proofs.WritingLemmas.{wrote_nothing}
use Rattle.fc_device.proofs.StopLemmas.{one_told}
use Rattle.fc_runs.proofs.HostServingLemmas.{stays_same}

-- ---- the file's bytes

-- the bytes of a file are those of its place
pub place_bytes : (image : List ℕ) (v : Volume) (f : FileRef) (place : List Extent) → IsPlace v f place → IsRef v f
    → first_bytes (sector_bytes (parts_of v).layout) image (sectors_in place) f.len ≡ ref_bytes image v f
unfolding bytes_in first_bytes
place_bytes image v f place is ref =
    let layout = (parts_of v).layout in
    let same : ref.0 ≡ is.node = same_node ref.0 is.node (sym ref.1 ∙ is.named) in
    let long : f.len ≡ is.node.entry.len = ref.3 ∙ ap (λ (n : Node). n.entry.len) same in
    sym (ap (λ (o : Option Node). option_map_or (λ node. file_bytes image layout node.entry) o []) is.named
    ∙ ap (λ (n : ℕ). bytes_in (sector_bytes layout) image (unwrap_or (sectors_at layout is.node.entry.address n) []) n) (sym long)
    ∙ ap (λ (o : Option (List ℕ)). bytes_in (sector_bytes layout) image (unwrap_or o []) f.len) is.sectors)

-- ---- from the file that was to be made

module _ (host : List ℕ) (known : Option (List ℕ)) (asked : List Asked) (old new : Option Files) where
  pub exported_made : (bytes : List ℕ) → known ≡ Some bytes → Exported host known asked old new (Ok true) → IsGot host bytes asked old new ok_line
  exported_made bytes is x = record { got = λ s. inr (x.0, x.1, x.3 bytes is, refl, refl); answered = x.2 }

  pub exported_there : (bytes : List ℕ) → Exported host known asked old new (Ok false) → IsGot host bytes asked old new (refusal_line refusals.HostExists)
  exported_there bytes x = record { got = λ s. inl (x.0, (refl, refl)); answered = x.1 }

  -- a call that failed removed nothing
  no_removal : (front : List Asked) (name : List ℕ) (before : List Asked) (piece : List ℕ) → asked ≡ front ++ (name, calls.Remove, []) ∷ [] → asked ≡ before ++ (host, calls.Failed, piece) ∷ [] → ⊥
  no_removal front name before piece a b =
      let last = (same_from_push front before (name, calls.Remove, []) (host, calls.Failed, piece) (sym a ∙ b)).1 in
      let call : (let removed : HostCall = calls.Remove in removed) ≡ calls.Failed = ap (λ (x : Asked). x.1) last in
      cc

  broken_back : IsBroken host known asked old new → IsBack asked old new
  broken_back broken front name removed =
      let made = made_of host broken.pieces in
      ⊎_elim (λ back. back.1)
      (λ failed. absurd (no_removal front name (made ++ broken.failed) [] removed
      (broken.asks ∙ ap (λ (b : List Asked). made ++ (broken.failed ++ b)) failed ∙ sym (append_assoc made broken.failed ((host, calls.Failed, []) ∷ []))))) broken.taken_back

  part_asked : (bytes : List ℕ) → known ≡ Some bytes → IsBroken host known asked old new → GetsPart host bytes asked
  part_asked bytes is broken =
      let first = broken.first bytes is in
      record {
        pieces = broken.pieces;
        piece = broken.piece;
        failed = broken.failed;
        rest = first.0;
        asks = ⊎_elim (λ back. inl (broken.asks ∙ ap (λ (b : List Asked). made_of host broken.pieces ++ (broken.failed ++ b)) back.0))
            (λ back. inr (broken.asks ∙ ap (λ (b : List Asked). made_of host broken.pieces ++ (broken.failed ++ b)) back)) broken.taken_back;
        failed_is = broken.failed_is;
        first = first.1;
      }

  pub exported_not : (bytes : List ℕ) (fault : ExportFault) → known ≡ Some bytes → Exported host known asked old new (Err fault) → IsNotGot host bytes asked old new
  exported_not bytes fault is x = record {
    begun = inr (⊎_elim (λ unmade. inl unmade.0) (λ broken. inr (part_asked bytes is broken)) x.0);
    files_left = λ held told.
        let left = x.1 held told in (
          left.0,
          left.1,
          ⊎_elim (λ same. inl same) (λ part. inr (part.0, (let n = part.1.2 bytes is in (n.0, part.1.1 ∙ ap (insert held host) n.1)))) left.2,
        );
    back = λ front name removed. ⊎_elim (λ unmade. absurd (no_removal front name [] [] removed unmade.0)) (λ broken. broken_back broken front name removed) x.0;
  }

  -- what was asked, whatever is known
  pub exported_asks : (r : Result Bool ExportFault) → Exported host known asked old new r → GetAsks host asked
  exported_asks (Ok true) x = inr (inr (inr (x.0, [], x.1 ∙ sym (append-nil (made_of host x.0)), inl refl)))
  exported_asks (Ok false) x = inr (inl x.0)
  exported_asks (Err fault) x = ⊎_elim (λ unmade. inr (inr (inl unmade.0))) (λ broken. inr (inr (inr (
    broken.pieces,
    broken.failed ++ broken.back,
    broken.asks,
    inr (
      broken.failed,
      ⊎_elim (λ none. inl none) (λ is. inr (broken.piece, is)) broken.failed_is,
      ⊎_elim (λ back. inl (ap (λ (b : List Asked). broken.failed ++ b) back.0)) (λ back. inr (ap (λ (b : List Asked). broken.failed ++ b) back)) broken.taken_back,
    ),
  )))) x.0

-- a reply was written then
pub told_file : (host bytes : List ℕ) (asked : List Asked) (files left : Option Files) (before after : Option (List ℕ)) (reply : List ℕ) → IsGot host bytes asked files left reply
    → (r : Result Bool LineFault) → (r ≡ Err LineFault.Disk → ⊥) → Answered reply before after r → FileMoves host bytes asked files left before after (moved_result r)
told_file host bytes asked files left before after reply got (Ok refused) never is = (reply, got, is.0, is.1)
told_file host bytes asked files left before after reply got (Err fault) never is = inl (reply, got, is, cuts_move fault (λ e. never (ap Err e)))

-- ---- the line

module _ {D : Type 0} {d : Ghosts D} (law : Laws d) (kind : Kind) (safe : Bool) (v : Volume) (s : State) (path : Path) (host : List ℕ) (old new : D) (before after : Option (List ℕ))
    (quiet : d.pending old ≡ false) (told : d.bytes old ≡ Some s.image) (opens : OpensAs s.image kind s.view) (reads : OnlyReads d old new) (t : Tree)
    (accepted : answer_in (mode_of kind v.read_only safe) s (Command.Load path) ≡ Ok t) (asked : List Asked) (files left : Option Files) where
  abbrev mode : Mode
  mode = mode_of kind v.read_only safe

  abbrev line : Result HostLine Refusal
  line = Ok (HostLine.Get path host)

  got_step : (reply : List ℕ) → IsGot host (file_in s path) asked files left reply → AskedTakes mode s asked line reply s
  got_step reply is = subst (λ (a : Result Tree Refusal). UnlessRefused s a asked reply s (GetsAsked s host (file_in s path) asked reply s)) (sym accepted) (is.got s)

  is_ok : IsOk (answer_in mode s (Command.Load path))
  is_ok = subst (λ (a : Result Tree Refusal). IsOk a) (sym accepted) refl

  not_begun : (asked ≡ []) ⊎ ((asked ≡ (host, calls.Failed, []) ∷ []) ⊎ GetsPart host (file_in s path) asked) → AskedBegun mode s line asked
  not_begun (inl none) = inl none
  not_begun (inr some) = inr (is_ok, some)

  pub got_moves : (r : Result Bool MoveFault) → ArePartsOf (parts_of v) s.view → FileMoves host (file_in s path) asked files left before after r
      → LineMoves d old new mode s v line before after asked files left r
  got_moves (Ok refused) parts x = record {
    reply = x.0;
    next = s;
    moved = moved_same law kind safe v s line old new before after quiet told opens reads x.0 asked files left (got_step x.0 x.1) x.1.answered;
    parts = parts;
    wrote = x.2;
    refused_is = x.3;
  }
  got_moves (Err fault) parts (inl x) = inl (record {
    reply = x.0;
    next = s;
    moved = moved_same law kind safe v s line old new before after quiet told opens reads x.0 asked files left (got_step x.0 x.1) x.1.answered;
    part = x.2;
    cuts = x.3;
  })
  got_moves (Err fault) parts (inr x) = inr (record {
    part = (0, subst (λ (a : Option (List ℕ)). Wrote before a []) (sym x.0) (wrote_nothing before));
    broke = record {
      begun = not_begun x.1.begun;
      back = x.1.back;
      files_left = λ held known. let rest = x.1.files_left held known in (rest.0, rest.1, ⊎_elim (λ same. inl same) (λ part. inr (is_ok, part.0, part.1)) rest.2);
      holds = λ spares. (s.image, reads.bytes ∙ told, stays_same (move_cause fault) kind s opens);
      kept = λ keeps. same_tree law kind safe v s [] old new before after quiet told opens reads.stops;
      still = λ leaves. same_image law kind safe v s [] old new before after quiet told opens reads.stops;
      spared = λ image since. broke_left mode s opens line asked files image (same_image law kind safe v s [] old new before after quiet told opens reads.stops image since);
      exit = λ image here. broke_left mode s opens line asked files image (one_told (sym here ∙ (reads.bytes ∙ told)));
    };
  })

-- what is known of the bytes of a file's place
pub told_place : {D : Type 0} (d : Ghosts D) (disk : D) (image : List ℕ) (v : Volume) (f : FileRef) (place items : List Extent) (size : ℕ) (space : Space) → IsPlace v f items → IsRef v f → place ≡ items
    → space ≡ v.space → size ≡ sector_bytes (layout_of space) → d.bytes disk ≡ Some image → told_bytes d disk size (sectors_in place) f.len ≡ Some (ref_bytes image v f)
told_place d disk image v f place items size space is ref placed own sized told =
    let whole : size ≡ sector_bytes (layout_of v.space) = sized ∙ ap (λ (s : Space). sector_bytes (layout_of s)) own in
    ap (option_map (λ i. first_bytes size i (sectors_in place) f.len)) told ∙ ap (λ (n : ℕ). Some (first_bytes n image (sectors_in place) f.len)) whole
    ∙ ap (λ (p : List Extent). Some (first_bytes (sector_bytes (layout_of v.space)) image (sectors_in p) f.len)) placed ∙ ap Some (place_bytes image v f items is ref)
