-- How a conversion ended, with its line.
use Rattle.std.proofs.Common.{append-nil, ◌≡◌, ◌⊎◌, inl, inr, ⊎_elim, ◌≤◌, ℕ, ◌+◌, ◌-◌, ◌^◌, min, Bool, true, false, List, [], ◌∷◌, ◌++◌, refl, sym, ap, subst, ◌∙◌, Option, Some, None, Ok, Err, Result, arith}
use Rattle.std.specs.Option.{ForSome, option_map}
use Rattle.fc_device.specs.declared.disk.Disk.{Ghosts}
use Rattle.fc_device.specs.declared.streams.Sink.{Ghosts as Sinks}
use Rattle.fc_device.specs.Calls.{OnlyReads, StopsAsBefore}
use Rattle.fc_device.specs.Faults.{Rose}
use Rattle.fc_device.specs.Stops.{LeavesOnly}
use Rattle.fc_device.proofs.DiskLaws.{Laws}
use Rattle.fc_device.proofs.StopLemmas.{goes_on_same, started}
use Rattle.fc_record.specs.declared.Kind.{Kind}
use Rattle.fc_names.specs.Names.{Path}
use Rattle.fc_model.specs.Tree.{Tree}
use Rattle.fc_image.specs.declared.ImageFault.{ImageFault}
use Rattle.fc_image.specs.Laws.{AcceptedLaw}
use Rattle.fc_image.specs.Objects.{tree_of}
use Rattle.fc_image.specs.Opening.{Opened, open_image}
use Rattle.fc_image.specs.effects.Effect.{State, tree_in}
use Rattle.fc_format.specs.Fresh.{format_size}
use Rattle.fc_fit.specs.declared.counts.Counts.{Counts}
use Rattle.fc_fit.specs.declared.fit.What.{What}
use Rattle.fc_fit.specs.Counts.{tree_counts}
use Rattle.fc_fit.specs.Fit.{unfit}
use Rattle.fc_program.specs.Reading.{IsUnwritten}
use Rattle.fc_program.specs.Writing.{Wrote, WrotePart}
use Rattle.fc_tree.specs.Parts.{ArePartsOf}
use Rattle.fc_volume.specs.Volume.{Volume, parts_of}
use Rattle.fc_convert.specs.declared.ending.ConvertEnd.{ConvertEnd}
use Rattle.fc_convert.specs.declared.ending.ConvertEnd.TheVariants as ends
use Rattle.fc_convert.specs.Convert.{ConvertWords, counts_line, converted_line}
use Rattle.fc_convert.specs.Converting.{ConvertsDisks, CopiesBy, FailsToOpen, ForSource, OpensAndCopies, TellsLine}
use Rattle.fc_convert.specs.Ends.{IsLine, TellsEnd, end_line, is_over_source, is_over_target}
use Rattle.fc_convert.specs.Opened.{Holds, NoSourceFor, NoTargetFor}
use Rattle.fc_convert.specs.Promise.{AsksOnce, AsksTarget, EndsByFit, EndsByOpening, EndsOnFault, EndsOver, EndsUnfit, FitsGiven, HasConverted, IsAnswer, Outside}
use Rattle.fc_convert.proofs.EndLemmas.{EndsDisks, end_of, ends_disks, line_of}
use Rattle.fc_convert.proofs.ToldLemmas.{copied_told, free_NoMemory, free_OutFault, unopened_told}

wrote_nothing : (before : Option (List ℕ)) → Wrote before before []
wrote_nothing None = refl
wrote_nothing (Some taken) = ap (λ (xs : List ℕ). let o : Option (List ℕ) = Some xs in o) (sym (append-nil taken))

-- the line was written
tells_as : (before after : Option (List ℕ)) (end : ConvertEnd) → (end ≡ ends.Done → ⊥) → (end ≡ ends.OutFault → ⊥) → Wrote before after (end_line end) → TellsEnd before after end
tells_as before after ends.Done never fails wrote = absurd (never refl)
tells_as before after (ends.Unfit path what) never fails wrote = wrote
tells_as before after ends.BadWords never fails wrote = wrote
tells_as before after (ends.BadImage fault) never fails wrote = wrote
tells_as before after ends.FromFault never fails wrote = wrote
tells_as before after ends.ToFault never fails wrote = wrote
tells_as before after ends.OutFault never fails wrote = absurd (fails refl)
tells_as before after ends.NoMemory never fails wrote = wrote
tells_as before after (ends.NoRoom path refusal) never fails wrote = wrote
tells_as before after ends.NoSource never fails wrote = wrote
tells_as before after ends.NoTarget never fails wrote = wrote
tells_as before after (ends.BadTarget fault) never fails wrote = wrote

tells_of : (before after : Option (List ℕ)) (result : Result Counts ConvertEnd) → (result ≡ Err ends.Done → ⊥) → (end_of result ≡ ends.OutFault → ⊥) → Wrote before after (line_of result) → TellsEnd before after (end_of result)
tells_of before after (Ok counts) never fails wrote = (counts.files, counts.dirs, wrote)
tells_of before after (Err end) never fails wrote = tells_as before after end (λ is. never (ap (λ (x : ConvertEnd). let r : Result Counts ConvertEnd = Err x in r) is)) fails wrote

is_line : (result : Result Counts ConvertEnd) → IsLine (line_of result)
is_line (Ok counts) = inl (counts.files, counts.dirs, refl)
is_line (Err end) = inr (end, refl)

-- what was asked of the target then
module _ {E : Type 0} (e : Ghosts E) (w : ConvertWords) (to to' : E) where
  asks_maybe : (end : ConvertEnd) → AsksTarget e w to to' end → (to' ≡ to) ⊎ AsksOnce e w to to'
  asks_maybe ends.Done asks = inr asks
  asks_maybe (ends.Unfit path what) asks = inl asks
  asks_maybe ends.BadWords asks = inl asks
  asks_maybe (ends.BadImage fault) asks = inl asks
  asks_maybe ends.FromFault asks = asks
  asks_maybe ends.ToFault asks = inr asks
  asks_maybe ends.OutFault asks = asks
  asks_maybe ends.NoMemory asks = asks
  asks_maybe (ends.NoRoom path refusal) asks = inr asks
  asks_maybe ends.NoSource asks = inl asks
  asks_maybe ends.NoTarget asks = inr asks.0
  asks_maybe (ends.BadTarget fault) asks = inr asks

module _ {D E K : Type 0} {d : Ghosts D} {e : Ghosts E} (k : Sinks K) (w : ConvertWords) (old new : Outside D E K) (result : Result Counts ConvertEnd) (disks : EndsDisks d e w old.from new.from old.to new.to (end_of result))
    (told : ((counts : Counts) → result ≡ Ok counts → Wrote (k.taken old.out) (k.taken new.out) (counts_line counts.files counts.dirs))
    → ForSome (d.bytes old.from) (λ image. EndsByOpening e old.to new.to w.format image (k.taken old.out) (k.taken new.out) (open_image image) (end_of result)))
    (free_out : ForSome (d.bytes old.from) (λ image. EndsByOpening e old.to new.to w.format image (k.taken old.out) (k.taken new.out) (open_image image) ends.OutFault))
    (free_memory : ForSome (d.bytes old.from) (λ image. EndsByOpening e old.to new.to w.format image (k.taken old.out) (k.taken new.out) (open_image image) ends.NoMemory))
    (never : result ≡ Err ends.Done → ⊥) where
  counts_wrote : (r : Result Counts ConvertEnd) → Wrote (k.taken old.out) (k.taken new.out) (line_of r) → (counts : Counts) → r ≡ Ok counts → Wrote (k.taken old.out) (k.taken new.out) (counts_line counts.files counts.dirs)
  counts_wrote r wrote counts is = subst (λ (x : Result Counts ConvertEnd). Wrote (k.taken old.out) (k.taken new.out) (line_of x)) is wrote

  pub line_written : Wrote (k.taken old.out) (k.taken new.out) (line_of result) → HasConverted d e k w old new (end_of result)
  line_written wrote = record {
    told = told (counts_wrote result wrote);
    line = tells_of (k.taken old.out) (k.taken new.out) result never disks.good.1 wrote;
    source = disks.source;
    asks_source = disks.asks_source;
    asks_target = disks.asks_target;
    source_given = disks.source_given;
    target_given = disks.target_given;
    bad_target = disks.bad_target;
    settled = disks.settled;
    from_fault = disks.from_fault;
    to_fault = disks.to_fault;
    out_fault = λ is. absurd (disks.good.1 is);
    good_words = disks.good.0;
    goes = disks.goes;
  }

  pub line_failed : WrotePart (k.taken old.out) (k.taken new.out) (line_of result) → Rose (k.faults old.out) (k.faults new.out) → HasConverted d e k w old new ends.OutFault
  line_failed part rose = record {
    told = free_out;
    line = (line_of result, is_line result, part);
    source = disks.source;
    asks_source = disks.asks_source;
    asks_target = asks_maybe e w old.to new.to (end_of result) disks.asks_target;
    source_given = λ gives here. (λ is. absurd (cc), λ over. absurd (cc));
    target_given = λ gives here. (λ is. absurd (cc), λ over. absurd (cc));
    bad_target = λ fault is. absurd (cc);
    settled = λ over. absurd (cc);
    from_fault = λ is. absurd (cc);
    to_fault = λ is. absurd (cc);
    out_fault = λ is. rose;
    good_words = λ is. absurd (cc);
    goes = disks.goes;
  }

  pub line_unmade : new.out ≡ old.out → HasConverted d e k w old new ends.NoMemory
  line_unmade same = record {
    told = free_memory;
    line = subst (λ (o : K). Wrote (k.taken old.out) (k.taken o) []) (sym same) (wrote_nothing (k.taken old.out));
    source = disks.source;
    asks_source = disks.asks_source;
    asks_target = asks_maybe e w old.to new.to (end_of result) disks.asks_target;
    source_given = λ gives here. (λ is. absurd (cc), λ over. absurd (cc));
    target_given = λ gives here. (λ is. absurd (cc), λ over. absurd (cc));
    bad_target = λ fault is. absurd (cc);
    settled = λ over. absurd (cc);
    from_fault = λ is. absurd (cc);
    to_fault = λ is. absurd (cc);
    out_fault = λ is. absurd (cc);
    good_words = λ is. absurd (cc);
    goes = disks.goes;
  }

  pub converted_as : (end : ConvertEnd) → TellsLine k old.out new.out (end_of result) (line_of result) end → HasConverted d e k w old new end
  converted_as end (inl done) = subst (HasConverted d e k w old new) (sym done.0) (line_written done.1)
  converted_as end (inr (inl fails)) = subst (HasConverted d e k w old new) (sym fails.0) (line_failed fails.1 fails.2)
  converted_as end (inr (inr short)) = subst (HasConverted d e k w old new) (sym short.0) (line_unmade short.1)

-- ---- all

no_done : {D E : Type 0} {d : Ghosts D} {e : Ghosts E} (w : ConvertWords) (from from' : D) (to to' : E) (result : Result Counts ConvertEnd) → ConvertsDisks d e w from from' to to' result → result ≡ Err ends.Done → ⊥
no_done {d = d} {e = e} w from from' to to' result (inl fails) is =
    subst (NoSourceFor d w.from from from') (one_error fails.end ends.Done (sym fails.ended ∙ is)) fails.cause
  where
    one_error : (a b : ConvertEnd) → (let r : Result Counts ConvertEnd = Err a in r) ≡ Err b → a ≡ b
    one_error a b e = cc
no_done {d = d} {e = e} w from from' to to' result (inr opens) is = subst (CopiesBy d e w opens.volume opens.mid from' to to') is opens.copies.copied

module _ {D E K : Type 0} {d : Ghosts D} {e : Ghosts E} (k : Sinks K) (rule : Laws d) (law : Laws e) (accepted : AcceptedLaw) (w : ConvertWords) (old new : Outside D E K) (result : Result Counts ConvertEnd) where
  disks_told : ConvertsDisks d e w old.from new.from old.to new.to result
      → ((counts : Counts) → result ≡ Ok counts → Wrote (k.taken old.out) (k.taken new.out) (counts_line counts.files counts.dirs))
      → ForSome (d.bytes old.from) (λ image. EndsByOpening e old.to new.to w.format image (k.taken old.out) (k.taken new.out) (open_image image) (end_of result))
  disks_told (inl fails) wrote =
      subst (λ (r : Result Counts ConvertEnd). ForSome (d.bytes old.from) (λ image. EndsByOpening e old.to new.to w.format image (k.taken old.out) (k.taken new.out) (open_image image) (end_of r))) (sym fails.ended)
      (unopened_told d e accepted w old.from new.from new.from old.to new.to (k.taken old.out) (k.taken new.out) fails.end fails.cause)
  disks_told (inr opens) wrote =
      copied_told d e accepted w old.from opens.mid new.from old.to new.to (k.taken old.out) (k.taken new.out) opens.volume opens.opened.1 opens.unwritten.bytes_stay result opens.copies.copied wrote

  pub has_converted : (end : ConvertEnd) → ConvertsDisks d e w old.from new.from old.to new.to result → TellsLine k old.out new.out (end_of result) (line_of result) end → HasConverted d e k w old new end
  has_converted end disks tells =
      converted_as k w old new result (ends_disks rule law w old.from new.from old.to new.to result disks) (disks_told disks)
      (free_OutFault d e accepted w old.from new.from new.from old.to new.to (k.taken old.out) (k.taken new.out))
      (free_NoMemory d e accepted w old.from new.from new.from old.to new.to (k.taken old.out) (k.taken new.out))
      (no_done w old.from new.from old.to new.to result disks) end tells
