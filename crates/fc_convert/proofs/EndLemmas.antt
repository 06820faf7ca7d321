-- How a conversion ended, whatever its line.
use Rattle.std.proofs.Common.{append-nil, ◌≡◌, ◌⊎◌, inl, inr, ⊎_elim, ◌≤◌, ℕ, ◌+◌, ◌-◌, ◌^◌, min, Bool, true, false, List, [], ◌∷◌, ◌++◌, refl, sym, ap, subst, ◌∙◌, Option, Some, None, Ok, Err, Result, arith}
use Rattle.std.specs.Option.{ForSome, option_map}
use Rattle.fc_device.specs.declared.disk.Disk.{Ghosts}
use Rattle.fc_device.specs.declared.streams.Sink.{Ghosts as Sinks}
use Rattle.fc_device.specs.Calls.{OnlyReads, StopsAsBefore}
use Rattle.fc_device.specs.Faults.{Rose}
use Rattle.fc_device.specs.Stops.{LeavesOnly}
use Rattle.fc_device.proofs.DiskLaws.{Laws}
use Rattle.fc_device.proofs.StopLemmas.{goes_on_same, started}
use Rattle.fc_record.specs.declared.Kind.{Kind}
use Rattle.fc_names.specs.Names.{Path}
use Rattle.fc_model.specs.Tree.{Tree}
use Rattle.fc_image.specs.declared.ImageFault.{ImageFault}
use Rattle.fc_image.specs.Laws.{AcceptedLaw}
use Rattle.fc_image.specs.Objects.{tree_of}
use Rattle.fc_image.specs.Opening.{Opened, open_image}
use Rattle.fc_image.specs.effects.Effect.{State, tree_in}
use Rattle.fc_format.specs.Fresh.{format_size}
use Rattle.fc_fit.specs.declared.counts.Counts.{Counts}
use Rattle.fc_fit.specs.declared.fit.What.{What}
use Rattle.fc_fit.specs.Counts.{tree_counts}
use Rattle.fc_fit.specs.Fit.{unfit}
use Rattle.fc_program.specs.Reading.{IsUnwritten}
use Rattle.fc_program.specs.Writing.{Wrote, WrotePart}
use Rattle.fc_tree.specs.Parts.{ArePartsOf}
use Rattle.fc_volume.specs.Volume.{Volume, parts_of}
use Rattle.fc_convert.specs.declared.ending.ConvertEnd.{ConvertEnd}
use Rattle.fc_convert.specs.declared.ending.ConvertEnd.TheVariants as ends
use Rattle.fc_convert.specs.Convert.{ConvertWords, counts_line, converted_line}
use Rattle.fc_convert.specs.Converting.{ConvertsDisks, CopiesBy, FailsToOpen, ForSource, OpensAndCopies, TellsLine}
use Rattle.fc_convert.specs.Ends.{IsLine, TellsEnd, end_line, is_over_source, is_over_target}
use Rattle.fc_convert.specs.Opened.{Holds, NoSourceFor, NoTargetFor}
use Rattle.fc_convert.specs.Promise.{AsksOnce, AsksTarget, EndsByFit, EndsByOpening, EndsOnFault, EndsOver, EndsUnfit, FitsGiven, HasConverted, IsAnswer, Outside}

-- the end of a result
abbrev pub end_of : Result Counts ConvertEnd → ConvertEnd
end_of (Ok counts) = ends.Done
end_of (Err end) = end

-- and the line that belongs to it
abbrev pub line_of : Result Counts ConvertEnd → List ℕ
line_of (Ok counts) = counts_line counts.files counts.dirs
line_of (Err end) = end_line end

-- what of a conversion doesn't depend on the output
pub record EndsDisks {D E : Type 0} (d : Ghosts D) (e : Ghosts E) (w : ConvertWords) (from from' : D) (to to' : E) (end : ConvertEnd) : Type 0 where
  pub source : IsUnwritten d from from'
  pub asks_source : d.asked from' ≡ d.asked from ++ (w.from, None) ∷ []
  pub asks_target : AsksTarget e w to to' end
  pub source_given : ForSome (d.gives from) (λ gives. FitsGiven (gives w.from None) ends.NoSource end (is_over_source end))
  pub target_given : ForSome (e.gives to) (λ gives. FitsGiven (gives w.to (Some (format_size w.format))) ends.NoTarget end (is_over_target end))
  pub bad_target : (fault : ImageFault) → end ≡ ends.BadTarget fault → e.bytes to ≡ None
  pub settled : is_over_target end ≡ true → e.pending to' ≡ false
  pub from_fault : end ≡ ends.FromFault → Rose (d.faults from) (d.faults from')
  pub to_fault : end ≡ ends.ToFault → Rose (e.faults to) (e.faults to')
  pub good : (end ≡ ends.BadWords → ⊥) × (end ≡ ends.OutFault → ⊥)
  pub goes : LeavesOnly e.moment e.left_since to to' (λ image. Unit {0})

-- ---- the source wasn't opened

module _ {D E : Type 0} {d : Ghosts D} {e : Ghosts E} (law : Laws e) (w : ConvertWords) (from from' : D) (to : E) where
  pub unopened : (end : ConvertEnd) → NoSourceFor d w.from from from' end → d.asked from' ≡ d.asked from ++ (w.from, None) ∷ [] → IsUnwritten d from from' → EndsDisks d e w from from' to to end
  unopened ends.Done cause asked unwritten = absurd cause
  unopened (ends.Unfit path what) cause asked unwritten = absurd cause
  unopened ends.BadWords cause asked unwritten = absurd cause
  unopened (ends.BadImage fault) cause asked unwritten = record {
    source = unwritten;
    asks_source = asked;
    asks_target = refl;
    source_given = λ gives told. (λ is. absurd (cc), λ over. cause.0 gives told);
    target_given = λ gives told. (λ is. absurd (cc), λ over. absurd (cc));
    bad_target = λ fault is. absurd (cc);
    settled = λ over. absurd (cc);
    from_fault = λ is. absurd (cc);
    to_fault = λ is. absurd (cc);
    good = (λ is. absurd (cc), λ is. absurd (cc));
    goes = started law to (λ image. Unit {0}) (λ image left. tt);
  }
  unopened ends.FromFault cause asked unwritten = record {
    source = unwritten;
    asks_source = asked;
    asks_target = inl refl;
    source_given = λ gives told. (λ is. absurd (cc), λ over. absurd (cc));
    target_given = λ gives told. (λ is. absurd (cc), λ over. absurd (cc));
    bad_target = λ fault is. absurd (cc);
    settled = λ over. absurd (cc);
    from_fault = λ is. cause;
    to_fault = λ is. absurd (cc);
    good = (λ is. absurd (cc), λ is. absurd (cc));
    goes = started law to (λ image. Unit {0}) (λ image left. tt);
  }
  unopened ends.ToFault cause asked unwritten = absurd cause
  unopened ends.OutFault cause asked unwritten = absurd cause
  unopened ends.NoMemory cause asked unwritten = record {
    source = unwritten;
    asks_source = asked;
    asks_target = inl refl;
    source_given = λ gives told. (λ is. absurd (cc), λ over. absurd (cc));
    target_given = λ gives told. (λ is. absurd (cc), λ over. absurd (cc));
    bad_target = λ fault is. absurd (cc);
    settled = λ over. absurd (cc);
    from_fault = λ is. absurd (cc);
    to_fault = λ is. absurd (cc);
    good = (λ is. absurd (cc), λ is. absurd (cc));
    goes = started law to (λ image. Unit {0}) (λ image left. tt);
  }
  unopened (ends.NoRoom path refusal) cause asked unwritten = absurd cause
  unopened ends.NoSource cause asked unwritten = record {
    source = unwritten;
    asks_source = asked;
    asks_target = refl;
    source_given = λ gives told. (λ is. cause gives told, λ over. absurd (cc));
    target_given = λ gives told. (λ is. absurd (cc), λ over. absurd (cc));
    bad_target = λ fault is. absurd (cc);
    settled = λ over. absurd (cc);
    from_fault = λ is. absurd (cc);
    to_fault = λ is. absurd (cc);
    good = (λ is. absurd (cc), λ is. absurd (cc));
    goes = started law to (λ image. Unit {0}) (λ image left. tt);
  }
  unopened ends.NoTarget cause asked unwritten = absurd cause
  unopened (ends.BadTarget fault) cause asked unwritten = absurd cause

-- ---- it was, and was copied

module _ {D E : Type 0} {d : Ghosts D} {e : Ghosts E} (law : Laws e) (w : ConvertWords) (v : Volume) (from mid from' : D) (to to' : E) (given : ForSome (d.gives from) (λ gives. gives w.from None ≡ true))
    (asked : d.asked from' ≡ d.asked from ++ (w.from, None) ∷ []) (unwritten : IsUnwritten d from from') (earlier : d.faults from ≤ d.faults mid) (goes : LeavesOnly e.moment e.left_since to to' (λ image. Unit {0})) where
  pub copied : (result : Result Counts ConvertEnd) → CopiesBy d e w v mid from' to to' result → EndsDisks d e w from from' to to' (end_of result)
  copied (Ok counts) by = record {
    source = unwritten;
    asks_source = asked;
    asks_target = by.1;
    source_given = λ gives told. (λ is. absurd (cc), λ over. given gives told);
    target_given = λ gives told. (λ is. absurd (cc), λ over. by.2.0 gives told);
    bad_target = λ fault is. absurd (cc);
    settled = λ over. by.2.1;
    from_fault = λ is. absurd (cc);
    to_fault = λ is. absurd (cc);
    good = (λ is. absurd (cc), λ is. absurd (cc));
    goes = goes;
  }
  copied (Err ends.Done) by = absurd by
  copied (Err (ends.Unfit path what)) by = record {
    source = unwritten;
    asks_source = asked;
    asks_target = by.1;
    source_given = λ gives told. (λ is. absurd (cc), λ over. given gives told);
    target_given = λ gives told. (λ is. absurd (cc), λ over. absurd (cc));
    bad_target = λ fault is. absurd (cc);
    settled = λ over. absurd (cc);
    from_fault = λ is. absurd (cc);
    to_fault = λ is. absurd (cc);
    good = (λ is. absurd (cc), λ is. absurd (cc));
    goes = goes;
  }
  copied (Err ends.BadWords) by = absurd by
  copied (Err (ends.BadImage fault)) by = absurd by
  copied (Err ends.FromFault) by = record {
    source = unwritten;
    asks_source = asked;
    asks_target = inr by.1;
    source_given = λ gives told. (λ is. absurd (cc), λ over. absurd (cc));
    target_given = λ gives told. (λ is. absurd (cc), λ over. absurd (cc));
    bad_target = λ fault is. absurd (cc);
    settled = λ over. absurd (cc);
    from_fault = λ is. (let a = by.2 in omega (arith, earlier, a));
    to_fault = λ is. absurd (cc);
    good = (λ is. absurd (cc), λ is. absurd (cc));
    goes = goes;
  }
  copied (Err ends.ToFault) by = record {
    source = unwritten;
    asks_source = asked;
    asks_target = by.1;
    source_given = λ gives told. (λ is. absurd (cc), λ over. given gives told);
    target_given = λ gives told. (λ is. absurd (cc), λ over. absurd (cc));
    bad_target = λ fault is. absurd (cc);
    settled = λ over. absurd (cc);
    from_fault = λ is. absurd (cc);
    to_fault = λ is. by.2;
    good = (λ is. absurd (cc), λ is. absurd (cc));
    goes = goes;
  }
  copied (Err ends.OutFault) by = absurd by
  copied (Err ends.NoMemory) by = record {
    source = unwritten;
    asks_source = asked;
    asks_target = by;
    source_given = λ gives told. (λ is. absurd (cc), λ over. absurd (cc));
    target_given = λ gives told. (λ is. absurd (cc), λ over. absurd (cc));
    bad_target = λ fault is. absurd (cc);
    settled = λ over. absurd (cc);
    from_fault = λ is. absurd (cc);
    to_fault = λ is. absurd (cc);
    good = (λ is. absurd (cc), λ is. absurd (cc));
    goes = goes;
  }
  copied (Err (ends.NoRoom path refusal)) by = record {
    source = unwritten;
    asks_source = asked;
    asks_target = by.1;
    source_given = λ gives told. (λ is. absurd (cc), λ over. given gives told);
    target_given = λ gives told. (λ is. absurd (cc), λ over. by.2.0 gives told);
    bad_target = λ fault is. absurd (cc);
    settled = λ over. by.2.1;
    from_fault = λ is. absurd (cc);
    to_fault = λ is. absurd (cc);
    good = (λ is. absurd (cc), λ is. absurd (cc));
    goes = goes;
  }
  copied (Err ends.NoSource) by = absurd by
  copied (Err ends.NoTarget) by = record {
    source = unwritten;
    asks_source = asked;
    asks_target = (by.1, by.2.1, by.2.2);
    source_given = λ gives told. (λ is. absurd (cc), λ over. given gives told);
    target_given = λ gives told. (λ is. by.2.0 gives told, λ over. absurd (cc));
    bad_target = λ fault is. absurd (cc);
    settled = λ over. absurd (cc);
    from_fault = λ is. absurd (cc);
    to_fault = λ is. absurd (cc);
    good = (λ is. absurd (cc), λ is. absurd (cc));
    goes = goes;
  }
  copied (Err (ends.BadTarget fault)) by = record {
    source = unwritten;
    asks_source = asked;
    asks_target = by.1;
    source_given = λ gives told. (λ is. absurd (cc), λ over. given gives told);
    target_given = λ gives told. (λ is. absurd (cc), λ over. by.2.0 gives told);
    bad_target = λ fault is. by.2.1;
    settled = λ over. by.2.2;
    from_fault = λ is. absurd (cc);
    to_fault = λ is. absurd (cc);
    good = (λ is. absurd (cc), λ is. absurd (cc));
    goes = goes;
  }

-- ---- both

module _ {D E : Type 0} {d : Ghosts D} {e : Ghosts E} (rule : Laws d) (law : Laws e) (w : ConvertWords) (from from' : D) (to to' : E) (result : Result Counts ConvertEnd) where
  pub ends_disks : ConvertsDisks d e w from from' to to' result → EndsDisks d e w from from' to to' (end_of result)
  ends_disks (inl fails) =
      subst (λ (r : Result Counts ConvertEnd). EndsDisks d e w from from' to to' (end_of r)) (sym fails.ended)
      (subst (λ (x : E). EndsDisks d e w from from' to x fails.end) (sym fails.target) (unopened law w from from' to fails.end fails.cause fails.asked fails.unwritten))
  ends_disks (inr opens) =
      copied law w opens.volume from opens.mid from' to to' opens.opened.0 (opens.copies.reads.form.asked_stays ∙ opens.asked)
      (record {
        bytes_stay = opens.copies.reads.bytes ∙ opens.unwritten.bytes_stay;
        stops = goes_on_same rule opens.unwritten.stops opens.copies.reads.stops;
        faults = let a = opens.unwritten.faults in let b = opens.copies.reads.faults in omega (arith, a, b);
      }) opens.unwritten.faults opens.copies.goes result opens.copies.copied
