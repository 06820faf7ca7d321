use Rattle.std.proofs.Common.{◌≡◌, length, None, subst, sym, ap, ◌∙◌, arith}
use Rattle.std.proofs.lemmas.Result.{err_from_is_err_and}
use Rattle.fc_dirs.specs.Entries.{first_twin}
use Rattle.fc_dirs.specs.Small.{SmallDir, IsSmall, IsSmallDir, small_dir, small_entries}
use Rattle.fc_smalldir.specs.Fields.{dir_of}
use Rattle.fc_smalldir.proofs.HeadLemmas.{places_few}
use Rattle.fc_smalldir.proofs.FaultLemmas.{IsChecked, fault_magic, fault_sequence, fault_check, fault_entry, fault_twin, no_fault_left, small_said, said, said_form}
use Rattle.fc_smalldir.proofs.small.SmallDir.read.Goals as goal

pub returns-then-not-is_magic_right-clause-err : goal.returns-then-not-is_magic_right-clause-err
returns-then-not-is_magic_right-clause-err c = rw c.into.ensures (fault_magic c.args.form c.args.b.now (sym c.is_magic_right.ensures ∙ c.if-not-is_magic_right.true))

pub returns-then-not-is_sequence_right-clause-err : goal.returns-then-not-is_sequence_right-clause-err
returns-then-not-is_sequence_right-clause-err c =
    rw c.into-then-not-is_sequence_right.ensures (fault_sequence c.args.form c.args.b.now (sym c.is_magic_right.ensures ∙ c.if-not-is_magic_right.false) (sym c.is_sequence_right.ensures ∙ c.if-not-is_sequence_right.true))

pub returns-then-not-is_check_right-clause-err : goal.returns-then-not-is_check_right-clause-err
returns-then-not-is_check_right-clause-err c =
    rw c.into-then-not-is_check_right.ensures
    (fault_check c.args.form c.args.b.now (sym c.is_magic_right.ensures ∙ c.if-not-is_magic_right.false) (sym c.is_sequence_right.ensures ∙ c.if-not-is_sequence_right.false)
    (sym c.is_check_right.ensures ∙ c.if-not-is_check_right.true))

pub returns-in_err-entries-clause-err : goal.returns-in_err-entries-clause-err
returns-in_err-entries-clause-err c =
    let checked : IsChecked c.args.form c.args.b.now = record {
      magic = sym c.is_magic_right.ensures ∙ c.if-not-is_magic_right.false;
      sequence = sym c.is_sequence_right.ensures ∙ c.if-not-is_sequence_right.false;
      check = sym c.is_check_right.ensures ∙ c.if-not-is_check_right.false;
    } in
    let p = err_from_is_err_and c.from_residual.result c.from_residual.ensures.1 in
    rw (p.1, p.2) (fault_entry c.args.form c.args.b.now _ checked c.in_err-entries.ensures.err)

pub first_twin-requires : goal.first_twin-requires
first_twin-requires c =
    let len : length c.deref.result.now ≡ length (small_entries c.args.form c.args.b.now) = ap length (c.deref.ensures.value ∙ c.in_ok-entries.ensures.ok.same) in
    omega (arith, len, c.count_entries-count.ensures.count, c.count_entries-count.ensures.few, places_few c.args.form)

pub returns-in-Some-clause-err : goal.returns-in-Some-clause-err
returns-in-Some-clause-err c =
    let checked : IsChecked c.args.form c.args.b.now = record {
      magic = sym c.is_magic_right.ensures ∙ c.if-not-is_magic_right.false;
      sequence = sym c.is_sequence_right.ensures ∙ c.if-not-is_sequence_right.false;
      check = sym c.is_check_right.ensures ∙ c.if-not-is_check_right.false;
    } in
    rw c.into-in-Some.ensures (fault_twin c.args.form c.args.b.now c.in_ok-entries.entries.items c.in-Some.at checked c.in_ok-entries.ensures.ok (c.in-Some.ensures ∙ ap first_twin c.deref.ensures.value))

pub invariant_of-result : goal.invariant_of-result
invariant_of-result c =
    let b = c.args.b.now in
    let form = c.args.form in
    let es = c.in_ok-entries.entries.items in
    let ok = c.in_ok-entries.ensures.ok in
    let apart : first_twin es ≡ None = sym (c.in_default.ensures ∙ ap first_twin c.deref.ensures.value) in
    let says : dir_of c.read_head.result es ≡ small_dir form b = ap (dir_of c.read_head.result) ok.same ∙ c.read_head.ensures in
    subst IsSmall (sym says) (small_said form b es (λ i. omega (arith, c.type_inv.b i)) c.requires (omega (arith, c.count_entries-count.ensures.count, c.count_entries-count.ensures.few)) ok apart)

pub returns-clause-ok : goal.returns-clause-ok
returns-clause-ok c =
    let b = c.args.b.now in
    let form = c.args.form in
    let es = c.in_ok-entries.entries.items in
    let ok = c.in_ok-entries.ensures.ok in
    let checked : IsChecked form b = record {
      magic = sym c.is_magic_right.ensures ∙ c.if-not-is_magic_right.false;
      sequence = sym c.is_sequence_right.ensures ∙ c.if-not-is_sequence_right.false;
      check = sym c.is_check_right.ensures ∙ c.if-not-is_check_right.false;
    } in
    let apart : first_twin es ≡ None = sym (c.in_default.ensures ∙ ap first_twin c.deref.ensures.value) in
    let says : dir_of c.read_head.result es ≡ small_dir form b = ap (dir_of c.read_head.result) ok.same ∙ c.read_head.ensures in
    subst (IsSmallDir b) (sym says) (said form b c.requires (no_fault_left form b es checked ok apart))

pub returns-clause-form : goal.returns-clause-form
returns-clause-form c =
    ap (λ (d : SmallDir). d.form) c.read_head.ensures ∙ said_form c.args.form c.args.b.now
