use Rattle.std.proofs.Common.{◌≡◌, None, length, subst, sym, ap, ◌∙◌, arith, refl}
use Rattle.std.proofs.lemmas.Result.{err_from_is_err_and}
use Rattle.std.specs.Option.{option_map}
use Rattle.fc_dirs.specs.Faults.{IsFaultOf}
use Rattle.fc_dirs.specs.declared.DirFault.TheVariants.{BadEntry, Twin}
use Rattle.fc_dirs.specs.Entries.{first_twin}
use Rattle.fc_dirs.specs.Big.{IsBig, big_entries, first_bad_entry, has_second_form}
use Rattle.fc_bigdir.proofs.FaultLemmas.{IsFramed, framed, entry_next, twin_last, no_fault}
use Rattle.fc_bigdir.proofs.ReadLemmas.{says_big, same_parts, entries_count}
use Rattle.fc_bigdir.proofs.read.read_parts.Goals as goal

pub returns-in_err-entries-clause-err : goal.returns-in_err-entries-clause-err
returns-in_err-entries-clause-err c =
    let b = c.args.b.now in
    let p = err_from_is_err_and c.from_residual.result c.from_residual.ensures.1 in
    let fault = subst (λ form. IsFaultOf (option_map BadEntry (first_bad_entry form b)) c.in_err-entries.field-0.0) c.requires.form c.in_err-entries.ensures.err in
    rw (p.1, p.2) (entry_next b _ c.requires.frame fault)

pub check_twins-requires : goal.check_twins-requires
check_twins-requires c =
    let b = c.args.b.now in
    let form = c.args.second_form in
    let len : length c.deref.result.now ≡ length (big_entries form b) = ap length (c.deref.ensures.value ∙ c.in_ok-entries.ensures.ok) in
    let is : IsFramed b (has_second_form b) = framed b c.requires.frame in
    omega (arith, len, entries_count form b, is.parts, is.most)

pub returns-in_err-check_twins-clause-err : goal.returns-in_err-check_twins-clause-err
returns-in_err-check_twins-clause-err c =
    let b = c.args.b.now in
    let p = err_from_is_err_and c.from_residual-in_err-check_twins.result c.from_residual-in_err-check_twins.ensures.1 in
    let right : first_bad_entry (has_second_form b) b ≡ None = ap (λ form. first_bad_entry form b) (sym c.requires.form) ∙ c.in_ok-entries.ensures.right in
    let entries = c.deref.ensures.value ∙ c.in_ok-entries.ensures.ok ∙ ap (λ form. big_entries form b) c.requires.form in
    let fault = subst (λ es. IsFaultOf (option_map Twin (first_twin es)) c.in_err-check_twins.field-0.0) entries c.in_err-check_twins.ensures.err in
    rw (p.1, p.2) (twin_last b _ c.requires.frame right fault)

pub invariant_of-result : goal.invariant_of-result
invariant_of-result c =
    let b = c.args.b.now in
    let right : first_bad_entry (has_second_form b) b ≡ None = ap (λ form. first_bad_entry form b) (sym c.requires.form) ∙ c.in_ok-entries.ensures.right in
    let entries = c.deref.ensures.value ∙ c.in_ok-entries.ensures.ok ∙ ap (λ form. big_entries form b) c.requires.form in
    let apart : first_twin (big_entries (has_second_form b) b) ≡ None = ap first_twin (sym entries) ∙ c.in_ok-check_twins.ensures.ok in
    let says = same_parts b _ _ _ _ _ _ _ _ _ refl refl c.word_at.ensures (c.in_ok-name.ensures.items ∙ c.head_name.ensures) c.requires.form c.array_at.ensures (c.in_ok-heap.ensures.items ∙ c.heap_of-heap.ensures)
    c.in_ok-places.ensures.ok c.in_ok-entries.ensures.ok in
    record {
      big = subst IsBig (sym says) (says_big b (λ i. omega (arith, c.type_inv.b i)) c.requires.frame right apart);
      packed_is = c.in_ok-entries.ensures.packed;
    }

pub returns-clause-ok : goal.returns-clause-ok
returns-clause-ok c =
    let b = c.args.b.now in
    let right : first_bad_entry (has_second_form b) b ≡ None = ap (λ form. first_bad_entry form b) (sym c.requires.form) ∙ c.in_ok-entries.ensures.right in
    let entries = c.deref.ensures.value ∙ c.in_ok-entries.ensures.ok ∙ ap (λ form. big_entries form b) c.requires.form in
    let apart : first_twin (big_entries (has_second_form b) b) ≡ None = ap first_twin (sym entries) ∙ c.in_ok-check_twins.ensures.ok in
    let says = same_parts b _ _ _ _ _ _ _ _ _ refl refl c.word_at.ensures (c.in_ok-name.ensures.items ∙ c.head_name.ensures) c.requires.form c.array_at.ensures (c.in_ok-heap.ensures.items ∙ c.heap_of-heap.ensures)
    c.in_ok-places.ensures.ok c.in_ok-entries.ensures.ok in
    record { right = no_fault b c.requires.frame right apart; says = sym says }
