use Rattle.std.proofs.Common.{◌≡◌, ◌++◌, ◌∷◌, [], is_ok, true, false, not, map, sym, ap, ap₂, ◌∙◌, ◌+◌, arith, below_more, subst}
use Rattle.std.proofs.lemmas.List.Sums.{sum_by_push}
use Rattle.std.specs.List.{range_with_len}
use Rattle.std.specs.Option.{option_map}
use Rattle.std.proofs.lemmas.List.FromFn.{map-range_with_len_more}
use Rattle.fc_dirs.specs.declared.Entry.{Entry}
use Rattle.fc_dirs.specs.declared.DirFault.TheVariants.{BadEntry}
use Rattle.fc_dirs.specs.Big.{big_entry, entry_bytes, entry_count, heap_of, is_entry_right, name_space}
use Rattle.fc_bigdir.specs.Fields.{packed_size}
use Rattle.fc_bigdir.proofs.EntryLemmas.{entry_slice, bad_found, none_bad, AreRight}
use Rattle.fc_bigdir.proofs.entries.read_entries.Goals as goal

pub returns-in-None-clause-err : goal.returns-in-None-clause-err
returns-in-None-clause-err c =
    let b = c.args.b.now in
    let form = c.args.second_form in
    let i = c.loop-i.i in
    let slice = entry_slice form b c.entries_start-start.result i c.entries_start-start.ensures.start in
    let wrong : is_entry_right (heap_of form b) (entry_bytes form b i) ≡ false = rw (← c.requires.heap, ← slice) (rw c.in-None.is at c.in_ok-e.ensures.says) in
    rw c.into.ensures (ap (option_map BadEntry) (bad_found form b i (omega (arith, c.word_at-count.ensures)) c.loop-i.invariant.1 wrong))

pub loop-i-preserved : goal.loop-i-preserved
loop-i-preserved c =
    let b = c.args.b.now in
    let form = c.args.second_form in
    let i = c.loop-i.i in
    let heap = heap_of form b in
    let slice = entry_slice form b c.entries_start-start.result i c.entries_start-start.ensures.start in
    let here : c.in-Some.e ≡ big_entry heap (entry_bytes form b i) = rw (← c.requires.heap, ← slice) (rw c.in-Some.is at c.in_ok-e.ensures.says) in
    let right : is_entry_right heap (entry_bytes form b i) ≡ true = rw (← c.requires.heap, ← slice) (rw c.in-Some.is at c.in_ok-e.ensures.right) in
    let done : is_ok c.push.result ≡ true = c.is_err.ensures.negation ∙ ap not c.if-is_err.false in
    let pushed : c.push.new.self.items ≡ c.loop-i.entries.items ++ c.in-Some.e ∷ [] = rw done at c.push.ensures.items in (
      pushed ∙ ap (λ l. l ++ c.in-Some.e ∷ []) c.loop-i.invariant.0
          ∙ ap (λ e. map (λ k. big_entry heap (entry_bytes form b k)) (range_with_len 0 i) ++ e ∷ []) here
          ∙ sym (map-range_with_len_more (λ k. big_entry heap (entry_bytes form b k)) 0 i i (omega arith)),
      below_more (λ k. is_entry_right heap (entry_bytes form b k) ≡ true) i c.loop-i.invariant.1 right,
      ap₂ (λ x y. x + y) c.loop-i.invariant.2 c.name_space-packed.ensures.space ∙ sym (sum_by_push (λ (e : Entry). name_space e.name) c.loop-i.entries.items c.in-Some.e) ∙ ap packed_size (sym pushed),
      omega (arith, c.loop-i.invariant.3, c.name_space-packed.ensures.small),
    )

pub returns-clause-right : goal.returns-clause-right
returns-clause-right c =
    let all : c.loop-i.i ≡ entry_count c.args.b.now = omega (arith, c.word_at-count.ensures) in
    none_bad c.args.second_form c.args.b.now (subst (AreRight c.args.second_form c.args.b.now) all c.loop-i.invariant.1)

pub returns-clause-ok : goal.returns-clause-ok
returns-clause-ok c =
    let all : c.loop-i.i ≡ entry_count c.args.b.now = omega (arith, c.word_at-count.ensures) in
    let heap = heap_of c.args.second_form c.args.b.now in
    c.loop-i.invariant.0 ∙ ap (λ n. map (λ k. big_entry heap (entry_bytes c.args.second_form c.args.b.now k)) (range_with_len 0 n)) all
