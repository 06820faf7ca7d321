use Rattle.std.proofs.Common.{◌≡◌, ◌+◌, ◌*◌, ◌++◌, length, take, subst, sym, ap, ◌∙◌, arith}
use Rattle.std.specs.List.{flat_map}
use Rattle.fc_dirs.specs.Small.{IsSmall, entries_end}
use Rattle.fc_smalldir.specs.Fields.{dir_of}
use Rattle.fc_dirs.specs.SmallBytes.{IsWrittenSmall, small_bytes, check_of, entry_bytes}
use Rattle.fc_smalldir.proofs.HeadLemmas.{parts_fit}
use Rattle.fc_smalldir.proofs.WriteLemmas.{same_tail, parts_written, check_set}
use Rattle.fc_smalldir.proofs.ReadBack.{read_back}
use Rattle.fc_smalldir.proofs.small.SmallDir.write.Goals as goal

pub returns-clause-bytes : goal.returns-clause-bytes
returns-clause-bytes c =
    let head = c.self.inside.head in
    let es = c.self.inside.entries.items in
    let d = dir_of head es in
    let items = c.deref.ensures.value in
    let whole_size = rw (← c.self.view_is) at c.requires in
    let size : length c.put.new.b ≡ c.put.result =
    omega (arith, c.put.auto.b, c.put_tail-at.auto.b, c.put_zeros.auto.b, c.put_entries-at.auto.b, c.put_head-at.auto.b, whole_size, c.put.ensures.end, c.put_tail-at.ensures.end, c.places.ensures, parts_fit head.form) in
    let entries = c.put_entries-at.ensures.bytes ∙ ap (λ l. take c.put_head-at.result c.put_head-at.new.b ++ flat_map (entry_bytes head.form) l) items in
    let whole = parts_written d c.args.b.now c.put_head-at.new.b c.put_entries-at.new.b c.put_zeros.new.b c.put_tail-at.new.b c.put.new.b c.put_head-at.result c.put_entries-at.result (6 + 26 * c.places.result) c.put_tail-at.result c.put.result
    c.put_head-at.ensures.bytes entries (c.put_entries-at.ensures.end ∙ omega (arith, c.put_head-at.ensures.end, ap length items)) c.put_zeros.ensures.so_far (omega (arith, c.places.ensures))
    (c.put_tail-at.ensures.bytes ∙ ap (λ l. take (6 + 26 * c.places.result) c.put_zeros.new.b ++ l) (same_tail head es)) c.put.ensures.so_far size in
    let check : c.check_of.result ≡ check_of head.form c.put.new.b (entries_end es) = c.check_of.ensures ∙ ap (λ n. check_of head.form c.put.new.b (5 + 26 * n)) (omega (arith, c.len.ensures, c.self.inside.entries.ok)) in
    check_set d c.put.new.b c.put_tail-at.result c.check_of.result whole (size ∙ c.put.ensures.end) check ∙ ap small_bytes c.self.view_is

pub returns-clause-written : goal.returns-clause-written
returns-clause-written c =
    subst (λ b. IsWrittenSmall b c.args.self.now) (sym (returns-clause-bytes c)) (read_back c.args.self.now (subst IsSmall c.self.view_is c.self.invariant))
