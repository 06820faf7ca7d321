use Rattle.std.proofs.Common.{◌≡◌, ◌<◌, ◌++◌, get_or, length, take, subst, sym, ap, ap₂, ◌∙◌, arith, append_assoc}
use Rattle.fc_bigdir.specs.Laws.{HasWords}
use Rattle.fc_dirs.specs.BigBytes.{entries_bytes, entry_bytes}
use Rattle.fc_bigdir.proofs.PutLemmas.{entries_more, recursion_more}
use Rattle.fc_bigdir.proofs.put.put_entries.Goals as goal

pub loop-i-preserved : goal.loop-i-preserved
loop-i-preserved c =
    let i = c.loop-i.i in
    let es = c.args.entries.now in
    let places = c.args.places.now in
    let d = c.index-entries-i.result in
    let within : i < length es = c.loop-i-test.true in
    let more = entries_more places es i d c.requires.places within in
    let here : c.index-entries-i.result ≡ get_or es i d = c.index-entries-i.is in
    record {
      end = omega (arith, c.put_entry-end.ensures.end, c.loop-i.invariant.end);
      bytes = c.put_entry-end.ensures.bytes ∙ ap₂ (λ l e. l ++ entry_bytes (get_or places i 0) e) c.loop-i.invariant.bytes here
          ∙ append_assoc (take c.args.at c.args.b.now) (entries_bytes (take i places) (take i es)) (entry_bytes (get_or places i 0) (get_or es i d))
          ∙ ap (λ l. take c.args.at c.args.b.now ++ l) (sym more);
      words = recursion_more HasWords es i d within c.loop-i.invariant.words (subst HasWords here c.put_entry-end.ensures.words);
    }
