use Rattle.std.proofs.Common.{◌≡◌, ◌<◌, ◌+◌, ◌++◌, ◌∷◌, [], get_or, length, take, is_ok, true, not, sym, ap, ◌∙◌, arith}
use Rattle.std.specs.Option.{option_map}
use Rattle.std.proofs.lemmas.List.{take_more, take_all}
use Rattle.std.proofs.lemmas.List.Elements.{All-push, All-same}
use Rattle.fc_dirs.specs.declared.DirFault.TheVariants.{BadEntry}
use Rattle.fc_dirs.specs.declared.Entry.{Entry}
use Rattle.fc_dirs.specs.Small.{FitsSmall, small_entries}
use Rattle.fc_smalldir.proofs.HeadLemmas.{places_few}
use Rattle.fc_dirs.proofs.SearchLemmas.{blank}
use Rattle.fc_smalldir.proofs.PlaceLemmas.{by_recursion, small_entry_at, nameless_found}
use Rattle.fc_smalldir.proofs.entries.read_entries.Goals as goal

pub overflow_cast-i : goal.overflow_cast-i
overflow_cast-i c = omega (arith, places_few c.args.form)

pub returns-in-None-clause-err : goal.returns-in-None-clause-err
returns-in-None-clause-err c =
    let es = small_entries c.args.form c.args.b.now in
    let i = c.loop-i.i in
    let within : i < length es = rw (← c.requires.count) c.loop-i-test.true in
    let none : length (get_or es i blank).name ≡ 0 =
    ap (λ (e : Entry). length e.name) (small_entry_at c.args.form c.args.b.now i blank within) ∙ (rw c.in-None.is at c.in_ok-e.ensures.says) in
    rw c.into.ensures (ap (option_map BadEntry) (nameless_found c.args.form es c.loop-i.entries.items i blank within c.loop-i.invariant.0 c.loop-i.invariant.1 none))

pub loop-i-preserved : goal.loop-i-preserved
loop-i-preserved c =
    let form = c.args.form in
    let es = small_entries form c.args.b.now in
    let i = c.loop-i.i in
    let within : i < length es = rw (← c.requires.count) c.loop-i-test.true in
    let here : c.in-Some.e ≡ get_or es i blank = (rw c.in-Some.is at c.in_ok-e.ensures.says) ∙ sym (small_entry_at form c.args.b.now i blank within) in
    let done : is_ok c.push.result ≡ true = c.is_err.ensures.negation ∙ ap not c.if-is_err.false in
    let pushed : c.push.new.self.items ≡ c.loop-i.entries.items ++ c.in-Some.e ∷ [] = rw done at c.push.ensures.items in
    let same : c.push.new.self.items ≡ take (i + 1) es =
    pushed ∙ ap (λ l. l ++ c.in-Some.e ∷ []) c.loop-i.invariant.0 ∙ ap (λ e. take i es ++ e ∷ []) here ∙ sym (take_more es i blank within) in
    (same, All-same (FitsSmall form) _ _ pushed (All-push (FitsSmall form) c.loop-i.entries.items c.in-Some.e c.loop-i.invariant.1 (rw c.in-Some.is at c.in_ok-e.ensures.fits)))

pub returns-clause-ok : goal.returns-clause-ok
returns-clause-ok c =
    let es = small_entries c.args.form c.args.b.now in
    record {
      same = c.loop-i.invariant.0 ∙ take_all c.loop-i.i es (omega (arith, c.requires.count));
      fit = by_recursion (FitsSmall c.args.form) c.loop-i.entries.items c.loop-i.invariant.1;
    }
