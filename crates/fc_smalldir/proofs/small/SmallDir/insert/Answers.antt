use Rattle.std.proofs.Common.{◌≡◌, ◌<◌, insert, length, is_ok, true, not, subst, sym, ap, ◌∙◌, arith}
use Rattle.fc_dirs.specs.Entries.{entry_place, with_entry}
use Rattle.fc_dirs.specs.Small.{FitsSmall, IsSmall, tail_of}
use Rattle.fc_smalldir.specs.Fields.{dir_of}
use Rattle.fc_smalldir.proofs.SmallLemmas.{small_inserted, fits_put}
use Rattle.fc_smalldir.proofs.small.SmallDir.insert.Goals as goal

pub invariant_of-self-2 : goal.invariant_of-self-2
invariant_of-self-2 c =
    let head = c.self.inside.head in
    let es = c.self.inside.entries.items in
    let e = c.args.e in
    let d = dir_of head es in
    let done : is_ok c.insert.result ≡ true = c.is_err.ensures.negation ∙ ap not c.if-is_err.false in
    let place = c.place_of-at.ensures.place ∙ ap (entry_place e.name) c.deref.ensures.value in
    let items : c.insert.new.self.items ≡ with_entry e es = rw done at c.insert.ensures.items ∙ ap (λ n. insert es n e) place in
    let room : length es < (tail_of head.form).places = omega (arith, c.self.invariant.places, c.len.ensures, c.places.ensures, c.self.inside.entries.ok) in
    let fits : FitsSmall head.form e =
    fits_put head.form e (rw (← c.self.view_is) at c.requires.writable) c.words_fit.ensures.load c.words_fit.ensures.exec c.words_fit.ensures.len c.requires.address (rw (← c.self.view_is) at c.requires.attrs) (rw (← c.self.view_is) at c.requires.last) in
    subst (λ l. IsSmall (dir_of head l)) (sym items) (small_inserted d e c.self.invariant room fits (rw (← c.self.view_is) at c.requires.absent))
