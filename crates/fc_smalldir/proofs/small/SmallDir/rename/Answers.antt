use Rattle.std.proofs.Common.{◌≡◌, insert, remove, is_ok, true, subst, sym, ap, ◌∙◌}
use Rattle.fc_dirs.specs.Entries.{entry_place, with_entry}
use Rattle.fc_dirs.specs.Small.{FitsSmall, IsSmall}
use Rattle.fc_smalldir.specs.Fields.{dir_of}
use Rattle.fc_smalldir.proofs.SmallLemmas.{small_renamed, fits_put}
use Rattle.fc_smalldir.proofs.small.SmallDir.rename.Goals as goal

pub invariant_of-self : goal.invariant_of-self
invariant_of-self c =
    let head = c.self.inside.head in
    let es = c.self.inside.entries.items in
    let e = c.args.e in
    let at = c.args.at in
    let d = dir_of head es in
    let done : is_ok c.insert.result ≡ true = sym c.is_ok-done.ensures.value ∙ c.if-prove.false in
    let left : c.remove.new.self.items ≡ remove es at = c.remove.ensures.items in
    let place = c.place_of-place.ensures.place ∙ ap (entry_place e.name) c.deref.ensures.value in
    let items : c.insert.new.self.items ≡ with_entry e (remove es at) =
    rw done at c.insert.ensures.items ∙ ap (λ n. insert c.remove.new.self.items n e) place ∙ ap (with_entry e) left in
    let fits : FitsSmall head.form e =
    fits_put head.form e (rw (← c.self.view_is) at c.requires.writable) c.words_fit.ensures.load c.words_fit.ensures.exec c.words_fit.ensures.len c.requires.address (rw (← c.self.view_is) at c.requires.attrs) (rw (← c.self.view_is) at c.requires.last) in
    subst (λ l. IsSmall (dir_of head l)) (sym items)
    (small_renamed d at e c.self.invariant (rw (← c.self.view_is) at c.requires.present) fits (rw (← c.self.view_is) at c.requires.absent))
