use Rattle.std.proofs.Common.{ℕ, ap, sym, ◌∙◌}
use Rattle.fc_change.specs.Held.{parts_of}
use Rattle.fc_change.specs.Planning.{alone_in, len_moved}
use Rattle.fc_change.specs.Shortage.{bytes_left, short_of}
use Rattle.fc_change.proofs.GrownLemmas.{short_same}
use Rattle.fc_change.proofs.PlaceLemmas.{bytes_are}
use Rattle.fc_change.proofs.placing.new.place_new.Goals as goal

pub returns-clause-refused : goal.returns-clause-refused
returns-clause-refused c =
    let m = c.args.map.now in
    let h = parts_of c.args.held.now in
    let w = c.args.wants.now in
    let x = c.in_ok-growing.growing in
    sym (short_same m h w.grows x (bytes_left m h.owners w) c.in_ok-growing.ensures)
    ∙ ap (λ (n : ℕ). short_of m n (alone_in x) (len_moved x)) (sym (c.bytes_left-bytes.ensures ∙ bytes_are m h.owners w c.in_ok-share.share c.in_ok-share.ensures)) ∙ c.in_ok-plans.ensures.refused
