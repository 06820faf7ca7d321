use Rattle.std.proofs.Common.{◌≡◌, ◌<◌, ◌^◌, ℕ, length, sym, subst, ap, ◌∙◌, arith}
use Rattle.std.specs.Prelude.{vec_len}
use Rattle.fc_dirs.specs.declared.Entry.{Entry}
use Rattle.fc_image.specs.Layout.{dir_form}
use Rattle.fc_oldlaws.specs.moves.After.{entry_after, start_after}
use Rattle.fc_space.specs.Space.{layout_of}
use Rattle.fc_volume.specs.declared.old.compacting.directories.Spare.{Spare}
use Rattle.fc_volume.proofs.ReaddressLemmas.{address_low, copy_fits, kept, moved}
use Rattle.fc_volume.proofs.old.compacting.directories.move_entries.Goals as goal
use Rattle.fc_volume.proofs.old.compacting.directories.move_entries.Goals.{then-address-e, else-address-e}

pub change-requires-clause-address : goal.change-requires-clause-address
change-requires-clause-address c =
    let form = dir_form (layout_of c.args.space.now) in
    let move = start_after c.args.moves.now.before.items c.args.moves.now.after.items in
    subst (λ (n : ℕ). n < 2 ^ 24) (sym c.address_after-address.ensures)
    (address_low form move c.in-Some.e c.requires.low (copy_fits (entry_after form move) c.args.dir.now c.loop-e.dir c.loop-e.spare c.loop-e.invariant c.pop.new.self.items c.in-Some.e c.in-Some.ensures.items c.entries.ensures.small).address)

pub change-requires-clause-attrs : goal.change-requires-clause-attrs
change-requires-clause-attrs c =
    let form = dir_form (layout_of c.args.space.now) in
    let move = start_after c.args.moves.now.before.items c.args.moves.now.after.items in
    (copy_fits (entry_after form move) c.args.dir.now c.loop-e.dir c.loop-e.spare c.loop-e.invariant c.pop.new.self.items c.in-Some.e c.in-Some.ensures.items c.entries.ensures.small).attrs

pub change-requires-clause-last : goal.change-requires-clause-last
change-requires-clause-last c =
    let form = dir_form (layout_of c.args.space.now) in
    let move = start_after c.args.moves.now.before.items c.args.moves.now.after.items in
    (copy_fits (entry_after form move) c.args.dir.now c.loop-e.dir c.loop-e.spare c.loop-e.invariant c.pop.new.self.items c.in-Some.e c.in-Some.ensures.items c.entries.ensures.small).last

pub loop-e-preserved : goal.loop-e-preserved
loop-e-preserved c =
    let form = dir_form (layout_of c.args.space.now) in
    let move = start_after c.args.moves.now.before.items c.args.moves.now.after.items in
    let e : Entry = c.in-Some.e in
    let e' : Entry = record e { address = c.address_after-address.result } in
    let same : e' ≡ entry_after form move e = ap (λ (a : ℕ). record e { address = a }) c.address_after-address.ensures in
    elim c.if-address-e.branch [
      | then-address-e w ↦ moved (entry_after form move) c.args.dir.now c.loop-e.dir c.loop-e.spare c.loop-e.invariant c.pop.new.self.items e c.in-Some.ensures.items c.change.new.self c.if-address-e.spare e' c.len.result
          (ap (λ (s : Spare). s.entries.items) w.spare-is) (let at : c.len.result ≡ vec_len c.pop.new.self = c.len.ensures ∙ ap (λ (s : Spare). vec_len s.entries) w.spare-is in let long : c.len.result ≡ length c.pop.new.self.items = omega (arith, at) in long) same c.change.ensures w.if-address-e.true (ap (λ (s : Spare). s.changed) w.spare-is)
      | else-address-e w ↦ kept (entry_after form move) c.args.dir.now c.loop-e.dir c.loop-e.spare c.loop-e.invariant c.pop.new.self.items e c.in-Some.ensures.items c.change.new.self c.if-address-e.spare e' c.len.result
          (ap (λ (s : Spare). s.entries.items) w.spare-is) (let at : c.len.result ≡ vec_len c.pop.new.self = c.len.ensures ∙ ap (λ (s : Spare). vec_len s.entries) w.spare-is in let long : c.len.result ≡ length c.pop.new.self.items = omega (arith, at) in long) same c.change.ensures w.if-address-e.false (ap (λ (s : Spare). s.changed) w.spare-is)
    ]
