use Rattle.std.proofs.Common.{◌≡◌, ◌∙◌, ◌++◌, List, length, take, drop, sym, subst, OnOk}
use Rattle.std.proofs.lemmas.List.{take_at}
use Rattle.fc_image.specs.declared.effects.Owned.{Owned}
use Rattle.fc_squash.specs.Squashing.{SquashedBy}
use Rattle.fc_squash.proofs.squashing.squash.Goals as goal

pub returns-clause-bytes : goal.returns-clause-bytes
returns-clause-bytes g c =
    let list = c.pull_all.new.owned in
    let items = c.args.owned.now.items in
    let long : length list ≡ c.args.owned.now.len = c.pull_all.auto.owned ∙ c.deref_mut.ensures.len in
    let back : list ≡ take c.args.owned.now.len (list ++ drop (length list) items) = sym (take_at list (drop (length list) items) c.args.owned.now.len long) in
    subst (λ (l : List Owned). OnOk c.pull_all.result (SquashedBy g.D.Disk c.args.disk.now c.pull_all.new.disk c.args.map.now items l)) back
    (subst (λ (l : List Owned). OnOk c.pull_all.result (SquashedBy g.D.Disk c.args.disk.now c.pull_all.new.disk c.args.map.now l list)) c.deref_mut.ensures.value c.pull_all.ensures.bytes)
