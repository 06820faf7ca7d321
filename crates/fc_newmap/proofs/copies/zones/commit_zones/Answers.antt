use Rattle.std.proofs.Common.{◌≡◌, ◌∙◌, ◌==◌, ap, sym, subst, ℕ, List, [], length, vec_len, arith}
use Rattle.fc_device.proofs.DiskLaws.{laws}
use Rattle.fc_device.proofs.StopLemmas.{keeps_weaker, one_told as some_is}
use Rattle.fc_newmap.specs.Committing.{CanWrite}
use Rattle.fc_newmap.specs.Copies.{CommitEnds, CommitLeaves, copy_of}
use Rattle.fc_newmap.specs.declared.copies.Which.TheVariants.{One}
use Rattle.fc_newmap.proofs.CommitLemmas.{no_zones}
use Rattle.fc_newmap.proofs.ZonesLemmas.{ends_at_once, keeps_at_once, leaves_at_once}
use Rattle.fc_newmap.proofs.copies.zones.commit_zones.Goals as goal

pub returns-then-is_empty-clause-whole : goal.returns-then-is_empty-clause-whole
returns-then-is_empty-clause-whole g c = λ few.
    let m = c.args.map.now in
    let long : length c.args.changed.now.items ≡ vec_len c.args.changed.now = omega arith in
    let none : c.args.changed.now.items ≡ [] = no_zones c.args.changed.now.items (ap (λ (n : ℕ). n == 0) long ∙ sym c.is_empty.ensures ∙ c.if-is_empty.true) in
    keeps_at_once (laws g.met.D.Disk) (λ start image. CommitLeaves m.geometry start (copy_of m.geometry One start) m.zones image) c.args.disk.now c.requires.disk.settled
    (λ was told. leaves_at_once m c.is_map.ensures was (subst (λ (zs : List ℕ). CanWrite m zs was) none (c.requires.ready was told)))

pub returns-then-is_empty-clause-ends : goal.returns-then-is_empty-clause-ends
returns-then-is_empty-clause-ends g c = λ was told image is.
    let m = c.args.map.now in
    let long : length c.args.changed.now.items ≡ vec_len c.args.changed.now = omega arith in
    let none : c.args.changed.now.items ≡ [] = no_zones c.args.changed.now.items (ap (λ (n : ℕ). n == 0) long ∙ sym c.is_empty.ensures ∙ c.if-is_empty.true) in
    subst (λ (i : List ℕ). CommitEnds m.geometry was m.zones i) (some_is (sym told ∙ is))
    (ends_at_once m c.is_map.ensures was (subst (λ (zs : List ℕ). CanWrite m zs was) none (c.requires.ready was told)))

pub commit-requires-clause-ready : goal.commit-requires-clause-ready
commit-requires-clause-ready g c = λ image told.
    subst (λ (zs : List ℕ). CanWrite c.args.map.now zs image) (sym (c.few_zones-few.ensures ∙ c.deref.ensures.value)) (c.requires.ready image told)

pub returns-clause-keeps : goal.returns-clause-keeps
returns-clause-keeps g c = keeps_weaker (laws g.met.D.Disk) c.commit.ensures.keeps (λ was image leaves. leaves.frame)
