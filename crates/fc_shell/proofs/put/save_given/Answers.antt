use Rattle.std.proofs.Common.{◌≡◌, ◌∙◌, [], Bool, false, List, ℕ, refl, sym, ap, subst}
use Rattle.fc_host.specs.Asked.{taken_by}
use Rattle.fc_host.specs.HostSupplies.{Giving, Goes, faults_of, nowhere, onward}
use Rattle.fc_host.specs.Files.{bytes_of}
use Rattle.fc_host.specs.Supplies.{IsGivenOf, goes_as}
use Rattle.fc_model.specs.Command.{Command as Model}
use Rattle.fc_shell.proofs.PuttingLemmas.{given_saved}
use Rattle.fc_shell.proofs.put.save_given.Goals as goal

pub returns-clause-same_reference : goal.returns-clause-same_reference
returns-clause-same_reference g c =
    let x = c.save_from.ensures.keeps.supply.goes in
    (goes_as _ (λ a. (refl, refl, refl, nowhere g.H.Host a.name.now a.total _)) (λ a b d first second. (second.0 ∙ first.0, second.1 ∙ first.1, second.2 ∙ first.2, onward g.H.Host a.name.now b.name.now a.total b.total _ _ _ first.1 first.2 first.3 second.3)) x.0 _ _ x.1).0

pub returns-clause-saved : goal.returns-clause-saved
returns-clause-saved g c =
    let x = c.save_from.ensures.keeps.supply.goes in
    let old = c.args.from.now in
    let new = c.save_from.new.from in
    let gone = goes_as _ (λ a. (refl, refl, refl, nowhere g.H.Host a.name.now a.total _)) (λ a b d first second. (second.0 ∙ first.0, second.1 ∙ first.1, second.2 ∙ first.2, onward g.H.Host a.name.now b.name.now a.total b.total _ _ _ first.1 first.2 first.3 second.3)) x.0 _ _ x.1 in
    given_saved g.D.Disk g.H.Host _ old.name.now c.args.words.len (Model.Save c.args.path.now c.args.words.load c.args.words.exec) c.args.volume.now c.save_from.new.self c.args.disk.now c.save_from.new.disk old new
    old.host.now new.host.now new.failed c.save_from.result c.save_from.ensures (λ same. ap (λ s. s.host.now) same)
    (subst (λ (n : ℕ). Goes g.H.Host old.name.now n (record { host = old.host.now; given = []; failed = false }) (record { host = new.host.now; given = taken_by new.given.list; failed = new.failed })) c.requires.total
    (subst (λ (b : Bool). Goes g.H.Host old.name.now old.total (record { host = old.host.now; given = []; failed = b }) (record { host = new.host.now; given = taken_by new.given.list; failed = new.failed })) c.requires.fresh.1
    (subst (λ (bs : List ℕ). Goes g.H.Host old.name.now old.total (record { host = old.host.now; given = bs; failed = old.failed }) (record { host = new.host.now; given = taken_by new.given.list; failed = new.failed })) c.requires.fresh.0 gone.3)))
    (λ files known.
    subst (λ (n : List ℕ). IsGivenOf (taken_by new.given.list) c.args.words.len (bytes_of files n)) gone.1
    (subst (λ (t : ℕ). IsGivenOf (taken_by new.given.list) t (bytes_of files new.name.now)) (gone.2 ∙ c.requires.total) (new.told files known)))
    (ap (λ (b : Bool). faults_of b (g.H.Host.faults old.host.now)) c.requires.fresh.1) refl
