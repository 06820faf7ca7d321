use Rattle.std.proofs.Common.{rules, ◌≡◌, ◌<◌, ◌+◌, ◌++◌, ◌∷◌, ◌∙◌, [], Bool, List, Vec, Global, cond, true, false, append-nil, get_or, length, subst, sym, ap, take}
use Rattle.std.specs.Prelude.{filter}
use Rattle.fc_alloc.specs.declared.owner.Owner.{Owner}
use Rattle.fc_change.specs.Held.{parts_of}
use Rattle.fc_writing.specs.declared.ready.Transfer.{Transfer}
use Rattle.fc_safecommands.specs.Anew.{AreTakenAlong, is_taken_along}
use Rattle.fc_safecommands.proofs.AnewLemmas.{along_more, along_next}
use Rattle.fc_safecommands.proofs.SaidAloneLemmas.{none_along}
use Rattle.fc_safecommands.proofs.anew.all_taken_along.Goals.{then-is_taken_along+in_ok-transfer+in_ok-push, else-is_taken_along}
use Rattle.fc_safecommands.proofs.anew.all_taken_along.Goals as goal

abbrev none : Owner
none = record { id = 0; dir = 0; node = 0; file = false; low = 0; first = 0; sectors = 0 }

pub loop-own-preserved : goal.loop-own-preserved
loop-own-preserved c =
    let m = c.args.map.now in
    let h = parts_of c.args.held.now in
    let plans = c.args.plans.now in
    let test = is_taken_along plans c.args.wants.now c.args.change.now in
    let owners : List Owner = c.args.held.now.owners.now in
    let i = c.loop-own.own-index in
    let now = c.if-is_taken_along.transfers.items in
    let same : c.list-own-items.result.now ≡ owners = c.list-own-items.ensures.same in
    let low : i < length owners = subst (λ (os : List Owner). i < length os) same c.loop-own-test.true in
    let own : Owner = get_or c.list-own-items.result.now i none in
    let more : filter test (take (i + 1) owners) ≡ filter test (take i owners) ++ cond (test own) (own ∷ []) [] =
    along_next test owners i none low ∙ ap (λ (os : List Owner). filter test (take i owners) ++ cond (test (get_or os i none)) (get_or os i none ∷ []) []) (sym same) in
    let before : AreTakenAlong m h plans (filter test (take i owners)) c.loop-own.transfers.items = c.loop-own.invariant in
    let is : test own ≡ c.is_taken_along.result = sym c.is_taken_along.ensures in
    subst (λ (os : List Owner). AreTakenAlong m h plans os now) (sym more)
    (elim c.if-is_taken_along.branch [
      | then-is_taken_along+in_ok-transfer+in_ok-push w ↦
          (let along : test own ≡ true = is ∙ w.if-is_taken_along.true in
          subst (λ (b : Bool). AreTakenAlong m h plans (filter test (take i owners) ++ cond b (own ∷ []) []) now) (sym along)
          (subst (λ (ts : List Transfer). AreTakenAlong m h plans (filter test (take i owners) ++ own ∷ []) ts) (sym (ap (λ (ts : Vec Transfer Global). ts.items) w.transfers-is ∙ w.in_ok-push.ensures))
          (along_more m h plans (filter test (take i owners)) c.loop-own.transfers.items own w.in_ok-transfer.transfer before w.in_ok-transfer.ensures)))
      | else-is_taken_along w ↦
          (let along : test own ≡ false = is ∙ w.if-is_taken_along.false in
          subst (λ (b : Bool). AreTakenAlong m h plans (filter test (take i owners) ++ cond b (own ∷ []) []) now) (sym along)
          (subst (λ (ts : List Transfer). AreTakenAlong m h plans (filter test (take i owners) ++ []) ts) (sym (ap (λ (ts : Vec Transfer Global). ts.items) w.transfers-is))
          (subst (λ (os : List Owner). AreTakenAlong m h plans os c.loop-own.transfers.items) (sym (append-nil (filter test (take i owners)))) before)))
    ])

pub returns-then-are_said_alone : goal.returns-then-are_said_alone
returns-then-are_said_alone c =
    let m = c.args.map.now in
    let h = parts_of c.args.held.now in
    let plans = c.args.plans.now in
    let test = is_taken_along plans c.args.wants.now c.args.change.now in
    let owners : List Owner = c.args.held.now.owners.now in
    let nobody : filter test owners ≡ [] = none_along owners plans c.args.wants.now c.args.change.now (sym c.are_said_alone.ensures ∙ c.if-are_said_alone.true) in
    let nothing : c.new-transfers.result.items ≡ [] = c.new-transfers.ensures.items in
    subst (λ (os : List Owner). AreTakenAlong m h plans os c.new-transfers.result.items) (sym nobody) (subst (λ (ts : List Transfer). AreTakenAlong m h plans [] ts) (sym nothing) tt)
