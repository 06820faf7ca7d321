-- A value of no bytes, with the empty list for its ghost field.
use mathlib.Core.Path.{refl}
use mathlib.Core.List.{[], ◌∷◌}
use seplogic.Ra.Ura.{Ura}
use mir.Val.{Val, vstruct, vcons, vnil}
use base.Logic.{SProp}
use prog.Memory.{Memory}
use prog.Routine.{Routine}
use prog.Wp.{WpFn, Tables}
use sound.WpLaws.{WpFn-mono}
use types.Logic.{Logic}
use types.Kit.{raw, ◌$◌, ◌∵◌, !, qed, keep, join, suffices, done}
use types.Run.{no_more, and_then, returns, enter}
use types.Part.{agg}
use types.ByLocal.{alloc_all, pass_all, free_all, look_at, get, sets}
use contract.Monad.{Fun}
use contract.Running.{tables, tables_of}
use denote.Shadow.{pure_i}
use denote.Steps.{nothing}
use denote.Triple.Entry.{on_entry}
use denote.Triple.Spec.{Meets, triple_of}
use denote.Triple.Table.{entered}
use denote.Triple.Walked.{says, ends_at, walked, walk_Meets}
use Rattle.fc_device.specs.declared.asks.Asks.{Asks}
use Rattle.fc_device.specs.contracts.asks.Asks as T
use Rattle.fc_device.specs.contracts.asks.Asks.new as F
use Rattle.fc_device.specs.contracts.asks.Asks.new.Key.{name as #new}
use Rattle.fc_device.proofs.asks.Asks.new.Statement.{statement}
use Rattle.fc_device.proofs.asks.Asks.new.Code as code

abbrev nothing_yet : Asks
nothing_yet = record { nothing = record {}; list = [] }

abbrev no_bytes : Val
no_bytes = vstruct (vcons (vstruct vnil) vnil)

meets : {M : Type 1} {𝓤 : Ura M} (𝓛 : Logic 𝓤) → (at_mem : Memory → SProp 𝓤) (run : Routine → Fun 𝓤) (𝓣 : Tables 𝓤 𝓛.H)
    → Meets 𝓛 F.signature (WpFn 𝓤 𝓛.H 𝓣.C 𝓣.Λ code.function) (F.spec 𝓛 at_mem run)
meets {𝓤 = 𝓤} 𝓛 at_mem run 𝓣 =
    let made = F.clauses 𝓛 at_mem run in
    let body = WpFn 𝓤 𝓛.H 𝓣.C 𝓣.Λ code.function in
    walk_Meets 𝓛 F.ended tt tt made body (WpFn-mono 𝓤 𝓛.H 𝓛.laws 𝓣 code.function)
    (walked 𝓛 F.ended tt made body (λ κs. tt) (λ κs. tt) (λ κs qs bounds a g _.
    qed 𝓛 (raw (on_entry 𝓛 F.signature κs qs a tt) ∷ raw ((made κs a).requires g) ∷ []) ∵ keep ! [] $
    enter ! 𝓣.C 𝓣.Λ code.function [] _ $ alloc_all ! (λ l. pass_all ! refl tt $
    sets ! (agg ! (no_more !)) refl (tt, tt) $ sets ! (agg ! (and_then ! (get ! refl) (no_more !))) refl (tt, (tt, tt)) $
    returns ! (look_at ! 0 refl) $ free_all ! refl $
    pure_i ! ((T.the_row).own_val nothing_yet (no_bytes ∷ [])) ((λ vss. (tt, ((λ uss. (tt, tt)), tt))), tt) (((vstruct vnil ∷ [], tt), (refl, ((tt, (refl, tt)), tt))), tt) $
    suffices ! _ (ends_at 𝓛 F.ended tt made ((κs, qs, bounds, a, tt), g) no_bytes nothing_yet tt tt) $ says ! refl $
    nothing ! $ join ! $ nothing ! $ done !)))

pub new_spec : {M : Type 1} → statement M
unfolding tables_of
new_spec 𝓤 𝓛 𝓜 𝓡 wired =
    let 𝓣 = tables_of 𝓤 𝓛.H 𝓜 (tables 𝓤 𝓛.H 𝓜 𝓡 𝓡.env) in
    entered 𝓤 𝓛.H (triple_of 𝓛 F.signature (F.spec 𝓛 𝓜.mem 𝓡.returns)) 𝓣.C 𝓣.Λ #new code.function (code.unfolded 𝓤 𝓛.H 𝓜 𝓡 wired) (meets 𝓛 𝓜.mem 𝓡.returns 𝓣)
