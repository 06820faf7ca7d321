use Rattle.std.proofs.Common.{◌≡◌, ◌∙◌, ◌&&◌, ◌||◌, ◌==◌, not, Bool, true, ap₂, sym}
use Rattle.std.specs.List.{count_by, list_any}
use Rattle.std.proofs.lemmas.Bool.{eq-eqb}
use Rattle.fc_alloc.specs.Owners.{is_id_owned, owns}
use Rattle.fc_change.specs.declared.change.Says.{Says}
use Rattle.fc_safecommands.specs.Anew.{holds_node}
use Rattle.fc_safecommands.proofs.anew.is_said_alone.Goals as goal

pub returns-then-count-eq1 : goal.returns-then-count-eq1
returns-then-count-eq1 c =
    let owners = c.args.held.now.owners.now in
    let held = list_any (λ (s : Says). holds_node owners c.args.id s.node) c.args.says.now in
    let owned : is_id_owned owners c.args.id ≡ true = sym c.owned.ensures ∙ c.if-not-owned.false in
    let one : (count_by (owns c.args.id) owners == 1) ≡ true = eq-eqb (count_by (owns c.args.id) owners) 1 (sym c.count.ensures ∙ c.if-count-eq1.true) in
    c.holds_said.ensures ∙ ap₂ (λ (a b : Bool). not a || (b && held)) (sym owned) (sym one)
