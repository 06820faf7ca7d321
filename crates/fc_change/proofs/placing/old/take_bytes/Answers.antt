use Rattle.std.proofs.Common.{◌≡◌, ℕ, Some, refl, sym, ap, ap₂, subst, ◌∙◌}
use Rattle.std.specs.Prelude.{IsSome, Ok}
use Rattle.fc_image.specs.Layout.{Layout, sectors_at}
use Rattle.fc_image.specs.effects.Short.{old_need}
use Rattle.fc_oldmap.specs.Holes.{after_take, take_answer}
use Rattle.fc_changes.specs.old.Owed.{holding}
use Rattle.fc_objects.specs.Extents.{sectors_in}
use Rattle.fc_change.proofs.OldTakingLemmas.{fits_at, is_taken, no_lack, nothing_taken, some_bytes}
use Rattle.fc_change.proofs.placing.old.take_bytes.Goals as goal

pub returns-then-wants-eq0-clause-taken : goal.returns-then-wants-eq0-clause-taken
returns-then-wants-eq0-clause-taken c = nothing_taken c.args.map.now c.args.wants.now c.place_without.result c.holes.ensures.map c.if-wants-eq0.true c.place_without.ensures

pub place_at-requires : goal.place_at-requires
place_at-requires c =
    let space = c.args.map.now in
    let bytes = c.args.wants.now.bytes in
    let answer : take_answer (old_need space bytes) space.holes ≡ Ok c.in-Ok.taken.0 = ap (λ (n : ℕ). take_answer (old_need space n) space.holes) (sym c.from-bytes.ensures) ∙ c.in-Ok.ensures.place in
    let fitted = c.spaces.ensures.fitted space bytes c.in-Ok.taken.0 c.holes.ensures.map (some_bytes bytes c.if-wants-eq0.false) (fits_at (old_need space bytes) c.in-Ok.taken.0 space.holes answer) in
    let place : sectors_at (Layout.Old space) c.in-Ok.taken.0 bytes ≡ Some fitted.sectors = fitted.place in
    subst IsSome (sym (ap₂ (λ (l : Layout) (n : ℕ). sectors_at l c.in-Ok.taken.0 n) c.requires.map c.from-bytes.ensures ∙ place)) refl

pub returns-clause-taken : goal.returns-clause-taken
returns-clause-taken c =
    let space = c.args.map.now in
    let bytes = c.args.wants.now.bytes in
    let answer : take_answer (old_need space bytes) space.holes ≡ Ok c.in-Ok.taken.0 = ap (λ (n : ℕ). take_answer (old_need space n) space.holes) (sym c.from-bytes.ensures) ∙ c.in-Ok.ensures.place in
    let place : sectors_at (Layout.Old space) c.in-Ok.taken.0 bytes ≡ Some (sectors_in c.in_ok-extents.extents.items) =
    sym (ap₂ (λ (l : Layout) (n : ℕ). sectors_at l c.in-Ok.taken.0 n) c.requires.map c.from-bytes.ensures) ∙ c.in_ok-extents.ensures in
    let now : c.in-Ok.taken.1 ≡ holding space (after_take (old_need space bytes) space.holes) =
    c.in-Ok.ensures.map ∙ ap (λ (n : ℕ). holding space (after_take (old_need space n) space.holes)) c.from-bytes.ensures in
    is_taken space c.args.wants.now (record { address = c.in-Ok.taken.0; extents = c.in_ok-extents.extents }) c.in-Ok.taken.1 c.holes.ensures.map c.requires.behind c.spaces.ensures
    (some_bytes bytes c.if-wants-eq0.false) answer place now

pub returns-clause-refused : goal.returns-clause-refused
returns-clause-refused c =
    let space = c.args.map.now in
    let bytes = c.args.wants.now.bytes in
    let answer : take_answer (old_need space bytes) space.holes ≡ Ok c.in-Ok.taken.0 = ap (λ (n : ℕ). take_answer (old_need space n) space.holes) (sym c.from-bytes.ensures) ∙ c.in-Ok.ensures.place in
    no_lack space bytes c.in-Ok.taken.0 (fits_at (old_need space bytes) c.in-Ok.taken.0 space.holes answer)
