use Rattle.std.proofs.Common.{sym, ◌∙◌}
use Rattle.fc_volume.proofs.OneZoneLemmas.{first_taken, ok_three, second_taken}
use Rattle.fc_volume.proofs.maps.held_copy.Goals as goal

pub returns-then-is_sound-clause-copy : goal.returns-then-is_sound-clause-copy
returns-then-is_sound-clause-copy c =
    ok_three c.copied.result _ _ _ _ (first_taken c.args.front.now (sym c.if-is_sound.true ∙ c.is_sound.ensures)) c.copied.ensures.which c.copied.ensures.zones c.copied.ensures.whole

pub returns-clause-copy : goal.returns-clause-copy
returns-clause-copy c =
    ok_three c.copied-2.result _ _ _ _ (second_taken c.args.front.now (sym c.if-is_sound.false ∙ c.is_sound.ensures)) c.copied-2.ensures.which c.copied-2.ensures.zones c.copied-2.ensures.whole
