-- When compaction of an old map has nothing left to do.
use Rattle.std.specs.Prelude.{◌≡◌, true, List, length, Contains}
use Rattle.fc_oldmap.specs.OldMap.{OldMapContent}
use Rattle.fc_image.specs.Walk.{Object}
use Rattle.fc_image.specs.Objects.{has_sectors}
use Rattle.fc_image.specs.declared.effects.Owned.{Owned}
use Rattle.fc_image.specs.effects.Moves.{Squashed}
use Rattle.fc_image.specs.effects.Settled.{is_settled_space}

-- After `squash` nothing is left to do, if its objects are all objects with sectors but the root.
abbrev pub SettledLaw : Type 0
SettledLaw =
    (space space' : OldMapContent) (was now : List Owned) (objects : List Object)
    → ((o : Object) → Contains objects o → has_sectors o ≡ true → (length o.path ≡ 0 → ⊥) → (p : Owned) × Contains now p × (p.start ≡ o.entry.address))
    → Squashed space space' was now → is_settled_space space' objects ≡ true
