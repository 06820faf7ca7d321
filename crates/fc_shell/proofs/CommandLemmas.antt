-- Commands that change the tree: which these are, and the first reason that refuses one.
use Rattle.std.proofs.Common.{◌≡◌, ◌⊎◌, ℕ, zero, suc, Bool, true, false, List, [], ◌∷◌, ◌++◌, Option, Some, None, inl, inr, refl}
use Rattle.std.specs.Prelude.{slice_get}
use Rattle.fc_names.specs.declared.name.NameForm.{NameForm}
use Rattle.fc_names.specs.declared.refusal.Refusal.{Refusal}
use Rattle.fc_names.specs.declared.refusal.Refusal.TheVariants as refusals
use Rattle.fc_model.specs.Tree.{Tree}
use Rattle.fc_model.specs.Command.{Command}
use Rattle.fc_model.specs.Answer.{first_of, reasons}
use Rattle.fc_image.specs.Layout.{Layout}
use Rattle.fc_image.specs.effects.Effect.{State}
use Rattle.fc_runs.specs.ReadLaw.{is_reading}
use Rattle.fc_runs.specs.Run.{ChangesBy, Effect, Mode, keeps_tree, layout_reason}

-- ---- which commands these are

-- They don't read,
pub not_reading : (c : Command) → keeps_tree c ≡ false → is_reading c ≡ false
not_reading (Command.Cat path) changes = absurd (cc)
not_reading (Command.Load path) changes = absurd (cc)
not_reading (Command.Digest path) changes = absurd (cc)
not_reading Command.Free changes = absurd (cc)
not_reading Command.Check changes = absurd (cc)
not_reading Command.Compact changes = absurd (cc)
not_reading Command.Reclaim changes = absurd (cc)
not_reading (Command.Save path load exec bytes) changes = refl
not_reading (Command.Create path load exec len) changes = refl
not_reading (Command.Cdir path) changes = refl
not_reading (Command.Delete path) changes = refl
not_reading (Command.Rename from to) changes = refl
not_reading (Command.Set path load exec access) changes = refl
not_reading (Command.Mark path attrs) changes = refl

-- no layout refuses them,
pub no_reason : (layout : Layout) (c : Command) → keeps_tree c ≡ false → layout_reason layout c ≡ None
no_reason (Layout.New m) c changes = refl
no_reason (Layout.Old space) (Command.Cat path) changes = refl
no_reason (Layout.Old space) (Command.Load path) changes = refl
no_reason (Layout.Old space) (Command.Digest path) changes = refl
no_reason (Layout.Old space) Command.Free changes = refl
no_reason (Layout.Old space) Command.Check changes = refl
no_reason (Layout.Old space) Command.Compact changes = refl
no_reason (Layout.Old space) Command.Reclaim changes = absurd (cc)
no_reason (Layout.Old space) (Command.Save path load exec bytes) changes = refl
no_reason (Layout.Old space) (Command.Create path load exec len) changes = refl
no_reason (Layout.Old space) (Command.Cdir path) changes = refl
no_reason (Layout.Old space) (Command.Delete path) changes = refl
no_reason (Layout.Old space) (Command.Rename from to) changes = refl
no_reason (Layout.Old space) (Command.Set path load exec access) changes = refl
no_reason (Layout.Old space) (Command.Mark path attrs) changes = refl

-- and they do what is said of changes in the mode.
pub effect_of : (mode : Mode) (s next : State) (c : Command) (t : Tree) → keeps_tree c ≡ false → ChangesBy mode.safe mode.kind s next c t → Effect mode s c t next
effect_of mode s next (Command.Cat path) t changes does = absurd (cc)
effect_of mode s next (Command.Load path) t changes does = absurd (cc)
effect_of mode s next (Command.Digest path) t changes does = absurd (cc)
effect_of mode s next Command.Free t changes does = absurd (cc)
effect_of mode s next Command.Check t changes does = absurd (cc)
effect_of mode s next Command.Compact t changes does = absurd (cc)
effect_of mode s next Command.Reclaim t changes does = absurd (cc)
effect_of mode s next (Command.Save path load exec bytes) t changes does = does
effect_of mode s next (Command.Create path load exec len) t changes does = does
effect_of mode s next (Command.Cdir path) t changes does = does
effect_of mode s next (Command.Delete path) t changes does = does
effect_of mode s next (Command.Rename from to) t changes does = does
effect_of mode s next (Command.Set path load exec access) t changes does = does
effect_of mode s next (Command.Mark path attrs) t changes does = does

-- ---- the first refusal

pub refused_by : (rs : List (Option Refusal)) (last : Option Refusal) (r : Refusal) → first_of (rs ++ last ∷ []) ≡ Some r
    → (first_of rs ≡ Some r) ⊎ ((first_of rs ≡ None) × (last ≡ Some r))
refused_by [] None r e = absurd (cc)
refused_by [] (Some x) r e = inr (refl, e)
refused_by (None ∷ rs) last r e = refused_by rs last r e
refused_by (Some x ∷ rs) last r e = inl e

pub accepted_by : (rs : List (Option Refusal)) (last : Option Refusal) → first_of (rs ++ last ∷ []) ≡ None → (first_of rs ≡ None) × (last ≡ None)
accepted_by [] None e = (refl, refl)
accepted_by [] (Some x) e = absurd (cc)
accepted_by (None ∷ rs) last e = accepted_by rs last e
accepted_by (Some x ∷ rs) last e = absurd (cc)

-- A reason that is there refuses.
is_there : (rs : List (Option Refusal)) (i : ℕ) (r : Refusal) → slice_get rs i ≡ Some (Some r) → first_of rs ≡ None → ⊥
is_there [] i r at none = absurd (cc)
is_there (Some x ∷ rs) i r at none = absurd (cc)
is_there (None ∷ rs) zero r at none = absurd (cc)
is_there (None ∷ rs) (suc i) r at none = is_there rs i r at none

-- A volume that may not be changed refuses each of them.
pub locked : (t : Tree) (form : NameForm) (c : Command) → keeps_tree c ≡ false → first_of (reasons t form true c) ≡ None → ⊥
locked t form (Command.Cat path) changes none = absurd (cc)
locked t form (Command.Load path) changes none = absurd (cc)
locked t form (Command.Digest path) changes none = absurd (cc)
locked t form Command.Free changes none = absurd (cc)
locked t form Command.Check changes none = absurd (cc)
locked t form Command.Compact changes none = absurd (cc)
locked t form Command.Reclaim changes none = absurd (cc)
locked t form (Command.Save path load exec bytes) changes none = is_there (reasons t form true (Command.Save path load exec bytes)) 4 refusals.ReadOnly refl none
locked t form (Command.Create path load exec len) changes none = is_there (reasons t form true (Command.Create path load exec len)) 4 refusals.ReadOnly refl none
locked t form (Command.Cdir path) changes none = is_there (reasons t form true (Command.Cdir path)) 3 refusals.ReadOnly refl none
locked t form (Command.Delete path) changes none = is_there (reasons t form true (Command.Delete path)) 4 refusals.ReadOnly refl none
locked t form (Command.Rename from to) changes none = is_there (reasons t form true (Command.Rename from to)) 7 refusals.ReadOnly refl none
locked t form (Command.Set path load exec access) changes none = is_there (reasons t form true (Command.Set path load exec access)) 2 refusals.ReadOnly refl none
locked t form (Command.Mark path attrs) changes none = is_there (reasons t form true (Command.Mark path attrs)) 2 refusals.ReadOnly refl none
