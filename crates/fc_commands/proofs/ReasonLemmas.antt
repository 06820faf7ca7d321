-- Reasons of refusals.
use Rattle.std.proofs.Common.{◌≡◌, Bool, true, false, List, [], ◌∷◌, ◌++◌, refl, sym, ap, ◌∙◌, Option, Some, None}
use Rattle.fc_names.specs.declared.name.NameForm.{NameForm}
use Rattle.fc_names.specs.declared.refusal.Refusal.{Refusal}
use Rattle.fc_model.specs.Answer.{first_of, reasons}
use Rattle.fc_model.specs.Command.{Command}
use Rattle.fc_model.specs.Tree.{Tree}
use Rattle.fc_refusals.specs.Targets.{refusal_of}
use Rattle.std.specs.Prelude.{Result, Ok, Err}

-- ---- the first of all

pub first_some : (xs : List (Option Refusal)) (o : Option Refusal) (r : Refusal) → first_of xs ≡ Some r → first_of (xs ++ o ∷ []) ≡ Some r
first_some [] o r e = absurd (cc)
first_some (None ∷ xs) o r e = first_some xs o r e
first_some (Some s ∷ xs) o r e = e

pub first_last : (xs : List (Option Refusal)) (o : Option Refusal) → first_of xs ≡ None → first_of (xs ++ o ∷ []) ≡ o
first_last [] None e = refl
first_last [] (Some r) e = refl
first_last (None ∷ xs) o e = first_last xs o e
first_last (Some s ∷ xs) o e = absurd (cc)

-- ---- a command that nothing refuses

-- None applies.
abbrev NoneApplies : List (Option Refusal) → Type 0
NoneApplies [] = Unit {0}
NoneApplies (o ∷ os) = (o ≡ None) × NoneApplies os

none_applies : (xs : List (Option Refusal)) → first_of xs ≡ None → NoneApplies xs
none_applies [] e = tt
none_applies (None ∷ xs) e = (refl, none_applies xs e)
none_applies (Some r ∷ xs) e = absurd (cc)

never : (r : Refusal) → (let o : Option Refusal = Some r in o) ≡ None → ⊥
never r e = cc

-- It isn't refused if it may change things either.
pub rights : (t : Tree) (form : NameForm) (read_only : Bool) (c : Command) → first_of (reasons t form read_only c) ≡ None → first_of (reasons t form false c) ≡ None
rights t form false c e = e
rights t form true (Command.Cat path) e = e
rights t form true (Command.Load path) e = e
rights t form true (Command.Digest path) e = e
rights t form true (Command.Save path load exec bytes) e = absurd (never _ (none_applies (reasons t form true (Command.Save path load exec bytes)) e).1.1.1.1.0)
rights t form true (Command.Create path load exec len) e = absurd (never _ (none_applies (reasons t form true (Command.Create path load exec len)) e).1.1.1.1.0)
rights t form true (Command.Cdir path) e = absurd (never _ (none_applies (reasons t form true (Command.Cdir path)) e).1.1.1.0)
rights t form true (Command.Delete path) e = absurd (never _ (none_applies (reasons t form true (Command.Delete path)) e).1.1.1.1.0)
rights t form true (Command.Rename from to) e = absurd (never _ (none_applies (reasons t form true (Command.Rename from to)) e).1.1.1.1.1.1.1.0)
rights t form true (Command.Set path load exec access) e = absurd (never _ (none_applies (reasons t form true (Command.Set path load exec access)) e).1.1.0)
rights t form true (Command.Mark path attrs) e = absurd (never _ (none_applies (reasons t form true (Command.Mark path attrs)) e).1.1.0)
rights t form true Command.Free e = e
rights t form true Command.Check e = e
rights t form true Command.Compact e = absurd (never _ (none_applies (reasons t form true Command.Compact) e).0)
rights t form true Command.Reclaim e = absurd (never _ (none_applies (reasons t form true Command.Reclaim) e).0)
