-- Commands on the target, one after another.
use Rattle.std.proofs.Common.{◌≡◌, ◌≤◌, ◌+◌, ◌-◌, ◌^◌, Bool, true, false, List, [], ◌∷◌, ◌++◌, refl, sym, ap, ap₂, subst, ◌∙◌, Option, Some, None, Result, Ok, Err, arith, append_assoc}
use Rattle.fc_device.specs.declared.disk.Disk.{Ghosts}
use Rattle.fc_device.specs.Faults.{Rose}
use Rattle.fc_device.proofs.DiskLaws.{Laws, form_same, form_then}
use Rattle.fc_device.proofs.StopLemmas.{goes_on, started}
use Rattle.fc_names.specs.declared.name.NameForm.{NameForm}
use Rattle.fc_names.specs.declared.refusal.Refusal.{Refusal}
use Rattle.fc_record.specs.declared.Kind.{Kind}
use Rattle.fc_model.specs.Answer.{answer, changed, first_of, reasons}
use Rattle.fc_model.specs.Command.{Command}
use Rattle.fc_image.specs.Layout.{Layout, dir_form}
use Rattle.fc_image.specs.effects.Effect.{State, tree_in}
use Rattle.fc_image.specs.effects.Short.{short}
use Rattle.fc_tree.proofs.WalkedLemmas.{sound_law}
use Rattle.fc_fit.specs.Doing.{DoAll, StopIn, refusal_by}
use Rattle.fc_holdings.specs.declared.error.CommandError.{CommandError}
use Rattle.fc_holdings.specs.declared.error.CommandError.TheVariants as commands
use Rattle.fc_holdings.specs.Answers.{AnswersBy, UnlessFault}
use Rattle.fc_volume.specs.Changing.{IsAsked, KeepsVolume, refusal_in}
use Rattle.fc_volume.specs.Volume.{StandsFor, Volume, parts_of}
use Rattle.fc_convert.specs.declared.copying.CopyError.{CopyError}
use Rattle.fc_convert.specs.declared.copying.CopyError.TheVariants as errors
use Rattle.fc_convert.specs.Copying.{KeepsTarget, Makes, MakesAll, UnlessTo}
use Rattle.fc_convert.specs.Ends.{command_error}
use Rattle.fc_convert.specs.Opened.{Holds, IsOpen}
use Rattle.fc_fit.proofs.AcceptLemmas.{accepted as accepted_answer}

-- ---- what commands leave

-- some commands, and then others
pub do_then : (form : NameForm) (kind : Kind) (s mid s' : State) (a b : List Command) → DoAll form kind s a mid → DoAll form kind mid b s' → DoAll form kind s (a ++ b) s'
do_then form kind s mid s' [] b first second = subst (λ (x : State). DoAll form kind x b s') first second
do_then form kind s mid s' (c ∷ a) b first second = (first.0, first.1, do_then form kind first.0 mid s' a b first.2 second)

-- what a command answers, as a part of a copy
abbrev pub answered : Result (Unit {0}) CommandError → Result (Unit {0}) CopyError
answered (Ok done) = Ok done
answered (Err error) = Err (command_error error)

-- ---- one command

none_both : (os : List (Option Refusal)) (o : Option Refusal) → first_of (os ++ o ∷ []) ≡ None → (first_of os ≡ None) × (o ≡ None)
none_both [] None none = (refl, refl)
none_both [] (Some r) none = absurd (cc)
none_both (None ∷ os) o none = none_both os o none
none_both (Some r ∷ os) o none = absurd (cc)

accepted_is : (o : Option Refusal) (done : Unit {0}) → AnswersBy o (Ok done) → o ≡ None
accepted_is None done answers = refl
accepted_is (Some r) done answers = absurd answers

pub refused_is : (o : Option Refusal) (r : Refusal) → AnswersBy {T = Unit {0}} o (Err (commands.Refused r)) → o ≡ Some r
refused_is None r answers = absurd answers
refused_is (Some x) r answers = ap Some (sym answers)

module _ {E : Type 0} {e : Ghosts E} (c : Command) (was v : Volume) (old new : E) (rights : was.read_only ≡ false) where
  -- The target answers by the format's names.
  pub by_form : (kind : Kind) (s : State) → Holds e kind s was old → refusal_by (dir_form (parts_of was).layout) s c ≡ refusal_in s.view s.image was.read_only c
  by_form kind s holds =
      ap₂ (λ (l : Layout) (b : Bool). first_of (reasons (tree_in s) (dir_form l) b c ++ short s.view c ∷ [])) holds.parts.layout (sym rights)

  made : (answer : Result (Unit {0}) CommandError) → IsAsked e c was v old new answer → (kind : Kind) (s : State) → Holds e kind s was old
      → Makes e (dir_form (parts_of was).layout) kind (c ∷ []) s v new (answered answer)
  made (Ok done) asked kind s holds =
      let none = accepted_is (refusal_in s.view s.image was.read_only c) done (asked.refused s.view s.image (sound_law s.image kind s.view holds.opens) holds.parts) in
      let both = none_both (reasons (tree_in s) (dir_form (parts_of was).layout) false c) (short s.view c) (by_form kind s holds ∙ none) in
      let changed_to = asked.changed s.image holds.bytes in
      let after = changed_to.2 kind s.view holds.opens holds.parts in
      let next : State = record { image = changed_to.0; view = after.0 } in (
        next,
        (next, (changed (tree_in s) c, accepted_answer (tree_in s) (dir_form (parts_of was).layout) c both.0, both.1, after.1), refl),
        record { bytes = changed_to.1; opens = after.1.opens.opens; parts = after.2 },
      )
  made (Err (commands.Refused r)) asked kind s holds =
      let same = asked.keeps.unchanged (λ fault. absurd (cc)) in
      let refused = refused_is (refusal_in s.view s.image was.read_only c) r (asked.refused s.view s.image (sound_law s.image kind s.view holds.opens) holds.parts) in (
        s,
        record { front = []; next = c; rest = []; cut = refl; done = refl; refused = by_form kind s holds ∙ refused },
        ap e.bytes same.1 ∙ holds.bytes,
      )
  made (Err commands.NoMemory) asked kind s holds = tt
  made (Err commands.DiskFault) asked kind s holds = tt

  pub one_made : (answer : Result (Unit {0}) CommandError) → IsAsked e c was v old new answer → MakesAll e (c ∷ []) was v old new (answered answer)
  one_made answer asked kind s holds = made answer asked kind s holds

-- ---- one after another

module _ (a b : List Command) where
  stop_behind : (form : NameForm) (kind : Kind) (s mid state : State) (r : Refusal) → DoAll form kind s a mid → StopIn form kind b mid state r → StopIn form kind (a ++ b) s state r
  stop_behind form kind s mid state r done stop = record {
    front = a ++ stop.front;
    next = stop.next;
    rest = stop.rest;
    cut = ap (λ (cs : List Command). a ++ cs) stop.cut ∙ sym (append_assoc a stop.front (stop.next ∷ stop.rest));
    done = do_then form kind s mid state a stop.front done stop.done;
    refused = stop.refused;
  }

  stop_before : (form : NameForm) (kind : Kind) (s state : State) (r : Refusal) → StopIn form kind a s state r → StopIn form kind (a ++ b) s state r
  stop_before form kind s state r stop = record {
    front = stop.front;
    next = stop.next;
    rest = stop.rest ++ b;
    cut = ap (λ (cs : List Command). cs ++ b) stop.cut ∙ append_assoc stop.front (stop.next ∷ stop.rest) b;
    done = stop.done;
    refused = stop.refused;
  }

module _ {E : Type 0} (e : Ghosts E) (a b : List Command) where
  then_made : (form : NameForm) (kind : Kind) (s mid : State) (v : Volume) (new : E) (result : Result (Unit {0}) CopyError) → DoAll form kind s a mid
      → Makes e form kind b mid v new result → Makes e form kind (a ++ b) s v new result
  then_made form kind s mid v new (Ok done) first second = (second.0, do_then form kind s mid second.0 a b first second.1, second.2)
  then_made form kind s mid v new (Err (errors.Refused r)) first second = (second.0, stop_behind a b form kind s mid second.0 r first second.1, second.2)
  then_made form kind s mid v new (Err errors.From) first second = tt
  then_made form kind s mid v new (Err errors.To) first second = tt
  then_made form kind s mid v new (Err errors.NoMemory) first second = tt

  pub makes_then : (was mid v : Volume) (old at new : E) (done : Unit {0}) (result : Result (Unit {0}) CopyError) → dir_form (parts_of mid).layout ≡ dir_form (parts_of was).layout
      → MakesAll e a was mid old at (Ok done) → MakesAll e b mid v at new result → MakesAll e (a ++ b) was v old new result
  makes_then was mid v old at new done result same first second kind s holds =
      let one = first kind s holds in
      then_made (dir_form (parts_of was).layout) kind s one.0 v new result one.1
      (subst (λ (form : NameForm). Makes e form kind b one.0 v new result) same (second kind one.0 one.2))

  stopped_before : (form : NameForm) (kind : Kind) (s : State) (v : Volume) (new : E) (error : CopyError) → Makes e form kind a s v new (Err error) → Makes e form kind (a ++ b) s v new (Err error)
  stopped_before form kind s v new (errors.Refused r) first = (first.0, stop_before a b form kind s first.0 r first.1, first.2)
  stopped_before form kind s v new errors.From first = tt
  stopped_before form kind s v new errors.To first = tt
  stopped_before form kind s v new errors.NoMemory first = tt

  pub makes_stopped : (was v : Volume) (old new : E) (error : CopyError) → MakesAll e a was v old new (Err error) → MakesAll e (a ++ b) was v old new (Err error)
  makes_stopped was v old new error first kind s holds = stopped_before (dir_form (parts_of was).layout) kind s v new error (first kind s holds)

-- ---- what stays of the target

module _ {E : Type 0} {e : Ghosts E} (law : Laws e) where
  -- one call
  pub keeps_one : (was v : Volume) (old new : E) (answer : Result (Unit {0}) CommandError) → was.read_only ≡ false → e.attached old ≡ true → KeepsVolume e old new was v answer
      → KeepsTarget e was v old new (answered answer)
  keeps_one was v old new answer rights attached keeps = record {
    ready = by answer keeps.stands keeps.settled keeps.fit;
    dirs = still answer keeps.dirs;
    form = keeps.form;
    goes = keeps.goes;
    faults = keeps.faults;
    cause = caused answer keeps.cause;
  }
    where
      open_now : StandsFor e v new → e.pending new ≡ false → v.fit ≡ true → IsOpen e false v new
      open_now stands settled fit = record {
        attached = keeps.form.attached_stays ∙ attached;
        settled = settled;
        fit = fit;
        rights = keeps.rights ∙ rights;
        stands = stands;
      }

      by : (x : Result (Unit {0}) CommandError) → UnlessFault x (StandsFor e v new) → UnlessFault x (e.pending new ≡ false) → UnlessFault x (v.fit ≡ true) → UnlessTo (answered x) (IsOpen e false v new)
      by (Ok done) stands settled fit = open_now stands settled fit
      by (Err (commands.Refused r)) stands settled fit = open_now stands settled fit
      by (Err commands.NoMemory) stands settled fit = open_now stands settled fit
      by (Err commands.DiskFault) stands settled fit = tt

      still : (x : Result (Unit {0}) CommandError) → UnlessFault x (dir_form (parts_of v).layout ≡ dir_form (parts_of was).layout) → UnlessTo (answered x) (dir_form (parts_of v).layout ≡ dir_form (parts_of was).layout)
      still (Ok done) same = same
      still (Err (commands.Refused r)) same = same
      still (Err commands.NoMemory) same = same
      still (Err commands.DiskFault) same = tt

      caused : (x : Result (Unit {0}) CommandError) → (x ≡ Err commands.DiskFault → Rose (e.faults old) (e.faults new)) → answered x ≡ Err errors.To → Rose (e.faults old) (e.faults new)
      caused (Ok done) cause is = absurd (cc)
      caused (Err (commands.Refused r)) cause is = absurd (cc)
      caused (Err commands.NoMemory) cause is = absurd (cc)
      caused (Err commands.DiskFault) cause is = cause refl

  -- no call
  pub keeps_none : {T : Type 0} (was : Volume) (old : E) (result : Result T CopyError) → IsOpen e false was old → (result ≡ Err errors.To → ⊥) → KeepsTarget e was was old old result
  keeps_none was old result ready never = record {
    ready = by result (IsOpen e false was old) ready;
    dirs = by result (dir_form (parts_of was).layout ≡ dir_form (parts_of was).layout) refl;
    form = form_same e old;
    goes = started law old (λ image. Unit {0}) (λ image left. tt);
    faults = omega arith;
    cause = λ is. absurd (never is);
  }
    where
      by : {T : Type 0} (x : Result T CopyError) (P : Type 0) → P → UnlessTo x P
      by (Ok value) P p = p
      by (Err (errors.Refused r)) P p = p
      by (Err errors.From) P p = p
      by (Err errors.NoMemory) P p = p
      by (Err errors.To) P p = tt

  -- calls one after another
  pub keeps_then : {S T : Type 0} (was mid v : Volume) (old at new : E) (value : S) (result : Result T CopyError) → KeepsTarget {T = S} e was mid old at (Ok value) → KeepsTarget e mid v at new result
      → KeepsTarget e was v old new result
  keeps_then was mid v old at new value result first second = record {
    ready = second.ready;
    dirs = by result second.dirs;
    form = form_then e first.form second.form;
    goes = goes_on law first.goes second.goes (λ image left. tt);
    faults = let a = first.faults in let b = second.faults in omega (arith, a, b);
    cause = λ is. (let a = first.faults in let b = second.cause is in omega (arith, a, b));
  }
    where
      by : {T : Type 0} (x : Result T CopyError) → UnlessTo x (dir_form (parts_of v).layout ≡ dir_form (parts_of mid).layout) → UnlessTo x (dir_form (parts_of v).layout ≡ dir_form (parts_of was).layout)
      by (Ok value) same = same ∙ first.dirs
      by (Err (errors.Refused r)) same = same ∙ first.dirs
      by (Err errors.From) same = same ∙ first.dirs
      by (Err errors.NoMemory) same = same ∙ first.dirs
      by (Err errors.To) same = tt
