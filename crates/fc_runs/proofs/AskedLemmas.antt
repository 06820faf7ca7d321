-- From what was asked of a host to what became of its files.
use Rattle.std.proofs.Common.{◌≡◌, inl, inr, ℕ, Bool, true, false, nat_lt, List, [], ◌∷◌, length, Option, Some, None, option_map, is_some, Result, Ok, Err, refl, sym, ap, subst, ◌∙◌}
use Rattle.std.specs.FinMap.{get, insert}
use Rattle.fc_host.specs.Answers.{AnswersCalls, all_asked}
use Rattle.fc_host.specs.Asked.{Asked}
use Rattle.fc_host.specs.Files.{Files}
use Rattle.fc_host.proofs.AnswerLemmas.{answered_none, answered_parts, file_made, file_taken}
use Rattle.fc_names.specs.declared.refusal.Refusal.{Refusal}
use Rattle.fc_model.specs.Tree.{Tree}
use Rattle.fc_model.specs.Command.{Command}
use Rattle.fc_image.specs.effects.Effect.{State}
use Rattle.fc_script.specs.HostLines.{HostLine}
use Rattle.fc_runs.specs.AskedRun.{AskedLaw, AskedSteps, AskedTakes, GetsAsked, PutsAsked, PutsLength, UnlessRefused}
use Rattle.fc_runs.specs.HostRun.{Gets, HostSteps, HostTakes, Puts, PutsBytes, PutsFile, Reading, answer_in, file_in, longest_file}
use Rattle.fc_runs.specs.Run.{Mode, Takes}

-- ---- a line

module _ (mode : Mode) (s s' : State) (files : Files) (left : Option Files) (reply : List ℕ) where
  -- the files that are left, which are known
  abbrev Leaves : (Files → Type 0) → Type 0
  Leaves P = (files' : Files) × (left ≡ Some files') × P files'

  got : (path : List (List ℕ)) (host : List ℕ) (asked : List Asked) (a : Result Tree Refusal) → UnlessRefused s a asked reply s' (GetsAsked s host (file_in s path) asked reply s')
      → AnswersCalls (Some files) asked left → Leaves (λ files'. Gets s files host (file_in s path) (is_some (get files host)) a reply s' files')
  got path host asked (Err refusal) x y = (files, answered_none files left asked x.1 y, (x.0, refl))
  got path host asked (Ok t) (inl x) y =
      let answered = subst (λ (l : List Asked). AnswersCalls (Some files) l left) x.0 y in
      let there : is_some (get files host) ≡ true = answered.1.0 files refl in
      (files, answered.2 ∙ answered.1.1, subst (λ (b : Bool). Gets s files host (file_in s path) b (Ok t) reply s' files) (sym there) (x.1, refl))
  got path host asked (Ok t) (inr x) y =
      let made = file_made files host x.0 left (subst (λ (l : List Asked). AnswersCalls (Some files) l left) x.1 y) in (
        insert files host (file_in s path),
        made.1 ∙ ap (λ (bytes : List ℕ). Some (insert files host bytes)) x.2,
        subst (λ (b : Bool). Gets s files host (file_in s path) b (Ok t) reply s' (insert files host (file_in s path))) (sym made.0) (x.3, x.4, refl),
      )

  has_none : (o : Option (List ℕ)) → None ≡ option_map length o → o ≡ None
  has_none None e = refl
  has_none (Some bytes) e = absurd (cc)

  has_some : (o : Option (List ℕ)) (n : ℕ) → Some n ≡ option_map length o → (bytes : List ℕ) × (o ≡ Some bytes) × (length bytes ≡ n)
  has_some None n e = absurd (cc)
  has_some (Some bytes) n e = (bytes, refl, cc)

  put_length : (save : List ℕ → Command) (host bytes : List ℕ) (n : ℕ) (more : List Asked) → get files host ≡ Some bytes → length bytes ≡ n → PutsLength mode s save host n more reply s'
      → AnswersCalls (Some files) more left → Leaves (λ files'. PutsBytes (nat_lt longest_file (length bytes)) mode s files (save bytes) reply s' files')
  put_length save host bytes n more there long (inl x) y =
      let test : nat_lt longest_file (length bytes) ≡ true = ap (nat_lt longest_file) long ∙ x.0 in
      (files, answered_none files left more x.1 y, subst (λ (b : Bool). PutsBytes b mode s files (save bytes) reply s' files) (sym test) (x.2, refl))
  put_length save host bytes n more there long (inr (test, inl x)) y =
      let taken = file_taken files host bytes x.0 left there (x.2 ∙ sym long) (subst (λ (l : List Asked). AnswersCalls (Some files) l left) x.1 y) in
      let short : nat_lt longest_file (length bytes) ≡ false = ap (nat_lt longest_file) long ∙ test in (
        files,
        taken.0,
        subst (λ (b : Bool). PutsBytes b mode s files (save bytes) reply s' files) (sym short) (subst (λ (bs : List ℕ). Takes mode s (Ok (save bs)) reply s') taken.1 x.3, refl),
      )
  put_length save host bytes n more there long (inr (test, inr x)) y =
      let short : nat_lt longest_file (length bytes) ≡ false = ap (nat_lt longest_file) long ∙ test in
      (files, answered_none files left more x.0 y, subst (λ (b : Bool). PutsBytes b mode s files (save bytes) reply s' files) (sym short) (x.1 bytes long, refl))

  put : (save : List ℕ → Command) (host : List ℕ) (asked : List Asked) (a : Result Tree Refusal) → UnlessRefused s a asked reply s' (PutsAsked mode s save host asked reply s')
      → AnswersCalls (Some files) asked left → Leaves (λ files'. Puts mode s files save (get files host) a reply s' files')
  put save host asked (Err refusal) x y = (files, answered_none files left asked x.1 y, (x.0, refl))
  put save host asked (Ok t) (inl x) y =
      let answered = subst (λ (l : List Asked). AnswersCalls (Some files) l left) x.0 y in
      let none = has_none (get files host) (answered.1.0 files refl) in
      (files, answered.2 ∙ answered.1.1, subst (λ (o : Option (List ℕ)). PutsFile mode s files save o reply s' files) (sym none) (x.1, refl))
  put save host asked (Ok t) (inr x) y =
      let answered = subst (λ (l : List Asked). AnswersCalls (Some files) l left) x.2 y in
      let some = has_some (get files host) x.0 (answered.1.0 files refl) in
      let more = put_length save host some.0 x.0 x.1 some.1 some.2 x.3 (subst (λ (o : Option Files). AnswersCalls o x.1 left) answered.1.1 answered.2) in
      (more.0, more.1, subst (λ (o : Option (List ℕ)). PutsFile mode s files save o reply s' more.0) (sym some.1) more.2)

  -- A line that was done is a step with the files.
  pub line_told : (asked : List Asked) (r : Result HostLine Refusal) → AskedTakes mode s asked r reply s' → AnswersCalls (Some files) asked left
      → Leaves (λ files'. HostTakes mode s files r reply s' files')
  line_told asked (Err refusal) x y = (files, answered_none files left asked x.1 y, (x.0, refl))
  line_told asked (Ok (HostLine.Put host path load exec)) x y = put (Command.Save path load exec) host asked (answer_in mode s (Command.Save path load exec [])) x y
  line_told asked (Ok (HostLine.Get path host)) x y = got path host asked (answer_in mode s (Command.Load path)) x y
  line_told asked (Ok (HostLine.Other command)) x y = (files, answered_none files left asked x.1 y, (x.0, refl))

-- ---- lines in turn

pub steps_told : (read : Reading) (May : List ℕ → Type 0) (mode : Mode) (s s' : State) (files : Files) (left : Option Files) (lines replies : List (List ℕ)) (asks : List (List Asked))
    → AskedSteps read May mode s lines replies asks s' → AnswersCalls (Some files) (all_asked asks) left
    → (files' : Files) × (left ≡ Some files') × HostSteps read May mode s files lines replies s' files'
steps_told read May mode s s' files left [] [] [] x y = (files, y, (x, refl))
steps_told read May mode s s' files left [] [] (asked ∷ asks) x y = absurd x
steps_told read May mode s s' files left [] (reply ∷ replies) [] x y = absurd x
steps_told read May mode s s' files left [] (reply ∷ replies) (asked ∷ asks) x y = absurd x
steps_told read May mode s s' files left (line ∷ lines) [] [] x y = absurd x
steps_told read May mode s s' files left (line ∷ lines) [] (asked ∷ asks) x y = absurd x
steps_told read May mode s s' files left (line ∷ lines) (reply ∷ replies) [] x y = absurd x
steps_told read May mode s s' files left (line ∷ lines) (reply ∷ replies) (asked ∷ asks) x y =
    let cut = answered_parts asked (all_asked asks) (Some files) left y in
    let one = line_told mode s x.0 files cut.0 reply asked (read line) x.2 cut.1 in
    let rest = steps_told read May mode x.0 s' one.0 left lines replies asks x.3 (subst (λ (o : Option Files). AnswersCalls o (all_asked asks) left) one.1 cut.2) in
    (rest.0, rest.1, (x.0, one.0, x.1, one.2, rest.2))

pub asked_law : AskedLaw
asked_law read mode s s' files left lines replies asks x y = steps_told read (λ between. Unit {0}) mode s s' files left lines replies asks x y
