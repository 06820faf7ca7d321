-- Lines in turn, as steps.
use Rattle.std.proofs.Common.{◌≡◌, ℕ, suc, Bool, true, false, List, [], ◌∷◌, ◌++◌, length, refl, sym, ap, subst, ◌∙◌}
use Rattle.fc_image.specs.Stays.{IsNewLayout}
use Rattle.fc_image.specs.effects.Effect.{State, tree_in}
use Rattle.fc_script.specs.Lines.{command_of}
use Rattle.fc_runs.specs.Run.{Mode, Step, Steps, all_keep_tree, each_line, is_error, keeps_tree_or}
use Rattle.fc_runs.specs.Stops.{all_leave_image, leaves_image_or}
use Rattle.fc_runs.proofs.RepliesLemmas.{taken_kept}
use Rattle.fc_runs.proofs.StepLemmas.{step_keeps, step_leaves}
use Rattle.std.proofs.lemmas.Bool.{and_parts as both_true, and_from as true_both}

-- ---- tests

-- what lines are tested for
abbrev pub keeps : Bool → List ℕ → Bool
keeps refused line = keeps_tree_or refused (command_of line)

abbrev pub leaves : Bool → List ℕ → Bool
leaves refused line = leaves_image_or refused (command_of line)

-- ---- steps

pub steps_weaker : (May Might : List ℕ → Type 0) → ((image : List ℕ) → May image → Might image) → (mode : Mode) (s s' : State) (lines replies : List (List ℕ))
    → Steps May mode s lines replies s' → Steps Might mode s lines replies s'
steps_weaker May Might less mode s s' [] [] x = x
steps_weaker May Might less mode s s' [] (reply ∷ replies) x = absurd x
steps_weaker May Might less mode s s' (line ∷ lines) [] x = absurd x
steps_weaker May Might less mode s s' (line ∷ lines) (reply ∷ replies) x =
    (x.0, less x.0.image x.1, x.2, steps_weaker May Might less mode x.0 s' lines replies x.3)

module _ (May : List ℕ → Type 0) (mode : Mode) where
  -- one line more
  pub steps_more : (s mid s' : State) (lines replies : List (List ℕ)) (line reply : List ℕ) → Steps May mode s lines replies mid → May s'.image → Step mode mid line reply s'
      → Steps May mode s (lines ++ line ∷ []) (replies ++ reply ∷ []) s'
  steps_more s mid s' [] [] line reply x may step = (s', may, subst (λ (x : State). Step mode x line reply s') x step, refl)
  steps_more s mid s' [] (r ∷ replies) line reply x may step = absurd x
  steps_more s mid s' (l ∷ lines) [] line reply x may step = absurd x
  steps_more s mid s' (l ∷ lines) (r ∷ replies) line reply x may step =
      (x.0, x.1, x.2, steps_more x.0 mid s' lines replies line reply x.3 may step)

  -- each line has one reply
  pub steps_long : (s s' : State) (lines replies : List (List ℕ)) → Steps May mode s lines replies s' → length replies ≡ length lines
  steps_long s s' [] [] x = refl
  steps_long s s' [] (reply ∷ replies) x = absurd x
  steps_long s s' (line ∷ lines) [] x = absurd x
  steps_long s s' (line ∷ lines) (reply ∷ replies) x = ap suc (steps_long x.0 s' lines replies x.3)

  -- a new map stays one
  pub steps_new : (s s' : State) (lines replies : List (List ℕ)) → Steps May mode s lines replies s' → IsNewLayout s.view.layout → IsNewLayout s'.view.layout
  steps_new s s' [] [] x new = subst (λ (x : State). IsNewLayout x.view.layout) (sym x) new
  steps_new s s' [] (reply ∷ replies) x new = absurd x
  steps_new s s' (line ∷ lines) [] x new = absurd x
  steps_new s s' (line ∷ lines) (reply ∷ replies) x new =
      steps_new x.0 s' lines replies x.3 (taken_kept mode s x.0 reply (command_of line) new x.2).0

  -- Lines that keep the tree leave it.
  pub steps_keep : (s s' : State) (lines replies : List (List ℕ)) → Steps May mode s lines replies s' → all_keep_tree lines replies ≡ true → tree_in s' ≡ tree_in s
  steps_keep s s' [] [] x keep = ap tree_in x
  steps_keep s s' [] (reply ∷ replies) x keep = absurd x
  steps_keep s s' (line ∷ lines) [] x keep = absurd x
  steps_keep s s' (line ∷ lines) (reply ∷ replies) x keep =
      let both = both_true (keeps_tree_or (is_error reply) (command_of line)) (all_keep_tree lines replies) keep in
      steps_keep x.0 s' lines replies x.3 both.1 ∙ step_keeps mode s x.0 (command_of line) reply x.2 both.0

  -- Lines that are refused or read leave everything.
  pub steps_leave : (s s' : State) (lines replies : List (List ℕ)) → Steps May mode s lines replies s' → all_leave_image lines replies ≡ true → s' ≡ s
  steps_leave s s' [] [] x leave = x
  steps_leave s s' [] (reply ∷ replies) x leave = absurd x
  steps_leave s s' (line ∷ lines) [] x leave = absurd x
  steps_leave s s' (line ∷ lines) (reply ∷ replies) x leave =
      let both = both_true (leaves_image_or (is_error reply) (command_of line)) (all_leave_image lines replies) leave in
      steps_leave x.0 s' lines replies x.3 both.1 ∙ step_leaves mode s x.0 (command_of line) reply x.2 both.0

  module _ (test : Bool → List ℕ → Bool) where
    -- What each line passes, those that were done pass,
    pub each_done : (s s' : State) (lines replies left : List (List ℕ)) → Steps May mode s lines replies s' → each_line test (lines ++ left) replies ≡ true → each_line test lines replies ≡ true
    each_done s s' [] [] left x keep = refl
    each_done s s' [] (reply ∷ replies) left x keep = absurd x
    each_done s s' (line ∷ lines) [] left x keep = absurd x
    each_done s s' (line ∷ lines) (reply ∷ replies) left x keep =
        let both = both_true (test (is_error reply) line) (each_line test (lines ++ left) replies) keep in
        true_both (test (is_error reply) line) (each_line test lines replies) both.0 (each_done x.0 s' lines replies left x.3 both.1)

    -- and so does the next line,
    pub each_next : (s s' : State) (lines replies : List (List ℕ)) (line : List ℕ) (left : List (List ℕ)) → Steps May mode s lines replies s'
        → each_line test (lines ++ line ∷ left) replies ≡ true → test false line ≡ true
    each_next s s' [] [] line left x keep = keep
    each_next s s' [] (r ∷ replies) line left x keep = absurd x
    each_next s s' (l ∷ lines) [] line left x keep = absurd x
    each_next s s' (l ∷ lines) (r ∷ replies) line left x keep =
        each_next x.0 s' lines replies line left x.3 (both_true (test (is_error r) l) (each_line test (lines ++ line ∷ left) replies) keep).1

    -- or the last one that was done.
    pub each_last : (s s' : State) (lines replies : List (List ℕ)) (line reply : List ℕ) → Steps May mode s lines replies s'
        → each_line test (lines ++ line ∷ []) (replies ++ reply ∷ []) ≡ true → test (is_error reply) line ≡ true
    each_last s s' [] [] line reply x keep = (both_true (test (is_error reply) line) true keep).0
    each_last s s' [] (r ∷ replies) line reply x keep = absurd x
    each_last s s' (l ∷ lines) [] line reply x keep = absurd x
    each_last s s' (l ∷ lines) (r ∷ replies) line reply x keep =
        each_last x.0 s' lines replies line reply x.3 (both_true (test (is_error r) l) (each_line test (lines ++ line ∷ []) (replies ++ reply ∷ [])) keep).1

    pub each_front : (s s' : State) (lines replies : List (List ℕ)) (line reply : List ℕ) → Steps May mode s lines replies s'
        → each_line test (lines ++ line ∷ []) (replies ++ reply ∷ []) ≡ true → each_line test lines replies ≡ true
    each_front s s' [] [] line reply x keep = refl
    each_front s s' [] (r ∷ replies) line reply x keep = absurd x
    each_front s s' (l ∷ lines) [] line reply x keep = absurd x
    each_front s s' (l ∷ lines) (r ∷ replies) line reply x keep =
        let both = both_true (test (is_error r) l) (each_line test (lines ++ line ∷ []) (replies ++ reply ∷ [])) keep in
        true_both (test (is_error r) l) (each_line test lines replies) both.0 (each_front x.0 s' lines replies line reply x.3 both.1)
