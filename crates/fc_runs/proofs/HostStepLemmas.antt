-- What lines that may move files leave, and lines in turn.
use Rattle.std.proofs.Common.{◌≡◌, inl, inr, ℕ, suc, Bool, true, false, ◌||◌, List, [], ◌∷◌, ◌++◌, length, Result, Ok, Err, refl, sym, ap, subst, ◌∙◌, arith}
use Rattle.std.proofs.lemmas.Grind.{flat_map-append}
use Rattle.std.specs.Prelude.{replicate}
use Rattle.std.proofs.lemmas.List.{append-nil, length-replicate}
use Rattle.fc_host.specs.Answers.{all_asked, joined}
use Rattle.fc_host.specs.Asked.{Asked}
use Rattle.fc_names.specs.declared.refusal.Refusal.{Refusal}
use Rattle.fc_model.specs.Tree.{Tree}
use Rattle.fc_model.specs.Command.{Command}
use Rattle.fc_image.specs.Stays.{IsNewLayout}
use Rattle.fc_image.specs.effects.Effect.{State, tree_in}
use Rattle.fc_script.specs.HostLines.{HostLine}
use Rattle.fc_runs.specs.AskedRun.{AskedSteps, AskedTakes, GetsAsked, PutsAsked, PutsLength, UnlessRefused}
use Rattle.fc_runs.specs.HostRun.{Reading, all_host_keep_tree, answer_in, file_in, host_keeps_tree}
use Rattle.fc_runs.specs.ReadLaw.{is_reading}
use Rattle.fc_runs.specs.Run.{Mode, Takes, each_line, is_error}
use Rattle.fc_runs.specs.Stops.{all_host_leave_image, host_leaves_image}
use Rattle.fc_runs.proofs.RepliesLemmas.{taken_kept}
use Rattle.fc_runs.proofs.StepLemmas.{step_keeps, step_leaves}
use Rattle.std.proofs.lemmas.Bool.{and_parts as both_true, and_from as true_both}

-- ---- a `get` leaves the image

got_same : (s s' : State) (a : Result Tree Refusal) (host bytes : List ℕ) (asked : List Asked) (reply : List ℕ) → UnlessRefused s a asked reply s' (GetsAsked s host bytes asked reply s') → s' ≡ s
got_same s s' (Err refusal) host bytes asked reply x = x.0.1
got_same s s' (Ok t) host bytes asked reply (inl x) = x.1.1
got_same s s' (Ok t) host bytes asked reply (inr x) = x.4

-- ---- a `put` leaves what a `save` leaves

-- one that is refused leaves everything
put_refused : (mode : Mode) (s s' : State) (a : Result Tree Refusal) (save : List ℕ → Command) (host : List ℕ) (asked : List Asked) (reply : List ℕ) → is_error reply ≡ true
    → UnlessRefused s a asked reply s' (PutsAsked mode s save host asked reply s') → s' ≡ s
put_refused mode s s' (Err refusal) save host asked reply is x = x.0.1
put_refused mode s s' (Ok t) save host asked reply is (inl x) = x.1.1
put_refused mode s s' (Ok t) save host asked reply is (inr x) = by x.3
  where
    leaves : (bytes : List ℕ) → Takes mode s (Ok (save bytes)) reply s' → s' ≡ s
    leaves bytes y = step_leaves mode s s' (Ok (save bytes)) reply y (ap (λ (b : Bool). b || is_reading (save bytes)) is)

    by : PutsLength mode s save host x.0 x.1 reply s' → s' ≡ s
    by (inl y) = y.2.1
    by (inr (test, inl y)) = leaves (joined y.0) y.3
    by (inr (test, inr y)) = leaves (replicate x.0 0) (y.1 (replicate x.0 0) (length-replicate x.0 0))

put_new : (mode : Mode) (s s' : State) (a : Result Tree Refusal) (save : List ℕ → Command) (host : List ℕ) (asked : List Asked) (reply : List ℕ) → IsNewLayout s.view.layout
    → UnlessRefused s a asked reply s' (PutsAsked mode s save host asked reply s') → IsNewLayout s'.view.layout
put_new mode s s' a save host asked reply new x = by a x
  where
    same : s' ≡ s → IsNewLayout s'.view.layout
    same is = subst (λ (y : State). IsNewLayout y.view.layout) (sym is) new

    taken : (bytes : List ℕ) → Takes mode s (Ok (save bytes)) reply s' → IsNewLayout s'.view.layout
    taken bytes y = (taken_kept mode s s' reply (Ok (save bytes)) new y).0

    long : (n : ℕ) (more : List Asked) → PutsLength mode s save host n more reply s' → IsNewLayout s'.view.layout
    long n more (inl y) = same y.2.1
    long n more (inr (test, inl y)) = taken (joined y.0) y.3
    long n more (inr (test, inr y)) = taken (replicate n 0) (y.1 (replicate n 0) (length-replicate n 0))

    by : (a : Result Tree Refusal) → UnlessRefused s a asked reply s' (PutsAsked mode s save host asked reply s') → IsNewLayout s'.view.layout
    by (Err refusal) x = same x.0.1
    by (Ok t) (inl x) = same x.1.1
    by (Ok t) (inr x) = long x.0 x.1 x.3

-- ---- one line

asked_new : (mode : Mode) (s s' : State) (asked : List Asked) (r : Result HostLine Refusal) (reply : List ℕ) → IsNewLayout s.view.layout → AskedTakes mode s asked r reply s' → IsNewLayout s'.view.layout
asked_new mode s s' asked (Err refusal) reply new x = subst (λ (y : State). IsNewLayout y.view.layout) (sym x.0.1) new
asked_new mode s s' asked (Ok (HostLine.Put host path load exec)) reply new x =
    put_new mode s s' (answer_in mode s (Command.Save path load exec [])) (Command.Save path load exec) host asked reply new x
asked_new mode s s' asked (Ok (HostLine.Get path host)) reply new x =
    subst (λ (y : State). IsNewLayout y.view.layout) (sym (got_same s s' (answer_in mode s (Command.Load path)) host (file_in s path) asked reply x)) new
asked_new mode s s' asked (Ok (HostLine.Other command)) reply new x = (taken_kept mode s s' reply (Ok command) new x.0).0

-- A line that keeps the tree leaves the tree.
asked_keeps : (mode : Mode) (s s' : State) (asked : List Asked) (r : Result HostLine Refusal) (reply : List ℕ) → AskedTakes mode s asked r reply s' → host_keeps_tree (is_error reply) r ≡ true
    → tree_in s' ≡ tree_in s
asked_keeps mode s s' asked (Err refusal) reply x h = ap tree_in x.0.1
asked_keeps mode s s' asked (Ok (HostLine.Put host path load exec)) reply x h =
    ap tree_in (put_refused mode s s' (answer_in mode s (Command.Save path load exec [])) (Command.Save path load exec) host asked reply h x)
asked_keeps mode s s' asked (Ok (HostLine.Get path host)) reply x h = ap tree_in (got_same s s' (answer_in mode s (Command.Load path)) host (file_in s path) asked reply x)
asked_keeps mode s s' asked (Ok (HostLine.Other command)) reply x h = step_keeps mode s s' (Ok command) reply x.0 h

-- A line that is refused, reads or copies a file to the host leaves everything.
asked_leaves : (mode : Mode) (s s' : State) (asked : List Asked) (r : Result HostLine Refusal) (reply : List ℕ) → AskedTakes mode s asked r reply s' → host_leaves_image (is_error reply) r ≡ true
    → s' ≡ s
asked_leaves mode s s' asked (Err refusal) reply x h = x.0.1
asked_leaves mode s s' asked (Ok (HostLine.Put host path load exec)) reply x h =
    put_refused mode s s' (answer_in mode s (Command.Save path load exec [])) (Command.Save path load exec) host asked reply h x
asked_leaves mode s s' asked (Ok (HostLine.Get path host)) reply x h = got_same s s' (answer_in mode s (Command.Load path)) host (file_in s path) asked reply x
asked_leaves mode s s' asked (Ok (HostLine.Other command)) reply x h = step_leaves mode s s' (Ok command) reply x.0 h

-- ---- lines in turn

pub asks_weaker : (read : Reading) (May Might : List ℕ → Type 0) → ((image : List ℕ) → May image → Might image) → (mode : Mode) (s s' : State) (lines replies : List (List ℕ)) (asks : List (List Asked))
    → AskedSteps read May mode s lines replies asks s' → AskedSteps read Might mode s lines replies asks s'
asks_weaker read May Might less mode s s' [] [] [] x = x
asks_weaker read May Might less mode s s' [] [] (asked ∷ asks) x = absurd x
asks_weaker read May Might less mode s s' [] (reply ∷ replies) [] x = absurd x
asks_weaker read May Might less mode s s' [] (reply ∷ replies) (asked ∷ asks) x = absurd x
asks_weaker read May Might less mode s s' (line ∷ lines) [] [] x = absurd x
asks_weaker read May Might less mode s s' (line ∷ lines) [] (asked ∷ asks) x = absurd x
asks_weaker read May Might less mode s s' (line ∷ lines) (reply ∷ replies) [] x = absurd x
asks_weaker read May Might less mode s s' (line ∷ lines) (reply ∷ replies) (asked ∷ asks) x =
    (x.0, less x.0.image x.1, x.2, asks_weaker read May Might less mode x.0 s' lines replies asks x.3)

module _ (read : Reading) (May : List ℕ → Type 0) (mode : Mode) where
  -- one line more
  pub asks_more : (s mid s' : State) (lines replies : List (List ℕ)) (asks : List (List Asked)) (line reply : List ℕ) (more : List Asked) → AskedSteps read May mode s lines replies asks mid
      → May s'.image → AskedTakes mode mid more (read line) reply s' → AskedSteps read May mode s (lines ++ line ∷ []) (replies ++ reply ∷ []) (asks ++ more ∷ []) s'
  asks_more s mid s' [] [] [] line reply more x may step = (s', may, subst (λ (y : State). AskedTakes mode y more (read line) reply s') x step, refl)
  asks_more s mid s' [] [] (a ∷ asks) line reply more x may step = absurd x
  asks_more s mid s' [] (r ∷ replies) [] line reply more x may step = absurd x
  asks_more s mid s' [] (r ∷ replies) (a ∷ asks) line reply more x may step = absurd x
  asks_more s mid s' (l ∷ lines) [] [] line reply more x may step = absurd x
  asks_more s mid s' (l ∷ lines) [] (a ∷ asks) line reply more x may step = absurd x
  asks_more s mid s' (l ∷ lines) (r ∷ replies) [] line reply more x may step = absurd x
  asks_more s mid s' (l ∷ lines) (r ∷ replies) (a ∷ asks) line reply more x may step =
      (x.0, x.1, x.2, asks_more x.0 mid s' lines replies asks line reply more x.3 may step)

  -- each line has one reply
  pub asks_long : (s s' : State) (lines replies : List (List ℕ)) (asks : List (List Asked)) → AskedSteps read May mode s lines replies asks s' → length replies ≡ length lines
  asks_long s s' [] [] asks x = refl
  asks_long s s' [] (reply ∷ replies) [] x = absurd x
  asks_long s s' [] (reply ∷ replies) (asked ∷ asks) x = absurd x
  asks_long s s' (line ∷ lines) [] [] x = absurd x
  asks_long s s' (line ∷ lines) [] (asked ∷ asks) x = absurd x
  asks_long s s' (line ∷ lines) (reply ∷ replies) [] x = absurd x
  asks_long s s' (line ∷ lines) (reply ∷ replies) (asked ∷ asks) x = ap suc (asks_long x.0 s' lines replies asks x.3)

  -- and for each something was asked, or nothing
  pub asks_many : (s s' : State) (lines replies : List (List ℕ)) (asks : List (List Asked)) → AskedSteps read May mode s lines replies asks s' → length asks ≡ length replies
  asks_many s s' [] [] [] x = refl
  asks_many s s' [] [] (asked ∷ asks) x = absurd x
  asks_many s s' [] (reply ∷ replies) [] x = absurd x
  asks_many s s' [] (reply ∷ replies) (asked ∷ asks) x = absurd x
  asks_many s s' (line ∷ lines) [] [] x = absurd x
  asks_many s s' (line ∷ lines) [] (asked ∷ asks) x = absurd x
  asks_many s s' (line ∷ lines) (reply ∷ replies) [] x = absurd x
  asks_many s s' (line ∷ lines) (reply ∷ replies) (asked ∷ asks) x = ap suc (asks_many x.0 s' lines replies asks x.3)

  -- a new map stays one
  pub asks_new : (s s' : State) (lines replies : List (List ℕ)) (asks : List (List Asked)) → AskedSteps read May mode s lines replies asks s' → IsNewLayout s.view.layout → IsNewLayout s'.view.layout
  asks_new s s' [] [] [] x new = subst (λ (y : State). IsNewLayout y.view.layout) (sym x) new
  asks_new s s' [] [] (asked ∷ asks) x new = absurd x
  asks_new s s' [] (reply ∷ replies) [] x new = absurd x
  asks_new s s' [] (reply ∷ replies) (asked ∷ asks) x new = absurd x
  asks_new s s' (line ∷ lines) [] [] x new = absurd x
  asks_new s s' (line ∷ lines) [] (asked ∷ asks) x new = absurd x
  asks_new s s' (line ∷ lines) (reply ∷ replies) [] x new = absurd x
  asks_new s s' (line ∷ lines) (reply ∷ replies) (asked ∷ asks) x new =
      asks_new x.0 s' lines replies asks x.3 (asked_new mode s x.0 asked (read line) reply new x.2)

  -- Lines that keep the tree leave it.
  pub asks_keep : (s s' : State) (lines replies : List (List ℕ)) (asks : List (List Asked)) → AskedSteps read May mode s lines replies asks s' → all_host_keep_tree read lines replies ≡ true
      → tree_in s' ≡ tree_in s
  asks_keep s s' [] [] [] x keep = ap tree_in x
  asks_keep s s' [] [] (asked ∷ asks) x keep = absurd x
  asks_keep s s' [] (reply ∷ replies) [] x keep = absurd x
  asks_keep s s' [] (reply ∷ replies) (asked ∷ asks) x keep = absurd x
  asks_keep s s' (line ∷ lines) [] [] x keep = absurd x
  asks_keep s s' (line ∷ lines) [] (asked ∷ asks) x keep = absurd x
  asks_keep s s' (line ∷ lines) (reply ∷ replies) [] x keep = absurd x
  asks_keep s s' (line ∷ lines) (reply ∷ replies) (asked ∷ asks) x keep =
      let both = both_true (host_keeps_tree (is_error reply) (read line)) (all_host_keep_tree read lines replies) keep in
      asks_keep x.0 s' lines replies asks x.3 both.1 ∙ asked_keeps mode s x.0 asked (read line) reply x.2 both.0

  -- Lines that are refused, read or copy files to the host leave everything.
  pub asks_leave : (s s' : State) (lines replies : List (List ℕ)) (asks : List (List Asked)) → AskedSteps read May mode s lines replies asks s' → all_host_leave_image read lines replies ≡ true
      → s' ≡ s
  asks_leave s s' [] [] [] x leave = x
  asks_leave s s' [] [] (asked ∷ asks) x leave = absurd x
  asks_leave s s' [] (reply ∷ replies) [] x leave = absurd x
  asks_leave s s' [] (reply ∷ replies) (asked ∷ asks) x leave = absurd x
  asks_leave s s' (line ∷ lines) [] [] x leave = absurd x
  asks_leave s s' (line ∷ lines) [] (asked ∷ asks) x leave = absurd x
  asks_leave s s' (line ∷ lines) (reply ∷ replies) [] x leave = absurd x
  asks_leave s s' (line ∷ lines) (reply ∷ replies) (asked ∷ asks) x leave =
      let both = both_true (host_leaves_image (is_error reply) (read line)) (all_host_leave_image read lines replies) leave in
      asks_leave x.0 s' lines replies asks x.3 both.1 ∙ asked_leaves mode s x.0 asked (read line) reply x.2 both.0

-- ---- tests of lines that were done

module _ (test : Bool → List ℕ → Bool) where
  -- What each line passes, those that were done pass,
  pub each_done : (lines replies left : List (List ℕ)) → length replies ≡ length lines → each_line test (lines ++ left) replies ≡ true → each_line test lines replies ≡ true
  each_done [] [] left long keep = refl
  each_done [] (reply ∷ replies) left long keep = absurd (omega (arith, long))
  each_done (line ∷ lines) [] left long keep = absurd (omega (arith, long))
  each_done (line ∷ lines) (reply ∷ replies) left long keep =
      let both = both_true (test (is_error reply) line) (each_line test (lines ++ left) replies) keep in
      true_both (test (is_error reply) line) (each_line test lines replies) both.0 (each_done lines replies left (omega (arith, long)) both.1)

  -- and so does the next line,
  pub each_next : (lines replies : List (List ℕ)) (line : List ℕ) (left : List (List ℕ)) → length replies ≡ length lines → each_line test (lines ++ line ∷ left) replies ≡ true → test false line ≡ true
  each_next [] [] line left long keep = keep
  each_next [] (reply ∷ replies) line left long keep = absurd (omega (arith, long))
  each_next (l ∷ lines) [] line left long keep = absurd (omega (arith, long))
  each_next (l ∷ lines) (r ∷ replies) line left long keep =
      each_next lines replies line left (omega (arith, long)) (both_true (test (is_error r) l) (each_line test (lines ++ line ∷ left) replies) keep).1

  -- or the last one that was done.
  pub each_last : (lines replies : List (List ℕ)) (line reply : List ℕ) → length replies ≡ length lines → each_line test (lines ++ line ∷ []) (replies ++ reply ∷ []) ≡ true
      → (each_line test lines replies ≡ true) × (test (is_error reply) line ≡ true)
  each_last [] [] line reply long keep = (refl, (both_true (test (is_error reply) line) true keep).0)
  each_last [] (r ∷ replies) line reply long keep = absurd (omega (arith, long))
  each_last (l ∷ lines) [] line reply long keep = absurd (omega (arith, long))
  each_last (l ∷ lines) (r ∷ replies) line reply long keep =
      let both = both_true (test (is_error r) l) (each_line test (lines ++ line ∷ []) (replies ++ reply ∷ [])) keep in
      let rest = each_last lines replies line reply (omega (arith, long)) both.1 in
      (true_both (test (is_error r) l) (each_line test lines replies) both.0 rest.0, rest.1)

-- what was asked, with a line more
pub asked_more : (asks : List (List Asked)) (more : List Asked) → all_asked (asks ++ more ∷ []) ≡ all_asked asks ++ more
asked_more asks more = flat_map-append (λ (a : List Asked). a) asks (more ∷ []) ∙ ap (λ (l : List Asked). all_asked asks ++ l) (append-nil more)
