-- Steps with the files of a host answer as two maps do.
use Rattle.std.proofs.Common.{◌≡◌, ℕ, Bool, true, false, List, [], ◌∷◌, length, refl, ap, subst, ◌∙◌, Option, Some, None}
use Rattle.std.specs.Prelude.{is_some, nat_lt, Result, Ok, Err}
use Rattle.std.specs.FinMap.{get}
use Rattle.fc_host.specs.Files.{Files}
use Rattle.fc_names.specs.declared.refusal.Refusal.{Refusal}
use Rattle.fc_names.specs.declared.refusal.Refusal.TheVariants as refusals
use Rattle.fc_model.specs.Tree.{Tree}
use Rattle.fc_model.specs.Command.{Command}
use Rattle.fc_image.specs.effects.Effect.{State, tree_in}
use Rattle.fc_script.specs.HostLines.{HostLine}
use Rattle.fc_runs.specs.Headline.{IsReply}
use Rattle.fc_runs.specs.HostHeadline.{HostHeadlineLaw, Maps, MapsAnswer, command_maps, get_maps, maps_after, put_bytes_maps, put_maps, refused_maps}
use Rattle.fc_runs.specs.HostRun.{Gets, HostRefuses, HostStep, HostSteps, HostTakes, Puts, PutsBytes, Reading, answer_in, file_in, longest_file}
use Rattle.fc_runs.specs.Run.{Mode, Takes}
use Rattle.fc_runs.proofs.HeadlineLemmas.{Opens, same_opens, taken_step}

-- The maps after a line are those of the step: the reply, the tree, the files; and the image opens.
abbrev IsMapsStep : Mode → Maps → List ℕ → State → Files → Type 0
IsMapsStep mode maps reply s' files' = IsReply maps.2 reply × (tree_in s' ≡ maps.0) × (files' ≡ maps.1) × Opens mode s'

module _ (mode : Mode) (s s' : State) (opens : Opens mode s) (files files' : Files) (reply : List ℕ) where
  refused : (refusal : Refusal) → HostRefuses s files refusal reply s' files' → IsMapsStep mode (refused_maps (tree_in s) files refusal) reply s' files'
  refused refusal x = (x.0.0, ap tree_in x.0.1, x.1, same_opens mode s s' opens x.0.1)

  done : (c : Command) → Takes mode s (Ok c) reply s' × (files' ≡ files) → IsMapsStep mode (command_maps mode (tree_in s) files s.view c) reply s' files'
  done c x = let step = taken_step mode s s' reply (Ok c) opens x.0 in (step.0, step.1, x.1, step.2)

  got : (host bytes : List ℕ) (there : Bool) (a : Result Tree Refusal) → Gets s files host bytes there a reply s' files'
      → IsMapsStep mode (get_maps (tree_in s) files host bytes there a) reply s' files'
  got host bytes there (Err refusal) x = refused refusal x
  got host bytes true (Ok t) x = refused refusals.HostExists x
  got host bytes false (Ok t) x = (x.0, ap tree_in x.1, x.2, same_opens mode s s' opens x.1)

  put_of : (save : Command) (long : Bool) → PutsBytes long mode s files save reply s' files'
      → IsMapsStep mode (put_bytes_maps mode (tree_in s) files s.view save long) reply s' files'
  put_of save true x = refused refusals.HostTooLong x
  put_of save false x = done save x

  put : (save : List ℕ → Command) (file : Option (List ℕ)) (a : Result Tree Refusal) → Puts mode s files save file a reply s' files'
      → IsMapsStep mode (put_maps mode (tree_in s) files s.view save file a) reply s' files'
  put save file (Err refusal) x = refused refusal x
  put save None (Ok t) x = refused refusals.NoHostFile x
  put save (Some bytes) (Ok t) x = put_of (save bytes) (nat_lt longest_file (length bytes)) x

  step_of : (r : Result HostLine Refusal) → HostTakes mode s files r reply s' files' → IsMapsStep mode (maps_after mode (tree_in s) files s.view r) reply s' files'
  step_of (Err refusal) x = refused refusal x
  step_of (Ok (HostLine.Get path host)) x = got host (file_in s path) (is_some (get files host)) (answer_in mode s (Command.Load path)) x
  step_of (Ok (HostLine.Put host path load exec)) x = put (Command.Save path load exec) (get files host) (answer_in mode s (Command.Save path load exec [])) x
  step_of (Ok (HostLine.Other c)) x = done c x

-- ---- all lines

maps_answer : (read : Reading) (mode : Mode) (s s' : State) (t : Tree) (files files' : Files) (lines replies : List (List ℕ)) → Opens mode s → tree_in s ≡ t
    → HostSteps read (λ between. Unit {0}) mode s files lines replies s' files' → MapsAnswer read mode t files s lines replies (tree_in s') files' s'
maps_answer read mode s s' t files files' [] [] o e x = (record { opens = o; tree = e }, ap tree_in x.0 ∙ e, x.1, x.0)
maps_answer read mode s s' t files files' [] (reply ∷ replies) o e x = absurd x
maps_answer read mode s s' t files files' (line ∷ lines) [] o e x = absurd x
maps_answer read mode s s' t files files' (line ∷ lines) (reply ∷ replies) o e x =
    let after : Tree → Maps = λ (u : Tree). maps_after mode u files s.view (read line) in
    let step : IsMapsStep mode (after t) reply x.0 x.1 = subst (λ (u : Tree). IsMapsStep mode (after u) reply x.0 x.1) e (step_of mode s x.0 o files x.1 reply (read line) x.3) in (
      record { opens = o; tree = e },
      step.0,
      (
        x.0,
        subst (λ (fs : Files). HostStep read mode s files line reply x.0 fs) step.2 x.3,
        maps_answer read mode x.0 s' (after t).0 (after t).1 files' lines replies step.3 step.1
            (subst (λ (fs : Files). HostSteps read (λ between. Unit {0}) mode x.0 fs lines replies s' files') step.2 x.4),
      ),
    )

pub host_headline_law : HostHeadlineLaw
host_headline_law = λ read mode s s' files files' lines replies o x. maps_answer read mode s s' (tree_in s) files files' lines replies o refl x
