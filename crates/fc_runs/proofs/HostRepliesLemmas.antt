-- Replies settle the tree and the files of the host.
use Rattle.std.proofs.Common.{◌≡◌, ℕ, Bool, true, false, List, [], ◌∷◌, refl, sym, ap, ap₂, subst, ◌∙◌, Option, Some, None}
use Rattle.std.specs.Prelude.{Result, Ok, Err, length, nat_lt, is_some}
use Rattle.std.specs.FinMap.{get}
use Rattle.fc_host.specs.Files.{Files}
use Rattle.fc_names.specs.declared.name.NameForm.{NameForm}
use Rattle.fc_names.specs.declared.refusal.Refusal.{Refusal}
use Rattle.fc_names.specs.declared.refusal.Refusal.TheVariants as refusals
use Rattle.fc_model.specs.Tree.{Tree, bytes_of_node, node_at}
use Rattle.fc_model.specs.Command.{Command}
use Rattle.fc_model.specs.Answer.{answer}
use Rattle.fc_image.specs.Layout.{dir_form}
use Rattle.fc_image.specs.Stays.{IsNewLayout}
use Rattle.fc_image.specs.effects.Effect.{State, tree_in}
use Rattle.fc_script.specs.HostLines.{HostLine}
use Rattle.fc_runs.specs.Run.{Mode}
use Rattle.fc_runs.specs.HostRun.{Reading, HostRefuses, PutsBytes, PutsFile, Puts, Gets, HostTakes, HostSteps, answer_in, file_in, longest_file}
use Rattle.fc_runs.specs.RepliesLaw.{RepliesLaw}
use Rattle.fc_runs.proofs.RepliesLemmas.{Kept, same_kept, taken_kept, taken_same, steps_same}

-- ---- the form of names stays

bytes_kept : (mode : Mode) (s s' : State) (files files' : Files) (save : Command) (long : Bool) (reply : List ℕ) → IsNewLayout s.view.layout
    → PutsBytes long mode s files save reply s' files' → Kept s.view.layout s'.view.layout
bytes_kept mode s s' files files' save true reply h x = same_kept s s' h x.0.1
bytes_kept mode s s' files files' save false reply h x = taken_kept mode s s' reply (Ok save) h x.0

file_kept : (mode : Mode) (s s' : State) (files files' : Files) (save : List ℕ → Command) (file : Option (List ℕ)) (reply : List ℕ) → IsNewLayout s.view.layout
    → PutsFile mode s files save file reply s' files' → Kept s.view.layout s'.view.layout
file_kept mode s s' files files' save None reply h x = same_kept s s' h x.0.1
file_kept mode s s' files files' save (Some bytes) reply h x = bytes_kept mode s s' files files' (save bytes) (nat_lt longest_file (length bytes)) reply h x

put_kept : (mode : Mode) (s s' : State) (files files' : Files) (save : List ℕ → Command) (file : Option (List ℕ)) (a : Result Tree Refusal) (reply : List ℕ)
    → IsNewLayout s.view.layout → Puts mode s files save file a reply s' files' → Kept s.view.layout s'.view.layout
put_kept mode s s' files files' save file (Err refusal) reply h x = same_kept s s' h x.0.1
put_kept mode s s' files files' save file (Ok t) reply h x = file_kept mode s s' files files' save file reply h x

get_kept : (s s' : State) (files files' : Files) (host bytes : List ℕ) (there : Bool) (a : Result Tree Refusal) (reply : List ℕ)
    → IsNewLayout s.view.layout → Gets s files host bytes there a reply s' files' → Kept s.view.layout s'.view.layout
get_kept s s' files files' host bytes there (Err refusal) reply h x = same_kept s s' h x.0.1
get_kept s s' files files' host bytes true (Ok t) reply h x = same_kept s s' h x.0.1
get_kept s s' files files' host bytes false (Ok t) reply h x = same_kept s s' h x.1

host_kept : (mode : Mode) (s s' : State) (files files' : Files) (reply : List ℕ) (r : Result HostLine Refusal) → IsNewLayout s.view.layout
    → HostTakes mode s files r reply s' files' → Kept s.view.layout s'.view.layout
host_kept mode s s' files files' reply (Err refusal) h x = same_kept s s' h x.0.1
host_kept mode s s' files files' reply (Ok (HostLine.Put host path load exec)) h x =
    put_kept mode s s' files files' (Command.Save path load exec) (get files host) (answer_in mode s (Command.Save path load exec [])) reply h x
host_kept mode s s' files files' reply (Ok (HostLine.Get path host)) h x =
    get_kept s s' files files' host (file_in s path) (is_some (get files host)) (answer_in mode s (Command.Load path)) reply h x
host_kept mode s s' files files' reply (Ok (HostLine.Other command)) h x = taken_kept mode s s' reply (Ok command) h x.0

-- ---- one line

-- the same tree and the same files
abbrev Same : State → State → Files → Files → Type 0
Same x y f g = (tree_in x ≡ tree_in y) × (f ≡ g)

refused_same : (x y x' y' : State) (files f g : Files) (refusal : Refusal) (reply : List ℕ) → tree_in x ≡ tree_in y
    → HostRefuses x files refusal reply x' f → HostRefuses y files refusal reply y' g → Same x' y' f g
refused_same x y x' y' files f g refusal reply same a b = (ap tree_in a.0.1 ∙ same ∙ sym (ap tree_in b.0.1), a.1 ∙ sym b.1)

bytes_same : (mode : Mode) (x y x' y' : State) (files f g : Files) (save : Command) (long : Bool) (reply : List ℕ) → tree_in x ≡ tree_in y
    → dir_form x.view.layout ≡ dir_form y.view.layout → PutsBytes long mode x files save reply x' f → PutsBytes long mode y files save reply y' g → Same x' y' f g
bytes_same mode x y x' y' files f g save true reply same form a b = refused_same x y x' y' files f g refusals.HostTooLong reply same a b
bytes_same mode x y x' y' files f g save false reply same form a b = (taken_same mode x y x' y' reply (Ok save) same form a.0 b.0, a.1 ∙ sym b.1)

file_same : (mode : Mode) (x y x' y' : State) (files f g : Files) (save : List ℕ → Command) (file : Option (List ℕ)) (reply : List ℕ) → tree_in x ≡ tree_in y
    → dir_form x.view.layout ≡ dir_form y.view.layout → PutsFile mode x files save file reply x' f → PutsFile mode y files save file reply y' g → Same x' y' f g
file_same mode x y x' y' files f g save None reply same form a b = refused_same x y x' y' files f g refusals.NoHostFile reply same a b
file_same mode x y x' y' files f g save (Some bytes) reply same form a b =
    bytes_same mode x y x' y' files f g (save bytes) (nat_lt longest_file (length bytes)) reply same form a b

put_same : (mode : Mode) (x y x' y' : State) (files f g : Files) (save : List ℕ → Command) (file : Option (List ℕ)) (a : Result Tree Refusal) (reply : List ℕ)
    → tree_in x ≡ tree_in y → dir_form x.view.layout ≡ dir_form y.view.layout → Puts mode x files save file a reply x' f → Puts mode y files save file a reply y' g
    → Same x' y' f g
put_same mode x y x' y' files f g save file (Err refusal) reply same form a b = refused_same x y x' y' files f g refusal reply same a b
put_same mode x y x' y' files f g save file (Ok t) reply same form a b = file_same mode x y x' y' files f g save file reply same form a b

get_same : (x y x' y' : State) (files f g : Files) (host bytes : List ℕ) (there : Bool) (a : Result Tree Refusal) (reply : List ℕ) → tree_in x ≡ tree_in y
    → Gets x files host bytes there a reply x' f → Gets y files host bytes there a reply y' g → Same x' y' f g
get_same x y x' y' files f g host bytes there (Err refusal) reply same a b = refused_same x y x' y' files f g refusal reply same a b
get_same x y x' y' files f g host bytes true (Ok t) reply same a b = refused_same x y x' y' files f g refusals.HostExists reply same a b
get_same x y x' y' files f g host bytes false (Ok t) reply same a b = (ap tree_in a.1 ∙ same ∙ sym (ap tree_in b.1), a.2 ∙ sym b.2)

answers_same : (mode : Mode) (x y : State) (c : Command) → tree_in x ≡ tree_in y → dir_form x.view.layout ≡ dir_form y.view.layout
    → answer_in mode y c ≡ answer_in mode x c
answers_same mode x y c same form = ap₂ (λ (t : Tree) (f : NameForm). answer t f mode.read_only c) (sym same) (sym form)

host_same : (mode : Mode) (x y x' y' : State) (files f g : Files) (reply : List ℕ) (r : Result HostLine Refusal) → tree_in x ≡ tree_in y
    → dir_form x.view.layout ≡ dir_form y.view.layout → HostTakes mode x files r reply x' f → HostTakes mode y files r reply y' g → Same x' y' f g
host_same mode x y x' y' files f g reply (Err refusal) same form a b = refused_same x y x' y' files f g refusal reply same a b
host_same mode x y x' y' files f g reply (Ok (HostLine.Put host path load exec)) same form a b =
    put_same mode x y x' y' files f g (Command.Save path load exec) (get files host) (answer_in mode x (Command.Save path load exec [])) reply same form a
    (subst (λ (r : Result Tree Refusal). Puts mode y files (Command.Save path load exec) (get files host) r reply y' g)
    (answers_same mode x y (Command.Save path load exec []) same form) b)
host_same mode x y x' y' files f g reply (Ok (HostLine.Get path host)) same form a b =
    (let bytes : file_in y path ≡ file_in x path = ap (λ (t : Tree). bytes_of_node (node_at t path)) (sym same) in
    let there = is_some (get files host) in
    let moved = subst (λ (r : Result Tree Refusal). Gets y files host (file_in y path) there r reply y' g) (answers_same mode x y (Command.Load path) same form) b in
    get_same x y x' y' files f g host (file_in x path) there (answer_in mode x (Command.Load path)) reply same a
    (subst (λ (bs : List ℕ). Gets y files host bs there (answer_in mode x (Command.Load path)) reply y' g) bytes moved))
host_same mode x y x' y' files f g reply (Ok (HostLine.Other command)) same form a b =
    (taken_same mode x y x' y' reply (Ok command) same form a.0 b.0, a.1 ∙ sym b.1)

-- ---- lines in turn

host_steps_same : (read : Reading) (mode : Mode) (x y a b : State) (files f g : Files) (lines replies : List (List ℕ)) → IsNewLayout x.view.layout → IsNewLayout y.view.layout
    → tree_in x ≡ tree_in y → dir_form x.view.layout ≡ dir_form y.view.layout
    → HostSteps read (λ between. Unit {0}) mode x files lines replies a f → HostSteps read (λ between. Unit {0}) mode y files lines replies b g → Same a b f g
host_steps_same read mode x y a b files f g [] [] nx ny same form p q = (ap tree_in p.0 ∙ same ∙ sym (ap tree_in q.0), p.1 ∙ sym q.1)
host_steps_same read mode x y a b files f g [] (reply ∷ replies) nx ny same form p q = absurd p
host_steps_same read mode x y a b files f g (line ∷ lines) [] nx ny same form p q = absurd p
host_steps_same read mode x y a b files f g (line ∷ lines) (reply ∷ replies) nx ny same form p q =
    (let kx = host_kept mode x p.0 files p.1 reply (read line) nx p.3 in
    let ky = host_kept mode y q.0 files q.1 reply (read line) ny q.3 in
    let now = host_same mode x y p.0 q.0 files p.1 q.1 reply (read line) same form p.3 q.3 in
    host_steps_same read mode p.0 q.0 a b p.1 f g lines replies kx.0 ky.0 now.0 (kx.1 ∙ form ∙ sym ky.1) p.4
    (subst (λ (fs : Files). HostSteps read (λ between. Unit {0}) mode q.0 fs lines replies b g) (sym now.1) q.4))

pub replies_law : RepliesLaw
replies_law = record {
  plain = λ mode s a b lines replies new p q. steps_same mode s s a b lines replies new new refl refl p q;
  host = λ read mode s a b files f g lines replies new p q. host_steps_same read mode s s a b files f g lines replies new new refl refl p q;
}
