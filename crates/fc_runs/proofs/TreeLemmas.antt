-- The tree that a step ends with.
use Rattle.std.proofs.Common.{◌≡◌, ℕ, Bool, true, false, List, [], refl, sym, ap, ◌∙◌, Option, Some, None}
use Rattle.std.specs.Prelude.{Result, Ok, Err, length, nat_lt, is_some, if◌then◌else◌}
use Rattle.std.specs.FinMap.{get}
use Rattle.fc_host.specs.Files.{Files}
use Rattle.fc_names.specs.Names.{Path}
use Rattle.fc_names.specs.declared.refusal.Refusal.{Refusal}
use Rattle.fc_names.specs.declared.name.NameForm.{NameForm}
use Rattle.fc_record.specs.declared.Kind.{Kind}
use Rattle.fc_model.specs.Tree.{Tree}
use Rattle.fc_model.specs.Command.{Command}
use Rattle.fc_model.specs.Answer.{answer, answer_or, changed, first_of, reasons}
use Rattle.fc_image.specs.Layout.{dir_form}
use Rattle.fc_image.specs.effects.Effect.{State, tree_in}
use Rattle.fc_script.specs.Lines.{command_of}
use Rattle.fc_script.specs.HostLines.{HostLine}
use Rattle.fc_runs.specs.Run.{Mode, ChangesBy, Effect, Serves, Answers, Takes, shortage, tree_by, tree_after}
use Rattle.fc_runs.specs.HostRun.{PutsBytes, PutsFile, Puts, Gets, HostTakes, answer_in, file_in, tree_after_put, host_tree_after, longest_file}
use Rattle.fc_runs.specs.TreeLaw.{TreeLaw}

answer_or_ok : (t t' : Tree) (refusal : Option Refusal) → answer_or t refusal ≡ Ok t' → t' ≡ t
answer_or_ok t t' None e = cc
answer_or_ok t t' (Some refusal) e = absurd (cc)

pub answer_ok : (t t' : Tree) (form : NameForm) (ro : Bool) (c : Command) → answer t form ro c ≡ Ok t' → t' ≡ changed t c
unfolding answer
answer_ok t t' form ro c e = answer_or_ok (changed t c) t' (first_of (reasons t form ro c)) e

changes_tree : (safe : Bool) (kind : Kind) (s s' : State) (c : Command) (t : Tree) → ChangesBy safe kind s s' c t → tree_in s' ≡ t
changes_tree true kind s s' c t e = e.tree
changes_tree false kind s s' c t e = e.tree

pub effect_tree : (mode : Mode) (s s' : State) (c : Command) (t : Tree) → t ≡ changed (tree_in s) c → Effect mode s c t s' → tree_in s' ≡ t
effect_tree mode s s' (Command.Cat path) t h e = ap tree_in e ∙ sym h
effect_tree mode s s' (Command.Load path) t h e = ap tree_in e ∙ sym h
effect_tree mode s s' (Command.Digest path) t h e = ap tree_in e ∙ sym h
effect_tree mode s s' Command.Free t h e = ap tree_in e ∙ sym h
effect_tree mode s s' Command.Check t h e = ap tree_in e ∙ sym h
effect_tree mode s s' Command.Compact t h e = e.tree ∙ sym h
effect_tree mode s s' Command.Reclaim t h e = e.tree ∙ sym h
effect_tree mode s s' (Command.Save path load exec bytes) t h e = changes_tree mode.safe mode.kind s s' (Command.Save path load exec bytes) t e
effect_tree mode s s' (Command.Create path load exec len) t h e = changes_tree mode.safe mode.kind s s' (Command.Create path load exec len) t e
effect_tree mode s s' (Command.Cdir path) t h e = changes_tree mode.safe mode.kind s s' (Command.Cdir path) t e
effect_tree mode s s' (Command.Delete path) t h e = changes_tree mode.safe mode.kind s s' (Command.Delete path) t e
effect_tree mode s s' (Command.Rename from to) t h e = changes_tree mode.safe mode.kind s s' (Command.Rename from to) t e
effect_tree mode s s' (Command.Set path load exec access) t h e = changes_tree mode.safe mode.kind s s' (Command.Set path load exec access) t e
effect_tree mode s s' (Command.Mark path attrs) t h e = changes_tree mode.safe mode.kind s s' (Command.Mark path attrs) t e

served_tree : (mode : Mode) (s s' : State) (reply : List ℕ) (c : Command) (t : Tree) (line : Option (List ℕ)) → t ≡ changed (tree_in s) c
    → Serves mode s c t line reply s' → tree_in s' ≡ tree_by s (Ok t) line
served_tree mode s s' reply c t (Some line) h x = ap tree_in x.1
served_tree mode s s' reply c t None h x = effect_tree mode s s' c t h x.1

answered_tree : (mode : Mode) (s s' : State) (reply : List ℕ) (c : Command) (a : Result Tree Refusal)
    → answer (tree_in s) (dir_form s.view.layout) mode.read_only c ≡ a → Answers mode s c a reply s'
    → tree_in s' ≡ tree_by s a (shortage mode.safe s.view c)
answered_tree mode s s' reply c (Err refusal) is x = ap tree_in x.1
answered_tree mode s s' reply c (Ok t) is x =
    served_tree mode s s' reply c t (shortage mode.safe s.view c) (answer_ok (tree_in s) t (dir_form s.view.layout) mode.read_only c is) x

taken_tree : (mode : Mode) (s s' : State) (reply : List ℕ) (r : Result Command Refusal) → Takes mode s r reply s' → tree_in s' ≡ tree_after mode s r
taken_tree mode s s' reply (Err refusal) x = ap tree_in x.1
taken_tree mode s s' reply (Ok c) x = answered_tree mode s s' reply c (answer (tree_in s) (dir_form s.view.layout) mode.read_only c) refl x

-- ---- lines with a host

-- The refusals of a `save` don't look at its bytes.
same_answer : (t : Tree) (form : NameForm) (ro : Bool) (path : Path) (load exec : ℕ) (bytes : List ℕ) (refusal : Refusal)
    → answer t form ro (Command.Save path load exec []) ≡ Err refusal → answer t form ro (Command.Save path load exec bytes) ≡ Err refusal
unfolding answer
same_answer t form ro path load exec bytes refusal e =
    refused (first_of (reasons t form ro (Command.Save path load exec []))) e
  where
    refused : (r : Option Refusal) → answer_or (changed t (Command.Save path load exec [])) r ≡ Err refusal → answer_or (changed t (Command.Save path load exec bytes)) r ≡ Err refusal
    refused None e = absurd (cc)
    refused (Some refusal') e = cc

-- what the model refuses leaves the tree
refused_tree : (mode : Mode) (s : State) (c : Command) (refusal : Refusal) → answer_in mode s c ≡ Err refusal → tree_after mode s (Ok c) ≡ tree_in s
refused_tree mode s c refusal e = ap (λ (a : Result Tree Refusal). tree_by s a (shortage mode.safe s.view c)) e

refused_put : (mode : Mode) (s : State) (path : Path) (load exec : ℕ) (file : Option (List ℕ)) (refusal : Refusal)
    → answer_in mode s (Command.Save path load exec []) ≡ Err refusal → tree_after_put mode s (Command.Save path load exec) file ≡ tree_in s
refused_put mode s path load exec None refusal e = refl
refused_put mode s path load exec (Some bytes) refusal e = long (nat_lt longest_file (length bytes))
  where
    long : (is_long : Bool) → (if is_long then tree_in s else tree_after mode s (Ok (Command.Save path load exec bytes))) ≡ tree_in s
    long true = refl
    long false = refused_tree mode s (Command.Save path load exec bytes) refusal (same_answer (tree_in s) (dir_form s.view.layout) mode.read_only path load exec bytes refusal e)

put_bytes_tree : (mode : Mode) (s s' : State) (files files' : Files) (save : Command) (long : Bool) (reply : List ℕ)
    → PutsBytes long mode s files save reply s' files' → tree_in s' ≡ (if long then tree_in s else tree_after mode s (Ok save))
put_bytes_tree mode s s' files files' save true reply x = ap tree_in x.0.1
put_bytes_tree mode s s' files files' save false reply x = taken_tree mode s s' reply (Ok save) x.0

put_file_tree : (mode : Mode) (s s' : State) (files files' : Files) (save : List ℕ → Command) (file : Option (List ℕ)) (reply : List ℕ)
    → PutsFile mode s files save file reply s' files' → tree_in s' ≡ tree_after_put mode s save file
put_file_tree mode s s' files files' save None reply x = ap tree_in x.0.1
put_file_tree mode s s' files files' save (Some bytes) reply x =
    put_bytes_tree mode s s' files files' (save bytes) (nat_lt longest_file (length bytes)) reply x

put_tree : (mode : Mode) (s s' : State) (files files' : Files) (path : Path) (load exec : ℕ) (file : Option (List ℕ)) (a : Result Tree Refusal) (reply : List ℕ)
    → answer_in mode s (Command.Save path load exec []) ≡ a → Puts mode s files (Command.Save path load exec) file a reply s' files'
    → tree_in s' ≡ tree_after_put mode s (Command.Save path load exec) file
put_tree mode s s' files files' path load exec file (Err refusal) reply is x = ap tree_in x.0.1 ∙ sym (refused_put mode s path load exec file refusal is)
put_tree mode s s' files files' path load exec file (Ok t) reply is x = put_file_tree mode s s' files files' (Command.Save path load exec) file reply x

get_tree : (s s' : State) (files files' : Files) (host bytes : List ℕ) (there : Bool) (a : Result Tree Refusal) (reply : List ℕ)
    → Gets s files host bytes there a reply s' files' → tree_in s' ≡ tree_in s
get_tree s s' files files' host bytes there (Err refusal) reply x = ap tree_in x.0.1
get_tree s s' files files' host bytes true (Ok t) reply x = ap tree_in x.0.1
get_tree s s' files files' host bytes false (Ok t) reply x = ap tree_in x.1

taken_host : (mode : Mode) (s s' : State) (files files' : Files) (reply : List ℕ) (r : Result HostLine Refusal) → HostTakes mode s files r reply s' files'
    → tree_in s' ≡ host_tree_after mode s files r
taken_host mode s s' files files' reply (Err refusal) x = ap tree_in x.0.1
taken_host mode s s' files files' reply (Ok (HostLine.Put host path load exec)) x =
    put_tree mode s s' files files' path load exec (get files host) (answer_in mode s (Command.Save path load exec [])) reply refl x
taken_host mode s s' files files' reply (Ok (HostLine.Get path host)) x =
    get_tree s s' files files' host (file_in s path) (is_some (get files host)) (answer_in mode s (Command.Load path)) reply x
taken_host mode s s' files files' reply (Ok (HostLine.Other command)) x = taken_tree mode s s' reply (Ok command) x.0

pub tree_law : TreeLaw
tree_law = record {
  plain = λ mode s s' line reply x. taken_tree mode s s' reply (command_of line) x;
  host = λ read mode s s' files files' line reply x. taken_host mode s s' files files' reply (read line) x;
}
