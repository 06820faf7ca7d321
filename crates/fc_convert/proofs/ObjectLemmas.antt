-- One object of the source, made on the target.
use Rattle.std.proofs.Common.{◌≡◌, ◌⊎◌, inl, inr, ◌<◌, ℕ, ◌%◌, Bool, true, false, List, [], ◌∷◌, refl, sym, ap, subst, ◌∙◌, Some, Result, Ok, Err}
use Rattle.std.specs.Prelude.{if◌then◌else◌}
use Rattle.std.proofs.lemmas.Bool.{ltb-true}
use Rattle.fc_device.specs.declared.disk.Disk.{Ghosts}
use Rattle.fc_device.proofs.DiskLaws.{Laws}
use Rattle.fc_names.specs.declared.name.NameForm.{NameForm}
use Rattle.fc_names.specs.declared.name.NameForm.TheVariants as forms
use Rattle.fc_names.specs.Names.{Path, is_directory}
use Rattle.fc_record.specs.declared.Kind.{Kind}
use Rattle.fc_model.specs.Command.{Command}
use Rattle.fc_model.specs.Tree.{Body, Node, bytes_of_node, node_at}
use Rattle.fc_image.specs.Layout.{dir_form}
use Rattle.fc_image.specs.effects.Effect.{State, tree_in}
use Rattle.fc_tree.specs.declared.node.Node.{Node as Found}
use Rattle.fc_tree.specs.Nodes.{nodes_of}
use Rattle.fc_tree.proofs.WalkedLemmas.{same_some}
use Rattle.fc_fit.specs.Commands.{object_commands}
use Rattle.fc_fit.specs.Fit.{is_attrs_right}
use Rattle.fc_fit.specs.Found.{node_in}
use Rattle.fc_holdings.specs.declared.error.CommandError.{CommandError}
use Rattle.fc_holdings.specs.declared.error.CommandError.TheVariants as commands
use Rattle.fc_volume.specs.declared.lines.FileRef.{FileRef}
use Rattle.fc_volume.specs.Answers.{ref_bytes}
use Rattle.fc_volume.specs.Changing.{IsAsked}
use Rattle.fc_volume.specs.Volume.{Volume, parts_of}
use Rattle.fc_convert.specs.declared.blocks.ReadError.{ReadError}
use Rattle.fc_convert.specs.declared.blocks.ReadError.TheVariants as reads
use Rattle.fc_convert.specs.declared.copying.CopyError.{CopyError}
use Rattle.fc_convert.specs.declared.copying.CopyError.TheVariants as errors
use Rattle.fc_convert.specs.Copying.{IsFileAt, IsNodeAt, KeepsTarget, MakesAll, MakesObject, making_commands, model_of}
use Rattle.fc_convert.specs.Ends.{command_error, read_error}
use Rattle.fc_convert.specs.Opened.{Holds, IsOpen}
use Rattle.fc_convert.proofs.MakingLemmas.{answered, keeps_one, keeps_then, makes_stopped, makes_then, one_made}
use Rattle.fc_convert.proofs.SourceLemmas.{dir_model, file_model, unread_bytes}
pub use Rattle.fc_convert.proofs.CopyLemmas.{failed}

-- ---- errors

-- a command's error, passed on
pub command_failed : (error : CommandError) (result : Result (Unit {0}) CopyError) → (x : CopyError) × (result ≡ Err x) × (x ≡ command_error error) → result ≡ answered (Err error)
command_failed error result p = p.1 ∙ ap failed p.2

-- a read's
pub read_failed : (error : ReadError) (result : Result (Unit {0}) CopyError) → (x : CopyError) × (result ≡ Err x) × (x ≡ read_error error) → result ≡ failed (read_error error)
read_failed error result p = p.1 ∙ ap failed p.2

-- one of a copy's
pub copy_failed : (error : CopyError) (result : Result (Unit {0}) CopyError) → (x : CopyError) × (result ≡ Err x) × (x ≡ error) → result ≡ failed error
copy_failed error result p = p.1 ∙ ap failed p.2

-- no command of the target fails by the source
never_from : (answer : Result (Unit {0}) CommandError) → answered answer ≡ Err errors.From → ⊥
never_from (Ok done) is = cc
never_from (Err (commands.Refused r)) is = cc
never_from (Err commands.NoMemory) is = cc
never_from (Err commands.DiskFault) is = cc

pub not_from : (answer : Result (Unit {0}) CommandError) (result : Result (Unit {0}) CopyError) → result ≡ answered answer → result ≡ Err errors.From → ⊥
not_from answer result same is = never_from answer (sym same ∙ is)

-- nor a read by the target
never_to : (error : ReadError) → failed (read_error error) ≡ Err errors.To → ⊥
never_to reads.DiskFault is = cc
never_to reads.NoMemory is = cc

pub not_to : (error : ReadError) (result : Result (Unit {0}) CopyError) → result ≡ failed (read_error error) → result ≡ Err errors.To → ⊥
not_to error result same is = never_to error (sym same ∙ is)

-- a copy that fails by the source had a read that failed
by_read : {T P : Type 0} (error : ReadError) → ((let r : Result T ReadError = Err error in r) ≡ Err reads.DiskFault → P) → failed (read_error error) ≡ Err errors.From → P
by_read reads.DiskFault cause is = cause refl
by_read reads.NoMemory cause is = absurd (cc)

pub read_caused : {T P : Type 0} (error : ReadError) (result : Result (Unit {0}) CopyError) → result ≡ failed (read_error error) → ((let r : Result T ReadError = Err error in r) ≡ Err reads.DiskFault → P)
    → result ≡ Err errors.From → P
read_caused error result same cause is = by_read error cause (sym same ∙ is)

-- ---- one command, and two

module _ {E : Type 0} {e : Ghosts E} (law : Laws e) (c : Command) (was v : Volume) (old new : E) (answer : Result (Unit {0}) CommandError) (result : Result (Unit {0}) CopyError)
    (is : result ≡ answered answer) (ready : IsOpen e false was old) (asked : IsAsked e c was v old new answer) where
  pub asked_made : MakesAll e (c ∷ []) was v old new result
  asked_made = subst (λ (r : Result (Unit {0}) CopyError). MakesAll e (c ∷ []) was v old new r) (sym is) (one_made c was v old new ready.rights answer asked)

  pub asked_kept : KeepsTarget e was v old new result
  asked_kept = subst (λ (r : Result (Unit {0}) CopyError). KeepsTarget e was v old new r) (sym is) (keeps_one law was v old new answer ready.rights ready.attached asked.keeps)

-- after a command that is done the target is open, and of its form
pub asked_done : {E : Type 0} {e : Ghosts E} (law : Laws e) (c : Command) (was v : Volume) (old new : E) (done : Unit {0}) → IsOpen e false was old → IsAsked e c was v old new (Ok done)
    → KeepsTarget {T = Unit {0}} e was v old new (Ok done)
asked_done law c was v old new done ready asked = keeps_one law was v old new (Ok done) ready.rights ready.attached asked.keeps

module _ {E : Type 0} {e : Ghosts E} (law : Laws e) (first second : Command) (was v : Volume) (old at : E) (ready : IsOpen e false was old) where
  pub first_failed : (error : CommandError) (result : Result (Unit {0}) CopyError) → result ≡ answered (Err error) → IsAsked e first was v old at (Err error)
      → MakesAll e (first ∷ second ∷ []) was v old at result
  first_failed error result is asked =
      subst (λ (r : Result (Unit {0}) CopyError). MakesAll e (first ∷ second ∷ []) was v old at r) (sym is)
      (makes_stopped e (first ∷ []) (second ∷ []) was v old at (command_error error) (one_made first was v old at ready.rights (Err error) asked))

  module _ (w : Volume) (new : E) (done : Unit {0}) (answer : Result (Unit {0}) CommandError) (result : Result (Unit {0}) CopyError) (is : result ≡ answered answer)
      (one : IsAsked e first was v old at (Ok done)) (two : IsAsked e second v w at new answer) where
    pub both_made : MakesAll e (first ∷ second ∷ []) was w old new result
    both_made =
        let kept = asked_done law first was v old at done ready one in
        makes_then e (first ∷ []) (second ∷ []) was v w old at new done result kept.dirs (one_made first was v old at ready.rights (Ok done) one)
        (asked_made law second v w at new answer result is kept.ready two)

    pub both_kept : KeepsTarget e was w old new result
    both_kept =
        let kept = asked_done law first was v old at done ready one in
        keeps_then law was v w old at new done result kept (asked_kept law second v w at new answer result is kept.ready two)

-- ---- attributes that an entry holds

pub form_cases : (form : NameForm) → (form ≡ forms.Seven) ⊎ ((form ≡ forms.Ten) ⊎ (form ≡ forms.Long))
form_cases forms.Seven = inl refl
form_cases forms.Ten = inr (inl refl)
form_cases forms.Long = inr (inr refl)

pub below_seven : (form : NameForm) (attrs : ℕ) → is_attrs_right form attrs ≡ true → form ≡ forms.Seven → attrs < 1024
below_seven form attrs right is = ltb-true attrs 1024 (subst (λ (f : NameForm). is_attrs_right f attrs ≡ true) is right)

pub below_ten : (form : NameForm) (attrs : ℕ) → is_attrs_right form attrs ≡ true → form ≡ forms.Ten → attrs < 256
below_ten form attrs right is = ltb-true attrs 256 (subst (λ (f : NameForm). is_attrs_right f attrs ≡ true) is right)

-- ---- the command that makes an object

-- a node as one of a tree, a directory or a file of these bytes
abbrev bodied : Found → List ℕ → Bool → Node
bodied node bytes dir = record {
  name = node.entry.name;
  attrs = node.entry.attrs;
  load = node.entry.load;
  exec = node.entry.exec;
  body = if dir then Body.Directory else Body.File bytes;
}

making_dir : (path : Path) (node : Found) (bytes : List ℕ) → is_directory node.entry.attrs ≡ true → making_commands path (model_of node bytes) ≡ Command.Cdir path ∷ []
making_dir path node bytes dir = ap (λ (b : Bool). making_commands path (bodied node bytes b)) dir

making_file : (path : Path) (node : Found) (bytes : List ℕ) → is_directory node.entry.attrs ≡ false
    → making_commands path (model_of node bytes) ≡ Command.Save path node.entry.load node.entry.exec bytes ∷ []
making_file path node bytes file = ap (λ (b : Bool). making_commands path (bodied node bytes b)) file

-- ---- by the node at the path

module _ {D E : Type 0} (d : Ghosts D) (e : Ghosts E) (source : Volume) (from : D) (path : Path) (here : Found) (found : node_in (nodes_of source.tree) path ≡ Some here) (was v : Volume) (old new : E)
    (result : Result (Unit {0}) CopyError) where
  at_node : (commands : Path → Node → List Command) (bytes : List ℕ) → IsNodeAt d source from path (model_of here bytes) → MakesAll e (commands path (model_of here bytes)) was v old new result
      → MakesObject d e commands source from path was v old new result
  at_node commands bytes stands made = (
    bytes,
    λ node there.
        subst (λ (x : Found). IsNodeAt d source from path (model_of x bytes) × MakesAll e (commands path (model_of x bytes)) was v old new result) (same_some here node (sym found ∙ there)) (stands, made),
  )

  pub dir_made : is_directory here.entry.attrs ≡ true → MakesAll e (Command.Cdir path ∷ []) was v old new result → MakesObject d e making_commands source from path was v old new result
  dir_made dir made =
      at_node making_commands [] (dir_model {d = d} source from path here found dir)
      (subst (λ (cs : List Command). MakesAll e cs was v old new result) (sym (making_dir path here [] dir)) made)

  -- what a copy of a file promises
  abbrev FileMade : Type 0
  FileMade = (bytes : List ℕ) × IsFileAt d source from path bytes
      × ((node : Found) → node_in (nodes_of source.tree) path ≡ Some node → MakesAll e (Command.Save path node.entry.load node.entry.exec bytes ∷ []) was v old new result)

  pub file_saved : (bytes : List ℕ) → IsFileAt d source from path bytes → MakesAll e (Command.Save path here.entry.load here.entry.exec bytes ∷ []) was v old new result → FileMade
  file_saved bytes stands made = (
    bytes,
    stands,
    λ node there. subst (λ (x : Found). MakesAll e (Command.Save path x.entry.load x.entry.exec bytes ∷ []) was v old new result) (same_some here node (sym found ∙ there)) made,
  )

  unread_made : (commands : List Command) (error : ReadError) → result ≡ failed (read_error error) → MakesAll e commands was v old new result
  unread_made commands error is = subst (λ (r : Result (Unit {0}) CopyError). MakesAll e commands was v old new r) (sym is) (by error)
    where
      by : (x : ReadError) → MakesAll e commands was v old new (failed (read_error x))
      by reads.DiskFault kind s holds = tt
      by reads.NoMemory kind s holds = tt

  pub file_unread : (file : FileRef) → ((kind : Kind) (s : State) → Holds d kind s source from → bytes_of_node (node_at (tree_in s) path) ≡ ref_bytes s.image source file)
      → (error : ReadError) → result ≡ failed (read_error error) → FileMade
  file_unread file told error is =
      let bytes = unread_bytes {d = d} source from path file told in
      (bytes.0, bytes.1, λ node there. unread_made (Command.Save path node.entry.load node.entry.exec bytes.0 ∷ []) error is)

  pub file_made : is_directory here.entry.attrs ≡ false → FileMade → MakesObject d e making_commands source from path was v old new result
  file_made file copied =
      at_node making_commands copied.0 (file_model {d = d} source from path here found copied.0 file copied.1)
      (subst (λ (cs : List Command). MakesAll e cs was v old new result) (sym (making_file path here copied.0 file)) (copied.2 here found))

  -- then it gets its words and attributes
  pub words_set : (mid : Volume) (at : E) (done : Unit {0}) → MakesObject d e making_commands source from path was mid old at (Ok done) → dir_form (parts_of mid).layout ≡ dir_form (parts_of was).layout
      → MakesAll e (Command.Set path here.entry.load here.entry.exec (here.entry.attrs % 8) ∷ Command.Mark path here.entry.attrs ∷ []) mid v at new result
      → MakesObject d e object_commands source from path was v old new result
  words_set mid at done first same second =
      let one = first.1 here found in
      at_node object_commands first.0 one.0
      (makes_then e (making_commands path (model_of here first.0)) (Command.Set path here.entry.load here.entry.exec (here.entry.attrs % 8) ∷ Command.Mark path here.entry.attrs ∷ []) was mid v old at new done
      result same one.1 second)

-- or it isn't made
pub object_unmade : {D E : Type 0} (d : Ghosts D) (e : Ghosts E) (source : Volume) (from : D) (path : Path) (was v : Volume) (old new : E) (error : CopyError) (result : Result (Unit {0}) CopyError)
    → result ≡ failed error → MakesObject d e making_commands source from path was v old new (Err error) → MakesObject d e object_commands source from path was v old new result
object_unmade d e source from path was v old new error result is first = (
  first.0,
  λ node there.
      (let one = first.1 node there in (
        one.0,
        subst (λ (r : Result (Unit {0}) CopyError). MakesAll e (object_commands path (model_of node first.0)) was v old new r) (sym is)
            (makes_stopped e (making_commands path (model_of node first.0)) (Command.Set path node.entry.load node.entry.exec (node.entry.attrs % 8) ∷ Command.Mark path node.entry.attrs ∷ []) was v old new error one.1),
      )),
)
