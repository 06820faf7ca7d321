-- What a `save` says, by what its words say.
use Rattle.std.proofs.Common.{◌≡◌, ℕ, true, List, Option, Some, None, is_some, Ok, Err, refl}
use Rattle.std.specs.Result.{IsOk}
use Rattle.fc_names.specs.Names.{Path}
use Rattle.fc_names.specs.Paths.{path_of}
use Rattle.fc_model.specs.Command.{Command}
use Rattle.fc_script.specs.declared.command.LineError.{LineError}
use Rattle.fc_script.specs.declared.command.LineError.TheVariants.{BadCommand, BadName, NoMemory}
use Rattle.fc_script.specs.Lines.{with_path, with_three}
use Rattle.fc_script.specs.Reading.{Gives, command, read_path_of}

-- a command of a path fails as its path does
with_path-fails : (make : Path → Command) (text : List ℕ) (e : LineError)
    → Gives (λ (p : Path). p) (Err e) (read_path_of text) → Gives command (Err e) (with_path make text)
with_path-fails make text e fails = go e (path_of text) refl fails
  where
    go : (f : LineError) (o : Option Path) → path_of text ≡ o
        → Gives (λ (p : Path). p) (Err f) (read_path_of text) → Gives command (Err f) (with_path make text)
    go BadCommand None h k = cc (rw h at k)
    go BadCommand (Some p) h k = cc (rw h at k)
    go BadName None h k = rw h refl
    go BadName (Some p) h k = cc (rw h at k)
    go NoMemory None h k = cc (rw h at k)
    go NoMemory (Some p) h k = rw h refl

-- a command of a path that is read
with_path-reads : (make : Path → Command) (text : List ℕ) (path : Path) → read_path_of text ≡ Ok path → IsOk (with_path make text)
with_path-reads make text path read = go (path_of text) refl
  where
    go : (o : Option Path) → path_of text ≡ o → IsOk (with_path make text)
    go None h = cc (rw h at read)
    go (Some p) h = rw h refl

some_of : (o : Option (List ℕ)) → is_some o ≡ true → (bytes : List ℕ) × (o ≡ Some bytes)
some_of (Some bytes) e = (bytes, refl)
some_of None e = cc e

-- a `save` whose other words are right fails as its path does
pub save_fails : (path : List ℕ) (load exec : ℕ) (word_load word_exec : Option ℕ) (word digits : Option (List ℕ)) (e : LineError)
    → word_load ≡ Some load → word_exec ≡ Some exec → word ≡ digits → is_some digits ≡ true
    → Gives (λ (p : Path). p) (Err e) (read_path_of path) → Gives command (Err e) (with_three Command.Save path word_load word_exec word)
save_fails path load exec word_load word_exec word digits e el ee ed some fails =
    let bytes = some_of digits some in
    rw (el, ee, ed, bytes.1) (with_path-fails (λ p. Command.Save p load exec bytes.0) path e fails)

-- one whose words are all right is a command
pub save_reads : (path : List ℕ) (load exec : ℕ) (word_load word_exec : Option ℕ) (word digits : Option (List ℕ)) (p : Path)
    → word_load ≡ Some load → word_exec ≡ Some exec → word ≡ digits → is_some digits ≡ true
    → read_path_of path ≡ Ok p → IsOk (with_three Command.Save path word_load word_exec word)
save_reads path load exec word_load word_exec word digits p el ee ed some read =
    let bytes = some_of digits some in
    rw (el, ee, ed, bytes.1) (with_path-reads (λ q. Command.Save q load exec bytes.0) path p read)
