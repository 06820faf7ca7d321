-- What the program does: it runs a script with the words that it was given, and its status says how that ended.
use Rattle.std.specs.Prelude.{◌≡◌, ◌≢◌, ◌⊎◌, ◌<◌, [], ℕ, List, length, true, false, None, Some}
use Rattle.std.specs.Option.{ForSome}
use Rattle.fc_device.specs.declared.disk.Disk.{Ghosts}
use Rattle.fc_device.specs.declared.streams.Sink.{Ghosts as Sinks}
use Rattle.fc_device.specs.declared.streams.Source.{Ghosts as Sources}
use Rattle.fc_device.specs.Faults.{Rose}
use Rattle.fc_host.specs.declared.host.Host.{Ghosts as Hosts}
use Rattle.fc_words.specs.CommandLine.{Request, request_of}
use Rattle.fc_shell.specs.declared.ending.End.{End}
use Rattle.fc_shell.specs.declared.ending.End.TheVariants.{BadWords, Done, Refused, ScriptFault, ScriptTooLong}
use Rattle.fc_shell.specs.Ends.{is_early}
use Rattle.fc_shell.specs.HostHeadline.{IsAnsweredByMaps, IsInLines, IsServedWithHost}
use Rattle.fc_shell.specs.HostPromise.{HostKeeps, HostPromise, HostRunSpares}
use Rattle.fc_shell.specs.Kept.{RunKeeps}
use Rattle.fc_shell.specs.Moving.{AsksMore}
use Rattle.fc_shell.specs.Replies.{AsksNoDemo, asked_script, script_limit, told_script}
use Rattle.fc_shell.specs.Script.{behind_limit}
use Rattle.fc_shell.specs.Writing.{Wrote}

-- what is outside of the program
pub record Outside (D S K H : Type 0) : Type 0 where
  pub disk : D
  pub source : S
  pub sink : K
  pub host : H

-- Nothing was asked of disk, sink and host.
pub record AreUnasked {D S K H : Type 0} (old new : Outside D S K H) : Type 0 where
  pub disk : new.disk ≡ old.disk
  pub sink : new.sink ≡ old.sink
  pub host : new.host ≡ old.host

-- A run for these words ended so: what `run_with` promises, clause by clause.
pub record HasRunFor {D S K H : Type 0} (d : Ghosts D) (s : Sources S) (k : Sinks K) (h : Hosts H) (given : List (List ℕ)) (old new : Outside D S K H) (end : End) : Type 0 where
  pub promise : ForSome (d.gives old.disk) (λ gives. ForSome (asked_script (request_of given) (s.left old.source)) (λ lines. ForSome (d.bytes old.disk) (λ image.
      AsksMore h old.host new.host (λ asked. (text : List ℕ) × Wrote (k.taken old.sink) (k.taken new.sink) text
      × HostPromise d old.disk new.disk gives (h.files old.host) (h.files new.host) asked image lines text (request_of given) end))))
  pub told : (r : Request) → request_of given ≡ Some r → r.demo ≡ None → IsInLines end
      → ForSome (d.gives old.disk) (λ gives. ForSome (s.left old.source) (λ lines. ForSome (d.bytes old.disk) (λ image.
      (text : List ℕ) × Wrote (k.taken old.sink) (k.taken new.sink) text × IsServedWithHost d old.disk new.disk r image lines text (h.files old.host) (h.files new.host) end)))
  pub headline : (r : Request) → request_of given ≡ Some r → r.demo ≡ None → (end ≡ Done) ⊎ (end ≡ Refused)
      → ForSome (d.gives old.disk) (λ gives. ForSome (s.left old.source) (λ lines. ForSome (d.bytes old.disk) (λ image. ForSome (h.files old.host) (λ files.
      (text : List ℕ) × Wrote (k.taken old.sink) (k.taken new.sink) text × IsAnsweredByMaps d new.disk r image lines text files (h.files new.host)))))
  pub host : HostKeeps h (asked_script (request_of given) (s.left old.source)) old.host new.host end
  pub keeps : (r : Request) → request_of given ≡ Some r → RunKeeps d k r (HostRunSpares r (told_script r.demo (s.left old.source))) old.disk new.disk old.sink new.sink end
  pub bad_words : end ≡ BadWords → request_of given ≡ None
  pub words : request_of given ≡ None → (end ≡ BadWords) × (new.source ≡ old.source) × AreUnasked old new
  pub unattached : ForSome (asked_script (request_of given) (s.left old.source)) (λ text. script_limit < length text → (is_early end ≡ true) × AreUnasked old new)
  pub too_long : end ≡ ScriptTooLong → (new.disk ≡ old.disk) × (new.sink ≡ old.sink) × ForSome (s.left old.source) (λ text. script_limit < length text)
      × (s.left new.source ≡ behind_limit (s.left old.source))
  pub script_fault : end ≡ ScriptFault → Rose (s.faults old.source) (s.faults new.source) × (new.disk ≡ old.disk) × (new.sink ≡ old.sink)
  pub script_end : AsksNoDemo (request_of given) → is_early end ≡ false → ForSome (s.left new.source) (λ rest. rest ≡ [])
  pub unread : (r : Request) → request_of given ≡ Some r → (n : ℕ) → r.demo ≡ Some n → (new.source ≡ old.source) × (end ≢ ScriptFault) × (end ≢ ScriptTooLong) × (new.host ≡ old.host)
