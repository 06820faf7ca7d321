-- What words give, as the walk that judges them holds it.
use Rattle.std.specs.Borrow.{Bor}
use Rattle.std.specs.Prelude.{◌≡◌, ℕ, List, Option, Some, None, codes, option_map}
use Rattle.fc_words.specs.CommandLine.{Kind, Settings, Text, Word, awaits, ends_options, flag, gives, images_after, plain, refused, sets, settings_after, value_of, valued}
use Rattle.fc_words.specs.declared.judging.Given.{Given}
use Rattle.fc_words.specs.declared.judging.Name.{Name}
use Rattle.fc_words.specs.declared.judging.Name.TheVariants as name
use Rattle.fc_words.specs.declared.judging.Next.{Next}
use Rattle.fc_words.specs.declared.judging.Next.TheVariants as next
use Rattle.fc_words.specs.declared.judging.Word.{Word as CodeWord}
use Rattle.fc_words.specs.declared.judging.Word.TheVariants as word

abbrev pub spelled : Name → Text
spelled name.New = codes "new"
spelled name.ReadOnly = codes "read-only"
spelled name.Demo = codes "demo"
spelled name.Safe = codes "safe"
spelled name.Image = codes "image"

abbrev pub kind_of : Name → Kind
kind_of name.New = valued (codes "new")
kind_of name.ReadOnly = flag (codes "read-only")
kind_of name.Demo = valued (codes "demo")
kind_of name.Safe = flag (codes "safe")
kind_of name.Image = flag (codes "image")

abbrev pub word_in : CodeWord → Word
word_in word.EndsOptions = ends_options
word_in (word.Gives n) = gives (spelled n)
word_in (word.Awaits n) = awaits (spelled n)
word_in (word.Sets n value) = sets (spelled n) value.now
word_in word.Plain = plain
word_in word.Refused = refused

-- the value of a name
abbrev pub slot : Name → Given → Option (Bor Text)
slot name.New g = g.new
slot name.ReadOnly g = g.read_only
slot name.Demo g = g.demo
slot name.Safe g = g.safe
slot name.Image g = g.image

-- with a name's value
abbrev pub put : Name → Bor Text → Given → Given
put name.New value g = record g { new = Some value }
put name.ReadOnly value g = record g { read_only = Some value }
put name.Demo value g = record g { demo = Some value }
put name.Safe value g = record g { safe = Some value }
put name.Image value g = record g { image = Some value }

abbrev pub none_given : Given
none_given = record {
  new = None;
  read_only = None;
  demo = None;
  safe = None;
  image = None;
  next = next.Any;
}

-- a name has this value in the settings
abbrev pub HasValue : Settings → Text → Option (Bor Text) → Type 0
HasValue s name value = value_of name s ≡ option_map (λ t. t.now) value

-- the settings have the same values
abbrev pub Holds : Given → Settings → Type 0
Holds g s = HasValue s (codes "new") g.new × HasValue s (codes "read-only") g.read_only
    × HasValue s (codes "demo") g.demo × HasValue s (codes "safe") g.safe × HasValue s (codes "image") g.image

-- what the rest of the words makes of the settings, by what the next may be
abbrev pub rest_after : Next → List Text → Settings → Option Settings
rest_after next.Any ws s = settings_after ws None s
rest_after (next.ValueOf n) ws s = settings_after ws (Some (spelled n)) s
rest_after next.Image ws s = images_after ws s
