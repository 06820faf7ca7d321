-- Parts of an entry, and of a directory as it is kept in memory.
use Rattle.std.specs.Prelude.{◌≡◌, ℕ, ◌/◌, ◌%◌, List, map, take, slice_index}
use Rattle.std.specs.List.{AllByRecursion}
use Rattle.fc_bytes.specs.Bits.{num}
use Rattle.fc_dirs.specs.declared.Entry.{Entry}
use Rattle.fc_dirs.specs.declared.SmallForm.{SmallForm}
use Rattle.fc_dirs.specs.declared.SmallForm.TheVariants.{Bytes1280, Bytes2048}
use Rattle.fc_names.specs.declared.name.NameForm.{NameForm}
use Rattle.fc_names.specs.declared.name.NameForm.TheVariants.{Seven, Ten}
use Rattle.fc_dirs.specs.Small.{SmallDir, FitsSmall, small_entries, tail_of}
use Rattle.fc_smalldir.specs.declared.head.Head.{Head}

-- the ten bytes of a name field, in 1280 bytes without their top bits
abbrev pub plain_field : SmallForm → List ℕ → List ℕ
plain_field Bytes2048 field = field
plain_field Bytes1280 field = map (λ c. c % 128) field

-- the attributes in the 26 bytes of an entry
abbrev pub attrs_in : SmallForm → List ℕ → ℕ
attrs_in Bytes2048 bytes = slice_index bytes 25
attrs_in Bytes1280 bytes = num (map (λ c. c / 128) (take 10 bytes))

-- the last of the 26 bytes, if it is no attribute
abbrev pub last_in : SmallForm → List ℕ → ℕ
last_in Bytes2048 bytes = 0
last_in Bytes1280 bytes = slice_index bytes 25

-- the form of the names in a form of directories
abbrev pub names_of_form : SmallForm → NameForm
names_of_form Bytes2048 = Ten
names_of_form Bytes1280 = Seven

-- the directory of a head and entries
abbrev pub dir_of : Head → List Entry → SmallDir
dir_of head entries = record {
  form = head.form;
  is_hugo = head.is_hugo;
  sequence = head.sequence;
  parent = head.parent;
  name = head.name;
  title = head.title;
  reserved = take (tail_of head.form).reserved_len head.reserved;
  entries = entries;
}

-- the lengths of the first and the last field of a tail
abbrev pub first_len : SmallForm → ℕ
first_len Bytes2048 = 2
first_len Bytes1280 = 10

abbrev pub last_len : SmallForm → ℕ
last_len Bytes2048 = 10
last_len Bytes1280 = 14

-- The entries are those that bytes say, and each can be written again.
pub record AreRead (form : SmallForm) (bytes : List ℕ) (entries : List Entry) : Type 0 where
  pub same : entries ≡ small_entries form bytes
  pub fit : AllByRecursion (FitsSmall form) entries
