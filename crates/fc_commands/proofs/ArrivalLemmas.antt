-- What comes by `cdir`, and by `save` and `create` at a path at which nothing is: whose job it is, and what it wants.
use Rattle.std.proofs.Common.{◌≡◌, ◌<◌, ◌≤◌, ◌^◌, ◌⊎◌, inl, inr, ℕ, Bool, true, false, cond, ◌||◌, not, List, [], ◌∷◌, length, replicate, Option, Some, None, refl, sym, ap, subst, ◌∙◌, arith}
use Rattle.std.proofs.lemmas.Bool.{ne_eqb}
use Rattle.fc_names.specs.Names.{Path, is_directory, is_same_path, is_writable}
use Rattle.fc_names.specs.declared.name.NameForm.{NameForm}
use Rattle.fc_names.specs.declared.name.NameForm.TheVariants as forms
use Rattle.fc_names.specs.declared.refusal.Refusal.{Refusal}
use Rattle.fc_names.specs.declared.refusal.Refusal.TheVariants as refusals
use Rattle.fc_model.specs.Answer.{first_of, holder_refusal, is_directory_at, is_locked_at, is_name_bad, is_present, is_root, reasons, when}
use Rattle.fc_model.specs.Command.{Command}
use Rattle.fc_model.specs.Tree.{Tree, holder, last_name}
use Rattle.fc_dirs.specs.declared.Entry.{Entry}
use Rattle.fc_dirs.specs.Directory.{directory_size}
use Rattle.fc_drafts.specs.Entries.{directory_entry, file_entry}
use Rattle.fc_image.specs.Layout.{Layout, dir_form}
use Rattle.fc_image.specs.Objects.{tree_of}
use Rattle.fc_image.specs.Opening.{Opened}
use Rattle.fc_image.specs.Sound.{AreSound}
use Rattle.fc_image.specs.Walk.{Listing, object_size}
use Rattle.fc_image.specs.effects.Short.{gain_in, growth_in, new_dir_size, new_length}
use Rattle.fc_image.specs.effects.Steady.{has_grown, has_new_holder, is_renamed_by, may_be_rewritten}
use Rattle.fc_laws.specs.nodes.Edits.{Nodes}
use Rattle.fc_refusals.specs.Targets.{IsVacant}
use Rattle.fc_refusals.specs.declared.target.Slot.TheVariants as slots
use Rattle.fc_tree.specs.Parts.{ArePartsOf, Parts}
use Rattle.fc_change.specs.declared.job.FileWords.{FileWords}
use Rattle.fc_change.specs.declared.job.Job.{Job}
use Rattle.fc_change.specs.declared.job.Job.TheVariants as jobs
use Rattle.fc_change.specs.Jobs.{IsJob}
use Rattle.fc_commands.specs.Jobs.{HasBytes, IsJobFor}

-- an empty directory, or a file of these words
pub data Arrival : Type 0 where
  Makes : Arrival
  Saves : FileWords → Arrival

abbrev pub job_of : ℕ → Arrival → Job
job_of dir Arrival.Makes = jobs.Directory dir
job_of dir (Arrival.Saves words) = jobs.File (slots.New dir) words

-- its bytes, and its entry
abbrev pub bytes_of : NameForm → Arrival → ℕ
bytes_of form Arrival.Makes = new_dir_size form
bytes_of form (Arrival.Saves words) = words.len

abbrev pub entry_of : NameForm → Arrival → List ℕ → ℕ → Entry
entry_of form Arrival.Makes name address = directory_entry form name address
entry_of form (Arrival.Saves words) name address = file_entry name words.load words.exec words.len address

-- A file may have as many bytes as an entry can say.
abbrev pub IsShort : Arrival → Type 0
IsShort Arrival.Makes = Unit {0}
IsShort (Arrival.Saves words) = words.len < 2 ^ 32

-- The command makes it at a path, of the bytes that are given.
abbrev pub Brings : Arrival → Path → List ℕ → Command → Type 0
Brings Arrival.Makes path bytes c = c ≡ Command.Cdir path
Brings (Arrival.Saves words) path bytes c =
    ((c ≡ Command.Save path words.load words.exec bytes) × (words.len ≡ length bytes)) ⊎ ((c ≡ Command.Create path words.load words.exec words.len) × (bytes ≡ []))

-- What holds of the three commands holds of the one.
pub of_each : (P : Command → Type 0) (x : Arrival) (path : Path) (bytes : List ℕ) (c : Command) → P (Command.Cdir path) → ((load exec : ℕ) (saved : List ℕ) → P (Command.Save path load exec saved))
    → ((load exec len : ℕ) → P (Command.Create path load exec len)) → Brings x path bytes c → P c
of_each P Arrival.Makes path bytes c made saved created is = subst P (sym is) made
of_each P (Arrival.Saves words) path bytes c made saved created (inl is) = subst P (sym is.0) (saved words.load words.exec bytes)
of_each P (Arrival.Saves words) path bytes c made saved created (inr is) = subst P (sym is.0) (created words.load words.exec words.len)

-- ---- whose job it is

-- The command is one of them, its path is vacant, and this is its last name.
pub record IsArriving (nodes : Nodes) (listings : List Listing) (c : Command) (dir : ℕ) (x : Arrival) (name bytes : List ℕ) : Type 0 where
  pub path : Path
  pub brings : Brings x path bytes c
  pub vacant : IsVacant nodes listings path dir
  pub name_is : name ≡ last_name path

of_directory : (nodes : Nodes) (listings : List Listing) (c : Command) (dir : ℕ) (name bytes : List ℕ) → IsJob nodes listings c (jobs.Directory dir) name → IsArriving nodes listings c dir Arrival.Makes name bytes
of_directory nodes listings (Command.Cat path) dir name bytes is = absurd is
of_directory nodes listings (Command.Load path) dir name bytes is = absurd is
of_directory nodes listings (Command.Digest path) dir name bytes is = absurd is
of_directory nodes listings (Command.Save path load exec saved) dir name bytes is = absurd is
of_directory nodes listings (Command.Create path load exec len) dir name bytes is = absurd is
of_directory nodes listings (Command.Cdir path) dir name bytes is = record { path = path; brings = refl; vacant = is.0; name_is = is.1 }
of_directory nodes listings (Command.Delete path) dir name bytes is = absurd is
of_directory nodes listings (Command.Rename from to) dir name bytes is = absurd is
of_directory nodes listings (Command.Set path load exec access) dir name bytes is = absurd is
of_directory nodes listings Command.Free dir name bytes is = absurd is
of_directory nodes listings Command.Check dir name bytes is = absurd is
of_directory nodes listings Command.Compact dir name bytes is = absurd is
of_directory nodes listings Command.Reclaim dir name bytes is = absurd is
of_directory nodes listings (Command.Mark path attrs) dir name bytes is = absurd is

of_file : (nodes : Nodes) (listings : List Listing) (c : Command) (dir : ℕ) (words : FileWords) (name bytes : List ℕ) → IsJob nodes listings c (jobs.File (slots.New dir) words) name → HasBytes c bytes
    → IsArriving nodes listings c dir (Arrival.Saves words) name bytes
of_file nodes listings (Command.Cat path) dir words name bytes is has = absurd is
of_file nodes listings (Command.Load path) dir words name bytes is has = absurd is
of_file nodes listings (Command.Digest path) dir words name bytes is has = absurd is
of_file nodes listings (Command.Save path load exec saved) dir words name bytes is has = record {
  path = path;
  brings = inl (
    (λ i. Command.Save path (ap (λ (w : FileWords). w.load) (sym is.1) i) (ap (λ (w : FileWords). w.exec) (sym is.1) i) (sym has i)),
    ap (λ (w : FileWords). w.len) is.1 ∙ ap (λ (bs : List ℕ). length bs) (sym has),
  );
  vacant = is.0;
  name_is = is.2;
}
of_file nodes listings (Command.Create path load exec len) dir words name bytes is has = record {
  path = path;
  brings = inr ((λ i. Command.Create path (ap (λ (w : FileWords). w.load) (sym is.1) i) (ap (λ (w : FileWords). w.exec) (sym is.1) i) (ap (λ (w : FileWords). w.len) (sym is.1) i)), has);
  vacant = is.0;
  name_is = is.2;
}
of_file nodes listings (Command.Cdir path) dir words name bytes is has = absurd is
of_file nodes listings (Command.Delete path) dir words name bytes is has = absurd is
of_file nodes listings (Command.Rename from to) dir words name bytes is has = absurd is
of_file nodes listings (Command.Set path load exec access) dir words name bytes is has = absurd is
of_file nodes listings Command.Free dir words name bytes is has = absurd is
of_file nodes listings Command.Check dir words name bytes is has = absurd is
of_file nodes listings Command.Compact dir words name bytes is has = absurd is
of_file nodes listings Command.Reclaim dir words name bytes is has = absurd is
of_file nodes listings (Command.Mark path attrs) dir words name bytes is has = absurd is

pub of_job : (nodes : Nodes) (listings : List Listing) (c : Command) (dir : ℕ) (x : Arrival) (name bytes : List ℕ) → IsJob nodes listings c (job_of dir x) name → HasBytes c bytes
    → IsArriving nodes listings c dir x name bytes
of_job nodes listings c dir Arrival.Makes name bytes is has = of_directory nodes listings c dir name bytes is
of_job nodes listings c dir (Arrival.Saves words) name bytes is has = of_file nodes listings c dir words name bytes is has

-- and the other way round: by another view
pub again : (nodes : Nodes) (listings : List Listing) (path : Path) (c : Command) (dir : ℕ) (x : Arrival) (name bytes : List ℕ) → Brings x path bytes c → IsJob nodes listings c (job_of dir x) name → IsVacant nodes listings path dir
again nodes listings path c dir Arrival.Makes name bytes brings is = (subst (λ (k : Command). IsJob nodes listings k (jobs.Directory dir) name) brings is).0
again nodes listings path c dir (Arrival.Saves words) name bytes (inl brings) is = (subst (λ (k : Command). IsJob nodes listings k (jobs.File (slots.New dir) words) name) brings.0 is).0
again nodes listings path c dir (Arrival.Saves words) name bytes (inr brings) is = (subst (λ (k : Command). IsJob nodes listings k (jobs.File (slots.New dir) words) name) brings.0 is).0

-- ---- its name can be written

pub bad_first : (b : Bool) (rest : List (Option Refusal)) → first_of (when b refusals.BadName ∷ rest) ≡ None → b ≡ false
bad_first true rest e = absurd (cc)
bad_first false rest e = refl

writes : (root good : Bool) → not (root || good) ≡ false → root ≡ false → good ≡ true
writes true good e none = absurd (cc)
writes false true e none = refl
writes false false e none = absurd (cc)

no_root : (path : Path) → 0 < length path → is_root path ≡ false
no_root path some = ne_eqb (length path) 0 (λ e. omega (arith, e, some))

pub writable : (t : Tree) (form : NameForm) (c : Command) (x : Arrival) (path : Path) (bytes : List ℕ) → Brings x path bytes c → 0 < length path → first_of (reasons t form false c) ≡ None
    → is_writable form (last_name path) ≡ true
writable t form c x path bytes brings some none =
    writes (is_root path) (is_writable form (last_name path))
    (of_each (λ (k : Command). first_of (reasons t form false k) ≡ None → is_name_bad form path ≡ false) x path bytes c
    (bad_first (is_name_bad form path) (holder_refusal t path ∷ when (is_present t path) refusals.Exists ∷ when false refusals.ReadOnly ∷ []))
    (λ load exec saved. bad_first (is_name_bad form path) (holder_refusal t path ∷ when (is_directory_at t path) refusals.IsDirectory ∷ when (is_locked_at t path) refusals.Locked ∷ when false refusals.ReadOnly ∷ []))
    (λ load exec len. bad_first (is_name_bad form path) (holder_refusal t path ∷ when (is_directory_at t path) refusals.IsDirectory ∷ when (is_locked_at t path) refusals.Locked ∷ when false refusals.ReadOnly ∷ [])) brings none)
    (no_root path some)

-- ---- the command

pub renames_none : (x : Arrival) (path : Path) (bytes : List ℕ) (c : Command) → Brings x path bytes c → (p : Path) → is_renamed_by c p ≡ false
renames_none x path bytes c brings p = of_each (λ (k : Command). is_renamed_by k p ≡ false) x path bytes c refl (λ load exec saved. refl) (λ load exec len. refl) brings

-- It may rewrite the directory that holds the path.
pub may_rewrite : (x : Arrival) (path : Path) (bytes : List ℕ) (c : Command) → Brings x path bytes c → (v : Opened) (dir : Path) → is_same_path (holder path) dir ≡ true → may_be_rewritten v c dir ≡ true
may_rewrite x path bytes c brings v dir above =
    of_each (λ (k : Command). may_be_rewritten v k dir ≡ true) x path bytes c (of (Command.Cdir path)) (λ load exec saved. of (Command.Save path load exec saved)) (λ load exec len. of (Command.Create path load exec len)) brings
  where
    of : (k : Command) → (is_same_path (holder path) dir || false || has_grown v k dir || has_new_holder v k dir) ≡ true
    of k = ap (λ (b : Bool). b || false || has_grown v k dir || has_new_holder v k dir) above

-- They all give the directory the same name.
pub gain_same : (x : Arrival) (path : Path) (bytes : List ℕ) (c : Command) → Brings x path bytes c → (v : Opened) → gain_in v (Command.Cdir path) ≡ gain_in v c
gain_same x path bytes c brings v = of_each (λ (k : Command). gain_in v (Command.Cdir path) ≡ gain_in v k) x path bytes c refl (λ load exec saved. refl) (λ load exec len. refl) brings

-- ---- its bytes

pub directory_long : (form : NameForm) → directory_size form (new_dir_size form) ≡ new_dir_size form
directory_long forms.Seven = refl
directory_long forms.Ten = refl
directory_long forms.Long = refl

pub size_is : (form : NameForm) (x : Arrival) (name : List ℕ) (address : ℕ) → object_size form (entry_of form x name address) ≡ bytes_of form x
size_is form Arrival.Makes name address = directory_long form
size_is form (Arrival.Saves words) name address = refl

pub few_attrs : (form : NameForm) (x : Arrival) (name : List ℕ) (address : ℕ) → (entry_of form x name address).attrs ≤ 8
few_attrs form Arrival.Makes name address = omega arith
few_attrs form (Arrival.Saves words) name address = omega arith

pub no_last : (form : NameForm) (x : Arrival) (name : List ℕ) (address : ℕ) → (entry_of form x name address).last ≡ 0
no_last form Arrival.Makes name address = refl
no_last form (Arrival.Saves words) name address = refl

pub name_is : (form : NameForm) (x : Arrival) (name : List ℕ) (address : ℕ) → (entry_of form x name address).name ≡ name
name_is form Arrival.Makes name address = refl
name_is form (Arrival.Saves words) name address = refl

pub address_is : (form : NameForm) (x : Arrival) (name : List ℕ) (address : ℕ) → (entry_of form x name address).address ≡ address
address_is form Arrival.Makes name address = refl
address_is form (Arrival.Saves words) name address = refl

-- ---- by each view

-- The path is vacant by each sound view whose parts these are, and its last name can be written.
pub record CanArrive (h : Parts) (path : Path) (dir : ℕ) : Type 0 where
  pub vacant : (v : Opened) → AreSound v.layout v.listings → ArePartsOf h v → IsVacant h.nodes v.listings path dir
  pub writable : is_writable (dir_form h.layout) (last_name path) ≡ true
