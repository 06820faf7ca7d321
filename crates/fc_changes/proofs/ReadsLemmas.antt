-- What a written directory reads as, and edits of entries by name.
use Rattle.std.proofs.Common.{◌≡◌, ℕ, Bool, true, false, cond, List, [], ◌∷◌, ◌++◌, sym, ap, ap₂, subst, ◌∙◌, Some, None, Option}
use Rattle.std.specs.Prelude.{Result, Ok, slice_get, slice_set, map, ◌&&◌}
use Rattle.fc_names.specs.declared.name.NameForm.{NameForm}
use Rattle.fc_names.specs.declared.name.NameForm.TheVariants.{Seven, Ten, Long}
use Rattle.fc_names.specs.Names.{Path, is_same_name, is_same_path}
use Rattle.fc_model.specs.Tree.{holder, last_name}
use Rattle.fc_model.specs.Command.{Command}
use Rattle.fc_dirs.specs.declared.Entry.{Entry}
use Rattle.fc_dirs.specs.declared.DirFault.{DirFault}
use Rattle.fc_dirs.specs.declared.SmallForm.{SmallForm}
use Rattle.fc_dirs.specs.declared.SmallForm.TheVariants.{Bytes1280, Bytes2048}
use Rattle.fc_dirs.specs.Entries.{first_twin, with_entry}
use Rattle.fc_dirs.specs.Small.{SmallDir, small_dir, small_fault}
use Rattle.fc_dirs.specs.Big.{BigDir, big_dir, big_fault}
use Rattle.fc_dirs.specs.Directory.{Directory, directory_of, read_or}
use Rattle.fc_dirs.proofs.EditLemmas.{edit_law}
use Rattle.fc_image.proofs.PathsLemmas.{cut, itself, root_other, same_last}
use Rattle.fc_image.proofs.RenameLemmas.{last_pushed}
use Rattle.fc_image.proofs.CommandLemmas.{same_by_folds}
use Rattle.fc_image.proofs.TreeLemmas.{folds_alike}
use Rattle.fc_image.specs.effects.Steady.{AreWritten, IsRewritten, replaced_entry, with_made}
use Rattle.fc_changes.proofs.BasicLemmas.{clash, holder_pushed}
use Rattle.std.proofs.lemmas.Bool.{false_from_ne_true as unless}
use Rattle.fc_record.proofs.KindLemmas.{and_first, and_second}

-- ---- reading back

pub said : (fault : Option DirFault) (dir content : Directory) → read_or fault dir ≡ Ok content → dir ≡ content
said None dir content h = same dir content h
  where
    same : (x y : Directory) → (let q : Result Directory DirFault = Ok x in q) ≡ Ok y → x ≡ y
    same x y g = cc
said (Some fault) dir content h = absurd (cc)

pub told : (fault : Option DirFault) (dir content : Directory) → fault ≡ None → dir ≡ content → read_or fault dir ≡ Ok content
told None dir content e is = ap (λ (d : Directory). let q : Result Directory DirFault = Ok d in q) is
told (Some fault) dir content e is = absurd (cc)

small_same : (a b : SmallDir) → Directory.Small a ≡ Directory.Small b → a ≡ b
small_same a b h = cc

not_big : (a : SmallDir) (b : BigDir) → Directory.Small a ≡ Directory.Big b → ⊥
not_big a b h = cc

-- a small directory has the form by which it is read
form_read : (form : SmallForm) (bytes : List ℕ) (dir : SmallDir) → small_dir form bytes ≡ dir → dir.form ≡ form
unfolding small_dir
form_read form bytes dir is = ap (λ (d : SmallDir). d.form) (sym is)

small_back : (form : SmallForm) (before bytes : List ℕ) (old new : SmallDir) → small_dir form before ≡ old → new.form ≡ old.form → AreWritten bytes (Directory.Small new)
    → read_or (small_fault form bytes) (Directory.Small (small_dir form bytes)) ≡ Ok (Directory.Small new)
small_back form before bytes old new was same written =
    let is : new.form ≡ form = same ∙ form_read form before old was in
    told (small_fault form bytes) (Directory.Small (small_dir form bytes)) (Directory.Small new)
    (subst (λ (f : SmallForm). small_fault f bytes ≡ None) is written.reads.right)
    (ap (λ (d : SmallDir). Directory.Small d) (subst (λ (f : SmallForm). small_dir f bytes ≡ new) is written.reads.says))

pub reads_back : (form : NameForm) (before bytes : List ℕ) (c : Command) (path : Path) (parent : ℕ) (old new : Directory) → directory_of form before ≡ Ok old
    → IsRewritten c path parent old new → AreWritten bytes new → directory_of form bytes ≡ Ok new
reads_back Seven before bytes c path parent (Directory.Small old) (Directory.Small new) was says written =
    small_back Bytes1280 before bytes old new (small_same (small_dir Bytes1280 before) old (said (small_fault Bytes1280 before) (Directory.Small (small_dir Bytes1280 before)) (Directory.Small old) was))
    (ap (λ (d : SmallDir). d.form) says) written
reads_back Ten before bytes c path parent (Directory.Small old) (Directory.Small new) was says written =
    small_back Bytes2048 before bytes old new (small_same (small_dir Bytes2048 before) old (said (small_fault Bytes2048 before) (Directory.Small (small_dir Bytes2048 before)) (Directory.Small old) was))
    (ap (λ (d : SmallDir). d.form) says) written
reads_back Long before bytes c path parent (Directory.Small old) new was says written =
    absurd (not_big old (big_dir before) (sym (said (big_fault before) (Directory.Big (big_dir before)) (Directory.Small old) was)))
reads_back Seven before bytes c path parent (Directory.Big old) new was says written =
    absurd (not_big (small_dir Bytes1280 before) old (said (small_fault Bytes1280 before) (Directory.Small (small_dir Bytes1280 before)) (Directory.Big old) was))
reads_back Ten before bytes c path parent (Directory.Big old) new was says written =
    absurd (not_big (small_dir Bytes2048 before) old (said (small_fault Bytes2048 before) (Directory.Small (small_dir Bytes2048 before)) (Directory.Big old) was))
reads_back Long before bytes c path parent (Directory.Big old) (Directory.Big new) was says written =
    told (big_fault bytes) (Directory.Big (big_dir bytes)) (Directory.Big new) written.reads.right (ap (λ (d : BigDir). Directory.Big d) written.reads.says)
reads_back Seven before bytes c path parent (Directory.Small old) (Directory.Big new) was says written = absurd says
reads_back Ten before bytes c path parent (Directory.Small old) (Directory.Big new) was says written = absurd says
reads_back Long before bytes c path parent (Directory.Big old) (Directory.Small new) was says written = absurd says

-- ---- entries

-- where a path lies that is a directory's, and a name
pub record LiesIn (path dir : Path) (name : List ℕ) : Type 0 where
  pub holds : is_same_path (holder path) dir ≡ true
  pub named : is_same_name (last_name path) name ≡ true

pub lies_in : (path dir : Path) (name : List ℕ) → is_same_path path (dir ++ name ∷ []) ≡ true → LiesIn path dir name
lies_in [] dir name same = absurd (let no = root_other dir name in cc)
lies_in (x ∷ path) dir name same =
    let c = cut x path in
    let both : (is_same_path c.front dir && is_same_name c.last name) ≡ true =
    sym (same_last c.front dir c.last name) ∙ ap (λ (p : Path). is_same_path p (dir ++ name ∷ [])) (sym c.is) ∙ same in
    record {
      holds = ap (λ (p : Path). is_same_path (holder p) dir) c.is ∙ ap (λ (p : Path). is_same_path p dir) (holder_pushed c.front c.last) ∙ and_first (is_same_path c.front dir) (is_same_name c.last name) both;
      named = ap (λ (p : Path). is_same_name (last_name p) name) c.is ∙ ap (λ (n : List ℕ). is_same_name n name) (last_pushed c.front c.last) ∙ and_second (is_same_path c.front dir) (is_same_name c.last name) both;
    }

-- a path that is that of one directory is that of no other
pub other_dir : (p a b : Path) → is_same_path p a ≡ true → is_same_path a b ≡ false → is_same_path p b ≡ false
other_dir p a b same other =
    unless (is_same_path p b) (λ too. clash (is_same_path a b) (same_by_folds a b (sym (folds_alike p a same) ∙ folds_alike p b too)) other)

pub same_name_itself : (name : List ℕ) → is_same_name name name ≡ true
same_name_itself name = and_second (is_same_path [] []) (is_same_name name name) (sym (same_last [] [] name name) ∙ itself (name ∷ []))

-- a new entry of the same name takes the place of the old one
pub changed_entry : (entries : List Entry) (i : ℕ) (e new : Entry) → first_twin entries ≡ None → slice_get entries i ≡ Some e → new.name ≡ e.name
    → slice_set entries i new ≡ with_made (Some new) entries
changed_entry entries i e new once at same =
    let named : is_same_name e.name new.name ≡ true = ap (λ (n : List ℕ). is_same_name e.name n) same ∙ same_name_itself e.name in
    edit_law.changed entries i e new once at named
    ∙ sym (ap (λ (b : Bool). cond b (map (replaced_entry new) entries) (with_entry new entries)) (edit_law.there entries i e new.name at named))

pub same_name_turned : (a b : List ℕ) → is_same_name a b ≡ true → is_same_name b a ≡ true
same_name_turned a b h =
    let there : is_same_path (a ∷ []) (b ∷ []) ≡ true = same_last [] [] a b ∙ ap₂ (λ (x y : Bool). x && y) (itself []) h in
    and_second (is_same_path [] []) (is_same_name b a) (sym (same_last [] [] b a) ∙ same_by_folds (b ∷ []) (a ∷ []) (sym (folds_alike (a ∷ []) (b ∷ []) there)))

-- a path of a directory and a name is that of the directory and a name that folds alike
pub same_path_of : (path dir : Path) (name other : List ℕ) (there : Path) → is_same_path path (dir ++ name ∷ []) ≡ true → is_same_name name other ≡ true → there ≡ dir ++ other ∷ []
    → is_same_path path there ≡ true
same_path_of path dir name other there same alike is =
    let names : is_same_path (dir ++ name ∷ []) (dir ++ other ∷ []) ≡ true = same_last dir dir name other ∙ ap₂ (λ (x y : Bool). x && y) (itself dir) alike in
    ap (λ (p : Path). is_same_path path p) is
    ∙ same_by_folds path (dir ++ other ∷ []) (folds_alike path (dir ++ name ∷ []) same ∙ folds_alike (dir ++ name ∷ []) (dir ++ other ∷ []) names)
