-- The first fault of a directory.
use Rattle.std.proofs.Common.{◌≡◌, ◌<◌, ◌≤◌, ℕ, ◌+◌, true, false, List, length, drop, slice_index, Some, None, refl, sym, ap, ◌∙◌, subst, arith, length-take-le, length-drop}
use Rattle.std.specs.List.{AllByRecursion}
use Rattle.std.specs.Option.{option_map}
use Rattle.byteorder.specs.Numbers.{little_from-lt}
use Rattle.fc_bytes.specs.Words.{bytes_at}
use Rattle.fc_dirs.specs.declared.Entry.{Entry}
use Rattle.fc_dirs.specs.declared.DirFault.TheVariants.{Magic, Sequence, Check, BadEntry, Twin}
use Rattle.fc_dirs.specs.declared.SmallForm.{SmallForm}
use Rattle.fc_dirs.specs.declared.SmallForm.TheVariants.{Bytes1280, Bytes2048}
use Rattle.fc_dirs.specs.Entries.{first_twin}
use Rattle.fc_dirs.specs.Small.{FitsSmall, IsSmall, IsSmallDir, small_fault, small_dir, small_entries, tail_of, first_nameless, is_magic_right, is_sequence_right, is_small_check_right}
use Rattle.fc_dirs.specs.declared.DirError.{DirError}
use Rattle.fc_dirs.specs.declared.DirError.TheVariants.{Fault, NoMemory}
use Rattle.fc_dirs.specs.Faults.{IsFaultOf}
use Rattle.fc_smalldir.specs.Fields.{AreRead}
use Rattle.fc_smalldir.proofs.ReadBack.{none_nameless}
use Rattle.fc_smalldir.proofs.ReadLemmas.{drop_bytes}

-- The three tests before the entries are passed.
pub record IsChecked (form : SmallForm) (b : List ℕ) : Type 0 where
  pub magic : is_magic_right form b ≡ true
  pub sequence : is_sequence_right form b ≡ true
  pub check : is_small_check_right form b ≡ true

pub fault_magic : (form : SmallForm) (b : List ℕ) → is_magic_right form b ≡ false → small_fault form b ≡ Some Magic
unfolding small_fault
fault_magic form b m = rw m refl

pub fault_sequence : (form : SmallForm) (b : List ℕ) → is_magic_right form b ≡ true → is_sequence_right form b ≡ false → small_fault form b ≡ Some Sequence
unfolding small_fault
fault_sequence form b m s = rw (m, s) refl

pub fault_check : (form : SmallForm) (b : List ℕ) → is_magic_right form b ≡ true → is_sequence_right form b ≡ true → is_small_check_right form b ≡ false → small_fault form b ≡ Some Check
unfolding small_fault
fault_check form b m s k = rw (m, s, k) refl

pub fault_entry : (form : SmallForm) (b : List ℕ) (e : DirError) → IsChecked form b → IsFaultOf (option_map BadEntry (first_nameless (small_entries form b))) e → IsFaultOf (small_fault form b) e
unfolding small_fault
fault_entry form b NoMemory checked is = tt
fault_entry form b (Fault f) checked is = rw (checked.magic, checked.sequence, checked.check, is) refl

pub fault_twin : (form : SmallForm) (b : List ℕ) (es : List Entry) (at : ℕ) → IsChecked form b → AreRead form b es → Some at ≡ first_twin es → small_fault form b ≡ Some (Twin at)
unfolding small_fault
fault_twin form b es at checked read twin =
    let named : first_nameless (small_entries form b) ≡ None = ap first_nameless (sym read.same) ∙ none_nameless form es read.fit in
    let found : first_twin (small_entries form b) ≡ Some at = ap first_twin (sym read.same) ∙ sym twin in
    rw (checked.magic, checked.sequence, checked.check, named, found) refl

pub no_fault_left : (form : SmallForm) (b : List ℕ) (es : List Entry) → IsChecked form b → AreRead form b es → first_twin es ≡ None → small_fault form b ≡ None
unfolding small_fault
no_fault_left form b es checked read apart =
    let named : first_nameless (small_entries form b) ≡ None = ap first_nameless (sym read.same) ∙ none_nameless form es read.fit in
    let none : first_twin (small_entries form b) ≡ None = ap first_twin (sym read.same) ∙ apart in
    rw (checked.magic, checked.sequence, checked.check, named, none) refl

pub length_at : (b : List ℕ) (at n : ℕ) → at + n ≤ length b → length (bytes_at b at n) ≡ n
length_at b at n within = length-take-le n (drop at b) (omega (arith, length-drop at b))

-- What bytes say can be written again.
pub small_said : (form : SmallForm) (b : List ℕ) (es : List Entry) → ((k : ℕ) → slice_index b k < 256) → length b ≡ (tail_of form).size → length (small_entries form b) ≤ (tail_of form).places
    → AreRead form b es → first_twin es ≡ None → IsSmall (small_dir form b)
unfolding small_dir
small_said Bytes2048 b es below size few read apart = record {
  places = few;
  entries = subst (AllByRecursion (FitsSmall Bytes2048)) read.same read.fit;
  apart = ap first_twin (sym read.same) ∙ apart;
  sequence = below 0;
  parent = little_from-lt 0 3 (drop 2010 b) (drop_bytes 2010 b below);
  name = length_at b 2032 10 (omega arith);
  title = length_at b 2013 19 (omega arith);
  reserved = length_at b 2008 2 (omega arith);
}
small_said Bytes1280 b es below size few read apart = record {
  places = few;
  entries = subst (AllByRecursion (FitsSmall Bytes1280)) read.same read.fit;
  apart = ap first_twin (sym read.same) ∙ apart;
  sequence = below 0;
  parent = little_from-lt 0 3 (drop 1238 b) (drop_bytes 1238 b below);
  name = length_at b 1228 10 (omega arith);
  title = length_at b 1241 19 (omega arith);
  reserved = length_at b 1260 14 (omega arith);
}

pub said_form : (form : SmallForm) (b : List ℕ) → (small_dir form b).form ≡ form
unfolding small_dir
said_form form b = refl

pub said : (form : SmallForm) (b : List ℕ) → length b ≡ (tail_of form).size → small_fault form b ≡ None → IsSmallDir b (small_dir form b)
unfolding small_dir
said form b size right = record { size = size; right = right; says = refl }
