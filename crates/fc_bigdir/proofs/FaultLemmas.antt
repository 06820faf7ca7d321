-- The first fault of a directory, and what stands if there is none around the entries.
use Rattle.std.proofs.Common.{◌≡◌, ◌≤◌, ◌≢◌, ℕ, ◌+◌, ◌*◌, ◌%◌, ◌-◌, ◌&&◌, ◌||◌, ◌==◌, Bool, true, false, not, nat_le, List, [], ◌∷◌, length, slice_index, Some, None, Option, refl, sym, ap, ◌∙◌, arith, subst, inl, inr}
use Rattle.std.specs.Int.{is_in_range}
use Rattle.std.proofs.lemmas.Bool.{cases_eq, and_parts as both}
use Rattle.std.proofs.lemmas.Bool.Decides.{nat_tests}
use Rattle.fc_bytes.specs.Checks.{is_big_size, big_dir_check}
use Rattle.fc_bytes.specs.Words.{u32_at}
use Rattle.fc_dirs.specs.declared.DirFault.{DirFault}
use Rattle.fc_dirs.specs.declared.DirError.{DirError}
use Rattle.fc_dirs.specs.declared.DirError.TheVariants.{Fault, NoMemory}
use Rattle.fc_dirs.specs.declared.DirFault.TheVariants.{Magic, Sequence, Size, Check, BadEntry, Twin}
use Rattle.std.specs.Option.{option_map}
use Rattle.fc_dirs.specs.Entries.{fault_unless, first_of, first_twin}
use Rattle.fc_dirs.specs.Big.{big_entries, big_fault, first_bad_entry, does_fit, entry_count, frame_fault, has_second_form, head_space, heap_end, heap_len, is_check_right, is_magic_right, is_sequence_right, is_size_right, name_len}
use Rattle.fc_dirs.specs.Faults.{IsFaultOf}

-- ---- the first of three faults

pub first_at : (a b c : Option DirFault) (f : DirFault) → a ≡ Some f → first_of (a ∷ b ∷ c ∷ []) ≡ Some f
first_at a b c f is = rw is refl

pub second_at : (a b c : Option DirFault) (e : DirError) → a ≡ None → IsFaultOf b e → IsFaultOf (first_of (a ∷ b ∷ c ∷ [])) e
second_at a b c NoMemory none is = tt
second_at a b c (Fault f) none is = rw (none, is) refl

pub third_at : (a b c : Option DirFault) (e : DirError) → a ≡ None → b ≡ None → IsFaultOf c e → IsFaultOf (first_of (a ∷ b ∷ c ∷ [])) e
third_at a b c NoMemory none none' is = tt
third_at a b c (Fault f) none none' is = rw (none, none', is) refl

pub none_at : (a b c : Option DirFault) → a ≡ None → b ≡ None → c ≡ None → first_of (a ∷ b ∷ c ∷ []) ≡ None
none_at a b c first second third = rw (first, second, third) refl

-- ---- bytes without a fault around the entries

from_unless : (right : Bool) (f : DirFault) (rest : List (Option DirFault)) → first_of (fault_unless right f ∷ rest) ≡ None → (right ≡ true) × (first_of rest ≡ None)
from_unless true f rest none = (refl, none)
from_unless false f rest none = absurd (cc)

-- What fits, and which form it is.
pub record IsFramed (b : List ℕ) (second_form : Bool) : Type 0 where
  pub size : is_big_size (length b) ≡ true
  pub least : 2048 ≤ length b
  pub most : length b ≤ 4194304
  pub parts : 28 + head_space second_form (name_len b) + 28 * entry_count b + heap_len b + 8 ≤ length b
  pub fits : does_fit second_form b ≡ true
  pub named : name_len b ≤ head_space second_form (name_len b)
  pub words : heap_len b % 4 ≡ 0
  pub form : second_form ≡ true → name_len b % 4 ≡ 0

-- whether the check is right, where the head's name has that space
is_right_with : ℕ → List ℕ → Bool
is_right_with space b =
    let end = 28 + space + 28 * entry_count b + heap_len b in
    nat_le (end + 8) (length b) && (slice_index b (length b - 1) == big_dir_check b end)

same_space : (n : ℕ) → n % 4 ≢ 0 → head_space true n ≡ head_space false n
same_space n odd = omega (arith, odd)

second_words : (b : List ℕ) → is_check_right false b ≡ false → is_check_right true b ≡ true → name_len b % 4 ≡ 0
unfolding is_right_with
second_words b first second = elim (cases_eq (name_len b % 4) 0) [
  | inl is ↦ is
  | inr other ↦
      let same : is_check_right true b ≡ is_check_right false b = ap (λ n. is_right_with n b) (same_space (name_len b) other) in
      absurd (let bad : true ≡ false = sym second ∙ same ∙ first in cc)
]

pub space_holds : (form : Bool) (n : ℕ) → n ≤ head_space form n
space_holds true n = omega arith
space_holds false n = omega arith

pub framed : (b : List ℕ) → frame_fault b ≡ None → IsFramed b (has_second_form b)
framed b none =
    let size = from_unless (is_big_size (length b)) Size _ none in
    let magic = from_unless (is_magic_right b) Magic _ (size.1) in
    let sequence = from_unless (is_sequence_right b) Sequence _ (magic.1) in
    let sizes = from_unless (is_size_right b) Size _ (sequence.1) in
    let check = from_unless (is_check_right false b || is_check_right true b) Check _ (sizes.1) in
    go (is_check_right false b) refl (size.0) (sizes.0) (check.0) where
      with_form : (form : Bool) → is_big_size (length b) ≡ true → is_size_right b ≡ true → is_check_right form b ≡ true → (form ≡ true → name_len b % 4 ≡ 0) → IsFramed b form
      with_form form size sizes check words =
          let range = both (is_in_range 2048 4194304 (length b)) (length b % 2048 == 0) size in
          let ends = both (nat_le 2048 (length b)) (nat_le (length b) 4194304) (range.0) in
          let low = ends.0 in
          let high = ends.1 in
          let fit = both (does_fit form b) (slice_index b (length b - 1) == big_dir_check b (heap_end form b)) check in
          let inside = fit.0 in
          let whole = both ((u32_at b 12 == length b) && (does_fit false b || does_fit true b)) (heap_len b % 4 == 0) sizes in
          let four = whole.1 in
          record {
            size = size;
            least = grind (arith, nat_tests, low);
            most = grind (arith, nat_tests, high);
            parts = le_from (28 + head_space form (name_len b) + 28 * entry_count b + heap_len b + 8) (length b) inside;
            fits = inside;
            named = space_holds form (name_len b);
            words = zero_from (heap_len b % 4) four;
            form = words;
          } where
            le_from : (x y : ℕ) → nat_le x y ≡ true → x ≤ y
            le_from x y is = grind (arith, nat_tests, is)

            zero_from : (x : ℕ) → (x == 0) ≡ true → x ≡ 0
            zero_from x is = grind (arith, nat_tests, is)

      go : (first : Bool) → is_check_right false b ≡ first → is_big_size (length b) ≡ true → is_size_right b ≡ true → (is_check_right false b || is_check_right true b) ≡ true
          → IsFramed b (has_second_form b)
      go true first size sizes check =
          subst (IsFramed b) (sym (ap not first)) (with_form false size sizes first (λ h. absurd (cc)))
      go false first size sizes check =
          let second : is_check_right true b ≡ true = ap (λ f. f || is_check_right true b) (sym first) ∙ check in
          subst (IsFramed b) (sym (ap not first)) (with_form true size sizes second (λ h. second_words b first second))

-- ---- all faults

pub frame_first : (b : List ℕ) (f : DirFault) → frame_fault b ≡ Some f → big_fault b ≡ Some f
unfolding big_fault
frame_first b f is = first_at (frame_fault b) _ _ f is

pub entry_next : (b : List ℕ) (e : DirError) → frame_fault b ≡ None → IsFaultOf (option_map BadEntry (first_bad_entry (has_second_form b) b)) e → IsFaultOf (big_fault b) e
unfolding big_fault
entry_next b e frame is = second_at (frame_fault b) _ _ e frame is

pub twin_last : (b : List ℕ) (e : DirError) → frame_fault b ≡ None → first_bad_entry (has_second_form b) b ≡ None
    → IsFaultOf (option_map Twin (first_twin (big_entries (has_second_form b) b))) e → IsFaultOf (big_fault b) e
unfolding big_fault
twin_last b e frame right is = third_at (frame_fault b) _ _ e frame (ap (option_map BadEntry) right) is

pub no_fault : (b : List ℕ) → frame_fault b ≡ None → first_bad_entry (has_second_form b) b ≡ None → first_twin (big_entries (has_second_form b) b) ≡ None → big_fault b ≡ None
unfolding big_fault
no_fault b frame right apart = none_at (frame_fault b) _ _ frame (ap (option_map BadEntry) right) (ap (option_map Twin) apart)
