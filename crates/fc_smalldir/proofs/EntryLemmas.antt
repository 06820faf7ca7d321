-- What is written of an entry reads as the entry.
use Rattle.std.proofs.Common.{◌≡◌, ◌≤◌, ◌<◌, ℕ, zero, suc, ◌*◌, ◌^◌, ◌/◌, ◌%◌, ◌==◌, false, List, [], ◌∷◌, ◌++◌, length, map, take, drop, replicate, slice_index, refl, sym, ap, ap₂, ◌∙◌, arith, append_assoc, length-append}
use Rattle.std.specs.List.{AllByRecursion, flat_map}
use Rattle.std.proofs.lemmas.List.{take_at, drop_at, drop-drop, get_or-drop}
use Rattle.std.proofs.lemmas.Bool.Decides.{nat_tests}
use Rattle.byteorder.specs.Endian.{little_bytes, little_number}
use Rattle.byteorder.specs.Numbers.{little_number-reads_back, length-bytes_low_first}
use Rattle.fc_bytes.specs.Bits.{num}
use Rattle.fc_dirs.specs.declared.Entry.{Entry}
use Rattle.fc_dirs.specs.declared.SmallForm.{SmallForm}
use Rattle.fc_dirs.specs.declared.SmallForm.TheVariants.{Bytes1280, Bytes2048}
use Rattle.fc_dirs.specs.Entries.{padded_name}
use Rattle.fc_dirs.specs.Small.{FitsSmall, small_entry, name_in, entries_in, byte_limit}
use Rattle.fc_dirs.specs.SmallBytes.{entry_bytes, name_bytes}
use Rattle.fc_smalldir.proofs.NameLemmas.{ArePrinted, name_in-padded, length-padded, length-with_tops, low-with_tops, num-with_tops, padded_name_low}

pub length-name_bytes : (form : SmallForm) (e : Entry) → length (name_bytes form e) ≡ 10
length-name_bytes Bytes2048 e = length-padded 10 e.name
length-name_bytes Bytes1280 e = length-with_tops e.attrs (padded_name 10 e.name) ∙ length-padded 10 e.name

-- the numbers of an entry, each at its place after a name of ten bytes
pub record SaysNumbers (bytes name : List ℕ) (load exec len address last : ℕ) : Type 0 where
  pub name_is : take 10 bytes ≡ name
  pub load_is : little_number 4 (drop 10 bytes) ≡ load
  pub exec_is : little_number 4 (drop 14 bytes) ≡ exec
  pub len_is : little_number 4 (drop 18 bytes) ≡ len
  pub address_is : little_number 3 (drop 22 bytes) ≡ address
  pub last_is : slice_index bytes 25 ≡ last

regrouped : (a b c d e f : List ℕ) → a ++ b ++ c ++ d ++ e ++ f ≡ a ++ (b ++ (c ++ (d ++ (e ++ f))))
regrouped a b c d e f = simp append_assoc

pub says_numbers : (name : List ℕ) (load exec len address last : ℕ) → length name ≡ 10 → load < 2 ^ 32 → exec < 2 ^ 32 → len < 2 ^ 32 → address < 2 ^ 24
    → SaysNumbers (name ++ little_bytes 4 load ++ little_bytes 4 exec ++ little_bytes 4 len ++ little_bytes 3 address ++ last ∷ []) name load exec len address last
says_numbers name load exec len address last ten hload hexec hlen haddress =
    let l = little_bytes 4 load in
    let x = little_bytes 4 exec in
    let n = little_bytes 4 len in
    let a = little_bytes 3 address in
    let bytes = name ++ l ++ x ++ n ++ a ++ last ∷ [] in
    let r22 : List ℕ = a ++ last ∷ [] in
    let r18 : List ℕ = n ++ r22 in
    let r14 : List ℕ = x ++ r18 in
    let r10 : List ℕ = l ++ r14 in
    let e0 : bytes ≡ name ++ r10 = regrouped name l x n a (last ∷ []) in
    let d10 : drop 10 bytes ≡ r10 = ap (drop 10) e0 ∙ drop_at name r10 10 ten in
    let d14 : drop 14 bytes ≡ r14 =
    sym (drop-drop 4 10 bytes) ∙ ap (drop 4) d10 ∙ drop_at l r14 4 (length-bytes_low_first 0 4 load) in
    let d18 : drop 18 bytes ≡ r18 =
    sym (drop-drop 4 14 bytes) ∙ ap (drop 4) d14 ∙ drop_at x r18 4 (length-bytes_low_first 0 4 exec) in
    let d22 : drop 22 bytes ≡ r22 =
    sym (drop-drop 4 18 bytes) ∙ ap (drop 4) d18 ∙ drop_at n r22 4 (length-bytes_low_first 0 4 len) in
    let d25 : drop 25 bytes ≡ last ∷ [] =
    sym (drop-drop 3 22 bytes) ∙ ap (drop 3) d22 ∙ drop_at a (last ∷ []) 3 (length-bytes_low_first 0 3 address) in
    record {
      name_is = ap (take 10) e0 ∙ take_at name r10 10 ten;
      load_is = ap (little_number 4) d10 ∙ little_number-reads_back 4 load r14 hload;
      exec_is = ap (little_number 4) d14 ∙ little_number-reads_back 4 exec r18 hexec;
      len_is = ap (little_number 4) d18 ∙ little_number-reads_back 4 len r22 hlen;
      address_is = ap (little_number 3) d22 ∙ little_number-reads_back 3 address (last ∷ []) haddress;
      last_is = sym (get_or-drop 25 bytes 0 0) ∙ ap (λ r. slice_index r 0) d25;
    }

-- an entry reads as it was written
pub entry-read_back : (form : SmallForm) (e : Entry) → FitsSmall form e → small_entry form (entry_bytes form e) ≡ e
entry-read_back Bytes2048 e fits =
    let says = says_numbers (name_bytes Bytes2048 e) e.load e.exec e.len e.address e.attrs (length-name_bytes Bytes2048 e) fits.load fits.exec fits.len fits.address in
    let name : name_in (take 10 (entry_bytes Bytes2048 e)) ≡ e.name = ap name_in says.name_is ∙ name_in-padded 256 10 e.name (replicate 10 0) fits.short fits.printed in
    let last : 0 ≡ e.last = omega (arith, fits.last) in
    λ i. record { name = name i; load = says.load_is i; exec = says.exec_is i; len = says.len_is i; address = says.address_is i; attrs = says.last_is i; last = last i }
entry-read_back Bytes1280 e fits =
    let says = says_numbers (name_bytes Bytes1280 e) e.load e.exec e.len e.address e.last (length-name_bytes Bytes1280 e) fits.load fits.exec fits.len fits.address in
    let padded = padded_name 10 e.name in
    let low = padded_name_low e.name fits.printed in
    let field : map (λ c. c % 128) (take 10 (entry_bytes Bytes1280 e)) ≡ padded = ap (map (λ c. c % 128)) says.name_is ∙ low-with_tops e.attrs padded low in
    let name : name_in (map (λ c. c % 128) (take 10 (entry_bytes Bytes1280 e))) ≡ e.name =
    ap name_in field ∙ name_in-padded 128 10 e.name (replicate 10 0) fits.short fits.printed in
    let few : e.attrs < 2 ^ length padded = rw (length-padded 10 e.name) fits.attrs in
    let tops : num (map (λ c. c / 128) (take 10 (entry_bytes Bytes1280 e))) ≡ e.attrs =
    ap (λ l. num (map (λ c. c / 128) l)) says.name_is ∙ num-with_tops e.attrs padded low few in
    λ i. record { name = name i; load = says.load_is i; exec = says.exec_is i; len = says.len_is i; address = says.address_is i; attrs = tops i; last = says.last_is i }

-- the first byte of an entry isn't 0
pub first_byte : (form : SmallForm) (e : Entry) (rest : List ℕ) → FitsSmall form e → 32 ≤ slice_index (entry_bytes form e ++ rest) 0
first_byte form e rest fits = first form e.name e rest refl fits.named fits.printed where
  first : (form : SmallForm) (name : List ℕ) (e : Entry) (rest : List ℕ) → e.name ≡ name → 0 < length e.name → ArePrinted (byte_limit form) e.name → 32 ≤ slice_index (entry_bytes form e ++ rest) 0
  first form [] e rest is named printed = absurd (omega (arith, ap length is))
  first Bytes2048 (c ∷ name) e rest is named printed = rw is ((rw is at printed).0.0)
  first Bytes1280 (c ∷ name) e rest is named printed =
      let p : ArePrinted 128 (c ∷ name) = rw is at printed in
      let big : 32 ≤ c = p.0.0 in
      rw is (omega arith)

pub length-entry_bytes : (form : SmallForm) (e : Entry) → length (entry_bytes form e) ≡ 26
length-entry_bytes form e =
    let ten = length-name_bytes form e in
    let l4 = length-bytes_low_first 0 4 in
    let l3 = length-bytes_low_first 0 3 in
    simp length-append (omega (arith, ten, l4 e.load, l4 e.exec, l4 e.len, l3 e.address))

pub length-entries : (form : SmallForm) (es : List Entry) → length (flat_map (entry_bytes form) es) ≡ 26 * length es
length-entries form [] = refl
length-entries form (e ∷ es) =
    length-append (entry_bytes form e) (flat_map (entry_bytes form) es) ∙ omega (arith, length-entry_bytes form e, length-entries form es)

-- the entries read as they were written, up to the first place that is free
pub entries-read_back : (places : ℕ) (form : SmallForm) (es : List Entry) (rest : List ℕ) → length es ≤ places → AllByRecursion (FitsSmall form) es → (length es < places → slice_index rest 0 ≡ 0)
    → entries_in places form (flat_map (entry_bytes form) es ++ rest) ≡ es
entries-read_back zero form [] rest few fit free = refl
entries-read_back zero form (e ∷ es) rest few fit free = absurd (omega arith)
entries-read_back (suc places) form [] rest few fit free =
    let zero_here : slice_index rest 0 ≡ 0 = free (omega arith) in
    rw zero_here refl
entries-read_back (suc places) form (e ∷ es) rest few fit free =
    let here = entry_bytes form e in
    let behind : List ℕ = flat_map (entry_bytes form) es ++ rest in
    let split : flat_map (entry_bytes form) (e ∷ es) ++ rest ≡ here ++ behind = append_assoc here (flat_map (entry_bytes form) es) rest in
    let size = length-entry_bytes form e in
    let more : entries_in places form behind ≡ es = entries-read_back places form es rest (omega arith) fit.1 (λ l. free (omega (arith, l))) in
    let others : entries_in places form (drop 26 (here ++ behind)) ≡ es = ap (entries_in places form) (drop_at here behind 26 size) ∙ more in
    let front : small_entry form (take 26 (here ++ behind)) ≡ e = ap (small_entry form) (take_at here behind 26 size) ∙ entry-read_back form e fit.0 in
    let some : (slice_index (here ++ behind) 0 == 0) ≡ false = grind (arith, nat_tests, first_byte form e behind fit.0) in
    rw split (rw some (ap₂ (λ x l. x ∷ l) front others))
