-- How the names of a path stand in its bytes.
use Rattle.std.proofs.Common.{◌≡◌, ◌<◌, ◌≤◌, ◌+◌, ◌-◌, ◌==◌, ℕ, Bool, true, false, suc, List, [], ◌∷◌, ◌++◌, length, take, drop, refl, ◌∙◌, sym, ap, arith, append_assoc, append-nil, ne_eqb, if◌then◌else◌, Option, Some, None, nat_lt, ltb-true, ltb-false, unwrap_or}
use Rattle.std.specs.declared.result.Result.{Result}
use Rattle.std.specs.declared.result.Result.TheVariants.{Ok, Err}
use Rattle.std.specs.Result.{OnOk, OnErr}
use Rattle.std.specs.Int.{IsInRange}
use Rattle.std.specs.List.{All, position_or_len}
use Rattle.std.proofs.lemmas.List.{length-append, length-drop, length-take-le, take_all}
use Rattle.std.proofs.Math.Seq.{drop-append_seam}
use Rattle.std.proofs.lemmas.Grind.{flat_map-append}
use Rattle.std.proofs.lemmas.List.Elements.{All-append, All-nil, All-cons, All-head, All-tail}
use Rattle.fc_names.specs.Names.{Path, IsName}
use Rattle.fc_names.specs.Packed.{IsPacked, is_end, names_after, names_in, packed}

-- a name ends at the byte 0 after it
names_after-name : (before name rest : List ℕ) → All (IsInRange 32 255) name
    → names_after before (name ++ 0 ∷ rest) ≡ (before ++ name) ∷ names_in rest
names_after-name before [] rest all = ap (λ b. b ∷ names_in rest) (sym (append-nil before))
names_after-name before (c ∷ name) rest all =
    let range = All-head (IsInRange 32 255) c name all in
    rw (ne_eqb c 0 (λ e. absurd (omega (arith, range.0, e))))
    (
    names_after-name (before ++ c ∷ []) name rest (All-tail (IsInRange 32 255) c name all)
    ∙ ap (λ b. b ∷ names_in rest) (append_assoc before (c ∷ []) name)
    )

-- packed names are read, before any bytes
names_in-packed : (path : Path) (rest : List ℕ) → All IsName path → names_in (packed path ++ rest) ≡ path ++ names_in rest
names_in-packed [] rest all = refl
names_in-packed (name ∷ path) rest all =
    let is = All-head IsName name path all in
    ap names_in (append_assoc (name ++ 0 ∷ []) (packed path) rest ∙ append_assoc name (0 ∷ []) (packed path ++ rest))
    ∙ names_after-name [] name (packed path ++ rest) is.bytes
    ∙ ap (λ names. name ∷ names) (names_in-packed path rest (All-tail IsName name path all))

-- a name is appended with its byte 0
pub names_in-pushed : (bytes name : List ℕ) → IsPacked bytes → IsName name → names_in (bytes ++ (name ++ 0 ∷ [])) ≡ names_in bytes ++ name ∷ []
names_in-pushed bytes name is named =
    ap (λ b. names_in (b ++ (name ++ 0 ∷ []))) (sym is.whole)
    ∙ names_in-packed (names_in bytes) (name ++ 0 ∷ []) is.names
    ∙ ap (λ names. names_in bytes ++ names) (names_after-name [] name [] named.bytes)

pub IsPacked-pushed : (bytes name : List ℕ) → IsPacked bytes → IsName name → IsPacked (bytes ++ (name ++ 0 ∷ []))
IsPacked-pushed bytes name is named =
    let names = names_in-pushed bytes name is named in
    record {
      names = rw names (All-append IsName (names_in bytes) (name ∷ []) is.names (All-cons IsName name [] named (All-nil IsName)));
      whole =
          ap packed names ∙ flat_map-append (λ n. n ++ 0 ∷ []) (names_in bytes) (name ∷ [])
          ∙ ap (λ b. b ++ (name ++ 0 ∷ [] ++ [])) is.whole ∙ ap (λ b. bytes ++ b) (append-nil (name ++ 0 ∷ []));
    }

-- what appending a name makes of the bytes, if there is memory
pub packed_after : {E : Type 0} (result : Result (Unit {0}) E) (old new name : List ℕ) → IsPacked old → IsName name
    → OnOk result (new ≡ old ++ (name ++ 0 ∷ [])) → OnErr result (new ≡ old) → IsPacked new
packed_after (Ok u) old new name is named ok err = rw ok (IsPacked-pushed old name is named)
packed_after (Err e) old new name is named ok err = rw err is

pub names_after-push : {E : Type 0} (result : Result (Unit {0}) E) (old new name : List ℕ) → IsPacked old → IsName name
    → OnOk result (new ≡ old ++ (name ++ 0 ∷ [])) → OnOk result (names_in new ≡ names_in old ++ name ∷ [])
names_after-push (Ok u) old new name is named ok = rw ok (names_in-pushed old name is named)
names_after-push (Err e) old new name is named ok = tt

-- the place of the first byte 0
abbrev pub first_end : List ℕ → Option ℕ
first_end bytes = if nat_lt (position_or_len is_end bytes) (length bytes) then Some (position_or_len is_end bytes) else None

later_end : (c : ℕ) (bytes : List ℕ) → (c == 0) ≡ false → position_or_len is_end (c ∷ bytes) ≡ suc (position_or_len is_end bytes)
later_end c bytes h = rw h (omega arith)

-- where the first name ends, and which come after it
after-first : (before bytes : List ℕ) → position_or_len is_end bytes < length bytes
    → names_after before bytes ≡ (before ++ take (position_or_len is_end bytes) bytes) ∷ names_in (drop (suc (position_or_len is_end bytes)) bytes)
after-first before [] less = absurd (omega (arith, less))
after-first before (c ∷ bytes) less = by (c == 0) refl (after-first (before ++ c ∷ []) bytes)
  where
    Goal : Type 0
    Goal =
        names_after before (c ∷ bytes)
        ≡ (before ++ take (position_or_len is_end (c ∷ bytes)) (c ∷ bytes)) ∷ names_in (drop (suc (position_or_len is_end (c ∷ bytes))) (c ∷ bytes))

    by : (end : Bool) → (c == 0) ≡ end
        → (position_or_len is_end bytes < length bytes → names_after (before ++ c ∷ []) bytes ≡ (before ++ c ∷ [] ++ take (position_or_len is_end bytes) bytes) ∷ names_in (drop (suc (position_or_len is_end bytes)) bytes))
        → Goal
    by true h rest = rw h (ap (λ b. b ∷ names_in bytes) (sym (append-nil before)))
    by false h rest =
        let place = position_or_len is_end bytes in
        let later = later_end c bytes h in
        let less' : suc place < length (c ∷ bytes) = rw later at less in
        rw later
        (rw h (rest (omega (arith, less')) ∙ ap (λ b. b ∷ names_in (drop (suc place) bytes)) (append_assoc before (c ∷ []) (take place bytes))))

-- bytes with no byte 0 have no whole name
after-none : (before bytes : List ℕ) → length bytes ≤ position_or_len is_end bytes → names_after before bytes ≡ []
after-none before [] none = refl
after-none before (c ∷ bytes) none = by (c == 0) refl (after-none (before ++ c ∷ []) bytes)
  where
    by : (end : Bool) → (c == 0) ≡ end
        → (length bytes ≤ position_or_len is_end bytes → names_after (before ++ c ∷ []) bytes ≡ [])
        → names_after before (c ∷ bytes) ≡ []
    by true h rest = let none' = rw h at none in absurd (omega (arith, none'))
    by false h rest =
        let none' : length (c ∷ bytes) ≤ suc (position_or_len is_end bytes) = rw (later_end c bytes h) at none in
        rw h (rest (omega (arith, none')))

pub place-some : (b : Bool) (place at : ℕ) → (if b then Some place else None) ≡ Some at → (b ≡ true) × (place ≡ at)
place-some true place at e = (refl, ap (λ o. unwrap_or o 0) e)
place-some false place at e = cc e

pub place-none : (b : Bool) (place : ℕ) → (if b then Some place else None) ≡ None → b ≡ false
place-none true place e = cc e
place-none false place e = refl

-- the names after the first stand after its byte 0
pub names_in-first : (bytes : List ℕ) (at : ℕ) → first_end bytes ≡ Some at
    → names_in bytes ≡ take at bytes ∷ names_in (drop (at + 1) bytes)
names_in-first bytes at e =
    let place = place-some _ (position_or_len is_end bytes) at e in
    let less = ltb-true (position_or_len is_end bytes) (length bytes) place.0 in
    let next : suc at ≡ at + 1 = omega arith in
    rw (← next, ← place.1) (after-first [] bytes less)

pub names_in-none : (bytes : List ℕ) → first_end bytes ≡ None → names_in bytes ≡ []
names_in-none bytes e = after-none [] bytes (ltb-false (position_or_len is_end bytes) (length bytes) (place-none _ _ e))

-- what stands after the first name is packed, too
pub IsPacked-rest : (bytes : List ℕ) (at : ℕ) → first_end bytes ≡ Some at → IsPacked bytes → IsPacked (drop (at + 1) bytes)
IsPacked-rest bytes at e is =
    let place = place-some _ (position_or_len is_end bytes) at e in
    let less = ltb-true (position_or_len is_end bytes) (length bytes) place.0 in
    let first = names_in-first bytes at e in
    let name = take at bytes ++ 0 ∷ [] in
    let rest = names_in (drop (at + 1) bytes) in
    let size : length (take at bytes) ≡ at = length-take-le at bytes (omega (arith, less, place.1)) in
    let end : length name ≡ at + 1 = length-append (take at bytes) (0 ∷ []) ∙ ap (λ n. n + 1) size in
    let whole : name ++ packed rest ≡ bytes = sym (ap packed first) ∙ is.whole in
    record {
      names = All-tail IsName (take at bytes) rest (rw first at is.names);
      whole = sym (drop-append_seam name (packed rest)) ∙ ap (λ n. drop n (name ++ packed rest)) end ∙ ap (drop (at + 1)) whole;
    }

-- a part up to the end is what stands there
part_to_end : (bytes : List ℕ) (at : ℕ) → take (length bytes - (at + 1)) (drop (at + 1) bytes) ≡ drop (at + 1) bytes
part_to_end bytes at =
    let size = length-drop (at + 1) bytes in
    take_all _ _ (omega (arith, size))

pub next_name : (bytes : List ℕ) (at : ℕ) → first_end bytes ≡ Some at
    → names_in bytes ≡ take at bytes ∷ names_in (take (length bytes - (at + 1)) (drop (at + 1) bytes))
next_name bytes at e = rw (part_to_end bytes at) (names_in-first bytes at e)

pub next_is_packed : (bytes : List ℕ) (at : ℕ) → first_end bytes ≡ Some at → IsPacked bytes
    → IsPacked (take (length bytes - (at + 1)) (drop (at + 1) bytes))
next_is_packed bytes at e is = rw (part_to_end bytes at) (IsPacked-rest bytes at e is)
