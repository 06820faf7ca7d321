-- A file of a host that is made and gets bytes, piece by piece.
use Rattle.std.proofs.Common.{◌≡◌, inl, inr, ℕ, Bool, true, false, not, List, [], ◌∷◌, ◌++◌, length, take, drop, Option, Some, None, option_map, is_some, Result, Ok, Err, OnOk, OnErr, refl, sym, ap, ap₂, subst, ◌∙◌, append_assoc}
use Rattle.std.specs.List.{Contains}
use Rattle.std.specs.Option.{ForSome}
use Rattle.std.specs.FinMap.{insert}
use Rattle.std.proofs.lemmas.List.{append-nil, map-append, take_at, take-append-drop}
use Rattle.std.proofs.lemmas.Grind.{flat_map-append}
use Rattle.fc_device.specs.declared.disk.Failed.{Failed}
use Rattle.fc_host.specs.declared.asks.HostCall.TheVariants as calls
use Rattle.fc_host.specs.Answers.{AnswersCalls, joined, made_of}
use Rattle.fc_host.specs.Asked.{Asked, made_by}
use Rattle.fc_host.specs.Calls.{remove_asked}
use Rattle.fc_host.specs.Files.{Files, MayBeGone, MayBeMade, bytes_of, is_there, with_more, without}
use Rattle.fc_host.specs.HostLaws.{made_more}
use Rattle.fc_host.proofs.AnswerLemmas.{added_to, answered_both, file_made, get_own, taken_back}
use Rattle.fc_objects.specs.declared.reader.ObjectReader.{ObjectReader}
use Rattle.fc_objects.specs.Ahead.{ahead}
use Rattle.fc_objects.specs.Bytes.{bytes_ahead, first_bytes}
use Rattle.fc_export.specs.Exports.{AreFirst, EndsAdding, IsTakenBack, LeavesPart, added_of}
use Rattle.fc_host.proofs.FileLemmas.{told_files as told_one}

-- ---- pieces

-- at first a reader has all bytes ahead
pub all_ahead : (size : ℕ) (image sectors : List ℕ) (len : ℕ) (r : ObjectReader) → ahead r.sectors ≡ sectors → r.size ≡ size → r.len ≡ len
    → first_bytes size image sectors len ≡ bytes_ahead image r
all_ahead size image sectors len r at sized long =
    ap (λ (k : ℕ). first_bytes k image sectors len) (sym sized) ∙ ap₂ (λ (xs : List ℕ) (n : ℕ). first_bytes r.size image xs n) (sym at) (sym long)

pub joined_more : (pieces : List (List ℕ)) (piece : List ℕ) → joined (pieces ++ piece ∷ []) ≡ joined pieces ++ piece
joined_more pieces piece = flat_map-append (λ (p : List ℕ). p) pieces (piece ∷ []) ∙ ap (λ (l : List ℕ). joined pieces ++ l) (append-nil piece)

pub added_more : (host : List ℕ) (pieces : List (List ℕ)) (piece : List ℕ) → added_of host (pieces ++ piece ∷ []) ≡ added_of host pieces ++ (host, calls.Append, piece) ∷ []
added_more host pieces piece = map-append (λ (p : List ℕ). (host, calls.Append, p)) pieces (piece ∷ [])

-- a piece more was added
pub asks_more : (host : List ℕ) (old mid now : List Asked) (pieces : List (List ℕ)) (piece : List ℕ) → mid ≡ old ++ added_of host pieces → now ≡ mid ++ (host, calls.Append, piece) ∷ []
    → now ≡ old ++ added_of host (pieces ++ piece ∷ [])
asks_more host old mid now pieces piece was is =
    is ∙ ap (λ (l : List Asked). l ++ (host, calls.Append, piece) ∷ []) was ∙ append_assoc old (added_of host pieces) ((host, calls.Append, piece) ∷ [])
    ∙ ap (λ (l : List Asked). old ++ l) (sym (added_more host pieces piece))

pub answered_more : (host : List ℕ) (old mid now : Option Files) (pieces : List (List ℕ)) (piece : List ℕ) → AnswersCalls old (added_of host pieces) mid → now ≡ option_map (with_more host piece) mid
    → AnswersCalls old (added_of host (pieces ++ piece ∷ [])) now
answered_more host old mid now pieces piece was is =
    subst (λ (l : List Asked). AnswersCalls old l now) (sym (added_more host pieces piece))
    (answered_both (added_of host pieces) ((host, calls.Append, piece) ∷ []) old mid now was (now, is, refl))

-- of all bytes the next piece stands after those that were added
pub piece_next : (all : List ℕ) (pieces : List (List ℕ)) (before piece after : List ℕ) → all ≡ joined pieces ++ before → before ≡ piece ++ after → all ≡ joined (pieces ++ piece ∷ []) ++ after
piece_next all pieces before piece after so_far step =
    so_far ∙ ap (λ (l : List ℕ). joined pieces ++ l) step ∙ sym (append_assoc (joined pieces) piece after)
    ∙ ap (λ (l : List ℕ). l ++ after) (sym (joined_more pieces piece))

pub all_joined : (all : List ℕ) (pieces : List (List ℕ)) (before : List ℕ) → all ≡ joined pieces ++ before → before ≡ [] → joined pieces ≡ all
all_joined all pieces before so_far none = sym (so_far ∙ ap (λ (l : List ℕ). joined pieces ++ l) none ∙ append-nil (joined pieces))

-- the file is its own after a call that failed
pub own_failed : (asked now : List Asked) (name other bytes : List ℕ) → now ≡ asked ++ (other, calls.Failed, bytes) ∷ [] → Contains (made_by asked) name → Contains (made_by now) name
own_failed asked now name other bytes is own =
    subst (λ (names : List (List ℕ)). Contains names name) (sym (ap made_by is ∙ made_more asked (other, calls.Failed, bytes))) own

-- bytes were added to a file: it is there
pub there_more : (old now : Option Files) (name bytes : List ℕ) → now ≡ option_map (with_more name bytes) old → ForSome now (λ files. is_there files name ≡ true)
there_more old now name bytes is files told = go old (sym is ∙ told)
  where
    go : (o : Option Files) → option_map (with_more name bytes) o ≡ Some files → is_there files name ≡ true
    go None e = absurd (cc)
    go (Some was) e =
        let new : with_more name bytes was ≡ files = cc in
        ap (λ (f : Files). is_there f name) (sym new) ∙ ap is_some (get_own was name (bytes_of was name ++ bytes))

-- ---- files that are told

-- The file wasn't there, and has these bytes.
abbrev pub Holds : Option Files → List ℕ → List ℕ → Option Files → Type 0
Holds old host bytes now = (now ≡ option_map (λ files. insert files host bytes) old) × ForSome old (λ files. is_there files host ≡ false)

none_stays : (host : List ℕ) (pieces : List (List ℕ)) (now : Option Files) → AnswersCalls None (added_of host pieces) now → now ≡ None
none_stays host [] now x = x
none_stays host (piece ∷ pieces) now x = none_stays host pieces now (subst (λ (o : Option Files). AnswersCalls o (added_of host pieces) now) x.1 x.2)

pub made_holds : (old now : Option Files) (host : List ℕ) (pieces : List (List ℕ)) → AnswersCalls old (made_of host pieces) now → Holds old host (joined pieces) now
made_holds None now host pieces x =
    (none_stays host pieces now (subst (λ (o : Option Files). AnswersCalls o (added_of host pieces) now) x.1.1 x.2), λ files told. absurd (cc))
made_holds (Some files) now host pieces x =
    let made = file_made files host pieces now x in
    (made.1, λ other told. subst (λ (f : Files). is_there f host ≡ false) (told_one files other told) made.0)

pub holds_more : (old mid now : Option Files) (host bytes piece : List ℕ) → Holds old host bytes mid → now ≡ option_map (with_more host piece) mid → Holds old host (bytes ++ piece) now
holds_more None mid now host bytes piece holds is = (is ∙ ap (option_map (with_more host piece)) holds.0, holds.1)
holds_more (Some files) mid now host bytes piece holds is = (is ∙ ap (option_map (with_more host piece)) holds.0 ∙ ap Some (added_to files host bytes piece), holds.1)

pub holds_back : (old mid now : Option Files) (host bytes : List ℕ) → Holds old host bytes mid → now ≡ option_map (without host) mid → now ≡ old
holds_back None mid now host bytes holds is = is ∙ ap (option_map (without host)) holds.0
holds_back (Some files) mid now host bytes holds is = is ∙ ap (option_map (without host)) holds.0 ∙ ap Some (taken_back files host bytes (holds.1 files refl))

-- ---- what is left

pub leaves_same : (host : List ℕ) (known : Option (List ℕ)) (old now : Option Files) → now ≡ old → LeavesPart host known old now
leaves_same host known old now is files told = (files, is ∙ told, inl refl)

pub leaves_some : (host some : List ℕ) (known : Option (List ℕ)) (old now : Option Files) → Holds old host some now → AreFirst known some → LeavesPart host known old now
leaves_some host some known old now holds first files told = (
  insert files host some,
  holds.0 ∙ ap (option_map (λ files. insert files host some)) told,
  inr (
    holds.1 files told,
    (
      some,
      refl,
      λ all is. let f = first all is in
          (length some, sym (ap (take (length some)) f.1 ∙ take_at some f.0 (length some) refl)),
    ),
  ),
)

pub leaves_empty : (host : List ℕ) (known : Option (List ℕ)) (old now : Option Files) → MayBeMade host old now → LeavesPart host known old now
leaves_empty host known old now (inl same) = leaves_same host known old now same
leaves_empty host known old now (inr made) = leaves_some host [] known old now (made.1, made.0) (λ all is. (all, refl))

pub first_part : (known : Option (List ℕ)) (front piece : List ℕ) (n : ℕ) → AreFirst known (front ++ piece) → AreFirst known (front ++ take n piece)
first_part known front piece n first all is =
    let f = first all is in (
      drop n piece ++ f.0,
      f.1 ∙ ap (λ (p : List ℕ). (front ++ p) ++ f.0) (sym (take-append-drop n piece))
          ∙ ap (λ (p : List ℕ). p ++ f.0) (sym (append_assoc front (take n piece) (drop n piece))) ∙ append_assoc (front ++ take n piece) (drop n piece) f.0,
    )

first_front : (known : Option (List ℕ)) (front : List ℕ) → AreFirst known (front ++ []) → AreFirst known front
first_front known front first = subst (AreFirst known) (append-nil front) first

-- what the file holds once nothing more is added
abbrev pub HoldsFirst : Option Files → List ℕ → Option (List ℕ) → Option Files → Type 0
HoldsFirst old host known now = (some : List ℕ) × Holds old host some now × AreFirst known some

pub ended_holds : (old mid now : Option Files) (host front piece : List ℕ) (failed : List Asked) (known : Option (List ℕ)) → Holds old host front mid → EndsAdding host piece failed mid now
    → AreFirst known (front ++ piece) → HoldsFirst old host known now
ended_holds old mid now host front piece failed known holds (inl (none, short, same)) first =
    (front, (same ∙ holds.0, holds.1), first_front known front (subst (λ (p : List ℕ). AreFirst known (front ++ p)) short first))
ended_holds old mid now host front piece failed known holds (inr (is, added)) first =
    (front ++ take added.0 piece, holds_more old mid now host front (take added.0 piece) holds added.2, first_part known front piece added.0 first)

-- ---- a file that is taken back

pub taken_or_left : (host : List ℕ) (known : Option (List ℕ)) (old mid now : Option Files) (r : Result (Unit {0}) Failed) → HoldsFirst old host known mid
    → OnOk r (now ≡ option_map (without host) mid) → OnErr r (MayBeGone host mid now) → IsTakenBack host (remove_asked host r ∷ []) old now × LeavesPart host known old now
taken_or_left host known old mid now (Ok done) has gone failed =
    let same = holds_back old mid now host has.0 has.1 gone in
    (inl (refl, same), leaves_same host known old now same)
taken_or_left host known old mid now (Err f) has gone failed = (inr refl, left failed)
  where
    left : MayBeGone host mid now → LeavesPart host known old now
    left (inl same) = leaves_some host has.0 known old now (same ∙ has.1.0, has.1.1) has.2
    left (inr out) = leaves_same host known old now (holds_back old mid now host has.0 has.1 out)

-- all that was asked: the file was made, got pieces, and was to be taken back
pub asks_all : (host : List ℕ) (a b c e : List Asked) (pieces : List (List ℕ)) (failed back : List Asked) → b ≡ a ++ (host, calls.Make true, []) ∷ [] → c ≡ b ++ (added_of host pieces ++ failed) → e ≡ c ++ back
    → e ≡ a ++ (made_of host pieces ++ (failed ++ back))
asks_all host a b c e pieces failed back first second third =
    let made : List Asked = (host, calls.Make true, []) ∷ [] in
    third ∙ ap (λ (l : List Asked). l ++ back) (second ∙ ap (λ (l : List Asked). l ++ (added_of host pieces ++ failed)) first ∙ append_assoc a made (added_of host pieces ++ failed))
    ∙ append_assoc a (made ++ (added_of host pieces ++ failed)) back
    ∙ ap (λ (l : List Asked). a ++ ((host, calls.Make true, []) ∷ l)) (append_assoc (added_of host pieces) failed back)

-- a file that was made wasn't there
pub made_absent : (b : Bool) → true ≡ not b → b ≡ false
made_absent true e = absurd (cc)
made_absent false e = refl

-- what is known of a part is known if the whole is
pub known_by : (told : Option (List ℕ)) (part : List ℕ → List ℕ) (P : List ℕ → Type 0) → ForSome told (λ image. P (part image)) → ForSome (option_map part told) P
known_by None part P have x is = absurd (cc)
known_by (Some image) part P have x is = subst P (let same : part image ≡ x = cc in same) (have image refl)
