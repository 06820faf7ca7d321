-- What calls in turn leave of the files, if the host tells them.
use Rattle.std.proofs.Common.{◌≡◌, ℕ, ◌+◌, Bool, true, false, cond, List, [], ◌∷◌, ◌++◌, length, map, drop, Option, Some, None, is_some, refl, sym, ap, subst, ◌∙◌, arith, append_assoc}
use Rattle.std.specs.Option.{ForSome, unwrap_or}
use Rattle.std.specs.Str.{bytes_eq}
use Rattle.std.specs.FinMap.{get, insert, get-insert, get-remove, same_map, nat_cmp-IsAntisymmetric, slice_cmp-IsAntisymmetric}
use Rattle.std.specs.Cmp.Lexicographic.{nat_list_cmp_total}
use Rattle.std.proofs.lemmas.List.{append-nil, drop-drop, drop_at, length-append}
use Rattle.std.proofs.Math.Seq.{drop-length}
use Rattle.std.proofs.lemmas.Map.Text.{is_eq-slice_cmp}
use Rattle.std.proofs.lemmas.Slice.Eq.{bytes_eq-Decides}
use Rattle.fc_host.specs.Answers.{AnswersCalls, joined, made_of, taken_from}
use Rattle.fc_host.specs.Asked.{Asked}
use Rattle.fc_host.specs.Files.{Files, bytes_of, is_there, with_more, without}
use Rattle.fc_host.specs.declared.asks.HostCall.TheVariants as calls

-- ---- calls in turn

pub answered_parts : (a b : List Asked) (old new : Option Files) → AnswersCalls old (a ++ b) new → (mid : Option Files) × AnswersCalls old a mid × AnswersCalls mid b new
answered_parts [] b old new x = (old, refl, x)
answered_parts (c ∷ a) b old new x = let rest = answered_parts a b x.0 new x.2 in (rest.0, (x.0, x.1, rest.1), rest.2)

pub answered_both : (a b : List Asked) (old mid new : Option Files) → AnswersCalls old a mid → AnswersCalls mid b new → AnswersCalls old (a ++ b) new
answered_both [] b old mid new x y = subst (λ (o : Option Files). AnswersCalls o b new) x y
answered_both (c ∷ a) b old mid new x y = (x.0, x.1, answered_both a b x.0 mid new x.2 y)

-- nothing was asked
pub answered_none : (files : Files) (left : Option Files) (asked : List Asked) → asked ≡ [] → AnswersCalls (Some files) asked left → left ≡ Some files
answered_none files left asked none x = subst (λ (l : List Asked). AnswersCalls (Some files) l left) none x

-- ---- a file that is made

twice : (b : Bool) (x y z : Option (List ℕ)) → cond b x (cond b y z) ≡ cond b x z
twice true x y z = refl
twice false x y z = refl

get_inserted : (files : Files) (name bytes q : List ℕ) → get (insert files name bytes) q ≡ cond (bytes_eq q name) (Some bytes) (get files q)
get_inserted files name bytes q = get-insert nat_list_cmp_total files name bytes q ∙ ap (λ (x : Bool). cond x (Some bytes) (get files q)) (is_eq-slice_cmp q name)

pub get_own : (files : Files) (name bytes : List ℕ) → get (insert files name bytes) name ≡ Some bytes
get_own files name bytes =
    let same : bytes_eq name name ≡ true = (bytes_eq-Decides name name).1 refl in
    get_inserted files name bytes name ∙ ap (λ (b : Bool). cond b (Some bytes) (get files name)) same

insert_twice : (files : Files) (name a b : List ℕ) → insert (insert files name a) name b ≡ insert files name b
insert_twice files name a b =
    same_map nat_list_cmp_total (slice_cmp-IsAntisymmetric nat_cmp-IsAntisymmetric) _ _ (λ q.
    get_inserted (insert files name a) name b q ∙ ap (λ (o : Option (List ℕ)). cond (bytes_eq q name) (Some b) o) (get_inserted files name a q)
    ∙ twice (bytes_eq q name) (Some b) (Some a) (get files q) ∙ sym (get_inserted files name b q))

-- a file that was made is taken back
pub taken_back : (files : Files) (name bytes : List ℕ) → is_there files name ≡ false → without name (insert files name bytes) ≡ files
taken_back files name bytes absent =
    same_map nat_list_cmp_total (slice_cmp-IsAntisymmetric nat_cmp-IsAntisymmetric) _ _ (λ q.
    get-remove nat_list_cmp_total (insert files name bytes) name q
    ∙ ap (λ (x : Bool). cond x None (get (insert files name bytes) q)) (is_eq-slice_cmp q name)
    ∙ ap (λ (o : Option (List ℕ)). cond (bytes_eq q name) None o) (get_inserted files name bytes q)
    ∙ gone (bytes_eq q name) (Some bytes) (get files q) (λ same.
    ap (get files) ((bytes_eq-Decides q name).0 same) ∙ no_file (get files name) absent))
  where
    no_file : (o : Option (List ℕ)) → is_some o ≡ false → o ≡ None
    no_file None e = refl
    no_file (Some x) e = absurd (cc)

    gone : (b : Bool) (y z : Option (List ℕ)) → (b ≡ true → z ≡ None) → cond b None (cond b y z) ≡ z
    gone true y z e = sym (e refl)
    gone false y z e = refl

-- bytes more, of a file that has some
pub added_to : (files : Files) (name so_far piece : List ℕ) → with_more name piece (insert files name so_far) ≡ insert files name (so_far ++ piece)
added_to files name so_far piece =
    ap (λ (o : Option (List ℕ)). insert (insert files name so_far) name (unwrap_or o [] ++ piece)) (get_own files name so_far)
    ∙ insert_twice files name so_far (so_far ++ piece)

pieces_added : (files : Files) (host so_far : List ℕ) (pieces : List (List ℕ)) (left : Option Files)
    → AnswersCalls (Some (insert files host so_far)) (map (λ piece. (host, calls.Append, piece)) pieces) left → left ≡ Some (insert files host (so_far ++ joined pieces))
pieces_added files host so_far [] left x = x ∙ ap (λ (bytes : List ℕ). Some (insert files host bytes)) (sym (append-nil so_far))
pieces_added files host so_far (piece ∷ pieces) left x =
    let now : x.0 ≡ Some (insert files host (so_far ++ piece)) = x.1 ∙ ap Some (added_to files host so_far piece) in
    let rest = pieces_added files host (so_far ++ piece) pieces left
    (subst (λ (o : Option Files). AnswersCalls o (map (λ piece. (host, calls.Append, piece)) pieces) left) now x.2) in
    rest ∙ ap (λ (bytes : List ℕ). Some (insert files host bytes)) (append_assoc so_far piece (joined pieces))

-- The file wasn't there, and has all pieces.
pub file_made : (files : Files) (host : List ℕ) (pieces : List (List ℕ)) (left : Option Files) → AnswersCalls (Some files) (made_of host pieces) left
    → (is_there files host ≡ false) × (left ≡ Some (insert files host (joined pieces)))
file_made files host pieces left x =
    (x.1.0 files refl, pieces_added files host [] pieces left (subst (λ (o : Option Files). AnswersCalls o (map (λ piece. (host, calls.Append, piece)) pieces) left) x.1.1 x.2))

-- ---- a file that is taken

pieces_taken : (files : Files) (host : List ℕ) (at : ℕ) (pieces : List (List ℕ)) (left : Option Files) → AnswersCalls (Some files) (taken_from host at pieces) left
    → (left ≡ Some files) × (drop at (bytes_of files host) ≡ joined pieces ++ drop (at + length (joined pieces)) (bytes_of files host))
pieces_taken files host at [] left x = (x, ap (λ (n : ℕ). drop n (bytes_of files host)) (omega arith))
pieces_taken files host at (piece ∷ pieces) left x =
    let bytes = bytes_of files host in
    let first = x.1.0 files refl in
    let rest = pieces_taken files host (at + length piece) pieces left (subst (λ (o : Option Files). AnswersCalls o (taken_from host (at + length piece) pieces) left) x.1.1 x.2) in
    let sum : at + length piece + length (joined pieces) ≡ at + length (piece ++ joined pieces) = omega (arith, length-append piece (joined pieces)) in (
      rest.0,
      first ∙ ap (λ (l : List ℕ). piece ++ l) rest.1 ∙ sym (append_assoc piece (joined pieces) (drop (at + length piece + length (joined pieces)) bytes))
          ∙ ap (λ (n : ℕ). (piece ++ joined pieces) ++ drop n bytes) sum,
    )

-- As many bytes as the file has are its bytes.
pub file_taken : (files : Files) (host bytes : List ℕ) (pieces : List (List ℕ)) (left : Option Files) → get files host ≡ Some bytes → length (joined pieces) ≡ length bytes
    → AnswersCalls (Some files) (taken_from host 0 pieces) left → (left ≡ Some files) × (joined pieces ≡ bytes)
file_taken files host bytes pieces left there long x =
    let both = pieces_taken files host 0 pieces left x in
    let own : bytes_of files host ≡ bytes = ap (λ (o : Option (List ℕ)). unwrap_or o []) there in
    let n = length (joined pieces) in
    let start : 0 + n ≡ n = omega arith in
    let whole : bytes ≡ joined pieces ++ drop n bytes =
    subst (λ (f : List ℕ). f ≡ joined pieces ++ drop n f) own (both.1 ∙ ap (λ (k : ℕ). joined pieces ++ drop k (bytes_of files host)) start) in
    (both.0, sym (whole ∙ ap (λ (l : List ℕ). joined pieces ++ l) (ap (λ (n : ℕ). drop n bytes) long ∙ drop-length bytes) ∙ append-nil (joined pieces)))

-- ---- what a host that tells its files answers

answered_at : (bytes : List ℕ) (host : List ℕ) (files : Files) (at : ℕ) (pieces : List (List ℕ)) → bytes ≡ bytes_of files host
    → drop at bytes ≡ joined pieces ++ drop (at + length (joined pieces)) bytes → AnswersCalls (Some files) (taken_from host at pieces) (Some files)
answered_at bytes host files at [] own is = refl
answered_at bytes host files at (piece ∷ pieces) own is =
    let n = at + length (piece ++ joined pieces) in
    let whole : drop at bytes ≡ piece ++ (joined pieces ++ drop n bytes) = is ∙ append_assoc piece (joined pieces) (drop n bytes) in
    let rest : drop (at + length piece) bytes ≡ joined pieces ++ drop n bytes =
    sym (drop-drop (length piece) at bytes) ∙ ap (drop (length piece)) whole ∙ drop_at piece (joined pieces ++ drop n bytes) (length piece) refl in
    let sum : n ≡ at + length piece + length (joined pieces) = omega (arith, length-append piece (joined pieces)) in
    let first : drop at bytes ≡ piece ++ drop (at + length piece) bytes = whole ∙ ap (λ (l : List ℕ). piece ++ l) (sym rest) in (
      Some files,
      (λ f told. subst (λ (b : List ℕ). drop at b ≡ piece ++ drop (at + length piece) b) (own ∙ ap (λ (o : Option Files). bytes_of (unwrap_or o files) host) told) first, refl),
      answered_at bytes host files (at + length piece) pieces own (rest ∙ ap (λ (k : ℕ). joined pieces ++ drop k bytes) sum),
    )

-- All bytes of a file were taken, piece by piece.
pub file_answered : (files : Option Files) (host bytes : List ℕ) (pieces : List (List ℕ)) → joined pieces ≡ bytes → ForSome files (λ f. bytes ≡ bytes_of f host)
    → AnswersCalls files (taken_from host 0 pieces) files
file_answered (Some files) host bytes pieces joined_is own =
    let n = length (joined pieces) in
    let start : 0 + n ≡ n = omega arith in
    let none : drop n bytes ≡ [] = ap (λ (b : List ℕ). drop n b) (sym joined_is) ∙ drop-length (joined pieces) in
    let none' : drop (0 + n) bytes ≡ [] = ap (λ (k : ℕ). drop k bytes) start ∙ none in
    answered_at bytes host files 0 pieces (own files refl) (sym joined_is ∙ sym (append-nil (joined pieces)) ∙ ap (λ (l : List ℕ). joined pieces ++ l) (sym none'))
file_answered None host bytes [] joined_is own = refl
file_answered None host bytes (piece ∷ pieces) joined_is own = unknown host 0 (piece ∷ pieces)
  where
    unknown : (host : List ℕ) (at : ℕ) (ps : List (List ℕ)) → AnswersCalls None (taken_from host at ps) None
    unknown host at [] = refl
    unknown host at (p ∷ ps) = (None, (λ f told. absurd (cc), refl), unknown host (at + length p) ps)
