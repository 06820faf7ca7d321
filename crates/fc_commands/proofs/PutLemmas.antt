-- What is written of a change, as puts: sectors and the bytes that they get.
use Rattle.std.proofs.Common.{◌≡◌, ◌<◌, ◌≤◌, ◌*◌, ⊎_elim, inl, inr, ℕ, true, List, [], ◌∷◌, ◌++◌, flat_map, length, map, refl, sym, ap, ap₂, subst, ◌∙◌}
use Rattle.std.specs.Prelude.{Contains, get_or}
use Rattle.std.proofs.lemmas.List.{append-nil, append_assoc}
use Rattle.std.proofs.lemmas.List.Elements.{Contains-append_cases, Contains-append_left, Contains-append_right}
use Rattle.fc_image.specs.Layout.{Layout, is_among, map_place, sector_bytes}
use Rattle.fc_objects.specs.Written.{part_at}
use Rattle.fc_objects.specs.Extents.{sectors_in}
use Rattle.fc_tree.proofs.MemberLemmas.{contains_here, no_element}
use Rattle.fc_outcomes.specs.Puts.{AreContents, ArePutOut, Put}
use Rattle.fc_outcomes.proofs.lemmas.PutLemmas.{puts_law}
pub use Rattle.fc_given.specs.Law.{IsGivenSource as CopiesNone}
use Rattle.fc_writing.specs.declared.ready.Piece.{Piece}
use Rattle.fc_writing.specs.declared.ready.Ready.{Ready}
use Rattle.fc_writing.specs.declared.ready.Source.{Source}
use Rattle.fc_writing.specs.declared.ready.Source.TheVariants as from
use Rattle.fc_writing.specs.declared.ready.Transfer.{Transfer}
use Rattle.fc_writing.specs.Content.{Content, HasContent, IsPart, stored}
use Rattle.fc_writing.specs.Ready.{all_content, carried_by, content_of, late_content, place_of, source_content}
use Rattle.fc_writing.proofs.ContentLemmas.{among_get, numbered_here, numbered_is}
use Rattle.fc_image.proofs.EntriesLemmas.{later as contains_later, cases as contains_cases}

-- ---- puts and their content

abbrev pub contents_of : ℕ → List Put → Content
contents_of size puts = flat_map (λ (p : Put). stored size p.sectors p.bytes) puts

-- There are sectors enough for all bytes.
abbrev pub AreLong : ℕ → List Put → Type 0
AreLong size puts = (p : Put) → Contains puts p → length p.bytes ≤ length p.sectors * size

there : (size : ℕ) (puts : List Put) (p : Put) → Contains puts p → (i : ℕ) → i < length p.sectors → Contains (contents_of size puts) (get_or p.sectors i 0, part_at size p.bytes i)
there size [] p at i low = absurd (no_element p at)
there size (q ∷ puts) p at i low =
    ⊎_elim
    (λ same. Contains-append_left (stored size q.sectors q.bytes) (contents_of size puts) _
    (subst (λ (x : Put). Contains (stored size x.sectors x.bytes) (get_or p.sectors i 0, part_at size p.bytes i)) (sym same) (numbered_here (part_at size p.bytes) p.sectors i low)))
    (λ later. Contains-append_right (stored size q.sectors q.bytes) (contents_of size puts) _ (there size puts p later i low)) (contains_cases q p puts at)

only : (size : ℕ) (puts : List Put) (c : ℕ × List ℕ) → Contains (contents_of size puts) c → (p : Put) × Contains puts p × (is_among p.sectors c.0 ≡ true)
only size [] c at = absurd (no_element c at)
only size (q ∷ puts) c at = elim (Contains-append_cases (stored size q.sectors q.bytes) (contents_of size puts) c at) [
  | inl here ↦ (let n = numbered_is (part_at size q.bytes) q.sectors c here in (q, contains_here q puts, subst (λ (s : ℕ). is_among q.sectors s ≡ true) n.2 (among_get q.sectors n.0 n.1)))
  | inr later ↦ (let r = only size puts c later in (r.0, contains_later q r.0 puts r.1, r.2))
]

pub are_contents : (size : ℕ) (puts : List Put) → AreLong size puts → AreContents size puts (contents_of size puts)
are_contents size puts long = record { there = there size puts; only = only size puts; long = long }

-- ---- those of a change

abbrev pub put_of : Piece → Put
put_of p = record { sectors = place_of p; bytes = p.bytes.items }

-- the object's, if it gets the bytes that are given
abbrev pub source_puts : Source → List ℕ → List Put
source_puts from.Nothing bytes = []
source_puts (from.Bytes place) bytes = record { sectors = sectors_in place.items; bytes = bytes } ∷ []
source_puts (from.Sectors t) bytes = []

abbrev pub puts_of : Ready → List ℕ → List Put
puts_of r bytes = source_puts r.source bytes ++ (map put_of r.early.items ++ map put_of r.late.items)

pub flat_app : (size : ℕ) (xs ys : List Put) → contents_of size (xs ++ ys) ≡ contents_of size xs ++ contents_of size ys
flat_app size [] ys = refl
flat_app size (x ∷ xs) ys = ap (λ (c : Content). stored size x.sectors x.bytes ++ c) (flat_app size xs ys) ∙ sym (append_assoc (stored size x.sectors x.bytes) (contents_of size xs) (contents_of size ys))

pub flat_pieces : (size : ℕ) (ps : List Piece) → contents_of size (map put_of ps) ≡ flat_map (content_of size) ps
flat_pieces size [] = refl
flat_pieces size (p ∷ ps) = ap (λ (c : Content). content_of size p ++ c) (flat_pieces size ps)

flat_source : (size : ℕ) (was bytes : List ℕ) (s : Source) → CopiesNone s → contents_of size (source_puts s bytes) ≡ source_content size was bytes s
flat_source size was bytes from.Nothing none = refl
flat_source size was bytes (from.Bytes place) none = append-nil (stored size (sectors_in place.items) bytes)
flat_source size was bytes (from.Sectors t) none = absurd none

pub contents_are : (size : ℕ) (was bytes : List ℕ) (r : Ready) → CopiesNone r.source → r.carried.items ≡ [] → contents_of size (puts_of r bytes) ≡ all_content size was bytes r
contents_are size was bytes r none carried =
    flat_app size (source_puts r.source bytes) (map put_of r.early.items ++ map put_of r.late.items)
    ∙ ap₂ (λ (a b : Content). a ++ b) (flat_source size was bytes r.source none)
    (flat_app size (map put_of r.early.items) (map put_of r.late.items) ∙ ap₂ (λ (a b : Content). a ++ b) (flat_pieces size r.early.items) (flat_pieces size r.late.items))
    ∙ sym (append_assoc (source_content size was bytes r.source) (flat_map (content_of size) r.early.items) (late_content size r))
    ∙ ap (λ (ts : List Transfer). (source_content size was bytes r.source ++ (flat_map (carried_by size was) ts ++ flat_map (content_of size) r.early.items)) ++ late_content size r) (sym carried)

-- So these sectors have their bytes, and all else beside the map is as before.
pub put_out : (layout : Layout) (was bytes image : List ℕ) (r : Ready) → CopiesNone r.source → r.carried.items ≡ [] → AreLong (sector_bytes layout) (puts_of r bytes)
    → HasContent (sector_bytes layout) (all_content (sector_bytes layout) was bytes r) image → IsPart (sector_bytes layout) (map_place layout) (all_content (sector_bytes layout) was bytes r) was image
    → ArePutOut layout (puts_of r bytes) was image
put_out layout was bytes image r none carried long has part =
    let same = contents_are (sector_bytes layout) was bytes r none carried in
    puts_law.contents layout (puts_of r bytes) (all_content (sector_bytes layout) was bytes r) was image part.length_stays
    (subst (λ (c : Content). AreContents (sector_bytes layout) (puts_of r bytes) c) same (are_contents (sector_bytes layout) (puts_of r bytes) long)) has part.each
