-- A change of which some directories are written, one after another, beside the map: they lie apart, and get their bytes.
use Rattle.std.proofs.Common.{◌≡◌, ◌<◌, ◌≤◌, ◌+◌, ◌-◌, ◌*◌, inl, inr, ℕ, true, List, [], ◌∷◌, ◌++◌, flat_map, length, map, get_or, refl, sym, ap, ap₂, subst, ◌∙◌, arith, All, Ok, Err, Some, None}
use Rattle.std.specs.Prelude.{Contains}
use Rattle.std.specs.FinMap.{get}
use Rattle.std.proofs.lemmas.Bool.{cases_lt}
use Rattle.std.proofs.lemmas.List.{get_or-append-add, get_or_append_left, length-append}
use Rattle.fc_record.specs.declared.Kind.{Kind}
use Rattle.fc_drafts.specs.Draft.{IsSayable, directory_in, size_of}
use Rattle.fc_image.specs.Layout.{Layout, dir_form, disc_sectors, is_among, is_apart, map_place, sector_bytes}
use Rattle.fc_image.specs.Edits.{Apart}
use Rattle.fc_image.specs.Objects.{objects_of}
use Rattle.fc_image.specs.Opening.{reserved_in}
use Rattle.fc_image.specs.Sound.{AreSound}
use Rattle.fc_image.specs.Walk.{Listing, Object, object_size}
use Rattle.fc_image.specs.effects.Steady.{AreWritten}
use Rattle.fc_image.proofs.HolesLemmas.{Lies, apart_at, apart_from}
use Rattle.fc_changes.proofs.BasicLemmas.{clash}
use Rattle.fc_newmap.proofs.PlaceLemmas.{in_either}
use Rattle.fc_objects.specs.Written.{AreApart}
use Rattle.fc_space.specs.Space.{PlacesSuffice}
use Rattle.fc_tree.specs.declared.node.Node.{Node}
use Rattle.fc_tree.specs.Agree.{AreWalked}
use Rattle.fc_tree.specs.Nodes.{HoldObjects, number_of}
use Rattle.fc_tree.proofs.MemberLemmas.{contains_here, from_map, in_map, no_element}
use Rattle.fc_tree.proofs.WalkedLemmas.{listed_directory, same_some}
use Rattle.fc_laws.specs.nodes.Edits.{Nodes}
use Rattle.fc_laws.proofs.lemmas.agree.WalkedLemmas.{had, object_lies, sound}
use Rattle.fc_edits.specs.Edit.{Amended}
use Rattle.fc_edits.proofs.lemmas.LeavingLemmas.{one_of_sector}
use Rattle.fc_edits.proofs.lemmas.TellLemmas.{AreOnce}
use Rattle.fc_outcomes.specs.Puts.{ArePutOut, IsDirectoryPut, Put}
use Rattle.fc_writing.specs.declared.ready.Piece.{Piece}
use Rattle.fc_writing.specs.declared.ready.Ready.{Ready}
use Rattle.fc_writing.specs.declared.ready.Source.TheVariants as from
use Rattle.fc_writing.specs.declared.ready.Transfer.{Transfer}
use Rattle.fc_writing.specs.Content.{HasContent, IsPart}
use Rattle.fc_writing.specs.Ready.{CanPut, IsEnough, IsSourceEnough, all_content, copied_place, from_of, place_of, source_from, source_place, to_of, written_place}
use Rattle.fc_writing.proofs.ContentLemmas.{among_get}
use Rattle.fc_change.specs.declared.change.Says.{Says}
use Rattle.fc_change.specs.Prepared.{IsPieceOf, PiecesMatch}
use Rattle.fc_commands.proofs.MoveSaidLemmas.{AreSaid, IsSaid}
use Rattle.fc_commands.proofs.NodeLemmas.{sectors_are}
use Rattle.fc_commands.proofs.PieceLemmas.{all_low}
use Rattle.fc_commands.proofs.PutLemmas.{AreLong, CopiesNone, put_of, put_out, puts_of, source_puts}
use Rattle.fc_image.proofs.EntriesLemmas.{later as contains_later, cases as contains_cases}

-- ---- sectors of one after another

pub among_flat : {X : Type 0} (f : X → List ℕ) (xs : List X) (s : ℕ) → is_among (flat_map f xs) s ≡ true → (x : X) × Contains xs x × (is_among (f x) s ≡ true)
among_flat f [] s there = absurd (cc)
among_flat f (x ∷ xs) s there = elim (in_either (f x) (flat_map f xs) s there) [
  | Ok here ↦ (x, contains_here x xs, here)
  | Err later ↦ (let more = among_flat f xs s later in (more.0, contains_later x more.0 xs more.1, more.2))
]

pub joined_apart : (xs ys : List ℕ) → AreApart xs → AreApart ys → ((s : ℕ) → is_among xs s ≡ true → is_among ys s ≡ true → ⊥) → AreApart (xs ++ ys)
joined_apart xs ys first second never i j before high same =
    let long = length-append xs ys in
    elim (cases_lt j (length xs)) [
      | inl low ↦ first i j before low (sym (get_or_append_left xs ys 0 i (omega (arith, before, low))) ∙ same ∙ get_or_append_left xs ys 0 j low)
      | inr past ↦ (let k = j - length xs in
          let j_is : j ≡ length xs + k = omega (arith, past) in
          let low : k < length ys = omega (arith, high, long, past) in
          let at_j : get_or (xs ++ ys) j 0 ≡ get_or ys k 0 = ap (λ (n : ℕ). get_or (xs ++ ys) n 0) j_is ∙ get_or-append-add xs ys k 0 in
          elim (cases_lt i (length xs)) [
            | inl here ↦ never (get_or ys k 0) (subst (λ (s : ℕ). is_among xs s ≡ true) (sym (get_or_append_left xs ys 0 i here) ∙ same ∙ at_j) (among_get xs i here)) (among_get ys k low)
            | inr there ↦ (let m = i - length xs in
                let i_is : i ≡ length xs + m = omega (arith, there) in
                second m k (omega (arith, before, there, past)) low (sym (ap (λ (n : ℕ). get_or (xs ++ ys) n 0) i_is ∙ get_or-append-add xs ys m 0) ∙ same ∙ at_j))
          ])
    ]

-- ---- directories of a walk

abbrev pub sectors_of : List Amended → List ℕ
sectors_of bs = flat_map (λ (a : Amended). a.was.object.sectors) bs

-- They are listed, by these numbers.
abbrev pub AreListed : Nodes → List Listing → List Amended → Type 0
AreListed nodes listings bs = (a : Amended) → Contains bs a → Contains listings a.was × (number_of nodes a.was.object.path ≡ Some a.number)

pub said_listed : (nodes : Nodes) (listings : List Listing) (bs : List Amended) (ss : List Says) → AreSaid nodes listings bs ss → AreListed nodes listings bs
said_listed nodes listings [] ss said a at = absurd (no_element a at)
said_listed nodes listings (b ∷ bs) [] said a at = absurd said
said_listed nodes listings (b ∷ bs) (s ∷ ss) said a at = elim (contains_cases b a bs at) [
  | inl here ↦ subst (λ (c : Amended). Contains listings c.was × (number_of nodes c.was.object.path ≡ Some c.number)) here (said.0.listed, said.0.number)
  | inr later ↦ said_listed nodes listings bs ss said.1 a later
]

module _ (kind : Kind) (layout : Layout) (nodes : Nodes) (root : Node) (listings : List Listing) (walked : AreWalked nodes layout (reserved_in kind layout) root.entry.address root.entry.len listings) where
  dir_among : (l : Listing) → Contains listings l → Contains (objects_of listings) l.object
  dir_among l at = (listed_directory layout listings (sound kind layout nodes root listings walked) l at).0

  pub lies : (l : Listing) → Contains listings l → Lies layout (reserved_in kind layout) l.object
  lies l at = object_lies kind layout nodes root listings walked l.object (dir_among l at)

  pub all_apart : Apart (reserved_in kind layout) (objects_of listings)
  all_apart = let h = had kind layout nodes root listings walked in subst (Apart (reserved_in kind layout)) (sym h.objects) h.apart

  -- no sector of two
  one_dir : (a b : Amended) (s : ℕ) → Contains listings a.was × (number_of nodes a.was.object.path ≡ Some a.number) → Contains listings b.was × (number_of nodes b.was.object.path ≡ Some b.number)
      → is_among a.was.object.sectors s ≡ true → is_among b.was.object.sectors s ≡ true → a.number ≡ b.number
  one_dir a b s first second here there =
      let same = one_of_sector (reserved_in kind layout) (objects_of listings) a.was.object b.was.object s all_apart (dir_among a.was first.0) (dir_among b.was second.0) here there in
      same_some a.number b.number (sym first.1 ∙ ap (λ (p : Object). number_of nodes p.path) same ∙ second.1)

  module _ (bs : List Amended) (listed : AreListed nodes listings bs) where
    pub low : (n : ℕ) → disc_sectors layout ≤ n → PlacesSuffice layout → All (λ s. s < n) (sectors_of bs)
    low n room suffice = all_low n (sectors_of bs) (λ s e.
        let a = among_flat (λ (a : Amended). a.was.object.sectors) bs s e in
        let l = a.0.was in
        let disc = (suffice l.object.entry.address (object_size (dir_form layout) l.object.entry) l.object.sectors (lies l (listed a.0 a.1).0).placed).on_disc s a.2 in
        omega (arith, disc, room))

    pub beside : (mapped : List ℕ) → ((l : Listing) → Contains listings l → is_apart l.object.sectors mapped ≡ true) → is_apart (sectors_of bs) mapped ≡ true
    beside mapped each = apart_from (sectors_of bs) mapped (λ s e there.
        let a = among_flat (λ (a : Amended). a.was.object.sectors) bs s e in
        clash (is_among mapped s) there (apart_at a.0.was.object.sectors mapped s (each a.0.was (listed a.0 a.1).0) a.2))

  pub apart : (bs : List Amended) → AreListed nodes listings bs → AreOnce bs → ((l : Listing) → Contains listings l → AreApart l.object.sectors) → AreApart (sectors_of bs)
  apart [] listed once each = λ i j before high. absurd (omega (arith, high, before))
  apart (a ∷ bs) listed once each =
      joined_apart a.was.object.sectors (sectors_of bs) (each a.was (listed a (contains_here a bs)).0) (apart bs (λ b at. listed b (contains_later a b bs at)) once.1 each)
      (λ s here there.
      let b = among_flat (λ (b : Amended). b.was.object.sectors) bs s there in
      once.0 b.0 b.1 (one_dir a b.0 s (listed a (contains_here a bs)) (listed b.0 (contains_later a b.0 bs b.1)) here b.2))

-- ---- a piece for each

-- The piece goes to the directory's sectors, and has its bytes.
pub record IsFor (a : Amended) (p : Piece) : Type 0 where
  pub place : place_of p ≡ a.was.object.sectors
  pub sayable : IsSayable a.content
  pub bytes : AreWritten p.bytes.items a.content
  pub long : length p.bytes.items ≡ size_of a.content

-- in this order
abbrev pub AreFor : List Amended → List Piece → Type 0
AreFor [] [] = Unit {0}
AreFor (a ∷ bs) (p ∷ ps) = IsFor a p × AreFor bs ps
AreFor _ _ = ⊥

module _ (layout : Layout) (nodes : Nodes) (listings : List Listing) (sound' : AreSound layout listings) (held : HoldObjects nodes listings) where
  piece_for : (a : Amended) (s : Says) (p : Piece) → IsSaid nodes listings a s → IsPieceOf layout nodes s p → IsFor a p
  piece_for a s p said piece =
      record {
        place = sectors_are nodes layout listings sound' held a.was said.listed a.number said.number piece.node (ap (get nodes) (sym said.node) ∙ piece.there) (place_of p) piece.place;
        sayable = subst IsSayable said.content piece.drafted.sayable;
        bytes = subst (AreWritten p.bytes.items) said.content piece.drafted.bytes;
        long = piece.drafted.length_is ∙ ap size_of said.content;
      }

  pub pieces_for : (bs : List Amended) (ss : List Says) (ps : List Piece) → AreSaid nodes listings bs ss → PiecesMatch layout nodes None ss ps → AreFor bs ps
  pieces_for [] [] [] said match = tt
  pieces_for [] [] (p ∷ ps) said match = absurd match
  pieces_for [] (s ∷ ss) ps said match = absurd said
  pieces_for (a ∷ bs) [] ps said match = absurd said
  pieces_for (a ∷ bs) (s ∷ ss) [] said match = absurd match
  pieces_for (a ∷ bs) (s ∷ ss) (p ∷ ps) said match = (piece_for a s p said.0 match.0, pieces_for bs ss ps said.1 match.1)

-- what is said can be said by bytes
pub pieces_sayable : (layout : Layout) (nodes : Nodes) (ss : List Says) (ps : List Piece) → PiecesMatch layout nodes None ss ps → (s : Says) → Contains ss s → IsSayable (directory_in s.draft)
pieces_sayable layout nodes [] ps match s at = absurd (no_element s at)
pieces_sayable layout nodes (t ∷ ss) [] match s at = absurd match
pieces_sayable layout nodes (t ∷ ss) (p ∷ ps) match s at = elim (contains_cases t s ss at) [
  | inl here ↦ subst (λ (u : Says). IsSayable (directory_in u.draft)) here match.0.drafted.sayable
  | inr later ↦ pieces_sayable layout nodes ss ps match.1 s later
]

pub places_are : (bs : List Amended) (ps : List Piece) → AreFor bs ps → flat_map place_of ps ≡ sectors_of bs
places_are [] [] are = refl
places_are [] (p ∷ ps) are = absurd are
places_are (a ∷ bs) [] are = absurd are
places_are (a ∷ bs) (p ∷ ps) are = ap₂ (λ (xs ys : List ℕ). xs ++ ys) are.0.place (places_are bs ps are.1)

-- that of one of them
pub piece_of : (bs : List Amended) (ps : List Piece) → AreFor bs ps → (a : Amended) → Contains bs a → (p : Piece) × Contains ps p × IsFor a p
piece_of [] ps are a at = absurd (no_element a at)
piece_of (b ∷ bs) [] are a at = absurd are
piece_of (b ∷ bs) (p ∷ ps) are a at = elim (contains_cases b a bs at) [
  | inl here ↦ (p, contains_here p ps, subst (λ (c : Amended). IsFor c p) here are.0)
  | inr later ↦ (let more = piece_of bs ps are.1 a later in (more.0, contains_later p more.0 ps more.1, more.2))
]

pub whose_piece : (bs : List Amended) (ps : List Piece) → AreFor bs ps → (p : Piece) → Contains ps p → (a : Amended) × Contains bs a × IsFor a p
whose_piece [] [] are p at = absurd (no_element p at)
whose_piece [] (q ∷ ps) are p at = absurd are
whose_piece (a ∷ bs) [] are p at = absurd are
whose_piece (a ∷ bs) (q ∷ ps) are p at = elim (contains_cases q p ps at) [
  | inl here ↦ (a, contains_here a bs, subst (IsFor a) here are.0)
  | inr later ↦ (let more = whose_piece bs ps are.1 p later in (more.0, contains_later a more.0 bs more.1, more.2))
]

-- as puts
pub directory_put : (layout : Layout) (bs : List Amended) (ps : List Piece) (a : Amended) (o : Object) → AreFor bs ps → Contains bs a → o.sectors ≡ a.was.object.sectors → size_of a.content ≡ object_size (dir_form layout) o.entry
    → IsDirectoryPut layout o a.content (map put_of ps)
directory_put layout bs ps a o are at sectors size =
    let p = piece_of bs ps are a at in
    record {
      bytes = p.0.bytes.items;
      among = subst (λ (ss : List ℕ). Contains (map put_of ps) (record { sectors = ss; bytes = p.0.bytes.items })) (p.2.place ∙ sym sectors) (in_map put_of ps p.0 p.1);
      says = p.2.bytes;
      long = p.2.long ∙ size;
    }

pub whose_put : (bs : List Amended) (ps : List Piece) → AreFor bs ps → (q : Put) → Contains (map put_of ps) q → (a : Amended) × Contains bs a × (q.sectors ≡ a.was.object.sectors)
whose_put bs ps are q at =
    let p = from_map put_of ps q at in let a = whose_piece bs ps are p.0 p.1 in (a.0, a.1, ap (λ (x : Put). x.sectors) (sym p.2) ∙ a.2.place)

-- ---- a change that writes these pieces alone, after the map's first step

pub record WritesPieces (r : Ready) (ps : List Piece) : Type 0 where
  pub source : r.source ≡ from.Nothing
  pub carried : r.carried.items ≡ []
  pub early : r.early.items ≡ []
  pub late : r.late.items ≡ ps

module _ (r : Ready) (ps : List Piece) (is : WritesPieces r ps) where
  pub written_is : written_place r ≡ flat_map place_of ps
  written_is = λ i. (source_place (is.source i) ++ (flat_map to_of (is.carried i) ++ flat_map place_of (is.early i))) ++ flat_map place_of (is.late i)

  copied_none : copied_place r ≡ []
  copied_none = λ i. source_from (is.source i) ++ flat_map from_of (is.carried i)

  puts_are : (bytes : List ℕ) → puts_of r bytes ≡ map put_of ps
  puts_are bytes = λ i. source_puts (is.source i) bytes ++ (map put_of (is.early i) ++ map put_of (is.late i))

  module _ (bs : List Amended) (are : AreFor bs ps) where
    pub place_is : written_place r ≡ sectors_of bs
    place_is = written_is ∙ places_are bs ps are

    pub can_put : (n : ℕ) (mapped : List ℕ) → All (λ s. s < n) (sectors_of bs) → AreApart (sectors_of bs) → is_apart (sectors_of bs) mapped ≡ true → CanPut n mapped r
    can_put n mapped low' once beside' = record {
      on_disk = subst (λ (ss : List ℕ). All (λ s. s < n) ss) (sym place_is) low';
      from_disk = subst (λ (ss : List ℕ). All (λ s. s < n) ss) (sym copied_none) (λ i d less. absurd (omega (arith, less)));
      once = subst AreApart (sym place_is) once;
      beside = subst (λ (ss : List ℕ). is_apart ss mapped ≡ true) (sym place_is) beside';
      others = subst (λ (ss : List ℕ). is_apart ss (written_place r) ≡ true) (sym copied_none) refl;
      unmapped = subst (λ (ss : List ℕ). is_apart ss mapped ≡ true) (sym copied_none) refl;
      source_enough = subst IsSourceEnough (sym is.source) tt;
      enough = subst (λ (ts : List Transfer). All IsEnough ts) (sym is.carried) (λ i d less. absurd (omega (arith, less)));
    }

    -- Its sectors have room for the bytes of each, so they have them then.
    pub out : (layout : Layout) (was bytes image : List ℕ)
        → ((a : Amended) → Contains bs a → size_of a.content ≤ length a.was.object.sectors * sector_bytes layout)
        → HasContent (sector_bytes layout) (all_content (sector_bytes layout) was bytes r) image → IsPart (sector_bytes layout) (map_place layout) (all_content (sector_bytes layout) was bytes r) was image
        → ArePutOut layout (map put_of ps) was image
    out layout was bytes image room has part =
        subst (λ (qs : List Put). ArePutOut layout qs was image) (puts_are bytes)
        (put_out layout was bytes image r (subst CopiesNone (sym is.source) tt) is.carried
        (subst (AreLong (sector_bytes layout)) (sym (puts_are bytes))
        (λ q at.
        let p = from_map put_of ps q at in
        let a = whose_piece bs ps are p.0 p.1 in
        subst (λ (x : Put). length x.bytes ≤ length x.sectors * sector_bytes layout) p.2
        (subst (λ (n : ℕ). n ≤ length (place_of p.0) * sector_bytes layout) (sym a.2.long)
        (subst (λ (ss : List ℕ). size_of a.0.content ≤ length ss * sector_bytes layout) (sym a.2.place) (room a.0 a.1))))) has part)
