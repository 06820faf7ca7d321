-- An edit beside the growth of a directory: which directories it tells, which those around the grown one are told too, and the growth as a part
-- of it. It tells the grown one first and `more` others, and leaves the rest as they are.
use Rattle.fc_change.specs.After.{with_said}
use Rattle.fc_change.specs.Directories.{Rewriting, TellAll, around, is_told}
use Rattle.fc_change.specs.declared.change.Regrowth.{Regrowth}
use Rattle.fc_change.specs.declared.change.Says.{Says}
use Rattle.fc_commands.proofs.GrownAroundLemmas.{IsCutAround, cut_around, in_filtered, none_holds}
use Rattle.fc_commands.proofs.GrownMoveSaidLemmas.{l, layout, listed, numb, sectors}
use Rattle.fc_commands.proofs.GrownMoveWalkLemmas as walk
use Rattle.fc_commands.proofs.GrownMoveWantLemmas.{GrownRename}
use Rattle.fc_commands.proofs.GrownMoveWantLemmas as want
use Rattle.fc_commands.proofs.GrownPieceLemmas.{AllPieces}
use Rattle.fc_commands.proofs.GrownReadyLemmas.{AreReady, IsOneReady, are_ready}
use Rattle.fc_commands.proofs.GrownSpaceLemmas.{growing_of}
use Rattle.fc_commands.proofs.GrownToldLemmas.{all_pass}
use Rattle.fc_commands.proofs.GrownToldLemmas as of
use Rattle.fc_dirs.specs.Directory.{Directory}
use Rattle.fc_drafts.specs.Draft.{directory_in}
use Rattle.fc_edits.specs.Edit.{Amended, Edit}
use Rattle.fc_edits.specs.Growing.{regrown}
use Rattle.fc_edits.specs.NewNodes.{tell}
use Rattle.fc_image.proofs.EntriesLemmas.{cases as contains_cases, later as contains_later}
use Rattle.fc_image.specs.Layout.{Layout, dir_form}
use Rattle.fc_image.specs.Walk.{Listing, Object, is_directory_object, object_size}
use Rattle.fc_image.specs.effects.Steady.{AreWritten, IsRewritten}
use Rattle.fc_laws.specs.agree.Agreed.{CanSay}
use Rattle.fc_laws.specs.nodes.Edits.{Nodes, with_body}
use Rattle.fc_model.specs.Command.{Command}
use Rattle.fc_model.specs.Tree.{holder}
use Rattle.fc_names.specs.Names.{Path, is_same_path}
use Rattle.fc_tree.proofs.MemberLemmas.{contains_here, in_map, no_element}
use Rattle.fc_tree.proofs.WalkedLemmas.{child_path}
use Rattle.fc_tree.specs.Nodes.{body_in, number_of}
use Rattle.fc_writing.specs.Ready.{place_of}
use Rattle.fc_writing.specs.declared.ready.Piece.{Piece}
use Rattle.std.proofs.Common.{Bool, List, None, Some, [], ap, append_assoc, ap₂, arith, cond, false, filter, flat_map, inl, inr, length, map, not, refl, subst, sym, true, ℕ, ⊎_elim, ◌++◌, ◌==◌, ◌∙◌, ◌∷◌, ◌≡◌, ◌⊎◌}
use Rattle.std.proofs.lemmas.Bool.{false_from_ne_true as unless}
use Rattle.std.proofs.lemmas.List.{length_push}
use Rattle.std.proofs.lemmas.List.Elements.{Contains-append_cases, Contains-append_left, Contains-append_right}
use Rattle.std.proofs.lemmas.List.Sorted.{Contains-permutation, IsPermutation-sym}
use Rattle.std.specs.Prelude.{Contains, IsPermutation}

-- ---- lists

pub none_pass : {X : Type 0} (t : X → Bool) (xs : List X) → ((x : X) → Contains xs x → t x ≡ false) → filter t xs ≡ []
none_pass t [] none = refl
none_pass {X} t (x ∷ xs) none = ap (λ (b : Bool). let ys : List X = cond b (x ∷ filter t xs) (filter t xs) in ys) (none x (contains_here x xs)) ∙ none_pass t xs (λ y at. none y (contains_later x y xs at))

pub flat_both : {X Y : Type 0} (f : X → List Y) (xs ys : List X) → flat_map f (xs ++ ys) ≡ flat_map f xs ++ flat_map f ys
flat_both f [] ys = refl
flat_both {X} {Y} f (x ∷ xs) ys = ap (λ (zs : List Y). f x ++ zs) (flat_both f xs ys) ∙ sym (append_assoc (f x) (flat_map f xs) (flat_map f ys))

-- An object keeps its bytes.
pub record KeepsBody (a b : Object) : Type 0 where
  pub sectors : a.sectors ≡ b.sectors
  pub len : a.entry.len ≡ b.entry.len
  pub attrs : a.entry.attrs ≡ b.entry.attrs

-- ---- the edit without the growth

-- These numbers are those of the directories that it tells.
pub record IsPlainEdit (q : GrownRename) (e : Edit) (told : List ℕ) (first : Amended) (more : List Amended) : Type 0 where
  pub found : IsPermutation q.listings (map (λ (a : Amended). a.was) (first ∷ more) ++ e.same)
  pub amended_is : IsPermutation e.amended (first ∷ more)
  pub first_is : first.was ≡ q.seen.known.destination.listing
  pub first_number : first.number ≡ (want.grown q).0.directory.node
  pub stays : e.turn q.seen.known.destination.listing.object ≡ q.seen.known.destination.listing.object
  pub none_leave : e.top_leave ≡ []
  pub none_join : e.top_join ≡ []
  pub are_told : (a : Amended) → Contains (first ∷ more) a → is_told told (numb q a.was) ≡ true
  pub untold : (d : Listing) → Contains e.same d → is_told told (numb q d) ≡ false
  pub keeps : (d : Listing) → Contains e.same d → KeepsBody (e.turn d.object) d.object
  pub others : (d : Listing) → Contains e.same d → is_same_path q.seen.known.target.object.path d.object.path ≡ false

-- what an object becomes
abbrev pub become : GrownRename → Edit → Object → Object
become q e = regrown e (growing_of q.seen.known.destination.listing.object (want.grown q).0 [] [] None [])

-- ---- what is said

-- A directory of the edit is told this by the command, and its piece says it. The address of its holder is then that of its path.
pub record IsSaidNow (q : GrownRename) (x : Object → Object) (up : Path → ℕ) (a : Amended) (s : Says) (p : Piece) : Type 0 where
  pub found : Contains q.listings a.was
  pub number_at : number_of q.nodes a.was.object.path ≡ Some a.number
  pub number_is : a.number ≡ s.node
  pub content_is : a.content ≡ directory_in s.draft
  pub says : IsRewritten (Command.Rename q.from q.to) a.was.object.path (up a.was.object.path) a.was.content a.content
  pub can : CanSay (Layout.New q.m) (x a.was.object) a.content
  pub place : place_of p ≡ (x a.was.object).sectors
  pub bytes : AreWritten p.bytes.items a.content
  pub long : length p.bytes.items ≡ object_size (dir_form (Layout.New q.m)) (x a.was.object).entry

-- each of them, in this order
abbrev pub AllSaidNow : (q : GrownRename) (x : Object → Object) (up : Path → ℕ) → List Amended → List Says → List Piece → Type 0
AllSaidNow q x up [] [] [] = Unit {0}
AllSaidNow q x up (a ∷ bs) (s ∷ ss) (p ∷ ps) = IsSaidNow q x up a s p × AllSaidNow q x up bs ss ps
AllSaidNow q x up _ _ _ = ⊥

pub both_said_now : (q : GrownRename) (x : Object → Object) (up : Path → ℕ) (xs bs : List Amended) (ss ts : List Says) (ps rs : List Piece) → AllSaidNow q x up xs ss ps → AllSaidNow q x up bs ts rs
    → AllSaidNow q x up (xs ++ bs) (ss ++ ts) (ps ++ rs)
both_said_now q x up [] bs [] ts [] rs first later = later
both_said_now q x up [] bs [] ts (p ∷ ps) rs first later = absurd first
both_said_now q x up [] bs (s ∷ ss) ts ps rs first later = absurd first
both_said_now q x up (a ∷ xs) bs [] ts ps rs first later = absurd first
both_said_now q x up (a ∷ xs) bs (s ∷ ss) ts [] rs first later = absurd first
both_said_now q x up (a ∷ xs) bs (s ∷ ss) ts (p ∷ ps) rs first later = (first.0, both_said_now q x up xs bs ss ts ps rs first.1 later)

-- one of them, and its piece
pub said_now : (q : GrownRename) (x : Object → Object) (up : Path → ℕ) (bs : List Amended) (ss : List Says) (ps : List Piece) → AllSaidNow q x up bs ss ps → (a : Amended) → Contains bs a
    → (s : Says) × (p : Piece) × Contains ps p × IsSaidNow q x up a s p
said_now q x up [] ss ps all a at = absurd (no_element a at)
said_now q x up (b ∷ bs) [] ps all a at = absurd all
said_now q x up (b ∷ bs) (s ∷ ss) [] all a at = absurd all
said_now q x up (b ∷ bs) (s ∷ ss) (p ∷ ps) all a at =
    ⊎_elim (λ same. subst (λ (y : Amended). (t : Says) × (r : Piece) × Contains (p ∷ ps) r × IsSaidNow q x up y t r) same (s, p, contains_here p ps, all.0))
    (λ later. let r = said_now q x up bs ss ps all.1 a later in (r.0, r.1, contains_later p r.1 ps r.2, r.3)) (contains_cases b a bs at)

-- and a piece is that of one of them
pub back_now : (q : GrownRename) (x : Object → Object) (up : Path → ℕ) (bs : List Amended) (ss : List Says) (ps : List Piece) → AllSaidNow q x up bs ss ps → (p : Piece) → Contains ps p
    → (a : Amended) × Contains bs a × (s : Says) × IsSaidNow q x up a s p
back_now q x up bs ss [] all p at = absurd (no_element p at)
back_now q x up [] [] (r ∷ ps) all p at = absurd all
back_now q x up [] (s ∷ ss) (r ∷ ps) all p at = absurd all
back_now q x up (b ∷ bs) [] (r ∷ ps) all p at = absurd all
back_now q x up (b ∷ bs) (s ∷ ss) (r ∷ ps) all p at =
    ⊎_elim (λ same. subst (λ (y : Piece). (a : Amended) × Contains (b ∷ bs) a × (t : Says) × IsSaidNow q x up a t y) same (b, contains_here b bs, s, all.0))
    (λ later. let f = back_now q x up bs ss ps all.1 p later in (f.0, contains_later b f.0 bs f.1, f.2, f.3)) (contains_cases r p ps at)

-- The nodes say so.
pub tell_now : (q : GrownRename) (x : Object → Object) (up : Path → ℕ) (bs : List Amended) (ss : List Says) (ps : List Piece) → AllSaidNow q x up bs ss ps → (ns : Nodes) → with_said ss ns ≡ tell bs ns
tell_now q x up [] [] [] all ns = refl
tell_now q x up [] [] (p ∷ ps) all ns = absurd all
tell_now q x up [] (s ∷ ss) ps all ns = absurd all
tell_now q x up (a ∷ bs) [] ps all ns = absurd all
tell_now q x up (a ∷ bs) (s ∷ ss) [] all ns = absurd all
tell_now q x up (a ∷ bs) (s ∷ ss) (p ∷ ps) all ns =
    ap₂ (λ (n : ℕ) (d : Directory). with_said ss (with_body n (body_in d) ns)) (sym all.0.number_is) (sym all.0.content_is) ∙ tell_now q x up bs ss ps all.1 (with_body a.number (body_in a.content) ns)

-- ---- the directories around the grown one

module _ (q : GrownRename) where
  abbrev g : Regrowth
  g = (want.grown q).0.directory

  -- those that hold it, those in it, and all others
  pub around_it : (tops kids left : List Listing) × IsCutAround q.listings q.seen.known.destination.listing tops kids left
  around_it = cut_around (layout q) q.listings q.seen.sound (l q) (listed q)

  abbrev pub stays : Bool
  stays = q.seen.known.destination.listing.object.entry.address == (want.grown q).0.directory.address

  abbrev pub OneReady : Listing → Says → Piece → Type 0
  OneReady d s p = IsOneReady (Layout.New q.m) q.nodes q.listings q.seen.sound q.seen.held q.seen.known.destination.listing (walk.listed q) (want.grown q).0.directory (walk.number q) q.seen.forms (sectors q) d s p

  abbrev pub AllReady : List Listing → List Says → List Piece → Type 0
  AllReady ds ss ps = AreReady (Layout.New q.m) q.nodes q.listings q.seen.sound q.seen.held q.seen.known.destination.listing (walk.listed q) (want.grown q).0.directory (walk.number q) q.seen.forms (sectors q) ds ss ps

  -- A directory of the listings is told no more than another address, if it isn't among these.
  abbrev pub is_free : List ℕ → Listing → Bool
  is_free told d = not (is_told told (numb q d))

  module _ (tops kids left : List Listing) (cut : IsCutAround q.listings q.seen.known.destination.listing tops kids left) where
    abbrev about : List Listing
    about = tops ++ cond stays [] kids

    -- it holds the grown one, or lies in it
    stands : (d : Listing) → Contains (tops ++ cond stays [] kids) d → Contains q.listings d × (Contains d.children (l q).object ⊎ Contains (l q).children d.object)
    stands d at = ⊎_elim (λ top. above cut.tops_are top) (λ kid. inside stays kid) (Contains-append_cases tops (cond stays [] kids) d at)
      where
        above : (((l q).object.path ≡ []) × (tops ≡ [])) ⊎ ((h : Listing) × (tops ≡ h ∷ []) × Contains q.listings h × Contains h.children (l q).object) → Contains tops d
            → Contains q.listings d × (Contains d.children (l q).object ⊎ Contains (l q).children d.object)
        above (inl root) top = absurd (no_element d (subst (λ (ks : List Listing). Contains ks d) root.1 top))
        above (inr (h, one, there, kid)) top =
            ⊎_elim (λ is. subst (λ (j : Listing). Contains q.listings j × (Contains j.children (l q).object ⊎ Contains (l q).children j.object)) is (there, inl kid)) (λ none. absurd (no_element d none))
            (contains_cases h d [] (subst (λ (ks : List Listing). Contains ks d) one top))

        inside : (b : Bool) → Contains (cond b [] kids) d → Contains q.listings d × (Contains d.children (l q).object ⊎ Contains (l q).children d.object)
        inside true none = absurd (no_element d none)
        inside false kid =
            let child : Contains (l q).children d.object =
            in_filtered is_directory_object (l q).children d.object (subst (λ (os : List Object). Contains os d.object) cut.kids_are (in_map (λ (j : Listing). j.object) kids d kid)) in (
              Contains-permutation (l q ∷ (tops ++ (kids ++ left))) q.listings d (IsPermutation-sym q.listings (l q ∷ (tops ++ (kids ++ left))) cut.all)
                  (contains_later (l q) d (tops ++ (kids ++ left)) (Contains-append_right tops (kids ++ left) d (Contains-append_left kids left d kid))),
              inr child,
            )

    -- They are ready as they are told.
    pub ready_about : (told : List ℕ) (ss : List Says) (ps : List Piece) → TellAll (Some (want.grown q).0.directory) q.nodes (around (Some (want.grown q).0.directory) q.nodes told) ss
        → AllPieces (Layout.New q.m) q.nodes ss ps → AllReady (filter (is_free told) (tops ++ cond stays [] kids)) ss ps
    ready_about told ss ps tells pieces =
        are_ready (layout q) q.nodes q.listings q.seen.sound q.seen.held (l q) (listed q) g (walk.number q) q.seen.forms (sectors q) (filter (is_free told) about) ss ps
        (λ d at. stands d (in_filtered (is_free told) about d at))
        (subst (λ (qs : List (ℕ × Rewriting)). TellAll (Some g) q.nodes qs ss)
        (of.around_is (layout q) q.nodes q.listings q.seen.sound q.seen.held (l q) (listed q) g (walk.number q) tops kids left cut told) tells) pieces

    -- a directory beside the grown one isn't it
    pub other_path : (d : Listing) → Contains (tops ++ cond stays [] kids) d → is_same_path q.seen.known.destination.listing.object.path d.object.path ≡ false
    other_path d at = let s = stands d at in of.other_long (l q).object.path d.object.path (λ same. ⊎_elim
        (λ top. (let more = ap (λ (x : Path). length x) (child_path (layout q) q.listings q.seen.sound d (l q).object s.0 top) ∙ length_push d.object.path (l q).object.entry.name in omega (arith, same, more)))
        (λ kid. (let more = ap (λ (x : Path). length x) (child_path (layout q) q.listings q.seen.sound (l q) d.object (listed q) kid) ∙ length_push (l q).object.path d.object.entry.name in omega (arith, same, more))) s.1)

    pub plain_kid : (d : Listing) → Contains (cond stays [] kids) d → is_same_path (holder q.seen.known.destination.listing.object.path) d.object.path ≡ false
    plain_kid d at =
        unless (is_same_path (holder (l q).object.path) d.object.path)
        (λ same. none_holds (layout q) q.listings q.nodes q.seen.sound q.seen.held (l q) (listed q) tops kids left cut d (by stays at) same)
      where
        by : (b : Bool) → Contains (cond b [] kids) d → Contains (kids ++ left) d
        by true here = absurd (no_element d here)
        by false here = Contains-append_left kids left d here
