-- `rename` by which a directory grows, as it is prepared: what is ready of it, the pieces of all that are told, and who of those around
-- the grown directory is told nothing else.
use Rattle.fc_change.specs.Directories.{Rewriting, TellAll, Tells, around, children_of, holders_of, is_told, numbers}
use Rattle.fc_change.specs.Drafts.{IsChangeOf}
use Rattle.fc_change.specs.Needs.{is_copied}
use Rattle.fc_change.specs.Prepared.{IsPieceOf, IsReadyFor}
use Rattle.fc_change.specs.declared.change.Regrowth.{Regrowth}
use Rattle.fc_change.specs.declared.change.Says.{Says}
use Rattle.fc_change.specs.declared.job.Job.TheVariants as jobs
use Rattle.fc_change.specs.declared.spaces.Place.{Place}
use Rattle.fc_changes.proofs.BasicLemmas.{clash, holder_pushed}
use Rattle.fc_commands.proofs.GrownAroundLemmas.{IsCutAround}
use Rattle.fc_commands.proofs.GrownMoveCaseLemmas.{HoldsBoth, at_top, below, by_home}
use Rattle.fc_commands.proofs.GrownMoveEditLemmas.{AllReady, AllSaidNow, around_it, become, is_free, ready_about, stays}
use Rattle.fc_commands.proofs.GrownMoveFirstLemmas.{in_told, told_in}
use Rattle.fc_commands.proofs.GrownMovePartLemmas.{IsGrownMove, PlainMove}
use Rattle.fc_commands.proofs.GrownMoveSaidLemmas.{grown_numb, it, l, layout, not_above, numb, numb_is}
use Rattle.fc_commands.proofs.GrownMoveToldLemmas.{IsToldGrown, all_numbers, entry_now, home_told, last_told, told_grown}
use Rattle.fc_commands.proofs.GrownMoveWantLemmas.{GrownRename}
use Rattle.fc_commands.proofs.GrownMoveWantLemmas as want
use Rattle.fc_commands.proofs.GrownPieceLemmas.{AllPieces, IsGrownReady, grown_ready}
use Rattle.fc_commands.proofs.GrownPreparedLemmas.{told_node}
use Rattle.fc_commands.proofs.GrownToldLemmas as of
use Rattle.fc_commands.proofs.MoveLemmas as seen_of
use Rattle.fc_commands.proofs.MoveTellLemmas.{own_told}
use Rattle.fc_commands.specs.declared.stages.Prepared.{Prepared}
use Rattle.fc_drafts.specs.Entries.{renamed_entry}
use Rattle.fc_edits.specs.Edit.{Amended}
use Rattle.fc_image.proofs.CommandLemmas.{same_by_folds}
use Rattle.fc_image.proofs.EntriesLemmas.{cases as contains_cases}
use Rattle.fc_image.proofs.PathsLemmas.{itself}
use Rattle.fc_image.proofs.TreeLemmas.{map_both as map_append}
use Rattle.fc_image.specs.Layout.{Layout}
use Rattle.fc_image.specs.Walk.{Listing, Object}
use Rattle.fc_laws.specs.agree.Agreed.{parts_with}
use Rattle.fc_laws.specs.nodes.Edits.{Nodes}
use Rattle.fc_model.specs.Tree.{holder}
use Rattle.fc_names.specs.Names.{Path, is_same_path}
use Rattle.fc_placing.proofs.LeavingLemmas.{from_kept}
use Rattle.fc_tree.proofs.MemberLemmas.{contains_here, from_map, no_element}
use Rattle.fc_tree.proofs.PlaceLemmas.{one_path}
use Rattle.fc_tree.proofs.SoundLemmas.{same_listing}
use Rattle.fc_tree.proofs.WalkedLemmas.{child_path}
use Rattle.fc_tree.specs.Nodes.{is_directory_node}
use Rattle.fc_tree.specs.Parts.{Parts}
use Rattle.fc_writing.specs.declared.ready.Piece.{Piece}
use Rattle.std.proofs.Common.{Bool, List, Option, Some, [], ap, arith, cond, eq-eqb, false, filter, inl, inr, length, not, refl, subst, sym, true, ℕ, ⊎_elim, ◌++◌, ◌==◌, ◌∙◌, ◌∷◌, ◌≡◌, ◌⊎◌}
use Rattle.std.proofs.lemmas.Bool.{false_from_ne_true as unless}
use Rattle.std.proofs.lemmas.List.{length_push}
use Rattle.std.proofs.lemmas.List.Elements.{Contains-append_cases}
use Rattle.std.specs.Option.{option_map, unwrap_or}
use Rattle.std.specs.Prelude.{Contains}

-- A rename with its change, ready to be written.
pub record ReadyRename : Type 0 where
  pub q : GrownRename
  pub pr : Prepared
  pub change : IsChangeOf (parts_with q.m q.nodes q.owners) (jobs.Move q.r) q.name q.spaces pr.change
  pub ready : IsReadyFor (parts_with q.m q.nodes q.owners) pr.change q.spaces pr.ready

-- one without a copy
pub record PlainRename : Type 0 where
  pub q : GrownRename
  pub pr : Prepared
  pub plain : is_copied (parts_with q.m q.nodes q.owners) q.r ≡ false
  pub change : IsChangeOf (parts_with q.m q.nodes q.owners) (jobs.Move q.r) q.name q.spaces pr.change
  pub ready : IsReadyFor (parts_with q.m q.nodes q.owners) pr.change q.spaces pr.ready

abbrev pub base : PlainRename → ReadyRename
base w = record { q = w.q; pr = w.pr; change = w.change; ready = w.ready }

-- ---- lists of pieces

pub cut_pieces : (layout : Layout) (nodes : Nodes) (ss ts : List Says) (ps : List Piece) → AllPieces layout nodes (ss ++ ts) ps
    → (a : List Piece) × (b : List Piece) × (ps ≡ a ++ b) × AllPieces layout nodes ss a × AllPieces layout nodes ts b
cut_pieces layout nodes [] ts ps all = ([], ps, refl, tt, all)
cut_pieces layout nodes (s ∷ ss) ts [] all = absurd all
cut_pieces layout nodes (s ∷ ss) ts (p ∷ ps) all =
    let r = cut_pieces layout nodes ss ts ps all.1 in (p ∷ r.0, r.1, ap (λ (xs : List Piece). p ∷ xs) r.2, (all.0, r.3), r.4)

pub none_more : (q : GrownRename) (x : Object → Object) (up : Path → ℕ) (hs : List Says) (hps : List Piece) → TellAll (Some (want.grown q).0.directory) q.nodes [] hs → AllPieces (Layout.New q.m) q.nodes hs hps
    → AllSaidNow q x up [] hs hps
none_more q x up [] [] tell all = tt
none_more q x up [] (p ∷ ps) tell all = absurd all
none_more q x up (s ∷ ss) hps tell all = absurd tell

-- ---- those that are told nothing else

module _ (q : GrownRename) where
  abbrev g : Regrowth
  g = (want.grown q).0.directory

  pub node_other : q.r.target.node ≡ (want.grown q).0.directory.node → ⊥
  node_other same = seen_of.holder_other (layout q) q.nodes q.listings q.from q.to q.r q.name q.seen (sym (grown_numb q) ∙ sym same)

  -- The directory that holds the grown one is another, and isn't the object.
  pub above_other : (h : Listing) → Contains q.listings h → Contains h.children q.seen.known.destination.listing.object → (numb q h ≡ q.r.holder → ⊥) × (numb q h ≡ q.r.target.node → ⊥)
  above_other h at kid = (
    λ same.
        (let path = child_path (layout q) q.listings q.seen.sound h (l q).object at kid in
        let alike = one_path q.nodes q.r.holder (length h.object.path) h.object.path (l q).object.path refl (numb_is q h at ∙ ap (λ (n : ℕ). let x : Option ℕ = Some n in x) same) q.seen.known.destination.holder_is in
        clash (is_same_path h.object.path (l q).object.path) (same_by_folds h.object.path (l q).object.path alike)
        (of.other_long h.object.path (l q).object.path (λ long. (let more = ap (λ (p : Path). length p) path ∙ length_push h.object.path (l q).object.entry.name in omega (arith, long, more))))),
    λ same.
        (let path = child_path (layout q) q.listings q.seen.sound h (l q).object at kid in
        let alike = one_path q.nodes q.r.target.node (length (it q).path) (it q).path h.object.path refl q.seen.known.target.node_is (numb_is q h at ∙ ap (λ (n : ℕ). let x : Option ℕ = Some n in x) same) in
        clash (is_same_path (it q).path (holder (l q).object.path))
        (ap (is_same_path (it q).path) (ap holder path ∙ holder_pushed h.object.path (l q).object.entry.name) ∙ same_by_folds (it q).path h.object.path alike) (not_above q)),
  )

  own_only : (b : Bool) (n : ℕ) → Contains (numbers (own_told b q.r q.name)) n → n ≡ q.r.target.node
  own_only true n at = ⊎_elim (λ is. sym is) (λ none. absurd (no_element n none)) (contains_cases q.r.target.node n [] at)
  own_only false n at = absurd (no_element n at)

  -- It is told nothing else, unless it loses the object.
  pub above_free : (b : Bool) (h : Listing) → Contains q.listings h → Contains h.children q.seen.known.destination.listing.object → (Contains (numbers (home_told b q.r)) (numb q h) → ⊥)
      → is_free q (all_numbers q.nodes q.r q.name b) h ≡ true
  above_free b h at kid none = ap not (unless (is_told (all_numbers q.nodes q.r q.name b) (numb q h)) (λ told.
      let other = above_other h at kid in
      ⊎_elim (λ is. absurd (other.0 (sym is)))
      (λ later. ⊎_elim (λ own. absurd (other.1 (own_only (is_directory_node q.nodes q.r.target.node) (numb q h) own))) (λ home. absurd (none home))
      (Contains-append_cases (numbers (own_told (is_directory_node q.nodes q.r.target.node) q.r q.name)) (numbers (home_told b q.r)) (numb q h)
      (subst (λ (ns : List ℕ). Contains ns (numb q h)) (map_append (λ (y : ℕ × Rewriting). y.0) (own_told (is_directory_node q.nodes q.r.target.node) q.r q.name) (home_told b q.r)) later)))
      (contains_cases q.r.holder (numb q h) (numbers (last_told q.nodes q.r q.name b)) (in_told (all_numbers q.nodes q.r q.name b) (numb q h) told))))

  -- ---- the growth as a part of the edit

  module _ (x : PlainMove q) (ss : List Says) (ps : List Piece) (tells : TellAll (Some (want.grown q).0.directory) q.nodes (around (Some (want.grown q).0.directory) q.nodes x.numbers) ss)
      (pieces : AllPieces (Layout.New q.m) q.nodes ss ps) where
    abbrev Stand : List Listing → List Says → List Piece → Type 0
    Stand ds us rs = AllReady q (filter (is_free q x.numbers) ds) us rs

    -- It is the root, or held by a directory that is told nothing else,
    pub whole : (hs : List Says) (hps : List Piece) → AllSaidNow q (become q x.edit) x.up x.home hs hps
        → ((h : Listing) → Contains q.listings h → Contains h.children q.seen.known.destination.listing.object → is_free q x.numbers h ≡ true) → IsGrownMove q x (x.s0 ∷ (ss ++ (x.os ++ hs))) (x.p0 ∷ (ps ++ (x.ops ++ hps)))
    whole hs hps home free =
        let c = around_it q in by c.0 c.1 c.2 c.3 c.3.tops_are (ready_about q c.0 c.1 c.2 c.3 x.numbers ss ps tells pieces)
      where
        under : (h : Listing) (kids left : List Listing) → IsCutAround q.listings (l q) (h ∷ []) kids left → Contains h.children (l q).object → is_free q x.numbers h ≡ true → (us : List Says) (rs : List Piece)
            → AllReady q (h ∷ filter (is_free q x.numbers) (cond (stays q) [] kids)) us rs → IsGrownMove q x (x.s0 ∷ (us ++ (x.os ++ hs))) (x.p0 ∷ (rs ++ (x.ops ++ hps)))
        under h kids left cut kid its [] rs is = absurd is
        under h kids left cut kid its (s ∷ us) [] is = absurd is
        under h kids left cut kid its (s ∷ us) (p ∷ rs) is = below q x h kids left s p us rs hs hps cut kid its is.0 is.1 home

        by : (tops kids left : List Listing) → IsCutAround q.listings (l q) tops kids left
            → (((l q).object.path ≡ []) × (tops ≡ [])) ⊎ ((h : Listing) × (tops ≡ h ∷ []) × Contains q.listings h × Contains h.children (l q).object) → Stand (tops ++ cond (stays q) [] kids) ss ps
            → IsGrownMove q x (x.s0 ∷ (ss ++ (x.os ++ hs))) (x.p0 ∷ (ps ++ (x.ops ++ hps)))
        by tops kids left cut (inl (root, none)) is =
            at_top q x kids left ss ps hs hps (subst (λ (ts : List Listing). IsCutAround q.listings (l q) ts kids left) none cut) root (subst (λ (ts : List Listing). Stand (ts ++ cond (stays q) [] kids) ss ps) none is) home
        by tops kids left cut (inr (h, one, there, kid)) is =
            let its = free h there kid in
            under h kids left (subst (λ (ts : List Listing). IsCutAround q.listings (l q) ts kids left) one cut) kid its ss ps
            (subst (λ (c : Bool). AllReady q (cond c (h ∷ filter (is_free q x.numbers) (cond (stays q) [] kids)) (filter (is_free q x.numbers) (cond (stays q) [] kids))) ss ps) its
            (subst (λ (ts : List Listing). Stand (ts ++ cond (stays q) [] kids) ss ps) one is))

    -- or by the one that loses the object.
    pub whole_home : (a : Amended) (s : Says) (p : Piece) → HoldsBoth q x a s p → is_free q x.numbers a.was ≡ false → IsGrownMove q x (x.s0 ∷ (ss ++ (x.os ++ s ∷ []))) (x.p0 ∷ (ps ++ (x.ops ++ p ∷ [])))
    whole_home a s p both told =
        let c = around_it q in by c.0 c.1 c.2 c.3 c.3.tops_are (ready_about q c.0 c.1 c.2 c.3 x.numbers ss ps tells pieces)
      where
        longer : (l q).object.path ≡ [] → ⊥
        longer root =
            let more = ap (λ (y : Path). length y) (sym root ∙ child_path (layout q) q.listings q.seen.sound a.was (l q).object both.listed both.holds) ∙ length_push a.was.object.path (l q).object.entry.name in
            omega (arith, more)

        one_holder : (h : Listing) → Contains q.listings h → Contains h.children (l q).object → h ≡ a.was
        one_holder h there kid =
            same_listing (layout q) q.listings q.seen.sound h.object.path h a.was there both.listed (itself h.object.path)
            (ap (λ (y : Path). is_same_path h.object.path y)
            (sym (holder_pushed a.was.object.path (l q).object.entry.name) ∙ sym (ap holder (child_path (layout q) q.listings q.seen.sound a.was (l q).object both.listed both.holds))
            ∙ ap holder (child_path (layout q) q.listings q.seen.sound h (l q).object there kid) ∙ holder_pushed h.object.path (l q).object.entry.name) ∙ itself h.object.path)

        by : (tops kids left : List Listing) → IsCutAround q.listings (l q) tops kids left
            → (((l q).object.path ≡ []) × (tops ≡ [])) ⊎ ((h : Listing) × (tops ≡ h ∷ []) × Contains q.listings h × Contains h.children (l q).object) → Stand (tops ++ cond (stays q) [] kids) ss ps
            → IsGrownMove q x (x.s0 ∷ (ss ++ (x.os ++ s ∷ []))) (x.p0 ∷ (ps ++ (x.ops ++ p ∷ [])))
        by tops kids left cut (inl (root, none)) is = absurd (longer root)
        by tops kids left cut (inr (h, one, there, kid)) is =
            let its : tops ≡ a.was ∷ [] = one ∙ ap (λ (y : Listing). y ∷ []) (one_holder h there kid) in
            by_home q x a s p both kids left ss ps (subst (λ (ts : List Listing). IsCutAround q.listings (l q) ts kids left) its cut)
            (subst (λ (c : Bool). AllReady q (cond c (a.was ∷ filter (is_free q x.numbers) (cond (stays q) [] kids)) (filter (is_free q x.numbers) (cond (stays q) [] kids))) ss ps) told
            (subst (λ (ts : List Listing). Stand (ts ++ cond (stays q) [] kids) ss ps) its is))

-- ---- what is ready

-- Without a copy the object stays where it is.
pub plain_entry : (w : PlainRename) → entry_now w.q ≡ renamed_entry w.q.seen.known.target.object.entry w.q.name w.q.seen.known.target.object.entry.address
plain_entry w =
    ap (λ (o : Option Place). renamed_entry (it w.q).entry w.q.name (unwrap_or (option_map (λ (y : Place). y.address) o) (it w.q).entry.address)) (want.no_place w.q w.plain)

module _ (w : ReadyRename) where
  abbrev h : Parts
  h = parts_with w.q.m w.q.nodes w.q.owners

  module _ (b : Bool) (is_b : (w.q.r.holder == w.q.r.target.holder) ≡ b) where
    pub told : IsToldGrown w.q (entry_now w.q) b w.pr.change
    told = told_grown w.q b is_b w.pr.change w.change

    abbrev pub others : List Says
    others = told.about ++ (told.own ++ told.home)

    home_other : (c : Bool) → (w.q.r.holder == w.q.r.target.holder) ≡ c → (y : ℕ × Rewriting) → Contains (home_told c w.q.r) y → y.0 ≡ (want.grown w.q).0.directory.node → ⊥
    home_other true e y at same = no_element y at
    home_other false e y at same =
        clash (w.q.r.holder == w.q.r.target.holder)
        (eq-eqb w.q.r.holder w.q.r.target.holder (sym (grown_numb w.q) ∙ sym same ∙ sym (⊎_elim (λ is. ap (λ (z : ℕ × Rewriting). z.0) is) (λ none. absurd (no_element y none)) (contains_cases (w.q.r.target.holder, Rewriting.Leaves w.q.r.target.at) y [] at)))) e

    own_other : (c : Bool) (y : ℕ × Rewriting) → Contains (own_told c w.q.r w.q.name) y → y.0 ≡ (want.grown w.q).0.directory.node → ⊥
    own_other true y at same =
        node_other w.q (⊎_elim (λ is. ap (λ (z : ℕ × Rewriting). z.0) is) (λ none. absurd (no_element y none)) (contains_cases (w.q.r.target.node, Rewriting.Turns w.q.r.holder w.q.name) y [] at) ∙ same)
    own_other false y at same = no_element y at

    -- All others are others.
    apart : (s : Says) → Contains (told.about ++ (told.own ++ told.home)) s → s.node ≡ (want.grown w.q).0.directory.node → ⊥
    apart s at same =
        ⊎_elim
        (λ about.
        (let r = told_node (Some (want.grown w.q).0.directory) w.q.nodes (around (Some (want.grown w.q).0.directory) w.q.nodes (all_numbers w.q.nodes w.q.r w.q.name b)) told.about s told.tell_about about in
        let back = from_map (λ (n : ℕ). let y : ℕ × Rewriting = (n, Rewriting.Stays) in y)
        (filter (λ (n : ℕ). not (is_told (all_numbers w.q.nodes w.q.r w.q.name b) n)) (holders_of w.q.nodes (want.grown w.q).0.directory ++ children_of w.q.nodes (want.grown w.q).0.directory)) r.0 r.1 in
        let free = (from_kept (λ (n : ℕ). not (is_told (all_numbers w.q.nodes w.q.r w.q.name b) n)) (holders_of w.q.nodes (want.grown w.q).0.directory ++ children_of w.q.nodes (want.grown w.q).0.directory) back.0 back.1).1 in
        let is : back.0 ≡ w.q.r.holder = ap (λ (y : ℕ × Rewriting). y.0) back.2 ∙ sym r.2 ∙ same ∙ grown_numb w.q in
        clash (is_told (all_numbers w.q.nodes w.q.r w.q.name b) back.0) (told_in (all_numbers w.q.nodes w.q.r w.q.name b) back.0 (subst (λ (n : ℕ). Contains (all_numbers w.q.nodes w.q.r w.q.name b) n) (sym is) (contains_here w.q.r.holder (numbers (last_told w.q.nodes w.q.r w.q.name b)))))
        (not_true (is_told (all_numbers w.q.nodes w.q.r w.q.name b) back.0) free)))
        (λ more. ⊎_elim
        (λ own. (let r = told_node (Some (want.grown w.q).0.directory) w.q.nodes (own_told (is_directory_node w.q.nodes w.q.r.target.node) w.q.r w.q.name) told.own s told.tell_own own in
        own_other (is_directory_node w.q.nodes w.q.r.target.node) r.0 r.1 (sym r.2 ∙ same)))
        (λ home. (let r = told_node (Some (want.grown w.q).0.directory) w.q.nodes (home_told b w.q.r) told.home s told.tell_home home in home_other b is_b r.0 r.1 (sym r.2 ∙ same)))
        (Contains-append_cases told.own told.home s more)) (Contains-append_cases told.about (told.own ++ told.home) s at)
      where
        not_true : (c : Bool) → not c ≡ true → c ≡ false
        not_true true e = absurd (cc)
        not_true false e = refl

    pub ready : IsGrownReady (Layout.New w.q.m) w.q.nodes (want.grown w.q).0 told.said (told.about ++ (told.own ++ told.home)) w.ready.made w.pr.ready
    ready =
        grown_ready h w.pr.change w.q.spaces w.pr.ready (want.grown w.q).0 told.said (told.about ++ (told.own ++ told.home)) w.ready (want.grown w.q).1 told.says (told.tells.number ∙ sym (grown_numb w.q)) apart

    pub about_cut : (a : List Piece) × (b : List Piece) × (ready.pieces ≡ a ++ b) × AllPieces (Layout.New w.q.m) w.q.nodes told.about a × AllPieces (Layout.New w.q.m) w.q.nodes (told.own ++ told.home) b
    about_cut = cut_pieces (Layout.New w.q.m) w.q.nodes told.about (told.own ++ told.home) ready.pieces ready.are

    pub own_cut : (a : List Piece) × (b : List Piece) × (about_cut.1 ≡ a ++ b) × AllPieces (Layout.New w.q.m) w.q.nodes told.own a × AllPieces (Layout.New w.q.m) w.q.nodes told.home b
    own_cut = cut_pieces (Layout.New w.q.m) w.q.nodes told.own told.home about_cut.1 about_cut.4

    pub pieces_are : ready.pieces ≡ about_cut.0 ++ (own_cut.0 ++ own_cut.1)
    pieces_are = about_cut.2 ∙ ap (λ (ps : List Piece). about_cut.0 ++ ps) own_cut.2

-- ---- the directory that loses it

-- It is told so, and has its piece.
abbrev pub IsHomeTold : (w : ReadyRename) → (w.q.r.holder == w.q.r.target.holder) ≡ false → Type 0
IsHomeTold w is_b = (s : Says) × (p : Piece) × ((told w false is_b).home ≡ s ∷ []) × ((own_cut w false is_b).1 ≡ p ∷ []) × Tells (Some (want.grown w.q).0.directory) w.q.nodes w.q.r.target.holder (Rewriting.Leaves w.q.r.target.at) s
    × IsPieceOf (Layout.New w.q.m) w.q.nodes s p

pub home_told_of : (w : ReadyRename) (is_b : (w.q.r.holder == w.q.r.target.holder) ≡ false) → IsHomeTold w is_b
home_told_of w is_b = one_home (told w false is_b).home (own_cut w false is_b).1 (told w false is_b).tell_home (own_cut w false is_b).4
  where
    one_home : (hs : List Says) (hps : List Piece) → TellAll (Some (want.grown w.q).0.directory) w.q.nodes ((w.q.r.target.holder, Rewriting.Leaves w.q.r.target.at) ∷ []) hs → AllPieces (Layout.New w.q.m) w.q.nodes hs hps
        → (s : Says) × (p : Piece) × (hs ≡ s ∷ []) × (hps ≡ p ∷ []) × Tells (Some (want.grown w.q).0.directory) w.q.nodes w.q.r.target.holder (Rewriting.Leaves w.q.r.target.at) s × IsPieceOf (Layout.New w.q.m) w.q.nodes s p
    one_home [] hps tell all = absurd tell
    one_home (s ∷ []) [] tell all = absurd all
    one_home (s ∷ []) (p ∷ []) tell all = (s, p, refl, refl, tell.0, all.0)
    one_home (s ∷ []) (p ∷ (r ∷ ps)) tell all = absurd all.1
    one_home (s ∷ (t ∷ ss)) hps tell all = absurd tell.1
