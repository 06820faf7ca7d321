-- What is ready of a change in which a directory grows: the pieces of the grown directory and of those around it, before the map's first
-- step and after it.
use Rattle.std.proofs.Common.{◌≡◌, inl, inr, ⊎_elim, ◌⊎◌, ℕ, ◌==◌, ◌&&◌, Bool, true, false, cond, not, List, [], ◌∷◌, ◌++◌, map, refl, sym, ap, subst, ◌∙◌, eq-eqb, Option, Some}
use Rattle.std.specs.Prelude.{Contains, filter}
use Rattle.std.proofs.lemmas.Bool.{ne_eqb}
use Rattle.std.proofs.lemmas.List.Elements.{Contains-append_cases, Contains-append_left, Contains-append_right}
use Rattle.fc_device.specs.declared.disk.Extent.{Extent}
use Rattle.fc_image.specs.Layout.{Layout}
use Rattle.fc_laws.specs.nodes.Edits.{Nodes}
use Rattle.fc_objects.specs.Extents.{sectors_in}
use Rattle.fc_tree.specs.Parts.{Parts}
use Rattle.fc_tree.proofs.MemberLemmas.{contains_here, from_map, in_map, no_element}
use Rattle.fc_outcomes.specs.Puts.{Put}
use Rattle.fc_writing.specs.declared.ready.Piece.{Piece}
use Rattle.fc_writing.specs.declared.ready.Ready.{Ready}
use Rattle.fc_writing.specs.Ready.{place_of}
use Rattle.fc_change.specs.declared.change.Change.{Change}
use Rattle.fc_change.specs.declared.change.Says.{Says}
use Rattle.fc_change.specs.declared.spaces.GrownPlace.{GrownPlace}
use Rattle.fc_change.specs.declared.spaces.Spaces.{Spaces}
use Rattle.fc_change.specs.Prepared.{ArePiecesOf, IsDrafted, IsGrownPiece, IsMovedPiece, IsPieceIn, IsPieceOf, IsReadyFor, PiecesMatch, is_moved}
use Rattle.fc_commands.proofs.PutLemmas.{put_of, puts_of, source_puts}
use Rattle.fc_commands.proofs.GrownToldLemmas.{all_pass}
use Rattle.fc_image.proofs.EntriesLemmas.{later as contains_later, cases as contains_cases}

-- a piece for each, that goes to the place of its directory
abbrev pub AllPieces : Layout → Nodes → List Says → List Piece → Type 0
AllPieces layout nodes [] [] = Unit {0}
AllPieces layout nodes (s ∷ ss) (p ∷ ps) = IsPieceOf layout nodes s p × AllPieces layout nodes ss ps
AllPieces layout nodes _ _ = ⊥

-- The grown directory, which is told `first`, has a piece for its new place, and those of `others` have theirs. Beside `made` it is
-- written early, if it gets new space, else late.
pub record IsGrownReady (layout : Layout) (nodes : Nodes) (g : GrownPlace) (first : Says) (others : List Says) (made : List Piece) (r : Ready) : Type 0 where
  pub own : Piece
  pub drafted : IsDrafted first.draft own
  pub place : place_of own ≡ sectors_in g.extents.items
  pub pieces : List Piece
  pub are : AllPieces layout nodes others pieces
  pub early : r.early.items ≡ made ++ cond g.moves (own ∷ []) []
  pub late : r.late.items ≡ cond g.moves pieces (own ∷ pieces)

-- ---- pieces of the others

module _ (layout : Layout) (nodes : Nodes) (g : GrownPlace) where
  abbrev stays : Says → Bool
  stays s = not (is_moved (Some g) s.node)

  plain_one : (s : Says) (p : Piece) → (g.directory.node == s.node) ≡ false → IsPieceIn (g.directory.node == s.node) layout nodes g.extents.items s p → IsPieceOf layout nodes s p
  plain_one s p other is = subst (λ (b : Bool). IsPieceIn b layout nodes g.extents.items s p) other is

  plain_all : (ss : List Says) (ps : List Piece) → ((s : Says) → Contains ss s → (g.directory.node == s.node) ≡ false) → PiecesMatch layout nodes (Some g) ss ps → AllPieces layout nodes ss ps
  plain_all [] [] other is = tt
  plain_all [] (p ∷ ps) other is = absurd is
  plain_all (s ∷ ss) [] other is = absurd is
  plain_all (s ∷ ss) (p ∷ ps) other is =
      (plain_one s p (other s (contains_here s ss)) is.0, plain_all ss ps (λ t at. other t (contains_later s t ss at)) is.1)

  module _ (first : Says) (others : List Says) (its : first.node ≡ g.directory.node) (apart : (s : Says) → Contains others s → s.node ≡ g.directory.node → ⊥) where
    not_it : (s : Says) → Contains others s → (g.directory.node == s.node) ≡ false
    not_it s at = ne_eqb g.directory.node s.node (λ e. apart s at (sym e))

    it_is : (g.directory.node == first.node) ≡ true
    it_is = eq-eqb g.directory.node first.node (sym its)

    left : Bool → List Says
    left b = filter (λ (s : Says). not (b && (g.directory.node == s.node))) (first ∷ others)

    -- if it gets new space it isn't among those that are written over
    left_is : (b : Bool) → filter (λ (s : Says). not (b && (g.directory.node == s.node))) (first ∷ others) ≡ cond b others (first ∷ others)
    left_is true =
        ap (λ (c : Bool). cond (not c) (first ∷ filter (λ (s : Says). not (true && (g.directory.node == s.node))) others) (filter (λ (s : Says). not (true && (g.directory.node == s.node))) others)) it_is
        ∙ all_pass (λ (s : Says). not (true && (g.directory.node == s.node))) others (λ s at. ap not (not_it s at))
    left_is false = all_pass (λ (s : Says). not (false && (g.directory.node == s.node))) (first ∷ others) (λ s at. refl)

    -- the piece of new space is its own
    the_first : (s : Says) → Contains (first ∷ others) s → s.node ≡ g.directory.node → s ≡ first
    the_first s at same = ⊎_elim (λ here. sym here) (λ later. absurd (apart s later same)) (contains_cases first s others at)

    module _ (made grown : List Piece) (r : Ready) (early : r.early.items ≡ made ++ grown) where
      by_moves : (b : Bool) → g.moves ≡ b → IsMovedPiece b g (first ∷ others) grown → PiecesMatch layout nodes (Some g) (cond b others (first ∷ others)) r.late.items → IsGrownReady layout nodes g first others made r
      by_moves true e (s, at, same, p, one, place, drafted) late = record {
        own = p;
        drafted = subst (λ (x : Says). IsDrafted x.draft p) (the_first s at same) drafted;
        place = ap (λ (xs : List Extent). sectors_in xs) place;
        pieces = r.late.items;
        are = plain_all others r.late.items not_it late;
        early = early ∙ ap (λ (ps : List Piece). made ++ ps) one ∙ ap (λ (b : Bool). made ++ cond b (p ∷ []) []) (sym e);
        late = ap (λ (b : Bool). cond b r.late.items (p ∷ r.late.items)) (sym e);
      }
      by_moves false e none late = by r.late.items refl late
        where
          by : (ps : List Piece) → r.late.items ≡ ps → PiecesMatch layout nodes (Some g) (first ∷ others) ps → IsGrownReady layout nodes g first others made r
          by [] is match = absurd match
          by (p ∷ ps) is match =
              let own = subst (λ (b : Bool). IsPieceIn b layout nodes g.extents.items first p) it_is match.0 in
              record {
                own = p;
                drafted = own.1;
                place = ap (λ (xs : List Extent). sectors_in xs) own.0;
                pieces = ps;
                are = plain_all others ps not_it match.1;
                early = early ∙ ap (λ (qs : List Piece). made ++ qs) none ∙ ap (λ (b : Bool). made ++ cond b (p ∷ []) []) (sym e);
                late = is ∙ ap (λ (b : Bool). cond b ps (p ∷ ps)) (sym e);
              }

-- What is ready of a change in which a directory grows, of which `first` tells that directory.
pub grown_ready : (h : Parts) (c : Change) (s : Spaces) (r : Ready) (g : GrownPlace) (first : Says) (others : List Says) (is : IsReadyFor h c s r) → s.grown ≡ Some g → c.says.items ≡ first ∷ others
    → first.node ≡ g.directory.node → ((x : Says) → Contains others x → x.node ≡ g.directory.node → ⊥) → IsGrownReady h.layout h.nodes g first others is.made r
grown_ready h c s r g first others is grown says its apart =
    let grows = subst (λ (q : Option GrownPlace). IsGrownPiece q (first ∷ others) is.grown) grown (subst (λ (ss : List Says). IsGrownPiece s.grown ss is.grown) says is.grows) in
    let late = subst (λ (q : Option GrownPlace). ArePiecesOf h.layout h.nodes q (first ∷ others) r.late.items) grown (subst (λ (ss : List Says). ArePiecesOf h.layout h.nodes s.grown ss r.late.items) says is.late) in
    by_moves h.layout h.nodes g first others its apart is.made is.grown r is.early g.moves refl grows
    (subst (λ (ss : List Says). PiecesMatch h.layout h.nodes (Some g) ss r.late.items) (left_is h.layout h.nodes g first others its apart g.moves) late)

-- ---- as puts

module _ (layout : Layout) (nodes : Nodes) (g : GrownPlace) (first : Says) (others : List Says) (made : List Piece) (r : Ready) (is : IsGrownReady layout nodes g first others made r) (bytes : List ℕ) where
  abbrev pub pieces_all : List Piece
  pieces_all = made ++ is.own ∷ is.pieces

  early_or_late : (b : Bool) (q : Piece) → Contains (made ++ is.own ∷ is.pieces) q → Contains (made ++ cond b (is.own ∷ []) []) q ⊎ Contains (cond b is.pieces (is.own ∷ is.pieces)) q
  early_or_late true q at =
      ⊎_elim (λ m. inl (Contains-append_left made (is.own ∷ []) q m))
      (λ o. ⊎_elim (λ here. inl (Contains-append_right made (is.own ∷ []) q (subst (Contains (is.own ∷ [])) here (contains_here is.own [])))) (λ later. inr later) (contains_cases is.own q is.pieces o))
      (Contains-append_cases made (is.own ∷ is.pieces) q at)
  early_or_late false q at = ⊎_elim (λ m. inl (Contains-append_left made [] q m)) (λ o. inr o) (Contains-append_cases made (is.own ∷ is.pieces) q at)

  -- each is a put
  pub piece_put : (q : Piece) → Contains pieces_all q → Contains (puts_of r bytes) (put_of q)
  piece_put q at =
      Contains-append_right (source_puts r.source bytes) (map put_of r.early.items ++ map put_of r.late.items) (put_of q)
      (⊎_elim
      (λ e. Contains-append_left (map put_of r.early.items) (map put_of r.late.items) (put_of q) (in_map put_of r.early.items q (subst (λ (ps : List Piece). Contains ps q) (sym is.early) e)))
      (λ l. Contains-append_right (map put_of r.early.items) (map put_of r.late.items) (put_of q) (in_map put_of r.late.items q (subst (λ (ps : List Piece). Contains ps q) (sym is.late) l)))
      (early_or_late g.moves q at))

  pub early_back : (b : Bool) (q : Piece) → Contains (made ++ cond b (is.own ∷ []) []) q → Contains pieces_all q
  early_back b q at =
      ⊎_elim (λ m. Contains-append_left made (is.own ∷ is.pieces) q m) (λ o. Contains-append_right made (is.own ∷ is.pieces) q (by b o)) (Contains-append_cases made (cond b (is.own ∷ []) []) q at)
    where
      by : (c : Bool) → Contains (cond c (is.own ∷ []) []) q → Contains (is.own ∷ is.pieces) q
      by true o = ⊎_elim (λ here. subst (Contains (is.own ∷ is.pieces)) here (contains_here is.own is.pieces)) (λ none. absurd (no_element q none)) (contains_cases is.own q [] o)
      by false o = absurd (no_element q o)

  pub late_back : (b : Bool) (q : Piece) → Contains (cond b is.pieces (is.own ∷ is.pieces)) q → Contains pieces_all q
  late_back true q at = Contains-append_right made (is.own ∷ is.pieces) q (contains_later is.own q is.pieces at)
  late_back false q at = Contains-append_right made (is.own ∷ is.pieces) q at

  -- and there are no other puts, but of bytes that are given
  pub put_back : (x : Put) → Contains (puts_of r bytes) x → Contains (source_puts r.source bytes) x ⊎ ((q : Piece) × Contains pieces_all q × (put_of q ≡ x))
  put_back x at =
      ⊎_elim (λ given. inl given)
      (λ more. inr (⊎_elim
      (λ e. let q = from_map put_of r.early.items x e in (q.0, early_back g.moves q.0 (subst (λ (ps : List Piece). Contains ps q.0) is.early q.1), q.2))
      (λ l. let q = from_map put_of r.late.items x l in (q.0, late_back g.moves q.0 (subst (λ (ps : List Piece). Contains ps q.0) is.late q.1), q.2))
      (Contains-append_cases (map put_of r.early.items) (map put_of r.late.items) x more)))
      (Contains-append_cases (source_puts r.source bytes) (map put_of r.early.items ++ map put_of r.late.items) x at)
