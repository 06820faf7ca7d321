-- The sectors that a change that is ready writes: those of what is new, and of the directories that are told something.
use Rattle.std.proofs.Common.{◌≡◌, ◌⊎◌, ⊎_elim, inl, inr, ◌==◌, ◌||◌, ℕ, Bool, true, false, cond, List, [], ◌∷◌, ◌++◌, filter, flat_map, refl, sym, ap, ap₂, subst, ◌∙◌, Option, Some, None}
use Rattle.std.specs.Prelude.{Contains, Vec, not}
use Rattle.std.specs.declared.alloc.Global.{Global}
use Rattle.std.specs.Option.{option_map_or, unwrap_or}
use Rattle.std.proofs.lemmas.Bool.{eq-eqb}
use Rattle.std.proofs.lemmas.Grind.{flat_map-append}
use Rattle.std.proofs.lemmas.List.{append-nil}
use Rattle.fc_device.specs.declared.disk.Extent.{Extent}
use Rattle.fc_image.specs.Layout.{Layout, dir_form, is_among, sectors_at}
use Rattle.fc_image.specs.Walk.{object_size}
use Rattle.fc_objects.specs.Extents.{sectors_in}
use Rattle.fc_laws.specs.nodes.Edits.{Nodes}
use Rattle.fc_tree.specs.Parts.{Parts}
use Rattle.fc_tree.specs.declared.node.Node.{Node}
use Rattle.fc_tree.proofs.MemberLemmas.{contains_here, no_element}
use Rattle.fc_tree.proofs.TakenLemmas.{among_append}
use Rattle.fc_writing.specs.declared.ready.Piece.{Piece}
use Rattle.fc_writing.specs.declared.ready.Ready.{Ready}
use Rattle.fc_writing.specs.declared.ready.Source.{Source}
use Rattle.fc_writing.specs.declared.ready.Source.TheVariants as sources
use Rattle.fc_writing.specs.declared.ready.Transfer.{Transfer}
use Rattle.fc_writing.specs.Laws.{ChangesOnly}
use Rattle.fc_writing.specs.Ready.{early_place, late_place, place_of, source_place, to_of, written_place}
use Rattle.fc_writing.proofs.ContentLemmas.{out_left, out_right}
use Rattle.fc_change.specs.declared.change.Change.{Change}
use Rattle.fc_change.specs.declared.change.Says.{Says}
use Rattle.fc_change.specs.declared.change.Turned.{Turned}
use Rattle.fc_change.specs.declared.change.Turned.TheVariants as turns
use Rattle.fc_change.specs.declared.spaces.GrownPlace.{GrownPlace}
use Rattle.fc_change.specs.declared.spaces.Place.{Place}
use Rattle.fc_change.specs.declared.spaces.Spaces.{Spaces}
use Rattle.fc_change.specs.Prepared.{IsGrownPiece, IsLatePiece, IsMovedPiece, IsNewPiece, IsPieceIn, IsPieceOf, IsReadyFor, IsSourceOf, PiecesMatch, is_moved}
use Rattle.fc_commands.specs.Promises.{change_place, node_place, object_place, said_place}
use Rattle.fc_image.proofs.EntriesLemmas.{later as contains_later, cases as contains_cases}

-- ---- lists of sectors

out_both : (xs ys : List ℕ) (s : ℕ) → is_among xs s ≡ false → is_among ys s ≡ false → is_among (xs ++ ys) s ≡ false
out_both xs ys s left right = among_append xs ys s ∙ ap₂ (λ (a b : Bool). a || b) left right

module _ {X : Type 0} (f : X → List ℕ) where
  out_of_all : (xs : List X) (s : ℕ) → ((x : X) → Contains xs x → is_among (f x) s ≡ false) → is_among (flat_map f xs) s ≡ false
  out_of_all [] s each = refl
  out_of_all (x ∷ xs) s each = out_both (f x) (flat_map f xs) s (each x (contains_here x xs)) (out_of_all xs s (λ y at. each y (contains_later x y xs at)))

  out_of_one : (xs : List X) (s : ℕ) (x : X) → Contains xs x → is_among (flat_map f xs) s ≡ false → is_among (f x) s ≡ false
  out_of_one [] s x at out = absurd (no_element x at)
  out_of_one (y ∷ xs) s x at out =
      ⊎_elim (λ same. subst (λ (z : X). is_among (f z) s ≡ false) same (out_left (f y) (flat_map f xs) s out)) (λ later. out_of_one xs s x later (out_right (f y) (flat_map f xs) s out))
      (contains_cases y x xs at)

-- what passes is of the list
passed : (t : Says → Bool) (xs : List Says) (x : Says) → Contains (filter t xs) x → Contains xs x
passed t [] x at = absurd (no_element x at)
passed t (y ∷ xs) x at = by (t y) at (passed t xs x)
  where
    by : (b : Bool) → Contains (cond b (y ∷ filter t xs) (filter t xs)) x → (Contains (filter t xs) x → Contains xs x) → Contains (y ∷ xs) x
    by true here more = ⊎_elim (λ same. subst (λ (z : Says). Contains (y ∷ xs) z) same (contains_here y xs)) (λ later. contains_later y x xs (more later)) (contains_cases y x (filter t xs) here)
    by false here more = contains_later y x xs (more here)

-- one piece alone
one_place : (p : Piece) (ps : List Piece) → ps ≡ p ∷ [] → flat_map place_of ps ≡ place_of p
one_place p ps one = ap (flat_map place_of) one ∙ append-nil (place_of p)

-- ---- what is new

-- nothing, or the sectors of the object's place
abbrev IsOfPlace : List ℕ → Option Place → Type 0
IsOfPlace sectors place = (sectors ≡ []) ⊎ (sectors ≡ object_place place)

copied_of : (p : Place) (copied : Vec Extent Global) (source : Source) → ((t : Transfer) × (source ≡ sources.Sectors t) × (t.from.items ≡ copied.items) × (t.to.items ≡ p.extents.items)) → IsOfPlace (source_place source) (Some p)
copied_of p copied source is = inr (ap source_place is.1 ∙ ap sectors_in is.3)

source_of : (x : Turned) (place : Option Place) (copied : Option (Vec Extent Global)) (source : Source) → IsSourceOf x place copied source → IsOfPlace (source_place source) place
source_of (turns.Comes dir e None) (Some p) (Some v) source is = copied_of p v source is
source_of (turns.Comes dir e None) (Some p) None source is = inr (ap source_place is)
source_of (turns.Comes dir e None) None copied source is = inl (ap source_place is)
source_of (turns.Comes dir e (Some d)) (Some p) (Some v) source is = copied_of p v source is
source_of (turns.Comes dir e (Some d)) (Some p) None source is = inl (ap source_place is)
source_of (turns.Comes dir e (Some d)) None copied source is = inl (ap source_place is)
source_of (turns.Turns n dir e) (Some p) (Some v) source is = copied_of p v source is
source_of (turns.Turns n dir e) (Some p) None source is = inr (ap source_place is)
source_of (turns.Turns n dir e) None copied source is = inl (ap source_place is)
source_of (turns.Goes n) (Some p) (Some v) source is = copied_of p v source is
source_of (turns.Goes n) (Some p) None source is = inr (ap source_place is)
source_of (turns.Goes n) None copied source is = inl (ap source_place is)

made_of : (x : Turned) (place : Option Place) (ps : List Piece) → IsNewPiece x place ps → IsOfPlace (flat_map place_of ps) place
made_of (turns.Comes dir e (Some d)) (Some p) ps is = inr (one_place is.0 ps is.1 ∙ ap sectors_in is.2)
made_of (turns.Comes dir e (Some d)) None ps is = inl (ap (flat_map place_of) is)
made_of (turns.Comes dir e None) (Some p) ps is = inl (ap (flat_map place_of) is)
made_of (turns.Comes dir e None) None ps is = inl (ap (flat_map place_of) is)
made_of (turns.Turns n dir e) (Some p) ps is = inl (ap (flat_map place_of) is)
made_of (turns.Turns n dir e) None ps is = inl (ap (flat_map place_of) is)
made_of (turns.Goes n) (Some p) ps is = inl (ap (flat_map place_of) is)
made_of (turns.Goes n) None ps is = inl (ap (flat_map place_of) is)

out_of_place : (sectors : List ℕ) (place : Option Place) (s : ℕ) → IsOfPlace sectors place → is_among (object_place place) s ≡ false → is_among sectors s ≡ false
out_of_place sectors place s is out =
    ⊎_elim (λ none. ap (λ (ss : List ℕ). is_among ss s) none) (λ same. ap (λ (ss : List ℕ). is_among ss s) same ∙ out) is

-- ---- directories

module _ (layout : Layout) (nodes : Nodes) where
  own_place : (said : Says) (p : Piece) → IsPieceOf layout nodes said p → place_of p ≡ node_place layout nodes said.node
  own_place said p is =
      sym (ap (λ (o : Option Node). option_map_or (λ (node : Node). unwrap_or (sectors_at layout node.entry.address (object_size (dir_form layout) node.entry)) []) o []) is.there
      ∙ ap (λ (o : Option (List ℕ)). unwrap_or o []) is.place)

  late_place_of : (grown : Option GrownPlace) (said : Says) (p : Piece) → IsLatePiece layout nodes grown said p → place_of p ≡ said_place layout nodes grown said
  late_place_of None said p is = own_place said p is
  late_place_of (Some g) said p is = by (g.directory.node == said.node) is
    where
      by : (b : Bool) → IsPieceIn b layout nodes g.extents.items said p → place_of p ≡ cond b (sectors_in g.extents.items) (node_place layout nodes said.node)
      by true at = ap sectors_in at.0
      by false at = own_place said p at

  late_said : (grown : Option GrownPlace) (says : List Says) (ps : List Piece) (p : Piece) → PiecesMatch layout nodes grown says ps → Contains ps p
      → (said : Says) × Contains says said × (place_of p ≡ said_place layout nodes grown said)
  late_said grown [] [] p match at = absurd (no_element p at)
  late_said grown [] (q ∷ ps) p match at = absurd match
  late_said grown (said ∷ says) [] p match at = absurd match
  late_said grown (said ∷ says) (q ∷ ps) p match at =
      ⊎_elim (λ same. (said, contains_here said says, ap place_of (sym same) ∙ late_place_of grown said q match.0))
      (λ later. let more = late_said grown says ps p match.1 later in (more.0, contains_later said more.0 says more.1, more.2)) (contains_cases q p ps at)

  -- a directory that gets new space
  grown_said : (grown : Option GrownPlace) (says : List Says) (ps : List Piece) → IsGrownPiece grown says ps
      → (flat_map place_of ps ≡ []) ⊎ ((said : Says) × Contains says said × (flat_map place_of ps ≡ said_place layout nodes grown said))
  grown_said None says ps is = inl (ap (flat_map place_of) is)
  grown_said (Some g) says ps is = by g.moves is
    where
      by : (b : Bool) → IsMovedPiece b g says ps → (flat_map place_of ps ≡ []) ⊎ ((said : Says) × Contains says said × (flat_map place_of ps ≡ said_place layout nodes (Some g) said))
      by false at = inl (ap (flat_map place_of) at)
      by true at = inr (
        at.0,
        at.1,
        one_place at.3 ps at.4 ∙ ap sectors_in at.5
            ∙ sym (ap (λ (b : Bool). cond b (sectors_in g.extents.items) (node_place layout nodes at.0.node)) (eq-eqb g.directory.node at.0.node (sym at.2))),
      )

-- ---- all of it

module _ (h : Parts) (c : Change) (spaces : Spaces) (r : Ready) (is : IsReadyFor h c spaces r) where
  abbrev place : Says → List ℕ
  place said = said_place h.layout h.nodes spaces.grown said

  module _ (s : ℕ) (out : is_among (change_place h spaces c) s ≡ false) where
    no_object : is_among (object_place spaces.object) s ≡ false
    no_object = out_left (object_place spaces.object) (flat_map place c.says.items) s out

    none_said : (said : Says) → Contains c.says.items said → is_among (place said) s ≡ false
    none_said said at = out_of_one place c.says.items s said at (out_right (object_place spaces.object) (flat_map place c.says.items) s out)

    no_source : is_among (source_place r.source) s ≡ false
    no_source = out_of_place (source_place r.source) spaces.object s (source_of c.object spaces.object spaces.copied r.source is.source) no_object

    none_carried : is_among (flat_map to_of r.carried.items) s ≡ false
    none_carried = ap (λ (ts : List Transfer). is_among (flat_map to_of ts) s) is.carried

    none_made : is_among (flat_map place_of is.made) s ≡ false
    none_made = out_of_place (flat_map place_of is.made) spaces.object s (made_of c.object spaces.object is.made is.makes) no_object

    none_grown : is_among (flat_map place_of is.grown) s ≡ false
    none_grown =
        ⊎_elim (λ none. ap (λ (ss : List ℕ). is_among ss s) none) (λ one. ap (λ (ss : List ℕ). is_among ss s) one.2 ∙ none_said one.0 one.1)
        (grown_said h.layout h.nodes spaces.grown c.says.items is.grown is.grows)

    none_early : is_among (flat_map place_of r.early.items) s ≡ false
    none_early =
        ap (λ (ps : List Piece). is_among (flat_map place_of ps) s) is.early
        ∙ ap (λ (ss : List ℕ). is_among ss s) (flat_map-append place_of is.made is.grown)
        ∙ out_both (flat_map place_of is.made) (flat_map place_of is.grown) s none_made none_grown

    none_late : is_among (late_place r) s ≡ false
    none_late = out_of_all place_of r.late.items s (λ p at.
        let said = late_said h.layout h.nodes spaces.grown (filter (λ (x : Says). not (is_moved spaces.grown x.node)) c.says.items) r.late.items p is.late at in
        ap (λ (ss : List ℕ). is_among ss s) said.2 ∙ none_said said.0 (passed (λ (x : Says). not (is_moved spaces.grown x.node)) c.says.items said.0 said.1))

    none_written : is_among (written_place r) s ≡ false
    none_written =
        out_both (early_place r) (late_place r) s
        (out_both (source_place r.source) (flat_map to_of r.carried.items ++ flat_map place_of r.early.items) s no_source
        (out_both (flat_map to_of r.carried.items) (flat_map place_of r.early.items) s none_carried none_early)) none_late

  -- What is written is of these places.
  pub written_there : (size : ℕ) (mapped was image : List ℕ) → ChangesOnly size (written_place r ++ mapped) was image → ChangesOnly size (change_place h spaces c ++ mapped) was image
  written_there size mapped was image only = record {
    length_stays = only.length_stays;
    outside = λ s out.
        only.outside s
        (out_both (written_place r) mapped s (none_written s (out_left (change_place h spaces c) mapped s out)) (out_right (change_place h spaces c) mapped s out));
  }
