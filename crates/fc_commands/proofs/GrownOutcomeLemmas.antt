-- What is written of a change in which a directory grows by what comes to it: each directory that is told something gets its bytes, at its
-- new place if it grows.
use Rattle.std.proofs.Common.{◌≡◌, ◌⊎◌, inl, inr, ⊎_elim, ◌≤◌, ◌*◌, ℕ, Bool, true, false, cond, List, [], ◌∷◌, ◌++◌, length, sym, ap, subst, ◌∙◌, Some}
use Rattle.std.specs.Prelude.{Contains}
use Rattle.std.proofs.lemmas.List.Elements.{Contains-append_cases, Contains-append_right}
use Rattle.fc_names.specs.Names.{Path, is_same_path}
use Rattle.fc_names.specs.declared.name.NameForm.{NameForm}
use Rattle.fc_model.specs.Command.{Command}
use Rattle.fc_dirs.specs.Directory.{Directory}
use Rattle.fc_image.specs.Layout.{Layout, dir_form, sector_bytes}
use Rattle.fc_image.specs.Sound.{AreSound}
use Rattle.fc_image.specs.Walk.{Listing, Object, object_size}
use Rattle.fc_image.specs.effects.Steady.{IsRewritten, is_renamed_by}
use Rattle.fc_laws.specs.nodes.Edits.{Nodes}
use Rattle.fc_objects.specs.Extents.{sectors_in}
use Rattle.fc_tree.specs.Agree.{HasForm}
use Rattle.fc_tree.specs.Nodes.{HoldObjects, number_of}
use Rattle.fc_tree.proofs.MemberLemmas.{contains_here, no_element}
use Rattle.fc_edits.specs.Addition.{Addition, edit}
use Rattle.fc_edits.specs.Edit.{Amended}
use Rattle.fc_edits.specs.Growing.{Growing, amended_by, at_place, regrown}
use Rattle.fc_outcomes.specs.Growth.{holder_now}
use Rattle.fc_outcomes.specs.Puts.{IsDirectoryPut, Put}
use Rattle.fc_change.specs.declared.change.Says.{Says}
use Rattle.fc_change.specs.declared.spaces.GrownPlace.{GrownPlace}
use Rattle.fc_writing.specs.declared.ready.Piece.{Piece}
use Rattle.fc_writing.specs.declared.ready.Ready.{Ready}
use Rattle.fc_writing.specs.Ready.{place_of}
use Rattle.fc_commands.proofs.GrownSaidLemmas.{AllSaid, GrownEdit, IsSaid, comes_to}
use Rattle.fc_commands.proofs.GrownPieceLemmas.{IsGrownReady, piece_put, put_back}
use Rattle.fc_commands.proofs.GrownSpaceLemmas.{growing_of}
use Rattle.fc_commands.proofs.PutLemmas.{AreLong, puts_of, source_puts}
use Rattle.fc_image.proofs.EntriesLemmas.{later as contains_later, cases as contains_cases}

module _ (layout : Layout) (nodes : Nodes) (listings : List Listing) (sound : AreSound layout listings) (held : HoldObjects nodes listings) (l : Listing) (listed : Contains listings l)
    (p : GrownPlace) (number : number_of nodes l.object.path ≡ Some p.directory.node) (fits : (k : Listing) → Contains listings k → HasForm (dir_form layout) k.object.entry.len k.content)
    (content : Directory) (children : List Object) (o : Object) (into : List Listing) (new : ℕ) where
  abbrev Said : (Object → Object) → Amended → Says → Piece → Type 0
  Said x a s q = IsSaid layout nodes listings sound held l listed p number fits content children o into new x a s q

  abbrev AreSaid : (Object → Object) → List Amended → List Says → List Piece → Type 0
  AreSaid x said ss ps = AllSaid layout nodes listings sound held l listed p number fits content children o into new x said ss ps

  -- one of them, and its piece
  said_of : (x : Object → Object) (said : List Amended) (ss : List Says) (ps : List Piece) → AreSaid x said ss ps → (a : Amended) → Contains said a → (s : Says) × (q : Piece) × Contains ps q × Said x a s q
  said_of x [] ss ps all a at = absurd (no_element a at)
  said_of x (b ∷ said) [] ps all a at = absurd all
  said_of x (b ∷ said) (s ∷ ss) [] all a at = absurd all
  said_of x (b ∷ said) (s ∷ ss) (q ∷ ps) all a at =
      ⊎_elim (λ same. subst (λ (y : Amended). (s' : Says) × (q' : Piece) × Contains (q ∷ ps) q' × Said x y s' q') same (s, q, contains_here q ps, all.0))
      (λ later. let r = said_of x said ss ps all.1 a later in (r.0, r.1, contains_later q r.1 ps r.2, r.3)) (contains_cases b a said at)

  -- and a piece is that of one of them
  said_back : (x : Object → Object) (said : List Amended) (ss : List Says) (ps : List Piece) → AreSaid x said ss ps → (q : Piece) → Contains ps q → (a : Amended) × Contains said a × (s : Says) × Said x a s q
  said_back x said ss [] all q at = absurd (no_element q at)
  said_back x [] [] (r ∷ ps) all q at = absurd all
  said_back x [] (s ∷ ss) (r ∷ ps) all q at = absurd all
  said_back x (b ∷ said) [] (r ∷ ps) all q at = absurd all
  said_back x (b ∷ said) (s ∷ ss) (r ∷ ps) all q at =
      ⊎_elim (λ same. subst (λ (y : Piece). (a : Amended) × Contains (b ∷ said) a × (t : Says) × Said x a t y) same (b, contains_here b said, s, all.0))
      (λ later. let f = said_back x said ss ps all.1 q later in (f.0, contains_later b f.0 said f.1, f.2, f.3)) (contains_cases r q ps at)

  -- ---- of an edit in which it grows

  module _ (tops kids left : List Listing) (s0 : Says) (others : List Says) (made : List Piece) (r : Ready) (ready : IsGrownReady layout nodes p s0 others made r)
      (ge : GrownEdit layout nodes listings sound held l listed p number fits content children o into new tops kids left (s0 ∷ others) (ready.own ∷ ready.pieces)) where
    abbrev c_add : Addition
    c_add = comes_to l content children o into (tops ++ (kids ++ left)) p.directory.node new

    abbrev growing : Growing
    growing = growing_of l.object p ge.again ge.same ge.holder ge.others

    abbrev then : Object → Object
    then = regrown (edit c_add) growing

    pub says : (c : Command) → ((path : Path) → is_renamed_by c path ≡ false) → (a : Amended) → Contains (amended_by (edit c_add) growing ge.holder) a
        → IsRewritten c a.was.object.path (holder_now listings growing a.was.object.path) a.was.content a.content
    says c plain a at = let f = said_of then ge.said (s0 ∷ others) (ready.own ∷ ready.pieces) ge.all a (ge.among a at) in f.3.says c (plain a.was.object.path)

    module _ (bytes : List ℕ) where
      pub written : (layout' : Layout) → dir_form layout' ≡ dir_form layout → (a : Amended) → Contains (amended_by (edit c_add) growing ge.holder) a
          → IsDirectoryPut layout' (regrown (edit c_add) growing a.was.object) a.content (puts_of r bytes)
      written layout' form a at =
          let f = said_of then ge.said (s0 ∷ others) (ready.own ∷ ready.pieces) ge.all a (ge.among a at) in
          record {
            bytes = f.1.bytes.items;
            among = subst (λ (ss : List ℕ). Contains (puts_of r bytes) (record { sectors = ss; bytes = f.1.bytes.items })) f.3.place
                (piece_put layout nodes p s0 others made r ready bytes f.1 (Contains-append_right made (ready.own ∷ ready.pieces) f.1 f.2));
            says = f.3.bytes;
            long = f.3.long ∙ ap (λ (n : NameForm). object_size n (then a.was.object).entry) (sym form);
          }

      -- No other sectors are written but those of the object.
      pub whose : ((q : Piece) → Contains made q → place_of q ≡ o.sectors) → ((x : Put) → Contains (source_puts r.source bytes) x → x.sectors ≡ o.sectors) → (x : Put) → Contains (puts_of r bytes) x
          → ((a : Amended) × Contains (amended_by (edit c_add) growing ge.holder) a × (x.sectors ≡ (regrown (edit c_add) growing a.was.object).sectors)) ⊎ (x.sectors ≡ o.sectors)
      whose makes given x at =
          ⊎_elim (λ own. inr (given x own))
          (λ piece. ⊎_elim (λ new_one. inr (ap (λ (y : Put). y.sectors) (sym piece.2) ∙ makes piece.0 new_one))
          (λ told. (let f = said_back then ge.said (s0 ∷ others) (ready.own ∷ ready.pieces) ge.all piece.0 told in inl (f.0, ge.back f.0 f.1, ap (λ (y : Put). y.sectors) (sym piece.2) ∙ f.3.place)))
          (Contains-append_cases made (ready.own ∷ ready.pieces) piece.0 piece.1))
          (put_back layout nodes p s0 others made r ready bytes x at)

      -- ---- their places are long enough

      -- Each object has the sectors of its bytes, and so has the grown one.
      module _ (listed_room : (k : Listing) → Contains listings k → object_size (dir_form layout) k.object.entry ≤ length k.object.sectors * sector_bytes layout)
          (grown_room : (k : Listing) → Contains listings k
          → object_size (dir_form layout) (record k.object.entry { address = p.directory.address; len = p.directory.len }) ≤ length (sectors_in p.extents.items) * sector_bytes layout)
          (makes : (q : Piece) → Contains made q → length q.bytes.items ≤ length (place_of q) * sector_bytes layout)
          (given : (x : Put) → Contains (source_puts r.source bytes) x → length x.bytes ≤ length x.sectors * sector_bytes layout) where
        then_room : (k : Listing) → Contains listings k → object_size (dir_form layout) (then k.object).entry ≤ length (then k.object).sectors * sector_bytes layout
        then_room k at = by (is_same_path l.object.path k.object.path)
          where
            by : (b : Bool) → (let y : Object = cond b (at_place growing k.object) k.object in object_size (dir_form layout) y.entry ≤ length y.sectors * sector_bytes layout)
            by true = grown_room k at
            by false = listed_room k at

        told_room : (q : Piece) → Contains (ready.own ∷ ready.pieces) q → length q.bytes.items ≤ length (place_of q) * sector_bytes layout
        told_room q at =
            let f = said_back then ge.said (s0 ∷ others) (ready.own ∷ ready.pieces) ge.all q at in
            subst (λ (n : ℕ). n ≤ length (place_of q) * sector_bytes layout) (sym f.3.long)
            (subst (λ (ss : List ℕ). object_size (dir_form layout) (then f.0.was.object).entry ≤ length ss * sector_bytes layout) (sym f.3.place) (then_room f.0.was f.3.found))

        pub all_long : AreLong (sector_bytes layout) (puts_of r bytes)
        all_long x at =
            ⊎_elim (λ own. given x own)
            (λ piece. subst (λ (y : Put). length y.bytes ≤ length y.sectors * sector_bytes layout) piece.2
            (⊎_elim (λ new_one. makes piece.0 new_one) (λ told. told_room piece.0 told) (Contains-append_cases made (ready.own ∷ ready.pieces) piece.0 piece.1)))
            (put_back layout nodes p s0 others made r ready bytes x at)
