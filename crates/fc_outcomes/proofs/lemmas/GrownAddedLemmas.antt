-- `save`, `create` and `cdir` in a directory that grows, on images.
use Rattle.std.proofs.Common.{◌≡◌, inl, inr, ⊎_elim, ℕ, Bool, true, false, cond, List, [], ◌∷◌, ◌++◌, map, refl, sym, ap, ap₂, subst, ◌∙◌, Some, None, Option}
use Rattle.std.specs.Prelude.{Contains, IsPermutation, is_some}
use Rattle.std.proofs.lemmas.List.{append-nil}
use Rattle.std.proofs.lemmas.List.Sorted.{IsPermutation-refl}
use Rattle.fc_names.specs.Names.{Path, is_same_name, is_same_path}
use Rattle.fc_names.specs.declared.name.NameForm.{NameForm}
use Rattle.fc_record.specs.declared.Geometry.{Geometry}
use Rattle.fc_model.specs.Command.{Command}
use Rattle.fc_dirs.specs.declared.Entry.{Entry}
use Rattle.fc_dirs.specs.Directory.{entries_of}
use Rattle.fc_dirs.specs.Entries.{entry_named, has_name, with_entry}
use Rattle.fc_image.specs.Layout.{Layout, bytes_in, dir_form}
use Rattle.fc_image.specs.Walk.{Listing, Object, is_directory_object, object_bytes, object_size}
use Rattle.fc_image.specs.Commanded.{IsKept}
use Rattle.fc_image.specs.effects.Steady.{replaced_entry, with_made}
use Rattle.fc_image.proofs.LookupLemmas.{lookup_law}
use Rattle.fc_tree.proofs.MemberLemmas.{contains_here, from_map, no_element}
use Rattle.fc_tree.proofs.SoundLemmas.{children_stored}
use Rattle.fc_tree.proofs.WalkedLemmas.{child_is_object, child_path}
use Rattle.fc_changes.proofs.BasicLemmas.{clash}
use Rattle.fc_changes.proofs.PlacedLemmas.{found_in}
use Rattle.fc_changes.proofs.ReadsLemmas.{LiesIn, lies_in, same_path_of}
use Rattle.fc_laws.specs.nodes.Laws.{IsHeld}
use Rattle.fc_edits.specs.Addition.{amended, edit, leaves}
use Rattle.fc_edits.specs.Edit.{Amended, Edit, joining, leaving, numbers, objects}
use Rattle.fc_edits.specs.Growing.{EditGrowing, Growing, Holder, Holds, IsHeldBy, amended_by, amended_first, grown_by, holding, told}
use Rattle.fc_edits.specs.GrownAddition.{NewGrownAddition, grown_edit}
use Rattle.fc_edits.specs.GrownPlaces.{NewGrowing}
use Rattle.fc_edits.specs.PartsEdit.{NewPartsEdit}
use Rattle.fc_edits.specs.Placing.{takings_of}
use Rattle.fc_edits.proofs.lemmas.AdditionLemmas as memory
use Rattle.fc_edits.proofs.lemmas.AroundLemmas as ar
use Rattle.fc_edits.proofs.lemmas.GrowingLawLemmas as law
use Rattle.fc_edits.proofs.lemmas.GrowingLemmas.{its_path, its_turn, o_directory}
use Rattle.fc_edits.proofs.lemmas.GrownAdditionLemmas as ga
use Rattle.fc_edits.proofs.lemmas.GrownMemberLemmas as members
use Rattle.fc_edits.proofs.lemmas.GrownPlaceLemmas as place
use Rattle.fc_edits.proofs.lemmas.NewAgreeLemmas as na
use Rattle.fc_edits.proofs.lemmas.ShapeLemmas.{only}
use Rattle.fc_outcomes.specs.GrownAddition.{NewGrownAdditionWritten}
use Rattle.fc_outcomes.specs.NewImage.{NewImageEdit}
use Rattle.fc_outcomes.specs.Puts.{ArePutsOf, IsDirectoryPut, Put}
use Rattle.fc_outcomes.specs.Written.{KeepsPaths}
use Rattle.fc_outcomes.proofs.lemmas.GrownImageLemmas as gi
use Rattle.std.proofs.lemmas.Bool.{false_from_ne_true as unless}
use Rattle.fc_image.proofs.EntriesLemmas.{later as contains_later, cases as contains_cases}

module _ (x : NewGrownAddition) (c : Command) (path : Path) (puts : List Put) (stored image image' : List ℕ) (wr : NewGrownAdditionWritten x c path puts stored image image') where
  abbrev pub ng : NewGrowing
  ng = ga.as_growing x

  abbrev pub eg : EditGrowing
  eg = place.as_edit ng

  abbrev pub parts : NewPartsEdit
  parts = place.grown_parts ng

  abbrev pub e' : Edit
  e' = grown_edit x.c x.growing

  abbrev pub g : Growing
  g = x.growing

  abbrev o : Object
  o = x.c.o

  abbrev pub h : IsHeld x.nodes (Layout.New x.m) x.listings
  h = place.held ng

  pub form : dir_form (Layout.New x.m') ≡ dir_form (Layout.New x.m)
  form = (na.walk_fits parts).form

  -- ---- the puts

  abbrev stored_is : Put
  stored_is = record { sectors = x.c.o.sectors; bytes = stored }

  pub o_joins : Contains (joining e') (x.c.number, o)
  o_joins = members.still_joins eg (x.c.number, o) (contains_here (x.c.number, o) [])

  pub puts_of : ArePutsOf (Layout.New x.m) (Layout.New x.m') x.nodes e' puts image image'
  puts_of = record {
    says = wr.written;
    into_say = λ d at.
        (let k = from_map (λ (y : Listing). (x.c.number, y)) x.c.into d at in
        let is = memory.own_listed (Layout.New x.m) x.c.into o x.comes.alone k.0 k.1 in
        subst (λ (y : ℕ × Listing). IsDirectoryPut (Layout.New x.m') y.1.object y.1.content puts) k.2
        (subst (λ (p : Object). IsDirectoryPut (Layout.New x.m') p k.0.content puts) (sym is.object)
        (record { bytes = stored; among = wr.stored_put; says = wr.own k.0 k.1; long = wr.stored_long ∙ ap (λ (f : NameForm). object_size f o.entry) (sym form) })));
    whose = λ p at. ⊎_elim (λ a. inl a) (λ its. inr ((x.c.number, o), o_joins, its)) (wr.whose p at);
    carried = λ k n at number_is goes.
        absurd (⊎_elim (λ same. law.same_other eg k n at number_is (sym same)) (λ left. none_left n left) (members.leaves_either eg n goes));
  }
    where
      none_left : (n : ℕ) → Contains (numbers (leaving (edit x.c))) n → ⊥
      none_left n at =
          no_element n
          (subst (λ (os : List Object). Contains (numbers (map (λ (p : Object). (x.c.number, p)) os)) n) x.new (subst (λ (ps : List (ℕ × Object)). Contains (numbers ps) n) (append-nil (leaves x.c)) at))

  abbrev pub on_new : NewImageEdit
  on_new = record {
    parts = parts;
    takings = takings_of x.id x.parts ++ x.own;
    gone = x.gone;
    r = wr.r;
    image = image;
    image' = image';
    puts = puts;
    new_kind = wr.new_kind;
    opens = wr.opens;
    places = place.grown_places ng;
    out = wr.out;
    puts_of = puts_of;
    root = gi.root_left ng wr.r image' wr.map;
  }

  pub keeps : KeepsPaths image image' (Layout.New x.m) (Layout.New x.m') x.nodes x.listings e' []
  keeps = record {
    paths = λ p s. its_path eg p;
    steady = objects e'.moving;
    moving = IsPermutation-refl (objects e'.moving);
    kept = kept;
  }
    where
      kept : (p : Object) → Contains (objects e'.moving) p → IsKept image image' (Layout.New x.m) (Layout.New x.m') p (e'.turn p)
      kept p at = by g.holder at
        where
          grown_kept : IsKept image image' (Layout.New x.m) (Layout.New x.m') g.o (e'.turn g.o)
          grown_kept = subst (IsKept image image' (Layout.New x.m) (Layout.New x.m') g.o) (sym (its_turn eg)) (record {
            path = refl;
            name = refl;
            attrs = refl;
            load = refl;
            exec = refl;
            bytes = λ file. absurd (clash (is_directory_object g.o) (o_directory eg) file);
          })

          by : (q : Option Holder) → Contains (objects (grown_by (edit x.c) g q).moving) p → IsKept image image' (Layout.New x.m) (Layout.New x.m') p (e'.turn p)
          by None there = absurd (no_element p there)
          by (Some hd) there = subst (λ (r : Object). IsKept image image' (Layout.New x.m) (Layout.New x.m') r (e'.turn r)) (only g.o p there) grown_kept

  -- the object's bytes
  pub bytes_now : object_bytes image' (Layout.New x.m') o ≡ stored
  bytes_now =
      ap₂ (λ (size n : ℕ). bytes_in size image' o.sectors n) (ap (λ (y : Geometry). y.sector) x.geometry) (ap (λ (f : NameForm). object_size f o.entry) form ∙ sym wr.stored_long)
      ∙ wr.out.there stored_is wr.stored_put

  -- ---- where the object comes

  pub lies : LiesIn path x.c.l.object.path o.entry.name
  lies = lies_in path x.c.l.object.path o.entry.name (ap (is_same_path path) (sym x.comes.path) ∙ wr.path_is)

  abbrev l_in : Contains x.listings x.c.l
  l_in = memory.comes_in x.nodes (Layout.New x.m) x.listings x.c h x.comes

  -- no entry had the name
  new_name : has_name (entries_of x.c.l.content) o.entry.name ≡ false
  new_name =
      unless (has_name (entries_of x.c.l.content) o.entry.name)
      (λ there.
      let y = some_entry (entry_named (entries_of x.c.l.content) o.entry.name) refl there in
      let f = found_in (λ (z : Entry). is_same_name o.entry.name z.name) (entries_of x.c.l.content) y.0 y.1 in
      let kid = from_map (λ (p : Object). p.entry) x.c.l.children y.0 (subst (λ (es : List Entry). Contains es y.0) (sym (children_stored (Layout.New x.m) x.listings h.sound x.c.l l_in)) f.0) in
      let at_path = same_path_of path x.c.l.object.path o.entry.name y.0.name kid.0.path (ap (is_same_path path) (sym x.comes.path) ∙ wr.path_is) f.1
      (child_path (Layout.New x.m) x.listings h.sound x.c.l kid.0 l_in kid.1 ∙ ap (λ (z : Entry). x.c.l.object.path ++ z.name ∷ []) kid.2) in
      none_some kid.0 (sym wr.stood ∙ lookup_law.object (Layout.New x.m) x.listings path kid.0 h.sound (child_is_object (Layout.New x.m) x.listings h.sound x.c.l kid.0 l_in kid.1) at_path))
    where
      none_some : (p : Object) → (let q : Option Object = None in q) ≡ Some p → ⊥
      none_some p same = cc

      some_entry : (q : Option Entry) → entry_named (entries_of x.c.l.content) o.entry.name ≡ q → is_some q ≡ true → (y : Entry) × (entry_named (entries_of x.c.l.content) o.entry.name ≡ Some y)
      some_entry None same there = absurd (cc)
      some_entry (Some y) same there = (y, same)

  pub with_it : entries_of x.c.content ≡ with_made (Some o.entry) (entries_of x.c.l.content)
  with_it = wr.entry.0 ∙ sym (ap (λ (b : Bool). cond b (map (replaced_entry o.entry) (entries_of x.c.l.content)) (with_entry o.entry (entries_of x.c.l.content))) new_name)

  -- ---- the grown directory

  -- it doesn't hold itself: something joins it
  pub not_it : (hd : Holder) → Holds g hd → amended x.c ≡ hd.amended → ⊥
  not_it hd hs its = no_element (x.c.number, o) (subst (λ (ps : List (ℕ × Object)). Contains ps (x.c.number, o)) (ap (λ (b : Amended). b.join) its ∙ hs.none_join) (contains_here (x.c.number, o) []))

  pub its_amended : Contains e'.amended (amended x.c)
  its_amended = by g.holder x.grows.amended_is x.grows.held
    where
      by : (q : Option Holder) → IsPermutation ((edit x.c).amended ++ map (told (edit x.c)) g.again) (amended_first q g.others) → IsHeldBy g q → Contains (amended_by (edit x.c) g q) (amended x.c)
      by None cut at_top = ar.still_amended eg None cut (amended x.c) (contains_here (amended x.c) [])
      by (Some hd) cut hs =
          ⊎_elim (λ same. absurd (not_it hd hs (sym same))) (λ later. contains_later (holding (edit x.c) g hd) (amended x.c) g.others later)
          (contains_cases hd.amended (amended x.c) g.others (ar.still_amended eg (Some hd) cut (amended x.c) (contains_here (amended x.c) [])))
