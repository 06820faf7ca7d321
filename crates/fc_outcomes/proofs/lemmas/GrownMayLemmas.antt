-- What may be written at every exit if a directory grows by a new object.
use Rattle.std.proofs.Common.{◌≡◌, ◌⊎◌, inl, inr, ⊎_elim, ℕ, Bool, true, false, cond, List, [], ◌++◌, map, refl, sym, ap, subst, ◌∙◌, None, Option, Some}
use Rattle.std.specs.Prelude.{Contains, IsPermutation, ◌||◌}
use Rattle.std.proofs.lemmas.List.{append-nil}
use Rattle.fc_names.specs.Names.{is_same_path}
use Rattle.fc_record.specs.declared.DiscRecord.{DiscRecord}
use Rattle.fc_newmap.specs.Map.{ZoneRun, all_runs, map_sectors}
use Rattle.fc_newmap.specs.RunsLaw.{HoldsSector}
use Rattle.fc_newmap.proofs.PlaceLemmas.{in_back}
use Rattle.fc_model.specs.Command.{Command}
use Rattle.fc_image.specs.Layout.{Layout, is_among, is_apart}
use Rattle.fc_image.specs.Walk.{Object, is_directory_object}
use Rattle.fc_image.specs.Objects.{objects_of}
use Rattle.fc_image.specs.Opening.{boot_place, reserved_in}
use Rattle.fc_image.specs.Stays.{IsNewKind, OpensAs}
use Rattle.fc_image.specs.effects.Steady.{has_grown, has_new_holder, holds_named, is_idle, is_renamed_by, may_be_rewritten}
use Rattle.fc_image.proofs.HolesLemmas.{apart_at, apart_from}
use Rattle.fc_tree.specs.Nodes.{number_of}
use Rattle.fc_tree.proofs.MemberLemmas.{contains_here, no_element}
use Rattle.fc_changes.proofs.BasicLemmas.{clash}
use Rattle.fc_changes.proofs.OutsideLemmas.{AreBusy, object_busy}
use Rattle.fc_laws.specs.takeover.Places.{MayBeWritten}
use Rattle.fc_laws.proofs.lemmas.agree.BeforeLemmas.{object_lies, some_zones}
use Rattle.fc_laws.proofs.lemmas.nodes.FitsLemmas.{one_number}
use Rattle.fc_laws.proofs.lemmas.takeover.ApartLemmas.{busy_on_disc, idle_apart, places_law}
use Rattle.fc_laws.proofs.lemmas.takeover.KindLemmas.{new_kind}
use Rattle.fc_edits.specs.Addition.{amended, edit, leaves}
use Rattle.fc_edits.specs.Edit.{Amended, Edit, joining, leaving, numbers}
use Rattle.fc_edits.specs.Growing.{EditGrowing, Growing, Holder, Told, amended_by, amended_first, at_place, holding, regrown, told}
use Rattle.fc_edits.specs.GrownAddition.{NewGrownAddition, grown_edit}
use Rattle.fc_edits.specs.GrownPlaces.{NewGrowing}
use Rattle.fc_edits.specs.NewPlaces.{LiesAgain, NewPlaces}
use Rattle.fc_edits.specs.NodesEdit.{NodesEdit}
use Rattle.fc_edits.specs.PartsEdit.{NewPartsEdit}
use Rattle.fc_edits.specs.Places.{Stays}
use Rattle.fc_edits.specs.Placing.{takings_of}
use Rattle.fc_edits.proofs.lemmas.AgreeLemmas as ag
use Rattle.fc_edits.proofs.lemmas.AroundLemmas as ar
use Rattle.fc_edits.proofs.lemmas.GrowingLemmas as growing
use Rattle.fc_edits.proofs.lemmas.GrownAdditionLemmas as ga
use Rattle.fc_edits.proofs.lemmas.GrownMemberLemmas as members
use Rattle.fc_edits.proofs.lemmas.GrownPlaceLemmas as place
use Rattle.fc_edits.proofs.lemmas.LeavingLemmas.{left_among}
use Rattle.fc_edits.proofs.lemmas.NewAgreeLemmas as na
use Rattle.fc_edits.proofs.lemmas.ListLemmas.{is_in}
use Rattle.fc_edits.proofs.lemmas.NewPlaceLemmas as np_
use Rattle.fc_edits.proofs.lemmas.NumberLemmas as n_
use Rattle.fc_edits.proofs.lemmas.ShapeLemmas.{only}
use Rattle.fc_outcomes.specs.GrownAddition.{grown_view}
use Rattle.fc_outcomes.specs.Growth.{Grows}
use Rattle.fc_outcomes.proofs.lemmas.NewOutsideLemmas.{loose_busy}
use Rattle.std.proofs.lemmas.Bool.{or_left, or_right as or_second}
use Rattle.fc_image.proofs.EditLemmas.{apart_turned as turned}
use Rattle.fc_image.proofs.EntriesLemmas.{later as contains_later, cases as contains_cases}

module _ (x : NewGrownAddition) (c : Command) (image : List ℕ) (opens : OpensAs image x.kind (grown_view x)) (named : holds_named c x.c.l.object.path ≡ true) where
  abbrev ng : NewGrowing
  ng = ga.as_growing x

  abbrev eg : EditGrowing
  eg = place.as_edit ng

  abbrev parts : NewPartsEdit
  parts = place.grown_parts ng

  abbrev e' : Edit
  e' = grown_edit x.c x.growing

  abbrev g : Growing
  g = x.growing

  abbrev before : List Object
  before = objects_of x.listings

  places : NewPlaces x.kind x.m x.m' x.nodes x.listings e' (takings_of x.id x.parts ++ x.own) x.gone
  places = place.grown_places ng

  r : DiscRecord
  r = (new_kind image x.kind (grown_view x) x.m opens refl).0

  new : IsNewKind x.kind r
  unfolding r
  new = (new_kind image x.kind (grown_view x) x.m opens refl).1

  -- the directory that grows may be rewritten
  its_may : may_be_rewritten (grown_view x) c g.o.path ≡ true
  its_may =
      subst (λ (p : Object). may_be_rewritten (grown_view x) c p.path ≡ true) (sym x.its)
      (or_left (holds_named c x.c.l.object.path || is_renamed_by c x.c.l.object.path || has_grown (grown_view x) c x.c.l.object.path) (has_new_holder (grown_view x) c x.c.l.object.path)
      (or_left (holds_named c x.c.l.object.path || is_renamed_by c x.c.l.object.path) (has_grown (grown_view x) c x.c.l.object.path)
      (or_left (holds_named c x.c.l.object.path) (is_renamed_by c x.c.l.object.path) named)))

  -- every other object stays
  is_or_stays : (p : Object) → Contains before p → (p ≡ g.o) ⊎ Stays x.nodes x.listings e' p
  is_or_stays p at =
      let n = eg.held.held.each p at in
      by n.number n.at_path (is_in (numbers (leaving e')) n.number)
    where
      none_left : (n : ℕ) → Contains (numbers (leaving (edit x.c))) n → ⊥
      none_left n there =
          no_element n
          (subst (λ (os : List Object). Contains (numbers (map (λ (q : Object). (x.c.number, q)) os)) n) x.new (subst (λ (ps : List (ℕ × Object)). Contains (numbers ps) n) (append-nil (leaves x.c)) there))

      by : (n : ℕ) → number_of x.nodes p.path ≡ Some n → Contains (numbers (leaving e')) n ⊎ (Contains (numbers (leaving e')) n → ⊥) → (p ≡ g.o) ⊎ Stays x.nodes x.listings e' p
      by n number_is (inl goes) =
          ⊎_elim
          (λ same. inl (one_number (Layout.New x.m) x.listings x.nodes eg.held.sound eg.held.held p g.o n at (growing.o_in eg) number_is (x.grows.dir_is ∙ ap (λ (k : ℕ). Some k) same)))
          (λ left. absurd (none_left n left)) (members.leaves_either eg n goes)
      by n number_is (inr stays) = inr (record { among = at; number = n; number_is = number_is; stays = stays })

  -- what joins a directory is no one's
  joins_apart : (q : ℕ × Object) → Contains (joining e') q → (p : Object) → Contains before p → (p ≡ g.o) ⊎ (is_apart p.sectors q.1.sectors ≡ true)
  joins_apart q joins p at = ⊎_elim (λ same. inl same) (λ s. inr (turned q.1.sectors p.sectors (parts.fit.apart q p joins s))) (is_or_stays p at)

  before_busy : (p : Object) → Contains before p → (s : ℕ) → is_among p.sectors s ≡ true
      → (z : ZoneRun) × Contains (all_runs x.m) z × HoldsSector x.m.geometry z s × (is_idle before z.1.kind ≡ false)
  before_busy p at s i =
      object_busy x.m before (some_zones x.kind x.m x.nodes x.owners x.root x.listings x.agreed) p _ at (object_lies x.kind x.m x.nodes x.owners x.root x.listings x.agreed p at).placed s i

  joins_busy : (q : ℕ × Object) → Contains (joining e') q → LiesAgain x.m x.nodes x.listings e' q.1 → AreBusy x.m before q.1.sectors
  joins_busy q joins (inl p) s i =
      before_busy p.0.1 (left_among x.nodes (Layout.New x.m) x.listings e' eg.held parts.is_edit p.0 p.1) s (subst (λ (ss : List ℕ). is_among ss s ≡ true) p.2.sectors i)
  joins_busy q joins (inr loose) s i =
      let z = np_.lies_loose x.kind x.m x.m' x.nodes x.owners x.root x.listings e' (takings_of x.id x.parts ++ x.own) x.gone x.agreed parts.is_edit places q.1 (places.placed q joins) loose.0 s i in
      (z.0, z.1, z.2, loose_busy before z.0.1.kind z.3)

  joins_may : (q : ℕ × Object) → Contains (joining e') q → MayBeWritten x.kind (grown_view x) x.m c q.1.sectors
  joins_may q joins =
      let busy = joins_busy q joins (places.lies q joins) in
      let free = parts.fit.free q joins in
      record {
        files = λ p at file.
            ⊎_elim (λ same. absurd (clash (is_directory_object g.o) (growing.o_directory eg) (ap is_directory_object (sym same) ∙ file))) (λ apart. apart) (joins_apart q joins p at);
        dirs = λ p at kept.
            ⊎_elim (λ same. absurd (clash (may_be_rewritten (grown_view x) c g.o.path) its_may (ap (λ (y : Object). may_be_rewritten (grown_view x) c y.path) (sym same) ∙ kept))) (λ apart. apart)
            (joins_apart q joins p at);
        boot = apart_from (boot_place x.kind x.m.geometry.sector) q.1.sectors
            (λ s i j. clash (is_among (reserved_in x.kind (Layout.New x.m)) s) (in_back (map_sectors x.m.geometry) (boot_place x.kind x.m.geometry.sector) s i)
            (apart_at q.1.sectors (reserved_in x.kind (Layout.New x.m)) s free j));
        idle = idle_apart x.m (grown_view x) image x.kind r q.1.sectors new opens busy;
        inside = busy_on_disc x.m (grown_view x) image x.kind r q.1.sectors new opens busy;
      }

  -- the object, and each directory that says something else, at its place afterwards
  pub object_may : MayBeWritten x.kind (grown_view x) x.m c x.c.o.sectors
  object_may = joins_may (x.c.number, x.c.o) (members.still_joins eg (x.c.number, x.c.o) (contains_here (x.c.number, x.c.o) []))

  pub directory_may : (a : Amended) → Grows (grown_view x) c g → Contains e'.amended a → MayBeWritten x.kind (grown_view x) x.m c (regrown (edit x.c) g a.was.object).sectors
  directory_may a grows at = by (is_same_path g.o.path a.was.object.path) refl
    where
      told_may : (t : Told) → Contains g.again t → may_be_rewritten (grown_view x) c t.was.object.path ≡ true
      told_may t there = of_told (has_grown (grown_view x) c t.was.object.path) refl (grows.told t there)
        where
          of_told : (b : Bool) → has_grown (grown_view x) c t.was.object.path ≡ b → (b || has_new_holder (grown_view x) c t.was.object.path) ≡ true → may_be_rewritten (grown_view x) c t.was.object.path ≡ true
          of_told true s f = or_left (holds_named c t.was.object.path || is_renamed_by c t.was.object.path || has_grown (grown_view x) c t.was.object.path) (has_new_holder (grown_view x) c t.was.object.path)
              (or_second (holds_named c t.was.object.path || is_renamed_by c t.was.object.path) (has_grown (grown_view x) c t.was.object.path) s)
          of_told false s f = or_second (holds_named c t.was.object.path || is_renamed_by c t.was.object.path || has_grown (grown_view x) c t.was.object.path) (has_new_holder (grown_view x) c t.was.object.path) f

      first_may : (q : Option Holder) → IsPermutation ((edit x.c).amended ++ map (told (edit x.c)) g.again) (amended_first q g.others) → (b : Amended) → Contains (amended_first q g.others) b
          → may_be_rewritten (grown_view x) c b.was.object.path ≡ true
      first_may q cut b there =
          ⊎_elim
          (λ its. subst (λ (y : Amended). may_be_rewritten (grown_view x) c y.was.object.path ≡ true) (only (amended x.c) b its) (subst (λ (p : Object). may_be_rewritten (grown_view x) c p.path ≡ true) x.its its_may))
          (λ t. subst (λ (y : Amended). may_be_rewritten (grown_view x) c y.was.object.path ≡ true) t.2 (told_may t.0 t.1)) (ar.amended_cases eg q cut b there)

      may_of : (q : Option Holder) → IsPermutation ((edit x.c).amended ++ map (told (edit x.c)) g.again) (amended_first q g.others) → Contains (amended_by (edit x.c) g q) a
          → may_be_rewritten (grown_view x) c a.was.object.path ≡ true
      may_of None cut there = first_may None cut a there
      may_of (Some hd) cut there =
          ⊎_elim
          (λ same. subst (λ (y : Amended). may_be_rewritten (grown_view x) c y.was.object.path ≡ true) same (first_may (Some hd) cut hd.amended (contains_here hd.amended g.others)))
          (λ later. first_may (Some hd) cut a (contains_later hd.amended a g.others later)) (contains_cases (holding (edit x.c) g hd) a g.others there)

      ne : NodesEdit
      ne = ag.ne (na.held_edit parts)

      listed' : Contains x.listings a.was
      listed' = n_.stay_in ne a.was (n_.was_in ne a at)

      by : (b : Bool) → is_same_path g.o.path a.was.object.path ≡ b → MayBeWritten x.kind (grown_view x) x.m c (cond b (at_place g a.was.object) a.was.object).sectors
      by true same = let j = members.its_joins eg in joins_may (j.0, at_place g g.o) j.1
      by false other = places_law.directory x.kind image (grown_view x) x.m c a.was (record { opens = opens; layout = refl }) listed' (may_of g.holder x.grows.amended_is at)
