-- What may be written at every exit of `rename` without a copy if a directory grows by it.
use Rattle.std.proofs.Common.{◌≡◌, ◌⊎◌, inl, inr, ⊎_elim, ℕ, ◌+◌, Bool, true, false, cond, List, [], ◌∷◌, ◌++◌, length, map, refl, sym, ap, subst, ◌∙◌, arith, None, Option, Some, length-append}
use Rattle.std.specs.Prelude.{Contains, IsPermutation, ◌||◌}
use Rattle.std.proofs.lemmas.List.Elements.{Contains-append_cases}
use Rattle.fc_names.specs.Names.{Path, is_same_path}
use Rattle.fc_record.specs.declared.DiscRecord.{DiscRecord}
use Rattle.fc_newmap.specs.Map.{ZoneRun, all_runs, map_sectors}
use Rattle.fc_newmap.specs.RunsLaw.{HoldsSector}
use Rattle.fc_newmap.proofs.PlaceLemmas.{in_back}
use Rattle.fc_model.specs.Command.{Command}
use Rattle.fc_model.specs.Tree.{holder}
use Rattle.fc_image.specs.Layout.{Layout, is_among, is_apart}
use Rattle.fc_image.specs.Walk.{Listing, Object, is_directory_object}
use Rattle.fc_image.specs.Objects.{objects_of}
use Rattle.fc_image.specs.Opening.{Opened, boot_place, reserved_in}
use Rattle.fc_image.specs.Stays.{IsNewKind, OpensAs}
use Rattle.fc_image.specs.effects.Steady.{has_grown, has_new_holder, holds_named, is_idle, is_renamed_by, may_be_rewritten}
use Rattle.fc_image.proofs.HolesLemmas.{apart_at, apart_from}
use Rattle.fc_image.proofs.RenameLemmas.{moved_itself}
use Rattle.fc_tree.specs.Nodes.{number_of}
use Rattle.fc_tree.proofs.MemberLemmas.{contains_here, in_map, no_element}
use Rattle.fc_tree.proofs.WalkedLemmas.{child_path}
use Rattle.fc_changes.proofs.BasicLemmas.{clash}
use Rattle.fc_changes.proofs.OutsideLemmas.{object_busy}
use Rattle.fc_changes.proofs.ReadsLemmas.{lies_in}
use Rattle.fc_laws.specs.takeover.Places.{MayBeWritten}
use Rattle.fc_laws.proofs.lemmas.agree.BeforeLemmas.{object_lies, some_zones}
use Rattle.fc_laws.proofs.lemmas.nodes.FitsLemmas.{one_number}
use Rattle.fc_laws.proofs.lemmas.takeover.ApartLemmas.{busy_on_disc, idle_apart, places_law}
use Rattle.fc_laws.proofs.lemmas.takeover.KindLemmas.{new_kind}
use Rattle.fc_edits.specs.Edit.{Amended, Edit, joining, leaving, numbers, objects}
use Rattle.fc_edits.specs.Growing.{EditGrowing, Growing, Holder, Told, amended_by, amended_first, at_place, holding, regrown, told}
use Rattle.fc_edits.specs.GrownMoving.{NewGrownMoving, grown_edit}
use Rattle.fc_edits.specs.GrownPlaces.{NewGrowing}
use Rattle.fc_edits.specs.Moving.{edit, itself as own_now, moved, new_path}
use Rattle.fc_edits.specs.NewPlaces.{LiesAgain, NewPlaces}
use Rattle.fc_edits.specs.NodesEdit.{NodesEdit}
use Rattle.fc_edits.specs.PartsEdit.{NewPartsEdit}
use Rattle.fc_edits.specs.Places.{ApartPairs, Stays}
use Rattle.fc_edits.proofs.lemmas.AgreeLemmas as ag
use Rattle.fc_edits.proofs.lemmas.AroundLemmas as ar
use Rattle.fc_edits.proofs.lemmas.GrowingLemmas as growing
use Rattle.fc_edits.proofs.lemmas.GrownMemberLemmas as members
use Rattle.fc_edits.proofs.lemmas.GrownMovingLemmas as gm
use Rattle.fc_edits.proofs.lemmas.GrownPlaceLemmas as place
use Rattle.fc_edits.proofs.lemmas.LeavingLemmas.{left_among}
use Rattle.fc_edits.proofs.lemmas.ListLemmas.{is_in}
use Rattle.fc_edits.proofs.lemmas.MovesLemmas as m_
use Rattle.fc_edits.proofs.lemmas.NewAgreeLemmas as na
use Rattle.fc_edits.proofs.lemmas.NewPlaceLemmas as np_
use Rattle.fc_edits.proofs.lemmas.NumberLemmas as n_
use Rattle.fc_edits.proofs.lemmas.ShapeLemmas.{only}
use Rattle.fc_outcomes.specs.GrownMoving.{IsToMoveGrown, grown_view}
use Rattle.fc_outcomes.proofs.lemmas.NewOutsideLemmas.{loose_busy}
use Rattle.std.proofs.lemmas.Bool.{or_left, or_right as or_second}
use Rattle.fc_image.proofs.EditLemmas.{apart_turned as turned}
use Rattle.fc_changes.proofs.RenamedLemmas.{same_turned as turned_same}
use Rattle.fc_image.proofs.EntriesLemmas.{later as contains_later, cases as contains_cases}

-- two of these objects
two_apart : (os : List Object) → ApartPairs os → (a b : Object) → Contains os a → Contains os b → (a ≡ b) ⊎ (is_apart a.sectors b.sectors ≡ true)
two_apart [] pairs a b at bt = absurd (no_element a at)
two_apart (o ∷ os) pairs a b at bt =
    ⊎_elim
    (λ first.
    ⊎_elim (λ second. inl (sym first ∙ second)) (λ later. inr (subst (λ (p : Object). is_apart p.sectors b.sectors ≡ true) first (pairs.0 b later)))
    (contains_cases o b os bt))
    (λ later.
    ⊎_elim (λ second. inr (subst (λ (p : Object). is_apart a.sectors p.sectors ≡ true) second (turned o.sectors a.sectors (pairs.0 a later))))
    (λ both. two_apart os pairs.1 a b later both) (contains_cases o b os bt)) (contains_cases o a os at)

module _ (x : NewGrownMoving) (from to : Path) (image : List ℕ) (opens : OpensAs image x.kind (grown_view x)) (its : IsToMoveGrown (grown_view x) from to x.c x.growing) where
  abbrev c : Command
  c = Command.Rename from to

  abbrev v : Opened
  v = grown_view x

  abbrev ng : NewGrowing
  ng = gm.as_growing x

  abbrev eg : EditGrowing
  eg = place.as_edit ng

  abbrev parts : NewPartsEdit
  parts = place.grown_parts ng

  abbrev e' : Edit
  e' = grown_edit x.c x.growing

  abbrev g : Growing
  g = x.growing

  abbrev before : List Object
  before = objects_of x.listings

  abbrev anew : Object
  anew = at_place x.growing x.growing.o

  places : NewPlaces x.kind x.m x.m' x.nodes x.listings e' x.own x.gone
  places = place.grown_places ng

  r : DiscRecord
  r = (new_kind image x.kind v x.m opens refl).0

  new : IsNewKind x.kind r
  unfolding r
  new = (new_kind image x.kind v x.m opens refl).1

  -- ---- which directories may be rewritten

  by_first : (p : Path) → (holds_named c p || is_renamed_by c p) ≡ true → may_be_rewritten v c p ≡ true
  by_first p first =
      or_left (holds_named c p || is_renamed_by c p || has_grown v c p) (has_new_holder v c p) (or_left (holds_named c p || is_renamed_by c p) (has_grown v c p) first)

  to_holds : is_same_path (holder to) x.c.l.object.path ≡ true
  to_holds = (lies_in to x.c.l.object.path x.c.name its.to_is).holds

  l_named : holds_named c x.c.l.object.path ≡ true
  l_named = or_second (is_same_path (holder from) x.c.l.object.path) (is_same_path (holder to) x.c.l.object.path) to_holds

  named : (a : Amended) → Contains x.c.dirs a → holds_named c a.was.object.path ≡ true
  named a at =
      ⊎_elim
      (λ kid.
      or_left (is_same_path (holder from) a.was.object.path) (is_same_path (holder to) a.was.object.path)
      (lies_in from a.was.object.path x.c.o.entry.name
      (ap (is_same_path from) (sym (child_path (Layout.New x.m) x.listings (gm.h x).sound a.was x.c.o (m_.dir_in x.nodes (Layout.New x.m) x.listings x.c (gm.h x) x.moves a at) kid)) ∙ its.from_is)).holds)
      (λ is_l. ap (λ (k : Listing). holds_named c k.object.path) is_l ∙ l_named) (x.moves.touched a at)

  edit_may : (a : Amended) → Contains (edit x.c).amended a → may_be_rewritten v c a.was.object.path ≡ true
  edit_may a at =
      ⊎_elim (λ dir. by_first a.was.object.path (or_left (holds_named c a.was.object.path) (is_renamed_by c a.was.object.path) (named a dir)))
      (λ own.
      let d = m_.own_amended x.nodes (Layout.New x.m) x.listings x.c (gm.h x) x.moves a own in
      by_first a.was.object.path
      (or_second (holds_named c a.was.object.path) (is_renamed_by c a.was.object.path)
      (ap (λ (b : Amended). is_renamed_by c b.was.object.path) (sym d.2) ∙ ap (λ (p : Object). is_renamed_by c p.path) (x.moves.own_is d.0 d.1).0 ∙ turned_same from x.c.o.path its.from_is)))
      (Contains-append_cases x.c.dirs (map (own_now x.c) x.c.own) a at)

  its_may : may_be_rewritten v c g.o.path ≡ true
  its_may =
      subst (λ (p : Object). may_be_rewritten v c p.path ≡ true) its.into_it
      (by_first x.c.l.object.path (or_left (holds_named c x.c.l.object.path) (is_renamed_by c x.c.l.object.path) l_named))

  -- ---- the new place lies apart

  -- The object that moves is at another path than the directory.
  other : moved x.c x.c.o ≡ anew → ⊥
  other same =
      let there : new_path x.c ≡ g.o.path = sym (moved_itself x.c.o.path (new_path x.c) x.c.o.path refl) ∙ ap (λ (p : Object). p.path) same in
      let long : length (x.c.l.object.path ++ x.c.name ∷ []) ≡ length x.c.l.object.path = ap (λ (p : Path). length p) there ∙ sym (ap (λ (p : Object). length p.path) its.into_it) in
      let more : length (x.c.l.object.path ++ x.c.name ∷ []) ≡ length x.c.l.object.path + 1 = length-append x.c.l.object.path (x.c.name ∷ []) in
      omega arith

  pub moved_apart : is_apart x.c.o.sectors anew.sectors ≡ true
  moved_apart =
      let second : ℕ × Object → Object = λ p. p.1 in
      let p : ℕ × Object = (x.c.number, moved x.c x.c.o) in
      let j = members.its_joins eg in
      let q : ℕ × Object = (j.0, anew) in
      ⊎_elim (λ same. absurd (other same)) (λ apart. apart)
      (two_apart (objects (joining e')) parts.fit.pairs (moved x.c x.c.o) anew
      (in_map second (joining e') p (members.still_joins eg p (subst (λ (ps : List (ℕ × Object)). Contains ps p) (sym (m_.joined_is x.nodes (Layout.New x.m) x.listings x.c (gm.h x) x.moves)) (contains_here p []))))
      (in_map second (joining e') q j.1))

  -- Every other object moves or stays.
  goes_or_stays : (p : Object) → Contains before p → (p ≡ g.o) ⊎ ((p ≡ x.c.o) ⊎ Stays x.nodes x.listings e' p)
  goes_or_stays p at =
      let n = eg.held.held.each p at in
      by n.number n.at_path (is_in (numbers (leaving e')) n.number)
    where
      same_object : (q : Object) (n k : ℕ) → Contains before q → number_of x.nodes p.path ≡ Some n → number_of x.nodes q.path ≡ Some k → k ≡ n → p ≡ q
      same_object q n k among number_is its_number same =
          one_number (Layout.New x.m) x.listings x.nodes eg.held.sound eg.held.held p q n at among number_is (its_number ∙ ap (λ (i : ℕ). Some i) same)

      by : (n : ℕ) → number_of x.nodes p.path ≡ Some n → Contains (numbers (leaving e')) n ⊎ (Contains (numbers (leaving e')) n → ⊥)
          → (p ≡ g.o) ⊎ ((p ≡ x.c.o) ⊎ Stays x.nodes x.listings e' p)
      by n number_is (inl goes) =
          ⊎_elim (λ same. inl (same_object g.o n g.dir (growing.o_in eg) number_is x.grows.dir_is same))
          (λ left.
          inr (inl
          (same_object x.c.o n x.c.number (gm.among x) number_is x.moves.number_is (only x.c.number n (subst (λ (ps : List (ℕ × Object)). Contains (numbers ps) n) (m_.left_is x.nodes (Layout.New x.m) x.listings x.c (gm.h x) x.moves) left)))))
          (members.leaves_either eg n goes)
      by n number_is (inr stays) = inr (inr (record { among = at; number = n; number_is = number_is; stays = stays }))

  anew_apart : (p : Object) → Contains before p → (p ≡ g.o) ⊎ (is_apart p.sectors anew.sectors ≡ true)
  anew_apart p at =
      let j = members.its_joins eg in
      ⊎_elim (λ same. inl same)
      (λ rest.
      inr (⊎_elim (λ moves. subst (λ (y : Object). is_apart y.sectors anew.sectors ≡ true) (sym moves) moved_apart)
      (λ s. turned anew.sectors p.sectors (parts.fit.apart (j.0, anew) p j.1 s)) rest)) (goes_or_stays p at)

  anew_busy : LiesAgain x.m x.nodes x.listings e' anew → (s : ℕ) → is_among anew.sectors s ≡ true
      → (z : ZoneRun) × Contains (all_runs x.m) z × HoldsSector x.m.geometry z s × (is_idle before z.1.kind ≡ false)
  anew_busy (inl q) s i =
      let among = left_among x.nodes (Layout.New x.m) x.listings e' eg.held parts.is_edit q.0 q.1 in
      object_busy x.m before (some_zones x.kind x.m x.nodes x.owners x.root x.listings x.agreed) q.0.1 _ among
      (object_lies x.kind x.m x.nodes x.owners x.root x.listings x.agreed q.0.1 among).placed s (subst (λ (ss : List ℕ). is_among ss s ≡ true) q.2.sectors i)
  anew_busy (inr loose) s i =
      let z = np_.lies_loose x.kind x.m x.m' x.nodes x.owners x.root x.listings e' x.own x.gone x.agreed parts.is_edit places anew x.at loose.0 s i in
      (z.0, z.1, z.2, loose_busy before z.0.1.kind z.3)

  anew_may : MayBeWritten x.kind v x.m c anew.sectors
  anew_may =
      let j = members.its_joins eg in
      let busy = anew_busy (places.lies (j.0, anew) j.1) in
      let free = parts.fit.free (j.0, anew) j.1 in
      record {
        files = λ p at file.
            ⊎_elim (λ same. absurd (clash (is_directory_object g.o) (growing.o_directory eg) (ap is_directory_object (sym same) ∙ file))) (λ apart. apart) (anew_apart p at);
        dirs = λ p at kept.
            ⊎_elim (λ same. absurd (clash (may_be_rewritten v c g.o.path) its_may (ap (λ (y : Object). may_be_rewritten v c y.path) (sym same) ∙ kept))) (λ apart. apart)
            (anew_apart p at);
        boot = apart_from (boot_place x.kind x.m.geometry.sector) anew.sectors
            (λ s i k. clash (is_among (reserved_in x.kind (Layout.New x.m)) s) (in_back (map_sectors x.m.geometry) (boot_place x.kind x.m.geometry.sector) s i)
            (apart_at anew.sectors (reserved_in x.kind (Layout.New x.m)) s free k));
        idle = idle_apart x.m v image x.kind r anew.sectors new opens busy;
        inside = busy_on_disc x.m v image x.kind r anew.sectors new opens busy;
      }

  -- ---- each directory that says something else, at its place afterwards

  told_may : (t : Told) → Contains g.again t → may_be_rewritten v c t.was.object.path ≡ true
  told_may t there = of_told (has_grown v c t.was.object.path) refl (its.grows.told t there)
    where
      of_told : (b : Bool) → has_grown v c t.was.object.path ≡ b → (b || has_new_holder v c t.was.object.path) ≡ true → may_be_rewritten v c t.was.object.path ≡ true
      of_told true s f = or_left (holds_named c t.was.object.path || is_renamed_by c t.was.object.path || has_grown v c t.was.object.path) (has_new_holder v c t.was.object.path)
          (or_second (holds_named c t.was.object.path || is_renamed_by c t.was.object.path) (has_grown v c t.was.object.path) s)
      of_told false s f = or_second (holds_named c t.was.object.path || is_renamed_by c t.was.object.path || has_grown v c t.was.object.path) (has_new_holder v c t.was.object.path) f

  first_may : (q : Option Holder) → IsPermutation ((edit x.c).amended ++ map (told (edit x.c)) g.again) (amended_first q g.others) → (b : Amended) → Contains (amended_first q g.others) b
      → may_be_rewritten v c b.was.object.path ≡ true
  first_may q cut b there =
      ⊎_elim (λ among. edit_may b among) (λ t. subst (λ (y : Amended). may_be_rewritten v c y.was.object.path ≡ true) t.2 (told_may t.0 t.1)) (ar.amended_cases eg q cut b there)

  pub may_rewrite : (a : Amended) → Contains e'.amended a → may_be_rewritten v c a.was.object.path ≡ true
  may_rewrite a at = by g.holder x.grows.amended_is at
    where
      by : (q : Option Holder) → IsPermutation ((edit x.c).amended ++ map (told (edit x.c)) g.again) (amended_first q g.others) → Contains (amended_by (edit x.c) g q) a
          → may_be_rewritten v c a.was.object.path ≡ true
      by None cut there = first_may None cut a there
      by (Some hd) cut there =
          ⊎_elim
          (λ same. subst (λ (y : Amended). may_be_rewritten v c y.was.object.path ≡ true) same (first_may (Some hd) cut hd.amended (contains_here hd.amended g.others)))
          (λ later. first_may (Some hd) cut a (contains_later hd.amended a g.others later)) (contains_cases (holding (edit x.c) g hd) a g.others there)

  pub directory_may : (a : Amended) → Contains e'.amended a → MayBeWritten x.kind v x.m c (regrown (edit x.c) g a.was.object).sectors
  directory_may a at = by (is_same_path g.o.path a.was.object.path) refl
    where
      ne : NodesEdit
      ne = ag.ne (na.held_edit parts)

      listed' : Contains x.listings a.was
      listed' = n_.stay_in ne a.was (n_.was_in ne a at)

      by : (b : Bool) → is_same_path g.o.path a.was.object.path ≡ b → MayBeWritten x.kind v x.m c (cond b (at_place g (moved x.c a.was.object)) (moved x.c a.was.object)).sectors
      by true same = anew_may
      by false elsewhere = places_law.directory x.kind image v x.m c a.was (record { opens = opens; layout = refl }) listed' (may_rewrite a at)
