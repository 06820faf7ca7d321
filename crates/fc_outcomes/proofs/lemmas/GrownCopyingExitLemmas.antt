-- What `rename` may write at every exit if it copies its file and a directory grows by it.
use Rattle.std.proofs.Common.{◌≡◌, ◌<◌, ◌⊎◌, inl, inr, ⊎_elim, ℕ, ◌*◌, Bool, true, false, cond, List, [], ◌∷◌, ◌++◌, refl, sym, ap, subst, ◌∙◌, arith}
use Rattle.std.specs.Prelude.{All, Contains}
use Rattle.std.proofs.lemmas.List.Elements.{Contains-append_right}
use Rattle.fc_names.specs.Names.{Path, is_same_path}
use Rattle.fc_record.specs.declared.DiscRecord.{DiscRecord}
use Rattle.fc_newmap.specs.Map.{ZoneRun, all_runs, bits_in, hole_runs, map_sectors}
use Rattle.fc_newmap.specs.RunsLaw.{HoldsSector}
use Rattle.fc_newmap.proofs.PlaceLemmas.{in_back}
use Rattle.fc_model.specs.Command.{Command}
use Rattle.fc_image.specs.Layout.{Layout, hole_sectors, id_of, id_sectors, is_among, is_apart}
use Rattle.fc_image.specs.Walk.{Object, is_directory_object}
use Rattle.fc_image.specs.Objects.{objects_of}
use Rattle.fc_image.specs.Opening.{Opened, boot_place, reserved_in}
use Rattle.fc_image.specs.Stays.{IsNewKind, OpensAs}
use Rattle.fc_image.specs.effects.Placed.{HasRunLength, IsFront, file_low}
use Rattle.fc_image.specs.effects.Steady.{is_idle, may_be_rewritten}
use Rattle.fc_image.proofs.HolesLemmas.{apart_at, apart_from, in_id}
use Rattle.fc_image.proofs.PathsLemmas.{itself}
use Rattle.fc_plan.proofs.Left.{left_of_none}
use Rattle.fc_tree.proofs.MemberLemmas.{contains_here}
use Rattle.fc_tree.proofs.SoundLemmas.{same_object}
use Rattle.fc_changes.proofs.BasicLemmas.{clash}
use Rattle.fc_changes.proofs.MadeLemmas.{file_low_small}
use Rattle.fc_changes.proofs.OutsideLemmas.{object_busy}
use Rattle.fc_laws.specs.takeover.Places.{MayBeWritten, OpensBy}
use Rattle.fc_laws.proofs.lemmas.agree.BeforeLemmas.{new_shape, object_lies, some_zones}
use Rattle.fc_laws.proofs.lemmas.takeover.ApartLemmas.{busy_on_disc, idle_apart, places_law}
use Rattle.fc_laws.proofs.lemmas.takeover.KindLemmas.{new_kind}
use Rattle.fc_edits.specs.Copying.{copied, edit}
use Rattle.fc_edits.specs.Edit.{Amended, Edit}
use Rattle.fc_edits.specs.Growing.{Growing, at_place, regrown}
use Rattle.fc_edits.specs.GrownCopying.{NewGrownCopying, grown_edit}
use Rattle.fc_edits.specs.GrownPlaces.{GrowsAlone, GrowsElsewhere, GrowsThere, NewGrowing, TakesSpace}
use Rattle.fc_edits.specs.NewPlaces.{LiesAgain, NewPlaces, Taking}
use Rattle.fc_edits.specs.Placing.{takings_of}
use Rattle.fc_edits.proofs.lemmas.GrowingLemmas as growing
use Rattle.fc_edits.proofs.lemmas.GrownCopyingLemmas as gc
use Rattle.fc_edits.proofs.lemmas.GrownMemberLemmas as members
use Rattle.fc_edits.proofs.lemmas.GrownPlaceLemmas as place
use Rattle.fc_edits.proofs.lemmas.LeavingLemmas.{left_among}
use Rattle.fc_edits.proofs.lemmas.NewPlaceLemmas as np_
use Rattle.fc_edits.proofs.lemmas.NumberLemmas as n_
use Rattle.fc_outcomes.specs.GrownCopying.{IsToCopyGrown, grown_view}
use Rattle.fc_outcomes.proofs.lemmas.AddedLemmas.{untaken_one}
use Rattle.fc_outcomes.proofs.lemmas.GrownCopiedLemmas as copy
use Rattle.fc_outcomes.proofs.lemmas.GrownCopyingMayLemmas as may
use Rattle.fc_outcomes.proofs.lemmas.GrownHolesLemmas.{parts_in_holes}
use Rattle.fc_outcomes.proofs.lemmas.GrownNewSpaceLemmas as space_of
use Rattle.fc_outcomes.proofs.lemmas.NewOutsideLemmas.{loose_busy}
use Rattle.fc_image.proofs.EditLemmas.{apart_turned as turned}

module _ (x : NewGrownCopying) (from to : Path) (image : List ℕ) (opens : OpensAs image x.kind (grown_view x)) (its : IsToCopyGrown x from to) where
  abbrev c : Command
  c = Command.Rename from to

  abbrev v : Opened
  v = grown_view x

  abbrev ng : NewGrowing
  ng = gc.as_growing x

  abbrev e' : Edit
  e' = grown_edit x.c x.growing

  abbrev g : Growing
  g = x.growing

  abbrev o : Object
  o = copied x.c x.c.o

  abbrev anew : Object
  anew = at_place x.growing x.growing.o

  abbrev before : List Object
  before = objects_of x.listings

  abbrev by_it : OpensBy x.kind image v x.m
  by_it = record { opens = opens; layout = refl }

  -- ---- new space lies in holes

  abbrev low : ℕ
  low = file_low x.m.geometry (bits_in x.parts * x.m.geometry.bit_bytes) x.c.o.entry.len

  small : low < 256
  small = file_low_small x.m.geometry (bits_in x.parts * x.m.geometry.bit_bytes) x.c.o.entry.len

  none_first : All (HasRunLength x.m.geometry) []
  none_first k d short = absurd (omega (arith, short))

  copy_holes : (s : ℕ) → is_among o.sectors s ≡ true → is_among (hole_sectors (Layout.New x.m)) s ≡ true
  copy_holes s i =
      parts_in_holes x.m x.agreed.is_map (new_shape x.m x.agreed.is_map) x.m' [] x.parts x.id x.geometry none_first
      (subst (λ (hs : List ZoneRun). All (λ (part : ZoneRun). (hole : ZoneRun) × Contains hs hole × IsFront x.m.geometry hole part) x.parts) (sym (left_of_none (hole_runs x.m))) its.place.plan.taken.fronts)
      (space_of.runs_are (gc.placing x) x.c.o.entry.len low small its.place) s
      (subst (λ (k : ℕ). is_among (id_sectors x.m' k) s ≡ true) (space_of.its_id (gc.placing x) x.c.o.entry.len low small its.place) (in_id x.m' o.entry.address _ o.sectors s x.at i))

  abbrev Takes : Type 0
  Takes = (t : Taking) × (x.own ≡ t ∷ []) × TakesSpace x.m before (takings_of x.id x.parts) g t × (GrowsAlone x.m before g t ⊎ GrowsElsewhere x.m before (takings_of x.id x.parts) g t)

  anew_id : (t : Takes) → id_of g.address ≡ t.0.id
  anew_id t = ⊎_elim (λ z. ap id_of z.address ∙ sym z.id) (λ z. place.its_elsewhere ng t.0 z) t.3

  anew_holes : Takes → (s : ℕ) → is_among g.sectors s ≡ true → is_among (hole_sectors (Layout.New x.m)) s ≡ true
  anew_holes t s i =
      parts_in_holes x.m x.agreed.is_map (new_shape x.m x.agreed.is_map) x.m' x.parts t.0.parts t.0.id x.geometry its.place.plan.long
      (subst (λ (hs : List ZoneRun). All (λ (part : ZoneRun). (hole : ZoneRun) × Contains hs hole × IsFront x.m.geometry hole part) t.0.parts) (untaken_one (hole_runs x.m) x.id x.parts) t.2.plan.taken.fronts)
      (x.space.own t.0
      (subst (λ (ts : List Taking). Contains (takings_of x.id x.parts ++ ts) t.0) (sym t.1) (Contains-append_right (takings_of x.id x.parts) (t.0 ∷ []) t.0 (contains_here t.0 [])))) s
      (subst (λ (k : ℕ). is_among (id_sectors x.m' k) s ≡ true) (anew_id t) (in_id x.m' g.address _ g.sectors s x.grown_at i))

  pub object_may : MayBeWritten x.kind v x.m c o.sectors
  object_may = places_law.holes x.kind image v x.m c o.sectors by_it copy_holes

  -- ---- a directory that grows where it lies

  r : DiscRecord
  r = (new_kind image x.kind v x.m opens refl).0

  new : IsNewKind x.kind r
  unfolding r
  new = (new_kind image x.kind v x.m opens refl).1

  its_may : may_be_rewritten v c g.o.path ≡ true
  its_may = subst (λ (p : Object). may_be_rewritten v c p.path ≡ true) its.into_it (may.l_may x from to its)

  there_apart : GrowsThere x.m before g x.own → (p : Object) → Contains before p → (p ≡ g.o) ⊎ (is_apart p.sectors anew.sectors ≡ true)
  there_apart here p at = by (is_same_path g.o.path p.path) refl
    where
      by : (b : Bool) → is_same_path g.o.path p.path ≡ b → (p ≡ g.o) ⊎ (is_apart p.sectors anew.sectors ≡ true)
      by true same = inl (same_object (Layout.New x.m) x.listings (copy.h x).sound g.o.path p g.o at (growing.o_in (copy.eg x)) same (itself g.o.path))
      by false other = inr (turned anew.sectors p.sectors (place.there_apart ng here p at other))

  places : NewPlaces x.kind x.m x.m' x.nodes x.listings e' (takings_of x.id x.parts ++ x.own) x.gone
  places = place.grown_places ng

  anew_busy : LiesAgain x.m x.nodes x.listings e' anew → (s : ℕ) → is_among anew.sectors s ≡ true
      → (z : ZoneRun) × Contains (all_runs x.m) z × HoldsSector x.m.geometry z s × (is_idle before z.1.kind ≡ false)
  anew_busy (inl q) s i =
      let among = left_among x.nodes (Layout.New x.m) x.listings e' (copy.h x) (copy.parts x).is_edit q.0 q.1 in
      object_busy x.m before (some_zones x.kind x.m x.nodes x.owners x.root x.listings x.agreed) q.0.1 _ among
      (object_lies x.kind x.m x.nodes x.owners x.root x.listings x.agreed q.0.1 among).placed s (subst (λ (ss : List ℕ). is_among ss s ≡ true) q.2.sectors i)
  anew_busy (inr loose) s i =
      let z = np_.lies_loose x.kind x.m x.m' x.nodes x.owners x.root x.listings e' (takings_of x.id x.parts ++ x.own) x.gone x.agreed (copy.parts x).is_edit places anew x.grown_at loose.0 s i in
      (z.0, z.1, z.2, loose_busy before z.0.1.kind z.3)

  there_may : GrowsThere x.m before g x.own → MayBeWritten x.kind v x.m c anew.sectors
  there_may here =
      let j = members.its_joins (copy.eg x) in
      let busy = anew_busy (places.lies (j.0, anew) j.1) in
      let free = (copy.parts x).fit.free (j.0, anew) j.1 in
      record {
        files = λ p at file.
            ⊎_elim (λ same. absurd (clash (is_directory_object g.o) (growing.o_directory (copy.eg x)) (ap is_directory_object (sym same) ∙ file))) (λ apart. apart) (there_apart here p at);
        dirs = λ p at kept.
            ⊎_elim (λ same. absurd (clash (may_be_rewritten v c g.o.path) its_may (ap (λ (y : Object). may_be_rewritten v c y.path) (sym same) ∙ kept))) (λ apart. apart)
            (there_apart here p at);
        boot = apart_from (boot_place x.kind x.m.geometry.sector) anew.sectors
            (λ s i k. clash (is_among (reserved_in x.kind (Layout.New x.m)) s) (in_back (map_sectors x.m.geometry) (boot_place x.kind x.m.geometry.sector) s i)
            (apart_at anew.sectors (reserved_in x.kind (Layout.New x.m)) s free k));
        idle = idle_apart x.m v image x.kind r anew.sectors new opens busy;
        inside = busy_on_disc x.m v image x.kind r anew.sectors new opens busy;
      }

  anew_may : MayBeWritten x.kind v x.m c anew.sectors
  anew_may = ⊎_elim (λ here. there_may here) (λ t. places_law.holes x.kind image v x.m c anew.sectors by_it (anew_holes t)) x.lies

  -- ---- each directory that says something else, at its place afterwards

  pub directory_may : (a : Amended) → Contains e'.amended a → MayBeWritten x.kind v x.m c (regrown (edit x.c) g a.was.object).sectors
  directory_may a at = by (is_same_path g.o.path a.was.object.path)
    where
      in_it : Contains x.listings a.was
      in_it = n_.stay_in (copy.ne x) a.was (n_.was_in (copy.ne x) a at)

      by : (b : Bool) → MayBeWritten x.kind v x.m c (let p : Object = cond b (at_place g (copied x.c a.was.object)) (copied x.c a.was.object) in p.sectors)
      by true = anew_may
      by false =
          subst (λ (p : Object). MayBeWritten x.kind v x.m c p.sectors) (sym (copy.dir_stays x a.was in_it))
          (places_law.directory x.kind image v x.m c a.was by_it in_it (may.may_rewrite x from to its a at))
