-- The place of a new object on a map of which other identifiers get runs too.
use Rattle.std.proofs.Common.{◌≡◌, ◌<◌, ◌≤◌, ◌⊎◌, inl, inr, ⊎_elim, ℕ, ◌+◌, ◌*◌, ◌/◌, Bool, true, false, cond, List, [], ◌∷◌, ◌++◌, length, refl, sym, ap, ap₂, subst, ◌∙◌, arith, eq-eqb, Some}
use Rattle.std.specs.Prelude.{Contains, ◌==◌, ◌&&◌, ◌||◌}
use Rattle.std.proofs.lemmas.Bool.{le-leb, false_from_ne_true as unless, or_from as neither}
use Rattle.std.proofs.lemmas.List.Elements.{Contains-append_left}
use Rattle.fc_names.specs.Names.{Path}
use Rattle.fc_names.specs.declared.name.NameForm.{NameForm}
use Rattle.fc_names.specs.declared.name.NameForm.TheVariants.{Long, Ten}
use Rattle.fc_record.specs.declared.Geometry.{Geometry}
use Rattle.fc_record.specs.declared.Kind.{Kind}
use Rattle.fc_newmap.specs.Map.{Map, ZoneRun, all_runs, bits_in, has_id, id_runs, is_used}
use Rattle.fc_newmap.proofs.PlaceLemmas.{holder_of, id_run_in}
use Rattle.fc_alloc.specs.declared.owner.Owner.{Owner}
use Rattle.fc_image.specs.Layout.{Layout, dir_form, id_of, id_sectors, is_among, is_apart, new_sectors, sectors_at}
use Rattle.fc_image.specs.Walk.{Listing, Object, is_directory_object, object_size}
use Rattle.fc_image.specs.Objects.{has_sectors, is_movable, is_owned, is_owner_of, objects_of}
use Rattle.fc_image.specs.Edits.{IsAt}
use Rattle.fc_image.specs.effects.Placed.{file_low}
use Rattle.fc_image.specs.effects.Steady.{is_given_back}
use Rattle.fc_image.proofs.EntriesLemmas.{same_some}
use Rattle.fc_image.proofs.HolesLemmas.{apart_at, apart_from, in_id}
use Rattle.fc_image.proofs.MapEditLemmas.{places_law}
use Rattle.fc_tree.specs.declared.node.Node.{Node}
use Rattle.fc_changes.specs.Changed.{IsInNewSpace, IsInSlack, IsNowhere}
use Rattle.fc_changes.proofs.BasicLemmas.{any_in, clash}
use Rattle.fc_changes.proofs.ChangeLemmas.{a_sector}
use Rattle.fc_changes.proofs.MadeLemmas.{file_low_small}
use Rattle.fc_changes.proofs.PlacedLemmas.{IsShared, is_shared}
use Rattle.fc_changes.proofs.SpaceLemmas.{still_owned}
use Rattle.fc_laws.specs.nodes.Edits.{Nodes}
use Rattle.fc_laws.specs.agree.Agreed.{AgreeOn}
use Rattle.fc_laws.proofs.lemmas.agree.BeforeLemmas.{new_facts, new_shape, object_lies}
use Rattle.fc_edits.specs.Edit.{Edit, joining, objects}
use Rattle.fc_edits.specs.NewPlaces.{GivesBack, IsSpaceChange, Taking, is_taken}
use Rattle.fc_edits.specs.Placing.{IsPlaced, takings_of}
use Rattle.fc_edits.proofs.lemmas.IdentifierLemmas.{by_map, owns, some_sector}
use Rattle.fc_edits.proofs.lemmas.NewPlaceLemmas.{owned_by, runs_keep}
use Rattle.fc_edits.proofs.lemmas.NewSpaceLemmas.{id_in, new_id_unused, parts_some, slack_files}
use Rattle.fc_changes.proofs.NewPlaceLemmas.{owner_id, none_at}
use Rattle.fc_record.proofs.KindLemmas.{and_first}

-- Object o joins a directory by this edit. What had runs and gets others is a directory's.
pub record Beside : Type 0 where
  pub kind : Kind
  pub m : Map
  pub m' : Map
  pub nodes : Nodes
  pub owners : List Owner
  pub root : Node
  pub listings : List Listing
  pub edit : Edit
  pub takings : List Taking
  pub gone : List ℕ
  pub o : Object
  pub id : ℕ
  pub parts : List ZoneRun
  pub near : Path
  pub agreed : AgreeOn kind m nodes owners root listings
  pub geometry : m'.geometry ≡ m.geometry
  pub space : IsSpaceChange m m' takings gone
  pub gives : GivesBack m takings gone listings edit
  pub again : (k : ℕ) → is_taken takings k ≡ true → is_used m k ≡ true
      → (p : Object) × Contains (objects_of listings) p × (is_owner_of k p ≡ true) × (is_directory_object p ≡ true)
  pub joins : Contains (objects (joining edit)) o
  pub at : IsAt (Layout.New m') o
  pub place : IsPlaced m (objects_of listings) near (object_size (dir_form (Layout.New m')) o.entry) id parts o

-- What it owns was free, or owned by files, and may be shared; and its sectors are nobody's.
pub record IsBeside (x : Beside) : Type 0 where
  pub movable : (k : ℕ) → is_owner_of k x.o ≡ true → is_used x.m k ≡ true → is_movable (objects_of x.listings) k ≡ true
  pub apart : (p : Object) → Contains (objects_of x.listings) p → id_of x.o.entry.address ≡ id_of p.entry.address → is_apart x.o.sectors p.sectors ≡ true
  pub files : (k : ℕ) → is_owner_of k x.o ≡ true → (p : Object) → Contains (objects_of x.listings) p → is_owner_of k p ≡ true → is_directory_object p ≡ false
  pub known : (k : ℕ) → is_owner_of k x.o ≡ true → (is_used x.m k ≡ true) ⊎ (is_taken (takings_of x.id x.parts) k ≡ true)

-- what is taken for it was free
pub fresh_of : (m : Map) (os : List Object) (near : Path) (n id : ℕ) (parts : List ZoneRun) (o : Object) → IsPlaced m os near n id parts o → 0 < length parts → is_used m id ≡ false
fresh_of m os near n id parts o place some =
    ⊎_elim
    (λ file. ⊎_elim (λ shared. absurd (none shared.nothing)) (λ rest. ⊎_elim (λ new. new_id_unused m id new.1.is_new) (λ nowhere. absurd (none nowhere.nothing)) rest) file)
    (λ directory. new_id_unused m id directory.is_new) place
  where
    none : parts ≡ [] → ⊥
    none e = let long = ap (λ (ps : List ZoneRun). length ps) e in omega (arith, long, some)

module _ (x : Beside) where
  abbrev o : Object
  o = x.o

  abbrev before : List Object
  before = objects_of x.listings

  abbrev size : ℕ
  size = object_size (dir_form (Layout.New x.m')) x.o.entry

  abbrev after : List Object
  after = objects (joining x.edit) ++ x.gives.stay

  zones : 1 ≤ x.m.geometry.zones
  zones = (new_facts x.m x.agreed.is_map).zones

  owner_used : (p : Object) → Contains before p → (k : ℕ) → is_owner_of k p ≡ true → is_used x.m k ≡ true
  owner_used p at k own =
      let s = some_sector p.sectors (and_first (has_sectors p) (id_of p.entry.address == k) own) in
      let lies = object_lies x.kind x.m x.nodes x.owners x.root x.listings x.agreed p at in
      let among = subst (λ (j : ℕ). is_among (id_sectors x.m j) s.0 ≡ true) (owner_id k p own) (in_id x.m p.entry.address _ p.sectors s.0 lies.placed s.1) in
      let q = holder_of x.m.geometry (id_runs x.m k) s.0 among in
      let there = id_run_in x.m k q.0 zones q.1.0 in
      any_in (λ (r : ZoneRun). has_id k r.1.kind) (all_runs x.m) q.0 there.0 there.1

  -- in new space
  in_new : (low : ℕ) → low < 256 → IsInNewSpace x.m size low x.id x.parts o → IsBeside x
  in_new low small new = record {
    movable = λ k own used. absurd (clash (is_used x.m k) used (free k own));
    apart = λ p at same.
        apart_from o.sectors p.sectors
        (λ s i j. clash (is_used x.m (id_of p.entry.address)) (owner_used p at (id_of p.entry.address) (owns p s j))
        (subst (λ (k : ℕ). is_used x.m k ≡ false) same (free (id_of o.entry.address) (owns o s i))));
    files = λ k own p at its. absurd (clash (is_used x.m k) (owner_used p at k its) (free k own));
    known = λ k own. inr (subst (λ (j : ℕ). is_taken (takings_of x.id x.parts) j ≡ true) (sym its_id ∙ owner_id k o own) (taken x.parts (parts_some x.m size low x.id x.parts o x.agreed.is_map new)));
  }
    where
      its_id : id_of o.entry.address ≡ x.id
      its_id = id_in x.m size low x.id x.parts o small new

      free : (k : ℕ) → is_owner_of k o ≡ true → is_used x.m k ≡ false
      free k own = subst (λ (j : ℕ). is_used x.m j ≡ false) (sym its_id ∙ owner_id k o own) (new_id_unused x.m x.id new.is_new)

      taken : (ps : List ZoneRun) → 0 < length ps → is_taken (takings_of x.id ps) x.id ≡ true
      taken [] some = absurd (omega (arith, some))
      taken (p ∷ ps) some = ap (λ (b : Bool). b || false) (eq-eqb x.id x.id refl)

  -- nowhere
  in_none : IsNowhere size x.parts o → IsBeside x
  in_none none = record {
    movable = λ k own used. absurd (owns_none k own);
    apart = λ p at same. apart_from o.sectors p.sectors (λ s i j. no_sector s i);
    files = λ k own p at its. absurd (owns_none k own);
    known = λ k own. absurd (owns_none k own);
  }
    where
      no_sector : (s : ℕ) → is_among o.sectors s ≡ true → ⊥
      no_sector s i =
          let empty = none_at (Layout.New x.m') o.entry.address o.sectors (subst (λ (k : ℕ). sectors_at (Layout.New x.m') o.entry.address k ≡ Some o.sectors) none.none x.at) in
          let j : is_among [] s ≡ true = subst (λ (ss : List ℕ). is_among ss s ≡ true) empty i in
          cc

      owns_none : (k : ℕ) → is_owner_of k o ≡ true → ⊥
      owns_none k own = let s = some_sector o.sectors (and_first (has_sectors o) (id_of o.entry.address == k) own) in no_sector s.0 s.1

  -- in slack
  in_slack : IsInSlack x.m before x.near size x.parts o → IsBeside x
  in_slack shared = record {
    movable = λ k own used. subst (λ (j : ℕ). is_movable before j ≡ true) (share_is k own) (ap₂ (λ (a b : Bool). a && b) owned (le-leb 3 shared.share.0 sh.high));
    apart = λ p at same.
        apart_from o.sectors p.sectors
        (λ s i j.
        (let own : is_owner_of shared.share.0 p ≡ true = subst (λ (k : ℕ). is_owner_of k p ≡ true) (sym same ∙ its_id) (owns p s j) in
        clash (is_among p.sectors s) j (apart_at o.sectors p.sectors s (subst (λ (ss : List ℕ). is_apart ss p.sectors ≡ true) its_sectors (sh.apart p at own)) i)));
    files = λ k own p at its. files p at (subst (λ (j : ℕ). is_owner_of j p ≡ true) (sym (share_is k own)) its);
    known = λ k own. inl (subst (λ (j : ℕ). is_used x.m j ≡ true) (share_is k own) used_before);
  }
    where
      sh : IsShared x.m before size shared.share
      sh = is_shared x.m before x.near size shared.share shared.found

      its_id : id_of o.entry.address ≡ shared.share.0
      its_id = let low = sh.low in ap id_of shared.address ∙ (let e : (256 * shared.share.0 + shared.share.1) / 256 ≡ shared.share.0 = omega (arith, low) in e)

      share_is : (k : ℕ) → is_owner_of k o ≡ true → shared.share.0 ≡ k
      share_is k own = sym its_id ∙ owner_id k o own

      files : (p : Object) → Contains before p → is_owner_of shared.share.0 p ≡ true → is_directory_object p ≡ false
      files p at own = slack_files x.m before x.near size shared.share shared.found p at own

      owned : is_owned before shared.share.0 ≡ true
      owned = owned_by before shared.share.0 sh.owner sh.owner_in sh.owns

      used_before : is_used x.m shared.share.0 ≡ true
      used_before = owner_used sh.owner sh.owner_in shared.share.0 sh.owns

      owned_now : is_owned after shared.share.0 ≡ true
      owned_now =
          let sector : 0 < x.m'.geometry.sector = subst (λ (g : Geometry). 0 < g.sector) (sym x.geometry) (new_shape x.m x.agreed.is_map).some in
          let s = a_sector x.m' o.entry.address size o.sectors sh.some sector x.at in
          owned_by after shared.share.0 o (Contains-append_left (objects (joining x.edit)) x.gives.stay o x.joins) (subst (λ (k : ℕ). is_owner_of k o ≡ true) its_id (owns o s.0 s.1))

      none_more : is_taken x.takings shared.share.0 ≡ false
      none_more = unless (is_taken x.takings shared.share.0) (λ taken.
          let p = x.again shared.share.0 taken used_before in
          clash (is_directory_object p.0) p.3 (files p.0 p.1 p.2))

      runs_same : id_runs x.m' shared.share.0 ≡ id_runs x.m shared.share.0
      runs_same =
          runs_keep x.m x.m' x.takings x.gone x.listings x.edit shared.share.0 x.space x.gives used_before
          (x.gives.exactly shared.share.0 used_before ∙ neither (is_given_back before after shared.share.0) (is_taken x.takings shared.share.0) (still_owned before after shared.share.0 owned_now) none_more)

      before_at : sectors_at (Layout.New x.m) o.entry.address size ≡ Some o.sectors
      before_at =
          let old : IsAt (Layout.New x.m) o = places_law x.m' x.m o (sym x.geometry) (inr (subst (λ (j : ℕ). id_runs x.m j ≡ id_runs x.m' j) (sym its_id) (sym runs_same))) x.at in
          let form : dir_form (Layout.New x.m) ≡ dir_form (Layout.New x.m') = ap (λ (g : Geometry). let f : NameForm = cond (g.version == 0) Ten Long in f) (sym x.geometry) in
          subst (λ (j : ℕ). sectors_at (Layout.New x.m) o.entry.address j ≡ Some o.sectors) (ap (λ (f : NameForm). object_size f o.entry) form) old

      its_sectors : sh.sectors ≡ o.sectors
      its_sectors =
          same_some sh.sectors o.sectors
          (sym sh.at ∙ ap (λ (a : ℕ). new_sectors x.m a size) (sym shared.address) ∙ by_map x.m o.entry.address size o.sectors sh.some before_at)

  pub is_beside : IsBeside x
  is_beside =
      ⊎_elim
      (λ file.
      ⊎_elim in_slack
      (λ rest.
      ⊎_elim
      (λ new. in_new (file_low x.m.geometry (bits_in x.parts * x.m.geometry.bit_bytes) size) (file_low_small x.m.geometry (bits_in x.parts * x.m.geometry.bit_bytes) size) new.1) in_none rest)
      file)
      (λ directory. in_new 0 (omega arith) directory) x.place
