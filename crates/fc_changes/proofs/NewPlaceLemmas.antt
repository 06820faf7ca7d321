-- What a change may rest on where a new object lies.
use Rattle.std.proofs.Common.{◌≡◌, ◌<◌, ◌≤◌, inl, inr, ℕ, ◌+◌, ◌*◌, ◌/◌, Bool, true, false, cond, List, [], ◌∷◌, length, refl, sym, ap, ap₂, subst, ◌∙◌, arith, Some, eq-eqb}
use Rattle.std.specs.Prelude.{Contains, ◌==◌, ◌&&◌, ◌||◌, nat_lt}
use Rattle.std.specs.List.{list_any}
use Rattle.std.proofs.lemmas.Bool.{eqb-true, le-leb, ltb-true, or_right as or_second}
use Rattle.fc_names.specs.Names.{Path}
use Rattle.fc_names.specs.declared.name.NameForm.{NameForm}
use Rattle.fc_names.specs.declared.name.NameForm.TheVariants.{Long, Ten}
use Rattle.fc_record.specs.declared.DiscRecord.{DiscRecord}
use Rattle.fc_record.specs.declared.Geometry.{Geometry}
use Rattle.fc_record.specs.declared.Kind.{Kind}
use Rattle.fc_zone.specs.declared.RunKind.{RunKind}
use Rattle.fc_zone.specs.declared.RunKind.TheVariants as kinds
use Rattle.fc_newmap.specs.Map.{Map, ZoneRun, all_runs, bits_in, has_id, id_runs, is_used}
use Rattle.fc_newmap.specs.NewMap.{IsNewMap}
use Rattle.fc_newmap.proofs.PlaceLemmas.{holder_of, id_run_in}
use Rattle.fc_newmap.proofs.RunsLemmas.{runs_apart}
use Rattle.fc_image.specs.Layout.{Layout, dir_form, hole_sectors, id_of, id_sectors, is_among, is_apart, new_sectors, sectors_at}
use Rattle.fc_image.specs.Walk.{Listing, Object, object_size}
use Rattle.fc_image.specs.Objects.{has_sectors, is_movable, is_owned, is_owner_of, objects_of}
use Rattle.fc_image.specs.Opening.{reserved_in}
use Rattle.fc_image.specs.Stays.{IsNewKind, OpensAs}
use Rattle.fc_image.specs.Edits.{IsAt}
use Rattle.fc_image.proofs.EntriesLemmas.{same_some}
use Rattle.fc_image.proofs.HolesLemmas.{apart_at, apart_from, holes_law, in_id, loose_sectors, no_hole_in, none_loose}
use Rattle.fc_image.proofs.MapEditLemmas.{places_law}
use Rattle.fc_image.proofs.MoveLemmas.{id_loose}
use Rattle.fc_image.specs.effects.Placed.{file_low, has_spare_share}
use Rattle.fc_changes.specs.Owed.{GivesBack, IsSpaceEdit}
use Rattle.fc_changes.specs.Changed.{IsFileAt, IsInNewSpace, IsInSlack, IsNowhere}
use Rattle.fc_changes.proofs.BasicLemmas.{any_in, clash, first_in}
use Rattle.fc_changes.proofs.BeforeLemmas.{object_lies, parts}
use Rattle.fc_changes.proofs.ChangeLemmas.{a_sector, opened}
use Rattle.fc_changes.proofs.OutsideLemmas.{AreBusy, holes_busy, object_owns, owned_busy}
use Rattle.fc_changes.proofs.PlacedLemmas.{IsShared, high, id_is, in_holes, is_shared, unused}
use Rattle.fc_changes.proofs.SpaceLemmas.{runs_stay, still_owned}
use Rattle.fc_record.proofs.KindLemmas.{and_first, and_second}
pub use Rattle.fc_changes.proofs.OutsideLemmas.{some_sectors as some_there}

-- The new object's identifier is free, or owned already, and its sectors are nobody's.
pub record NewPlace (kind : Kind) (m : Map) (objects stay : List Object) (id : ℕ) (parts : List ZoneRun) (o : Object) : Type 0 where
  pub fresh : 0 < length parts → is_used m id ≡ false
  pub owned : 0 < length parts → (is_owned (o ∷ stay) id ≡ true) × (3 ≤ id)
  pub come_new : (k : ℕ) → is_owner_of k o ≡ true → is_used m k ≡ true → is_owned objects k ≡ true
  pub free : is_apart o.sectors (reserved_in kind (Layout.New m)) ≡ true
  pub apart : (p : Object) → Contains objects p → is_apart p.sectors o.sectors ≡ true
  pub busy : AreBusy m objects o.sectors

-- the identifier of an owner
pub owner_id : (k : ℕ) (o : Object) → is_owner_of k o ≡ true → id_of o.entry.address ≡ k
owner_id k o own = eqb-true (id_of o.entry.address) k (and_second (has_sectors o) (id_of o.entry.address == k) own)

pub some_of : (sectors : List ℕ) → nat_lt 0 (length sectors) ≡ true → (s : ℕ) × (is_among sectors s ≡ true)
some_of [] h = absurd (let low = ltb-true 0 0 h in omega arith)
some_of (x ∷ sectors) h = (x, ap (λ b. b || is_among sectors x) (eq-eqb x x refl))

-- the sectors of bytes, some
pub by_new : (m : Map) (address n : ℕ) (sectors : List ℕ) → 0 < n → sectors_at (Layout.New m) address n ≡ Some sectors → new_sectors m address n ≡ Some sectors
unfolding sectors_at
by_new m address n sectors some h = by (n == 0) refl h
  where
    by : (b : Bool) → (n == 0) ≡ b → cond b (Some []) (new_sectors m address n) ≡ Some sectors → new_sectors m address n ≡ Some sectors
    by true e g = absurd (let none = eqb-true n 0 e in omega (arith, none, some))
    by false e g = g

pub none_at : (layout : Layout) (address : ℕ) (sectors : List ℕ) → sectors_at layout address 0 ≡ Some sectors → sectors ≡ []
unfolding sectors_at
none_at layout address sectors h = sym (same_some [] sectors h)

module _ (kind : Kind) (r : DiscRecord) (image : List ℕ) (m : Map) (ls : List Listing) (new_kind : IsNewKind kind r) (opens : OpensAs image kind (opened kind m ls)) (m' : Map)
    (n id : ℕ) (parts' : List ZoneRun) (gone : List ℕ) (o : Object) (stay : List Object) (is : IsNewMap m) (same : m'.geometry ≡ m.geometry) (space : IsSpaceEdit m m' id parts' gone)
    (gives : GivesBack m gone (objects_of ls) (o ∷ stay)) (at : IsAt (Layout.New m') o) (size : object_size (dir_form (Layout.New m')) o.entry ≡ n) where
  objects : List Object
  objects = objects_of ls

  some_zones : 1 ≤ m.geometry.zones
  some_zones = (parts kind r image m ls new_kind opens).some

  sector_now : 0 < m'.geometry.sector
  sector_now = subst (λ (g : Geometry). 0 < g.sector) (sym same) (parts kind r image m ls new_kind opens).shape.some

  placed : sectors_at (Layout.New m') o.entry.address n ≡ Some o.sectors
  placed = subst (λ (k : ℕ). sectors_at (Layout.New m') o.entry.address k ≡ Some o.sectors) size at

  owns_now : 0 < n → is_owned (o ∷ stay) (id_of o.entry.address) ≡ true
  owns_now some = let s = a_sector m' o.entry.address n o.sectors some sector_now placed in object_owns (o ∷ stay) o s.0 (first_in o stay) s.1

  -- in new space
  pub new_place : (low : ℕ) → low < 256 → IsInNewSpace m n low id parts' o → NewPlace kind m (objects_of ls) stay id parts' o
  new_place low small new = record {
    fresh = λ some. free_id;
    owned = λ some. (subst (λ (k : ℕ). is_owned (o ∷ stay) k ≡ true) its_id (owns_now new.some), high m m' n low id parts' gone o is same small new space);
    come_new = λ k own used. absurd (clash (is_used m k) used (subst (λ (j : ℕ). is_used m j ≡ false) (sym its_id ∙ owner_id k o own) free_id));
    free = apart_from o.sectors (reserved_in kind (Layout.New m))
        (λ s i j. clash (is_among (hole_sectors (Layout.New m)) s) (in_hole s i) (no_hole_in m (objects_of ls) (reserved_in kind (Layout.New m)) (parts kind r image m ls new_kind opens).tight s j));
    apart = λ p there.
        apart_from p.sectors o.sectors
        (λ s i j. clash (is_among (hole_sectors (Layout.New m)) s) (in_hole s j) (apart_at p.sectors (hole_sectors (Layout.New m)) s ((holes_law image kind r (opened kind m ls) new_kind opens).1 p there) i));
    busy = holes_busy m (objects_of ls) some_zones o.sectors in_hole;
  }
    where
      its_id : id_of o.entry.address ≡ id
      its_id = id_is m m' n low id parts' gone o is same small new space

      free_id : is_used m id ≡ false
      free_id = unused m m' n low id parts' gone o is same small new space

      in_hole : (s : ℕ) → is_among o.sectors s ≡ true → is_among (hole_sectors (Layout.New m)) s ≡ true
      in_hole s h =
          in_holes m m' n low id parts' gone o is same small new space (parts kind r image m ls new_kind opens).shape.some s
          (subst (λ (k : ℕ). is_among (id_sectors m' k) s ≡ true) its_id (in_id m' o.entry.address n o.sectors s placed h))

  -- nowhere
  pub no_place : IsNowhere n parts' o → NewPlace kind m (objects_of ls) stay id parts' o
  no_place none = record {
    fresh = λ some. absurd (nothing some);
    owned = λ some. absurd (nothing some);
    come_new = λ k own used. absurd (let s = some_of o.sectors (and_first (has_sectors o) (id_of o.entry.address == k) own) in no_sector s.0 s.1);
    free = apart_from o.sectors (reserved_in kind (Layout.New m)) (λ s i j. no_sector s i);
    apart = λ p there. apart_from p.sectors o.sectors (λ s i j. no_sector s j);
    busy = λ s h. absurd (no_sector s h);
  }
    where
      nothing : 0 < length parts' → ⊥
      nothing some = let e = ap (λ (ps : List ZoneRun). length ps) none.nothing in omega (arith, e, some)

      no_sector : (s : ℕ) → is_among o.sectors s ≡ true → ⊥
      no_sector s h =
          let empty = none_at (Layout.New m') o.entry.address o.sectors (subst (λ (k : ℕ). sectors_at (Layout.New m') o.entry.address k ≡ Some o.sectors) none.none placed) in
          let g : is_among [] s ≡ true = subst (λ (xs : List ℕ). is_among xs s ≡ true) empty h in
          cc

  -- ---- in slack

  module _ (dir : Path) (shared : IsInSlack m (objects_of ls) dir n parts' o) where
    sh : IsShared m (objects_of ls) n shared.share
    sh = is_shared m (objects_of ls) dir n shared.share shared.found

    abbrev k : ℕ
    k = shared.share.0

    its_id : id_of o.entry.address ≡ k
    its_id = let low = sh.low in ap id_of shared.address ∙ (let e : (256 * shared.share.0 + shared.share.1) / 256 ≡ shared.share.0 = omega (arith, low) in e)

    none_taken : 0 < length parts' → ⊥
    none_taken some = let e = ap (λ (ps : List ZoneRun). length ps) shared.nothing in omega (arith, e, some)

    owned_before : is_owned (objects_of ls) k ≡ true
    owned_before = or_second (k == 2) (list_any (is_owner_of k) (objects_of ls)) (any_in (is_owner_of k) (objects_of ls) sh.owner sh.owner_in sh.owns)

    used_before : is_used m k ≡ true
    used_before =
        let s = some_of sh.owner.sectors (and_first (has_sectors sh.owner) (id_of sh.owner.entry.address == k) sh.owns) in
        let lies = object_lies kind r image m ls new_kind opens sh.owner sh.owner_in in
        let among = subst (λ (j : ℕ). is_among (id_sectors m j) s.0 ≡ true) (owner_id k sh.owner sh.owns) (in_id m sh.owner.entry.address _ sh.owner.sectors s.0 lies.placed s.1) in
        let p = holder_of m.geometry (id_runs m k) s.0 among in
        let there = id_run_in m k p.0 some_zones p.1.0 in
        any_in (λ (q : ZoneRun). has_id k q.1.kind) (all_runs m) p.0 there.0 there.1

    runs_same : id_runs m' k ≡ id_runs m k
    runs_same =
        runs_stay m m' id parts' gone space some_zones (λ some. absurd (none_taken some)) k used_before
        (gives.exactly k used_before ∙ still_owned (objects_of ls) (o ∷ stay) k (subst (λ (j : ℕ). is_owned (o ∷ stay) j ≡ true) its_id (owns_now sh.some)))

    before_at : sectors_at (Layout.New m) o.entry.address n ≡ Some o.sectors
    before_at =
        let old : IsAt (Layout.New m) o = places_law m' m o (sym same) (inr (subst (λ (j : ℕ). id_runs m j ≡ id_runs m' j) (sym its_id) (sym runs_same))) at in
        let form : dir_form (Layout.New m) ≡ dir_form (Layout.New m') = ap (λ (g : Geometry). let f : NameForm = cond (g.version == 0) Ten Long in f) (sym same) in
        subst (λ (j : ℕ). sectors_at (Layout.New m) o.entry.address j ≡ Some o.sectors) (ap (λ (f : NameForm). object_size f o.entry) form ∙ size) old

    its_sectors : sh.sectors ≡ o.sectors
    its_sectors =
        same_some sh.sectors o.sectors
        (sym sh.at ∙ ap (λ (a : ℕ). new_sectors m a n) (sym shared.address) ∙ by_new m o.entry.address n o.sectors sh.some before_at)

    among_its : (s : ℕ) → is_among o.sectors s ≡ true → is_among (id_sectors m k) s ≡ true
    among_its s h = subst (λ (j : ℕ). is_among (id_sectors m j) s ≡ true) its_id (in_id m o.entry.address n o.sectors s before_at h)

    others_apart : (p : Object) → Contains (objects_of ls) p → (s : ℕ) → is_among p.sectors s ≡ true → is_among o.sectors s ≡ true → ⊥
    others_apart p there s i j = by (is_owner_of k p) refl
      where
        same_id : (a b : ℕ) (kind' : RunKind) → has_id a kind' ≡ true → has_id b kind' ≡ true → a ≡ b
        same_id a b kinds.Hole x y = absurd (cc)
        same_id a b (kinds.Id c) x y = sym (eqb-true c a x) ∙ eqb-true c b y

        by : (b : Bool) → is_owner_of k p ≡ b → ⊥
        by true own =
            let apart = subst (λ (xs : List ℕ). is_apart xs p.sectors ≡ true) its_sectors (sh.apart p there own) in
            clash (is_among p.sectors s) i (apart_at o.sectors p.sectors s apart j)
        by false other =
            let o' = parts kind r image m ls new_kind opens in
            let a = holder_of m.geometry (id_runs m k) s (among_its s j) in
            let a_in = id_run_in m k a.0 some_zones a.1.0 in
            let b = holder_of m.geometry (id_runs m (id_of p.entry.address)) s (in_id m p.entry.address _ p.sectors s (object_lies kind r image m ls new_kind opens p there).placed i) in
            let b_in = id_run_in m (id_of p.entry.address) b.0 some_zones b.1.0 in
            let one = runs_apart m o'.shape o'.zones a.0 b.0 a_in.0 b_in.0 s a.1.1 b.1.1 in
            let ids = same_id (id_of p.entry.address) k b.0.1.kind b_in.1 (subst (λ (q : ZoneRun). has_id k q.1.kind ≡ true) one a_in.1) in
            clash (is_owner_of k p) (ap₂ (λ (x y : Bool). x && y) (some_there p.sectors s i) (eq-eqb (id_of p.entry.address) k ids)) other

    pub slack_place : NewPlace kind m (objects_of ls) stay id parts' o
    slack_place = record {
      fresh = λ some. absurd (none_taken some);
      owned = λ some. absurd (none_taken some);
      come_new = λ j own used. subst (λ (i : ℕ). is_owned (objects_of ls) i ≡ true) (sym its_id ∙ owner_id j o own) owned_before;
      free = apart_from o.sectors (reserved_in kind (Layout.New m))
          (λ s i j. clash (is_among (loose_sectors m (objects_of ls)) s)
          (id_loose m (objects_of ls) k s some_zones movable (among_its s i))
          (none_loose (loose_sectors m (objects_of ls)) (reserved_in kind (Layout.New m)) (parts kind r image m ls new_kind opens).tight s j));
      apart = λ p there. apart_from p.sectors o.sectors (λ s i j. others_apart p there s i j);
      busy = λ s h.
          (let a = holder_of m.geometry (id_runs m k) s (among_its s h) in
          let a_in = id_run_in m k a.0 some_zones a.1.0 in
          let high' = sh.high in
          (a.0, a_in.0, a.1.1, owned_busy (objects_of ls) k a.0.1.kind a_in.1 owned_before (omega (arith, high'))));
    }
      where
        movable : is_movable (objects_of ls) k ≡ true
        movable = ap₂ (λ (x y : Bool). x && y) owned_before (le-leb 3 k sh.high)

  -- wherever a file lies
  pub file_place : (dir : Path) → IsFileAt m (objects_of ls) dir n id parts' o → NewPlace kind m (objects_of ls) stay id parts' o
  file_place dir (inl shared) = slack_place dir shared
  file_place dir (inr (inl new)) = new_place (file_low m.geometry (bits_in parts' * m.geometry.bit_bytes) n) (low_small (bits_in parts' * m.geometry.bit_bytes)) new.1
    where
      low_small : (space' : ℕ) → file_low m.geometry space' n < 256
      low_small space' = one_or_none (has_spare_share m.geometry space' n)
        where
          one_or_none : (b : Bool) → cond b 1 0 < 256
          one_or_none true = omega arith
          one_or_none false = omega arith
  file_place dir (inr (inr none)) = no_place none
