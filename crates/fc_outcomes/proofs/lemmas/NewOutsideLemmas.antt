-- What an edit on a new map leaves outside its objects and the map's runs.
use Rattle.std.proofs.Common.{◌≡◌, ◌<◌, ◌≤◌, inl, inr, ⊎_elim, ℕ, Bool, true, false, List, drop, refl, sym, ap, subst, ◌∙◌, arith, eq-eqb, cond}
use Rattle.std.specs.Prelude.{Contains, nat_le, Option, Some, None, length, [], ◌==◌, ◌&&◌}
use Rattle.std.specs.Option.{option_map_or}
use Rattle.std.proofs.lemmas.Bool.{leb-true, eqb-true, false_from_ne_true as unless}
use Rattle.fc_image.specs.Edits.{IsAt}
use Rattle.fc_record.specs.declared.Kind.{Kind}
use Rattle.fc_record.specs.Kinds.{disc_size}
use Rattle.fc_zone.specs.declared.RunKind.{RunKind}
use Rattle.fc_zone.specs.declared.RunKind.TheVariants as kinds
use Rattle.fc_newmap.specs.Map.{Map, ZoneRun, all_runs}
use Rattle.fc_newmap.specs.RunsLaw.{HoldsSector}
use Rattle.fc_model.specs.Command.{Command}
use Rattle.fc_image.specs.Layout.{Layout, is_among, is_apart}
use Rattle.fc_image.specs.Walk.{Listing, Object}
use Rattle.fc_image.specs.Objects.{is_owned, object_at, objects_of}
use Rattle.fc_image.specs.Opening.{Opened, is_hole_or_movable, reserved_in, boot_place}
use Rattle.fc_image.specs.effects.Short.{Growth, growth_in}
use Rattle.fc_image.specs.effects.Steady.{KeepsOrWritesLinks, MapOutside, expected_zone, idle_sectors, is_idle, zone0_after, ZoneSteady}
use Rattle.fc_newmap.specs.Map.{sector_of, with_root}
use Rattle.fc_changes.specs.Owed.{IsWritten}
use Rattle.fc_changes.proofs.AfterLemmas.{behind_stays}
use Rattle.fc_changes.proofs.BeforeLemmas.{boot_stays, parts}
use Rattle.fc_changes.proofs.OutsideLemmas.{AreBusy, idle_stay, object_busy, owned_busy}
use Rattle.fc_laws.proofs.lemmas.agree.BeforeLemmas.{object_lies, some_zones}
use Rattle.fc_laws.proofs.lemmas.takeover.KindLemmas.{same_sectors}
use Rattle.fc_edits.specs.Edit.{joining}
use Rattle.fc_edits.specs.NewPlaces.{LiesAgain}
use Rattle.fc_edits.specs.PartsEdit.{PartsEdit}
use Rattle.fc_edits.proofs.lemmas.AgreeLemmas as ag
use Rattle.fc_edits.proofs.lemmas.LeavingLemmas.{left_among}
use Rattle.fc_edits.proofs.lemmas.NewAgreeLemmas as na
use Rattle.fc_edits.proofs.lemmas.NewPlaceLemmas as np_
use Rattle.fc_outcomes.specs.Puts.{put_sectors}
use Rattle.fc_outcomes.specs.Written.{WritesForEdit}
use Rattle.fc_newmap.specs.Copies.{HoldsCopies}
use Rattle.fc_outcomes.specs.NewImage.{IsBelowRoot, IsRootAsked, NewImageEdit, RootLeft, is_now, was}
use Rattle.fc_outcomes.proofs.lemmas.KeptLemmas.{whose_now, written_free}
use Rattle.fc_outcomes.proofs.lemmas.PutLemmas.{written_for}

-- a hole, and a run of a movable identifier, isn't idle
pub loose_busy : (objects : List Object) (k : RunKind) → is_hole_or_movable objects k ≡ true → is_idle objects k ≡ false
loose_busy objects kinds.Hole h = refl
loose_busy objects (kinds.Id k) h =
    let own = first (is_owned objects k) (nat_le 3 k) h in
    let high = leb-true 3 k (second (is_owned objects k) (nat_le 3 k) h) in
    owned_busy objects k (kinds.Id k) (eq-eqb k k refl) own (omega (arith, high))
  where
    first : (a b : Bool) → (a && b) ≡ true → a ≡ true
    first true b e = refl
    first false b e = absurd (cc)

    second : (a b : Bool) → (a && b) ≡ true → b ≡ true
    second true b e = e
    second false b e = absurd (cc)

-- Only a root that grows changes the record.
zone0_same : (w : Opened) (growth : Option Growth) (sector : List ℕ) → IsBelowRoot growth → zone0_after w growth sector ≡ sector
zone0_same w None sector below = refl
zone0_same w (Some growth) sector below =
    ap (λ (b : Bool). cond b (option_map_or (λ (o : Object). with_root sector o.entry.address o.entry.len) (object_at w.listings []) sector) sector)
    (unless (length growth.0.path == 0) (λ none. let zero : length growth.0.path ≡ 0 = eqb-true (length growth.0.path) 0 none in absurd (omega (arith, zero, below))))

module _ (x : NewImageEdit) where
  abbrev kind : Kind
  kind = x.parts.kind

  abbrev m : Map
  m = x.parts.m

  abbrev m' : Map
  m' = x.parts.m'

  abbrev listings : List Listing
  listings = x.parts.listings

  abbrev mem : PartsEdit
  mem = na.held_edit x.parts

  abbrev pub sectors : List ℕ
  sectors = put_sectors x.puts

  pub ww : WritesForEdit x.image x.image' (Layout.New m) x.parts.edit sectors
  ww = written_for mem x.puts x.image x.image' x.out x.puts_of

  some : 1 ≤ m.geometry.zones
  some = some_zones kind m x.parts.nodes x.parts.owners x.parts.root listings x.parts.agreed

  before_busy : (o : Object) → Contains (objects_of listings) o → (s : ℕ) → is_among o.sectors s ≡ true
      → (p : ZoneRun) × Contains (all_runs m) p × HoldsSector m.geometry p s × (is_idle (objects_of listings) p.1.kind ≡ false)
  before_busy o at s i = object_busy m (objects_of listings) some o _ at (object_lies kind m x.parts.nodes x.parts.owners x.parts.root listings x.parts.agreed o at).placed s i

  -- what joins a directory
  joins_busy : (o : Object) → LiesAgain m x.parts.nodes listings x.parts.edit o → (q : ℕ × Object) → Contains (joining x.parts.edit) q → q.1 ≡ o → (s : ℕ) → is_among o.sectors s ≡ true
      → (p : ZoneRun) × Contains (all_runs m) p × HoldsSector m.geometry p s × (is_idle (objects_of listings) p.1.kind ≡ false)
  joins_busy o (inl q) p at same s i =
      before_busy q.0.1 (left_among x.parts.nodes (Layout.New m) listings x.parts.edit (ag.h mem) x.parts.is_edit q.0 q.1) s (subst (λ (ss : List ℕ). is_among ss s ≡ true) q.2.sectors i)
  joins_busy o (inr loose) p at same s i =
      let r = np_.lies_loose kind m m' x.parts.nodes x.parts.owners x.parts.root listings x.parts.edit x.takings x.gone x.parts.agreed x.parts.is_edit x.places o
      (subst (λ (y : Object). IsAt (Layout.New m') y) same (x.places.placed p at)) loose.0 s i in
      (r.0, r.1, r.2, loose_busy (objects_of listings) r.0.1.kind r.3)

  -- each sector that is written is somebody's, or a hole's
  pub busy : AreBusy m (objects_of listings) sectors
  busy s i =
      ⊎_elim (λ p. joins_busy p.0.1 (x.places.lies p.0 p.1) p.0 p.1 refl s p.2) (λ o. before_busy o.0 o.1.among s o.3)
      (whose_now mem x.image x.image' sectors ww s i)

  pub is_written : IsWritten m sectors x.image x.image'
  is_written = record { length_stays = x.out.length_stays; writes = ww.writes }

  pub behind : drop (disc_size kind) x.image' ≡ drop (disc_size kind) x.image
  behind = behind_stays kind x.r x.image m listings x.new_kind x.opens x.image' sectors is_written busy

  pub free : is_apart sectors (reserved_in kind (Layout.New m)) ≡ true
  free = written_free mem x.image x.image' sectors ww (na.reserved_same x.parts)

  -- the map's copies
  pub copies_now : HoldsCopies m.geometry m'.zones x.image'
  copies_now = by x.root
    where
      by : RootLeft x.parts x.r x.image' → HoldsCopies m.geometry m'.zones x.image'
      by (inl s) = s.after.copies
      by (inr t) = t.after.copies

  zone_same : (c : Command) (found : List Listing) (z : ℕ) → IsBelowRoot (growth_in (was x) c) → expected_zone (was x) (is_now x found) c m z ≡ sector_of m z
  zone_same c found z below = by (z == 0) refl
    where
      stays : zone0_after (is_now x found) (growth_in (was x) c) (sector_of m 0) ≡ sector_of m 0
      stays = zone0_same (is_now x found) (growth_in (was x) c) (sector_of m 0) below

      by : (b : Bool) → (z == 0) ≡ b → cond b (zone0_after (is_now x found) (growth_in (was x) c) (sector_of m 0)) (sector_of m z) ≡ sector_of m z
      by true e = stays ∙ ap (λ (k : ℕ). sector_of m k) (sym (eqb-true z 0 e))
      by false e = refl

  zones_now : (c : Command) (found : List Listing) (root : RootLeft x.parts x.r x.image') → IsRootAsked x c found root → (z : ℕ) → z < m.geometry.zones
      → ZoneSteady m.geometry z (expected_zone (was x) (is_now x found) c m z) (sector_of m' z)
  zones_now c found (inl s) below z low = subst (λ (sector : List ℕ). ZoneSteady m.geometry z sector (sector_of m' z)) (sym (zone_same c found z below)) (s.after.zones z low)
  zones_now c found (inr t) same z low =
      subst (λ (sector : List ℕ). ZoneSteady m.geometry z (cond (z == 0) sector (sector_of m z)) (sector_of m' z)) (sym same) (t.after.zones z low)

  links_now : (root : RootLeft x.parts x.r x.image') → (z : ℕ) → z < m.geometry.zones → KeepsOrWritesLinks m m' z
  links_now (inl s) = s.after.links
  links_now (inr t) = t.after.links

  pub outside : (c : Command) (found : List Listing) → IsRootAsked x c found x.root → MapOutside x.image x.image' kind (expected_zone (was x) (is_now x found) c m) (idle_sectors (was x) m) m m'
  outside c found asked =
      let o = parts kind x.r x.image m listings x.new_kind x.opens in
      record {
        geometry = x.places.geometry;
        zones = zones_now c found x.root asked;
        links = links_now x.root;
        boot = same_sectors m.geometry.sector x.image x.image' (boot_place kind m.geometry.sector)
            (boot_stays kind x.r x.image m listings x.new_kind x.opens sectors x.image' free ww.writes);
        kept_stay = idle_stay m (objects_of listings) o.some o.shape o.zones x.image x.image' sectors busy ww.writes;
      }
