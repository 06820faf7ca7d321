-- Steps that keep the tree, one after another.
use Rattle.std.proofs.Common.{◌≡◌, ◌<◌, ◌≤◌, ℕ, ◌+◌, ◌*◌, Bool, true, false, cond, List, [], ◌∷◌, map, refl, sym, ap, ap₂, subst, ◌∙◌, inl, inr, ◌⊎◌, Option}
use Rattle.std.specs.Prelude.{Contains, filter, ◌==◌, ◌||◌, ◌&&◌, not, All}
use Rattle.std.proofs.lemmas.List.Elements.{All-head, All-tail}
use Rattle.std.proofs.lemmas.Bool.{eqb-true, eq-eqb, cases_lt, false_from_ne_true as unless}
use Rattle.fc_device.specs.Sectors.{sector_at}
use Rattle.fc_record.specs.declared.DiscRecord.{DiscRecord}
use Rattle.fc_record.specs.declared.Geometry.{Geometry}
use Rattle.fc_record.specs.declared.Kind.{Kind}
use Rattle.fc_record.specs.declared.Kind.TheVariants.{Boot}
use Rattle.fc_record.specs.Record.{geometry}
use Rattle.fc_zone.specs.declared.RunKind.{RunKind}
use Rattle.fc_zone.specs.declared.RunKind.TheVariants as kinds
use Rattle.fc_newmap.specs.Map.{Map, ZoneRun, map_sectors, all_runs, id_runs, sectors_of, has_id}
use Rattle.fc_newmap.specs.RunsLaw.{HoldsSector}
use Rattle.fc_newmap.proofs.PlaceLemmas.{in_front, in_back, in_range, holder_of, held_in, filter_in, in_filter, id_run_in, in_id_runs}
use Rattle.fc_image.specs.Layout.{Layout, map_place, hole_sectors, id_sectors, is_among}
use Rattle.fc_image.specs.Walk.{Object, Listing, reader_of}
use Rattle.fc_image.specs.Objects.{objects_of, is_owned, tree_of}
use Rattle.fc_image.specs.Opening.{Opened, reserved_in, boot_place}
use Rattle.fc_image.specs.Stays.{OpensAs, stored_objects, is_fixed, is_fixed_run, fixed_sectors, FixedStay, FixedBytesStay, SameOutsideHoles}
use Rattle.fc_image.specs.Moves.{sectors_or_none, object_in, listing_in, with_map, Carried, WithMapLaw, CommitLaw, HoleStepLaw, ThenLaw, WholeLaw, BootStaysLaw}
use Rattle.fc_image.proofs.FreeLemmas.{among_here}
use Rattle.fc_image.proofs.StoredLemmas.{stored_tree}
use Rattle.fc_image.proofs.HolesLemmas.{OpenMap, Each, EachListed, Lies, walk_lies, none_loose, loose_sectors, holes_loose, hole_write_law}
use Rattle.fc_image.proofs.MoveLemmas.{open_by, all_filter, id_loose, fixed_stay, boot_fits, move_law, merge_law}

-- ---- what is opened, by a map

own_listings : (layout : Layout) (P : Object → Type 0) → ((o : Object) → P o → object_in layout o ≡ o) → (listings : List Listing) → EachListed P listings → map (listing_in layout) listings ≡ listings
own_listings layout P same [] each = refl
own_listings layout P same (l ∷ listings) each =
    ap₂ (λ (k : Listing) (ks : List Listing). k ∷ ks)
    (ap₂ (λ (o : Object) (os : List Object). let k : Listing = record { object = o; content = l.content; children = os } in k) (same l.object each.0) (objects l.children each.1))
    (own_listings layout P same listings each.2)
  where
    objects : (os : List Object) → Each P os → map (object_in layout) os ≡ os
    objects [] e = refl
    objects (o ∷ os) e = ap₂ (λ (x : Object) (xs : List Object). x ∷ xs) (same o e.0) (objects os e.1)

again_listings : (layout layout' : Layout) (listings : List Listing) → map (listing_in layout') (map (listing_in layout) listings) ≡ map (listing_in layout') listings
again_listings layout layout' [] = refl
again_listings layout layout' (l ∷ listings) =
    ap₂ (λ (k : Listing) (ks : List Listing). k ∷ ks)
    (ap (λ (os : List Object). let k : Listing = record { object = object_in layout' l.object; content = l.content; children = os } in k) (objects l.children))
    (again_listings layout layout' listings)
  where
    objects : (os : List Object) → map (object_in layout') (map (object_in layout) os) ≡ map (object_in layout') os
    objects [] = refl
    objects (o ∷ os) = ap (λ (xs : List Object). object_in layout' o ∷ xs) (objects os)

own_map : (image : List ℕ) (kind : Kind) (r : DiscRecord) (v : Opened) (m : Map) → OpenMap image kind r v m → with_map m v ≡ v
own_map image kind r v m o =
    let lies = walk_lies (reader_of image (Layout.New m)) (Layout.New m) (reserved_in kind (Layout.New m)) o.root o.size v.listings o.walked in
    let same : map (listing_in (Layout.New m)) v.listings ≡ v.listings =
    own_listings (Layout.New m) (Lies (Layout.New m) (reserved_in kind (Layout.New m)))
    (λ x l. ap (λ (xs : Option (List ℕ)). let y : Object = record x { sectors = sectors_or_none xs } in y) l.placed) v.listings lies in
    ap₂ (λ (l : Layout) (ls : List Listing). let w : Opened = record { kind = v.kind; layout = l; listings = ls } in w) (sym o.layout) same

again_map : (m m' : Map) (v : Opened) → with_map m' (with_map m v) ≡ with_map m' v
again_map m m' v = ap (λ (ls : List Listing). let w : Opened = record { kind = v.kind; layout = Layout.New m'; listings = ls } in w) (again_listings (Layout.New m) (Layout.New m') v.listings)

pub with_map_law : WithMapLaw
with_map_law = record {
  own = λ image kind r v m new e layout. own_map image kind r v m (open_by image kind r v m new e layout);
  again = again_map;
}

pub whole_law : WholeLaw
whole_law image other kind v m' s = record {
  view = with_map m' v;
  opens = s.opens;
  objects = s.objects;
  fixed = s.fixed;
  fixed_bytes = s.fixed_bytes;
}

-- ---- commits

outside_map : (g : Geometry) (s : ℕ) → is_among (map_sectors g) s ≡ false → (s < g.map_sector) ⊎ (g.map_sector + 2 * g.zones ≤ s)
outside_map g s e = elim (cases_lt s g.map_sector) [
  | inl less ↦ inl less
  | inr low ↦ elim (cases_lt s (g.map_sector + 2 * g.zones)) [
    | inl less ↦ absurd (let i = in_range g.map_sector (2 * g.zones) s low less in cc)
    | inr more ↦ inr more
  ]
]

carried_over : (size : ℕ) (image other holes : List ℕ) (old new : List ℕ)
    → ((t : ℕ) → is_among holes t ≡ true → sector_at size other t ≡ sector_at size image t)
    → ((s : ℕ) → is_among old s ≡ true → sector_at size other s ≡ sector_at size image s)
    → Carried size image image holes old new → Carried size image other holes old new
carried_over size image other holes [] new in_holes in_old c = tt
carried_over size image other holes (s ∷ old) [] in_holes in_old c = absurd c
carried_over size image other holes (s ∷ old) (t ∷ new) in_holes in_old c = (
  (elim c.1 [
    | inl same ↦ subst (λ (k : ℕ). sector_at size other k ≡ sector_at size image k) (sym same) (in_old s (among_here s (is_among old s)))
    | inr hole ↦ in_holes t hole
  ]) ∙ c.0,
  c.1,
  carried_over size image other holes old new in_holes (λ k i. in_old k (in_back (s ∷ []) old k i)) c.2,
)

pub commit_law : CommitLaw
commit_law image other kind r v m m' new e layout can left =
    let o = open_by image kind r v m new e layout in
    let out : (s : ℕ) → is_among (map_sectors m.geometry) s ≡ false → sector_at m.geometry.sector other s ≡ sector_at m.geometry.sector image s = λ s h. left.frame.outside s (outside_map m.geometry s h) in
    let objects = objects_of v.listings in
    let tight = none_loose (loose_sectors m objects) (reserved_in kind (Layout.New m)) o.tight in
    let not_map : (s : ℕ) → is_among (loose_sectors m objects) s ≡ true → is_among (map_sectors m.geometry) s ≡ false =
    λ s l. unless (is_among (map_sectors m.geometry) s) (λ i. let no' = tight s (in_front (map_sectors m.geometry) (boot_place kind m.geometry.sector) s i) in cc) in (
      λ old. merge_law image other kind r v m m new e layout (record {
        turns = record { geometry_stays = refl; record_stays = refl; is_map = o.map_is; chosen_map = old; length_stays = left.frame.same_length; outside = λ s h free. out s h };
        fixed = λ k h. refl;
        sectors = λ k. refl;
      }),
      λ after. elim can [
        | inl move ↦ (let c = move.1 in move_law image other kind r v m m' move.0 new e layout (record {
          turns = record { geometry_stays = c.geometry_stays; record_stays = c.record_stays; is_map = c.is_map; chosen_map = after; length_stays = left.frame.same_length; outside = λ s h free. out s h };
          movable = c.movable;
          others = c.others;
          carried = carried_over m.geometry.sector image other (hole_sectors (Layout.New m)) (id_sectors m move.0) (id_sectors m' move.0)
              (λ t h. out t (not_map t (holes_loose m objects t h)))
              (λ s i. out s (not_map s (id_loose m objects move.0 s o.some c.movable i))) c.carried;
        }))
        | inr c ↦ merge_law image other kind r v m m' new e layout (record {
          turns = record { geometry_stays = c.geometry_stays; record_stays = c.record_stays; is_map = c.is_map; chosen_map = after; length_stays = left.frame.same_length; outside = λ s h free. out s h };
          fixed = c.fixed;
          sectors = c.sectors;
        })
      ],
    )

-- ---- writes into holes

pub hole_step_law : HoleStepLaw
hole_step_law image other kind r v m new e layout len same =
    let o = open_by image kind r v m new e layout in
    let own = own_map image kind r v m o in
    let objects = objects_of v.listings in
    let written = hole_write_law image other kind r v new e len
    (subst (λ (l : Layout). SameOutsideHoles (geometry r).sector l image other) (sym layout)
    (subst (λ (g : Geometry). SameOutsideHoles g.sector (Layout.New m) image other) o.geometry_is same)) in
    record {
      opens = subst (OpensAs other kind) (sym own) written.0;
      objects = ap (stored_objects other) own ∙ written.1;
      tree = ap (λ (w : Opened). tree_of other w.layout w.listings) own ∙ stored_tree image other v v written.1;
      fixed = subst (λ (l : Layout). FixedStay l (Layout.New m) objects) (sym layout) (λ k h. refl);
      fixed_bytes = subst (λ (l : Layout). FixedBytesStay l objects image other) (sym layout) (fixed_stay image other m objects o.shape o.zones o.some (λ s h free. same s free));
      owned = λ k. ap (λ (w : Opened). is_owned (objects_of w.listings) k) own;
    }

-- ---- one after another

pub all_at : (P : ℕ → Type 0) (xs : List ℕ) (s : ℕ) → All P xs → is_among xs s ≡ true → P s
all_at P [] s all i = absurd (cc)
all_at P (x ∷ xs) s all i = by (x == s) refl i (λ later. all_at P xs s (All-tail P x xs all) later)
  where
    by : (b : Bool) → (x == s) ≡ b → (b || is_among xs s) ≡ true → (is_among xs s ≡ true → P s) → P s
    by true h g more = subst P (eqb-true x s h) (All-head P x xs all)
    by false h g more = more g

pub among_filter : (t : ℕ → Bool) (xs : List ℕ) (s : ℕ) → is_among xs s ≡ true → t s ≡ true → is_among (filter t xs) s ≡ true
among_filter t [] s i h = i
among_filter t (x ∷ xs) s i h = by (x == s) (t x) refl refl i (λ later. among_filter t xs s later h)
  where
    by : (a b : Bool) → (x == s) ≡ a → t x ≡ b → (a || is_among xs s) ≡ true → (is_among xs s ≡ true → is_among (filter t xs) s ≡ true)
        → is_among (cond b (x ∷ filter t xs) (filter t xs)) s ≡ true
    by true true f g j more = ap (λ c. c || is_among (filter t xs) s) f
    by true false f g j more = absurd (let there = ap t (eqb-true x s f) in cc)
    by false true f g j more = in_back (x ∷ []) (filter t xs) s (more j)
    by false false f g j more = more j

-- a run that may not move is one of the later map too
fixed_there : (m₀ m : Map) (objects objects' : List Object) → m.geometry ≡ m₀.geometry → 1 ≤ m₀.geometry.zones
    → ((k : ℕ) → is_fixed objects k ≡ true → id_runs m k ≡ id_runs m₀ k) → ((k : ℕ) → is_fixed objects' k ≡ is_fixed objects k)
    → (s : ℕ) → is_among (sectors_of m₀.geometry (filter (λ p. is_fixed_run objects p.1.kind) (all_runs m₀))) s ≡ true
    → is_among (sectors_of m.geometry (filter (λ p. is_fixed_run objects' p.1.kind) (all_runs m))) s ≡ true
fixed_there m₀ m objects objects' e some stay same s i =
    let p = holder_of m₀.geometry (filter (λ p. is_fixed_run objects p.1.kind) (all_runs m₀)) s i in
    let f = filter_in (λ p. is_fixed_run objects p.1.kind) (all_runs m₀) p.0 p.1.0 in
    let id = of_id p.0.1.kind f.1 in
    let there = subst (λ (ps : List ZoneRun). Contains ps p.0) (sym (stay id.0 id.1.1)) (in_id_runs m₀ id.0 p.0 some f.0 id.1.0) in
    let some' : 1 ≤ m.geometry.zones = subst (λ (g : Geometry). 1 ≤ g.zones) (sym e) some in
    let p_in = id_run_in m id.0 p.0 some' there in
    held_in m.geometry (filter (λ p. is_fixed_run objects' p.1.kind) (all_runs m)) p.0 s
    (in_filter (λ p. is_fixed_run objects' p.1.kind) (all_runs m) p.0 p_in.0 (fixed' p.0.1.kind f.1))
    (subst (λ (g : Geometry). HoldsSector g p.0 s) (sym e) p.1.1)
  where
    of_id : (k : RunKind) → is_fixed_run objects k ≡ true → (id : ℕ) × ((has_id id k ≡ true) × (is_fixed objects id ≡ true))
    of_id kinds.Hole h = absurd (cc)
    of_id (kinds.Id id) h = (id, (eq-eqb id id refl, h))

    fixed' : (k : RunKind) → is_fixed_run objects k ≡ true → is_fixed_run objects' k ≡ true
    fixed' kinds.Hole h = absurd (cc)
    fixed' (kinds.Id id) h = same id ∙ h

in_of_filter : (t : ℕ → Bool) (xs : List ℕ) (s : ℕ) → is_among (filter t xs) s ≡ true → (is_among xs s ≡ true) × (t s ≡ true)
in_of_filter t [] s i = absurd (cc)
in_of_filter t (x ∷ xs) s i = by (t x) refl i (in_of_filter t xs s)
  where
    then : (a : Bool) → (x == s) ≡ a → t x ≡ true → (a || is_among (filter t xs) s) ≡ true → (is_among (filter t xs) s ≡ true → (is_among xs s ≡ true) × (t s ≡ true))
        → ((a || is_among xs s) ≡ true) × (t s ≡ true)
    then true f g j more = (refl, ap t (sym (eqb-true x s f)) ∙ g)
    then false f g j more = more j

    by : (b : Bool) → t x ≡ b → is_among (cond b (x ∷ filter t xs) (filter t xs)) s ≡ true → (is_among (filter t xs) s ≡ true → (is_among xs s ≡ true) × (t s ≡ true))
        → (is_among (x ∷ xs) s ≡ true) × (t s ≡ true)
    by true g j more = then (x == s) refl g j more
    by false g j more = let r = more j in (in_back (x ∷ []) xs s r.0, r.1)

fixed_sector_there : (m₀ m : Map) (objects objects' : List Object) → m.geometry ≡ m₀.geometry → 1 ≤ m₀.geometry.zones
    → ((k : ℕ) → is_fixed objects k ≡ true → id_runs m k ≡ id_runs m₀ k) → ((k : ℕ) → is_fixed objects' k ≡ is_fixed objects k)
    → (s : ℕ) → is_among (fixed_sectors m₀ objects) s ≡ true → is_among (fixed_sectors m objects') s ≡ true
fixed_sector_there m₀ m objects objects' e some stay same s i =
    let r = in_of_filter (λ s. not (is_among (map_place (Layout.New m₀)) s)) (sectors_of m₀.geometry (filter (λ p. is_fixed_run objects p.1.kind) (all_runs m₀))) s i in
    among_filter (λ s. not (is_among (map_place (Layout.New m)) s)) (sectors_of m.geometry (filter (λ p. is_fixed_run objects' p.1.kind) (all_runs m))) s
    (fixed_there m₀ m objects objects' e some stay same s r.0)
    (subst (λ (g : Geometry). not (is_among (map_sectors g) s) ≡ true) (sym e) r.1)

fixed_same : (objects objects' : List Object) → ((k : ℕ) → is_owned objects' k ≡ is_owned objects k) → (k : ℕ) → is_fixed objects' k ≡ is_fixed objects k
fixed_same objects objects' owned k = ap (λ b. (k == 1) || (k == 2) || (not b && not (k == 1) && not (k == 2))) (owned k)

all_from : (P : ℕ → Type 0) (xs : List ℕ) → ((s : ℕ) → is_among xs s ≡ true → P s) → All P xs
all_from P xs each = subst (All P) (all_kept xs) (all_filter (λ s. true) P xs (λ s i h. each s i))
  where
    all_kept : (ys : List ℕ) → filter (λ s. true) ys ≡ ys
    all_kept [] = refl
    all_kept (y ∷ ys) = ap (λ (zs : List ℕ). y ∷ zs) (all_kept ys)

pub then_law : ThenLaw
then_law first second third kind r v m₀ m m' new e layout one two =
    let objects = objects_of v.listings in
    let objects' = objects_of (with_map m v).listings in
    let o = open_by first kind r v m₀ new e layout in
    let o' = open_by second kind r (with_map m v) m new one.opens refl in
    let same_geometry : m.geometry ≡ m₀.geometry = o'.geometry_is ∙ sym o.geometry_is in
    let again = again_map m m' v in
    let fixed : (k : ℕ) → is_fixed objects k ≡ true → id_runs m k ≡ id_runs m₀ k = subst (λ (l : Layout). FixedStay l (Layout.New m) objects) layout one.fixed in
    let bytes : FixedBytesStay (Layout.New m₀) objects first second = subst (λ (l : Layout). FixedBytesStay l objects first second) layout one.fixed_bytes in
    let same_fixed = fixed_same objects objects' one.owned in
    record {
      opens = subst (OpensAs third kind) again two.opens;
      objects = ap (stored_objects third) (sym again) ∙ two.objects ∙ one.objects;
      tree = ap (λ (w : Opened). tree_of third w.layout w.listings) (sym again) ∙ two.tree ∙ one.tree;
      fixed = subst (λ (l : Layout). FixedStay l (Layout.New m') objects) (sym layout) (λ k h. two.fixed k (same_fixed k ∙ h) ∙ fixed k h);
      fixed_bytes = subst (λ (l : Layout). FixedBytesStay l objects first third) (sym layout)
          (all_from (λ s. sector_at m₀.geometry.sector third s ≡ sector_at m₀.geometry.sector first s) (fixed_sectors m₀ objects)
          (λ s i.
          subst (λ (g : Geometry). sector_at g.sector third s ≡ sector_at g.sector second s) same_geometry
          (all_at (λ s. sector_at m.geometry.sector third s ≡ sector_at m.geometry.sector second s) (fixed_sectors m objects') s two.fixed_bytes
          (fixed_sector_there m₀ m objects objects' same_geometry o.some fixed same_fixed s i))
          ∙ all_at (λ s. sector_at m₀.geometry.sector second s ≡ sector_at m₀.geometry.sector first s) (fixed_sectors m₀ objects) s bytes i));
      owned = λ k. ap (λ (w : Opened). is_owned (objects_of w.listings) k) (sym again) ∙ two.owned k ∙ one.owned k;
    }

pub boot_stays_law : BootStaysLaw
boot_stays_law image other r v m e layout len outside = boot_fits image other r r v m (open_by image (Boot r) r v m refl e layout) len outside
