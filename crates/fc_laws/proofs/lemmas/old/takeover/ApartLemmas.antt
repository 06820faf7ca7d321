-- The places of objects on a disc with an old map, and which sectors a command may write.
use Rattle.std.proofs.Common.{◌≡◌, ◌<◌, ◌⊎◌, inl, inr, ⊎_elim, ℕ, ◌*◌, ◌/◌, Bool, true, false, cond, List, [], ◌∷◌, ◌++◌, refl, sym, ap, subst, ◌∙◌, arith}
use Rattle.std.specs.Prelude.{Ok, Err, Option, Some, Contains, filter, not, ◌==◌, ◌||◌, ◌&&◌}
use Rattle.std.specs.List.{flat_map, range_with_len}
use Rattle.std.proofs.lemmas.Bool.{eqb-true, not-true as not_true}
use Rattle.std.proofs.lemmas.List.Sorted.{Contains-permutation}
use Rattle.fc_names.specs.Names.{is_directory}
use Rattle.fc_record.specs.declared.Kind.{Kind}
use Rattle.fc_newmap.proofs.PlaceLemmas.{in_either}
use Rattle.fc_dirs.specs.declared.Entry.{Entry}
use Rattle.fc_oldmap.specs.OldMap.{OldMapContent, map_units}
use Rattle.fc_model.specs.Command.{Command}
use Rattle.fc_image.specs.Layout.{Layout, dir_form, disc_sectors, hole_sectors, is_among, is_apart, map_place, sectors_at}
use Rattle.fc_image.specs.Report.{is_lost_sector}
use Rattle.fc_image.specs.Walk.{Listing, Object, is_directory_object, object_size}
use Rattle.fc_image.specs.Objects.{objects_of}
use Rattle.fc_image.specs.Opening.{Opened, reserved_in}
use Rattle.fc_image.specs.Stays.{OpensAs}
use Rattle.fc_image.specs.Edits.{Apart, IsAt}
use Rattle.fc_image.specs.Order.{directories, held, listed}
use Rattle.fc_image.proofs.EntriesLemmas.{in_mapped}
use Rattle.fc_image.proofs.HolesLemmas.{apart_at, apart_from}
use Rattle.fc_image.proofs.OldMapLemmas.{old_map_law}
use Rattle.fc_image.specs.effects.Steady.{lost_sectors, may_be_rewritten}
use Rattle.fc_changes.proofs.BasicLemmas.{cases_cons, clash, nothing_in}
use Rattle.fc_changes.proofs.PlacedLemmas.{filter_test, is_in_flat as among_flat}
use Rattle.fc_laws.proofs.lemmas.takeover.ApartLemmas.{apart_back}
use Rattle.fc_changes.specs.old.Owed.{IsBefore}
use Rattle.fc_changes.specs.old.Changed.{IsFileAt, IsFirstFitted}
use Rattle.fc_changes.proofs.lemmas.old.BeforeLemmas.{had, listed_in, object_lies, opened_as, parts}
use Rattle.fc_changes.proofs.lemmas.old.HoleLemmas.{below_end, units_in}
use Rattle.fc_changes.proofs.lemmas.old.MapLemmas.{IsOldDisc, old_disc}
use Rattle.fc_changes.proofs.lemmas.old.PlaceLemmas.{in_disc, pair_apart}
use Rattle.fc_changes.proofs.lemmas.old.SpaceLemmas.{new_place, spaced}
use Rattle.fc_laws.specs.old.takeover.Places.{AreSpared, IsOfRewritten, MayBeWritten, PlacesLaw}
use Rattle.fc_record.proofs.KindLemmas.{and_first, and_second}

-- ---- lists

passes : (t : ℕ → Bool) (xs : List ℕ) (s : ℕ) → is_among (filter t xs) s ≡ true → t s ≡ true
passes t [] s h = absurd (cc)
passes t (x ∷ xs) s h = by (t x) refl h (passes t xs s)
  where
    here : (c : Bool) → (x == s) ≡ c → t x ≡ true → (c || is_among (filter t xs) s) ≡ true → (is_among (filter t xs) s ≡ true → t s ≡ true) → t s ≡ true
    here true f e g more = subst (λ (n : ℕ). t n ≡ true) (eqb-true x s f) e
    here false f e g more = more g

    by : (b : Bool) → t x ≡ b → is_among (cond b (x ∷ filter t xs) (filter t xs)) s ≡ true → (is_among (filter t xs) s ≡ true → t s ≡ true) → t s ≡ true
    by true e g more = here (x == s) refl e g more
    by false e g more = more g

-- a sector is that of one object
one_owner : (taken : List ℕ) (os : List Object) (p q : Object) (s : ℕ) → Apart taken os → Contains os p → Contains os q → is_among p.sectors s ≡ true → is_among q.sectors s ≡ true → p ≡ q
one_owner taken [] p q s a p_in q_in p_has q_has = absurd (nothing_in p p_in)
one_owner taken (o ∷ os) p q s a p_in q_in p_has q_has = elim (cases_cons o os p p_in) [
  | inl p_is ↦ elim (cases_cons o os q q_in) [
    | inl q_is ↦ sym p_is ∙ q_is
    | inr q_later ↦ (let far = subst (λ (x : Object). is_apart q.sectors x.sectors ≡ true) p_is (pair_apart taken o os q a q_later) in
        absurd (clash (is_among p.sectors s) p_has (apart_at q.sectors p.sectors s far q_has)))
  ]
  | inr p_later ↦ elim (cases_cons o os q q_in) [
    | inl q_is ↦ (let far = subst (λ (x : Object). is_apart p.sectors x.sectors ≡ true) q_is (pair_apart taken o os p a p_later) in
        absurd (clash (is_among q.sectors s) q_has (apart_at p.sectors q.sectors s far p_has)))
    | inr q_later ↦ one_owner (o.sectors ++ taken) os p q s a.1 p_later q_later p_has q_has
  ]
]

pub in_sectors : (n u s : ℕ) → (u ≡ 1) ⊎ (u ≡ 4) → n ≡ n / u * u → u * s < n → s < n / u
in_sectors n u s (inl one) whole low = subst (λ (v : ℕ). n ≡ n / v * v → v * s < n → s < n / v) (sym one) (λ w l. omega (arith, l)) whole low
in_sectors n u s (inr four) whole low = subst (λ (v : ℕ). n ≡ n / v * v → v * s < n → s < n / v) (sym four) (λ w l. omega (arith, w, l)) whole low

-- no bytes take no sectors
pub no_bytes : (layout : Layout) (address : ℕ) (sectors : List ℕ) → sectors_at layout address 0 ≡ Some sectors → sectors ≡ []
unfolding sectors_at
no_bytes layout address sectors e = sym (same [] sectors e)
  where
    same : (a b : List ℕ) → (let q : Option (List ℕ) = Some a in q) ≡ Some b → a ≡ b
    same a b h = cc

-- ---- an opened image

module _ (kind : Kind) (image : List ℕ) (view : Opened) (space : OldMapContent) (e : IsBefore kind image view space) where
  abbrev ls : List Listing
  ls = view.listings

  abbrev y : Layout
  y = Layout.Old space

  abbrev old : Opened
  old = record { kind = kind; layout = y; listings = ls }

  abbrev reserved : List ℕ
  reserved = reserved_in kind y

  pub opens : OpensAs image kind old
  opens = subst (OpensAs image kind) (sym (opened_as kind image view y e.opens e.layout)) e.opens

  lies_apart : (o : Object) → Contains (objects_of ls) o → is_apart o.sectors reserved ≡ true
  lies_apart o at = (object_lies kind image y ls opens o at).apart

  pub listed' : (l : Listing) → Contains ls l → Contains (objects_of ls) l.object
  listed' l at = listed_in kind image y ls opens l at

  pub no_hole' : (o : Object) → Contains (objects_of ls) o → is_apart o.sectors (hole_sectors y) ≡ true
  no_hole' o at = apart_back o.sectors (map_place y) (hole_sectors y) (lies_apart o at)

  -- a listed directory is one
  is_listed : (l : Listing) → Contains ls l → is_directory_object l.object ≡ true
  is_listed l at =
      let before = had kind image y ls opens in
      elim (cases_cons before.root (directories (held ls)) l.object
      (Contains-permutation (listed ls) (before.root ∷ directories (held ls)) l.object before.all.all (in_mapped (λ (x : Listing). x.object) ls l at))) [
        | inl top ↦ ap (λ (x : Object). is_directory_object x) (sym top) ∙ ap (λ (x : Entry). is_directory x.attrs) before.is_root.entry
        | inr kept ↦ filter_test is_directory_object (held ls) l.object kept
      ]

  same_object : (p q : Object) (s : ℕ) → Contains (objects_of ls) p → Contains (objects_of ls) q → is_among p.sectors s ≡ true → is_among q.sectors s ≡ true → p ≡ q
  same_object p q s p_in q_in =
      let before = had kind image y ls opens in
      one_owner reserved (before.root ∷ held ls) p q s before.apart (subst (λ (os : List Object). Contains os p) before.objects p_in) (subst (λ (os : List Object). Contains os q) before.objects q_in)

  -- ---- the disc's end

  pub disc : IsOldDisc kind image space
  disc =
      let p = parts kind image y ls opens in
      old_disc kind image space p.address p.size p.found p.fits opens.kind_right

  hole_inside : (s : ℕ) → is_among (hole_sectors y) s ≡ true → s < disc_sectors y
  hole_inside s h =
      let facts = old_map_law image kind old space opens refl in
      in_sectors space.disc_units space.sector_units s disc.units disc.whole
      (below_end space.disc_units space.sector_units (map_units space.sector_units) space.holes (space.sector_units * s) facts.holes
      (units_in space.sector_units disc.units space.disc_units (map_units space.sector_units) space.holes s facts.holes h))

  object_inside : (o : Object) → Contains (objects_of ls) o → (s : ℕ) → is_among o.sectors s ≡ true → s < disc_sectors y
  object_inside o at s h =
      let r = in_disc space o.entry.address _ o.sectors s (object_lies kind image y ls opens o at).placed h in
      let inside = r.0.inside in let low = r.2 in omega (arith, inside, low)

  -- ---- new objects

  -- all its sectors lay in holes
  pub record IsFree (o : Object) : Type 0 where
    pub free : (s : ℕ) → is_among o.sectors s ≡ true → is_among (hole_sectors y) s ≡ true
    pub off_map : (s : ℕ) → is_among o.sectors s ≡ true → is_among (map_place y) s ≡ false

  pub fitted_free : (n : ℕ) (o : Object) → object_size (dir_form y) o.entry ≡ n → IsAt y o → IsFirstFitted space n o → IsFree o
  fitted_free n o size at fits =
      let p = new_place kind space (objects_of ls) (spaced kind image space ls opens) n o size at fits.1 in
      record { free = p.was_free; off_map = p.off_map }

  pub file_free : (n : ℕ) (o : Object) → object_size (dir_form y) o.entry ≡ n → IsAt y o → IsFileAt space n o → IsFree o
  file_free n o size at place = ⊎_elim (λ fits. fitted_free n o size at fits)
      (λ none.
      let empty = no_bytes y o.entry.address o.sectors (subst (λ (k : ℕ). sectors_at y o.entry.address k ≡ Some o.sectors) (size ∙ none.0) at) in
      record {
        free = λ s h. absurd (clash (is_among o.sectors s) h (ap (λ (xs : List ℕ). is_among xs s) empty));
        off_map = λ s h. absurd (clash (is_among o.sectors s) h (ap (λ (xs : List ℕ). is_among xs s) empty));
      }) place

  -- ---- what may be written

  module _ (c : Command) where
    pub directory' : (l : Listing) → Contains ls l → may_be_rewritten view c l.object.path ≡ true → MayBeWritten view space c l.object.sectors
    directory' l at may s h = inr (record { object = l.object; there = listed' l at; directory = is_listed l at; may = may; within = h })

    -- ---- what is spared

    by_object : (sectors : List ℕ) (o : Object) → MayBeWritten view space c sectors → Contains (objects_of ls) o → (s : ℕ) → is_among o.sectors s ≡ true → is_among sectors s ≡ true → IsOfRewritten view c s
    by_object sectors o may at s h i = ⊎_elim (λ hole. absurd (clash (is_among (hole_sectors y) s) hole (apart_at o.sectors (hole_sectors y) s (no_hole' o at) h))) (λ r. r) (may s i)

    spared' : (sectors : List ℕ) → MayBeWritten view space c sectors → AreSpared view space c sectors
    spared' sectors may = record {
      files = λ o at file. apart_from o.sectors sectors (λ s h i.
          let r = by_object sectors o may at s h i in
          let same = same_object o r.object s at r.there h r.within in
          clash (is_directory_object o) (ap (λ (x : Object). is_directory_object x) same ∙ r.directory) file);
      dirs = λ o at kept. apart_from o.sectors sectors (λ s h i.
          let r = by_object sectors o may at s h i in
          let same = same_object o r.object s at r.there h r.within in
          clash (may_be_rewritten view c o.path) (ap (λ (x : Object). may_be_rewritten view c x.path) same ∙ r.may) kept);
      lost = apart_from (lost_sectors space (objects_of ls)) sectors (λ s h i.
          let lost = passes (is_lost_sector y (objects_of ls)) (range_with_len 0 (disc_sectors y)) s h in
          let no_object = not_true (is_among (flat_map (λ (o : Object). o.sectors) (objects_of ls)) s)
          (and_second (not (is_among (hole_sectors y) s) && not (is_among (map_place y) s)) (not (is_among (flat_map (λ (o : Object). o.sectors) (objects_of ls)) s)) lost) in
          let no_hole = not_true (is_among (hole_sectors y) s) (and_first (not (is_among (hole_sectors y) s)) (not (is_among (map_place y) s))
          (and_first (not (is_among (hole_sectors y) s) && not (is_among (map_place y) s)) (not (is_among (flat_map (λ (o : Object). o.sectors) (objects_of ls)) s)) lost)) in
          ⊎_elim (λ hole. clash (is_among (hole_sectors y) s) hole no_hole)
          (λ r. clash (is_among (flat_map (λ (o : Object). o.sectors) (objects_of ls)) s) (among_flat (λ (o : Object). o.sectors) (objects_of ls) r.object s r.there r.within) no_object) (may s i));
      inside = λ s i. ⊎_elim (λ hole. hole_inside s hole) (λ r. object_inside r.object r.there s r.within) (may s i);
    }

pub places_law : PlacesLaw
places_law = record {
  none = λ view space c s h. absurd (cc);
  both = λ view space c xs ys a b s h. elim (in_either xs ys s h) [
    | Ok first ↦ a s first
    | Err second ↦ b s second
  ];
  within = λ view space c xs ys less a s h. a s (less s h);
  directory = λ kind image view space c l e at may. directory' kind image view space e c l at may;
  own = λ view space c o at may. own_written view space c o at may (is_directory_object o) refl;
  fitted = λ kind image view space c n o e size at fits s h. inl ((fitted_free kind image view space e n o size at fits).free s h);
  file = λ kind image view space c n o e size at place s h. inl ((file_free kind image view space e n o size at place).free s h);
  spared = λ kind image view space c sectors e may. spared' kind image view space e c sectors may;
}
  where
    own_written : (view : Opened) (space : OldMapContent) (c : Command) (o : Object) → Contains (objects_of view.listings) o → may_be_rewritten view c o.path ≡ true
        → (b : Bool) → is_directory_object o ≡ b → MayBeWritten view space c (cond b o.sectors [])
    own_written view space c o at may true e s h = inr (record { object = o; there = at; directory = e; may = may; within = h })
    own_written view space c o at may false e s h = absurd (cc)
