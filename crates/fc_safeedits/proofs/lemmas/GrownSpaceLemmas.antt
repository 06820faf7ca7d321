-- The identifiers and the map's record after a directory has grown, in the safe mode.
use Rattle.std.proofs.Common.{◌≡◌, ◌<◌, ◌⊎◌, inl, inr, ℕ, suc, Bool, true, false, cond, List, [], ◌∷◌, length, refl, sym, ap, subst, ◌∙◌, Option, None, Some}
use Rattle.std.specs.Prelude.{IfSome, IsSomeAnd, is_some, ◌==◌}
use Rattle.std.specs.Option.{option_and_then, option_map_or}
use Rattle.std.proofs.lemmas.Bool.{eqb-true}
use Rattle.fc_names.specs.Names.{Path}
use Rattle.fc_newmap.specs.Map.{Map, sector_of, with_root}
use Rattle.fc_model.specs.Command.{Command}
use Rattle.fc_dirs.specs.declared.Entry.{Entry}
use Rattle.fc_image.specs.Layout.{Layout, id_of, low_of}
use Rattle.fc_image.specs.Walk.{Object}
use Rattle.fc_image.specs.Objects.{object_at, objects_of}
use Rattle.fc_image.specs.Opening.{Opened}
use Rattle.fc_image.specs.effects.Short.{Growth, growth_in, has_room, is_alone}
use Rattle.fc_image.specs.effects.Steady.{ZoneSteady, expected_zone, zone0_after}
use Rattle.fc_image.specs.safe.SafeShort.{new_id_growth}
use Rattle.fc_image.specs.safe.SafeSteady.{GrownAddress, SafeGrown, grown_id, id_list}
use Rattle.fc_edits.specs.Growing.{Growing, at_place}
use Rattle.fc_outcomes.specs.NewImage.{rooted_zone}
use Rattle.fc_safeedits.specs.SafeChange.{MovedParts, SafeChange, view_before}
use Rattle.fc_safeedits.specs.SafeGrowth.{GrowsAnew, GrowsAway, GrowsInside, IsGrownSafely, its_new_id, zone_with}

no_length : (p : Path) → (length p == 0) ≡ true → p ≡ []
no_length [] e = refl
no_length (name ∷ p) e = absurd (let none : suc (length p) ≡ 0 = eqb-true (suc (length p)) 0 e in cc)

-- the grown directory afterwards is `now`
module _ (x : MovedParts) (c : Command) (g : Growing) (growth : growth_in (view_before x) c ≡ Some (g.o, g.len)) (lies : IsGrownSafely x g) (w : Opened) (now : Object)
    (there : object_at w.listings g.o.path ≡ Some now) (entry : now.entry ≡ (at_place g g.o).entry) where
  abbrev v : Opened
  v = view_before x

  -- whether it leaves its identifier, by its room and its neighbours
  abbrev leaves : Bool → Bool → Option Growth
  leaves room alone = cond room None (cond alone None (Some (g.o, g.len)))

  leaves_is : new_id_growth v c ≡ leaves (has_room (Layout.New x.m) (objects_of x.listings) (g.o, g.len)) (is_alone (objects_of x.listings) g.o)
  leaves_is =
      ap
      (λ (q : Option Growth).
      option_and_then (λ (p : Growth). cond (is_alone (objects_of x.listings) p.0) None (Some p)) (option_and_then (λ (p : Growth). cond (has_room (Layout.New x.m) (objects_of x.listings) p) None (Some p)) q))
      growth ∙ by (has_room (Layout.New x.m) (objects_of x.listings) (g.o, g.len))
    where
      by : (b : Bool)
          → option_and_then (λ (p : Growth). cond (is_alone (objects_of x.listings) p.0) None (Some p)) (cond b None (Some (g.o, g.len))) ≡ leaves b (is_alone (objects_of x.listings) g.o)
      by true = refl
      by false = refl

  inside_none : GrowsInside x g → new_id_growth v c ≡ None
  inside_none i = leaves_is ∙ ap (λ (b : Bool). leaves b (is_alone (objects_of x.listings) g.o)) i.room

  anew_none : GrowsAnew x g → new_id_growth v c ≡ None
  anew_none a = leaves_is ∙ ap (λ (b : Bool). leaves b (is_alone (objects_of x.listings) g.o)) a.no_room ∙ ap (leaves false) a.alone

  away_some : GrowsAway x g → new_id_growth v c ≡ Some (g.o, g.len)
  away_some a = leaves_is ∙ ap (λ (b : Bool). leaves b (is_alone (objects_of x.listings) g.o)) a.no_room ∙ ap (leaves false) a.not_alone

  abbrev was_id : Option Growth → List ℕ
  was_id q = option_map_or (λ (p : Growth). id_list (object_at w.listings p.0.path)) q []

  abbrev is_id : Option Growth → List ℕ
  is_id q = option_map_or (λ (p : Growth). id_of g.address ∷ []) q []

  pub ids_same : grown_id v w c ≡ its_new_id v c g
  ids_same = by lies
    where
      stays : new_id_growth v c ≡ None → was_id (new_id_growth v c) ≡ is_id (new_id_growth v c)
      stays none = ap was_id none ∙ sym (ap is_id none)

      by : GrowsInside x g ⊎ GrowsAnew x g ⊎ GrowsAway x g → was_id (new_id_growth v c) ≡ is_id (new_id_growth v c)
      by (inl i) = stays (inside_none i)
      by (inr (inl a)) = stays (anew_none a)
      by (inr (inr a)) = ap was_id (away_some a) ∙ ap id_list there ∙ ap (λ (z : Entry). id_of z.address ∷ []) entry ∙ sym (ap is_id (away_some a))

  pub grown_safely : SafeGrown v w c
  grown_safely =
      subst (λ (q : Option Growth). IfSome q (λ (p : Growth). IsSomeAnd (object_at w.listings p.0.path) (λ (o : Object). (o.entry.len ≡ p.1) × GrownAddress (is_some (new_id_growth v c)) p.0 o))) (sym growth)
      (subst (λ (q : Option Object). IsSomeAnd q (λ (o : Object). (o.entry.len ≡ g.len) × GrownAddress (is_some (new_id_growth v c)) g.o o)) (sym there)
      (ap (λ (z : Entry). z.len) entry, by lies))
    where
      stays : new_id_growth v c ≡ None → g.address ≡ g.o.entry.address → GrownAddress (is_some (new_id_growth v c)) g.o now
      stays none address = subst (λ (q : Option Growth). GrownAddress (is_some q) g.o now) (sym none) (ap (λ (z : Entry). z.address) entry ∙ address)

      by : GrowsInside x g ⊎ GrowsAnew x g ⊎ GrowsAway x g → GrownAddress (is_some (new_id_growth v c)) g.o now
      by (inl i) = stays (inside_none i) i.address
      by (inr (inl a)) = stays (anew_none a) a.address
      by (inr (inr a)) = subst (λ (q : Option Growth). GrownAddress (is_some q) g.o now) (sym (away_some a)) (ap (λ (z : Entry). low_of z.address) entry ∙ a.begins)

-- the root's place in the record is the one that it has then
module _ (x : SafeChange) (c : Command) (g : Growing) (growth : growth_in (view_before x.parts) c ≡ Some (g.o, g.len)) (w : Opened) (now : Object)
    (there : object_at w.listings g.o.path ≡ Some now) (entry : now.entry ≡ (at_place g g.o).entry) where
  abbrev m : Map
  m = x.parts.m

  abbrev first : List ℕ
  first = sector_of m 0

  abbrev with_it : Option Object → List ℕ
  with_it q = option_map_or (λ (o : Object). with_root first o.entry.address o.entry.len) q first

  zone_is : (z : ℕ) → expected_zone (view_before x.parts) w c m z ≡ zone_with m g z
  zone_is z = ap (λ (q : Option Growth). cond (z == 0) (zone0_after w q first) (sector_of m z)) growth ∙ by (length g.o.path == 0) refl
    where
      other : (b : Bool) → (z == 0) ≡ b → cond b first (sector_of m z) ≡ sector_of m z
      other true e = ap (λ (k : ℕ). sector_of m k) (sym (eqb-true z 0 e))
      other false e = refl

      by : (b : Bool) → (length g.o.path == 0) ≡ b → cond (z == 0) (cond b (with_it (object_at w.listings [])) first) (sector_of m z) ≡ cond b (rooted_zone m g.address g.len z) (sector_of m z)
      by true e =
          ap (λ (q : Option Object). cond (z == 0) (with_it q) (sector_of m z)) (ap (object_at w.listings) (sym (no_length g.o.path e)) ∙ there)
          ∙ ap (λ (n : Entry). cond (z == 0) (with_root first n.address n.len) (sector_of m z)) entry
      by false e = other (z == 0) refl

  pub zones_grown : ((z : ℕ) → z < m.geometry.zones → ZoneSteady m.geometry z (zone_with m g z) (sector_of x.parts.m' z))
      → (z : ℕ) → z < m.geometry.zones → ZoneSteady m.geometry z (expected_zone (view_before x.parts) w c m z) (sector_of x.parts.m' z)
  zones_grown steady z low = subst (λ (sector : List ℕ). ZoneSteady m.geometry z sector (sector_of x.parts.m' z)) (sym (zone_is z)) (steady z low)
