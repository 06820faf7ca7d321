-- Commands that keep the tree take no space and give none back in the safe mode: it never refuses them.
use Rattle.std.proofs.Common.{◌≡◌, ℕ, ◌==◌, ◌&&◌, ◌||◌, Bool, true, false, not, cond, List, [], ◌∷◌, ◌++◌, Option, Some, None, length, filter, refl, ap, ap₂, ◌∙◌, map}
use Rattle.std.specs.Prelude.{if◌then◌else◌}
use Rattle.std.specs.List.{flat_map, list_any, range_with_len}
use Rattle.std.specs.Option.{option_map, option_map_or, option_and_then}
use Rattle.fc_names.specs.Names.{Path, is_same_path}
use Rattle.fc_names.specs.declared.refusal.Refusal.{Refusal}
use Rattle.fc_newmap.specs.Map.{Map, ZoneRun, hole_runs, id_runs, zone_numbers}
use Rattle.fc_record.specs.Record.{id_limit}
use Rattle.fc_model.specs.Command.{Command}
use Rattle.fc_image.specs.Layout.{Layout}
use Rattle.fc_image.specs.Walk.{Object, is_directory_object}
use Rattle.fc_image.specs.Objects.{is_owner_of, objects_of}
use Rattle.fc_image.specs.Opening.{Opened}
use Rattle.fc_image.specs.effects.Short.{Growth, growth_in, has_room, is_alone, object_units, short}
use Rattle.fc_image.specs.effects.Sharing.{units}
use Rattle.fc_image.specs.effects.Steady.{is_gone, may_be_rewritten}
use Rattle.fc_image.specs.safe.SafeShort.{SafeRefusal, changed_ids, changed_zones, copies_away, early_refusal, fit_refusal, fitted, fitted_needs, holds_changed, if_some_bits, is_given_up, is_replaced, last_end, leaves_id, loses_owner, needs, new_id_growth, places_given_up, remains_in, root_grows, safe_or, safe_short, spread_or, takes_slack}
use Rattle.fc_runs.specs.Run.{keeps_tree, safe_line, shortage}

-- ---- lists of which none passes

any_none : {X : Type 0} (p : X → Bool) (xs : List X) → ((x : X) → p x ≡ false) → list_any p xs ≡ false
any_none p [] none = refl
any_none p (x ∷ xs) none = ap₂ (λ (a b : Bool). a || b) (none x) (any_none p xs none)

any_same : {X : Type 0} (p q : X → Bool) (xs : List X) → ((x : X) → p x ≡ q x) → list_any p xs ≡ list_any q xs
any_same p q [] same = refl
any_same p q (x ∷ xs) same = ap₂ (λ (a b : Bool). a || b) (same x) (any_same p q xs same)

filter_none : {X : Type 0} (p : X → Bool) (xs : List X) → ((x : X) → p x ≡ false) → filter p xs ≡ []
filter_none p [] none = refl
filter_none p (x ∷ xs) none = ap₂ (λ (a : Bool) (l : List _). cond a (x ∷ l) l) (none x) (filter_none p xs none)

flat_none : (f : ℕ → List ZoneRun) (xs : List ℕ) → ((x : ℕ) → f x ≡ []) → flat_map f xs ≡ []
flat_none f [] none = refl
flat_none f (x ∷ xs) none = ap₂ (λ (a b : List ZoneRun). a ++ b) (none x) (flat_none f xs none)

-- ---- a command that names nothing that it would write, take or give back

module _ (m : Map) (v : Opened) (c : Command) (writes : (path : Path) → may_be_rewritten v c path ≡ false) (replaces : (path : Path) → is_replaced v c path ≡ false)
    (copies : (path : Path) → copies_away v c path ≡ false) (grows : growth_in v c ≡ None) (makes : object_units m v c ≡ 0) (enough : short v c ≡ None) where
  no_new : new_id_growth v c ≡ None
  no_new = ap (λ (g : Option Growth). option_and_then (λ (growth : Growth). if is_alone (objects_of v.listings) growth.0 then None else Some growth)
      (option_and_then (λ (growth : Growth). if has_room v.layout (objects_of v.listings) growth then None else Some growth) g)) grows

  stays : (path : Path) → leaves_id v c path ≡ false
  stays path = ap (λ (g : Option Growth). option_map_or (λ (growth : Growth). is_same_path growth.0.path path) g false) no_new

  remains : (id : ℕ) (o : Object) → remains_in v c id o ≡ is_owner_of id o
  remains id o =
      ap₂ (λ (a b : Bool). is_owner_of id o && not a && not b && not (leaves_id v c o.path)) (replaces o.path) (copies o.path)
      ∙ ap (λ (b : Bool). is_owner_of id o && not false && not false && not b) (stays o.path) ∙ by (is_owner_of id o)
    where
      by : (b : Bool) → (b && not false && not false && not false) ≡ b
      by true = refl
      by false = refl

  holds : (id : ℕ) → holds_changed v c id ≡ false
  holds id = any_none _ (objects_of v.listings) (λ o.
      ap (λ (b : Bool). (is_directory_object o && b && not (is_gone c o.path)) && remains_in v c id o) (writes o.path) ∙ by (is_directory_object o) (not (is_gone c o.path)) (remains_in v c id o))
    where
      by : (a x r : Bool) → ((a && false && x) && r) ≡ false
      by true x r = refl
      by false x r = refl

  loses : (id : ℕ) → loses_owner v c id ≡ false
  loses id =
      ap (λ (b : Bool). list_any (is_owner_of id) (objects_of v.listings) && not b && not (takes_slack v c id)) (any_same (remains_in v c id) (is_owner_of id) (objects_of v.listings) (remains id))
      ∙ by (list_any (is_owner_of id) (objects_of v.listings)) (not (takes_slack v c id))
    where
      by : (b s : Bool) → (b && not b && s) ≡ false
      by true s = refl
      by false s = refl

  given_up : (id : ℕ) → is_given_up m v c id ≡ false
  given_up id = ap₂ (λ (a b : Bool). a || b) (holds id) (loses id)

  no_places : places_given_up m v c ≡ []
  no_places = flat_none _ (range_with_len 3 _) (λ id. ap (λ (b : Bool). if b then id_runs m id else []) (given_up id))

  no_root : root_grows v c ≡ false
  no_root = ap (λ (g : Option Growth). option_map_or (λ (growth : Growth). length growth.0.path == 0) g false) grows

  no_zones : changed_zones m v c [] ≡ 0
  no_zones = ap length (filter_none _ (zone_numbers m.geometry) (λ z.
      ap₂ (λ (runs : List ZoneRun) (b : Bool). list_any (λ (p : ZoneRun). p.0 == z) runs || ((z == 0) && b)) no_places no_root ∙ by (z == 0)))
    where
      by : (b : Bool) → (false || (b && false)) ≡ false
      by true = refl
      by false = refl

  no_ids : changed_ids m v c ≡ []
  no_ids = filter_none (holds_changed v c) (range_with_len 0 (id_limit m.geometry)) holds

  no_needs : needs m v c ≡ []
  no_needs =
      ap₂ (λ (a : ℕ) (ids : List ℕ). if_some_bits a ++ map (λ (id : ℕ). units m.geometry (last_end m v c id)) ids ++ option_map_or (λ (growth : Growth). units m.geometry growth.1 ∷ []) (new_id_growth v c) []) makes no_ids
      ∙ ap (λ (g : Option Growth). option_map_or (λ (growth : Growth). units m.geometry growth.1 ∷ []) g []) no_new

  fits : fitted_needs m v c ≡ Some []
  unfolding fitted
  fits = ap (λ (ns : List ℕ). fitted m ns (hole_runs m)) no_needs

  pub safe_enough : safe_short m v c ≡ None
  unfolding safe_short
  safe_enough = ap₂ (λ (a : Option Refusal) (parts : Option (List (List ZoneRun))). safe_or (early_refusal a) (fit_refusal m v c parts)) enough fits ∙ ap spread_or no_zones

-- ---- commands that keep the tree

by_layout : (layout : Layout) (v : Opened) (c : Command) → short v c ≡ None → keeps_tree c ≡ true → ((m : Map) → layout ≡ Layout.New m → safe_short m v c ≡ None)
by_layout layout v (Command.Cat path) enough keeps m is = safe_enough m v (Command.Cat path) (λ p. refl) (λ p. refl) (λ p. refl) refl refl enough
by_layout layout v (Command.Load path) enough keeps m is = safe_enough m v (Command.Load path) (λ p. refl) (λ p. refl) (λ p. refl) refl refl enough
by_layout layout v (Command.Digest path) enough keeps m is = safe_enough m v (Command.Digest path) (λ p. refl) (λ p. refl) (λ p. refl) refl refl enough
by_layout layout v Command.Free enough keeps m is = safe_enough m v Command.Free (λ p. refl) (λ p. refl) (λ p. refl) refl refl enough
by_layout layout v Command.Check enough keeps m is = safe_enough m v Command.Check (λ p. refl) (λ p. refl) (λ p. refl) refl refl enough
by_layout layout v Command.Compact enough keeps m is = safe_enough m v Command.Compact (λ p. refl) (λ p. refl) (λ p. refl) refl refl enough
by_layout layout v Command.Reclaim enough keeps m is = safe_enough m v Command.Reclaim (λ p. refl) (λ p. refl) (λ p. refl) refl refl enough
by_layout layout v (Command.Save path load exec bytes) enough keeps m is = absurd (cc)
by_layout layout v (Command.Create path load exec len) enough keeps m is = absurd (cc)
by_layout layout v (Command.Cdir path) enough keeps m is = absurd (cc)
by_layout layout v (Command.Delete path) enough keeps m is = absurd (cc)
by_layout layout v (Command.Rename from to) enough keeps m is = absurd (cc)
by_layout layout v (Command.Set path load exec access) enough keeps m is = absurd (cc)
by_layout layout v (Command.Mark path attrs) enough keeps m is = absurd (cc)

-- The safe mode refuses none of them that isn't refused outside of it.
pub keeping_enough : (v : Opened) (c : Command) → short v c ≡ None → keeps_tree c ≡ true → shortage true v c ≡ None
keeping_enough v c enough keeps = ap (option_map safe_line) (by v.layout (by_layout v.layout v c enough keeps))
  where
    refused : Layout → Option SafeRefusal
    refused (Layout.Old space) = None
    refused (Layout.New m) = safe_short m v c

    by : (layout : Layout) → ((m : Map) → layout ≡ Layout.New m → safe_short m v c ≡ None) → refused layout ≡ None
    by (Layout.Old space) none = refl
    by (Layout.New m) none = none m refl
