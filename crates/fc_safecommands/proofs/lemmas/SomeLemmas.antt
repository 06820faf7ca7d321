-- A directory that grows has some sectors before it, and some bytes after it.
use Rattle.std.proofs.Common.{◌≡◌, ◌<◌, ◌==◌, ℕ, Bool, true, false, cond, refl, sym, ap, ap₂, subst, ◌∙◌, arith, Option, Some, None}
use Rattle.std.specs.Prelude.{Contains, map, nat_lt, not}
use Rattle.std.specs.Option.{option_and_then, option_map_or}
use Rattle.std.proofs.lemmas.Bool.{and_parts, ltb-true}
use Rattle.fc_names.specs.declared.name.NameForm.{NameForm}
use Rattle.fc_names.specs.declared.name.NameForm.TheVariants as forms
use Rattle.fc_newmap.specs.Map.{Map}
use Rattle.fc_model.specs.Command.{Command}
use Rattle.fc_dirs.specs.Big.{needed_size}
use Rattle.fc_dirs.specs.Directory.{Directory, directory_size}
use Rattle.fc_image.specs.Layout.{Layout, dir_form}
use Rattle.fc_image.specs.Opening.{Opened}
use Rattle.fc_image.specs.Objects.{has_sectors, objects_of}
use Rattle.fc_image.specs.Sound.{AreSound}
use Rattle.fc_image.specs.Walk.{Listing, Object, is_directory_object, object_size}
use Rattle.fc_image.specs.effects.Short.{Gain, Growth as Grown, gain_in, growth_in, growth_of, growth_with}
use Rattle.fc_image.specs.safe.SafeShort.{is_suitable, suits}
use Rattle.fc_changes.proofs.ChangeLemmas.{a_sector}
use Rattle.fc_changes.proofs.NewPlaceLemmas.{some_there as some_listed}
use Rattle.fc_laws.proofs.lemmas.agree.BeforeLemmas.{new_shape}
use Rattle.fc_tree.specs.declared.node.Node.{Node}
use Rattle.fc_tree.specs.Nodes.{number_of}
use Rattle.fc_tree.specs.Parts.{Parts}
use Rattle.fc_tree.proofs.WalkedLemmas.{listed_directory}
use Rattle.fc_change.specs.Needs.{len_at}
use Rattle.fc_commands.proofs.NodeLemmas.{each_at}
use Rattle.fc_commands.proofs.NodeLemmas as its
use Rattle.fc_safe.specs.Views.{IsViewOf}

-- ---- bytes

grown_more : (x o : Object) (content : Directory) (gain : Gain) (size : ℕ) → growth_with x content gain ≡ Some (o, size) → 0 < size
grown_more x o (Directory.Small dir) gain size grows = absurd (cc)
grown_more x o (Directory.Big dir) gain size grows = by (nat_lt dir.size needed) refl grows
  where
    needed : ℕ
    needed = needed_size dir gain.names gain.name

    by : (b : Bool) → nat_lt dir.size needed ≡ b → (let q : Option Grown = cond b (Some (x, needed)) None in q) ≡ Some (o, size) → 0 < size
    by true less is = (let low = ltb-true dir.size needed less in let same : needed ≡ size = ap (λ (q : Option Grown). option_map_or (λ (g : Grown). g.1) q 0) is in omega (arith, low, same))
    by false less is = absurd (cc)

-- It becomes larger, and so has some bytes.
pub grows_more : (v : Opened) (c : Command) (o : Object) (size : ℕ) → growth_in v c ≡ Some (o, size) → 0 < size
grows_more v c o size grows = by (gain_in v c) grows
  where
    by : (q : Option Gain) → option_and_then growth_of q ≡ Some (o, size) → 0 < size
    by None is = absurd (cc)
    by (Some gain) is = grown_more gain.listing.object o gain.listing.content gain size is

-- ---- sectors

-- Directories are big in a volume that suits.
pub long_form : (m : Map) (v : Opened) → v.layout ≡ Layout.New m → is_suitable v ≡ true → dir_form (Layout.New m) ≡ forms.Long
long_form m v at suit =
    let suited = ap (λ (l : Layout). suits l (map (λ (o : Object). o.entry) (objects_of v.listings))) (sym at) ∙ suit in
    by (m.geometry.version == 0) (and_parts (not (m.geometry.version == 0)) _ suited).0
  where
    by : (b : Bool) → not b ≡ true → (let f : NameForm = cond b forms.Ten forms.Long in f) ≡ forms.Long
    by true e = absurd (cc)
    by false e = refl

module _ (m : Map) (h : Parts) (v : Opened) (view : IsViewOf m h v) (suit : is_suitable v ≡ true) (l : Listing) (listed : Contains v.listings l) (n : ℕ) (number : number_of h.nodes l.object.path ≡ Some n) where
  there : Contains (objects_of v.listings) l.object × (is_directory_object l.object ≡ true)
  there = listed_directory v.layout v.listings view.sound l listed

  size_is : object_size (dir_form (Layout.New m)) l.object.entry ≡ len_at h.nodes n
  size_is =
      ap₂ (λ (b : Bool) (f : NameForm). cond b (directory_size f l.object.entry.len) l.object.entry.len) there.1 (long_form m v view.layout suit)
      ∙ sym (ap (λ (x : Option Node). option_map_or (λ (k : Node). k.entry.len) x 0) (its.there h.nodes v.layout v.listings view.sound view.parts.nodes l listed n number))

  -- With some bytes it has some sectors.
  pub has_some : 0 < len_at h.nodes n → has_sectors l.object ≡ true
  has_some some =
      let sound = subst (λ (y : Layout). AreSound y v.listings) view.layout view.sound in
      let s = a_sector m l.object.entry.address (object_size (dir_form (Layout.New m)) l.object.entry) l.object.sectors (subst (λ (k : ℕ). 0 < k) (sym size_is) some) (new_shape m view.is_map).some
      (each_at (Layout.New m) v.listings sound l.object there.0) in
      some_listed l.object.sectors s.0 s.1
