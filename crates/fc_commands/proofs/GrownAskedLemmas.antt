-- A command by which a directory grows: which directories it tells of that, by where the grown one lies.
use Rattle.std.proofs.Common.{◌≡◌, ◌⊎◌, inl, inr, ⊎_elim, ◌*◌, ◌==◌, ◌||◌, ◌&&◌, not, Bool, true, false, cond, List, [], ◌∷◌, refl, sym, ap, ap₂, subst, ◌∙◌, arith, eq-eqb, Option, Some, None}
use Rattle.std.specs.Prelude.{Contains}
use Rattle.std.specs.Option.{option_and_then, option_map_or}
use Rattle.std.proofs.lemmas.Bool.{eqb-true, false_from_ne_true as unless}
use Rattle.fc_names.specs.Names.{Path, is_same_path}
use Rattle.fc_record.specs.declared.Kind.{Kind}
use Rattle.fc_newmap.specs.Map.{Map, is_used}
use Rattle.fc_model.specs.Command.{Command}
use Rattle.fc_model.specs.Tree.{holder as holder_path}
use Rattle.fc_image.specs.Layout.{Layout, id_of}
use Rattle.fc_image.specs.Objects.{objects_of}
use Rattle.fc_image.specs.Opening.{Opened}
use Rattle.fc_image.specs.Sound.{AreSound}
use Rattle.fc_image.specs.Walk.{Listing, Object, is_directory_object}
use Rattle.fc_image.specs.effects.Short.{Growth, growth_in, has_room, is_alone, moved_growth}
use Rattle.fc_image.specs.effects.Steady.{has_grown, has_new_holder}
use Rattle.fc_image.proofs.PathsLemmas.{itself}
use Rattle.fc_changes.proofs.BasicLemmas.{clash, holder_pushed}
use Rattle.fc_laws.specs.nodes.Edits.{Nodes}
use Rattle.fc_tree.specs.Nodes.{HoldObjects}
use Rattle.fc_tree.proofs.MemberLemmas.{in_map, no_element}
use Rattle.fc_tree.proofs.WalkedLemmas.{child_path}
use Rattle.fc_edits.specs.Edit.{Amended}
use Rattle.fc_edits.specs.Growing.{Holder, Told}
use Rattle.fc_edits.specs.GrownPlaces.{IsGrownAt}
use Rattle.fc_edits.specs.NewPlaces.{Taking}
use Rattle.fc_edits.proofs.lemmas.NewSpaceLemmas.{new_id_unused}
use Rattle.fc_outcomes.specs.Growth.{Grows}
use Rattle.fc_change.specs.declared.spaces.GrownPlace.{GrownPlace}
use Rattle.fc_commands.proofs.GrownAroundLemmas.{IsCutAround, in_filtered, none_lies}
use Rattle.fc_commands.proofs.GrownSpaceLemmas.{growing_of}
use Rattle.fc_image.proofs.EntriesLemmas.{cases as contains_cases}

-- the image as it opens
abbrev pub view_with : Kind → Map → List Listing → Opened
view_with kind m listings = record { kind = kind; layout = Layout.New m; listings = listings }

module _ (kind : Kind) (m : Map) (listings : List Listing) (l : Listing) (p : GrownPlace) (c : Command) (growth : growth_in (view_with kind m listings) c ≡ Some (l.object, p.directory.len)) where
  abbrev room : Bool
  room = has_room (Layout.New m) (objects_of listings) (l.object, p.directory.len)

  moved_is : moved_growth (view_with kind m listings) c ≡ cond room None (Some (l.object, p.directory.len))
  moved_is = ap (option_and_then (λ (x : Growth). let q : Option Growth = cond (has_room (Layout.New m) (objects_of listings) x) None (Some x) in q)) growth

  -- by the room that it has
  new_holder_is : (dir : Path) → has_new_holder (view_with kind m listings) c dir ≡ cond room false (is_same_path (holder_path dir) l.object.path && not (is_alone (objects_of listings) l.object))
  new_holder_is dir =
      ap (λ (q : Option Growth). option_map_or (λ (x : Growth). is_same_path (holder_path dir) x.0.path && not (is_alone (objects_of listings) x.0)) q false) moved_is ∙ by room
    where
      by : (b : Bool) → option_map_or (λ (x : Growth). is_same_path (holder_path dir) x.0.path && not (is_alone (objects_of listings) x.0)) (cond b None (Some (l.object, p.directory.len))) false
          ≡ cond b false (is_same_path (holder_path dir) l.object.path && not (is_alone (objects_of listings) l.object))
      by true = refl
      by false = refl

  has_grown_is : (dir : Path) → has_grown (view_with kind m listings) c dir ≡ is_same_path (holder_path l.object.path) dir
  has_grown_is dir = ap (λ (q : Option Growth). option_map_or (λ (x : Growth). is_same_path (holder_path x.0.path) dir) q false) growth

  -- With its old address it has room or is alone, and with another neither.
  pub record IsKnownByRoom : Type 0 where
    pub there : (l.object.entry.address == p.directory.address) ≡ true → (has_room (Layout.New m) (objects_of listings) (l.object, p.directory.len) ≡ true) ⊎ (is_alone (objects_of listings) l.object ≡ true)
    pub elsewhere : (l.object.entry.address == p.directory.address) ≡ false
        → (has_room (Layout.New m) (objects_of listings) (l.object, p.directory.len) ≡ false) × (is_alone (objects_of listings) l.object ≡ false)

  abbrev stays : Bool
  stays = l.object.entry.address == p.directory.address

  module _ (known : IsKnownByRoom) where
    none_if : (dir : Path) (r a : Bool) → (r ≡ true) ⊎ (a ≡ true) → (let b : Bool = cond r false (is_same_path (holder_path dir) l.object.path && not a) in b) ≡ false
    none_if dir true a some = refl
    none_if dir false true some = both (is_same_path (holder_path dir) l.object.path)
      where
        both : (b : Bool) → (b && false) ≡ false
        both true = refl
        both false = refl
    none_if dir false false (inl some) = absurd (cc)
    none_if dir false false (inr some) = absurd (cc)

    and_true : (b : Bool) → (b && true) ≡ b
    and_true true = refl
    and_true false = refl

    -- With its old address it is told to none that lies in it,
    none_new : (dir : Path) → stays ≡ true → has_new_holder (view_with kind m listings) c dir ≡ false
    none_new dir e = new_holder_is dir ∙ none_if dir room (is_alone (objects_of listings) l.object) (known.there e)

    -- and with another to all.
    all_new : (dir : Path) → stays ≡ false → has_new_holder (view_with kind m listings) c dir ≡ is_same_path (holder_path dir) l.object.path
    all_new dir e =
        new_holder_is dir
        ∙ ap₂ (λ (r a : Bool). let b : Bool = cond r false (is_same_path (holder_path dir) l.object.path && not a) in b) (known.elsewhere e).0 (known.elsewhere e).1
        ∙ and_true (is_same_path (holder_path dir) l.object.path)

    module _ (nodes : Nodes) (sound : AreSound (Layout.New m) listings) (held : HoldObjects nodes listings) (listed : Contains listings l) (tops kids left : List Listing) (cut : IsCutAround listings l tops kids left) where
      or_true : (b : Bool) → (b || true) ≡ true
      or_true true = refl
      or_true false = refl

      pub told_above : (k : Listing) → Contains tops k → (has_grown (view_with kind m listings) c k.object.path || has_new_holder (view_with kind m listings) c k.object.path) ≡ true
      told_above k at = by cut.tops_are
        where
          by : ((l.object.path ≡ []) × (tops ≡ [])) ⊎ ((h : Listing) × (tops ≡ h ∷ []) × Contains listings h × Contains h.children l.object)
              → (has_grown (view_with kind m listings) c k.object.path || has_new_holder (view_with kind m listings) c k.object.path) ≡ true
          by (inl root) = absurd (no_element k (subst (λ (ks : List Listing). Contains ks k) root.1 at))
          by (inr (h, one, there, kid)) =
              ⊎_elim
              (λ is. ap (λ (b : Bool). b || has_new_holder (view_with kind m listings) c k.object.path)
              (has_grown_is k.object.path
              ∙ ap (λ (x : Path). is_same_path x k.object.path) (ap holder_path (child_path (Layout.New m) listings sound h l.object there kid) ∙ holder_pushed h.object.path l.object.entry.name)
              ∙ subst (λ (j : Listing). is_same_path h.object.path j.object.path ≡ true) is (itself h.object.path)))
              (λ none. absurd (no_element k none)) (contains_cases h k [] (subst (λ (ks : List Listing). Contains ks k) one at))

      pub told_within : (k : Listing) → Contains kids k → stays ≡ false → (has_grown (view_with kind m listings) c k.object.path || has_new_holder (view_with kind m listings) c k.object.path) ≡ true
      told_within k at e =
          let child : Contains l.children k.object =
          in_filtered is_directory_object l.children k.object (subst (λ (os : List Object). Contains os k.object) cut.kids_are (in_map (λ (j : Listing). j.object) kids k at)) in
          ap (λ (b : Bool). has_grown (view_with kind m listings) c k.object.path || b)
          (all_new k.object.path e
          ∙ ap (λ (x : Path). is_same_path x l.object.path) (ap holder_path (child_path (Layout.New m) listings sound l k.object listed child) ∙ holder_pushed l.object.path k.object.entry.name) ∙ itself l.object.path)
          ∙ or_true (has_grown (view_with kind m listings) c k.object.path)

      left_same : (k : Listing) → Contains left k → has_new_holder (view_with kind m listings) c k.object.path ≡ false
      left_same k at = by stays refl
        where
          by : (b : Bool) → stays ≡ b → has_new_holder (view_with kind m listings) c k.object.path ≡ false
          by true e = none_new k.object.path e
          by false e =
              all_new k.object.path e
              ∙ unless (is_same_path (holder_path k.object.path) l.object.path) (λ lies_in. none_lies (Layout.New m) listings nodes sound held l listed tops kids left cut k at lies_in)

      -- The command makes it grow.
      pub grows_by : (again : List Told) (same : List Listing) (holder : Option Holder) (others : List Amended) → ((t : Told) → Contains again t → Contains tops t.was ⊎ ((stays ≡ false) × Contains kids t.was))
          → ((k : Listing) → Contains same k → ((stays ≡ true) × Contains kids k) ⊎ Contains left k) → Grows (view_with kind m listings) c (growing_of l.object p again same holder others)
      grows_by again same holder others told_by kept_by = record {
        growth = growth;
        told = λ t at. ⊎_elim (λ top. told_above t.was top) (λ kid. told_within t.was kid.1 kid.0) (told_by t at);
        kept = λ k at. ⊎_elim (λ kid. none_new k.object.path kid.0) (λ other. left_same k other) (kept_by k at);
      }

  -- ---- as it is placed outside the safe mode

  module _ (again : List Told) (same : List Listing) (holder : Option Holder) (others : List Amended) (before own : List Taking)
      (lies : IsGrownAt m (objects_of listings) before (growing_of l.object p again same holder others) own) (used : is_used m (id_of l.object.entry.address) ≡ true) where
    same_address : p.directory.address ≡ l.object.entry.address → stays ≡ true
    same_address e = eq-eqb l.object.entry.address p.directory.address (sym e)

    pub known_by_lies : IsKnownByRoom
    known_by_lies = record { there = λ e. there e lies; elsewhere = λ e. elsewhere e lies }
      where
        there : stays ≡ true → IsGrownAt m (objects_of listings) before (growing_of l.object p again same holder others) own → (room ≡ true) ⊎ (is_alone (objects_of listings) l.object ≡ true)
        there e (inl at) = inl at.room
        there e (inr (t, one, takes, inl alone)) = inr alone.alone
        there e (inr (t, one, takes, inr other)) =
            let id : id_of l.object.entry.address ≡ t.id = ap id_of (eqb-true l.object.entry.address p.directory.address e ∙ other.address) ∙ (let z : id_of (256 * t.id) ≡ t.id = omega arith in z) in
            absurd (clash (is_used m (id_of l.object.entry.address)) used (ap (is_used m) id ∙ new_id_unused m t.id other.is_new))

        elsewhere : stays ≡ false → IsGrownAt m (objects_of listings) before (growing_of l.object p again same holder others) own → (room ≡ false) × (is_alone (objects_of listings) l.object ≡ false)
        elsewhere e (inl at) = absurd (clash stays (same_address at.address) e)
        elsewhere e (inr (t, one, takes, inl alone)) = absurd (clash stays (same_address alone.address) e)
        elsewhere e (inr (t, one, takes, inr other)) = (takes.no_room, other.not_alone)

    module _ (nodes : Nodes) (sound : AreSound (Layout.New m) listings) (held : HoldObjects nodes listings) (listed : Contains listings l) (tops kids left : List Listing) (cut : IsCutAround listings l tops kids left) where
      pub top_told : (k : Listing) → Contains tops k → (has_grown (view_with kind m listings) c k.object.path || has_new_holder (view_with kind m listings) c k.object.path) ≡ true
      top_told k at = told_above known_by_lies nodes sound held listed tops kids left cut k at

      pub kid_told : (k : Listing) → Contains kids k → stays ≡ false → (has_grown (view_with kind m listings) c k.object.path || has_new_holder (view_with kind m listings) c k.object.path) ≡ true
      kid_told k at e = told_within known_by_lies nodes sound held listed tops kids left cut k at e

      pub grows : ((t : Told) → Contains again t → Contains tops t.was ⊎ ((stays ≡ false) × Contains kids t.was)) → ((k : Listing) → Contains same k → ((stays ≡ true) × Contains kids k) ⊎ Contains left k)
          → Grows (view_with kind m listings) c (growing_of l.object p again same holder others)
      grows told_by kept_by = grows_by known_by_lies nodes sound held listed tops kids left cut again same holder others told_by kept_by
