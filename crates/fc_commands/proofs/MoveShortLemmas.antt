-- Room for the new name of `rename`, and why it is refused for want of space.
use Rattle.std.proofs.Common.{◌≡◌, ◌+◌, ◌*◌, ◌&&◌, inl, inr, ℕ, Bool, true, false, cond, List, [], ◌∷◌, ◌++◌, filter, length, map, not, refl, sym, ap, ap₂, subst, ◌∙◌, Option, Some, None, eq-eqb}
use Rattle.std.specs.Prelude.{if◌then◌else◌, is_none, nat_lt}
use Rattle.std.specs.Option.{option_and_then, option_map, option_map_or}
use Rattle.std.specs.Str.{bytes_eq}
use Rattle.std.proofs.lemmas.Bool.{cases_eq, ne_eqb, false_from_ne_true as unless}
use Rattle.std.proofs.lemmas.Slice.Eq.{bytes_eq-Decides}
use Rattle.fc_names.specs.declared.refusal.Refusal.TheVariants as refusals
use Rattle.fc_names.specs.Names.{Path, is_same_name, is_same_path}
use Rattle.fc_alloc.specs.declared.owner.Owner.{Owner}
use Rattle.fc_newmap.specs.Map.{Map, bits_in, hole_runs}
use Rattle.fc_oldmap.specs.Holes.{first_fit_place, hole_limit, hole_sum}
use Rattle.fc_oldmap.specs.OldMap.{OldMapContent}
use Rattle.fc_model.specs.Answer.{first_of, when}
use Rattle.fc_model.specs.Command.{Command}
use Rattle.fc_model.specs.Tree.{holder, last_name}
use Rattle.fc_dirs.specs.declared.Entry.{Entry}
use Rattle.fc_dirs.specs.Directory.{entries_of}
use Rattle.fc_drafts.specs.Gains.{GetsName, GetsNameFor, HasRoom}
use Rattle.fc_drafts.specs.declared.room.Room.{Room}
use Rattle.fc_drafts.specs.declared.room.Room.TheVariants as rooms
use Rattle.fc_image.specs.Layout.{Layout}
use Rattle.fc_image.specs.Objects.{listing_at, object_at, objects_of}
use Rattle.fc_image.specs.Opening.{Opened}
use Rattle.fc_image.specs.Sound.{AreSound}
use Rattle.fc_image.specs.Walk.{Listing, Object, is_directory_object}
use Rattle.fc_image.specs.effects.Sharing.{new_ids, units}
use Rattle.fc_image.specs.effects.Short.{Gain, Growth, gain_at, gain_by_new_name, gain_by_rename, gain_in, gain_of, growth_in, growth_of, has_room, holes_without, is_alone, is_copied, is_full_with, is_sharing, moved_growth, needed_bits, needed_ids, new_length, old_need, one_if, short, space_reasons}
use Rattle.fc_image.proofs.LookupLemmas.{lookup_law}
use Rattle.fc_changes.proofs.BasicLemmas.{and_false}
use Rattle.fc_placing.proofs.CopyingLemmas.{copied_is}
use Rattle.fc_tree.specs.Nodes.{HoldObjects}
use Rattle.fc_tree.specs.Parts.{AreOwners, ArePartsOf, Parts}
use Rattle.fc_tree.proofs.PlaceLemmas.{same_number}
use Rattle.fc_tree.proofs.SoundLemmas.{folds_alike}
use Rattle.fc_tree.proofs.WalkedLemmas.{same_some}
use Rattle.fc_laws.specs.nodes.Edits.{Nodes}
use Rattle.fc_refusals.specs.Slots.{IsRenaming}
use Rattle.fc_refusals.specs.declared.target.Renaming.{Renaming}
use Rattle.fc_change.specs.declared.job.Job.TheVariants as jobs
use Rattle.fc_change.specs.declared.job.Wants.{Wants}
use Rattle.fc_change.specs.Needs.{HasRoomOf, copied_on, HasRoomToMove, SaysAt, is_copied as is_copied_job}
use Rattle.fc_change.specs.Shortage.{shortage}
use Rattle.fc_commands.proofs.EmptySpaceLemmas.{WantsNoSpace}
use Rattle.fc_commands.proofs.MoveDirectoryLemmas.{unlike}
use Rattle.fc_commands.proofs.NodeLemmas as its
use Rattle.fc_commands.proofs.ShortLemmas.{enough}
use Rattle.fc_commands.proofs.TargetLemmas as target_of
use Rattle.fc_image.proofs.CommandLemmas.{same_by_folds}

-- ---- what the directory that gets the name has room for

module _ (layout : Layout) (nodes : Nodes) (listings : List Listing) (sound : AreSound layout listings) (held : HoldObjects nodes listings) (from to : Path) (r : Renaming) (known : IsRenaming nodes listings from to r) (name : List ℕ) where
  abbrev k : Listing
  k = known.target.listing

  abbrev l : Listing
  l = known.destination.listing

  abbrev it : Object
  it = known.target.object

  l_says : SaysAt nodes r.holder l.content
  l_says = record {
    node = its.node nodes layout listings sound held l known.destination.listed r.holder known.destination.holder_is;
    there = its.there nodes layout listings sound held l known.destination.listed r.holder known.destination.holder_is;
    says = its.says nodes layout listings sound held l known.destination.listed r.holder known.destination.holder_is;
  }

  k_says : SaysAt nodes r.target.holder k.content
  k_says = record {
    node = target_of.dir_node layout nodes listings sound held from r.target known.target;
    there = target_of.dir_there layout nodes listings sound held from r.target known.target;
    says = target_of.dir_says layout nodes listings sound held from r.target known.target;
  }

  -- the room of another directory for a name more
  pub room_across : (room : Room) → (r.holder ≡ r.target.holder → ⊥) → HasRoomOf nodes (jobs.Move r) name room → (gain : Gain) → GetsName l.content name gain → HasRoom l.content gain room
  room_across room away has gain gets =
      (subst (λ (b : Bool). HasRoomToMove b nodes r name room) (ne_eqb r.holder r.target.holder away) has) l.content gain l_says gets

  -- that of the same one for another name in its place
  pub room_within : (room : Room) → r.holder ≡ r.target.holder → HasRoomOf nodes (jobs.Move r) name room → (gain : Gain) → (it.entry.name ≡ name → ⊥) → GetsNameFor k.content it.entry.name name gain
      → HasRoom k.content gain room
  room_within room here has gain other gets =
      (subst (λ (b : Bool). HasRoomToMove b nodes r name room) (eq-eqb r.holder r.target.holder here) has).respelled k.content it.entry gain k_says
      (target_of.entry_there layout nodes listings sound held from r.target known.target) other gets

  pub never_kept : (room : Room) → r.holder ≡ r.target.holder → HasRoomOf nodes (jobs.Move r) name room → it.entry.name ≡ name → room ≡ rooms.Fits
  never_kept room here has same =
      (subst (λ (b : Bool). HasRoomToMove b nodes r name room) (eq-eqb r.holder r.target.holder here) has).kept k.content it.entry k_says
      (target_of.entry_there layout nodes listings sound held from r.target known.target) same

-- ---- the name that the directory gets

abbrev pub asked : Option Gain → Bool
asked o = option_map_or (λ (gain : Gain). is_full_with gain.listing.content gain) o false

module _ (v : Opened) (nodes : Nodes) (sound : AreSound v.layout v.listings) (held : HoldObjects nodes v.listings) (from to : Path) (r : Renaming) (known : IsRenaming nodes v.listings from to r) (name : List ℕ)
    (name_is : name ≡ last_name to) where
  abbrev home : Listing
  home = known.target.listing

  abbrev aim : Listing
  aim = known.destination.listing

  abbrev o : Object
  o = known.target.object

  abbrev c : Command
  c = Command.Rename from to

  pub there : object_at v.listings from ≡ Some o
  there = target_of.there v.layout nodes v.listings sound held from r.target known.target

  aim_found : listing_at v.listings (holder to) ≡ Some aim
  aim_found = lookup_law.listing v.layout v.listings (holder to) aim sound known.destination.listed known.destination.above

  module _ (away : r.holder ≡ r.target.holder → ⊥) where
    holders_apart : is_same_path (holder from) (holder to) ≡ false
    holders_apart = unless (is_same_path (holder from) (holder to)) (λ alike.
        let folds = sym (folds_alike (holder to) aim.object.path known.destination.above) ∙ sym (folds_alike (holder from) (holder to) alike) ∙ folds_alike (holder from) home.object.path known.target.above in
        absurd (away (same_some r.holder r.target.holder (sym known.destination.holder_is ∙ same_number nodes aim.object.path home.object.path folds ∙ known.target.holder_is))))

    pub gain_across : gain_in v c ≡ Some (gain_of to aim)
    gain_across =
        ap (λ (x : Option Object). option_and_then (gain_by_rename v from to) x) there
        ∙ ap₂ (λ (b : Bool) (x : Option Listing).
        if not b then option_map (gain_of to) x
        else if bytes_eq o.entry.name (last_name to) then None else option_map (gain_by_new_name o.entry.name (last_name to)) (listing_at v.listings (holder to))) holders_apart aim_found

    pub gets_more : GetsName aim.content name (gain_of to aim)
    gets_more = record { name_is = sym name_is; names_are = ap (λ (n : List ℕ). map (λ (e : Entry). e.name) (entries_of aim.content) ++ n ∷ []) (sym name_is) }

  module _ (here : r.holder ≡ r.target.holder) where
    above_to : is_same_path (holder to) home.object.path ≡ true
    above_to = subst (λ (d : Listing). is_same_path (holder to) d.object.path ≡ true) (known.within here).0 known.destination.above

    home_found : listing_at v.listings (holder to) ≡ Some home
    home_found = lookup_law.listing v.layout v.listings (holder to) home sound known.target.listed above_to

    holders_same : is_same_path (holder from) (holder to) ≡ true
    holders_same = same_by_folds (holder from) (holder to) (folds_alike (holder from) home.object.path known.target.above ∙ sym (folds_alike (holder to) home.object.path above_to))

    abbrev pub gain : Gain
    gain = gain_by_new_name o.entry.name (last_name to) home

    pub gain_within : gain_in v c ≡ cond (bytes_eq o.entry.name (last_name to)) None (Some gain)
    gain_within =
        ap (λ (x : Option Object). option_and_then (gain_by_rename v from to) x) there
        ∙ ap₂ (λ (b : Bool) (x : Option Listing).
        if not b then gain_at v to
        else if bytes_eq o.entry.name (last_name to) then None else option_map (gain_by_new_name o.entry.name (last_name to)) x) holders_same home_found

    pub gets_other : GetsNameFor home.content o.entry.name name gain
    gets_other = record {
      name_is = sym name_is;
      names_are = ap (λ (n : List ℕ). filter (λ (m : List ℕ). not (is_same_name m o.entry.name)) (map (λ (e : Entry). e.name) (entries_of home.content)) ++ n ∷ []) (sym name_is);
    }

    pub other : bytes_eq o.entry.name (last_name to) ≡ false → o.entry.name ≡ name → ⊥
    other differ same = unlike o.entry.name (last_name to) differ (same ∙ name_is)

  -- ---- if it fits, none grows, and none is full

  pub no_growth : HasRoomOf nodes (jobs.Move r) name rooms.Fits → growth_in v c ≡ None
  no_growth has = elim (cases_eq r.holder r.target.holder) [
    | inl here ↦ ap (option_and_then growth_of) (gain_within here) ∙ by here (bytes_eq o.entry.name (last_name to)) refl
    | inr away ↦ ap (option_and_then growth_of) (gain_across away)
        ∙ (room_across v.layout nodes v.listings sound held from to r known name rooms.Fits away has (gain_of to aim) (gets_more away)).1 aim.object
  ]
    where
      by : (here : r.holder ≡ r.target.holder) (b : Bool) → bytes_eq o.entry.name (last_name to) ≡ b → option_and_then growth_of (cond b None (Some (gain here))) ≡ None
      by here true e = refl
      by here false e = (room_within v.layout nodes v.listings sound held from to r known name rooms.Fits here has (gain here) (other here e) (gets_other here)).1 home.object

  pub not_full : HasRoomOf nodes (jobs.Move r) name rooms.Fits → asked (gain_in v c) ≡ false
  not_full has = elim (cases_eq r.holder r.target.holder) [
    | inl here ↦ ap asked (gain_within here) ∙ by here (bytes_eq o.entry.name (last_name to)) refl
    | inr away ↦ ap asked (gain_across away)
        ∙ (room_across v.layout nodes v.listings sound held from to r known name rooms.Fits away has (gain_of to aim) (gets_more away)).0
  ]
    where
      by : (here : r.holder ≡ r.target.holder) (b : Bool) → bytes_eq o.entry.name (last_name to) ≡ b → asked (cond b None (Some (gain here))) ≡ false
      by here true e = refl
      by here false e = (room_within v.layout nodes v.listings sound held from to r known name rooms.Fits here has (gain here) (other here e) (gets_other here)).0

  -- else it is refused for that
  is_full : HasRoomOf nodes (jobs.Move r) name rooms.Full → asked (gain_in v c) ≡ true
  is_full has = elim (cases_eq r.holder r.target.holder) [
    | inl here ↦ ap asked (gain_within here) ∙ by here (bytes_eq o.entry.name (last_name to)) refl
    | inr away ↦ ap asked (gain_across away)
        ∙ room_across v.layout nodes v.listings sound held from to r known name rooms.Full away has (gain_of to aim) (gets_more away)
  ]
    where
      by : (here : r.holder ≡ r.target.holder) (b : Bool) → bytes_eq o.entry.name (last_name to) ≡ b → asked (cond b None (Some (gain here))) ≡ true
      by here true e = absurd (let fits = never_kept v.layout nodes v.listings sound held from to r known name rooms.Full here has ((bytes_eq-Decides o.entry.name (last_name to)).0 e ∙ sym name_is) in cc)
      by here false e = room_within v.layout nodes v.listings sound held from to r known name rooms.Full here has (gain here) (other here e) (gets_other here)

  pub full_short : HasRoomOf nodes (jobs.Move r) name rooms.Full → short v c ≡ Some refusals.DirFull
  unfolding short
  full_short has = ap (λ (b : Bool). first_of (when b refusals.DirFull ∷ space_reasons v.layout v c)) (is_full has)

  -- ---- it is copied as its owners tell

  module _ (h : Parts) (nodes_are : h.nodes ≡ nodes) (parts : ArePartsOf h v) where
    pub plain : is_copied_job h r ≡ false → is_copied v from to o ≡ false
    plain none = by h.layout (sym parts.layout) none
      where
        by : (layout : Layout) → v.layout ≡ layout → copied_on layout h.owners r.target.node r.holder ≡ false → is_copied v from to o ≡ false
        by (Layout.Old space) at e =
            ap (λ (l : Layout). not (is_directory_object o) && not (is_same_path (holder from) (holder to)) && is_sharing l (objects_of v.listings) o) at
            ∙ and_false (not (is_directory_object o) && not (is_same_path (holder from) (holder to)))
        by (Layout.New m) at e =
            ap (λ (l : Layout). not (is_directory_object o) && not (is_same_path (holder from) (holder to)) && is_sharing l (objects_of v.listings) o) at
            ∙ sym (copied_is m nodes v.listings h.owners r.target.node r.holder from to aim.object.path o (subst (λ (l : Layout). AreSound l v.listings) at sound) held
            (subst (λ (l : Layout). AreOwners h.owners nodes l (objects_of v.listings)) at (subst (λ (ns : Nodes). AreOwners h.owners ns v.layout (objects_of v.listings)) nodes_are parts.owners))
            (target_of.among v.layout nodes v.listings sound held from r.target known.target) known.target.path_is known.target.node_is known.destination.above known.destination.holder_is)
            ∙ e

  -- ---- without a copy nothing is short

  module _ (not_copied : is_copied v from to o ≡ false) (has : HasRoomOf nodes (jobs.Move r) name rooms.Fits) where
    no_length : new_length v c ≡ 0
    no_length = ap (λ (x : Option Object). option_map_or (λ (p : Object). if is_copied v from to p then p.entry.len else 0) x 0) there ∙ ap (λ (b : Bool). cond b o.entry.len 0) not_copied

    moved_none : moved_growth v c ≡ None
    moved_none = ap (λ (g : Option Growth). option_and_then (λ (growth : Growth). if has_room v.layout (objects_of v.listings) growth then None else Some growth) g) (no_growth has)

    reasons_new : (m : Map) → first_of (space_reasons (Layout.New m) v c) ≡ None
    reasons_new m =
        ap₂ (λ (a b : ℕ). first_of (when (nat_lt (length (new_ids m)) a) refusals.IdsFull ∷ when (nat_lt (bits_in (hole_runs m)) b) refusals.DiscFull ∷ [])) ids bits ∙ enough (length (new_ids m)) (bits_in (hole_runs m))
      where
        ids : needed_ids m v c ≡ 0
        ids = ap₂ (λ (n : ℕ) (g : Option Growth). one_if (nat_lt 0 (units m.geometry n)) + option_map_or (λ (growth : Growth). one_if (not (is_alone (objects_of v.listings) growth.0))) g 0) no_length moved_none

        bits : needed_bits m v c ≡ 0
        bits = ap₂ (λ (n : ℕ) (g : Option Growth).
            let a = units m.geometry n in
            let b = option_map_or (λ (growth : Growth). units m.geometry growth.1) g 0 in
            if nat_lt 0 a && nat_lt 0 b then a + b + 2 * m.geometry.min else a + b) no_length moved_none

    abbrev none_wanted : Wants
    none_wanted = record { bytes = 0; shares = None; copied = None; goes = None; grows = None }

    wants_are : (w : Wants) → WantsNoSpace w × (w.goes ≡ None) → w ≡ none_wanted
    wants_are w none = λ i. record { bytes = none.0.bytes i; shares = none.0.slack i; copied = none.0.copy i; goes = none.1 i; grows = none.0.grows i }

    by_room : short v c ≡ first_of (space_reasons v.layout v c)
    unfolding short
    by_room = ap (λ (b : Bool). first_of (when b refusals.DirFull ∷ space_reasons v.layout v c)) (not_full has)

    pub new_short : (m : Map) (owners : List Owner) (w : Wants) → WantsNoSpace w × (w.goes ≡ None) → v.layout ≡ Layout.New m → short v c ≡ shortage (record { layout = Layout.New m; nodes = nodes; owners = owners }) w
    new_short m owners w none at =
        let h : Parts = record { layout = Layout.New m; nodes = nodes; owners = owners } in
        let no : shortage h none_wanted ≡ None = enough (length (new_ids m)) (bits_in (hole_runs m)) in
        by_room ∙ ap (λ (layout : Layout). first_of (space_reasons layout v c)) at ∙ reasons_new m ∙ sym no ∙ sym (ap (shortage h) (wants_are w none))

    pub old_short : (space : OldMapContent) (owners : List Owner) (w : Wants) → WantsNoSpace w × (w.goes ≡ None) → v.layout ≡ Layout.Old space
        → short v c ≡ shortage (record { layout = Layout.Old space; nodes = nodes; owners = owners }) w
    old_short space owners w none at =
        let h : Parts = record { layout = Layout.Old space; nodes = nodes; owners = owners } in
        by_room ∙ ap (λ (layout : Layout). first_of (space_reasons layout v c)) at ∙ old_reasons ∙ sym (ap (shortage h) (wants_are w none))
      where
        old_reasons : first_of (space_reasons (Layout.Old space) v c) ≡ shortage (record { layout = Layout.Old space; nodes = nodes; owners = owners }) none_wanted
        old_reasons = ap (λ (n : ℕ).
            let need = old_need space n in
            first_of (when (nat_lt (hole_sum space.holes) need) refusals.DiscFull
            ∷ when (nat_lt 0 need && is_none (first_fit_place need space.holes)) refusals.CompactionRequired
            ∷ when (nat_lt hole_limit (length (holes_without need space.holes))) refusals.MapFull ∷ [])) no_length
