-- On an old map no directory grows: each is a small one.
use Rattle.std.proofs.Common.{◌≡◌, ◌++◌, ◌∷◌, ℕ, Bool, true, false, List, [], Option, Some, None, not, refl, sym, ap, subst, ◌∙◌}
use Rattle.std.specs.Prelude.{Contains, ◌==◌, filter}
use Rattle.fc_names.specs.Names.{is_same_name}
use Rattle.fc_names.specs.declared.name.NameForm.{NameForm}
use Rattle.fc_names.specs.declared.name.NameForm.TheVariants as forms
use Rattle.fc_record.specs.declared.Kind.{Kind}
use Rattle.fc_oldmap.specs.OldMap.{OldMapContent}
use Rattle.fc_dirs.specs.Directory.{Directory}
use Rattle.fc_dirs.specs.Small.{SmallDir}
use Rattle.fc_drafts.specs.declared.room.Room.{Room}
use Rattle.fc_drafts.specs.declared.room.Room.TheVariants as rooms
use Rattle.fc_drafts.specs.Draft.{names_of}
use Rattle.fc_drafts.specs.Gains.{HasRoom}
use Rattle.fc_image.specs.Layout.{Layout, dir_form}
use Rattle.fc_image.specs.Walk.{Listing, Object}
use Rattle.fc_image.specs.effects.Short.{Gain, Growth as GrownTo, growth_with}
use Rattle.fc_model.specs.Command.{Command}
use Rattle.fc_laws.proofs.lemmas.agree.BeforeLemmas.{agreed_law}
use Rattle.fc_laws.proofs.lemmas.old.agree.FormLemmas.{not_long}
use Rattle.fc_refusals.specs.declared.target.Renaming.{Renaming}
use Rattle.fc_refusals.specs.declared.target.Slot.TheVariants as slots
use Rattle.fc_refusals.specs.Slots.{IsRenaming}
use Rattle.fc_tree.specs.Agree.{Agree, HasForm}
use Rattle.fc_tree.specs.Nodes.{number_of}
use Rattle.fc_tree.specs.Parts.{Parts}
use Rattle.fc_change.specs.declared.job.Growth.{Growth}
use Rattle.fc_change.specs.declared.job.Job.{Job}
use Rattle.fc_change.specs.declared.job.Job.TheVariants as jobs
use Rattle.fc_change.specs.declared.job.Wants.{Wants}
use Rattle.fc_change.specs.Needs.{AreWants, HasRoomFor, HasRoomToMove, SaysAt, room_of}
use Rattle.fc_commands.specs.Jobs.{IsJobFor}
use Rattle.fc_commands.proofs.RoomyLemmas.{NoneGrows}
use Rattle.fc_commands.proofs.ArrivalLemmas as arrival
use Rattle.fc_commands.proofs.ArrivalLemmas.{Arrival}
use Rattle.fc_commands.proofs.EmptySpaceLemmas.{no_growth}
use Rattle.fc_commands.proofs.HolderLemmas as holder
use Rattle.fc_commands.proofs.MoveStageLemmas.{renamer}
use Rattle.fc_commands.proofs.RemovalStageLemmas.{view_of}
use Rattle.fc_commands.proofs.TargetLemmas as target_of

-- No directory has to grow for the command.
abbrev pub GrowsNone : Command → Parts → Type 0
GrowsNone c h = (job : Job) (name bytes : List ℕ) → IsJobFor c h job name bytes → NoneGrows h job name

-- ---- a small directory

small_of : (form : NameForm) (len : ℕ) (dir : Directory) → (form ≡ forms.Long → ⊥) → HasForm form len dir → (s : SmallDir) × (dir ≡ Directory.Small s)
small_of form len (Directory.Small s) short has = (s, refl)
small_of forms.Seven len (Directory.Big b) short has = absurd has
small_of forms.Ten len (Directory.Big b) short has = absurd has
small_of forms.Long len (Directory.Big b) short has = absurd (short refl)

none_some : (g : GrownTo) → (let o : Option GrownTo = None in o) ≡ Some g → ⊥
none_some g e = cc

never_grows : (dir : Directory) (s : SmallDir) (gain : Gain) (size : ℕ) → dir ≡ Directory.Small s → HasRoom dir gain (rooms.Grows size) → ⊥
never_grows dir s gain size small has = none_some (gain.listing.object, size) (ap (λ (d : Directory). growth_with gain.listing.object d gain) (sym small) ∙ has.1 gain.listing.object)

none_grown : (g : Option Growth) → ((growth : Growth) → g ≡ Some growth → ⊥) → g ≡ None
none_grown None not = refl
none_grown (Some growth) not = absurd (not growth refl)

-- ---- on an old map

module _ (h : Parts) (kind : Kind) (a : Agree kind h) (space : OldMapContent) (at : h.layout ≡ Layout.Old space) where
  small : (l : Listing) → Contains a.listings l → (s : SmallDir) × (l.content ≡ Directory.Small s)
  small l listed = small_of (dir_form h.layout) l.object.entry.len l.content (λ long. not_long space (ap dir_form (sym at) ∙ long)) (a.walked.forms l listed)

  says : (l : Listing) → Contains a.listings l → (n : ℕ) → number_of h.nodes l.object.path ≡ Some n → SaysAt h.nodes n l.content
  says l listed n number = holder.says_at h.layout h.nodes a.listings (agreed_law.sound_by kind h a) a.walked.held l listed n number

  -- for a name more
  one_more : (l : Listing) → Contains a.listings l → (n : ℕ) → number_of h.nodes l.object.path ≡ Some n → (name : List ℕ) (g : Option Growth) → HasRoomFor h.nodes n name (room_of g) → g ≡ None
  one_more l listed n number name g room =
      let gain : Gain = record { listing = l; name = name; names = names_of l.content ++ name ∷ [] } in
      let s = small l listed in
      none_grown g
      (λ growth is. never_grows l.content s.0 gain growth.len s.1
      (subst (λ (o : Option Growth). HasRoomFor h.nodes n name (room_of o)) is room l.content gain (says l listed n number) (record { name_is = refl; names_are = refl })))

  -- in place of another
  module _ (c : Command) (r : Renaming) (name bytes : List ℕ) (j : IsJobFor c h (jobs.Move r) name bytes) where
    abbrev is : IsRenaming h.nodes a.listings (renamer h kind a c r name bytes j).0 (renamer h kind a c r name bytes j).1 r
    is = (renamer h kind a c r name bytes j).3.known (view_of h kind a) (agreed_law.sound_by kind h a) (agreed_law.viewed kind h a)

    abbrev l : Listing
    l = is.target.listing

    abbrev o : Object
    o = is.target.object

    to_move : (b : Bool) (g : Option Growth) → HasRoomToMove b h.nodes r name (room_of g) → g ≡ None
    to_move false g room = one_more is.destination.listing is.destination.listed r.holder is.destination.holder_is name g room
    to_move true g room =
        let gain : Gain = record { listing = l; name = name; names = filter (λ n. not (is_same_name n o.entry.name)) (names_of l.content) ++ name ∷ [] } in
        let s = small l is.target.listed in
        let there = target_of.entry_there h.layout h.nodes a.listings (agreed_law.sound_by kind h a) a.walked.held (renamer h kind a c r name bytes j).0 r.target is.target in
        let at = says l is.target.listed r.target.holder is.target.holder_is in
        none_grown g
        (λ growth grows. let held = subst (λ (q : Option Growth). HasRoomToMove true h.nodes r name (room_of q)) grows room in
        never_grows l.content s.0 gain growth.len s.1
        (held.respelled l.content o.entry gain at there (λ same. never_fits growth (held.kept l.content o.entry at there same)) (record { name_is = refl; names_are = refl })))
      where
        never_fits : (growth : Growth) → rooms.Grows growth.len ≡ rooms.Fits → ⊥
        never_fits growth e = cc

  -- No directory grows for any job of the command.
  comes : (c : Command) (dir : ℕ) (x : Arrival) (name bytes : List ℕ) → IsJobFor c h (arrival.job_of dir x) name bytes → (g : Option Growth) → HasRoomFor h.nodes dir name (room_of g) → g ≡ None
  comes c dir x name bytes j g room =
      let spot = (arrival.of_job h.nodes a.listings c dir x name bytes (j.is (view_of h kind a) (agreed_law.sound_by kind h a) (agreed_law.viewed kind h a)) j.bytes_are).vacant in
      one_more spot.listing spot.listed dir spot.holder_is name g room

  pub old_grows_none : (c : Command) → GrowsNone c h
  old_grows_none c (jobs.File (slots.New dir) words) name bytes j w are = comes c dir (Arrival.Saves words) name bytes j w.grows are.room
  old_grows_none c (jobs.File (slots.Over target) words) name bytes j w are = no_growth w.grows are.room
  old_grows_none c (jobs.Directory dir) name bytes j w are = comes c dir Arrival.Makes name bytes j w.grows are.room
  old_grows_none c (jobs.Removal target) name bytes j w are = no_growth w.grows are.room
  old_grows_none c (jobs.Move r) name bytes j w are = to_move c r name bytes j (r.holder == r.target.holder) w.grows are.room
  old_grows_none c (jobs.Words target words) name bytes j w are = no_growth w.grows are.room
  old_grows_none c (jobs.Marks target attrs) name bytes j w are = no_growth w.grows are.room
