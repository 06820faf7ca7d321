-- How many bytes a file of the source has, and a file that is refused for its length.
use Rattle.std.proofs.Common.{◌≡◌, ⊎_elim, ◌≤◌, ℕ, ◌*◌, Bool, true, false, List, [], ◌∷◌, ◌++◌, length, replicate, refl, sym, ap, subst, ◌∙◌, Option, Some, None, Result, Ok, Err}
use Rattle.std.specs.Prelude.{Contains, if◌then◌else◌}
use Rattle.std.specs.Option.{option_map_or}
use Rattle.std.proofs.lemmas.List.{length-replicate}
use Rattle.fc_device.specs.declared.disk.Disk.{Ghosts}
use Rattle.fc_device.proofs.DiskLaws.{Laws}
use Rattle.fc_device.proofs.StopLemmas.{one_told}
use Rattle.fc_names.specs.declared.name.NameForm.{NameForm}
use Rattle.fc_names.specs.declared.refusal.Refusal.{Refusal}
use Rattle.fc_names.specs.declared.refusal.Refusal.TheVariants as refusals
use Rattle.fc_names.specs.Names.{Path, is_directory}
use Rattle.fc_record.specs.declared.Kind.{Kind}
use Rattle.fc_dirs.specs.declared.Entry.{Entry}
use Rattle.fc_dirs.specs.Directory.{directory_size, entries_of}
use Rattle.fc_model.specs.Answer.{first_of, reasons, when}
use Rattle.fc_model.specs.Command.{Command}
use Rattle.fc_model.specs.Tree.{bytes_of_node, node_at}
use Rattle.fc_image.specs.Edits.{IsAt}
use Rattle.fc_image.specs.Layout.{Layout, dir_form, disc_sectors, sector_bytes}
use Rattle.fc_image.specs.Objects.{objects_of}
use Rattle.fc_image.specs.Opening.{Opened}
use Rattle.fc_image.specs.Sound.{AreSound}
use Rattle.fc_image.specs.Walk.{Listing, Object, object_size}
use Rattle.fc_image.specs.effects.Effect.{State, tree_in}
use Rattle.fc_image.specs.effects.Short.{Gain, gain_if_absent, is_full_with, short, space_reasons}
use Rattle.fc_image.proofs.MapEditLemmas.{child_at}
use Rattle.fc_space.specs.Space.{PlacesSuffice}
use Rattle.fc_tree.specs.declared.node.Node.{Node as Found}
use Rattle.fc_tree.specs.Nodes.{nodes_of}
use Rattle.fc_tree.proofs.LengthLemmas.{disk_long, object_long}
use Rattle.fc_tree.proofs.SoundLemmas.{root_or_child}
use Rattle.fc_tree.proofs.WalkedLemmas.{follows_each, given, place_of, root, sound_law}
use Rattle.fc_fit.specs.Doing.{refusal_by}
use Rattle.fc_fit.specs.Found.{node_in}
use Rattle.fc_holdings.specs.declared.error.CommandError.{CommandError}
use Rattle.fc_holdings.specs.declared.error.CommandError.TheVariants as commands
use Rattle.fc_volume.specs.declared.lines.FileRef.{FileRef}
use Rattle.fc_volume.specs.Answers.{ref_bytes}
use Rattle.fc_volume.specs.Changing.{IsAsked, refusal_in}
use Rattle.fc_volume.specs.Volume.{StandsFor, Volume, parts_of}
use Rattle.fc_convert.specs.declared.copying.CopyError.{CopyError}
use Rattle.fc_convert.specs.declared.copying.CopyError.TheVariants as errors
use Rattle.fc_convert.specs.Copying.{IsFileAt, KeepsTarget, Makes, MakesAll}
use Rattle.fc_convert.specs.Opened.{Holds, IsOpen}
use Rattle.fc_convert.proofs.MakingLemmas.{answered, by_form, refused_is}
use Rattle.fc_convert.proofs.ObjectLemmas.{asked_done}
use Rattle.fc_convert.proofs.SourceLemmas.{file_object, read_bytes}

-- ---- lengths

-- each object of a sound walk has the sectors of its address
each_at : (layout : Layout) (listings : List Listing) → AreSound layout listings → (o : Object) → Contains (objects_of listings) o → IsAt layout o
each_at layout listings sound o at =
    let had = given layout listings sound in
    ⊎_elim (λ e. subst (IsAt layout) e had.1.placed)
    (λ held. (let place = place_of listings held.0 held.1 in
    child_at layout held.0.object.path (entries_of held.0.content) held.0.children o
    (follows_each sound.read layout (root layout listings sound ∷ []) listings had.2 place.0 held.0 place.1).1 held.2))
    (root_or_child layout listings sound o at)

size_of : (form : NameForm) (e : Entry) → is_directory e.attrs ≡ false → object_size form e ≡ e.len
size_of form e file = ap (λ (b : Bool). if b then directory_size form e.len else e.len) file

module _ {D : Type 0} {d : Ghosts D} (law : Laws d) (v : Volume) (disk : D) (path : Path) (node : Found) (there : node_in (nodes_of v.tree) path ≡ Some node) (file : is_directory node.entry.attrs ≡ false)
    (stands : StandsFor d v disk) (suffice : PlacesSuffice (parts_of v).layout) where
  held_long : (kind : Kind) (s : State) → Holds d kind s v disk → length (bytes_of_node (node_at (tree_in s) path)) ≡ node.entry.len
  held_long kind s holds =
      let o = file_object v disk path node there file kind s holds in
      let layout = s.view.layout in
      let placed = each_at layout s.view.listings (sound_law s.image kind s.view holds.opens) o.0 o.1 in
      let long = disk_long law disk (parts_of v).layout stands.size stands.room s.image holds.bytes in
      ap length o.4
      ∙ object_long s.image layout o.0 (subst PlacesSuffice holds.parts.layout suffice) placed
      (subst (λ (l : Layout). disc_sectors l * sector_bytes l ≤ length s.image) holds.parts.layout long)
      ∙ size_of (dir_form layout) o.0.entry o.2 ∙ sym (ap (λ (e : Entry). e.len) o.3)

  -- bytes of the file, as many as its entry says; if the source tells none, any are
  pub sized_bytes : (f : FileRef) → ((kind : Kind) (s : State) → Holds d kind s v disk → bytes_of_node (node_at (tree_in s) path) ≡ ref_bytes s.image v f)
      → (bytes : List ℕ) × IsFileAt d v disk path bytes × (length bytes ≡ node.entry.len)
  sized_bytes f told = by (d.bytes disk) refl
    where
      by : (o : Option (List ℕ)) → d.bytes disk ≡ o → (bytes : List ℕ) × IsFileAt d v disk path bytes × (length bytes ≡ node.entry.len)
      by (Some image) is =
          let opened = stands.image image is in
          let s : State = record { image = image; view = opened.1 } in
          let holds : Holds d opened.0 s v disk = record { bytes = is; opens = opened.2; parts = opened.3 } in (
            ref_bytes image v f,
            read_bytes v disk path f told (ref_bytes image v f) (λ other here. ap (λ (i : List ℕ). ref_bytes i v f) (one_told (sym is ∙ here))),
            ap length (sym (told opened.0 s holds)) ∙ held_long opened.0 s holds,
          )
      by None is = (replicate node.entry.len 0, λ kind s holds. absurd (let two : None ≡ Some s.image = sym is ∙ holds.bytes in cc), length-replicate node.entry.len 0)

-- ---- refusals

-- there is no space for a file of these bytes exactly if there is none for one of as many zeros
same_reasons : (l : Layout) (v : Opened) (path : Path) (load exec : ℕ) (bytes : List ℕ)
    → space_reasons l v (Command.Save path load exec bytes) ≡ space_reasons l v (Command.Create path load exec (length bytes))
same_reasons (Layout.New m) v path load exec bytes = refl
same_reasons (Layout.Old space) v path load exec bytes = refl

same_short : (v : Opened) (path : Path) (load exec : ℕ) (bytes : List ℕ) → short v (Command.Save path load exec bytes) ≡ short v (Command.Create path load exec (length bytes))
unfolding short
same_short v path load exec bytes =
    ap (λ (rs : List (Option Refusal)). first_of (when (option_map_or (λ (gain : Gain). is_full_with gain.listing.content gain) (gain_if_absent v path) false) refusals.DirFull ∷ rs))
    (same_reasons v.layout v path load exec bytes)

same_refusal : (form : NameForm) (s : State) (path : Path) (load exec len : ℕ) (bytes : List ℕ) → length bytes ≡ len
    → refusal_by form s (Command.Save path load exec bytes) ≡ refusal_by form s (Command.Create path load exec len)
same_refusal form s path load exec len bytes long =
    ap (λ (o : Option Refusal). first_of (reasons (tree_in s) form false (Command.Save path load exec bytes) ++ o ∷ [])) (same_short s.view path load exec bytes)
    ∙ ap (λ (n : ℕ). refusal_by form s (Command.Create path load exec n)) long

module _ {E : Type 0} {e : Ghosts E} (path : Path) (load exec len : ℕ) (was v : Volume) (old new : E) (rights : was.read_only ≡ false) (bytes : List ℕ) (long : length bytes ≡ len) where
  refused : (error : CommandError) → IsAsked e (Command.Create path load exec len) was v old new (Err error) → MakesAll e (Command.Save path load exec bytes ∷ []) was v old new (answered (Err error))
  refused (commands.Refused r) asked kind s holds =
      let c = Command.Create path load exec len in
      let same = asked.keeps.unchanged (λ fault. absurd (cc)) in
      let why = refused_is (refusal_in s.view s.image was.read_only c) r (asked.refused s.view s.image (sound_law s.image kind s.view holds.opens) holds.parts) in (
        s,
        record {
          front = [];
          next = Command.Save path load exec bytes;
          rest = [];
          cut = refl;
          done = refl;
          refused = same_refusal (dir_form (parts_of was).layout) s path load exec len bytes long ∙ by_form c was v old new rights kind s holds ∙ why;
        },
        ap e.bytes same.1 ∙ holds.bytes,
      )
  refused commands.NoMemory asked kind s holds = tt
  refused commands.DiskFault asked kind s holds = tt

  pub file_refused : (error : CommandError) (result : Result (Unit {0}) CopyError) → result ≡ answered (Err error) → IsAsked e (Command.Create path load exec len) was v old new (Err error)
      → MakesAll e (Command.Save path load exec bytes ∷ []) was v old new result
  file_refused error result is asked = subst (λ (r : Result (Unit {0}) CopyError). MakesAll e (Command.Save path load exec bytes ∷ []) was v old new r) (sym is) (refused error asked)

-- if it were accepted, the target would still be open
pub accepted_kept : {E : Type 0} {e : Ghosts E} (law : Laws e) (c : Command) (was v : Volume) (old new : E) → IsOpen e false was old → IsAsked e c was v old new (Ok tt)
    → KeepsTarget {T = Unit {0}} e was v old new (Err errors.NoMemory)
accepted_kept law c was v old new ready asked =
    let kept = asked_done law c was v old new tt ready asked in
    record { ready = kept.ready; dirs = kept.dirs; form = kept.form; goes = kept.goes; faults = kept.faults; cause = λ is. absurd (cc) }
