-- A copy that is prepared, by any walk: what is known of each stage, and the edit that it is.
use Rattle.std.proofs.Common.{◌≡◌, ◌<◌, ℕ, true, List, [], ◌∷◌, refl, sym, ap, subst, ◌∙◌, Some, None}
use Rattle.std.specs.Option.{option_map}
use Rattle.fc_names.specs.Names.{Path}
use Rattle.fc_alloc.specs.declared.owner.Owner.{Owner}
use Rattle.fc_record.specs.declared.Kind.{Kind}
use Rattle.fc_newmap.specs.Map.{Map}
use Rattle.fc_newmap.specs.NewMap.{IsNewMap}
use Rattle.fc_drafts.specs.Entries.{renamed_entry}
use Rattle.fc_drafts.specs.declared.room.Room.TheVariants as rooms
use Rattle.fc_model.specs.Command.{Command}
use Rattle.fc_image.specs.Layout.{Layout}
use Rattle.fc_image.specs.Walk.{Listing, Object}
use Rattle.fc_image.specs.effects.Short.{growth_in}
use Rattle.fc_objects.specs.Extents.{sectors_in}
use Rattle.fc_tree.specs.declared.node.Node.{Node}
use Rattle.fc_tree.specs.Parts.{Parts}
use Rattle.fc_laws.specs.agree.Agreed.{AgreeOn, parts_with}
use Rattle.fc_laws.specs.nodes.Edits.{Nodes}
use Rattle.fc_edits.specs.Copying.{edit, from_it, to_it}
use Rattle.fc_edits.specs.Edit.{Amended}
use Rattle.fc_edits.specs.NewNodes as edited
use Rattle.fc_edits.proofs.lemmas.ShapeLemmas.{only}
use Rattle.fc_edits.proofs.lemmas.TellLemmas.{AreOnce}
use Rattle.fc_refusals.specs.declared.target.Renaming.{Renaming}
use Rattle.fc_tree.proofs.MemberLemmas.{no_element}
use Rattle.fc_change.specs.declared.change.Turned.TheVariants as turns
use Rattle.fc_change.specs.declared.job.Job.TheVariants as jobs
use Rattle.fc_change.specs.declared.spaces.Place.{Place}
use Rattle.fc_change.specs.After.{nodes_after}
use Rattle.fc_change.specs.Directories.{Rewriting, TellAll}
use Rattle.fc_change.specs.Needs.{is_copied}
use Rattle.fc_commands.specs.declared.stages.Prepared.{Prepared}
use Rattle.fc_commands.proofs.RoomyLemmas.{NoneGrows}
use Rattle.fc_commands.specs.Stages.{IsPreparedFor}
use Rattle.fc_commands.proofs.CopyingEditLemmas.{IsCopied, copies, nodes_are, two_told}
use Rattle.fc_commands.proofs.CopyingFileLemmas.{IsCopiedFile, copied_file}
use Rattle.fc_commands.proofs.CopyingPlaceLemmas.{IsCopyPlaced, IsCopyWanted, copy_placed, copy_wanted}
use Rattle.fc_commands.proofs.CopyingReadyLemmas.{IsCopyReady, copy_ready}
use Rattle.fc_commands.proofs.MoveLemmas.{IsSeen, o}
use Rattle.fc_commands.proofs.MovePieceLemmas.{AreFor, pieces_for, pieces_sayable}
use Rattle.fc_commands.proofs.MoveShortLemmas.{no_growth, room_across}
use Rattle.fc_commands.proofs.MoveStageLemmas.{IsMoveChange, move_change, tells_it, turns_it}

-- what is known of its job
pub record IsCopyAsked (m : Map) (nodes : Nodes) (owners : List Owner) (r : Renaming) (name : List ℕ) (p : Prepared) : Type 0 where
  pub is_map : IsNewMap m
  pub prep : IsPreparedFor (parts_with m nodes owners) (jobs.Move r) name p
  pub grows : NoneGrows (parts_with m nodes owners) (jobs.Move r) name
  pub copied : is_copied (parts_with m nodes owners) r ≡ true

module _ (m : Map) (nodes : Nodes) (owners : List Owner) (r : Renaming) (name : List ℕ) (p : Prepared) (q : IsCopyAsked m nodes owners r name p) (kind : Kind) (root : Node) (listings : List Listing)
    (agreed : AgreeOn kind m nodes owners root listings) (from to : Path) (x : IsSeen (Layout.New m) nodes listings from to r name) where
  abbrev h : Parts
  h = parts_with m nodes owners

  abbrev it : Object
  it = o (Layout.New m) nodes listings from to r name x

  pub file : IsCopiedFile m nodes listings from to r (o (Layout.New m) nodes listings from to r name x)
  file = copied_file m nodes owners listings from to r x.sound x.held x.known kind agreed.owned q.copied

  pub wants : IsCopyWanted m nodes owners r name q.prep.wants
  wants = copy_wanted m nodes owners r name q.prep.wants q.grows q.copied q.prep.spaced.wants

  pub bytes_is : q.prep.wants.bytes ≡ (o (Layout.New m) nodes listings from to r name x).entry.len
  bytes_is = wants.bytes ∙ file.len

  pub placed : IsCopyPlaced m nodes owners r name q.prep.wants q.prep.spaces q.prep.spaced.places.placing
  placed = copy_placed m nodes owners r name q.prep.wants wants (subst (λ (n : ℕ). 0 < n) (sym bytes_is) file.some) q.prep.spaces q.prep.spaced.places

  -- where it goes
  abbrev pub address : ℕ
  address = placed.place.address

  abbrev pub sectors : List ℕ
  sectors = sectors_in placed.place.extents.items

  pub change : IsMoveChange nodes r name (Some placed.place.address) p.change
  change = move_change h r name (Some placed.place.address) q.prep.spaces p.change (ap (option_map (λ (y : Place). y.address)) placed.object) placed.grown q.prep.change

  pub none : p.change.grown ≡ None
  none = change.none

  pub turned : p.change.object ≡ turns.Turns r.target.node r.holder (renamed_entry (o (Layout.New m) nodes listings from to r name x).entry name placed.place.address)
  turned = turns_it (Layout.New m) nodes listings from to r name x (Some placed.place.address) p.change change

  pub ready : IsCopyReady (Layout.New m) nodes p.change.says.items q.prep.spaces (sectors_in placed.from.items) (sectors_in placed.place.extents.items) p.ready
  ready = copy_ready h p.change q.prep.spaces p.ready r.target.node r.holder (renamed_entry it.entry name placed.place.address) placed.place placed.from placed.object placed.copied placed.grown turned q.prep.ready

  pub cp : IsCopied (Layout.New m) nodes listings from to r name (o (Layout.New m) nodes listings from to r name x) placed.place.address (sectors_in placed.place.extents.items) p.change.says.items
  cp =
      copies (Layout.New m) nodes listings from to r name x file.away file.file placed.place.address (sectors_in placed.place.extents.items) p.change.says.items
      (room_across (Layout.New m) nodes listings x.sound x.held from to r x.known name rooms.Fits file.away wants.room)
      (pieces_sayable (Layout.New m) nodes p.change.says.items p.ready.late.items ready.match)
      (subst (λ (qs : List (ℕ × Rewriting)). TellAll None nodes qs p.change.says.items)
      (two_told (Layout.New m) nodes listings from to r name x file.away file.file placed.place.address (sectors_in placed.place.extents.items) p.change.says.items)
      (tells_it (Layout.New m) nodes listings from to r name x (Some placed.place.address) p.change change))

  -- the directory that it joins is told first
  abbrev pub order : List Amended
  order = to_it cp.c ∷ (from_it cp.c ∷ [])

  pub are_for : AreFor (to_it cp.c ∷ (from_it cp.c ∷ [])) p.ready.late.items
  are_for = pieces_for (Layout.New m) nodes listings x.sound x.held order p.change.says.items p.ready.late.items cp.is.said ready.match

  pub once : AreOnce (to_it cp.c ∷ (from_it cp.c ∷ []))
  once = (
    λ b at same. cp.is.apart (same ∙ sym (ap (λ (a : Amended). a.number) (only (from_it cp.c) b at))),
    (λ b at. absurd (no_element b at), tt),
  )

  pub nodes_now : (number : ℕ) → nodes_after p.change number nodes ≡ edited.nodes_after (edit cp.c) nodes
  nodes_now number = nodes_are (Layout.New m) nodes listings from to r name x placed.place.address (sectors_in placed.place.extents.items) p.change.says.items cp p.change number none turned refl

  pub none_grows : growth_in (record { kind = kind; layout = Layout.New m; listings = listings }) (Command.Rename from to) ≡ None
  none_grows = no_growth (record { kind = kind; layout = Layout.New m; listings = listings }) nodes x.sound x.held from to r x.known name x.name_is wants.room
