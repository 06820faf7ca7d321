-- `rename` that copies its file into a directory that grows by it: what was written is there, so the command has done what it promises.
use Rattle.fc_alloc.specs.declared.owner.Owner.{Owner}
use Rattle.fc_change.specs.After.{AreOwnersAfter, nodes_after, owners_admitted}
use Rattle.fc_change.specs.declared.change.Says.{Says}
use Rattle.fc_commands.proofs.CopyingFileLemmas.{IsCopiedFile}
use Rattle.fc_commands.proofs.CopyingLengthLemmas.{image_long}
use Rattle.fc_commands.proofs.GrownCopyEditLemmas.{dir_other}
use Rattle.fc_commands.proofs.GrownCopyMadeLemmas.{MadeCopy, copying_of, placed_copy}
use Rattle.fc_commands.proofs.GrownCopyOutLemmas as out_of
use Rattle.fc_commands.proofs.GrownCopyRunLemmas.{copying, its_space, lies_now, sectors_then, size_now}
use Rattle.fc_commands.proofs.GrownCopyWantLemmas.{CopiedRename, IsCopyAt, bytes_is, copy_at, file, from_is, source, spotted}
use Rattle.fc_commands.proofs.GrownMoveDoneLemmas as done
use Rattle.fc_commands.proofs.GrownMoveEditLemmas.{IsSaidNow, become}
use Rattle.fc_commands.proofs.GrownMoveGrowsLemmas.{its_grows}
use Rattle.fc_commands.proofs.GrownMoveMadeLemmas.{EditedRename, IsPlacedEdit, up_in}
use Rattle.fc_commands.proofs.GrownMoveNodeLemmas.{growing_in}
use Rattle.fc_commands.proofs.GrownMoveRunLemmas.{stepped}
use Rattle.fc_commands.proofs.GrownMoveSaidLemmas.{it, l, now}
use Rattle.fc_commands.proofs.GrownMoveWantLemmas.{GrownRename}
use Rattle.fc_commands.proofs.GrownMoveWantLemmas as want
use Rattle.fc_commands.proofs.MoveEditLemmas.{lies_there}
use Rattle.fc_commands.proofs.PutLemmas.{AreLong, put_of, puts_of, source_puts}
use Rattle.fc_commands.proofs.TargetLemmas as target_of
use Rattle.fc_edits.specs.Copying.{copied, edit}
use Rattle.fc_edits.specs.Edit.{Amended}
use Rattle.fc_edits.specs.Growing.{regrown}
use Rattle.fc_edits.specs.GrownCopying.{grown_edit}
use Rattle.fc_image.proofs.EntriesLemmas.{cases as contains_cases, later as contains_later}
use Rattle.fc_image.specs.Edits.{IsAt}
use Rattle.fc_image.specs.Layout.{Layout, bytes_in, dir_form}
use Rattle.fc_image.specs.Opening.{Opened}
use Rattle.fc_image.specs.Stays.{OpensAs}
use Rattle.fc_image.specs.Walk.{Object, object_bytes, object_size}
use Rattle.fc_image.specs.effects.Short.{is_copied as is_copied_in}
use Rattle.fc_image.specs.effects.Steady.{IsRewritten}
use Rattle.fc_laws.proofs.lemmas.takeover.CopiedBytesLemmas.{copied_bytes_law}
use Rattle.fc_laws.proofs.lemmas.takeover.KindLemmas.{new_kind}
use Rattle.fc_laws.specs.agree.Agreed.{parts_with}
use Rattle.fc_laws.specs.takeover.Copied.{AreCopied}
use Rattle.fc_model.specs.Command.{Command}
use Rattle.fc_names.specs.Names.{is_same_path}
use Rattle.fc_newmap.specs.Map.{Map}
use Rattle.fc_objects.specs.Extents.{sectors_in}
use Rattle.fc_outcomes.proofs.lemmas.GrownCopyingLemmas.{grown_copying_law}
use Rattle.fc_outcomes.specs.GrownCopying.{IsToCopyGrown, NewGrownCopyingWritten}
use Rattle.fc_outcomes.specs.NewImage.{Outcome}
use Rattle.fc_outcomes.specs.Puts.{ArePutOut, IsDirectoryPut, Put}
use Rattle.fc_record.specs.declared.Geometry.{Geometry}
use Rattle.fc_space.specs.Space.{PlacesSuffice}
use Rattle.fc_tree.proofs.LengthLemmas.{object_long}
use Rattle.fc_tree.proofs.MemberLemmas.{contains_here, no_element}
use Rattle.fc_writing.specs.New.{IsChanged, IsGiven}
use Rattle.fc_writing.specs.declared.ready.Piece.{Piece}
use Rattle.fc_writing.specs.declared.ready.Source.{Source}
use Rattle.fc_writing.specs.declared.ready.Source.TheVariants as sources
use Rattle.fc_writing.specs.declared.ready.Transfer.{Transfer}
use Rattle.std.proofs.Common.{Bool, List, [], ap, ap₂, cond, inl, inr, length, refl, subst, sym, ℕ, ⊎_elim, ◌++◌, ◌∙◌, ◌∷◌, ◌≡◌, ◌⊎◌}
use Rattle.std.specs.Prelude.{Contains, map}

module _ (w : CopiedRename) (md : MadeCopy (spotted w)) (m' : Map) (given : IsGiven w.q.m w.pr.ready m') (suffice : PlacesSuffice (Layout.New w.q.m)) (bytes was image : List ℕ)
    (opens : OpensAs was w.q.kind (record { kind = w.q.kind; layout = Layout.New w.q.m; listings = w.q.listings })) (changed : IsChanged w.q.m m' w.pr.ready bytes was image) where
  abbrev q : GrownRename
  q = w.q

  abbrev e : EditedRename
  e = copying_of (spotted w) md.c

  abbrev pl : IsPlacedEdit (copying_of (spotted w) md.c)
  pl = placed_copy w md.c

  abbrev at : IsCopyAt w.q w.placed
  at = copy_at w.q w.placed w.copied

  abbrev its : IsCopiedFile w.q.m w.q.nodes w.q.listings w.q.from w.q.to w.q.r w.q.seen.known.target.object
  its = file w.q w.copied

  abbrev then : Object
  then = copied md.c w.q.seen.known.target.object

  abbrev size : ℕ
  size = w.q.m.geometry.sector

  abbrev view : Opened
  view = record { kind = w.q.kind; layout = Layout.New w.q.m; listings = w.q.listings }

  t : (t : Transfer) × (w.pr.ready.source ≡ sources.Sectors t) × (t.from.items ≡ at.from.items) × (t.to.items ≡ at.place.extents.items)
  t = source (spotted w)

  abbrev pieces : List Put
  pieces = map put_of w.pr.ready.early.items ++ map put_of w.pr.ready.late.items

  pieces_are : puts_of w.pr.ready bytes ≡ pieces
  pieces_are = out_of.no_more size was bytes w.pr.ready t.0 t.1 w.ready.carried

  -- each is of a directory that is told something
  piece_of : (x : Put) → Contains pieces x → (p : Piece) × (put_of p ≡ x) × (a : Amended) × Contains md.part.order a × (s : Says) × IsSaidNow w.q (become w.q (edit md.c)) (up_in w.q (it w.q)) a s p
  piece_of x there =
      ⊎_elim (λ own. absurd (no_element x (subst (λ (s : Source). Contains (source_puts s bytes) x) t.1 own))) (λ told. told)
      (done.put_of_told e pl md.part m' given bytes x (subst (λ (ps : List Put). Contains ps x) (sym pieces_are) there))

  long : AreLong size pieces
  long x there = let p = piece_of x there in done.long_told e pl md.part m' given bytes x p.0 p.1 p.2 p.4 p.5

  -- ---- the file

  abbrev stored : List ℕ
  stored = object_bytes was (Layout.New w.q.m) md.c.o

  abbrev placed : IsAt (Layout.New w.q.m) w.q.seen.known.target.object
  placed = target_of.placed (Layout.New q.m) q.nodes q.listings q.seen.sound q.seen.held q.from q.r.target q.seen.known.target

  stored_long : length stored ≡ md.c.o.entry.len
  stored_long =
      let k = new_kind was q.kind view q.m opens refl in
      subst (λ (o : Object). length (object_bytes was (Layout.New q.m) o) ≡ o.entry.len) (sym md.o_is)
      (object_long was (Layout.New q.m) (it q) suffice placed (image_long was q.kind k.0 q.m q.listings k.1 opens) ∙ its.size)

  copied_over : AreCopied size was image w.q.seen.known.target.object.sectors then.sectors
  copied_over =
      subst (λ (ss : List ℕ). AreCopied size was image (it q).sectors ss) (ap sectors_in t.3 ∙ sym (sectors_then w md m' given))
      (subst (λ (ss : List ℕ). AreCopied size was image ss (sectors_in t.0.to.items)) (ap sectors_in t.2 ∙ from_is (spotted w)) (out_of.are_copied size was bytes w.pr.ready t.0 t.1 w.ready.carried image changed.written))

  same_bytes : object_bytes image (Layout.New m') then ≡ object_bytes was (Layout.New w.q.m) w.q.seen.known.target.object
  same_bytes =
      copied_bytes_law q.m m' (it q) then was image (stepped e pl m' given).geometry placed (lies_now w md m' given) (size_now w md m' given ∙ bytes_is q w.copied ∙ sym its.size) copied_over

  file_there : bytes_in size image md.c.sectors (length stored) ≡ stored
  file_there =
      ap (bytes_in size image md.c.sectors) (stored_long ∙ ap (λ (o : Object). o.entry.len) md.o_is ∙ sym (size_now w md m' given ∙ bytes_is q w.copied))
      ∙ ap (λ (ss : List ℕ). bytes_in size image ss (object_size (dir_form (Layout.New m')) then.entry)) (md.sectors ∙ sym (sectors_then w md m' given))
      ∙ ap (λ (g : Geometry). bytes_in g.sector image then.sectors (object_size (dir_form (Layout.New m')) then.entry)) (sym (stepped e pl m' given).geometry)
      ∙ same_bytes ∙ ap (object_bytes was (Layout.New q.m)) (sym md.o_is)

  -- ---- all of it

  abbrev file_put : Put
  file_put = record { sectors = md.c.sectors; bytes = stored }

  abbrev puts : List Put
  puts = file_put ∷ pieces

  out : ArePutOut (Layout.New w.q.m) puts was image
  out =
      out_of.copied_out size was bytes w.pr.ready t.0 t.1 w.ready.carried image changed.written long (Layout.New q.m) refl changed.others file_put (md.sectors ∙ sym (ap sectors_in t.3)) file_there

  written_all : (a : Amended) → Contains (grown_edit md.c (growing_in (copying_of (spotted w) md.c) md.part)).amended a
      → IsDirectoryPut (Layout.New m') (regrown (edit md.c) (growing_in (copying_of (spotted w) md.c) md.part) a.was.object) a.content puts
  written_all a there =
      let d = done.written_all e pl md.part m' given bytes a there in
      record {
        bytes = d.bytes;
        among = contains_later file_put (record { sectors = (regrown (edit md.c) (growing_in e md.part) a.was.object).sectors; bytes = d.bytes }) pieces
            (subst (λ (ps : List Put). Contains ps (record { sectors = (regrown (edit md.c) (growing_in e md.part) a.was.object).sectors; bytes = d.bytes })) pieces_are d.among);
        says = d.says;
        long = d.long;
      }

  whose_all : (x : Put) → Contains puts x
      → ((a : Amended) × Contains (grown_edit md.c (growing_in (copying_of (spotted w) md.c) md.part)).amended a × (x.sectors ≡ (regrown (edit md.c) (growing_in (copying_of (spotted w) md.c) md.part) a.was.object).sectors))
      ⊎ (x.sectors ≡ md.c.sectors)
  whose_all x there =
      ⊎_elim (λ is. inr (ap (λ (p : Put). p.sectors) (sym is)))
      (λ piece. inl (let p = piece_of x piece in done.whose_told e pl md.part m' given bytes x p.0 p.1 p.2 p.3 p.4 p.5)) (contains_cases file_put x pieces there)

  module _ (owners' : List Owner) (number : ℕ) (after : AreOwnersAfter (Layout.New m') w.q.nodes w.pr.change (owners_admitted (Layout.New w.q.m) w.pr.change.object number w.q.owners) owners') where
    asks : IsToCopyGrown (copying w md m' given owners' number after) w.q.from w.q.to
    unfolding copying
    asks = record {
      from_is = ap (λ (o : Object). is_same_path q.from o.path) md.o_is ∙ q.seen.known.target.path_is;
      to_is = ap₂ (λ (o : Object) (n : List ℕ). is_same_path q.to (o.path ++ n ∷ [])) md.l_is md.name_is
          ∙ ap (λ (n : List ℕ). is_same_path q.to ((l q).object.path ++ n ∷ [])) q.seen.name_is ∙ lies_there q.to (l q).object.path q.seen.known.destination.no_root q.seen.known.destination.above;
      name_is = sym q.seen.name_is ∙ sym md.name_is;
      shares = ap (is_copied_in view q.from q.to) md.o_is ∙ its.copied q.kind;
      grows = its_grows e pl md.part;
      into_it = md.l_is;
      place = its_space w md m' given;
    }

    written : NewGrownCopyingWritten (copying w md m' given owners' number after) w.q.from w.q.to puts stored was image
    unfolding copying
    written = record {
      r = (done.kind_is e pl md.part m' given bytes was image opens changed).0;
      new_kind = (done.kind_is e pl md.part m' given bytes was image opens changed).1;
      opens = opens;
      its = asks;
      left = md.left;
      joined = md.joined;
      says = λ a there.
          subst (λ (n : ℕ). IsRewritten (Command.Rename q.from q.to) a.was.object.path n a.was.content a.content)
          (ap (λ (d : Bool). cond d (want.grown q).0.directory.address (now q a.was.object.path)) (dir_other (spotted w) a.was (done.found_all e md.part a there))) (done.says_all e md.part a there);
      written = written_all;
      stored_put = contains_here file_put pieces;
      stored_is = refl;
      stored_long = stored_long;
      whose = whose_all;
      out = out;
      map = done.map_now e pl md.part m' given bytes was image opens changed;
    }

    -- The command has done what it promises.
    pub outcome : Outcome w.q.kind was image (record { kind = w.q.kind; layout = Layout.New w.q.m; listings = w.q.listings }) (Command.Rename w.q.from w.q.to) (parts_with m' (nodes_after w.pr.change number w.q.nodes) owners')
    unfolding copying
    outcome = grown_copying_law.new (copying w md m' given owners' number after) q.from q.to puts stored was image written
