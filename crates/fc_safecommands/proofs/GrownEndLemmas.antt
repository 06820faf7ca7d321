-- An entry comes to a directory that grows, in the safe mode: what its course leaves.
use Rattle.std.proofs.Common.{◌≡◌, ◌<◌, ◌≤◌, inl, inr, ℕ, Bool, true, false, List, [], ◌∷◌, length, refl, sym, ap, ap₂, subst, ◌∙◌, arith, Option, Some, None}
use Rattle.std.specs.Prelude.{Contains, IfSome}
use Rattle.std.specs.FinMap.{get}
use Rattle.std.specs.Option.{option_and_then}
use Rattle.std.proofs.lemmas.Bool.{eqb-true}
use Rattle.fc_alloc.specs.declared.owner.Owner.{Owner}
use Rattle.fc_record.specs.declared.DiscRecord.{DiscRecord}
use Rattle.fc_newmap.specs.Map.{Map}
use Rattle.fc_holdings.specs.Holdings.{TellsVersion}
use Rattle.fc_model.specs.Answer.{changed}
use Rattle.fc_model.specs.Command.{Command}
use Rattle.fc_model.specs.Tree.{holder, last_name}
use Rattle.fc_image.specs.Layout.{Layout, dir_form, disc_sectors, is_among}
use Rattle.fc_image.specs.Objects.{objects_of, tree_of}
use Rattle.fc_image.specs.Opening.{Opened}
use Rattle.fc_image.specs.Stays.{IsNewKind, OpensAs}
use Rattle.fc_image.specs.effects.Placed.{is_written_empty}
use Rattle.fc_image.specs.effects.Sharing.{slack, units}
use Rattle.fc_image.specs.effects.Short.{object_units, slack_for as slack_of}
use Rattle.fc_image.specs.safe.SafeEffect.{HasTree}
use Rattle.fc_image.specs.safe.SafeSteady.{SafeObjectPlaced}
use Rattle.fc_laws.specs.agree.Agreed.{parts_with}
use Rattle.fc_placing.specs.Places.{slack_left}
use Rattle.fc_placing.proofs.SlackLemmas.{same_slack}
use Rattle.fc_tree.specs.Agree.{Agree}
use Rattle.fc_tree.specs.Nodes.{number_of}
use Rattle.fc_writing.specs.New.{CanWrite, IsChanged, IsTaken}
use Rattle.fc_writing.specs.Ready.{written_place}
use Rattle.fc_writing.specs.Steps.{CanRoot}
use Rattle.fc_change.specs.After.{AreOwnersAfter, nodes_after, owners_admitted}
use Rattle.fc_change.specs.GrownSpace.{root_of}
use Rattle.fc_change.specs.Shortage.{slack_for}
use Rattle.fc_commands.proofs.ArrivalLemmas.{Arrival, Brings, bytes_of}
use Rattle.fc_commands.proofs.ArrivalPlaceLemmas.{shares_of}
use Rattle.fc_commands.proofs.VacantLemmas as vacant
use Rattle.fc_safelaws.specs.Free.{IsFreeSector}
use Rattle.fc_safecrash.specs.Crash.{IsOneStep, IsThere}
use Rattle.fc_safeedits.specs.SafeOutcome.{SafeOutcome}
use Rattle.fc_safeedits.specs.SafeSpace.{SafeSpaceLaw}
use Rattle.fc_safeedits.specs.SafeWriting.{SafeWritingLaw}
use Rattle.fc_safeedits.specs.SafeGrownAddition.{SafeGrownAddition, SafeGrownAdditionLaw, TakesForGrown}
use Rattle.fc_safeedits.specs.SafeGrowth.{IsRecorded, IsWholeGrown}
use Rattle.fc_safecommands.specs.Laws.{mapped}
use Rattle.fc_safecommands.proofs.GrownAddedLemmas as parts_of
use Rattle.fc_safecommands.proofs.GrownArrivalLemmas.{growing, number as its_number, sound, want}
use Rattle.fc_safecommands.proofs.GrownComesLemmas.{GrownRun, o, sectors}
use Rattle.fc_safecommands.proofs.GrownDoneLemmas as done_of
use Rattle.fc_safecommands.proofs.GrownEditionLemmas.{c_add, grows}
use Rattle.fc_safecommands.proofs.GrownImageLemmas as image_of
use Rattle.fc_safecommands.proofs.GrownItsSpotLemmas.{its_spot}
use Rattle.fc_safecommands.proofs.GrownOldLemmas.{tells_these}
use Rattle.fc_safecommands.proofs.GrownPutLemmas as put_of
use Rattle.fc_safecommands.proofs.GrownPutOfLemmas.{put}
use Rattle.fc_safecommands.proofs.GrownRecordLemmas as record_of
use Rattle.fc_safecommands.proofs.GrownStirLemmas.{GrowingJob, own_bytes}
use Rattle.fc_safecommands.proofs.GrownTakesLemmas as takes_of

module _ (w : GrownRun) (version : TellsVersion (Layout.New w.a.m)) where
  abbrev x : GrowingJob
  x = growing w.a

  abbrev pub can_be : IfSome (root_of w.s.grown) (CanRoot w.a.m)
  can_be = record_of.rooted (growing w.a) w.s w.placed version

  pub can_write : (n : ℕ) → disc_sectors (Layout.New w.a.m) ≤ n → CanWrite n w.a.m w.r
  can_write n room = put_of.can_write x w.s w.placed w.c (tells_these w) w.r w.ready (sectors w) (its_spot w).lies (put w) can_be n room

  pub one_step : IsOneStep w.r
  one_step = put_of.one_step x w.s w.placed w.c (tells_these w) w.r w.ready (sectors w) (its_spot w).lies (put w) can_be

  pub written_free : (u : ℕ) → is_among (written_place w.r) u ≡ true → IsFreeSector w.a.m (objects_of w.a.listings) u
  written_free u e = put_of.written_free x w.s w.placed w.c (tells_these w) w.r w.ready (sectors w) (its_spot w).lies (put w) can_be u e

  -- ---- what it takes

  abbrev v : Opened
  v = record { kind = w.a.kind; layout = Layout.New w.a.m; listings = w.a.listings }

  -- the slack that the object has is the command's
  slack_same : (bytes : List ℕ) → Brings w.a.x w.a.path bytes w.a.command → slack_for w.a.m w.a.owners w.a.wants ≡ slack_of v w.a.command
  slack_same bytes brings = by w.a.x brings (want w.a).slack (want w.a).bytes
    where
      near : number_of w.a.nodes (holder w.a.path) ≡ Some w.a.dir
      near = vacant.holder_number (Layout.New w.a.m) w.a.nodes w.a.listings (sound w.a) w.a.path w.a.dir w.a.spot

      by_len : (len : ℕ) → w.a.wants.shares ≡ Some w.a.dir → w.a.wants.bytes ≡ len → slack_for w.a.m w.a.owners w.a.wants ≡ slack w.a.m (objects_of w.a.listings) (holder w.a.path) len
      by_len len shares long =
          ap₂ (λ (d : Option ℕ) (n : ℕ). option_and_then (λ (k : ℕ). slack_left w.a.m w.a.owners k n) d) shares long
          ∙ same_slack w.a.m w.a.nodes w.a.listings w.a.owners (holder w.a.path) w.a.dir len w.a.agreed.is_map (sound w.a) w.a.agreed.walked.held w.a.agreed.owned near

      by : (b : Arrival) → Brings b w.a.path bytes w.a.command → w.a.wants.shares ≡ shares_of w.a.dir b → w.a.wants.bytes ≡ bytes_of (dir_form (Layout.New w.a.m)) b → slack_for w.a.m w.a.owners w.a.wants ≡ slack_of v w.a.command
      by Arrival.Makes cdir shares long = ap (λ (d : Option ℕ). option_and_then (λ (k : ℕ). slack_left w.a.m w.a.owners k w.a.wants.bytes) d) shares ∙ sym (ap (slack_of v) cdir)
      by (Arrival.Saves words) (inl save) shares long = by_len (length bytes) shares (long ∙ save.1) ∙ sym (ap (slack_of v) save.0)
      by (Arrival.Saves words) (inr create) shares long = by_len words.len shares long ∙ sym (ap (slack_of v) create.0)

  empty_is : (bytes : List ℕ) → Brings w.a.x w.a.path bytes w.a.command → is_written_empty w.a.command ≡ true → (o w).entry.address ≡ 0
  empty_is bytes brings e = (its_spot w).empty (by w.a.x brings (want w.a).bytes e)
    where
      by : (b : Arrival) → Brings b w.a.path bytes w.a.command → w.a.wants.bytes ≡ bytes_of (dir_form (Layout.New w.a.m)) b → is_written_empty w.a.command ≡ true → w.a.wants.bytes ≡ 0
      by Arrival.Makes cdir long f = absurd (let no : false ≡ true = sym (ap is_written_empty cdir) ∙ f in cc)
      by (Arrival.Saves words) (inl save) long f = long ∙ save.1 ∙ eqb-true (length bytes) 0 (sym (ap is_written_empty save.0) ∙ f)
      by (Arrival.Saves words) (inr create) long f = long ∙ eqb-true words.len 0 (sym (ap is_written_empty create.0) ∙ f)

  -- ---- after it

  module _ (number : ℕ) (free : get w.a.nodes number ≡ None) (law : SafeSpaceLaw) (m' : Map) (taken : IsTaken w.a.m w.r m') (owners' : List Owner)
      (after : AreOwnersAfter (Layout.New m') w.a.nodes w.c (owners_admitted (Layout.New w.a.m) w.c.object number w.a.owners) owners') where
    pub agrees : SafeGrownAdditionLaw → Agree w.a.kind (parts_with m' (nodes_after w.c number w.a.nodes) owners')
    agrees grown = grown.agrees (parts_of.moved w number free (its_spot w) law m' taken owners' after) (parts_of.added w number free (its_spot w) law m' taken owners' after)

    pub same : m'.geometry ≡ w.a.m.geometry
    same = parts_of.same w number free (its_spot w) law m' taken owners' after

    module _ (bytes : List ℕ) (brings : Brings w.a.x w.a.path bytes w.a.command) (writing : SafeWritingLaw) (disc : DiscRecord) (image : List ℕ) (new_kind : IsNewKind w.a.kind disc)
        (opens : OpensAs image w.a.kind (record { kind = w.a.kind; layout = Layout.New w.a.m; listings = w.a.listings })) (image' : List ℕ) (there : IsThere (mapped w.a.m (image_of.by (growing w.a) disc image new_kind opens)) w.r bytes m' image') where
      it : record_of.IsItsGrowing (growing w.a) w.s w.placed (grows w number)
      it = record { there = (parts_of.of w).there; number = its_number w.a; address = refl; len = refl }

      recorded : IsRecorded (done_of.change w number free (its_spot w) law m' taken owners' after (put w) can_be bytes brings writing disc image new_kind opens image' there) (grows w number)
      recorded =
          record_of.recorded x w.s w.placed disc image new_kind opens w.c (tells_these w) w.r w.ready (sectors w) (its_spot w).lies (put w) can_be m' taken law writing (nodes_after w.c number w.a.nodes) owners' bytes image' there version (grows w number) it

      done : SafeGrownAddition
      done = done_of.addition w number free (its_spot w) law m' taken owners' after (put w) can_be bytes brings writing disc image new_kind opens image' there recorded

      -- The image has the tree after the command,
      pub tree : SafeGrownAdditionLaw → HasTree w.a.kind (changed (tree_of image (Layout.New w.a.m) w.a.listings) w.a.command) image'
      unfolding done
      tree grown = grown.tree done

      takes : TakesForGrown (parts_of.moved w number free (its_spot w) law m' taken owners' after) w.a.command (o w) (grows w number)
      takes =
          takes_of.takes w.a w.s w.placed (o w) (grows w number) refl (its_spot w).first w.c (tells_these w) w.r w.ready m' taken law (nodes_after w.c number w.a.nodes) owners'
          (subst (λ (n : ℕ). SafeObjectPlaced w.a.m m' n (slack_of v w.a.command) (Some (o w))) (takes_of.units_are w.a w.s w.placed)
          (subst (λ (share : Option (ℕ × ℕ)). SafeObjectPlaced w.a.m m' (units w.a.m.geometry (own_bytes x)) share (Some (o w))) (slack_same bytes brings)
          ((its_spot w).object m' (parts_of.map_then w number free (its_spot w) law m' taken owners' after)))) (empty_is bytes brings)

      -- and once all is written, the command has done what it promises.
      pub outcome : SafeGrownAdditionLaw → IsChanged w.a.m m' w.r bytes image image'
          → SafeOutcome w.a.kind image image' (record { kind = w.a.kind; layout = Layout.New w.a.m; listings = w.a.listings }) w.a.command (parts_with m' (nodes_after w.c number w.a.nodes) owners')
      unfolding done
      outcome grown is =
          grown.outcome done takes
          (record_of.whole x w.s w.placed disc image new_kind opens w.c (tells_these w) w.r w.ready (sectors w) (its_spot w).lies (put w) can_be m' taken law writing (nodes_after w.c number w.a.nodes) owners' bytes image' there version (grows w number) it is)
