-- `rename` by which a directory grows and nothing is copied, in the safe mode: it can be written, as no object gets a place by it.
use Rattle.std.proofs.Common.{◌≡◌, ◌≤◌, ◌<◌, inl, inr, ℕ, Bool, true, false, List, [], ◌∷◌, refl, sym, ap, subst, ◌∙◌, arith, Option, Some, None}
use Rattle.std.specs.Prelude.{IfSome, Vec}
use Rattle.std.specs.List.{flat_map}
use Rattle.fc_device.specs.declared.disk.Extent.{Extent}
use Rattle.std.specs.declared.alloc.Global.{Global}
use Rattle.fc_newmap.specs.Map.{map_sectors}
use Rattle.fc_image.specs.Layout.{Layout, disc_sectors, is_among, is_apart}
use Rattle.fc_image.proofs.HolesLemmas.{apart_from}
use Rattle.fc_writing.specs.declared.ready.Piece.{Piece}
use Rattle.fc_writing.specs.declared.ready.Source.{Source}
use Rattle.fc_writing.specs.declared.ready.Source.TheVariants as sources
use Rattle.fc_writing.specs.New.{CanWrite}
use Rattle.fc_writing.specs.Ready.{IsSourceEnough, place_of, source_from, source_place}
use Rattle.fc_writing.specs.Steps.{CanRoot}
use Rattle.fc_change.specs.declared.change.Turned.{Turned}
use Rattle.fc_change.specs.declared.change.Turned.TheVariants as turns
use Rattle.fc_change.specs.declared.spaces.Place.{Place}
use Rattle.fc_change.specs.GrownSpace.{root_of}
use Rattle.fc_change.specs.Prepared.{IsNewPiece, IsSourceOf}
use Rattle.fc_commands.proofs.GrownMoveToldLemmas.{entry_now}
use Rattle.fc_commands.proofs.GrownMoveWantLemmas.{no_place}
use Rattle.fc_safecrash.specs.Crash.{IsOneStep}
use Rattle.fc_safecommands.proofs.GrownMoveJobLemmas.{growing}
use Rattle.fc_safecommands.proofs.GrownMovePartsLemmas.{MoveRun, tells}
use Rattle.fc_safecommands.proofs.GrownMoveStageLemmas as stage
use Rattle.fc_safecommands.proofs.GrownPutLemmas as put_of
use Rattle.fc_safecommands.proofs.GrownPutLemmas.{IsPutThere, LiesBeside}

module _ (w : MoveRun) where
  off : (u : ℕ) → is_among [] u ≡ true → ⊥
  off u e = cc

  none : w.s.object ≡ None
  none = no_place (stage.q w.a w.s w.placed) w.a.plain

  abbrev then : Turned
  then = turns.Turns w.a.r.target.node w.a.r.holder (entry_now (stage.q w.a w.s w.placed))

  turned : w.p.change.object ≡ turns.Turns w.a.r.target.node w.a.r.holder (entry_now (stage.q w.a w.s w.placed))
  turned = (stage.tl w.a w.s w.placed w.p.change w.change).turned

  -- Nothing is copied, and no directory is made.
  nothing : w.p.ready.source ≡ sources.Nothing
  nothing = by w.s.copied (subst (λ (o : Option Place). IsSourceOf then o w.s.copied w.p.ready.source) none (subst (λ (t : Turned). IsSourceOf t w.s.object w.s.copied w.p.ready.source) turned w.ready.source))
    where
      by : (c : Option (Vec Extent Global)) → IsSourceOf then None c w.p.ready.source → w.p.ready.source ≡ sources.Nothing
      by None is = is
      by (Some v) is = is

  no_piece : w.ready.early.made ≡ []
  no_piece = subst (λ (o : Option Place). IsNewPiece then o w.ready.early.made) none (subst (λ (t : Turned). IsNewPiece t w.s.object w.ready.early.made) turned w.ready.early.makes)

  pub lies : LiesBeside (growing w.a) w.s w.placed []
  lies = record {
    free = λ u e. absurd (off u e);
    room = record { low = λ u e. absurd (off u e); once = λ i j less low same. omega (arith, low); beside = refl };
    apart = λ q at. none_apart q.sectors;
    beside = λ q st u e f. off u e;
  }
    where
      none_apart : (xs : List ℕ) → is_apart xs [] ≡ true
      none_apart xs = apart_from xs [] (λ u e f. off u f)

  pub put : IsPutThere (growing w.a) [] w.p.ready w.ready.early.made
  put = record {
    from = λ u e. absurd (off u (subst (λ (z : Source). is_among (source_from z) u ≡ true) nothing e));
    enough = subst IsSourceEnough (sym nothing) tt;
    place = inl (ap source_place nothing, ap (λ (ps : List Piece). flat_map place_of ps) no_piece);
  }

  -- ---- so it can be written

  pub can_write : IfSome (root_of w.s.grown) (CanRoot w.a.m) → (n : ℕ) → disc_sectors (Layout.New w.a.m) ≤ n → CanWrite n w.a.m w.p.ready
  can_write rooted n room = put_of.can_write (growing w.a) w.s w.placed w.p.change (tells w) w.p.ready w.ready [] lies put rooted n room

  pub one_step : IfSome (root_of w.s.grown) (CanRoot w.a.m) → IsOneStep w.p.ready
  one_step rooted = put_of.one_step (growing w.a) w.s w.placed w.p.change (tells w) w.p.ready w.ready [] lies put rooted
