-- A job that saves over a file, made ready: what is known of each stage.
use Rattle.std.proofs.Common.{◌≡◌, ℕ, List, [], ◌∷◌, ap, subst, ◌∙◌, Option, Some, None}
use Rattle.std.specs.Option.{option_map, unwrap_or}
use Rattle.fc_image.specs.Layout.{Layout}
use Rattle.fc_laws.specs.nodes.Edits.{Nodes}
use Rattle.fc_objects.specs.Extents.{sectors_in}
use Rattle.fc_refusals.specs.declared.target.Target.{Target}
use Rattle.fc_tree.specs.Parts.{Parts}
use Rattle.fc_change.specs.declared.change.Change.{Change}
use Rattle.fc_change.specs.declared.change.Says.{Says}
use Rattle.fc_change.specs.declared.job.FileWords.{FileWords}
use Rattle.fc_change.specs.declared.spaces.Place.{Place}
use Rattle.fc_change.specs.declared.spaces.Spaces.{Spaces}
use Rattle.fc_change.specs.Drafts.{address_in}
use Rattle.fc_change.specs.Prepared.{IsPieceOf, IsReadyFor}
use Rattle.fc_writing.specs.declared.ready.Piece.{Piece}
use Rattle.fc_writing.specs.declared.ready.Ready.{Ready}
use Rattle.fc_commands.specs.declared.stages.Prepared.{Prepared}
use Rattle.fc_commands.specs.Stages.{IsPreparedFor}
use Rattle.fc_commands.proofs.ArrivalLemmas.{Arrival}
use Rattle.fc_commands.proofs.ArrivalPlaceLemmas.{IsItsPlace, WantsPlace, its_place}
use Rattle.fc_commands.proofs.ArrivalReadyLemmas.{WritesOwn, early_made, file_written, its_piece, made_of, source_of}
use Rattle.fc_commands.proofs.OverStageLemmas.{IsOverChange, job_of, over_change, over_wants}
use Rattle.fc_commands.proofs.TwoPieceLemmas.{IsTwoPieces}

-- ---- what is ready

-- The file's bytes come first, and its directory last.
pub record IsOverReady (layout : Layout) (nodes : Nodes) (words : FileWords) (sectors : List ℕ) (said : Says) (s : Spaces) (r : Ready) : Type 0 where
  pub piece : Piece
  pub is_piece : IsPieceOf layout nodes said piece
  pub late : r.late.items ≡ piece ∷ []
  pub own : WritesOwn (Arrival.Saves words) sectors r
  pub take : r.take ≡ s.take
  pub give : r.give ≡ s.give

over_ready : (h : Parts) (c : Change) (s : Spaces) (r : Ready) (its : IsItsPlace s) (is : IsReadyFor h c s r) (t : Target) (words : FileWords) (address : ℕ) (ch : IsOverChange h.nodes t words address c)
    → IsOverReady h.layout h.nodes words (sectors_in its.place.extents.items) ch.said s r
over_ready h c s r its is t words address ch =
    let p = its_piece h c s r its is ch.said ch.says in
    record {
      piece = p.0;
      is_piece = p.2;
      late = p.1;
      own = file_written words its.place r (source_of h c s r its is _ ch.turns) is.carried (early_made h c s r its is ∙ made_of h c s r its is _ ch.turns);
      take = is.take;
      give = is.give;
    }

-- ---- the stages

module _ (h : Parts) (t : Target) (words : FileWords) (name : List ℕ) (p : Prepared) (prep : IsPreparedFor h (job_of t words) name p) where
  pub wants_are : WantsPlace h t.holder (Arrival.Saves words) prep.wants
  wants_are = (over_wants h t words name prep.wants prep.spaced.wants).0

  pub goes : prep.wants.goes ≡ Some t.node
  goes = (over_wants h t words name prep.wants prep.spaced.wants).1

  pub its : IsItsPlace prep.spaces
  its = its_place h t.holder (Arrival.Saves words) prep.wants wants_are prep.spaces prep.spaced.places

  pub change : IsOverChange h.nodes t words its.place.address p.change
  change =
      subst (λ (a : ℕ). IsOverChange h.nodes t words a p.change) (ap (λ (o : Option Place). unwrap_or (option_map (λ (q : Place). q.address) o) 0) its.is)
      (over_change h t words name prep.spaces p.change its.grown prep.change)

  pub ready : IsOverReady h.layout h.nodes words (sectors_in its.place.extents.items) change.said prep.spaces p.ready
  ready = over_ready h p.change prep.spaces p.ready its prep.ready t words its.place.address change

  pub two : IsTwoPieces p.ready (sectors_in its.place.extents.items) ready.piece
  two = record { plain = ready.own.plain; carried = ready.own.carried; early = ready.own.place; late = ready.late }
