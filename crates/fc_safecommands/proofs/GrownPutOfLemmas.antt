-- An entry comes to a directory that grows, in the safe mode: what is written in its object's sectors.
use Rattle.std.proofs.Common.{◌≡◌, ℕ, true, List, [], refl, ◌∷◌, append-nil, flat_map, sym, ap, subst, ◌∙◌, inl, inr}
use Rattle.fc_image.specs.Layout.{is_among}
use Rattle.fc_objects.specs.Extents.{sectors_in}
use Rattle.fc_writing.specs.declared.ready.Source.{Source}
use Rattle.fc_writing.specs.declared.ready.Source.TheVariants as sources
use Rattle.fc_writing.specs.Ready.{IsSourceEnough, place_of, source_from, source_place}
use Rattle.fc_commands.proofs.ArrivalLemmas.{Arrival}
use Rattle.fc_commands.proofs.GrownComerLemmas.{WritesIt}
use Rattle.fc_safecommands.proofs.GrownArrivalLemmas.{growing}
use Rattle.fc_safecommands.proofs.GrownComesLemmas.{GrownRun, own, place, sectors, writes}
use Rattle.fc_safecommands.proofs.GrownPutLemmas.{IsPutThere}

module _ (w : GrownRun) where
  none_from : (source : Source) → w.r.source ≡ source → source_from source ≡ [] → (u : ℕ) → is_among (source_from w.r.source) u ≡ true → ⊥
  none_from source is none u e = let no : is_among [] u ≡ true = ap (λ (us : List ℕ). is_among us u) (sym (ap source_from is ∙ none)) ∙ e in cc

  -- The bytes of a file are given, and a directory's are its piece.
  pub put : IsPutThere (growing w.a) (sectors w) w.r w.ready.early.made
  put = by w.a.x (writes w)
    where
      by : (y : Arrival) → WritesIt y (own w) (place w) w.ready.early.made w.r.source → IsPutThere (growing w.a) (sectors w) w.r w.ready.early.made
      by Arrival.Makes is = record {
        from = λ u e. absurd (none_from sources.Nothing is.6 refl u e);
        enough = subst IsSourceEnough (sym is.6) tt;
        place = inr (ap source_place is.6, ap (flat_map place_of) is.3 ∙ append-nil (place_of is.2) ∙ ap sectors_in is.4);
      }
      by (Arrival.Saves words) is = record {
        from = λ u e. absurd (none_from (sources.Bytes (place w).extents) is.1 refl u e);
        enough = subst IsSourceEnough (sym is.1) tt;
        place = inl (ap source_place is.1, ap (flat_map place_of) is.0);
      }
