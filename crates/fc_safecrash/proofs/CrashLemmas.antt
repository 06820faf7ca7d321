-- What a crash inside a command of the safe mode leaves.
use Rattle.std.proofs.Common.{◌≡◌, inl, inr, ⊎_elim, ℕ, false, List, [], ◌++◌, sym, ap, subst, ◌∙◌}
use Rattle.std.specs.Prelude.{Contains, Err, Ok}
use Rattle.std.specs.List.{flat_map}
use Rattle.std.proofs.lemmas.List.{append-nil}
use Rattle.fc_newmap.specs.Map.{Map, map_sectors}
use Rattle.fc_newmap.proofs.PlaceLemmas.{in_either}
use Rattle.fc_newmap.specs.Copies.{Chooses}
use Rattle.fc_model.specs.Tree.{Tree}
use Rattle.fc_image.specs.Layout.{is_among}
use Rattle.fc_image.specs.Objects.{objects_of, tree_of}
use Rattle.fc_image.specs.safe.SafeEffect.{HasTree, HasTreeBeforeOrAfter}
use Rattle.fc_image.proofs.StoredLemmas.{stored_tree}
use Rattle.fc_changes.proofs.OutsideLemmas.{AreBusy, idle_stay}
use Rattle.fc_writing.specs.declared.ready.Piece.{Piece}
use Rattle.fc_writing.specs.declared.ready.Ready.{Ready}
use Rattle.fc_writing.specs.Content.{Content, IsPart}
use Rattle.fc_writing.specs.Laws.{ChangesOnly}
use Rattle.fc_writing.specs.New.{ChangeLeaves, IsChanged, IsTaken}
use Rattle.fc_writing.specs.Ready.{content_of, early_content, written_place}
use Rattle.fc_writing.proofs.CopyLemmas.{chooses_first}
use Rattle.fc_writing.proofs.LeavesLemmas.{leaves_law}
use Rattle.fc_safelaws.specs.Free.{ChangesFree, MappedImage, view}
use Rattle.fc_safelaws.proofs.FreeLemmas.{free_space_law}
use Rattle.fc_safecrash.specs.Crash.{CrashLaw, KeepsRest, LeadsTo, WritesFree}
use Rattle.fc_safecrash.proofs.BusyLemmas.{free_busy, the_map}
use Rattle.std.proofs.lemmas.Bool.{false_from_ne_true as unless}

-- in neither list, so not in both
pub neither : (xs ys : List ℕ) (s : ℕ) → is_among xs s ≡ false → is_among ys s ≡ false → is_among (xs ++ ys) s ≡ false
neither xs ys s a b = unless (is_among (xs ++ ys) s) (λ h. elim (in_either xs ys s h) [
  | Ok x ↦ (let no = a in cc)
  | Err y ↦ (let no = b in cc)
])

module _ (x : MappedImage) (r : Ready) (free : WritesFree x r) where
  pub outside : (image : List ℕ) → ChangesOnly x.m.geometry.sector (written_place r ++ map_sectors x.m.geometry) x.image image → ChangesFree x.m.geometry (written_place r) x.image image
  outside image only = record { same_length = only.length_stays; outside = λ s out unmapped. only.outside s (neither (written_place r) (map_sectors x.m.geometry) s out unmapped) }

  busy : AreBusy x.m (objects_of x.listings) (written_place r)
  busy = free_busy x (written_place r) free

  pub rest' : (bytes image : List ℕ) → ChangeLeaves x.m r bytes x.image image → KeepsRest x r image
  rest' bytes image leaves =
      let only = leaves_law.frame x.m r bytes x.image image leaves in
      let changes = outside image only in record {
        only = only;
        boot = free_space_law.boot x (written_place r) image (free_space_law.sectors x (written_place r) free) changes;
        idle = idle_stay x.m (objects_of x.listings) (the_map x).some (the_map x).shape (the_map x).zones x.image image (written_place r) busy changes.outside;
      }

  unturned : (bytes image : List ℕ) → ChangeLeaves x.m r bytes x.image image → Chooses x.m.geometry x.m.zones image → HasTree x.kind (tree_of x.image (view x).layout x.listings) image
  unturned bytes image leaves chooses =
      let w = free_space_law.opens x (written_place r) image (free_space_law.sectors x (written_place r) free) (outside image (leaves_law.frame x.m r bytes x.image image leaves)) chooses in
      record { view = view x; opens = w.0; tree = stored_tree x.image image (view x) (view x) w.1 }

crash' : (x : MappedImage) (r : Ready) (bytes : List ℕ) (t : Tree) (image : List ℕ) → LeadsTo x r bytes t → ChangeLeaves x.m r bytes x.image image
    → HasTreeBeforeOrAfter x.kind (record { image = x.image; view = view x }) t image
crash' x r bytes t image leads leaves =
    ⊎_elim (λ stage. inl (unturned x r leads.free bytes image leaves stage.map))
    (λ stage. let n = stage.map in inr (leads.after n.0 image n.1 (record { written = stage.written; sectors = stage.sectors; map = n.2 })))
    (leaves_law.turns x.m r bytes x.image image leads.one_step.none_late leads.one_step.none_back leads.one_step.narrow leaves)

done' : (x : MappedImage) (r : Ready) (bytes : List ℕ) (t : Tree) (m' : Map) (image : List ℕ) → LeadsTo x r bytes t → IsTaken x.m r m' → IsChanged x.m m' r bytes x.image image → HasTree x.kind t image
done' x r bytes t m' image leads taken changed =
    let size = x.m.geometry.sector in
    let early : Content = early_content size x.image bytes r in
    let none : flat_map (content_of size) r.late.items ≡ [] = ap (λ (ps : List Piece). flat_map (content_of size) ps) leads.one_step.none_late in
    let all = ap (λ (c : Content). early ++ c) none in
    leads.after m' image taken (record {
      written = λ w at. changed.written w (subst (λ (c : Content). Contains c w) (sym (all ∙ append-nil early)) at);
      sectors = subst (λ (c : Content). IsPart size (map_sectors x.m.geometry) c x.image image) all changed.others;
      map = chooses_first x.m.geometry m'.zones image changed.copies;
    })

pub crash_law : CrashLaw
crash_law = record { crash = crash'; rest = λ x r bytes image free leaves. rest' x r free bytes image leaves; done = done' }
