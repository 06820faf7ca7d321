-- What a command has done on an image with a new map.
use Rattle.std.proofs.Common.{◌≡◌, inl, inr, ◌++◌, List, map, sym, subst}
use Rattle.fc_names.specs.Names.{Path}
use Rattle.fc_record.specs.declared.Geometry.{Geometry}
use Rattle.fc_newmap.specs.Map.{Map}
use Rattle.fc_newmap.specs.Copies.{HoldsCopies}
use Rattle.fc_model.specs.Answer.{changed}
use Rattle.fc_model.specs.Command.{Command}
use Rattle.fc_image.specs.Layout.{Layout}
use Rattle.fc_image.specs.Walk.{Listing, Object}
use Rattle.fc_image.specs.Objects.{tree_of}
use Rattle.fc_image.specs.TreeEdits.{IsMove, IsObjectEdit}
use Rattle.fc_image.proofs.TreeLemmas.{tree_edit_law}
use Rattle.fc_laws.specs.agree.Agreed.{parts_with}
use Rattle.fc_edits.specs.Edit.{objects}
use Rattle.fc_edits.specs.PartsEdit.{PartsEdit}
use Rattle.fc_edits.proofs.lemmas.NewAgreeLemmas as na
use Rattle.fc_outcomes.specs.Done.{IsDone}
use Rattle.fc_outcomes.specs.NewImage.{IsAskedOf, NewImageEdit, NewImageLaw, Outcome, RootLeft, is_now, was}
use Rattle.fc_outcomes.specs.Written.{IsEditWritten, IsNewMapWritten, KeepsPaths, MovesPaths}
use Rattle.fc_outcomes.proofs.lemmas.NewDoneLemmas.{done_new, done_new_moved}
use Rattle.fc_outcomes.proofs.lemmas.NewOutsideLemmas.{behind, copies_now, outside, sectors, ww}
use Rattle.fc_outcomes.proofs.lemmas.NewSpaceLemmas.{map_steady}
use Rattle.fc_outcomes.proofs.lemmas.PlainLemmas.{map_rooted, map_written}
use Rattle.fc_outcomes.proofs.lemmas.PutLemmas.{edit_written}
use Rattle.fc_outcomes.proofs.lemmas.SteadyLemmas.{directories_steady}

module _ (x : NewImageEdit) where
  abbrev mem : PartsEdit
  mem = na.held_edit x.parts

  abbrev m : Map
  m = x.parts.m

  abbrev m' : Map
  m' = x.parts.m'

  pub written : IsEditWritten x.image x.image' (Layout.New m) (Layout.New m') x.parts.nodes x.parts.listings x.parts.edit
  written = edit_written mem x.puts x.image x.image' x.out x.puts_of (λ i. (x.places.geometry i).sector)

  map_now : IsNewMapWritten x.parts.kind x.r x.image x.image' m m' x.parts.listings x.parts.edit
  map_now = by x.root
    where
      by : RootLeft x.parts x.r x.image' → IsNewMapWritten x.parts.kind x.r x.image x.image' m m' x.parts.listings x.parts.edit
      by (inl s) = map_written x.parts x.r x.image x.image' x.new_kind x.opens x.out.length_stays (sectors x) (ww x) s.after s.stays
      by (inr t) = map_rooted x.parts x.r x.image x.image' x.new_kind x.opens x.out.length_stays (sectors x) (ww x) t

  outcome : (c : Command) (d : IsDone x.parts.kind x.image' (Layout.New m') x.parts.nodes' x.parts.owners' x.parts.edit) → IsAskedOf x c
      → tree_of x.image' (Layout.New m') d.found ≡ changed (tree_of x.image (Layout.New m) x.parts.listings) c
      → Outcome x.parts.kind x.image x.image' (was x) c (parts_with m' x.parts.nodes' x.parts.owners')
  outcome c d asked tree =
      let sound = tree_edit_law.opened x.image' x.parts.kind (is_now x d.found) d.opens in
      let q = asked d.found sound d.order in (
        is_now x d.found,
        record {
          opens = record { opens = d.opens; copies = subst (λ (g : Geometry). HoldsCopies g m'.zones x.image') (sym x.places.geometry) (copies_now x) };
          tree = tree;
          placed = q.placed;
          steady = record {
            directories = directories_steady mem d.found x.image x.image' c x.opens written sound d.order q.directories;
            named = q.named;
            entry = q.entry;
            made = q.made;
            space = map_steady x c d.found d.order sound q.map;
            outside = outside x c d.found q.root_keeps;
            behind = behind x;
          };
        },
        d.parts,
      )

  pub changes_by : (c : Command) (changing : List Object) → KeepsPaths x.image x.image' (Layout.New m) (Layout.New m') x.parts.nodes x.parts.listings x.parts.edit changing → IsAskedOf x c
      → ((found : List Listing)
      → IsObjectEdit x.image x.image' (Layout.New m) (Layout.New m') x.parts.listings found (changing ++ objects x.parts.edit.gone) (map x.parts.edit.turn changing ++ objects x.parts.edit.come)
      → tree_of x.image' (Layout.New m') found ≡ changed (tree_of x.image (Layout.New m) x.parts.listings) c)
      → Outcome x.parts.kind x.image x.image' (was x) c (parts_with m' x.parts.nodes' x.parts.owners')
  changes_by c changing keeps asked tree =
      let d = done_new x.parts x.r x.image x.image' x.new_kind x.opens written map_now changing keeps in outcome c d.0 asked (tree d.0.found d.1)

  pub moves_by : (c : Command) (from to : Path) → MovesPaths x.image x.image' (Layout.New m) (Layout.New m') x.parts.nodes x.parts.listings x.parts.edit from to → IsAskedOf x c
      → ((found : List Listing) → IsMove x.image x.image' (Layout.New m) (Layout.New m') x.parts.listings found from to
      → tree_of x.image' (Layout.New m') found ≡ changed (tree_of x.image (Layout.New m) x.parts.listings) c)
      → Outcome x.parts.kind x.image x.image' (was x) c (parts_with m' x.parts.nodes' x.parts.owners')
  moves_by c from to moves asked tree =
      let d = done_new_moved x.parts x.r x.image x.image' x.new_kind x.opens written map_now from to moves in outcome c d.0 asked (tree d.0.found d.1)

pub new_image_law : NewImageLaw
new_image_law = record {
  space = λ x c found order sound asked. map_steady x c found order sound asked;
  outside = λ x c found asked. outside x c found asked;
  behind = λ x. behind x;
  changes = λ x c changing keeps asked tree. changes_by x c changing keeps asked tree;
  moves = λ x c from to moves asked tree. moves_by x c from to moves asked tree;
}
