-- A path at which nothing is, by any walk whose objects the nodes hold: the directory that gets its last name.
use Rattle.std.proofs.Common.{◌≡◌, ◌<◌, ◌&&◌, ◌++◌, ◌∷◌, [], ℕ, Bool, true, false, cond, List, length, Option, Some, None, refl, sym, ap, subst, ◌∙◌, arith}
use Rattle.std.specs.Prelude.{is_some, option_map}
use Rattle.std.specs.Option.{option_and_then}
use Rattle.fc_names.specs.Names.{Path, is_same_name, is_same_path}
use Rattle.fc_model.specs.Command.{Command}
use Rattle.fc_model.specs.Tree.{holder, last_name}
use Rattle.fc_image.specs.Layout.{Layout}
use Rattle.fc_image.specs.Objects.{listing_at}
use Rattle.fc_image.specs.Opening.{Opened}
use Rattle.fc_image.specs.Sound.{AreSound}
use Rattle.fc_image.specs.Walk.{Listing, Object}
use Rattle.fc_image.specs.effects.Short.{gain_in, gain_of, growth_in, growth_of}
use Rattle.fc_image.proofs.PathsLemmas.{same_last}
use Rattle.fc_changes.proofs.ReadsLemmas.{same_name_itself}
use Rattle.fc_tree.specs.Nodes.{number_of}
use Rattle.fc_tree.proofs.PlaceLemmas.{same_number}
use Rattle.fc_tree.proofs.SoundLemmas.{folds_alike}
use Rattle.fc_tree.proofs.WalkedLemmas.{find_only, one_listing, place_of}
use Rattle.fc_laws.specs.nodes.Edits.{Nodes}
use Rattle.fc_refusals.specs.Targets.{IsVacant}
use Rattle.fc_refusals.proofs.HolderLemmas.{named}
use Rattle.fc_refusals.proofs.HolderLemmas.{named}
use Rattle.fc_commands.proofs.ArrivalLemmas.{Arrival, Brings, gain_same}
use Rattle.fc_commands.proofs.EnteredLemmas.{HasRoomMore}
use Rattle.std.proofs.lemmas.Bool.{and_from as both}

-- ---- paths

whole_path : (path : Path) → 0 < length path → path ≡ holder path ++ last_name path ∷ []
whole_path [] some = absurd (omega (arith, some))
whole_path (x ∷ path) some = (named (x ∷ path) (last_name (x ∷ path)) refl).whole

-- What stands in the holder of a path under its last name is at the path.
pub at_path : (path dir : Path) (name : List ℕ) → 0 < length path → is_same_path (holder path) dir ≡ true → name ≡ last_name path → is_same_path path (dir ++ name ∷ []) ≡ true
at_path path dir name some above same =
    subst (λ (p : Path). is_same_path p (dir ++ name ∷ []) ≡ true) (sym (whole_path path some))
    (same_last (holder path) dir (last_name path) name
    ∙ both (is_same_path (holder path) dir) (is_same_name (last_name path) name) above (subst (λ (n : List ℕ). is_same_name (last_name path) n ≡ true) (sym same) (same_name_itself (last_name path))))

-- ---- the directory

module _ (layout : Layout) (nodes : Nodes) (listings : List Listing) (sound : AreSound layout listings) (path : Path) (dir : ℕ) (spot : IsVacant nodes listings path dir) where
  abbrev pub l : Listing
  l = spot.listing

  -- its number, by the path of what comes
  pub holder_number : number_of nodes (holder path) ≡ Some dir
  holder_number = same_number nodes (holder path) l.object.path (folds_alike (holder path) l.object.path spot.above) ∙ spot.holder_is

  at_holder : listing_at listings (holder path) ≡ Some l
  at_holder =
      let at = place_of listings l spot.listed in
      find_only (λ (k : Listing). is_same_path (holder path) k.object.path) listings at.0 l at.1 spot.above
      (λ i k at_k e. one_listing layout listings sound (holder path) at.0 i l k at.1 at_k spot.above e)

  -- the name that it gets
  pub gains : (v : Opened) → v.listings ≡ listings → gain_in v (Command.Cdir path) ≡ Some (gain_of path l)
  gains v same =
      ap (λ (ls : List Listing). gain_in (record v { listings = ls }) (Command.Cdir path)) same
      ∙ ap (λ (x : Option Object). cond (is_some x) None (option_map (gain_of path) (listing_at listings (holder path)))) spot.absent ∙ ap (option_map (gain_of path)) at_holder

  -- With room for it the directory doesn't grow.
  pub no_growth : (x : Arrival) (bytes : List ℕ) (c : Command) → Brings x path bytes c → HasRoomMore spot.listing.content (last_name path) → (v : Opened) → v.listings ≡ listings → growth_in v c ≡ None
  no_growth x bytes c brings room v same =
      ap (option_and_then growth_of) (sym (gain_same x path bytes c brings v) ∙ gains v same) ∙ (room (gain_of path l) (record { name_is = refl; names_are = refl })).1 l.object
