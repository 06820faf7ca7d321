-- On a disc with an old map no directory grows, and commands that neither take nor give space leave the holes.
use Rattle.std.proofs.Common.{◌≡◌, ◌⊎◌, inl, inr, ℕ, ◌*◌, Bool, true, false, cond, List, refl, sym, ap, ap₂, subst, ◌∙◌, Some, None, Option}
use Rattle.std.specs.Prelude.{Result, Ok, not, is_some, ◌==◌}
use Rattle.std.specs.Option.{option_and_then, option_map}
use Rattle.std.specs.Int.{div_ceil}
use Rattle.std.specs.Str.{bytes_eq}
use Rattle.fc_names.specs.declared.name.NameForm.TheVariants.{Seven, Ten}
use Rattle.fc_names.specs.Names.{Path, is_same_path}
use Rattle.fc_record.specs.declared.Kind.{Kind}
use Rattle.fc_oldmap.specs.OldMap.{OldMapContent}
use Rattle.fc_model.specs.Tree.{holder, last_name}
use Rattle.fc_model.specs.Command.{Command}
use Rattle.fc_dirs.specs.declared.DirFault.{DirFault}
use Rattle.fc_dirs.specs.declared.SmallForm.TheVariants.{Bytes1280, Bytes2048}
use Rattle.fc_dirs.specs.Small.{small_dir, small_fault}
use Rattle.fc_dirs.specs.Directory.{Directory, directory_of, read_or}
use Rattle.fc_image.specs.Layout.{Layout}
use Rattle.fc_image.specs.Walk.{Listing, Object, object_bytes}
use Rattle.fc_image.specs.Objects.{listing_at, object_at}
use Rattle.fc_image.specs.Opening.{Opened}
use Rattle.fc_image.specs.Stays.{OpensAs}
use Rattle.fc_image.specs.effects.Short.{Gain, gain_at, gain_by_new_name, gain_by_rename, gain_of, growth_in, growth_of, growth_with, holes_without, new_length, old_holes_after, old_need, replaced_object, with_space_of}
use Rattle.fc_changes.proofs.PlacedLemmas.{found_in}
use Rattle.fc_changes.proofs.lemmas.old.BeforeLemmas.{says_old}
use Rattle.fc_changes.proofs.lemmas.old.ChangeLemmas.{opened}
use Rattle.fc_changes.proofs.ReadsLemmas.{said}

-- ---- directories are small

abbrev IsSmall : Directory → Type 0
IsSmall (Directory.Small dir) = Unit {0}
IsSmall (Directory.Big dir) = ⊥

small_read : (b : Bool) (bytes : List ℕ) (content : Directory) → directory_of (cond b Ten Seven) bytes ≡ Ok content → IsSmall content
small_read true bytes content e = subst IsSmall (said (small_fault Bytes2048 bytes) (Directory.Small (small_dir Bytes2048 bytes)) content e) tt
small_read false bytes content e = subst IsSmall (said (small_fault Bytes1280 bytes) (Directory.Small (small_dir Bytes1280 bytes)) content e) tt

-- ---- no growth

none_grows : (gain : Gain) → IsSmall gain.listing.content → growth_of gain ≡ None
none_grows gain small = go gain.listing.content small
  where
    go : (dir : Directory) → IsSmall dir → growth_with gain.listing.object dir gain ≡ None
    go (Directory.Small dir) s = refl
    go (Directory.Big dir) s = absurd s

module _ (kind : Kind) (image : List ℕ) (space : OldMapContent) (ls : List Listing) (opens : OpensAs image kind (opened kind space ls)) where
  abbrev v : Opened
  v = opened kind space ls

  small_at : (p : Path) (l : Listing) → listing_at ls p ≡ Some l → IsSmall l.content
  small_at p l e =
      small_read (space.sector_units == 4) (object_bytes image (Layout.Old space) l.object) l.content
      (says_old kind image (Layout.Old space) ls opens l (found_in (λ (k : Listing). is_same_path p k.object.path) ls l e).0).0

  by_listing : (f : Listing → Gain) → ((l : Listing) → (f l).listing ≡ l) → (o : Option Listing) → ((l : Listing) → o ≡ Some l → IsSmall l.content) → option_and_then growth_of (option_map f o) ≡ None
  by_listing f is None small = refl
  by_listing f is (Some l) small = none_grows (f l) (subst (λ (k : Listing). IsSmall k.content) (sym (is l)) (small l refl))

  none_at : (p : Path) → option_and_then growth_of (gain_at v p) ≡ None
  none_at p = by_listing (gain_of p) (λ l. refl) (listing_at ls (holder p)) (small_at (holder p))

  if_absent : (b : Bool) (p : Path) → option_and_then growth_of (cond b None (gain_at v p)) ≡ None
  if_absent true p = refl
  if_absent false p = none_at p

  by_rename : (from to : Path) (o : Object) → option_and_then growth_of (gain_by_rename v from to o) ≡ None
  by_rename from to o = go (not (is_same_path (holder from) (holder to))) (bytes_eq o.entry.name (last_name to))
    where
      go : (a b : Bool) → option_and_then growth_of (cond a (gain_at v to) (cond b None (option_map (gain_by_new_name o.entry.name (last_name to)) (listing_at ls (holder to))))) ≡ None
      go true b = none_at to
      go false true = refl
      go false false = by_listing (gain_by_new_name o.entry.name (last_name to)) (λ l. refl) (listing_at ls (holder to)) (small_at (holder to))

  renamed : (from to : Path) (o : Option Object) → option_and_then growth_of (option_and_then (gain_by_rename v from to) o) ≡ None
  renamed from to None = refl
  renamed from to (Some o) = by_rename from to o

  pub no_growth : (c : Command) → growth_in v c ≡ None
  no_growth (Command.Cat path) = refl
  no_growth (Command.Load path) = refl
  no_growth (Command.Digest path) = refl
  no_growth (Command.Save path load exec bytes) = if_absent (is_some (object_at ls path)) path
  no_growth (Command.Create path load exec len) = if_absent (is_some (object_at ls path)) path
  no_growth (Command.Cdir path) = if_absent (is_some (object_at ls path)) path
  no_growth (Command.Delete path) = refl
  no_growth (Command.Rename from to) = renamed from to (object_at ls from)
  no_growth (Command.Set path load exec access) = refl
  no_growth Command.Free = refl
  no_growth Command.Check = refl
  no_growth Command.Compact = refl
  no_growth Command.Reclaim = refl
  no_growth (Command.Mark path attrs) = refl

-- ---- the holes

pub none_needed : (space : OldMapContent) → (space.sector_units ≡ 1) ⊎ (space.sector_units ≡ 4) → old_need space 0 ≡ 0
none_needed space (inl one) = subst (λ (u : ℕ). div_ceil 0 (256 * u) * u ≡ 0) (sym one) refl
none_needed space (inr four) = subst (λ (u : ℕ). div_ceil 0 (256 * u) * u ≡ 0) (sym four) refl

-- if the command takes nothing
pub given_alone : (space : OldMapContent) (v : Opened) (c : Command) (o : Option Object) → (space.sector_units ≡ 1) ⊎ (space.sector_units ≡ 4) → replaced_object v c ≡ o → new_length v c ≡ 0
    → with_space_of space o space.holes ≡ old_holes_after space v c
given_alone space v c o units replaced none =
    sym (ap₂ (λ (r : Option Object) (n : ℕ). with_space_of space r (holes_without (old_need space n) space.holes)) replaced none
    ∙ ap (λ (n : ℕ). with_space_of space o (holes_without n space.holes)) (none_needed space units))
