-- Set and mark: one entry gets other words or attributes.
use Rattle.std.proofs.Common.{◌≡◌, ℕ, ◌+◌, Bool, true, false, cond, List, [], ◌∷◌, ◌++◌, refl, sym, ap, ap₂, subst, ◌∙◌, arith, Some, None, Option}
use Rattle.std.specs.Prelude.{Contains, remove, slice_set, filter}
use Rattle.std.proofs.lemmas.List.Sorted.{Contains-permutation, IsPermutation-sym}
use Rattle.fc_names.specs.Names.{Path, is_same_path}
use Rattle.fc_record.specs.declared.DiscRecord.{DiscRecord}
use Rattle.fc_record.specs.declared.Kind.{Kind}
use Rattle.fc_zone.specs.declared.RunKind.{RunKind}
use Rattle.fc_zone.specs.declared.RunKind.TheVariants as kinds
use Rattle.fc_newmap.specs.Map.{Map, ZoneRun, all_runs, hole_runs}
use Rattle.fc_newmap.specs.declared.copies.Which.TheVariants.{One, Two}
use Rattle.fc_newmap.specs.Copies.{HoldsCopies}
use Rattle.fc_model.specs.Tree.{Tree, holder}
use Rattle.fc_model.specs.Command.{Command}
use Rattle.fc_dirs.specs.declared.Entry.{Entry}
use Rattle.fc_dirs.specs.Directory.{Directory, entries_of}
use Rattle.fc_image.specs.Layout.{Layout}
use Rattle.fc_image.specs.Walk.{Listing, Object, reader_of}
use Rattle.fc_image.specs.Objects.{object_at}
use Rattle.fc_image.specs.Opening.{Opened, reserved_in}
use Rattle.fc_image.specs.Stays.{IsNewKind, OpensAs}
use Rattle.fc_image.specs.Edits.{IsListing}
use Rattle.fc_image.specs.EditedWalk.{AreListedBy}
use Rattle.fc_image.specs.MapEdits.{IsMapEdit}
use Rattle.fc_image.specs.InPlace.{says_now}
use Rattle.fc_image.specs.Rewords.{IsRewording}
use Rattle.fc_image.specs.Answered.{OpensWithTree}
use Rattle.fc_image.proofs.FreeLemmas.{copy_same}
use Rattle.fc_image.proofs.HolesLemmas.{Lies}
use Rattle.fc_image.proofs.RenameLemmas.{child_path}
use Rattle.fc_plan.proofs.Left.{left_of_none}
use Rattle.fc_image.specs.effects.Short.{growth_in}
use Rattle.fc_image.specs.effects.Placed.{made_object}
use Rattle.fc_image.specs.effects.Steady.{HasSameAddress, edited, has_id_that, holds_named, holes_with, is_gone, named_entry, runs_that, with_made, zone_holes}
use Rattle.fc_plan.specs.Giving.{is_one_of}
use Rattle.fc_changes.specs.Owed.{IsSpaceEdit}
use Rattle.fc_changes.specs.Changed.{IsRewordChange}
use Rattle.fc_changes.proofs.BasicLemmas.{first_in, without_it}
use Rattle.fc_changes.proofs.BeforeLemmas.{boot_stays, had, listed_in, map_edit, object_lies, says_old, sound}
use Rattle.fc_changes.proofs.DirectoriesLemmas.{IsPlain}
use Rattle.fc_changes.proofs.ReadsLemmas.{lies_in}

-- ---- an edit of space that does nothing

none_back : (m : Map) → runs_that (is_one_of []) m ≡ []
none_back m = none (all_runs m)
  where
    never : (k : RunKind) → has_id_that (is_one_of []) k ≡ false
    never kinds.Hole = refl
    never (kinds.Id id) = refl

    none : (ps : List ZoneRun) → filter (λ (p : ZoneRun). has_id_that (is_one_of []) p.1.kind) ps ≡ []
    none [] = refl
    none (p ∷ ps) = ap (λ (b : Bool). cond b (p ∷ filter (λ (q : ZoneRun). has_id_that (is_one_of []) q.1.kind) ps) (filter (λ (q : ZoneRun). has_id_that (is_one_of []) q.1.kind) ps)) (never p.1.kind) ∙ none ps

pub no_space_edit : (m : Map) → IsSpaceEdit m m 0 [] []
no_space_edit m = record {
  holes = λ z low. sym (ap₂ (λ (hs bs : List ZoneRun). holes_with (zone_holes hs z) (zone_holes bs z)) (left_of_none (hole_runs m)) (none_back m));
  own = λ some. absurd (omega (arith, some));
  others = λ k other. refl;
}

-- ---- one entry

module _ (kind : Kind) (r : DiscRecord) (image image' : List ℕ) (m : Map) (ls : List Listing) (c : Command) (rest : List Listing) (l : Listing) (content : Directory) (i : ℕ) (o : Object)
    (g : Object → Object) (is : IsRewording o.path g) (e : IsRewordChange kind r image image' (record { kind = kind; layout = Layout.New m; listings = ls }) m c rest l content i o g) where
  abbrev v : Opened
  v = record { kind = kind; layout = Layout.New m; listings = ls }

  abbrev new : IsNewKind kind r
  new = e.before.new_kind

  abbrev opens : OpensAs image kind v
  opens = e.before.opens

  l_in : Contains ls l
  l_in = Contains-permutation (l ∷ rest) ls l (IsPermutation-sym ls (l ∷ rest) e.found) (first_in l rest)

  copies_now : HoldsCopies m.geometry m.zones image'
  copies_now = record {
    first = copy_same m.geometry One image image' e.map_stays ∙ e.copies.first;
    second = copy_same m.geometry Two image image' e.map_stays ∙ e.copies.second;
    sound = e.copies.sound;
  }

  lies : Lies (Layout.New m) (reserved_in kind (Layout.New m)) l.object
  lies = object_lies kind r image m ls new opens l.object (listed_in kind r image m ls new opens l l_in)

  edit : (own : DiscRecord) × IsMapEdit kind r own image image' v m m (had kind r image m ls new opens).root
  edit = map_edit kind r image m ls new opens m image' e.before.is_map refl copies_now refl e.written.length_stays
      (boot_stays kind r image m ls new opens l.object.sectors image' lies.apart e.written.writes)

  says : (k : Listing) → Contains ls k → IsListing (reader_of image (Layout.New m)) (Layout.New m) k
  says k at = says_old kind r image m ls new opens edit.0 image' m edit.1 k at

-- ---- both commands

-- the command gives the object at the path another entry
pub record NamesObject (c : Command) (path : Path) : Type 0 where
  pub plain : IsPlain c
  pub none : (v : Opened) → growth_in v c ≡ None
  pub holds : (p : Path) → holds_named c p ≡ is_same_path (holder path) p
  pub kept : (p : Path) → is_gone c p ≡ false
  pub edits : (p : Path) (made : Option Entry) (es : List Entry) → edited c p made es ≡ cond (is_same_path (holder path) p) (with_made made es) es
  pub entry : (w : Opened) (x : Object) → object_at w.listings path ≡ Some x → named_entry w c ≡ Some x.entry
  pub makes : (w : Opened) → made_object w c ≡ None

pub same_address : (a b : Option Object) (x y : Object) → a ≡ Some x → b ≡ Some y → y.entry.address ≡ x.entry.address → HasSameAddress a b
same_address a b x y was is same = subst (λ (p : Option Object). HasSameAddress p b) (sym was) (subst (λ (p : Option Object). HasSameAddress (Some x) p) (sym is) same)

module _ (kind : Kind) (r : DiscRecord) (image image' : List ℕ) (m : Map) (ls : List Listing) (c : Command) (rest : List Listing) (l : Listing) (content : Directory) (i : ℕ) (o : Object)
    (g : Object → Object) (path : Path) (is : IsRewording o.path g) (e : IsRewordChange kind r image image' (record { kind = kind; layout = Layout.New m; listings = ls }) m c rest l content i o g)
    (same : is_same_path path o.path ≡ true) (names : NamesObject c path) (keeps_last : (g o).entry.last ≡ o.entry.last) (rest' : List Listing) (listed : AreListedBy g rest rest') (t : Tree)
    (w : OpensWithTree kind image' m (says_now l content (slice_set l.children i (g o)) ∷ rest') t) where
  abbrev was : Opened
  was = record { kind = kind; layout = Layout.New m; listings = ls }

  dir_in : Contains ls l
  dir_in = l_in kind r image image' m ls c rest l content i o g is e

  o_path : o.path ≡ l.object.path ++ o.entry.name ∷ []
  o_path =
      child_path (Layout.New m) l.object.path (entries_of l.content) l.children o (says kind r image image' m ls c rest l content i o g is e l dir_in).1
      (Contains-permutation (o ∷ remove l.children i) l.children o (IsPermutation-sym l.children (o ∷ remove l.children i) (without_it l.children i o e.at)) (first_in o (remove l.children i)))

  holds : is_same_path (holder path) l.object.path ≡ true
  holds = (lies_in path l.object.path o.entry.name (ap (λ (p : Path). is_same_path path p) (sym o_path) ∙ same)).holds
