-- The image after an edit by which identifiers move.
use Rattle.std.proofs.Common.{◌≡◌, ◌⊎◌, inl, inr, ⊎_elim, ℕ, Bool, cond, List, [], ◌++◌, map, refl, sym, ap, subst, ◌∙◌}
use Rattle.std.specs.Prelude.{Contains, IsPermutation, Ok}
use Rattle.std.proofs.lemmas.List.{append_assoc}
use Rattle.std.proofs.lemmas.List.Elements.{Contains-append_cases, Contains-append_right}
use Rattle.std.proofs.lemmas.List.Sorted.{IsPermutation-append_left}
use Rattle.fc_names.specs.Names.{Path}
use Rattle.fc_names.specs.declared.name.NameForm.{NameForm}
use Rattle.fc_record.specs.declared.DiscRecord.{DiscRecord}
use Rattle.fc_dirs.specs.declared.Entry.{Entry}
use Rattle.fc_dirs.specs.Directory.{directory_size}
use Rattle.fc_newmap.specs.Map.{Map}
use Rattle.fc_model.specs.Tree.{last_name}
use Rattle.fc_image.specs.Layout.{Layout}
use Rattle.fc_image.specs.Walk.{Listing, Object, reader_of, root_entry}
use Rattle.fc_image.specs.Objects.{objects_of}
use Rattle.fc_image.specs.Opening.{agreement, difference, reserved_in}
use Rattle.fc_image.specs.TreeEdits.{IsMove, IsObjectEdit}
use Rattle.fc_image.specs.Commanded.{IsKept, IsMoved}
use Rattle.fc_image.specs.Order.{held}
use Rattle.fc_image.proofs.OpenedLemmas.{edited_image_law}
use Rattle.fc_image.proofs.OrderLemmas.{order_law}
use Rattle.fc_tree.proofs.MemberLemmas.{contains_here, from_map, no_element}
use Rattle.fc_laws.proofs.lemmas.nodes.ListLemmas.{in_first}
use Rattle.fc_edits.specs.Edit.{Amended, Edit, objects}
use Rattle.fc_edits.specs.Places.{Stays}
use Rattle.fc_outcomes.specs.Done.{IsDone}
use Rattle.fc_outcomes.specs.Written.{IsEditWritten, IsNewMapWritten, KeepsPaths, MovesPaths}
use Rattle.fc_outcomes.proofs.lemmas.NewDoneLemmas.{done_new, done_new_moved}
use Rattle.fc_safelaws.proofs.FreeLemmas.{free_space_law}
use Rattle.fc_safeedits.specs.Relocation.{Relocation, all_amended, amended_in, relocated, turned_in}
use Rattle.fc_safeedits.specs.SafeImage.{KeepsAllPaths, MovesAllPaths, RootAnew, RootKept, SafeImage, SafeImageLaw, before_image}
use Rattle.fc_safeedits.proofs.lemmas.LaidLemmas.{amended_or_told}
use Rattle.fc_safeedits.proofs.lemmas.RelocatedLemmas.{extra, the_top, turned_entry, turned_path}
use Rattle.fc_safeedits.proofs.lemmas.RelocatedNodesLemmas.{carried_stays, relocation_law}
use Rattle.fc_safeedits.proofs.lemmas.SafeBytesLemmas as b_
use Rattle.fc_safeedits.proofs.lemmas.SafePartsLemmas.{parts}
use Rattle.fc_image.proofs.TreeLemmas.{map_both as map_append}

module _ (y : SafeImage) where
  abbrev x : Relocation
  x = y.parts.move

  abbrev m : Map
  m = x.m

  abbrev m' : Map
  m' = x.m'

  abbrev listings : List Listing
  listings = x.listings

  abbrev e : Edit
  e = x.edit

  pub written : IsEditWritten y.image y.image' (Layout.New m) (Layout.New m') x.nodes listings (relocated x)
  written = record {
    sector = λ i. (y.parts.places.geometry i).sector;
    length_stays = y.is_written.changes.same_length;
    says = λ b at.
        (let a = from_map (amended_in x) (all_amended x) b at in
        subst (λ (c : Amended). reader_of y.image' (Layout.New m') (turned_in x c.was.object) ≡ Ok c.content) a.2
        (⊎_elim (λ amended. y.is_written.says a.0 amended)
        (λ k. subst (λ (c : Amended). reader_of y.image' (Layout.New m') (turned_in x c.was.object) ≡ Ok c.content) k.2 (b_.told_says y k.0 k.1)) (amended_or_told x a.0 a.1)));
    into_say = y.is_written.into_say;
    stays = λ o s other. b_.object_stays y o s.among;
    carried = λ k n at. absurd (no_element k at);
  }

  -- ---- the map

  pub map_now : IsNewMapWritten y.parts.kind y.r y.image y.image' m m' listings (relocated x)
  map_now = by y.root_is
    where
      turned_top : (o : Object) → Contains (objects_of listings) o → o.path ≡ [] → (turned_in x o).entry ≡ (e.turn x.top).entry
      turned_top o at path = turned_entry x o ∙ ap (λ (p : Object). (e.turn p).entry) (sym (the_top x o at path))

      by : RootKept x ⊎ RootAnew x y.r → IsNewMapWritten y.parts.kind y.r y.image y.image' m m' listings (relocated x)
      by (inl t) =
          let k = edited_image_law.map y.image y.parts.kind y.r (record { kind = y.parts.kind; layout = Layout.New m; listings = listings }) m y.new_kind y.opens refl in
          let h = order_law.gives (reader_of y.image (Layout.New m)) (Layout.New m) (reserved_in y.parts.kind (Layout.New m)) k.own.root k.own.root_size listings k.walked in
          let there : Contains (objects_of listings) h.0 = subst (λ (os : List Object). Contains os h.0) (sym h.4) (contains_here h.0 (held listings)) in
          let one : x.top ≡ h.0 = the_top x h.0 there h.1.path in
          record {
            own = k.own;
            agreed = ap (λ (s : DiscRecord). agreement y.r s (difference y.r s)) t.record_stays ∙ k.agreed;
            chosen_map = y.chosen;
            boot_stays = free_space_law.boot (before_image y) y.written y.image' (b_.free y) y.is_written.changes;
            root_now = λ o at path. turned_top o at path ∙ t.stays.keeps.entry ∙ ap (λ (p : Object). p.entry) one ∙ h.1.entry
                ∙ ap (λ (f : NameForm). root_entry k.own.root (directory_size f k.own.root_size)) (sym (b_.form y));
          }
      by (inr t) = record {
        own = t.own;
        agreed = t.agreed;
        chosen_map = y.chosen;
        boot_stays = free_space_law.boot (before_image y) y.written y.image' (b_.free y) y.is_written.changes;
        root_now = λ o at path. turned_top o at path ∙ t.entry;
      }

  -- ---- what it is to the tree

  moving_parted : objects (relocated x).moving ≡ objects e.moving ++ objects (extra x)
  moving_parted = map_append (λ (p : ℕ × Object). p.1) e.moving (extra x)

  extra_stays : (o : Object) → Contains (objects (extra x)) o → Stays x.nodes listings e o
  extra_stays o at =
      let q = from_map (λ (p : ℕ × Object). p.1) (extra x) o at in
      subst (Stays x.nodes x.listings x.edit) q.2 (carried_stays x q.0 q.1).0

  pub keeps_paths : (changing : List Object) → KeepsAllPaths x changing → KeepsPaths y.image y.image' (Layout.New m) (Layout.New m') x.nodes listings (relocated x) changing
  keeps_paths changing k = record {
    paths = λ o s. turned_path x o ∙ k.paths o (relocation_law.stays x o s).0;
    steady = k.steady ++ objects (extra x);
    moving =
        subst (λ (os : List Object). IsPermutation os (changing ++ (k.steady ++ objects (extra x)))) (sym moving_parted)
        (subst (IsPermutation (objects e.moving ++ objects (extra x))) (append_assoc changing k.steady (objects (extra x)))
        (IsPermutation-append_left (objects (extra x)) (objects e.moving) (changing ++ k.steady) k.moving));
    kept = λ o at. ⊎_elim (λ first. of_steady o first) (λ later. of_extra o later) (Contains-append_cases k.steady (objects (extra x)) o at);
  }
    where
      of_steady : (o : Object) → Contains k.steady o → IsKept y.image y.image' (Layout.New m) (Layout.New m') o (turned_in x o)
      of_steady o at =
          let n = k.kept o at in
          let t = turned_entry x o in
          let there = in_first (objects e.moving) (changing ++ k.steady) k.moving o (Contains-append_right changing k.steady o at) in
          record {
            path = turned_path x o ∙ n.path;
            name = ap (λ (z : Entry). z.name) t ∙ n.name;
            attrs = ap (λ (z : Entry). z.attrs) t ∙ n.attrs;
            load = ap (λ (z : Entry). z.load) t ∙ n.load;
            exec = ap (λ (z : Entry). z.exec) t ∙ n.exec;
            bytes = λ file. b_.moving_body y o there (b_.file_other y o file);
          }

      of_extra : (o : Object) → Contains (objects (extra x)) o → IsKept y.image y.image' (Layout.New m) (Layout.New m') o (turned_in x o)
      of_extra o at =
          let s = extra_stays o at in
          let t = turned_entry x o ∙ (b_.keeps y o s).entry in
          record {
            path = turned_path x o ∙ k.paths o s;
            name = ap (λ (z : Entry). z.name) t;
            attrs = ap (λ (z : Entry). z.attrs) t;
            load = ap (λ (z : Entry). z.load) t;
            exec = ap (λ (z : Entry). z.exec) t;
            bytes = λ file. b_.staying_body y o s (b_.file_other y o file);
          }

  pub moves_paths : (from to : Path) → MovesAllPaths x from to → MovesPaths y.image y.image' (Layout.New m) (Layout.New m') x.nodes listings (relocated x) from to
  moves_paths from to k = record {
    no_root = k.no_root;
    none_goes = k.none_goes;
    none_comes = k.none_comes;
    paths = λ o s. turned_path x o ∙ k.paths o (relocation_law.stays x o s).0;
    others = λ o s. k.others o (relocation_law.stays x o s).0;
    moving = λ o at. ⊎_elim (λ first. of_moving o first) (λ later. of_extra o later) (Contains-append_cases (objects e.moving) (objects (extra x)) o (subst (λ (os : List Object). Contains os o) moving_parted at));
  }
    where
      of_moving : (o : Object) → Contains (objects e.moving) o → IsMoved from to y.image y.image' (Layout.New m) (Layout.New m') o (turned_in x o)
      of_moving o at =
          let n = k.moving o at in
          let t = turned_entry x o in
          record {
            path = turned_path x o ∙ n.path;
            name = ap (λ (z : Entry). z.name) t ∙ n.name;
            attrs = ap (λ (z : Entry). z.attrs) t ∙ n.attrs;
            load = ap (λ (z : Entry). z.load) t ∙ n.load;
            exec = ap (λ (z : Entry). z.exec) t ∙ n.exec;
            bytes = λ file. b_.moving_body y o at (b_.file_other y o file);
          }

      of_extra : (o : Object) → Contains (objects (extra x)) o → IsMoved from to y.image y.image' (Layout.New m) (Layout.New m') o (turned_in x o)
      of_extra o at =
          let s = extra_stays o at in
          let t = turned_entry x o ∙ (b_.keeps y o s).entry in
          record {
            path = turned_path x o ∙ k.paths o s;
            name = ap (λ (z : Entry). z.name) t ∙ ap (λ (b : Bool). cond b (last_name to) o.entry.name) (sym (k.others o s));
            attrs = ap (λ (z : Entry). z.attrs) t;
            load = ap (λ (z : Entry). z.load) t;
            exec = ap (λ (z : Entry). z.exec) t;
            bytes = λ file. b_.staying_body y o s (b_.file_other y o file);
          }

  pub kept' : (changing : List Object) → KeepsAllPaths x changing
      → (d : IsDone y.parts.kind y.image' (Layout.New m') x.nodes' y.parts.owners' (relocated x))
      × IsObjectEdit y.image y.image' (Layout.New m) (Layout.New m') listings d.found (changing ++ objects e.gone) (map (turned_in x) changing ++ objects e.come)
  kept' changing k = done_new (parts y.parts) y.r y.image y.image' y.new_kind y.opens written map_now changing (keeps_paths changing k)

  pub moved' : (from to : Path) → MovesAllPaths x from to
      → (d : IsDone y.parts.kind y.image' (Layout.New m') x.nodes' y.parts.owners' (relocated x)) × IsMove y.image y.image' (Layout.New m) (Layout.New m') listings d.found from to
  moved' from to k = done_new_moved (parts y.parts) y.r y.image y.image' y.new_kind y.opens written map_now from to (moves_paths from to k)

pub safe_image_law : SafeImageLaw
safe_image_law = record {
  staying_bytes = λ y o s file. b_.staying_body y o s (b_.file_other y o file);
  moving_bytes = λ y o at file. b_.moving_body y o at (b_.file_other y o file);
  kept = λ y changing k. kept' y changing k;
  moved = λ y from to k. moved' y from to k;
}
