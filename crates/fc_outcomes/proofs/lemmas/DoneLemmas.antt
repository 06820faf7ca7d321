-- The new image after an edit, whatever the map.
use Rattle.std.proofs.Common.{◌≡◌, ⊎_elim, ℕ, Bool, true, false, cond, List, [], ◌∷◌, ◌++◌, map, refl, sym, ap, subst, ◌∙◌, Some}
use Rattle.std.specs.Prelude.{Ok, Contains, IsPermutation}
use Rattle.std.proofs.lemmas.List.{append_assoc}
use Rattle.std.proofs.lemmas.List.Elements.{Contains-append_cases}
use Rattle.std.proofs.lemmas.List.Sorted.{IsPermutation-append_left}
use Rattle.fc_names.specs.Names.{Path}
use Rattle.fc_model.specs.Tree.{last_name}
use Rattle.fc_record.specs.declared.Kind.{Kind}
use Rattle.fc_dirs.specs.declared.Entry.{Entry}
use Rattle.fc_dirs.specs.Directory.{directory_of, entries_of}
use Rattle.fc_alloc.specs.declared.owner.Owner.{Owner}
use Rattle.fc_image.specs.Layout.{Layout, bytes_in, sector_bytes}
use Rattle.fc_image.specs.Walk.{Listing, Object, is_directory_object, object_bytes, object_size, reader_of}
use Rattle.fc_image.specs.Objects.{first_object, objects_of}
use Rattle.fc_image.specs.Stays.{HasSectorsOf, OpensAs}
use Rattle.fc_image.specs.Edits.{AreChildren, IsListing, StayListed}
use Rattle.fc_image.specs.MapEdits.{OpensEdited}
use Rattle.fc_image.specs.Commanded.{IsKept, IsMoved}
use Rattle.fc_image.proofs.FreeLemmas.{object_same}
use Rattle.fc_image.proofs.TreeLemmas.{tree_edit_law}
use Rattle.fc_tree.proofs.MemberLemmas.{contains_here, from_map}
use Rattle.fc_tree.proofs.WalkedLemmas.{listed_directory, root_path}
use Rattle.fc_laws.specs.nodes.Edits.{Nodes}
use Rattle.fc_laws.specs.nodes.Laws.{IsHeld}
use Rattle.fc_laws.proofs.lemmas.nodes.FitsLemmas.{one_number}
use Rattle.fc_laws.proofs.lemmas.nodes.OtherLemmas.{top_object}
use Rattle.fc_edits.specs.Edit.{Amended, Edit, leaving, listings_after, numbers, objects}
use Rattle.fc_edits.specs.Places.{Stays}
use Rattle.fc_edits.proofs.lemmas.ListLemmas.{is_in}
use Rattle.fc_edits.proofs.lemmas.NumberLemmas as n_
use Rattle.fc_edits.proofs.lemmas.AgreeLemmas as ag
use Rattle.fc_edits.proofs.lemmas.ApartLemmas.{stay_listed}
use Rattle.fc_edits.specs.PartsEdit.{PartsEdit}
use Rattle.fc_edits.proofs.lemmas.NewAgreeLemmas.{agree_law}
use Rattle.fc_edits.proofs.lemmas.RelistingLemmas.{kept as relisted_kept}
use Rattle.fc_outcomes.specs.Written.{IsEditWritten, KeepsPaths, MovesPaths}
use Rattle.fc_outcomes.specs.Done.{IsDone, view_before}
use Rattle.fc_outcomes.proofs.lemmas.OpenedLemmas.{Had, had}
use Rattle.fc_image.proofs.MapEditLemmas.{stays_listed}

module _ (mem : PartsEdit) (image image' : List ℕ) (opens : OpensAs image mem.kind (view_before mem)) (w : IsEditWritten image image' mem.layout mem.layout' mem.nodes mem.listings mem.edit) where
  abbrev pub kind : Kind
  kind = mem.kind

  abbrev pub layout : Layout
  layout = mem.layout

  abbrev pub layout' : Layout
  layout' = mem.layout'

  abbrev pub nodes : Nodes
  nodes = mem.nodes

  abbrev pub nodes' : Nodes
  nodes' = mem.nodes'

  abbrev pub owners : List Owner
  owners = mem.owners

  abbrev pub owners' : List Owner
  owners' = mem.owners'

  abbrev pub listings : List Listing
  listings = mem.listings

  abbrev pub e : Edit
  e = mem.edit

  abbrev pub h : IsHeld nodes layout listings
  h = ag.h mem

  abbrev pub top : Object
  top = ag.top mem

  abbrev pub kids : List Object
  kids = n_.kids (ag.ne mem)

  abbrev pub kept : List Object
  kept = relisted_kept (ag.ne mem)

  abbrev pub all_now : List Object
  all_now = ag.all_now mem

  abbrev before : Had image layout listings
  before = had kind image layout listings opens

  -- ---- bytes

  said : (k : Listing) → Contains listings k → reader_of image layout k.object ≡ Ok k.content
  said k at = (stays_listed (reader_of image layout) layout listings k before.say at).0

  entry_bytes : (o o' : Object) → o'.entry ≡ o.entry → o'.sectors ≡ o.sectors → HasSectorsOf (sector_bytes layout) o.sectors image image'
      → object_bytes image' layout' o' ≡ object_bytes image layout o
  entry_bytes o o' entry sectors same =
      (λ i. bytes_in (w.sector i) image' (sectors i) (object_size (mem.fit.form i) (entry i))) ∙ object_same (sector_bytes layout) image image' layout o refl same

  -- a directory that says what it said
  pub same_bytes : (k : Listing) → Contains e.same k → object_bytes image' layout' (e.turn k.object) ≡ object_bytes image layout k.object
  same_bytes k at =
      let dir = listed_directory layout listings h.sound k (n_.stay_in (ag.ne mem) k (n_.same_in (ag.ne mem) k at)) in
      let n = h.held.each k.object dir.0 in
      ⊎_elim (λ leaves. w.carried k n.number at n.at_path leaves)
      (λ stays.
      let s : Stays nodes listings e k.object = record { among = dir.0; number = n.number; number_is = n.at_path; stays = stays } in
      let keep = ag.keeps mem k.object s in
      entry_bytes k.object (e.turn k.object) keep.entry keep.sectors (w.stays k.object s (λ amended. n_.same_other (ag.ne mem) k n.number at n.at_path amended)))
      (is_in (numbers (leaving e)) n.number)

  same_read : (k : Listing) → Contains e.same k → reader_of image' layout' (e.turn k.object) ≡ Ok k.content
  same_read k at = (λ i. directory_of (mem.fit.form i) (same_bytes k at i)) ∙ said k (n_.stay_in (ag.ne mem) k (n_.same_in (ag.ne mem) k at))

  pub say_image : StayListed (reader_of image' layout') layout' (listings_after e)
  say_image =
      stay_listed (reader_of image' layout') layout' (listings_after e)
      (ag.each_now mem (λ (x : Listing). IsListing (reader_of image' layout') layout' x)
      (λ d there. (
        w.into_say d there,
        subst (λ (os : List Object). AreChildren layout' d.1.object.path (entries_of d.1.content) os) (sym (mem.is_edit.into_empty d there))
            (subst (λ (es : List Entry). AreChildren layout' d.1.object.path es []) (sym (mem.can.into_none d there)) tt),
      ))
      (λ b at. (w.says b at, ag.amended_says mem b at))
      (λ k at. (same_read k at, ag.same_says mem k at)))

  -- ---- objects that stay

  -- what directories say is no file's
  file_other : (o : Object) (s : Stays nodes listings e o) → is_directory_object o ≡ false → Contains (map (λ (a : Amended). a.number) e.amended) s.number → ⊥
  file_other o s file at =
      let a = from_map (λ (b : Amended). b.number) e.amended s.number at in
      let i = mem.is_edit.amends a.0 a.1 in
      let dir = listed_directory layout listings h.sound a.0.was (n_.stay_in (ag.ne mem) a.0.was (n_.was_in (ag.ne mem) a.0 a.1)) in
      let same : a.0.was.object ≡ o = one_number layout listings nodes h.sound h.held a.0.was.object o s.number dir.0 s.among (i.number_is ∙ ap (λ (k : ℕ). Some k) a.2) s.number_is in
      let two : true ≡ false = sym dir.1 ∙ ap is_directory_object same ∙ file in
      cc

  file_bytes : (o : Object) → Stays nodes listings e o → is_directory_object o ≡ false → object_bytes image' layout' (e.turn o) ≡ object_bytes image layout o
  file_bytes o s file = let k = ag.keeps mem o s in entry_bytes o (e.turn o) k.entry k.sectors (w.stays o s (λ at. file_other o s file at))

  stays_kept : (o : Object) → Stays nodes listings e o → (e.turn o).path ≡ o.path → IsKept image image' layout layout' o (e.turn o)
  stays_kept o s path =
      let k = ag.keeps mem o s in
      record {
        path = path;
        name = ap (λ (x : Entry). x.name) k.entry;
        attrs = ap (λ (x : Entry). x.attrs) k.entry;
        load = ap (λ (x : Entry). x.load) k.entry;
        exec = ap (λ (x : Entry). x.exec) k.entry;
        bytes = λ file. file_bytes o s file;
      }

  -- those that change their nodes, and those that don't
  pub parted : (changing : List Object) (t : KeepsPaths image image' layout layout' nodes listings e changing) → IsPermutation kept (changing ++ (t.steady ++ kids))
  parted changing t =
      subst (IsPermutation kept) (append_assoc changing t.steady kids) (IsPermutation-append_left kids (objects e.moving) (changing ++ t.steady) t.moving)

  pub others_kept : (changing : List Object) (t : KeepsPaths image image' layout layout' nodes listings e changing) (o : Object) → Contains (t.steady ++ kids) o
      → IsKept image image' layout layout' o (e.turn o)
  others_kept changing t o at =
      ⊎_elim (λ steady. t.kept o steady) (λ kid. let s = ag.kid_stays mem o kid in stays_kept o s (t.paths o s)) (Contains-append_cases t.steady kids o at)

  pub all_moved : (from to : Path) → MovesPaths image image' layout layout' nodes listings e from to → (o : Object) → Contains kept o → IsMoved from to image image' layout layout' o (e.turn o)
  all_moved from to t o at = ⊎_elim (λ moves. t.moving o moves) (λ kid. by (ag.kid_stays mem o kid)) (Contains-append_cases (objects e.moving) kids o at)
    where
      by : Stays nodes listings e o → IsMoved from to image image' layout layout' o (e.turn o)
      by s =
          let k = ag.keeps mem o s in
          record {
            path = t.paths o s;
            name = ap (λ (x : Entry). x.name) k.entry ∙ ap (λ (b : Bool). cond b (last_name to) o.entry.name) (sym (t.others o s));
            attrs = ap (λ (x : Entry). x.attrs) k.entry;
            load = ap (λ (x : Entry). x.load) k.entry;
            exec = ap (λ (x : Entry). x.exec) k.entry;
            bytes = λ file. file_bytes o s file;
          }

  -- ---- the root

  pub first_top : first_object listings ≡ top ∷ []
  first_top =
      before.first
      ∙ ap (λ (o : Object). o ∷ [])
      (top_object layout listings nodes h.sound h.held before.root (subst (λ (os : List Object). Contains os before.root) (sym before.objects) (contains_here before.root _)) before.path)

  abbrev pub top_in : Contains (objects_of listings) top
  top_in = n_.top_in (ag.ne mem)

  abbrev pub top_path : top.path ≡ []
  top_path = root_path layout listings h.sound

  -- ---- the image that opens

  abbrev pub done_as : OpensEdited kind image' layout' (listings_after e) → IsDone kind image' layout' nodes' owners' e
  done_as o = record {
    found = o.found;
    opens = o.opens;
    order = o.order;
    parts = agree_law.viewed (ag.ne mem) layout' owners owners' kind o.found mem.owned mem.owners_edited
        (tree_edit_law.opened image' kind (record { kind = kind; layout = layout'; listings = o.found }) o.opens) o.order;
  }
