-- What objects and directories say after an edit by which identifiers move.
use Rattle.std.proofs.Common.{◌≡◌, ◌⊎◌, inl, inr, ⊎_elim, ℕ, Bool, true, false, cond, List, ◌++◌, map, refl, sym, ap, subst, ◌∙◌, Some}
use Rattle.std.specs.Prelude.{Contains, Ok, ◌==◌}
use Rattle.std.proofs.lemmas.List.Elements.{Contains-append_right}
use Rattle.fc_names.specs.declared.name.NameForm.{NameForm}
use Rattle.fc_names.specs.declared.name.NameForm.TheVariants.{Long, Ten}
use Rattle.fc_record.specs.declared.Geometry.{Geometry}
use Rattle.fc_dirs.specs.declared.Entry.{Entry}
use Rattle.fc_dirs.specs.Directory.{directory_of}
use Rattle.fc_newmap.specs.Map.{Map}
use Rattle.fc_image.specs.Layout.{Layout, bytes_in, dir_form}
use Rattle.fc_image.specs.Walk.{Listing, Object, is_directory_object, object_bytes, object_size, reader_of}
use Rattle.fc_image.specs.Objects.{objects_of}
use Rattle.fc_image.specs.Stays.{HasSectorsOf}
use Rattle.fc_image.proofs.FreeLemmas.{object_same}
use Rattle.fc_tree.specs.Nodes.{number_of}
use Rattle.fc_tree.proofs.MemberLemmas.{from_map, in_map, no_element}
use Rattle.fc_tree.proofs.WalkedLemmas.{listed_directory}
use Rattle.fc_laws.proofs.lemmas.agree.BeforeLemmas.{object_lies}
use Rattle.fc_laws.proofs.lemmas.nodes.ListLemmas.{in_first}
use Rattle.fc_edits.specs.Edit.{Amended, Edit, KeepsEntry, TopStays, TopTurns, joined_in, joining, leaving, left_in, numbers, objects, turned}
use Rattle.fc_edits.specs.Places.{Stays}
use Rattle.fc_edits.proofs.lemmas.LeavingLemmas.{left_among}
use Rattle.fc_edits.proofs.lemmas.ListLemmas.{is_in}
use Rattle.fc_edits.proofs.lemmas.NumberLemmas as n_
use Rattle.fc_edits.proofs.lemmas.ShapeLemmas.{only}
use Rattle.fc_image.proofs.MapEditLemmas.{stays_listed}
use Rattle.fc_outcomes.proofs.lemmas.OpenedLemmas as opened
use Rattle.fc_safelaws.specs.Free.{AreFree, MappedImage}
use Rattle.fc_safelaws.specs.Relaid.{AreCopied}
use Rattle.fc_safelaws.proofs.FreeLemmas.{free_space_law}
use Rattle.fc_safelaws.proofs.RelaidLemmas.{relaid_law}
use Rattle.fc_safeedits.specs.Relocation.{Relocation, is_moved, number_at, turned_in}
use Rattle.fc_safeedits.specs.SafeImage.{CopiesBody, IsUnamended, KeepsBody, RootAnew, RootKept, SafeImage, before_image}
use Rattle.fc_safeedits.proofs.lemmas.CopiedBodyLemmas.{copied_bytes}
use Rattle.fc_safeedits.proofs.lemmas.LaidLemmas.{laid_still, moved_entry, ne, number_is, same_listed}
use Rattle.fc_safeedits.proofs.lemmas.SafePlacesLemmas.{alone_still, joining', staying'}

module _ (y : SafeImage) where
  abbrev pub x : Relocation
  x = y.parts.move

  abbrev pub m : Map
  m = x.m

  abbrev pub m' : Map
  m' = x.m'

  abbrev pub listings : List Listing
  listings = x.listings

  abbrev pub e : Edit
  e = x.edit

  abbrev before : MappedImage
  before = before_image y

  pub geometry : m'.geometry ≡ m.geometry
  geometry = y.parts.places.geometry

  pub form : dir_form (Layout.New m') ≡ dir_form (Layout.New m)
  form = ap (λ (g : Geometry). let f : NameForm = cond (g.version == 0) Ten Long in f) geometry

  -- ---- bytes

  pub free : AreFree y.parts.kind m (objects_of listings) y.written
  free = free_space_law.sectors before y.written y.is_written.free

  pub object_stays : (o : Object) → Contains (objects_of listings) o → HasSectorsOf m.geometry.sector o.sectors y.image y.image'
  object_stays o at = free_space_law.objects before y.written y.image' free y.is_written.changes o at

  -- an object that lies where it lay
  pub lying_bytes : (o o' : Object) → o'.sectors ≡ o.sectors → object_size (dir_form (Layout.New m)) o'.entry ≡ object_size (dir_form (Layout.New m)) o.entry → Contains (objects_of listings) o
      → object_bytes y.image' (Layout.New m') o' ≡ object_bytes y.image (Layout.New m) o
  lying_bytes o o' sectors size at =
      let size' : object_size (dir_form (Layout.New m')) o'.entry ≡ object_size (dir_form (Layout.New m)) o.entry = ap (λ (f : NameForm). object_size f o'.entry) form ∙ size in
      (λ i. bytes_in (geometry i).sector y.image' (sectors i) (size' i)) ∙ object_same m.geometry.sector y.image y.image' (Layout.New m) o refl (object_stays o at)

  abbrev Unamended : Object → Type 0
  Unamended o = IsUnamended e o

  pub keeps : (o : Object) → Stays x.nodes listings e o → KeepsEntry e o
  keeps o s = x.is_edit.keeps o s.number s.among s.number_is s.stays

  pub staying_body : (o : Object) → Stays x.nodes listings e o → Unamended o → object_bytes y.image' (Layout.New m') (turned_in x o) ≡ object_bytes y.image (Layout.New m) o
  staying_body o s other = by (is_moved x.moves (e.turn o)) refl
    where
      by : (b : Bool) → is_moved x.moves (e.turn o) ≡ b → object_bytes y.image' (Layout.New m') (turned_in x o) ≡ object_bytes y.image (Layout.New m) o
      by true t =
          relaid_law.bytes m m' o (turned_in x o) y.image y.image' geometry
          (staying' x y.parts.kind y.parts.owners y.parts.root y.parts.takings y.parts.gone y.parts.agreed y.parts.places o s (sym (moved_entry x.moves (e.turn o) o (keeps o s).entry) ∙ t))
          (y.is_written.copied o s (sym (moved_entry x.moves (e.turn o) o (keeps o s).entry) ∙ t) other)
      by false t =
          ap (object_bytes y.image' (Layout.New m')) (laid_still m' x.moves (e.turn o) t)
          ∙ lying_bytes o (e.turn o) (keeps o s).sectors (ap (λ (z : Entry). object_size (dir_form (Layout.New m)) z) (keeps o s).entry) s.among

  pub moving_among : (p : ℕ × Object) → Contains e.moving p → Contains (objects_of listings) p.1
  moving_among p at =
      left_among x.nodes (Layout.New m) listings e x.held x.is_edit p
      (Contains-append_right e.top_leave (left_in e) p (in_first (left_in e) (e.gone ++ e.moving) x.is_edit.left p (Contains-append_right e.gone e.moving p at)))

  pub moving_joins : (p : ℕ × Object) → Contains e.moving p → Contains (joining e) (turned e p)
  moving_joins p at =
      Contains-append_right e.top_join (joined_in e) (turned e p)
      (in_first (joined_in e) (e.come ++ map (turned e) e.moving) x.is_edit.joined (turned e p) (Contains-append_right e.come (map (turned e) e.moving) (turned e p) (in_map (turned e) e.moving p at)))

  pub moving_body : (o : Object) → Contains (objects e.moving) o → Unamended o → object_bytes y.image' (Layout.New m') (turned_in x o) ≡ object_bytes y.image (Layout.New m) o
  moving_body o at other = ⊎_elim (λ body. lying body) (λ body. copied body) (y.bodies o at other)
    where
      p : (q : ℕ × Object) × Contains e.moving q × (q.1 ≡ o)
      p = from_map (λ (q : ℕ × Object). q.1) e.moving o at

      among : Contains (objects_of listings) o
      among = subst (Contains (objects_of listings)) p.2 (moving_among p.0 p.1)

      joins : Contains (joining e) (p.0.0, e.turn o)
      joins = subst (λ (q : Object). Contains (joining e) (p.0.0, e.turn q)) p.2 (moving_joins p.0 p.1)

      copied : CopiesBody x y.image y.image' o → object_bytes y.image' (Layout.New m') (turned_in x o) ≡ object_bytes y.image (Layout.New m) o
      copied body =
          ap (object_bytes y.image' (Layout.New m')) (laid_still m' x.moves (e.turn o) body.elsewhere)
          ∙ copied_bytes m m' o (e.turn o) y.image y.image' geometry (object_lies y.parts.kind m x.nodes y.parts.owners y.parts.root listings y.parts.agreed o among).placed
          (y.parts.places.placed (p.0.0, e.turn o) joins body.elsewhere) body.size body.copied

      lying : KeepsBody x o → object_bytes y.image' (Layout.New m') (turned_in x o) ≡ object_bytes y.image (Layout.New m) o
      lying body = by (is_moved x.moves (e.turn o)) refl
        where
          by : (b : Bool) → is_moved x.moves (e.turn o) ≡ b → object_bytes y.image' (Layout.New m') (turned_in x o) ≡ object_bytes y.image (Layout.New m) o
          by true t =
              let copied = y.is_written.copied_too o at t other in
              ⊎_elim
              (λ i.
              relaid_law.bytes m m' (e.turn o) (turned_in x o) y.image y.image' geometry (joining' x (e.turn o) t i)
              (subst (λ (ss : List ℕ). AreCopied m.geometry.sector y.image y.image' ss (turned_in x o).sectors) (sym body.sectors) copied)
              ∙ (λ i. bytes_in m.geometry.sector y.image (body.sectors i) (body.size i)))
              (λ alone. ap (object_bytes y.image' (Layout.New m')) (alone_still x (e.turn o) t alone) ∙ lying_bytes o (e.turn o) body.sectors body.size among) (y.parts.places.inside (p.0.0, e.turn o) joins t)
          by false t = ap (object_bytes y.image' (Layout.New m')) (laid_still m' x.moves (e.turn o) t) ∙ lying_bytes o (e.turn o) body.sectors body.size among

  pub file_other : (o : Object) → is_directory_object o ≡ false → Unamended o
  file_other o file a at same =
      let dir = listed_directory (Layout.New m) listings x.held.sound a.was (n_.stay_in (ne x) a.was (n_.was_in (ne x) a at)) in
      let two : true ≡ false = sym dir.1 ∙ ap is_directory_object same ∙ file in
      cc

  -- ---- what directories say

  pub told_other : (k : Listing) → Contains e.same k → Unamended k.object
  told_other k at a there same =
      n_.same_other (ne x) k a.number at (ap (λ (o : Object). number_of x.nodes o.path) (sym same) ∙ (x.is_edit.amends a there).number_is) (in_map (λ (b : Amended). b.number) e.amended a there)

  pub told_body : (k : Listing) → Contains e.same k → object_bytes y.image' (Layout.New m') (turned_in x k.object) ≡ object_bytes y.image (Layout.New m) k.object
  told_body k at =
      let there = listed_directory (Layout.New m) listings x.held.sound k (same_listed x k at) in
      let n = number_at x.nodes k.object.path in
      let f = number_is x k.object there.0 in
      ⊎_elim
      (λ leaves. ⊎_elim (λ own. absurd (not_top n f own y.root_is))
      (λ below. moving_body k.object (in_map (λ (p : ℕ × Object). p.1) e.moving (n, k.object) (n_.dir_moves (ne x) k n (n_.same_in (ne x) k at) f below)) (told_other k at))
      (n_.in_numbers (ne x) e.top_leave (left_in e) n leaves))
      (λ stays. staying_body k.object (record { among = there.0; number = n; number_is = f; stays = stays }) (told_other k at)) (is_in (numbers (leaving e)) n)
    where
      top_number : (n : ℕ) → TopStays e x.top ⊎ TopTurns e x.top → Contains (numbers e.top_leave) n → 0 ≡ n
      top_number n (inl t) own = absurd (no_element n (subst (λ (ps : List (ℕ × Object)). Contains (numbers ps) n) t.leaves own))
      top_number n (inr t) own = only 0 n (subst (λ (ps : List (ℕ × Object)). Contains (numbers ps) n) t.leaves own)

      not_top : (n : ℕ) → number_of x.nodes k.object.path ≡ Some n → Contains (numbers e.top_leave) n → RootKept x ⊎ RootAnew x y.r → ⊥
      not_top n f own (inl t) = no_element n (subst (λ (ps : List (ℕ × Object)). Contains (numbers ps) n) t.stays.leaves own)
      not_top n f own (inr t) =
          n_.same_other (ne x) k n at f (subst (Contains (map (λ (a : Amended). a.number) e.amended)) (top_number n (x.is_edit.top x.top x.top_in x.top_path) own) t.says)

  pub said : (k : Listing) → Contains listings k → reader_of y.image (Layout.New m) k.object ≡ Ok k.content
  said k at =
      (stays_listed (reader_of y.image (Layout.New m)) (Layout.New m) listings k (opened.had y.parts.kind y.image (Layout.New m) listings y.opens).say at).0

  pub told_says : (k : Listing) → Contains e.same k → reader_of y.image' (Layout.New m') (turned_in x k.object) ≡ Ok k.content
  told_says k at = (λ i. directory_of (form i) (told_body k at i)) ∙ said k (same_listed x k at)
