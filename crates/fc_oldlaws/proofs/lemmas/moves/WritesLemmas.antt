-- The directories that compaction writes, by their nodes.
use Rattle.std.proofs.Common.{◌≡◌, ◌<◌, ◌≤◌, inl, inr, ⊎_elim, ℕ, ◌+◌, ◌/◌, Bool, true, false, cond, not, List, refl, sym, ap, subst, ◌∙◌, arith, Some, None, Option}
use Rattle.std.specs.Prelude.{Contains}
use Rattle.std.specs.List.{range_with_len}
use Rattle.std.specs.Option.{option_map, option_map_or}
use Rattle.std.specs.FinMap.{get}
use Rattle.std.proofs.lemmas.Bool.{cases_lt}
use Rattle.fc_names.specs.declared.name.NameForm.{NameForm}
use Rattle.fc_names.specs.declared.name.NameForm.TheVariants as forms
use Rattle.fc_record.specs.declared.Kind.{Kind}
use Rattle.fc_oldmap.specs.OldMap.{OldMapContent}
use Rattle.fc_dirs.specs.declared.Entry.{Entry}
use Rattle.fc_dirs.specs.declared.SmallForm.{SmallForm}
use Rattle.fc_dirs.specs.Directory.{Directory, directory_size}
use Rattle.fc_dirs.specs.Small.{SmallDir, tail_of}
use Rattle.fc_dirs.specs.SmallBytes.{IsWrittenSmall}
use Rattle.fc_alloc.specs.declared.owner.Owner.{Owner}
use Rattle.fc_image.specs.Layout.{Layout, bytes_in, dir_form, disc_sectors, is_among, sector_bytes, sectors_at}
use Rattle.fc_image.specs.Edits.{Apart}
use Rattle.fc_image.specs.Report.{holder_address}
use Rattle.fc_image.specs.Sound.{AreSound}
use Rattle.fc_image.specs.Walk.{Listing, Object, is_directory_object, object_bytes, object_size}
use Rattle.fc_image.specs.Objects.{listing_at, objects_of}
use Rattle.fc_image.specs.Opening.{reserved_in}
use Rattle.fc_image.proofs.HolesLemmas.{Each-contains, Each-objects, Lies, apart_from, walk_lies}
use Rattle.fc_image.proofs.OrderLemmas.{order_law}
use Rattle.fc_image.specs.effects.Settled.{has_same_places}
use Rattle.fc_image.specs.effects.Steady.{AreWritten}
use Rattle.fc_tree.specs.declared.node.Body.{Body}
use Rattle.fc_tree.specs.declared.node.Body.TheVariants as bodies
use Rattle.fc_tree.specs.declared.node.Node.{Node}
use Rattle.fc_tree.specs.Agree.{Agree, HasForm, reader_of_nodes}
use Rattle.fc_tree.specs.Counts.{address_in}
use Rattle.fc_tree.specs.Nodes.{HoldObjects, body_in, body_of, number_of}
use Rattle.fc_tree.proofs.FindLemmas.{object_of_number}
use Rattle.fc_tree.proofs.HeldLemmas.{holder_law}
use Rattle.fc_tree.proofs.SoundLemmas.{listing_of}
use Rattle.fc_tree.proofs.WalkedLemmas.{listed_directory, same_some}
use Rattle.fc_laws.specs.nodes.Edits.{Nodes}
use Rattle.fc_changes.proofs.lemmas.old.PlaceLemmas.{IsRow, row_or_none}
use Rattle.fc_laws.specs.old.agree.Laws.{parts_with}
use Rattle.fc_oldlaws.specs.moves.After.{Slide, address_after, content_after, dir_after, entry_after, form_of, is_steady, listing_after, move_of, object_after, readdressed, space_after}
use Rattle.fc_oldlaws.specs.moves.Laws.{DirectoriesLaw, RewrittenLaw}
use Rattle.fc_oldlaws.specs.moves.Nodes.{AreMoved, body_after, node_after}
use Rattle.fc_oldlaws.specs.moves.Steps.{AreRewritten, IsChanged}
use Rattle.fc_oldlaws.specs.moves.Writes.{AreDirectoriesPlaced, AreDirectoriesWritten, IsDirAt, MarkChanges, count_of, row_of}
use Rattle.fc_laws.proofs.lemmas.old.agree.FormLemmas.{not_long}
use Rattle.fc_oldlaws.proofs.lemmas.moves.NodesLemmas.{above}
use Rattle.fc_oldlaws.proofs.lemmas.moves.PlaceLemmas.{same_object}
use Rattle.fc_tree.proofs.EndLemmas.{no_twin as apart_names}

-- ---- small bodies

listed_small : (o : Option Listing) (dir : SmallDir) → body_of o ≡ bodies.Small dir → (l : Listing) × (o ≡ Some l) × (l.content ≡ Directory.Small dir)
listed_small None dir e = absurd (cc)
listed_small (Some l) dir e = (l, refl, by l.content e)
  where
    by : (content : Directory) → body_in content ≡ bodies.Small dir → content ≡ Directory.Small dir
    by (Directory.Small d) f = let g : d ≡ dir = cc in ap (λ (x : SmallDir). Directory.Small x) g
    by (Directory.Big d) f = absurd (cc)

pub small_was : (form : NameForm) (move : ℕ → ℕ) (a : ℕ) (b : Body) (dir : SmallDir) → body_after form move a b ≡ bodies.Small dir → (d : SmallDir) × (b ≡ bodies.Small d)
small_was form move a bodies.File dir e = absurd (cc)
small_was form move a (bodies.Small d) dir e = (d, refl)
small_was form move a (bodies.Big d) dir e = absurd (cc)

some_bytes : (f : NameForm) (len : ℕ) → (f ≡ forms.Long → ⊥) → 0 < directory_size f len
some_bytes forms.Seven len no_long = omega arith
some_bytes forms.Ten len no_long = omega arith
some_bytes forms.Long len no_long = absurd (no_long refl)

by_form : (f : NameForm) (len : ℕ) (dir : SmallDir) → HasForm f len (Directory.Small dir) → directory_size f len ≡ (tail_of dir.form).size
by_form forms.Seven len dir h = ap (λ (x : SmallForm). (tail_of x).size) (sym h)
by_form forms.Ten len dir h = ap (λ (x : SmallForm). (tail_of x).size) (sym h)
by_form forms.Long len dir h = absurd h

-- ---- directories by their numbers

module _ (space : OldMapContent) (nodes : Nodes) (listings : List Listing) (sound : AreSound (Layout.Old space) listings) (held_all : HoldObjects nodes listings) where
  abbrev layout : Layout
  layout = Layout.Old space

  lies : (o : Object) → Contains (objects_of listings) o → sectors_at layout o.entry.address (object_size (dir_form layout) o.entry) ≡ Some o.sectors
  lies o at = (Each-contains (Lies layout sound.reserved) (objects_of listings) o
      (Each-objects (Lies layout sound.reserved) listings (walk_lies sound.read layout sound.reserved sound.address sound.size listings sound.walked)) at).placed

  size_by : (o : Object) → is_directory_object o ≡ true → object_size (dir_form layout) o.entry ≡ directory_size (dir_form layout) o.entry.len
  size_by o is = ap (λ (b : Bool). cond b (directory_size (dir_form layout) o.entry.len) o.entry.len) is

  pub in_row : (o : Object) → Contains (objects_of listings) o → is_directory_object o ≡ true → IsRow space o.entry.address (object_size (dir_form layout) o.entry) o.sectors
  in_row o at is = ⊎_elim
      (λ none. let some = some_bytes (dir_form layout) o.entry.len (not_long space) in let size = size_by o is in let zero' = none.0 in absurd (omega (arith, some, size, zero')))
      (λ r. r)
      (row_or_none space o.entry.address (object_size (dir_form layout) o.entry) o.sectors (lies o at))

  -- a listed directory, whose node says it
  pub record IsListedBy (l : Listing) (n : ℕ) (node : Node) (dir : SmallDir) : Type 0 where
    pub listed : Contains listings l
    pub among : Contains (objects_of listings) l.object
    pub number : number_of nodes l.object.path ≡ Some n
    pub entry : node.entry ≡ l.object.entry
    pub content : l.content ≡ Directory.Small dir
    pub size : object_size (dir_form layout) l.object.entry ≡ directory_size (dir_form layout) l.object.entry.len
    pub row : row_of space node.entry ≡ l.object.sectors
    pub inside : node.entry.address / space.sector_units + count_of space node.entry ≤ disc_sectors layout

  pub listing_by : (n : ℕ) (node : Node) (dir : SmallDir) → IsDirAt nodes n node dir → (l : Listing) × IsListedBy l n node dir
  listing_by n node dir is =
      let o = object_of_number layout listings nodes sound held_all n node is.there in
      let h = held_all.each o.0 o.1 in
      let number : h.number ≡ n = same_some h.number n (sym h.at_path ∙ o.2) in
      let one = same_some node _ (sym is.there ∙ ap (get nodes) (sym number) ∙ h.is) in
      let l = listed_small (listing_at listings o.0.path) dir (ap (λ (x : Node). x.body) (sym one) ∙ is.says) in
      let found = listing_of layout listings sound o.0 l.0 o.1 l.1 in
      let d = listed_directory layout listings sound l.0 found.0 in
      let entry : node.entry ≡ l.0.object.entry = ap (λ (x : Node). x.entry) one ∙ sym (ap (λ (x : Object). x.entry) found.1) in
      let row = in_row l.0.object d.0 d.1 in (
        l.0,
        record {
          listed = found.0;
          among = d.0;
          number = ap (λ (x : Object). number_of nodes x.path) found.1 ∙ o.2;
          entry = entry;
          content = l.2;
          size = size_by l.0.object d.1;
          row = ap (row_of space) entry ∙ sym row.row;
          inside = subst (λ (e : Entry). e.address / space.sector_units + count_of space e ≤ disc_sectors layout) (sym entry) row.inside;
        },
      )

  -- what a node says of the directory that it lists
  pub record Says (l : Listing) (n : ℕ) (node : Node) : Type 0 where
    pub number : number_of nodes l.object.path ≡ Some n
    pub there : get nodes n ≡ Some node
    pub entry : node.entry ≡ l.object.entry
    pub body : node.body ≡ body_in l.content
    pub address : address_in nodes node.holder ≡ holder_address listings l.object.path

module _ (space : OldMapContent) (nodes : Nodes) (owners : List Owner) (kind : Kind) (a : Agree kind (parts_with space nodes owners)) where
  sound_of : AreSound (Layout.Old space) a.listings
  sound_of = record {
    read = reader_of_nodes nodes;
    reserved = reserved_in kind (Layout.Old space);
    address = a.root.entry.address;
    size = a.root.entry.len;
    walked = a.walked.walked;
    apart = λ l at. apart_names l.content (a.walked.bodies l at);
  }

  all_apart : Apart (reserved_in kind (Layout.Old space)) (objects_of a.listings)
  all_apart =
      let h = order_law.gives (reader_of_nodes nodes) (Layout.Old space) (reserved_in kind (Layout.Old space)) a.root.entry.address a.root.entry.len a.listings a.walked.walked in
      subst (Apart (reserved_in kind (Layout.Old space))) (sym h.4) h.3

  pub placed : AreDirectoriesPlaced space nodes
  placed = record {
    inside = λ n node dir is. (listing_by space nodes a.listings sound_of a.walked.held n node dir is).1.inside;
    size = λ n node dir is.
        let l = listing_by space nodes a.listings sound_of a.walked.held n node dir is in
        ap (object_size (dir_form (Layout.Old space))) l.1.entry ∙ l.1.size
        ∙ by_form (dir_form (Layout.Old space)) l.0.object.entry.len dir (subst (HasForm (dir_form (Layout.Old space)) l.0.object.entry.len) l.1.content (a.walked.forms l.0 l.1.listed));
    apart = λ m n x y k d is_x is_y other.
        let l = listing_by space nodes a.listings sound_of a.walked.held m x k is_x in
        let j = listing_by space nodes a.listings sound_of a.walked.held n y d is_y in
        apart_from (row_of space x.entry) (row_of space y.entry) (λ s i i'.
        let one : l.0.object ≡ j.0.object = same_object (reserved_in kind (Layout.Old space)) (objects_of a.listings) l.0.object j.0.object s all_apart l.1.among j.1.among
        (ap (λ (xs : List ℕ). is_among xs s) (sym l.1.row) ∙ i) (ap (λ (xs : List ℕ). is_among xs s) (sym j.1.row) ∙ i') in
        other (same_some m n (sym l.1.number ∙ ap (λ (o : Object). number_of nodes o.path) one ∙ j.1.number)));
  }

pub directories_law : DirectoriesLaw
directories_law kind space nodes owners a = placed space nodes owners kind a

-- ---- what is written

module _ (s : Slide) (nodes nodes' : Nodes) (listings : List Listing) (changed : ℕ → Bool) (bound : ℕ) (was image : List ℕ) (sound : AreSound (Layout.Old s.space) listings)
    (held_all : HoldObjects nodes listings) (moved : AreMoved s nodes nodes') (past : (n : ℕ) → bound ≤ n → get nodes n ≡ None) (marks : MarkChanges s nodes changed)
    (w : AreDirectoriesWritten (space_after s) nodes' changed bound was image) where
  abbrev form : NameForm
  form = form_of s

  abbrev move : ℕ → ℕ
  move = move_of s

  abbrev size : ℕ
  size = sector_bytes (Layout.Old s.space)

  said_of : (l : Listing) → Contains listings l → (n : ℕ) × (node : Node) × Says s.space nodes listings sound held_all l n node
  said_of l at =
      let d = listed_directory (Layout.Old s.space) listings sound l at in
      let h = held_all.each l.object d.0 in
      let over = above s nodes nodes' moved listings sound held_all l.object d.0 h.holder_number h.at_holder in
      let says = holder_law (Layout.Old s.space) listings nodes l h.number _ over.0 sound held_all at h.at_path h.is over.1 in (
        h.number,
        _,
        record {
          number = h.at_path;
          there = h.is;
          entry = refl;
          body = says.0;
          address = ap (λ (o : Option Node). option_map_or (λ (m : Node). m.entry.address) o 0) over.1 ∙ sym says.1;
        },
      )

  now_of : (n : ℕ) (node : Node) → get nodes n ≡ Some node → get nodes' n ≡ Some (node_after form move nodes node)
  now_of n node is = moved.each n ∙ ap (option_map (node_after form move nodes)) is

  below : (n : ℕ) (node : Node) → get nodes n ≡ Some node → n < bound
  below n node is = elim (cases_lt n bound) [
    | inl less ↦ less
    | inr more ↦ let none : Some node ≡ None = sym is ∙ past n more in absurd (cc)
  ]

  -- where a directory lies then
  row_now : (o : Object) → Contains (objects_of listings) o → is_directory_object o ≡ true → row_of (space_after s) (entry_after form move o.entry) ≡ (object_after s o).sectors
  row_now o at is = ap (range_with_len (address_after form move o.entry / s.space.sector_units)) (sym (in_row s.space nodes listings sound held_all o at is).long)

  changes : (l : Listing) (dir : SmallDir) (a b : ℕ) → l.content ≡ Directory.Small dir → a ≡ b → is_steady form move b l.content ≡ false → not (has_same_places dir (readdressed form move a dir)) ≡ true
  changes l dir a b is same f =
      ap not (ap (λ (h : ℕ). has_same_places dir (readdressed form move h dir)) same ∙ ap (is_steady form move b) (sym is) ∙ f)

  stays : (l : Listing) (dir : SmallDir) (a b : ℕ) → l.content ≡ Directory.Small dir → a ≡ b → not (has_same_places dir (readdressed form move a dir)) ≡ true → is_steady form move b l.content ≡ false
  stays l dir a b is same f =
      ap (is_steady form move b) is ∙ ap (λ (h : ℕ). has_same_places dir (readdressed form move h dir)) (sym same) ∙ turned (has_same_places dir (readdressed form move a dir)) f
    where
      turned : (c : Bool) → not c ≡ true → c ≡ false
      turned true e = absurd (cc)
      turned false e = refl

  written_at : (l : Listing) → Contains listings l → IsChanged s listings l → AreWritten (object_bytes image (Layout.Old (space_after s)) (object_after s l.object)) (listing_after s listings l).content
  written_at l at change = by l.content refl
    where
      by : (content : Directory) → l.content ≡ content → AreWritten (object_bytes image (Layout.Old (space_after s)) (object_after s l.object)) (content_after form move (holder_address listings l.object.path) l.content)
      by (Directory.Big dir) e =
          let none : true ≡ false = sym (ap (is_steady form move (holder_address listings l.object.path)) e) ∙ change in absurd (cc)
      by (Directory.Small dir) e =
          let k = said_of l at in
          let d = listed_directory (Layout.Old s.space) listings sound l at in
          let n = k.0 in
          let node = k.1 in
          let body : node.body ≡ bodies.Small dir = k.2.body ∙ ap body_in e in
          let mark : changed n ≡ true = marks n node dir (record { there = k.2.there; says = body }) ∙ changes l dir (address_in nodes node.holder) (holder_address listings l.object.path) e k.2.address change in
          let now : IsDirAt nodes' n (node_after form move nodes node) (dir_after form move (address_in nodes node.holder) dir) =
          record { there = now_of n node k.2.there; says = ap (body_after form move (address_in nodes node.holder)) body } in
          let there = w.written n (node_after form move nodes node) (dir_after form move (address_in nodes node.holder) dir) (below n node k.2.there) mark now in
          subst (λ (content : Directory). AreWritten (object_bytes image (Layout.Old (space_after s)) (object_after s l.object)) content)
          (ap (λ (h : ℕ). Directory.Small (dir_after form move h dir)) k.2.address ∙ ap (content_after form move (holder_address listings l.object.path)) (sym e))
          (subst (λ (bytes : List ℕ). IsWrittenSmall bytes (dir_after form move (address_in nodes node.holder) dir))
          (ap (λ (en : Entry). bytes_in size image (row_of (space_after s) (entry_after form move en)) (object_size form (entry_after form move en))) k.2.entry
          ∙ ap (λ (xs : List ℕ). bytes_in size image xs (object_size form (entry_after form move l.object.entry))) (row_now l.object d.0 d.1)) there)

  pub are_rewritten : AreRewritten s listings was image
  are_rewritten = record {
    length_stays = w.length_stays;
    written = written_at;
    others = λ t none. w.others t (λ n now dir' less mark is.
        let node = was_node n now is.there in
        let dir = small_was form move (address_in nodes node.0.holder) node.0.body dir' (ap (λ (x : Node). x.body) node.2 ∙ is.says) in
        let k = listing_by s.space nodes listings sound held_all n node.0 dir.0 (record { there = node.1; says = dir.1 }) in
        let l = k.0 in
        let d = listed_directory (Layout.Old s.space) listings sound l k.1.listed in
        let q = said_of l k.1.listed in
        let same : q.1 ≡ node.0 = same_some q.1 node.0 (sym q.2.there ∙ ap (get nodes) (same_some q.0 n (sym q.2.number ∙ k.1.number)) ∙ node.1) in
        let address : address_in nodes node.0.holder ≡ holder_address listings l.object.path = ap (λ (x : Node). address_in nodes x.holder) (sym same) ∙ q.2.address in
        let change : IsChanged s listings l = stays l dir.0 (address_in nodes node.0.holder) (holder_address listings l.object.path) k.1.content address
        (sym (marks n node.0 dir.0 (record { there = node.1; says = dir.1 })) ∙ mark) in
        ap (λ (xs : List ℕ). is_among xs t) (ap (λ (x : Node). row_of (space_after s) x.entry) (sym node.2) ∙ ap (λ (en : Entry). row_of (space_after s) (entry_after form move en)) k.1.entry ∙ row_now l.object d.0 d.1)
        ∙ none l k.1.listed change);
  }
    where
      was_node : (n : ℕ) (now : Node) → get nodes' n ≡ Some now → (node : Node) × (get nodes n ≡ Some node) × (node_after form move nodes node ≡ now)
      was_node n now is = by (get nodes n) refl
        where
          by : (o : Option Node) → get nodes n ≡ o → (node : Node) × (get nodes n ≡ Some node) × (node_after form move nodes node ≡ now)
          by None e = let none : Some now ≡ None = sym is ∙ moved.each n ∙ ap (option_map (node_after form move nodes)) e in absurd (cc)
          by (Some node) e = (node, e, same_some (node_after form move nodes node) now (sym (now_of n node e) ∙ is))

pub rewritten_law : RewrittenLaw
rewritten_law s nodes nodes' listings changed bound was image sound held_all moved past marks w = are_rewritten s nodes nodes' listings changed bound was image sound held_all moved past marks w
