-- `rename` by which a directory grows: what each directory that is told something but an address says then.
use Rattle.fc_change.specs.Directories.{IsRewritingBy, Rewriting, TellAll, Tells, above_of, address_after, is_holder}
use Rattle.fc_change.specs.declared.change.Regrowth.{Regrowth}
use Rattle.fc_change.specs.declared.change.Says.{Says}
use Rattle.fc_changes.proofs.BasicLemmas.{clash}
use Rattle.fc_changes.proofs.MovedLemmas.{holder_not}
use Rattle.fc_commands.proofs.GrownMoveWalkLemmas as walk
use Rattle.fc_commands.proofs.GrownMoveWantLemmas.{GrownRename}
use Rattle.fc_commands.proofs.GrownMoveWantLemmas as want
use Rattle.fc_commands.proofs.GrownReadyLemmas.{regrown_at}
use Rattle.fc_commands.proofs.GrownReadyLemmas as ready_of
use Rattle.fc_commands.proofs.GrownToldLemmas.{amended_form, num, num_is, parent_now}
use Rattle.fc_commands.proofs.GrownToldLemmas as of
use Rattle.fc_commands.proofs.MoveLemmas.{IsOwn, own_listing}
use Rattle.fc_commands.proofs.MoveLemmas as seen_of
use Rattle.fc_commands.proofs.MoveSaidLemmas.{AreOwnSaid}
use Rattle.fc_commands.proofs.MoveTellLemmas.{own_told}
use Rattle.fc_commands.proofs.NodeLemmas as its
use Rattle.fc_commands.proofs.RemovalLemmas.{entries_left, form_left}
use Rattle.fc_dirs.specs.Directory.{Directory, entries_of}
use Rattle.fc_dirs.specs.declared.Entry.{Entry}
use Rattle.fc_drafts.proofs.RewritingLemmas as drafted
use Rattle.fc_drafts.specs.Draft.{IsSayable, directory_in, names_of, size_of, with_head, with_less, with_new, with_renamed}
use Rattle.fc_drafts.specs.Entries.{regrown}
use Rattle.fc_drafts.specs.Gains.{GetsName, GetsNameFor}
use Rattle.fc_drafts.specs.Rewriting.{HasEntered, HasLeft, HasMoved, HasRenamed, IsAt, IsRewrittenFor}
use Rattle.fc_edits.proofs.lemmas.ShapeLemmas.{of_one}
use Rattle.fc_image.proofs.CommandLemmas.{other_path, same_by_folds}
use Rattle.fc_image.proofs.PathsLemmas.{itself, same_last}
use Rattle.fc_image.proofs.RenameLemmas.{holder_first}
use Rattle.fc_image.specs.Layout.{Layout, dir_form}
use Rattle.fc_image.specs.Walk.{Listing, Object, is_directory_object}
use Rattle.fc_image.specs.effects.Short.{Gain, Growth as Grown, growth_with}
use Rattle.fc_image.specs.effects.Steady.{IsRewritten, is_renamed_by, regrown_entry, without_name}
use Rattle.fc_model.specs.Command.{Command}
use Rattle.fc_model.specs.Tree.{holder, is_prefix, last_name}
use Rattle.fc_names.specs.Names.{Path, folded_path, is_same_name, is_same_path}
use Rattle.fc_names.specs.declared.name.NameForm.{NameForm}
use Rattle.fc_names.specs.declared.name.NameForm.TheVariants as forms
use Rattle.fc_objects.specs.Extents.{sectors_in}
use Rattle.fc_tree.proofs.MemberLemmas.{no_element}
use Rattle.fc_tree.proofs.SoundLemmas.{folds_alike}
use Rattle.fc_tree.proofs.WalkedLemmas.{same_some}
use Rattle.fc_tree.specs.Agree.{HasForm, IsDirectory}
use Rattle.fc_tree.specs.Counts.{address_in as node_address}
use Rattle.fc_tree.specs.Nodes.{is_directory_node, number_of}
use Rattle.fc_tree.specs.declared.node.Node.{Node}
use Rattle.std.proofs.Common.{Bool, List, Option, Some, [], ap, ap₂, cond, eq-eqb, false, filter, inl, inr, map, not, refl, remove, slice_get, subst, suc, sym, true, zero, ℕ, ◌&&◌, ◌++◌, ◌∙◌, ◌∷◌, ◌≡◌}
use Rattle.std.proofs.lemmas.Bool.{cases_eq}
use Rattle.std.proofs.lemmas.Option.{slice_get_within}
use Rattle.std.specs.Option.{option_map, option_map_or}
use Rattle.std.specs.Prelude.{Contains}

-- ---- a big directory stays one

renamed_stays : (parent at : ℕ) (e : Entry) (len size : ℕ) (old new : Directory) → HasForm forms.Long len old → new ≡ with_head parent (with_renamed at e old) → size_of new ≡ size → HasForm forms.Long size new
renamed_stays parent at e len size (Directory.Small dir) new has is long = absurd has
renamed_stays parent at e len size (Directory.Big dir) new has is long = subst (HasForm forms.Long size) (sym is) (ap size_of (sym is) ∙ long)

pub entered_stays : (parent : ℕ) (e : Entry) (len size : ℕ) (old new : Directory) → HasForm forms.Long len old → new ≡ with_head parent (with_new e old) → size_of new ≡ size → HasForm forms.Long size new
entered_stays parent e len size (Directory.Small dir) new has is long = absurd has
entered_stays parent e len size (Directory.Big dir) new has is long = subst (HasForm forms.Long size) (sym is) (ap size_of (sym is) ∙ long)

-- ---- entries without a name, of a directory that holds a grown one

stays_without : (name : List ℕ) (f : Entry → Entry) → ((e : Entry) → (f e).name ≡ e.name) → (es : List Entry) → without_name name (map f es) ≡ map f (without_name name es)
stays_without name f same [] = refl
stays_without name f same (e ∷ es) = ap (λ (n : List ℕ). cond (not (is_same_name n name)) (f e ∷ without_name name (map f es)) (without_name name (map f es))) (same e) ∙ by (not (is_same_name e.name name)) (stays_without name f same es)
  where
    by : (b : Bool) → without_name name (map f es) ≡ map f (without_name name es)
        → cond b (f e ∷ without_name name (map f es)) (without_name name (map f es)) ≡ map f (cond b (e ∷ without_name name es) (without_name name es))
    by true more = ap (λ (xs : List Entry). f e ∷ xs) more
    by false more = more

pub regrown_name : (dir : Path) (o : Object) (e : Entry) → (regrown_entry dir (Some o) e).name ≡ e.name
regrown_name dir o e = by (is_same_path (dir ++ e.name ∷ []) o.path)
  where
    by : (b : Bool) → (let x : Entry = cond b (record e { address = o.entry.address; len = o.entry.len }) e in x.name) ≡ e.name
    by true = refl
    by false = refl

get_map : (f : Entry → Entry) (es : List Entry) (i : ℕ) (e : Entry) → slice_get es i ≡ Some e → slice_get (map f es) i ≡ Some (f e)
get_map f [] i e is = absurd (cc)
get_map f (x ∷ es) zero e is = ap (λ (o : Option Entry). option_map f o) is
get_map f (x ∷ es) (suc i) e is = get_map f es i e is

module _ (q : GrownRename) where
  abbrev pub layout : Layout
  layout = Layout.New q.m

  abbrev pub g : Regrowth
  g = (want.grown q).0.directory

  abbrev pub l : Listing
  l = q.seen.known.destination.listing

  abbrev pub k : Listing
  k = q.seen.known.target.listing

  abbrev pub it : Object
  it = q.seen.known.target.object

  abbrev pub listed : Contains q.listings q.seen.known.destination.listing
  listed = walk.listed q

  abbrev pub sectors : List ℕ
  sectors = sectors_in (want.grown q).0.extents.items

  -- a listed directory's number, and the address of its holder then
  abbrev pub numb : Listing → ℕ
  numb d = num (Layout.New q.m) q.nodes q.listings q.seen.sound q.seen.held q.seen.known.destination.listing (walk.listed q) (want.grown q).0.directory (walk.number q) d

  abbrev pub now : Path → ℕ
  now path = parent_now (Layout.New q.m) q.nodes q.listings q.seen.sound q.seen.held q.seen.known.destination.listing (walk.listed q) (want.grown q).0.directory (walk.number q) path

  -- the grown directory at its place
  abbrev pub anew : Object
  anew = regrown_at (want.grown q).0.directory (sectors_in (want.grown q).0.extents.items) q.seen.known.destination.listing.object

  pub numb_is : (d : Listing) → Contains q.listings d → number_of q.nodes d.object.path ≡ Some (numb d)
  numb_is d at = num_is layout q.nodes q.listings q.seen.sound q.seen.held l listed g (walk.number q) d at

  pub holder_numb : q.r.holder ≡ numb q.seen.known.destination.listing
  holder_numb = same_some q.r.holder (numb l) (sym q.seen.known.destination.holder_is ∙ numb_is l listed)

  pub home_numb : q.r.target.holder ≡ numb q.seen.known.target.listing
  home_numb = same_some q.r.target.holder (numb k) (sym q.seen.known.target.holder_is ∙ numb_is k q.seen.known.target.listed)

  pub grown_numb : (want.grown q).0.directory.node ≡ q.r.holder
  grown_numb = want.dir_is q

  -- ---- the grown directory doesn't lie in the object

  pub it_path : q.seen.known.target.object.path ≡ q.seen.known.target.listing.object.path ++ q.seen.known.target.object.entry.name ∷ []
  it_path = seen_of.o_path layout q.nodes q.listings q.from q.to q.r q.name q.seen

  pub not_in : is_prefix (folded_path q.seen.known.target.object.path) (folded_path q.seen.known.destination.listing.object.path) ≡ false
  not_in = elim (cases_eq q.r.holder q.r.target.holder) [
    | inl here ↦
        ap (λ (p : Path). is_prefix (folded_path p) (folded_path l.object.path)) it_path
        ∙ ap (λ (d : Listing). is_prefix (folded_path (k.object.path ++ it.entry.name ∷ [])) (folded_path d.object.path)) (q.seen.known.within here).0
        ∙ holder_first k.object.path it.entry.name
    | inr away ↦ seen_of.not_into layout q.nodes q.listings q.from q.to q.r q.name q.seen away
  ]

  pub unlike : is_same_path q.seen.known.target.object.path q.seen.known.destination.listing.object.path ≡ false
  unlike = other_path it.path l.object.path not_in

  pub not_above : is_same_path q.seen.known.target.object.path (holder q.seen.known.destination.listing.object.path) ≡ false
  not_above = other_path it.path (holder l.object.path) (holder_not it.path l.object.path not_in)

  -- ---- what moves it

  -- whatever is told of the grown directory leaves its own entries as they were
  own_tells : (rw : Rewriting) (s : Says) → Tells (Some (want.grown q).0.directory) q.nodes q.r.holder rw s → Tells (Some (want.grown q).0.directory) q.nodes (numb q.seen.known.destination.listing) rw s
  own_tells rw s tells = subst (λ (n : ℕ). Tells (Some g) q.nodes n rw s) holder_numb tells

  own_middle : (rw : Rewriting) (s : Says) (tells : Tells (Some (want.grown q).0.directory) q.nodes q.r.holder rw s) → (own_tells rw s tells).middle ≡ q.seen.known.destination.listing.content
  own_middle rw s tells = ready_of.own_middle layout q.nodes q.listings q.seen.sound q.seen.held l listed g (walk.number q) q.seen.forms sectors rw s (own_tells rw s tells)

  pub rewritten_own : (rw : Rewriting) (s : Says) → Tells (Some (want.grown q).0.directory) q.nodes q.r.holder rw s → ((n : Node) → above_of rw n ≡ n.holder)
      → IsRewritingBy rw (now q.seen.known.destination.listing.object.path) q.seen.known.destination.listing.content (directory_in s.draft)
  rewritten_own rw s tells stays =
      subst (λ (d : Directory). IsRewritingBy rw (now l.object.path) d (directory_in s.draft)) (own_middle rw s tells)
      (of.rewritten layout q.nodes q.listings q.seen.sound q.seen.held l listed g (walk.number q) l listed rw s (own_tells rw s tells) (stays (own_tells rw s tells).node))

  -- What the grown directory says: so many bytes, and it is a rewriting.
  pub record FirstSays (content : Directory) : Type 0 where
    pub rewritten : IsRewrittenFor (now q.seen.known.destination.listing.object.path) q.seen.known.destination.listing.content content
    pub size : size_of content ≡ (want.grown q).0.directory.len
    pub form : HasForm (dir_form (Layout.New q.m)) (want.grown q).0.directory.len content

  pub entered_says : (e : Entry) → e.name ≡ q.name → (q.r.holder ≡ q.r.target.holder → ⊥) → (content : Directory)
      → HasEntered (now q.seen.known.destination.listing.object.path) e q.seen.known.destination.listing.content content → FirstSays content
  entered_says e same away content is =
      let gain : Gain = record { listing = l; name = e.name; names = names_of l.content ++ e.name ∷ [] } in
      let gets : GetsName l.content e.name gain = record { name_is = refl; names_are = refl } in
      let grows = (walk.room_across q away gain (subst (λ (n : List ℕ). GetsName l.content n gain) same gets)).1 l.object in
      let size : size_of content ≡ g.len =
      is.size gain gets l.object ∙ ap (λ (x : Option Grown). option_map_or (λ (y : Grown). y.1) x (size_of l.content)) grows ∙ sym (walk.len_is q) in
      record {
        rewritten = is.rewritten;
        size = size;
        form = subst (λ (f : NameForm). HasForm f g.len content) (sym (walk.form q))
            (entered_stays (now l.object.path) e l.object.entry.len g.len l.content content (subst (λ (f : NameForm). HasForm f l.object.entry.len l.content) (walk.form q) (q.seen.forms l listed)) is.is size);
      }

  pub renamed_says : (e : Entry) → e.name ≡ q.name → (here : q.r.holder ≡ q.r.target.holder) → (content : Directory)
      → HasRenamed (now q.seen.known.destination.listing.object.path) q.r.target.at e q.seen.known.destination.listing.content content → FirstSays content
  renamed_says e same here content is =
      let one = (q.seen.known.within here).0 in
      let gain : Gain = record { listing = k; name = e.name; names = filter (λ (n : List ℕ). not (is_same_name n it.entry.name)) (names_of k.content) ++ e.name ∷ [] } in
      let gets : GetsNameFor k.content it.entry.name e.name gain = record { name_is = refl; names_are = refl } in
      let grows = (walk.room_within q here gain (subst (λ (n : List ℕ). GetsNameFor k.content it.entry.name n gain) same gets)).1 l.object in
      let there : IsAt (entries_of l.content) q.r.target.at it.entry =
      subst (λ (d : Listing). IsAt (entries_of d.content) q.r.target.at it.entry) (sym one) (seen_of.entry_there layout q.nodes q.listings q.from q.to q.r q.name q.seen) in
      let size : size_of content ≡ g.len =
      is.size it.entry gain there (λ alike. walk.respelled q here (alike ∙ same)) (subst (λ (d : Listing). GetsNameFor d.content it.entry.name e.name gain) (sym one) gets) l.object
      ∙ ap (λ (x : Option Grown). option_map_or (λ (y : Grown). y.1) x (size_of l.content)) (ap (λ (d : Listing). growth_with l.object d.content gain) one ∙ grows) ∙ sym (walk.len_is q) in
      record {
        rewritten = is.rewritten;
        size = size;
        form = subst (λ (f : NameForm). HasForm f g.len content) (sym (walk.form q))
            (renamed_stays (now l.object.path) q.r.target.at e l.object.entry.len g.len l.content content (subst (λ (f : NameForm). HasForm f l.object.entry.len l.content) (walk.form q) (q.seen.forms l listed)) is.is size);
      }

  -- ---- the object itself, if it is a directory

  -- It doesn't hold the grown one.
  pub it_holds_none : (d : Listing) → Contains q.listings d → d.object ≡ q.seen.known.target.object → is_holder q.nodes (want.grown q).0.directory (numb d) ≡ false
  it_holds_none d at is =
      of.holds_none layout q.nodes q.listings q.seen.sound q.seen.held l listed g (walk.number q) d at
      (λ same. absurd (clash (is_same_path it.path (holder l.object.path))
      (ap (λ (o : Object). is_same_path o.path (holder l.object.path)) (sym is) ∙ same_by_folds d.object.path (holder l.object.path) (sym (folds_alike (holder l.object.path) d.object.path same))) not_above))

  pub it_numb : (d : Listing) → Contains q.listings d → d.object ≡ q.seen.known.target.object → q.r.target.node ≡ numb d
  it_numb d at is = same_some q.r.target.node (numb d) (sym q.seen.known.target.node_is ∙ ap (λ (o : Object). number_of q.nodes o.path) (sym is) ∙ numb_is d at)

  -- What it says: its new name, and the grown directory's address.
  pub record IsOwnGrown (ss : List Says) : Type 0 where
    pub own : List (Listing × Directory)
    pub is : IsOwn q.listings q.seen.known.target.object own
    pub said : AreOwnSaid q.r.target.node own ss
    pub moved : (d : Listing × Directory) → Contains own d → HasMoved (want.grown q).0.directory.address q.name d.0.content d.1

  pub own_grown : (ss : List Says) → TellAll (Some (want.grown q).0.directory) q.nodes (own_told (is_directory_node q.nodes q.r.target.node) q.r q.name) ss → IsOwnGrown ss
  own_grown ss tell = by (is_directory_node q.nodes q.r.target.node) refl ss tell
    where
      kind : is_directory_node q.nodes q.r.target.node ≡ is_directory_object it
      kind = seen_of.node_kind layout q.nodes q.listings q.from q.to q.r q.name q.seen

      moved_by : (d : Listing) → Contains q.listings d → d.object ≡ it → (s : Says) → Tells (Some g) q.nodes q.r.target.node (Rewriting.Turns q.r.holder q.name) s → HasMoved g.address q.name d.content (directory_in s.draft)
      moved_by d at is s tells =
          let here = subst (λ (n : ℕ). Tells (Some g) q.nodes n (Rewriting.Turns q.r.holder q.name) s) (it_numb d at is) tells in
          let middle : here.middle ≡ d.content =
          of.not_amended layout q.nodes q.listings q.seen.sound q.seen.held l listed g (walk.number q) d at (Rewriting.Turns q.r.holder q.name) s here (it_holds_none d at is) in
          subst (λ (a : ℕ). HasMoved a q.name d.content (directory_in s.draft))
          (ap (λ (b : Bool). cond b g.address (node_address q.nodes q.r.holder)) (eq-eqb q.r.holder g.node (sym grown_numb)))
          (subst (λ (x : Directory). HasMoved (address_after (Some g) q.nodes q.r.holder) q.name x (directory_in s.draft)) middle here.rewritten)

      by : (b : Bool) → is_directory_node q.nodes q.r.target.node ≡ b → (ts : List Says) → TellAll (Some g) q.nodes (own_told b q.r q.name) ts → IsOwnGrown ts
      by true e [] t = absurd t
      by true e (s ∷ (x ∷ ts)) t = absurd t.1
      by true e (s ∷ []) t =
          let d = own_listing layout q.listings q.seen.sound it (seen_of.among layout q.nodes q.listings q.from q.to q.r q.name q.seen) (sym kind ∙ e) in
          let content = directory_in s.draft in
          record {
            own = (d.0, content) ∷ [];
            is = inr ((d.0, content), refl, d.1, d.2);
            said = (t.0.number, refl, tt);
            moved = of_one (λ (x : Listing × Directory). HasMoved g.address q.name x.0.content x.1) (d.0, content) (moved_by d.0 d.1 d.2 s t.0);
          }
      by false e (s ∷ ts) t = absurd t
      by false e [] t = record {
        own = [];
        is = inl (sym kind ∙ e, refl);
        said = tt;
        moved = λ d at. absurd (no_element d at);
      }

  -- ---- the directory that loses it

  module _ (s : Says) (tells : Tells (Some (want.grown q).0.directory) q.nodes q.r.target.holder (Rewriting.Leaves q.r.target.at) s) where
    abbrev content : Directory
    content = directory_in s.draft

    here : Tells (Some (want.grown q).0.directory) q.nodes (numb q.seen.known.target.listing) (Rewriting.Leaves q.r.target.at) s
    here = subst (λ (n : ℕ). Tells (Some g) q.nodes n (Rewriting.Leaves q.r.target.at) s) home_numb tells

    left : HasLeft (now q.seen.known.target.listing.object.path) q.r.target.at here.middle (directory_in s.draft)
    left = of.rewritten layout q.nodes q.listings q.seen.sound q.seen.held l listed g (walk.number q) k q.seen.known.target.listed (Rewriting.Leaves q.r.target.at) s here refl

    there : IsAt (entries_of q.seen.known.target.listing.content) q.r.target.at q.seen.known.target.object.entry
    there = seen_of.entry_there layout q.nodes q.listings q.from q.to q.r q.name q.seen

    named : is_same_name q.seen.known.target.object.entry.name (last_name q.from) ≡ true
    named = seen_of.named_from layout q.nodes q.listings q.from q.to q.r q.name q.seen

    -- What it says, and what it would say without the growth.
    pub record HomeSays (plain : Directory) : Type 0 where
      pub rewritten : (c : Command) → is_renamed_by c q.seen.known.target.listing.object.path ≡ false
          → IsRewritten c q.seen.known.target.listing.object.path (now q.seen.known.target.listing.object.path) q.seen.known.target.listing.content (directory_in s.draft)
      pub form : HasForm (dir_form (Layout.New q.m)) q.seen.known.target.listing.object.entry.len (directory_in s.draft)
      pub without : entries_of plain ≡ without_name (last_name q.from) (entries_of q.seen.known.target.listing.content)
      pub removed : entries_of plain ≡ remove (entries_of q.seen.known.target.listing.content) q.r.target.at

    -- It doesn't hold the grown one,
    pub plain_says : is_holder q.nodes (want.grown q).0.directory (numb q.seen.known.target.listing) ≡ false → HomeSays (directory_in s.draft)
    plain_says none =
        let middle : here.middle ≡ k.content =
        of.not_amended layout q.nodes q.listings q.seen.sound q.seen.held l listed g (walk.number q) k q.seen.known.target.listed (Rewriting.Leaves q.r.target.at) s here none in
        let is = subst (λ (d : Directory). HasLeft (now k.object.path) q.r.target.at d content) middle left in
        record {
          rewritten = λ c other. is.rewritten c k.object.path other;
          form = form_left (dir_form layout) k.object.entry.len (now k.object.path) q.r.target.at k.content content is (q.seen.forms k q.seen.known.target.listed);
          without = is.entries it.entry (last_name q.from) there named;
          removed = entries_left (now k.object.path) q.r.target.at k.content content is;
        }

    -- or it does: then it says the new entry of that, too.
    pub holding_says : (held : is_holder q.nodes (want.grown q).0.directory (numb q.seen.known.target.listing) ≡ true)
        → (l_path : is_same_path (q.seen.known.target.listing.object.path ++ q.seen.known.destination.listing.object.entry.name ∷ []) q.seen.known.destination.listing.object.path ≡ true)
        → (plain : Directory) × HomeSays plain
        × (entries_of (directory_in s.draft) ≡ map (regrown_entry q.seen.known.target.listing.object.path (Some anew)) (entries_of plain))
    holding_says held l_path =
        let amended = of.is_amended layout q.nodes q.listings q.seen.sound q.seen.held l listed g (walk.number q) k q.seen.known.target.listed (Rewriting.Leaves q.r.target.at) s here held in
        let one = its.one_node q.nodes layout q.listings q.seen.sound q.seen.held l listed g.node (walk.number q) amended.node amended.there in
        let its_name : is_same_path (k.object.path ++ amended.was.name ∷ []) l.object.path ≡ true =
        same_by_folds (k.object.path ++ amended.was.name ∷ []) l.object.path
        (folds_alike (k.object.path ++ amended.was.name ∷ []) (k.object.path ++ l.object.entry.name ∷ [])
        (same_last k.object.path k.object.path amended.was.name l.object.entry.name ∙ ap₂ (λ (x y : Bool). x && y) (itself k.object.path) (ap (λ (x : Node). is_same_name amended.was.name x.entry.name) one ∙ amended.named))
        ∙ folds_alike (k.object.path ++ l.object.entry.name ∷ []) l.object.path l_path) in
        let f : Entry → Entry = regrown_entry k.object.path (Some anew) in
        let middle : entries_of here.middle ≡ map f (entries_of k.content) = amended.amended.regrown k.object.path amended.was anew amended.is_at its_name refl in
        let low = slice_get_within (entries_of k.content) q.r.target.at it.entry there in
        let less = drafted.left 0 k.content q.r.target.at (said_by k.content (q.seen.bodies k q.seen.known.target.listed)) low in
        let plain = with_head 0 (with_less q.r.target.at k.content) in
        let moved_there : IsAt (entries_of here.middle) q.r.target.at (f it.entry) =
        ap (λ (es : List Entry). slice_get es q.r.target.at) middle ∙ get_map f (entries_of k.content) q.r.target.at it.entry there in (
          plain,
          record {
            rewritten = λ c other. amended.amended.carries c k.object.path (now k.object.path) content (left.rewritten c k.object.path other);
            form = form_left (dir_form layout) k.object.entry.len (now k.object.path) q.r.target.at here.middle content left
                (amended_form (dir_form layout) k.object.entry.len amended.at (regrown amended.was g.address g.len) k.content here.middle amended.amended (q.seen.forms k q.seen.known.target.listed));
            without = less.entries it.entry (last_name q.from) there named;
            removed = entries_left 0 q.r.target.at k.content plain less;
          },
          left.entries (f it.entry) (last_name q.from) moved_there (ap (λ (n : List ℕ). is_same_name n (last_name q.from)) (regrown_name k.object.path anew it.entry) ∙ named)
              ∙ ap (without_name (last_name q.from)) middle ∙ stays_without (last_name q.from) f (regrown_name k.object.path anew) (entries_of k.content)
              ∙ ap (map f) (sym (less.entries it.entry (last_name q.from) there named)),
        )
      where
        said_by : (dir : Directory) → IsDirectory dir → IsSayable dir
        said_by (Directory.Small dir) is = is
        said_by (Directory.Big dir) is = is
