-- The directories around one that grows, as they are told and ready to be written: what they say then, and that they can.
use Rattle.std.proofs.Common.{◌≡◌, ◌⊎◌, ⊎_elim, ℕ, ◌&&◌, Bool, true, false, cond, List, [], ◌∷◌, ◌++◌, length, map, refl, sym, ap, ap₂, subst, ◌∙◌, arith, Some}
use Rattle.std.specs.Prelude.{Contains}
use Rattle.std.proofs.lemmas.List.{length_push}
use Rattle.fc_names.specs.Names.{Path, is_same_name, is_same_path}
use Rattle.fc_model.specs.Command.{Command}
use Rattle.fc_model.specs.Tree.{holder}
use Rattle.fc_dirs.specs.declared.Entry.{Entry}
use Rattle.fc_dirs.specs.Directory.{Directory, entries_of}
use Rattle.fc_drafts.specs.Draft.{directory_in}
use Rattle.fc_drafts.specs.Entries.{regrown}
use Rattle.fc_drafts.specs.Rewriting.{HasNewHolder}
use Rattle.fc_image.specs.Layout.{Layout, dir_form}
use Rattle.fc_image.specs.Sound.{AreSound}
use Rattle.fc_image.specs.Walk.{Listing, Object, object_size}
use Rattle.fc_image.specs.effects.Steady.{AreWritten, IsRewritten, is_renamed_by, regrown_entry}
use Rattle.fc_image.proofs.PathsLemmas.{itself, same_last}
use Rattle.fc_changes.proofs.BasicLemmas.{clash}
use Rattle.fc_laws.specs.agree.Agreed.{CanSay}
use Rattle.fc_laws.specs.nodes.Edits.{Nodes}
use Rattle.fc_laws.proofs.lemmas.nodes.FitsLemmas.{kid_lower}
use Rattle.fc_laws.proofs.lemmas.nodes.ListLemmas.{map_fixed}
use Rattle.fc_tree.specs.declared.node.Node.{Node}
use Rattle.fc_tree.specs.Agree.{HasForm}
use Rattle.fc_tree.specs.Nodes.{HoldObjects, number_of}
use Rattle.fc_tree.proofs.MemberLemmas.{contains_here}
use Rattle.fc_tree.proofs.WalkedLemmas.{child_path, holder-push, listed_directory, same_some}
use Rattle.fc_change.specs.declared.change.Regrowth.{Regrowth}
use Rattle.fc_change.specs.declared.change.Says.{Says}
use Rattle.fc_change.specs.Directories.{HasRegrownEntry, Rewriting, TellAll, Tells, is_holder}
use Rattle.fc_change.specs.Prepared.{IsPieceOf}
use Rattle.fc_writing.specs.declared.ready.Piece.{Piece}
use Rattle.fc_writing.specs.Ready.{place_of}
use Rattle.fc_commands.proofs.GrownPieceLemmas.{AllPieces}
use Rattle.fc_commands.proofs.GrownToldLemmas as of
use Rattle.fc_commands.proofs.GrownToldLemmas.{amended_form, head_form, holder_short, num, other_long, parent_now}
use Rattle.fc_commands.proofs.NodeLemmas.{size_of_form}
use Rattle.fc_commands.proofs.NodeLemmas as its
use Rattle.fc_laws.proofs.lemmas.agree.SayLemmas.{as_directory as says_it}
use Rattle.fc_image.proofs.EntriesLemmas.{later as contains_later}

-- the directory of this object at its new place
abbrev pub regrown_at : Regrowth → List ℕ → Object → Object
regrown_at g sectors o = record o { entry = record o.entry { address = g.address; len = g.len }; sectors = sectors }

module _ (layout : Layout) (nodes : Nodes) (listings : List Listing) (sound : AreSound layout listings) (held : HoldObjects nodes listings) (l : Listing) (listed : Contains listings l)
    (g : Regrowth) (number : number_of nodes l.object.path ≡ Some g.node) (forms : (k : Listing) → Contains listings k → HasForm (dir_form layout) k.object.entry.len k.content) (sectors : List ℕ) where
  abbrev new : Object
  new = regrown_at g sectors l.object

  abbrev numb : Listing → ℕ
  numb k = num layout nodes listings sound held l listed g number k

  abbrev now : Path → ℕ
  now path = parent_now layout nodes listings sound held l listed g number path

  -- Directory k, with what it is told, and its piece: it has the grown one's new entry, if it holds that, and its holder's address.
  pub record IsOneReady (k : Listing) (s : Says) (p : Piece) : Type 0 where
    pub found : Contains listings k
    pub number_is : number_of nodes k.object.path ≡ Some s.node
    pub entries : entries_of (directory_in s.draft) ≡ map (regrown_entry k.object.path (Some new)) (entries_of k.content)
    pub plain : is_same_path (holder l.object.path) k.object.path ≡ false → entries_of (directory_in s.draft) ≡ entries_of k.content
    pub says : (c : Command) → is_renamed_by c k.object.path ≡ false → IsRewritten c k.object.path (now k.object.path) k.content (directory_in s.draft)
    pub can : CanSay layout k.object (directory_in s.draft)
    pub place : place_of p ≡ k.object.sectors
    pub bytes : AreWritten p.bytes.items (directory_in s.draft)
    pub long : length p.bytes.items ≡ object_size (dir_form layout) k.object.entry

  -- each of these
  abbrev pub AreReady : List Listing → List Says → List Piece → Type 0
  AreReady [] [] [] = Unit {0}
  AreReady (k ∷ ks) (s ∷ ss) (p ∷ ps) = IsOneReady k s p × AreReady ks ss ps
  AreReady _ _ _ = ⊥

  module _ (k : Listing) (at : Contains listings k) (s : Says) (tells : Tells (Some g) nodes (numb k) Rewriting.Stays s) (p : Piece) (piece : IsPieceOf layout nodes s p) where
    abbrev told : Directory
    told = directory_in s.draft

    turned : HasNewHolder (now k.object.path) tells.middle told
    turned = of.rewritten layout nodes listings sound held l listed g number k at Rewriting.Stays s tells refl

    one_ready : entries_of told ≡ map (regrown_entry k.object.path (Some new)) (entries_of k.content)
        → (is_same_path (holder l.object.path) k.object.path ≡ false → entries_of told ≡ entries_of k.content)
        → ((c : Command) → is_renamed_by c k.object.path ≡ false → IsRewritten c k.object.path (now k.object.path) k.content told) → HasForm (dir_form layout) k.object.entry.len told → IsOneReady k s p
    one_ready entries plain says form = record {
      found = at;
      number_is = of.says_number layout nodes listings sound held l listed g number k at Rewriting.Stays s tells;
      entries = entries;
      plain = plain;
      says = says;
      can = record { form = form; body = says_it told piece.drafted.sayable };
      place = of.place_same layout nodes listings sound held l listed g number k at Rewriting.Stays s tells p piece;
      bytes = piece.drafted.bytes;
      long = piece.drafted.length_is ∙ size_of_form (dir_form layout) k.object.entry told form (listed_directory layout listings sound k at).1;
    }

    -- the directory that holds the grown one
    module _ (kid : Contains k.children l.object) where
      l_path : l.object.path ≡ k.object.path ++ l.object.entry.name ∷ []
      l_path = child_path layout listings sound k l.object at kid

      holds : is_same_path (holder l.object.path) k.object.path ≡ true
      holds = ap (λ (q : Path). is_same_path q k.object.path) (ap holder l_path ∙ holder-push k.object.path l.object.entry.name) ∙ itself k.object.path

      its_entry : HasRegrownEntry nodes g k.content tells.middle
      its_entry =
          of.is_amended layout nodes listings sound held l listed g number k at Rewriting.Stays s tells
          (of.holds_it layout nodes listings sound held l listed g number (kid_lower layout listings nodes sound held k l.object g.node at kid number) k at ∙ holds)

      named : is_same_path (k.object.path ++ its_entry.was.name ∷ []) l.object.path ≡ true
      named =
          let one = its.one_node nodes layout listings sound held l listed g.node number its_entry.node its_entry.there in
          ap (is_same_path (k.object.path ++ its_entry.was.name ∷ [])) l_path ∙ same_last k.object.path k.object.path its_entry.was.name l.object.entry.name
          ∙ ap₂ (λ (x y : Bool). x && y) (itself k.object.path) (ap (λ (x : Node). is_same_name its_entry.was.name x.entry.name) one ∙ its_entry.named)

      pub top_ready : IsOneReady k s p
      top_ready = one_ready
          (turned.entries ∙ its_entry.amended.regrown k.object.path its_entry.was new its_entry.is_at named refl)
          (λ none. absurd (clash (is_same_path (holder l.object.path) k.object.path) holds none))
          (λ c other. its_entry.amended.carries c k.object.path (now k.object.path) told (turned.rewritten c k.object.path other))
          (head_form (dir_form layout) k.object.entry.len (now k.object.path) tells.middle told turned
          (amended_form (dir_form layout) k.object.entry.len its_entry.at (regrown its_entry.was g.address g.len) k.content tells.middle its_entry.amended (forms k at)))

    -- a directory in it
    module _ (kid : Contains l.children k.object) where
      kid_path : k.object.path ≡ l.object.path ++ k.object.entry.name ∷ []
      kid_path = child_path layout listings sound l k.object listed kid

      not_above : is_same_path (holder l.object.path) k.object.path ≡ false
      not_above = other_long (holder l.object.path) k.object.path (λ same.
          let short = holder_short l.object.path in
          let more = ap (λ (q : Path). length q) kid_path ∙ length_push l.object.path k.object.entry.name in
          omega (arith, same, short, more))

      same_content : tells.middle ≡ k.content
      same_content =
          of.not_amended layout nodes listings sound held l listed g number k at Rewriting.Stays s tells
          (of.holds_none layout nodes listings sound held l listed g number k at (λ same. absurd (clash (is_same_path (holder l.object.path) k.object.path) same not_above)))

      turned_kid : HasNewHolder (now k.object.path) k.content told
      turned_kid = subst (λ (d : Directory). HasNewHolder (now k.object.path) d told) same_content turned

      entries_stay : map (regrown_entry k.object.path (Some new)) (entries_of k.content) ≡ entries_of k.content
      entries_stay = map_fixed (regrown_entry k.object.path (Some new)) (entries_of k.content) (λ e there. own e)
        where
          own : (e : Entry) → regrown_entry k.object.path (Some new) e ≡ e
          own e =
              ap (λ (b : Bool). cond b (record e { address = g.address; len = g.len }) e)
              (other_long (k.object.path ++ e.name ∷ []) l.object.path (λ same.
              let long = length_push k.object.path e.name in
              let more = ap (λ (q : Path). length q) kid_path ∙ length_push l.object.path k.object.entry.name in
              omega (arith, same, long, more)))

      pub kid_ready : IsOneReady k s p
      kid_ready = one_ready (turned_kid.entries ∙ sym entries_stay) (λ none. turned_kid.entries) (λ c other. turned_kid.rewritten c k.object.path other)
          (head_form (dir_form layout) k.object.entry.len (now k.object.path) k.content told turned_kid (forms k at))

  -- It holds the grown one, or lies in it.
  abbrev pub StandsBy : Listing → Type 0
  StandsBy k = Contains listings k × (Contains k.children l.object ⊎ Contains l.children k.object)

  pub are_ready : (ks : List Listing) (ss : List Says) (ps : List Piece) → ((k : Listing) → Contains ks k → StandsBy k)
      → TellAll (Some g) nodes (map (λ (k : Listing). let q : ℕ × Rewriting = (numb k, Rewriting.Stays) in q) ks) ss → AllPieces layout nodes ss ps → AreReady ks ss ps
  are_ready [] [] [] each tells pieces = tt
  are_ready [] [] (p ∷ ps) each tells pieces = absurd pieces
  are_ready [] (s ∷ ss) ps each tells pieces = absurd tells
  are_ready (k ∷ ks) [] ps each tells pieces = absurd tells
  are_ready (k ∷ ks) (s ∷ ss) [] each tells pieces = absurd pieces
  are_ready (k ∷ ks) (s ∷ ss) (p ∷ ps) each tells pieces =
      let here = each k (contains_here k ks) in (
        ⊎_elim (λ kid. top_ready k here.0 s tells.0 p pieces.0 kid) (λ kid. kid_ready k here.0 s tells.0 p pieces.0 kid) here.1,
        are_ready ks ss ps (λ j at. each j (contains_later k j ks at)) tells.1 pieces.1,
      )

  -- ---- the grown directory itself

  pub own_middle : (r : Rewriting) (s : Says) (tells : Tells (Some g) nodes (numb l) r s) → tells.middle ≡ l.content
  own_middle r s tells =
      of.not_amended layout nodes listings sound held l listed g number l listed r s tells
      (ap (is_holder nodes g) (same_some (numb l) g.node (sym (of.num_is layout nodes listings sound held l listed g number l listed) ∙ number))
      ∙ of.not_its_own layout nodes listings sound held l listed g number)
