-- What comes to a directory that grows by it, on a new map: the edit with its parts, from the change as it is prepared, and as it ran.
use Rattle.std.proofs.Common.{◌≡◌, ◌<◌, ◌||◌, ℕ, Bool, true, false, cond, List, [], ◌∷◌, ◌++◌, insert, map, refl, sym, ap, subst, ◌∙◌, Option, Some, None}
use Rattle.std.specs.Prelude.{Contains, IsFalse, IsPermutation}
use Rattle.std.specs.FinMap.{get}
use Rattle.std.specs.Option.{option_to_list}
use Rattle.std.proofs.lemmas.List.Sorted.{IsPermutation-refl}
use Rattle.fc_names.specs.Names.{Path}
use Rattle.fc_names.specs.declared.name.NameForm.TheVariants as forms
use Rattle.fc_alloc.specs.declared.owner.Owner.{Owner}
use Rattle.fc_record.specs.declared.Kind.{Kind}
use Rattle.fc_newmap.specs.Map.{Map}
use Rattle.fc_dirs.specs.declared.Entry.{Entry}
use Rattle.fc_dirs.specs.Directory.{Directory, entries_of}
use Rattle.fc_dirs.specs.Entries.{entry_place, has_name, with_entry}
use Rattle.fc_drafts.specs.declared.draft.Draft.{Draft}
use Rattle.fc_drafts.specs.declared.room.Room.TheVariants as rooms
use Rattle.fc_drafts.specs.Draft.{directory_in}
use Rattle.fc_drafts.specs.Gains.{GetsName, HasRoom}
use Rattle.fc_image.specs.Edits.{IsAt}
use Rattle.fc_image.specs.Layout.{Layout, dir_form}
use Rattle.fc_image.specs.Objects.{objects_of}
use Rattle.fc_image.specs.Sound.{AreSound}
use Rattle.fc_image.specs.Walk.{Listing, Object, object_size}
use Rattle.fc_image.specs.effects.Short.{Gain}
use Rattle.fc_image.specs.effects.Steady.{is_given_back, replaced_entry}
use Rattle.fc_objects.specs.Extents.{sectors_in}
use Rattle.fc_laws.specs.agree.Agreed.{AgreeOn}
use Rattle.fc_laws.specs.nodes.Edits.{Nodes, OwnersEdited, owners_with}
use Rattle.fc_laws.proofs.lemmas.agree.BeforeLemmas.{agreed_law}
use Rattle.fc_laws.proofs.lemmas.nodes.ListLemmas.{put_at}
use Rattle.fc_placing.specs.Leaving.{left_among}
use Rattle.fc_plan.specs.declared.plan.Plan.{Plan}
use Rattle.fc_plan.specs.Applied.{id_in, parts_in}
use Rattle.fc_plan.specs.Giving.{is_one_of}
use Rattle.fc_tree.specs.declared.node.Node.{Node}
use Rattle.fc_tree.specs.Nodes.{HoldObjects, number_of}
use Rattle.fc_tree.proofs.SoundLemmas.{children_stored}
use Rattle.fc_tree.proofs.WalkedLemmas.{same_some}
use Rattle.fc_edits.specs.Addition.{Addition, Comes, ComesAlone}
use Rattle.fc_edits.specs.Edit.{AreEdited}
use Rattle.fc_edits.specs.Growing.{Growing, up_of}
use Rattle.fc_edits.specs.GrownAddition.{NewGrownAddition, grown_edit}
use Rattle.fc_edits.specs.NewNodes as edited
use Rattle.fc_edits.specs.NewPlaces.{GivesBack, is_taken}
use Rattle.fc_edits.specs.Placing.{IsPlaced}
use Rattle.fc_edits.proofs.lemmas.GrownAdditionLemmas.{grown_addition_law}
use Rattle.fc_change.specs.declared.change.Change.{Change}
use Rattle.fc_change.specs.declared.change.Turned.TheVariants as turns
use Rattle.fc_change.specs.declared.job.Growth.{Growth}
use Rattle.fc_change.specs.declared.spaces.GrownPlace.{GrownPlace}
use Rattle.fc_change.specs.After.{AreOwnersAfter, gone_in, nodes_after, owners_admitted, with_regrown, with_said, with_turned, without_gone}
use Rattle.fc_change.specs.GrownSpace.{gone_at_once}
use Rattle.fc_writing.specs.declared.ready.Piece.{Piece}
use Rattle.fc_writing.specs.declared.ready.Ready.{Ready}
use Rattle.fc_writing.specs.declared.ready.RootPlace.{RootPlace}
use Rattle.fc_commands.proofs.GrownAroundLemmas.{IsCutAround}
use Rattle.fc_commands.proofs.GrownChangeLemmas.{IsGrownStepped, taking_of, takings}
use Rattle.fc_commands.proofs.GrownSaidLemmas.{GrownEdit, IsOwnListing, comes_to}
use Rattle.fc_commands.proofs.GrownOwnerLemmas.{IsOwned, owners_grown}
use Rattle.fc_commands.proofs.GrownPieceLemmas.{IsGrownReady}
use Rattle.fc_commands.proofs.GrownPreparedLemmas.{IsGrownChange}
use Rattle.fc_commands.proofs.GrownPreparedLemmas as prepared
use Rattle.fc_commands.proofs.GrownSpaceLemmas.{IsToGrow, alone, growing_of}
use Rattle.fc_commands.proofs.GrownSpaceLemmas as space_of
use Rattle.fc_commands.proofs.NodeLemmas as its_node
use Rattle.fc_commands.proofs.GrownBackLemmas as back_of
use Rattle.fc_commands.proofs.GrownBackLemmas.{OwnOnlyOf}
use Rattle.fc_commands.proofs.ArrivalEditLemmas.{map_insert}
use Rattle.fc_tree.proofs.EndLemmas.{no_twin as apart_names}

-- ---- the edit

-- Parts that agree, directory l among them, and a change by which it grows for an entry.
module _ (kind : Kind) (m : Map) (nodes : Nodes) (owners : List Owner) (root : Node) (listings : List Listing) (agreed : AgreeOn kind m nodes owners root listings) (l : Listing) (listed : Contains listings l)
    (p : GrownPlace) (number : number_of nodes l.object.path ≡ Some p.directory.node) (form : dir_form (Layout.New m) ≡ forms.Long) (e : Entry) (c : Change) (ch : IsGrownChange nodes e p.directory c)
    (room : (gain : Gain) → GetsName l.content e.name gain → HasRoom l.content gain (rooms.Grows p.directory.len)) (made : List Piece) (r : Ready)
    (ready : IsGrownReady (Layout.New m) nodes p ch.said ch.others made r) (absent : IsFalse (has_name (entries_of l.content) e.name)) where
  abbrev pub layout : Layout
  layout = Layout.New m

  abbrev pub sound : AreSound (Layout.New m) listings
  sound = agreed_law.sound kind m nodes owners root listings agreed

  abbrev pub held : HoldObjects nodes listings
  held = agreed.walked.held

  abbrev pub content : Directory
  content = directory_in ch.said.draft

  module _ (sectors : List ℕ) (into : List Listing) (new : ℕ) where
    -- what comes
    abbrev pub o : Object
    o = record { path = l.object.path ++ e.name ∷ []; entry = e; sectors = sectors }

    abbrev pub children : List Object
    children = insert l.children (entry_place e.name (entries_of l.content)) o

    pub around : (tops kids left : List Listing) × IsCutAround listings l tops kids left
    around =
        prepared.around_it layout nodes listings sound held l listed p number agreed.walked.forms form e c ch room made r ready children o into new

    pub grown : GrownEdit layout nodes listings sound held l listed p number agreed.walked.forms content children o into new around.0 around.1 around.2 (ch.said ∷ ch.others) (ready.own ∷ ready.pieces)
    unfolding around
    grown = prepared.grown_edit layout nodes listings sound held l listed p number agreed.walked.forms form e c ch room made r ready children o into new

    abbrev pub c_add : Addition
    c_add = comes_to l content children o into (around.0 ++ (around.1 ++ around.2)) p.directory.node new

    abbrev pub growing : Growing
    growing = growing_of l.object p grown.again grown.same grown.holder grown.others

    stored : map (λ (q : Object). q.entry) children ≡ entries_of content
    stored =
        map_insert (λ (q : Object). q.entry) l.children (entry_place e.name (entries_of l.content)) o
        ∙ ap (λ (es : List Entry). insert es (entry_place e.name (entries_of l.content)) e) (children_stored layout listings sound l listed)
        ∙ sym ((prepared.entered layout nodes listings sound held l listed p number agreed.walked.forms form e c ch room made r ready).entries
        ∙ ap (λ (b : Bool). cond b (map (replaced_entry e) (entries_of l.content)) (with_entry e (entries_of l.content))) absent)

    module _ (free : get nodes new ≡ None) (its_own : ComesAlone (Layout.New m) into (record { path = l.object.path ++ e.name ∷ []; entry = e; sectors = sectors })) where
      pub comes : Comes nodes (Layout.New m) listings c_add
      comes = record {
        found = around.3.all;
        had = IsPermutation-refl l.children;
        holds = put_at l.children (entry_place e.name (entries_of l.content)) o;
        stored = stored;
        apart = apart_names content (prepared.own_can layout nodes listings sound held l listed p number agreed.walked.forms form e c ch room made r ready).body;
        path = refl;
        dir_is = number;
        node = free;
        alone = its_own;
      }

      -- ---- its nodes

      module _ (own : Option Draft) (is_own : IsOwnListing new own into) (turned : c.object ≡ turns.Comes p.directory.node e own) where
        nodes_are : nodes_after c new nodes ≡ edited.nodes_after (grown_edit c_add growing) nodes
        nodes_are =
            (λ i. without_gone (gone_in (turned i)) (with_said (ch.says i) (with_turned (turned i) new (with_regrown (ch.grown i) nodes))))
            ∙ grown.nodes_are own is_own free

        pub nodes_edited : AreEdited nodes (nodes_after c new nodes) (grown_edit c_add growing)
        nodes_edited =
            subst (λ (ns : Nodes). AreEdited nodes ns (grown_edit c_add growing)) (sym nodes_are)
            (grown_addition_law.nodes nodes (Layout.New m) listings c_add growing (record { sound = sound; held = held }) comes refl grown.grows)

        -- ---- its map

        -- The object has this plan, and `stay` are all other objects than l.
        module _ (m' : Map) (owners' : List Owner) (stay : List Object) (g : Growth) (plan dir : Option Plan) (place_root : Option RootPlace) (back : List ℕ) (to : IsToGrow m nodes owners listings l.object stay g plan dir p)
            (stepped : IsGrownStepped m m' plan dir (alone m nodes owners listings l.object stay g plan dir p to) place_root back)
            (fresh : OwnOnlyOf m (record { path = l.object.path ++ e.name ∷ []; entry = e; sectors = sectors } ∷ []) stay)
            (left : (q : Plan) → dir ≡ Some q → alone m nodes owners listings l.object stay g plan dir p to ≡ false → back ≡ option_to_list (left_among owners g.node None))
            (lost : dir ≡ None → back ≡ []) (was_alone : alone m nodes owners listings l.object stay g plan dir p to ≡ true → back ≡ []) (kept : dir ≡ None → is_one_of back (space_of.own_id m nodes owners listings l.object stay g plan dir p to) ≡ false)
            (near : Path) (at : IsAt (Layout.New m') (record { path = l.object.path ++ e.name ∷ []; entry = e; sectors = sectors }))
            (place : IsPlaced m (objects_of listings) near (object_size (dir_form (Layout.New m')) e) (id_in plan) (parts_in plan) (record { path = l.object.path ++ e.name ∷ []; entry = e; sectors = sectors }))
            (after : AreOwnersAfter (Layout.New m') nodes c (owners_admitted (Layout.New m) c.object new owners) owners') where
          abbrev pub was_here : Bool
          was_here = alone m nodes owners listings l.object stay g plan dir p to

          node_same : p.directory.node ≡ g.node
          node_same = space_of.node_is m nodes owners listings l.object stay g plan dir p to

          pub grown_at : IsAt (Layout.New m') (space_of.placed_at p l.object)
          grown_at = back_of.grown_at m nodes owners listings l.object stay g plan dir p to m' place_root back stepped kept

          is_owned : IsOwned (Layout.New m) nodes owners listings l.object stay (up_of grown.holder) p.directory.node
          is_owned = record {
            sound = sound;
            held = held;
            owned = agreed.owned;
            above = grown.above;
            number = number;
            others = to.others;
            some = space_of.o_some m nodes owners listings l.object stay g plan dir p to;
          }

          pub owners_edited : OwnersEdited owners owners' (owners_with (Layout.New m) (up_of grown.holder) p.directory.node l.object)
              (owners_with (Layout.New m') (up_of grown.holder) p.directory.node (space_of.placed_at p l.object) ++ owners_with (Layout.New m') p.directory.node new o)
          owners_edited =
              owners_grown m m' nodes owners listings l.object stay (up_of grown.holder) p.directory is_owned stepped.geometry (sectors_in p.extents.items)
              (its_node.node nodes layout listings sound held l listed p.directory.node number) (its_node.there nodes layout listings sound held l listed p.directory.node number)
              (same_some (its_node.node nodes layout listings sound held l listed p.directory.node number).holder (up_of grown.holder)
              (sym (held.each l.object (its_node.among nodes layout listings sound held l listed p.directory.node number)).at_holder ∙ grown.above)) refl new o free at grown_at
              (back_of.grown_some m nodes owners listings l.object stay g plan dir p to m' place_root back stepped kept) c owners' own ch.grown turned after

          pub gives : GivesBack m (takings plan dir) (gone_at_once dir was_here ++ back) listings (grown_edit c_add growing)
          gives = record {
            stay = stay;
            others = subst (λ (os : List Object). IsPermutation (objects_of listings) (os ++ stay)) (sym grown.leave) to.others;
            exactly = λ k used.
                back_of.gives m nodes owners listings l.object stay g plan dir p to m' place_root back stepped kept (o ∷ []) fresh lost was_alone left k used
                ∙ ap (λ (os : List Object). is_given_back (objects_of listings) (os ++ stay) k || is_taken (takings plan dir) k) (sym grown.join);
          }

          abbrev pub as_addition : NewGrownAddition
          as_addition = record {
            kind = kind;
            m = m;
            m' = m';
            nodes = nodes;
            nodes' = nodes_after c new nodes;
            owners = owners;
            owners' = owners';
            root = root;
            listings = listings;
            c = c_add;
            growing = growing;
            id = id_in plan;
            parts = parts_in plan;
            own = taking_of dir;
            gone = gone_at_once dir was_here ++ back;
            near = near;
            agreed = agreed;
            comes = comes;
            new = refl;
            its = refl;
            grows = grown.grows;
            nodes_edited = nodes_edited;
            owners_edited = owners_edited;
            is_map = stepped.edited.is_map;
            geometry = stepped.geometry;
            space = stepped.space;
            gives = gives;
            some = subst (λ (n : ℕ). 0 < n) (sym (space_of.len_is m nodes owners listings l.object stay g plan dir p to)) to.longer;
            lies = space_of.lies m nodes owners listings l.object stay g plan dir p to grown.again grown.same grown.holder grown.others;
            grown_at = grown_at;
            at = at;
            place = place;
          }
