-- The parts of an opened image agree by its listings, if they agree by those of another kind.
use Rattle.std.proofs.Common.{◌≡◌, ◌≤◌, ℕ, true, List, [], ◌∷◌, length, refl, sym, ap, subst, ◌∙◌, arith, Some}
use Rattle.std.specs.Prelude.{Contains, Ok, filter}
use Rattle.std.specs.FinMap.{get}
use Rattle.fc_names.specs.declared.name.NameForm.{NameForm}
use Rattle.fc_names.specs.declared.name.NameForm.TheVariants.{Long, Seven, Ten}
use Rattle.fc_names.specs.Names.{Path}
use Rattle.fc_record.specs.declared.Kind.{Kind}
use Rattle.fc_oldmap.specs.OldMap.{OldMapContent}
use Rattle.fc_newmap.specs.Map.{Map}
use Rattle.fc_dirs.specs.declared.Entry.{Entry}
use Rattle.fc_dirs.specs.Directory.{Directory, directory_size}
use Rattle.fc_alloc.specs.declared.owner.Owner.{Owner}
use Rattle.fc_image.specs.Layout.{Layout, dir_form, disc_sectors}
use Rattle.fc_image.specs.Walk.{Listing, Object, Reader, is_directory_object, reader_of, root_entry, walk}
use Rattle.fc_image.specs.Objects.{listing_at, objects_of}
use Rattle.fc_image.specs.Opening.{Opened, reserved_in}
use Rattle.fc_image.specs.Sound.{AreSound}
use Rattle.fc_image.specs.Stays.{OpensAs}
use Rattle.fc_image.specs.Edits.{AreEdited, Follows, IsRoot, StayListed}
use Rattle.fc_image.specs.Order.{held}
use Rattle.fc_image.proofs.EditLemmas.{edit_law, stay_law, walk_form_law}
use Rattle.fc_image.proofs.HolesLemmas.{least_none}
use Rattle.fc_image.proofs.MoveLemmas.{open_by}
use Rattle.fc_image.proofs.OrderLemmas.{order_law}
use Rattle.fc_image.proofs.RelistLemmas.{map_itself, root_once}
use Rattle.fc_image.proofs.RoomLemmas.{room_law}
use Rattle.fc_tree.specs.declared.node.Node.{Node}
use Rattle.fc_tree.specs.Agree.{AreWalked, HasForm, IsDirectory, reader_of_nodes}
use Rattle.fc_tree.specs.Nodes.{HasNode, HoldObjects, body_in, body_of}
use Rattle.fc_tree.specs.Parts.{AreOwners, ArePartsOf}
use Rattle.fc_tree.proofs.FindLemmas.{object_of_number}
use Rattle.fc_tree.proofs.HeldLemmas.{nodes_law}
use Rattle.fc_tree.proofs.MemberLemmas.{contains_here, from_map, in_filter}
use Rattle.fc_tree.proofs.WalkedLemmas.{directories_listed, listed_directory, listing_found, same_some, sound_law}
use Rattle.fc_changes.proofs.lemmas.old.BeforeLemmas.{Walked, opened_as, parts}
use Rattle.fc_laws.specs.nodes.Edits.{Nodes}
use Rattle.fc_laws.specs.agree.Agreed.{AgreeOn, CanSay, parts_with}
use Rattle.fc_laws.proofs.lemmas.agree.WalkedLemmas as on_any
use Rattle.fc_laws.proofs.lemmas.takeover.KindLemmas.{new_kind}
use Rattle.fc_laws.specs.old.agree.Laws.{AgreeOn as OldAgreeOn, parts_with as old_parts_with}
use Rattle.fc_edits.specs.Views.{ViewLaw}
use Rattle.fc_image.proofs.EntriesLemmas.{later as contains_later}

-- ---- one directory of each

pub one_content : (a b : Directory) → body_in a ≡ body_in b → a ≡ b
one_content (Directory.Small a) (Directory.Small b) e = cc
one_content (Directory.Small a) (Directory.Big b) e = absurd (cc)
one_content (Directory.Big a) (Directory.Small b) e = absurd (cc)
one_content (Directory.Big a) (Directory.Big b) e = cc

-- ---- a walk by another reader

-- each directory says to another reader what it said
follows_again : (read read' : Reader) (layout : Layout) (waiting : List Object) (listings : List Listing) → Follows read layout waiting listings
    → ((l : Listing) → Contains listings l → read' l.object ≡ Ok l.content) → StayListed read layout listings → Follows read' layout waiting listings
follows_again read read' layout waiting listings follows says listed =
    subst (λ (os : List Object). Follows read' layout os listings) (map_itself waiting) (edit_law.files read read' layout layout (λ o. o) waiting listings listings follows (same listings says listed))
  where
    same : (ls : List Listing) → ((l : Listing) → Contains ls l → read' l.object ≡ Ok l.content) → StayListed read layout ls → AreEdited read' layout (λ o. o) ls ls
    same [] says listed = tt
    same (l ∷ ls) says listed = (
      refl,
      (says l (contains_here l ls), listed.0.1),
      sym (map_itself (filter is_directory_object l.children)),
      same ls (λ k at. says k (contains_later l k ls at)) listed.1,
    )

twice : (form : NameForm) (n : ℕ) → directory_size form (directory_size form n) ≡ directory_size form n
twice Seven n = refl
twice Ten n = refl
twice Long n = refl

module _ (kind other : Kind) (image : List ℕ) (layout : Layout) (ls : List Listing) (nodes : Nodes) (top : Node) (listings : List Listing)
    (a : AreWalked nodes layout (reserved_in other layout) top.entry.address top.entry.len listings)
    (opens : OpensAs image kind (record { kind = kind; layout = layout; listings = ls })) (hold : HoldObjects nodes ls) where
  abbrev v : Opened
  v = record { kind = kind; layout = layout; listings = ls }

  abbrev read : Reader
  read = reader_of image layout

  abbrev reserved : List ℕ
  reserved = reserved_in kind layout

  view_sound : AreSound layout ls
  view_sound = sound_law image kind v opens

  was : Walked kind image layout ls opens
  was = parts kind image layout ls opens

  listed : StayListed read layout ls
  listed = stay_law.listed read layout reserved was.address was.size ls was.walked

  has : (l : Listing) → Contains ls l → HasNode nodes ls l.object
  has l l_in = hold.each l.object (listed_directory layout ls view_sound l l_in).0

  says : (l : Listing) → Contains ls l → reader_of_nodes nodes l.object ≡ Ok l.content
  says l l_in = nodes_law nodes ls l (has l l_in) (listing_found layout ls view_sound l l_in)

  -- what bytes can say
  can : (l : Listing) → Contains ls l → CanSay layout l.object l.content
  can l l_in =
      let h = has l l_in in
      let before = on_any.sound other layout nodes top listings a in
      let o = object_of_number layout listings nodes before a.held h.number _ h.is in
      let g = a.held.each o.0 o.1 in
      let number : g.number ≡ h.number = same_some g.number h.number (sym g.at_path ∙ o.2) in
      let node : (let x : Node = record { holder = g.holder_number; entry = o.0.entry; body = body_of (listing_at listings o.0.path) } in x)
      ≡ record { holder = h.holder_number; entry = l.object.entry; body = body_of (listing_at ls l.object.path) } =
      same_some _ _ (sym g.is ∙ ap (get nodes) number ∙ h.is) in
      let entry : o.0.entry ≡ l.object.entry = ap (λ (x : Node). x.entry) node in
      let is_dir : is_directory_object o.0 ≡ true =
      ap (λ (e : Entry). is_directory_object (record { path = []; entry = e; sectors = [] })) entry ∙ (listed_directory layout ls view_sound l l_in).1 in
      let d = from_map (λ (x : Listing). x.object) listings o.0
      (subst (λ (os : List Object). Contains os o.0) (directories_listed layout listings before) (in_filter is_directory_object (objects_of listings) o.0 o.1 is_dir)) in
      let found = ap (λ (p : Path). listing_at listings p) (ap (λ (x : Object). x.path) (sym d.2)) ∙ listing_found layout listings before d.0 d.1 in
      let content : d.0.content ≡ l.content =
      one_content d.0.content l.content (sym (ap body_of found) ∙ ap (λ (x : Node). x.body) node ∙ ap body_of (listing_found layout ls view_sound l l_in)) in
      record {
        form = subst (λ (c : Directory). HasForm (dir_form layout) l.object.entry.len c) content
            (subst (λ (e : Entry). HasForm (dir_form layout) e.len d.0.content) (ap (λ (x : Object). x.entry) d.2 ∙ entry) (a.forms d.0 d.1));
        body = subst IsDirectory content (a.bodies d.0 d.1);
      }

  root_there : (o : Object) → IsRoot layout was.address was.size o → (node : Node) × (get nodes 0 ≡ Some node) × (node.entry ≡ o.entry)
  root_there o is =
      let h = order_law.gives read layout reserved was.address was.size ls was.walked in
      let same : h.0 ≡ o = root_once layout was.address was.size h.0 o h.1 is in
      let there = hold.each o (subst (λ (p : Object). Contains (objects_of ls) p) same (subst (λ (os : List Object). Contains os h.0) (sym h.4) (contains_here h.0 (held ls)))) in
      on_any.root_node nodes ls o is.path there

  pub viewed_walk : (root : Node) × (get nodes 0 ≡ Some root) × AreWalked nodes layout (reserved_in kind layout) root.entry.address root.entry.len ls
  viewed_walk =
      let f = walk_form_law.gives read layout reserved was.address was.size ls was.walked in
      let form = dir_form layout in
      let size = directory_size form was.size in
      let is_root : IsRoot layout was.address size f.0 = record {
        path = f.1.path;
        entry = f.1.entry ∙ ap (root_entry was.address) (sym (twice form was.size));
        placed = f.1.placed;
      } in
      let follows = follows_again read (reader_of_nodes nodes) layout (f.0 ∷ []) ls f.2 says listed in
      let few : length ls ≤ disc_sectors layout = room_law image kind v opens in
      let walked = walk_form_law.makes (reader_of_nodes nodes) layout reserved was.address size f.0 ls is_root follows f.3 (omega (arith, few)) in
      let node = root_there f.0 f.1 in (
        node.0,
        node.1,
        record {
          walked = subst (λ (e : Entry). walk (reader_of_nodes nodes) layout reserved e.address e.len ≡ Ok ls) (sym (node.2 ∙ f.1.entry)) walked;
          held = hold;
          forms = λ l l_in. (can l l_in).form;
          bodies = λ l l_in. (can l l_in).body;
        },
      )

-- ---- the law

new_viewed : (kind other : Kind) (image : List ℕ) (view : Opened) (m : Map) (nodes : Nodes) (owners : List Owner) (top : Node) (listings : List Listing)
    → AgreeOn other m nodes owners top listings → OpensAs image kind view → ArePartsOf (parts_with m nodes owners) view → (root : Node) × AgreeOn kind m nodes owners root view.listings
new_viewed kind other image view m nodes owners top listings a opens are =
    let layout = Layout.New m in
    let at : view.layout ≡ layout = sym are.layout in
    let seen = subst (OpensAs image kind) (sym (opened_as kind image view layout opens at)) opens in
    let w = viewed_walk kind other image layout view.listings nodes top listings a.walked seen are.nodes in
    let r = new_kind image kind view m opens at in
    let map = open_by image kind r.0 view m r.1 opens at in (
      w.0,
      record {
        is_map = a.is_map;
        root_is = w.1;
        walked = w.2;
        map_placed = least_none _ _ map.tight map.apart;
        owned = subst (λ (x : Layout). AreOwners owners nodes x (objects_of view.listings)) at are.owners;
      },
    )

old_viewed : (kind other : Kind) (image : List ℕ) (view : Opened) (space : OldMapContent) (nodes : Nodes) (owners : List Owner) (top : Node) (listings : List Listing)
    → OldAgreeOn other space nodes owners top listings → OpensAs image kind view → ArePartsOf (old_parts_with space nodes owners) view
    → (root : Node) × OldAgreeOn kind space nodes owners root view.listings
old_viewed kind other image view space nodes owners top listings a opens are =
    let layout = Layout.Old space in
    let at : view.layout ≡ layout = sym are.layout in
    let seen = subst (OpensAs image kind) (sym (opened_as kind image view layout opens at)) opens in
    let w = viewed_walk kind other image layout view.listings nodes top listings a.walked seen are.nodes in (
      w.0,
      record {
        is_map = a.is_map;
        holes = a.holes;
        root_is = w.1;
        walked = w.2;
        owned = subst (λ (x : Layout). AreOwners owners nodes x (objects_of view.listings)) at are.owners;
      },
    )

pub view_law : ViewLaw
view_law = record { new = new_viewed; old = old_viewed }
