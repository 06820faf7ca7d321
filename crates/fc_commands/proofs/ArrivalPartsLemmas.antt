-- The nodes and the owners after something has come.
use Rattle.std.proofs.Common.{◌≡◌, ◌++◌, ◌-◌, ◌*◌, ◌||◌, ◌==◌, ⊎_elim, ℕ, Bool, true, false, cond, List, [], ◌∷◌, filter, length, map, not, refl, sym, ap, ap₂, subst, ◌∙◌, Option, Some, None, nat_cmp}
use Rattle.std.specs.Prelude.{Contains, IsSome, is_some, nat_lt}
use Rattle.std.specs.Cmp.{nat_cmp_total}
use Rattle.std.specs.FinMap.{get, insert as put, nat_cmp-IsAntisymmetric, same_map}
use Rattle.std.specs.Int.{div_ceil}
use Rattle.std.specs.List.{list_any}
use Rattle.std.specs.Option.{option_map, unwrap_or}
use Rattle.std.proofs.lemmas.Bool.{cases_eq, ne_eqb}
use Rattle.std.proofs.lemmas.List.Sorted.{IsPermutation-append_comm, IsPermutation-refl, list_any-IsPermutation}
use Rattle.fc_alloc.specs.declared.owner.Owner.{Owner}
use Rattle.fc_alloc.specs.Owners.{has_node, is_node}
use Rattle.fc_dirs.specs.declared.Entry.{Entry}
use Rattle.fc_dirs.specs.Directory.{Directory}
use Rattle.fc_drafts.specs.declared.draft.Draft.{Draft}
use Rattle.fc_drafts.specs.Draft.{directory_in}
use Rattle.fc_names.specs.declared.name.NameForm.{NameForm}
use Rattle.fc_image.specs.Layout.{Layout, dir_form, id_of, low_of, sector_bytes, sectors_at}
use Rattle.fc_image.specs.Objects.{has_sectors, listing_at, objects_of}
use Rattle.fc_image.specs.Walk.{Listing, Object, is_directory_object, object_size}
use Rattle.fc_image.specs.effects.Steady.{new_directory}
use Rattle.fc_image.proofs.EntriesLemmas.{from_filter}
use Rattle.fc_changes.proofs.BasicLemmas.{first_in as in_head, next_in}
use Rattle.fc_tree.specs.declared.node.Body.{Body}
use Rattle.fc_tree.specs.declared.node.Body.TheVariants as bodies
use Rattle.fc_tree.specs.declared.node.Node.{Node}
use Rattle.fc_tree.specs.Counts.{address_in}
use Rattle.fc_tree.specs.Nodes.{HoldObjects, body_in, body_of}
use Rattle.fc_tree.specs.Parts.{AreOwners, first_in, owner_of}
use Rattle.fc_laws.specs.nodes.Edits.{Nodes, OwnersEdited, owner_with, owners_with, with_body}
use Rattle.fc_laws.proofs.lemmas.nodes.ShapeLemmas.{edited_here, edited_other, put_here, put_other}
use Rattle.fc_edits.specs.NewNodes.{arriving, entered, tell}
use Rattle.fc_change.specs.declared.change.Change.{Change}
use Rattle.fc_change.specs.declared.change.Regrowth.{Regrowth}
use Rattle.fc_change.specs.declared.change.Says.{Says}
use Rattle.fc_change.specs.declared.change.Turned.{Turned}
use Rattle.fc_change.specs.declared.change.Turned.TheVariants as turns
use Rattle.fc_change.specs.After.{AreOwnersAfter, IsRegrownOwner, IsTurnedOwner, body_said, gone_in, nodes_after, owners_admitted, with_regrown, with_said, with_turned, without_gone}
use Rattle.fc_change.specs.Owned.{entry_owner, owner_if, owners_with_room}
use Rattle.fc_commands.proofs.ArrivalLemmas.{Arrival, entry_of}
use Rattle.fc_commands.proofs.ArrivalEditLemmas.{object_of, own_listings}
use Rattle.fc_commands.proofs.ArrivalStageLemmas.{OwnsDraft}
use Rattle.fc_commands.proofs.StayingLemmas.{count}

-- ---- nodes

-- A node that comes, and its directory's: whether what it says is told it at once or at last is the same.
module _ (nodes : Nodes) (dir number : ℕ) (apart : number ≡ dir → ⊥) (a : Node) (said own : Body) where
  abbrev at_once : Nodes
  at_once = with_body dir said (put nodes number (record a { body = own }))

  abbrev at_last : Nodes
  at_last = with_body number own (with_body dir said (put nodes number a))

  abbrev told : Body → Node → Node
  told b n = record n { body = b }

  pub same_lookups : (q : ℕ) → get at_once q ≡ get at_last q
  same_lookups q = ⊎_elim (λ same. subst (λ (k : ℕ). get at_once k ≡ get at_last k) (sym same) itself) other (cases_eq q number)
    where
      itself : get at_once number ≡ get at_last number
      itself =
          edited_other (put nodes number (told own a)) dir (told said) number apart ∙ put_here nodes number (told own a)
          ∙ sym (edited_here (with_body dir said (put nodes number a)) number (told own)
          ∙ ap (option_map (told own)) (edited_other (put nodes number a) dir (told said) number apart ∙ put_here nodes number a))

      other : (q ≡ number → ⊥) → get at_once q ≡ get at_last q
      other off =
          ⊎_elim
          (λ (same : q ≡ dir).
          subst (λ (k : ℕ). get at_once k ≡ get (with_body dir said (put nodes number a)) k) (sym same)
          (edited_here (put nodes number (told own a)) dir (told said) ∙ ap (option_map (told said)) (put_other nodes number dir (told own a) (λ e. apart (sym e)) ∙ sym (put_other nodes number dir a (λ e. apart (sym e))))
          ∙ sym (edited_here (put nodes number a) dir (told said))))
          (λ away.
          edited_other (put nodes number (told own a)) dir (told said) q away ∙ put_other nodes number q (told own a) off
          ∙ sym (edited_other (put nodes number a) dir (told said) q away ∙ put_other nodes number q a off)) (cases_eq q dir)
          ∙ sym (edited_other (with_body dir said (put nodes number a)) number (told own) q off)

-- what is taken over of a change of one directory in which an object comes
pub taken_over : (c : Change) (number dir : ℕ) (e : Entry) (own : Option Draft) (said : Says) (nodes : Nodes) → c.grown ≡ None → c.object ≡ turns.Comes dir e own → c.says.items ≡ said ∷ [] → said.node ≡ dir
    → nodes_after c number nodes ≡ with_body dir (body_in (directory_in said.draft)) (put nodes number (record { holder = dir; entry = e; body = body_said own }))
taken_over c number dir e own said nodes none comes says at =
    (λ i. without_gone (gone_in (comes i)) (with_said (says i) (with_turned (comes i) number (with_regrown (none i) nodes))))
    ∙ ap (λ (n : ℕ). with_body n (body_in (directory_in said.draft)) (put nodes number (record { holder = dir; entry = e; body = body_said own }))) at

-- They are the nodes after the edit.
pub arrived : (layout : Layout) (nodes : Nodes) (c : Change) (number dir : ℕ) (x : Arrival) (name : List ℕ) (address : ℕ) (own : Option Draft) (said : Says) → c.grown ≡ None
    → c.object ≡ turns.Comes dir (entry_of (dir_form layout) x name address) own → c.says.items ≡ said ∷ [] → said.node ≡ dir → OwnsDraft layout nodes dir x name own → get nodes number ≡ None → IsSome (get nodes dir)
    → (l : Listing) → address_in nodes dir ≡ l.object.entry.address → (sectors : List ℕ)
    → nodes_after c number nodes
    ≡ tell (map arriving (map (λ (d : Listing). (number, d)) (own_listings layout l x name address sectors)))
    (with_body dir (body_in (directory_in said.draft)) (put nodes number (entered dir (object_of layout l x name address sectors) (get nodes number))))
arrived layout nodes c number dir Arrival.Makes name address own said none comes told at owns free there l address_at sectors =
    let e = entry_of (dir_form layout) Arrival.Makes name address in
    let a : Node = record { holder = dir; entry = e; body = bodies.File } in
    let b = body_in (directory_in said.draft) in
    let empty = body_in (new_directory (dir_form layout) l.object.entry.address name) in
    let apart : number ≡ dir → ⊥ = λ same. (let clash : true ≡ false = sym there ∙ ap is_some (ap (get nodes) (sym same) ∙ free) in cc) in
    taken_over c number dir e own said nodes none comes told at
    ∙ ap (λ (o : Option Draft). with_body dir b (put nodes number (record a { body = body_said o }))) owns.1
    ∙ ap (λ (d : Directory). with_body dir b (put nodes number (record a { body = body_in d }))) (owns.2 ∙ ap (λ (k : ℕ). new_directory (dir_form layout) k name) address_at)
    ∙ same_map nat_cmp_total nat_cmp-IsAntisymmetric (with_body dir b (put nodes number (record a { body = empty }))) (with_body number empty (with_body dir b (put nodes number a))) (same_lookups nodes dir number apart a b empty)
    ∙ ap (λ (n : Option Node). with_body number empty (with_body dir b (put nodes number (entered dir (object_of layout l Arrival.Makes name address sectors) n)))) (sym free)
arrived layout nodes c number dir (Arrival.Saves words) name address own said none comes told at owns free there l address_at sectors =
    let e = entry_of (dir_form layout) (Arrival.Saves words) name address in
    let a : Node = record { holder = dir; entry = e; body = bodies.File } in
    let b = body_in (directory_in said.draft) in
    taken_over c number dir e own said nodes none comes told at
    ∙ ap (λ (o : Option Draft). with_body dir b (put nodes number (record a { body = body_said o }))) owns
    ∙ ap (λ (n : Option Node). with_body dir b (put nodes number (entered dir (object_of layout l (Arrival.Saves words) name address sectors) n))) (sym free)

-- ---- owners

-- The maps lead from addresses alike.
pub record IsAlike (layout layout' : Layout) : Type 0 where
  pub sector : sector_bytes layout' ≡ sector_bytes layout
  pub form : dir_form layout' ≡ dir_form layout
  pub first : (low : ℕ) → first_in layout' low ≡ first_in layout low

-- no owner has a number that no node has
pub unowned : (nodes : Nodes) (layout : Layout) (listings : List Listing) (owners : List Owner) (n : ℕ) → HoldObjects nodes listings → AreOwners owners nodes layout (objects_of listings) → get nodes n ≡ None
    → has_node owners n ≡ false
unowned nodes layout listings owners n held owned free =
    list_any-IsPermutation (is_node n) owners (map (owner_of nodes layout) (filter has_sectors (objects_of listings))) owned
    ∙ none (filter has_sectors (objects_of listings)) (λ o at. other o (from_filter has_sectors (objects_of listings) o at))
  where
    other : (o : Object) → Contains (objects_of listings) o → is_node n (owner_of nodes layout o) ≡ false
    other o at =
        let has = held.each o at in
        ap (λ (x : Option ℕ). unwrap_or x 0 == n) has.at_path
        ∙ ne_eqb has.number n (λ e. (let clash : (let x : Option Node = Some (record { holder = has.holder_number; entry = o.entry; body = body_of (listing_at listings o.path) }) in x) ≡ None = sym has.is ∙ ap (get nodes) e ∙ free in cc))

    none : (os : List Object) → ((o : Object) → Contains os o → is_node n (owner_of nodes layout o) ≡ false) → list_any (is_node n) (map (owner_of nodes layout) os) ≡ false
    none [] each = refl
    none (o ∷ os) each = ap₂ (λ (a b : Bool). a || b) (each o (in_head o os)) (none os (λ p at. each p (next_in o p os at)))

-- the owner for which there is memory is the one that the object is
module _ (layout layout' : Layout) (alike : IsAlike layout layout') (number dir : ℕ) (o : Object) (at : sectors_at layout' o.entry.address (object_size (dir_form layout') o.entry) ≡ Some o.sectors) where
  pub sectors_are : (entry_owner layout number dir o.entry).sectors ≡ length o.sectors
  sectors_are = ap₂ (λ (f : NameForm) (n : ℕ). div_ceil (object_size f o.entry) n) (sym alike.form) (sym alike.sector) ∙ sym (count layout' o.entry.address (object_size (dir_form layout') o.entry) o.sectors at)

  pub owner_is : entry_owner layout number dir o.entry ≡ owner_with layout' dir number o
  owner_is = λ i. record {
    id = id_of o.entry.address;
    dir = dir;
    node = number;
    file = not (is_directory_object o);
    low = low_of o.entry.address;
    first = sym (alike.first (low_of o.entry.address)) i;
    sectors = sectors_are i;
  }

  pub owner_if_is : owner_if layout number dir o.entry ≡ cond (has_sectors o) (Some (owner_with layout' dir number o)) None
  owner_if_is = ap₂ (λ (k : ℕ) (w : Owner). cond (nat_lt 0 k) (Some w) None) sectors_are owner_is

-- with memory for it, and it alone
pub room_made : (own : Owner) (some : Bool) (owners : List Owner) → has_node owners own.node ≡ false → OwnersEdited owners (owners_with_room (cond some (Some own) None) owners) [] (cond some (own ∷ []) [])
room_made own true owners none =
    subst (λ (b : Bool). OwnersEdited owners (cond b owners (owners ++ own ∷ [])) [] (own ∷ [])) (sym none)
    (record { rest = owners; before = IsPermutation-refl owners; after = IsPermutation-append_comm owners (own ∷ []) })
room_made own false owners none = record { rest = owners; before = IsPermutation-refl owners; after = IsPermutation-refl owners }

-- the owners that are taken over
pub owners_after : (layout layout' : Layout) (nodes : Nodes) (c : Change) (number dir : ℕ) (e : Entry) (own : Option Draft) (owners owners' : List Owner) → c.grown ≡ None → c.object ≡ turns.Comes dir e own
    → AreOwnersAfter layout' nodes c (owners_admitted layout c.object number owners) owners' → owners' ≡ owners_with_room (owner_if layout number dir e) owners
owners_after layout layout' nodes c number dir e own owners owners' none comes after =
    let middle : after.middle ≡ owners_admitted layout c.object number owners =
    subst (λ (g : Option Regrowth). IsRegrownOwner layout' nodes g (owners_admitted layout c.object number owners) after.middle) none after.grown in
    subst (λ (t : Turned). IsTurnedOwner layout' t after.middle owners') comes after.object ∙ middle ∙ ap (λ (t : Turned). owners_admitted layout t number owners) comes
