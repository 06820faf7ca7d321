-- The node that a path names, with the directory that holds it and its place there.
use Rattle.std.proofs.Common.{◌≡◌, ℕ, Bool, true, false, ◌&&◌, List, [], ◌∷◌, ◌++◌, refl, sym, ap, ap₂, subst, ◌∙◌, Option, Some, None, nat_cmp}
use Rattle.std.specs.Prelude.{Contains, slice_get, option_map, Result, Ok, IfOk}
use Rattle.std.specs.Option.{ok_or, option_and_then, option_map_or}
use Rattle.std.specs.FinMap.{FinMap, get}
use Rattle.std.proofs.lemmas.Option.{slice_get-map}
use Rattle.fc_names.specs.declared.refusal.Refusal.{Refusal}
use Rattle.fc_names.specs.Names.{Path, is_same_name, is_same_path}
use Rattle.fc_model.specs.Answer.{is_root}
use Rattle.fc_model.specs.Tree.{holder}
use Rattle.fc_dirs.specs.declared.Entry.{Entry}
use Rattle.fc_dirs.specs.Directory.{Directory, entries_of}
use Rattle.fc_image.specs.Layout.{Layout}
use Rattle.fc_image.specs.Walk.{Object, Listing}
use Rattle.fc_image.specs.Objects.{listing_at}
use Rattle.fc_image.specs.Sound.{AreSound}
use Rattle.fc_image.proofs.PathsLemmas.{cut, itself, same_last}
use Rattle.fc_tree.specs.declared.node.Node.{Node}
use Rattle.fc_tree.specs.Nodes.{body_in, body_of, found_in, number_of, HoldObjects}
use Rattle.fc_tree.proofs.MemberLemmas.{in_map}
use Rattle.fc_tree.proofs.NumberLemmas.{own_name}
use Rattle.fc_tree.proofs.SoundLemmas.{children_stored, same_object}
use Rattle.fc_tree.proofs.WalkedLemmas.{child_is_object, child_path, contained, holder-push, listed_directory, listing_found, same_some}
use Rattle.fc_refusals.specs.declared.target.Target.{Target}
use Rattle.fc_refusals.specs.Places.{entries_at, entries_in, number_found, place_of, target_in, target_of}
use Rattle.fc_refusals.specs.Targets.{IsTarget, refusal_of}
use Rattle.fc_refusals.proofs.SearchLemmas.{none_passes, passes_there}
use Rattle.fc_refusals.proofs.FoundLemmas.{LeadsTo, held_object, leads_to}
use Rattle.std.proofs.lemmas.Bool.{and_parts as both}

pub entries_body : (dir : Directory) → entries_in (body_in dir) ≡ entries_of dir
entries_body (Directory.Small dir) = refl
entries_body (Directory.Big dir) = refl

-- what stands before the last names of two spellings of a path are spellings of one path
pub same_holder : (path above : Path) (name : List ℕ) → is_same_path path (above ++ name ∷ []) ≡ true → false ≡ is_root path → is_same_path (holder path) above ≡ true
same_holder [] above name same other = absurd (cc)
same_holder (x ∷ path) above name same other =
    let c = cut x path in
    let front : holder (x ∷ path) ≡ c.front = ap holder c.is ∙ holder-push c.front c.last in
    ap (λ (p : Path). is_same_path p above) front
    ∙ (both (is_same_path c.front above) (is_same_name c.last name)
    (sym (same_last c.front above c.last name) ∙ ap (λ (p : Path). is_same_path p (above ++ name ∷ [])) (sym c.is) ∙ same)).0

module _ (layout : Layout) (listings : List Listing) (nodes : FinMap nat_cmp Node) (sound : AreSound layout listings) (held : HoldObjects nodes listings) where
  -- the node of a directory has its entries
  pub listed_entries : (l : Listing) (n : ℕ) → Contains listings l → number_of nodes l.object.path ≡ Some n → entries_at nodes n ≡ entries_of l.content
  listed_entries l n at e =
      let h = held.each l.object (listed_directory layout listings sound l at).0 in
      ap (entries_at nodes) (same_some n h.number (sym e ∙ h.at_path))
      ∙ ap (λ (m : Option Node). option_map_or (λ (x : Node). entries_in x.body) m []) h.is
      ∙ ap (λ (m : Option Listing). entries_in (body_of m)) (listing_found layout listings sound l at)
      ∙ entries_body l.content

  -- the child of a name is found by its entry
  child_at : (l : Listing) (o : Object) (i : ℕ) → Contains listings l → Contains l.children o → place_of (entries_of l.content) o.entry.name ≡ Some i → slice_get l.children i ≡ Some o
  child_at l o i at child e =
      let f = passes_there (λ (d : Entry). is_same_name o.entry.name d.name) (entries_of l.content) i e in
      let got : option_map (λ (p : Object). p.entry) (slice_get l.children i) ≡ Some f.0 =
      sym (slice_get-map (λ (p : Object). p.entry) l.children i) ∙ ap (λ (es : List Entry). slice_get es i) (children_stored layout listings sound l at) ∙ f.1 in
      by (slice_get l.children i) refl f.0 got f.2
    where
      by : (m : Option Object) → slice_get l.children i ≡ m → (d : Entry) → option_map (λ (p : Object). p.entry) m ≡ Some d → is_same_name o.entry.name d.name ≡ true → m ≡ Some o
      by None is d got same = absurd (cc)
      by (Some p) is d got same =
          let held_p = contained l.children i p is in
          let entry : p.entry ≡ d = same_some p.entry d got in
          let name : is_same_name o.entry.name p.entry.name ≡ true = ap (λ (x : Entry). is_same_name o.entry.name x.name) entry ∙ same in
          let path_p = child_path layout listings sound l p at held_p in
          let path_o = child_path layout listings sound l o at child in
          let joined = same_last l.object.path l.object.path o.entry.name p.entry.name in
          let one : is_same_path o.path p.path ≡ true = ap₂ is_same_path path_o path_p ∙ joined ∙ ap₂ (λ (a b : Bool). a && b) (itself l.object.path) name in
          ap (λ (x : Object). let r : Option Object = Some x in r)
          (sym (same_object layout listings sound o.path o p (child_is_object layout listings sound l o at child) (child_is_object layout listings sound l p at held_p) (itself o.path) one))

  -- and it is found
  child_placed : (l : Listing) (o : Object) → Contains listings l → Contains l.children o → place_of (entries_of l.content) o.entry.name ≡ None → ⊥
  child_placed l o at child e =
      let among = subst (λ (es : List Entry). Contains es o.entry) (children_stored layout listings sound l at) (in_map (λ (p : Object). p.entry) l.children o child) in
      let fails = none_passes (λ (d : Entry). is_same_name o.entry.name d.name) (entries_of l.content) o.entry e among in
      let passes = own_name o.entry.name in
      cc

  module _ (path : Path) (n : ℕ) (there : LeadsTo listings nodes path n) (other : false ≡ is_root path) where
    abbrev o : Object
    o = there.object

    above : (l : Listing) × Contains listings l × Contains l.children o
    above = held_object layout listings o path sound there.among there.same other

    abbrev l : Listing
    l = above.0

    path_o : o.path ≡ l.object.path ++ o.entry.name ∷ []
    path_o = child_path layout listings sound l o above.1 above.2

    abbrev dir : ℕ
    dir = (held.each o there.among).holder_number

    dir_is : number_of nodes l.object.path ≡ Some dir
    dir_is = ap (number_of nodes) (sym (ap holder path_o ∙ holder-push l.object.path o.entry.name)) ∙ (held.each o there.among).at_holder

    abbrev made : Option ℕ → Option Target
    made m = option_map (λ at. record { holder = dir; at = at; node = n }) m

    target_is : target_in nodes n ≡ made (place_of (entries_of l.content) o.entry.name)
    target_is =
        let h = held.each o there.among in
        let is : get nodes n ≡ Some (record { holder = dir; entry = o.entry; body = body_of (listing_at listings o.path) }) = ap (get nodes) (same_some n h.number (sym there.number ∙ h.at_path)) ∙ h.is in
        ap (option_and_then (target_of nodes n)) is
        ∙ ap (λ (es : List Entry). made (place_of es o.entry.name)) (listed_entries l dir above.1 dir_is)

    -- the target of the node to which a path leads
    pub target_found : (t : Target) → Some t ≡ target_in nodes n → IsTarget nodes listings path t
    target_found t e = by (place_of (entries_of l.content) o.entry.name) refl (e ∙ target_is)
      where
        by : (m : Option ℕ) → place_of (entries_of l.content) o.entry.name ≡ m → Some t ≡ made m → IsTarget nodes listings path t
        by None h f = absurd (cc)
        by (Some i) h f =
            subst (IsTarget nodes listings path) (sym (same_some t _ f)) (record {
              listing = l;
              object = o;
              listed = above.1;
              at = child_at l o i above.1 above.2 h;
              path_is = there.same;
              above = same_holder path l.object.path o.entry.name (ap (is_same_path path) (sym path_o) ∙ there.same) other;
              holder_is = dir_is;
              node_is = there.number;
            })

    -- there is one
    pub target_there : target_in nodes n ≡ None → ⊥
    target_there e = by (place_of (entries_of l.content) o.entry.name) refl (sym e ∙ target_is)
      where
        by : (m : Option ℕ) → place_of (entries_of l.content) o.entry.name ≡ m → None ≡ made m → ⊥
        by None h f = child_placed l o above.1 above.2 h
        by (Some i) h f = cc

-- ---- of any walk whose objects the nodes hold

-- The path leads to the node.
abbrev pub Leads : FinMap nat_cmp Node → Path → ℕ → Type 0
Leads nodes path n = (layout : Layout) (listings : List Listing) → AreSound layout listings → HoldObjects nodes listings → LeadsTo listings nodes path n

-- It is the target.
abbrev pub IsTargetOf : FinMap nat_cmp Node → Path → Target → Type 0
IsTargetOf nodes path t = (layout : Layout) (listings : List Listing) → AreSound layout listings → HoldObjects nodes listings → IsTarget nodes listings path t

pub leads_on : (nodes : FinMap nat_cmp Node) (path : Path) (n : ℕ) → Ok n ≡ number_found (found_in nodes path) → Leads nodes path n
leads_on nodes path n e layout listings sound held = leads_to layout listings nodes path n sound held e

-- The target of a node to which a path leads is the object at the path.
pub target_given : (nodes : FinMap nat_cmp Node) (path : Path) (n : ℕ) (refusal : Refusal) (t : Option Target) (r : Result Target Refusal)
    → Leads nodes path n → false ≡ is_root path → t ≡ target_in nodes n → r ≡ ok_or t refusal → IfOk r (IsTargetOf nodes path)
target_given nodes path n refusal None r leads other is e = subst (λ (x : Result Target Refusal). IfOk x (IsTargetOf nodes path)) (sym e) tt
target_given nodes path n refusal (Some t) r leads other is e =
    subst (λ (x : Result Target Refusal). IfOk x (IsTargetOf nodes path)) (sym e)
    (λ layout listings sound held. target_found layout listings nodes sound held path n (leads layout listings sound held) other t is)

-- There is one, so that nothing is refused.
pub target_accepted : (layout : Layout) (listings : List Listing) (nodes : FinMap nat_cmp Node) (path : Path) (n : ℕ) (refusal : Refusal) (t : Option Target) (r : Result Target Refusal)
    → AreSound layout listings → HoldObjects nodes listings → LeadsTo listings nodes path n → false ≡ is_root path → t ≡ target_in nodes n → r ≡ ok_or t refusal
    → refusal_of r ≡ None
target_accepted layout listings nodes path n refusal None r sound held there other is e = absurd (target_there layout listings nodes sound held path n there other (sym is))
target_accepted layout listings nodes path n refusal (Some t) r sound held there other is e = ap refusal_of e
