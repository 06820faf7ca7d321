-- Directories after an edit.
use Rattle.std.proofs.Common.{◌≡◌, inl, inr, ⊎_elim, ℕ, Bool, true, false, List, [], ◌++◌, map, refl, sym, ap, ap₂, subst, ◌∙◌, Option, None, Some}
use Rattle.std.specs.Prelude.{Contains, IsPermutation, ◌||◌}
use Rattle.std.specs.Option.{IsSomeAnd}
use Rattle.std.proofs.lemmas.List.Elements.{Contains-append_cases, Contains-append_left, Contains-append_right}
use Rattle.fc_names.specs.Names.{Path, is_same_path}
use Rattle.fc_model.specs.Command.{Command}
use Rattle.fc_model.specs.Tree.{holder}
use Rattle.fc_dirs.specs.Directory.{Directory, entries_of}
use Rattle.fc_image.specs.Layout.{Layout}
use Rattle.fc_image.specs.Report.{holder_address}
use Rattle.fc_image.specs.Walk.{Listing, Object, object_bytes}
use Rattle.fc_image.specs.Objects.{listing_at, objects_of}
use Rattle.fc_image.specs.Opening.{Opened}
use Rattle.fc_image.specs.Stays.{OpensAs}
use Rattle.fc_image.specs.Sound.{AreSound}
use Rattle.fc_image.specs.effects.Short.{growth_in}
use Rattle.fc_image.specs.effects.Steady.{AreWritten, DirectoriesSteady, DirectorySteady, HasName, IsRewritten, edited, gets_parent, has_grown, has_new_holder, holds_named, is_gone, is_renamed_by, named_entry, path_after}
use Rattle.fc_image.proofs.LookupLemmas.{lookup_law}
use Rattle.fc_image.proofs.PathsLemmas.{itself}
use Rattle.fc_tree.proofs.MemberLemmas.{from_map, in_map, no_element}
use Rattle.fc_tree.proofs.SoundLemmas.{root_or_child}
use Rattle.fc_tree.proofs.WalkedLemmas.{child_path, listed_directory, root, root_path, same_some}
use Rattle.fc_tree.specs.Nodes.{number_of}
use Rattle.fc_changes.proofs.BasicLemmas.{clash, holder_pushed}
use Rattle.fc_changes.proofs.ReadsLemmas.{other_dir}
use Rattle.fc_changes.proofs.BeforeLemmas.{address_by}
use Rattle.fc_changes.proofs.DirectoriesLemmas.{IsPlain, entries_now, no_new_holder}
use Rattle.fc_laws.specs.nodes.Laws.{IsHeld}
use Rattle.fc_laws.proofs.lemmas.nodes.ListLemmas.{in_other}
use Rattle.fc_edits.specs.Edit.{Amended, Edit, IsEdit, leaving, listings_after, now, numbers, still}
use Rattle.fc_edits.proofs.lemmas.ListLemmas.{in_flat}
use Rattle.fc_edits.proofs.lemmas.NumberLemmas as n_
use Rattle.fc_edits.proofs.lemmas.AgreeLemmas as ag
use Rattle.fc_edits.specs.NodesEdit.{NodesEdit}
use Rattle.fc_edits.specs.PartsEdit.{PartsEdit}
use Rattle.fc_outcomes.specs.Done.{view_before}
use Rattle.fc_outcomes.specs.Written.{IsEditWritten}
use Rattle.fc_outcomes.specs.Steady.{AreAsked, AsksNothing, SteadyLaw}
use Rattle.fc_outcomes.proofs.lemmas.DoneLemmas.{same_bytes}
use Rattle.std.proofs.lemmas.Bool.{false_from_ne_true as unless, or_left}

-- where the listings are afterwards
pub now_in : (e : Edit) (found : List Listing) → IsPermutation (listings_after e) found → (a : Amended) → Contains e.amended a → Contains found (now e a)
now_in e found order a at =
    in_other (listings_after e) found order (now e a)
    (Contains-append_right (map (λ (d : ℕ × Listing). d.1) e.into) (map (now e) e.amended ++ map (still e) e.same) (now e a)
    (Contains-append_left (map (now e) e.amended) (map (still e) e.same) (now e a) (in_map (now e) e.amended a at)))

still_in : (e : Edit) (found : List Listing) → IsPermutation (listings_after e) found → (k : Listing) → Contains e.same k → Contains found (still e k)
still_in e found order k at =
    in_other (listings_after e) found order (still e k)
    (Contains-append_right (map (λ (d : ℕ × Listing). d.1) e.into) (map (now e) e.amended ++ map (still e) e.same) (still e k)
    (Contains-append_right (map (now e) e.amended) (map (still e) e.same) (still e k) (in_map (still e) e.same k at)))

module _ (mem : PartsEdit) (found : List Listing) (image image' : List ℕ) (c : Command) (opens : OpensAs image mem.kind (view_before mem))
    (w : IsEditWritten image image' mem.layout mem.layout' mem.nodes mem.listings mem.edit) (sound : AreSound mem.layout' found) (order : IsPermutation (listings_after mem.edit) found)
    (asked : AreAsked image image' (view_before mem) (record { kind = mem.kind; layout = mem.layout'; listings = found }) c mem.edit) where
  abbrev v : Opened
  v = view_before mem

  abbrev v' : Opened
  v' = record { kind = mem.kind; layout = mem.layout'; listings = found }

  there : (k l : Listing) → Contains found l → is_same_path (path_after c k.object.path) l.object.path ≡ true → DirectorySteady image image' v v' c k l
      → IsSomeAnd (listing_at found (path_after c k.object.path)) (DirectorySteady image image' v v' c k)
  there k l at same steady =
      subst (λ (x : Option Listing). IsSomeAnd x (DirectorySteady image image' v v' c k)) (sym (lookup_law.listing mem.layout' found (path_after c k.object.path) l sound at same)) steady

  pub directories_steady : DirectoriesSteady image image' v v' c
  directories_steady k at stands = ⊎_elim gone left (Contains-append_cases mem.edit.out (map (λ (a : Amended). a.was) mem.edit.amended ++ mem.edit.same) k (in_other mem.listings _ mem.is_edit.found k at))
    where
      gone : Contains mem.edit.out k → IsSomeAnd (listing_at found (path_after c k.object.path)) (DirectorySteady image image' v v' c k)
      gone out = absurd (clash (is_gone c k.object.path) (asked.out k out) stands)

      left : Contains (map (λ (a : Amended). a.was) mem.edit.amended ++ mem.edit.same) k → IsSomeAnd (listing_at found (path_after c k.object.path)) (DirectorySteady image image' v v' c k)
      left stay =
          ⊎_elim
          (λ amended.
          let a = from_map (λ (b : Amended). b.was) mem.edit.amended k amended in
          subst (λ (x : Listing). IsSomeAnd (listing_at found (path_after c x.object.path)) (DirectorySteady image image' v v' c x)) a.2
          (there a.0.was (now mem.edit a.0) (now_in mem.edit found order a.0 a.1) (asked.paths a.0.was (n_.was_in (ag.ne mem) a.0 a.1)) (asked.amended a.0 a.1)))
          (λ same.
          let q = asked.same k same in
          there k (still mem.edit k) (still_in mem.edit found order k same) (asked.paths k stay)
          (record { entries = q.entries; head = inl (record { bytes = same_bytes mem image image' opens w k same; parent = q.parent; name = q.name }) }))
          (Contains-append_cases (map (λ (a : Amended). a.was) mem.edit.amended) mem.edit.same k stay)

-- ---- who holds a directory

module _ (ne : NodesEdit) (layout' : Layout) (found : List Listing)
    (sound : AreSound layout' found) (order : IsPermutation (listings_after ne.edit) found) where
  abbrev layout : Layout
  layout = ne.layout

  abbrev listings : List Listing
  listings = ne.listings

  abbrev e : Edit
  e = ne.edit

  abbrev h : IsHeld ne.nodes layout listings
  h = ne.held

  abbrev is : IsEdit ne.nodes listings e
  is = ne.is_edit

  pub stay_found : (d : Listing) → Contains (n_.stay ne) d → (l : Listing) × Contains found l × (l.object ≡ e.turn d.object)
  stay_found d at =
      ⊎_elim
      (λ amended. let a = from_map (λ (b : Amended). b.was) e.amended d amended in (now e a.0, now_in e found order a.0 a.1, ap (λ (x : Listing). e.turn x.object) a.2))
      (λ same. (still e d, still_in e found order d same, refl)) (Contains-append_cases (map (λ (a : Amended). a.was) e.amended) e.same d at)

  pub out_or_stay : (k d : Listing) → Contains listings d → Contains d.children k.object → Contains (n_.stay ne) d
  out_or_stay k d there kid =
      ⊎_elim (λ goes. absurd (no_element k.object (subst (λ (os : List Object). Contains os k.object) is.out_empty (in_flat (λ (x : Listing). x.children) e.out d k.object goes kid))))
      (λ stays. stays) (Contains-append_cases e.out (n_.stay ne) d (in_other listings (e.out ++ n_.stay ne) is.found d there))

  -- The address of the directory that holds one stays if those of directories do, and if that keeps its directory, wherever this is.
  pub holder_still : ((d : Listing) → Contains listings d → (e.turn d.object).entry.address ≡ d.object.entry.address) → (k : Listing) (n : ℕ) → Contains (n_.stay ne) k
      → number_of ne.nodes k.object.path ≡ Some n → (Contains (numbers (leaving e)) n → ⊥) → holder_address found (e.turn k.object).path ≡ holder_address listings k.object.path
  holder_still addresses k n at number_is stays = ⊎_elim top below (root_or_child layout listings h.sound k.object k_in)
    where
      listed' : Contains listings k
      listed' = n_.stay_in ne k at

      k_in : Contains (objects_of listings) k.object
      k_in = (listed_directory layout listings h.sound k listed').0

      by : (d : Listing) → Contains listings d → Contains (n_.stay ne) d → is_same_path (holder k.object.path) d.object.path ≡ true
          → is_same_path (holder (e.turn k.object).path) (e.turn d.object).path ≡ true → holder_address found (e.turn k.object).path ≡ holder_address listings k.object.path
      by d there in_stay same same' =
          let found_d = stay_found d in_stay in
          address_by layout' found (e.turn k.object).path found_d.0 sound found_d.1 (ap (λ (o : Object). is_same_path (holder (e.turn k.object).path) o.path) found_d.2 ∙ same')
          ∙ ap (λ (o : Object). o.entry.address) found_d.2 ∙ addresses d there ∙ sym (address_by layout listings k.object.path d h.sound there same)

      top : root layout listings h.sound ≡ k.object → holder_address found (e.turn k.object).path ≡ holder_address listings k.object.path
      top is_top =
          let none : k.object.path ≡ [] = ap (λ (o : Object). o.path) (sym is_top) ∙ root_path layout listings h.sound in
          by k listed' at (ap (λ (p : Path). is_same_path (holder p) p) none) (ap (λ (p : Path). is_same_path (holder p) p) (is.top_path k.object k_in none))

      below : (l : Listing) × Contains listings l × Contains l.children k.object → holder_address found (e.turn k.object).path ≡ holder_address listings k.object.path
      below l =
          by l.0 l.1 (out_or_stay k l.0 l.1 l.2)
          (ap (λ (p : Path). is_same_path p l.0.object.path) (ap holder (child_path layout listings h.sound l.0 k.object l.1 l.2) ∙ holder_pushed l.0.object.path k.object.entry.name) ∙ itself l.0.object.path)
          (ap (λ (p : Path). is_same_path p (e.turn l.0.object).path) (ap holder (is.paths l.0 k.object n l.1 l.2 number_is stays) ∙ holder_pushed (e.turn l.0.object).path k.object.entry.name)
          ∙ itself (e.turn l.0.object).path)

  -- The address of the directory that holds one stays, if that stays in its place.
  pub holder_same : ((o : Object) → Contains (objects_of listings) o → ((e.turn o).path ≡ o.path) × ((e.turn o).entry.address ≡ o.entry.address)) → (k : Listing)
      → Contains (n_.stay ne) k → holder_address found k.object.path ≡ holder_address listings k.object.path
  holder_same still' k at = ⊎_elim top below (root_or_child layout listings h.sound k.object (listed_directory layout listings h.sound k listed').0)
    where
      listed' : Contains listings k
      listed' = n_.stay_in ne k at

      by : (d : Listing) → Contains listings d → Contains (n_.stay ne) d → is_same_path (holder k.object.path) d.object.path ≡ true
          → holder_address found k.object.path ≡ holder_address listings k.object.path
      by d there stays same =
          let n = stay_found d stays in
          let keeps = still' d.object (listed_directory layout listings h.sound d there).0 in
          address_by layout' found k.object.path n.0 sound n.1 (ap (λ (o : Object). is_same_path (holder k.object.path) o.path) n.2 ∙ ap (is_same_path (holder k.object.path)) keeps.0 ∙ same)
          ∙ ap (λ (o : Object). o.entry.address) n.2 ∙ keeps.1 ∙ sym (address_by layout listings k.object.path d h.sound there same)

      top : root layout listings h.sound ≡ k.object → holder_address found k.object.path ≡ holder_address listings k.object.path
      top is_top =
          let none : k.object.path ≡ [] = ap (λ (o : Object). o.path) (sym is_top) ∙ root_path layout listings h.sound in
          by k listed' at (ap (λ (p : Path). is_same_path (holder p) p) none)

      below : (l : Listing) × Contains listings l × Contains l.children k.object → holder_address found k.object.path ≡ holder_address listings k.object.path
      below l =
          let path = child_path layout listings h.sound l.0 k.object l.1 l.2 in
          by l.0 l.1 (out_or_stay k l.0 l.1 l.2) (ap (λ (p : Path). is_same_path p l.0.object.path) (ap holder path ∙ holder_pushed l.0.object.path k.object.entry.name) ∙ itself l.0.object.path)

-- ---- which directory a path names

-- A path that lies in one directory that says something else lies in none that says what it said.
pub unnamed : (ne : NodesEdit) (path : Path) (l k : Listing) (dir : ℕ) → Contains ne.listings l → number_of ne.nodes l.object.path ≡ Some dir
    → Contains (map (λ (a : Amended). a.number) ne.edit.amended) dir → is_same_path (holder path) l.object.path ≡ true → Contains ne.edit.same k → is_same_path (holder path) k.object.path ≡ false
unnamed ne path l k dir listed dir_is amended holds at =
    let k_in = n_.stay_in ne k (n_.same_in ne k at) in
    other_dir (holder path) l.object.path k.object.path holds
    (unless (is_same_path l.object.path k.object.path)
    (λ same.
    let one : l ≡ k = same_some l k
    (sym (lookup_law.listing ne.layout ne.listings l.object.path l ne.held.sound listed (itself l.object.path)) ∙ lookup_law.listing ne.layout ne.listings l.object.path k ne.held.sound k_in same) in
    n_.same_other ne k dir at (ap (λ (x : Listing). number_of ne.nodes x.object.path) (sym one) ∙ dir_is) amended))

-- ---- a command that moves and renames nothing

pub plain_asks : (v w : Opened) (c : Command) (e : Edit) (k : Listing) → IsPlain c → growth_in v c ≡ None → holds_named c k.object.path ≡ false → AsksNothing v w c e k
plain_asks v w c e k plain none other = record {
  entries = sym (plain.elsewhere k.object.path (named_entry w c) (entries_of k.content) other) ∙ sym (entries_now v w c none k);
  parent = λ gets. absurd (clash (gets_parent v c k.object.path) gets (ap₂ (λ (a b : Bool). a || b) (plain.renamed k.object.path) (no_new_holder v w c none k.object.path)));
  name = by k.content;
}
  where
    by : (content : Directory) → HasName c k.object.path content
    by (Directory.Small dir) = plain.small k.object.path dir.name
    by (Directory.Big dir) = plain.big k.object.path dir

-- the directory that such a command names, rewritten
pub written_asks : (image image' : List ℕ) (v w : Opened) (c : Command) (l new : Listing) → IsPlain c → growth_in v c ≡ None → holds_named c l.object.path ≡ true
    → entries_of new.content ≡ edited c l.object.path (named_entry w c) (entries_of l.content)
    → IsRewritten c l.object.path (holder_address w.listings new.object.path) l.content new.content → AreWritten (object_bytes image' w.layout new.object) new.content
    → DirectorySteady image image' v w c l new
written_asks image image' v w c l new plain none named entries says bytes = record {
  entries = entries ∙ sym (entries_now v w c none l);
  head = inr (record {
    may = or_left (holds_named c l.object.path || is_renamed_by c l.object.path || has_grown v c l.object.path) (has_new_holder v c l.object.path)
        (or_left (holds_named c l.object.path || is_renamed_by c l.object.path) (has_grown v c l.object.path) (or_left (holds_named c l.object.path) (is_renamed_by c l.object.path) named));
    says = says;
    bytes = bytes;
  });
}

pub steady_law : SteadyLaw
steady_law = record {
  directories = λ x found image image' c opens w sound order asked. directories_steady x found image image' c opens w sound order asked;
  holder = λ layout' found e dir k sound order at kid.
      (let there = in_other (listings_after e) found order dir at in
      let path = child_path layout' found sound dir k.object there kid in
      address_by layout' found k.object.path dir sound there
      (ap (λ (p : Path). is_same_path p dir.object.path) (ap holder path ∙ holder_pushed dir.object.path k.object.entry.name) ∙ itself dir.object.path));
}
