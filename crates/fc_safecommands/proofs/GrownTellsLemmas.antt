-- An entry comes to a directory that grows: that one and those around it are told something, each once.
use Rattle.std.proofs.Common.{◌≡◌, ◌<◌, ◌==◌, ◌&&◌, ◌||◌, ⊎_elim, inl, inr, ◌⊎◌, ℕ, zero, suc, Bool, true, false, cond, not, List, [], ◌∷◌, ◌++◌, length, get_or, map, refl, sym, ap, ap₂, subst, ◌∙◌, arith, eq-eqb, Option, Some}
use Rattle.std.specs.Prelude.{Contains, filter}
use Rattle.std.proofs.lemmas.List.{length_push}
use Rattle.fc_names.specs.Names.{Path, is_same_name, is_same_path}
use Rattle.fc_dirs.specs.declared.Entry.{Entry}
use Rattle.fc_dirs.specs.Directory.{entries_of}
use Rattle.fc_dirs.proofs.TwinLemmas.{Apart, apart_from, same_name_sym}
use Rattle.fc_dirs.proofs.SearchLemmas.{blank}
use Rattle.fc_image.specs.Layout.{Layout}
use Rattle.fc_image.specs.Walk.{Listing, Object, is_directory_object}
use Rattle.fc_image.proofs.PathsLemmas.{same_last}
use Rattle.fc_image.proofs.EntriesLemmas.{later as contains_later}
use Rattle.fc_changes.proofs.BasicLemmas.{clash}
use Rattle.fc_laws.specs.nodes.Edits.{Nodes}
use Rattle.fc_plan.specs.Giving.{is_one_of}
use Rattle.fc_placing.proofs.CopyingLemmas.{dirs_same}
use Rattle.fc_tree.specs.Nodes.{number_of}
use Rattle.fc_tree.proofs.MemberLemmas.{contains_here, from_map, in_map, no_element}
use Rattle.fc_tree.proofs.SoundLemmas.{children_stored}
use Rattle.fc_tree.proofs.WalkedLemmas.{child_path, same_some}
use Rattle.fc_edits.specs.NewNodes.{AreDistinct}
use Rattle.fc_change.specs.declared.change.Change.{Change}
use Rattle.fc_change.specs.declared.change.Regrowth.{Regrowth}
use Rattle.fc_change.specs.declared.change.Says.{Says}
use Rattle.fc_change.specs.declared.spaces.Spaces.{Spaces}
use Rattle.fc_change.specs.Directories.{Rewriting, TellAll, around, is_told}
use Rattle.fc_change.specs.Drafts.{IsChangeOf}
use Rattle.fc_commands.proofs.GrownAroundLemmas.{IsCutAround, cut_around, in_filtered}
use Rattle.fc_commands.proofs.GrownPreparedLemmas.{others_apart}
use Rattle.fc_commands.proofs.GrownToldLemmas as of
use Rattle.fc_commands.proofs.GrownToldLemmas.{num, num_is, other_long}
use Rattle.fc_model.specs.Tree.{last_name}
use Rattle.std.specs.List.{list_any}
use Rattle.std.proofs.lemmas.List.{append-nil}
use Rattle.std.proofs.lemmas.List.Elements.{Contains-append_cases, Contains-append_left, Contains-append_right}
use Rattle.std.proofs.lemmas.List.Sorted.{Contains-permutation, IsPermutation-sym}
use Rattle.fc_safe.specs.FirstSpace.{ArePlacedFirst}
use Rattle.fc_safecommands.proofs.GrownArrivalLemmas.{GrownArrival, growing, h, job, sound}
use Rattle.fc_safecommands.proofs.GrownArrivalStageLemmas.{at_node, ch, number_then, p, said_changed}
use Rattle.fc_safecommands.proofs.GrownStirLemmas.{GrowingJob, changed, changed_object}
use Rattle.fc_safecommands.proofs.GrownWrittenLemmas.{AreTold, Differ, TellsThese, told_of}
use Rattle.std.proofs.lemmas.Bool.{and_right as and_false}

-- ---- names that differ

abbrev Unlike : List Object → Type 0
Unlike [] = Unit {0}
Unlike (o ∷ os) = ((q : Object) → Contains os q → is_same_name o.entry.name q.entry.name ≡ false) × Unlike os

entry_at : (os : List Object) (q : Object) → Contains os q → (j : ℕ) × (j < length (map (λ (o : Object). o.entry) os)) × (get_or (map (λ (o : Object). o.entry) os) j blank ≡ q.entry)
entry_at [] q (k, low, f) = absurd (omega (arith, low))
entry_at (o ∷ os) q (zero, low, f) = (0, omega arith, ap (λ (r : Object). r.entry) f)
entry_at (o ∷ os) q (suc k, low, f) = let r = entry_at os q (k, omega (arith, low), f) in (suc r.0, (let less = r.1 in omega (arith, less)), r.2)

unlike_of : (os : List Object) → Apart (map (λ (o : Object). o.entry) os) → Unlike os
unlike_of [] apart = tt
unlike_of (o ∷ os) apart = (
  λ q at.
      (let r = entry_at os q at in
      same_name_sym o.entry.name q.entry.name ∙ sym (ap (λ (e : Entry). is_same_name e.name o.entry.name) r.2) ∙ apart 0 (suc r.0) (omega arith) (let less = r.1 in omega (arith, less))),
  unlike_of os (λ i j less within. apart (suc i) (suc j) (omega (arith, less)) (omega (arith, within))),
)

unlike_filter : (t : Object → Bool) (os : List Object) → Unlike os → Unlike (filter t os)
unlike_filter t [] u = tt
unlike_filter t (o ∷ os) u = by (t o) (unlike_filter t os u.1)
  where
    by : (b : Bool) → Unlike (filter t os) → Unlike (cond b (o ∷ filter t os) (filter t os))
    by true rest = ((λ q at. u.0 q (in_filtered t os q at)), rest)
    by false rest = rest

-- ---- paths that differ

abbrev Other : List Listing → Type 0
Other [] = Unit {0}
Other (k ∷ ks) = ((j : Listing) → Contains ks j → is_same_path k.object.path j.object.path ≡ false) × Other ks

other_filter : (t : Listing → Bool) (ks : List Listing) → Other ks → Other (filter t ks)
other_filter t [] u = tt
other_filter t (k ∷ ks) u = by (t k) (other_filter t ks u.1)
  where
    by : (b : Bool) → Other (filter t ks) → Other (cond b (k ∷ filter t ks) (filter t ks))
    by true rest = ((λ j at. u.0 j (in_filtered t ks j at)), rest)
    by false rest = rest

-- ---- distinct nodes, and so distinct directories

nodes_told : (g : Option Regrowth) (nodes : Nodes) (qs : List (ℕ × Rewriting)) (ss : List Says) → TellAll g nodes qs ss → map (λ (s : Says). s.node) ss ≡ map (λ (q : ℕ × Rewriting). q.0) qs
nodes_told g nodes [] [] tell = refl
nodes_told g nodes [] (s ∷ ss) tell = absurd tell
nodes_told g nodes (q ∷ qs) [] tell = absurd tell
nodes_told g nodes (q ∷ qs) (s ∷ ss) tell = ap₂ (λ (a : ℕ) (bs : List ℕ). a ∷ bs) tell.0.number (nodes_told g nodes qs ss tell.1)

firsts_are : (f : Listing → ℕ) (ks : List Listing) → map (λ (q : ℕ × Rewriting). q.0) (map (λ (k : Listing). let q : ℕ × Rewriting = (f k, Rewriting.Stays) in q) ks) ≡ map f ks
firsts_are f [] = refl
firsts_are f (k ∷ ks) = ap (λ (ns : List ℕ). f k ∷ ns) (firsts_are f ks)

module _ (x : GrowingJob) where
  objects_for : (ss : List Says) → ((s : Says) → Contains ss s → is_one_of (changed x) s.node ≡ true) → (ds : List Object) × AreTold x ss ds
  objects_for [] all = ([], tt)
  objects_for (s ∷ ss) all =
      let c = changed_object x s.node (all s (contains_here s ss)) in
      let rest = objects_for ss (λ t at. all t (contains_later s t ss at)) in
      (c.0.object ∷ rest.0, (record { changes = all s (contains_here s ss); is = c.2 }, rest.1))

  differ_of : (ss : List Says) (ds : List Object) → AreTold x ss ds → AreDistinct (map (λ (s : Says). s.node) ss) → Differ ds
  differ_of [] [] are once = tt
  differ_of [] (d ∷ ds) are once = absurd are
  differ_of (s ∷ ss) [] are once = absurd are
  differ_of (s ∷ ss) (d ∷ ds) are once = (
    λ o at same.
        (let t = told_of x ss ds o are.1 at in
        let number : s.node ≡ t.0.node = same_some s.node t.0.node (sym are.0.is.number ∙ ap (λ (q : Object). number_of x.nodes q.path) same ∙ t.2.is.number) in
        once.0 (subst (Contains (map (λ (r : Says). r.node) ss)) (sym number) (in_map (λ (r : Says). r.node) ss t.0 t.1))),
    differ_of ss ds are.1 once.1,
  )

-- ---- whatever has its space

module _ (a : GrownArrival) (s : Spaces) (placed : ArePlacedFirst a.m (h a) (job a) a.wants s) (c : Change) (change : IsChangeOf (h a) (job a) (last_name a.path) s c) where
  abbrev l : Listing
  l = a.spot.listing

  abbrev numb : Listing → ℕ
  numb k = num (Layout.New a.m) a.nodes a.listings (sound a) a.agreed.walked.held a.spot.listing a.spot.listed (p a s placed).directory (number_then a s placed) k

  kid_path : (k : Listing) → Contains l.children k.object → k.object.path ≡ l.object.path ++ k.object.entry.name ∷ []
  kid_path k at = child_path (Layout.New a.m) a.listings (sound a) l k.object a.spot.listed at

  other_kids : (ks : List Listing) → ((k : Listing) → Contains ks k → Contains l.children k.object) → Unlike (map (λ (k : Listing). k.object) ks) → Other ks
  other_kids [] all u = tt
  other_kids (k ∷ ks) all u = (
    λ j at.
        ap₂ (λ (q r : Path). is_same_path q r) (kid_path k (all k (contains_here k ks))) (kid_path j (all j (contains_later k j ks at)))
        ∙ same_last l.object.path l.object.path k.object.entry.name j.object.entry.name
        ∙ and_false (is_same_path l.object.path l.object.path) (is_same_name k.object.entry.name j.object.entry.name) (u.0 j.object (in_map (λ (i : Listing). i.object) ks j at)),
    other_kids ks (λ j at. all j (contains_later k j ks at)) u.1,
  )

  distinct_numbers : (ks : List Listing) → ((k : Listing) → Contains ks k → Contains a.listings k) → Other ks → AreDistinct (map numb ks)
  distinct_numbers [] all u = tt
  distinct_numbers (k ∷ ks) all u = (
    λ at.
        (let j = from_map numb ks (numb k) at in
        let same = dirs_same a.nodes k.object.path j.0.object.path (numb k) (numb j.0)
        (num_is (Layout.New a.m) a.nodes a.listings (sound a) a.agreed.walked.held a.spot.listing a.spot.listed (p a s placed).directory (number_then a s placed) k (all k (contains_here k ks)))
        (num_is (Layout.New a.m) a.nodes a.listings (sound a) a.agreed.walked.held a.spot.listing a.spot.listed (p a s placed).directory (number_then a s placed) j.0 (all j.0 (contains_later k j.0 ks j.1))) in
        clash (numb k == numb j.0) (eq-eqb (numb k) (numb j.0) (sym j.2)) (same ∙ u.0 j.0 j.1)),
    distinct_numbers ks (λ j at. all j (contains_later k j ks at)) u.1,
  )

  module _ (tops kids left : List Listing) (cut : IsCutAround a.listings a.spot.listing tops kids left) where
    kid_in : (k : Listing) → Contains kids k → Contains l.children k.object
    kid_in k at = in_filtered is_directory_object l.children k.object (subst (λ (os : List Object). Contains os k.object) cut.kids_are (in_map (λ (j : Listing). j.object) kids k at))

    listed_of : (k : Listing) → Contains (tops ++ kids) k → Contains a.listings k
    listed_of k at =
        Contains-permutation (l ∷ (tops ++ (kids ++ left))) a.listings k (IsPermutation-sym a.listings (l ∷ (tops ++ (kids ++ left))) cut.all)
        (contains_later l k (tops ++ (kids ++ left)) (⊎_elim (λ top. Contains-append_left tops (kids ++ left) k top)
        (λ kid. Contains-append_right tops (kids ++ left) k (Contains-append_left kids left k kid)) (Contains-append_cases tops kids k at)))

    kids_other : Other kids
    kids_other =
        other_kids kids kid_in
        (subst Unlike (sym cut.kids_are) (unlike_filter is_directory_object l.children
        (unlike_of l.children (subst Apart (sym (children_stored (Layout.New a.m) a.listings (sound a) l a.spot.listed)) (apart_from (entries_of l.content) ((sound a).apart l a.spot.listed))))))

    all_other : Other (tops ++ kids)
    all_other = by tops cut.tops_are
      where
        by : (ts : List Listing) → ((l.object.path ≡ []) × (ts ≡ [])) ⊎ ((k : Listing) × (ts ≡ k ∷ []) × Contains a.listings k × Contains k.children l.object) → Other (ts ++ kids)
        by ts (inl (root, none)) = subst (λ (us : List Listing). Other (us ++ kids)) (sym none) kids_other
        by ts (inr (k, one, there, kid)) =
            subst (λ (us : List Listing). Other (us ++ kids)) (sym one) (
              (λ j at.
                  other_long k.object.path j.object.path (λ same.
                  let up = ap (λ (q : Path). length q) (child_path (Layout.New a.m) a.listings (sound a) k l.object there kid) ∙ length_push k.object.path l.object.entry.name in
                  let down = ap (λ (q : Path). length q) (kid_path j (kid_in j at)) ∙ length_push l.object.path j.object.entry.name in omega (arith, same, up, down))),
              kids_other,
            )

    -- the children are told nothing if its address stays
    moved_part : (b : Bool) → Other (tops ++ cond b [] kids) × ((k : Listing) → Contains (tops ++ cond b [] kids) k → Contains a.listings k)
    moved_part true = (first_part tops all_other, λ k at. listed_of k (⊎_elim (λ top. Contains-append_left tops kids k top) (λ none. absurd (no_element k none)) (Contains-append_cases tops [] k at)))
      where
        first_part : (ts : List Listing) → Other (ts ++ kids) → Other (ts ++ [])
        first_part [] u = tt
        first_part (k ∷ ts) u = ((λ j at. u.0 j (Contains-append_left ts kids j (subst (λ (us : List Listing). Contains us j) (append-nil ts) at))), first_part ts u.1)
    moved_part false = (all_other, listed_of)

    abbrev told : List Listing
    told = filter (λ (k : Listing). not (is_told ((p a s placed).directory.node ∷ []) (numb k))) (tops ++ cond (a.spot.listing.object.entry.address == (p a s placed).directory.address) [] kids)

    around_are : around (Some (p a s placed).directory) a.nodes ((p a s placed).directory.node ∷ []) ≡ map (λ (k : Listing). let q : ℕ × Rewriting = (numb k, Rewriting.Stays) in q) told
    around_are = of.around_is (Layout.New a.m) a.nodes a.listings (sound a) a.agreed.walked.held a.spot.listing a.spot.listed (p a s placed).directory (number_then a s placed) tops kids left cut ((p a s placed).directory.node ∷ [])

    others_once : AreDistinct (map (λ (t : Says). t.node) (ch a s placed c change).others)
    others_once =
        let part = moved_part (a.spot.listing.object.entry.address == (p a s placed).directory.address) in
        subst AreDistinct
        (sym (nodes_told (Some (p a s placed).directory) a.nodes (around (Some (p a s placed).directory) a.nodes ((p a s placed).directory.node ∷ [])) (ch a s placed c change).others (ch a s placed c change).tell
        ∙ ap (map (λ (q : ℕ × Rewriting). q.0)) around_are ∙ firsts_are numb told))
        (distinct_numbers told (λ k at. part.1 k (in_filtered (λ (j : Listing). not (is_told ((p a s placed).directory.node ∷ []) (numb j))) _ k at)) (other_filter _ _ part.0))

  once : AreDistinct (map (λ (t : Says). t.node) c.says.items)
  once =
      let around' = cut_around (Layout.New a.m) a.listings (sound a) a.spot.listing a.spot.listed in
      let told' = ch a s placed c change in
      subst (λ (ss : List Says). AreDistinct (map (λ (t : Says). t.node) ss)) (sym told'.says) (
        λ at.
            (let o = from_map (λ (t : Says). t.node) told'.others told'.said.node at in
            others_apart a.nodes change.entry (p a s placed).directory c told' o.0 o.1 (o.2 ∙ told'.tells.number)),
        others_once around'.0 around'.1 around'.2 around'.3,
      )

  -- These are they.
  pub tells : TellsThese (growing a) c
  tells =
      let told' = ch a s placed c change in
      let all = objects_for (growing a) c.says.items (said_changed a s placed c change) in
      record {
        ds = all.0;
        are = all.1;
        once = differ_of (growing a) c.says.items all.0 all.1 once;
        grown = ap (λ (ss : List Says). list_any (λ (t : Says). t.node == a.growth.node) ss) told'.says
            ∙ ap (λ (b : Bool). b || list_any (λ (t : Says). t.node == a.growth.node) told'.others) (eq-eqb told'.said.node a.growth.node (told'.tells.number ∙ at_node a s placed));
      }
