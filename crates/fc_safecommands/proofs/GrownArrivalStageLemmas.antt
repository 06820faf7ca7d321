-- What comes to a directory that grows by it, in the safe mode: each stage can follow on the one before.
use Rattle.std.proofs.Common.{◌≡◌, ◌==◌, ◌||◌, ◌&&◌, ⊎_elim, ℕ, Bool, true, false, not, cond, filter, List, [], ◌∷◌, ◌++◌, refl, sym, ap, subst, ◌∙◌, arith, eq-eqb, Option, Some, None}
use Rattle.std.specs.Prelude.{Contains, get_or, is_some}
use Rattle.std.specs.FinMap.{get}
use Rattle.std.specs.Option.{option_map, unwrap_or}
use Rattle.std.proofs.lemmas.List.Elements.{Contains-append_cases, Contains-get_or}
use Rattle.fc_alloc.specs.declared.owner.Owner.{Owner}
use Rattle.fc_names.specs.declared.name.NameForm.TheVariants as forms
use Rattle.fc_model.specs.Tree.{last_name}
use Rattle.fc_dirs.specs.Directory.{entries_of}
use Rattle.fc_dirs.specs.Entries.{has_name}
use Rattle.fc_image.specs.Layout.{Layout, dir_form}
use Rattle.fc_image.proofs.EntriesLemmas.{cases as contains_cases}
use Rattle.fc_edits.proofs.lemmas.ShapeLemmas.{of_one}
use Rattle.fc_plan.specs.declared.plan.Plan.{Plan}
use Rattle.fc_plan.specs.Giving.{is_one_of}
use Rattle.fc_plan.specs.Parts.{front_at}
use Rattle.fc_plan.proofs.Plans.{min_some}
use Rattle.fc_changes.proofs.StepsLemmas.{any_append}
use Rattle.fc_tree.specs.declared.node.Node.{Node}
use Rattle.fc_tree.specs.Counts.{address_in as address_of}
use Rattle.fc_tree.specs.Nodes.{number_of}
use Rattle.fc_tree.proofs.MemberLemmas.{from_map, in_map, no_element}
use Rattle.fc_change.specs.declared.change.Change.{Change}
use Rattle.fc_change.specs.declared.change.Regrowth.{Regrowth}
use Rattle.fc_change.specs.declared.change.Says.{Says}
use Rattle.fc_change.specs.declared.job.Growth.{Growth}
use Rattle.fc_change.specs.declared.spaces.GrownPlace.{GrownPlace}
use Rattle.fc_change.specs.declared.spaces.Place.{Place}
use Rattle.fc_change.specs.declared.spaces.Spaces.{Spaces}
use Rattle.fc_change.specs.Directories.{CanTell, CanTellAround, IsGrownThere, Rewriting, around, children_of, directories_in, holders_of, is_told}
use Rattle.fc_change.specs.Drafts.{CanDraft, CanTellJob, IsChangeOf, IsPlaced, address_in, grown_in}
use Rattle.fc_change.specs.Places.{IsPlaceFor}
use Rattle.fc_change.specs.Prepared.{HasPlace}
use Rattle.fc_commands.proofs.ArrivalLemmas.{Arrival, bytes_of, entry_of, job_of, name_is, no_last}
use Rattle.fc_commands.proofs.ArrivalPlaceLemmas.{dir_some, shares_of}
use Rattle.fc_commands.proofs.GrownAroundLemmas.{in_filtered}
use Rattle.fc_commands.proofs.GrownPreparedLemmas.{IsEntering, IsGrownChange, comer_enters, grown_change, told_node}
use Rattle.fc_commands.proofs.GrownStageLemmas as stage
use Rattle.fc_commands.proofs.NodeLemmas as its
use Rattle.fc_safe.specs.Changed.{above_grown, holder_of, named_in, renamed_in, within_moved}
use Rattle.fc_safe.specs.FirstNeeds.{moving_out, stir_of}
use Rattle.fc_safe.specs.FirstSpace.{ArePlacedFirst, IsFirstGrown, LiesInZones, address_then}
use Rattle.fc_safe.proofs.CoverLemmas.{fronts_in_zones}
use Rattle.fc_safe.proofs.ListLemmas.{any_of, or_left, or_right}
use Rattle.fc_safecommands.specs.Anew.{CanWriteAnew, plans_in}
use Rattle.fc_safecommands.proofs.GrownArrivalLemmas.{GrownArrival, form, growing, h, is_changed, job, node_is, number, sound, want}
use Rattle.fc_safecommands.proofs.GrownSpaceLemmas.{can, out_is}
use Rattle.fc_safecommands.proofs.GrownStepLemmas.{grown_at, step}
use Rattle.fc_safecommands.proofs.GrownStirLemmas.{changed_object, owner_object}
use Rattle.fc_safecommands.proofs.PlansApartLemmas.{in_fronts}
use Rattle.fc_commands.proofs.GrownNewStageLemmas.{begins}

-- ---- whatever has its space

module _ (a : GrownArrival) (s : Spaces) (placed : ArePlacedFirst a.m (h a) (job a) a.wants s) where
  abbrev name : List ℕ
  name = last_name a.path

  abbrev pub p : GrownPlace
  p = (grown_at (growing a) s placed).0

  pub p_is : s.grown ≡ Some p
  p_is = (grown_at (growing a) s placed).1

  pub first : IsFirstGrown a.m (h a) a.growth placed.plans p
  first = (grown_at (growing a) s placed).2

  g_is : grown_in s ≡ Some p.directory
  g_is = ap (option_map (λ (q : GrownPlace). q.directory)) p_is

  pub at_node : p.directory.node ≡ a.growth.node
  at_node = ap (λ (d : Regrowth). d.node) first.directory

  pub number_then : number_of a.nodes a.spot.listing.object.path ≡ Some p.directory.node
  number_then = number a ∙ ap (λ (n : ℕ). let q : Option ℕ = Some n in q) (sym at_node)

  pub dir_is : p.directory.node ≡ a.dir
  dir_is = at_node ∙ node_is a

  -- ---- what directories are told

  tell : (address : ℕ) → CanTell (Some p.directory) a.nodes a.dir (Rewriting.Enters (entry_of (dir_form (Layout.New a.m)) a.x name address))
  tell address =
      subst (λ (n : ℕ). CanTell (Some p.directory) a.nodes n (Rewriting.Enters (entry_of (dir_form (Layout.New a.m)) a.x name address))) dir_is
      (stage.tell_own (Layout.New a.m) a.nodes a.listings (sound a) a.agreed.walked.held a.spot.listing a.spot.listed p.directory number_then a.agreed.walked.forms (form a) (entry_of (dir_form (Layout.New a.m)) a.x name address)
      (no_last (dir_form (Layout.New a.m)) a.x name address)
      (subst (λ (n : List ℕ). has_name (entries_of a.spot.listing.content) n ≡ false) (sym (name_is (dir_form (Layout.New a.m)) a.x name address)) a.spot.no_name))

  tell_job : (y : Arrival) (address : Option ℕ) → CanTell (Some p.directory) a.nodes a.dir (Rewriting.Enters (entry_of (dir_form (Layout.New a.m)) y name (unwrap_or address 0))) → CanTellJob (h a) (job_of a.dir y) name address (Some p.directory)
  tell_job Arrival.Makes address told = record {
    entry = entry_of (dir_form (Layout.New a.m)) Arrival.Makes name (unwrap_or address 0);
    made = refl;
    first = of_one (λ (q : ℕ × Rewriting). CanTell (Some p.directory) a.nodes q.0 q.1) (a.dir, Rewriting.Enters (entry_of (dir_form (Layout.New a.m)) Arrival.Makes name (unwrap_or address 0))) told;
    last = λ q at. absurd (no_element q at);
    begins = λ parent at. begins (dir_form (Layout.New a.m)) parent name (form a);
  }
  tell_job (Arrival.Saves words) address told = record {
    entry = entry_of (dir_form (Layout.New a.m)) (Arrival.Saves words) name (unwrap_or address 0);
    made = refl;
    first = of_one (λ (q : ℕ × Rewriting). CanTell (Some p.directory) a.nodes q.0 q.1) (a.dir, Rewriting.Enters (entry_of (dir_form (Layout.New a.m)) (Arrival.Saves words) name (unwrap_or address 0))) told;
    last = λ q at. absurd (no_element q at);
    begins = tt;
  }

  pub can_draft : CanDraft (h a) (job a) (last_name a.path) s
  can_draft = record {
    own = subst (λ (g : Option Regrowth). CanTellJob (h a) (job a) name (address_in s) g) (sym g_is) (tell_job a.x (address_in s) (tell (unwrap_or (address_in s) 0)));
    there = subst (IsGrownThere a.nodes) (sym g_is) (ap (λ (n : Option Node). is_some n) (its.there a.nodes (Layout.New a.m) a.listings (sound a) a.agreed.walked.held a.spot.listing a.spot.listed p.directory.node number_then));
    others = subst (λ (g : Option Regrowth). (ns : List ℕ) → CanTellAround a.nodes g ns) (sym g_is)
        (λ ns. stage.can_tell_around (Layout.New a.m) a.nodes a.listings (sound a) a.agreed.walked.held a.spot.listing a.spot.listed p.directory number_then a.agreed.walked.forms (form a) ns) _;
  }

  -- ---- the object has a place

  pub place_at : (q : Place) × (s.object ≡ Some q)
  place_at = by s.object placed.object
    where
      never : (y : Arrival) → a.wants.bytes ≡ bytes_of (dir_form (Layout.New a.m)) y → a.wants.shares ≡ shares_of a.dir y → a.wants.bytes ≡ 0 → a.wants.shares ≡ None → ⊥
      never Arrival.Makes bytes shares none alone = let some = dir_some (dir_form (Layout.New a.m)) in omega (arith, some, bytes, none)
      never (Arrival.Saves words) bytes shares none alone = let some = sym shares ∙ alone in cc

      by : (o : Option Place) → IsPlaceFor a.m a.wants placed.placing o → (q : Place) × (o ≡ Some q)
      by (Some q) at = (q, refl)
      by None at = absurd (never a.x (want a).bytes (want a).slack at.0 at.1)

  pub is_placed : IsPlaced (job a) (address_in s)
  is_placed = by a.x
    where
      there : is_some (address_in s) ≡ true
      there = ap (λ (o : Option Place). is_some (option_map (λ (q : Place). q.address) o)) place_at.1

      by : (y : Arrival) → IsPlaced (job_of a.dir y) (address_in s)
      by Arrival.Makes = there
      by (Arrival.Saves words) = there

  -- ---- what says something is changed

  pub enters : IsEntering (h a) (job a) p.directory.node (last_name a.path)
  enters = subst (λ (n : ℕ). IsEntering (h a) (job a) n name) (sym dir_is) (comer_enters (h a) a.dir a.x name)

  abbrev changed : List ℕ
  changed = (stir_of a.m (h a) (job a) a.wants).changed

  abbrev above : List ℕ
  above = above_grown a.nodes a.wants.grows

  abbrev within : List ℕ
  within = within_moved a.nodes (moving_out a.m (h a) a.wants.grows)

  holders_same : holders_of a.nodes p.directory ≡ above
  holders_same = ap (holder_of a.nodes) at_node ∙ ap (above_grown a.nodes) (sym a.grows)

  -- They are told only if its address is another, and so with another identifier.
  children_in : (n : ℕ) → Contains (children_of a.nodes p.directory) n → Contains within n
  children_in n at = by (moving_out a.m (h a) (Some a.growth)) refl
    where
      address_is : (o : Option Growth) → moving_out a.m (h a) (Some a.growth) ≡ o → p.directory.address ≡ address_then o (address_of a.nodes a.growth.node) first.plan
      address_is o e = ap (λ (d : Regrowth). d.address) first.directory ∙ ap (λ (q : Option Growth). address_then q (address_of a.nodes a.growth.node) first.plan) e

      inside : (b : Bool) → Contains (cond b [] (directories_in a.nodes p.directory.node)) n → Contains (directories_in a.nodes p.directory.node) n
      inside true none = absurd (no_element n none)
      inside false there = there

      by : (o : Option Growth) → moving_out a.m (h a) (Some a.growth) ≡ o → Contains within n
      by None e = absurd (no_element n (subst (λ (b : Bool). Contains (cond b [] (directories_in a.nodes p.directory.node)) n) (eq-eqb (address_of a.nodes p.directory.node) p.directory.address (ap (address_of a.nodes) at_node ∙ sym (address_is None e))) at))
      by (Some k) e =
          let same : a.growth ≡ k = out_is (growing a) k (ap (moving_out a.m (h a)) a.grows ∙ e) in
          subst (λ (o : Option Growth). Contains (within_moved a.nodes o) n) (sym (ap (moving_out a.m (h a)) a.grows ∙ e))
          (subst (λ (m : ℕ). Contains (directories_in a.nodes m) n) (at_node ∙ ap (λ (g : Growth). g.node) same) (inside (address_of a.nodes p.directory.node == p.directory.address) at))

  around_changed : (n : ℕ) → Contains (holders_of a.nodes p.directory ++ children_of a.nodes p.directory) n → is_one_of changed n ≡ true
  around_changed n at =
      any_append (λ (k : ℕ). k == n) (named_in (job a)) (renamed_in a.nodes (job a) ++ (above ++ within))
      ∙ or_right (is_one_of (named_in (job a)) n) _
      (any_append (λ (k : ℕ). k == n) (renamed_in a.nodes (job a)) (above ++ within)
      ∙ or_right (is_one_of (renamed_in a.nodes (job a)) n) _
      (any_append (λ (k : ℕ). k == n) above within
      ∙ ⊎_elim
      (λ top. or_left (is_one_of above n) (is_one_of within n) (any_of (λ (k : ℕ). k == n) above n (subst (λ (ns : List ℕ). Contains ns n) holders_same top) (eq-eqb n n refl)))
      (λ kid. or_right (is_one_of above n) (is_one_of within n) (any_of (λ (k : ℕ). k == n) within n (children_in n kid) (eq-eqb n n refl)))
      (Contains-append_cases (holders_of a.nodes p.directory) (children_of a.nodes p.directory) n at)))

  module _ (c : Change) (change : IsChangeOf (h a) (job a) (last_name a.path) s c) where
    abbrev pub ch : IsGrownChange a.nodes change.entry p.directory c
    ch = grown_change (h a) (job a) (last_name a.path) s c p enters change p_is

    pub said_changed : (said : Says) → Contains c.says.items said → is_one_of (stir_of a.m (h a) (job a) a.wants).changed said.node ≡ true
    said_changed said at =
        ⊎_elim (λ own. ap (is_one_of changed) (ap (λ (x : Says). x.node) (sym own) ∙ ch.tells.number ∙ at_node) ∙ is_changed a)
        (λ other. (let q = told_node (Some p.directory) a.nodes (around (Some p.directory) a.nodes (p.directory.node ∷ [])) ch.others said ch.tell other in
        let back = from_map (λ (n : ℕ). let r : ℕ × Rewriting = (n, Rewriting.Stays) in r) (filter (λ (n : ℕ). not (is_told (p.directory.node ∷ []) n)) (holders_of a.nodes p.directory ++ children_of a.nodes p.directory)) q.0 q.1 in
        ap (is_one_of changed) (q.2 ∙ sym (ap (λ (r : ℕ × Rewriting). r.0) back.2))
        ∙ around_changed back.0 (in_filtered (λ (n : ℕ). not (is_told (p.directory.node ∷ []) n)) (holders_of a.nodes p.directory ++ children_of a.nodes p.directory) back.0 back.1)))
        (contains_cases ch.said said ch.others (subst (λ (ss : List Says). Contains ss said) ch.says at))

    pub can_write : CanWriteAnew (h a) c
    can_write = record {
      told = λ said at. ap is_some (changed_object (growing a) said.node (said_changed said at)).2.own_found;
      placed = placed_at;
    }
      where
        placed_at : (o : Owner) → Contains a.owners o → HasPlace (h a) o.node
        placed_at o at =
            let q = owner_object (growing a) o at in
            let has = a.agreed.walked.held.each q.0 q.1 in
            let same : o.node ≡ has.number = ap (λ (w : Owner). w.node) (sym q.3) ∙ ap (λ (k : Option ℕ). unwrap_or k 0) has.at_path in
            record { node = _; there = ap (get a.nodes) same ∙ has.is; placed = ap is_some (its.each_at (Layout.New a.m) a.listings (sound a) q.0 q.1) }

  -- ---- what is taken lies in zones

  pub zones : (q : Plan) → Contains (plans_in s.take) q → LiesInZones a.m q
  zones q at =
      let st = step (growing a) s placed in
      let there : Contains placed.plans q = subst (λ (ps : List Plan). Contains ps q) (ap plans_in st.1 ∙ st.2.plans_are) at in
      λ k d low. fronts_in_zones a.m a.agreed.is_map (min_some a.m.geometry a.agreed.is_map.of_record) placed.plans (front_at (get_or q.parts.items k d)) (can (growing a) s placed)
      (in_fronts placed.plans q (front_at (get_or q.parts.items k d)) there (in_map front_at q.parts.items (get_or q.parts.items k d) (Contains-get_or q.parts.items k d low)))
