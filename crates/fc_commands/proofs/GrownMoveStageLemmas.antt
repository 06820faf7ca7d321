-- `rename` by which a directory grows: each stage can follow on the one before.
use Rattle.fc_alloc.specs.declared.owner.Owner.{Owner}
use Rattle.fc_change.specs.Directories.{Amends, AmendsIf, CanAmend, CanBe, CanRegrow, CanTell, CanTellAround, IsGrownThere, Rewriting, around, is_holder}
use Rattle.fc_change.specs.Drafts.{CanDraft, CanTellJob, IsChangeOf, address_in, grown_in, told_first, told_last}
use Rattle.fc_change.specs.Needs.{AreWants, HasRoomOf, is_copied, len_at, room_of}
use Rattle.fc_change.specs.Places.{CanPlace}
use Rattle.fc_change.specs.Prepared.{CanPrepare, HasPlace}
use Rattle.fc_change.specs.declared.change.Change.{Change}
use Rattle.fc_change.specs.declared.change.Regrowth.{Regrowth}
use Rattle.fc_change.specs.declared.change.Says.{Says}
use Rattle.fc_change.specs.declared.job.Growth.{Growth}
use Rattle.fc_change.specs.declared.job.Job.TheVariants as jobs
use Rattle.fc_change.specs.declared.job.Wants.{Wants}
use Rattle.fc_change.specs.declared.spaces.GrownPlace.{GrownPlace}
use Rattle.fc_changes.proofs.BasicLemmas.{clash, holder_pushed}
use Rattle.fc_commands.proofs.GrownMoveBigLemmas.{big_by}
use Rattle.fc_commands.proofs.GrownMoveSaidLemmas.{grown_numb, holder_numb, home_numb, it, it_holds_none, it_numb, k, l, layout, listed, numb, numb_is}
use Rattle.fc_commands.proofs.GrownMoveToldLemmas.{IsToldGrown, all_numbers, entry_now, home_told, told_grown}
use Rattle.fc_commands.proofs.GrownMoveWalkLemmas as walk
use Rattle.fc_commands.proofs.GrownMoveWantLemmas.{GrownRename}
use Rattle.fc_commands.proofs.GrownMoveWantLemmas as want
use Rattle.fc_commands.proofs.GrownPreparedLemmas.{told_node}
use Rattle.fc_commands.proofs.GrownStageLemmas as stage
use Rattle.fc_commands.proofs.GrownToldLemmas as of
use Rattle.fc_commands.proofs.MoveDirectoryLemmas.{can_call, renamed_held}
use Rattle.fc_commands.proofs.MoveLemmas.{IsSeen, own_listing}
use Rattle.fc_commands.proofs.MoveLemmas as seen_of
use Rattle.fc_commands.proofs.MoveStageLemmas as move_stage
use Rattle.fc_commands.proofs.MoveTellLemmas.{own_told}
use Rattle.fc_commands.proofs.MoveTellLemmas as tell_of
use Rattle.fc_commands.proofs.NodeLemmas as its
use Rattle.fc_commands.proofs.TargetLemmas as target_of
use Rattle.fc_dirs.specs.Directory.{Directory, entries_of}
use Rattle.fc_dirs.specs.Entries.{has_name}
use Rattle.fc_dirs.specs.declared.Entry.{Entry}
use Rattle.fc_drafts.specs.Draft.{CanAddress}
use Rattle.fc_edits.proofs.lemmas.ShapeLemmas.{of_one}
use Rattle.fc_image.proofs.EntriesLemmas.{cases as contains_cases}
use Rattle.fc_image.proofs.PathsLemmas.{itself}
use Rattle.fc_image.specs.Layout.{Layout, dir_form}
use Rattle.fc_image.specs.Walk.{Listing, Object}
use Rattle.fc_laws.proofs.lemmas.nodes.FitsLemmas.{kid_lower}
use Rattle.fc_laws.proofs.lemmas.nodes.OtherLemmas.{name_there}
use Rattle.fc_laws.specs.agree.Agreed.{parts_with}
use Rattle.fc_laws.specs.nodes.Edits.{Nodes}
use Rattle.fc_model.specs.Tree.{holder}
use Rattle.fc_names.specs.Names.{Path, is_same_path}
use Rattle.fc_names.specs.declared.name.NameForm.TheVariants as forms
use Rattle.fc_newmap.specs.Map.{Map}
use Rattle.fc_refusals.specs.declared.target.Renaming.{Renaming}
use Rattle.fc_tree.proofs.MemberLemmas.{contains_here, in_map, no_element}
use Rattle.fc_tree.proofs.SoundLemmas.{children_stored, root_or_child, same_listing}
use Rattle.fc_tree.proofs.WalkedLemmas.{child_path, listed_directory, root, root_path, same_some}
use Rattle.fc_tree.specs.Nodes.{is_directory_node, number_of}
use Rattle.fc_tree.specs.Parts.{Parts}
use Rattle.fc_tree.specs.declared.node.Node.{Node}
use Rattle.std.proofs.Common.{Bool, List, None, Option, Some, [], ap, arith, cond, eq-eqb, false, inl, inr, length, refl, subst, sym, true, ℕ, ⊎_elim, ◌++◌, ◌<◌, ◌==◌, ◌^◌, ◌∙◌, ◌∷◌, ◌≡◌, ◌⊎◌}
use Rattle.std.proofs.lemmas.Bool.{eqb-true, true_from_ne_false as not_false}
use Rattle.std.proofs.lemmas.List.{length-map}
use Rattle.std.proofs.lemmas.List.Elements.{Contains-append_cases}
use Rattle.std.specs.Option.{option_map}
use Rattle.std.specs.Prelude.{Contains, is_some}
use Rattle.fc_commands.proofs.GrownStageLemmas.{address_any, name_any, hold_any}

-- ---- big directories

-- ---- what can be placed

-- A growth is to some bytes, and a copied file has a place.
pub can_place : (m : Map) (nodes : Nodes) (owners : List Owner) (listings : List Listing) (from to : Path) (r : Renaming) (name : List ℕ) (x : IsSeen (Layout.New m) nodes listings from to r name) (w : Wants)
    → AreWants (parts_with m nodes owners) (jobs.Move r) name w → len_at nodes r.target.node < 2 ^ 32 → CanPlace (parts_with m nodes owners) w
can_place m nodes owners listings from to r name x w are short = record {
  few = subst (λ (n : ℕ). n < 2 ^ 32) (sym are.bytes) (by (is_copied (parts_with m nodes owners) r));
  grows = λ g is. (big_by (Layout.New m) nodes listings from to r name x g.len (subst (λ (o : Option Growth). HasRoomOf nodes (jobs.Move r) name (room_of o)) is are.room)).more;
  copied = λ n is. subst (HasPlace (parts_with m nodes owners)) (own_node (is_copied (parts_with m nodes owners) r) n (sym are.copy ∙ is)) (move_stage.own_place (Layout.New m) nodes listings from to r name x (parts_with m nodes owners) refl refl);
  no_growth = λ space at. absurd (cc);
  behind = λ space at. absurd (cc);
  free = λ space n at goes. absurd (cc);
}
  where
    by : (b : Bool) → cond b (len_at nodes r.target.node) 0 < 2 ^ 32
    by true = short
    by false = omega arith

    own_node : (b : Bool) (n : ℕ) → (let o : Option ℕ = cond b (Some r.target.node) None in o) ≡ Some n → r.target.node ≡ n
    own_node true n e = same_some r.target.node n e
    own_node false n e = absurd (cc)

module _ (q : GrownRename) where
  abbrev h : Parts
  h = parts_with q.m q.nodes q.owners

  abbrev g : Regrowth
  g = (want.grown q).0.directory

  -- ---- what can be told

  tell : (d : Listing) (at : Contains q.listings d) (n : ℕ) → n ≡ numb q d → (rw : Rewriting) → CanAmend (Some (want.grown q).0.directory) q.nodes (numb q d) d.content
      → ((middle : Directory) → Amends (Some (want.grown q).0.directory) q.nodes (numb q d) d.content middle → CanBe rw middle) → CanTell (Some (want.grown q).0.directory) q.nodes n rw
  tell d at n same rw amended can =
      let number = numb_is q d at in
      subst (λ (i : ℕ). CanTell (Some g) q.nodes i rw) (sym same)
      (record {
        node = its.node q.nodes (layout q) q.listings q.seen.sound q.seen.held d at (numb q d) number;
        content = d.content;
        there = its.there q.nodes (layout q) q.listings q.seen.sound q.seen.held d at (numb q d) number;
        says = its.says q.nodes (layout q) q.listings q.seen.sound q.seen.held d at (numb q d) number;
        amended = amended;
        addressed = address_any (dir_form (layout q)) d.object.entry.len _ d.content (walk.form q) (q.seen.forms d at);
        can = can;
      })

  -- One that doesn't hold the grown one is rewritten as it is.
  tell_plain : (d : Listing) (at : Contains q.listings d) (n : ℕ) → n ≡ numb q d → (rw : Rewriting) → is_holder q.nodes (want.grown q).0.directory (numb q d) ≡ false → CanBe rw d.content → CanTell (Some (want.grown q).0.directory) q.nodes n rw
  tell_plain d at n same rw none can =
      tell d at n same rw (λ holds. absurd (clash (is_holder q.nodes g (numb q d)) holds none))
      (λ middle amends. subst (CanBe rw) (sym (subst (λ (b : Bool). AmendsIf b q.nodes g d.content middle) none amends)) can)

  own_none : is_holder q.nodes (want.grown q).0.directory (numb q q.seen.known.destination.listing) ≡ false
  own_none =
      ap (is_holder q.nodes g) (same_some (numb q (l q)) g.node (sym (numb_is q (l q) (listed q)) ∙ walk.number q))
      ∙ of.not_its_own (layout q) q.nodes q.listings q.seen.sound q.seen.held (l q) (listed q) g (walk.number q)

  abbrev e : Entry
  e = entry_now q

  any_address : (d : Listing) → Contains q.listings d → (address : ℕ) → CanAddress d.content address
  any_address d at address = address_any (dir_form (layout q)) d.object.entry.len address d.content (walk.form q) (q.seen.forms d at)

  can_rename : q.r.holder ≡ q.r.target.holder → CanTell (Some (want.grown q).0.directory) q.nodes q.r.holder (Rewriting.Renames q.r.target.at (entry_now q))
  can_rename here =
      let one = (q.seen.known.within here).0 in
      tell_plain (l q) (listed q) q.r.holder (holder_numb q) (Rewriting.Renames q.r.target.at e) own_none
      (subst (λ (d : Listing). CanBe (Rewriting.Renames q.r.target.at e) d.content) (sym one) (
        move_stage.at_low (layout q) q.nodes q.listings q.from q.to q.r q.name q.seen,
        name_any (dir_form (layout q)) (k q).object.entry.len q.name (k q).content (walk.form q) (q.seen.forms (k q) q.seen.known.target.listed),
        renamed_held (k q).content (it q).entry q.name e.address (move_stage.it_held (layout q) q.nodes q.listings q.from q.to q.r q.name q.seen) (any_address (k q) q.seen.known.target.listed e.address),
        seen_of.absent_beside (layout q) q.nodes q.listings q.from q.to q.r q.name q.seen here,
      ))

  can_enter : (q.r.holder ≡ q.r.target.holder → ⊥) → CanTell (Some (want.grown q).0.directory) q.nodes q.r.holder (Rewriting.Enters (entry_now q))
  can_enter away =
      tell_plain (l q) (listed q) q.r.holder (holder_numb q) (Rewriting.Enters e) own_none (
        name_any (dir_form (layout q)) (l q).object.entry.len q.name (l q).content (walk.form q) (q.seen.forms (l q) (listed q)),
        renamed_held (l q).content (it q).entry q.name e.address (move_stage.aim_held (layout q) q.nodes q.listings q.from q.to q.r q.name q.seen) (any_address (l q) (listed q) e.address),
        seen_of.absent (layout q) q.nodes q.listings q.from q.to q.r q.name q.seen away,
      )

  can_turn : is_directory_node q.nodes q.r.target.node ≡ true → CanTell (Some (want.grown q).0.directory) q.nodes q.r.target.node (Rewriting.Turns q.r.holder q.name)
  can_turn dir =
      let d = own_listing (layout q) q.listings q.seen.sound (it q) (seen_of.among (layout q) q.nodes q.listings q.from q.to q.r q.name q.seen) (sym (seen_of.node_kind (layout q) q.nodes q.listings q.from q.to q.r q.name q.seen) ∙ dir) in
      tell_plain d.0 d.1 q.r.target.node (it_numb q d.0 d.1 d.2) (Rewriting.Turns q.r.holder q.name) (it_holds_none q d.0 d.1 d.2)
      (can_call (dir_form (layout q)) d.0.content d.0.object.entry.len q.name (q.seen.forms d.0 d.1) q.seen.good)

  -- The directory that loses it can have the grown one's entry amended, if it holds that.
  can_leave : CanTell (Some (want.grown q).0.directory) q.nodes q.r.target.holder (Rewriting.Leaves q.r.target.at)
  can_leave =
      tell (k q) q.seen.known.target.listed q.r.target.holder (home_numb q) (Rewriting.Leaves q.r.target.at) regrows
      (λ middle amends. by (is_holder q.nodes g (numb q (k q))) middle amends)
    where
      low : q.r.target.at < length (entries_of (k q).content)
      low = move_stage.at_low (layout q) q.nodes q.listings q.from q.to q.r q.name q.seen

      by : (b : Bool) (middle : Directory) → AmendsIf b q.nodes g (k q).content middle → q.r.target.at < length (entries_of middle)
      by false middle amends = subst (λ (d : Directory). q.r.target.at < length (entries_of d)) (sym amends) low
      by true middle amends =
          let same : length (entries_of middle) ≡ length (entries_of (k q).content) =
          sym (length-map (entries_of middle) (λ (x : Entry). x.name)) ∙ ap (λ (ns : List (List ℕ)). length ns) amends.amended.names ∙ length-map (entries_of (k q).content) (λ (x : Entry). x.name) in
          subst (λ (n : ℕ). q.r.target.at < n) (sym same) low

      regrows : is_holder q.nodes g (numb q (k q)) ≡ true → CanRegrow q.nodes g (k q).content
      regrows holds = of_kid (root_or_child (layout q) q.listings q.seen.sound (l q).object (listed_directory (layout q) q.listings q.seen.sound (l q) (listed q)).0)
        where
          of_kid : (root (layout q) q.listings q.seen.sound ≡ (l q).object) ⊎ ((d : Listing) × Contains q.listings d × Contains d.children (l q).object) → CanRegrow q.nodes g (k q).content
          of_kid (inl top) =
              absurd (clash (is_holder q.nodes g (numb q (k q))) holds
              (of.none_at_top (layout q) q.nodes q.listings q.seen.sound q.seen.held (l q) (listed q) g (walk.number q)
              (same_some g.node 0 (sym (walk.number q) ∙ ap (number_of q.nodes) (ap (λ (o : Object). o.path) (sym top) ∙ root_path (layout q) q.listings q.seen.sound))) (numb q (k q))))
          of_kid (inr (d, there, kid)) =
              let path = child_path (layout q) q.listings q.seen.sound d (l q).object there kid in
              let lower = kid_lower (layout q) q.listings q.nodes q.seen.sound q.seen.held d (l q).object g.node there kid (walk.number q) in
              let alike = sym (of.holds_it (layout q) q.nodes q.listings q.seen.sound q.seen.held (l q) (listed q) g (walk.number q) lower (k q) q.seen.known.target.listed) ∙ holds in
              let one : d ≡ k q =
              same_listing (layout q) q.listings q.seen.sound d.object.path d (k q) there q.seen.known.target.listed (itself d.object.path)
              (ap (λ (p : Path). is_same_path p (k q).object.path) (sym (holder_pushed d.object.path (l q).object.entry.name) ∙ sym (ap holder path)) ∙ alike) in
              let in_k = subst (λ (y : Listing). Contains y.children (l q).object) one kid in
              record {
                node = its.node q.nodes (layout q) q.listings q.seen.sound q.seen.held (l q) (listed q) g.node (walk.number q);
                there = its.there q.nodes (layout q) q.listings q.seen.sound q.seen.held (l q) (listed q) g.node (walk.number q);
                named = not_false (has_name (entries_of (k q).content) (l q).object.entry.name) (name_there (entries_of (k q).content) (l q).object.entry.name (l q).object.entry
                    (subst (λ (es : List Entry). Contains es (l q).object.entry) (children_stored (layout q) q.listings q.seen.sound (k q) q.seen.known.target.listed) (in_map (λ (p : Object). p.entry) (k q).children (l q).object in_k)) refl);
                held = λ x can. hold_any (dir_form (layout q)) (k q).object.entry.len g.address g.len (k q).content x (walk.form q) (q.seen.forms (k q) q.seen.known.target.listed) can;
              }

  can_first : (y : ℕ × Rewriting) → Contains (told_first (jobs.Move q.r) (entry_now q)) y → CanTell (Some (want.grown q).0.directory) q.nodes y.0 y.1
  can_first = by (q.r.holder == q.r.target.holder) refl
    where
      by : (b : Bool) → (q.r.holder == q.r.target.holder) ≡ b → (y : ℕ × Rewriting)
          → Contains (cond b ((q.r.holder, Rewriting.Renames q.r.target.at (entry_now q)) ∷ []) ((q.r.holder, Rewriting.Enters (entry_now q)) ∷ [])) y → CanTell (Some g) q.nodes y.0 y.1
      by true is = of_one (λ (y : ℕ × Rewriting). CanTell (Some g) q.nodes y.0 y.1) (q.r.holder, Rewriting.Renames q.r.target.at (entry_now q)) (can_rename (eqb-true q.r.holder q.r.target.holder is))
      by false is =
          of_one (λ (y : ℕ × Rewriting). CanTell (Some g) q.nodes y.0 y.1) (q.r.holder, Rewriting.Enters (entry_now q)) (can_enter (λ same. clash (q.r.holder == q.r.target.holder) (eq-eqb q.r.holder q.r.target.holder same) is))

  can_last : (y : ℕ × Rewriting) → Contains (told_last q.nodes (jobs.Move q.r) q.name) y → CanTell (Some (want.grown q).0.directory) q.nodes y.0 y.1
  can_last y at =
      ⊎_elim (own (is_directory_node q.nodes q.r.target.node) refl) (left (q.r.holder == q.r.target.holder))
      (Contains-append_cases (own_told (is_directory_node q.nodes q.r.target.node) q.r q.name) (cond (q.r.holder == q.r.target.holder) [] ((q.r.target.holder, Rewriting.Leaves q.r.target.at) ∷ [])) y at)
    where
      own : (b : Bool) → is_directory_node q.nodes q.r.target.node ≡ b → Contains (own_told b q.r q.name) y → CanTell (Some g) q.nodes y.0 y.1
      own true is there = of_one (λ (p : ℕ × Rewriting). CanTell (Some g) q.nodes p.0 p.1) (q.r.target.node, Rewriting.Turns q.r.holder q.name) (can_turn is) y there
      own false is there = absurd (no_element y there)

      left : (b : Bool) → Contains (cond b [] ((q.r.target.holder, Rewriting.Leaves q.r.target.at) ∷ [])) y → CanTell (Some g) q.nodes y.0 y.1
      left true there = absurd (no_element y there)
      left false there = of_one (λ (p : ℕ × Rewriting). CanTell (Some g) q.nodes p.0 p.1) (q.r.target.holder, Rewriting.Leaves q.r.target.at) can_leave y there

  g_is : grown_in q.spaces ≡ Some (want.grown q).0.directory
  g_is = ap (option_map (λ (x : GrownPlace). x.directory)) (want.grown q).1

  pub can_draft : CanDraft (parts_with q.m q.nodes q.owners) (jobs.Move q.r) q.name q.spaces
  can_draft = record {
    own = subst (λ (x : Option Regrowth). CanTellJob h (jobs.Move q.r) q.name (address_in q.spaces) x) (sym g_is) (record {
      entry = entry_now q;
      made = ((it q).entry, target_of.entry (layout q) q.nodes q.listings q.seen.sound q.seen.held q.from q.r.target q.seen.known.target, refl);
      first = can_first;
      last = can_last;
      begins = tt;
    });
    there = subst (IsGrownThere q.nodes) (sym g_is) (ap (λ (x : Option Node). is_some x) (its.there q.nodes (layout q) q.listings q.seen.sound q.seen.held (l q) (listed q) g.node (walk.number q)));
    others = subst (λ (x : Option Regrowth). (ns : List ℕ) → CanTellAround q.nodes x ns) (sym g_is)
        (λ ns. stage.can_tell_around (layout q) q.nodes q.listings q.seen.sound q.seen.held (l q) (listed q) g (walk.number q) q.seen.forms (walk.form q) ns) _;
  }

  -- ---- ready

  place_of_dir : (d : Listing) → Contains q.listings d → (n : ℕ) → n ≡ numb q d → HasPlace (parts_with q.m q.nodes q.owners) n
  place_of_dir d at n same = subst (HasPlace h) (sym same) (tell_of.has_place (layout q) q.nodes q.listings q.seen.sound q.seen.held d at (numb q d) (numb_is q d at) h refl refl)

  module _ (b : Bool) (is_b : (q.r.holder == q.r.target.holder) ≡ b) (c : Change) (change : IsChangeOf (parts_with q.m q.nodes q.owners) (jobs.Move q.r) q.name q.spaces c) where
    tl : IsToldGrown q (entry_now q) b c
    tl = told_grown q b is_b c change

    own_placed : (y : ℕ × Rewriting) → Contains (own_told (is_directory_node q.nodes q.r.target.node) q.r q.name) y → HasPlace (parts_with q.m q.nodes q.owners) y.0
    own_placed y at = by (is_directory_node q.nodes q.r.target.node) at
      where
        by : (d : Bool) → Contains (own_told d q.r q.name) y → HasPlace h y.0
        by true there = of_one (λ (p : ℕ × Rewriting). HasPlace h p.0) (q.r.target.node, Rewriting.Turns q.r.holder q.name) (move_stage.own_place (layout q) q.nodes q.listings q.from q.to q.r q.name q.seen h refl refl) y there
        by false there = absurd (no_element y there)

    home_placed : (d : Bool) (y : ℕ × Rewriting) → Contains (home_told d q.r) y → HasPlace (parts_with q.m q.nodes q.owners) y.0
    home_placed true y at = absurd (no_element y at)
    home_placed false y at =
        of_one (λ (p : ℕ × Rewriting). HasPlace h p.0) (q.r.target.holder, Rewriting.Leaves q.r.target.at) (place_of_dir (k q) q.seen.known.target.listed q.r.target.holder (home_numb q)) y at

    placed_said : (said : Says) → Contains c.says.items said → HasPlace (parts_with q.m q.nodes q.owners) said.node
    placed_said said at =
        ⊎_elim (λ is. subst (λ (x : Says). HasPlace h x.node) is (subst (HasPlace h) (sym tl.tells.number) (place_of_dir (l q) (listed q) q.r.holder (holder_numb q))))
        (λ later. ⊎_elim
        (λ about. (let r = told_node (Some g) q.nodes (around (Some g) q.nodes (all_numbers q.nodes q.r q.name b)) tl.about said tl.tell_about about in
        subst (HasPlace h) (sym r.2)
        (stage.around_places (layout q) q.nodes q.listings q.seen.sound q.seen.held (l q) (listed q) g (walk.number q) q.seen.forms (walk.form q) (all_numbers q.nodes q.r q.name b) h refl refl r.0 r.1)))
        (λ more. ⊎_elim
        (λ own. (let r = told_node (Some g) q.nodes (own_told (is_directory_node q.nodes q.r.target.node) q.r q.name) tl.own said tl.tell_own own in subst (HasPlace h) (sym r.2) (own_placed r.0 r.1)))
        (λ home. (let r = told_node (Some g) q.nodes (home_told b q.r) tl.home said tl.tell_home home in subst (HasPlace h) (sym r.2) (home_placed b r.0 r.1)))
        (Contains-append_cases tl.own tl.home said more)) (Contains-append_cases tl.about (tl.own ++ tl.home) said later))
        (contains_cases tl.said said (tl.about ++ (tl.own ++ tl.home)) (subst (λ (ss : List Says). Contains ss said) tl.says at))

    pub can_prepare : CanPrepare (parts_with q.m q.nodes q.owners) c q.spaces
    can_prepare = record {
      placed = placed_said;
      grows = λ x there. (
        tl.said,
        subst (λ (ss : List Says). Contains ss tl.said) (sym tl.says) (contains_here tl.said (tl.about ++ (tl.own ++ tl.home))),
        tl.tells.number ∙ sym (grown_numb q) ∙ ap (λ (y : GrownPlace). y.directory.node) (same_some (want.grown q).0 x (sym (want.grown q).1 ∙ there)),
      );
    }
