-- What comes to a directory that grows by it, on a new map: each stage can follow on the one before.
use Rattle.std.proofs.Common.{◌≡◌, ⊎_elim, ℕ, List, [], ◌∷◌, refl, sym, ap, subst, ◌∙◌, Option, Some, true, false}
use Rattle.std.specs.Prelude.{Contains, is_some}
use Rattle.std.specs.Option.{option_map, unwrap_or}
use Rattle.fc_alloc.specs.declared.owner.Owner.{Owner}
use Rattle.fc_names.specs.Names.{Path}
use Rattle.fc_names.specs.declared.name.NameForm.{NameForm}
use Rattle.fc_names.specs.declared.name.NameForm.TheVariants as forms
use Rattle.fc_record.specs.declared.Kind.{Kind}
use Rattle.fc_newmap.specs.Map.{Map}
use Rattle.fc_model.specs.Tree.{last_name}
use Rattle.fc_drafts.specs.Draft.{CanAddress, CanBeCalled}
use Rattle.fc_dirs.specs.Directory.{entries_of}
use Rattle.fc_dirs.specs.Entries.{has_name}
use Rattle.fc_image.specs.Layout.{Layout, dir_form}
use Rattle.fc_image.specs.Sound.{AreSound}
use Rattle.fc_image.specs.Walk.{Listing}
use Rattle.fc_image.specs.effects.Steady.{new_directory}
use Rattle.fc_laws.specs.nodes.Edits.{Nodes}
use Rattle.fc_laws.specs.agree.Agreed.{AgreeOn, parts_with}
use Rattle.fc_laws.proofs.lemmas.agree.BeforeLemmas.{agreed_law}
use Rattle.fc_edits.proofs.lemmas.ShapeLemmas.{of_one}
use Rattle.fc_refusals.specs.Targets.{IsVacant}
use Rattle.fc_tree.specs.declared.node.Node.{Node}
use Rattle.fc_tree.specs.Nodes.{number_of}
use Rattle.fc_tree.specs.Parts.{Parts}
use Rattle.fc_tree.proofs.MemberLemmas.{contains_here, no_element}
use Rattle.fc_tree.proofs.WalkedLemmas.{same_some}
use Rattle.fc_change.specs.declared.change.Change.{Change}
use Rattle.fc_change.specs.declared.change.Regrowth.{Regrowth}
use Rattle.fc_change.specs.declared.change.Says.{Says}
use Rattle.fc_change.specs.declared.job.Growth.{Growth}
use Rattle.fc_change.specs.declared.job.Wants.{Wants}
use Rattle.fc_change.specs.declared.spaces.GrownPlace.{GrownPlace}
use Rattle.fc_change.specs.declared.spaces.Place.{Place}
use Rattle.fc_change.specs.declared.spaces.Spaces.{Spaces}
use Rattle.fc_change.specs.Directories.{CanTell, CanTellAround, IsGrownThere, Rewriting, around}
use Rattle.fc_change.specs.Drafts.{CanDraft, CanTellJob, IsChangeOf, IsPlaced, address_in, grown_in}
use Rattle.fc_change.specs.Needs.{CanWant}
use Rattle.fc_change.specs.Prepared.{CanPrepare, HasPlace}
use Rattle.fc_commands.specs.Stages.{IsSpaced}
use Rattle.fc_commands.proofs.ArrivalLemmas.{Arrival, entry_of, job_of, name_is, no_last}
use Rattle.fc_commands.proofs.GrownPreparedLemmas.{IsEntering, IsGrownChange, comer_enters, grown_change, told_node}
use Rattle.fc_commands.proofs.GrownStageLemmas as stage
use Rattle.fc_commands.proofs.GrownWalkLemmas as walk
use Rattle.fc_commands.proofs.GrownWantLemmas.{IsGrownWanted}
use Rattle.fc_commands.proofs.GrownWantLemmas as wanted
use Rattle.fc_commands.proofs.NodeLemmas as its
use Rattle.fc_image.proofs.EntriesLemmas.{cases as contains_cases}

pub begins : (form : NameForm) (address : ℕ) (name : List ℕ) → form ≡ forms.Long → CanAddress (new_directory form address name) address × CanBeCalled (new_directory form address name) name
begins forms.Seven address name is = absurd (cc)
begins forms.Ten address name is = absurd (cc)
begins forms.Long address name is = (tt, tt)

pub want : (nodes : Nodes) (dir : ℕ) (x : Arrival) → CanWant nodes (job_of dir x)
want nodes dir Arrival.Makes = tt
want nodes dir (Arrival.Saves words) = tt

module _ (m : Map) (nodes : Nodes) (owners : List Owner) (dir : ℕ) (x : Arrival) (path : Path) (w : Wants) (s : Spaces) (spaced : IsSpaced (parts_with m nodes owners) (job_of dir x) (last_name path) w s)
    (growth : Growth) (some : w.grows ≡ Some growth) (kind : Kind) (root : Node) (listings : List Listing) (agreed : AgreeOn kind m nodes owners root listings) (spot : IsVacant nodes listings path dir) where
  abbrev h : Parts
  h = parts_with m nodes owners

  abbrev name : List ℕ
  name = last_name path

  abbrev is : IsGrownWanted m nodes owners dir x (last_name path) w s
  is = record { wants = spaced.wants; placed = spaced.places; growth = growth; some = some }

  abbrev p : GrownPlace
  p = (wanted.grown m nodes owners dir x (last_name path) w s is).0

  p_is : s.grown ≡ Some p
  p_is = (wanted.grown m nodes owners dir x (last_name path) w s is).1

  g_is : grown_in s ≡ Some p.directory
  g_is = ap (option_map (λ (x : GrownPlace). x.directory)) p_is

  dir_is : p.directory.node ≡ dir
  dir_is = wanted.dir_is m nodes owners dir x (last_name path) w s is

  abbrev sound : AreSound (Layout.New m) listings
  sound = agreed_law.sound kind m nodes owners root listings agreed

  number : number_of nodes spot.listing.object.path ≡ Some p.directory.node
  number = walk.number m nodes owners dir x path w s is kind root listings agreed spot

  form : dir_form (Layout.New m) ≡ forms.Long
  form = walk.form m nodes owners dir x path w s is kind root listings agreed spot

  tell : (address : ℕ) → CanTell (Some p.directory) nodes dir (Rewriting.Enters (entry_of (dir_form (Layout.New m)) x name address))
  tell address =
      subst (λ (n : ℕ). CanTell (Some p.directory) nodes n (Rewriting.Enters (entry_of (dir_form (Layout.New m)) x name address))) dir_is
      (stage.tell_own (Layout.New m) nodes listings sound agreed.walked.held spot.listing spot.listed p.directory number agreed.walked.forms form (entry_of (dir_form (Layout.New m)) x name address)
      (no_last (dir_form (Layout.New m)) x name address)
      (subst (λ (n : List ℕ). has_name (entries_of spot.listing.content) n ≡ false) (sym (name_is (dir_form (Layout.New m)) x name address)) spot.no_name))

  tell_job : (y : Arrival) (address : Option ℕ) → CanTell (Some p.directory) nodes dir (Rewriting.Enters (entry_of (dir_form (Layout.New m)) y name (unwrap_or address 0))) → CanTellJob h (job_of dir y) name address (Some p.directory)
  tell_job Arrival.Makes address can = record {
    entry = entry_of (dir_form (Layout.New m)) Arrival.Makes name (unwrap_or address 0);
    made = refl;
    first = of_one (λ (q : ℕ × Rewriting). CanTell (Some p.directory) nodes q.0 q.1) (dir, Rewriting.Enters (entry_of (dir_form (Layout.New m)) Arrival.Makes name (unwrap_or address 0))) can;
    last = λ q at. absurd (no_element q at);
    begins = λ parent at. begins (dir_form (Layout.New m)) parent name form;
  }
  tell_job (Arrival.Saves words) address can = record {
    entry = entry_of (dir_form (Layout.New m)) (Arrival.Saves words) name (unwrap_or address 0);
    made = refl;
    first = of_one (λ (q : ℕ × Rewriting). CanTell (Some p.directory) nodes q.0 q.1) (dir, Rewriting.Enters (entry_of (dir_form (Layout.New m)) (Arrival.Saves words) name (unwrap_or address 0))) can;
    last = λ q at. absurd (no_element q at);
    begins = tt;
  }

  pub can_draft : CanDraft (parts_with m nodes owners) (job_of dir x) (last_name path) s
  can_draft = record {
    own = subst (λ (g : Option Regrowth). CanTellJob h (job_of dir x) name (address_in s) g) (sym g_is) (tell_job x (address_in s) (tell (unwrap_or (address_in s) 0)));
    there = subst (IsGrownThere nodes) (sym g_is) (ap (λ (y : Option Node). is_some y) (its.there nodes (Layout.New m) listings sound agreed.walked.held spot.listing spot.listed p.directory.node number));
    others = subst (λ (g : Option Regrowth). (ns : List ℕ) → CanTellAround nodes g ns) (sym g_is)
        (λ ns. stage.can_tell_around (Layout.New m) nodes listings sound agreed.walked.held spot.listing spot.listed p.directory number agreed.walked.forms form ns) _;
  }

  pub placed : IsPlaced (job_of dir x) (address_in s)
  placed = by x
    where
      there : is_some (address_in s) ≡ true
      there = ap (λ (o : Option Place). is_some (option_map (λ (y : Place). y.address) o)) (wanted.object m nodes owners dir x (last_name path) w s is).1

      by : (y : Arrival) → IsPlaced (job_of dir y) (address_in s)
      by Arrival.Makes = there
      by (Arrival.Saves words) = there

  -- ---- ready

  own_place : HasPlace (parts_with m nodes owners) p.directory.node
  own_place = record {
    node = its.node nodes (Layout.New m) listings sound agreed.walked.held spot.listing spot.listed p.directory.node number;
    there = its.there nodes (Layout.New m) listings sound agreed.walked.held spot.listing spot.listed p.directory.node number;
    placed = ap is_some (its.placed nodes (Layout.New m) listings sound agreed.walked.held spot.listing spot.listed p.directory.node number);
  }

  enters : IsEntering (parts_with m nodes owners) (job_of dir x) p.directory.node (last_name path)
  enters = subst (λ (n : ℕ). IsEntering h (job_of dir x) n name) (sym dir_is) (comer_enters h dir x name)

  module _ (c : Change) (change : IsChangeOf (parts_with m nodes owners) (job_of dir x) (last_name path) s c) where
    abbrev ch : IsGrownChange nodes change.entry p.directory c
    ch = grown_change h (job_of dir x) name s c p enters change p_is

    placed_said : (said : Says) → Contains c.says.items said → HasPlace (parts_with m nodes owners) said.node
    placed_said said at =
        ⊎_elim (λ own. subst (λ (x : Says). HasPlace h x.node) own (subst (HasPlace h) (sym ch.tells.number) own_place))
        (λ other. (let q = told_node (Some p.directory) nodes (around (Some p.directory) nodes (p.directory.node ∷ [])) ch.others said ch.tell other in
        subst (HasPlace h) (sym q.2)
        (stage.around_places (Layout.New m) nodes listings sound agreed.walked.held spot.listing spot.listed p.directory number agreed.walked.forms form (p.directory.node ∷ []) h refl refl q.0 q.1)))
        (contains_cases ch.said said ch.others (subst (λ (ss : List Says). Contains ss said) ch.says at))

    pub can_prepare : CanPrepare (parts_with m nodes owners) c s
    can_prepare = record {
      placed = placed_said;
      grows = λ g there.
          (ch.said, subst (λ (ss : List Says). Contains ss ch.said) (sym ch.says) (contains_here ch.said ch.others), ch.tells.number ∙ ap (λ (x : GrownPlace). x.directory.node) (same_some p g (sym p_is ∙ there)));
    }
