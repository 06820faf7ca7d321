-- Each directory that a job changes is listed, if it makes or moves something.
use Rattle.std.proofs.Common.{◌≡◌, ◌||◌, ◌==◌, inl, inr, ℕ, Bool, true, false, cond, List, [], ◌∷◌, ◌++◌, refl, sym, ap, ap₂, subst, ◌∙◌, Option, Some, None}
use Rattle.std.specs.Prelude.{Contains, map}
use Rattle.std.specs.Option.{option_map_or}
use Rattle.std.proofs.lemmas.Bool.{and_parts, eqb-true, or_cases}
use Rattle.fc_names.specs.Names.{is_directory}
use Rattle.fc_newmap.specs.Map.{Map}
use Rattle.fc_model.specs.Command.{Command}
use Rattle.fc_image.specs.Opening.{Opened}
use Rattle.fc_image.specs.Objects.{objects_of}
use Rattle.fc_image.specs.Walk.{Listing, Object, is_directory_object}
use Rattle.fc_laws.specs.nodes.Edits.{Nodes}
use Rattle.fc_changes.proofs.StepsLemmas.{any_append}
use Rattle.fc_plan.specs.Giving.{is_one_of}
use Rattle.fc_refusals.specs.declared.target.Slot.TheVariants as slots
use Rattle.fc_tree.specs.declared.node.Node.{Node}
use Rattle.fc_tree.specs.Nodes.{is_directory_node, number_of}
use Rattle.fc_tree.specs.Parts.{Parts}
use Rattle.fc_tree.proofs.MemberLemmas.{from_map, in_filter}
use Rattle.fc_tree.proofs.WalkedLemmas.{child_is_object, directories_listed}
use Rattle.fc_change.specs.declared.job.Growth.{Growth}
use Rattle.fc_change.specs.declared.job.Job.{Job}
use Rattle.fc_change.specs.declared.job.Job.TheVariants as jobs
use Rattle.fc_change.specs.declared.job.Wants.{Wants}
use Rattle.fc_change.specs.Directories.{directories_in}
use Rattle.fc_change.specs.GrownSpace.{has_room, is_alone}
use Rattle.fc_change.specs.Jobs.{IsJob}
use Rattle.fc_change.specs.Needs.{AreWants}
use Rattle.fc_commands.proofs.ArrivalLemmas.{Arrival, job_of, of_job}
use Rattle.fc_commands.proofs.TargetLemmas as target_of
use Rattle.fc_safe.specs.Changed.{above_grown, changed_in, holder_of, named_in, renamed_in, within_moved}
use Rattle.fc_safe.specs.FirstNeeds.{moving_out, stir_of}
use Rattle.fc_safe.specs.Views.{IsPlain, IsViewOf}
use Rattle.fc_safe.proofs.ListLemmas.{found_of}
use Rattle.fc_safecommands.proofs.lemmas.AroundLemmas.{above_listed, is_kid, kid_named, kids_are}
use Rattle.fc_safecommands.proofs.lemmas.CommandLemmas.{bytes_given, given, move_of, over_of}
use Rattle.fc_safecommands.proofs.lemmas.JudgedLemmas.{IsListed, grown_listed}

same_one : (k n : ℕ) → is_one_of (k ∷ []) n ≡ true → k ≡ n
same_one k n e = by (k == n) refl e
  where
    by : (b : Bool) → (k == n) ≡ b → (b || false) ≡ true → k ≡ n
    by true f g = eqb-true k n f
    by false f g = absurd (cc)

module _ (m : Map) (h : Parts) (v : Opened) (view : IsViewOf m h v) where
  -- that of a number that is another's
  as_other : (k n : ℕ) → k ≡ n → IsListed h.nodes v.listings k → IsListed h.nodes v.listings n
  as_other k n same = subst (IsListed h.nodes v.listings) same

  -- a directory among the objects
  object_listed : (o : Object) (n : ℕ) → Contains (objects_of v.listings) o → is_directory_object o ≡ true → number_of h.nodes o.path ≡ Some n → IsListed h.nodes v.listings n
  object_listed o n at dir number =
      let r = from_map (λ (l : Listing). l.object) v.listings o
      (subst (λ (os : List Object). Contains os o) (directories_listed v.layout v.listings view.sound) (in_filter is_directory_object (objects_of v.listings) o at dir)) in
      record { listing = r.0; listed = r.1; number = ap (λ (p : Object). number_of h.nodes p.path) r.2 ∙ number }

  -- ---- around a directory

  within_listed : (g n : ℕ) → IsListed h.nodes v.listings g → is_one_of (directories_in h.nodes g) n ≡ true → IsListed h.nodes v.listings n
  within_listed g n x e =
      let r = found_of (is_kid m h v view x.listing x.listed g x.number n) x.listing.children (sym (kids_are m h v view x.listing x.listed g x.number n) ∙ e) in
      let kid = kid_named m h v view x.listing x.listed g x.number r.0 r.1 n r.2 in
      object_listed r.0 n (child_is_object v.layout v.listings view.sound x.listing r.0 x.listed r.1) kid.0 kid.1

  -- ---- what a job names

  module _ (c : Command) (name : List ℕ) (n : ℕ) where
    arrival_named : (dir : ℕ) (x : Arrival) → IsJob h.nodes v.listings c (job_of dir x) name → dir ≡ n → IsListed h.nodes v.listings n
    arrival_named dir x job_is same =
        let a = (of_job h.nodes v.listings c dir x name (bytes_given c) job_is (given c)).vacant in as_other dir n same (record { listing = a.listing; listed = a.listed; number = a.holder_is })

    named_listed : (job : Job) → (IsPlain job → ⊥) → IsJob h.nodes v.listings c job name → is_one_of (named_in job) n ≡ true → IsListed h.nodes v.listings n
    named_listed (jobs.File (slots.New dir) words) makes job_is e = arrival_named dir (Arrival.Saves words) job_is (same_one dir n e)
    named_listed (jobs.File (slots.Over t) words) makes job_is e =
        let x = (over_of h.nodes v.listings c t words name job_is).file.target in as_other t.holder n (same_one t.holder n e) (record { listing = x.listing; listed = x.listed; number = x.holder_is })
    named_listed (jobs.Directory dir) makes job_is e = arrival_named dir Arrival.Makes job_is (same_one dir n e)
    named_listed (jobs.Move r) makes job_is e =
        let x = (move_of h.nodes v.listings c r name job_is).known in
        elim (or_cases (r.holder == n) ((r.target.holder == n) || false) e) [
          | inl first ↦ as_other r.holder n (eqb-true r.holder n first) (record { listing = x.destination.listing; listed = x.destination.listed; number = x.destination.holder_is })
          | inr second ↦ as_other r.target.holder n (same_one r.target.holder n second) (record { listing = x.target.listing; listed = x.target.listed; number = x.target.holder_is })
        ]
    named_listed (jobs.Removal t) makes job_is e = absurd (makes tt)
    named_listed (jobs.Words t words) makes job_is e = absurd (makes tt)
    named_listed (jobs.Marks t attrs) makes job_is e = absurd (makes tt)

    renamed_listed : (job : Job) → IsJob h.nodes v.listings c job name → is_one_of (renamed_in h.nodes job) n ≡ true → IsListed h.nodes v.listings n
    renamed_listed (jobs.Move r) job_is e = by (is_directory_node h.nodes r.target.node) refl e
      where
        by : (b : Bool) → is_directory_node h.nodes r.target.node ≡ b → is_one_of (cond b (r.target.node ∷ []) []) n ≡ true → IsListed h.nodes v.listings n
        by true f g =
            let x = (move_of h.nodes v.listings c r name job_is).known.target in
            let from = (move_of h.nodes v.listings c r name job_is).from in
            as_other r.target.node n (same_one r.target.node n g)
            (object_listed x.object r.target.node (target_of.among v.layout h.nodes v.listings view.sound view.parts.nodes from r.target x)
            (sym (ap (λ (q : Option Node). option_map_or (λ (k : Node). is_directory k.entry.attrs) q false) (target_of.node_is v.layout h.nodes v.listings view.sound view.parts.nodes from r.target x)) ∙ f) x.node_is)
        by false f g = absurd (cc)
    renamed_listed (jobs.File slot words) job_is e = absurd (cc)
    renamed_listed (jobs.Directory dir) job_is e = absurd (cc)
    renamed_listed (jobs.Removal t) job_is e = absurd (cc)
    renamed_listed (jobs.Words t words) job_is e = absurd (cc)
    renamed_listed (jobs.Marks t attrs) job_is e = absurd (cc)

    -- ---- all that it changes

    module _ (job : Job) (w : Wants) (makes : IsPlain job → ⊥) (job_is : IsJob h.nodes v.listings c job name) (are : AreWants h job name w) where
      around_above : (grows : Option Growth) → w.grows ≡ grows → is_one_of (above_grown h.nodes grows) n ≡ true → IsListed h.nodes v.listings n
      around_above None e f = absurd (cc)
      around_above (Some g) e f =
          let x = grown_listed h v.listings c name w g e job job_is are in
          let top = above_listed m h v view x.listing x.listed g.node x.number n f in
          record { listing = top.0; listed = top.1; number = top.2 }

      around_within : (grows out : Option Growth) → w.grows ≡ grows → ((g : Growth) → out ≡ Some g → grows ≡ Some g) → is_one_of (within_moved h.nodes out) n ≡ true → IsListed h.nodes v.listings n
      around_within grows None e same f = absurd (cc)
      around_within grows (Some g) e same f = within_listed g.node n (grown_listed h v.listings c name w g (e ∙ same g refl) job job_is are) f

      out_is : (grows : Option Growth) (g : Growth) → moving_out m h grows ≡ Some g → grows ≡ Some g
      out_is None g e = absurd (cc)
      out_is (Some k) g e = by (has_room m h k || is_alone h k) e
        where
          by : (b : Bool) → (let o : Option Growth = cond b None (Some k) in o) ≡ Some g → (let o : Option Growth = Some k in o) ≡ Some g
          by true f = absurd (cc)
          by false f = f

      pub changed_listed : is_one_of (stir_of m h job w).changed n ≡ true → IsListed h.nodes v.listings n
      changed_listed e =
          let above = above_grown h.nodes w.grows in
          let within = within_moved h.nodes (moving_out m h w.grows) in
          elim (or_cases (is_one_of (named_in job) n) (is_one_of (renamed_in h.nodes job ++ (above ++ within)) n) (sym (any_append (λ (k : ℕ). k == n) (named_in job) (renamed_in h.nodes job ++ (above ++ within))) ∙ e)) [
            | inl named ↦ named_listed job makes job_is named
            | inr more ↦ elim (or_cases (is_one_of (renamed_in h.nodes job) n) (is_one_of (above ++ within) n) (sym (any_append (λ (k : ℕ). k == n) (renamed_in h.nodes job) (above ++ within)) ∙ more)) [
              | inl renamed ↦ renamed_listed job job_is renamed
              | inr rest ↦ elim (or_cases (is_one_of above n) (is_one_of within n) (sym (any_append (λ (k : ℕ). k == n) above within) ∙ rest)) [
                | inl top ↦ around_above w.grows refl top
                | inr inside ↦ around_within w.grows (moving_out m h w.grows) refl (out_is w.grows) inside
              ]
            ]
          ]
