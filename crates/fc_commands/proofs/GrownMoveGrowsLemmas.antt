-- `rename` by which a directory grows: the command makes it grow, and tells the directories around it as its edit does.
use Rattle.fc_change.specs.GrownSpace.{root_of}
use Rattle.fc_change.specs.Places.{plan_in}
use Rattle.fc_changes.proofs.BasicLemmas.{clash}
use Rattle.fc_bytes.specs.Checks.{is_big_size}
use Rattle.fc_commands.proofs.GrownAskedLemmas.{view_with}
use Rattle.fc_commands.proofs.GrownAskedLemmas as asked
use Rattle.fc_commands.proofs.GrownChangeLemmas.{taking_of}
use Rattle.fc_commands.proofs.GrownMapLemmas.{IsStepOf}
use Rattle.fc_commands.proofs.GrownMoveAskedLemmas.{grows_to}
use Rattle.fc_commands.proofs.GrownMoveMadeLemmas.{EditedRename, IsPlacedEdit, MadeEdit}
use Rattle.fc_commands.proofs.GrownMoveNodeLemmas.{growing_in}
use Rattle.fc_commands.proofs.GrownMoveSaidLemmas.{FirstSays, l, layout, listed}
use Rattle.fc_commands.proofs.GrownMoveWalkLemmas as walk
use Rattle.fc_commands.proofs.GrownMoveWantLemmas.{GrownRename, IsPlacedRename}
use Rattle.fc_commands.proofs.GrownMoveWantLemmas as want
use Rattle.fc_commands.proofs.GrownRootLemmas.{HasVersion, address_fits, can_root}
use Rattle.fc_commands.proofs.GrownSpaceLemmas as space_of
use Rattle.fc_dirs.specs.Directory.{Directory}
use Rattle.fc_drafts.specs.Draft.{IsSayable, directory_in}
use Rattle.fc_edits.specs.Growing.{Growing}
use Rattle.fc_edits.specs.GrownPlaces.{IsGrownAt}
use Rattle.fc_edits.specs.NewPlaces.{Taking}
use Rattle.fc_edits.specs.Placing.{takings_of}
use Rattle.fc_image.specs.Layout.{Layout, id_of}
use Rattle.fc_image.specs.Objects.{objects_of}
use Rattle.fc_image.specs.Sound.{AreSound}
use Rattle.fc_image.specs.Walk.{Listing, Object}
use Rattle.fc_image.specs.effects.Short.{Growth as Grown, growth_in}
use Rattle.fc_laws.proofs.lemmas.agree.SayLemmas.{as_directory as says_it}
use Rattle.fc_laws.proofs.lemmas.nodes.FitsLemmas.{kid_lower}
use Rattle.fc_laws.proofs.lemmas.nodes.MovingLemmas.{some_long as longer}
use Rattle.fc_laws.specs.nodes.Edits.{Nodes}
use Rattle.fc_model.specs.Command.{Command}
use Rattle.fc_names.specs.declared.name.NameForm.{NameForm}
use Rattle.fc_names.specs.declared.name.NameForm.TheVariants as forms
use Rattle.fc_newmap.specs.Map.{is_used}
use Rattle.fc_outcomes.specs.Growth.{Grows}
use Rattle.fc_plan.specs.Applied.{id_in, parts_in}
use Rattle.fc_tree.proofs.SoundLemmas.{root_or_child}
use Rattle.fc_tree.proofs.WalkedLemmas.{listed_directory, root_path, same_some}
use Rattle.fc_tree.specs.Agree.{HasForm, IsDirectory}
use Rattle.fc_tree.specs.Nodes.{HoldObjects, number_of}
use Rattle.fc_writing.specs.Steps.{CanRoot}
use Rattle.fc_writing.specs.declared.ready.RootPlace.{RootPlace}
use Rattle.std.proofs.Common.{Bool, List, None, Option, Some, [], ap, arith, cond, eq-eqb, false, length, refl, subst, sym, true, ℕ, ⊎_elim, ◌%◌, ◌/◌, ◌<◌, ◌==◌, ◌^◌, ◌∙◌, ◌≡◌, ◌≤◌}
use Rattle.std.proofs.lemmas.Bool.{and_parts, eqb-true, leb-true}
use Rattle.std.specs.Int.{is_in_range}
use Rattle.std.specs.Prelude.{Contains, IfSome, nat_le}

-- ---- small facts

pub big_length : (len : ℕ) (content : Directory) → HasForm forms.Long len content → IsDirectory content → is_big_size len ≡ true
big_length len (Directory.Big dir) has is = subst (λ (n : ℕ). is_big_size n ≡ true) has is.size
big_length len (Directory.Small dir) has is = absurd has

pub big_short : (n : ℕ) → is_big_size n ≡ true → n < 2 ^ 32
big_short n e =
    let range = and_parts (nat_le 2048 n) (nat_le n 4194304) (and_parts (is_in_range 2048 4194304 n) (n % 2048 == 0) e).0 in
    let high = leb-true n 4194304 range.1 in omega (arith, high)

-- node 0 is the root's
at_zero : (nodes : Nodes) (listings : List Listing) (layout : Layout) (sound : AreSound layout listings) (held : HoldObjects nodes listings) (d : Listing) → Contains listings d → number_of nodes d.object.path ≡ Some 0 → d.object.path ≡ []
at_zero nodes listings layout sound held d listed zero' =
    ⊎_elim (λ top. ap (λ (o : Object). o.path) (sym top) ∙ root_path layout listings sound) (λ kid. absurd (kid_lower layout listings nodes sound held kid.0 d.object 0 kid.1 kid.2 zero' refl))
    (root_or_child layout listings sound d.object (listed_directory layout listings sound d listed).0)

-- ---- by a walk

module _ (q : GrownRename) where
  pub growth_is : growth_in (view_with q.kind q.m q.listings) (Command.Rename q.from q.to) ≡ Some (q.seen.known.destination.listing.object, (want.grown q).0.directory.len)
  growth_is =
      (grows_to (view_with q.kind q.m q.listings) q.nodes q.seen.sound q.seen.held q.from q.to q.r q.seen.known q.name q.seen.name_is q.growth.len (want.room_is q)).growth
      ∙ ap (λ (n : ℕ). let x : Option Grown = Some ((l q).object, n) in x) (sym (walk.len_is q))

module _ (q : GrownRename) (pl : IsPlacedRename q) where
  pub used : is_used q.m (id_of q.seen.known.destination.listing.object.entry.address) ≡ true
  used = space_of.own_used q.m q.nodes q.owners q.listings (l q).object (walk.cut q).0 q.growth (plan_in pl.placing) pl.dir (want.grown q).0 (walk.to_grow q pl)

  -- ---- the root in the record

  abbrev as_root : RootPlace
  as_root = record { address = (want.grown q).0.directory.address; len = (want.grown q).0.directory.len }

  fits : (2 ≤ (want.grown q).0.directory.address / 256) × ((want.grown q).0.directory.address < 2 ^ 32)
  fits =
      address_fits q.m (want.grown q).0.directory.address q.agreed.is_map
      (space_of.address_id q.m q.nodes q.owners q.listings (l q).object (walk.cut q).0 q.growth (plan_in pl.placing) pl.dir (want.grown q).0 (walk.to_grow q pl))

  module _ (big : is_big_size (want.grown q).0.directory.len ≡ true) where
    -- A record with a version can have the root's new place.
    pub rooted : HasVersion q.m → IfSome (root_of (Some (want.grown q).0)) (CanRoot q.m)
    rooted version = by ((want.grown q).0.directory.node == 0)
      where
        by : (b : Bool) → IfSome (cond b (Some as_root) None) (CanRoot q.m)
        by true = can_root q.m as_root version fits.0 big
        by false = tt

    pub step_of : HasVersion q.m → (gr : Growing) → gr.o ≡ q.seen.known.destination.listing.object → gr.address ≡ (want.grown q).0.directory.address → gr.len ≡ (want.grown q).0.directory.len → IsStepOf q.m gr (root_of (Some (want.grown q).0))
    step_of version gr same address len = by ((want.grown q).0.directory.node == 0) refl
      where
        by : (b : Bool) → ((want.grown q).0.directory.node == 0) ≡ b → IsStepOf q.m gr (cond b (Some as_root) None)
        by true e = record {
          top = ap (λ (o : Object). o.path) same
              ∙ at_zero q.nodes q.listings (layout q) q.seen.sound q.seen.held (l q) (listed q) (walk.number q ∙ ap (λ (n : ℕ). let x : Option ℕ = Some n in x) (eqb-true (want.grown q).0.directory.node 0 e));
          address = address;
          len = len;
          low = fits.1;
          short = big_short (want.grown q).0.directory.len big;
          can = can_root q.m as_root version fits.0 big;
        }
        by false e =
            subst (λ (o : Object). 0 < length o.path) (sym same)
            (longer (l q).object.path (λ top. clash ((want.grown q).0.directory.node == 0) (eq-eqb (want.grown q).0.directory.node 0 (same_some (want.grown q).0.directory.node 0 (sym (walk.number q) ∙ ap (number_of q.nodes) top))) e))

-- It is a big one then.
pub big_now : (q : GrownRename) (content : Directory) → FirstSays q content → IsSayable content → is_big_size (want.grown q).0.directory.len ≡ true
big_now q content says sayable = big_length (want.grown q).0.directory.len content (subst (λ (f : NameForm). HasForm f (want.grown q).0.directory.len content) (walk.form q) says.form) (says_it content sayable)

pub big : (w : EditedRename) (md : MadeEdit w) → is_big_size (want.grown w.q).0.directory.len ≡ true
big w md = big_now w.q (directory_in md.said.draft) md.says_own md.ready.drafted.sayable

module _ (w : EditedRename) (pl : IsPlacedEdit w) (md : MadeEdit w) where
  abbrev q : GrownRename
  q = w.q

  abbrev first : List Taking
  first = takings_of (id_in (plan_in pl.placed.placing)) (parts_in (plan_in pl.placed.placing))

  pub lies_now : IsGrownAt w.q.m (objects_of w.q.listings) (takings_of (id_in (plan_in pl.placed.placing)) (parts_in (plan_in pl.placed.placing))) (growing_in w md) (taking_of pl.placed.dir)
  lies_now =
      (space_of.lies q.m q.nodes q.owners q.listings (l q).object (walk.cut q).0 q.growth (plan_in pl.placed.placing) pl.placed.dir (want.grown q).0 (walk.to_grow q pl.placed) md.again md.same md.holder md.others)

  pub its_grows : Grows (view_with w.q.kind w.q.m w.q.listings) (Command.Rename w.q.from w.q.to) (growing_in w md)
  its_grows =
      asked.grows q.kind q.m q.listings (l q) (want.grown q).0 (Command.Rename q.from q.to) (growth_is q) md.again md.same md.holder md.others first (taking_of pl.placed.dir) lies_now (used q pl.placed) q.nodes q.seen.sound q.seen.held (listed q)
      md.tops md.kids md.left md.cut md.told_by md.kept_by
