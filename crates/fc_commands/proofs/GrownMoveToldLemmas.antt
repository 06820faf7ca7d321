-- `rename` by which a directory grows: what its change tells, and whom. First the directory that grows, then those around it that are told
-- nothing else, then the object itself if it is a directory, and last the directory that loses it.
use Rattle.fc_change.specs.Directories.{Rewriting, TellAll, Tells, around, numbers}
use Rattle.fc_change.specs.Drafts.{IsChangeOf, address_in, grown_in, told}
use Rattle.fc_change.specs.declared.change.Change.{Change}
use Rattle.fc_change.specs.declared.change.Regrowth.{Regrowth}
use Rattle.fc_change.specs.declared.change.Says.{Says}
use Rattle.fc_change.specs.declared.change.Turned.TheVariants as turns
use Rattle.fc_change.specs.declared.job.Job.TheVariants as jobs
use Rattle.fc_change.specs.declared.spaces.GrownPlace.{GrownPlace}
use Rattle.fc_commands.proofs.GrownMoveWantLemmas.{GrownRename}
use Rattle.fc_commands.proofs.GrownMoveWantLemmas as want
use Rattle.fc_commands.proofs.MoveTellLemmas.{own_told}
use Rattle.fc_commands.proofs.TargetLemmas as target_of
use Rattle.fc_dirs.specs.declared.Entry.{Entry}
use Rattle.fc_drafts.specs.Entries.{renamed_entry}
use Rattle.fc_image.specs.Layout.{Layout}
use Rattle.fc_laws.specs.agree.Agreed.{parts_with}
use Rattle.fc_laws.specs.nodes.Edits.{Nodes}
use Rattle.fc_refusals.specs.declared.target.Renaming.{Renaming}
use Rattle.fc_tree.proofs.WalkedLemmas.{same_some}
use Rattle.fc_tree.specs.Nodes.{is_directory_node}
use Rattle.std.proofs.Common.{Bool, List, Option, Some, [], ap, cond, false, refl, subst, sym, true, ℕ, ◌++◌, ◌==◌, ◌∙◌, ◌∷◌, ◌≡◌}
use Rattle.std.specs.Option.{option_map, unwrap_or}

-- ---- lists of what is told

-- what is said by the first of them, and by the others
pub cut_told : (g : Option Regrowth) (nodes : Nodes) (xs ys : List (ℕ × Rewriting)) (ss : List Says) → TellAll g nodes (xs ++ ys) ss
    → (a : List Says) × (b : List Says) × (ss ≡ a ++ b) × TellAll g nodes xs a × TellAll g nodes ys b
cut_told g nodes [] ys ss tell = ([], ss, refl, tt, tell)
cut_told g nodes (x ∷ xs) ys [] tell = absurd tell
cut_told g nodes (x ∷ xs) ys (s ∷ ss) tell =
    let r = cut_told g nodes xs ys ss tell.1 in (s ∷ r.0, r.1, ap (λ (ts : List Says). s ∷ ts) r.2, (tell.0, r.3), r.4)

pub first_cut : (g : Option Regrowth) (nodes : Nodes) (x : ℕ × Rewriting) (xs : List (ℕ × Rewriting)) (ss : List Says) → TellAll g nodes (x ∷ xs) ss
    → (s : Says) × (rest : List Says) × (ss ≡ s ∷ rest) × Tells g nodes x.0 x.1 s × TellAll g nodes xs rest
first_cut g nodes x xs [] tell = absurd tell
first_cut g nodes x xs (s ∷ ss) tell = (s, ss, refl, tell.0, tell.1)

-- ---- by whether it stays in its directory

-- what the directory that grows is told
abbrev pub first_told : Bool → Renaming → Entry → Rewriting
first_told true r e = Rewriting.Renames r.target.at e
first_told false r e = Rewriting.Enters e

-- the directory that loses it, if that is another
abbrev pub home_told : Bool → Renaming → List (ℕ × Rewriting)
home_told true r = []
home_told false r = (r.target.holder, Rewriting.Leaves r.target.at) ∷ []

abbrev pub last_told : Nodes → Renaming → List ℕ → Bool → List (ℕ × Rewriting)
last_told nodes r name b = own_told (is_directory_node nodes r.target.node) r name ++ home_told b r

-- the nodes of all that are told anything but another address
abbrev pub all_numbers : Nodes → Renaming → List ℕ → Bool → List ℕ
all_numbers nodes r name b = r.holder ∷ numbers (last_told nodes r name b)

told_is : (nodes : Nodes) (r : Renaming) (name : List ℕ) (g : Regrowth) (e : Entry) (b : Bool) → (r.holder == r.target.holder) ≡ b
    → told nodes (jobs.Move r) name (Some g) e ≡ (r.holder, first_told b r e) ∷ (around (Some g) nodes (all_numbers nodes r name b) ++ last_told nodes r name b)
told_is nodes r name g e b is = ap all is ∙ by b
  where
    first_in : Bool → List (ℕ × Rewriting)
    first_in c = cond c ((r.holder, Rewriting.Renames r.target.at e) ∷ []) ((r.holder, Rewriting.Enters e) ∷ [])

    last_in : Bool → List (ℕ × Rewriting)
    last_in c = own_told (is_directory_node nodes r.target.node) r name ++ cond c [] ((r.target.holder, Rewriting.Leaves r.target.at) ∷ [])

    all : Bool → List (ℕ × Rewriting)
    all c = first_in c ++ (around (Some g) nodes (numbers (first_in c ++ last_in c)) ++ last_in c)

    by : (c : Bool) → all c ≡ (r.holder, first_told c r e) ∷ (around (Some g) nodes (all_numbers nodes r name c) ++ last_told nodes r name c)
    by true = refl
    by false = refl

-- ---- of a change

-- The change tells these, and the object has this entry then.
pub record IsToldGrown (q : GrownRename) (e : Entry) (b : Bool) (c : Change) : Type 0 where
  pub said : Says
  pub about : List Says
  pub own : List Says
  pub home : List Says
  pub says : c.says.items ≡ said ∷ (about ++ (own ++ home))
  pub tells : Tells (Some (want.grown q).0.directory) q.nodes q.r.holder (first_told b q.r e) said
  pub tell_about : TellAll (Some (want.grown q).0.directory) q.nodes (around (Some (want.grown q).0.directory) q.nodes (all_numbers q.nodes q.r q.name b)) about
  pub tell_own : TellAll (Some (want.grown q).0.directory) q.nodes (own_told (is_directory_node q.nodes q.r.target.node) q.r q.name) own
  pub tell_home : TellAll (Some (want.grown q).0.directory) q.nodes (home_told b q.r) home
  pub grown : c.grown ≡ Some (want.grown q).0.directory
  pub turned : c.object ≡ turns.Turns q.r.target.node q.r.holder e

-- its entry then: at the address of a copy, if there is one
abbrev pub entry_now : GrownRename → Entry
entry_now q = renamed_entry q.seen.known.target.object.entry q.name (unwrap_or (address_in q.spaces) q.seen.known.target.object.entry.address)

module _ (q : GrownRename) (b : Bool) (is_b : (q.r.holder == q.r.target.holder) ≡ b) (c : Change) (is : IsChangeOf (parts_with q.m q.nodes q.owners) (jobs.Move q.r) q.name q.spaces c) where
  abbrev g : Regrowth
  g = (want.grown q).0.directory

  g_is : grown_in q.spaces ≡ Some (want.grown q).0.directory
  g_is = ap (option_map (λ (x : GrownPlace). x.directory)) (want.grown q).1

  pub entry_is : is.entry ≡ entry_now q
  entry_is =
      is.made.2
      ∙ ap (λ (e : Entry). renamed_entry e q.name (unwrap_or (address_in q.spaces) e.address))
      (same_some is.made.0 q.seen.known.target.object.entry
      (sym is.made.1 ∙ target_of.entry (Layout.New q.m) q.nodes q.listings q.seen.sound q.seen.held q.from q.r.target q.seen.known.target))

  tells : TellAll (Some g) q.nodes ((q.r.holder, first_told b q.r (entry_now q)) ∷ (around (Some g) q.nodes (all_numbers q.nodes q.r q.name b) ++ last_told q.nodes q.r q.name b)) c.says.items
  tells =
      subst (λ (qs : List (ℕ × Rewriting)). TellAll (Some g) q.nodes qs c.says.items) (told_is q.nodes q.r q.name g (entry_now q) b is_b)
      (subst (λ (e : Entry). TellAll (Some g) q.nodes (told q.nodes (jobs.Move q.r) q.name (Some g) e) c.says.items) entry_is
      (subst (λ (x : Option Regrowth). TellAll x q.nodes (told q.nodes (jobs.Move q.r) q.name x is.entry) c.says.items) g_is is.tells))

  pub told_grown : IsToldGrown q (entry_now q) b c
  told_grown =
      let first = first_cut (Some g) q.nodes (q.r.holder, first_told b q.r (entry_now q)) (around (Some g) q.nodes (all_numbers q.nodes q.r q.name b) ++ last_told q.nodes q.r q.name b) c.says.items tells in
      let two = cut_told (Some g) q.nodes (around (Some g) q.nodes (all_numbers q.nodes q.r q.name b)) (last_told q.nodes q.r q.name b) first.1 first.4 in
      let three = cut_told (Some g) q.nodes (own_told (is_directory_node q.nodes q.r.target.node) q.r q.name) (home_told b q.r) two.1 two.4 in
      record {
        said = first.0;
        about = two.0;
        own = three.0;
        home = three.1;
        says = first.2 ∙ ap (λ (ts : List Says). first.0 ∷ ts) (two.2 ∙ ap (λ (ts : List Says). two.0 ++ ts) three.2);
        tells = first.3;
        tell_about = two.3;
        tell_own = three.3;
        tell_home = three.4;
        grown = is.grown ∙ g_is;
        turned = is.object ∙ ap (turns.Turns q.r.target.node q.r.holder) entry_is;
      }
