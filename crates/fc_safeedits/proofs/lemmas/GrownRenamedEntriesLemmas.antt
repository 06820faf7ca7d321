-- The entries that `rename` leaves each directory, if the one that it joins grows and identifiers move.
use Rattle.std.proofs.Common.{◌≡◌, ⊎_elim, false, true, List, ◌∷◌, ◌++◌, map, sym, ap, subst, ◌∙◌, None, Option, Some}
use Rattle.std.specs.Prelude.{Contains, IsPermutation}
use Rattle.fc_names.specs.Names.{Path, is_same_path}
use Rattle.fc_record.specs.declared.Kind.{Kind}
use Rattle.fc_model.specs.Command.{Command}
use Rattle.fc_model.specs.Tree.{holder}
use Rattle.fc_dirs.specs.Directory.{entries_of}
use Rattle.fc_image.specs.Layout.{Layout}
use Rattle.fc_image.specs.Walk.{Listing, Object}
use Rattle.fc_image.specs.Objects.{object_at}
use Rattle.fc_image.specs.Opening.{Opened}
use Rattle.fc_image.specs.effects.Short.{growth_in}
use Rattle.fc_image.specs.effects.Steady.{edited, entries_after, named_entry, regrown_entry}
use Rattle.fc_image.proofs.EntriesLemmas.{later as contains_later, cases as contains_cases}
use Rattle.fc_tree.proofs.MemberLemmas.{contains_here}
use Rattle.fc_laws.specs.agree.Agreed.{CanSay}
use Rattle.fc_laws.proofs.lemmas.nodes.OtherLemmas.{unlike}
use Rattle.fc_edits.specs.Edit.{Amended}
use Rattle.fc_edits.specs.Growing.{EditGrowing, Growing, Holder, Holds, IsHeldBy, amended_by, amended_first, at_place, grown_by, holding, regrown, told, with_growth}
use Rattle.fc_edits.specs.NewNodes.{nodes_after}
use Rattle.fc_edits.specs.NodesEdit.{NodesEdit}
use Rattle.fc_edits.proofs.lemmas.AroundLemmas as ar
use Rattle.fc_edits.proofs.lemmas.GrowingLawLemmas as law
use Rattle.fc_edits.proofs.lemmas.GrowingLemmas as growing
use Rattle.fc_edits.proofs.lemmas.GrownHolderLemmas.{not_by_other}
use Rattle.fc_edits.proofs.lemmas.NumberLemmas as n_
use Rattle.fc_edits.proofs.lemmas.ShapeLemmas.{not_own}
use Rattle.fc_outcomes.proofs.lemmas.GrownEntriesLemmas.{First, edited_regrown}
use Rattle.fc_outcomes.proofs.lemmas.GrownSteadyLemmas.{nodes_with}
use Rattle.fc_outcomes.proofs.lemmas.RenamePathLemmas.{other_of}
use Rattle.fc_safeedits.proofs.lemmas.GrownHoldersLemmas as hs_

-- the grown directory is `now`, with its new entry
module _ (x : EditGrowing) (kind : Kind) (layout' : Layout) (found : List Listing) (from to : Path)
    (growth : growth_in (record { kind = kind; layout = x.layout; listings = x.listings }) (Command.Rename from to) ≡ Some (x.growing.o, x.growing.len)) (now : Object)
    (there : object_at found x.growing.o.path ≡ Some now) (path : now.path ≡ x.growing.o.path) (entry : now.entry ≡ (at_place x.growing x.growing.o).entry)
    (into_it : is_same_path (holder to) x.growing.o.path ≡ true)
    (first_entries : (b : Amended) → First x b
    → entries_of b.content ≡ edited (Command.Rename from to) b.was.object.path (named_entry (record { kind = kind; layout = layout'; listings = found }) (Command.Rename from to)) (entries_of b.was.content)) where
  abbrev c : Command
  c = Command.Rename from to

  abbrev v : Opened
  v = record { kind = kind; layout = x.layout; listings = x.listings }

  abbrev w : Opened
  w = record { kind = kind; layout = layout'; listings = found }

  abbrev g : Growing
  g = x.growing

  abbrev anew : Object
  anew = at_place x.growing x.growing.o

  abbrev ne : NodesEdit
  ne = nodes_with x (nodes_after (with_growth x) x.nodes) (law.are_edited x)

  other_entries : (a : Amended) → Contains (with_growth x).amended a → Contains g.others a → First x a → entries_of a.content ≡ entries_after v w c a.was
  other_entries a at other first =
      first_entries a first
      ∙ sym (hs_.after_elsewhere x kind layout' found c growth now there path entry a.was (n_.stay_in ne a.was (n_.was_in ne a at)) (λ p kid. not_by_other x a other p kid))

  -- The one that holds the directory gets nothing: it isn't the directory itself.
  holder_entries : (hd : Holder) (cut : IsPermutation (x.edit.amended ++ map (told x.edit) g.again) (hd.amended ∷ g.others)) (hs : Holds g hd)
      → ((a : Amended) → Contains (grown_by x.edit g (Some hd)).amended a → CanSay x.layout (regrown x.edit g a.was.object) a.content) → First x hd.amended
      → entries_of hd.content ≡ entries_after v w c hd.amended.was
  holder_entries hd cut hs says first =
      let k : Listing = hd.amended.was in
      let k_is = ((growing.is2 x hd cut hs says).amends hd.amended (contains_here hd.amended g.others)).number_is in
      let other : is_same_path g.o.path k.object.path ≡ false =
      unlike x.nodes g.o.path k.object.path g.dir hd.amended.number x.grows.dir_is k_is
      (λ same. not_own x.nodes x.layout x.listings k g.o hd.amended.number g.dir x.held (growing.k_in x hd cut hs says) (growing.o_held x hd cut hs says) k_is x.grows.dir_is (sym same)) in
      hs.entries ∙ ap (map (regrown_entry k.object.path (Some anew))) (first_entries hd.amended first)
      ∙ edited_regrown from to k.object.path (named_entry w c) anew (entries_of k.content) (other_of (holder to) g.o.path k.object.path into_it other)
      ∙ sym (hs_.after_is x kind layout' found c growth now there path entry k)

  pub grown_entries : (a : Amended) → Contains (with_growth x).amended a → entries_of a.content ≡ entries_after v w c a.was
  grown_entries a at = by g.holder x.grows.amended_is x.grows.held x.grows.says at
    where
      by : (q : Option Holder) → IsPermutation (x.edit.amended ++ map (told x.edit) g.again) (amended_first q g.others) → IsHeldBy g q
          → ((b : Amended) → Contains (grown_by x.edit g q).amended b → CanSay x.layout (regrown x.edit g b.was.object) b.content) → Contains (amended_by x.edit g q) a
          → entries_of a.content ≡ entries_after v w c a.was
      by None cut at_top says in_it = other_entries a at in_it (ar.amended_cases x None cut a in_it)
      by (Some hd) cut hs says in_it =
          ⊎_elim
          (λ same.
          subst (λ (b : Amended). entries_of b.content ≡ entries_after v w c b.was) same
          (holder_entries hd cut hs says (ar.amended_cases x (Some hd) cut hd.amended (contains_here hd.amended g.others))))
          (λ later. other_entries a at later (ar.amended_cases x (Some hd) cut a (contains_later hd.amended a g.others later)))
          (contains_cases (holding x.edit g hd) a g.others in_it)
