-- What `compact` knows of a volume with an old map before it writes.
use Rattle.std.proofs.Common.{◌≡◌, ◌≤◌, ℕ, List, sym, ap, subst, ◌∙◌, Some, None, Option, refl}
use Rattle.std.specs.Prelude.{IsPermutation}
use Rattle.std.specs.FinMap.{get}
use Rattle.std.specs.List.Sorted.{IsNonDecreasingBy}
use Rattle.fc_record.specs.declared.Kind.{Kind}
use Rattle.fc_names.specs.declared.name.NameForm.{NameForm}
use Rattle.fc_names.specs.declared.name.NameForm.TheVariants.{Seven, Ten, Long}
use Rattle.fc_alloc.specs.declared.owner.Owner.{Owner}
use Rattle.fc_dirs.specs.Big.{BigDir}
use Rattle.fc_dirs.specs.Directory.{Directory}
use Rattle.fc_image.specs.declared.effects.Owned.{Owned}
use Rattle.fc_image.specs.Layout.{Layout, dir_form}
use Rattle.fc_image.specs.Objects.{listing_at}
use Rattle.fc_image.specs.Walk.{Listing}
use Rattle.fc_laws.specs.nodes.Edits.{Nodes}
use Rattle.fc_laws.specs.old.agree.Laws.{AgreeOn, parts_with}
use Rattle.fc_laws.proofs.lemmas.old.agree.BeforeLemmas.{sound}
use Rattle.fc_oldmap.specs.OldMap.{OldMapContent, IsOldMap}
use Rattle.fc_oldlaws.specs.moves.Laws.{ReadyLaw}
use Rattle.fc_oldlaws.specs.moves.Nodes.{AreReady, sliding_below}
use Rattle.fc_laws.proofs.lemmas.old.agree.FormLemmas.{not_long}
use Rattle.fc_tree.specs.declared.node.Body.{Body}
use Rattle.fc_tree.specs.declared.node.Body.TheVariants as bodies
use Rattle.fc_tree.specs.declared.node.Node.{Node}
use Rattle.fc_tree.specs.Agree.{Agree, HasForm}
use Rattle.fc_tree.specs.Nodes.{body_in, body_of}
use Rattle.fc_tree.proofs.FindLemmas.{object_of_number}
use Rattle.fc_tree.proofs.SoundLemmas.{listing_of}
use Rattle.fc_tree.proofs.WalkedLemmas.{same_some}
use Rattle.fc_volume.specs.OldCompacting.{IsNotBig}
use Rattle.fc_change.specs.OldSpace.{LieBehind}

-- ---- bodies

listed_big : (o : Option Listing) (dir : BigDir) → body_of o ≡ bodies.Big dir → (l : Listing) × (o ≡ Some l) × (l.content ≡ Directory.Big dir)
listed_big None dir e = absurd (cc)
listed_big (Some l) dir e = (l, refl, by l.content e)
  where
    by : (content : Directory) → body_in content ≡ bodies.Big dir → content ≡ Directory.Big dir
    by (Directory.Small d) f = absurd (cc)
    by (Directory.Big d) f = let g : d ≡ dir = cc in ap (λ (x : BigDir). Directory.Big x) g

long_form : (f : NameForm) (len : ℕ) (dir : BigDir) → HasForm f len (Directory.Big dir) → f ≡ Long
long_form Seven len dir h = absurd h
long_form Ten len dir h = absurd h
long_form Long len dir h = refl

never_big : (b : Body) → ((dir : BigDir) → b ≡ bodies.Big dir → ⊥) → IsNotBig b
never_big bodies.File never = tt
never_big (bodies.Small dir) never = tt
never_big (bodies.Big dir) never = never dir refl

-- ---- parts that agree

module _ (kind : Kind) (space : OldMapContent) (nodes : Nodes) (owners : List Owner) (agree : Agree kind (parts_with space nodes owners)) (is_map : IsOldMap space) (behind : LieBehind space) where
  agree_on : AgreeOn kind space nodes owners agree.root agree.listings
  agree_on = record { is_map = is_map; holes = behind; root_is = agree.root_is; walked = agree.walked; owned = agree.owned }

  -- no node is of a big directory
  pub all_small : (n : ℕ) (node : Node) → get nodes n ≡ Some node → IsNotBig node.body
  all_small n node there = never_big node.body (λ dir says.
      let are = sound kind space nodes owners agree.root agree.listings agree_on in
      let o = object_of_number (Layout.Old space) agree.listings nodes are agree.walked.held n node there in
      let h = agree.walked.held.each o.0 o.1 in
      let number : h.number ≡ n = same_some h.number n (sym h.at_path ∙ o.2) in
      let one = same_some node _ (sym there ∙ ap (get nodes) (sym number) ∙ h.is) in
      let l = listed_big (listing_at agree.listings o.0.path) dir (ap (λ (x : Node). x.body) (sym one) ∙ says) in
      let found = listing_of (Layout.Old space) agree.listings are o.0 l.0 o.1 l.1 in
      not_long space (long_form (dir_form (Layout.Old space)) l.0.object.entry.len dir
      (subst (HasForm (dir_form (Layout.Old space)) l.0.object.entry.len) l.2 (agree.walked.forms l.0 found.0))))

  -- the objects that slide are ready
  pub is_ready : ReadyLaw → (bound : ℕ) (owned : List Owned) → ((n : ℕ) → bound ≤ n → get nodes n ≡ None) → IsPermutation (sliding_below space nodes bound) owned
      → IsNonDecreasingBy (λ o. o.start) owned → AreReady space nodes owned
  is_ready law bound owned past all sorted = law kind space nodes owners agree.root agree.listings bound owned agree_on past all sorted
