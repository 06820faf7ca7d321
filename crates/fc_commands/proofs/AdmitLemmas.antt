-- Holdings that have the memory for a change, and what they become.
use Rattle.std.proofs.Common.{◌≡◌, ◌≤◌, ◌+◌, ℕ, List, refl, sym, ap, subst, ◌∙◌, arith, None}
use Rattle.std.specs.Prelude.{Option}
use Rattle.std.specs.FinMap.{get}
use Rattle.std.specs.Option.{ForSome}
use Rattle.fc_alloc.specs.declared.owner.Owner.{Owner}
use Rattle.fc_device.specs.declared.disk.Disk.{Ghosts}
use Rattle.fc_image.specs.Layout.{Layout}
use Rattle.fc_laws.specs.nodes.Edits.{Nodes}
use Rattle.fc_space.specs.declared.space.Space.{Space}
use Rattle.fc_space.specs.Space.{PlacesSuffice, layout_of}
use Rattle.fc_tree.specs.Nodes.{Numbers, next_number, nodes_of}
use Rattle.fc_tree.proofs.ChangeLemmas.{slot_vacant}
use Rattle.fc_tree.proofs.SlotLemmas.{get-nodes_of}
use Rattle.fc_writing.specs.declared.copies.Copies.{Copies}
use Rattle.fc_change.specs.declared.change.Change.{Change}
use Rattle.fc_change.specs.declared.job.Job.{Job}
use Rattle.fc_change.specs.After.{AreOwnersAfter, CanTakeOver, nodes_after, nodes_more, owners_admitted}
use Rattle.fc_holdings.specs.declared.holdings.Holdings.{Holdings}
use Rattle.fc_commands.specs.declared.stages.Prepared.{Prepared}
use Rattle.fc_holdings.specs.Holdings.{CopiesAre, Stands, parts_of}
use Rattle.fc_commands.specs.Jobs.{HasLaws, IsJudged}
use Rattle.fc_commands.specs.Laws.{CourseLaw, JobLaws}
use Rattle.fc_commands.specs.Run.{IsMapIn, IsRun}
use Rattle.fc_commands.specs.Stages.{IsAdmitted}
use Rattle.fc_commands.specs.Written.{IsGivenOn}
use Rattle.fc_commands.proofs.ChangeLemmas.{map_of}

-- the laws of a job of holdings that stand for a disk
pub laws_for : {D : Type 0} (d : Ghosts D) (was : Holdings) (old : D) → CourseLaw → (stands : Stands d was old) → IsMapIn (layout_of was.places) → PlacesSuffice (layout_of was.places) → (job : Job) (name bytes : List ℕ)
    → HasLaws (parts_of was) job name → IsJudged (parts_of was) job name bytes → JobLaws stands.agree.0 (parts_of was) job name bytes
laws_for d was old law stands is suffice job name bytes has judged =
    law (parts_of was) job name bytes stands.agree.0 has (map_of (layout_of was.places) (d.sectors old) is stands.map_room) stands.version suffice stands.agree.1 judged

-- room for more nodes is no other node
same_nodes : (tree : Numbers) (room : ℕ) → nodes_of (record tree { room = room }) ≡ nodes_of tree
unfolding nodes_of
same_nodes tree room = refl

module _ (was mid : Holdings) (c : Change) (is : IsAdmitted was mid c) where
  pub nodes_stay : nodes_of mid.tree ≡ nodes_of was.tree
  nodes_stay = ap nodes_of is.tree ∙ same_nodes was.tree (was.tree.room + nodes_more c.object)

  number_stays : next_number mid.tree ≡ next_number was.tree
  number_stays = ap next_number is.tree

  pub layout_stays : layout_of mid.places ≡ layout_of was.places
  layout_stays = ap layout_of is.places

  -- there is room for the nodes that come
  pub room_made : nodes_more c.object ≤ mid.tree.room
  room_made = let room = ap (λ (t : Numbers). t.room) is.tree in omega (arith, room)

  -- what a change needs of the disk, and is known of it
  pub still_known : (told : Option (List ℕ)) → ForSome told (CopiesAre was.copies (layout_of was.places)) → ForSome told (CopiesAre mid.copies (layout_of mid.places))
  still_known told known =
      subst (λ (k : Copies). ForSome told (CopiesAre k (layout_of mid.places))) (sym is.copies) (subst (λ (s : Space). ForSome told (CopiesAre was.copies (layout_of s))) (sym is.places) known)

  pub can_take_over : (layout : Layout) (room : ℕ) → CanTakeOver layout (nodes_of was.tree) (owners_admitted (layout_of was.places) c.object (next_number was.tree) was.owners) room c
      → CanTakeOver layout (nodes_of mid.tree) mid.owners room c
  can_take_over layout room can =
      subst (λ (ns : Nodes). CanTakeOver layout ns mid.owners room c) (sym nodes_stay) (subst (λ (os : List Owner). CanTakeOver layout (nodes_of was.tree) os room c) (sym is.owners) can)

-- no node has the next number
number_free : (t : Numbers) → get (nodes_of t) (next_number t) ≡ None
number_free t = get-nodes_of t (next_number t) ∙ slot_vacant t.slots

-- What was taken over is the change.
pub run_is : (was mid now : Holdings) (p : Prepared) → IsAdmitted was mid p.change → IsGivenOn (layout_of mid.places) p.ready (layout_of now.places)
    → nodes_of now.tree ≡ nodes_after p.change (next_number mid.tree) (nodes_of mid.tree) → AreOwnersAfter (layout_of now.places) (nodes_of mid.tree) p.change mid.owners now.owners
    → IsRun (parts_of was) (parts_of now) p (next_number was.tree)
run_is was mid now p is given nodes owners = record {
  given = subst (λ (l : Layout). IsGivenOn l p.ready (layout_of now.places)) (layout_stays was mid p.change is) given;
  free = number_free was.tree;
  nodes = nodes ∙ (λ i. nodes_after p.change (number_stays was mid p.change is i) (nodes_stay was mid p.change is i));
  owners = subst (λ (os : List Owner). AreOwnersAfter (layout_of now.places) (nodes_of was.tree) p.change os now.owners) is.owners
      (subst (λ (ns : Nodes). AreOwnersAfter (layout_of now.places) ns p.change mid.owners now.owners) (nodes_stay was mid p.change is) owners);
}
