-- The owner that a copied file is: another identifier's then, and another directory's.
use Rattle.std.proofs.Common.{◌≡◌, ℕ, cond, List, [], ◌∷◌, length, refl, sym, ap, subst, ◌∙◌, Option, Some, None}
use Rattle.std.specs.Prelude.{nat_lt}
use Rattle.fc_names.specs.Names.{Path}
use Rattle.fc_alloc.specs.declared.owner.Owner.{Owner}
use Rattle.fc_newmap.specs.Map.{Map}
use Rattle.fc_image.specs.Edits.{IsAt}
use Rattle.fc_image.specs.Layout.{Layout}
use Rattle.fc_image.specs.Objects.{has_sectors, objects_of}
use Rattle.fc_image.specs.Walk.{Listing, Object}
use Rattle.fc_tree.specs.Parts.{AreOwners}
use Rattle.fc_laws.specs.nodes.Edits.{Nodes, OwnersEdited, owner_with, owners_with}
use Rattle.fc_refusals.specs.declared.target.Renaming.{Renaming}
use Rattle.fc_change.specs.declared.change.Change.{Change}
use Rattle.fc_change.specs.declared.change.Regrowth.{Regrowth}
use Rattle.fc_change.specs.declared.change.Turned.{Turned}
use Rattle.fc_change.specs.declared.change.Turned.TheVariants as turns
use Rattle.fc_change.specs.After.{AreOwnersAfter, CanTurnOwner, IsRegrownOwner, IsTurnedOwner, owners_admitted}
use Rattle.fc_change.specs.Owned.{IsOwnerNow, owner_if}
use Rattle.fc_commands.proofs.ArrivalPartsLemmas.{owner_if_is}
use Rattle.fc_commands.proofs.MoveLemmas.{IsSeen, o}
use Rattle.fc_commands.proofs.MoveOwnerLemmas.{changed, has, has_place, no_room}
use Rattle.fc_commands.proofs.NewArrivalLemmas.{new_alike}

module _ (m m' : Map) (same : m'.geometry ≡ m.geometry) (nodes : Nodes) (listings : List Listing) (from to : Path) (r : Renaming) (name : List ℕ) (x : IsSeen (Layout.New m) nodes listings from to r name) (owners : List Owner)
    (owned : AreOwners owners nodes (Layout.New m) (objects_of listings)) where
  abbrev it : Object
  it = o (Layout.New m) nodes listings from to r name x

  module _ (copy : Object) (lies : IsAt (Layout.New m') copy) (long : length copy.sectors ≡ length (o (Layout.New m) nodes listings from to r name x).sectors) where
    abbrev new : Owner
    new = owner_with (Layout.New m') r.holder r.target.node copy

    abbrev change : Turned
    change = turns.Turns r.target.node r.holder copy.entry

    by_length : cond (has_sectors copy) (Some new) None ≡ cond (has_sectors it) (Some new) None
    by_length = ap (λ (n : ℕ). let w : Option Owner = cond (nat_lt 0 n) (Some new) None in w) long

    -- what the change makes it, by either map
    first_is : owner_if (Layout.New m) r.target.node r.holder copy.entry ≡ cond (has_sectors it) (Some new) None
    first_is = owner_if_is (Layout.New m) (Layout.New m') (new_alike m m' same) r.target.node r.holder copy lies ∙ by_length

    pub last_is : owner_if (Layout.New m') r.target.node r.holder copy.entry ≡ cond (has_sectors (o (Layout.New m) nodes listings from to r name x)) (Some (owner_with (Layout.New m') r.holder r.target.node copy)) None
    last_is = owner_if_is (Layout.New m') (Layout.New m') (new_alike m' m' refl) r.target.node r.holder copy lies ∙ by_length

    -- It needs no memory,
    pub admitted : (number : ℕ) → owners_admitted (Layout.New m) (turns.Turns r.target.node r.holder copy.entry) number owners ≡ owners
    admitted number = no_room r.target.node new (has_sectors it) owners refl (has (Layout.New m) nodes listings from to r name x owners owned) (owner_if (Layout.New m) r.target.node r.holder copy.entry) first_is

    pub can_turn : CanTurnOwner (Layout.New m') owners (turns.Turns r.target.node r.holder copy.entry)
    can_turn = has_place r.target.node new (has_sectors it) owners refl (has (Layout.New m) nodes listings from to r name x owners owned) (owner_if (Layout.New m') r.target.node r.holder copy.entry) last_is

    -- and takes the place of the one before.
    pub edited : (c : Change) (owners' : List Owner) → c.grown ≡ None → c.object ≡ turns.Turns r.target.node r.holder copy.entry → (number : ℕ)
        → AreOwnersAfter (Layout.New m') nodes c (owners_admitted (Layout.New m) c.object number owners) owners'
        → OwnersEdited owners owners' (owners_with (Layout.New m) r.target.holder r.target.node (o (Layout.New m) nodes listings from to r name x)) (owners_with (Layout.New m') r.holder r.target.node copy)
    edited c owners' none turned number run =
        let room : owners_admitted (Layout.New m) c.object number owners ≡ owners = ap (λ (y : Turned). owners_admitted (Layout.New m) y number owners) turned ∙ admitted number in
        let after = subst (λ (os : List Owner). AreOwnersAfter (Layout.New m') nodes c os owners') room run in
        let middle : after.middle ≡ owners = subst (λ (g : Option Regrowth). IsRegrownOwner (Layout.New m') nodes g owners after.middle) none after.grown in
        let now = subst (λ (os : List Owner). IsOwnerNow r.target.node (owner_if (Layout.New m') r.target.node r.holder copy.entry) os owners') middle
        (subst (λ (y : Turned). IsTurnedOwner (Layout.New m') y after.middle owners') turned after.object) in
        subst (λ (n : ℕ). OwnersEdited owners owners' (owners_with (Layout.New m) r.target.holder r.target.node it) (let ws : List Owner = cond (nat_lt 0 n) (new ∷ []) [] in ws)) (sym long)
        (changed (Layout.New m) nodes listings from to r name x owners owned new refl owners' (has_sectors it) refl
        (subst (λ (y : Option Owner). IsOwnerNow r.target.node y owners owners') last_is now))
