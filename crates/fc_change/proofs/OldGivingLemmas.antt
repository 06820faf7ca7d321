-- Space that goes back on an old map, and both steps of it.
use Rattle.std.proofs.Common.{◌≡◌, ◌<◌, ◌≤◌, ℕ, false, List, length, Option, Some, None, refl, sym, subst, ◌∙◌}
use Rattle.std.specs.Prelude.{IsSome, nat_lt}
use Rattle.std.specs.Option.{option_map}
use Rattle.std.specs.FinMap.{get}
use Rattle.std.proofs.lemmas.Bool.{le-ltb}
use Rattle.fc_dirs.specs.declared.Entry.{Entry}
use Rattle.fc_laws.specs.nodes.Edits.{Nodes}
use Rattle.fc_changes.specs.old.Owed.{holding}
use Rattle.fc_laws.specs.old.agree.Spaces.{CanGive}
use Rattle.fc_oldmap.specs.declared.Hole.{Hole}
use Rattle.fc_oldmap.specs.Holes.{hole_limit}
use Rattle.fc_oldmap.specs.OldMap.{OldMapContent, IsOldMap}
use Rattle.fc_tree.proofs.WalkedLemmas.{same_some}
use Rattle.fc_tree.specs.Parts.{Parts}
use Rattle.fc_tree.specs.declared.node.Node.{Node}
use Rattle.fc_writing.specs.declared.ready.MapStep.{MapStep}
use Rattle.fc_change.specs.declared.job.Wants.{Wants}
use Rattle.fc_change.specs.declared.placing.old.Taken.{Taken}
use Rattle.fc_change.specs.OldSpace.{CanFreeFrom, IsMapNow, map_after, map_given, map_taken, space_at, units_given, units_of}
use Rattle.fc_change.specs.Places.{ArePlacedOld, IsStepTo, IsTakenFor}
use Rattle.fc_change.proofs.OldTakingLemmas.{after_is}

pub is_there : {X Y : Type 0} (f : X → Y) (o : Option X) (y : Y) → option_map f o ≡ Some y → IsSome o
is_there f None y e = absurd (cc)
is_there f (Some x) y e = refl

given_in : (disc : OldMapContent) (holes : List Hole) (e : Entry) → CanGive disc holes (space_at disc e) → CanGive (holding disc holes) holes (space_at (holding disc holes) e)
given_in disc holes e can = record { positive = can.positive; inside = can.inside; begins = can.begins; ends = can.ends; apart = can.apart }

-- What a node's object has can go back to a map of the same disc.
pub free_in : (disc now : OldMapContent) (nodes : Nodes) (n : ℕ) (x : Node) → now ≡ holding disc now.holes → CanFreeFrom disc now nodes n → get nodes n ≡ Some x → 0 < units_of now x.entry
    → CanGive now now.holes (space_at now x.entry)
free_in disc now nodes n x same_disc can there some =
    let same : can.node ≡ x = same_some can.node x (sym can.there ∙ there) in
    let has : 0 < units_of disc x.entry = subst (λ (m : OldMapContent). 0 < units_of m x.entry) same_disc some in
    let free : CanGive disc now.holes (space_at disc x.entry) =
    subst (λ (y : Node). CanGive disc now.holes (space_at disc y.entry)) same (can.free (subst (λ (y : Node). 0 < units_of disc y.entry) (sym same) has)) in
    subst (λ (m : OldMapContent). CanGive m now.holes (space_at m x.entry)) (sym same_disc) (given_in disc now.holes x.entry free)

-- The map with the space given back, from the one without the space that was taken.
pub given_from : (space : OldMapContent) (nodes : Nodes) (w : Wants) (t : Taken) (given : Option OldMapContent) → IsTakenFor space w t
    → IsMapNow (map_after space t.map) (map_given space nodes w.goes (map_after space t.map)) given → IsMapNow (map_taken space w.bytes) (map_given space nodes w.goes (map_taken space w.bytes)) given
given_from space nodes w t given is now = subst (λ (m : OldMapContent). IsMapNow m (map_given space nodes w.goes m) given) (after_is space w t is) now

-- It has no more holes than a map can have.
taken_few : (space : OldMapContent) (w : Wants) (o : Option OldMapContent) → IsOldMap space → IsMapNow space (map_taken space w.bytes) o → length (map_taken space w.bytes).holes ≤ hole_limit
taken_few space w None is now = subst (λ (m : OldMapContent). length m.holes ≤ hole_limit) (sym now) is.few
taken_few space w (Some m) is now = now.1

given_few : (was now : OldMapContent) (o : Option OldMapContent) → length was.holes ≤ hole_limit → IsMapNow was now o → length now.holes ≤ hole_limit
given_few was now None few is = subst (λ (m : OldMapContent). length m.holes ≤ hole_limit) (sym is) few
given_few was now (Some m) few is = is.1

pub never_full : (space : OldMapContent) (h : Parts) (w : Wants) (t : Taken) (given : Option OldMapContent) → IsOldMap space → IsTakenFor space w t
    → IsMapNow (map_after space t.map) (map_given space h.nodes w.goes (map_after space t.map)) given → nat_lt hole_limit (length (map_given space h.nodes w.goes (map_taken space w.bytes)).holes) ≡ false
never_full space h w t given is taken now =
    le-ltb hole_limit (length (map_given space h.nodes w.goes (map_taken space w.bytes)).holes)
    (given_few (map_taken space w.bytes) (map_given space h.nodes w.goes (map_taken space w.bytes)) given (taken_few space w t.map is taken.map) (given_from space h.nodes w t given taken now))

-- Both steps are those of the wants.
pub placed_old : (space : OldMapContent) (h : Parts) (w : Wants) (t : Taken) (given : Option OldMapContent) (take give : MapStep) → IsTakenFor space w t
    → IsMapNow (map_after space t.map) (map_given space h.nodes w.goes (map_after space t.map)) given → (units_given space h.nodes w.goes ≡ 0 → given ≡ None)
    → IsStepTo t.map take → IsStepTo given give → ArePlacedOld space h w (record { object = t.place; copied = None; grown = None; take = take; give = give })
placed_old space h w t given take give taken now none first last = record {
  object = taken.place;
  copied = refl;
  grown = refl;
  take = first.leads space (map_taken space w.bytes) taken.map;
  give = last.leads (map_taken space w.bytes) (map_given space h.nodes w.goes (map_taken space w.bytes)) (given_from space h.nodes w t given taken now);
  takes_none = λ empty. first.none (taken.none empty);
  gives_none = λ stays. last.none (none stays);
}
