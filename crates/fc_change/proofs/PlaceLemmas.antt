-- The sectors of an object that is placed on a new map, and its plan.
use Rattle.std.proofs.Common.{◌≡◌, ◌<◌, ◌+◌, ◌*◌, ◌^◌, ◌==◌, ◌&&◌, cond, Bool, true, false, ℕ, List, [], Option, Some, None, refl, sym, ap, subst, ◌∙◌, arith}
use Rattle.std.specs.Prelude.{AllPairs, IfSome, is_some, IsSome, nat_eq}
use Rattle.std.specs.Option.{option_and_then, option_map, option_map_or}
use Rattle.std.specs.List.{find, flat_map}
use Rattle.fc_alloc.specs.declared.owner.Owner.{Owner}
use Rattle.fc_changes.proofs.PlacedLemmas.{found_in}
use Rattle.fc_image.specs.Layout.{Layout, is_apart, new_sectors, sectors_at}
use Rattle.fc_image.specs.effects.Placed.{BeginsBefore}
use Rattle.fc_image.specs.effects.Sharing.{Holding, holdings_in, is_shareable, is_spare, shares, slack_among}
use Rattle.fc_newmap.specs.Map.{Map}
use Rattle.fc_newmap.specs.NewMap.{IsNewMap}
use Rattle.fc_plan.specs.declared.plan.Plan.{Plan}
use Rattle.fc_plan.specs.Parts.{fronts}
use Rattle.fc_placing.specs.declared.placing.Placing.{Placing}
use Rattle.fc_placing.specs.declared.placing.Placing.TheVariants.{Nowhere, Shared, New}
use Rattle.fc_placing.specs.Places.{IsOwnPlan, id_in, slack_left}
use Rattle.fc_placing.proofs.AddressLemmas.{plan_id, share_id}
use Rattle.fc_placing.specs.declared.share.Share.{Share}
use Rattle.fc_placing.specs.Slack.{holdings, place_in}
use Rattle.fc_change.specs.declared.job.Wants.{Wants}
use Rattle.fc_change.specs.Places.{HasSectorsAt, IsPlacingFor, address_for, placing_of, plan_in}
use Rattle.fc_change.specs.Planning.{IsObjectPlan}
use Rattle.fc_change.specs.Shortage.{bytes_left, slack_for}

some_of : (test : List ℕ → Bool) (o : Option (List ℕ)) → option_map_or test o false ≡ true → is_some o ≡ true
some_of test (Some xs) e = refl
some_of test None e = absurd (cc)

-- A share has room.
share_placed : (m : Map) (owners : List Owner) (dir bytes : ℕ) (share : ℕ × ℕ) → slack_left m owners dir bytes ≡ Some share → is_some (sectors_at (Layout.New m) (256 * share.0 + share.1) bytes) ≡ true
unfolding slack_among sectors_at
share_placed m owners dir bytes share h = by (bytes == 0) h
  where
    first : ℕ × ℕ → Bool
    first s = is_shareable nat_eq dir (holdings_in (holdings m owners) s.0)

    spare : ℕ × ℕ → Bool
    spare s = is_spare m (holdings_in (holdings m owners) s.0) s.0 s.1 bytes

    second : (a b : Bool) → (a && b) ≡ true → b ≡ true
    second true b e = e
    second false b e = absurd (cc)

    by : (b : Bool) → cond b None (find (λ s. is_shareable nat_eq dir (holdings_in (holdings m owners) s.0) && is_spare m (holdings_in (holdings m owners) s.0) s.0 s.1 bytes) (shares m)) ≡ Some share
        → is_some (cond b (Some []) (new_sectors m (256 * share.0 + share.1) bytes)) ≡ true
    by true g = refl
    by false g =
        let f = found_in (λ s. first s && spare s) (shares m) share g in
        some_of (λ sectors. is_apart sectors (flat_map (λ (k : Holding ℕ). k.sectors) (holdings_in (holdings m owners) share.0))) (new_sectors m (256 * share.0 + share.1) bytes) (second (first share) (spare share) f.1)

nowhere_placed : (m : Map) (n a : ℕ) → n ≡ 0 → is_some (sectors_at (Layout.New m) a n) ≡ true
unfolding sectors_at
nowhere_placed m n a z = ap (λ (k : ℕ). is_some (cond (k == 0) (Some []) (new_sectors m a k))) z

pub has_sectors : (m : Map) (owners : List Owner) (w : Wants) (place : Placing) (address : ℕ) → IsPlacingFor m owners w place → address ≡ address_for m w place → HasSectorsAt m place address w.bytes
has_sectors m owners w Nowhere address is at = nowhere_placed m w.bytes address is
has_sectors m owners w (Shared share) address is at =
    subst (λ (a : ℕ). IsSome (sectors_at (Layout.New m) a w.bytes)) (sym at) (share_placed m owners is.0 w.bytes (place_in share) is.2)
has_sectors m owners w (New plan) address is at = is.1

-- ---- an object in slack, or with a plan

-- The bytes that need new space.
pub bytes_are : (m : Map) (owners : List Owner) (w : Wants) (share : Option Share) → option_map place_in share ≡ slack_for m owners w → (let n : ℕ = cond (is_some share) 0 w.bytes in n) ≡ bytes_left m owners w
bytes_are m owners w share is = ap (λ (b : Bool). let n : ℕ = cond b 0 w.bytes in n) (same share ∙ ap (λ (o : Option (ℕ × ℕ)). is_some o) is)
  where
    same : (o : Option Share) → is_some o ≡ is_some (option_map place_in o)
    same None = refl
    same (Some s) = refl

-- The slack is that of the directory whose files may leave some.
slack_from : (m : Map) (owners : List Owner) (w : Wants) (place : ℕ × ℕ) → slack_for m owners w ≡ Some place → (dir : ℕ) × (w.shares ≡ Some dir) × (slack_left m owners dir w.bytes ≡ Some place)
slack_from m owners w place is = by w.shares refl is
  where
    by : (o : Option ℕ) → w.shares ≡ o → option_and_then (λ (dir : ℕ). slack_left m owners dir w.bytes) o ≡ Some place → (dir : ℕ) × (w.shares ≡ Some dir) × (slack_left m owners dir w.bytes ≡ Some place)
    by None e f = absurd (cc)
    by (Some dir) e f = (dir, e, f)

no_slack : (m : Map) (owners : List Owner) (w : Wants) → slack_for m owners w ≡ None → (dir : ℕ) → w.shares ≡ Some dir → slack_left m owners dir w.bytes ≡ None
no_slack m owners w is dir e = sym (ap (option_and_then (λ (d : ℕ). slack_left m owners d w.bytes)) e) ∙ is

-- It needs no new space in slack, and else for all its bytes.
left_in_slack : (m : Map) (owners : List Owner) (w : Wants) (place : ℕ × ℕ) → slack_for m owners w ≡ Some place → bytes_left m owners w ≡ 0
left_in_slack m owners w place is = ap (λ (o : Option (ℕ × ℕ)). let n : ℕ = cond (is_some o) 0 w.bytes in n) is

left_else : (m : Map) (owners : List Owner) (w : Wants) → slack_for m owners w ≡ None → bytes_left m owners w ≡ w.bytes
left_else m owners w is = ap (λ (o : Option (ℕ × ℕ)). let n : ℕ = cond (is_some o) 0 w.bytes in n) is

pub placing_is : (m : Map) (owners : List Owner) (w : Wants) (share : Option Share) (own : Option Plan) → option_map place_in share ≡ slack_for m owners w → IsObjectPlan m (bytes_left m owners w) own
    → IsPlacingFor m owners w (placing_of share own)
placing_is m owners w (Some s) own is p = slack_from m owners w (place_in s) (sym is)
placing_is m owners w None None is p = sym (left_else m owners w (sym is)) ∙ p
placing_is m owners w None (Some plan) is p = (no_slack m owners w (sym is), subst (λ (n : ℕ). IsOwnPlan m n plan) (left_else m owners w (sym is)) p)

-- Its plan is the one that it was placed by.
pub plan_same : (m : Map) (owners : List Owner) (w : Wants) (share : Option Share) (own : Option Plan) → option_map place_in share ≡ slack_for m owners w → IsObjectPlan m (bytes_left m owners w) own
    → plan_in (placing_of share own) ≡ own
plan_same m owners w (Some s) None is p = refl
plan_same m owners w (Some s) (Some plan) is p = absurd (let none = left_in_slack m owners w (place_in s) (sym is) in let some = p.some in omega (arith, none, some))
plan_same m owners w None None is p = refl
plan_same m owners w None (Some plan) is p = refl

-- Its identifier is a number of 24 bits, and its parts rise.
pub placed_id : (m : Map) (is : IsNewMap m) (owners : List Owner) (w : Wants) (place : Placing) → IsPlacingFor m owners w place → id_in place < 2 ^ 24
placed_id m is owners w Nowhere p = omega arith
placed_id m is owners w (Shared share) p = share_id m is owners p.0 w.bytes (place_in share) p.2
placed_id m is owners w (New plan) p = plan_id m is w.bytes plan p.1

pub placed_rises : (m : Map) (owners : List Owner) (w : Wants) (place : Placing) → IsPlacingFor m owners w place → IfSome (plan_in place) (λ (plan : Plan). AllPairs BeginsBefore (fronts plan.parts.items))
placed_rises m owners w Nowhere p = tt
placed_rises m owners w (Shared share) p = tt
placed_rises m owners w (New plan) p = p.1.plan.rising
