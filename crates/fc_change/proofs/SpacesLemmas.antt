-- The space of an object and of a directory that grows, on a new map.
use Rattle.std.proofs.Common.{◌≡◌, ◌++◌, Bool, ℕ, List, [], Option, Some, None, sym, ap, subst, ◌∙◌}
use Rattle.std.specs.Option.{option_map, option_to_list}
use Rattle.fc_image.specs.Layout.{Layout}
use Rattle.fc_newmap.specs.Map.{Map}
use Rattle.fc_placing.specs.declared.placing.Placing.{Placing}
use Rattle.fc_placing.specs.Places.{shared_id}
use Rattle.fc_plan.specs.declared.plan.Plan.{Plan}
use Rattle.fc_placing.specs.declared.share.Share.{Share}
use Rattle.fc_placing.specs.Slack.{place_in}
use Rattle.fc_tree.specs.Parts.{Parts}
use Rattle.fc_change.specs.declared.job.Wants.{Wants}
use Rattle.fc_change.specs.declared.placing.growth.Growing.{Growing}
use Rattle.fc_change.specs.declared.placing.growth.Plans.{Plans}
use Rattle.fc_change.specs.declared.spaces.Spaces.{Spaces}
use Rattle.fc_change.specs.GrownSpace.{IsGrown, gone_at_once, kept_parts, left_if, plans_of, root_of}
use Rattle.fc_change.specs.Places.{AreLeft, ArePlaced, IsCopiedFrom, IsPlaceFor, IsPlacingFor, extents_in, placing_of, plan_in}
use Rattle.fc_change.specs.Planning.{ArePlanned, IsGrownTo, IsJudged, alone_in}
use Rattle.fc_change.specs.Shortage.{bytes_left, is_grown_alone, slack_for}
use Rattle.fc_change.specs.Steps.{IsStep}
use Rattle.fc_change.proofs.GrownLemmas.{alone_same, grown_is, same_by, take_same}
use Rattle.fc_change.proofs.PlaceLemmas.{placing_is, plan_same}

module _ (m : Map) (h : Parts) (w : Wants) (share : Option Share) (x : Growing) (plans : Plans) (judged : IsJudged m h w.grows x) (shared : option_map place_in share ≡ slack_for m h.owners w)
    (planned : ArePlanned m (bytes_left m h.owners w) x plans) (placing : Placing) (is : placing ≡ placing_of share plans.object) where
  pub placed : IsPlacingFor m h.owners w placing
  placed = subst (IsPlacingFor m h.owners w) (sym is) (placing_is m h.owners w share plans.object shared planned.object)

  plan_is : plan_in placing ≡ plans.object
  plan_is = ap plan_in is ∙ plan_same m h.owners w share plans.object shared planned.object

  pub are_placed : (s : Spaces) (gone left : List ℕ) → IsPlaceFor m w placing s.object → IsCopiedFrom (Layout.New m) h.nodes w.copied (extents_in s.copied) → IsGrownTo m x plans.dir s.grown
      → IsStep m (plans_of (plan_in placing) plans.dir) (gone_at_once plans.dir (alone_in x)) (kept_parts plans.dir (alone_in x)) (root_of s.grown) s.take
      → AreLeft h.owners w.goes (shared_id placing) left → gone ≡ option_to_list (left_if plans.dir (alone_in x) h.owners w) ++ left → IsStep m [] gone [] None s.give → ArePlaced m h w s
  are_placed s gone left object copied grown take are_left gone_is give =
      let same = alone_same m h plans.object w.grows x plans.dir judged planned.dir in
      record {
        placing = placing;
        dir = plans.dir;
        gone = left;
        is = placed;
        object = object;
        copied = copied;
        grown = subst (λ (o : Option Plan). IsGrown m h o w.grows plans.dir s.grown) (sym plan_is) (grown_is m h plans.object w.grows x plans.dir s.grown judged planned.dir grown);
        take = take_same m (plan_in placing) plans.dir (alone_in x) (is_grown_alone h w.grows) (root_of s.grown) s.take same take;
        left = are_left;
        give = subst (λ (ids : List ℕ). IsStep m [] ids [] None s.give)
            (gone_is
            ∙ ap (λ (ids : List ℕ). ids ++ left) (same_by (λ (d : Option Plan) (b : Bool). option_to_list (left_if d b h.owners w)) plans.dir (alone_in x) (is_grown_alone h w.grows) (λ a b. Rattle.std.proofs.Common.refl) same)) give;
      }
