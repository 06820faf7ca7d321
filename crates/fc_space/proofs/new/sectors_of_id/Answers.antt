use Rattle.std.proofs.Common.{◌≡◌, ◌-◌, ◌++◌, ◌∷◌, [], true, not, arith, refl, ap, ◌∙◌}
use Rattle.std.specs.Result.{is_ok}
use Rattle.fc_newmap.specs.Map.{extent_of}
use Rattle.fc_space.proofs.GeometryLemmas.{extent_fits}
use Rattle.fc_space.proofs.PlaceLemmas.{no_extents, one_extent}
use Rattle.fc_space.proofs.SearchLemmas.{run_passed, started, nothing_left, all_found, part_taken}
use Rattle.fc_space.proofs.new.sectors_of_id.Goals as goal

pub loop-need-init : goal.loop-need-init
loop-need-init c = record {
  searches = started c.args.map.now c.args.id c.args.skip c.args.need c.new-place.result.items c.start-cursor.result c.new-place.ensures.items c.start-cursor.ensures.stands;
  each = no_extents c.new-place.result.items c.new-place.ensures.items;
}

pub returns-in_default-clause-outside : goal.returns-in_default-clause-outside
returns-in_default-clause-outside c = λ e.
    nothing_left c.args.map.now c.args.id c.args.skip c.args.need c.loop-need.place.items c.loop-need.cursor c.next.new.self c.loop-need.skip c.loop-need.need c.next.result
    c.loop-need.invariant.searches c.loop-need-test.true c.next.ensures.value c.in_default.is

pub part_of-part-requires : goal.part_of-part-requires
part_of-part-requires c =
    extent_fits c.args.map.now.geometry (c.in-Some.z, c.in-Some.run') c.extent_of-extent.result c.geometry.ensures.map.of_record c.in-Some.ensures.within
    (c.extent_of-extent.ensures ∙ ap (λ h. extent_of h (c.in-Some.z, c.in-Some.run')) c.geometry.ensures.value)

pub loop-need-preserved : goal.loop-need-preserved
loop-need-preserved c =
    let done : is_ok c.push.result ≡ true = c.is_err.ensures.negation ∙ ap not c.if-is_err.false in
    let pushed : c.push.new.self.items ≡ c.loop-need.place.items ++ c.part_of-part.result ∷ [] = rw done at c.push.ensures.items in
    record {
      searches = part_taken c.args.map.now c.args.id c.args.skip c.args.need c.loop-need.place.items c.push.new.self.items c.loop-need.cursor c.next.new.self c.loop-need.skip c.loop-need.need
          0 (c.loop-need.need - c.part_of-part.result.sectors) c.next.result (c.in-Some.z, c.in-Some.run') c.extent_of-extent.result c.part_of-part.result
          c.loop-need.invariant.searches c.next.ensures.value c.in-Some.is (c.extent_of-extent.ensures ∙ ap (λ h. extent_of h (c.in-Some.z, c.in-Some.run')) c.geometry.ensures.value) c.part_of-part.ensures.sectors pushed (omega (arith, c.if-skip-extent.false)) refl;
      each = one_extent c.loop-need.place.items c.push.new.self.items c.part_of-part.result pushed
          (let more = c.if-skip-extent.false in let some = c.loop-need-test.true in let count = c.part_of-part.ensures.count in omega (arith, more, some, count)) c.loop-need.invariant.each;
    }

pub returns-clause-place : goal.returns-clause-place
returns-clause-place c =
    all_found c.args.map.now c.args.id c.args.skip c.args.need c.loop-need.place.items c.loop-need.cursor c.loop-need.skip c.loop-need.need c.loop-need.invariant.searches (omega (arith, c.loop-need-test.false))

pub loop-need-preserved-then-skip-extent : goal.loop-need-preserved-then-skip-extent
loop-need-preserved-then-skip-extent c = record {
  searches = run_passed c.args.map.now c.args.id c.args.skip c.args.need c.loop-need.place.items c.loop-need.cursor c.next.new.self c.loop-need.skip c.loop-need.need c.next.result
      (c.in-Some.z, c.in-Some.run') c.extent_of-extent.result c.loop-need.invariant.searches c.next.ensures.value c.in-Some.is
      (c.extent_of-extent.ensures ∙ ap (λ h. extent_of h (c.in-Some.z, c.in-Some.run')) c.geometry.ensures.value) c.if-skip-extent.true;
  each = c.loop-need.invariant.each;
}
