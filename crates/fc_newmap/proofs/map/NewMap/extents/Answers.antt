use Rattle.std.proofs.Common.{◌∙◌, ap}
use Rattle.fc_record.specs.declared.Geometry.{Geometry}
use Rattle.fc_newmap.specs.Map.{extent_of, id_runs}
use Rattle.fc_newmap.proofs.ExtentLemmas.{push_ok, extents_more, none_more}
use Rattle.fc_newmap.proofs.map.NewMap.extents.Goals as goal

pub loop-z-preserved : goal.loop-z-preserved
loop-z-preserved c =
    let before = c.loop-z.invariant in
    let r = c.in-Some.ensures.value before.0 before.1.0 in (
      r.0,
      (
        r.1.1,
        extents_more c.args.self.now.geometry (c.in-Some.z, c.in-Some.run') r.0 before.0 (id_runs c.args.self.now c.args.id) c.loop-z.extents.items c.push.new.self.items c.extent_of.result
            r.1.0 (push_ok c.loop-z.extents.items c.push.new.self.items c.extent_of.result _ c.is_err.result c.push.ensures.items c.is_err.ensures.negation c.if-is_err.false) (c.extent_of.ensures ∙ ap (λ (g : Geometry). extent_of g (c.in-Some.z, c.in-Some.run')) c.geometry.ensures.value) before.1.1,
      ),
    )

pub returns : goal.returns
returns c =
    let before = c.loop-z.invariant in
    let r = c.in_default.ensures.value before.0 before.1.0 in
    none_more c.args.self.now.geometry before.0 (id_runs c.args.self.now c.args.id) c.loop-z.extents.items r.0 before.1.1
