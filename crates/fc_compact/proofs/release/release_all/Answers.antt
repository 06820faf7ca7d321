use Rattle.std.proofs.Common.{◌<◌, ℕ, get_or, refl, sym, subst}
use Rattle.std.proofs.lemmas.List.Elements.{All-get_or}
use Rattle.fc_record.specs.declared.Geometry.{Geometry}
use Rattle.fc_compact.specs.Joins.{all_freed}
use Rattle.fc_compact.proofs.ListedLemmas.{listed_edits, listed_more, listed_none}
use Rattle.fc_compact.proofs.release.release_all.Goals as goal

pub loop-z-init : goal.loop-z-init
loop-z-init c = record { edits = listed_none c.args.map.now c.args.changed.now c.is_map.ensures; runs = λ y. refl }

pub release_in-requires : goal.release_in-requires
release_in-requires c = record {
  zone = subst (λ (h : Geometry). get_or c.args.changed.now c.loop-z.z-index 0 < h.zones) (sym c.loop-z.invariant.edits.edits.geometry)
      (All-get_or (λ (y : ℕ). y < c.args.map.now.geometry.zones) c.args.changed.now c.loop-z.z-index 0 c.loop-z-test.true c.requires.zones);
}

pub loop-z-preserved : goal.loop-z-preserved
loop-z-preserved c =
    let was = c.loop-z.invariant in
    let m = c.args.map.now in
    let n = c.loop-z.map in
    let o = c.release_in.new.map in
    let changed = c.args.changed.now in
    let i = c.loop-z.z-index in
    record {
      edits = listed_edits m n o changed i c.loop-z-test.true c.release_in.ensures.edit was.edits;
      runs = listed_more m n o changed i c.loop-z-test.true c.release_in.ensures.edit (all_freed c.args.id) c.requires.rising c.release_in.ensures.runs was.runs;
    }
