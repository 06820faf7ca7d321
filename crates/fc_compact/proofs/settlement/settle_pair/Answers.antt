use Rattle.std.proofs.Common.{◌≡◌, ◌∷◌, ◌++◌, [], refl, ap, sym, subst, ◌∙◌, arith, append_assoc, true}
use Rattle.fc_record.specs.declared.Geometry.{Geometry}
use Rattle.fc_zone.specs.declared.Run.{Run}
use Rattle.fc_device.proofs.DiskLaws.{laws}
use Rattle.fc_compact.specs.Compaction.{is_done_by}
use Rattle.fc_compact.specs.Settlement.{zone_weight}
use Rattle.fc_compact.proofs.GoneLemmas.{kept_err, kept_ok, kept_start}
use Rattle.fc_compact.proofs.HoldLemmas.{run_short}
use Rattle.fc_compact.proofs.MergeLemmas.{merge_falls}
use Rattle.fc_compact.proofs.PacksLemmas.{packs_none}
use Rattle.fc_compact.proofs.SlidLemmas.{slid_cut, slid_falls, slid_next, slid_packs}
use Rattle.fc_compact.proofs.settlement.settle_pair.Goals as goal

pub overflow_add-result : goal.overflow_add-result
overflow_add-result g c =
    let a = c.args in
    let m = a.map.now in
    let is = c.is_map.ensures in
    let r = c.requires.pair in
    let low = c.requires.zone in
    let one = run_short m is a.z low r.0 (a.next ∷ r.1) a.run r.2 in
    let two = run_short m is a.z low (r.0 ++ a.run ∷ []) r.1 a.next (r.2 ∙ sym (append_assoc r.0 (a.run ∷ []) (a.next ∷ r.1))) in
    omega (arith, one, two)

pub overflow_add-result-in-Slide : goal.overflow_add-result-in-Slide
overflow_add-result-in-Slide g c =
    let a = c.args in
    let m = a.map.now in
    let is = c.is_map.ensures in
    let r = c.requires.pair in
    let low = c.requires.zone in
    let one = run_short m is a.z low r.0 (a.next ∷ r.1) a.run r.2 in
    let two = run_short m is a.z low (r.0 ++ a.run ∷ []) r.1 a.next (r.2 ∙ sym (append_assoc r.0 (a.run ∷ []) (a.next ∷ r.1))) in
    omega (arith, one, two)

pub returns-in-Done-clause-keeps : goal.returns-in-Done-clause-keeps
returns-in-Done-clause-keeps g c =
    let a = c.args in
    let m = a.map.now in
    let is = c.is_map.ensures in
    let r = c.requires.pair in
    let low = c.requires.zone in
    kept_start (laws g.met.D.Disk) c.laws.ensures a.owners.now a.disk.now m _ c.requires.stands

pub returns-in_err-merge_runs-in-Merge-clause-keeps : goal.returns-in_err-merge_runs-in-Merge-clause-keeps
returns-in_err-merge_runs-in-Merge-clause-keeps g c =
    kept_err c.args.owners.now c.args.disk.now c.merge_runs.new.disk c.args.map.now c.merge_runs.new.map _ c.from_residual.result c.from_residual.ensures.0 c.in_err-merge_runs-in-Merge.ensures.keeps

pub returns-in_ok-merge_runs-in-Merge-clause-keeps : goal.returns-in_ok-merge_runs-in-Merge-clause-keeps
returns-in_ok-merge_runs-in-Merge-clause-keeps g c = kept_ok c.args.owners.now c.args.disk.now c.merge_runs.new.disk c.args.map.now c.merge_runs.new.map _ _ c.in_ok-merge_runs-in-Merge.ensures.keeps

pub returns-in_err-slide-in-Slide-clause-keeps : goal.returns-in_err-slide-in-Slide-clause-keeps
returns-in_err-slide-in-Slide-clause-keeps g c =
    kept_err c.args.owners.now c.args.disk.now c.slide.new.disk c.args.map.now c.slide.new.map _ c.from_residual-in_err-slide-in-Slide.result c.from_residual-in_err-slide-in-Slide.ensures.0 c.in_err-slide-in-Slide.ensures.keeps

pub returns-in_ok-slide-in-Slide-clause-keeps : goal.returns-in_ok-slide-in-Slide-clause-keeps
returns-in_ok-slide-in-Slide-clause-keeps g c = kept_ok c.args.owners.now c.args.disk.now c.slide.new.disk c.args.map.now c.slide.new.map _ _ c.in_ok-slide-in-Slide.ensures.keeps

pub returns-in-Done-clause-steps : goal.returns-in-Done-clause-steps
returns-in-Done-clause-steps g c =
    let a = c.args in
    let m = a.map.now in
    let is = c.is_map.ensures in
    record {
      packs = packs_none a.owners.now m is;
      others = λ y other. refl;
      cut = λ front rest was. (front ++ a.run ∷ [], (was ∙ sym (append_assoc front (a.run ∷ []) (a.next ∷ rest)), λ e. refl));
      falls = omega arith;
      done = λ e. (refl, refl, subst (λ (h : Geometry). is_done_by h a.owners.now a.run a.next ≡ true) c.geometry.ensures.value c.in-Done.ensures);
    }

pub returns-in_ok-merge_runs-in-Merge-clause-steps : goal.returns-in_ok-merge_runs-in-Merge-clause-steps
returns-in_ok-merge_runs-in-Merge-clause-steps g c =
    let a = c.args in
    let r = c.requires.pair in
    let ok = c.in_ok-merge_runs-in-Merge.ensures in
    record {
      packs = ok.packs;
      others = ok.others;
      cut = λ front rest was. (front, (ok.runs front rest was, λ e. absurd (cc)));
      falls = (let now = ap zone_weight (ok.runs r.0 r.1 r.2) in let was = ap zone_weight r.2 in omega (arith, now, was, merge_falls r.0 r.1 a.run a.next));
      done = λ e. absurd (cc);
    }

pub returns-in_ok-slide-in-Slide-clause-steps : goal.returns-in_ok-slide-in-Slide-clause-steps
returns-in_ok-slide-in-Slide-clause-steps g c =
    let a = c.args in
    let m = a.map.now in
    let is = c.is_map.ensures in
    let r = c.requires.pair in
    let low = c.requires.zone in
    let last = c.slide.new.map in
    let ok = c.in_ok-slide-in-Slide.ensures in
    let slid = ok.slid in
    let next = slid_next m last is a.z a.run.start low slid r.0 r.1 a.run a.next refl r.2 in
    let kind = ap (λ (x : Run). x.kind) next ∙ c.in-Slide.ensures.2 in
    record {
      packs = slid_packs m last is a.z a.run.start low slid a.owners.now ok.leads;
      others = slid.others;
      cut = λ front rest was. (front ++ record a.next { start = a.run.start } ∷ [], (slid_cut m last is a.z a.run.start low slid front rest a.run a.next refl was, λ e. absurd (cc)));
      falls = slid_falls m last is a.z a.run.start low slid c.in-Slide.ensures.0 kind;
      done = λ e. absurd (cc);
    }
