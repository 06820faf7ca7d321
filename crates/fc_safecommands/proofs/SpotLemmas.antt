-- Where a new object lies, in the safe mode: nowhere, in slack of files, or in the first plan's space.
use Rattle.std.proofs.Common.{◌≡◌, ◌<◌, ◌≤◌, ◌+◌, ◌*◌, ◌-◌, ◌==◌, ◌&&◌, ◌⊎◌, ⊎_elim, ℕ, zero, suc, Bool, true, false, not, cond, List, [], ◌∷◌, ◌++◌, filter, length, map, refl, ap, subst, ◌∙◌, arith, eq-eqb, Option, Some, None}
use Rattle.std.specs.Prelude.{Contains, IsPermutation, nat_lt}
use Rattle.std.specs.List.{find, list_all}
use Rattle.std.proofs.lemmas.Bool.{and_parts}
use Rattle.std.proofs.lemmas.List.Sorted.{sum_by-IsPermutation}
use Rattle.fc_names.specs.Names.{Path, is_same_path}
use Rattle.fc_zone.specs.declared.RunKind.{RunKind}
use Rattle.fc_zone.specs.declared.RunKind.TheVariants.{Hole, Id}
use Rattle.fc_newmap.specs.Map.{Map, ZoneRun, all_runs, bits_in, has_id, hole_runs, id_runs, is_hole}
use Rattle.fc_newmap.specs.NewMap.{IsNewMap}
use Rattle.fc_newmap.proofs.HeldLemmas.{geometry_facts}
use Rattle.fc_newmap.proofs.PlaceLemmas.{filter_in, holder_of, id_run_in}
use Rattle.fc_newmap.proofs.RunsLemmas.{runs_apart}
use Rattle.fc_image.specs.Layout.{Layout, hole_sectors, id_of, id_sectors, is_among}
use Rattle.fc_image.specs.Objects.{has_sectors, is_owner_of}
use Rattle.fc_image.specs.Walk.{Object, is_directory_object}
use Rattle.fc_image.specs.effects.Sharing.{Holding, holding_of, holdings_in, is_shareable, is_spare, may_share_with, shares, slack, slack_among}
use Rattle.fc_image.proofs.EntriesLemmas.{in_mapped}
use Rattle.fc_laws.proofs.lemmas.agree.BeforeLemmas.{new_shape}
use Rattle.fc_plan.specs.Taking.{as_runs}
use Rattle.fc_tree.proofs.MemberLemmas.{found_passes, in_filter}
use Rattle.fc_change.proofs.LeadsLemmas.{as_bits}

-- ---- slack is that of files

-- No directory lies in an identifier in which a file finds slack.
pub slack_files : (m : Map) (objects : List Object) (dir : Path) (n : ℕ) (share : ℕ × ℕ) → slack m objects dir n ≡ Some share → (p : Object) → Contains objects p → is_owner_of share.0 p ≡ true → is_directory_object p ≡ false
unfolding slack_among
slack_files m objects dir n share e p at owns = by (n == 0) e
  where
    all : List (Holding Path)
    all = map holding_of (filter has_sectors objects)

    test : ℕ × ℕ → Bool
    test s = is_shareable is_same_path dir (holdings_in (map holding_of (filter has_sectors objects)) s.0) && is_spare m (holdings_in (map holding_of (filter has_sectors objects)) s.0) s.0 s.1 n

    each : (hs : List (Holding Path)) (k : Holding Path) → list_all (may_share_with is_same_path dir) hs ≡ true → Contains hs k → may_share_with is_same_path dir k ≡ true
    each [] k e (i, low, f) = absurd (omega (arith, low))
    each (x ∷ hs) k e (zero, low, f) = subst (λ (y : Holding Path). may_share_with is_same_path dir y ≡ true) f (and_parts (may_share_with is_same_path dir x) (list_all (may_share_with is_same_path dir) hs) e).0
    each (x ∷ hs) k e (suc i, low, f) = each hs k (and_parts (may_share_with is_same_path dir x) (list_all (may_share_with is_same_path dir) hs) e).1 (i, omega (arith, low), f)

    turned : (a b c : Bool) → (not a && b && c) ≡ true → a ≡ false
    turned true b c f = absurd (cc)
    turned false b c f = refl

    by : (b : Bool) → cond b None (find (λ s. is_shareable is_same_path dir (holdings_in (map holding_of (filter has_sectors objects)) s.0) && is_spare m (holdings_in (map holding_of (filter has_sectors objects)) s.0) s.0 s.1 n) (shares m)) ≡ Some share → is_directory_object p ≡ false
    by true g = absurd (cc)
    by false g =
        let f = found_passes test (shares m) share g in
        let shareable = (and_parts (is_shareable is_same_path dir (holdings_in all share.0)) (is_spare m (holdings_in all share.0) share.0 share.1 n) f.1).0 in
        let every = (and_parts (nat_lt 0 (length (holdings_in all share.0))) (list_all (may_share_with is_same_path dir) (holdings_in all share.0)) shareable).1 in
        let own = and_parts (has_sectors p) (id_of p.entry.address == share.0) owns in
        let there = in_filter (λ (k : Holding Path). k.id == share.0) all (holding_of p) (in_mapped holding_of (filter has_sectors objects) p (in_filter has_sectors objects p at own.0)) own.1 in
        turned (is_directory_object p) _ _ (each (holdings_in all share.0) (holding_of p) every there)

-- without bytes there is none
pub no_slack : {D : Type 0} (same : D → D → Bool) (m : Map) (hs : List (Holding D)) (dir : D) (n : ℕ) → n ≡ 0 → slack_among same m hs dir n ≡ None
unfolding slack_among
no_slack same m hs dir n none =
    ap (λ (b : Bool). let o : Option (ℕ × ℕ) = cond b None (find (λ s. is_shareable same dir (holdings_in hs s.0) && is_spare m (holdings_in hs s.0) s.0 s.1 n) (shares m)) in o) (eq-eqb n 0 none)

-- ---- a sector of an identifier lies in no hole

pub id_no_hole : (m : Map) → IsNewMap m → (k u : ℕ) → is_among (id_sectors m k) u ≡ true → is_among (hole_sectors (Layout.New m)) u ≡ true → ⊥
id_no_hole m is k u e f =
    let p = holder_of m.geometry (id_runs m k) u e in
    let q = holder_of m.geometry (hole_runs m) u f in
    let p_in = id_run_in m k p.0 (geometry_facts m.geometry is.of_record).zones p.1.0 in
    let q_in = filter_in (λ (r : ZoneRun). is_hole r.1.kind) (all_runs m) q.0 q.1.0 in
    let same = runs_apart m (new_shape m is) is.right p.0 q.0 p_in.0 q_in.0 u p.1.1 q.1.1 in
    clash p.0.1.kind (p_in.1) (ap (λ (r : ZoneRun). is_hole r.1.kind) same ∙ q_in.1)
  where
    clash : (kind : RunKind) → has_id k kind ≡ true → is_hole kind ≡ true → ⊥
    clash Hole a b = cc
    clash (Id j) a b = cc

-- ---- bits of parts as runs

pub bits_taken : (id : ℕ) (ps rs : List ZoneRun) → IsPermutation (as_runs id ps) rs → bits_in rs ≡ bits_in ps
bits_taken id ps rs all = sum_by-IsPermutation (λ (p : ZoneRun). p.1.len) (as_runs id ps) rs all ∙ as_bits id ps
