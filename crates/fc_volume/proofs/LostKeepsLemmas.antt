-- What giving lost space back refuses, and what stays.
use Rattle.std.proofs.Common.{◌≡◌, ◌↔◌, ◌≤◌, ℕ, Bool, true, false, Option, Some, None, Result, Ok, Err, refl, sym, ap, subst, ◌∙◌, arith}
use Rattle.std.specs.Prelude.{◌==◌, if◌then◌else◌}
use Rattle.fc_device.specs.declared.disk.Disk.{Ghosts}
use Rattle.fc_device.specs.Calls.{SameForm, StopsAndExitsLeave}
use Rattle.fc_device.specs.Faults.{Rose}
use Rattle.fc_device.proofs.DiskLaws.{Laws, form_same}
use Rattle.fc_device.proofs.StopLemmas.{started, weaker}
use Rattle.fc_names.specs.declared.refusal.Refusal.{Refusal}
use Rattle.fc_names.specs.declared.refusal.Refusal.TheVariants as refusals
use Rattle.fc_names.specs.declared.name.NameForm.{NameForm}
use Rattle.fc_names.specs.declared.name.NameForm.TheVariants.{Long, Ten}
use Rattle.fc_record.specs.declared.Geometry.{Geometry}
use Rattle.fc_newmap.specs.Map.{Map}
use Rattle.fc_image.specs.Layout.{Layout, dir_form}
use Rattle.fc_image.specs.Stays.{IsNewLayout}
use Rattle.fc_reclaim.specs.Reclaiming.{LeavesOwned}
use Rattle.fc_space.specs.Space.{layout_of}
use Rattle.fc_writing.specs.declared.copies.Copies.TheVariants.{Equal}
use Rattle.fc_holdings.specs.declared.error.CommandError.{CommandError}
use Rattle.fc_holdings.specs.declared.error.CommandError.TheVariants.{DiskFault, Refused}
use Rattle.fc_holdings.specs.Holdings.{IsSameKind}
use Rattle.fc_volume.specs.Volume.{StandsFor, Volume, parts_of}
use Rattle.fc_volume.specs.Reclaiming.{HasGeometryOf, HasGivenBack, ReclaimKeeps, reclaim_refusal}
use Rattle.fc_volume.proofs.LostStandsLemmas.{stands_after}
use Rattle.fc_commands.proofs.KeepLemmas.{same_kind}

-- ---- refusals

one_refusal : (a b : Refusal) → (let x : Result ℕ CommandError = Err (Refused a) in x) ≡ Err (Refused b) → a ≡ b
one_refusal a b e = cc

pub one_some : (a b : Refusal) → (let x : Option Refusal = Some a in x) ≡ Some b → a ≡ b
one_some a b e = cc

-- It is refused for its reason, and for no other.
pub refused_for : (o : Option Refusal) (why : Refusal) → o ≡ Some why → (reason : Refusal) → ((let x : Result ℕ CommandError = Err (Refused why) in x) ≡ Err (Refused reason)) ↔ (o ≡ Some reason)
refused_for o why is reason = ((λ same. is ∙ ap Some (one_refusal why reason same)), (λ other. ap (λ (r : Refusal). Err (Refused r)) (one_some why reason (sym is ∙ other))))

pub done_for : (o : Option Refusal) (bytes : ℕ) → o ≡ None → (reason : Refusal) → ((let x : Result ℕ CommandError = Ok bytes in x) ≡ Err (Refused reason)) ↔ (o ≡ Some reason)
done_for o bytes is reason = ((λ e. absurd (cc)), (λ e. absurd (let clash : None ≡ Some reason = sym is ∙ e in cc)))

pub failed_for : (o : Option Refusal) → o ≡ None → (reason : Refusal) → ((let x : Result ℕ CommandError = Err DiskFault in x) ≡ Err (Refused reason)) ↔ (o ≡ Some reason)
failed_for o is reason = ((λ e. absurd (cc)), (λ e. absurd (let clash : None ≡ Some reason = sym is ∙ e in cc)))

pub locked_refused : (read_only : Bool) (layout : Layout) → read_only ≡ true → reclaim_refusal read_only layout ≡ Some refusals.ReadOnly
locked_refused read_only layout locked = ap (λ (b : Bool). reclaim_refusal b layout) locked

pub old_refused : (read_only : Bool) (layout : Layout) → read_only ≡ false → (IsNewLayout layout → ⊥) → reclaim_refusal read_only layout ≡ Some refusals.NotNewMap
old_refused read_only layout writable old = ap (λ (b : Bool). reclaim_refusal b layout) writable ∙ by layout old
  where
    by : (l : Layout) → (IsNewLayout l → ⊥) → reclaim_refusal false l ≡ Some refusals.NotNewMap
    by (Layout.Old space) never = refl
    by (Layout.New m) never = absurd (never tt)

pub none_refused : (read_only : Bool) (layout : Layout) → read_only ≡ false → IsNewLayout layout → reclaim_refusal read_only layout ≡ None
none_refused read_only layout writable new = ap (λ (b : Bool). reclaim_refusal b layout) writable ∙ by layout new
  where
    by : (l : Layout) → IsNewLayout l → reclaim_refusal false l ≡ None
    by (Layout.Old space) is = absurd is
    by (Layout.New m) is = refl

-- ---- what stays

new_kinds : (l l' : Layout) (m m' : Map) → l ≡ Layout.New m → l' ≡ Layout.New m' → IsSameKind l l'
new_kinds l l' m m' is is' = subst (λ (x : Layout). IsSameKind x l') (sym is) (subst (λ (x : Layout). IsSameKind (Layout.New m) x) (sym is') tt)

-- what `dir_form` is of a map of this geometry
abbrev form_of : Geometry → NameForm
form_of g = if g.version == 0 then Ten else Long

module _ {D : Type 0} {d : Ghosts D} (law : Laws d) where
  -- nothing was done
  pub refused_keeps : (v : Volume) (disk : D) (reason : Refusal) → v.fit ≡ true → StandsFor d v disk → d.pending disk ≡ false → ReclaimKeeps d disk disk v v (Err (Refused reason))
  refused_keeps v disk reason fit stands quiet = record {
    volume = record {
      unchanged = λ never. (refl, refl);
      stands = stands;
      settled = quiet;
      fit = fit;
      unfit = λ e. absurd (cc);
      rights = refl;
      map = same_kind (parts_of v).layout;
      dirs = refl;
      form = form_same d disk;
      goes = started law disk (λ image. Unit {0}) (λ image left. tt);
      faults = omega arith;
      cause = λ e. absurd (cc);
    };
    geometry = λ m is. (m, is, refl);
    tree = refl;
    owners = refl;
  }

  module _ (v v' : Volume) (old new : D) (m : Map) (layout : layout_of v.space ≡ Layout.New m) (tree : v'.tree ≡ v.tree) (owners : v'.owners ≡ v.owners) (rights : v'.read_only ≡ v.read_only)
      (form : SameForm d old new) (owned : StopsAndExitsLeave d old new (LeavesOwned m v.owners)) (faults : d.faults old ≤ d.faults new) where
    -- it was done
    pub done_keeps : (m' : Map) (bytes : ℕ) → StandsFor d v old → layout_of v'.space ≡ Layout.New m' → v'.copies ≡ Equal → v'.fit ≡ true → HasGivenBack d m m' v.owners bytes old new → d.pending new ≡ false
        → ReclaimKeeps d old new v v' (Ok bytes)
    done_keeps m' bytes stands layout' copies fit given quiet = record {
      volume = record {
        unchanged = tt;
        stands = stands_after v v' old new m m' bytes stands layout layout' tree owners copies form owned given;
        settled = quiet;
        fit = fit;
        unfit = λ e. absurd (cc);
        rights = rights;
        map = new_kinds (layout_of v.space) (layout_of v'.space) m m' layout layout';
        dirs = ap dir_form layout' ∙ ap (λ (g : Geometry). form_of g) given.map.map.geometry ∙ sym (ap dir_form layout);
        form = form;
        goes = weaker law (λ image. Unit {0}) owned.stops (λ image left. tt);
        faults = faults;
        cause = λ e. absurd (cc);
      };
      geometry = λ n is. (m', layout', given.map.map.geometry ∙ ap (λ (x : Map). x.geometry) (one_map m n (sym layout ∙ is)));
      tree = tree;
      owners = owners;
    }
      where
        one_map : (a b : Map) → Layout.New a ≡ Layout.New b → a ≡ b
        one_map a b e = cc

    -- the disk failed
    pub failed_keeps : HasGeometryOf (layout_of v.space) (layout_of v'.space) → v'.fit ≡ false → Rose (d.faults old) (d.faults new) → ReclaimKeeps d old new v v' (Err DiskFault)
    failed_keeps geometry unfit rose = record {
      volume = record {
        unchanged = λ never. absurd (never refl);
        stands = tt;
        settled = tt;
        fit = tt;
        unfit = λ e. unfit;
        rights = rights;
        map = (let there = geometry m layout in new_kinds (layout_of v.space) (layout_of v'.space) m there.0 layout there.1);
        dirs = tt;
        form = form;
        goes = weaker law (λ image. Unit {0}) owned.stops (λ image left. tt);
        faults = faults;
        cause = λ e. rose;
      };
      geometry = geometry;
      tree = tree;
      owners = owners;
    }
