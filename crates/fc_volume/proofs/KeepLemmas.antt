-- What compaction leaves of a volume, whatever is known of the disk's bytes.
use Rattle.std.proofs.Common.{◌≡◌, ◌≤◌, ◌==◌, cond, refl, sym, ap, subst, ◌∙◌, arith}
use Rattle.std.specs.Prelude.{Err, IsFalse, IsTrue, Ok}
use Rattle.fc_device.specs.declared.disk.Disk.{Ghosts}
use Rattle.fc_device.specs.Calls.{SameForm}
use Rattle.fc_device.specs.Faults.{Rose}
use Rattle.fc_device.specs.Stops.{LeavesOnly}
use Rattle.fc_device.proofs.DiskLaws.{Laws, form_same}
use Rattle.fc_device.proofs.StopLemmas.{started, weaker}
use Rattle.fc_names.specs.declared.name.NameForm.{NameForm}
use Rattle.fc_names.specs.declared.name.NameForm.TheVariants.{Ten, Long}
use Rattle.fc_names.specs.declared.refusal.Refusal.{Refusal}
use Rattle.fc_record.specs.declared.Geometry.{Geometry}
use Rattle.fc_newmap.specs.Map.{Map}
use Rattle.fc_image.specs.Layout.{Layout, dir_form}
use Rattle.fc_space.specs.Space.{layout_of}
use Rattle.fc_holdings.specs.declared.error.CommandError.TheVariants.{Refused, DiskFault}
use Rattle.fc_holdings.specs.Holdings.{IsSameKind}
use Rattle.fc_volume.specs.Changing.{KeepsVolume}
use Rattle.fc_volume.specs.Compacting.{KeepsDisc}
use Rattle.fc_volume.specs.Volume.{StandsFor, Volume}

-- nothing is done
pub kept_refused : {D : Type 0} {d : Ghosts D} (law : Laws d) (v : Volume) (disk : D) (m : Map) (refusal : Refusal) → layout_of v.space ≡ Layout.New m → StandsFor d v disk → IsFalse (d.pending disk) → IsTrue v.fit → KeepsVolume {T = Unit {0}} d disk disk v v (Err (Refused refusal))
kept_refused {d = d} law v disk m refusal layout stands quiet fits = record {
  unchanged = λ other. (refl, refl);
  stands = stands;
  settled = quiet;
  fit = fits;
  unfit = λ e. absurd (cc);
  rights = refl;
  map = subst (λ (l : Layout). IsSameKind l l) (sym layout) tt;
  dirs = refl;
  form = form_same d disk;
  goes = started law disk (λ image. Unit {0}) (λ image left. tt);
  faults = omega arith;
  cause = λ e. absurd (cc);
}

module _ {D : Type 0} {d : Ghosts D} (law : Laws d) (v v' : Volume) (old new : D) (m m' : Map) (layout : layout_of v.space ≡ Layout.New m) (layout' : layout_of v'.space ≡ Layout.New m')
    (rights : v'.read_only ≡ v.read_only) (form : SameForm d old new) (later : d.faults old ≤ d.faults new) (exits : KeepsDisc d m v.owners old new) where
  map_stays : IsSameKind (layout_of v.space) (layout_of v'.space)
  map_stays = subst (λ (l : Layout). IsSameKind l (layout_of v'.space)) (sym layout) (subst (λ (l : Layout). IsSameKind (Layout.New m) l) (sym layout') tt)

  goes : LeavesOnly d.moment d.left_since old new (λ image. Unit {0})
  goes = weaker law (λ image. Unit {0}) exits.objects.stops (λ image left. tt)

  -- the map is compacted
  pub kept_done : m'.geometry ≡ m.geometry → StandsFor d v' new → IsFalse (d.pending new) → IsTrue v'.fit → KeepsVolume {T = Unit {0}} d old new v v' (Ok tt)
  kept_done geometry stands quiet fits = record {
    unchanged = tt;
    stands = stands;
    settled = quiet;
    fit = fits;
    unfit = λ e. absurd (cc);
    rights = rights;
    map = map_stays;
    dirs = ap dir_form layout' ∙ ap (λ (g : Geometry). let f : NameForm = cond (g.version == 0) Ten Long in f) geometry ∙ sym (ap dir_form layout);
    form = form;
    goes = goes;
    faults = later;
    cause = λ e. absurd (cc);
  }

  -- the disk failed
  pub kept_fault : IsFalse v'.fit → Rose (d.faults old) (d.faults new) → KeepsVolume {T = Unit {0}} d old new v v' (Err DiskFault)
  kept_fault unfit rose = record {
    unchanged = λ other. absurd (other refl);
    stands = tt;
    settled = tt;
    fit = tt;
    unfit = λ e. unfit;
    rights = rights;
    map = map_stays;
    dirs = tt;
    form = form;
    goes = goes;
    faults = later;
    cause = λ e. rose;
  }
