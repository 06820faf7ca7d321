-- What follows for a change from the laws of its job.
use Rattle.std.proofs.Common.{◌≡◌, ◌≤◌, ◌+◌, ◌*◌, ◌/◌, inl, inr, ⊎_elim, ℕ, List, [], length, refl, sym, ap, subst, ◌∙◌, arith, Option, Some}
use Rattle.std.specs.Prelude.{Err, IsFalse, Ok}
use Rattle.std.specs.Option.{ForSome}
use Rattle.fc_device.specs.declared.disk.Disk.{Ghosts}
use Rattle.fc_device.specs.Calls.{SameForm, StopsAndExitsLeave}
use Rattle.fc_device.proofs.DiskLaws.{Laws, sector_fits}
use Rattle.fc_device.proofs.StopLemmas.{keeps_start, keeps_weaker}
use Rattle.fc_record.specs.declared.Geometry.{Geometry}
use Rattle.fc_record.specs.declared.Kind.{Kind}
use Rattle.fc_newmap.specs.Copies.{HoldsCopies}
use Rattle.fc_oldmap.specs.OldMap.{OldMapContent, map_units}
use Rattle.fc_names.specs.declared.refusal.Refusal.{Refusal}
use Rattle.fc_model.specs.Command.{Command}
use Rattle.fc_image.specs.Layout.{Layout, dir_form, disc_sectors, sector_bytes}
use Rattle.fc_image.specs.Opening.{Opened}
use Rattle.fc_image.specs.Stays.{OpensAs}
use Rattle.fc_image.specs.effects.Short.{short}
use Rattle.fc_changes.specs.old.Owed.{IsBefore}
use Rattle.fc_space.specs.Space.{layout_of}
use Rattle.fc_tree.specs.Parts.{Parts}
use Rattle.fc_laws.proofs.lemmas.takeover.ApartLemmas.{places_law}
use Rattle.fc_laws.proofs.lemmas.old.takeover.ApartLemmas.{places_law as old_places_law}
use Rattle.fc_writing.specs.declared.copies.Copies.{Copies}
use Rattle.fc_writing.specs.declared.copies.Copies.TheVariants.{Equal}
use Rattle.fc_writing.specs.declared.ready.MapStep.{MapStep}
use Rattle.fc_writing.specs.declared.ready.MapStep.TheVariants as steps
use Rattle.fc_writing.specs.declared.ready.Ready.{Ready}
use Rattle.fc_writing.specs.Old.{IsOfDisc}
use Rattle.fc_writing.proofs.NewLemmas.{step_geometry}
use Rattle.fc_change.specs.declared.job.Job.{Job}
use Rattle.fc_holdings.specs.declared.error.CommandError.{CommandError}
use Rattle.fc_holdings.specs.declared.error.CommandError.TheVariants.{Refused, NoMemory, DiskFault}
use Rattle.fc_holdings.specs.declared.holdings.Holdings.{Holdings}
use Rattle.fc_commands.specs.declared.stages.Prepared.{Prepared}
use Rattle.fc_commands.specs.Answers.{AnswersShort}
use Rattle.fc_holdings.specs.Holdings.{CopiesAre, HoldsMap, Stands, parts_of}
use Rattle.fc_commands.specs.Jobs.{IsJobFor}
use Rattle.fc_commands.specs.Laws.{HasFront, JobLaws}
use Rattle.fc_commands.specs.Promises.{ChangesParts, HasChanged, MayWrite, WritesPlacesOf}
use Rattle.fc_commands.specs.Run.{IsMapIn, IsMapOf, IsRun, KeepsBehind}
use Rattle.fc_commands.specs.Stages.{IsPreparedFor, RefusesJob}
use Rattle.fc_commands.specs.Written.{CanWriteOn, ChangeLeavesOn, IsChangedOn, IsGivenOn, space_after}
use Rattle.fc_commands.proofs.VersionLemmas.{tells_version}
use Rattle.fc_commands.proofs.AnswerLemmas.{accepted_by, faulted_by, no_memory, refused_by}

-- ---- maps

pub map_of : (layout : Layout) (sectors : ℕ) → IsMapIn layout → HoldsMap layout sectors → IsMapOf layout
map_of (Layout.New m) sectors is holds = is
map_of (Layout.Old space) sectors is holds = (is, holds.1)

-- The map afterwards is one of the same disc.
pub record IsSameDisc (layout layout' : Layout) : Type 0 where
  pub bytes : sector_bytes layout' ≡ sector_bytes layout
  pub sectors : disc_sectors layout' ≡ disc_sectors layout
  pub form : dir_form layout' ≡ dir_form layout

after_units : (space was : OldMapContent) (step : MapStep) → IsOfDisc space step → (was.disc_units ≡ space.disc_units) × (was.sector_units ≡ space.sector_units)
    → ((space_after step was).disc_units ≡ space.disc_units) × ((space_after step was).sector_units ≡ space.sector_units)
after_units space was (steps.New s) of is = absurd of
after_units space was (steps.Old m) of is = of
after_units space was steps.Nothing of is = is

same_disc : (layout layout' : Layout) (n : ℕ) (r : Ready) → CanWriteOn layout n r → IsGivenOn layout r layout' → IsSameDisc layout layout'
same_disc (Layout.New m) (Layout.New m') n r can given =
    let same : m'.geometry ≡ m.geometry = step_geometry given.0 m' r.give given.2 ∙ step_geometry m given.0 r.take given.1 in
    record {
      bytes = ap (λ (g : Geometry). g.sector) same;
      sectors = ap (λ (g : Geometry). g.disc_bits * g.bit_bytes / g.sector) same;
      form = ap (λ (g : Geometry). dir_form (Layout.New (record { geometry = g; zones = [] }))) same;
    }
same_disc (Layout.Old space) (Layout.Old now) n r can given =
    let first = after_units space space r.take can.take (refl, refl) in
    let last = after_units space (space_after r.take space) r.give can.give first in
    let units = ap (λ (m : OldMapContent). m.sector_units) given ∙ last.1 in
    let discs = ap (λ (m : OldMapContent). m.disc_units) given ∙ last.0 in
    record {
      bytes = ap (λ (u : ℕ). 256 * u) units;
      sectors = λ i. discs i / units i;
      form = ap (λ (u : ℕ). dir_form (Layout.Old (record { holes = []; disc_units = 0; sector_units = u }))) units;
    }
same_disc (Layout.New m) (Layout.Old now) n r can given = absurd given
same_disc (Layout.Old space) (Layout.New m') n r can given = absurd given

holds_map : (layout layout' : Layout) (r : Ready) (sectors : ℕ) → IsGivenOn layout r layout' → HoldsMap layout sectors → KeepsBehind layout' → HoldsMap layout' sectors
holds_map (Layout.New m) (Layout.New m') r sectors given holds behind =
    subst (λ (g : Geometry). g.map_sector + 2 * g.zones ≤ sectors) (sym (step_geometry given.0 m' r.give given.2 ∙ step_geometry m given.0 r.take given.1)) holds
holds_map (Layout.Old space) (Layout.Old now) r sectors given holds behind = (holds.0, behind)
holds_map (Layout.New m) (Layout.Old now) r sectors given holds behind = absurd given
holds_map (Layout.Old space) (Layout.New m') r sectors given holds behind = absurd given

-- both copies are the map's, or there is none
copies_are : (layout layout' : Layout) (r : Ready) (copies : Copies) (bytes was image : List ℕ) → copies ≡ Equal → IsGivenOn layout r layout' → IsChangedOn layout layout' r bytes was image → CopiesAre copies layout' image
copies_are (Layout.New m) (Layout.New m') r copies bytes was image same given changed =
    subst (λ (k : Copies). CopiesAre k (Layout.New m') image) (sym same)
    (subst (λ (g : Geometry). HoldsCopies g m'.zones image) (sym (step_geometry given.0 m' r.give given.2 ∙ step_geometry m given.0 r.take given.1)) changed.copies)
copies_are (Layout.Old space) (Layout.Old now) r copies bytes was image same given changed = same
copies_are (Layout.New m) (Layout.Old now) r copies bytes was image same given changed = absurd given
copies_are (Layout.Old space) (Layout.New m') r copies bytes was image same given changed = absurd given

-- ---- nothing written

none_may : (layout : Layout) (kind : Kind) (was : List ℕ) (view : Opened) (c : Command) → IsMapIn layout → OpensAs was kind view → view.layout ≡ layout → MayWrite layout kind view c []
none_may (Layout.New m) kind was view c is opens at = places_law.none kind view m c
none_may (Layout.Old space) kind was view c is opens at =
    let before : IsBefore kind was view space = record { opens = opens; layout = at; is_map = is } in
    (old_places_law.none view space c, old_places_law.spared kind was view space c [] before (old_places_law.none view space c))

writes_nothing : (h : Parts) (c : Command) (image : List ℕ) → IsMapIn h.layout → WritesPlacesOf c h image image
writes_nothing h c image is kind view opens held = record {
  sectors = [];
  only = record { length_stays = refl; outside = λ s out. refl };
  may = none_may h.layout kind image view c is opens (sym held.layout);
}

pub nothing_written : {D : Type 0} (d : Ghosts D) (law : Laws d) (h : Parts) (c : Command) (disk : D) → IsMapIn h.layout → IsFalse (d.pending disk) → StopsAndExitsLeave d disk disk (WritesPlacesOf c h)
nothing_written d law h c disk is quiet = keeps_start law (λ image. writes_nothing h c image is) disk quiet

-- ---- the front of a disc with an old map

pub front_long : {D : Type 0} (d : Ghosts D) (law : Laws d) (layout : Layout) (disk : D) → IsMapIn layout → d.sector_size disk ≡ sector_bytes layout → HoldsMap layout (d.sectors disk) → (image : List ℕ)
    → d.bytes disk ≡ Some image → HasFront layout image
front_long d law (Layout.New m) disk is size holds image told = tt
front_long d law (Layout.Old space) disk is size holds image told = elim is.units [
  | inl one ↦
      let two = holds.0 in
      let fits = sector_fits law disk 1 (omega (arith, two)) image told in
      let n : d.sector_size disk ≡ 256 = size ∙ ap (λ (u : ℕ). 256 * u) one in
      subst (λ (u : ℕ). 256 * map_units u ≤ length image) (sym one) (omega (arith, fits, n))
  | inr four ↦
      let two = holds.0 in
      let fits = sector_fits law disk 0 (omega (arith, two)) image told in
      let n : d.sector_size disk ≡ 1024 = size ∙ ap (λ (u : ℕ). 256 * u) four in
      subst (λ (u : ℕ). 256 * map_units u ≤ length image) (sym four) (omega (arith, fits, n))
]

-- ---- a change of which each stage was made

module _ {D : Type 0} (d : Ghosts D) (law : Laws d) (was : Holdings) (old new : D) (job : Job) (name bytes : List ℕ) (stands : Stands d was old) (is_map : IsMapIn (layout_of was.places))
    (laws : JobLaws stands.agree.0 (parts_of was) job name bytes) (p : Prepared) (prep : IsPreparedFor (parts_of was) job name p)
    (keeps : StopsAndExitsLeave d old new (ChangeLeavesOn (layout_of was.places) p.ready bytes)) where
  pub written : (c : Command) → IsJobFor c (parts_of was) job name bytes → StopsAndExitsLeave d old new (WritesPlacesOf c (parts_of was))
  written c j = keeps_weaker law keeps (λ first image left. laws.places c p first image j prep left)

  -- and of which the last one was made, too
  module _ (now : Holdings) (number : ℕ) (run : IsRun (parts_of was) (parts_of now) p number)
      (done : ForSome (d.bytes old) (λ first. ForSome (d.bytes new) (IsChangedOn (layout_of was.places) (layout_of now.places) p.ready bytes first))) where
    over : (c : Command) → IsJobFor c (parts_of was) job name bytes → (first image : List ℕ) → d.bytes old ≡ Some first → d.bytes new ≡ Some image → ChangesParts c (parts_of was) (parts_of now) first image
    over c j first image told_first told =
        laws.changes c p (parts_of now) number first image j prep run (done first told_first image told) (front_long d law (layout_of was.places) old is_map stands.size stands.map_room first told_first)

    pub has_changed : (c : Command) → IsJobFor c (parts_of was) job name bytes → HasChanged d c (parts_of was) (parts_of now) old new
    has_changed c j first told = let there = keeps.exit first told in (there.0, there.1, over c j first there.0 told there.1)

    disc : IsSameDisc (layout_of was.places) (layout_of now.places)
    disc = same_disc (layout_of was.places) (layout_of now.places) (d.sectors old) p.ready (laws.can_write p (d.sectors old) prep stands.room) run.given

    pub same_form : dir_form (layout_of now.places) ≡ dir_form (layout_of was.places)
    same_form = disc.form

    pub stands_now : (c : Command) → IsJobFor c (parts_of was) job name bytes → now.copies ≡ Equal → SameForm d old new → Stands d now new
    stands_now c j equal form =
        let both = laws.agrees p (parts_of now) number prep run in
        record {
          size = form.size_stays ∙ stands.size ∙ sym disc.bytes;
          room = subst (λ (n : ℕ). disc_sectors (layout_of now.places) ≤ n) (sym form.sectors_stay) (subst (λ (k : ℕ). k ≤ d.sectors old) (sym disc.sectors) stands.room);
          map_room = subst (HoldsMap (layout_of now.places)) (sym form.sectors_stay) (holds_map (layout_of was.places) (layout_of now.places) p.ready (d.sectors old) run.given stands.map_room both.1);
          version = tells_version (layout_of was.places) (layout_of now.places) p.ready is_map run.given stands.version;
          agree = (stands.agree.0, both.0);
          image = λ image told.
              (let first = keeps.told image told in
              let s = stands.image first.0 first.1 in
              let o = over c j first.0 image first.1 told s.0 s.1 s.2 s.3 in
              (s.0, o.0, o.1.opens.opens, o.2));
          copies = λ image told.
              (let first = keeps.told image told in
              copies_are (layout_of was.places) (layout_of now.places) p.ready now.copies bytes first.0 image equal run.given (done first.0 first.1 image told));
        }

-- ---- answers

module _ (kind : Kind) (h : Parts) (job : Job) (name bytes : List ℕ) (laws : JobLaws kind h job name bytes) (c : Command) (j : IsJobFor c h job name bytes) where
  -- a refusal of the stages is the command's
  pub refuses : (error : CommandError) → RefusesJob h job name error → AnswersShort {T = Unit {0}} c h (Err error)
  refuses (Refused r) is v sound held =
      refused_by (Unit {0}) (short v c) r
      (⊎_elim (λ full. laws.full c v j full.1 sound held ∙ ap (λ (x : Refusal). let o : Option Refusal = Some x in o) (sym full.0)) (λ want. laws.short_is c want.0 v j want.1 sound held ∙ want.2) is)
  refuses NoMemory is v sound held = no_memory (Unit {0}) (short v c)
  refuses DiskFault is v sound held = absurd is

  -- and if there is none, none is
  module _ (p : Prepared) (prep : IsPreparedFor h job name p) where
    pub accepts : AnswersShort {T = Unit {0}} c h (Ok tt)
    accepts v sound held = accepted_by (short v c) tt (laws.short_is c prep.wants v j prep.spaced.wants sound held ∙ prep.enough)

    pub faults : AnswersShort {T = Unit {0}} c h (Err DiskFault)
    faults v sound held = faulted_by (Unit {0}) (short v c) (laws.short_is c prep.wants v j prep.spaced.wants sound held ∙ prep.enough)
