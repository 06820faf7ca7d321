-- The laws of a disk in one record, over its meanings. In an answer it is `laws g.met.D.Disk`.
use Rattle.std.proofs.Common.{Some, ◌≡◌, ℕ, ◌+◌, ◌*◌, ◌/◌, ◌^◌, ◌<◌, ◌≤◌, List, length, IsTrue, IsFalse, ap, subst, refl, sym, ◌∙◌}
use seplogic.Ra.Ura.{Ura}
use mir.Syntax.{Dict}
use prog.Model.{Model}
use types.Logic.{Logic}
use contract.Running.{Running}
use denote.RattleType.{RattleType}
use Rattle.std.specs.Option.{ForSome}
use Rattle.fc_device.specs.Calls.{SameForm}
use Rattle.fc_device.specs.Sectors.{IsSectorSize}
use Rattle.fc_device.specs.declared.disk.Disk.{Ghosts}
use Rattle.fc_device.specs.contracts.disk.Disk.TheBound.{Met}
use Rattle.fc_device.proofs.SectorLemmas.{row_fits, whole_fits}

pub record Laws {D : Type 0} (d : Ghosts D) : Type 0 where
  pub sector_sizes : (s : D) → IsSectorSize (d.sector_size s)
  pub whole_sectors : (s : D) → d.sectors s ≡ d.image_length s / d.sector_size s
  pub length_fits : (s : D) → d.image_length s < 2 ^ 64
  pub faults_fit : (s : D) → d.faults s < 2 ^ 64
  pub told_length : (s : D) → ForSome (d.bytes s) (λ image. length image ≡ d.image_length s)
  pub earlier : (s : D) (t u : ℕ) (image : List ℕ) → t ≤ u → d.left_since s u image → d.left_since s t image
  pub leaves_what_is_read : (s : D) → IsTrue (d.tells_stops s) → ForSome (d.bytes s) (d.left_since s (d.moment s))
  pub settled : (s : D) → IsFalse (d.pending s) → ForSome (d.bytes s) (λ image. (other : List ℕ) → d.left_since s (d.moment s) other → other ≡ image)

-- what each disk has met
pub laws : {M : Type 1} {𝓤 : Ura M} {𝓛 : Logic 𝓤} {𝓜 : Model 𝓤 𝓛.H} {𝓡 : Running 𝓤 𝓛.H 𝓜} {S : RattleType} {d : Ghosts S.Denot} {methods : Dict} → Met 𝓛 𝓜 𝓡 𝓡.env S d methods → Laws d
laws met = record {
  sector_sizes = met.sector_sizes;
  whole_sectors = met.whole_sectors;
  length_fits = met.length_fits;
  faults_fit = met.faults_fit;
  told_length = met.told_length;
  earlier = met.earlier;
  leaves_what_is_read = met.leaves_what_is_read;
  settled = met.settled;
}

module _ {D : Type 0} {d : Ghosts D} (law : Laws d) where
  -- a sector of the disk lies in the image that it tells
  pub sector_fits : (s : D) (n : ℕ) → n < d.sectors s → (image : List ℕ) → d.bytes s ≡ Some image → n * d.sector_size s + d.sector_size s ≤ length image
  sector_fits s n lt image told =
      let whole : d.sectors s ≡ length image / d.sector_size s = law.whole_sectors s ∙ ap (λ (k : ℕ). k / d.sector_size s) (sym (law.told_length s image told)) in
      whole_fits n (d.sector_size s) (length image) (law.sector_sizes s) (subst (λ (k : ℕ). n < k) whole lt)

  -- and so does a row
  pub row_fits_in : (s : D) (n count : ℕ) → n + count ≤ d.sectors s → (image : List ℕ) → d.bytes s ≡ Some image → n * d.sector_size s + count * d.sector_size s ≤ length image
  row_fits_in s n count le image told =
      let whole : d.sectors s ≡ length image / d.sector_size s = law.whole_sectors s ∙ ap (λ (k : ℕ). k / d.sector_size s) (sym (law.told_length s image told)) in
      row_fits n count (d.sector_size s) (length image) (law.sector_sizes s) (subst (λ (k : ℕ). n + count ≤ k) whole le)

module _ {D : Type 0} (d : Ghosts D) where
  pub form_same : (s : D) → SameForm d s s
  form_same s = record { attached_stays = refl; tells_stays = refl; gives_stays = refl; asked_stays = refl; sectors_stay = refl; size_stays = refl; length_stays = refl }

  -- the form stays over two calls
  pub form_then : {old mid new : D} → SameForm d old mid → SameForm d mid new → SameForm d old new
  form_then first second = record {
    attached_stays = second.attached_stays ∙ first.attached_stays;
    tells_stays = second.tells_stays ∙ first.tells_stays;
    gives_stays = second.gives_stays ∙ first.gives_stays;
    asked_stays = second.asked_stays ∙ first.asked_stays;
    sectors_stay = second.sectors_stay ∙ first.sectors_stay;
    size_stays = second.size_stays ∙ first.size_stays;
    length_stays = second.length_stays ∙ first.length_stays;
  }
