-- A cached disk means what its inner disk means.
use Rattle.std.specs.Prelude.{ℕ, Bool, Option, List}
use Rattle.fc_device.specs.Asked.{Asked}
use Rattle.fc_device.specs.declared.disk.Disk.{Ghosts}
use Rattle.fc_cache.specs.declared.cached.CachedDisk.{CachedDisk}

module _ {D : Type 0} {d : Ghosts D} where
  abbrev pub attached_of : CachedDisk D d → Bool
  attached_of disk = d.attached disk.inner

  abbrev pub gives_of : CachedDisk D d → Option (List ℕ → Option ℕ → Bool)
  gives_of disk = d.gives disk.inner

  abbrev pub asked_of : CachedDisk D d → List Asked
  asked_of disk = d.asked disk.inner

  abbrev pub bytes_of : CachedDisk D d → Option (List ℕ)
  bytes_of disk = d.bytes disk.inner

  abbrev pub left_of : CachedDisk D d → ℕ → List ℕ → Type 0
  left_of disk = d.left_since disk.inner

  abbrev pub tells_stops_of : CachedDisk D d → Bool
  tells_stops_of disk = d.tells_stops disk.inner

  abbrev pub moment_of : CachedDisk D d → ℕ
  moment_of disk = d.moment disk.inner

  abbrev pub pending_of : CachedDisk D d → Bool
  pending_of disk = d.pending disk.inner

  abbrev pub sectors_of : CachedDisk D d → ℕ
  sectors_of disk = d.sectors disk.inner

  abbrev pub size_of : CachedDisk D d → ℕ
  size_of disk = d.sector_size disk.inner

  abbrev pub length_of : CachedDisk D d → ℕ
  length_of disk = d.image_length disk.inner

  abbrev pub reads_of : CachedDisk D d → ℕ
  reads_of disk = d.read_calls disk.inner

  abbrev pub faults_of : CachedDisk D d → ℕ
  faults_of disk = d.faults disk.inner
