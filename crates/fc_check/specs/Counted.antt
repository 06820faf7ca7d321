-- A report as the counts that it tells.
use Rattle.fc_image.specs.Report.{Counts}
use Rattle.fc_check.specs.declared.counts.Report.{Report}

abbrev pub counts_in : Report → Counts
counts_in r = record { files = r.files; dirs = r.dirs; lost = r.lost; holes = r.holes; free = r.free; unsorted = r.unsorted; parents = r.parents }
