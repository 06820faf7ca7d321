-- Tests joined with constant ones.
use Rattle.std.proofs.Common.{◌≡◌, ◌&&◌, ◌||◌}
pub use Rattle.fc_changes.proofs.BasicLemmas.{or_false as or_none, and_false as and_none}
