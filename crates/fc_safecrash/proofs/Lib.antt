pub mod BusyLemmas
pub mod CrashLemmas
