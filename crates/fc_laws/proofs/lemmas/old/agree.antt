pub mod FormLemmas
pub mod BeforeLemmas
pub mod RoomLemmas
pub mod DirectoryLemmas
pub mod GivenLemmas
