-- The definitions that the contracts of `turn` and `ridefile` cite, and their laws.
pub mod Runs
pub mod Session
