-- The definitions that the contracts of `address` cite, and the laws from which other crates work.
pub mod Compare
pub mod Limits
pub mod Load
pub mod Room
pub mod Rules
