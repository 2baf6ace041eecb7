-- The definitions that the contracts of `commands` cite, and their laws.
pub mod Text
