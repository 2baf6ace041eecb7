-- The definitions that the contracts of `lines` cite, and their laws: bytes by name, and answers as lines.
pub mod Bytes
pub mod Lines
pub mod Text
