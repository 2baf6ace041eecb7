-- The laws of the address rules that a wrong rule breaks: each module has those of the module of the same name in
-- specs/Rules.
pub mod Adjust
pub mod Earlier
pub mod First
pub mod Grow
pub mod Order
pub mod Parent
pub mod Scan
pub mod Sums
