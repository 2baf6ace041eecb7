-- The definitions of bytes that the contracts of `layout` cite, and their laws.
pub mod Bytes
pub mod Replies
