-- The laws of the call that a wrong outcome breaks.
pub mod Left
