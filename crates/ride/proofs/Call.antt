-- The law of insert that a wrong count breaks.
pub mod Replied
