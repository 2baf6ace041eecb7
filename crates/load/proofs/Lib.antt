-- The laws that rest on what an edit in must-fail/ turns.
pub mod Load
