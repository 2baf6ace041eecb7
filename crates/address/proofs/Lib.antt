-- The laws that rest on rules which an edit in must-fail/ turns.
pub mod Rules
