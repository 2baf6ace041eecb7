-- The three demands proved, and the laws that rest on what an edit in must-fail/ turns.
pub mod Demands
pub mod Run
