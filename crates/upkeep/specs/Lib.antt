-- What a check's result stands for.
pub mod Check
