-- What a split's result stands for.
pub mod Split
