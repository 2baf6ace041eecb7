-- The calls for C: what a view is as a place and a length, and load control's outcome by numbers.
pub mod Load
pub mod View
