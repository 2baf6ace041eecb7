-- The list of the buckets that were sent a message, and which of two is visited first.
pub mod Earlier
pub mod Queue
