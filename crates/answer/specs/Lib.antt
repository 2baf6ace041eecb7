-- The answer block of insert and search: the definitions that the contracts of `answer` cite, and their laws.
pub mod Answer
