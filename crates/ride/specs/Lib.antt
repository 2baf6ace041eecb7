-- Insert and search: the definitions that the contracts of `ride` cite, and their laws.
pub mod Call
