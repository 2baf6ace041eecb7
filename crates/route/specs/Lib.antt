-- What insert, search and scan begin with: the definitions that the contracts of `route` cite, and their laws.
pub mod Way
