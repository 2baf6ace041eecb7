-- One bucket's region: the definitions that the contracts of `bucket` cite, and their laws.
pub mod Region
