-- The file's header and regions: the definitions that the contracts of `file` cite, and their laws.
pub mod File
