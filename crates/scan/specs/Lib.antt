-- The scan of one lift: the definitions that the contracts of `scan` cite, and their laws.
pub mod Scan
