-- One client table: the definitions that the contracts of `client` cite, and their laws.
pub mod Table
