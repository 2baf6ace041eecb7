-- Load control: the definitions that the contracts of `load` cite, and their laws.
pub mod Load
