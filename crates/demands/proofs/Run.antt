-- The laws of runs that a wrong definition breaks: each module has those of the module of the same name in specs/Run.
pub mod Clients
pub mod Fresh
pub mod Shut
