-- What the library promises over any run of its calls.
pub mod Demands
pub mod Run
