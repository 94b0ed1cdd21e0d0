-- Definitions that no top theorem and no contract of a host rests on.
pub mod Stepping
pub mod Testing
pub mod Storing
pub mod Partly
