-- Definitions that no top theorem and no contract of a host rests on.
pub mod Put
pub mod Lines
