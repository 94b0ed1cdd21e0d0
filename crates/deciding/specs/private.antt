-- Definitions that no top theorem and no contract of a host rests on.
pub mod Rows
pub mod Memo
pub mod Moving
pub mod Starting
