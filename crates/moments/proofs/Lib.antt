pub mod Hushed
pub mod Split
