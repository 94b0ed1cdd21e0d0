pub mod Game
pub mod Plans
pub mod Refused
pub mod private
