pub mod Memory
pub mod Read
pub mod OldForm
pub mod private
