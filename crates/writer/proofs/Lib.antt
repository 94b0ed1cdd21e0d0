pub mod Placed
pub mod Paired
pub mod PutLines
pub mod Fitting
pub mod Sized
pub mod FreshStart
pub mod OldForm
