pub mod Spreading
pub mod Listed
pub mod ByBytes
pub mod PairRows
pub mod Placing
