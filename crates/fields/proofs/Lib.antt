pub mod Split
pub mod FirstLine
pub mod Scan
pub mod Numeral
pub mod Digits
pub mod Output
