pub mod Telling
pub mod Demand
