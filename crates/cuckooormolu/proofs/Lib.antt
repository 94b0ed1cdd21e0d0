pub mod Told
pub mod ToldBanks
pub mod ToldPlans
