pub mod Plays
pub mod Rulings
pub mod Reasons
pub mod Refused
pub mod Rivals
pub mod PlanCases
pub mod RuledAlike
pub mod Demand
