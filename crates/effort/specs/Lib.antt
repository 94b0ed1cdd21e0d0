pub mod Effort
