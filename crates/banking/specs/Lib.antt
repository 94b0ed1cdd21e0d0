pub mod Banks
pub mod Banking
pub mod BankList
pub mod BankRuns
pub mod BankScratch
pub mod BankRefused
pub mod private
