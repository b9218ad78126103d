pub mod IntervalLaws
pub mod ContractLaws
