pub mod ContractLaws
